-- Words looked at one after the other, and what the measured parts come to. Assumes nothing.
use mathlib.Core.Path.{◌≡◌, sym, subst, ◌∙◌}
use mathlib.Core.List.{List}
use Prim.Native.Nat.{ℕ, ◌+◌, ◌-◌, ◌≤◌, max}
use native.Mathlib.Omega.{arith}
use lib.Dec.{ltb}
use lib.ListN.{length, get_or, take, drop}
use lib.Seq.{get_or-take, get_or-drop, length-take-le}
use Rattle.std.proofs.Common.{length-drop}
use borrow.Author.Tests.{ltb-true, ltb-false}
use Rattle.columns.proofs.Tests.{by_test}
use Rattle.machine.specs.Encode.{context_place, cpu_place}
use Rattle.growth.specs.declared.Bounds.{Bounds}
use Rattle.growth.specs.Growth.{AtMost}
use Rattle.measure.specs.Measured.{NoneOver, Greatest, RecordWithin, RecordMeasured, TimesMeasured, VirtualTimesMeasured, BlockWithin, RecordsMeasured, BlocksMeasured, Measured}

pub greatest_first : (m : List ℕ) (from most : ℕ) → Greatest m from from most most
greatest_first m from most = record { more = omega arith; all = record { each = λ i a b. absurd (omega arith) } }

pub greatest_next : (m : List ℕ) (from i most top r : ℕ) → r ≡ max top (get_or m i 0) → Greatest m from i most top → Greatest m from (i + 1) most r
greatest_next m from i most top r e o =
    record {
      more = omega (arith, o.more);
      all = record {
        each = λ j a b. by_test (ltb j i) (λ t. omega (arith, o.all.each j a (ltb-true j i t)))
            (λ t. let z : j ≡ i = (let y : i ≤ j = ltb-false j i t in omega arith) in subst (λ (x : ℕ). get_or m x 0 ≤ r) (sym z) (omega arith));
      };
    }

pub greatest_last : (m : List ℕ) (from i to most top : ℕ) → to ≤ i → Greatest m from i most top → Greatest m from to most top
greatest_last m from i to most top h o = record { more = o.more; all = record { each = λ j a b. o.all.each j a (omega arith) } }

-- of a slice of m
pub sliced : (m : List ℕ) (from to most r : ℕ) → from ≤ to → to ≤ length m → Greatest (take (to - from) (drop from m)) 0 (length (take (to - from) (drop from m))) most r → Greatest m from to most r
sliced m from to most r f t o =
    let l : length (take (to - from) (drop from m)) ≡ to - from = length-take-le (to - from) (drop from m) (omega (arith, length-drop from m)) in
    record {
      more = o.more;
      all = record {
        each = λ i a b.
            let e : get_or (take (to - from) (drop from m)) (i - from) 0 ≡ get_or m (from + (i - from)) 0 = get_or-take (to - from) (drop from m) (i - from) 0 (omega arith) ∙ get_or-drop from m (i - from) 0 in
            let z : from + (i - from) ≡ i = omega arith in
            subst (λ (x : ℕ). get_or m x 0 ≤ r) z (subst (λ (x : ℕ). x ≤ r) e (o.all.each (i - from) (omega arith) (omega (arith, l))));
      };
    }

-- a larger bound
over : {m : List ℕ} {from to top : ℕ} (r : ℕ) → top ≤ r → NoneOver m from to top → NoneOver m from to r
over r h o = record { each = λ i a b. omega (arith, o.each i a b) }

pub record_within : (m : List ℕ) (at clock : ℕ) (b r : Bounds) → Greatest m (at + 6) (at + 10) b.times clock → Greatest m (at + 13) (at + 14) clock r.times
    → Greatest m (at + 17) (at + 23) b.virtual_times r.virtual_times → RecordMeasured m at b r
record_within m at clock b r x y z =
    record {
      more = record { times = omega (arith, x.more, y.more); virtual_times = z.more };
      within = record { clock = over r.times y.more x.all; wake = y.all; virtual_times = z.all };
    }

pub times_within : (m : List ℕ) (at most clock counted r : ℕ) → Greatest m (at + 4) (at + 6) most clock → Greatest m (at + 13) (at + 18) clock counted → Greatest m (at + 409) (at + 473) counted r
    → TimesMeasured m at most r
times_within m at most clock counted r x y z =
    record {
      more = omega (arith, x.more, y.more, z.more);
      within = record { clock = over r (omega (arith, y.more, z.more)) x.all; counted = over r z.more y.all; wake = z.all };
    }

pub virtual_within : (m : List ℕ) (at most p v vd r : ℕ) → Greatest m (at + 10) (at + 11) most p → Greatest m (at + 19) (at + 21) p v → Greatest m (at + 25) (at + 89) v vd
    → Greatest m (at + 217) (at + 281) vd r → VirtualTimesMeasured m at most r
virtual_within m at most p v vd r x y z u =
    record {
      more = omega (arith, x.more, y.more, z.more, u.more);
      within = record {
        published = over r (omega (arith, y.more, z.more, u.more)) x.all;
        v = over r (omega (arith, z.more, u.more)) y.all;
        vd = over r u.more z.all;
        vtime = u.all;
      };
    }

-- what was measured stays within larger bounds
record_more : {m : List ℕ} {at : ℕ} (b r : Bounds) → AtMost b r → RecordWithin m at b → RecordWithin m at r
record_more b r h o = record { clock = over r.times h.times o.clock; wake = over r.times h.times o.wake; virtual_times = over r.virtual_times h.virtual_times o.virtual_times }

block_more : {m : List ℕ} {at : ℕ} (b r : Bounds) → AtMost b r → BlockWithin m at b → BlockWithin m at r
block_more b r h o =
    let t = o.times in
    let v = o.virtual_times in
    record {
      times = record { clock = over r.times h.times t.clock; counted = over r.times h.times t.counted; wake = over r.times h.times t.wake };
      virtual_times = record {
        published = over r.virtual_times h.virtual_times v.published;
        v = over r.virtual_times h.virtual_times v.v;
        vd = over r.virtual_times h.virtual_times v.vd;
        vtime = over r.virtual_times h.virtual_times v.vtime;
      };
    }

same : (b : Bounds) → AtMost b b
same b = record { times = omega arith; virtual_times = omega arith }

at_most_then : {b d r : Bounds} → AtMost b d → AtMost d r → AtMost b r
at_most_then h g = record { times = omega (arith, h.times, g.times); virtual_times = omega (arith, h.virtual_times, g.virtual_times) }

-- the loop over the records
pub no_records : (m : List ℕ) (b : Bounds) → RecordsMeasured m 0 b
no_records m b = record { within = λ x h. absurd (omega arith) }

pub next_record : (m : List ℕ) (x at : ℕ) (b r : Bounds) → at ≡ context_place x → RecordsMeasured m x b → RecordMeasured m at b r → RecordsMeasured m (x + 1) r
next_record m x at b r e o q =
    record {
      within = λ y h. by_test (ltb y x) (λ t. record_more b r q.more (o.within y (ltb-true y x t)))
          (λ t. let z : y ≡ x = (let i : x ≤ y = ltb-false y x t in omega arith) in rw (z, ← e) q.within);
    }

-- and over the blocks
pub no_blocks : (m : List ℕ) (n : ℕ) (b : Bounds) → BlocksMeasured m 0 n b b
no_blocks m n b = record { more = same b; within = λ k h. absurd (omega arith) }

pub next_block : (m : List ℕ) (k n at : ℕ) (most b r : Bounds) → at ≡ cpu_place n k → BlocksMeasured m k n most b → TimesMeasured m at b.times r.times
    → VirtualTimesMeasured m at b.virtual_times r.virtual_times → BlocksMeasured m (k + 1) n most r
next_block m k n at most b r e o t v =
    let h : AtMost b r = record { times = t.more; virtual_times = v.more } in
    record {
      more = at_most_then o.more h;
      within = λ j i. by_test (ltb j k) (λ y. block_more b r h (o.within j (ltb-true j k y)))
          (λ y. let z : j ≡ k = (let l : k ≤ j = ltb-false j k y in omega arith) in rw (z, ← e) (record { times = t.within; virtual_times = v.within }));
    }

pub all_measured : (m : List ℕ) (c n : ℕ) (b r : Bounds) → RecordsMeasured m n b → BlocksMeasured m c n b r → Measured m c n r
all_measured m c n b r o q = record { records = λ x h. record_more b r q.more (o.within x h); blocks = q.within }

-- the ends of the loops
pub last_record : (m : List ℕ) (x n : ℕ) (b : Bounds) → n ≤ x → RecordsMeasured m x b → RecordsMeasured m n b
last_record m x n b h o = record { within = λ y l. o.within y (omega arith) }

pub last_block : (m : List ℕ) (k c n : ℕ) (b r : Bounds) → c ≤ k → BlocksMeasured m k n b r → BlocksMeasured m c n b r
last_block m k c n b r h o = record { more = o.more; within = λ j l. o.within j (omega arith) }
