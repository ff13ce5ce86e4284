-- Names put on wake-up lists of the image. Assumes nothing.
use Rattle.std.specs.Prelude.{None, Option, Some, IfSome, is_some}
use mathlib.Core.Path.{◌≡◌, refl, sym, ap, ◌∙◌}
use mathlib.Core.Bool.{Bool}
use Prim.Native.Nat.{ℕ, ◌+◌, ◌-◌, ◌<◌, ◌≤◌}
use native.Mathlib.Omega.{arith}
use mathlib.Core.List.{List, [], ◌∷◌, ◌++◌}
use lib.Dec.{ltb, eqb}
use lib.ListN.{length, get_or, take, drop, length-append, get_or-append}
use lib.Seq.{get_or-append-add}
use borrow.Author.Tests.{le-leb, lt-leb, ltb-true, ltb-false, eq-eqb, ne_eqb}
use Rattle.columns.specs.Common.{mark}
use Rattle.columns.proofs.Tests.{by_test}
use Rattle.context.specs.declared.Context.{Context}
use Rattle.percpu.specs.Cpu.{Cpu}
use Rattle.wakeup_lists.specs.declared.WakeupList.{WakeupList}
use Rattle.wakeup_lists.specs.declared.WakeupList.TheVariants.{Local, Ipi}
use Rattle.wakeup_lists.specs.Lists.{count_place, names, cpu_push}
use Rattle.wakeup_lists.proofs.Pushed.{local_listed, ipi_listed}
use Rattle.machine.specs.Machine.{Machine, cpu_at, set_context}
use Rattle.machine.specs.Encode.{encode, cpu_place}
use Rattle.machine.specs.Shape.{CpuFits, Fits, Image, Went}
use Rattle.machine.specs.LookUp.{get_percpu_block}
use borrow.Rule.Slice.PartMut.{put_mid}
use Rattle.percpu.specs.Layout.{cpu_words}
use Rattle.machine.proofs.LookUps.{block_word, present}
use Rattle.machine.proofs.Places.{lent_is, back_is}
use Rattle.machine.proofs.Steps.{stepped, fits_cpu}
use Rattle.answer.specs.declared.Answer.{Answer}
use Rattle.context_ops.specs.Wakeup.{other_cpu, push_local, push_ipi, push_on, list_for, wakeup_on}
use Rattle.context_ops.specs.Reply.{reply, replied}
use Rattle.percpu.specs.Places.{block_size}

-- names stay names with one more
pub names_more : (n : ℕ) (l : List ℕ) (x : ℕ) → x < n → ((i : ℕ) → i < length l → get_or l i 0 < n) → (i : ℕ) → i < length (l ++ (x ∷ [])) → get_or (l ++ (x ∷ [])) i 0 < n
names_more n l x h f i g =
    by_test (ltb i (length l)) (λ t. let b : i < length l = ltb-true i (length l) t in rw (get_or-append l (x ∷ []) 0 i b) (f i b))
    (λ t. last (let b : length l ≤ i = ltb-false i (length l) t in let s : i < length l + 1 = rw (length-append) at g in omega arith))
  where
    last : i ≡ length l + 0 → get_or (l ++ (x ∷ [])) i 0 < n
    last e = rw (e, get_or-append-add l (x ∷ []) 0 0) h

pub length_more : (l : List ℕ) (x : ℕ) → length l < 64 → length (l ++ (x ∷ [])) ≤ 64
length_more l x h = rw (length-append) (omega arith)

pub fits_pushed : (list : WakeupList) (n x : ℕ) (p : Cpu) → x < n → length (names list p) < 64 → CpuFits n p → CpuFits n (cpu_push list x p)
fits_pushed Local n x p h g o =
    record {
      current = o.current;
      sched = o.sched;
      idle = o.idle;
      queue = o.queue;
      timers = o.timers;
      local = length_more p.local_wakeup_list x g;
      ipi = o.ipi;
      entry = o.entry;
      timer = o.timer;
      local_name = names_more n p.local_wakeup_list x h o.local_name;
      ipi_name = o.ipi_name;
      keys_rise = o.keys_rise;
      timers_rise = o.timers_rise;
      remainder = o.remainder;
    }
fits_pushed Ipi n x p h g o =
    record {
      current = o.current;
      sched = o.sched;
      idle = o.idle;
      queue = o.queue;
      timers = o.timers;
      local = o.local;
      ipi = length_more p.ipi_context_wakeup_list x g;
      entry = o.entry;
      timer = o.timer;
      local_name = o.local_name;
      ipi_name = names_more n p.ipi_context_wakeup_list x h o.ipi_name;
      keys_rise = o.keys_rise;
      timers_rise = o.timers_rise;
      remainder = o.remainder;
    }

pub count_below : (list : WakeupList) → count_place list < block_size
count_below Local = omega arith
count_below Ipi = omega arith

-- the CPU whose list is chosen
pub list_below : {c : ℕ} (k : ℕ) (other : Option ℕ) → k < c → IfSome other (λ t. t < c) → (list_for k other).0 < c
list_below k None h g = h
list_below k (Some t) h g = g

-- the count of the chosen list, as the code read it
pub list_count : (n : ℕ) (m : List ℕ) (k : ℕ) (other : Option ℕ) {w : ℕ × WakeupList} {at count : ℕ} → w ≡ list_for k other → at ≡ cpu_place n w.0 → count ≡ count_place w.1
    → get_or m (at + count) 0 ≡ get_or m (cpu_place n (list_for k other).0 + count_place (list_for k other).1) 0
list_count n m k other e p q = rw (p, q) (ap (λ (v : ℕ × WakeupList). get_or m (cpu_place n v.0 + count_place v.1) 0) e)

-- the counts in the image
module _ {c n : ℕ} (m : List ℕ) (M : Machine) (e : m ≡ encode M) (o : Fits c n M) where
  pub counted : (list : WakeupList) (k : ℕ) → k < c → get_or m (cpu_place n k + count_place list) 0 ≡ length (names list (cpu_at M k))
  counted Local k h = block_word m k M e o 23 h (omega arith) ∙ (local_listed (cpu_at M k)).count_is
  counted Ipi k h = block_word m k M e o 24 h (omega arith) ∙ (ipi_listed (cpu_at M k)).count_is

  -- a wake-up that finds no room, and one that is made
  module _ (k x r : ℕ) (q : Context) where
    pub no_room : {a : Answer} (other : Option ℕ) → (list_for k other).0 < c → 64 ≤ get_or m (cpu_place n (list_for k other).0 + count_place (list_for k other).1) 0
        → a ≡ record { refusal = 9; result = 0; interrupt = 0; rule = 0 } → reply a m ≡ replied m (wakeup_on k x r (set_context x q M) other)
    unfolding replied wakeup_on cpu_at
    no_room None h g z = rw (le-leb 64 (length (cpu_at M k).local_wakeup_list) (rw (counted Local k h) at g)) (ap (λ (b : Answer). reply b m) z)
    no_room (Some t) h g z = rw (le-leb 64 (length (cpu_at M t).ipi_context_wakeup_list) (rw (counted Ipi t h) at g)) (ap (λ (b : Answer). reply b m) z)

    pub woken : {m' : List ℕ} {w : ℕ × WakeupList} {b : Bool} (other : Option ℕ) → w ≡ list_for k other → b ≡ is_some other → (list_for k other).0 < c
        → get_or m (cpu_place n (list_for k other).0 + count_place (list_for k other).1) 0 < 64 → m' ≡ encode (set_context x q (push_on w.1 w.0 x M))
        → reply (record { refusal = 0; result = r; interrupt = mark b; rule = 0 }) m' ≡ replied m (wakeup_on k x r (set_context x q M) other)
    unfolding replied wakeup_on cpu_at push_local push_ipi
    woken None v f h g z =
        let y = rw v at z
        in rw (lt-leb 64 (length (cpu_at M k).local_wakeup_list) (rw (counted Local k h) at g), f) (λ i. record { answer = record { refusal = 0; result = r; interrupt = 0; rule = 0 }; image = y i })
    woken (Some t) v f h g z =
        let y = rw v at z
        in rw (lt-leb 64 (length (cpu_at M t).ipi_context_wakeup_list) (rw (counted Ipi t h) at g), f) (λ i. record { answer = record { refusal = 0; result = r; interrupt = 1; rule = 0 }; image = y i })

-- the block of CPU k lent, and a name pushed on one of its lists
module _ {c n : ℕ} {m : List ℕ} (i : Image c n m) (k x name : ℕ) {at : ℕ} (p : at ≡ cpu_place n k) (l : List ℕ) (h : k < c) (b : x < n) (q : name ≡ x) where
  abbrev lent : List ℕ
  lent = take (at + block_size - at) (drop at m)

  abbrev back : List ℕ
  back = put_mid at (at + block_size - at) m l

  pub pushed : (list : WakeupList) → get_or m (cpu_place n k + count_place list) 0 < 64 → ((p : Cpu) → lent ≡ cpu_words p → l ≡ cpu_words (cpu_push list name p)) → Went c n m back (push_on list k x)
  unfolding push_local push_ipi
  pushed Local g f =
      stepped i
      (λ M e o.
      let r : length (cpu_at M k).local_wakeup_list < 64 = rw (counted m M e o Local k h) at g
      in (back_is m k p h M e o _ l (rw q at (f (cpu_at M k) (lent_is m k p h M e o))), fits_cpu M k _ o (fits_pushed Local n x (cpu_at M k) b r (o.cpu k h)), refl))
  pushed Ipi g f =
      stepped i
      (λ M e o.
      let r : length (cpu_at M k).ipi_context_wakeup_list < 64 = rw (counted m M e o Ipi k h) at g
      in (back_is m k p h M e o _ l (rw q at (f (cpu_at M k) (lent_is m k p h M e o))), fits_cpu M k _ o (fits_pushed Ipi n x (cpu_at M k) b r (o.cpu k h)), refl))

-- the other CPU, as the code finds it; i is its number
module _ (k w : ℕ) (M : Machine) where
  pub no_cpu_word : w ≡ 0 → None ≡ other_cpu k w M
  unfolding other_cpu
  no_cpu_word e = rw (eq-eqb w 0 e)

  pub this_cpu : (i : ℕ) → (w ≡ 0 → ⊥) → i ≡ w - 1 → i ≡ k → None ≡ other_cpu k w M
  unfolding other_cpu
  this_cpu i z e q = rw (ne_eqb w 0 z, eq-eqb (w - 1) k (sym e ∙ q))

  pub another_cpu : (i : ℕ) (p : Option ℕ) → (w ≡ 0 → ⊥) → i ≡ w - 1 → (i ≡ k → ⊥) → p ≡ get_percpu_block M (w - 1) → p ≡ other_cpu k w M
  unfolding other_cpu
  another_cpu i p z e q g = rw (ne_eqb w 0 z, ne_eqb (w - 1) k (λ y. q (e ∙ y))) g

-- it is below the sizes
other_below_by : {c n : ℕ} {m : List ℕ} (i : Image c n m) (k w t : ℕ) → Some t ≡ other_cpu k w i.M → t < c
unfolding other_cpu
other_below_by {c} i k w t e =
    by_test (eqb w 0) (λ f. never (rw f at e)) (λ f. by_test (eqb (w - 1) k) (λ g. never (rw (f, g) at e)) (λ g. below (rw (f, g) at e)))
  where
    never : Some t ≡ None → t < c
    never z = let y : ◌≡◌ {A = ℕ} 0 1 = cc in absurd (omega arith)

    below : Some t ≡ get_percpu_block i.M (w - 1) → t < c
    below z = let p = present i.M (w - 1) t z in omega (arith, p.is, p.below, i.fits.cpus)

pub other_below : {c n : ℕ} {m : List ℕ} (i : Image c n m) (k w : ℕ) (p : Option ℕ) → ((M : Machine) → m ≡ encode M → Fits c n M → p ≡ other_cpu k w M) → IfSome p (λ t. t < c)
other_below i k w None f = tt
other_below i k w (Some t) f = other_below_by i k w t (f i.M i.eq i.fits)
