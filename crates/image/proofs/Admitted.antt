-- An image that is not refused is the image of the machine found in it. Assumes nothing.
use Rattle.std.specs.Prelude.{if◌then◌else◌}
use mathlib.Core.Path.{◌≡◌, refl, sym, ap, ◌∙◌, subst}
use mathlib.Core.Bool.{Bool, true, false, not, ◌&&◌}
use Prim.Native.Nat.{ℕ, zero, suc, ◌+◌, ◌-◌, ◌*◌, ◌<◌, ◌≤◌}
use native.Mathlib.Omega.{arith}
use mathlib.Core.List.{List, []}
use lib.Dec.{ltb, leb, eqb}
use lib.ListN.{length, get_or}
use borrow.Author.Tests.{eq-eqb, ne_eqb, leb-true, ltb-true, ltb-false, eqb-true, not-false}
use Rattle.columns.specs.Common.{every, tabulate}
use Rattle.columns.specs.Blocks.{part, length_part}
use native.Mathlib.Numerals.{add-one}
use Rattle.entries.specs.Order.{before, sooner}
use Rattle.percpu.specs.Layout.{entry_at, timer_at}
use Rattle.columns.proofs.Tests.{by_test, every_at, and_both, past}
use Rattle.columns.proofs.Tabulate.{length_tabulate, get_d_tabulate}
use Rattle.context.specs.Words.{context_of, record_size}
use Rattle.percpu.specs.Layout.{cpu_of}
use Rattle.machine.specs.Machine.{Machine, context_at, cpu_at, no_context, no_cpu}
use Rattle.machine.specs.Encode.{encode, decode, context_place, cpu_place}
use Rattle.machine.specs.Shape.{ContextFits, CpuFits, Fits, Image}
use Rattle.machine.proofs.Encoded.{WholeImage, encode_decode}
use Rattle.image_ranges.specs.Ranges.{context_in_range, block_in_range, contexts_in_range, blocks_in_range, blocks_in_range_to, contexts_in_range_to}
use Rattle.image_structure.specs.Structure.{structure, block_structure, ids_differ, names_live, entry_ids, keys_rise, timers_rise, timers_differ}
use Rattle.image.specs.Refusal.{size_c, size_n, in_bounds, ranges, sized_refusal, image_refusal, ranges_to}
use Rattle.image_ranges.proofs.InRange.{whole_context, context_fits, Rising, BlockInRange, in_range, whole_block, cpu_fits}
use Rattle.percpu.specs.Places.{block_size}
use Rattle.numbers.specs.Limits.{max_number}

pub bounded : (size greatest : ℕ) → in_bounds size greatest ≡ true → (1 ≤ size) × (size ≤ greatest)
unfolding in_bounds
bounded size greatest e =
    let p = and_both (ltb 0 size) (leb size greatest) e
    in let q : 0 < size = ltb-true 0 size p.0
    in (omega arith, leb-true size greatest p.1)

-- what the ranges say
pub record InRanges (time : ℕ) (m : List ℕ) : Type 0 where
  pub time_most : time ≤ max_number
  pub contexts : contexts_in_range (size_c m) (size_n m) m ≡ true
  pub blocks : blocks_in_range (size_c m) (size_n m) m ≡ true

pub in_ranges : (time : ℕ) (m : List ℕ) → ranges time m ≡ true → InRanges time m
unfolding ranges ranges_to
in_ranges time m e =
    let p = and_both (leb time max_number) _ e
    in let q = and_both (contexts_in_range (size_c m) (size_n m) m) (blocks_in_range (size_c m) (size_n m) m) p.1
    in record { time_most = leb-true time max_number p.0; contexts = q.0; blocks = q.1 }

-- what no refusal says
pub record Passed (time : ℕ) (m : List ℕ) : Type 0 where
  pub cpus : (1 ≤ size_c m) × (size_c m ≤ 4)
  pub names : (1 ≤ size_n m) × (size_n m ≤ 64)
  pub size : length m ≡ cpu_place (size_n m) (size_c m)
  pub words : InRanges time m
  pub structured : structure (size_c m) (size_n m) m ≡ true

-- the rest of the check, of an image whose sizes are in their bounds; c and n are the sizes as the code has them
module _ (time : ℕ) (m : List ℕ) (c n : ℕ) (hc : c ≡ size_c m) (hn : n ≡ size_n m) where
  fits : length m ≡ cpu_place n c → eqb (length m) (cpu_place (size_n m) (size_c m)) ≡ true
  fits e = eq-eqb (length m) (cpu_place (size_n m) (size_c m)) (rw (← hc, ← hn) e)

  pub wrong_length : (length m ≡ cpu_place n c → ⊥) → 2 ≡ sized_refusal time m
  unfolding sized_refusal
  wrong_length e = rw (ne_eqb (length m) (cpu_place (size_n m) (size_c m)) (λ z. e (rw (hc, hn) z)))

  pub out_of_range : length m ≡ cpu_place n c → ranges time m ≡ false → 3 ≡ sized_refusal time m
  unfolding sized_refusal
  out_of_range e r = rw (fits e, r)

  pub blocks_in : ranges time m ≡ true → blocks_in_range c n m ≡ true
  blocks_in r = rw (hc, hn) (in_ranges time m r).blocks

  pub broken : length m ≡ cpu_place n c → ranges time m ≡ true → structure c n m ≡ false → 4 ≡ sized_refusal time m
  unfolding sized_refusal
  broken e r t = rw (fits e, r, rw (hc, hn) at t)

  pub not_refused : length m ≡ cpu_place n c → ranges time m ≡ true → structure c n m ≡ true → 0 ≡ sized_refusal time m
  unfolding sized_refusal
  not_refused e r t = rw (fits e, r, rw (hc, hn) at t)

pub record PassedSized (time : ℕ) (m : List ℕ) : Type 0 where
  pub size : length m ≡ cpu_place (size_n m) (size_c m)
  pub words : InRanges time m
  pub structured : structure (size_c m) (size_n m) m ≡ true

passed_sized : (time : ℕ) (m : List ℕ) → sized_refusal time m ≡ 0 → PassedSized time m
unfolding sized_refusal
passed_sized time m e =
    let d = past (not (eqb (length m) (cpu_place (size_n m) (size_c m)))) 2 _ (λ z. omega arith) e
    in let f = past (not (ranges time m)) 3 _ (λ z. omega arith) d.1
    in let g = past (not (structure (size_c m) (size_n m) m)) 4 0 (λ z. omega arith) f.1
    in record {
      size = eqb-true (length m) (cpu_place (size_n m) (size_c m)) (not-false _ d.0);
      words = in_ranges time m (not-false _ f.0);
      structured = not-false _ g.0;
    }

pub passed : (time : ℕ) (m : List ℕ) → image_refusal time m ≡ 0 → Passed time m
unfolding image_refusal
passed time m e =
    let a = past (ltb (length m) 2) 1 _ (λ z. omega arith) e
    in let b = past (not (in_bounds (size_c m) 4)) 1 _ (λ z. omega arith) a.1
    in let c = past (not (in_bounds (size_n m) 64)) 1 (sized_refusal time m) (λ z. omega arith) b.1
    in let p = passed_sized time m c.1
    in record {
      cpus = bounded (size_c m) 4 (not-false _ b.0);
      names = bounded (size_n m) 64 (not-false _ c.0);
      size = p.size;
      words = p.words;
      structured = p.structured;
    }

-- the structure of a present block
pub record BlockStructure (m b : List ℕ) : Type 0 where
  pub names : names_live m b ≡ true
  pub ids : entry_ids m b ≡ true
  pub keys : keys_rise b ≡ true
  pub timers : timers_rise b ≡ true
  pub alone : timers_differ b ≡ true

block_structured : (m b : List ℕ) → eqb (get_or b 0 0) 0 ≡ false → block_structure m b ≡ true → BlockStructure m b
unfolding block_structure
block_structured m b t e =
    let p = and_both (names_live m b) (entry_ids m b && (keys_rise b && (timers_rise b && timers_differ b))) (rw t at e)
    in let q = and_both (entry_ids m b) (keys_rise b && (timers_rise b && timers_differ b)) p.1
    in let r = and_both (keys_rise b) (timers_rise b && timers_differ b) q.1
    in let u = and_both (timers_rise b) (timers_differ b) r.1
    in record { names = p.0; ids = q.0; keys = r.0; timers = u.0; alone = u.1 }

rising : {m : List ℕ} (b : List ℕ) → BlockStructure m b → Rising b
unfolding keys_rise timers_rise
rising b s =
    record {
      keys = λ i h. rw (add-one i) at (every_at (λ (i : ℕ). before (entry_at b i).key (entry_at b (i + 1)).key) (get_or b 21 0 - 1) i s.keys (omega arith));
      timers = λ i h. rw (add-one i) at (every_at (λ (i : ℕ). sooner (timer_at b i) (timer_at b (i + 1))) (get_or b 22 0 - 1) i s.timers (omega arith));
    }

module _ {time : ℕ} (m : List ℕ) (p : Passed time m) where
  abbrev record_at : ℕ → List ℕ
  record_at x = part m (context_place x) record_size

  abbrev block_at : ℕ → List ℕ
  block_at k = part m (cpu_place (size_n m) k) block_size

  block_length : (k : ℕ) → k < size_c m → length (block_at k) ≡ block_size
  block_length k h = length_part m (cpu_place (size_n m) k) block_size (omega (arith, p.size))

  pub a_context : (x : ℕ) → x < size_n m → context_in_range (size_c m) (record_at x) ≡ true
  unfolding contexts_in_range_to
  a_context x h = every_at (λ (x : ℕ). context_in_range (size_c m) (record_at x)) (size_n m) x p.words.contexts h

  pub a_block : (k : ℕ) → k < size_c m → BlockInRange (size_n m) (block_at k)
  unfolding blocks_in_range_to
  a_block k h = in_range _ _ (every_at (λ (k : ℕ). block_in_range (size_n m) (block_at k)) (size_c m) k p.words.blocks h)

  pub block_structure_of : (k : ℕ) → k < size_c m → eqb (get_or (block_at k) 0 0) 0 ≡ false → BlockStructure m (block_at k)
  unfolding structure
  block_structure_of k h t =
      block_structured m (block_at k) t
      (every_at (λ (k : ℕ). block_structure m (block_at k)) (size_c m) k (and_both (ids_differ m (size_n m)) _ p.structured).1 h)

  -- an absent block has empty lists; a present one has its structure
  a_rising : (k : ℕ) → k < size_c m → Rising (block_at k)
  a_rising k h =
      by_test (eqb (get_or (block_at k) 0 0) 0)
      (λ t.
      let z = (a_block k h).absent (eqb-true (get_or (block_at k) 0 0) 0 t)
      in record { keys = λ i b. absurd (omega (arith, z 21 (omega arith))); timers = λ i b. absurd (omega (arith, z 22 (omega arith))) })
      (λ t. rising (block_at k) (block_structure_of k h t))

  whole : WholeImage m
  whole =
      record {
        size = p.size;
        context = λ x h. whole_context (size_c m) _ (a_context x h);
        cpu = λ k h. whole_block _ _ (block_length k h) (a_block k h);
      }

  pub decoded : m ≡ encode (decode m)
  decoded = sym (encode_decode m whole)

  pub decoded_fits : Fits (size_c m) (size_n m) (decode m)
  unfolding decode cpu_at
  decoded_fits =
      record {
        bounds = (p.cpus.0, p.cpus.1, p.names.0, p.names.1);
        cpus = length_tabulate (size_c m) (λ (k : ℕ). cpu_of (block_at k));
        contexts = length_tabulate (size_n m) (λ (x : ℕ). context_of (record_at x));
        context = λ x h.
            subst (ContextFits (size_c m)) (sym (get_d_tabulate (size_n m) x (λ (x : ℕ). context_of (record_at x)) no_context h))
            (context_fits (size_c m) _ (a_context x h));
        cpu = λ k h.
            subst (CpuFits (size_n m)) (sym (get_d_tabulate (size_c m) k (λ (k : ℕ). cpu_of (block_at k)) no_cpu h))
            (cpu_fits _ _ p.names.0 (a_block k h) (a_rising k h));
      }

  pub admitted : Image (size_c m) (size_n m) m
  admitted = record { M = decode m; eq = decoded; fits = decoded_fits }
