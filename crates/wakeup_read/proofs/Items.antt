-- A timer and a name read from the image, and how many there are. Assumes nothing.
use mathlib.Core.Path.{◌≡◌, sym, ap, ◌∙◌, subst}
use mathlib.Core.List.{List}
use Prim.Native.Nat.{ℕ, ◌+◌, ◌-◌, ◌<◌, ◌≤◌}
use native.Mathlib.Omega.{arith}
use lib.ListN.{length, get_or, take, drop}
use Rattle.cpu_stats.specs.Words.{stats_words}
use Rattle.entries.specs.declared.Timer.{Timer}
use Rattle.percpu.specs.Cpu.{Cpu}
use Rattle.percpu.specs.Words.{block_words}
use Rattle.percpu.specs.Layout.{cpu_words, counts, timer_at, no_timer}
use Rattle.percpu.proofs.Read.{timer_is, local_is}
use Rattle.table.specs.First.{lead}
use Rattle.machine.specs.Machine.{Machine, cpu_at}
use Rattle.machine.specs.Encode.{encode, cpu_place}
use Rattle.machine.specs.Shape.{Fits, Image}
use Rattle.machine.proofs.Places.{lent_is, lent_word}
use Rattle.machine.proofs.LookUps.{block_word}
use Rattle.stages.proofs.Lent.{timers_counted, timers_small}
use Rattle.wakeup_read.specs.Read.{TimerRead, NameRead}
use Rattle.percpu.specs.Places.{timers_count, local_count, local_wakeup_list_column, block_size}
use Rattle.entries.specs.Order.{is_due}

module _ {c n : ℕ} (m : List ℕ) (k : ℕ) (h : k < c) (M : Machine) (e : m ≡ encode M) (o : Fits c n M) where
  pub local_counted : get_or m (cpu_place n k + local_count) 0 ≡ length (cpu_at M k).local_wakeup_list
  unfolding cpu_words block_words stats_words counts
  local_counted = block_word m k M e o local_count h (omega arith)

pub local_small : {c n : ℕ} {m : List ℕ} (i : Image c n m) (k : ℕ) → k < c → get_or m (cpu_place n k + local_count) 0 ≤ 64
local_small {m = m} i k h = rw (local_counted m k h i.M i.eq i.fits) (i.fits.cpu k h).local

-- as the code lends the block from its place `at`
module _ {c n : ℕ} {m : List ℕ} (i : Image c n m) (k : ℕ) {at : ℕ} (z : at ≡ cpu_place n k) (h : k < c) where
  abbrev lent : List ℕ
  lent = take (at + block_size - at) (drop at m)

  pub due_read : (time r : ℕ) → (r ≤ get_or lent timers_count 0) × ((p : Cpu) → lent ≡ cpu_words p → length p.timers ≤ 64 → r ≡ lead (is_due time) p.timers)
      → (r ≤ get_or m (cpu_place n k + timers_count) 0) × (r ≤ 64) × ((M : Machine) → m ≡ encode M → Fits c n M → r ≡ lead (is_due time) (cpu_at M k).timers)
  due_read time r f =
      let a : r ≤ get_or m (cpu_place n k + timers_count) 0 = subst (λ (y : ℕ). r ≤ y) (lent_word m n k timers_count z (omega arith)) f.0
      in (a, omega (arith, timers_small i k h), λ M e o. f.1 (cpu_at M k) (lent_is m k z h M e o) (o.cpu k h).timers)

  pub timer_read : (j : ℕ) → j < get_or m (cpu_place n k + timers_count) 0 → (r : Timer) → r ≡ timer_at lent j → TimerRead c n k j m r
  timer_read j b r e =
      record {
        is = reads;
        name = subst (λ (t : Timer). t.context_ref < n) (sym (reads i.M i.eq i.fits)) ((i.fits.cpu k h).timer j (rw (timers_counted m k h i.M i.eq i.fits) at b));
      }
    where
      reads : (M : Machine) → m ≡ encode M → Fits c n M → r ≡ get_or (cpu_at M k).timers j no_timer
      reads M y o =
          e ∙ ap (λ (l : List ℕ). timer_at l j) (lent_is m k z h M y o) ∙ timer_is (cpu_at M k) j (rw (timers_counted m k h M y o) at b) (o.cpu k h).timers

  pub name_read : (j : ℕ) → j < get_or m (cpu_place n k + local_count) 0 → NameRead c n k j m (get_or m (at + local_wakeup_list_column + j) 0)
  name_read j b =
      record {
        is = reads;
        name = subst (λ (x : ℕ). x < n) (sym (reads i.M i.eq i.fits)) ((i.fits.cpu k h).local_name j (rw (local_counted m k h i.M i.eq i.fits) at b));
      }
    where
      reads : (M : Machine) → m ≡ encode M → Fits c n M → get_or m (at + local_wakeup_list_column + j) 0 ≡ get_or (cpu_at M k).local_wakeup_list j 0
      reads M y o =
          let s : j < 64 = omega (arith, local_small i k h)
          in let p : at + local_wakeup_list_column + j ≡ cpu_place n k + (local_wakeup_list_column + j) = omega (arith, z)
          in ap (λ (x : ℕ). get_or m x 0) p ∙ block_word m k M y o (local_wakeup_list_column + j) h (omega arith)
          ∙ local_is (cpu_at M k) j (rw (local_counted m k h M y o) at b) (o.cpu k h).local
