-- Words held against a table, and arrays of a block that hold a list. Assumes nothing.
use mathlib.Core.Path.{◌≡◌, refl}
use mathlib.Core.Bool.{Bool, true, false}
use mathlib.Core.List.{List, [], ◌∷◌, ◌++◌}
use Prim.Native.Nat.{ℕ, zero, suc, ◌-◌, ◌<◌, ◌≤◌}
use native.Mathlib.Omega.{arith}
use lib.Dec.{eqb}
use lib.ListN.{length, get_or, replicate, get_or-replicate, get_or-append}
use lib.Seq.{get_or-append-add}
use borrow.Author.Tests.{le-leb}
use Rattle.columns.specs.Common.{every, mark, All}
use Rattle.columns.specs.Columns.{pad}
use Rattle.columns.specs.Laws.{pad_all}
use Rattle.context.specs.declared.Status.{Status}
use Rattle.context.specs.declared.Status.TheVariants.{Runnable, Blocked, Stopped, AwaitingMmap, NotYetStarted, Dead}
use Rattle.context.specs.Status.{status_number}
use Rattle.cpu_stats.specs.declared.CpuState.{CpuState}
use Rattle.cpu_stats.specs.declared.CpuState.TheVariants.{Idle, Kernel, User}
use Rattle.cpu_stats.specs.State.{state_number}
use Rattle.cpu_stats.specs.Words.{stats_words}
use Rattle.percpu.specs.Cpu.{Cpu}
use Rattle.percpu.specs.Words.{block_words}
use Rattle.percpu.specs.Layout.{cpu_words}
use Rattle.image_ranges.specs.Ranges.{within, used, unused}
use Rattle.stages.proofs.Fitting.{of_all}

pub every_of : (f : ℕ → Bool) (n : ℕ) → ((i : ℕ) → i < n → f i ≡ true) → every f n ≡ true
unfolding every
every_of f zero h = refl
every_of f (suc n) h = rw (every_of f n (λ i l. h i (omega arith)), h n (omega arith))

pub mark_most : (b : Bool) → mark b ≤ 1
mark_most true = omega arith
mark_most false = omega arith

pub status_most : (s : Status) → status_number s ≤ 5
status_most Runnable = omega arith
status_most Blocked = omega arith
status_most Stopped = omega arith
status_most AwaitingMmap = omega arith
status_most NotYetStarted = omega arith
status_most Dead = omega arith

pub state_most : (s : CpuState) → state_number s ≤ 2
state_most Idle = omega arith
state_most Kernel = omega arith
state_most User = omega arith

-- each word is at most that of the table
abbrev pub Within : List ℕ → List ℕ → Type 0
Within [] t = Unit {0}
Within (x ∷ w) [] = ⊥
Within (x ∷ w) (y ∷ t) = (x ≤ y) × Within w t

at_most : (w t : List ℕ) → Within w t → (i : ℕ) → i < length w → get_or w i 0 ≤ get_or t i 0
at_most [] t h i l = absurd (omega arith)
at_most (x ∷ w) [] h i l = absurd h
at_most (x ∷ w) (y ∷ t) h zero l = h.0
at_most (x ∷ w) (y ∷ t) h (suc i) l = at_most w t h.1 i (omega arith)

-- w: the first words of a list
pub within_front : (w r t : List ℕ) → Within w t → within t (w ++ r) (length w) ≡ true
unfolding within
within_front w r t h = every_of _ (length w) (λ i l. rw (get_or-append w r 0 i l) (le-leb _ _ (at_most w t h i l)))

-- an array that holds the list l, each item from low to high
module _ (l : List ℕ) (low high : ℕ) (room : length l ≤ 64) (o : All (λ (x : ℕ). (low ≤ x) × (x ≤ high)) l) where
  padded : pad 64 l ≡ l ++ replicate (64 - length l) 0
  padded = pad_all 64 l room

  pub used_all : used (pad 64 l) (length l) low high ≡ true
  unfolding used
  used_all =
      rw padded
      (every_of _ (length l)
      (λ i h.
      let p = of_all (λ (x : ℕ). (low ≤ x) × (x ≤ high)) 0 l o i h in
      rw (get_or-append l (replicate (64 - length l) 0) 0 i h, le-leb low (get_or l i 0) p.0, le-leb (get_or l i 0) high p.1)))

  pub unused_rest : unused (pad 64 l) (length l) ≡ true
  unfolding unused
  unused_rest =
      rw padded
      (every_of _ (64 - length l)
      (λ i h. rw (get_or-append-add l (replicate (64 - length l) 0) i 0, get_or-replicate {A = ℕ} (64 - length l) i 0 0 h)))

-- the mark of a CPU that is present
pub present_word : (p : Cpu) → p.block.present ≡ true → eqb (get_or (cpu_words p) 0 0) 0 ≡ false
unfolding cpu_words block_words stats_words
present_word p e = rw e
