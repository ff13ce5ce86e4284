-- The list of wake-ups: names, wakes and length. Assumes nothing.
use Rattle.std.specs.Prelude.{None, Option, Some}
use mathlib.Core.List.{List, [], ◌∷◌, ◌++◌, map}
use Prim.Native.Nat.{ℕ, ◌<◌, ◌≤◌}
use native.Mathlib.Omega.{arith}
use lib.ListN.{length, get_or, length-append, length-map}
use Rattle.columns.specs.Common.{keep, All}
use Rattle.entries.specs.declared.Timer.{Timer}
use Rattle.percpu.specs.Layout.{no_timer}
use Rattle.machine.specs.Shape.{CpuFits}
use Rattle.model.specs.State.{State}
use Rattle.model.specs.Wakeup.{Wakeup, is_live_timer, timer_wakeup, local_wakeup, wakeups}
use Rattle.stages.proofs.Fitting.{all_of}
use Rattle.columns.proofs.Keep.{all_keep, length_keep}
use Rattle.wakeup.specs.Paced.{Named}
use Rattle.wakeup_read.specs.Read.{max_wakeups}
use Rattle.entries.specs.Order.{is_due}

all_append : {A : Type 0} (P : A → Type 0) (l r : List A) → All P l → All P r → All P (l ++ r)
all_append P [] r a b = b
all_append P (x ∷ xs) r a b = (a.0, all_append P xs r a.1 b)

all_map : {A B : Type 0} (P : B → Type 0) (f : A → B) (l : List A) → All (λ (a : A). P (f a)) l → All P (map f l)
all_map P f [] a = tt
all_map P f (x ∷ xs) a = (a.0, all_map P f xs a.1)

all_any : {A : Type 0} (P : A → Type 0) → ((a : A) → P a) → (l : List A) → All P l
all_any P f [] = tt
all_any P f (x ∷ xs) = (f x, all_any P f xs)

-- a wake of a timer is at most t
abbrev pub WakeBelow : ℕ → Option ℕ → Type 0
WakeBelow t None = Unit {0}
WakeBelow t (Some x) = x ≤ t

module _ (time : ℕ) (s : State) where
  abbrev live : List Timer
  live = keep (is_live_timer s) (keep (is_due time) s.cpu.timers)

  -- what holds of the timers and of the names
  such : (P : Wakeup → Type 0) → All (λ (t : Timer). P (timer_wakeup t)) s.cpu.timers → All (λ (x : ℕ). P (local_wakeup x)) s.cpu.local_wakeup_list → All P (wakeups time s)
  unfolding wakeups
  such P a b =
      all_append P (map timer_wakeup live) (map local_wakeup s.cpu.local_wakeup_list)
      (all_map P timer_wakeup live
      (all_keep (is_live_timer s) (λ (t : Timer). P (timer_wakeup t)) (keep (is_due time) s.cpu.timers) (all_keep (is_due time) (λ (t : Timer). P (timer_wakeup t)) s.cpu.timers a)))
      (all_map P local_wakeup s.cpu.local_wakeup_list b)

  pub wakeups_named : {n : ℕ} → CpuFits n s.cpu → Named n (wakeups time s)
  wakeups_named {n} o =
      such (λ (w : Wakeup). w.context_ref < n) (all_of (λ (t : Timer). t.context_ref < n) no_timer s.cpu.timers o.timer)
      (all_of (λ (x : ℕ). x < n) 0 s.cpu.local_wakeup_list o.local_name)

  pub wakeups_below : {t : ℕ} → ((i : ℕ) → i < length s.cpu.timers → (get_or s.cpu.timers i no_timer).wake ≤ t) → All (λ (w : Wakeup). WakeBelow t w.wake) (wakeups time s)
  wakeups_below {t} f =
      such (λ (w : Wakeup). WakeBelow t w.wake) (all_of (λ (x : Timer). x.wake ≤ t) no_timer s.cpu.timers f)
      (all_any (λ (x : ℕ). WakeBelow t (local_wakeup x).wake) (λ x. tt) s.cpu.local_wakeup_list)

  pub wakeups_few : length s.cpu.timers ≤ 64 → length s.cpu.local_wakeup_list ≤ 64 → length (wakeups time s) ≤ max_wakeups
  unfolding wakeups
  wakeups_few a b =
      let x : length (keep (is_due time) s.cpu.timers) ≤ length s.cpu.timers = length_keep (is_due time) s.cpu.timers
      in let y : length live ≤ length (keep (is_due time) s.cpu.timers) = length_keep (is_live_timer s) (keep (is_due time) s.cpu.timers)
      in rw (length-append, length-map live timer_wakeup, length-map s.cpu.local_wakeup_list local_wakeup) (omega arith)
