-- On a CPU of a well-formed machine no timer finds its set full: refusal 9 is never for a timer. Assumes nothing.
use mathlib.Core.Path.{◌≡◌}
use mathlib.Core.Bool.{true}
use mathlib.Core.List.{List}
use Prim.Native.Nat.{ℕ, ◌<◌, ◌≤◌}
use native.Mathlib.Omega.{arith}
use lib.ListN.{length}
use Rattle.columns.specs.Common.{fold, All}
use Rattle.entries.specs.declared.Timer.{Timer}
use Rattle.machine.specs.Machine.{Machine, cpu_at}
use Rattle.model.specs.State.{State, on_cpu, state_of}
use Rattle.model.specs.Wakeup.{Wakeup, wakeups, drained, serve_wakeup}
use Rattle.model.specs.Turn.{count_switch, before_selection, before_choice}
use Rattle.model.proofs.Lists.{In, all_map}
use Rattle.model_timers.proofs.TimerRoom.{served_few, charged_few, charge_room}
use Rattle.model_leaves.proofs.WellFormed.{TimerFormed, view, CpuFormed, WellFormed}
use Rattle.model_leaves.proofs.Lists.{present_formed}

-- the decision of CPU k, from its first moment on; the count of switches is kept apart, and names no timer
module _ (c n : ℕ) (M : Machine) (W : WellFormed c n M) (k time : ℕ) (here : k < c) (is_present : (cpu_at M k).block.present ≡ true) where
  abbrev s : State
  s = state_of k M

  formed : CpuFormed n M.contexts (view (cpu_at M k))
  formed = (present_formed (cpu_at M k) is_present (W.cpu k here)).0

  names : All (λ (t : Timer). t.context_ref < n) (cpu_at M k).timers
  names = all_map (TimerFormed n) (λ (t : Timer). t.context_ref < n) (λ t f. f.name) (cpu_at M k).timers formed.lists.timers.each

  -- while wake-ups are served, those of locked contexts put back
  pub timers_fit_served : (l : List Wakeup) → ((w : Wakeup) → In w l → In w (wakeups time (on_cpu count_switch s)))
      → length (fold serve_wakeup (drained time (on_cpu count_switch s)) l).cpu.timers ≤ 64
  timers_fit_served l f = omega (arith, W.bounds.3, served_few n time s names formed.lists.timers.rise (W.alone k) l f)

  -- and when the holder's own goes in
  pub timers_fit_charged : (length (before_choice time s).cpu.timers ≤ 64) × ((before_choice time s).no_room ≡ (before_selection time s).no_room)
  timers_fit_charged =
      let h = formed.scalars.sched.below in (
        omega (arith, W.bounds.3, charged_few n time s names formed.lists.timers.rise (W.alone k) h),
        charge_room n time s names formed.lists.timers.rise (W.alone k) W.bounds.3 h,
      )
