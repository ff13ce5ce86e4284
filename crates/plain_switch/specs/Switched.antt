-- `switch_to` in its parts. Assumes nothing.
use Rattle.std.specs.Prelude.{ℕ, ◌<◌, ◌≤◌}
use Rattle.model.specs.State.{State, at, put_context, on_cpu}
use Rattle.model.specs.SwitchTo.{left, comes, becomes_current}
use Rattle.stages.specs.Bounds.{t_handed}

-- what is asked of the context that leaves
pub record Leaves (n : ℕ) (s : State) : Type 0 where
  pub current : s.cpu.block.current_ctxt < n
  pub active : (at s s.cpu.block.current_ctxt).active_cpu_time ≤ t_handed

-- the current context's record as it is left
abbrev pub left_at : ℕ → ℕ → State → State
left_at k time s = put_context s.cpu.block.current_ctxt (left k time s.cpu (at s s.cpu.block.current_ctxt)) s

-- x comes
abbrev pub entered : ℕ → ℕ → ℕ → State → State
entered k time x s = on_cpu (becomes_current k time x (comes k time (at s x))) (put_context x (comes k time (at s x)) s)
