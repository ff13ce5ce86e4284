-- What the code's moves stand for, and what no sum of them wraps by. Assumes nothing.
use Rattle.std.specs.Prelude.{◌≡◌, Bool, false, ℕ, ◌+◌, ◌*◌, ◌<◌, ◌≤◌, if◌then◌else◌, Some}
use Rattle.context.specs.declared.Context.{Context}
use Rattle.context.specs.Key.{with_new_key, entry_of}
use Rattle.entries.specs.declared.Entry.{Entry}
use Rattle.percpu.specs.Cpu as percpu
use Rattle.percpu.specs.With.{cpu_total_weight}
use Rattle.weights.specs.Weights.{full_slice, max_weight}
use Rattle.machine.specs.Machine.{context_at}
use Rattle.model.specs.State as model
use Rattle.model.specs.State.{at, put_context, on_cpu}
use Rattle.model.specs.Steal as model_steal
use Rattle.model.specs.Steal.{moved, first_wins}
use Rattle.plain_model.specs.State.{insert_entry}
use Rattle.plain_model.specs.Steal.{give_up}
use Rattle.plain_state.specs.declared.Cpu.{Cpu}
use Rattle.plain_state.specs.States.{cpu_in, state_in, Sound}
pub use Rattle.plain_state.specs.States.{CpuSound}
use Rattle.stages.specs.Bounds.{b_charged, b_moving}
use Rattle.plain_moves.specs.declared.Moving.{Moving}

-- p stands for P
pub record CpuBecame (p : Cpu) (P : percpu.Cpu) : Type 0 where
  pub sound : CpuSound p
  pub is : cpu_in p ≡ P

-- of n contexts
abbrev pub moving_in : ℕ → Moving → model_steal.Moving
moving_in n m = record { state = state_in n m.state; victim = cpu_in m.victim; winner = m.winner }

-- r stands for M
pub record MovingBecame (n : ℕ) (r : Moving) (M : model_steal.Moving) : Type 0 where
  pub state : Sound n r.state
  pub victim : CpuSound r.victim
  pub is : moving_in n r ≡ M

-- the same where there was room; whether there was, in any case
pub record MovingTracks (n : ℕ) (r : Moving) (M : model_steal.Moving) : Type 0 where
  pub state : Sound n r.state
  pub victim : CpuSound r.victim
  pub room : r.state.no_room ≡ M.state.no_room
  pub is : M.state.no_room ≡ false → moving_in n r ≡ M

-- no sum that a move makes wraps
pub record Movable (n : ℕ) (s : model.State) : Type 0 where
  pub v : s.cpu.block.v ≤ b_charged
  pub total_weight : s.cpu.block.total_weight ≤ b_moving
  pub vtime : (x : ℕ) → x < n → (context_at s.contexts x).vtime ≤ b_moving
  pub slice : (x : ℕ) → x < n → (context_at s.contexts x).rem_slice ≤ full_slice

-- after i moves: each carries a lag over, and adds a weight
pub record MovedBelow (n i : ℕ) (s : model.State) : Type 0 where
  pub v : s.cpu.block.v ≤ b_charged
  pub total_weight : s.cpu.block.total_weight ≤ b_charged + max_weight * i
  pub vtime : (x : ℕ) → x < n → (context_at s.contexts x).vtime ≤ b_charged * (i + 1)
  pub slice : (x : ℕ) → x < n → (context_at s.contexts x).rem_slice ≤ full_slice

-- the record of the entry's context as it will stand here, and this CPU with its weight
abbrev pub stolen_record : model_steal.Moving → Entry → Context
stolen_record m e = moved m.state.cpu.block.v m.victim.block.v e.weight (at m.state e.context_ref)

abbrev pub heavier : ℕ → model.State → model.State
heavier weight s = on_cpu (λ (p : percpu.Cpu). cpu_total_weight (p.block.total_weight + weight) p) s

-- the entry and its weight on their way; then its record q, of context x
abbrev pub weight_moved : Entry → model_steal.Moving → model_steal.Moving
weight_moved e m = record { state = heavier e.weight m.state; victim = give_up e m.victim; winner = m.winner }

abbrev pub taken_in : (runs : Bool) → ℕ → Context → ℕ → model_steal.Moving → model_steal.Moving
taken_in runs x q weight m =
    if first_wins runs m.winner
    then record { state = put_context x q m.state; victim = m.victim; winner = Some x }
    else record { state = insert_entry (entry_of x weight q) (put_context x (with_new_key q) m.state); victim = m.victim; winner = m.winner }
