-- What the code's stealing stands for. Assumes nothing.
use Rattle.std.specs.Prelude.{◌≡◌, ℕ, ◌≤◌, Bool, false, List, map, length, take}
use Rattle.columns.specs.Common.{All}
use Rattle.percpu.specs.Cpu as percpu
use Rattle.machine.specs.Shape.{EntryFits}
use Rattle.model.specs.Steal as model_steal
use Rattle.model.specs.Steal.{want}
use Rattle.plain_model.specs.Steal.{candidates, steal_entries}
use Rattle.plain_state.specs.States.{cpu_in, state_in, Sound}
use Rattle.plain_state.specs.Fits.{CpuFitsInAnyOrder}
use Rattle.plain_moves.specs.Moves.{CpuSound, MovedBelow}
use Rattle.plain_steal.specs.declared.cpus.Cpus.{Cpus}
use Rattle.plain_steal.specs.declared.Stealing.{Stealing}

-- of c CPUs
abbrev pub cpus_in : ℕ → Cpus → List percpu.Cpu
cpus_in c x = map cpu_in (take c x.cpus)

pub record CpusSound (c : ℕ) (x : Cpus) : Type 0 where
  pub few : c ≤ 4
  pub places : length x.cpus ≡ 4
  pub each : All CpuSound x.cpus

pub record CpusBecame (c : ℕ) (x : Cpus) (ps : List percpu.Cpu) : Type 0 where
  pub sound : CpusSound c x
  pub is : cpus_in c x ≡ ps

abbrev pub CpusFit : ℕ → List percpu.Cpu → Type 0
CpusFit n ps = All (CpuFitsInAnyOrder n) ps

-- of c CPUs and n contexts
abbrev pub stealing_in : ℕ → ℕ → Stealing → model_steal.Stealing
stealing_in n c l = record { state = state_in n l.state; cpus = cpus_in c l.cpus; winner = l.winner; done = l.done }

pub record StealingSound (n c : ℕ) (l : Stealing) : Type 0 where
  pub state : Sound n l.state
  pub cpus : CpusSound c l.cpus

-- the same where there was room; whether there was, and whether a victim was found, in any case
pub record StealingTracks (n c : ℕ) (r : Stealing) (L : model_steal.Stealing) : Type 0 where
  pub sound : StealingSound n c r
  pub room : r.state.no_room ≡ L.state.no_room
  pub done : r.done ≡ L.done
  pub is : L.state.no_room ≡ false → stealing_in n c r ≡ L

-- what is asked where nothing was stolen yet
pub record Robs (n : ℕ) (l : model_steal.Stealing) : Type 0 where
  pub below : MovedBelow n 0 l.state
  pub entries : All (λ (p : percpu.Cpu). All (EntryFits n) p.queue) l.cpus

-- from CPU t, which is v, where it has enough
abbrev pub some_stolen : (k : ℕ) (runs : Bool) (locked : List ℕ) → model_steal.Stealing → ℕ → percpu.Cpu → model_steal.Stealing
some_stolen k runs locked l t v = steal_entries runs l t v (candidates k locked l.state.contexts l.winner (want l.state v) v.queue)
