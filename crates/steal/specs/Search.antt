-- The search for a victim: what the code finds, in the definition's words. Assumes nothing.
use Rattle.std.specs.Prelude.{◌≡◌, Bool, false, List, [], ◌≢◌, ℕ, ◌+◌, ◌%◌, ◌<◌, get_or, if◌then◌else◌, Option, None, Some}
use Rattle.columns.specs.Common.{fold, All}
use Rattle.entries.specs.declared.Entry.{Entry}
use Rattle.percpu.specs.Cpu.{Cpu}
use Rattle.machine.specs.Machine.{Machine, cpu_at, no_cpu}
use Rattle.machine.specs.Encode.{encode}
use Rattle.machine.specs.Shape.{EntryFits, Fits}
use Rattle.model.specs.State.{State, state_of}
use Rattle.model.specs.Steal.{Stealing, can_steal_from, want, candidates, targets, steal_entries, steal_from}
use Rattle.steal_judge.specs.declared.Locked.{Locked}
use Rattle.steal_judge.specs.Names.{locked_of, entries_of}
use Rattle.steal.specs.declared.search.Victim.{Victim}

-- what CPU v gives up to the CPU of state s
unfoldable pub offers : (k : ℕ) (locked : List ℕ) → Option ℕ → State → Cpu → List Entry
offers k locked w s v = if can_steal_from s v then candidates k locked s.contexts w (want s v) v.queue else []

-- where the search begins: the state of CPU k of M, and M's other CPUs
pub record Begins (c k : ℕ) (M : Machine) (w : Option ℕ) (l : Stealing) : Type 0 where
  pub state : l.state ≡ state_of k M
  pub others : (t : ℕ) → t ≢ k → get_or l.cpus t no_cpu ≡ cpu_at M t
  pub winner : l.winner ≡ w
  pub done : l.done ≡ false

-- the first i CPUs of the round give up nothing
pub record Passed (c n k i : ℕ) (m : List ℕ) (w : Option ℕ) (locked : Locked) : Type 0 where
  pub none : (M : Machine) → m ≡ encode M → Fits c n M → (j : ℕ) → j < i → offers k (locked_of locked) w (state_of k M) (cpu_at M ((k + (j + 1)) % c)) ≡ []

-- the whole round is as stealing from CPU v.cpu what was found there
pub record Found (c n k : ℕ) (m : List ℕ) (w : Option ℕ) (locked : Locked) (v : Victim) : Type 0 where
  pub is : (M : Machine) → m ≡ encode M → Fits c n M → (runs : Bool) (l : Stealing) → Begins c k M w l
      → fold (steal_from k runs (locked_of locked)) l (targets k c) ≡ steal_entries runs l v.cpu (cpu_at M v.cpu) (entries_of v.got)
  pub cpu : v.cpu < c
  pub other : v.cpu ≢ k
  pub some : entries_of v.got ≢ []
  pub entries : All (EntryFits n) (entries_of v.got)

-- where nobody was found the round changes nothing
abbrev pub Searched : (c n k : ℕ) (m : List ℕ) (w : Option ℕ) (locked : Locked) → Option Victim → Type 0
Searched c n k m w locked (Some v) = Found c n k m w locked v
Searched c n k m w locked None =
    (M : Machine) → m ≡ encode M → Fits c n M → (runs : Bool) (l : Stealing) → Begins c k M w l → fold (steal_from k runs (locked_of locked)) l (targets k c) ≡ l
