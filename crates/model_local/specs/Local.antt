-- A CPU and a set of contexts: machines that differ elsewhere, and machines that differ there only. Assumes nothing.
use Rattle.std.specs.Prelude.{◌≡◌, ◌≢◌, Bool, true, false, List, ℕ, length, if◌then◌else◌}
use Rattle.columns.specs.Common.{All, tabulate}
use Rattle.context.specs.declared.Context.{Context}
use Rattle.entries.specs.declared.Entry.{Entry}
use Rattle.entries.specs.declared.Timer.{Timer}
use Rattle.machine.specs.Machine.{Machine, context_at, cpu_at}
use Rattle.machine.specs.Outcome.{Outcome}
use Rattle.model.specs.State.{State}
use Rattle.model_local.specs.Names.{Names, names}

-- the contexts of the set as in cs, all others as in ds
unfoldable pub with_others : (ℕ → Bool) → List Context → List Context → List Context
with_others S ds cs = tabulate (length cs) (λ (x : ℕ). if S x then context_at cs x else context_at ds x)

abbrev pub others : (ℕ → Bool) → List Context → State → State
others S ds s = record { contexts = with_others S ds s.contexts; cpu = s.cpu; no_room = s.no_room }

-- all that a CPU names is in the set; but for the interrupt list, which `drain_ipi_context_wakeups` alone reads
pub record Within (S : ℕ → Bool) (l : Names) : Type 0 where
  pub current : S l.current ≡ true
  pub in_charge : S l.in_charge ≡ true
  pub idle : S l.idle ≡ true
  pub queued : All (λ (e : Entry). S e.context_ref ≡ true) l.queued
  pub timed : All (λ (t : Timer). S t.context_ref ≡ true) l.timed
  pub listed_here : All (λ (x : ℕ). S x ≡ true) l.listed_here

module _ (S : ℕ → Bool) (k : ℕ) where
  -- N is as M in CPU k and in the set; elsewhere it may be anything
  pub record Alike (M N : Machine) : Type 0 where
    pub count : length N.contexts ≡ length M.contexts
    pub here : cpu_at N k ≡ cpu_at M k
    pub inside : (x : ℕ) → S x ≡ true → context_at N.contexts x ≡ context_at M.contexts x

  -- N is as M but in CPU k and in the set
  pub record Elsewhere (M N : Machine) : Type 0 where
    pub count : length N.contexts ≡ length M.contexts
    pub cpus : length N.cpus ≡ length M.cpus
    pub there : (j : ℕ) → j ≢ k → cpu_at N j ≡ cpu_at M j
    pub outside : (x : ℕ) → S x ≡ false → context_at N.contexts x ≡ context_at M.contexts x

-- the two answers agree in all that they say
pub record SameAnswer (o p : Outcome) : Type 0 where
  pub result : p.result ≡ o.result
  pub interrupt : p.interrupt ≡ o.interrupt
  pub rule : p.rule ≡ o.rule
  pub no_room : p.no_room ≡ o.no_room

-- of one call on CPU k, where o is its outcome of M and p that of N, which is as M in CPU k and in the set: it answers the same, leaves CPU k
-- and the set alike, touches nothing else of either machine, and is within the set afterwards
pub record Local (S : ℕ → Bool) (k : ℕ) (M N : Machine) (o p : Outcome) : Type 0 where
  pub answer : SameAnswer o p
  pub alike : Alike S k o.machine p.machine
  pub elsewhere : Elsewhere S k M o.machine
  pub elsewhere' : Elsewhere S k N p.machine
  pub within : Within S (names (cpu_at o.machine k))
