-- Two images that differ in lock and address-space words alone, and where a call does not read them. Assumes nothing.
use Rattle.std.specs.Prelude.{◌≡◌, Bool, true, List, ℕ, length}
use Rattle.context.specs.With.{with_lock, with_addr_space}
use Rattle.percpu.specs.With.{cpu_queue_locked}
use Rattle.machine.specs.Machine.{Machine, context_at, cpu_at}
use Rattle.machine.specs.Encode.{decode}
use Rattle.image.specs.Refusal.{image_refusal}
use Rattle.calls.specs.Call.{call}
use Rattle.call_locks.specs.Locks.{Locks, reads_context, reads_cpu, with_locks}

-- N is as M but for those words, and the contexts of S and the CPUs of Q are the same in them too
pub record OnlyLocks (S Q : ℕ → Bool) (M N : Machine) : Type 0 where
  pub contexts : length N.contexts ≡ length M.contexts
  pub cpus : length N.cpus ≡ length M.cpus
  pub context :
      (x : ℕ)
      → context_at N.contexts x ≡ with_lock (context_at N.contexts x).lock (with_addr_space (context_at N.contexts x).addr_space (context_at M.contexts x))
  pub context_read : (x : ℕ) → S x ≡ true → context_at N.contexts x ≡ context_at M.contexts x
  pub cpu : (j : ℕ) → cpu_at N j ≡ cpu_queue_locked (cpu_at N j).block.queue_locked (cpu_at M j)
  pub cpu_read : (j : ℕ) → Q j ≡ true → cpu_at N j ≡ cpu_at M j

-- the words that N has
abbrev pub locks_of : Machine → Locks
locks_of N =
    record {
      lock = λ x. (context_at N.contexts x).lock;
      addr_space = λ x. (context_at N.contexts x).addr_space;
      queue_locked = λ j. (cpu_at N j).block.queue_locked;
    }

-- the call answers the same of both, and what it leaves differs in those words alone, which stay as they are in m'
pub record SameOfBoth (m m' : List ℕ) (operation cpu time context : ℕ) : Type 0 where
  pub answer : (call m' operation cpu time context).answer ≡ (call m operation cpu time context).answer
  pub image : (call m' operation cpu time context).image ≡ with_locks m operation cpu context (locks_of (decode m')) (call m operation cpu time context).image

-- of any two images that pass the check
abbrev pub AnyLocks : Type 0
AnyLocks =
    (m m' : List ℕ) (operation cpu time context : ℕ) → image_refusal time m ≡ 0 → image_refusal time m' ≡ 0
    → OnlyLocks (reads_context (decode m) operation cpu context) (reads_cpu (decode m) cpu) (decode m) (decode m') → SameOfBoth m m' operation cpu time context
