-- Lock and address-space words that a call does not read: those of contexts that its CPU does not name, and other CPUs' queue locks. Assumes nothing.
use Rattle.std.specs.Prelude.{◌≡◌, Bool, false, ◌&&◌, ◌||◌, List, [], ◌∷◌, ◌++◌, ℕ, ◌≤◌, eqb, length, get_or, if◌then◌else◌, None}
use Rattle.columns.specs.Common.{tabulate}
use Rattle.context.specs.declared.Context.{Context}
use Rattle.context.specs.With.{with_lock, with_addr_space}
use Rattle.percpu.specs.Cpu.{Cpu}
use Rattle.percpu.specs.With.{cpu_queue_locked}
use Rattle.machine.specs.Machine.{Machine, context_at, cpu_at, no_cpu}
use Rattle.machine.specs.Encode.{encode, decode}
use Rattle.image.specs.Refusal.{image_refusal}
use Rattle.model.specs.State.{state_of}
use Rattle.model.specs.Steal.{member, contexts_of, should_steal}
use Rattle.model_local.specs.Names.{timed_contexts}
use Rattle.model_local.specs.Local.{with_others}
use Rattle.calls.specs.Call.{call}

-- other words: locks and address spaces by the contexts' numbers, queue locks by the CPUs'
pub record Locks : Type 0 where
  pub lock : ℕ → ℕ
  pub addr_space : ℕ → ℕ
  pub queue_locked : ℕ → Bool

pub record InRange (l : Locks) : Type 0 where
  pub lock : (x : ℕ) → l.lock x ≤ 2
  pub addr_space : (x : ℕ) → l.addr_space x ≤ 2

module _ (l : Locks) where
  -- every word of a gone record, and of an absent CPU, stays 0
  unfoldable pub relocked_context : ℕ → Context → Context
  relocked_context x c = if c.gone then c else with_lock (l.lock x) (with_addr_space (l.addr_space x) c)

  unfoldable pub relocked_cpu : ℕ → Cpu → Cpu
  relocked_cpu j p = if p.block.present then cpu_queue_locked (l.queue_locked j) p else p

  abbrev pub relocked_contexts : List Context → List Context
  relocked_contexts cs = tabulate (length cs) (λ (x : ℕ). relocked_context x (context_at cs x))

  -- the CPUs of Q as they are
  unfoldable pub relocked_cpus : (Q : ℕ → Bool) → List Cpu → List Cpu
  relocked_cpus Q ps = tabulate (length ps) (λ (j : ℕ). if Q j then get_or ps j no_cpu else relocked_cpu j (get_or ps j no_cpu))

-- other words for the contexts outside of S and the CPUs outside of Q
abbrev pub relocked : (S Q : ℕ → Bool) → Locks → Machine → Machine
relocked S Q l M = record { contexts = with_others S (relocked_contexts l M.contexts) M.contexts; cpus = relocked_cpus l Q M.cpus }

abbrev pub relocked_image : (S Q : ℕ → Bool) → Locks → List ℕ → List ℕ
relocked_image S Q l m = encode (relocked S Q l (decode m))

-- current, in charge, idle, queued, timed and on the local list of a CPU
abbrev pub contexts_here : Cpu → List ℕ
contexts_here p =
    p.block.current_ctxt ∷ p.block.sched_ctxt ∷ p.block.idle_ctxt ∷ contexts_of p.queue ++ (timed_contexts p.timers ++ p.local_wakeup_list)

unfoldable pub names_here : Cpu → ℕ → Bool
names_here p x = member x (contexts_here p)

-- queued on one of the CPUs
unfoldable pub is_queued : List Cpu → ℕ → Bool
is_queued [] x = false
is_queued (p ∷ ps) x = member x (contexts_of p.queue) || is_queued ps x

-- the steal counter allows stealing: every 2nd value where idle is in charge, else every 16th
unfoldable pub may_steal : Machine → ℕ → Bool
may_steal M k = should_steal (state_of k M) None

-- `direct_switch_to`, `unblock_context`, `block` and `hard_block`
unfoldable pub takes_context : ℕ → Bool
takes_context operation = eqb operation 3 || eqb operation 4 || eqb operation 6 || eqb operation 7

-- the context that the call is with
abbrev pub is_own : (operation context : ℕ) → ℕ → Bool
is_own operation context x = takes_context operation && eqb x context

-- the contexts and the CPUs whose locks a call may read: what its CPU names, the context that it is called with, and where the steal counter allows
-- stealing what is queued anywhere; this CPU, and where stealing is allowed every one
abbrev pub reads_context : Machine → (operation k context : ℕ) → ℕ → Bool
reads_context M operation k context x = names_here (cpu_at M k) x || is_own operation context x || may_steal M k && is_queued M.cpus x

abbrev pub reads_cpu : Machine → (k : ℕ) → ℕ → Bool
reads_cpu M k j = eqb j k || may_steal M k

-- other words for all that a call on m does not read
abbrev pub with_locks : (m : List ℕ) (operation cpu context : ℕ) → Locks → List ℕ → List ℕ
with_locks m operation cpu context = relocked_image (reads_context (decode m) operation cpu context) (reads_cpu (decode m) cpu)

-- the call answers the same, and leaves the same image but for those words
pub record SameCall (m : List ℕ) (operation cpu time context : ℕ) (l : Locks) : Type 0 where
  pub answer : (call (with_locks m operation cpu context l m) operation cpu time context).answer ≡ (call m operation cpu time context).answer
  pub image :
      (call (with_locks m operation cpu context l m) operation cpu time context).image ≡ with_locks m operation cpu context l (call m operation cpu time context).image

-- of every image that passes the check, accepted or refused, any operation, CPU, time and context
abbrev pub LocksOfOthers : Type 0
LocksOfOthers =
    (m : List ℕ) (operation cpu time context : ℕ) (l : Locks) → InRange l → image_refusal time m ≡ 0 → SameCall m operation cpu time context l
