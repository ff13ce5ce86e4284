-- What a call may read, as the set that the proofs go by. Assumes nothing.
use mathlib.Core.Path.{◌≡◌, refl}
use mathlib.Core.Logic.{inl, inr}
use mathlib.Core.Bool.{Bool, true, false, ◌||◌}
use mathlib.Core.List.{List, [], ◌∷◌, ◌++◌}
use Prim.Native.Nat.{ℕ}
use lib.ListN.{length}
use borrow.Author.Tests.{eq-eqb}
use Rattle.columns.specs.Common.{All, In}
use Rattle.entries.specs.declared.Entry.{Entry}
use Rattle.entries.specs.declared.Timer.{Timer}
use Rattle.percpu.specs.Cpu.{Cpu}
use Rattle.machine.specs.Machine.{Machine, cpu_at}
use Rattle.model.specs.Steal.{member, contexts_of}
use Rattle.model.proofs.Cases.{by_test, never, and_true}
use Rattle.model.proofs.Lists.{all_in, map_in, in_left, in_right}
use Rattle.model_local.specs.Names.{names, timed_contexts}
use Rattle.model_local.specs.Local.{Within}
use Rattle.model_local.proofs.Named.{member_in}
use Rattle.call_locks.specs.Locks.{contexts_here, names_here, is_queued, may_steal, takes_context, is_own, reads_context, reads_cpu}
use Rattle.call_locks.proofs.Stealing.{QueuedWithin}
use Rattle.call_locks.proofs.Calling.{Stealable}

or_first : (a b : Bool) → a ≡ true → (a || b) ≡ true
or_first true b e = refl
or_first false b e = never {b = false} e refl

pub or_second : (a b : Bool) → b ≡ true → (a || b) ≡ true
or_second true b e = refl
or_second false b e = e

-- all that is queued on CPUs of a list
queued_within : (S : ℕ → Bool) (n : ℕ) (ps : List Cpu) → ((x : ℕ) → is_queued ps x ≡ true → S x ≡ true) → All (QueuedWithin S n) ps
unfolding is_queued
queued_within S n [] h = tt
queued_within S n (p ∷ ps) h = (
  all_in _ p.queue (λ (e : Entry) i. h e.context_ref (or_first _ _ (member_in e.context_ref (contexts_of p.queue) (map_in (λ (z : Entry). z.context_ref) p.queue e i)))),
  queued_within S n ps (λ x t. h x (or_second (member x (contexts_of p.queue)) _ t)),
)

module _ (M : Machine) (operation k context : ℕ) where
  abbrev S : ℕ → Bool
  S = reads_context M operation k context

  abbrev p : Cpu
  p = cpu_at M k

  abbrev queued : List ℕ
  queued = contexts_of p.queue

  abbrev timed : List ℕ
  timed = timed_contexts p.timers

  here : (x : ℕ) → In x (contexts_here p) → S x ≡ true
  unfolding names_here
  here x i = or_first (names_here p x || is_own operation context x) _ (or_first (names_here p x) _ (member_in x (contexts_here p) i))

  past_three : (x : ℕ) → In x (queued ++ (timed ++ p.local_wakeup_list)) → S x ≡ true
  past_three x i = here x (inr (inr (inr i)))

  pub reads_within : Within S (names p)
  reads_within =
      record {
        current = here p.block.current_ctxt (inl refl);
        in_charge = here p.block.sched_ctxt (inr (inl refl));
        idle = here p.block.idle_ctxt (inr (inr (inl refl)));
        queued = all_in _ p.queue (λ (e : Entry) i. past_three e.context_ref (in_left queued (timed ++ p.local_wakeup_list) _ (map_in (λ (z : Entry). z.context_ref) p.queue e i)));
        timed =
            all_in _ p.timers
            (λ (t : Timer) i. past_three t.context_ref (in_right queued (timed ++ p.local_wakeup_list) _ (in_left timed p.local_wakeup_list _ (map_in (λ (z : Timer). z.context_ref) p.timers t i))));
        listed_here = all_in _ p.local_wakeup_list (λ (x : ℕ) i. past_three x (in_right queued (timed ++ p.local_wakeup_list) x (in_right timed p.local_wakeup_list x i)));
      }

  -- the context that the call is with
  pub reads_own : takes_context operation ≡ true → S context ≡ true
  reads_own t = or_first _ _ (or_second (names_here p context) _ (rw (t, eq-eqb context context refl)))

  pub reads_here : reads_cpu M k k ≡ true
  reads_here = or_first _ _ (eq-eqb k k refl)

  -- where the counter allows stealing nothing queued anywhere, and no CPU, is left out; Q: this set, or all CPUs
  pub reads_stolen : (Q : ℕ → Bool) → ((j : ℕ) → may_steal M k ≡ true → Q j ≡ true) → Stealable S Q (length M.contexts) k M
  unfolding may_steal
  reads_stolen Q f =
      by_test (may_steal M k)
      (λ t. inr (λ j. f j t, queued_within S (length M.contexts) M.cpus (λ x u. or_second (names_here p x || is_own operation context x) _ (and_true (may_steal M k) (is_queued M.cpus x) t u))))
      (λ t. inl t)
