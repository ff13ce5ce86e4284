-- Operations 4 to 7 leave a machine well-formed. Assumes nothing.
use Rattle.std.specs.Prelude.{None, Option, Some}
use mathlib.Core.Path.{◌≡◌, refl, sym, ◌∙◌, subst}
use mathlib.Core.Bool.{true, false}
use mathlib.Core.List.{[], ◌∷◌, ◌++◌}
use Prim.Native.Nat.{ℕ, ◌-◌, ◌<◌}
use native.Mathlib.Omega.{arith}
use lib.Dec.{leb, eqb}
use lib.ListN.{length, set, length-set, length-append}
use borrow.Author.Tests.{ltb-false, leb-false}
use Rattle.context.specs.declared.Context.{Context}
use Rattle.context.specs.Block.{Changed}
use Rattle.context.specs.declared.Status.{Status}
use Rattle.context.specs.Status.{is_runnable, is_soft_blocked}
use Rattle.context.specs.Block.{blocked_as, unblocked}
use Rattle.percpu.specs.Cpu.{Cpu}
use Rattle.percpu.specs.With.{cpu_local_wakeup_list, cpu_ipi_context_wakeup_list}
use Rattle.machine.specs.Machine.{Machine, context_at, cpu_at, set_context, set_cpu, no_cpu}
use Rattle.machine.specs.Outcome.{Outcome}
use Rattle.machine.proofs.Steps.{get_d_set}
use Rattle.machine.proofs.LookUps.{IsPresent}
use Rattle.machine.proofs.LookUps as look_ups
use Rattle.model.proofs.Cases.{by_test, pick}
use Rattle.context_ops.specs.Wakeup.{other_cpu, push_local, push_ipi, wakeup_on, wakeup_context}
use Rattle.context_ops.specs.Operations.{unblock_context, drain_ipi_context_wakeups, block_with}
use Rattle.model_timers.specs.Timers.{Alone}
use Rattle.model_leaves.proofs.WellFormed.{fixed, changing, LiveName, view, CpuFormed, Room, Stands, present, WellFormed}
use Rattle.model_leaves.proofs.Lists.{names_more, present_formed}
use Rattle.model_leaves.proofs.Kept.{set_kept}
use Rattle.model_leaves.proofs.Deciding.{each_stands, contexts_start, machine_formed}

-- the truth of a change aside, nothing that the check looks at changes but the status
pub record SameViews (a b : Context) : Type 0 where
  pub same_fixed : fixed b ≡ fixed a
  pub same_changing : changing b ≡ changing a

blocked_same : (s : Status) (q : Context) → SameViews q (blocked_as s q).context
unfolding blocked_as
blocked_same s q =
    pick (λ (d : Changed). SameViews q d.context) (is_runnable q.status) (λ z. record { same_fixed = refl; same_changing = refl }) (λ z. record { same_fixed = refl; same_changing = refl })

unblocked_same : (q : Context) → SameViews q (unblocked q).context
unfolding unblocked
unblocked_same q =
    pick (λ (d : Changed). SameViews q d.context) (is_soft_blocked q.status) (λ z. record { same_fixed = refl; same_changing = refl }) (λ z. record { same_fixed = refl; same_changing = refl })

-- the CPU of a record's CPU word is present
pub other_present : (k w t : ℕ) (M : Machine) → Some t ≡ other_cpu k w M → IsPresent M (w - 1) t
unfolding other_cpu
other_present k w t M e =
    by_test (eqb w 0) (λ f. no (rw f at e)) (λ f. by_test (eqb (w - 1) k) (λ g. no (rw (f, g) at e)) (λ g. look_ups.present M (w - 1) t (rw (f, g) at e)))
  where
    no : Some t ≡ None → IsPresent M (w - 1) t
    no z = let y : ◌≡◌ {A = ℕ} 0 1 = cc in absurd (omega arith)

module _ (c n : ℕ) (M : Machine) (W : WellFormed c n M) where
  context_leaves : (x : ℕ) (q : Context) → LiveName n M.contexts x → SameViews (context_at M.contexts x) q → WellFormed c n (set_context x q M)
  unfolding cpu_at
  context_leaves x q a e =
      machine_formed c n M W (set M.contexts x q) M.cpus (length-set M.contexts x q ∙ W.contexts)
      (set_kept c n M.contexts M.contexts x q W.contexts (contexts_start c n M W) a e.same_fixed (λ z. rw e.same_changing z)) W.cpus (each_stands c n M W) W.alone

  cpu_leaves : (k : ℕ) (p : Cpu) → CpuFormed n M.contexts (view p) → Room (view p).lists → Alone p.timers → WellFormed c n (set_cpu k p M)
  unfolding cpu_at
  cpu_leaves k p f r a =
      machine_formed c n M W M.contexts (set M.cpus k p) W.contexts (contexts_start c n M W) (length-set M.cpus k p ∙ W.cpus)
      (λ j. get_d_set M.cpus k j p no_cpu (Stands n M.contexts) (present f r) (each_stands c n M W j))
      (λ j. get_d_set M.cpus k j p no_cpu (λ (y : Cpu). Alone y.timers) a (W.alone j))

  module _ (k : ℕ) (here : k < c) (is : (cpu_at M k).block.present ≡ true) where
    abbrev p : Cpu
    p = cpu_at M k

    cpu_formed : CpuFormed n M.contexts (view p) × Room (view p).lists
    cpu_formed = present_formed p is (W.cpu k here)

    pub local_leaves : (x : ℕ) → x < n → leb 64 (length p.local_wakeup_list) ≡ false → WellFormed c n (push_local k x M)
    unfolding push_local
    local_leaves x h z =
        let (f, r) = cpu_formed in
        let l = f.lists in
        let b : length p.local_wakeup_list < 64 = leb-false 64 _ z in
        cpu_leaves k (cpu_local_wakeup_list (p.local_wakeup_list ++ (x ∷ [])) p)
        (record { scalars = f.scalars; lists = record { queue = l.queue; timers = l.timers; local = names_more n p.local_wakeup_list (x ∷ []) l.local (h, tt); ipi = l.ipi } })
        (record { queue = r.queue; timers = r.timers; local = rw length-append (omega arith); ipi = r.ipi; queue_len = r.queue_len }) (W.alone k)

    ipi_leaves : (x : ℕ) → x < n → leb 64 (length p.ipi_context_wakeup_list) ≡ false → WellFormed c n (push_ipi k x M)
    unfolding push_ipi
    ipi_leaves x h z =
        let (f, r) = cpu_formed in
        let l = f.lists in
        let b : length p.ipi_context_wakeup_list < 64 = leb-false 64 _ z in
        cpu_leaves k (cpu_ipi_context_wakeup_list (p.ipi_context_wakeup_list ++ (x ∷ [])) p)
        (record { scalars = f.scalars; lists = record { queue = l.queue; timers = l.timers; local = l.local; ipi = names_more n p.ipi_context_wakeup_list (x ∷ []) l.ipi (h, tt) } })
        (record { queue = r.queue; timers = r.timers; local = r.local; ipi = rw length-append (omega arith); queue_len = r.queue_len }) (W.alone k)

    -- operation 5
    pub drain_leaves : (drain_ipi_context_wakeups k M).no_room ≡ false → WellFormed c n (drain_ipi_context_wakeups k M).machine
    unfolding drain_ipi_context_wakeups
    drain_leaves z =
        let (f, r) = cpu_formed in
        let l = f.lists in
        cpu_leaves k (cpu_local_wakeup_list (p.local_wakeup_list ++ p.ipi_context_wakeup_list) (cpu_ipi_context_wakeup_list [] p))
        (record { scalars = f.scalars; lists = record { queue = l.queue; timers = l.timers; local = names_more n p.local_wakeup_list p.ipi_context_wakeup_list l.local l.ipi; ipi = tt } })
        (record { queue = r.queue; timers = r.timers; local = ltb-false 64 _ z; ipi = omega arith; queue_len = r.queue_len }) (W.alone k)

  -- operations 6 and 7
  pub block_leaves : (s : Status) (x : ℕ) → LiveName n M.contexts x → WellFormed c n (block_with s x M).machine
  unfolding block_with
  block_leaves s x a = context_leaves x _ a (blocked_same s (context_at M.contexts x))

abbrev Leaves : ℕ → ℕ → Outcome → Type 0
Leaves c n o = o.no_room ≡ false → WellFormed c n o.machine

-- a name goes on a list of a present CPU
wakeup_by : (c n k x r : ℕ) (M : Machine) → WellFormed c n M → k < c → (cpu_at M k).block.present ≡ true → x < n → (w : ℕ) (p : Option ℕ) → p ≡ other_cpu k w M
    → Leaves c n (wakeup_on k x r M p)
unfolding wakeup_on
wakeup_by c n k x r M W h e b w None f = local_leaves c n M W k h e x b
wakeup_by c n k x r M W h e b w (Some t) f =
    let i = other_present k w t M f in
    let l : t < c = omega (arith, i.is, i.below, W.cpus) in
    ipi_leaves c n M W t l (subst (λ (j : ℕ). (cpu_at M j).block.present ≡ true) (sym i.is) i.present) x b

wakeup_leaves : (c n k x r : ℕ) (M : Machine) → WellFormed c n M → k < c → (cpu_at M k).block.present ≡ true → x < n → Leaves c n (wakeup_context k x r M)
unfolding wakeup_context
wakeup_leaves c n k x r M W h e b = wakeup_by c n k x r M W h e b (context_at M.contexts x).cpu_id (other_cpu k (context_at M.contexts x).cpu_id M) refl

-- operation 4
pub unblock_leaves : (c n k x : ℕ) (M : Machine) → WellFormed c n M → k < c → (cpu_at M k).block.present ≡ true → LiveName n M.contexts x
    → (unblock_context k x M).no_room ≡ false → WellFormed c n (unblock_context k x M).machine
unfolding unblock_context cpu_at
unblock_leaves c n k x M W h e a =
    let q : Context = context_at M.contexts x in
    let M₁ : Machine = set_context x (unblocked q).context M in
    let W₁ : WellFormed c n M₁ = context_leaves c n M W x (unblocked q).context a (unblocked_same q) in
    pick (Leaves c n) (unblocked q).done (λ z. wakeup_leaves c n k x 1 M₁ W₁ h e a.below)
    (λ z. pick (Leaves c n) (is_runnable q.status) (λ y. wakeup_leaves c n k x 0 M W h e a.below) (λ y t. W))
