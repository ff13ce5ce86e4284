-- An image in which a priority was stored and a name put on a local list passes the check as before. Assumes nothing.
use Rattle.std.specs.Prelude.{Err, Ok}
use mathlib.Core.Path.{◌≡◌, refl, sym, ap, ◌∙◌, subst}
use mathlib.Core.Bool.{Bool, true, false}
use mathlib.Core.List.{List}
use Prim.Native.Nat.{ℕ, ◌<◌, ◌≤◌}
use native.Mathlib.Omega.{arith}
use lib.Dec.{eqb, leb, ltb}
use lib.ListN.{length, set, length-set}
use lib.Seq.{get_or-set_other}
use borrow.Author.Tests.{eqb-true, eqb-false, ltb-true, lt-leb}
use Rattle.columns.proofs.Tests.{by_test, clash}
use Rattle.context.specs.declared.Context.{Context}
use Rattle.context.specs.With.{with_prio}
use Rattle.machine.specs.Machine.{Machine, context_at, cpu_at, set_context, no_context}
use Rattle.machine.specs.Encode.{encode, decode}
use Rattle.machine.proofs.Steps.{get_d_set}
use Rattle.image.specs.Refusal.{size_c, size_n, image_refusal}
use Rattle.image.proofs.Admitted.{Passed, passed}
use Rattle.context_ops.specs.Wakeup.{push_local}
use Rattle.model_leaves.proofs.WellFormed.{LiveName, ContextFormed, WellFormed}
use Rattle.model_leaves.proofs.Lists.{SameName, stands_named}
use Rattle.model_leaves.proofs.Operations.{local_leaves}
use Rattle.model_leaves.proofs.Decoding.{well_formed}
use Rattle.model_leaves.proofs.Records.{ContextRaised}
use Rattle.model_leaves.proofs.Passing.{MachineRaised, cpus_are, names_are, machine_passes}
use Rattle.model_leaves.proofs.Raising.{decoded_raised, set_raised, lists_raised}
use Rattle.calls.specs.Call.{check}
use Rattle.calls.proofs.Called.{check_passed}
use Rattle.numbers.specs.Limits.{max_number}
use Rattle.priority_trial.specs.Works.{tried_machine, tried_image, has_room}
use Rattle.priority_trial.specs.Ready.{Ready}

-- priority p in context x's record
module _ (c n : ℕ) (M : Machine) (W : WellFormed c n M) (x p : ℕ) (a : LiveName n M.contexts x) (h : p < 40) where
  abbrev q : Context
  q = with_prio p (context_at M.contexts x)

  abbrev cs : List Context
  cs = set M.contexts x q

  record_formed : ContextFormed c q
  record_formed =
      let o = W.context x a.below in
      let f = o.fixed_formed a.live in
      record {
        id = o.id;
        gone = λ z. clash z a.live;
        fixed_formed = λ z. record { sched_affinity = f.sched_affinity; prio = omega arith; lock = f.lock; addr_space = f.addr_space };
        changing_formed = o.changing_formed;
      }

  same_name : (y : ℕ) → SameName (context_at M.contexts y) (context_at cs y)
  same_name y =
      by_test (eqb y x)
      (λ t. let e : y ≡ x = eqb-true y x t in
      rw e (get_d_set M.contexts x x q no_context (SameName (context_at M.contexts x)) (record { gone = refl; id = refl }) (record { gone = refl; id = refl })))
      (λ t. let e : context_at cs y ≡ context_at M.contexts y = get_or-set_other M.contexts x y q no_context (λ s. eqb-false y x t s) in
      record { gone = ap (λ (b : Context). b.gone) e; id = ap (λ (b : Context). b.debug_id) e })

  pub priority_formed : WellFormed c n (set_context x q M)
  unfolding cpu_at
  priority_formed =
      record {
        bounds = W.bounds;
        cpus = W.cpus;
        contexts = length-set M.contexts x q ∙ W.contexts;
        context = λ y g. get_d_set M.contexts x y q no_context (ContextFormed c) record_formed (W.context y g);
        ids_differ = λ y z g l e. W.ids_differ y z g l (sym (same_name y).id ∙ e ∙ (same_name z).id);
        cpu = λ k g. stands_named M.contexts cs (λ y l. same_name y) (cpu_at M k) (W.cpu k g);
        alone = W.alone;
      }

  priority_raised : MachineRaised max_number c n M → MachineRaised max_number c n (set_context x q M)
  priority_raised r =
      let o = r.context x a.below in
      set_raised max_number c n x q M
      (record { active_cpu_time = o.active_cpu_time; sched_cpu_time = o.sched_cpu_time; vtime = o.vtime; vd = o.vd; key_vd = o.key_vd }) r

  -- and the name on CPU k's local list
  module _ (k : ℕ) (here : k < c) (is : (cpu_at M k).block.present ≡ true) (room : has_room M k ≡ true) where
    pub tried_formed : WellFormed c n (tried_machine k x p M)
    unfolding tried_machine cpu_at
    tried_formed = local_leaves c n (set_context x q M) priority_formed k here is x a.below (lt-leb 64 (length (cpu_at M k).local_wakeup_list) (ltb-true (length (cpu_at M k).local_wakeup_list) 64 room))

    pub tried_raised : MachineRaised max_number c n M → MachineRaised max_number c n (tried_machine k x p M)
    unfolding tried_machine push_local
    tried_raised r = lists_raised max_number c n k _ (set_context x q M) here refl refl (priority_raised r)

-- an image that is ready for a trial passes with any priority, where there is room for the name
pub tried_passes : {c n k time x : ℕ} (m : List ℕ) (p : ℕ) → Ready m c n k time x → p < 40 → has_room (decode m) k ≡ true
    → Ok (c, n) ≡ check (tried_image m k x p) time
tried_passes {c} {n} {k} {time} {x} m p r h room =
    let o : Passed time m = passed time m r.none in
    let W : WellFormed c n (decode m) = rw (r.cpus, r.contexts) (well_formed m o) in
    let a : LiveName n (decode m).contexts x = record { below = r.below; live = r.live } in
    let W' : WellFormed c n (tried_machine k x p (decode m)) = tried_formed c n (decode m) W x p a h k r.cpu_below r.present room in
    let R : MachineRaised max_number c n (decode m) = rw (r.cpus, r.contexts) (decoded_raised m o) in
    let R' = tried_raised c n (decode m) W x p a h k r.cpu_below r.present room R in
    check_passed (tried_image m k x p) time 0 c n (sym (machine_passes c n (tried_machine k x p (decode m)) W' time o.words.time_most R')) refl
    (sym (cpus_are c n (tried_machine k x p (decode m)) W')) (sym (names_are c n (tried_machine k x p (decode m)) W'))
