-- One priority tried, from what its parts said. Assumes nothing.
use Rattle.std.specs.Prelude.{if◌then◌else◌, None, Err, Ok}
use mathlib.Core.Path.{◌≡◌, refl, sym, ap, ◌∙◌, subst}
use mathlib.Core.Bool.{Bool, true, false, ◌&&◌}
use mathlib.Core.List.{List}
use Prim.Native.Nat.{ℕ, ◌+◌, ◌<◌, ◌≤◌}
use native.Mathlib.Omega.{arith}
use lib.Dec.{eqb, leb, ltb}
use lib.ListN.{length, get_or, take}
use borrow.Author.Tests.{eq-eqb, ne_eqb, eqb-true, eqb-false, ltb-true, ltb-false, lt-ltb, le-ltb, leb-true, leb-false, le-leb, lt-leb}
use Rattle.columns.proofs.Tests.{by_test, clash}
use Rattle.context.specs.declared.Context.{Context}
use Rattle.context.specs.With.{with_prio}
use Rattle.percpu.specs.Places.{sched_ctxt_place}
use Rattle.machine.specs.Machine.{Machine, context_at, cpu_at, set_context}
use Rattle.machine.specs.Encode.{encode, decode, cpu_place}
use Rattle.machine.specs.Shape.{ContextFits, Fits, Image}
use Rattle.machine.proofs.Steps.{sized}
use Rattle.words.proofs.Copied.{put_back}
use Rattle.image.specs.Refusal.{size_n}
use Rattle.image.proofs.Admitted.{passed, decoded, decoded_fits, admitted}
use Rattle.stages.specs.Stage.{Ranged}
use Rattle.model.specs.Accepted.{by_switch, outcome}
use Rattle.answer.specs.declared.Answer.{Answer}
use Rattle.context_ops.specs.Wakeup.{push_local, wakeup_on}
use Rattle.context_ops.specs.Reply.{Reply, reply, refuse, replied}
use Rattle.switch_ops.specs.Reply.{decide, Attempts}
use Rattle.calls.specs.Call.{check, checked_by, switch_call}
use Rattle.calls.proofs.Called.{call_image, call_time, call_ranged, call_machine}
use Rattle.numbers.specs.Limits.{max_number}
use Rattle.priority_trial.specs.Works.{tried_machine, tried_image, has_room, in_charge_after, works}
use Rattle.priority_trial.specs.Ready.{Ready}
use Rattle.priority_trial.proofs.Changed.{tried_passes}

-- a record that was read, with another priority
pub prio_fits : {c n : ℕ} {m : List ℕ} (i : Image c n m) (x p : ℕ) (q : Context) → x < n → p < 40
    → ((M : Machine) → m ≡ encode M → Fits c n M → q ≡ context_at M.contexts x) → ContextFits c (with_prio p q)
prio_fits {c} i x p q h g f =
    let o = subst (ContextFits c) (sym (f i.M i.eq i.fits)) (i.fits.context x h)
    in record { cpu_id = o.cpu_id; prio = omega arith; rem_slice = o.rem_slice }

-- the name was put on the list, or there was no room for it
module _ {m' : List ℕ} {a : Answer} (m : List ℕ) (k x p : ℕ) (q : Context) (M : Machine) (e : q ≡ context_at M.contexts x)
    (f : reply a m' ≡ replied m (wakeup_on k x 0 (set_context x (with_prio p q) M) None)) where
  abbrev names : List ℕ
  names = (cpu_at M k).local_wakeup_list

  with_room : has_room M k ≡ true → reply a m' ≡ reply (record { refusal = 0; result = 0; interrupt = 0; rule = 0 }) (encode (tried_machine k x p M))
  unfolding replied wakeup_on cpu_at tried_machine
  with_room t = rw (lt-leb 64 (length names) (ltb-true (length names) 64 t), e) at f

  without_room : has_room M k ≡ false → reply a m' ≡ refuse 9 m
  unfolding replied wakeup_on cpu_at
  without_room t = rw (le-leb 64 (length names) (ltb-false (length names) 64 t)) at f

  pub placed : (eqb a.refusal 0 ≡ has_room M k) × (eqb a.refusal 0 ≡ true → m' ≡ encode (tried_machine k x p M))
  placed =
      by_test (has_room M k)
      (λ t. let w = with_room t in
      (rw (ap (λ (y : Reply). y.answer.refusal) w, t), λ z. ap (λ (y : Reply). y.image) w))
      (λ t. let w = without_room t in
      let r : a.refusal ≡ 9 = ap (λ (y : Reply). y.answer.refusal) w in
      (rw (r, t), λ z. clash {b = false} (rw r at z) refl))

-- of a reply
pub refused_after : (n k x : ℕ) (y : Reply) → (y.answer.refusal ≡ 0 → ⊥) → false ≡ in_charge_after n k x y
unfolding in_charge_after
refused_after n k x y z = rw (ne_eqb y.answer.refusal 0 z)

pub accepted_after : {at name : ℕ} (m : List ℕ) (n k x : ℕ) (a : Answer) → a.refusal ≡ 0 → at ≡ cpu_place n k → name ≡ x
    → eqb (get_or m (at + sched_ctxt_place) 0) name ≡ in_charge_after n k x (reply a m)
unfolding in_charge_after
accepted_after m n k x a z e f = rw (z, e, f)

module _ {c n k time x : ℕ} (m : List ℕ) (o : Ready m c n k time x) where
  pub ready_image : Image c n m
  ready_image = rw (o.cpus, o.contexts) (admitted m (passed time m o.none))

  -- the copy
  pub copied : (z : List ℕ) → take (length m) z ≡ take (length m) m → length z ≡ length m → z ≡ m
  copied z e l = put_back m m z refl e l

  pub copy_image : (z : List ℕ) → take (length m) z ≡ take (length m) m → length z ≡ length m → Image c n z
  copy_image z e l = rw (copied z e l) ready_image

  pub block_inside : (n ≤ 64) × (k < 4) × (cpu_place n (k + 1) ≤ length m)
  block_inside =
      let s = sized ready_image in
      let h : k < c = o.cpu_below in
      (s.contexts, omega (arith, s.cpus), omega (arith, s.size))

  -- m₁: the copy; m₂: the copy changed, where b says that there was room
  module _ (p : ℕ) (h : p < 40) (m₁ m₂ : List ℕ) (b : Bool) (e : m₁ ≡ m)
      (f : (M : Machine) → m₁ ≡ encode M → Fits c n M → (b ≡ has_room M k) × (b ≡ true → m₂ ≡ encode (tried_machine k x p M))) where
    there : (b ≡ has_room (decode m) k) × (b ≡ true → m₂ ≡ tried_image m k x p)
    there =
        let w = passed time m o.none in
        f (decode m) (e ∙ decoded m w) (rw (o.cpus, o.contexts) (decoded_fits m w))

    pub full_fails : b ≡ false → false ≡ works m k time x p
    unfolding works
    full_fails t = rw (sym there.0 ∙ t)

    module _ (t : b ≡ true) where
      room : has_room (decode m) k ≡ true
      room = sym there.0 ∙ t

      passes : Ok (c, n) ≡ check m₂ time
      passes = rw (there.1 t) (tried_passes m p o h room)

      pub ready_to_switch : record { image : Image c n m₂; time_le_max_number : time ≤ max_number; ranged : Ranged c n max_number max_number m₂ }
      ready_to_switch =
          record { image = call_image m₂ time _ passes c n refl; time_le_max_number = call_time m₂ time _ passes c n refl; ranged = call_ranged m₂ time _ passes c n refl }

      -- m₃: what the switch left, which answered a; s: what was then read
      module _ {a : Answer} (m₃ : List ℕ) (cpu : ℕ) (is : cpu ≡ k) (s : Bool)
          (g : (M : Machine) → m₂ ≡ encode M → Fits c n M → Attempts m₃ a (decide m₂ M cpu time by_switch) (outcome by_switch cpu time M).machine)
          (r : s ≡ in_charge_after n k x (reply a m₃)) where
        tried : Attempts m₃ a (switch_call m₂ k time) (outcome by_switch cpu time (decode m₂)).machine
        unfolding checked_by
        tried =
            let w : Attempts m₃ a (decide m₂ (decode m₂) cpu time by_switch) (outcome by_switch cpu time (decode m₂)).machine
            = call_machine m₂ time _ passes {A = λ M. Attempts m₃ a (decide m₂ M cpu time by_switch) (outcome by_switch cpu time M).machine} c n refl g
            in let y : decide m₂ (decode m₂) cpu time by_switch ≡ switch_call m₂ k time = rw (← passes, is)
            in rw (← y) w

        same_after : in_charge_after n k x (reply a m₃) ≡ in_charge_after n k x (switch_call m₂ k time)
        same_after =
            by_test (eqb a.refusal 0)
            (λ z. ap (in_charge_after n k x) (tried.replies (eqb-true a.refusal 0 z)).replies)
            (λ z. sym (refused_after n k x (reply a m₃) (eqb-false a.refusal 0 z))
            ∙ refused_after n k x (switch_call m₂ k time) (λ y. eqb-false a.refusal 0 z (ap (λ (v : Answer). v.refusal) tried.answers ∙ y)))

        pub switch_tells : s ≡ works m k time x p
        unfolding works
        switch_tells = rw room (r ∙ same_after ∙ ap (in_charge_after n k x) (ap (λ (l : List ℕ). switch_call l k time) (there.1 t)) ∙ ap (λ (y : ℕ). in_charge_after y k x (switch_call (tried_image m k x p) k time)) o.contexts)
