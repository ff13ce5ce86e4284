-- What is answered, from what was decided by value. Assumes nothing.
use Rattle.std.specs.Prelude.{None, Option, Some}
use mathlib.Core.Path.{◌≡◌, sym, ap, ◌∙◌, subst}
use mathlib.Core.Bool.{true, false}
use mathlib.Core.List.{List}
use Prim.Native.Nat.{ℕ, ◌<◌, ◌≤◌}
use native.Mathlib.Omega.{arith}
use lib.ListN.{length}
use borrow.Author.Tests.{ne_eqb}
use Rattle.numbers.specs.Limits.{max_number}
use Rattle.machine.specs.Machine.{Machine}
use Rattle.machine.specs.Encode.{encode, cpu_place}
use Rattle.machine.specs.Shape.{Image, Fits}
use Rattle.machine.specs.LookUp.{look_up, get_percpu_block}
use Rattle.machine.specs.Outcome.{Outcome}
use Rattle.machine.proofs.Places.{length_encode}
use Rattle.machine.proofs.LookUps.{live, present}
use Rattle.model.specs.Accepted.{Call, by_tick, by_switch, by_direct_switch}
use Rattle.stages.specs.Stage.{Ranged}
use Rattle.answer.specs.declared.Answer.{Answer}
use Rattle.context_ops.specs.Reply.{Reply, reply, replied}
use Rattle.switch_ops.specs.declared.Decision.{Decision}
use Rattle.switch_ops.specs.declared.Decision.TheVariants.{DirectSwitchTo}
use Rattle.switch_ops.specs.Reply.{call_of, refusal, TargetBelow}
use Rattle.switch_ops.proofs.Answered.{in_time}
use Rattle.plain_model.specs.State.{placed_machine}
use Rattle.plain_model.specs.Schedule.{outcome_before, plain_outcome}
use Rattle.plain_words.specs.Stored.{ImageSized, Encoded}
use Rattle.plain_decide.specs.declared.switching.Decided.{Decided}
use Rattle.plain_decide.specs.Decided.{decided_in, DecidedTracks}
use Rattle.plain_ops.specs.Loaded.{Callable}
use Rattle.calls.specs.Call.{checked, call}
use Rattle.plain_calls.specs.Call.{decide_on, decide_by, decide, direct_switch_by, plain_call}

-- refusals 6 to 8, by the code's enum
pub refusal_is : (c n k time : ℕ) (m : List ℕ) (d e : Decision) (r : ℕ) → d ≡ e → ((M : Machine) → m ≡ encode M → Fits c n M → r ≡ refusal (call_of e) M k time)
    → (M : Machine) → m ≡ encode M → Fits c n M → r ≡ refusal (call_of d) M k time
refusal_is c n k time m d e r h f M y o = subst (λ (z : Decision). r ≡ refusal (call_of z) M k time) (sym h) (f M y o)

pub sized : {c n : ℕ} {m : List ℕ} → Image c n m → ImageSized c n m
sized {c} {n} {m} i =
    record {
      bounds = (i.fits.bounds.1, i.fits.bounds.3);
      size = ap length i.eq ∙ length_encode i.M ∙ (λ j. cpu_place (i.fits.contexts j) (i.fits.cpus j));
    }

-- r: the number of the refusal
module _ (c n k time : ℕ) (d : Decision) (m : List ℕ) {r : ℕ} (hr : (M : Machine) → m ≡ encode M → Fits c n M → r ≡ refusal (call_of d) M k time) where
  pub callable : k < c → time ≤ max_number → TargetBelow n d → Ranged c n max_number max_number m → r ≡ 0 → Callable c n k time d m
  callable h l t g z = record { here = h; soon = l; ranged = g; in_time = λ M e f. in_time (call_of d) M k time r (hr M e f) z; target = t }

  module _ (M : Machine) (e : m ≡ encode M) (f : Fits c n M) where
    pub refused_on : {a : Answer} → (r ≡ 0 → ⊥) → a ≡ record { refusal = r; result = 0; interrupt = 0; rule = 0 } → reply a m ≡ decide_on m M k time (call_of d)
    unfolding decide_on
    refused_on {a} z h = rw (← hr M e f, ne_eqb r 0 z) (ap (λ (b : Answer). reply b m) h)

    passes : {y : Reply} → r ≡ 0 → y ≡ replied m (plain_outcome (call_of d) k time M) → y ≡ decide_on m M k time (call_of d)
    unfolding decide_on
    passes z h = rw (sym (hr M e f) ∙ z) h

    -- g: what was decided
    module _ {g : Decided} (t : DecidedTracks n c k g (outcome_before (call_of d) k time M)) (z : r ≡ 0) where
      without_room : {a : Answer} → g.state.no_room ≡ true → a ≡ record { refusal = 9; result = 0; interrupt = 0; rule = 0 } → reply a m ≡ replied m (plain_outcome (call_of d) k time M)
      unfolding plain_outcome replied
      without_room {a} y h =
          let u : (outcome_before (call_of d) k time M).no_room ≡ true = sym t.room ∙ y in
          rw u (ap (λ (b : Answer). reply b m) h)

      pub no_room : {a : Answer} → g.state.no_room ≡ true → a ≡ record { refusal = 9; result = 0; interrupt = 0; rule = 0 } → reply a m ≡ decide_on m M k time (call_of d)
      no_room y h = passes z (without_room y h)

      with_room : {a : Answer} {m' : List ℕ} → g.state.no_room ≡ false → Encoded c n m m' (λ (N : Machine). placed_machine (decided_in n c k g).machine)
          → a ≡ record { refusal = 0; result = g.result; interrupt = 0; rule = g.rule } → reply a m' ≡ replied m (plain_outcome (call_of d) k time M)
      unfolding plain_outcome replied
      with_room {a} {m'} y s h =
          let o : Outcome = outcome_before (call_of d) k time M in
          let u : o.no_room ≡ false = sym t.room ∙ y in
          let p : decided_in n c k g ≡ o = t.is u in
          let w : m' ≡ encode (placed_machine o.machine) = s.encoded M f.cpus f.contexts e ∙ ap (λ (x : Outcome). encode (placed_machine x.machine)) p in
          let v : o.interrupt ≡ false = sym (ap (λ (x : Outcome). x.interrupt) p) in
          let q : a ≡ record { refusal = 0; result = o.result; interrupt = 0; rule = o.rule } = h ∙ (λ i. record { refusal = 0; result = (p i).result; interrupt = 0; rule = (p i).rule }) in
          rw (u, v) (λ i. reply (q i) (w i))

      pub has_room : {a : Answer} {m' : List ℕ} → g.state.no_room ≡ false → Encoded c n m m' (λ (N : Machine). placed_machine (decided_in n c k g).machine)
          → a ≡ record { refusal = 0; result = g.result; interrupt = 0; rule = g.rule } → reply a m' ≡ decide_on m M k time (call_of d)
      has_room y s h = passes z (with_room y s h)

-- p: what looking up the CPU gave
module _ (m : List ℕ) (M : Machine) (cpu time : ℕ) (call : Call) (p : Option ℕ) (hp : p ≡ get_percpu_block M cpu) where
  pub absent : {a : Answer} → p ≡ None → a ≡ record { refusal = 5; result = 0; interrupt = 0; rule = 0 } → reply a m ≡ decide m M cpu time call
  unfolding decide_by
  absent e h = rw (← hp, e) (ap (λ (b : Answer). reply b m) h)

  pub present_on : {a : Answer} {m' : List ℕ} (k : ℕ) → p ≡ Some k → reply a m' ≡ decide_on m M k time call → reply a m' ≡ decide m M cpu time call
  unfolding decide_by
  present_on k e f = rw (← hp, e) f

pub present_below : {c n : ℕ} {m : List ℕ} (i : Image c n m) (cpu k : ℕ) (p : Option ℕ) → ((M : Machine) → m ≡ encode M → Fits c n M → p ≡ get_percpu_block M cpu) → p ≡ Some k → k < c
present_below {c} i cpu k p h e =
    let w = present i.M cpu k (sym e ∙ h i.M i.eq i.fits) in
    let u : k ≡ cpu = w.is in
    omega (arith, w.below, i.fits.cpus)

-- l: what looking up the context gave
module _ (m : List ℕ) (M : Machine) (cpu time context : ℕ) (l : Option ℕ) (hl : l ≡ look_up M context) where
  pub gone : {a : Answer} → l ≡ None → a ≡ record { refusal = 5; result = 0; interrupt = 0; rule = 0 } → reply a m ≡ direct_switch_by m M cpu time (look_up M context)
  unfolding direct_switch_by
  gone e h = rw (← hl, e) (ap (λ (b : Answer). reply b m) h)

  pub alive : {a : Answer} {m' : List ℕ} (x : ℕ) → l ≡ Some x → reply a m' ≡ decide m M cpu time (by_direct_switch x) → reply a m' ≡ direct_switch_by m M cpu time (look_up M context)
  unfolding direct_switch_by
  alive x e f = rw (← hl, e) f

pub live_below : {c n : ℕ} {m : List ℕ} (i : Image c n m) (context x : ℕ) (l : Option ℕ) → ((M : Machine) → m ≡ encode M → Fits c n M → l ≡ look_up M context) → l ≡ Some x → TargetBelow n (DirectSwitchTo x)
live_below {n = n} i context x l h e y z =
    let w = live i.M context x (sym e ∙ h i.M i.eq i.fits) in
    let u : x ≡ context = w.is in
    let v : x ≡ y = cc in
    omega (arith, w.below, i.fits.contexts)

-- by the operation's number
module _ {y : Reply} (m : List ℕ) (operation cpu time context : ℕ) where
  pub on_tick : operation ≡ 1 → y ≡ checked m time (λ (M : Machine). decide m M cpu time by_tick) → y ≡ plain_call m operation cpu time context
  unfolding plain_call
  on_tick e h = rw e h

  pub on_switch : operation ≡ 2 → y ≡ checked m time (λ (M : Machine). decide m M cpu time by_switch) → y ≡ plain_call m operation cpu time context
  unfolding plain_call
  on_switch e h = rw e h

  pub on_direct_switch : operation ≡ 3 → y ≡ checked m time (λ (M : Machine). direct_switch_by m M cpu time (look_up M context)) → y ≡ plain_call m operation cpu time context
  unfolding plain_call
  on_direct_switch e h = rw e h

  pub delegated : (operation ≡ 1 → ⊥) → (operation ≡ 2 → ⊥) → (operation ≡ 3 → ⊥) → y ≡ call m operation cpu time context → y ≡ plain_call m operation cpu time context
  unfolding plain_call
  delegated a b c h = rw (ne_eqb operation 1 a, ne_eqb operation 2 b, ne_eqb operation 3 c) h
