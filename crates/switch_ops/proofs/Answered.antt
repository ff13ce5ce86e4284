-- What is answered, from what following the source gave. Assumes nothing.
use Rattle.std.specs.Prelude.{None, Option, Some}
use mathlib.Core.Path.{◌≡◌, sym, ap, ◌∙◌, subst}
use mathlib.Core.Bool.{Bool, true, false, not, ◌&&◌}
use Prim.Native.Nat.{ℕ, ◌<◌, ◌≤◌}
use native.Mathlib.Omega.{arith}
use mathlib.Core.List.{List}
use lib.Dec.{eqb}
use borrow.Author.Tests.{ne_eqb, ltb-false}
use Rattle.columns.proofs.Tests.{by_test, past}
use Rattle.machine.specs.Machine.{Machine, context_at, cpu_at}
use Rattle.machine.specs.Encode.{encode, decode}
use Rattle.machine.specs.Shape.{Fits}
use Rattle.machine.specs.LookUp.{look_up, get_percpu_block}
use Rattle.machine.specs.Outcome.{Outcome}
use Rattle.machine.proofs.Decoded.{decode_encode}
use Rattle.machine.proofs.LookUps.{live, present}
use Rattle.model.specs.Turn.{elapsed}
use Rattle.model.specs.Accepted.{Call, by_tick, by_switch, by_direct_switch, outcome}
use Rattle.admission.specs.Refusals.{decision_locked, is_late, decision_refusal, direct_refusal}
use Rattle.schedule.specs.Decides.{Told, DecidesAt}
use Rattle.answer.specs.declared.Answer.{Answer}
use Rattle.context_ops.specs.Reply.{Reply, reply, replied}
use Rattle.switch_ops.specs.declared.Decision.TheVariants.{Tick, Switch, DirectSwitchTo}
use Rattle.switch_ops.specs.Reply.{refusal, decide_on, decide_by, decide, direct_switch_by, direct_switch, Replies, Attempts, TargetBelow}
use Rattle.numbers.specs.Limits.{max_elapsed}

pub decodes : {c n : ℕ} (M : Machine) → Fits c n M → decode (encode M) ≡ M
decodes M o =
    decode_encode M
    (λ k h.
    let f = o.cpu k (omega (arith, o.cpus))
    in record { queue = f.queue; timers = f.timers; local = f.local; ipi = f.ipi })

-- there was room
pub room : {c n : ℕ} {m' : List ℕ} {r : Told} {a : Answer} (m : List ℕ) (o : Outcome) {full : Bool} → full ≡ false → DecidesAt c n m' full r o
    → a ≡ record { refusal = 0; result = r.result; interrupt = 0; rule = r.rule } → Replies m' a (replied m o) o.machine
unfolding replied
room {m' = m'} {r = r} m o t d h =
    let e : o.no_room ≡ false = sym d.room ∙ t
    in record {
      replies = rw (e, d.interrupt, h) (λ i. record { answer = record { refusal = 0; result = (d.result t i).result; interrupt = 0; rule = (d.result t i).rule }; image = d.after t i });
      leaves = λ z. ap decode (d.after t) ∙ decodes o.machine (d.fits t);
    }

pub attempt_room : {c n : ℕ} {m' : List ℕ} {r : Told} {a : Answer} (m : List ℕ) (o : Outcome) {full : Bool} → full ≡ false → DecidesAt c n m' full r o
    → a ≡ record { refusal = 0; result = r.result; interrupt = 0; rule = r.rule } → Attempts m' a (replied m o) o.machine
attempt_room m o t d h = let w = room m o t d h in record { answers = ap (λ (y : Reply). y.answer) w.replies; replies = λ z. w }

-- there was none
pub attempt_no_room : {c n : ℕ} {m' : List ℕ} {r : Told} {a : Answer} (m : List ℕ) (o : Outcome) {full : Bool} → full ≡ true → DecidesAt c n m' full r o
    → a ≡ record { refusal = 9; result = 0; interrupt = 0; rule = 0 } → Attempts m' a (replied m o) o.machine
unfolding replied
attempt_no_room m o t d h =
    record {
      answers = rw (sym d.room ∙ t) h;
      replies = λ z. let w : ◌≡◌ {A = ℕ} 9 0 = cc in absurd (omega arith);
    }

module _ {m' : List ℕ} {a : Answer} (m : List ℕ) (o : Outcome) (t : Attempts m' a (replied m o) o.machine) where
  -- where there is room for certain
  pub certain_replies : o.no_room ≡ false → Replies m' a (replied m o) o.machine
  unfolding replied
  certain_replies e = t.replies (ap (λ (b : Answer). b.refusal) (rw e at t.answers))

  -- where the call was refused and the words were put back
  pub kept_replies : {m'' : List ℕ} → (a.refusal ≡ 0 → ⊥) → m'' ≡ m → Replies m'' a (replied m o) o.machine
  unfolding replied
  kept_replies n e =
      by_test o.no_room
      (λ s. record {
        replies = rw (s, e) (ap (λ (b : Answer). reply b m) (rw s at t.answers));
        leaves = λ z. absurd (n z);
      })
      (λ s. absurd (n (ap (λ (b : Answer). b.refusal) (rw s at t.answers))))

-- a refused call
module _ (m : List ℕ) (M : Machine) (time : ℕ) (call : Call) where
  pub refused_on : {a : Answer} (k r : ℕ) → r ≡ refusal call M k time → (r ≡ 0 → ⊥) → a ≡ record { refusal = r; result = 0; interrupt = 0; rule = 0 }
      → Replies m a (decide_on m M k time call) (outcome call k time M).machine
  unfolding decide_on
  refused_on {a} k r e n h =
      record {
        replies = rw (← e, ne_eqb r 0 n, h);
        leaves = λ z. absurd (n (sym (ap (λ (b : Answer). b.refusal) h) ∙ z));
      }

  pub accepted_on : {a : Answer} {m' : List ℕ} (k r : ℕ) → r ≡ refusal call M k time → r ≡ 0 → Replies m' a (replied m (outcome call k time M)) (outcome call k time M).machine
      → Replies m' a (decide_on m M k time call) (outcome call k time M).machine
  unfolding decide_on
  accepted_on k r e n h = rw (sym e ∙ n) h

  -- p: what looking up the CPU gave
  module _ (cpu : ℕ) (p : Option ℕ) (hp : p ≡ get_percpu_block M cpu) where
    pub absent : {a : Answer} → p ≡ None → a ≡ record { refusal = 5; result = 0; interrupt = 0; rule = 0 } → Replies m a (decide m M cpu time call) (outcome call cpu time M).machine
    unfolding decide_by
    absent e h =
        record {
          replies = rw (← hp, e, h);
          leaves = λ z. let w : ◌≡◌ {A = ℕ} 5 0 = cc in absurd (omega arith);
        }

    pub present_on : {a : Answer} {m' : List ℕ} (k : ℕ) → p ≡ Some k → Replies m' a (decide_on m M k time call) (outcome call k time M).machine
        → Replies m' a (decide m M cpu time call) (outcome call cpu time M).machine
    unfolding decide_by
    present_on {a} {m'} k e f =
        let i = (present M cpu k (sym e ∙ hp)).is
        in rw (← hp, e) (subst (λ (j : ℕ). Replies m' a (decide_on m M k time call) (outcome call j time M).machine) i f)

-- operation 3; l: what looking up the context gave
module _ (m : List ℕ) (M : Machine) (cpu time context : ℕ) (l : Option ℕ) (hl : l ≡ look_up M context) where
  pub gone : {a : Answer} → l ≡ None → a ≡ record { refusal = 5; result = 0; interrupt = 0; rule = 0 }
      → Replies m a (direct_switch m M cpu time context) (outcome (by_direct_switch context) cpu time M).machine
  unfolding direct_switch_by
  gone e h =
      record {
        replies = rw (← hl, e, h);
        leaves = λ z. let w : ◌≡◌ {A = ℕ} 5 0 = cc in absurd (omega arith);
      }

  pub alive : {a : Answer} {m' : List ℕ} (x : ℕ) → l ≡ Some x → Replies m' a (decide m M cpu time (by_direct_switch x)) (outcome (by_direct_switch x) cpu time M).machine
      → Replies m' a (direct_switch m M cpu time context) (outcome (by_direct_switch context) cpu time M).machine
  unfolding direct_switch_by
  alive {a} {m'} x e f =
      let i = (live M context x (sym e ∙ hl)).is
      in rw (← hl, e) (subst (λ (j : ℕ). Replies m' a (decide m M cpu time (by_direct_switch x)) (outcome (by_direct_switch j) cpu time M).machine) i f)

-- a call that is not refused is not late
not_late : (M : Machine) (k time : ℕ) → decision_refusal M k time ≡ 0 → elapsed time (cpu_at M k) ≤ max_elapsed
unfolding decision_refusal
not_late M k time e =
    let a = past (decision_locked M k) 6 _ (λ z. omega arith) e
    in let b = past (is_late time (cpu_at M k).block) 8 0 (λ z. omega arith) a.1
    in ltb-false _ _ b.0

direct_not_late : (M : Machine) (k time x : ℕ) → direct_refusal M k time x ≡ 0 → elapsed time (cpu_at M k) ≤ max_elapsed
unfolding direct_refusal
direct_not_late M k time x e =
    let a = past (decision_locked M k) 6 _ (λ z. omega arith) e
    in let b = past (not (eqb (context_at M.contexts x).lock 0)) 6 _ (λ z. omega arith) a.1
    in let c = past (eqb (context_at M.contexts x).addr_space 2) 6 _ (λ z. omega arith) b.1
    in let d = past (eqb (cpu_at M k).block.current_ctxt (cpu_at M k).block.idle_ctxt && not (eqb x (cpu_at M k).block.current_ctxt)) 7 _ (λ z. omega arith) c.1
    in let f = past (is_late time (cpu_at M k).block) 8 0 (λ z. omega arith) d.1
    in ltb-false _ _ f.0

pub in_time : (call : Call) (M : Machine) (k time r : ℕ) → r ≡ refusal call M k time → r ≡ 0 → elapsed time (cpu_at M k) ≤ max_elapsed
in_time by_tick M k time r e z = not_late M k time (sym e ∙ z)
in_time by_switch M k time r e z = not_late M k time (sym e ∙ z)
in_time (by_direct_switch x) M k time r e z = direct_not_late M k time x (sym e ∙ z)

-- which context a call switches to
pub tick_no_target : {n : ℕ} → TargetBelow n Tick
tick_no_target x e = let w : ◌≡◌ {A = ℕ} 0 1 = cc in absurd (omega arith)

pub switch_no_target : {n : ℕ} → TargetBelow n Switch
switch_no_target x e = let w : ◌≡◌ {A = ℕ} 0 1 = cc in absurd (omega arith)

pub target_is : {n : ℕ} (x : ℕ) → x < n → TargetBelow n (DirectSwitchTo x)
target_is x h y e = let w : x ≡ y = cc in omega arith
