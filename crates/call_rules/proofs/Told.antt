-- What the rule of any call says. Assumes nothing.
use Rattle.std.specs.Prelude.{if◌then◌else◌, None, Option, Some}
use mathlib.Core.Path.{◌≡◌, refl, sym, ap, ◌∙◌, subst}
use mathlib.Core.Bool.{Bool, true, false}
use mathlib.Core.List.{List}
use Prim.Native.Nat.{ℕ}
use lib.Dec.{eqb}
use borrow.Author.Tests.{eqb-true, eqb-false}
use Rattle.columns.proofs.Tests.{by_test}
use Rattle.cpu_set.specs.Members.{members}
use Rattle.answer.specs.declared.Answer.{Answer}
use Rattle.machine.specs.Machine.{Machine}
use Rattle.machine.specs.Outcome.{Outcome, finished}
use Rattle.machine.specs.Encode.{decode}
use Rattle.machine.specs.LookUp.{get_percpu_block}
use Rattle.admission.proofs.Soundness.{sound}
use Rattle.model.specs.Accepted.{Call, by_tick, by_switch, by_direct_switch, outcome}
use Rattle.model_rules.specs.Met.{RuleMet}
use Rattle.model_rules.specs.ByScan.{ScanCondition}
use Rattle.model_rules.specs.InDemand3.{TidyCondition}
use Rattle.model_rules.proofs.Called.{undecided_rule, rule_by_scan}
use Rattle.model_rules.proofs.InDemand3.{rule_met}
use Rattle.context_ops.specs.Named.{named}
use Rattle.context_ops.specs.Operations.{drain_ipi_context_wakeups, block_with, block, hard_block}
use Rattle.context_ops.specs.Reply.{Reply, reply}
use Rattle.model.proofs.Lists.{fold_keeps}
use Rattle.group_ops.specs.Group.{names_refusal, also_unblock, unblock_each, group_on, unblock_group}
use Rattle.group_ops.proofs.Unblocking.{unblock_rule}
use Rattle.calls.specs.Call.{unblock_context_call, drain_ipi_context_wakeups_call, block_call, hard_block_call, no_operation_call, unblock_group_call, call}
use Rattle.ronthuyal.specs.Demand.{StandsFor}
use Rattle.ronthuyal.proofs.Demanded.{WasAccepted, stands_tick, stands_switch, stands_direct, stands_none}
use Rattle.call_rules.specs.Rule.{RuleTold}
use Rattle.call_rules.proofs.Telling.{Knows, decision_knows, direct_knows, quiet_refuse, quiet_replied, quiet_to, quiet_on, quiet_checked, quiet_none}

drain_rule : (k : ℕ) (M : Machine) → (drain_ipi_context_wakeups k M).rule ≡ 0
unfolding drain_ipi_context_wakeups
drain_rule k M = refl

block_rule : (x : ℕ) (M : Machine) → (block x M).rule ≡ 0
unfolding block_with
block_rule x M = refl

hard_block_rule : (x : ℕ) (M : Machine) → (hard_block x M).rule ≡ 0
unfolding block_with
hard_block_rule x M = refl

module _ {a : Answer} (m : List ℕ) (operation cpu time context : ℕ) where
  -- the operation stands for a call that decides
  decides_told : (c : Call) → StandsFor operation context c → ((d : Call) → StandsFor operation context d → d ≡ c) → Knows m cpu time c a → RuleTold m operation cpu time context a
  decides_told c s only w =
      record {
        refused = w.tells.refused;
        no_decision = λ n. absurd (n c s);
        undecided = λ d t z.
            let e : a.rule ≡ (outcome d cpu time (decode m)).rule = rule_is d t z in
            let u = undecided_rule cpu time (decode m) d in
            (λ y. u.0 (sym e ∙ y), λ y. e ∙ u.1 y);
        by_scan = λ d t z y. subst (λ (n : ℕ). RuleMet n (ScanCondition cpu time (decode m))) (sym (rule_is d t z)) (rule_by_scan cpu time (decode m) d y);
        on_tidy = λ d t z tidy y own.
            let p : WasAccepted (decode m) cpu time d = subst (λ (x : Call). WasAccepted (decode m) cpu time x) (sym (only d t)) (w.accepted z) in
            subst (λ (n : ℕ). RuleMet n (TidyCondition cpu time (decode m) (outcome d cpu time (decode m)).machine)) (sym (rule_is d t z))
            (rule_met d cpu time (decode m) (sound m (w.passed z)) tidy (record { present = p.present; decision = y; room = p.room }) own);
      }
    where
      rule_is : (d : Call) → StandsFor operation context d → a.refusal ≡ 0 → a.rule ≡ (outcome d cpu time (decode m)).rule
      rule_is d t z = w.tells.told z ∙ ap (λ (x : Call). (outcome x cpu time (decode m)).rule) (sym (only d t))

  -- it stands for none
  quiet_told : ((c : Call) → StandsFor operation context c → ⊥) → a.rule ≡ 0 → RuleTold m operation cpu time context a
  quiet_told n q =
      record {
        refused = λ z. q;
        no_decision = λ z. q;
        undecided = λ d t. absurd (n d t);
        by_scan = λ d t. absurd (n d t);
        on_tidy = λ d t. absurd (n d t);
      }

  -- one test of the chain
  one_of : {m' : List ℕ} (b : Bool) (x y : Reply) → (b ≡ true → reply a m' ≡ x → RuleTold m operation cpu time context a)
      → (b ≡ false → reply a m' ≡ y → RuleTold m operation cpu time context a) → reply a m' ≡ (if b then x else y) → RuleTold m operation cpu time context a
  one_of true x y f g e = f refl e
  one_of false x y f g e = g refl e

  -- every operation, by its number
  pub rule_told : {m' : List ℕ} → reply a m' ≡ call m operation cpu time context → RuleTold m operation cpu time context a
  unfolding call
  rule_told =
      one_of (eqb operation 1) _ _
      (λ t e. let o : operation ≡ 1 = eqb-true operation 1 t in decides_told by_tick o (λ d s. stands_tick context d (rw o at s)) (decision_knows m cpu time by_tick e))
      (λ n₁. one_of (eqb operation 2) _ _
      (λ t e. let o : operation ≡ 2 = eqb-true operation 2 t in decides_told by_switch o (λ d s. stands_switch context d (rw o at s)) (decision_knows m cpu time by_switch e))
      (λ n₂. one_of (eqb operation 3) _ _
      (λ t e. let o : operation ≡ 3 = eqb-true operation 3 t in
      decides_told (by_direct_switch context) (o, refl) (λ d s. stands_direct context d (rw o at s)) (direct_knows m cpu time context e))
      (λ n₃ e. quiet_told (stands_none operation context (eqb-false operation 1 n₁) (eqb-false operation 2 n₂) (eqb-false operation 3 n₃)) (others e))))
    where
      either : {m' : List ℕ} (b : Bool) (x y : Reply) → (reply a m' ≡ x → a.rule ≡ 0) → (reply a m' ≡ y → a.rule ≡ 0) → reply a m' ≡ (if b then x else y) → a.rule ≡ 0
      either true x y f g e = f e
      either false x y f g e = g e

      others : {m' : List ℕ} → reply a m' ≡ (
          if eqb operation 4 then unblock_context_call m cpu time context else
          if eqb operation 5 then drain_ipi_context_wakeups_call m cpu time else
          if eqb operation 6 then block_call m cpu time context else
          if eqb operation 7 then hard_block_call m cpu time context else no_operation_call m time) → a.rule ≡ 0
      others =
          either (eqb operation 4) _ _ (quiet_checked m time _ (quiet_to m _ (λ k x. unblock_rule k x (decode m)) (named (decode m) cpu context)))
          (either (eqb operation 5) _ _ (quiet_checked m time _ (quiet_on m _ (λ k. drain_rule k (decode m)) (get_percpu_block (decode m) cpu)))
          (either (eqb operation 6) _ _ (quiet_checked m time _ (quiet_to m _ (λ k x. block_rule x (decode m)) (named (decode m) cpu context)))
          (either (eqb operation 7) _ _ (quiet_checked m time _ (quiet_to m _ (λ k x. hard_block_rule x (decode m)) (named (decode m) cpu context)))
          (quiet_none m time))))

-- a group
each_rule : (k : ℕ) (xs : List ℕ) (M : Machine) → (unblock_each k xs M).rule ≡ 0
unfolding unblock_each also_unblock
each_rule k xs M = fold_keeps (λ (o : Outcome). o.rule ≡ 0) (also_unblock k) (λ o x h. refl) (finished 0 M) xs refl

pub group_rule : {a : Answer} {m' : List ℕ} (m : List ℕ) (cpu time mask : ℕ) → reply a m' ≡ unblock_group_call m cpu time mask → a.rule ≡ 0
unfolding unblock_group group_on
group_rule {a} {m'} m cpu time mask = quiet_checked m time _ (on (get_percpu_block (decode m) cpu))
  where
    on : (p : Option ℕ) → reply a m' ≡ group_on m (decode m) cpu (members mask) p → a.rule ≡ 0
    on None e = quiet_refuse m 5 e
    on (Some k) e =
        by_test (eqb (names_refusal (decode m) cpu (members mask)) 0) (λ t. quiet_replied m (unblock_each k (members mask) (decode m)) (each_rule k (members mask) (decode m)) (rw t at e))
        (λ t. quiet_refuse m _ (rw t at e))
