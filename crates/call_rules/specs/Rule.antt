-- What a call's rule says (document 02, No. 3), of a call on any image. Assumes nothing.
use Rattle.std.specs.Prelude.{◌≡◌, ◌↔◌, true, false, ℕ, List}
use Rattle.answer.specs.declared.Answer.{Answer}
use Rattle.machine.specs.Encode.{decode}
use Rattle.model.specs.Tidy.{Tidy}
use Rattle.model.specs.Accepted.{Call, outcome, decides, ServesOwn}
use Rattle.model_rules.specs.Met.{RuleMet}
use Rattle.model_rules.specs.ByScan.{ScanCondition}
use Rattle.model_rules.specs.InDemand3.{TidyCondition}
use Rattle.ronthuyal.specs.Demand.{StandsFor}

-- m is the image before the call, a its answer
pub record RuleTold (m : List ℕ) (operation cpu time context : ℕ) (a : Answer) : Type 0 where
  pub refused : (a.refusal ≡ 0 → ⊥) → a.rule ≡ 0
  -- operations 4 to 7
  pub no_decision : ((call : Call) → StandsFor operation context call → ⊥) → a.rule ≡ 0
  pub undecided : (call : Call) → StandsFor operation context call → a.refusal ≡ 0 → (a.rule ≡ 0) ↔ (decides cpu time (decode m) call ≡ false)
  -- on every image
  pub by_scan : (call : Call) → StandsFor operation context call → a.refusal ≡ 0 → decides cpu time (decode m) call ≡ true → RuleMet a.rule (ScanCondition cpu time (decode m))
  -- under the conditions of `DemandMet`, in demand 3's words
  pub on_tidy : (call : Call) → StandsFor operation context call → a.refusal ≡ 0 → Tidy (decode m) → decides cpu time (decode m) call ≡ true → ServesOwn cpu time (decode m)
      → RuleMet a.rule (TidyCondition cpu time (decode m) (outcome call cpu time (decode m)).machine)
