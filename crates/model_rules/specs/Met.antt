-- A number names a rule exactly when the rule's condition holds (document 02, No. 3). Assumes nothing.
use Rattle.std.specs.Prelude.{◌≡◌, ◌↔◌, ℕ}
use Rattle.answer.specs.declared.Rule.{Rule}
use Rattle.answer.specs.declared.Rule.TheVariants.{FirstEligible, HolderDeadline, HolderSlice, HolderAlone, HolderVtime, HolderLateDeadline, EntryVtime, Stolen, Idle}

-- n: what a decision reports; Condition: when each rule decides
pub record RuleMet (n : ℕ) (Condition : Rule → Type 0) : Type 0 where
  pub first_eligible : (n ≡ 1) ↔ Condition FirstEligible
  pub holder_deadline : (n ≡ 2) ↔ Condition HolderDeadline
  pub holder_slice : (n ≡ 3) ↔ Condition HolderSlice
  pub holder_alone : (n ≡ 4) ↔ Condition HolderAlone
  pub holder_vtime : (n ≡ 5) ↔ Condition HolderVtime
  pub holder_late_deadline : (n ≡ 6) ↔ Condition HolderLateDeadline
  pub entry_vtime : (n ≡ 7) ↔ Condition EntryVtime
  pub stolen : (n ≡ 8) ↔ Condition Stolen
  pub idle : (n ≡ 9) ↔ Condition Idle
  -- some condition holds, and no two of different rules
  pub exhaustive : (a : Rule) × Condition a
  pub exclusive : (a b : Rule) → Condition a → Condition b → a ≡ b
