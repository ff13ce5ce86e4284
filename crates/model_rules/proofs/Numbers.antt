-- Different rules have different numbers, none of them 0: from one rule's condition to all nine numbers. Assumes nothing.
use Rattle.std.specs.Prelude.{if◌then◌else◌}
use mathlib.Core.Path.{◌≡◌, refl, subst, sym, ap, ◌∙◌}
use mathlib.Core.Logic.{◌↔◌}
use Prim.Native.Nat.{ℕ, ◌<◌}
use native.Mathlib.Omega.{arith}
use lib.Dec.{eqb}
use Rattle.answer.specs.declared.Rule.{Rule}
use Rattle.answer.specs.declared.Rule.TheVariants.{FirstEligible, HolderDeadline, HolderSlice, HolderAlone, HolderVtime, HolderLateDeadline, EntryVtime, Stolen, Idle}
use Rattle.answer.specs.Number.{rule_number}
use Rattle.model_rules.specs.Met.{RuleMet}

-- the rule of a number
abbrev numbered : ℕ → Rule
numbered n =
    if eqb n 1 then FirstEligible else
    if eqb n 2 then HolderDeadline else
    if eqb n 3 then HolderSlice else
    if eqb n 4 then HolderAlone else
    if eqb n 5 then HolderVtime else
    if eqb n 6 then HolderLateDeadline else
    if eqb n 7 then EntryVtime else
    if eqb n 8 then Stolen else Idle

numbered_is : (a : Rule) → numbered (rule_number a) ≡ a
numbered_is FirstEligible = refl
numbered_is HolderDeadline = refl
numbered_is HolderSlice = refl
numbered_is HolderAlone = refl
numbered_is HolderVtime = refl
numbered_is HolderLateDeadline = refl
numbered_is EntryVtime = refl
numbered_is Stolen = refl
numbered_is Idle = refl

pub number_apart : (a b : Rule) → rule_number a ≡ rule_number b → a ≡ b
number_apart a b e = sym (numbered_is a) ∙ ap numbered e ∙ numbered_is b

pub number_positive : (a : Rule) → 0 < rule_number a
number_positive FirstEligible = omega arith
number_positive HolderDeadline = omega arith
number_positive HolderSlice = omega arith
number_positive HolderAlone = omega arith
number_positive HolderVtime = omega arith
number_positive HolderLateDeadline = omega arith
number_positive EntryVtime = omega arith
number_positive Stolen = omega arith
number_positive Idle = omega arith

-- r's condition holds, and no other rule's
module _ (C : Rule → Type 0) (r : Rule) (holds : C r) (only : (a : Rule) → C a → r ≡ a) where
  senses : (n : ℕ) → n ≡ rule_number r → (a : Rule) → (n ≡ rule_number a) ↔ C a
  senses n z a = (λ e. subst C (number_apart r a (sym z ∙ e)) holds, λ c. z ∙ ap rule_number (only a c))

  pub met : (n : ℕ) → n ≡ rule_number r → RuleMet n C
  met n z =
      record {
        first_eligible = senses n z FirstEligible;
        holder_deadline = senses n z HolderDeadline;
        holder_slice = senses n z HolderSlice;
        holder_alone = senses n z HolderAlone;
        holder_vtime = senses n z HolderVtime;
        holder_late_deadline = senses n z HolderLateDeadline;
        entry_vtime = senses n z EntryVtime;
        stolen = senses n z Stolen;
        idle = senses n z Idle;
        exhaustive = (r, holds);
        exclusive = λ a b c d. sym (only a c) ∙ only b d;
      }
