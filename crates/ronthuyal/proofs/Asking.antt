-- What a commit promises, from its definition: an accepted one is a switch, of which demand 3 holds. Assumes nothing.
use mathlib.Core.Path.{◌≡◌, refl, sym, ap, ◌∙◌}
use Prim.Native.Nat.{ℕ}
use mathlib.Core.List.{List}
use lib.ListN.{get_or}
use mir.Syntax.{w64}
use mir.Val.{Fits}
use Rattle.answer.specs.declared.Answer.{Answer}
use Rattle.context_ops.specs.Reply.{Reply, reply}
use Rattle.calls.specs.Call.{switch_call}
use Rattle.asked.specs.declared.Asked.{Asked}
use Rattle.ask.specs.Ask.{commit}
use Rattle.ask.proofs.Committed.{accepted_is_switch}
use Rattle.ronthuyal.specs.Demand.{DemandMet}
use Rattle.ronthuyal.specs.Leaves.{Leaves}
use Rattle.ronthuyal.proofs.Deciding.{switch_demand}
use Rattle.ronthuyal.proofs.Dispatched.{is_switch}
use Rattle.ronthuyal.proofs.Left.{leaves}
use Rattle.numbers.specs.Limits.{max_word}

-- words: those of the image after
module _ {a : Answer} {m' : List ℕ} (m : List ℕ) (cpu time : ℕ) where
  pub commit_promises : (given : Asked) → ((i : ℕ) → Fits w64 (get_or m' i 0)) → reply a m' ≡ commit m cpu time given
      → record { image_after : reply a m' ≡ commit m cpu time given; demand_met : DemandMet m m' 2 cpu time 0 a.refusal; leaves : Leaves max_word m m' a.refusal }
  commit_promises given words e =
      let s : a.refusal ≡ 0 → reply a m' ≡ switch_call m cpu time = λ z. e ∙ accepted_is_switch m cpu time given (sym (ap (λ (y : Reply). y.answer.refusal) e) ∙ z)
      in record { image_after = e; demand_met = record { met = λ d y z. (switch_demand m cpu time (s z)).met d y z }; leaves = record { left = λ z. (leaves m 2 cpu time 0 (is_switch m 2 cpu time 0 refl (s z)) words).left z } }
