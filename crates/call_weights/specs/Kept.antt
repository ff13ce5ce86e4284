-- Document 02, No. 7, of calls on images: a decision, and calls one after the other. Assumes nothing.
use Rattle.std.specs.Prelude.{◌≡◌, true, List, [], ◌∷◌, ℕ}
use Rattle.machine.specs.Encode.{decode}
use Rattle.model.specs.Tidy.{Tidy}
use Rattle.model.specs.Accepted.{Call, decides, ServesOwn}
use Rattle.context_ops.specs.Reply.{Reply}
use Rattle.model_weights.specs.Weighed.{Weighed, Agree}
use Rattle.calls.specs.Call.{call, unblock_group_call}
use Rattle.ronthuyal.specs.Demand.{StandsFor}

-- m is the image before the call and m' the image after it: under the conditions of `DemandMet` and of the ticket, an accepted decision
-- leaves the stored total of every present CPU equal to the weight added up, if it was so before
pub record WeightKept (m m' : List ℕ) (operation cpu time context refusal : ℕ) : Type 0 where
  pub kept : (c : Call) → StandsFor operation context c → refusal ≡ 0 → Tidy (decode m) → decides cpu time (decode m) c ≡ true → ServesOwn cpu time (decode m)
      → Weighed (decode m) → Agree (decode m) → Agree (decode m')

-- a call of operations 1 to 7, or of a group
pub data ImageCall : Type 0 where
  operation_call : (operation cpu time context : ℕ) → ImageCall
  group_call : (cpu time mask : ℕ) → ImageCall

abbrev pub reply_of : List ℕ → ImageCall → Reply
reply_of m (operation_call operation cpu time context) = call m operation cpu time context
reply_of m (group_call cpu time mask) = unblock_group_call m cpu time mask

-- demand 3's condition on wake-ups, where the call decides
abbrev pub Inside : List ℕ → ImageCall → Type 0
Inside m (operation_call operation cpu time context) = (c : Call) → StandsFor operation context c → decides cpu time (decode m) c ≡ true → ServesOwn cpu time (decode m)
Inside m (group_call cpu time mask) = Unit {0}

-- each call is on the image that the one before it left, accepted, and inside demand 3's condition
abbrev pub AcceptedRun : List ℕ → List ImageCall → Type 0
AcceptedRun m [] = Unit {0}
AcceptedRun m (c ∷ cs) = ((reply_of m c).answer.refusal ≡ 0) × Inside m c × AcceptedRun (reply_of m c).image cs

abbrev pub image_after : List ℕ → List ImageCall → List ℕ
image_after m [] = m
image_after m (c ∷ cs) = image_after (reply_of m c).image cs
