-- What `ronthuyal_apart` says of an image, of which the theorem on two switches asks. Assumes nothing.
use Rattle.std.specs.Prelude.{◌≡◌, List, ℕ}
use Rattle.machine.specs.Encode.{decode}
use Rattle.model_local.specs.Apart.{Apart}
use Rattle.ronthuyal.specs.Apart.{apart_call}

-- an answer that is not refused is 1 exactly if no context is named by both
pub record Tells (m : List ℕ) (one other : ℕ) : Type 0 where
  pub apart : (apart_call m one other).answer.result ≡ 1 → Apart (decode m) one other
  pub told : Apart (decode m) one other → (apart_call m one other).answer.result ≡ 1

abbrev pub ApartTold : Type 0
ApartTold = (m : List ℕ) (one other : ℕ) → (apart_call m one other).answer.refusal ≡ 0 → Tells m one other
