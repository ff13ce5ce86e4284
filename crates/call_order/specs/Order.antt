-- Document 02, No. 14, of calls on images: two switches in either order. Assumes nothing.
use Rattle.std.specs.Prelude.{◌≡◌, ◌≢◌, false, List, ℕ}
use Rattle.machine.specs.Encode.{decode}
use Rattle.model_local.specs.Apart.{Apart, falls_on_stealing_turn}
use Rattle.context_ops.specs.Reply.{Reply}
use Rattle.calls.specs.Call.{switch_call}

-- a call that is not refused
abbrev pub Accepted : Reply → Type 0
Accepted y = y.answer.refusal ≡ 0

-- the image that a switch leaves
abbrev pub image_of : List ℕ → (cpu time : ℕ) → List ℕ
image_of m cpu time = (switch_call m cpu time).image

-- the four calls of the two orders
pub record AllAccepted (m : List ℕ) (one s other t : ℕ) : Type 0 where
  pub first : Accepted (switch_call m one s)
  pub then_other : Accepted (switch_call (image_of m one s) other t)
  pub other_first : Accepted (switch_call m other t)
  pub then_one : Accepted (switch_call (image_of m other t) one s)

-- the same image, word for word, and the same two answers, rule included
pub record SameEitherWay (m : List ℕ) (one s other t : ℕ) : Type 0 where
  pub image : image_of (image_of m one s) other t ≡ image_of (image_of m other t) one s
  pub answer : (switch_call (image_of m other t) one s).answer ≡ (switch_call m one s).answer
  pub answer' : (switch_call (image_of m one s) other t).answer ≡ (switch_call m other t).answer

-- of any image, different CPUs and times, in any order: the CPUs name no context together and neither switch falls on a stealing turn, both judged
-- on m. A switch never sets the interrupt mark (`no_interrupt`), so nothing is asked of it
abbrev pub EitherOrder : Type 0
EitherOrder =
    (m : List ℕ) (one s other t : ℕ) → one ≢ other → Apart (decode m) one other → falls_on_stealing_turn one s (decode m) ≡ false
    → falls_on_stealing_turn other t (decode m) ≡ false → AllAccepted m one s other t → SameEitherWay m one s other t
