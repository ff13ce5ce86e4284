-- Words that a switch neither reads nor writes. Assumes nothing.
use Rattle.std.specs.Prelude.{◌≡◌, Bool, false, List, ℕ}
use Rattle.machine.specs.Machine.{cpu_at}
use Rattle.machine.specs.Encode.{decode}
use Rattle.model_local.specs.Names.{names, is_named}
use Rattle.model_local.specs.Local.{Alike, Elsewhere}
use Rattle.model_local.specs.Apart.{falls_on_stealing_turn}
use Rattle.calls.specs.Call.{switch_call}
use Rattle.call_order.specs.Order.{Accepted, image_of}

-- what CPU k names on the image m
abbrev pub named_on : List ℕ → ℕ → ℕ → Bool
named_on m k = is_named (names (cpu_at (decode m) k))

-- m' is as m in the block of CPU k and in the records that this block names
pub record SameElsewhere (m m' : List ℕ) (k time : ℕ) : Type 0 where
  pub answer : (switch_call m' k time).answer ≡ (switch_call m k time).answer
  pub alike : Alike (named_on m k) k (decode (image_of m k time)) (decode (image_of m' k time))
  pub elsewhere : Elsewhere (named_on m k) k (decode m) (decode (image_of m k time))
  pub elsewhere' : Elsewhere (named_on m k) k (decode m') (decode (image_of m' k time))

-- whatever else differs, as the locks of contexts that CPU k does not name and other CPUs' queue locks: the switch is answered the same, leaves its
-- block and the named records alike, and all else as it was
abbrev pub OwnWordsOnly : Type 0
OwnWordsOnly =
    (m m' : List ℕ) (k time : ℕ) → Alike (named_on m k) k (decode m) (decode m') → falls_on_stealing_turn k time (decode m) ≡ false
    → Accepted (switch_call m k time) → Accepted (switch_call m' k time) → SameElsewhere m m' k time
