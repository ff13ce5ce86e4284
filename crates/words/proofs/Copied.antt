-- Words copied and put back. Assumes nothing.
use mathlib.Core.Path.{◌≡◌, sym, ◌∙◌}
use Prim.Native.Nat.{ℕ, ◌≤◌}
use native.Mathlib.Omega.{arith}
use mathlib.Core.List.{List}
use lib.ListN.{length, take}
use lib.Seq.{take_all}

-- m was copied to the scratch z, and z to m'', which is as long as m
pub put_back : (m z m'' : List ℕ) → take (length m) z ≡ take (length m) m → take (length m) m'' ≡ take (length m) z → length m'' ≡ length m → m'' ≡ m
put_back m z m'' s r l =
    let b : length m'' ≤ length m = omega arith
    in sym (take_all (length m) m'' b) ∙ r ∙ s ∙ take_all (length m) m (omega arith)
