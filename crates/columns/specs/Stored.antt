-- A run of stores from place 0 that covers a whole list leaves what is stored. Assumes nothing.
use Rattle.std.specs.Prelude.{◌≡◌, ℕ, ◌+◌, List, length}
use Rattle.std.proofs.Common.{◌∙◌, arith, append-nil, drop_of_length-le}
use Rattle.std.proofs.lemmas.List.Edits.{sets, sets-eq}

pub sets_all : (vs w : List ℕ) → length w ≡ length vs → sets w 0 vs ≡ vs
sets_all vs w h = sets-eq vs w 0 (omega arith) ∙ rw (drop_of_length-le w {i = 0 + length vs} (omega arith)) (append-nil vs)
