-- What a reader gave, counted modulo 8. Assumes nothing.
use Rattle.std.proofs.Common.{◌≡◌, ℕ, ◌+◌, ◌%◌, ◌≤◌, List, [], ◌++◌, length, take, refl, arith, length-take-le}
use Rattle.std.specs.Prelude.{Option}
use Rattle.std.specs.Io.KnownBytes.{Consumes}
use Rattle.std.proofs.KnownBytes.{Consumes-nil, Consumes-trans}
use lib.ListN.{length-append}
use Rattle.decide.specs.Input.{GivesOver}

pub none_yet : (a : Option (List ℕ)) → GivesOver a a 0
none_yet a = ([], Consumes-nil a, refl)

pub some_more : (a b c : Option (List ℕ)) (over got : ℕ) (space : List ℕ) → got ≤ length space → GivesOver a b over → Consumes b c (take got space) → GivesOver a c ((over + got % 8) % 8)
some_more a b c over got space h g q =
    let (bs, p, e) = g in
    let more = take got space in
    let l : length (bs ++ more) ≡ length bs + got = omega (arith, length-append bs more, length-take-le got space h) in
    (bs ++ more, Consumes-trans a b c bs more p q, omega arith)
