use Rattle.std.proofs.Common.{◌≡◌, ℕ, ◌+◌, ◌-◌, ◌≤◌, List, ◌++◌, rules, length, take, drop, sym, ap, ◌∙◌, subst, drop_at, length-take-le}
use Rattle.std.specs.Io.KnownBytes.{Consumes}
use Rattle.std.proofs.KnownBytes.{Consumes-trans}
use borrow.Rule.Slice.PartMut.{put_mid, post_of, take_put}
use lib.Seq.{take-add, take-append-le}
use Rattle.reading.proofs.read_full.Goals as goal

-- the first bytes, and those written behind them
joined : (a k n : ℕ) (xs ys : List ℕ) → a ≤ length xs → n ≤ length ys → take a xs ++ take n ys ≡ take (a + n) (put_mid a k xs ys)
joined a k n xs ys within fits =
    let after = post_of a k xs in
    let back : take n (drop a (put_mid a k xs ys)) ≡ take n ys = ap (take n) (drop_at (take a xs) (ys ++ after) a (length-take-le a xs within)) ∙ take-append-le n ys after fits in
    sym (take-add a n (put_mid a k xs ys) ∙ ap (λ l. l ++ take n (drop a (put_mid a k xs ys))) (take_put a k xs ys within) ∙ ap (λ l. take a xs ++ l) back)

pub loop-have-preserved : goal.loop-have-preserved
loop-have-preserved g c =
    let space = c.loop-have.space in
    let bytes = joined c.loop-have.have (length space - c.loop-have.have) c.read_some-got.result space c.read_some-got.new.space c.loop-have.invariant.0 c.read_some-got.ensures.within in
    (search rules, search rules, subst (Consumes _ _) bytes (Consumes-trans _ _ _ _ _ c.loop-have.invariant.2 c.read_some-got.ensures.bytes))
