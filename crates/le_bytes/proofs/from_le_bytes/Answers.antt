-- `le_bytes::from_le_bytes` meets its contract. Assumes nothing.
use mathlib.Core.Path.{◌≡◌, ◌∙◌}
use native.Mathlib.Omega.{arith}
use lib.Seq.{take_all}
use Rattle.std.proofs.lemmas.Option.{MatchOption-at_some}
use Rattle.le_bytes.proofs.Bytes.{from_eight}
use Rattle.le_bytes.proofs.from_le_bytes.Goals as goal

-- the first eight bytes are all
pub returns : goal.returns
returns c =
    let e : c.unwrap.result.now ≡ c.args.b.now = (MatchOption-at_some _ _ c.unwrap.result c.unwrap.ensures c.first_chunk.ensures.cases).same ∙ take_all 8 c.args.b.now (omega (arith, c.requires))
    in rw (← e) (omega (arith, from_eight c.unwrap.result.now (rw e c.requires), c.from_le_bytes.ensures))
