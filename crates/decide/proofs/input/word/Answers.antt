use Rattle.std.proofs.Common.{◌≡◌, ℕ, ◌+◌, ◌-◌, ◌*◌, ap, ◌∙◌, take, drop, arith}
use Rattle.le_bytes.specs.LeBytes.{from_le_bytes}
use Rattle.columns.specs.Blocks.{part}
use Rattle.decide.proofs.input.word.Goals as goal

pub returns : goal.returns
unfolding part
returns c =
    let e : 8 * c.args.i + 8 - 8 * c.args.i ≡ 8 = omega arith in
    c.from_le_bytes.ensures ∙ ap (λ (k : ℕ). from_le_bytes (take k (drop (8 * c.args.i) c.args.s.now))) e
