use Rattle.image.proofs.Admitted.{bounded}
use mathlib.Core.Path.{sym, ◌∙◌}
use Rattle.image.proofs.check.Goals as goal

pub check_sized-requires : goal.check_sized-requires
check_sized-requires c =
    let a = bounded _ 4 (sym c.in_bounds.ensures ∙ c.if-not-in_bounds.false)
    in let b = bounded _ 64 (sym c.in_bounds-else-not-in_bounds.ensures ∙ c.if-not-in_bounds-2.false)
    in (c.if-m-lt2.false, a.1, b.0, b.1)
