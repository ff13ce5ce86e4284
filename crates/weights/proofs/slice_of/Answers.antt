-- `weights::slice_of` meets its contract. Assumes nothing.
use Rattle.weights.proofs.Table.{slice_is, whole_slice_high}
use Rattle.weights.proofs.slice_of.Goals as goal

pub returns : goal.returns
returns c =
    let e = slice_is _ c.weight_of.ensures.0 in
    (e, rw e (whole_slice_high _ c.requires))
