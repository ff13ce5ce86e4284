use mathlib.Core.Path.{ap}
use Rattle.refusal.specs.Number.{numbered}
use Rattle.humblest.proofs.Finding.{checked_image, fits_longest, not_candidate, ready, searched}
use lib.ListN.{length-take, length-drop}
use native.Mathlib.Omega.{arith}
use Rattle.humblest.proofs.humblest_on.Goals as goal

-- src/lib.rt:58:9
pub candidate-requires : goal.candidate-requires
candidate-requires c = checked_image _ _ c.requires

-- src/lib.rt:64:27
pub slice_bounds-copy-end : goal.slice_bounds-copy-end
slice_bounds-copy-end c = omega (arith, fits_longest _ _ c.requires)

-- src/lib.rt:64:13
pub invariant_of-search : goal.invariant_of-search
invariant_of-search c = record { present = (ready _ _ c.requires _ _ _ c.candidate.ensures _ _ (ap numbered c.in-Ok.is)).cpu_below }

pub search-requires : goal.search-requires
search-requires c = record { ready = ready _ _ c.requires _ _ _ c.candidate.ensures _ _ (ap numbered c.in-Ok.is); copy_len = simp (length-take, length-drop) (omega (arith, fits_longest _ _ c.requires)) }

-- src/lib.rt:54:1
pub returns-in-Err : goal.returns-in-Err
returns-in-Err c = not_candidate _ _ c.requires _ _ _ c.candidate.ensures _ (ap numbered c.in-Err.is) c.refused.ensures

-- src/lib.rt:54:1
pub returns-in-Ok : goal.returns-in-Ok
returns-in-Ok c = searched _ _ c.requires _ _ _ c.candidate.ensures _ _ (ap numbered c.in-Ok.is) c.search.ensures
