use Rattle.std.proofs.Common.{◌≡◌, Bool, ◌≤◌, take}
use Rattle.std.specs.Fn.{FnReturnsAt}
use Rattle.columns.specs.Common.{keep}
use Rattle.plain_lists.specs.Lists.{items_of, Sized}
use Rattle.plain_lists.proofs.fixed.FixedVec.retain_sized.Given as goal

abbrev pub invariant-loop-x : goal.invariant-loop-x
invariant-loop-x g l =
    record {
      sized : Sized l.out;
      few : l.out.len ≤ l.x-index;
      kept : (test : _ → Bool) → ((x : _) (b : Bool) → FnReturnsAt g.F.Fn l.f x b → b ≡ test x) → items_of l.out ≡ keep test (take l.x-index l.x-items);
    }
