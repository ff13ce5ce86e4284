use Rattle.std.proofs.Common.{refl, ap, ◌∙◌, arith}
use Rattle.std.proofs.lemmas.Fn.{says_at}
use Rattle.columns.specs.Common.{keep}
use Rattle.plain_lists.proofs.Keeping.{kept_next, kept_all}
use Rattle.plain_lists.proofs.fixed.FixedVec.retain_sized.Goals as goal

pub loop-x-preserved : goal.loop-x-preserved
loop-x-preserved g c =
    record {
      sized = c.add_if.ensures.stands.sized;
      few = omega arith;
      kept = λ test h. kept_next test _ _ _ _ _ _ c.loop-x-test.true c.x-item.is (h _ _ (says_at g.F.Fn c.f.ensures refl)) (c.loop-x.invariant.kept test h) c.add_if.ensures.stands.is;
    }

pub returns-clause-stands : goal.returns-clause-stands
returns-clause-stands g c test h =
    record {
      sized = c.loop-x.invariant.sized;
      is = kept_all test _ _ _ c.loop-x-test.false (c.loop-x.invariant.kept test h) ∙ ap (keep test) c.as_slice_sized-x-items.ensures;
    }
