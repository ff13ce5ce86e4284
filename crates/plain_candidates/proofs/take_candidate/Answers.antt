use mathlib.Core.Path.{refl, ◌∙◌}
use borrow.Author.Tests.{lt-ltb, le-ltb}
use Rattle.plain_state.specs.States.{state_in}
use Rattle.plain_candidates.specs.Stolen.{locked_of}
use Rattle.plain_candidates.proofs.Gathered.{candidate_taken}
use Rattle.plain_candidates.proofs.take_candidate.Goals.{then-got-t, else-got-t}
use Rattle.plain_candidates.proofs.take_candidate.Goals as goal

pub returns-clause-stands : goal.returns-clause-stands
returns-clause-stands c =
    elim c.if-got-t.branch [
      | then-got-t w ↦ candidate_taken c.args.t.cpu (locked_of c.args.t.locked) (state_in c.args.n c.args.s).contexts c.args.t.winner c.args.t.want c.args.got c.args.e c.requires.1 c.index-x.ensures c.context-q.ensures w.can_be_stolen.ensures (w.push_if_sized-is ∙ rw (lt-ltb _ _ w.if-got-t.true)) c.push_if_sized.ensures.stands
      | else-got-t w ↦ candidate_taken c.args.t.cpu (locked_of c.args.t.locked) (state_in c.args.n c.args.s).contexts c.args.t.winner c.args.t.want c.args.got c.args.e c.requires.1 c.index-x.ensures c.context-q.ensures refl (w.push_if_sized-is ∙ rw (le-ltb _ _ w.if-got-t.false)) c.push_if_sized.ensures.stands
    ]
