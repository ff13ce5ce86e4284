use mathlib.Core.Path.{◌≡◌, sym, ap, ◌∙◌}
use mathlib.Core.List.{◌∷◌}
use native.Mathlib.Omega.{arith}
use Rattle.cpu_set.specs.Members.{members}
use Rattle.cpu_set.proofs.Members.{members_none, members_step}
use Rattle.cpu_set.proofs.CpusIterator.next.Goals as goal

pub returns-then-self-eq0-clause-steps : goal.returns-then-self-eq0-clause-steps
returns-then-self-eq0-clause-steps c = let e = ap members c.if-self-eq0.true ∙ members_none in (e, e)

pub returns-clause-steps : goal.returns-clause-steps
returns-clause-steps c =
    members_step c.args.self.now.rest (omega arith) (omega arith)
    ∙ (λ j. sym c.next-cpu.ensures.0 j ∷ members (sym c.rest-self.ensures.0 j))

pub returns-clause-goes : goal.returns-clause-goes
returns-clause-goes c =
    let s : members c.args.self.now.rest ≡ c.next-cpu.result ∷ members c.rest-self.result =
    members_step c.args.self.now.rest (omega arith) (omega arith) ∙ (λ j. sym c.next-cpu.ensures.0 j ∷ members (sym c.rest-self.ensures.0 j))
    in grind (arith, s)
