use Rattle.select_judge.proofs.Ruling.{rule_none, rule_some}
use Rattle.select_judge.proofs.Choosing.{best_at, choice_none, choice_some, record_of}
use native.Mathlib.Omega.{arith}
use Rattle.select.proofs.choice.choose.Goals as goal

pub load-q-requires : goal.load-q-requires
load-q-requires c = record { image = c.requires.image; x_lt_n = omega (arith, c.index-x.ensures, best_at c.args.n c.in-Some.is c.requires.best_below.0) }

pub returns-in-None : goal.returns-in-None
returns-in-None c = record { result_value = λ M e o s f H C. choice_none s f C c.in-None.is (c.without_entry.ensures.result_value s f H C.late); winner_below = c.without_entry.ensures.by_index _ c.requires.best_below.1; rule_value = λ M e o s f H C. rule_none s f C c.in-None.is (c.without_entry.ensures.rule_value s f H C.late) }

pub returns-in-Some : goal.returns-in-Some
returns-in-Some c = record { result_value = λ M e o s f H C. choice_some s f C c.in-Some.is (c.against.ensures.result_value s f H (record_of s f C c.index-x.ensures (c.load-q.ensures M e o)) C.late); winner_below = c.against.ensures.by_index c.args.n (best_at c.args.n c.in-Some.is c.requires.best_below.0); rule_value = λ M e o s f H C. rule_some s f C c.in-Some.is (c.against.ensures.rule_value s f H (record_of s f C c.index-x.ensures (c.load-q.ensures M e o))) }
