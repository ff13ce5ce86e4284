-- What the code's values stand for, and the definition's test on a record. Assumes nothing.
use Rattle.std.specs.Prelude.{Bool, not, ◌&&◌, List, ◌∷◌, ℕ, eqb, Option, option_to_list}
use Rattle.context.specs.declared.Context.{Context}
use Rattle.entries.specs.declared.Entry.{Entry}
use Rattle.steal_judge.specs.Judged.{may_move}
use Rattle.plain_model.specs.Steal.{is_held}
use Rattle.plain_candidates.specs.declared.judge.Locked.{Locked}

abbrev pub locked_of : Locked → List ℕ
locked_of l = l.sched_ctxt ∷ option_to_list l.best

-- c is the record of context x
unfoldable pub stolen_record : (k : ℕ) (locked : List ℕ) → Option ℕ → List Entry → ℕ → Context → Bool
stolen_record k locked w got x c = not c.gone && eqb c.lock 0 && not (is_held locked w got x) && may_move k c
