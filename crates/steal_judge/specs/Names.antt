-- The small values of the code, as what the definition has in their place. Assumes nothing.
use Rattle.std.specs.Prelude.{ℕ, List, [], ◌∷◌, option_to_list}
use Rattle.entries.specs.declared.Entry.{Entry}
use Rattle.steal_judge.specs.declared.Locked.{Locked}
use Rattle.steal_judge.specs.declared.Candidates.{Candidates}
use Rattle.steal_judge.specs.declared.Candidates.TheVariants.{Nothing, Single, Pair}

abbrev pub locked_of : Locked → List ℕ
locked_of l = l.sched_ctxt ∷ option_to_list l.best

abbrev pub entries_of : Candidates → List Entry
entries_of Nothing = []
entries_of (Single a) = a ∷ []
entries_of (Pair a b) = a ∷ b ∷ []
