-- What a run knows of its image, and what a call leaves of that. Assumes nothing.
use Rattle.std.specs.Prelude.{◌≡◌, List, ℕ}
use Rattle.context_ops.specs.Reply.{reply}
use Rattle.growth.specs.Growth.{Known}
use Rattle.operations.specs.declared.arguments.Call.{Call}
use Rattle.run.specs.declared.knowledge.Knowledge.{Knowledge}
use Rattle.run.specs.declared.knowledge.Knowledge.TheVariants.{Passes}
use Rattle.run.specs.declared.knowledge.Passing.{Passing}
use Rattle.run.specs.declared.knowledge.Made.{Made}
use Rattle.run.specs.Run.{reply_of}

-- what is said to be known is so
pub record Holds (s : Knowledge) (m : List ℕ) : Type 0 where
  pub knows : (p : Passing) → s ≡ Passes p → Known p.cpus p.contexts p.bounds m

-- m became m': that and the answer are the call's, and what is known holds of m'
pub record Makes (m m' : List ℕ) (q : Call) (r : Made) : Type 0 where
  pub replies : reply r.answer m' ≡ reply_of m q
  pub holds : Holds r.knowledge m'
