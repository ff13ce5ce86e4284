-- A refusal's number is never 0. Assumes nothing.
use Rattle.std.proofs.Common.{◌≢◌, arith}
use Rattle.refusal.specs.declared.Refusal.{Refusal}
use Rattle.refusal.specs.declared.Refusal.TheVariants.{Size, Length, Range, Structure, Name, Lock, Idle, Late, NoRoom, Reply, Game}
use Rattle.refusal.specs.Number.{refusal_number}

pub number_some : (r : Refusal) → refusal_number r ≢ 0
number_some Size e = omega arith
number_some Length e = omega arith
number_some Range e = omega arith
number_some Structure e = omega arith
number_some Name e = omega arith
number_some Lock e = omega arith
number_some Idle e = omega arith
number_some Late e = omega arith
number_some NoRoom e = omega arith
number_some Reply e = omega arith
number_some Game e = omega arith
