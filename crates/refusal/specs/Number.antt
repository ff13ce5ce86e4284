-- The number of each refusal, and what a check gives, with the number in place of the refusal. Assumes nothing.
use Rattle.std.specs.Prelude.{ℕ, Result, Ok, Err}
use Rattle.refusal.specs.declared.Refusal.{Refusal}
use Rattle.refusal.specs.declared.Refusal.TheVariants.{Size, Length, Range, Structure, Name, Lock, Idle, Late, NoRoom, Reply, Game}

abbrev pub refusal_number : Refusal → ℕ
refusal_number Size = 1
refusal_number Length = 2
refusal_number Range = 3
refusal_number Structure = 4
refusal_number Name = 5
refusal_number Lock = 6
refusal_number Idle = 7
refusal_number Late = 8
refusal_number NoRoom = 9
refusal_number Reply = 13
refusal_number Game = 14

-- 0 where nothing is refused
abbrev pub refusal_of : {A : Type 0} → Result A Refusal → ℕ
refusal_of (Ok a) = 0
refusal_of (Err r) = refusal_number r

abbrev pub numbered : {A : Type 0} → Result A Refusal → Result A ℕ
numbered (Ok a) = Ok a
numbered (Err r) = Err (refusal_number r)
