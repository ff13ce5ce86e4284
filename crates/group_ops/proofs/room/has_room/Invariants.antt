use Rattle.group_ops.proofs.Roomy.{RoomBelow}
use Rattle.group_ops.proofs.room.has_room.Given as goal

abbrev pub invariant-loop-t : goal.invariant-loop-t
invariant-loop-t l = RoomBelow l.c l.n l.count l.t l.m
