use Rattle.std.proofs.Common.{length}
use Rattle.slot_arena.proofs.room.Room.drop.Given as goal

abbrev pub decreases-loop-slot : goal.decreases-loop-slot
decreases-loop-slot g l = length l.self.slots
