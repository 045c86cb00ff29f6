use Rattle.std.proofs.Common.{◌≡◌, [], replicate, None, refl, arith}
use Rattle.slot_arena.proofs.Laid.{IsLaid-new, values_in-of}
use Rattle.slot_arena.proofs.room.Room.new.Goals as goal

pub invariant_of-result : goal.invariant_of-result
invariant_of-result g c =
    let made = c.in_ok-block.ensures in
    (IsLaid-new _ _ (c.if-not-fits_in_memory.ensures refl).1 made.0, made.1, made.2, made.3)

pub returns : goal.returns
returns g c =
    let empty : c.in_ok-block.block.places ≡ replicate c.args.capacity None = c.in_ok-block.ensures.0 in
    rw (values_in-of c.in_ok-block.block.places [] c.args.capacity empty (omega arith)) refl
