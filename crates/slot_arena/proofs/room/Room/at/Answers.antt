use Rattle.slot_arena.proofs.Laid.{IsLaid-found, IsLaid-read}
use Rattle.slot_arena.proofs.room.Room.at.Goals as goal

pub get-requires : goal.get-requires
get-requires g c =
    let found = IsLaid-found _ _ _ c.self.invariant.0 c.args.place (rw (← c.self.view_is) at c.requires) in
    (found.0, found.1)

pub returns : goal.returns
returns g c = rw (← c.self.view_is) (IsLaid-read _ _ _ c.self.invariant.0 c.args.place c.get.result.now c.get.ensures)
