use Rattle.std.proofs.Common.{refl}
use Rattle.slot_arena.proofs.Laid.{IsLaid-found, IsLaid-read, IsLaid-set, values_in-set}
use Rattle.slot_arena.proofs.room.Room.at_mut.Goals as goal

pub get_mut-requires : goal.get_mut-requires
get_mut-requires g c =
    let found = IsLaid-found _ _ _ c.self.invariant.0 c.args.place (rw (← c.self.view_is) at c.requires) in
    (found.0, found.1)

pub invariant_of-self-lent : goal.invariant_of-self-lent
invariant_of-self-lent g c w =
    let within = rw (← c.self.view_is) at c.requires in
    (IsLaid-set _ _ _ c.self.invariant.0 c.args.place w within, c.self.invariant.1, c.self.invariant.2, c.self.invariant.3)

pub returns : goal.returns
returns g c =
    let within = rw (← c.self.view_is) at c.requires in (
      (refl, λ w. rw (← c.self.view_is, values_in-set _ _ _ c.self.invariant.0 c.args.place w within) refl),
      record { writes_back = tt; slot = rw (← c.self.view_is) (IsLaid-read _ _ _ c.self.invariant.0 c.args.place _ c.get_mut.ensures.value) },
    )
