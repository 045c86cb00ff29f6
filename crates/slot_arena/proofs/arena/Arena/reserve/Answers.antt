use Rattle.std.proofs.Common.{arith}
use Rattle.slot_arena.proofs.Sound.{IsSound-grown}
use Rattle.slot_arena.proofs.arena.Arena.reserve.Goals as goal

pub invariant_of-self : goal.invariant_of-self
invariant_of-self g c =
    rw c.grow.ensures.slots (IsSound-grown _ c.self.inside.slots.capacity _ _ _ _ _ (omega (arith, c.in_ok-grow.ensures.ok)) c.grow.ensures.fits c.self.invariant)
