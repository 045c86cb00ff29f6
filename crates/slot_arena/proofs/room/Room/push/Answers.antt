use Rattle.std.proofs.Common.{None, Some, ◌≡◌, slice_get, refl, sym, ◌∙◌, arith}
use Rattle.std.proofs.lemmas.Option.{same_Some}
use Rattle.slot_arena.proofs.Laid.{IsLaid-next, IsLaid-push, values_in-push}
use Rattle.slot_arena.proofs.room.Room.push.Goals as goal

pub replace-requires : goal.replace-requires
replace-requires g c =
    let room = rw (← c.self.view_is) at c.requires in let lie = c.self.invariant.0 in
    (None, IsLaid-next _ _ _ lie (omega (arith, lie.counted)), (λ t. refl, λ t. refl))

pub unreachable-requires : goal.unreachable-requires
unreachable-requires g c =
    let room = rw (← c.self.view_is) at c.requires in let lie = c.self.invariant.0 in
    let was : slice_get c.self.inside.block.places c.self.inside.used ≡ Some (Some c.in-Some.field-0) = c.in-Some.ensures.was in
    let none : None ≡ Some c.in-Some.field-0 = same_Some None (Some c.in-Some.field-0) (sym (IsLaid-next c.self.inside.block.places c.self.inside.used c.self.inside.capacity lie (omega (arith, lie.counted))) ∙ was) in
    cc

pub invariant_of-self : goal.invariant_of-self
invariant_of-self g c =
    let room = rw (← c.self.view_is) at c.requires in let lie = c.self.invariant.0 in
    rw (c.replace.ensures.places, c.replace.ensures.at) (IsLaid-push _ _ _ lie c.args.slot (omega (arith, lie.counted)), c.self.invariant.1, c.self.invariant.2, c.self.invariant.3)

pub returns : goal.returns
returns g c =
    let room = rw (← c.self.view_is) at c.requires in let lie = c.self.invariant.0 in
    rw (← c.self.view_is, c.replace.ensures.places, values_in-push _ _ _ lie c.args.slot (omega (arith, lie.counted))) refl
