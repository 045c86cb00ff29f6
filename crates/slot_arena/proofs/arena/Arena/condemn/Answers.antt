use Rattle.std.proofs.Common.{◌≡◌, arith}
use Rattle.std.proofs.lemmas.Option.{slice_get_within}
use Rattle.slot_arena.specs.Serials.{serial_of}
use Rattle.slot_arena.specs.declared.slot.Slot.TheVariants.{Full}
use Rattle.slot_arena.specs.declared.slot.Standing.TheVariants.{Live}
use Rattle.slot_arena.proofs.Lists.{slice_get_unique}
use Rattle.slot_arena.proofs.Sound.{IsSound-condemn}
use Rattle.slot_arena.proofs.Changes.{present, contents_of-condemn}
use Rattle.slot_arena.proofs.arena.Arena.condemn.Goals as goal

pub at_mut-requires : goal.at_mut-requires
at_mut-requires g c =
    let there = present _ _ _ _ _ _ c.args.key c.self.invariant (rw (← c.self.view_is) at (c.contains.ensures.0 c.if-not-contains.false)) in
    slice_get_within _ _ _ there.slot

pub invariant_of-self : goal.invariant_of-self
invariant_of-self g c =
    let there = present _ _ _ _ _ _ c.args.key c.self.invariant (rw (← c.self.view_is) at (c.contains.ensures.0 c.if-not-contains.false)) in
    let was : c.at_mut.result.now ≡ Full Live (serial_of c.args.key) there.value = slice_get_unique c.self.inside.slots.slots c.args.key.slot _ _ c.at_mut.ensures.slot there.slot in
    rw (c.condemn.ensures, was) (IsSound-condemn _ _ _ _ _ _ c.args.key.slot (serial_of c.args.key) there.value there.slot c.self.invariant)

pub returns-clause-moved : goal.returns-clause-moved
returns-clause-moved g c =
    let there = present _ _ _ _ _ _ c.args.key c.self.invariant (rw (← c.self.view_is) at (c.contains.ensures.0 c.if-not-contains.false)) in
    let was : c.at_mut.result.now ≡ Full Live (serial_of c.args.key) there.value = slice_get_unique c.self.inside.slots.slots c.args.key.slot _ _ c.at_mut.ensures.slot there.slot in
    rw (← c.self.view_is, there.is, c.condemn.ensures, was) (contents_of-condemn _ _ _ _ _ _ c.args.key there.value (omega arith) there.slot c.self.invariant)
