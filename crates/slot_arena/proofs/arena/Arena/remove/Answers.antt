use Rattle.std.proofs.Common.{◌≡◌, Some, sym, ap, ◌∙◌, arith}
use Rattle.std.proofs.lemmas.Option.{slice_get_within}
use Rattle.slot_arena.specs.Serials.{serial_of}
use Rattle.slot_arena.specs.declared.slot.Slot.TheVariants.{Full}
use Rattle.slot_arena.specs.declared.slot.Standing.TheVariants.{Live}
use Rattle.slot_arena.specs.Slot.{stored_value}
use Rattle.slot_arena.proofs.Lists.{slice_get_unique}
use Rattle.slot_arena.proofs.Sound.{IsSound-vacate}
use Rattle.slot_arena.proofs.Changes.{present, freed_below, contents_of-vacate}
use Rattle.slot_arena.proofs.arena.Arena.remove.Goals as goal

pub replace-requires : goal.replace-requires
replace-requires g c =
    let there = present _ _ _ _ _ _ c.args.key c.self.invariant (rw (← c.self.view_is) at (c.contains.ensures.0 c.if-not-contains.false)) in
    slice_get_within _ _ _ there.slot

pub overflow_add-self : goal.overflow_add-self
overflow_add-self g c =
    let there = present _ _ _ _ _ _ c.args.key c.self.invariant (rw (← c.self.view_is) at (c.contains.ensures.0 c.if-not-contains.false)) in
    omega (arith, freed_below _ _ _ _ _ _ _ _ _ _ there.slot c.self.invariant)

pub invariant_of-self : goal.invariant_of-self
invariant_of-self g c =
    let there = present _ _ _ _ _ _ c.args.key c.self.invariant (rw (← c.self.view_is) at (c.contains.ensures.0 c.if-not-contains.false)) in
    rw c.replace.ensures.slots (IsSound-vacate _ _ _ _ _ _ c.args.key.slot (serial_of c.args.key) there.value there.slot c.self.invariant)

pub unreachable-requires : goal.unreachable-requires
unreachable-requires g c =
    let there = present _ _ _ _ _ _ c.args.key c.self.invariant (rw (← c.self.view_is) at (c.contains.ensures.0 c.if-not-contains.false)) in
    let was : c.replace.result ≡ Full Live (serial_of c.args.key) there.value = slice_get_unique c.self.inside.slots.slots c.args.key.slot _ _ c.replace.ensures.was there.slot in
    let is = c.in-Free.is in
    cc

pub returns-clause-value : goal.returns-clause-value
returns-clause-value g c =
    let there = present _ _ _ _ _ _ c.args.key c.self.invariant (rw (← c.self.view_is) at (c.contains.ensures.0 c.if-not-contains.false)) in
    let was : c.replace.result ≡ Full Live (serial_of c.args.key) there.value = slice_get_unique c.self.inside.slots.slots c.args.key.slot _ _ c.replace.ensures.was there.slot in
    let same : Some c.in-Full.value ≡ Some there.value = ap stored_value (sym c.in-Full.is ∙ was) in
    rw (← c.self.view_is) (same ∙ sym there.is)

pub returns-clause-taken : goal.returns-clause-taken
returns-clause-taken g c =
    let there = present _ _ _ _ _ _ c.args.key c.self.invariant (rw (← c.self.view_is) at (c.contains.ensures.0 c.if-not-contains.false)) in
    rw (← c.self.view_is, c.replace.ensures.slots) (contents_of-vacate _ _ _ _ _ _ c.args.key there.value there.slot c.self.invariant)
