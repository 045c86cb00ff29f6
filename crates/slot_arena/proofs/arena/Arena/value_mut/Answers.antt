use Rattle.std.proofs.Common.{◌≡◌, IsSome, Some, refl, sym, ap, subst, ◌∙◌}
use Rattle.std.proofs.lemmas.Option.{slice_get_within}
use Rattle.slot_arena.specs.Serials.{serial_of}
use Rattle.slot_arena.specs.declared.slot.Slot.TheVariants.{Full}
use Rattle.slot_arena.specs.declared.slot.Standing.TheVariants.{Live}
use Rattle.slot_arena.specs.Slot.{stored_value}
use Rattle.slot_arena.proofs.Lists.{slice_get_unique}
use Rattle.slot_arena.proofs.Sound.{IsSound-rewrite}
use Rattle.slot_arena.proofs.Changes.{present, contents_of-rewrite}
use Rattle.slot_arena.proofs.arena.Arena.value_mut.Goals as goal

pub at_mut-requires : goal.at_mut-requires
at_mut-requires g c =
    let there = present _ _ _ _ _ _ c.args.key c.self.invariant (rw (← c.self.view_is) at c.requires) in
    slice_get_within _ _ _ there.slot

pub value_mut-requires : goal.value_mut-requires
value_mut-requires g c =
    let there = present _ _ _ _ _ _ c.args.key c.self.invariant (rw (← c.self.view_is) at c.requires) in
    let is : c.at_mut.result.now ≡ Full Live (serial_of c.args.key) there.value = slice_get_unique c.self.inside.slots.slots c.args.key.slot _ _ c.at_mut.ensures.slot there.slot in
    subst (λ slot. IsSome (stored_value slot)) (sym is) refl

pub invariant_of-self-lent : goal.invariant_of-self-lent
invariant_of-self-lent g c w =
    let there = present _ _ _ _ _ _ c.args.key c.self.invariant (rw (← c.self.view_is) at c.requires) in
    let is : c.at_mut.result.now ≡ Full Live (serial_of c.args.key) there.value = slice_get_unique c.self.inside.slots.slots c.args.key.slot _ _ c.at_mut.ensures.slot there.slot in
    rw is (IsSound-rewrite _ _ _ _ _ _ c.args.key.slot (serial_of c.args.key) there.value w there.slot c.self.invariant)

pub returns : goal.returns
returns g c =
    let there = present _ _ _ _ _ _ c.args.key c.self.invariant (rw (← c.self.view_is) at c.requires) in
    let is : c.at_mut.result.now ≡ Full Live (serial_of c.args.key) there.value = slice_get_unique c.self.inside.slots.slots c.args.key.slot _ _ c.at_mut.ensures.slot there.slot in
    let stored : Some there.value ≡ Some c.value_mut.result.now = ap stored_value (sym is) ∙ c.value_mut.ensures.value in (
      (refl, λ w. rw (← c.self.view_is, is) (contents_of-rewrite _ _ _ _ _ _ c.args.key there.value w there.slot c.self.invariant)),
      record { writes_back = tt; value = rw (← c.self.view_is) (there.is ∙ stored) },
    )
