use Rattle.std.proofs.Common.{◌≡◌, Some, slice_get, ap, subst, ◌∙◌, arith}
use Rattle.slot_arena.specs.declared.slot.Slot.TheVariants.{Full}
use Rattle.slot_arena.specs.declared.slot.Standing.TheVariants.{Condemned}
use Rattle.slot_arena.specs.Layout.{IsSound}
use Rattle.slot_arena.proofs.Sound.{IsSound-take}
use Rattle.slot_arena.proofs.Changes.{freed_below, condemned_from-take, contents_of-take}
use Rattle.slot_arena.proofs.arena.Arena.next_condemned.Given.{Over}
use Rattle.slot_arena.proofs.arena.Arena.next_condemned.Goals as goal

pub overflow_add-self : goal.overflow_add-self
overflow_add-self g c =
    let taken = c.in-Full-Condemned-default-default in
    omega (arith, freed_below _ _ _ _ _ _ _ _ _ _ (c.replace.ensures.was ∙ ap Some taken.is) c.self.invariant)

-- the slot that was there, and the arena as it was, where it is the first condemned slot
was : (g : Over) (c : goal.After-new g) → slice_get c.self.inside.slots.slots c.in_ok-slot.slot ≡ Some (Full (Condemned c.in-Full-Condemned-default-default.next) c.in-Full-Condemned-default-default.serial c.in-Full-Condemned-default-default.value)
was g c =
    let taken = c.in-Full-Condemned-default-default in
    c.replace.ensures.was ∙ ap Some (taken.is ∙ ap (λ standing. Full standing taken.serial taken.value) taken.standing-is)

sound : (g : Over) (c : goal.After-new g) → IsSound c.self.inside.slots.slots c.self.inside.slots.capacity c.self.inside.free c.self.inside.freed (Some c.in_ok-slot.slot) c.self.inside.inserts
sound g c =
    subst (λ first. IsSound c.self.inside.slots.slots c.self.inside.slots.capacity c.self.inside.free c.self.inside.freed first c.self.inside.inserts) c.in_ok-slot.was c.self.invariant

pub invariant_of-self : goal.invariant_of-self
invariant_of-self g c = rw c.replace.ensures.slots (IsSound-take _ _ _ _ _ _ _ _ _ (was g c) (sound g c))

pub returns-clause-first : goal.returns-clause-first
returns-clause-first g c =
    rw (← c.self.view_is, c.new.ensures, c.in_ok-slot.was, c.replace.ensures.slots) (condemned_from-take _ _ _ _ _ _ _ _ _ (was g c) (sound g c))

pub returns-clause-taken : goal.returns-clause-taken
returns-clause-taken g c =
    rw (← c.self.view_is, c.replace.ensures.slots) (contents_of-take _ _ _ _ _ _ _ _ _ (was g c) (sound g c))
