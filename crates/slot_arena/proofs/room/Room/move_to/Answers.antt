use Rattle.std.proofs.Common.{◌≡◌, ◌≤◌, None, length, replicate, refl, sym, ap, ◌∙◌, arith}
use Rattle.std.proofs.lemmas.List.{length-replicate}
use Rattle.slot_arena.specs.Laid.{laid, values_in}
use Rattle.slot_arena.proofs.Laid.{IsLaid-all, IsLaid-length, IsLaid-of, values_in-of}
use Rattle.slot_arena.proofs.room.Room.move_to.Goals as goal

pub move_values-requires-clause-lie : goal.move_values-requires-clause-lie
move_values-requires-clause-lie g c = IsLaid-all _ _ _ c.self.invariant.0

pub free-requires : goal.free-requires
free-requires g c =
    let block = c.replace-block.ensures.value in let deed = c.replace-deed.ensures.value in let full = IsLaid-length _ _ _ c.self.invariant.0 in (
      ap (λ b. b.places) block ∙ c.move_values.ensures.emptied ∙ ap (λ k. replicate k None) full,
      ap (λ d. d.at) deed ∙ c.self.invariant.1 ∙ sym (ap (λ b. b.at) block ∙ c.move_values.ensures.at.0),
      ap (λ d. d.count) deed ∙ c.self.invariant.2,
      ap (λ d. d.alloc) deed ∙ c.self.invariant.3,
    )

pub invariant_of-self : goal.invariant_of-self
invariant_of-self g c =
    let block = c.replace-block.ensures.after in let deed = c.replace-deed.ensures.after in let lie = c.self.invariant.0 in let made = c.in_ok-block.ensures in
    let full : length c.in_ok-block.block.places ≡ c.args.capacity = ap length made.0 ∙ length-replicate c.args.capacity None in
    let values = values_in c.self.inside.block.places in
    let lain : c.replace-block.new.dest.places ≡ laid values c.args.capacity = ap (λ b. b.places) block ∙ c.move_values.ensures.moved ∙ ap (λ k. laid values k) full in
    let more : c.self.inside.capacity ≤ c.args.capacity = rw (← c.self.view_is) at c.requires in (
      IsLaid-of c.replace-block.new.dest.places values c.self.inside.used c.args.capacity lain lie.counted (omega (arith, lie.within)) (c.if-not-fits_in_memory.ensures refl).1,
      ap (λ d. d.at) deed ∙ made.1 ∙ sym (ap (λ b. b.at) block ∙ c.move_values.ensures.at.1),
      ap (λ d. d.count) deed ∙ made.2,
      ap (λ d. d.alloc) deed ∙ made.3,
    )

pub returns-clause-slots : goal.returns-clause-slots
returns-clause-slots g c =
    let block = c.replace-block.ensures.after in let lie = c.self.invariant.0 in let made = c.in_ok-block.ensures in
    let full : length c.in_ok-block.block.places ≡ c.args.capacity = ap length made.0 ∙ length-replicate c.args.capacity None in
    let values = values_in c.self.inside.block.places in
    let lain : c.replace-block.new.dest.places ≡ laid values c.args.capacity = ap (λ b. b.places) block ∙ c.move_values.ensures.moved ∙ ap (λ k. laid values k) full in
    let more : c.self.inside.capacity ≤ c.args.capacity = rw (← c.self.view_is) at c.requires in
    rw (← c.self.view_is) (values_in-of c.replace-block.new.dest.places values c.args.capacity lain (omega (arith, lie.counted, lie.within)))
