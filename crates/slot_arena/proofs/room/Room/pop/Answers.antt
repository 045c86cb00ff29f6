use Rattle.std.proofs.Common.{Some, true≢false, ◌≡◌, ◌-◌, sym, ◌∙◌, arith}
use Rattle.std.proofs.lemmas.Option.{same_Some}
use Rattle.slot_arena.proofs.Laid.{IsLaid-pop, IsLaid-last}
use Rattle.slot_arena.proofs.room.Room.pop.Goals as goal

pub replace-requires : goal.replace-requires
replace-requires g c =
    let last = IsLaid-last _ _ _ c.self.invariant.0 (c.self.inside.used - 1) (omega (arith, c.if-self-eq0.false)) in
    (Some last.0, last.1, (λ t. absurd (true≢false (sym t)), λ t. sym t))

pub invariant_of-self : goal.invariant_of-self
invariant_of-self g c =
    rw (c.replace.ensures.places, c.replace.ensures.at) (IsLaid-pop _ _ _ c.self.invariant.0 (c.self.inside.used - 1) (omega (arith, c.if-self-eq0.false)), c.self.invariant.1, c.self.invariant.2, c.self.invariant.3)

pub returns-clause-taken : goal.returns-clause-taken
returns-clause-taken g c =
    let last = IsLaid-last c.self.inside.block.places c.self.inside.used c.self.inside.capacity c.self.invariant.0 (c.self.inside.used - 1) (omega (arith, c.if-self-eq0.false)) in
    let is : Some last.0 ≡ c.replace.result = same_Some (Some last.0) c.replace.result (sym last.1 ∙ c.replace.ensures.was) in
    rw (← is, ← c.self.view_is, c.replace.ensures.places) (λ j. record { slots = last.2 j; capacity = c.self.inside.capacity })

pub returns-clause-none : goal.returns-clause-none
returns-clause-none g c =
    let last = IsLaid-last c.self.inside.block.places c.self.inside.used c.self.inside.capacity c.self.invariant.0 (c.self.inside.used - 1) (omega (arith, c.if-self-eq0.false)) in
    let is : Some last.0 ≡ c.replace.result = same_Some (Some last.0) c.replace.result (sym last.1 ∙ c.replace.ensures.was) in
    rw (← is) tt
