-- The comparisons of a chain that others follow: each has a choice, by whether it holds, whose first value is the rest of the chain.
use Rattle.std.specs.Prelude.{◌≡◌, ℕ, List, [], ◌∷◌, ◌++◌, length}
use Rattle.ir_core.specs.declared.code.RType.TheVariants as rtype
use Rattle.ir_core.specs.declared.code.Reg.{Reg}
use Rattle.ir_builder_frames.specs.Building.{Building, Extends}
use Rattle.ir_builder_frames.specs.Placing.{HasType}
use Rattle.ir_builder_choices.specs.declared.choice.Choice.{Choice}
use Rattle.ir_builder_expressions.specs.declared.chain.Link.{Link}
use Rattle.ir_builder_choices.specs.Choices.{Opens, Brings, Meets}

-- the choice of a comparison was begun, whose truth is in a register
pub record Begins (old new : Building) (l : Link) : Type 0 where
  pub holds : HasType old l.holds.0 rtype.Bool
  pub opens : Opens old new l.choice.target.0 l.choice.test l.choice.first rtype.Bool

-- one more is begun
abbrev pub Linked : Building → Building → List Link → List Link → Reg → Type 0
Linked old new before after holds =
    (c : Choice) × (after ≡ before ++ record { choice = c; holds = holds } ∷ []) × Opens old new c.target.0 c.test c.first rtype.Bool

-- these were begun one behind the other, and none is met yet
abbrev pub Pending : Building → List Link → Building → Type 0
Pending b [] c = Extends b c
Pending b (l ∷ ls) c = (a : Building) × (d : Building) × Extends b a × Begins a d l × Pending d ls c

-- one is met: the value of the rest of the chain is brought, and otherwise that of the comparison
pub record Met (old new : Building) (l : Link) (r : ℕ) : Type 0 where
  pub mid : Building
  pub end : ℕ
  pub brings : Brings old mid l.choice.target.0 r end
  pub meets : Meets mid new l.choice.target.0 l.holds.0 l.holds.0 l.choice.test l.choice.first end (length mid.blocks)

-- all are met, the last one first, and the result is in the register of the first
abbrev pub Ended : List Link → Building → ℕ → Building → ℕ → Type 0
Ended [] b r c q = (c ≡ b) × (q ≡ r)
Ended (l ∷ ls) b r c q = (d : Building) × (p : ℕ) × Ended ls b r d p × Met d c l p × (q ≡ l.choice.target.0)
