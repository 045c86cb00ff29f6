-- Functions that differ in their blocks alone, and functions in a row of which each is related to the one at its place.
use Rattle.std.specs.Prelude.{◌≡◌, List, [], ◌∷◌}
use Rattle.ir_core.specs.declared.code.Func.{Func}

pub record IsAlike (f g : Func) : Type 0 where
  pub name : g.name ≡ f.name
  pub params : g.params ≡ f.params
  pub regs : g.regs ≡ f.regs
  pub ret : g.ret ≡ f.ret

abbrev pub AreEach : (Func → Func → Type 0) → List Func → List Func → Type 0
AreEach R [] [] = Unit {0}
AreEach R (f ∷ fs) (g ∷ gs) = R f g × AreEach R fs gs
AreEach R _ _ = ⊥
