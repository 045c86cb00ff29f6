-- In a program that has its shape every write is an owning one: no operation fits whose row only lends.
use Rattle.std.proofs.Common.{◌≡◌, refl, Bool, true, false}
use Rattle.std.specs.Prelude.{◌&&◌}
use Rattle.c_core.specs.Primitives.{Outcome, Nothing, Owned, Lent, row_of}
use Rattle.ir_core.specs.declared.code.Op.{Op}
use Rattle.ir_core.specs.declared.code.Op.TheVariants.{Move, Lit, Prim, Call, Virtual, TraitCall, Turn, Inc, Dec, XDec}
use Rattle.ir_core.specs.Shape.{is_target_of, is_apart, op_fits}
use Rattle.liveness.specs.Paths.{lends, lends_to}

pub fits_owning : (o : Op) → op_fits o ≡ true → lends_to o ≡ false
fits_owning (Move r s) fits = refl
fits_owning (Lit r l) fits = refl
fits_owning (Prim to p args) fits = by_outcome (row_of p).outcome (is_apart to args) fits
  where
    by_outcome : (x : Outcome) (apart : Bool) → (is_target_of x to && apart) ≡ true → lends x ≡ false
    by_outcome Nothing apart e = refl
    by_outcome (Owned k) apart e = refl
    by_outcome (Lent k) apart e = let clash : false ≡ true = e in absurd (cc)
fits_owning (Call r g args) fits = refl
fits_owning (Virtual r o n args) fits = refl
fits_owning (TraitCall r o t n args) fits = refl
fits_owning Turn fits = refl
fits_owning (Inc r) fits = refl
fits_owning (Dec r) fits = refl
fits_owning (XDec r) fits = refl
