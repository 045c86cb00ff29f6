-- Codes that are in order, and codes whose places have the shares of a table, keep the shares of their places.
use Rattle.std.proofs.Common.{◌≡◌, refl, sym, ap, subst, ◌∙◌, ℕ, zero, suc, ◌+◌, List, [], ◌∷◌, Some, arith}
use Rattle.std.specs.Prelude.{slice_get}
use Rattle.std.specs.Option.{option_and_then}
use Rattle.c_core.specs.declared.code.Line.{Line}
use Rattle.c_core.specs.declared.code.CFunc.{CFunc}
use Rattle.c_core.specs.declared.code.Code.{Code}
use Rattle.c_core.specs.Functions.{label_places}
use Rattle.c_core_ownership_laws.specs.Shares.{Shares, Within, LineChecks, Checks}
use Rattle.c_core_ownership_laws.specs.Order.{Any, from, IsInOrder, Table, Entered, AreInOrder, labels_of, IsPlaced, ArePlaced}
use Rattle.c_core_ownership_laws.proofs.Safe.{Follows, AreKept}
use Rattle.c_core_ownership_laws.proofs.Weaken.{within_self, within_all, line_within}

-- ---- places
from-suc : (ls : List Line) (p : ℕ) (l : Line) → slice_get ls p ≡ Some l → from p ls ≡ l ∷ from (suc p) ls
from-suc [] p l e = cc
from-suc (k ∷ ls) zero l e = let f : k ≡ l = cc in ap (λ z. z ∷ ls) f
from-suc (k ∷ ls) (suc p) l e = from-suc ls p l e

pub from-get : (ls : List Line) (p : ℕ) (l : Line) → slice_get ls p ≡ Some l → from p ls ≡ l ∷ from (p + 1) ls
from-get ls p l e =
    let f : suc p ≡ p + 1 = omega arith in from-suc ls p l e ∙ ap (λ z. l ∷ from z ls) f

pub from-line : (ls : List Line) (p : ℕ) (l : Line) (rest : List Line) → from p ls ≡ l ∷ rest → slice_get ls p ≡ Some l
from-line [] zero l rest e = cc
from-line [] (suc p) l rest e = cc
from-line (k ∷ ls) zero l rest e = let f : k ≡ l = cc in ap Some f
from-line (k ∷ ls) (suc p) l rest e = from-line ls p l rest e

-- ---- a code that is in order
module _ (code : Code) (t : Table) (order : AreInOrder code t) where
  -- the lines from a place on are in order
  abbrev pub ChecksAt : ℕ → ℕ → Shares → Type 0
  ChecksAt f p σ = (g : CFunc) → slice_get code.funcs f ≡ Some g → Checks code g (Entered t f) Any σ (from p g.lines)

  only : (f p : ℕ) (g : CFunc) (σ : Shares) → slice_get code.funcs f ≡ Some g → Checks code g (Entered t f) Any σ (from p g.lines) → ChecksAt f p σ
  only f p g σ is h other e =
      let same_function : g ≡ other = cc in subst (λ z. Checks code z (Entered t f) Any σ (from p z.lines)) same_function h

  order_line : (f : ℕ) (g : CFunc) → slice_get code.funcs f ≡ Some g → (p : ℕ) (l : Line) (σ : Shares) → ChecksAt f p σ → slice_get g.lines p ≡ Some l → LineChecks code g (Entered t f) σ l (Follows code (Entered t) ChecksAt f p)
  order_line f g is p l σ at e =
      line_within code g (Entered t f) σ σ l (λ τ. Checks code g (Entered t f) Any τ (from (p + 1) g.lines)) (Follows code (Entered t) ChecksAt f p) (within_self σ)
      (λ τ ω w h. (τ, only f (p + 1) g τ is h, w))
      (subst (Checks code g (Entered t f) Any σ) (from-get g.lines p l e) (at g is))

  pub order_kept : AreKept code (Entered t) ChecksAt
  order_kept f g is =
      let o = order f g is in
      record {
        entry = o.entry;
        is_entry = o.is_entry;
        is_filled = o.is_filled;
        begins = only f 0 g o.entry is o.begins;
        enters = λ n q σ e at. only f q g σ is (o.enters n q σ e at);
        line = order_line f g is;
      }

-- ---- a code whose places have shares
module _ (code : Code) (t : Table) where
  label_found : (f n q : ℕ) (g : CFunc) (σ : Shares) → slice_get code.funcs f ≡ Some g → Entered (labels_of code t) f n σ → slice_get (label_places g.lines) n ≡ Some q → t f q ≡ Some σ
  label_found f n q g σ is e at =
      sym (ap (option_and_then (t f)) (ap (option_and_then (λ g. slice_get (label_places g.lines) n)) is ∙ at)) ∙ e

  pub placed_kept : ArePlaced code t → AreKept code (Entered (labels_of code t)) (Entered t)
  placed_kept placed f g is =
      let o = placed f g is in
      record {
        entry = o.entry;
        is_entry = o.is_entry;
        is_filled = o.is_filled;
        begins = o.begins;
        enters = λ n q σ e at. label_found f n q g σ is e at;
        line = o.line;
      }

  module _ (f : ℕ) (g : CFunc) (is : slice_get code.funcs f ≡ Some g) (o : IsPlaced code t f g) where
    -- the lines from a place on are in order from the shares of that place
    placed_checks : (ls : List Line) (p : ℕ) → from p g.lines ≡ ls → (σ ρ : Shares) → t f p ≡ Some ρ → Within σ ρ → Checks code g (Entered (labels_of code t) f) Any σ ls
    placed_checks [] p e σ ρ at w = tt
    placed_checks (l ∷ ls) p e σ ρ at w =
        let here : slice_get g.lines p ≡ Some l = from-line g.lines p l ls e in
        let rest : from (p + 1) g.lines ≡ ls = let both : l ∷ from (p + 1) g.lines ≡ l ∷ ls = sym (from-get g.lines p l here) ∙ e in cc in
        line_within code g (Entered (labels_of code t) f) ρ σ l (λ τ. (ω : Shares) × (t f (p + 1) ≡ Some ω) × Within τ ω) (λ τ. Checks code g (Entered (labels_of code t) f) Any τ ls) w
        (λ τ ω within h. placed_checks ls (p + 1) rest ω h.0 h.1 (within_all ω τ h.0 within h.2))
        (o.line p l ρ at here)

    placed_order : IsInOrder code (Entered (labels_of code t) f) g
    placed_order = record {
      entry = o.entry;
      is_entry = o.is_entry;
      is_filled = o.is_filled;
      begins = placed_checks g.lines 0 refl o.entry o.entry o.begins (within_self o.entry);
      enters = λ n q σ e at. placed_checks (from q g.lines) q refl σ σ (label_found f n q g σ is e at) (within_self σ);
    }

  pub placed_in_order : ArePlaced code t → AreInOrder code (labels_of code t)
  placed_in_order placed f g is = placed_order f g is (placed f g is)
