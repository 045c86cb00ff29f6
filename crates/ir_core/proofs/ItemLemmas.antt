-- The items of a block: its operations, and behind them its end.
use Rattle.std.proofs.Common.{◌≡◌, refl, ap, ℕ, zero, suc, List, [], ◌∷◌, length, Some, None}
use Rattle.std.specs.Prelude.{slice_get}
use Rattle.ir_core.specs.declared.code.Op.{Op}
use Rattle.ir_core.specs.declared.code.Last.{Last}
use Rattle.ir_core.specs.Items.{Item, Do, End, in_block}

pub op_item : (ops : List (Op × ℕ)) (last : Last) (p : ℕ) (o : Op × ℕ) → slice_get ops p ≡ Some o → in_block ops last p ≡ Some (Do o.0 o.1)
op_item [] last p o e = cc
op_item (x ∷ ops) last zero o e =
    let same : x ≡ o = cc in ap (λ (z : Op × ℕ). Some (Do z.0 z.1)) same
op_item (x ∷ ops) last (suc p) o e = op_item ops last p o e

pub end_item : (ops : List (Op × ℕ)) (last : Last) → in_block ops last (length ops) ≡ Some (End last)
end_item [] last = refl
end_item (o ∷ ops) last = end_item ops last

-- an item stands behind each operation
pub next_item : (ops : List (Op × ℕ)) (last : Last) (p : ℕ) (o : Op) {line : ℕ} → in_block ops last p ≡ Some (Do o line) → (i : Item) × (in_block ops last (suc p) ≡ Some i)
next_item [] last zero o {line} e = let f : Some (End last) ≡ Some (Do o line) = e in absurd (cc)
next_item [] last (suc p) o {line} e = let f : None ≡ Some (Do o line) = e in absurd (cc)
next_item (x ∷ []) last zero o e = (End last, refl)
next_item (x ∷ y ∷ ops) last zero o e = (Do y.0 y.1, refl)
next_item (x ∷ ops) last (suc p) o e = next_item ops last p o e
