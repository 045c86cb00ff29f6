-- What the definitions promise of all numbers, bytes, values and classes.
use Rattle.std.specs.Prelude.{◌≡◌, ◌≢◌, ℕ, false, ℤ, pos, ◌≤ℤ◌, ◌<ℤ◌, List, [], ◌∷◌, ◌++◌, ◌⊎◌}
use Rattle.std.specs.List.{concat, list_any}
use Rattle.std.specs.Str.{chars, IsUtf8}
use Rattle.std.specs.Ordering.{nat_cmp}
use Rattle.std.specs.Cmp.Lexicographic.{slice_cmp}
use Rattle.value_core.specs.declared.exception.ExcClass.{ExcClass}
use Rattle.value_core.specs.Arithmetic.{modulo}
use Rattle.value_core.specs.Exceptions.{class_name}
use Rattle.value_core.specs.Items.{line_feed, is_line_feed, pieces}
use Rattle.value_core.specs.Value.{Value, Values, listed, tupled}

-- what a division leaves is 0 or has the divisor's sign, and is nearer to 0 than the divisor
abbrev pub RestIsNear : Type 0
RestIsNear = (a b : ℤ) → (pos 0 <ℤ b → (pos 0 ≤ℤ modulo a b) × (modulo a b <ℤ b)) × (b <ℤ pos 0 → (b <ℤ modulo a b) × (modulo a b ≤ℤ pos 0))

-- bytes with one line feed, at their end
abbrev pub IsEndedLine : List ℕ → Type 0
IsEndedLine p = (text : List ℕ) × (list_any is_line_feed text ≡ false) × (p ≡ text ++ line_feed ∷ [])

-- bytes with no line feed, of which there is at least one
abbrev pub IsOpenLine : List ℕ → Type 0
IsOpenLine p = (p ≢ []) × (list_any is_line_feed p ≡ false)

-- each is ended, but the last may be open
abbrev pub AreLines : List (List ℕ) → Type 0
AreLines [] = Unit {0}
AreLines (p ∷ []) = IsEndedLine p ⊎ IsOpenLine p
AreLines (p ∷ q ∷ ps) = IsEndedLine p × AreLines (q ∷ ps)

-- the pieces of input are lines, and joined they are the bytes
abbrev pub PiecesAreLines : Type 0
PiecesAreLines = (bytes : List ℕ) → (concat (pieces bytes) ≡ bytes) × AreLines (pieces bytes)

-- the parts of a tuple and a list of values are each got back from the other
abbrev pub PartsAreAList : Type 0
PartsAreAList = ((vs : List Value) → listed (tupled vs) ≡ vs) × ((parts : Values) → tupled (listed parts) ≡ parts)

-- no two classes have one name
abbrev pub NamesDiffer : Type 0
NamesDiffer = (a b : ExcClass) → class_name a ≡ class_name b → a ≡ b

-- texts stand in the same order by their bytes as by their code points
abbrev pub ByteOrderIsTextOrder : Type 0
ByteOrderIsTextOrder = (s t : List ℕ) → IsUtf8 s → IsUtf8 t → slice_cmp nat_cmp s t ≡ slice_cmp nat_cmp (chars s) (chars t)
