-- Dicts of what pairs of registers hold, the first of each its key.
use Rattle.std.specs.Prelude.{List, [], ◌∷◌}
use Rattle.std.specs.List.{list_all}
use Rattle.value_core.specs.Value.{Value, DictObj}
use Rattle.source_meaning.specs.State.{Does, needs, make}
use Rattle.source_meaning.specs.Operations.{entered}
use Rattle.ir_core.specs.declared.code.Reg.{Reg}
use Rattle.ir_builder_operations.specs.Boxes.{may_be_key}

-- the registers in a row, each key before its value
abbrev pub in_a_row : List (Reg × Reg) → List Reg
in_a_row [] = []
in_a_row (e ∷ es) = e.0 ∷ e.1 ∷ in_a_row es

-- the values in them as pairs
abbrev pub paired : List Value → List (Value × Value)
paired (key ∷ v ∷ vs) = (key, v) ∷ paired vs
paired vs = []

-- a new dict with these pairs, entered one after another, whose keys are values that keys may be, as in a well-typed module
abbrev pub dict_of : List Value → Does Value
dict_of vs = needs (list_all (λ p. may_be_key p.0) (paired vs)) (make (DictObj (entered (paired vs) [])))
