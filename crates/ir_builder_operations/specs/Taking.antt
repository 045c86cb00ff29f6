-- What is taken out of a list or a tuple, as a value of a type, which it is one of in a well-typed module.
use Rattle.std.specs.Prelude.{ℕ}
use Rattle.value_core.specs.Value.{Value}
use Rattle.py_typed.specs.Sorts.{Sort}
use Rattle.source_meaning.specs.State.{Does, ◌>>=◌}
use Rattle.source_meaning.specs.Operations.{list_item, pop_item, tuple_part}
use Rattle.ir_builder_operations.specs.Boxes.{taken_as}

-- the item of a list at an index
abbrev pub item_as : Sort → Value → Value → Does Value
item_as t l i = list_item l i >>= taken_as t

-- the last item of a list, which is taken out of it
abbrev pub popped_as : Sort → Value → Does Value
popped_as t l = pop_item l >>= taken_as t

-- the part of a tuple with a number, from 0
abbrev pub part_as : ℕ → Sort → Value → Does Value
part_as i t v = tuple_part i v >>= taken_as t
