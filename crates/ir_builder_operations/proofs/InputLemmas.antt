-- A line of input is read as the source reads it: it is a value, an exception is raised, or the run ends.
use Rattle.ir_builder_operations.proofs.Common.{refl, [], codes, ValueError, EOFError, thrown, StrVal, State, look, set_items, next_line, line_read, world, Shows, Answers, Throws, Finishes, leaves_all, ActsAs, Performs, inr}
use Rattle.value_core.specs.Ending.{Over, Broken}
use Rattle.value_core.specs.Items as item
use Rattle.value_core.specs.Items.{Items}
use Rattle.c_core.specs.declared.primitive.Primitive.TheVariants as prim
use Rattle.c_core.specs.declared.primitive.IoPrim.TheVariants as io
use Rattle.py_typed.specs.Sorts as sort
use Rattle.source_meaning.specs.State as source
use Rattle.std.specs.Prelude.{None}

-- by the items of input that are left
line_acts : (s : State) (items : Items) → ActsAs (Shows sort.Str) (prim.Io io.Input) (line_read items (world None s)) s (next_line items s)
line_acts s item.Eof = record { answer = Throws (thrown EOFError (codes "EOF when reading a line")); behind = s; leaves = leaves_all s; allowed = tt; effects = refl; shown = tt; does = refl }
line_acts s item.Broken = record { answer = Finishes source.Broken Broken refl; behind = s; leaves = leaves_all s; allowed = tt; effects = refl; shown = tt; does = refl }
line_acts s item.Over = record { answer = Finishes source.Over Over refl; behind = s; leaves = leaves_all s; allowed = tt; effects = refl; shown = tt; does = refl }
line_acts s (item.Line text next) = record { answer = Answers (StrVal text); behind = set_items next s; leaves = record { locals = refl; turns = refl }; allowed = tt; effects = refl; shown = (refl, (text, refl)); does = refl }
line_acts s (item.Bad next) = record { answer = Throws (thrown ValueError (codes "input is not UTF-8")); behind = set_items next s; leaves = record { locals = refl; turns = refl }; allowed = tt; effects = refl; shown = tt; does = refl }

pub line_performs : Performs (Shows sort.Str) (prim.Io io.Input) [] (look (λ s. s.items) next_line)
line_performs p s = inr (line_acts s s.items)
