use Rattle.std.proofs.Common.{◌≡◌, map, drop, ◌++◌}
use Rattle.std.specs.String.{string_bytes}
use Rattle.py_typed.specs.Sorts.{sort, sorts_of}
use Rattle.py_typed.specs.Classes.{class_entry}
use Rattle.py_typed.specs.TypeTexts.{types_text}
use Rattle.py_typed.proofs.TypeLemmas.{types_from}
use Rattle.py_typed.proofs.copies.+texts.Given as goal

abbrev pub invariant-write_types-loop-i : goal.invariant-write_types-loop-i
invariant-write_types-loop-i l = string_bytes l.text ++ types_from (map class_entry l.classes) l.i (sorts_of (map sort (drop l.i l.ts))) ≡ string_bytes l.initial.text ++ types_text (map class_entry l.classes) (sorts_of (map sort l.ts))
