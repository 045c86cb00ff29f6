use Rattle.std.proofs.Common.{◌≡◌, ◌<◌, ℕ, true, map}
use Rattle.py_typed.specs.Classes.{class_entry, bases_fall}
use Rattle.class_layout.proofs.order.bases_fall.Given as goal

abbrev pub invariant-loop-number : goal.invariant-loop-number
invariant-loop-number l = (c : ℕ) → c < l.number → bases_fall (map class_entry l.classes) c ≡ true
