use Rattle.std.proofs.Common.{◌≡◌, ℕ, List, length, map}
use Rattle.std.specs.Str.{bytes_eq}
use Rattle.std.specs.Map.{lookup}
use Rattle.indexmap.specs.IndexMap.{get}
use Rattle.py_binder.proofs.TableLemmas.{or_else}
use Rattle.py_check_definitions.proofs.StartLemmas.{with_name}
use Rattle.py_check_definitions.proofs.starts.marks_of.Given as goal

abbrev pub invariant-loop-binding : goal.invariant-loop-binding
invariant-loop-binding l = (name : List ℕ) → or_else (lookup (bytes_eq name) (map with_name l.bindings.items)) (get bytes_eq l.marks name) ≡ lookup (bytes_eq name) (map with_name l.fn.bindings.items)

abbrev pub decreases-loop-binding : goal.decreases-loop-binding
decreases-loop-binding l = length l.bindings.items
