use Rattle.std.proofs.Common.{◌≡◌, ℕ, List, length}
use Rattle.std.specs.Str.{bytes_eq}
use Rattle.std.specs.Map.{lookup}
use Rattle.indexmap.specs.IndexMap.{get}
use Rattle.py_binder.proofs.TableLemmas.{or_else}
use Rattle.py_check_names.proofs.meanings.table_of.Given as goal

abbrev pub invariant-loop-name : goal.invariant-loop-name
invariant-loop-name l = (name : List ℕ) → or_else (lookup (bytes_eq name) l.pairs.items) (get bytes_eq l.table name) ≡ lookup (bytes_eq name) l.fn.pairs.items

abbrev pub decreases-loop-name : goal.decreases-loop-name
decreases-loop-name l = length l.pairs.items
