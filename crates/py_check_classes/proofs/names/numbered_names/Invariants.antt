use Rattle.std.proofs.Common.{◌≡◌, ℕ, List, length}
use Rattle.std.specs.Str.{bytes_eq}
use Rattle.std.specs.Map.{lookup}
use Rattle.indexmap.specs.IndexMap.{get}
use Rattle.py_binder.proofs.TableLemmas.{or_else}
use Rattle.py_check_classes.specs.Names.{class_counts, numbered}
use Rattle.py_check_classes.proofs.names.numbered_names.Given as goal

abbrev pub invariant-loop-name : goal.invariant-loop-name
invariant-loop-name l =
    record {
      count : l.next ≡ class_counts l.said.items;
      table : (name : List ℕ) → or_else (lookup (bytes_eq name) (numbered 0 l.said.items)) (get bytes_eq l.table name) ≡ lookup (bytes_eq name) (numbered 0 l.fn.said.items);
    }

abbrev pub decreases-loop-name : goal.decreases-loop-name
decreases-loop-name l = length l.said.items
