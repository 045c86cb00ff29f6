use Rattle.std.proofs.Common.{◌≡◌, ◌++◌, map, drop}
use Rattle.std.specs.Option.{option_map}
use Rattle.std.specs.Str.{bytes_eq}
use Rattle.indexmap.specs.IndexMap.{get}
use Rattle.py_syntax.specs.Statements.{param_tree}
use Rattle.py_typed.specs.Sorts.{sort}
use Rattle.py_check_context.specs.Context.{context, var_sort}
use Rattle.py_check_definitions.specs.Views.{mark_tree, sort_by}
use Rattle.py_check_definitions.proofs.starts.types_by.Given as goal

abbrev pub invariant-loop-name : goal.invariant-loop-name
invariant-loop-name l =
    map var_sort l.types ++ map (sort_by (context l.scope).meaning (λ name. option_map mark_tree (get bytes_eq l.marks name)) (map (λ p. p.0) (map param_tree l.params)) (map (option_map sort) l.sorts)) (drop l.name-index l.names)
    ≡ map (sort_by (context l.scope).meaning (λ name. option_map mark_tree (get bytes_eq l.marks name)) (map (λ p. p.0) (map param_tree l.params)) (map (option_map sort) l.sorts)) l.names
