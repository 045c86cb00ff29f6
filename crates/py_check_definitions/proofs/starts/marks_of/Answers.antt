use Rattle.std.proofs.Common.{rules, ◌≡◌, ◌∙◌, [], ◌∷◌, ◌++◌, map, refl, ap, sym}
use Rattle.std.specs.Option.{option_map}
use Rattle.py_binder.proofs.TableLemmas.{or_else}
use Rattle.py_check_definitions.specs.Views.{mark_tree}
use Rattle.std.specs.Str.{bytes_eq}
use Rattle.std.specs.Map.{lookup}
use Rattle.indexmap.specs.IndexMap.{get}
use Rattle.py_check_definitions.proofs.StartLemmas.{with_name, mark_step, marks_seen}
use Rattle.py_check_definitions.proofs.starts.marks_of.Goals as goal

pub loop-binding-preserved : goal.loop-binding-preserved
loop-binding-preserved c =
    let taken : c.loop-binding.bindings.items ≡ c.pop.new.self.items ++ c.in-Some.binding ∷ [] = search (rules, c.in-Some.ensures.items) in
    mark_step c.loop-binding.bindings.items c.pop.new.self.items c.in-Some.binding c.in-Some.binding.name.now (get bytes_eq c.loop-binding.marks) (get bytes_eq c.add_mark.new.marks) (λ k. lookup (bytes_eq k) (map with_name c.args.bindings.now.items)) taken refl c.in_ok-add_mark.ensures c.loop-binding.invariant

pub returns : goal.returns
returns c = λ name.
    let empty : c.loop-binding.bindings.items ≡ [] = search (rules, c.in_default.ensures.items, c.in_default.is, c.in_default.not-Some) in
    ap (option_map mark_tree) (sym (ap (λ l. or_else (lookup (bytes_eq name) (map with_name l)) (get bytes_eq c.loop-binding.marks name)) empty) ∙ c.loop-binding.invariant name)
    ∙ marks_seen name c.args.bindings.now.items
