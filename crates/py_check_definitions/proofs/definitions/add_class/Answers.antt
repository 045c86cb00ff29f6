use Rattle.std.proofs.Common.{◌≡◌, ◌++◌, IfOk, sym, subst}
use Rattle.py_syntax.specs.Statements.{ClassTree}
use Rattle.py_check_context.specs.Context.{context}
use Rattle.py_check_classes.proofs.HeaderLemmas.{class_tree_at}
use Rattle.py_check_places.specs.Views.{known_at}
use Rattle.py_check_definitions.specs.Views.{classes_seen, class_along}
use Rattle.py_check_definitions.proofs.definitions.add_class.Goals as goal

pub returns : goal.returns
returns c =
    let P : ClassTree → Type 0 = λ t. IfOk c.add_class_parts.result (λ done. c.add_class_parts.new.faults ≡ c.args.faults.now ++ class_along (classes_seen c.args.classes) (context c.args.scope.now) (known_at c.args.place.now) c.args.defined.number c.args.defined.span c.args.insides.now t) in
    subst P (sym (class_tree_at c.args.defined.tree.now)) c.add_class_parts.ensures
