use Rattle.std.proofs.Common.{◌∙◌, ap, sym, refl, rules, map}
use Rattle.py_syntax.specs.Statements.{body_tree}
use Rattle.py_typed.specs.Classes.{class_entry, signature}
use Rattle.py_typed.specs.Statements.{typed_func, typed_suite, variable}
use Rattle.py_check_names.specs.Walked.{trees, func_trees}
use Rattle.py_check_members.specs.Views.{own_of}
use Rattle.py_check_definitions.specs.Views.{headed_of}
use Rattle.py_check_names.specs.Meanings.{variables}
use Rattle.py_check.specs.Module.{ModuleContext}
use Rattle.py_check.proofs.WholeLemmas.{same_tree, all_said}
use Rattle.py_check.proofs.modules.typing_by.Goals as goal

pub parts_of-requires-clause-names : goal.parts_of-requires-clause-names
parts_of-requires-clause-names c = ap (λ (e : ModuleContext). e.variables) c.requires.known.context ∙ sym (ap variables c.requires.bound.top)

pub returns-clause-typed : goal.returns-clause-typed
returns-clause-typed c =
    let p = c.in_ok-parts.parts in
    same_tree (body_tree c.args.body.now) c.args.scopes.now c.requires.bound c.args.found.now (map headed_of c.args.functions.now) c.args.tables c.requires.known
    (map class_entry c.args.tables.classes.list) (map signature c.args.tables.classes.sigs) (map variable p.globals) (map typed_func p.funcs) (typed_suite p.top)
    refl c.requires.known.signatures c.in_ok-parts.ensures.globals c.in_ok-parts.ensures.funcs c.in_ok-parts.ensures.top

pub returns-clause-told : goal.returns-clause-told
returns-clause-told c =
    let known = c.requires.known in
    all_said (body_tree c.args.body.now) c.args.scopes.now c.requires.bound c.args.found.now (map headed_of c.args.functions.now) c.args.tables known
    (func_trees c.args.found.now.functions.items) known.held c.args.found.now.classes.headers known.headers (map own_of c.args.tables.members) known.owns (trees c.args.found.now.definitions.items) known.definitions
    c.new-faults.result c.parts_of.new.faults c.add_inner_faults.new.faults c.add_found.new.faults c.add_refusals.new.faults
    c.new-faults.ensures c.in_ok-parts.ensures.told
    (search (rules, c.in_ok-add_inner_faults.ensures))
    (search (rules, c.in_ok-add_found.ensures))
    (search (rules, c.in_ok-add_refusals.ensures))
