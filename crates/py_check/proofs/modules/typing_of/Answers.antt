use Rattle.std.proofs.Common.{rules, ◌≡◌, ◌∙◌, List, ap, sym, map}
use Rattle.py_syntax.specs.Statements.{body_tree}
use Rattle.py_check_names.specs.Walked.{trees, func_trees}
use Rattle.py_check_signatures.specs.Headers.{signature_of}
use Rattle.py_check_definitions.specs.declared.functions.Function.{Function}
use Rattle.py_check_definitions.specs.Views.{headed_of}
use Rattle.py_check.specs.Module.{plain_signature}
use Rattle.py_check.proofs.WholeLemmas.{one_to_one, few_held, same_functions, are_tables}
use Rattle.py_check.proofs.modules.typing_of.Goals as goal

pub headed_functions-requires-clause-scoped : goal.headed_functions-requires-clause-scoped
headed_functions-requires-clause-scoped c = one_to_one (body_tree c.args.body.now) c.args.scopes.now c.requires c.in_ok-found.found.functions.items c.in_ok-found.ensures.functions

pub tables_of-requires-clause-few : goal.tables_of-requires-clause-few
tables_of-requires-clause-few c =
    few_held (body_tree c.args.body.now) c.in_ok-found.found.functions.items c.in_ok-found.ensures.functions (trees c.in_ok-found.found.definitions.items) c.in_ok-found.ensures.definitions (search (rules, c.len-count.ensures))

pub typing_by-requires-clause-known : goal.typing_by-requires-clause-known
typing_by-requires-clause-known c =
    let m = body_tree c.args.body.now in
    let s = c.args.scopes.now in
    let o = c.in_ok-found.found in
    let f = c.in_ok-found.ensures in
    let t = c.in_ok-tables.tables in
    let h = c.in_ok-tables.ensures in
    let same : c.as_slice-2.result.now ≡ c.as_slice.result.now = c.as_slice-2.ensures.value ∙ sym c.as_slice.ensures.value in
    let whole = ap (map headed_of) c.as_slice-2.ensures.value ∙ same_functions m s c.requires o f.said f.variables (func_trees o.functions.items) f.functions o.owners f.owners (map headed_of c.in_ok-functions.functions.items) c.in_ok-functions.ensures in
    are_tables m s c.requires o f.said f.variables f.headers f.definitions t (map headed_of c.as_slice-2.result.now) whole f.functions f.kept
    (h.signatures ∙ ap (λ (l : List Function). map (λ x. signature_of x.header) (map headed_of l)) (sym same))
    (h.plain ∙ ap (λ (l : List Function). map (λ x. plain_signature (signature_of x.header)) (map headed_of l)) (sym same))
    h.own h.member h.init h.behind h.declaring h.classes
