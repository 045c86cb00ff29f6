use Rattle.std.proofs.Common.{rules, ◌∙◌, ◌++◌, List, map, ap, ap₂, sym, subst}
use Rattle.std.proofs.lemmas.List.{append_assoc}
use Rattle.py_syntax.specs.Statements.{body_tree}
use Rattle.py_syntax_diagnostics.specs.declared.diagnostic.Diag.{Diag}
use Rattle.py_check_context.specs.Context.{VarSort}
use Rattle.py_check_definitions.specs.Variables.{typed_variables}
use Rattle.py_check_definitions.specs.Views.{headed_of, classes_seen}
use Rattle.py_check.specs.Module.{context_in, fixed_sorts, bodies_said, typed_functions, statements_of}
use Rattle.py_check.specs.Parts.{module_context_of, own_along}
use Rattle.py_check.specs.Fixed.{AreFixed}
use Rattle.py_check.proofs.Bindings.{module_fixed}
use Rattle.py_check.proofs.modules.typed_in.Goals as goal

pub typed_functions-requires-clause-fixed : goal.typed_functions-requires-clause-fixed
typed_functions-requires-clause-fixed c =
    subst AreFixed (sym c.in_ok-own.ensures.known) (module_fixed (module_context_of c.args.module_context.now) c.args.scopes.now.top (body_tree c.args.body.now) c.requires.names c.requires.bound)

pub returns-clause-globals : goal.returns-clause-globals
returns-clause-globals c =
    c.in_ok-globals.ensures ∙ ap₂ typed_variables (c.in_ok-funcs.ensures.known ∙ c.in_ok-own.ensures.known) (search (rules, c.as_slice-variables.ensures))

pub returns-clause-funcs : goal.returns-clause-funcs
returns-clause-funcs c =
    c.in_ok-funcs.ensures.typed ∙ ap (λ (k : List VarSort). typed_functions (module_context_of c.args.module_context.now) k (map headed_of c.args.functions.now)) c.in_ok-own.ensures.known

pub returns-clause-top : goal.returns-clause-top
returns-clause-top c = c.statements_or_none.ensures ∙ ap statements_of c.in_ok-own.ensures.typed

pub returns-clause-told : goal.returns-clause-told
returns-clause-told c =
    let e = module_context_of c.args.module_context.now in
    let top = c.args.scopes.now.top in
    let fs = map headed_of c.args.functions.now in
    let m = body_tree c.args.body.now in
    c.in_ok-funcs.ensures.told
    ∙ ap₂ (λ (l : List Diag) (k : List VarSort). l ++ bodies_said e k fs) c.in_ok-own.ensures.told c.in_ok-own.ensures.known
    ∙ append_assoc c.args.faults.now (own_along (classes_seen c.args.module_context.now.tables) (context_in e top) e.variables c.args.scopes.now.funcs m) (bodies_said e (fixed_sorts (context_in e top) e.variables m) fs)
