use Rattle.std.proofs.Common.{◌≡◌, List, map, unwrap_or, IfOk, Bor, subst₂}
use Rattle.std.specs.Str.{bytes_eq}
use Rattle.indexmap.specs.IndexMap.{get}
use Rattle.py_syntax.specs.declared.statement.Stmt.{Stmt}
use Rattle.py_binder.specs.declared.scope.Scope.{Scope}
use Rattle.py_check_context.specs.declared.scope.Meaning.TheVariants.{Unknown}
use Rattle.py_check_names.specs.Walked.{trees}
use Rattle.py_check_members.specs.Members as members
use Rattle.py_check_members.specs.Views.{own_of}
use Rattle.py_check.proofs.tables.members_by.Goals as goal

pub returns-clause-own : goal.returns-clause-own
returns-clause-own c =
    let P : List Scope → List (Bor Stmt) → Type 0 = λ scopes ds. IfOk c.module_members.result (λ all. map own_of all ≡ members.own_members c.args.found.now.classes.headers (λ x. unwrap_or (get bytes_eq c.args.names.now x) Unknown) (members.meanings_inside (get bytes_eq c.args.found.now.known.said) c.args.found.now.known.variables.keys scopes) (trees ds)) in
    subst₂ P c.as_slice.ensures c.as_slice-2.ensures.value c.module_members.ensures.own
