use Rattle.std.proofs.Common.{◌≡◌, ℕ, List, map, IfOk, subst}
use Rattle.std.proofs.Math.Path.{fun_ext}
use Rattle.std.specs.Str.{bytes_eq}
use Rattle.indexmap.specs.IndexMap.{get}
use Rattle.py_check_context.specs.declared.scope.Meaning.{Meaning}
use Rattle.py_check_names.specs.Walked.{trees}
use Rattle.py_check_members.specs.Members as members
use Rattle.py_check_members.specs.Views.{own_of}
use Rattle.py_check.proofs.tables.members_of.Goals as goal

pub returns-clause-own : goal.returns-clause-own
returns-clause-own c =
    let P : (List ℕ → Meaning) → Type 0 = λ w. IfOk c.members_by.result (λ all. map own_of all ≡ members.own_members c.args.found.now.classes.headers w (members.meanings_inside (get bytes_eq c.args.found.now.known.said) c.args.found.now.known.variables.keys c.args.scopes.now.funcs) (trees c.args.found.now.definitions.items)) in
    subst P (fun_ext c.in_ok-names.ensures) c.members_by.ensures.own
