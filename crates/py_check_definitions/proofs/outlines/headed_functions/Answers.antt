use Rattle.std.proofs.Common.{◌≡◌, ◌∙◌, ℕ, List, map, IfOk, Bor, subst, subst₂}
use Rattle.std.proofs.Math.Path.{fun_ext}
use Rattle.py_syntax.specs.declared.statement.Func.{Func}
use Rattle.py_binder.specs.declared.scope.Scope.{Scope}
use Rattle.py_check_context.specs.declared.scope.Meaning.{Meaning}
use Rattle.py_check_names.specs.Walked.{func_trees}
use Rattle.py_check_signatures.specs.declared.headers.Owner.{Owner}
use Rattle.py_check_definitions.specs.Views.{headed_of, headed_all, meanings_by}
use Rattle.py_check_definitions.proofs.outlines.headed_functions.Goals as goal

pub returns : goal.returns
returns c =
    let P : (List ℕ → Meaning) → Type 0 = λ w. IfOk c.functions_of.result (λ fs. map headed_of fs.items ≡ headed_all w (func_trees c.as_slice.result.now) c.as_slice-2.result.now c.as_slice-3.result.now) in
    let Q : List (Bor Func) → Type 0 = λ l. IfOk c.functions_of.result (λ fs. map headed_of fs.items ≡ headed_all (meanings_by c.args.found.now.known c.args.scopes.now.top) (func_trees l) c.as_slice-2.result.now c.as_slice-3.result.now) in
    let R : List Owner → List Scope → Type 0 = λ owners scopes. IfOk c.functions_of.result (λ fs. map headed_of fs.items ≡ headed_all (meanings_by c.args.found.now.known c.args.scopes.now.top) (func_trees c.args.found.now.functions.items) owners scopes) in
    subst₂ R c.as_slice-2.ensures c.as_slice-3.ensures (subst Q c.as_slice.ensures.value (subst P (c.names_alone-scope.ensures ∙ fun_ext c.in_ok-names.ensures) c.functions_of.ensures))
