-- What a name says, by the type of its variable.
use Rattle.std.proofs.Common.{◌≡◌, ℕ, zero, suc, Bool, false, List, [], ◌∷◌, map, Option, Result, IfOk, refl, subst}
use Rattle.std.specs.Prelude.{slice_get}
use Rattle.std.specs.Option.{option_map}
use Rattle.std.specs.declared.boxed.Box.{Box}
use Rattle.std.specs.declared.alloc.Global.{Global}
use Rattle.value_core.specs.declared.memory.Memory.{Memory}
use Rattle.py_syntax.specs.declared.token.Span.{Span}
use Rattle.py_syntax_diagnostics.specs.declared.diagnostic.Diag.{Diag}
use Rattle.py_typed.specs.declared.expression.TExpr.{TExpr}
use Rattle.py_typed.specs.Expressions as node
use Rattle.py_typed.specs.Expressions.{TypedNode}
use Rattle.py_typed.specs.Narrowing.{is_in}
use Rattle.py_check_context.specs.declared.scope.Meaning.{Meaning}
use Rattle.py_check_context.specs.declared.scope.Meaning.TheVariants.{Local, Global as GlobalName}
use Rattle.py_check_context.specs.declared.variables.VarType.{VarType}
use Rattle.py_check_context.specs.Context.{VarSort, VarSorts, var_sort, var_at}
use Rattle.py_check_messages.specs.Seen.{Tells}
use Rattle.py_check_coercions.specs.Boxes.{boxed}
use Rattle.py_check_operators.specs.Names.{variable, named}

pub var_found : (types : List VarType) (i : ℕ) → slice_get (map var_sort types) i ≡ option_map var_sort (slice_get types i)
var_found [] i = refl
var_found (t ∷ ts) zero = refl
var_found (t ∷ ts) (suc i) = var_found ts i

module _ (r : Result (Option (Box TExpr Global)) Memory) (old new : List Diag) (vars : VarSorts) (known : List ℕ) (span : Span) (x : List ℕ) (i : ℕ) where
  pub local_says : (m : Meaning) (e : TypedNode) (k : Bool) (v : VarSort) → Local i ≡ m → e ≡ node.Local i → k ≡ is_in known i → v ≡ var_at vars.locals i → IfOk r (λ t. Tells boxed t old new (variable span x e k v)) → IfOk r (λ t. Tells boxed t old new (named vars known span x m))
  local_says m e k v means kind is_known typed h =
      let P : Meaning → Type 0 = λ n. IfOk r (λ t. Tells boxed t old new (named vars known span x n)) in
      let Q : Bool → Type 0 = λ b. IfOk r (λ t. Tells boxed t old new (variable span x (node.Local i) b (var_at vars.locals i))) in
      let V : VarSort → Type 0 = λ u. IfOk r (λ t. Tells boxed t old new (variable span x (node.Local i) k u)) in
      let N : TypedNode → Type 0 = λ u. IfOk r (λ t. Tells boxed t old new (variable span x u k v)) in
      subst P means (subst Q is_known (subst V typed (subst N kind h)))

  pub global_says : (m : Meaning) (e : TypedNode) (v : VarSort) → GlobalName i ≡ m → e ≡ node.Global i → v ≡ var_at vars.globals i → IfOk r (λ t. Tells boxed t old new (variable span x e false v)) → IfOk r (λ t. Tells boxed t old new (named vars known span x m))
  global_says m e v means kind typed h =
      let P : Meaning → Type 0 = λ n. IfOk r (λ t. Tells boxed t old new (named vars known span x n)) in
      let V : VarSort → Type 0 = λ u. IfOk r (λ t. Tells boxed t old new (variable span x (node.Global i) false u)) in
      let N : TypedNode → Type 0 = λ u. IfOk r (λ t. Tells boxed t old new (variable span x u false v)) in
      subst P means (subst V typed (subst N kind h))
