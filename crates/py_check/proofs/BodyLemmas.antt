-- Functions with their bodies, one behind the other.
use Rattle.std.proofs.Common.{◌≡◌, ◌∙◌, ℕ, suc, ◌+◌, ◌<◌, List, [], ◌∷◌, ◌++◌, length, map, drop, get_or, drop-cons, add-one, refl, ap, sym}
use Rattle.std.proofs.lemmas.List.{append_assoc}
use Rattle.py_syntax_diagnostics.specs.declared.diagnostic.Diag.{Diag}
use Rattle.py_typed.specs.declared.checked.TFunc.{TFunc}
use Rattle.py_typed.specs.Statements.{TypedFunc, typed_func}
use Rattle.py_check_context.specs.Context.{VarSort}
use Rattle.py_check_definitions.specs.declared.functions.Function.{Function}
use Rattle.py_check_definitions.specs.Definitions.{Headed}
use Rattle.py_check_definitions.specs.Views.{headed_of}
use Rattle.py_check.specs.Module.{ModuleContext, function_context, body, typed_function, bodies_said, typed_functions}

pub functions_at : (fs : List Function) (i : ℕ) (f : Function) → i < length fs → f ≡ get_or fs i f → map headed_of (drop i fs) ≡ headed_of f ∷ map headed_of (drop (i + 1) fs)
functions_at fs i f h at =
    ap (map headed_of) (drop-cons fs i f h)
    ∙ ap (λ (g : Function). headed_of g ∷ map headed_of (drop (suc i) fs)) (sym at)
    ∙ ap (λ n. headed_of f ∷ map headed_of (drop n fs)) (sym (add-one i))

map_one : (old : List TFunc) (t : TFunc) → map typed_func (old ++ t ∷ []) ≡ map typed_func old ++ typed_func t ∷ []
map_one [] t = refl
map_one (u ∷ old) t = ap (λ l. typed_func u ∷ l) (map_one old t)

module _ (e : ModuleContext) (fs : List Function) (i : ℕ) (f : Function) (h : i < length fs) (at : f ≡ get_or fs i f) (g g2 : List VarSort) (same : g2 ≡ g) where
  pub typed_on : (old new : List TFunc) (t : TFunc) (whole : List TypedFunc) → new ≡ old ++ t ∷ [] → typed_func t ≡ typed_function (function_context e (headed_of f)) e.variables g2 (headed_of f) → map typed_func old ++ typed_functions e g (map headed_of (drop i fs)) ≡ whole → map typed_func new ++ typed_functions e g (map headed_of (drop (i + 1) fs)) ≡ whole
  typed_on old new t whole put made before =
      let rest = typed_functions e g (map headed_of (drop (i + 1) fs)) in
      ap (λ l. map typed_func l ++ rest) put
      ∙ ap (λ l. l ++ rest) (map_one old t)
      ∙ append_assoc (map typed_func old) (typed_func t ∷ []) rest
      ∙ ap (λ (x : TypedFunc). map typed_func old ++ x ∷ rest) made
      ∙ ap (λ (k : List VarSort). map typed_func old ++ typed_function (function_context e (headed_of f)) e.variables k (headed_of f) ∷ rest) same
      ∙ ap (λ (l : List Headed). map typed_func old ++ typed_functions e g l) (sym (functions_at fs i f h at))
      ∙ before

  pub said_on : (old new whole : List Diag) → new ≡ old ++ (body (function_context e (headed_of f)) e.variables g2 (headed_of f)).said → old ++ bodies_said e g (map headed_of (drop i fs)) ≡ whole → new ++ bodies_said e g (map headed_of (drop (i + 1) fs)) ≡ whole
  said_on old new whole put before =
      let rest = bodies_said e g (map headed_of (drop (i + 1) fs)) in
      ap (λ l. l ++ rest) put
      ∙ append_assoc old (body (function_context e (headed_of f)) e.variables g2 (headed_of f)).said rest
      ∙ ap (λ (k : List VarSort). old ++ ((body (function_context e (headed_of f)) e.variables k (headed_of f)).said ++ rest)) same
      ∙ ap (λ (l : List Headed). old ++ bodies_said e g l) (sym (functions_at fs i f h at))
      ∙ before
