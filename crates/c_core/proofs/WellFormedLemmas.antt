-- What the tests of a code compute, one part after another.
use Rattle.std.proofs.Common.{◌≡◌, refl, sym, ◌∙◌, ap, ℕ, zero, suc, ◌≤◌, replicate, ◌+◌, ◌-◌, ◌<◌, arith, take, length-drop, Bool, true, false, not, List, [], ◌∷◌, length, drop, get_or, add-one, drop-cons, eqb-true}
use Rattle.std.proofs.lemmas.List.{take_all}
use Rattle.std.specs.Prelude.{map, ◌&&◌, ◌||◌, ◌==◌}
use Rattle.std.specs.List.{list_all, list_any}
use Rattle.std.specs.Str.{bytes_eq, chars, IsUtf8}
use Rattle.std.proofs.lemmas.Str.{is_utf8-from_IsUtf8}
use Rattle.unicode_ident.specs.Ident.{is_xid_continue}
use Rattle.c_core.specs.declared.code.CArg.{CArg}
use Rattle.c_core.specs.declared.code.Code.{Code}
use Rattle.c_core.specs.declared.code.CArg.TheVariants as arg
use Rattle.c_core.specs.declared.code.Kind.TheVariants.{Object}
use Rattle.c_core.specs.declared.primitive.Primitive.TheVariants as prim
use Rattle.c_core.specs.declared.primitive.TuplePrim.TheVariants as tuple
use Rattle.c_core.specs.Primitives.{Is, Anything, Parameter, MaySteal, may_end, row_of}
use Rattle.c_core.specs.WellFormed.{Declared, is_identifier, names_differ, has_kind, kind_at, passes, arg_fits, args_fit}

pub some_identifier : (name : List ℕ) (r : Bool) → IsUtf8 name → false ≡ (length name == 0) → r ≡ list_all is_xid_continue (chars name) → r ≡ is_identifier name
some_identifier [] r u e f = absurd (cc)
some_identifier (b ∷ bs) r u e f = f ∙ rw (is_utf8-from_IsUtf8 (b ∷ bs) u) refl

-- ---- names of things
module _ {A : Type 0} (name_of : A → List ℕ) where
  pub any_name : (name : List ℕ) (xs : List A) → list_any (bytes_eq name) (map name_of xs) ≡ list_any (λ x. bytes_eq name (name_of x)) xs
  any_name name [] = refl
  any_name name (x ∷ xs) = ap (λ b. bytes_eq name (name_of x) || b) (any_name name xs)

  names_step : (xs : List A) (i : ℕ) (x : A) → i < length xs → x ≡ get_or xs i x → names_differ (map name_of (drop i xs)) ≡ (not (list_any (λ y. bytes_eq (name_of x) (name_of y)) (drop (i + 1) xs)) && names_differ (map name_of (drop (i + 1) xs)))
  names_step xs i x l e =
      ap (λ ys. names_differ (map name_of ys)) (drop-cons xs i x l)
      ∙ ap (λ y. not (list_any (bytes_eq (name_of y)) (map name_of (drop (suc i) xs))) && names_differ (map name_of (drop (suc i) xs))) (sym e)
      ∙ ap (λ b. not b && names_differ (map name_of (drop (suc i) xs))) (any_name (name_of x) (drop (suc i) xs))
      ∙ ap (λ k. not (list_any (λ y. bytes_eq (name_of x) (name_of y)) (drop k xs)) && names_differ (map name_of (drop k xs))) (sym (add-one i))

  -- one turn of the loop over the names: b is whether the name of number i stands again behind it
  pub names_turn : (xs : List A) (i : ℕ) (x : A) (name : List ℕ) (b : Bool) → i < length xs → x ≡ get_or xs i x → name ≡ name_of x → b ≡ list_any (λ y. bytes_eq name (name_of y)) (take (length xs - (i + 1)) (drop (i + 1) xs)) → names_differ (map name_of (drop i xs)) ≡ names_differ (map name_of xs) → names_differ (map name_of xs) ≡ (not b && names_differ (map name_of (drop (i + 1) xs)))
  names_turn xs i x name b l e same_name any so_far =
      let rest : take (length xs - (i + 1)) (drop (i + 1) xs) ≡ drop (i + 1) xs =
      take_all (length xs - (i + 1)) (drop (i + 1) xs) (omega (arith, length-drop (i + 1) xs)) in
      let any_here : b ≡ list_any (λ y. bytes_eq (name_of x) (name_of y)) (drop (i + 1) xs) =
      any ∙ ap (list_any (λ y. bytes_eq name (name_of y))) rest ∙ ap (λ t. list_any (λ y. bytes_eq t (name_of y)) (drop (i + 1) xs)) same_name in
      sym so_far ∙ names_step xs i x l e ∙ ap (λ t. not t && names_differ (map name_of (drop (i + 1) xs))) (sym any_here)

-- ---- arguments
and_false : (b : Bool) → (b && false) ≡ false
and_false true = refl
and_false false = refl

-- more arguments than a row has parameters do not fit it
pub too_many : (code : Code) (vars : List Declared) (all : List CArg) (ps : List Parameter) (args : List CArg) → length ps < length args → args_fit code vars all ps args ≡ false
too_many code vars all [] [] l = absurd (omega (arith, l))
too_many code vars all [] (a ∷ rest) l = refl
too_many code vars all (p ∷ ps) [] l = absurd (omega (arith, l))
too_many code vars all (p ∷ ps) (a ∷ rest) l =
    ap (λ b. arg_fits code vars all p a && b) (too_many code vars all ps rest (omega (arith, l))) ∙ and_false (arg_fits code vars all p a)

-- ---- the parts of a tuple
abbrev is_object_of : List Declared → CArg → Bool
is_object_of vars a = passes vars (Object ∷ []) (a ∷ [])

and_true_is : (b : Bool) → b ≡ (b && true)
and_true_is true = refl
and_true_is false = refl

object_fits : (code : Code) (vars : List Declared) (all : List CArg) (a : CArg) → arg_fits code vars all (MaySteal (Is Object) Anything) a ≡ is_object_of vars a
object_fits code vars all (arg.Var x) = and_true_is (has_kind Object (kind_at vars x))
object_fits code vars all (arg.Number n) = refl
object_fits code vars all (arg.Text t) = refl
object_fits code vars all (arg.Global n) = refl
object_fits code vars all (arg.Class n) = refl

may_end_all : (n : ℕ) → may_end (replicate n (MaySteal (Is Object) Anything)) ≡ true
may_end_all zero = refl
may_end_all (suc n) = may_end_all n

objects_fit : (code : Code) (vars : List Declared) (all : List CArg) (n : ℕ) (args : List CArg) → length args ≤ n → args_fit code vars all (replicate n (MaySteal (Is Object) Anything)) args ≡ list_all (is_object_of vars) args
objects_fit code vars all zero [] l = refl
objects_fit code vars all zero (a ∷ rest) l = absurd (omega (arith, l))
objects_fit code vars all (suc n) [] l = may_end_all n
objects_fit code vars all (suc n) (a ∷ rest) l =
    ap (λ b. b && args_fit code vars all (replicate n (MaySteal (Is Object) Anything)) rest) (object_fits code vars all a) ∙ ap (λ b. is_object_of vars a && b) (objects_fit code vars all n rest (omega (arith, l)))

pub pack_fits : (code : Code) (vars : List Declared) (all args : List CArg) → false ≡ (length args == 0) → length args ≤ 16 → args_fit code vars all (row_of (prim.Tuple tuple.Pack)).parameters args ≡ list_all (is_object_of vars) args
pack_fits code vars all [] few many = absurd (cc)
pack_fits code vars all (a ∷ rest) few many =
    ap (λ b. b && args_fit code vars all (replicate 15 (MaySteal (Is Object) Anything)) rest) (object_fits code vars all a) ∙ ap (λ b. is_object_of vars a && b) (objects_fit code vars all 15 rest (omega (arith, many)))

pub no_pack : (code : Code) (vars : List Declared) (all args : List CArg) → true ≡ (length args == 0) → args_fit code vars all (row_of (prim.Tuple tuple.Pack)).parameters args ≡ false
no_pack code vars all [] e = refl
no_pack code vars all (a ∷ rest) e = absurd (omega (arith, eqb-true (length (a ∷ rest)) 0 (sym e)))
