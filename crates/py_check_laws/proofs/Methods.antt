-- Functions and methods have the parameters and results that their signatures say.
use Rattle.std.proofs.Common.{◌≡◌, ℕ, Bool, true, false, List, [], ◌∷◌, drop, take, length, Option, Some, None, refl, ap, ◌∙◌, if◌then◌else◌, unwrap_or}
use Rattle.std.proofs.lemmas.Option.{same_Some}
use Rattle.std.specs.Prelude.{is_some, codes}
use Rattle.std.specs.Option.{option_map, option_zip}
use Rattle.std.specs.Str.{bytes_eq}
use Rattle.py_syntax.specs.Expressions.{ExprTree}
use Rattle.py_typed.specs.Sorts as sort
use Rattle.py_typed.specs.Sorts.{Sort}
use Rattle.py_typed.specs.Classes.{Signature}
use Rattle.py_typed.specs.Fits.{is_nothing}
use Rattle.py_typed.specs.Statements.{TypedFunc}
use Rattle.py_typed.specs.WellTypedExpr.{init_class}
use Rattle.py_typed.specs.WellTypedModule.{types_in, parameter_types, has_self, init_gives_nothing}
use Rattle.py_typed.proofs.FitLemmas.{type_is_itself}
use Rattle.py_check_signatures.specs.declared.headers.Owner.{Owner}
use Rattle.py_check_signatures.specs.declared.headers.Owner.TheVariants as owner
use Rattle.py_check_signatures.specs.Headers.{HeaderSorts, types_at, asked, none_returned, all_of, signature_of}
use Rattle.py_check_signatures.specs.Definitions.{lacks_own}
use Rattle.py_check.specs.Module.{class_of}

-- the module's, or that of a class with a type
abbrev pub is_placed : Owner → Bool
is_placed owner.Module = true
is_placed (owner.Class None) = false
is_placed (owner.Class (Some c)) = true
is_placed owner.UntypedTrait = false

-- of the types of parameters those of the signature
abbrev pub behind_own : Option ℕ → List Sort → List Sort
behind_own None ts = ts
behind_own (Some c) ts = drop 1 ts

-- the types of all parameters, where the signature takes these
pub record Row (whose : Owner) (os : List (Option Sort)) (us : List Sort) : Type 0 where
  pub types : List Sort
  pub all : all_of os ≡ Some types
  pub self : has_self (class_of whose) types ≡ true
  pub rest : behind_own (class_of whose) types ≡ us

-- the first parameter of a method has its class as its type
pub types_many : (whose : Owner) (types : List (Option Sort)) → length (types_at whose types) ≡ length types
types_many owner.Module types = refl
types_many (owner.Class c) [] = refl
types_many (owner.Class c) (t ∷ types) = refl
types_many owner.UntypedTrait [] = refl
types_many owner.UntypedTrait (t ∷ types) = refl

pub types_row : (whose : Owner) (params : List (List ℕ × Option ExprTree)) (os : List (Option Sort)) (us : List Sort) → is_placed whose ≡ true → lacks_own whose params ≡ false → length os ≡ length params → all_of (asked whose (types_at whose os)) ≡ Some us → Row whose (types_at whose os) us
types_row owner.Module params os us p l n q = record { types = us; all = q; self = refl; rest = refl }
types_row (owner.Class None) params os us p l n q = absurd (cc)
types_row owner.UntypedTrait params os us p l n q = absurd (cc)
types_row (owner.Class (Some c)) [] os us p l n q = absurd (cc)
types_row (owner.Class (Some c)) (x ∷ params) [] us p l n q = absurd (cc)
types_row (owner.Class (Some c)) (x ∷ params) (o ∷ os) us p l n q = record {
  types = sort.Instance c ∷ us;
  all = ap (λ (a : Option (List Sort)). option_map (λ (z : Sort × List Sort). z.0 ∷ z.1) (option_zip (Some (sort.Instance c)) a)) q;
  self = type_is_itself (sort.Instance c);
  rest = refl;
}

-- a signature has these
pub record Given (h : HeaderSorts) (s : Signature) : Type 0 where
  pub params : all_of (asked h.owner h.params) ≡ Some s.params
  pub ret : h.ret ≡ Some s.ret

pub signature_gives : (h : HeaderSorts) (s : Signature) → signature_of h ≡ Some s → Given h s
signature_gives h s q = by h.typed (all_of (asked h.owner h.params)) h.ret refl refl q
  where
    by : (b : Bool) (a : Option (List Sort)) (r : Option Sort) → all_of (asked h.owner h.params) ≡ a → h.ret ≡ r → (if b then option_map (λ (p : List Sort × Sort). record { params = p.0; ret = p.1 }) (option_zip a r) else None) ≡ Some s → Given h s
    by false a r x y g = absurd (cc)
    by true None r x y g = absurd (cc)
    by true (Some ts) None x y g = absurd (cc)
    by true (Some ts) (Some t) x y g =
        let e = same_Some (record { params = ts; ret = t }) s g in
        record { params = x ∙ ap (λ (z : Signature). Some z.params) e; ret = y ∙ ap (λ (z : Signature). Some z.ret) e }

-- ---- typed functions

pub parameters_are : (F : TypedFunc) (o : Option ℕ) → F.class ≡ o → parameter_types F ≡ behind_own o (types_in (take F.params F.locals))
parameters_are F None q = rw (q, parameter_types F) refl
parameters_are F (Some c) q = rw (q, parameter_types F) refl

by_class : (F : TypedFunc) (o : Option ℕ) → init_class F ≡ o → (is_some o ≡ true → is_nothing F.ret ≡ true) → init_gives_nothing F ≡ true
by_class F None h g = rw (h, init_gives_nothing F) refl
by_class F (Some c) h g = rw (h, init_gives_nothing F) (g refl)

-- where what is called `__init__` gives None in a class
pub init_good : (F : TypedFunc) → (bytes_eq F.name (codes "__init__") ≡ true → is_some F.class ≡ true → is_nothing F.ret ≡ true) → init_gives_nothing F ≡ true
init_good F h = by_class F (init_class F) refl (λ g. by (bytes_eq F.name (codes "__init__")) refl g)
  where
    by : (b : Bool) → bytes_eq F.name (codes "__init__") ≡ b → is_some (if b then F.class else None) ≡ true → is_nothing F.ret ≡ true
    by true q g = h q g
    by false q g = absurd (cc)

pub init_returns : (mark : Option ExprTree) (t : Option Sort) → is_nothing (unwrap_or (none_returned mark t) sort.Nothing) ≡ true
init_returns None t = refl
init_returns (Some mark) None = refl
init_returns (Some mark) (Some sort.Nothing) = refl
init_returns (Some mark) (Some _) = refl
