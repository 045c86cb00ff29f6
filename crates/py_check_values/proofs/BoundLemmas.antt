-- What a rule says of a value, once it is known what is wrong with the value's type.
use Rattle.std.proofs.Common.{◌≡◌, ◌∙◌, Bool, true, false, List, [], ◌∷◌, ◌++◌, map, Option, Some, None, refl, ap, sym, subst}
use Rattle.std.proofs.lemmas.List.{append-nil}
use Rattle.std.specs.declared.boxed.Box.{Box}
use Rattle.std.specs.declared.alloc.Global.{Global}
use Rattle.std.specs.Option.{option_map}
use Rattle.py_syntax.specs.declared.token.Span.{Span}
use Rattle.py_syntax_diagnostics.specs.declared.diagnostic.Diag.{Diag}
use Rattle.py_typed.specs.declared.expression.TExpr.{TExpr}
use Rattle.py_typed.specs.declared.types.Ty.{Ty, fold-roll-Ty}
use Rattle.py_typed.specs.declared.types.Ty as type
use Rattle.py_typed.specs.declared.types.Ty.TheVariants as variant
use Rattle.py_typed.specs.declared.types.Ty.TheOpen.{Ty-F}
use Rattle.py_typed.specs.Sorts.{Sort, TupleOf, sort, sort_step, sorts_of, listed_sorts}
use Rattle.py_typed.specs.Expressions.{TypedExpr, type_of}
use Rattle.py_check_messages.specs.Seen.{Seen, Message, Finds, judged, ruled}
use Rattle.py_check_coercions.specs.Boxes.{boxed}
use Rattle.py_check_coercions.specs.Several.{unless}
use Rattle.py_check_coercions.proofs.PartLemmas.{type_at}

-- a row of types made of a list is that list
pub listed_again : (ts : List Sort) → listed_sorts (sorts_of ts) ≡ ts
listed_again [] = refl
listed_again (t ∷ ts) = ap (λ l. t ∷ l) (listed_again ts)

-- the type of a tuple
pub sort-Tuple : (ts : List Ty) → sort (type.Tuple ts) ≡ TupleOf (sorts_of (map sort ts))
sort-Tuple ts = ap sort (sym (variant.rolls-Tuple ts)) ∙ fold-roll-Ty Sort sort_step (Ty-F.Tuple ts)

-- what was given and said is what a rule gives and says
abbrev Told : Option TypedExpr → List Diag → List Diag → Seen TypedExpr → Type 0
Told got old new s = (got ≡ s.got) × (new ≡ old ++ s.said)

fault_told : (span : Span) (fault : Option Message) (a : TypedExpr) (right : Bool) (old new : List Diag) → Finds right old new span fault → right ≡ false → Told None old new (judged span (unless fault a))
fault_told span None a right old new found wrong = let clash : true ≡ false = sym found.0 ∙ wrong in cc
fault_told span (Some m) a right old new found wrong = (refl, found.1)

nothing_told : (span : Span) (fault : Option Message) (a : TypedExpr) (right : Bool) (old new : List Diag) → Finds right old new span fault → right ≡ true → Told (Some a) old new (judged span (unless fault a))
nothing_told span None a right old new found holds = (refl, found.1 ∙ sym (append-nil old))
nothing_told span (Some m) a right old new found holds = let clash : false ≡ true = sym found.0 ∙ holds in cc

module _ (span : Span) (fault_of : Sort → Option Message) (make : TypedExpr → TypedExpr) where
  abbrev on_value : Option TypedExpr → Seen TypedExpr
  on_value o = ruled span (λ x. unless (fault_of (type_of x)) (make x)) o

  of_type : (e : Box TExpr Global) (right : Bool) (old new : List Diag) → Finds right old new span (fault_of (sort e.value.ty)) → Finds right old new span (fault_of (type_of (boxed e)))
  of_type e right old new found = let P : Sort → Type 0 = λ s. Finds right old new span (fault_of s) in subst P (sym (type_at e.value)) found

  -- what is wrong is said, and nothing is given
  pub refused : (o : Option (Box TExpr Global)) (e : Box TExpr Global) (right : Bool) (old new : List Diag) → o ≡ Some e → Finds right old new span (fault_of (sort e.value.ty)) → right ≡ false → Told None old new (on_value (option_map boxed o))
  refused o e right old new is found wrong =
      let P : Option (Box TExpr Global) → Type 0 = λ q. Told None old new (on_value (option_map boxed q)) in
      subst P (sym is) (fault_told span (fault_of (type_of (boxed e))) (make (boxed e)) right old new (of_type e right old new found) wrong)

  -- nothing is wrong, and the value is given
  pub given : (o : Option (Box TExpr Global)) (e : Box TExpr Global) (right : Bool) (old new : List Diag) (made : TypedExpr) → o ≡ Some e → Finds right old new span (fault_of (sort e.value.ty)) → right ≡ true → made ≡ make (boxed e) → Told (Some made) old new (on_value (option_map boxed o))
  given o e right old new made is found holds same =
      let P : Option (Box TExpr Global) → Type 0 = λ q. Told (Some made) old new (on_value (option_map boxed q)) in
      let Q : TypedExpr → Type 0 = λ x. Told (Some x) old new (on_value (Some (boxed e))) in
      subst P (sym is) (subst Q (sym same) (nothing_told span (fault_of (type_of (boxed e))) (make (boxed e)) right old new (of_type e right old new found) holds))
