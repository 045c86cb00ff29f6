-- An operand of a comparison: its type, and that of its register.
use Rattle.ir_builder_expressions.proofs.Common.{◌≡◌, refl, sym, ap, ◌∙◌, subst, true, List, Option, Some, None, ◌⊎◌, inl, inr, ℤ, Span, TExpr, Sort, TypedExpr, TypedNode, typed, type_of, typed_expr, TypedModule, Variable, type_at, Reg, Building, Setting, rtype_of, means, Shows, Computes, is_scalar, native_in, sort_by, part_sort, literal_in, kind_sort, is_shown_as, Suits, EmitsPart, EmitsSide}
use borrow.Author.Tests.{clash}
use Rattle.py_typed.specs.Sorts as sort
use Rattle.py_typed.specs.Sorts.{sort as sort_of}
use Rattle.py_typed.specs.Expressions.{Int}
use Rattle.ir_builder_expressions.specs.declared.comparing.Kind.{Kind}
use Rattle.ir_builder_expressions.proofs.PieceLemmas.{native_is}

own_shown : (t : Sort) → is_scalar t ≡ true → is_shown_as t t ≡ true
own_shown sort.Int e = refl
own_shown sort.I64 e = refl
own_shown sort.Bool e = refl
own_shown sort.Str e = refl
own_shown t e = absurd (clash e)

module _ (m : TypedModule) (vs : List Variable) where
  -- a literal is an `int`
  literal_type : (k : TypedNode) (t : Sort) (place : Span) (n : ℤ) → literal_in (typed k t place) ≡ Some n → Suits m vs (typed k t place) → t ≡ sort.Int
  literal_type (Int i) t place n is h = h.0
  literal_type _ t place n is h = absurd (cc)

  shown_by : (e : TypedExpr) (o : Option ℤ) → (literal_in e ≡ o) ⊎ (o ≡ None) → is_scalar (type_of e) ≡ true → Suits m vs e → is_shown_as (type_of e) (sort_by o (type_of e)) ≡ true
  shown_by e None is simple h = own_shown (type_of e) simple
  shown_by (typed k t place) (Some n) (inl is) simple h = ap (λ z. is_shown_as z sort.I64) (literal_type k t place n is h)
  shown_by e (Some n) (inr is) simple h = absurd (cc)

  native_or : (t : Sort) (o : Option ℤ) (z : Option ℤ) → native_in t o ≡ z → (o ≡ z) ⊎ (z ≡ None)
  native_or t o None is = inr refl
  native_or t o (Some n) is = inl ((native_is t o n is).0)

  pub part_shown : (t : Sort) (e : TypedExpr) → is_scalar (type_of e) ≡ true → Suits m vs e → is_shown_as (type_of e) (part_sort t e) ≡ true
  part_shown t e simple h = shown_by e (native_in t (literal_in e)) (native_or t (literal_in e) (native_in t (literal_in e)) refl) simple h

pub side_emits : (x : Setting) (t : Sort) (e : TExpr) (own shown : Kind) (reg : Reg) (b c : Building) → (is_scalar (sort_of e.ty) ≡ true → kind_sort own ≡ sort_of e.ty) → kind_sort shown ≡ part_sort t (typed_expr e) → is_scalar (sort_of e.ty) ≡ true → Suits x.source x.variables (typed_expr e) → EmitsPart x t (typed_expr e) b c reg.0 → EmitsSide x (typed_expr e) record { reg = reg; own = own; shown = shown } b c
side_emits x t e own shown reg b c is_own is_shown simple suits q =
    let here : kind_sort own ≡ type_of (typed_expr e) = is_own simple ∙ sym (type_at e) in
    let P : Sort → Type 0 = λ u. Computes x (Shows u) (rtype_of u) (means x (typed_expr e)) b c reg.0 in
    let of_part = part_shown x.source x.variables t (typed_expr e) (subst (λ z. is_scalar z ≡ true) (sym (type_at e)) simple) suits in
    record {
      own = here;
      shown = ap (λ z. is_shown_as z (kind_sort shown)) here ∙ ap (λ z. is_shown_as (type_of (typed_expr e)) z) is_shown ∙ of_part;
      emits = subst P (sym is_shown) q;
    }
