-- An operation on one or two parts does with their values what it is to do, whichever it is.
use Rattle.ir_builder_expressions.proofs.Common.{◌≡◌, refl, sym, ap, ◌∙◌, subst, ℕ, false, [], ◌∷◌, Option, None, ℤ, Value, StrVal, TExpr, Sort, typed_expr, type_of, give, needs, joined, letter, length_of, has_text, text_of, type_at, Building, rtype_of, Shows, Attempts, ActsOnAll, ActsOn, ActsOnTwo, of_one, of_two, inverts, as_one, as_two, operands_of, result_of, is_known, HaveTypes, Declared, type_of_reg, Reg, Some, true, goes, Unary, Binary, native_in, sort_by, part_sort, one_sort, two_sort, is_i64, literal_in, unary_goes, binary_goes, UnarySuits, BinarySuits, Does, ends_of, ends_needed, boxed}
use Rattle.py_typed.specs.Sorts as sort
use Rattle.py_typed.specs.Sorts.{sort as sort_of}
use Rattle.ir_core.specs.declared.code.RType.TheVariants as rtype
use Rattle.source_meaning.specs.Operations.{append_item}
use Rattle.ir_builder_operations.specs.Rows.{is_absent, list_length, tuple_length}
use Rattle.ir_builder_expressions.specs.Applying.{counting_of, is_counted, is_present, size_by}
use Rattle.ir_builder_expressions.specs.Truths.{tested_as}
use Rattle.ir_builder_expressions.specs.declared.applying.Unary.TheVariants as unary
use Rattle.ir_builder_expressions.specs.declared.applying.Binary.TheVariants as binary
use Rattle.ir_builder_expressions.proofs.TakenLemmas.{object_acts, object_acts_first}

-- ---- the type of a part

none_native : (t : Sort) (o : Option ℤ) → is_i64 t ≡ false → native_in t o ≡ None
none_native sort.I64 o e = absurd (cc)
none_native t o e = refl

-- where no native integers are asked for it is the part's own
pub own_sort : (t u : Sort) (e : TExpr) → t ≡ u → is_i64 u ≡ false → part_sort t (typed_expr e) ≡ sort_of e.ty
own_sort t u e is other =
    let o = literal_in (typed_expr e) in
    ap (λ z. sort_by z (type_of (typed_expr e))) (ap (λ z. native_in z o) is ∙ none_native u o other) ∙ type_at e

-- and so it is where the type of a part is asked for that is not one of native integers
own_sort_of : (u : Sort) (left e : TExpr) → sort_of left.ty ≡ u → is_i64 u ≡ false → part_sort (type_of (typed_expr left)) (typed_expr e) ≡ sort_of e.ty
own_sort_of u left e is other = own_sort (type_of (typed_expr left)) u e (type_at left ∙ is) other

-- ---- one part

-- what has a size is an object
counted_operand : (u : Sort) → is_counted u ≡ true → (regs : Declared) (x : Reg) → type_of_reg regs x ≡ Some (rtype_of u) → (is_known (counting_of u) ≡ true) × HaveTypes regs (operands_of (counting_of u)) (x ∷ [])
counted_operand sort.Str h regs x is = (refl, (is, tt))
counted_operand (sort.ListOf u) h regs x is = (refl, (is, tt))
counted_operand (sort.TupleOf us) h regs x is = (refl, (is, tt))
counted_operand u h regs x is = absurd (cc)

pub counted_ready : (t : Sort) (e : TExpr) → UnarySuits unary.Counted t (sort_of e.ty) → (regs : Declared) (x : Reg) → type_of_reg regs x ≡ Some (rtype_of (one_sort unary.Counted t (typed_expr e))) → (is_known (counting_of (sort_of e.ty)) ≡ true) × HaveTypes regs (operands_of (counting_of (sort_of e.ty))) (x ∷ [])
counted_ready t e h regs x is = counted_operand (sort_of e.ty) h.1 regs x (subst (λ z. type_of_reg regs x ≡ Some (rtype_of z)) (own_sort t sort.Int e h.0 refl) is)

-- where a value has no text the source is stuck
written_attempts : (u : Sort) (b c : Building) (r x : ℕ) → Attempts (Shows sort.Str) b c r rtype.Ref (ActsOn u x (λ v. give (StrVal (text_of v)))) → Attempts (Shows sort.Str) b c r rtype.Ref (ActsOn u x (λ v. needs (has_text v) (give (StrVal (text_of v)))))
written_attempts u b c r x a = record {
  extends = a.extends;
  type = a.type;
  runs = λ p fn h placed z room regs below s match res on.
      let go : Does Value = give (StrVal (text_of on.v)) in
      ends_of p s.turns _ res (needs (has_text on.v) go s) _ _ on.does
      (ends_needed p s.turns _ (has_text on.v) go s _ _ (λ e. a.runs p fn h placed z room regs below s match (go s) record { v = on.v; shows = on.shows; does = refl }));
}

module _ (t : Sort) (e : TExpr) (b c : Building) (r x : ℕ) where
  abbrev Applies : Unary → Type 0
  Applies op = Attempts (Shows t) b c r (rtype_of t) (ActsOn (one_sort op t (typed_expr e)) x (unary_goes op t (type_of (typed_expr e))))

  applies : (op : Unary) (t' u : Sort) → t ≡ t' → one_sort op t (typed_expr e) ≡ u → Attempts (Shows t') b c r (rtype_of t') (ActsOn u x (unary_goes op t' (type_of (typed_expr e)))) → Applies op
  applies op t' u is part a =
      let w = type_of (typed_expr e) in
      let P : Sort → Type 0 = λ z. Attempts (Shows z) b c r (rtype_of z) (ActsOn (one_sort op t (typed_expr e)) x (unary_goes op z w)) in
      let Q : Sort → Type 0 = λ z. Attempts (Shows t') b c r (rtype_of t') (ActsOn z x (unary_goes op t' w)) in
      subst P (sym is) (subst Q (sym part) a)

  pub applies_inverted : UnarySuits unary.Inverted t (sort_of e.ty) → Attempts (Shows sort.Bool) b c r rtype.Bool (ActsOnAll (sort.Bool ∷ []) (record { 0 = x } ∷ []) (of_one inverts)) → Applies unary.Inverted
  applies_inverted h a = applies unary.Inverted sort.Bool sort.Bool h.0 (own_sort t sort.Bool e h.0 refl ∙ h.1) (as_one sort.Bool sort.Bool inverts b c r (record { 0 = x }) a)

  pub applies_tested : UnarySuits unary.Tested t (sort_of e.ty) → Attempts (Shows sort.Bool) b c r rtype.Bool (ActsOn (sort_of e.ty) x (tested_as (sort_of e.ty))) → Applies unary.Tested
  applies_tested h a =
      let P : Sort → Type 0 = λ z. Attempts (Shows sort.Bool) b c r rtype.Bool (ActsOn (sort_of e.ty) x (tested_as z)) in
      applies unary.Tested sort.Bool (sort_of e.ty) h.0 (own_sort t sort.Bool e h.0 refl) (subst P (sym (type_at e)) a)

  -- how many a text, a list or a tuple has
  counted_by : (u : Sort) → is_counted u ≡ true → Attempts (Shows (result_of (counting_of u))) b c r (rtype_of (result_of (counting_of u))) (ActsOnAll (operands_of (counting_of u)) (record { 0 = x } ∷ []) (goes (counting_of u))) → Attempts (Shows sort.Int) b c r rtype.Int (ActsOn u x (size_by u))
  counted_by sort.Str h a = as_one sort.Str sort.Int length_of b c r (record { 0 = x }) a
  counted_by (sort.ListOf u) h a = object_acts (sort.ListOf u) (Shows sort.Int) b c r rtype.Int x list_length (as_one boxed sort.Int list_length b c r (record { 0 = x }) a)
  counted_by (sort.TupleOf us) h a = object_acts (sort.TupleOf us) (Shows sort.Int) b c r rtype.Int x tuple_length (as_one boxed sort.Int tuple_length b c r (record { 0 = x }) a)
  counted_by u h a = absurd (cc)

  pub applies_counted : UnarySuits unary.Counted t (sort_of e.ty) → Attempts (Shows (result_of (counting_of (sort_of e.ty)))) b c r (rtype_of (result_of (counting_of (sort_of e.ty)))) (ActsOnAll (operands_of (counting_of (sort_of e.ty))) (record { 0 = x } ∷ []) (goes (counting_of (sort_of e.ty)))) → Applies unary.Counted
  applies_counted h a =
      let P : Sort → Type 0 = λ z. Attempts (Shows sort.Int) b c r rtype.Int (ActsOn (sort_of e.ty) x (size_by z)) in
      applies unary.Counted sort.Int (sort_of e.ty) h.0 (own_sort t sort.Int e h.0 refl) (subst P (sym (type_at e)) (counted_by (sort_of e.ty) h.1 a))

  pub applies_written : UnarySuits unary.Written t (sort_of e.ty) → Attempts (Shows sort.Str) b c r rtype.Ref (ActsOn (sort_of e.ty) x (λ v. give (StrVal (text_of v)))) → Applies unary.Written
  applies_written h a = applies unary.Written sort.Str (sort_of e.ty) h.0 (own_sort t sort.Str e h.0 refl) (written_attempts (sort_of e.ty) b c r x a)

  -- what is done with any object is done with the part's value, whatever more is known of it
  pub applies_object : (op : Unary) → Attempts (Shows t) b c r (rtype_of t) (ActsOn boxed x (unary_goes op t (type_of (typed_expr e)))) → Applies op
  applies_object op a = object_acts (one_sort op t (typed_expr e)) (Shows t) b c r (rtype_of t) x (unary_goes op t (type_of (typed_expr e))) a

  -- of a part of any type it is asked whether it is None
  pub applies_absent : UnarySuits unary.Absent t (sort_of e.ty) → Attempts (Shows sort.Bool) b c r rtype.Bool (ActsOn (sort_of e.ty) x is_absent) → Applies unary.Absent
  applies_absent h a = applies unary.Absent sort.Bool (sort_of e.ty) h (own_sort t sort.Bool e h refl) a

  pub applies_present : UnarySuits unary.Present t (sort_of e.ty) → Attempts (Shows sort.Bool) b c r rtype.Bool (ActsOn (sort_of e.ty) x is_present) → Applies unary.Present
  applies_present h a = applies unary.Present sort.Bool (sort_of e.ty) h (own_sort t sort.Bool e h refl) a

-- ---- two parts

module _ (t : Sort) (left right : TExpr) (b c : Building) (r x y : ℕ) where
  abbrev AppliesTwo : Binary → Type 0
  AppliesTwo op = Attempts (Shows t) b c r (rtype_of t) (ActsOnTwo (two_sort op t (typed_expr left) (typed_expr left)) (two_sort op t (typed_expr left) (typed_expr right)) x y (binary_goes op t))

  applies_two : (op : Binary) (t' u w : Sort) → t ≡ t' → two_sort op t (typed_expr left) (typed_expr left) ≡ u → two_sort op t (typed_expr left) (typed_expr right) ≡ w → Attempts (Shows t') b c r (rtype_of t') (ActsOnTwo u w x y (binary_goes op t')) → AppliesTwo op
  applies_two op t' u w is is_u is_w a =
      let P : Sort → Type 0 = λ z. Attempts (Shows z) b c r (rtype_of z) (ActsOnTwo (two_sort op t (typed_expr left) (typed_expr left)) (two_sort op t (typed_expr left) (typed_expr right)) x y (binary_goes op z)) in
      let Q : Sort → Type 0 = λ z. Attempts (Shows t') b c r (rtype_of t') (ActsOnTwo z (two_sort op t (typed_expr left) (typed_expr right)) x y (binary_goes op t')) in
      let R : Sort → Type 0 = λ z. Attempts (Shows t') b c r (rtype_of t') (ActsOnTwo u z x y (binary_goes op t')) in
      subst P (sym is) (subst Q (sym is_u) (subst R (sym is_w) a))

  pub applies_joined : BinarySuits binary.Joined t (sort_of left.ty) (sort_of right.ty) → Attempts (Shows sort.Str) b c r rtype.Ref (ActsOnAll (sort.Str ∷ sort.Str ∷ []) (record { 0 = x } ∷ record { 0 = y } ∷ []) (of_two joined)) → AppliesTwo binary.Joined
  applies_joined h a =
      applies_two binary.Joined sort.Str sort.Str sort.Str h.0 (own_sort t sort.Str left h.0 refl ∙ h.1) (own_sort t sort.Str right h.0 refl ∙ h.2) (as_two sort.Str sort.Str sort.Str joined b c r (record { 0 = x }) (record { 0 = y }) a)

  pub applies_indexed : BinarySuits binary.Indexed t (sort_of left.ty) (sort_of right.ty) → Attempts (Shows sort.Str) b c r rtype.Ref (ActsOnAll (sort.Str ∷ sort.Int ∷ []) (record { 0 = x } ∷ record { 0 = y } ∷ []) (of_two letter)) → AppliesTwo binary.Indexed
  applies_indexed h a =
      applies_two binary.Indexed sort.Str sort.Str sort.Int h.0 (own_sort t sort.Str left h.0 refl ∙ h.1) (own_sort t sort.Str right h.0 refl ∙ h.2) (as_two sort.Str sort.Int sort.Str letter b c r (record { 0 = x }) (record { 0 = y }) a)

  pub applies_item : BinarySuits binary.Item t (sort_of left.ty) (sort_of right.ty) → Attempts (Shows t) b c r (rtype_of t) (ActsOnTwo boxed sort.Int x y (binary_goes binary.Item t)) → AppliesTwo binary.Item
  applies_item h a =
      let u = two_sort binary.Item t (typed_expr left) (typed_expr left) in
      applies_two binary.Item t u sort.Int refl refl (own_sort_of (sort.ListOf t) left right h.0 refl ∙ h.1) (object_acts_first u sort.Int (Shows t) b c r (rtype_of t) x y (binary_goes binary.Item t) a)

  pub applies_appended : BinarySuits binary.Appended t (sort_of left.ty) (sort_of right.ty) → Attempts (Shows sort.Nothing) b c r rtype.Ref (ActsOnTwo boxed (sort_of right.ty) x y append_item) → AppliesTwo binary.Appended
  applies_appended h a =
      let u = two_sort binary.Appended t (typed_expr left) (typed_expr left) in
      applies_two binary.Appended sort.Nothing u (sort_of right.ty) h.0 refl (own_sort t sort.Nothing right h.0 refl) (object_acts_first u (sort_of right.ty) (Shows sort.Nothing) b c r rtype.Ref x y append_item a)
