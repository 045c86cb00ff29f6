-- What a loop goes over stands, and its items have a type that a variable may have.
use Rattle.std.proofs.Common.{◌≡◌, ℕ, suc, Bool, true, false, List, [], ◌∷◌, length, Option, Some, None, Ok, refl, ap, sym, ◌∙◌, subst, if◌then◌else◌, ◌⊎◌, inl, inr}
use Rattle.std.proofs.lemmas.Bool.{and_from}
use Rattle.std.proofs.lemmas.Option.{same_Some}
use Rattle.py_syntax.specs.declared.token.Span.{Span}
use Rattle.py_syntax.specs.Expressions as tree
use Rattle.py_syntax.specs.Expressions.{ExprTree, at, Arguments}
use Rattle.py_typed.specs.Sorts as sort
use Rattle.py_typed.specs.Sorts.{Sort}
use Rattle.py_typed.specs.Classes.{ClassEntry}
use Rattle.py_typed.specs.Fits.{is_number, number_join, is_same_type, fits}
use Rattle.py_typed.specs.Expressions.{TypedExpr, type_of}
use Rattle.py_typed.specs.Statements.{Variable, TypedModule}
use Rattle.py_typed.specs.WellTypedExpr.{stands, is_value_type, is_result_type, is_key_type}
use Rattle.py_typed.specs.WellTyped as stmt
use Rattle.py_typed.proofs.FitLemmas.{type_is_itself, and_left, and_right}
use Rattle.py_check_context.specs.Context.{Context, free, along}
use Rattle.py_check_flow.specs.Bindings.{name_in}
use Rattle.py_check_messages.specs.Seen.{behind}
use Rattle.py_check_coercions.specs.Values.{coerced}
use Rattle.py_check_calls.specs.Callees.{has_key}
use Rattle.py_check_calls.specs.Calls.{no_keys, positional}
use Rattle.py_check_expressions.specs.Typing.{arguments}
use Rattle.py_check_places.specs.Places.{Known}
use Rattle.py_check_targets.specs.Targets.{typed_at}
use Rattle.py_check_loops.specs.Loops.{Course, numbers, value, no_number, bounds, bounds_of_numbers, is_count_right, range_call, items_of, course_items, is_range_name, range_arguments, span_of, course_by, course}
use Rattle.py_check_expressions_laws.specs.WellTyped as law
use Rattle.py_check_expressions_laws.specs.WellTyped.{Describes, Within}
use Rattle.py_check_expressions_laws.proofs.Stands.{value_type, coerced_stands}
use Rattle.py_check_expressions_laws.proofs.Rows.{type_coerced, free_fits, AllStand, row_stands}
use Rattle.py_check_expressions_laws.proofs.Sound.{sound_arguments}
use Rattle.py_check_laws.proofs.Given.{ok_same, judged_given, if_then, made_given, rule_given}
use Rattle.py_check_laws.proofs.Values.{scene, stands_free}

-- ---- numbers

join_is : (s t : Sort) → (number_join s t ≡ sort.Int) ⊎ (number_join s t ≡ sort.I64)
join_is sort.I64 t = inr refl
join_is _ sort.I64 = inr refl
join_is _ _ = inl refl

number_fits : (classes : List ClassEntry) (s t : Sort) → is_number s ≡ true → (t ≡ sort.Int) ⊎ (t ≡ sort.I64) → fits classes s t ≡ true
number_fits classes s t h (inl e) = subst (λ x. fits classes s x ≡ true) (sym e) h
number_fits classes s t h (inr e) = subst (λ x. fits classes s x ≡ true) (sym e) h

whole_result : (n : ℕ) (t : Sort) → (t ≡ sort.Int) ⊎ (t ≡ sort.I64) → is_result_type n t ≡ true
whole_result n t (inl e) = subst (λ x. is_result_type n x ≡ true) (sym e) refl
whole_result n t (inr e) = subst (λ x. is_result_type n x ≡ true) (sym e) refl

whole_value : (n : ℕ) (t : Sort) → (t ≡ sort.Int) ⊎ (t ≡ sort.I64) → is_value_type n t ≡ true
whole_value n t (inl e) = subst (λ x. is_value_type n x ≡ true) (sym e) refl
whole_value n t (inr e) = subst (λ x. is_value_type n x ≡ true) (sym e) refl

first_number : (b : Bool) (p : ℕ × Sort) (more : Option (ℕ × Sort)) → (if b then more else Some p) ≡ None → (b ≡ true) × (more ≡ None)
first_number true p more h = (refl, h)
first_number false p more h = absurd (cc)

one_number : (i : ℕ) (e : TypedExpr) (es : List TypedExpr) → no_number i (e ∷ es) ≡ None → (is_number (type_of e) ≡ true) × (no_number (suc i) es ≡ None)
one_number i e es h = first_number (is_number (type_of e)) (i, type_of e) (no_number (suc i) es) h

-- ---- arguments

keyless : (span : Span) (keyed : Bool) (args : Option (List TypedExpr)) (es : List TypedExpr) → (positional span keyed args).got ≡ Some es → args ≡ Some es
keyless span keyed None es h = absurd (cc)
keyless span keyed (Some fs) es h = ap Some (by keyed (judged_given span (no_keys keyed fs) es h))
  where
    by : (b : Bool) → no_keys b fs ≡ Ok es → fs ≡ es
    by true q = absurd (cc)
    by false q = ok_same fs es q

key_value : (n : ℕ) (k : Sort) → is_key_type k ≡ true → is_value_type n k ≡ true
key_value n sort.Str h = refl
key_value n sort.Int h = refl
key_value n sort.I64 h = refl
key_value n sort.Bool h = refl
key_value n _ h = absurd (cc)

module _ (C : Context) where
  range_written : (e : ExprTree) (args : Arguments) → range_arguments C e ≡ Some args → law.is_written e ≡ true → law.are_arguments args ≡ true
  range_written (at (tree.Call f a) span) args h w = by (is_range_name C (name_in f)) h
    where
      by : (b : Bool) → (if b then Some a else None) ≡ Some args → law.are_arguments args ≡ true
      by true q = subst (λ z. law.are_arguments z ≡ true) (same_Some a args q) (and_right (law.is_written f) (law.are_arguments a) w)
      by false q = absurd (cc)
  range_written _ args h w = absurd (cc)

module _ (C : Context) (m : TypedModule) (locals : List Variable) (init : Option ℕ) (result : Option Sort) where
  abbrev here : Context
  here = scene C m locals init

  -- the bounds of a range are of one type, and what is gone over stands
  pub record BoundsStand (others : List ℕ) (a : Option TypedExpr) (b : TypedExpr) : Type 0 where
    pub bound : stands m locals init false others b ≡ true
    pub whole : (type_of b ≡ sort.Int) ⊎ (type_of b ≡ sort.I64)
    pub start : stmt.maybe_of_type m locals init result others (type_of b) a ≡ true

  abbrev pub CourseStands : List ℕ → Course → Type 0
  CourseStands others (numbers a b) = BoundsStand others a b
  CourseStands others (value e) = stands m locals init false others e ≡ true

  coerced_number : (others : List ℕ) (e : TypedExpr) (t : Sort) → stands m locals init false others e ≡ true → is_number (type_of e) ≡ true → (t ≡ sort.Int) ⊎ (t ≡ sort.I64) → (stands m locals init false others (coerced t e) ≡ true) × (type_of (coerced t e) ≡ t)
  coerced_number others e t s h w = coerced_stands m locals init others t e s (number_fits m.classes.classes (type_of e) t h w) (whole_result (length m.classes.classes) t w)

  whole_coerced : (t : Sort) (e : TypedExpr) → (t ≡ sort.Int) ⊎ (t ≡ sort.I64) → (type_of (coerced t e) ≡ sort.Int) ⊎ (type_of (coerced t e) ≡ sort.I64)
  whole_coerced t e (inl h) = inl (type_coerced t e ∙ h)
  whole_coerced t e (inr h) = inr (type_coerced t e ∙ h)

  one_bound : (others : List ℕ) (b : TypedExpr) → stands m locals init false others b ≡ true → is_number (type_of b) ≡ true → BoundsStand others None (coerced (number_join (type_of b) sort.Int) b)
  one_bound others b s h =
      let w = join_is (type_of b) sort.Int in
      record { bound = (coerced_number others b (number_join (type_of b) sort.Int) s h w).0; whole = whole_coerced (number_join (type_of b) sort.Int) b w; start = refl }

  two_bounds : (others : List ℕ) (a b : TypedExpr) → stands m locals init false others a ≡ true → stands m locals init false others b ≡ true → is_number (type_of a) ≡ true → is_number (type_of b) ≡ true
      → BoundsStand others (Some (coerced (number_join (type_of a) (type_of b)) a)) (coerced (number_join (type_of a) (type_of b)) b)
  two_bounds others a b sa sb ha hb =
      let t = number_join (type_of a) (type_of b) in
      let w = join_is (type_of a) (type_of b) in
      record {
        bound = (coerced_number others b t sb hb w).0;
        whole = whole_coerced t b w;
        start = and_from (stands m locals init false others (coerced t a)) (is_same_type (type_of (coerced t a)) (type_of (coerced t b))) (coerced_number others a t sa ha w).0
            (ap (λ x. is_same_type x (type_of (coerced t b))) (type_coerced t a) ∙ ap (λ x. is_same_type t x) (type_coerced t b) ∙ type_is_itself t);
      }

  range_stands : (others : List ℕ) (es : List TypedExpr) (w : Course) → AllStand m locals init others es → bounds_of_numbers m.classes.classes es (no_number 1 es) ≡ Ok w → CourseStands others w
  range_stands others es w h g = by (no_number 1 es) refl g
    where
      counted : (es : List TypedExpr) → AllStand m locals init others es → no_number 1 es ≡ None → bounds es ≡ Ok w → CourseStands others w
      counted [] a q k = absurd (cc)
      counted (b ∷ []) a q k = let p = one_number 1 b [] q in subst (CourseStands others) (ok_same (numbers None (coerced (number_join (type_of b) sort.Int) b)) w k) (one_bound others b a.first p.0)
      counted (a ∷ b ∷ []) s q k =
          let p = one_number 1 a (b ∷ []) q in
          let r = one_number 2 b [] p.1 in
          subst (CourseStands others) (ok_same (numbers (Some (coerced (number_join (type_of a) (type_of b)) a)) (coerced (number_join (type_of a) (type_of b)) b)) w k) (two_bounds others a b s.first s.rest.first p.0 r.0)
      counted (a ∷ b ∷ c ∷ es) s q k = absurd (cc)

      by : (o : Option (ℕ × Sort)) → no_number 1 es ≡ o → bounds_of_numbers m.classes.classes es o ≡ Ok w → CourseStands others w
      by None q k = counted es h q k
      by (Some p) q k = absurd (cc)

  -- WHAT IS GONE OVER stands
  by_arguments : (k : Known) → Describes here k.types m locals init → (e : ExprTree) → law.is_written e ≡ true → (o : Option Arguments) → range_arguments here e ≡ o → (w : Course) → (course_by here k o e).got ≡ Some w → (others : List ℕ) → Within k.names others → CourseStands others w
  by_arguments k D e written None q w g others wi =
      let r = made_given value (typed_at here k free e) w g in subst (CourseStands others) r.2 (stands_free C m locals init k D e written r.0 r.1 others wi)
  by_arguments k D e written (Some args) q w g others wi =
      let row = arguments here k.types (along []) 0 k.names args in
      let r = rule_given (span_of e) (range_call m.classes.classes) (behind row (positional (span_of e) (has_key args))) w g in
      let es = keyless (span_of e) (has_key args) row.got r.0 r.1 in
      let sound = (sound_arguments C k.types m locals init D (along []) 0 k.names args (range_written here e args q written) (λ i. refl)).each r.0 es in
      let all = row_stands m locals init (along []) 0 k.names others r.0 sound wi (free_fits m.classes.classes 0 r.0) in
      let c = if_then (is_count_right r.0) (bounds_of_numbers m.classes.classes r.0 (no_number 1 r.0)) _ w r.2 in
      range_stands others r.0 w all c.1

  pub course_stands : (k : Known) → Describes here k.types m locals init → (e : ExprTree) → law.is_written e ≡ true → (w : Course) → (course here k e).got ≡ Some w → (others : List ℕ) → Within k.names others → CourseStands others w
  course_stands k D e written w g others wi = by_arguments k D e written (range_arguments here e) refl w g others wi

  -- its items have a type that a variable may have
  of_value : (others : List ℕ) (s item : Sort) → is_result_type (length m.classes.classes) s ≡ true → items_of s ≡ Some item → is_value_type (length m.classes.classes) item ≡ true
  of_value others (sort.ListOf t) item r h = subst (λ x. is_value_type (length m.classes.classes) x ≡ true) (same_Some t item h) r
  of_value others (sort.DictOf k t) item r h =
      subst (λ x. is_value_type (length m.classes.classes) x ≡ true) (same_Some k item h) (key_value (length m.classes.classes) k (and_left (is_key_type k) (is_value_type (length m.classes.classes) t) r))
  of_value others _ item r h = absurd (cc)

  pub item_type : (others : List ℕ) (w : Course) (item : Sort) → CourseStands others w → course_items w ≡ Some item → is_value_type (length m.classes.classes) item ≡ true
  item_type others (numbers a b) item h q = subst (λ x. is_value_type (length m.classes.classes) x ≡ true) (same_Some (type_of b) item q) (whole_value (length m.classes.classes) (type_of b) h.whole)
  item_type others (value e) item h q = of_value others (type_of e) item (value_type m locals init false others e h) q
