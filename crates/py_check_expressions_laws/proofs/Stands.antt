-- What stands well typed: values as values of another type, as truth values, and alone.
use Rattle.std.proofs.Common.{◌≡◌, ℕ, Bool, true, false, not, ◌&&◌, List, ◌++◌, length, Option, refl, ap, sym, ◌∙◌, subst, if◌then◌else◌}
use Rattle.std.proofs.lemmas.Bool.{and_from}
use Rattle.py_syntax.specs.declared.token.Span.{Span}
use Rattle.py_typed.specs.Sorts as sort
use Rattle.py_typed.specs.Sorts.{Sort}
use Rattle.py_typed.specs.Fits.{is_same_type, fits}
use Rattle.py_typed.specs.Expressions as node
use Rattle.py_typed.specs.Expressions.{TypedExpr, TypedNode, typed, type_of}
use Rattle.py_typed.specs.Statements.{Variable, TypedModule}
use Rattle.py_typed.specs.Narrowing.{facts}
use Rattle.py_typed.specs.WellTypedExpr.{stands, parts_typed, rule, suits, is_result_type, is_empty_call, is_typed}
use Rattle.py_typed.proofs.FitLemmas.{one_type, and_left, and_right}
use Rattle.py_check_coercions.specs.Values.{place_of, coerced, truth}
use Rattle.py_check_context.specs.Context.{Wanted, free, test, wants, dropped}
use Rattle.py_check_expressions_laws.specs.WellTyped.{is_good}

pub all_five : (a b c d e : Bool) → a ≡ true → b ≡ true → c ≡ true → d ≡ true → e ≡ true → (a && b && c && d && e) ≡ true
all_five a b c d e p q r s t = cc

pub of_five : (a b c d e : Bool) → (a && b && c && d && e) ≡ true → (a ≡ true) × (b ≡ true) × (c ≡ true) × (d ≡ true) × (e ≡ true)
of_five true true true true true h = (refl, refl, refl, refl, refl)
of_five _ _ _ _ _ h = absurd (cc)

module _ (m : TypedModule) (locals : List Variable) (init : Option ℕ) where
  -- a node with a type, by the parts of its rule
  pub stands_made : (testing : Bool) (known : List ℕ) (n : TypedNode) (t : Sort) (p : Span) → parts_typed m locals init testing known n ≡ true → rule m locals init known n t ≡ true → suits testing n t ≡ true → is_result_type (length m.classes.classes) t ≡ true → is_empty_call n t ≡ false → stands m locals init testing known (typed n t p) ≡ true
  stands_made testing known n t p a b c d e =
      all_five (parts_typed m locals init testing known n) (rule m locals init known n t) (suits testing n t) (is_result_type (length m.classes.classes) t) (not (is_empty_call n t)) a b c d (ap not e)

  pub parts_of_stands : (testing : Bool) (known : List ℕ) (n : TypedNode) (t : Sort) (p : Span) → stands m locals init testing known (typed n t p) ≡ true
      → (parts_typed m locals init testing known n ≡ true) × (rule m locals init known n t ≡ true) × (suits testing n t ≡ true) × (is_result_type (length m.classes.classes) t ≡ true) × (not (is_empty_call n t) ≡ true)
  parts_of_stands testing known n t p h = of_five (parts_typed m locals init testing known n) (rule m locals init known n t) (suits testing n t) (is_result_type (length m.classes.classes) t) (not (is_empty_call n t)) h

  pub value_type : (testing : Bool) (known : List ℕ) (e : TypedExpr) → stands m locals init testing known e ≡ true → is_result_type (length m.classes.classes) (type_of e) ≡ true
  value_type testing known (typed n t p) h = (parts_of_stands testing known n t p h).3

  -- a value stands where a value of a type is asked for that it fits
  pub coerced_stands : (known : List ℕ) (t : Sort) (e : TypedExpr) → stands m locals init false known e ≡ true → fits m.classes.classes (type_of e) t ≡ true → is_result_type (length m.classes.classes) t ≡ true → (stands m locals init false known (coerced t e) ≡ true) × (type_of (coerced t e) ≡ t)
  coerced_stands known t e h f r = by (is_same_type (type_of e) t) refl
    where
      by : (b : Bool) → is_same_type (type_of e) t ≡ b → (stands m locals init false known (coerced t e) ≡ true) × (type_of (coerced t e) ≡ t)
      by true q =
          subst (λ (b : Bool). (stands m locals init false known (if b then e else typed (node.Coerce e) t (place_of e)) ≡ true) × (type_of (if b then e else typed (node.Coerce e) t (place_of e)) ≡ t)) (sym q) (h, one_type (type_of e) t q)
      by false q =
          subst (λ (b : Bool). (stands m locals init false known (if b then e else typed (node.Coerce e) t (place_of e)) ≡ true) × (type_of (if b then e else typed (node.Coerce e) t (place_of e)) ≡ t)) (sym q)
          (stands_made false known (node.Coerce e) t (place_of e) h (and_from (fits m.classes.classes (type_of e) t) (not (is_same_type (type_of e) t)) f (ap not q)) refl r refl, refl)

  same_of : (s t : Sort) → is_same_type s t ≡ true → is_same_type t sort.Bool ≡ true → is_same_type s sort.Bool ≡ true
  same_of s t p q = ap (λ x. is_same_type x sort.Bool) (one_type s t p) ∙ q

  -- a value of the type bool is a test
  pub value_tests : (known : List ℕ) (e : TypedExpr) → stands m locals init false known e ≡ true → is_same_type (type_of e) sort.Bool ≡ true → stands m locals init true known e ≡ true
  value_tests known (typed (node.And a b) t p) h q =
      let r = parts_of_stands false known (node.And a b) t p h in
      let ra = and_left (is_same_type (type_of a) t) (is_same_type (type_of b) t) r.1 in
      let rb = and_right (is_same_type (type_of a) t) (is_same_type (type_of b) t) r.1 in
      let sa = and_left (stands m locals init false known a) (stands m locals init false (facts true a ++ known) b) r.0 in
      let sb = and_right (stands m locals init false known a) (stands m locals init false (facts true a ++ known) b) r.0 in
      stands_made true known (node.And a b) t p
      (and_from (stands m locals init true known a) (stands m locals init true (facts true a ++ known) b) (value_tests known a sa (same_of (type_of a) t ra q)) (value_tests (facts true a ++ known) b sb (same_of (type_of b) t rb q)))
      r.1 q r.3 refl
  value_tests known (typed (node.Or a b) t p) h q =
      let r = parts_of_stands false known (node.Or a b) t p h in
      let ra = and_left (is_same_type (type_of a) t) (is_same_type (type_of b) t) r.1 in
      let rb = and_right (is_same_type (type_of a) t) (is_same_type (type_of b) t) r.1 in
      let sa = and_left (stands m locals init false known a) (stands m locals init false (facts false a ++ known) b) r.0 in
      let sb = and_right (stands m locals init false known a) (stands m locals init false (facts false a ++ known) b) r.0 in
      stands_made true known (node.Or a b) t p
      (and_from (stands m locals init true known a) (stands m locals init true (facts false a ++ known) b) (value_tests known a sa (same_of (type_of a) t ra q)) (value_tests (facts false a ++ known) b sb (same_of (type_of b) t rb q)))
      r.1 q r.3 refl
  value_tests known (typed n t p) h q =
      let r = parts_of_stands false known n t p h in
      all_five (parts_typed m locals init true known n) (rule m locals init known n t) (suits true n t) (is_result_type (length m.classes.classes) t) (not (is_empty_call n t)) r.0 r.1 q r.3 r.4

  -- a value is a truth value once it is changed to one
  pub truth_stands : (known : List ℕ) (e : TypedExpr) → stands m locals init false known e ≡ true → stands m locals init true known (truth e) ≡ true
  truth_stands known e h = by (is_same_type (type_of e) sort.Bool) refl
    where
      by : (b : Bool) → is_same_type (type_of e) sort.Bool ≡ b → stands m locals init true known (truth e) ≡ true
      by true q = subst (λ (b : Bool). stands m locals init true known (if b then e else typed (node.Truth e) sort.Bool (place_of e)) ≡ true) (sym q) (value_tests known e h q)
      by false q =
          subst (λ (b : Bool). stands m locals init true known (if b then e else typed (node.Truth e) sort.Bool (place_of e)) ≡ true) (sym q)
          (stands_made true known (node.Truth e) sort.Bool (place_of e) h (and_from (not (is_same_type (type_of e) sort.Bool)) true (ap not q) refl) refl refl refl)

  pub truth_is_bool : (e : TypedExpr) → type_of (truth e) ≡ sort.Bool
  truth_is_bool e = by (is_same_type (type_of e) sort.Bool) refl
    where
      by : (b : Bool) → is_same_type (type_of e) sort.Bool ≡ b → type_of (truth e) ≡ sort.Bool
      by true q = ap (λ (b : Bool). type_of (if b then e else typed (node.Truth e) sort.Bool (place_of e))) q ∙ one_type (type_of e) sort.Bool q
      by false q = ap (λ (b : Bool). type_of (if b then e else typed (node.Truth e) sort.Bool (place_of e))) q

  and_four : (a b c d : Bool) → a ≡ true → b ≡ true → c ≡ true → d ≡ true → (a && b && c && d) ≡ true
  and_four a b c d p q r s = cc

  pub value_alone : (known : List ℕ) (e : TypedExpr) → stands m locals init false known e ≡ true → is_typed m locals init known e ≡ true
  value_alone known (typed n t p) h =
      let r = parts_of_stands false known n t p h in
      and_four (parts_typed m locals init false known n) (rule m locals init known n t) (suits false n t) (is_result_type (length m.classes.classes) t) r.0 r.1 r.2 r.3

  -- a value is good at each place
  pub value_good : (w : Wanted) (known : List ℕ) (e : TypedExpr) → stands m locals init false known e ≡ true → is_good m locals init w known e ≡ true
  value_good free known e h = h
  value_good test known e h = truth_stands known e h
  value_good (wants t) known e h = h
  value_good dropped known e h = value_alone known e h
