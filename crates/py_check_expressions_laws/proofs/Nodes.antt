-- The rules of typing give what stands well typed, by their parts.
use Rattle.std.proofs.Common.{◌≡◌, ℕ, Bool, true, false, not, ◌&&◌, ◌||◌, ◌==◌, List, [], ◌∷◌, ◌++◌, length, map, slice_get, is_none, Option, Some, None, Ok, Err, refl, ap, sym, ◌∙◌, subst, if◌then◌else◌, nat_lt}
use Rattle.std.proofs.lemmas.Bool.{and_from, or_left, or_right, or_cases}
use Rattle.std.proofs.lemmas.Option.{same_Some}
use Rattle.std.specs.Option.{option_map}
use Rattle.py_syntax.specs.declared.token.Span.{Span}
use Rattle.py_syntax.specs.declared.expression.BinOp.{BinOp}
use Rattle.py_syntax.specs.declared.expression.BinOp.TheVariants as op
use Rattle.py_syntax.specs.declared.expression.CmpOp.{CmpOp}
use Rattle.py_syntax.specs.declared.expression.CmpOp.TheVariants as compare
use Rattle.py_typed.specs.Sorts as sort
use Rattle.py_typed.specs.Sorts.{Sort, Sorts, no_sorts, sort_then, sorts_of, listed_sorts}
use Rattle.py_typed.specs.Fits.{is_same_type, is_number, is_nothing, number_join, all_same, fits, join}
use Rattle.py_typed.specs.Laws.{IsClassTree}
use Rattle.py_typed.specs.Expressions as node
use Rattle.py_typed.specs.Expressions.{TypedExpr, TypedNode, typed, type_of, exprs_of, comparisons_of}
use Rattle.py_typed.specs.Statements.{Variable, TypedModule}
use Rattle.py_typed.specs.Narrowing as telling
use Rattle.py_typed.specs.WellTypedExpr.{stands, chain_typed, pair_fits, is_value_type, are_value_types, is_result_type, is_type, reads_as, are_texts, are_numbers, is_bar, operation_sort, indexed, tuple_sort, is_none_literal}
use Rattle.py_typed.proofs.FitLemmas.{type_is_itself, and_left, and_right, join_holds}
use Rattle.py_check_context.specs.Context.{Wanted, free, test, wants, dropped, WantedRow, each, along, wanted_in}
use Rattle.py_check_messages.specs.Seen.{Message}
use Rattle.py_check_coercions.specs.Several.{fault_unless, unless}
use Rattle.py_check_coercions.specs.Values.{coerced, truth}
use Rattle.py_check_coercions.specs.Rows.{Misfit, unfit, changed_row}
use Rattle.py_check_operators.specs.Operators.{signed, negation, affirmation, inversion, is_sum, is_concat, is_numeric, op_text, arithmetic}
use Rattle.py_check_operators.specs.Chains.{are_ordered, is_key_for, pair_faults, chain_faults}
use Rattle.py_check_operators.specs.Choices.{joined, word_text, word_node, junction, operand, choice_type, choice}
use Rattle.py_check_displays.specs.Displays.{item_sort, items_row, list_of, expected_list, common, joined_list, inferred_list, list_display, parts_row, is_tuple_size, kept_row, tuple_of, is_invalid_tuple, has_bare_none, tuple_display}
use Rattle.py_check_displays.specs.Indexing.{Literal, item_at, item_of, with_place, at_place, place_in, part_at, part_made, part_of, is_tuple, indexing}
use Rattle.py_check_expressions_laws.specs.WellTyped.{is_asked, Within}
use Rattle.py_check_expressions_laws.proofs.Inside.{either, within_append}
use Rattle.py_check_expressions_laws.proofs.Types.{clash, result_of_value, value_not_nothing, number_result, join_result, part_value, signed_fits}
use Rattle.py_check_expressions_laws.proofs.Stands.{stands_made, value_type, coerced_stands, truth_is_bool, value_good}
use Rattle.py_check_expressions_laws.proofs.Telling.{done, ok_same, truth_tells, coerced_tells, within_same, joined_made}
use Rattle.py_check_expressions_laws.proofs.Rows.{all_fits, is_sought, sought_type, each_fits, type_coerced, free_fits, free_unchanged, changed_length, all_fit, AllStand, RowSound, RowAsked, RowValued, Sound, row_stands, changed_all, common_holds, list_stands, tuple_stands, none_bare, hold_nothing, none_nothing, row_whole}

-- a test before a result
pub if_ok : {A : Type 0} (c : Bool) (x b : A) (m : Message) → (if c then Ok x else Err m) ≡ Ok b → (c ≡ true) × (x ≡ b)
if_ok true x b m e = (refl, ok_same x b e)
if_ok false x b m e = absurd (cc)

pub unless_ok : {A : Type 0} (o : Option Message) (x b : A) → unless o x ≡ Ok b → (o ≡ None) × (x ≡ b)
unless_ok None x b e = (refl, ok_same x b e)
unless_ok (Some m) x b e = absurd (cc)

module _ (m : TypedModule) (locals : List Variable) (init : Option ℕ) where
  -- what is a value wherever more is known is sound
  pub value_sound : (w : Wanted) (known : List ℕ) (t : TypedExpr) → ((others : List ℕ) → Within known others → stands m locals init false others t ≡ true) → Sound m locals init w known t
  value_sound w known t s others wi taken = value_good m locals init w others t (s others wi)

  -- ---- names

  reads_rule : (b c : Bool) (t : Sort) (o : Option Sort) → o ≡ Some t → (b ≡ true → c ≡ true) → (is_type o (reads_as b t) || is_type (option_map (reads_as c) o) (reads_as b t)) ≡ true
  reads_rule false c t o e next = or_left (is_type o t) (is_type (option_map (reads_as c) o) t) (ap (λ p. is_type p t) e ∙ type_is_itself t)
  reads_rule true c t o e next =
      or_right (is_type o (reads_as true t)) (is_type (option_map (reads_as c) o) (reads_as true t))
      (ap (λ p. is_type (option_map (reads_as c) p) (reads_as true t)) e ∙ ap (λ d. is_same_type (reads_as d t) (reads_as true t)) (next refl) ∙ type_is_itself (reads_as true t))

  pub reads_fit : (b c : Bool) (t : Sort) (o : Option Sort) → o ≡ Some t → (b ≡ true → c ≡ true) → (is_type o (reads_as b t) || is_type (option_map (reads_as c) o) (reads_as b t)) ≡ true
  reads_fit = reads_rule

  -- ---- signs and arithmetic

  pub negation_sound : (w : Wanted) (known : List ℕ) (span : Span) (a e : TypedExpr) → Sound m locals init free known a → negation m.classes.classes span a ≡ Ok e → Sound m locals init w known e
  negation_sound w known span a e s h =
      let r = if_ok (is_number (type_of a)) (typed (node.Neg a) (signed (type_of a)) span) e _ h in
      subst (Sound m locals init w known) r.1 (value_sound w known (typed (node.Neg a) (signed (type_of a)) span) (λ others wi.
      stands_made m locals init false others (node.Neg a) (signed (type_of a)) span (s others wi refl)
      (and_from (is_number (type_of a)) (is_same_type (signed (type_of a)) (signed (type_of a))) r.0 (type_is_itself (signed (type_of a)))) refl (number_result (length m.classes.classes) (type_of a) sort.Int) refl))

  pub affirmation_sound : (w : Wanted) (known : List ℕ) (a e : TypedExpr) → Sound m locals init free known a → affirmation m.classes.classes a ≡ Ok e → Sound m locals init w known e
  affirmation_sound w known a e s h =
      let r = if_ok (is_number (type_of a)) (coerced (signed (type_of a)) a) e _ h in
      subst (Sound m locals init w known) r.1 (value_sound w known (coerced (signed (type_of a)) a) (λ others wi.
      (coerced_stands m locals init others (signed (type_of a)) a (s others wi refl) (signed_fits m.classes.classes (type_of a) r.0) (number_result (length m.classes.classes) (type_of a) sort.Int)).0))

  pub inversion_sound : (w : Wanted) (known : List ℕ) (span : Span) (a : TypedExpr) → Sound m locals init test known a → Sound m locals init w known (inversion span a)
  inversion_sound w known span a s =
      value_sound w known (inversion span a) (λ others wi.
      stands_made m locals init false others (node.Not (truth a)) sort.Bool span (s others wi refl)
      (and_from (is_same_type (type_of (truth a)) sort.Bool) true (ap (λ x. is_same_type x sort.Bool) (truth_is_bool m locals init a)) refl) refl refl refl)

  -- what an operation on numbers gives
  pub operation_is : (o : BinOp) (s t : Sort) → is_concat o s t ≡ false → is_numeric o s t ≡ true → (are_numbers s t ≡ true) × (operation_sort o s t ≡ Some (number_join s t))
  operation_is op.Bar s t p q = absurd (cc)
  operation_is op.Add s t p q =
      (q, ap (λ (b : Bool). if b then Some sort.Str else (if are_numbers s t then Some (number_join s t) else None)) p ∙ ap (λ (b : Bool). if b then Some (number_join s t) else None) q)
  operation_is op.Sub s t p q = (q, ap (λ (b : Bool). if b && true then Some (number_join s t) else None) q)
  operation_is op.Mul s t p q = (q, ap (λ (b : Bool). if b && true then Some (number_join s t) else None) q)
  operation_is op.FloorDiv s t p q = (q, ap (λ (b : Bool). if b && true then Some (number_join s t) else None) q)
  operation_is op.Mod s t p q = (q, ap (λ (b : Bool). if b && true then Some (number_join s t) else None) q)
  operation_is op.Shl s t p q = (q, ap (λ (b : Bool). if b && true then Some (number_join s t) else None) q)
  operation_is op.Shr s t p q = (q, ap (λ (b : Bool). if b && true then Some (number_join s t) else None) q)

  pub concat_texts : (o : BinOp) (s t : Sort) → is_concat o s t ≡ true → are_texts s t ≡ true
  concat_texts o s t h = and_right (is_sum o) (are_texts s t) h

  pub arithmetic_sound : (w : Wanted) (known : List ℕ) (span : Span) (o : BinOp) (p : TypedExpr × TypedExpr) (e : TypedExpr) → Sound m locals init free known p.0 → Sound m locals init free known p.1 → arithmetic m.classes.classes span o p ≡ Ok e → Sound m locals init w known e
  arithmetic_sound w known span o p e sa sb h = by (is_concat o (type_of p.0) (type_of p.1)) refl h
    where
      numbers : is_concat o (type_of p.0) (type_of p.1) ≡ false → (is_numeric o (type_of p.0) (type_of p.1) ≡ true) × (typed (node.Arith o p.0 p.1) (number_join (type_of p.0) (type_of p.1)) span ≡ e) → Sound m locals init w known e
      numbers q r =
          let k = operation_is o (type_of p.0) (type_of p.1) q r.0 in
          subst (Sound m locals init w known) r.1 (value_sound w known (typed (node.Arith o p.0 p.1) (number_join (type_of p.0) (type_of p.1)) span) (λ others wi.
          stands_made m locals init false others (node.Arith o p.0 p.1) (number_join (type_of p.0) (type_of p.1)) span
          (and_from (stands m locals init false others p.0) (stands m locals init false others p.1) (sa others wi refl) (sb others wi refl))
          (and_from (are_numbers (type_of p.0) (type_of p.1)) (is_type (operation_sort o (type_of p.0) (type_of p.1)) (number_join (type_of p.0) (type_of p.1))) k.0
          (ap (λ x. is_type x (number_join (type_of p.0) (type_of p.1))) k.1 ∙ type_is_itself (number_join (type_of p.0) (type_of p.1))))
          refl (number_result (length m.classes.classes) (type_of p.0) (type_of p.1)) refl))

      by : (c : Bool) → is_concat o (type_of p.0) (type_of p.1) ≡ c
          → (if c then done (typed (node.Concat p.0 p.1) sort.Str span)
          else (if is_numeric o (type_of p.0) (type_of p.1) then Ok (typed (node.Arith o p.0 p.1) (number_join (type_of p.0) (type_of p.1)) span) else Err (Rattle.py_check_messages.specs.Messages.unsupported_operands m.classes.classes (op_text o) (type_of p.0) (type_of p.1)))) ≡ Ok e → Sound m locals init w known e
      by true q g =
          subst (Sound m locals init w known) (ok_same (typed (node.Concat p.0 p.1) sort.Str span) e g) (value_sound w known (typed (node.Concat p.0 p.1) sort.Str span) (λ others wi.
          stands_made m locals init false others (node.Concat p.0 p.1) sort.Str span
          (and_from (stands m locals init false others p.0) (stands m locals init false others p.1) (sa others wi refl) (sb others wi refl))
          (and_from (are_texts (type_of p.0) (type_of p.1)) true (concat_texts o (type_of p.0) (type_of p.1) q) refl) refl refl refl))
      by false q g = numbers q (if_ok (is_numeric o (type_of p.0) (type_of p.1)) (typed (node.Arith o p.0 p.1) (number_join (type_of p.0) (type_of p.1)) span) e _ g)

  -- ---- chains

  unless_right : (b : Bool) (msg : Message) (more : List Message) → fault_unless b msg ++ more ≡ [] → (b ≡ true) × (more ≡ [])
  unless_right true msg more e = (refl, e)
  unless_right false msg more e = absurd (cc)

  swapped : (a b : Bool) → (a || b) ≡ true → (b || a) ≡ true
  swapped true true h = refl
  swapped true false h = refl
  swapped false true h = refl
  swapped false false h = absurd (cc)

  member_fits : (a : TypedExpr) (n : TypedNode) (t : Sort) (p : Span) → is_key_for m.classes.classes (type_of a) t ≡ true → pair_fits m locals init compare.Member a (typed n t p) ≡ true
  member_fits a n (sort.DictOf k v) p h = h
  member_fits a n _ p h = absurd (cc)

  not_member_fits : (a : TypedExpr) (n : TypedNode) (t : Sort) (p : Span) → is_key_for m.classes.classes (type_of a) t ≡ true → pair_fits m locals init compare.NotMember a (typed n t p) ≡ true
  not_member_fits a n (sort.DictOf k v) p h = h
  not_member_fits a n _ p h = absurd (cc)

  pair_right : (o : CmpOp) (a b : TypedExpr) (more : List Message) → pair_faults m.classes.classes (type_of a) o b ++ more ≡ [] → (pair_fits m locals init o a b ≡ true) × (more ≡ [])
  pair_right compare.Is a b more e = unless_right (is_none_literal b) _ more e
  pair_right compare.IsNot a b more e = unless_right (is_none_literal b) _ more e
  pair_right compare.Member a (typed n t p) more e = let r = unless_right (is_key_for m.classes.classes (type_of a) t) _ more e in (member_fits a n t p r.0, r.1)
  pair_right compare.NotMember a (typed n t p) more e = let r = unless_right (is_key_for m.classes.classes (type_of a) t) _ more e in (not_member_fits a n t p r.0, r.1)
  pair_right compare.Eq a b more e = let r = unless_right (are_ordered (type_of a) (type_of b)) _ more e in (swapped (are_numbers (type_of a) (type_of b)) (are_texts (type_of a) (type_of b)) r.0, r.1)
  pair_right compare.Ne a b more e = let r = unless_right (are_ordered (type_of a) (type_of b)) _ more e in (swapped (are_numbers (type_of a) (type_of b)) (are_texts (type_of a) (type_of b)) r.0, r.1)
  pair_right compare.Lt a b more e = let r = unless_right (are_ordered (type_of a) (type_of b)) _ more e in (swapped (are_numbers (type_of a) (type_of b)) (are_texts (type_of a) (type_of b)) r.0, r.1)
  pair_right compare.Le a b more e = let r = unless_right (are_ordered (type_of a) (type_of b)) _ more e in (swapped (are_numbers (type_of a) (type_of b)) (are_texts (type_of a) (type_of b)) r.0, r.1)
  pair_right compare.Gt a b more e = let r = unless_right (are_ordered (type_of a) (type_of b)) _ more e in (swapped (are_numbers (type_of a) (type_of b)) (are_texts (type_of a) (type_of b)) r.0, r.1)
  pair_right compare.Ge a b more e = let r = unless_right (are_ordered (type_of a) (type_of b)) _ more e in (swapped (are_numbers (type_of a) (type_of b)) (are_texts (type_of a) (type_of b)) r.0, r.1)

  -- the further operands are sound
  pub record OperandHas (known : List ℕ) (e : TypedExpr) (Rest : Type 0) : Type 0 where
    pub first : Sound m locals init free known e
    pub rest : Rest

  abbrev pub ChainSound : List ℕ → List (CmpOp × TypedExpr) → Type 0
  ChainSound known [] = Unit {0}
  ChainSound known (p ∷ ps) = OperandHas known p.1 (ChainSound known ps)

  three_hold : (a b c : Bool) → a ≡ true → b ≡ true → c ≡ true → (a && b && c) ≡ true
  three_hold a b c p q r = cc

  chain_holds : (known others : List ℕ) (a : TypedExpr) (ps : List (CmpOp × TypedExpr)) → ChainSound known ps → Within known others → chain_faults m.classes.classes (type_of a) ps ≡ [] → chain_typed m locals init others a (comparisons_of ps) ≡ true
  chain_holds known others a [] h w e = refl
  chain_holds known others a (p ∷ ps) h w e =
      let r = pair_right p.0 a p.1 (chain_faults m.classes.classes (type_of p.1) ps) e in
      three_hold (stands m locals init false others p.1) (pair_fits m locals init p.0 a p.1) (chain_typed m locals init others p.1 (comparisons_of ps)) (h.first others w refl) r.0 (chain_holds known others p.1 ps h.rest w r.1)

  pub chain_sound : (w : Wanted) (known : List ℕ) (span : Span) (a : TypedExpr) (ps : List (CmpOp × TypedExpr)) → Sound m locals init free known a → ChainSound known ps → (ps ≡ [] → ⊥) → chain_faults m.classes.classes (type_of a) ps ≡ [] → Sound m locals init w known (typed (node.Compare a (comparisons_of ps)) sort.Bool span)
  chain_sound w known span a [] s h filled e = absurd (filled refl)
  chain_sound w known span a (p ∷ ps) s h filled e =
      value_sound w known (typed (node.Compare a (comparisons_of (p ∷ ps))) sort.Bool span) (λ others wi.
      stands_made m locals init false others (node.Compare a (comparisons_of (p ∷ ps))) sort.Bool span
      (and_from (stands m locals init false others a) (chain_typed m locals init others a (comparisons_of (p ∷ ps))) (s others wi refl) (chain_holds known others a (p ∷ ps) h wi e))
      refl refl refl refl)

  -- ---- `and`, `or`, conditionals

  word_stands : (conjoined testing : Bool) (others : List ℕ) (a b : TypedExpr) (t : Sort) (span : Span) → stands m locals init testing others a ≡ true → stands m locals init testing (telling.facts conjoined a ++ others) b ≡ true → type_of a ≡ t → type_of b ≡ t → (testing ≡ true → t ≡ sort.Bool) → is_result_type (length m.classes.classes) t ≡ true → stands m locals init testing others (typed (word_node conjoined a b) t span) ≡ true
  word_stands true true others a b t span sa sb ta tb only r =
      stands_made m locals init true others (node.And a b) t span (and_from (stands m locals init true others a) (stands m locals init true (telling.facts true a ++ others) b) sa sb)
      (and_from (is_same_type (type_of a) t) (is_same_type (type_of b) t) (ap (λ x. is_same_type x t) ta ∙ type_is_itself t) (ap (λ x. is_same_type x t) tb ∙ type_is_itself t)) (ap (λ x. is_same_type x sort.Bool) (only refl)) r refl
  word_stands true false others a b t span sa sb ta tb only r =
      stands_made m locals init false others (node.And a b) t span (and_from (stands m locals init false others a) (stands m locals init false (telling.facts true a ++ others) b) sa sb)
      (and_from (is_same_type (type_of a) t) (is_same_type (type_of b) t) (ap (λ x. is_same_type x t) ta ∙ type_is_itself t) (ap (λ x. is_same_type x t) tb ∙ type_is_itself t)) refl r refl
  word_stands false true others a b t span sa sb ta tb only r =
      stands_made m locals init true others (node.Or a b) t span (and_from (stands m locals init true others a) (stands m locals init true (telling.facts false a ++ others) b) sa sb)
      (and_from (is_same_type (type_of a) t) (is_same_type (type_of b) t) (ap (λ x. is_same_type x t) ta ∙ type_is_itself t) (ap (λ x. is_same_type x t) tb ∙ type_is_itself t)) (ap (λ x. is_same_type x sort.Bool) (only refl)) r refl
  word_stands false false others a b t span sa sb ta tb only r =
      stands_made m locals init false others (node.Or a b) t span (and_from (stands m locals init false others a) (stands m locals init false (telling.facts false a ++ others) b) sa sb)
      (and_from (is_same_type (type_of a) t) (is_same_type (type_of b) t) (ap (λ x. is_same_type x t) ta ∙ type_is_itself t) (ap (λ x. is_same_type x t) tb ∙ type_is_itself t)) refl r refl

  no_test : {A : Type 0} → false ≡ true → A
  no_test h = absurd (cc)

  more_known : (names known others : List ℕ) (xs ys : List ℕ) → Within names ys → xs ≡ ys → Within known others → Within (names ++ known) (xs ++ others)
  more_known names known others xs ys told same w = within_append names known xs others (within_same names xs ys same told) w

  -- in a condition place
  tested_sound : (conjoined : Bool) (known names : List ℕ) (span : Span) (a b : TypedExpr) → Sound m locals init test known a → Sound m locals init test (names ++ known) b → Within names (telling.facts conjoined a) → Sound m locals init test known (typed (word_node conjoined (truth a) (truth b)) sort.Bool span)
  tested_sound conjoined known names span a b sa sb told others wi taken =
      word_stands conjoined true others (truth a) (truth b) sort.Bool span (sa others wi refl)
      (sb (telling.facts conjoined (truth a) ++ others) (more_known names known others (telling.facts conjoined (truth a)) (telling.facts conjoined a) told (truth_tells conjoined a) wi) refl)
      (truth_is_bool m locals init a) (truth_is_bool m locals init b) (λ h. refl) refl

  -- elsewhere
  joined_sound : (w : Wanted) (conjoined : Bool) (known names : List ℕ) (span : Span) (a b e : TypedExpr) → Sound m locals init free known a → Sound m locals init free (names ++ known) b → Within names (telling.facts conjoined a) → joined m.classes.classes (word_text conjoined) (word_node conjoined) span a b (join m.classes.classes (type_of a) (type_of b)) ≡ Ok e → Sound m locals init w known e
  joined_sound w conjoined known names span a b e sa sb told h =
      let r = joined_made m.classes.classes (word_text conjoined) (word_node conjoined) span a b e (join m.classes.classes (type_of a) (type_of b)) h in
      let f = join_holds m.classes.classes (type_of a) (type_of b) r.0 r.1 in
      subst (Sound m locals init w known) r.2 (value_sound w known (typed (word_node conjoined (coerced r.0 a) (coerced r.0 b)) r.0 span) (λ others wi.
      let va = sa others wi refl in
      let vb = sb (telling.facts conjoined (coerced r.0 a) ++ others) (more_known names known others (telling.facts conjoined (coerced r.0 a)) (telling.facts conjoined a) told (coerced_tells conjoined r.0 a) wi) refl in
      let rt = join_result (length m.classes.classes) m.classes.classes (type_of a) (type_of b) r.0 (value_type m locals init false others a va) (value_type m locals init false (telling.facts conjoined (coerced r.0 a) ++ others) b vb) r.1 in
      word_stands conjoined false others (coerced r.0 a) (coerced r.0 b) r.0 span (coerced_stands m locals init others r.0 a va f.0 rt).0
      (coerced_stands m locals init (telling.facts conjoined (coerced r.0 a) ++ others) r.0 b vb f.1 rt).0 (type_coerced r.0 a) (type_coerced r.0 b) no_test rt))

  pub junction_sound : (w : Wanted) (conjoined : Bool) (known names : List ℕ) (span : Span) (p : TypedExpr × TypedExpr) (e : TypedExpr) → Sound m locals init (operand w) known p.0 → Sound m locals init (operand w) (names ++ known) p.1 → Within names (telling.facts conjoined p.0) → junction m.classes.classes w conjoined span p ≡ Ok e → Sound m locals init w known e
  junction_sound test conjoined known names span p e sa sb told h =
      subst (Sound m locals init test known) (ok_same (typed (word_node conjoined (truth p.0) (truth p.1)) sort.Bool span) e h) (tested_sound conjoined known names span p.0 p.1 sa sb told)
  junction_sound free conjoined known names span p e sa sb told h = joined_sound free conjoined known names span p.0 p.1 e sa sb told h
  junction_sound (wants t) conjoined known names span p e sa sb told h = joined_sound (wants t) conjoined known names span p.0 p.1 e sa sb told h
  junction_sound dropped conjoined known names span p e sa sb told h = joined_sound dropped conjoined known names span p.0 p.1 e sa sb told h

  -- both arms fit the type of a conditional, which is a type of the table
  choice_fits : (w : Wanted) (r s u : Sort) → is_sought (length m.classes.classes) w ≡ true → is_result_type (length m.classes.classes) r ≡ true → is_result_type (length m.classes.classes) s ≡ true → choice_type m.classes.classes w r s ≡ Some u
      → (fits m.classes.classes r u ≡ true) × (fits m.classes.classes s u ≡ true) × (is_result_type (length m.classes.classes) u ≡ true)
  choice_fits (wants t) r s u a p q h = by (fits m.classes.classes r t && fits m.classes.classes s t) refl h
    where
      by : (b : Bool) → (fits m.classes.classes r t && fits m.classes.classes s t) ≡ b → (if b then Some t else join m.classes.classes r s) ≡ Some u → (fits m.classes.classes r u ≡ true) × (fits m.classes.classes s u ≡ true) × (is_result_type (length m.classes.classes) u ≡ true)
      by true e g =
          subst (λ x. (fits m.classes.classes r x ≡ true) × (fits m.classes.classes s x ≡ true) × (is_result_type (length m.classes.classes) x ≡ true)) (same_Some t u g)
          (and_left (fits m.classes.classes r t) (fits m.classes.classes s t) e, and_right (fits m.classes.classes r t) (fits m.classes.classes s t) e, sought_type (length m.classes.classes) m.classes.classes t r a p (and_left (fits m.classes.classes r t) (fits m.classes.classes s t) e))
      by false e g = let j = join_holds m.classes.classes r s u g in (j.0, j.1, join_result (length m.classes.classes) m.classes.classes r s u p q g)
  choice_fits free r s u a p q h = let j = join_holds m.classes.classes r s u h in (j.0, j.1, join_result (length m.classes.classes) m.classes.classes r s u p q h)
  choice_fits test r s u a p q h = let j = join_holds m.classes.classes r s u h in (j.0, j.1, join_result (length m.classes.classes) m.classes.classes r s u p q h)
  choice_fits dropped r s u a p q h = let j = join_holds m.classes.classes r s u h in (j.0, j.1, join_result (length m.classes.classes) m.classes.classes r s u p q h)

  pub choice_sound : (w : Wanted) (known first_names last_names : List ℕ) (span : Span) (p : (TypedExpr × TypedExpr) × TypedExpr) (e : TypedExpr) → is_sought (length m.classes.classes) w ≡ true → Sound m locals init free (first_names ++ known) p.0.0 → Sound m locals init test known p.0.1 → Sound m locals init free (last_names ++ known) p.1 → Within first_names (telling.facts true p.0.1) → Within last_names (telling.facts false p.0.1) → choice m.classes.classes w span p ≡ Ok e → Sound m locals init w known e
  choice_sound w known first_names last_names span p e asked sa st sb told_yes told_no h =
      let r = joined_made m.classes.classes _ (λ a b. node.Cond a (truth p.0.1) b) span p.0.0 p.1 e (choice_type m.classes.classes w (type_of p.0.0) (type_of p.1)) h in
      subst (Sound m locals init w known) r.2 (value_sound w known (typed (node.Cond (coerced r.0 p.0.0) (truth p.0.1) (coerced r.0 p.1)) r.0 span) (λ others wi.
      let first : List ℕ = telling.facts true (truth p.0.1) ++ others in
      let last : List ℕ = telling.facts false (truth p.0.1) ++ others in
      let va : stands m locals init false first p.0.0 ≡ true = sa first (more_known first_names known others (telling.facts true (truth p.0.1)) (telling.facts true p.0.1) told_yes (truth_tells true p.0.1) wi) refl in
      let vb : stands m locals init false last p.1 ≡ true = sb last (more_known last_names known others (telling.facts false (truth p.0.1)) (telling.facts false p.0.1) told_no (truth_tells false p.0.1) wi) refl in
      let f = choice_fits w (type_of p.0.0) (type_of p.1) r.0 asked (value_type m locals init false first p.0.0 va) (value_type m locals init false last p.1 vb) r.1 in
      stands_made m locals init false others (node.Cond (coerced r.0 p.0.0) (truth p.0.1) (coerced r.0 p.1)) r.0 span
      (three_hold (stands m locals init true others (truth p.0.1)) (stands m locals init false first (coerced r.0 p.0.0)) (stands m locals init false last (coerced r.0 p.1)) (st others wi refl)
      (coerced_stands m locals init first r.0 p.0.0 va f.0 f.2).0 (coerced_stands m locals init last r.0 p.1 vb f.1 f.2).0)
      (three_hold (is_same_type (type_of (truth p.0.1)) sort.Bool) (is_same_type (type_of (coerced r.0 p.0.0)) r.0) (is_same_type (type_of (coerced r.0 p.1)) r.0) (ap (λ x. is_same_type x sort.Bool) (truth_is_bool m locals init p.0.1))
      (ap (λ x. is_same_type x r.0) (type_coerced r.0 p.0.0) ∙ type_is_itself r.0) (ap (λ x. is_same_type x r.0) (type_coerced r.0 p.1) ∙ type_is_itself r.0))
      refl f.2 refl))

  -- ---- displays

  option_none : (o : Option Misfit) (f : Misfit → Message) → option_map f o ≡ None → o ≡ None
  option_none None f e = refl
  option_none (Some u) f e = absurd (cc)

  inferred_sound : IsClassTree m.classes.classes → (w : Wanted) (known : List ℕ) (span : Span) (es : List TypedExpr) (e : TypedExpr) → RowSound m locals init (along []) 0 known es → inferred_list m.classes.classes span es ≡ Ok e → Sound m locals init w known e
  inferred_sound tree w known span [] e h g = absurd (cc)
  inferred_sound tree w known span (x ∷ es) e h g = by (common m.classes.classes (Some (type_of x)) es) refl g
    where
      made : (t : Sort) → common m.classes.classes (Some (type_of x)) es ≡ Some t → is_nothing t ≡ false → Sound m locals init w known (list_of span t (x ∷ es))
      made t c q =
          value_sound w known (list_of span t (x ∷ es)) (λ others wi.
          let all = row_stands m locals init (along []) 0 known others (x ∷ es) h wi (free_fits m.classes.classes 0 (x ∷ es)) in
          let r = common_holds m locals init tree others es (type_of x) t 1 (value_type m locals init false others x all.first) all.rest c in
          list_stands m locals init others t span (x ∷ es) (Rattle.py_check_expressions_laws.proofs.Types.value_of_result (length m.classes.classes) t r.2 q) all
          (Rattle.py_check_expressions_laws.proofs.Rows.unfit_none m.classes.classes (each t) 0 x es (Rattle.py_check_expressions_laws.proofs.Rows.fit_of_taken m.classes.classes 0 (wants t) x r.0) r.1))

      known_type : (t : Sort) (b : Bool) → common m.classes.classes (Some (type_of x)) es ≡ Some t → is_nothing t ≡ b → (if b then Err Rattle.py_check_messages.specs.Messages.no_common_item else Ok (list_of span t (x ∷ es))) ≡ Ok e → Sound m locals init w known e
      known_type t true c q k = absurd (cc)
      known_type t false c q k = subst (Sound m locals init w known) (ok_same (list_of span t (x ∷ es)) e k) (made t c q)

      by : (o : Option Sort) → common m.classes.classes (Some (type_of x)) es ≡ o → joined_list span (x ∷ es) o ≡ Ok e → Sound m locals init w known e
      by None c k = absurd (cc)
      by (Some t) c k = known_type t (is_nothing t) c refl k

  expected_sound : (w : Wanted) (known : List ℕ) (span : Span) (t : Sort) (es : List TypedExpr) (e : TypedExpr) → is_value_type (length m.classes.classes) t ≡ true → RowSound m locals init (each t) 0 known es → expected_list m.classes.classes span t es ≡ Ok e → Sound m locals init w known e
  expected_sound w known span t es e v h g =
      let r = unless_ok (option_map (Rattle.py_check_displays.specs.Displays.item_fault m.classes.classes) (unfit m.classes.classes (each t) 0 es)) (list_of span t es) e g in
      let u = option_none (unfit m.classes.classes (each t) 0 es) (Rattle.py_check_displays.specs.Displays.item_fault m.classes.classes) r.0 in
      subst (Sound m locals init w known) r.1 (value_sound w known (list_of span t es) (λ others wi. list_stands m locals init others t span es v (row_stands m locals init (each t) 0 known others es h wi u) u))

  pub list_sound : IsClassTree m.classes.classes → (w : Wanted) (known : List ℕ) (span : Span) (es : List TypedExpr) (e : TypedExpr) → is_sought (length m.classes.classes) w ≡ true → RowSound m locals init (items_row (item_sort w)) 0 known es → list_display m.classes.classes (item_sort w) span es ≡ Ok e → Sound m locals init w known e
  list_sound tree (wants (sort.ListOf t)) known span es e asked h g = expected_sound (wants (sort.ListOf t)) known span t es e asked h g
  list_sound tree w known span es e asked h g = inferred_sound tree w known span es e h g

  -- a tuple whose items are kept as they are asked for
  kept_sound : (w : Wanted) (known : List ℕ) (span : Span) (row : WantedRow) (es : List TypedExpr) → RowAsked m locals init row → RowValued m locals init row → RowSound m locals init row 0 known es → is_tuple_size (length es) ≡ true → has_bare_none row 0 es ≡ false → unfit m.classes.classes row 0 es ≡ None → Sound m locals init w known (tuple_of span (changed_row row 0 es))
  kept_sound w known span row es asked valued h size bare u =
      value_sound w known (tuple_of span (changed_row row 0 es)) (λ others wi.
      tuple_stands m locals init others span (changed_row row 0 es) (changed_all m locals init others row 0 es asked (row_stands m locals init row 0 known others es h wi u) u) (none_bare m locals init row 0 es valued bare) (ap is_tuple_size (changed_length row 0 es) ∙ size))

  tuple_ok : (row : WantedRow) (span : Span) (es : List TypedExpr) (e : TypedExpr) → tuple_display m.classes.classes row span es ≡ Ok e → (is_tuple_size (length es) ≡ true) × (has_bare_none row 0 es ≡ false) × (tuple_of span (changed_row (kept_row m.classes.classes row es) 0 es) ≡ e)
  tuple_ok row span es e h = by (is_tuple_size (length es)) (has_bare_none row 0 es) refl refl h
    where
      by : (a b : Bool) → is_tuple_size (length es) ≡ a → has_bare_none row 0 es ≡ b → (if not a || b then Err Rattle.py_check_messages.specs.Messages.invalid_tuple else Ok (tuple_of span (changed_row (kept_row m.classes.classes row es) 0 es))) ≡ Ok e
          → (is_tuple_size (length es) ≡ true) × (has_bare_none row 0 es ≡ false) × (tuple_of span (changed_row (kept_row m.classes.classes row es) 0 es) ≡ e)
      by true false p q g = (p, q, ok_same (tuple_of span (changed_row (kept_row m.classes.classes row es) 0 es)) e g)
      by true true p q g = absurd (cc)
      by false b p q g = absurd (cc)

  free_asked : RowAsked m locals init (along [])
  free_asked i = refl

  free_valued : RowValued m locals init (along [])
  free_valued i = refl

  free_tuple : (w : Wanted) (known : List ℕ) (span : Span) (es : List TypedExpr) (e : TypedExpr) → RowSound m locals init (along []) 0 known es → tuple_display m.classes.classes (along []) span es ≡ Ok e → Sound m locals init w known e
  free_tuple w known span es e h g =
      let r = tuple_ok (along []) span es e g in
      let k : kept_row m.classes.classes (along []) es ≡ along [] = ap (λ o. if is_none o then along [] else along []) (free_fits m.classes.classes 0 es) in
      subst (Sound m locals init w known) (ap (λ (row : WantedRow). tuple_of span (changed_row row 0 es)) (sym k) ∙ r.2) (kept_sound w known span (along []) es free_asked free_valued h r.0 r.1 (free_fits m.classes.classes 0 es))

  valued_at : (ts : Sorts) (i : ℕ) (o : Option Sort) → slice_get (listed_sorts ts) i ≡ o → are_value_types (length m.classes.classes) ts ≡ true → Rattle.py_check_expressions_laws.proofs.Rows.is_valued m locals init (Rattle.py_check_context.specs.Context.wants_some o) ≡ true
  valued_at ts i None e h = refl
  valued_at ts i (Some t) e h = part_value (length m.classes.classes) ts i t h e

  asked_at : (ts : Sorts) (i : ℕ) (o : Option Sort) → slice_get (listed_sorts ts) i ≡ o → are_value_types (length m.classes.classes) ts ≡ true → is_asked (length m.classes.classes) (Rattle.py_check_context.specs.Context.wants_some o) ≡ true
  asked_at ts i None e h = refl
  asked_at ts i (Some t) e h = result_of_value (length m.classes.classes) t (part_value (length m.classes.classes) ts i t h e)

  pub along_asked : (ts : Sorts) → are_value_types (length m.classes.classes) ts ≡ true → RowAsked m locals init (along (listed_sorts ts))
  along_asked ts h i = asked_at ts i (slice_get (listed_sorts ts) i) refl h

  not_so : (b : Bool) → not b ≡ true → b ≡ false
  not_so true h = absurd (cc)
  not_so false h = refl

  some_not_none : (f : Misfit) → Some f ≡ None → ⊥
  some_not_none f e = cc

  expected_tuple : (known : List ℕ) (span : Span) (ts : Sorts) (es : List TypedExpr) (e : TypedExpr) → are_value_types (length m.classes.classes) ts ≡ true → RowSound m locals init (along (listed_sorts ts)) 0 known es → tuple_display m.classes.classes (along (listed_sorts ts)) span es ≡ Ok e → Sound m locals init (wants (sort.TupleOf ts)) known e
  expected_tuple known span ts es e v h g = by (unfit m.classes.classes (along (listed_sorts ts)) 0 es) refl (tuple_ok (along (listed_sorts ts)) span es e g)
    where
      by : (o : Option Misfit) → unfit m.classes.classes (along (listed_sorts ts)) 0 es ≡ o
          → (is_tuple_size (length es) ≡ true) × (has_bare_none (along (listed_sorts ts)) 0 es ≡ false) × (tuple_of span (changed_row (kept_row m.classes.classes (along (listed_sorts ts)) es) 0 es) ≡ e) → Sound m locals init (wants (sort.TupleOf ts)) known e
      by None u r =
          let k : kept_row m.classes.classes (along (listed_sorts ts)) es ≡ along (listed_sorts ts) = ap (λ o. if is_none o then along (listed_sorts ts) else along []) u in
          subst (Sound m locals init (wants (sort.TupleOf ts)) known) (ap (λ (row : WantedRow). tuple_of span (changed_row row 0 es)) (sym k) ∙ r.2)
          (kept_sound (wants (sort.TupleOf ts)) known span (along (listed_sorts ts)) es (along_asked ts v) (λ i. valued_at ts i (slice_get (listed_sorts ts) i) refl v) h r.0 r.1 u)
      by (Some f) u r =
          let k : kept_row m.classes.classes (along (listed_sorts ts)) es ≡ along [] = ap (λ o. if is_none o then along (listed_sorts ts) else along []) u in
          subst (Sound m locals init (wants (sort.TupleOf ts)) known) (ap (λ (row : WantedRow). tuple_of span (changed_row row 0 es)) (sym k) ∙ r.2)
          (λ others wi taken. either
          (or_cases (all_same m.classes.classes (sorts_of (map type_of (changed_row (along []) 0 es))) ts) (all_fits m.classes.classes (sorts_of (map type_of (changed_row (along []) 0 es))) ts || not (hold_nothing (sorts_of (map type_of (changed_row (along []) 0 es))))) taken)
          (λ s. absurd (some_not_none f (sym u ∙ all_fit m.classes.classes (listed_sorts ts) 0 es ts refl (sym (ap (λ l. all_same m.classes.classes (sorts_of (map type_of l)) ts) (free_unchanged 0 es)) ∙ s))))
          (λ s. either (or_cases (all_fits m.classes.classes (sorts_of (map type_of (changed_row (along []) 0 es))) ts) (not (hold_nothing (sorts_of (map type_of (changed_row (along []) 0 es))))) s)
          (λ s. absurd (some_not_none f (sym u ∙ each_fits m.classes.classes (listed_sorts ts) 0 es ts refl (sym (ap (λ l. all_fits m.classes.classes (sorts_of (map type_of l)) ts) (free_unchanged 0 es)) ∙ s))))
          (λ s.
          let whole : hold_nothing (sorts_of (map type_of es)) ≡ false = ap (λ l. hold_nothing (sorts_of (map type_of l))) (sym (free_unchanged 0 es)) ∙ not_so (hold_nothing (sorts_of (map type_of (changed_row (along []) 0 es)))) s in
          subst (λ l. stands m locals init false others (tuple_of span l) ≡ true) (sym (free_unchanged 0 es)) (tuple_stands m locals init others span es (row_whole m locals init (along (listed_sorts ts)) 0 known others es h wi whole) (none_nothing (map type_of es) whole) r.0))))

  pub tuple_sound : (w : Wanted) (known : List ℕ) (span : Span) (count : ℕ) (es : List TypedExpr) (e : TypedExpr) → is_sought (length m.classes.classes) w ≡ true → RowSound m locals init (parts_row w count) 0 known es → tuple_display m.classes.classes (parts_row w count) span es ≡ Ok e → Sound m locals init w known e
  tuple_sound (wants (sort.TupleOf ts)) known span count es e asked h g = by (length (listed_sorts ts) == count) h g
    where
      by : (b : Bool) → RowSound m locals init (if b then along (listed_sorts ts) else along []) 0 known es → tuple_display m.classes.classes (if b then along (listed_sorts ts) else along []) span es ≡ Ok e → Sound m locals init (wants (sort.TupleOf ts)) known e
      by true k q = expected_tuple known span ts es e asked k q
      by false k q = free_tuple (wants (sort.TupleOf ts)) known span es e k q
  tuple_sound w known span count es e asked h g = free_tuple w known span es e h g

  -- ---- items

  part_is : (l : Option Literal) (ts : List Sort) (p : ℕ × Sort) → part_at l ts ≡ Some p → slice_get ts p.0 ≡ Some p.1
  part_is None ts p e = absurd (cc)
  part_is (Some l) ts p e = at_found (place_in (length ts) l) e
    where
      with_found : (i : ℕ) (o : Option Sort) → slice_get ts i ≡ o → with_place i o ≡ Some p → slice_get ts p.0 ≡ Some p.1
      with_found i None f g = absurd (cc)
      with_found i (Some t) f g = subst (λ (x : ℕ × Sort). slice_get ts x.0 ≡ Some x.1) (same_Some (i, t) p g) f

      at_found : (o : Option ℕ) → at_place ts o ≡ Some p → slice_get ts p.0 ≡ Some p.1
      at_found None g = absurd (cc)
      at_found (Some i) g = with_found i (slice_get ts i) refl g

  tuple_item_sound : (w : Wanted) (known : List ℕ) (span : Span) (l : Option Literal) (n : TypedNode) (ts : Sorts) (place : Span) (e : TypedExpr) → Sound m locals init free known (typed n (sort.TupleOf ts) place) → part_of span l (typed n (sort.TupleOf ts) place) ≡ Ok e → Sound m locals init w known e
  tuple_item_sound w known span l n ts place e s h = by (part_at l (listed_sorts ts)) refl h
    where
      value_parts : (a b c : Bool) → (a && b && c) ≡ true → c ≡ true
      value_parts true true true q = refl
      value_parts _ _ _ q = absurd (cc)

      by : (o : Option (ℕ × Sort)) → part_at l (listed_sorts ts) ≡ o → part_made span (typed n (sort.TupleOf ts) place) o ≡ Ok e → Sound m locals init w known e
      by None q g = absurd (cc)
      by (Some p) q g =
          let f = part_is l (listed_sorts ts) p q in
          subst (Sound m locals init w known) (ok_same (typed (node.TupleAt (typed n (sort.TupleOf ts) place) p.0) p.1 span) e g) (value_sound w known (typed (node.TupleAt (typed n (sort.TupleOf ts) place) p.0) p.1 span) (λ others wi.
          let v = s others wi refl in
          stands_made m locals init false others (node.TupleAt (typed n (sort.TupleOf ts) place) p.0) p.1 span v (ap (λ o. is_type o p.1) f ∙ type_is_itself p.1) refl
          (result_of_value (length m.classes.classes) p.1 (part_value (length m.classes.classes) ts p.0 p.1 (value_parts (nat_lt 0 (length (listed_sorts ts))) (nat_lt (length (listed_sorts ts)) 17) (are_value_types (length m.classes.classes) ts) (value_type m locals init false others (typed n (sort.TupleOf ts) place) v)) f)) refl))

  -- of what is indexed by a type
  keyed_sound : (w : Wanted) (known : List ℕ) (span : Span) (a i e : TypedExpr) (k t : Sort) → Sound m locals init free known a → Sound m locals init free known i → is_result_type (length m.classes.classes) k ≡ true → (is_result_type (length m.classes.classes) (type_of a) ≡ true → is_result_type (length m.classes.classes) t ≡ true) → is_type (indexed (type_of a) k) t ≡ true
      → item_at m.classes.classes span a i (Some (k, t)) ≡ Ok e → Sound m locals init w known e
  keyed_sound w known span a i e k t sa si rk rt at h =
      let r = if_ok (fits m.classes.classes (type_of i) k) (typed (node.At a (coerced k i)) t span) e _ h in
      subst (Sound m locals init w known) r.1 (value_sound w known (typed (node.At a (coerced k i)) t span) (λ others wi.
      stands_made m locals init false others (node.At a (coerced k i)) t span
      (and_from (stands m locals init false others a) (stands m locals init false others (coerced k i)) (sa others wi refl) (coerced_stands m locals init others k i (si others wi refl) r.0 rk).0)
      (ap (λ x. is_type (indexed (type_of a) x) t) (type_coerced k i) ∙ at) refl (rt (value_type m locals init false others a (sa others wi refl))) refl))

  key_result : (k : Sort) → Rattle.py_typed.specs.WellTypedExpr.is_key_type k ≡ true → is_result_type (length m.classes.classes) k ≡ true
  key_result sort.Str h = refl
  key_result sort.Int h = refl
  key_result sort.I64 h = refl
  key_result sort.Bool h = refl
  key_result _ h = absurd (cc)

  dict_at : (k t : Sort) → is_type (indexed (sort.DictOf k t) k) t ≡ true
  dict_at k t = ap (λ (b : Bool). is_type (if b then Some t else None) t) (type_is_itself k) ∙ type_is_itself t

  item_sound : (w : Wanted) (known : List ℕ) (span : Span) (n : TypedNode) (s : Sort) (place : Span) (i e : TypedExpr) → Sound m locals init free known (typed n s place) → Sound m locals init free known i → item_of m.classes.classes span (typed n s place) i ≡ Ok e → Sound m locals init w known e
  item_sound w known span n (sort.ListOf t) place i e sa si h = keyed_sound w known span (typed n (sort.ListOf t) place) i e sort.Int t sa si refl (λ r. result_of_value (length m.classes.classes) t r) (type_is_itself t) h
  item_sound w known span n sort.Str place i e sa si h = keyed_sound w known span (typed n sort.Str place) i e sort.Int sort.Str sa si refl (λ r. refl) refl h
  item_sound w known span n (sort.DictOf k t) place i e sa si h = by (Rattle.py_typed.specs.WellTypedExpr.is_key_type k) refl
    where
      by : (b : Bool) → Rattle.py_typed.specs.WellTypedExpr.is_key_type k ≡ b → Sound m locals init w known e
      by true q =
          keyed_sound w known span (typed n (sort.DictOf k t) place) i e k t sa si (key_result k q)
          (λ r. result_of_value (length m.classes.classes) t (and_right (Rattle.py_typed.specs.WellTypedExpr.is_key_type k) (is_value_type (length m.classes.classes) t) r)) (dict_at k t) h
      by false q = λ others wi taken.
          clash (Rattle.py_typed.specs.WellTypedExpr.is_key_type k) (and_left (Rattle.py_typed.specs.WellTypedExpr.is_key_type k) (is_value_type (length m.classes.classes) t) (value_type m locals init false others (typed n (sort.DictOf k t) place) (sa others wi refl))) q
  item_sound w known span n _ place i e sa si h = absurd (cc)

  pub indexing_sound : (w : Wanted) (known : List ℕ) (span : Span) (l : Option Literal) (p : TypedExpr × TypedExpr) (e : TypedExpr) → Sound m locals init free known p.0 → Sound m locals init free known p.1 → indexing m.classes.classes span l p ≡ Ok e → Sound m locals init w known e
  indexing_sound w known span l p e sa si h = split p.0 p.1 sa si h
    where
      split : (a i : TypedExpr) → Sound m locals init free known a → Sound m locals init free known i → (if is_tuple (type_of a) then part_of span l a else item_of m.classes.classes span a i) ≡ Ok e → Sound m locals init w known e
      split (typed n (sort.TupleOf ts) place) i ha hi g = tuple_item_sound w known span l n ts place e ha g
      split (typed n s place) i ha hi g = item_sound w known span n s place i e ha hi g
