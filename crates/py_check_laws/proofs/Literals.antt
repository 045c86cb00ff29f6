-- What is typed as a literal True or None is written so.
use Rattle.std.proofs.Common.{◌≡◌, ℕ, suc, Bool, true, false, List, [], ◌∷◌, ◌++◌, Option, Some, None, Result, Ok, Err, refl, ap, sym, ◌∙◌, subst, if◌then◌else◌}
use Rattle.std.proofs.lemmas.Option.{same_Some}
use Rattle.std.specs.Str.{bytes_eq}
use Rattle.std.specs.Prelude.{codes, slice_get}
use Rattle.value_core.specs.declared.exception.ExcClass.{ExcClass}
use Rattle.py_syntax.specs.declared.token.Span.{Span}
use Rattle.py_syntax.specs.Expressions as tree
use Rattle.py_syntax.specs.Expressions.{ExprTree, ExprNode, at, Arguments, no_arguments, argument_then, keyed_then}
use Rattle.py_typed.specs.Sorts as sort
use Rattle.py_typed.specs.Sorts.{Sort}
use Rattle.py_typed.specs.Classes.{ClassEntry, Signature}
use Rattle.py_typed.specs.Fits.{is_same_type, is_number, fits, join, is_text}
use Rattle.py_typed.specs.Expressions as node
use Rattle.py_typed.specs.Expressions.{TypedExpr, TypedNode, typed, type_of}
use Rattle.py_typed.specs.Narrowing.{is_true_literal}
use Rattle.py_typed.specs.WellTypedExpr.{is_none_literal}
use Rattle.py_typed.proofs.FitLemmas.{one_type}
use Rattle.py_check_context.specs.declared.scope.Meaning.{Meaning}
use Rattle.py_check_context.specs.declared.scope.Meaning.TheVariants as meaning
use Rattle.py_check_context.specs.Context.{Context, VarSort, unset, untyped, has, VarSorts, var_at, Wanted, free, test, WantedRow, wanted_in, some_signature}
use Rattle.py_check_flow.specs.Closed.{is_true}
use Rattle.py_check_messages.specs.Seen.{Seen, Message, both, behind, rule}
use Rattle.py_check_coercions.specs.Several.{ruled_all}
use Rattle.py_check_coercions.specs.Values.{place_of, coerced, truth}
use Rattle.py_check_operators.specs.Facts.{facts, is_none_tree}
use Rattle.py_check_operators.specs.Names.{variable, named}
use Rattle.py_check_coercions.specs.Rows.{unfit}
use Rattle.py_check_operators.specs.Operators.{signed, negation, affirmation, inversion, arithmetic, is_concat, is_numeric}
use Rattle.py_check_operators.specs.Chains.{faults_of, chain}
use Rattle.py_check_operators.specs.Choices.{word_node, junction, operand, choice, choice_type}
use Rattle.py_check_displays.specs.Displays.{item_sort, items_row, list_of, expected_list, common, joined_list, inferred_list, list_display, parts_row, tuple_of, tuple_display, is_invalid_tuple, kept_row}
use Rattle.py_check_coercions.specs.Rows.{changed_row}
use Rattle.py_check_displays.specs.Dicts.{entry_sorts, key_wanted, value_wanted, unfit_entry, entry_fault, dict_of, common_entry, are_entry_types, joined_dict, dict_display}
use Rattle.py_check_displays.specs.Indexing.{Literal, literal, indexing, is_tuple, part_of, part_made, part_at, parts_of, keyed_by, item_of, item_at}
use Rattle.py_check_calls.specs.declared.callees.Single.{Single}
use Rattle.py_check_calls.specs.declared.callees.Single.TheVariants as one
use Rattle.py_check_calls.specs.Callees.{Callee, function, class, trait, super_init, print, input, range, single, exception, method, voiceless, uncalled, value, callee, has_key}
use Rattle.py_check_calls.specs.Builtins.{as_value, gives_value, unprintable, printed, the_only, single_takes, single_made, single_given, single_call, print_call, input_call}
use Rattle.py_check_calls.specs.Exceptions.{exception_made, exception_call}
use Rattle.py_check_calls.specs.Methods.{Had, has_attribute, has_method, has_append, has_pop, has_untyped, none_has_not, has_not, look_up, read, attribute, pop_call, append_given, append_call}
use Rattle.py_check_calls.specs.Calls.{arguments_row, positional, refused, takes, init_name, signed_call, had_call, method_call, called}
use Rattle.py_check_expressions.specs.Typing.{typing, items, entries, operands, arguments, part, count}
use Rattle.py_check_expressions_laws.proofs.Given.{Gives, gives_is, gives_silent, gives_fails, gives_any, gives_made, gives_behind, gives_rule, gives_ruled_all, gives_compare, gives_row, gives_after, gives_judged}
use Rattle.py_check_expressions_laws.proofs.Types.{clash}
use Rattle.py_check_expressions_laws.proofs.Telling.{done, ok_same, joined_made, junction_is}
use Rattle.py_check_expressions_laws.proofs.Nodes.{if_ok}
use Rattle.py_check_expressions_laws.proofs.Called.{gives_by}

-- a literal has its own type
pub record IsLiteral (t : TypedExpr) : Type 0 where
  pub flag : is_true_literal t ≡ true → type_of t ≡ sort.Bool
  pub none : is_none_literal t ≡ true → type_of t ≡ sort.Nothing

-- what is neither True nor None
pub record IsPlain (t : TypedExpr) : Type 0 where
  pub flag : is_true_literal t ≡ false
  pub none : is_none_literal t ≡ false

plain_literal : (t : TypedExpr) → IsPlain t → IsLiteral t
plain_literal t p = record { flag = λ h. clash (is_true_literal t) h p.flag; none = λ h. clash (is_none_literal t) h p.none }

-- ---- changed to a type of numbers

abbrev is_whole : Sort → Bool
is_whole sort.Int = true
is_whole sort.I64 = true
is_whole t = false

whole_not_bool : (s : Sort) → is_whole s ≡ true → s ≡ sort.Bool → ⊥
whole_not_bool s h e = let clash : is_whole s ≡ false = ap is_whole e in let bad : true ≡ false = sym h ∙ clash in cc

whole_not_none : (s : Sort) → is_whole s ≡ true → s ≡ sort.Nothing → ⊥
whole_not_none s h e = let clash : is_whole s ≡ false = ap is_whole e in let bad : true ≡ false = sym h ∙ clash in cc

by_cases : (b : Bool) → (b ≡ true → ⊥) → b ≡ false
by_cases true h = absurd (h refl)
by_cases false h = refl

plain_whole : (s : Sort) (e : TypedExpr) → is_whole s ≡ true → IsLiteral e → type_of e ≡ s → IsPlain e
plain_whole s e w h q = record {
  flag = by_cases (is_true_literal e) (λ p. whole_not_bool s w (sym q ∙ h.flag p));
  none = by_cases (is_none_literal e) (λ p. whole_not_none s w (sym q ∙ h.none p));
}

plain_coerced : (s : Sort) (e : TypedExpr) → is_whole s ≡ true → IsLiteral e → IsPlain (coerced s e)
plain_coerced s e w h = by (is_same_type (type_of e) s) refl
  where
    by : (b : Bool) → is_same_type (type_of e) s ≡ b → IsPlain (coerced s e)
    by true q = subst (λ (b : Bool). IsPlain (if b then e else typed (node.Coerce e) s (place_of e))) (sym q) (plain_whole s e w h (one_type (type_of e) s q))
    by false q = subst (λ (b : Bool). IsPlain (if b then e else typed (node.Coerce e) s (place_of e))) (sym q) (record { flag = refl; none = refl })

signed_whole : (t : Sort) → is_whole (signed t) ≡ true
signed_whole sort.I64 = refl
signed_whole _ = refl

-- ---- calls

module _ (classes : List ClassEntry) where
  value_plain : (w : Wanted) (f : List ℕ) (n : TypedNode) (t : Sort) (span : Span) (e : TypedExpr) → IsPlain (typed n t span) → as_value w f (typed n t span) ≡ Ok e → IsPlain e
  value_plain w f n t span e p h = let r = if_ok (gives_value w t) (typed n t span) e _ h in subst IsPlain r.1 p

  print_plain : (w : Wanted) (span : Span) (es : List TypedExpr) (e : TypedExpr) (o : Option (ℕ × Sort)) → printed classes w span es o ≡ Ok e → IsPlain e
  print_plain w span es e None h = value_plain w (codes "print") (node.Print (Rattle.py_typed.specs.Expressions.exprs_of es)) sort.Nothing span e (record { flag = refl; none = refl }) h
  print_plain w span es e (Some p) h = absurd (cc)

  input_plain : (span : Span) (es : List TypedExpr) (e : TypedExpr) → input_call span es ≡ Ok e → IsPlain e
  input_plain span [] e h = subst IsPlain (ok_same (typed node.Input sort.Str span) e h) (record { flag = refl; none = refl })
  input_plain span (x ∷ es) e h = absurd (cc)

  made_plain : (f : Single) (span : Span) (x : TypedExpr) → IsLiteral x → IsPlain (single_made f span x)
  made_plain one.Len span x h = record { flag = refl; none = refl }
  made_plain one.Str span x h = record { flag = refl; none = refl }
  made_plain one.Int span x h = plain_coerced sort.Int x refl h
  made_plain one.I64 span x h = plain_coerced sort.I64 x refl h

  single_plain : (f : Single) (span : Span) (o : Option TypedExpr) (e : TypedExpr) → ((x : TypedExpr) → o ≡ Some x → IsLiteral x) → single_given classes f span o ≡ Ok e → IsPlain e
  single_plain f span None e h g = absurd (cc)
  single_plain f span (Some x) e h g = let r = if_ok (single_takes f (type_of x)) (single_made f span x) e _ g in subst IsPlain r.1 (made_plain f span x (h x refl))

  exception_plain : (span : Span) (x : ExcClass) (es : List TypedExpr) (e : TypedExpr) → exception_call classes span x es ≡ Ok e → IsPlain e
  exception_plain span x [] e h = subst IsPlain (ok_same (exception_made span x None) e h) (record { flag = refl; none = refl })
  exception_plain span x (a ∷ []) e h = let r = if_ok (is_text (type_of a)) (exception_made span x (Some a)) e _ h in subst IsPlain r.1 (record { flag = refl; none = refl })
  exception_plain span x (a ∷ b ∷ es) e h = absurd (cc)

  append_plain : (w : Wanted) (span : Span) (a : TypedExpr) (t : Sort) (o : Option TypedExpr) (e : TypedExpr) → append_given classes w span a t o ≡ Ok e → IsPlain e
  append_plain w span a t None e h = absurd (cc)
  append_plain w span a t (Some x) e h = by (fits classes (type_of x) t) h
    where
      by : (b : Bool) → (if b then as_value w (codes "append") (typed (node.Append a (coerced t x)) sort.Nothing span) else Err (Rattle.py_check_messages.specs.Messages.wrong_argument classes 1 (codes "append") (type_of x) (Rattle.py_typed.specs.TypeTexts.type_text classes t))) ≡ Ok e → IsPlain e
      by true q = value_plain w (codes "append") (node.Append a (coerced t x)) sort.Nothing span e (record { flag = refl; none = refl }) q
      by false q = absurd (cc)

  pop_plain : (span : Span) (a : TypedExpr) (t : Sort) (es : List TypedExpr) (e : TypedExpr) → pop_call span a t es ≡ Ok e → IsPlain e
  pop_plain span a t [] e h = subst IsPlain (ok_same (typed (node.Pop a) t span) e h) (record { flag = refl; none = refl })
  pop_plain span a t (x ∷ es) e h = absurd (cc)

  pub record HasLiteral (e : TypedExpr) (Rest : Type 0) : Type 0 where
    pub here : IsLiteral e
    pub rest : Rest

  abbrev AllLiteral : List TypedExpr → Type 0
  AllLiteral [] = Unit {0}
  AllLiteral (e ∷ es) = HasLiteral e (AllLiteral es)

  only_literal : (es : List TypedExpr) (x : TypedExpr) → AllLiteral es → the_only es ≡ Some x → IsLiteral x
  only_literal [] x h e = absurd (cc)
  only_literal (y ∷ []) x h e = subst IsLiteral (same_Some y x e) h.here
  only_literal (y ∷ z ∷ es) x h e = absurd (cc)

  given_args : (span : Span) (keyed : Bool) (args : Option (List TypedExpr)) → ((es : List TypedExpr) → args ≡ Some es → AllLiteral es) → Gives (positional span keyed args) AllLiteral
  given_args span keyed None h = gives_silent AllLiteral
  given_args span keyed (Some es) h = gives_judged AllLiteral span (Rattle.py_check_calls.specs.Calls.no_keys keyed es) (λ fs q. by keyed fs q)
    where
      by : (b : Bool) (fs : List TypedExpr) → (if b then Err Rattle.py_check_messages.specs.Messages.keyword_argument else Ok es) ≡ Ok fs → AllLiteral fs
      by true fs q = absurd (cc)
      by false fs q = subst AllLiteral (ok_same es fs q) (h es refl)

  refused_never : (msg : Message) (es : List TypedExpr) (e : TypedExpr) → refused msg es ≡ Ok e → ⊥
  refused_never msg es e h = cc

  -- ---- operators and displays

  arithmetic_plain : (span : Span) (o : Rattle.py_syntax.specs.declared.expression.BinOp.BinOp) (p : TypedExpr × TypedExpr) (e : TypedExpr) → arithmetic classes span o p ≡ Ok e → IsPlain e
  arithmetic_plain span o p e h = by (is_concat o (type_of p.0) (type_of p.1)) h
    where
      by : (c : Bool)
          → (if c then done (typed (node.Concat p.0 p.1) sort.Str span)
          else (if is_numeric o (type_of p.0) (type_of p.1) then Ok (typed (node.Arith o p.0 p.1) (Rattle.py_typed.specs.Fits.number_join (type_of p.0) (type_of p.1)) span) else Err (Rattle.py_check_messages.specs.Messages.unsupported_operands classes (Rattle.py_check_operators.specs.Operators.op_text o) (type_of p.0) (type_of p.1)))) ≡ Ok e → IsPlain e
      by true g = subst IsPlain (ok_same (typed (node.Concat p.0 p.1) sort.Str span) e g) (record { flag = refl; none = refl })
      by false g = let r = if_ok (is_numeric o (type_of p.0) (type_of p.1)) (typed (node.Arith o p.0 p.1) (Rattle.py_typed.specs.Fits.number_join (type_of p.0) (type_of p.1)) span) e _ g in subst IsPlain r.1 (record { flag = refl; none = refl })

  word_plain : (conjoined : Bool) (a b : TypedExpr) (t : Sort) (span : Span) → IsPlain (typed (word_node conjoined a b) t span)
  word_plain true a b t span = record { flag = refl; none = refl }
  word_plain false a b t span = record { flag = refl; none = refl }

  junction_plain : (w : Wanted) (conjoined : Bool) (span : Span) (p : TypedExpr × TypedExpr) (e : TypedExpr) → junction classes w conjoined span p ≡ Ok e → IsPlain e
  junction_plain w conjoined span p e h = junction_is IsPlain classes w conjoined span p e (word_plain conjoined (truth p.0) (truth p.1) sort.Bool span) (λ t. word_plain conjoined (coerced t p.0) (coerced t p.1) t span) h

  choice_plain : (w : Wanted) (span : Span) (p : (TypedExpr × TypedExpr) × TypedExpr) (e : TypedExpr) → choice classes w span p ≡ Ok e → IsPlain e
  choice_plain w span p e h =
      let r = joined_made classes (codes "if") (λ a b. node.Cond a (truth p.0.1) b) span p.0.0 p.1 e (choice_type classes w (type_of p.0.0) (type_of p.1)) h in
      subst IsPlain r.2 (record { flag = refl; none = refl })

  unless_plain : (o : Option Message) (x e : TypedExpr) → IsPlain x → Rattle.py_check_coercions.specs.Several.unless o x ≡ Ok e → IsPlain e
  unless_plain None x e p h = subst IsPlain (ok_same x e h) p
  unless_plain (Some m) x e p h = absurd (cc)

  inferred_plain : (span : Span) (es : List TypedExpr) (e : TypedExpr) (o : Option Sort) → joined_list span es o ≡ Ok e → IsPlain e
  inferred_plain span es e None h = absurd (cc)
  inferred_plain span es e (Some t) h = by (Rattle.py_typed.specs.Fits.is_nothing t) h
    where
      by : (b : Bool) → (if b then Err Rattle.py_check_messages.specs.Messages.no_common_item else Ok (list_of span t es)) ≡ Ok e → IsPlain e
      by true q = absurd (cc)
      by false q = subst IsPlain (ok_same (list_of span t es) e q) (record { flag = refl; none = refl })

  list_display_plain : (o : Option Sort) (span : Span) (es : List TypedExpr) (e : TypedExpr) → list_display classes o span es ≡ Ok e → IsPlain e
  list_display_plain (Some t) span es e h = unless_plain (Rattle.std.specs.Option.option_map (Rattle.py_check_displays.specs.Displays.item_fault classes) (unfit classes (Rattle.py_check_context.specs.Context.each t) 0 es)) (list_of span t es) e (record { flag = refl; none = refl }) h
  list_display_plain None span [] e h = absurd (cc)
  list_display_plain None span (x ∷ es) e h = inferred_plain span (x ∷ es) e (common classes (Some (type_of x)) es) h

  joined_dict_plain : (span : Span) (es : List (TypedExpr × TypedExpr)) (e : TypedExpr) (o : Option (Sort × Sort)) → joined_dict span es o ≡ Ok e → IsPlain e
  joined_dict_plain span es e None h = absurd (cc)
  joined_dict_plain span es e (Some p) h = let r = if_ok (are_entry_types p) (dict_of span p es) e _ h in subst IsPlain r.1 (record { flag = refl; none = refl })

  dict_display_plain : (o : Option (Sort × Sort)) (span : Span) (es : List (TypedExpr × TypedExpr)) (e : TypedExpr) → dict_display classes o span es ≡ Ok e → IsPlain e
  dict_display_plain (Some p) span es e h = unless_plain (Rattle.std.specs.Option.option_map (entry_fault classes p) (unfit_entry classes p 0 es)) (dict_of span p es) e (record { flag = refl; none = refl }) h
  dict_display_plain None span [] e h = absurd (cc)
  dict_display_plain None span (x ∷ es) e h = joined_dict_plain span (x ∷ es) e (common_entry classes x es) h

  tuple_plain : (row : WantedRow) (span : Span) (es : List TypedExpr) (e : TypedExpr) → tuple_display classes row span es ≡ Ok e → IsPlain e
  tuple_plain row span es e h = by (is_invalid_tuple row es) h
    where
      by : (b : Bool) → (if b then Err Rattle.py_check_messages.specs.Messages.invalid_tuple else Ok (tuple_of span (changed_row (kept_row classes row es) 0 es))) ≡ Ok e → IsPlain e
      by true q = absurd (cc)
      by false q = subst IsPlain (ok_same (tuple_of span (changed_row (kept_row classes row es) 0 es)) e q) (record { flag = refl; none = refl })

  part_plain : (span : Span) (a : TypedExpr) (o : Option (ℕ × Sort)) (e : TypedExpr) → part_made span a o ≡ Ok e → IsPlain e
  part_plain span a None e h = absurd (cc)
  part_plain span a (Some p) e h = subst IsPlain (ok_same (typed (node.TupleAt a p.0) p.1 span) e h) (record { flag = refl; none = refl })

  item_plain : (span : Span) (a i : TypedExpr) (o : Option (Sort × Sort)) (e : TypedExpr) → item_at classes span a i o ≡ Ok e → IsPlain e
  item_plain span a i None e h = absurd (cc)
  item_plain span a i (Some p) e h = let r = if_ok (fits classes (type_of i) p.0) (typed (node.At a (coerced p.0 i)) p.1 span) e _ h in subst IsPlain r.1 (record { flag = refl; none = refl })

  index_plain : (span : Span) (l : Option Literal) (a i e : TypedExpr) → indexing classes span l (a, i) ≡ Ok e → IsPlain e
  index_plain span l a i e h = by (is_tuple (type_of a)) h
    where
      by : (b : Bool) → (if b then part_of span l a else item_of classes span a i) ≡ Ok e → IsPlain e
      by true q = part_plain span a (part_at l (parts_of (type_of a))) e q
      by false q = item_plain span a i (keyed_by (type_of a)) e q

module _ (C : Context) where
  read_plain : (span : Span) (e : TypedExpr) (a : List ℕ) (h : Had) → Gives (read C.classes span e a h) IsPlain
  read_plain span e a (has_attribute t) = gives_is IsPlain _ (record { flag = refl; none = refl })
  read_plain span e a (has_method f) = gives_fails IsPlain span _
  read_plain span e a (has_append t) = gives_fails IsPlain span _
  read_plain span e a (has_pop t) = gives_fails IsPlain span _
  read_plain span e a has_untyped = gives_silent IsPlain
  read_plain span e a none_has_not = gives_fails IsPlain span _
  read_plain span e a has_not = gives_fails IsPlain span _

  abbrev Given : Option (List TypedExpr) → Type 0
  Given args = (es : List TypedExpr) → args ≡ Some es → AllLiteral C.classes es

  refused_plain : (span : Span) (keyed : Bool) (m : Message) (args : Option (List TypedExpr)) → Given args → Gives (rule span (refused m) (positional span keyed args)) IsPlain
  refused_plain span keyed m args h = gives_rule (AllLiteral C.classes) IsPlain span (refused m) (positional span keyed args) (given_args C.classes span keyed args h) (λ es q e g. absurd (refused_never C.classes m es e g))

  signed_plain : (w : Wanted) (span : Span) (keyed : Bool) (f : List ℕ) (a : TypedExpr) (s : Option Signature) (args : Option (List TypedExpr)) → Gives (signed_call C w span keyed f a s args) IsPlain
  signed_plain w span keyed f a None args = gives_silent IsPlain
  signed_plain w span keyed f a (Some s) args = gives_by IsPlain C w span keyed f s (node.Method a f) args (λ es. record { flag = refl; none = refl })

  had_plain : (w : Wanted) (span : Span) (keyed : Bool) (f : List ℕ) (a : TypedExpr) (o : Had) (args : Option (List TypedExpr)) → Given args → Gives (had_call C w span keyed f a o args) IsPlain
  had_plain w span keyed f a (has_method i) args h = signed_plain w span keyed f a (some_signature (slice_get C.signatures i)) args
  had_plain w span keyed f a (has_append t) args h =
      gives_rule (AllLiteral C.classes) IsPlain span (append_call C.classes w span a t) (positional span keyed args) (given_args C.classes span keyed args h) (λ es q e g. append_plain C.classes w span a t (the_only es) e g)
  had_plain w span keyed f a (has_pop t) args h = gives_rule (AllLiteral C.classes) IsPlain span (pop_call span a t) (positional span keyed args) (given_args C.classes span keyed args h) (λ es q e g. pop_plain C.classes span a t es e g)
  had_plain w span keyed f a (has_attribute t) args h = refused_plain span keyed _ args h
  had_plain w span keyed f a has_untyped args h = gives_silent IsPlain
  had_plain w span keyed f a none_has_not args h = refused_plain span keyed _ args h
  had_plain w span keyed f a has_not args h = refused_plain span keyed _ args h

  method_plain : (w : Wanted) (span : Span) (keyed : Bool) (f : List ℕ) (a : TypedExpr) (args : Option (List TypedExpr)) → Given args → Gives (method_call C w span keyed f a args) IsPlain
  method_plain w span keyed f a args h = by (bytes_eq f (codes "__init__"))
    where
      by : (b : Bool) → Gives (if b then rule span (refused Rattle.py_check_messages.specs.Messages.not_callable) (positional span keyed args) else had_call C w span keyed f a (look_up C.member (type_of a) f) args) IsPlain
      by true = refused_plain span keyed _ args h
      by false = had_plain w span keyed f a (look_up C.member (type_of a) f) args h

  called_plain : (w : Wanted) (span : Span) (keyed : Bool) (f : Callee) (p : Option TypedExpr) (args : Option (List TypedExpr)) → Given args → Gives (called C w span keyed f p args) IsPlain
  called_plain w span keyed (function x i s) p args h = gives_by IsPlain C w span keyed x s (node.Call i) args (λ es. record { flag = refl; none = refl })
  called_plain w span keyed (class x n params) p args h = gives_by IsPlain C w span keyed x (takes params (sort.Instance n)) (node.Make n) args (λ es. record { flag = refl; none = refl })
  called_plain w span keyed (trait x params) p args h = refused_plain span keyed _ args h
  called_plain w span keyed (super_init next params) p args h = gives_by IsPlain C w span keyed init_name (takes params sort.Nothing) (node.SuperInit next) args (λ es. record { flag = refl; none = refl })
  called_plain w span keyed print p args h =
      gives_rule (AllLiteral C.classes) IsPlain span (print_call C.classes w span) (positional span keyed args) (given_args C.classes span keyed args h) (λ es q e g. print_plain C.classes w span es e (unprintable 1 es) g)
  called_plain w span keyed input p args h = gives_rule (AllLiteral C.classes) IsPlain span (input_call span) (positional span keyed args) (given_args C.classes span keyed args h) (λ es q e g. input_plain C.classes span es e g)
  called_plain w span keyed range p args h = refused_plain span keyed _ args h
  called_plain w span keyed (single f) p args h =
      gives_rule (AllLiteral C.classes) IsPlain span (single_call C.classes f span) (positional span keyed args) (given_args C.classes span keyed args h) (λ es q e g. single_plain C.classes f span (the_only es) e (λ x r. only_literal C.classes es x q r) g)
  called_plain w span keyed (exception x) p args h =
      gives_rule (AllLiteral C.classes) IsPlain span (exception_call C.classes span x) (positional span keyed args) (given_args C.classes span keyed args h) (λ es q e g. exception_plain C.classes span x es e g)
  called_plain w span keyed (method f) None args h = gives_silent IsPlain
  called_plain w span keyed (method f) (Some a) args h = method_plain w span keyed f a args h
  called_plain w span keyed voiceless p args h = gives_silent IsPlain
  called_plain w span keyed uncalled p args h = refused_plain span keyed _ args h
  called_plain w span keyed value None args h = gives_silent IsPlain
  called_plain w span keyed value (Some a) args h = refused_plain span keyed _ args h

-- ---- expressions

-- a typed form of an expression is True or None exactly where the expression is
pub record IsHead (e : ExprTree) (t : TypedExpr) : Type 0 where
  pub literal : IsLiteral t
  pub flag : is_true_literal t ≡ is_true e
  pub none : is_none_literal t ≡ is_none_tree e

plain_head : (e : ExprTree) (t : TypedExpr) → is_true e ≡ false → is_none_tree e ≡ false → IsPlain t → IsHead e t
plain_head e t f n p = record { literal = plain_literal t p; flag = p.flag ∙ sym f; none = p.none ∙ sym n }

module _ (C : Context) (V : VarSorts) where
  variable_plain : (span : Span) (x : List ℕ) (n : TypedNode) (known : Bool) (v : VarSort) → ((t : Sort) → IsPlain (typed n t span)) → Gives (variable span x n known v) IsPlain
  variable_plain span x n known unset h = gives_fails IsPlain span _
  variable_plain span x n known untyped h = gives_silent IsPlain
  variable_plain span x n known (has t) h = gives_is IsPlain _ (h _)

  named_plain : (known : List ℕ) (span : Span) (x : List ℕ) (m : Meaning) → Gives (named V known span x m) IsPlain
  named_plain known span x (meaning.Local i) = variable_plain span x (node.Local i) (Rattle.py_typed.specs.Narrowing.is_in known i) (var_at V.locals i) (λ t. record { flag = refl; none = refl })
  named_plain known span x (meaning.Global i) = variable_plain span x (node.Global i) false (var_at V.globals i) (λ t. record { flag = refl; none = refl })
  named_plain known span x meaning.ModuleName = gives_is IsPlain _ (record { flag = refl; none = refl })
  named_plain known span x meaning.Untyped = gives_silent IsPlain
  named_plain known span x meaning.Unknown = gives_silent IsPlain
  named_plain known span x _ = gives_fails IsPlain span _

  plain_all : (e : ExprTree) (s : Seen TypedExpr) → is_true e ≡ false → is_none_tree e ≡ false → Gives s IsPlain → Gives s (IsHead e)
  plain_all e s f n g = record { each = λ t q. plain_head e t f n (g.each t q) }

  ruled_plain : {A : Type 0} (span : Span) (f : A → Result TypedExpr Message) (s : Seen A) → ((a : A) (e : TypedExpr) → f a ≡ Ok e → IsPlain e) → Gives (rule span f s) IsPlain
  ruled_plain {A = A} span f s next = gives_rule (λ (a : A). Unit {0}) IsPlain span f s (gives_any (λ (a : A). Unit {0}) s (λ a. tt)) (λ a u e q. next a e q)

  mutual
    pub heads : (w : Wanted) (known : List ℕ) (e : ExprTree) → Gives (typing C V w known e) (IsHead e)
    heads w known (at tree.True span) = gives_is (IsHead (at tree.True span)) _ (record { literal = record { flag = λ h. refl; none = λ h. absurd (cc) }; flag = refl; none = refl })
    heads w known (at tree.False span) = gives_is (IsHead (at tree.False span)) _ (plain_head (at tree.False span) _ refl refl (record { flag = refl; none = refl }))
    heads w known (at tree.Nothing span) = gives_is (IsHead (at tree.Nothing span)) _ (record { literal = record { flag = λ h. absurd (cc); none = λ h. refl }; flag = refl; none = refl })
    heads w known (at (tree.Int n) span) = gives_is (IsHead (at (tree.Int n) span)) _ (plain_head (at (tree.Int n) span) _ refl refl (record { flag = refl; none = refl }))
    heads w known (at (tree.Str n) span) = gives_is (IsHead (at (tree.Str n) span)) _ (plain_head (at (tree.Str n) span) _ refl refl (record { flag = refl; none = refl }))
    heads w known (at (tree.Name x) span) = plain_all (at (tree.Name x) span) (named V known span x (C.meaning x)) refl refl (named_plain known span x (C.meaning x))
    heads w known (at (tree.Neg a) span) =
        plain_all (at (tree.Neg a) span) _ refl refl (ruled_plain span (negation C.classes span) (typing C V free known a) (λ t e q.
        let r = if_ok (is_number (type_of t)) (typed (node.Neg t) (signed (type_of t)) span) e _ q in subst IsPlain r.1 (record { flag = refl; none = refl })))
    heads w known (at (tree.Plus a) span) =
        plain_all (at (tree.Plus a) span) _ refl refl (gives_rule (IsHead a) IsPlain span (affirmation C.classes) (typing C V free known a) (heads free known a) (λ t h e q.
        let r = if_ok (is_number (type_of t)) (coerced (signed (type_of t)) t) e _ q in subst IsPlain r.1 (plain_coerced (signed (type_of t)) t (signed_whole (type_of t)) h.literal)))
    heads w known (at (tree.Not a) span) =
        plain_all (at (tree.Not a) span) _ refl refl (gives_made (λ (t : TypedExpr). Unit {0}) IsPlain (inversion span) (typing C V test known a) (gives_any (λ (t : TypedExpr). Unit {0}) _ (λ t. tt)) (λ t u. record { flag = refl; none = refl }))
    heads w known (at (tree.Bin o a b) span) = plain_all (at (tree.Bin o a b) span) _ refl refl (ruled_plain span (arithmetic C.classes span o) (both (typing C V free known a) (typing C V free known b)) (λ p e q. arithmetic_plain C.classes span o p e q))
    heads w known (at (tree.Compare a cs) span) =
        plain_all (at (tree.Compare a cs) span) _ refl refl (gives_compare C V w known span a cs IsPlain (gives_ruled_all (λ (p : TypedExpr × List (Rattle.py_syntax.specs.declared.expression.CmpOp.CmpOp × TypedExpr)). Unit {0}) IsPlain span (faults_of C.classes) (chain span) (both (typing C V free known a) (operands C V known cs))
        (gives_any (λ (p : TypedExpr × List (Rattle.py_syntax.specs.declared.expression.CmpOp.CmpOp × TypedExpr)). Unit {0}) _ (λ p. tt)) (λ p u q. record { flag = refl; none = refl })))
    heads w known (at (tree.And a b) span) =
        plain_all (at (tree.And a b) span) _ refl refl (ruled_plain span (junction C.classes w true span) (both (typing C V (operand w) known a) (typing C V (operand w) (facts C true a ++ known) b)) (λ p e q. junction_plain C.classes w true span p e q))
    heads w known (at (tree.Or a b) span) =
        plain_all (at (tree.Or a b) span) _ refl refl (ruled_plain span (junction C.classes w false span) (both (typing C V (operand w) known a) (typing C V (operand w) (facts C false a ++ known) b)) (λ p e q. junction_plain C.classes w false span p e q))
    heads w known (at (tree.Cond a t b) span) =
        plain_all (at (tree.Cond a t b) span) _ refl refl (ruled_plain span (choice C.classes w span) (both (both (typing C V free (facts C true t ++ known) a) (typing C V test known t)) (typing C V free (facts C false t ++ known) b)) (λ p e q. choice_plain C.classes w span p e q))
    heads w known (at (tree.ListOf es) span) =
        plain_all (at (tree.ListOf es) span) _ refl refl (ruled_plain span (list_display C.classes (item_sort w) span) (items C V (items_row (item_sort w)) 0 known es) (λ l e q. list_display_plain C.classes (item_sort w) span l e q))
    heads w known (at (tree.TupleOf es) span) =
        plain_all (at (tree.TupleOf es) span) _ refl refl (ruled_plain span (tuple_display C.classes (parts_row w (count es)) span) (items C V (parts_row w (count es)) 0 known es) (λ l e q. tuple_plain C.classes (parts_row w (count es)) span l e q))
    heads w known (at (tree.Index a i) span) =
        plain_all (at (tree.Index a i) span) _ refl refl (ruled_plain span (indexing C.classes span (literal i)) (both (typing C V free known a) (typing C V free known i)) (λ p e q. index_plain C.classes span (literal i) p.0 p.1 e q))
    heads w known (at (tree.Call f args) span) =
        plain_all (at (tree.Call f args) span) _ refl refl (gives_after IsPlain (part C V known f) (λ p. behind (arguments C V (arguments_row C (callee C f) p) 0 known args) (called C w span (has_key args) (callee C f) p)) (λ o eo.
        gives_after IsPlain (arguments C V (arguments_row C (callee C f) o) 0 known args) (called C w span (has_key args) (callee C f) o) (λ es ees.
        called_plain C w span (has_key args) (callee C f) o es (λ l q. (literal_args (arguments_row C (callee C f) o) 0 known args).each l (ees ∙ q)))))
    heads w known (at (tree.Attr a x) span) =
        plain_all (at (tree.Attr a x) span) _ refl refl (gives_behind (λ (t : TypedExpr). Unit {0}) IsPlain (typing C V free known a) (attribute C span x) (gives_any (λ (t : TypedExpr). Unit {0}) _ (λ t. tt)) (gives_silent IsPlain) (λ t u. read_plain C span t x (look_up C.member (type_of t) x)))
    heads w known (at (tree.DictOf es) span) =
        plain_all (at (tree.DictOf es) span) _ refl refl (ruled_plain span (dict_display C.classes (entry_sorts w) span) (entries C V (key_wanted (entry_sorts w)) (value_wanted (entry_sorts w)) known es) (λ l e q. dict_display_plain C.classes (entry_sorts w) span l e q))

    literal_args : (row : WantedRow) (i : ℕ) (known : List ℕ) (args : Arguments) → Gives (arguments C V row i known args) (AllLiteral C.classes)
    literal_args row i known no_arguments = gives_is (AllLiteral C.classes) [] tt
    literal_args row i known (argument_then e more) =
        gives_row (IsHead e) (AllLiteral C.classes) (AllLiteral C.classes) (typing C V (wanted_in row i) known e) (arguments C V row (suc i) known more) (heads (wanted_in row i) known e) (literal_args row (suc i) known more) (λ t l h r. record { here = h.literal; rest = r })
    literal_args row i known (keyed_then k e more) =
        gives_row (IsHead e) (AllLiteral C.classes) (AllLiteral C.classes) (typing C V (wanted_in row i) known e) (arguments C V row (suc i) known more) (heads (wanted_in row i) known e) (literal_args row (suc i) known more) (λ t l h r. record { here = h.literal; rest = r })

-- a test is the literal True exactly where it is written so
pub truth_literal : (e : ExprTree) (t : TypedExpr) → IsHead e t → is_true_literal (truth t) ≡ is_true e
truth_literal e t h = by (is_same_type (type_of t) sort.Bool) refl
  where
    no_flag : is_same_type (type_of t) sort.Bool ≡ false → is_true_literal t ≡ true → ⊥
    no_flag q p = let r : true ≡ false = sym (ap (λ s. is_same_type s sort.Bool) (h.literal.flag p)) ∙ q in cc

    by : (b : Bool) → is_same_type (type_of t) sort.Bool ≡ b → is_true_literal (truth t) ≡ is_true e
    by true q = ap (λ (b : Bool). is_true_literal (if b then t else typed (node.Truth t) sort.Bool (place_of t))) q ∙ h.flag
    by false q = ap (λ (b : Bool). is_true_literal (if b then t else typed (node.Truth t) sort.Bool (place_of t))) q ∙ sym (by_cases (is_true_literal t) (no_flag q)) ∙ h.flag
