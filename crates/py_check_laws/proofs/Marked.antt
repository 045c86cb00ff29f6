-- The type of an annotation is one that a variable may have, where no name means a class.
use Rattle.std.proofs.Common.{◌≡◌, ℕ, Bool, true, false, ◌&&◌, ◌||◌, List, [], ◌∷◌, length, nat_lt, Option, Some, None, refl, ap, sym, ◌∙◌, subst, if◌then◌else◌}
use Rattle.std.proofs.lemmas.Bool.{and_from, or_right}
use Rattle.std.proofs.lemmas.Option.{same_Some}
use Rattle.std.specs.List.{list_all}
use Rattle.std.specs.Option.{ok_or}
use Rattle.py_syntax.specs.declared.token.Span.{Span}
use Rattle.py_syntax.specs.Expressions as e
use Rattle.py_syntax.specs.Expressions.{ExprTree, ExprNode, ExprTrees}
use Rattle.py_lexer_words.specs.Words.{name_in_quotes}
use Rattle.py_typed.specs.Sorts as sort
use Rattle.py_typed.specs.Sorts.{Sort, sorts_of, listed_sorts}
use Rattle.py_typed.specs.Fits.{optional, is_nothing}
use Rattle.py_typed.specs.WellTypedExpr.{is_key_type, is_value_type, are_value_types, is_result_type}
use Rattle.py_typed.proofs.FitLemmas.{and_left, and_right}
use Rattle.py_check_context.specs.declared.scope.Meaning.{Meaning}
use Rattle.py_check_context.specs.declared.scope.Meaning.TheVariants as meaning
use Rattle.py_check_context.specs.declared.scope.Imported.TheVariants as imported
use Rattle.py_check_context.specs.declared.scope.Builtin.TheVariants as builtin
use Rattle.py_check_messages.specs.Seen.{Seen, Message, is, silent, made}
use Rattle.py_check_messages.specs.Rows.{row_then}
use Rattle.py_check_messages.specs.Messages as message
use Rattle.py_check_annotations.specs.declared.names.Former.{Former}
use Rattle.py_check_annotations.specs.declared.names.Former.TheVariants as former
use Rattle.py_check_annotations.specs.Names.{plain_type, former_of, is_unknown, is_untyped, valid, named, applied, dict_of, tuple_of}
use Rattle.py_check_annotations.specs.Annotations.{annotation, items, row, no_type, quoted, formed, application, form_or, head_named, name_of, is_tuple, is_or_none, return_annotation, is_none}
use Rattle.py_check_laws.proofs.Given.{done, ok_same, made_given, rule_given, row_given}

module _ (classes : ℕ) where
  abbrev IsValue : Sort → Type 0
  IsValue t = is_value_type classes t ≡ true

  same_value : (s t : Sort) → Some s ≡ Some t → IsValue s → IsValue t
  same_value s t q h = subst IsValue (same_Some s t q) h

  plain_valued : (m : Meaning) → ((i : ℕ) → m ≡ meaning.Class i → nat_lt i classes ≡ true) → (t : Sort) → plain_type m ≡ Some t → IsValue t
  plain_valued (meaning.Builtin builtin.Int) h t q = same_value sort.Int t q refl
  plain_valued (meaning.Builtin builtin.Bool) h t q = same_value sort.Bool t q refl
  plain_valued (meaning.Builtin builtin.Str) h t q = same_value sort.Str t q refl
  plain_valued (meaning.Builtin _) h t q = absurd (cc)
  plain_valued (meaning.Import imported.I64) h t q = same_value sort.I64 t q refl
  plain_valued (meaning.Import _) h t q = absurd (cc)
  plain_valued (meaning.Class i) h t q = same_value (sort.Instance i) t q (h i refl)
  plain_valued (meaning.Exception c) h t q = same_value (sort.Exc c) t q refl
  plain_valued _ h t q = absurd (cc)

  named_valued : (m : Meaning) → ((i : ℕ) → m ≡ meaning.Class i → nat_lt i classes ≡ true) → (span : Span) (t : Sort) → (named m span).got ≡ Some t → IsValue t
  named_valued m h span t q = by (is_unknown m || is_untyped m) (plain_type m) refl q
    where
      by : (b : Bool) (o : Option Sort) → plain_type m ≡ o → (if b then silent else valid span o).got ≡ Some t → IsValue t
      by true o p r = absurd (cc)
      by false None p r = absurd (cc)
      by false (Some s) p r = plain_valued m h t (p ∙ r)

  optional_valued : (t : Sort) → IsValue t → IsValue (optional t)
  optional_valued (sort.Optional u) h = h
  optional_valued _ h = h

  listed_again : (ts : List Sort) → listed_sorts (sorts_of ts) ≡ ts
  listed_again [] = refl
  listed_again (t ∷ ts) = ap (λ l. t ∷ l) (listed_again ts)

  all_valued : (ts : List Sort) → list_all (is_value_type classes) ts ≡ true → are_value_types classes (sorts_of ts) ≡ true
  all_valued [] h = refl
  all_valued (t ∷ ts) h = and_from (is_value_type classes t) (are_value_types classes (sorts_of ts)) (and_left (is_value_type classes t) (list_all (is_value_type classes) ts) h) (all_valued ts (and_right (is_value_type classes t) (list_all (is_value_type classes) ts) h))

  first_valued : (t : Sort) (ts : List Sort) → list_all (is_value_type classes) (t ∷ ts) ≡ true → IsValue t
  first_valued t ts h = and_left (is_value_type classes t) (list_all (is_value_type classes) ts) h

  dict_valued : (k s t : Sort) → IsValue s → dict_of k s ≡ Some t → IsValue t
  dict_valued k s t h q = by (is_key_type k) refl q
    where
      by : (b : Bool) → is_key_type k ≡ b → (if b then Some (sort.DictOf k s) else None) ≡ Some t → IsValue t
      by true p r = same_value (sort.DictOf k s) t r (and_from (is_key_type k) (is_value_type classes s) p h)
      by false p r = absurd (cc)

  tuple_valued : (ts : List Sort) (t : Sort) → list_all (is_value_type classes) ts ≡ true → tuple_of ts ≡ Some t → IsValue t
  tuple_valued ts t h q = by (nat_lt 0 (length ts) && nat_lt (length ts) 17) refl q
    where
      three : (a b c : Bool) → (a && b) ≡ true → c ≡ true → (a && b && c) ≡ true
      three a b c p q = cc

      by : (b : Bool) → (nat_lt 0 (length ts) && nat_lt (length ts) 17) ≡ b → (if b then Some (sort.TupleOf (sorts_of ts)) else None) ≡ Some t → IsValue t
      by true p r =
          same_value (sort.TupleOf (sorts_of ts)) t r
          (three (nat_lt 0 (length (listed_sorts (sorts_of ts)))) (nat_lt (length (listed_sorts (sorts_of ts))) 17) (are_value_types classes (sorts_of ts)) (ap (λ l. nat_lt 0 (length l) && nat_lt (length l) 17) (listed_again ts) ∙ p) (all_valued ts h))
      by false p r = absurd (cc)

  applied_valued : (f : Former) (ts : List Sort) → list_all (is_value_type classes) ts ≡ true → (t : Sort) → applied f ts ≡ Some t → IsValue t
  applied_valued former.List [] h t q = absurd (cc)
  applied_valued former.List (s ∷ []) h t q = same_value (sort.ListOf s) t q (first_valued s [] h)
  applied_valued former.List (s ∷ r ∷ ts) h t q = absurd (cc)
  applied_valued former.Optional [] h t q = absurd (cc)
  applied_valued former.Optional (s ∷ []) h t q = same_value (optional s) t q (optional_valued s (first_valued s [] h))
  applied_valued former.Optional (s ∷ r ∷ ts) h t q = absurd (cc)
  applied_valued former.Dict [] h t q = absurd (cc)
  applied_valued former.Dict (s ∷ []) h t q = absurd (cc)
  applied_valued former.Dict (s ∷ r ∷ []) h t q = dict_valued s r t (first_valued r [] (and_right (is_value_type classes s) (list_all (is_value_type classes) (r ∷ [])) h)) q
  applied_valued former.Dict (s ∷ r ∷ u ∷ ts) h t q = absurd (cc)
  applied_valued former.Tuple ts h t q = tuple_valued ts t h q

  found_by : (o : Option Sort) (m : Message) (t : Sort) → ok_or o m ≡ done t → o ≡ Some t
  found_by None m t q = absurd (cc)
  found_by (Some s) m t q = ap Some (ok_same s t q)

  module _ (meanings : List ℕ → Meaning) (placed : (x : List ℕ) (i : ℕ) → meanings x ≡ meaning.Class i → nat_lt i classes ≡ true) where
    quoted_valued : (o : Option (List ℕ)) (span : Span) (t : Sort) → (quoted meanings o span).got ≡ Some t → IsValue t
    quoted_valued None span t q = absurd (cc)
    quoted_valued (Some x) span t q = named_valued (meanings x) (placed x) span t q

    formed_valued : (o : Option Former) (b : Bool) (whole : ExprTree) (span : Span) (parts : Seen (List Sort)) → ((ts : List Sort) → parts.got ≡ Some ts → list_all (is_value_type classes) ts ≡ true) → (t : Sort) → (formed meanings (form_or o b) whole span parts).got ≡ Some t → IsValue t
    formed_valued (Some f) b whole span parts h t q =
        let r = rule_given span (application f) parts t q in
        applied_valued f r.0 (h r.0 r.1) t (found_by (applied f r.0) message.invalid_type t r.2)
    formed_valued None true whole span parts h t q = absurd (cc)
    formed_valued None false whole span parts h t q = absurd (cc)

    headed_valued : (o : Option (List ℕ)) (whole : ExprTree) (span : Span) (parts : Seen (List Sort)) → ((ts : List Sort) → parts.got ≡ Some ts → list_all (is_value_type classes) ts ≡ true) → (t : Sort) → (formed meanings (head_named meanings o) whole span parts).got ≡ Some t → IsValue t
    headed_valued None whole span parts h t q = absurd (cc)
    headed_valued (Some x) whole span parts h t q = formed_valued (former_of (meanings x)) (is_untyped (meanings x)) whole span parts h t q

    made_valued : (a : ExprTree) → ((t : Sort) → (annotation meanings a).got ≡ Some t → IsValue t) → (t : Sort) → (made optional (annotation meanings a)).got ≡ Some t → IsValue t
    made_valued a h t q = let r = made_given optional (annotation meanings a) t q in subst IsValue r.2 (optional_valued r.0 (h r.0 r.1))

    bar_valued : (b c : Bool) (x y z : Seen Sort) (t : Sort) → (x.got ≡ Some t → IsValue t) → (y.got ≡ Some t → IsValue t) → z.got ≡ None → (if b then x else (if c then y else z)).got ≡ Some t → IsValue t
    bar_valued true c x y z t h g n q = h q
    bar_valued false true x y z t h g n q = g q
    bar_valued false false x y z t h g n q = let bad : Some t ≡ None = sym q ∙ n in absurd (cc)

    nothing_valued : (ts : List Sort) → Some [] ≡ Some ts → list_all (is_value_type classes) ts ≡ true
    nothing_valued ts q = subst (λ l. list_all (is_value_type classes) l ≡ true) (same_Some [] ts q) refl

    row_valued : (a : ExprTree) (rest : Seen (List Sort)) → ((t : Sort) → (annotation meanings a).got ≡ Some t → IsValue t) → ((ts : List Sort) → rest.got ≡ Some ts → list_all (is_value_type classes) ts ≡ true) → (ts : List Sort) → (row_then (annotation meanings a) rest).got ≡ Some ts → list_all (is_value_type classes) ts ≡ true
    row_valued a rest h g ts q =
        let r = row_given (annotation meanings a) rest ts q in
        subst (λ l. list_all (is_value_type classes) l ≡ true) r.4 (and_from (is_value_type classes r.0) (list_all (is_value_type classes) r.1) (h r.0 r.2) (g r.1 r.3))

    parts_valued : (b : Bool) (x y : Seen (List Sort)) → ((ts : List Sort) → x.got ≡ Some ts → list_all (is_value_type classes) ts ≡ true) → ((ts : List Sort) → y.got ≡ Some ts → list_all (is_value_type classes) ts ≡ true) → (ts : List Sort) → (if b then x else y).got ≡ Some ts → list_all (is_value_type classes) ts ≡ true
    parts_valued true x y h g ts q = h ts q
    parts_valued false x y h g ts q = g ts q

    mutual
      -- THE TYPE of an annotation
      pub mark_valued : (mark : ExprTree) (t : Sort) → (annotation meanings mark).got ≡ Some t → IsValue t
      mark_valued (e.at node span) t q = node_valued node span t q

      node_valued : (node : ExprNode) (span : Span) (t : Sort) → (annotation meanings (e.at node span)).got ≡ Some t → IsValue t
      node_valued (e.Name x) span t q = named_valued (meanings x) (placed x) span t q
      node_valued (e.Str text) span t q = quoted_valued (name_in_quotes text) span t q
      node_valued (e.Bin op a b) span t q =
          bar_valued (is_or_none op b) (is_or_none op a) (made optional (annotation meanings a)) (made optional (annotation meanings b)) (no_type meanings (e.at (e.Bin op a b) span) span) t (made_valued a (mark_valued a) t) (made_valued b (mark_valued b) t) refl q
      node_valued (e.Index head inside) span t q =
          headed_valued (name_of head) (e.at (e.Index head inside) span) span (if is_tuple inside then items meanings inside else row_then (annotation meanings inside) (is []))
          (parts_valued (is_tuple inside) (items meanings inside) (row_then (annotation meanings inside) (is [])) (items_valued inside) (row_valued inside (is []) (mark_valued inside) nothing_valued)) t q
      node_valued _ span t q = absurd (cc)

      items_valued : (inside : ExprTree) (ts : List Sort) → (items meanings inside).got ≡ Some ts → list_all (is_value_type classes) ts ≡ true
      items_valued (e.at (e.TupleOf all) span) ts q = types_valued all ts q
      items_valued (e.at _ span) ts q = nothing_valued ts q

      types_valued : (all : ExprTrees) (ts : List Sort) → (row meanings all).got ≡ Some ts → list_all (is_value_type classes) ts ≡ true
      types_valued e.no_exprs ts q = nothing_valued ts q
      types_valued (e.expr_then a more) ts q = row_valued a (row meanings more) (mark_valued a) (types_valued more) ts q

    -- of what is returned
    pub result_valued : (mark : ExprTree) (t : Sort) → (return_annotation meanings mark).got ≡ Some t → is_result_type classes t ≡ true
    result_valued mark t q = by (is_none mark) q
      where
        by : (b : Bool) → (if b then is sort.Nothing else annotation meanings mark).got ≡ Some t → is_result_type classes t ≡ true
        by true r = subst (λ z. is_result_type classes z ≡ true) (same_Some sort.Nothing t r) refl
        by false r = or_right (is_nothing t) (is_value_type classes t) (mark_valued mark t r)
