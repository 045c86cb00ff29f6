-- An annotation that has no type has said why, where no name in it is without a type and each is known.
use Rattle.std.proofs.Common.{◌≡◌, ℕ, Bool, true, false, List, [], Option, Some, None, sym, subst, if◌then◌else◌}
use Rattle.py_syntax.specs.declared.token.Span.{Span}
use Rattle.py_syntax.specs.Expressions as e
use Rattle.py_syntax.specs.Expressions.{ExprTree, ExprNode, ExprTrees}
use Rattle.py_lexer_words.specs.Words.{name_in_quotes}
use Rattle.py_typed.specs.Sorts.{Sort}
use Rattle.py_typed.specs.Fits.{optional}
use Rattle.py_binder.specs.declared.sight.Manner.TheVariants.{Annotation}
use Rattle.py_binder.specs.Sights.{maybe_read, reads, node_reads, exprs_reads}
use Rattle.py_check_context.specs.declared.scope.Meaning.{Meaning}
use Rattle.py_check_messages.specs.Seen.{Seen, is, silent, made}
use Rattle.py_check_messages.specs.Rows.{row_then}
use Rattle.py_check_annotations.specs.declared.names.Former.{Former}
use Rattle.py_check_annotations.specs.Names.{plain_type, former_of, is_unknown, is_untyped, valid, named, has_unknown, invalid_unless}
use Rattle.py_check_annotations.specs.Annotations.{annotation, items, row, no_type, quoted, formed, application, form_or, head_named, name_of, is_tuple, is_or_none, return_annotation, is_none}
use Rattle.py_check_expressions_laws.proofs.Known.{neither_of, known_left, known_right, known_name}
use Rattle.py_check_expressions_laws.proofs.Loud.{IsLoud, loud_is, loud_fails, loud_made, loud_rule, loud_row}
use Rattle.py_check_laws.proofs.KnownParts.{AreKnown}

loud_valid : (span : Span) (o : Option Sort) → IsLoud (valid span o)
loud_valid span None = loud_fails span _
loud_valid span (Some t) = loud_is t

pub loud_if : {A : Type 0} (b : Bool) (s t : Seen A) → IsLoud s → IsLoud t → IsLoud (if b then s else t)
loud_if true s t ls lt = ls
loud_if false s t ls lt = lt

loud_named : (m : Meaning) (span : Span) → is_unknown m ≡ false → is_untyped m ≡ false → IsLoud (named m span)
loud_named m span u h = subst (λ (b : Bool). IsLoud (if b then silent else valid span (plain_type m))) (sym (neither_of (is_unknown m) (is_untyped m) u h)) (loud_valid span (plain_type m))

module _ (meanings : List ℕ → Meaning) (all : (x : List ℕ) → is_untyped (meanings x) ≡ false) where
  loud_none : (whole : ExprTree) (span : Span) → has_unknown meanings whole ≡ false → IsLoud (no_type meanings whole span)
  loud_none whole span k = record { says = λ g s. by (has_unknown meanings whole) k s }
    where
      by : (b : Bool) → b ≡ false → invalid_unless b span ≡ [] → ⊥
      by true p q = absurd (cc)
      by false p q = absurd (cc)

  loud_quoted : (o : Option (List ℕ)) (span : Span) → AreKnown meanings (maybe_read o span) → IsLoud (quoted meanings o span)
  loud_quoted None span k = loud_fails span _
  loud_quoted (Some x) span k = loud_named (meanings x) span (known_name meanings x span k) (all x)

  loud_formed : (o : Option Former) (b : Bool) (whole : ExprTree) (span : Span) (parts : Seen (List Sort)) → b ≡ false → has_unknown meanings whole ≡ false → IsLoud parts → IsLoud (formed meanings (form_or o b) whole span parts)
  loud_formed (Some f) b whole span parts h k l = loud_rule span (application f) parts l
  loud_formed None true whole span parts h k l = absurd (cc)
  loud_formed None false whole span parts h k l = loud_none whole span k

  loud_headed : (o : Option (List ℕ)) (whole : ExprTree) (span : Span) (parts : Seen (List Sort)) → has_unknown meanings whole ≡ false → IsLoud parts → IsLoud (formed meanings (head_named meanings o) whole span parts)
  loud_headed None whole span parts k l = loud_none whole span k
  loud_headed (Some x) whole span parts k l = loud_formed (former_of (meanings x)) (is_untyped (meanings x)) whole span parts (all x) k l

  mutual
    pub loud_annotation : (mark : ExprTree) → AreKnown meanings (reads Annotation mark) → IsLoud (annotation meanings mark)
    loud_annotation (e.at node span) k = loud_mark node span k

    loud_mark : (node : ExprNode) (span : Span) → AreKnown meanings (node_reads Annotation node span) → IsLoud (annotation meanings (e.at node span))
    loud_mark (e.Name x) span k = loud_named (meanings x) span (known_name meanings x span k) (all x)
    loud_mark (e.Str text) span k = loud_quoted (name_in_quotes text) span k
    loud_mark (e.Bin op a b) span k =
        let ka = known_left meanings (reads Annotation a) (reads Annotation b) k in
        let kb = known_right meanings (reads Annotation a) (reads Annotation b) k in
        loud_if (is_or_none op b) (made optional (annotation meanings a)) (if is_or_none op a then made optional (annotation meanings b) else no_type meanings (e.at (e.Bin op a b) span) span) (loud_made optional (annotation meanings a) (loud_annotation a ka))
        (loud_if (is_or_none op a) (made optional (annotation meanings b)) (no_type meanings (e.at (e.Bin op a b) span) span) (loud_made optional (annotation meanings b) (loud_annotation b kb)) (loud_none (e.at (e.Bin op a b) span) span k))
    loud_mark (e.Index head inside) span k =
        let ki = known_right meanings (reads Annotation head) (reads Annotation inside) k in
        loud_headed (name_of head) (e.at (e.Index head inside) span) span (if is_tuple inside then items meanings inside else row_then (annotation meanings inside) (is [])) k
        (loud_if (is_tuple inside) (items meanings inside) (row_then (annotation meanings inside) (is [])) (loud_items inside ki) (loud_row (annotation meanings inside) (is []) (loud_annotation inside ki) (loud_is [])))
    loud_mark node span k = loud_none (e.at node span) span k

    loud_items : (inside : ExprTree) → AreKnown meanings (reads Annotation inside) → IsLoud (items meanings inside)
    loud_items (e.at (e.TupleOf all) span) k = loud_types all k
    loud_items (e.at _ span) k = loud_is []

    loud_types : (all : ExprTrees) → AreKnown meanings (exprs_reads Annotation all) → IsLoud (row meanings all)
    loud_types e.no_exprs k = loud_is []
    loud_types (e.expr_then a more) k =
        loud_row (annotation meanings a) (row meanings more) (loud_annotation a (known_left meanings (reads Annotation a) (exprs_reads Annotation more) k)) (loud_types more (known_right meanings (reads Annotation a) (exprs_reads Annotation more) k))

  pub loud_return : (mark : ExprTree) → AreKnown meanings (reads Annotation mark) → IsLoud (return_annotation meanings mark)
  loud_return mark k = loud_if (is_none mark) (is Rattle.py_typed.specs.Sorts.Nothing) (annotation meanings mark) (loud_is Rattle.py_typed.specs.Sorts.Nothing) (loud_annotation mark k)
