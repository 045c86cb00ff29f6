-- What is typed has said nothing: of annotations, of targets, and of what a `for` goes over.
use Rattle.std.proofs.Common.{ℕ, Bool, true, false, ◌||◌, List, [], ◌∷◌, Option, Some, None, refl, if◌then◌else◌}
use Rattle.py_syntax.specs.declared.token.Span.{Span}
use Rattle.py_syntax.specs.Expressions as e
use Rattle.py_syntax.specs.Expressions.{ExprTree, ExprNode, ExprTrees, Arguments}
use Rattle.py_lexer_words.specs.Words.{name_in_quotes}
use Rattle.py_typed.specs.Sorts.{Sort}
use Rattle.py_typed.specs.Fits.{optional}
use Rattle.py_check_context.specs.declared.scope.Meaning.{Meaning}
use Rattle.py_check_context.specs.Context.{Context, free, along}
use Rattle.py_check_flow.specs.Bindings.{name_in}
use Rattle.py_check_messages.specs.Seen.{Seen, is, silent, behind, made}
use Rattle.py_check_messages.specs.Rows.{row_then}
use Rattle.py_check_annotations.specs.declared.names.Former.{Former}
use Rattle.py_check_annotations.specs.Names.{former_of, is_unknown, is_untyped, plain_type, valid, named}
use Rattle.py_check_annotations.specs.Annotations.{is_or_none, is_tuple, name_of, application, form_or, head_named, no_type, quoted, formed, annotation, items, row}
use Rattle.py_check_calls.specs.Callees.{has_key}
use Rattle.py_check_calls.specs.Calls.{positional, no_keys}
use Rattle.py_check_expressions.specs.Typing.{arguments}
use Rattle.py_check_expressions.proofs.Quiet.{IsQuiet, quiet_is, quiet_silent, quiet_fails, quiet_made, quiet_behind, quiet_judged, quiet_rule, quiet_row, quiet_typing}
use Rattle.py_check_expressions_laws.proofs.Layers.{quiet_arguments}
use Rattle.py_check_values.specs.Aims.{Aim}
use Rattle.py_check_places.specs.Places.{Known}
use Rattle.py_check_places.specs.Shapes.{is_row, leaves, parts_of, is_access}
use Rattle.py_check_targets.specs.Targets.{value_aim, seen_aim, next_part, more_parts, typed_at, single_aim, beyond, aims, target_aims, aims_behind, other_aim, lacking_aim}
use Rattle.py_check_loops.specs.Loops.{value, range_arguments, range_call, span_of, course_by, course}
use Rattle.py_check_targets.specs.Attributes.{lacking_in}

pub quiet_if : {A : Type 0} (b : Bool) (s t : Seen A) → IsQuiet s → IsQuiet t → IsQuiet (if b then s else t)
quiet_if true s t qs qt = qs
quiet_if false s t qs qt = qt

-- ---- annotations

quiet_valid : (span : Span) (o : Option Sort) → IsQuiet (valid span o)
quiet_valid span None = quiet_fails span _
quiet_valid span (Some t) = quiet_is t

quiet_name : (m : Meaning) (span : Span) → IsQuiet (named m span)
quiet_name m span = quiet_if (is_unknown m || is_untyped m) silent (valid span (plain_type m)) quiet_silent (quiet_valid span (plain_type m))

module _ (meanings : List ℕ → Meaning) where
  quiet_none : (whole : ExprTree) (span : Span) → IsQuiet (no_type meanings whole span)
  quiet_none whole span = record { says = λ t h. absurd (cc) }

  quiet_quoted : (o : Option (List ℕ)) (span : Span) → IsQuiet (quoted meanings o span)
  quiet_quoted None span = quiet_fails span _
  quiet_quoted (Some x) span = quiet_name (meanings x) span

  quiet_form : (o : Option Former) (b : Bool) (whole : ExprTree) (span : Span) (parts : Seen (List Sort)) → IsQuiet parts → IsQuiet (formed meanings (form_or o b) whole span parts)
  quiet_form (Some f) b whole span parts q = quiet_rule span (application f) parts q
  quiet_form None true whole span parts q = quiet_silent
  quiet_form None false whole span parts q = quiet_none whole span

  quiet_headed : (o : Option (List ℕ)) (whole : ExprTree) (span : Span) (parts : Seen (List Sort)) → IsQuiet parts → IsQuiet (formed meanings (head_named meanings o) whole span parts)
  quiet_headed None whole span parts q = quiet_none whole span
  quiet_headed (Some x) whole span parts q = quiet_form (former_of (meanings x)) (is_untyped (meanings x)) whole span parts q

  mutual
    pub quiet_annotation : (mark : ExprTree) → IsQuiet (annotation meanings mark)
    quiet_annotation (e.at node span) = quiet_mark node span

    quiet_mark : (node : ExprNode) (span : Span) → IsQuiet (annotation meanings (e.at node span))
    quiet_mark (e.Name x) span = quiet_name (meanings x) span
    quiet_mark (e.Str text) span = quiet_quoted (name_in_quotes text) span
    quiet_mark (e.Bin op a b) span =
        quiet_if (is_or_none op b) (made optional (annotation meanings a)) (if is_or_none op a then made optional (annotation meanings b) else no_type meanings (e.at (e.Bin op a b) span) span) (quiet_made optional (annotation meanings a) (quiet_annotation a))
        (quiet_if (is_or_none op a) (made optional (annotation meanings b)) (no_type meanings (e.at (e.Bin op a b) span) span) (quiet_made optional (annotation meanings b) (quiet_annotation b)) (quiet_none (e.at (e.Bin op a b) span) span))
    quiet_mark (e.Index head inside) span =
        quiet_headed (name_of head) (e.at (e.Index head inside) span) span (if is_tuple inside then items meanings inside else row_then (annotation meanings inside) (is []))
        (quiet_if (is_tuple inside) (items meanings inside) (row_then (annotation meanings inside) (is [])) (quiet_items inside) (quiet_row (annotation meanings inside) (is []) (quiet_annotation inside) (quiet_is [])))
    quiet_mark node span = quiet_none (e.at node span) span

    quiet_items : (inside : ExprTree) → IsQuiet (items meanings inside)
    quiet_items (e.at (e.TupleOf all) span) = quiet_types all
    quiet_items (e.at _ span) = quiet_is []

    quiet_types : (all : ExprTrees) → IsQuiet (row meanings all)
    quiet_types e.no_exprs = quiet_is []
    quiet_types (e.expr_then a more) = quiet_row (annotation meanings a) (row meanings more) (quiet_annotation a) (quiet_types more)

-- ---- targets

pub quiet_seen : (a : Option Aim) → IsQuiet (seen_aim a)
quiet_seen a = record { says = λ x h. refl }

module _ (C : Context) where
  quiet_single : (k : Known) (x : Option (List ℕ)) (t : ExprTree) → IsQuiet (single_aim C k x t)
  quiet_single k (Some x) t = record { says = λ a h. refl }
  quiet_single k None t = by (lacking_in C t)
    where
      by : (o : Option (ExprTree × List ℕ)) → IsQuiet (other_aim C k t o)
      by None = quiet_made (value_aim (is_access t)) (typed_at C k free t) (quiet_typing C k.types free k.names t)
      by (Some p) = quiet_made (lacking_aim p.1) (typed_at C k free p.0) (quiet_typing C k.types free k.names p.0)

  quiet_aims : (k : Known) (parts : Option (List Sort)) (es : List ExprTree) → IsQuiet (aims C k parts es)
  quiet_aims k parts [] = quiet_is []
  quiet_aims k parts (t ∷ es) =
      let behind = beyond C k (name_in t) (next_part parts) in
      quiet_row (single_aim C k (name_in t) t) (aims C behind (more_parts parts) es) (quiet_single k (name_in t) t) (quiet_aims behind (more_parts parts) es)

  pub quiet_targets : (k : Known) (target : ExprTree) → IsQuiet (target_aims C k target)
  quiet_targets k target = quiet_aims k None (leaves target)

  pub quiet_behind_value : (k : Known) (target : ExprTree) (t : Option Sort) → IsQuiet (aims_behind C k target t)
  quiet_behind_value k target t = quiet_aims k (Some (parts_of (is_row target) (Rattle.std.specs.Prelude.length (leaves target)) t)) (leaves target)

  -- ---- what is gone over

  quiet_range : (k : Known) (o : Option Arguments) (t : ExprTree) → IsQuiet (course_by C k o t)
  quiet_range k None t = quiet_made value (typed_at C k free t) (quiet_typing C k.types free k.names t)
  quiet_range k (Some args) t =
      let given = arguments C k.types (along []) 0 k.names args in
      quiet_rule (span_of t) (range_call C.classes) (behind given (positional (span_of t) (has_key args)))
      (quiet_behind given (positional (span_of t) (has_key args)) (quiet_arguments C k.types (along []) 0 k.names args) refl (λ es. quiet_judged (span_of t) (no_keys (has_key args) es)))

  pub quiet_course : (k : Known) (t : ExprTree) → IsQuiet (course C k t)
  quiet_course k t = quiet_range k (range_arguments C t) t
