-- Assignments, with an annotation or with an operation, and what they bind (Python Language Reference, "Assignment statements";
-- PEP 526).
--
-- All names of a target are bound, whether the whole holds or is refused. A value is asked for the types that its targets have
-- before anything is known of it; then it is bound to what they are, each once the names before it are bound. An annotation stands on a
-- name, and in an `__init__` on an attribute of the object that it sets up.
use Rattle.std.specs.Prelude.{ℕ, false, List, length, replicate, Option, Some, None, is_some, if◌then◌else◌, Result, Err}
use Rattle.std.specs.Option.{option_map}
use Rattle.py_syntax.specs.declared.token.Span.{Span}
use Rattle.py_syntax.specs.declared.expression.BinOp.{BinOp}
use Rattle.py_syntax.specs.Expressions.{ExprTree}
use Rattle.py_typed.specs.Sorts as sort
use Rattle.py_typed.specs.Sorts.{Sort}
use Rattle.py_typed.specs.Classes.{ClassEntry}
use Rattle.py_typed.specs.Expressions.{TypedExpr, type_of}
use Rattle.py_typed.specs.Statements.{TypedAct}
use Rattle.py_check_context.specs.Context.{Context, VarSort, has, Wanted, free, wants}
use Rattle.py_check_flow.specs.Bindings.{name_in}
use Rattle.py_check_messages.specs.Seen.{Seen, Message, fails, both, behind, rule}
use Rattle.py_check_messages.specs.Messages.{no_target}
use Rattle.py_check_annotations.specs.Annotations.{annotation}
use Rattle.py_check_coercions.specs.Several.{with_part}
use Rattle.py_check_values.specs.Aims.{Aim}
use Rattle.py_check_values.specs.Assignments.{lacking_fault}
use Rattle.py_check_places.specs.Places.{Known, variable_at, is_bound}
use Rattle.py_check_places.specs.Shapes.{is_row, is_access, leaves, bind_target}
use Rattle.py_check_targets.specs.Attributes.{own_attribute, lacking_in, declaring_fault}
use Rattle.py_check_targets.specs.Targets.{fault_or, target_aims, aims_behind, tuple_sort, asked_sort, asked_by, assigned, declared, given, declared_own, given_own, updated, updated_lacking, name_aim, read_aim, seen_aim, typed_at}

-- as many times None's type as a target has single targets
abbrev pub nothings : ExprTree → Sort
nothings target = tuple_sort (replicate (length (leaves target)) sort.Nothing)

-- several targets that are not updated, nor an attribute among them that nothing declares
abbrev pub row_refused : List ClassEntry → List Aim × TypedExpr → Result TypedAct Message
row_refused classes p = fault_or (lacking_fault classes p.0) (Err no_target)

-- what a variable asks of its value
abbrev pub asked : VarSort → Wanted
asked (has t) = wants t
asked v = free

module _ (c : Context) where
  -- ---- assignments

  -- the type that targets ask for, and the value that is assigned
  abbrev pub asked_for : Known → ExprTree → Option Sort
  asked_for k target = asked_sort (is_row target) (target_aims c k target).got

  abbrev pub value_for : Known → ExprTree → ExprTree → Seen TypedExpr
  value_for k target e = typed_at c k (asked_by (is_row target) (target_aims c k target).got) e

  abbrev pub assigns : Known → Span → ExprTree → ExprTree → Seen TypedAct
  assigns k span target e =
      rule span (assigned c.classes target (asked_for k target))
      (both (aims_behind c k target (option_map type_of (value_for k target e).got)) (value_for k target e))

  abbrev pub binds : Known → Span → ExprTree → ExprTree → Known
  binds k span target e = bind_target c (is_some (assigns k span target e).got) k target (option_map type_of (value_for k target e).got)

  -- ---- assignments with an annotation

  abbrev pub declares : Known → Span → List ℕ → ExprTree → Seen TypedAct
  declares k span x mark =
      rule span (declared x (is_bound k (c.meaning x))) (both (seen_aim (name_aim k x (c.meaning x))) (annotation c.meaning mark))

  abbrev pub annotated_value : Known → List ℕ → ExprTree → Seen TypedExpr
  annotated_value k x e = typed_at c k (asked (variable_at k (c.meaning x))) e

  abbrev pub gives_value : Known → Span → List ℕ → ExprTree → ExprTree → Seen TypedAct
  gives_value k span x mark e =
      rule span (given c.classes x (is_bound k (c.meaning x)))
      (both (both (seen_aim (name_aim k x (c.meaning x))) (annotation c.meaning mark)) (annotated_value k x e))

  abbrev pub annotates_name : Known → Span → List ℕ → ExprTree → Option ExprTree → Seen TypedAct
  annotates_name k span x mark None = declares k span x mark
  annotates_name k span x mark (Some e) = gives_value k span x mark e

  -- an attribute of the object that an `__init__` sets up; its value is asked for the type that it has
  abbrev pub declares_own : Known → Span → List ℕ → ExprTree → ExprTree → Seen TypedAct
  declares_own k span a target mark =
      rule span (declared_own (declaring_fault c.inside a span)) (both (target_aims c k target) (annotation c.meaning mark))

  abbrev pub gives_own : Known → Span → List ℕ → ExprTree → ExprTree → ExprTree → Seen TypedAct
  gives_own k span a target mark e =
      rule span (given_own c.classes target (declaring_fault c.inside a span))
      (both (both (target_aims c k target) (annotation c.meaning mark)) (value_for k target e))

  abbrev pub annotates_own : Known → Span → List ℕ → ExprTree → ExprTree → Option ExprTree → Seen TypedAct
  annotates_own k span a target mark None = declares_own k span a target mark
  annotates_own k span a target mark (Some e) = gives_own k span a target mark e

  -- what is neither has no annotation. Its value is still asked for the type that it has; and what stands in a row is looked at once the
  -- names before it are bound, to the parts of the value, or to what nothing is known of where there is none
  abbrev pub annotates_other : Known → Span → ExprTree → ExprTree → Option ExprTree → Seen TypedAct
  annotates_other k span target mark None =
      behind (both (target_aims c k target) (annotation c.meaning mark)) (λ p. with_part p (λ q. fails span no_target))
  annotates_other k span target mark (Some e) =
      behind (both (both (aims_behind c k target (option_map type_of (value_for k target e).got)) (annotation c.meaning mark)) (value_for k target e))
      (λ p. with_part p (λ q. fails span no_target))

  -- what is no name, by the attribute that it is of the object, if it is one
  abbrev pub annotates_at : Known → Span → Option (ExprTree × List ℕ) → ExprTree → ExprTree → Option ExprTree → Seen TypedAct
  annotates_at k span (Some p) target mark e = annotates_own k span p.1 target mark e
  annotates_at k span None target mark e = annotates_other k span target mark e

  abbrev pub annotates : Known → Span → Option (List ℕ) → ExprTree → ExprTree → Option ExprTree → Seen TypedAct
  annotates k span (Some x) target mark e = annotates_name k span x mark e
  annotates k span None target mark e = annotates_at k span (own_attribute c.inside target) target mark e

  -- a name that gets no value is bound as by None: nothing is known of it
  abbrev pub value_sort : Known → List ℕ → Option ExprTree → Option Sort
  value_sort k x None = Some sort.Nothing
  value_sort k x (Some e) = option_map type_of (annotated_value k x e).got

  -- so are the names of a row, each of them
  abbrev pub other_sort : Known → ExprTree → Option ExprTree → Option Sort
  other_sort k target None = Some (nothings target)
  other_sort k target (Some e) = option_map type_of (value_for k target e).got

  abbrev pub binds_annotated : Known → Span → Option (List ℕ) → ExprTree → ExprTree → Option ExprTree → Known
  binds_annotated k span (Some x) target mark e =
      bind_target c (is_some (annotates_name k span x mark e).got) k target (value_sort k x e)
  binds_annotated k span None target mark e = bind_target c false k target (other_sort k target e)

  -- ---- operations with assignment

  abbrev pub updates_one : Known → Span → ExprTree → BinOp → ExprTree → Seen TypedAct
  updates_one k span target op e =
      rule span (updated c.classes span op (read_aim c k (name_in target) (is_access target))) (both (typed_at c k free target) (typed_at c k free e))

  -- a tuple or a list is not updated; its names count as bound to what has no type
  abbrev pub updates_row : Known → Span → ExprTree → ExprTree → Seen TypedAct
  updates_row k span target e = rule span (row_refused c.classes) (both (aims_behind c k target None) (typed_at c k free e))

  -- an attribute that nothing declares is not read: its object is
  abbrev pub updates_lacking : Known → Span → ExprTree × List ℕ → ExprTree → Seen TypedAct
  updates_lacking k span p e = rule span (updated_lacking c.classes p.1) (both (typed_at c k free p.0) (typed_at c k free e))

  -- a single target, by the attribute that it lacks, if it does
  abbrev pub updates_single : Known → Span → Option (ExprTree × List ℕ) → ExprTree → BinOp → ExprTree → Seen TypedAct
  updates_single k span None target op e = updates_one k span target op e
  updates_single k span (Some p) target op e = updates_lacking k span p e

  abbrev pub updates : Known → Span → ExprTree → BinOp → ExprTree → Seen TypedAct
  updates k span target op e =
      if is_row target then updates_row k span target e else updates_single k span (lacking_in c target) target op e
