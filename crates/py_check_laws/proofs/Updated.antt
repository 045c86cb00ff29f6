-- Annotated assignments, operations with assignment and returns that are typed stand well typed.
use Rattle.std.proofs.Common.{◌≡◌, ℕ, Bool, true, false, ◌&&◌, List, [], ◌∷◌, length, Option, Some, None, Ok, Err, refl, ap, sym, ◌∙◌, subst, if◌then◌else◌}
use Rattle.std.proofs.lemmas.Bool.{and_from, or_left}
use Rattle.std.proofs.lemmas.Option.{same_Some}
use Rattle.std.specs.Option.{option_map}
use Rattle.std.specs.Prelude.{is_some}
use Rattle.py_syntax.specs.declared.token.Span.{Span}
use Rattle.py_syntax.specs.declared.expression.BinOp.{BinOp}
use Rattle.py_syntax.specs.declared.expression.BinOp.TheVariants as op
use Rattle.py_syntax.specs.Expressions as tree
use Rattle.py_syntax.specs.Expressions.{ExprTree, at}
use Rattle.py_typed.specs.Sorts as sort
use Rattle.py_typed.specs.Sorts.{Sort}
use Rattle.py_typed.specs.Classes.{ClassEntry}
use Rattle.py_typed.specs.Fits.{is_same_type, is_nothing, is_number, number_join, fits}
use Rattle.py_typed.specs.Expressions as expr
use Rattle.py_typed.specs.Expressions.{TypedExpr, TypedNode, typed, type_of}
use Rattle.py_typed.specs.Statements as act
use Rattle.py_typed.specs.Statements.{Variable, TypedModule, TypedTarget, LocalTarget, GlobalTarget, TypedAct}
use Rattle.py_typed.specs.Narrowing.{is_in, may_be_none}
use Rattle.py_typed.specs.WellTypedExpr.{stands, is_result_type, is_type, are_texts, are_numbers, operation_sort, reads_as, is_none_literal}
use Rattle.py_typed.specs.WellTyped as stmt
use Rattle.py_typed.proofs.FitLemmas.{type_is_itself, one_type, fits_itself, nothing_is, and_left, and_right}
use Rattle.py_check_context.specs.declared.scope.Meaning.{Meaning}
use Rattle.py_check_context.specs.declared.scope.Meaning.TheVariants as meaning
use Rattle.py_check_context.specs.Context.{Context, VarSort, unset, untyped, has, var_at, free, wants}
use Rattle.py_check_flow.specs.Bindings.{name_in}
use Rattle.py_check_messages.specs.Seen.{Seen, both, behind}
use Rattle.py_check_messages.specs.Messages.{no_target}
use Rattle.py_check_annotations.specs.Annotations.{annotation}
use Rattle.py_check_coercions.specs.Values.{coerced}
use Rattle.py_check_coercions.specs.Several.{with_part}
use Rattle.py_check_operators.specs.Names.{variable, named}
use Rattle.py_check_operators.specs.Operators.{is_sum, is_concat, is_numeric, op_text, arithmetic}
use Rattle.py_check_values.specs.Returns as ret
use Rattle.py_check_values.specs.Returns.{ReturnSort, gives, bare_return, value_return, due}
use Rattle.py_check_values.specs.Aims.{Aim, held, first, barred, unwritten, misplaced, lacking}
use Rattle.py_check_values.specs.Assignments.{binding_fault, as_bound}
use Rattle.py_check_places.specs.Places.{Known, is_bound, variable_at, bind_variable, bind_name}
use Rattle.py_check_places.specs.Shapes.{is_row, bind_target, is_access}
use Rattle.py_check_targets.specs.Targets.{aims_behind, target_of, variable_aim, name_aim, seen_aim, asked_by, declared, given, annotation_fault, read_aim, updated, typed_at, target_aims, declared_own}
use Rattle.py_check_assignments.specs.Assignments.{value_for, asked, annotated_value, declares, gives_value, annotates_name, annotates, other_sort, binds_annotated, updates_row, updates_one, updates, annotates_own, annotates_at, updates_single}
use Rattle.py_check_assignments.proofs.AssignmentLemmas.{own_unbound}
use Rattle.py_check_statements.specs.Bodies.{return_wanted, returns}
use Rattle.py_check_expressions_laws.specs.WellTyped as law
use Rattle.py_check_expressions_laws.specs.WellTyped.{Describes, Within}
use Rattle.py_check_expressions_laws.proofs.Types.{clash}
use Rattle.py_check_expressions_laws.proofs.Stands.{coerced_stands}
use Rattle.py_check_expressions_laws.proofs.Nodes.{operation_is}
use Rattle.py_check_expressions_laws.proofs.Rows.{parts_taken, sought_of_asked}
use Rattle.py_check_expressions_laws.proofs.Sound.{sound_typing}
use Rattle.py_check_laws.specs.WellTyped.{maybe_written, IsScope, IsResult}
use Rattle.py_check_laws.proofs.Given.{done, ok_same, some_is, judged_given, both_given, rule_given, made_given, part_given, unless_ok}
use Rattle.py_check.proofs.Bound.{name_no_row, single_bound}
use Rattle.py_check.proofs.Kept.{follows_target, is_open}
use Rattle.py_check_laws.proofs.Assigned.{given_is, updated_is, own_single, declared_own_is, never_lacking, never_row}
use Rattle.py_check_laws.proofs.Whole.{read_set, bound_same}
use Rattle.py_check_laws.proofs.Names.{within_less}
use Rattle.py_check_laws.proofs.Aims.{AimAt, Held, held_local, held_global, held_item, aim_held, aim_first, first_name, held_aimed, aimed_bound, held_attribute}
use Rattle.py_check_laws.proofs.Literals.{heads}
use Rattle.py_check_laws.proofs.Shapes.{no_part_given, read_aim_at}
use Rattle.py_check_laws.proofs.Values.{scene, fault_fits, single_stands, stands_free, attribute_at_place}
use Rattle.py_check_laws.proofs.Targets.{held_stands, first_open}
use Rattle.py_check_laws.proofs.Bound.{described_before, Good, good_one, own_given, own_written, name_written}
use Rattle.py_check_targets.specs.Attributes.{own_attribute, lacking_in, declaring_fault}

-- ---- a name that is annotated

asked_same_by : (t : TypedTarget) (x : List ℕ) (v : VarSort) (a : Aim) → variable_aim t x v ≡ Some a → asked v ≡ asked_by false (Some (a ∷ []))
asked_same_by t x unset a h = ap (λ z. asked_by false (Some (z ∷ []))) (same_Some (first t x) a h)
asked_same_by t x untyped a h = absurd (cc)
asked_same_by t x (has s) a h = ap (λ z. asked_by false (Some (z ∷ []))) (same_Some (held t s) a h)

-- what a variable asks of its value is what its target asks
pub asked_same : (k : Known) (x : List ℕ) (n : Meaning) (a : Aim) → name_aim k x n ≡ Some a → asked (variable_at k n) ≡ asked_by false (Some (a ∷ []))
asked_same k x (meaning.Local i) a h = asked_same_by (LocalTarget i) x (var_at k.types.locals i) a h
asked_same k x (meaning.Global i) a h = asked_same_by (GlobalTarget i) x (var_at k.types.globals i) a h
asked_same k x _ a h = ap (λ z. asked_by false (Some (z ∷ []))) (same_Some (barred x) a h)

dropped_within : (k : Known) (n : Meaning) (others : List ℕ) (ok : Bool) → Within k.names others → Within (bind_variable ok k n (Some sort.Nothing)).names others
dropped_within k (meaning.Local i) others ok w = within_less (i ∷ []) k.names others w
dropped_within k (meaning.Global i) others ok w = w
dropped_within k _ others ok w = w

-- ---- operations

texts_join : (o : BinOp) (s t : Sort) → is_concat o s t ≡ true → operation_sort o s t ≡ Some sort.Str
texts_join op.Add s t h = ap (λ (b : Bool). if b then Some sort.Str else (if are_numbers s t then Some (number_join s t) else None)) h
texts_join _ s t h = absurd (cc)

text_reads : (s : Sort) → is_same_type s sort.Str ≡ true → (b : Bool) → reads_as b s ≡ s
text_reads s h true = ap (reads_as true) (one_type s sort.Str h) ∙ sym (one_type s sort.Str h)
text_reads s h false = refl

number_reads : (s : Sort) → is_number s ≡ true → (b : Bool) → reads_as b s ≡ s
number_reads sort.Int h true = refl
number_reads sort.I64 h true = refl
number_reads sort.Bool h true = refl
number_reads _ h true = absurd (cc)
number_reads s h false = refl

join_plain : (s t : Sort) → may_be_none (number_join s t) ≡ false
join_plain sort.I64 t = refl
join_plain _ sort.I64 = refl
join_plain _ _ = refl

-- what an operation gives
record Operates (o : BinOp) (s t r : Sort) : Type 0 where
  type : is_type (operation_sort o s t) r ≡ true
  plain : may_be_none r ≡ false
  reads : (b : Bool) → reads_as b s ≡ s

operates : (classes : List ClassEntry) (span : Span) (o : BinOp) (p : TypedExpr × TypedExpr) (r : TypedExpr) → arithmetic classes span o p ≡ Ok r → Operates o (type_of p.0) (type_of p.1) (type_of r)
operates classes span o p r h = by (is_concat o (type_of p.0) (type_of p.1)) refl h
  where
    s : Sort
    s = type_of p.0

    t : Sort
    t = type_of p.1

    numeric : (b : Bool) → is_numeric o (type_of p.0) (type_of p.1) ≡ b → is_concat o (type_of p.0) (type_of p.1) ≡ false
        → (if b then done (typed (expr.Arith o p.0 p.1) (number_join (type_of p.0) (type_of p.1)) span) else Err (Rattle.py_check_messages.specs.Messages.unsupported_operands classes (op_text o) (type_of p.0) (type_of p.1))) ≡ Ok r → Operates o (type_of p.0) (type_of p.1) (type_of r)
    numeric true q n g =
        let k = operation_is (record { classes = record { classes = []; signatures = [] }; globals = []; funcs = []; top = act.no_stmts }) [] None o (type_of p.0) (type_of p.1) n q in
        let e = ap type_of (ok_same (typed (expr.Arith o p.0 p.1) (number_join (type_of p.0) (type_of p.1)) span) r g) in
        record {
          type = subst (λ z. is_type (operation_sort o (type_of p.0) (type_of p.1)) z ≡ true) e (ap (λ z. is_type z (number_join (type_of p.0) (type_of p.1))) k.1 ∙ type_is_itself (number_join (type_of p.0) (type_of p.1)));
          plain = ap may_be_none (sym e) ∙ join_plain (type_of p.0) (type_of p.1);
          reads = number_reads (type_of p.0) (and_left (is_number (type_of p.0)) (is_number (type_of p.1)) k.0);
        }
    numeric false q n g = absurd (cc)

    by : (c : Bool) → is_concat o (type_of p.0) (type_of p.1) ≡ c
        → (if c then done (typed (expr.Concat p.0 p.1) sort.Str span)
        else (if is_numeric o (type_of p.0) (type_of p.1) then Ok (typed (expr.Arith o p.0 p.1) (number_join (type_of p.0) (type_of p.1)) span) else Err (Rattle.py_check_messages.specs.Messages.unsupported_operands classes (op_text o) (type_of p.0) (type_of p.1)))) ≡ Ok r → Operates o (type_of p.0) (type_of p.1) (type_of r)
    by true q g =
        let e = ap type_of (ok_same (typed (expr.Concat p.0 p.1) sort.Str span) r g) in
        record {
          type = subst (λ z. is_type (operation_sort o (type_of p.0) (type_of p.1)) z ≡ true) e (ap (λ z. is_type z sort.Str) (texts_join o (type_of p.0) (type_of p.1) q));
          plain = ap may_be_none (sym e);
          reads = text_reads (type_of p.0) (and_left (is_same_type (type_of p.0) sort.Str) (is_same_type (type_of p.1) sort.Str) (and_right (is_sum o) (are_texts (type_of p.0) (type_of p.1)) q));
        }
    by false q g = numeric (is_numeric o (type_of p.0) (type_of p.1)) refl q g

-- ---- what a name reads as

read_by : (span : Span) (x : List ℕ) (n : TypedNode) (b : Bool) (v : VarSort) (s : Sort) (t : TypedExpr) → v ≡ has s → (variable span x n b v).got ≡ Some t → type_of t ≡ reads_as b s
read_by span x n b v s t q h = sym (ap type_of (same_Some (typed n (reads_as b s) span) t (sym (ap (λ z. (variable span x n b z).got) q) ∙ h)))

module _ (C : Context) where
  local_read : (k : Known) (e : ExprTree) (x : List ℕ) (i : ℕ) (s : Sort) (t : TypedExpr) → name_in e ≡ Some x → C.meaning x ≡ meaning.Local i → var_at k.types.locals i ≡ has s → (typed_at C k free e).got ≡ Some t → type_of t ≡ reads_as (is_in k.names i) s
  local_read k (at (tree.Name y) span) x i s t n q v h =
      read_by span y (expr.Local i) (is_in k.names i) (var_at k.types.locals i) s t v (sym (ap (λ z. (named k.types k.names span y z).got) (ap C.meaning (same_Some y x n) ∙ q)) ∙ h)
  local_read k _ x i s t n q v h = absurd (cc)

  global_read : (k : Known) (e : ExprTree) (x : List ℕ) (i : ℕ) (s : Sort) (t : TypedExpr) → name_in e ≡ Some x → C.meaning x ≡ meaning.Global i → var_at k.types.globals i ≡ has s → (typed_at C k free e).got ≡ Some t → type_of t ≡ s
  global_read k (at (tree.Name y) span) x i s t n q v h =
      read_by span y (expr.Global i) false (var_at k.types.globals i) s t v (sym (ap (λ z. (named k.types k.names span y z).got) (ap C.meaning (same_Some y x n) ∙ q)) ∙ h)
  global_read k _ x i s t n q v h = absurd (cc)

module _ (C : Context) (m : TypedModule) (locals : List Variable) (init : Option ℕ) (result : Option Sort) where
  abbrev here : Context
  here = scene C m locals init

  abbrev Fine : Bool → Bool → List ℕ → List ℕ → TypedAct → Type 0
  Fine = Good C m locals init result

  -- ---- annotations

  good_name : (loops handling : Bool) (k : Known) (span : Span) (x : List ℕ) (target mark : ExprTree) (e : Option ExprTree) → name_in target ≡ Some x → IsScope here k.types → maybe_written e ≡ true → Describes here (binds_annotated here k span (Some x) target mark e).types m locals init → (a : TypedAct) → (annotates_name here k span x mark e).got ≡ Some a
      → (others : List ℕ) → Within k.names others → Fine loops handling others (binds_annotated here k span (Some x) target mark e).names a
  good_name loops handling k span x target mark None n sc we E a h others w =
      let r = rule_given span (declared x (is_bound k (C.meaning x))) (both (seen_aim (name_aim k x (C.meaning x))) (annotation C.meaning mark)) a h in
      let q = unless_ok (annotation_fault x (is_bound k (C.meaning x)) r.0.0) act.Pass a r.2 in
      let ok = is_some (declares here k span x mark).got in
      let p = single_bound here ok k target (Some sort.Nothing) (name_no_row target x n) ∙ ap (λ o. bind_name here ok k o (Some sort.Nothing)) n in
      subst (Fine loops handling others (bind_target here ok k target (Some sort.Nothing)).names) q.1 (record { typed = refl; names = subst (λ (z : Known). Within z.names others) (sym p) (dropped_within k (C.meaning x) others ok w) })
  good_name loops handling k span x target mark (Some e) n sc we E a h others w =
      let s = gives_value here k span x mark e in
      let parts = both (seen_aim (name_aim k x (C.meaning x))) (annotation C.meaning mark) in
      let r = rule_given span (given m.classes.classes x (is_bound k (C.meaning x))) (both parts (annotated_value here k x e)) a h in
      let b = both_given parts (annotated_value here k x e) r.0 r.1 in
      let c = both_given (seen_aim (name_aim k x (C.meaning x))) (annotation C.meaning mark) r.0.0 b.0 in
      let g = given_is m.classes.classes x (is_bound k (C.meaning x)) r.0 a r.2 in
      let aim = r.0.0.0 in
      let v = r.0.1 in
      let same = bound_same here k target (is_some s.got) (option_map type_of (annotated_value here k x e).got) (type_of v) (some_is s.got a h) (ap (option_map type_of) b.1) in
      let p = same ∙ single_bound here true k target (Some (type_of v)) (name_no_row target x n) in
      let D = described_before here k.types (bind_target here (is_some s.got) k target (option_map type_of (annotated_value here k x e).got)).types m locals init (follows_target here (is_some s.got) k target (option_map type_of (annotated_value here k x e).got)) E in
      let at_name : AimAt here k (name_in target) target aim = subst (λ o. AimAt here k o target aim) (sym n) c.0 in
      let wt = name_written target x n in
      let sv = single_stands C m locals init k D (target ∷ []) (and_from (law.is_written target) true wt refl) (aim ∷ []) None (record { here = at_name; rest = tt }) e we v (aim, refl, g.right)
      (ap (λ z. (typed_at here k z e).got) (sym (asked_same k x (C.meaning x) aim c.0)) ∙ b.1) others w in
      subst (Fine loops handling others (bind_target here (is_some s.got) k target (option_map type_of (annotated_value here k x e).got)).names) g.is
      (subst (λ (z : Known). Fine loops handling others z.names (act.Assign (target_of aim) (as_bound aim v))) (sym p)
      (good_one C m locals init result loops handling k target wt sc aim at_name v g.right (subst (λ (z : Known). Describes here z.types m locals init) p E) others w sv))

  -- an attribute of the object that an `__init__` sets up
  good_own : (loops handling : Bool) (k : Known) (span : Span) (p : ExprTree × List ℕ) (target mark : ExprTree) (e : Option ExprTree) → own_attribute C.inside target ≡ Some p → IsScope here k.types → maybe_written e ≡ true → Describes here (bind_target here false k target (other_sort here k target e)).types m locals init → (a : TypedAct) → (annotates_own here k span p.1 target mark e).got ≡ Some a
      → (others : List ℕ) → Within k.names others → Fine loops handling others (bind_target here false k target (other_sort here k target e)).names a
  good_own loops handling k span p target mark None o sc we E a h others w =
      let r = rule_given span (declared_own (declaring_fault C.inside p.1 span)) (both (target_aims here k target) (annotation C.meaning mark)) a h in
      subst (Fine loops handling others (bind_target here false k target (other_sort here k target None)).names) (declared_own_is (declaring_fault C.inside p.1 span) r.0 a r.2)
      (record { typed = refl; names = subst (λ (z : Known). Within z.names others) (sym (own_unbound here k target p (other_sort here k target None) o)) w })
  good_own loops handling k span p target mark (Some e) o sc we E a h others w =
      let q = own_given C m locals init result k span p target mark e o a h in
      let g = q.3 in
      let v = q.1 in
      let s = own_single C.inside target p o in
      let wt = own_written C m locals init result target p o in
      let same = own_unbound here k target p (other_sort here k target (Some e)) o in
      let named : bind_name here true k (name_in target) (Some (type_of v)) ≡ k = ap (λ z. bind_name here true k z (Some (type_of v))) s.1 in
      let D : Describes here k.types m locals init = subst (λ (z : Known). Describes here z.types m locals init) same E in
      let sv = single_stands C m locals init k D (target ∷ []) (and_from (law.is_written target) true wt refl) (g.aim ∷ []) None (record { here = g.here_it_is; rest = tt }) e we v (g.aim, refl, g.right) g.valued others w in
      subst (Fine loops handling others (bind_target here false k target (other_sort here k target (Some e))).names) g.is
      (subst (λ (z : Known). Fine loops handling others z.names (act.Assign (target_of g.aim) (as_bound g.aim v))) (named ∙ sym same)
      (good_one C m locals init result loops handling k target wt sc g.aim g.here_it_is v g.right (subst (λ (z : Known). Describes here z.types m locals init) (sym named) D) others w sv))

  -- AN ASSIGNMENT WITH AN ANNOTATION
  pub good_annotated : (loops handling : Bool) (k : Known) (span : Span) (x : Option (List ℕ)) (target mark : ExprTree) (e : Option ExprTree) → name_in target ≡ x → IsScope here k.types → maybe_written e ≡ true → Describes here (binds_annotated here k span x target mark e).types m locals init → (a : TypedAct) → (annotates here k span x target mark e).got ≡ Some a
      → (others : List ℕ) → Within k.names others → Fine loops handling others (binds_annotated here k span x target mark e).names a
  good_annotated loops handling k span (Some x) target mark e n sc we E a h others w = good_name loops handling k span x target mark e n sc we E a h others w
  good_annotated loops handling k span None target mark e n sc we E a h others w = by (own_attribute C.inside target) refl e we E h
    where
      by : (o : Option (ExprTree × List ℕ)) → own_attribute C.inside target ≡ o → (e : Option ExprTree) → maybe_written e ≡ true → Describes here (bind_target here false k target (other_sort here k target e)).types m locals init → (annotates_at here k span o target mark e).got ≡ Some a → Fine loops handling others (bind_target here false k target (other_sort here k target e)).names a
      by None q None we E g = absurd (no_part_given (both (target_aims here k target) (annotation C.meaning mark)).got span no_target a g)
      by None q (Some e) we E g = absurd (no_part_given (both (both (aims_behind here k target (option_map type_of (value_for here k target e).got)) (annotation C.meaning mark)) (value_for here k target e)).got span no_target a g)
      by (Some p) q e we E g = good_own loops handling k span p target mark e q sc we E a g others w

  -- ---- operations with assignment

  -- the type that the target is read as
  reads_same : (b c : Bool) (s : Sort) → (b ≡ true → c ≡ true) → ((d : Bool) → reads_as d (reads_as b s) ≡ reads_as b s) → reads_as c s ≡ reads_as b s
  reads_same true true s h r = refl
  reads_same true false s h r = let bad : false ≡ true = h refl in absurd (cc)
  reads_same false true s h r = r true
  reads_same false false s h r = refl

  held_read : (k : Known) → Describes here k.types m locals init → (e : ExprTree) → law.is_written e ≡ true → (target : TypedTarget) (s : Sort) → Held here k e target s → (t : TypedExpr) → (typed_at here k free e).got ≡ Some t → ((d : Bool) → reads_as d (type_of t) ≡ type_of t) → (others : List ℕ) → Within k.names others
      → stmt.read_type m locals init result others target ≡ type_of t
  held_read k D e w target s (held_local x i n q is v) t h r others wi =
      let read = local_read here k e x i s t n q v h in
      let d = Rattle.py_check_laws.proofs.Targets.declared_sort locals i s (D.locals_are i s v).is in
      subst (λ z. stmt.read_type m locals init result others z ≡ type_of t) is
      (ap (reads_as (is_in others i)) d ∙ reads_same (is_in k.names i) (is_in others i) s (wi i) (λ b. ap (reads_as b) (sym read) ∙ r b ∙ read) ∙ sym read)
  held_read k D e w target s (held_global x i n q is v) t h r others wi =
      subst (λ z. stmt.read_type m locals init result others z ≡ type_of t) is (Rattle.py_check_laws.proofs.Targets.declared_sort m.globals i s (D.globals_are i s v).is ∙ sym (global_read here k e x i s t n q v h))
  held_read k D e w target s (held_item b i place n g written is) t h r others wi =
      let item = Rattle.py_check_laws.proofs.Values.item_at_place C m locals init k D e w b i s place g written others wi in
      subst (λ z. stmt.read_type m locals init result others z ≡ type_of t) is (item.2.of ∙ ap type_of (same_Some (typed (expr.At b i) s place) t (sym g ∙ h)))
  held_read k D e w target s (held_attribute b a place n g is) t h r others wi =
      let q = attribute_at_place C m locals init k D e w b a s place g others wi in
      subst (λ z. stmt.read_type m locals init result others z ≡ type_of t) is (q.1 ∙ ap type_of (same_Some (typed (expr.Attr b a) s place) t (sym g ∙ h)))

  three : (a b c : Bool) → a ≡ true → b ≡ true → c ≡ true → (a && b && c) ≡ true
  three a b c p q r = cc

  only_target : (t u : TypedTarget) (more : List TypedTarget) → t ∷ [] ≡ u ∷ more → t ≡ u
  only_target t u more h = cc

  update_by : (loops handling : Bool) (k : Known) (target : ExprTree) (o : BinOp) (a : Aim) → AimAt here k (name_in target) target a → law.is_written target ≡ true → Describes here k.types m locals init → (p : TypedExpr × TypedExpr) → (typed_at here k free target).got ≡ Some p.0 → (r : TypedExpr) → Operates o (type_of p.0) (type_of p.1) (type_of r)
      → binding_fault m.classes.classes a (type_of r) ≡ None → (u : TypedTarget) (more : List TypedTarget) → target_of a ≡ u ∷ more → (others : List ℕ) → Within k.names others → stands m locals init false others p.1 ≡ true → Fine loops handling others (bind_name here false k (name_in target) None).names (act.Aug u o p.1 (type_of r))
  update_by loops handling k target o (held t s) a wt D p g r ops f u more is others w sv =
      let h = aim_held here k target t s a in
      let st = held_stands C m locals init result k D target (λ q. wt) t s h others (λ q. w) in
      subst (λ z. Fine loops handling others (bind_name here false k (name_in target) None).names (act.Aug z o p.1 (type_of r))) (only_target t u more is) (record {
        typed = three (stands m locals init false others p.1) (stmt.target_typed m locals init result others t) (stmt.update_fits m locals init result others t o (type_of p.1) (type_of r)) sv st.there
            (and_from (is_type (operation_sort o (stmt.read_type m locals init result others t) (type_of p.1)) (type_of r)) (fits m.classes.classes (type_of r) (stmt.target_type m locals init result t))
            (ap (λ z. is_type (operation_sort o z (type_of p.1)) (type_of r)) (held_read k D target wt t s h p.0 g ops.reads others w) ∙ ops.type)
            (ap (fits m.classes.classes (type_of r)) st.type ∙ fault_fits C m locals init s (type_of r) f));
        names = aimed_bound here target t (held_aimed here k target t s h) false k None (type_of r) others w (λ q. ops.plain);
      })
  update_by loops handling k target o (first t x) a wt D p g r ops f u more is others w sv =
      let n = first_name here k target t x a in
      clash (is_open k.types (C.meaning x)) (first_open C m locals init result k target t x (aim_first here k target t x a) n) (read_set here k target x n p.0 g)
  update_by loops handling k target o (barred x) a wt D p g r ops f u more is others w sv = absurd (cc)
  update_by loops handling k target o (unwritten s) a wt D p g r ops f u more is others w sv = absurd (cc)
  update_by loops handling k target o (lacking s x) a wt D p g r ops f u more is others w sv = absurd (cc)
  update_by loops handling k target o (misplaced s) a wt D p g r ops f u more is others w sv = absurd (cc)

  good_one_update : (loops handling : Bool) (k : Known) (span : Span) (target : ExprTree) (o : BinOp) (e : ExprTree) → is_row target ≡ false → lacking_in here target ≡ None → law.is_written target ≡ true → law.is_written e ≡ true → Describes here k.types m locals init → (a : TypedAct) → (updates_one here k span target o e).got ≡ Some a → (others : List ℕ) → Within k.names others
      → Fine loops handling others (bind_target here false k target None).names a
  good_one_update loops handling k span target o e q l wt we D a h others w =
      let r = rule_given span (updated m.classes.classes span o (read_aim here k (name_in target) (is_access target))) (both (typed_at here k free target) (typed_at here k free e)) a h in
      let b = both_given (typed_at here k free target) (typed_at here k free e) r.0 r.1 in
      let u = updated_is m.classes.classes span o (read_aim here k (name_in target) (is_access target)) r.0 a r.2 in
      let aim = read_aim here k (name_in target) (is_access target) r.0.0 in
      subst (Fine loops handling others (bind_target here false k target None).names) u.is
      (subst (λ (z : Known). Fine loops handling others z.names (act.Aug u.target o r.0.1 (type_of u.result))) (sym (single_bound here false k target None q))
      (update_by loops handling k target o aim (read_aim_at here k (name_in target) target r.0.0 l b.0 u.placed) wt D r.0 b.0 u.result (operates m.classes.classes span o r.0 u.result u.operates) u.right u.target u.more u.aimed others w
      (stands_free C m locals init k D e we r.0.1 b.1 others w)))

  -- AN OPERATION WITH ASSIGNMENT
  pub good_update : (loops handling : Bool) (k : Known) (span : Span) (target : ExprTree) (o : BinOp) (e : ExprTree) → law.is_written target ≡ true → law.is_written e ≡ true → Describes here (bind_target here false k target None).types m locals init → (a : TypedAct) → (updates here k span target o e).got ≡ Some a → (others : List ℕ) → Within k.names others
      → Fine loops handling others (bind_target here false k target None).names a
  good_update loops handling k span target o e wt we E a h others w =
      let D = described_before here k.types (bind_target here false k target None).types m locals init (follows_target here false k target None) E in by D (is_row target) refl (lacking_in here target) refl h
    where
      by : Describes here k.types m locals init → (b : Bool) → is_row target ≡ b → (x : Option (ExprTree × List ℕ)) → lacking_in here target ≡ x → (if b then updates_row here k span target e else updates_single here k span x target o e).got ≡ Some a → Fine loops handling others (bind_target here false k target None).names a
      by D false q (Some p) l f = absurd (never_lacking m.classes.classes span p.1 (both (typed_at here k free p.0) (typed_at here k free e)) a f)
      by D true q x l f = absurd (never_row m.classes.classes span (both (aims_behind here k target None) (typed_at here k free e)) a f)
      by D false q None l f = good_one_update loops handling k span target o e q l wt we D a f others w

  -- ---- returns

  return_other : (others : List ℕ) (t : Sort) (v : TypedExpr) → is_nothing t ≡ false → stands m locals init false others v ≡ true → type_of v ≡ t → stmt.return_fits m locals init result others (Some t) (Some v) ≡ true
  return_other others sort.Nothing v q s e = absurd (cc)
  return_other others t v q s e = and_from (stands m locals init false others v) (is_same_type (type_of v) t) s (ap (λ z. is_same_type z t) e ∙ type_is_itself t)

  result_stands : (k : Known) → Describes here k.types m locals init → (e : ExprTree) → law.is_written e ≡ true → (s : Sort) → is_result_type (length m.classes.classes) s ≡ true → (t : TypedExpr) → (typed_at here k (wants s) e).got ≡ Some t → fits m.classes.classes (type_of t) s ≡ true → (others : List ℕ) → Within k.names others → stands m locals init false others t ≡ true
  result_stands k D e w s v t g f others wi =
      (sound_typing C k.types m locals init D (wants s) k.names e w (sought_of_asked (length m.classes.classes) (wants s) v)).each t g others wi (or_left (fits m.classes.classes (type_of t) s) (parts_taken m.classes.classes (wants s) (type_of t)) f)

  due_fits : (k : Known) → Describes here k.types m locals init → (e : ExprTree) → law.is_written e ≡ true → (t : Sort) → is_result_type (length m.classes.classes) t ≡ true → (a v : TypedExpr) → (typed_at here k (wants t) e).got ≡ Some a → due m.classes.classes t a ≡ Ok v → (others : List ℕ) → Within k.names others → stmt.return_fits m locals init result others (Some t) (Some v) ≡ true
  due_fits k D e we t rt a v g h others w = by (is_nothing t) refl h
    where
      none_by : (c : Bool) → is_none_literal a ≡ c → is_nothing t ≡ true → (if c then done a else Err Rattle.py_check_messages.specs.Messages.no_return_expected) ≡ Ok v → stmt.return_fits m locals init result others (Some t) (Some v) ≡ true
      none_by false p q f = absurd (cc)
      none_by true p q f =
          let nt = nothing_is m.classes.classes t q in
          let ta : type_of a ≡ t = ((heads here k.types (wants t) k.names e).each a g).literal.none p ∙ sym nt in
          let st = result_stands k D e we t rt a g (ap (λ z. fits m.classes.classes z t) ta ∙ fits_itself m.classes.classes t) others w in
          subst (λ z. stmt.return_fits m locals init result others (Some t) (Some z) ≡ true) (ok_same a v f)
          (subst (λ z. stmt.return_fits m locals init result others (Some z) (Some a) ≡ true) (sym nt) (and_from (stands m locals init false others a) (is_none_literal a) st p))

      fit_by : (c : Bool) → fits m.classes.classes (type_of a) t ≡ c → is_nothing t ≡ false → (if c then done (coerced t a) else Err (Rattle.py_check_messages.specs.Messages.wrong_return m.classes.classes (type_of a) t)) ≡ Ok v → stmt.return_fits m locals init result others (Some t) (Some v) ≡ true
      fit_by false p q f = absurd (cc)
      fit_by true p q f =
          let c = coerced_stands m locals init others t a (result_stands k D e we t rt a g p others w) p rt in
          subst (λ z. stmt.return_fits m locals init result others (Some t) (Some z) ≡ true) (ok_same (coerced t a) v f) (return_other others t (coerced t a) q c.0 c.1)

      by : (b : Bool) → is_nothing t ≡ b → (if b then (if is_none_literal a then Ok a else Err Rattle.py_check_messages.specs.Messages.no_return_expected) else (if fits m.classes.classes (type_of a) t then Ok (coerced t a) else Err (Rattle.py_check_messages.specs.Messages.wrong_return m.classes.classes (type_of a) t))) ≡ Ok v
          → stmt.return_fits m locals init result others (Some t) (Some v) ≡ true
      by true q f = none_by (is_none_literal a) refl q f
      by false q f = fit_by (fits m.classes.classes (type_of a) t) refl q f

  bare_fits : (span : Span) (r : ReturnSort) (u : Unit {0}) (others : List ℕ) → IsResult (length m.classes.classes) r result → (bare_return span r).got ≡ Some u → stmt.return_fits m locals init result others result None ≡ true
  bare_fits span ret.outside u others is h = absurd (cc)
  bare_fits span ret.untyped u others is h = absurd (cc)
  bare_fits span (ret.gives t) u others is h = subst (λ z. stmt.return_fits m locals init result others z None ≡ true) (sym is.0) (by (is_nothing t) h)
    where
      by : (b : Bool) → (if b then Rattle.py_check_messages.specs.Seen.is tt else Rattle.py_check_messages.specs.Seen.fails span Rattle.py_check_messages.specs.Messages.return_expected).got ≡ Some u → b ≡ true
      by true q = refl
      by false q = absurd (cc)

  value_fits : (k : Known) → Describes here k.types m locals init → (e : ExprTree) → law.is_written e ≡ true → (span : Span) (r : ReturnSort) → IsResult (length m.classes.classes) r result → (a v : TypedExpr) → (typed_at here k (return_wanted r) e).got ≡ Some a → (value_return m.classes.classes span r a).got ≡ Some v → (others : List ℕ) → Within k.names others
      → stmt.return_fits m locals init result others result (Some v) ≡ true
  value_fits k D e we span ret.outside is a v g h others w = absurd (cc)
  value_fits k D e we span ret.untyped is a v g h others w = absurd (cc)
  value_fits k D e we span (ret.gives t) is a v g h others w = subst (λ z. stmt.return_fits m locals init result others z (Some v) ≡ true) (sym is.0) (due_fits k D e we t is.1 a v g (judged_given span (due m.classes.classes t a) v h) others w)

  -- A RETURN
  pub good_return : (loops handling : Bool) (k : Known) (span : Span) (r : ReturnSort) → IsResult (length m.classes.classes) r result → (e : Option ExprTree) → maybe_written e ≡ true → Describes here k.types m locals init → (a : TypedAct) → (returns here r k span e).got ≡ Some a → (others : List ℕ) → Within k.names others → Fine loops handling others k.names a
  good_return loops handling k span r is None we D a h others w =
      let q = made_given (λ u. act.Return None) (bare_return span r) a h in subst (Fine loops handling others k.names) q.2 (record { typed = bare_fits span r q.0 others is q.1; names = w })
  good_return loops handling k span r is (Some e) we D a h others w =
      let q = made_given (λ v. act.Return (Some v)) (behind (typed_at here k (return_wanted r) e) (λ p. with_part p (value_return m.classes.classes span r))) a h in
      let p = part_given (typed_at here k (return_wanted r) e) (value_return m.classes.classes span r) q.0 q.1 in
      subst (Fine loops handling others k.names) q.2 (record { typed = value_fits k D e we span r is p.0 q.0 p.1 p.2 others w; names = w })
