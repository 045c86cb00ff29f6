-- Assignments that are typed: behind them their typed form knows no more than typing does.
use Rattle.std.proofs.Common.{◌≡◌, ℕ, Bool, true, false, not, List, [], ◌∷◌, length, Option, Some, None, refl, ap, ap₂, sym, ◌∙◌, subst, if◌then◌else◌, inl}
use Rattle.std.proofs.lemmas.Bool.{and_from}
use Rattle.std.proofs.lemmas.Option.{same_Some}
use Rattle.std.specs.List.{list_all}
use Rattle.std.specs.Option.{option_map}
use Rattle.std.specs.Prelude.{is_some}
use Rattle.py_syntax.specs.declared.token.Span.{Span}
use Rattle.py_syntax.specs.declared.expression.BinOp.{BinOp}
use Rattle.py_syntax.specs.Expressions.{ExprTree}
use Rattle.py_typed.specs.Sorts as sort
use Rattle.py_typed.specs.Sorts.{Sort}
use Rattle.py_typed.specs.Fits.{fits}
use Rattle.py_typed.specs.Expressions.{TypedExpr, type_of}
use Rattle.py_typed.specs.Statements as act
use Rattle.py_typed.specs.Statements.{Variable, TypedModule, TypedTarget, TypedAct}
use Rattle.py_typed.specs.Narrowing as telling
use Rattle.py_typed.specs.Narrowing.{own_sort, after_target, after_parts, part_sorts}
use Rattle.py_typed.specs.WellTypedExpr.{stands}
use Rattle.py_typed.proofs.FitLemmas.{fits_itself, and_left}
use Rattle.py_check_context.specs.declared.scope.Meaning.{Meaning}
use Rattle.py_check_context.specs.declared.scope.Meaning.TheVariants as meaning
use Rattle.py_check_context.specs.Context.{Context, free}
use Rattle.py_check_flow.specs.Bindings.{name_in}
use Rattle.py_check_messages.specs.Seen.{both}
use Rattle.py_check_messages.specs.Messages.{no_target}
use Rattle.py_check_annotations.specs.Annotations.{annotation}
use Rattle.py_check_coercions.specs.Values.{coerced}
use Rattle.py_check_values.specs.Aims.{Aim, held, first, barred, unwritten, misplaced, lacking}
use Rattle.py_check_values.specs.Assignments.{binding_fault, as_bound, items_for}
use Rattle.py_check_places.specs.Places.{Known, is_bound, variable_at, bind_variable, bind_name, bind_names}
use Rattle.py_check_places.specs.Shapes.{is_row, leaves, target_names, bind_target, is_access}
use Rattle.py_check_targets.specs.Targets.{target_of, targets_of, asked_by, assigned, annotation_fault, declared, given, updated, name_aim, seen_aim, read_aim, typed_at, target_aims, aims_behind, declared_own}
use Rattle.py_check_assignments.specs.Assignments.{asked, value_for, assigns, binds, declares, annotated_value, gives_value, annotates, other_sort, binds_annotated, updates_row, updates, asked_for, gives_own, annotates_at, updates_single}
use Rattle.py_check_assignments.proofs.AssignmentLemmas.{own_unbound}
use Rattle.py_check_expressions_laws.specs.WellTyped as law
use Rattle.py_check_expressions_laws.specs.WellTyped.{Describes, Within}
use Rattle.py_check_expressions_laws.proofs.Stands.{coerced_stands}
use Rattle.py_check_expressions_laws.proofs.Types.{result_of_value}
use Rattle.py_check.proofs.Bound.{leaves_one, single_bound, name_no_row}
use Rattle.py_check.proofs.Kept.{follows_itself, follows_name, follows_target}
use Rattle.py_check_laws.specs.Narrowing.{is_own, is_own_name}
use Rattle.py_check_laws.specs.Variables.{sort_in}
use Rattle.py_check_laws.specs.WellTyped.{are_targets, IsScope}
use Rattle.py_check_laws.proofs.Given.{some_is, both_given, rule_given, unless_ok}
use Rattle.py_check_laws.proofs.Looked.{LookedAt, looked_behind}
use Rattle.py_check_laws.proofs.Assigned.{row_bound, items_are, BoundTo, as_value, assigned_is, given_is, updated_is, own_single, declared_own_is, never_lacking, never_row}
use Rattle.py_check_laws.proofs.Whole.{bound_same}
use Rattle.py_check_laws.proofs.Names.{within_itself, within_less}
use Rattle.py_check_laws.proofs.Aims.{AimAt, aim_held, aim_first, first_name, held_aimed, first_aimed}
use Rattle.py_check_laws.proofs.Shapes.{no_part_given, read_aim_at}
use Rattle.py_check_laws.proofs.Values.{scene, held_value, fault_fits, parts_type, single_stands, given_stands}
use Rattle.py_check_laws.proofs.Targets.{given_start, held_stands, variable_stands, first_open, rows}
use Rattle.py_check_laws.proofs.Bound.{described_before, single, first_type_there, not_single, only_valued, single_aim_of, own_given, own_written, name_written}
use Rattle.py_check_laws.proofs.Updated.{asked_same}
use Rattle.py_check_laws.proofs.OwnTypes.{KeepsNone, own_keeps, keeps}
use Rattle.py_check_laws.proofs.LessNames.{less_aimed, less_row}
use Rattle.py_check_targets.specs.Attributes.{own_attribute, lacking_in, declaring_fault}

module _ (C : Context) (m : TypedModule) (locals : List Variable) (init : Option ℕ) (result : Option Sort) where
  abbrev here : Context
  here = scene C m locals init

  abbrev one_takes : List TypedTarget → Sort → Bool
  one_takes = single C m locals init result

  -- what is known behind the typed act is known at this end, where no more was known in front of it
  abbrev pub Less : List ℕ → List ℕ → TypedAct → Type 0
  Less names end a = (known : List ℕ) → Within known names → Within (telling.after_act one_takes known a) end

  abbrev chosen : Bool → List ℕ → List ℕ → List ℕ
  chosen b xs ys = if b then xs else ys

  -- ---- one target

  one_less : (names end : List ℕ) (t : TypedTarget) (v : TypedExpr) → one_takes (t ∷ []) (type_of v) ≡ true → ((known : List ℕ) → Within known names → Within (after_target known t (own_sort v)) end) → Less names end (act.Assign (t ∷ []) v)
  one_less names end t v one next known w =
      subst (λ b. Within (chosen b (after_parts known (t ∷ []) (own_sort v ∷ [])) (after_parts known (t ∷ []) (part_sorts (type_of v)))) end) (sym one)
      (within_less [] (after_target known t (own_sort v)) end (next known w))

  less_one : (k : Known) (target : ExprTree) → law.is_written target ≡ true → IsScope here k.types → (a : Aim) → AimAt here k (name_in target) target a → (v : TypedExpr) → binding_fault m.classes.classes a (type_of v) ≡ None → Describes here (bind_name here true k (name_in target) (Some (type_of v))).types m locals init
      → stands m locals init false k.names v ≡ true → KeepsNone v → Less k.names (bind_name here true k (name_in target) (Some (type_of v))).names (act.Assign (target_of a) (as_bound a v))
  less_one k target wt s (held u t) a v f E sv own =
      let D = described_before here k.types (bind_name here true k (name_in target) (Some (type_of v))).types m locals init (follows_name here true k (name_in target) (Some (type_of v))) E in
      let h = aim_held here k target u t a in
      let c = coerced_stands m locals init k.names t v sv (fault_fits C m locals init t (type_of v) f) (result_of_value (length m.classes.classes) t (held_value C m locals init k D target wt u t h)) in
      let st = held_stands C m locals init result k D target (λ q. wt) u t h k.names (λ q. within_itself k.names) in
      one_less k.names (bind_name here true k (name_in target) (Some (type_of v))).names u (coerced t v) (ap₂ (fits m.classes.classes) c.1 st.type ∙ fits_itself m.classes.classes t)
      (λ known w. less_aimed here target u (held_aimed here k target u t h) true k (Some (type_of v)) (own_sort (coerced t v)) known w (λ q. ap not (own_keeps t v own q)))
  less_one k target wt s (first u y) a v f E sv own =
      let h = aim_first here k target u y a in
      let x = first_name here k target u y a in
      let o = first_open C m locals init result k target u y h x in
      let e = bind_name here true k (name_in target) (Some (type_of v)) in
      let r : sort_in e.types (C.meaning y) ≡ Rattle.py_check_context.specs.Context.has (type_of v) =
      ap (λ (q : Option (List ℕ)). sort_in (bind_name here true k q (Some (type_of v))).types (C.meaning y)) x ∙ first_type_there C m locals init result k s y (type_of v) o in
      let st = variable_stands C m locals init result e.types E target u k h (type_of v) (λ z q. ap (λ n. sort_in e.types (C.meaning n)) (same_Some z y (sym q ∙ x)) ∙ r) k.names in
      one_less k.names e.names u v (ap (fits m.classes.classes (type_of v)) st.type ∙ fits_itself m.classes.classes (type_of v))
      (λ known w. less_aimed here target u (first_aimed here k target u h) true k (Some (type_of v)) (own_sort v) known w (λ q. ap not (own q)))
  less_one k target wt s (barred y) a v f E sv own = absurd (cc)
  less_one k target wt s (unwritten t) a v f E sv own = absurd (cc)
  less_one k target wt s (lacking t x) a v f E sv own = absurd (cc)
  less_one k target wt s (misplaced t) a v f E sv own = absurd (cc)

  -- ---- several targets

  several_less : (names end : List ℕ) (l : List TypedTarget) (v : TypedExpr) (ss : List Sort) → one_takes l (type_of v) ≡ false → part_sorts (type_of v) ≡ ss → ((known : List ℕ) → Within known names → Within (after_parts known l ss) end) → Less names end (act.Assign l v)
  several_less names end l v ss q parts next known w =
      subst (λ b. Within (chosen b (after_parts known l (own_sort v ∷ [])) (after_parts known l (part_sorts (type_of v)))) end) (sym q)
      (subst (λ z. Within (after_parts known l z) end) (sym parts) (next known w))

  one_target_of : (a : Aim) → targets_of (a ∷ []) ≡ target_of a
  one_target_of (held t s) = refl
  one_target_of (first t x) = refl
  one_target_of (barred x) = refl
  one_target_of (unwritten s) = refl
  one_target_of (lacking s x) = refl
  one_target_of (misplaced s) = refl

  less_by : (k : Known) (target : ExprTree) → IsScope here k.types → (l : List Aim) (v : TypedExpr) → LookedAt here k target l (type_of v) → list_all law.is_written (leaves target) ≡ true → Describes here k.types m locals init
      → (end : Known) → end ≡ bind_target here true k target (Some (type_of v)) → Describes here end.types m locals init → stands m locals init false k.names v ≡ true → KeepsNone v → (c : Bool) → is_row target ≡ c → BoundTo m.classes.classes c l (type_of v)
      → Less k.names end.names (act.Assign (targets_of l) (as_value c l v))
  less_by k target sc l v looked written D end same E sv own false q r =
      let one = leaves_one target q in
      let p : end ≡ bind_name here true k (name_in target) (Some (type_of v)) = same ∙ single_bound here true k target (Some (type_of v)) q in
      subst (λ z. Less k.names end.names (act.Assign (targets_of z) (as_value false z v))) (sym r.1)
      (subst (λ z. Less k.names end.names (act.Assign z (as_bound r.0 v))) (sym (one_target_of r.0))
      (subst (λ (z : Known). Less k.names z.names (act.Assign (target_of r.0) (as_bound r.0 v))) (sym p)
      (less_one k target (and_left (law.is_written target) true (subst (λ z. list_all law.is_written z ≡ true) one written)) sc r.0 (single_aim_of C m locals init result k target l r.0 looked.parts r.1 one looked.aims) v r.2 (subst (λ (z : Known). Describes here z.types m locals init) p E) sv own)))
  less_by k target sc l v looked written D end same E sv own true q r =
      let i = items_are (type_of v) (length l) r.parts r.items in
      let p : end ≡ bind_names here true k (target_names target) r.parts = same ∙ row_bound here true k target (type_of v) r.parts q (ap (items_for (type_of v)) (sym looked.many) ∙ r.items) in
      let g = rows C m locals init result k D (leaves target) l looked.parts r.parts (looked.fair r.parts q r.items) [] k k.names (follows_itself k.types) sc (given_start here k.types) (within_itself k.names) (inl (within_itself k.names)) looked.aims written r.refused r.itemless r.fit i.3
      (subst (λ (z : Known). Describes here z.types m locals init) p E) in
      let vs = parts_type C m locals init k.names v i.0 sv i.1 in
      let no : one_takes (targets_of l) (type_of v) ≡ false =
      ap (one_takes (targets_of l)) i.1 ∙ not_single C m locals init result (targets_of l) i.0 vs (λ t e. only_valued C m locals init result (targets_of l) t g.types e) (ap (Rattle.py_typed.specs.WellTyped.parts_fit m locals init result (targets_of l)) i.2 ∙ g.fit) in
      subst (λ (z : Known). Less k.names z.names (act.Assign (targets_of l) v)) (sym p)
      (several_less k.names (bind_names here true k (target_names target) r.parts).names (targets_of l) v r.parts no (ap part_sorts i.1 ∙ i.2)
      (λ known w. less_row here k (leaves target) l looked.parts looked.aims r.refused r.itemless r.parts i.3 k known w))

  -- AN ASSIGNMENT
  pub less_assign : (k : Known) (span : Span) (target e : ExprTree) → IsScope here k.types → are_targets (leaves target) ≡ true → law.is_written e ≡ true → Describes here (binds here k span target e).types m locals init → (a : TypedAct) → (assigns here k span target e).got ≡ Some a → Less k.names (binds here k span target e).names a
  less_assign k span target e sc wt we E a h =
      let value = value_for here k target e in
      let targets = aims_behind here k target (option_map type_of value.got) in
      let r = rule_given span (assigned m.classes.classes target (asked_for here k target)) (both targets value) a h in
      let b = both_given targets value r.0 r.1 in
      let d = assigned_is m.classes.classes target (asked_for here k target) r.0 a r.2 in
      let ok = is_some (assigns here k span target e).got in
      let D = described_before here k.types (binds here k span target e).types m locals init (follows_target here ok k target (option_map type_of value.got)) E in
      let looked = looked_behind here k target r.0.0 (option_map type_of value.got) (type_of r.0.1) b.0 (ap (option_map type_of) b.1) in
      let sv = given_stands C m locals init k D target wt r.0.0 (option_map type_of value.got) b.0 e we r.0.1 d.bound d.fits b.1 k.names (within_itself k.names) in
      let own = (keeps here k.types (asked_by (is_row target) (target_aims here k target).got) k.names e).each r.0.1 b.1 in
      let same = bound_same here k target ok (option_map type_of value.got) (type_of r.0.1) (some_is (assigns here k span target e).got a h) (ap (option_map type_of) b.1) in
      subst (Less k.names (binds here k span target e).names) d.is (less_by k target sc r.0.0 r.0.1 looked wt D (binds here k span target e) same E sv own (is_row target) refl d.bound)

  -- ---- annotations

  less_name : (k : Known) (span : Span) (x : List ℕ) (target mark e : ExprTree) → name_in target ≡ Some x → IsScope here k.types → law.is_written e ≡ true → Describes here (binds_annotated here k span (Some x) target mark (Some e)).types m locals init → (a : TypedAct) → (gives_value here k span x mark e).got ≡ Some a
      → Less k.names (binds_annotated here k span (Some x) target mark (Some e)).names a
  less_name k span x target mark e n sc we E a h =
      let s = gives_value here k span x mark e in
      let parts = both (seen_aim (name_aim k x (C.meaning x))) (annotation C.meaning mark) in
      let r = rule_given span (given m.classes.classes x (is_bound k (C.meaning x))) (both parts (annotated_value here k x e)) a h in
      let b = both_given parts (annotated_value here k x e) r.0 r.1 in
      let c = both_given (seen_aim (name_aim k x (C.meaning x))) (annotation C.meaning mark) r.0.0 b.0 in
      let g = given_is m.classes.classes x (is_bound k (C.meaning x)) r.0 a r.2 in
      let aim = r.0.0.0 in
      let v = r.0.1 in
      let end = bind_target here (is_some s.got) k target (option_map type_of (annotated_value here k x e).got) in
      let same = bound_same here k target (is_some s.got) (option_map type_of (annotated_value here k x e).got) (type_of v) (some_is s.got a h) (ap (option_map type_of) b.1) in
      let p = same ∙ single_bound here true k target (Some (type_of v)) (name_no_row target x n) in
      let D = described_before here k.types end.types m locals init (follows_target here (is_some s.got) k target (option_map type_of (annotated_value here k x e).got)) E in
      let at_name : AimAt here k (name_in target) target aim = subst (λ o. AimAt here k o target aim) (sym n) c.0 in
      let wt = name_written target x n in
      let sv = single_stands C m locals init k D (target ∷ []) (and_from (law.is_written target) true wt refl) (aim ∷ []) None (record { here = at_name; rest = tt }) e we v (aim, refl, g.right)
      (ap (λ z. (typed_at here k z e).got) (sym (asked_same k x (C.meaning x) aim c.0)) ∙ b.1) k.names (within_itself k.names) in
      let own = (keeps here k.types (asked (variable_at k (C.meaning x))) k.names e).each v b.1 in
      subst (Less k.names end.names) g.is
      (subst (λ (z : Known). Less k.names z.names (act.Assign (target_of aim) (as_bound aim v))) (sym p)
      (less_one k target wt sc aim at_name v g.right (subst (λ (z : Known). Describes here z.types m locals init) p E) sv own))

  -- an attribute of the object that an `__init__` sets up
  less_own : (k : Known) (span : Span) (p : ExprTree × List ℕ) (target mark e : ExprTree) → own_attribute C.inside target ≡ Some p → IsScope here k.types → law.is_written e ≡ true → Describes here (bind_target here false k target (other_sort here k target (Some e))).types m locals init → (a : TypedAct) → (gives_own here k span p.1 target mark e).got ≡ Some a → Less k.names (bind_target here false k target (other_sort here k target (Some e))).names a
  less_own k span p target mark e o sc we E a h =
      let q = own_given C m locals init result k span p target mark e o a h in
      let g = q.3 in
      let v = q.1 in
      let s = own_single C.inside target p o in
      let wt = own_written C m locals init result target p o in
      let same = own_unbound here k target p (other_sort here k target (Some e)) o in
      let named : bind_name here true k (name_in target) (Some (type_of v)) ≡ k = ap (λ z. bind_name here true k z (Some (type_of v))) s.1 in
      let D : Describes here k.types m locals init = subst (λ (z : Known). Describes here z.types m locals init) same E in
      let sv = single_stands C m locals init k D (target ∷ []) (and_from (law.is_written target) true wt refl) (g.aim ∷ []) None (record { here = g.here_it_is; rest = tt }) e we v (g.aim, refl, g.right) g.valued k.names (within_itself k.names) in
      let own = (keeps here k.types (asked_by (is_row target) (target_aims here k target).got) k.names e).each v q.2 in
      subst (Less k.names (bind_target here false k target (other_sort here k target (Some e))).names) g.is
      (subst (λ (z : Known). Less k.names z.names (act.Assign (target_of g.aim) (as_bound g.aim v))) (named ∙ sym same)
      (less_one k target wt sc g.aim g.here_it_is v g.right (subst (λ (z : Known). Describes here z.types m locals init) (sym named) D) sv own))

  -- AN ASSIGNMENT WITH AN ANNOTATION
  pub less_annotated : (k : Known) (span : Span) (x : Option (List ℕ)) (target mark e : ExprTree) → name_in target ≡ x → IsScope here k.types → law.is_written e ≡ true → Describes here (binds_annotated here k span x target mark (Some e)).types m locals init → (a : TypedAct) → (annotates here k span x target mark (Some e)).got ≡ Some a
      → Less k.names (binds_annotated here k span x target mark (Some e)).names a
  less_annotated k span (Some x) target mark e n sc we E a h = less_name k span x target mark e n sc we E a h
  less_annotated k span None target mark e n sc we E a h = by (own_attribute C.inside target) refl h
    where
      by : (o : Option (ExprTree × List ℕ)) → own_attribute C.inside target ≡ o → (annotates_at here k span o target mark (Some e)).got ≡ Some a → Less k.names (binds_annotated here k span None target mark (Some e)).names a
      by None q g = absurd (no_part_given (both (both (aims_behind here k target (option_map type_of (value_for here k target e).got)) (annotation C.meaning mark)) (value_for here k target e)).got span no_target a g)
      by (Some p) q g = less_own k span p target mark e q sc we E a g

  other_kept : (ok : Bool) (k : Known) (n : Meaning) (t : Option Sort) → not (is_own n) ≡ true → (bind_variable ok k n t).names ≡ k.names
  other_kept ok k (meaning.Local i) t h = absurd (cc)
  other_kept ok k (meaning.Global i) t h = refl
  other_kept ok k _ t h = refl

  -- one without a value, of a variable that is not the function's own
  pub less_bare : (k : Known) (span : Span) (x : Option (List ℕ)) (target mark : ExprTree) → name_in target ≡ x → not (is_own_name C.meaning x) ≡ true → (a : TypedAct) → (annotates here k span x target mark None).got ≡ Some a → Less k.names (binds_annotated here k span x target mark None).names a
  less_bare k span None target mark n bare a h = by (own_attribute C.inside target) refl h
    where
      by : (o : Option (ExprTree × List ℕ)) → own_attribute C.inside target ≡ o → (annotates_at here k span o target mark None).got ≡ Some a → Less k.names (binds_annotated here k span None target mark None).names a
      by None q g = absurd (no_part_given (both (target_aims here k target) (annotation C.meaning mark)).got span no_target a g)
      by (Some p) q g =
          let r = rule_given span (declared_own (declaring_fault C.inside p.1 span)) (both (target_aims here k target) (annotation C.meaning mark)) a g in
          subst (Less k.names (bind_target here false k target (other_sort here k target None)).names) (declared_own_is (declaring_fault C.inside p.1 span) r.0 a r.2)
          (λ known w. subst (λ (z : Known). Within known z.names) (sym (own_unbound here k target p (other_sort here k target None) q)) w)
  less_bare k span (Some x) target mark n bare a h =
      let r = rule_given span (declared x (is_bound k (C.meaning x))) (both (seen_aim (name_aim k x (C.meaning x))) (annotation C.meaning mark)) a h in
      let q = unless_ok (annotation_fault x (is_bound k (C.meaning x)) r.0.0) act.Pass a r.2 in
      let ok = is_some (declares here k span x mark).got in
      let p = single_bound here ok k target (Some sort.Nothing) (name_no_row target x n) ∙ ap (λ o. bind_name here ok k o (Some sort.Nothing)) n in
      subst (Less k.names (bind_target here ok k target (Some sort.Nothing)).names) q.1
      (λ known w. subst (λ (z : Known). Within known z.names) (sym p) (subst (Within known) (sym (other_kept ok k (C.meaning x) (Some sort.Nothing) bare)) w))

  -- ---- operations with assignment

  only_target : (t u : TypedTarget) (more : List TypedTarget) → t ∷ [] ≡ u ∷ more → t ≡ u
  only_target t u more h = cc

  update_less : (k : Known) (target : ExprTree) (o : BinOp) (a : Aim) → AimAt here k (name_in target) target a → (p : TypedExpr) (s : Sort) (u : TypedTarget) (more : List TypedTarget) → target_of a ≡ u ∷ more → Less k.names (bind_name here false k (name_in target) None).names (act.Aug u o p s)
  update_less k target o (held t r) a p s u more is known w =
      subst (λ z. Within (after_target known z s) (bind_name here false k (name_in target) None).names) (only_target t u more is) (less_aimed here target t (held_aimed here k target t r (aim_held here k target t r a)) false k None s known w (λ q. refl))
  update_less k target o (first t x) a p s u more is known w =
      subst (λ z. Within (after_target known z s) (bind_name here false k (name_in target) None).names) (only_target t u more is) (less_aimed here target t (first_aimed here k target t (aim_first here k target t x a)) false k None s known w (λ q. refl))
  update_less k target o (barred x) a p s u more is known w = absurd (cc)
  update_less k target o (unwritten r) a p s u more is known w = absurd (cc)
  update_less k target o (lacking r x) a p s u more is known w = absurd (cc)
  update_less k target o (misplaced r) a p s u more is known w = absurd (cc)

  -- AN OPERATION WITH ASSIGNMENT
  pub less_update : (k : Known) (span : Span) (target : ExprTree) (o : BinOp) (e : ExprTree) (a : TypedAct) → (updates here k span target o e).got ≡ Some a → Less k.names (bind_target here false k target None).names a
  less_update k span target o e a h = by (is_row target) refl (lacking_in here target) refl h
    where
      by : (b : Bool) → is_row target ≡ b → (x : Option (ExprTree × List ℕ)) → lacking_in here target ≡ x → (if b then updates_row here k span target e else updates_single here k span x target o e).got ≡ Some a → Less k.names (bind_target here false k target None).names a
      by false q (Some p) l f = absurd (never_lacking m.classes.classes span p.1 (both (typed_at here k free p.0) (typed_at here k free e)) a f)
      by true q x l f = absurd (never_row m.classes.classes span (both (aims_behind here k target None) (typed_at here k free e)) a f)
      by false q None l f =
          let r = rule_given span (updated m.classes.classes span o (read_aim here k (name_in target) (is_access target))) (both (typed_at here k free target) (typed_at here k free e)) a f in
          let b = both_given (typed_at here k free target) (typed_at here k free e) r.0 r.1 in
          let u = updated_is m.classes.classes span o (read_aim here k (name_in target) (is_access target)) r.0 a r.2 in
          let aim = read_aim here k (name_in target) (is_access target) r.0.0 in
          subst (Less k.names (bind_target here false k target None).names) u.is
          (subst (λ (z : Known). Less k.names z.names (act.Aug u.target o r.0.1 (type_of u.result))) (sym (single_bound here false k target None q))
          (update_less k target o aim (read_aim_at here k (name_in target) target r.0.0 l b.0 u.placed) r.0.1 (type_of u.result) u.target u.more u.aimed))
