-- Assignments, returns and operations with assignment that are typed stand well typed.
use Rattle.std.proofs.Common.{◌≡◌, ℕ, Bool, true, false, not, ◌&&◌, List, [], ◌∷◌, length, Option, Some, None, refl, ap, ap₂, sym, ◌∙◌, subst, if◌then◌else◌, inl}
use Rattle.std.proofs.lemmas.Bool.{and_from, or_left, or_right}
use Rattle.std.proofs.lemmas.Option.{same_Some}
use Rattle.std.specs.List.{list_all}
use Rattle.std.specs.Option.{option_map}
use Rattle.std.specs.Prelude.{is_some}
use Rattle.py_syntax.specs.declared.token.Span.{Span}
use Rattle.py_syntax.specs.Expressions as tree
use Rattle.py_syntax.specs.Expressions.{ExprTree, at}
use Rattle.py_typed.specs.Sorts as sort
use Rattle.py_typed.specs.Sorts.{Sort, Sorts, no_sorts, sort_then, listed_sorts}
use Rattle.py_typed.specs.Fits.{is_same_type, is_nothing, fits}
use Rattle.py_typed.specs.Expressions.{TypedExpr, type_of}
use Rattle.py_typed.specs.Statements as act
use Rattle.py_typed.specs.Statements.{Variable, TypedModule, TypedTarget, TypedAct}
use Rattle.py_typed.specs.Narrowing as telling
use Rattle.py_typed.specs.Narrowing.{may_be_none, own_sort, after_target, after_parts, part_sorts}
use Rattle.py_typed.specs.WellTypedExpr.{stands, is_value_type, are_value_types}
use Rattle.py_typed.specs.WellTyped as stmt
use Rattle.py_typed.proofs.FitLemmas.{type_is_itself, fits_itself, and_left, and_right}
use Rattle.py_check_context.specs.Context.{Context, VarSorts, free}
use Rattle.py_check_flow.specs.Bindings.{name_in}
use Rattle.py_check_messages.specs.Seen.{both}
use Rattle.py_check_coercions.specs.Values.{coerced}
use Rattle.py_check_values.specs.Aims.{Aim, held, first, barred, unwritten, misplaced, lacking}
use Rattle.py_check_values.specs.Assignments.{binding_fault, as_bound, items_for}
use Rattle.py_check_places.specs.Places.{Known, is_plain, bind_name, bind_names}
use Rattle.py_check_places.specs.Shapes.{is_row, leaves, target_names, bind_target}
use Rattle.py_check_targets.specs.Targets.{target_of, targets_of, assigned, aims_behind, given_own, asked_by, typed_at, target_aims}
use Rattle.py_check_assignments.specs.Assignments.{value_for, assigns, binds, asked_for, gives_own}
use Rattle.py_check_expressions_laws.specs.WellTyped as law
use Rattle.py_check_expressions_laws.specs.WellTyped.{Describes, Within}
use Rattle.py_check_expressions_laws.proofs.Stands.{coerced_stands}
use Rattle.py_check_laws.specs.Variables.{sort_in}
use Rattle.py_check_laws.proofs.Looked.{LookedAt, looked_behind}
use Rattle.py_check_laws.specs.WellTyped.{are_targets, IsScope}
use Rattle.py_check_laws.proofs.Given.{some_is, both_given, rule_given}
use Rattle.py_check.proofs.Bound.{leaves_one, single_bound}
use Rattle.py_check.proofs.Kept.{Follows, follows_itself, follows_name, follows_target, is_open}
use Rattle.py_check_laws.proofs.Assigned.{row_bound, items_are, BoundTo, as_value, assigned_is, own_single, given_own_is}
use Rattle.py_check_laws.proofs.Whole.{bound_same}
use Rattle.py_check_laws.proofs.Names.{within_kept}
use Rattle.py_check_laws.proofs.Aims.{AimAt, AimsOf, aim_held, aim_first, first_name, held_aimed, first_aimed, aimed_bound, aims_are}
use Rattle.py_check_laws.proofs.Values.{scene, held_value, fault_fits, stands_type, parts_type, given_stands}
use Rattle.py_check_laws.proofs.Towers.{no_tower}
use Rattle.py_check_laws.proofs.Targets.{not_true, own_plain, own_coerced, given_start, TargetStands, held_stands, variable_stands, bind_first, open_unset, open_variable, first_open, RowStands, rows}
use Rattle.py_check_laws.proofs.Closed.{scope_there}
use Rattle.py_check_expressions_laws.proofs.Types.{result_of_value}
use Rattle.py_check_targets.specs.Attributes.{own_attribute, is_set_up, declaring_fault}
use Rattle.py_check_annotations.specs.Annotations.{annotation}
use Rattle.py_check_context.specs.Members.{Inside}

four : (a b c d : Bool) → a ≡ true → b ≡ true → c ≡ true → d ≡ true → (a && b && c && d) ≡ true
four a b c d p q r s = cc

pub name_written : (e : ExprTree) (x : List ℕ) → name_in e ≡ Some x → law.is_written e ≡ true
name_written (at (tree.Name y) span) x h = refl
name_written _ x h = absurd (cc)

-- known by its descriptions further down
pub described_before : (C : Context) (V W : VarSorts) (m : TypedModule) (locals : List Variable) (init : Option ℕ) → Follows V W → Describes C W m locals init → Describes C V m locals init
described_before C V W m locals init f D = record {
  classes = D.classes;
  tree = D.tree;
  locals_are = λ i t e. D.locals_are i t (f.locals.stays i (ap Rattle.py_check_places.specs.Places.is_unset e) ∙ e);
  globals_are = λ i t e. D.globals_are i t (f.globals.stays i (ap Rattle.py_check_places.specs.Places.is_unset e) ∙ e);
  functions_are = D.functions_are;
  attributes_are = D.attributes_are;
  attributes_typed = D.attributes_typed;
  methods_are = D.methods_are;
  inits_are = D.inits_are;
  inits_signed = D.inits_signed;
  inside_is = D.inside_is;
  next_signed = D.next_signed;
}

module _ (C : Context) (m : TypedModule) (locals : List Variable) (init : Option ℕ) (result : Option Sort) where
  abbrev here : Context
  here = scene C m locals init

  abbrev pub single : List TypedTarget → Sort → Bool
  single = stmt.is_single m locals init result

  -- a typed act stands, and what is known behind it is known
  pub record Good (loops handling : Bool) (others end : List ℕ) (a : TypedAct) : Type 0 where
    pub typed : stmt.act_typed m locals init result others loops handling a ≡ true
    pub names : Within end (telling.after_act single others a)

  -- ---- one target

  one_typed : (others : List ℕ) (target : TypedTarget) (ss : List Sort) → stmt.target_typed m locals init result others target ≡ true → stmt.targets_typed m locals init result others (target ∷ []) ss ≡ true
  one_typed others target [] h = and_from (stmt.target_typed m locals init result others target) true h refl
  one_typed others target (s ∷ ss) h = and_from (stmt.target_typed m locals init result others target) true h refl

  abbrev chosen : Bool → List ℕ → List ℕ → List ℕ
  chosen b xs ys = if b then xs else ys

  -- bound to a value of its own type
  bound_one : (loops handling : Bool) (others names : List ℕ) (target : TypedTarget) (t : Sort) (v : TypedExpr) → TargetStands C m locals init result others target t → stands m locals init false others v ≡ true → type_of v ≡ t → Within names (after_target others target (own_sort v)) → Good loops handling others names (act.Assign (target ∷ []) v)
  bound_one loops handling others names target t v st sv q w = record {
    typed = four (stands m locals init false others v) true (stmt.targets_typed m locals init result others (target ∷ []) (part_sorts (type_of v))) (stmt.assignment_fits m locals init result (target ∷ []) (type_of v)) sv refl (one_typed others target (part_sorts (type_of v)) st.there)
        (or_left (is_same_type (type_of v) (stmt.target_type m locals init result target)) (not (fits m.classes.classes (type_of v) (stmt.target_type m locals init result target)) && stmt.parts_fit m locals init result (target ∷ []) (part_sorts (type_of v)))
        (ap₂ is_same_type q st.type ∙ type_is_itself t));
    names = subst (λ b. Within names (chosen b (after_parts others (target ∷ []) (own_sort v ∷ [])) (after_parts others (target ∷ []) (part_sorts (type_of v)))))
        (sym (ap₂ (fits m.classes.classes) q st.type ∙ fits_itself m.classes.classes t))
        (within_kept names (after_target others target (own_sort v)) w);
  }

  -- the type of a variable behind its first binding
  pub first_type_there : (k : Known) → IsScope here k.types → (y : List ℕ) (t : Sort) → is_open k.types (C.meaning y) ≡ true → sort_in (Rattle.py_check_places.specs.Places.bind_variable true k (C.meaning y) (Some t)).types (C.meaning y) ≡ Rattle.py_check_context.specs.Context.has t
  first_type_there k s y t o = bind_first k (C.meaning y) t (scope_there here k.types s y) (open_variable k.types (C.meaning y) o) (open_unset k.types (C.meaning y) o)

  -- ONE TARGET, that is looked at with the types of this place
  pub good_one : (loops handling : Bool) (k : Known) (target : ExprTree) → law.is_written target ≡ true → IsScope here k.types → (a : Aim) → AimAt here k (name_in target) target a → (v : TypedExpr) → binding_fault m.classes.classes a (type_of v) ≡ None → Describes here (bind_name here true k (name_in target) (Some (type_of v))).types m locals init
      → (others : List ℕ) → Within k.names others → stands m locals init false others v ≡ true → Good loops handling others (bind_name here true k (name_in target) (Some (type_of v))).names (act.Assign (target_of a) (as_bound a v))
  good_one loops handling k target wt s (held u t) a v f E others w sv =
      let D = described_before here k.types (bind_name here true k (name_in target) (Some (type_of v))).types m locals init (follows_name here true k (name_in target) (Some (type_of v))) E in
      let h = aim_held here k target u t a in
      let c = coerced_stands m locals init others t v sv (fault_fits C m locals init t (type_of v) f) (result_of_value (length m.classes.classes) t (held_value C m locals init k D target wt u t h)) in
      bound_one loops handling others (bind_name here true k (name_in target) (Some (type_of v))).names u t (coerced t v) (held_stands C m locals init result k D target (λ q. wt) u t h others (λ q. w)) c.0 c.1
      (aimed_bound here target u (held_aimed here k target u t h) true k (Some (type_of v)) (own_sort (coerced t v)) others w (λ q. own_coerced m locals init others t v sv (not_true (may_be_none (type_of v)) q)))
  good_one loops handling k target wt s (first u y) a v f E others w sv =
      let h = aim_first here k target u y a in
      let x = first_name here k target u y a in
      let o = first_open C m locals init result k target u y h x in
      let e = bind_name here true k (name_in target) (Some (type_of v)) in
      let r : sort_in e.types (C.meaning y) ≡ Rattle.py_check_context.specs.Context.has (type_of v) =
      ap (λ (q : Option (List ℕ)). sort_in (bind_name here true k q (Some (type_of v))).types (C.meaning y)) x ∙ first_type_there k s y (type_of v) o in
      bound_one loops handling others e.names u (type_of v) v
      (variable_stands C m locals init result e.types E target u k h (type_of v) (λ z q. ap (λ n. sort_in e.types (C.meaning n)) (same_Some z y (sym q ∙ x)) ∙ r) others) sv refl
      (aimed_bound here target u (first_aimed here k target u h) true k (Some (type_of v)) (own_sort v) others w (λ q. own_plain m locals init others v sv (not_true (may_be_none (type_of v)) q)))
  good_one loops handling k target wt s (barred y) a v f E others w sv = absurd (cc)
  good_one loops handling k target wt s (unwritten t) a v f E others w sv = absurd (cc)
  good_one loops handling k target wt s (lacking t x) a v f E others w sv = absurd (cc)
  good_one loops handling k target wt s (misplaced t) a v f E others w sv = absurd (cc)

  -- ---- several targets

  pub filled_targets : (l : List TypedTarget) (ss : List Sort) → stmt.parts_fit m locals init result l ss ≡ true → (ss ≡ [] → ⊥) → stmt.is_filled m locals init result l ≡ true
  filled_targets [] [] h n = absurd (n refl)
  filled_targets [] (s ∷ ss) h n = absurd (cc)
  filled_targets (t ∷ l) ss h n = refl

  pub parts_there : (ts : Sorts) → is_value_type (length m.classes.classes) (sort.TupleOf ts) ≡ true → listed_sorts ts ≡ [] → ⊥
  parts_there no_sorts h q = cc
  parts_there (sort_then t ts) h q = cc

  -- one target of a row does not take the whole tuple
  one_not_single : (t : TypedTarget) (s : Sort) → is_value_type (length m.classes.classes) s ≡ true → is_value_type (length m.classes.classes) (stmt.target_type m locals init result t) ≡ true → fits m.classes.classes s (stmt.target_type m locals init result t) ≡ true → fits m.classes.classes (sort.TupleOf (sort_then s no_sorts)) (stmt.target_type m locals init result t) ≡ false
  one_not_single t s vs vt f = by (fits m.classes.classes (sort.TupleOf (sort_then s no_sorts)) (stmt.target_type m locals init result t)) refl
    where
      by : (b : Bool) → fits m.classes.classes (sort.TupleOf (sort_then s no_sorts)) (stmt.target_type m locals init result t) ≡ b → b ≡ false
      by true q = absurd (no_tower m.classes.classes (length m.classes.classes) s (stmt.target_type m locals init result t) vs vt f q)
      by false q = refl

  pub not_single : (l : List TypedTarget) (ts : Sorts) → are_value_types (length m.classes.classes) ts ≡ true → ((t : TypedTarget) → l ≡ t ∷ [] → is_value_type (length m.classes.classes) (stmt.target_type m locals init result t) ≡ true) → stmt.parts_fit m locals init result l (listed_sorts ts) ≡ true → single l (sort.TupleOf ts) ≡ false
  not_single [] ts v types h = refl
  not_single (t ∷ u ∷ l) ts v types h = refl
  not_single (t ∷ []) no_sorts v types h = absurd (cc)
  not_single (t ∷ []) (sort_then s no_sorts) v types h =
      one_not_single t s (and_left (is_value_type (length m.classes.classes) s) true v) (types t refl) (and_left (fits m.classes.classes s (stmt.target_type m locals init result t)) true h)
  not_single (t ∷ []) (sort_then s (sort_then r ts)) v types h = let bad = and_right (fits m.classes.classes s (stmt.target_type m locals init result t)) false h in absurd (cc)

  -- ---- assignments

  row_fits : (l : List TypedTarget) (s : Sort) → single l s ≡ false → stmt.parts_fit m locals init result l (part_sorts s) ≡ true → stmt.assignment_fits m locals init result l s ≡ true
  row_fits [] s q h = h
  row_fits (t ∷ []) s q h =
      or_right (is_same_type s (stmt.target_type m locals init result t)) (not (fits m.classes.classes s (stmt.target_type m locals init result t)) && stmt.parts_fit m locals init result (t ∷ []) (part_sorts s))
      (and_from (not (fits m.classes.classes s (stmt.target_type m locals init result t))) (stmt.parts_fit m locals init result (t ∷ []) (part_sorts s)) (ap not q) h)
  row_fits (t ∷ u ∷ l) s q h = h

  pub only_valued : (l : List TypedTarget) (t : TypedTarget) → list_all (λ u. is_value_type (length m.classes.classes) (stmt.target_type m locals init result u)) l ≡ true → l ≡ t ∷ [] → is_value_type (length m.classes.classes) (stmt.target_type m locals init result t) ≡ true
  only_valued l t h q = and_left (is_value_type (length m.classes.classes) (stmt.target_type m locals init result t)) true (subst (λ z. list_all (λ u. is_value_type (length m.classes.classes) (stmt.target_type m locals init result u)) z ≡ true) q h)

  -- a tuple for a row
  bound_row : (loops handling : Bool) (others names : List ℕ) (l : List Aim) (ts : Sorts) (v : TypedExpr) → stands m locals init false others v ≡ true → type_of v ≡ sort.TupleOf ts → RowStands C m locals init result others l (listed_sorts ts) names → Good loops handling others names (act.Assign (targets_of l) v)
  bound_row loops handling others names l ts v sv q r =
      let vs = parts_type C m locals init others v ts sv q in
      let parts : part_sorts (type_of v) ≡ listed_sorts ts = ap part_sorts q in
      let no : single (targets_of l) (type_of v) ≡ false = ap (single (targets_of l)) q ∙ not_single (targets_of l) ts vs (λ t e. only_valued (targets_of l) t r.types e) r.fit in
      let whole = stands_type C m locals init others v sv (ap is_nothing q) in
      record {
        typed = four (stands m locals init false others v) (stmt.is_filled m locals init result (targets_of l)) (stmt.targets_typed m locals init result others (targets_of l) (part_sorts (type_of v))) (stmt.assignment_fits m locals init result (targets_of l) (type_of v)) sv
            (filled_targets (targets_of l) (listed_sorts ts) r.fit (parts_there ts (subst (λ s. is_value_type (length m.classes.classes) s ≡ true) q whole)))
            (ap (stmt.targets_typed m locals init result others (targets_of l)) parts ∙ r.typed)
            (row_fits (targets_of l) (type_of v) no (ap (stmt.parts_fit m locals init result (targets_of l)) parts ∙ r.fit));
        names = subst (λ b. Within names (chosen b (after_parts others (targets_of l) (own_sort v ∷ [])) (after_parts others (targets_of l) (part_sorts (type_of v))))) (sym no) (subst (λ z. Within names (after_parts others (targets_of l) z)) (sym parts) r.names);
      }

  pub one_target_of : (a : Aim) → targets_of (a ∷ []) ≡ target_of a
  one_target_of (held t s) = refl
  one_target_of (first t x) = refl
  one_target_of (barred x) = refl
  one_target_of (unwritten s) = refl
  one_target_of (lacking s x) = refl
  one_target_of (misplaced s) = refl

  pub single_aim_of : (k : Known) (target : ExprTree) (l : List Aim) (a : Aim) (ts : Option (List Sort)) → l ≡ a ∷ [] → leaves target ≡ target ∷ [] → AimsOf here k ts (leaves target) l → AimAt here k (name_in target) target a
  single_aim_of k target l a ts q p h = (subst (λ z. AimsOf here k ts z (a ∷ [])) p (subst (AimsOf here k ts (leaves target)) q h)).here

  assign_by : (loops handling : Bool) (k : Known) (target : ExprTree) → IsScope here k.types → (l : List Aim) (v : TypedExpr) → LookedAt here k target l (type_of v) → list_all law.is_written (leaves target) ≡ true → Describes here k.types m locals init
      → (end : Known) → end ≡ bind_target here true k target (Some (type_of v)) → Describes here end.types m locals init → (others : List ℕ) → Within k.names others → stands m locals init false others v ≡ true → (c : Bool) → is_row target ≡ c → BoundTo m.classes.classes c l (type_of v)
      → Good loops handling others end.names (act.Assign (targets_of l) (as_value c l v))
  assign_by loops handling k target sc l v looked written D end same E others w sv false q r =
      let one = leaves_one target q in
      let p : end ≡ bind_name here true k (name_in target) (Some (type_of v)) = same ∙ single_bound here true k target (Some (type_of v)) q in
      subst (λ z. Good loops handling others end.names (act.Assign (targets_of z) (as_value false z v))) (sym r.1)
      (subst (λ z. Good loops handling others end.names (act.Assign z (as_bound r.0 v))) (sym (one_target_of r.0))
      (subst (λ (z : Known). Good loops handling others z.names (act.Assign (target_of r.0) (as_bound r.0 v))) (sym p)
      (good_one loops handling k target (and_left (law.is_written target) true (subst (λ z. list_all law.is_written z ≡ true) one written)) sc r.0 (single_aim_of k target l r.0 looked.parts r.1 one looked.aims) v r.2 (subst (λ (z : Known). Describes here z.types m locals init) p E) others w sv)))
  assign_by loops handling k target sc l v looked written D end same E others w sv true q r =
      let i = items_are (type_of v) (length l) r.parts r.items in
      let p : end ≡ bind_names here true k (target_names target) r.parts = same ∙ row_bound here true k target (type_of v) r.parts q (ap (items_for (type_of v)) (sym looked.many) ∙ r.items) in
      let g = rows C m locals init result k D (leaves target) l looked.parts r.parts (looked.fair r.parts q r.items) [] k others (follows_itself k.types) sc (given_start here k.types) w (inl w) looked.aims written r.refused r.itemless r.fit i.3 (subst (λ (z : Known). Describes here z.types m locals init) p E) in
      subst (λ (z : Known). Good loops handling others z.names (act.Assign (targets_of l) v)) (sym p)
      (bound_row loops handling others (bind_names here true k (target_names target) r.parts).names l i.0 v sv i.1
      (subst (λ z. RowStands C m locals init result others l z (bind_names here true k (target_names target) r.parts).names) (sym i.2) g))

  -- ---- an attribute of the object that an `__init__` sets up

  pub own_written : (target : ExprTree) (p : ExprTree × List ℕ) → own_attribute C.inside target ≡ Some p → law.is_written target ≡ true
  own_written (at (tree.Attr e a) span) p h = by (name_in e) refl h
    where
      by : (o : Option (List ℕ)) → name_in e ≡ o → (if is_set_up C.inside o then Some (e, a) else None) ≡ Some p → law.is_written e ≡ true
      by (Some x) n g = name_written e x n
      by None n g = absurd (never C.inside g)
        where
          never : (i : Option Inside) → (if is_set_up i None then Some (e, a) else None) ≡ Some p → ⊥
          never None q = cc
          never (Some i) q = cc
  own_written _ p h = absurd (cc)

  -- it takes a value, and binds no name
  pub record OwnGiven (k : Known) (target e : ExprTree) (l : List Aim) (v : TypedExpr) (a : TypedAct) : Type 0 where
    pub aim : Aim
    pub here_it_is : AimAt here k (name_in target) target aim
    pub right : binding_fault m.classes.classes aim (type_of v) ≡ None
    pub valued : (typed_at here k (asked_by false (Some (aim ∷ []))) e).got ≡ Some v
    pub is : act.Assign (target_of aim) (as_bound aim v) ≡ a

  pub own_given : (k : Known) (span : Span) (p : ExprTree × List ℕ) (target mark e : ExprTree) → own_attribute C.inside target ≡ Some p → (a : TypedAct) → (gives_own here k span p.1 target mark e).got ≡ Some a → (l : List Aim) × (v : TypedExpr) × ((value_for here k target e).got ≡ Some v) × OwnGiven k target e l v a
  own_given k span p target mark e o a h =
      let front = both (target_aims here k target) (annotation C.meaning mark) in
      let r = rule_given span (given_own m.classes.classes target (declaring_fault C.inside p.1 span)) (both front (value_for here k target e)) a h in
      let b = both_given front (value_for here k target e) r.0 r.1 in
      let c = both_given (target_aims here k target) (annotation C.meaning mark) r.0.0 b.0 in
      let d = given_own_is m.classes.classes target (declaring_fault C.inside p.1 span) r.0 a r.2 in
      let s = own_single C.inside target p o in
      let l = r.0.0.0 in
      let v = r.0.1 in
      let x : BoundTo m.classes.classes false l (type_of v) = subst (λ z. BoundTo m.classes.classes z l (type_of v)) s.0 d.bound in (
        l,
        v,
        b.1,
        record {
          aim = x.0;
          here_it_is = single_aim_of k target l x.0 None x.1 (leaves_one target s.0) (aims_are here k None (leaves target) l c.0);
          right = x.2;
          valued = ap₂ (λ (z : Bool) (q : Option (List Aim)). (typed_at here k (asked_by z q) e).got) (sym s.0) (sym (c.0 ∙ ap Some x.1)) ∙ b.1;
          is = ap (λ ts. act.Assign ts (as_bound x.0 v)) (sym (one_target_of x.0)) ∙ ap (λ z. act.Assign (targets_of z) (as_value false z v)) (sym x.1) ∙ ap (λ z. act.Assign (targets_of l) (as_value z l v)) (sym s.0) ∙ d.is;
        },
      )

  -- AN ASSIGNMENT
  pub good_assign : (loops handling : Bool) (k : Known) (span : Span) (target e : ExprTree) → IsScope here k.types → are_targets (leaves target) ≡ true → law.is_written e ≡ true → Describes here (binds here k span target e).types m locals init → (a : TypedAct) → (assigns here k span target e).got ≡ Some a → (others : List ℕ) → Within k.names others
      → Good loops handling others (binds here k span target e).names a
  good_assign loops handling k span target e sc wt we E a h others w =
      let value = value_for here k target e in
      let targets = aims_behind here k target (option_map type_of value.got) in
      let r = rule_given span (assigned m.classes.classes target (asked_for here k target)) (both targets value) a h in
      let b = both_given targets value r.0 r.1 in
      let d = assigned_is m.classes.classes target (asked_for here k target) r.0 a r.2 in
      let ok = is_some (assigns here k span target e).got in
      let D = described_before here k.types (binds here k span target e).types m locals init (follows_target here ok k target (option_map type_of value.got)) E in
      let looked = looked_behind here k target r.0.0 (option_map type_of value.got) (type_of r.0.1) b.0 (ap (option_map type_of) b.1) in
      let sv = given_stands C m locals init k D target wt r.0.0 (option_map type_of value.got) b.0 e we r.0.1 d.bound d.fits b.1 others w in
      let same = bound_same here k target ok (option_map type_of value.got) (type_of r.0.1) (some_is (assigns here k span target e).got a h) (ap (option_map type_of) b.1) in
      subst (Good loops handling others (binds here k span target e).names) d.is
      (assign_by loops handling k target sc r.0.0 r.0.1 looked wt D (binds here k span target e) same E others w sv (is_row target) refl d.bound)
