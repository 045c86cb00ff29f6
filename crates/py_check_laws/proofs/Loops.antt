-- The heads of loops that are typed stand well typed, and so do the loops.
use Rattle.std.proofs.Common.{◌≡◌, ℕ, Bool, true, false, ◌&&◌, List, [], ◌∷◌, ◌++◌, length, Option, Some, None, refl, ap, sym, ◌∙◌, subst, ◌⊎◌, inl, inr}
use Rattle.std.proofs.lemmas.Bool.{and_from, or_left, or_right}
use Rattle.std.proofs.lemmas.Option.{same_Some}
use Rattle.std.specs.List.{list_all}
use Rattle.std.specs.Prelude.{is_some}
use Rattle.py_syntax.specs.declared.token.Span.{Span}
use Rattle.py_syntax.specs.Expressions as tree
use Rattle.py_syntax.specs.Expressions.{ExprTree, at}
use Rattle.py_syntax.specs.Statements.{StmtTree}
use Rattle.py_typed.specs.Sorts as sort
use Rattle.py_typed.specs.Sorts.{Sort, Sorts, listed_sorts}
use Rattle.py_typed.specs.Fits.{fits}
use Rattle.py_typed.specs.Expressions.{TypedExpr, TypedNode, typed, type_of}
use Rattle.py_typed.specs.Statements.{Variable, TypedModule, TypedTarget, LocalTarget, GlobalTarget, ItemTarget, TypedSuite, AttrTarget}
use Rattle.py_typed.specs.Narrowing as telling
use Rattle.py_typed.specs.Narrowing.{without, may_be_none, bound_by_all, bound_suite, after_target, after_parts, part_sorts}
use Rattle.py_typed.specs.WellTypedExpr.{stands, is_value_type, are_value_types}
use Rattle.py_typed.specs.WellTyped as stmt
use Rattle.py_typed.proofs.FitLemmas.{fits_itself, and_left, and_right}
use Rattle.py_check_context.specs.Context.{Context, VarSorts}
use Rattle.py_check_flow.specs.Bindings.{name_in}
use Rattle.py_check_messages.specs.Seen.{both, rule}
use Rattle.py_check_values.specs.Aims.{Aim, held, first, barred, unwritten, misplaced, lacking}
use Rattle.py_check_values.specs.Assignments.{binding_fault, first_barred, items_for}
use Rattle.py_check_places.specs.Places.{Known, entering, bind_name, bind_names}
use Rattle.py_check_places.specs.Shapes.{is_row, is_flat, leaves, target_names, bind_target}
use Rattle.py_check_targets.specs.Targets.{target_of, targets_of, is_name_aim, next_part, more_parts, beyond, aims_behind, is_name_target}
use Rattle.py_check_loops.specs.Loops.{Course, numbers, value, items_of, course_items, course, are_names, head, loop_over, loop_of}
use Rattle.py_check_loops.specs.Heads.{some_items, for_head, in_for}
use Rattle.py_check_expressions_laws.specs.WellTyped as law
use Rattle.py_check_expressions_laws.specs.WellTyped.{Describes, Within}
use Rattle.py_check_laws.specs.Variables.{sort_in}
use Rattle.py_check_laws.proofs.Looked.{LookedAt, looked_behind}
use Rattle.py_check_laws.specs.WellTyped.{IsScope}
use Rattle.py_check_laws.proofs.Given.{some_is, made_given, both_given, rule_given}
use Rattle.py_check.proofs.Bound.{leaves_one, single_bound}
use Rattle.py_check.proofs.Kept.{follows_itself}
use Rattle.py_check_laws.proofs.Assigned.{row_bound, items_are, BoundTo, Headed, head_is, is_itemless}
use Rattle.py_check_laws.proofs.Whole.{bound_same}
use Rattle.py_check_laws.proofs.Names.{within_kept}
use Rattle.py_check_laws.proofs.Aims.{AimAt, AimsOf, Held, held_local, held_global, held_item, aim_held, aim_first, first_name, Aimed, aimed_local, aimed_global, aimed_item, held_aimed, first_aimed, aimed_bound, held_attribute, aimed_attribute}
use Rattle.py_check_laws.proofs.Values.{scene, fault_fits, third}
use Rattle.py_check_laws.proofs.Courses.{CourseStands, course_stands, item_type}
use Rattle.py_check_laws.proofs.Targets.{not_true, is_named, given_start, TargetStands, held_stands, variable_stands, first_open, RowStands, rows}
use Rattle.py_check_laws.proofs.Bound.{single, first_type_there, only_valued, not_single, single_aim_of, filled_targets, parts_there}

name_is_written : (e : ExprTree) (x : List ℕ) → name_in e ≡ Some x → law.is_written e ≡ true
name_is_written (at (tree.Name y) span) x h = refl
name_is_written _ x h = absurd (cc)

-- the parts of a head that is typed
pub record HeadParts (C : Context) (k : Known) (s : StmtTree) (target e : ExprTree) (p : List TypedTarget × Course) : Type 0 where
  pub aims : List Aim
  pub course : Course
  pub seen : (aims_behind C (entering C k s) target (some_items (Rattle.py_check_loops.specs.Loops.course C k e).got)).got ≡ Some aims
  pub over : (Rattle.py_check_loops.specs.Loops.course C k e).got ≡ Some course
  pub headed : Headed C.classes target aims course
  pub targets : targets_of aims ≡ p.0
  pub is : course ≡ p.1

pub head_parts : (C : Context) (k : Known) (s : StmtTree) (span : Span) (target e : ExprTree) (p : List TypedTarget × Course) → (for_head C k s span target e).got ≡ Some p → HeadParts C k s target e p
head_parts C k s span target e p h =
    let targets = aims_behind C (entering C k s) target (some_items (course C k e).got) in
    let parts = both targets (course C k e) in
    let q = made_given (λ (z : List Aim × Course). (targets_of z.0, z.1)) (rule span (head C.classes (is_flat target) (is_row target)) parts) p h in
    let g = rule_given span (head C.classes (is_flat target) (is_row target)) parts q.0 q.1 in
    let b = both_given targets (course C k e) g.0 g.1 in
    let d = head_is C.classes target g.0 q.0 g.2 in
    record {
      aims = g.0.0;
      course = g.0.1;
      seen = b.0;
      over = b.1;
      headed = d.0;
      targets = ap (λ (z : List Aim × Course). targets_of z.0) d.1 ∙ ap (λ (z : List TypedTarget × Course). z.0) q.2;
      is = ap (λ (z : List Aim × Course). z.1) d.1 ∙ ap (λ (z : List TypedTarget × Course). z.1) q.2;
    }

pub head_looked : (C : Context) (k : Known) (s : StmtTree) (target e : ExprTree) (p : List TypedTarget × Course) → (h : HeadParts C k s target e p) → LookedAt C (entering C k s) target h.aims h.headed.item
head_looked C k s target e p h = looked_behind C (entering C k s) target h.aims (some_items (course C k e).got) h.headed.item h.seen (ap some_items h.over ∙ h.headed.items)

module _ (C : Context) (m : TypedModule) (locals : List Variable) (init : Option ℕ) (result : Option Sort) where
  abbrev here : Context
  here = scene C m locals init

  abbrev is_name : TypedTarget → Bool
  is_name = stmt.is_name m locals init result

  -- ---- targets that are names

  pub aimed_name : (e : ExprTree) (t : TypedTarget) → Aimed here e t → (name_in e ≡ None → ⊥) → is_name t ≡ true
  aimed_name e t (aimed_local x i n q is) h = subst (λ z. is_name z ≡ true) is refl
  aimed_name e t (aimed_global x i n q is) h = subst (λ z. is_name z ≡ true) is refl
  aimed_name e t (aimed_item b i n is) h = absurd (h n)
  aimed_name e t (aimed_attribute b a n is) h = absurd (h n)

  -- what is a name is written as one
  pub held_named : (k : Known) (e : ExprTree) (t : TypedTarget) (s : Sort) → Held here k e t s → is_name_aim (held t s) ≡ true → (x : List ℕ) × (name_in e ≡ Some x)
  held_named k e t s (held_local x i n q is v) h = (x, n)
  held_named k e t s (held_global x i n q is v) h = (x, n)
  held_named k e t s (held_item b i place n g w is) h = let bad : is_name_target (ItemTarget b i) ≡ true = ap is_name_target is ∙ h in absurd (cc)
  held_named k e t s (held_attribute b a place n g is) h = let bad : is_name_target (AttrTarget b a) ≡ true = ap is_name_target is ∙ h in absurd (cc)

  pub no_none : (o : Option (List ℕ)) (x : List ℕ) → o ≡ Some x → o ≡ None → ⊥
  no_none o x p q = let bad : Some x ≡ None = sym p ∙ q in cc

  -- a row of names
  pub record AreNames (es : List ExprTree) (l : List Aim) : Type 0 where
    pub named : list_all is_named es ≡ true
    pub written : list_all law.is_written es ≡ true
    pub names : list_all is_name (targets_of l) ≡ true

  one_name : (e : ExprTree) (x : List ℕ) (es : List ExprTree) (a : Aim) (l : List Aim) (t : TypedTarget) → name_in e ≡ Some x → target_of a ≡ t ∷ [] → is_name t ≡ true → AreNames es l → AreNames (e ∷ es) (a ∷ l)
  one_name e x es a l t n q h r = record {
    named = and_from (is_named e) (list_all is_named es) (ap is_some n) r.named;
    written = and_from (law.is_written e) (list_all law.is_written es) (name_is_written e x n) r.written;
    names = subst (λ (z : List TypedTarget). list_all is_name (z ++ targets_of l) ≡ true) (sym q) (and_from (is_name t) (list_all is_name (targets_of l)) h r.names);
  }

  pub are_named : (k : Known) (es : List ExprTree) (l : List Aim) (ts : Option (List Sort)) → AimsOf here k ts es l → list_all is_name_aim l ≡ true → first_barred l ≡ None → is_itemless l ≡ true → AreNames es l
  are_named k [] [] ts a h p q = record { named = refl; written = refl; names = refl }
  are_named k [] (x ∷ l) ts a h p q = absurd a
  are_named k (e ∷ es) [] ts a h p q = absurd a
  are_named k (e ∷ es) (held t s ∷ l) ts a h p q =
      let d = aim_held here k e t s a.here in
      let n = held_named k e t s d (and_left (is_name_aim (held t s)) (list_all is_name_aim l) h) in
      one_name e n.0 es (held t s) l t n.1 refl (aimed_name e t (held_aimed here k e t s d) (no_none (name_in e) n.0 n.1)) (are_named (beyond here k (name_in e) (next_part ts)) es l (more_parts ts) a.rest (and_right (is_name_aim (held t s)) (list_all is_name_aim l) h) p q)
  are_named k (e ∷ es) (first t y ∷ l) ts a h p q =
      let d = aim_first here k e t y a.here in
      let n = first_name here k e t y a.here in
      one_name e y es (first t y) l t n refl (aimed_name e t (first_aimed here k e t d) (no_none (name_in e) y n)) (are_named (beyond here k (name_in e) (next_part ts)) es l (more_parts ts) a.rest h p q)
  are_named k (e ∷ es) (barred x ∷ l) ts a h p q = absurd (cc)
  are_named k (e ∷ es) (unwritten s ∷ l) ts a h p q = absurd (cc)
  are_named k (e ∷ es) (lacking s y ∷ l) ts a h p q = absurd (cc)
  are_named k (e ∷ es) (misplaced s ∷ l) ts a h p q = absurd (cc)

  -- names stand wherever they stand
  name_anywhere : (others more : List ℕ) (t : TypedTarget) → is_name t ≡ true → stmt.target_typed m locals init result others t ≡ true → stmt.target_typed m locals init result more t ≡ true
  name_anywhere others more (LocalTarget i) n h = h
  name_anywhere others more (GlobalTarget i) n h = h
  name_anywhere others more _ n h = absurd (cc)

  names_anywhere : (others more : List ℕ) (l : List TypedTarget) (ss : List Sort) → list_all is_name l ≡ true → stmt.parts_fit m locals init result l ss ≡ true → stmt.targets_typed m locals init result others l ss ≡ true → list_all (stmt.target_typed m locals init result more) l ≡ true
  names_anywhere others more [] ss n f h = refl
  names_anywhere others more (t ∷ l) [] n f h = absurd (cc)
  names_anywhere others more (t ∷ l) (s ∷ ss) n f h =
      and_from (stmt.target_typed m locals init result more t) (list_all (stmt.target_typed m locals init result more) l)
      (name_anywhere others more t (and_left (is_name t) (list_all is_name l) n) (and_left (stmt.target_typed m locals init result others t) (stmt.targets_typed m locals init result (after_target others t s) l ss) h))
      (names_anywhere (after_target others t s) more l ss (and_right (is_name t) (list_all is_name l) n) (and_right (fits m.classes.classes s (stmt.target_type m locals init result t)) (stmt.parts_fit m locals init result l ss) f)
      (and_right (stmt.target_typed m locals init result others t) (stmt.targets_typed m locals init result (after_target others t s) l ss) h))

  -- ---- a head

  four : (a b c d : Bool) → a ≡ true → b ≡ true → c ≡ true → d ≡ true → (a && b && c && d) ≡ true
  four a b c d p q r s = cc

  -- targets that take items of this type, and what is known where the body begins
  pub record HeadStands (others : List ℕ) (l : List TypedTarget) (item : Sort) (body : TypedSuite) (names : List ℕ) : Type 0 where
    pub fit : stmt.items_fit m locals init result others l item ≡ true
    pub start : Within names (stmt.in_loop_from m locals init result others l item body)

  one_head : (others names : List ℕ) (t : TypedTarget) (item : Sort) (body : TypedSuite) → is_name t ≡ true → TargetStands C m locals init result others t (stmt.target_type m locals init result t) → fits m.classes.classes item (stmt.target_type m locals init result t) ≡ true
      → Within names (after_target (without (bound_by_all (t ∷ []) ++ bound_suite body) others) t item) → HeadStands others (t ∷ []) item body names
  one_head others names t item body n st f w =
      let one : single C m locals init result (t ∷ []) item ≡ true = f in
      record {
        fit = four true (list_all is_name (t ∷ [])) (list_all (stmt.target_typed m locals init result others) (t ∷ [])) (stmt.binding_fits m locals init result (t ∷ []) item) refl (and_from (is_name t) true n refl)
            (and_from (stmt.target_typed m locals init result others t) true st.there refl) (or_left (stmt.is_single m locals init result (t ∷ []) item) (stmt.parts_fit m locals init result (t ∷ []) (part_sorts item)) one);
        start = rw (one, stmt.in_loop_from) (within_kept names (after_target (without (bound_by_all (t ∷ []) ++ bound_suite body) others) t item) w);
      }

  row_head : (others names : List ℕ) (l : List TypedTarget) (ts : Sorts) (item : Sort) (body : TypedSuite) → item ≡ sort.TupleOf ts → is_value_type (length m.classes.classes) item ≡ true → list_all is_name l ≡ true → list_all (λ t. is_value_type (length m.classes.classes) (stmt.target_type m locals init result t)) l ≡ true
      → (more : List ℕ) → stmt.targets_typed m locals init result more l (listed_sorts ts) ≡ true → stmt.parts_fit m locals init result l (listed_sorts ts) ≡ true → Within names (after_parts (without (bound_by_all l ++ bound_suite body) others) l (listed_sorts ts)) → HeadStands others l item body names
  row_head others names l ts item body q v n types more all fit w =
      let parts : part_sorts item ≡ listed_sorts ts = ap part_sorts q in
      let whole : is_value_type (length m.classes.classes) (sort.TupleOf ts) ≡ true = subst (λ s. is_value_type (length m.classes.classes) s ≡ true) q v in
      let no : stmt.is_single m locals init result l item ≡ false = ap (stmt.is_single m locals init result l) q
      ∙ not_single C m locals init result l ts (third (Rattle.std.specs.Prelude.nat_lt 0 (length (listed_sorts ts))) (Rattle.std.specs.Prelude.nat_lt (length (listed_sorts ts)) 17) (are_value_types (length m.classes.classes) ts) whole) (λ t e. only_valued C m locals init result l t types e) fit in
      record {
        fit = four (stmt.is_filled m locals init result l) (list_all is_name l) (list_all (stmt.target_typed m locals init result others) l) (stmt.binding_fits m locals init result l item) (filled_targets C m locals init result l (listed_sorts ts) fit (parts_there C m locals init result ts whole)) n
            (names_anywhere more others l (listed_sorts ts) n fit all) (or_right (stmt.is_single m locals init result l item) (stmt.parts_fit m locals init result l (part_sorts item)) (ap (stmt.parts_fit m locals init result l) parts ∙ fit));
        start = rw (no, parts, stmt.in_loop_from) w;
      }

  -- a head with one target
  single_head : (inner : Known) → Describes here inner.types m locals init → IsScope here inner.types → (target : ExprTree) (a : Aim) → AimAt here inner (name_in target) target a → is_name_aim a ≡ true → (item : Sort) → binding_fault m.classes.classes a item ≡ None
      → Describes here (bind_name here true inner (name_in target) (Some item)).types m locals init → (body : TypedSuite) (others : List ℕ) → Within inner.names (without (bound_by_all (targets_of (a ∷ [])) ++ bound_suite body) others)
      → HeadStands others (targets_of (a ∷ [])) item body (bind_name here true inner (name_in target) (Some item)).names
  single_head inner D sc target (held t s) a n item f E body others w =
      let d = aim_held here inner target t s a in
      let x = held_named inner target t s d n in
      let st = held_stands C m locals init result inner D target (λ q. absurd (no_none (name_in target) x.0 x.1 q)) t s d others (λ q. absurd (no_none (name_in target) x.0 x.1 q)) in
      let own : TargetStands C m locals init result others t (stmt.target_type m locals init result t) = subst (TargetStands C m locals init result others t) (sym st.type) st in
      one_head others (bind_name here true inner (name_in target) (Some item)).names t item body (aimed_name target t (held_aimed here inner target t s d) (no_none (name_in target) x.0 x.1)) own
      (ap (fits m.classes.classes item) st.type ∙ fault_fits C m locals init s item f)
      (aimed_bound here target t (held_aimed here inner target t s d) true inner (Some item) item (without (bound_by_all (t ∷ []) ++ bound_suite body) others) w (λ q. not_true (may_be_none item) q))
  single_head inner D sc target (first t y) a n item f E body others w =
      let d = aim_first here inner target t y a in
      let x = first_name here inner target t y a in
      let o = first_open C m locals init result inner target t y d x in
      let e = bind_name here true inner (name_in target) (Some item) in
      let r : sort_in e.types (C.meaning y) ≡ Rattle.py_check_context.specs.Context.has item =
      ap (λ (q : Option (List ℕ)). sort_in (bind_name here true inner q (Some item)).types (C.meaning y)) x
      ∙ first_type_there C m locals init result inner sc y item o in
      let st = variable_stands C m locals init result e.types E target t inner d item (λ z q. ap (λ v. sort_in e.types (C.meaning v)) (same_Some z y (sym q ∙ x)) ∙ r) others in
      let own : TargetStands C m locals init result others t (stmt.target_type m locals init result t) = subst (TargetStands C m locals init result others t) (sym st.type) st in
      one_head others e.names t item body (aimed_name target t (first_aimed here inner target t d) (no_none (name_in target) y x)) own (ap (fits m.classes.classes item) st.type ∙ fits_itself m.classes.classes item)
      (aimed_bound here target t (first_aimed here inner target t d) true inner (Some item) item (without (bound_by_all (t ∷ []) ++ bound_suite body) others) w (λ q. not_true (may_be_none item) q))
  single_head inner D sc target (barred y) a n item f E body others w = absurd (cc)
  single_head inner D sc target (unwritten s) a n item f E body others w = absurd (cc)
  single_head inner D sc target (lacking s x) a n item f E body others w = absurd (cc)
  single_head inner D sc target (misplaced s) a n item f E body others w = absurd (cc)

  -- A HEAD, whose targets are looked at and bound where the loop is entered
  head_by : (inner : Known) → Describes here inner.types m locals init → IsScope here inner.types → (target : ExprTree) (l : List Aim) (item : Sort) → LookedAt here inner target l item → list_all is_name_aim l ≡ true → is_value_type (length m.classes.classes) item ≡ true
      → (end : Known) → end ≡ bind_target here true inner target (Some item) → Describes here end.types m locals init → (body : TypedSuite) (others : List ℕ) → Within inner.names (without (bound_by_all (targets_of l) ++ bound_suite body) others) → (c : Bool) → is_row target ≡ c → BoundTo m.classes.classes c l item → HeadStands others (targets_of l) item body end.names
  head_by inner D sc target l item looked names v end p E body others w false q r =
      let b : end ≡ bind_name here true inner (name_in target) (Some item) = p ∙ single_bound here true inner target (Some item) q in
      let one = leaves_one target q in
      subst (λ z. HeadStands others (targets_of z) item body end.names) (sym r.1)
      (subst (λ (z : Known). HeadStands others (targets_of (r.0 ∷ [])) item body z.names) (sym b)
      (single_head inner D sc target r.0 (single_aim_of C m locals init result inner target l r.0 looked.parts r.1 one looked.aims) (and_left (is_name_aim r.0) true (subst (λ z. list_all is_name_aim z ≡ true) r.1 names)) item r.2 (subst (λ (z : Known). Describes here z.types m locals init) b E) body others
      (subst (λ z. Within inner.names (without (bound_by_all (targets_of z) ++ bound_suite body) others)) r.1 w)))
  head_by inner D sc target l item looked names v end p E body others w true q r =
      let i = items_are item (length l) r.parts r.items in
      let b : end ≡ bind_names here true inner (target_names target) r.parts = p ∙ row_bound here true inner target item r.parts q (ap (items_for item) (sym looked.many) ∙ r.items) in
      let a = are_named inner (leaves target) l looked.parts looked.aims names r.refused r.itemless in
      let inside = without (bound_by_all (targets_of l) ++ bound_suite body) others in
      let g = rows C m locals init result inner D (leaves target) l looked.parts r.parts (looked.fair r.parts q r.items) [] inner inside (follows_itself inner.types) sc (given_start here inner.types) w (inr a.named) looked.aims a.written r.refused r.itemless r.fit i.3 (subst (λ (z : Known). Describes here z.types m locals init) b E) in
      subst (λ (z : Known). HeadStands others (targets_of l) item body z.names) (sym b)
      (by i.0 i.1 r.parts i.2 a.names g)
    where
      by : (ts : Sorts) → item ≡ sort.TupleOf ts → (parts : List Sort) → listed_sorts ts ≡ parts → list_all is_name (targets_of l) ≡ true → RowStands C m locals init result (without (bound_by_all (targets_of l) ++ bound_suite body) others) l parts (bind_names here true inner (target_names target) parts).names
          → HeadStands others (targets_of l) item body (bind_names here true inner (target_names target) parts).names
      by ts e parts p named g =
          row_head others (bind_names here true inner (target_names target) parts).names (targets_of l) ts item body e v named g.types (without (bound_by_all (targets_of l) ++ bound_suite body) others)
          (subst (λ z. stmt.targets_typed m locals init result (without (bound_by_all (targets_of l) ++ bound_suite body) others) (targets_of l) z ≡ true) (sym p) g.typed)
          (subst (λ z. stmt.parts_fit m locals init result (targets_of l) z ≡ true) (sym p) g.fit)
          (subst (λ z. Within (bind_names here true inner (target_names target) parts).names (after_parts (without (bound_by_all (targets_of l) ++ bound_suite body) others) (targets_of l) z)) (sym p) g.names)

  pub good_head : (k : Known) → Describes here k.types m locals init → IsScope here k.types → (s : StmtTree) (span : Span) (target e : ExprTree) → law.is_written e ≡ true → (p : List TypedTarget × Course) (g : (for_head here k s span target e).got ≡ Some p) → (h : HeadParts here k s target e p) → Describes here (in_for here k s span target e).types m locals init → (body : TypedSuite) (others : List ℕ)
      → Within (entering here k s).names (without (bound_by_all p.0 ++ bound_suite body) others) → HeadStands others p.0 h.headed.item body (in_for here k s span target e).names
  good_head k D sc s span target e we p g h E body others w =
      let l = entering here k s in
      let same = bound_same here l target (is_some (for_head here k s span target e).got) (some_items (course here k e).got) h.headed.item (some_is (for_head here k s span target e).got p g) (ap some_items h.over ∙ h.headed.items) in
      let c = course_stands C m locals init result k D e we h.course h.over k.names (λ x z. z) in
      subst (λ z. HeadStands others z h.headed.item body (in_for here k s span target e).names) h.targets
      (head_by l D sc target h.aims h.headed.item (head_looked here k s target e p h) (and_right (is_flat target) (list_all is_name_aim h.aims) h.headed.names) (item_type C m locals init result k.names h.course h.headed.item c h.headed.items)
      (in_for here k s span target e) same E body others (subst (λ z. Within l.names (without (bound_by_all z ++ bound_suite body) others)) (sym h.targets) w) (is_row target) refl h.headed.bound)

  -- ---- whole loops

  five : (a b c d e : Bool) → a ≡ true → b ≡ true → c ≡ true → d ≡ true → e ≡ true → (a && b && c && d && e) ≡ true
  five a b c d e p q r s t = cc

  six : (a b c d e f : Bool) → a ≡ true → b ≡ true → c ≡ true → d ≡ true → e ≡ true → f ≡ true → (a && b && c && d && e && f) ≡ true
  six a b c d e f p q r s t u = cc

  is_whole : (t : Sort) → (t ≡ sort.Int) ⊎ (t ≡ sort.I64) → stmt.is_range_type m locals init result t ≡ true
  is_whole t (inl e) = subst (λ x. stmt.is_range_type m locals init result x ≡ true) (sym e) refl
  is_whole t (inr e) = subst (λ x. stmt.is_range_type m locals init result x ≡ true) (sym e) refl

  over_typed : (loops handling : Bool) (others : List ℕ) (l : List TypedTarget) (n : TypedNode) (s : Sort) (place : Span) (item : Sort) (body : TypedSuite) → stands m locals init false others (typed n s place) ≡ true → items_of s ≡ Some item → stmt.items_fit m locals init result others l item ≡ true → stmt.is_body m locals init result body ≡ true
      → stmt.suite_typed m locals init result (stmt.in_loop_from m locals init result others l item body) true handling body ≡ true → stmt.act_typed m locals init result others loops handling (loop_over l s (typed n s place) body) ≡ true
  over_typed loops handling others l n (sort.ListOf t) place item body sv q f b h =
      let e = same_Some t item q in
      five (stands m locals init false others (typed n (sort.ListOf t) place)) true (stmt.items_fit m locals init result others l t) (stmt.is_body m locals init result body) (stmt.suite_typed m locals init result (stmt.in_loop_from m locals init result others l t body) true handling body) sv refl
      (subst (λ z. stmt.items_fit m locals init result others l z ≡ true) (sym e) f) b (subst (λ z. stmt.suite_typed m locals init result (stmt.in_loop_from m locals init result others l z body) true handling body ≡ true) (sym e) h)
  over_typed loops handling others l n (sort.DictOf t u) place item body sv q f b h =
      let e = same_Some t item q in
      five (stands m locals init false others (typed n (sort.DictOf t u) place)) true (stmt.items_fit m locals init result others l t) (stmt.is_body m locals init result body) (stmt.suite_typed m locals init result (stmt.in_loop_from m locals init result others l t body) true handling body) sv refl
      (subst (λ z. stmt.items_fit m locals init result others l z ≡ true) (sym e) f) b (subst (λ z. stmt.suite_typed m locals init result (stmt.in_loop_from m locals init result others l z body) true handling body ≡ true) (sym e) h)
  over_typed loops handling others l n _ place item body sv q f b h = absurd (cc)

  value_typed : (loops handling : Bool) (others : List ℕ) (l : List TypedTarget) (e : TypedExpr) (item : Sort) (body : TypedSuite) → stands m locals init false others e ≡ true → items_of (type_of e) ≡ Some item → stmt.items_fit m locals init result others l item ≡ true → stmt.is_body m locals init result body ≡ true
      → stmt.suite_typed m locals init result (stmt.in_loop_from m locals init result others l item body) true handling body ≡ true → stmt.act_typed m locals init result others loops handling (loop_over l (type_of e) e body) ≡ true
  value_typed loops handling others l (typed n s place) item body sv q f b h = over_typed loops handling others l n s place item body sv q f b h

  pub loop_typed : (loops handling : Bool) (others : List ℕ) (l : List TypedTarget) (w : Course) (item : Sort) (body : TypedSuite) → CourseStands C m locals init result others w → course_items w ≡ Some item → stmt.items_fit m locals init result others l item ≡ true → stmt.is_body m locals init result body ≡ true
      → stmt.suite_typed m locals init result (stmt.in_loop_from m locals init result others l item body) true handling body ≡ true → stmt.act_typed m locals init result others loops handling (loop_of l w body) ≡ true
  loop_typed loops handling others l (numbers a b) item body c q f there h =
      let e = same_Some (type_of b) item q in
      six (stands m locals init false others b) (stmt.is_range_type m locals init result (type_of b)) (stmt.maybe_of_type m locals init result others (type_of b) a) (stmt.items_fit m locals init result others l (type_of b)) (stmt.is_body m locals init result body)
      (stmt.suite_typed m locals init result (stmt.in_loop_from m locals init result others l (type_of b) body) true handling body) c.bound (is_whole (type_of b) c.whole) c.start (subst (λ z. stmt.items_fit m locals init result others l z ≡ true) (sym e) f) there
      (subst (λ z. stmt.suite_typed m locals init result (stmt.in_loop_from m locals init result others l z body) true handling body ≡ true) (sym e) h)
  loop_typed loops handling others l (value e) item body c q f there h = value_typed loops handling others l e item body c q f there h

  over_after : (others : List ℕ) (l : List TypedTarget) (s : Sort) (e : TypedExpr) (body : TypedSuite) → telling.after_act (single C m locals init result) others (loop_over l s e body) ≡ without (bound_by_all l ++ bound_suite body) others
  over_after others l (sort.DictOf k t) e body = refl
  over_after others l _ e body = refl

  pub loop_after : (others : List ℕ) (l : List TypedTarget) (w : Course) (body : TypedSuite) → telling.after_act (single C m locals init result) others (loop_of l w body) ≡ without (bound_by_all l ++ bound_suite body) others
  loop_after others l (numbers a b) body = refl
  loop_after others l (value e) body = over_after others l (type_of e) e body
