-- The heads of loops that are typed: where the body begins their typed form knows no more than typing does.
use Rattle.std.proofs.Common.{◌≡◌, ℕ, Bool, true, false, not, List, [], ◌∷◌, ◌++◌, length, Option, Some, None, refl, ap, sym, ◌∙◌, subst, inr}
use Rattle.std.proofs.lemmas.Option.{same_Some}
use Rattle.std.specs.List.{list_all}
use Rattle.std.specs.Prelude.{is_some}
use Rattle.py_syntax.specs.declared.token.Span.{Span}
use Rattle.py_syntax.specs.Expressions.{ExprTree}
use Rattle.py_syntax.specs.Statements.{StmtTree}
use Rattle.py_typed.specs.Sorts as sort
use Rattle.py_typed.specs.Sorts.{Sort, Sorts, listed_sorts}
use Rattle.py_typed.specs.Fits.{fits}
use Rattle.py_typed.specs.Statements.{Variable, TypedModule, TypedTarget, TypedSuite}
use Rattle.py_typed.specs.Narrowing.{without, bound_by_all, bound_suite, after_target, after_parts, part_sorts}
use Rattle.py_typed.specs.WellTypedExpr.{is_value_type, are_value_types}
use Rattle.py_typed.specs.WellTyped as stmt
use Rattle.py_typed.proofs.FitLemmas.{fits_itself, and_left, and_right}
use Rattle.py_check_context.specs.Context.{Context, VarSorts}
use Rattle.py_check_flow.specs.Bindings.{name_in}
use Rattle.py_check_values.specs.Aims.{Aim, held, first, barred, unwritten, misplaced, lacking}
use Rattle.py_check_values.specs.Assignments.{binding_fault, items_for}
use Rattle.py_check_places.specs.Places.{Known, entering, bind_name, bind_names}
use Rattle.py_check_places.specs.Shapes.{is_row, is_flat, leaves, target_names, bind_target}
use Rattle.py_check_targets.specs.Targets.{targets_of, is_name_aim}
use Rattle.py_check_loops.specs.Loops.{Course, course}
use Rattle.py_check_loops.specs.Heads.{some_items, for_head, in_for}
use Rattle.py_check_expressions_laws.specs.WellTyped as law
use Rattle.py_check_expressions_laws.specs.WellTyped.{Describes, Within}
use Rattle.py_check.proofs.Bound.{leaves_one, single_bound}
use Rattle.py_check.proofs.Kept.{follows_itself}
use Rattle.py_check_laws.specs.Variables.{sort_in}
use Rattle.py_check_laws.specs.WellTyped.{IsScope}
use Rattle.py_check_laws.proofs.Given.{some_is}
use Rattle.py_check_laws.proofs.Looked.{LookedAt}
use Rattle.py_check_laws.proofs.Assigned.{row_bound, items_are, BoundTo}
use Rattle.py_check_laws.proofs.Whole.{bound_same}
use Rattle.py_check_laws.proofs.Names.{within_itself, within_less}
use Rattle.py_check_laws.proofs.Aims.{AimAt, aim_held, aim_first, first_name, held_aimed, first_aimed}
use Rattle.py_check_laws.proofs.Values.{scene, fault_fits, third}
use Rattle.py_check_laws.proofs.Courses.{course_stands, item_type}
use Rattle.py_check_laws.proofs.Targets.{given_start, held_stands, variable_stands, first_open, rows}
use Rattle.py_check_laws.proofs.Bound.{single, first_type_there, only_valued, not_single, single_aim_of}
use Rattle.py_check_laws.proofs.Loops.{HeadParts, head_looked, held_named, no_none, are_named}
use Rattle.py_check_laws.proofs.LessNames.{less_aimed, less_row}

module _ (C : Context) (m : TypedModule) (locals : List Variable) (init : Option ℕ) (result : Option Sort) where
  abbrev here : Context
  here = scene C m locals init

  abbrev one_takes : List TypedTarget → Sort → Bool
  one_takes = single C m locals init result

  -- what is known where the typed body begins is known at this end
  abbrev Starts : List ℕ → List ℕ → List TypedTarget → Sort → TypedSuite → Type 0
  Starts names end l item body = (known : List ℕ) → Within (without (bound_by_all l ++ bound_suite body) known) names → Within (stmt.in_loop_from m locals init result known l item body) end

  one_starts : (names end : List ℕ) (t : TypedTarget) (item : Sort) (body : TypedSuite) → fits m.classes.classes item (stmt.target_type m locals init result t) ≡ true → ((known : List ℕ) → Within known names → Within (after_target known t item) end) → Starts names end (t ∷ []) item body
  one_starts names end t item body f next known w =
      let one : one_takes (t ∷ []) item ≡ true = f in
      rw (one, stmt.in_loop_from) (within_less [] (after_target (without (bound_by_all (t ∷ []) ++ bound_suite body) known) t item) end (next (without (bound_by_all (t ∷ []) ++ bound_suite body) known) w))

  several_starts : (names end : List ℕ) (l : List TypedTarget) (ss : List Sort) (item : Sort) (body : TypedSuite) → one_takes l item ≡ false → part_sorts item ≡ ss → ((known : List ℕ) → Within known names → Within (after_parts known l ss) end) → Starts names end l item body
  several_starts names end l ss item body q parts next known w = rw (q, parts, stmt.in_loop_from) (next (without (bound_by_all l ++ bound_suite body) known) w)

  -- one target
  single_starts : (inner : Known) → Describes here inner.types m locals init → IsScope here inner.types → (target : ExprTree) (a : Aim) → AimAt here inner (name_in target) target a → is_name_aim a ≡ true → (item : Sort) → binding_fault m.classes.classes a item ≡ None
      → Describes here (bind_name here true inner (name_in target) (Some item)).types m locals init → (body : TypedSuite) → Starts inner.names (bind_name here true inner (name_in target) (Some item)).names (targets_of (a ∷ [])) item body
  single_starts inner D sc target (held t s) a n item f E body =
      let d = aim_held here inner target t s a in
      let x = held_named C m locals init result inner target t s d n in
      let st = held_stands C m locals init result inner D target (λ q. absurd (no_none C m locals init result (name_in target) x.0 x.1 q)) t s d inner.names (λ q. within_itself inner.names) in
      one_starts inner.names (bind_name here true inner (name_in target) (Some item)).names t item body (ap (fits m.classes.classes item) st.type ∙ fault_fits C m locals init s item f)
      (λ known w. less_aimed here target t (held_aimed here inner target t s d) true inner (Some item) item known w (λ q. ap not q))
  single_starts inner D sc target (first t y) a n item f E body =
      let d = aim_first here inner target t y a in
      let x = first_name here inner target t y a in
      let o = first_open C m locals init result inner target t y d x in
      let e = bind_name here true inner (name_in target) (Some item) in
      let r : sort_in e.types (C.meaning y) ≡ Rattle.py_check_context.specs.Context.has item =
      ap (λ (q : Option (List ℕ)). sort_in (bind_name here true inner q (Some item)).types (C.meaning y)) x
      ∙ first_type_there C m locals init result inner sc y item o in
      let st = variable_stands C m locals init result e.types E target t inner d item (λ z q. ap (λ v. sort_in e.types (C.meaning v)) (same_Some z y (sym q ∙ x)) ∙ r) inner.names in
      one_starts inner.names e.names t item body (ap (fits m.classes.classes item) st.type ∙ fits_itself m.classes.classes item)
      (λ known w. less_aimed here target t (first_aimed here inner target t d) true inner (Some item) item known w (λ q. ap not q))
  single_starts inner D sc target (barred y) a n item f E body = absurd (cc)
  single_starts inner D sc target (unwritten s) a n item f E body = absurd (cc)
  single_starts inner D sc target (lacking s x) a n item f E body = absurd (cc)
  single_starts inner D sc target (misplaced s) a n item f E body = absurd (cc)

  head_starts : (inner : Known) → Describes here inner.types m locals init → IsScope here inner.types → (target : ExprTree) (l : List Aim) (item : Sort) → LookedAt here inner target l item → list_all is_name_aim l ≡ true → is_value_type (length m.classes.classes) item ≡ true
      → (end : Known) → end ≡ bind_target here true inner target (Some item) → Describes here end.types m locals init → (body : TypedSuite) → (c : Bool) → is_row target ≡ c → BoundTo m.classes.classes c l item → Starts inner.names end.names (targets_of l) item body
  head_starts inner D sc target l item looked names v end p E body false q r =
      let b : end ≡ bind_name here true inner (name_in target) (Some item) = p ∙ single_bound here true inner target (Some item) q in
      let one = leaves_one target q in
      subst (λ z. Starts inner.names end.names (targets_of z) item body) (sym r.1)
      (subst (λ (z : Known). Starts inner.names z.names (targets_of (r.0 ∷ [])) item body) (sym b)
      (single_starts inner D sc target r.0 (single_aim_of C m locals init result inner target l r.0 looked.parts r.1 one looked.aims) (and_left (is_name_aim r.0) true (subst (λ z. list_all is_name_aim z ≡ true) r.1 names)) item r.2 (subst (λ (z : Known). Describes here z.types m locals init) b E) body))
  head_starts inner D sc target l item looked names v end p E body true q r =
      let i = items_are item (length l) r.parts r.items in
      let b : end ≡ bind_names here true inner (target_names target) r.parts = p ∙ row_bound here true inner target item r.parts q (ap (items_for item) (sym looked.many) ∙ r.items) in
      let a = are_named C m locals init result inner (leaves target) l looked.parts looked.aims names r.refused r.itemless in
      let g = rows C m locals init result inner D (leaves target) l looked.parts r.parts (looked.fair r.parts q r.items) [] inner inner.names (follows_itself inner.types) sc (given_start here inner.types) (within_itself inner.names) (inr a.named) looked.aims a.written r.refused r.itemless r.fit i.3 (subst (λ (z : Known). Describes here z.types m locals init) b E) in
      let whole : is_value_type (length m.classes.classes) (sort.TupleOf i.0) ≡ true = subst (λ s. is_value_type (length m.classes.classes) s ≡ true) i.1 v in
      let vs = third (Rattle.std.specs.Prelude.nat_lt 0 (length (listed_sorts i.0))) (Rattle.std.specs.Prelude.nat_lt (length (listed_sorts i.0)) 17) (are_value_types (length m.classes.classes) i.0) whole in
      let no : one_takes (targets_of l) item ≡ false =
      ap (one_takes (targets_of l)) i.1 ∙ not_single C m locals init result (targets_of l) i.0 vs (λ t e. only_valued C m locals init result (targets_of l) t g.types e) (ap (stmt.parts_fit m locals init result (targets_of l)) i.2 ∙ g.fit) in
      subst (λ (z : Known). Starts inner.names z.names (targets_of l) item body) (sym b)
      (several_starts inner.names (bind_names here true inner (target_names target) r.parts).names (targets_of l) r.parts item body no (ap part_sorts i.1 ∙ i.2)
      (λ known w. less_row here inner (leaves target) l looked.parts looked.aims r.refused r.itemless r.parts i.3 inner known w))

  -- WHERE THE BODY BEGINS
  pub less_head : (k : Known) → Describes here k.types m locals init → IsScope here k.types → (s : StmtTree) (span : Span) (target e : ExprTree) → law.is_written e ≡ true → (p : List TypedTarget × Course) (g : (for_head here k s span target e).got ≡ Some p) → (h : HeadParts here k s target e p) → Describes here (in_for here k s span target e).types m locals init → (body : TypedSuite) (known : List ℕ)
      → Within (without (bound_by_all p.0 ++ bound_suite body) known) (entering here k s).names → Within (stmt.in_loop_from m locals init result known p.0 h.headed.item body) (in_for here k s span target e).names
  less_head k D sc s span target e we p g h E body =
      let l = entering here k s in
      let same = bound_same here l target (is_some (for_head here k s span target e).got) (some_items (course here k e).got) h.headed.item (some_is (for_head here k s span target e).got p g) (ap some_items h.over ∙ h.headed.items) in
      let c = course_stands C m locals init result k D e we h.course h.over k.names (within_itself k.names) in
      subst (λ z. Starts l.names (in_for here k s span target e).names z h.headed.item body) h.targets
      (head_starts l D sc target h.aims h.headed.item (head_looked here k s target e p h) (and_right (is_flat target) (list_all is_name_aim h.aims) h.headed.names) (item_type C m locals init result k.names h.course h.headed.item c h.headed.items)
      (in_for here k s span target e) same E body (is_row target) refl h.headed.bound)
