-- The events of a class: which of them define methods, and with which numbers.
use Rattle.std.proofs.Common.{◌≡◌, ℕ, zero, suc, ◌+◌, Bool, true, false, not, ◌&&◌, ◌||◌, List, [], ◌∷◌, ◌++◌, length, Option, Some, None, refl, ap, sym, ◌∙◌, subst, arith, ◌⊎◌, inl, inr, if◌then◌else◌}
use Rattle.std.proofs.lemmas.Bool.{or_parts}
use Rattle.std.proofs.lemmas.Option.{same_Some}
use Rattle.std.specs.Prelude.{slice_get}
use Rattle.std.specs.List.{flat_map, AllByRecursion}
use Rattle.std.specs.Map.{lookup}
use Rattle.std.specs.Option.{option_or, option_map}
use Rattle.std.specs.Str.{bytes_eq}
use Rattle.py_syntax.specs.declared.token.Span.{Span}
use Rattle.py_syntax.specs.Expressions as e
use Rattle.py_syntax.specs.Expressions.{ExprTree, ExprNode, ExprTrees}
use Rattle.py_syntax.specs.Statements as s
use Rattle.py_syntax.specs.Statements.{StmtTree, StmtNode, Suite, FuncTree}
use Rattle.py_typed.specs.Sorts as sort
use Rattle.py_typed.specs.Sorts.{Sort}
use Rattle.py_check_flow.specs.Bindings.{name_in}
use Rattle.py_check_names.specs.Outline.{method_in, methods_in}
use Rattle.py_check_classes.specs.Bodies.{declared_name, defined_name, is_init, has_init}
use Rattle.py_check_members.specs.Deeds.{is_builtin_name, Source, itself, annotated, literal, Deed, defines, declares, annotates, gives, sets, Event, event, attribute_in, source_in, assigned, event_of, set_in, targets_in, node_targets, row_targets, place_of, assignment, act_events, stmt_events, suite_assignments, init_events, init_function, is_number, method_events, member_events, body_events}
use Rattle.py_check_members.specs.Members.{is_of_init}
use Rattle.py_check_members_laws.proofs.Rows.{both, at_back, zero_more, grouped}

-- ---- assignments in `__init__`

-- literals are of these types
abbrev pub is_literal_type : Sort → Bool
is_literal_type sort.Int = true
is_literal_type sort.Str = true
is_literal_type sort.Bool = true
is_literal_type t = false

abbrev pub is_source : Source → Bool
is_source (literal t) = is_literal_type t
is_source x = true

-- what holds of each assignment in `__init__`
pub record OfAssignments (P : Deed → Type 0) : Type 0 where
  pub set : P sets
  pub marked : (mark : ExprTree) → P (annotates mark)
  pub given : (x : Source) → is_source x ≡ true → P (gives x)

module _ (P : Deed → Type 0) (each : OfAssignments P) where
  abbrev Holds : Event → Type 0
  Holds v = P v.deed

  set_holds : (o : Option (List ℕ)) (place : Span) → AllByRecursion Holds (event_of o sets place)
  set_holds None place = tt
  set_holds (Some a) place = (each.set, tt)

  marked_holds : (o : Option (List ℕ)) (mark : ExprTree) (span : Span) → AllByRecursion Holds (event_of o (annotates mark) span)
  marked_holds None mark span = tt
  marked_holds (Some a) mark span = (each.marked mark, tt)

  assigned_holds : (o : Option Source) → ((x : Source) → o ≡ Some x → is_source x ≡ true) → P (assigned o)
  assigned_holds None h = each.set
  assigned_holds (Some x) h = each.given x (h x refl)

  module _ (self : List ℕ) (others : List (List ℕ × Option ExprTree)) where
    one_source : (built b : Bool) (o : Option (Option ExprTree)) (x : Source) → (if built then None else (if b then Some itself else option_map annotated o)) ≡ Some x → is_source x ≡ true
    one_source true b o x h = absurd (cc)
    one_source false true o x h = ap is_source (sym (same_Some itself x h))
    one_source false false None x h = absurd (cc)
    one_source false false (Some mark) x h = ap is_source (sym (same_Some (annotated mark) x h))

    is_from : (a : ExprTree) (x : Source) → source_in self others a ≡ Some x → is_source x ≡ true
    is_from (e.at (e.Int n) span) x h = ap is_source (sym (same_Some (literal sort.Int) x h))
    is_from (e.at (e.Str text) span) x h = ap is_source (sym (same_Some (literal sort.Str) x h))
    is_from (e.at e.True span) x h = ap is_source (sym (same_Some (literal sort.Bool) x h))
    is_from (e.at e.False span) x h = ap is_source (sym (same_Some (literal sort.Bool) x h))
    is_from (e.at (e.Name y) span) x h = one_source (is_builtin_name y) (bytes_eq y self) (lookup (bytes_eq y) others) x h
    is_from (e.at _ span) x h = absurd (cc)

    mutual
      targets_hold : (target : ExprTree) → AllByRecursion Holds (targets_in self others target)
      targets_hold (e.at node span) = node_holds span node

      node_holds : (span : Span) (node : ExprNode) → AllByRecursion Holds (node_targets self others span node)
      node_holds span (e.TupleOf items) = row_holds items
      node_holds span (e.ListOf items) = row_holds items
      node_holds span node = set_holds (attribute_in self others (e.at node span)) (place_of (e.at node span))

      row_holds : (items : ExprTrees) → AllByRecursion Holds (row_targets self others items)
      row_holds e.no_exprs = tt
      row_holds (e.expr_then a more) = both Holds (targets_in self others a) (row_targets self others more) (targets_hold a) (row_holds more)

    assignment_holds : (o : Option (List ℕ)) (target a : ExprTree) → AllByRecursion Holds (assignment self others o target a)
    assignment_holds None target a = targets_hold target
    assignment_holds (Some name) target a = (assigned_holds (source_in self others a) (is_from a), tt)

    act_holds : (span : Span) (node : StmtNode) → AllByRecursion Holds (act_events self others span node)
    act_holds span (s.Assign target a) = assignment_holds (attribute_in self others target) target a
    act_holds span (s.Annot target mark a) = marked_holds (attribute_in self others target) mark span
    act_holds span (s.Aug target op a) = targets_hold target
    act_holds span _ = tt

    stmt_holds : (x : StmtTree) → AllByRecursion Holds (stmt_events self others x)
    stmt_holds (s.at node span) = act_holds span node

    all_hold : (xs : List StmtTree) → AllByRecursion Holds (flat_map (stmt_events self others) xs)
    all_hold [] = tt
    all_hold (x ∷ xs) = both Holds (stmt_events self others x) (flat_map (stmt_events self others) xs) (stmt_holds x) (all_hold xs)

  pub init_holds : (params : List (List ℕ × Option ExprTree)) (body : Suite) → AllByRecursion Holds (init_events params body)
  init_holds [] body = tt
  init_holds (self ∷ others) body = all_hold self.0 (self ∷ others) (suite_assignments body)

  -- and of everything else that a class does
  module _ (defined : (f : ℕ) → P (defines f)) (declared : (mark : ExprTree) → P (declares mark)) (init : Option ℕ) where
    declared_holds : (o : Option (List ℕ)) (mark : ExprTree) (span : Span) → AllByRecursion Holds (event_of o (declares mark) span)
    declared_holds None mark span = tt
    declared_holds (Some a) mark span = (declared mark, tt)

    inner_holds : (b : Bool) (params : List (List ℕ × Option ExprTree)) (body : Suite) → AllByRecursion Holds (if b then init_events params body else [])
    inner_holds true params body = init_holds params body
    inner_holds false params body = tt

    member_holds : (next : ℕ) (x : StmtTree) → AllByRecursion Holds (member_events init next x)
    member_holds next (s.at (s.Def name params ret body marks) span) = (defined next, inner_holds (is_number next init) params body)
    member_holds next (s.at (s.Annot target mark None) span) = declared_holds (name_in target) mark span
    member_holds next (s.at (s.Annot target mark (Some a)) span) = tt
    member_holds next (s.at _ span) = tt

    pub body_holds : (next : ℕ) (body : Suite) → AllByRecursion Holds (body_events init next body)
    body_holds next s.no_stmts = tt
    body_holds next (s.stmt_then x more) =
        both Holds (member_events init next x) (body_events init (next + length (method_in x)) more) (member_holds next x) (body_holds (next + length (method_in x)) more)

abbrev pub OfInit : Event → Type 0
OfInit v = is_of_init v.deed ≡ true

pub init_of_init : (params : List (List ℕ × Option ExprTree)) (body : Suite) → AllByRecursion OfInit (init_events params body)
init_of_init params body = init_holds (λ d. is_of_init d ≡ true) (record { set = refl; marked = λ mark. refl; given = λ x h. refl }) params body

-- ---- the functions of a body

-- the function of a def of this name in a body whose first has this number
pub record IsDefined (next : ℕ) (body : Suite) (name : List ℕ) (f : ℕ) : Type 0 where
  pub place : ℕ
  pub tree : FuncTree
  pub there : slice_get (methods_in body) place ≡ Some tree
  pub number : f ≡ next + place
  pub named : tree.name ≡ name

abbrev pub Defines : ℕ → Suite → Event → Type 0
Defines next body v = (f : ℕ) → v.deed ≡ defines f → IsDefined next body v.name f

no_definition : (d : Deed) → is_of_init d ≡ true → (f : ℕ) → d ≡ defines f → ⊥
no_definition (defines g) h f q = absurd (cc)
no_definition (declares mark) h f q = absurd (cc)
no_definition (annotates mark) h f q = absurd (cc)
no_definition (gives x) h f q = absurd (cc)
no_definition sets h f q = absurd (cc)

none_defined : (next : ℕ) (body : Suite) (vs : List Event) → AllByRecursion OfInit vs → AllByRecursion (Defines next body) vs
none_defined next body [] h = tt
none_defined next body (v ∷ vs) h = (λ f q. absurd (no_definition v.deed h.0 f q), none_defined next body vs h.1)

guarded : (P : Event → Type 0) (b : Bool) (vs : List Event) → AllByRecursion P vs → AllByRecursion P (if b then vs else [])
guarded P true vs h = h
guarded P false vs h = tt

-- the methods of more statements
moved_one : (next : ℕ) (x : StmtTree) (more : Suite) (name : List ℕ) (f : ℕ) → IsDefined (next + length (method_in x)) more name f → IsDefined next (s.stmt_then x more) name f
moved_one next x more name f d = record {
  place = length (method_in x) + d.place;
  tree = d.tree;
  there = at_back (method_in x) (methods_in more) d.place ∙ d.there;
  number = d.number ∙ sym (grouped next (length (method_in x)) d.place);
  named = d.named;
}

all_moved : (next : ℕ) (x : StmtTree) (more : Suite) (vs : List Event) → AllByRecursion (Defines (next + length (method_in x)) more) vs → AllByRecursion (Defines next (s.stmt_then x more)) vs
all_moved next x more [] h = tt
all_moved next x more (v ∷ vs) h = (λ f q. moved_one next x more v.name f (h.0 f q), all_moved next x more vs h.1)

defines_same : (f g : ℕ) → defines f ≡ defines g → g ≡ f
defines_same f g q = cc

module _ (init : Option ℕ) where
  declared_alone : (next : ℕ) (body : Suite) (o : Option (List ℕ)) (mark : ExprTree) (span : Span) → AllByRecursion (Defines next body) (event_of o (declares mark) span)
  declared_alone next body None mark span = tt
  declared_alone next body (Some a) mark span = (λ f q. absurd (cc), tt)

  one_defines : (next : ℕ) (x : StmtTree) (more : Suite) → AllByRecursion (Defines next (s.stmt_then x more)) (member_events init next x)
  one_defines next (s.at (s.Def name params ret body marks) span) more = (
    λ f q. record {
      place = 0;
      tree = record { name = name; params = params; ret = ret; body = body; marks = marks };
      there = refl;
      number = defines_same next f q ∙ sym (zero_more next);
      named = refl;
    },
    none_defined next (s.stmt_then (s.at (s.Def name params ret body marks) span) more) (if is_number next init then init_events params body else []) (guarded OfInit (is_number next init) (init_events params body) (init_of_init params body)),
  )
  one_defines next (s.at (s.Annot target mark None) span) more = declared_alone next (s.stmt_then (s.at (s.Annot target mark None) span) more) (name_in target) mark span
  one_defines next (s.at (s.Annot target mark (Some a)) span) more = tt
  one_defines next (s.at _ span) more = tt

  pub body_defines : (next : ℕ) (body : Suite) → AllByRecursion (Defines next body) (body_events init next body)
  body_defines next s.no_stmts = tt
  body_defines next (s.stmt_then x more) =
      both (Defines next (s.stmt_then x more)) (member_events init next x) (body_events init (next + length (method_in x)) more) (one_defines next x more)
      (all_moved next x more (body_events init (next + length (method_in x)) more) (body_defines (next + length (method_in x)) more))

-- a body that defines no `__init__` has none
or_other : (b : Bool) (rest : Option ℕ) → rest ≡ None → (if b then None else rest) ≡ None
or_other true rest h = refl
or_other false rest h = h

pub no_init : (next : ℕ) (body : Suite) → has_init body ≡ false → init_function next body ≡ None
no_init next s.no_stmts h = refl
no_init next (s.stmt_then x more) h =
    let p = or_parts (is_init (defined_name x)) (has_init more) h in
    ap (λ b. if b then Some next else (if is_init (declared_name x) then None else init_function (next + length (method_in x)) more)) p.0
    ∙ or_other (is_init (declared_name x)) (init_function (next + length (method_in x)) more) (no_init (next + length (method_in x)) more p.1)
