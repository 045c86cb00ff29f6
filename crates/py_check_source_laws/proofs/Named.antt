-- The names of classes and of their members pass where the tree of the module passes.
use Rattle.std.proofs.Common.{◌≡◌, ℕ, zero, suc, ◌+◌, Bool, true, false, ◌&&◌, List, [], ◌∷◌, ◌++◌, map, length, Option, Some, None, refl, subst, if◌then◌else◌}
use Rattle.std.proofs.lemmas.Bool.{and_from, and_parts}
use Rattle.std.proofs.lemmas.Option.{same_Some}
use Rattle.std.specs.Prelude.{slice_get}
use Rattle.std.specs.List.{list_all, flat_map, filter_map, cons_option, AllByRecursion}
use Rattle.std.specs.Option.{option_map}
use Rattle.py_syntax.specs.declared.token.Span.{Span}
use Rattle.py_syntax.specs.Expressions as e
use Rattle.py_syntax.specs.Expressions.{ExprTree, ExprNode, ExprTrees}
use Rattle.py_syntax.specs.Statements as s
use Rattle.py_syntax.specs.Statements.{StmtTree, StmtNode, Suite, Arms, Handlers, MaybeSuite, ClassTree}
use Rattle.py_typed.specs.Sorts.{Sort}
use Rattle.py_typed.specs.Classes.{ClassEntry}
use Rattle.py_typed.specs.WellTypedModule.{names_of}
use Rattle.py_check_context.specs.declared.scope.Meaning.{Meaning}
use Rattle.py_check_context.specs.Members.{Member, attribute, untyped, unknown, method}
use Rattle.py_check_flow.specs.Bindings.{name_in}
use Rattle.py_check_names.specs.Outline.{method_in, held_by, stmt_definitions, node_definitions, suite_definitions, arms_definitions, handlers_definitions, last_definitions}
use Rattle.py_check_classes.specs.declared.header.Header.{Header}
use Rattle.py_check_classes.specs.declared.header.Header.TheVariants.{Typed, Untyped}
use Rattle.py_check_classes.specs.Names.{class_in}
use Rattle.py_check_classes.specs.Headers.{has_type}
use Rattle.py_check_members.specs.Deeds.{Deed, declares, defines, annotates, sets, Event, event, stmt_assignments, node_assignments, suite_assignments, arms_assignments, handlers_assignments, last_assignments, place_of, is_named, attribute_in, source_in, assigned, event_of, set_in, targets_in, node_targets, row_targets, assignment, act_events, stmt_events, init_events, is_number, init_function, method_events, member_events, body_events, class_events}
use Rattle.py_check_members.specs.Members.{Above, places, declares_by, is_unknown_by, member_by, made_by, made, made_from, is_named_in, with_new, each_once, Owns, row_of, own_at, order_in, row_above, above_in, ClassText, class_text, class_texts, inner_meaning, typed_own, own_behind, owns_behind, own_members, typed_attribute, own_method, sort_of, function_of, typed_entry, bare_entry, class_entry_of, entries_from, class_entries}
use Rattle.py_parser_laws.specs.Trees.{Tests, ExprPasses, NodePasses, ExprsPass, StmtPasses, ActPasses, SuitePasses, ArmsPass, HandlersPass, LastPasses}

module _ (tests : Tests) where
  abbrev NamePasses : List ℕ → Type 0
  NamePasses x = tests.name x ≡ true

  -- ---- rows

  both : {A : Type 0} (P : A → Type 0) (xs ys : List A) → AllByRecursion P xs → AllByRecursion P ys → AllByRecursion P (xs ++ ys)
  both P [] ys h k = k
  both P (x ∷ xs) ys h k = (h.0, both P xs ys h.1 k)

  abbrev EventPasses : Event → Type 0
  EventPasses v = NamePasses v.name

  abbrev EventsPass : List Event → Type 0
  EventsPass = AllByRecursion EventPasses

  abbrev PairPasses : {A : Type 0} → List ℕ × A → Type 0
  PairPasses p = NamePasses p.0

  abbrev RowPasses : {A : Type 0} → List (List ℕ × A) → Type 0
  RowPasses {A = A} = AllByRecursion (PairPasses {A = A})

  -- ---- what stands in statements

  mutual
    stmt_assigns : (x : StmtTree) → StmtPasses tests x → AllByRecursion (StmtPasses tests) (stmt_assignments x)
    stmt_assigns (s.at node span) h = act_assigns node span h

    act_assigns : (node : StmtNode) (span : Span) → ActPasses tests node → AllByRecursion (StmtPasses tests) (node_assignments node span)
    act_assigns (s.Assign target a) span h = (h, tt)
    act_assigns (s.Annot target mark a) span h = (h, tt)
    act_assigns (s.Aug target op a) span h = (h, tt)
    act_assigns (s.If arms other) span h = both (StmtPasses tests) (arms_assignments arms) (suite_assignments other) (arms_assign arms h.1) (suite_assigns other h.2)
    act_assigns (s.While test body) span h = suite_assigns body h.2
    act_assigns (s.For target a body) span h = suite_assigns body h.3
    act_assigns (s.Try body handlers last) span h =
        both (StmtPasses tests) (suite_assignments body) (handlers_assignments handlers ++ last_assignments last) (suite_assigns body h.2)
        (both (StmtPasses tests) (handlers_assignments handlers) (last_assignments last) (handlers_assign handlers h.3) (last_assigns last h.4))
    act_assigns _ span h = tt

    suite_assigns : (body : Suite) → SuitePasses tests body → AllByRecursion (StmtPasses tests) (suite_assignments body)
    suite_assigns s.no_stmts h = tt
    suite_assigns (s.stmt_then x more) h = both (StmtPasses tests) (stmt_assignments x) (suite_assignments more) (stmt_assigns x h.0) (suite_assigns more h.1)

    arms_assign : (arms : Arms) → ArmsPass tests arms → AllByRecursion (StmtPasses tests) (arms_assignments arms)
    arms_assign s.no_arms h = tt
    arms_assign (s.arm_then test body more) h = both (StmtPasses tests) (suite_assignments body) (arms_assignments more) (suite_assigns body h.2) (arms_assign more h.3)

    handlers_assign : (handlers : Handlers) → HandlersPass tests handlers → AllByRecursion (StmtPasses tests) (handlers_assignments handlers)
    handlers_assign s.no_handlers h = tt
    handlers_assign (s.handler_then class name body span more) h =
        both (StmtPasses tests) (suite_assignments body) (handlers_assignments more) (suite_assigns body h.2) (handlers_assign more h.3)

    last_assigns : (last : MaybeSuite) → LastPasses tests last → AllByRecursion (StmtPasses tests) (last_assignments last)
    last_assigns s.no_suite h = tt
    last_assigns (s.some_suite body) h = suite_assigns body h.1

  mutual
    stmt_defines : (x : StmtTree) → StmtPasses tests x → AllByRecursion (StmtPasses tests) (stmt_definitions x)
    stmt_defines (s.at node span) h = act_defines node span h

    act_defines : (node : StmtNode) (span : Span) → ActPasses tests node → AllByRecursion (StmtPasses tests) (node_definitions node span)
    act_defines (s.Def name params ret body marks) span h = (h, tt)
    act_defines (s.ClassDef name bases body marks) span h = (h, tt)
    act_defines (s.Import name other) span h = (tt, tt)
    act_defines (s.From name names) span h = (tt, tt)
    act_defines (s.If arms other) span h = both (StmtPasses tests) (arms_definitions arms) (suite_definitions other) (arms_define arms h.1) (suite_defines other h.2)
    act_defines (s.While test body) span h = suite_defines body h.2
    act_defines (s.For target a body) span h = suite_defines body h.3
    act_defines (s.Try body handlers last) span h =
        both (StmtPasses tests) (suite_definitions body) (handlers_definitions handlers ++ last_definitions last) (suite_defines body h.2)
        (both (StmtPasses tests) (handlers_definitions handlers) (last_definitions last) (handlers_define handlers h.3) (last_defines last h.4))
    act_defines _ span h = tt

    suite_defines : (body : Suite) → SuitePasses tests body → AllByRecursion (StmtPasses tests) (suite_definitions body)
    suite_defines s.no_stmts h = tt
    suite_defines (s.stmt_then x more) h = both (StmtPasses tests) (stmt_definitions x) (suite_definitions more) (stmt_defines x h.0) (suite_defines more h.1)

    arms_define : (arms : Arms) → ArmsPass tests arms → AllByRecursion (StmtPasses tests) (arms_definitions arms)
    arms_define s.no_arms h = tt
    arms_define (s.arm_then test body more) h = both (StmtPasses tests) (suite_definitions body) (arms_definitions more) (suite_defines body h.2) (arms_define more h.3)

    handlers_define : (handlers : Handlers) → HandlersPass tests handlers → AllByRecursion (StmtPasses tests) (handlers_definitions handlers)
    handlers_define s.no_handlers h = tt
    handlers_define (s.handler_then class name body span more) h =
        both (StmtPasses tests) (suite_definitions body) (handlers_definitions more) (suite_defines body h.2) (handlers_define more h.3)

    last_defines : (last : MaybeSuite) → LastPasses tests last → AllByRecursion (StmtPasses tests) (last_definitions last)
    last_defines s.no_suite h = tt
    last_defines (s.some_suite body) h = suite_defines body h.1

  -- ---- what the text of a class does

  event_passes : (o : Option (List ℕ)) (deed : Deed) (place : Span) → ((a : List ℕ) → o ≡ Some a → NamePasses a) → EventsPass (event_of o deed place)
  event_passes None deed place h = tt
  event_passes (Some a) deed place h = (h a refl, tt)

  module _ (self : List ℕ) (others : List (List ℕ × Option ExprTree)) where
    attribute_passes : (x : ExprTree) → ExprPasses tests x → (a : List ℕ) → attribute_in self others x ≡ Some a → NamePasses a
    attribute_passes (e.at (e.Attr of b) span) h a q = by (is_named self (name_in of)) q
      where
        by : (t : Bool) → (if t then Some b else None) ≡ Some a → NamePasses a
        by true r = subst NamePasses (same_Some b a r) h.0
        by false r = absurd (cc)
    attribute_passes (e.at _ span) h a q = absurd (cc)

    set_passes : (target : ExprTree) → ExprPasses tests target → EventsPass (set_in self others target)
    set_passes target h = event_passes (attribute_in self others target) sets (place_of target) (attribute_passes target h)

    mutual
      targets_pass : (target : ExprTree) → ExprPasses tests target → EventsPass (targets_in self others target)
      targets_pass (e.at node span) h = node_targets_pass span node h

      node_targets_pass : (span : Span) (node : ExprNode) → NodePasses tests node → EventsPass (node_targets self others span node)
      node_targets_pass span (e.TupleOf items) h = row_targets_pass items h
      node_targets_pass span (e.ListOf items) h = row_targets_pass items h
      node_targets_pass span node h = set_passes (e.at node span) h

      row_targets_pass : (items : ExprTrees) → ExprsPass tests items → EventsPass (row_targets self others items)
      row_targets_pass e.no_exprs h = tt
      row_targets_pass (e.expr_then a more) h = both EventPasses (targets_in self others a) (row_targets self others more) (targets_pass a h.0) (row_targets_pass more h.1)

    assignment_passes : (o : Option (List ℕ)) (target a : ExprTree) → ((x : List ℕ) → o ≡ Some x → NamePasses x) → ExprPasses tests target → EventsPass (assignment self others o target a)
    assignment_passes None target a h k = targets_pass target k
    assignment_passes (Some name) target a h k = (h name refl, tt)

    act_events_pass : (span : Span) (node : StmtNode) → ActPasses tests node → EventsPass (act_events self others span node)
    act_events_pass span (s.Assign target a) h = assignment_passes (attribute_in self others target) target a (attribute_passes target h.0) h.0
    act_events_pass span (s.Annot target mark a) h = event_passes (attribute_in self others target) (annotates mark) span (attribute_passes target h.0)
    act_events_pass span (s.Aug target op a) h = targets_pass target h.0
    act_events_pass span _ h = tt

    stmt_events_pass : (x : StmtTree) → StmtPasses tests x → EventsPass (stmt_events self others x)
    stmt_events_pass (s.at node span) h = act_events_pass span node h

    all_events_pass : (xs : List StmtTree) → AllByRecursion (StmtPasses tests) xs → EventsPass (flat_map (stmt_events self others) xs)
    all_events_pass [] h = tt
    all_events_pass (x ∷ xs) h = both EventPasses (stmt_events self others x) (flat_map (stmt_events self others) xs) (stmt_events_pass x h.0) (all_events_pass xs h.1)

  init_events_pass : (params : List (List ℕ × Option ExprTree)) (body : Suite) → SuitePasses tests body → EventsPass (init_events params body)
  init_events_pass [] body h = tt
  init_events_pass (self ∷ others) body h = all_events_pass self.0 (self ∷ others) (suite_assignments body) (suite_assigns body h)

  name_passes : (target : ExprTree) → ExprPasses tests target → (a : List ℕ) → name_in target ≡ Some a → NamePasses a
  name_passes (e.at (e.Name x) span) h a q = subst NamePasses (same_Some x a q) h
  name_passes (e.at _ span) h a q = absurd (cc)

  module _ (init : Option ℕ) where
    inner_passes : (b : Bool) (vs : List Event) → EventsPass vs → EventsPass (if b then vs else [])
    inner_passes true vs h = h
    inner_passes false vs h = tt

    member_events_pass : (next : ℕ) (x : StmtTree) → StmtPasses tests x → EventsPass (member_events init next x)
    member_events_pass next (s.at (s.Def name params ret body marks) span) h =
        (h.0, inner_passes (is_number next init) (init_events params body) (init_events_pass params body h.3))
    member_events_pass next (s.at (s.Annot target mark None) span) h = event_passes (name_in target) (declares mark) span (name_passes target h.0)
    member_events_pass next (s.at (s.Annot target mark (Some a)) span) h = tt
    member_events_pass next (s.at _ span) h = tt

    body_events_pass : (next : ℕ) (body : Suite) → SuitePasses tests body → EventsPass (body_events init next body)
    body_events_pass next s.no_stmts h = tt
    body_events_pass next (s.stmt_then x more) h =
        both EventPasses (member_events init next x) (body_events init (next + length (method_in x)) more) (member_events_pass next x h.0) (body_events_pass (next + length (method_in x)) more h.1)

  class_events_pass : (next : ℕ) (body : Suite) → SuitePasses tests body → EventsPass (class_events next body)
  class_events_pass next body h = body_events_pass (init_function next body) next body h

  -- ---- members

  module _ (meanings inner : List ℕ → Meaning) (class : ℕ) (above : List ℕ → Above) (events : List Event) where
    made_passes : (b c : Bool) (name : List ℕ) (x y : Member) → NamePasses name → RowPasses (if b then (name, x) ∷ [] else (if c then (name, y) ∷ [] else []))
    made_passes true c name x y h = (h, tt)
    made_passes false true name x y h = (h, tt)
    made_passes false false name x y h = tt

    made_from_pass : (i : ℕ) (vs : List Event) → EventsPass vs → RowPasses (made_from meanings inner class above events i vs)
    made_from_pass i [] h = tt
    made_from_pass i (v ∷ more) h =
        both PairPasses (made meanings inner class above events i v) (made_from meanings inner class above events (i + 1) more)
        (made_passes (declares_by events (places events v.name) (above v.name) i v.name v.deed) (is_unknown_by (places events v.name) (above v.name) i v.deed) v.name (member_by meanings inner class v.deed) (unknown v.place) h.0)
        (made_from_pass (i + 1) more h.1)

  one_new : {A : Type 0} (row more : List (List ℕ × A)) (p : List ℕ × A) (b : Bool) → RowPasses row → NamePasses p.0 → ((r : List (List ℕ × A)) → RowPasses r → RowPasses (with_new r more)) → RowPasses (with_new (if b then row else row ++ p ∷ []) more)
  one_new row more p true h k next = next row h
  one_new row more p false h k next = next (row ++ p ∷ []) (both PairPasses row (p ∷ []) h (k, tt))

  new_passes : {A : Type 0} (row more : List (List ℕ × A)) → RowPasses row → RowPasses more → RowPasses (with_new row more)
  new_passes row [] h k = h
  new_passes row (p ∷ more) h k = one_new row more p (is_named_in row p.0) h k.0 (λ r q. new_passes r more q k.1)

  abbrev OwnsPass : Owns → Type 0
  OwnsPass = AllByRecursion (RowPasses {A = Member})

  abbrev TextPasses : ClassText → Type 0
  TextPasses x = NamePasses x.tree.name × SuitePasses tests x.tree.body

  module _ (headers : List Header) (meanings : List ℕ → Meaning) (inner : ℕ → List ℕ → Meaning) where
    own_passes : (before : Owns) (x : ClassText) → TextPasses x → RowPasses (own_behind headers meanings inner before x)
    own_passes before x h = by (has_type (slice_get headers (length before)))
      where
        by : (b : Bool) → RowPasses (if b then typed_own headers meanings inner before (length before) x else [])
        by true =
            let vs = class_events x.first x.tree.body in
            let means = inner_meaning inner (init_function x.first x.tree.body) in
            let up = above_in before (row_above headers (length before)) in
            new_passes [] (made_from meanings means (length before) up vs 0 vs) tt (made_from_pass meanings means (length before) up vs 0 vs (class_events_pass x.first x.tree.body h.1))
        by false = tt

    owns_pass : (before : Owns) (xs : List ClassText) → OwnsPass before → AllByRecursion TextPasses xs → OwnsPass (owns_behind headers meanings inner before xs)
    owns_pass before [] h k = h
    owns_pass before (x ∷ more) h k =
        owns_pass (before ++ own_behind headers meanings inner before x ∷ []) more (both RowPasses before (own_behind headers meanings inner before x ∷ []) h (own_passes before x k.0, tt)) k.1

  -- ---- the classes of a module

  class_texts_pass : (next : ℕ) (x : StmtTree) → StmtPasses tests x → AllByRecursion TextPasses (map (class_text next) (class_in x))
  class_texts_pass next (s.at (s.ClassDef name bases body marks) span) h = (h, tt)
  class_texts_pass next (s.at _ span) h = tt

  texts_pass : (next : ℕ) (xs : List StmtTree) → AllByRecursion (StmtPasses tests) xs → AllByRecursion TextPasses (class_texts next xs)
  texts_pass next [] h = tt
  texts_pass next (x ∷ more) h =
      both TextPasses (map (class_text next) (class_in x)) (class_texts (next + length (held_by x)) more) (class_texts_pass next x h.0) (texts_pass (next + length (held_by x)) more h.1)

  abbrev ClassPasses : ClassTree → Type 0
  ClassPasses c = NamePasses c.name

  class_passes : (x : StmtTree) → StmtPasses tests x → AllByRecursion ClassPasses (class_in x)
  class_passes (s.at (s.ClassDef name bases body marks) span) h = (h.0, tt)
  class_passes (s.at _ span) h = tt

  classes_pass : (xs : List StmtTree) → AllByRecursion (StmtPasses tests) xs → AllByRecursion ClassPasses (flat_map class_in xs)
  classes_pass [] h = tt
  classes_pass (x ∷ more) h = both ClassPasses (class_in x) (flat_map class_in more) (class_passes x h.0) (classes_pass more h.1)

  -- the names of a class and of its members pass
  abbrev pub is_named_well : ClassEntry → Bool
  is_named_well c = tests.name c.name && list_all tests.name (names_of c.attributes ++ names_of c.methods)

  all_two : (xs ys : List (List ℕ)) → list_all tests.name xs ≡ true → list_all tests.name ys ≡ true → list_all tests.name (xs ++ ys) ≡ true
  all_two [] ys h k = k
  all_two (x ∷ xs) ys h k =
      let p = and_parts (tests.name x) (list_all tests.name xs) h in
      and_from (tests.name x) (list_all tests.name (xs ++ ys)) p.0 (all_two xs ys p.1 k)

  one_kept : {B : Type 0} (name : List ℕ) (o : Option B) (rest : List (List ℕ × B)) → NamePasses name → list_all tests.name (names_of rest) ≡ true → list_all tests.name (names_of (cons_option (option_map (λ b. (name, b)) o) rest)) ≡ true
  one_kept name None rest h k = k
  one_kept name (Some b) rest h k = and_from (tests.name name) (list_all tests.name (names_of rest)) h k

  -- of a row those with something of their own
  kept_pass : {B : Type 0} (of : Member → Option B) (row : List (List ℕ × Member)) → RowPasses row → list_all tests.name (names_of (filter_map (λ p. option_map (λ b. (p.0, b)) (of p.1)) row)) ≡ true
  kept_pass of [] h = refl
  kept_pass {B = B} of (p ∷ row) h = one_kept p.0 (of p.1) (filter_map (λ (q : List ℕ × Member). option_map (λ b. (q.0, b)) (of q.1)) row) h.0 (kept_pass of row h.1)

  entry_passes : (header : Option Header) (name : List ℕ) (own : List (List ℕ × Member)) → NamePasses name → RowPasses own → is_named_well (class_entry_of header name own) ≡ true
  entry_passes (Some (Typed s)) name own h k =
      and_from (tests.name name) _ h (all_two (names_of (filter_map typed_attribute own)) (names_of (filter_map own_method own)) (kept_pass sort_of own k) (kept_pass function_of own k))
  entry_passes (Some (Untyped u)) name own h k = and_from (tests.name name) true h refl
  entry_passes None name own h k = and_from (tests.name name) true h refl

  row_there : (owns : Owns) → OwnsPass owns → (n : ℕ) → RowPasses (row_of (slice_get owns n))
  row_there [] h n = tt
  row_there (row ∷ owns) h zero = h.0
  row_there (row ∷ owns) h (suc n) = row_there owns h.1 n

  entries_pass : (headers : List Header) (owns : Owns) → OwnsPass owns → (n : ℕ) (cs : List ClassTree) → AllByRecursion ClassPasses cs → list_all is_named_well (entries_from headers owns n cs) ≡ true
  entries_pass headers owns h n [] k = refl
  entries_pass headers owns h n (c ∷ more) k =
      and_from (is_named_well (class_entry_of (slice_get headers n) c.name (own_at owns n))) (list_all is_named_well (entries_from headers owns (n + 1) more))
      (entry_passes (slice_get headers n) c.name (own_at owns n) k.0 (row_there owns h n)) (entries_pass headers owns h (n + 1) more k.1)

  -- THE NAMES of all classes of a module, and of their members
  pub classes_named : (m : Suite) → SuitePasses tests m → (headers : List Header) (meanings : List ℕ → Meaning) (inner : ℕ → List ℕ → Meaning) → list_all is_named_well (class_entries headers (suite_definitions m) (own_members headers meanings inner (suite_definitions m))) ≡ true
  classes_named m h headers meanings inner =
      let ds = suite_defines m h in
      entries_pass headers (own_members headers meanings inner (suite_definitions m)) (owns_pass headers meanings inner [] (class_texts 0 (suite_definitions m)) tt (texts_pass 0 (suite_definitions m) ds)) 0
      (flat_map class_in (suite_definitions m)) (classes_pass (suite_definitions m) ds)
