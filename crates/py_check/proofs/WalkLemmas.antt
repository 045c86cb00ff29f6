-- The walk over a module's own statements types what their block does, and says what is to be said of them.
use Rattle.std.proofs.Common.{◌≡◌, ◌∙◌, ℕ, suc, ◌+◌, ◌<◌, ◌≤◌, Bool, true, false, List, [], ◌∷◌, ◌++◌, length, map, drop, get_or, drop-cons, add-one, Option, Some, None, refl, ap, ap₂, sym, if◌then◌else◌}
use Rattle.std.proofs.lemmas.Bool.{false≢true}
use Rattle.std.proofs.lemmas.List.{append_assoc, append-nil, drop_all, map-append}
use Rattle.std.proofs.lemmas.Grind.{flat_map-append}
use Rattle.std.specs.List.{flat_map}
use Rattle.std.specs.Option.{option_map, option_zip}
use Rattle.py_syntax.specs.declared.statement.Stmt.{Stmt}
use Rattle.py_syntax.specs.Statements as node
use Rattle.py_syntax.specs.Statements.{StmtTree, Suite, no_stmts, stmt_then, FuncTree, stmt_tree, body_tree}
use Rattle.py_syntax_diagnostics.specs.declared.diagnostic.Diag.{Diag}
use Rattle.py_binder.specs.declared.scope.Scope.{Scope}
use Rattle.py_binder.specs.Scope.{Roles, function_scope}
use Rattle.py_typed.specs.Statements.{TypedStmt}
use Rattle.py_check_context.specs.Context.{Context}
use Rattle.py_check_messages.specs.Seen.{Seen}
use Rattle.py_check_messages.specs.Rows.{appended, row_then}
use Rattle.py_check_names.specs.Outline.{held_by, stmt_definitions, suite_definitions}
use Rattle.py_check_classes.specs.Names.{classes_in}
use Rattle.py_check_values.specs.Returns.{outside}
use Rattle.py_check_places.specs.Places.{Known}
use Rattle.py_check_statements.specs.Bodies.{nothing_around, is_definition, after, statement, block, block_after}
use Rattle.py_check_definitions.specs.Classes.{ModuleClasses}
use Rattle.py_check_definitions.specs.Definitions.{names_given, definitions_said}
use Rattle.py_check_definitions.specs.Views.{said_along, names_behind, classes_behind, scopes_behind}
use Rattle.py_check_definitions.proofs.DefinitionLemmas.{Same, walk_says, names_left, classes_left, scopes_left}
use Rattle.py_check.specs.Module.{walk_said}
use Rattle.py_check.specs.Parts.{walk_along}

-- ---- statements

-- behind a definition all that is known stays
stays : (C : Context) (k : Known) (t : StmtTree) → is_definition t ≡ true → after C k t ≡ k
stays C k (node.at (node.Import m other) span) d = refl
stays C k (node.at (node.From m names) span) d = refl
stays C k (node.at (node.Def f params ret body marks) span) d = refl
stays C k (node.at (node.ClassDef x bases body marks) span) d = refl
stays C k (node.at n span) d = absurd (false≢true d)

at_place : (ss : List Stmt) (i : ℕ) (s : Stmt) → i < length ss → s ≡ get_or ss i s → body_tree (drop i ss) ≡ stmt_then (stmt_tree s) (body_tree (drop (i + 1) ss))
at_place ss i s h is =
    ap body_tree (drop-cons ss i s h)
    ∙ ap (λ (x : Stmt). stmt_then (stmt_tree x) (body_tree (drop (suc i) ss))) (sym is)
    ∙ ap (λ n. stmt_then (stmt_tree s) (body_tree (drop n ss))) (sym (add-one i))

-- ---- rows

nothing_before : {A : Type 0} (rest : Option (List A)) → rest ≡ appended (Some []) rest
nothing_before None = refl
nothing_before (Some l) = refl

nothing_behind : {A : Type 0} (front : Option (List A)) → appended front (Some []) ≡ front
nothing_behind None = refl
nothing_behind (Some l) = ap Some (append-nil l)

appended_assoc : {A : Type 0} (a b c : Option (List A)) → appended (appended a b) c ≡ appended a (appended b c)
appended_assoc None b c = refl
appended_assoc (Some x) None c = refl
appended_assoc (Some x) (Some y) None = refl
appended_assoc (Some x) (Some y) (Some z) = ap Some (append_assoc x y z)

one_and_rest : {A : Type 0} (one : Option A) (rest : Option (List A)) → option_map (λ (p : A × List A). p.0 ∷ p.1) (option_zip one rest) ≡ appended (option_map (λ (p : A × List A). p.0 ∷ p.1) (option_zip one (Some []))) rest
one_and_rest None rest = refl
one_and_rest (Some a) None = refl
one_and_rest (Some a) (Some l) = refl

module _ (C : Context) where
  -- one statement, and no more
  abbrev alone : Known → StmtTree → Seen (List TypedStmt)
  alone k s = block C outside nothing_around k (stmt_then s no_stmts)

  abbrev left : Known → Suite → Seen (List TypedStmt)
  left k more = block C outside nothing_around k more

  -- the typed form of a statement, and of those behind it
  pub block_splits : (k : Known) (s : StmtTree) (more : Suite) → (left k (stmt_then s more)).got ≡ appended (alone k s).got (left (after C k s) more).got
  block_splits k s more = by (is_definition s) refl
    where
      by : (b : Bool) → is_definition s ≡ b → (if b then left k more else row_then (statement C outside nothing_around k s) (left (after C k s) more)).got ≡ appended (if b then left k no_stmts else row_then (statement C outside nothing_around k s) (left (after C k s) no_stmts)).got (left (after C k s) more).got
      by true d = ap (λ x. (left x more).got) (sym (stays C k s d)) ∙ nothing_before (left (after C k s) more).got
      by false d = one_and_rest (statement C outside nothing_around k s).got (left (after C k s) more).got

  -- ---- a step of the walk

  module _ (ss : List Stmt) (i : ℕ) (s : Stmt) (h : i < length ss) (is : s ≡ get_or ss i s) where
    abbrev more : Suite
    more = body_tree (drop (i + 1) ss)

    pub typed_step : (k k1 : Known) (front front1 one whole : Option (List TypedStmt)) → k1 ≡ after C k (stmt_tree s) → one ≡ (alone k (stmt_tree s)).got → front1 ≡ appended front one → appended front (left k (body_tree (drop i ss))).got ≡ whole → appended front1 (left k1 more).got ≡ whole
    typed_step k k1 front front1 one whole e f g before =
        ap (λ x. appended x (left k1 more).got) (g ∙ ap (appended front) f)
        ∙ appended_assoc front (alone k (stmt_tree s)).got (left k1 more).got
        ∙ ap (λ x. appended front (appended (alone k (stmt_tree s)).got (left x more).got)) e
        ∙ ap (appended front) (sym (block_splits k (stmt_tree s) more))
        ∙ ap (λ t. appended front (left k t).got) (sym (at_place ss i s h is))
        ∙ before

    pub known_step : (k k1 end : Known) → k1 ≡ after C k (stmt_tree s) → block_after C k (body_tree (drop i ss)) ≡ end → block_after C k1 more ≡ end
    known_step k k1 end e before = ap (λ x. block_after C x more) e ∙ ap (block_after C k) (sym (at_place ss i s h is)) ∙ before

    pub said_step : (classes : ModuleClasses) (k k1 : Known) (ks ks1 : List (List ℕ)) (n n1 : ℕ) (rs rs1 : List Scope) (d0 d1 d2 whole : List Diag) → k1 ≡ after C k (stmt_tree s) → ks1 ≡ names_behind ks (stmt_definitions (stmt_tree s)) → n1 ≡ classes_behind n (stmt_definitions (stmt_tree s)) → rs1 ≡ scopes_behind rs (stmt_definitions (stmt_tree s)) → d1 ≡ d0 ++ said_along classes C k ks n rs (stmt_definitions (stmt_tree s)) → d2 ≡ d1 ++ (alone k (stmt_tree s)).said → d0 ++ walk_along classes C k ks n rs (body_tree (drop i ss)) ≡ whole → d2 ++ walk_along classes C k1 ks1 n1 rs1 more ≡ whole
    said_step classes k k1 ks ks1 n n1 rs rs1 d0 d1 d2 whole e named counted r first second before =
        let t = stmt_tree s in
        let defined = said_along classes C k ks n rs (stmt_definitions t) in
        let own = (alone k t).said in
        let rest = walk_along classes C (after C k t) (names_behind ks (stmt_definitions t)) (classes_behind n (stmt_definitions t)) (scopes_behind rs (stmt_definitions t)) more in
        ap (λ x. d2 ++ walk_along classes C x ks1 n1 rs1 more) e
        ∙ ap (λ x. d2 ++ walk_along classes C (after C k t) ks1 x rs1 more) counted
        ∙ ap₂ (λ x y. d2 ++ walk_along classes C (after C k t) x (classes_behind n (stmt_definitions t)) y more) named r
        ∙ ap (λ l. l ++ rest) (second ∙ ap (λ l. l ++ own) first ∙ append_assoc d0 defined own)
        ∙ append_assoc d0 (defined ++ own) rest
        ∙ ap (λ b. d0 ++ walk_along classes C k ks n rs b) (sym (at_place ss i s h is))
        ∙ before

  -- behind the last one
  module _ (ss : List Stmt) (i : ℕ) (h : length ss ≤ i) where
    pub typed_ends : (k : Known) (front whole : Option (List TypedStmt)) → appended front (left k (body_tree (drop i ss))).got ≡ whole → front ≡ whole
    typed_ends k front whole before =
        sym (nothing_behind front) ∙ ap (λ l. appended front (left k (body_tree l)).got) (sym (drop_all i ss h)) ∙ before

    pub said_ends : (classes : ModuleClasses) (k : Known) (ks : List (List ℕ)) (n : ℕ) (rs : List Scope) (d whole : List Diag) → d ++ walk_along classes C k ks n rs (body_tree (drop i ss)) ≡ whole → d ≡ whole
    said_ends classes k ks n rs d whole before =
        sym (append-nil d) ∙ ap (λ l. d ++ walk_along classes C k ks n rs (body_tree l)) (sym (drop_all i ss h)) ∙ before

    pub walk_ends : (k end : Known) → block_after C k (body_tree (drop i ss)) ≡ end → k ≡ end
    walk_ends k end before = ap (λ l. block_after C k (body_tree l)) (sym (drop_all i ss h)) ∙ before

-- ---- the whole walk

row_splits : (roles : Roles) (xs ys : List StmtTree) (rest : List Scope) → map (function_scope roles) (flat_map held_by (xs ++ ys)) ++ rest ≡ map (function_scope roles) (flat_map held_by xs) ++ (map (function_scope roles) (flat_map held_by ys) ++ rest)
row_splits roles xs ys rest =
    ap (λ (l : List FuncTree). map (function_scope roles) l ++ rest) (flat_map-append held_by xs ys)
    ∙ ap (λ l. l ++ rest) (map-append (function_scope roles) (flat_map held_by xs) (flat_map held_by ys))
    ∙ append_assoc (map (function_scope roles) (flat_map held_by xs)) (map (function_scope roles) (flat_map held_by ys)) rest

module _ (roles : Roles) (classes : ModuleClasses) (c : Context) where
  -- THE WALK says what is to be said, where the row begins with the scopes of the functions
  pub walk_whole : (k : Known) (a b : List (List ℕ)) → Same a b → (n n2 : ℕ) → n ≡ n2 → (m : Suite) (rest rs : List Scope) → rs ≡ map (function_scope roles) (flat_map held_by (suite_definitions m)) ++ rest → walk_along classes c k a n rs m ≡ walk_said roles classes c k b n2 m
  walk_whole k a b same n n2 counted no_stmts rest rs is = refl
  walk_whole k a b same n n2 counted (stmt_then s more) rest rs is =
      let ds = stmt_definitions s in
      let behind = map (function_scope roles) (flat_map held_by (suite_definitions more)) ++ rest in
      let split : rs ≡ map (function_scope roles) (flat_map held_by ds) ++ behind = is ∙ row_splits roles ds (suite_definitions more) rest in
      ap₂ (λ (p q : List Diag). (p ++ (block c outside nothing_around k (stmt_then s no_stmts)).said) ++ q)
      (ap (λ l. said_along classes c k a n l ds) split ∙ walk_says roles classes c k a b same n ds behind ∙ ap (λ x. definitions_said roles classes c k b x ds) counted)
      (walk_whole (after c k s) (names_behind a ds) (b ++ flat_map names_given ds) (names_left a b same ds)
      (classes_behind n ds) (n2 + length (classes_in ds)) (classes_left n ds ∙ ap (λ x. x + length (classes_in ds)) counted) more rest (scopes_behind rs ds)
      (ap (λ l. scopes_behind l ds) split ∙ scopes_left roles ds behind))
