-- What statements with bodies say, and what is known behind them, from what their parts said.
use Rattle.std.proofs.Common.{◌≡◌, ◌∙◌, ◌<◌, ◌≤◌, ◌+◌, ℕ, suc, Bool, true, false, if◌then◌else◌, List, [], ◌++◌, Option, Some, None, Result, Ok, Err, IfOk, length, map, drop, get_or, drop-cons, add-one, refl, ap, sym, subst}
use Rattle.std.proofs.lemmas.Bool.{false≢true}
use Rattle.std.proofs.lemmas.List.{append-nil, append_assoc, drop_all}
use Rattle.std.specs.declared.boxed.Box.{Box}
use Rattle.std.specs.declared.alloc.Global.{Global}
use Rattle.std.specs.Option.{option_map, option_zip}
use Rattle.value_core.specs.declared.memory.Memory.{Memory}
use Rattle.py_syntax.specs.declared.expression.Expr.{Expr}
use Rattle.py_syntax.specs.declared.statement.Stmt.{Stmt}
use Rattle.py_syntax.specs.declared.statement.StmtKind.{StmtKind}
use Rattle.py_syntax.specs.Expressions.{ExprTree, expr_tree}
use Rattle.py_syntax.specs.Statements as node
use Rattle.py_syntax.specs.Statements.{StmtTree, StmtNode, Suite, Handlers, MaybeSuite, stmt_tree, stmt_node, body_tree, arms_of, arm_tree}
use Rattle.py_syntax.proofs.StatementLemmas.{stmt_tree_at}
use Rattle.py_syntax_diagnostics.specs.declared.diagnostic.Diag.{Diag}
use Rattle.py_typed.specs.declared.statement.TStmt.{TStmt}
use Rattle.py_typed.specs.declared.statement.TStmtKind.{TStmtKind}
use Rattle.py_typed.specs.Expressions.{TypedExpr}
use Rattle.py_typed.specs.Statements as acts
use Rattle.py_typed.specs.Statements.{TypedStmt, TypedAct, TypedSuite, on_line, suite_of}
use Rattle.py_check_context.specs.Context.{Context}
use Rattle.py_check_messages.specs.Seen.{Seen, is, silent, both, made, Tells}
use Rattle.py_check_messages.specs.Rows.{kept, appended, row_then}
use Rattle.py_check_messages.proofs.RowLemmas.{Remains, row_step}
use Rattle.py_check_operators.specs.Facts.{facts}
use Rattle.py_check_values.specs.Returns.{ReturnSort}
use Rattle.py_check_flow.specs.Closed.{is_closed}
use Rattle.py_check_places.specs.Places.{Known, Way, with_names, where_test, entering, behind_arm, met, meeting}
use Rattle.py_check_targets.specs.Views.{boxed_act}
use Rattle.py_check_loops.specs.Loops.{loop_of}
use Rattle.py_check_loops.specs.Heads.{for_head, in_for}
use Rattle.py_check_statements.specs.declared.bodies.Around.{Around}
use Rattle.py_check_statements.specs.Bodies.{is_definition, behind_loop, around_loop, outside_try, behind_try, tries, behind_while, statement, node_statement, after, node_after, block, block_after, branches, arms_after, guarded}
use Rattle.py_check_statements.specs.Views.{boxed_stmt, way}

if_ok : {X : Type 0} (r : Result X Memory) (P Q : X → Type 0) → ((x : X) → P x → Q x) → IfOk r P → IfOk r Q
if_ok (Ok x) P Q f h = f x h
if_ok (Err e) P Q f h = tt

pub always : {X : Type 0} (r : Result X Memory) (P : Type 0) → P → IfOk r (λ x. P)
always (Ok x) P p = p
always (Err e) P p = tt

-- what is made of a part
pub made_says : {A B X Y : Type 0} (f : A → B) (va : X → A) (vb : Y → B) (s : Seen A) (a : Option X) (r : Result (Option Y) Memory) (o0 o1 : List Diag) → Tells va a o0 o1 s → IfOk r (λ y. option_map vb y ≡ option_map f (option_map va a)) → IfOk r (λ y. Tells vb y o0 o1 (made f s))
made_says f va vb s a r o0 o1 ta =
    if_ok r (λ y. option_map vb y ≡ option_map f (option_map va a)) (λ y. Tells vb y o0 o1 (made f s))
    (λ y h. (h ∙ ap (option_map f) ta.0, ta.1))

-- what is made, and says nothing
pub leaf_says : {A X : Type 0} (v : X → A) (a : A) (r : Result (Option X) Memory) (o : List Diag) → IfOk r (λ x. option_map v x ≡ Some a) → IfOk r (λ x. Tells v x o o (is a))
leaf_says v a r o = if_ok r (λ x. option_map v x ≡ Some a) (λ x. Tells v x o o (is a)) (λ x h. (h, sym (append-nil o)))

-- what has no typed form, and says nothing
-- no statement is made, and no memory was lacking
abbrev pub no_act : Result (Option (Box TStmtKind Global)) Memory
no_act = Ok None

pub silent_says : {A X : Type 0} (v : X → A) (o : List Diag) → Tells v None o o silent
silent_says v o = (refl, sym (append-nil o))

-- two parts, one behind the other, and what is made of them
pub both_say : {A B X Y Z : Type 0} (va : X → A) (vb : Y → B) (vc : Z → A × B) (s : Seen A) (t : Seen B) (a : Option X) (b : Option Y) (r : Option Z) (o0 o1 o2 : List Diag) → Tells va a o0 o1 s → Tells vb b o1 o2 t → option_map vc r ≡ option_zip (option_map va a) (option_map vb b) → Tells vc r o0 o2 (both s t)
both_say va vb vc s t a b r o0 o1 o2 ta tb h = (
  h ∙ ap (λ x. option_zip x (option_map vb b)) ta.0 ∙ ap (λ y. option_zip s.got y) tb.0,
  tb.1 ∙ ap (λ l. l ++ t.said) ta.1 ∙ append_assoc o0 s.said t.said,
)

pub pair_says : {A B D X Y Z : Type 0} (f : A × B → D) (va : X → A) (vb : Y → B) (vd : Z → D) (s : Seen A) (t : Seen B) (a : Option X) (b : Option Y) (r : Result (Option Z) Memory) (o0 o1 o2 : List Diag) → Tells va a o0 o1 s → Tells vb b o1 o2 t → IfOk r (λ z. option_map vd z ≡ option_map f (option_zip (option_map va a) (option_map vb b))) → IfOk r (λ z. Tells vd z o0 o2 (made f (both s t)))
pair_says f va vb vd s t a b r o0 o1 o2 ta tb =
    if_ok r (λ z. option_map vd z ≡ option_map f (option_zip (option_map va a) (option_map vb b))) (λ z. Tells vd z o0 o2 (made f (both s t)))
    (λ z h. (h ∙ ap (λ x. option_map f (option_zip x (option_map vb b))) ta.0 ∙ ap (λ y. option_map f (option_zip s.got y)) tb.0, tb.1 ∙ ap (λ l. l ++ t.said) ta.1 ∙ append_assoc o0 s.said t.said))

-- ---- a statement by its node

-- the node of a known kind
pub node_of : (s : Stmt) (k : StmtKind) (n : StmtNode) → s.kind ≡ k → stmt_node k ≡ n → stmt_node s.kind ≡ n
node_of s k n is means = ap stmt_node is ∙ means

module _ (C : Context) (k : Known) (s : Stmt) where
  same_tree : (n : StmtNode) → stmt_node s.kind ≡ n → stmt_tree s ≡ node.at n s.span
  same_tree n is = stmt_tree_at s ∙ ap (λ m. node.at m s.span) is

  -- one that binds nothing
  pub act_stays : {A : Type 0} (r : Result A Memory) (n : StmtNode) → stmt_node s.kind ≡ n → k ≡ node_after C k s.span n → IfOk r (λ x. k ≡ node_after C k s.span (stmt_node s.kind))
  act_stays r n is h =
      always r (k ≡ node_after C k s.span (stmt_node s.kind)) (h ∙ ap (node_after C k s.span) (sym is))

  -- what is known behind it
  pub known_after : (end : Known) → end ≡ node_after C k s.span (stmt_node s.kind) → end ≡ after C k (stmt_tree s)
  known_after end h = h ∙ ap (after C k) (sym (stmt_tree_at s))

  -- on its line
  pub line_says : (R : ReturnSort) (around : Around) (a : Option (Box TStmtKind Global)) (b : Option (Box TStmt Global)) (o0 o1 : List Diag) → Tells boxed_act a o0 o1 (node_statement C R around k s.span (stmt_node s.kind)) → option_map boxed_stmt b ≡ option_map (λ x. on_line x s.span.line) (option_map boxed_act a) → Tells boxed_stmt b o0 o1 (statement C R around k (stmt_tree s))
  line_says R around a b o0 o1 ta h =
      let P : StmtTree → Type 0 = λ t. Tells boxed_stmt b o0 o1 (statement C R around k t) in
      let placed : TypedAct → TypedStmt = λ x. on_line x s.span.line in
      subst P (sym (stmt_tree_at s)) (h ∙ ap (option_map placed) ta.0, ta.1)

  module _ {A : Type 0} (r : Result A Memory) (end : Known) where
    pub act_knows : (n : StmtNode) → stmt_node s.kind ≡ n → IfOk r (λ x. end ≡ node_after C k s.span n) → IfOk r (λ x. end ≡ node_after C k s.span (stmt_node s.kind))
    act_knows n is h = let P : StmtNode → Type 0 = λ m. IfOk r (λ x. end ≡ node_after C k s.span m) in subst P (sym is) h

    pub while_knows : (e : ExprTree) (body : Suite) → stmt_node s.kind ≡ node.While e body → IfOk r (λ x. end ≡ behind_while C (entering C k (stmt_tree s)) e body (block_after C (where_test C (entering C k (stmt_tree s)) true e) body)) → IfOk r (λ x. end ≡ node_after C k s.span (stmt_node s.kind))
    while_knows e body is h =
        let P : StmtTree → Type 0 = λ t. IfOk r (λ x. end ≡ behind_while C (entering C k t) e body (block_after C (where_test C (entering C k t) true e) body)) in
        act_knows (node.While e body) is (subst P (same_tree (node.While e body) is) h)

    pub for_knows : (target e : ExprTree) (body : Suite) → stmt_node s.kind ≡ node.For target e body → IfOk r (λ x. end ≡ behind_loop (entering C k (stmt_tree s)).names (block_after C (in_for C k (stmt_tree s) s.span target e) body)) → IfOk r (λ x. end ≡ node_after C k s.span (stmt_node s.kind))
    for_knows target e body is h =
        let P : StmtTree → Type 0 = λ t. IfOk r (λ x. end ≡ behind_loop (entering C k t).names (block_after C (in_for C k t s.span target e) body)) in
        act_knows (node.For target e body) is (subst P (same_tree (node.For target e body) is) h)

    pub try_knows : (body : Suite) (clauses : Handlers) (last : MaybeSuite) → stmt_node s.kind ≡ node.Try body clauses last → IfOk r (λ x. end ≡ behind_try C k (outside_try C k (stmt_tree s)) body clauses last) → IfOk r (λ x. end ≡ node_after C k s.span (stmt_node s.kind))
    try_knows body clauses last is h =
        let P : StmtTree → Type 0 = λ t. IfOk r (λ x. end ≡ behind_try C k (outside_try C k t) body clauses last) in
        act_knows (node.Try body clauses last) is (subst P (same_tree (node.Try body clauses last) is) h)

  module _ (R : ReturnSort) (around : Around) (r : Result (Option (Box TStmtKind Global)) Memory) (o0 o1 : List Diag) where
    pub act_says : (n : StmtNode) → stmt_node s.kind ≡ n → IfOk r (λ x. Tells boxed_act x o0 o1 (node_statement C R around k s.span n)) → IfOk r (λ x. Tells boxed_act x o0 o1 (node_statement C R around k s.span (stmt_node s.kind)))
    act_says n is h =
        let P : StmtNode → Type 0 = λ m. IfOk r (λ x. Tells boxed_act x o0 o1 (node_statement C R around k s.span m)) in subst P (sym is) h

    pub while_says : (e : ExprTree) (body : Suite) → stmt_node s.kind ≡ node.While e body → IfOk r (λ x. Tells boxed_act x o0 o1 (made (λ p. acts.While p.0 (suite_of p.1)) (guarded C R (around_loop around) (entering C k (stmt_tree s)) e body))) → IfOk r (λ x. Tells boxed_act x o0 o1 (node_statement C R around k s.span (stmt_node s.kind)))
    while_says e body is h =
        let P : StmtTree → Type 0 = λ t. IfOk r (λ x. Tells boxed_act x o0 o1 (made (λ p. acts.While p.0 (suite_of p.1)) (guarded C R (around_loop around) (entering C k t) e body))) in
        act_says (node.While e body) is (subst P (same_tree (node.While e body) is) h)

    pub for_says : (target e : ExprTree) (body : Suite) → stmt_node s.kind ≡ node.For target e body → IfOk r (λ x. Tells boxed_act x o0 o1 (made (λ p. loop_of p.0.0 p.0.1 (suite_of p.1)) (both (for_head C k (stmt_tree s) s.span target e) (block C R (around_loop around) (in_for C k (stmt_tree s) s.span target e) body)))) → IfOk r (λ x. Tells boxed_act x o0 o1 (node_statement C R around k s.span (stmt_node s.kind)))
    for_says target e body is h =
        let P : StmtTree → Type 0 = λ t. IfOk r (λ x. Tells boxed_act x o0 o1 (made (λ p. loop_of p.0.0 p.0.1 (suite_of p.1)) (both (for_head C k t s.span target e) (block C R (around_loop around) (in_for C k t s.span target e) body)))) in
        act_says (node.For target e body) is (subst P (same_tree (node.For target e body) is) h)

    pub try_says : (body : Suite) (clauses : Handlers) (last : MaybeSuite) → stmt_node s.kind ≡ node.Try body clauses last → IfOk r (λ x. Tells boxed_act x o0 o1 (tries C R around k (outside_try C k (stmt_tree s)) body clauses last)) → IfOk r (λ x. Tells boxed_act x o0 o1 (node_statement C R around k s.span (stmt_node s.kind)))
    try_says body clauses last is h =
        let P : StmtTree → Type 0 = λ t. IfOk r (λ x. Tells boxed_act x o0 o1 (tries C R around k (outside_try C k t) body clauses last)) in
        act_says (node.Try body clauses last) is (subst P (same_tree (node.Try body clauses last) is) h)

-- behind the body of a loop stand the names that are known outside
pub known_behind_loop : (outside names : List ℕ) (k end : Known) → outside ≡ names → k ≡ end → with_names k outside ≡ behind_loop names end
known_behind_loop outside names k end same e = ap (with_names k) same ∙ ap (behind_loop names) e

-- ---- rows, at their end

nothing_behind : {A : Type 0} (front : Option (List A)) → appended front (Some []) ≡ front
nothing_behind None = refl
nothing_behind (Some l) = ap Some (append-nil l)

pub row_ends : {A : Type 0} (front : Option (List A)) (o0 o1 : List Diag) (whole rest : Seen (List A)) → rest ≡ is [] → Remains front o0 o1 whole rest → (front ≡ whole.got) × (o1 ≡ o0 ++ whole.said)
row_ends {A = A} front o0 o1 whole rest over r = (
  sym (r.typed ∙ ap (λ (x : Seen (List A)). appended front x.got) over ∙ nothing_behind front),
  sym (r.told ∙ ap (λ (x : Seen (List A)). o1 ++ x.said) over ∙ append-nil o1),
)

-- ---- rows of statements

-- behind a definition all that is known stays
stays : (C : Context) (k : Known) (t : StmtTree) → is_definition t ≡ true → after C k t ≡ k
stays C k (node.at (node.Import m other) span) d = refl
stays C k (node.at (node.From m names) span) d = refl
stays C k (node.at (node.Def f params ret body marks) span) d = refl
stays C k (node.at (node.ClassDef x bases body marks) span) d = refl
stays C k (node.at n span) d = absurd (false≢true d)

module _ (C : Context) (ss : List Stmt) (i : ℕ) (s : Stmt) (h : i < length ss) (is : s ≡ get_or ss i s) where
  at_place : body_tree (drop i ss) ≡ node.stmt_then (stmt_tree s) (body_tree (drop (i + 1) ss))
  at_place =
      ap body_tree (drop-cons ss i s h)
      ∙ ap (λ (x : Stmt). node.stmt_then (stmt_tree x) (body_tree (drop (suc i) ss))) (sym is)
      ∙ ap (λ n. node.stmt_then (stmt_tree s) (body_tree (drop n ss))) (sym (add-one i))

  -- a definition is passed over
  pub known_passed : (start k : Known) → is_definition (stmt_tree s) ≡ true → block_after C start (body_tree ss) ≡ block_after C k (body_tree (drop i ss)) → block_after C start (body_tree ss) ≡ block_after C k (body_tree (drop (i + 1) ss))
  known_passed start k d before =
      before ∙ ap (block_after C k) at_place ∙ ap (λ x. block_after C x (body_tree (drop (i + 1) ss))) (stays C k (stmt_tree s) d)

  pub known_behind : (start k k1 : Known) → k1 ≡ after C k (stmt_tree s) → block_after C start (body_tree ss) ≡ block_after C k (body_tree (drop i ss)) → block_after C start (body_tree ss) ≡ block_after C k1 (body_tree (drop (i + 1) ss))
  known_behind start k k1 e before =
      before ∙ ap (block_after C k) at_place ∙ ap (λ x. block_after C x (body_tree (drop (i + 1) ss))) (sym e)

  module _ (R : ReturnSort) (around : Around) (k : Known) where
    row_at : (b : Bool) → is_definition (stmt_tree s) ≡ b → block C R around k (body_tree (drop i ss)) ≡ (if b then block C R around k (body_tree (drop (i + 1) ss)) else row_then (statement C R around k (stmt_tree s)) (block C R around (after C k (stmt_tree s)) (body_tree (drop (i + 1) ss))))
    row_at b d =
        ap (block C R around k) at_place
        ∙ ap (λ q. if q then block C R around k (body_tree (drop (i + 1) ss)) else row_then (statement C R around k (stmt_tree s)) (block C R around (after C k (stmt_tree s)) (body_tree (drop (i + 1) ss)))) d

    pub row_passed : (front : Option (List TypedStmt)) (o0 o1 : List Diag) (whole : Seen (List TypedStmt)) → is_definition (stmt_tree s) ≡ true → Remains front o0 o1 whole (block C R around k (body_tree (drop i ss))) → Remains front o0 o1 whole (block C R around k (body_tree (drop (i + 1) ss)))
    row_passed front o0 o1 whole d before =
        let P : Seen (List TypedStmt) → Type 0 = λ x. Remains front o0 o1 whole x in
        subst P (row_at true d) before

    -- one statement more, which is no definition
    pub row_behind : (k1 : Known) (front front1 : Option (List TypedStmt)) (got : Option TypedStmt) (o0 o1 o2 : List Diag) (whole : Seen (List TypedStmt)) → is_definition (stmt_tree s) ≡ false → k1 ≡ after C k (stmt_tree s) → front1 ≡ kept front got → got ≡ (statement C R around k (stmt_tree s)).got → o2 ≡ o1 ++ (statement C R around k (stmt_tree s)).said → Remains front o0 o1 whole (block C R around k (body_tree (drop i ss))) → Remains front1 o0 o2 whole (block C R around k1 (body_tree (drop (i + 1) ss)))
    row_behind k1 front front1 got o0 o1 o2 whole d e f g m before =
        let one : Seen TypedStmt = statement C R around k (stmt_tree s) in
        let rest : Seen (List TypedStmt) = block C R around k1 (body_tree (drop (i + 1) ss)) in
        let P : Seen (List TypedStmt) → Type 0 = λ x. Remains front o0 o1 whole x in
        let now : Remains front o0 o1 whole (row_then one rest) = subst P (row_at false d ∙ ap (λ x. row_then one (block C R around x (body_tree (drop (i + 1) ss)))) (sym e)) before in
        let Q : Option (List TypedStmt) → Type 0 = λ x. Remains x o0 o2 whole rest in
        subst Q (sym f) (row_step front got o0 o1 o2 whole rest one now g m)

-- behind the last one
module _ (C : Context) (ss : List Stmt) (i : ℕ) (h : length ss ≤ i) where
  pub block_ends : (R : ReturnSort) (around : Around) (k : Known) → block C R around k (body_tree (drop i ss)) ≡ is []
  block_ends R around k = ap (λ l. block C R around k (body_tree l)) (drop_all i ss h)

  pub known_ends : (start k : Known) → block_after C start (body_tree ss) ≡ block_after C k (body_tree (drop i ss)) → k ≡ block_after C start (body_tree ss)
  known_ends start k before = sym (before ∙ ap (λ l. block_after C k (body_tree l)) (drop_all i ss h))

-- ---- the arms of an `if`

module _ (C : Context) (arms : List (Expr × List Stmt)) (i : ℕ) (a : Expr × List Stmt) (h : i < length arms) (is : a ≡ get_or arms i a) (b : List Stmt) (same : b ≡ a.1) where
  abbrev behind : Way → Way
  behind w =
      behind_arm C w (expr_tree a.0) (is_closed (body_tree b)) (block_after C (where_test C w.at true (expr_tree a.0)) (body_tree b))

  arm_at : arms_of (map arm_tree (drop i arms)) ≡ node.arm_then (expr_tree a.0) (body_tree b) (arms_of (map arm_tree (drop (i + 1) arms)))
  arm_at =
      ap (λ l. arms_of (map arm_tree l)) (drop-cons arms i a h)
      ∙ ap (λ (x : Expr × List Stmt). node.arm_then (expr_tree x.0) (body_tree x.1) (arms_of (map arm_tree (drop (suc i) arms)))) (sym is)
      ∙ ap (λ n. node.arm_then (expr_tree a.0) (body_tree a.1) (arms_of (map arm_tree (drop n arms)))) (sym (add-one i))
      ∙ ap (λ l. node.arm_then (expr_tree a.0) (body_tree l) (arms_of (map arm_tree (drop (i + 1) arms)))) (sym same)

  -- where the test is false, with the names at the ends
  pub way_behind : (k k1 k2 : Known) (ends ends1 : Option (List ℕ)) (fails : List ℕ) → fails ≡ facts C false (expr_tree a.0) ++ k.names → k1 ≡ block_after C (where_test C k true (expr_tree a.0)) (body_tree b) → k2 ≡ with_names k1 fails → ends1 ≡ met ends (is_closed (body_tree b)) k1.names → way k2 ends1 ≡ behind (way k ends)
  way_behind k k1 k2 ends ends1 fails f e n m =
      ap (λ x. way x ends1) n
      ∙ ap (λ l. way (with_names k1 l) ends1) f
      ∙ ap (way (with_names k1 (facts C false (expr_tree a.0) ++ k.names))) m
      ∙ ap (λ (x : Known). behind_arm C (way k ends) (expr_tree a.0) (is_closed (body_tree b)) x) e

  pub ways_behind : (start w w1 : Way) → w1 ≡ behind w → arms_after C start (arms_of (map arm_tree arms)) ≡ arms_after C w (arms_of (map arm_tree (drop i arms))) → arms_after C start (arms_of (map arm_tree arms)) ≡ arms_after C w1 (arms_of (map arm_tree (drop (i + 1) arms)))
  ways_behind start w w1 e before =
      before ∙ ap (arms_after C w) arm_at ∙ ap (λ x. arms_after C x (arms_of (map arm_tree (drop (i + 1) arms)))) (sym e)

  -- one arm more
  pub arms_behind : (R : ReturnSort) (around : Around) (w w1 : Way) (front front1 : Option (List (TypedExpr × TypedSuite))) (got : Option (TypedExpr × List TypedStmt)) (o0 o1 o2 : List Diag) (whole : Seen (List (TypedExpr × TypedSuite))) → w1 ≡ behind w → front1 ≡ kept front (option_map (λ p. (p.0, suite_of p.1)) got) → got ≡ (guarded C R around w.at (expr_tree a.0) (body_tree b)).got → o2 ≡ o1 ++ (guarded C R around w.at (expr_tree a.0) (body_tree b)).said → Remains front o0 o1 whole (branches C R around w (arms_of (map arm_tree (drop i arms)))) → Remains front1 o0 o2 whole (branches C R around w1 (arms_of (map arm_tree (drop (i + 1) arms))))
  arms_behind R around w w1 front front1 got o0 o1 o2 whole e f g m before =
      let pair : TypedExpr × List TypedStmt → TypedExpr × TypedSuite = λ p. (p.0, suite_of p.1) in
      let one : Seen (TypedExpr × TypedSuite) = made pair (guarded C R around w.at (expr_tree a.0) (body_tree b)) in
      let rest : Seen (List (TypedExpr × TypedSuite)) = branches C R around w1 (arms_of (map arm_tree (drop (i + 1) arms))) in
      let P : Seen (List (TypedExpr × TypedSuite)) → Type 0 = λ x. Remains front o0 o1 whole x in
      let now : Remains front o0 o1 whole (row_then one rest) = subst P (ap (branches C R around w) arm_at ∙ ap (λ x. row_then one (branches C R around x (arms_of (map arm_tree (drop (i + 1) arms))))) (sym e)) before in
      let Q : Option (List (TypedExpr × TypedSuite)) → Type 0 = λ x. Remains x o0 o2 whole rest in
      subst Q (sym f) (row_step front (option_map pair got) o0 o1 o2 whole rest one now (ap (option_map pair) g) m)

-- behind the last one
module _ (C : Context) (arms : List (Expr × List Stmt)) (i : ℕ) (h : length arms ≤ i) where
  pub branches_end : (R : ReturnSort) (around : Around) (w : Way) → branches C R around w (arms_of (map arm_tree (drop i arms))) ≡ is []
  branches_end R around w = ap (λ l. branches C R around w (arms_of (map arm_tree l))) (drop_all i arms h)

  pub ways_end : (start w : Way) → arms_after C start (arms_of (map arm_tree arms)) ≡ arms_after C w (arms_of (map arm_tree (drop i arms))) → w ≡ arms_after C start (arms_of (map arm_tree arms))
  ways_end start w before = sym (before ∙ ap (λ l. arms_after C w (arms_of (map arm_tree l))) (drop_all i arms h))

-- behind the body of `else`
pub known_behind_else : (C : Context) (w : Way) (k1 k2 k3 : Known) (ends : Option (List ℕ)) (other : Suite) → way k1 ends ≡ w → k2 ≡ block_after C k1 other → k3 ≡ meeting ends (is_closed other) k2 → k3 ≡ meeting w.ends (is_closed other) (block_after C w.at other)
known_behind_else C w k1 k2 k3 ends other e f g =
    g
    ∙ ap (meeting ends (is_closed other)) f
    ∙ ap (λ (x : Way). meeting x.ends (is_closed other) (block_after C x.at other)) e
