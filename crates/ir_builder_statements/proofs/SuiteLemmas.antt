-- What is asked of statements is asked of their parts.
use Rattle.ir_builder_statements.proofs.Common.{◌≡◌, ℕ, ◌+◌, ◌<◌, true, List, ◌∷◌, length, map, drop, get_or, Option, None, refl, sym, ap, ◌∙◌, subst, TExpr, TStmt, Sort, typed_expr, type_of, typed_target, is_scalar, Suits, sort, Variable, TypedModule, TypedStmt, TypedSuite, TypedAct, on_line, typed_stmt, typed_act, typed_suite, typed_arm, maybe_typed, arms_of, typed_stmt_of, typed_stmt-While, typed_act-Expr, typed_act-Assign, typed_act-Aug, typed_act-If, typed_act-While, typed_act-Return, typed_act-Break, typed_act-Continue, State, Setting, means_loop, means_statement, means_suite, DoSuits, VariableUpdates, TestSuits, ReturnSuits, StatementSuits, ActSuits, SuiteSuits, ArmsSuit, LoopSuits, Bool, drop_more, BinOp, Ty, Target, RangeSuits, ListSuits, typed_act-ForRange, typed_act-ForList, TargetsSuit, TargetUpdates}
use Rattle.py_typed.specs.declared.statement.THandler.{THandler}
use Rattle.py_typed.specs.declared.statement.TStmtKind.{TStmtKind, fold-roll-TStmtKind, out-TStmtKind, roll-TStmtKind, roll-out-TStmtKind}
use Rattle.py_typed.specs.declared.statement.TStmtKind as kind
use Rattle.py_typed.specs.declared.statement.TStmtKind.TheVariants as variant
use Rattle.py_typed.specs.declared.statement.TStmtKind.TheOpen.{TStmtKind-F}
use Rattle.py_typed.specs.Statements as tree
use Rattle.py_typed.specs.Statements.{HandlerParts, act_step, handler_step, stmt_step, typed_handler}

-- a `for` over a range
pub typed_stmt-ForRange : (s : TStmt) (ts : List Target) (a : Option TExpr) (e : TExpr) (body : List TStmt) → s.kind ≡ kind.ForRange ts a e body → typed_stmt s ≡ on_line (tree.ForRange (map typed_target ts) (maybe_typed a) (typed_expr e) (typed_suite body)) s.line
typed_stmt-ForRange s ts a e body is = typed_stmt_of s (kind.ForRange ts a e body) is ∙ ap (λ z. on_line z s.line) (typed_act-ForRange ts a e body)

-- and one over a list
pub typed_stmt-ForList : (s : TStmt) (ts : List Target) (e : TExpr) (body : List TStmt) → s.kind ≡ kind.ForList ts e body → typed_stmt s ≡ on_line (tree.ForList (map typed_target ts) (typed_expr e) (typed_suite body)) s.line
typed_stmt-ForList s ts e body is = typed_stmt_of s (kind.ForList ts e body) is ∙ ap (λ z. on_line z s.line) (typed_act-ForList ts e body)

module _ (m : TypedModule) (vs : List Variable) (gives : Option Sort) (looping : Bool) where
  -- ---- rows

  pub suite_step : (ss : List TStmt) (i : ℕ) (s : TStmt) → i < length ss → s ≡ get_or ss i s → SuiteSuits m vs gives looping (typed_suite (drop i ss)) → StatementSuits m vs gives looping (typed_stmt s) × SuiteSuits m vs gives looping (typed_suite (drop (i + 1) ss))
  suite_step ss i s lt is h =
      let d : drop i ss ≡ s ∷ drop (i + 1) ss = drop_more ss i s lt ∙ ap (λ z. z ∷ drop (i + 1) ss) (sym is) in
      let P : List TStmt → Type 0 = λ z. SuiteSuits m vs gives looping (typed_suite z) in
      subst P d h

  pub arms_step : (arms : List (TExpr × List TStmt)) (i : ℕ) (a : TExpr × List TStmt) (body : List TStmt) → i < length arms → a ≡ get_or arms i a → body ≡ a.1 → ArmsSuit m vs gives looping (arms_of (map typed_arm (drop i arms))) → TestSuits m vs gives (typed_expr a.0) × SuiteSuits m vs gives looping (typed_suite body) × ArmsSuit m vs gives looping (arms_of (map typed_arm (drop (i + 1) arms)))
  arms_step arms i a body lt is same h =
      let d : drop i arms ≡ a ∷ drop (i + 1) arms = drop_more arms i a lt ∙ ap (λ z. z ∷ drop (i + 1) arms) (sym is) in
      let P : List (TExpr × List TStmt) → Type 0 = λ z. ArmsSuit m vs gives looping (arms_of (map typed_arm z)) in
      let Q : List TStmt → Type 0 = λ z. SuiteSuits m vs gives looping (typed_suite z) in
      let k = subst P d h in
      (k.0, subst Q (sym same) k.1, k.2)

  -- ---- statements

  module _ (s : TStmt) (suits : StatementSuits m vs gives looping (typed_stmt s)) where
    act_suits : (k : TStmtKind) (a : TypedAct) → s.kind ≡ k → typed_act k ≡ a → ActSuits m vs gives looping a
    act_suits k a is made =
        let P : TypedStmt → Type 0 = λ z. StatementSuits m vs gives looping z in
        subst P (typed_stmt_of s k is ∙ ap (λ z. on_line z s.line) made) suits

    pub if_suits : (arms all : List (TExpr × List TStmt)) (other last : List TStmt) → s.kind ≡ kind.If all last → arms ≡ all → other ≡ last → ArmsSuit m vs gives looping (arms_of (map typed_arm arms)) × SuiteSuits m vs gives looping (typed_suite other)
    if_suits arms all other last is same_arms same =
        let P : List (TExpr × List TStmt) → Type 0 = λ z. ArmsSuit m vs gives looping (arms_of (map typed_arm z)) in
        let Q : List TStmt → Type 0 = λ z. SuiteSuits m vs gives looping (typed_suite z) in
        let k = act_suits (kind.If all last) (tree.If (arms_of (map typed_arm all)) (typed_suite last)) is (typed_act-If all last) in
        (subst P (sym same_arms) k.0, subst Q (sym same) k.1)

    pub alone_suits : (e : TExpr) → s.kind ≡ kind.Expr e → DoSuits m vs None (typed_expr e)
    alone_suits e is = act_suits (kind.Expr e) (tree.Do (typed_expr e)) is (typed_act-Expr e)

    pub assign_suits : (ts all : List Target) (e : TExpr) → s.kind ≡ kind.Assign all e → ts ≡ all → TargetsSuit m vs None (map typed_target ts) (type_of (typed_expr e)) × Suits m vs (typed_expr e)
    assign_suits ts all e is same =
        let P : List Target → Type 0 = λ z. TargetsSuit m vs None (map typed_target z) (type_of (typed_expr e)) in
        let k = act_suits (kind.Assign all e) (tree.Assign (map typed_target all) (typed_expr e)) is (typed_act-Assign all e) in
        (subst P (sym same) k.0, k.1)

    pub update_suits : (target : Target) (op : BinOp) (e : TExpr) (ty : Ty) → s.kind ≡ kind.Aug target op e ty → TargetUpdates m vs None (typed_target target) op (sort ty) (type_of (typed_expr e)) × Suits m vs (typed_expr e)
    update_suits target op e ty is = act_suits (kind.Aug target op e ty) (tree.Aug (typed_target target) op (typed_expr e) (sort ty)) is (typed_act-Aug target op e ty)

    pub return_suits : (o : Option TExpr) → s.kind ≡ kind.Return o → ReturnSuits m vs gives (maybe_typed o)
    return_suits o is = act_suits (kind.Return o) (tree.Return (maybe_typed o)) is (typed_act-Return o)

    pub break_suits : s.kind ≡ kind.Break → looping ≡ true
    break_suits is = act_suits kind.Break tree.Break is typed_act-Break

    pub continue_suits : s.kind ≡ kind.Continue → looping ≡ true
    continue_suits is = act_suits kind.Continue tree.Continue is typed_act-Continue

    pub loop_suits : (e : TExpr) (all body : List TStmt) → s.kind ≡ kind.While e all → body ≡ all → LoopSuits m vs gives (typed_stmt s) (typed_suite body)
    loop_suits e all body is same =
        let P : List TStmt → Type 0 = λ z. LoopSuits m vs gives (typed_stmt s) (typed_suite z) in
        let Q : TypedStmt → Type 0 = λ z. LoopSuits m vs gives z (typed_suite all) in
        let k = act_suits (kind.While e all) (tree.While (typed_expr e) (typed_suite all)) is (typed_act-While e all) in
        subst P (sym same) (subst Q (sym (typed_stmt-While s e all is)) (refl, k.0, k.1))

    pub range_loop_suits : (ts : List Target) (a : Option TExpr) (e : TExpr) (all body : List TStmt) → s.kind ≡ kind.ForRange ts a e all → body ≡ all → LoopSuits m vs gives (typed_stmt s) (typed_suite body)
    range_loop_suits ts a e all body is same =
        let P : List TStmt → Type 0 = λ z. LoopSuits m vs gives (typed_stmt s) (typed_suite z) in
        let Q : TypedStmt → Type 0 = λ z. LoopSuits m vs gives z (typed_suite all) in
        let k = act_suits (kind.ForRange ts a e all) (tree.ForRange (map typed_target ts) (maybe_typed a) (typed_expr e) (typed_suite all)) is (typed_act-ForRange ts a e all) in
        subst P (sym same) (subst Q (sym (typed_stmt-ForRange s ts a e all is)) (refl, k.0, k.1))

    pub list_loop_suits : (ts : List Target) (e : TExpr) (all body : List TStmt) → s.kind ≡ kind.ForList ts e all → body ≡ all → LoopSuits m vs gives (typed_stmt s) (typed_suite body)
    list_loop_suits ts e all body is same =
        let P : List TStmt → Type 0 = λ z. LoopSuits m vs gives (typed_stmt s) (typed_suite z) in
        let Q : TypedStmt → Type 0 = λ z. LoopSuits m vs gives z (typed_suite all) in
        let k = act_suits (kind.ForList ts e all) (tree.ForList (map typed_target ts) (typed_expr e) (typed_suite all)) is (typed_act-ForList ts e all) in
        subst P (sym same) (subst Q (sym (typed_stmt-ForList s ts e all is)) (refl, k.0, k.1))

    -- it is of one of the kinds that are built
    abbrev act_as : TStmtKind-F TStmtKind THandler TStmt → TypedAct
    act_as k = act_step (kind.map-TStmtKind TStmtKind THandler TStmt TypedAct HandlerParts TypedStmt typed_act typed_handler typed_stmt k)

    suited : (k : TStmtKind-F TStmtKind THandler TStmt) → roll-TStmtKind k ≡ s.kind → ActSuits m vs gives looping (act_as k)
    suited k is = act_suits (roll-TStmtKind k) (act_as k) (sym is) (fold-roll-TStmtKind TypedAct HandlerParts TypedStmt act_step handler_step stmt_step k)

    module _ (no_alone : (e : TExpr) → s.kind ≡ kind.Expr e → ⊥) (no_assignment : (ts : List Target) (e : TExpr) → s.kind ≡ kind.Assign ts e → ⊥) (no_update : (t : Target) (op : BinOp) (e : TExpr) (ty : Ty) → s.kind ≡ kind.Aug t op e ty → ⊥) (no_if : (arms : List (TExpr × List TStmt)) (other : List TStmt) → s.kind ≡ kind.If arms other → ⊥) (no_while : (e : TExpr) (body : List TStmt) → s.kind ≡ kind.While e body → ⊥) (no_range : (ts : List Target) (a : Option TExpr) (e : TExpr) (body : List TStmt) → s.kind ≡ kind.ForRange ts a e body → ⊥) (no_list : (ts : List Target) (e : TExpr) (body : List TStmt) → s.kind ≡ kind.ForList ts e body → ⊥) (no_return : (o : Option TExpr) → s.kind ≡ kind.Return o → ⊥) (no_break : s.kind ≡ kind.Break → ⊥) (no_continue : s.kind ≡ kind.Continue → ⊥) (no_pass : s.kind ≡ kind.Pass → ⊥) where
      unsuited : (k : TStmtKind-F TStmtKind THandler TStmt) → roll-TStmtKind k ≡ s.kind → ⊥
      unsuited (TStmtKind-F.Expr e) is = no_alone e (sym is ∙ variant.rolls-Expr e)
      unsuited (TStmtKind-F.Assign ts e) is = no_assignment ts e (sym is ∙ variant.rolls-Assign ts e)
      unsuited (TStmtKind-F.Aug t op e ty) is = no_update t op e ty (sym is ∙ variant.rolls-Aug t op e ty)
      unsuited (TStmtKind-F.If arms other) is = no_if arms other (sym is ∙ variant.rolls-If arms other)
      unsuited (TStmtKind-F.While e body) is = no_while e body (sym is ∙ variant.rolls-While e body)
      unsuited (TStmtKind-F.ForRange ts a e body) is = no_range ts a e body (sym is ∙ variant.rolls-ForRange ts a e body)
      unsuited (TStmtKind-F.ForList ts e body) is = no_list ts e body (sym is ∙ variant.rolls-ForList ts e body)
      unsuited (TStmtKind-F.Return o) is = no_return o (sym is ∙ variant.rolls-Return o)
      unsuited TStmtKind-F.Break is = no_break (sym is ∙ variant.rolls-Break)
      unsuited TStmtKind-F.Continue is = no_continue (sym is ∙ variant.rolls-Continue)
      unsuited TStmtKind-F.Pass is = no_pass (sym is ∙ variant.rolls-Pass)
      unsuited k is = suited k is

      pub none_left : ⊥
      none_left = unsuited (out-TStmtKind s.kind) (roll-out-TStmtKind s.kind)

-- ---- loops

module _ (x : Setting) (gives : Option Sort) where
  pub loop_body : (s : TypedStmt) (ss : TypedSuite) → LoopSuits x.source x.variables gives s ss → SuiteSuits x.source x.variables gives true ss
  loop_body (on_line (tree.While test b) line) ss suits = let P : TypedSuite → Type 0 = λ z. SuiteSuits x.source x.variables gives true z in subst P suits.0 suits.2
  loop_body (on_line (tree.ForRange ts a e b) line) ss suits = let P : TypedSuite → Type 0 = λ z. SuiteSuits x.source x.variables gives true z in subst P suits.0 suits.2
  loop_body (on_line (tree.ForList ts e b) line) ss suits = let P : TypedSuite → Type 0 = λ z. SuiteSuits x.source x.variables gives true z in subst P suits.0 suits.2
  loop_body (on_line a line) ss suits = absurd suits

  pub loop_means : (s : TypedStmt) (ss : TypedSuite) → LoopSuits x.source x.variables gives s ss → (n : ℕ) (u : State) → means_statement x s n u ≡ means_loop x s (means_suite x ss) n u
  loop_means (on_line (tree.While test b) line) ss suits n u = ap (λ z. means_loop x (on_line (tree.While test b) line) (means_suite x z) n u) suits.0
  loop_means (on_line (tree.ForRange ts a e b) line) ss suits n u = ap (λ z. means_loop x (on_line (tree.ForRange ts a e b) line) (means_suite x z) n u) suits.0
  loop_means (on_line (tree.ForList ts e b) line) ss suits n u = ap (λ z. means_loop x (on_line (tree.ForList ts e b) line) (means_suite x z) n u) suits.0
  loop_means (on_line a line) ss suits n u = absurd suits

  -- the test of a `while`
  pub while_suits : (s : TStmt) (e : TExpr) (all : List TStmt) (ss : TypedSuite) → s.kind ≡ kind.While e all → LoopSuits x.source x.variables gives (typed_stmt s) ss → TestSuits x.source x.variables gives (typed_expr e)
  while_suits s e all ss is suits = let P : TypedStmt → Type 0 = λ z. LoopSuits x.source x.variables gives z ss in (subst P (typed_stmt-While s e all is) suits).1

  -- the bounds and the targets of a `for` over a range
  pub range_suits : (s : TStmt) (ts : List Target) (a : Option TExpr) (e : TExpr) (all : List TStmt) (ss : TypedSuite) → s.kind ≡ kind.ForRange ts a e all → LoopSuits x.source x.variables gives (typed_stmt s) ss → RangeSuits x.source x.variables gives (map typed_target ts) (maybe_typed a) (typed_expr e)
  range_suits s ts a e all ss is suits = let P : TypedStmt → Type 0 = λ z. LoopSuits x.source x.variables gives z ss in (subst P (typed_stmt-ForRange s ts a e all is) suits).1

  -- the list and the targets of a `for` over a list
  pub list_suits : (s : TStmt) (ts : List Target) (e : TExpr) (all : List TStmt) (ss : TypedSuite) → s.kind ≡ kind.ForList ts e all → LoopSuits x.source x.variables gives (typed_stmt s) ss → ListSuits x.source x.variables gives (map typed_target ts) (typed_expr e)
  list_suits s ts e all ss is suits = let P : TypedStmt → Type 0 = λ z. LoopSuits x.source x.variables gives z ss in (subst P (typed_stmt-ForList s ts e all is) suits).1
