-- How the lines of the code of statements come from those of their pieces.
use Rattle.ir_builder_statements.proofs.Common.{◌≡◌, sym, ◌∙◌, ap, subst, ℕ, ◌+◌, ◌<◌, ◌≤◌, List, [], ◌∷◌, ◌++◌, length, map, drop, get_or, Option, Some, None, Sort, TExpr, TStmt, TypedExpr, TypedStmt, TypedSuite, TypedTarget, TypedAct, LocalTarget, GlobalTarget, AttrTarget, ItemTarget, reading_of, typed_expr, typed_stmt, typed_suite, typed_arm, typed_target, arms_of, maybe_typed, on_line, Building, Extends, If, Setting, Emits, Emitted, OpenIn, planned, Exit, LoopStart, Open, patches, means_suite, Target, typed_act, sort, LoopSuits, type_of, exprs_of, Bool, le_refl, held, drop_more, drop_all, Span, Ty, BinOp, typed_stmt_at, typed_stmt_of, typed_stmt-If, typed_stmt-While, typed_act-Expr, typed_act-Assign, typed_act-Aug, typed_act-Return, typed_act-Break, typed_act-Continue, typed_act-Pass, OwnLines, has_less, extends_trans, Around, IsCodeOf, Lined, LinedParts, lined, own, part, around_none, around_both, lined_node, lined_then, listed_of, SplitsBy, EndsArm, Joins, EndsLoop, joining, looping_to, Test, jumps_of}
use Rattle.py_typed.specs.Statements as tree
use Rattle.py_typed.specs.Expressions as expression
use Rattle.py_typed.specs.declared.expression.TKind as expr
use Rattle.py_typed.specs.declared.statement.TStmtKind as kind
use Rattle.py_typed.specs.declared.statement.TStmtKind.{TStmtKind}
use Rattle.ir_builder_statements.proofs.AloneLemmas.{print_is}
use Rattle.ir_builder_statements.proofs.SuiteLemmas.{typed_stmt-ForRange, typed_stmt-ForList}
use Rattle.ir_builder_statements.specs.Lined.{Piece, value, alone, body, arm_pieces, returned_pieces, bound_pieces, head_pieces, pieces_of, IsCodeOfSuite, IsCodeOfStatement, IsCodeOfPiece, of_value, of_alone, of_body, LinedPieces, own as bare, piece, LinedStatement, lined as stands, LinedSuite, none, next, target_pieces, all_target_pieces}
use Rattle.ir_builder_statements.proofs.BodyLemmas.{open_kept, open_tested, still_open}

-- ---- pieces one behind the other

pub pieces_behind : {x : Setting} {l : ℕ} {ps : List Piece} {a b c : Building} → Around l a b → LinedPieces x l ps b c → LinedPieces x l ps a c
pieces_behind {l = l} {a = a} {b = b} {c = c} p (bare q) = bare (around_both l a b c p q)
pieces_behind {l = l} {a = a} {b = b} p (piece q code one rest) = piece (around_both l a b _ p q) code one rest

pub pieces_then : {x : Setting} {l : ℕ} {ps : List Piece} {a b c : Building} → LinedPieces x l ps a b → Around l b c → LinedPieces x l ps a c
pieces_then {l = l} {a = a} {b = b} {c = c} (bare p) q = bare (around_both l a b c p q)
pieces_then (piece p code one rest) q = piece p code one (pieces_then rest q)

pub pieces_join : {x : Setting} {l : ℕ} {ps qs : List Piece} {a b c : Building} → LinedPieces x l ps a b → LinedPieces x l qs b c → LinedPieces x l (ps ++ qs) a c
pieces_join (bare p) q = pieces_behind p q
pieces_join (piece p code one rest) q = piece p code one (pieces_join rest q)

pub value_piece : (x : Setting) (l : ℕ) (e : TypedExpr) (a b c : Building) → IsCodeOf x e a b → Lined x e a b → Around l b c → LinedPieces x l (value e ∷ []) a c
value_piece x l e a b c code one p = piece (around_none l a) code (of_value one) (bare p)

pub value_then : (x : Setting) (l : ℕ) (e : TypedExpr) (ps : List Piece) (a b c : Building) → IsCodeOf x e a b → Lined x e a b → LinedPieces x l ps b c → LinedPieces x l (value e ∷ ps) a c
value_then x l e ps a b c code one rest = piece (around_none l a) code (of_value one) rest

pub body_piece : (x : Setting) (l : ℕ) (ss : TypedSuite) (a b c : Building) → IsCodeOfSuite x ss a b → LinedSuite x ss a b → Around l b c → LinedPieces x l (body ss ∷ []) a c
body_piece x l ss a b c code one p = piece (around_none l a) code (of_body one) (bare p)

-- ---- a variable that is changed is read on the line of the statement

first_part : {x : Setting} {l : ℕ} {e : TypedExpr} {es : List TypedExpr} {a d : Building} → LinedParts x l (e ∷ es) a d → (b : Building) × (c : Building) × Around l a b × IsCodeOf x e b c × Lined x e b c × LinedParts x l es c d
first_part (part {b = b} {c = c} p code one rest) = (b, c, p, code, one, rest)

no_parts : {x : Setting} {l : ℕ} {a b : Building} → LinedParts x l [] a b → Around l a b
no_parts (own p) = p

reading_own : (x : Setting) (target : TypedTarget) (t : Sort) (place : Span) (a b : Building) → Lined x (reading_of target t place) a b → Around place.line a b
reading_own x (LocalTarget k) t place a b (lined h) = no_parts h
reading_own x (GlobalTarget i) t place a b (lined h) = no_parts h
reading_own x (AttrTarget e name) t place a b (lined h) = no_parts h
reading_own x (ItemTarget e i) t place a b (lined h) = no_parts h

pub update_pieces : (x : Setting) (before e : TypedExpr) (target : TypedTarget) (t : Sort) (place : Span) (a b c : Building) → before ≡ reading_of target t place → LinedParts x place.line (before ∷ e ∷ []) a b → Around place.line b c → LinedPieces x place.line (value e ∷ []) a c
update_pieces x before e target t place a b c is h p =
    let l = place.line in
    let read = first_part h in
    let P : TypedExpr → Type 0 = λ z. Lined x z read.0 read.1 in
    let other = first_part read.5 in
    let to_read = around_both l a read.0 read.1 read.2 (reading_own x target t place read.0 read.1 (subst P is read.4)) in
    let from_other = around_both l other.1 b c (no_parts other.5) p in
    piece (around_both l a read.1 other.0 to_read other.2) other.3 (of_value other.4) (bare from_other)

-- ---- statements one behind the other

pub record SuiteRest (x : Setting) (whole rest : TypedSuite) (start b : Building) : Type 0 where
  pub make : (c : Building) → LinedSuite x rest b c → LinedSuite x whole start c

pub suite_code : (x : Setting) (gives : Option Sort) (looping : Bool) (ss : TypedSuite) (a b : Building) (xs ys : List Exit) → Emitted x gives looping (means_suite x ss) a b xs ys → IsCodeOfSuite x ss a b
suite_code x gives looping ss a b xs ys e = (gives, e.mine, e.works)

pub suite_next : (x : Setting) (ss : List TStmt) (i : ℕ) (s : TStmt) (start b c : Building) → i < length ss → s ≡ get_or ss i s → SuiteRest x (typed_suite ss) (typed_suite (drop i ss)) start b → IsCodeOfStatement x (typed_stmt s) b c → LinedStatement x (typed_stmt s) b c → SuiteRest x (typed_suite ss) (typed_suite (drop (i + 1) ss)) start c
suite_next x ss i s start b c lt is g code one =
    let d : drop i ss ≡ s ∷ drop (i + 1) ss = drop_more ss i s lt ∙ ap (λ z. z ∷ drop (i + 1) ss) (sym is) in
    let P : List TStmt → Type 0 = λ z. SuiteRest x (typed_suite ss) (typed_suite z) start b in
    let h : SuiteRest x (typed_suite ss) (typed_suite (s ∷ drop (i + 1) ss)) start b = subst P d g in
    record { make = λ f rest. h.make f (next code one rest) }

pub suite_over : (x : Setting) (ss : List TStmt) (i : ℕ) (start b : Building) → length ss ≤ i → SuiteRest x (typed_suite ss) (typed_suite (drop i ss)) start b → LinedSuite x (typed_suite ss) start b
suite_over x ss i start b le g =
    let P : List TStmt → Type 0 = λ z. SuiteRest x (typed_suite ss) (typed_suite z) start b in
    let h : SuiteRest x (typed_suite ss) tree.no_stmts start b = subst P (drop_all i ss le) g in
    h.make b (none (λ l. around_none l b))

-- ---- the arms of an `if`

abbrev pub Tests : Type 0
Tests = List (TExpr × List TStmt)

abbrev pub pieces_of_arms : Tests → List Piece
pieces_of_arms arms = arm_pieces (arms_of (map typed_arm arms))

pub record PiecesRest (x : Setting) (l : ℕ) (whole rest : List Piece) (start b : Building) : Type 0 where
  pub make : (c : Building) → LinedPieces x l rest b c → LinedPieces x l whole start c

pub arms_next : (x : Setting) (l : ℕ) (arms : Tests) (i : ℕ) (a : TExpr × List TStmt) (ss : List TStmt) (start b b1 b2 b3 : Building) → i < length arms → a ≡ get_or arms i a → ss ≡ a.1 → PiecesRest x l (pieces_of_arms arms) (pieces_of_arms (drop i arms)) start b → LinedPieces x l (value (typed_expr a.0) ∷ []) b b1 → IsCodeOfSuite x (typed_suite ss) b1 b2 → LinedSuite x (typed_suite ss) b1 b2 → Around l b2 b3 → PiecesRest x l (pieces_of_arms arms) (pieces_of_arms (drop (i + 1) arms)) start b3
arms_next x l arms i a ss start b b1 b2 b3 lt is same g test code one end =
    let d : drop i arms ≡ a ∷ drop (i + 1) arms = drop_more arms i a lt ∙ ap (λ z. z ∷ drop (i + 1) arms) (sym is) in
    let P : Tests → Type 0 = λ z. PiecesRest x l (pieces_of_arms arms) (pieces_of_arms z) start b in
    let h : PiecesRest x l (pieces_of_arms arms) (pieces_of_arms (a ∷ drop (i + 1) arms)) start b = subst P d g in
    let C : List TStmt → Type 0 = λ z. IsCodeOfSuite x (typed_suite z) b1 b2 in
    let L : List TStmt → Type 0 = λ z. LinedSuite x (typed_suite z) b1 b2 in
    record { make = λ f rest. h.make f (pieces_join test (piece (around_none l b1) (subst C same code) (of_body (subst L same one)) (pieces_behind end rest))) }

pub arms_over : (x : Setting) (l : ℕ) (arms : Tests) (i : ℕ) (start b : Building) → length arms ≤ i → PiecesRest x l (pieces_of_arms arms) (pieces_of_arms (drop i arms)) start b → LinedPieces x l (pieces_of_arms arms) start b
arms_over x l arms i start b le g =
    let P : Tests → Type 0 = λ z. PiecesRest x l (pieces_of_arms arms) (pieces_of_arms z) start b in
    let h : PiecesRest x l (pieces_of_arms arms) [] start b = subst P (drop_all i arms le) g in
    h.make b (bare (around_none l b))

-- ---- what stands around bodies

pub arm_around : (x : Setting) (l : ℕ) (e : TypedExpr) (b1 b3 b4 b6 : Building) (t : Test) (before after : List Exit) → SplitsBy x e b1 b3 t → Extends b3 b4 → EndsArm b4 b6 t before after → OwnLines l b4 b6 → Around l b4 b6
arm_around x l e b1 b3 b4 b6 t before after s more a lines =
    let there = still_open b3 a.closed t.block (extends_trans b3 b4 a.closed more a.closes.extends) record { place = length s.middle.ops; is = ap (λ k. held b3 k (length s.middle.ops)) s.block ∙ s.closes.at } in
    let p = patches a.closed b6 t.block (If t.condition t.start a.next) there (λ z. cc) a.set in
    record { lines = lines; stays = λ q fn h. has_less q fn b4 a.closed a.closes.extends (p.has q fn h) }

pub join_around : (l : ℕ) (b2 b4 : Building) (from : ℕ) (inner before after : List Exit) → Joins b2 b4 inner before after → OpenIn b2 from (length b2.blocks) inner → OwnLines l b2 b4 → Around l b2 b4
join_around l b2 b4 from inner before after j opens lines =
    let there = open_kept b2 j.closed from (length b2.blocks) inner j.closes.extends (le_refl _) opens in
    let jumps = jumps_of (planned (joining j.end)) inner j.closed b4 from (length j.closed.blocks) j.jumps there in
    record { lines = lines; stays = λ q fn h. has_less q fn b2 j.closed j.closes.extends (jumps.has q fn h) }

pub loop_around : (l : ℕ) (b5 b9 : Building) (o : LoopStart) (on : ℕ) (inner before after : List Exit) → EndsLoop b5 b9 o on inner before after → Open b5 o.test.block → o.test.block < o.test.start → on ≤ length b5.blocks → OpenIn b5 o.test.start on inner → OwnLines l b5 b9 → Around l b5 b9
loop_around l b5 b9 o on inner before after e there lt le opens lines =
    let more = extends_trans b5 e.turned e.closed e.turns.extends e.closes.extends in
    let still = still_open b5 e.closed o.test.block more there in
    let p = patches e.closed e.tested o.test.block (If o.test.condition o.test.start e.exit) still (λ z. cc) e.set in
    let left_open = open_tested e.closed e.tested o.test.block o.test.start o.test.start e.exit o.test.condition inner lt still e.set (open_kept b5 e.closed o.test.start on inner more le opens) in
    let jumps = jumps_of (planned (looping_to e.exit on)) inner e.tested b9 o.test.start (length e.tested.blocks) e.jumps left_open in
    record { lines = lines; stays = λ q fn h. has_less q fn b5 e.closed more (p.has q fn (jumps.has q fn h)) }

-- ---- statements of each kind

pub statement_lined : (x : Setting) (s : TStmt) (a : TypedAct) (b c : Building) → typed_stmt s ≡ on_line a s.line → LinedPieces x s.line (pieces_of a) b c → LinedStatement x (typed_stmt s) b c
statement_lined x s a b c is h = let P : TypedStmt → Type 0 = λ z. LinedStatement x z b c in subst P (sym is) (stands h)

act_is : (s : TStmt) (k : TStmtKind) (a : TypedAct) → typed_act k ≡ a → s.kind ≡ k → typed_stmt s ≡ on_line a s.line
act_is s k a at is = typed_stmt_of s k is ∙ ap (λ z. on_line z s.line) at

module _ (x : Setting) (s : TStmt) (b c : Building) where
  pub alone_lined : (e : TExpr) → s.kind ≡ kind.Expr e → IsCodeOfPiece x (alone (typed_expr e)) b c → Lined x (typed_expr e) b c → LinedStatement x (typed_stmt s) b c
  alone_lined e is code one = statement_lined x s (tree.Do (typed_expr e)) b c (act_is s _ _ (typed_act-Expr e) is) (piece (around_none s.line b) code (of_alone one) (bare (around_none s.line c)))

  pub assign_lined : (targets all : List Target) (e : TExpr) → s.kind ≡ kind.Assign all e → targets ≡ all → LinedPieces x s.line (value (typed_expr e) ∷ all_target_pieces (map typed_target targets)) b c → LinedStatement x (typed_stmt s) b c
  assign_lined targets all e is same h =
      let P : List Target → Type 0 = λ z. LinedPieces x s.line (value (typed_expr e) ∷ all_target_pieces (map typed_target z)) b c in
      statement_lined x s (tree.Assign (map typed_target all) (typed_expr e)) b c (act_is s _ _ (typed_act-Assign all e) is) (subst P same h)

  pub update_lined : (target : Target) (op : BinOp) (e : TExpr) (t : Ty) → s.kind ≡ kind.Aug target op e t → LinedPieces x s.line (target_pieces (typed_target target) ++ value (typed_expr e) ∷ []) b c → LinedStatement x (typed_stmt s) b c
  update_lined target op e t is h = statement_lined x s (tree.Aug (typed_target target) op (typed_expr e) (sort t)) b c (act_is s _ _ (typed_act-Aug target op e t) is) h

  pub return_lined : (o : Option TExpr) → s.kind ≡ kind.Return o → LinedPieces x s.line (returned_pieces (maybe_typed o)) b c → LinedStatement x (typed_stmt s) b c
  return_lined o is h = statement_lined x s (tree.Return (maybe_typed o)) b c (act_is s _ _ (typed_act-Return o) is) h

  pub break_lined : s.kind ≡ kind.Break → Around s.line b c → LinedStatement x (typed_stmt s) b c
  break_lined is p = statement_lined x s tree.Break b c (act_is s _ _ typed_act-Break is) (bare p)

  pub continue_lined : s.kind ≡ kind.Continue → Around s.line b c → LinedStatement x (typed_stmt s) b c
  continue_lined is p = statement_lined x s tree.Continue b c (act_is s _ _ typed_act-Continue is) (bare p)

  pub if_lined : (arms : Tests) (ss : List TStmt) → s.kind ≡ kind.If arms ss → LinedPieces x s.line (pieces_of_arms arms ++ body (typed_suite ss) ∷ []) b c → LinedStatement x (typed_stmt s) b c
  if_lined arms ss is h = statement_lined x s (tree.If (arms_of (map typed_arm arms)) (typed_suite ss)) b c (typed_stmt-If s arms ss is) h

pub pass_lined : (x : Setting) (s : TStmt) (b : Building) → s.kind ≡ kind.Pass → LinedStatement x (typed_stmt s) b b
pass_lined x s b is = statement_lined x s tree.Pass b b (act_is s _ _ typed_act-Pass is) (bare (around_none s.line b))

-- a loop, whose body is asked for
abbrev statement_line : TypedStmt → ℕ
statement_line (on_line a l) = l

loop_pieces : (x : Setting) (gives : Option Sort) (s : TypedStmt) (ss : TypedSuite) (l : ℕ) (b c : Building) → statement_line s ≡ l → LoopSuits x.source x.variables gives s ss → LinedPieces x l (head_pieces s ++ body ss ∷ []) b c → LinedStatement x s b c
loop_pieces x gives (on_line (tree.While test same) line) ss l b c is suits h =
    let P : TypedSuite → Type 0 = λ z. LinedPieces x l (value test ∷ body z ∷ []) b c in
    let Q : ℕ → Type 0 = λ k. LinedPieces x k (value test ∷ body same ∷ []) b c in
    stands (subst Q (sym is) (subst P (sym suits.0) h))
loop_pieces x gives (on_line (tree.ForRange ts a e same) line) ss l b c is suits h =
    let P : TypedSuite → Type 0 = λ z. LinedPieces x l ((bound_pieces a e ++ all_target_pieces ts) ++ body z ∷ []) b c in
    let Q : ℕ → Type 0 = λ k. LinedPieces x k ((bound_pieces a e ++ all_target_pieces ts) ++ body same ∷ []) b c in
    stands (subst Q (sym is) (subst P (sym suits.0) h))
loop_pieces x gives (on_line (tree.ForList ts e same) line) ss l b c is suits h =
    let P : TypedSuite → Type 0 = λ z. LinedPieces x l (value e ∷ (all_target_pieces ts ++ body z ∷ [])) b c in
    let Q : ℕ → Type 0 = λ k. LinedPieces x k (value e ∷ (all_target_pieces ts ++ body same ∷ [])) b c in
    stands (subst Q (sym is) (subst P (sym suits.0) h))
loop_pieces x gives (on_line _ line) ss l b c is suits h = absurd suits

pub loop_lined : (x : Setting) (gives : Option Sort) (s : TStmt) (ss : TypedSuite) (b0 b3 b4 b5 b9 : Building) → LoopSuits x.source x.variables gives (typed_stmt s) ss → LinedPieces x s.line (head_pieces (typed_stmt s)) b0 b3 → IsCodeOfSuite x ss b3 b4 → LinedSuite x ss b3 b4 → Around s.line b4 b5 → Around s.line b5 b9 → LinedStatement x (typed_stmt s) b0 b9
loop_lined x gives s ss b0 b3 b4 b5 b9 suits head code one step end =
    loop_pieces x gives (typed_stmt s) ss s.line b0 b9 (ap statement_line (typed_stmt_at s)) suits (pieces_join head (body_piece x s.line ss b3 b4 b9 code one (around_both s.line b4 b5 b9 step end)))

-- what comes before the body of a `while`
pub while_head : (x : Setting) (s : TStmt) (e : TExpr) (ss : List TStmt) (l : ℕ) (b0 b1 b3 : Building) → s.kind ≡ kind.While e ss → Around l b0 b1 → LinedPieces x l (value (typed_expr e) ∷ []) b1 b3 → LinedPieces x l (head_pieces (typed_stmt s)) b0 b3
while_head x s e ss l b0 b1 b3 is before test =
    let P : TypedStmt → Type 0 = λ z. LinedPieces x l (head_pieces z) b0 b3 in
    subst P (sym (typed_stmt-While s e ss is)) (pieces_behind before test)

-- and before that of a `for`
pub range_head : (x : Setting) (s : TStmt) (targets all : List Target) (a : Option TExpr) (e : TExpr) (ss : List TStmt) (b0 b3 : Building) → s.kind ≡ kind.ForRange all a e ss → targets ≡ all → LinedPieces x s.line (bound_pieces (maybe_typed a) (typed_expr e) ++ all_target_pieces (map typed_target targets)) b0 b3 → LinedPieces x s.line (head_pieces (typed_stmt s)) b0 b3
range_head x s targets all a e ss b0 b3 is same h =
    let P : TypedStmt → Type 0 = λ z. LinedPieces x s.line (head_pieces z) b0 b3 in
    let Q : List Target → Type 0 = λ z. LinedPieces x s.line (bound_pieces (maybe_typed a) (typed_expr e) ++ all_target_pieces (map typed_target z)) b0 b3 in
    subst P (sym (typed_stmt-ForRange s all a e ss is)) (subst Q same h)

pub list_head : (x : Setting) (s : TStmt) (targets all : List Target) (e : TExpr) (ss : List TStmt) (b0 b3 : Building) → s.kind ≡ kind.ForList all e ss → targets ≡ all → LinedPieces x s.line (value (typed_expr e) ∷ all_target_pieces (map typed_target targets)) b0 b3 → LinedPieces x s.line (head_pieces (typed_stmt s)) b0 b3
list_head x s targets all e ss b0 b3 is same h =
    let P : TypedStmt → Type 0 = λ z. LinedPieces x s.line (head_pieces z) b0 b3 in
    let Q : List Target → Type 0 = λ z. LinedPieces x s.line (value (typed_expr e) ∷ all_target_pieces (map typed_target z)) b0 b3 in
    subst P (sym (typed_stmt-ForList s all e ss is)) (subst Q same h)

-- ---- returned values

pub none_lined : (x : Setting) (l : ℕ) (o : Option TExpr) (a b : Building) → o ≡ None → Around l a b → LinedPieces x l (returned_pieces (maybe_typed o)) a b
none_lined x l o a b is p = let P : Option TExpr → Type 0 = λ z. LinedPieces x l (returned_pieces (maybe_typed z)) a b in subst P (sym is) (bare p)

pub some_lined : (x : Setting) (l : ℕ) (o : Option TExpr) (e : TExpr) (a b : Building) (r : ℕ) → o ≡ Some e → Emits x (typed_expr e) a b r → Lined x (typed_expr e) a b → LinedPieces x l (returned_pieces (maybe_typed o)) a b
some_lined x l o e a b r is code one =
    let P : Option TExpr → Type 0 = λ z. LinedPieces x l (returned_pieces (maybe_typed z)) a b in
    subst P (sym is) (value_piece x l (typed_expr e) a b b (type_of (typed_expr e), r, code) one (around_none l b))

pub one_lined : (x : Setting) (l : ℕ) (o : Option TExpr) (e : TExpr) (a b : Building) → o ≡ Some e → LinedPieces x l (value (typed_expr e) ∷ []) a b → LinedPieces x l (returned_pieces (maybe_typed o)) a b
one_lined x l o e a b is h = let P : Option TExpr → Type 0 = λ z. LinedPieces x l (returned_pieces (maybe_typed z)) a b in subst P (sym is) h

-- ---- `print`

pub print_lined : (x : Setting) (e : TExpr) (es all : List TExpr) (a b c : Building) → e.kind ≡ expr.Print all → es ≡ all → LinedParts x e.span.line (listed_of es) a b → Around e.span.line b c → Lined x (typed_expr e) a c
print_lined x e es all a b c is same h p = lined_node x e (expression.Print (exprs_of (map typed_expr es))) a c (print_is e es all is same) (lined_then h p)
