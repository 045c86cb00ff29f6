-- What is emitted for each kind of statement does what the statement means.
use Rattle.ir_builder_loops_and_jumps.proofs.Common.{◌≡◌, ℕ, ◌≤◌, suc, ◌+◌, ◌<◌, Bool, true, false, List, [], ◌∷◌, ◌++◌, length, map, Option, Some, None, refl, sym, ap, ◌∙◌, subst, arith, append_assoc, append-nil, le_refl, get_or, drop, if◌then◌else◌, drop_more, or_parts, or_from, Sort, TExpr, TypedExpr, typed_expr, type_of, TypedAct, on_line, typed_stmt, typed_suite, typed_target, maybe_typed, State, Gives, on_to, truth_of, Flow, Goes, loop, Goto, Unreachable, Building, Extends, held, End, Setting, rtype_of, Open, Closes, HasRoom, means, Shows, Meaning, Computes, Way, Break, Continue, Join, Exit, Test, LoopStart, uses, is_same_way, stays, planned, left, Works, Joining, LeavesNoLoop, Emitted, OpenIn, Always, Asks, Splits, SplitsBy, EndsArm, joining, Joins, looping_to, NothingBetween, EndsLoop, Begins, ends_of, extends_refl, extends_trans, type_kept, room_on}
use Rattle.py_syntax.specs.declared.expression.BinOp.{BinOp}
use Rattle.py_typed.specs.Sorts as sort
use Rattle.py_typed.specs.Sorts.{sort as sort_of}
use Rattle.py_typed.specs.declared.statement.Target.{Target}
use Rattle.py_typed.specs.declared.statement.TStmt.{TStmt}
use Rattle.py_typed.specs.declared.types.Ty.{Ty}
use Rattle.py_typed.specs.declared.statement.TStmtKind as kind
use Rattle.py_typed.specs.Statements as tree
use Rattle.py_typed.proofs.StatementLemmas.{typed_stmt_of, typed_act-Expr, typed_act-Assign, typed_act-Aug, typed_act-Return, typed_act-Break, typed_act-Continue, typed_act-Pass, typed_stmt-If}
use Rattle.ir_core.specs.declared.code.RType.TheVariants.{Bool as BoolType}
use Rattle.ir_builder_loops_and_jumps.specs.Tested.{means_arms, Tested}
use Rattle.ir_builder_loops_and_jumps.specs.Means.{means_loop, means_statement, means_suite, means_alone, means_assignment, means_update, means_return}
use Rattle.ir_builder_loops_and_jumps.proofs.ExitLemmas.{stays_by, open_on, same_way_is, drop_past}
use Rattle.ir_builder_loops_and_jumps.proofs.FlowLemmas.{none_works, works_at, at_works, then_works}
use Rattle.ir_builder_loops_and_jumps.proofs.SplitLemmas.{asks_by}
use Rattle.ir_builder_loops_and_jumps.proofs.LoopLemmas.{loop_works, no_step}
use Rattle.ir_builder_loops_and_jumps.proofs.BranchLemmas.{works_joining, arm_joining, if_works}
use Rattle.ir_builder_loops_and_jumps.proofs.SimpleLemmas.{break_works, continue_works}

-- ---- another name for a meaning

pub works_of : (x : Setting) (result : Option Sort) (m m' : Meaning Flow) (b0 b1 : Building) (xs : List Exit) → ((n : ℕ) (s : State) → m n s ≡ m' n s) → Works x result m' b0 b1 xs → Works x result m b0 b1 xs
works_of x result m m' b0 b1 xs same w = record {
  extends = w.extends;
  opens = w.opens;
  runs = λ p fn h to at jumps n calls regs below s match le. ends_of p s.turns _ (m n s) (m' n s) _ _ (same n s) (w.runs p fn h to at jumps n calls regs below s match le);
}

emitted_as : (x : Setting) (result : Option Sort) (looping : Bool) (m m' : Meaning Flow) (b0 b1 : Building) (before after mine : List Exit) → ((n : ℕ) (s : State) → m n s ≡ m' n s) → after ≡ before ++ mine → Works x result m' b0 b1 mine → (looping ≡ false → LeavesNoLoop mine) → Emitted x result looping m b0 b1 before after
emitted_as x result looping m m' b0 b1 before after mine same is w inside = record { mine = mine; is = is; works = works_of x result m m' b0 b1 mine same w; inside = inside }

-- ---- exits that leave no loop

uses_none : (w : Way) (xs ys : List Exit) → uses w xs ≡ false → uses w ys ≡ false → uses w (xs ++ ys) ≡ false
uses_none w [] ys e f = f
uses_none w (x ∷ xs) ys e f =
    let o = or_parts (is_same_way w x.way) (uses w xs) e in or_from (is_same_way w x.way) (uses w (xs ++ ys)) o.0 (uses_none w xs ys o.1 f)

pub leaves_both : (xs ys : List Exit) → LeavesNoLoop xs → LeavesNoLoop ys → LeavesNoLoop (xs ++ ys)
leaves_both xs ys a b = (uses_none Break xs ys a.0 b.0, uses_none Continue xs ys a.1 b.1)

left_none : (plan : Way → Option ℕ) (w : Way) (xs : List Exit) → uses w xs ≡ false → uses w (left plan xs) ≡ false
left_none plan w [] e = refl
left_none plan w (x ∷ xs) e =
    let o = or_parts (is_same_way w x.way) (uses w xs) e in kept (plan x.way) o.0 (left_none plan w xs o.1)
  where
    kept : (t : Option ℕ) → is_same_way w x.way ≡ false → uses w (left plan xs) ≡ false → uses w (stays t x (left plan xs)) ≡ false
    kept None a b = or_from (is_same_way w x.way) (uses w (left plan xs)) a b
    kept (Some t) a b = b

pub leaves_left : (plan : Way → Option ℕ) (xs : List Exit) → LeavesNoLoop xs → LeavesNoLoop (left plan xs)
leaves_left plan xs a = (left_none plan Break xs a.0, left_none plan Continue xs a.1)

planned_none : (plan : Way → Option ℕ) (w : Way) (t : ℕ) (xs : List Exit) → plan w ≡ Some t → uses w (left plan xs) ≡ false
planned_none plan w t [] some = refl
planned_none plan w t (x ∷ xs) some = one (is_same_way w x.way) refl (planned_none plan w t xs some)
  where
    dropped : (o : Option ℕ) → is_same_way w x.way ≡ false → uses w (left plan xs) ≡ false → uses w (stays o x (left plan xs)) ≡ false
    dropped None a b = or_from (is_same_way w x.way) (uses w (left plan xs)) a b
    dropped (Some u) a b = b

    one : (a : Bool) → is_same_way w x.way ≡ a → uses w (left plan xs) ≡ false → uses w (stays (plan x.way) x (left plan xs)) ≡ false
    one true is rest =
        let P : Option ℕ → Type 0 = λ o. uses w (stays o x (left plan xs)) ≡ false in subst P (sym (ap plan (same_way_is w x.way is) ∙ some)) rest
    one false is rest = dropped (plan x.way) is rest

-- ---- rows of statements

-- behind the last statement
pub nothing_emitted : (x : Setting) (result : Option Sort) (looping : Bool) (ss : List TStmt) (i : ℕ) (b : Building) (xs : List Exit) → length ss ≤ i → Emitted x result looping (means_suite x (typed_suite (drop i ss))) b b xs xs
nothing_emitted x result looping ss i b xs le =
    let P : List TStmt → Type 0 = λ z. Emitted x result looping (means_suite x (typed_suite z)) b b xs xs in
    subst P (sym (drop_past ss i le)) (emitted_as x result looping _ _ b b xs xs [] (λ n s. refl) (sym (append-nil xs)) (none_works x result b) (λ e. (refl, refl)))

-- a statement before those behind it
pub next_emitted : (x : Setting) (result : Option Sort) (looping : Bool) (ss : List TStmt) (i : ℕ) (s : TStmt) (b0 b1 b2 : Building) (x0 x1 x2 : List Exit) → i < length ss → s ≡ get_or ss i s → Emitted x result looping (means_statement x (typed_stmt s)) b0 b1 x0 x1 → Emitted x result looping (means_suite x (typed_suite (drop (i + 1) ss))) b1 b2 x1 x2 → Emitted x result looping (means_suite x (typed_suite (drop i ss))) b0 b2 x0 x2
next_emitted x result looping ss i s b0 b1 b2 x0 x1 x2 lt is p q =
    let d : drop i ss ≡ s ∷ drop (i + 1) ss = drop_more ss i s lt ∙ ap (λ z. z ∷ drop (i + 1) ss) (sym is) in
    let P : List TStmt → Type 0 = λ z. Emitted x result looping (means_suite x (typed_suite z)) b0 b2 x0 x2 in
    subst P (sym d)
    record {
      mine = p.mine ++ q.mine;
      is = q.is ∙ ap (λ l. l ++ q.mine) p.is ∙ append_assoc x0 p.mine q.mine;
      works = then_works x result (means_statement x (typed_stmt s)) (means_suite x (typed_suite (drop (i + 1) ss))) b0 b1 b2 p.mine q.mine p.works q.works;
      inside = λ e. leaves_both p.mine q.mine (p.inside e) (q.inside e);
    }

-- ---- single statements

module _ (x : Setting) (result : Option Sort) (looping : Bool) (s : TStmt) where
  stmt_is : (k : kind.TStmtKind) (a : TypedAct) → s.kind ≡ k → tree.typed_act k ≡ a → (n : ℕ) (u : State) → means_statement x (typed_stmt s) n u ≡ means_statement x (on_line a s.line) n u
  stmt_is k a is e n u = ap (λ t. means_statement x t n u) (typed_stmt_of s k is ∙ ap (λ z. on_line z s.line) e)

  -- a simple statement
  simple_emitted : (k : kind.TStmtKind) (a : TypedAct) (m : Meaning Flow) (b0 b1 : Building) (xs : List Exit) → s.kind ≡ k → tree.typed_act k ≡ a → ((n : ℕ) (u : State) → means_statement x (on_line a s.line) n u ≡ m n u) → Works x result m b0 b1 [] → Emitted x result looping (means_statement x (typed_stmt s)) b0 b1 xs xs
  simple_emitted k a m b0 b1 xs is is_act same w =
      emitted_as x result looping _ m b0 b1 xs xs [] (λ n u. stmt_is k a is is_act n u ∙ same n u) (sym (append-nil xs)) w (λ z. (refl, refl))

  pub alone_emitted : (e : TExpr) (b0 b1 : Building) (xs : List Exit) → s.kind ≡ kind.Expr e → ((g : Option Sort) → Works x g (means_alone x (typed_expr e)) b0 b1 []) → Emitted x result looping (means_statement x (typed_stmt s)) b0 b1 xs xs
  alone_emitted e b0 b1 xs is w = simple_emitted (kind.Expr e) _ _ b0 b1 xs is (typed_act-Expr e) (λ n u. refl) (w result)

  pub assignment_emitted : (ts all : List Target) (e : TExpr) (b0 b1 : Building) (xs : List Exit) → s.kind ≡ kind.Assign all e → ts ≡ all → ((g : Option Sort) → Works x g (means_assignment x (map typed_target ts) (typed_expr e)) b0 b1 []) → Emitted x result looping (means_statement x (typed_stmt s)) b0 b1 xs xs
  assignment_emitted ts all e b0 b1 xs is same w =
      let P : List Target → Type 0 = λ z. Works x result (means_assignment x (map typed_target z) (typed_expr e)) b0 b1 [] in
      simple_emitted (kind.Assign all e) _ _ b0 b1 xs is (typed_act-Assign all e) (λ n u. refl) (subst P same (w result))

  pub update_emitted : (t : Target) (op : BinOp) (e : TExpr) (ty : Ty) (b0 b1 : Building) (xs : List Exit) → s.kind ≡ kind.Aug t op e ty → ((g : Option Sort) → Works x g (means_update x (typed_target t) op (typed_expr e) (sort_of ty)) b0 b1 []) → Emitted x result looping (means_statement x (typed_stmt s)) b0 b1 xs xs
  update_emitted t op e ty b0 b1 xs is w = simple_emitted (kind.Aug t op e ty) _ _ b0 b1 xs is (typed_act-Aug t op e ty) (λ n u. refl) (w result)

  pub return_emitted : (o : Option TExpr) (b0 b1 : Building) (xs : List Exit) → s.kind ≡ kind.Return o → Works x result (means_return x (maybe_typed o)) b0 b1 [] → Emitted x result looping (means_statement x (typed_stmt s)) b0 b1 xs xs
  return_emitted o b0 b1 xs is w = simple_emitted (kind.Return o) _ _ b0 b1 xs is (typed_act-Return o) (λ n u. refl) w

  pub pass_emitted : (b : Building) (xs : List Exit) → s.kind ≡ kind.Pass → Emitted x result looping (means_statement x (typed_stmt s)) b b xs xs
  pass_emitted b xs is = simple_emitted kind.Pass _ _ b b xs is typed_act-Pass (λ n u. refl) (none_works x result b)

  -- a jump out of a loop
  jump_emitted : (k : kind.TStmtKind) (a : TypedAct) (b0 b1 : Building) (w : Way) (xs ys : List Exit) → looping ≡ true → s.kind ≡ k → tree.typed_act k ≡ a → ys ≡ xs ++ record { way = w; block = length b0.blocks } ∷ [] → Works x result (means_statement x (on_line a s.line)) b0 b1 (record { way = w; block = length b0.blocks } ∷ []) → Emitted x result looping (means_statement x (typed_stmt s)) b0 b1 xs ys
  jump_emitted k a b0 b1 w xs ys loops is is_act noted works =
      emitted_as x result looping _ _ b0 b1 xs ys _ (stmt_is k a is is_act) noted works (λ f. absurd (let g : true ≡ false = sym loops ∙ f in cc))

  pub break_emitted : (b0 b1 : Building) (xs ys : List Exit) → looping ≡ true → s.kind ≡ kind.Break → ys ≡ xs ++ record { way = Break; block = length b0.blocks } ∷ [] → Closes b0 b1 Unreachable → Emitted x result looping (means_statement x (typed_stmt s)) b0 b1 xs ys
  break_emitted b0 b1 xs ys loops is noted c = jump_emitted kind.Break tree.Break b0 b1 Break xs ys loops is typed_act-Break noted (break_works x result b0 b1 c)

  pub continue_emitted : (b0 b1 : Building) (xs ys : List Exit) → looping ≡ true → s.kind ≡ kind.Continue → ys ≡ xs ++ record { way = Continue; block = length b0.blocks } ∷ [] → Closes b0 b1 Unreachable → Emitted x result looping (means_statement x (typed_stmt s)) b0 b1 xs ys
  continue_emitted b0 b1 xs ys loops is noted c = jump_emitted kind.Continue tree.Continue b0 b1 Continue xs ys loops is typed_act-Continue noted (continue_works x result b0 b1 c)

-- ---- loops

-- the value of a bool answers a test
answered : (x : Setting) (e : TypedExpr) (b0 b1 : Building) (t : Test) → type_of e ≡ sort.Bool → HasRoom x b0 → SplitsBy x e b0 b1 t → Splits (λ c r. Asks x (Always ℕ) (Always ℕ) (λ i n u. on_to (means x e n u) truth_of) b0 c r) b1 t
answered x e b0 b1 t bool room sp =
    let P : Sort → Type 0 = λ z. Computes x (Shows z) (rtype_of z) (means x e) b0 sp.middle t.condition.0 in
    record { middle = sp.middle; answered = asks_by x (means x e) b0 sp.middle t.condition.0 room (subst P bool sp.answered); block = sp.block; closes = sp.closes; start = sp.start }

-- a `while` was begun
pub while_begins : (x : Setting) (e : TypedExpr) (ss : tree.TypedSuite) (line : ℕ) (b0 b1 b3 : Building) (o : LoopStart) → HasRoom x b0 → type_of e ≡ sort.Bool → o.head ≡ length b1.blocks → Closes b0 b1 (Goto o.head) → SplitsBy x e b1 b3 o.test → Begins x NothingBetween (means_loop x (on_line (tree.While e ss) line)) b0 b3 o
while_begins x e ss line b0 b1 b3 o room bool is_head c1 sp =
    let split = answered x e b1 b3 o.test bool (room_on x b0 b1 c1.extends room) sp in
    let test : ℕ → Meaning Bool = λ i n u. on_to (means x e n u) truth_of in
    let n1 = c1.blocks in let k2 = split.answered.extends.blocks_grow in let n3 = split.closes.blocks in
    let is_block = split.block in let is_start = split.start in
    let P : ℕ → Type 0 = λ z. held b3 z (length split.middle.ops) ≡ Some (End Unreachable) in
    record {
      head = (omega arith, omega arith);
      waits = record { place = length split.middle.ops; is = subst P (sym split.block) split.closes.at };
      start = (omega arith, omega arith);
      type = type_kept split.middle b3 o.test.condition.0 BoolType split.closes.extends split.answered.type;
      works = λ result m b4 b5 b6 b9 next xs x0 x1 q is_next c5 same l.
          at_works x result (Always ℕ) (λ i n. loop (suc n) (λ j. test j n) (λ j. m n) (λ j. j) i) b0 b9 (left (planned (looping_to l.exit next)) xs) 0 (λ regs. tt)
          (loop_works x result (Always ℕ) (Always ℕ) test (λ i. m) (λ i. i) (length b0.regs) b0 b1 b3 b4 b5 b6 b9 o next xs x0 x1 (le_refl _) (λ i regs now kept held. tt) is_head c1 split (works_at x result (Always ℕ) m b3 b4 xs q) is_next c5 (no_step x (length b0.regs) b5 b6 same) l);
    }

-- what is open where a loop ends
pub loop_open : (x : Setting) (result : Option Sort) (Between : Building → Building → Type 0) (whole : Meaning Flow → Meaning Flow) (m : Meaning Flow) (b0 b3 b4 b5 b6 : Building) (o : LoopStart) (next : ℕ) (xs0 xs ks : List Exit) → Begins x Between whole b0 b3 o → xs0 ≡ [] → Emitted x result true m b3 b4 xs0 xs → next ≡ length b5.blocks → Closes b4 b5 (Goto next) → Extends b5 b6 → ks ≡ xs → (o.head ≤ length b6.blocks) × Open b6 o.test.block × (o.test.start ≤ next) × (next ≤ length b6.blocks) × OpenIn b6 o.test.start next ks
loop_open x result Between whole m b0 b3 b4 b5 b6 o next xs0 xs ks g none p is_next c5 more same =
    let x46 = extends_trans b4 b5 b6 c5.extends more in
    let x36 = extends_trans b3 b4 b6 p.works.extends x46 in
    let k = p.works.extends.blocks_grow in let n5 = c5.blocks in let k6 = more.blocks_grow in let low = g.head.1 in let start = g.start.1 in
    let P : List Exit → Type 0 = λ z. OpenIn b6 o.test.start next z in (
      omega arith,
      record { place = g.waits.place; is = x36.items _ _ _ g.waits.is },
      omega arith,
      omega arith,
      subst P (sym (same ∙ p.is ∙ ap (λ z. z ++ p.mine) none)) (open_on b4 b6 (length b3.blocks) (length b4.blocks) o.test.start next p.mine (stays_by b4 b6 _ _ x46) start (omega arith) p.works.opens),
    )

-- a loop does what it means, whatever it goes over; of the exits of its body it hands on those that leave the function
pub loop_emitted : (x : Setting) (result : Option Sort) (looping : Bool) (Between : Building → Building → Type 0) (whole : Meaning Flow → Meaning Flow) (m m' : Meaning Flow) (b0 b3 b4 b5 b6 b9 : Building) (o : LoopStart) (next : ℕ) (x0 x1 xs0 xs ks : List Exit) → ((n : ℕ) (s : State) → m' n s ≡ whole m n s) → Begins x Between whole b0 b3 o → xs0 ≡ [] → Emitted x result true m b3 b4 xs0 xs → next ≡ length b5.blocks → Closes b4 b5 (Goto next) → Between b5 b6 → ks ≡ xs → EndsLoop b6 b9 o next ks x0 x1 → Emitted x result looping m' b0 b9 x0 x1
loop_emitted x result looping Between whole m m' b0 b3 b4 b5 b6 b9 o next x0 x1 xs0 xs ks is g none p is_next c5 between same e =
    let P : List Exit → Type 0 = λ z. EndsLoop b6 b9 o next z x0 x1 in
    let l : EndsLoop b6 b9 o next p.mine x0 x1 = subst P (same ∙ p.is ∙ ap (λ z. z ++ p.mine) none) e in
    let plan : Way → Option ℕ = planned (looping_to l.exit next) in
    emitted_as x result looping m' (whole m) b0 b9 x0 x1 (left plan p.mine) is l.passed (g.works result m b4 b5 b6 b9 next p.mine x0 x1 p.works is_next c5 between l) (λ z. (planned_none plan Break l.exit p.mine refl, planned_none plan Continue next p.mine refl))

-- ---- an `if`

pub nothing_tested : (x : Setting) (result : Option Sort) (looping : Bool) (arms : List (TExpr × List TStmt)) (b : Building) (xs : List Exit) → xs ≡ [] → Tested x result looping arms arms b b xs
nothing_tested x result looping arms b xs none =
    let P : List Exit → Type 0 = λ z. Tested x result looping arms arms b b z in subst P (sym none) record { extends = extends_refl b; inside = λ e. (refl, refl); works = λ other end more q. q }

pub next_tested : (x : Setting) (result : Option Sort) (looping : Bool) (arms : List (TExpr × List TStmt)) (i : ℕ) (a : TExpr × List TStmt) (body : List TStmt) (b0 b1 b3 b4 b6 : Building) (t : Test) (xs ys zs : List Exit) → i < length arms → a ≡ get_or arms i a → body ≡ a.1 → HasRoom x b1 → type_of (typed_expr a.0) ≡ sort.Bool → Tested x result looping (drop i arms) arms b0 b1 xs → SplitsBy x (typed_expr a.0) b1 b3 t → Emitted x result looping (means_suite x (typed_suite body)) b3 b4 xs ys → EndsArm b4 b6 t ys zs → Tested x result looping (drop (i + 1) arms) arms b0 b6 zs
next_tested x result looping arms i a body b0 b1 b3 b4 b6 t xs ys zs lt is same room bool so_far sp p e =
    let last : Exit = record { way = Join; block = length b4.blocks } in
    let test : Meaning Bool = λ n w. on_to (means x (typed_expr a.0) n w) truth_of in
    let works : Works x result (means_suite x (typed_suite a.1)) b3 b4 p.mine = (let P : List TStmt → Type 0 = λ z. Works x result (means_suite x (typed_suite z)) b3 b4 p.mine in subst P same p.works) in
    let d : drop i arms ≡ a ∷ drop (i + 1) arms = drop_more arms i a lt ∙ ap (λ z. z ∷ drop (i + 1) arms) (sym is) in
    let exits : zs ≡ xs ++ (p.mine ++ last ∷ []) = e.noted ∙ ap (λ l. l ++ last ∷ []) p.is ∙ append_assoc xs p.mine (last ∷ []) in
    let arm : (other : Meaning Flow) (end : Building) (rest : List Exit) → Joining x result other b6 end rest → Joining x result (λ n u. on_to (test n u) (λ h. if h then means_suite x (typed_suite a.1) n else other n)) b1 end (p.mine ++ last ∷ rest) = λ other end rest q. arm_joining x result test (means_suite x (typed_suite a.1)) other b1 b3 b4 b6 end t p.mine rest ys zs (answered x (typed_expr a.0) b1 b3 t bool room sp) works e q in
    record {
      extends = extends_trans b0 b1 b6 so_far.extends (arm (λ n u. Gives Goes u) b6 [] (works_joining x result (λ n u. Gives Goes u) b6 b6 [] (none_works x result b6))).extends;
      inside = λ z. (let P : List Exit → Type 0 = λ l. LeavesNoLoop l in subst P (sym exits) (leaves_both xs (p.mine ++ last ∷ []) (so_far.inside z) (leaves_both p.mine (last ∷ []) (p.inside z) (refl, refl))));
      works = λ other end rest q.
          let P : List (TExpr × List TStmt) → Type 0 = λ z. Joining x result (means_arms x z other) b1 end (p.mine ++ last ∷ rest) in
          let Q : List Exit → Type 0 = λ z. Joining x result (means_arms x arms other) b0 end z in
          let lists : xs ++ (p.mine ++ last ∷ rest) ≡ zs ++ rest = sym (ap (λ l. l ++ rest) exits ∙ append_assoc xs (p.mine ++ last ∷ []) rest ∙ ap (λ l. xs ++ l) (append_assoc p.mine (last ∷ []) rest)) in
          subst Q lists (so_far.works other end (p.mine ++ last ∷ rest) (subst P (sym d) (arm (means_arms x (drop (i + 1) arms) other) end rest q)));
    }

-- the arms and the body of `else`
module _ (x : Setting) (result : Option Sort) (looping : Bool) (arms : List (TExpr × List TStmt)) (ss : List TStmt) (b0 b1 b2 : Building) (xs ys ks : List Exit) (t : Tested x result looping [] arms b0 b1 xs) (p : Emitted x result looping (means_suite x (typed_suite ss)) b1 b2 xs ys) (same : ks ≡ ys) where
  all_joining : Joining x result (means_arms x arms (means_suite x (typed_suite ss))) b0 b2 (xs ++ p.mine)
  all_joining = t.works (means_suite x (typed_suite ss)) b2 p.mine (works_joining x result (means_suite x (typed_suite ss)) b1 b2 p.mine p.works)

  pub join_open : (from : ℕ) × OpenIn b2 from (length b2.blocks) ks
  join_open = (length b0.blocks, let P : List Exit → Type 0 = λ z. OpenIn b2 (length b0.blocks) (length b2.blocks) z in subst P (sym (same ∙ p.is)) all_joining.opens)

  pub if_emitted : (s : TStmt) (b4 : Building) (x0 x1 : List Exit) → s.kind ≡ kind.If arms ss → Joins b2 b4 ks x0 x1 → Emitted x result looping (means_statement x (typed_stmt s)) b0 b4 x0 x1
  if_emitted s b4 x0 x1 is e =
      let P : List Exit → Type 0 = λ z. Joins b2 b4 z x0 x1 in
      let j : Joins b2 b4 (xs ++ p.mine) x0 x1 = subst P (same ∙ p.is) e in
      let plan : Way → Option ℕ = planned (joining j.end) in
      emitted_as x result looping _ (means_arms x arms (means_suite x (typed_suite ss))) b0 b4 x0 x1 (left plan (xs ++ p.mine)) (λ n u. ap (λ z. means_statement x z n u) (typed_stmt-If s arms ss is)) j.passed
      (if_works x result (means_arms x arms (means_suite x (typed_suite ss))) b0 b2 b4 (xs ++ p.mine) x0 x1 all_joining j)
      (λ z. leaves_left plan (xs ++ p.mine) (leaves_both xs p.mine (t.inside z) (p.inside z)))
