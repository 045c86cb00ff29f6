-- Statements that are typed: behind them their typed form knows no more than typing does.
use Rattle.std.proofs.Common.{◌≡◌, ℕ, Bool, true, false, List, [], ◌∷◌, ◌++◌, Option, Some, None, refl, ap, sym, ◌∙◌, subst, if◌then◌else◌}
use Rattle.std.proofs.lemmas.Option.{same_Some}
use Rattle.std.specs.Prelude.{is_some}
use Rattle.py_syntax.specs.declared.token.Span.{Span}
use Rattle.py_syntax.specs.Expressions.{ExprTree}
use Rattle.py_syntax.specs.Statements as node
use Rattle.py_syntax.specs.Statements.{StmtTree, StmtNode, Suite, no_stmts, stmt_then, Arms, no_arms, arm_then}
use Rattle.py_typed.specs.Sorts.{Sort}
use Rattle.py_typed.specs.Expressions.{TypedExpr}
use Rattle.py_typed.specs.Statements as act
use Rattle.py_typed.specs.Statements.{Variable, TypedModule, TypedTarget, TypedStmt, TypedAct, TypedSuite, on_line, suite_of, arms_of}
use Rattle.py_typed.specs.Narrowing as telling
use Rattle.py_typed.specs.Narrowing.{without, bound_by_all, or_shared, known_at_end}
use Rattle.py_typed.specs.WellTyped as stmt
use Rattle.py_typed.proofs.FitLemmas.{and_left, and_right}
use Rattle.py_check_context.specs.Context.{Context, test, dropped}
use Rattle.py_check_flow.specs.Bindings.{name_in}
use Rattle.py_check_flow.specs.Closed as flow
use Rattle.py_check_messages.specs.Seen.{Seen, both, behind, made}
use Rattle.py_check_messages.specs.Rows.{row_then}
use Rattle.py_check_operators.specs.Facts.{facts}
use Rattle.py_check_coercions.specs.Values.{truth}
use Rattle.py_check_coercions.specs.Several.{with_part}
use Rattle.py_check_values.specs.Returns.{ReturnSort, bare_return, value_return}
use Rattle.py_check_places.specs.Places.{Known, locals_in, where_test, entering, Way, setting_out, met, common, behind_arm}
use Rattle.py_check_places.specs.Shapes.{leaves}
use Rattle.py_check_calls.specs.Exceptions.{exception_made}
use Rattle.py_check_targets.specs.Targets.{typed_at}
use Rattle.py_check_loops.specs.Loops.{Course, course_items, course, loop_of}
use Rattle.py_check_loops.specs.Heads.{some_items, for_head, in_for}
use Rattle.py_check_exceptions.specs.Raises.{raises, asserts}
use Rattle.py_check_statements.specs.Bodies.{is_definition, around_loop, try_of, outside_try, handlers_after, clauses, maybe_block, condition, after, node_after, block_after, arms_after, return_wanted, returns, in_loop, statement, node_statement, block, branches}
use Rattle.py_check_statements.specs.declared.bodies.Around.{Around}
use Rattle.py_check_expressions_laws.specs.WellTyped as law
use Rattle.py_check_expressions_laws.specs.WellTyped.{Describes, Within}
use Rattle.py_check_expressions_laws.specs.Bare.{is_bare}
use Rattle.py_check_expressions_laws.proofs.Inside.{within_none, within_append, within_shared}
use Rattle.py_check_expressions_laws.proofs.Telling.{truth_tells}
use Rattle.py_check_expressions_laws.proofs.Bare.{less_typing}
use Rattle.py_check.proofs.Kept.{follows_target, follows_stmt, follows_block, follows_arms}
use Rattle.py_check_laws.specs.WellTyped.{is_filled, has_test, are_targets, is_stmt_written, is_act_written, is_suite_written, are_arms_written, IsScope}
use Rattle.py_check_laws.specs.Narrowing.{is_bare_stmt, is_bare_act, is_bare_suite, are_bare_arms}
use Rattle.py_check_laws.proofs.Deleted.{deleted_item}
use Rattle.py_check_laws.proofs.Exceptions.{Raised, raised_on, raised_class, raised_value, raise_given, assert_given}
use Rattle.py_check_laws.proofs.Given.{made_given, both_given, row_given}
use Rattle.py_check_laws.proofs.Whole.{definition_after}
use Rattle.py_check_laws.proofs.Names.{within_without}
use Rattle.py_check_laws.proofs.Shapes.{shape_block, loop_binds}
use Rattle.py_check_laws.proofs.Values.{scene, of_three, of_four}
use Rattle.py_check_laws.proofs.Closed.{scope_on}
use Rattle.py_check_laws.proofs.Bound.{described_before, single}
use Rattle.py_check_laws.proofs.Loops.{head_parts, loop_after}
use Rattle.py_check_laws.proofs.Binds.{act_binds, for_binds, block_binds}
use Rattle.py_check_laws.proofs.LessBound.{less_assign, less_bare, less_annotated, less_update}
use Rattle.py_check_laws.proofs.LessHeads.{less_head}
use Rattle.py_check_expressions_laws.proofs.Sound.{at_classes}

-- ---- the ends of arms

-- the names at the open ends so far, as typing has them and as the typed arms do
abbrev LessEnds : Option (List ℕ) → Option (List ℕ) → Type 0
LessEnds None None = Unit {0}
LessEnds (Some xs) (Some ys) = Within ys xs
LessEnds None (Some ys) = ⊥
LessEnds (Some xs) None = ⊥

one_end : (ends others : Option (List ℕ)) (closed : Bool) (names known : List ℕ) → LessEnds ends others → Within known names → LessEnds (met ends closed names) (if closed then others else or_shared others known)
one_end ends others true names known h w = h
one_end None None false names known h w = w
one_end None (Some ys) false names known h w = absurd h
one_end (Some xs) None false names known h w = absurd h
one_end (Some xs) (Some ys) false names known h w = within_shared ys known xs names h w

all_ends : (ends others : Option (List ℕ)) → LessEnds ends others → Within (known_at_end others) (common ends)
all_ends None None h = within_none []
all_ends None (Some ys) h = absurd h
all_ends (Some xs) None h = absurd h
all_ends (Some xs) (Some ys) h = h

closed_end : (ends others : Option (List ℕ)) (c d : Bool) (names known : List ℕ) → d ≡ c → LessEnds ends others → Within known names → LessEnds (met ends c names) (if d then others else or_shared others known)
closed_end ends others c d names known q h w = subst (λ z. LessEnds (met ends c names) (if z then others else or_shared others known)) (sym q) (one_end ends others c names known h w)

left_or : (b c : Bool) (xs ys us vs : List ℕ) → c ≡ b → Within us xs → Within vs ys → Within (if c then us else vs) (if b then xs else ys)
left_or b c xs ys us vs q v w = subst (λ z. Within (if z then us else vs) (if b then xs else ys)) (sym q) (by b)
  where
    by : (z : Bool) → Within (if z then us else vs) (if z then xs else ys)
    by true = v
    by false = w

-- ---- tests

module _ (C : Context) where
  -- a test that is typed tells no more
  pub test_less : (k : Known) (e : ExprTree) → is_bare e ≡ true → (t : TypedExpr) → (condition C k e).got ≡ Some t → (known : List ℕ) → Within known k.names → (b : Bool) → Within (telling.facts b t ++ known) (facts C b e ++ k.names)
  test_less k e bare t h known w b =
      let v = made_given truth (typed_at C k test e) t h in
      subst (λ z. Within (telling.facts b z ++ known) (facts C b e ++ k.names)) v.2
      (subst (λ z. Within (z ++ known) (facts C b e ++ k.names)) (sym (truth_tells b v.0))
      (within_append (telling.facts b v.0) known (facts C b e) k.names ((less_typing C k.types test k.names e bare).each v.0 v.1 b) w))

  -- where the body of a `while` begins
  pub less_while : (r : ReturnSort) (around : Around) (k : Known) (span : Span) (e : ExprTree) (body : Suite) → is_bare e ≡ true → is_bare_suite C.meaning body ≡ true → (t : TypedExpr) → (condition C (entering C k (node.at (node.While e body) span)) e).got ≡ Some t
      → (ts : List TypedStmt) → (block C r (around_loop around) (where_test C (entering C k (node.at (node.While e body) span)) true e) body).got ≡ Some ts → (known : List ℕ) → Within known k.names
      → Within (telling.facts true t ++ without (telling.bound_suite (suite_of ts)) known) (where_test C (entering C k (node.at (node.While e body) span)) true e).names
  less_while r around k span e body bare inner t h ts g known w =
      let l = entering C k (node.at (node.While e body) span) in
      let binds = block_binds C r (around_loop around) (where_test C l true e) body inner ts g in
      test_less l e bare t h (without (telling.bound_suite (suite_of ts)) known) (within_without (telling.bound_suite (suite_of ts)) (locals_in C (node.at (node.While e body) span)) known k.names binds w) true

module _ (C : Context) (m : TypedModule) (locals : List Variable) (init : Option ℕ) (result : Option Sort) where
  abbrev here : Context
  here = scene C m locals init

  abbrev one_takes : List TypedTarget → Sort → Bool
  one_takes = single C m locals init result

  -- what is known behind the typed form is known at this end, where no more was known in front of it
  abbrev LessAct : List ℕ → List ℕ → TypedAct → Type 0
  LessAct names end a = (known : List ℕ) → Within known names → Within (telling.after_act one_takes known a) end

  abbrev LessStmt : List ℕ → List ℕ → TypedStmt → Type 0
  LessStmt names end t = (known : List ℕ) → Within known names → Within (telling.after one_takes known t) end

  abbrev pub LessSuite : List ℕ → List ℕ → TypedSuite → Type 0
  LessSuite names end t = (known : List ℕ) → Within known names → Within (telling.after_suite one_takes known t) end

  -- ---- what leaves what is known as it is

  kept_less : (names : List ℕ) (a b : TypedAct) → ((known : List ℕ) → telling.after_act one_takes known a ≡ known) → a ≡ b → LessAct names names b
  kept_less names a b same q = subst (LessAct names names) q (λ known w. subst (λ z. Within z names) (sym (same known)) w)

  jump_less : (looping : Bool) (names : List ℕ) (span : Span) (word : List ℕ) (b a : TypedAct) → ((known : List ℕ) → telling.after_act one_takes known b ≡ known) → (in_loop looping span word b).got ≡ Some a → LessAct names names a
  jump_less true names span word b a same h = kept_less names b a same (same_Some b a h)
  jump_less false names span word b a same h = absurd (cc)

  return_less : (r : ReturnSort) (k : Known) (span : Span) (e : Option ExprTree) (a : TypedAct) → (returns here r k span e).got ≡ Some a → LessAct k.names k.names a
  return_less r k span None a h = let q = made_given (λ u. act.Return None) (bare_return span r) a h in kept_less k.names (act.Return None) a (λ known. refl) q.2
  return_less r k span (Some e) a h =
      let q = made_given (λ v. act.Return (Some v)) (behind (typed_at here k (return_wanted r) e) (λ p. with_part p (value_return m.classes.classes span r))) a h in
      kept_less k.names (act.Return (Some q.0)) a (λ known. refl) q.2

  raise_less : (handling : Bool) (k : Known) (span : Span) (e : Option ExprTree) (a : TypedAct) → (raises here handling k span e).got ≡ Some a → LessAct k.names k.names a
  raise_less handling k span e a h = by (raise_given here handling k span e a h)
    where
      by : Raised here handling k e a → LessAct k.names k.names a
      by (raised_on d q) = kept_less k.names (act.Raise None) a (λ known. refl) q
      by (raised_class place x q) = kept_less k.names (act.Raise (Some (exception_made place x None))) a (λ known. refl) q
      by (raised_value value t u g x q) = kept_less k.names (act.Raise (Some t)) a (λ known. refl) q

  -- behind an assertion its test was true
  assert_less : (k : Known) (span : Span) (e : ExprTree) (text : Option ExprTree) → is_bare e ≡ true → (a : TypedAct) → (asserts here k span e text).got ≡ Some a → LessAct k.names (where_test here k true e).names a
  assert_less k span e text bare a h =
      let q = assert_given here k span e text a h in
      subst (LessAct k.names (where_test here k true e).names) q.is (λ known w. test_less here k e bare q.test q.tested known w true)

  -- ---- rows

  suite_step : (r : ReturnSort) (around : Around) (k : Known) (s : StmtTree) (more : Suite) (ts : List TypedStmt) (b : Bool) → is_definition s ≡ b → (after here k s ≡ k → (block here r around k more).got ≡ Some ts → LessSuite k.names (block_after here k more).names (suite_of ts))
      → ((t : TypedStmt) → (statement here r around k s).got ≡ Some t → LessStmt k.names (after here k s).names t) → ((l : List TypedStmt) → (block here r around (after here k s) more).got ≡ Some l → LessSuite (after here k s).names (block_after here (after here k s) more).names (suite_of l))
      → (if b then block here r around k more else row_then (statement here r around k s) (block here r around (after here k s) more)).got ≡ Some ts → LessSuite k.names (block_after here (after here k s) more).names (suite_of ts)
  suite_step r around k s more ts true d f g i h =
      let same = definition_after here k s d in subst (λ (z : Known). LessSuite k.names (block_after here z more).names (suite_of ts)) (sym same) (f same h)
  suite_step r around k s more ts false d f g i h =
      let q = row_given (statement here r around k s) (block here r around (after here k s) more) ts h in
      subst (λ l. LessSuite k.names (block_after here (after here k s) more).names (suite_of l)) q.4
      (λ known w. i q.1 q.3 (telling.after one_takes known q.0) (g q.0 q.2 known w))

  -- ---- statements

  module _ (r : ReturnSort) where
    mutual
      less_stmt : (around : Around) (k : Known) (s : StmtTree) → IsScope here k.types → Describes here (after here k s).types m locals init → is_stmt_written s ≡ true → is_bare_stmt C.meaning s ≡ true → (t : TypedStmt) → (statement here r around k s).got ≡ Some t → LessStmt k.names (after here k s).names t
      less_stmt around k (node.at n span) sc E ws bare t h =
          let q = made_given (λ a. on_line a span.line) (node_statement here r around k span n) t h in
          subst (LessStmt k.names (node_after here k span n).names) q.2 (less_act around k span n sc E ws bare q.0 q.1)

      less_act : (around : Around) (k : Known) (span : Span) (n : StmtNode) → IsScope here k.types → Describes here (node_after here k span n).types m locals init → is_act_written n ≡ true → is_bare_act C.meaning n ≡ true → (a : TypedAct) → (node_statement here r around k span n).got ≡ Some a → LessAct k.names (node_after here k span n).names a
      less_act around k span (node.Do e) sc E ws bare a h = let q = made_given act.Do (typed_at here k dropped e) a h in kept_less k.names (act.Do q.0) a (λ known. refl) q.2
      less_act around k span (node.Assign target e) sc E ws bare a h =
          less_assign C m locals init result k span target e sc (and_left (are_targets (leaves target)) (law.is_written e) ws) (and_right (are_targets (leaves target)) (law.is_written e) ws) E a h
      less_act around k span (node.Annot target mark (Some e)) sc E ws bare a h = less_annotated C m locals init result k span (name_in target) target mark e refl sc ws E a h
      less_act around k span (node.Annot target mark None) sc E ws bare a h = less_bare C m locals init result k span (name_in target) target mark refl bare a h
      less_act around k span (node.Aug target op e) sc E ws bare a h = less_update C m locals init result k span target op e a h
      less_act around k span (node.Del e) sc E ws bare a h = let d = (deleted_item here k span e a h).2 in kept_less k.names (act.Del d.held d.key) a (λ known. refl) d.made
      less_act around k span (node.Raise e) sc E ws bare a h = raise_less around.handling k span e a h
      less_act around k span (node.Assert e text) sc E ws bare a h = assert_less k span e text bare a h
      less_act around k span (node.Return e) sc E ws bare a h = return_less r k span e a h
      less_act around k span node.Pass sc E ws bare a h = kept_less k.names act.Pass a (λ known. refl) (same_Some act.Pass a h)
      less_act around k span (node.Global names) sc E ws bare a h = kept_less k.names act.Pass a (λ known. refl) (same_Some act.Pass a h)
      less_act around k span node.Break sc E ws bare a h = jump_less around.looping k.names span _ act.Break a (λ known. refl) h
      less_act around k span node.Continue sc E ws bare a h = jump_less around.looping k.names span _ act.Continue a (λ known. refl) h
      less_act around k span (node.If arms other) sc E ws bare a h =
          let way = arms_after here (setting_out k) arms in
          let s = branches here r around (setting_out k) arms in
          let t = block here r around way.at other in
          let q = made_given (λ p. act.If (arms_of p.0) (suite_of p.1)) (both s t) a h in
          let b = both_given s t q.0 q.1 in
          let wr = of_three (has_test arms) (are_arms_written arms) (is_suite_written other) ws in
          let end = block_after here way.at other in
          let scw = scope_on here k.types way.at.types (follows_arms here (setting_out k) arms) sc in
          let shape = shape_block here r around way.at other q.0.1 b.1 in
          let ts = suite_of q.0.1 in
          let last = less_block around way.at other scw E wr.2 (and_right (are_bare_arms C.meaning arms) (is_bare_suite C.meaning other) bare) q.0.1 b.1 in
          subst (LessAct k.names (common (met way.ends (flow.is_closed other) end.names))) q.2 (λ known w.
          less_arms around (setting_out k) arms sc (described_before here way.at.types end.types m locals init (follows_block here way.at other) E) wr.1 (and_left (are_bare_arms C.meaning arms) (is_bare_suite C.meaning other) bare) q.0.0 b.0 known w
          (λ there ends. if telling.is_closed ts then ends else or_shared ends (telling.after_suite one_takes there ts))
          (common (met way.ends (flow.is_closed other) end.names)) None tt
          (λ there ends wk eo. all_ends (met way.ends (flow.is_closed other) end.names) (if telling.is_closed ts then ends else or_shared ends (telling.after_suite one_takes there ts))
          (closed_end way.ends ends (flow.is_closed other) (telling.is_closed ts) end.names (telling.after_suite one_takes there ts) shape.closed eo (last there wk))))
      less_act around k span (node.While e body) sc E ws bare a h =
          let here_stmt = node.at (node.While e body) span in
          let l = entering here k here_stmt in
          let inner = where_test here l true e in
          let s = condition here l e in
          let t = block here r (around_loop around) inner body in
          let q = made_given (λ p. act.While p.0 (suite_of p.1)) (both s t) a h in
          let b = both_given s t q.0 q.1 in
          let ts = suite_of q.0.1 in
          let shape = shape_block here r (around_loop around) inner body q.0.1 b.1 in
          let binds : Within (locals_in here here_stmt) (telling.bound_suite ts) =
          subst (λ z. Within (locals_in here here_stmt) (telling.bound_in z)) (sym q.2) (act_binds here r around k span (node.While e body) bare a h) in
          subst (LessAct k.names (node_after here k span (node.While e body)).names) q.2 (λ known w.
          let left = without (telling.bound_suite ts) known in
          let wl = within_without (telling.bound_suite ts) (locals_in here here_stmt) known k.names binds w in
          left_or (flow.breaks_suite body) (telling.breaks_suite ts) l.names (where_test here l false e).names left (telling.facts false q.0.0 ++ left) shape.breaks wl (test_less here l e (and_left (is_bare e) (is_bare_suite C.meaning body) bare) q.0.0 b.0 left wl false))
      less_act around k span (node.For target e body) sc E ws bare a h =
          let here_stmt = node.at (node.For target e body) span in
          let s = for_head here k here_stmt span target e in
          let t = block here r (around_loop around) (in_for here k here_stmt span target e) body in
          let q = made_given (λ (p : (List TypedTarget × Course) × List TypedStmt). loop_of p.0.0 p.0.1 (suite_of p.1)) (both s t) a h in
          let ts = suite_of q.0.1 in
          let gone = bound_by_all q.0.0.0 ++ telling.bound_suite ts in
          let binds : Within (locals_in here here_stmt) gone =
          subst (Within (locals_in here here_stmt)) (loop_binds q.0.0.0 q.0.0.1 ts) (subst (λ z. Within (locals_in here here_stmt) (telling.bound_in z)) (sym q.2) (act_binds here r around k span (node.For target e body) bare a h)) in
          subst (LessAct k.names (entering here k here_stmt).names) q.2 (λ known w.
          subst (λ z. Within z (entering here k here_stmt).names) (sym (loop_after C m locals init result known q.0.0.0 q.0.0.1 ts)) (within_without gone (locals_in here here_stmt) known k.names binds w))
      less_act around k span (node.Try body handlers last) sc E ws bare a h =
          let here_stmt = node.at (node.Try body handlers last) span in
          let names = outside_try here k here_stmt in
          let end = block_after here k body in
          let q = made_given try_of (both (both (block here r around k body) (clauses here r around names end handlers)) (maybe_block here r around names (handlers_after here names end handlers) last)) a h in
          let binds : Within (locals_in here here_stmt) (telling.bound_in (try_of q.0)) =
          subst (λ z. Within (locals_in here here_stmt) (telling.bound_in z)) (sym q.2) (act_binds here r around k span (node.Try body handlers last) bare a h) in
          subst (LessAct k.names names) q.2 (λ known w. within_without (telling.bound_in (try_of q.0)) (locals_in here here_stmt) known k.names binds w)
      less_act around k span _ sc E ws bare a h = absurd (cc)

      -- STATEMENTS in a row
      pub less_block : (around : Around) (k : Known) (body : Suite) → IsScope here k.types → Describes here (block_after here k body).types m locals init → is_suite_written body ≡ true → is_bare_suite C.meaning body ≡ true → (ts : List TypedStmt) → (block here r around k body).got ≡ Some ts → LessSuite k.names (block_after here k body).names (suite_of ts)
      less_block around k no_stmts sc E ws bare ts h = subst (λ l. LessSuite k.names k.names (suite_of l)) (same_Some [] ts h) (λ known w. w)
      less_block around k (stmt_then s more) sc E ws bare ts h =
          let l = after here k s in
          let el = described_before here l.types (block_after here l more).types m locals init (follows_block here l more) E in
          let wm = and_right (is_stmt_written s) (is_suite_written more) ws in
          let bm = and_right (is_bare_stmt C.meaning s) (is_bare_suite C.meaning more) bare in
          suite_step r around k s more ts (is_definition s) refl
          (λ same g. less_block around k more sc (subst (λ (z : Known). Describes here (block_after here z more).types m locals init) same E) wm bm ts g)
          (λ t g. less_stmt around k s sc el (and_left (is_stmt_written s) (is_suite_written more) ws) (and_left (is_bare_stmt C.meaning s) (is_bare_suite C.meaning more) bare) t g)
          (λ x g. less_block around l more (scope_on here k.types l.types (follows_stmt here k s) sc) E wm bm x g) h

      less_arms : (around : Around) (w : Way) (arms : Arms) → IsScope here w.at.types → Describes here (arms_after here w arms).at.types m locals init → are_arms_written arms ≡ true → are_bare_arms C.meaning arms ≡ true → (l : List (TypedExpr × TypedSuite)) → (branches here r around w arms).got ≡ Some l → (known : List ℕ) → Within known w.at.names
          → (last : List ℕ → Option (List ℕ) → Option (List ℕ)) (final : List ℕ) (ends : Option (List ℕ)) → LessEnds w.ends ends
          → ((there : List ℕ) (es : Option (List ℕ)) → Within there (arms_after here w arms).at.names → LessEnds (arms_after here w arms).ends es → Within (known_at_end (last there es)) final)
          → Within (known_at_end (telling.after_arms one_takes known ends (arms_of l) last)) final
      less_arms around w no_arms sc E wa bare l h known wi last final ends eo next = subst (λ z. Within (known_at_end (telling.after_arms one_takes known ends (arms_of z) last)) final) (same_Some [] l h) (next known ends wi eo)
      less_arms around w (arm_then e body more) sc E wa bare l h known wi last final ends eo next =
          let s = condition here w.at e in
          let inner = where_test here w.at true e in
          let t = block here r around inner body in
          let end = block_after here inner body in
          let then_on = behind_arm here w e (flow.is_closed body) end in
          let one : Seen (TypedExpr × TypedSuite) = made (λ p. (p.0, suite_of p.1)) (both s t) in
          let q = row_given one (branches here r around then_on more) l h in
          let v = made_given (λ p. (p.0, suite_of p.1)) (both s t) q.0 q.2 in
          let b = both_given s t v.0 v.1 in
          let wr = of_four (law.is_written e) (is_filled body) (is_suite_written body) (are_arms_written more) wa in
          let br = of_three (is_bare e) (is_bare_suite C.meaning body) (are_bare_arms C.meaning more) bare in
          let Ee = described_before here end.types (arms_after here then_on more).at.types m locals init (follows_arms here then_on more) E in
          let tells = test_less here w.at e br.0 v.0.0 b.0 known wi in
          let g = less_block around inner body sc Ee wr.2 br.1 v.0.1 b.1 (telling.facts true v.0.0 ++ known) (tells true) in
          let shape = shape_block here r around inner body v.0.1 b.1 in
          let ts = suite_of v.0.1 in
          let rest = less_arms around then_on more (scope_on here w.at.types end.types (follows_block here inner body) sc) E wr.3 br.2 q.1 q.3 (telling.facts false v.0.0 ++ known) (tells false) last final
          (if telling.is_closed ts then ends else or_shared ends (telling.after_suite one_takes (telling.facts true v.0.0 ++ known) ts))
          (closed_end w.ends ends (flow.is_closed body) (telling.is_closed ts) end.names (telling.after_suite one_takes (telling.facts true v.0.0 ++ known) ts) shape.closed eo g) next in
          subst (λ z. Within (known_at_end (telling.after_arms one_takes known ends (arms_of z) last)) final) q.4
          (subst (λ (z : TypedExpr × TypedSuite). Within (known_at_end (telling.after_arms one_takes known ends (arms_of (z ∷ q.1)) last)) final) v.2 rest)

  -- where the body of a `for` begins
  pub less_for : (r : ReturnSort) (around : Around) (k : Known) (span : Span) (target e : ExprTree) (body : Suite) → IsScope here k.types → Describes here (in_for here k (node.at (node.For target e body) span) span target e).types m locals init → law.is_written e ≡ true → is_bare_suite C.meaning body ≡ true
      → (targets : List TypedTarget) (over : Course) (item : Sort) → (for_head here k (node.at (node.For target e body) span) span target e).got ≡ Some (targets, over) → course_items over ≡ Some item
      → (ts : List TypedStmt) → (block here r (around_loop around) (in_for here k (node.at (node.For target e body) span) span target e) body).got ≡ Some ts → (known : List ℕ) → Within known k.names
      → Within (stmt.in_loop_from m locals init result known targets item (suite_of ts)) (in_for here k (node.at (node.For target e body) span) span target e).names
  less_for r around k span target e body sc E we bare targets over item h is ts g known w =
      let s = node.at (node.For target e body) span in
      let l = in_for here k s span target e in
      let ok = is_some (for_head here k s span target e).got in
      let D = described_before here k.types l.types m locals init (follows_target here ok (entering here k s) target (some_items (course here k e).got)) E in
      let hp = head_parts here k s span target e (targets, over) h in
      let same : hp.headed.item ≡ item = same_Some hp.headed.item item (sym hp.headed.items ∙ ap course_items hp.is ∙ is) in
      let binds = for_binds here k s span target e body (targets, over) h (suite_of ts) (block_binds here r (around_loop around) l body bare ts g) in
      subst (λ z. Within (stmt.in_loop_from m locals init result known targets z (suite_of ts)) l.names) same
      (less_head C m locals init result k D sc s span target e we (targets, over) h hp E (suite_of ts) known
      (within_without (bound_by_all targets ++ telling.bound_suite (suite_of ts)) (locals_in here s) known k.names binds w))

-- for any context that has the classes of the module
pub less_in : (C : Context) (r : ReturnSort) (around : Around) (k : Known) (body : Suite) (m : TypedModule) (locals : List Variable) (init : Option ℕ) (result : Option Sort) → IsScope C k.types → Describes C (block_after C k body).types m locals init
    → is_suite_written body ≡ true → is_bare_suite C.meaning body ≡ true → (ts : List TypedStmt) → (block C r around k body).got ≡ Some ts → (known : List ℕ) → Within known k.names
    → Within (telling.after_suite (stmt.is_single m locals init result) known (suite_of ts)) (block_after C k body).names
less_in C r around k body m locals init result sc D ws bare ts g known w =
    subst (λ e. IsScope (at_classes C e) k.types → Describes (at_classes C e) (block_after (at_classes C e) k body).types m locals init → (block (at_classes C e) r around k body).got ≡ Some ts
    → Within (telling.after_suite (stmt.is_single m locals init result) known (suite_of ts)) (block_after (at_classes C e) k body).names) D.classes
    (λ sc D g. less_block C m locals init result r around k body sc D ws bare ts g known w) sc D g

pub less_for_in : (C : Context) (r : ReturnSort) (around : Around) (k : Known) (span : Span) (target e : ExprTree) (body : Suite) (m : TypedModule) (locals : List Variable) (init : Option ℕ) (result : Option Sort) → IsScope C k.types → Describes C (in_for C k (node.at (node.For target e body) span) span target e).types m locals init
    → law.is_written e ≡ true → is_bare_suite C.meaning body ≡ true → (targets : List TypedTarget) (over : Course) (item : Sort) → (for_head C k (node.at (node.For target e body) span) span target e).got ≡ Some (targets, over) → course_items over ≡ Some item
    → (ts : List TypedStmt) → (block C r (around_loop around) (in_for C k (node.at (node.For target e body) span) span target e) body).got ≡ Some ts → (known : List ℕ) → Within known k.names
    → Within (stmt.in_loop_from m locals init result known targets item (suite_of ts)) (in_for C k (node.at (node.For target e body) span) span target e).names
less_for_in C r around k span target e body m locals init result sc D we bare targets over item h is ts g known w =
    let s = node.at (node.For target e body) span in
    subst (λ c. IsScope (at_classes C c) k.types → Describes (at_classes C c) (in_for (at_classes C c) k s span target e).types m locals init → (for_head (at_classes C c) k s span target e).got ≡ Some (targets, over)
    → (block (at_classes C c) r (around_loop around) (in_for (at_classes C c) k s span target e) body).got ≡ Some ts → Within (stmt.in_loop_from m locals init result known targets item (suite_of ts)) (in_for (at_classes C c) k s span target e).names) D.classes
    (λ sc D h g. less_for C m locals init result r around k span target e body sc D we bare targets over item h is ts g known w) sc D h g
