-- Statements that are typed stand well typed, whatever more is known of names than typing knew.
use Rattle.std.proofs.Common.{◌≡◌, ℕ, Bool, true, false, not, ◌&&◌, ◌||◌, List, [], ◌∷◌, ◌++◌, length, Option, Some, None, refl, sym, subst, if◌then◌else◌}
use Rattle.std.proofs.lemmas.Bool.{and_from}
use Rattle.std.proofs.lemmas.Option.{same_Some}
use Rattle.std.specs.Prelude.{is_some}
use Rattle.std.specs.Option.{option_map}
use Rattle.value_core.specs.declared.exception.ExcClass.TheVariants.{Exception}
use Rattle.py_syntax.specs.declared.token.Span.{Span}
use Rattle.py_syntax.specs.Expressions.{ExprTree}
use Rattle.py_syntax.specs.Statements as node
use Rattle.py_syntax.specs.Statements.{StmtTree, StmtNode, Suite, no_stmts, stmt_then, Arms, no_arms, arm_then, Handlers, no_handlers, handler_then, MaybeSuite, no_suite, some_suite}
use Rattle.py_typed.specs.Sorts as sort
use Rattle.py_typed.specs.Sorts.{Sort}
use Rattle.py_typed.specs.Fits.{is_same_type}
use Rattle.py_typed.specs.Expressions.{TypedExpr, type_of}
use Rattle.py_typed.specs.Statements as act
use Rattle.py_typed.specs.Statements.{Variable, TypedModule, TypedTarget, TypedStmt, TypedAct, TypedSuite, HandlerParts, on_line, suite_of, arms_of}
use Rattle.py_typed.specs.Narrowing as telling
use Rattle.py_typed.specs.Narrowing.{without, bound_by_all, or_shared, known_at_end}
use Rattle.py_typed.specs.WellTyped as stmt
use Rattle.py_typed.specs.WellTypedExpr as expr
use Rattle.py_typed.proofs.FitLemmas.{and_left, and_right}
use Rattle.py_check_context.specs.Context.{Context, free, test, dropped}
use Rattle.py_check_flow.specs.Bindings.{name_in, target_bindings, suite_bindings}
use Rattle.py_check_flow.specs.Closed as flow
use Rattle.py_check_messages.specs.Seen.{Seen, both, made}
use Rattle.py_check_messages.specs.Rows.{row_then}
use Rattle.py_check_names.specs.Outline.{stmt_definitions, node_definitions, suite_definitions, arms_definitions, handlers_definitions, last_definitions}
use Rattle.py_check_operators.specs.Facts.{facts}
use Rattle.py_check_coercions.specs.Values.{truth}
use Rattle.py_check_values.specs.Returns.{ReturnSort}
use Rattle.py_check_places.specs.Places.{Known, with_names, locals_in, locals_among, where_test, entering, Way, setting_out, met, common, behind_arm}
use Rattle.py_check_places.specs.Shapes.{leaves}
use Rattle.py_check_targets.specs.Targets.{typed_at}
use Rattle.py_check_loops.specs.Loops.{course, loop_of}
use Rattle.py_check_loops.specs.Heads.{some_items, for_head, in_for}
use Rattle.py_check_exceptions.specs.Handlers.{handler_head, in_handler}
use Rattle.py_check_exceptions.specs.Raises.{asserts}
use Rattle.py_check_statements.specs.Deletions.{deletes}
use Rattle.py_check_statements.specs.Bodies.{is_definition, around_loop, around_clause, is_last, clause_of, present, try_of, condition, outside_try, after, node_after, block_after, arms_after, handlers_after, last_after, in_loop, statement, node_statement, block, branches, clauses, maybe_block}
use Rattle.py_check_statements.specs.declared.bodies.Around.{Around}
use Rattle.py_check_expressions_laws.specs.WellTyped as law
use Rattle.py_check_expressions_laws.specs.WellTyped.{Describes, Within}
use Rattle.py_check_expressions_laws.proofs.Inside.{within_none, within_append, within_shared}
use Rattle.py_check_expressions_laws.proofs.Loud.{none_before, none_behind}
use Rattle.py_check_expressions_laws.proofs.Sound.{sound_typing, at_classes}
use Rattle.py_check_expressions_laws.proofs.Telling.{told_typing, truth_tells, within_same}
use Rattle.py_check_laws.specs.WellTyped.{is_filled, has_test, has_clause, maybe_written, are_targets, is_stmt_written, is_act_written, is_suite_written, are_arms_written, are_handlers_written, is_last_written, IsScope, IsResult}
use Rattle.py_check_laws.proofs.Given.{made_given, both_given, row_given}
use Rattle.py_check.proofs.Kept.{follows_name, follows_target, follows_stmt, follows_block, follows_arms, follows_clauses, follows_last}
use Rattle.py_check_laws.proofs.Whole.{definition_after}
use Rattle.py_check_laws.proofs.Names.{within_without}
use Rattle.py_check_laws.proofs.Shapes.{locals_two, targets_within, shape_act, shape_block}
use Rattle.py_check_laws.proofs.Values.{scene, of_three, of_four, of_five}
use Rattle.py_check_laws.proofs.Closed.{scope_on}
use Rattle.py_check_laws.proofs.Courses.{course_stands}
use Rattle.py_check_laws.proofs.Bound.{described_before, Good, single, good_assign}
use Rattle.py_check_laws.proofs.Updated.{good_annotated, good_update, good_return}
use Rattle.py_check_laws.proofs.Deleted.{deleted_item, deleted_stands}
use Rattle.py_check_laws.proofs.Exceptions.{Told, text_is, raise_given, assert_given}
use Rattle.py_check_laws.proofs.Raised.{good_raise}
use Rattle.py_check_laws.proofs.Raised as clause
use Rattle.py_check_laws.proofs.Loops.{head_parts, good_head, loop_typed, loop_after, head_looked}

-- ---- the ends of arms

-- the names at the open ends so far, as typing has them and as the typed arms do
abbrev EndsOf : Option (List ℕ) → Option (List ℕ) → Type 0
EndsOf None None = Unit {0}
EndsOf (Some xs) (Some ys) = Within xs ys
EndsOf None (Some ys) = ⊥
EndsOf (Some xs) None = ⊥

one_end : (ends others : Option (List ℕ)) (closed : Bool) (names known : List ℕ) → EndsOf ends others → Within names known → EndsOf (met ends closed names) (if closed then others else or_shared others known)
one_end ends others true names known h w = h
one_end None None false names known h w = w
one_end None (Some ys) false names known h w = absurd h
one_end (Some xs) None false names known h w = absurd h
one_end (Some xs) (Some ys) false names known h w = within_shared xs names ys known h w

all_ends : (ends others : Option (List ℕ)) → EndsOf ends others → Within (common ends) (known_at_end others)
all_ends None None h = within_none []
all_ends None (Some ys) h = absurd h
all_ends (Some xs) None h = absurd h
all_ends (Some xs) (Some ys) h = h

closed_end : (ends others : Option (List ℕ)) (c d : Bool) (names known : List ℕ) → d ≡ c → EndsOf ends others → Within names known → EndsOf (met ends c names) (if d then others else or_shared others known)
closed_end ends others c d names known q h w = subst (λ z. EndsOf (met ends c names) (if z then others else or_shared others known)) (sym q) (one_end ends others c names known h w)

left_or : (b c : Bool) (xs ys us vs : List ℕ) → c ≡ b → Within xs us → Within ys vs → Within (if b then xs else ys) (if c then us else vs)
left_or b c xs ys us vs q v w = subst (λ z. Within (if b then xs else ys) (if z then us else vs)) (sym q) (by b)
  where
    by : (z : Bool) → Within (if z then xs else ys) (if z then us else vs)
    by true = v
    by false = w

-- ---- bodies

no_definition : (s : StmtTree) → stmt_definitions s ≡ [] → is_definition s ≡ true → ⊥
no_definition (node.at (node.Import m other) span) h d = absurd (cc)
no_definition (node.at (node.From m names) span) h d = absurd (cc)
no_definition (node.at (node.Def f params ret body marks) span) h d = absurd (cc)
no_definition (node.at (node.ClassDef x bases body marks) span) h d = absurd (cc)
no_definition _ h d = absurd (cc)

has_first : (one : Seen TypedStmt) (rest same : Seen (List TypedStmt)) (ts : List TypedStmt) (b : Bool) → (b ≡ true → ⊥) → (if b then same else row_then one rest).got ≡ Some ts → stmt.has_statement (suite_of ts) ≡ true
has_first one rest same ts true n h = absurd (n refl)
has_first one rest same ts false n h = let q = row_given one rest ts h in subst (λ l. stmt.has_statement (suite_of l) ≡ true) q.4 refl

pub filled_block : (C : Context) (r : ReturnSort) (around : Around) (k : Known) (body : Suite) → is_filled body ≡ true → suite_definitions body ≡ [] → (ts : List TypedStmt) → (block C r around k body).got ≡ Some ts → stmt.has_statement (suite_of ts) ≡ true
filled_block C r around k no_stmts f n ts h = absurd (cc)
filled_block C r around k (stmt_then s more) f n ts h =
    has_first (statement C r around k s) (block C r around (after C k s) more) (block C r around k more) ts (is_definition s) (no_definition s (none_before (stmt_definitions s) (suite_definitions more) n)) h

module _ (C : Context) (m : TypedModule) (locals : List Variable) (init : Option ℕ) (result : Option Sort) where
  abbrev here : Context
  here = scene C m locals init

  abbrev one_takes : List TypedTarget → Sort → Bool
  one_takes = single C m locals init result

  abbrev Fine : Bool → Bool → List ℕ → List ℕ → TypedAct → Type 0
  Fine = Good C m locals init result

  -- a typed row of statements stands, and what is known behind it is known
  pub record SuiteGood (loops handling : Bool) (others end : List ℕ) (t : TypedSuite) : Type 0 where
    pub typed : stmt.suite_typed m locals init result others loops handling t ≡ true
    pub names : Within end (telling.after_suite one_takes others t)

  record StmtGood (loops handling : Bool) (others end : List ℕ) (t : TypedStmt) : Type 0 where
    typed : stmt.stmt_typed m locals init result others loops handling t ≡ true
    names : Within end (telling.after one_takes others t)

  in_body : (o : Option Sort) (t : TypedSuite) → (is_some o ≡ true → stmt.has_statement t ≡ true) → (not (stmt.is_there m locals init result o) || stmt.has_statement t) ≡ true
  in_body None t h = refl
  in_body (Some s) t h = h refl

  three : (a b c : Bool) → a ≡ true → b ≡ true → c ≡ true → (a && b && c) ≡ true
  three a b c p q r = cc

  five : (a b c d e : Bool) → a ≡ true → b ≡ true → c ≡ true → d ≡ true → e ≡ true → (a && b && c && d && e) ≡ true
  five a b c d e p q r s t = cc

  four : (a b c d : Bool) → a ≡ true → b ≡ true → c ≡ true → d ≡ true → (a && b && c && d) ≡ true
  four a b c d p q r s = cc

  body_there : (r : ReturnSort) (around : Around) (k : Known) (body : Suite) → is_filled body ≡ true → (is_some result ≡ true → suite_definitions body ≡ []) → (ts : List TypedStmt) → (block here r around k body).got ≡ Some ts → stmt.is_body m locals init result (suite_of ts) ≡ true
  body_there r around k body f n ts h = in_body result (suite_of ts) (λ s. filled_block here r around k body f (n s) ts h)

  -- ---- tests

  -- a test stands, and tells as much
  record TestStands (k : Known) (e : ExprTree) (others : List ℕ) (t : TypedExpr) : Type 0 where
    stands : stmt.is_test m locals init result others t ≡ true
    tells : (b : Bool) → Within (facts here b e ++ k.names) (telling.facts b t ++ others)

  test_stands : (k : Known) → Describes here k.types m locals init → (e : ExprTree) → law.is_written e ≡ true → (t : TypedExpr) → (condition here k e).got ≡ Some t → (others : List ℕ) → Within k.names others → TestStands k e others t
  test_stands k D e we t h others w =
      let v = made_given truth (typed_at here k test e) t h in
      let told = (told_typing here k.types test k.names e).each v.0 v.1 in
      subst (TestStands k e others) v.2 (record {
        stands = (sound_typing C k.types m locals init D test k.names e we refl).each v.0 v.1 others w refl;
        tells = λ b. within_append (facts here b e) k.names (telling.facts b (truth v.0)) others (within_same (facts here b e) (telling.facts b (truth v.0)) (telling.facts b v.0) (truth_tells b v.0) (told b)) w;
      })

  -- ---- single statements

  alone : (loops handling : Bool) (k : Known) → Describes here k.types m locals init → (e : ExprTree) → law.is_written e ≡ true → (a : TypedAct) → (made act.Do (typed_at here k dropped e)).got ≡ Some a → (others : List ℕ) → Within k.names others → Fine loops handling others k.names a
  alone loops handling k D e we a h others w =
      let q = made_given act.Do (typed_at here k dropped e) a h in
      subst (Fine loops handling others k.names) q.2 (record { typed = (sound_typing C k.types m locals init D dropped k.names e we refl).each q.0 q.1 others w refl; names = w })

  deleted : (loops handling : Bool) (k : Known) → Describes here k.types m locals init → (span : Span) (e : ExprTree) → law.is_written e ≡ true → (a : TypedAct) → (deletes here k span e).got ≡ Some a → (others : List ℕ) → Within k.names others → Fine loops handling others k.names a
  deleted loops handling k D span e we a h others w =
      let q = deleted_item here k span e a h in
      let d = q.2 in
      let v = (sound_typing C k.types m locals init D free k.names e we refl).each q.0 q.1 others w refl in
      subst (Fine loops handling others k.names) d.made (record {
        typed = deleted_stands m locals init result loops handling others d.held d.key d.type d.place d.dict (subst (λ t. expr.stands m locals init false others t ≡ true) d.is v);
        names = w;
      })

  jump : (r : ReturnSort) (loops handling : Bool) (k : Known) (span : Span) (word : List ℕ) (b a : TypedAct) → (stmt.act_typed m locals init result [] loops handling b ≡ true → (others : List ℕ) → stmt.act_typed m locals init result others loops handling b ≡ true) → (loops ≡ true → stmt.act_typed m locals init result [] loops handling b ≡ true)
      → ((others : List ℕ) → telling.after_act one_takes others b ≡ others) → (in_loop loops span word b).got ≡ Some a → (others : List ℕ) → Within k.names others → Fine loops handling others k.names a
  jump r true handling k span word b a all typed same h others w =
      subst (Fine true handling others k.names) (same_Some b a h) (record { typed = all (typed refl) others; names = subst (Within k.names) (sym (same others)) w })
  jump r false handling k span word b a all typed same h others w = absurd (cc)

  passed : (loops handling : Bool) (k : Known) (a : TypedAct) → act.Pass ≡ a → (others : List ℕ) → Within k.names others → Fine loops handling others k.names a
  passed loops handling k a q others w = subst (Fine loops handling others k.names) q (record { typed = refl; names = w })

  text_stands : (k : Known) → Describes here k.types m locals init → (text : Option ExprTree) → maybe_written text ≡ true → (t : Option TypedExpr) → Told here k text t → (others : List ℕ) → Within k.names others → stmt.maybe_of_type m locals init result others sort.Str t ≡ true
  text_stands k D text wt None told others w = refl
  text_stands k D text wt (Some t) told others w =
      and_from (expr.stands m locals init false others t) (is_same_type (type_of t) sort.Str)
      ((sound_typing C k.types m locals init D free k.names told.0 (subst (λ o. maybe_written o ≡ true) told.1 wt) refl).each t told.2 others w refl) (text_is (type_of t) told.3)

  good_assert : (loops handling : Bool) (k : Known) → Describes here k.types m locals init → (span : Span) (e : ExprTree) (text : Option ExprTree) → law.is_written e ≡ true → maybe_written text ≡ true → (a : TypedAct) → (asserts here k span e text).got ≡ Some a → (others : List ℕ) → Within k.names others
      → Fine loops handling others (where_test here k true e).names a
  good_assert loops handling k D span e text we wt a h others w =
      let g = assert_given here k span e text a h in
      let st = test_stands k D e we g.test g.tested others w in
      subst (Fine loops handling others (where_test here k true e).names) g.is (record {
        typed = and_from (stmt.is_test m locals init result others g.test) (stmt.maybe_of_type m locals init result others sort.Str g.message) st.stands (text_stands k D text wt g.message g.told others w);
        names = st.tells true;
      })

  -- ---- rows

  in_front : (loops handling : Bool) (others middle end : List ℕ) (t : TypedStmt) (ts : TypedSuite) → StmtGood loops handling others middle t → SuiteGood loops handling (telling.after one_takes others t) end ts → SuiteGood loops handling others end (act.stmt_then t ts)
  in_front loops handling others middle end t ts g r = record {
    typed = and_from (stmt.stmt_typed m locals init result others loops handling t) (stmt.suite_typed m locals init result (telling.after one_takes others t) loops handling ts) g.typed r.typed;
    names = r.names;
  }

  suite_step : (r : ReturnSort) (around : Around) (k : Known) (s : StmtTree) (more : Suite) (ts : List TypedStmt) (others : List ℕ) (b : Bool) → is_definition s ≡ b → (after here k s ≡ k → (block here r around k more).got ≡ Some ts → SuiteGood around.looping around.handling others (block_after here k more).names (suite_of ts))
      → ((t : TypedStmt) → (statement here r around k s).got ≡ Some t → StmtGood around.looping around.handling others (after here k s).names t) → ((l : List TypedStmt) → (block here r around (after here k s) more).got ≡ Some l → (known : List ℕ) → Within (after here k s).names known → SuiteGood around.looping around.handling known (block_after here (after here k s) more).names (suite_of l))
      → (if b then block here r around k more else row_then (statement here r around k s) (block here r around (after here k s) more)).got ≡ Some ts → SuiteGood around.looping around.handling others (block_after here (after here k s) more).names (suite_of ts)
  suite_step r around k s more ts others true d f g i h =
      let same = definition_after here k s d in subst (λ (z : Known). SuiteGood around.looping around.handling others (block_after here z more).names (suite_of ts)) (sym same) (f same h)
  suite_step r around k s more ts others false d f g i h =
      let q = row_given (statement here r around k s) (block here r around (after here k s) more) ts h in
      let one = g q.0 q.2 in
      subst (λ l. SuiteGood around.looping around.handling others (block_after here (after here k s) more).names (suite_of l)) q.4
      (in_front around.looping around.handling others (after here k s).names (block_after here (after here k s) more).names q.0 (suite_of q.1) one (i q.1 q.3 (telling.after one_takes others q.0) one.names))

  arms_there : (r : ReturnSort) (around : Around) (w : Way) (arms : Arms) → has_test arms ≡ true → (l : List (TypedExpr × TypedSuite)) → (branches here r around w arms).got ≡ Some l → stmt.has_arm m locals init result (arms_of l) ≡ true
  arms_there r around w no_arms f l h = absurd (cc)
  arms_there r around w (arm_then e body more) f l h =
      let s = condition here w.at e in
      let t = block here r around (where_test here w.at true e) body in
      let one : Seen (TypedExpr × TypedSuite) = made (λ p. (p.0, suite_of p.1)) (both s t) in
      let q = row_given one (branches here r around (behind_arm here w e (flow.is_closed body) (block_after here (where_test here w.at true e) body)) more) l h in
      subst (λ z. stmt.has_arm m locals init result (arms_of z) ≡ true) q.4 refl

  part_there : (r : ReturnSort) (around : Around) (names : List ℕ) (k : Known) (handlers : Handlers) (end : Known) (last : MaybeSuite) → has_clause handlers last ≡ true → (l : List HandlerParts) (o : Option (List TypedStmt)) → (clauses here r around names k handlers).got ≡ Some l → (maybe_block here r around names end last).got ≡ Some o
      → stmt.has_part m locals init result (act.handlers_of l) (act.maybe_suite (option_map suite_of o)) ≡ true
  part_there r around names k no_handlers end no_suite f l o h g = absurd (cc)
  part_there r around names k no_handlers end (some_suite body) f l o h g =
      let q = made_given present (block here r around (with_names end names) body) o g in
      subst (λ z. stmt.has_part m locals init result (act.handlers_of z) (act.maybe_suite (option_map suite_of o)) ≡ true) (same_Some [] l h)
      (subst (λ z. stmt.has_part m locals init result act.no_handlers (act.maybe_suite (option_map suite_of z)) ≡ true) q.2 refl)
  part_there r around names k (handler_then e x body span more) end last f l o h g =
      let begun = in_handler here (with_names k names) span e x (is_last more) in
      let one = made clause_of (both (handler_head here (with_names k names) span e x (is_last more)) (block here r (around_clause around) begun body)) in
      let q = row_given one (clauses here r around names (block_after here begun body) more) l h in
      subst (λ z. stmt.has_part m locals init result (act.handlers_of z) (act.maybe_suite (option_map suite_of o)) ≡ true) q.4 refl

  -- ---- statements

  module _ (r : ReturnSort) (is : IsResult (length m.classes.classes) r result) where
    abbrev Plain : Suite → Type 0
    Plain body = is_some result ≡ true → suite_definitions body ≡ []

    abbrev PlainArms : Arms → Type 0
    PlainArms arms = is_some result ≡ true → arms_definitions arms ≡ []

    abbrev PlainAct : StmtNode → Span → Type 0
    PlainAct n span = is_some result ≡ true → node_definitions n span ≡ []

    mutual
      good_stmt : (around : Around) (k : Known) (s : StmtTree) → IsScope here k.types → Describes here (after here k s).types m locals init → is_stmt_written s ≡ true → (is_some result ≡ true → stmt_definitions s ≡ []) → (t : TypedStmt) → (statement here r around k s).got ≡ Some t → (others : List ℕ) → Within k.names others
          → StmtGood around.looping around.handling others (after here k s).names t
      good_stmt around k (node.at n span) sc E ws pl t h others w =
          let q = made_given (λ a. on_line a span.line) (node_statement here r around k span n) t h in
          let g = good_act around k span n sc E ws pl q.0 q.1 others w in
          subst (StmtGood around.looping around.handling others (node_after here k span n).names) q.2 (record { typed = g.typed; names = g.names })

      good_act : (around : Around) (k : Known) (span : Span) (n : StmtNode) → IsScope here k.types → Describes here (node_after here k span n).types m locals init → is_act_written n ≡ true → PlainAct n span → (a : TypedAct) → (node_statement here r around k span n).got ≡ Some a → (others : List ℕ) → Within k.names others
          → Fine around.looping around.handling others (node_after here k span n).names a
      good_act around k span (node.Do e) sc E ws pl a h others w = alone around.looping around.handling k E e ws a h others w
      good_act around k span (node.Assign target e) sc E ws pl a h others w =
          good_assign C m locals init result around.looping around.handling k span target e sc (and_left (are_targets (leaves target)) (law.is_written e) ws) (and_right (are_targets (leaves target)) (law.is_written e) ws) E a h others w
      good_act around k span (node.Annot target mark e) sc E ws pl a h others w = good_annotated C m locals init result around.looping around.handling k span (name_in target) target mark e refl sc ws E a h others w
      good_act around k span (node.Aug target op e) sc E ws pl a h others w =
          good_update C m locals init result around.looping around.handling k span target op e (and_left (law.is_written target) (law.is_written e) ws) (and_right (law.is_written target) (law.is_written e) ws) E a h others w
      good_act around k span (node.Del e) sc E ws pl a h others w = deleted around.looping around.handling k E span e ws a h others w
      good_act around k span (node.Return e) sc E ws pl a h others w = good_return C m locals init result around.looping around.handling k span r is e ws E a h others w
      good_act around k span node.Pass sc E ws pl a h others w = passed around.looping around.handling k a (same_Some act.Pass a h) others w
      good_act around k span (node.Global names) sc E ws pl a h others w = passed around.looping around.handling k a (same_Some act.Pass a h) others w
      good_act around k span node.Break sc E ws pl a h others w = jump r around.looping around.handling k span _ act.Break a (λ t o. t) (λ q. q) (λ o. refl) h others w
      good_act around k span node.Continue sc E ws pl a h others w = jump r around.looping around.handling k span _ act.Continue a (λ t o. t) (λ q. q) (λ o. refl) h others w
      good_act around k span (node.If arms other) sc E ws pl a h others w =
          let way = arms_after here (setting_out k) arms in
          let s = branches here r around (setting_out k) arms in
          let t = block here r around way.at other in
          let q = made_given (λ p. act.If (arms_of p.0) (suite_of p.1)) (both s t) a h in
          let b = both_given s t q.0 q.1 in
          let wr = of_three (has_test arms) (are_arms_written arms) (is_suite_written other) ws in
          let end = block_after here way.at other in
          let scw = scope_on here k.types way.at.types (follows_arms here (setting_out k) arms) sc in
          let shape = shape_block here r around way.at other q.0.1 b.1 in
          let last : (known : List ℕ) → Within way.at.names known → SuiteGood around.looping around.handling known end.names (suite_of q.0.1) =
          λ known wk. good_block around way.at other scw E wr.2 (λ z. none_behind (arms_definitions arms) (suite_definitions other) (pl z)) q.0.1 b.1 known wk in
          let all = good_arms around (setting_out k) arms sc (described_before here way.at.types end.types m locals init (follows_block here way.at other) E) wr.1 (λ z. none_before (arms_definitions arms) (suite_definitions other) (pl z)) q.0.0 b.0 others w
          (λ there. stmt.suite_typed m locals init result there around.looping around.handling (suite_of q.0.1)) (λ there ends. if telling.is_closed (suite_of q.0.1) then ends else or_shared ends (telling.after_suite one_takes there (suite_of q.0.1)))
          (common (met way.ends (flow.is_closed other) end.names)) None tt (λ known wk. (last known wk).typed)
          (λ known ends wk eo. all_ends (met way.ends (flow.is_closed other) end.names) (if telling.is_closed (suite_of q.0.1) then ends else or_shared ends (telling.after_suite one_takes known (suite_of q.0.1)))
          (closed_end way.ends ends (flow.is_closed other) (telling.is_closed (suite_of q.0.1)) end.names (telling.after_suite one_takes known (suite_of q.0.1)) shape.closed eo (last known wk).names)) in
          subst (Fine around.looping around.handling others (common (met way.ends (flow.is_closed other) end.names))) q.2
          (record { typed = and_from (stmt.has_arm m locals init result (arms_of q.0.0)) (stmt.arms_typed m locals init result others around.looping around.handling (arms_of q.0.0) (λ there. stmt.suite_typed m locals init result there around.looping around.handling (suite_of q.0.1))) (arms_there r around (setting_out k) arms wr.0 q.0.0 b.0) all.0; names = all.1 })
      good_act around k span (node.While e body) sc E ws pl a h others w =
          let here_stmt = node.at (node.While e body) span in
          let l = entering here k here_stmt in
          let inner = where_test here l true e in
          let s = condition here l e in
          let t = block here r (around_loop around) inner body in
          let q = made_given (λ p. act.While p.0 (suite_of p.1)) (both s t) a h in
          let b = both_given s t q.0 q.1 in
          let wr = of_three (law.is_written e) (is_filled body) (is_suite_written body) ws in
          let end = block_after here inner body in
          let shape = shape_block here r (around_loop around) inner body q.0.1 b.1 in
          let D = described_before here k.types end.types m locals init (follows_block here inner body) E in
          let left = without (telling.bound_suite (suite_of q.0.1)) others in
          let wl = within_without (locals_in here here_stmt) (telling.bound_suite (suite_of q.0.1)) k.names others shape.bound w in
          let st = test_stands l D e wr.0 q.0.0 b.0 left wl in
          let g = good_block (around_loop around) inner body sc E wr.2 pl q.0.1 b.1 (telling.facts true q.0.0 ++ left) (st.tells true) in
          subst (Fine around.looping around.handling others (node_after here k span (node.While e body)).names) q.2 (record {
            typed = three (stmt.is_test m locals init result left q.0.0) (stmt.is_body m locals init result (suite_of q.0.1)) (stmt.suite_typed m locals init result (telling.facts true q.0.0 ++ left) true around.handling (suite_of q.0.1)) st.stands (body_there r (around_loop around) inner body wr.1 pl q.0.1 b.1) g.typed;
            names = left_or (flow.breaks_suite body) (telling.breaks_suite (suite_of q.0.1)) l.names (where_test here l false e).names left (telling.facts false q.0.0 ++ left) shape.breaks wl (st.tells false);
          })
      good_act around k span (node.For target e body) sc E ws pl a h others w =
          let here_stmt = node.at (node.For target e body) span in
          let s = for_head here k here_stmt span target e in
          let l = in_for here k here_stmt span target e in
          let t = block here r (around_loop around) l body in
          let q = made_given (λ p. loop_of p.0.0 p.0.1 (suite_of p.1)) (both s t) a h in
          let b = both_given s t q.0 q.1 in
          let wr = of_three (law.is_written e) (is_filled body) (is_suite_written body) ws in
          let end = block_after here l body in
          let hp = head_parts here k here_stmt span target e q.0.0 b.0 in
          let looked = head_looked here k here_stmt target e q.0.0 hp in
          let shape = shape_block here r (around_loop around) l body q.0.1 b.1 in
          let fh = follows_target here (is_some s.got) (entering here k here_stmt) target (some_items (course here k e).got) in
          let El = described_before here l.types end.types m locals init (follows_block here l body) E in
          let D = described_before here k.types l.types m locals init fh El in
          let ts = suite_of q.0.1 in
          let gone = bound_by_all q.0.0.0 ++ telling.bound_suite ts in
          let bound : Within gone (locals_in here here_stmt) =
          subst (Within gone) (sym (locals_two here (target_bindings target) (suite_bindings body)))
          (within_append (bound_by_all q.0.0.0) (telling.bound_suite ts) (locals_among here (target_bindings target)) (locals_among here (suite_bindings body)) (subst (λ z. Within (bound_by_all z) (locals_among here (target_bindings target))) hp.targets (targets_within here (entering here k here_stmt) target hp.aims looked.parts looked.aims)) shape.bound) in
          let wl = within_without (locals_in here here_stmt) gone k.names others bound w in
          let hd = good_head C m locals init result k D sc here_stmt span target e wr.0 q.0.0 b.0 hp El ts others wl in
          let g = good_block (around_loop around) l body (scope_on here k.types l.types fh sc) E wr.2 pl q.0.1 b.1 (stmt.in_loop_from m locals init result others q.0.0.0 hp.headed.item ts) hd.start in
          let c = course_stands C m locals init result k D e wr.0 hp.course hp.over others w in
          subst (Fine around.looping around.handling others (node_after here k span (node.For target e body)).names) q.2
          (subst (λ z. Fine around.looping around.handling others (node_after here k span (node.For target e body)).names (loop_of q.0.0.0 z ts)) hp.is (record {
            typed = loop_typed C m locals init result around.looping around.handling others q.0.0.0 hp.course hp.headed.item ts c hp.headed.items hd.fit (body_there r (around_loop around) l body wr.1 pl q.0.1 b.1) g.typed;
            names = subst (Within (entering here k here_stmt).names) (sym (loop_after C m locals init result others q.0.0.0 hp.course ts)) wl;
          }))
      good_act around k span (node.Raise e) sc E ws pl a h others w = good_raise C m locals init result around.looping around.handling k E e ws a (raise_given here around.handling k span e a h) others w
      good_act around k span (node.Assert e text) sc E ws pl a h others w = good_assert around.looping around.handling k E span e text (and_left (law.is_written e) (maybe_written text) ws) (and_right (law.is_written e) (maybe_written text) ws) a h others w
      good_act around k span (node.Try body handlers last) sc E ws pl a h others w =
          let here_stmt = node.at (node.Try body handlers last) span in
          let names = outside_try here k here_stmt in
          let l = block_after here k body in
          let n = handlers_after here names l handlers in
          let z = last_after here names n last in
          let s = block here r around k body in
          let t = clauses here r around names l handlers in
          let u = maybe_block here r around names n last in
          let q = made_given try_of (both (both s t) u) a h in
          let b = both_given (both s t) u q.0 q.1 in
          let d = both_given s t q.0.0 b.0 in
          let wr = of_five (has_clause handlers last) (is_filled body) (is_suite_written body) (are_handlers_written handlers) (is_last_written last) ws in
          let shape = shape_act here r around k span (node.Try body handlers last) a h in
          let ts = suite_of q.0.0.0 in
          let hs = act.handlers_of q.0.0.1 in
          let rest = act.maybe_suite (option_map suite_of q.0.1) in
          let gone = telling.bound_suite ts ++ telling.bound_handlers hs ++ telling.bound_last rest in
          let bound : Within gone (locals_in here here_stmt) = subst (λ x. Within (telling.bound_in x) (locals_in here here_stmt)) (sym q.2) shape.bound in
          let left = without gone others in
          let wl = within_without (locals_in here here_stmt) gone k.names others bound w in
          let fb = follows_block here k body in
          let fc = follows_clauses here names l handlers in
          let fl = follows_last here names n last in
          let En = described_before here n.types z.types m locals init fl E in
          let El = described_before here l.types n.types m locals init fc En in
          let scl = scope_on here k.types l.types fb sc in
          let scn = scope_on here l.types n.types fc scl in
          let pb : Plain body = λ y. none_before (suite_definitions body) (handlers_definitions handlers ++ last_definitions last) (pl y) in
          let po : is_some result ≡ true → handlers_definitions handlers ++ last_definitions last ≡ [] = λ y. none_behind (suite_definitions body) (handlers_definitions handlers ++ last_definitions last) (pl y) in
          let g = good_block around k body sc El wr.2 pb q.0.0.0 d.0 others w in
          subst (Fine around.looping around.handling others names) q.2 (record {
            typed = five (stmt.has_part m locals init result hs rest) (stmt.is_body m locals init result ts) (stmt.suite_typed m locals init result others around.looping around.handling ts) (stmt.handlers_typed m locals init result left around.looping hs) (stmt.last_typed m locals init result left around.looping around.handling rest)
                (part_there r around names l handlers n last wr.0 q.0.0.1 q.0.1 d.1 b.1) (body_there r around k body wr.1 pb q.0.0.0 d.0) g.typed
                (good_clauses around names l handlers scl En wr.3 (λ y. none_before (handlers_definitions handlers) (last_definitions last) (po y)) q.0.0.1 d.1 left wl)
                (good_last around names n last scn E wr.4 (λ y. none_behind (handlers_definitions handlers) (last_definitions last) (po y)) q.0.1 b.1 left wl);
            names = wl;
          })
      good_act around k span _ sc E ws pl a h others w = absurd (cc)

      -- STATEMENTS in a row
      pub good_block : (around : Around) (k : Known) (body : Suite) → IsScope here k.types → Describes here (block_after here k body).types m locals init → is_suite_written body ≡ true → Plain body → (ts : List TypedStmt) → (block here r around k body).got ≡ Some ts → (others : List ℕ) → Within k.names others
          → SuiteGood around.looping around.handling others (block_after here k body).names (suite_of ts)
      good_block around k no_stmts sc E ws pl ts h others w = subst (λ l. SuiteGood around.looping around.handling others k.names (suite_of l)) (same_Some [] ts h) (record { typed = refl; names = w })
      good_block around k (stmt_then s more) sc E ws pl ts h others w =
          let l = after here k s in
          let el = described_before here l.types (block_after here l more).types m locals init (follows_block here l more) E in
          let wm = and_right (is_stmt_written s) (is_suite_written more) ws in
          let pm : Plain more = λ z. none_behind (stmt_definitions s) (suite_definitions more) (pl z) in
          suite_step r around k s more ts others (is_definition s) refl
          (λ same g. good_block around k more sc (subst (λ (z : Known). Describes here (block_after here z more).types m locals init) same E) wm pm ts g others w)
          (λ t g. good_stmt around k s sc el (and_left (is_stmt_written s) (is_suite_written more) ws) (λ z. none_before (stmt_definitions s) (suite_definitions more) (pl z)) t g others w)
          (λ x g known wk. good_block around l more (scope_on here k.types l.types (follows_stmt here k s) sc) E wm pm x g known wk) h

      good_arms : (around : Around) (w : Way) (arms : Arms) → IsScope here w.at.types → Describes here (arms_after here w arms).at.types m locals init → are_arms_written arms ≡ true → PlainArms arms → (l : List (TypedExpr × TypedSuite)) → (branches here r around w arms).got ≡ Some l → (others : List ℕ) → Within w.at.names others
          → (other : List ℕ → Bool) (last : List ℕ → Option (List ℕ) → Option (List ℕ)) (final : List ℕ) (ends : Option (List ℕ)) → EndsOf w.ends ends → ((known : List ℕ) → Within (arms_after here w arms).at.names known → other known ≡ true)
          → ((known : List ℕ) (es : Option (List ℕ)) → Within (arms_after here w arms).at.names known → EndsOf (arms_after here w arms).ends es → Within final (known_at_end (last known es)))
          → (stmt.arms_typed m locals init result others around.looping around.handling (arms_of l) other ≡ true) × Within final (known_at_end (telling.after_arms one_takes others ends (arms_of l) last))
      good_arms around w no_arms sc E wa pa l h others wi other last final ends eo typed next =
          subst (λ z. (stmt.arms_typed m locals init result others around.looping around.handling (arms_of z) other ≡ true) × Within final (known_at_end (telling.after_arms one_takes others ends (arms_of z) last))) (same_Some [] l h) (typed others wi, next others ends wi eo)
      good_arms around w (arm_then e body more) sc E wa pa l h others wi other last final ends eo typed next =
          let s = condition here w.at e in
          let inner = where_test here w.at true e in
          let t = block here r around inner body in
          let end = block_after here inner body in
          let then_on = behind_arm here w e (flow.is_closed body) end in
          let one : Seen (TypedExpr × TypedSuite) = made (λ p. (p.0, suite_of p.1)) (both s t) in
          let q = row_given one (branches here r around then_on more) l h in
          let v = made_given (λ p. (p.0, suite_of p.1)) (both s t) q.0 q.2 in
          let b = both_given s t v.0 v.1 in
          let wr = of_four (law.is_written e) (is_filled body) (is_suite_written body) (are_arms_written more) wa in
          let fr = follows_arms here then_on more in
          let Ee = described_before here end.types (arms_after here then_on more).at.types m locals init fr E in
          let fb = follows_block here inner body in
          let st = test_stands w.at (described_before here w.at.types end.types m locals init fb Ee) e wr.0 v.0.0 b.0 others wi in
          let pb : Plain body = λ z. none_before (suite_definitions body) (arms_definitions more) (pa z) in
          let g = good_block around inner body sc Ee wr.2 pb v.0.1 b.1 (telling.facts true v.0.0 ++ others) (st.tells true) in
          let shape = shape_block here r around inner body v.0.1 b.1 in
          let ts = suite_of v.0.1 in
          let rest = good_arms around then_on more (scope_on here w.at.types end.types fb sc) E wr.3 (λ z. none_behind (suite_definitions body) (arms_definitions more) (pa z)) q.1 q.3 (telling.facts false v.0.0 ++ others) (st.tells false) other last final
          (if telling.is_closed ts then ends else or_shared ends (telling.after_suite one_takes (telling.facts true v.0.0 ++ others) ts))
          (closed_end w.ends ends (flow.is_closed body) (telling.is_closed ts) end.names (telling.after_suite one_takes (telling.facts true v.0.0 ++ others) ts) shape.closed eo g.names) typed next in
          subst (λ z. (stmt.arms_typed m locals init result others around.looping around.handling (arms_of z) other ≡ true) × Within final (known_at_end (telling.after_arms one_takes others ends (arms_of z) last))) q.4
          (subst (λ (z : TypedExpr × TypedSuite). (stmt.arms_typed m locals init result others around.looping around.handling (arms_of (z ∷ q.1)) other ≡ true) × Within final (known_at_end (telling.after_arms one_takes others ends (arms_of (z ∷ q.1)) last))) v.2 (
            four (stmt.is_test m locals init result others v.0.0) (stmt.is_body m locals init result ts) (stmt.suite_typed m locals init result (telling.facts true v.0.0 ++ others) around.looping around.handling ts) (stmt.arms_typed m locals init result (telling.facts false v.0.0 ++ others) around.looping around.handling (arms_of q.1) other)
                st.stands (body_there r around inner body wr.1 pb v.0.1 b.1) g.typed rest.0,
            rest.1,
          ))

      -- except clauses that begin with these names each
      good_clauses : (around : Around) (names : List ℕ) (k : Known) (handlers : Handlers) → IsScope here k.types → Describes here (handlers_after here names k handlers).types m locals init → are_handlers_written handlers ≡ true → (is_some result ≡ true → handlers_definitions handlers ≡ []) → (l : List HandlerParts) → (clauses here r around names k handlers).got ≡ Some l → (others : List ℕ) → Within names others
          → stmt.handlers_typed m locals init result others around.looping (act.handlers_of l) ≡ true
      good_clauses around names k no_handlers sc E ws ph l h others w = subst (λ z. stmt.handlers_typed m locals init result others around.looping (act.handlers_of z) ≡ true) (same_Some [] l h) refl
      good_clauses around names k (handler_then e x body span more) sc E ws ph l h others w =
          let place = with_names k names in
          let begun = in_handler here place span e x (is_last more) in
          let end = block_after here begun body in
          let s = handler_head here place span e x (is_last more) in
          let t = block here r (around_clause around) begun body in
          let q = row_given (made clause_of (both s t)) (clauses here r around names end more) l h in
          let v = made_given clause_of (both s t) q.0 q.2 in
          let b = both_given s t v.0 v.1 in
          let wr = of_three (is_filled body) (is_suite_written body) (are_handlers_written more) ws in
          let fh = follows_name here (is_some s.got) place x (Some (sort.Exc Exception)) in
          let fb = follows_block here begun body in
          let Ee = described_before here end.types (handlers_after here names end more).types m locals init (follows_clauses here names end more) E in
          let Eb = described_before here begun.types end.types m locals init fb Ee in
          let scb = scope_on here k.types begun.types fh sc in
          let hd = clause.good_head C m locals init result place sc span e x (is_last more) v.0.0 b.0 Eb others w in
          let pb : Plain body = λ y. none_before (suite_definitions body) (handlers_definitions more) (ph y) in
          let ts = suite_of v.0.1 in
          let known = telling.bound_by_name v.0.0.1 ++ others in
          let g = good_block (around_clause around) begun body scb Ee wr.1 pb v.0.1 b.1 known hd.1.start in
          let rest = good_clauses around names end more (scope_on here begun.types end.types fb scb) E wr.2 (λ y. none_behind (suite_definitions body) (handlers_definitions more) (ph y)) q.1 q.3 others w in
          subst (λ z. stmt.handlers_typed m locals init result others around.looping (act.handlers_of z) ≡ true) q.4 (subst (λ (z : HandlerParts). stmt.handlers_typed m locals init result others around.looping (act.handlers_of (z ∷ q.1)) ≡ true) v.2
          (five (stmt.is_filled m locals init result v.0.0.0) (stmt.name_fits m locals init result v.0.0.1) (stmt.is_body m locals init result ts) (stmt.suite_typed m locals init result known around.looping true ts) (stmt.handlers_typed m locals init result others around.looping (act.handlers_of q.1))
          hd.0 hd.1.right (body_there r (around_clause around) begun body wr.0 pb v.0.1 b.1) g.typed rest))

      good_last : (around : Around) (names : List ℕ) (k : Known) (last : MaybeSuite) → IsScope here k.types → Describes here (last_after here names k last).types m locals init → is_last_written last ≡ true → (is_some result ≡ true → last_definitions last ≡ []) → (o : Option (List TypedStmt)) → (maybe_block here r around names k last).got ≡ Some o → (others : List ℕ) → Within names others
          → stmt.last_typed m locals init result others around.looping around.handling (act.maybe_suite (option_map suite_of o)) ≡ true
      good_last around names k no_suite sc E ws pl o h others w = subst (λ z. stmt.last_typed m locals init result others around.looping around.handling (act.maybe_suite (option_map suite_of z)) ≡ true) (same_Some None o h) refl
      good_last around names k (some_suite body) sc E ws pl o h others w =
          let begun = with_names k names in
          let q = made_given present (block here r around begun body) o h in
          let g = good_block around begun body sc E (and_right (is_filled body) (is_suite_written body) ws) pl q.0 q.1 others w in
          subst (λ z. stmt.last_typed m locals init result others around.looping around.handling (act.maybe_suite (option_map suite_of z)) ≡ true) q.2
          (and_from (stmt.is_body m locals init result (suite_of q.0)) (stmt.suite_typed m locals init result others around.looping around.handling (suite_of q.0)) (body_there r around begun body (and_left (is_filled body) (is_suite_written body) ws) pl q.0 q.1) g.typed)

-- for any context that has the classes of the module
pub stands_in : (C : Context) (r : ReturnSort) (around : Around) (k : Known) (body : Suite) (m : TypedModule) (locals : List Variable) (init : Option ℕ) (result : Option Sort) → IsScope C k.types → IsResult (length C.classes) r result → Describes C (block_after C k body).types m locals init
    → is_suite_written body ≡ true → (is_some result ≡ true → suite_definitions body ≡ []) → (ts : List TypedStmt) → (block C r around k body).got ≡ Some ts → (known : List ℕ) → Within k.names known
    → (stmt.suite_typed m locals init result known around.looping around.handling (suite_of ts) ≡ true) × Within (block_after C k body).names (telling.after_suite (stmt.is_single m locals init result) known (suite_of ts))
stands_in C r around k body m locals init result sc is D ws pl ts g known w =
    subst (λ e. IsScope (at_classes C e) k.types → IsResult (length e) r result → Describes (at_classes C e) (block_after (at_classes C e) k body).types m locals init → (block (at_classes C e) r around k body).got ≡ Some ts
    → (stmt.suite_typed m locals init result known around.looping around.handling (suite_of ts) ≡ true) × Within (block_after (at_classes C e) k body).names (telling.after_suite (stmt.is_single m locals init result) known (suite_of ts))) D.classes
    (λ sc is D g. let q = good_block C m locals init result r is around k body sc D ws pl ts g known w in (q.typed, q.names)) sc is D g
