-- What is said of a statement is at its own place, or of its parts: of each kind of statement.
use Rattle.std.proofs.Common.{◌≡◌, ℕ, Bool, true, false, List, [], ◌∷◌, ◌++◌, map, codes, Option, Some, None, Result, Ok, Err, refl, ap, sym, ◌∙◌, if◌then◌else◌, ◌⊎◌, inl, inr}
use Rattle.std.specs.Option.{option_map}
use Rattle.std.specs.Prelude.{is_some}
use Rattle.py_syntax.specs.declared.token.Span.{Span}
use Rattle.py_syntax.specs.declared.expression.BinOp.{BinOp}
use Rattle.py_syntax_diagnostics.specs.declared.diagnostic.Diag.{Diag}
use Rattle.py_syntax.specs.Expressions.{ExprTree}
use Rattle.py_syntax.specs.Statements as node
use Rattle.py_syntax.specs.Statements.{StmtNode, Suite}
use Rattle.py_typed.specs.Sorts as sort
use Rattle.py_typed.specs.Fits.{is_nothing, number_join}
use Rattle.py_typed.specs.Expressions as expr
use Rattle.py_typed.specs.Expressions.{TypedExpr, typed, type_of}
use Rattle.py_typed.specs.Statements as act
use Rattle.py_typed.specs.Statements.{TypedAct}
use Rattle.py_check_context.specs.Context as wanted
use Rattle.py_check_context.specs.Context.{Context, free}
use Rattle.py_check_flow.specs.Bindings.{name_in}
use Rattle.py_check_messages.specs.Seen.{Seen, Message, diag, is, fails, both, judged, ruled, rule}
use Rattle.py_check_messages.specs.Messages.{no_target, already_defined, unsupported_operands, return_outside, return_expected, outside_loop, no_exception, raise_outside}
use Rattle.py_check_annotations.specs.Annotations.{annotation}
use Rattle.py_check_coercions.specs.Values.{truth}
use Rattle.py_check_coercions.specs.Several.{with_part}
use Rattle.py_check_values.specs.Aims.{Aim}
use Rattle.py_check_values.specs.Returns as ret
use Rattle.py_check_values.specs.Returns.{ReturnSort, due, value_return, bare_return}
use Rattle.py_check_places.specs.Places.{Known, is_bound, entering}
use Rattle.py_check_places.specs.Shapes.{is_row, is_item, is_access, is_flat, bind_target}
use Rattle.py_check_targets.specs.Targets.{assigned, declared, given, declared_own, given_own, of_operation, updated, updated_lacking, name_aim, seen_aim, read_aim, typed_at, target_aims, aims_behind, targets_of}
use Rattle.py_check_assignments.specs.Assignments.{value_for, assigns, annotated_value, annotates_name, annotates_other, annotates_own, annotates_at, annotates, updates_row, updates_single, updates, asked_for, row_refused}
use Rattle.py_check_targets.specs.Attributes.{own_attribute, lacking_in, declares_at}
use Rattle.py_check_operators.specs.Operators.{op_text, is_concat, is_numeric}
use Rattle.py_check_loops.specs.Loops.{Course, course, head}
use Rattle.py_check_loops.specs.Heads.{some_items}
use Rattle.py_check_statements.specs.Deletions.{deletion}
use Rattle.py_check_exceptions.specs.declared.asked.Asked.{Asked}
use Rattle.py_check_exceptions.specs.declared.asked.Asked.TheVariants.{Class, Variable, Voiceless, Other}
use Rattle.py_check_exceptions.specs.Raises.{asked, raised, raised_again, asserted, asserted_test, raises_value, raises_named, raises_by, raises, asserts}
use Rattle.py_check_statements.specs.Bodies.{in_loop, around_loop, return_wanted, returns, node_statement, block}
use Rattle.py_check_statements.specs.declared.bodies.Around.{Around}
use Rattle.py_check_expressions.proofs.Quiet.{IsQuiet, quiet_both, quiet_made, quiet_typing}
use Rattle.py_check_expressions_laws.proofs.Faults.{fault_of, IsSame}
use Rattle.py_check_expressions_laws.proofs.Layers.{Layer, IsOwn, behind_layer, judged_own, rule_layer}
use Rattle.py_check_laws.specs.Entries.{is_for, is_declaring, declares_there}
use Rattle.py_check_laws.proofs.QuietParts.{quiet_annotation, quiet_seen, quiet_targets, quiet_behind_value, quiet_course}

-- ---- a `for`: its own entry in front of those of its body

abbrev InFront : (Span → List Diag) → Type 0
InFront said = (ms : List Message) × (parts : List Diag) × ((place : Span) → said place ≡ map (diag place) ms ++ parts)

module _ {A B : Type 0} (s : Seen A) (q : IsQuiet s) (f : A → Result A Message) (g : A → B) (body : Bool → List Diag) where
  abbrev judged_said : Result A Message → Span → List Diag
  judged_said r place = (s.said ++ (judged place r).said) ++ body (is_some (option_map g (judged place r).got))

  abbrev headed_said : Option A → Span → List Diag
  headed_said o place = (s.said ++ (ruled place f o).said) ++ body (is_some (option_map g (ruled place f o).got))

  judged_front : s.said ≡ [] → (r : Result A Message) → InFront (judged_said r)
  judged_front e (Ok a) = ([], (s.said ++ []) ++ body true, λ place. refl)
  judged_front e (Err m) = (m ∷ [], body false, λ place. ap (λ (l : List Diag). (l ++ diag place m ∷ []) ++ body false) e)

  headed_front : InFront (headed_said s.got)
  headed_front = by s.got refl
    where
      by : (o : Option A) → s.got ≡ o → InFront (headed_said o)
      by None e = ([], (s.said ++ []) ++ body false, λ place. refl)
      by (Some a) e = judged_front (q.says a e) (f a)

-- ---- what hangs on the place only by a test of it

-- at a place of which the test says this
abbrev OwnBy : (Span → Bool) → (Span → List Diag) → Type 0
OwnBy test said = (ms : Bool → List Message) × ((place : Span) → said place ≡ map (diag place) (ms (test place)))

abbrev LayerBy : (Span → Bool) → (Span → List Diag) → Type 0
LayerBy test said = OwnBy test said ⊎ ((place other : Span) → said place ≡ said other)

by_layer : (test : Span → Bool) (said : Span → List Diag) → Layer said → LayerBy test said
by_layer test said (inl r) = inl (λ b. r.0, r.1)
by_layer test said (inr r) = inr r

abbrev listed : Option Message → List Message
listed None = []
listed (Some m) = m ∷ []

-- a rule over parts, by what the test says of the place
tested_layer : {A B : Type 0} (test : Span → Bool) (f : Bool → A → Result B Message) (s : Seen A) → IsQuiet s → LayerBy test (λ place. (rule place (f (test place)) s).said)
tested_layer {A} {B} test f s q = by s.got refl
  where
    said : (place : Span) (r : Result B Message) → (judged place r).said ≡ map (diag place) (listed (fault_of r))
    said place (Ok a) = refl
    said place (Err m) = refl

    by : (o : Option A) → s.got ≡ o → LayerBy test (λ place. (rule place (f (test place)) s).said)
    by None e = inr (λ place other. ap (λ o. s.said ++ (ruled place (f (test place)) o).said) e ∙ sym (ap (λ o. s.said ++ (ruled other (f (test other)) o).said) e))
    by (Some a) e =
        inl (λ b. listed (fault_of (f b a)), λ place. ap (λ l. l ++ (ruled place (f (test place)) s.got).said) (q.says a e) ∙ ap (λ o. (ruled place (f (test place)) o).said) e ∙ said place (f (test place) a))

-- ---- the other statements

abbrev nothing : Seen (Unit {0})
nothing = is tt

module _ (C : Context) where
  assign_layer : (k : Known) (target e : ExprTree) → Layer (λ place. (assigns C k place target e).said)
  assign_layer k target e =
      let value = value_for C k target e in
      let targets = aims_behind C k target (option_map type_of value.got) in
      rule_layer (λ place. assigned C.classes target (asked_for C k target)) (both targets value) (quiet_both targets value (quiet_behind_value C k target (option_map type_of value.got)) (quiet_typing C k.types _ k.names e)) (λ p place other. refl)

  -- a part that is typed, and then the one entry
  refused_layer : {A : Type 0} (m : Message) (s : Seen A) → IsQuiet s → Layer (λ place. s.said ++ (with_part {A = A} {B = TypedAct} s.got (λ q. fails place m)).said)
  refused_layer {A} m s q = behind_layer s q (λ place o. (with_part {A = A} {B = TypedAct} o (λ q. fails place m)).said) (λ place other. refl) (λ a. inl (m ∷ [], λ place. refl))

  named_layer : (k : Known) (x : List ℕ) (target mark : ExprTree) (e : Option ExprTree) → Layer (λ place. (annotates_name C k place x mark e).said)
  named_layer k x target mark None =
      let parts = both (seen_aim (name_aim k x (C.meaning x))) (annotation C.meaning mark) in
      rule_layer (λ place. declared x (is_bound k (C.meaning x))) parts (quiet_both (seen_aim (name_aim k x (C.meaning x))) (annotation C.meaning mark) (quiet_seen (name_aim k x (C.meaning x))) (quiet_annotation C.meaning mark)) (λ p place other. refl)
  named_layer k x target mark (Some e) =
      let front = both (seen_aim (name_aim k x (C.meaning x))) (annotation C.meaning mark) in
      rule_layer (λ place. given C.classes x (is_bound k (C.meaning x))) (both front (annotated_value C k x e))
      (quiet_both front (annotated_value C k x e) (quiet_both (seen_aim (name_aim k x (C.meaning x))) (annotation C.meaning mark) (quiet_seen (name_aim k x (C.meaning x))) (quiet_annotation C.meaning mark)) (quiet_typing C k.types _ k.names e)) (λ p place other. refl)

  other_layer : (k : Known) (target mark : ExprTree) (e : Option ExprTree) → Layer (λ place. (annotates_other C k place target mark e).said)
  other_layer k target mark None =
      let parts = both (target_aims C k target) (annotation C.meaning mark) in
      refused_layer no_target parts (quiet_both (target_aims C k target) (annotation C.meaning mark) (quiet_targets C k target) (quiet_annotation C.meaning mark))
  other_layer k target mark (Some e) =
      let value = value_for C k target e in
      let targets = aims_behind C k target (option_map type_of value.got) in
      let front = both targets (annotation C.meaning mark) in
      refused_layer no_target (both front value)
      (quiet_both front value (quiet_both targets (annotation C.meaning mark) (quiet_behind_value C k target (option_map type_of value.got)) (quiet_annotation C.meaning mark)) (quiet_typing C k.types _ k.names e))

  -- what is wrong with the annotation of an attribute, where the statement declares it or not
  abbrev fault_by : List ℕ → Bool → Option Message
  fault_by a declares = if declares then None else Some (already_defined a)

  own_layer : (k : Known) (a : List ℕ) (target mark : ExprTree) (e : Option ExprTree) → LayerBy (declares_at C.inside a) (λ place. (annotates_own C k place a target mark e).said)
  own_layer k a target mark None =
      let parts = both (target_aims C k target) (annotation C.meaning mark) in
      tested_layer (declares_at C.inside a) (λ declares. declared_own (fault_by a declares)) parts (quiet_both (target_aims C k target) (annotation C.meaning mark) (quiet_targets C k target) (quiet_annotation C.meaning mark))
  own_layer k a target mark (Some e) =
      let front = both (target_aims C k target) (annotation C.meaning mark) in
      tested_layer (declares_at C.inside a) (λ declares. given_own C.classes target (fault_by a declares)) (both front (value_for C k target e))
      (quiet_both front (value_for C k target e) (quiet_both (target_aims C k target) (annotation C.meaning mark) (quiet_targets C k target) (quiet_annotation C.meaning mark)) (quiet_typing C k.types _ k.names e))

  at_layer : (k : Known) (o : Option (ExprTree × List ℕ)) (target mark : ExprTree) (e : Option ExprTree) → LayerBy (is_declaring C.inside o) (λ place. (annotates_at C k place o target mark e).said)
  at_layer k None target mark e = by_layer (is_declaring C.inside None) (λ place. (annotates_other C k place target mark e).said) (other_layer k target mark e)
  at_layer k (Some p) target mark e = own_layer k p.1 target mark e

  annotated_layer : (k : Known) (x : Option (List ℕ)) (target mark : ExprTree) (e : Option ExprTree) → LayerBy (is_declaring C.inside (own_attribute C.inside target)) (λ place. (annotates C k place x target mark e).said)
  annotated_layer k (Some x) target mark e = by_layer (is_declaring C.inside (own_attribute C.inside target)) (λ place. (annotates_name C k place x mark e).said) (named_layer k x target mark e)
  annotated_layer k None target mark e = at_layer k (own_attribute C.inside target) target mark e

  -- an operation is of one type wherever it stands, and so is what is wrong with it
  same_updated : (op : BinOp) (aim : TypedExpr → Aim) (p : TypedExpr × TypedExpr) → IsSame (λ place. updated C.classes place op aim p)
  same_updated op aim p = by (is_concat op (type_of p.0) (type_of p.1)) (is_numeric op (type_of p.0) (type_of p.1))
    where
      by : (b d : Bool)
          → IsSame (λ place. of_operation C.classes (aim p.0) op p.1 (if b then Ok (typed (expr.Concat p.0 p.1) sort.Str place) else (if d then Ok (typed (expr.Arith op p.0 p.1) (number_join (type_of p.0) (type_of p.1)) place) else Err (unsupported_operands C.classes (op_text op) (type_of p.0) (type_of p.1)))))
      by true d = λ place other. refl
      by false true = λ place other. refl
      by false false = λ place other. refl

  update_layer : (k : Known) (target : ExprTree) (op : BinOp) (e : ExprTree) → Layer (λ place. (updates C k place target op e).said)
  update_layer k target op e = by (is_row target) (lacking_in C target)
    where
      by : (b : Bool) (o : Option (ExprTree × List ℕ)) → Layer (λ place. (if b then updates_row C k place target e else updates_single C k place o target op e).said)
      by true o =
          rule_layer (λ place. row_refused C.classes) (both (aims_behind C k target None) (typed_at C k free e))
          (quiet_both (aims_behind C k target None) (typed_at C k free e) (quiet_behind_value C k target None) (quiet_typing C k.types free k.names e)) (λ p place other. refl)
      by false None =
          rule_layer (λ place. updated C.classes place op (read_aim C k (name_in target) (is_access target))) (both (typed_at C k free target) (typed_at C k free e))
          (quiet_both (typed_at C k free target) (typed_at C k free e) (quiet_typing C k.types free k.names target) (quiet_typing C k.types free k.names e)) (same_updated op (read_aim C k (name_in target) (is_access target)))
      by false (Some p) =
          rule_layer (λ place. updated_lacking C.classes p.1) (both (typed_at C k free p.0) (typed_at C k free e))
          (quiet_both (typed_at C k free p.0) (typed_at C k free e) (quiet_typing C k.types free k.names p.0) (quiet_typing C k.types free k.names e)) (λ q place other. refl)

  bare_own : (r : ReturnSort) → IsOwn (λ place. (bare_return place r).said)
  bare_own ret.outside = (return_outside ∷ [], λ place. refl)
  bare_own ret.untyped = ([], λ place. refl)
  bare_own (ret.gives t) = by (is_nothing t)
    where
      by : (b : Bool) → IsOwn (λ place. (if b then nothing else fails place return_expected).said)
      by true = ([], λ place. refl)
      by false = (return_expected ∷ [], λ place. refl)

  value_own : (r : ReturnSort) (v : TypedExpr) → IsOwn (λ place. (value_return C.classes place r v).said)
  value_own ret.outside v = (return_outside ∷ [], λ place. refl)
  value_own ret.untyped v = ([], λ place. refl)
  value_own (ret.gives t) v = judged_own (λ place. due C.classes t v) (λ place other. refl)

  return_layer : (r : ReturnSort) (k : Known) (e : Option ExprTree) → Layer (λ place. (returns C r k place e).said)
  return_layer r k None = inl (bare_own r)
  return_layer r k (Some e) =
      behind_layer (typed_at C k (return_wanted r) e) (quiet_typing C k.types (return_wanted r) k.names e) (λ place o. (with_part o (value_return C.classes place r)).said) (λ place other. refl) (λ v. inl (value_own r v))

  jump_own : (looping : Bool) (word : List ℕ) (a : TypedAct) → IsOwn (λ place. (in_loop looping place word a).said)
  jump_own true word a = ([], λ place. refl)
  jump_own false word a = (outside_loop word ∷ [], λ place. refl)

  again_own : (handling : Bool) → IsOwn (λ place. (raised_again handling place).said)
  again_own true = ([], λ place. refl)
  again_own false = (raise_outside ∷ [], λ place. refl)

  value_layer : (k : Known) (e : ExprTree) → Layer (λ place. (raises_value C k place e).said)
  value_layer k e = rule_layer (λ place. raised) (typed_at C k free e) (quiet_typing C k.types free k.names e) (λ v place other. refl)

  raised_named : (k : Known) (e : ExprTree) (a : Asked) → Layer (λ place. (raises_named C k place e a).said)
  raised_named k e (Class x) = inr (λ place other. refl)
  raised_named k e Variable = value_layer k e
  raised_named k e Voiceless = inr (λ place other. refl)
  raised_named k e Other = inl (no_exception ∷ [], λ place. refl)

  raised_layer : (k : Known) (e : ExprTree) (x : Option (List ℕ)) → Layer (λ place. (raises_by C k place e x).said)
  raised_layer k e None = value_layer k e
  raised_layer k e (Some x) = raised_named k e (asked (C.meaning x))

  raise_layer : (handling : Bool) (k : Known) (e : Option ExprTree) → Layer (λ place. (raises C handling k place e).said)
  raise_layer handling k None = inl (again_own handling)
  raise_layer handling k (Some e) = raised_layer k e (name_in e)

  assert_layer : (k : Known) (e : ExprTree) (text : Option ExprTree) → Layer (λ place. (asserts C k place e text).said)
  assert_layer k e None = inr (λ place other. refl)
  assert_layer k e (Some text) =
      let test = asserted_test C k e in
      let t = typed_at C k free text in
      rule_layer (λ place. asserted C.classes) (both test t) (quiet_both test t (quiet_made truth (typed_at C k wanted.test e) (quiet_typing C k.types wanted.test k.names e)) (quiet_typing C k.types free k.names text)) (λ p place other. refl)

  module _ (r : ReturnSort) where
    loop_front : (around : Around) (k : Known) (target e : ExprTree) (body : Suite) → InFront (λ place. (node_statement C r around k place (node.For target e body)).said)
    loop_front around k target e body =
        let over = course C k e in
        let entered = entering C k (node.at (node.For target e body) there) in
        let targets = aims_behind C entered target (some_items over.got) in
        headed_front (both targets over) (quiet_both targets over (quiet_behind_value C entered target (some_items over.got)) (quiet_course C k e)) (head C.classes (is_flat target) (is_row target)) (λ (p : List Aim × Course). (targets_of p.0, p.1))
        (λ ok. (block C r (around_loop around) (bind_target C ok entered target (some_items over.got)) body).said)
      where
        there : Span
        there = record { line = 0; col = 0 }

    abbrev LayerOf : (Around → Known → StmtNode → Type 0)
    LayerOf around k n = LayerBy (declares_there C n) (λ place. (node_statement C r around k place n).said) ⊎ ((is_for n ≡ true) × InFront (λ place. (node_statement C r around k place n).said))

    plain : (around : Around) (k : Known) (n : StmtNode) → Layer (λ place. (node_statement C r around k place n).said) → LayerOf around k n
    plain around k n l = inl (by_layer (declares_there C n) (λ place. (node_statement C r around k place n).said) l)

    pub statement_layer : (around : Around) (k : Known) (n : StmtNode) → LayerBy (declares_there C n) (λ place. (node_statement C r around k place n).said) ⊎ ((is_for n ≡ true) × InFront (λ place. (node_statement C r around k place n).said))
    statement_layer around k (node.Do e) = inl (inr (λ place other. refl))
    statement_layer around k (node.Assign target e) = plain around k (node.Assign target e) (assign_layer k target e)
    statement_layer around k (node.Annot target mark e) = inl (annotated_layer k (name_in target) target mark e)
    statement_layer around k (node.Aug target op e) = plain around k (node.Aug target op e) (update_layer k target op e)
    statement_layer around k (node.Return e) = plain around k (node.Return e) (return_layer r k e)
    statement_layer around k node.Pass = inl (inr (λ place other. refl))
    statement_layer around k (node.Global names) = inl (inr (λ place other. refl))
    statement_layer around k node.Break = plain around k node.Break (inl (jump_own around.looping (codes "break") act.Break))
    statement_layer around k node.Continue = plain around k node.Continue (inl (jump_own around.looping (codes "continue") act.Continue))
    statement_layer around k (node.If arms other) = inl (inr (λ place next. refl))
    statement_layer around k (node.While e body) = inl (inr (λ place other. refl))
    statement_layer around k (node.For target e body) = inr (refl, loop_front around k target e body)
    statement_layer around k (node.Raise e) = plain around k (node.Raise e) (raise_layer around.handling k e)
    statement_layer around k (node.Assert e text) = plain around k (node.Assert e text) (assert_layer k e text)
    statement_layer around k (node.Try body handlers last) = inl (inr (λ place other. refl))
    statement_layer around k (node.Del e) = plain around k (node.Del e) (rule_layer (λ place. deletion (is_item e)) (typed_at C k free e) (quiet_typing C k.types free k.names e) (λ v place other. refl))
    statement_layer around k (node.Import m other) = inl (inr (λ place next. refl))
    statement_layer around k (node.From m names) = inl (inr (λ place other. refl))
    statement_layer around k (node.Def f params result body marks) = inl (inr (λ place other. refl))
    statement_layer around k (node.ClassDef x bases body marks) = inl (inr (λ place other. refl))
