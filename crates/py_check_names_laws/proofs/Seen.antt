-- What is seen of names in a tree that passes.
use Rattle.std.proofs.Common.{◌≡◌, ℕ, Bool, true, false, List, [], ◌∷◌, ◌++◌, Option, Some, None, refl}
use Rattle.std.specs.List.{AllByRecursion}
use Rattle.py_syntax.specs.declared.token.Span.{Span}
use Rattle.py_syntax.specs.Expressions as e
use Rattle.py_syntax.specs.Expressions.{ExprTree, ExprNode, ExprTrees, Comparisons, Entries, Arguments}
use Rattle.py_syntax.specs.Statements as s
use Rattle.py_syntax.specs.Statements.{StmtTree, StmtNode, Suite, Arms, Handlers, MaybeSuite, FuncTree, ClassTree}
use Rattle.py_lexer_words.specs.Words.{name_in_quotes}
use Rattle.py_binder.specs.declared.sight.Manner.{Manner}
use Rattle.py_binder.specs.declared.sight.Manner.TheVariants.{Value, Annotation}
use Rattle.py_binder.specs.declared.sight.Home.{Home}
use Rattle.py_binder.specs.declared.sight.Home.TheVariants.{InModule, InFunction}
use Rattle.py_binder.specs.declared.scope.Role.TheVariants.{Function, Class}
use Rattle.py_binder.specs.Sights.{Use, Binds, Defines, Holds, Sight, sight, maybe_read, text_reads, reads, node_reads, exprs_reads, comparisons_reads, entries_reads, arguments_reads, maybe_reads, list_reads, target_sights, target_node_sights, targets_sights, aliases_sights, params_reads, header_sights, is_name, attribute_sights, member_sights, members_sights, def_sights, class_sights, import_sights, from_sights, caught_sights, stmt_sights, stmt_node_sights, suite_sights, arms_sights, handlers_sights, maybe_suite_sights}
use Rattle.py_binder.specs.Scope.{is_variable}
use Rattle.py_check_names.specs.Meanings.{is_own}
use Rattle.py_parser_laws.specs.Trees.{Tests, ExprPasses, NodePasses, ExprsPass, MaybeNamePasses, StmtPasses, ActPasses, SuitePasses, ArmsPass, HandlersPass, LastPasses, FunctionPasses}

module _ (tests : Tests) where
  -- a name that is bound passes, and so does a function; a definition makes a name no variable
  abbrev pub UsePasses : Use → Type 0
  UsePasses (Binds name) = tests.name name ≡ true
  UsePasses (Defines role name) = (is_variable role ≡ false) × (is_own role ≡ false)
  UsePasses (Holds f) = FunctionPasses tests f
  UsePasses _ = Unit {0}

  abbrev pub SightsPass : List Sight → Type 0
  SightsPass = AllByRecursion (λ x. UsePasses x.does)

  two : (a b : List Sight) → SightsPass a → SightsPass b → SightsPass (a ++ b)
  two [] b h k = k
  two (x ∷ a) b h k = (h.0, two a b h.1 k)

  -- ---- expressions that are read

  maybe_read_pass : (o : Option (List ℕ)) (span : Span) → SightsPass (maybe_read o span)
  maybe_read_pass None span = tt
  maybe_read_pass (Some name) span = (tt, tt)

  text_pass : (m : Manner) (text : List ℕ) (span : Span) → SightsPass (text_reads m text span)
  text_pass Value text span = tt
  text_pass Annotation text span = maybe_read_pass (name_in_quotes text) span

  mutual
    reads_pass : (m : Manner) (a : ExprTree) → SightsPass (reads m a)
    reads_pass m (e.at node span) = node_pass m node span

    node_pass : (m : Manner) (node : ExprNode) (span : Span) → SightsPass (node_reads m node span)
    node_pass m (e.Int n) span = tt
    node_pass m (e.Str text) span = text_pass m text span
    node_pass m e.True span = tt
    node_pass m e.False span = tt
    node_pass m e.Nothing span = tt
    node_pass m (e.Name name) span = (tt, tt)
    node_pass m (e.Neg a) span = reads_pass m a
    node_pass m (e.Plus a) span = reads_pass m a
    node_pass m (e.Not a) span = reads_pass m a
    node_pass m (e.Bin op a b) span = two (reads m a) (reads m b) (reads_pass m a) (reads_pass m b)
    node_pass m (e.Compare a more) span = two (reads m a) (comparisons_reads m more) (reads_pass m a) (comparisons_pass m more)
    node_pass m (e.And a b) span = two (reads m a) (reads m b) (reads_pass m a) (reads_pass m b)
    node_pass m (e.Or a b) span = two (reads m a) (reads m b) (reads_pass m a) (reads_pass m b)
    node_pass m (e.Cond a test b) span = two (reads m a) (reads m test ++ reads m b) (reads_pass m a) (two (reads m test) (reads m b) (reads_pass m test) (reads_pass m b))
    node_pass m (e.ListOf items) span = exprs_pass m items
    node_pass m (e.DictOf entries) span = entries_pass m entries
    node_pass m (e.TupleOf items) span = exprs_pass m items
    node_pass m (e.Attr a name) span = reads_pass m a
    node_pass m (e.Index a i) span = two (reads m a) (reads m i) (reads_pass m a) (reads_pass m i)
    node_pass m (e.Call callee more) span = two (reads m callee) (arguments_reads m more) (reads_pass m callee) (arguments_pass m more)

    exprs_pass : (m : Manner) (items : ExprTrees) → SightsPass (exprs_reads m items)
    exprs_pass m e.no_exprs = tt
    exprs_pass m (e.expr_then a more) = two (reads m a) (exprs_reads m more) (reads_pass m a) (exprs_pass m more)

    comparisons_pass : (m : Manner) (more : Comparisons) → SightsPass (comparisons_reads m more)
    comparisons_pass m e.no_comparisons = tt
    comparisons_pass m (e.comparison_then op a more) = two (reads m a) (comparisons_reads m more) (reads_pass m a) (comparisons_pass m more)

    entries_pass : (m : Manner) (entries : Entries) → SightsPass (entries_reads m entries)
    entries_pass m e.no_entries = tt
    entries_pass m (e.entry_then key value more) = two (reads m key) (reads m value ++ entries_reads m more) (reads_pass m key) (two (reads m value) (entries_reads m more) (reads_pass m value) (entries_pass m more))

    arguments_pass : (m : Manner) (more : Arguments) → SightsPass (arguments_reads m more)
    arguments_pass m e.no_arguments = tt
    arguments_pass m (e.argument_then value more) = two (reads m value) (arguments_reads m more) (reads_pass m value) (arguments_pass m more)
    arguments_pass m (e.keyed_then key value more) = two (reads m value) (arguments_reads m more) (reads_pass m value) (arguments_pass m more)

  maybe_reads_pass : (m : Manner) (a : Option ExprTree) → SightsPass (maybe_reads m a)
  maybe_reads_pass m None = tt
  maybe_reads_pass m (Some a) = reads_pass m a

  list_pass : (m : Manner) (items : List ExprTree) → SightsPass (list_reads m items)
  list_pass m [] = tt
  list_pass m (a ∷ more) = two (reads m a) (list_reads m more) (reads_pass m a) (list_pass m more)

  params_pass : (params : List (List ℕ × Option ExprTree)) → SightsPass (params_reads params)
  params_pass [] = tt
  params_pass (p ∷ ps) = two (maybe_reads Annotation p.1) (params_reads ps) (maybe_reads_pass Annotation p.1) (params_pass ps)

  attribute_pass : (b : Bool) (mark : ExprTree) → SightsPass (attribute_sights b mark)
  attribute_pass true mark = reads_pass Annotation mark
  attribute_pass false mark = tt

  -- ---- targets

  mutual
    target_pass : (a : ExprTree) → ExprPasses tests a → SightsPass (target_sights a)
    target_pass (e.at node span) h = target_node_pass node span h

    target_node_pass : (node : ExprNode) (span : Span) → NodePasses tests node → SightsPass (target_node_sights node span)
    target_node_pass (e.Name name) span h = (h, tt)
    target_node_pass (e.TupleOf items) span h = targets_pass items h
    target_node_pass (e.ListOf items) span h = targets_pass items h
    target_node_pass node span h = node_pass Value node span

    targets_pass : (items : ExprTrees) → ExprsPass tests items → SightsPass (targets_sights items)
    targets_pass e.no_exprs h = tt
    targets_pass (e.expr_then a more) h = two (target_sights a) (targets_sights more) (target_pass a h.0) (targets_pass more h.1)

  -- ---- imports and definitions

  aliases_pass : (names : List (List ℕ × Option (List ℕ))) (span : Span) → SightsPass (aliases_sights names span)
  aliases_pass [] span = tt
  aliases_pass (a ∷ more) span = ((refl, refl), aliases_pass more span)

  import_pass : (h : Home) (name : List ℕ) (other : Option (List ℕ)) (span : Span) → SightsPass (import_sights h name other span)
  import_pass InModule name other span = ((refl, refl), tt)
  import_pass InFunction name other span = tt

  from_pass : (h : Home) (names : List (List ℕ × Option (List ℕ))) (span : Span) → SightsPass (from_sights h names span)
  from_pass InModule names span = aliases_pass names span
  from_pass InFunction names span = tt

  caught_pass : (name : Option (List ℕ)) (span : Span) → MaybeNamePasses tests name → SightsPass (caught_sights name span)
  caught_pass None span h = tt
  caught_pass (Some name) span h = (h, tt)

  header_pass : (f : FuncTree) (span : Span) → FunctionPasses tests f → SightsPass (header_sights f span)
  header_pass f span h =
      two (params_reads f.params) (maybe_reads Annotation f.ret ++ sight (Holds f) span ∷ []) (params_pass f.params) (two (maybe_reads Annotation f.ret) (sight (Holds f) span ∷ []) (maybe_reads_pass Annotation f.ret) (h, tt))

  member_pass : (x : StmtTree) → StmtPasses tests x → SightsPass (member_sights x)
  member_pass (s.at (s.Def name params ret body marks) span) h =
      let f : FuncTree = record { name = name; params = params; ret = ret; body = body; marks = marks } in
      two (list_reads Value marks) (header_sights f span) (list_pass Value marks) (header_pass f span h)
  member_pass (s.at (s.Annot target mark None) span) h = attribute_pass (is_name target) mark
  member_pass (s.at (s.Annot target mark (Some a)) span) h = tt
  member_pass (s.at _ span) h = tt

  members_pass : (body : Suite) → SuitePasses tests body → SightsPass (members_sights body)
  members_pass s.no_stmts h = tt
  members_pass (s.stmt_then x more) h = two (member_sights x) (members_sights more) (member_pass x h.0) (members_pass more h.1)

  def_pass : (h : Home) (f : FuncTree) (span : Span) → FunctionPasses tests f → SightsPass (def_sights h f span)
  def_pass InModule f span h = two (list_reads Value f.marks) (sight (Defines Function f.name) span ∷ header_sights f span) (list_pass Value f.marks) ((refl, refl), header_pass f span h)
  def_pass InFunction f span h = tt

  class_pass : (h : Home) (c : ClassTree) (span : Span) → SuitePasses tests c.body → SightsPass (class_sights h c span)
  class_pass InModule c span h =
      two (list_reads Value c.marks) (sight (Defines Class c.name) span ∷ (list_reads Value c.bases ++ members_sights c.body)) (list_pass Value c.marks) ((refl, refl), two (list_reads Value c.bases) (members_sights c.body) (list_pass Value c.bases) (members_pass c.body h))
  class_pass InFunction c span h = tt

  -- ---- statements

  mutual
    stmt_pass : (h : Home) (x : StmtTree) → StmtPasses tests x → SightsPass (stmt_sights h x)
    stmt_pass h (s.at node span) p = act_pass h node span p

    act_pass : (h : Home) (node : StmtNode) (span : Span) → ActPasses tests node → SightsPass (stmt_node_sights h node span)
    act_pass h (s.Do a) span p = reads_pass Value a
    act_pass h (s.Assign target a) span p = two (target_sights target) (reads Value a) (target_pass target p.0) (reads_pass Value a)
    act_pass h (s.Annot target mark a) span p =
        two (target_sights target) (reads Annotation mark ++ maybe_reads Value a) (target_pass target p.0) (two (reads Annotation mark) (maybe_reads Value a) (reads_pass Annotation mark) (maybe_reads_pass Value a))
    act_pass h (s.Aug target op a) span p = two (target_sights target) (reads Value a) (target_pass target p.0) (reads_pass Value a)
    act_pass h (s.Del a) span p = reads_pass Value a
    act_pass h s.Pass span p = tt
    act_pass h s.Break span p = tt
    act_pass h s.Continue span p = tt
    act_pass h (s.Return a) span p = maybe_reads_pass Value a
    act_pass h (s.Raise a) span p = maybe_reads_pass Value a
    act_pass h (s.Global names) span p = (tt, tt)
    act_pass h (s.Assert a message) span p = two (reads Value a) (maybe_reads Value message) (reads_pass Value a) (maybe_reads_pass Value message)
    act_pass h (s.Import name other) span p = import_pass h name other span
    act_pass h (s.From name names) span p = from_pass h names span
    act_pass h (s.If arms other) span p = two (arms_sights h arms) (suite_sights h other) (arms_pass h arms p.1) (suite_pass h other p.2)
    act_pass h (s.While test body) span p = two (reads Value test) (suite_sights h body) (reads_pass Value test) (suite_pass h body p.2)
    act_pass h (s.For target a body) span p =
        two (target_sights target) (reads Value a ++ suite_sights h body) (target_pass target p.0) (two (reads Value a) (suite_sights h body) (reads_pass Value a) (suite_pass h body p.3))
    act_pass h (s.Try body handlers last) span p =
        two (suite_sights h body) (handlers_sights h handlers ++ maybe_suite_sights h last) (suite_pass h body p.2) (two (handlers_sights h handlers) (maybe_suite_sights h last) (handlers_pass h handlers p.3) (last_pass h last p.4))
    act_pass h (s.Def name params ret body marks) span p = def_pass h (record { name = name; params = params; ret = ret; body = body; marks = marks }) span p
    act_pass h (s.ClassDef name bases body marks) span p = class_pass h (record { name = name; bases = bases; body = body; marks = marks }) span p.1

    -- ALL that is seen of statements passes
    pub suite_pass : (h : Home) (body : Suite) → SuitePasses tests body → SightsPass (suite_sights h body)
    suite_pass h s.no_stmts p = tt
    suite_pass h (s.stmt_then x more) p = two (stmt_sights h x) (suite_sights h more) (stmt_pass h x p.0) (suite_pass h more p.1)

    arms_pass : (h : Home) (arms : Arms) → ArmsPass tests arms → SightsPass (arms_sights h arms)
    arms_pass h s.no_arms p = tt
    arms_pass h (s.arm_then test body more) p = two (reads Value test) (suite_sights h body ++ arms_sights h more) (reads_pass Value test) (two (suite_sights h body) (arms_sights h more) (suite_pass h body p.2) (arms_pass h more p.3))

    handlers_pass : (h : Home) (handlers : Handlers) → HandlersPass tests handlers → SightsPass (handlers_sights h handlers)
    handlers_pass h s.no_handlers p = tt
    handlers_pass h (s.handler_then class name body span more) p =
        two (maybe_reads Value class) (caught_sights name span ++ (suite_sights h body ++ handlers_sights h more)) (maybe_reads_pass Value class)
        (two (caught_sights name span) (suite_sights h body ++ handlers_sights h more) (caught_pass name span p.0) (two (suite_sights h body) (handlers_sights h more) (suite_pass h body p.2) (handlers_pass h more p.3)))

    last_pass : (h : Home) (last : MaybeSuite) → LastPasses tests last → SightsPass (maybe_suite_sights h last)
    last_pass h s.no_suite p = tt
    last_pass h (s.some_suite body) p = suite_pass h body p.1
