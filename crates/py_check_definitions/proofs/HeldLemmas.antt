-- The functions that a module's sights hold are those of its definitions, in the same order.
use Rattle.std.proofs.Common.{◌≡◌, ◌∙◌, ℕ, Bool, true, false, List, [], ◌∷◌, ◌++◌, Option, Some, None, refl, ap₂, sym}
use Rattle.std.proofs.lemmas.List.{append-nil}
use Rattle.std.proofs.lemmas.Grind.{flat_map-append}
use Rattle.std.specs.List.{flat_map}
use Rattle.py_syntax.specs.declared.token.Span.{Span}
use Rattle.py_syntax.specs.Expressions as e
use Rattle.py_syntax.specs.Expressions.{ExprTree, ExprNode, ExprTrees, Comparisons, Entries, Arguments}
use Rattle.py_syntax.specs.Statements as s
use Rattle.py_syntax.specs.Statements.{StmtTree, StmtNode, Suite, Arms, Handlers, MaybeSuite, FuncTree}
use Rattle.py_lexer_words.specs.Words.{name_in_quotes}
use Rattle.py_binder.specs.declared.sight.Manner.{Manner}
use Rattle.py_binder.specs.declared.sight.Manner.TheVariants.{Value, Annotation}
use Rattle.py_binder.specs.declared.sight.Home.TheVariants.{InModule}
use Rattle.py_binder.specs.declared.scope.Role.TheVariants.{Function, Class}
use Rattle.py_binder.specs.Sights.{Sight, sight, Holds, Defines, maybe_read, text_reads, reads, node_reads, exprs_reads, comparisons_reads, entries_reads, arguments_reads, maybe_reads, list_reads, target_sights, target_node_sights, targets_sights, aliases_sights, params_reads, header_sights, is_name, attribute_sights, member_sights, members_sights, caught_sights, stmt_sights, stmt_node_sights, suite_sights, arms_sights, handlers_sights, maybe_suite_sights}
use Rattle.py_binder.specs.Scope.{all_there, held_there, functions}
use Rattle.py_check_names.specs.Outline.{method_in, methods_in, held_by, stmt_definitions, node_definitions, suite_definitions, arms_definitions, handlers_definitions, last_definitions}

abbrev held : List Sight → List FuncTree
held = all_there held_there

abbrev defined : List StmtTree → List FuncTree
defined = flat_map held_by

held_two : (a b : List Sight) → held (a ++ b) ≡ held a ++ held b
held_two a b = flat_map-append (λ (x : Sight). held_there x.does) a b

-- two lists without functions
none_in_two : (a b : List Sight) → held a ≡ [] → held b ≡ [] → held (a ++ b) ≡ []
none_in_two a b first second = held_two a b ∙ ap₂ (λ x y. x ++ y) first second

-- one without functions in front
none_first : (a b : List Sight) (fs : List FuncTree) → held a ≡ [] → held b ≡ fs → held (a ++ b) ≡ fs
none_first a b fs first second = held_two a b ∙ ap₂ (λ x y. x ++ y) first second

-- two lists, and what is defined in them
in_two : (a b : List Sight) (xs ys : List StmtTree) → held a ≡ defined xs → held b ≡ defined ys → held (a ++ b) ≡ defined (xs ++ ys)
in_two a b xs ys first second = held_two a b ∙ ap₂ (λ x y. x ++ y) first second ∙ sym (flat_map-append held_by xs ys)

-- ---- nothing that is read or bound holds a function

maybe_holds : (name : Option (List ℕ)) (span : Span) → held (maybe_read name span) ≡ []
maybe_holds None span = refl
maybe_holds (Some x) span = refl

text_holds : (m : Manner) (text : List ℕ) (span : Span) → held (text_reads m text span) ≡ []
text_holds Value text span = refl
text_holds Annotation text span = maybe_holds (name_in_quotes text) span

mutual
  reads_hold : (m : Manner) (a : ExprTree) → held (reads m a) ≡ []
  reads_hold m (e.at node span) = node_holds m node span

  node_holds : (m : Manner) (node : ExprNode) (span : Span) → held (node_reads m node span) ≡ []
  node_holds m (e.Int n) span = refl
  node_holds m (e.Str text) span = text_holds m text span
  node_holds m e.True span = refl
  node_holds m e.False span = refl
  node_holds m e.Nothing span = refl
  node_holds m (e.Name name) span = refl
  node_holds m (e.Neg a) span = reads_hold m a
  node_holds m (e.Plus a) span = reads_hold m a
  node_holds m (e.Not a) span = reads_hold m a
  node_holds m (e.Bin op a b) span = none_in_two (reads m a) (reads m b) (reads_hold m a) (reads_hold m b)
  node_holds m (e.Compare a more) span = none_in_two (reads m a) (comparisons_reads m more) (reads_hold m a) (comparisons_hold m more)
  node_holds m (e.And a b) span = none_in_two (reads m a) (reads m b) (reads_hold m a) (reads_hold m b)
  node_holds m (e.Or a b) span = none_in_two (reads m a) (reads m b) (reads_hold m a) (reads_hold m b)
  node_holds m (e.Cond a test b) span = none_in_two (reads m a) (reads m test ++ reads m b) (reads_hold m a) (none_in_two (reads m test) (reads m b) (reads_hold m test) (reads_hold m b))
  node_holds m (e.ListOf items) span = exprs_hold m items
  node_holds m (e.DictOf entries) span = entries_hold m entries
  node_holds m (e.TupleOf items) span = exprs_hold m items
  node_holds m (e.Attr a name) span = reads_hold m a
  node_holds m (e.Index a i) span = none_in_two (reads m a) (reads m i) (reads_hold m a) (reads_hold m i)
  node_holds m (e.Call callee more) span = none_in_two (reads m callee) (arguments_reads m more) (reads_hold m callee) (arguments_hold m more)

  exprs_hold : (m : Manner) (items : ExprTrees) → held (exprs_reads m items) ≡ []
  exprs_hold m e.no_exprs = refl
  exprs_hold m (e.expr_then a more) = none_in_two (reads m a) (exprs_reads m more) (reads_hold m a) (exprs_hold m more)

  comparisons_hold : (m : Manner) (more : Comparisons) → held (comparisons_reads m more) ≡ []
  comparisons_hold m e.no_comparisons = refl
  comparisons_hold m (e.comparison_then op a more) = none_in_two (reads m a) (comparisons_reads m more) (reads_hold m a) (comparisons_hold m more)

  entries_hold : (m : Manner) (entries : Entries) → held (entries_reads m entries) ≡ []
  entries_hold m e.no_entries = refl
  entries_hold m (e.entry_then key value more) = none_in_two (reads m key) (reads m value ++ entries_reads m more) (reads_hold m key) (none_in_two (reads m value) (entries_reads m more) (reads_hold m value) (entries_hold m more))

  arguments_hold : (m : Manner) (more : Arguments) → held (arguments_reads m more) ≡ []
  arguments_hold m e.no_arguments = refl
  arguments_hold m (e.argument_then value more) = none_in_two (reads m value) (arguments_reads m more) (reads_hold m value) (arguments_hold m more)
  arguments_hold m (e.keyed_then key value more) = none_in_two (reads m value) (arguments_reads m more) (reads_hold m value) (arguments_hold m more)

maybe_reads_hold : (m : Manner) (a : Option ExprTree) → held (maybe_reads m a) ≡ []
maybe_reads_hold m None = refl
maybe_reads_hold m (Some a) = reads_hold m a

list_holds : (m : Manner) (items : List ExprTree) → held (list_reads m items) ≡ []
list_holds m [] = refl
list_holds m (a ∷ more) = none_in_two (reads m a) (list_reads m more) (reads_hold m a) (list_holds m more)

mutual
  target_holds : (a : ExprTree) → held (target_sights a) ≡ []
  target_holds (e.at node span) = target_node_holds node span

  target_node_holds : (node : ExprNode) (span : Span) → held (target_node_sights node span) ≡ []
  target_node_holds (e.Name name) span = refl
  target_node_holds (e.TupleOf items) span = targets_hold items
  target_node_holds (e.ListOf items) span = targets_hold items
  target_node_holds (e.Int n) span = node_holds Value (e.Int n) span
  target_node_holds (e.Str text) span = node_holds Value (e.Str text) span
  target_node_holds e.True span = refl
  target_node_holds e.False span = refl
  target_node_holds e.Nothing span = refl
  target_node_holds (e.Neg a) span = node_holds Value (e.Neg a) span
  target_node_holds (e.Plus a) span = node_holds Value (e.Plus a) span
  target_node_holds (e.Not a) span = node_holds Value (e.Not a) span
  target_node_holds (e.Bin op a b) span = node_holds Value (e.Bin op a b) span
  target_node_holds (e.Compare a more) span = node_holds Value (e.Compare a more) span
  target_node_holds (e.And a b) span = node_holds Value (e.And a b) span
  target_node_holds (e.Or a b) span = node_holds Value (e.Or a b) span
  target_node_holds (e.Cond a test b) span = node_holds Value (e.Cond a test b) span
  target_node_holds (e.DictOf entries) span = node_holds Value (e.DictOf entries) span
  target_node_holds (e.Attr a name) span = node_holds Value (e.Attr a name) span
  target_node_holds (e.Index a i) span = node_holds Value (e.Index a i) span
  target_node_holds (e.Call callee more) span = node_holds Value (e.Call callee more) span

  targets_hold : (items : ExprTrees) → held (targets_sights items) ≡ []
  targets_hold e.no_exprs = refl
  targets_hold (e.expr_then a more) = none_in_two (target_sights a) (targets_sights more) (target_holds a) (targets_hold more)

aliases_hold : (names : List (List ℕ × Option (List ℕ))) (span : Span) → held (aliases_sights names span) ≡ []
aliases_hold [] span = refl
aliases_hold (a ∷ more) span = aliases_hold more span

caught_holds : (name : Option (List ℕ)) (span : Span) → held (caught_sights name span) ≡ []
caught_holds None span = refl
caught_holds (Some name) span = refl

params_hold : (params : List (List ℕ × Option ExprTree)) → held (params_reads params) ≡ []
params_hold [] = refl
params_hold (p ∷ ps) = none_in_two (maybe_reads Annotation p.1) (params_reads ps) (maybe_reads_hold Annotation p.1) (params_hold ps)

-- ---- definitions

header_holds : (f : FuncTree) (span : Span) → held (header_sights f span) ≡ f ∷ []
header_holds f span =
    none_first (params_reads f.params) (maybe_reads Annotation f.ret ++ sight (Holds f) span ∷ []) (f ∷ []) (params_hold f.params)
    (none_first (maybe_reads Annotation f.ret) (sight (Holds f) span ∷ []) (f ∷ []) (maybe_reads_hold Annotation f.ret) refl)

abbrev def_tree : List ℕ → List (List ℕ × Option ExprTree) → Option ExprTree → Suite → List ExprTree → FuncTree
def_tree name params ret body marks = record { name = name; params = params; ret = ret; body = body; marks = marks }

declared_holds : (b : Bool) (mark : ExprTree) → held (attribute_sights b mark) ≡ []
declared_holds true mark = reads_hold Annotation mark
declared_holds false mark = refl

member_holds : (x : StmtTree) → held (member_sights x) ≡ method_in x
member_holds (s.at (s.Def name params ret body marks) span) =
    none_first (list_reads Value marks) (header_sights (def_tree name params ret body marks) span) (def_tree name params ret body marks ∷ []) (list_holds Value marks) (header_holds (def_tree name params ret body marks) span)
member_holds (s.at (s.Annot target mark None) span) = declared_holds (is_name target) mark
member_holds (s.at (s.Annot target mark (Some a)) span) = refl
member_holds (s.at (s.Do a) span) = refl
member_holds (s.at (s.Assign target a) span) = refl
member_holds (s.at (s.Aug target op a) span) = refl
member_holds (s.at (s.Del a) span) = refl
member_holds (s.at s.Pass span) = refl
member_holds (s.at s.Break span) = refl
member_holds (s.at s.Continue span) = refl
member_holds (s.at (s.Return a) span) = refl
member_holds (s.at (s.Raise a) span) = refl
member_holds (s.at (s.Global names) span) = refl
member_holds (s.at (s.Assert a message) span) = refl
member_holds (s.at (s.Import name other) span) = refl
member_holds (s.at (s.From name names) span) = refl
member_holds (s.at (s.If arms other) span) = refl
member_holds (s.at (s.While test body) span) = refl
member_holds (s.at (s.For target a body) span) = refl
member_holds (s.at (s.Try body handlers last) span) = refl
member_holds (s.at (s.ClassDef name bases body marks) span) = refl

members_hold : (body : Suite) → held (members_sights body) ≡ methods_in body
members_hold s.no_stmts = refl
members_hold (s.stmt_then x more) = held_two (member_sights x) (members_sights more) ∙ ap₂ (λ a b. a ++ b) (member_holds x) (members_hold more)

one_defined : (x : StmtTree) → held_by x ≡ defined (x ∷ [])
one_defined x = sym (append-nil (held_by x))

mutual
  stmt_holds : (x : StmtTree) → held (stmt_sights InModule x) ≡ defined (stmt_definitions x)
  stmt_holds (s.at node span) = act_holds node span

  act_holds : (node : StmtNode) (span : Span) → held (stmt_node_sights InModule node span) ≡ defined (node_definitions node span)
  act_holds (s.Do a) span = reads_hold Value a
  act_holds (s.Assign target a) span = none_in_two (target_sights target) (reads Value a) (target_holds target) (reads_hold Value a)
  act_holds (s.Annot target mark a) span = none_in_two (target_sights target) (reads Annotation mark ++ maybe_reads Value a) (target_holds target) (none_in_two (reads Annotation mark) (maybe_reads Value a) (reads_hold Annotation mark) (maybe_reads_hold Value a))
  act_holds (s.Aug target op a) span = none_in_two (target_sights target) (reads Value a) (target_holds target) (reads_hold Value a)
  act_holds (s.Del a) span = reads_hold Value a
  act_holds s.Pass span = refl
  act_holds s.Break span = refl
  act_holds s.Continue span = refl
  act_holds (s.Return a) span = maybe_reads_hold Value a
  act_holds (s.Raise a) span = maybe_reads_hold Value a
  act_holds (s.Global names) span = refl
  act_holds (s.Assert a message) span = none_in_two (reads Value a) (maybe_reads Value message) (reads_hold Value a) (maybe_reads_hold Value message)
  act_holds (s.Import name other) span = refl
  act_holds (s.From name names) span = aliases_hold names span
  act_holds (s.If arms other) span = in_two (arms_sights InModule arms) (suite_sights InModule other) (arms_definitions arms) (suite_definitions other) (arms_hold arms) (suite_holds other)
  act_holds (s.While test body) span = none_first (reads Value test) (suite_sights InModule body) (defined (suite_definitions body)) (reads_hold Value test) (suite_holds body)
  act_holds (s.For target a body) span = none_first (target_sights target) (reads Value a ++ suite_sights InModule body) (defined (suite_definitions body)) (target_holds target) (none_first (reads Value a) (suite_sights InModule body) (defined (suite_definitions body)) (reads_hold Value a) (suite_holds body))
  act_holds (s.Try body handlers last) span = in_two (suite_sights InModule body) (handlers_sights InModule handlers ++ maybe_suite_sights InModule last) (suite_definitions body) (handlers_definitions handlers ++ (last_definitions last)) (suite_holds body) (in_two (handlers_sights InModule handlers) (maybe_suite_sights InModule last) (handlers_definitions handlers) (last_definitions last) (handlers_hold handlers) (last_holds last))
  act_holds (s.Def name params ret body marks) span =
      none_first (list_reads Value marks) (sight (Defines Function name) span ∷ header_sights (def_tree name params ret body marks) span) (def_tree name params ret body marks ∷ []) (list_holds Value marks) (header_holds (def_tree name params ret body marks) span)
  act_holds (s.ClassDef name bases body marks) span =
      none_first (list_reads Value marks) (sight (Defines Class name) span ∷ (list_reads Value bases ++ members_sights body)) (methods_in body) (list_holds Value marks) (none_first (list_reads Value bases) (members_sights body) (methods_in body) (list_holds Value bases) (members_hold body)) ∙ one_defined (s.at (s.ClassDef name bases body marks) span)

  suite_holds : (body : Suite) → held (suite_sights InModule body) ≡ defined (suite_definitions body)
  suite_holds s.no_stmts = refl
  suite_holds (s.stmt_then x more) = in_two (stmt_sights InModule x) (suite_sights InModule more) (stmt_definitions x) (suite_definitions more) (stmt_holds x) (suite_holds more)

  arms_hold : (arms : Arms) → held (arms_sights InModule arms) ≡ defined (arms_definitions arms)
  arms_hold s.no_arms = refl
  arms_hold (s.arm_then test body more) = none_first (reads Value test) (suite_sights InModule body ++ arms_sights InModule more) (defined (suite_definitions body ++ (arms_definitions more))) (reads_hold Value test) (in_two (suite_sights InModule body) (arms_sights InModule more) (suite_definitions body) (arms_definitions more) (suite_holds body) (arms_hold more))

  handlers_hold : (handlers : Handlers) → held (handlers_sights InModule handlers) ≡ defined (handlers_definitions handlers)
  handlers_hold s.no_handlers = refl
  handlers_hold (s.handler_then class name body span more) =
      none_first (maybe_reads Value class) (caught_sights name span ++ (suite_sights InModule body ++ handlers_sights InModule more)) (defined (suite_definitions body ++ (handlers_definitions more))) (maybe_reads_hold Value class) (none_first (caught_sights name span) (suite_sights InModule body ++ handlers_sights InModule more) (defined (suite_definitions body ++ (handlers_definitions more))) (caught_holds name span) (in_two (suite_sights InModule body) (handlers_sights InModule more) (suite_definitions body) (handlers_definitions more) (suite_holds body) (handlers_hold more)))

  last_holds : (last : MaybeSuite) → held (maybe_suite_sights InModule last) ≡ defined (last_definitions last)
  last_holds s.no_suite = refl
  last_holds (s.some_suite body) = suite_holds body

-- THE FUNCTIONS of a module are those that its definitions hold
pub functions_defined : (m : Suite) → functions m ≡ flat_map held_by (suite_definitions m)
functions_defined m = suite_holds m
