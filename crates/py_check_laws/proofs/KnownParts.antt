-- Where each name at the sights of targets, statements and definitions is known, so is each one at those of their parts.
use Rattle.std.proofs.Common.{◌≡◌, ℕ, false, List, [], ◌∷◌, ◌++◌, refl, ap, ◌∙◌}
use Rattle.std.proofs.lemmas.Grind.{flat_map-append}
use Rattle.std.specs.List.{flat_map}
use Rattle.py_syntax.specs.declared.token.Span.{Span}
use Rattle.py_syntax.specs.Expressions as e
use Rattle.py_syntax.specs.Expressions.{ExprTree, ExprNode, ExprTrees}
use Rattle.py_syntax.specs.Statements as s
use Rattle.py_syntax.specs.Statements.{StmtTree, StmtNode, Suite, Arms, Handlers, MaybeSuite, FuncTree}
use Rattle.py_binder.specs.declared.sight.Manner.TheVariants.{Value, Annotation}
use Rattle.py_binder.specs.declared.sight.Home.TheVariants.{InModule}
use Rattle.py_binder.specs.declared.scope.Role.TheVariants.{Function, Class}
use Rattle.py_binder.specs.Sights.{Sight, sight, Defines, Holds, reads, node_reads, exprs_reads, maybe_reads, list_reads, target_sights, target_node_sights, targets_sights, params_reads, header_sights, member_sights, members_sights, caught_sights, stmt_sights, stmt_node_sights, suite_sights, arms_sights, handlers_sights, maybe_suite_sights}
use Rattle.py_check_context.specs.declared.scope.Meaning.{Meaning}
use Rattle.py_check_places.specs.Shapes.{leaves, node_leaves, row_leaves}
use Rattle.py_check_annotations.specs.Names.{any_unknown}
use Rattle.py_check_names.specs.Outline.{held_by, method_in, methods_in, stmt_definitions, node_definitions, suite_definitions, arms_definitions, handlers_definitions, last_definitions}
use Rattle.py_check_expressions_laws.proofs.Known.{known_left, known_right, known_both}

abbrev pub AreKnown : (List ℕ → Meaning) → List Sight → Type 0
AreKnown meanings sights = any_unknown meanings sights ≡ false

-- the annotations of a function
abbrev pub annotation_reads : FuncTree → List Sight
annotation_reads f = params_reads f.params ++ maybe_reads Annotation f.ret

module _ (meanings : List ℕ → Meaning) where
  -- ---- targets

  mutual
    -- a target that is read as a value
    pub target_read : (a : ExprTree) → AreKnown meanings (target_sights a) → AreKnown meanings (reads Value a)
    target_read (e.at node span) k = node_read node span k

    node_read : (node : ExprNode) (span : Span) → AreKnown meanings (target_node_sights node span) → AreKnown meanings (node_reads Value node span)
    node_read (e.TupleOf items) span k = row_read items k
    node_read (e.ListOf items) span k = row_read items k
    node_read node span k = k

    row_read : (items : ExprTrees) → AreKnown meanings (targets_sights items) → AreKnown meanings (exprs_reads Value items)
    row_read e.no_exprs k = k
    row_read (e.expr_then a more) k =
        known_both meanings (reads Value a) (exprs_reads Value more) (target_read a (known_left meanings (target_sights a) (targets_sights more) k)) (row_read more (known_right meanings (target_sights a) (targets_sights more) k))

  list_two : (xs ys : List ExprTree) → AreKnown meanings (list_reads Value xs) → AreKnown meanings (list_reads Value ys) → AreKnown meanings (list_reads Value (xs ++ ys))
  list_two [] ys p q = q
  list_two (a ∷ xs) ys p q =
      known_both meanings (reads Value a) (list_reads Value (xs ++ ys)) (known_left meanings (reads Value a) (list_reads Value xs) p) (list_two xs ys (known_right meanings (reads Value a) (list_reads Value xs) p) q)

  mutual
    -- the single targets of a target
    pub leaves_read : (a : ExprTree) → AreKnown meanings (target_sights a) → AreKnown meanings (list_reads Value (leaves a))
    leaves_read (e.at node span) k = node_leaves_read node span k

    node_leaves_read : (node : ExprNode) (span : Span) → AreKnown meanings (target_node_sights node span) → AreKnown meanings (list_reads Value (node_leaves span node))
    node_leaves_read (e.TupleOf items) span k = row_leaves_read items k
    node_leaves_read (e.ListOf items) span k = row_leaves_read items k
    node_leaves_read node span k = known_both meanings (reads Value (e.at node span)) [] (node_read node span k) refl

    row_leaves_read : (items : ExprTrees) → AreKnown meanings (targets_sights items) → AreKnown meanings (list_reads Value (row_leaves items))
    row_leaves_read e.no_exprs k = k
    row_leaves_read (e.expr_then a more) k =
        list_two (leaves a) (row_leaves more) (leaves_read a (known_left meanings (target_sights a) (targets_sights more) k)) (row_leaves_read more (known_right meanings (target_sights a) (targets_sights more) k))

  -- ---- definitions

  abbrev pub definitions_sights : List StmtTree → List Sight
  definitions_sights ds = flat_map (stmt_sights InModule) ds

  two_defined : (xs ys : List StmtTree) → AreKnown meanings (definitions_sights xs) → AreKnown meanings (definitions_sights ys) → AreKnown meanings (definitions_sights (xs ++ ys))
  two_defined xs ys p q = ap (any_unknown meanings) (flat_map-append (stmt_sights InModule) xs ys) ∙ known_both meanings (definitions_sights xs) (definitions_sights ys) p q

  one_defined : (x : StmtTree) → AreKnown meanings (stmt_sights InModule x) → AreKnown meanings (definitions_sights (x ∷ []))
  one_defined x k = known_both meanings (stmt_sights InModule x) [] k refl

  mutual
    stmt_defined : (x : StmtTree) → AreKnown meanings (stmt_sights InModule x) → AreKnown meanings (definitions_sights (stmt_definitions x))
    stmt_defined (s.at node span) k = act_defined node span k

    act_defined : (node : StmtNode) (span : Span) → AreKnown meanings (stmt_node_sights InModule node span) → AreKnown meanings (definitions_sights (node_definitions node span))
    act_defined (s.Def name params ret body marks) span k = one_defined (s.at (s.Def name params ret body marks) span) k
    act_defined (s.ClassDef name bases body marks) span k = one_defined (s.at (s.ClassDef name bases body marks) span) k
    act_defined (s.Import name other) span k = one_defined (s.at (s.Import name other) span) k
    act_defined (s.From name names) span k = one_defined (s.at (s.From name names) span) k
    act_defined (s.If arms other) span k =
        two_defined (arms_definitions arms) (suite_definitions other) (arms_defined arms (known_left meanings (arms_sights InModule arms) (suite_sights InModule other) k)) (suite_defined other (known_right meanings (arms_sights InModule arms) (suite_sights InModule other) k))
    act_defined (s.While test body) span k = suite_defined body (known_right meanings (reads Value test) (suite_sights InModule body) k)
    act_defined (s.For target a body) span k = suite_defined body (known_right meanings (reads Value a) (suite_sights InModule body) (known_right meanings (target_sights target) (reads Value a ++ suite_sights InModule body) k))
    act_defined (s.Try body handlers last) span k =
        let rest = known_right meanings (suite_sights InModule body) (handlers_sights InModule handlers ++ maybe_suite_sights InModule last) k in
        two_defined (suite_definitions body) (handlers_definitions handlers ++ last_definitions last) (suite_defined body (known_left meanings (suite_sights InModule body) (handlers_sights InModule handlers ++ maybe_suite_sights InModule last) k))
        (two_defined (handlers_definitions handlers) (last_definitions last) (handlers_defined handlers (known_left meanings (handlers_sights InModule handlers) (maybe_suite_sights InModule last) rest)) (last_defined last (known_right meanings (handlers_sights InModule handlers) (maybe_suite_sights InModule last) rest)))
    act_defined _ span k = refl

    -- THE DEFINITIONS in statements
    pub suite_defined : (body : Suite) → AreKnown meanings (suite_sights InModule body) → AreKnown meanings (definitions_sights (suite_definitions body))
    suite_defined s.no_stmts k = refl
    suite_defined (s.stmt_then x more) k =
        two_defined (stmt_definitions x) (suite_definitions more) (stmt_defined x (known_left meanings (stmt_sights InModule x) (suite_sights InModule more) k)) (suite_defined more (known_right meanings (stmt_sights InModule x) (suite_sights InModule more) k))

    arms_defined : (arms : Arms) → AreKnown meanings (arms_sights InModule arms) → AreKnown meanings (definitions_sights (arms_definitions arms))
    arms_defined s.no_arms k = refl
    arms_defined (s.arm_then test body more) k =
        let rest = known_right meanings (reads Value test) (suite_sights InModule body ++ arms_sights InModule more) k in
        two_defined (suite_definitions body) (arms_definitions more) (suite_defined body (known_left meanings (suite_sights InModule body) (arms_sights InModule more) rest)) (arms_defined more (known_right meanings (suite_sights InModule body) (arms_sights InModule more) rest))

    handlers_defined : (handlers : Handlers) → AreKnown meanings (handlers_sights InModule handlers) → AreKnown meanings (definitions_sights (handlers_definitions handlers))
    handlers_defined s.no_handlers k = refl
    handlers_defined (s.handler_then class name body span more) k =
        let rest = known_right meanings (maybe_reads Value class) (caught_sights name span ++ (suite_sights InModule body ++ handlers_sights InModule more)) k in
        let both = known_right meanings (caught_sights name span) (suite_sights InModule body ++ handlers_sights InModule more) rest in
        two_defined (suite_definitions body) (handlers_definitions more) (suite_defined body (known_left meanings (suite_sights InModule body) (handlers_sights InModule more) both)) (handlers_defined more (known_right meanings (suite_sights InModule body) (handlers_sights InModule more) both))

    last_defined : (last : MaybeSuite) → AreKnown meanings (maybe_suite_sights InModule last) → AreKnown meanings (definitions_sights (last_definitions last))
    last_defined s.no_suite k = refl
    last_defined (s.some_suite body) k = suite_defined body k

  -- the annotations of a function
  header_marked : (f : FuncTree) (span : Span) → AreKnown meanings (header_sights f span) → AreKnown meanings (flat_map annotation_reads (f ∷ []))
  header_marked f span k =
      let ret_on : AreKnown meanings (maybe_reads Annotation f.ret ++ sight (Holds f) span ∷ []) = known_right meanings (params_reads f.params) (maybe_reads Annotation f.ret ++ sight (Holds f) span ∷ []) k in
      known_both meanings (annotation_reads f) []
      (known_both meanings (params_reads f.params) (maybe_reads Annotation f.ret) (known_left meanings (params_reads f.params) (maybe_reads Annotation f.ret ++ sight (Holds f) span ∷ []) k) (known_left meanings (maybe_reads Annotation f.ret) (sight (Holds f) span ∷ []) ret_on)) refl

  -- those of the methods of a class
  method_marked : (x : StmtTree) → AreKnown meanings (member_sights x) → AreKnown meanings (flat_map annotation_reads (method_in x))
  method_marked (s.at (s.Def name params ret body marks) span) k =
      let f : FuncTree = record { name = name; params = params; ret = ret; body = body; marks = marks } in
      header_marked f span (known_right meanings (list_reads Value marks) (header_sights f span) k)
  method_marked _ k = refl

  methods_marked : (body : Suite) → AreKnown meanings (members_sights body) → AreKnown meanings (flat_map annotation_reads (methods_in body))
  methods_marked s.no_stmts k = refl
  methods_marked (s.stmt_then x more) k =
      ap (any_unknown meanings) (flat_map-append annotation_reads (method_in x) (methods_in more))
      ∙ known_both meanings (flat_map annotation_reads (method_in x)) (flat_map annotation_reads (methods_in more)) (method_marked x (known_left meanings (member_sights x) (members_sights more) k))
      (methods_marked more (known_right meanings (member_sights x) (members_sights more) k))

  -- those of the functions that a definition holds
  one_marked : (x : StmtTree) → AreKnown meanings (stmt_sights InModule x) → AreKnown meanings (flat_map annotation_reads (held_by x))
  one_marked (s.at (s.Def name params ret body marks) span) k =
      let f : FuncTree = record { name = name; params = params; ret = ret; body = body; marks = marks } in
      header_marked f span (known_right meanings (list_reads Value marks) (sight (Defines Function name) span ∷ header_sights f span) k)
  one_marked (s.at (s.ClassDef name bases body marks) span) k =
      methods_marked body
      (known_right meanings (list_reads Value bases) (members_sights body) (known_right meanings (list_reads Value marks) (sight (Defines Class name) span ∷ (list_reads Value bases ++ members_sights body)) k))
  one_marked _ k = refl

  -- THE ANNOTATIONS of the functions that these definitions are
  pub all_marked : (ds : List StmtTree) → AreKnown meanings (definitions_sights ds) → AreKnown meanings (flat_map annotation_reads (flat_map held_by ds))
  all_marked [] k = refl
  all_marked (x ∷ ds) k =
      ap (any_unknown meanings) (flat_map-append annotation_reads (held_by x) (flat_map held_by ds))
      ∙ known_both meanings (flat_map annotation_reads (held_by x)) (flat_map annotation_reads (flat_map held_by ds))
      (one_marked x (known_left meanings (stmt_sights InModule x) (definitions_sights ds) k))
      (all_marked ds (known_right meanings (stmt_sights InModule x) (definitions_sights ds) k))
