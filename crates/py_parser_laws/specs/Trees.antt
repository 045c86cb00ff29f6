-- Trees whose names, numbers and texts pass tests, and which have the parts that a text gives them: a body has a statement, an `if` a
-- test, a `try` an except clause or a `finally`, a comparison a second operand. Not looked at are the keys of arguments, what is
-- imported, decorators, annotations and bases, the names in `global`, and the expressions in `except`.
use Rattle.std.specs.Prelude.{◌≡◌, ℕ, ℤ, Bool, true, List, [], ◌++◌, Option, Some, None}
use Rattle.std.specs.List.{AllByRecursion}
use Rattle.py_syntax.specs.declared.token.TokenKind.{TokenKind}
use Rattle.py_syntax.specs.declared.token.TokenKind.TheVariants as kind
use Rattle.py_syntax.specs.Expressions as e
use Rattle.py_syntax.specs.Expressions.{ExprTree, ExprNode, ExprTrees, Comparisons, Entries, Arguments}
use Rattle.py_syntax.specs.Statements as s
use Rattle.py_syntax.specs.Statements.{StmtTree, StmtNode, Suite, Arms, Handlers, MaybeSuite, FuncTree}

-- what is asked of names, of numbers and of texts
pub record Tests : Type 0 where
  pub name : List ℕ → Bool
  pub number : ℤ → Bool
  pub text : List ℕ → Bool

-- texts that stand side by side pass where each does
pub record JoinsTexts (tests : Tests) : Type 0 where
  pub nothing : tests.text [] ≡ true
  pub both : (a b : List ℕ) → tests.text a ≡ true → tests.text b ≡ true → tests.text (a ++ b) ≡ true

-- ---- parts that are there

abbrev pub IsChain : Comparisons → Type 0
IsChain e.no_comparisons = ⊥
IsChain (e.comparison_then op a more) = Unit {0}

abbrev pub IsFilled : Suite → Type 0
IsFilled s.no_stmts = ⊥
IsFilled (s.stmt_then stmt more) = Unit {0}

abbrev pub HasTest : Arms → Type 0
HasTest s.no_arms = ⊥
HasTest (s.arm_then test body more) = Unit {0}

abbrev pub HasClause : Handlers → MaybeSuite → Type 0
HasClause s.no_handlers s.no_suite = ⊥
HasClause s.no_handlers (s.some_suite body) = Unit {0}
HasClause (s.handler_then class name body span more) last = Unit {0}

module _ (tests : Tests) where
  abbrev pub KindPasses : TokenKind → Type 0
  KindPasses (kind.Name name) = tests.name name ≡ true
  KindPasses (kind.Int n) = tests.number n ≡ true
  KindPasses (kind.Str text) = tests.text text ≡ true
  KindPasses _ = Unit {0}

  -- ---- expressions

  abbrev mutual
    pub ExprPasses : ExprTree → Type 0
    ExprPasses (e.at node span) = NodePasses node

    pub NodePasses : ExprNode → Type 0
    NodePasses (e.Int n) = tests.number n ≡ true
    NodePasses (e.Str text) = tests.text text ≡ true
    NodePasses (e.Name name) = tests.name name ≡ true
    NodePasses (e.Neg a) = ExprPasses a
    NodePasses (e.Plus a) = ExprPasses a
    NodePasses (e.Not a) = ExprPasses a
    NodePasses (e.Bin op a b) = ExprPasses a × ExprPasses b
    NodePasses (e.Compare a more) = ExprPasses a × IsChain more × ComparisonsPass more
    NodePasses (e.And a b) = ExprPasses a × ExprPasses b
    NodePasses (e.Or a b) = ExprPasses a × ExprPasses b
    NodePasses (e.Cond a test b) = ExprPasses a × ExprPasses test × ExprPasses b
    NodePasses (e.ListOf items) = ExprsPass items
    NodePasses (e.DictOf entries) = EntriesPass entries
    NodePasses (e.TupleOf items) = ExprsPass items
    NodePasses (e.Attr a name) = (tests.name name ≡ true) × ExprPasses a
    NodePasses (e.Index a i) = ExprPasses a × ExprPasses i
    NodePasses (e.Call callee more) = ExprPasses callee × ArgumentsPass more
    NodePasses _ = Unit {0}

    pub ExprsPass : ExprTrees → Type 0
    ExprsPass e.no_exprs = Unit {0}
    ExprsPass (e.expr_then a more) = ExprPasses a × ExprsPass more

    pub ComparisonsPass : Comparisons → Type 0
    ComparisonsPass e.no_comparisons = Unit {0}
    ComparisonsPass (e.comparison_then op a more) = ExprPasses a × ComparisonsPass more

    pub EntriesPass : Entries → Type 0
    EntriesPass e.no_entries = Unit {0}
    EntriesPass (e.entry_then key value more) = ExprPasses key × ExprPasses value × EntriesPass more

    pub ArgumentsPass : Arguments → Type 0
    ArgumentsPass e.no_arguments = Unit {0}
    ArgumentsPass (e.argument_then value more) = ExprPasses value × ArgumentsPass more
    ArgumentsPass (e.keyed_then key value more) = ExprPasses value × ArgumentsPass more

  abbrev pub MaybePasses : Option ExprTree → Type 0
  MaybePasses None = Unit {0}
  MaybePasses (Some a) = ExprPasses a

  -- ---- statements

  -- the name of a handler, and the names of parameters
  abbrev pub MaybeNamePasses : Option (List ℕ) → Type 0
  MaybeNamePasses None = Unit {0}
  MaybeNamePasses (Some name) = tests.name name ≡ true

  abbrev pub ParamsPass : List (List ℕ × Option ExprTree) → Type 0
  ParamsPass = AllByRecursion (λ p. tests.name p.0 ≡ true)

  abbrev mutual
    pub StmtPasses : StmtTree → Type 0
    StmtPasses (s.at node span) = ActPasses node

    pub ActPasses : StmtNode → Type 0
    ActPasses (s.Do a) = ExprPasses a
    ActPasses (s.Assign target a) = ExprPasses target × ExprPasses a
    ActPasses (s.Annot target mark a) = ExprPasses target × MaybePasses a
    ActPasses (s.Aug target op a) = ExprPasses target × ExprPasses a
    ActPasses (s.Del a) = ExprPasses a
    ActPasses (s.Return a) = MaybePasses a
    ActPasses (s.Raise a) = MaybePasses a
    ActPasses (s.Assert a message) = ExprPasses a × MaybePasses message
    ActPasses (s.If arms other) = HasTest arms × ArmsPass arms × SuitePasses other
    ActPasses (s.While test body) = ExprPasses test × IsFilled body × SuitePasses body
    ActPasses (s.For target a body) = ExprPasses target × ExprPasses a × IsFilled body × SuitePasses body
    ActPasses (s.Try body handlers last) = HasClause handlers last × IsFilled body × SuitePasses body × HandlersPass handlers × LastPasses last
    ActPasses (s.Def name params ret body marks) = (tests.name name ≡ true) × ParamsPass params × IsFilled body × SuitePasses body
    ActPasses (s.ClassDef name bases body marks) = (tests.name name ≡ true) × SuitePasses body
    ActPasses _ = Unit {0}

    pub SuitePasses : Suite → Type 0
    SuitePasses s.no_stmts = Unit {0}
    SuitePasses (s.stmt_then stmt more) = StmtPasses stmt × SuitePasses more

    pub ArmsPass : Arms → Type 0
    ArmsPass s.no_arms = Unit {0}
    ArmsPass (s.arm_then test body more) = ExprPasses test × IsFilled body × SuitePasses body × ArmsPass more

    pub HandlersPass : Handlers → Type 0
    HandlersPass s.no_handlers = Unit {0}
    HandlersPass (s.handler_then class name body span more) = MaybeNamePasses name × IsFilled body × SuitePasses body × HandlersPass more

    pub LastPasses : MaybeSuite → Type 0
    LastPasses s.no_suite = Unit {0}
    LastPasses (s.some_suite body) = IsFilled body × SuitePasses body

  -- a function by its parts
  abbrev pub FunctionPasses : FuncTree → Type 0
  FunctionPasses f = (tests.name f.name ≡ true) × ParamsPass f.params × IsFilled f.body × SuitePasses f.body
