-- The grammar: what each symbol is made of.
use Rattle.py_syntax.specs.declared.key.Key.{Key}
use Rattle.py_syntax.specs.declared.key.Key.TheVariants as k
use Rattle.py_syntax.specs.declared.sign.Sign.{Sign}
use Rattle.py_syntax.specs.declared.sign.Sign.TheVariants as s
use Rattle.py_parser_grammar.specs.declared.terminal.Terminal.{Terminal}
use Rattle.py_parser_grammar.specs.declared.terminal.Terminal.TheVariants as terminal
use Rattle.py_parser_grammar.specs.Levels.{Piece}

-- the symbols that stand for an expression
pub data ExprSym : Type 0 where
  TESTS : ExprSym
  TARGETS : ExprSym
  TEST : ExprSym
  OR : ExprSym
  AND : ExprSym
  NOT : ExprSym
  COMP : ExprSym
  BOR : ExprSym
  SHIFT : ExprSym
  SUM : ExprSym
  TERM : ExprSym
  FACTOR : ExprSym
  PRIMARY : ExprSym
  ATOM : ExprSym

-- the symbols that go on with an expression on their left
pub data More : Type 0 where
  OR_MORE : More
  AND_MORE : More
  BOR_MORE : More
  SHIFT_MORE : More
  SUM_MORE : More
  TERM_MORE : More
  TRAILER : More

pub data Sym : Type 0 where
  expr : ExprSym → Sym
  more : More → Sym
  -- parts of expressions
  COMP_MORE : Sym
  COMP_OP : Sym
  ARG : Sym
  ENTRY : Sym
  -- simple statements and their parts
  PLAIN : Sym
  AUG : Sym
  RETURN : Sym
  RAISE : Sym
  GLOBAL : Sym
  ASSERT : Sym
  DEL : Sym
  IMPORT : Sym
  FROM : Sym
  DOTTED : Sym
  ALIAS : Sym
  SMALL : Sym
  SIMPLE : Sym
  -- compound statements and their parts
  STMT : Sym
  IF : Sym
  ARM : Sym
  WHILE : Sym
  FOR : Sym
  TRY : Sym
  EXCEPT : Sym
  FINALLY : Sym
  BLOCK : Sym
  -- definitions, and the module
  FUNC : Sym
  PARAM : Sym
  CLASS : Sym
  CBLOCK : Sym
  MEMBER : Sym
  MARK : Sym
  DECORATED : Sym
  TOP : Sym
  MODULE : Sym

infixr 30 ◌·◌
infixr 25 ◌⊕◌
-- what the rules are made of
pub data Part : Type 0 where
  -- one token of a terminal
  tok : Terminal → Part
  -- what a symbol stands for
  sym : Sym → Part
  -- one part and then the other
  ◌·◌ : Part → Part → Part
  -- one part or the other
  ◌⊕◌ : Part → Part → Part
  -- a part or nothing
  maybe : Part → Part
  -- the part, any number of times
  many : Part → Part
  -- a separator and the part, any number of times, and then perhaps a separator
  after : Terminal → Part → Part
  -- an expression, and any number of times what goes on with it; it is grouped from the left
  left : ExprSym → More → Part
  -- any number of times what goes on with an expression that is there; no rule has this part
  grown : More → Piece → Part

-- a keyword, a sign, an expression
abbrev pub key : Key → Part
key word = tok (terminal.Key word)

abbrev pub sign : Sign → Part
sign text = tok (terminal.Sign text)

abbrev pub expression : ExprSym → Part
expression e = sym (expr e)

-- the part at least once, between separators, of which one may stand at the end
abbrev pub list : Terminal → Part → Part
list separator part = part · after separator part

abbrev pub comma : Terminal
comma = terminal.Sign s.Comma

-- the part any number of times, between commas and in brackets
abbrev pub bracketed : Sign → Part → Sign → Part
bracketed opens part closes = sign opens · maybe (list comma part) · sign closes

-- a colon and a block
abbrev pub body : Part
body = sign s.Colon · sym BLOCK

abbrev pub rhs_more : More → Part
rhs_more OR_MORE = key k.Or · expression AND
rhs_more AND_MORE = key k.And · expression NOT
rhs_more BOR_MORE = sign s.Bar · expression SHIFT
rhs_more SHIFT_MORE = (sign s.Shl ⊕ sign s.Shr) · expression SUM
rhs_more SUM_MORE = (sign s.Plus ⊕ sign s.Minus) · expression TERM
rhs_more TERM_MORE = (sign s.Star ⊕ sign s.SlashSlash ⊕ sign s.Percent) · expression FACTOR
rhs_more TRAILER =
    sign s.Dot · tok terminal.Name
    ⊕ bracketed s.LeftParen (sym ARG) s.RightParen
    ⊕ sign s.LeftSquare · expression TESTS · sign s.RightSquare

abbrev pub rhs_expr : ExprSym → Part
rhs_expr TESTS = list comma (expression TEST)
rhs_expr TARGETS = list comma (expression BOR)
rhs_expr TEST = expression OR · maybe (key k.If · expression OR · key k.Else · expression TEST)
rhs_expr OR = left AND OR_MORE
rhs_expr AND = left NOT AND_MORE
rhs_expr NOT = key k.Not · expression NOT ⊕ expression COMP
rhs_expr COMP = expression BOR · many (sym COMP_MORE)
rhs_expr BOR = left SHIFT BOR_MORE
rhs_expr SHIFT = left SUM SHIFT_MORE
rhs_expr SUM = left TERM SUM_MORE
rhs_expr TERM = left FACTOR TERM_MORE
rhs_expr FACTOR = (sign s.Minus ⊕ sign s.Plus) · expression FACTOR ⊕ expression PRIMARY
rhs_expr PRIMARY = left ATOM TRAILER
rhs_expr ATOM =
    tok terminal.Name
    ⊕ tok terminal.Int
    ⊕ tok terminal.Str · many (tok terminal.Str)
    ⊕ key k.True
    ⊕ key k.False
    ⊕ key k.Nothing
    ⊕ sign s.LeftParen · maybe (expression TESTS) · sign s.RightParen
    ⊕ bracketed s.LeftSquare (expression TEST) s.RightSquare
    ⊕ bracketed s.LeftBrace (sym ENTRY) s.RightBrace

abbrev pub rhs : Sym → Part
rhs (expr e) = rhs_expr e
rhs (more m) = rhs_more m
rhs COMP_MORE = sym COMP_OP · expression BOR
rhs COMP_OP =
    sign s.Lt
    ⊕ sign s.Gt
    ⊕ sign s.EqEq
    ⊕ sign s.Ge
    ⊕ sign s.Le
    ⊕ sign s.NotEq
    ⊕ key k.In
    ⊕ key k.Not · key k.In
    ⊕ key k.Is · maybe (key k.Not)
rhs ARG = expression TEST · maybe (sign s.Assign · expression TEST)
rhs ENTRY = expression TEST · sign s.Colon · expression TEST
rhs PLAIN =
    expression TESTS
    · maybe
    (sign s.Colon · expression TEST · maybe (sign s.Assign · expression TESTS)
    ⊕ sign s.Assign · expression TESTS
    ⊕ sym AUG · expression TESTS)
rhs AUG =
    sign s.PlusAssign
    ⊕ sign s.MinusAssign
    ⊕ sign s.StarAssign
    ⊕ sign s.SlashSlashAssign
    ⊕ sign s.PercentAssign
    ⊕ sign s.ShlAssign
    ⊕ sign s.ShrAssign
rhs RETURN = key k.Return · maybe (expression TESTS)
rhs RAISE = key k.Raise · maybe (expression TEST)
rhs GLOBAL = key k.Global · tok terminal.Name · many (tok comma · tok terminal.Name)
rhs ASSERT = key k.Assert · expression TEST · maybe (tok comma · expression TEST)
rhs DEL = key k.Del · expression TEST
rhs IMPORT = key k.Import · sym DOTTED · maybe (key k.As · tok terminal.Name)
rhs FROM =
    key k.From
    · sym DOTTED
    · key k.Import
    · (sym ALIAS · many (tok comma · sym ALIAS) ⊕ sign s.LeftParen · list comma (sym ALIAS) · sign s.RightParen)
rhs DOTTED = tok terminal.Name · many (sign s.Dot · tok terminal.Name)
rhs ALIAS = tok terminal.Name · maybe (key k.As · tok terminal.Name)
rhs SMALL =
    key k.Pass
    ⊕ key k.Break
    ⊕ key k.Continue
    ⊕ sym RETURN
    ⊕ sym RAISE
    ⊕ sym GLOBAL
    ⊕ sym ASSERT
    ⊕ sym DEL
    ⊕ sym IMPORT
    ⊕ sym FROM
    ⊕ sym PLAIN
rhs SIMPLE = list (terminal.Sign s.Semicolon) (sym SMALL) · tok terminal.Newline
rhs STMT = sym IF ⊕ sym WHILE ⊕ sym FOR ⊕ sym TRY ⊕ sym SIMPLE
rhs IF = key k.If · sym ARM · many (key k.Elif · sym ARM) · maybe (key k.Else · body)
rhs ARM = expression TEST · body
rhs WHILE = key k.While · expression TEST · body
rhs FOR = key k.For · expression TARGETS · key k.In · expression TESTS · body
rhs TRY = key k.Try · body · (sym EXCEPT · many (sym EXCEPT) · maybe (sym FINALLY) ⊕ sym FINALLY)
rhs EXCEPT = key k.Except · maybe (expression TEST · maybe (key k.As · tok terminal.Name)) · body
rhs FINALLY = key k.Finally · body
rhs BLOCK = tok terminal.Newline · tok terminal.Indent · sym STMT · many (sym STMT) · tok terminal.Dedent ⊕ sym SIMPLE
rhs FUNC =
    key k.Def
    · tok terminal.Name
    · bracketed s.LeftParen (sym PARAM) s.RightParen
    · maybe (sign s.Arrow · expression TEST)
    · body
rhs PARAM = tok terminal.Name · maybe (sign s.Colon · expression TEST)
rhs CLASS =
    key k.Class · tok terminal.Name · maybe (bracketed s.LeftParen (expression TEST) s.RightParen) · sign s.Colon · sym CBLOCK
rhs CBLOCK = tok terminal.Newline · tok terminal.Indent · sym MEMBER · many (sym MEMBER) · tok terminal.Dedent ⊕ sym SIMPLE
rhs MEMBER = sym FUNC ⊕ sym STMT
rhs MARK = sign s.At · expression TEST · tok terminal.Newline
rhs DECORATED = sym MARK · many (sym MARK) · (sym FUNC ⊕ sym CLASS)
rhs TOP = sym FUNC ⊕ sym CLASS ⊕ sym DECORATED ⊕ sym STMT
rhs MODULE = many (sym TOP) · tok terminal.End
