-- What the symbols of the grammar stand for, and what is taken from such values.
use Rattle.std.specs.Prelude.{ℕ, ℤ, Bool, List, [], ◌∷◌, ◌++◌, Option, Some, None, ◌⊎◌}
use Rattle.py_syntax.specs.declared.expression.BinOp.{BinOp}
use Rattle.py_syntax.specs.declared.expression.CmpOp.{CmpOp}
use Rattle.py_syntax.specs.declared.token.Span.{Span}
use Rattle.py_syntax.specs.declared.token.Token.{Token}
use Rattle.py_syntax.specs.declared.token.TokenKind.{TokenKind}
use Rattle.py_syntax.specs.declared.token.TokenKind.TheVariants as kind
use Rattle.py_syntax.specs.Expressions.{ExprTree, ArgTree}
use Rattle.py_syntax.specs.Statements.{StmtTree, Suite, HandlerTree, FuncTree, ClassTree, suite_of}
use Rattle.py_parser_grammar.specs.Levels.{Piece}
use Rattle.py_parser_grammar.specs.Grammar.{More, Sym, Part, tok, sym, ◌·◌, ◌⊕◌, maybe, many, after, left, grown, expr, more, OR_MORE, AND_MORE, BOR_MORE, SHIFT_MORE, SUM_MORE, TERM_MORE, TRAILER, COMP_MORE, COMP_OP, ARG, ENTRY, PLAIN, AUG, RETURN, RAISE, GLOBAL, ASSERT, DEL, IMPORT, FROM, DOTTED, ALIAS, SMALL, SIMPLE, STMT, IF, ARM, WHILE, FOR, TRY, EXCEPT, FINALLY, BLOCK, FUNC, PARAM, CLASS, CBLOCK, MEMBER, MARK, DECORATED, TOP, MODULE}

-- ---- what the symbols stand for

-- what goes on with a primary
pub data Trail : Type 0 where
  of_name : List ℕ → Trail
  of_args : List ArgTree → Trail
  of_index : ExprTree → Trail

abbrev pub SemMore : More → Type 0
SemMore OR_MORE = ExprTree
SemMore AND_MORE = ExprTree
SemMore BOR_MORE = ExprTree
SemMore SHIFT_MORE = BinOp × ExprTree
SemMore SUM_MORE = BinOp × ExprTree
SemMore TERM_MORE = BinOp × ExprTree
SemMore TRAILER = Trail

abbrev pub Sem : Sym → Type 0
Sem (expr _) = Piece
Sem (more m) = SemMore m
Sem COMP_MORE = CmpOp × ExprTree
Sem COMP_OP = CmpOp
Sem ARG = ArgTree
Sem ENTRY = ExprTree × ExprTree
Sem PLAIN = StmtTree
Sem AUG = BinOp
Sem RETURN = StmtTree
Sem RAISE = StmtTree
Sem GLOBAL = StmtTree
Sem ASSERT = StmtTree
Sem DEL = StmtTree
Sem IMPORT = StmtTree
Sem FROM = StmtTree
Sem DOTTED = List ℕ
Sem ALIAS = List ℕ × Option (List ℕ)
Sem SMALL = StmtTree
-- a simple line may have several statements
Sem SIMPLE = List StmtTree
Sem STMT = List StmtTree
Sem IF = StmtTree
Sem ARM = ExprTree × Suite
Sem WHILE = StmtTree
Sem FOR = StmtTree
Sem TRY = StmtTree
Sem EXCEPT = HandlerTree
Sem FINALLY = List StmtTree
Sem BLOCK = List StmtTree
-- a function or a class, with the place of its keyword
Sem FUNC = FuncTree × Span
Sem PARAM = List ℕ × Option ExprTree
Sem CLASS = ClassTree × Span
Sem CBLOCK = List StmtTree
Sem MEMBER = List StmtTree
-- a decorator, with the place of its sign
Sem MARK = ExprTree × Span
Sem DECORATED = StmtTree
Sem TOP = List StmtTree
Sem MODULE = Suite

-- A part stands for what its parts stand for.
abbrev pub Val : Part → Type 0
Val (tok c) = Token
Val (sym s) = Sem s
Val (a · b) = Val a × (Val b)
Val (a ⊕ b) = Val a ⊎ Val b
Val (maybe a) = Option (Val a)
Val (many a) = List (Val a)
-- and whether a separator stands at the end
Val (after c a) = List (Val a) × Bool
Val (left e m) = Piece
Val (grown m v) = Piece

-- ---- values of tokens and of lists

-- what a token says, where it is a name, a number or a text
abbrev pub name_in : TokenKind → List ℕ
name_in (kind.Name name) = name
name_in _ = []

abbrev pub int_in : TokenKind → ℤ
int_in (kind.Int n) = n
int_in _ = ℤ.pos 0

abbrev pub text_in : TokenKind → List ℕ
text_in (kind.Str text) = text
text_in _ = []

abbrev pub name_of : Token → List ℕ
name_of token = name_in token.kind

-- texts that stand side by side are one
abbrev pub texts_of : List Token → List ℕ
texts_of [] = []
texts_of (t ∷ ts) = text_in t.kind ++ texts_of ts

-- the items of a list between separators
abbrev pub listed : {A : Type 0} → A × (List A × Bool) → List A
listed (first, (others, trailing)) = first ∷ others

-- the items in brackets
abbrev pub items : {A : Type 0} → Option (A × (List A × Bool)) → List A
items None = []
items (Some x) = listed x

-- what stands behind each of some tokens
abbrev pub seconds : {A B : Type 0} → List (A × B) → List B
seconds [] = []
seconds (x ∷ xs) = x.1 ∷ seconds xs

-- all rows in one
abbrev pub joined : {A : Type 0} → List (List A) → List A
joined [] = []
joined (x ∷ xs) = x ++ joined xs

-- expressions without the places where they begin
abbrev pub trees_of : List Piece → List ExprTree
trees_of [] = []
trees_of (p ∷ ps) = p.tree ∷ trees_of ps

-- what may stand behind a keyword or a sign, and behind those alone
abbrev pub suite_behind : Option (Token × (Token × List StmtTree)) → List StmtTree
suite_behind None = []
suite_behind (Some x) = x.1.1

abbrev pub tree_behind : Option (Token × Piece) → Option ExprTree
tree_behind None = None
tree_behind (Some x) = Some x.1.tree

abbrev pub suite_in : Option (List StmtTree) → Option Suite
suite_in None = None
suite_in (Some body) = Some (suite_of body)

-- the bases of a class, where it has brackets
abbrev pub bases_in : Option (Token × (Option (Piece × (List Piece × Bool)) × Token)) → List ExprTree
bases_in None = []
bases_in (Some x) = trees_of (items x.1.0)

abbrev pub name_behind : Option (Token × Token) → Option (List ℕ)
name_behind None = None
name_behind (Some x) = Some (name_of x.1)

abbrev pub maybe_tree : Option Piece → Option ExprTree
maybe_tree None = None
maybe_tree (Some p) = Some p.tree

-- names behind a name, each with the dot before it, and each without the comma before it
abbrev pub dotted_on : List (Token × Token) → List ℕ
dotted_on [] = []
dotted_on (x ∷ xs) = (46 ∷ name_of x.1) ++ dotted_on xs

abbrev pub names_on : List (Token × Token) → List (List ℕ)
names_on [] = []
names_on (x ∷ xs) = name_of x.1 ∷ names_on xs
