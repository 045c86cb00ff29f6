-- What one token of look-ahead asks of a grammar.
use Rattle.std.specs.Prelude.{Bool, true, not, ◌&&◌, List, [], ◌∷◌, ◌++◌, if◌then◌else◌}
use Rattle.py_syntax.specs.declared.key.Key.TheVariants as k
use Rattle.py_syntax.specs.declared.sign.Sign.TheVariants as s
use Rattle.py_parser_grammar.specs.declared.terminal.Terminal.{Terminal}
use Rattle.py_parser_grammar.specs.declared.terminal.Terminal.TheVariants as terminal
use Rattle.py_parser_grammar.specs.Grammar.{ExprSym, More, Sym, expr, more, Part, tok, sym, ◌·◌, ◌⊕◌, maybe, many, after, left, grown, comma, TESTS, TARGETS, TEST, OR, AND, NOT, COMP, BOR, SHIFT, SUM, TERM, FACTOR, PRIMARY, ATOM, OR_MORE, AND_MORE, BOR_MORE, SHIFT_MORE, SUM_MORE, TERM_MORE, TRAILER, COMP_MORE, COMP_OP, ARG, ENTRY, PLAIN, AUG, RETURN, RAISE, GLOBAL, ASSERT, DEL, IMPORT, FROM, DOTTED, ALIAS, SMALL, SIMPLE, STMT, IF, ARM, WHILE, FOR, TRY, EXCEPT, FINALLY, BLOCK, FUNC, PARAM, CLASS, CBLOCK, MEMBER, MARK, DECORATED, TOP, MODULE}
use Rattle.py_parser_grammar.specs.Terminals.{among}
use Rattle.py_parser_grammar.specs.Reader.{starts, starts_more, may_be_empty, firsts, augs, tests, factors, comparisons}

abbrev pub apart : List Terminal → List Terminal → Bool
apart [] ds = true
apart (c ∷ cs) ds = not (among c ds) && apart cs ds

abbrev pub within : List Terminal → List Terminal → Bool
within [] ds = true
within (c ∷ cs) ds = among c ds && within cs ds

-- ---- what may follow a symbol, and perhaps more

abbrev pub behind_small : List Terminal
behind_small = terminal.Sign s.Semicolon ∷ terminal.Newline ∷ []

abbrev pub behind_tests : List Terminal
behind_tests = terminal.Sign s.RightParen ∷ terminal.Sign s.RightSquare ∷ terminal.Sign s.Colon ∷ terminal.Sign s.Assign ∷ augs ++ behind_small

abbrev pub behind_test : List Terminal
behind_test = comma ∷ terminal.Sign s.RightBrace ∷ terminal.Key k.As ∷ behind_tests

abbrev pub behind_or : List Terminal
behind_or = terminal.Key k.If ∷ terminal.Key k.Else ∷ behind_test

abbrev pub behind_and : List Terminal
behind_and = terminal.Key k.Or ∷ behind_or

abbrev pub behind_not : List Terminal
behind_not = terminal.Key k.And ∷ behind_and

abbrev pub behind_bor : List Terminal
behind_bor = comparisons ++ behind_not

abbrev pub behind_shift : List Terminal
behind_shift = terminal.Sign s.Bar ∷ behind_bor

abbrev pub behind_sum : List Terminal
behind_sum = terminal.Sign s.Shl ∷ terminal.Sign s.Shr ∷ behind_shift

abbrev pub behind_term : List Terminal
behind_term = terminal.Sign s.Plus ∷ terminal.Sign s.Minus ∷ behind_sum

abbrev pub behind_factor : List Terminal
behind_factor = terminal.Sign s.Star ∷ terminal.Sign s.SlashSlash ∷ terminal.Sign s.Percent ∷ behind_term

abbrev pub behind_atom : List Terminal
behind_atom = terminal.Sign s.Dot ∷ terminal.Sign s.LeftParen ∷ terminal.Sign s.LeftSquare ∷ behind_factor

abbrev pub behind_item : List Terminal
behind_item = comma ∷ terminal.Sign s.RightParen ∷ terminal.Sign s.RightBrace ∷ behind_small

abbrev pub behind_stmt : List Terminal
behind_stmt = terminal.Dedent ∷ terminal.End ∷ starts TOP

abbrev pub behind_block : List Terminal
behind_block = terminal.Key k.Elif ∷ terminal.Key k.Else ∷ terminal.Key k.Except ∷ terminal.Key k.Finally ∷ behind_stmt

abbrev pub follow_expr : ExprSym → List Terminal
follow_expr TESTS = behind_tests
follow_expr TARGETS = terminal.Key k.In ∷ []
follow_expr TEST = behind_test
follow_expr OR = behind_or
follow_expr AND = behind_and
follow_expr NOT = behind_not
follow_expr COMP = behind_not
follow_expr BOR = behind_bor
follow_expr SHIFT = behind_shift
follow_expr SUM = behind_sum
follow_expr TERM = behind_term
follow_expr FACTOR = behind_factor
follow_expr PRIMARY = behind_factor
follow_expr ATOM = behind_atom

abbrev pub follow_more : More → List Terminal
follow_more OR_MORE = behind_and
follow_more AND_MORE = behind_not
follow_more BOR_MORE = behind_shift
follow_more SHIFT_MORE = behind_sum
follow_more SUM_MORE = behind_term
follow_more TERM_MORE = behind_factor
follow_more TRAILER = behind_atom

abbrev pub follow : Sym → List Terminal
follow (expr x) = follow_expr x
follow (more m) = follow_more m
follow COMP_MORE = behind_bor
follow COMP_OP = factors
follow ARG = behind_item
follow ENTRY = behind_item
follow PLAIN = behind_small
follow AUG = tests
follow RETURN = behind_small
follow RAISE = behind_small
follow GLOBAL = behind_small
follow ASSERT = behind_small
follow DEL = behind_small
follow IMPORT = behind_small
follow FROM = behind_small
follow DOTTED = terminal.Key k.As ∷ terminal.Key k.Import ∷ behind_small
follow ALIAS = behind_item
follow SMALL = behind_small
follow SIMPLE = behind_block
follow STMT = behind_stmt
follow IF = behind_stmt
follow ARM = behind_block
follow WHILE = behind_stmt
follow FOR = behind_stmt
follow TRY = behind_stmt
follow EXCEPT = behind_block
follow FINALLY = behind_stmt
follow BLOCK = behind_block
follow FUNC = behind_stmt
follow PARAM = behind_item
follow CLASS = behind_stmt
follow CBLOCK = behind_stmt
follow MEMBER = behind_stmt
follow MARK = terminal.Sign s.At ∷ terminal.Key k.Def ∷ terminal.Key k.Class ∷ []
follow DECORATED = behind_stmt
follow TOP = behind_stmt
follow MODULE = []

-- one token decides at each place of the part, where one of the terminals comes behind it
abbrev pub decided : Part → List Terminal → Bool
decided (tok c) n = true
decided (sym x) n = within n (follow x)
decided (a · b) n = decided a (if may_be_empty b then firsts b ++ n else firsts b) && decided b n
decided (a ⊕ b) n = apart (firsts a) (firsts b) && (not (may_be_empty a) && (not (may_be_empty b) && (decided a n && decided b n)))
decided (maybe a) n = not (may_be_empty a) && (apart (firsts a) n && decided a n)
decided (many a) n = not (may_be_empty a) && (apart (firsts a) n && decided a (firsts a ++ n))
decided (after c a) n = not (may_be_empty a) && (apart (c ∷ []) n && (apart (firsts a) n && decided a (c ∷ n)))
decided (left e m) n = apart (starts_more m) n && (within (starts_more m ++ n) (follow_expr e) && within (starts_more m ++ n) (follow_more m))
decided (grown m v) n = apart (starts_more m) n && within (starts_more m ++ n) (follow_more m)
