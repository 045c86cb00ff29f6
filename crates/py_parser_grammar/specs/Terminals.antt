-- Terminals: what the grammar sees of a token, and sets of them.
use Rattle.std.specs.Prelude.{ℕ, ◌+◌, ◌==◌, Bool, true, false, ◌||◌, List, [], ◌∷◌, Option, Some, None, slice_get, IsTrue}
use Rattle.py_syntax.specs.declared.key.Key.{Key}
use Rattle.py_syntax.specs.declared.key.Key.TheVariants as key
use Rattle.py_syntax.specs.declared.sign.Sign.{Sign}
use Rattle.py_syntax.specs.declared.sign.Sign.TheVariants as sign
use Rattle.py_syntax.specs.declared.token.Token.{Token}
use Rattle.py_syntax.specs.declared.token.TokenKind.{TokenKind}
use Rattle.py_syntax.specs.declared.token.TokenKind.TheVariants as kind
use Rattle.py_parser_grammar.specs.declared.terminal.Terminal.{Terminal}
use Rattle.py_parser_grammar.specs.declared.terminal.Terminal.TheVariants as terminal

-- the terminal of a token of a kind
abbrev pub terminal_of : TokenKind → Terminal
terminal_of (kind.Name name) = terminal.Name
terminal_of (kind.Int n) = terminal.Int
terminal_of (kind.Str text) = terminal.Str
terminal_of (kind.Key k) = terminal.Key k
terminal_of (kind.Sign s) = terminal.Sign s
terminal_of kind.Newline = terminal.Newline
terminal_of kind.Indent = terminal.Indent
terminal_of kind.Dedent = terminal.Dedent
terminal_of kind.End = terminal.End

-- a number for each keyword, each sign and each terminal
abbrev pub key_code : Key → ℕ
key_code key.False = 0
key_code key.Nothing = 1
key_code key.True = 2
key_code key.And = 3
key_code key.As = 4
key_code key.Assert = 5
key_code key.Async = 6
key_code key.Await = 7
key_code key.Break = 8
key_code key.Class = 9
key_code key.Continue = 10
key_code key.Def = 11
key_code key.Del = 12
key_code key.Elif = 13
key_code key.Else = 14
key_code key.Except = 15
key_code key.Finally = 16
key_code key.For = 17
key_code key.From = 18
key_code key.Global = 19
key_code key.If = 20
key_code key.Import = 21
key_code key.In = 22
key_code key.Is = 23
key_code key.Lambda = 24
key_code key.Nonlocal = 25
key_code key.Not = 26
key_code key.Or = 27
key_code key.Pass = 28
key_code key.Raise = 29
key_code key.Return = 30
key_code key.Try = 31
key_code key.While = 32
key_code key.With = 33
key_code key.Yield = 34

abbrev pub sign_code : Sign → ℕ
sign_code sign.Plus = 0
sign_code sign.Minus = 1
sign_code sign.Star = 2
sign_code sign.StarStar = 3
sign_code sign.Slash = 4
sign_code sign.SlashSlash = 5
sign_code sign.Percent = 6
sign_code sign.At = 7
sign_code sign.Shl = 8
sign_code sign.Shr = 9
sign_code sign.Amp = 10
sign_code sign.Bar = 11
sign_code sign.Caret = 12
sign_code sign.Tilde = 13
sign_code sign.Walrus = 14
sign_code sign.Lt = 15
sign_code sign.Gt = 16
sign_code sign.Le = 17
sign_code sign.Ge = 18
sign_code sign.EqEq = 19
sign_code sign.NotEq = 20
sign_code sign.LeftParen = 21
sign_code sign.RightParen = 22
sign_code sign.LeftSquare = 23
sign_code sign.RightSquare = 24
sign_code sign.LeftBrace = 25
sign_code sign.RightBrace = 26
sign_code sign.Comma = 27
sign_code sign.Colon = 28
sign_code sign.Dot = 29
sign_code sign.Semicolon = 30
sign_code sign.Assign = 31
sign_code sign.Arrow = 32
sign_code sign.PlusAssign = 33
sign_code sign.MinusAssign = 34
sign_code sign.StarAssign = 35
sign_code sign.SlashAssign = 36
sign_code sign.SlashSlashAssign = 37
sign_code sign.PercentAssign = 38
sign_code sign.AtAssign = 39
sign_code sign.AmpAssign = 40
sign_code sign.BarAssign = 41
sign_code sign.CaretAssign = 42
sign_code sign.ShrAssign = 43
sign_code sign.ShlAssign = 44
sign_code sign.StarStarAssign = 45

abbrev pub code : Terminal → ℕ
code terminal.Name = 0
code terminal.Int = 1
code terminal.Str = 2
code terminal.Newline = 3
code terminal.Indent = 4
code terminal.Dedent = 5
code terminal.End = 6
code (terminal.Key k) = 10 + key_code k
code (terminal.Sign s) = 50 + sign_code s

-- whether two terminals are one
abbrev pub same : Terminal → Terminal → Bool
same a b = code a == code b

-- whether a terminal is one of some
abbrev pub among : Terminal → List Terminal → Bool
among c [] = false
among c (d ∷ ds) = same c d || among c ds

-- whether there is a token, of one of some terminals
abbrev pub next_in : Option Token → List Terminal → Bool
next_in None cs = false
next_in (Some t) cs = among (terminal_of t.kind) cs

-- the keywords that the grammar leaves out
abbrev pub is_left_out_key : Key → Bool
is_left_out_key key.Async = true
is_left_out_key key.Await = true
is_left_out_key key.Lambda = true
is_left_out_key key.Nonlocal = true
is_left_out_key key.With = true
is_left_out_key key.Yield = true
is_left_out_key _ = false

abbrev pub is_left_out : Terminal → Bool
is_left_out (terminal.Key k) = is_left_out_key k
is_left_out _ = false

-- whether there is a token, and it is such a keyword
abbrev pub next_left_out : Option Token → Bool
next_left_out None = false
next_left_out (Some t) = is_left_out (terminal_of t.kind)

abbrev pub IsLeftOutAt : List Token → ℕ → Type 0
IsLeftOutAt tokens i = IsTrue (next_left_out (slice_get tokens i))
