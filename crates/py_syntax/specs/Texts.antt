-- The texts of keywords and signs (Python Language Reference, "Keywords", "Operators" and "Delimiters").
use Rattle.std.specs.Prelude.{ℕ, List, [], ◌∷◌, Option, codes, find}
use Rattle.std.specs.Str.{bytes_eq}
use Rattle.py_syntax.specs.declared.key.Key.{Key}
use Rattle.py_syntax.specs.declared.key.Key.TheVariants as key
use Rattle.py_syntax.specs.declared.sign.Sign.{Sign}
use Rattle.py_syntax.specs.declared.sign.Sign.TheVariants as sign

-- a keyword as it is written
abbrev pub key_text : Key → List ℕ
key_text key.False = codes "False"
key_text key.Nothing = codes "None"
key_text key.True = codes "True"
key_text key.And = codes "and"
key_text key.As = codes "as"
key_text key.Assert = codes "assert"
key_text key.Async = codes "async"
key_text key.Await = codes "await"
key_text key.Break = codes "break"
key_text key.Class = codes "class"
key_text key.Continue = codes "continue"
key_text key.Def = codes "def"
key_text key.Del = codes "del"
key_text key.Elif = codes "elif"
key_text key.Else = codes "else"
key_text key.Except = codes "except"
key_text key.Finally = codes "finally"
key_text key.For = codes "for"
key_text key.From = codes "from"
key_text key.Global = codes "global"
key_text key.If = codes "if"
key_text key.Import = codes "import"
key_text key.In = codes "in"
key_text key.Is = codes "is"
key_text key.Lambda = codes "lambda"
key_text key.Nonlocal = codes "nonlocal"
key_text key.Not = codes "not"
key_text key.Or = codes "or"
key_text key.Pass = codes "pass"
key_text key.Raise = codes "raise"
key_text key.Return = codes "return"
key_text key.Try = codes "try"
key_text key.While = codes "while"
key_text key.With = codes "with"
key_text key.Yield = codes "yield"

abbrev pub all_keys : List Key
all_keys =
    key.False ∷ key.Nothing ∷ key.True ∷ key.And ∷ key.As ∷ key.Assert ∷ key.Async ∷ key.Await ∷ key.Break ∷ key.Class ∷ key.Continue ∷ key.Def
    ∷ key.Del ∷ key.Elif ∷ key.Else ∷ key.Except ∷ key.Finally ∷ key.For ∷ key.From ∷ key.Global ∷ key.If ∷ key.Import ∷ key.In ∷ key.Is
    ∷ key.Lambda ∷ key.Nonlocal ∷ key.Not ∷ key.Or ∷ key.Pass ∷ key.Raise ∷ key.Return ∷ key.Try ∷ key.While ∷ key.With ∷ key.Yield ∷ []

-- the keyword that is written so, if there is one
abbrev pub key_of : List ℕ → Option Key
key_of text = find (λ k. bytes_eq (key_text k) text) all_keys

-- a sign as it is written
abbrev pub sign_text : Sign → List ℕ
sign_text sign.Plus = codes "+"
sign_text sign.Minus = codes "-"
sign_text sign.Star = codes "*"
sign_text sign.StarStar = codes "**"
sign_text sign.Slash = codes "/"
sign_text sign.SlashSlash = codes "//"
sign_text sign.Percent = codes "%"
sign_text sign.At = codes "@"
sign_text sign.Shl = codes "<<"
sign_text sign.Shr = codes ">>"
sign_text sign.Amp = codes "&"
sign_text sign.Bar = codes "|"
sign_text sign.Caret = codes "^"
sign_text sign.Tilde = codes "~"
sign_text sign.Walrus = codes ":="
sign_text sign.Lt = codes "<"
sign_text sign.Gt = codes ">"
sign_text sign.Le = codes "<="
sign_text sign.Ge = codes ">="
sign_text sign.EqEq = codes "=="
sign_text sign.NotEq = codes "!="
sign_text sign.LeftParen = codes "("
sign_text sign.RightParen = codes ")"
sign_text sign.LeftSquare = codes "["
sign_text sign.RightSquare = codes "]"
sign_text sign.LeftBrace = codes "{"
sign_text sign.RightBrace = codes "}"
sign_text sign.Comma = codes ","
sign_text sign.Colon = codes ":"
sign_text sign.Dot = codes "."
sign_text sign.Semicolon = codes ";"
sign_text sign.Assign = codes "="
sign_text sign.Arrow = codes "->"
sign_text sign.PlusAssign = codes "+="
sign_text sign.MinusAssign = codes "-="
sign_text sign.StarAssign = codes "*="
sign_text sign.SlashAssign = codes "/="
sign_text sign.SlashSlashAssign = codes "//="
sign_text sign.PercentAssign = codes "%="
sign_text sign.AtAssign = codes "@="
sign_text sign.AmpAssign = codes "&="
sign_text sign.BarAssign = codes "|="
sign_text sign.CaretAssign = codes "^="
sign_text sign.ShrAssign = codes ">>="
sign_text sign.ShlAssign = codes "<<="
sign_text sign.StarStarAssign = codes "**="

abbrev pub all_signs : List Sign
all_signs =
    sign.Plus ∷ sign.Minus ∷ sign.Star ∷ sign.StarStar ∷ sign.Slash ∷ sign.SlashSlash ∷ sign.Percent ∷ sign.At ∷ sign.Shl ∷ sign.Shr
    ∷ sign.Amp ∷ sign.Bar ∷ sign.Caret ∷ sign.Tilde ∷ sign.Walrus ∷ sign.Lt ∷ sign.Gt ∷ sign.Le ∷ sign.Ge ∷ sign.EqEq
    ∷ sign.NotEq ∷ sign.LeftParen ∷ sign.RightParen ∷ sign.LeftSquare ∷ sign.RightSquare ∷ sign.LeftBrace ∷ sign.RightBrace ∷ sign.Comma ∷ sign.Colon ∷ sign.Dot
    ∷ sign.Semicolon ∷ sign.Assign ∷ sign.Arrow ∷ sign.PlusAssign ∷ sign.MinusAssign ∷ sign.StarAssign ∷ sign.SlashAssign ∷ sign.SlashSlashAssign ∷ sign.PercentAssign ∷ sign.AtAssign
    ∷ sign.AmpAssign ∷ sign.BarAssign ∷ sign.CaretAssign ∷ sign.ShrAssign ∷ sign.ShlAssign ∷ sign.StarStarAssign ∷ []

-- the sign that is written so, if there is one
abbrev pub sign_of : List ℕ → Option Sign
sign_of text = find (λ s. bytes_eq (sign_text s) text) all_signs
