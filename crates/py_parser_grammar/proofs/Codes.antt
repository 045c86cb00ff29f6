-- Each terminal has a code of its own.
use Rattle.std.proofs.Common.{◌≡◌, ◌<◌, Some, slice_get, refl, ap, sym, ◌∙◌, arith}
use Rattle.std.specs.Bool.{Decides}
use Rattle.std.proofs.lemmas.Bool.{eqb-true, eq-eqb}
use Rattle.std.proofs.lemmas.Option.{slice_get_within}
use Rattle.py_syntax.specs.declared.key.Key.{Key}
use Rattle.py_syntax.specs.declared.key.Key.TheVariants as key
use Rattle.py_syntax.specs.declared.sign.Sign.{Sign}
use Rattle.py_syntax.specs.declared.sign.Sign.TheVariants as sign
use Rattle.py_syntax.specs.Texts.{all_keys, all_signs}
use Rattle.py_parser_grammar.specs.declared.terminal.Terminal.{Terminal}
use Rattle.py_parser_grammar.specs.declared.terminal.Terminal.TheVariants as terminal
use Rattle.py_parser_grammar.specs.Terminals.{code, key_code, sign_code, same}

-- a keyword stands in the list of all at the place that is its code
key_placed : (k : Key) → slice_get all_keys (key_code k) ≡ Some k
key_placed key.False = refl
key_placed key.Nothing = refl
key_placed key.True = refl
key_placed key.And = refl
key_placed key.As = refl
key_placed key.Assert = refl
key_placed key.Async = refl
key_placed key.Await = refl
key_placed key.Break = refl
key_placed key.Class = refl
key_placed key.Continue = refl
key_placed key.Def = refl
key_placed key.Del = refl
key_placed key.Elif = refl
key_placed key.Else = refl
key_placed key.Except = refl
key_placed key.Finally = refl
key_placed key.For = refl
key_placed key.From = refl
key_placed key.Global = refl
key_placed key.If = refl
key_placed key.Import = refl
key_placed key.In = refl
key_placed key.Is = refl
key_placed key.Lambda = refl
key_placed key.Nonlocal = refl
key_placed key.Not = refl
key_placed key.Or = refl
key_placed key.Pass = refl
key_placed key.Raise = refl
key_placed key.Return = refl
key_placed key.Try = refl
key_placed key.While = refl
key_placed key.With = refl
key_placed key.Yield = refl

sign_placed : (s : Sign) → slice_get all_signs (sign_code s) ≡ Some s
sign_placed sign.Plus = refl
sign_placed sign.Minus = refl
sign_placed sign.Star = refl
sign_placed sign.StarStar = refl
sign_placed sign.Slash = refl
sign_placed sign.SlashSlash = refl
sign_placed sign.Percent = refl
sign_placed sign.At = refl
sign_placed sign.Shl = refl
sign_placed sign.Shr = refl
sign_placed sign.Amp = refl
sign_placed sign.Bar = refl
sign_placed sign.Caret = refl
sign_placed sign.Tilde = refl
sign_placed sign.Walrus = refl
sign_placed sign.Lt = refl
sign_placed sign.Gt = refl
sign_placed sign.Le = refl
sign_placed sign.Ge = refl
sign_placed sign.EqEq = refl
sign_placed sign.NotEq = refl
sign_placed sign.LeftParen = refl
sign_placed sign.RightParen = refl
sign_placed sign.LeftSquare = refl
sign_placed sign.RightSquare = refl
sign_placed sign.LeftBrace = refl
sign_placed sign.RightBrace = refl
sign_placed sign.Comma = refl
sign_placed sign.Colon = refl
sign_placed sign.Dot = refl
sign_placed sign.Semicolon = refl
sign_placed sign.Assign = refl
sign_placed sign.Arrow = refl
sign_placed sign.PlusAssign = refl
sign_placed sign.MinusAssign = refl
sign_placed sign.StarAssign = refl
sign_placed sign.SlashAssign = refl
sign_placed sign.SlashSlashAssign = refl
sign_placed sign.PercentAssign = refl
sign_placed sign.AtAssign = refl
sign_placed sign.AmpAssign = refl
sign_placed sign.BarAssign = refl
sign_placed sign.CaretAssign = refl
sign_placed sign.ShrAssign = refl
sign_placed sign.ShlAssign = refl
sign_placed sign.StarStarAssign = refl

key_told : (k l : Key) → key_code k ≡ key_code l → k ≡ l
key_told k l e =
    let both : Some k ≡ Some l = sym (key_placed k) ∙ ap (slice_get all_keys) e ∙ key_placed l in cc

sign_told : (s t : Sign) → sign_code s ≡ sign_code t → s ≡ t
sign_told s t e =
    let both : Some s ≡ Some t = sym (sign_placed s) ∙ ap (slice_get all_signs) e ∙ sign_placed t in cc

key_small : (k : Key) → key_code k < 35
key_small k = slice_get_within all_keys (key_code k) k (key_placed k)

-- terminals with one code are one
pub code_told : (a b : Terminal) → code a ≡ code b → a ≡ b
code_told (terminal.Key k) (terminal.Key l) e = ap terminal.Key (key_told k l (omega (arith, e)))
code_told (terminal.Sign s) (terminal.Sign t) e = ap terminal.Sign (sign_told s t (omega (arith, e)))
code_told terminal.Name terminal.Name e = refl
code_told terminal.Int terminal.Int e = refl
code_told terminal.Str terminal.Str e = refl
code_told terminal.Newline terminal.Newline e = refl
code_told terminal.Indent terminal.Indent e = refl
code_told terminal.Dedent terminal.Dedent e = refl
code_told terminal.End terminal.End e = refl
code_told (terminal.Key k) (terminal.Sign t) e = absurd (omega (arith, key_small k, e))
code_told (terminal.Sign s) (terminal.Key l) e = absurd (omega (arith, key_small l, e))
code_told _ _ e = absurd (omega (arith, e))

-- the test on terminals answers whether they are one
pub same_exact : (a b : Terminal) → Decides (same a b) (a ≡ b)
same_exact a b =
    (λ s. code_told a b (eqb-true (code a) (code b) s), λ e. eq-eqb (code a) (code b) (ap code e))
