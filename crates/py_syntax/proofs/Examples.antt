-- The definitions at small values.
use Rattle.std.proofs.Common.{◌≡◌, refl, ℕ, [], ◌∷◌, codes, Some, None}
use Rattle.py_syntax.specs.declared.key.Key.TheVariants as key
use Rattle.py_syntax.specs.declared.sign.Sign.TheVariants as sign
use Rattle.py_syntax.specs.declared.token.Token.{Token}
use Rattle.py_syntax.specs.declared.token.TokenKind.{TokenKind}
use Rattle.py_syntax.specs.declared.token.TokenKind.TheVariants.{Newline, Indent, Dedent, End}
use Rattle.py_syntax.specs.Texts.{key_of, sign_of}
use Rattle.py_syntax.specs.Tokens.{levels_after}

keys : (key_of (codes "None") ≡ Some key.Nothing) × (key_of (codes "none") ≡ None) × (key_of (codes "yield") ≡ Some key.Yield) × (key_of (codes "match") ≡ None)
keys = (refl, refl, refl, refl)

signs : (sign_of (codes ">>=") ≡ Some sign.ShrAssign) × (sign_of (codes "->") ≡ Some sign.Arrow) × (sign_of (codes "!") ≡ None) × (sign_of [] ≡ None)
signs = (refl, refl, refl, refl)

t : TokenKind → Token
t kind = record { kind = kind; span = record { line = 1; col = 1 } }

-- two levels closed at once, a level that stays open, and a Dedent before its Indent
levels : (levels_after (Some 0) (t Indent ∷ t Newline ∷ t Indent ∷ t Dedent ∷ t Dedent ∷ t End ∷ []) ≡ Some 0) × (levels_after (Some 0) (t Indent ∷ t End ∷ []) ≡ Some 1) × (levels_after (Some 0) (t Dedent ∷ t Indent ∷ []) ≡ None)
unfolding t
levels = (refl, refl, refl)
