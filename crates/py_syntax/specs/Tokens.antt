-- What holds of the tokens of every text.
use Rattle.std.specs.Prelude.{◌≡◌, ◌≢◌, ◌<◌, ◌≤◌, ◌⊎◌, ℕ, zero, suc, List, [], ◌∷◌, ◌++◌, Option, Some, None, AllPairs}
use Rattle.std.specs.List.{AllByRecursion}
use Rattle.py_syntax.specs.declared.token.Span.{Span}
use Rattle.py_syntax.specs.declared.token.Token.{Token}
use Rattle.py_syntax.specs.declared.token.TokenKind.{TokenKind}
use Rattle.py_syntax.specs.declared.token.TokenKind.TheVariants.{Indent, Dedent, End}

-- End stands last, and nowhere else
pub record EndsOnce (tokens : List Token) : Type 0 where
  pub front : List Token
  pub last : Token
  pub split : tokens ≡ front ++ last ∷ []
  pub ends : last.kind ≡ End
  pub no_other : AllByRecursion (λ t. t.kind ≢ End) front

-- how many levels of indentation are open behind a token where n are open before it; none where it closes one that is not open
abbrev pub levels_behind : TokenKind → ℕ → Option ℕ
levels_behind Indent n = Some (suc n)
levels_behind Dedent zero = None
levels_behind Dedent (suc n) = Some n
levels_behind _ n = Some n

-- the same behind all of some tokens
abbrev pub levels_after : Option ℕ → List Token → Option ℕ
levels_after levels [] = levels
levels_after None (t ∷ ts) = None
levels_after (Some n) (t ∷ ts) = levels_after (levels_behind t.kind n) ts

-- Each Dedent closes a level that an earlier Indent opened, and none is open in the end: there are as many Dedents as
-- Indents, and before no token are there more.
abbrev pub AreBalanced : List Token → Type 0
AreBalanced tokens = levels_after (Some 0) tokens ≡ Some 0

-- a place is another one, or stands before it
abbrev pub IsUpTo : Span → Span → Type 0
IsUpTo a b = (a.line < b.line) ⊎ ((a.line ≡ b.line) × (a.col ≤ b.col))

-- no token stands before an earlier one
abbrev pub AreInOrder : List Token → Type 0
AreInOrder tokens = AllPairs (λ t u. IsUpTo t.span u.span) tokens
