-- Laws above the definition of tokens: cutting a text into pieces loses nothing and moves nothing, and each token is spelled by the text at
-- its place.
use Rattle.std.specs.Prelude.{◌≡◌, ℕ, List, [], ◌∷◌, ◌++◌}
use Rattle.py_syntax.specs.declared.token.Span.{Span}
use Rattle.py_syntax.specs.declared.token.Token.{Token}
use Rattle.py_lexer.specs.declared.gap.Gap.{Gap}
use Rattle.py_lexer.specs.Places.{end_of}
use Rattle.py_lexer.specs.Pieces.{Kind, Between, Lexeme, Wrong, Piece}
use Rattle.py_lexer.specs.Spelling.{Spells, SpellsGap}

-- behind a fault nothing is cut; behind any other piece the next one begins
abbrev pub IfRight : Kind → Type 0 → Type 0 → Type 0
IfRight (Wrong f) none next = none
IfRight _ none next = next

-- a piece's characters spell it; `rest` is what stands behind them
abbrev pub SpellsPiece : Kind → List ℕ → List ℕ → Type 0
SpellsPiece (Between g) text rest = SpellsGap g text rest
SpellsPiece (Lexeme k) text rest = Spells k text rest
SpellsPiece _ text rest = Unit {0}

-- Pieces lie side by side from a place on: each begins where the one before ends, its characters are the next ones of the
-- text and spell it, and it ends behind them. Nothing of the text is left behind the last one, unless that is a fault.
abbrev pub AreSideBySide : Span → List ℕ → List Piece → Type 0
AreSideBySide at text [] = text ≡ []
AreSideBySide at text (p ∷ ps) =
    (p.from ≡ at) × IfRight p.kind (ps ≡ []) ((rest : List ℕ) × (text ≡ p.text ++ rest) × SpellsPiece p.kind p.text rest × (p.to ≡ end_of at p.text) × AreSideBySide p.to rest ps)

-- From a place on a text begins with these gaps, and behind them, at the place `to`, with `rest`.
abbrev pub AreGaps : Span → List ℕ → List Gap → Span → List ℕ → Type 0
AreGaps at text [] to rest = (at ≡ to) × (text ≡ rest)
AreGaps at text (g ∷ gs) to rest =
    (gap : List ℕ) × (others : List ℕ) × (text ≡ gap ++ others) × SpellsGap g gap others × AreGaps (end_of at gap) others gs to rest

-- From a place on a text begins with gaps, and behind them, at its own place, with what spells a token. `more` holds of the place
-- behind it and of what is left.
pub record BeginsWith (at : Span) (text : List ℕ) (t : Token) (more : Span → List ℕ → Type 0) : Type 0 where
  pub gaps : List Gap
  pub here : List ℕ
  pub own : List ℕ
  pub rest : List ℕ
  pub are_gaps : AreGaps at text gaps t.span here
  pub split : here ≡ own ++ rest
  pub spells : Spells t.kind own rest
  pub behind : more (end_of t.span own) rest

-- Tokens spell a text from a place on: it is what spells the tokens, each at its place, with nothing but gaps between them.
abbrev pub AreSpelled : List Token → Span → List ℕ → Type 0
AreSpelled [] at text = text ≡ []
AreSpelled (t ∷ ts) at text = BeginsWith at text t (AreSpelled ts)
