-- Each token of a text is fit.
use Rattle.std.proofs.Common.{◌≡◌, ℕ, zero, suc, true, List, [], ◌∷◌, Some, Ok, subst, slice_get}
use lib.Utf8.{scalars}
use Rattle.py_syntax.specs.declared.token.Span.{Span}
use Rattle.py_syntax.specs.declared.token.Token.{Token}
use Rattle.py_syntax.specs.declared.token.TokenKind.{TokenKind}
use Rattle.py_syntax.specs.declared.token.TokenKind.TheVariants as kind
use Rattle.py_lexer.specs.Places.{start, plain, end_of}
use Rattle.py_lexer.specs.Spelling.{Spells}
use Rattle.py_lexer.specs.Laws.{AreGaps, AreSpelled}
use Rattle.py_lexer.proofs.TokenLaws.{gives_spelling}
use Rattle.py_lexer_laws.specs.Laws.{IsFit, TokensAreFit}
use Rattle.py_lexer_laws.proofs.Characters.{plain_scalars, scalars_front, scalars_rest}
use Rattle.py_lexer_laws.proofs.Words.{name_is_word}
use Rattle.py_lexer_laws.proofs.Texts.{string_is_text}

spelled_fit : (k : TokenKind) (text rest : List ℕ) → scalars text ≡ true → Spells k text rest → IsFit k
spelled_fit (kind.Name name) text rest h s = name_is_word name text rest s
spelled_fit (kind.Int n) text rest h s = record { n = s.n; value = s.value; fits = s.fits }
spelled_fit (kind.Str string) text rest h s = string_is_text string text rest h s
spelled_fit k text rest h s = tt

behind_gaps : (gs : List _) (at : Span) (text : List ℕ) (to : Span) (rest : List ℕ) → AreGaps at text gs to rest → scalars text ≡ true → scalars rest ≡ true
behind_gaps [] at text to rest g h = subst (λ l. scalars l ≡ true) g.1 h
behind_gaps (x ∷ gs) at text to rest g h = behind_gaps gs (end_of at g.0) g.1 to rest g.4 (scalars_rest g.0 g.1 (subst (λ l. scalars l ≡ true) g.2 h))

all_fit : (ts : List Token) (at : Span) (text : List ℕ) → scalars text ≡ true → AreSpelled ts at text → (i : ℕ) (t : Token) → slice_get ts i ≡ Some t → IsFit t.kind
all_fit [] at text h s i t e = absurd (cc)
all_fit (u ∷ ts) at text h s zero t e =
    let own = subst (λ l. scalars l ≡ true) s.split (behind_gaps s.gaps at text u.span s.here s.are_gaps h) in
    let same : u ≡ t = cc in
    subst (λ (x : Token). IsFit x.kind) same (spelled_fit u.kind s.own s.rest (scalars_front s.own s.rest own) s.spells)
all_fit (u ∷ ts) at text h s (suc i) t e =
    let own = subst (λ l. scalars l ≡ true) s.split (behind_gaps s.gaps at text u.span s.here s.are_gaps h) in
    all_fit ts (end_of u.span s.own) s.rest (scalars_rest s.own s.rest own) s.behind i t e

pub tokens_fit : TokensAreFit
tokens_fit text h ts is = all_fit ts start (plain text) (plain_scalars text h) (gives_spelling (Ok (record { list = ts })) text is)
