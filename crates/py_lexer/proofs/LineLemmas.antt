-- The ends of lines and of the text.
use Rattle.std.proofs.Common.{◌≡◌, ℕ, ◌≤◌, Bool, true, false, List, [], ◌∷◌, ◌++◌, Option, Some, None, Ok, Err, length, reverse, replicate, refl, ap, sym, ◌∙◌, arith, rules, le-leb}
use Rattle.std.specs.Prelude.{if◌then◌else◌, ◌&&◌, nat_lt}
use Rattle.std.specs.Option.{IsSome}
use Rattle.std.proofs.lemmas.List.{length-reverse}
use Rattle.py_syntax.specs.declared.token.Span.{Span}
use Rattle.py_syntax.specs.declared.token.Token.{Token}
use Rattle.py_syntax.specs.declared.token.TokenKind.{TokenKind}
use Rattle.py_syntax.specs.declared.token.TokenKind.TheVariants.{Newline, End}
use Rattle.py_lexer.specs.declared.fault.LexKind.TheVariants as fault
use Rattle.py_lexer.specs.declared.indent.Column.{Column}
use Rattle.py_lexer.specs.declared.reader.Bracket.TheVariants as bracket
use Rattle.py_lexer.specs.Pieces.{Piece, Lexeme}
use Rattle.py_lexer.specs.Lines.{LogicalLine, logical_lines, onto, over, nested, is_opening, is_line_end, too_deep, joined_by, open_behind}
use Rattle.py_lexer.specs.Indents.{margin}
use Rattle.py_lexer.specs.Tokens.{Item, token, laid, ending}
use Rattle.py_lexer.specs.Remaining.{items_from, behind, bracket_of, dedent}
use Rattle.py_lexer.proofs.RemainingLemmas.{behind_push, behind_fault, behind_none}

-- a line's beginning, where some tests of a first piece decide whether it is the line's end
begins_line : (end : Span) (levels : List Column) (line : ℕ) (b : Bool) (p : Piece) (ls : List LogicalLine) (others : List LogicalLine) →
    items_from end levels line margin true None (if b then record { line = line; pieces = [] } ∷ ls else onto line p others) ≡ laid end levels (if b then record { line = line; pieces = [] } ∷ ls else onto line p others)
begins_line end levels line true p ls others = refl
begins_line end levels line false p ls [] = refl
begins_line end levels line false p ls (l ∷ others) = refl

-- at the beginning of a line nothing is read of it
pub fresh : (end : Span) (levels : List Column) (line : ℕ) (ps : List Piece) → items_from end levels line margin true None (logical_lines line ps) ≡ laid end levels (logical_lines line ps)
fresh end levels line [] = refl
fresh end levels line (p ∷ ps) =
    begins_line end levels line (is_line_end p.kind) p (logical_lines p.to.line ps) (logical_lines line ps)

-- a line without a token ends
pub blank_ends : (end : Span) (ts : List Token) (levels : List Column) (old line l : ℕ) (at : Column) (is_leading : Bool) (last : Option Span) → last ≡ None → (ps : List Piece) →
    behind ts (items_from end levels old at is_leading last (record { line = l; pieces = [] } ∷ logical_lines line ps)) ≡ behind ts (items_from end levels line margin true None (logical_lines line ps))
blank_ends end ts levels old line l at is_leading last none ps =
    ap (λ o. behind ts (items_from end levels old at is_leading o (record { line = l; pieces = [] } ∷ logical_lines line ps))) none
    ∙ ap (behind ts) (sym (fresh end levels line ps))

-- a line with tokens ends
pub line_ends : (end : Span) (ts ts2 : List Token) (levels : List Column) (old line l : ℕ) (at : Column) (is_leading : Bool) (last : Option Span) (e : Span) → last ≡ Some e → ts2 ≡ ts ++ record { kind = Newline; span = e } ∷ [] → (ps : List Piece) →
    behind ts (items_from end levels old at is_leading last (record { line = l; pieces = [] } ∷ logical_lines line ps)) ≡ behind ts2 (items_from end levels line margin true None (logical_lines line ps))
line_ends end ts ts2 levels old line l at is_leading last e some pushed ps =
    ap (λ o. behind ts (items_from end levels old at is_leading o (record { line = l; pieces = [] } ∷ logical_lines line ps))) some
    ∙ sym (behind_push ts _ _)
    ∙ ap (λ ls. behind ls (laid end levels (logical_lines line ps))) (sym pushed)
    ∙ ap (behind ts2) (sym (fresh end levels line ps))

pub ruleset ends = (blank_ends, line_ends)

-- bracket 101
pub too_many : (end : Span) (ts : List Token) (levels : List Column) (line : ℕ) (at : Column) (is_leading : Bool) (last : Option Span) (e : Span) (joined : Option ℕ) (opened : List ℕ) (p : Piece) (ps : List Piece) → last ≡ Some e → is_opening p.kind ≡ true → 100 ≤ length opened →
    behind ts (items_from end levels line at is_leading last (logical_lines line (nested joined (reverse opened) (p ∷ ps)))) ≡ Err (p.from.line, fault.TooDeep)
too_many end ts levels line at is_leading last e joined opened p ps some opens many =
    let deep : 100 ≤ length (reverse opened) = omega (arith, length-reverse opened) in
    (λ i. behind ts (items_from end levels line at is_leading (some i) (logical_lines line (if opens i && le-leb 100 (length (reverse opened)) deep i then too_deep p ∷ [] else (if is_line_end p.kind && nat_lt 0 (length (reverse opened)) then nested None (reverse opened) ps else p ∷ nested (joined_by p) (open_behind (reverse opened) p) ps)))))
    ∙ behind_fault ts _ _

first_chosen : (a b : Bool) → (if a then bracket.Opening else (if b then bracket.Closing else bracket.Neither)) ≡ bracket.Opening → a ≡ true
first_chosen true b e = refl
first_chosen false true e = cc
first_chosen false false e = cc

pub opens_from : (k : TokenKind) → bracket_of k ≡ bracket.Opening → is_opening (Lexeme k) ≡ true
opens_from k e = first_chosen _ _ e

pub some_of : {X : Type 0} (o : Option X) → IsSome o → (x : X) × (o ≡ Some x)
some_of None h = absurd (search (rules, h))
some_of (Some x) h = (x, refl)

-- the text ends in an open bracket or behind a join
pub is_over : (end : Span) (ts : List Token) (levels : List Column) (line : ℕ) (at : Column) (is_leading : Bool) (last : Option Span) (open_line : ℕ) → behind ts (items_from end levels line at is_leading last (logical_lines line (over open_line ∷ []))) ≡ Err (open_line, fault.Unended)
is_over end ts levels line at is_leading None open_line = behind_fault ts _ _
is_over end ts levels line at is_leading (Some e) open_line = behind_fault ts _ _

-- no line is as good as one with nothing in it
no_lines : (end : Span) (levels : List Column) (line l : ℕ) (at : Column) (is_leading : Bool) (last : Option Span) → items_from end levels line at is_leading last [] ≡ items_from end levels line at is_leading last (record { line = l; pieces = [] } ∷ [])
no_lines end levels line l at true None = refl
no_lines end levels line l at false None = refl
no_lines end levels line l at is_leading (Some e) = refl

-- behind the last line all levels close
at_end : (end : Span) (ts : List Token) (levels : List Column) (line : ℕ) (at : Column) (is_leading : Bool) → behind ts (items_from end levels line at is_leading None []) ≡ behind ts (ending end levels)
at_end end ts levels line at true = refl
at_end end ts levels line at false = refl

pub finished : (end : Span) (ts ts2 ts3 all : List Token) (levels : List Column) (line : ℕ) (at : Column) (is_leading : Bool) (last : Option Span) (levels2 : List Column) (next line2 : ℕ) (at2 : Column) (is_leading2 : Bool) (last2 : Option Span) (n : ℕ) (ps : List Piece) →
    ps ≡ [] →
    ((l : ℕ) (qs : List Piece) → behind ts (items_from end levels line at is_leading last (record { line = l; pieces = [] } ∷ logical_lines next qs)) ≡ behind ts2 (items_from end (reverse levels2) line2 at2 is_leading2 last2 (logical_lines next qs))) →
    last2 ≡ None →
    n ≡ length levels2 →
    ((items : List Item) → behind ts2 (replicate n (dedent end) ++ items) ≡ behind ts3 items) →
    all ≡ ts3 ++ record { kind = End; span = end } ∷ [] →
    behind ts (items_from end levels line at is_leading last (logical_lines line ps)) ≡ Ok all
finished end ts ts2 ts3 all levels line at is_leading last levels2 next line2 at2 is_leading2 last2 n ps none ended bare count closed pushed =
    ap (λ o. behind ts (items_from end levels line at is_leading last (logical_lines line o))) none
    ∙ ap (behind ts) (no_lines end levels line 0 at is_leading last)
    ∙ ended 0 []
    ∙ ap (λ o. behind ts2 (items_from end (reverse levels2) line2 at2 is_leading2 o [])) bare
    ∙ at_end end ts2 (reverse levels2) line2 at2 is_leading2
    ∙ ap (λ k. behind ts2 (replicate k (dedent end) ++ token end End ∷ [])) (length-reverse levels2 ∙ sym count)
    ∙ closed _
    ∙ sym (behind_push ts3 _ [])
    ∙ ap (λ l. behind l []) (sym pushed)
    ∙ behind_none all
