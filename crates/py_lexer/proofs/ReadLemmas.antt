-- The pieces of a text, one by one.
use Rattle.std.proofs.Common.{◌≡◌, ℕ, suc, ◌<◌, ◌≤◌, ◌-◌, List, [], ◌∷◌, Option, Some, None, Ok, Err, Result, Bool, true, false, refl, ap, sym, ◌∙◌, subst, arith, length, reverse}
use Rattle.std.specs.Prelude.{if◌then◌else◌, ◌&&◌, nat_le}
use Rattle.std.specs.Option.{IsSome}
use Rattle.py_syntax.specs.declared.token.Span.{Span}
use Rattle.py_syntax.specs.declared.token.Token.{Token}
use Rattle.py_syntax.specs.declared.token.TokenKind.{TokenKind}
use Rattle.py_lexer.specs.declared.fault.LexError.{LexError}
use Rattle.py_lexer.specs.declared.fault.LexError.TheVariants as error
use Rattle.py_lexer.specs.declared.gap.Gap.{Gap}
use Rattle.py_lexer.specs.declared.indent.Column.{Column}
use Rattle.py_lexer.specs.declared.placed.Placed.{Placed}
use Rattle.py_lexer.specs.declared.reader.Reader.{Reader}
use Rattle.py_lexer.specs.Places.{place_of, front_of, plain, placed, start, end_of}
use Rattle.py_lexer.specs.Reading.{Fault, Fails, Read}
use Rattle.py_lexer.specs.Pieces.{Piece, Between, Lexeme, Wrong, piece, pieces, gap, lexeme, after_gap, after_lexeme}
use Rattle.py_lexer.specs.Lines.{LogicalLine, logical_lines, nested, onto, is_opening, too_deep, open_behind, unclosed}
use Rattle.py_lexer.specs.Tokens.{tokens_of}
use Rattle.py_lexer.specs.Remaining.{items_from, behind, with_lines, remaining, whole, IsToken}
use Rattle.py_lexer.proofs.LineLemmas.{some_of}
use Rattle.py_lexer.proofs.PieceLemmas.{length-placed}
use Rattle.py_lexer.proofs.RemainingLemmas.{behind_fault}

one_piece : (end : Span) (n : ℕ) (cs : List Placed) → 0 < length cs → pieces end (suc n) cs ≡ after_gap end cs (pieces end n) (gap cs)
unfolding pieces
one_piece end n [] h = absurd (omega arith)
one_piece end n (c ∷ cs) h = refl

pub gap_first : (end : Span) (n : ℕ) (cs : List Placed) (g : Gap) (after : List Placed) → 0 < length cs → Some (g, after) ≡ gap cs → pieces end (suc n) cs ≡ piece end (Between g) cs after ∷ pieces end n after
gap_first end n cs g after h is = one_piece end n cs h ∙ ap (after_gap end cs (pieces end n)) (sym is)

pub token_first : (end : Span) (n : ℕ) (cs : List Placed) (k : TokenKind) (after : List Placed) → 0 < length cs → None ≡ gap cs → lexeme cs ≡ Ok (k, after) → pieces end (suc n) cs ≡ piece end (Lexeme k) cs after ∷ pieces end n after
token_first end n cs k after h none is =
    one_piece end n cs h ∙ ap (after_gap end cs (pieces end n)) (sym none) ∙ ap (after_lexeme end cs (pieces end n)) is

wrong_first : (end : Span) (n : ℕ) (cs : List Placed) (f : Fault) → 0 < length cs → None ≡ gap cs → lexeme cs ≡ Err f → pieces end (suc n) cs ≡ piece end (Wrong f) cs cs ∷ []
wrong_first end n cs f h none is =
    one_piece end n cs h ∙ ap (after_gap end cs (pieces end n)) (sym none) ∙ ap (after_lexeme end cs (pieces end n)) is

-- the first line of pieces that begin with a token, whatever stands before it
record Begins (from : Span) (opened : List ℕ) (line : ℕ) (ps : List Piece) : Type 0 where
  pub first : Piece
  pub others : List LogicalLine
  pub is_token : IsToken first.kind
  pub begins : first.from ≡ from
  pub split : (joined : Option ℕ) → logical_lines line (nested joined opened ps) ≡ onto line first others

by_depth : (b : Bool) (k : TokenKind) (text : List ℕ) (from to : Span) (opened : List ℕ) (line : ℕ) (ps : List Piece) →
    let p : Piece = record { kind = Lexeme k; text = text; from = from; to = to } in
    (is_opening (Lexeme k) && nat_le 100 (length opened)) ≡ b → Begins from opened line (p ∷ ps)
by_depth true k text from to opened line ps e =
    let p : Piece = record { kind = Lexeme k; text = text; from = from; to = to } in
    record {
      first = too_deep p;
      others = [];
      is_token = tt;
      begins = refl;
      split = λ joined. ap (λ b. logical_lines line (if b then too_deep p ∷ [] else p ∷ nested None (open_behind opened p) ps)) e;
    }
by_depth false k text from to opened line ps e =
    let p : Piece = record { kind = Lexeme k; text = text; from = from; to = to } in
    record {
      first = p;
      others = logical_lines line (nested None (open_behind opened p) ps);
      is_token = tt;
      begins = refl;
      split = λ joined. ap (λ b. logical_lines line (if b then too_deep p ∷ [] else p ∷ nested None (open_behind opened p) ps)) e;
    }

begins_by : (end : Span) (n : ℕ) (cs : List Placed) (opened : List ℕ) (line : ℕ) (r : Read TokenKind) → 0 < length cs → None ≡ gap cs → lexeme cs ≡ r → Begins (place_of end cs) opened line (pieces end (suc n) cs)
begins_by end n cs opened line (Ok x) h none is =
    subst (Begins (place_of end cs) opened line) (sym (token_first end n cs x.0 x.1 h none is)) (by_depth _ x.0 (front_of cs x.1) (place_of end cs) (place_of end x.1) opened line (pieces end n x.1) refl)
begins_by end n cs opened line (Err f) h none is =
    subst (Begins (place_of end cs) opened line) (sym (wrong_first end n cs f h none is))
    (record { first = piece end (Wrong f) cs cs; others = logical_lines line (unclosed None opened); is_token = tt; begins = refl; split = λ joined. refl })

-- what is no gap begins with a token
pieces_begin : (end from : Span) (n : ℕ) (cs : List Placed) (opened : List ℕ) (line : ℕ) → from ≡ place_of end cs → 0 < length cs → None ≡ gap cs → Begins from opened line (pieces end (suc n) cs)
pieces_begin end from n cs opened line at h none =
    subst (λ (f : Span). Begins f opened line (pieces end (suc n) cs)) (sym at) (begins_by end n cs opened line _ h none refl)

-- the levels of the line are found, and nothing else changes
pub begun : (end from : Span) (old new : Reader) (n : ℕ) (cs : List Placed) → from ≡ place_of end cs → 0 < length cs → None ≡ gap cs → new.brackets.items ≡ old.brackets.items → new.line ≡ old.line →
    ((p : Piece) (ls : List LogicalLine) → IsToken p.kind → p.from ≡ from → with_lines end old (onto old.line p ls) ≡ with_lines end new (onto old.line p ls)) →
    remaining end old (pieces end (suc n) cs) ≡ remaining end new (pieces end (suc n) cs)
begun end from old new n cs at h none same same_line keeps =
    let b = pieces_begin end from n cs (reverse old.brackets.items) old.line at h none in
    ap (with_lines end old) (b.split old.joined)
    ∙ keeps b.first b.others b.is_token b.begins
    ∙ sym (ap (with_lines end new) ((λ i. logical_lines (same_line i) (nested new.joined (reverse (same i)) (pieces end (suc n) cs))) ∙ b.split new.joined))

pub fails_along : (e : LexError) (x y : Result (List Token) Fault) → x ≡ y → Fails e y → Fails e x
fails_along error.Memory x y is k = tt
fails_along (error.Fault line kind) x y is k = is ∙ k

-- the same where the levels are wrong
pub begun_fails : (end from : Span) (old : Reader) (n : ℕ) (cs : List Placed) (e : LexError) → from ≡ place_of end cs → 0 < length cs → None ≡ gap cs →
    ((p : Piece) (ls : List LogicalLine) → IsToken p.kind → p.from ≡ from → Fails e (with_lines end old (onto old.line p ls))) →
    Fails e (remaining end old (pieces end (suc n) cs))
begun_fails end from old n cs e at h none fails =
    let b = pieces_begin end from n cs (reverse old.brackets.items) old.line at h none in
    fails_along e _ _ (ap (with_lines end old) (b.split old.joined)) (fails b.first b.others b.is_token b.begins)

wrong_onto : (end : Span) (ts : List Token) (levels : List Column) (line : ℕ) (at : Column) (is_leading : Bool) (e : Span) (f : Fault) (cs : List Placed) (ls : List LogicalLine) → behind ts (items_from end levels line at is_leading (Some e) (onto line (piece end (Wrong f) cs cs) ls)) ≡ Err f
wrong_onto end ts levels line at is_leading e f cs [] = behind_fault ts _ _
wrong_onto end ts levels line at is_leading e f cs (l ∷ ls) = behind_fault ts _ _

wrong_now : (end : Span) (r : Reader) (f : Fault) (cs : List Placed) (e : Span) → r.last ≡ Some e → remaining end r (piece end (Wrong f) cs cs ∷ []) ≡ Err f
wrong_now end r f cs e is =
    ap (λ o. behind r.tokens.items (items_from end (reverse r.levels.items) r.line r.column r.is_leading o (logical_lines r.line (nested r.joined (reverse r.brackets.items) (piece end (Wrong f) cs cs ∷ []))))) is
    ∙ wrong_onto end r.tokens.items (reverse r.levels.items) r.line r.column r.is_leading e f cs _

-- a token is wrong
pub fails_now : (end : Span) (n : ℕ) (r : Reader) (cs : List Placed) (e : LexError) → 0 < length cs → None ≡ gap cs → IsSome r.last → Fails e (lexeme cs) → Fails e (remaining end r (pieces end (suc n) cs))
fails_now end n r cs error.Memory h none is fails = tt
fails_now end n r cs (error.Fault line kind) h none is fails =
    let e = some_of r.last is in
    ap (remaining end r) (wrong_first end n cs (line, kind) h none fails) ∙ wrong_now end r (line, kind) cs e.0 e.1

pub one_more : (n k : ℕ) → 0 < k → k ≤ n → n ≡ suc (n - 1)
one_more n k h le = omega arith

pub none_left : (end : Span) (n : ℕ) (cs : List Placed) → cs ≡ [] → pieces end n cs ≡ []
unfolding pieces
none_left end n cs h = ap (pieces end n) h

-- the whole text, through its plain characters and their places
pub from_text : (cs plain_cs : List ℕ) (text : List Placed) (end : Span) → plain_cs ≡ plain cs → text ≡ placed start plain_cs → end ≡ end_of start plain_cs → whole end (pieces end (length text) text) ≡ tokens_of cs
unfolding tokens_of
from_text cs plain_cs text end is_plain is_placed is_end =
    (λ i. whole (is_end i) (pieces (is_end i) (length (is_placed i)) (is_placed i)))
    ∙ ap (λ n. whole (end_of start plain_cs) (pieces (end_of start plain_cs) n (placed start plain_cs))) (length-placed start plain_cs)
    ∙ ap (λ p. whole (end_of start p) (pieces (end_of start p) (length p) (placed start p))) is_plain
