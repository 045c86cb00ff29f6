-- The pieces of a text lie side by side, each spelled by its characters.
use Rattle.std.proofs.Common.{◌≡◌, ℕ, zero, suc, ◌-◌, ◌<◌, ◌≤◌, List, [], ◌∷◌, ◌++◌, length, take, drop, min, Option, Some, None, Ok, Err, refl, ap, sym, subst, ◌∙◌, arith, length-drop}
use Rattle.std.specs.Prelude.{◌≢◌, IfOk, IfSome}
use Rattle.std.proofs.lemmas.List.{take-append-drop, take_min, append_cancel_right}
use Rattle.py_syntax.specs.declared.token.Span.{Span}
use Rattle.py_syntax.specs.declared.token.TokenKind.{TokenKind}
use Rattle.py_lexer.specs.declared.gap.Gap.{Gap}
use Rattle.py_lexer.specs.declared.placed.Placed.{Placed}
use Rattle.py_lexer.specs.Places.{line_feed_character, start, placed, end_of, place_of, characters, front_of}
use Rattle.py_lexer.specs.Places as places
use Rattle.py_lexer.specs.Reading.{Fault, Read}
use Rattle.py_lexer.specs.Pieces.{Kind, Between, Lexeme, Wrong, Over, Piece, piece, pieces, gap, lexeme, after_gap, after_lexeme}
use Rattle.py_lexer.specs.Tokens.{pieces_of}
use Rattle.py_lexer.specs.Spelling.{Spells, SpellsGap}
use Rattle.py_lexer.specs.Laws.{AreSideBySide, IfRight, SpellsPiece}
use Rattle.py_lexer.proofs.Spelled.{Spelled}
use Rattle.py_lexer.proofs.LexemeSpelled.{SpelledGap, lexeme_spelled, gap_spelled}
use Rattle.py_lexer.proofs.RestLemmas.{IsLess, GapLess, TokenLess, gap_less, lexeme_less}

-- characters that are placed: their number, what they are, what is left of them, and where that begins
pub length-placed : (s : Span) (cs : List ℕ) → length (placed s cs) ≡ length cs
length-placed s [] = refl
length-placed s (c ∷ cs) = ap suc (length-placed (places.behind c s) cs)

characters-take : (n : ℕ) (s : Span) (cs : List ℕ) → characters (take n (placed s cs)) ≡ take n cs
characters-take zero s cs = refl
characters-take (suc n) s [] = refl
characters-take (suc n) s (c ∷ cs) = ap (λ l. c ∷ l) (characters-take n (places.behind c s) cs)

drop-placed : (n : ℕ) (s : Span) (cs : List ℕ) → drop n (placed s cs) ≡ placed (end_of s (take n cs)) (drop n cs)
drop-placed zero s cs = refl
drop-placed (suc n) s [] = refl
drop-placed (suc n) s (c ∷ cs) = drop-placed n (places.behind c s) cs

pub end_of-append : (s : Span) (cs ds : List ℕ) → end_of s (cs ++ ds) ≡ end_of (end_of s cs) ds
end_of-append s [] ds = refl
end_of-append s (c ∷ cs) ds = end_of-append (places.behind c s) cs ds

place_of-placed : (s : Span) (cs : List ℕ) → place_of (end_of s cs) (placed s cs) ≡ s
place_of-placed s [] = refl
place_of-placed s (c ∷ cs) = refl

-- a piece that leaves less of a text, and what is left
record Cuts (s : Span) (cs : List ℕ) (rest : List Placed) : Type 0 where
  pub text : List ℕ
  pub others : List ℕ
  pub split : cs ≡ text ++ others
  pub left : rest ≡ placed (end_of s text) others
  pub front : front_of (placed s cs) rest ≡ text
  pub from : place_of (end_of s cs) (placed s cs) ≡ s
  pub to : place_of (end_of s cs) rest ≡ end_of s text
  pub end : end_of s cs ≡ end_of (end_of s text) others
  pub shorter : length others < length cs

same_front : (n m : ℕ) (cs : List ℕ) → m ≡ length cs - (length cs - n) → take m cs ≡ take n cs
same_front n m cs is = ap (λ k. take k cs) (let e : m ≡ min n (length cs) = omega arith in e) ∙ take_min n cs

cuts : (s : Span) (cs : List ℕ) (rest : List Placed) → IsLess (placed s cs) rest → Cuts s cs rest
cuts s cs rest less =
    let n = less.0 in
    let is_end : end_of s cs ≡ end_of (end_of s (take n cs)) (drop n cs) = ap (end_of s) (sym (take-append-drop n cs)) ∙ end_of-append s (take n cs) (drop n cs) in
    let left : rest ≡ placed (end_of s (take n cs)) (drop n cs) = less.1 ∙ drop-placed n s cs in
    record {
      text = take n cs;
      others = drop n cs;
      split = sym (take-append-drop n cs);
      left = left;
      front =
          characters-take (length (placed s cs) - length rest) s cs
          ∙ same_front n _ cs (let a = length-placed s cs in let b = ap length less.1 in omega (arith, length-drop n (placed s cs)));
      from = place_of-placed s cs;
      to = (λ i. place_of (is_end i) (left i)) ∙ place_of-placed (end_of s (take n cs)) (drop n cs);
      end = is_end;
      shorter = let a = length-placed s cs in let b = length-placed (end_of s (take n cs)) (drop n cs) in let l = ap length left in omega (arith, less.2);
    }

-- what was read spells the piece
characters-placed : (s : Span) (cs : List ℕ) → characters (placed s cs) ≡ cs
characters-placed s [] = refl
characters-placed s (c ∷ cs) = ap (λ l. c ∷ l) (characters-placed (places.behind c s) cs)

others_are : (s : Span) (cs : List ℕ) (rest : List Placed) (c : Cuts s cs rest) → characters rest ≡ c.others
others_are s cs rest c = ap characters c.left ∙ characters-placed (end_of s c.text) c.others

-- two texts before the same rest are one
same_text : (s : Span) (cs text : List ℕ) (rest : List Placed) (c : Cuts s cs rest) → characters (placed s cs) ≡ text ++ characters rest → text ≡ front_of (placed s cs) rest
same_text s cs text rest c split =
    let mine : cs ≡ text ++ c.others = sym (characters-placed s cs) ∙ split ∙ ap (λ l. text ++ l) (others_are s cs rest c) in
    append_cancel_right text c.text c.others (sym mine ∙ c.split) ∙ sym c.front

token_spelled : (s : Span) (cs : List ℕ) (k : TokenKind) (rest : List Placed) (c : Cuts s cs rest) → Spelled (placed s cs) k rest → Spells k (front_of (placed s cs) rest) c.others
token_spelled s cs k rest c h =
    subst (λ text. Spells k text c.others) (same_text s cs h.text rest c h.split) (subst (Spells k h.text) (others_are s cs rest c) h.spells)

between_spelled : (s : Span) (cs : List ℕ) (g : Gap) (rest : List Placed) (c : Cuts s cs rest) → SpelledGap (placed s cs) g rest → SpellsGap g (front_of (placed s cs) rest) c.others
between_spelled s cs g rest c h =
    subst (λ text. SpellsGap g text c.others) (same_text s cs h.text rest c h.split) (subst (SpellsGap g h.text) (others_are s cs rest c) h.spells)

right : (kind : Kind) (none next : Type 0) → ((f : Fault) → kind ≢ Wrong f) → next → IfRight kind none next
right (Between g) none next no_fault x = x
right (Lexeme k) none next no_fault x = x
right (Over line) none next no_fault x = x
right (Wrong f) none next no_fault x = absurd (no_fault f refl)

-- a piece that is no fault, and those behind it
onward : (s : Span) (cs : List ℕ) (kind : Kind) (rest : List Placed) (ps : List Piece) → ((f : Fault) → kind ≢ Wrong f) → (c : Cuts s cs rest) → SpellsPiece kind (front_of (placed s cs) rest) c.others → AreSideBySide (end_of s c.text) c.others ps → AreSideBySide s cs (piece (end_of s cs) kind (placed s cs) rest ∷ ps)
onward s cs kind rest ps no_fault c spelled more = (
  c.from,
  right kind _ _ no_fault (
    c.others,
    c.split ∙ ap (λ l. l ++ c.others) (sym c.front),
    spelled,
    c.to ∙ ap (end_of s) (sym c.front),
    subst (λ at. AreSideBySide at c.others ps) (sym c.to) more,
  ),
)

-- the pieces of any characters, at most n of them
abbrev Cut : ℕ → Type 0
Cut n = (s : Span) (cs : List ℕ) → length cs ≤ n → AreSideBySide s cs (pieces (end_of s cs) n (placed s cs))

others_cut : (n : ℕ) (s : Span) (cs : List ℕ) (rest : List Placed) → Cut n → length cs ≤ suc n → (c : Cuts s cs rest) → AreSideBySide (end_of s c.text) c.others (pieces (end_of s cs) n rest)
others_cut n s cs rest cut few c =
    subst (AreSideBySide (end_of s c.text) c.others) (sym (λ i. pieces (c.end i) n (c.left i))) (cut (end_of s c.text) c.others (omega (arith, c.shorter)))

lexeme_cuts : (n : ℕ) (s : Span) (cs : List ℕ) (r : Read TokenKind) → Cut n → length cs ≤ suc n → TokenLess (placed s cs) r → IfOk r (λ x. Spelled (placed s cs) x.0 x.1) → AreSideBySide s cs (after_lexeme (end_of s cs) (placed s cs) (pieces (end_of s cs) n) r)
lexeme_cuts n s cs (Ok x) cut few less spelled =
    let c = cuts s cs x.1 less.1 in
    onward s cs (Lexeme x.0) x.1 (pieces (end_of s cs) n x.1) (λ f e. cc) c (token_spelled s cs x.0 x.1 c spelled) (others_cut n s cs x.1 cut few c)
lexeme_cuts n s cs (Err f) cut few less spelled = (place_of-placed s cs, refl)

gap_cuts : (n : ℕ) (s : Span) (cs : List ℕ) (o : Option (Gap × List Placed)) → Cut n → 0 < length (placed s cs) → length cs ≤ suc n → GapLess (placed s cs) o → IfSome o (λ x. SpelledGap (placed s cs) x.0 x.1) → AreSideBySide s cs (after_gap (end_of s cs) (placed s cs) (pieces (end_of s cs) n) o)
gap_cuts n s cs (Some x) cut some few less spelled =
    let c = cuts s cs x.1 less in
    onward s cs (Between x.0) x.1 (pieces (end_of s cs) n x.1) (λ f e. cc) c (between_spelled s cs x.0 x.1 c spelled) (others_cut n s cs x.1 cut few c)
gap_cuts n s cs None cut some few less spelled =
    lexeme_cuts n s cs (lexeme (placed s cs)) cut few (lexeme_less (placed s cs) some) (lexeme_spelled (placed s cs))

cut_all : (n : ℕ) → Cut n
unfolding pieces
cut_all n s [] few = refl
cut_all zero s (c ∷ cs) few = absurd (omega arith)
cut_all (suc n) s (c ∷ cs) few =
    gap_cuts n s (c ∷ cs) (gap (placed s (c ∷ cs))) (cut_all n) (omega arith) few (gap_less (placed s (c ∷ cs)) (omega arith)) (gap_spelled (placed s (c ∷ cs)))

-- the law
pub side_by_side : (text : List ℕ) → AreSideBySide start text (pieces_of text)
side_by_side text = cut_all (length text) start text (omega arith)
