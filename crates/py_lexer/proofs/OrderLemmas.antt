-- The pieces of a text spell it in order, and so do its lines.
use Rattle.std.proofs.Common.{◌≡◌, ℕ, zero, suc, Bool, true, false, List, [], ◌∷◌, ◌++◌, length, Option, Some, None, Ok, Err, refl, ap, sym, subst, ◌∙◌, arith}
use Rattle.std.specs.Prelude.{if◌then◌else◌, ◌&&◌, nat_lt, nat_le}
use Rattle.std.specs.List.{AllByRecursion}
use Rattle.py_syntax.specs.declared.token.Span.{Span}
use Rattle.py_syntax.specs.declared.token.TokenKind.{TokenKind}
use Rattle.py_lexer.specs.declared.gap.Gap.{Gap}
use Rattle.py_lexer.specs.declared.placed.Placed.{Placed}
use Rattle.py_lexer.specs.Places.{end_of}
use Rattle.py_lexer.specs.Spelling.{Spells, SpellsGap}
use Rattle.py_lexer.specs.Laws.{AreSideBySide, AreGaps}
use Rattle.py_lexer.specs.Reading.{Read}
use Rattle.py_lexer.specs.Pieces.{Kind, Between, Lexeme, Wrong, Over, Piece, pieces, gap, lexeme, after_gap, after_lexeme}
use Rattle.py_lexer.specs.Lines.{most_levels, LogicalLine, logical_lines, nested, unclosed, too_deep, onto, is_opening, is_line_end, joined_by, open_behind}
use Rattle.py_lexer.proofs.PieceLemmas.{end_of-append}
use Rattle.py_lexer.proofs.RestLemmas.{IsWritten, TokenLess, lexeme_less}

-- One rest of a text lies behind another one, with nothing but gaps between. A rest is where it begins, and its characters.
abbrev pub IsPast : Span → List ℕ → Span → List ℕ → Type 0
IsPast a x b y = (gs : List Gap) × AreGaps a x gs b y

pub past_self : (a : Span) (x : List ℕ) → IsPast a x a x
past_self a x = ([], (refl, refl))

gaps_along : (gs hs : List Gap) (a : Span) (x : List ℕ) (b : Span) (y : List ℕ) (c : Span) (z : List ℕ) → AreGaps a x gs b y → AreGaps b y hs c z → AreGaps a x (gs ++ hs) c z
gaps_along [] hs a x b y c z h k =
    subst (λ s. AreGaps s x hs c z) (sym h.0) (subst (λ l. AreGaps b l hs c z) (sym h.1) k)
gaps_along (g ∷ gs) hs a x b y c z h k = (h.0, h.1, h.2, h.3, gaps_along gs hs (end_of a h.0) h.1 b y c z h.4 k)

pub past_along : (a : Span) (x : List ℕ) (b : Span) (y : List ℕ) (c : Span) (z : List ℕ) → IsPast a x b y → IsPast b y c z → IsPast a x c z
past_along a x b y c z h k = (h.0 ++ k.0, gaps_along h.0 k.0 a x b y c z h.1 k.1)

past_one : (g : Gap) (text rest all : List ℕ) (from to : Span) → all ≡ text ++ rest → SpellsGap g text rest → to ≡ end_of from text → IsPast from all to rest
past_one g text rest all from to split spells is_to = (g ∷ [], (text, rest, split, spells, (sym is_to, refl)))

-- a gap behind a rest, and what holds of the rest behind the gap
pub record Passed (at : Span) (text : List ℕ) (from to : Span) (more : List ℕ → Type 0) : Type 0 where
  pub here : List ℕ
  pub next : List ℕ
  pub before : IsPast at text from here
  pub over : IsPast from here to next
  pub behind : more next

-- the same of a token
pub record Written (k : TokenKind) (at : Span) (text : List ℕ) (from to : Span) (more : List ℕ → Type 0) : Type 0 where
  pub here : List ℕ
  pub own : List ℕ
  pub rest : List ℕ
  pub is : IsWritten k
  pub before : IsPast at text from here
  pub split : here ≡ own ++ rest
  pub spells : Spells k own rest
  pub ends : to ≡ end_of from own
  pub behind : more rest

-- a place that is reached behind gaps
pub record Reached (at : Span) (text : List ℕ) (from : Span) : Type 0 where
  pub here : List ℕ
  pub before : IsPast at text from here

-- Pieces that spell a text in order, and what holds of what is left behind them. Behind a fault nothing is asked.
abbrev pub Step : Kind → (at : Span) (text : List ℕ) (from to : Span) → (List ℕ → Type 0) → Type 0
Step (Between g) at text from to more = Passed at text from to more
Step (Lexeme k) at text from to more = Written k at text from to more
Step (Wrong f) at text from to more = Reached at text from
Step (Over line) at text from to more = Unit {0}

abbrev pub InOrder : Span → List ℕ → List Piece → (Span → List ℕ → Type 0) → Type 0
InOrder at text [] more = more at text
InOrder at text (p ∷ ps) more = Step p.kind at text p.from p.to (λ rest. InOrder p.to rest ps more)

pub step_sooner : (k : Kind) (a : Span) (x : List ℕ) (b : Span) (y : List ℕ) (from to : Span) (more : List ℕ → Type 0) → IsPast a x b y → Step k b y from to more → Step k a x from to more
step_sooner (Between g) a x b y from to more h s = record {
  here = s.here;
  next = s.next;
  before = past_along a x b y from s.here h s.before;
  over = s.over;
  behind = s.behind;
}
step_sooner (Lexeme k) a x b y from to more h s = record {
  here = s.here;
  own = s.own;
  rest = s.rest;
  is = s.is;
  before = past_along a x b y from s.here h s.before;
  split = s.split;
  spells = s.spells;
  ends = s.ends;
  behind = s.behind;
}
step_sooner (Wrong f) a x b y from to more h s = record { here = s.here; before = past_along a x b y from s.here h s.before }
step_sooner (Over line) a x b y from to more h s = tt

pub step_on : (k : Kind) (at : Span) (text : List ℕ) (from to : Span) (more more2 : List ℕ → Type 0) → ((rest : List ℕ) → more rest → more2 rest) → Step k at text from to more → Step k at text from to more2
step_on (Between g) at text from to more more2 f s = record { here = s.here; next = s.next; before = s.before; over = s.over; behind = f s.next s.behind }
step_on (Lexeme k) at text from to more more2 f s = record {
  here = s.here;
  own = s.own;
  rest = s.rest;
  is = s.is;
  before = s.before;
  split = s.split;
  spells = s.spells;
  ends = s.ends;
  behind = f s.rest s.behind;
}
step_on (Wrong f) at text from to more more2 g s = s
step_on (Over line) at text from to more more2 g s = tt

-- what holds of a rest also holds before the gaps in front of it
abbrev pub HoldsSooner : (Span → List ℕ → Type 0) → Type 0
HoldsSooner more = (a : Span) (x : List ℕ) (b : Span) (y : List ℕ) → IsPast a x b y → more b y → more a x

pub sooner : (a : Span) (x : List ℕ) (b : Span) (y : List ℕ) (ps : List Piece) (more : Span → List ℕ → Type 0) → HoldsSooner more → IsPast a x b y → InOrder b y ps more → InOrder a x ps more
sooner a x b y [] more mono h s = mono a x b y h s
sooner a x b y (p ∷ ps) more mono h s = step_sooner p.kind a x b y p.from p.to (λ rest. InOrder p.to rest ps more) h s

abbrev pub LinesInOrder : Span → Span → List ℕ → List LogicalLine → Type 0
LinesInOrder end at text [] = IsPast at text end []
LinesInOrder end at text (l ∷ ls) = InOrder at text l.pieces (λ b y. LinesInOrder end b y ls)

pub lines_sooner : (end : Span) (ls : List LogicalLine) → HoldsSooner (λ at text. LinesInOrder end at text ls)
lines_sooner end [] a x b y h s = past_along a x b y end [] h s
lines_sooner end (l ∷ ls) a x b y h s = sooner a x b y l.pieces (λ c z. LinesInOrder end c z ls) (lines_sooner end ls) h s

-- the pieces between brackets, and in logical lines
begins_after : (k : Kind) (at : Span) (text : List ℕ) (from to : Span) (more : List ℕ → Type 0) → is_opening k ≡ true → Step k at text from to more → Reached at text from
begins_after (Between g) at text from to more is s = record { here = s.here; before = s.before }
begins_after (Lexeme k) at text from to more is s = record { here = s.here; before = s.before }
begins_after (Wrong f) at text from to more is s = s
begins_after (Over line) at text from to more is s = cc

passed : (k : Kind) (at : Span) (text : List ℕ) (from to : Span) (more : List ℕ → Type 0) → is_line_end k ≡ true → Step k at text from to more → (next : List ℕ) × IsPast at text to next × more next
passed (Between g) at text from to more is s = (s.next, past_along at text from s.here to s.next s.before s.over, s.behind)
passed (Lexeme k) at text from to more is s = cc
passed (Wrong f) at text from to more is s = cc
passed (Over line) at text from to more is s = cc

both_true : (a b : Bool) → (a && b) ≡ true → a ≡ true
both_true true b is = refl
both_true false b is = is

module _ (end : Span) where
  -- nothing but gaps is left
  abbrev pub IsLeft : Span → List ℕ → Type 0
  IsLeft at text = IsPast at text end []

  left_sooner : HoldsSooner IsLeft
  left_sooner a x b y h k = past_along a x b y end [] h k

  nested_cases : (deep inside : Bool) (p : Piece) (at : Span) (text : List ℕ) (next dropped : List Piece) → (deep ≡ true → Reached at text p.from) → (inside ≡ true → InOrder at text dropped IsLeft) → InOrder at text (p ∷ next) IsLeft →
      InOrder at text (if deep then too_deep p ∷ [] else (if inside then dropped else p ∷ next)) IsLeft
  nested_cases true inside p at text next dropped from skip s = from refl
  nested_cases false true p at text next dropped from skip s = skip refl
  nested_cases false false p at text next dropped from skip s = s

  unclosed_in_order : (joined : Option ℕ) (opened : List ℕ) (at : Span) (text : List ℕ) → IsLeft at text → InOrder at text (unclosed joined opened) IsLeft
  unclosed_in_order None [] at text s = s
  unclosed_in_order (Some line) [] at text s = tt
  unclosed_in_order None (line ∷ opened) at text s = tt
  unclosed_in_order (Some j) (line ∷ opened) at text s = tt

  pub nested_in_order : (ps : List Piece) (joined : Option ℕ) (opened : List ℕ) (at : Span) (text : List ℕ) → InOrder at text ps IsLeft → InOrder at text (nested joined opened ps) IsLeft
  nested_in_order [] joined opened at text s = unclosed_in_order joined opened at text s
  nested_in_order (p ∷ ps) joined opened at text s =
      let here : List ℕ → Type 0 = λ rest. InOrder p.to rest ps IsLeft in
      nested_cases (is_opening p.kind && nat_le most_levels (length opened)) (is_line_end p.kind && nat_lt 0 (length opened)) p at text (nested (joined_by p) (open_behind opened p) ps) (nested None opened ps)
      (λ is. begins_after p.kind at text p.from p.to here (both_true _ _ is) s)
      (λ is. let h = passed p.kind at text p.from p.to here (both_true _ _ is) s in sooner at text p.to h.0 (nested None opened ps) IsLeft left_sooner h.1 (nested_in_order ps None opened p.to h.0 h.2))
      (step_on p.kind at text p.from p.to here _ (λ rest. nested_in_order ps (joined_by p) (open_behind opened p) p.to rest) s)

  onto_in_order : (line : ℕ) (p : Piece) (ls : List LogicalLine) (at : Span) (text : List ℕ) → Step p.kind at text p.from p.to (λ rest. LinesInOrder end p.to rest ls) → LinesInOrder end at text (onto line p ls)
  onto_in_order line p [] at text s = s
  onto_in_order line p (l ∷ ls) at text s = s

  lines_cases : (ended : Bool) (line : ℕ) (p : Piece) (at : Span) (text : List ℕ) (next others : List LogicalLine) → (ended ≡ true → LinesInOrder end at text next) → LinesInOrder end at text (onto line p others) →
      LinesInOrder end at text (if ended then record { line = line; pieces = [] } ∷ next else onto line p others)
  lines_cases true line p at text next others over s = over refl
  lines_cases false line p at text next others over s = s

  pub lines_in_order : (ps : List Piece) (line : ℕ) (at : Span) (text : List ℕ) → InOrder at text ps IsLeft → LinesInOrder end at text (logical_lines line ps)
  lines_in_order [] line at text s = s
  lines_in_order (p ∷ ps) line at text s =
      let here : List ℕ → Type 0 = λ rest. InOrder p.to rest ps IsLeft in
      lines_cases (is_line_end p.kind) line p at text (logical_lines p.to.line ps) (logical_lines line ps)
      (λ is. let h = passed p.kind at text p.from p.to here is s in lines_sooner end (logical_lines p.to.line ps) at text p.to h.0 h.1 (lines_in_order ps p.to.line p.to h.0 h.2))
      (onto_in_order line p (logical_lines line ps) at text (step_on p.kind at text p.from p.to here _ (λ rest. lines_in_order ps line p.to rest) s))

-- each token among the pieces is one that a text writes
abbrev pub WritesTokens : Piece → Type 0
WritesTokens p = elim p.kind [ Lexeme k ↦ IsWritten k | _ ↦ Unit {0} ]

pub lexeme_written : (end : Span) (cs : List Placed) (more : List Placed → List Piece) (r : Read TokenKind) → TokenLess cs r → ((rest : List Placed) → AllByRecursion WritesTokens (more rest)) → AllByRecursion WritesTokens (after_lexeme end cs more r)
lexeme_written end cs more (Ok x) less all = (less.0, all x.1)
lexeme_written end cs more (Err f) less all = (tt, tt)

pub gap_written : (end : Span) (cs : List Placed) (more : List Placed → List Piece) (o : Option (Gap × List Placed)) → TokenLess cs (lexeme cs) → ((rest : List Placed) → AllByRecursion WritesTokens (more rest)) → AllByRecursion WritesTokens (after_gap end cs more o)
gap_written end cs more (Some x) less all = (tt, all x.1)
gap_written end cs more None less all = lexeme_written end cs more (lexeme cs) less all

pub all_written : (n : ℕ) (end : Span) (cs : List Placed) → AllByRecursion WritesTokens (pieces end n cs)
unfolding pieces
all_written n end [] = tt
all_written zero end (c ∷ cs) = tt
all_written (suc n) end (c ∷ cs) =
    gap_written end (c ∷ cs) (pieces end n) (gap (c ∷ cs)) (lexeme_less (c ∷ cs) (omega arith)) (λ rest. all_written n end rest)

-- pieces that lie side by side are in order
end_behind : (end : Span) (text all rest : List ℕ) (to at : Span) → end ≡ end_of at all → all ≡ text ++ rest → to ≡ end_of at text → end ≡ end_of to rest
end_behind end text all rest to at at_end split is_to =
    at_end ∙ ap (end_of at) split ∙ end_of-append at text rest ∙ ap (λ s. end_of s rest) (sym is_to)

past_same : (at from : Span) (text : List ℕ) → from ≡ at → IsPast at text from text
past_same at from text is = ([], (sym is, refl))

along : (at from to : Span) (text : List ℕ) → from ≡ at → to ≡ end_of at text → to ≡ end_of from text
along at from to text is is_to = is_to ∙ ap (λ s. end_of s text) (sym is)

module _ (end : Span) where
  kind_in_order : (k : Kind) (text : List ℕ) (from to at : Span) (all : List ℕ) (ps : List Piece) → WritesTokens (record { kind = k; text = text; from = from; to = to }) → AreSideBySide at all (record { kind = k; text = text; from = from; to = to } ∷ ps) → end ≡ end_of at all →
      ((rest : List ℕ) → AreSideBySide to rest ps → end ≡ end_of to rest → InOrder to rest ps (IsLeft end)) →
      Step k at all from to (λ rest. InOrder to rest ps (IsLeft end))
  kind_in_order (Between g) text from to at all ps is s at_end more =
      let next = s.1 in
      record {
        here = all;
        next = next.0;
        before = past_same at from all s.0;
        over = past_one g text next.0 all from to next.1 next.2 (along at from to text s.0 next.3);
        behind = more next.0 next.4 (end_behind end text all next.0 to at at_end next.1 next.3);
      }
  kind_in_order (Lexeme k) text from to at all ps is s at_end more =
      let next = s.1 in
      record {
        here = all;
        own = text;
        rest = next.0;
        is = is;
        before = past_same at from all s.0;
        split = next.1;
        spells = next.2;
        ends = along at from to text s.0 next.3;
        behind = more next.0 next.4 (end_behind end text all next.0 to at at_end next.1 next.3);
      }
  kind_in_order (Wrong f) text from to at all ps is s at_end more = record { here = all; before = past_same at from all s.0 }
  kind_in_order (Over line) text from to at all ps is s at_end more = tt

  pub pieces_in_order : (ps : List Piece) (at : Span) (all : List ℕ) → AllByRecursion WritesTokens ps → AreSideBySide at all ps → end ≡ end_of at all → InOrder at all ps (IsLeft end)
  pieces_in_order [] at all is s at_end = ([], (sym (at_end ∙ ap (end_of at) s), s))
  pieces_in_order (p ∷ ps) at all is s at_end =
      kind_in_order p.kind p.text p.from p.to at all ps is.0 s at_end (λ rest side e. pieces_in_order ps p.to rest is.1 side e)
