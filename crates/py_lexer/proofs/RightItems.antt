-- The items of lines that spell a text in order are right: each token is spelled at its place, each Dedent closes a level, and one End is
-- the last.
use Rattle.std.proofs.Common.{◌≡◌, ℕ, zero, suc, ◌+◌, ◌-◌, ◌≤◌, Bool, true, false, List, [], ◌∷◌, ◌++◌, map, length, replicate, Ok, Err, refl, ap, sym, subst, ◌∙◌, arith, ◌⊎◌, inl, inr, zero-add, add-zero, suc-add, append_assoc}
use Rattle.std.specs.Prelude.{if◌then◌else◌, ◌==◌, ◌&&◌, not, nat_lt, nat_le}
use Rattle.std.proofs.lemmas.Bool.Decides.{nat_tests}
use Rattle.py_syntax.specs.declared.token.Span.{Span}
use Rattle.py_syntax.specs.declared.token.TokenKind.{TokenKind}
use Rattle.py_syntax.specs.declared.token.TokenKind.TheVariants.{Newline, Indent, Dedent, End}
use Rattle.py_syntax.specs.declared.token.TokenKind.TheVariants as kind
use Rattle.py_syntax.specs.declared.token.Token.{Token}
use Rattle.py_lexer.specs.declared.fault.LexKind.TheVariants as fault
use Rattle.py_lexer.specs.declared.indent.Column.{Column}
use Rattle.py_lexer.specs.Places.{end_of}
use Rattle.py_lexer.specs.Spelling.{Spells}
use Rattle.py_lexer.specs.Pieces.{Kind, Between, Lexeme, Wrong, Over, Piece}
use Rattle.py_lexer.specs.Lines.{most_levels, LogicalLine}
use Rattle.py_lexer.specs.Indents.{margin, column, innermost, kept, agree, moved, Moved}
use Rattle.py_lexer.specs.Tokens.{Item, token, line_items, from_first, after_move, laid_line, ending, laid}
use Rattle.py_lexer.proofs.IndentLemmas.{kept_left}
use Rattle.py_lexer.proofs.RestLemmas.{IsWritten}
use Rattle.py_lexer.proofs.OrderLemmas.{IsPast, past_self, past_along, Step, InOrder, HoldsSooner, sooner, LinesInOrder, lines_sooner}
use Rattle.py_lexer.proofs.IndentLemmas.{map-replicate}

-- What a token of a kind asks of those behind it, where n levels are open: an End that none is open and nothing follows, a Dedent
-- that one is open. `more m` says that what follows is right where m levels are open.
abbrev pub Behind : TokenKind → ℕ → (ℕ → Type 0) → Type 0 → Type 0
Behind End n more over = (n ≡ 0) × over
Behind Indent n more over = more (suc n)
Behind Dedent zero more over = ⊥
Behind Dedent (suc n) more over = more n
Behind _ n more over = more n

-- A token stands behind gaps of a text, and behind it stands what it asks for.
pub record TokenRight (n : ℕ) (at : Span) (text : List ℕ) (t : Token) (over : Type 0) (more : ℕ → Span → List ℕ → Type 0) : Type 0 where
  pub here : List ℕ
  pub own : List ℕ
  pub rest : List ℕ
  pub before : IsPast at text t.span here
  pub split : here ≡ own ++ rest
  pub spells : Spells t.kind own rest
  pub behind : Behind t.kind n (λ m. more m (end_of t.span own) rest) (over × (rest ≡ []))

-- items that are right from a place of a text on, where n levels are open: up to the first fault
abbrev pub AreRight : ℕ → Span → List ℕ → List Item → Type 0
AreRight n at text [] = ⊥
AreRight n at text (Err f ∷ items) = Unit {0}
AreRight n at text (Ok t ∷ items) = TokenRight n at text t (items ≡ []) (λ m b y. AreRight m b y items)

earlier : (n : ℕ) (a : Span) (x : List ℕ) (b : Span) (y : List ℕ) (items : List Item) → IsPast a x b y → AreRight n b y items → AreRight n a x items
earlier n a x b y [] h k = k
earlier n a x b y (Err f ∷ items) h k = tt
earlier n a x b y (Ok t ∷ items) h k = record {
  here = k.here;
  own = k.own;
  rest = k.rest;
  before = past_along a x b y t.span k.here h k.before;
  split = k.split;
  spells = k.spells;
  behind = k.behind;
}

-- a token that a text writes asks nothing
pub written : (k : TokenKind) (n : ℕ) (more : ℕ → Type 0) (over : Type 0) → IsWritten k → more n → Behind k n more over
written (kind.Name x) n more over is h = h
written (kind.Int x) n more over is h = h
written (kind.Str x) n more over is h = h
written (kind.Key x) n more over is h = h
written (kind.Sign x) n more over is h = h
written Newline n more over is h = absurd is
written Indent n more over is h = absurd is
written Dedent n more over is h = absurd is
written End n more over is h = absurd is

-- the items of a line
piece_right : (k : Kind) (text : List ℕ) (from to : Span) (n : ℕ) (last : Span) (x : List ℕ) (ps : List Piece) (rest : List Item) (more : Span → List ℕ → Type 0) → HoldsSooner more →
    ((at : Span) (y : List ℕ) → InOrder at y ps more → AreRight n at y (line_items at ps ++ rest)) →
    Step k last x from to (λ y. InOrder to y ps more) →
    AreRight n last x (line_items last (record { kind = k; text = text; from = from; to = to } ∷ ps) ++ rest)
piece_right (Between g) text from to n last x ps rest more mono right s =
    right last x (sooner last x to s.next ps more mono (past_along last x from s.here to s.next s.before s.over) s.behind)
piece_right (Lexeme k) text from to n last x ps rest more mono right s = record {
  here = s.here;
  own = s.own;
  rest = s.rest;
  before = s.before;
  split = s.split;
  spells = s.spells;
  behind = written k n _ _ s.is (subst (λ at. AreRight n at s.rest (line_items to ps ++ rest)) s.ends (right to s.rest s.behind));
}
piece_right (Wrong f) text from to n last x ps rest more mono right s = tt
piece_right (Over line) text from to n last x ps rest more mono right s = tt

line_right : (n : ℕ) (last : Span) (x : List ℕ) (ps : List Piece) (rest : List Item) (more : Span → List ℕ → Type 0) → HoldsSooner more → ((at : Span) (y : List ℕ) → more at y → AreRight n at y rest) → InOrder last x ps more → AreRight n last x (line_items last ps ++ rest)
line_right n last x [] rest more mono next s = record {
  here = x;
  own = [];
  rest = x;
  before = past_self last x;
  split = refl;
  spells = refl;
  behind = next last x s;
}
line_right n last x (p ∷ ps) rest more mono next s =
    piece_right p.kind p.text p.from p.to n last x ps rest more mono (λ at y h. line_right n at y ps rest more mono next h) s

first_kind : (k : Kind) (text : List ℕ) (from to at : Span) (x : List ℕ) (ps : List Piece) (more : Span → List ℕ → Type 0) → HoldsSooner more → ((b : Span) (y : List ℕ) → InOrder b y ps more → InOrder b y (from_first ps) more) → Step k at x from to (λ y. InOrder to y ps more) → InOrder at x (from_first (record { kind = k; text = text; from = from; to = to } ∷ ps)) more
first_kind (Between g) text from to at x ps more mono first s =
    first at x (sooner at x to s.next ps more mono (past_along at x from s.here to s.next s.before s.over) s.behind)
first_kind (Lexeme k) text from to at x ps more mono first s = s
first_kind (Wrong f) text from to at x ps more mono first s = s
first_kind (Over line) text from to at x ps more mono first s = s

first_in_order : (at : Span) (x : List ℕ) (ps : List Piece) (more : Span → List ℕ → Type 0) → HoldsSooner more → InOrder at x ps more → InOrder at x (from_first ps) more
first_in_order at x [] more mono s = s
first_in_order at x (p ∷ ps) more mono s =
    first_kind p.kind p.text p.from p.to at x ps more mono (λ b y h. first_in_order b y ps more mono h) s

-- the levels that a line opens or closes
abbrev pub MovesRight : List Column → Moved → Type 0
MovesRight levels (Err kind) = Unit {0}
MovesRight levels (Ok m) =
    ((closed : ℕ) × (m.0 ≡ replicate closed Dedent) × (length levels ≡ closed + length m.1))
    ⊎ ((m.0 ≡ Indent ∷ []) × (length m.1 ≡ suc (length levels)))

pub kept_shorter : (at : Column) (levels : List Column) → length (kept at levels) ≤ length levels
kept_shorter at [] = omega arith
kept_shorter at (level ∷ levels) =
    elim (nat_lt at.wide level.wide) as (λ b. length (if b then kept at levels else level ∷ levels) ≤ suc (length levels)) [
      | true ↦ omega (arith, kept_shorter at levels)
      | false ↦ omega arith
    ]

pub none_closed : (closed level at : ℕ) → (nat_lt 0 closed && nat_lt level at) ≡ false → (at == level) ≡ false → level ≤ at → closed ≡ 0
none_closed closed level at a b h = grind (arith, nat_tests)

pub move_cases : (unindented agrees same deep : Bool) (at : Column) (all levels : List Column) (closed : ℕ) → length all ≡ closed + length levels → (unindented ≡ false → same ≡ false → closed ≡ 0) →
    MovesRight all (if unindented then Err fault.BadIndent else (if not agrees then Err fault.Tab else (if same then Ok (replicate closed Dedent, levels) else (if deep then Err fault.TooDeep else Ok (Indent ∷ [], at ∷ levels)))))
move_cases true agrees same deep at all levels closed count none = tt
move_cases false false same deep at all levels closed count none = tt
move_cases false true true deep at all levels closed count none = inl (closed, refl, count)
move_cases false true false true at all levels closed count none = tt
move_cases false true false false at all levels closed count none = inr (refl, let n = none refl refl in omega arith)

pub moved_right : (at : Column) (levels : List Column) → MovesRight levels (moved at levels)
moved_right at levels =
    let left = kept at levels in
    let closed = length levels - length left in
    move_cases (nat_lt 0 closed && nat_lt (innermost left).wide at.wide) (agree at (innermost left)) (at.wide == (innermost left).wide) (nat_le most_levels (length left)) at levels left closed (let k = kept_shorter at levels in omega arith)
    (λ a b. none_closed closed (innermost left).wide at.wide a b (kept_left at levels))

-- a token that is written with nothing
nothing_right : (n : ℕ) (at : Span) (x : List ℕ) (from : Span) (here : List ℕ) (k : TokenKind) (over : Type 0) (more : ℕ → Span → List ℕ → Type 0) → IsPast at x from here → Spells k [] here → Behind k n (λ m. more m from here) (over × (here ≡ [])) → TokenRight n at x (record { kind = k; span = from }) over more
nothing_right n at x from here k over more h spells behind = record { here = here; own = []; rest = here; before = h; split = refl; spells = spells; behind = behind }

dedents_right : (closed n : ℕ) (at : Span) (x : List ℕ) (from : Span) (here : List ℕ) (items : List Item) → IsPast at x from here → AreRight n from here items → AreRight (closed + n) at x (replicate closed (token from Dedent) ++ items)
dedents_right zero n at x from here items h s =
    subst (λ m. AreRight m at x items) (sym (zero-add n)) (earlier n at x from here items h s)
dedents_right (suc closed) n at x from here items h s =
    subst (λ m. AreRight m at x (replicate (suc closed) (token from Dedent) ++ items)) (sym (suc-add closed n))
    (nothing_right (suc (closed + n)) at x from here Dedent _ _ h refl (dedents_right closed n from here from here items (past_self from here) s))

move_right : (m : Moved) (line : ℕ) (at : Span) (x : List ℕ) (from : Span) (here : List ℕ) (levels : List Column) (items : List Item) (more : List Column → List Item) → MovesRight levels m → IsPast at x from here →
    ((new : List Column) → AreRight (length new) from here (items ++ more new)) →
    AreRight (length levels) at x (after_move line from m items more)
move_right (Err kind) line at x from here levels items more is h right = tt
move_right (Ok m) line at x from here levels items more (inl is) h right =
    let tokens = ap (λ l. map (token from) l) is.1 ∙ map-replicate is.0 from in
    subst (λ n. AreRight n at x (map (token from) m.0 ++ items ++ more m.1)) (sym is.2)
    (subst (AreRight (is.0 + length m.1) at x) (sym (ap (λ l. l ++ items ++ more m.1) tokens ∙ append_assoc (replicate is.0 (token from Dedent)) items (more m.1)))
    (dedents_right is.0 (length m.1) at x from here (items ++ more m.1) h (right m.1)))
move_right (Ok m) line at x from here levels items more (inr is) h right =
    subst (λ l. AreRight (length levels) at x (map (token from) l ++ items ++ more m.1)) (sym is.0)
    (nothing_right (length levels) at x from here Indent _ _ h refl (subst (λ n. AreRight n from here (items ++ more m.1)) is.1 (right m.1)))

laid_kind : (k : Kind) (text : List ℕ) (from to : Span) (ps : List Piece) (line : ℕ) (col : Column) (levels : List Column) (at : Span) (x : List ℕ) (more : List Column → List Item) (next : Span → List ℕ → Type 0) → HoldsSooner next →
    ((new : List Column) (b : Span) (y : List ℕ) → next b y → AreRight (length new) b y (more new)) →
    Step k at x from to (λ y. InOrder to y ps next) →
    AreRight (length levels) at x (laid_line line col levels (record { kind = k; text = text; from = from; to = to } ∷ ps) more)
laid_kind (Between g) text from to ps line col levels at x more next mono right s =
    move_right (moved col levels) line at x from s.here levels (line_items from (record { kind = Between g; text = text; from = from; to = to } ∷ ps)) more (moved_right col levels) s.before
    (λ new. line_right (length new) from s.here (record { kind = Between g; text = text; from = from; to = to } ∷ ps) (more new) next mono (right new) (record {
      here = s.here;
      next = s.next;
      before = past_self from s.here;
      over = s.over;
      behind = s.behind;
    }))
laid_kind (Lexeme k) text from to ps line col levels at x more next mono right s =
    move_right (moved col levels) line at x from s.here levels (line_items from (record { kind = Lexeme k; text = text; from = from; to = to } ∷ ps)) more (moved_right col levels) s.before
    (λ new. line_right (length new) from s.here (record { kind = Lexeme k; text = text; from = from; to = to } ∷ ps) (more new) next mono (right new) (record {
      here = s.here;
      own = s.own;
      rest = s.rest;
      is = s.is;
      before = past_self from s.here;
      split = s.split;
      spells = s.spells;
      ends = s.ends;
      behind = s.behind;
    }))
laid_kind (Wrong f) text from to ps line col levels at x more next mono right s =
    move_right (moved col levels) line at x from s.here levels (Err f ∷ []) more (moved_right col levels) s.before (λ new. tt)
laid_kind (Over open_line) text from to ps line col levels at x more next mono right s = tt

laid_pieces : (ps : List Piece) (line : ℕ) (col : Column) (levels : List Column) (at : Span) (x : List ℕ) (more : List Column → List Item) (next : Span → List ℕ → Type 0) → HoldsSooner next →
    ((new : List Column) (b : Span) (y : List ℕ) → next b y → AreRight (length new) b y (more new)) → InOrder at x ps next → AreRight (length levels) at x (laid_line line col levels ps more)
laid_pieces [] line col levels at x more next mono right s = right levels at x s
laid_pieces (p ∷ ps) line col levels at x more next mono right s =
    laid_kind p.kind p.text p.from p.to ps line col levels at x more next mono right s

pub laid_right : (end : Span) (ls : List LogicalLine) (levels : List Column) (at : Span) (x : List ℕ) → LinesInOrder end at x ls → AreRight (length levels) at x (laid end levels ls)
laid_right end [] levels at x s =
    subst (λ n. AreRight n at x (ending end levels)) (add-zero (length levels))
    (dedents_right (length levels) 0 at x end [] (token end End ∷ []) s (nothing_right 0 end [] end [] End _ _ (past_self end []) refl (refl, (refl, refl))))
laid_right end (l ∷ ls) levels at x s =
    let next : Span → List ℕ → Type 0 = λ b y. LinesInOrder end b y ls in
    laid_pieces (from_first l.pieces) l.line (column margin l.pieces) levels at x (λ new. laid end new ls) next (lines_sooner end ls) (λ new b y h. laid_right end ls new b y h) (first_in_order at x l.pieces next (lines_sooner end ls) s)
