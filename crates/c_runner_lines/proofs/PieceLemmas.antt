-- The pieces of bytes whose first line is known, and the lines along them.
use Rattle.std.proofs.Common.{◌≡◌, refl, ◌∙◌, ap, ℕ, ◌+◌, ◌<◌, ◌≤◌, Bool, true, false, ◌||◌, nat_lt, List, [], ◌∷◌, ◌++◌, length, length-append, arith}
use Rattle.std.specs.List.{list_any}
use Rattle.std.proofs.Math.Numerals.{one-add}
use Rattle.std.proofs.lemmas.Bool.Decides.{nat_tests}
use Rattle.value_core.specs.Items.{InputEnd, AtEof, AtFailure, Eof, Broken, Over, most_input, line_feed, is_line_feed, before_pieces, pieces, is_ended, unended, is_whole, line_before, lines_from}

-- of bytes with no line feed neither the first is one nor are the others
pub first_none : (x y : Bool) → (x || y) ≡ false → (x ≡ false) × (y ≡ false)
first_none true y e = absurd (cc)
first_none false y e = (refl, e)

-- a line feed before pieces is a piece of its own
feed_before : (ps : List (List ℕ)) → before_pieces line_feed ps ≡ (line_feed ∷ []) ∷ ps
feed_before [] = refl
feed_before (p ∷ ps) = refl

-- any other byte belongs to the first piece
pub byte_before : (b : ℕ) (p : List ℕ) (ps : List (List ℕ)) → is_line_feed b ≡ false → before_pieces b (p ∷ ps) ≡ (b ∷ p) ∷ ps
byte_before b p ps e = rw e refl

-- the first piece ends with the first line feed
pub pieces_line : (text rest : List ℕ) → list_any is_line_feed text ≡ false → pieces (text ++ line_feed ∷ rest) ≡ (text ++ line_feed ∷ []) ∷ pieces rest
pieces_line [] rest n = feed_before (pieces rest)
pieces_line (b ∷ text) rest n =
    let none = first_none (is_line_feed b) (list_any is_line_feed text) n in
    ap (before_pieces b) (pieces_line text rest none.1) ∙ byte_before b (text ++ line_feed ∷ []) (pieces rest) none.0

-- bytes with no line feed are one piece
pub pieces_open : (b : ℕ) (text : List ℕ) → list_any is_line_feed (b ∷ text) ≡ false → pieces (b ∷ text) ≡ (b ∷ text) ∷ []
pieces_open b [] n = refl
pieces_open b (c ∷ text) n =
    let none = first_none (is_line_feed b) (list_any is_line_feed (c ∷ text)) n in
    ap (before_pieces b) (pieces_open c text none.1) ∙ byte_before b (c ∷ text) [] none.0

-- the front of some bytes and what follows: where the front has no line feed it is one of the first piece
pub record FirstPiece (front bytes : List ℕ) : Type 0 where
  pub more : List ℕ
  pub rest : List (List ℕ)
  pub split : pieces bytes ≡ (front ++ more) ∷ rest

first_before : (b : ℕ) (bytes : List ℕ) (ps : List (List ℕ)) → is_line_feed b ≡ false → pieces bytes ≡ ps → FirstPiece (b ∷ []) (b ∷ bytes)
first_before b bytes [] n e = record { more = []; rest = []; split = ap (before_pieces b) e }
first_before b bytes (p ∷ ps) n e = record { more = p; rest = ps; split = ap (before_pieces b) e ∙ byte_before b p ps n }

pub pieces_front : (b : ℕ) (text future : List ℕ) → list_any is_line_feed (b ∷ text) ≡ false → FirstPiece (b ∷ text) ((b ∷ text) ++ future)
pieces_front b [] future n =
    first_before b future (pieces future) (first_none (is_line_feed b) false n).0 refl
pieces_front b (c ∷ text) future n =
    let none = first_none (is_line_feed b) (list_any is_line_feed (c ∷ text)) n in
    let first = pieces_front c text future none.1 in
    record { more = first.more; rest = first.rest; split = ap (before_pieces b) first.split ∙ byte_before b ((c ∷ text) ++ first.more) first.rest none.0 }

-- a piece without its line feed
unended_line : (text rest : List ℕ) → list_any is_line_feed text ≡ false → unended (text ++ line_feed ∷ rest) ≡ text
unended_line [] rest n = refl
unended_line (b ∷ text) rest n =
    let none = first_none (is_line_feed b) (list_any is_line_feed text) n in
    rw (none.0, one-add) (ap (λ c. b ∷ c) (unended_line text rest none.1))

unended_open : (text : List ℕ) → list_any is_line_feed text ≡ false → unended text ≡ text
unended_open [] n = refl
unended_open (b ∷ text) n =
    let none = first_none (is_line_feed b) (list_any is_line_feed text) n in
    rw (none.0, one-add) (ap (λ c. b ∷ c) (unended_open text none.1))

-- a piece that ends with a line feed is a line however the input ends
ended_line : (text : List ℕ) → is_ended (text ++ line_feed ∷ []) ≡ true
ended_line [] = refl
ended_line (b ∷ text) = rw (ended_line text) (any_true (is_line_feed b))
  where
    any_true : (x : Bool) → (x || true) ≡ true
    any_true true = refl
    any_true false = refl

whole_line : (e : InputEnd) (text : List ℕ) → is_whole e (text ++ line_feed ∷ []) ≡ true
whole_line AtEof text = refl
whole_line AtFailure text = ended_line text

module _ (before : ℕ) (e : InputEnd) where
  -- a first piece that ends too far along
  pub far_piece : (p : List ℕ) (ps : List (List ℕ)) → most_input < before + length p → lines_from before e (p ∷ ps) ≡ Over
  far_piece p ps h =
      let far : nat_lt most_input (before + length p) ≡ true = grind (arith, nat_tests) in
      rw far refl

  -- a first piece that is a line
  pub line_piece : (text : List ℕ) (ps : List (List ℕ)) → list_any is_line_feed text ≡ false → before + (length text + 1) ≤ most_input → lines_from before e ((text ++ line_feed ∷ []) ∷ ps) ≡ line_before text (lines_from (before + (length text + 1)) e ps)
  line_piece text ps n h =
      let size : length (text ++ line_feed ∷ []) ≡ length text + 1 = omega (arith, length-append text (line_feed ∷ [])) in
      let near : nat_lt most_input (before + (length text + 1)) ≡ false = grind (arith, nat_tests) in
      rw (size, near, whole_line e text, unended_line text [] n) refl

-- bytes with no line feed are a line before the end of the input, and none where a read failed
pub open_piece : (before : ℕ) (text : List ℕ) → list_any is_line_feed text ≡ false → before + length text ≤ most_input → lines_from before AtEof (text ∷ []) ≡ line_before text Eof
open_piece before text n h =
    let near : nat_lt most_input (before + length text) ≡ false = grind (arith, nat_tests) in
    rw (near, unended_open text n) refl

pub broken_piece : (before : ℕ) (text : List ℕ) → list_any is_line_feed text ≡ false → before + length text ≤ most_input → lines_from before AtFailure (text ∷ []) ≡ Broken
broken_piece before text n h =
    let near : nat_lt most_input (before + length text) ≡ false = grind (arith, nat_tests) in
    rw (near, n) refl
