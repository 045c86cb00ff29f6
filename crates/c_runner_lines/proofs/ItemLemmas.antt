-- What an item that is handed out says of the lines that were left.
use Rattle.std.proofs.Common.{◌≡◌, refl, sym, ◌∙◌, ap, ℕ, ◌+◌, ◌<◌, ◌≤◌, Bool, true, false, ◌||◌, cond, nat_lt, Some, None, List, [], ◌∷◌, ◌++◌, length, take, drop, IsTrue, append_assoc, append-nil, length-append, arith}
use Rattle.std.specs.Str.{is_utf8}
use Rattle.std.specs.List.{list_any}
use Rattle.std.specs.Bool.{MatchBool}
use Rattle.std.proofs.lemmas.List.{drop_at, take_at, take_all, drop_all, length-drop, take-append-drop, length-take-le}
use Rattle.std.proofs.lemmas.Bool.Decides.{nat_tests}
use borrow.Author.Tests.{ltb-true, ltb-false}
use Rattle.value_core.specs.Items.{InputEnd, AtEof, AtFailure, Items, most_input, line_feed, is_line_feed, pieces, line_before, lines_from}
use Rattle.value_core.specs.Items as items
use Rattle.c_runner_lines.specs.declared.item.Item.{Item}
use Rattle.c_runner_lines.specs.declared.item.Item.TheVariants.{Line, Bad, Eof, Over}
use Rattle.c_runner_lines.specs.ReaderState.{ReaderState, total_of}
use Rattle.c_runner_lines.specs.Held.{IsLineEnd, most_read, piece_size}
use Rattle.c_runner_lines.specs.Reading.{items_left, Suits, is_ready, IsForOneLine, Answers, ReadsNear, Uses, Cuts, Found}
use Rattle.c_runner_lines.specs.Steps.{HoldsMore, item_of, after_use, HandsOut, IsSearched}
use Rattle.c_runner_lines.proofs.HeldLemmas.{IsLineEnd-lt, IsLineEnd-take}
use Rattle.c_runner_lines.proofs.PieceLemmas.{pieces_line, pieces_open, pieces_front, far_piece, line_piece, open_piece}
use Rattle.c_runner_lines.proofs.TakeLemmas.{HoldsMore-total, searched_one, IsForOneLine-more}

-- a reader that held more before it answered
pub Answers-more : (old mid new : ReaderState) (item : Item) (taken : List ℕ) → HoldsMore old mid taken → Answers item mid new [] → Answers item old new taken
Answers-more old mid new item taken h = more item
  where
    same : (future : List ℕ) (e : InputEnd) → items_left old (taken ++ future) e ≡ items_left mid future e
    same future e =
        ap (λ c. lines_from old.before e (pieces c)) (sym (append_assoc old.held taken future) ∙ ap (λ c. c ++ future) (sym h.held))
        ∙ ap (λ n. lines_from n e (pieces (mid.held ++ future))) (sym h.before)

    at_end : items_left old taken AtEof ≡ items_left mid [] AtEof
    at_end = ap (λ c. items_left old c AtEof) (sym (append-nil taken)) ∙ same [] AtEof

    more : (item : Item) → Answers item mid new [] → Answers item old new taken
    more (Line text) a = λ future e s. same future e ∙ a future e s
    more Bad a = λ future e s. same future e ∙ a future e s
    more Eof a = (a.0, at_end ∙ a.1, a.2)
    more Over a = λ future e. (same future e ∙ (a future e).0, (a future e).1)

Cuts-more : (old mid new : ReaderState) (item : Item) (taken used : List ℕ) → HoldsMore old mid taken → Cuts item mid new [] used → Cuts item old new taken used
Cuts-more old mid new item taken used h = more item
  where
    same : (future : List ℕ) → pieces (old.held ++ (taken ++ future)) ≡ pieces (mid.held ++ future)
    same future = ap pieces (sym (append_assoc old.held taken future) ∙ ap (λ c. c ++ future) (sym h.held))

    more : (item : Item) → Cuts item mid new [] used → Cuts item old new taken used
    more (Line text) c = λ future e s. same future ∙ c future e s
    more Bad c = λ future e s. same future ∙ c future e s
    more Eof c = c
    more Over c = c

pub Found-more : (old mid new : ReaderState) (item : Item) (taken : List ℕ) → HoldsMore old mid taken → Found item mid new [] → Found item old new taken
Found-more old mid new item taken h f = record {
  lines = Answers-more old mid new item taken h f.lines;
  near = f.near;
  uses = record {
    used = f.uses.used;
    split = sym (append-nil mid.held ∙ h.held) ∙ f.uses.split;
    before = f.uses.before ∙ ap (λ n. n + length f.uses.used) h.before;
  };
  cuts = Cuts-more old mid new item taken f.uses.used h f.cuts;
  one = IsForOneLine-more old mid taken h f.one;
  total = omega (arith, f.total, HoldsMore-total old mid taken h);
  ended = λ e. f.ended (h.ended e);
}

-- the item of a line's bytes, where they are the first line that is left
IsFirst : ReaderState → ReaderState → List ℕ → Type 0
IsFirst old new text = (future : List ℕ) (e : InputEnd) → Suits new future e → items_left old future e ≡ line_before text (items_left new future e)

answers_line : (old new : ReaderState) (text : List ℕ) (t : Bool) → is_utf8 text ≡ t → IsFirst old new text → Answers (cond t (Line text) Bad) old new []
unfolding IsFirst
answers_line old new text true u a = λ future e s. a future e s ∙ ap (λ t. cond t (items.Line text (items_left new future e)) (items.Bad (items_left new future e))) u
answers_line old new text false u a = λ future e s. a future e s ∙ ap (λ t. cond t (items.Line text (items_left new future e)) (items.Bad (items_left new future e))) u

-- the bytes that are used of a line, where they are the first piece that is left
IsCut : ReaderState → ReaderState → List ℕ → Type 0
IsCut old new used = (future : List ℕ) (e : InputEnd) → Suits new future e → pieces (old.held ++ future) ≡ used ∷ pieces (new.held ++ future)

cuts_line : (old new : ReaderState) (text used : List ℕ) (t : Bool) → IsCut old new used → Cuts (cond t (Line text) Bad) old new [] used
unfolding IsCut
cuts_line old new text used true c = c
cuts_line old new text used false c = c

near_line : (new : ReaderState) (text : List ℕ) (t : Bool) → length new.held < piece_size → ReadsNear (cond t (Line text) Bad) new
near_line new text true h = h
near_line new text false h = h

module _ (old : ReaderState) where
  used_total : (count : ℕ) → count ≤ length old.held → total_of (after_use old count) ≡ total_of old + length {A = ℕ} []
  used_total count h = omega (arith, length-drop count old.held)

  uses_first : (count : ℕ) → count ≤ length old.held → Uses old (after_use old count) []
  uses_first count h = record {
    used = take count old.held;
    split = append-nil old.held ∙ sym (take-append-drop count old.held);
    before = ap (λ n. old.before + n) (sym (length-take-le count old.held h));
  }

  uses_nothing : Uses old old []
  uses_nothing = record { used = []; split = append-nil old.held; before = omega arith }

  -- a line is found where the bytes after its use have less than one read
  found_line : (text : List ℕ) (count : ℕ) → IsFirst old (after_use old count) text → IsCut old (after_use old count) (take count old.held) → IsForOneLine old [] → count ≤ length old.held → length old.held < count + piece_size → Found (item_of text) old (after_use old count) []
  unfolding uses_first
  found_line text count a c one h near = record {
    lines = answers_line old (after_use old count) text (is_utf8 text) refl a;
    near = near_line (after_use old count) text (is_utf8 text) (omega (arith, length-drop count old.held));
    uses = uses_first count h;
    cuts = cuts_line old (after_use old count) text (take count old.held) (is_utf8 text) c;
    one = one;
    total = used_total count h;
    ended = λ e. e;
  }

  -- a line that ends with a line feed
  module _ (end : ℕ) (h : IsLineEnd old.held end) where
    held_with : (future : List ℕ) → pieces (old.held ++ future) ≡ (h.text ++ line_feed ∷ []) ∷ pieces (h.rest ++ future)
    held_with future =
        ap (λ c. pieces (c ++ future)) h.split
        ∙ ap pieces (append_assoc h.text (line_feed ∷ h.rest) future)
        ∙ pieces_line h.text (h.rest ++ future) h.none

    rest_held : drop (end + 1) old.held ≡ h.rest
    rest_held =
        ap (drop (end + 1)) (h.split ∙ sym (append_assoc h.text (line_feed ∷ []) h.rest))
        ∙ drop_at (h.text ++ line_feed ∷ []) h.rest (end + 1) (omega (arith, h.size, length-append h.text (line_feed ∷ [])))

    first_held : take (end + 1) old.held ≡ h.text ++ line_feed ∷ []
    first_held =
        ap (take (end + 1)) (h.split ∙ sym (append_assoc h.text (line_feed ∷ []) h.rest))
        ∙ take_at (h.text ++ line_feed ∷ []) h.rest (end + 1) (omega (arith, h.size, length-append h.text (line_feed ∷ [])))

    first_cut : IsCut old (after_use old (end + 1)) (take (end + 1) old.held)
    unfolding IsCut
    first_cut future e s =
        held_with future ∙ ap (λ c. c ∷ pieces (h.rest ++ future)) (sym first_held)
        ∙ ap (λ c. take (end + 1) old.held ∷ pieces (c ++ future)) (sym rest_held)

    first_line : old.before + (end + 1) ≤ most_input → IsFirst old (after_use old (end + 1)) h.text
    unfolding IsFirst
    first_line near future e s =
        let size = h.size in
        ap (lines_from old.before e) (held_with future)
        ∙ line_piece old.before e h.text (pieces (h.rest ++ future)) h.none (omega arith)
        ∙ ap (λ n. line_before h.text (lines_from (old.before + (n + 1)) e (pieces (h.rest ++ future)))) size
        ∙ ap (λ c. line_before h.text (lines_from (old.before + (end + 1)) e (pieces (c ++ future)))) (sym rest_held)

    far_line : most_input < old.before + (end + 1) → (future : List ℕ) (e : InputEnd) → items_left old future e ≡ items.Over
    far_line far future e =
        ap (lines_from old.before e) (held_with future)
        ∙ far_piece old.before e (h.text ++ line_feed ∷ []) (pieces (h.rest ++ future)) (omega (arith, far, h.size, length-append h.text (line_feed ∷ [])))

  -- bytes without a line feed
  module _ (n : list_any is_line_feed old.held ≡ false) where
    far_open : (held : List ℕ) → list_any is_line_feed held ≡ false → 0 < length held → most_input < old.before + length held → (future : List ℕ) (e : InputEnd) → lines_from old.before e (pieces (held ++ future)) ≡ items.Over
    far_open [] n h far future e = absurd (omega (arith, h))
    far_open (b ∷ text) n h far future e =
        let first = pieces_front b text future n in
        ap (lines_from old.before e) first.split
        ∙ far_piece old.before e ((b ∷ text) ++ first.more) first.rest (omega (arith, far, length-append (b ∷ text) first.more))

    last_line : (held : List ℕ) → list_any is_line_feed held ≡ false → 0 < length held → old.before + length held ≤ most_input → lines_from old.before AtEof (pieces held) ≡ line_before held items.Eof
    last_line [] n h near = absurd (omega (arith, h))
    last_line (b ∷ text) n h near =
        ap (lines_from old.before AtEof) (pieces_open b text n) ∙ open_piece old.before (b ∷ text) n near

    one_piece : (held : List ℕ) → list_any is_line_feed held ≡ false → 0 < length held → pieces held ≡ held ∷ []
    one_piece [] n h = absurd (omega (arith, h))
    one_piece (b ∷ text) n h = pieces_open b text n

    none_left : (count : ℕ) → count ≡ length old.held → items_left (after_use old count) [] AtEof ≡ items.Eof
    none_left count e =
        ap (λ c. lines_from (old.before + count) AtEof (pieces (c ++ []))) (drop_all count old.held (omega (arith, e)))

    first_open : 0 < length old.held → old.before + length old.held ≤ most_input → IsTrue old.ended → IsFirst old (after_use old (length old.held)) old.held
    unfolding IsFirst
    first_open h near ended future e s =
        let end = s ended in
        rw (end.0, end.1) (ap (λ c. lines_from old.before AtEof (pieces c)) (append-nil old.held) ∙ last_line old.held n h near ∙ ap (line_before old.held) (sym (none_left (length old.held) refl)))

    open_cut : 0 < length old.held → IsTrue old.ended → IsCut old (after_use old (length old.held)) (take (length old.held) old.held)
    unfolding IsCut
    open_cut h ended future e s =
        let end = s ended in
        let all = take_all (length old.held) old.held (omega arith) in
        let none = drop_all (length old.held) old.held (omega arith) in
        rw (end.0, all, none) (ap pieces (append-nil old.held) ∙ one_piece old.held n h)

  -- a reader that can answer and holds no line feed has seen the end, or has read too much
  ended_or_far : (any ended far : Bool) → any ≡ false → far ≡ false → (any || ended || far) ≡ true → ended ≡ true
  ended_or_far any true far a f r = refl
  ended_or_far any false far a f r = cc

  -- more than may be used was read: the line is over
  found_over : (count : ℕ) → count ≤ length old.held → total_of old ≤ most_read → most_input < old.before + count → IsForOneLine old [] → ((future : List ℕ) (e : InputEnd) → items_left old future e ≡ items.Over) → Found Over old old []
  unfolding uses_nothing
  found_over count h bounded far one over = record {
    lines = λ future e. (over future e, over future e);
    near = omega arith;
    uses = uses_nothing;
    cuts = refl;
    one = one;
    total = omega arith;
    ended = λ e. e;
  }

  -- what is handed out where a line feed is held
  pub found_some : (new : ReaderState) (end : ℕ) (item : Item) → IsSearched old (Some end) → HandsOut old new end (end + 1) item → Found item old new []
  found_some new end item searched = by_far (nat_lt most_input (old.before + (end + 1))) refl
    where
      by_far : (t : Bool) → nat_lt most_input (old.before + (end + 1)) ≡ t → MatchBool t ((item ≡ Over) × (new ≡ old)) ((item ≡ item_of (take end old.held)) × (new ≡ after_use old (end + 1))) → Found item old new []
      by_far true far h =
          let there = IsLineEnd-lt old.held end searched.ends in
          rw (h.0, h.1) (found_over (end + 1) (omega (arith, there)) searched.bounded (ltb-true _ _ far) (searched_one old (Some end) searched) (far_line end searched.ends (ltb-true _ _ far)))
      by_far false far h =
          let there = IsLineEnd-lt old.held end searched.ends in
          let near = searched.near in
          let text = IsLineEnd-take old.held end searched.ends in
          rw (h.0, h.1, text) (found_line searched.ends.text (end + 1) (first_line end searched.ends (ltb-false _ _ far)) (first_cut end searched.ends) (searched_one old (Some end) searched) (omega (arith, there)) (omega arith))

  -- and where none is held
  pub found_none : (new : ReaderState) (item : Item) → IsSearched old None → IsTrue (is_ready old) → 0 < length old.held → HandsOut old new (length old.held) (length old.held) item → Found item old new []
  found_none new item searched ready some = by_far (nat_lt most_input (old.before + length old.held)) refl
    where
      by_far : (t : Bool) → nat_lt most_input (old.before + length old.held) ≡ t → MatchBool t ((item ≡ Over) × (new ≡ old)) ((item ≡ item_of (take (length old.held) old.held)) × (new ≡ after_use old (length old.held))) → Found item old new []
      by_far true far h =
          rw (h.0, h.1) (found_over (length old.held) (omega arith) searched.bounded (ltb-true _ _ far) (searched_one old None searched) (far_open searched.ends old.held searched.ends some (ltb-true _ _ far)))
      by_far false far h =
          let ended = ended_or_far (list_any is_line_feed old.held) old.ended (nat_lt most_input (old.before + length old.held)) searched.ends far ready in
          let all = take_all (length old.held) old.held (omega arith) in
          rw (h.0, h.1, all) (found_line old.held (length old.held) (first_open searched.ends some (ltb-false _ _ far) ended) (open_cut searched.ends some ended) (searched_one old None searched) (omega arith) (omega arith))

  -- where nothing is held the end was seen
  pub found_end : IsSearched old None → IsTrue (is_ready old) → length old.held ≡ 0 → Found Eof old old []
  unfolding uses_nothing
  found_end searched ready empty =
      let used = searched.used in
      let none : old.held ≡ [] = no_byte old.held empty in
      let near : nat_lt most_input (old.before + length old.held) ≡ false = grind (arith, nat_tests) in
      let left : items_left old [] AtEof ≡ items.Eof = ap (λ c. lines_from old.before AtEof (pieces (c ++ []))) none in
      record {
        lines = (ended_or_far (list_any is_line_feed old.held) old.ended (nat_lt most_input (old.before + length old.held)) searched.ends near ready, left, left);
        near = none;
        uses = uses_nothing;
        cuts = refl;
        one = searched_one old None searched;
        total = omega arith;
        ended = λ e. e;
      }
    where
      no_byte : (bytes : List ℕ) → length bytes ≡ 0 → bytes ≡ []
      no_byte [] e = refl
      no_byte (b ∷ bytes) e = absurd (omega (arith, e))
