-- How a reader's bytes lie in memory while it searches them, reads and hands a line out.
use Rattle.std.proofs.Common.{◌≡◌, sym, ◌∙◌, ap, ℕ, ◌+◌, ◌-◌, ◌<◌, Bool, false, Some, None, List, ◌∷◌, ◌++◌, length, take, drop, append_assoc, length-append, length-drop, arith}
use Rattle.std.specs.List.{list_any}
use Rattle.std.proofs.lemmas.List.{take_at, take_rest, take-append-drop, drop-drop, length-take-le}
use Rattle.value_core.specs.Items.{line_feed, is_line_feed}
use Rattle.c_runner_lines.specs.ReaderState.{ReaderState}
use Rattle.c_runner_lines.specs.Steps.{IsSearched}
use Rattle.c_runner_lines.specs.Held.{IsLineEnd, IsSound}
use Rattle.c_runner_lines.proofs.FeedLemmas.{none-append}

-- a line feed stands among the bytes
pub IsLineEnd-lt : (bytes : List ℕ) (k : ℕ) → IsLineEnd bytes k → k < length bytes
IsLineEnd-lt bytes k h =
    omega (arith, h.size, ap length h.split, length-append h.text (line_feed ∷ h.rest))

-- the bytes before the first line feed
pub IsLineEnd-take : (bytes : List ℕ) (k : ℕ) (h : IsLineEnd bytes k) → take k bytes ≡ h.text
IsLineEnd-take bytes k h = ap (take k) h.split ∙ take_at h.text (line_feed ∷ h.rest) k h.size

-- the first line feed stands behind bytes that have none
pub IsLineEnd-append : (clean bytes : List ℕ) (k : ℕ) → list_any is_line_feed clean ≡ false → IsLineEnd bytes k → IsLineEnd (clean ++ bytes) (length clean + k)
IsLineEnd-append clean bytes k n h = record {
  text = clean ++ h.text;
  rest = h.rest;
  split = ap (λ c. clean ++ c) h.split ∙ sym (append_assoc clean h.text _);
  none = none-append clean h.text n h.none;
  size = omega (arith, h.size, length-append clean h.text);
}

-- the slice from a place on
pub slice_from : (slice bytes : List ℕ) (from : ℕ) → slice ≡ bytes → take (length slice - from) (drop from slice) ≡ drop from bytes
slice_from slice bytes from e = take_rest slice from ∙ ap (drop from) e

-- the state of a reader with these bytes
abbrev state_of : List ℕ → ℕ → ℕ → Bool → ReaderState
state_of bytes start before ended = record { before = before; held = drop start bytes; ended = ended }

module _ (bytes : List ℕ) (start searched before : ℕ) (sound : IsSound bytes start searched before) where
  -- the bytes that are held: those that were searched, and the others
  held_split : drop start bytes ≡ take (searched - start) (drop start bytes) ++ drop searched bytes
  held_split =
      let ordered = sound.ordered in
      let all : start + (searched - start) ≡ searched = omega arith in
      sym (take-append-drop (searched - start) (drop start bytes)) ∙ ap (λ c. take (searched - start) (drop start bytes) ++ c) (drop-drop (searched - start) start bytes ∙ ap (λ n. drop n bytes) all)

  searched_size : length (take (searched - start) (drop start bytes)) ≡ searched - start
  searched_size =
      let ordered = sound.ordered in
      let within = sound.within in
      length-take-le (searched - start) (drop start bytes) (omega (arith, length-drop start bytes))

  -- a line feed is found among those that were not searched yet
  found_end : (k : ℕ) → IsLineEnd (drop searched bytes) k → IsLineEnd (drop start bytes) ((searched + k) - start)
  found_end k h =
      let ordered = sound.ordered in
      let place : length (take (searched - start) (drop start bytes)) + k ≡ (searched + k) - start = omega (arith, searched_size) in
      rw held_split (rw place at (IsLineEnd-append (take (searched - start) (drop start bytes)) (drop searched bytes) k sound.none h))

  -- there is none among them
  found_none : list_any is_line_feed (drop searched bytes) ≡ false → list_any is_line_feed (drop start bytes) ≡ false
  found_none h = ap (list_any is_line_feed) held_split ∙ none-append (take (searched - start) (drop start bytes)) (drop searched bytes) sound.none h

  pub sound_at : (k : ℕ) → IsLineEnd (drop searched bytes) k → IsSound bytes start (searched + k) before
  sound_at k h =
      let ordered = sound.ordered in
      let within = sound.within in
      let near = sound.near in
      let bounded = sound.bounded in
      let there = IsLineEnd-lt (drop searched bytes) k h in
      let end = found_end k h in
      record {
        ordered = omega arith;
        within = omega (arith, there, length-drop searched bytes);
        none = ap (list_any is_line_feed) (IsLineEnd-take (drop start bytes) _ end) ∙ end.none;
        near = omega arith;
        used = sound.used;
        bounded = bounded;
      }

  pub sound_all : list_any is_line_feed (drop searched bytes) ≡ false → (n : ℕ) → n ≡ length bytes → IsSound bytes start n before
  sound_all h n e =
      let ordered = sound.ordered in
      let within = sound.within in
      let bounded = sound.bounded in
      record {
        ordered = omega arith;
        within = omega arith;
        none = ap (λ m. list_any is_line_feed (take (m - start) (drop start bytes))) e ∙ ap (list_any is_line_feed) (take_rest bytes start) ∙ found_none h;
        near = omega arith;
        used = sound.used;
        bounded = bounded;
      }

  pub searched_at : (ended : Bool) (k : ℕ) → IsLineEnd (drop searched bytes) k → IsSearched (state_of bytes start before ended) (Some ((searched + k) - start))
  searched_at ended k h =
      let ordered = sound.ordered in
      let within = sound.within in
      let near = sound.near in
      let bounded = sound.bounded in
      record {
        ends = found_end k h;
        near = omega (arith, length-drop start bytes);
        used = sound.used;
        bounded = omega (arith, length-drop start bytes);
      }

  pub searched_all : (ended : Bool) → list_any is_line_feed (drop searched bytes) ≡ false → IsSearched (state_of bytes start before ended) None
  searched_all ended h =
      let ordered = sound.ordered in
      let within = sound.within in
      let bounded = sound.bounded in
      record { ends = found_none h; near = tt; used = sound.used; bounded = omega (arith, length-drop start bytes) }
