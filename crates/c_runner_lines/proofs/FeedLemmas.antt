-- Where the first line feed of some bytes stands.
use Rattle.std.proofs.Common.{◌≡◌, refl, ap, ℕ, ◌+◌, Bool, true, false, cond, List, [], ◌∷◌, ◌++◌, length, Option, Some, None, MatchOption, position, arith}
use Rattle.std.specs.List.{list_any, position_from}
use Rattle.std.proofs.lemmas.Iterator.Adapters.{position_from-zero}
use Rattle.std.proofs.lemmas.Grind.{common_steps}
use Rattle.value_core.specs.Items.{line_feed, is_line_feed}
use Rattle.c_runner_lines.specs.Held.{EndsLine}

-- a byte that is a line feed
is_feed : (b : ℕ) → is_line_feed b ≡ true → b ≡ line_feed
is_feed b e = grind (arith, common_steps)

-- a byte before bytes, neither with a line feed
pub none_before : (b : ℕ) (bytes : List ℕ) → is_line_feed b ≡ false → list_any is_line_feed bytes ≡ false → list_any is_line_feed (b ∷ bytes) ≡ false
none_before b bytes e n = rw (e, n) refl

-- the first line feed stands at this place, where the first byte is counted as so far along
record FeedAt (from : ℕ) (bytes : List ℕ) (place : ℕ) : Type 0 where
  pub text : List ℕ
  pub rest : List ℕ
  pub split : bytes ≡ text ++ line_feed ∷ rest
  pub none : list_any is_line_feed text ≡ false
  pub size : from + length text ≡ place

abbrev Finds : ℕ → List ℕ → Option ℕ → Type 0
Finds from bytes found = MatchOption found (list_any is_line_feed bytes ≡ false) (FeedAt from bytes)

finds_before : (t : Bool) (from b : ℕ) (bytes : List ℕ) (found : Option ℕ) → is_line_feed b ≡ t → Finds (from + 1) bytes found → Finds from (b ∷ bytes) (cond t (Some from) found)
finds_before true from b bytes found e h = record { text = []; rest = bytes; split = ap (λ c. c ∷ bytes) (is_feed b e); none = refl; size = omega arith }
finds_before false from b bytes None e h = none_before b bytes e h
finds_before false from b bytes (Some k) e h = record {
  text = b ∷ h.text;
  rest = h.rest;
  split = ap (λ c. b ∷ c) h.split;
  none = none_before b h.text e h.none;
  size = omega (arith, h.size);
}

finds : (from : ℕ) (bytes : List ℕ) → Finds from bytes (position_from is_line_feed from bytes)
finds from [] = refl
finds from (b ∷ bytes) = finds_before (is_line_feed b) from b bytes (position_from is_line_feed (from + 1) bytes) refl (finds (from + 1) bytes)

ends_found : (bytes : List ℕ) (found : Option ℕ) → Finds 0 bytes found → EndsLine bytes found
ends_found bytes None h = h
ends_found bytes (Some k) h = record { text = h.text; rest = h.rest; split = h.split; none = h.none; size = omega (arith, h.size) }

-- the place that a search from the front finds
pub EndsLine-position : (bytes : List ℕ) → EndsLine bytes (position is_line_feed bytes)
EndsLine-position bytes = rw (position_from-zero is_line_feed bytes) (ends_found bytes _ (finds 0 bytes))

-- bytes with no line feed, one behind the other
pub none-append : (xs ys : List ℕ) → list_any is_line_feed xs ≡ false → list_any is_line_feed ys ≡ false → list_any is_line_feed (xs ++ ys) ≡ false
none-append xs ys p q = grind (arith, common_steps)
