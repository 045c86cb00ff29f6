-- The definitions at small values.
use Rattle.std.proofs.Common.{◌≡◌, refl, ◌-◌, true, false, [], ◌∷◌}
use Rattle.std.specs.Str.{is_utf8, chars}
use Rattle.std.proofs.Math.Utf8.{encode}
use Rattle.value_core.specs.Items.{AtEof, AtFailure, Eof, Broken, Over, Line, Bad, most_input}
use Rattle.c_runner_lines.specs.ReaderState.{ReaderState}
use Rattle.c_runner_lines.specs.Reading.{items_left, is_ready}
use Rattle.c_runner_lines.specs.Steps.{after_use}

-- "a\nb" was read, and "c\nd" comes later
first : ReaderState
first = record { before = 0; held = 97 ∷ 10 ∷ 98 ∷ []; ended = false }

-- two lines, the second in pieces, and a last one without a line feed, which is a line only where the input ends
lines : (items_left first (99 ∷ 10 ∷ 100 ∷ []) AtEof ≡ Line (97 ∷ []) (Line (98 ∷ 99 ∷ []) (Line (100 ∷ []) Eof))) × (items_left first (99 ∷ 10 ∷ 100 ∷ []) AtFailure ≡ Line (97 ∷ []) (Line (98 ∷ 99 ∷ []) Broken))
unfolding first is_utf8 chars encode
lines = (refl, refl)

-- once the first line was used, with its line feed
second : (items_left (after_use first 2) (99 ∷ 10 ∷ []) AtEof ≡ Line (98 ∷ 99 ∷ []) Eof) × (items_left (after_use first 2) [] AtFailure ≡ Broken) × (is_ready first ≡ true) × (is_ready (after_use first 2) ≡ false)
unfolding first is_utf8 chars encode
second = (refl, refl, refl, refl)

-- a line that is not UTF-8 is a bad one, and the next one follows it
bad : items_left (record { before = 5; held = 255 ∷ 10 ∷ 97 ∷ []; ended = true }) [] AtEof ≡ Bad (Line (97 ∷ []) Eof)
unfolding is_utf8 chars encode
bad = refl

-- a line may end at the last byte that may be used, and not past it; a reader that has read too much answers so
far : (items_left (record { before = most_input - 2; held = 97 ∷ 10 ∷ []; ended = false }) (98 ∷ []) AtEof ≡ Line (97 ∷ []) Over) × (items_left (record { before = most_input - 1; held = 97 ∷ 10 ∷ []; ended = false }) [] AtFailure ≡ Over) × (is_ready (record { before = most_input; held = 97 ∷ []; ended = false }) ≡ true)
unfolding is_utf8 chars encode
far = (refl, refl, refl)
