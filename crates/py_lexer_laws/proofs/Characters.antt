-- Rows of characters, and the characters that are read of a text.
use Rattle.std.proofs.Common.{◌≡◌, ℕ, Bool, true, false, List, [], ◌∷◌, ◌++◌, reverse, refl}
use Rattle.std.specs.Prelude.{if◌then◌else◌, ◌==◌}
use lib.Utf8.{scalar, scalars}
use Rattle.std.proofs.lemmas.Bool.{and_parts, and_from}
use Rattle.py_lexer.specs.Places.{byte_order_mark, line_feed_character, carriage_return, without_mark, first, plain_ends, is_ended, plain}

pub scalars_two : (a b : List ℕ) → scalars a ≡ true → scalars b ≡ true → scalars (a ++ b) ≡ true
scalars_two [] b h k = k
scalars_two (c ∷ cs) b h k = let p = and_parts (scalar c) (scalars cs) h in and_from (scalar c) (scalars (cs ++ b)) p.0 (scalars_two cs b p.1 k)

pub scalars_front : (a b : List ℕ) → scalars (a ++ b) ≡ true → scalars a ≡ true
scalars_front [] b h = refl
scalars_front (c ∷ cs) b h = let p = and_parts (scalar c) (scalars (cs ++ b)) h in and_from (scalar c) (scalars cs) p.0 (scalars_front cs b p.1)

pub scalars_rest : (a b : List ℕ) → scalars (a ++ b) ≡ true → scalars b ≡ true
scalars_rest [] b h = h
scalars_rest (c ∷ cs) b h = scalars_rest cs b (and_parts (scalar c) (scalars (cs ++ b)) h).1

pub scalars_one : (c : ℕ) → scalar c ≡ true → scalars (c ∷ []) ≡ true
scalars_one c h = and_from (scalar c) true h refl

either : (b : Bool) (x y : List ℕ) → scalars x ≡ true → scalars y ≡ true → scalars (if b then x else y) ≡ true
either true x y h k = h
either false x y h k = k

mark_scalars : (cs : List ℕ) → scalars cs ≡ true → scalars (without_mark cs) ≡ true
mark_scalars [] h = h
mark_scalars (c ∷ cs) h = either (c == byte_order_mark) cs (c ∷ cs) (and_parts (scalar c) (scalars cs) h).1 h

ends_scalars : (cs : List ℕ) → scalars cs ≡ true → scalars (plain_ends cs) ≡ true
ends_scalars [] h = refl
ends_scalars (c ∷ cs) h =
    let p = and_parts (scalar c) (scalars cs) h in
    let k = ends_scalars cs p.1 in
    either (c == carriage_return) (if first cs == line_feed_character then plain_ends cs else line_feed_character ∷ plain_ends cs) (c ∷ plain_ends cs)
    (either (first cs == line_feed_character) (plain_ends cs) (line_feed_character ∷ plain_ends cs) k (and_from (scalar line_feed_character) (scalars (plain_ends cs)) refl k))
    (and_from (scalar c) (scalars (plain_ends cs)) p.0 k)

-- what is read of characters is characters
pub plain_scalars : (cs : List ℕ) → scalars cs ≡ true → scalars (plain cs) ≡ true
plain_scalars cs h =
    let k = ends_scalars (without_mark cs) (mark_scalars cs h) in
    let x = plain_ends (without_mark cs) in
    either (is_ended (reverse x)) x (x ++ line_feed_character ∷ []) k (scalars_two x (line_feed_character ∷ []) k refl)
