-- What a string stands for is characters.
use Rattle.std.proofs.Common.{◌≡◌, ℕ, Bool, true, List, [], ◌∷◌, ◌++◌, inl, inr, refl, sym, subst, ◌∙◌, arith, replicate}
use Rattle.std.specs.Str.{byte, is_utf8}
use Rattle.std.specs.List.{AllByRecursion, Contains}
use lib.Utf8.{scalar, scalars}
use Rattle.std.proofs.lemmas.Bool.{and_from}
use Rattle.std.proofs.lemmas.List.Elements.{All-contains, All-from_recursion}
use Rattle.std.proofs.lemmas.Str.{is_utf8-from_IsUtf8}
use Rattle.py_lexer.specs.Digits.{place_value}
use Rattle.py_lexer.specs.Escapes.{Element, written, stands_for, simple_escapes, IsScalar, IsEscape, Joins, Simple, Octal, Hex, Stays, IsElement, Plain, Kept, Escaped, AreElements}
use Rattle.py_lexer.specs.Spelling.{IsString}
use Rattle.py_lexer_laws.proofs.Characters.{scalars_two, scalars_front, scalars_rest, scalars_one}
use Rattle.py_lexer_laws.proofs.Words.{scalar_if}

from_ranges : (n : ℕ) → IsScalar n → scalar n ≡ true
from_ranges n (inl h) = scalar_if n (inl h)
from_ranges n (inr h) = scalar_if n (inr (h.0, let k = h.1 in omega arith))

simple_rows : AllByRecursion (λ (e : ℕ × ℕ). scalar e.1 ≡ true) simple_escapes
simple_rows = (refl, (refl, (refl, (refl, (refl, (refl, (refl, (refl, (refl, (refl, tt))))))))))

simple_scalar : (c d : ℕ) → Contains simple_escapes (c, d) → scalar d ≡ true
simple_scalar c d h = All-contains (λ (e : ℕ × ℕ). scalar e.1 ≡ true) simple_escapes (c, d) (All-from_recursion (λ (e : ℕ × ℕ). scalar e.1 ≡ true) simple_escapes simple_rows) h

same : (a b : List ℕ) → a ≡ b → scalars b ≡ true → scalars a ≡ true
same a b e h = subst (λ l. scalars l ≡ true) (sym e) h

escape_scalars : (text rest value : List ℕ) → scalars text ≡ true → IsEscape text rest value → scalars value ≡ true
escape_scalars text rest value h (Joins e f) = same value [] f refl
escape_scalars text rest value h (Simple c d e row f) = same value (d ∷ []) f (scalars_one d (simple_scalar c d row))
escape_scalars text rest value h (Octal ds are some longest f is) = same value (place_value 8 ds ∷ []) f (scalars_one (place_value 8 ds) (from_ranges (place_value 8 ds) is))
escape_scalars text rest value h (Hex letter digits ds e row are f is) = same value (place_value 16 ds ∷ []) f (scalars_one (place_value 16 ds) (from_ranges (place_value 16 ds) is))
escape_scalars text rest value h (Stays c e other f) =
    same value (byte "\\" ∷ c ∷ []) f (and_from (scalar 92) (scalars (c ∷ [])) refl (subst (λ l. scalars l ≡ true) e h))

element_scalars : (is_raw : Bool) (quotes text rest value : List ℕ) → scalars text ≡ true → IsElement is_raw quotes text rest value → scalars value ≡ true
element_scalars is_raw quotes text rest value h (Plain c other ends e f) = same value text (f ∙ sym e) h
element_scalars is_raw quotes text rest value h (Kept c raw e f) = same value text f h
element_scalars is_raw quotes text rest value h (Escaped escape raw e is) =
    escape_scalars escape rest value (scalars_rest (byte "\\" ∷ []) escape (subst (λ l. scalars l ≡ true) e h)) is

elements_scalars : (is_raw : Bool) (quotes : List ℕ) (es : List Element) (rest : List ℕ) → scalars (written es) ≡ true → AreElements is_raw quotes es rest → scalars (stands_for es) ≡ true
elements_scalars is_raw quotes [] rest h a = refl
elements_scalars is_raw quotes (e ∷ es) rest h a =
    scalars_two e.value (stands_for es) (element_scalars is_raw quotes e.text (written es ++ (quotes ++ rest)) e.value (scalars_front e.text (written es) h) a.0)
    (elements_scalars is_raw quotes es rest (scalars_rest e.text (written es) h) a.2)

pub string_is_text : (string text rest : List ℕ) → scalars text ≡ true → IsString string text rest → is_utf8 string ≡ true
string_is_text string text rest h s =
    let quotes = replicate s.count s.quote in
    let inner = scalars_front (written s.elements) quotes (scalars_rest quotes (written s.elements ++ quotes) (scalars_rest s.prefix (quotes ++ (written s.elements ++ quotes)) (subst (λ l. scalars l ≡ true) s.split h))) in
    is_utf8-from_IsUtf8 string (stands_for s.elements, (elements_scalars s.is_raw quotes s.elements rest inner s.are_elements, sym s.value))
