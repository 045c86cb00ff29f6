-- The elements of a string between its quotes: a character, or an escape, with the characters that it stands for (Python Language
-- Reference, "Escape sequences").
use Rattle.std.specs.Prelude.{◌≡◌, ◌≢◌, ◌⊎◌, ◌<◌, ◌≤◌, ℕ, Bool, true, false, List, [], ◌∷◌, ◌++◌, length, codes, map}
use Rattle.std.specs.List.{AllByRecursion, Contains, concat}
use Rattle.std.specs.Io.{StartsWith}
use Rattle.std.specs.Str.{byte}
use Rattle.py_lexer.specs.Digits.{IsDigit, AreDigits, place_value, NextIsNot}

-- an element as it is written, and what it stands for
pub record Element : Type 0 where
  pub text : List ℕ
  pub value : List ℕ

abbrev pub written : List Element → List ℕ
written es = concat (map (λ e. e.text) es)

abbrev pub stands_for : List Element → List ℕ
stands_for es = concat (map (λ e. e.value) es)

-- what one character stands for behind a backslash
abbrev pub simple_escapes : List (ℕ × ℕ)
simple_escapes =
    (byte "\\", 92) ∷ (byte "'", 39) ∷ (byte "\"", 34)
    ∷ (byte "a", 7) ∷ (byte "b", 8) ∷ (byte "f", 12) ∷ (byte "n", 10) ∷ (byte "r", 13) ∷ (byte "t", 9) ∷ (byte "v", 11) ∷ []

-- the letters of the hexadecimal escapes, and how many digits each takes
abbrev pub hex_letters : List (ℕ × ℕ)
hex_letters = (byte "x", 2) ∷ (byte "u", 4) ∷ (byte "U", 8) ∷ []

-- the characters behind a backslash that begin an escape or are refused; a backslash before any other character stays
abbrev pub escape_signs : List ℕ
escape_signs = codes "\n\\'\"abfnrtvxuUN01234567"

-- a character's code: no surrogate, and not past 10FFFF
abbrev pub IsScalar : ℕ → Type 0
IsScalar n = (n < 0xD800) ⊎ ((0xE000 ≤ n) × (n ≤ 0x10FFFF))

-- What is written behind a backslash, and the characters that it stands for. `rest` is what follows, to the end of the text.
pub data IsEscape (text rest value : List ℕ) : Type 0 where
  -- a backslash before the end of a line stands for nothing
  Joins : text ≡ codes "\n" → value ≡ [] → IsEscape text rest value
  Simple : (c d : ℕ) → text ≡ c ∷ [] → Contains simple_escapes (c, d) → value ≡ d ∷ [] → IsEscape text rest value
  -- one to three octal digits, as many as there are
  Octal : (ds : List ℕ) → AreDigits 8 ds text → 1 ≤ length ds → (length ds ≡ 3) ⊎ ((length ds < 3) × NextIsNot (λ c. (d : ℕ) × IsDigit 8 c d) rest) → value ≡ place_value 8 ds ∷ [] → IsScalar (place_value 8 ds) → IsEscape text rest value
  -- a letter, and as many hexadecimal digits as it takes
  Hex : (letter : ℕ) (digits ds : List ℕ) → text ≡ letter ∷ digits → Contains hex_letters (letter, length ds) → AreDigits 16 ds digits → value ≡ place_value 16 ds ∷ [] → IsScalar (place_value 16 ds) → IsEscape text rest value
  -- any other character keeps its backslash
  Stays : (c : ℕ) → text ≡ c ∷ [] → AllByRecursion (λ d. c ≢ d) escape_signs → value ≡ byte "\\" ∷ c ∷ [] → IsEscape text rest value

-- An element: a raw string has no escapes, and keeps a backslash with the character behind it. A line ends only inside three quotes, or
-- behind a backslash.
pub data IsElement (is_raw : Bool) (quotes text rest value : List ℕ) : Type 0 where
  Plain : (c : ℕ) → c ≢ byte "\\" → (c ≡ byte "\n" → length quotes ≡ 3) → text ≡ c ∷ [] → value ≡ c ∷ [] → IsElement is_raw quotes text rest value
  Kept : (c : ℕ) → is_raw ≡ true → text ≡ byte "\\" ∷ c ∷ [] → value ≡ text → IsElement is_raw quotes text rest value
  Escaped : (escape : List ℕ) → is_raw ≡ false → text ≡ byte "\\" ∷ escape → IsEscape escape rest value → IsElement is_raw quotes text rest value

-- elements, one behind the other, up to the closing quotes, with which none of them begins; `rest` is what stands behind those
abbrev pub AreElements : Bool → List ℕ → List Element → List ℕ → Type 0
AreElements is_raw quotes [] rest = Unit {0}
AreElements is_raw quotes (e ∷ es) rest =
    let behind = written es ++ (quotes ++ rest) in
    IsElement is_raw quotes e.text behind e.value × ¬ StartsWith (e.text ++ behind) quotes × AreElements is_raw quotes es rest
