-- Words of a line: bytes that stand before a known byte, or between known bytes.
use Rattle.std.specs.Prelude.{◌≡◌, ℕ, ◌==◌, false, List, [], ◌∷◌, ◌++◌, codes}
use Rattle.std.specs.List.{list_any}

-- a byte does not stand among these
abbrev pub HasNo : ℕ → List ℕ → Type 0
HasNo stop bytes = list_any (λ b. b == stop) bytes ≡ false

-- what stands before the first byte of this value, and what behind it
pub record IsCut (stop : ℕ) (front back bytes : List ℕ) : Type 0 where
  pub plain : HasNo stop front
  pub whole : front ++ stop ∷ back ≡ bytes

-- a word with what stands behind it in brackets
abbrev pub bracketed : List ℕ → List ℕ → List ℕ
bracketed word inside = word ++ (codes "(" ++ (inside ++ codes ")"))

pub record IsBracketed (word inside text : List ℕ) : Type 0 where
  pub plain : HasNo 40 word
  pub whole : bracketed word inside ≡ text

-- what may stand behind an argument: nothing, or a comma
abbrev pub EndsArgument : List ℕ → Type 0
EndsArgument [] = Unit {0}
EndsArgument (b ∷ rest) = b ≡ 44

-- a line at the front of a text, without its line feed, and what stands behind that
pub record IsFirstLine (line rest text : List ℕ) : Type 0 where
  pub plain : HasNo 10 line
  pub whole : text ≡ line ++ 10 ∷ rest
