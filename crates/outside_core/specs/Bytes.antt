-- Bytes that are given and taken.
use Rattle.std.specs.Prelude.{◌≡◌, ℕ, ◌-◌, ◌≤◌, List, ◌++◌, length, take}

-- what was taken grew from old to new by a front of the bytes: by none of them, by some or by all
pub record TakesFront (old new bytes : List ℕ) : Type 0 where
  pub count : ℕ
  pub within : count ≤ length bytes
  pub grown : new ≡ old ++ take count bytes

-- what is left went from old to new: at most so many bytes were given of its front
pub record GivesAtMost (most : ℕ) (old new : List ℕ) : Type 0 where
  pub given : List ℕ
  pub within : length given ≤ most
  pub split : old ≡ given ++ new

-- what went away between old and new, where new is the end of old
abbrev pub bytes_between : List ℕ → List ℕ → List ℕ
bytes_between old new = take (length old - length new) old
