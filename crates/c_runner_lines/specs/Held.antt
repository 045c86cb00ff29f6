-- How the bytes of a reader lie in memory, and where lines end in them.
use Rattle.std.specs.Prelude.{◌≡◌, ◌≤◌, ℕ, ◌+◌, ◌-◌, false, List, ◌∷◌, ◌++◌, length, take, drop, Option, MatchOption}
use Rattle.std.specs.List.{list_any}
use Rattle.value_core.specs.Items.{most_input, line_feed, is_line_feed}

-- how many bytes of the input are read at most: one more than may be used, which tells that there are too many
abbrev pub most_read : ℕ
most_read = most_input + 1

-- how many bytes a read asks for at most
abbrev pub piece_size : ℕ
piece_size = 4096

-- the first line feed of these bytes stands behind so many of them
pub record IsLineEnd (bytes : List ℕ) (end : ℕ) : Type 0 where
  pub text : List ℕ
  pub rest : List ℕ
  pub split : bytes ≡ text ++ line_feed ∷ rest
  pub none : list_any is_line_feed text ≡ false
  pub size : length text ≡ end

-- where the first line feed stands, or that there is none
abbrev pub EndsLine : List ℕ → Option ℕ → Type 0
EndsLine bytes end = MatchOption end (list_any is_line_feed bytes ≡ false) (IsLineEnd bytes)

-- Of the bytes in memory those from `start` on are held. Those of them before `searched` are no line feeds, and behind these stands no more than the last read gave.
-- No more bytes were used than may be, and with those that are held one more at most
pub record IsSound (bytes : List ℕ) (start searched before : ℕ) : Type 0 where
  pub ordered : start ≤ searched
  pub within : searched ≤ length bytes
  pub none : list_any is_line_feed (take (searched - start) (drop start bytes)) ≡ false
  pub near : length bytes ≤ searched + piece_size
  pub used : before ≤ most_input
  pub bounded : before + length bytes ≤ start + most_read
