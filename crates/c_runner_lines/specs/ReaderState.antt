-- What a reader of lines keeps.
use Rattle.std.specs.Prelude.{ℕ, ◌+◌, Bool, List, length}

-- how many bytes of the input were used, the bytes behind them that were read and not used, and whether the end of the input was seen
pub record ReaderState : Type 0 where
  pub before : ℕ
  pub held : List ℕ
  pub ended : Bool

-- how many bytes of the input were read
abbrev pub total_of : ReaderState → ℕ
total_of r = r.before + length r.held
