-- What a contract sees of the slots of an arena. No public clause cites this module.
use Rattle.std.specs.Prelude.{ℕ, List}

-- the slots that were used so far, and for how many there is memory
pub record Places (S : Type 0) : Type 0 where
  pub slots : List S
  pub capacity : ℕ
