-- How a program ends (Python Language Reference, "Top-level components" and "Exceptions").
use Rattle.value_core.specs.Exceptions.{Thrown}

-- it ran to the end of its text; an exception left it; no turn was left; the line of input that it asked for ends too far
-- along; or reading its input failed
pub data Ending : Type 0 where
  Done : Ending
  Raised : (e : Thrown) → Ending
  Cut : Ending
  Over : Ending
  Broken : Ending
