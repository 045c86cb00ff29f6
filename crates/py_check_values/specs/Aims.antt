-- What values are bound to.
use Rattle.std.specs.Prelude.{ℕ, List}
use Rattle.py_typed.specs.Sorts.{Sort, sort}
use Rattle.py_typed.specs.Statements.{TypedTarget, typed_target}
use Rattle.py_check_values.specs.declared.aims.Aim as declared
use Rattle.py_check_values.specs.declared.aims.Aim.TheVariants as case

-- what a value is bound to: something of a type; a variable that has none yet; a name that nothing is assigned to; an item of what
-- has none that is assigned; an attribute that nothing declares, of an object of this type; or an expression of this type, which is no
-- target
pub data Aim : Type 0 where
  held : TypedTarget → Sort → Aim
  first : TypedTarget → List ℕ → Aim
  barred : List ℕ → Aim
  unwritten : Sort → Aim
  lacking : Sort → List ℕ → Aim
  misplaced : Sort → Aim

-- what a declared one stands for
abbrev pub aim_seen : declared.Aim → Aim
aim_seen (case.Held target t) = held (typed_target target) (sort t)
aim_seen (case.First target x) = first (typed_target target) x.now
aim_seen (case.Barred x) = barred x.now
aim_seen (case.Unwritten t) = unwritten (sort t)
aim_seen (case.Lacking t a) = lacking (sort t) a.now
aim_seen (case.Misplaced t) = misplaced (sort t)
