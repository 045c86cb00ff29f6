-- The choices among expressions, as `a and b`, `a or b` and `a if test else b`: a part is tested, and each arm is an expression, or it is
-- missing and gives the tested value itself.
use Rattle.std.specs.Prelude.{◌≡◌, ℕ, true, List, Option, Some, None}
use Rattle.std.specs.Option.{option_map, option_copied}
use Rattle.std.specs.Borrow.{Bor}
use Rattle.value_core.specs.Value.{Value}
use Rattle.py_typed.specs.declared.expression.TExpr.{TExpr}
use Rattle.py_typed.specs.Sorts.{Sort}
use Rattle.py_typed.specs.Expressions.{TypedExpr, typed_expr, type_of}
use Rattle.py_typed.specs.Statements.{Variable, TypedModule}
use Rattle.source_meaning.specs.State.{◌>>=◌, give}
use Rattle.ir_builder_frames.specs.Building.{Building}
use Rattle.ir_builder_frames.specs.Settings.{Setting, rtype_of}
use Rattle.ir_builder_frames.specs.Placing.{HasType}
use Rattle.ir_builder_frames.specs.Computing.{means, Shows, Meaning, Computes}
use Rattle.ir_builder_choices.specs.Choosing.{Behind, HasValue, by_truth, ComputesFrom}
use Rattle.ir_builder_expressions.specs.Truths.{is_testable}
use Rattle.ir_builder_expressions.specs.Suiting.{Suits}

-- what a declared arm stands for
abbrev pub arm_of : Option (Bor TExpr) → Option TypedExpr
arm_of o = option_map typed_expr (option_copied o)

-- the type of an arm's value, behind a tested value of a type
abbrev pub arm_sort : Sort → Option TypedExpr → Sort
arm_sort u None = u
arm_sort u (Some e) = type_of e

abbrev pub means_arm : Setting → Option TypedExpr → Behind Value
means_arm x None n v = give v
means_arm x (Some e) n v = means x e n

-- the test, the arm where it is true, and the one where it is not
abbrev pub means_choice : Setting → TypedExpr → Option TypedExpr → Option TypedExpr → Meaning Value
means_choice x test body other n = means x test n >>= by_truth (means_arm x body) (means_arm x other) n

-- ---- what is asked of them

abbrev pub ArmSuits : TypedModule → List Variable → Option TypedExpr → Type 0
ArmSuits m vs None = Unit {0}
ArmSuits m vs (Some e) = Suits m vs e

-- both arms have the type of the choice
pub record ChoiceSuits (m : TypedModule) (vs : List Variable) (t : Sort) (test : TypedExpr) (body other : Option TypedExpr) : Type 0 where
  pub tested : is_testable (type_of test) ≡ true
  pub test_suits : Suits m vs test
  pub body_type : arm_sort (type_of test) body ≡ t
  pub other_type : arm_sort (type_of test) other ≡ t
  pub body_suits : ArmSuits m vs body
  pub other_suits : ArmSuits m vs other

-- ---- what their code does

-- of an arm, behind a tested value of whatever type in a register
abbrev pub EmitsArm : Setting → ℕ → Option TypedExpr → Building → Building → ℕ → Type 0
EmitsArm x q arm old new r = (u : Sort) → HasType old q (rtype_of u) → ComputesFrom x (HasValue u q) (arm_sort u arm) (means_arm x arm) old new r

abbrev pub EmitsChoice : Setting → Sort → TypedExpr → Option TypedExpr → Option TypedExpr → Building → Building → ℕ → Type 0
EmitsChoice x t test body other old new r = Computes x (Shows t) (rtype_of t) (means_choice x test body other) old new r
