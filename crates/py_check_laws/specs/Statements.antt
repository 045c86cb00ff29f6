-- What holds of the typing of every row of statements.
use Rattle.std.specs.Prelude.{◌≡◌, ℕ, Bool, true, false, List, [], length, Option, Some, is_some}
use Rattle.py_syntax.specs.Statements.{Suite}
use Rattle.py_binder.specs.declared.sight.Home.{Home}
use Rattle.py_binder.specs.Sights.{suite_sights}
use Rattle.py_typed.specs.Sorts.{Sort}
use Rattle.py_typed.specs.Statements.{Variable, TypedModule, TypedStmt, suite_of}
use Rattle.py_typed.specs.Narrowing.{after_suite}
use Rattle.py_typed.specs.WellTyped.{is_single, suite_typed}
use Rattle.py_check_context.specs.Context.{Context}
use Rattle.py_check_annotations.specs.Names.{any_unknown}
use Rattle.py_check_names.specs.Outline.{suite_definitions}
use Rattle.py_check_values.specs.Returns.{ReturnSort, untyped}
use Rattle.py_check_places.specs.Places.{Known}
use Rattle.py_check_statements.specs.declared.bodies.Around.{Around}
use Rattle.py_check_statements.specs.Bodies.{block, block_after}
use Rattle.py_check_expressions_laws.specs.Laws.{AllHaveTypes}
use Rattle.py_check_expressions_laws.specs.WellTyped.{Describes, Within}
use Rattle.py_check_laws.specs.WellTyped.{is_suite_written, IsScope, IsResult}

-- ---- what is not typed has said why

-- a `return` is judged: its function, if it stands in one, has a return type
abbrev pub is_judged : ReturnSort → Bool
is_judged untyped = false
is_judged r = true

-- where no name in reach and no member of a class is without a type, statements of a module or of a function in which each name that is
-- read or bound is known, and of which nothing is said, are typed whole, and behind them no name is without a type
abbrev pub QuietBlockIsTyped : Type 0
QuietBlockIsTyped =
    (c : Context) (home : Home) (ret : ReturnSort) (a : Around) (k : Known) (body : Suite) → is_judged ret ≡ true → AllHaveTypes c k.types
    → any_unknown c.meaning (suite_sights home body) ≡ false → (block c ret a k body).said ≡ [] → (is_some (block c ret a k body).got ≡ true) × AllHaveTypes c (block_after c k body).types

-- ---- what is typed is well typed

-- statements that are typed are well typed, whatever more is known of names than typing knew, and what typing knows behind them is
-- known there: in a function with these variables, of a module that the context describes where they end. A variable that has a
-- type keeps it, so it describes all that comes before too. In a function nothing is defined and nothing imported
abbrev pub TypedBlockIsWellTyped : Type 0
TypedBlockIsWellTyped =
    (c : Context) (ret : ReturnSort) (a : Around) (k : Known) (body : Suite) (m : TypedModule) (locals : List Variable) (init : Option ℕ) (result : Option Sort) → IsScope c k.types → IsResult (length c.classes) ret result → Describes c (block_after c k body).types m locals init
    → is_suite_written body ≡ true → (is_some result ≡ true → suite_definitions body ≡ []) → (ts : List TypedStmt) → (block c ret a k body).got ≡ Some ts → (known : List ℕ) → Within k.names known
    → (suite_typed m locals init result known a.looping a.handling (suite_of ts) ≡ true) × Within (block_after c k body).names (after_suite (is_single m locals init result) known (suite_of ts))
