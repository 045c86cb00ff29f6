-- How an argument stands that is not the first of its call.
use Rattle.std.specs.Prelude.{ℕ, List, ◌++◌}
use Rattle.c_core.specs.declared.code.CArg.{CArg}
use Rattle.c_core.specs.declared.code.Kind.{Kind}
use Rattle.c_core.specs.Text.{comma, arg_text}

-- after a comma and a space
abbrev pub next_text : List (List ℕ × Kind) → CArg → List ℕ
next_text vars a = comma ++ arg_text vars a
