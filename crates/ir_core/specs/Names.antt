-- Names in C text. A function is called as in the module. The name of a method begins with the number of characters of its
-- class's name, then come that name, `_` and the method's own (mypyc's developer guide, "C name generation").
use Rattle.std.specs.Prelude.{ℕ, ◌==◌, Bool, cond, pos, List, ◌++◌, length, Option, codes, position}
use Rattle.std.specs.List.{list_any, before_first, after_first}
use Rattle.std.specs.Fmt.{signed_decimal}
use Rattle.std.specs.Str.{bytes_eq, chars}
use Rattle.ir_core.specs.declared.code.Func.{Func}
use Rattle.ir_core.specs.declared.code.Program.{Program}

-- the intermediate code writes a method as `Class.method`
abbrev pub is_dot : ℕ → Bool
is_dot b = b == 46

abbrev pub method_id : List ℕ → List ℕ → List ℕ
method_id class method = signed_decimal (pos (length (chars class))) ++ (class ++ (codes "_" ++ method))

abbrev pub function_id : List ℕ → List ℕ
function_id name =
    cond (list_any is_dot name) (method_id (before_first is_dot name) (after_first is_dot name)) name

-- a register's variable
abbrev pub variable_id : List ℕ → List ℕ
variable_id name = codes "r_" ++ name

-- the function that C text calls by this name
abbrev pub is_called : List ℕ → Func → Bool
is_called id g = bytes_eq (function_id g.name) id

abbrev pub function_called : Program → List ℕ → Option ℕ
function_called p id = position (is_called id) p.funcs
