-- The heads of functions.
use Rattle.std.specs.Prelude.{◌≡◌, ◌≢◌, ℕ, List, [], ◌++◌, take, drop, length, nat_le, IsTrue}
use Rattle.std.specs.List.{flat_map}
use Rattle.c_core.specs.declared.code.CFunc.{CFunc}
use Rattle.c_core.specs.declared.code.Kind.TheVariants.{Char}
use Rattle.c_core.specs.declared.code.Line.{Line}
use Rattle.c_core.specs.Text.{comma, declaration_text, function_head, module_head, parameters_text}
use Rattle.c_core.specs.WellFormed.{Declared, is_identifier}
use Rattle.c_text.specs.declared.head.FunctionHead.{FunctionHead}
use Rattle.c_text.specs.declared.head.FunctionHead.TheVariants.{Module, Function}
use Rattle.c_text.specs.Statements.{AreNamed}

-- parameters with a comma behind each of them
abbrev pub listed : List Declared → List ℕ
listed vars = flat_map (λ v. declaration_text v ++ comma) vars

abbrev pub HasNoParameters : List ℕ → Type 0
HasNoParameters text = (vars : List Declared) → AreNamed vars → parameters_text vars ≢ text

-- the function that a head begins, with variables of which the parameters are the first
abbrev pub function_of : FunctionHead → List Declared → List Line → CFunc
function_of Module vars lines = record { name = []; ret = Char; params = 0; vars = vars; lines = lines }
function_of (Function name ret params) vars lines = record { name = name; ret = ret; params = params; vars = vars; lines = lines }

-- the line of a head
abbrev pub head_line : FunctionHead → List Declared → List ℕ
head_line Module vars = module_head
head_line (Function name ret params) vars = function_head (record { name = name; ret = ret; params = params; vars = vars; lines = [] })

abbrev pub parameters_of : FunctionHead → ℕ
parameters_of Module = 0
parameters_of (Function name ret params) = params

-- a head is spelled with these variables
abbrev pub IsHead : FunctionHead → List Declared → Type 0
IsHead Module vars = Unit {0}
IsHead (Function name ret params) vars = IsTrue (is_identifier name) × IsTrue (nat_le params (length vars))

-- a head with its parameters alone stands on this line
pub record BeginsFunction (head : FunctionHead) (vars : List Declared) (piece : List ℕ) : Type 0 where
  pub is_head : IsHead head vars
  pub named : AreNamed vars
  pub all : drop (parameters_of head) vars ≡ []
  pub line : head_line head vars ≡ piece

abbrev pub IsNoFunctionHead : List ℕ → Type 0
IsNoFunctionHead piece = (g : CFunc) → IsTrue (is_identifier g.name) → AreNamed (take g.params g.vars) → function_head g ≢ piece

abbrev pub IsNoHead : List ℕ → Type 0
IsNoHead piece = (piece ≢ module_head) × IsNoFunctionHead piece
