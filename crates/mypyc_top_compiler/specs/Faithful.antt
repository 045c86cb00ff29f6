-- When a code is faithful to a module: it is well formed, it has the module's variables, and whatever it is run on, for
-- however many turns, it does what the source does.
use Rattle.std.specs.Prelude.{◌≡◌, ℕ, ◌≤◌, List, map, Some}
use Rattle.value_core.specs.Items.{Items, InputEnd, input_items}
use Rattle.py_typed.specs.Sorts as sort
use Rattle.py_typed.specs.Sorts.{Sort}
use Rattle.py_typed.specs.Statements.{Variable, TypedModule}
use Rattle.c_core.specs.declared.code.Kind.{Kind}
use Rattle.c_core.specs.declared.code.Kind.TheVariants.{Tagged, Int64, Char, Object}
use Rattle.c_core.specs.declared.code.Code.{Code}
use Rattle.c_core.specs.Agreement.{SourceStop, Agrees}
use Rattle.c_core.specs.Run.{Stop, most_turns, machine_run}
use Rattle.c_core.specs.WellFormed.{WellFormed}
use Rattle.mypyc_top_compiler.specs.SourceRun.{StopsAt}

-- the kind of the variables of a type
abbrev pub kind_of : Sort → Kind
kind_of sort.Int = Tagged
kind_of sort.I64 = Int64
kind_of sort.Bool = Char
kind_of _ = Object

-- the variables of a module, in order: the name and the kind of each
abbrev pub module_variables : TypedModule → List (List ℕ × Kind)
module_variables m = map (λ (v : Variable). (v.0, kind_of v.1)) m.globals

-- the run of a code agrees with the module's, for n turns on these lines of input
pub record RunsAs (m : TypedModule) (code : Code) (n : ℕ) (items : Items) : Type 0 where
  pub source : SourceStop
  pub is_source : StopsAt m n items source
  pub stop : Stop
  pub runs : machine_run n items code ≡ Some stop
  pub agrees : Agrees source stop

-- the code of a module: its runs agree with the module's whatever the turns, the bytes of the input and how those end
pub record Faithful (m : TypedModule) (code : Code) : Type 0 where
  pub is_well_formed : WellFormed code
  pub same_variables : code.globals ≡ module_variables m
  pub runs : (n : ℕ) → n ≤ most_turns → (bytes : List ℕ) (e : InputEnd) → RunsAs m code n (input_items bytes e)
