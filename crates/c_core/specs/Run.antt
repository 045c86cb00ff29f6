-- Whole runs of the machine.
use Rattle.std.specs.Prelude.{ℕ, zero, suc, ◌+◌, ◌*◌, ◌-◌, max, List, [], ◌∷◌, length, map, Option, Some, None, slice_get}
use Rattle.value_core.specs.Items.{Items}
use Rattle.c_core.specs.declared.code.CFunc.{CFunc}
use Rattle.c_core.specs.declared.code.Code.{Code}
use Rattle.c_core.specs.Machine.{Word, MachineState}
pub use Rattle.c_core.specs.Functions.{error_word}
use Rattle.c_core.specs.Step.{MachineEnding, Next, Goes, Ends, step, unchecked_step}

-- the state in which a run stopped, and how it ended
pub record Stop : Type 0 where
  pub ending : MachineEnding
  pub state : MachineState

-- at most k steps, None where the run would go on
abbrev pub go_on : (MachineState → Next) → ℕ → Next → Option Stop
go_on f k (Ends e s) = Some (record { ending = e; state = s })
go_on f zero (Goes s) = None
go_on f (suc k) (Goes s) = go_on f k (f s)

-- the words with which the variables of the module's own function begin
abbrev pub first_words : Option CFunc → List Word
first_words None = []
first_words (Some g) = map (λ v. error_word v.1) g.vars

-- the number of the module's own function, which is the last
abbrev pub module_function : Code → ℕ
module_function code = length code.funcs - 1

-- a run starts in the module's own function, with an empty ledger and all globals unset
abbrev pub start : Code → ℕ → Items → MachineState
start code n items = record {
  cells = [];
  top = record { func = module_function code; place = 0; vars = first_words (slice_get code.funcs (module_function code)); ledger = []; into = None };
  below = [];
  globals = map (λ g. None) code.globals;
  pending = None;
  output = [];
  items = items;
  turns = n;
  made = [];
}

-- the greatest number of lines of a function
abbrev pub most_lines : List CFunc → ℕ
most_lines [] = 0
most_lines (g ∷ gs) = max (length g.lines) (most_lines gs)

-- the greatest number of turns that a run is given: 2 ^ 63 - 1
abbrev pub most_turns : ℕ
most_turns = 9223372036854775807

-- more steps than a run for n turns can take
abbrev pub most_steps : ℕ → Code → ℕ
most_steps n code = (n + 2) * most_lines code.funcs

-- the run of a code for n turns on these lines of input, and the same without the tests of ownership
abbrev pub machine_run : ℕ → Items → Code → Option Stop
machine_run n items code = go_on (step code) (most_steps n code) (Goes (start code n items))

abbrev pub unchecked_run : ℕ → Items → Code → Option Stop
unchecked_run n items code = go_on (unchecked_step code) (most_steps n code) (Goes (start code n items))
