-- What an operation does with the values of any number of registers, as the source does it.
use Rattle.std.specs.Prelude.{◌≡◌, List}
use Rattle.value_core.specs.Value.{Value}
use Rattle.py_typed.specs.Sorts.{Sort}
use Rattle.source_meaning.specs.State.{State, Outcome, Does}
use Rattle.ir_core.specs.declared.code.Reg.{Reg}
use Rattle.ir_core.specs.Registers.{Regs}
use Rattle.ir_builder_frames.specs.Computing.{ShowAll}

-- what the source does with the values in registers, which have these types
pub record ActsOnAll (ts : List Sort) (rs : List Reg) (go : List Value → Does Value) (regs : Regs) (s : State) (res : Outcome Value) : Type 0 where
  pub values : List Value
  pub shows : ShowAll ts values regs rs
  pub does : res ≡ go values s
