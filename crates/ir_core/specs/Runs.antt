-- Whole runs of a program, and when no run of it goes wrong.
use Rattle.std.specs.Prelude.{◌≡◌, ◌≢◌, ◌↔◌, ℕ, ◌-◌, [], length, replicate, Option, Some, None, slice_get}
use Rattle.value_core.specs.Ending.{Ending}
use Rattle.value_core.specs.Items.{Items}
use Rattle.ir_core.specs.declared.code.Func.{Func}
use Rattle.ir_core.specs.declared.code.Program.{Program}
use Rattle.ir_core.specs.Registers.{first_regs}
use Rattle.ir_core.specs.Effects.{World}
use Rattle.ir_core.specs.Meaning.{Config, Runs, Ended, Stuck, Mode, Plain, Strict, Fitting, steps}

-- no object is made, the globals are unset, no exception is pending, and nothing is written
abbrev pub first_world : Program → ℕ → Items → World
first_world p turns items = record {
  store = [];
  globals = replicate (length p.globals) None;
  pending = None;
  output = [];
  items = items;
  turns = turns;
}

-- a run starts in the last function, which is the module's own
abbrev pub begins : ℕ → World → Option Func → Config
begins fn w None = Stuck
begins fn w (Some g) = Runs (record { fn = fn; block = 0; place = 0; regs = first_regs g.regs [] }) [] w

abbrev pub start : Program → ℕ → Items → Config
start p turns items =
    begins (length p.funcs - 1) (first_world p turns items) (slice_get p.funcs (length p.funcs - 1))

-- with so many turns, on these lines of input, a program comes to this end; the world has its output, its objects and its globals
abbrev pub ComesTo : Program → ℕ → Items → Ending → World → Type 0
ComesTo p turns items e w = (n : ℕ) × (steps Plain p n (start p turns items) ≡ Ended e w)

-- two programs mean the same: they come to the same ends
abbrev pub MeansSame : Program → Program → Type 0
MeansSame p q =
    (turns : ℕ) (items : Items) (e : Ending) (w : World) → ComesTo p turns items e w ↔ ComesTo q turns items e w

abbrev pub NeverStuck : Mode → Program → Type 0
NeverStuck m p = (turns : ℕ) (items : Items) (n : ℕ) → steps m p n (start p turns items) ≢ Stuck

-- no run is ever stuck, nor does it copy the error value of an `int` or a reference
abbrev pub Calm : Program → Type 0
Calm p = NeverStuck Strict p

-- and in no run an operation fails behind which what is to stand there does not
abbrev pub Fit : Program → Type 0
Fit p = NeverStuck Fitting p
