-- Where a run of the strict machine comes to from a configuration, by what the source does.
use Rattle.std.specs.Prelude.{◌≡◌, ℕ, ◌≤◌, List, Option, Some, None}
use Rattle.value_core.specs.Ending.{Ending}
use Rattle.value_core.specs.Exceptions.{Thrown}
use Rattle.value_core.specs.Value.{Value, ExcVal}
use Rattle.source_meaning.specs.State.{State, Outcome, Gives, Raises, Stops}
use Rattle.source_meaning.specs.SourceRun.{ending_by}
use Rattle.ir_core.specs.declared.code.Program.{Program}
use Rattle.ir_core.specs.Registers.{Holds, Regs}
use Rattle.ir_core.specs.Effects.{World}
use Rattle.ir_core.specs.Meaning.{Waiting, Config, Runs, Leaves, Ended, Strict, Well, returned, steps}

-- what the machine has beside its registers where the source is in this state
abbrev pub world : Option Thrown → State → World
world e s = record { store = s.store; globals = s.globals; pending = e; output = s.output; items = s.items; turns = s.turns }

-- a function runs, at a place
abbrev pub running : ℕ → ℕ → ℕ → Regs → List Waiting → World → Config
running fn k i regs below w = Runs (record { fn = fn; block = k; place = i; regs = regs }) below w

-- a function left with an exception
abbrev pub Escapes : ℕ → List Waiting → Value → State → Config → Type 0
Escapes fn below v s d = (e : Thrown) × (v ≡ ExcVal e) × (d ≡ Leaves fn below (world (Some e) s))

module _ (p : Program) where
  -- a function returned a value
  abbrev pub returning : Value → List Waiting → World → Config
  returning v below w = returned Strict p Well (Holds v) below w

  -- the machine comes from one configuration to another
  pub record Leads (c d : Config) : Type 0 where
    pub count : ℕ
    pub is : steps Strict p count c ≡ d

  -- from a configuration the machine comes to one that suits the result, or the exception, or the run ends as the source does, where
  -- that is not stuck. No more turns are left than at first
  abbrev pub Ends : {A : Type 0} → ℕ → Config → Outcome A → (A → State → Config → Type 0) → (Value → State → Config → Type 0) → Type 0
  Ends t c (Gives a s) R E = (s.turns ≤ t) × (d : Config) × Leads c d × R a s d
  Ends t c (Raises v s) R E = (s.turns ≤ t) × (d : Config) × Leads c d × E v s d
  Ends t c (Stops w s) R E = (e : Ending) → ending_by w ≡ Some e → Leads c (Ended e (world None s))
