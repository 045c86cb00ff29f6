-- What a well-typed module never does.
use Rattle.std.specs.Prelude.{◌≡◌, ℕ, Bool, true, List, IsSome}
use Rattle.value_core.specs.Items.{Items}
use Rattle.py_typed.specs.Statements.{TypedModule}
use Rattle.source_meaning.specs.SourceRun.{source_run}
use Rattle.py_typed.specs.WellTypedModule.{is_well_typed}

-- no well-typed module is ever stuck. The function `never_stuck` of `source_soundness` claims it
abbrev pub NeverStuck : (List ℕ → Bool) → Type 0
NeverStuck is_identifier = (m : TypedModule) → is_well_typed is_identifier m ≡ true → (n : ℕ) (items : Items) → IsSome (source_run n items m).ending
