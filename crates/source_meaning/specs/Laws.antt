-- What holds of every run of every module.
use Rattle.std.specs.Prelude.{◌≡◌, ◌≢◌, ℕ, ◌+◌, ◌≤◌, List, ◌++◌, length, Some}
use Rattle.value_core.specs.Ending.{Cut}
use Rattle.value_core.specs.Items.{Items}
use Rattle.py_typed.specs.Statements.{TypedModule}
use Rattle.source_meaning.specs.State.{State, Outcome, Gives, Raises, Stops}
use Rattle.source_meaning.specs.SourceRun.{top_of, ModuleStop, source_run}

-- the second text begins with the first
abbrev pub Begins : List ℕ → List ℕ → Type 0
Begins front text = (more : List ℕ) × (text ≡ front ++ more)

-- the second state has no more turns left than the first, at least its output, and no fewer objects
pub record IsLater (s u : State) : Type 0 where
  pub turns : u.turns ≤ s.turns
  pub output : Begins s.output u.output
  pub store : length s.store ≤ length u.store

-- the state that a part leaves
abbrev pub state_of : {A : Type 0} → Outcome A → State
state_of (Gives a s) = s
state_of (Raises e s) = s
state_of (Stops w s) = s

abbrev pub LeavesLater : {A : Type 0} → State → Outcome A → Type 0
LeavesLater s (Gives a u) = IsLater s u
LeavesLater s (Raises e u) = IsLater s u
LeavesLater s (Stops w u) = IsLater s u

-- any bound of at least the turns left gives the same: what a module's statements do does not hang on the bound
abbrev pub AnyBoundServes : Type 0
AnyBoundServes = (m : TypedModule) (n k : ℕ) (s : State) → s.turns ≤ n → s.turns ≤ k → top_of m n s ≡ top_of m k s

-- turns never rise, output only grows, and the store is never shortened
abbrev pub RunsOnlyAdd : Type 0
RunsOnlyAdd = (m : TypedModule) (n : ℕ) (s : State) → LeavesLater s (top_of m n s)

-- the output of a run for more turns begins with that of one that was cut, and its store is not shorter; one that was not cut is
-- the same for more turns
pub record Continues (short long : ModuleStop) : Type 0 where
  pub cut : short.ending ≡ Some Cut → Begins short.output long.output
  pub kept : short.ending ≡ Some Cut → length short.store ≤ length long.store
  pub whole : short.ending ≢ Some Cut → long ≡ short

abbrev pub LongerRunsContinue : Type 0
LongerRunsContinue = (n more : ℕ) (items : Items) (m : TypedModule) → Continues (source_run n items m) (source_run (n + more) items m)
