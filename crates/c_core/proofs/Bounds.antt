-- How far a run can go: no further than steps are left at its start.
use Rattle.std.proofs.Common.{◌≡◌, refl, subst, ℕ, zero, suc, ◌+◌, ◌-◌, ◌*◌, ◌<◌, ◌≤◌, arith, Bool, true, false, List, [], ◌∷◌, length, Some}
use Rattle.std.specs.Prelude.{slice_get, map, ◌&&◌}
use Rattle.std.specs.List.{list_all}
use Rattle.value_core.specs.Items.{Items}
use Rattle.c_core.specs.declared.code.Line.{Line}
use Rattle.c_core.specs.declared.code.CFunc.{CFunc}
use Rattle.c_core.specs.declared.code.Code.{Code}
use Rattle.c_core.specs.Cells.{count_at}
use Rattle.c_core.specs.Machine.{MachineState}
use Rattle.c_core.specs.Step.{Next, Goes, Ends, step_at, line_at}
use Rattle.c_core.specs.Run.{Stop, go_on, start, most_lines, most_steps, module_function, unchecked_run}
use Rattle.c_core.specs.WellFormed.{WellFormed, is_spelled, spelled_globals, spelled_class, spelled_functions, names_differ, function_fits, classes_fit, functions_fit, is_leaving}
use Rattle.c_core.specs.Laws.{state_after, Reaches, Here, There, RunExists, RunStaysSmall}
use Rattle.c_core.proofs.Lines.{and_true, leads_on}
use Rattle.c_core.proofs.Falls.{most, steps_left, Falls, step_falls, first_left}
use Rattle.c_core.proofs.SmallSteps.{IsSmallStep, small_step}

-- ---- what is used of a well-formed code: each function fits, and some function has lines
pub record Bounded (code : Code) : Type 0 where
  pub all : list_all (function_fits code) code.funcs ≡ true
  pub some_lines : 1 ≤ most code

has_lines : (lines : List Line) → is_leaving (slice_get lines (length lines - 1)) ≡ true → 1 ≤ length lines
has_lines [] e = absurd (cc)
has_lines (l ∷ lines) e = omega arith

function_has_lines : (code : Code) (g : CFunc) → function_fits code g ≡ true → 1 ≤ length g.lines
function_has_lines code g fits = has_lines g.lines (leads_on code g fits).leaving

most_some : (code : Code) (fs : List CFunc) → spelled_functions fs ≡ true → list_all (function_fits code) fs ≡ true → 1 ≤ most_lines fs
most_some code [] e all = absurd (cc)
most_some code (g ∷ fs) e all =
    omega (arith, function_has_lines code g (and_true (function_fits code g) (list_all (function_fits code) fs) all).0)

bounded : (code : Code) → WellFormed code → Bounded code
bounded code wf =
    let globals = names_differ (map (λ v. v.0) code.globals) in
    let classes = list_all spelled_class code.classes in
    let both = and_true (is_spelled code) (globals && (classes_fit code && functions_fit code)) wf in
    let spelled = and_true (spelled_globals code.globals) (classes && spelled_functions code.funcs) both.0 in
    let some = (and_true classes (spelled_functions code.funcs) spelled.1).1 in
    let fits = (and_true (classes_fit code) (functions_fit code) (and_true globals (classes_fit code && functions_fit code) both.1).1).1 in
    let all = (and_true (names_differ (map (λ g. g.name) code.funcs)) (list_all (function_fits code) code.funcs) fits).1 in
    record { all = all; some_lines = most_some code code.funcs some all }

-- ---- with more steps than are left a run stops
module _ (is_checked : Bool) (code : Code) where
  abbrev any_step : MachineState → Next
  any_step s = step_at is_checked code s (line_at code s.top)

  abbrev StopsFrom : ℕ → Next → Type 0
  StopsFrom k next = (stop : Stop) × (go_on any_step k next ≡ Some stop)

  after_step : (k : ℕ) (s : MachineState) (next : Next) → Falls code s next → steps_left code s < suc k → ((t : MachineState) → steps_left code t < k → StopsFrom k (Goes t)) → StopsFrom k next
  after_step k s (Ends e t) falls lt later = (record { ending = e; state = t }, refl)
  after_step k s (Goes t) falls lt later = later t (omega (arith, falls, lt))

  stops : Bounded code → (k : ℕ) (s : MachineState) → steps_left code s < k → StopsFrom k (Goes s)
  stops b zero s lt = absurd (omega (arith, lt))
  stops b (suc k) s lt = after_step k s (any_step s) (step_falls is_checked code b.all s) lt (stops b k)

start_left : (code : Code) → Bounded code → (n : ℕ) (items : Items) → steps_left code (start code n items) < most_steps n code
start_left code b n items =
    let mul : (n + 2) * most code ≡ n * most code + most code + most code = omega arith in
    omega (arith, mul, first_left code b.all (module_function code), b.some_lines)

run_stops : (is_checked : Bool) (code : Code) → WellFormed code → (n : ℕ) (items : Items) → StopsFrom is_checked code (most_steps n code) (Goes (start code n items))
run_stops is_checked code wf n items =
    let b = bounded code wf in stops is_checked code b (most_steps n code) (start code n items) (start_left code b n items)

pub run_exists : RunExists
run_exists code wf n items = run_stops true code wf n items

-- and without tests of ownership
pub unchecked_run_exists : (code : Code) → WellFormed code → (n : ℕ) (items : Items) → (stop : Stop) × (unchecked_run n items code ≡ Some stop)
unchecked_run_exists code wf n items = run_stops false code wf n items

-- ---- and no step makes much
pub record IsNear (code : Code) (k : ℕ) (s t : MachineState) : Type 0 where
  pub fewer_left : steps_left code t + k ≤ steps_left code s
  pub few_cells : length t.cells ≤ length s.cells + k
  pub small_counts : (c : ℕ) → count_at t.cells c ≤ count_at s.cells c + k

near : (code : Code) → Bounded code → (k : ℕ) (s t : MachineState) → Reaches code k s t → IsNear code k s t
near code b k s t (Here u) = record { fewer_left = omega arith; few_cells = omega arith; small_counts = λ c. omega arith }
near code b k s t (There j a x u e r) =
    let falls : Falls code a (Goes x) = subst (Falls code a) e (step_falls true code b.all a) in
    let small : IsSmallStep a (state_after (Goes x)) = subst (λ next. IsSmallStep a (state_after next)) e (small_step code a) in
    let rest = near code b j x u r in record {
      fewer_left = omega (arith, falls, rest.fewer_left);
      few_cells = omega (arith, small.few_cells, rest.few_cells);
      small_counts = λ c. omega (arith, small.small_counts c, rest.small_counts c);
    }

pub run_stays_small : RunStaysSmall
run_stays_small code wf n items k s r =
    let b = bounded code wf in
    let all = near code b k (start code n items) s r in
    (omega (arith, start_left code b n items, all.fewer_left), omega (arith, all.few_cells), λ c. omega (arith, all.small_counts c))
