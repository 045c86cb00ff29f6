-- A function that is called: its registers hold its arguments, and what its body gives is what the call gives.
use Rattle.ir_builder.proofs.Common.{◌≡◌, ℕ, zero, suc, ◌+◌, ◌-◌, ◌<◌, ◌≤◌, true, false, List, [], ◌∷◌, ◌++◌, length, map, take, Option, Some, None, refl, ap, ◌∙◌, arith, ⊎_elim, cases_lt, slice_get, nat_eq, nat_lt, if◌then◌else◌, replicate, option_map, Value, BoolVal, NoneVal, Sort, State, Outcome, Gives, Raises, Stops, on_to, Variable, TypedFunc, TypedModule, Flow, Goes, Breaks, Continues, Returns, and_set, answer, Func, Program, Waiting, Config, RType, Held, Unset, Holds, error_of, error_at, first_regs, Regs, Declared, type_of_reg, world, running, Ends, HasKind, flag_of, Matches, parameter_sorts, CallGives, CallRaises, rtype_of, get_below, means_suite, variable_registers, variables_of, LeavesWith, BodyWorks, end_value, Does, Escapes, watch_each, watch}
use Rattle.std.proofs.lemmas.Bool.Decides.{nat_tests}
use Rattle.py_typed.specs.Sorts as sort
use Rattle.ir_core.specs.declared.code.RType.TheVariants.{Bool as BoolType}
use Rattle.std.proofs.lemmas.Bool.{eqb-true}
use Rattle.source_soundness.proofs.Inverse.{watched_is}
use Rattle.ir_builder_frames.proofs.ComingLemmas.{ends_stuck}
use Rattle.ir_builder.specs.Functions.{FunctionWorks}
use Rattle.ir_builder.specs.Lines.{setting_in}
use Rattle.std.proofs.lemmas.List.{length-map, length-take-le}
use Rattle.source_meaning.specs.State.{stop, ◌>>◌, ◌>>=◌, Stuck}
use Rattle.source_meaning.specs.WaysOut.{inside}
use Rattle.value_core.specs.Value.{IntVal}
use Rattle.std.specs.Prelude.{Bool}

-- ---- arguments

abbrev pub sort_of : Variable → Sort
sort_of v = v.1

pub sorts_size : (f : TypedFunc) → f.params ≤ length f.locals → length (parameter_sorts f) ≡ f.params
sorts_size f le = length-map (take f.params f.locals) sort_of ∙ length-take-le f.params f.locals le

-- a parameter, its argument, and its register
args_at : (vs : List Variable) (args : List Value) (more : Declared) (rest : List (Option Value)) (j : ℕ) (v : Variable) → j < length args → slice_get vs j ≡ Some v → (a : Value) × (slice_get (map Some args ++ rest) j ≡ Some (Some a)) × (first_regs (variable_registers vs ++ more) (map Holds args) j ≡ Holds a)
args_at [] args more rest j v lt e = let f : None ≡ Some v = e in absurd (cc)
args_at (u ∷ vs) [] more rest j v lt e = absurd (omega arith)
args_at (u ∷ vs) (a ∷ args) more rest zero v lt e = (a, refl, refl)
args_at (u ∷ vs) (a ∷ args) more rest (suc j) v lt e = args_at vs args more rest j v (omega arith) e

-- a variable that is no parameter is unset
none_at : (k j : ℕ) → j < k → slice_get (replicate {A = Option Value} k None) j ≡ Some None
none_at zero j lt = absurd (omega arith)
none_at (suc k) zero lt = refl
none_at (suc k) (suc j) lt = none_at k j (omega arith)

unset_at : (args : List Value) (k j : ℕ) → length args ≤ j → j < length args + k → slice_get (map Some args ++ replicate k None) j ≡ Some None
unset_at [] k j le lt = none_at k j (let q : j < 0 + k = lt in omega (arith, q))
unset_at (a ∷ args) k zero le lt = absurd (omega arith)
unset_at (a ∷ args) k (suc j) le lt = unset_at args k j (omega arith) (omega arith)

-- a register behind the arguments holds the error value of its type
error_there : (ds : Declared) (k : ℕ) (d : List ℕ × RType) → slice_get ds k ≡ Some d → error_at ds k ≡ error_of d.1
error_there [] k d e = let f : None ≡ Some d = e in absurd (cc)
error_there (c ∷ ds) zero d e = let f : Some c ≡ Some d = e in let same : c ≡ d = cc in ap (λ (z : List ℕ × RType). error_of z.1) same
error_there (c ∷ ds) (suc k) d e = error_there ds k d e

first_unset : (ds : Declared) (xs : List Held) (k : ℕ) (d : List ℕ × RType) → length xs ≤ k → slice_get ds k ≡ Some d → first_regs ds xs k ≡ error_of d.1
first_unset ds [] k d le e = error_there ds k d e
first_unset [] (x ∷ xs) k d le e = let f : None ≡ Some d = e in absurd (cc)
first_unset (c ∷ ds) (x ∷ xs) zero d le e = absurd (omega arith)
first_unset (c ∷ ds) (x ∷ xs) (suc k) d le e = first_unset ds xs k d (omega arith) e

flag_unset : (ds : Declared) (xs : List Held) (k : ℕ) (o : Option (List ℕ × RType)) → length xs ≤ k → slice_get ds k ≡ o → option_map (λ (d : List ℕ × RType). d.1) o ≡ Some BoolType → first_regs ds xs k ≡ Unset
flag_unset ds xs k None le e h = let f : None ≡ Some BoolType = h in absurd (cc)
flag_unset ds xs k (Some d) le e h = first_unset ds xs k d le e ∙ ap error_of (let f : Some d.1 ≡ Some BoolType = h in let same : d.1 ≡ BoolType = cc in same)

-- the flags of a function's registers
abbrev pub HaveFlags : ℕ → ℕ → Declared → Type 0
HaveFlags params n declared =
    (j : ℕ) → params ≤ j → j < n → type_of_reg declared (record { 0 = flag_of (variables_of params n) j }) ≡ Some BoolType

entered : (m : TypedModule) (vs : List Variable) (params : ℕ) (declared more : Declared) (args : List Value) (s : State) → params ≤ length vs → declared ≡ variable_registers vs ++ more → HaveFlags params (length vs) declared → length args ≡ params → Matches (setting_in m params vs) (first_regs declared (map Holds args)) (record s { locals = map Some args ++ replicate (length vs - length args) None; handled = [] })
entered m vs params declared more args s few regs flags size = record {
  each = λ j v at.
      let low : j < length vs = get_below vs j v at in
      let now : Regs = first_regs declared (map Holds args) in
      let place : ℕ = flag_of (variables_of params (length vs)) j in
      ⊎_elim
      (λ (lt : j < params).
      let a = args_at vs args more (replicate (length vs - length args) None) j v (omega (arith, size)) at in
      let e : nat_lt j params ≡ true = grind (arith, nat_tests) in
      let held : now j ≡ Holds a.0 = ap (λ ds. first_regs ds (map Holds args) j) regs ∙ a.2 in
      (Some a.0, a.1, (held, ap (λ b. if b then Holds (BoolVal true) else now place) e)))
      (λ (le : params ≤ j).
      let wide : length (map {B = Held} Holds args) ≤ place = omega (arith, length-map {B = Held} args Holds, size) in
      let unset : now place ≡ Unset = flag_unset declared (map Holds args) place (slice_get declared place) wide refl (flags j le low) in
      let e : nat_lt j params ≡ false = grind (arith, nat_tests) in
      (None, unset_at args (length vs - length args) j (omega (arith, size)) (omega (arith, size)), ap (λ b. if b then Holds (BoolVal true) else now place) e ∙ unset))
      (cases_lt j params);
}

-- each is looked at
each_watched : (m : TypedModule) (vs : List Variable) (args : List Value) (s : State) (P : Outcome (Unit {0}) → Type 0) → P (Gives tt s) → P (Stops Stuck s) → P (watch_each (watch m) vs args s)
each_watched m [] args s P p q = p
each_watched m (x ∷ vs) [] s P p q = p
each_watched m (x ∷ vs) (a ∷ args) s P p q = watched_is m.classes.classes x.1 a s (λ o. P (on_to o (λ u. watch_each (watch m) vs args))) (λ shape. each_watched m vs args s P p q) q

-- ---- results

-- what the code gives behind the last statement is None, or it is not looked at
end_is : (t : Sort) → HasKind t NoneVal → end_value (rtype_of t) ≡ NoneVal
end_is sort.Int k = let f : NoneVal ≡ IntVal k.0 = k.1 in absurd (cc)
end_is sort.I64 k = let f : NoneVal ≡ IntVal k.0 = k.1 in absurd (cc)
end_is sort.Bool k = let f : NoneVal ≡ BoolVal k.0 = k.1 in absurd (cc)
end_is t k = refl

module _ (p : Program) (f : TypedFunc) (fn : ℕ) (below : List Waiting) (s : State) where
  -- what a call does behind its body
  answers : (c : Config) (t : ℕ) (r : Outcome Flow) → Ends p t c r (LeavesWith p (Some f.ret) (end_value (rtype_of f.ret)) below) (Escapes fn below) → Ends p t c (and_set (λ u. record u { locals = s.locals; handled = s.handled }) (on_to r (answer NoneVal))) (CallGives p f.ret below s) (CallRaises fn below s)
  answers c t (Gives Goes u) h = (h.0, h.1, h.2, (end_value (rtype_of f.ret), end_is f.ret, refl, h.3))
  answers c t (Gives Breaks u) h = absurd h.3
  answers c t (Gives Continues u) h = absurd h.3
  answers c t (Gives (Returns v) u) h = (h.0, h.1, h.2, (v, λ kind. refl, refl, h.3.1))
  answers c t (Raises v u) h = (h.0, h.1, h.2, (refl, h.3))
  answers c t (Stops w u) h = h

by_either : {A : Type 0} (b : Bool) (d e : Does A) (s : State) (P : Outcome A → Type 0) → (b ≡ true → P (d s)) → P (e s) → P ((if b then d else e) s)
by_either true d e s P f q = f refl
by_either false d e s P f q = q

-- what a call of a function does once its turn is spent
pub function_works : (p : Program) (m : TypedModule) (f : TypedFunc) (fn : ℕ) (h : Func) (more : Declared) → f.params ≤ length f.locals → h.regs ≡ variable_registers f.locals ++ more → HaveFlags f.params (length f.locals) h.regs → BodyWorks p (setting_in m f.params f.locals) (Some f.ret) (end_value (rtype_of f.ret)) (means_suite (setting_in m f.params f.locals) f.body) fn 0 1 → FunctionWorks p m f fn h
function_works p m f fn h more few regs flags body n calls args below s le =
    let rest : List (Option Value) = replicate (length f.locals - length args) None in
    let first : State = record s { locals = map Some args ++ rest; handled = [] } in
    let here = running fn 0 1 (first_regs h.regs (map Holds args)) below (world None s) in
    let means : Does Flow = means_suite (setting_in m f.params f.locals) f.body n in
    let run : Does Value = inside (map Some args ++ rest) (means >>= answer NoneVal) in
    let P : Outcome Value → Type 0 = λ o. Ends p s.turns here o (CallGives p f.ret below s) (CallRaises fn below s) in
    let stuck : P (Stops Stuck s) = ends_stuck p s.turns here s (CallGives p f.ret below s) (CallRaises fn below s) in
    by_either (nat_eq (length args) f.params) (watch_each (watch m) f.locals args >> run) (stop Stuck) s P
    (λ fits. each_watched m f.locals args s (λ o. P (on_to o (λ u. run)))
    (answers p f fn below s here s.turns (means first) (body n calls (first_regs h.regs (map Holds args)) below first (entered m f.locals f.params h.regs more args s few regs flags (eqb-true (length args) f.params fits)) le))
    stuck)
    stuck
