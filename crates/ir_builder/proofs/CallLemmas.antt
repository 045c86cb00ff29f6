-- Calls do what functions do, for every number of turns.
use Rattle.ir_builder.proofs.Common.{◌≡◌, ℕ, zero, suc, ◌≤◌, List, map, Some, None, refl, sym, ap, ◌∙◌, subst, arith, slice_get, Value, State, on_to, spend_from, body_of, enter, TypedFunc, TypedModule, Func, Turn, Program, Do, Waiting, Ended, Strict, item_at, turned, step, Holds, Regs, first_regs, op_step, turn_step, world, running, Ends, HasGlobals, HasHead, CallGives, CallRaises, CallsWork, leads_step, ends_from, ends_of, FunctionWorks}
use Rattle.value_core.specs.Ending as ending
use Rattle.source_meaning.specs.State as state
use Rattle.ir_builder_frames.specs.Watching.{watch, calls_in}
use Rattle.ir_builder_frames.proofs.ComingLemmas.{ends_so}

-- a function of the module has its code, which begins with a turn
pub record IsThere (p : Program) (m : TypedModule) (g : ℕ) (f : TypedFunc) : Type 0 where
  pub code : Func
  pub at : slice_get p.funcs g ≡ Some code
  pub head : HasHead code f
  pub turn : (line : ℕ) × (item_at p g 0 0 ≡ Some (Do Turn line))
  pub works : FunctionWorks p m f g code

module _ (p : Program) (m : TypedModule) (variables : HasGlobals p m) (there : (g : ℕ) (f : TypedFunc) → slice_get m.funcs g ≡ Some f → IsThere p m g f) where
  -- where no turn is left
  cut : {line : ℕ} (g : ℕ) (regs : Regs) (below : List Waiting) (s : State) → item_at p g 0 0 ≡ Some (Do Turn line) → s.turns ≡ 0 → step Strict p (running g 0 0 regs below (world None s)) ≡ Ended ending.Cut (world None s)
  cut g regs below s turn none =
      op_step Strict p (record { fn = g; block = 0; place = 0; regs = regs }) below (world None s) Turn turn
      ∙ ap (turned (record { fn = g; block = 0; place = 0; regs = regs }) below (world None s)) none

  -- a call with some turns left, where calls with fewer work
  called : {line : ℕ} (n : ℕ) → ((k : ℕ) → n ≡ suc k → CallsWork p m k) → (g : ℕ) (f : TypedFunc) (h : Func) (args : List Value) (below : List Waiting) (s : State) (t : ℕ) → s.turns ≡ t → slice_get m.funcs g ≡ Some f → slice_get p.funcs g ≡ Some h → item_at p g 0 0 ≡ Some (Do Turn line) → FunctionWorks p m f g h → s.turns ≤ n → Ends p s.turns (running g 0 0 (first_regs h.regs (map Holds args)) below (world None s)) (on_to (spend_from t s) (λ _. body_of (watch m) m n g args)) (CallGives p f.ret below s) (CallRaises g below s)
  called n fewer g f h args below s zero left is at turn works le =
      ends_so p s.turns _ state.Cut ending.Cut s (CallGives p f.ret below s) (CallRaises g below s) refl (leads_step p _ _ (cut g (first_regs h.regs (map Holds args)) below s turn left))
  called zero fewer g f h args below s (suc t) left is at turn works le = absurd (omega (arith, left, le))
  called (suc k) fewer g f h args below s (suc t) left is at turn works le =
      let less : State = record s { turns = t } in
      let regs = first_regs h.regs (map Holds args) in
      let few : t ≤ k = omega (arith, left, le) in
      let run = works k (fewer k refl) args below less few in
      let same : enter (watch m) m (calls_in m k) k (slice_get m.funcs g) args less ≡ enter (watch m) m (calls_in m k) k (Some f) args less = ap (λ o. enter (watch m) m (calls_in m k) k o args less) is in
      let go = leads_step p _ _ (turn_step Strict p (record { fn = g; block = 0; place = 0; regs = regs }) below (world None s) t turn refl left) in
      ends_from p t s.turns _ (running g 0 1 regs below (world None less)) (enter (watch m) m (calls_in m k) k (slice_get m.funcs g) args less) (CallGives p f.ret below s) (CallRaises g below s) (omega (arith, left)) go
      (ends_of p t _ _ _ (CallGives p f.ret below s) (CallRaises g below s) same run)

  with_fewer : (n : ℕ) → ((k : ℕ) → n ≡ suc k → CallsWork p m k) → CallsWork p m n
  with_fewer n fewer = record {
    variables = variables;
    there = λ g f is. let t = there g f is in (t.code, t.at, t.head);
    each = λ g f h args below s is at le.
        let t = there g f is in
        let same : t.code ≡ h = (let both : Some t.code ≡ Some h = sym t.at ∙ at in cc) in
        called n fewer g f h args below s s.turns refl is at t.turn.1 (subst (λ z. FunctionWorks p m f g z) same t.works) le;
  }

  pub calls_work : (n : ℕ) → CallsWork p m n
  calls_work zero = with_fewer zero (λ k e. absurd (omega (arith, e)))
  calls_work (suc n) = with_fewer (suc n) (λ k e. subst (CallsWork p m) (let q : n ≡ k = omega (arith, e) in q) (calls_work n))
