-- No run of a code whose lines keep the shares of its places ends in a fault of ownership.
use Rattle.std.proofs.Common.{◌≡◌, refl, sym, ap, subst, ◌∙◌, ℕ, zero, suc, ◌+◌, ◌⊎◌, inl, inr, ⊎_elim, true, [], Option, Some, None, arith}
use Rattle.std.specs.Prelude.{slice_get}
use Rattle.std.specs.Option.{option_and_then}
use Rattle.value_core.specs.Items.{Items}
use Rattle.c_core.specs.declared.code.Line.{Line}
use Rattle.c_core.specs.declared.code.CFunc.{CFunc}
use Rattle.c_core.specs.declared.code.Code.{Code}
use Rattle.c_core.specs.Release.{uses}
use Rattle.c_core.specs.Machine.{MachineState, refs_in}
use Rattle.c_core.specs.Step.{Next, Goes, Ends, step, step_at, line_at}
use Rattle.c_core.specs.Run.{Stop, go_on, first_words, module_function, start, most_steps, machine_run}
use Rattle.c_core.specs.Laws.{IsCounted, Reaches, Here, There}
use Rattle.c_core.proofs.KeepsCounts.{run_keeps_counts}
use Rattle.c_core_ownership_laws.specs.Shares.{Shares}
use Rattle.c_core_ownership_laws.specs.Frames.{Meets, IsMet}
use Rattle.c_core_ownership_laws.specs.Groups.{IsFine}
use Rattle.c_core_ownership_laws.proofs.Totals.{meets-within}
use Rattle.c_core_ownership_laws.proofs.Effects.{unset_words}
use Rattle.c_core_ownership_laws.proofs.Entry.{errors, errors-size, errors-none, errors-bare}
use Rattle.c_core_ownership_laws.proofs.Safe.{Follows, AreKept, Arrives, safe_line}

-- ---- runs
-- a state that is reached, and the next one
pub reaches_next : (code : Code) (j : ℕ) (s t u : MachineState) → Reaches code j s t → step code t ≡ Goes u → Reaches code (j + 1) s u
reaches_next code j s t u (Here v) e = There 0 v u u e (Here u)
reaches_next code j s t u (There k a b c f r) e = There (k + 1) a b u f (reaches_next code k b c u r e)

module _ (code : Code) (Enters At : ℕ → ℕ → Shares → Type 0) (kept : AreKept code Enters At) where
  abbrev pub Safe : Next → Type 0
  Safe (Goes t) = IsMet code At t
  Safe (Ends e t) = IsFine e

  -- a line comes to the next one, or it goes elsewhere and has the shares of that place
  abbrev Steps : MachineState → CFunc → Next → Type 0
  Steps s g (Goes t) = Arrives code Enters At s g (Follows code Enters At s.top.func s.top.place) t ⊎ IsMet code At t
  Steps s g (Ends e t) = IsFine e

  arrived : (s : MachineState) (g : CFunc) → slice_get code.funcs s.top.func ≡ Some g → (n : Next) → Steps s g n → Safe n
  arrived s g is (Goes t) h =
      ⊎_elim
      (λ a. record {
        g = g;
        is = ap (slice_get code.funcs) a.func ∙ is;
        σ = a.go.0;
        at = subst (λ f. At f t.top.place a.go.0) (sym a.func) (subst (λ p. At s.top.func p a.go.0) (sym a.place) a.go.1);
        meets = meets-within g.vars a.σ t.top.vars t.below (uses refs_in t.cells) a.go.0 t.top.ledger a.go.2 a.meets;
        waits = a.waits;
        globals = a.globals;
        slots = a.slots;
      })
      (λ r. r)
      h
  arrived s g is (Ends e t) h = h

  safe_at : (s : MachineState) → IsCounted s → (r : IsMet code At s) → (o : Option Line) → slice_get r.g.lines s.top.place ≡ o → Safe (step_at true code s o)
  safe_at s ok r None e = tt
  safe_at s ok r (Some l) e =
      arrived s r.g r.is (step_at true code s (Some l))
      (safe_line code Enters At s ok r.g r.σ r.is r.meets r.waits r.globals r.slots (Follows code Enters At s.top.func s.top.place) (Steps s r.g) (λ e t f. f) (λ t a. inl a) kept r.at (λ τ h. h) (λ t q. inr q) l ((kept s.top.func r.g r.is).line s.top.place l r.σ r.at e))

  -- a step makes no fault of ownership, and what it comes to has the shares of its place
  pub step_safe : (s : MachineState) → IsCounted s → IsMet code At s → Safe (step code s)
  step_safe s ok r =
      let e : slice_get r.g.lines s.top.place ≡ line_at code s.top =
      sym (ap (option_and_then (λ g. slice_get g.lines s.top.place)) r.is) in
      safe_at s ok r (line_at code s.top) e

  -- ---- the start
  module _ (n : ℕ) (items : Items) where
    pub start_counted : IsCounted (start code n items)
    start_counted = (run_keeps_counts code n items).0 0 (start code n items) (Here (start code n items))

    -- where the code has a function, the start has the shares of its entry
    pub start_met : (g : CFunc) → slice_get code.funcs (module_function code) ≡ Some g → IsMet code At (start code n items)
    start_met g e =
        let t = kept (module_function code) g e in
        let words : first_words (slice_get code.funcs (module_function code)) ≡ errors g.vars = ap first_words e in
        let m : Meets g.vars t.entry (first_words (slice_get code.funcs (module_function code))) [] [] (uses refs_in []) =
        subst (λ ws. Meets g.vars t.entry ws [] [] (uses refs_in [])) (sym words) (record {
          size = errors-size g.vars;
          owned = λ c. sym (errors-none t.entry.owns g.vars c);
          lent = λ r w marked is c. omega (arith, errors-bare g.vars r w is c);
          held = λ r w marked is c. omega (arith, errors-bare g.vars r w is c);
          empty = λ r w marked is. errors-bare g.vars r w is;
          bare = λ r w number is. errors-bare g.vars r w is;
        }) in
        record { g = g; is = e; σ = t.entry; at = t.begins; meets = m; waits = tt; globals = λ k w number is. unset_words code.globals k w is; slots = λ c x e. absurd (cc) }

    start_step : (o : Option CFunc) → slice_get code.funcs (module_function code) ≡ o → Safe (step_at true code (start code n items) (option_and_then (λ g. slice_get g.lines 0) o))
    start_step None e = tt
    start_step (Some g) e =
        subst (λ z. Safe (step_at true code (start code n items) z)) (ap (option_and_then (λ h. slice_get h.lines 0)) e)
        (step_safe (start code n items) start_counted (start_met g e))

    pub first_safe : Safe (step code (start code n items))
    first_safe = start_step (slice_get code.funcs (module_function code)) refl

    -- what the start comes to
    abbrev pub Reached : Next → Type 0
    Reached (Goes t) = (j : ℕ) × Reaches code j (start code n items) t
    Reached (Ends e t) = Unit {0}

    pub reached_counted : (j : ℕ) (t : MachineState) → Reaches code j (start code n items) t → IsCounted t
    reached_counted j t r = (run_keeps_counts code n items).0 j t r

    reached_at : (t : MachineState) (j : ℕ) → Reaches code j (start code n items) t → (next : Next) → step code t ≡ next → Reached next
    reached_at t j r (Goes u) e = (j + 1, reaches_next code j (start code n items) t u r e)
    reached_at t j r (Ends d u) e = tt

    pub reached_step : (t : MachineState) (j : ℕ) → Reaches code j (start code n items) t → Reached (step code t)
    reached_step t j r = reached_at t j r (step code t) refl

    next_fine : (k : ℕ) (next : Next) (stop : Stop) → Reached next → Safe next → go_on (step code) k next ≡ Some stop → IsFine stop.ending
    next_fine k (Ends e t) stop r h is =
        let same_stop : record { ending = e; state = t } ≡ stop = cc in subst (λ z. IsFine z.ending) same_stop h
    next_fine zero (Goes t) stop r h is = cc
    next_fine (suc k) (Goes t) stop r h is =
        next_fine k (step code t) stop (reached_step t r.0 r.1) (step_safe t (reached_counted r.0 t r.1) h) is

    start_fine : (k : ℕ) (stop : Stop) → go_on (step code) k (Goes (start code n items)) ≡ Some stop → IsFine stop.ending
    start_fine zero stop is = cc
    start_fine (suc k) stop is =
        next_fine k (step code (start code n items)) stop (reached_step (start code n items) 0 (Here (start code n items))) first_safe is

    -- a run ends in no fault of ownership
    pub run_fine : (stop : Stop) → machine_run n items code ≡ Some stop → IsFine stop.ending
    run_fine stop is = start_fine (most_steps n code) stop is

    -- each state that is reached has the shares of its place
    met_later : (j : ℕ) (s t : MachineState) → Reaches code j s t → (i : ℕ) → Reaches code i (start code n items) s → IsMet code At s → IsMet code At t
    met_later j s t (Here u) i before h = h
    met_later j s t (There k a b c e r) i before h =
        met_later k b c r (i + 1) (reaches_next code i (start code n items) a b before e) (subst Safe e (step_safe a (reached_counted i a before) h))

    pub reached_met : (g : CFunc) → slice_get code.funcs (module_function code) ≡ Some g → (j : ℕ) (s : MachineState) → Reaches code j (start code n items) s → IsMet code At s
    reached_met g e j s r =
        met_later j (start code n items) s r 0 (Here (start code n items)) (start_met g e)
