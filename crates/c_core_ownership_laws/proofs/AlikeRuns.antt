-- The checked run of a code whose lines keep the shares of its places ends as the unchecked one, and the other way round.
use Rattle.std.proofs.Common.{◌≡◌, refl, sym, ap, subst, ℕ, zero, suc, ⊎_elim, [], Some}
use Rattle.value_core.specs.Items.{Items}
use Rattle.c_core.specs.declared.code.Code.{Code}
use Rattle.c_core.specs.declared.fault.Fault.TheVariants as fault
use Rattle.c_core.specs.Machine.{MachineState}
use Rattle.c_core.specs.Step.{MachineEnding, Ended, Faulted, Next, Goes, Ends, step, unchecked_step}
use Rattle.c_core.specs.Run.{Stop, go_on, start, most_steps, machine_run, unchecked_run}
use Rattle.c_core.specs.Laws.{Here}
use Rattle.c_core_ownership_laws.specs.Shares.{Shares}
use Rattle.c_core_ownership_laws.specs.Alike.{IsLike, IsOwnership, Alike}
use Rattle.c_core_ownership_laws.specs.Order.{Entered}
use Rattle.c_core_ownership_laws.specs.Laws.{AgreesWith, RunsAgree}
use Rattle.c_core_ownership_laws.specs.Groups.{IsFine}
use Rattle.c_core_ownership_laws.proofs.Placed.{ChecksAt, order_kept}
use Rattle.c_core.proofs.Bounds.{run_exists}
use Rattle.c_core_ownership_laws.proofs.Safe.{AreKept}
use Rattle.c_core_ownership_laws.proofs.Runs.{Safe, Reached, reached_step, reached_counted, start_counted, first_safe, step_safe}
use Rattle.c_core_ownership_laws.proofs.Alike.{step_alike}

no_fault : (e : MachineEnding) → IsFine e → IsOwnership e → ⊥
no_fault (Ended e) fine h = h
no_fault (Faulted fault.Kind) fine h = h
no_fault (Faulted fault.Dead) fine h = fine
no_fault (Faulted fault.NotOwned) fine h = fine
no_fault (Faulted fault.Leak) fine h = fine

same_stop : (e d : MachineEnding) (s u : MachineState) → e ≡ d → IsLike s u → AgreesWith (record { ending = e; state = s }) (record { ending = d; state = u })
same_stop e d s u is k = record { ending = is; output = ap (λ z. z.output) (sym k.is); like = k }

module _ (code : Code) (Enters At : ℕ → ℕ → Shares → Type 0) (kept : AreKept code Enters At) (n : ℕ) (items : Items) where
  -- ends that are alike agree, as the first is no fault of ownership
  ends_agree : (e d : MachineEnding) (s u : MachineState) → Alike (Ends e s) (Ends d u) → IsFine e → AgreesWith (record { ending = e; state = s }) (record { ending = d; state = u })
  ends_agree e d s u a fine =
      ⊎_elim (λ b. same_stop e d s u b.0 b.1) (λ b. absurd (no_fault e fine b)) a

  -- where the unchecked run stops, the checked one does
  forward : (k : ℕ) (next other : Next) (free : Stop) → Alike next other → Safe code Enters At kept next → Reached code Enters At kept n items next → go_on (unchecked_step code) k other ≡ Some free → (stop : Stop) × (go_on (step code) k next ≡ Some stop) × AgreesWith stop free
  forward k (Ends e s) (Ends d u) free a safe r is =
      let last : record { ending = d; state = u } ≡ free = cc in
      (record { ending = e; state = s }, refl, subst (AgreesWith (record { ending = e; state = s })) last (ends_agree e d s u a safe))
  forward k (Ends e s) (Goes u) free a safe r is = absurd (no_fault e safe a)
  forward k (Goes s) (Ends d u) free a safe r is = absurd a
  forward zero (Goes s) (Goes u) free a safe r is = cc
  forward (suc k) (Goes s) (Goes u) free a safe r is =
      let ok = reached_counted code Enters At kept n items r.0 s r.1 in
      forward k (step code s) (unchecked_step code u) free (step_alike code s u ok a) (step_safe code Enters At kept s ok safe) (reached_step code Enters At kept n items s r.0 r.1) is

  -- and where the checked one stops, the unchecked one does
  back : (k : ℕ) (next other : Next) (stop : Stop) → Alike next other → Safe code Enters At kept next → Reached code Enters At kept n items next → go_on (step code) k next ≡ Some stop → (free : Stop) × (go_on (unchecked_step code) k other ≡ Some free) × AgreesWith stop free
  back k (Ends e s) (Ends d u) stop a safe r is =
      let last : record { ending = e; state = s } ≡ stop = cc in
      (record { ending = d; state = u }, refl, subst (λ z. AgreesWith z (record { ending = d; state = u })) last (ends_agree e d s u a safe))
  back k (Ends e s) (Goes u) stop a safe r is = absurd (no_fault e safe a)
  back k (Goes s) (Ends d u) stop a safe r is = absurd a
  back zero (Goes s) (Goes u) stop a safe r is = cc
  back (suc k) (Goes s) (Goes u) stop a safe r is =
      let ok = reached_counted code Enters At kept n items r.0 s r.1 in
      back k (step code s) (unchecked_step code u) stop (step_alike code s u ok a) (step_safe code Enters At kept s ok safe) (reached_step code Enters At kept n items s r.0 r.1) is

  start_like : IsLike (start code n items) (start code n items)
  start_like =
      record { cells = []; ledger = []; ledgers = []; is = refl; more = record { size = refl; more = λ c v e. e } }

  first_alike : Alike (step code (start code n items)) (unchecked_step code (start code n items))
  first_alike =
      step_alike code (start code n items) (start code n items) (start_counted code Enters At kept n items) start_like

  first_reached : Reached code Enters At kept n items (step code (start code n items))
  first_reached = reached_step code Enters At kept n items (start code n items) 0 (Here (start code n items))

  start_forward : (k : ℕ) (free : Stop) → go_on (unchecked_step code) k (Goes (start code n items)) ≡ Some free → (stop : Stop) × (go_on (step code) k (Goes (start code n items)) ≡ Some stop) × AgreesWith stop free
  start_forward zero free is = cc
  start_forward (suc k) free is =
      forward k (step code (start code n items)) (unchecked_step code (start code n items)) free first_alike (first_safe code Enters At kept n items) first_reached is

  start_back : (k : ℕ) (stop : Stop) → go_on (step code) k (Goes (start code n items)) ≡ Some stop → (free : Stop) × (go_on (unchecked_step code) k (Goes (start code n items)) ≡ Some free) × AgreesWith stop free
  start_back zero stop is = cc
  start_back (suc k) stop is =
      back k (step code (start code n items)) (unchecked_step code (start code n items)) stop first_alike (first_safe code Enters At kept n items) first_reached is

  pub run_alike : (free : Stop) → unchecked_run n items code ≡ Some free → (stop : Stop) × (machine_run n items code ≡ Some stop) × AgreesWith stop free
  run_alike free is = start_forward (most_steps n code) free is

  pub run_back : (stop : Stop) → machine_run n items code ≡ Some stop → (free : Stop) × (unchecked_run n items code ≡ Some free) × AgreesWith stop free
  run_back stop is = start_back (most_steps n code) stop is

pub runs_agree : RunsAgree
runs_agree code t fits order n items =
    let run = run_exists code fits n items in
    let other = run_back code (Entered t) (ChecksAt code t order) (order_kept code t order) n items run.0 run.1 in
    (run.0, other.0, run.1, other.1, other.2)
