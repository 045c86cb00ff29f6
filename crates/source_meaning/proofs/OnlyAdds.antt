-- Whatever the bound: no turns are added, the store gets no shorter, and the output only grows.
use Rattle.std.proofs.Common.{◌≡◌, ℕ, zero, suc, [], ◌∷◌, refl, arith, le_refl}
use Rattle.value_core.specs.Value.{Value}
use Rattle.py_typed.specs.Statements.{TypedModule}
use Rattle.source_meaning.specs.State.{State, Stop, Cut, Outcome, Gives, Raises, Stops, Does, on_to, ◌>>=◌, ◌>>◌, give, raise, stop, spend, spend_from}
use Rattle.source_meaning.specs.WaysOut.{Flow, Goes, Breaks, Continues, Returns, flow_on, caught, catch, at_last, finally, and_set, unset}
use Rattle.source_meaning.specs.Laws.{IsLater, LeavesLater}
use Rattle.source_meaning.specs.SourceRun.{top_of}
use Rattle.source_meaning.proofs.Closed.{Closed}
use Rattle.source_meaning.proofs.AnyBound.{begins, stays, leaves_on, leaves_set, same_turns, unset_later, read_leaves, longer, as_long}
use Rattle.source_meaning.proofs.RunAlike.{top_alike}

-- what is done leaves later states
record OnlyAdds (A : Type 0) (d : Does A) : Type 0 where
  on : (s : State) → LeavesLater s (d s)

abbrev Adds : {A : Type 0} → Does A → Type 0
Adds {A = A} d = OnlyAdds A d

bind_from : {A B : Type 0} {f : A → Does B} (s : State) (o : Outcome A) → LeavesLater s o → ((a : A) → Adds (f a)) → LeavesLater s (on_to o f)
bind_from s (Gives a u) l h = leaves_on s u _ l ((h a).on u)
bind_from s (Raises e u) l h = l
bind_from s (Stops w u) l h = l

bind_adds : {A B : Type 0} {d : Does A} {f : A → Does B} → Adds d → ((a : A) → Adds (f a)) → Adds (d >>= f)
bind_adds {d = d} p h = record { on = λ s. bind_from s (d s) (p.on s) h }

catch_from : {f : Value → Does Flow} (s : State) (o : Outcome Flow) → LeavesLater s o → ((v : Value) → Adds (f v)) → LeavesLater s (caught f o)
catch_from s (Gives a u) l h = l
catch_from s (Raises e u) l h = leaves_on s u _ l ((h e).on u)
catch_from s (Stops w u) l h = l

catch_adds : {d : Does Flow} {f : Value → Does Flow} → Adds d → ((v : Value) → Adds (f v)) → Adds (catch d f)
catch_adds {d = d} p h = record { on = λ s. catch_from s (d s) (p.on s) h }

give_adds : {A : Type 0} (a : A) → Adds (give a)
give_adds a = record { on = stays }

raise_adds : {A : Type 0} (e : Value) → Adds {A = A} (raise e)
raise_adds e = record { on = stays }

stop_adds : {A : Type 0} (w : Stop) → Adds {A = A} (stop w)
stop_adds w = record { on = stays }

flow_adds : {d : Does Flow} → Adds d → (f : Flow) → Adds (flow_on d f)
flow_adds p Goes = p
flow_adds p Breaks = give_adds Breaks
flow_adds p Continues = give_adds Continues
flow_adds p (Returns v) = give_adds (Returns v)

last_from : {f : Does Flow} (s : State) (o : Outcome Flow) → LeavesLater s o → Adds f → LeavesLater s (at_last f o)
last_from s (Gives a u) l h = leaves_on s u _ l ((bind_adds h (flow_adds (give_adds a))).on u)
last_from s (Raises e u) l h = leaves_on s u _ l ((bind_adds h (flow_adds (raise_adds e))).on u)
last_from s (Stops w u) l h = l

final_adds : {d f : Does Flow} → Adds d → Adds f → Adds (finally d f)
final_adds {d = d} p h = record { on = λ s. last_from s (d s) (p.on s) h }

spent : {A : Type 0} {d : Does A} → Adds d → (n : ℕ) (s : State) → s.turns ≡ n → LeavesLater s (on_to (spend_from n s) (λ _. d))
spent p zero s q = stays s
spent p (suc n) s q =
    leaves_on s (record s { turns = n }) _ (record { turns = omega (arith, q); output = begins s.output; store = le_refl _ }) (p.on (record s { turns = n }))

spend_adds : {A : Type 0} {d : Does A} → Adds d → Adds (spend >> d)
spend_adds p = record { on = λ s. spent p s.turns s refl }

-- a change of the state on the way in, and one on the way out
set_on : {A : Type 0} {d : Does A} (before : State → State) (behind : State → State → State) → ((s : State) → IsLater s (before s)) → ((s u : State) → IsLater u (behind s u)) → Adds d → (s : State) → LeavesLater s (and_set (behind s) (d (before s)))
set_on before behind h l p s = leaves_set s (behind s) (l s) _ (leaves_on s (before s) _ (h s) (p.on (before s)))

closed : Closed (λ t A d e. OnlyAdds A d) (λ t n m. n ≡ m)
closed = record {
  gives = λ t a. give_adds a;
  raises = λ t e. raise_adds e;
  stops = λ t w. stop_adds w;
  binds = λ t p h. bind_adds p h;
  looks = λ t part same h. record { on = λ s. (h (part s)).on s };
  fewer = λ t u le p. p;
  both_ends = λ t ok. spend_adds (stop_adds Cut);
  left_ends = λ t m ok. absurd (omega (arith, ok));
  right_ends = λ t n ok. absurd (omega (arith, ok));
  spends = λ t n m ok h. spend_adds (h t (le_refl t) (omega (arith, ok)));
  catching = λ t p h. catch_adds p h;
  finals = λ t p h. final_adds p h;
  handles = λ t v p. record { on = set_on (λ s. record s { handled = v ∷ s.handled }) (λ s u. record u { handled = s.handled }) (λ s. same_turns s _ refl refl refl) (λ s u. same_turns u _ refl refl refl) p };
  unsets = λ t x p. record { on = set_on (λ s. s) (λ s. unset x) stays (λ s. unset_later x) p };
  insides = λ t locals p. record { on = set_on (λ s. record s { locals = locals; handled = [] }) (λ s u. record u { locals = s.locals; handled = s.handled }) (λ s. same_turns s _ refl refl refl) (λ s u. same_turns u _ refl refl refl) p };
  makes = λ t o. record { on = λ s. record { turns = le_refl _; output = begins s.output; store = longer s.store (o ∷ []) } };
  puts = λ t k o. record { on = λ s. record { turns = le_refl _; output = begins s.output; store = as_long s.store k o } };
  puts_local = λ t i v. record { on = λ s. same_turns s _ refl refl refl };
  puts_global = λ t i v. record { on = λ s. same_turns s _ refl refl refl };
  writes = λ t text. record { on = λ s. record { turns = le_refl _; output = (text, refl); store = le_refl _ } };
  reads = λ t items. record { on = λ s. read_leaves items s };
}

pub only_adds : (m : TypedModule) (n : ℕ) (s : State) → LeavesLater s (top_of m n s)
only_adds m n s = (top_alike closed m 0 n n refl).on s
