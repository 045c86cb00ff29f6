-- A run for more turns does the same up to where the shorter one was cut.
use Rattle.std.proofs.Common.{◌≡◌, ℕ, zero, suc, ◌+◌, List, [], ◌∷◌, ◌++◌, ◌≤◌, length, Option, Some, None, refl, sym, ap, subst, ◌∙◌, arith, le_refl, le_trans, append_assoc, append-nil}
use Rattle.value_core.specs.Items as item
use Rattle.value_core.specs.Items.{Items}
use Rattle.value_core.specs.Ending as ending
use Rattle.value_core.specs.Value.{Value, IntVal, ExcVal}
use Rattle.py_typed.specs.Statements.{TypedTarget, LocalTarget, GlobalTarget, AttrTarget, ItemTarget, TypedModule}
use Rattle.source_meaning.specs.State.{State, Stop, Cut, Over, Broken, Stuck, Outcome, Gives, Raises, Stops, Does, on_to, ◌>>=◌, ◌>>◌, give, raise, stop, look, spend, spend_from}
use Rattle.source_meaning.specs.Operations.{next_line}
use Rattle.source_meaning.specs.WaysOut.{Flow, Goes, Breaks, Continues as Repeats, Returns, flow_on, caught, catch, at_last, finally, and_set, handling, unset, unset_after, inside}
use Rattle.source_meaning.specs.SourceRun.{top_of, start, stop_of, raised_as, source_run}
use Rattle.source_meaning.specs.Laws.{Begins, state_of, Continues}
use Rattle.source_meaning.proofs.Closed.{Closed}
use Rattle.source_meaning.proofs.AnyBound.{begins, longer as longer_store, as_long, any_bound}
use Rattle.source_meaning.proofs.RunAlike.{top_alike}

-- at least the output, and no shorter a store
abbrev More : State → State → Type 0
More s u = Begins s.output u.output × (length s.store ≤ length u.store)

none_more : (s : State) → More s s
none_more s = (begins s.output, le_refl _)

further : (a b c : List ℕ) (l m n : ℕ) → Begins a b × (l ≤ m) → Begins b c × (m ≤ n) → Begins a c × (l ≤ n)
further a b c l m n p q = ((p.0.0 ++ q.0.0, q.0.1 ∙ ap (λ x. x ++ q.0.0) p.0.1 ∙ append_assoc a p.0.0 q.0.0), le_trans p.1 q.1)

-- the output only grows, and the store gets no shorter
record IsGrowing (A : Type 0) (d : Does A) : Type 0 where
  on : (s : State) → More s (state_of (d s))

abbrev Grows : {A : Type 0} → Does A → Type 0
Grows {A = A} d = IsGrowing A d

grows_from : {A B : Type 0} (o : Outcome A) {f : A → Does B} → ((a : A) → Grows (f a)) → More (state_of o) (state_of (on_to o f))
grows_from (Gives a s) h = (h a).on s
grows_from (Raises e s) h = none_more s
grows_from (Stops w s) h = none_more s

grows_on : {A B : Type 0} {d : Does A} {f : A → Does B} → Grows d → ((a : A) → Grows (f a)) → Grows (d >>= f)
grows_on {d = d} p h = record { on = λ s. further _ _ _ _ _ _ (p.on s) (grows_from (d s) h) }

grows_caught : (o : Outcome Flow) {f : Value → Does Flow} → ((v : Value) → Grows (f v)) → More (state_of o) (state_of (caught f o))
grows_caught (Gives a s) h = none_more s
grows_caught (Raises e s) h = (h e).on s
grows_caught (Stops w s) h = none_more s

grows_give : {A : Type 0} (a : A) → Grows (give a)
grows_give a = record { on = λ s. none_more s }

grows_raise : {A : Type 0} (e : Value) → Grows {A = A} (raise e)
grows_raise e = record { on = λ s. none_more s }

grows_flow : {d : Does Flow} → Grows d → (f : Flow) → Grows (flow_on d f)
grows_flow p Goes = p
grows_flow p Breaks = grows_give Breaks
grows_flow p Repeats = grows_give Repeats
grows_flow p (Returns v) = grows_give (Returns v)

grows_last : (o : Outcome Flow) {f : Does Flow} → Grows f → More (state_of o) (state_of (at_last f o))
grows_last (Gives a s) h = (grows_on h (grows_flow (grows_give a))).on s
grows_last (Raises e s) h = (grows_on h (grows_flow (grows_raise e))).on s
grows_last (Stops w s) h = none_more s

-- the second state has the output and the store of the first
abbrev Keeps : State → State → Type 0
Keeps s u = (u.output ≡ s.output) × (u.store ≡ s.store)

kept_more : (s u : State) → Keeps s u → More s u
kept_more s u k = (([], k.0 ∙ sym (append-nil s.output)), omega (arith, ap length k.1))

-- a change of the state that keeps both
grows_set : {A : Type 0} (f : State → State) → ((s : State) → Keeps s (f s)) → (o : Outcome A) → More (state_of o) (state_of (and_set f o))
grows_set f h (Gives a s) = kept_more s (f s) (h s)
grows_set f h (Raises e s) = kept_more s (f s) (h s)
grows_set f h (Stops w s) = none_more s

grows_spent : {A : Type 0} {d : Does A} → Grows d → (n : ℕ) (s : State) → More s (state_of (on_to (spend_from n s) (λ _. d)))
grows_spent p zero s = none_more s
grows_spent p (suc n) s = p.on (record s { turns = n })

read_grows : (items : Items) (s : State) → More s (state_of (next_line items s))
read_grows item.Eof s = none_more s
read_grows item.Broken s = none_more s
read_grows item.Over s = none_more s
read_grows (item.Bad i) s = none_more s
read_grows (item.Line l i) s = none_more s

grows_read : (items : Items) → Grows (next_line items)
grows_read items = record { on = read_grows items }

more_turns : (n k : ℕ) → suc (n + k) ≡ suc n + k
more_turns n k = omega arith

raised_no_cut : {A : Type 0} (e : Value) → raised_as e ≡ Some ending.Cut → A
raised_no_cut (ExcVal x) c = absurd (cc)
raised_no_cut (IntVal n) c = absurd (cc)
raised_no_cut _ c = absurd (cc)

same_output : (o : Outcome Flow) → Begins (state_of o).output (stop_of o).output × (length (state_of o).store ≤ length (stop_of o).store)
same_output (Gives Goes s) = none_more s
same_output (Gives Breaks s) = none_more s
same_output (Gives Repeats s) = none_more s
same_output (Gives (Returns v) s) = none_more s
same_output (Raises e s) = none_more s
same_output (Stops w s) = none_more s

module _ (k : ℕ) where
  -- the same state with k turns more
  abbrev longer : State → State
  longer s = record s { turns = s.turns + k }

  -- what comes with k turns more, of what comes
  abbrev After : {A : Type 0} → Outcome A → Outcome A → Type 0
  After (Gives a s) o = o ≡ Gives a (longer s)
  After (Raises e s) o = o ≡ Raises e (longer s)
  After (Stops Cut s) o = More s (state_of o)
  After (Stops Over s) o = o ≡ Stops Over (longer s)
  After (Stops Broken s) o = o ≡ Stops Broken (longer s)
  After (Stops Stuck s) o = o ≡ Stops Stuck (longer s)

  -- the second does with k turns more what the first does, up to where that is cut
  record Lasts (A : Type 0) (d e : Does A) : Type 0 where
    first_grows : Grows d
    second_grows : Grows e
    goes_on : (s : State) → After (d s) (e (longer s))

  abbrev Alike : ℕ → (A : Type 0) → Does A → Does A → Type 0
  Alike t A d e = Lasts A d e

  same_stop : (A : Type 0) (w : Stop) (s : State) → After {A = A} (Stops w s) (Stops w (longer s))
  same_stop A Cut s = none_more s
  same_stop A Over s = refl
  same_stop A Broken s = refl
  same_stop A Stuck s = refl

  bind_after : {A B : Type 0} (o o' : Outcome A) {f g : A → Does B} → After o o' → ((a : A) → Lasts B (f a) (g a)) → After (on_to o f) (on_to o' g)
  bind_after (Gives a s) o' {f = f} {g = g} p h = subst (λ x. After (f a s) (on_to x g)) (sym p) ((h a).goes_on s)
  bind_after (Raises e s) o' {g = g} p h = ap (λ x. on_to x g) p
  bind_after (Stops Cut s) o' p h = further _ _ _ _ _ _ p (grows_from o' (λ a. (h a).second_grows))
  bind_after (Stops Over s) o' {g = g} p h = ap (λ x. on_to x g) p
  bind_after (Stops Broken s) o' {g = g} p h = ap (λ x. on_to x g) p
  bind_after (Stops Stuck s) o' {g = g} p h = ap (λ x. on_to x g) p

  bind_lasts : {A B : Type 0} {d e : Does A} {f g : A → Does B} → Lasts A d e → ((a : A) → Lasts B (f a) (g a)) → Lasts B (d >>= f) (e >>= g)
  bind_lasts {d = d} {e = e} p h = record {
    first_grows = grows_on {d = d} p.first_grows (λ a. (h a).first_grows);
    second_grows = grows_on {d = e} p.second_grows (λ a. (h a).second_grows);
    goes_on = λ s. bind_after (d s) (e (longer s)) (p.goes_on s) h;
  }

  give_lasts : {A : Type 0} (a : A) → Lasts A (give a) (give a)
  give_lasts a = record { first_grows = grows_give a; second_grows = grows_give a; goes_on = λ s. refl }

  raise_lasts : {A : Type 0} (e : Value) → Lasts A (raise e) (raise e)
  raise_lasts e = record { first_grows = grows_raise e; second_grows = grows_raise e; goes_on = λ s. refl }

  stop_lasts : {A : Type 0} (w : Stop) → Lasts A (stop w) (stop w)
  stop_lasts {A = A} w = record { first_grows = record { on = λ s. none_more s }; second_grows = record { on = λ s. none_more s }; goes_on = same_stop A w }

  look_lasts : {A B : Type 0} (part : State → A) {f g : A → Does B} → ((s : State) (n : ℕ) → part (record s { turns = n }) ≡ part s) → ((a : A) → Lasts B (f a) (g a)) → Lasts B (look part f) (look part g)
  look_lasts part {f = f} {g = g} same h = record {
    first_grows = record { on = λ s. (h (part s)).first_grows.on s };
    second_grows = record { on = λ s. (h (part s)).second_grows.on s };
    goes_on = λ s. subst (λ x. After (f (part s) s) (g x (longer s))) (sym (same s (s.turns + k))) ((h (part s)).goes_on s);
  }

  spent_after : {A : Type 0} {d e : Does A} → Lasts A d e → (n : ℕ) (s : State) → After (on_to (spend_from n s) (λ _. d)) (on_to (spend_from (n + k) (longer s)) (λ _. e))
  spent_after p zero s = grows_spent p.second_grows (zero + k) (longer s)
  spent_after {d = d} {e = e} p (suc n) s =
      subst (λ x. After (d (record s { turns = n })) (on_to (spend_from x (longer s)) (λ _. e))) (more_turns n k) (p.goes_on (record s { turns = n }))

  spend_lasts : {A : Type 0} {d e : Does A} → Lasts A d e → Lasts A (spend >> d) (spend >> e)
  spend_lasts p = record {
    first_grows = record { on = λ s. grows_spent p.first_grows s.turns s };
    second_grows = record { on = λ s. grows_spent p.second_grows s.turns s };
    goes_on = λ s. spent_after p s.turns s;
  }

  caught_after : (o o' : Outcome Flow) {f g : Value → Does Flow} → After o o' → ((v : Value) → Lasts Flow (f v) (g v)) → After (caught f o) (caught g o')
  caught_after (Gives a s) o' {g = g} p h = ap (caught g) p
  caught_after (Raises e s) o' {f = f} {g = g} p h = subst (λ x. After (f e s) (caught g x)) (sym p) ((h e).goes_on s)
  caught_after (Stops Cut s) o' p h = further _ _ _ _ _ _ p (grows_caught o' (λ a. (h a).second_grows))
  caught_after (Stops Over s) o' {g = g} p h = ap (caught g) p
  caught_after (Stops Broken s) o' {g = g} p h = ap (caught g) p
  caught_after (Stops Stuck s) o' {g = g} p h = ap (caught g) p

  catch_lasts : {d e : Does Flow} {f g : Value → Does Flow} → Lasts Flow d e → ((v : Value) → Lasts Flow (f v) (g v)) → Lasts Flow (catch d f) (catch e g)
  catch_lasts {d = d} {e = e} p h = record {
    first_grows = record { on = λ s. further _ _ _ _ _ _ (p.first_grows.on s) (grows_caught (d s) (λ a. (h a).first_grows)) };
    second_grows = record { on = λ s. further _ _ _ _ _ _ (p.second_grows.on s) (grows_caught (e s) (λ a. (h a).second_grows)) };
    goes_on = λ s. caught_after (d s) (e (longer s)) (p.goes_on s) h;
  }

  flow_lasts : {d e : Does Flow} → Lasts Flow d e → (f : Flow) → Lasts Flow (flow_on d f) (flow_on e f)
  flow_lasts p Goes = p
  flow_lasts p Breaks = give_lasts Breaks
  flow_lasts p Repeats = give_lasts Repeats
  flow_lasts p (Returns v) = give_lasts (Returns v)

  last_after : (o o' : Outcome Flow) {f g : Does Flow} → After o o' → Lasts Flow f g → After (at_last f o) (at_last g o')
  last_after (Gives a s) o' {f = f} {g = g} p h =
      subst (λ x. After (at_last f (Gives a s)) (at_last g x)) (sym p) ((bind_lasts h (flow_lasts (give_lasts a))).goes_on s)
  last_after (Raises e s) o' {f = f} {g = g} p h =
      subst (λ x. After (at_last f (Raises e s)) (at_last g x)) (sym p) ((bind_lasts h (flow_lasts (raise_lasts e))).goes_on s)
  last_after (Stops Cut s) o' p h = further _ _ _ _ _ _ p (grows_last o' h.second_grows)
  last_after (Stops Over s) o' {g = g} p h = ap (at_last g) p
  last_after (Stops Broken s) o' {g = g} p h = ap (at_last g) p
  last_after (Stops Stuck s) o' {g = g} p h = ap (at_last g) p

  final_lasts : {d e f g : Does Flow} → Lasts Flow d e → Lasts Flow f g → Lasts Flow (finally d f) (finally e g)
  final_lasts {d = d} {e = e} p h = record {
    first_grows = record { on = λ s. further _ _ _ _ _ _ (p.first_grows.on s) (grows_last (d s) h.first_grows) };
    second_grows = record { on = λ s. further _ _ _ _ _ _ (p.second_grows.on s) (grows_last (e s) h.second_grows) };
    goes_on = λ s. last_after (d s) (e (longer s)) (p.goes_on s) h;
  }

  -- changes of the state that keep both and do not hang on the turns
  set_after : {A : Type 0} (o o' : Outcome A) (f g : State → State) → ((s : State) → g (longer s) ≡ longer (f s)) → ((s : State) → Keeps s (f s)) → ((s : State) → Keeps s (g s)) → After o o' → After (and_set f o) (and_set g o')
  set_after (Gives a s) o' f g same keeps keeps' p = ap (and_set g) p ∙ ap (Gives a) (same s)
  set_after (Raises e s) o' f g same keeps keeps' p = ap (and_set g) p ∙ ap (Raises e) (same s)
  set_after (Stops Cut s) o' f g same keeps keeps' p = further _ _ _ _ _ _ p (grows_set g keeps' o')
  set_after (Stops Over s) o' f g same keeps keeps' p = ap (and_set g) p
  set_after (Stops Broken s) o' f g same keeps keeps' p = ap (and_set g) p
  set_after (Stops Stuck s) o' f g same keeps keeps' p = ap (and_set g) p

  handle_lasts : (v : Value) {d e : Does Flow} → Lasts Flow d e → Lasts Flow (handling v d) (handling v e)
  handle_lasts v {d = d} {e = e} p = record {
    first_grows = record { on = λ s. further _ _ _ _ _ _ (p.first_grows.on (record s { handled = v ∷ s.handled })) (grows_set _ (λ u. (refl, refl)) (d (record s { handled = v ∷ s.handled }))) };
    second_grows = record { on = λ s. further _ _ _ _ _ _ (p.second_grows.on (record s { handled = v ∷ s.handled })) (grows_set _ (λ u. (refl, refl)) (e (record s { handled = v ∷ s.handled }))) };
    goes_on = λ s. set_after (d (record s { handled = v ∷ s.handled })) _ (λ u. record u { handled = s.handled }) (λ u. record u { handled = s.handled }) (λ u. refl) (λ u. (refl, refl)) (λ u. (refl, refl)) (p.goes_on (record s { handled = v ∷ s.handled }));
  }

  unset_keeps : (x : Option TypedTarget) (s : State) → Keeps s (unset x s)
  unset_keeps None s = (refl, refl)
  unset_keeps (Some (LocalTarget i)) s = (refl, refl)
  unset_keeps (Some (GlobalTarget i)) s = (refl, refl)
  unset_keeps (Some (AttrTarget e name)) s = (refl, refl)
  unset_keeps (Some (ItemTarget e i)) s = (refl, refl)

  unset_longer : (x : Option TypedTarget) (s : State) → unset x (longer s) ≡ longer (unset x s)
  unset_longer None s = refl
  unset_longer (Some (LocalTarget i)) s = refl
  unset_longer (Some (GlobalTarget i)) s = refl
  unset_longer (Some (AttrTarget e name)) s = refl
  unset_longer (Some (ItemTarget e i)) s = refl

  unset_lasts : (x : Option TypedTarget) {d e : Does Flow} → Lasts Flow d e → Lasts Flow (unset_after x d) (unset_after x e)
  unset_lasts x {d = d} {e = e} p = record {
    first_grows = record { on = λ s. further _ _ _ _ _ _ (p.first_grows.on s) (grows_set (unset x) (unset_keeps x) (d s)) };
    second_grows = record { on = λ s. further _ _ _ _ _ _ (p.second_grows.on s) (grows_set (unset x) (unset_keeps x) (e s)) };
    goes_on = λ s. set_after (d s) (e (longer s)) (unset x) (unset x) (unset_longer x) (unset_keeps x) (unset_keeps x) (p.goes_on s);
  }

  inside_lasts : (locals : List (Option Value)) {A : Type 0} {d e : Does A} → Lasts A d e → Lasts A (inside locals d) (inside locals e)
  inside_lasts locals {d = d} {e = e} p = record {
    first_grows = record { on = λ s. further _ _ _ _ _ _ (p.first_grows.on (record s { locals = locals; handled = [] })) (grows_set _ (λ u. (refl, refl)) (d (record s { locals = locals; handled = [] }))) };
    second_grows = record { on = λ s. further _ _ _ _ _ _ (p.second_grows.on (record s { locals = locals; handled = [] })) (grows_set _ (λ u. (refl, refl)) (e (record s { locals = locals; handled = [] }))) };
    goes_on = λ s. set_after (d (record s { locals = locals; handled = [] })) _ (λ u. record u { locals = s.locals; handled = s.handled }) (λ u. record u { locals = s.locals; handled = s.handled }) (λ u. refl) (λ u. (refl, refl)) (λ u. (refl, refl)) (p.goes_on (record s { locals = locals; handled = [] }));
  }

  read_after : (items : Items) (s : State) → After (next_line items s) (next_line items (longer s))
  read_after item.Eof s = refl
  read_after item.Broken s = refl
  read_after item.Over s = refl
  read_after (item.Bad i) s = refl
  read_after (item.Line l i) s = refl

  plain : {A : Type 0} {d : Does A} → Grows d → ((s : State) → After (d s) (d (longer s))) → Lasts A d d
  plain p h = record { first_grows = p; second_grows = p; goes_on = h }

  closed : Closed Alike (λ t n m. n ≡ m)
  closed = record {
    gives = λ t a. give_lasts a;
    raises = λ t e. raise_lasts e;
    stops = λ t w. stop_lasts w;
    binds = λ t p h. bind_lasts p h;
    looks = λ t part same h. look_lasts part same h;
    fewer = λ t u le p. p;
    both_ends = λ t ok. spend_lasts (stop_lasts Cut);
    left_ends = λ t m ok. absurd (omega (arith, ok));
    right_ends = λ t n ok. absurd (omega (arith, ok));
    spends = λ t n m ok h. spend_lasts (h t (le_refl t) (omega (arith, ok)));
    catching = λ t p h. catch_lasts p h;
    finals = λ t p h. final_lasts p h;
    handles = λ t v p. handle_lasts v p;
    unsets = λ t x p. unset_lasts x p;
    insides = λ t locals p. inside_lasts locals p;
    makes = λ t o. plain (record { on = λ s. (begins s.output, longer_store s.store (o ∷ [])) }) (λ s. refl);
    puts = λ t k o. plain (record { on = λ s. (begins s.output, as_long s.store k o) }) (λ s. refl);
    puts_local = λ t i v. plain (record { on = λ s. none_more s }) (λ s. refl);
    puts_global = λ t i v. plain (record { on = λ s. none_more s }) (λ s. refl);
    writes = λ t text. plain (record { on = λ s. ((text, refl), le_refl _) }) (λ s. refl);
    reads = λ t items. plain (grows_read items) (read_after items);
  }

  -- where the shorter run stops, and where the longer one does
  continues_by : (o o' : Outcome Flow) → After o o' → Continues (stop_of o) (stop_of o')
  continues_by (Gives Goes s) o' p = record { cut = λ c. absurd (cc); kept = λ c. absurd (cc); whole = λ c. ap stop_of p }
  continues_by (Gives Breaks s) o' p = record { cut = λ c. absurd (cc); kept = λ c. absurd (cc); whole = λ c. ap stop_of p }
  continues_by (Gives Repeats s) o' p = record { cut = λ c. absurd (cc); kept = λ c. absurd (cc); whole = λ c. ap stop_of p }
  continues_by (Gives (Returns v) s) o' p = record { cut = λ c. absurd (cc); kept = λ c. absurd (cc); whole = λ c. ap stop_of p }
  continues_by (Raises e s) o' p = record { cut = λ c. raised_no_cut e c; kept = λ c. raised_no_cut e c; whole = λ c. ap stop_of p }
  continues_by (Stops Cut s) o' p = record { cut = λ c. (further _ _ _ _ _ _ p (same_output o')).0; kept = λ c. (further _ _ _ _ _ _ p (same_output o')).1; whole = λ c. absurd (c refl) }
  continues_by (Stops Over s) o' p = record { cut = λ c. absurd (cc); kept = λ c. absurd (cc); whole = λ c. ap stop_of p }
  continues_by (Stops Broken s) o' p = record { cut = λ c. absurd (cc); kept = λ c. absurd (cc); whole = λ c. ap stop_of p }
  continues_by (Stops Stuck s) o' p = record { cut = λ c. absurd (cc); kept = λ c. absurd (cc); whole = λ c. ap stop_of p }

  top_after : (m : TypedModule) (n : ℕ) (s : State) → After (top_of m n s) (top_of m n (longer s))
  top_after m n s = (top_alike closed m 0 n n refl).goes_on s

pub continues : (n more : ℕ) (items : Items) (m : TypedModule) → Continues (source_run n items m) (source_run (n + more) items m)
unfolding source_run
continues n more items m =
    subst (λ o. Continues (stop_of o) (stop_of (top_of m (n + more) (start m (n + more) items))))
    (any_bound m (n + more) n (start m n items) (omega arith) (le_refl n))
    (continues_by more (top_of m (n + more) (start m n items)) (top_of m (n + more) (start m (n + more) items)) (top_after more m (n + more) (start m n items)))
