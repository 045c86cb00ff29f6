-- How statements end, and what catches, repeats and follows them.
-- The letters are those of `Fine`.
use Rattle.std.proofs.Common.{◌≡◌, ℕ, zero, suc, Bool, true, false, ◌||◌, List, [], ◌∷◌, Option, Some, None, refl, sym, ap, ◌∙◌}
use Rattle.std.proofs.lemmas.Bool.{eq-eqb}
use Rattle.value_core.specs.Value.{Value}
use Rattle.py_typed.specs.Sorts.{Sort}
use Rattle.py_typed.specs.Statements.{Variable, TypedTarget, LocalTarget, GlobalTarget, AttrTarget, ItemTarget, TypedModule}
use Rattle.source_meaning.specs.State.{State, Cut, Over, Broken, Stuck, Outcome, Gives, Raises, Stops, Does, ◌>>◌, give, raise, spend}
use Rattle.py_typed.specs.Narrowing.{is_in, bound_by_name}
use Rattle.py_typed.proofs.ClassLemmas.{or_left, or_right}
use Rattle.source_meaning.specs.WaysOut.{Flow, Goes, Breaks, Continues, Returns, flow_on, caught, catch, at_last, finally, and_set, handling, unset, unset_after, after_body, loop}
use Rattle.source_soundness.proofs.Worlds.{World, Grows, Has, has_still, held_unset}
use Rattle.source_soundness.proofs.Fine.{IsThrown, AllThrown, NotNone, Good, Step, Post, Fine, from_later, fine_bind, fine_map, fine_post, stopped, fine_give, fine_raise, fine_if, fine_spend, set_other}
use Rattle.source_soundness.proofs.Names.{none_known}

or_both : (a b : Bool) → a ≡ false → b ≡ false → (a || b) ≡ false
or_both true b p q = absurd (cc)
or_both false b p q = q

module _ {utf8 : Bool} (m : TypedModule) (result : Option Sort) where
  abbrev pub ReturnsAs : Option Sort → World utf8 → Value → Type 0
  ReturnsAs None V v = ⊥
  ReturnsAs (Some t) V v = Has m.classes.classes t V v

  -- the next one follows, unless this one is closed, with what is known of names; breaks and continues stand in loops
  abbrev pub FlowIs : Bool → Bool → Bool → List ℕ → World utf8 → State → Flow → Type 0
  FlowIs looping breaking closed names V u Goes = (closed ≡ false) × NotNone names u.locals
  FlowIs looping breaking closed names V u Breaks = (looping ≡ true) × (breaking ≡ true)
  FlowIs looping breaking closed names V u Continues = looping ≡ true
  FlowIs looping breaking closed names V u (Returns v) = ReturnsAs result V v

  pub returns_still : (V W : World utf8) → Grows V W → (o : Option Sort) (v : Value) → ReturnsAs o V v → ReturnsAs o W v
  returns_still V W gr None v h = h
  returns_still V W gr (Some t) v h = has_still m.classes.classes V W gr t v h

  -- behind one that is not closed
  pub flow_joined : (l b1 b2 c1 c2 : Bool) (names : List ℕ) (V : World utf8) (u : State) (f : Flow) → c1 ≡ false → FlowIs l b2 c2 names V u f → FlowIs l (b1 || b2) (c1 || c2) names V u f
  flow_joined l b1 b2 c1 c2 names V u Goes e p = (or_both c1 c2 e p.0, p.1)
  flow_joined l b1 b2 c1 c2 names V u Breaks e p = (p.0, or_right b1 b2 p.1)
  flow_joined l b1 b2 c1 c2 names V u Continues e p = p
  flow_joined l b1 b2 c1 c2 names V u (Returns v) e p = p

  module _ (vars : List Variable) where
    -- the next one, where the one before goes on
    pub fine_flow_on : {B : List ℕ} {W : World utf8} {s : State} (l b1 b2 c1 c2 : Bool) (n1 n2 : List ℕ) (f : Flow) (d e : Does Flow) → Good m vars W s → FlowIs l b1 c1 n1 W s f
        → (NotNone n1 s.locals → Fine m vars Flow B W s (FlowIs l b2 c2 n2) d e) → Fine m vars Flow B W s (FlowIs l (b1 || b2) (c1 || c2) n2) (flow_on d f) (flow_on e f)
    fine_flow_on l b1 b2 c1 c2 n1 n2 Goes d e g p h = fine_map m vars (h p.1) (λ V u st f q. flow_joined l b1 b2 c1 c2 n2 V u f p.0 q)
    fine_flow_on l b1 b2 c1 c2 n1 n2 Breaks d e g p h = fine_give m vars g Breaks (p.0, or_left b1 b2 p.1)
    fine_flow_on l b1 b2 c1 c2 n1 n2 Continues d e g p h = fine_give m vars g Continues p
    fine_flow_on l b1 b2 c1 c2 n1 n2 (Returns v) d e g p h = fine_give m vars g (Returns v) p

    -- ---- exceptions

    catch_from : {B : List ℕ} {W : World utf8} {s : State} (Q : World utf8 → State → Flow → Type 0) (f g : Value → Does Flow) (o : Outcome Flow) → Post m vars B W s Q o → ((V : World utf8) (u : State) → Step m vars B W s V u → (v : Value) → IsThrown utf8 v → Fine m vars Flow B V u Q (f v) (g v))
        → (caught f o ≡ caught g o) × Post m vars B W s Q (caught g o)
    catch_from Q f g (Gives x u) p h = (refl, p)
    catch_from Q f g (Raises v u) p h = let r = h p.0 u p.1 v p.2 in (r.same, from_later m vars Q _ p.1 r.post)
    catch_from Q f g (Stops Cut u) p h = (refl, p)
    catch_from Q f g (Stops Over u) p h = (refl, p)
    catch_from Q f g (Stops Broken u) p h = (refl, p)
    catch_from Q f g (Stops Stuck u) p h = absurd p

    pub fine_catch : {B : List ℕ} {W : World utf8} {s : State} {Q : World utf8 → State → Flow → Type 0} {d e : Does Flow} {f g : Value → Does Flow} → Fine m vars Flow B W s Q d e
        → ((V : World utf8) (u : State) → Step m vars B W s V u → (v : Value) → IsThrown utf8 v → Fine m vars Flow B V u Q (f v) (g v)) → Fine m vars Flow B W s Q (catch d f) (catch e g)
    fine_catch {s = s} {Q = Q} {e = e} {f = f} {g = g} p h = let r = catch_from Q f g (e s) p.post h in record { same = ap (caught f) p.same ∙ r.0; post = r.1 }

    -- the last part, and what was saved
    saved_flow : {B : List ℕ} {W : World utf8} {s : State} (l b1 b2 c1 c2 : Bool) (x f : Flow) → Good m vars W s → FlowIs l b1 c1 [] W s x → FlowIs l b2 c2 [] W s f → Fine m vars Flow B W s (FlowIs l (b1 || b2) (c2 || c1) []) (flow_on (give x) f) (flow_on (give x) f)
    saved_flow {s = s} l b1 b2 c1 c2 Goes Goes g p q = fine_give m vars g Goes (or_both c2 c1 q.0 p.0, none_known s.locals)
    saved_flow l b1 b2 c1 c2 Breaks Goes g p q = fine_give m vars g Breaks (p.0, or_left b1 b2 p.1)
    saved_flow l b1 b2 c1 c2 Continues Goes g p q = fine_give m vars g Continues p
    saved_flow l b1 b2 c1 c2 (Returns v) Goes g p q = fine_give m vars g (Returns v) p
    saved_flow l b1 b2 c1 c2 x Breaks g p q = fine_give m vars g Breaks (q.0, or_right b1 b2 q.1)
    saved_flow l b1 b2 c1 c2 x Continues g p q = fine_give m vars g Continues q
    saved_flow l b1 b2 c1 c2 x (Returns v) g p q = fine_give m vars g (Returns v) q

    saved_exception : {B : List ℕ} {W : World utf8} {s : State} (l b1 b2 c1 c2 : Bool) (v : Value) (f : Flow) → Good m vars W s → IsThrown utf8 v → FlowIs l b2 c2 [] W s f → Fine m vars Flow B W s (FlowIs l (b1 || b2) (c2 || c1) []) (flow_on (raise v) f) (flow_on (raise v) f)
    saved_exception l b1 b2 c1 c2 v Goes g p q = fine_raise m vars g v p
    saved_exception l b1 b2 c1 c2 v Breaks g p q = fine_give m vars g Breaks (q.0, or_right b1 b2 q.1)
    saved_exception l b1 b2 c1 c2 v Continues g p q = fine_give m vars g Continues q
    saved_exception l b1 b2 c1 c2 v (Returns w) g p q = fine_give m vars g (Returns w) q

    flow_later : (l b c : Bool) (V W : World utf8) (s u : State) (f : Flow) → Grows V W → FlowIs l b c [] V s f → FlowIs l b c [] W u f
    flow_later l b c V W s u Goes gr p = (p.0, none_known u.locals)
    flow_later l b c V W s u Breaks gr p = p
    flow_later l b c V W s u Continues gr p = p
    flow_later l b c V W s u (Returns v) gr p = returns_still V W gr result v p

    last_from : {B : List ℕ} {W : World utf8} {s : State} (l b1 b2 c1 c2 : Bool) (f g : Does Flow) (o : Outcome Flow) → Post m vars B W s (FlowIs l b1 c1 []) o → ((V : World utf8) (u : State) → Step m vars B W s V u → Fine m vars Flow B V u (FlowIs l b2 c2 []) f g)
        → (at_last f o ≡ at_last g o) × Post m vars B W s (FlowIs l (b1 || b2) (c2 || c1) []) (at_last g o)
    last_from l b1 b2 c1 c2 f g (Gives x u) p h =
        let r = fine_bind m vars (h p.0 u p.1) (λ V z st y q. saved_flow l b1 b2 c1 c2 x y st.good (flow_later l b1 c1 p.0 V u z x st.grows p.2) q) in
        (r.same, from_later m vars (FlowIs l (b1 || b2) (c2 || c1) []) _ p.1 r.post)
    last_from l b1 b2 c1 c2 f g (Raises v u) p h =
        let r = fine_bind m vars (h p.0 u p.1) (λ V z st y q. saved_exception l b1 b2 c1 c2 v y st.good p.2 q) in
        (r.same, from_later m vars (FlowIs l (b1 || b2) (c2 || c1) []) _ p.1 r.post)
    last_from l b1 b2 c1 c2 f g (Stops Cut u) p h = (refl, p)
    last_from l b1 b2 c1 c2 f g (Stops Over u) p h = (refl, p)
    last_from l b1 b2 c1 c2 f g (Stops Broken u) p h = (refl, p)
    last_from l b1 b2 c1 c2 f g (Stops Stuck u) p h = absurd p

    pub fine_finally : {B : List ℕ} {W : World utf8} {s : State} (l b1 b2 c1 c2 : Bool) {d e f g : Does Flow} → Fine m vars Flow B W s (FlowIs l b1 c1 []) d e → ((V : World utf8) (u : State) → Step m vars B W s V u → Fine m vars Flow B V u (FlowIs l b2 c2 []) f g)
        → Fine m vars Flow B W s (FlowIs l (b1 || b2) (c2 || c1) []) (finally d f) (finally e g)
    fine_finally {s = s} l b1 b2 c1 c2 {e = e} {f = f} {g = g} p h = let r = last_from l b1 b2 c1 c2 f g (e s) p.post h in record { same = ap (at_last f) p.same ∙ r.0; post = r.1 }

    -- ---- an exception that is being handled

    handled_from : (B : List ℕ) (W : World utf8) (s : State) (l b c : Bool) (v : Value) (o : Outcome Flow) → AllThrown utf8 s.handled → Post m vars B W (record s { handled = v ∷ s.handled }) (FlowIs l b c []) o
        → Post m vars B W s (FlowIs l b c []) (and_set (λ t. record t { handled = s.handled }) o)
    handled_from B W s l b c v (Gives f u) a p = (p.0, record { grows = p.1.grows; good = record { store = p.1.good.store; globals = p.1.good.globals; locals = p.1.good.locals; handled = a; texts = p.1.good.texts }; keeps = record { locals = p.1.keeps.locals; handled = refl } }, flow_later l b c p.0 p.0 u (record u { handled = s.handled }) f (record { each = λ k t h. h }) p.2)
    handled_from B W s l b c v (Raises e u) a p = (p.0, record { grows = p.1.grows; good = record { store = p.1.good.store; globals = p.1.good.globals; locals = p.1.good.locals; handled = a; texts = p.1.good.texts }; keeps = record { locals = p.1.keeps.locals; handled = refl } }, p.2)
    handled_from B W s l b c v (Stops Cut u) a p = p
    handled_from B W s l b c v (Stops Over u) a p = p
    handled_from B W s l b c v (Stops Broken u) a p = p
    handled_from B W s l b c v (Stops Stuck u) a p = p

    pub fine_handling : {B : List ℕ} {W : World utf8} {s : State} (l b c : Bool) (v : Value) {d e : Does Flow} → Good m vars W s → Fine m vars Flow B W (record s { handled = v ∷ s.handled }) (FlowIs l b c []) d e → Fine m vars Flow B W s (FlowIs l b c []) (handling v d) (handling v e)
    fine_handling {B = B} {W = W} {s = s} l b c v {e = e} g p = record {
      same = ap (and_set (λ t. record t { handled = s.handled })) p.same;
      post = handled_from B W s l b c v (e (record s { handled = v ∷ s.handled })) g.handled p.post;
    }

    -- the name of a handler is unset
    name_unset : {B : List ℕ} {W V : World utf8} {s : State} (x : Option TypedTarget) (u : State) → ((i : ℕ) → is_in B i ≡ false → is_in (bound_by_name x) i ≡ false) → Step m vars B W s V u → Step m vars B W s V (unset x u)
    name_unset None u h st = st
    name_unset {V = V} (Some (LocalTarget i)) u h st = record {
      grows = st.grows;
      good = record { store = st.good.store; globals = st.good.globals; locals = held_unset m.classes.classes V vars u.locals i st.good.locals; handled = st.good.handled; texts = st.good.texts };
      keeps = record { locals = λ j q. set_other u.locals i j None (λ e. differ i j e (h j q)) ∙ st.keeps.locals j q; handled = st.keeps.handled };
    }
      where
        differ : (i j : ℕ) → i ≡ j → is_in (i ∷ []) j ≡ false → ⊥
        differ i j e f = absurd (cc (sym f ∙ ap (λ z. is_in (z ∷ []) j) e ∙ or_left _ false (eq-eqb j j refl)))
    name_unset {V = V} (Some (GlobalTarget i)) u h st = record {
      grows = st.grows;
      good = record { store = st.good.store; globals = held_unset m.classes.classes V m.globals u.globals i st.good.globals; locals = st.good.locals; handled = st.good.handled; texts = st.good.texts };
      keeps = record { locals = st.keeps.locals; handled = st.keeps.handled };
    }
    name_unset (Some (AttrTarget e name)) u h st = st
    name_unset (Some (ItemTarget e i)) u h st = st

    unset_from : (B : List ℕ) (W : World utf8) (s : State) (l b c : Bool) (x : Option TypedTarget) (o : Outcome Flow) → ((i : ℕ) → is_in B i ≡ false → is_in (bound_by_name x) i ≡ false) → Post m vars B W s (FlowIs l b c []) o → Post m vars B W s (FlowIs l b c []) (and_set (unset x) o)
    unset_from B W s l b c x (Gives f u) h p = (p.0, name_unset x u h p.1, flow_later l b c p.0 p.0 u (unset x u) f (record { each = λ k t h. h }) p.2)
    unset_from B W s l b c x (Raises e u) h p = (p.0, name_unset x u h p.1, p.2)
    unset_from B W s l b c x (Stops Cut u) h p = p
    unset_from B W s l b c x (Stops Over u) h p = p
    unset_from B W s l b c x (Stops Broken u) h p = p
    unset_from B W s l b c x (Stops Stuck u) h p = p

    pub fine_unset : {B : List ℕ} {W : World utf8} {s : State} (l b c : Bool) (x : Option TypedTarget) {d e : Does Flow} → ((i : ℕ) → is_in B i ≡ false → is_in (bound_by_name x) i ≡ false) → Fine m vars Flow B W s (FlowIs l b c []) d e → Fine m vars Flow B W s (FlowIs l b c []) (unset_after x d) (unset_after x e)
    fine_unset {B = B} {W = W} {s = s} l b c x {e = e} h p = record { same = ap (and_set (unset x)) p.same; post = unset_from B W s l b c x (e s) h p.post }

    -- ---- loops

    module _ {X : Type 0} (B : List ℕ) (Inv Body : X → World utf8 → State → Type 0) (Q : World utf8 → State → Flow → Type 0) (test test' : X → Does Bool) (body body' : X → Does Flow) (next : X → X) where
      -- how the body ends
      abbrev pub BodyIs : X → World utf8 → State → Flow → Type 0
      BodyIs x V u Goes = Inv (next x) V u
      BodyIs x V u Continues = Inv (next x) V u
      BodyIs x V u Breaks = Q V u Goes
      BodyIs x V u (Returns v) = Q V u (Returns v)

      module _ (still : (x : X) (V W : World utf8) (s u : State) → Step m vars [] V s W u → Inv x V s → Inv x W u)
          (tests : (x : X) (V : World utf8) (u : State) → Good m vars V u → Inv x V u → Fine m vars Bool B V u (λ W z h. (h ≡ true → Body x W z) × (h ≡ false → Q W z Goes)) (test x) (test' x))
          (bodies : (x : X) (V : World utf8) (u : State) → Good m vars V u → Body x V u → Fine m vars Flow B V u (BodyIs x) (body x) (body' x)) where
        pub fine_loop : (n : ℕ) (x : X) (V : World utf8) (u : State) → Good m vars V u → Inv x V u → Fine m vars Flow B V u Q (loop n test body next x) (loop n test' body' next x)
        fine_loop zero x V u g i = fine_post m vars (stopped m vars g)
        fine_loop (suc n) x V u g i =
            fine_bind m vars (tests x V u g i) (λ W z st h p.
            fine_if m vars h
            (λ is. fine_bind m vars (bodies x W z st.good (p.0 is)) (λ Y y st' f q. behind f Y y st'.good q (λ Z a g' i'. fine_loop n (next x) Z a g' i')))
            (λ is. fine_give m vars st.good Goes (p.1 is)))
          where
            again : (Y : World utf8) (y : State) → Good m vars Y y → Inv (next x) Y y → ((Z : World utf8) (a : State) → Good m vars Z a → Inv (next x) Z a → Fine m vars Flow B Z a Q (loop n test body next (next x)) (loop n test' body' next (next x)))
                → Fine m vars Flow B Y y Q (spend >> loop n test body next (next x)) (spend >> loop n test' body' next (next x))
            again Y y g i r = fine_bind m vars (fine_spend m vars B g) (λ Z a st w k. r Z a st.good (still (next x) Y Z y a k i))

            behind : (f : Flow) (Y : World utf8) (y : State) → Good m vars Y y → BodyIs x Y y f → ((Z : World utf8) (a : State) → Good m vars Z a → Inv (next x) Z a → Fine m vars Flow B Z a Q (loop n test body next (next x)) (loop n test' body' next (next x)))
                → Fine m vars Flow B Y y Q (after_body (loop n test body next (next x)) f) (after_body (loop n test' body' next (next x)) f)
            behind Goes Y y g q r = again Y y g q r
            behind Continues Y y g q r = again Y y g q r
            behind Breaks Y y g q r = fine_give m vars g Goes q
            behind (Returns v) Y y g q r = fine_give m vars g (Returns v) q
