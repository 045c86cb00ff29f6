-- Typed states, and what is fine from one: it does the same watched or not, is never stuck, leaves a typed state and a result as it is to be.
-- `Fine m vars A B W s P d e` speaks of a part in a function with the locals vars, which gives an A: d is the part as it is watched and e
-- as it stands in the meaning, both from the state s, which is typed in the world W (`Good`); B are the locals that the part may change,
-- and P is what holds of the world and state behind it and of its result. `fine_bind` takes one part behind another; proofs hand on the
-- later world V, the later state u and the step st between.
use Rattle.std.proofs.Common.{◌≡◌, ◌≢◌, ℕ, zero, suc, Bool, true, false, List, [], ◌∷◌, ◌++◌, length, Option, Some, None, refl, ap, subst, ◌∙◌, slice_get, slice_set, if◌then◌else◌}
use Rattle.value_core.specs.declared.exception.ExcClass.{ExcClass}
use Rattle.std.specs.Str.{is_utf8}
use Rattle.value_core.specs.Exceptions.{Thrown, thrown}
use Rattle.value_core.specs.Items.{Items}
use Rattle.value_core.specs.Value.{Value, NoneVal, ExcVal, ObjVal, Object}
use Rattle.py_typed.specs.Sorts.{Sort}
use Rattle.py_typed.specs.Order.{attribute_of}
use Rattle.py_typed.specs.TypeTexts.{name_in}
use Rattle.py_typed.specs.Statements.{Variable, TypedFunc, TypedModule}
use Rattle.source_meaning.specs.State.{State, Cut, Over, Broken, Stuck, Outcome, Gives, Raises, Stops, Does, on_to, ◌>>=◌, give, raise, raise_new, look, sure, needs, spend, spend_from, make, put, put_local, put_global, write}
use Rattle.py_typed.specs.Narrowing.{is_in}
use Rattle.source_meaning.specs.WaysOut.{and_set, inside}
use Rattle.source_meaning.specs.ExpressionMeaning.{name_at}
use Rattle.source_soundness.specs.Watched.{Watch}
use Rattle.source_soundness.specs.Texts.{has_utf8_lines}
use Rattle.source_soundness.proofs.TextLemmas.{text_behind}
use Rattle.source_soundness.proofs.Worlds.{World, IsText, with_type, Grows, grows_none, grows_on, grows_by, got_last, Has, HoldAll, Holds, Is, Stored, hold_still, is_still, stored_still, held_set, stored_set, stored_count, stored_more}

-- an exception
abbrev pub IsThrown : Bool → Value → Type 0
IsThrown utf8 v = (e : Thrown) × (v ≡ ExcVal e) × IsText utf8 e.text

abbrev pub AllThrown : Bool → List Value → Type 0
AllThrown utf8 [] = Unit {0}
AllThrown utf8 (v ∷ vs) = IsThrown utf8 v × AllThrown utf8 vs

-- the names of a module's variables, of its functions' locals, of its classes and attributes are in UTF-8
pub record NamesAre (m : TypedModule) : Type 0 where
  pub globals : (i : ℕ) → is_utf8 (name_at m.globals i) ≡ true
  pub locals : (f : ℕ) (F : TypedFunc) → slice_get m.funcs f ≡ Some F → (i : ℕ) → is_utf8 (name_at F.locals i) ≡ true
  pub classes : (c : ℕ) → is_utf8 (name_in (slice_get m.classes.classes c)) ≡ true
  pub attributes : (c : ℕ) (name : List ℕ) (t : Sort) → attribute_of m.classes.classes c name ≡ Some t → is_utf8 name ≡ true

-- the texts outside of values that a run holds, and those that it makes messages of: its output, the lines of input that are left,
-- the names of classes, attributes, variables and this function's locals
pub record TextsAre (m : TypedModule) (vars : List Variable) (written : List ℕ) (left : Items) : Type 0 where
  pub output : is_utf8 written ≡ true
  pub items : has_utf8_lines left ≡ true
  pub names : NamesAre m
  pub locals : (i : ℕ) → is_utf8 (name_at vars i) ≡ true

-- none of these locals is None
abbrev pub NotNone : List ℕ → List (Option Value) → Type 0
NotNone names held = (i : ℕ) → is_in names i ≡ true → slice_get held i ≡ Some (Some NoneVal) → ⊥

-- only these locals may differ, and the exceptions that are being handled are the same
pub record Keeps (names : List ℕ) (s u : State) : Type 0 where
  pub locals : (i : ℕ) → is_in names i ≡ false → slice_get u.locals i ≡ slice_get s.locals i
  pub handled : u.handled ≡ s.handled

pub keeps_all : (B : List ℕ) (s : State) → Keeps B s s
keeps_all B s = record { locals = λ i h. refl; handled = refl }

pub keeps_on : {B : List ℕ} (s u v : State) → Keeps B s u → Keeps B u v → Keeps B s v
keeps_on s u v p q = record { locals = λ i h. q.locals i h ∙ p.locals i h; handled = q.handled ∙ p.handled }

pub set_other : {A : Type 0} (xs : List A) (i j : ℕ) (a : A) → i ≢ j → slice_get (slice_set xs i a) j ≡ slice_get xs j
set_other [] i j a n = refl
set_other (x ∷ xs) zero zero a n = absurd (n refl)
set_other (x ∷ xs) zero (suc j) a n = refl
set_other (x ∷ xs) (suc i) zero a n = refl
set_other (x ∷ xs) (suc i) (suc j) a n = set_other xs i j a (λ e. n (ap suc e))

not_in : (B : List ℕ) (i j : ℕ) → is_in B i ≡ true → is_in B j ≡ false → i ≢ j
not_in B i j p q e = absurd (cc (ap (is_in B) e))

-- where a run stops for good the objects and the module's variables have their types
pub record Stopped (utf8 : Bool) (m : TypedModule) (u : State) : Type 0 where
  pub world : World utf8
  pub store : Stored m.classes.classes world world.types u.store
  pub globals : HoldAll m.classes.classes m.globals world u.globals
  pub output : IsText utf8 u.output

-- a typed state: the objects have their types, and so have the variables
pub record Good {utf8 : Bool} (m : TypedModule) (vars : List Variable) (W : World utf8) (s : State) : Type 0 where
  pub store : Stored m.classes.classes W W.types s.store
  pub globals : HoldAll m.classes.classes m.globals W s.globals
  pub locals : HoldAll m.classes.classes vars W s.locals
  pub handled : AllThrown utf8 s.handled
  pub texts : utf8 ≡ true → TextsAre m vars s.output s.items

-- the watcher lets a value of its type pass
abbrev pub Passes : Bool → TypedModule → List Variable → Watch → Type 0
Passes utf8 m vars watch = (W : World utf8) (s : State) → Good m vars W s → (t : Sort) (v : Value) → Has m.classes.classes t W v → watch t v s ≡ Gives v s

module _ {utf8 : Bool} (m : TypedModule) where
  module _ (vars : List Variable) where
    -- a later state
    pub record Step (B : List ℕ) (W : World utf8) (s : State) (V : World utf8) (u : State) : Type 0 where
      pub grows : Grows W V
      pub good : Good m vars V u
      pub keeps : Keeps B s u

    abbrev pub Post : (B : List ℕ) (W : World utf8) (s : State) {A : Type 0} (P : World utf8 → State → A → Type 0) → Outcome A → Type 0
    Post B W s P (Gives a u) = (V : World utf8) × Step B W s V u × P V u a
    Post B W s P (Raises e u) = (V : World utf8) × Step B W s V u × IsThrown utf8 e
    Post B W s P (Stops Cut u) = Stopped utf8 m u
    Post B W s P (Stops Over u) = Stopped utf8 m u
    Post B W s P (Stops Broken u) = Stopped utf8 m u
    Post B W s P (Stops Stuck u) = ⊥

    -- the first, which is watched, does what the second does, and that is as it is to be
    pub record Fine (A : Type 0) (B : List ℕ) (W : World utf8) (s : State) (P : World utf8 → State → A → Type 0) (d e : Does A) : Type 0 where
      pub same : d s ≡ e s
      pub post : Post B W s P (e s)

    pub stopped : {W : World utf8} {s : State} → Good m vars W s → Stopped utf8 m s
    stopped {W = W} g = record { world = W; store = g.store; globals = g.globals; output = λ q. (g.texts q).output }

    pub stays : {W : World utf8} {s : State} (B : List ℕ) → Good m vars W s → Step B W s W s
    stays B g = record { grows = grows_none _; good = g; keeps = keeps_all B _ }

    pub goes_on : {B : List ℕ} {W V X : World utf8} {s u v : State} → Step B W s V u → Step B V u X v → Step B W s X v
    goes_on {s = s} {u = u} {v = v} p q = record { grows = grows_on p.grows q.grows; good = q.good; keeps = keeps_on s u v p.keeps q.keeps }

    pub from_later : {B : List ℕ} {W V : World utf8} {s u : State} {A : Type 0} (P : World utf8 → State → A → Type 0) (o : Outcome A) → Step B W s V u → Post B V u P o → Post B W s P o
    from_later P (Gives a v) st p = (p.0, goes_on st p.1, p.2)
    from_later P (Raises e v) st p = (p.0, goes_on st p.1, p.2)
    from_later P (Stops Cut v) st p = p
    from_later P (Stops Over v) st p = p
    from_later P (Stops Broken v) st p = p
    from_later P (Stops Stuck v) st p = p

    bind_from : {B : List ℕ} {W : World utf8} {s : State} {A C : Type 0} {P : World utf8 → State → A → Type 0} {Q : World utf8 → State → C → Type 0} {f g : A → Does C} (o : Outcome A) → Post B W s P o
        → ((V : World utf8) (u : State) → Step B W s V u → (a : A) → P V u a → Fine C B V u Q (f a) (g a))
        → (on_to o f ≡ on_to o g) × Post B W s Q (on_to o g)
    bind_from {Q = Q} (Gives a u) p h = let r = h p.0 u p.1 a p.2 in (r.same, from_later Q _ p.1 r.post)
    bind_from (Raises e u) p h = (refl, p)
    bind_from (Stops Cut u) p h = (refl, p)
    bind_from (Stops Over u) p h = (refl, p)
    bind_from (Stops Broken u) p h = (refl, p)
    bind_from (Stops Stuck u) p h = absurd p

    pub fine_bind : {B : List ℕ} {W : World utf8} {s : State} {A C : Type 0} {P : World utf8 → State → A → Type 0} {Q : World utf8 → State → C → Type 0} {d e : Does A} {f g : A → Does C}
        → Fine A B W s P d e
        → ((V : World utf8) (u : State) → Step B W s V u → (a : A) → P V u a → Fine C B V u Q (f a) (g a))
        → Fine C B W s Q (d >>= f) (e >>= g)
    fine_bind {s = s} {e = e} {f = f} {g = g} p h =
        let r = bind_from {f = f} {g = g} (e s) p.post h in
        record { same = ap (λ o. on_to o f) p.same ∙ r.0; post = r.1 }

    watched_from : (B : List ℕ) (W : World utf8) (s : State) (P : World utf8 → State → Value → Type 0) (watch : Watch) → Passes utf8 m vars watch → (t : Sort) (o : Outcome Value) → Post B W s P o
        → ((V : World utf8) (u : State) (v : Value) → P V u v → Has m.classes.classes t V v) → on_to o (watch t) ≡ o
    watched_from B W s P watch passes t (Gives v u) p h = passes p.0 u p.1.good t v (h p.0 u v p.2)
    watched_from B W s P watch passes t (Raises e u) p h = refl
    watched_from B W s P watch passes t (Stops w u) p h = refl

    pub fine_watched : {B : List ℕ} {W : World utf8} {s : State} {P : World utf8 → State → Value → Type 0} {d e : Does Value} (watch : Watch) → Passes utf8 m vars watch → (t : Sort)
        → ((V : World utf8) (u : State) (v : Value) → P V u v → Has m.classes.classes t V v) → Fine Value B W s P d e → Fine Value B W s P (d >>= watch t) e
    fine_watched {B = B} {W = W} {s = s} {P = P} {e = e} watch passes t h p = record { same = ap (λ o. on_to o (watch t)) p.same ∙ watched_from B W s P watch passes t (e s) p.post h; post = p.post }

    -- ---- weaker

    map_from : {B : List ℕ} {W : World utf8} {s : State} {A : Type 0} {P Q : World utf8 → State → A → Type 0} (o : Outcome A) → Post B W s P o → ((V : World utf8) (u : State) → Step B W s V u → (a : A) → P V u a → Q V u a) → Post B W s Q o
    map_from (Gives a u) p h = (p.0, p.1, h p.0 u p.1 a p.2)
    map_from (Raises e u) p h = p
    map_from (Stops Cut u) p h = p
    map_from (Stops Over u) p h = p
    map_from (Stops Broken u) p h = p
    map_from (Stops Stuck u) p h = p

    pub fine_map : {B : List ℕ} {W : World utf8} {s : State} {A : Type 0} {P Q : World utf8 → State → A → Type 0} {d e : Does A} → Fine A B W s P d e → ((V : World utf8) (u : State) → Step B W s V u → (a : A) → P V u a → Q V u a) → Fine A B W s Q d e
    fine_map {s = s} {e = e} p h = record { same = p.same; post = map_from (e s) p.post h }

    pub step_more : {B C : List ℕ} {W V : World utf8} {s u : State} → ((i : ℕ) → is_in C i ≡ false → is_in B i ≡ false) → Step B W s V u → Step C W s V u
    step_more h st = record { grows = st.grows; good = st.good; keeps = record { locals = λ i p. st.keeps.locals i (h i p); handled = st.keeps.handled } }

    more_from : (B C : List ℕ) (W : World utf8) (s : State) {A : Type 0} (P : World utf8 → State → A → Type 0) (o : Outcome A) → ((i : ℕ) → is_in C i ≡ false → is_in B i ≡ false) → Post B W s P o → Post C W s P o
    more_from B C W s P (Gives a u) h p = (p.0, step_more h p.1, p.2)
    more_from B C W s P (Raises e u) h p = (p.0, step_more h p.1, p.2)
    more_from B C W s P (Stops Cut u) h p = p
    more_from B C W s P (Stops Over u) h p = p
    more_from B C W s P (Stops Broken u) h p = p
    more_from B C W s P (Stops Stuck u) h p = p

    -- more locals may differ
    pub fine_more : {B C : List ℕ} {W : World utf8} {s : State} {A : Type 0} {P : World utf8 → State → A → Type 0} {d e : Does A} → ((i : ℕ) → is_in C i ≡ false → is_in B i ≡ false) → Fine A B W s P d e → Fine A C W s P d e
    fine_more {B = B} {C = C} {W = W} {s = s} {P = P} {e = e} h p = record { same = p.same; post = more_from B C W s P (e s) h p.post }

    kept_from : (B : List ℕ) (W : World utf8) (s : State) {A : Type 0} (P : World utf8 → State → A → Type 0) (o : Outcome A) → Post [] W s P o → Post B W s (λ V u a. Step [] W s V u × P V u a) o
    kept_from B W s P (Gives a u) p = (p.0, step_more (λ i q. refl) p.1, (p.1, p.2))
    kept_from B W s P (Raises e u) p = (p.0, step_more (λ i q. refl) p.1, p.2)
    kept_from B W s P (Stops Cut u) p = p
    kept_from B W s P (Stops Over u) p = p
    kept_from B W s P (Stops Broken u) p = p
    kept_from B W s P (Stops Stuck u) p = p

    -- a part that keeps all locals, among others that do not
    pub fine_kept : (B : List ℕ) {W : World utf8} {s : State} {A : Type 0} {P : World utf8 → State → A → Type 0} {d e : Does A} → Fine A [] W s P d e → Fine A B W s (λ V u a. Step [] W s V u × P V u a) d e
    fine_kept B {W = W} {s = s} {P = P} {e = e} p = record { same = p.same; post = kept_from B W s P (e s) p.post }

    -- ---- the smallest parts

    pub fine_post : {B : List ℕ} {W : World utf8} {s : State} {A : Type 0} {P : World utf8 → State → A → Type 0} {d : Does A} → Post B W s P (d s) → Fine A B W s P d d
    fine_post p = record { same = refl; post = p }

    pub fine_give : {B : List ℕ} {W : World utf8} {s : State} {A : Type 0} {P : World utf8 → State → A → Type 0} → Good m vars W s → (a : A) → P W s a → Fine A B W s P (give a) (give a)
    fine_give {B = B} {W = W} g a p = record { same = refl; post = (W, stays B g, p) }

    pub fine_raise : {B : List ℕ} {W : World utf8} {s : State} {A : Type 0} {P : World utf8 → State → A → Type 0} → Good m vars W s → (e : Value) → IsThrown utf8 e → Fine A B W s P (raise e) (raise e)
    fine_raise {B = B} {W = W} g e p = record { same = refl; post = (W, stays B g, p) }

    pub fine_new : {B : List ℕ} {W : World utf8} {s : State} {A : Type 0} {P : World utf8 → State → A → Type 0} → Good m vars W s → (c : ExcClass) (text : List ℕ) → IsText utf8 text → Fine A B W s P (raise_new c text) (raise_new c text)
    fine_new g c text h = fine_raise g (ExcVal (thrown c text)) (thrown c text, refl, h)

    pub fine_look : {B : List ℕ} {W : World utf8} {s : State} {X A : Type 0} {P : World utf8 → State → A → Type 0} (part : State → X) (f g : X → Does A) → Fine A B W s P (f (part s)) (g (part s)) → Fine A B W s P (look part f) (look part g)
    fine_look part f g p = record { same = p.same; post = p.post }

    pub fine_if : {B : List ℕ} {W : World utf8} {s : State} {A : Type 0} {P : World utf8 → State → A → Type 0} {d e f g : Does A} (b : Bool) → (b ≡ true → Fine A B W s P d e) → (b ≡ false → Fine A B W s P f g) → Fine A B W s P (if b then d else f) (if b then e else g)
    fine_if true p q = p refl
    fine_if false p q = q refl

    pub fine_needs : {B : List ℕ} {W : World utf8} {s : State} {A : Type 0} {P : World utf8 → State → A → Type 0} {d e : Does A} (b : Bool) → b ≡ true → Fine A B W s P d e → Fine A B W s P (needs b d) (needs b e)
    fine_needs true h p = p
    fine_needs false h p = absurd (cc)

    pub fine_sure : {B : List ℕ} {W : World utf8} {s : State} {A : Type 0} {P : World utf8 → State → A → Type 0} → Good m vars W s → (o : Option A) (a : A) → o ≡ Some a → P W s a → Fine A B W s P (sure o) (sure o)
    fine_sure g None a h p = absurd (cc)
    fine_sure {W = W} {s = s} {P = P} g (Some b) a h p = fine_give g b (subst (P W s) (some_same a b h) p)
      where
        some_same : {A : Type 0} (a b : A) → Some b ≡ Some a → a ≡ b
        some_same a b e = cc

    pub fine_spend : {W : World utf8} {s : State} (B : List ℕ) → Good m vars W s → Fine (Unit {0}) B W s (λ V u a. Step [] W s V u) spend spend
    fine_spend {W = W} {s = s} B g = fine_post (go s.turns)
      where
        step : (C : List ℕ) (n : ℕ) → Step C W s W (record s { turns = n })
        step C n = record { grows = grows_none W; good = record { store = g.store; globals = g.globals; locals = g.locals; handled = g.handled; texts = g.texts }; keeps = record { locals = λ i h. refl; handled = refl } }

        go : (n : ℕ) → Post B W s (λ V u a. Step [] W s V u) (spend_from n s)
        go zero = stopped g
        go (suc n) = (W, step B n, step [] n)

    -- an object of a type is made
    pub fine_make : {B : List ℕ} {W : World utf8} {s : State} → Good m vars W s → (t : Sort) (o : Object) → Is m.classes.classes t W o → Fine Value B W s (λ V u v. (k : ℕ) × (v ≡ ObjVal k) × (slice_get V.types k ≡ Some t)) (make o) (make o)
    fine_make {B = B} {W = W} {s = s} g t o p =
        let grown = grows_by W t in
        let V : World utf8 = with_type W t in
        let count = stored_count m.classes.classes W W.types s.store g.store in
        fine_post (
          V,
          record {
            grows = grown;
            good = record {
              store = stored_more m.classes.classes V W.types s.store t o (stored_still m.classes.classes W V grown W.types s.store g.store) (is_still m.classes.classes W V grown t o p);
              globals = hold_still m.classes.classes W V grown m.globals s.globals g.globals;
              locals = hold_still m.classes.classes W V grown vars s.locals g.locals;
              handled = g.handled;
              texts = g.texts;
            };
            keeps = record { locals = λ i h. refl; handled = refl };
          },
          (length s.store, refl, ap (slice_get V.types) count ∙ got_last W.types t),
        )

    pub fine_put : {B : List ℕ} {W : World utf8} {s : State} → Good m vars W s → (k : ℕ) (t : Sort) (o : Object) → slice_get W.types k ≡ Some t → Is m.classes.classes t W o → Fine (Unit {0}) B W s (λ V u a. Unit {0}) (put k o) (put k o)
    fine_put {W = W} {s = s} g k t o h p =
        fine_post (
          W,
          record {
            grows = grows_none W;
            good = record {
              store = stored_set m.classes.classes W W.types s.store k t o g.store h p;
              globals = g.globals;
              locals = g.locals;
              handled = g.handled;
              texts = g.texts;
            };
            keeps = record { locals = λ i h. refl; handled = refl };
          },
          tt,
        )

    pub fine_put_global : {B : List ℕ} {W : World utf8} {s : State} → Good m vars W s → (i : ℕ) (x : Variable) (o : Option Value) → slice_get m.globals i ≡ Some x → Holds m.classes.classes x.1 W o → Fine (Unit {0}) B W s (λ V u a. u.locals ≡ s.locals) (put_global i o) (put_global i o)
    fine_put_global {W = W} {s = s} g i x o h p =
        fine_post (
          W,
          record {
            grows = grows_none W;
            good = record {
              store = g.store;
              globals = held_set m.classes.classes W m.globals s.globals i x o g.globals h p;
              locals = g.locals;
              handled = g.handled;
              texts = g.texts;
            };
            keeps = record { locals = λ i h. refl; handled = refl };
          },
          refl,
        )

    pub fine_put_local : {B : List ℕ} {W : World utf8} {s : State} → Good m vars W s → (i : ℕ) (x : Variable) (o : Option Value) → is_in B i ≡ true → slice_get vars i ≡ Some x → Holds m.classes.classes x.1 W o → Fine (Unit {0}) B W s (λ V u a. u.locals ≡ slice_set s.locals i o) (put_local i o) (put_local i o)
    fine_put_local {B = B} {W = W} {s = s} g i x o b h p =
        fine_post (
          W,
          record {
            grows = grows_none W;
            good = record {
              store = g.store;
              globals = g.globals;
              locals = held_set m.classes.classes W vars s.locals i x o g.locals h p;
              handled = g.handled;
              texts = g.texts;
            };
            keeps = record { locals = λ j q. set_other s.locals i j o (not_in B i j b q); handled = refl };
          },
          refl,
        )

    pub fine_write : {B : List ℕ} {W : World utf8} {s : State} → Good m vars W s → (text : List ℕ) → IsText utf8 text → Fine Value B W s (λ V u v. v ≡ NoneVal) (write text) (write text)
    fine_write {W = W} {s = s} g text h =
        fine_post (W, record { grows = grows_none W; good = record { store = g.store; globals = g.globals; locals = g.locals; handled = g.handled; texts = written }; keeps = record { locals = λ i h. refl; handled = refl } }, refl)
      where
        written : utf8 ≡ true → TextsAre m vars (s.output ++ text) s.items
        written q = let t : TextsAre m vars s.output s.items = g.texts q in record { output = text_behind s.output text t.output (h q); items = t.items; names = t.names; locals = t.locals }

  -- a body with locals of its own
  module _ (outer inner : List Variable) where
    inside_from : (B : List ℕ) {W : World utf8} {s : State} {A : Type 0} (P : World utf8 → A → Type 0) (o : Outcome A) → (t : State) → Good m outer W s
        → Post inner B W t (λ V u a. P V a) o
        → Post outer [] W s (λ V u a. P V a) (and_set (λ u. record u { locals = s.locals; handled = s.handled }) o)
    inside_from B {W = W} {s = s} P (Gives a u) t g p = (
      p.0,
      record {
        grows = p.1.grows;
        good = record {
          store = p.1.good.store;
          globals = p.1.good.globals;
          locals = hold_still m.classes.classes W p.0 p.1.grows outer s.locals g.locals;
          handled = g.handled;
          texts = λ q. record { output = (p.1.good.texts q).output; items = (p.1.good.texts q).items; names = (g.texts q).names; locals = (g.texts q).locals };
        };
        keeps = record { locals = λ i h. refl; handled = refl };
      },
      p.2,
    )
    inside_from B {W = W} {s = s} P (Raises e u) t g p = (
      p.0,
      record {
        grows = p.1.grows;
        good = record {
          store = p.1.good.store;
          globals = p.1.good.globals;
          locals = hold_still m.classes.classes W p.0 p.1.grows outer s.locals g.locals;
          handled = g.handled;
          texts = λ q. record { output = (p.1.good.texts q).output; items = (p.1.good.texts q).items; names = (g.texts q).names; locals = (g.texts q).locals };
        };
        keeps = record { locals = λ i h. refl; handled = refl };
      },
      p.2,
    )
    inside_from B P (Stops Cut u) t g p = p
    inside_from B P (Stops Over u) t g p = p
    inside_from B P (Stops Broken u) t g p = p
    inside_from B P (Stops Stuck u) t g p = p

    pub fine_inside : {B : List ℕ} {W : World utf8} {s : State} {A : Type 0} {P : World utf8 → A → Type 0} {d e : Does A} (held : List (Option Value)) → Good m outer W s
        → Fine inner A B W (record s { locals = held; handled = [] }) (λ V u a. P V a) d e
        → Fine outer A [] W s (λ V u a. P V a) (inside held d) (inside held e)
    fine_inside {B = B} {s = s} {P = P} {e = e} held g p = record {
      same = ap (and_set (λ u. record u { locals = s.locals; handled = s.handled })) p.same;
      post = inside_from B P (e (record s { locals = held; handled = [] })) (record s { locals = held; handled = [] }) g p.post;
    }
