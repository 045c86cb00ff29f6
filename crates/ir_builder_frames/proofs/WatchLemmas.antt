-- What is known of a value that was looked at.
use Rattle.ir_builder_frames.proofs.Common.{Value, Sort, State, Outcome, Gives, Raises, Stops, on_to, true, false, ◌≡◌, refl, inl, inr, Bool, Does, needs, ℕ, List, Held, RType, Building, Program, Config, Setting, Ends, HasKind, Showing, Meaning, Computes, Itself, Shows, rtype_of}
use Rattle.py_syntax.specs.declared.token.Span.{Span}
use Rattle.py_typed.specs.Expressions.{TypedNode, typed}
use Rattle.ir_builder_frames.specs.Computing.{means, means_node}
use Rattle.value_core.specs.Value.{Store}
use Rattle.py_typed.specs.Sorts.{Int, I64, Bool as BoolSort, Str, Nothing, Optional}
use Rattle.value_core.specs.Value.{NoneVal}
use Rattle.py_typed.specs.Classes.{ClassEntry}
use Rattle.py_typed.specs.Statements.{TypedModule}
use Rattle.source_soundness.specs.Shapes.{has_shape}
use Rattle.source_soundness.proofs.Inverse.{int_shape, native_shape, bool_shape, text_shape, none_shape, watched_is}
use Rattle.ir_builder_frames.specs.Watching.{watch}
use Rattle.ir_builder_frames.proofs.ComingLemmas.{ends_stuck}

kind_of_shape : (classes : List ClassEntry) (store : Store) (t : Sort) (v : Value) → has_shape classes store t v ≡ true → HasKind t v
kind_of_shape classes store Int v h = let k = int_shape classes store v h in (k.0, k.1)
kind_of_shape classes store I64 v h = native_shape classes store v h
kind_of_shape classes store BoolSort v h = bool_shape classes store v h
kind_of_shape classes store Str v h = text_shape classes store v h
kind_of_shape classes store Nothing v h = none_shape classes store v h
kind_of_shape classes store (Optional t) NoneVal h = inl refl
kind_of_shape classes store (Optional t) v h = inr (kind_of_shape classes store t v h)
kind_of_shape classes store t v h = tt

-- it has what its type says of it, or the source is stuck
pub ends_watched : (p : Program) (m : TypedModule) (t : Sort) (turns : ℕ) (c : Config) (res : Outcome Value) (R S E : Value → State → Config → Type 0) → ((v : Value) (s : State) (d : Config) → HasKind t v → R v s d → S v s d) → Ends p turns c res R E → Ends p turns c (on_to res (watch m t)) S E
ends_watched p m t turns c (Gives v s) R S E f h =
    watched_is m.classes.classes t v s (λ o. Ends p turns c o S E) (λ shape. (h.0, h.1, h.2, f v s h.1 (kind_of_shape m.classes.classes s.store t v shape) h.3)) (ends_stuck p turns c s S E)
ends_watched p m t turns c (Raises v s) R S E f h = h
ends_watched p m t turns c (Stops w s) R S E f h = h

-- so code that computes a value computes one of the type
pub watched : (x : Setting) (K L : Showing) (u : RType) (t : Sort) (m : Meaning Value) (b c : Building) (r : ℕ) → ((v : Value) (h : Held) → HasKind t v → K v h → L v h) → Computes x K u m b c r → Computes x L u (λ n s. on_to (m n s) (watch x.source t)) b c r
watched x K L u t m b c r f q = record {
  extends = q.extends;
  type = q.type;
  runs = λ p fn h at n calls regs below s match le.
      ends_watched p x.source t s.turns _ (m n s) _ _ _ (λ v u d kind a. record { now = a.now; is = a.is; shows = f v _ kind a.shows; kept = a.kept; same = a.same })
      (q.runs p fn h at n calls regs below s match le);
}

-- an expression whose node's value is in a register, at least where it has what the type says
pub looked_at : (x : Setting) (K : Showing) (k : TypedNode) (t : Sort) (place : Span) (b c : Building) (r : ℕ) → ((v : Value) (h : Held) → HasKind t v → K v h → Itself v h) → Computes x K (rtype_of t) (means_node x k t) b c r → Computes x (Shows t) (rtype_of t) (means x (typed k t place)) b c r
looked_at x K k t place b c r f q = watched x K (Shows t) (rtype_of t) t (means_node x k t) b c r (λ v h kind s. (f v h kind s, kind)) q

-- ---- what is done with a value that was looked at

-- where two parts do the same with each value that has the shape of a type, they do so behind a look at it
needed_as : {A B : Type 0} (a : A) (s : State) (f g : A → Does B) (b : Bool) → (b ≡ true → f a s ≡ g a s) → on_to (needs b (λ z. Gives a z) s) f ≡ on_to (needs b (λ z. Gives a z) s) g
needed_as a s f g true h = h refl
needed_as a s f g false h = refl

pub watched_as : {B : Type 0} (m : TypedModule) (t : Sort) (res : Outcome Value) (f g : Value → Does B) → ((v : Value) (s : State) → has_shape m.classes.classes s.store t v ≡ true → f v s ≡ g v s) → on_to (on_to res (watch m t)) f ≡ on_to (on_to res (watch m t)) g
watched_as m t (Gives v s) f g h = needed_as v s f g (has_shape m.classes.classes s.store t v) (h v s)
watched_as m t (Raises v s) f g h = refl
watched_as m t (Stops w s) f g h = refl
