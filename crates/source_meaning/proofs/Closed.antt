-- What is asked of a relation between two ways to act, so that it holds of every part of a module run within two bounds.
use Rattle.std.proofs.Common.{◌≡◌, ℕ, zero, suc, ◌≤◌, List, Option}
use Rattle.value_core.specs.Items.{Items}
use Rattle.value_core.specs.Value.{Value, Object}
use Rattle.py_typed.specs.Statements.{TypedTarget}
use Rattle.source_meaning.specs.State.{State, Stop, Cut, Does, ◌>>=◌, ◌>>◌, give, raise, stop, look, spend, make, put, put_local, put_global, write}
use Rattle.source_meaning.specs.Operations.{next_line}
use Rattle.source_meaning.specs.WaysOut.{Flow, catch, finally, handling, unset_after, inside}

-- two ways to act are alike at t, which falls with each turn; the bounds n and m of the two sides are allowed at t
pub record Closed (R : ℕ → (A : Type 0) → Does A → Does A → Type 0) (Allowed : ℕ → ℕ → ℕ → Type 0) : Type 1 where
  pub gives : (t : ℕ) {A : Type 0} (a : A) → R t _ (give a) (give a)
  pub raises : (t : ℕ) {A : Type 0} (e : Value) → R t A (raise e) (raise e)
  pub stops : (t : ℕ) {A : Type 0} (w : Stop) → R t A (stop w) (stop w)
  pub binds : (t : ℕ) {A B : Type 0} {d e : Does A} {f g : A → Does B} → R t _ d e → ((a : A) → R t _ (f a) (g a)) → R t _ (d >>= f) (e >>= g)
  pub looks : (t : ℕ) {A B : Type 0} (part : State → A) {f g : A → Does B} → ((s : State) (n : ℕ) → part (record s { turns = n }) ≡ part s) → ((a : A) → R t _ (f a) (g a)) → R t _ (look part f) (look part g)
  pub fewer : (t u : ℕ) {A : Type 0} {d e : Does A} → u ≤ t → R t _ d e → R u _ d e
  pub both_ends : (t : ℕ) {A : Type 0} → Allowed t zero zero → R t A (spend >> stop Cut) (spend >> stop Cut)
  pub left_ends : (t m : ℕ) {A : Type 0} {e : Does A} → Allowed t zero (suc m) → R t _ (spend >> stop Cut) (spend >> e)
  pub right_ends : (t n : ℕ) {A : Type 0} {d : Does A} → Allowed t (suc n) zero → R t _ (spend >> d) (spend >> stop Cut)
  pub spends : (t n m : ℕ) {A : Type 0} {d e : Does A} → Allowed t (suc n) (suc m) → ((u : ℕ) → u ≤ t → Allowed u n m → R u _ d e) → R t _ (spend >> d) (spend >> e)
  pub catching : (t : ℕ) {d e : Does Flow} {f g : Value → Does Flow} → R t _ d e → ((v : Value) → R t _ (f v) (g v)) → R t _ (catch d f) (catch e g)
  pub finals : (t : ℕ) {d e f g : Does Flow} → R t _ d e → R t _ f g → R t _ (finally d f) (finally e g)
  pub handles : (t : ℕ) (v : Value) {d e : Does Flow} → R t _ d e → R t _ (handling v d) (handling v e)
  pub unsets : (t : ℕ) (name : Option TypedTarget) {d e : Does Flow} → R t _ d e → R t _ (unset_after name d) (unset_after name e)
  pub insides : (t : ℕ) (locals : List (Option Value)) {A : Type 0} {d e : Does A} → R t _ d e → R t _ (inside locals d) (inside locals e)
  pub makes : (t : ℕ) (o : Object) → R t _ (make o) (make o)
  pub puts : (t k : ℕ) (o : Object) → R t _ (put k o) (put k o)
  pub puts_local : (t i : ℕ) (v : Option Value) → R t _ (put_local i v) (put_local i v)
  pub puts_global : (t i : ℕ) (v : Option Value) → R t _ (put_global i v) (put_global i v)
  pub writes : (t : ℕ) (text : List ℕ) → R t _ (write text) (write text)
  pub reads : (t : ℕ) (items : Items) → R t _ (next_line items) (next_line items)
