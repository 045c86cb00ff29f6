-- Calls, and the module's own statements, are alike within two allowed bounds.
use Rattle.std.proofs.Common.{ℕ, zero, suc, List, [], length, Option, Some, None, slice_get, ◌==◌}
use Rattle.value_core.specs.Value.{Value}
use Rattle.py_typed.specs.Statements.{TypedFunc, TypedModule}
use Rattle.source_meaning.specs.State.{Stuck, Does, Calls}
use Rattle.source_meaning.specs.WaysOut.{Flow, Goes, Breaks, Continues, Returns, answer}
use Rattle.source_meaning.specs.SourceRun.{enter, call_of, top_of}
use Rattle.source_meaning.proofs.Closed.{Closed}
use Rattle.source_meaning.proofs.OperationsAlike.{either}
use Rattle.source_meaning.proofs.StatementAlike.{suite_alike}

module _ {R : ℕ → (A : Type 0) → Does A → Does A → Type 0} {Allowed : ℕ → ℕ → ℕ → Type 0} (k : Closed R Allowed) (m : TypedModule) where
  answers : (t : ℕ) (v : Value) (f : Flow) → R t _ (answer v f) (answer v f)
  answers t v Goes = k.gives t _
  answers t v Breaks = k.stops t Stuck
  answers t v Continues = k.stops t Stuck
  answers t v (Returns w) = k.gives t _

  enters : (t n n' : ℕ) → Allowed t n n' → (c c' : Calls) → ((f : ℕ) (args : List Value) → R t _ (c f args) (c' f args)) → (f : Option TypedFunc) (args : List Value) → R t _ (enter m c n f args) (enter m c' n' f args)
  enters t n n' ok c c' calls None args = k.stops t Stuck
  enters t n n' ok c c' calls (Some f) args =
      either k t (length args == f.params)
      (k.insides t _ (k.binds t (suite_alike k t n n' ok m.classes.classes c c' calls m.globals f.locals f.body) (answers t _)))
      (k.stops t Stuck)

  calls_alike : (t n n' : ℕ) → Allowed t n n' → (f : ℕ) (args : List Value) → R t _ (call_of m n f args) (call_of m n' f args)
  calls_alike t zero zero ok f args = k.both_ends t ok
  calls_alike t zero (suc n') ok f args = k.left_ends t n' ok
  calls_alike t (suc n) zero ok f args = k.right_ends t n ok
  calls_alike t (suc n) (suc n') ok f args =
      k.spends t n n' ok (λ u le ok'. enters u n n' ok' (call_of m n) (call_of m n') (λ g vs. calls_alike u n n' ok' g vs) (slice_get m.funcs f) args)

  pub top_alike : (t n n' : ℕ) → Allowed t n n' → R t _ (top_of m n) (top_of m n')
  top_alike t n n' ok = suite_alike k t n n' ok m.classes.classes (call_of m n) (call_of m n') (calls_alike t n n' ok) m.globals [] m.top
