-- A diagnostic whose text is another text.
use Rattle.std.proofs.Common.{◌≡◌, ℕ, List, [], ◌∷◌, ◌++◌, Result, IfOk, subst}
use Rattle.value_core.specs.declared.memory.Memory.{Memory}
use Rattle.py_syntax.specs.declared.token.Span.{Span}
use Rattle.py_syntax_diagnostics.specs.declared.diagnostic.Diag.{Diag}
use Rattle.py_check_messages.specs.Seen.{diag}

pub said : (r : Result (Unit {0}) Memory) (new old : List Diag) (span : Span) (t u code : List ℕ) → IfOk r (λ done. new ≡ old ++ diag span (record { text = t; code = code }) ∷ []) → t ≡ u → IfOk r (λ done. new ≡ old ++ diag span (record { text = u; code = code }) ∷ [])
said r new old span t u code h e =
    let P : List ℕ → Type 0 = λ x. IfOk r (λ done. new ≡ old ++ diag span (record { text = x; code = code }) ∷ []) in subst P e h
