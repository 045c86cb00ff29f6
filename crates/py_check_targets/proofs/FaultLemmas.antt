-- What is wrong by two tests, of which the second is asked where the first finds nothing.
use Rattle.std.proofs.Common.{◌≡◌, Bool, true, false, List, Option, Some, None, Result, IfOk, sym, ◌∙◌, subst}
use Rattle.value_core.specs.declared.memory.Memory.{Memory}
use Rattle.py_syntax.specs.declared.token.Span.{Span}
use Rattle.py_syntax_diagnostics.specs.declared.diagnostic.Diag.{Diag}
use Rattle.py_check_messages.specs.Seen.{Message, Finds}
use Rattle.py_check_coercions.specs.Rows.{first_of}

pub found_second : (span : Span) (first second : Option Message) (right : Bool) (r : Result Bool Memory) (old mid new : List Diag) → Finds right old mid span first → right ≡ true → IfOk r (λ x. Finds x mid new span second) → IfOk r (λ x. Finds x old new span (first_of first second))
found_second span (Some m) second right r old mid new found holds h = absurd (let clash : false ≡ true = sym found.0 ∙ holds in cc)
found_second span None second right r old mid new found holds h =
    let P : List Diag → Type 0 = λ l. IfOk r (λ x. Finds x l new span second) in
    subst P found.1 h
