-- Faults of what is read first are faults of the whole.
use Rattle.std.proofs.Common.{◌≡◌, Result, refl}
use Rattle.std.specs.Prelude.{IsErrAnd}
use Rattle.std.proofs.lemmas.Result.{err_from_is_err_and}
use Rattle.py_parser_grammar.specs.declared.place.Place.{Place}
use Rattle.py_parser_grammar.specs.Reader.{Outcome, ◌>>=◌}
use Rattle.py_parser_cursor.specs.declared.fault.ParseError.{ParseError}
use Rattle.py_parser_cursor.specs.declared.fault.ParseError.TheVariants as fault
use Rattle.py_parser_cursor.specs.Gives.{Fails, Gives}

pub fails_bind : {A B : Type 0} (e : ParseError) (o : Outcome A) (f : A × Place → Outcome B) → Fails e o → Fails e (o >>= f)
fails_bind (fault.Syntax i) o f h = rw h refl
fails_bind (fault.Profile i) o f h = rw h refl
fails_bind (fault.TooDeep i) o f h = rw h refl
fails_bind fault.Memory o f h = tt

-- what a `?` hands on
pub exit_gives : {X A : Type 0} (f : X → A × Place) (r : Result X ParseError) (e : ParseError) (o : Outcome A) → IsErrAnd r (λ d. d ≡ e) → Fails e o → Gives f r o
exit_gives f r e o is h = let p = err_from_is_err_and r is in rw (p.1, p.2) h

-- what was returned is what reading gives, by an equation
pub gives_at : {X A : Type 0} (f : X → A × Place) (r : Result X ParseError) (o q : Outcome A) → o ≡ q → Gives f r q → Gives f r o
gives_at f r o q is h = rw is h
