-- What a function returned is what reading gives, unless memory ran out.
use Rattle.std.specs.Prelude.{◌≡◌, Result, Ok, Err}
use Rattle.py_parser_grammar.specs.declared.place.Place.{Place}
use Rattle.py_parser_grammar.specs.Reader.{Outcome, syntax_at, profile_at, too_deep_at}
use Rattle.py_parser_cursor.specs.declared.fault.ParseError.{ParseError}
use Rattle.py_parser_cursor.specs.declared.fault.ParseError.TheVariants as fault

-- reading stops with the fault that was returned
abbrev pub Fails : {A : Type 0} → ParseError → Outcome A → Type 0
Fails (fault.Syntax i) o = o ≡ Err (syntax_at i)
Fails (fault.Profile i) o = o ≡ Err (profile_at i)
Fails (fault.TooDeep i) o = o ≡ Err (too_deep_at i)
Fails fault.Memory o = Unit {0}

-- reading gives what was returned, as it is seen
abbrev pub Gives : {X A : Type 0} → (X → A × Place) → Result X ParseError → Outcome A → Type 0
Gives f (Ok x) o = o ≡ Ok (f x)
Gives f (Err e) o = Fails e o
