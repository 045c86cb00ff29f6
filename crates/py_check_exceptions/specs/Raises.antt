-- Raising exceptions and asserting (Python Language Reference, "The raise statement" and "The assert statement").
--
-- What is raised is a value of an exception class, or the name of such a class, of which an exception without a text is made. A
-- variable is read there, and any other name is only asked to be known. A bare `raise` raises again what an except clause around it
-- handles. Of an assertion the test and the text are looked at, each before the test has told anything.
use Rattle.std.specs.Prelude.{ℕ, Bool, true, false, List, codes, Option, Some, None, Result, Ok, Err, if◌then◌else◌}
use Rattle.value_core.specs.declared.exception.ExcClass.{ExcClass}
use Rattle.py_syntax.specs.declared.token.Span.{Span}
use Rattle.py_syntax.specs.Expressions.{ExprTree, at}
use Rattle.py_typed.specs.Classes.{ClassEntry}
use Rattle.py_typed.specs.Fits.{is_text}
use Rattle.py_typed.specs.Expressions.{TypedExpr, type_of}
use Rattle.py_typed.specs.Statements as act
use Rattle.py_typed.specs.Statements.{TypedAct}
use Rattle.py_typed.specs.WellTypedExpr.{is_exception}
use Rattle.py_check_context.specs.declared.scope.Meaning.{Meaning}
use Rattle.py_check_context.specs.declared.scope.Meaning.TheVariants as meaning
use Rattle.py_check_context.specs.Context.{Context, free, test}
use Rattle.py_check_flow.specs.Bindings.{name_in}
use Rattle.py_check_messages.specs.Seen.{Seen, Message, is, silent, fails, both, rule, made}
use Rattle.py_check_messages.specs.Messages.{no_exception, raise_outside, wrong_argument}
use Rattle.py_check_coercions.specs.Values.{truth}
use Rattle.py_check_calls.specs.Exceptions.{exception_made}
use Rattle.py_check_places.specs.Places.{Known}
use Rattle.py_check_targets.specs.Targets.{typed_at}
use Rattle.py_check_exceptions.specs.declared.asked.Asked.{Asked}
use Rattle.py_check_exceptions.specs.declared.asked.Asked.TheVariants.{Class, Variable, Voiceless, Other}

-- ---- names where an exception class is asked for

abbrev pub asked : Meaning → Asked
asked (meaning.Exception x) = Class x
asked (meaning.Local i) = Variable
asked (meaning.Global i) = Variable
asked meaning.Unknown = Voiceless
asked meaning.Untyped = Voiceless
asked meaning.UntypedClass = Voiceless
asked m = Other

-- ---- `raise`

abbrev pub raised : TypedExpr → Result TypedAct Message
raised e = if is_exception (type_of e) then Ok (act.Raise (Some e)) else Err no_exception

-- `raise` alone, in an except clause or not
abbrev pub raised_again : Bool → Span → Seen TypedAct
raised_again true span = is (act.Raise None)
raised_again false span = fails span raise_outside

abbrev pub span_of : ExprTree → Span
span_of (at n span) = span

-- ---- `assert`

-- of a test and a text
abbrev pub asserted : List ClassEntry → TypedExpr × TypedExpr → Result TypedAct Message
asserted classes p =
    if is_text (type_of p.1) then Ok (act.Assert p.0 (Some p.1)) else Err (wrong_argument classes 1 (codes "assert") (type_of p.1) (codes "str"))

module _ (c : Context) where
  abbrev pub raises_value : Known → Span → ExprTree → Seen TypedAct
  raises_value k span e = rule span raised (typed_at c k free e)

  abbrev pub raises_named : Known → Span → ExprTree → Asked → Seen TypedAct
  raises_named k span e (Class x) = is (act.Raise (Some (exception_made (span_of e) x None)))
  raises_named k span e Variable = raises_value k span e
  raises_named k span e Voiceless = silent
  raises_named k span e Other = fails span no_exception

  -- by the name that it is, if it is one
  abbrev pub raises_by : Known → Span → ExprTree → Option (List ℕ) → Seen TypedAct
  raises_by k span e None = raises_value k span e
  raises_by k span e (Some x) = raises_named k span e (asked (c.meaning x))

  -- A RAISE, in an except clause or not
  abbrev pub raises : Bool → Known → Span → Option ExprTree → Seen TypedAct
  raises handling k span None = raised_again handling span
  raises handling k span (Some e) = raises_by k span e (name_in e)

  abbrev pub asserted_test : Known → ExprTree → Seen TypedExpr
  asserted_test k e = made truth (typed_at c k test e)

  -- AN ASSERTION, with or without a text
  abbrev pub asserts : Known → Span → ExprTree → Option ExprTree → Seen TypedAct
  asserts k span e None = made (λ t. act.Assert t None) (asserted_test k e)
  asserts k span e (Some text) = rule span (asserted c.classes) (both (asserted_test k e) (typed_at c k free text))
