-- What reading a module answers is what its tokens are.
use Rattle.std.proofs.Common.{◌≡◌, List, Ok, Err, Result}
use Rattle.std.specs.Prelude.{IsErrAnd}
use Rattle.std.proofs.lemmas.Result.{err_from_is_err_and}
use Rattle.py_syntax.specs.declared.statement.Module.{Module}
use Rattle.py_syntax.specs.declared.token.Token.{Token}
use Rattle.py_syntax.specs.Statements.{Suite}
use Rattle.py_syntax.specs.Tokens.{EndsOnce}
use Rattle.py_parser_grammar.specs.declared.place.Place.{Place}
use Rattle.py_parser_grammar.specs.Faults.{IsTree}
use Rattle.py_parser_grammar.specs.Grammar.{MODULE}
use Rattle.py_parser_grammar.specs.Levels.{IsShallow}
use Rattle.py_parser_grammar.specs.Reader.{start, syntax_at, profile_at, too_deep_at}
use Rattle.py_parser_grammar.specs.Readings.{reads_sym}
use Rattle.py_parser_grammar.proofs.Outcomes.{reading_told}
use Rattle.py_parser_grammar.proofs.Shallow.{trees_are_shallow}
use Rattle.py_parser_cursor.specs.declared.fault.ParseError.{ParseError}
use Rattle.py_parser_cursor.specs.declared.fault.ParseError.TheVariants as fault
use Rattle.py_parser_cursor.specs.Gives.{Fails}
use Rattle.py_parser.specs.Whole.{IsRight, IsRightFault}

pub told_tree : (ts : List Token) → EndsOnce ts → (x : Suite × Place) → reads_sym ts MODULE start ≡ Ok x → IsTree ts x.0
told_tree ts once x r = reading_told ts once (Ok x) r

pub told_shallow : (ts : List Token) → EndsOnce ts → (x : Suite × Place) → reads_sym ts MODULE start ≡ Ok x → IsShallow x.0
told_shallow ts once x r = trees_are_shallow ts x.0 (told_tree ts once x r)

pub told_fault : (ts : List Token) → EndsOnce ts → (e : ParseError) → Fails e (reads_sym ts MODULE start) → IsRightFault ts e
told_fault ts once (fault.Syntax i) h = reading_told ts once (Err (syntax_at i)) h
told_fault ts once (fault.Profile i) h = reading_told ts once (Err (profile_at i)) h
told_fault ts once (fault.TooDeep i) h = reading_told ts once (Err (too_deep_at i)) h
told_fault ts once fault.Memory h = tt

pub exit_right : (ts : List Token) → EndsOnce ts → (r : Result Module ParseError) → (e : ParseError) → IsErrAnd r (λ d. d ≡ e) → Fails e (reads_sym ts MODULE start) → IsRight ts r
exit_right ts once r e is h = let p = err_from_is_err_and r is in rw (p.1, p.2) (told_fault ts once e h)

-- the same of tokens that are those
pub tree_of : (us ts : List Token) → us ≡ ts → EndsOnce ts → (x : Suite × Place) → reads_sym us MODULE start ≡ Ok x → IsTree ts x.0
tree_of us ts is once x r = told_tree ts once x (rw (← is) r)

pub shallow_of : (us ts : List Token) → us ≡ ts → EndsOnce ts → (x : Suite × Place) → reads_sym us MODULE start ≡ Ok x → IsShallow x.0
shallow_of us ts is once x r = told_shallow ts once x (rw (← is) r)

pub fault_of : (us ts : List Token) → us ≡ ts → EndsOnce ts → (r : Result Module ParseError) → (e : ParseError) → IsErrAnd r (λ d. d ≡ e) → Fails e (reads_sym us MODULE start) → IsRight ts r
fault_of us ts is once r e err h = exit_right ts once r e err (rw (← is) h)
