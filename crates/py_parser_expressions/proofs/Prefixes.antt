-- Folding prefixes and conditions from the innermost one.
use Rattle.std.proofs.Common.{◌≡◌, ℕ, zero, suc, ◌+◌, List, [], ◌∷◌, ◌++◌, Option, Some, None, Err, refl, ◌∙◌, ap, add-one}
use Rattle.std.specs.Prelude.{slice_get}
use Rattle.py_syntax.specs.declared.token.Token.{Token}
use Rattle.py_parser_grammar.specs.Levels.{Piece}
use Rattle.py_parser_grammar.specs.Reader.{Outcome, Stop}
use Rattle.py_parser_expressions.specs.Prefixes.{prefixed, prefixed_at, prefixes, conditional, conditionals}
use Rattle.py_parser_cursor.specs.Gives.{Fails}
use Rattle.py_parser_cursor.specs.declared.fault.ParseError.{ParseError}
use Rattle.py_parser_cursor.specs.declared.fault.ParseError.TheVariants as fault

-- one prefix more, which is the innermost
pub prefixes_more : (ts : List Token) (from n : ℕ) (t : Token) (o : Outcome Piece) → slice_get ts (from + n) ≡ Some t → prefixes ts from (n + 1) o ≡ prefixes ts from n (prefixed t o)
prefixes_more ts from n t o is = rw add-one (ap (λ q. prefixes ts from n (prefixed_at q o)) is)

-- a fault below prefixes is one above them
unprefixed : (q : Option Token) (e : Stop) → prefixed_at q (Err e) ≡ Err e
unprefixed None e = refl
unprefixed (Some t) e = refl

stopped : (ts : List Token) (from n : ℕ) (e : Stop) → prefixes ts from n (Err e) ≡ Err e
stopped ts from zero e = refl
stopped ts from (suc n) e = ap (prefixes ts from n) (unprefixed (slice_get ts (from + n)) e) ∙ stopped ts from n e

pub prefixes_fail : (ts : List Token) (from n : ℕ) (e : ParseError) (o : Outcome Piece) → Fails e o → Fails e (prefixes ts from n o)
prefixes_fail ts from n (fault.Syntax i) o h = rw h (stopped ts from n _)
prefixes_fail ts from n (fault.Profile i) o h = rw h (stopped ts from n _)
prefixes_fail ts from n (fault.TooDeep i) o h = rw h (stopped ts from n _)
prefixes_fail ts from n fault.Memory o h = tt

-- one condition more, which is the innermost
pub conditionals_more : (hs : List (Piece × Piece)) (h : Piece × Piece) (o : Outcome Piece) → conditionals (hs ++ h ∷ []) o ≡ conditionals hs (conditional h o)
conditionals_more [] h o = refl
conditionals_more (g ∷ hs) h o = ap (conditional g) (conditionals_more hs h o)

halted : (hs : List (Piece × Piece)) (e : Stop) → conditionals hs (Err e) ≡ Err e
halted [] e = refl
halted (h ∷ hs) e = ap (conditional h) (halted hs e)

pub conditionals_fail : (hs : List (Piece × Piece)) (e : ParseError) (o : Outcome Piece) → Fails e o → Fails e (conditionals hs o)
conditionals_fail hs (fault.Syntax i) o h = rw h (halted hs _)
conditionals_fail hs (fault.Profile i) o h = rw h (halted hs _)
conditionals_fail hs (fault.TooDeep i) o h = rw h (halted hs _)
conditionals_fail hs fault.Memory o h = tt

pub ruleset folding = (prefixes_more, prefixes_fail, conditionals_more, conditionals_fail)
