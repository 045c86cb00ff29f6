-- Operators and delimiters (Python Language Reference, "Operators" and "Delimiters").
use Rattle.std.specs.Prelude.{ℕ, List, take, drop, Option, Some, None, Ok, Err}
use Rattle.py_syntax.specs.declared.sign.Sign.{Sign}
use Rattle.py_syntax.specs.declared.token.TokenKind.{TokenKind}
use Rattle.py_syntax.specs.declared.token.TokenKind.TheVariants as token
use Rattle.py_syntax.specs.Texts.{sign_of}
use Rattle.py_lexer.specs.declared.fault.LexKind.TheVariants.{BadCharacter}
use Rattle.py_lexer.specs.declared.placed.Placed.{Placed}
use Rattle.py_lexer.specs.Places.{characters, line_of}
use Rattle.py_lexer.specs.Reading.{Read}

-- the sign that the first n characters are
abbrev pub sign_in : ℕ → List Placed → Option Sign
sign_in n cs = sign_of (characters (take n cs))

abbrev pub or_else : Option Sign → ℕ → List Placed → Read TokenKind → Read TokenKind
or_else (Some s) n cs other = Ok (token.Sign s, drop n cs)
or_else None n cs other = other

-- the longest sign that fits; none has more than three characters
unfoldable pub sign_at : List Placed → Read TokenKind
sign_at cs =
    or_else (sign_in 3 cs) 3 cs (or_else (sign_in 2 cs) 2 cs (or_else (sign_in 1 cs) 1 cs (Err (line_of cs, BadCharacter))))
