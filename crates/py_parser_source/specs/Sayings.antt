-- What reading a module says where there is none: its one fault is all that is told of the file, whatever is told of trees.
use Rattle.std.specs.Prelude.{List, [], ◌∷◌, ℕ, Ok}
use Rattle.py_syntax.specs.declared.token.Token.{Token}
use Rattle.py_lexer.specs.Tokens.{tokens_of}
use Rattle.py_parser_source.specs.declared.fault.FaultKind.{FaultKind}
use Rattle.py_parser_source.specs.declared.fault.SourceFault.{SourceFault}
use Rattle.py_parser_source.specs.declared.source.SourceError.{SourceError}
use Rattle.py_parser_source.specs.declared.source.SourceError.TheVariants.{Faulty, Memory}
use Rattle.py_parser_source.specs.Entries.{Entry, Telling}
use Rattle.py_parser_source.specs.Faults.{at_line, AreOfTokens, AreFaults}

abbrev pub fault_on : ℕ → FaultKind → SourceFault
fault_on line kind = record { line = line; kind = kind }

-- the entry of a fault
abbrev pub entry_of : SourceFault → Entry
entry_of fault = at_line fault.line fault.kind

-- a fault is all that is told of tokens, of a text, and of a file
abbrev pub SaysOfTokens : List Token → SourceError → Type 0
SaysOfTokens ts (Faulty fault) = (told : Telling) → AreOfTokens told (Ok ts) (entry_of fault ∷ [])
SaysOfTokens ts Memory = Unit {0}

abbrev pub SaysOfText : List ℕ → SourceError → Type 0
SaysOfText text (Faulty fault) = (told : Telling) → AreOfTokens told (tokens_of text) (entry_of fault ∷ [])
SaysOfText text Memory = Unit {0}

abbrev pub SaysOfFile : List ℕ → SourceError → Type 0
SaysOfFile bytes (Faulty fault) = (told : Telling) → AreFaults told bytes (entry_of fault ∷ [])
SaysOfFile bytes Memory = Unit {0}
