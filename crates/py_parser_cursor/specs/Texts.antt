-- Texts side by side, as they are read.
use Rattle.std.specs.Prelude.{ℕ, List, ◌++◌, Ok}
use Rattle.py_syntax.specs.declared.token.Token.{Token}
use Rattle.py_parser_grammar.specs.declared.terminal.Terminal.TheVariants as terminal
use Rattle.py_parser_grammar.specs.declared.place.Place.{Place}
use Rattle.py_parser_grammar.specs.Grammar.{tok}
use Rattle.py_parser_grammar.specs.Actions.{texts_of}
use Rattle.py_parser_grammar.specs.Reader.{Outcome, ◌>>=◌}
use Rattle.py_parser_grammar.specs.Readings.{reads_many}

-- texts side by side, behind what stands in front
unfoldable pub reads_texts : List Token → List ℕ → Place → Outcome (List ℕ)
reads_texts ts front p = reads_many ts (tok terminal.Str) p >>= λ v. Ok (front ++ texts_of v.0, v.1)
