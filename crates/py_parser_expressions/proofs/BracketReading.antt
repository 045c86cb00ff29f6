-- Reading what stands in brackets.
use Rattle.std.proofs.Common.{◌≡◌, List, [], Ok, sym, ◌∙◌}
use Rattle.py_syntax.specs.declared.sign.Sign.TheVariants as s
use Rattle.py_syntax.specs.declared.token.Token.{Token}
use Rattle.py_syntax.specs.Expressions.{ExprTree}
use Rattle.py_parser_grammar.specs.declared.terminal.Terminal.TheVariants as terminal
use Rattle.py_parser_grammar.specs.declared.place.Place.{Place}
use Rattle.py_parser_grammar.specs.Grammar.{TEST}
use Rattle.py_parser_grammar.specs.Reader.{accept}
use Rattle.py_parser_cursor.specs.declared.fault.ParseError.{ParseError}
use Rattle.py_parser_expressions.specs.Brackets.{reads_list}
use Rattle.py_parser_cursor.specs.Gives.{Fails}
use Rattle.py_parser_expressions.specs.Rows.{fronted, reads_trees}
use Rattle.py_parser_cursor.proofs.Faults.{fails_bind}
use Rattle.py_parser_expressions.proofs.Fronts.{fronted_nil}

-- a list display whose closing bracket is missing
pub list_close_fails : (ts : List Token) (p : Place) (x : Token × Place) (y : List ExprTree × Place) (e : ParseError) → accept ts (terminal.Sign s.LeftSquare) p ≡ Ok x
    → fronted [] (reads_trees ts TEST x.1) ≡ Ok y → Fails e (accept ts (terminal.Sign s.RightSquare) y.1) → Fails e (reads_list ts p)
unfolding reads_list
list_close_fails ts p x y e a r h =
    let row : reads_trees ts TEST x.1 ≡ Ok y = sym (fronted_nil (reads_trees ts TEST x.1)) ∙ r in
    rw a (rw row (fails_bind e (accept ts (terminal.Sign s.RightSquare) y.1) _ h))
