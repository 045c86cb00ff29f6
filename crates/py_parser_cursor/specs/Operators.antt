-- The levels of the code, as the grammar's symbols, and their operators.
use Rattle.std.specs.Prelude.{List, [], ◌∷◌, Option, Some, None, if◌then◌else◌}
use Rattle.py_syntax.specs.declared.expression.BinOp.{BinOp}
use Rattle.py_syntax.specs.declared.expression.BinOp.TheVariants as op
use Rattle.py_syntax.specs.declared.key.Key.TheVariants as k
use Rattle.py_syntax.specs.declared.sign.Sign.{Sign}
use Rattle.py_syntax.specs.declared.sign.Sign.TheVariants as s
use Rattle.py_syntax.specs.declared.token.Token.{Token}
use Rattle.py_syntax.specs.Expressions as e
use Rattle.py_syntax.specs.Expressions.{ExprTree, ExprNode}
use Rattle.py_parser_grammar.specs.declared.terminal.Terminal.{Terminal}
use Rattle.py_parser_grammar.specs.declared.terminal.Terminal.TheVariants as terminal
use Rattle.py_parser_grammar.specs.declared.place.Place.{Place}
use Rattle.py_parser_grammar.specs.Grammar.{ExprSym, More, OR, AND, NOT, BOR, SHIFT, SUM, TERM, FACTOR, PRIMARY, ATOM, OR_MORE, AND_MORE, BOR_MORE, SHIFT_MORE, SUM_MORE, TERM_MORE, TRAILER}
use Rattle.py_parser_grammar.specs.Reader.{sees}
use Rattle.py_parser_cursor.specs.declared.operator.Level.{Level}
use Rattle.py_parser_cursor.specs.declared.operator.Level.TheVariants as level
use Rattle.py_parser_cursor.specs.declared.operator.Operator.{Operator}
use Rattle.py_parser_cursor.specs.declared.operator.Operator.TheVariants as operator

-- what a level's operands and operators make
abbrev pub sym_of : Level → ExprSym
sym_of level.Or = OR
sym_of level.And = AND
sym_of level.Bar = BOR
sym_of level.Shift = SHIFT
sym_of level.Sum = SUM
sym_of level.Term = TERM
sym_of level.Primary = PRIMARY

-- what its operands are
abbrev pub below_of : Level → ExprSym
below_of level.Or = AND
below_of level.And = NOT
below_of level.Bar = SHIFT
below_of level.Shift = SUM
below_of level.Sum = TERM
below_of level.Term = FACTOR
below_of level.Primary = ATOM

-- what goes on with an operand
abbrev pub more_of : Level → More
more_of level.Or = OR_MORE
more_of level.And = AND_MORE
more_of level.Bar = BOR_MORE
more_of level.Shift = SHIFT_MORE
more_of level.Sum = SUM_MORE
more_of level.Term = TERM_MORE
more_of level.Primary = TRAILER

abbrev pub operation : Operator → ExprTree → ExprTree → ExprNode
operation operator.Or a b = e.Or a b
operation operator.And a b = e.And a b
operation (operator.Bin o) a b = e.Bin o a b

abbrev pub binary : Sign → BinOp → Option (Terminal × Operator)
binary sign o = Some (terminal.Sign sign, operator.Bin o)

-- the operator that has to come next, where one of a level does
abbrev pub operator_at : List Token → Place → Level → Option (Terminal × Operator)
operator_at ts p level.Or = Some (terminal.Key k.Or, operator.Or)
operator_at ts p level.And = Some (terminal.Key k.And, operator.And)
operator_at ts p level.Bar = binary s.Bar op.Bar
operator_at ts p level.Shift = if sees ts p (terminal.Sign s.Shl ∷ []) then binary s.Shl op.Shl else binary s.Shr op.Shr
operator_at ts p level.Sum = if sees ts p (terminal.Sign s.Plus ∷ []) then binary s.Plus op.Add else binary s.Minus op.Sub
operator_at ts p level.Term =
    if sees ts p (terminal.Sign s.Star ∷ []) then binary s.Star op.Mul
    else (if sees ts p (terminal.Sign s.SlashSlash ∷ []) then binary s.SlashSlash op.FloorDiv else binary s.Percent op.Mod)
operator_at ts p level.Primary = None
