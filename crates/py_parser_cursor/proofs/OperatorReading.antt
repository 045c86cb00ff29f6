-- Reading the operators of comparisons and of augmented assignments.
use Rattle.std.proofs.Common.{◌≡◌, List, [], ◌∷◌, if◌then◌else◌}
use Rattle.py_syntax.specs.declared.expression.BinOp.TheVariants as op
use Rattle.py_syntax.specs.declared.expression.CmpOp.TheVariants as cmp
use Rattle.py_syntax.specs.declared.sign.Sign.TheVariants as s
use Rattle.py_syntax.specs.declared.token.Token.{Token}
use Rattle.py_parser_grammar.specs.declared.terminal.Terminal.TheVariants as terminal
use Rattle.py_parser_grammar.specs.declared.place.Place.{Place}
use Rattle.py_parser_grammar.specs.Grammar.{COMP_OP, AUG}
use Rattle.py_parser_grammar.specs.Reader.{sees}
use Rattle.py_parser_grammar.specs.Readings.{reads_sym}
use Rattle.py_parser_grammar.proofs.Opening.{sym_eq}
use Rattle.py_parser_grammar.proofs.StatementEquations.{aug_eq}
use Rattle.py_parser_cursor.specs.Augmenting.{reads_augmenting}
use Rattle.py_parser_cursor.specs.Comparisons.{reads_sign, reads_words}

-- the comparison operators of one sign, and those of words
pub comp_op_eq : (ts : List Token) (p : Place) → reads_sym ts COMP_OP p ≡
    (if sees ts p (terminal.Sign s.Lt ∷ []) then reads_sign ts s.Lt cmp.Lt p
    else (if sees ts p (terminal.Sign s.Gt ∷ []) then reads_sign ts s.Gt cmp.Gt p
    else (if sees ts p (terminal.Sign s.EqEq ∷ []) then reads_sign ts s.EqEq cmp.Eq p
    else (if sees ts p (terminal.Sign s.Ge ∷ []) then reads_sign ts s.Ge cmp.Ge p
    else (if sees ts p (terminal.Sign s.Le ∷ []) then reads_sign ts s.Le cmp.Le p
    else (if sees ts p (terminal.Sign s.NotEq ∷ []) then reads_sign ts s.NotEq cmp.Ne p
    else reads_words ts p))))))
unfolding reads_words
comp_op_eq ts p = sym_eq ts COMP_OP p

-- the operators of augmented assignments
pub augmenting_eq : (ts : List Token) (p : Place) → reads_sym ts AUG p ≡
    (if sees ts p (terminal.Sign s.PlusAssign ∷ []) then reads_augmenting ts s.PlusAssign op.Add p
    else (if sees ts p (terminal.Sign s.MinusAssign ∷ []) then reads_augmenting ts s.MinusAssign op.Sub p
    else (if sees ts p (terminal.Sign s.StarAssign ∷ []) then reads_augmenting ts s.StarAssign op.Mul p
    else (if sees ts p (terminal.Sign s.SlashSlashAssign ∷ []) then reads_augmenting ts s.SlashSlashAssign op.FloorDiv p
    else (if sees ts p (terminal.Sign s.PercentAssign ∷ []) then reads_augmenting ts s.PercentAssign op.Mod p
    else (if sees ts p (terminal.Sign s.ShlAssign ∷ []) then reads_augmenting ts s.ShlAssign op.Shl p else reads_augmenting ts s.ShrAssign op.Shr p))))))
augmenting_eq ts p = aug_eq ts p
