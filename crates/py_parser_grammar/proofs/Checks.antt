-- The grammar passes the test, by computation.
use Rattle.std.proofs.Common.{◌≡◌, true, false, refl}
use Rattle.py_parser_grammar.specs.Grammar.{Sym, rhs, expr, more, TESTS, OR_MORE, COMP_MORE}
use Rattle.py_parser_grammar.specs.Reader.{starts, may_be_empty, firsts}
use Rattle.py_parser_grammar.proofs.Lookahead.{within, follow, decided}

pub solid : (x : Sym) → may_be_empty (rhs x) ≡ false
solid (expr TESTS) = refl
solid (expr _) = refl
solid (more OR_MORE) = refl
solid (more _) = refl
solid COMP_MORE = refl
solid _ = refl

pub firsts_told : (x : Sym) → within (firsts (rhs x)) (starts x) ≡ true
firsts_told (expr TESTS) = refl
firsts_told (expr _) = refl
firsts_told (more OR_MORE) = refl
firsts_told (more _) = refl
firsts_told COMP_MORE = refl
firsts_told _ = refl

pub all_decided : (x : Sym) → decided (rhs x) (follow x) ≡ true
all_decided (expr TESTS) = refl
all_decided (expr _) = refl
all_decided (more OR_MORE) = refl
all_decided (more _) = refl
all_decided COMP_MORE = refl
all_decided _ = refl
