-- What reading an expression is, by what reading its parts is.
use Rattle.std.proofs.Common.{◌≡◌, ℕ, List, [], ◌∷◌, ◌++◌, Ok, if◌then◌else◌, refl, ◌∙◌, ap}
use Rattle.py_syntax.specs.declared.expression.BinOp.TheVariants as op
use Rattle.py_syntax.specs.declared.key.Key.TheVariants as k
use Rattle.py_syntax.specs.declared.sign.Sign.TheVariants as s
use Rattle.py_syntax.specs.declared.expression.CmpOp.{CmpOp}
use Rattle.py_syntax.specs.declared.token.Token.{Token}
use Rattle.py_syntax.specs.Expressions as e
use Rattle.py_syntax.specs.Expressions.{ExprTree, exprs_of, entries_of, arguments_of}
use Rattle.py_parser_grammar.specs.declared.terminal.Terminal.TheVariants as terminal
use Rattle.py_parser_grammar.specs.declared.place.Place.{Place}
use Rattle.py_parser_grammar.specs.Levels.{Piece}
use Rattle.py_parser_grammar.specs.Grammar as g
use Rattle.py_parser_grammar.specs.Grammar.{expr, more, tok, comma, expression, TESTS, TARGETS, TEST, OR, AND, NOT, COMP, BOR, SHIFT, SUM, TERM, FACTOR, PRIMARY, ATOM, OR_MORE, AND_MORE, BOR_MORE, SHIFT_MORE, SUM_MORE, TERM_MORE, TRAILER, COMP_MORE, COMP_OP, ARG, ENTRY}
use Rattle.py_parser_grammar.specs.Actions.{piece, grouped_at, name_of, text_in, int_in, texts_of}
use Rattle.py_parser_grammar.specs.Reader.{◌>>=◌, accept, sees, starts_expr, comparisons}
use Rattle.py_parser_grammar.specs.Readings.{reads_sym, reads_expr, growth, finish, reads_many, reads_after, reads_items, reads_trees, many_into, after_into, spread, single, single_tree}
use Rattle.py_parser_grammar.proofs.Opening.{bind_same, if_same, sym_eq, growth_eq}
use Rattle.py_parser_grammar.proofs.Chains.{expr_finished}
use Rattle.py_parser_grammar.proofs.Loops.{many_round, many_made, items_opened, trees_opened, tuples_eq}

-- ---- what goes on with an expression

pub or_more : (ts : List Token) (v : Piece) (p : Place) → growth ts OR_MORE v p ≡ (accept ts (terminal.Key k.Or) p >>= λ x. reads_expr ts AND x.1 >>= λ y. finish (piece (e.Or v.tree y.0.tree) v.begins) y.1)
or_more ts v p = growth_eq ts OR_MORE v p

pub and_more : (ts : List Token) (v : Piece) (p : Place) → growth ts AND_MORE v p ≡ (accept ts (terminal.Key k.And) p >>= λ x. reads_expr ts NOT x.1 >>= λ y. finish (piece (e.And v.tree y.0.tree) v.begins) y.1)
and_more ts v p = growth_eq ts AND_MORE v p

pub bor_more : (ts : List Token) (v : Piece) (p : Place) → growth ts BOR_MORE v p ≡ (accept ts (terminal.Sign s.Bar) p >>= λ x. reads_expr ts SHIFT x.1 >>= λ y. finish (piece (e.Bin op.Bar v.tree y.0.tree) v.begins) y.1)
bor_more ts v p = growth_eq ts BOR_MORE v p

pub shift_more : (ts : List Token) (v : Piece) (p : Place) → growth ts SHIFT_MORE v p ≡ (if sees ts p (terminal.Sign s.Shl ∷ [])
    then (accept ts (terminal.Sign s.Shl) p >>= λ x. reads_expr ts SUM x.1 >>= λ y. finish (piece (e.Bin op.Shl v.tree y.0.tree) v.begins) y.1)
    else (accept ts (terminal.Sign s.Shr) p >>= λ x. reads_expr ts SUM x.1 >>= λ y. finish (piece (e.Bin op.Shr v.tree y.0.tree) v.begins) y.1))
shift_more ts v p = growth_eq ts SHIFT_MORE v p

pub sum_more : (ts : List Token) (v : Piece) (p : Place) → growth ts SUM_MORE v p ≡ (if sees ts p (terminal.Sign s.Plus ∷ [])
    then (accept ts (terminal.Sign s.Plus) p >>= λ x. reads_expr ts TERM x.1 >>= λ y. finish (piece (e.Bin op.Add v.tree y.0.tree) v.begins) y.1)
    else (accept ts (terminal.Sign s.Minus) p >>= λ x. reads_expr ts TERM x.1 >>= λ y. finish (piece (e.Bin op.Sub v.tree y.0.tree) v.begins) y.1))
sum_more ts v p = growth_eq ts SUM_MORE v p

pub term_more : (ts : List Token) (v : Piece) (p : Place) → growth ts TERM_MORE v p ≡ (if sees ts p (terminal.Sign s.Star ∷ [])
    then (accept ts (terminal.Sign s.Star) p >>= λ x. reads_expr ts FACTOR x.1 >>= λ y. finish (piece (e.Bin op.Mul v.tree y.0.tree) v.begins) y.1)
    else (if sees ts p (terminal.Sign s.SlashSlash ∷ [])
    then (accept ts (terminal.Sign s.SlashSlash) p >>= λ x. reads_expr ts FACTOR x.1 >>= λ y. finish (piece (e.Bin op.FloorDiv v.tree y.0.tree) v.begins) y.1)
    else (accept ts (terminal.Sign s.Percent) p >>= λ x. reads_expr ts FACTOR x.1 >>= λ y. finish (piece (e.Bin op.Mod v.tree y.0.tree) v.begins) y.1)))
term_more ts v p = growth_eq ts TERM_MORE v p

pub trailer_eq : (ts : List Token) (v : Piece) (p : Place) → growth ts TRAILER v p ≡ (if sees ts p (terminal.Sign s.Dot ∷ [])
    then (accept ts (terminal.Sign s.Dot) p >>= λ x. accept ts terminal.Name x.1 >>= λ y. finish (piece (e.Attr v.tree (name_of y.0)) v.begins) y.1)
    else (if sees ts p (terminal.Sign s.LeftParen ∷ [])
    then (accept ts (terminal.Sign s.LeftParen) p >>= λ x. reads_items ts ARG x.1 >>= λ y. accept ts (terminal.Sign s.RightParen) y.1 >>= λ z. finish (piece (e.Call v.tree (arguments_of y.0)) v.begins) z.1)
    else (accept ts (terminal.Sign s.LeftSquare) p >>= λ x. reads_expr ts TESTS x.1 >>= λ y. accept ts (terminal.Sign s.RightSquare) y.1 >>= λ z. finish (piece (e.Index v.tree y.0.tree) v.begins) z.1)))
trailer_eq ts v p =
    growth_eq ts TRAILER v p
    ∙ if_same (sees ts p (terminal.Sign s.Dot ∷ [])) refl
    (if_same (sees ts p (terminal.Sign s.LeftParen ∷ []))
    (bind_same (accept ts (terminal.Sign s.LeftParen) p) _ _ (λ x. items_opened ts ARG x.1 (λ y. accept ts (terminal.Sign s.RightParen) y.1 >>= λ z. finish (piece (e.Call v.tree (arguments_of y.0)) v.begins) z.1)))
    refl)

-- the same in loops that collect the prefixes first

-- ---- comparisons, tuples and parts of calls

pub tests_eq : (ts : List Token) (p : Place) → reads_expr ts TESTS p ≡ (reads_expr ts TEST p >>= λ x.
    if sees ts x.1 (comma ∷ [])
    then (after_into single_tree (x.0.tree ∷ []) (reads_after ts comma (expression TEST) x.1) >>= λ y. finish (piece (e.TupleOf (exprs_of y.0.0)) x.0.begins) y.1)
    else Ok (x.0, x.1))
tests_eq ts p = sym_eq ts (expr TESTS) p ∙ tuples_eq ts TEST (reads_expr ts TEST p) (expr_finished ts TEST p)

pub targets_eq : (ts : List Token) (p : Place) → reads_expr ts TARGETS p ≡ (reads_expr ts BOR p >>= λ x.
    if sees ts x.1 (comma ∷ [])
    then (after_into single_tree (x.0.tree ∷ []) (reads_after ts comma (expression BOR) x.1) >>= λ y. finish (piece (e.TupleOf (exprs_of y.0.0)) x.0.begins) y.1)
    else Ok (x.0, x.1))
targets_eq ts p = sym_eq ts (expr TARGETS) p ∙ tuples_eq ts BOR (reads_expr ts BOR p) (expr_finished ts BOR p)

-- ---- atoms

pub atom_eq : (ts : List Token) (p : Place) → reads_expr ts ATOM p ≡
    (if sees ts p (terminal.Name ∷ []) then (accept ts terminal.Name p >>= λ x. finish (piece (e.Name (name_of x.0)) x.0.span) x.1)
    else (if sees ts p (terminal.Int ∷ []) then (accept ts terminal.Int p >>= λ x. finish (piece (e.Int (int_in x.0.kind)) x.0.span) x.1)
    else (if sees ts p (terminal.Str ∷ []) then (accept ts terminal.Str p >>= λ x. many_into (λ t. text_in t.kind) (text_in x.0.kind) (reads_many ts (tok terminal.Str) x.1) >>= λ y. finish (piece (e.Str y.0) x.0.span) y.1)
    else (if sees ts p (terminal.Key k.True ∷ []) then (accept ts (terminal.Key k.True) p >>= λ x. finish (piece e.True x.0.span) x.1)
    else (if sees ts p (terminal.Key k.False ∷ []) then (accept ts (terminal.Key k.False) p >>= λ x. finish (piece e.False x.0.span) x.1)
    else (if sees ts p (terminal.Key k.Nothing ∷ []) then (accept ts (terminal.Key k.Nothing) p >>= λ x. finish (piece e.Nothing x.0.span) x.1)
    else (if sees ts p (terminal.Sign s.LeftParen ∷ []) then (accept ts (terminal.Sign s.LeftParen) p >>= λ x.
    if sees ts x.1 (starts_expr TESTS)
    then (reads_expr ts TESTS x.1 >>= λ y. accept ts (terminal.Sign s.RightParen) y.1 >>= λ z. finish (grouped_at x.0.span y.0) z.1)
    else (accept ts (terminal.Sign s.RightParen) x.1 >>= λ z. finish (piece (e.TupleOf e.no_exprs) x.0.span) z.1))
    else (if sees ts p (terminal.Sign s.LeftSquare ∷ []) then (accept ts (terminal.Sign s.LeftSquare) p >>= λ x. reads_trees ts x.1 >>= λ y. accept ts (terminal.Sign s.RightSquare) y.1 >>= λ z. finish (piece (e.ListOf (exprs_of y.0)) x.0.span) z.1)
    else (accept ts (terminal.Sign s.LeftBrace) p >>= λ x. reads_items ts ENTRY x.1 >>= λ y. accept ts (terminal.Sign s.RightBrace) y.1 >>= λ z. finish (piece (e.DictOf (entries_of y.0)) x.0.span) z.1)))))))))
atom_eq ts p =
    sym_eq ts (expr ATOM) p
    ∙ if_same (sees ts p (terminal.Name ∷ [])) refl
    (if_same (sees ts p (terminal.Int ∷ [])) refl
    (if_same (sees ts p (terminal.Str ∷ []))
    (bind_same (accept ts terminal.Str p) _ _ (λ x. many_made (λ t. text_in t.kind) texts_of (text_in x.0.kind) (λ y. finish (piece (e.Str y.0) x.0.span) y.1) (reads_many ts (tok terminal.Str) x.1) spread_texts))
    (if_same (sees ts p (terminal.Key k.True ∷ [])) refl
    (if_same (sees ts p (terminal.Key k.False ∷ [])) refl
    (if_same (sees ts p (terminal.Key k.Nothing ∷ [])) refl
    (if_same (sees ts p (terminal.Sign s.LeftParen ∷ [])) refl
    (if_same (sees ts p (terminal.Sign s.LeftSquare ∷ []))
    (bind_same (accept ts (terminal.Sign s.LeftSquare) p) _ _ (λ x. trees_opened ts x.1 (λ y. accept ts (terminal.Sign s.RightSquare) y.1 >>= λ z. finish (piece (e.ListOf (exprs_of y.0)) x.0.span) z.1)))
    (bind_same (accept ts (terminal.Sign s.LeftBrace) p) _ _ (λ x. items_opened ts ENTRY x.1 (λ y. accept ts (terminal.Sign s.RightBrace) y.1 >>= λ z. finish (piece (e.DictOf (entries_of y.0)) x.0.span) z.1))))))))))
  where
    spread_texts : (vs : List Token) → spread (λ t. text_in t.kind) vs ≡ texts_of vs
    spread_texts [] = refl
    spread_texts (v ∷ vs) = ap (λ l. text_in v.kind ++ l) (spread_texts vs)

-- ---- loops

pub comps_round : (ts : List Token) (p : Place) (found : List (CmpOp × ExprTree)) → many_into single found (reads_many ts (g.sym COMP_MORE) p) ≡ (if sees ts p comparisons then (reads_sym ts COMP_MORE p >>= λ x. many_into single (found ++ x.0 ∷ []) (reads_many ts (g.sym COMP_MORE) x.1)) else Ok (found, p))
comps_round ts p found = many_round ts (g.sym COMP_MORE) p single found refl refl

pub texts_round : (ts : List Token) (p : Place) (found : List ℕ) → many_into (λ t. text_in t.kind) found (reads_many ts (tok terminal.Str) p) ≡ (if sees ts p (terminal.Str ∷ []) then (accept ts terminal.Str p >>= λ x. many_into (λ t. text_in t.kind) (found ++ text_in x.0.kind) (reads_many ts (tok terminal.Str) x.1)) else Ok (found, p))
texts_round ts p found = many_round ts (tok terminal.Str) p (λ t. text_in t.kind) found refl refl
