-- How each symbol of an expression is read.
use Rattle.std.proofs.Common.{◌≡◌, Bool, true, false, ◌||◌, List, [], ◌∷◌, Option, Some, None, Ok, if◌then◌else◌, refl, sym, ◌∙◌, ap}
use Rattle.std.specs.Prelude.{slice_get}
use Rattle.py_syntax.specs.declared.expression.BinOp.TheVariants as op
use Rattle.py_syntax.specs.declared.key.Key.TheVariants as k
use Rattle.py_syntax.specs.declared.sign.Sign.TheVariants as s
use Rattle.py_syntax.specs.declared.token.Token.{Token}
use Rattle.py_syntax.specs.Expressions as e
use Rattle.py_syntax.specs.Expressions.{exprs_of, entries_of}
use Rattle.py_parser_grammar.specs.declared.terminal.Terminal.{Terminal}
use Rattle.py_parser_grammar.specs.declared.terminal.Terminal.TheVariants as terminal
use Rattle.py_parser_grammar.specs.declared.place.Place.{Place}
use Rattle.py_parser_grammar.specs.Terminals.{terminal_of, same, next_in}
use Rattle.py_parser_grammar.specs.Levels.{Piece}
use Rattle.py_parser_grammar.specs.Grammar as g
use Rattle.py_parser_grammar.specs.Grammar.{expr, comma, TESTS, TARGETS, TEST, OR, AND, NOT, COMP, BOR, SHIFT, SUM, TERM, FACTOR, PRIMARY, ATOM, TRAILER, COMP_MORE, COMP_OP, ARG, ENTRY}
use Rattle.py_parser_grammar.specs.Actions.{piece, compared, text_in}
use Rattle.py_parser_grammar.specs.Reader.{Outcome, ◌>>=◌, accept, sees}
use Rattle.py_parser_grammar.specs.Readings.{reads_sym, reads_expr, reads_grown, reads_many, growth, finish}
use Rattle.py_parser_grammar.proofs.Opening.{bind_assoc, sym_eq, if_same, bind_same}
use Rattle.py_parser_grammar.proofs.ExpressionEquations as r
use Rattle.py_parser_cursor.specs.declared.operator.Level.{Level}
use Rattle.py_parser_cursor.specs.declared.operator.Level.TheVariants as level
use Rattle.py_parser_cursor.specs.declared.operator.Operator.{Operator}
use Rattle.py_parser_cursor.specs.declared.operator.Operator.TheVariants as operator
use Rattle.py_parser_cursor.specs.declared.starts.TheConstants.{LITERALS}
use Rattle.py_parser_expressions.specs.Behind.{reads_behind}
use Rattle.py_parser_expressions.specs.Brackets.{reads_group, reads_list, reads_dict}
use Rattle.py_parser_expressions.specs.Literals.{reads_literal, reads_constant}
use Rattle.py_parser_cursor.specs.Operators.{sym_of, below_of, more_of, operator_at, operation}
use Rattle.py_parser_expressions.specs.Prefixes.{reads_condition, reads_alternative, conditional}
use Rattle.py_parser_expressions.specs.Rows.{reads_trees}
use Rattle.py_parser_expressions.specs.Trailers.{reads_attribute, reads_call, reads_indexed, reads_attribute_name, reads_arguments, reads_index}
use Rattle.py_parser_cursor.specs.declared.fault.ParseError.{ParseError}
use Rattle.py_parser_cursor.specs.Gives.{Fails}
use Rattle.py_parser_cursor.proofs.Faults.{fails_bind}
use Rattle.py_parser_cursor.proofs.TextReading.{texts_into}
use Rattle.py_parser_expressions.proofs.RowReading.{tuple_row, items_row, trees_row}

-- ---- conditions

pub test_eq : (ts : List Token) (p : Place) → reads_expr ts TEST p ≡ (reads_expr ts OR p >>= λ x. reads_condition ts x.0 x.1)
unfolding reads_condition
test_eq ts p = sym_eq ts (expr TEST) p

abbrev condition_on : List Token → Piece → Place → Outcome Piece
condition_on ts v p =
    accept ts (terminal.Key k.If) p >>= λ a. reads_expr ts OR a.1 >>= λ t. accept ts (terminal.Key k.Else) t.1 >>= λ b.
    reads_expr ts TEST b.1 >>= λ q. finish (piece (e.Cond v.tree t.0.tree q.0.tree) v.begins) q.1

condition_opens : (ts : List Token) (v : Piece) (p : Place) → reads_condition ts v p ≡ (if sees ts p (terminal.Key k.If ∷ []) then condition_on ts v p else finish v p)
unfolding reads_condition
condition_opens ts v p = refl

same_condition : (ts : List Token) (v : Piece) (p : Place) → condition_on ts v p ≡ (reads_alternative ts p >>= λ y. conditional (v, y.0.0) (reads_condition ts y.0.1 y.1))
unfolding reads_alternative reads_behind
same_condition ts v p = simp (bind_assoc, test_eq)

pub condition_eq : (ts : List Token) (v : Piece) (p : Place) → reads_condition ts v p ≡
    (if sees ts p (terminal.Key k.If ∷ []) then (reads_alternative ts p >>= λ y. conditional (v, y.0.0) (reads_condition ts y.0.1 y.1)) else finish v p)
condition_eq ts v p = condition_opens ts v p ∙ if_same (sees ts p (terminal.Key k.If ∷ [])) (same_condition ts v p) refl

-- ---- tuples

if_true : {A : Type 0} (b : Bool) {x y : A} (z : A) → (b ≡ true → x ≡ y) → (if b then x else z) ≡ (if b then y else z)
if_true true z h = h refl
if_true false z h = refl

pub tests_eq : (ts : List Token) (p : Place) → reads_expr ts TESTS p ≡ (reads_expr ts TEST p >>= λ x.
    if sees ts x.1 (comma ∷ [])
    then (accept ts comma x.1 >>= λ c. reads_trees ts TEST c.1 >>= λ z. finish (piece (e.TupleOf (exprs_of (x.0.tree ∷ z.0))) x.0.begins) z.1)
    else Ok (x.0, x.1))
tests_eq ts p = r.tests_eq ts p ∙ bind_same (reads_expr ts TEST p) _ _ (λ x. if_true (sees ts x.1 (comma ∷ [])) (Ok (x.0, x.1)) (λ s. tuple_row ts TEST x.0.tree x.0.begins x.1 s))

pub targets_eq : (ts : List Token) (p : Place) → reads_expr ts TARGETS p ≡ (reads_expr ts BOR p >>= λ x.
    if sees ts x.1 (comma ∷ [])
    then (accept ts comma x.1 >>= λ c. reads_trees ts BOR c.1 >>= λ z. finish (piece (e.TupleOf (exprs_of (x.0.tree ∷ z.0))) x.0.begins) z.1)
    else Ok (x.0, x.1))
targets_eq ts p = r.targets_eq ts p ∙ bind_same (reads_expr ts BOR p) _ _ (λ x. if_true (sees ts x.1 (comma ∷ [])) (Ok (x.0, x.1)) (λ s. tuple_row ts BOR x.0.tree x.0.begins x.1 s))

-- ---- levels whose operators group from the left

pub level_eq : (ts : List Token) (l : Level) (p : Place) → reads_expr ts (sym_of l) p ≡ (reads_expr ts (below_of l) p >>= λ x. reads_grown ts (more_of l) x.0 x.1 >>= λ v. finish v.0 v.1)
level_eq ts level.Or p = sym_eq ts (expr OR) p
level_eq ts level.And p = sym_eq ts (expr AND) p
level_eq ts level.Bar p = sym_eq ts (expr BOR) p
level_eq ts level.Shift p = sym_eq ts (expr SHIFT) p
level_eq ts level.Sum p = sym_eq ts (expr SUM) p
level_eq ts level.Term p = sym_eq ts (expr TERM) p
level_eq ts level.Primary p = sym_eq ts (expr PRIMARY) p

-- one more operator and operand, or a trailer
abbrev pub operation_on : List Token → Level → Option (Terminal × Operator) → Piece → Place → Outcome Piece
operation_on ts l None v p = growth ts TRAILER v p
operation_on ts l (Some o) v p = accept ts o.0 p >>= λ x. reads_expr ts (below_of l) x.1 >>= λ y. finish (piece (operation o.1 v.tree y.0.tree) v.begins) y.1

choice : {A B : Type 0} (b : Bool) (f : A → B) (x y : A) → (if b then f x else f y) ≡ f (if b then x else y)
choice true f x y = refl
choice false f x y = refl

pub growth_step : (ts : List Token) (l : Level) (v : Piece) (p : Place) → growth ts (more_of l) v p ≡ operation_on ts l (operator_at ts p l) v p
growth_step ts level.Or v p = r.or_more ts v p
growth_step ts level.And v p = r.and_more ts v p
growth_step ts level.Bar v p = r.bor_more ts v p
growth_step ts level.Shift v p =
    r.shift_more ts v p ∙ choice (sees ts p (terminal.Sign s.Shl ∷ [])) (λ o. operation_on ts level.Shift o v p) (Some (terminal.Sign s.Shl, operator.Bin op.Shl)) (Some (terminal.Sign s.Shr, operator.Bin op.Shr))
growth_step ts level.Sum v p =
    r.sum_more ts v p ∙ choice (sees ts p (terminal.Sign s.Plus ∷ [])) (λ o. operation_on ts level.Sum o v p) (Some (terminal.Sign s.Plus, operator.Bin op.Add)) (Some (terminal.Sign s.Minus, operator.Bin op.Sub))
growth_step ts level.Term v p =
    r.term_more ts v p
    ∙ if_same (sees ts p (terminal.Sign s.Star ∷ [])) refl
    (choice (sees ts p (terminal.Sign s.SlashSlash ∷ [])) (λ o. operation_on ts level.Term o v p) (Some (terminal.Sign s.SlashSlash, operator.Bin op.FloorDiv)) (Some (terminal.Sign s.Percent, operator.Bin op.Mod)))
    ∙ choice (sees ts p (terminal.Sign s.Star ∷ [])) (λ o. operation_on ts level.Term o v p) (Some (terminal.Sign s.Star, operator.Bin op.Mul))
    (if sees ts p (terminal.Sign s.SlashSlash ∷ []) then Some (terminal.Sign s.SlashSlash, operator.Bin op.FloorDiv) else Some (terminal.Sign s.Percent, operator.Bin op.Mod))
growth_step ts level.Primary v p = refl

pub growth_none : (ts : List Token) (l : Level) (v : Piece) (p : Place) → operator_at ts p l ≡ None → growth ts (more_of l) v p ≡ growth ts TRAILER v p
growth_none ts l v p is = growth_step ts l v p ∙ ap (λ o. operation_on ts l o v p) is

pub growth_some : (ts : List Token) (l : Level) (v : Piece) (p : Place) (o : Terminal × Operator) → operator_at ts p l ≡ Some o
    → growth ts (more_of l) v p ≡ (reads_behind ts o.0 (below_of l) p >>= λ y. finish (piece (operation o.1 v.tree y.0.tree) v.begins) y.1)
unfolding reads_behind
growth_some ts l v p o is = growth_step ts l v p ∙ ap (λ o. operation_on ts l o v p) is ∙ sym (bind_assoc (accept ts o.0 p) _ _)

pub growth_makes : (ts : List Token) (l : Level) (v : Piece) (p : Place) (o : Terminal × Operator) (y : Piece × Place) → operator_at ts p l ≡ Some o
    → reads_behind ts o.0 (below_of l) p ≡ Ok y → growth ts (more_of l) v p ≡ finish (piece (operation o.1 v.tree y.0.tree) v.begins) y.1
growth_makes ts l v p o y is r = growth_some ts l v p o is ∙ rw r refl

pub growth_lacks : (ts : List Token) (l : Level) (v : Piece) (p : Place) (o : Terminal × Operator) (fault : ParseError) → operator_at ts p l ≡ Some o
    → Fails fault (reads_behind ts o.0 (below_of l) p) → Fails fault (growth ts (more_of l) v p)
growth_lacks ts l v p o fault is h = rw (growth_some ts l v p o is) (fails_bind fault (reads_behind ts o.0 (below_of l) p) _ h)

-- ---- trailers, prefixes, comparisons, brackets

pub trailer_eq : (ts : List Token) (v : Piece) (p : Place) → growth ts TRAILER v p ≡
    (if sees ts p (terminal.Sign s.Dot ∷ []) then reads_attribute ts v p
    else (if sees ts p (terminal.Sign s.LeftParen ∷ []) then reads_call ts v p else reads_indexed ts v p))
unfolding reads_attribute reads_call reads_indexed reads_attribute_name reads_arguments reads_index
trailer_eq ts v p = r.trailer_eq ts v p ∙ simp (bind_assoc, items_row)

pub not_eq : (ts : List Token) (p : Place) → reads_expr ts NOT p ≡
    (if sees ts p (terminal.Key k.Not ∷ [])
    then (accept ts (terminal.Key k.Not) p >>= λ x. reads_expr ts NOT x.1 >>= λ y. finish (piece (e.Not y.0.tree) x.0.span) y.1)
    else (reads_expr ts COMP p >>= λ y. finish y.0 y.1))
not_eq ts p = sym_eq ts (expr NOT) p

pub factor_eq : (ts : List Token) (p : Place) → reads_expr ts FACTOR p ≡
    (if sees ts p (terminal.Sign s.Minus ∷ terminal.Sign s.Plus ∷ [])
    then (if sees ts p (terminal.Sign s.Minus ∷ [])
    then (accept ts (terminal.Sign s.Minus) p >>= λ x. reads_expr ts FACTOR x.1 >>= λ y. finish (piece (e.Neg y.0.tree) x.0.span) y.1)
    else (accept ts (terminal.Sign s.Plus) p >>= λ x. reads_expr ts FACTOR x.1 >>= λ y. finish (piece (e.Plus y.0.tree) x.0.span) y.1))
    else (reads_expr ts PRIMARY p >>= λ y. finish y.0 y.1))
factor_eq ts p = sym_eq ts (expr FACTOR) p

pub comp_eq : (ts : List Token) (p : Place) → reads_expr ts COMP p ≡ (reads_expr ts BOR p >>= λ x. reads_many ts (g.sym COMP_MORE) x.1 >>= λ v. finish (compared x.0 v.0) v.1)
comp_eq ts p = sym_eq ts (expr COMP) p

pub comp_more_eq : (ts : List Token) (p : Place) → reads_sym ts COMP_MORE p ≡ (reads_sym ts COMP_OP p >>= λ o. reads_expr ts BOR o.1 >>= λ y. Ok ((o.0, y.0.tree), y.1))
comp_more_eq ts p = sym_eq ts COMP_MORE p

arg_flat : (ts : List Token) (p : Place) → reads_sym ts ARG p ≡ (reads_expr ts TEST p >>= λ x.
    if sees ts x.1 (terminal.Sign s.Assign ∷ [])
    then (accept ts (terminal.Sign s.Assign) x.1 >>= λ a. reads_expr ts TEST a.1 >>= λ y. Ok (record { key = Some x.0.tree; value = y.0.tree }, y.1))
    else Ok (record { key = None; value = x.0.tree }, x.1))
arg_flat ts p = sym_eq ts ARG p

pub arg_eq : (ts : List Token) (p : Place) → reads_sym ts ARG p ≡ (reads_expr ts TEST p >>= λ x.
    if sees ts x.1 (terminal.Sign s.Assign ∷ [])
    then (reads_behind ts (terminal.Sign s.Assign) TEST x.1 >>= λ y. Ok (record { key = Some x.0.tree; value = y.0.tree }, y.1))
    else Ok (record { key = None; value = x.0.tree }, x.1))
unfolding reads_behind
arg_eq ts p = arg_flat ts p ∙ simp bind_assoc

entry_flat : (ts : List Token) (p : Place) → reads_sym ts ENTRY p ≡ (reads_expr ts TEST p >>= λ x. accept ts (terminal.Sign s.Colon) x.1 >>= λ a. reads_expr ts TEST a.1 >>= λ y. Ok ((x.0.tree, y.0.tree), y.1))
entry_flat ts p = sym_eq ts ENTRY p

pub entry_eq : (ts : List Token) (p : Place) → reads_sym ts ENTRY p ≡ (reads_expr ts TEST p >>= λ x. reads_behind ts (terminal.Sign s.Colon) TEST x.1 >>= λ y. Ok ((x.0.tree, y.0.tree), y.1))
unfolding reads_behind
entry_eq ts p = entry_flat ts p ∙ simp bind_assoc

-- a choice of six, by one look
six : {A : Type 0} (a b c d e f : Bool) (u v w x y z r : A)
    → (if a || false then u else (if b || false then v else (if c || false then w else (if d || false then x else (if e || false then y else (if f || false then z else r))))))
    ≡ (if a || (b || (c || (d || (e || (f || false))))) then (if a || false then u else (if b || false then v else (if c || false then w else (if d || false then x else (if e || false then y else z))))) else r)
six true b c d e f u v w x y z r = refl
six false true c d e f u v w x y z r = refl
six false false true d e f u v w x y z r = refl
six false false false true e f u v w x y z r = refl
six false false false false true f u v w x y z r = refl
six false false false false false true u v w x y z r = refl
six false false false false false false u v w x y z r = refl

six_next : {A : Type 0} (o : Option Token) (u v w x y z r : A)
    → (if next_in o (terminal.Name ∷ []) then u else (if next_in o (terminal.Int ∷ []) then v else (if next_in o (terminal.Str ∷ []) then w else (if next_in o (terminal.Key k.True ∷ []) then x else (if next_in o (terminal.Key k.False ∷ []) then y else (if next_in o (terminal.Key k.Nothing ∷ []) then z else r))))))
    ≡ (if next_in o LITERALS then (if next_in o (terminal.Name ∷ []) then u else (if next_in o (terminal.Int ∷ []) then v else (if next_in o (terminal.Str ∷ []) then w else (if next_in o (terminal.Key k.True ∷ []) then x else (if next_in o (terminal.Key k.False ∷ []) then y else z))))) else r)
six_next None u v w x y z r = refl
six_next (Some t) u v w x y z r =
    let c : Terminal = terminal_of t.kind in
    six (same c terminal.Name) (same c terminal.Int) (same c terminal.Str) (same c (terminal.Key k.True)) (same c (terminal.Key k.False)) (same c (terminal.Key k.Nothing)) u v w x y z r

pub atom_eq : (ts : List Token) (p : Place) → reads_expr ts ATOM p ≡
    (if sees ts p LITERALS then reads_literal ts p
    else (if sees ts p (terminal.Sign s.LeftParen ∷ []) then reads_group ts p
    else (if sees ts p (terminal.Sign s.LeftSquare ∷ []) then reads_list ts p else reads_dict ts p)))
unfolding reads_literal reads_constant reads_group reads_list reads_dict
atom_eq ts p =
    r.atom_eq ts p
    ∙ six_next (slice_get ts p.at) _ _ _ _ _ _ _
    ∙ if_same (sees ts p LITERALS) (if_same (sees ts p (terminal.Name ∷ [])) refl (if_same (sees ts p (terminal.Int ∷ [])) refl (if_same (sees ts p (terminal.Str ∷ []))
    (bind_same (accept ts terminal.Str p) _ _ (λ x. ap (λ o. o >>= λ y. finish (piece (e.Str y.0) x.0.span) y.1) (texts_into ts (text_in x.0.kind) x.1))) refl)))
    (if_same (sees ts p (terminal.Sign s.LeftParen ∷ [])) refl (if_same (sees ts p (terminal.Sign s.LeftSquare ∷ []))
    (bind_same (accept ts (terminal.Sign s.LeftSquare) p) _ _ (λ x.
    ap (λ o. o >>= λ y. accept ts (terminal.Sign s.RightSquare) y.1 >>= λ z. finish (piece (e.ListOf (exprs_of y.0)) x.0.span) z.1) (trees_row ts x.1)))
    (bind_same (accept ts (terminal.Sign s.LeftBrace) p) _ _ (λ x.
    ap (λ o. o >>= λ y. accept ts (terminal.Sign s.RightBrace) y.1 >>= λ z. finish (piece (e.DictOf (entries_of y.0)) x.0.span) z.1) (items_row ts ENTRY x.1)))))

pub ruleset growths = (growth_none, growth_some)
