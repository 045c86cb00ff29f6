-- The level of a row with one part more.
use Rattle.std.proofs.Common.{◌≡◌, ℕ, max, List, [], ◌∷◌, ◌++◌, Option, Some, None, arith}
use Rattle.std.proofs.lemmas.List.{map-append}
use Rattle.py_syntax.specs.declared.expression.CmpOp.{CmpOp}
use Rattle.py_syntax.specs.declared.expression.Expr.{Expr}
use Rattle.py_syntax.specs.declared.expression.Arg.{roll-Arg, fold-roll-Arg}
use Rattle.py_syntax.specs.Expressions.{ExprTree, ExprNode, ArgTree, node_step, arg_step, expr_step, exprs_of, comparisons_of, entries_of, arguments_of, with_key, expr_tree, arg_tree}
use Rattle.py_syntax.proofs.ExpressionLemmas.{arg_tree_at}
use Rattle.py_parser_grammar.specs.Levels.{level, exprs_level, comparisons_level, entries_level, arguments_level}

pub exprs_push : (xs : List ExprTree) (x : ExprTree) → exprs_level (exprs_of (xs ++ x ∷ [])) ≡ max (exprs_level (exprs_of xs)) (level x)
exprs_push [] x = omega arith
exprs_push (y ∷ ys) x = let h = exprs_push ys x in omega arith

pub comparisons_push : (xs : List (CmpOp × ExprTree)) (x : CmpOp × ExprTree) → comparisons_level (comparisons_of (xs ++ x ∷ [])) ≡ max (comparisons_level (comparisons_of xs)) (level x.1)
comparisons_push [] x = omega arith
comparisons_push (y ∷ ys) x = let h = comparisons_push ys x in omega arith

pub entries_push : (xs : List (ExprTree × ExprTree)) (x : ExprTree × ExprTree) → entries_level (entries_of (xs ++ x ∷ [])) ≡ max (entries_level (entries_of xs)) (max (level x.0) (level x.1))
entries_push [] x = omega arith
entries_push (y ∷ ys) x = let h = entries_push ys x in omega arith

-- the level of an argument
abbrev arg_level : ArgTree → ℕ
arg_level a = arguments_level (with_key a.key a.value (arguments_of []))

first_arg : (key : Option ExprTree) (value : ExprTree) (more : List ArgTree) → arguments_level (with_key key value (arguments_of more)) ≡ max (arguments_level (with_key key value (arguments_of []))) (arguments_level (arguments_of more))
first_arg None value more = omega arith
first_arg (Some key) value more = omega arith

arguments_push : (xs : List ArgTree) (x : ArgTree) → arguments_level (arguments_of (xs ++ x ∷ [])) ≡ max (arguments_level (arguments_of xs)) (arg_level x)
arguments_push [] x = omega arith
arguments_push (y ∷ ys) x =
    let h = arguments_push ys x in
    let a = first_arg y.key y.value ys in
    let b = first_arg y.key y.value (ys ++ x ∷ []) in
    omega arith

pub value_push : (xs : List ArgTree) (v : ExprTree) → arguments_level (arguments_of (xs ++ record { key = None; value = v } ∷ [])) ≡ max (arguments_level (arguments_of xs)) (level v)
value_push xs v = let h = arguments_push xs (record { key = None; value = v }) in omega arith

pub keyed_push : (xs : List ArgTree) (k v : ExprTree) → arguments_level (arguments_of (xs ++ record { key = Some k; value = v } ∷ [])) ≡ max (arguments_level (arguments_of xs)) (max (level k) (level v))
keyed_push xs k v = let h = arguments_push xs (record { key = Some k; value = v }) in omega arith

-- what an argument that is made stands for
pub value_arg : (v : Expr) → arg_tree (roll-Arg (record { key = None; value = v })) ≡ record { key = None; value = expr_tree v }
value_arg v = fold-roll-Arg ExprNode ArgTree ExprTree node_step arg_step expr_step (record { key = None; value = v })

pub keyed_arg : (k v : Expr) → arg_tree (roll-Arg (record { key = Some k; value = v })) ≡ record { key = Some (expr_tree k); value = expr_tree v }
keyed_arg k v = fold-roll-Arg ExprNode ArgTree ExprTree node_step arg_step expr_step (record { key = Some k; value = v })

pub ruleset rows = (exprs_push, comparisons_push, entries_push, value_push, keyed_push, map-append, arg_tree_at)
