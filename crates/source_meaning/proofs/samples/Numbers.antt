-- Sample programs: numbers.
use Rattle.std.proofs.Common.{◌≡◌, ◌^◌, ◌-◌, negsuc, true, [], ◌∷◌, Some, refl, codes}
use Rattle.std.specs.Fmt.{digits}
use Rattle.std.specs.Int.{int_wrap}
use Rattle.value_core.specs.declared.exception.ExcClass.TheVariants.{ValueError, ZeroDivisionError, OverflowError}
use Rattle.value_core.specs.Ending.{Done}
use Rattle.py_syntax.specs.declared.expression.BinOp.TheVariants.{Add, FloorDiv, Mod, Shl, Shr}
use Rattle.py_syntax.specs.declared.expression.CmpOp.TheVariants.{Lt}
use Rattle.py_typed.specs.Sorts.{Int, I64, Bool as BoolSort}
use Rattle.py_typed.specs.Expressions as tree
use Rattle.py_typed.specs.Expressions.{no_comparisons, comparison_then}
use Rattle.py_typed.specs.Statements.{Aug, GlobalTarget}
use Rattle.source_meaning.specs.SourceRun.{source_run}
use Rattle.source_meaning.proofs.samples.Building.{as_type, num, flag, g, arith, arith64, call, print, set, return, ◌▸◌, end, func, module_of, plain, run, fails}

-- print(-7 // 2, -7 % 2, 7 % -2)
floor : run (plain [] (print (arith FloorDiv (as_type Int (tree.Neg (num 7))) (num 2) ∷ arith Mod (as_type Int (tree.Neg (num 7))) (num 2) ∷ arith Mod (num 7) (as_type Int (tree.Neg (num 2))) ∷ []) ▸ end)) ≡ (codes "-4 1 -1\n", Some Done)
unfolding digits source_run
floor = refl

-- print(True + True)
bools_are_numbers : run (plain [] (print (arith Add (flag true) (flag true) ∷ []) ▸ end)) ≡ (codes "2\n", Some Done)
unfolding digits source_run
bools_are_numbers = refl

-- print((2 ** 127 - 1) + 1), the first operand written out
past_the_range : run (plain [] (print (arith Add (num (2 ^ 127 - 1)) (num 1) ∷ []) ▸ end)) ≡ ([], fails OverflowError (codes "integer is past 128 bits"))
unfolding source_run
past_the_range = refl

-- x: i64 = 9223372036854775807; x += 1; print(x)
wraps : run (plain ((codes "x", I64) ∷ []) (set 0 (as_type I64 (tree.Coerce (num (2 ^ 63 - 1)))) ▸ Aug (GlobalTarget 0) Add (num 1) I64 ▸ print (g 0 I64 ∷ []) ▸ end)) ≡ (codes "-9223372036854775808\n", Some Done)
unfolding digits source_run int_wrap
wraps = refl

-- x: i64 = -9223372036854775808; print(x // -1)
least_quotient : run (plain ((codes "x", I64) ∷ []) (set 0 (as_type I64 (tree.Coerce (as_type Int (tree.Int (negsuc (2 ^ 63 - 1)))))) ▸ print (arith64 FloorDiv (g 0 I64) (as_type Int (tree.Neg (num 1))) ∷ []) ▸ end)) ≡ ([], fails OverflowError (codes "integer does not fit in i64"))
unfolding source_run
least_quotient = refl

-- x: i64 = 9223372036854775808
no_fit : run (plain ((codes "x", I64) ∷ []) (set 0 (as_type I64 (tree.Coerce (num (2 ^ 63)))) ▸ end)) ≡ ([], fails OverflowError (codes "integer does not fit in i64"))
unfolding source_run
no_fit = refl

-- print(1); print(1 // 0)
zero_divisor : run (plain [] (print (num 1 ∷ []) ▸ print (arith FloorDiv (num 1) (num 0) ∷ []) ▸ end)) ≡ (codes "1\n", fails ZeroDivisionError (codes "integer division or modulo by zero"))
unfolding digits source_run
zero_divisor = refl

-- print(5 >> 1, -5 >> 1, 5 << -1)
negative_count : run (plain [] (print (arith Shr (num 5) (num 1) ∷ arith Shr (as_type Int (tree.Neg (num 5))) (num 1) ∷ []) ▸ print (arith Shl (num 5) (as_type Int (tree.Neg (num 1))) ∷ []) ▸ end)) ≡ (codes "2 -3\n", fails ValueError (codes "negative shift count"))
unfolding digits source_run
negative_count = refl

-- x: i64 = 1; print(x << 64)
count_out_of_range : run (plain ((codes "x", I64) ∷ []) (set 0 (as_type I64 (tree.Coerce (num 1))) ▸ print (arith64 Shl (g 0 I64) (num 64) ∷ []) ▸ end)) ≡ ([], fails ValueError (codes "shift count out of range"))
unfolding source_run
count_out_of_range = refl

-- def f() -> int: print(7); return 5
-- print(1 < f() < 9, 1 < 0 < f())
chains : run (module_of [] [] (func (codes "f") 0 [] Int (print (num 7 ∷ []) ▸ return (num 5) ▸ end) ∷ [])
    (print (as_type BoolSort (tree.Compare (num 1) (comparison_then Lt (call 0 Int []) (comparison_then Lt (num 9) no_comparisons)))
    ∷ as_type BoolSort (tree.Compare (num 1) (comparison_then Lt (num 0) (comparison_then Lt (call 0 Int []) no_comparisons))) ∷ []) ▸ end))
    ≡ (codes "7\nTrue False\n", Some Done)
unfolding digits source_run
chains = refl

-- print(0 or 2, 0 and 1 // 0, 3 if True else 1 // 0)
only_what_is_needed : run (plain [] (print (as_type Int (tree.Or (num 0) (num 2)) ∷ as_type Int (tree.And (num 0) (arith FloorDiv (num 1) (num 0))) ∷ as_type Int (tree.Cond (num 3) (flag true) (arith FloorDiv (num 1) (num 0))) ∷ []) ▸ end)) ≡ (codes "2 0 3\n", Some Done)
unfolding digits source_run
only_what_is_needed = refl
