-- Sample programs: lists, texts, tuples and dicts.
use Rattle.std.proofs.Common.{◌≡◌, ◌^◌, pos, true, [], ◌∷◌, Some, refl, codes}
use Rattle.std.specs.Fmt.{digits}
use Rattle.std.specs.Str.{chars}
use Rattle.std.proofs.Math.Utf8.{encode}
use Rattle.value_core.specs.declared.exception.ExcClass.TheVariants.{IndexError, KeyError, RuntimeError}
use Rattle.value_core.specs.Ending.{Done}
use Rattle.value_core.specs.Items.{Eof}
use Rattle.value_core.specs.Value.{IntVal}
use Rattle.py_syntax.specs.declared.expression.BinOp.TheVariants.{Add}
use Rattle.py_syntax.specs.declared.expression.CmpOp.TheVariants.{Lt, Member, NotMember}
use Rattle.py_typed.specs.Sorts.{Int, I64, Str, Nothing, ListOf, DictOf, TupleOf, sorts_of}
use Rattle.py_typed.specs.Expressions as tree
use Rattle.py_typed.specs.Statements.{Aug, Assign, Del, Do, ForList, ForDict, GlobalTarget, ItemTarget}
use Rattle.source_meaning.specs.SourceRun.{source_run}
use Rattle.source_meaning.proofs.samples.Building.{as_type, num, text, flag, g, row, arith, compare, call, list, print, set, when, return, ◌▸◌, end, func, module_of, plain, run, most, fails}

-- xs = [1, 2]
-- for x in xs:
--     if len(xs) < 4: xs.append(x + 2)
--     print(x)
a_list_grows : run (plain ((codes "xs", ListOf Int) ∷ (codes "x", Int) ∷ [])
    (set 0 (list Int (num 1 ∷ num 2 ∷ []))
    ▸ ForList (GlobalTarget 1 ∷ []) (g 0 (ListOf Int))
    (when (compare Lt (as_type Int (tree.Len (g 0 (ListOf Int)))) (num 4)) (Do (as_type Nothing (tree.Append (g 0 (ListOf Int)) (arith Add (g 1 Int) (num 2)))) ▸ end)
    ▸ print (g 1 Int ∷ []) ▸ end)
    ▸ end)) ≡ (codes "1\n2\n3\n4\n", Some Done)
unfolding digits source_run
a_list_grows = refl

-- xs = [1, 2]; print(xs[-1]); print(xs[2])
past_the_end : run (plain ((codes "xs", ListOf Int) ∷ []) (set 0 (list Int (num 1 ∷ num 2 ∷ [])) ▸ print (as_type Int (tree.At (g 0 (ListOf Int)) (as_type Int (tree.Neg (num 1)))) ∷ []) ▸ print (as_type Int (tree.At (g 0 (ListOf Int)) (num 2)) ∷ []) ▸ end))
    ≡ (codes "2\n", fails IndexError (codes "list index out of range"))
unfolding digits source_run
past_the_end = refl

-- xs = [1]; print(xs.pop()); print(xs.pop())
empty_pop : run (plain ((codes "xs", ListOf Int) ∷ []) (set 0 (list Int (num 1 ∷ [])) ▸ print (as_type Int (tree.Pop (g 0 (ListOf Int))) ∷ []) ▸ print (as_type Int (tree.Pop (g 0 (ListOf Int))) ∷ []) ▸ end))
    ≡ (codes "1\n", fails IndexError (codes "pop from empty list"))
unfolding digits source_run
empty_pop = refl

-- print("né"[-1], len("né")); print("a" + "b" < "b", "x"[1])
letters : run (plain [] (print (as_type Str (tree.At (text (110 ∷ 195 ∷ 169 ∷ [])) (as_type Int (tree.Neg (num 1)))) ∷ as_type Int (tree.Len (text (110 ∷ 195 ∷ 169 ∷ []))) ∷ []) ▸ print (compare Lt (as_type Str (tree.Concat (text (codes "a")) (text (codes "b")))) (text (codes "b")) ∷ as_type Str (tree.At (text (codes "x")) (num 1)) ∷ []) ▸ end))
    ≡ (195 ∷ 169 ∷ 32 ∷ 50 ∷ 10 ∷ [], fails IndexError (codes "string index out of range"))
unfolding digits source_run chars encode
letters = refl

-- d = {1: 5, 2: 6}; d[1] = 7; d[3] = 8; del d[2]
-- for k in d: print(k, d[k])
-- print(2 in d, True in d, d[2])
dict_order : run (plain ((codes "d", DictOf Int Int) ∷ (codes "k", Int) ∷ [])
    (set 0 (as_type (DictOf Int Int) (tree.DictOf (tree.entries_of ((num 1, num 5) ∷ (num 2, num 6) ∷ []))))
    ▸ Assign (ItemTarget (g 0 (DictOf Int Int)) (num 1) ∷ []) (num 7)
    ▸ Assign (ItemTarget (g 0 (DictOf Int Int)) (num 3) ∷ []) (num 8)
    ▸ Del (g 0 (DictOf Int Int)) (num 2)
    ▸ ForDict (GlobalTarget 1 ∷ []) (g 0 (DictOf Int Int)) (print (g 1 Int ∷ as_type Int (tree.At (g 0 (DictOf Int Int)) (g 1 Int)) ∷ []) ▸ end)
    ▸ print (compare Member (num 2) (g 0 (DictOf Int Int)) ∷ compare Member (flag true) (g 0 (DictOf Int Int)) ∷ as_type Int (tree.At (g 0 (DictOf Int Int)) (num 2)) ∷ []) ▸ end))
    ≡ (codes "1 7\n3 8\n", fails KeyError (codes "2"))
unfolding digits source_run
dict_order = refl

-- print(2 in d, True in d)
dict_keys : run (plain ((codes "d", DictOf Int Int) ∷ [])
    (set 0 (as_type (DictOf Int Int) (tree.DictOf (tree.entries_of ((num 1, num 5) ∷ [])))) ▸ print (compare Member (num 2) (g 0 (DictOf Int Int)) ∷ compare Member (flag true) (g 0 (DictOf Int Int)) ∷ compare NotMember (num 2) (g 0 (DictOf Int Int)) ∷ []) ▸ end))
    ≡ (codes "False True True\n", Some Done)
unfolding source_run
dict_keys = refl

-- d = {1: 1}
-- for k in d: d[k + 1] = k; print(k)
size_changes : run (plain ((codes "d", DictOf Int Int) ∷ (codes "k", Int) ∷ [])
    (set 0 (as_type (DictOf Int Int) (tree.DictOf (tree.entries_of ((num 1, num 1) ∷ []))))
    ▸ ForDict (GlobalTarget 1 ∷ []) (g 0 (DictOf Int Int)) (Assign (ItemTarget (g 0 (DictOf Int Int)) (arith Add (g 1 Int) (num 1)) ∷ []) (g 1 Int) ▸ print (g 1 Int ∷ []) ▸ end)
    ▸ end)) ≡ (codes "1\n", fails RuntimeError (codes "dictionary changed size during iteration"))
unfolding digits source_run
size_changes = refl

-- a = 1; b = 2; a, b = b, a; print(a, b)
swaps : run (plain ((codes "a", Int) ∷ (codes "b", Int) ∷ []) (set 0 (num 1) ▸ set 1 (num 2) ▸ Assign (GlobalTarget 0 ∷ GlobalTarget 1 ∷ []) (as_type (TupleOf (sorts_of (Int ∷ Int ∷ []))) (tree.TupleOf (row (g 1 Int ∷ g 0 Int ∷ [])))) ▸ print (g 0 Int ∷ g 1 Int ∷ []) ▸ end))
    ≡ (codes "2 1\n", Some Done)
unfolding digits source_run
swaps = refl

-- a = 1; b: i64 = 2; a, b = 5, 9223372036854775808: no target is written
coerced_first : (source_run most Eof (plain ((codes "a", Int) ∷ (codes "b", I64) ∷ []) (set 0 (num 1) ▸ set 1 (as_type I64 (tree.Coerce (num 2))) ▸ Assign (GlobalTarget 0 ∷ GlobalTarget 1 ∷ []) (as_type (TupleOf (sorts_of (Int ∷ Int ∷ []))) (tree.TupleOf (row (num 5 ∷ num (2 ^ 63) ∷ [])))) ▸ end))).variables
    ≡ Some (IntVal (pos 1)) ∷ Some (IntVal (pos 2)) ∷ []
unfolding source_run
coerced_first = refl

-- a, = (3,): one target that the tuple does not fit
one_part : run (plain ((codes "a", Int) ∷ []) (Assign (GlobalTarget 0 ∷ []) (as_type (TupleOf (sorts_of (Int ∷ []))) (tree.TupleOf (row (num 3 ∷ [])))) ▸ print (g 0 Int ∷ []) ▸ end)) ≡ (codes "3\n", Some Done)
unfolding digits source_run
one_part = refl

-- def f() -> int: xs[0] = 40; return 1
-- xs = [1]; xs[0] += f(); print(xs[0])
old_value_first : run (module_of [] ((codes "xs", ListOf Int) ∷ []) (func (codes "f") 0 [] Int (Assign (ItemTarget (g 0 (ListOf Int)) (num 0) ∷ []) (num 40) ▸ return (num 1) ▸ end) ∷ [])
    (set 0 (list Int (num 1 ∷ [])) ▸ Aug (ItemTarget (g 0 (ListOf Int)) (num 0)) Add (call 0 Int []) Int ▸ print (as_type Int (tree.At (g 0 (ListOf Int)) (num 0)) ∷ []) ▸ end))
    ≡ (codes "2\n", Some Done)
unfolding digits source_run
old_value_first = refl
