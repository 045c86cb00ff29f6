-- Samples of modules that are well typed, and of ones that are not.
use Rattle.std.proofs.Common.{◌≡◌, ℕ, negsuc, Bool, true, false, List, [], ◌∷◌, refl, codes}
use Rattle.py_syntax.specs.declared.expression.BinOp.TheVariants.{Add}
use Rattle.py_syntax.specs.declared.expression.CmpOp.TheVariants.{Is, IsNot}
use Rattle.py_typed.specs.Sorts.{Sort, Int, I64, Bool as BoolSort, Nothing, ListOf, Optional, Instance}
use Rattle.py_typed.specs.Classes.{ClassEntry, Signature}
use Rattle.py_typed.specs.Expressions as tree
use Rattle.py_typed.specs.Expressions.{TypedExpr}
use Rattle.py_typed.specs.Statements.{Variable, TypedSuite, no_stmts, no_arms, TypedFunc, TypedModule, Do, ForList, Assign, If, Break, GlobalTarget, AttrTarget}
use Rattle.py_typed.specs.WellTypedModule.{is_well_typed}
use Rattle.source_meaning.proofs.samples.Building.{as_type, num, flag, g, l, row, arith, compare, list, print, set, when, return, ◌▸◌, end, func, method, plain}

abbrev any : List ℕ → Bool
any name = true

abbrev signed : List ClassEntry → List Signature → List Variable → List TypedFunc → TypedSuite → TypedModule
signed classes signatures globals funcs top = record { classes = record { classes = classes; signatures = signatures }; globals = globals; funcs = funcs; top = top }

abbrev takes : List Sort → Sort → Signature
takes params ret = record { params = params; ret = ret }

-- xs = [1, 2]
-- for x in xs: print(x, len(xs))
loop : is_well_typed any (plain ((codes "xs", ListOf Int) ∷ (codes "x", Int) ∷ []) (set 0 (list Int (num 1 ∷ num 2 ∷ [])) ▸ ForList (GlobalTarget 1 ∷ []) (g 0 (ListOf Int)) (print (g 1 Int ∷ as_type Int (tree.Len (g 0 (ListOf Int))) ∷ []) ▸ end) ▸ end)) ≡ true
loop = refl

-- a number that is no variable's, and a break outside a loop
no_such_variable : is_well_typed any (plain ((codes "x", Int) ∷ []) (print (g 1 Int ∷ []) ▸ end)) ≡ false
no_such_variable = refl

break_outside : is_well_typed any (plain [] (Break ▸ end)) ≡ false
break_outside = refl

-- an i64 from an int has to be coerced
uncoerced : is_well_typed any (plain ((codes "x", I64) ∷ []) (set 0 (num 1) ▸ end)) ≡ false
uncoerced = refl

coerced : is_well_typed any (plain ((codes "x", I64) ∷ []) (set 0 (as_type I64 (tree.Coerce (num 1))) ▸ end)) ≡ true
coerced = refl

-- def f(x: Optional[int]) -> int:
--     if x is None: return 0
--     return x + 1
narrowed : is_well_typed any (signed [] (takes (Optional Int ∷ []) Int ∷ []) [] (func (codes "f") 1 ((codes "x", Optional Int) ∷ []) Int
    (when (compare Is (l 0 (Optional Int)) (as_type Nothing tree.Nothing)) (return (num 0) ▸ end) ▸ return (arith Add (l 0 Int) (num 1)) ▸ end) ∷ []) end) ≡ true
narrowed = refl

-- the same without the test
not_narrowed : is_well_typed any (signed [] (takes (Optional Int ∷ []) Int ∷ []) [] (func (codes "f") 1 ((codes "x", Optional Int) ∷ []) Int (return (arith Add (l 0 Int) (num 1)) ▸ end) ∷ []) end) ≡ false
not_narrowed = refl

-- def f(x: Optional[int]) -> Optional[int]:
--     if int(x is not None): return x
--     return x
-- a call of `int` is no test of x, and its tree is that of a test that is made an int: x may read as an Optional there
abbrev whether_x : TypedExpr
whether_x = as_type BoolSort (tree.Truth (as_type Int (tree.Coerce (compare IsNot (l 0 (Optional Int)) (as_type Nothing tree.Nothing)))))

no_test_of_x : is_well_typed any (signed [] (takes (Optional Int ∷ []) (Optional Int) ∷ []) [] (func (codes "f") 1 ((codes "x", Optional Int) ∷ []) (Optional Int)
    (when whether_x (return (l 0 (Optional Int)) ▸ end) ▸ return (l 0 (Optional Int)) ▸ end) ∷ []) end) ≡ true
no_test_of_x = refl

-- a function without an end
no_return : is_well_typed any (signed [] (takes [] Int ∷ []) [] (func (codes "f") 0 [] Int (print (num 1 ∷ []) ▸ end) ∷ []) end) ≡ false
no_return = refl

-- class A: n: int; def __init__(self, n: int): self.n = n
-- print(A(1).n)
abbrev class_a : ClassEntry
class_a = record { name = codes "A"; is_trait = false; bases = []; attributes = (codes "n", Int) ∷ []; methods = (codes "__init__", 0) ∷ [] }

abbrev init_a : TypedFunc
init_a = method (codes "__init__") 0 2 ((codes "self", Instance 0) ∷ (codes "n", Int) ∷ []) Nothing (Assign (AttrTarget (l 0 (Instance 0)) (codes "n") ∷ []) (l 1 Int) ▸ end)

class_module : is_well_typed any (signed (class_a ∷ []) (takes (Int ∷ []) Nothing ∷ []) [] (init_a ∷ []) (print (as_type Int (tree.Attr (as_type (Instance 0) (tree.Make 0 (row (num 1 ∷ [])))) (codes "n")) ∷ []) ▸ end)) ≡ true
class_module = refl

-- a number of arguments that no `__init__` takes
wrong_arguments : is_well_typed any (signed (class_a ∷ []) (takes (Int ∷ []) Nothing ∷ []) [] (init_a ∷ []) (Do (as_type (Instance 0) (tree.Make 0 (row []))) ▸ end)) ≡ false
wrong_arguments = refl

-- xs = [1]
-- if xs: print(1)
-- print(not xs): the truth of a list is asked for in condition places
abbrev xs_true : TypedExpr
xs_true = as_type BoolSort (tree.Truth (g 0 (ListOf Int)))

condition_places : is_well_typed any (plain ((codes "xs", ListOf Int) ∷ []) (set 0 (list Int (num 1 ∷ [])) ▸ when xs_true (print (num 1 ∷ []) ▸ end) ▸ print (as_type BoolSort (tree.Not xs_true) ∷ []) ▸ end)) ≡ true
condition_places = refl

-- and nowhere else, also not below an `and` that is printed; below one that is a test it is
truth_printed : is_well_typed any (plain ((codes "xs", ListOf Int) ∷ []) (print (xs_true ∷ []) ▸ end)) ≡ false
truth_printed = refl

abbrev twice_true : TypedExpr
twice_true = as_type BoolSort (tree.And xs_true (flag true))

and_printed : is_well_typed any (plain ((codes "xs", ListOf Int) ∷ []) (print (twice_true ∷ []) ▸ end)) ≡ false
and_printed = refl

and_tested : is_well_typed any (plain ((codes "xs", ListOf Int) ∷ []) (when twice_true (print (num 1 ∷ []) ▸ end) ▸ end)) ≡ true
and_tested = refl

-- a list is no test as it stands
list_tested : is_well_typed any (plain ((codes "xs", ListOf Int) ∷ []) (when (g 0 (ListOf Int)) (print (num 1 ∷ []) ▸ end) ▸ end)) ≡ false
list_tested = refl

-- no text has a number below zero, and no `if` is without a test
below_zero : is_well_typed any (plain [] (print (as_type Int (tree.Int (negsuc 0)) ∷ []) ▸ end)) ≡ false
below_zero = refl

no_test : is_well_typed any (plain [] (If no_arms no_stmts ▸ end)) ≡ false
no_test = refl

-- if True: from typing import Optional
import_alone : is_well_typed any (plain [] (when (flag true) end ▸ end)) ≡ true
import_alone = refl

-- in a function there is no such body
empty_body : is_well_typed any (signed [] (takes [] Nothing ∷ []) [] (func (codes "f") 0 [] Nothing (when (flag true) end ▸ end) ∷ []) end) ≡ false
empty_body = refl

-- an attribute named as the method that begins an instance is one like any other, where no class of the order has that method
abbrev class_named : List ℕ → List ℕ → List (List ℕ × Sort) → List (List ℕ × ℕ) → ClassEntry
class_named name bases attributes methods = record { name = name; is_trait = false; bases = bases; attributes = attributes; methods = methods }

attribute_init : is_well_typed any (signed (class_named (codes "A") [] ((codes "__init__", Int) ∷ []) [] ∷ []) [] [] [] (Do (as_type (Instance 0) (tree.Make 0 (row []))) ▸ end)) ≡ true
attribute_init = refl

attribute_over_init : is_well_typed any (signed (class_a ∷ class_named (codes "B") (0 ∷ []) ((codes "__init__", Int) ∷ []) [] ∷ []) (takes (Int ∷ []) Nothing ∷ []) [] (init_a ∷ []) end) ≡ false
attribute_over_init = refl
