-- Sample programs: classes, instances, methods.
use Rattle.std.proofs.Common.{◌≡◌, ℕ, pos, false, List, [], ◌∷◌, Some, map, refl, codes}
use Rattle.std.specs.Fmt.{digits}
use Rattle.value_core.specs.declared.exception.ExcClass.TheVariants.{AttributeError}
use Rattle.value_core.specs.Ending.{Done}
use Rattle.value_core.specs.Items.{Eof}
use Rattle.value_core.specs.Value.{IntVal, InstObj}
use Rattle.py_syntax.specs.declared.expression.BinOp.TheVariants.{Add}
use Rattle.py_syntax.specs.declared.expression.CmpOp.TheVariants.{Is, IsNot}
use Rattle.py_typed.specs.Sorts.{Sort, Int, Nothing, Optional, Instance}
use Rattle.py_typed.specs.Classes.{ClassEntry}
use Rattle.py_typed.specs.Order.{AttributeMember, MethodMember, member_of, attributes}
use Rattle.py_typed.specs.Expressions as tree
use Rattle.py_typed.specs.Expressions.{TypedExpr}
use Rattle.py_typed.specs.Statements.{Variable, TypedFunc, Assign, Do, AttrTarget, Aug}
use Rattle.source_meaning.specs.SourceRun.{source_run}
use Rattle.source_meaning.proofs.samples.Building.{as_type, num, g, l, row, arith, compare, call, print, set, set_l, when, return, ◌▸◌, end, func, method, module_of, run, most, fails}

abbrev class_of : List ℕ → List ℕ → List (List ℕ × Sort) → List (List ℕ × ℕ) → ClassEntry
class_of name bases attributes methods = record { name = name; is_trait = false; bases = bases; attributes = attributes; methods = methods }

-- class A: n: int; def __init__(self, n: int): self.n = n; def get(self) -> int: return self.n
-- class B(A): m: int; def get(self) -> int: return 7
-- class C(A): def __init__(self): super().__init__(3)
-- class D: n: int
-- class E(D): pass
abbrev classes : List ClassEntry
classes =
    class_of (codes "A") [] ((codes "n", Int) ∷ []) ((codes "__init__", 0) ∷ (codes "get", 1) ∷ [])
    ∷ class_of (codes "B") (0 ∷ []) ((codes "m", Int) ∷ []) ((codes "get", 2) ∷ [])
    ∷ class_of (codes "C") (0 ∷ []) [] ((codes "__init__", 3) ∷ [])
    ∷ class_of (codes "D") [] ((codes "n", Int) ∷ []) []
    ∷ class_of (codes "E") (3 ∷ []) [] []
    ∷ []

abbrev self : ℕ → Variable
self c = (codes "self", Instance c)

abbrev funcs : List TypedFunc
funcs =
    method (codes "__init__") 0 2 (self 0 ∷ (codes "n", Int) ∷ []) Nothing (Assign (AttrTarget (l 0 (Instance 0)) (codes "n") ∷ []) (l 1 Int) ▸ end)
    ∷ method (codes "get") 0 1 (self 0 ∷ []) Int (return (as_type Int (tree.Attr (l 0 (Instance 0)) (codes "n"))) ▸ end)
    ∷ method (codes "get") 1 1 (self 1 ∷ []) Int (return (num 7) ▸ end)
    ∷ method (codes "__init__") 2 1 (self 2 ∷ []) Nothing (Do (as_type Nothing (tree.SuperInit (Some 0) (row (num 3 ∷ [])))) ▸ end)
    ∷ []

abbrev make : ℕ → List TypedExpr → TypedExpr
make c es = as_type (Instance c) (tree.Make c (row es))

abbrev get : TypedExpr → TypedExpr
get e = as_type Int (tree.Method e (codes "get") (row []))

-- a: A = A(5); print(a.get()); a = B(5); print(a.get(), a.n)
by_the_object : run (module_of classes ((codes "a", Instance 0) ∷ []) funcs
    (set 0 (make 0 (num 5 ∷ [])) ▸ print (get (g 0 (Instance 0)) ∷ []) ▸ set 0 (make 1 (num 5 ∷ [])) ▸ print (get (g 0 (Instance 0)) ∷ as_type Int (tree.Attr (g 0 (Instance 0)) (codes "n")) ∷ []) ▸ end))
    ≡ (codes "5\n7 5\n", Some Done)
unfolding digits source_run
by_the_object = refl

-- print(C().get())
next_init : run (module_of classes [] funcs (print (get (make 2 []) ∷ []) ▸ end)) ≡ (codes "3\n", Some Done)
unfolding digits source_run
next_init = refl

-- d: D = E(); print(d.n)
unset_attribute : run (module_of classes ((codes "d", Instance 3) ∷ []) funcs (set 0 (make 4 []) ▸ print (as_type Int (tree.Attr (g 0 (Instance 3)) (codes "n")) ∷ []) ▸ end))
    ≡ ([], fails AttributeError (codes "attribute 'n' of 'E' undefined"))
unfolding source_run
unset_attribute = refl

-- a = A(1); a.n += 4; print(a.n): what is left in the store
attribute_changed : (source_run most Eof (module_of classes ((codes "a", Instance 0) ∷ []) funcs (set 0 (make 0 (num 1 ∷ [])) ▸ Aug (AttrTarget (g 0 (Instance 0)) (codes "n")) Add (num 4) Int ▸ end))).store
    ≡ InstObj 0 (Some (IntVal (pos 5)) ∷ []) ∷ []
unfolding source_run
attribute_changed = refl

-- B takes `n` from A, and `get` is its own
inherited : member_of classes 1 (codes "n") ≡ Some (AttributeMember Int)
inherited = refl

overridden : member_of classes 1 (codes "get") ≡ Some (MethodMember 2)
overridden = refl

-- an instance of B has the attributes of A before its own
slots : map (λ p. p.0) (attributes classes 1) ≡ codes "n" ∷ codes "m" ∷ []
slots = refl

-- def f() -> None: x: Optional[int] = None; print(x is None); x = 2
--                  if x is not None: print(x + 1)
-- f()
optional_value : run (module_of [] [] (func (codes "f") 0 ((codes "x", Optional Int) ∷ []) Nothing
    (set_l 0 (as_type (Optional Int) (tree.Coerce (as_type Nothing tree.Nothing))) ▸ print (compare Is (l 0 (Optional Int)) (as_type Nothing tree.Nothing) ∷ [])
    ▸ set_l 0 (as_type (Optional Int) (tree.Coerce (num 2)))
    ▸ when (compare IsNot (l 0 Int) (as_type Nothing tree.Nothing)) (print (arith Add (l 0 Int) (num 1) ∷ []) ▸ end) ▸ end) ∷ []) (Do (call 0 Nothing []) ▸ end))
    ≡ (codes "True\n3\n", Some Done)
unfolding digits source_run
optional_value = refl
