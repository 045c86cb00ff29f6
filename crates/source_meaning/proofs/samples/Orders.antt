-- Sample programs that tell the order of parts, the ends of handlers and the items of loops from their nearest wrong readings.
use Rattle.std.proofs.Common.{◌≡◌, ℕ, true, false, List, [], ◌∷◌, Some, None, refl, codes}
use Rattle.std.specs.Fmt.{digits}
use Rattle.value_core.specs.declared.exception.ExcClass.TheVariants.{Exception, ValueError, LookupError, NameError}
use Rattle.value_core.specs.Ending.{Done}
use Rattle.py_typed.specs.Sorts.{Sort, Int, Bool as BoolSort, ListOf, DictOf, Exc}
use Rattle.value_core.specs.declared.exception.ExcClass.{ExcClass}
use Rattle.py_typed.specs.Expressions as tree
use Rattle.py_typed.specs.Expressions.{TypedExpr, some_expr}
use Rattle.py_typed.specs.Statements.{TypedAct, TypedFunc, Assign, Del, While, ForList, Try, Raise, Break, GlobalTarget, ItemTarget, no_handlers, handler_then, no_suite}
use Rattle.source_meaning.specs.SourceRun.{source_run}
use Rattle.source_meaning.proofs.samples.Building.{as_type, num, text, flag, g, call, list, print, set, return, ◌▸◌, end, func, module_of, plain, run, fails}

abbrev raise_new : ExcClass → List ℕ → TypedAct
raise_new c t = Raise (Some (as_type (Exc c) (tree.MakeExc c (some_expr (text t)))))

-- a function that says its name and gives this
abbrev telling : List ℕ → Sort → TypedExpr → TypedFunc
telling name t e = func name 0 [] t (print (text name ∷ []) ▸ return e ▸ end)

-- def xs() -> list[int]: print("xs"); return l
-- def i() -> int: print("i"); return 0
-- def v() -> int: print("v"); return 7
-- l = [1]; xs()[i()] = v(); print(l[0])
-- the value, the list, the index
item_set_in_order : run (module_of [] ((codes "l", ListOf Int) ∷ [])
    (telling (codes "xs") (ListOf Int) (g 0 (ListOf Int)) ∷ telling (codes "i") Int (num 0) ∷ telling (codes "v") Int (num 7) ∷ [])
    (set 0 (list Int (num 1 ∷ [])) ▸ Assign (ItemTarget (call 0 (ListOf Int) []) (call 1 Int []) ∷ []) (call 2 Int []) ▸ print (as_type Int (tree.At (g 0 (ListOf Int)) (num 0)) ∷ []) ▸ end))
    ≡ (codes "v\nxs\ni\n7\n", Some Done)
unfolding digits source_run
item_set_in_order = refl

-- print(len({i(): v()})): the key, the value
display_in_order : run (module_of [] [] (telling (codes "i") Int (num 0) ∷ telling (codes "v") Int (num 7) ∷ [])
    (print (as_type Int (tree.Len (as_type (DictOf Int Int) (tree.DictOf (tree.entries_of ((call 0 Int [], call 1 Int []) ∷ []))))) ∷ []) ▸ end))
    ≡ (codes "i\nv\n1\n", Some Done)
unfolding digits source_run
display_in_order = refl

-- def d() -> dict[int, int]: print("d"); return m
-- m = {0: 1}; del d()[i()]; print(len(m)): the dict, the key
deleted_in_order : run (module_of [] ((codes "m", DictOf Int Int) ∷ []) (telling (codes "d") (DictOf Int Int) (g 0 (DictOf Int Int)) ∷ telling (codes "i") Int (num 0) ∷ [])
    (set 0 (as_type (DictOf Int Int) (tree.DictOf (tree.entries_of ((num 0, num 1) ∷ [])))) ▸ Del (call 0 (DictOf Int Int) []) (call 1 Int []) ▸ print (as_type Int (tree.Len (g 0 (DictOf Int Int))) ∷ []) ▸ end))
    ≡ (codes "d\ni\n0\n", Some Done)
unfolding digits source_run
deleted_in_order = refl

-- while True:
--     try: raise ValueError("x")
--     except ValueError as e: break
-- print(e): the name is unset, although the clause was left
name_unset_at_break : run (plain ((codes "e", Exc Exception) ∷ [])
    (While (flag true) (Try (raise_new ValueError (codes "x") ▸ end) (handler_then (ValueError ∷ []) (Some (GlobalTarget 0)) (Break ▸ end) no_handlers) no_suite ▸ end)
    ▸ print (g 0 (Exc Exception) ∷ []) ▸ end))
    ≡ ([], fails NameError (codes "name 'e' is not defined"))
unfolding source_run
name_unset_at_break = refl

-- try:
--     try: raise ValueError("x")
--     except ValueError as e: raise LookupError("y")
-- except LookupError: print("caught")
-- print(e)
name_unset_at_raise : run (plain ((codes "e", Exc Exception) ∷ [])
    (Try (Try (raise_new ValueError (codes "x") ▸ end) (handler_then (ValueError ∷ []) (Some (GlobalTarget 0)) (raise_new LookupError (codes "y") ▸ end) no_handlers) no_suite ▸ end)
    (handler_then (LookupError ∷ []) None (print (text (codes "caught") ∷ []) ▸ end) no_handlers) no_suite
    ▸ print (g 0 (Exc Exception) ∷ []) ▸ end))
    ≡ (codes "caught\n", fails NameError (codes "name 'e' is not defined"))
unfolding source_run
name_unset_at_raise = refl

-- try: raise ValueError("a")
-- except ValueError:
--     while True:
--         try: raise ValueError("b")
--         except ValueError: break
--     raise
-- the exception of the clause around it, although the inner clause was left
outer_again_at_break : run (plain []
    (Try (raise_new ValueError (codes "a") ▸ end)
    (handler_then (ValueError ∷ []) None
    (While (flag true) (Try (raise_new ValueError (codes "b") ▸ end) (handler_then (ValueError ∷ []) None (Break ▸ end) no_handlers) no_suite ▸ end) ▸ Raise None ▸ end)
    no_handlers) no_suite ▸ end))
    ≡ ([], fails ValueError (codes "a"))
unfolding source_run
outer_again_at_break = refl

-- try: raise ValueError("a")
-- except ValueError:
--     try:
--         try: raise ValueError("b")
--         except ValueError: raise LookupError("c")
--     except LookupError: print("caught")
--     raise
outer_again_at_raise : run (plain []
    (Try (raise_new ValueError (codes "a") ▸ end)
    (handler_then (ValueError ∷ []) None
    (Try (Try (raise_new ValueError (codes "b") ▸ end) (handler_then (ValueError ∷ []) None (raise_new LookupError (codes "c") ▸ end) no_handlers) no_suite ▸ end)
    (handler_then (LookupError ∷ []) None (print (text (codes "caught") ∷ []) ▸ end) no_handlers) no_suite ▸ Raise None ▸ end)
    no_handlers) no_suite ▸ end))
    ≡ (codes "caught\n", fails ValueError (codes "a"))
unfolding source_run
outer_again_at_raise = refl

-- x: int
-- for x in [True, False]: print(x): an item is coerced to its target's type
item_coerced : run (plain ((codes "x", Int) ∷ []) (ForList (GlobalTarget 0 ∷ []) (list BoolSort (flag true ∷ flag false ∷ [])) (print (g 0 Int ∷ []) ▸ end) ▸ end)) ≡ (codes "1\n0\n", Some Done)
unfolding digits source_run
item_coerced = refl
