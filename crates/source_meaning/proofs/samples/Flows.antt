-- Sample programs: exceptions, loops, calls and turns.
use Rattle.std.proofs.Common.{◌≡◌, ℕ, true, false, List, [], ◌∷◌, Some, None, refl, codes}
use Rattle.std.specs.Fmt.{digits}
use Rattle.value_core.specs.declared.exception.ExcClass.TheVariants.{Exception, ValueError, ArithmeticError, LookupError, NameError, UnboundLocalError, AssertionError}
use Rattle.value_core.specs.Ending.{Done, Cut}
use Rattle.value_core.specs.Items.{Eof}
use Rattle.py_syntax.specs.declared.expression.BinOp.TheVariants.{Add, FloorDiv}
use Rattle.py_syntax.specs.declared.expression.CmpOp.TheVariants.{Lt, Eq}
use Rattle.py_typed.specs.Sorts.{Int, Nothing, Exc}
use Rattle.py_typed.specs.Expressions as tree
use Rattle.py_typed.specs.Expressions.{TypedExpr, no_expr, some_expr}
use Rattle.py_typed.specs.Statements.{TypedAct, Do, While, ForRange, Try, Raise, Break, Continue, Assert, GlobalTarget, no_handlers, handler_then, no_suite, some_suite}
use Rattle.source_meaning.specs.SourceRun.{source_run}
use Rattle.source_meaning.proofs.samples.Building.{as_type, num, text, flag, g, l, arith, compare, call, print, set, set_l, when, return, ◌▸◌, end, func, module_of, plain, run, ran, fails}

-- raise ValueError(text)
abbrev raise_value : List ℕ → TypedAct
raise_value t = Raise (Some (as_type (Exc ValueError) (tree.MakeExc ValueError (some_expr (text t)))))

abbrev say : List ℕ → TypedAct
say t = print (text t ∷ [])

-- def f() -> int:
--     try: raise ValueError("x")
--     finally: return 7
-- print(f())
finally_overrides : run (module_of [] [] (func (codes "f") 0 [] Int (Try (raise_value (codes "x") ▸ end) no_handlers (some_suite (return (num 7) ▸ end)) ▸ end) ∷ []) (print (call 0 Int [] ∷ []) ▸ end)) ≡ (codes "7\n", Some Done)
unfolding digits source_run
finally_overrides = refl

-- def f() -> int:
--     try: return 1
--     finally: print("last")
-- print(f())
finally_keeps : run (module_of [] [] (func (codes "f") 0 [] Int (Try (return (num 1) ▸ end) no_handlers (some_suite (say (codes "last") ▸ end)) ▸ end) ∷ []) (print (call 0 Int [] ∷ []) ▸ end)) ≡ (codes "last\n1\n", Some Done)
unfolding digits source_run
finally_keeps = refl

-- while True:
--     try: break
--     finally: print("last")
-- print("behind")
finally_at_break : run (plain [] (While (flag true) (Try (Break ▸ end) no_handlers (some_suite (say (codes "last") ▸ end)) ▸ end) ▸ say (codes "behind") ▸ end)) ≡ (codes "last\nbehind\n", Some Done)
unfolding source_run
finally_at_break = refl

-- try: 1 // 0
-- except LookupError: print("no")
-- except (ValueError, ArithmeticError) as e: print(e)
-- print(e): the name is unset behind its clause
by_class : run (plain ((codes "e", Exc Exception) ∷ [])
    (Try (Do (arith FloorDiv (num 1) (num 0)) ▸ end)
    (handler_then (LookupError ∷ []) None (say (codes "no") ▸ end) (handler_then (ValueError ∷ ArithmeticError ∷ []) (Some (GlobalTarget 0)) (print (g 0 (Exc Exception) ∷ []) ▸ end) no_handlers))
    no_suite
    ▸ print (g 0 (Exc Exception) ∷ []) ▸ end))
    ≡ (codes "integer division or modulo by zero\n", fails NameError (codes "name 'e' is not defined"))
unfolding source_run
by_class = refl

-- try:
--     try: raise ValueError("a")
--     except ValueError:
--         try: raise ValueError("b")
--         except ValueError: print("inner")
--         raise
-- except Exception as e: print(e)
innermost_again : run (plain ((codes "e", Exc Exception) ∷ [])
    (Try (Try (raise_value (codes "a") ▸ end)
    (handler_then (ValueError ∷ []) None (Try (raise_value (codes "b") ▸ end) (handler_then (ValueError ∷ []) None (say (codes "inner") ▸ end) no_handlers) no_suite ▸ Raise None ▸ end) no_handlers) no_suite ▸ end)
    (handler_then (Exception ∷ []) (Some (GlobalTarget 0)) (print (g 0 (Exc Exception) ∷ []) ▸ end) no_handlers) no_suite ▸ end))
    ≡ (codes "inner\na\n", Some Done)
unfolding source_run
innermost_again = refl

-- def f() -> None:
--     if False: x = 1
--     print(x)
-- f()
unset_local : run (module_of [] [] (func (codes "f") 0 ((codes "x", Int) ∷ []) Nothing (when (flag false) (set_l 0 (num 1) ▸ end) ▸ print (l 0 Int ∷ []) ▸ end) ∷ []) (Do (call 0 Nothing []) ▸ end))
    ≡ ([], fails UnboundLocalError (codes "local variable 'x' referenced before assignment"))
unfolding source_run
unset_local = refl

-- print(x); x: int = 1
unset_variable : run (plain ((codes "x", Int) ∷ []) (print (g 0 Int ∷ []) ▸ set 0 (num 1) ▸ end)) ≡ ([], fails NameError (codes "name 'x' is not defined"))
unfolding source_run
unset_variable = refl

-- assert 1 < 2; assert False, "no"
asserts : run (plain [] (Assert (compare Lt (num 1) (num 2)) None ▸ Assert (flag false) (Some (text (codes "no"))) ▸ end)) ≡ ([], fails AssertionError (codes "no"))
unfolding source_run
asserts = refl

-- for i in range(1, 4):
--     if i == 2: continue
--     print(i)
-- print(i)
ranges : run (plain ((codes "i", Int) ∷ []) (ForRange (GlobalTarget 0 ∷ []) (Some (num 1)) (num 4) (when (compare Eq (g 0 Int) (num 2)) (Continue ▸ end) ▸ print (g 0 Int ∷ []) ▸ end) ▸ print (g 0 Int ∷ []) ▸ end)) ≡ (codes "1\n3\n3\n", Some Done)
unfolding digits source_run
ranges = refl

-- def f(n: int) -> int: print(n); return f(n + 1)
-- f(0)
cut_in_calls : ran 3 Eof (module_of [] [] (func (codes "f") 1 ((codes "n", Int) ∷ []) Int (print (l 0 Int ∷ []) ▸ return (call 0 Int (arith Add (l 0 Int) (num 1) ∷ [])) ▸ end) ∷ []) (Do (call 0 Int (num 0 ∷ [])) ▸ end)) ≡ (codes "0\n1\n2\n", Some Cut)
unfolding digits source_run
cut_in_calls = refl

-- def f() -> None: print("in")
-- f(): with no turn nothing is entered
cut_at_entry : ran 0 Eof (module_of [] [] (func (codes "f") 0 [] Nothing (say (codes "in") ▸ end) ∷ []) (Do (call 0 Nothing []) ▸ end)) ≡ ([], Some Cut)
unfolding source_run
cut_at_entry = refl

-- i = 0
-- while True: print(i); i = i + 1
-- a turn comes before each next test
cut_in_a_loop : ran 2 Eof (plain ((codes "i", Int) ∷ []) (set 0 (num 0) ▸ While (flag true) (print (g 0 Int ∷ []) ▸ set 0 (arith Add (g 0 Int) (num 1)) ▸ end) ▸ end)) ≡ (codes "0\n1\n2\n", Some Cut)
unfolding digits source_run
cut_in_a_loop = refl

-- the finally of a loop that is cut does not run
cut_leaves_finally_out : ran 0 Eof (plain [] (Try (While (flag true) (Continue ▸ end) ▸ end) no_handlers (some_suite (say (codes "last") ▸ end)) ▸ end)) ≡ ([], Some Cut)
unfolding source_run
cut_leaves_finally_out = refl
