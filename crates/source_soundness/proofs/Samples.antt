-- Modules that are not well typed, one for each place where a run is watched: by the meaning alone it goes on, and watched for shapes it
-- is stuck at the value that has not its type's shape.
use Rattle.std.proofs.Common.{◌≡◌, ℕ, ◌^◌, pos, false, true, List, [], ◌∷◌, Option, Some, None, refl, codes}
use Rattle.std.proofs.Math.Utf8.{encode}
use Rattle.std.specs.Fmt.{digits}
use Rattle.std.specs.Str.{is_utf8, chars}
use Rattle.value_core.specs.Ending.{Ending, Done}
use Rattle.value_core.specs.Items.{Eof}
use Rattle.py_syntax.specs.declared.expression.BinOp.TheVariants.{Add}
use Rattle.py_typed.specs.Sorts.{Int, I64, Str, Nothing, ListOf, DictOf, TupleOf, Optional, Instance, sorts_of}
use Rattle.py_typed.specs.Classes.{ClassEntry}
use Rattle.py_typed.specs.Expressions as tree
use Rattle.py_typed.specs.Expressions.{TypedExpr}
use Rattle.py_typed.specs.Statements.{TypedModule, TypedTarget, LocalTarget, GlobalTarget, AttrTarget, ItemTarget, TypedAct, Do, Assign, Aug, ForList, ForDict}
use Rattle.source_meaning.specs.SourceRun.{source_run}
use Rattle.source_meaning.proofs.samples.Building.{as_type, num, text, flag, g, call, list, print, set, ◌▸◌, end, func, module_of, plain, seen, most, run}
use Rattle.source_soundness.specs.Watched.{watched_run}
use Rattle.source_soundness.specs.Shapes.{shapes}
use Rattle.source_soundness.specs.Texts.{utf8_texts}

abbrev watched : TypedModule → List ℕ × Option Ending
watched m = seen (watched_run (shapes m.classes.classes) m most Eof)

-- ---- at an expression

-- print("a"), with the text called an int
abbrev text_as_int : TypedModule
text_as_int = plain [] (print (as_type Int (tree.Str (codes "a")) ∷ []) ▸ end)

text_runs : run text_as_int ≡ (codes "a\n", Some Done)
unfolding source_run
text_runs = refl

text_stops : watched text_as_int ≡ ([], None)
unfolding watched_run
text_stops = refl

-- an int past 64 bits that is called an i64
wide_stops : watched (plain [] (print (as_type I64 (tree.Int (pos (2 ^ 63))) ∷ []) ▸ end)) ≡ ([], None)
unfolding watched_run
wide_stops = refl

-- None under an Optional passes, and not where the name is known not to be None
abbrev none_set : TypedAct
none_set = set 0 (as_type (Optional Int) (tree.Coerce (as_type Nothing tree.Nothing)))

optional_passes : watched (plain ((codes "x", Optional Int) ∷ []) (none_set ▸ print (text (codes "set") ∷ []) ▸ end)) ≡ (codes "set\n", Some Done)
unfolding watched_run
optional_passes = refl

none_stops : watched (plain ((codes "x", Optional Int) ∷ []) (none_set ▸ print (g 0 Int ∷ []) ▸ end)) ≡ ([], None)
unfolding watched_run
none_stops = refl

-- ---- at an item

-- a list of bools that is called one of ints: its items are looked at as they are read
abbrev bools : TypedExpr
bools = list Int (flag true ∷ [])

-- xs = [True]
-- print("made")
-- for x in xs: print(x)
abbrev bools_as_ints : TypedModule
bools_as_ints = plain ((codes "xs", ListOf Int) ∷ (codes "x", Int) ∷ []) (set 0 bools ▸ print (text (codes "made") ∷ []) ▸ ForList (GlobalTarget 1 ∷ []) (g 0 (ListOf Int)) (print (g 1 Int ∷ []) ▸ end) ▸ end)

bools_run : run bools_as_ints ≡ (codes "made\n1\n", Some Done)
unfolding digits source_run
bools_run = refl

bools_stop : watched bools_as_ints ≡ (codes "made\n", None)
unfolding watched_run
bools_stop = refl

-- the same of keys
abbrev bool_keys : TypedModule
bool_keys =
    plain ((codes "xs", DictOf Int Int) ∷ (codes "x", Int) ∷ [])
    (set 0 (as_type (DictOf Int Int) (tree.DictOf (tree.entries_of ((flag true, num 7) ∷ [])))) ▸ print (text (codes "made") ∷ []) ▸ ForDict (GlobalTarget 1 ∷ []) (g 0 (DictOf Int Int)) (print (g 1 Int ∷ []) ▸ end) ▸ end)

keys_run : run bool_keys ≡ (codes "made\n1\n", Some Done)
unfolding digits source_run
keys_run = refl

keys_stop : watched bool_keys ≡ (codes "made\n", None)
unfolding watched_run
keys_stop = refl

-- ---- where an augmented assignment reads

-- x, = "a",
-- x += "b"
-- with an int for x
abbrev text_into : TypedTarget → TypedAct
text_into t = Assign (t ∷ []) (as_type (TupleOf (sorts_of (Str ∷ []))) (tree.TupleOf (tree.exprs_of (text (codes "a") ∷ []))))

abbrev update : TypedTarget → TypedAct
update t = Aug t Add (text (codes "b")) Str

abbrev global_updated : TypedModule
global_updated = plain ((codes "x", Int) ∷ []) (text_into (GlobalTarget 0) ▸ update (GlobalTarget 0) ▸ end)

global_runs : run global_updated ≡ ([], Some Done)
unfolding source_run
global_runs = refl

global_stops : watched global_updated ≡ ([], None)
unfolding watched_run
global_stops = refl

-- in a function, with a local one
abbrev local_updated : TypedModule
local_updated = module_of [] [] (func (codes "f") 0 ((codes "x", Int) ∷ []) Nothing (text_into (LocalTarget 0) ▸ update (LocalTarget 0) ▸ end) ∷ []) (Do (call 0 Nothing []) ▸ end)

local_runs : run local_updated ≡ ([], Some Done)
unfolding source_run
local_runs = refl

local_stops : watched local_updated ≡ ([], None)
unfolding watched_run
local_stops = refl

-- class A: n: int
-- a = A()
-- a.n, = "a",
-- a.n += "b"
abbrev class_a : ClassEntry
class_a = record { name = codes "A"; is_trait = false; bases = []; attributes = (codes "n", Int) ∷ []; methods = [] }

abbrev attribute_n : TypedTarget
attribute_n = AttrTarget (g 0 (Instance 0)) (codes "n")

abbrev attribute_updated : TypedModule
attribute_updated = module_of (class_a ∷ []) ((codes "a", Instance 0) ∷ []) [] (set 0 (as_type (Instance 0) (tree.Make 0 (tree.exprs_of []))) ▸ text_into attribute_n ▸ update attribute_n ▸ end)

attribute_runs : run attribute_updated ≡ ([], Some Done)
unfolding source_run
attribute_runs = refl

attribute_stops : watched attribute_updated ≡ ([], None)
unfolding watched_run
attribute_stops = refl

-- xs = [True]
-- xs[0] += 1
abbrev item_updated : TypedModule
item_updated = plain ((codes "xs", ListOf Int) ∷ []) (set 0 bools ▸ Aug (ItemTarget (g 0 (ListOf Int)) (num 0)) Add (num 1) Int ▸ end)

item_runs : run item_updated ≡ ([], Some Done)
unfolding source_run
item_runs = refl

item_stops : watched item_updated ≡ ([], None)
unfolding watched_run
item_stops = refl

-- ---- at the arguments of a call

-- def f(x: int) -> None: pass
-- f("a")
abbrev text_passed : TypedModule
text_passed = module_of [] [] (func (codes "f") 1 ((codes "x", Int) ∷ []) Nothing end ∷ []) (Do (call 0 Nothing (text (codes "a") ∷ [])) ▸ end)

argument_runs : run text_passed ≡ ([], Some Done)
unfolding source_run
argument_runs = refl

argument_stops : watched text_passed ≡ ([], None)
unfolding watched_run
argument_stops = refl

-- ---- texts

-- print("..."), where the bytes of the text are none in UTF-8
abbrev bytes_printed : TypedModule
bytes_printed = plain [] (print (text (255 ∷ []) ∷ []) ▸ end)

bytes_run : run bytes_printed ≡ (255 ∷ 10 ∷ [], Some Done)
unfolding source_run
bytes_run = refl

bytes_stop : seen (watched_run utf8_texts bytes_printed most Eof) ≡ ([], None)
unfolding watched_run is_utf8 chars encode
bytes_stop = refl
