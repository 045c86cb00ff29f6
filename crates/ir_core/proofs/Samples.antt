-- What small programs do, in tables with a row for each sample: what is computed, and what is wanted of it.
use Rattle.std.proofs.Common.{◌≡◌, ◌≢◌, refl, ℕ, zero, suc, ◌<◌, arith, lit<, true, false, List, [], ◌∷◌, ◌++◌, length, map, Option, Some, None, ℤ, pos, negsuc, codes, inl, inr, ⊎_elim}
use Rattle.std.specs.{Fmt.digits, Int.int_wrap, List.list_any, Option.option_map, Str.chars, Str.is_utf8}
use Rattle.std.proofs.Math.Utf8.{encode}
use Rattle.unicode_ident.proofs.Computing.{unicode_ident}
use Rattle.value_core.specs.declared.exception.ExcClass.{ExcClass}
use Rattle.value_core.specs.declared.exception.ExcClass.TheVariants.{OverflowError, IndexError, KeyError, ValueError, RuntimeError, AttributeError}
use Rattle.value_core.specs.Ending.{Ending, Done, Raised, Cut, Over}
use Rattle.value_core.specs.Exceptions.{Thrown, thrown}
use Rattle.value_core.specs.Items as item
use Rattle.value_core.specs.Items.{Items, Eof}
use Rattle.value_core.specs.Value.{Value, IntVal, BoolVal, NoneVal, StrVal, ObjVal, DictObj, InstObj}
use Rattle.c_core.specs.declared.code.CArg.TheVariants as c_arg
use Rattle.c_core.specs.declared.code.Kind.TheVariants as kind
use Rattle.c_core.specs.declared.code.CLit.TheVariants as c_lit
use Rattle.c_core.specs.declared.code.Line.TheVariants as line
use Rattle.c_core.specs.declared.primitive.{Primitive.Primitive, TaggedPrim.TaggedPrim, DictPrim.DictPrim, AttrPrim.AttrPrim}
use Rattle.c_core.specs.declared.primitive.Primitive.TheVariants as prim
use Rattle.c_core.specs.declared.primitive.Int64Prim.TheVariants as int64
use Rattle.c_core.specs.declared.primitive.TaggedPrim.TheVariants as tagged
use Rattle.c_core.specs.declared.primitive.StrPrim.TheVariants as str
use Rattle.c_core.specs.declared.primitive.ListPrim.TheVariants as list
use Rattle.c_core.specs.declared.primitive.DictPrim.TheVariants as dict
use Rattle.c_core.specs.declared.primitive.InstancePrim.TheVariants as instance
use Rattle.c_core.specs.declared.primitive.AttrPrim.TheVariants as attr
use Rattle.c_core.specs.declared.primitive.GlobalPrim.TheVariants as global
use Rattle.c_core.specs.declared.primitive.ErrPrim.TheVariants as err
use Rattle.c_core.specs.declared.primitive.IoPrim.TheVariants as io
use Rattle.c_core.specs.Step as machine
use Rattle.c_core.specs.{Run.machine_run, WellFormed.well_formed}
use Rattle.ir_core.specs.declared.code.{RType.RType, Reg.Reg, PArg.PArg, Op.Op, Last.Last, Block.Block, Func.Func, Program.Program}
use Rattle.ir_core.specs.declared.code.RType.TheVariants.{Int, I64, Bool, Ref}
use Rattle.ir_core.specs.declared.code.Lit.TheVariants.{Number, PyNone, PyTrue}
use Rattle.ir_core.specs.declared.code.PArg.TheVariants as arg
use Rattle.ir_core.specs.declared.code.Op.TheVariants.{Move, Lit, Prim, Call, Virtual, TraitCall, Turn, Inc, Dec, XDec}
use Rattle.ir_core.specs.declared.code.Last.TheVariants.{Goto, If, IfError, Return, Unreachable}
use Rattle.ir_core.specs.declared.code.ErrorKind.TheVariants.{Magic, MagicOverlapping}
use Rattle.ir_core.specs.Effects.{World, Argument, Given, Written, Wrong, Gives, Acts, Fails, Ends, IfTarget, IfWritten, effect}
use Rattle.ir_core.specs.Meaning.{Frame, Waiting, Config, Runs, Leaves, Ended, Stuck, Mode, Plain, Strict, Fitting, steps}
use Rattle.ir_core.specs.{Registers.Held, Registers.Unset, Registers.Holds, Rows.kind_by_result, Rows.error_kind, Names.function_id}
use Rattle.ir_core.specs.{Runs.start, Runs.Calm, Runs.Fit, Lower.line_of, Lower.lines_from, Lower.lower, Building.ended_block as block}
use Rattle.ir_core.specs.Shape.{LastFits, HandlerFits, FuncFits, Shape, op_fits}
use Rattle.ir_core.proofs.{RunLemmas.ended_is_calm, ModeLemmas.fit_is_calm}

-- each row of a table is as wanted
abbrev AsWanted : {A : Type 0} → List (A × A) → Type 0
AsWanted rows = map (λ r. r.0) rows ≡ map (λ r. r.1) rows

-- what is seen of a configuration: the function, block and place where it goes on; how it has ended, with its output; or itself
data Sight : Type 0 where
  IsAt : (fn block place : ℕ) → Sight
  HasEnded : (e : Ending) (output : List ℕ) → Sight
  Is : (c : Config) → Sight

abbrev sight : Config → Sight
sight (Runs f below w) = IsAt f.fn f.block f.place
sight (Ended e w) = HasEnded e w.output
sight c = Is c

abbrev reg : ℕ → Reg
reg n = record { 0 = n }

abbrev var : ℕ → PArg
var n = arg.Var (reg n)

abbrev set : ℕ → ℕ → Op
set r n = Lit (reg r) (Number (pos n))

-- operations of one line of the source
abbrev on_line : ℕ → List Op → List (Op × ℕ)
on_line n ops = map (λ o. (o, n)) ops

abbrev program : List Func → Program
program funcs = record { globals = []; classes = []; funcs = funcs }

-- a function with no parameters, and a module's own
abbrev function : List (List ℕ × RType) → RType → List Block → Func
function regs ret blocks = record { name = codes "f"; params = 0; regs = regs; ret = ret; blocks = blocks }

abbrev top : List (List ℕ × RType) → List Block → Func
top regs blocks = record (function regs Bool blocks) { name = codes "__top_level__" }

-- a world with this input, a frame whose registers all hold the same, and a run from the start
abbrev reading : Items → World
reading items = record { store = []; globals = []; pending = None; output = []; items = items; turns = 1 }

abbrev frame : ℕ → ℕ → Held → Frame
frame fn block h = record { fn = fn; block = block; place = 0; regs = λ k. h }

abbrev run : Mode → Program → ℕ → ℕ → Sight
run m p turns n = sight (steps m p n (start p turns Eof))

-- ---- a loop with turns: the sum of the numbers up to n, which the module calls for 3 and prints
abbrev sum : Func
sum = record {
  name = codes "tri";
  params = 2;
  regs =
      (codes "n", I64) ∷ (codes "acc", I64) ∷ (codes "r0", I64) ∷ (codes "r1", Bool) ∷ (codes "r2", I64) ∷ (codes "r3", I64)
      ∷ (codes "r4", I64) ∷ [];
  ret = I64;
  blocks =
      block (on_line 1 (Turn ∷ [])) (Goto 1)
      ∷ block (on_line 2 (set 2 0 ∷ Prim (Some (reg 3)) (prim.Int64 int64.Lt) (var 2 ∷ var 0 ∷ []) ∷ [])) (If (reg 3) 2 3)
      ∷ block (on_line 3 (Prim (Some (reg 4)) (prim.Int64 int64.Add) (var 1 ∷ var 0 ∷ []) ∷ Move (reg 1) (reg 4) ∷ set 5 1
      ∷ Prim (Some (reg 6)) (prim.Int64 int64.Subtract) (var 0 ∷ var 5 ∷ []) ∷ Move (reg 0) (reg 6) ∷ Turn ∷ [])) (Goto 1)
      ∷ block [] (Return (reg 1)) ∷ [];
}

-- the module, with what counts the text behind its writing
abbrev printing : List Op → Func
printing counts =
    top ((codes "r0", I64) ∷ (codes "r1", I64) ∷ (codes "r2", I64) ∷ (codes "r3", Ref) ∷ (codes "r4", Bool) ∷ [])
    (block (on_line 6 (set 0 3 ∷ set 1 0 ∷ Call (reg 2) 0 (reg 0 ∷ reg 1 ∷ [])
    ∷ Prim (Some (reg 3)) (prim.Int64 int64.Str) (var 2 ∷ []) ∷ Prim None (prim.Io io.Write) (var 3 ∷ [])
    ∷ counts ++ set 4 1 ∷ [])) (Return (reg 4)) ∷ [])

abbrev summing : Program
summing = program (sum ∷ printing (Dec (reg 3) ∷ []) ∷ [])

-- the call and each round of the loop spend a turn
runs_of_sum : AsWanted (
    (run Plain summing 4 60, HasEnded Done (codes "6")) ∷ (run Strict summing 4 60, HasEnded Done (codes "6"))
    ∷ (run Fitting summing 4 60, HasEnded Done (codes "6")) ∷ (run Plain summing 3 60, HasEnded Cut []) ∷ [])
unfolding digits int_wrap
runs_of_sum = refl

-- the machine of the C text writes the same and ends alike, with each reference given up
runs_of_text :
    let seen : ℕ → Option (machine.MachineEnding × List ℕ) =
    λ turns. option_map (λ stop. (stop.ending, stop.state.output)) (machine_run turns Eof (lower summing)) in
    AsWanted ((seen 4, Some (machine.Ended Done, codes "6")) ∷ (seen 3, Some (machine.Ended Cut, [])) ∷ [])
unfolding digits int_wrap
runs_of_text = refl

-- its C text, line by line
lines_of_sum : lines_from summing 0 sum.blocks ≡
    line.Turn ∷ line.Goto 0 ∷ line.Label ∷ line.Lit 2 (c_lit.Number (pos 0))
    ∷ line.Call (Some 3) (codes "CPyInt64_Lt") (c_arg.Var 2 ∷ c_arg.Var 0 ∷ []) ∷ line.If 3 1 2
    ∷ line.Label ∷ line.Call (Some 4) (codes "CPyInt64_Add") (c_arg.Var 1 ∷ c_arg.Var 0 ∷ []) ∷ line.Move 1 4
    ∷ line.Lit 5 (c_lit.Number (pos 1)) ∷ line.Call (Some 6) (codes "CPyInt64_Subtract") (c_arg.Var 0 ∷ c_arg.Var 5 ∷ [])
    ∷ line.Move 0 6 ∷ line.Turn ∷ line.Goto 0 ∷ line.Label ∷ line.Return 1 ∷ []
lines_of_sum = refl

-- ---- a loop without turns goes on for ever
abbrev round : Func
round = top [] (block [] (Goto 1) ∷ block [] (Goto 1) ∷ [])

for_ever : (n : ℕ) (w : World) → steps Plain (program (round ∷ [])) n (Runs (frame 0 1 Unset) [] w) ≡ Runs (frame 0 1 Unset) [] w
for_ever zero w = refl
for_ever (suc n) w = for_ever n w

-- ---- a failure: function 0 is left by an exception, function 1 called it, and the module called that
abbrev failing : World
failing = record (reading Eof) { pending = Some (thrown ValueError (codes "no")) }

failures :
    let two : RType → List (List ℕ × RType) = λ t. (codes "r0", t) ∷ (codes "r1", Bool) ∷ [] in
    let call = on_line 2 (Call (reg 0) 0 [] ∷ []) in
    let return = block [] (Return (reg 0)) in
    let occurred = λ (r : ℕ). on_line 2 (Prim (Some (reg r)) (prim.Err err.Occurred) [] ∷ []) in
    let asking = λ (t : RType) (blocks : List Block). program (function (two t) t [] ∷ function (two t) t blocks
    ∷ top (two t) (block (on_line 3 (Call (reg 0) 1 [] ∷ set 1 1 ∷ [])) (Return (reg 1)) ∷ []) ∷ []) in
    let guarded = λ (h : Option ℕ). asking Ref (record (block call (Return (reg 0))) { handler = h } ∷ return ∷ []) in
    let asked = λ (t : RType). asking t (block call (IfError (reg 0) 1 2 2) ∷ return ∷ return ∷ []) in
    let asked_twice = λ (n : ℕ). asking I64 (
    block call (IfError (reg 0) 1 3 2) ∷ block (occurred 1) (If (reg 1) 2 n) ∷ return ∷ return ∷ []) in
    let waits : ℕ → Waiting = λ fn. record { frame = frame fn 0 Unset; into = reg 0 } in
    let left = λ (m : Mode) (p : Program) (n : ℕ). sight (steps m p n (Leaves 0 (waits 1 ∷ waits 2 ∷ []) failing)) in
    let raised = HasEnded (Raised (thrown ValueError (codes "no"))) [] in
    let turning = λ (o : Op). function (two I64) I64 (block (on_line 1 (Turn ∷ o ∷ [])) (Return (reg 0)) ∷ []) in
    let minus_113 = program (turning (Lit (reg 0) (Number (negsuc 112)))
    ∷ top ((codes "r0", I64) ∷ (codes "r1", Ref) ∷ (codes "r2", Bool) ∷ []) (
    block call (IfError (reg 0) 1 2 4) ∷ block (occurred 2) (If (reg 2) 3 2)
    ∷ block (on_line 4 (Prim (Some (reg 1)) (prim.Int64 int64.Str) (var 0 ∷ []) ∷ Prim None (prim.Io io.Write) (var 1 ∷ [])
    ∷ set 2 1 ∷ [])) (Return (reg 2)) ∷ block [] (Return (reg 2)) ∷ []) ∷ []) in
    let calling_itself = program (turning (Call (reg 0) 0 []) ∷ top (two I64) (block call (Return (reg 0)) ∷ []) ∷ []) in
    AsWanted (
    -- nothing asks for it: it leaves both functions, and the module; the fitting machine is stuck at the first
    (left Strict (guarded None) 1, Is (Leaves 1 (waits 2 ∷ []) failing)) ∷ (left Fitting (guarded None) 1, Is Stuck)
    ∷ (left Strict (guarded None) 2, Is (Leaves 2 [] failing)) ∷ (left Strict (guarded None) 3, raised)
    -- nor here, but the block has a handler, where it is caught
    ∷ (left Strict (guarded (Some 1)) 1, IsAt 1 1 0) ∷ (left Fitting (guarded (Some 1)) 1, Is Stuck)
    -- the block ends by a test of the result: there it is caught, and from there leaves the function by its error value
    ∷ map (λ m. (left m (asked Ref) 2, IsAt 1 1 0)) (Plain ∷ Strict ∷ Fitting ∷ []) ++ (left Strict (asked Ref) 4, raised)
    -- -113 is an error value of a native integer with an exception, and a value without one; a test of the word tells no
    -- difference. So one test is no edge, and two are, of which the second goes on at a block where there is no exception,
    -- which is that where the result is no error value
    ∷ (left Fitting (asked I64) 1, Is Stuck) ∷ (left Fitting (asked_twice 3) 4, IsAt 1 2 0)
    ∷ (left Fitting (asked_twice 2) 1, Is Stuck) ∷ (run Fitting minus_113 1 20, HasEnded Done (codes "-113"))
    ∷ (sight (steps Plain minus_113 4 (Leaves 0 (waits 1 ∷ []) failing)), IsAt 1 3 0)
    -- a function that calls itself is cut once its turns are spent
    ∷ (run Plain calling_itself 3 10, HasEnded Cut []) ∷ [])
unfolding digits
failures = refl

-- ---- rows of primitives
-- the module's own function with these operations, and a class with two attributes and a method that it has of a trait
abbrev with_class : List Op → Program
with_class ops = record {
  globals = [];
  classes =
      record {
        name = codes "K";
        attrs = (codes "n", kind.Tagged) ∷ (codes "s", kind.Object) ∷ [];
        methods = codes "1K_m" ∷ [];
        traits = (codes "T", codes "1K_m" ∷ []) ∷ [];
      }
      ∷ record { name = codes "T"; attrs = []; methods = []; traits = [] } ∷ [];
  funcs =
      record (function ((codes "self", Ref) ∷ []) Ref (block [] (Return (reg 0)) ∷ [])) { name = codes "K.m"; params = 1 }
      ∷ top ((codes "o", Ref) ∷ (codes "i", Int) ∷ (codes "p", Ref) ∷ []) (block (on_line 1 ops) (Return (reg 0)) ∷ []) ∷ [];
}

-- a world with an instance of it
abbrev having : Option Value → Option Value → World
having n s = record (reading Eof) { store = InstObj 0 (n ∷ s ∷ []) ∷ []; turns = 0 }

abbrev undefined : Thrown
undefined = thrown AttributeError (codes "attribute 's' of 'K' undefined")

effects :
    let int = λ (n : ℤ). Given (IntVal n) in
    let text = λ (t : List ℕ). Given (StrVal t) in
    let does = λ (q : Primitive) (xs : List Argument). effect (program []) q xs (reading Eof) in
    let gives = λ (v : Value). Gives v (reading Eof) in
    let fails = λ (c : ExcClass) (t : List ℕ). Fails (thrown c t) (reading Eof) in
    let tag = λ (q : TaggedPrim) (xs : List Argument). does (prim.Tagged q) xs in
    let of_text = λ (t : List ℕ). tag tagged.FromText (Written (arg.Text t) ∷ []) in
    let accented = text (97 ∷ 195 ∷ 169 ∷ []) in
    let input = λ (items : Items). effect (program []) (prim.Io io.Input) [] (reading items) in
    let a_line = item.Line (codes "a") Eof in
    let holding : List (Value × Value) → World = λ pairs. record (reading Eof) { store = DictObj pairs ∷ [] } in
    let on_dict = λ (q : DictPrim) (pairs : List (Value × Value)) (xs : List Argument).
    effect (program []) (prim.Dict q) (Given (ObjVal 0) ∷ xs) (holding pairs) in
    let pair : List (Value × Value) = (StrVal (codes "a"), IntVal (pos 1)) ∷ [] in
    let ones : List (Value × Value) = (IntVal (pos 1), NoneVal) ∷ [] in
    let changed = codes "dictionary changed size during iteration" in
    let a = text (codes "a") in
    let b = text (codes "b") in
    let new = λ (k : List ℕ). effect (with_class []) (prim.Instance instance.New) (Written (arg.Class k) ∷ []) (reading Eof) in
    let attribute = λ (q : AttrPrim) (n : ℕ) (xs : List Argument) (w : World).
    effect (with_class []) (prim.Attr q) (Given (ObjVal 0) ∷ Written (arg.Number (pos n)) ∷ xs) w in
    let one = Some (IntVal (pos 1)) in
    AsWanted (
    -- a number past 64 bits, and past 128
    (tag tagged.Add (int (pos 9223372036854775807) ∷ int (pos 1) ∷ []), gives (IntVal (pos 9223372036854775808)))
    ∷ (tag tagged.Lshift (int (pos 1) ∷ int (pos 127) ∷ []), fails OverflowError (codes "integer is past 128 bits"))
    -- a truth is no `int` before it is made one
    ∷ (tag tagged.Add (int (pos 1) ∷ Given (BoolVal true) ∷ []), Wrong)
    ∷ (tag tagged.FromBool (Given (BoolVal true) ∷ []), gives (IntVal (pos 1)))
    -- the text of an `int` is as it is printed, and no short one
    ∷ (of_text (codes "4611686018427387904"), gives (IntVal (pos 4611686018427387904)))
    ∷ (of_text (codes "4611686018427387903"), Wrong) ∷ (of_text (codes "04611686018427387904"), Wrong)
    -- an `int` past 64 bits is no native integer
    ∷ (tag tagged.AsInt64 (int (pos 9223372036854775808) ∷ []), fails OverflowError (codes "integer does not fit in i64"))
    -- "a" and an accented "e" are three bytes and two characters; the shorter text is less
    ∷ (does (prim.Str str.Len) (accented ∷ []), gives (IntVal (pos 2)))
    ∷ (does (prim.Str str.GetItem) (accented ∷ int (negsuc 0) ∷ []), gives (StrVal (195 ∷ 169 ∷ [])))
    ∷ (does (prim.Str str.GetItem) (accented ∷ int (pos 2) ∷ []), fails IndexError (codes "string index out of range"))
    ∷ (does (prim.Str str.Lt) (a ∷ accented ∷ []), gives (BoolVal true))
    -- a line is read, one that is not UTF-8 is passed over, and past the bytes that a program may read the run ends
    ∷ (input a_line, gives (StrVal (codes "a"))) ∷ (input item.Over, Ends Over (reading item.Over))
    ∷ (input (item.Bad a_line), Fails (thrown ValueError (codes "input is not UTF-8")) (reading a_line))
    -- a pair is added to a dict; a value is replaced; a pair is cut; a value is read; a key is missing
    ∷ (on_dict dict.SetItem pair (int (pos 1) ∷ b ∷ []), Acts (holding (pair ++ (IntVal (pos 1), StrVal (codes "b")) ∷ [])))
    ∷ (on_dict dict.SetItem pair (a ∷ b ∷ []), Acts (holding ((StrVal (codes "a"), StrVal (codes "b")) ∷ [])))
    ∷ (on_dict dict.DelItem pair (a ∷ []), Gives (BoolVal true) (holding []))
    ∷ (on_dict dict.GetItem pair (a ∷ []), Gives (IntVal (pos 1)) (holding pair))
    ∷ (on_dict dict.GetItem pair (b ∷ []), Fails (thrown KeyError (codes "b")) (holding pair))
    -- a truth is no number, and an object no key
    ∷ (on_dict dict.Contains ones (Given (BoolVal true) ∷ []), Gives (BoolVal false) (holding ones))
    ∷ (on_dict dict.Contains pair (Given (ObjVal 0) ∷ []), Wrong)
    -- the size of a dict has changed, and a place is past its keys
    ∷ (on_dict dict.CheckSize pair (int (pos 2) ∷ []), Fails (thrown RuntimeError changed) (holding pair))
    ∷ (on_dict dict.KeyAt pair (int (pos 1) ∷ []), Wrong)
    -- an instance is made, and none of no class
    ∷ (new (codes "K"), Gives (ObjVal 0) (record (having None None) { turns = 1 })) ∷ (new (codes "L"), Wrong)
    -- an attribute is read, is unset, is written, and is past the slots
    ∷ (attribute attr.Get 0 [] (having one None), IfTarget kind.Tagged (Gives (IntVal (pos 1)) (having one None)))
    ∷ (attribute attr.Get 1 [] (having one None), IfTarget kind.Object (Fails undefined (having one None)))
    ∷ (attribute attr.Set 1 (a ∷ []) (having one None), IfWritten kind.Object (Acts (having one (Some (StrVal (codes "a"))))))
    ∷ (attribute attr.Get 2 [] (having None None), Wrong) ∷ [])
unfolding digits chars encode
effects = refl

-- how they tell that they failed: by their rows, whatever the target is, or, where the row leaves it to a slot or a global, by it
kinds : (t : Option RType) → AsWanted (
    (error_kind (prim.Tagged tagged.Remainder) (Some Int), Magic) ∷ (error_kind (prim.Tagged tagged.Add) (Some I64), Magic)
    ∷ (error_kind (prim.Tagged tagged.AsInt64) (Some I64), MagicOverlapping)
    ∷ (error_kind (prim.Int64 int64.FloorDivide) None, MagicOverlapping) ∷ map (λ q. (error_kind q t, kind_by_result t)) (
    prim.Attr attr.Get ∷ prim.Attr attr.GetBorrow ∷ prim.Global global.Get ∷ []))
kinds t = refl

-- ---- an object and its class
on_object :
    let begin = Runs (frame 1 0 (Holds (ObjVal 0))) [] (having None None) in
    let first = λ (o : Op). sight (steps Plain (with_class (o ∷ [])) 1 begin) in
    let get = λ (n : ℕ). Prim (Some (reg 2)) (prim.Attr attr.Get) (var 0 ∷ arg.Number (pos n) ∷ []) in
    let put = λ (n : ℕ). Prim None (prim.Attr attr.Set) (var 0 ∷ arg.Number (pos n) ∷ var 2 ∷ []) in
    AsWanted (
    -- a register of another type than the slot's is neither read into nor written, also where the attribute is unset
    (first (get 1), Is (Leaves 1 [] (record (having None None) { pending = Some undefined }))) ∷ (first (get 0), Is Stuck)
    ∷ (first (put 1), IsAt 1 0 1) ∷ (first (put 0), Is Stuck)
    -- a method is found by the object's class
    ∷ (first (Virtual (reg 2) (reg 0) 0 []), IsAt 0 0 0) ∷ (first (TraitCall (reg 2) (reg 0) 1 0 []), IsAt 0 0 0) ∷ [])
unfolding digits chars
on_object = refl

-- a call of a method has a line of its own, with the trait by its name
method_lines : AsWanted (
    (line_of (with_class []) (Virtual (reg 1) (reg 0) 0 (reg 2 ∷ [])), line.Virtual 1 0 0 (2 ∷ []))
    ∷ (line_of (with_class []) (TraitCall (reg 1) (reg 0) 1 0 []), line.TraitCall 1 0 (codes "T") 0 []) ∷ [])
method_lines = refl

-- under its name in C text
names : AsWanted ((function_id (codes "Node.sum"), codes "4Node_sum") ∷ (function_id (codes "tri"), codes "tri") ∷ [])
unfolding digits chars
names = refl

-- ---- the module alone, with an object, a truth, a native integer and an `int`
abbrev alone : List Op → Last → Program
alone ops last =
    program (top ((codes "o", Ref) ∷ (codes "b", Bool) ∷ (codes "n", I64) ∷ (codes "i", Int) ∷ (codes "p", Ref) ∷ [])
    (block (on_line 1 ops) last ∷ []) ∷ [])

-- stuck, each in its way, and what is near it and is not
stuck :
    let at_last : Mode → List Op → Sight × Sight = λ m ops. (run m (alone ops (Return (reg 1))) 1 (length ops), Is Stuck) in
    let at_end : List Op → Last → Sight × Sight = λ ops l. (run Plain (alone ops l) 1 (suc (length ops)), Is Stuck) in
    let goes_on : Mode → Op → Sight × Sight = λ m o. (run m (alone (o ∷ set 1 1 ∷ []) (Return (reg 1))) 1 3, HasEnded Done []) in
    let pending = λ (ops : List Op) (l : Last). sight (steps Plain (alone ops l) 1 (Runs (frame 0 0 Unset) [] failing)) in
    let write = Prim None (prim.Io io.Write) (var 0 ∷ []) in
    let taking_one : Func = record (function ((codes "n", I64) ∷ []) I64 (block [] (Return (reg 0)) ∷ [])) { params = 1 } in
    let calls = λ (r : ℕ) (args : List Reg). run Plain (program (taking_one ∷ top ((codes "n", I64) ∷ (codes "b", Bool) ∷ [])
    (block (on_line 1 (set 1 1 ∷ Call (reg r) 0 args ∷ [])) (Return (reg 1)) ∷ []) ∷ [])) 1 2 in
    AsWanted (
    -- a move of an error value, out of an object
    goes_on Plain (Move (reg 4) (reg 0)) ∷ at_last Strict (Move (reg 4) (reg 0) ∷ []) ∷ goes_on Strict (Move (reg 1) (reg 1))
    -- a register or a block or a function or a module that is not there
    ∷ at_last Plain (set 9 1 ∷ []) ∷ (run Plain (alone [] (Goto 7)) 1 2, Is Stuck) ∷ at_last Plain (Call (reg 2) 5 [] ∷ [])
    ∷ (run Plain (program []) 1 0, Is Stuck)
    -- a literal of another type; 3 is the number of no `int`, and 1 is its error value
    ∷ at_last Plain (set 1 3 ∷ []) ∷ at_last Plain (set 3 3 ∷ []) ∷ goes_on Plain (set 3 1)
    -- a primitive with an error value, with no text, with one argument too many, and without its target
    ∷ at_last Plain (write ∷ []) ∷ at_last Plain (Lit (reg 0) PyNone ∷ write ∷ [])
    ∷ at_last Plain (Prim (Some (reg 2)) (prim.Int64 int64.Negate) (var 2 ∷ var 2 ∷ []) ∷ [])
    ∷ at_last Plain (Prim None (prim.Str str.Literal) (arg.Text (codes "a") ∷ []) ∷ [])
    -- a count of an error value, but for the one that allows it
    ∷ at_last Plain (Inc (reg 0) ∷ []) ∷ at_last Plain (Dec (reg 0) ∷ []) ∷ goes_on Plain (XDec (reg 0))
    -- a test of an error value, and of an object
    ∷ at_end [] (If (reg 1) 1 1) ∷ at_end (Lit (reg 0) PyTrue ∷ []) (If (reg 0) 1 1)
    -- an error value returned without an exception, and false from the module
    ∷ at_end [] (Return (reg 1)) ∷ at_end (set 1 0 ∷ []) (Return (reg 1))
    -- a call with too few arguments, with one of another type, or for a result of another type; and of a method of no object
    ∷ (calls 0 (reg 0 ∷ []), IsAt 0 0 0) ∷ (calls 0 [], Is Stuck) ∷ (calls 0 (reg 1 ∷ []), Is Stuck)
    ∷ (calls 1 (reg 0 ∷ []), Is Stuck) ∷ at_last Plain (Lit (reg 0) PyNone ∷ Virtual (reg 1) (reg 0) 0 [] ∷ [])
    -- while an exception is pending a turn, a call, a primitive and a place that is not reached
    ∷ (pending (Turn ∷ []) (Return (reg 1)), Is Stuck) ∷ (pending (Call (reg 1) 0 [] ∷ []) (Return (reg 1)), Is Stuck)
    ∷ (pending (Prim (Some (reg 0)) (prim.Str str.Literal) (arg.Text [] ∷ []) ∷ []) (Return (reg 1)), Is Stuck)
    ∷ (pending [] Unreachable, Is Stuck) ∷ (run Plain (alone [] Unreachable) 1 1, HasEnded Cut [])
    ∷ (pending [] (Return (reg 1)), HasEnded (Raised (thrown ValueError (codes "no"))) []) ∷ [])
stuck = refl

-- ---- shape: the sum has it without its count, and its C text is well formed with it as well
sum_fits : FuncFits sum
sum_fits = (
  record { ops = (refl, tt); last = (lit< tt, lit< tt, inl (lit< tt)); handler = tt },
  (
    record { ops = (refl, (refl, tt)); last = ((lit< tt, lit< tt), (lit< tt, lit< tt)); handler = tt },
    (
      record { ops = (refl, (refl, (refl, (refl, (refl, (refl, tt)))))); last = (lit< tt, lit< tt, inr refl); handler = tt },
      (record { ops = tt; last = tt; handler = tt }, tt),
    ),
  ),
)

has_shape : Shape (program (sum ∷ printing [] ∷ []))
unfolding digits chars is_utf8 encode unicode_ident
has_shape =
    let fits : FuncFits (printing []) = (record { ops = (refl, (refl, (refl, (refl, (refl, (refl, tt)))))); last = tt; handler = tt }, tt) in
    record { funcs = (sum_fits, (fits, tt)); turns = ((1, refl), tt); lowered = refl }

is_well_formed : well_formed (lower summing) ≡ true
unfolding digits chars is_utf8 encode unicode_ident
is_well_formed = refl

-- a count, a target among the arguments, a result without a target, a target without a result, and what is only lent
do_not_fit : list_any op_fits (
    Dec (reg 3) ∷ Prim (Some (reg 0)) (prim.Int64 int64.Negate) (var 0 ∷ []) ∷ Prim None (prim.Int64 int64.Negate) (var 0 ∷ [])
    ∷ Prim (Some (reg 1)) (prim.Io io.Write) (var 0 ∷ [])
    ∷ Prim (Some (reg 0)) (prim.List list.GetItemBorrow) (var 1 ∷ var 2 ∷ []) ∷ []) ≡ false
do_not_fit = refl

-- a handler is a higher block, and not the block itself
handlers : HandlerFits 2 0 (Some 1) × (HandlerFits 2 1 (Some 1) → ⊥)
handlers = ((lit< tt, lit< tt), λ h. let below : 1 < 1 = h.0 in omega arith)

-- a jump back without a turn, one to block 0, and a test of a block that is not higher
jumps_back : (FuncFits round → ⊥) × (LastFits 2 1 ((Turn, 1) ∷ []) (Goto 0) → ⊥) × (LastFits 2 1 [] (If (reg 0) 1 1) → ⊥)
jumps_back = (
  λ h. ⊎_elim (λ l. omega arith) (λ e. absurd (cc)) h.1.0.last.2,
  λ h. let below : 0 < 0 = h.0 in omega arith,
  λ h. let below : 1 < 1 = h.0.0 in omega arith,
)

-- ---- all runs: the sum is fit, whatever the turns and the input are
sum_is_fit : Fit summing
unfolding digits int_wrap
sum_is_fit turns items k = by turns
  where
    ends : (t : ℕ) (e : Ending) (w : World) → steps Fitting summing 60 (start summing t items) ≡ Ended e w
        → steps Fitting summing k (start summing t items) ≢ Stuck
    ends t e w is = ended_is_calm Fitting summing 60 k (start summing t items) e w is

    cut : World
    cut = record (reading items) { turns = 0 }

    by : (t : ℕ) → steps Fitting summing k (start summing t items) ≢ Stuck
    by zero = ends 0 Cut cut refl
    by (suc zero) = ends 1 Cut cut refl
    by (suc (suc zero)) = ends 2 Cut cut refl
    by (suc (suc (suc zero))) = ends 3 Cut cut refl
    by (suc (suc (suc (suc t)))) =
        ends (suc (suc (suc (suc t)))) Done (record (reading items) { output = codes "6"; turns = t }) refl

sum_is_calm : Calm summing
sum_is_calm = fit_is_calm summing sum_is_fit

-- a module that moves an error value out of an object is not
moving_is_not_calm : Calm (alone (Move (reg 4) (reg 0) ∷ []) (Return (reg 1))) → ⊥
moving_is_not_calm calm = calm 0 Eof 1 refl
