-- Small functions with their edges, written out, and what programs of them do.
use Rattle.std.proofs.Common.{◌≡◌, refl, ℕ, zero, suc, ◌<◌, arith, lit≤, true, List, [], ◌∷◌, ◌++◌, Option, Some, None, pos, negsuc, codes}
use Rattle.std.specs.Fmt.{digits}
use Rattle.std.specs.Int.{int_wrap}
use Rattle.std.specs.Str.{chars, is_utf8}
use Rattle.std.proofs.Math.Utf8.{encode}
use Rattle.unicode_ident.proofs.Computing.{unicode_ident}
use Rattle.value_core.specs.declared.exception.ExcClass.TheVariants.{ZeroDivisionError}
use Rattle.value_core.specs.Ending.{Ending, Done, Raised, Cut}
use Rattle.value_core.specs.Exceptions.{Thrown, thrown}
use Rattle.value_core.specs.Items.{Items, Eof}
use Rattle.c_core.specs.declared.primitive.Primitive.TheVariants as prim
use Rattle.c_core.specs.declared.primitive.Int64Prim.TheVariants as int64
use Rattle.c_core.specs.declared.primitive.GlobalPrim.TheVariants as global
use Rattle.c_core.specs.declared.primitive.ErrPrim.TheVariants as err
use Rattle.c_core.specs.declared.primitive.IoPrim.TheVariants as io
use Rattle.c_core.specs.WellFormed.{well_formed}
use Rattle.ir_core.specs.declared.code.RType.TheVariants.{I64, Bool, Ref}
use Rattle.ir_core.specs.declared.code.Reg.{Reg}
use Rattle.ir_core.specs.declared.code.Lit.TheVariants.{Number, Null}
use Rattle.ir_core.specs.declared.code.PArg.{PArg}
use Rattle.ir_core.specs.declared.code.PArg.TheVariants as arg
use Rattle.ir_core.specs.declared.code.Op.{Op}
use Rattle.ir_core.specs.declared.code.Op.TheVariants.{Lit, Prim, Call, Turn}
use Rattle.ir_core.specs.declared.code.Last.{Last}
use Rattle.ir_core.specs.declared.code.Last.TheVariants.{Goto, If, IfError, Return}
use Rattle.ir_core.specs.declared.code.Block.{Block}
use Rattle.ir_core.specs.declared.code.Func.{Func}
use Rattle.ir_core.specs.declared.code.Program.{Program}
use Rattle.ir_core.specs.Rows.{Declared}
use Rattle.ir_core.specs.Meaning.{Config, Ended, Plain, Strict, Fitting, steps}
use Rattle.ir_core.specs.Effects.{World}
use Rattle.ir_core.specs.Lower.{lower}
use Rattle.ir_core.specs.Runs.{start, Calm}
use Rattle.ir_core.specs.Shape.{Shape}
use Rattle.ir_core.proofs.RunLemmas.{ended_is_calm}
use Rattle.error_edges.specs.Names.{is_taken, temporary_name, IsFirstFree}
use Rattle.error_edges.specs.Layout.{edged_blocks}
use Rattle.error_edges.specs.Edged.{IsEdged}

abbrev reg : ℕ → Reg
reg n = record { 0 = n }

abbrev var : ℕ → PArg
var n = arg.Var (reg n)

abbrev block : List (Op × ℕ) → Last → Block
block ops last = record { ops = ops; last = last; handler = None }

-- the question whether an exception is pending
abbrev occurred : ℕ → ℕ → Op × ℕ
occurred r line = (Prim (Some (reg r)) (prim.Err err.Occurred) [], line)

-- ---- a native integer's error value is a value too, so there are two tests: `return a // b`
abbrev divide : Func
divide = record {
  name = codes "f";
  params = 2;
  regs = (codes "a", I64) ∷ (codes "b", I64) ∷ (codes "r0", I64) ∷ [];
  ret = I64;
  blocks = block ((Turn, 1) ∷ (Prim (Some (reg 2)) (prim.Int64 int64.FloorDivide) (var 0 ∷ var 1 ∷ []), 2) ∷ []) (Return (reg 2)) ∷ [];
}

abbrev divided : Func
divided = record {
  name = codes "f";
  params = 2;
  regs = (codes "a", I64) ∷ (codes "b", I64) ∷ (codes "r0", I64) ∷ (codes "r1", Bool) ∷ (codes "r2", I64) ∷ [];
  ret = I64;
  blocks =
      block ((Turn, 1) ∷ (Prim (Some (reg 2)) (prim.Int64 int64.FloorDivide) (var 0 ∷ var 1 ∷ []), 2) ∷ []) (IfError (reg 2) 1 2 2)
      ∷ block (occurred 3 2 ∷ []) (If (reg 3) 3 2)
      ∷ block [] (Return (reg 2))
      ∷ block ((Lit (reg 4) (Number (negsuc 112)), 0) ∷ []) (Return (reg 4)) ∷ [];
}

first_of_one : (regs : Declared) → is_taken regs (temporary_name 0) ≡ true → (k : ℕ) → k < 1 → is_taken regs (temporary_name k) ≡ true
first_of_one regs a zero lt = a
first_of_one regs a (suc k) lt = absurd (omega (arith, lt))

first_of_two : (regs : Declared) → is_taken regs (temporary_name 0) ≡ true → is_taken regs (temporary_name 1) ≡ true → (k : ℕ) → k < 2 → is_taken regs (temporary_name k) ≡ true
first_of_two regs a b zero lt = a
first_of_two regs a b (suc zero) lt = b
first_of_two regs a b (suc (suc k)) lt = absurd (omega (arith, lt))

divide_is_edged : IsEdged divide divided
unfolding digits
divide_is_edged = record {
  name = refl;
  params = refl;
  ret = refl;
  between = (codes "a", I64) ∷ (codes "b", I64) ∷ (codes "r0", I64) ∷ (codes "r1", Bool) ∷ [];
  flag = (codes "r1", record { number = 1; is = refl; free = refl; first = first_of_one divide.regs refl }, refl);
  error = (codes "r2", record { number = 2; is = refl; free = refl; first = first_of_two ((codes "a", I64) ∷ (codes "b", I64) ∷ (codes "r0", I64) ∷ (codes "r1", Bool) ∷ []) refl refl }, refl);
  blocks = refl;
  few = lit≤ tt;
}

-- ---- a name that is taken is passed over: the first free one is `r1`
abbrev taken : Declared
taken = (codes "r2", I64) ∷ (codes "r0", I64) ∷ []

passed_over : IsFirstFree taken (codes "r1")
unfolding digits
passed_over = record { number = 1; is = refl; free = refl; first = first_of_one taken refl }

-- ---- of other results the test alone tells, and what always fails is followed by a jump: `raise`, or the answer of a call. No
-- register is needed for an answer, and the numbers behind the raise go up
abbrev raise : Func
raise = record {
  name = codes "g";
  params = 2;
  regs = (codes "b", Bool) ∷ (codes "e", Ref) ∷ (codes "r0", Bool) ∷ [];
  ret = Bool;
  blocks =
      block ((Turn, 1) ∷ []) (If (reg 0) 1 2)
      ∷ block ((Prim None (prim.Err err.SetObject) (var 1 ∷ []), 2) ∷ []) (Return (reg 0))
      ∷ block ((Call (reg 2) 0 (reg 0 ∷ reg 1 ∷ []), 3) ∷ []) (Return (reg 2)) ∷ [];
}

abbrev raised : Func
raised = record {
  name = codes "g";
  params = 2;
  regs = (codes "b", Bool) ∷ (codes "e", Ref) ∷ (codes "r0", Bool) ∷ (codes "r1", Bool) ∷ [];
  ret = Bool;
  blocks =
      block ((Turn, 1) ∷ []) (If (reg 0) 1 3)
      ∷ block ((Prim None (prim.Err err.SetObject) (var 1 ∷ []), 2) ∷ []) (Goto 5)
      ∷ block [] (Return (reg 0))
      ∷ block ((Call (reg 2) 0 (reg 0 ∷ reg 1 ∷ []), 3) ∷ []) (IfError (reg 2) 5 4 3)
      ∷ block [] (Return (reg 2))
      ∷ block ((Lit (reg 3) (Number (pos 2)), 0) ∷ []) (Return (reg 3)) ∷ [];
}

raise_is_edged : IsEdged raise raised
unfolding digits
raise_is_edged = record {
  name = refl;
  params = refl;
  ret = refl;
  between = raise.regs;
  flag = refl;
  error = (codes "r1", record { number = 1; is = refl; free = refl; first = first_of_one raise.regs refl }, refl);
  blocks = refl;
  few = lit≤ tt;
}

-- ---- a block with a handler: its edges go there, by the handler's new number, and not out of the function. Nothing leaves it, so
-- it has no exit
abbrev guarded : Func
guarded = record {
  name = codes "t";
  params = 1;
  regs = (codes "e", Ref) ∷ (codes "r0", Bool) ∷ [];
  ret = Bool;
  blocks =
      record { ops = (Turn, 1) ∷ (Call (reg 1) 0 (reg 0 ∷ []), 2) ∷ (Prim None (prim.Err err.SetObject) (var 0 ∷ []), 3) ∷ []; last = Return (reg 1); handler = Some 2 }
      ∷ block [] (Return (reg 1))
      ∷ block ((Prim (Some (reg 1)) (prim.Err err.Occurred) [], 4) ∷ []) (Return (reg 1)) ∷ [];
}

abbrev caught : Func
caught = record guarded {
  blocks =
      block ((Turn, 1) ∷ (Call (reg 1) 0 (reg 0 ∷ []), 2) ∷ []) (IfError (reg 1) 4 1 2)
      ∷ block ((Prim None (prim.Err err.SetObject) (var 0 ∷ []), 3) ∷ []) (Goto 4)
      ∷ block [] (Return (reg 1))
      ∷ block [] (Return (reg 1))
      ∷ block ((Prim (Some (reg 1)) (prim.Err err.Occurred) [], 4) ∷ []) (Return (reg 1)) ∷ [];
}

guarded_is_edged : IsEdged guarded caught
guarded_is_edged =
    record { name = refl; params = refl; ret = refl; between = guarded.regs; flag = refl; error = refl; blocks = refl; few = lit≤ tt }

-- ---- tests that stand there already are left alone: the function stays as it is
abbrev look_up : Func
look_up = record {
  name = codes "h";
  params = 0;
  regs = (codes "r0", I64) ∷ (codes "r1", I64) ∷ (codes "r2", Bool) ∷ [];
  ret = I64;
  blocks =
      block ((Turn, 1) ∷ (Prim (Some (reg 0)) (prim.Global global.Get) (arg.Global (codes "v") ∷ []), 2) ∷ []) (IfError (reg 0) 1 3 2)
      ∷ block (occurred 2 2 ∷ []) (If (reg 2) 2 3)
      ∷ block ((Lit (reg 1) (Number (negsuc 112)), 2) ∷ []) (Return (reg 1))
      ∷ block [] (Return (reg 0)) ∷ [];
}

look_up_is_edged : IsEdged look_up look_up
look_up_is_edged =
    record { name = refl; params = refl; ret = refl; between = look_up.regs; flag = refl; error = refl; blocks = refl; few = lit≤ tt }

-- but of a native integer the test of the word alone is no edge, since that is an ordinary value too
abbrev one_test : List Block
one_test =
    block ((Prim (Some (reg 0)) (prim.Global global.Get) (arg.Global (codes "v") ∷ []), 2) ∷ []) (IfError (reg 0) 1 1 2) ∷ block [] (Return (reg 0)) ∷ []

one_test_is_no_edge : edged_blocks ((codes "r0", I64) ∷ []) I64 one_test ≡
    block ((Prim (Some (reg 0)) (prim.Global global.Get) (arg.Global (codes "v") ∷ []), 2) ∷ []) (IfError (reg 0) 1 2 2)
    ∷ block (occurred 1 2 ∷ []) (If (reg 1) 4 2)
    ∷ block [] (IfError (reg 0) 3 3 2)
    ∷ block [] (Return (reg 0))
    ∷ block ((Lit (reg 2) (Number (negsuc 112)), 0) ∷ []) (Return (reg 2)) ∷ []
one_test_is_no_edge = refl

-- ---- a jump back stays behind its turn: `while True: a = a // b`, and the exit of a function that gives an object
abbrev round : Func
round = record {
  name = codes "l";
  params = 2;
  regs = (codes "a", I64) ∷ (codes "b", I64) ∷ [];
  ret = Ref;
  blocks =
      block ((Turn, 1) ∷ []) (Goto 1)
      ∷ block ((Prim (Some (reg 0)) (prim.Int64 int64.Remainder) (var 0 ∷ var 1 ∷ []), 3) ∷ (Turn, 2) ∷ []) (Goto 1) ∷ [];
}

abbrev rounds : List Block
rounds =
    block ((Turn, 1) ∷ []) (Goto 1)
    ∷ block ((Prim (Some (reg 0)) (prim.Int64 int64.Remainder) (var 0 ∷ var 1 ∷ []), 3) ∷ []) (IfError (reg 0) 2 3 3)
    ∷ block (occurred 2 3 ∷ []) (If (reg 2) 4 3)
    ∷ block ((Turn, 2) ∷ []) (Goto 1)
    ∷ block ((Lit (reg 3) Null, 0) ∷ []) (Return (reg 3)) ∷ []

rounds_are : edged_blocks round.regs round.ret round.blocks ≡ rounds
rounds_are = refl

-- ---- a module that prints a quotient
abbrev top : List (Op × ℕ) → Func
top numbers = record {
  name = codes "__top_level__";
  params = 0;
  regs = (codes "r0", I64) ∷ (codes "r1", I64) ∷ (codes "r2", I64) ∷ (codes "r3", Ref) ∷ (codes "r4", Bool) ∷ [];
  ret = Bool;
  blocks =
      block
      (numbers ++ (Call (reg 2) 0 (reg 0 ∷ reg 1 ∷ []), 4) ∷ (Prim (Some (reg 3)) (prim.Int64 int64.Str) (var 2 ∷ []), 4) ∷ (Prim None (prim.Io io.Write) (var 3 ∷ []), 4)
      ∷ (Lit (reg 4) (Number (pos 1)), 4) ∷ []) (Return (reg 4)) ∷ [];
}

abbrev edged_top : List (Op × ℕ) → Func
edged_top numbers = record {
  name = codes "__top_level__";
  params = 0;
  regs = (codes "r0", I64) ∷ (codes "r1", I64) ∷ (codes "r2", I64) ∷ (codes "r3", Ref) ∷ (codes "r4", Bool) ∷ (codes "r5", Bool) ∷ (codes "r6", Bool) ∷ [];
  ret = Bool;
  blocks =
      block (numbers ++ (Call (reg 2) 0 (reg 0 ∷ reg 1 ∷ []), 4) ∷ []) (IfError (reg 2) 1 2 4)
      ∷ block (occurred 5 4 ∷ []) (If (reg 5) 3 2)
      ∷ block
      ((Prim (Some (reg 3)) (prim.Int64 int64.Str) (var 2 ∷ []), 4) ∷ (Prim None (prim.Io io.Write) (var 3 ∷ []), 4) ∷ (Lit (reg 4) (Number (pos 1)), 4) ∷ []) (Return (reg 4))
      ∷ block ((Lit (reg 6) (Number (pos 2)), 0) ∷ []) (Return (reg 6)) ∷ [];
}

abbrev numbers : List (Op × ℕ)
numbers = (Lit (reg 0) (Number (negsuc 112)), 4) ∷ (Lit (reg 1) (Number (pos 1)), 4) ∷ []

abbrev by_zero : List (Op × ℕ)
by_zero = (Lit (reg 0) (Number (pos 7)), 4) ∷ (Lit (reg 1) (Number (pos 0)), 4) ∷ []

top_is : edged_blocks (top numbers).regs Bool (top numbers).blocks ≡ (edged_top numbers).blocks
top_is = refl

abbrev before : List (Op × ℕ) → Program
before numbers = record { globals = []; classes = []; funcs = divide ∷ top numbers ∷ [] }

abbrev after : List (Op × ℕ) → Program
after numbers = record { globals = []; classes = []; funcs = divided ∷ edged_top numbers ∷ [] }

-- how a run has ended, with its output
abbrev seen : Config → Option (Ending × List ℕ)
seen (Ended e w) = Some (e, w.output)
seen _ = None

abbrev zero_division : Thrown
zero_division = thrown ZeroDivisionError (codes "integer division or modulo by zero")

-- -113 is a value
value_before : seen (steps Plain (before numbers) 20 (start (before numbers) 1 Eof)) ≡ Some (Done, codes "-113")
unfolding digits int_wrap
value_before = refl

value_after : seen (steps Fitting (after numbers) 30 (start (after numbers) 1 Eof)) ≡ Some (Done, codes "-113")
unfolding digits int_wrap
value_after = refl

-- an exception leaves the function and the module
raised_before : seen (steps Plain (before by_zero) 20 (start (before by_zero) 1 Eof)) ≡ Some (Raised zero_division, [])
unfolding digits int_wrap
raised_before = refl

raised_after : seen (steps Fitting (after by_zero) 30 (start (after by_zero) 1 Eof)) ≡ Some (Raised zero_division, [])
unfolding digits int_wrap
raised_after = refl

cut_after : seen (steps Fitting (after by_zero) 30 (start (after by_zero) 0 Eof)) ≡ Some (Cut, [])
cut_after = refl

-- ---- what the pass asks for can be met: the module is calm, whatever the turns and the input are, and has its shape
abbrev after_turns : ℕ → Items → List ℕ → World
after_turns turns items output =
    record { store = []; globals = []; pending = None; output = output; items = items; turns = turns }

before_is_calm : Calm (before numbers)
unfolding digits int_wrap
before_is_calm zero items k =
    ended_is_calm Strict (before numbers) 20 k (start (before numbers) 0 items) Cut (after_turns 0 items []) refl
before_is_calm (suc t) items k =
    ended_is_calm Strict (before numbers) 20 k (start (before numbers) (suc t) items) Done (after_turns t items (codes "-113")) refl

before_has_shape : Shape (before numbers)
unfolding digits chars is_utf8 encode unicode_ident
before_has_shape = record {
  funcs = (
    (record { ops = (refl, (refl, tt)); last = tt; handler = tt }, tt),
    ((record { ops = (refl, (refl, (refl, (refl, (refl, (refl, tt)))))); last = tt; handler = tt }, tt), tt),
  );
  turns = ((1, refl), tt);
  lowered = refl;
}

-- the C text with edges, computed
after_is_well_formed : well_formed (lower (after numbers)) ≡ true
unfolding digits chars is_utf8 encode unicode_ident
after_is_well_formed = refl
