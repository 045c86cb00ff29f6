-- What a program of intermediate code does: a run of its blocks, in small steps. One definition serves three machines. The
-- plain one is the meaning. The strict one is stuck as well where an error value is moved out of an `int` or a reference. The
-- fitting one is strict, and stuck as well where an operation fails and what is to stand behind it does not. Of a program whose
-- C text is well formed all three are stuck where the machine of the C text would find something of the wrong kind. Counts do
-- nothing, but they too are stuck at an error value.
use Rattle.std.specs.Prelude.{ℕ, zero, suc, ◌+◌, Bool, true, false, cond, ◌&&◌, nat_eq, List, [], ◌∷◌, length, Option, Some, None, slice_get}
use Rattle.std.specs.Option.{option_and_then, option_map, option_map_or}
use Rattle.value_core.specs.Ending.{Ending, Done, Raised, Cut}
use Rattle.value_core.specs.Exceptions.{Thrown}
use Rattle.value_core.specs.Value.{Value, BoolVal, ObjVal, Object, InstObj, Store}
use Rattle.c_core.specs.declared.code.CClass.{CClass}
use Rattle.c_core.specs.declared.primitive.Primitive.{Primitive}
use Rattle.c_core.specs.declared.code.Kind.{Kind}
use Rattle.c_core.specs.declared.primitive.Primitive.TheVariants as prim
use Rattle.c_core.specs.declared.primitive.ErrPrim.TheVariants as err
use Rattle.c_core.specs.Functions.{has_kind, method_at, trait_method_at}
use Rattle.c_core.specs.Primitives.{row_of}
use Rattle.ir_core.specs.declared.code.RType.{RType}
use Rattle.ir_core.specs.declared.code.RType.TheVariants.{Int, I64, Bool as BoolType, Ref}
use Rattle.ir_core.specs.declared.code.Reg.{Reg}
use Rattle.ir_core.specs.declared.code.PArg.{PArg}
use Rattle.ir_core.specs.declared.code.PArg.TheVariants as arg
use Rattle.ir_core.specs.declared.code.Op.{Op}
use Rattle.ir_core.specs.declared.code.Op.TheVariants.{Move, Lit, Prim, Call, Virtual, TraitCall, Turn, Inc, Dec, XDec}
use Rattle.ir_core.specs.declared.code.Last.{Last}
use Rattle.ir_core.specs.declared.code.Last.TheVariants.{Goto, If, IfError, Return, Unreachable}
use Rattle.ir_core.specs.declared.code.Func.{Func}
use Rattle.ir_core.specs.declared.code.Program.{Program}
use Rattle.ir_core.specs.declared.kind.Edge.{Edge}
use Rattle.ir_core.specs.declared.kind.Edge.TheVariants.{NoEdge, Tests, TestsTwice, Jumps}
use Rattle.ir_core.specs.Items.{Item, Do, End, item_in, handler_in, blocks_of, Left, left_in}
use Rattle.ir_core.specs.Rows.{Declared, type_of_reg, edge_of_call, edge_of_prim}
use Rattle.ir_core.specs.Registers.{Held, Unset, Holds, error_of, is_unset, is_error, literal_of, Regs, put, look, first_regs}
use Rattle.ir_core.specs.Names.{function_called}
use Rattle.ir_core.specs.Lower.{kind_of_type}
use Rattle.ir_core.specs.Effects.{World, Argument, Given, Written, Effect, Wrong, Gives, Acts, Fails, Ends, IfTarget, IfWritten, effect}

-- where a function stands, and its registers
pub record Frame : Type 0 where
  pub fn : ℕ
  pub block : ℕ
  pub place : ℕ
  pub regs : Regs

-- a function that waits at a call: its frame stands at the place of the call, whose result goes into a register
pub record Waiting : Type 0 where
  pub frame : Frame
  pub into : Reg

-- a run goes on at a frame, with those that wait for it, the innermost first; it has left a function by an exception, so that
-- the caller is next; it has ended; or it is stuck
pub data Config : Type 0 where
  Runs : (f : Frame) (below : List Waiting) (w : World) → Config
  Leaves : (fn : ℕ) (below : List Waiting) (w : World) → Config
  Ended : (e : Ending) (w : World) → Config
  Stuck : Config

pub data Mode : Type 0 where
  Plain : Mode
  Strict : Mode
  Fitting : Mode

abbrev pub if_some : {A : Type 0} → Option A → (A → Config) → Config
if_some None go = Stuck
if_some (Some a) go = go a

-- only while no exception is pending
abbrev pub if_calm : Option Thrown → Config → Config
if_calm None go = go
if_calm (Some e) go = Stuck

abbrev pub next : Frame → Regs → Frame
next f regs = record f { place = f.place + 1; regs = regs }

abbrev pub to_block : Frame → ℕ → List Waiting → World → Config
to_block f k below w = Runs (record f { block = k; place = 0 }) below w

-- the frame goes on behind an operation
abbrev pub goes : Frame → List Waiting → Regs → World → Config
goes f below regs w = Runs (next f regs) below w

-- ---- what a frame reads

abbrev pub value_of : Held → Option Value
value_of Unset = None
value_of (Holds v) = Some v

-- a register that holds a value
abbrev pub read : Declared → Regs → Reg → Option Value
read declared regs r = option_and_then value_of (look declared regs r)

abbrev pub read_all : Declared → Regs → List Reg → Option (List Held)
read_all declared regs [] = Some []
read_all declared regs (r ∷ rs) =
    option_and_then (λ v. option_map (λ vs. Holds v ∷ vs) (read_all declared regs rs)) (read declared regs r)

abbrev pub argument : Declared → Regs → PArg → Option Argument
argument declared regs (arg.Var r) = option_map Given (read declared regs r)
argument declared regs a = Some (Written a)

abbrev pub arguments : Declared → Regs → List PArg → Option (List Argument)
arguments declared regs [] = Some []
arguments declared regs (a ∷ rest) =
    option_and_then (λ x. option_map (λ xs. x ∷ xs) (arguments declared regs rest)) (argument declared regs a)

-- the error value of an `int` or of a reference is not to be moved
abbrev pub is_lost : RType → Held → Bool
is_lost Int h = is_unset h
is_lost Ref h = is_unset h
is_lost _ h = false

abbrev pub is_refused : Mode → RType → Held → Bool
is_refused Plain t h = false
is_refused _ t h = is_lost t h

-- ---- calls

-- the class of an object
abbrev pub class_of_object : Option Object → Option ℕ
class_of_object (Some (InstObj class attributes)) = Some class
class_of_object _ = None

abbrev pub class_of : Store → Value → Option ℕ
class_of store (ObjVal k) = class_of_object (slice_get store k)
class_of store _ = None

abbrev pub class_name : CClass → List ℕ
class_name k = k.name

abbrev pub is_type : RType → Option RType → Bool
is_type Int (Some Int) = true
is_type I64 (Some I64) = true
is_type BoolType (Some BoolType) = true
is_type Ref (Some Ref) = true
is_type _ _ = false

-- the arguments have the types of a function's first registers
abbrev pub are_types : Declared → List Reg → Declared → Bool
are_types declared [] ds = true
are_types declared (a ∷ args) [] = false
are_types declared (a ∷ args) (d ∷ ds) = is_type d.1 (type_of_reg declared a) && are_types declared args ds

-- the function takes as many arguments, of these types, and its result fits the register that it goes into
abbrev pub is_fit : Declared → Reg → List Reg → Func → Bool
is_fit declared into args g =
    nat_eq (length args) g.params && (are_types declared args g.regs && is_type g.ret (type_of_reg declared into))

-- ---- returns

-- how a function is left: with a value and no exception, with its error value and an exception, or wrongly. The error value of
-- a native integer goes with either
pub data Way : Type 0 where
  Well : Way
  Badly : Way
  Wrongly : Way

abbrev pub way_calm : Held → Way
way_calm Unset = Wrongly
way_calm (Holds v) = Well

abbrev pub way : RType → Held → Option Thrown → Way
way t h None = way_calm h
way t h (Some e) = cond (is_error t h) Badly Wrongly

-- the module itself gives true, or its error value with an exception
abbrev pub ended_well : Held → World → Config
ended_well (Holds (BoolVal true)) w = Ended Done w
ended_well _ w = Stuck

abbrev pub raised_by : Option Thrown → World → Config
raised_by None w = Stuck
raised_by (Some e) w = Ended (Raised e) w

abbrev pub ended : Way → Held → World → Config
ended Well h w = ended_well h w
ended Badly h w = raised_by w.pending w
ended Wrongly h w = Stuck

-- ---- failures

-- the register that the answer goes into where an operation, or an item, asks whether an exception is pending
abbrev pub question_of : Op → Option Reg
question_of (Prim (Some flag) (prim.Err err.Occurred) []) = Some flag
question_of _ = None

abbrev pub question : Option Item → Option Reg
question (Some (Do o line)) = question_of o
question _ = None

-- whether an item tests that answer, and goes on at a block where there is none
abbrev pub is_answered : Option Item → ℕ → Reg → Bool
is_answered (Some (End (If r a b))) n flag = nat_eq flag.0 r.0 && nat_eq b n
is_answered _ n flag = false

-- whether two items, which are all of a block, are that second test
abbrev pub is_second_test : Option Item → Option Item → ℕ → Bool
is_second_test first second n = option_map_or (is_answered second n) (question first) false

-- whether an item tests a register for its error value, and whether it leads to that second test, among all items by block and
-- place, and both lead to the same block where nothing failed
abbrev pub is_tested : Reg → Option Item → Bool
is_tested r (Some (End (IfError s e n line))) = nat_eq r.0 s.0
is_tested r _ = false

abbrev pub is_asked : (ℕ → ℕ → Option Item) → Option Item → Bool
is_asked at (Some (End (IfError s e n line))) = is_second_test (at e 0) (at e 1) n
is_asked at _ = false

abbrev pub is_jump : Option Item → Bool
is_jump (Some (End (Goto t))) = true
is_jump _ = false

-- whether this item is what is to stand behind an operation
abbrev pub is_edge : (ℕ → ℕ → Option Item) → Edge → Option Item → Bool
is_edge at NoEdge item = false
is_edge at (Tests r) item = is_tested r item
is_edge at (TestsTwice r) item = is_tested r item && is_asked at item
is_edge at Jumps item = is_jump item

-- an operation that may fail and did not leaves no exception, and one that always fails does not get here
abbrev pub is_clear : Edge → Option Thrown → Bool
is_clear NoEdge e = true
is_clear Jumps e = false
is_clear _ None = true
is_clear _ (Some e) = false

abbrev pub unfit : Mode → Config → Config
unfit Fitting go = Stuck
unfit _ go = go

-- an exception goes to the handler, or out of the function
abbrev pub away : Option ℕ → Frame → List Waiting → World → Config
away None f below w = Leaves f.fn below w
away (Some k) f below w = to_block f k below w

-- which primitives may stand while an exception is pending
abbrev pub may_stand : Option Thrown → Primitive → Bool
may_stand None q = true
may_stand (Some e) q = (row_of q).while_pending

-- ---- attributes

-- a register has the kind of a slot; a result may be left without a target
abbrev pub has_slot_kind : Declared → Kind → Reg → Bool
has_slot_kind declared k r = has_kind k (option_map kind_of_type (type_of_reg declared r))

abbrev pub is_into : Declared → Kind → Option Reg → Bool
is_into declared k to = option_map_or (has_slot_kind declared k) to true

-- what is written to an attribute is the last of three arguments
abbrev pub is_written : Declared → Kind → List PArg → Bool
is_written declared k (o ∷ n ∷ arg.Var r ∷ []) = has_slot_kind declared k r
is_written declared k _ = false

-- what a primitive does with registers of these types
abbrev pub typed : Declared → Option Reg → List PArg → Effect → Effect
typed declared to args (IfTarget k e) = cond (is_into declared k to) e Wrong
typed declared to args (IfWritten k e) = cond (is_written declared k args) e Wrong
typed declared to args e = e

-- ---- turns, tests, and places that are never reached

abbrev pub turned : Frame → List Waiting → World → ℕ → Config
turned f below w zero = Ended Cut w
turned f below w (suc t) = goes f below f.regs (record w { turns = t })

abbrev pub chosen : RType → Held → Config → Config → Config
chosen BoolType (Holds (BoolVal true)) a b = a
chosen BoolType (Holds (BoolVal false)) a b = b
chosen _ _ a b = Stuck

-- what is not reached runs on for ever, as long as there are turns
abbrev pub halted : Option Thrown → World → Config
halted e w = if_calm e (Ended Cut w)

-- ---- a program

abbrev pub declared_of : Option Func → Declared
declared_of None = []
declared_of (Some g) = g.regs

module _ (p : Program) where
  abbrev pub registers_of : ℕ → Declared
  registers_of fn = declared_of (slice_get p.funcs fn)

  -- the item at a function, block and place, what is left of the block there, and the block's handler
  abbrev pub item_at : ℕ → ℕ → ℕ → Option Item
  item_at fn k i = item_in (blocks_of (slice_get p.funcs fn)) k i

  abbrev pub left_at : ℕ → ℕ → ℕ → Option Left
  left_at fn k i = left_in (blocks_of (slice_get p.funcs fn)) k i

  abbrev pub handler_at : ℕ → ℕ → Option ℕ
  handler_at fn k = handler_in (blocks_of (slice_get p.funcs fn)) k

  -- a declared register of a function is written, with a value or with its error value
  abbrev pub write : ℕ → Regs → Reg → Held → (Regs → Config) → Config
  write fn regs r h go = if_some (type_of_reg (registers_of fn) r) (λ t. go (put regs r.0 h))

  abbrev pub write_error : ℕ → Regs → Option Reg → (Regs → Config) → Config
  write_error fn regs None go = go regs
  write_error fn regs (Some r) go = if_some (type_of_reg (registers_of fn) r) (λ t. go (put regs r.0 (error_of t)))

  -- the callee of a call of a method, by the object's class
  abbrev pub method_of : World → Value → (CClass → Option (List ℕ)) → Option ℕ
  method_of w v entry =
      option_and_then (function_called p) (option_and_then (λ c. option_and_then entry (slice_get p.classes c)) (class_of w.store v))

  abbrev pub trait_name : ℕ → Option (List ℕ)
  trait_name t = option_map class_name (slice_get p.classes t)

  -- a function is called
  abbrev pub enters : Reg → List Reg → Frame → List Waiting → World → ℕ → Config
  enters r args f below w g =
      if_some (slice_get p.funcs g) (λ h. if_some (read_all (registers_of f.fn) f.regs args) (λ xs. cond (is_fit (registers_of f.fn) r args h) (Runs (record { fn = g; block = 0; place = 0; regs = first_regs h.regs xs }) (record { frame = f; into = r } ∷ below) w) Stuck))

  abbrev pub calls : Reg → List Reg → Frame → List Waiting → World → Option ℕ → Config
  calls r args f below w g = if_calm w.pending (if_some g (enters r args f below w))

  abbrev pub calls_method : Reg → Reg → List Reg → Frame → List Waiting → World → (CClass → Option (List ℕ)) → Config
  calls_method r o args f below w entry =
      if_some (read (registers_of f.fn) f.regs o) (λ v. calls r (o ∷ args) f below w (method_of w v entry))

module _ (mode : Mode) (p : Program) where
  -- an operation failed, its frame stands behind it, and the exception is pending
  abbrev pub failed : Edge → Frame → List Waiting → World → Config
  failed NoEdge f below w = Stuck
  failed e f below w =
      cond (is_edge (item_at p f.fn) e (item_at p f.fn f.block f.place)) (Runs f below w) (unfit mode (away (handler_at p f.fn f.block) f below w))

  -- and one did not
  abbrev pub succeeds : Edge → Frame → List Waiting → Regs → World → Config
  succeeds e f below regs w = cond (is_clear e w.pending) (goes f below regs w) Stuck

  abbrev pub applied : Edge → Option Reg → Frame → List Waiting → Effect → Config
  applied e to f below Wrong = Stuck
  applied e (Some r) f below (Gives v w) = write p f.fn f.regs r (Holds v) (λ regs. succeeds e f below regs w)
  applied e None f below (Gives v w) = Stuck
  applied e (Some r) f below (Acts w) = Stuck
  applied e None f below (Acts w) = succeeds e f below f.regs w
  applied e to f below (Fails x w) =
      write_error p f.fn f.regs to (λ regs. failed e (next f regs) below (record w { pending = Some x }))
  applied e to f below (Ends x w) = Ended x w
  applied e to f below (IfTarget k x) = Stuck
  applied e to f below (IfWritten k x) = Stuck

  -- a function was left: its caller goes on behind the call, or the run ends
  abbrev pub returned : Way → Held → List Waiting → World → Config
  returned way h [] w = ended way h w
  returned Well h (c ∷ below) w = write p c.frame.fn c.frame.regs c.into h (λ regs. goes c.frame below regs w)
  returned Badly h (c ∷ below) w =
      write_error p c.frame.fn c.frame.regs (Some c.into) (λ regs. failed (edge_of_call (registers_of p c.frame.fn) c.into) (next c.frame regs) below w)
  returned Wrongly h (c ∷ below) w = Stuck

  abbrev pub leave : RType → Held → List Waiting → World → Config
  leave t h below w = returned (way t h w.pending) h below w

  abbrev pub do_op : Op → Frame → List Waiting → World → Config
  do_op (Move r s) f below w =
      if_some (type_of_reg (registers_of p f.fn) s) (λ t. cond (is_refused mode t (f.regs s.0)) Stuck (write p f.fn f.regs r (f.regs s.0) (λ regs. goes f below regs w)))
  do_op (Lit r l) f below w =
      if_some (type_of_reg (registers_of p f.fn) r) (λ t. if_some (literal_of t l) (λ h. goes f below (put f.regs r.0 h) w))
  do_op (Prim to q args) f below w =
      cond (may_stand w.pending q) (if_some (arguments (registers_of p f.fn) f.regs args) (λ xs. applied (edge_of_prim (registers_of p f.fn) to q) to f below (typed (registers_of p f.fn) to args (effect p q xs w)))) Stuck
  do_op (Call r g args) f below w = calls p r args f below w (Some g)
  do_op (Virtual r o n args) f below w = calls_method p r o args f below w (method_at n)
  do_op (TraitCall r o t n args) f below w =
      if_some (trait_name p t) (λ name. calls_method p r o args f below w (trait_method_at name n))
  do_op Turn f below w = if_calm w.pending (turned f below w w.turns)
  do_op (Inc r) f below w = if_some (read (registers_of p f.fn) f.regs r) (λ v. goes f below f.regs w)
  do_op (Dec r) f below w = if_some (read (registers_of p f.fn) f.regs r) (λ v. goes f below f.regs w)
  do_op (XDec r) f below w = if_some (look (registers_of p f.fn) f.regs r) (λ h. goes f below f.regs w)

  abbrev pub do_last : Last → Frame → List Waiting → World → Config
  do_last (Goto k) f below w = to_block f k below w
  do_last (If r a b) f below w =
      if_some (type_of_reg (registers_of p f.fn) r) (λ t. chosen t (f.regs r.0) (to_block f a below w) (to_block f b below w))
  do_last (IfError r e n line) f below w =
      if_some (type_of_reg (registers_of p f.fn) r) (λ t. cond (is_error t (f.regs r.0)) (to_block f e below w) (to_block f n below w))
  do_last (Return r) f below w =
      if_some (slice_get p.funcs f.fn) (λ g. if_some (look g.regs f.regs r) (λ h. leave g.ret h below w))
  do_last Unreachable f below w = halted w.pending w

  abbrev pub act : Option Item → Frame → List Waiting → World → Config
  act None f below w = Stuck
  act (Some (Do o line)) f below w = do_op o f below w
  act (Some (End l)) f below w = do_last l f below w

  abbrev pub step : Config → Config
  step (Runs f below w) = act (item_at p f.fn f.block f.place) f below w
  step (Leaves fn below w) = if_some (slice_get p.funcs fn) (λ g. leave g.ret (error_of g.ret) below w)
  step (Ended e w) = Ended e w
  step Stuck = Stuck

  abbrev pub steps : ℕ → Config → Config
  steps zero c = c
  steps (suc n) c = steps n (step c)
