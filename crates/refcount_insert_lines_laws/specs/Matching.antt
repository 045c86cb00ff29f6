-- When the words of a machine are what the registers of a program hold.
use Rattle.std.specs.Prelude.{◌≡◌, ℕ, ℤ, Bool, true, false, List, [], ◌∷◌, length, map, Option, Some, None, slice_get}
use Rattle.value_core.specs.Exceptions.{Thrown}
use Rattle.value_core.specs.Value.{Value, IntVal, BoolVal, NoneVal, StrVal, TupleVal, ExcVal, ObjVal, Values, no_values, value_then, Object, ListObj, DictObj, InstObj, Store}
use Rattle.c_core.specs.declared.code.Kind.{Kind}
use Rattle.c_core.specs.declared.code.Kind.TheVariants.{Tagged, Int64, Char, Object as ObjectKind}
use Rattle.c_core.specs.declared.code.CClass.{CClass}
use Rattle.c_core.specs.declared.code.CFunc.{CFunc}
use Rattle.c_core.specs.declared.code.Code.{Code}
use Rattle.c_core.specs.Cells.{content_at}
use Rattle.c_core.specs.Machine.{Word, ShortInt, BigInt, TaggedError, Native, CharWord, ObjectCell, NoneObject, TrueObject, FalseObject, NoObject, Content, IntCell, StrCell, ListCell, DictCell, TupleCell, InstCell, ExcCell, is_object, MachineState}
use Rattle.c_core.specs.Stands.{IsLive}
use Rattle.ir_core.specs.declared.code.RType.{RType}
use Rattle.ir_core.specs.declared.code.RType.TheVariants.{Int, I64, Bool as BoolType, Ref}
use Rattle.ir_core.specs.declared.code.Func.{Func}
use Rattle.ir_core.specs.declared.code.Program.{Program}
use Rattle.ir_core.specs.Registers.{Held, Unset, Holds, Regs}
use Rattle.ir_core.specs.Rows.{Declared}
use Rattle.ir_core.specs.Effects.{World}
use Rattle.ir_core.specs.Meaning.{Frame}
use Rattle.ir_core.specs.Lower.{kind_of_type, variable_of, global_of, name_in}

-- the type of a kind, and a slot of a class with its type
abbrev pub type_in : Kind → RType
type_in Tagged = Int
type_in Int64 = I64
type_in Char = BoolType
type_in ObjectKind = Ref

abbrev pub slot_typed : List ℕ × Kind → List ℕ × RType
slot_typed a = (a.0, type_in a.1)

-- a truth as an object
abbrev pub truth_object : Bool → Word
truth_object true = TrueObject
truth_object false = FalseObject

module _ (s : MachineState) where
  -- A word of the kind of objects stands for a value. A truth and None have no cell; a number, a text, a tuple and an exception stand
  -- in a cell that never changes, an object of the store in the one that was made for it.
  abbrev mutual
    pub Boxed : Value → Word → Type 0
    Boxed (IntVal n) y = (c : ℕ) × (y ≡ ObjectCell c) × IsLive s c (IntCell n)
    Boxed (BoolVal b) y = y ≡ truth_object b
    Boxed NoneVal y = y ≡ NoneObject
    Boxed (StrVal t) y = (c : ℕ) × (y ≡ ObjectCell c) × IsLive s c (StrCell t)
    Boxed (TupleVal parts) y = (c : ℕ) × (y ≡ ObjectCell c) × ((ys : List Word) × IsLive s c (TupleCell ys) × PartsBoxed parts ys)
    Boxed (ExcVal e) y = (c : ℕ) × (y ≡ ObjectCell c) × IsLive s c (ExcCell e)
    Boxed (ObjVal k) y = (c : ℕ) × (y ≡ ObjectCell c) × (slice_get s.made k ≡ Some c) × ((x : Content) × IsLive s c x)

    pub PartsBoxed : Values → List Word → Type 0
    PartsBoxed no_values [] = Unit {0}
    PartsBoxed no_values (y ∷ ys) = ⊥
    PartsBoxed (value_then v vs) [] = ⊥
    PartsBoxed (value_then v vs) (y ∷ ys) = Boxed v y × PartsBoxed vs ys

  abbrev pub AllBoxed : List Value → List Word → Type 0
  AllBoxed [] [] = Unit {0}
  AllBoxed (v ∷ vs) (y ∷ ys) = Boxed v y × AllBoxed vs ys
  AllBoxed _ _ = ⊥

  abbrev pub PairsBoxed : List (Value × Value) → List (Word × Word) → Type 0
  PairsBoxed [] [] = Unit {0}
  PairsBoxed (p ∷ ps) (q ∷ qs) = Boxed p.0 q.0 × Boxed p.1 q.1 × PairsBoxed ps qs
  PairsBoxed _ _ = ⊥

  -- a word of the kind of a type is what a register of the type holds
  pub data Fits : RType → Held → Word → Type 0 where
    tagged_error : Fits Int Unset TaggedError
    short : (n : ℤ) → Fits Int (Holds (IntVal n)) (ShortInt n)
    big : (n : ℤ) (c : ℕ) → IsLive s c (IntCell n) → Fits Int (Holds (IntVal n)) (BigInt c)
    native : (n : ℤ) → Fits I64 (Holds (IntVal n)) (Native n)
    char_error : Fits BoolType Unset (CharWord 2)
    char_true : Fits BoolType (Holds (BoolVal true)) (CharWord 1)
    char_false : Fits BoolType (Holds (BoolVal false)) (CharWord 0)
    no_object : Fits Ref Unset NoObject
    boxed : (v : Value) (y : Word) → Boxed v y → Fits Ref (Holds v) y

  -- places of declared types, as the globals of a program or the slots of an instance: each is unset in both, or its word is its value
  abbrev pub PlacesFit : Declared → List (Option Value) → List (Option Word) → Type 0
  PlacesFit [] [] [] = Unit {0}
  PlacesFit (g ∷ gs) (None ∷ vs) (None ∷ ws) = PlacesFit gs vs ws
  PlacesFit (g ∷ gs) (Some v ∷ vs) (Some w ∷ ws) = Fits g.1 (Holds v) w × PlacesFit gs vs ws
  PlacesFit _ _ _ = ⊥

  -- the attributes of an instance of a class
  abbrev pub AttributesFit : Option CClass → List (Option Value) → List (Option Word) → Type 0
  AttributesFit None attributes words = ⊥
  AttributesFit (Some k) attributes words = PlacesFit (map slot_typed k.attrs) attributes words

  -- where these are the classes, a content is an object's
  module _ (classes : List CClass) where
    abbrev pub ObjectFits : Object → Content → Type 0
    ObjectFits (ListObj items) (ListCell words) = AllBoxed items words
    ObjectFits (DictObj pairs) (DictCell words) = PairsBoxed pairs words
    ObjectFits (InstObj class attributes) (InstCell number words) =
        (class ≡ number) × AttributesFit (slice_get classes class) attributes words
    ObjectFits _ _ = ⊥

    -- an object of the store is in the cell that was made as the k-th
    pub record ObjectAt (o : Object) (k : ℕ) : Type 0 where
      pub c : ℕ
      pub made : slice_get s.made k ≡ Some c
      pub content : Content
      pub live : IsLive s c content
      pub fits : ObjectFits o content

    -- In a run without tests of ownership no cell ever goes, so each object that was ever made is there, in a cell of its own.
    pub record StoreFits (store : Store) : Type 0 where
      pub size : length s.made ≡ length store
      pub objects : (k : ℕ) (o : Object) → slice_get store k ≡ Some o → ObjectAt o k
      pub apart : (j k c : ℕ) → slice_get s.made j ≡ Some c → slice_get s.made k ≡ Some c → j ≡ k

  -- the variables of a frame are the registers
  pub record RegsFit (declared : Declared) (regs : Regs) (words : List Word) : Type 0 where
    pub size : length words ≡ length declared
    pub fit : (r : ℕ) (d : List ℕ × RType) → slice_get declared r ≡ Some d → (w : Word) × (slice_get words r ≡ Some w) × Fits d.1 (regs r) w

  -- the pending exceptions
  abbrev pub PendingFits : Option Thrown → Option ℕ → Type 0
  PendingFits None None = Unit {0}
  PendingFits (Some e) (Some c) = IsLive s c (ExcCell e)
  PendingFits _ _ = ⊥

-- the cells that are live in the first state are live in the second, with the same content
pub record Keeps (s t : MachineState) : Type 0 where
  pub contents : (c : ℕ) (v : Content) → content_at s.cells c ≡ Some v → content_at t.cells c ≡ Some v

-- What is live in the first state is live in the second, with the same content where it is no object, and an object that was made stays in
-- its cell. In a run without tests of ownership no cell ever goes.
pub record Grows (s t : MachineState) : Type 0 where
  pub keeps : (c : ℕ) (v : Content) → is_object v ≡ false → content_at s.cells c ≡ Some v → content_at t.cells c ≡ Some v
  pub lives : (c : ℕ) (v : Content) → content_at s.cells c ≡ Some v → (x : Content) × (content_at t.cells c ≡ Some x)
  pub makes : (k c : ℕ) → slice_get s.made k ≡ Some c → slice_get t.made k ≡ Some c

-- a state has what a program has beside its registers
pub record WorldFits (p : Program) (w : World) (s : MachineState) : Type 0 where
  pub output : s.output ≡ w.output
  pub turns : s.turns ≡ w.turns
  pub items : s.items ≡ w.items
  pub store : StoreFits s p.classes w.store
  pub globals : PlacesFit s p.globals w.globals s.globals
  pub pending : PendingFits s w.pending s.pending

-- the functions of a code have the heads of a program's, and its globals and classes are the program's
pub record HasHead (p : Program) (code : Code) (n : ℕ) (f : Func) : Type 0 where
  pub g : CFunc
  pub there : slice_get code.funcs n ≡ Some g
  pub name : g.name ≡ name_in p n f
  pub params : g.params ≡ f.params
  pub ret : g.ret ≡ kind_of_type f.ret
  pub vars : g.vars ≡ map variable_of f.regs

pub record HasHeads (p : Program) (code : Code) : Type 0 where
  pub globals : code.globals ≡ map global_of p.globals
  pub classes : code.classes ≡ p.classes
  pub count : length code.funcs ≡ length p.funcs
  pub funcs : (n : ℕ) (f : Func) → slice_get p.funcs n ≡ Some f → HasHead p code n f

-- in a state a frame of the program runs: it has its function and its registers, and the world
pub record RunsIn (p : Program) (f : Frame) (w : World) (s : MachineState) : Type 0 where
  pub func : Func
  pub there : slice_get p.funcs f.fn ≡ Some func
  pub same : s.top.func ≡ f.fn
  pub regs : RegsFit s func.regs f.regs s.top.vars
  pub world : WorldFits p w s
