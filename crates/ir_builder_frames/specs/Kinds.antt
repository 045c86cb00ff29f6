-- When what a builder holds fits the registers of its function: each operation and each end has registers of the types that it asks
-- for. None of them counts references.
use Rattle.std.specs.Prelude.{◌≡◌, ◌≤◌, ◌⊎◌, ℕ, true, List, [], ◌∷◌, ◌++◌, length, Some, None, is_some, slice_get, codes, decimal}
use Rattle.std.specs.Str.{is_utf8}
use Rattle.value_core.specs.Arithmetic.{lies_within}
use Rattle.c_core.specs.declared.primitive.Primitive.{Primitive}
use Rattle.c_core.specs.declared.primitive.Primitive.TheVariants as prim
use Rattle.c_core.specs.declared.primitive.GlobalPrim.TheVariants as global
use Rattle.c_core.specs.declared.code.Kind.{Kind}
use Rattle.c_core.specs.Primitives.{Is, Parameter, Borrows, Steals, MaySteal, TakesNumber, TakesText, TakesDecimal, Nothing, Owned, may_end, row_of}
use Rattle.c_core.specs.Strings.{is_long_decimal}
use Rattle.ir_core.specs.declared.code.RType.{RType}
use Rattle.ir_core.specs.declared.code.RType.TheVariants as rtype
use Rattle.ir_core.specs.declared.code.Lit.{Lit as Literal}
use Rattle.ir_core.specs.declared.code.Lit.TheVariants.{Number}
use Rattle.ir_core.specs.declared.code.Reg.{Reg}
use Rattle.ir_core.specs.declared.code.PArg.{PArg}
use Rattle.ir_core.specs.declared.code.PArg.TheVariants as arg
use Rattle.ir_core.specs.declared.code.Op.{Op}
use Rattle.ir_core.specs.declared.code.Op.TheVariants.{Move, Lit, Prim, Call, Virtual, TraitCall, Turn, Inc, Dec, XDec}
use Rattle.ir_core.specs.declared.code.Last.{Last}
use Rattle.ir_core.specs.declared.code.Last.TheVariants.{Goto, If, IfError, Return, Unreachable}
use Rattle.ir_core.specs.declared.code.Block.{Block}
use Rattle.ir_core.specs.Lower.{kind_of_type}
use Rattle.ir_core.specs.Registers.{literal_of}
use Rattle.ir_core.specs.Rows.{Declared, type_of_reg}
use Rattle.ir_builder_frames.specs.Building.{Building}
use Rattle.ir_builder_frames.specs.Among.{FunctionType, Surrounding}

-- the name of a register that no variable has, by its number among these
abbrev pub temporary_name : ℕ → List ℕ
temporary_name k = codes "r" ++ decimal k

-- ---- operations

module _ (regs : Declared) where
  abbrev pub IsOf : Reg → RType → Type 0
  IsOf r t = type_of_reg regs r ≡ Some t

  -- a register of a kind
  pub record IsOfKind (r : Reg) (k : Kind) : Type 0 where
    pub type : RType
    pub is : IsOf r type
    pub same : kind_of_type type ≡ k

  -- arguments for the parameters of a primitive: registers of its kinds, which it borrows or takes over, of which the last may
  -- be missing; numbers in the range of an `i64`; and texts, among them the decimals of `int`s that are not short
  abbrev pub AreArguments : List Parameter → List PArg → Type 0
  AreArguments [] [] = Unit {0}
  AreArguments (Borrows (Is k) h ∷ ps) (arg.Var r ∷ rest) = IsOfKind r k × AreArguments ps rest
  AreArguments (Steals (Is k) h ∷ ps) (arg.Var r ∷ rest) = IsOfKind r k × AreArguments ps rest
  AreArguments (MaySteal (Is k) h ∷ ps) (arg.Var r ∷ rest) = IsOfKind r k × AreArguments ps rest
  AreArguments (MaySteal k h ∷ ps) [] = may_end ps ≡ true
  AreArguments (TakesNumber ∷ ps) (arg.Number n ∷ rest) = (lies_within 63 n ≡ true) × AreArguments ps rest
  AreArguments (TakesText ∷ ps) (arg.Text text ∷ rest) = (is_utf8 text ≡ true) × AreArguments ps rest
  AreArguments (TakesDecimal ∷ ps) (arg.Text text ∷ rest) =
      (is_utf8 text ≡ true) × (is_long_decimal text ≡ true) × AreArguments ps rest
  AreArguments ps args = ⊥

  -- registers with arguments of these types
  abbrev pub Take : List RType → List Reg → Type 0
  Take [] [] = Unit {0}
  Take (t ∷ ts) (r ∷ rs) = IsOf r t × Take ts rs
  Take ts rs = ⊥

-- both registers have one type
abbrev pub AreAlike : Declared → Reg → Reg → Type 0
AreAlike regs r s = (t : RType) × IsOf regs r t × IsOf regs s t

-- what a primitive answers of arguments is of a type
abbrev pub Answers : RType → Declared → Primitive → List PArg → Type 0
Answers t regs q args =
    ((row_of q).outcome ≡ Owned (Is (kind_of_type t))) × AreArguments regs (row_of q).parameters args

-- a primitive answers nothing
abbrev pub Reports : Declared → Primitive → List PArg → Type 0
Reports regs q args = ((row_of q).outcome ≡ Nothing) × AreArguments regs (row_of q).parameters args

-- a global of this name and type is there
abbrev pub IsGlobal : Surrounding → List ℕ → RType → Type 0
IsGlobal g name t = (n : ℕ) × (slice_get g.globals n ≡ Some (name, t))

-- a read of a global of a type, and a write of a register of its type to one
pub record ReadsGlobal (g : Surrounding) (t : RType) (q : Primitive) (args : List PArg) : Type 0 where
  pub name : List ℕ
  pub reads : q ≡ prim.Global global.Get
  pub named : args ≡ arg.Global name ∷ []
  pub there : IsGlobal g name t

pub record WritesGlobal (g : Surrounding) (regs : Declared) (q : Primitive) (args : List PArg) : Type 0 where
  pub name : List ℕ
  pub from : Reg
  pub type : RType
  pub writes : q ≡ prim.Global global.Set
  pub named : args ≡ arg.Global name ∷ arg.Var from ∷ []
  pub there : IsGlobal g name type
  pub holds : IsOf regs from type

-- a function that may be called takes registers and gives a result of a type
abbrev pub Calls : Surrounding → RType → Declared → ℕ → List Reg → Type 0
Calls g t regs n args = (h : FunctionType) × (slice_get g.heads n ≡ Some h) × (h.ret ≡ t) × Take regs h.params args

-- a literal is one of a type, and in the range of an `i64`
abbrev pub LiteralFits : RType → Literal → Type 0
LiteralFits t (Number n) = (is_some (literal_of t (Number n)) ≡ true) × (lies_within 63 n ≡ true)
LiteralFits t l = is_some (literal_of t l) ≡ true

module _ (g : Surrounding) (regs : Declared) where
  abbrev pub OpKinds : Op → Type 0
  OpKinds (Move r s) = AreAlike regs r s
  OpKinds (Lit r l) = (t : RType) × IsOf regs r t × LiteralFits t l
  OpKinds (Prim None q args) = Reports regs q args ⊎ WritesGlobal g regs q args
  OpKinds (Prim (Some r) q args) =
      (t : RType) × IsOf regs r t × (Answers t regs q args ⊎ ReadsGlobal g t q args)
  OpKinds (Call r n args) = (t : RType) × IsOf regs r t × Calls g t regs n args
  OpKinds (Virtual r o n args) = ⊥
  OpKinds (TraitCall r o t n args) = ⊥
  OpKinds Turn = Unit {0}
  OpKinds (Inc r) = ⊥
  OpKinds (Dec r) = ⊥
  OpKinds (XDec r) = ⊥

  abbrev pub OpsKinds : List (Op × ℕ) → Type 0
  OpsKinds [] = Unit {0}
  OpsKinds (o ∷ os) = OpKinds o.0 × OpsKinds os

  abbrev pub LastKinds : Last → Type 0
  LastKinds (Goto t) = Unit {0}
  LastKinds (If r a b) = IsOf regs r rtype.Bool
  LastKinds (IfError r a b line) = (t : RType) × IsOf regs r t
  LastKinds (Return r) = IsOf regs r g.ret
  LastKinds Unreachable = Unit {0}

  abbrev pub BlocksKinds : List Block → Type 0
  BlocksKinds [] = Unit {0}
  BlocksKinds (b ∷ bs) = OpsKinds b.ops × LastKinds b.last × BlocksKinds bs

-- what a builder holds fits its registers; those that no variable has are temporary ones
pub record HasKinds (g : Surrounding) (b : Building) : Type 0 where
  pub variables : g.variables ≤ length b.regs
  pub named : (i : ℕ) (d : List ℕ × RType) → g.variables ≤ i → slice_get b.regs i ≡ Some d → (k : ℕ) × (d.0 ≡ temporary_name k)
  pub blocks : BlocksKinds g b.regs b.blocks
  pub ops : OpsKinds g b.regs b.ops
