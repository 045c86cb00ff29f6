-- Operations and ends fit their registers where there are more of them, and behind others.
use Rattle.ir_builder_frames.proofs.Common.{◌≡◌, ℕ, zero, suc, List, [], ◌∷◌, ◌++◌, Some, None, ◌⊎◌, inl, inr, slice_get, Primitive, Is, Parameter, Borrows, Steals, MaySteal, TakesNumber, TakesText, TakesDecimal, RType, Reg, PArg, Op, Move, Lit, Prim, Call, Virtual, TraitCall, Turn, Inc, Dec, XDec, Last, Goto, If, IfError, Return, Unreachable, Block, Declared, Building, with_last, Extends, Declares, Surrounding, IsOf, IsOfKind, AreArguments, Take, Answers, Reports, ReadsGlobal, WritesGlobal, Calls, LiteralFits, OpKinds, OpsKinds, LastKinds, BlocksKinds}
use Rattle.ir_core.specs.declared.code.RType.TheVariants as rtype
use Rattle.ir_core.specs.declared.code.Lit.{Lit as Literal}
use Rattle.ir_core.specs.declared.code.PArg.TheVariants as arg
use Rattle.c_core.specs.declared.code.Kind.{Kind}
use Rattle.ir_builder_frames.proofs.HeldLemmas.{type_kept}

-- ---- more registers

-- the registers of the first list are in the second, with their types
abbrev pub HasMore : Declared → Declared → Type 0
HasMore regs more = (r : Reg) (t : RType) → IsOf regs r t → IsOf more r t

pub extends_more : (b c : Building) → Extends b c → HasMore b.regs c.regs
extends_more b c x r t e = type_kept b c r.0 t x e

module _ (regs more : Declared) (up : HasMore regs more) where
  of_kind_more : (r : Reg) (k : Kind) → IsOfKind regs r k → IsOfKind more r k
  of_kind_more r k h = record { type = h.type; is = up r h.type h.is; same = h.same }

  pub arguments_more : (ps : List Parameter) (args : List PArg) → AreArguments regs ps args → AreArguments more ps args
  arguments_more [] [] h = tt
  arguments_more (Borrows (Is k) holding ∷ ps) (arg.Var r ∷ rest) h = (of_kind_more r k h.0, arguments_more ps rest h.1)
  arguments_more (Steals (Is k) holding ∷ ps) (arg.Var r ∷ rest) h = (of_kind_more r k h.0, arguments_more ps rest h.1)
  arguments_more (MaySteal (Is k) holding ∷ ps) (arg.Var r ∷ rest) h = (of_kind_more r k h.0, arguments_more ps rest h.1)
  arguments_more (MaySteal k holding ∷ ps) [] h = h
  arguments_more (TakesNumber ∷ ps) (arg.Number n ∷ rest) h = (h.0, arguments_more ps rest h.1)
  arguments_more (TakesText ∷ ps) (arg.Text text ∷ rest) h = (h.0, arguments_more ps rest h.1)
  arguments_more (TakesDecimal ∷ ps) (arg.Text text ∷ rest) h = (h.0, h.1, arguments_more ps rest h.2)
  arguments_more ps args h = absurd h

  pub registers_more : (ts : List RType) (rs : List Reg) → Take regs ts rs → Take more ts rs
  registers_more [] [] h = tt
  registers_more (t ∷ ts) (r ∷ rs) h = (up r t h.0, registers_more ts rs h.1)
  registers_more [] (r ∷ rs) h = absurd h
  registers_more (t ∷ ts) [] h = absurd h

  pub answers_more : (t : RType) (q : Primitive) (args : List PArg) → Answers t regs q args → Answers t more q args
  answers_more t q args h = (h.0, arguments_more _ args h.1)

  module _ (g : Surrounding) where
    pub calls_more : (t : RType) (n : ℕ) (args : List Reg) → Calls g t regs n args → Calls g t more n args
    calls_more t n args h = (h.0, h.1, h.2, registers_more h.0.params args h.3)

    pub writes_more : (q : Primitive) (args : List PArg) → WritesGlobal g regs q args → WritesGlobal g more q args
    writes_more q args w = record { name = w.name; from = w.from; type = w.type; writes = w.writes; named = w.named; there = w.there; holds = up w.from w.type w.holds }

    pub reads_more : (t : RType) (q : Primitive) (args : List PArg) → (Answers t regs q args ⊎ ReadsGlobal g t q args) → (Answers t more q args ⊎ ReadsGlobal g t q args)
    reads_more t q args (inl a) = inl (answers_more t q args a)
    reads_more t q args (inr r) = inr r

    pub acts_more : (q : Primitive) (args : List PArg) → (Reports regs q args ⊎ WritesGlobal g regs q args) → (Reports more q args ⊎ WritesGlobal g more q args)
    acts_more q args (inl a) = inl (a.0, arguments_more _ args a.1)
    acts_more q args (inr w) = inr (writes_more q args w)

    pub op_more : (o : Op) → OpKinds g regs o → OpKinds g more o
    op_more (Move r s) h = (h.0, up r h.0 h.1, up s h.0 h.2)
    op_more (Lit r l) h = (h.0, up r h.0 h.1, h.2)
    op_more (Prim None q args) h = acts_more q args h
    op_more (Prim (Some r) q args) h = (h.0, up r h.0 h.1, reads_more h.0 q args h.2)
    op_more (Call r n args) h = (h.0, up r h.0 h.1, calls_more h.0 n args h.2)
    op_more (Virtual r o n args) h = absurd h
    op_more (TraitCall r o t n args) h = absurd h
    op_more Turn h = tt
    op_more (Inc r) h = absurd h
    op_more (Dec r) h = absurd h
    op_more (XDec r) h = absurd h

    pub ops_more : (os : List (Op × ℕ)) → OpsKinds g regs os → OpsKinds g more os
    ops_more [] h = tt
    ops_more (o ∷ os) h = (op_more o.0 h.0, ops_more os h.1)

    pub last_more : (l : Last) → LastKinds g regs l → LastKinds g more l
    last_more (Goto t) h = tt
    last_more (If r a b) h = up r rtype.Bool h
    last_more (IfError r a b line) h = (h.0, up r h.0 h.1)
    last_more (Return r) h = up r g.ret h
    last_more Unreachable h = tt

    pub blocks_more : (bs : List Block) → BlocksKinds g regs bs → BlocksKinds g more bs
    blocks_more [] h = tt
    blocks_more (b ∷ bs) h = (ops_more b.ops h.0, last_more b.last h.1, blocks_more bs h.2)

-- ---- operations and blocks behind others

module _ (g : Surrounding) (regs : Declared) where
  pub ops_behind : (os : List (Op × ℕ)) (o : Op × ℕ) → OpKinds g regs o.0 → OpsKinds g regs os → OpsKinds g regs (os ++ o ∷ [])
  ops_behind [] o k h = (k, tt)
  ops_behind (x ∷ os) o k h = (h.0, ops_behind os o k h.1)

  pub blocks_behind : (bs : List Block) (b : Block) → OpsKinds g regs b.ops → LastKinds g regs b.last → BlocksKinds g regs bs → BlocksKinds g regs (bs ++ b ∷ [])
  blocks_behind [] b o l h = (o, l, tt)
  blocks_behind (x ∷ bs) b o l h = (h.0, h.1, blocks_behind bs b o l h.2)

  pub blocks_last : (bs : List Block) (k : ℕ) (l : Last) → LastKinds g regs l → BlocksKinds g regs bs → BlocksKinds g regs (with_last bs k l)
  blocks_last [] k l f h = tt
  blocks_last (b ∷ bs) zero l f h = (h.0, f, h.2)
  blocks_last (b ∷ bs) (suc k) l f h = (h.0, h.1, blocks_last bs k l f h.2)

pub get_behind : {A : Type 0} (xs : List A) (x d : A) (i : ℕ) → slice_get (xs ++ x ∷ []) i ≡ Some d → (slice_get xs i ≡ Some d) ⊎ (d ≡ x)
get_behind [] x d zero e = let f : Some x ≡ Some d = e in inr (cc)
get_behind [] x d (suc i) e = let f : None ≡ Some d = e in absurd (cc)
get_behind (y ∷ xs) x d zero e = inl e
get_behind (y ∷ xs) x d (suc i) e = get_behind xs x d i e

-- ---- operations with a register of their own

pub literal_kinds : (g : Surrounding) (b c : Building) (r : Reg) (t : RType) (l : Literal) → Declares b c r.0 t → LiteralFits t l → OpKinds g c.regs (Lit r l)
literal_kinds g b c r t l d k = (t, d.type, k)

pub primitive_kinds : (g : Surrounding) (b c : Building) (r : Reg) (t : RType) (q : Primitive) (args : List PArg) → Declares b c r.0 t → (Answers t b.regs q args ⊎ ReadsGlobal g t q args) → OpKinds g c.regs (Prim (Some r) q args)
primitive_kinds g b c r t q args d k = (t, d.type, reads_more b.regs c.regs (extends_more b c d.extends) g t q args k)

pub call_kinds : (g : Surrounding) (b c : Building) (r : Reg) (t : RType) (n : ℕ) (args : List Reg) → Declares b c r.0 t → Calls g t b.regs n args → OpKinds g c.regs (Call r n args)
call_kinds g b c r t n args d k = (t, d.type, calls_more b.regs c.regs (extends_more b c d.extends) g t n args k)
