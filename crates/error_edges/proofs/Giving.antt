-- In a program that has its shape what a primitive gives is of its target's type: its row and its target name one error kind.
use Rattle.std.proofs.Common.{◌≡◌, refl, sym, ◌∙◌, ap, subst, ℕ, zero, suc, true, List, [], ◌∷◌, ◌++◌, map, Option, Some, None}
use Rattle.std.specs.Prelude.{slice_get}
use Rattle.std.specs.Option.{option_map, option_and_then}
use Rattle.std.proofs.lemmas.Bool.{and_parts}
use Rattle.c_core.specs.declared.code.Kind.{Kind}
use Rattle.c_core.specs.declared.code.Kind.TheVariants.{Tagged, Int64, Char, Object}
use Rattle.c_core.specs.declared.code.CArg.{CArg}
use Rattle.c_core.specs.declared.code.Code.{Code}
use Rattle.c_core.specs.declared.primitive.Primitive.{Primitive}
use Rattle.c_core.specs.Functions.{same_kind, has_kind, function_named}
use Rattle.c_core.specs.Primitives.{Is, OfGlobal, OfSlot, Outcome, Nothing, Owned, Lent, row_of}
use Rattle.c_core.specs.WellFormed.{Declared as Variable, kind_at, args_fit, target_fits, call_fits}
use Rattle.ir_core.specs.declared.code.RType.{RType}
use Rattle.ir_core.specs.declared.code.RType.TheVariants.{Int, I64, Bool as BoolType, Ref}
use Rattle.ir_core.specs.declared.code.Reg.{Reg}
use Rattle.ir_core.specs.declared.code.Op.{Op}
use Rattle.ir_core.specs.declared.code.Op.TheVariants.{Move, Lit, Prim, Call, Virtual, TraitCall, Turn, Inc, Dec, XDec}
use Rattle.ir_core.specs.declared.code.Last.{Last}
use Rattle.ir_core.specs.declared.code.Block.{Block}
use Rattle.ir_core.specs.declared.code.Program.{Program}
use Rattle.ir_core.specs.Items.{Do, in_block}
use Rattle.ir_core.specs.Rows.{Declared, type_of_reg, register_type, type_given}
use Rattle.ir_core.specs.Lower.{kind_of_type, variable_of, argument_in, line_of, op_lines, label_before, label_of, end_lines, block_lines, lines_from}
use Rattle.ir_core.proofs.RowLemmas.{primitive_found}
use Rattle.ir_core.proofs.TextLemmas.{LineIs, LinesAre, lines_parts}

-- ---- what is known of an operation, of a block, and of blocks
abbrev pub GivesType : Declared → Op → Type 0
GivesType ds (Prim (Some r) c args) = (t : RType) → type_of_reg ds r ≡ Some t → type_given (row_of c).outcome (Some t) ≡ Some t
GivesType ds _ = Unit {0}

abbrev pub AllGive : Declared → List (Op × ℕ) → Type 0
AllGive ds [] = Unit {0}
AllGive ds (o ∷ os) = GivesType ds o.0 × AllGive ds os

abbrev pub BlocksGive : Declared → List Block → Type 0
BlocksGive ds [] = Unit {0}
BlocksGive ds (b ∷ bs) = AllGive ds b.ops × BlocksGive ds bs

pub block_gives : (ds : Declared) (bs : List Block) → BlocksGive ds bs → (k : ℕ) (b : Block) → slice_get bs k ≡ Some b → AllGive ds b.ops
block_gives ds [] all k b e = absurd (cc)
block_gives ds (x ∷ bs) all zero b e = let same : x ≡ b = cc in subst (λ (z : Block). AllGive ds z.ops) same all.0
block_gives ds (x ∷ bs) all (suc k) b e = block_gives ds bs all.1 k b e

pub op_gives : (ds : Declared) (ops : List (Op × ℕ)) (last : Last) → AllGive ds ops → (i : ℕ) (o : Op) {line : ℕ} → in_block ops last i ≡ Some (Do o line) → GivesType ds o
op_gives ds [] last all zero o e = absurd (cc)
op_gives ds [] last all (suc i) o e = absurd (cc)
op_gives ds (x ∷ ops) last all zero o e = let same : x.0 ≡ o = cc in subst (GivesType ds) same all.0
op_gives ds (x ∷ ops) last all (suc i) o e = op_gives ds ops last all.1 i o e

-- ---- registers as variables
pub kind_there : (ds : Declared) (i : ℕ) (t : RType) → option_map (λ (x : List ℕ × RType). x.1) (slice_get ds i) ≡ Some t → kind_at (map variable_of ds) i ≡ Some (kind_of_type t)
kind_there [] i t e = absurd (cc)
kind_there (d ∷ ds) zero t e = let same : d.1 ≡ t = cc in ap (λ u. Some (kind_of_type u)) same
kind_there (d ∷ ds) (suc i) t e = kind_there ds i t e

type_is : (k : Kind) (t : RType) → same_kind k (kind_of_type t) ≡ true → register_type k ≡ t
type_is Tagged Int e = refl
type_is Tagged I64 e = absurd (cc)
type_is Tagged BoolType e = absurd (cc)
type_is Tagged Ref e = absurd (cc)
type_is Int64 Int e = absurd (cc)
type_is Int64 I64 e = refl
type_is Int64 BoolType e = absurd (cc)
type_is Int64 Ref e = absurd (cc)
type_is Char Int e = absurd (cc)
type_is Char I64 e = absurd (cc)
type_is Char BoolType e = refl
type_is Char Ref e = absurd (cc)
type_is Object Int e = absurd (cc)
type_is Object I64 e = absurd (cc)
type_is Object BoolType e = absurd (cc)
type_is Object Ref e = refl

-- ---- lines that fit
module _ (code : Code) (ds : Declared) (ret : Kind) where
  abbrev vars : List Variable
  vars = map variable_of ds

  target_is : (args : List CArg) (o : Outcome) (x : ℕ) (t : RType) → kind_at vars x ≡ Some (kind_of_type t) → target_fits code vars args o (Some x) ≡ true → type_given o (Some t) ≡ Some t
  target_is args Nothing x t at e = absurd (cc)
  target_is args (Owned (Is k)) x t at e = ap Some (type_is k t (sym (ap (has_kind k) at) ∙ e))
  target_is args (Owned OfGlobal) x t at e = refl
  target_is args (Owned OfSlot) x t at e = refl
  target_is args (Lent (Is k)) x t at e = ap Some (type_is k t (sym (ap (has_kind k) at) ∙ e))
  target_is args (Lent OfGlobal) x t at e = refl
  target_is args (Lent OfSlot) x t at e = refl

  module _ (p : Program) where
    op_of : (o : Op) → LineIs code vars ret (line_of p o) → GivesType ds o
    op_of (Move r s) h = tt
    op_of (Lit r l) h = tt
    op_of (Prim None c args) h = tt
    op_of (Prim (Some r) c args) h = λ t e.
        let given : List CArg = map argument_in args in
        let fits = ap (λ z. call_fits code vars (Some r.0) given z (function_named code.funcs (row_of c).name)) (sym (primitive_found c)) ∙ h.1 in
        target_is given (row_of c).outcome r.0 t (kind_there ds r.0 t e) (and_parts (args_fit code vars given (row_of c).parameters given) (target_fits code vars given (row_of c).outcome (Some r.0)) fits).1
    op_of (Call r n args) h = tt
    op_of (Virtual r o n args) h = tt
    op_of (TraitCall r o t n args) h = tt
    op_of Turn h = tt
    op_of (Inc r) h = tt
    op_of (Dec r) h = tt
    op_of (XDec r) h = tt

    ops_of : (ops : List (Op × ℕ)) → LinesAre code vars ret (op_lines p ops) → AllGive ds ops
    ops_of [] h = tt
    ops_of (o ∷ os) h = (op_of o.0 h.0, ops_of os h.1)

    pub blocks_of : (k : ℕ) (bs : List Block) → LinesAre code vars ret (lines_from p k bs) → BlocksGive ds bs
    blocks_of k [] h = tt
    blocks_of k (b ∷ bs) h =
        let both = lines_parts code vars ret (block_lines p k b) (lines_from p (suc k) bs) h in
        let body = (lines_parts code vars ret (label_before k) (op_lines p b.ops ++ end_lines label_of k b.last) both.0).1 in
        (ops_of b.ops (lines_parts code vars ret (op_lines p b.ops) (end_lines label_of k b.last) body).0, blocks_of (suc k) bs both.1)
