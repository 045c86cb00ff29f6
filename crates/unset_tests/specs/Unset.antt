-- Where a register may be unset, that is, hold the error value of its type: by the paths of a function, from place to place. A test
-- of a register for its error value is of use only where it may be unset.
use Rattle.std.specs.Prelude.{◌≡◌, ◌≤◌, ℕ, suc, pos, negsuc, Bool, true, false, not, nat_eq, List, [], ◌∷◌, length, Option, Some, None}
use Rattle.std.specs.Ordering.{int_eq}
use Rattle.ir_core.specs.declared.code.RType.{RType}
use Rattle.ir_core.specs.declared.code.RType.TheVariants.{Int, I64, Bool as BoolType, Ref}
use Rattle.ir_core.specs.declared.code.Lit.{Lit as Literal}
use Rattle.ir_core.specs.declared.code.Lit.TheVariants.{Number, Null}
use Rattle.ir_core.specs.declared.code.Op.{Op}
use Rattle.ir_core.specs.declared.code.Op.TheVariants.{Lit}
use Rattle.ir_core.specs.declared.code.Last.{Last}
use Rattle.ir_core.specs.declared.code.Last.TheVariants.{Goto, If, IfError, Return, Unreachable}
use Rattle.ir_core.specs.declared.code.Block.{Block}
use Rattle.ir_core.specs.declared.kind.Edge.{Edge}
use Rattle.ir_core.specs.declared.kind.Edge.TheVariants.{Jumps}
use Rattle.ir_core.specs.Items.{Item, Do, End, item_in, handler_in}
use Rattle.ir_core.specs.Rows.{Declared, type_of_reg, edge_of_op}
use Rattle.ir_core.specs.Meaning.{is_jump}
use Rattle.ir_core.specs.Missing.{is_some_edge}
use Rattle.liveness.specs.Paths.{is_among, is_target, write_of}

-- ---- what sets a register

-- the literal that writes the error value of a type
abbrev pub is_error_literal : RType → Literal → Bool
is_error_literal Int (Number n) = int_eq n (pos 1)
is_error_literal I64 (Number n) = int_eq n (negsuc 112)
is_error_literal BoolType (Number n) = int_eq n (pos 2)
is_error_literal Ref Null = true
is_error_literal _ _ = false

abbrev pub is_value : Literal → Option RType → Bool
is_value l None = false
is_value l (Some t) = not (is_error_literal t l)

-- Any other literal sets its register, whatever happens. What a primitive, a call or a move writes may be the error value.
abbrev pub sets : Declared → Op → Bool
sets regs (Lit r l) = is_value l (type_of_reg regs r)
sets regs _ = false

-- ---- paths

-- an operation that always fails is passed only to a jump that stands directly behind it, which is where its exception goes
abbrev pub is_passed : Edge → Option Item → Bool
is_passed Jumps behind = is_jump behind
is_passed _ behind = true

-- from an operation a path goes to the next place, and where the operation may fail also to the handler of its block
pub data Goes (regs : Declared) (blocks : List Block) : ℕ → ℕ → ℕ → ℕ → Type 0 where
  passes : (b p : ℕ) (o : Op) {line : ℕ} → item_in blocks b p ≡ Some (Do o line) → is_passed (edge_of_op regs o) (item_in blocks b (suc p)) ≡ true → Goes regs blocks b p b (suc p)
  fails : (b p h : ℕ) (o : Op) {line : ℕ} → item_in blocks b p ≡ Some (Do o line) → is_some_edge (edge_of_op regs o) ≡ true → handler_in blocks b ≡ Some h → Goes regs blocks b p h 0

-- the blocks that an end goes to while a register is unset: a test of it goes to the first block alone
abbrev pub of_test : Bool → ℕ → ℕ → List ℕ
of_test true e n = e ∷ []
of_test false e n = e ∷ n ∷ []

abbrev pub goes_unset : ℕ → Last → List ℕ
goes_unset r (Goto t) = t ∷ []
goes_unset r (If s a b) = a ∷ b ∷ []
goes_unset r (IfError s e n line) = of_test (nat_eq s.0 r) e n
goes_unset r (Return s) = []
goes_unset r Unreachable = []

-- A register may be unset at a place where a path comes there from the function's beginning, or from an operation that wrote it and
-- need not have set it, and nothing on the path has set it since; and everywhere, if it is none of the function's. At the beginning
-- each counts as unset, parameters too, of which none is tested. An operation to which no path comes counts like any other.
pub data UnsetAt (regs : Declared) (blocks : List Block) (r : ℕ) : ℕ → ℕ → Type 0 where
  undeclared : (b p : ℕ) → length regs ≤ r → UnsetAt regs blocks r b p
  entry : UnsetAt regs blocks r 0 0
  written : (b p c q : ℕ) (o : Op) {line : ℕ} → item_in blocks b p ≡ Some (Do o line) → is_target (write_of o) r ≡ true → sets regs o ≡ false → Goes regs blocks b p c q → UnsetAt regs blocks r c q
  kept : (b p c q : ℕ) (o : Op) {line : ℕ} → UnsetAt regs blocks r b p → item_in blocks b p ≡ Some (Do o line) → is_target (write_of o) r ≡ false → Goes regs blocks b p c q → UnsetAt regs blocks r c q
  jumped : (b p t : ℕ) (l : Last) → UnsetAt regs blocks r b p → item_in blocks b p ≡ Some (End l) → is_among (goes_unset r l) t ≡ true → UnsetAt regs blocks r t 0

-- ---- what stands behind a failure

-- the last of some operations always fails
abbrev pub is_jumps : Edge → Bool
is_jumps Jumps = true
is_jumps _ = false

abbrev pub ends_in_failure : Declared → List (Op × ℕ) → Bool
ends_in_failure regs [] = false
ends_in_failure regs (o ∷ []) = is_jumps (edge_of_op regs o.0)
ends_in_failure regs (o ∷ q ∷ os) = ends_in_failure regs (q ∷ os)
