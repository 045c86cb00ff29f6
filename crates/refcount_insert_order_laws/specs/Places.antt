-- Where the operations of a program with its counts stand in its C text, and which of them are the groups of the old operations.
use Rattle.std.specs.Prelude.{◌≡◌, ◌≤◌, ◌<◌, ◌⊎◌, ℕ, zero, suc, ◌+◌, List, [], ◌∷◌, ◌++◌, length, Option, Some, slice_get}
use Rattle.c_core.specs.declared.code.Line.{Line}
use Rattle.ir_core.specs.declared.code.Op.{Op}
use Rattle.ir_core.specs.declared.code.Op.TheVariants.{Turn}
use Rattle.ir_core.specs.declared.code.Last.{Last}
use Rattle.ir_core.specs.declared.code.Last.TheVariants.{Goto}
use Rattle.ir_core.specs.declared.code.Block.{Block}
use Rattle.ir_core.specs.declared.code.Func.{Func}
use Rattle.ir_core.specs.declared.code.Program.{Program}
use Rattle.ir_core.specs.Lower.{op_lines, label_before, label_of, lines_from}
use Rattle.ir_core.specs.Lowered.{IsLabelled}
use Rattle.c_core_ownership_laws.specs.Shares.{Shares}
use Rattle.c_core_ownership_laws.specs.Order.{from}
use Rattle.refcount_insert_rule.specs.Counted.{Tables, owned, AreGroups, IsCountedFunc, AreCounted}

-- how many operations stand in front of the group of the old one of this number; behind the last one, in front of what follows the
-- groups
abbrev pub operations_before : (f : Func) (t : Tables f) (number : ℕ → ℕ) (at : ℕ → ℕ → ℕ) (old ops : List (Op × ℕ)) → AreGroups f t number at old ops → ℕ → ℕ
operations_before f t number at old ops h zero = 0
operations_before f t number at [] ops h (suc i) = 0
operations_before f t number at (o ∷ os) ops h (suc i) =
    length h.0 + operations_before f t number (λ p. at (suc p)) os h.1 h.4 i

-- all operations of a block of this number and end; or all but the turn in front of a jump to the same or a lower block
abbrev pub IsFront : ℕ → Last → List (Op × ℕ) → List (Op × ℕ) → Type 0
IsFront b last front ops = (ops ≡ front) ⊎ ((source : ℕ) × (to : ℕ) × (last ≡ Goto to) × (to ≤ b) × (ops ≡ front ++ (Turn, source) ∷ []))

-- the new block of the old block k of number b: it stands at its label, and its first operations are the groups of the old ones
pub record NewBlock (q : Program) (f g : Func) (c : IsCountedFunc f g) (b : ℕ) (k : Block) : Type 0 where
  pub main : Block
  pub is_main : slice_get g.blocks (c.number b) ≡ Some main
  pub label : ℕ
  pub is_label : IsLabelled (lines_from q 0 g.blocks) label_of (c.number b) label
  pub rest : List Line
  pub lines : from (label + length (label_before (c.number b))) (lines_from q 0 g.blocks) ≡ op_lines q main.ops ++ rest
  pub front : List (Op × ℕ)
  pub is_front : IsFront b k.last front k.ops
  pub groups : List (Op × ℕ)
  pub others : List (Op × ℕ)
  pub split : main.ops ≡ groups ++ others
  pub are : AreGroups f c.tables c.number (owned f c.tables b) front groups

-- the place of the first line of the group of an old operation
abbrev pub group_place : {q : Program} {f g : Func} {c : IsCountedFunc f g} {b : ℕ} {k : Block} → NewBlock q f g c b k → ℕ → ℕ
group_place {q} {f} {g} {c} {b} {k} h i =
    h.label + length (label_before (c.number b)) + operations_before f c.tables c.number (owned f c.tables b) h.front h.groups h.are i

-- shares that are known to be those of an old block and place: a register owns what it does there, and the table says whether it is lent
abbrev pub HasShares : (f : Func) → Tables f → ℕ → ℕ → Option Shares → Type 0
HasShares f t b i o =
    (σ : Shares) × (o ≡ Some σ) × ((r : ℕ) → σ.owns r ≡ owned f t b i r) × ((r : ℕ) → r < length f.regs → σ.lent r ≡ t.lent b i r)

-- of each function with its counts, by its number
abbrev pub EachCounted : (ℕ → (f g : Func) → IsCountedFunc f g → Type 0) → ℕ → (fs gs : List Func) → AreCounted fs gs → Type 0
EachCounted P n [] [] h = Unit {0}
EachCounted P n (f ∷ fs) (g ∷ gs) h = P n f g h.0 × EachCounted P (suc n) fs gs h.1
EachCounted P n _ _ h = Unit {0}
