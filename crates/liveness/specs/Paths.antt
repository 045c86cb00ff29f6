-- Which register is read again, and which is only lent: by the paths of a function, from place to place.
use Rattle.std.specs.Prelude.{◌≡◌, ◌≤◌, ℕ, suc, Bool, true, false, not, nat_eq, List, [], ◌∷◌, map, Option, Some, None, slice_get}
use Rattle.std.specs.List.{list_any, filter_map}
use Rattle.std.specs.Option.{option_map}
use Rattle.c_core.specs.declared.primitive.Primitive.{Primitive}
use Rattle.c_core.specs.Primitives.{Outcome, Nothing, Owned, Lent, row_of}
use Rattle.ir_core.specs.declared.code.Reg.{Reg}
use Rattle.ir_core.specs.declared.code.PArg.{PArg}
use Rattle.ir_core.specs.declared.code.PArg.TheVariants as arg
use Rattle.ir_core.specs.declared.code.Op.{Op}
use Rattle.ir_core.specs.declared.code.Op.TheVariants.{Move, Lit, Prim, Call, Virtual, TraitCall, Turn, Inc, Dec, XDec}
use Rattle.ir_core.specs.declared.code.Last.{Last}
use Rattle.ir_core.specs.declared.code.Last.TheVariants.{Goto, If, IfError, Return, Unreachable}
use Rattle.ir_core.specs.declared.code.Func.{Func}
use Rattle.ir_core.specs.declared.kind.Edge.{Edge}
use Rattle.ir_core.specs.declared.kind.Edge.TheVariants.{NoEdge}
use Rattle.ir_core.specs.Items.{Item, Do, End, item_in, handler_in}
use Rattle.ir_core.specs.Rows.{edge_of_op}
use Rattle.ir_core.specs.Meaning.{is_edge}

-- ---- what is read and written

abbrev pub number_of : Reg → ℕ
number_of r = r.0

-- the registers among the arguments of a primitive
abbrev pub register_of : PArg → Option ℕ
register_of (arg.Var r) = Some r.0
register_of (arg.Number n) = None
register_of (arg.Text t) = None
register_of (arg.Global g) = None
register_of (arg.Class c) = None

abbrev pub registers_in : List PArg → List ℕ
registers_in args = filter_map register_of args

-- what an operation reads. A count reads its register
abbrev pub reads_of : Op → List ℕ
reads_of (Move r s) = s.0 ∷ []
reads_of (Lit r l) = []
reads_of (Prim to p args) = registers_in args
reads_of (Call r g args) = map number_of args
reads_of (Virtual r o n args) = o.0 ∷ map number_of args
reads_of (TraitCall r o t n args) = o.0 ∷ map number_of args
reads_of Turn = []
reads_of (Inc r) = r.0 ∷ []
reads_of (Dec r) = r.0 ∷ []
reads_of (XDec r) = r.0 ∷ []

-- what it writes, also where it fails, which is after it has read
abbrev pub write_of : Op → Option ℕ
write_of (Move r s) = Some r.0
write_of (Lit r l) = Some r.0
write_of (Prim to p args) = option_map number_of to
write_of (Call r g args) = Some r.0
write_of (Virtual r o n args) = Some r.0
write_of (TraitCall r o t n args) = Some r.0
write_of Turn = None
write_of (Inc r) = None
write_of (Dec r) = None
write_of (XDec r) = None

abbrev pub reads_of_last : Last → List ℕ
reads_of_last (Goto t) = []
reads_of_last (If r a b) = r.0 ∷ []
reads_of_last (IfError r e o line) = r.0 ∷ []
reads_of_last (Return r) = r.0 ∷ []
reads_of_last Unreachable = []

abbrev pub is_among : List ℕ → ℕ → Bool
is_among rs r = list_any (λ s. nat_eq s r) rs

abbrev pub is_target : Option ℕ → ℕ → Bool
is_target None r = false
is_target (Some s) r = nat_eq s r

-- whether the item at a place reads a register, and whether it writes it
abbrev pub reads : Item → ℕ → Bool
reads (Do o line) r = is_among (reads_of o) r
reads (End l) r = is_among (reads_of_last l) r

abbrev pub writes : Item → ℕ → Bool
writes (Do o line) r = is_target (write_of o) r
writes (End l) r = false

-- a primitive whose result is only lent: what it is read from goes on to own it
abbrev pub lends : Outcome → Bool
lends Nothing = false
lends (Owned k) = false
lends (Lent k) = true

abbrev pub is_lent : Primitive → Bool
is_lent p = lends (row_of p).outcome

-- an operation that only lends to the register that it writes
abbrev pub lends_to : Op → Bool
lends_to (Prim to p args) = is_lent p
lends_to _ = false

abbrev pub gives_lent : Item → Bool
gives_lent (Do o line) = lends_to o
gives_lent (End l) = false

-- ---- paths

-- the blocks that an end goes to
abbrev pub targets : Last → List ℕ
targets (Goto t) = t ∷ []
targets (If r a b) = a ∷ b ∷ []
targets (IfError r e o line) = e ∷ o ∷ []
targets (Return r) = []
targets Unreachable = []

-- whether an operation that fails goes to the handler: it may fail, and what is to stand behind it, among all items, does not
abbrev pub is_caught : (ℕ → ℕ → Option Item) → Edge → Option Item → Bool
is_caught at NoEdge behind = false
is_caught at e behind = not (is_edge at e behind)

-- a path goes from a place to the next one: behind an operation, from one that fails to the handler of its block, and from an
-- end to the start of a block
pub data Goes (f : Func) : ℕ → ℕ → ℕ → ℕ → Type 0 where
  passes : (b p : ℕ) (o : Op) {line : ℕ} → item_in f.blocks b p ≡ Some (Do o line) → Goes f b p b (suc p)
  fails : (b p h : ℕ) (o : Op) {line : ℕ} → item_in f.blocks b p ≡ Some (Do o line) → is_caught (item_in f.blocks) (edge_of_op f.regs o) (item_in f.blocks b (suc p)) ≡ true → handler_in f.blocks b ≡ Some h → Goes f b p h 0
  jumps : (b p i t : ℕ) (l : Last) → item_in f.blocks b p ≡ Some (End l) → slice_get (targets l) i ≡ Some t → Goes f b p t 0

-- some path from a place reads the register before it writes it
pub data LiveAt (f : Func) (r : ℕ) : ℕ → ℕ → Type 0 where
  reads_here : (b p : ℕ) (i : Item) → item_in f.blocks b p ≡ Some i → reads i r ≡ true → LiveAt f r b p
  goes_on : (b p c q : ℕ) (i : Item) → item_in f.blocks b p ≡ Some i → writes i r ≡ false → Goes f b p c q → LiveAt f r c q → LiveAt f r b p

-- some path from the entry comes to a place
pub data MetAt (f : Func) : ℕ → ℕ → Type 0 where
  entry : MetAt f 0 0
  onward : (b p c q : ℕ) → MetAt f b p → Goes f b p c q → MetAt f c q

-- some path from the entry comes to a place on which the last write of the register is neither the entry, as a parameter, nor a
-- primitive whose result is only lent
pub data OwnedAt (f : Func) (r : ℕ) : ℕ → ℕ → Type 0 where
  no_parameter : f.params ≤ r → OwnedAt f r 0 0
  written : (b p c q : ℕ) (i : Item) → MetAt f b p → item_in f.blocks b p ≡ Some i → writes i r ≡ true → gives_lent i ≡ false → Goes f b p c q → OwnedAt f r c q
  kept : (b p c q : ℕ) (i : Item) → OwnedAt f r b p → item_in f.blocks b p ≡ Some i → writes i r ≡ false → Goes f b p c q → OwnedAt f r c q

-- by whichever path a run came to a place, the register was written last by a primitive whose result is only lent, or is a
-- parameter that was never written. So it is everywhere where no path comes
abbrev pub BorrowedAt : Func → ℕ → ℕ → ℕ → Type 0
BorrowedAt f r b p = OwnedAt f r b p → ⊥
