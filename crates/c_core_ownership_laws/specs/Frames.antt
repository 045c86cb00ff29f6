-- What the frames of a state are to have, where shares stand at the places of a code.
use Rattle.std.specs.Prelude.{◌≡◌, ◌≤◌, ℕ, zero, suc, ◌+◌, true, false, pos, List, [], ◌∷◌, length, Option, Some, slice_get}
use Rattle.c_core.specs.declared.code.Kind.{Kind}
use Rattle.c_core.specs.declared.code.CFunc.{CFunc}
use Rattle.c_core.specs.declared.code.Code.{Code}
use Rattle.c_core.specs.Cells.{Cells, times, content_at}
use Rattle.c_core.specs.Ledgers.{Ledger}
use Rattle.c_core.specs.Release.{uses}
use Rattle.c_core.specs.Machine.{Word, Content, InstCell, refs_of, refs_in, Frame, MachineState}
use Rattle.c_core.specs.Arguments.{kind_of_slot}
use Rattle.c_core.specs.Holders.{owned_below}
use Rattle.c_core.specs.WellFormed.{Declared, kind_at}
use Rattle.c_core_ownership_laws.specs.Shares.{Shares, unheld, Within, has_cells, may_have_cells, may_refer, IsTarget, IsFree, with_answer}

-- a word that has no cell
abbrev pub IsBare : Word → Type 0
IsBare w = (c : ℕ) → times (refs_of w) c ≡ 0

-- t taken n times
abbrev pub many : ℕ → ℕ → ℕ
many zero t = 0
many (suc n) t = t + many n t

-- how often variables of these shares own a cell
abbrev pub total : (ℕ → ℕ) → List Word → ℕ → ℕ
total k [] c = 0
total k (w ∷ ws) c = many (k 0) (times (refs_of w) c) + total (λ r. k (suc r)) ws c

-- A frame's ledger is what its variables own; what is lent to it an older frame owns; what is held an older frame owns, or it is among
-- what is kept elsewhere; and a variable that is empty, or one of a number, has no cell.
pub record Meets (vars : List Declared) (σ : Shares) (words : List Word) (ledger : Ledger) (below : List Frame) (kept : ℕ → ℕ) : Type 0 where
  pub size : length words ≡ length vars
  pub owned : (c : ℕ) → times ledger c ≡ total σ.owns words c
  pub lent : (r : ℕ) (w : Word) → σ.lent r ≡ true → slice_get words r ≡ Some w → (c : ℕ) → times (refs_of w) c ≤ owned_below below c
  pub held : (r : ℕ) (w : Word) → σ.held r ≡ true → slice_get words r ≡ Some w → (c : ℕ) → times (refs_of w) c ≤ owned_below below c + kept c
  pub empty : (r : ℕ) (w : Word) → σ.empty r ≡ true → slice_get words r ≡ Some w → IsBare w
  pub bare : (r : ℕ) (w : Word) → may_refer vars r ≡ false → slice_get words r ≡ Some w → IsBare w

-- a global of a number has no cell
abbrev pub GlobalsBare : Code → List (Option Word) → Type 0
GlobalsBare code gs = (n : ℕ) (w : Word) → may_have_cells (kind_at code.globals n) ≡ false → slice_get gs n ≡ Some (Some w) → IsBare w

-- an attribute of a number has no cell
abbrev pub HasBareSlots : Code → Content → Type 0
HasBareSlots code (InstCell class attributes) =
    (n : ℕ) (w : Word) → may_have_cells (kind_of_slot code class (pos n)) ≡ false → slice_get attributes n ≡ Some (Some w) → IsBare w
HasBareSlots code _ = Unit {0}

-- so it is in each cell that is there
abbrev pub SlotsBare : Code → Cells Content → Type 0
SlotsBare code cells = (c : ℕ) (x : Content) → content_at cells c ≡ Some x → HasBareSlots code x

-- where At says of a function and one of its places with which shares a run may be there
module _ (code : Code) (At : ℕ → ℕ → Shares → Type 0) where
  -- A frame that waits for the result of a function, which is one of a kind: it has the shares of the place of its call, but that no
  -- content is known to hold anything for it, and the line behind the call will have those and one for the target.
  pub record IsWaiting (ret : Kind) (into : Option ℕ) (f : Frame) (below : List Frame) : Type 0 where
    pub g : CFunc
    pub is : slice_get code.funcs f.func ≡ Some g
    pub call : ℕ
    pub σ : Shares
    pub at : At f.func call σ
    pub meets : Meets g.vars (unheld σ) f.vars f.ledger below (λ c. 0)
    pub place : f.place ≡ call + 1
    pub target : IsTarget g.vars (has_cells ret) into
    pub free : IsFree g.vars σ.owns σ.empty into
    pub ρ : Shares
    pub next : At f.func (call + 1) ρ
    pub within : Within (with_answer g.vars into (unheld σ)) ρ

  -- the frames that wait, the innermost first
  abbrev pub Waits : Kind → Option ℕ → List Frame → Type 0
  Waits ret into [] = Unit {0}
  Waits ret into (f ∷ fs) = (w : IsWaiting ret into f fs) × Waits w.g.ret f.into fs

  -- a state whose frames have the shares of their places: for the frame that runs what contents hold is kept
  pub record IsMet (s : MachineState) : Type 0 where
    pub g : CFunc
    pub is : slice_get code.funcs s.top.func ≡ Some g
    pub σ : Shares
    pub at : At s.top.func s.top.place σ
    pub meets : Meets g.vars σ s.top.vars s.top.ledger s.below (uses refs_in s.cells)
    pub waits : Waits g.ret s.top.into s.below
    pub globals : GlobalsBare code s.globals
    pub slots : SlotsBare code s.cells
