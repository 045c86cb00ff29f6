-- A function taken apart into pieces, which are blocks without handlers. A block without a handler is one piece. Of one with a
-- handler each place is a piece: from an operation one goes to the next piece or, where it may fail without an edge, to the piece
-- where the handler begins.
use Rattle.std.specs.Prelude.{◌+◌, ◌-◌, ℕ, suc, Bool, true, false, min, List, [], ◌∷◌, ◌++◌, length, Option, Some, None, slice_get, get_or}
use Rattle.ir_core.specs.declared.code.Op.{Op}
use Rattle.ir_core.specs.declared.code.Last.{Last}
use Rattle.ir_core.specs.declared.code.Last.TheVariants.{Goto, If, IfError, Return, Unreachable}
use Rattle.ir_core.specs.declared.code.Block.{Block}
use Rattle.ir_core.specs.declared.code.Func.{Func}
use Rattle.ir_core.specs.Rows.{Declared, edge_of_op}
use Rattle.ir_core.specs.Items.{Item, in_block, item_in}
use Rattle.liveness.specs.declared.apart.Home.{Home}
use Rattle.liveness.specs.declared.apart.Layout.{Layout}
use Rattle.liveness.specs.declared.apart.Home.TheVariants.{Whole, Apart}
use Rattle.liveness.specs.Paths.{is_caught}

-- ---- where the places of blocks stand

-- how many pieces a block has, by its handler and the number of its operations
abbrev pub size_with : Option ℕ → ℕ → ℕ
size_with None n = 1
size_with (Some h) n = suc n

abbrev pub size_of : Block → ℕ
size_of b = size_with b.handler (length b.ops)

abbrev pub home_between : Option ℕ → ℕ → ℕ → Home
home_between None first behind = Whole first
home_between (Some h) first behind = Apart first behind

-- a block whose pieces begin at a number
abbrev pub home_of : ℕ → Block → Home
home_of first b = home_between b.handler first (first + size_of b)

-- of each block, from piece n on
abbrev pub homes_from : ℕ → List Block → List Home
homes_from n [] = []
homes_from n (b ∷ bs) = home_of n b ∷ homes_from (n + size_of b) bs

abbrev pub pieces_in : List Block → ℕ
pieces_in [] = 0
pieces_in (b ∷ bs) = size_of b + pieces_in bs

abbrev pub first_in : Home → ℕ
first_in (Whole n) = n
first_in (Apart n behind) = n

-- the piece of a place of a block, and which place of the piece it is
abbrev pub piece_in : Home → ℕ → ℕ
piece_in (Whole n) p = n
piece_in (Apart n behind) p = n + min p (behind - n)

abbrev pub place_in : Home → ℕ → ℕ
place_in (Whole n) p = p
place_in (Apart n behind) p = 0

-- the first piece of a block; where there is no such block, a number behind all pieces
abbrev pub first_or : ℕ → Option Home → ℕ
first_or count None = count
first_or count (Some home) = first_in home

abbrev pub begin : Layout → ℕ → ℕ
begin layout b = first_or layout.count (slice_get layout.homes b)

abbrev pub entry : List Block → ℕ → ℕ
entry blocks b = first_or (pieces_in blocks) (slice_get (homes_from 0 blocks) b)

-- ---- the pieces

abbrev pub moved : (ℕ → ℕ) → Last → Last
moved to (Goto t) = Goto (to t)
moved to (If r a b) = If r (to a) (to b)
moved to (IfError r e n line) = IfError r (to e) (to n) line
moved to (Return r) = Return r
moved to Unreachable = Unreachable

abbrev pub bare_piece : List (Op × ℕ) → Last → Block
bare_piece ops last = record { ops = ops; last = last; handler = None }

-- where one goes from the piece of an operation. The register that it tests is none of the function's
abbrev pub choice : Bool → ℕ → ℕ → ℕ → Last
choice false spare h next = Goto next
choice true spare h next = If (record { 0 = spare }) h next

module _ (at : ℕ → ℕ → Option Item) (regs : Declared) (to : ℕ → ℕ) where
  -- the places of a block with this handler, from piece n on
  abbrev pub pieces_from : ℕ → ℕ → List (Op × ℕ) → Last → List Block
  pieces_from h n [] last = bare_piece [] (moved to last) ∷ []
  pieces_from h n (o ∷ os) last =
      bare_piece (o ∷ []) (choice (is_caught at (edge_of_op regs o.0) (in_block os last 0)) (length regs) (to h) (suc n)) ∷ pieces_from h (suc n) os last

  abbrev pub pieces_with : Option ℕ → ℕ → List (Op × ℕ) → Last → List Block
  pieces_with None n ops last = bare_piece ops (moved to last) ∷ []
  pieces_with (Some h) n ops last = pieces_from h n ops last

  abbrev pub pieces_of : ℕ → List Block → List Block
  pieces_of n [] = []
  pieces_of n (b ∷ bs) = pieces_with b.handler n b.ops b.last ++ pieces_of (n + size_of b) bs

abbrev pub apart : Func → Func
apart f = record f { blocks = pieces_of (item_in f.blocks) f.regs (entry f.blocks) 0 f.blocks }

-- ---- what is told of pieces

-- what is told at a place of a block, and what where there is no such block
abbrev pub at_home : (ℕ → ℕ → ℕ → Bool) → Bool → Option Home → ℕ → ℕ → Bool
at_home told none None p r = none
at_home told none (Some home) p r = told (piece_in home p) (place_in home p) r

abbrev pub row_at : List (List ℕ) → Option Home → List ℕ
row_at rows None = []
row_at rows (Some home) = get_or rows (first_in home) []
