-- When one program is another one with its counts. The blocks are the old ones in their order, each operation with its counts by
-- the one rule. An edge whose registers have other references before it than behind it has counts of its own: those of a jump
-- stand in the block that it leaves, those of a test in detours, which are blocks of counts alone. A detour stands in front of the block
-- to which its edges go, and edges share it that come with the same references: it counts some of what is to be counted, and goes to that block
-- or to another detour in front of it, which counts what is left.
use Rattle.std.specs.Prelude.{◌≡◌, ◌≢◌, ◌↔◌, ◌≤◌, ◌<◌, ◌⊎◌, ℕ, suc, ◌+◌, ◌^◌, Bool, true, false, not, ◌&&◌, cond, nat_lt, List, [], ◌∷◌, ◌++◌, length, Some, None}
use Rattle.std.specs.Option.{option_map_or}
use Rattle.ir_core.specs.declared.code.Op.{Op}
use Rattle.ir_core.specs.declared.code.Last.{Last}
use Rattle.ir_core.specs.declared.code.Last.TheVariants.{Goto, If, IfError, Return, Unreachable}
use Rattle.ir_core.specs.declared.code.Block.{Block}
use Rattle.ir_core.specs.declared.code.Func.{Func}
use Rattle.ir_core.specs.declared.code.Program.{Program}
use Rattle.ir_core.specs.Bare.{IsBare}
use Rattle.ir_core.specs.Items.{Item, item_in}
use Rattle.ir_core.specs.Rows.{Declared, type_of_reg}
use Rattle.c_core_ownership_laws.specs.Shares.{put, one_if}
use Rattle.liveness.specs.Paths.{LiveAt, BorrowedAt}
use Rattle.refcount_insert_rule.specs.Rule.{is_counted, IsGroup, IsEdge, IsReturned}

-- whether a register is counted
abbrev pub counts_register : Declared → ℕ → Bool
counts_register regs r = option_map_or is_counted (type_of_reg regs record { 0 = r }) false

-- what is known at each block and place of a function of each register by its number: whether it is read again, and whether it
-- is only lent. In a block that no path comes to every register is only lent, by the definition of paths: nothing is owned there. No
-- operation goes to a handler, since its failure goes over an edge
pub record Tables (f : Func) : Type 0 where
  pub calm : IsBare f
  pub live : ℕ → ℕ → ℕ → Bool
  pub lent : ℕ → ℕ → ℕ → Bool
  pub is_live : (b p r : ℕ) (i : Item) → item_in f.blocks b p ≡ Some i → r < length f.regs → (live b p r ≡ true) ↔ LiveAt f r b p
  pub is_lent : (b p r : ℕ) (i : Item) → item_in f.blocks b p ≡ Some i → r < length f.regs → (lent b p r ≡ true) ↔ BorrowedAt f r b p

-- how many references a frame owns through a register at a place: one where it is counted, read again and not only lent
abbrev pub owned : (f : Func) → Tables f → ℕ → ℕ → ℕ → ℕ
owned f t b p r = one_if (counts_register f.regs r && (t.live b p r && not (t.lent b p r)))

-- ---- blocks

module _ (f : Func) (t : Tables f) (number : ℕ → ℕ) where
  abbrev pub counted : ℕ → Bool
  counted = counts_register f.regs

  -- what registers have at the start of a block
  abbrev pub wanted : ℕ → ℕ → ℕ
  wanted b = owned f t b 0

  -- operations with their counts, where `at` says what registers have at each place
  abbrev pub AreGroups : (ℕ → ℕ → ℕ) → List (Op × ℕ) → List (Op × ℕ) → Type 0
  AreGroups at [] ops = ops ≡ []
  AreGroups at (o ∷ os) ops =
      (group : List (Op × ℕ)) × (rest : List (Op × ℕ)) × (ops ≡ group ++ rest) × IsGroup counted o (at 0) (at 1) group × AreGroups (λ p. at (suc p)) os rest

  -- the counts of an end that stand in its block, behind all operations
  abbrev pub AreLast : (ℕ → ℕ) → Last → List (Op × ℕ) → Type 0
  AreLast have (Goto b) ops = IsEdge have (wanted b) ops
  AreLast have (Return x) ops = IsReturned counted x have ops
  AreLast have _ ops = ops ≡ []

  -- the operations of a block and the counts of its end
  abbrev pub AreAll : (ℕ → ℕ → ℕ) → List (Op × ℕ) → Last → List (Op × ℕ) → Type 0
  AreAll at old last ops =
      (groups : List (Op × ℕ)) × (behind : List (Op × ℕ)) × (ops ≡ groups ++ behind) × AreGroups at old groups × AreLast (at (length old)) last behind

  -- a jump back, also to the block that it ends, has its turn right before it, which by the program's shape is the last operation. The
  -- counts of the edge then stand in front of the turn
  abbrev pub AreTurned : (ℕ → ℕ → ℕ) → List (Op × ℕ) → ℕ → List (Op × ℕ) → Type 0
  AreTurned at old b ops =
      (before : List (Op × ℕ)) × (turn : Op × ℕ) × (groups : List (Op × ℕ)) × (counts : List (Op × ℕ)) × (old ≡ before ++ (turn ∷ [])) × (ops ≡ groups ++ (counts ++ (turn ∷ []))) × AreGroups at before groups × IsEdge (at (length old)) (wanted b) counts

  abbrev pub is_ahead : ℕ → ℕ → Bool
  is_ahead k b = nat_lt k b

  -- the operations of block k in the new block
  abbrev pub IsBody : ℕ → (ℕ → ℕ → ℕ) → List (Op × ℕ) → Last → List (Op × ℕ) → Type 0
  IsBody k at old (Goto b) ops = cond (is_ahead k b) (AreAll at old (Goto b) ops) (AreTurned at old b ops)
  IsBody k at old last ops = AreAll at old last ops

  -- The new blocks from number `first b` on that stand in front of that of block b are detours on the way to it. `at_start n` says how
  -- many references registers have where new block n begins
  module _ (first : ℕ → ℕ) (at_start : ℕ → ℕ → ℕ) where
    -- new block n, as a detour to block b: it goes on to b, or to a later detour. Behind it each register has what it had, or already what
    -- is wanted; it does have counts, and only counted registers have references
    pub record IsDetour (b n : ℕ) (x : Block) : Type 0 where
      pub next : ℕ
      pub goes : x.last ≡ Goto next
      pub ahead : n < next
      pub within : next ≤ number b
      pub counts : IsEdge (at_start n) (at_start next) x.ops
      pub some : x.ops ≢ []
      pub each : (r : ℕ) → (at_start next r ≡ at_start n r) ⊎ (at_start next r ≡ wanted b r)
      pub owns : (r : ℕ) → 1 ≤ at_start n r → counted r ≡ true

    -- detours to block b, from new number n on
    abbrev pub AreDetours : ℕ → ℕ → List Block → Type 0
    AreDetours b n [] = Unit {0}
    AreDetours b n (x ∷ xs) = IsDetour b n x × AreDetours b (suc n) xs

    -- the edge of a test to block b goes to the new block of b or to a detour in front of it, where registers are to have what they have
    abbrev pub IsEdgeTo : (ℕ → ℕ) → ℕ → ℕ → Type 0
    IsEdgeTo have b to =
        (first b ≤ to) × (to ≤ number b) × ((r : ℕ) → have r ≡ at_start to r)

    -- the end of a block with the new numbers. A register that holds its error value has no cell, so it may have as many references as
    -- are wanted
    abbrev pub IsLast : (ℕ → ℕ) → Last → Last → Type 0
    IsLast have (Goto b) last = last ≡ Goto (number b)
    IsLast have (If x a b) last =
        (p : ℕ) × (q : ℕ) × (last ≡ If x p q) × IsEdgeTo have a p × IsEdgeTo have b q
    IsLast have (IfError x a b line) last =
        (p : ℕ) × (q : ℕ) × (last ≡ IfError x p q line) × IsEdgeTo (put x.0 (wanted a x.0) have) a p × IsEdgeTo have b q
    IsLast have (Return x) last = last ≡ Return x
    IsLast have Unreachable last = last ≡ Unreachable

    -- old blocks from number k on, as new ones from number m on: each behind the detours to it
    abbrev pub AreBlocks : ℕ → ℕ → List Block → List Block → Type 0
    AreBlocks k m [] blocks = blocks ≡ []
    AreBlocks k m (b ∷ bs) blocks =
        (detours : List Block) × (main : Block) × (rest : List Block) × (blocks ≡ detours ++ (main ∷ rest)) × (first k ≡ m) × (number k ≡ m + length detours) × ((r : ℕ) → at_start (number k) r ≡ wanted k r) × AreDetours k m detours × IsBody k (owned f t k) b.ops b.last main.ops × IsLast (owned f t k (length b.ops)) b.last main.last × AreBlocks (suc k) (m + length detours + 1) bs rest

-- ---- programs

-- a function with its counts: nothing but the blocks has changed. It begins with the first one. They are as few as numbers of 64 bits can
-- name, and none has a handler
pub record IsCountedFunc (f g : Func) : Type 0 where
  pub name : g.name ≡ f.name
  pub params : g.params ≡ f.params
  pub ret : g.ret ≡ f.ret
  pub regs : g.regs ≡ f.regs
  pub tables : Tables f
  pub number : ℕ → ℕ
  pub first : ℕ → ℕ
  pub at_start : ℕ → ℕ → ℕ
  pub blocks : AreBlocks f tables number first at_start 0 0 f.blocks g.blocks
  pub begins : number 0 ≡ 0
  pub few : length g.blocks ≤ 2 ^ 64
  pub bare : IsBare g

abbrev pub AreCounted : List Func → List Func → Type 0
AreCounted [] [] = Unit {0}
AreCounted (f ∷ fs) (g ∷ gs) = IsCountedFunc f g × AreCounted fs gs
AreCounted _ _ = ⊥

pub record IsCountedProgram (p q : Program) : Type 0 where
  pub globals : q.globals ≡ p.globals
  pub classes : q.classes ≡ p.classes
  pub funcs : AreCounted p.funcs q.funcs
