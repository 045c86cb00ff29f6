-- The blocks with their counts, from what is planned of them and the detours to them.
use Rattle.std.specs.Prelude.{◌≡◌, ℕ, suc, ◌+◌, ◌-◌, Bool, false, List, None, Some, Option, [], ◌∷◌, ◌++◌, map, length, get_or, slice_get}
use Rattle.std.specs.Option.{option_map_or}
use Rattle.ir_core.specs.declared.code.Op.{Op}
use Rattle.ir_core.specs.declared.code.Last.{Last}
use Rattle.ir_core.specs.declared.code.Last.TheVariants.{Goto, If, IfError, Return, Unreachable}
use Rattle.ir_core.specs.declared.code.Block.{Block}
use Rattle.refcount_insert_rule.specs.Rule.{ups, downs}
use Rattle.refcount_insert.specs.declared.sharing.EdgeCounts.{EdgeCounts}
use Rattle.refcount_insert.specs.declared.detours.Detour.{Detour}
use Rattle.refcount_insert.specs.declared.detours.Front.{Front}
use Rattle.refcount_insert.specs.declared.plan.Planned.{Planned}
use Rattle.ir_core.specs.Rows.{Declared}
use Rattle.refcount_insert_counts.specs.declared.known.KnownRegisters.{KnownRegisters}
use Rattle.refcount_insert.specs.Sharing.{AreProper}
use Rattle.refcount_insert.specs.Detours.{AreFronts}
use Rattle.refcount_insert.specs.Plan.{ArePlanned}

-- the new numbers of the blocks, from number n on: each stands behind the detours to it
abbrev pub numbers_from : ℕ → List Front → List ℕ
numbers_from n [] = []
numbers_from n (f ∷ fs) = (n + length f.detours) ∷ numbers_from (n + length f.detours + 1) fs

abbrev pub number_at : List ℕ → ℕ → ℕ
number_at numbers b = get_or numbers b 0

-- what is given up on an edge may be an error value
abbrev pub unsure : List ℕ → List (ℕ × Bool)
unsure rs = map (λ r. (r, false)) rs

abbrev pub detour_ops : EdgeCounts → List (Op × ℕ)
detour_ops e = ups e.ups 0 ++ downs (unsure e.downs) 0

-- a detour to the block of a number
abbrev pub detour_to : ℕ → Detour → Block
detour_to there d = record { ops = detour_ops d.counts; last = Goto (there - d.next); handler = None }

abbrev pub detours_to : ℕ → List Detour → List Block
detours_to there ds = map (detour_to there) ds

-- how far in front of its block an edge goes
abbrev pub entry_of : Option Front → ℕ → ℕ
entry_of o i = option_map_or (λ (f : Front). get_or f.entries i 0) o 0

abbrev pub distance : List Front → ℕ → Option ℕ → ℕ
distance fronts t None = 0
distance fronts t (Some i) = entry_of (slice_get fronts t) i

module _ (number : ℕ → ℕ) (fronts : List Front) where
  abbrev pub edge_to : ℕ → Option ℕ → ℕ
  edge_to t o = number t - distance fronts t o

  abbrev pub end_at : Option ℕ → Option ℕ → Last → Last
  end_at first second (Goto t) = Goto (number t)
  end_at first second (If x t u) = If x (edge_to t first) (edge_to u second)
  end_at first second (IfError x t u line) = IfError x (edge_to t first) (edge_to u second) line
  end_at first second (Return x) = Return x
  end_at first second Unreachable = Unreachable

  abbrev pub main_of : Planned → Block
  main_of p = record { ops = p.ops; last = end_at p.first p.second p.last; handler = None }

  -- blocks from number b on, each behind the detours to it
  abbrev pub all_laid : ℕ → List Front → List Planned → List Block
  all_laid b (f ∷ fs) (p ∷ ps) = detours_to (number b) f.detours ++ (main_of p ∷ all_laid (suc b) fs ps)
  all_laid b _ _ = []

-- new blocks that are the old ones with their counts, where so much is known
pub record AreLaid (known : KnownRegisters) (regs : Declared) (old new : List Block) : Type 0 where
  pub kept : List (List EdgeCounts)
  pub fronts : List Front
  pub planned : List Planned
  pub plan : ArePlanned known regs kept 0 old planned
  pub proper : AreProper known regs kept
  pub size : length kept ≡ length old
  pub are_fronts : AreFronts kept fronts
  pub laid : new ≡ all_laid (number_at (numbers_from 0 fronts)) fronts 0 fronts planned
