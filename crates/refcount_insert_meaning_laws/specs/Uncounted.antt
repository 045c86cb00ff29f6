-- A program without its counts. Counts do nothing, so what a program with counts means is what it means without them. Without them an
-- operation has its test right behind it again. A block that has nothing but counts, and jumps ahead, is a part of each edge that goes
-- to it: the edge leads to where the jump goes.
use Rattle.std.specs.Prelude.{ℕ, zero, suc, Bool, true, false, cond, nat_lt, List, [], ◌∷◌, length, map, Option, Some, None, slice_get}
use Rattle.std.specs.Option.{option_map_or, option_and_then}
use Rattle.ir_core.specs.declared.code.Op.{Op}
use Rattle.ir_core.specs.declared.code.Op.TheVariants.{Inc, Dec, XDec}
use Rattle.ir_core.specs.declared.code.Last.{Last}
use Rattle.ir_core.specs.declared.code.Last.TheVariants.{Goto, If, IfError, Return, Unreachable}
use Rattle.ir_core.specs.declared.code.Block.{Block}
use Rattle.ir_core.specs.declared.code.Func.{Func}
use Rattle.ir_core.specs.declared.code.Program.{Program}

abbrev pub is_count : Op → Bool
is_count (Inc r) = true
is_count (Dec r) = true
is_count (XDec r) = true
is_count _ = false

abbrev pub without_counts : List (Op × ℕ) → List (Op × ℕ)
without_counts [] = []
without_counts (o ∷ os) = cond (is_count o.0) (without_counts os) (o ∷ without_counts os)

-- ---- edges
abbrev pub if_ahead : ℕ → ℕ → Option ℕ
if_ahead k t = cond (nat_lt k t) (Some t) None

-- where block k jumps to, if it has operations, none of them is left without counts, and the jump goes to a higher block
abbrev pub passes : ℕ → List (Op × ℕ) → List (Op × ℕ) → Last → Option ℕ
passes k (o ∷ os) [] (Goto t) = if_ahead k t
passes k ops left last = None

abbrev pub passed_to : List Block → ℕ → Option ℕ
passed_to blocks k = option_and_then (λ (b : Block). passes k b.ops (without_counts b.ops) b.last) (slice_get blocks k)

-- where an edge to a block leads, over at most so many blocks of counts
abbrev pub goal_within : List Block → ℕ → ℕ → ℕ
goal_within blocks zero k = k
goal_within blocks (suc n) k = option_map_or (goal_within blocks n) (passed_to blocks k) k

abbrev pub goal : List Block → ℕ → ℕ
goal blocks k = goal_within blocks (length blocks) k

-- an end whose edges lead elsewhere
abbrev pub led : (ℕ → ℕ) → Last → Last
led to (Goto t) = Goto (to t)
led to (If r a b) = If r (to a) (to b)
led to (IfError r e o line) = IfError r (to e) (to o) line
led to (Return r) = Return r
led to Unreachable = Unreachable

-- ---- programs
abbrev pub uncounted_block : List Block → Block → Block
uncounted_block blocks b = record b { ops = without_counts b.ops; last = led (goal blocks) b.last }

abbrev pub uncounted_func : Func → Func
uncounted_func g = record g { blocks = map (uncounted_block g.blocks) g.blocks }

abbrev pub uncounted : Program → Program
uncounted q = record q { funcs = map uncounted_func q.funcs }
