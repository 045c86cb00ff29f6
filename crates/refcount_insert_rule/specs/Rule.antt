-- Which counts an operation and an edge get: one rule. Before an operation a register has so many references; the operation takes
-- some and gives some; and afterwards the register is to have so many. What is short is taken before, and what is over is given up
-- after (mypyc's developer guide, "Reference counting").
use Rattle.std.specs.Prelude.{◌≡◌, ℕ, ◌+◌, ◌-◌, Bool, true, false, not, cond, List, [], ◌∷◌, ◌++◌, map, Option}
use Rattle.c_core.specs.Cells.{same, times}
use Rattle.c_core.specs.Primitives.{Parameter, Steals, MaySteal, row_of}
use Rattle.ir_core.specs.declared.code.RType.{RType}
use Rattle.ir_core.specs.declared.code.RType.TheVariants.{Int, I64, Bool as BoolType, Ref}
use Rattle.ir_core.specs.declared.code.Reg.{Reg}
use Rattle.ir_core.specs.declared.code.PArg.{PArg}
use Rattle.ir_core.specs.declared.code.PArg.TheVariants as arg
use Rattle.ir_core.specs.declared.code.Op.{Op}
use Rattle.ir_core.specs.declared.code.Op.TheVariants.{Move, Lit, Prim, Inc, Dec, XDec}
use Rattle.liveness.specs.Paths.{write_of, is_target}

-- whether values of a type may have a cell that is counted
abbrev pub is_counted : RType → Bool
is_counted Int = true
is_counted I64 = false
is_counted BoolType = false
is_counted Ref = true

abbrev pub is_stolen : Parameter → Bool
is_stolen (Steals k h) = true
is_stolen (MaySteal k h) = true
is_stolen _ = false

-- how often an argument takes a reference from a register
abbrev pub takes_one : Bool → PArg → ℕ → ℕ
takes_one true (arg.Var s) r = same s.0 r
takes_one _ _ r = 0

abbrev pub taken : List Parameter → List PArg → ℕ → ℕ
taken (p ∷ ps) (a ∷ args) r = takes_one (is_stolen p) a r + taken ps args r
taken _ _ r = 0

-- how often an operation takes a reference from a register: a move takes that of its source, a primitive those of the arguments
-- that it steals, each as often as it stands there. What is passed to a function is only lent
abbrev pub takes : Op → ℕ → ℕ
takes (Move x y) r = same y.0 r
takes (Prim to q args) r = taken (row_of q).parameters args r
takes _ r = 0

-- what it gives its target, of which so much is wanted. A literal has no cell: it gives what is wanted
abbrev pub gives : Op → ℕ → ℕ
gives (Lit x l) wanted = wanted
gives _ wanted = 1

-- a number for the target, and others for the other registers
abbrev pub but_at : Option ℕ → ℕ → (ℕ → ℕ) → ℕ → ℕ
but_at target n k r = cond (is_target target r) n (k r)

-- where only some registers are counted, from what these have to what they are to have afterwards
module _ (counted : ℕ → Bool) (o : Op) (have want : ℕ → ℕ) where
  -- the old content of the target is wanted no more
  abbrev pub need : ℕ → ℕ
  need r = takes o r + but_at (write_of o) 0 want r

  abbrev pub counts_before : ℕ → ℕ
  counts_before r = cond (counted r) (need r - have r) 0

  -- what a register has when the operation has taken and given
  abbrev pub done : ℕ → ℕ
  done r = cond (is_target (write_of o) r) (gives o (want r)) (have r + counts_before r - takes o r)

  abbrev pub counts_after : ℕ → ℕ
  counts_after r = cond (counted r) (done r - want r) 0

-- ---- counts as operations

-- so many references more, at a source line
abbrev pub ups : List ℕ → ℕ → List (Op × ℕ)
ups rs line = map (λ r. (Inc record { 0 = r }, line)) rs

-- so many less. A register that may hold its error value is given up by XDec
abbrev pub down : Bool → ℕ → Op
down true r = Dec record { 0 = r }
down false r = XDec record { 0 = r }

-- registers that are given up, each with whether it surely holds no error value
abbrev pub downs : List (ℕ × Bool) → ℕ → List (Op × ℕ)
downs rs line = map (λ d. (down d.1 d.0, line)) rs

abbrev pub given_up : List (ℕ × Bool) → List ℕ
given_up rs = map (λ (d : ℕ × Bool). d.0) rs

-- an operation is done with its arguments, which are no error values; its target may be one
abbrev pub AreSure : Option ℕ → List (ℕ × Bool) → Type 0
AreSure target [] = Unit {0}
AreSure target (d ∷ ds) = (d.1 ≡ not (is_target target d.0)) × AreSure target ds

-- what dies on an edge may be an error value
abbrev pub AreUnsure : List (ℕ × Bool) → Type 0
AreUnsure [] = Unit {0}
AreUnsure (d ∷ ds) = (d.1 ≡ false) × AreUnsure ds

-- operations that are one operation with its counts, in any order
pub record IsGroup (counted : ℕ → Bool) (o : Op × ℕ) (have want : ℕ → ℕ) (ops : List (Op × ℕ)) : Type 0 where
  pub up : List ℕ
  pub down : List (ℕ × Bool)
  pub is : ops ≡ ups up o.1 ++ (o ∷ downs down o.1)
  pub before : (r : ℕ) → times up r ≡ counts_before counted o.0 have want r
  pub after : (r : ℕ) → times (given_up down) r ≡ counts_after counted o.0 have want r
  pub sure : AreSure (write_of o.0) down

-- operations that are the counts of an edge, which stand for no source line
pub record IsEdge (have want : ℕ → ℕ) (ops : List (Op × ℕ)) : Type 0 where
  pub up : List ℕ
  pub down : List (ℕ × Bool)
  pub is : ops ≡ ups up 0 ++ downs down 0
  pub short : (r : ℕ) → times up r ≡ want r - have r
  pub over : (r : ℕ) → times (given_up down) r ≡ have r - want r
  pub unsure : AreUnsure down

-- operations that are the counts of a return: what is returned is to be owned
pub record IsReturned (counted : ℕ → Bool) (x : Reg) (have : ℕ → ℕ) (ops : List (Op × ℕ)) : Type 0 where
  pub up : List ℕ
  pub is : ops ≡ ups up 0
  pub short : (r : ℕ) → times up r ≡ cond (counted r) (same x.0 r - have r) 0
