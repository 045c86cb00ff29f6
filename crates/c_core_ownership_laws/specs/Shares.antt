-- How many references a frame owns through each of its variables, what else holds their cells, and which lines keep that in order. It speaks of the lines
-- alone, of no run.
use Rattle.std.specs.Prelude.{◌≡◌, ◌≤◌, ◌<◌, ◌⊎◌, ℕ, zero, suc, ◌+◌, ◌-◌, Bool, true, false, cond, not, ◌&&◌, List, [], ◌∷◌, length, map, Option, Some, None, slice_get}
use Rattle.std.specs.Option.{option_and_then}
use Rattle.c_core.specs.declared.code.Kind.{Kind}
use Rattle.c_core.specs.declared.code.Kind.TheVariants.{Tagged, Int64, Char, Object}
use Rattle.c_core.specs.declared.code.CArg.{CArg}
use Rattle.c_core.specs.declared.code.CArg.TheVariants as arg
use Rattle.c_core.specs.declared.code.Line.{Line}
use Rattle.c_core.specs.declared.code.Line.TheVariants.{Label, Move, Lit, Call, Virtual, TraitCall, Goto, If, IfError, Turn, Return, Inc, Dec, XDec}
use Rattle.c_core.specs.declared.code.CFunc.{CFunc}
use Rattle.c_core.specs.declared.code.Code.{Code}
use Rattle.c_core.specs.declared.primitive.Primitive.{Primitive}
use Rattle.c_core.specs.declared.primitive.Primitive.TheVariants as prim
use Rattle.c_core.specs.declared.primitive.ListPrim.TheVariants as list
use Rattle.c_core.specs.declared.primitive.DictPrim.TheVariants as dict
use Rattle.c_core.specs.declared.primitive.GlobalPrim.TheVariants as global
use Rattle.c_core.specs.Cells.{same}
use Rattle.c_core.specs.Functions.{function_named}
use Rattle.c_core.specs.Primitives.{KindAt, Is, OfGlobal, OfSlot, Parameter, Borrows, Steals, MaySteal, Outcome, Nothing, Owned, Lent, Row, row_of, primitive_named}
use Rattle.c_core.specs.WellFormed.{Declared, kind_at, named_kind}

-- a function of numbers that is changed at one of them
abbrev pub put : {A : Type 0} → ℕ → A → (ℕ → A) → ℕ → A
put zero a f zero = a
put zero a f (suc k) = f (suc k)
put (suc x) a f zero = f zero
put (suc x) a f (suc k) = put x a (λ j. f (suc j)) k

-- What is known of a variable: how many references the frame owns through it; whether its cell is lent: an older frame owns a
-- reference to it, if there is a cell at all; whether it is held, by an older frame or by the content of a cell that is there; and
-- whether it is empty: it has no cell.
pub record State : Type 0 where
  pub owns : ℕ
  pub lent : Bool
  pub held : Bool
  pub empty : Bool

-- the same of each variable
pub record Shares : Type 0 where
  pub owns : ℕ → ℕ
  pub lent : ℕ → Bool
  pub held : ℕ → Bool
  pub empty : ℕ → Bool

abbrev pub state_of : Shares → ℕ → State
state_of σ r = record { owns = σ.owns r; lent = σ.lent r; held = σ.held r; empty = σ.empty r }

-- the shares where k references are owned through x
abbrev pub with_owns : ℕ → ℕ → Shares → Shares
with_owns x k σ = record σ { owns = put x k σ.owns }

-- where another state of it is known
abbrev pub with_state : ℕ → State → Shares → Shares
with_state x s σ = record { owns = put x s.owns σ.owns; lent = put x s.lent σ.lent; held = put x s.held σ.held; empty = put x s.empty σ.empty }

-- where k references are owned through it, and b says whether its cell is lent
abbrev pub with_share : ℕ → ℕ → Bool → Shares → Shares
with_share x k b σ = with_state x (record { owns = k; lent = b; held = false; empty = false }) σ

-- where its cell is held, or it has none, and nothing is owned through it
abbrev pub with_held : ℕ → Shares → Shares
with_held x σ = with_state x (record { owns = 0; lent = false; held = true; empty = false }) σ

abbrev pub with_empty : ℕ → Shares → Shares
with_empty x σ = with_state x (record { owns = 0; lent = false; held = false; empty = true }) σ

-- the shares when contents may have let go of what they held
abbrev pub unheld : Shares → Shares
unheld σ = record σ { held = λ r. false }

-- and where b says whether they may have
abbrev pub unheld_if : Bool → Shares → Shares
unheld_if b σ = record σ { held = λ r. σ.held r && not b }

-- The first state is one where the second is known: it is empty; or as much is owned, and the second may forget what is lent and what is
-- held. What is lent is held as well.
abbrev pub IsKnownAs : State → State → Type 0
IsKnownAs s t =
    (s.empty ≡ true) ⊎ ((s.owns ≡ t.owns) × (t.lent ≡ true → s.lent ≡ true) × (t.held ≡ true → (s.held ≡ true) ⊎ (s.lent ≡ true)) × (t.empty ≡ false))

-- and so it is with each variable
abbrev pub Within : Shares → Shares → Type 0
Within σ τ = (r : ℕ) → IsKnownAs (state_of σ r) (state_of τ r)

-- whether words of a kind may have a cell
abbrev pub has_cells : Kind → Bool
has_cells Tagged = true
has_cells Int64 = false
has_cells Char = false
has_cells Object = true

-- the same of a kind that may be unknown
abbrev pub may_have_cells : Option Kind → Bool
may_have_cells None = true
may_have_cells (Some k) = has_cells k

-- whether a row steals an argument
abbrev pub steals : List Parameter → Bool
steals [] = false
steals (Steals k h ∷ ps) = true
steals (MaySteal k h ∷ ps) = true
steals (p ∷ ps) = steals ps

-- Whether a primitive may let go of what a content or a global held: one that steals puts it there in the place of something, or gives
-- it up; three take something out.
abbrev pub is_noisy : Primitive → Bool
is_noisy (prim.List list.Pop) = true
is_noisy (prim.Dict dict.DelItem) = true
is_noisy (prim.Global global.Clear) = true
is_noisy p = steals (row_of p).parameters

-- one reference, or none
abbrev pub one_if : Bool → ℕ
one_if true = 1
one_if false = 0

-- ---- in a function with these variables
module _ (vars : List Declared) where
  -- whether a variable's words may have a cell
  abbrev pub may_refer : ℕ → Bool
  may_refer x = may_have_cells (kind_at vars x)

  -- the variable has no cell
  abbrev pub HasNone : Shares → ℕ → Type 0
  HasNone σ x = (may_refer x ≡ false) ⊎ (σ.empty x ≡ true)

  -- an older frame owns what the variable holds, or it has no cell
  abbrev pub IsLent : Shares → ℕ → Type 0
  IsLent σ x = (σ.lent x ≡ true) ⊎ HasNone σ x

  -- an older frame or a content holds what the variable holds, or it has no cell
  abbrev pub IsHeld : Shares → ℕ → Type 0
  IsHeld σ x = IsLent σ x ⊎ (σ.held x ≡ true)

  -- a frame owns what the variable holds, or it has no cell: if it has one, that is there, whatever contents let go of
  abbrev pub IsUsable : Shares → ℕ → Type 0
  IsUsable σ x = (1 ≤ σ.owns x) ⊎ IsLent σ x

  -- a use of the variable meets a cell that is there, if it has one
  abbrev pub IsAtHand : Shares → ℕ → Type 0
  IsAtHand σ x = IsUsable σ x ⊎ (σ.held x ≡ true)

  -- a reference is owned through the variable, or it has no cell
  abbrev pub IsGivable : Shares → ℕ → Type 0
  IsGivable σ x = (1 ≤ σ.owns x) ⊎ HasNone σ x

  -- what is passed to a function stays with the caller, who lends it
  abbrev pub AreUsable : Shares → List CArg → Type 0
  AreUsable σ [] = Unit {0}
  AreUsable σ (arg.Var x ∷ rest) = IsUsable σ x × AreUsable σ rest
  AreUsable σ (a ∷ rest) = AreUsable σ rest

  -- An argument of a primitive, where the arguments before it left k: one that is borrowed is at hand, and a reference to one that is
  -- stolen is left.
  abbrev pub IsGiven : Shares → Parameter → CArg → (ℕ → ℕ) → Type 0
  IsGiven σ (Borrows h w) (arg.Var x) k = IsAtHand σ x
  IsGiven σ (Steals h w) (arg.Var x) k = (1 ≤ k x) ⊎ HasNone σ x
  IsGiven σ (MaySteal h w) (arg.Var x) k = (1 ≤ k x) ⊎ HasNone σ x
  IsGiven σ _ _ k = Unit {0}

  -- what it leaves in turn
  abbrev pub one_taken : Parameter → CArg → (ℕ → ℕ) → ℕ → ℕ
  one_taken (Steals h w) (arg.Var x) k = put x (k x - 1) k
  one_taken (MaySteal h w) (arg.Var x) k = put x (k x - 1) k
  one_taken _ _ k = k

  -- all arguments, from left to right
  abbrev pub AreGiven : Shares → List Parameter → List CArg → (ℕ → ℕ) → Type 0
  AreGiven σ (p ∷ ps) (a ∷ rest) k = IsGiven σ p a k × AreGiven σ ps rest (one_taken p a k)
  AreGiven σ _ _ k = Unit {0}

  -- what they leave
  abbrev pub left_over : List Parameter → List CArg → (ℕ → ℕ) → ℕ → ℕ
  left_over (p ∷ ps) (a ∷ rest) k = left_over ps rest (one_taken p a k)
  left_over _ _ k = k

  -- A place for a result, which may have a cell where b is true: only a word that has none may be left without a target, or stand
  -- in a variable of a number.
  abbrev pub IsTarget : Bool → Option ℕ → Type 0
  IsTarget b None = b ≡ false
  IsTarget b (Some x) = (x < length vars) × (may_refer x ≡ false → b ≡ false)

  -- a place for what a row answers: what is lent needs none, as its reference stays where it is
  abbrev pub HasRoom : Outcome → Bool → Option ℕ → Type 0
  HasRoom Nothing b x = IsTarget b x
  HasRoom (Owned k) b x = IsTarget b x
  HasRoom (Lent k) b None = Unit {0}
  HasRoom (Lent k) b (Some x) = IsTarget b (Some x)

  -- no reference is owned through the variable
  abbrev pub IsClear : Shares → ℕ → Type 0
  IsClear σ x = (σ.owns x ≡ 0) ⊎ (σ.empty x ≡ true)

  -- nor through the target, as what it holds is written over
  abbrev pub IsFree : (ℕ → ℕ) → (ℕ → Bool) → Option ℕ → Type 0
  IsFree owns empty None = Unit {0}
  IsFree owns empty (Some x) = (owns x ≡ 0) ⊎ (empty x ≡ true)

  -- the shares when a word is in the target with its reference; a number has none
  abbrev pub with_answer : Option ℕ → Shares → Shares
  with_answer None σ = σ
  with_answer (Some x) σ = with_share x (one_if (may_refer x)) false σ

  -- the shares when a word is in the target without a reference: the content that it was read from holds its cell
  abbrev pub with_loan : Option ℕ → Shares → Shares
  with_loan None σ = σ
  with_loan (Some x) σ = with_held x σ

  -- the shares when what a row answers is in the target
  abbrev pub with_outcome : Outcome → Option ℕ → Shares → Shares
  with_outcome Nothing x σ = with_answer x σ
  with_outcome (Owned k) x σ = with_answer x σ
  with_outcome (Lent k) x σ = with_loan x σ

  -- the kind of the target, if there is one
  abbrev pub target_kind : Option ℕ → Option Kind
  target_kind None = None
  target_kind (Some x) = kind_at vars x

-- whether words of the kind that stands in a row may have a cell, where a call has these arguments and a target of a kind: that of a
-- slot is tested to be the target's
abbrev pub cells_at : Code → List CArg → Option Kind → KindAt → Bool
cells_at code args target (Is k) = has_cells k
cells_at code args target OfGlobal = may_have_cells (named_kind code args)
cells_at code args target OfSlot = may_have_cells target

-- whether what a row answers may have a cell
abbrev pub answers_cells : Code → List CArg → Option Kind → Outcome → Bool
answers_cells code args target Nothing = false
answers_cells code args target (Owned k) = cells_at code args target k
answers_cells code args target (Lent k) = cells_at code args target k

-- a row that answers nothing has no target
abbrev pub HasTarget : Outcome → Option ℕ → Type 0
HasTarget Nothing x = x ≡ None
HasTarget (Owned k) x = Unit {0}
HasTarget (Lent k) x = Unit {0}

-- whether what a function returns may have a cell
abbrev pub returns_cells : Option CFunc → Bool
returns_cells None = true
returns_cells (Some g) = has_cells g.ret

-- the function that a call names, if there is one
abbrev pub callee_named : Code → List ℕ → Option CFunc
callee_named code name = option_and_then (slice_get code.funcs) (function_named code.funcs name)

-- ---- lines
-- A line of a function of a code is in order from these shares, where Go says what is to hold of the shares at the next line, and
-- Enters with which shares a label is entered by a jump.
module _ (code : Code) (g : CFunc) (Enters : ℕ → Shares → Type 0) where
  -- a jump to the label of number n is in order from these shares
  abbrev pub Jumps : Shares → ℕ → Type 0
  Jumps σ n = (τ : Shares) × Enters n τ × Within σ τ

  -- The arguments are given, and nothing is owned through the target; then the target has one reference, or none where it is lent what
  -- it holds, and a primitive that may let go of something leaves no other variable held. Where the primitive fails, the target holds an error value, which has no cell, so one reference to it is as good as none:
  -- an `if` that tests for the error value says which it is to be on the error side.
  abbrev pub PrimitiveChecks : Shares → Option ℕ → List CArg → Primitive → (Shares → Type 0) → Type 0
  PrimitiveChecks σ x args p Go =
      let r : Row = row_of p in
      let left : ℕ → ℕ = left_over g.vars r.parameters args σ.owns in
      AreGiven g.vars σ r.parameters args σ.owns × HasTarget r.outcome x × HasRoom g.vars r.outcome (answers_cells code args (target_kind g.vars x) r.outcome) x × IsFree g.vars left σ.empty x × Go (with_outcome g.vars r.outcome x (unheld_if (is_noisy p) (record σ { owns = left })))

  -- A function is lent its arguments, so no content alone may hold one, and what it returns comes with its reference. It may let go of
  -- anything that its caller does not own.
  abbrev pub CallChecks : Shares → Option ℕ → List ℕ → List CArg → Option Primitive → (Shares → Type 0) → Type 0
  CallChecks σ x name args (Some p) Go = PrimitiveChecks σ x args p Go
  CallChecks σ x name args None Go =
      AreUsable g.vars σ args × IsTarget g.vars (returns_cells (callee_named code name)) x × IsFree g.vars σ.owns σ.empty x × Go (with_answer g.vars x (unheld σ))

  -- A method is lent its arguments, of which the object is the first. What it returns is tested to be of the target's kind when it is
  -- called, and comes with its reference.
  abbrev pub MethodChecks : Shares → ℕ → List ℕ → (Shares → Type 0) → Type 0
  MethodChecks σ x args Go =
      AreUsable g.vars σ (map arg.Var args) × (x < length g.vars) × IsFree g.vars σ.owns σ.empty (Some x) × Go (with_answer g.vars (Some x) (unheld σ))

  -- A move hands a reference of its source on, which may be lent as well; or it lends what is lent; or its target is held or empty as its
  -- source is; or a variable stays as it is. A number is usable anyway, so no mark says that it is lent.
  abbrev pub MoveChecks : Shares → ℕ → ℕ → (Shares → Type 0) → Type 0
  MoveChecks σ x y Go =
      let left : Shares = with_owns y (σ.owns y - 1) σ in
      IsTarget g.vars (may_refer g.vars y) (Some x) × (((1 ≤ σ.owns y) × IsClear g.vars left x × ((b : Bool) × (b ≡ true → IsLent g.vars σ y) × Go (with_share x 1 b left))) ⊎ ((IsLent g.vars σ y × IsClear g.vars σ x × Go (with_share x 0 (may_refer g.vars x) σ)) ⊎ ((IsHeld g.vars σ y × IsClear g.vars σ x × Go (with_held x σ)) ⊎ ((HasNone g.vars σ y × IsClear g.vars σ x × Go (with_empty x σ)) ⊎ ((x ≡ y) × IsAtHand g.vars σ x × Go σ)))))

  -- A literal has no cell, so its variable has any state that one likes; so has a variable that holds its error value. At a return one
  -- reference to what is returned is owned, and no other, but that an empty variable has none, and a number is returned where the result
  -- is one. A variable is given up that owns a reference or has no cell; then contents may let go of what they held.
  abbrev pub LineChecks : Shares → Line → (Shares → Type 0) → Type 0
  LineChecks σ Label Go = Go σ
  LineChecks σ (Move x y) Go = MoveChecks σ x y Go
  LineChecks σ (Lit x l) Go = (x < length g.vars) × IsClear g.vars σ x × ((s : State) × Go (with_state x s σ))
  LineChecks σ (Call x name args) Go = CallChecks σ x name args (primitive_named name) Go
  LineChecks σ (Virtual x o n args) Go = MethodChecks σ x (o ∷ args) Go
  LineChecks σ (TraitCall x o t n args) Go = MethodChecks σ x (o ∷ args) Go
  LineChecks σ (Goto n) Go = Jumps σ n
  LineChecks σ (If x n m) Go = Jumps σ n × Jumps σ m
  LineChecks σ (IfError x n m) Go = ((s : State) × Jumps (with_state x s σ) n) × Jumps σ m
  LineChecks σ Turn Go = Go σ
  LineChecks σ (Return x) Go =
      (has_cells g.ret ≡ false → may_refer g.vars x ≡ false) × ((r : ℕ) → (σ.owns r ≡ cond (may_refer g.vars x) (same x r) 0) ⊎ (σ.empty r ≡ true))
  LineChecks σ (Inc x) Go = IsAtHand g.vars σ x × Go (with_owns x (σ.owns x + 1) σ)
  LineChecks σ (Dec x) Go = IsGivable g.vars σ x × Go (unheld (with_owns x (σ.owns x - 1) σ))
  LineChecks σ (XDec x) Go = IsGivable g.vars σ x × Go (unheld (with_owns x (σ.owns x - 1) σ))

  -- these lines are in order from these shares up to their jump; where they have none, End holds of the shares behind them
  module _ (End : Shares → Type 0) where
    abbrev pub Checks : Shares → List Line → Type 0
    Checks σ [] = End σ
    Checks σ (l ∷ ls) = LineChecks σ l (λ τ. Checks τ ls)
