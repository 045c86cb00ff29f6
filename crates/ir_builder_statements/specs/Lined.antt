-- The source lines of the code of statements: that of the expression or of the statement whose own an operation is, as far as
-- stretches of code say it.
use Rattle.std.specs.Prelude.{ℕ, List, [], ◌∷◌, ◌++◌, Option, Some, None}
use Rattle.py_typed.specs.Sorts.{Sort}
use Rattle.py_typed.specs.Expressions.{TypedExpr}
use Rattle.py_typed.specs.Statements.{TypedStmt, on_line, TypedAct, Do, Assign, Aug, If, While, ForRange, ForList, Return, TypedSuite, no_stmts, stmt_then, Arms, no_arms, arm_then, TypedTarget, AttrTarget, ItemTarget}
use Rattle.ir_builder_frames.specs.Building.{Building}
use Rattle.ir_builder_frames.specs.Settings.{Setting}
use Rattle.ir_builder_expressions.specs.Lined.{Around, IsCodeOf, Lined}
use Rattle.ir_builder_loops_and_jumps.specs.declared.ways.Exit.{Exit}
use Rattle.ir_builder_loops_and_jumps.specs.Means.{means_alone, means_statement, means_suite}
use Rattle.ir_builder_loops_and_jumps.specs.Runs.{Works}

-- ---- what a statement is made of

-- an expression whose value is used, one alone, and statements in a row
pub data Piece : Type 0 where
  value : TypedExpr → Piece
  alone : TypedExpr → Piece
  body : TypedSuite → Piece

abbrev pub arm_pieces : Arms → List Piece
arm_pieces no_arms = []
arm_pieces (arm_then test suite more) = value test ∷ body suite ∷ arm_pieces more

abbrev pub returned_pieces : Option TypedExpr → List Piece
returned_pieces None = []
returned_pieces (Some e) = value e ∷ []

-- of the bounds of a range
abbrev pub bound_pieces : Option TypedExpr → TypedExpr → List Piece
bound_pieces start stop = returned_pieces start ++ value stop ∷ []

-- of what is assigned to: the parts that say which attribute or item it is
abbrev pub target_pieces : TypedTarget → List Piece
target_pieces (AttrTarget e name) = value e ∷ []
target_pieces (ItemTarget e i) = value e ∷ value i ∷ []
target_pieces target = []

abbrev pub all_target_pieces : List TypedTarget → List Piece
all_target_pieces [] = []
all_target_pieces (target ∷ targets) = target_pieces target ++ all_target_pieces targets

-- of a loop before its body
abbrev pub head_pieces : TypedStmt → List Piece
head_pieces (on_line (While test suite) l) = value test ∷ []
head_pieces (on_line (ForRange targets start stop suite) l) = bound_pieces start stop ++ all_target_pieces targets
head_pieces (on_line (ForList targets e suite) l) = value e ∷ all_target_pieces targets
head_pieces s = []

-- in the order in which their code stands
abbrev pub pieces_of : TypedAct → List Piece
pieces_of (Do e) = alone e ∷ []
pieces_of (Assign targets e) = value e ∷ all_target_pieces targets
pieces_of (Aug target op e t) = target_pieces target ++ value e ∷ []
pieces_of (If arms other) = arm_pieces arms ++ body other ∷ []
pieces_of (While test suite) = value test ∷ body suite ∷ []
pieces_of (ForRange targets start stop suite) = (bound_pieces start stop ++ all_target_pieces targets) ++ body suite ∷ []
pieces_of (ForList targets e suite) = value e ∷ (all_target_pieces targets ++ body suite ∷ [])
pieces_of (Return o) = returned_pieces o
pieces_of _ = []

-- ---- the lines

-- the code does what statements mean, from whatever registers there are, with some ways out
abbrev pub IsCodeOfSuite : Setting → TypedSuite → Building → Building → Type 0
IsCodeOfSuite x ss old new = (gives : Option Sort) × (exits : List Exit) × Works x gives (means_suite x ss) old new exits

abbrev pub IsCodeOfStatement : Setting → TypedStmt → Building → Building → Type 0
IsCodeOfStatement x s old new = (gives : Option Sort) × (exits : List Exit) × Works x gives (means_statement x s) old new exits

abbrev pub IsCodeOfPiece : Setting → Piece → Building → Building → Type 0
IsCodeOfPiece x (value e) old new = IsCodeOf x e old new
IsCodeOfPiece x (alone e) old new = (gives : Option Sort) → Works x gives (means_alone x e) old new []
IsCodeOfPiece x (body ss) old new = IsCodeOfSuite x ss old new

mutual
  pub data LinedPiece : Setting → Piece → Building → Building → Type 0 where
    of_value : {x : Setting} {e : TypedExpr} {a b : Building} → Lined x e a b → LinedPiece x (value e) a b
    of_alone : {x : Setting} {e : TypedExpr} {a b : Building} → Lined x e a b → LinedPiece x (alone e) a b
    of_body : {x : Setting} {ss : TypedSuite} {a b : Building} → LinedSuite x ss a b → LinedPiece x (body ss) a b

  -- pieces one behind the other, and around them operations of one line
  pub data LinedPieces : Setting → ℕ → List Piece → Building → Building → Type 0 where
    own : {x : Setting} {l : ℕ} {a b : Building} → Around l a b → LinedPieces x l [] a b
    piece : {x : Setting} {l : ℕ} {p : Piece} {ps : List Piece} {a b c d : Building} → Around l a b → IsCodeOfPiece x p b c → LinedPiece x p b c → LinedPieces x l ps c d → LinedPieces x l (p ∷ ps) a d

  -- each piece has code of its own with its own lines, and what stands around them has the line of the statement
  pub data LinedStatement : Setting → TypedStmt → Building → Building → Type 0 where
    lined : {x : Setting} {s : TypedAct} {l : ℕ} {a b : Building} → LinedPieces x l (pieces_of s) a b → LinedStatement x (on_line s l) a b

  -- statements in a row, with nothing between them
  pub data LinedSuite : Setting → TypedSuite → Building → Building → Type 0 where
    none : {x : Setting} {a b : Building} → ((l : ℕ) → Around l a b) → LinedSuite x no_stmts a b
    next : {x : Setting} {s : TypedStmt} {ss : TypedSuite} {a b c : Building} → IsCodeOfStatement x s a b → LinedStatement x s a b → LinedSuite x ss b c → LinedSuite x (stmt_then s ss) a c
