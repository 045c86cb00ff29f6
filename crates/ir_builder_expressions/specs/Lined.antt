-- The source lines of the code of an expression. Each part has a stretch of code that computes it, with its own lines, and what
-- stands around these stretches has the line of the node. So an operation that may fail has the line of the node whose own it is;
-- one that never fails may be counted to the stretch of the last part in front of it.
use Rattle.std.specs.Prelude.{ℕ, List, [], ◌∷◌, Option, Some, None}
use Rattle.py_syntax.specs.declared.token.Span.{Span}
use Rattle.py_typed.specs.Sorts.{Sort}
use Rattle.py_typed.specs.Expressions.{TypedExpr, typed, TypedNode, Compare, And, Or, Cond, ListOf, TupleOf, Call, Print, TypedExprs, no_exprs, expr_then, Comparisons, no_comparisons, comparison_then}
use Rattle.ir_core.specs.declared.code.Program.{Program}
use Rattle.ir_builder_frames.specs.Building.{Building}
use Rattle.ir_builder_frames.specs.Settings.{Setting, rtype_of}
use Rattle.ir_builder_frames.specs.Computing.{means, Shows, Computes}
use Rattle.ir_builder_frames.specs.Placing.{Has}
use Rattle.ir_builder_frames.specs.Lines.{OwnLines}
use Rattle.ir_builder_expressions.specs.declared.applying.Unary.{Unary}
use Rattle.ir_builder_expressions.specs.Applying.{Applied, one, two, applied_in, absence_in}

-- ---- the parts of an expression, in the order in which their code stands

abbrev pub listed : TypedExprs → List TypedExpr
listed no_exprs = []
listed (expr_then e more) = e ∷ listed more

abbrev pub operands_in : Comparisons → List TypedExpr
operands_in no_comparisons = []
operands_in (comparison_then op e more) = e ∷ operands_in more

abbrev pub parts_in_arm : Option TypedExpr → List TypedExpr
parts_in_arm None = []
parts_in_arm (Some e) = e ∷ []

abbrev pub parts_applied : Option Applied → List TypedExpr
parts_applied None = []
parts_applied (Some (one op e)) = e ∷ []
parts_applied (Some (two op a b)) = a ∷ b ∷ []

-- where it is only asked whether a part is None, no operand is behind it: None has no code of its own
abbrev pub operands_behind : Option Unary → Comparisons → List TypedExpr
operands_behind None more = operands_in more
operands_behind (Some op) more = []

abbrev pub parts_of : TypedNode → List TypedExpr
parts_of (Compare e more) = e ∷ operands_behind (absence_in more) more
parts_of (And a b) = a ∷ b ∷ []
parts_of (Or a b) = a ∷ b ∷ []
parts_of (Cond a test b) = test ∷ a ∷ b ∷ []
parts_of (ListOf es) = listed es
parts_of (TupleOf es) = listed es
parts_of (Call f es) = listed es
parts_of (Print es) = listed es
parts_of n = parts_applied (applied_in n)

-- ---- the lines

-- the code computes an expression from whatever registers there are: it has every operation that the expression needs
abbrev pub IsCodeOf : Setting → TypedExpr → Building → Building → Type 0
IsCodeOf x e old new = (t : Sort) × (r : ℕ) × Computes x (Shows t) (rtype_of t) (means x e) old new r

-- what was added has a line, and whatever program has the whole has what stood before
pub record Around (l : ℕ) (old new : Building) : Type 0 where
  pub lines : OwnLines l old new
  pub stays : (p : Program) (fn : ℕ) → Has p fn new → Has p fn old

mutual
  -- each part has code of its own with its own lines, and what stands around them has the line of the expression
  pub data Lined : Setting → TypedExpr → Building → Building → Type 0 where
    lined : {x : Setting} {n : TypedNode} {t : Sort} {place : Span} {a b : Building} → LinedParts x place.line (parts_of n) a b → Lined x (typed n t place) a b

  -- parts one behind the other, and around them operations of one line
  pub data LinedParts : Setting → ℕ → List TypedExpr → Building → Building → Type 0 where
    own : {x : Setting} {l : ℕ} {a b : Building} → Around l a b → LinedParts x l [] a b
    part : {x : Setting} {l : ℕ} {e : TypedExpr} {es : List TypedExpr} {a b c d : Building} → Around l a b → IsCodeOf x e b c → Lined x e b c → LinedParts x l es c d → LinedParts x l (e ∷ es) a d
