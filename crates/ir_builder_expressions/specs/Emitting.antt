-- What the code of an expression does.
use Rattle.std.specs.Prelude.{◌≡◌, ℕ, true, List}
use Rattle.value_core.specs.Value.{Value}
use Rattle.py_typed.specs.Sorts.{Sort, Bool}
use Rattle.py_typed.specs.Expressions.{TypedExpr, TypedNode, TypedExprs, Comparisons, type_of}
use Rattle.source_soundness.specs.Watched.{expressions, chain}
use Rattle.source_meaning.specs.State.{on_to}
use Rattle.ir_builder_frames.specs.Watching.{watch, calls_in}
use Rattle.ir_core.specs.declared.code.Reg.{Reg}
use Rattle.ir_core.specs.declared.code.RType.TheVariants.{Ref}
use Rattle.ir_builder_frames.specs.Building.{Building}
use Rattle.ir_builder_frames.specs.Settings.{Setting, rtype_of}
use Rattle.ir_builder_expressions.specs.declared.applying.Unary.{Unary}
use Rattle.ir_builder_expressions.specs.declared.applying.Binary.{Binary}
use Rattle.ir_builder_operations.specs.Boxes.{boxed}
use Rattle.ir_builder_expressions.specs.Parts.{part_sort}
use Rattle.ir_builder_expressions.specs.Applying.{unary_goes, binary_goes}
use Rattle.ir_builder_expressions.specs.declared.comparing.Side.{Side}
use Rattle.ir_builder_expressions.specs.Comparing.{kind_sort, is_shown_as}
use Rattle.ir_builder_frames.specs.Computing.{Shows, Meaning, means, means_node, Computes, ComputesAll}
use Rattle.ir_builder_choices.specs.Choosing.{HasValue, ComputesFrom}

-- what several expressions mean, one after another, and what a chain of comparisons means
abbrev pub means_all : Setting → TypedExprs → Meaning (List Value)
means_all x es n = expressions (watch x.source) x.source.classes.classes (calls_in x.source n) x.source.globals x.variables es

abbrev pub means_chain : Setting → Sort → Value → Comparisons → Meaning Value
means_chain x s v more n = chain (watch x.source) x.source.classes.classes (calls_in x.source n) x.source.globals x.variables s v more

-- its value is in a register
abbrev pub Emits : Setting → TypedExpr → Building → Building → ℕ → Type 0
Emits x e old new r = Computes x (Shows (type_of e)) (rtype_of (type_of e)) (means x e) old new r

-- that of its node, which is not looked at yet, is in a register
abbrev pub EmitsNode : Setting → TypedNode → Sort → Building → Building → ℕ → Type 0
EmitsNode x k t old new r = Computes x (Shows t) (rtype_of t) (means_node x k t) old new r

-- it is, as a part of an operation whose result is of a type
abbrev pub EmitsPart : Setting → Sort → TypedExpr → Building → Building → ℕ → Type 0
EmitsPart x t e old new r = Computes x (Shows (part_sort t e)) (rtype_of (part_sort t e)) (means x e) old new r

-- the result of an operation on one part, and of one on two
abbrev pub EmitsOne : Setting → Unary → Sort → TypedExpr → Building → Building → ℕ → Type 0
EmitsOne x op t e old new r = Computes x (Shows t) (rtype_of t) (λ n s. on_to (means x e n s) (unary_goes op t (type_of e))) old new r

abbrev pub EmitsTwo : Setting → Binary → Sort → TypedExpr → TypedExpr → Building → Building → ℕ → Type 0
EmitsTwo x op t a b old new r =
    Computes x (Shows t) (rtype_of t) (λ n s. on_to (means x a n s) (λ v s1. on_to (means x b n s1) (binary_goes op t v))) old new r

-- its value is in a register for objects
abbrev pub EmitsObject : Setting → TypedExpr → Building → Building → ℕ → Type 0
EmitsObject x e old new r = Computes x (Shows boxed) Ref (means x e) old new r

-- the values of several are in registers
abbrev pub EmitsAll : Setting → List Sort → TypedExprs → Building → Building → List Reg → Type 0
EmitsAll x ts es old new rs = ComputesAll x ts (means_all x es) old new rs

-- an operand of a comparison, whose value is in a register
pub record EmitsSide (x : Setting) (e : TypedExpr) (q : Side) (old new : Building) : Type 0 where
  pub own : kind_sort q.own ≡ type_of e
  pub shown : is_shown_as (kind_sort q.own) (kind_sort q.shown) ≡ true
  pub emits : Computes x (Shows (kind_sort q.shown)) (rtype_of (kind_sort q.shown)) (means x e) old new q.reg.0

-- the comparisons of a chain behind an operand of a type, whose value is in a register of a type
abbrev pub EmitsChain : Setting → Sort → Sort → ℕ → Comparisons → Building → Building → ℕ → Type 0
EmitsChain x s u first more old new r = ComputesFrom x (HasValue u first) Bool (λ n v. means_chain x s v more n) old new r
