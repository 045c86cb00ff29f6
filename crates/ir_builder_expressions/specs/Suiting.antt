-- What is asked of an expression that is built: its form is one of those that are compiled, and its parts have the types of a
-- well-typed one, in a function of a module with some variables.
use Rattle.std.specs.Prelude.{◌≡◌, ◌≤◌, ◌⊎◌, ℕ, suc, true, List, [], ◌∷◌, Option, Some, None, slice_get}
use Rattle.value_core.specs.Arithmetic.{lies_within}
use Rattle.py_typed.specs.Sorts as sort
use Rattle.py_typed.specs.Sorts.{Sort, Sorts}
use Rattle.py_typed.specs.Statements.{Variable, TypedFunc, TypedModule}
use Rattle.py_typed.specs.Expressions.{TypedExpr, typed, TypedNode, Int, Str, Flag, Nothing, Local, Global, Neg, Not, Truth, Arith, Concat, Compare, And, Or, Cond, ListOf, TupleOf, At, TupleAt, Call, Input, Len, ToStr, Append, Pop, Coerce, TypedExprs, no_exprs, expr_then, Comparisons, no_comparisons, comparison_then, type_of, exprs_of}
use Rattle.ir_builder_frames.specs.Settings.{parameter_sorts}
use Rattle.ir_builder_expressions.specs.declared.applying.Unary.{Unary}
use Rattle.ir_builder_expressions.specs.declared.applying.Unary.TheVariants.{Negated, Inverted, Tested, Counted, Written, Coerced, Popped, Part}
use Rattle.ir_builder_expressions.specs.declared.applying.Binary.TheVariants.{Arithmetic, Joined, Appended}
use Rattle.ir_builder_comparisons.specs.Comparing.{is_ordering}
use Rattle.ir_builder_expressions.specs.Parts.{is_scalar, is_pair}
use Rattle.ir_builder_expressions.specs.Applying.{UnarySuits, BinarySuits, index_of, absence_in}
use Rattle.ir_builder_expressions.specs.Truths.{is_testable}

-- how many expressions these are
abbrev pub count_of : TypedExprs → ℕ
count_of no_exprs = 0
count_of (expr_then e more) = suc (count_of more)

-- a variable of the first type is read as one of the second: of its own, or, where it may be None and is not, of the other one
abbrev pub ReadsAs : Sort → Sort → Type 0
ReadsAs s t = (s ≡ t) ⊎ (s ≡ sort.Optional t)

-- the type of what stands behind the first operator of a chain
abbrev pub behind_sort : Comparisons → Sort
behind_sort no_comparisons = sort.Nothing
behind_sort (comparison_then op e more) = type_of e

-- what is asked of a part that is compared: the first where it is only asked whether it is None, and else the second
abbrev pub ComparedSuits : Option Unary → (Unary → Type 0) → Type 0 → Type 0
ComparedSuits (Some op) Absence Chain = Absence op
ComparedSuits None Absence Chain = Chain

module _ (m : TypedModule) (vs : List Variable) where
  abbrev mutual
    pub Suits : TypedExpr → Type 0
    Suits (typed e t place) = NodeSuits e t

    pub NodeSuits : TypedNode → Sort → Type 0
    NodeSuits (Int n) t = (t ≡ sort.Int) × (lies_within 127 n ≡ true)
    NodeSuits (Str text) t = t ≡ sort.Str
    NodeSuits (Flag b) t = t ≡ sort.Bool
    NodeSuits Nothing t = t ≡ sort.Nothing
    NodeSuits (Local i) t = (v : Variable) × (slice_get vs i ≡ Some v) × ReadsAs v.1 t
    NodeSuits (Global i) t = (v : Variable) × (slice_get m.globals i ≡ Some v) × (v.1 ≡ t)
    NodeSuits (Neg e) t = UnarySuits Negated t (type_of e) × Suits e
    NodeSuits (Not e) t = UnarySuits Inverted t (type_of e) × Suits e
    NodeSuits (Truth e) t = UnarySuits Tested t (type_of e) × Suits e
    NodeSuits (Arith op a b) t = BinarySuits (Arithmetic op) t (type_of a) (type_of b) × Suits a × Suits b
    NodeSuits (Concat a b) t = BinarySuits Joined t (type_of a) (type_of b) × Suits a × Suits b
    NodeSuits (Compare e more) t =
        ComparedSuits (absence_in more)
        (λ op. UnarySuits op t (type_of e) × Suits e × (behind_sort more ≡ sort.Nothing))
        ((t ≡ sort.Bool) × (is_scalar (type_of e) ≡ true) × Suits e × ComparisonsSuit (type_of e) more)
    NodeSuits (And a b) t = (is_testable t ≡ true) × (type_of a ≡ t) × (type_of b ≡ t) × Suits a × Suits b
    NodeSuits (Or a b) t = (is_testable t ≡ true) × (type_of a ≡ t) × (type_of b ≡ t) × Suits a × Suits b
    NodeSuits (Cond a test b) t =
        (type_of a ≡ t) × (type_of test ≡ sort.Bool) × (type_of b ≡ t) × Suits a × Suits test × Suits b
    NodeSuits (ListOf es) t = (u : Sort) × (t ≡ sort.ListOf u) × AllSuit es
    NodeSuits (TupleOf es) t = (us : Sorts) × (t ≡ sort.TupleOf us) × (1 ≤ count_of es) × (count_of es ≤ 16) × AllSuit es
    NodeSuits (At a b) t = BinarySuits (index_of (type_of a)) t (type_of a) (type_of b) × Suits a × Suits b
    NodeSuits (TupleAt e i) t = UnarySuits (Part i) t (type_of e) × Suits e
    NodeSuits (Call f es) t = (g : TypedFunc) × (slice_get m.funcs f ≡ Some g) × (g.ret ≡ t) × ArgumentsSuit (parameter_sorts g) es
    NodeSuits Input t = t ≡ sort.Str
    NodeSuits (Len e) t = UnarySuits Counted t (type_of e) × Suits e
    NodeSuits (ToStr e) t = UnarySuits Written t (type_of e) × Suits e
    NodeSuits (Append a b) t = BinarySuits Appended t (type_of a) (type_of b) × Suits a × Suits b
    NodeSuits (Pop e) t = UnarySuits Popped t (type_of e) × Suits e
    NodeSuits (Coerce e) t = UnarySuits Coerced t (type_of e) × Suits e
    NodeSuits _ t = ⊥

    -- arguments for parameters of these types
    pub ArgumentsSuit : List Sort → TypedExprs → Type 0
    ArgumentsSuit [] no_exprs = Unit {0}
    ArgumentsSuit (t ∷ ts) (expr_then e more) = (type_of e ≡ t) × Suits e × ArgumentsSuit ts more
    ArgumentsSuit _ _ = ⊥

    -- any expressions
    pub AllSuit : TypedExprs → Type 0
    AllSuit no_exprs = Unit {0}
    AllSuit (expr_then e more) = Suits e × AllSuit more

    -- the further operands of a chain, behind one of a type
    pub ComparisonsSuit : Sort → Comparisons → Type 0
    ComparisonsSuit s no_comparisons = Unit {0}
    ComparisonsSuit s (comparison_then op e more) =
        (is_ordering op ≡ true) × (is_pair s (type_of e) ≡ true) × (is_scalar (type_of e) ≡ true) × Suits e × ComparisonsSuit (type_of e) more

  abbrev pub SomeSuit : List TypedExpr → Type 0
  SomeSuit es = AllSuit (exprs_of es)
