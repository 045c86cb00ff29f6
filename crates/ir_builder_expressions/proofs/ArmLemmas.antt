-- What is asked of an expression is asked of its parts, and what its parts promise it promises.
use Rattle.ir_builder_expressions.proofs.Common.{◌≡◌, sym, ◌∙◌, ap, subst, ℕ, Bool, List, map, Some, None, ℤ, Box, Global, CmpOp, TExpr, TKind, Sort, TypedExpr, TypedNode, typed, typed_expr, typed_node, exprs_of, comparisons_of, typed_comparison, TypedModule, Variable, typed_expr_of, typed_node-Bool, typed_node-Local, typed_node-Global, typed_expr-Compare, typed_node-And, typed_node-Or, typed_node-Cond, typed_node-Call, typed_node-Int, typed_node-Str, typed_node-Input, typed_node-Nothing, typed_node-List, typed_node-Tuple, Building, Setting, Suits, NodeSuits, is_testable, ChoiceSuits, Emits, looked_at, Shows, EmitsNode}
use Rattle.py_typed.specs.declared.expression.TKind as kind
use Rattle.py_typed.specs.Sorts.{sort as sort_of}
use Rattle.py_typed.specs.Expressions as tree

abbrev Part : Type 0
Part = Box TExpr Global

-- an expression whose node is known
abbrev pub Is : TExpr → TypedNode → Type 0
Is e n = typed_expr e ≡ typed n (sort_of e.ty) e.span

pub is_node : (e : TExpr) (k : TKind) (n : TypedNode) → typed_node k ≡ n → e.kind ≡ k → Is e n
is_node e k n at is = typed_expr_of e k is ∙ ap (λ n. typed n (sort_of e.ty) e.span) at

pub is_bool : (e : TExpr) (b : Bool) → e.kind ≡ kind.Bool b → Is e (tree.Flag b)
is_bool e b is = is_node e _ _ (typed_node-Bool b) is

pub is_local : (e : TExpr) (i : ℕ) → e.kind ≡ kind.Local i → Is e (tree.Local i)
is_local e i is = is_node e _ _ (typed_node-Local i) is

pub is_global : (e : TExpr) (i : ℕ) → e.kind ≡ kind.Global i → Is e (tree.Global i)
is_global e i is = is_node e _ _ (typed_node-Global i) is

-- parts have other names in the code
pub is_compare : (e : TExpr) (a : Part) (cs ds : List (CmpOp × TExpr)) (p : TExpr) → e.kind ≡ kind.Compare a cs → p ≡ a.value → ds ≡ cs → Is e (tree.Compare (typed_expr p) (comparisons_of (map typed_comparison ds)))
is_compare e a cs ds p is same rest = rw (same, rest) (typed_expr-Compare e a cs is)

pub is_and : (e : TExpr) (a b : Part) (p q : TExpr) → e.kind ≡ kind.And a b → p ≡ a.value → q ≡ b.value → Is e (tree.And (typed_expr p) (typed_expr q))
is_and e a b p q is same other = rw (same, other) (is_node e _ _ (typed_node-And a b) is)

pub is_or : (e : TExpr) (a b : Part) (p q : TExpr) → e.kind ≡ kind.Or a b → p ≡ a.value → q ≡ b.value → Is e (tree.Or (typed_expr p) (typed_expr q))
is_or e a b p q is same other = rw (same, other) (is_node e _ _ (typed_node-Or a b) is)

pub is_cond : (e : TExpr) (a test b : Part) (p t q : TExpr) → e.kind ≡ kind.Cond a test b → p ≡ a.value → t ≡ test.value → q ≡ b.value → Is e (tree.Cond (typed_expr p) (typed_expr t) (typed_expr q))
is_cond e a test b p t q is same tested other = rw (same, tested, other) (is_node e _ _ (typed_node-Cond a test b) is)

pub is_call : (e : TExpr) (f : ℕ) (es fs : List TExpr) → e.kind ≡ kind.Call f es → fs ≡ es → Is e (tree.Call f (exprs_of (map typed_expr fs)))
is_call e f es fs is same = rw same (is_node e _ _ (typed_node-Call f es) is)

pub is_int : (e : TExpr) (n : ℤ) → e.kind ≡ kind.Int n → Is e (tree.Int n)
is_int e n is = is_node e _ _ (typed_node-Int n) is

pub is_text : (e : TExpr) (text : List ℕ) → e.kind ≡ kind.Str text → Is e (tree.Str text)
is_text e text is = is_node e _ _ (typed_node-Str text) is

pub is_nothing : (e : TExpr) → e.kind ≡ kind.Nothing → Is e tree.Nothing
is_nothing e is = is_node e _ _ typed_node-Nothing is

pub is_list : (e : TExpr) (es fs : List TExpr) → e.kind ≡ kind.List es → fs ≡ es → Is e (tree.ListOf (exprs_of (map typed_expr fs)))
is_list e es fs is same = rw same (is_node e _ _ (typed_node-List es) is)

pub is_tuple : (e : TExpr) (es fs : List TExpr) → e.kind ≡ kind.Tuple es → fs ≡ es → Is e (tree.TupleOf (exprs_of (map typed_expr fs)))
is_tuple e es fs is same = rw same (is_node e _ _ (typed_node-Tuple es) is)

pub is_input : (e : TExpr) → e.kind ≡ kind.Input → Is e tree.Input
is_input e is = is_node e _ _ typed_node-Input is

-- what is asked of it
module _ (m : TypedModule) (vs : List Variable) where
  pub asked : (e : TExpr) (n : TypedNode) → Is e n → Suits m vs (typed_expr e) → NodeSuits m vs n (sort_of e.ty)
  asked e n is s = subst (Suits m vs) is s

  -- of a choice by the truth of a part: each row, and its arms
  pub and_asked : (e : TExpr) (a b : TypedExpr) → Is e (tree.And a b) → Suits m vs (typed_expr e) → ChoiceSuits m vs (sort_of e.ty) a (Some b) None
  and_asked e a b is s =
      let h = asked e (tree.And a b) is s in
      record { tested = ap is_testable h.1 ∙ h.0; test_suits = h.3; body_type = h.2; other_type = h.1; body_suits = h.4; other_suits = tt }

  pub or_asked : (e : TExpr) (a b : TypedExpr) → Is e (tree.Or a b) → Suits m vs (typed_expr e) → ChoiceSuits m vs (sort_of e.ty) a None (Some b)
  or_asked e a b is s =
      let h = asked e (tree.Or a b) is s in
      record { tested = ap is_testable h.1 ∙ h.0; test_suits = h.3; body_type = h.1; other_type = h.2; body_suits = tt; other_suits = h.4 }

  pub cond_asked : (e : TExpr) (a test b : TypedExpr) → Is e (tree.Cond a test b) → Suits m vs (typed_expr e) → ChoiceSuits m vs (sort_of e.ty) test (Some a) (Some b)
  cond_asked e a test b is s =
      let h = asked e (tree.Cond a test b) is s in
      record { tested = ap is_testable h.1; test_suits = h.4; body_type = h.0; other_type = h.2; body_suits = h.3; other_suits = h.5 }

-- what it promises
pub emits_as : (x : Setting) (e : TExpr) (n : TypedNode) (t : Sort) (b c : Building) (r : ℕ) → Is e n → sort_of e.ty ≡ t → Emits x (typed n t e.span) b c r → Emits x (typed_expr e) b c r
emits_as x e n t b c r is same q =
    let P : Sort → Type 0 = λ u. Emits x (typed n u e.span) b c r in
    let R : TypedExpr → Type 0 = λ y. Emits x y b c r in
    subst R (sym is) (subst P (sym same) q)

-- and what its node promises, whose value is then looked at
pub emits_node : (x : Setting) (e : TExpr) (n : TypedNode) (t : Sort) (b c : Building) (r : ℕ) → Is e n → sort_of e.ty ≡ t → EmitsNode x n t b c r → Emits x (typed_expr e) b c r
emits_node x e n t b c r is same q = emits_as x e n t b c r is same (looked_at x (Shows t) n t e.span b c r (λ v h kind k. k.0) q)
