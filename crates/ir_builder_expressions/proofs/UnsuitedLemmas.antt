-- An expression that suits is one of the forms that are built: an operation on parts, where it is none of the others.
use Rattle.ir_builder_expressions.proofs.Common.{◌≡◌, refl, sym, ◌∙◌, ap, ℕ, Bool, true, List, ℤ, is_some, Box, Global, BinOp, CmpOp, TExpr, TKind, roll-TKind, out-TKind, roll-out-TKind, fold-roll-TKind, TypedExpr, TypedNode, node_step, expr_step, typed_node, typed, typed_expr, TypedModule, Variable, typed_expr_of, applied_in, node_in, Suits, NodeSuits}
use Rattle.py_typed.specs.declared.expression.TKind as kind
use borrow.Author.Tests.{clash}
use Rattle.py_typed.specs.declared.expression.TKind.TheVariants as variant
use Rattle.py_typed.specs.declared.expression.TKind.TheOpen.{TKind-F}
use Rattle.py_typed.specs.Sorts.{sort as sort_of}
use Rattle.ir_builder_expressions.proofs.ArmLemmas.{Is, asked}

abbrev Part : Type 0
Part = Box TExpr Global

module _ (e : TExpr) where
  abbrev node_as : TKind-F TKind TExpr → TypedNode
  node_as k = node_step (kind.map-TKind TKind TExpr TypedNode TypedExpr typed_node typed_expr k)

  -- the node of its kind
  has_node : (k : TKind-F TKind TExpr) → roll-TKind k ≡ e.kind → Is e (node_as k)
  has_node k is = typed_expr_of e (roll-TKind k) (sym is) ∙ ap (λ n. typed n (sort_of e.ty) e.span) (fold-roll-TKind TypedNode TypedExpr node_step expr_step k)

  found : (k : TKind-F TKind TExpr) → roll-TKind k ≡ e.kind → is_some (applied_in (node_as k)) ≡ true → is_some (applied_in (node_in (typed_expr e))) ≡ true
  found k is h = ap is_some (ap applied_in (ap node_in (has_node k is))) ∙ h

  module _ (some : is_some (applied_in (node_in (typed_expr e))) ≡ true) (no_neg : (a : Part) → e.kind ≡ kind.Neg a → ⊥) (no_inverted : (a : Part) → e.kind ≡ kind.Not a → ⊥) (no_truth : (a : Part) → e.kind ≡ kind.Truth a → ⊥) (no_arith : (o : BinOp) (a b : Part) → e.kind ≡ kind.Arith o a b → ⊥) (no_concat : (a b : Part) → e.kind ≡ kind.Concat a b → ⊥) (no_at : (a b : Part) → e.kind ≡ kind.At a b → ⊥) (no_len : (a : Part) → e.kind ≡ kind.Len a → ⊥) (no_written : (a : Part) → e.kind ≡ kind.ToStr a → ⊥) (no_coerce : (a : Part) → e.kind ≡ kind.Coerce a → ⊥) (no_pop : (a : Part) → e.kind ≡ kind.Pop a → ⊥) (no_tuple_at : (a : Part) (i : ℕ) → e.kind ≡ kind.TupleAt a i → ⊥) (no_append : (a b : Part) → e.kind ≡ kind.Append a b → ⊥) (no_compare : (a : Part) (cs : List (CmpOp × TExpr)) → e.kind ≡ kind.Compare a cs → ⊥) where
    unapplied : (k : TKind-F TKind TExpr) → roll-TKind k ≡ e.kind → is_some (applied_in (node_as k)) ≡ true → ⊥
    unapplied (TKind-F.Concat a b) is h = no_concat a b (sym is ∙ variant.rolls-Concat a b)
    unapplied (TKind-F.At a i) is h = no_at a i (sym is ∙ variant.rolls-At a i)
    unapplied (TKind-F.Len a) is h = no_len a (sym is ∙ variant.rolls-Len a)
    unapplied (TKind-F.ToStr a) is h = no_written a (sym is ∙ variant.rolls-ToStr a)
    unapplied (TKind-F.Neg a) is h = no_neg a (sym is ∙ variant.rolls-Neg a)
    unapplied (TKind-F.Not a) is h = no_inverted a (sym is ∙ variant.rolls-Not a)
    unapplied (TKind-F.Truth a) is h = no_truth a (sym is ∙ variant.rolls-Truth a)
    unapplied (TKind-F.Arith o a b) is h = no_arith o a b (sym is ∙ variant.rolls-Arith o a b)
    unapplied (TKind-F.Coerce a) is h = no_coerce a (sym is ∙ variant.rolls-Coerce a)
    unapplied (TKind-F.Pop a) is h = no_pop a (sym is ∙ variant.rolls-Pop a)
    unapplied (TKind-F.TupleAt a i) is h = no_tuple_at a i (sym is ∙ variant.rolls-TupleAt a i)
    unapplied (TKind-F.Append a b) is h = no_append a b (sym is ∙ variant.rolls-Append a b)
    unapplied (TKind-F.Compare a cs) is h = no_compare a cs (sym is ∙ variant.rolls-Compare a cs)
    unapplied k is h = absurd (clash h)

    pub none_left : ⊥
    none_left = unapplied (out-TKind e.kind) (roll-out-TKind e.kind) (sym (ap is_some (ap applied_in (ap node_in (has_node (out-TKind e.kind) (roll-out-TKind e.kind))))) ∙ some)

module _ (m : TypedModule) (vs : List Variable) (e : TExpr) (suits : Suits m vs (typed_expr e)) where
  suited : (k : TKind-F TKind TExpr) → roll-TKind k ≡ e.kind → NodeSuits m vs (node_as e k) (sort_of e.ty)
  suited k is = asked m vs e (node_as e k) (has_node e k is) suits

  module _ (no_int : (n : ℤ) → e.kind ≡ kind.Int n → ⊥) (no_text : (text : List ℕ) → e.kind ≡ kind.Str text → ⊥) (no_flag : (b : Bool) → e.kind ≡ kind.Bool b → ⊥) (no_nothing : e.kind ≡ kind.Nothing → ⊥) (no_local : (i : ℕ) → e.kind ≡ kind.Local i → ⊥) (no_global : (i : ℕ) → e.kind ≡ kind.Global i → ⊥) (no_compare : (a : Part) (cs : List (CmpOp × TExpr)) → e.kind ≡ kind.Compare a cs → ⊥) (no_conj : (a b : Part) → e.kind ≡ kind.And a b → ⊥) (no_disj : (a b : Part) → e.kind ≡ kind.Or a b → ⊥) (no_choice : (a test b : Part) → e.kind ≡ kind.Cond a test b → ⊥) (no_list : (es : List TExpr) → e.kind ≡ kind.List es → ⊥) (no_tuple : (es : List TExpr) → e.kind ≡ kind.Tuple es → ⊥) (no_call : (f : ℕ) (es : List TExpr) → e.kind ≡ kind.Call f es → ⊥) (no_input : e.kind ≡ kind.Input → ⊥) where
    unsuited : (k : TKind-F TKind TExpr) → roll-TKind k ≡ e.kind → is_some (applied_in (node_in (typed_expr e))) ≡ true
    unsuited (TKind-F.Int n) is = absurd (no_int n (sym is ∙ variant.rolls-Int n))
    unsuited (TKind-F.Str text) is = absurd (no_text text (sym is ∙ variant.rolls-Str text))
    unsuited (TKind-F.Concat a b) is = found e (TKind-F.Concat a b) is refl
    unsuited (TKind-F.At a i) is = found e (TKind-F.At a i) is refl
    unsuited TKind-F.Input is = absurd (no_input (sym is ∙ variant.rolls-Input))
    unsuited (TKind-F.Len a) is = found e (TKind-F.Len a) is refl
    unsuited (TKind-F.ToStr a) is = found e (TKind-F.ToStr a) is refl
    unsuited (TKind-F.Bool b) is = absurd (no_flag b (sym is ∙ variant.rolls-Bool b))
    unsuited (TKind-F.Local i) is = absurd (no_local i (sym is ∙ variant.rolls-Local i))
    unsuited (TKind-F.Global i) is = absurd (no_global i (sym is ∙ variant.rolls-Global i))
    unsuited (TKind-F.Neg a) is = found e (TKind-F.Neg a) is refl
    unsuited (TKind-F.Not a) is = found e (TKind-F.Not a) is refl
    unsuited (TKind-F.Truth a) is = found e (TKind-F.Truth a) is refl
    unsuited (TKind-F.Arith o a b) is = found e (TKind-F.Arith o a b) is refl
    unsuited (TKind-F.Compare a cs) is = absurd (no_compare a cs (sym is ∙ variant.rolls-Compare a cs))
    unsuited (TKind-F.And a b) is = absurd (no_conj a b (sym is ∙ variant.rolls-And a b))
    unsuited (TKind-F.Or a b) is = absurd (no_disj a b (sym is ∙ variant.rolls-Or a b))
    unsuited (TKind-F.Cond a test b) is = absurd (no_choice a test b (sym is ∙ variant.rolls-Cond a test b))
    unsuited (TKind-F.Call f es) is = absurd (no_call f es (sym is ∙ variant.rolls-Call f es))
    unsuited (TKind-F.Coerce a) is = found e (TKind-F.Coerce a) is refl
    unsuited (TKind-F.Pop a) is = found e (TKind-F.Pop a) is refl
    unsuited (TKind-F.TupleAt a i) is = found e (TKind-F.TupleAt a i) is refl
    unsuited (TKind-F.Append a b) is = found e (TKind-F.Append a b) is refl
    unsuited TKind-F.Nothing is = absurd (no_nothing (sym is ∙ variant.rolls-Nothing))
    unsuited (TKind-F.List es) is = absurd (no_list es (sym is ∙ variant.rolls-List es))
    unsuited (TKind-F.Tuple es) is = absurd (no_tuple es (sym is ∙ variant.rolls-Tuple es))
    unsuited k is = absurd (suited k is)

    pub applied_left : is_some (applied_in (node_in (typed_expr e))) ≡ true
    applied_left = unsuited (out-TKind e.kind) (roll-out-TKind e.kind)
