-- An expression that is an operation on parts: what it asks of them, what its code does, and what it weighs.
use Rattle.ir_builder_expressions.proofs.Common.{◌≡◌, refl, sym, ◌∙◌, ap, subst, ℕ, ◌+◌, ◌≤◌, le_refl, arith, true, List, Option, Some, None, is_some, option_map, TExpr, Sort, TypedNode, typed, type_of, typed_expr, Neg, Not, Truth, Arith, Concat, Compare, Comparisons, TypedExpr, At, TupleAt, Len, ToStr, Append, Pop, Coerce, Shows, looked_at, TypedModule, Variable, typed_expr_of, type_at, Building, Setting, Unary, Negated, Inverted, Tested, Counted, Written, Coerced, Popped, Part, Binary, Arithmetic, Joined, Appended, index_of, UnarySuits, BinarySuits, Applied, one, two, absence_in, applied_in, node_in, Suits, NodeSuits, Emits, EmitsOne, EmitsTwo, EmitsNode}
use Rattle.py_typed.specs.Sorts.{sort as sort_of}
use Rattle.ir_builder_expressions.proofs.ArmLemmas.{Is, asked, emits_as}
use Rattle.ir_builder_expressions.proofs.AbsenceLemmas.{absence_emits, asked_by}
use Rattle.ir_builder_expressions.proofs.TestedLemmas.{tested_emits}
use Rattle.ir_builder_expressions.proofs.LookedLemmas.{one_taken, at_emits, sized_emits}
use Rattle.py_syntax.specs.declared.token.Span.{Span}
use Rattle.source_meaning.specs.Operations.{pop_item, tuple_part}
use Rattle.ir_builder_expressions.proofs.WeightLemmas.{weight, node_weight, weight_of}

-- ---- what the parts are to be, and what their code does

abbrev pub AppliedSuits : TypedModule → List Variable → Sort → Applied → Type 0
AppliedSuits m vs t (one op e) = UnarySuits op t (type_of e) × Suits m vs e
AppliedSuits m vs t (two op a b) = BinarySuits op t (type_of a) (type_of b) × Suits m vs a × Suits m vs b

abbrev pub EmitsApplied : Setting → Sort → Building → Building → ℕ → Applied → Type 0
EmitsApplied x t b c r (one op e) = EmitsOne x op t e b c r
EmitsApplied x t b c r (two op e f) = EmitsTwo x op t e f b c r

abbrev pub weight_in : Applied → ℕ
weight_in (one op e) = weight e
weight_in (two op a b) = weight a + weight b

-- an operation has these
pub record Fits (x : Setting) (n : TypedNode) (t : Sort) (a : Applied) : Type 0 where
  pub suits : AppliedSuits x.source x.variables t a
  pub emits : (b c : Building) (r : ℕ) (place : Span) → EmitsApplied x t b c r a → Emits x (typed n t place) b c r
  pub weighs : weight_in a + 1 ≤ node_weight n

by_some : {A : Type 0} (P : A → Type 0) (x a : A) → Some x ≡ Some a → P x → P a
by_some P x a e h = let same : x ≡ a = cc in subst P same h

-- what its node gives is looked at
looked : (x : Setting) (n : TypedNode) (t : Sort) (b c : Building) (r : ℕ) (place : Span) → EmitsNode x n t b c r → Emits x (typed n t place) b c r
looked x n t b c r place q = looked_at x (Shows t) n t place b c r (λ v h kind k. k.0) q

-- where it is only asked whether a part is None
absence_fits : (x : Setting) (e : TypedExpr) (more : Comparisons) (t : Sort) (a : Applied) (o : Option Unary) → absence_in more ≡ o → option_map (λ op. one op e) o ≡ Some a → NodeSuits x.source x.variables (Compare e more) t → Fits x (Compare e more) t a
absence_fits x e more t a None at is h = absurd (cc)
absence_fits x e more t a (Some op) at is h =
    let k = asked_by x.source x.variables e more t (Some op) at h in
    by_some (Fits x (Compare e more) t) (one op e) a is record { suits = (k.0, k.1); emits = λ b c r place q. looked x (Compare e more) t b c r place (absence_emits x e more op t b c r at k.2 q); weighs = omega arith }

fits : (x : Setting) (n : TypedNode) (t : Sort) (a : Applied) → applied_in n ≡ Some a → NodeSuits x.source x.variables n t → Fits x n t a
fits x (Neg e) t a is h = by_some (Fits x (Neg e) t) (one Negated e) a is record { suits = h; emits = looked x (Neg e) t; weighs = le_refl _ }
fits x (Not e) t a is h = by_some (Fits x (Not e) t) (one Inverted e) a is record { suits = h; emits = looked x (Not e) t; weighs = le_refl _ }
fits x (Truth e) t a is h = by_some (Fits x (Truth e) t) (one Tested e) a is record { suits = h; emits = λ b c r place q. looked x (Truth e) t b c r place (tested_emits x e t b c r q); weighs = le_refl _ }
fits x (Len e) t a is h = by_some (Fits x (Len e) t) (one Counted e) a is record { suits = h; emits = λ b c r place q. looked x (Len e) t b c r place (sized_emits x e t b c r q); weighs = le_refl _ }
fits x (ToStr e) t a is h = by_some (Fits x (ToStr e) t) (one Written e) a is record { suits = h; emits = looked x (ToStr e) t; weighs = le_refl _ }
fits x (Coerce e) t a is h = by_some (Fits x (Coerce e) t) (one Coerced e) a is record { suits = h; emits = looked x (Coerce e) t; weighs = le_refl _ }
fits x (Pop e) t a is h = by_some (Fits x (Pop e) t) (one Popped e) a is record { suits = h; emits = λ b c r place q. one_taken x Popped pop_item (Pop e) t e place b c r (λ k s. refl) (λ v. refl) q; weighs = le_refl _ }
fits x (TupleAt e i) t a is h = by_some (Fits x (TupleAt e i) t) (one (Part i) e) a is record { suits = h; emits = λ b c r place q. one_taken x (Part i) (tuple_part i) (TupleAt e i) t e place b c r (λ k s. refl) (λ v. refl) q; weighs = le_refl _ }
fits x (Arith op e f) t a is h = by_some (Fits x (Arith op e f) t) (two (Arithmetic op) e f) a is record { suits = h; emits = looked x (Arith op e f) t; weighs = le_refl _ }
fits x (Concat e f) t a is h = by_some (Fits x (Concat e f) t) (two Joined e f) a is record { suits = h; emits = looked x (Concat e f) t; weighs = le_refl _ }
fits x (At e f) t a is h = by_some (Fits x (At e f) t) (two (index_of (type_of e)) e f) a is record { suits = h; emits = λ b c r place q. at_emits x e f t (type_of e) place b c r refl h.0 q; weighs = le_refl _ }
fits x (Append e f) t a is h = by_some (Fits x (Append e f) t) (two Appended e f) a is record { suits = h; emits = looked x (Append e f) t; weighs = le_refl _ }
fits x (Compare e more) t a is h = absence_fits x e more t a (absence_in more) refl is h
fits x n t a is h = let f : None ≡ Some a = is in absurd (cc)

-- ---- of a declared expression

-- it has its node
pub own_node : (e : TExpr) → Is e (node_in (typed_expr e))
own_node e =
    let h = typed_expr_of e e.kind refl in
    h ∙ ap (λ n. typed n (sort_of e.ty) e.span) (sym (ap node_in h))

module _ (x : Setting) (e : TExpr) (suits : Suits x.source x.variables (typed_expr e)) where
  abbrev pub node : TypedNode
  node = node_in (typed_expr e)

  own_fits : (a : Applied) → Some a ≡ applied_in node → Fits x node (sort_of e.ty) a
  own_fits a is = fits x node (sort_of e.ty) a (sym is) (asked x.source x.variables e node (own_node e) suits)

  pub applied_weight : (a : Applied) → Some a ≡ applied_in node → weight_in a + 1 ≤ weight_of e
  applied_weight a is = subst (λ k. weight_in a + 1 ≤ k) (sym (ap weight (own_node e))) (own_fits a is).weighs

  pub one_suits : (op : Unary) (p : TExpr) → Some (one op (typed_expr p)) ≡ applied_in node → UnarySuits op (sort_of e.ty) (sort_of p.ty) × Suits x.source x.variables (typed_expr p)
  one_suits op p is =
      let h = (own_fits (one op (typed_expr p)) is).suits in
      (subst (λ s. UnarySuits op (sort_of e.ty) s) (type_at p) h.0, h.1)

  pub two_suit : (op : Binary) (p q : TExpr) → Some (two op (typed_expr p) (typed_expr q)) ≡ applied_in node → BinarySuits op (sort_of e.ty) (sort_of p.ty) (sort_of q.ty) × Suits x.source x.variables (typed_expr p) × Suits x.source x.variables (typed_expr q)
  two_suit op p q is =
      let h = (own_fits (two op (typed_expr p) (typed_expr q)) is).suits in
      let left : BinarySuits op (sort_of e.ty) (sort_of p.ty) (type_of (typed_expr q)) = subst (λ s. BinarySuits op (sort_of e.ty) s (type_of (typed_expr q))) (type_at p) h.0 in
      (subst (λ s. BinarySuits op (sort_of e.ty) (sort_of p.ty) s) (type_at q) left, h.1, h.2)

  pub applied_emits : (a : Applied) (b c : Building) (r : ℕ) → Some a ≡ applied_in node → EmitsApplied x (sort_of e.ty) b c r a → Emits x (typed_expr e) b c r
  applied_emits a b c r is q = emits_as x e node (sort_of e.ty) b c r (own_node e) refl ((own_fits a is).emits b c r e.span q)

  -- it weighs something
  some_weight : (o : Option Applied) → o ≡ applied_in node → is_some o ≡ true → 1 ≤ weight_of e
  some_weight None is h = absurd (cc)
  some_weight (Some a) is h = omega (arith, applied_weight a is)

  pub applied_above : is_some (applied_in node) ≡ true → 1 ≤ weight_of e
  applied_above h = some_weight (applied_in node) refl h
