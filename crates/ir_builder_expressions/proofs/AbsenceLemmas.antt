-- Whether a part is None: what its code does, and what a comparison with None means.
use Rattle.ir_builder_expressions.proofs.Common.{◌≡◌, refl, sym, ◌∙◌, ap, subst, ℕ, Bool, true, false, ◌≤◌, arith, List, [], ◌∷◌, length, map, Option, Some, None, if◌then◌else◌, not, Value, BoolVal, Sort, CmpOp, Span, TExpr, TypedExpr, typed, type_of, typed_comparison, Comparisons, no_comparisons, comparison_then, comparisons_of, State, give, on_to, Reg, Lit, Holds, Building, Setting, rtype_of, Adds, HasKind, Shows, Attempts, Acts, ActsOn, ActsOnAll, of_one, inverts, as_one, attempts_as, attempts_then, literal_makes, computes_of, boxed, means, means_node, means_chain, Unary, unary_goes, literal_of_truth, is_ordering, is_scalar, UnarySuits, TypedModule, Variable, ComparedSuits, ComparisonsSuit, Suits, NodeSuits, EmitsOne, EmitsNode}
use Rattle.py_syntax.specs.declared.expression.CmpOp.TheVariants as compare
use Rattle.py_typed.specs.Sorts as sort
use Rattle.py_typed.specs.Expressions as tree
use Rattle.source_meaning.specs.Operations.{is_none}
use Rattle.ir_core.specs.declared.code.RType.TheVariants as rtype
use Rattle.ir_builder_operations.specs.Rows.{is_absent}
use Rattle.ir_builder_operations.proofs.PartLemmas.{made_attempts}
use Rattle.ir_builder_expressions.specs.declared.applying.Unary.TheVariants as unary
use Rattle.ir_builder_expressions.specs.Applying.{absence_of, absence_by, absence_in, is_present}
use Rattle.ir_builder_expressions.specs.Suiting.{behind_sort}
use Rattle.ir_builder_expressions.proofs.TakenLemmas.{object_acts}

-- ---- the code

-- a value that is no object is not None
no_none : (t : Sort) (v : Value) → (rtype_of t ≡ rtype.Ref → ⊥) → HasKind t v → is_none v ≡ false
no_none sort.Int v other k = ap is_none k.1
no_none sort.I64 v other k = ap is_none k.1
no_none sort.Bool v other k = ap is_none k.1
no_none t v other k = absurd (other refl)

pub absence_known : {line : ℕ} (t : Sort) (b c : Building) (r x : ℕ) → (rtype_of t ≡ rtype.Ref → ⊥) → Adds b c r rtype.Bool (Lit record { 0 = r } (literal_of_truth false)) line → Attempts (Shows sort.Bool) b c r rtype.Bool (ActsOn t x is_absent)
absence_known t b c r x other a =
    attempts_as (Shows sort.Bool) b c r rtype.Bool (Acts (give (BoolVal false))) (ActsOn t x is_absent) (λ regs s res f. f.does ∙ ap (λ z. give (BoolVal z) s) (no_none t f.v other f.shows.1))
    (made_attempts sort.Bool (BoolVal false) b c r rtype.Bool (false, refl) (literal_makes b c r rtype.Bool _ (Holds (BoolVal false)) a refl))

pub absence_asked : (t : Sort) (b c : Building) (r : ℕ) (x : Reg) → Attempts (Shows sort.Bool) b c r rtype.Bool (ActsOnAll (boxed ∷ []) (x ∷ []) (of_one is_absent)) → Attempts (Shows sort.Bool) b c r rtype.Bool (ActsOn t x.0 is_absent)
absence_asked t b c r x a = object_acts t (Shows sort.Bool) b c r rtype.Bool x.0 is_absent (as_one boxed sort.Bool is_absent b c r x a)

pub presence_attempts : (t : Sort) (b0 b1 b2 : Building) (x r : ℕ) (q : Reg) → Attempts (Shows sort.Bool) b0 b1 q.0 rtype.Bool (ActsOn t x is_absent) → Attempts (Shows sort.Bool) b1 b2 r rtype.Bool (ActsOnAll (sort.Bool ∷ []) (q ∷ []) (of_one inverts)) → Attempts (Shows sort.Bool) b0 b2 r rtype.Bool (ActsOn t x is_present)
presence_attempts t b0 b1 b2 x r q a c =
    attempts_then (Shows sort.Bool) (Shows sort.Bool) b0 b1 b2 q.0 r rtype.Bool rtype.Bool (ActsOn t x is_absent) (ActsOn sort.Bool q.0 inverts) (ActsOn t x is_present) a (as_one sort.Bool sort.Bool inverts b1 b2 r q c)
    (λ regs s res f. record {
      mid = is_absent f.v s;
      go = inverts;
      does = f.does;
      start = record { v = f.v; shows = f.shows; does = refl };
      on = λ now w s1 shows kept. record { v = w; shows = shows; does = refl };
    })

-- ---- the meaning

by_flag : (h : Bool) (s : State) → (if h then give (BoolVal true) else give (BoolVal false)) s ≡ give (BoolVal h) s
by_flag true s = refl
by_flag false s = refl

module _ (x : Setting) (k : ℕ) (w t : Sort) (v : Value) (s : State) where
  -- one comparison with None
  none_means : (op : CmpOp) (place : Span) (q : Unary) → absence_of op ≡ Some q → means_chain x w v (comparison_then op (typed tree.Nothing sort.Nothing place) no_comparisons) k s ≡ unary_goes q t w v s
  none_means compare.Is place q is =
      let same : unary.Absent ≡ q = (let f : Some unary.Absent ≡ Some q = is in cc) in
      by_flag (is_none v) s ∙ ap (λ (z : Unary). unary_goes z t w v s) same
  none_means compare.IsNot place q is =
      let same : unary.Present ≡ q = (let f : Some unary.Present ≡ Some q = is in cc) in
      by_flag (not (is_none v)) s ∙ ap (λ (z : Unary). unary_goes z t w v s) same
  none_means op place q is = let f : None ≡ Some q = is in absurd (cc)

  absence_means : (more : Comparisons) (q : Unary) → absence_in more ≡ Some q → behind_sort more ≡ sort.Nothing → means_chain x w v more k s ≡ unary_goes q t w v s
  absence_means no_comparisons q is h = let f : None ≡ Some q = is in absurd (cc)
  absence_means (comparison_then op e (comparison_then o f more)) q is h = let f : None ≡ Some q = is in absurd (cc)
  absence_means (comparison_then op (typed tree.Nothing u place) no_comparisons) q is h =
      subst (λ z. means_chain x w v (comparison_then op (typed tree.Nothing z place) no_comparisons) k s ≡ unary_goes q t w v s) (sym h) (none_means op place q is)
  absence_means (comparison_then op e no_comparisons) q is h = let f : None ≡ Some q = is in absurd (cc)

pub absence_emits : (x : Setting) (e : TypedExpr) (more : Comparisons) (q : Unary) (t : Sort) (b c : Building) (r : ℕ) → absence_in more ≡ Some q → behind_sort more ≡ sort.Nothing → EmitsOne x q t e b c r → EmitsNode x (tree.Compare e more) t b c r
absence_emits x e more q t b c r is h m =
    computes_of x (Shows t) (rtype_of t) (λ n s. on_to (means x e n s) (unary_goes q t (type_of e))) (means_node x (tree.Compare e more) t) b c r
    (λ n s. ap (on_to (means x e n s)) (λ i v s1. absence_means x n (type_of e) t v s1 more q is h i)) m

-- ---- the comparisons of a program

abbrev chain_of : List (CmpOp × TExpr) → Comparisons
chain_of cs = comparisons_of (map typed_comparison cs)

-- more than one comparison
pub longer : (cs : List (CmpOp × TExpr)) → 2 ≤ length cs → None ≡ absence_in (chain_of cs)
longer [] le = absurd (omega arith)
longer (a ∷ []) le = absurd (omega arith)
longer (a ∷ b ∷ cs) le = refl

-- what was found of a slice of them
pub absence_as : (cs ds es : List (CmpOp × TExpr)) (o w : Option Unary) → ds ≡ cs → es ≡ cs → o ≡ absence_in (chain_of ds) → o ≡ w → absence_in (chain_of es) ≡ w
absence_as cs ds es o w same other is at = ap (λ z. absence_in (chain_of z)) (other ∙ sym same) ∙ sym is ∙ at

-- ---- what is asked of what is compared

-- a comparison of two values does not ask whether a part is None
ordered_of : (op : CmpOp) → is_ordering op ≡ true → absence_of op ≡ None
ordered_of compare.Is h = absurd (cc)
ordered_of compare.IsNot h = absurd (cc)
ordered_of op h = refl

ordered_by : (op : CmpOp) (e : TypedExpr) → is_ordering op ≡ true → absence_by op e ≡ None
ordered_by op (typed tree.Nothing t place) h = ordered_of op h
ordered_by op e h = refl

module _ (m : TypedModule) (vs : List Variable) where
  chain_absence : (s : Sort) (more : Comparisons) → ComparisonsSuit m vs s more → absence_in more ≡ None
  chain_absence s no_comparisons h = refl
  chain_absence s (comparison_then op e no_comparisons) h = ordered_by op e h.0
  chain_absence s (comparison_then op e (comparison_then o f more)) h = refl

  module _ (e : TypedExpr) (more : Comparisons) (t : Sort) where
    abbrev SuitsBy : Option Unary → Type 0
    SuitsBy o = ComparedSuits o (λ op. UnarySuits op t (type_of e) × Suits m vs e × (behind_sort more ≡ sort.Nothing)) ((t ≡ sort.Bool) × (is_scalar (type_of e) ≡ true) × Suits m vs e × ComparisonsSuit m vs (type_of e) more)

    -- by what is asked
    pub asked_by : (o : Option Unary) → absence_in more ≡ o → NodeSuits m vs (tree.Compare e more) t → SuitsBy o
    asked_by o at h = subst SuitsBy at h

    -- the comparisons of a chain, and whether a part is None
    pub chain_suits : t ≡ sort.Bool → is_scalar (type_of e) ≡ true → Suits m vs e → ComparisonsSuit m vs (type_of e) more → NodeSuits m vs (tree.Compare e more) t
    chain_suits is simple first rest = subst SuitsBy (sym (chain_absence (type_of e) more rest)) (is, simple, first, rest)

    pub absence_suits : (op : Unary) → absence_in more ≡ Some op → UnarySuits op t (type_of e) → Suits m vs e → behind_sort more ≡ sort.Nothing → NodeSuits m vs (tree.Compare e more) t
    absence_suits op at fits first none = subst SuitsBy (sym at) (fits, first, none)
