-- What a test tells as it is written, its typed form tells.
use Rattle.std.proofs.Common.{◌≡◌, ℕ, Bool, true, false, not, ◌&&◌, List, [], ◌∷◌, ◌++◌, Option, Some, None, Result, Ok, refl, ap, sym, ◌∙◌, subst, if◌then◌else◌}
use Rattle.py_syntax.specs.declared.token.Span.{Span}
use Rattle.py_syntax.specs.declared.expression.CmpOp.{CmpOp}
use Rattle.py_syntax.specs.declared.expression.CmpOp.TheVariants as compare
use Rattle.py_syntax.specs.Expressions as tree
use Rattle.py_syntax.specs.Expressions.{ExprTree, ExprNode, at, Comparisons, no_comparisons, comparison_then}
use Rattle.py_typed.specs.Sorts as sort
use Rattle.py_typed.specs.Sorts.{Sort}
use Rattle.py_typed.specs.Classes.{ClassEntry}
use Rattle.py_typed.specs.Fits.{is_same_type, join}
use Rattle.py_typed.specs.Expressions as node
use Rattle.py_typed.specs.Expressions.{TypedExpr, TypedNode, typed, type_of}
use Rattle.py_typed.specs.Narrowing as telling
use Rattle.py_typed.specs.Narrowing.{is_in, shared, node_of}
use Rattle.py_check_context.specs.declared.scope.Meaning.{Meaning}
use Rattle.py_check_context.specs.declared.scope.Meaning.TheVariants as meaning
use Rattle.py_check_context.specs.Context.{Context, VarSort, unset, untyped, has, VarSorts, var_at, Wanted, free, test}
use Rattle.py_check_messages.specs.Seen.{Seen, Message, both, made, behind}
use Rattle.py_check_coercions.specs.Several.{ruled_all}
use Rattle.py_check_coercions.specs.Values.{place_of, coerced, truth}
use Rattle.py_check_operators.specs.Names.{variable, named}
use Rattle.py_check_operators.specs.Operators.{inversion}
use Rattle.py_check_operators.specs.Chains.{faults_of, chain}
use Rattle.py_check_operators.specs.Choices.{joined, word_text, word_node, is_test, junction, operand}
use Rattle.py_check_operators.specs.Facts.{facts, subject, local_of, tells, is_none_tree, none_test, joined_facts}
use Rattle.py_check_expressions.specs.Typing.{typing, operands}
use Rattle.py_check_expressions_laws.specs.WellTyped.{Within}
use Rattle.py_check_expressions_laws.proofs.Given.{Gives, gives_is, gives_silent, gives_fails, gives_any, gives_both, gives_made, gives_rule, gives_ruled_all, gives_compare, gives_row}
use Rattle.py_check_expressions_laws.proofs.Inside.{within_none, within_append, within_shared}

-- a result of a rule
abbrev pub done : {A : Type 0} → A → Result A Message
done a = Ok a

pub ok_same : {A : Type 0} (a b : A) → done a ≡ Ok b → a ≡ b
ok_same a b e = cc

-- ---- a coercion and a truth value tell what their value does

truth_node : (b : Bool) (e : TypedExpr) → telling.facts b (typed (node.Truth e) sort.Bool (place_of e)) ≡ telling.facts b e
truth_node true e = refl
truth_node false e = refl

coerce_node : (b : Bool) (t : Sort) (e : TypedExpr) → telling.facts b (typed (node.Coerce e) t (place_of e)) ≡ telling.facts b e
coerce_node true t e = refl
coerce_node false t e = refl

pub truth_tells : (b : Bool) (e : TypedExpr) → telling.facts b (truth e) ≡ telling.facts b e
truth_tells b e = by (is_same_type (type_of e) sort.Bool) refl
  where
    by : (d : Bool) → is_same_type (type_of e) sort.Bool ≡ d → telling.facts b (truth e) ≡ telling.facts b e
    by true q = ap (λ (d : Bool). telling.facts b (if d then e else typed (node.Truth e) sort.Bool (place_of e))) q
    by false q = ap (λ (d : Bool). telling.facts b (if d then e else typed (node.Truth e) sort.Bool (place_of e))) q ∙ truth_node b e

pub coerced_tells : (b : Bool) (t : Sort) (e : TypedExpr) → telling.facts b (coerced t e) ≡ telling.facts b e
coerced_tells b t e = by (is_same_type (type_of e) t) refl
  where
    by : (d : Bool) → is_same_type (type_of e) t ≡ d → telling.facts b (coerced t e) ≡ telling.facts b e
    by true q = ap (λ (d : Bool). telling.facts b (if d then e else typed (node.Coerce e) t (place_of e))) q
    by false q = ap (λ (d : Bool). telling.facts b (if d then e else typed (node.Coerce e) t (place_of e))) q ∙ coerce_node b t e

pub within_same : (xs ys zs : List ℕ) → ys ≡ zs → Within xs zs → Within xs ys
within_same xs ys zs e w = subst (Within xs) (sym e) w

-- ---- `and` and `or`

-- what both operands tell together, and what they share
word_tells : (conjoined b : Bool) (xs ys : List ℕ) (a c : TypedExpr) (t : Sort) (span : Span) → Within xs (telling.facts b a) → Within ys (telling.facts b c) → Within (joined_facts (if conjoined then b else not b) xs ys) (telling.facts b (typed (word_node conjoined a c) t span))
word_tells true true xs ys a c t span v w = within_append xs ys (telling.facts true a) (telling.facts true c) v w
word_tells true false xs ys a c t span v w = within_shared xs ys (telling.facts false a) (telling.facts false c) v w
word_tells false true xs ys a c t span v w = within_shared xs ys (telling.facts true a) (telling.facts true c) v w
word_tells false false xs ys a c t span v w = within_append xs ys (telling.facts false a) (telling.facts false c) v w

-- a join that is made, with its type
pub joined_made : (classes : List ClassEntry) (word : List ℕ) (make : TypedExpr → TypedExpr → TypedNode) (span : Span) (a b e : TypedExpr) (o : Option Sort) → joined classes word make span a b o ≡ Ok e → (t : Sort) × (o ≡ Some t) × (typed (make (coerced t a) (coerced t b)) t span ≡ e)
joined_made classes word make span a b e None h = absurd (cc)
joined_made classes word make span a b e (Some t) h = (t, refl, ok_same (typed (make (coerced t a) (coerced t b)) t span) e h)

-- what is true of both forms is true of what is made
pub junction_is : (P : TypedExpr → Type 0) (classes : List ClassEntry) (w : Wanted) (conjoined : Bool) (span : Span) (p : TypedExpr × TypedExpr) (e : TypedExpr) → P (typed (word_node conjoined (truth p.0) (truth p.1)) sort.Bool span) → ((t : Sort) → P (typed (word_node conjoined (coerced t p.0) (coerced t p.1)) t span)) → junction classes w conjoined span p ≡ Ok e → P e
junction_is P classes w conjoined span p e tested each h = by (is_test w) h
  where
    by : (d : Bool) → (if d then done (typed (word_node conjoined (truth p.0) (truth p.1)) sort.Bool span) else joined classes (word_text conjoined) (word_node conjoined) span p.0 p.1 (join classes (type_of p.0) (type_of p.1))) ≡ Ok e → P e
    by true g = subst P (ok_same (typed (word_node conjoined (truth p.0) (truth p.1)) sort.Bool span) e g) tested
    by false g =
        let r = joined_made classes (word_text conjoined) (word_node conjoined) span p.0 p.1 e (join classes (type_of p.0) (type_of p.1)) g in
        subst P r.2 (each r.0)

-- ---- comparisons with None

module _ (C : Context) (V : VarSorts) where
  variable_node : (span : Span) (x : List ℕ) (n : TypedNode) (known : Bool) (v : VarSort) → Gives (variable span x n known v) (λ t. node_of t ≡ n)
  variable_node span x n known unset = gives_fails (λ t. node_of t ≡ n) span _
  variable_node span x n known untyped = gives_silent (λ t. node_of t ≡ n)
  variable_node span x n known (has s) = gives_is (λ t. node_of t ≡ n) _ refl

  -- of a name that tells, the typed form is that local
  named_node : (known : List ℕ) (span : Span) (x : List ℕ) (m : Meaning) (who : List ℕ) → local_of m ≡ who → (i : ℕ) (more : List ℕ) → who ≡ i ∷ more → Gives (named V known span x m) (λ t. (node_of t ≡ node.Local i) × (more ≡ []))
  named_node known span x (meaning.Local j) who e i more f =
      gives_then (variable_node span x (node.Local j) (is_in known j) (var_at V.locals j)) (λ t g. (g ∙ ap node.Local (head_same (e ∙ f)), tail_same (e ∙ f)))
    where
      head_same : j ∷ [] ≡ i ∷ more → j ≡ i
      head_same h = cc

      tail_same : j ∷ [] ≡ i ∷ more → more ≡ []
      tail_same h = cc

      gives_then : {P Q : TypedExpr → Type 0} {s : Seen TypedExpr} → Gives s P → ((t : TypedExpr) → P t → Q t) → Gives s Q
      gives_then g next = record { each = λ a h. next a (g.each a h) }
  named_node known span x _ who e i more f = let h = e ∙ f in absurd (cc)

  subject_node : (w : Wanted) (known : List ℕ) (e : ExprTree) (i : ℕ) (more : List ℕ) → subject C e ≡ i ∷ more → Gives (typing C V w known e) (λ t. (node_of t ≡ node.Local i) × (more ≡ []))
  subject_node w known (at (tree.Name x) span) i more f = named_node known span x (C.meaning x) (local_of (C.meaning x)) refl i more f
  subject_node w known _ i more f = absurd (cc)

  none_node : (w : Wanted) (known : List ℕ) (e : ExprTree) → is_none_tree e ≡ true → Gives (typing C V w known e) (λ t. node_of t ≡ node.Nothing)
  none_node w known (at tree.Nothing span) h = gives_is (λ t. node_of t ≡ node.Nothing) _ refl
  none_node w known _ h = absurd (cc)

  -- the typed test of a local against None tells what the written one does
  typed_test : (b : Bool) (o : CmpOp) (i : ℕ) (p q : TypedNode) → tells o b ≡ true → p ≡ node.Local i → q ≡ node.Nothing → telling.none_test b o p q node.no_comparisons ≡ i ∷ []
  typed_test true compare.IsNot i p q h e f = ap (λ x. telling.none_test true compare.IsNot x q node.no_comparisons) e ∙ ap (λ x. telling.none_test true compare.IsNot (node.Local i) x node.no_comparisons) f
  typed_test false compare.Is i p q h e f = ap (λ x. telling.none_test false compare.Is x q node.no_comparisons) e ∙ ap (λ x. telling.none_test false compare.Is (node.Local i) x node.no_comparisons) f
  typed_test _ _ i p q h e f = absurd (cc)

  -- the chain that is made of two operands
  abbrev chain_of : Span → CmpOp → TypedExpr → TypedExpr → TypedExpr
  chain_of span o p q = typed (node.Compare p (node.comparison_then o q node.no_comparisons)) sort.Bool span

  pub pair_tells : (b : Bool) (span : Span) (o : CmpOp) (p q : TypedExpr) → telling.facts b (chain_of span o p q) ≡ telling.none_test b o (node_of p) (node_of q) node.no_comparisons
  pair_tells true span o p q = refl
  pair_tells false span o p q = refl

  none_told : (b : Bool) (o : CmpOp) (f : ExprTree) (who : List ℕ) (zs : List ℕ) → (is_none_tree f ≡ true → tells o b ≡ true → Within who zs) → Within (none_test b o f who) zs
  none_told b o f who zs next = by (is_none_tree f) (tells o b) refl refl
    where
      by : (c d : Bool) → is_none_tree f ≡ c → tells o b ≡ d → Within (if is_none_tree f && tells o b then who else []) zs
      by true true p q = subst (λ (z : Bool). Within (if z then who else []) zs) (sym (ap (λ z. z && tells o b) p ∙ q)) (next p q)
      by true false p q = subst (λ (z : Bool). Within (if z then who else []) zs) (sym (ap (λ z. z && tells o b) p ∙ q)) (within_none zs)
      by false d p q = subst (λ (z : Bool). Within (if z then who else []) zs) (sym (ap (λ z. z && tells o b) p)) (within_none zs)

  -- of a subject: nothing, or one local
  subject_within : (w : Wanted) (known : List ℕ) (e : ExprTree) (who : List ℕ) → subject C e ≡ who → (t : TypedExpr) → (typing C V w known e).got ≡ Some t → (zs : List ℕ) → ((i : ℕ) → node_of t ≡ node.Local i → zs ≡ i ∷ []) → Within who zs
  subject_within w known e [] s t g zs next = within_none zs
  subject_within w known e (i ∷ more) s t g zs next =
      let r = (subject_node w known e i more s).each t g in
      subst (λ l. Within (i ∷ l) zs) (sym r.1) (subst (Within (i ∷ [])) (sym (next i r.0)) (λ x h. h))

  -- ---- expressions

  abbrev Told : ExprTree → TypedExpr → Type 0
  Told e t = (b : Bool) → Within (facts C b e) (telling.facts b t)

  compare_told : (known : List ℕ) (span : Span) (e : ExprTree) (cs : Comparisons) → Gives (behind (both (typing C V free known e) (operands C V known cs)) (ruled_all span (faults_of C.classes) (chain span))) (Told (at (tree.Compare e cs) span))
  compare_told known span e no_comparisons = gives_any (Told (at (tree.Compare e no_comparisons) span)) _ (λ t b. within_none (telling.facts b t))
  compare_told known span e (comparison_then o f (comparison_then u g more)) = gives_any (Told (at (tree.Compare e (comparison_then o f (comparison_then u g more))) span)) _ (λ t b. within_none (telling.facts b t))
  compare_told known span e (comparison_then o f no_comparisons) =
      gives_ruled_all (λ (p : TypedExpr × List (CmpOp × TypedExpr)). ((typing C V free known e).got ≡ Some p.0) × ((q : TypedExpr) × ((typing C V free known f).got ≡ Some q) × (p.1 ≡ (o, q) ∷ []))) (Told (at (tree.Compare e (comparison_then o f no_comparisons)) span))
      span (faults_of C.classes) (chain span) (both (typing C V free known e) (operands C V known (comparison_then o f no_comparisons)))
      (gives_both (λ p. (typing C V free known e).got ≡ Some p) (λ (l : List (CmpOp × TypedExpr)). (q : TypedExpr) × ((typing C V free known f).got ≡ Some q) × (l ≡ (o, q) ∷ [])) (typing C V free known e) (operands C V known (comparison_then o f no_comparisons))
      (record { each = λ p h. h })
      (gives_row (λ (x : CmpOp × TypedExpr). (q : TypedExpr) × ((typing C V free known f).got ≡ Some q) × (x ≡ (o, q))) (λ l. l ≡ []) (λ (l : List (CmpOp × TypedExpr)). (q : TypedExpr) × ((typing C V free known f).got ≡ Some q) × (l ≡ (o, q) ∷ []))
      (made (λ t. (o, t)) (typing C V free known f)) (operands C V known no_comparisons)
      (gives_made (λ q. (typing C V free known f).got ≡ Some q) (λ (x : CmpOp × TypedExpr). (q : TypedExpr) × ((typing C V free known f).got ≡ Some q) × (x ≡ (o, q))) (λ t. (o, t)) (typing C V free known f) (record { each = λ q h. h }) (λ q h. (q, h, refl)))
      (gives_is (λ (l : List (CmpOp × TypedExpr)). l ≡ []) [] refl)
      (λ x l r s. (r.0, r.1, ap (λ (y : CmpOp × TypedExpr). y ∷ l) r.2 ∙ ap (λ (z : List (CmpOp × TypedExpr)). (o, r.0) ∷ z) s))))
      (λ p r none b.
      subst (λ (l : List (CmpOp × TypedExpr)). Within (none_test b o f (subject C e)) (telling.facts b (chain span (p.0, l)))) (sym r.1.2)
      (none_told b o f (subject C e) (telling.facts b (chain_of span o p.0 r.1.0)) (λ nothing told.
      subject_within free known e (subject C e) refl p.0 r.0 (telling.facts b (chain_of span o p.0 r.1.0))
      (λ i local. pair_tells b span o p.0 r.1.0 ∙ typed_test b o i (node_of p.0) (node_of r.1.0) told local ((none_node free known f nothing).each r.1.0 r.1.1)))))

  not_told : (b : Bool) (span : Span) (e : ExprTree) (t : TypedExpr) → Told e t → Within (facts C b (at (tree.Not e) span)) (telling.facts b (inversion span t))
  not_told true span e t told = within_same (facts C false e) (telling.facts true (inversion span t)) (telling.facts false t) (truth_tells false t) (told false)
  not_told false span e t told = within_same (facts C true e) (telling.facts false (inversion span t)) (telling.facts true t) (truth_tells true t) (told true)

  junction_told : (conjoined : Bool) (w : Wanted) (span : Span) (a c : ExprTree) (p : TypedExpr × TypedExpr) (e : TypedExpr) → Told a p.0 → Told c p.1 → junction C.classes w conjoined span p ≡ Ok e → (b : Bool) → Within (joined_facts (if conjoined then b else not b) (facts C b a) (facts C b c)) (telling.facts b e)
  junction_told conjoined w span a c p e ta tc h b =
      junction_is (λ x. Within (joined_facts (if conjoined then b else not b) (facts C b a) (facts C b c)) (telling.facts b x)) C.classes w conjoined span p e
      (word_tells conjoined b (facts C b a) (facts C b c) (truth p.0) (truth p.1) sort.Bool span (within_same (facts C b a) (telling.facts b (truth p.0)) (telling.facts b p.0) (truth_tells b p.0) (ta b)) (within_same (facts C b c) (telling.facts b (truth p.1)) (telling.facts b p.1) (truth_tells b p.1) (tc b)))
      (λ t. word_tells conjoined b (facts C b a) (facts C b c) (coerced t p.0) (coerced t p.1) t span (within_same (facts C b a) (telling.facts b (coerced t p.0)) (telling.facts b p.0) (coerced_tells b t p.0) (ta b)) (within_same (facts C b c) (telling.facts b (coerced t p.1)) (telling.facts b p.1) (coerced_tells b t p.1) (tc b)))
      h

  pub told_typing : (w : Wanted) (known : List ℕ) (x : ExprTree) → Gives (typing C V w known x) (Told x)
  told_typing w known (at (tree.Compare e cs) span) = gives_compare C V w known span e cs (Told (at (tree.Compare e cs) span)) (compare_told known span e cs)
  told_typing w known (at (tree.Not e) span) = gives_made (Told e) (Told (at (tree.Not e) span)) (inversion span) (typing C V test known e) (told_typing test known e) (λ t told b. not_told b span e t told)
  told_typing w known (at (tree.And a c) span) =
      let sa = typing C V (operand w) known a in
      let sc = typing C V (operand w) (facts C true a ++ known) c in
      gives_rule (λ (p : TypedExpr × TypedExpr). Told a p.0 × Told c p.1) (Told (at (tree.And a c) span)) span (junction C.classes w true span) (both sa sc)
      (gives_both (Told a) (Told c) sa sc (told_typing (operand w) known a) (told_typing (operand w) (facts C true a ++ known) c))
      (λ p r e h b. junction_told true w span a c p e r.0 r.1 h b)
  told_typing w known (at (tree.Or a c) span) =
      let sa = typing C V (operand w) known a in
      let sc = typing C V (operand w) (facts C false a ++ known) c in
      gives_rule (λ (p : TypedExpr × TypedExpr). Told a p.0 × Told c p.1) (Told (at (tree.Or a c) span)) span (junction C.classes w false span) (both sa sc)
      (gives_both (Told a) (Told c) sa sc (told_typing (operand w) known a) (told_typing (operand w) (facts C false a ++ known) c))
      (λ p r e h b. junction_told false w span a c p e r.0 r.1 h b)
  told_typing w known (at n span) = gives_any (Told (at n span)) (typing C V w known (at n span)) (λ t b. within_none (telling.facts b t))
