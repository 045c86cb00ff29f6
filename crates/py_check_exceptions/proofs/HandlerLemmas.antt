-- The heads of except clauses, from their parts.
use Rattle.std.proofs.Common.{◌≡◌, ◌∙◌, ◌<◌, ◌≤◌, ◌+◌, ℕ, suc, List, [], ◌++◌, Option, Some, None, Result, Ok, Err, IfOk, length, map, drop, get_or, drop-cons, add-one, refl, ap, sym, subst}
use Rattle.std.proofs.lemmas.List.{append-nil, append_assoc, drop_all}
use Rattle.std.specs.Option.{option_zip}
use Rattle.value_core.specs.declared.exception.ExcClass.{ExcClass}
use Rattle.value_core.specs.declared.memory.Memory.{Memory}
use Rattle.py_syntax.specs.declared.token.Span.{Span}
use Rattle.py_syntax.specs.declared.expression.Expr.{Expr}
use Rattle.py_syntax.specs.Expressions as tree
use Rattle.py_syntax.specs.Expressions.{expr_tree, exprs_of}
use Rattle.py_syntax_diagnostics.specs.declared.diagnostic.Diag.{Diag}
use Rattle.py_check_context.specs.Context.{Context}
use Rattle.py_check_messages.specs.Seen.{Seen, Message, is, both, rule, ruled, Tells}
use Rattle.py_check_messages.specs.Rows.{appended, kept}
use Rattle.py_check_messages.proofs.RowLemmas.{Remains, row_step}
use Rattle.py_check_values.specs.Aims.{Aim}
use Rattle.py_check_places.specs.Places.{Known}
use Rattle.py_check_exceptions.specs.Handlers.{class_at, classes_along, name_at}

-- ---- the classes of a tuple

-- nothing is typed in front
pub starts : {A : Type 0} (front : Option (List A)) (o : List Diag) (whole : Seen (List A)) → front ≡ Some [] → Remains front o o whole whole
starts front o whole e =
    let P : Option (List _) → Type 0 = λ f. Remains f o o whole whole in
    subst P (sym e) (record { typed = nothing_before whole.got; told = refl })
  where
    nothing_before : {A : Type 0} (rest : Option (List A)) → rest ≡ appended (Some []) rest
    nothing_before None = refl
    nothing_before (Some l) = refl

module _ (C : Context) (k : Known) (es : List Expr) (i : ℕ) where
  abbrev left : ℕ → Seen (List (Option ExcClass))
  left n = classes_along C k (exprs_of (map expr_tree (drop n es)))

  -- one more
  module _ (e : Expr) (h : i < length es) (at : e ≡ get_or es i e) where
    items_at : exprs_of (map expr_tree (drop i es)) ≡ tree.expr_then (expr_tree e) (exprs_of (map expr_tree (drop (i + 1) es)))
    items_at =
        ap (λ l. exprs_of (map expr_tree l)) (drop-cons es i e h)
        ∙ ap (λ (x : Expr). tree.expr_then (expr_tree x) (exprs_of (map expr_tree (drop (suc i) es)))) (sym at)
        ∙ ap (λ n. tree.expr_then (expr_tree e) (exprs_of (map expr_tree (drop n es)))) (sym (add-one i))

    pub one_more : (front front1 : Option (List (Option ExcClass))) (got : Option (Option ExcClass)) (o0 o1 o2 : List Diag) (whole : Seen (List (Option ExcClass))) → got ≡ (class_at C k (expr_tree e)).got → o2 ≡ o1 ++ (class_at C k (expr_tree e)).said → front1 ≡ kept front got → Remains front o0 o1 whole (left i) → Remains front1 o0 o2 whole (left (i + 1))
    one_more front front1 got o0 o1 o2 whole g m f before =
        let P : tree.ExprTrees → Type 0 = λ l. Remains front o0 o1 whole (classes_along C k l) in
        let Q : Option (List (Option ExcClass)) → Type 0 = λ x. Remains x o0 o2 whole (left (i + 1)) in
        subst Q (sym f) (row_step front got o0 o1 o2 whole (left (i + 1)) (class_at C k (expr_tree e)) (subst P items_at before) g m)

  -- behind the last one
  pub ends : length es ≤ i → (front : Option (List (Option ExcClass))) (o0 o1 : List Diag) (whole : Seen (List (Option ExcClass))) → Remains front o0 o1 whole (left i) → (front ≡ whole.got) × (o1 ≡ o0 ++ whole.said)
  ends h front o0 o1 whole r =
      let over : left i ≡ is [] = ap (λ l. classes_along C k (exprs_of (map expr_tree l))) (drop_all i es h) in (
        sym (r.typed ∙ ap (λ (x : Seen (List (Option ExcClass))). appended front x.got) over ∙ nothing_behind front),
        sym (r.told ∙ ap (λ (x : Seen (List (Option ExcClass))). o1 ++ x.said) over ∙ append-nil o1),
      )
    where
      nothing_behind : {A : Type 0} (l : Option (List A)) → appended l (Some []) ≡ l
      nothing_behind None = refl
      nothing_behind (Some l) = ap Some (append-nil l)

-- ---- whole heads

name_silent : (C : Context) (k : Known) (x : Option (List ℕ)) → (name_at C k x).said ≡ []
name_silent C k None = refl
name_silent C k (Some x) = refl

-- a head, from its classes and its name, of which nothing is said
head_says : {A B D Z : Type 0} (span : Span) (f : A × B → Result D Message) (v : Z → D) (s : Seen A) (t : Seen B) (a : Option A) (b : Option B) (r : Option Z) (o0 o1 o2 : List Diag) → a ≡ s.got → o1 ≡ o0 ++ s.said → b ≡ t.got → t.said ≡ [] → Tells v r o1 o2 (ruled span f (option_zip a b)) → Tells v r o0 o2 (rule span f (both s t))
head_says span f v s t a b r o0 o1 o2 g m h n told =
    let z = ap (λ x. option_zip x b) g ∙ ap (λ y. option_zip s.got y) h in (
      told.0 ∙ ap (λ q. (ruled span f q).got) z,
      told.1
          ∙ ap (λ l. l ++ (ruled span f (option_zip a b)).said) m
          ∙ append_assoc o0 s.said (ruled span f (option_zip a b)).said
          ∙ ap (λ q. o0 ++ (s.said ++ (ruled span f q).said)) z
          ∙ ap (λ l. o0 ++ (l ++ (ruled span f (option_zip s.got t.got)).said)) (sym (append-nil s.said))
          ∙ ap (λ l. o0 ++ ((s.said ++ l) ++ (ruled span f (option_zip s.got t.got)).said)) (sym n),
    )

if_ok : {X : Type 0} (r : Result X Memory) (P Q : X → Type 0) → ((x : X) → P x → Q x) → IfOk r P → IfOk r Q
if_ok (Ok x) P Q f h = f x h
if_ok (Err e) P Q f h = tt

pub named_head_says : {D Z : Type 0} (C : Context) (k : Known) (x : Option (List ℕ)) (span : Span) (f : List (Option ExcClass) × Option Aim → Result D Message) (v : Z → D) (s : Seen (List (Option ExcClass))) (a : Option (List (Option ExcClass))) (b : Option (Option Aim)) (r : Result (Option Z) Memory) (o0 o1 o2 : List Diag) → a ≡ s.got → o1 ≡ o0 ++ s.said → b ≡ (name_at C k x).got → IfOk r (λ z. Tells v z o1 o2 (ruled span f (option_zip a b))) → IfOk r (λ z. Tells v z o0 o2 (rule span f (both s (name_at C k x))))
named_head_says C k x span f v s a b r o0 o1 o2 g m h =
    if_ok r (λ z. Tells v z o1 o2 (ruled span f (option_zip a b))) (λ z. Tells v z o0 o2 (rule span f (both s (name_at C k x))))
    (λ z told. head_says span f v s (name_at C k x) a b z o0 o1 o2 g m h (name_silent C k x) told)
