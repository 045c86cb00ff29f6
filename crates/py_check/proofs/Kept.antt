-- What statements leave of the types of variables: a variable that has one, or has none for good, stays as it is.
use Rattle.std.proofs.Common.{◌≡◌, ℕ, zero, suc, ◌<◌, Bool, true, false, List, [], ◌∷◌, length, slice_set, Option, Some, None, refl, ap, sym, ◌∙◌, subst, if◌then◌else◌, ◌⊎◌, inl, inr, length-set, arith}
use Rattle.std.specs.Prelude.{is_some}
use Rattle.std.specs.Option.{option_map}
use Rattle.value_core.specs.declared.exception.ExcClass.TheVariants.{Exception}
use Rattle.py_syntax.specs.declared.token.Span.{Span}
use Rattle.py_syntax.specs.Expressions.{ExprTree}
use Rattle.py_syntax.specs.Statements as node
use Rattle.py_syntax.specs.Statements.{StmtTree, StmtNode, Suite, no_stmts, stmt_then, Arms, no_arms, arm_then, Handlers, no_handlers, handler_then, MaybeSuite, no_suite, some_suite}
use Rattle.py_typed.specs.Sorts.{Sort, Exc}
use Rattle.py_typed.specs.Expressions.{type_of}
use Rattle.py_check_context.specs.declared.scope.Meaning.{Meaning}
use Rattle.py_check_context.specs.declared.scope.Meaning.TheVariants as meaning
use Rattle.py_check_context.specs.Context.{Context, VarSort, VarSorts, var_at}
use Rattle.py_check_flow.specs.Bindings.{name_in}
use Rattle.py_check_flow.specs.Closed.{is_closed}
use Rattle.py_check_places.specs.Places.{Known, is_unset, fix, first_type, bind_variable, bind_name, bind_names, with_names, where_test, entering, Way, setting_out, behind_arm}
use Rattle.py_check_places.specs.Shapes.{is_row, leaves, target_names, parts_of}
use Rattle.py_check_places.specs.Shapes.{bind_target}
use Rattle.py_check_assignments.specs.Assignments.{value_for, assigns, annotates_name, value_sort, other_sort, binds_annotated}
use Rattle.py_check_loops.specs.Loops.{course}
use Rattle.py_check_loops.specs.Heads.{some_items, for_head, in_for}
use Rattle.py_check_exceptions.specs.Handlers.{handler_head, in_handler}
use Rattle.py_check_statements.specs.Bodies.{after, node_after, block_after, arms_after, outside_try, handlers_after, last_after, is_last}

true_false : (b : Bool) → b ≡ true → b ≡ false → ⊥
true_false b p q = cc

-- ---- one row of variables

pub record Kept (xs ys : List VarSort) : Type 0 where
  pub stays : (i : ℕ) → is_unset (var_at xs i) ≡ false → var_at ys i ≡ var_at xs i
  pub size : length ys ≡ length xs

kept_all : (xs : List VarSort) → Kept xs xs
kept_all xs = record { stays = λ i e. refl; size = refl }

kept_trans : (xs ys zs : List VarSort) → Kept xs ys → Kept ys zs → Kept xs zs
kept_trans xs ys zs k l = record { stays = λ i e. l.stays i (ap is_unset (k.stays i e) ∙ e) ∙ k.stays i e; size = l.size ∙ k.size }

kept_at : (xs : List VarSort) (i j : ℕ) (v : VarSort) → is_unset (var_at xs i) ≡ true → is_unset (var_at xs j) ≡ false → var_at (slice_set xs i v) j ≡ var_at xs j
kept_at [] i j v p q = refl
kept_at (x ∷ xs) zero zero v p q = absurd (true_false (is_unset x) p q)
kept_at (x ∷ xs) zero (suc j) v p q = refl
kept_at (x ∷ xs) (suc i) zero v p q = refl
kept_at (x ∷ xs) (suc i) (suc j) v p q = kept_at xs i j v p q

-- what is at a place behind a first binding
pub set_cases : (xs : List VarSort) (i j : ℕ) (v : VarSort) → (var_at (slice_set xs i v) j ≡ var_at xs j) ⊎ (var_at (slice_set xs i v) j ≡ v)
set_cases [] i j v = inl refl
set_cases (x ∷ xs) zero zero v = inr refl
set_cases (x ∷ xs) zero (suc j) v = inl refl
set_cases (x ∷ xs) (suc i) zero v = inl refl
set_cases (x ∷ xs) (suc i) (suc j) v = set_cases xs i j v

set_there : (xs : List VarSort) (i : ℕ) (v : VarSort) → i < length xs → var_at (slice_set xs i v) i ≡ v
set_there [] i v h = absurd (omega arith)
set_there (x ∷ xs) zero v h = refl
set_there (x ∷ xs) (suc i) v h = set_there xs i v (omega arith)

-- ---- a binding

abbrev fixed : Bool → List VarSort → ℕ → VarSort → List VarSort
fixed b types i v = if b then slice_set types i v else types

pub fix_set : (types : List VarSort) (i : ℕ) (v : VarSort) → is_unset (var_at types i) ≡ false → fix types i v ≡ types
fix_set types i v e = ap (λ b. fixed b types i v) e

pub fix_open : (types : List VarSort) (i : ℕ) (v : VarSort) → is_unset (var_at types i) ≡ true → fix types i v ≡ slice_set types i v
fix_open types i v e = ap (λ b. fixed b types i v) e

pub fix_first : (types : List VarSort) (i : ℕ) (v : VarSort) → i < length types → is_unset (var_at types i) ≡ true → var_at (fix types i v) i ≡ v
fix_first types i v h e = ap (λ l. var_at l i) (fix_open types i v e) ∙ set_there types i v h

pub fix_cases : (types : List VarSort) (i j : ℕ) (v : VarSort) → (var_at (fix types i v) j ≡ var_at types j) ⊎ ((is_unset (var_at types i) ≡ true) × (var_at (fix types i v) j ≡ v))
fix_cases types i j v = by (is_unset (var_at types i)) refl
  where
    set_to : is_unset (var_at types i) ≡ true → (var_at (slice_set types i v) j ≡ var_at types j) ⊎ (var_at (slice_set types i v) j ≡ v) → (var_at (fix types i v) j ≡ var_at types j) ⊎ ((is_unset (var_at types i) ≡ true) × (var_at (fix types i v) j ≡ v))
    set_to e (inl q) = inl (ap (λ l. var_at l j) (fix_open types i v e) ∙ q)
    set_to e (inr q) = inr (e, ap (λ l. var_at l j) (fix_open types i v e) ∙ q)

    by : (b : Bool) → is_unset (var_at types i) ≡ b → (var_at (fix types i v) j ≡ var_at types j) ⊎ ((is_unset (var_at types i) ≡ true) × (var_at (fix types i v) j ≡ v))
    by true e = set_to e (set_cases types i j v)
    by false e = inl (ap (λ l. var_at l j) (fix_set types i v e))

kept_fix : (types : List VarSort) (i : ℕ) (v : VarSort) → Kept types (fix types i v)
kept_fix types i v = by (is_unset (var_at types i)) refl
  where
    by : (b : Bool) → is_unset (var_at types i) ≡ b → Kept types (fix types i v)
    by true e = subst (Kept types) (sym (fix_open types i v e)) (record { stays = λ j q. kept_at types i j v e q; size = length-set types i v })
    by false e = subst (Kept types) (sym (fix_set types i v e)) (kept_all types)

-- ---- all variables

abbrev row_of : List VarSort → List VarSort → VarSorts
row_of locals globals = record { locals = locals; globals = globals }

pub record Follows (V W : VarSorts) : Type 0 where
  pub locals : Kept V.locals W.locals
  pub globals : Kept V.globals W.globals

pub follows_itself : (V : VarSorts) → Follows V V
follows_itself V = record { locals = kept_all V.locals; globals = kept_all V.globals }

pub follows_on : (V W X : VarSorts) → Follows V W → Follows W X → Follows V X
follows_on V W X f g = record { locals = kept_trans V.locals W.locals X.locals f.locals g.locals; globals = kept_trans V.globals W.globals X.globals f.globals g.globals }

pub follows_variable : (ok : Bool) (k : Known) (m : Meaning) (t : Option Sort) → Follows k.types (bind_variable ok k m t).types
follows_variable ok k (meaning.Local i) t = record { locals = kept_fix k.types.locals i (first_type ok t); globals = kept_all k.types.globals }
follows_variable ok k (meaning.Global i) t = record { locals = kept_all k.types.locals; globals = kept_fix k.types.globals i (first_type ok t) }
follows_variable ok k _ t = follows_itself k.types

-- ---- variables that are not bound yet

-- a variable that has no type so far, and may still get one
abbrev pub is_open : VarSorts → Meaning → Bool
is_open V (meaning.Local i) = is_unset (var_at V.locals i)
is_open V (meaning.Global i) = is_unset (var_at V.globals i)
is_open V m = false

-- a binding leaves the types as they are where the variable has one
pub bind_set : (ok : Bool) (k : Known) (m : Meaning) (t : Option Sort) → is_open k.types m ≡ false → (bind_variable ok k m t).types ≡ k.types
bind_set ok k (meaning.Local i) t h = ap (λ (l : List VarSort). row_of l k.types.globals) (fix_set k.types.locals i (first_type ok t) h)
bind_set ok k (meaning.Global i) t h = ap (λ (l : List VarSort). row_of k.types.locals l) (fix_set k.types.globals i (first_type ok t) h)
bind_set ok k _ t h = refl

module _ (C : Context) where
  pub follows_name : (ok : Bool) (k : Known) (x : Option (List ℕ)) (t : Option Sort) → Follows k.types (bind_name C ok k x t).types
  follows_name ok k None t = follows_itself k.types
  follows_name ok k (Some x) t = follows_variable ok k (C.meaning x) t

  pub follows_names : (ok : Bool) (k : Known) (xs : List (Option (List ℕ))) (ts : List Sort) → Follows k.types (bind_names C ok k xs ts).types
  follows_names ok k [] ts = follows_itself k.types
  follows_names ok k (x ∷ xs) [] = follows_on k.types (bind_name C ok k x None).types (bind_names C ok (bind_name C ok k x None) xs []).types (follows_name ok k x None) (follows_names ok (bind_name C ok k x None) xs [])
  follows_names ok k (x ∷ xs) (t ∷ ts) =
      follows_on k.types (bind_name C ok k x (Some t)).types (bind_names C ok (bind_name C ok k x (Some t)) xs ts).types (follows_name ok k x (Some t)) (follows_names ok (bind_name C ok k x (Some t)) xs ts)

  pub follows_target : (ok : Bool) (k : Known) (target : ExprTree) (t : Option Sort) → Follows k.types (bind_target C ok k target t).types
  follows_target ok k target t = follows_names ok k (target_names target) (parts_of (is_row target) (length (leaves target)) t)

  follows_annotated : (k : Known) (span : Span) (x : Option (List ℕ)) (target mark : ExprTree) (e : Option ExprTree) → Follows k.types (binds_annotated C k span x target mark e).types
  follows_annotated k span None target mark e = follows_target false k target (other_sort C k target e)
  follows_annotated k span (Some x) target mark e = follows_target (is_some (annotates_name C k span x mark e).got) k target (value_sort C k x e)

  mutual
    pub follows_stmt : (k : Known) (s : StmtTree) → Follows k.types (after C k s).types
    follows_stmt k (node.at n span) = follows_node k span n

    pub follows_node : (k : Known) (span : Span) (n : StmtNode) → Follows k.types (node_after C k span n).types
    follows_node k span (node.Assign target e) = follows_target (is_some (assigns C k span target e).got) k target (option_map type_of (value_for C k target e).got)
    follows_node k span (node.Annot target mark e) = follows_annotated k span (name_in target) target mark e
    follows_node k span (node.Aug target op e) = follows_target false k target None
    follows_node k span (node.If arms other) =
        let w = arms_after C (setting_out k) arms in
        follows_on k.types w.at.types (block_after C w.at other).types (follows_arms (setting_out k) arms) (follows_block w.at other)
    follows_node k span (node.While e body) = follows_block (where_test C (entering C k (node.at (node.While e body) span)) true e) body
    follows_node k span (node.For target e body) =
        let s = node.at (node.For target e body) span in
        let l = in_for C k s span target e in
        follows_on k.types l.types (block_after C l body).types (follows_target (is_some (for_head C k s span target e).got) (entering C k s) target (some_items (course C k e).got)) (follows_block l body)
    follows_node k span (node.Try body clauses last) =
        let names = outside_try C k (node.at (node.Try body clauses last) span) in
        let first = block_after C k body in
        let handled = handlers_after C names first clauses in
        follows_on k.types handled.types (last_after C names handled last).types
        (follows_on k.types first.types handled.types (follows_block k body) (follows_clauses names first clauses)) (follows_last names handled last)
    follows_node k span _ = follows_itself k.types

    pub follows_clauses : (names : List ℕ) (k : Known) (clauses : Handlers) → Follows k.types (handlers_after C names k clauses).types
    follows_clauses names k no_handlers = follows_itself k.types
    follows_clauses names k (handler_then e x body span more) =
        let begun = in_handler C (with_names k names) span e x (is_last more) in
        let end = block_after C begun body in
        follows_on k.types end.types (handlers_after C names end more).types
        (follows_on k.types begun.types end.types (follows_name (is_some (handler_head C (with_names k names) span e x (is_last more)).got) (with_names k names) x (Some (Exc Exception))) (follows_block begun body))
        (follows_clauses names end more)

    pub follows_last : (names : List ℕ) (k : Known) (last : MaybeSuite) → Follows k.types (last_after C names k last).types
    follows_last names k no_suite = follows_itself k.types
    follows_last names k (some_suite body) = follows_block (with_names k names) body

    pub follows_block : (k : Known) (body : Suite) → Follows k.types (block_after C k body).types
    follows_block k no_stmts = follows_itself k.types
    follows_block k (stmt_then s more) = follows_on k.types (after C k s).types (block_after C (after C k s) more).types (follows_stmt k s) (follows_block (after C k s) more)

    pub follows_arms : (w : Way) (arms : Arms) → Follows w.at.types (arms_after C w arms).at.types
    follows_arms w no_arms = follows_itself w.at.types
    follows_arms w (arm_then e body more) =
        let end = block_after C (where_test C w.at true e) body in
        let next = behind_arm C w e (is_closed body) end in
        follows_on w.at.types end.types (arms_after C next more).at.types (follows_block (where_test C w.at true e) body) (follows_arms next more)
