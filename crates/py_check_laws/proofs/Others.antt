-- Statements leave the variables of names that they do not bind as they are.
use Rattle.std.proofs.Common.{◌≡◌, ℕ, zero, suc, Bool, true, false, ◌||◌, List, [], ◌∷◌, ◌++◌, length, map, slice_set, Option, Some, None, refl, ap, sym, ◌∙◌, subst}
use Rattle.std.specs.Prelude.{is_some}
use Rattle.std.specs.List.{flat_map}
use Rattle.std.specs.Option.{option_map}
use Rattle.std.specs.Str.{bytes_eq}
use Rattle.value_core.specs.declared.exception.ExcClass.TheVariants.{Exception}
use Rattle.py_syntax.specs.declared.token.Span.{Span}
use Rattle.py_syntax.specs.Expressions.{ExprTree}
use Rattle.py_syntax.specs.Statements as node
use Rattle.py_syntax.specs.Statements.{StmtTree, StmtNode, Suite, no_stmts, stmt_then, Arms, no_arms, arm_then, Handlers, no_handlers, handler_then, MaybeSuite, no_suite, some_suite}
use Rattle.py_binder.specs.Scope.{contains}
use Rattle.py_typed.specs.Sorts.{Sort, Exc}
use Rattle.py_typed.specs.Expressions.{type_of}
use Rattle.py_check_context.specs.declared.scope.Meaning.{Meaning}
use Rattle.py_check_context.specs.declared.scope.Meaning.TheVariants as meaning
use Rattle.py_check_context.specs.Context.{Context, VarSort, VarSorts, var_at}
use Rattle.py_check_flow.specs.Bindings.{Binding, bound_names, target_bindings, name_in, marked, caught, stmt_bindings, act_bindings, suite_bindings, arms_bindings, handlers_bindings, last_bindings}
use Rattle.py_check_flow.specs.Closed.{is_closed}
use Rattle.py_check_calls.specs.Callees.{is_variable}
use Rattle.py_check_places.specs.Places.{Known, is_unset, fix, first_type, bind_variable, bind_name, bind_names, with_names, where_test, entering, Way, setting_out, behind_arm}
use Rattle.py_check_places.specs.Shapes.{is_row, leaves, parts_of}
use Rattle.py_check_places.specs.Shapes.{bind_target}
use Rattle.py_check_assignments.specs.Assignments.{value_for, assigns, annotates_name, value_sort, other_sort, binds_annotated}
use Rattle.py_check_loops.specs.Loops.{course}
use Rattle.py_check_loops.specs.Heads.{some_items, for_head, in_for}
use Rattle.py_check_exceptions.specs.Handlers.{handler_head, in_handler}
use Rattle.py_check_statements.specs.Bodies.{is_last, outside_try, after, node_after, block_after, arms_after, handlers_after, last_after}
use Rattle.py_check_expressions_laws.proofs.Types.{clash}
use Rattle.py_check_laws.specs.Variables.{sort_in}
use Rattle.py_check_laws.specs.WellTyped.{IsScope}
use Rattle.py_check.proofs.Bound.{name_no_row, single_bound, named, leaf_bindings, target_leaves}
use Rattle.py_check.proofs.Kept.{fix_set, fix_open}
use Rattle.py_check.proofs.NameRows.{text_is_itself}

-- ---- one variable

other_set : (xs : List VarSort) (i j : ℕ) (v : VarSort) → (i ≡ j → ⊥) → var_at (slice_set xs i v) j ≡ var_at xs j
other_set [] i j v h = refl
other_set (x ∷ xs) zero zero v h = absurd (h refl)
other_set (x ∷ xs) zero (suc j) v h = refl
other_set (x ∷ xs) (suc i) zero v h = refl
other_set (x ∷ xs) (suc i) (suc j) v h = other_set xs i j v (λ e. h (ap suc e))

other_fix : (types : List VarSort) (i j : ℕ) (v : VarSort) → (i ≡ j → ⊥) → var_at (fix types i v) j ≡ var_at types j
other_fix types i j v h = by (is_unset (var_at types i)) refl
  where
    by : (b : Bool) → is_unset (var_at types i) ≡ b → var_at (fix types i v) j ≡ var_at types j
    by true e = ap (λ (l : List VarSort). var_at l j) (fix_open types i v e) ∙ other_set types i j v h
    by false e = ap (λ (l : List VarSort). var_at l j) (fix_set types i v e)

other_variable : (ok : Bool) (k : Known) (a b : Meaning) (t : Option Sort) → (a ≡ b → ⊥) → sort_in (bind_variable ok k a t).types b ≡ sort_in k.types b
other_variable ok k (meaning.Local i) (meaning.Local j) t h = other_fix k.types.locals i j (first_type ok t) (λ e. h (ap meaning.Local e))
other_variable ok k (meaning.Local i) (meaning.Global j) t h = refl
other_variable ok k (meaning.Local i) _ t h = refl
other_variable ok k (meaning.Global i) (meaning.Global j) t h = other_fix k.types.globals i j (first_type ok t) (λ e. h (ap meaning.Global e))
other_variable ok k (meaning.Global i) (meaning.Local j) t h = refl
other_variable ok k (meaning.Global i) _ t h = refl
other_variable ok k _ b t h = refl

no_variable : (V W : VarSorts) (m : Meaning) → is_variable m ≡ false → sort_in V m ≡ sort_in W m
no_variable V W (meaning.Local i) h = absurd (cc)
no_variable V W (meaning.Global i) h = absurd (cc)
no_variable V W _ h = refl

-- ---- names

front_false : (b : Bool) → (b || false) ≡ false → b ≡ false
front_false true h = absurd (cc)
front_false false h = refl

module _ (C : Context) (x : List ℕ) (V : VarSorts) (scope : IsScope C V) where
  abbrev Absent : List Binding → Type 0
  Absent bs = contains (bound_names bs) x ≡ false

  absent_two : (a b : List Binding) → Absent (a ++ b) → Absent a × Absent b
  absent_two [] b h = (refl, h)
  absent_two (y ∷ a) b h = by (bytes_eq x y.name) h (absent_two a b)
    where
      by : (c : Bool) → (c || contains (bound_names (a ++ b)) x) ≡ false → (Absent (a ++ b) → Absent a × Absent b) → ((c || contains (bound_names a) x) ≡ false) × Absent b
      by true q next = absurd (cc)
      by false q next = next q

  -- the type so far of the variable of this name
  abbrev seen : Known → VarSort
  seen k = sort_in k.types (C.meaning x)

  other_name : (ok : Bool) (k : Known) (y : List ℕ) (t : Option Sort) → bytes_eq x y ≡ false → seen (bind_variable ok k (C.meaning y) t) ≡ seen k
  other_name ok k y t h = by (is_variable (C.meaning x)) refl
    where
      differs : is_variable (C.meaning x) ≡ true → C.meaning y ≡ C.meaning x → ⊥
      differs v e = clash (bytes_eq x y) (ap (λ z. bytes_eq x z) (sym (scope.differ x y v (sym e))) ∙ text_is_itself x) h

      by : (b : Bool) → is_variable (C.meaning x) ≡ b → seen (bind_variable ok k (C.meaning y) t) ≡ seen k
      by true v = other_variable ok k (C.meaning y) (C.meaning x) t (differs v)
      by false v = no_variable (bind_variable ok k (C.meaning y) t).types k.types (C.meaning x) v

  other_leaf : (ok : Bool) (k : Known) (o : Option (List ℕ)) (t : Option Sort) → Absent (named o) → seen (bind_name C ok k o t) ≡ seen k
  other_leaf ok k None t h = refl
  other_leaf ok k (Some y) t h = other_name ok k y t (front_false (bytes_eq x y) h)

  -- the name of an except clause
  other_caught : (ok : Bool) (k : Known) (y : Option (List ℕ)) → Absent (caught y) → seen (bind_name C ok k y (Some (Exc Exception))) ≡ seen k
  other_caught ok k None h = refl
  other_caught ok k (Some y) h = other_name ok k y (Some (Exc Exception)) (front_false (bytes_eq x y) h)

  other_leaves : (ok : Bool) (k : Known) (es : List ExprTree) (ts : List Sort) → Absent (flat_map leaf_bindings es) → seen (bind_names C ok k (map name_in es) ts) ≡ seen k
  other_leaves ok k [] ts h = refl
  other_leaves ok k (e ∷ es) [] h =
      let q = absent_two (leaf_bindings e) (flat_map leaf_bindings es) h in
      other_leaves ok (bind_name C ok k (name_in e) None) es [] q.1 ∙ other_leaf ok k (name_in e) None q.0
  other_leaves ok k (e ∷ es) (t ∷ ts) h =
      let q = absent_two (leaf_bindings e) (flat_map leaf_bindings es) h in
      other_leaves ok (bind_name C ok k (name_in e) (Some t)) es ts q.1 ∙ other_leaf ok k (name_in e) (Some t) q.0

  other_target : (ok : Bool) (k : Known) (target : ExprTree) (t : Option Sort) → Absent (target_bindings target) → seen (bind_target C ok k target t) ≡ seen k
  other_target ok k target t h = other_leaves ok k (leaves target) (parts_of (is_row target) (length (leaves target)) t) (subst Absent (target_leaves target) h)

  other_annotated : (k : Known) (span : Span) (o : Option (List ℕ)) (target mark : ExprTree) (e : Option ExprTree) → name_in target ≡ o → Absent (marked o target mark) → seen (binds_annotated C k span o target mark e) ≡ seen k
  other_annotated k span None target mark e n h = other_target false k target (other_sort C k target e) h
  other_annotated k span (Some y) target mark e n h =
      let ok = is_some (annotates_name C k span y mark e).got in
      let t = value_sort C k y e in
      ap seen (single_bound C ok k target t (name_no_row target y n) ∙ ap (λ o. bind_name C ok k o t) n) ∙ other_leaf ok k (Some y) t h

  -- ---- statements

  mutual
    other_stmt : (k : Known) (s : StmtTree) → Absent (stmt_bindings s) → seen (after C k s) ≡ seen k
    other_stmt k (node.at n span) h = other_node k span n h

    other_node : (k : Known) (span : Span) (n : StmtNode) → Absent (act_bindings n) → seen (node_after C k span n) ≡ seen k
    other_node k span (node.Assign target e) h = other_target (is_some (assigns C k span target e).got) k target (option_map type_of (value_for C k target e).got) h
    other_node k span (node.Annot target mark e) h = other_annotated k span (name_in target) target mark e refl h
    other_node k span (node.Aug target op e) h = other_target false k target None h
    other_node k span (node.If arms other) h =
        let q = absent_two (arms_bindings arms) (suite_bindings other) h in
        other_block (arms_after C (setting_out k) arms).at other q.1 ∙ other_arms (setting_out k) arms q.0
    other_node k span (node.While e body) h = other_block (where_test C (entering C k (node.at (node.While e body) span)) true e) body h
    other_node k span (node.For target e body) h =
        let s = node.at (node.For target e body) span in
        let q = absent_two (target_bindings target) (suite_bindings body) h in
        other_block (in_for C k s span target e) body q.1 ∙ other_target (is_some (for_head C k s span target e).got) (entering C k s) target (some_items (course C k e).got) q.0
    other_node k span (node.Try body handlers last) h =
        let names = outside_try C k (node.at (node.Try body handlers last) span) in
        let end = block_after C k body in
        let q = absent_two (suite_bindings body) (handlers_bindings handlers ++ last_bindings last) h in
        let p = absent_two (handlers_bindings handlers) (last_bindings last) q.1 in
        other_last names (handlers_after C names end handlers) last p.1 ∙ other_clauses names end handlers p.0 ∙ other_block k body q.0
    other_node k span _ h = refl

    pub other_block : (k : Known) (body : Suite) → Absent (suite_bindings body) → seen (block_after C k body) ≡ seen k
    other_block k no_stmts h = refl
    other_block k (stmt_then s more) h = let q = absent_two (stmt_bindings s) (suite_bindings more) h in other_block (after C k s) more q.1 ∙ other_stmt k s q.0

    other_arms : (w : Way) (arms : Arms) → Absent (arms_bindings arms) → seen (arms_after C w arms).at ≡ seen w.at
    other_arms w no_arms h = refl
    other_arms w (arm_then e body more) h =
        let q = absent_two (suite_bindings body) (arms_bindings more) h in
        let end = block_after C (where_test C w.at true e) body in
        other_arms (behind_arm C w e (is_closed body) end) more q.1 ∙ other_block (where_test C w.at true e) body q.0

    other_clauses : (names : List ℕ) (k : Known) (handlers : Handlers) → Absent (handlers_bindings handlers) → seen (handlers_after C names k handlers) ≡ seen k
    other_clauses names k no_handlers h = refl
    other_clauses names k (handler_then e y body span more) h =
        let begun = with_names k names in
        let inner = in_handler C begun span e y (is_last more) in
        let q = absent_two (caught y) (suite_bindings body ++ handlers_bindings more) h in
        let p = absent_two (suite_bindings body) (handlers_bindings more) q.1 in
        other_clauses names (block_after C inner body) more p.1 ∙ other_block inner body p.0 ∙ other_caught (is_some (handler_head C begun span e y (is_last more)).got) begun y q.0

    other_last : (names : List ℕ) (k : Known) (last : MaybeSuite) → Absent (last_bindings last) → seen (last_after C names k last) ≡ seen k
    other_last names k no_suite h = refl
    other_last names k (some_suite body) h = other_block (with_names k names) body h
