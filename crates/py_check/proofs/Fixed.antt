-- Behind statements each variable that they bind has a type, or has none for good.
use Rattle.std.proofs.Common.{◌≡◌, ℕ, nat_lt, Bool, true, false, ◌||◌, List, [], ◌∷◌, ◌++◌, length, map, Option, Some, None, refl, ap, sym, ◌∙◌, subst, ◌⊎◌, inl, inr}
use Rattle.std.specs.Prelude.{is_some}
use Rattle.std.specs.List.{flat_map}
use Rattle.std.specs.Str.{bytes_eq}
use Rattle.std.specs.Option.{option_map}
use Rattle.value_core.specs.declared.exception.ExcClass.TheVariants.{Exception}
use Rattle.py_syntax.specs.declared.token.Span.{Span}
use Rattle.py_syntax.specs.Expressions.{ExprTree}
use Rattle.py_syntax.specs.Statements as node
use Rattle.py_syntax.specs.Statements.{StmtTree, StmtNode, Suite, no_stmts, stmt_then, Arms, no_arms, arm_then, Handlers, no_handlers, handler_then, MaybeSuite, no_suite, some_suite}
use Rattle.py_binder.specs.Scope.{contains}
use Rattle.py_typed.specs.Sorts.{Sort, Exc}
use Rattle.py_typed.specs.Expressions.{type_of}
use Rattle.py_check_context.specs.declared.scope.Meaning.{Meaning}
use Rattle.py_check_context.specs.declared.scope.Meaning.TheVariants as meaning
use Rattle.py_check_context.specs.Context.{Context}
use Rattle.py_check_flow.specs.Bindings.{Binding, bound_names, target_bindings, name_in, marked, caught, stmt_bindings, act_bindings, suite_bindings, arms_bindings, handlers_bindings, last_bindings}
use Rattle.py_check_flow.specs.Closed.{is_closed}
use Rattle.py_check_places.specs.Places.{Known, bind_variable, bind_name, bind_names, with_names, where_test, entering, Way, setting_out, behind_arm}
use Rattle.py_check_places.specs.Shapes.{is_row, leaves, parts_of, bind_target}
use Rattle.py_check_assignments.specs.Assignments.{value_for, assigns, annotates_name, value_sort, other_sort, binds_annotated}
use Rattle.py_check_loops.specs.Loops.{course}
use Rattle.py_check_loops.specs.Heads.{some_items, for_head, in_for}
use Rattle.py_check_exceptions.specs.Handlers.{handler_head, in_handler}
use Rattle.py_check_statements.specs.Bodies.{after, node_after, block_after, arms_after, handlers_after, last_after, outside_try, is_last}
use Rattle.py_check.specs.Fixed.{is_there}
use Rattle.py_check.proofs.Kept.{Follows, follows_on, follows_name, follows_names, follows_target, follows_stmt, follows_clauses, follows_last, follows_block, follows_arms, is_open}
use Rattle.py_check.proofs.NameRows.{same_text}
use Rattle.py_check.proofs.Bound.{name_no_row, single_bound, named, leaf_bindings, target_leaves, open_follows, closed_variable}

-- ---- statements

-- a name, and the variable that it means
module _ (C : Context) (x : List ℕ) where
  abbrev IsBound : List Binding → Type 0
  IsBound bs = contains (bound_names bs) x ≡ true

  abbrev IsThere : Known → Type 0
  IsThere k = is_there k.types (C.meaning x) ≡ true

  abbrev IsSet : Known → Type 0
  IsSet k = is_open k.types (C.meaning x) ≡ false

  bound_two : (a b : List Binding) → IsBound (a ++ b) → IsBound a ⊎ IsBound b
  bound_two [] b h = inr h
  bound_two (y ∷ a) b h = by (bytes_eq x y.name) h (bound_two a b)
    where
      by : (c : Bool) → (c || contains (bound_names (a ++ b)) x) ≡ true → (IsBound (a ++ b) → IsBound a ⊎ IsBound b) → ((c || contains (bound_names a) x) ≡ true) ⊎ IsBound b
      by true q next = inl refl
      by false q next = next q

  there_on : (k l : Known) → Follows k.types l.types → IsThere k → IsThere l
  there_on k l f h = by (C.meaning x) h
    where
      by : (m : Meaning) → is_there k.types m ≡ true → is_there l.types m ≡ true
      by (meaning.Local i) q = ap (λ n. nat_lt i n) f.locals.size ∙ q
      by (meaning.Global i) q = ap (λ n. nat_lt i n) f.globals.size ∙ q
      by _ q = refl

  set_on : (k l : Known) → Follows k.types l.types → IsSet k → IsSet l
  set_on k l f h = open_follows k.types l.types (C.meaning x) f h

  set_leaf : (ok : Bool) (k : Known) (o : Option (List ℕ)) (t : Option Sort) → IsThere k → IsBound (named o) → IsSet (bind_name C ok k o t)
  set_leaf ok k None t there h = absurd (cc)
  set_leaf ok k (Some y) t there h = by (bytes_eq x y) refl h
    where
      by : (b : Bool) → bytes_eq x y ≡ b → (b || false) ≡ true → IsSet (bind_name C ok k (Some y) t)
      by true q g = subst (λ z. IsSet (bind_variable ok k (C.meaning z) t)) (same_text x y q) (closed_variable ok k (C.meaning x) t there)
      by false q g = absurd (cc)

  -- of two parts one behind the other, the first of which leaves what the second begins with
  in_order : (k l end : Known) (a b : List Binding) → Follows k.types l.types → Follows l.types end.types → (IsBound a → IsSet l) → (IsThere l → IsBound b → IsSet end) → IsThere k → IsBound (a ++ b) → IsSet end
  in_order k l end a b f g first next there h = by (bound_two a b h)
    where
      by : IsBound a ⊎ IsBound b → IsSet end
      by (inl q) = set_on l end g (first q)
      by (inr q) = next (there_on k l f there) q

  set_caught : (ok : Bool) (k : Known) (o : Option (List ℕ)) (t : Option Sort) → IsThere k → IsBound (caught o) → IsSet (bind_name C ok k o t)
  set_caught ok k None t there h = absurd (cc)
  set_caught ok k (Some y) t there h = set_leaf ok k (Some y) t there h

  set_leaves : (ok : Bool) (k : Known) (es : List ExprTree) (ts : List Sort) → IsThere k → IsBound (flat_map leaf_bindings es) → IsSet (bind_names C ok k (map name_in es) ts)
  set_leaves ok k [] ts there h = absurd (cc)
  set_leaves ok k (e ∷ es) [] there h =
      let l = bind_name C ok k (name_in e) None in
      in_order k l (bind_names C ok l (map name_in es) []) (leaf_bindings e) (flat_map leaf_bindings es) (follows_name C ok k (name_in e) None) (follows_names C ok l (map name_in es) []) (set_leaf ok k (name_in e) None there) (set_leaves ok l es []) there h
  set_leaves ok k (e ∷ es) (t ∷ ts) there h =
      let l = bind_name C ok k (name_in e) (Some t) in
      in_order k l (bind_names C ok l (map name_in es) ts) (leaf_bindings e) (flat_map leaf_bindings es) (follows_name C ok k (name_in e) (Some t)) (follows_names C ok l (map name_in es) ts) (set_leaf ok k (name_in e) (Some t) there) (set_leaves ok l es ts) there h

  set_target : (ok : Bool) (k : Known) (target : ExprTree) (t : Option Sort) → IsThere k → IsBound (target_bindings target) → IsSet (bind_target C ok k target t)
  set_target ok k target t there h = set_leaves ok k (leaves target) (parts_of (is_row target) (length (leaves target)) t) there (subst IsBound (target_leaves target) h)

  set_annotated : (k : Known) (span : Span) (o : Option (List ℕ)) (target mark : ExprTree) (v : Option ExprTree) → name_in target ≡ o → IsThere k → IsBound (marked o target mark) → IsSet (binds_annotated C k span o target mark v)
  set_annotated k span None target mark v n there h = set_target false k target (other_sort C k target v) there h
  set_annotated k span (Some y) target mark v n there h =
      let ok = is_some (annotates_name C k span y mark v).got in
      let t = value_sort C k y v in
      subst IsSet (sym (single_bound C ok k target t (name_no_row target y n) ∙ ap (λ o. bind_name C ok k o t) n)) (set_leaf ok k (Some y) t there h)

  mutual
    set_stmt : (k : Known) (s : StmtTree) → IsThere k → IsBound (stmt_bindings s) → IsSet (after C k s)
    set_stmt k (node.at n span) there h = set_node k span n there h

    set_node : (k : Known) (span : Span) (n : StmtNode) → IsThere k → IsBound (act_bindings n) → IsSet (node_after C k span n)
    set_node k span (node.Assign target v) there h = set_target (is_some (assigns C k span target v).got) k target (option_map type_of (value_for C k target v).got) there h
    set_node k span (node.Annot target mark v) there h = set_annotated k span (name_in target) target mark v refl there h
    set_node k span (node.Aug target op v) there h = set_target false k target None there h
    set_node k span (node.If arms other) there h =
        let w = arms_after C (setting_out k) arms in
        in_order k w.at (block_after C w.at other) (arms_bindings arms) (suite_bindings other) (follows_arms C (setting_out k) arms) (follows_block C w.at other) (set_arms (setting_out k) arms there) (λ t. set_block w.at other t) there h
    set_node k span (node.While test body) there h = set_block (where_test C (entering C k (node.at (node.While test body) span)) true test) body there h
    set_node k span (node.For target v body) there h =
        let here = node.at (node.For target v body) span in
        let l = in_for C k here span target v in
        let ok = is_some (for_head C k here span target v).got in
        let items = some_items (course C k v).got in
        in_order k l (block_after C l body) (target_bindings target) (suite_bindings body) (follows_target C ok (entering C k here) target items) (follows_block C l body) (set_target ok (entering C k here) target items there) (λ t. set_block l body t) there h
    set_node k span (node.Try body handlers last) there h =
        let outer = outside_try C k (node.at (node.Try body handlers last) span) in
        let first = block_after C k body in
        let handled = handlers_after C outer first handlers in
        let end = last_after C outer handled last in
        let later = follows_clauses C outer first handlers in
        in_order k first end (suite_bindings body) (handlers_bindings handlers ++ last_bindings last) (follows_block C k body) (follows_on first.types handled.types end.types later (follows_last C outer handled last)) (set_block k body there)
        (λ t q. in_order first handled end (handlers_bindings handlers) (last_bindings last) later (follows_last C outer handled last) (set_clauses outer first handlers t) (λ u. set_last outer handled last u) t q) there h
    set_node k span _ there h = absurd (cc)

    set_clauses : (outer : List ℕ) (k : Known) (handlers : Handlers) → IsThere k → IsBound (handlers_bindings handlers) → IsSet (handlers_after C outer k handlers)
    set_clauses outer k no_handlers there h = absurd (cc)
    set_clauses outer k (handler_then e y body span more) there h =
        let l = with_names k outer in
        let ok = is_some (handler_head C l span e y (is_last more)).got in
        let begun = in_handler C l span e y (is_last more) in
        let end = block_after C begun body in
        let behind = handlers_after C outer end more in
        let inner = follows_block C begun body in
        let later = follows_clauses C outer end more in
        in_order k begun behind (caught y) (suite_bindings body ++ handlers_bindings more) (follows_name C ok l y (Some (Exc Exception))) (follows_on begun.types end.types behind.types inner later) (set_caught ok l y (Some (Exc Exception)) there)
        (λ t q. in_order begun end behind (suite_bindings body) (handlers_bindings more) inner later (set_block begun body t) (λ u. set_clauses outer end more u) t q) there h

    set_last : (outer : List ℕ) (k : Known) (last : MaybeSuite) → IsThere k → IsBound (last_bindings last) → IsSet (last_after C outer k last)
    set_last outer k no_suite there h = absurd (cc)
    set_last outer k (some_suite body) there h = set_block (with_names k outer) body there h

    -- A VARIABLE whose name statements bind has a type behind them, or has none for good
    pub set_block : (k : Known) (body : Suite) → IsThere k → IsBound (suite_bindings body) → IsSet (block_after C k body)
    set_block k no_stmts there h = absurd (cc)
    set_block k (stmt_then s more) there h =
        let l = after C k s in
        in_order k l (block_after C l more) (stmt_bindings s) (suite_bindings more) (follows_stmt C k s) (follows_block C l more) (set_stmt k s there) (λ t. set_block l more t) there h

    set_arms : (w : Way) (arms : Arms) → IsThere w.at → IsBound (arms_bindings arms) → IsSet (arms_after C w arms).at
    set_arms w no_arms there h = absurd (cc)
    set_arms w (arm_then test body more) there h =
        let l = where_test C w.at true test in
        let end = block_after C l body in
        let next = behind_arm C w test (is_closed body) end in
        in_order w.at next.at (arms_after C next more).at (suite_bindings body) (arms_bindings more) (follows_block C l body) (follows_arms C next more) (set_block l body there) (λ t. set_arms next more t) there h
