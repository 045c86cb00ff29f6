-- Each well-typed expression is fine: from a typed state, watched or not, it gives a value of its type, and what it tells of names is so.
-- The letters are those of `Fine`.
use Rattle.std.proofs.Common.{◌≡◌, ℕ, ℤ, pos, negsuc, Bool, true, false, not, List, [], ◌∷◌, ◌++◌, length, replicate, drop, Option, Some, None, refl, sym, ap, subst, ◌∙◌, ◌⊎◌, inl, inr, nat_lt, slice_get, codes}
use Rattle.std.specs.Option.{option_map, option_and_then}
use Rattle.std.specs.List.{list_all, list_any}
use Rattle.std.specs.Str.{bytes_eq, is_utf8}
use Rattle.value_core.specs.Exceptions.{thrown}
use Rattle.value_core.specs.Value.{Value, IntVal, BoolVal, NoneVal, StrVal, TupleVal, ExcVal, ObjVal, tupled, ListObj, DictObj, InstObj}
use Rattle.value_core.proofs.ValueLemmas.{listed-tupled}
use Rattle.value_core.specs.Arithmetic.{lies_within}
use Rattle.py_syntax.specs.declared.expression.CmpOp.{CmpOp}
use Rattle.py_syntax.specs.declared.expression.CmpOp.TheVariants as compare
use Rattle.py_typed.specs.Sorts as sort
use Rattle.py_typed.specs.Sorts.{Sort, Sorts, sorts_of, listed_sorts}
use Rattle.py_typed.specs.Classes.{is_class_under}
use Rattle.py_typed.specs.Fits.{is_number, is_nothing, is_same_type, number_join, fits}
use Rattle.py_typed.specs.Order.{order, listed_order, method_of, method_along, attribute_of, attributes}
use Rattle.py_typed.specs.Expressions.{TypedExpr, typed, TypedNode, Int, Str, Flag, Nothing, Local, Global, Neg, Not, Truth, Arith, Concat, Compare, And, Or, Cond, ListOf, DictOf, TupleOf, Attr, At, TupleAt, Call, Make, MakeExc, Method, SuperInit, Print, Input, Len, ToStr, Append, Pop, Coerce, TypedExprs, no_exprs, expr_then, Comparisons, no_comparisons, comparison_then, Entries, no_entries, entry_then, MaybeExpr, no_expr, some_expr, type_of}
use Rattle.py_typed.specs.Statements.{Variable, TypedModule}
use Rattle.source_meaning.specs.State.{State, Gives, Calls}
use Rattle.source_meaning.specs.Operations.{truth_of, is_none, holds, has_text, text_of, next_line}
use Rattle.py_typed.specs.Narrowing.{is_in, facts, node_facts, none_test, node_of, shared}
use Rattle.source_meaning.specs.ExpressionMeaning as official
use Rattle.source_meaning.specs.ExpressionMeaning.{start_with, new_instance, call_method, call_next}
use Rattle.py_typed.specs.WellTypedExpr.{is_key_type, is_result_type, is_printable, is_sized, is_type, are_texts, are_numbers, operation_sort, instance_of, tuple_sort, reads_as, declared, is_literal, suits, is_empty_call, is_trait_in, is_function, is_same_place, call_fits, init_fits, make_fits, method_fits, super_fits, pair_fits, exception_text, types_of, all_of, keys_of, values_of, row_fits, rule, stands, parts_typed, are_values, chain_typed, entries_typed, maybe_value}
use Rattle.py_typed.proofs.FitLemmas.{one_type, nothing_is, same_itself}
use Rattle.py_typed.proofs.ClassLemmas.{or_cases}
use Rattle.source_soundness.specs.Watched as watched
use Rattle.source_soundness.specs.Watched.{Watch}
use Rattle.source_soundness.proofs.TextLemmas.{ascii_text}
use Rattle.source_soundness.proofs.Worlds.{World, IsText, Has, HaveAll, EachPair, has_still, have_still, all_unset, each_more, each_taken, each_still}
use Rattle.source_soundness.proofs.Fine.{Good, Fine, NotNone, Keeps, Passes, fine_bind, fine_map, fine_watched, fine_give, fine_if, fine_needs, fine_sure, fine_make, fine_put, fine_write}
use Rattle.source_soundness.proofs.FitValues.{fine_coerced, same_has}
use Rattle.source_soundness.proofs.Operators.{IsWhole, joined_whole, operation_of, entered_kept, printed, all_printed, written_text, written_line, fine_seen, fine_list, fine_instance, fine_place, fine_got, fine_item, fine_part, fine_length, fine_truth, fine_line, fine_joined, fine_arithmetic, fine_negated, fine_compared, fine_found}
use Rattle.source_soundness.proofs.Names.{same_number, in_shared, both_known, fewer_known, all_known, tested}
use Rattle.source_soundness.proofs.Facts.{Facts, CallsFine, Signed, MethodOf, signed_call, plain_function, fine_call, fine_method, two, three, four, five, one_row}
use Rattle.source_soundness.proofs.Expressions.{ChainIs, PairIs, IsHeld, Gets, GetsValue, Tells, is_got, not_none, told, is_held, silent, some_type, number_fits, declared_at, read_at, sorts_listed, same_gives, common, each_of, keys_of_value, fine_local, local_known, fine_global, fine_attribute}

not_not : (b c : Bool) → not b ≡ c → not c ≡ b
not_not true c e = ap not (sym e)
not_not false c e = ap not (sym e)

module _ {utf8 : Bool} (m : TypedModule) (sound : Facts m) (watch : Watch) {c' c : Calls} (calls : CallsFine m utf8 c' c) (vars : List Variable) (passes : Passes utf8 m vars watch)
    (init : Option ℕ) (self : (d : ℕ) → init ≡ Some d → (x : Variable) × (slice_get vars 0 ≡ Some x) × (x.1 ≡ sort.Instance d)) where
  abbrev pub Value_fine : World utf8 → State → TypedExpr → Type 0
  Value_fine W s e = Fine m vars Value [] W s (GetsValue m e) (watched.expression watch m.classes.classes c' m.globals vars e) (official.expression m.classes.classes c m.globals vars e)

  abbrev Node_fine : World utf8 → State → TypedNode → Sort → Type 0
  Node_fine W s n t = Fine m vars Value [] W s (Gets m n t) (watched.node watch m.classes.classes c' m.globals vars n t) (official.node m.classes.classes c m.globals vars n t)

  has_bool : (V : World utf8) (t : Sort) (b : Bool) → is_same_type t sort.Bool ≡ true → Has m.classes.classes t V (BoolVal b)
  has_bool V t b e = subst (λ x. Has m.classes.classes x V (BoolVal b)) (sym (one_type t sort.Bool e)) (b, refl)

  from_type : (V : World utf8) (t u : Sort) (v : Value) → is_same_type t u ≡ true → Has m.classes.classes u V v → Has m.classes.classes t V v
  from_type V t u v e h = subst (λ x. Has m.classes.classes x V v) (sym (one_type t u e)) h

  to_type : (V : World utf8) (t u : Sort) (v : Value) → is_same_type t u ≡ true → Has m.classes.classes t V v → Has m.classes.classes u V v
  to_type V t u v e h = subst (λ x. Has m.classes.classes x V v) (one_type t u e) h

  from_none : (V : World utf8) (t : Sort) (v : Value) → is_nothing t ≡ true → v ≡ NoneVal → Has m.classes.classes t V v
  from_none V t v e h = subst (λ x. Has m.classes.classes x V v) (sym (nothing_is m.classes.classes t e)) h

  literal_fits : (n : ℤ) → is_literal n ≡ true → lies_within 127 n ≡ true
  literal_fits (pos n) e = e
  literal_fits (negsuc n) e = absurd (cc)

  -- ---- pairs

  lift_true : (op : CmpOp) (e : TypedExpr) (x y v : Value) (more : Comparisons) → PairIs op x true → ChainIs y more v → ChainIs x (comparison_then op e more) v
  lift_true op e x y v no_comparisons p q = (true, q, p)
  lift_true op e x y v (comparison_then o f more) p q = tt

  lift_false : (op : CmpOp) (e : TypedExpr) (x : Value) (more : Comparisons) → PairIs op x false → ChainIs x (comparison_then op e more) (BoolVal false)
  lift_false op e x no_comparisons p = (false, refl, p)
  lift_false op e x (comparison_then o f more) p = tt

  fine_pair : {W : World utf8} {s : State} (g : Good m vars W s) (op : CmpOp) (a b : TypedExpr) (x y : Value) → pair_fits m vars init op a b ≡ true → Has m.classes.classes (type_of a) W x → Has m.classes.classes (type_of b) W y
      → Fine m vars Bool [] W s (λ V u h. PairIs op x h) (holds op (type_of a) (type_of b) x y) (holds op (type_of a) (type_of b) x y)
  fine_pair g compare.Is a b x y e h k = fine_give m vars g (is_none x) refl
  fine_pair g compare.IsNot a b x y e h k = fine_give m vars g (not (is_none x)) refl
  fine_pair {W = W} {s = s} g compare.Member a (typed n (sort.DictOf j t) p) x y e h k = fine_found m sound.tree vars [] g (type_of a) j t x y e h k
  fine_pair g compare.Member a (typed n _ p) x y e h k = absurd (cc)
  fine_pair {W = W} {s = s} g compare.NotMember a (typed n (sort.DictOf j t) p) x y e h k = fine_bind m vars (fine_found m sound.tree vars [] g (type_of a) j t x y e h k) (λ V u st b q. fine_give m vars st.good (not b) tt)
  fine_pair g compare.NotMember a (typed n _ p) x y e h k = absurd (cc)
  fine_pair g compare.Eq a b x y e h k = let r : _ = common m (type_of a) (type_of b) e in fine_compared m sound.tree vars [] g _ (type_of a) (type_of b) x y r.0 r.1 r.2 h k
  fine_pair g compare.Ne a b x y e h k = let r : _ = common m (type_of a) (type_of b) e in fine_compared m sound.tree vars [] g _ (type_of a) (type_of b) x y r.0 r.1 r.2 h k
  fine_pair g compare.Lt a b x y e h k = let r : _ = common m (type_of a) (type_of b) e in fine_compared m sound.tree vars [] g _ (type_of a) (type_of b) x y r.0 r.1 r.2 h k
  fine_pair g compare.Le a b x y e h k = let r : _ = common m (type_of a) (type_of b) e in fine_compared m sound.tree vars [] g _ (type_of a) (type_of b) x y r.0 r.1 r.2 h k
  fine_pair g compare.Gt a b x y e h k = let r : _ = common m (type_of a) (type_of b) e in fine_compared m sound.tree vars [] g _ (type_of a) (type_of b) x y r.0 r.1 r.2 h k
  fine_pair g compare.Ge a b x y e h k = let r : _ = common m (type_of a) (type_of b) e in fine_compared m sound.tree vars [] g _ (type_of a) (type_of b) x y r.0 r.1 r.2 h k

  -- what a chain of one pair, against None, tells of the local
  chain_tells : (e f : TypedExpr) (op : CmpOp) (more : Comparisons) (V : World utf8) (u z : State) (x v : Value) → GetsValue m e V u x → Keeps [] u z → ChainIs x (comparison_then op f more) v → Tells (λ b. none_test b op (node_of e) (node_of f) more) z v
  chain_tells e f op more V u z x v got kept chain b q i h none =
      let T : _ = tested b op (node_of e) (node_of f) more i h in
      let here : slice_get u.locals i ≡ Some (Some x) = subst (λ n. IsHeld n u x) T.local (is_held m e V u x got) in
      let is : x ≡ NoneVal = some_some (sym here ∙ sym (kept.locals i refl) ∙ none) in
      let one : (k : Bool) × (v ≡ BoolVal k) × PairIs op x k = subst (λ n. ChainIs x (comparison_then op f n) v) T.alone chain in
      let truth : one.0 ≡ b = same_gives one.0 b z (sym (ap (λ w. truth_of w z) one.1) ∙ q) in
      by T.how is one truth
    where
      some_some : {a b : Value} → Some (Some a) ≡ Some (Some b) → a ≡ b
      some_some e = cc

      by : ((b ≡ true) × (op ≡ compare.IsNot)) ⊎ ((b ≡ false) × (op ≡ compare.Is)) → x ≡ NoneVal → (one : (k : Bool) × (v ≡ BoolVal k) × PairIs op x k) → one.0 ≡ b → ⊥
      by (inl p) is one truth =
          let k : one.0 ≡ not (is_none x) = subst (λ o. PairIs o x one.0) p.1 one.2 in
          let n : is_none x ≡ true = ap is_none is in
          cc (truth ∙ p.0, k ∙ ap not n)
      by (inr p) is one truth =
          let k : one.0 ≡ is_none x = subst (λ o. PairIs o x one.0) p.1 one.2 in
          let n : is_none x ≡ true = ap is_none is in
          cc (truth ∙ p.0, k ∙ n)

  -- ---- instances

  self_under : (d : ℕ) → is_class_under m.classes.classes d d ≡ true
  self_under d = same_itself m.classes.classes (sort.Instance d)

  fine_new_instance : {W : World utf8} {s : State} (g : Good m vars W s) (d : ℕ) (ss : List Sort) (args : List Value) → make_fits m vars init d ss ≡ true → HaveAll m.classes.classes (sorts_of ss) W args
      → Fine m vars Value [] W s (λ V u v. Has m.classes.classes (sort.Instance d) V v) (new_instance m.classes.classes c' d args) (new_instance m.classes.classes c d args)
  fine_new_instance {W = W} g d ss args h k =
      fine_bind m vars (fine_make m vars g (sort.Instance d) (InstObj d (replicate (length (attributes m.classes.classes d)) None)) (refl, all_unset m.classes.classes W (attributes m.classes.classes d)))
      (λ V u st o p. by V u st.good o p (have_still m.classes.classes W V st.grows (sorts_of ss) args k) (method_of m.classes.classes d (codes "__init__")) refl
      (two (not (is_trait_in (slice_get m.classes.classes d))) (init_fits m vars init (method_of m.classes.classes d (codes "__init__")) ss) h).1)
    where
      by : (V : World utf8) (u : State) → Good m vars V u → (o : Value) → (k : ℕ) × (o ≡ ObjVal k) × (slice_get V.types k ≡ Some (sort.Instance d)) → HaveAll m.classes.classes (sorts_of ss) V args → (f : Option ℕ) → method_of m.classes.classes d (codes "__init__") ≡ f → init_fits m vars init f ss ≡ true
          → Fine m vars Value [] V u (λ X z v. Has m.classes.classes (sort.Instance d) X v) (start_with m.classes.classes c' f o args) (start_with m.classes.classes c f o args)
      by V u g o i k None q h = fine_give m vars g o (i.0, d, i.1, i.2, self_under d)
      by V u g o i k (Some f) q h =
          let M : MethodOf m d f = sound.method_there d (codes "__init__") f q in
          fine_bind m vars (fine_method m sound calls vars g d f ss sort.Nothing M (signed_call m vars init f ss sort.Nothing h) o (i.0, d, i.1, i.2, M.under) args k)
          (λ X z st v p. fine_give m vars st.good o (has_still m.classes.classes V X st.grows (sort.Instance d) o (i.0, d, i.1, i.2, self_under d)))

  -- a method by the class of the object
  fine_call_method : {W : World utf8} {s : State} (g : Good m vars W s) (d : ℕ) (name : List ℕ) (ss : List Sort) (t : Sort) (o : Value) (args : List Value) → method_fits m vars init (Some d) name ss t ≡ true → Has m.classes.classes (sort.Instance d) W o → HaveAll m.classes.classes (sorts_of ss) W args
      → Fine m vars Value [] W s (λ V u v. Has m.classes.classes t V v) (call_method m.classes.classes c' name o args) (call_method m.classes.classes c name o args)
  fine_call_method {W = W} {s = s} g d name ss t o args h i k = by (method_of m.classes.classes d name) refl h
    where
      named : (f : ℕ) → method_of m.classes.classes d name ≡ Some f → bytes_eq name (codes "__init__") ≡ false → Signed m f ss t → Fine m vars Value [] W s (λ V u v. Has m.classes.classes t V v) (call_method m.classes.classes c' name o args) (call_method m.classes.classes c name o args)
      named f q n S =
          fine_instance m vars [] g d o _ _ i (λ j b vs w r under all.
          let O : _ = sound.overridden b d name f ss t under n q S in
          fine_bind m vars (fine_sure m vars {P = λ V u x. x ≡ O.0} g (method_of m.classes.classes b name) O.0 O.1 refl) (λ V u st x p.
          let M : MethodOf m b O.0 = sound.method_there b name O.0 O.1 in
          subst (λ y. Fine m vars Value [] V u (λ X z v. Has m.classes.classes t X v) (c' y (o ∷ args)) (c y (o ∷ args))) (sym p)
          (fine_method m sound calls vars st.good b O.0 ss t M O.2 o (j, b, r, st.grows.each j _ w, M.under) args (have_still m.classes.classes W V st.grows (sorts_of ss) args k))))

      named_otherwise : (b : Bool) → not b ≡ true → b ≡ false
      named_otherwise true e = absurd (cc)
      named_otherwise false e = refl

      by : (f : Option ℕ) → method_of m.classes.classes d name ≡ f → method_fits m vars init (Some d) name ss t ≡ true → Fine m vars Value [] W s (λ V u v. Has m.classes.classes t V v) (call_method m.classes.classes c' name o args) (call_method m.classes.classes c name o args)
      by None q r = let x : _ = two (not (bytes_eq name (codes "__init__"))) false (rw (q, method_fits) at r) in absurd (cc x.1)
      by (Some f) q r =
          let x : _ = two (not (bytes_eq name (codes "__init__"))) (call_fits m vars init (slice_get m.classes.signatures f) ss t) (rw (q, method_fits) at r) in
          named f q (named_otherwise (bytes_eq name (codes "__init__")) x.0) (signed_call m vars init f ss t x.1)

  -- `super().__init__`
  super_of : (n f : Option ℕ) (ss : List Sort) → super_fits m vars init n f ss ≡ true
      → (d : ℕ) × (n ≡ Some d) × (is_same_place f (method_along m.classes.classes (codes "__init__") (drop 1 (listed_order (order m.classes.classes d)))) ≡ true) × (init_fits m vars init f ss ≡ true)
  super_of None f ss h = absurd (cc)
  super_of (Some d) f ss h =
      let r = three (not (is_trait_in (slice_get m.classes.classes d))) (is_same_place f (method_along m.classes.classes (codes "__init__") (drop 1 (listed_order (order m.classes.classes d))))) (init_fits m vars init f ss) h in
      (d, refl, r.1, r.2)

  same_place : (f : ℕ) (o : Option ℕ) → is_same_place (Some f) o ≡ true → o ≡ Some f
  same_place f None e = absurd (cc)
  same_place f (Some h) e = ap Some (sym (same_number f h e))

  fine_super : {W : World utf8} {s : State} (g : Good m vars W s) (d : ℕ) (f : Option ℕ) (ss : List Sort) (o : Value) (args : List Value) → is_same_place f (method_along m.classes.classes (codes "__init__") (drop 1 (listed_order (order m.classes.classes d)))) ≡ true → init_fits m vars init f ss ≡ true
      → Has m.classes.classes (sort.Instance d) W o → HaveAll m.classes.classes (sorts_of ss) W args → Fine m vars Value [] W s (λ V u v. v ≡ NoneVal) (call_next m.classes.classes c' f o args) (call_next m.classes.classes c f o args)
  fine_super g d None ss o args e h i k = fine_give m vars g NoneVal refl
  fine_super {W = W} g d (Some f) ss o args e h i k =
      let M : MethodOf m d f = sound.next_there d f (same_place f _ e) in
      fine_method m sound calls vars g d f ss sort.Nothing M (signed_call m vars init f ss sort.Nothing h) o (same_has m sound.tree W (sort.Instance d) (sort.Instance M.class) o M.under i) args k

  -- ---- what is told

  -- one state is the other
  moved : (names : List ℕ) (u z : State) → z ≡ u → NotNone names u.locals → NotNone names z.locals
  moved names u z e h = subst (λ (y : State). NotNone names y.locals) (sym e) h

  not_tells : (e : TypedExpr) (V : World utf8) (u z : State) (x : Value) (b : Bool) → GetsValue m e V u x → z ≡ u → truth_of x u ≡ Gives b u → Tells (λ b'. facts (not b') e) z (BoolVal (not b))
  not_tells e V u z x b got same h b' a =
      moved (facts (not b') e) u z same (told m e V u x got (not b') (subst (λ y. truth_of x u ≡ Gives y u) (sym (not_not b b' (same_gives (not b) b' z a))) h))

  truth_tells : (e : TypedExpr) (V : World utf8) (u z : State) (x : Value) (b : Bool) → GetsValue m e V u x → z ≡ u → truth_of x u ≡ Gives b u → Tells (λ b'. facts b' e) z (BoolVal b)
  truth_tells e V u z x b got same h b' a =
      moved (facts b' e) u z same (told m e V u x got b' (subst (λ y. truth_of x u ≡ Gives y u) (same_gives b b' z a) h))

  -- the right side of `and`, where the left one is true
  and_tells : (a b : TypedExpr) (u : State) (w : Value) → NotNone (facts true a) u.locals → Tells (λ x. facts x b) u w → Tells (λ x. node_facts x (And a b)) u w
  and_tells a b u w k t true h = both_known (facts true a) (facts true b) u.locals k (t true h)
  and_tells a b u w k t false h = fewer_known (facts false b) (shared (facts false a) (facts false b)) u.locals (λ i j. (in_shared (facts false a) (facts false b) i j).1) (t false h)

  and_stops : (a b : TypedExpr) (u : State) (w : Value) → truth_of w u ≡ Gives false u → NotNone (facts false a) u.locals → Tells (λ x. node_facts x (And a b)) u w
  and_stops a b u w f k true h = absurd (cc (same_gives true false u (sym h ∙ f)))
  and_stops a b u w f k false h = fewer_known (facts false a) (shared (facts false a) (facts false b)) u.locals (λ i j. (in_shared (facts false a) (facts false b) i j).0) k

  or_tells : (a b : TypedExpr) (u : State) (w : Value) → NotNone (facts false a) u.locals → Tells (λ x. facts x b) u w → Tells (λ x. node_facts x (Or a b)) u w
  or_tells a b u w k t false h = both_known (facts false a) (facts false b) u.locals k (t false h)
  or_tells a b u w k t true h = fewer_known (facts true b) (shared (facts true a) (facts true b)) u.locals (λ i j. (in_shared (facts true a) (facts true b) i j).1) (t true h)

  or_stops : (a b : TypedExpr) (u : State) (w : Value) → truth_of w u ≡ Gives true u → NotNone (facts true a) u.locals → Tells (λ x. node_facts x (Or a b)) u w
  or_stops a b u w f k false h = absurd (cc (same_gives false true u (sym h ∙ f)))
  or_stops a b u w f k true h = fewer_known (facts true a) (shared (facts true a) (facts true b)) u.locals (λ i j. (in_shared (facts true a) (facts true b) i j).0) k

  coerced_tells : (e : TypedExpr) (V : World utf8) (u z : State) (x w : Value) → GetsValue m e V u x → z ≡ u → ((y : State) → truth_of w y ≡ truth_of x y) → Tells (λ b. facts b e) z w
  coerced_tells e V u z x w got same alike b h =
      moved (facts b e) u z same (told m e V u x got b (subst (λ y. truth_of x y ≡ Gives b y) same (sym (alike z) ∙ h)))

  -- an attribute's, an item's and a part's type
  attribute_type : (a : Sort) (name : List ℕ) (t : Sort) → is_type (option_and_then (λ d. attribute_of m.classes.classes d name) (instance_of a)) t ≡ true → (d : ℕ) × (a ≡ sort.Instance d) × (attribute_of m.classes.classes d name ≡ Some t)
  attribute_type (sort.Instance d) name t e = (d, refl, some_type (attribute_of m.classes.classes d name) t e)
  attribute_type _ name t e = absurd (cc)

  part_type : (a : Sort) (i : ℕ) (t : Sort) → is_type (tuple_sort a i) t ≡ true → (ts : Sorts) × (a ≡ sort.TupleOf ts) × (slice_get (listed_sorts ts) i ≡ Some t)
  part_type (sort.TupleOf ts) i t e = (ts, refl, some_type (slice_get (listed_sorts ts) i) t e)
  part_type _ i t e = absurd (cc)

  method_type : (a : Sort) (name : List ℕ) (ss : List Sort) (t : Sort) → method_fits m vars init (instance_of a) name ss t ≡ true → (d : ℕ) × (a ≡ sort.Instance d) × (method_fits m vars init (Some d) name ss t ≡ true)
  method_type (sort.Instance d) name ss t e = (d, refl, e)
  method_type _ name ss t e = absurd (cc)

  mutual
    pub fine_value : (e : TypedExpr) (testing : Bool) (known : List ℕ) → stands m vars init testing known e ≡ true → (W : World utf8) (s : State) → Good m vars W s → NotNone known s.locals → Value_fine W s e
    fine_value (typed n t place) testing known h W s g k =
        let r = five (parts_typed m vars init testing known n) (rule m vars init known n t) (suits testing n t) (is_result_type (length m.classes.classes) t) (not (is_empty_call n t)) h in
        fine_watched m vars watch passes t (λ V u v p. p.0) (fine_node n t testing known r.0 r.1 W s g k)

    pub fine_node : (n : TypedNode) (t : Sort) (testing : Bool) (known : List ℕ) → parts_typed m vars init testing known n ≡ true → rule m vars init known n t ≡ true → (W : World utf8) (s : State) → Good m vars W s → NotNone known s.locals → Node_fine W s n t
    fine_node (Int n) t testing known p r W s g k =
        let x = two (is_literal n) (is_same_type t sort.Int) r in
        fine_give m vars g (IntVal n) (from_type W t sort.Int (IntVal n) x.1 (n, refl, literal_fits n x.0), silent s (IntVal n), tt)
    fine_node (Str text) t testing known p r W s g k =
        let x = two (is_utf8 text) (is_same_type t sort.Str) r in
        fine_give m vars g (StrVal text) (from_type W t sort.Str (StrVal text) x.1 (text, refl, λ q. x.0), silent s (StrVal text), tt)
    fine_node (Flag b) t testing known p r W s g k = fine_give m vars g (BoolVal b) (has_bool W t b r, silent s (BoolVal b), refl)
    fine_node Nothing t testing known p r W s g k = fine_give m vars g NoneVal (from_none W t NoneVal r refl, silent s NoneVal, tt)
    fine_node (Local i) t testing known p r W s g k = by (or_cases (is_type (declared vars i) t) (is_type (option_map (reads_as (is_in known i)) (declared vars i)) t) r)
      where
        by : (is_type (declared vars i) t ≡ true) ⊎ (is_type (option_map (reads_as (is_in known i)) (declared vars i)) t ≡ true) → Node_fine W s (Local i) t
        by (inl e) = let x : _ = declared_at vars i t (slice_get vars i) refl e in fine_local m vars g i x.0 t x.1 (λ v q h. subst (λ z. Has m.classes.classes z W v) x.2 h)
        by (inr e) = let x : _ = read_at vars i t (is_in known i) (slice_get vars i) refl e in fine_local m vars g i x.0 t x.1 (λ v q h. subst (λ z. Has m.classes.classes z W v) x.2 (local_known m vars g i x.0 known k v q h))
    fine_node (Global i) t testing known p r W s g k =
        let x : _ = declared_at m.globals i t (slice_get m.globals i) refl r in
        fine_map m vars (fine_global m vars g i x.0 x.1) (λ V u st v h. (subst (λ z. Has m.classes.classes z V v) x.2 h, silent u v, tt))
    fine_node (Neg e) t testing known p r W s g k =
        let x = two (is_number (type_of e)) (is_same_type t (number_join (type_of e) sort.Int)) r in
        let whole : IsWhole t = subst IsWhole (sym (one_type t (number_join (type_of e) sort.Int) x.1)) (joined_whole (type_of e) sort.Int) in
        fine_bind m vars (fine_value e false known p W s g k) (λ V u st v q.
        fine_map m vars (fine_negated m sound.tree vars [] st.good (type_of e) t v whole (number_fits m (type_of e) t whole x.0) (is_got m e V u v q)) (λ X z st' w h. (h, silent z w, tt)))
    fine_node (Not e) t testing known p r W s g k =
        let x = two (is_same_type (type_of e) sort.Bool) (is_same_type t sort.Bool) r in
        fine_bind m vars (fine_value e true known p W s g k) (λ V u st v q.
        fine_bind m vars (fine_truth m vars [] st.good (type_of e) v (is_got m e V u v q)) (λ X z st' b h.
        fine_give m vars st'.good (BoolVal (not b)) (has_bool X t (not b) x.1, not_tells e V u z v b q h.0 h.1, tt)))
    fine_node (Truth e) t testing known p r W s g k =
        let x = two (not (is_same_type (type_of e) sort.Bool)) (is_same_type t sort.Bool) r in
        fine_bind m vars (fine_value e false known p W s g k) (λ V u st v q.
        fine_bind m vars (fine_truth m vars [] st.good (type_of e) v (is_got m e V u v q)) (λ X z st' b h.
        fine_give m vars st'.good (BoolVal b) (has_bool X t b x.1, truth_tells e V u z v b q h.0 h.1, tt)))
    fine_node (Arith op a b) t testing known p r W s g k =
        let y = two (stands m vars init false known a) (stands m vars init false known b) p in
        let x = two (are_numbers (type_of a) (type_of b)) (is_type (operation_sort op (type_of a) (type_of b)) t) r in
        let n = two (is_number (type_of a)) (is_number (type_of b)) x.0 in
        let o : _ = operation_of op (type_of a) (type_of b) t x.0 x.1 in
        let whole : IsWhole t = subst IsWhole (sym o.0) (joined_whole (type_of a) (type_of b)) in
        fine_bind m vars (fine_value a false known y.0 W s g k) (λ V u st v q.
        fine_bind m vars (fine_value b false known y.1 V u st.good (all_known known s u st.keeps k)) (λ X z st' v' q'.
        fine_map m vars (fine_arithmetic m sound.tree vars [] st'.good op (type_of a) (type_of b) t v v' whole (number_fits m (type_of a) t whole n.0) (number_fits m (type_of b) t whole n.1) o.1 (has_still m.classes.classes V X st'.grows (type_of a) v (is_got m a V u v q)) (is_got m b X z v' q')) (λ Y y st'' w h. (h, silent y w, tt))))
    fine_node (Concat a b) t testing known p r W s g k =
        let y = two (stands m vars init false known a) (stands m vars init false known b) p in
        let x = two (are_texts (type_of a) (type_of b)) (is_same_type t sort.Str) r in
        let n = two (is_same_type (type_of a) sort.Str) (is_same_type (type_of b) sort.Str) x.0 in
        fine_bind m vars (fine_value a false known y.0 W s g k) (λ V u st v q.
        fine_bind m vars (fine_value b false known y.1 V u st.good (all_known known s u st.keeps k)) (λ X z st' v' q'.
        fine_map m vars (fine_joined m vars [] st'.good v v' (has_still m.classes.classes V X st'.grows sort.Str v (to_type V (type_of a) sort.Str v n.0 (is_got m a V u v q))) (to_type X (type_of b) sort.Str v' n.1 (is_got m b X z v' q'))) (λ Y y st'' w h. (from_type Y t sort.Str w x.1 h, silent y w, tt))))
    fine_node (Compare e no_comparisons) t testing known p r W s g k = absurd (cc)
    fine_node (Compare e (comparison_then op f more)) t testing known p r W s g k =
        let y = two (stands m vars init false known e) (chain_typed m vars init known e (comparison_then op f more)) p in
        fine_bind m vars (fine_value e false known y.0 W s g k) (λ V u st v q.
        fine_map m vars (fine_chain (comparison_then op f more) e known y.1 V u st.good (all_known known s u st.keeps k) v (is_got m e V u v q))
        (λ X z st' w h. (from_type X t sort.Bool w r h.0, chain_tells e f op more V u z v w q st'.keeps h.1, tt)))
    fine_node (And a b) t testing known p r W s g k =
        let y = two (stands m vars init testing known a) (stands m vars init testing (facts true a ++ known) b) p in
        let x = two (is_same_type (type_of a) t) (is_same_type (type_of b) t) r in
        fine_bind m vars (fine_value a testing known y.0 W s g k) (λ V u st v q.
        fine_bind m vars (fine_truth m vars [] st.good (type_of a) v (is_got m a V u v q)) (λ X z st' h l.
        let now : _ = all_known known u z st'.keeps (all_known known s u st.keeps k) in
        fine_if m vars h
        (λ is. let left : _ = moved (facts true a) u z l.0 (told m a V u v q true (subst (λ j. truth_of v u ≡ Gives j u) is l.1)) in
        fine_map m vars (fine_value b testing (facts true a ++ known) y.1 X z st'.good (both_known (facts true a) known z.locals left now))
        (λ Y o st'' w got. (to_type Y (type_of b) t w x.1 (is_got m b Y o w got), and_tells a b o w (all_known (facts true a) z o st''.keeps left) (told m b Y o w got), tt)))
        (λ is. let truth : truth_of v z ≡ Gives false z = subst (λ o. truth_of v o ≡ Gives false o) (sym l.0) (subst (λ j. truth_of v u ≡ Gives j u) is l.1) in
        fine_give m vars st'.good v (
          has_still m.classes.classes V X st'.grows t v (to_type V (type_of a) t v x.0 (is_got m a V u v q)),
          and_stops a b z v truth (moved (facts false a) u z l.0 (told m a V u v q false (subst (λ j. truth_of v u ≡ Gives j u) is l.1))),
          tt,
        ))))
    fine_node (Or a b) t testing known p r W s g k =
        let y = two (stands m vars init testing known a) (stands m vars init testing (facts false a ++ known) b) p in
        let x = two (is_same_type (type_of a) t) (is_same_type (type_of b) t) r in
        fine_bind m vars (fine_value a testing known y.0 W s g k) (λ V u st v q.
        fine_bind m vars (fine_truth m vars [] st.good (type_of a) v (is_got m a V u v q)) (λ X z st' h l.
        let now : _ = all_known known u z st'.keeps (all_known known s u st.keeps k) in
        fine_if m vars h
        (λ is. let truth : truth_of v z ≡ Gives true z = subst (λ o. truth_of v o ≡ Gives true o) (sym l.0) (subst (λ j. truth_of v u ≡ Gives j u) is l.1) in
        fine_give m vars st'.good v (
          has_still m.classes.classes V X st'.grows t v (to_type V (type_of a) t v x.0 (is_got m a V u v q)),
          or_stops a b z v truth (moved (facts true a) u z l.0 (told m a V u v q true (subst (λ j. truth_of v u ≡ Gives j u) is l.1))),
          tt,
        ))
        (λ is. let left : _ = moved (facts false a) u z l.0 (told m a V u v q false (subst (λ j. truth_of v u ≡ Gives j u) is l.1)) in
        fine_map m vars (fine_value b testing (facts false a ++ known) y.1 X z st'.good (both_known (facts false a) known z.locals left now))
        (λ Y o st'' w got. (to_type Y (type_of b) t w x.1 (is_got m b Y o w got), or_tells a b o w (all_known (facts false a) z o st''.keeps left) (told m b Y o w got), tt)))))
    fine_node (Cond a test b) t testing known p r W s g k =
        let y = three (stands m vars init true known test) (stands m vars init false (facts true test ++ known) a) (stands m vars init false (facts false test ++ known) b) p in
        let x = three (is_same_type (type_of test) sort.Bool) (is_same_type (type_of a) t) (is_same_type (type_of b) t) r in
        fine_bind m vars (fine_value test true known y.0 W s g k) (λ V u st v q.
        fine_bind m vars (fine_truth m vars [] st.good (type_of test) v (is_got m test V u v q)) (λ X z st' h l.
        let now : _ = all_known known u z st'.keeps (all_known known s u st.keeps k) in
        fine_if m vars h
        (λ is. fine_map m vars (fine_value a false (facts true test ++ known) y.1 X z st'.good (both_known (facts true test) known z.locals (moved (facts true test) u z l.0 (told m test V u v q true (subst (λ j. truth_of v u ≡ Gives j u) is l.1))) now))
        (λ Y o st'' w got. (to_type Y (type_of a) t w x.1 (is_got m a Y o w got), silent o w, tt)))
        (λ is. fine_map m vars (fine_value b false (facts false test ++ known) y.2 X z st'.good (both_known (facts false test) known z.locals (moved (facts false test) u z l.0 (told m test V u v q false (subst (λ j. truth_of v u ≡ Gives j u) is l.1))) now))
        (λ Y o st'' w got. (to_type Y (type_of b) t w x.2 (is_got m b Y o w got), silent o w, tt)))))
    fine_node (ListOf es) (sort.ListOf t) testing known p r W s g k =
        let x = two (not (is_nothing t)) (all_of m vars init t (types_of m vars init es)) r in
        fine_bind m vars (fine_values es known p W s g k) (λ V u st vs q.
        fine_map m vars (fine_make m vars st.good (sort.ListOf t) (ListObj vs) (each_of m t (types_of m vars init es) V vs x.1 q)) (λ X z st' w h. (h, silent z w, tt)))
    fine_node (ListOf es) _ testing known p r W s g k = absurd (cc)
    fine_node (DictOf es) (sort.DictOf j t) testing known p r W s g k =
        let x = four (is_key_type j) (not (is_nothing t)) (all_of m vars init j (keys_of m vars init es)) (all_of m vars init t (values_of m vars init es)) r in
        fine_bind m vars (fine_entries es j t known p x.2 x.3 W s g k) (λ V u st ps q.
        fine_map m vars (fine_make m vars st.good (sort.DictOf j t) (DictObj _) (entered_kept m V j t ps [] q tt)) (λ X z st' w h. (h, silent z w, tt)))
    fine_node (DictOf es) _ testing known p r W s g k = absurd (cc)
    fine_node (TupleOf es) (sort.TupleOf ts) testing known p r W s g k =
        let x = four (row_fits m vars init (types_of m vars init es) (listed_sorts ts)) (nat_lt 0 (length (types_of m vars init es))) (nat_lt (length (types_of m vars init es)) 17) (not (list_any is_nothing (types_of m vars init es))) r in
        let same : sorts_of (types_of m vars init es) ≡ ts = one_row (sorts_of (types_of m vars init es)) (sorts_of (listed_sorts ts)) x.0 ∙ sorts_listed ts in
        fine_bind m vars (fine_values es known p W s g k) (λ V u st vs q.
        fine_give m vars st.good (TupleVal (tupled vs)) ((tupled vs, refl, subst (λ z. HaveAll m.classes.classes ts V z) (sym (listed-tupled vs)) (subst (λ z. HaveAll m.classes.classes z V vs) same q)), silent u (TupleVal (tupled vs)), tt))
    fine_node (TupleOf es) _ testing known p r W s g k = absurd (cc)
    fine_node (Attr e name) t testing known p r W s g k =
        let x : _ = attribute_type (type_of e) name t r in
        fine_bind m vars (fine_value e false known p W s g k) (λ V u st v q.
        fine_map m vars (fine_attribute m sound vars st.good x.0 name t v x.2 (subst (λ z. Has m.classes.classes z V v) x.1 (is_got m e V u v q))) (λ X z st' w h. (h, silent z w, tt)))
    fine_node (At e i) t testing known p r W s g k =
        let y = two (stands m vars init false known e) (stands m vars init false known i) p in
        fine_bind m vars (fine_value e false known y.0 W s g k) (λ V u st v q.
        fine_bind m vars (fine_value i false known y.1 V u st.good (all_known known s u st.keeps k)) (λ X z st' v' q'.
        fine_map m vars (fine_item m vars [] st'.good (type_of e) (type_of i) t v v' (keys_of_value m vars init false known e y.0) r (has_still m.classes.classes V X st'.grows (type_of e) v (is_got m e V u v q)) (is_got m i X z v' q')) (λ Y y st'' w h. (h, silent y w, tt))))
    fine_node (TupleAt e i) t testing known p r W s g k =
        let x : _ = part_type (type_of e) i t r in
        fine_bind m vars (fine_value e false known p W s g k) (λ V u st v q.
        fine_map m vars (fine_part m vars [] st.good x.0 i t v x.2 (subst (λ z. Has m.classes.classes z V v) x.1 (is_got m e V u v q))) (λ X z st' w h. (h, silent z w, tt)))
    fine_node (Call f es) t testing known p r W s g k =
        let x = two (is_function (slice_get m.funcs f)) (call_fits m vars init (slice_get m.classes.signatures f) (types_of m vars init es) t) r in
        fine_bind m vars (fine_values es known p W s g k) (λ V u st vs q.
        fine_map m vars (fine_call m sound calls vars st.good f (types_of m vars init es) t (plain_function m f x.0) (signed_call m vars init f (types_of m vars init es) t x.1) vs q) (λ X z st' w h. (h, silent z w, tt)))
    fine_node (Make d es) t testing known p r W s g k =
        let x = two (make_fits m vars init d (types_of m vars init es)) (is_same_type t (sort.Instance d)) r in
        fine_bind m vars (fine_values es known p W s g k) (λ V u st vs q.
        fine_map m vars (fine_new_instance st.good d (types_of m vars init es) vs x.0 q) (λ X z st' w h. (from_type X t (sort.Instance d) w x.1 h, silent z w, tt)))
    fine_node (MakeExc d e) t testing known p r W s g k =
        let x = two (exception_text m vars init e) (is_same_type t (sort.Exc d)) r in
        fine_bind m vars (fine_text e known p x.0 W s g k) (λ V u st v q.
        fine_needs m vars (has_text v) (ap has_text q.1) (fine_give m vars st.good _ (from_type V t (sort.Exc d) _ x.1 (thrown d (text_of v), refl, same_itself m.classes.classes (sort.Exc d), λ z. subst (λ y. is_utf8 (text_of y) ≡ true) (sym q.1) (q.2 z)), silent u (ExcVal (thrown d (text_of v))), tt)))
    fine_node (Method e name es) t testing known p r W s g k =
        let y = two (stands m vars init false known e) (are_values m vars init known es) p in
        let x : _ = method_type (type_of e) name (types_of m vars init es) t r in
        fine_bind m vars (fine_value e false known y.0 W s g k) (λ V u st v q.
        fine_bind m vars (fine_values es known y.1 V u st.good (all_known known s u st.keeps k)) (λ X z st' vs q'.
        fine_map m vars (fine_call_method st'.good x.0 name (types_of m vars init es) t v vs x.2 (has_still m.classes.classes V X st'.grows (sort.Instance x.0) v (subst (λ z. Has m.classes.classes z V v) x.1 (is_got m e V u v q))) q') (λ Y y st'' w h. (h, silent y w, tt))))
    fine_node (SuperInit f es) t testing known p r W s g k =
        let x = two (super_fits m vars init init f (types_of m vars init es)) (is_nothing t) r in
        let d : _ = super_of init f (types_of m vars init es) x.0 in
        let o : _ = self d.0 d.1 in
        fine_bind m vars (fine_local m vars g 0 o.0 (sort.Instance d.0) o.1 (λ v q h. subst (λ z. Has m.classes.classes z W v) o.2 h)) (λ V u st v q.
        fine_bind m vars (fine_values es known p V u st.good (all_known known s u st.keeps k)) (λ X z st' vs q'.
        fine_map m vars (fine_super st'.good d.0 f (types_of m vars init es) v vs d.2 d.3 (has_still m.classes.classes V X st'.grows (sort.Instance d.0) v q.0) q') (λ Y y st'' w h. (from_none Y t w x.1 h, silent y w, tt))))
    fine_node (Print es) t testing known p r W s g k =
        let x = two (list_all is_printable (types_of m vars init es)) (is_nothing t) r in
        fine_bind m vars (fine_values es known p W s g k) (λ V u st vs q.
        fine_needs m vars (list_all has_text vs) (all_printed m V (types_of m vars init es) vs x.0 q) (fine_map m vars (fine_write m vars st.good _ (written_line m V (types_of m vars init es) vs x.0 q)) (λ X z st' w h. (from_none X t w x.1 h, silent z w, tt))))
    fine_node Input t testing known p r W s g k =
        fine_map m vars (fine_seen m vars [] g (λ z. z.items) next_line next_line s.items refl (fine_line m vars [] g s.items (λ q. (g.texts q).items))) (λ X z st' w h. (from_type X t sort.Str w r h, silent z w, tt))
    fine_node (Len e) t testing known p r W s g k =
        let x = two (is_sized (type_of e)) (is_same_type t sort.Int) r in
        fine_bind m vars (fine_value e false known p W s g k) (λ V u st v q.
        fine_map m vars (fine_length m vars [] st.good (type_of e) v x.0 (is_got m e V u v q)) (λ X z st' w h. (from_type X t sort.Int w x.1 h, silent z w, tt)))
    fine_node (ToStr e) t testing known p r W s g k =
        let x = two (is_printable (type_of e)) (is_same_type t sort.Str) r in
        fine_bind m vars (fine_value e false known p W s g k) (λ V u st v q.
        fine_needs m vars (has_text v) (printed m V (type_of e) v x.0 (is_got m e V u v q)) (fine_give m vars st.good _ (from_type V t sort.Str _ x.1 (text_of v, refl, written_text m V (type_of e) v x.0 (is_got m e V u v q)), silent u (StrVal (text_of v)), tt)))
    fine_node (Append a b) t testing known p r W s g k =
        let y = two (stands m vars init false known a) (stands m vars init false known b) p in
        let x = two (is_same_type (type_of a) (sort.ListOf (type_of b))) (is_nothing t) r in
        fine_bind m vars (fine_value a false known y.0 W s g k) (λ V u st v q.
        fine_bind m vars (fine_value b false known y.1 V u st.good (all_known known s u st.keeps k)) (λ X z st' v' q'.
        fine_list m vars [] st'.good (type_of b) v _ _ (has_still m.classes.classes V X st'.grows (sort.ListOf (type_of b)) v (to_type V (type_of a) (sort.ListOf (type_of b)) v x.0 (is_got m a V u v q))) (λ j vs l at there each.
        fine_bind m vars (fine_put m vars st'.good j (sort.ListOf (type_of b)) (ListObj (vs ++ v' ∷ [])) at (each_more m.classes.classes X (type_of b) vs v' each (is_got m b X z v' q'))) (λ Y y st'' w h.
        fine_give m vars st''.good NoneVal (from_none Y t NoneVal x.1 refl, silent y NoneVal, tt)))))
    fine_node (Pop e) t testing known p r W s g k =
        fine_bind m vars (fine_value e false known p W s g k) (λ V u st v q.
        fine_list m vars [] st.good t v _ _ (to_type V (type_of e) (sort.ListOf t) v r (is_got m e V u v q)) (λ j vs l at there each.
        fine_place m vars [] st.good (codes "pop from empty list") (length vs) (IntVal (negsuc 0)) _ _ (negsuc 0, refl, refl) (ascii_text (codes "pop from empty list") refl) (λ i less.
        fine_bind m vars (fine_put m vars st.good j (sort.ListOf t) (ListObj _) at (each_taken m.classes.classes V t i vs each)) (λ X z st' w h.
        fine_map m vars (fine_got m vars [] st'.good t vs i less (each_still m.classes.classes V X st'.grows t vs each)) (λ Y y st'' w h. (h, silent y w, tt))))))
    fine_node (Coerce e) t testing known p r W s g k =
        let x = two (fits m.classes.classes (type_of e) t) (not (is_same_type (type_of e) t)) r in
        fine_bind m vars (fine_value e false known p W s g k) (λ V u st v q.
        fine_map m vars (fine_coerced m sound.tree vars [] st.good (type_of e) t v x.0 (is_got m e V u v q)) (λ X z st' w h. (h.0, coerced_tells e V u z v w q h.1 h.2, λ no n. not_none m (type_of e) V v no (is_got m e V u v q) (h.3 n))))

    fine_values : (es : TypedExprs) (known : List ℕ) → are_values m vars init known es ≡ true → (W : World utf8) (s : State) → Good m vars W s → NotNone known s.locals
        → Fine m vars (List Value) [] W s (λ V u vs. HaveAll m.classes.classes (sorts_of (types_of m vars init es)) V vs) (watched.expressions watch m.classes.classes c' m.globals vars es) (official.expressions m.classes.classes c m.globals vars es)
    fine_values no_exprs known p W s g k = fine_give m vars g [] tt
    fine_values (expr_then e more) known p W s g k =
        let y = two (stands m vars init false known e) (are_values m vars init known more) p in
        fine_bind m vars (fine_value e false known y.0 W s g k) (λ V u st v q.
        fine_bind m vars (fine_values more known y.1 V u st.good (all_known known s u st.keeps k)) (λ X z st' vs q'.
        fine_give m vars st'.good (v ∷ vs) (has_still m.classes.classes V X st'.grows (type_of e) v (is_got m e V u v q), q')))

    fine_chain : (more : Comparisons) (a : TypedExpr) (known : List ℕ) → chain_typed m vars init known a more ≡ true → (W : World utf8) (s : State) → Good m vars W s → NotNone known s.locals → (x : Value) → Has m.classes.classes (type_of a) W x
        → Fine m vars Value [] W s (λ V u v. Has m.classes.classes sort.Bool V v × ChainIs x more v) (watched.chain watch m.classes.classes c' m.globals vars (type_of a) x more) (official.chain m.classes.classes c m.globals vars (type_of a) x more)
    fine_chain no_comparisons a known p W s g k x h = fine_give m vars g (BoolVal true) ((true, refl), refl)
    fine_chain (comparison_then op e more) a known p W s g k x h =
        let y = three (stands m vars init false known e) (pair_fits m vars init op a e) (chain_typed m vars init known e more) p in
        fine_bind m vars (fine_value e false known y.0 W s g k) (λ V u st v q.
        fine_bind m vars (fine_pair st.good op a e x v y.1 (has_still m.classes.classes W V st.grows (type_of a) x h) (is_got m e V u v q)) (λ X z st' b l.
        fine_if m vars b
        (λ is. fine_map m vars (fine_chain more e known y.2 X z st'.good (all_known known u z st'.keeps (all_known known s u st.keeps k)) v (has_still m.classes.classes V X st'.grows (type_of e) v (is_got m e V u v q)))
        (λ Y o st'' w j. (j.0, lift_true op e x v w more (subst (PairIs op x) is l) j.1)))
        (λ is. fine_give m vars st'.good (BoolVal false) ((false, refl), lift_false op e x more (subst (PairIs op x) is l)))))

    fine_entries : (es : Entries) (j t : Sort) (known : List ℕ) → entries_typed m vars init known es ≡ true → all_of m vars init j (keys_of m vars init es) ≡ true → all_of m vars init t (values_of m vars init es) ≡ true → (W : World utf8) (s : State) → Good m vars W s → NotNone known s.locals
        → Fine m vars (List (Value × Value)) [] W s (λ V u ps. EachPair m.classes.classes j t V ps) (watched.entries watch m.classes.classes c' m.globals vars es) (official.entries m.classes.classes c m.globals vars es)
    fine_entries no_entries j t known p a b W s g k = fine_give m vars g [] tt
    fine_entries (entry_then e f more) j t known p a b W s g k =
        let y = three (stands m vars init false known e) (stands m vars init false known f) (entries_typed m vars init known more) p in
        let a' = two (is_same_type (type_of e) j) (all_of m vars init j (keys_of m vars init more)) a in
        let b' = two (is_same_type (type_of f) t) (all_of m vars init t (values_of m vars init more)) b in
        fine_bind m vars (fine_value e false known y.0 W s g k) (λ V u st v q.
        fine_bind m vars (fine_value f false known y.1 V u st.good (all_known known s u st.keeps k)) (λ X z st' v' q'.
        fine_bind m vars (fine_entries more j t known y.2 a'.1 b'.1 X z st'.good (all_known known u z st'.keeps (all_known known s u st.keeps k))) (λ Y y st'' ps q''.
        fine_give m vars st''.good ((v, v') ∷ ps)
        ((has_still m.classes.classes X Y st''.grows j v (has_still m.classes.classes V X st'.grows j v (to_type V (type_of e) j v a'.0 (is_got m e V u v q))), has_still m.classes.classes X Y st''.grows t v' (to_type X (type_of f) t v' b'.0 (is_got m f X z v' q'))), q''))))

    fine_text : (e : MaybeExpr) (known : List ℕ) → maybe_value m vars init known e ≡ true → exception_text m vars init e ≡ true → (W : World utf8) (s : State) → Good m vars W s → NotNone known s.locals
        → Fine m vars Value [] W s (λ V u v. (text : List ℕ) × (v ≡ StrVal text) × IsText utf8 text) (watched.text_or_empty watch m.classes.classes c' m.globals vars e) (official.text_or_empty m.classes.classes c m.globals vars e)
    fine_text no_expr known p h W s g k = fine_give m vars g (StrVal []) ([], refl, λ q. ascii_text [] refl)
    fine_text (some_expr e) known p h W s g k = fine_map m vars (fine_value e false known p W s g k) (λ V u st v q. to_type V (type_of e) sort.Str v h (is_got m e V u v q))
