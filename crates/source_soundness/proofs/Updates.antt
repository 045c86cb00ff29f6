-- A target's value is changed: the read, the operation and the write.
-- The letters are those of `Fine`.
use Rattle.std.proofs.Common.{◌≡◌, ℕ, Bool, true, false, not, List, [], ◌∷◌, Option, Some, None, refl, sym, subst, ◌∙◌, if◌then◌else◌, slice_get}
use Rattle.value_core.specs.Value.{Value, NoneVal}
use Rattle.py_syntax.specs.declared.expression.BinOp.{BinOp}
use Rattle.py_typed.specs.Sorts as sort
use Rattle.py_typed.specs.Sorts.{Sort}
use Rattle.py_typed.specs.Fits.{is_nothing, is_same_type, fits}
use Rattle.py_typed.specs.Expressions.{TypedExpr, type_of}
use Rattle.py_typed.specs.Statements.{Variable, TypedTarget, LocalTarget, GlobalTarget, AttrTarget, ItemTarget, TypedModule}
use Rattle.py_typed.specs.TargetTypes.{attribute_sort, item_sort, sort_at}
use Rattle.source_meaning.specs.State.{State, Calls}
use Rattle.source_meaning.specs.Operations.{arithmetic, coerced, combined}
use Rattle.source_meaning.specs.StatementMeaning as official
use Rattle.py_typed.specs.Narrowing.{is_in, may_be_none, bound_by, after_target}
use Rattle.py_typed.specs.WellTypedExpr.{is_type, indexed, operation_sort, reads_as, is_value}
use Rattle.py_typed.specs.WellTyped as typing
use Rattle.py_typed.proofs.FitLemmas.{type_is_itself}
use Rattle.source_soundness.specs.Watched as watched
use Rattle.source_soundness.specs.Watched.{Watch, bare}
use Rattle.source_soundness.proofs.Worlds.{World, Has, has_still}
use Rattle.source_soundness.proofs.Fine.{Good, Fine, NotNone, Passes, fine_bind, fine_map, fine_kept, fine_watched}
use Rattle.source_soundness.proofs.FitValues.{fine_coerced}
use Rattle.source_soundness.proofs.Operators.{IsWhole, IsPlain, Makes, joined_whole, fine_item, fine_set, fine_joined, fine_arithmetic}
use Rattle.source_soundness.proofs.Names.{all_known}
use Rattle.source_soundness.proofs.Facts.{Facts, CallsFine, two, three}
use Rattle.source_soundness.proofs.Expressions.{is_got, not_none, number_fits, keys_of_value, fine_local, local_known, fine_global, fine_attribute}
use Rattle.source_soundness.proofs.Targets.{Operates, on_texts, on_numbers, operates, plain_operand, plain_result, plain_not_none, bare_read, var_at, type_at, same_target, value, fine_assign, fine_set_attribute, attribute_type, no_nothing, after_other, assignable}

whole_combined : (t : Sort) (o : BinOp) (x y : Value) → IsWhole t → combined t o x y ≡ arithmetic t o x y
whole_combined sort.Int o x y w = refl
whole_combined sort.I64 o x y w = refl
whole_combined _ o x y w = absurd w

module _ {utf8 : Bool} (m : TypedModule) (sound : Facts m) (watch : Watch) {c' c : Calls} (calls : CallsFine m utf8 c' c) (vars : List Variable) (passes : Passes utf8 m vars watch)
    (init : Option ℕ) (self : (d : ℕ) → init ≡ Some d → (x : Variable) × (slice_get vars 0 ≡ Some x) × (x.1 ≡ sort.Instance d)) (result : Option Sort) where
  abbrev At : TypedTarget → Sort
  At t = type_at m sound watch calls vars passes init self result t

  fine_combined : {W : World utf8} {s : State} (g : Good m vars W s) (o : BinOp) (a b t : Sort) (x y : Value) → Operates o a b t → Has m.classes.classes a W x → Has m.classes.classes b W y → Makes m vars [] g t (combined t o x y)
  fine_combined {W = W} g o a b t x y (on_texts p q r e) h k =
      subst (λ z. Makes m vars [] g z (combined z o x y)) (sym e) (subst (λ z. Makes m vars [] g sort.Str (combined sort.Str z x y)) (sym p)
      (fine_joined m vars [] g x y (subst (λ z. Has m.classes.classes z W x) q h) (subst (λ z. Has m.classes.classes z W y) r k)))
  fine_combined g o a b t x y (on_numbers p q e n) h k =
      let whole : IsWhole t = subst IsWhole (sym e) (joined_whole a b) in
      subst (λ z. Makes m vars [] g t z) (sym (whole_combined t o x y whole)) (fine_arithmetic m sound.tree vars [] g o a b t x y whole (number_fits m a t whole p) (number_fits m b t whole q) n h k)

  fine_coerced_at : {W : World utf8} {s : State} (g : Good m vars W s) (t : TypedTarget) (a : Sort) (v : Value) → fits m.classes.classes a (At t) ≡ true → Has m.classes.classes a W v → may_be_none a ≡ false
      → Fine m vars Value [] W s (λ V u w. Has m.classes.classes (At t) V w × (w ≡ NoneVal → ⊥)) (coerced (official.target_sort m.classes.classes c' m.globals vars t) v) (coerced (official.target_sort m.classes.classes c m.globals vars t) v)
  fine_coerced_at {W = W} {s = s} g t a v f h n =
      subst (λ x. Fine m vars Value [] W s (λ V u w. Has m.classes.classes (At t) V w × (w ≡ NoneVal → ⊥)) (coerced x v) (coerced (official.target_sort m.classes.classes c m.globals vars t) v)) (sym (same_target m sound watch calls vars passes init self result c' t))
      (subst (λ x. Fine m vars Value [] W s (λ V u w. Has m.classes.classes (At t) V w × (w ≡ NoneVal → ⊥)) (coerced (At t) v) (coerced x v)) (sym (same_target m sound watch calls vars passes init self result c t))
      (fine_map m vars (fine_coerced m sound.tree vars [] g a (At t) v f h) (λ V u st w q. (q.0, λ e. not_none m a W v n h (q.3 e)))))

  -- of the old value
  fine_changed : (t : TypedTarget) (o : BinOp) (e : TypedExpr) (a b : Sort) (old : Value) (known : List ℕ) → is_value m vars init known e ≡ true → Operates o a (type_of e) b → fits m.classes.classes b (At t) ≡ true → (W : World utf8) (s : State) → Good m vars W s → NotNone known s.locals → Has m.classes.classes a W old
      → Fine m vars Value [] W s (λ V u w. Has m.classes.classes (At t) V w × (w ≡ NoneVal → ⊥)) (watched.changed watch m.classes.classes c' m.globals vars t o e b old) (official.changed m.classes.classes c m.globals vars t o e b old)
  fine_changed t o e a b old known p O f W s g k h =
      fine_bind m vars (value m sound watch calls vars passes init self result e known p W s g k) (λ V u st y q.
      fine_bind m vars (fine_combined st.good o a (type_of e) b old y O (has_still m.classes.classes W V st.grows a old h) (is_got m e V u y q)) (λ X z st' w r.
      fine_coerced_at st'.good t b w f r (plain_not_none b (plain_result O))))

  reads_same : (known : List ℕ) (i : ℕ) (a : Sort) (V : World utf8) (v : Value) → IsPlain (reads_as (is_in known i) a) → Has m.classes.classes (reads_as (is_in known i) a) V v → Has m.classes.classes (bare a) V v
  reads_same known i a V v p h = subst (λ z. Has m.classes.classes z V v) (sym (bare_read (is_in known i) a p)) h

  bare_same : (a : Sort) (V : World utf8) (v : Value) → IsPlain a → Has m.classes.classes a V v → Has m.classes.classes (bare a) V v
  bare_same a V v p h = subst (λ z. Has m.classes.classes z V v) (sym (bare_read false a (subst IsPlain (sym (as_is a)) p) ∙ as_is a)) h
    where
      as_is : (a : Sort) → reads_as false a ≡ a
      as_is a = refl

  pub fine_update : (t : TypedTarget) (o : BinOp) (e : TypedExpr) (b : Sort) (known : List ℕ) → is_value m vars init known e ≡ true → typing.target_typed m vars init result known t ≡ true → typing.update_fits m vars init result known t o (type_of e) b ≡ true → (W : World utf8) (s : State) → Good m vars W s → NotNone known s.locals
      → Fine m vars (Unit {0}) (bound_by t) W s (λ V u x. NotNone (after_target known t b) u.locals) (watched.update watch m.classes.classes c' m.globals vars t (watched.changed watch m.classes.classes c' m.globals vars t o e b)) (official.update m.classes.classes c m.globals vars t (official.changed m.classes.classes c m.globals vars t o e b))
  fine_update (LocalTarget i) o e b known p d r W s g k =
      let x : _ = var_at vars i d in
      let y = two (is_type (operation_sort o (reads_as (is_in known i) (sort_at vars i)) (type_of e)) b) (fits m.classes.classes b (At (LocalTarget i))) r in
      let O : _ = operates o (reads_as (is_in known i) (sort_at vars i)) (type_of e) b y.0 in
      fine_bind m vars (fine_kept m vars (i ∷ []) (fine_bind m vars
      (fine_watched m vars watch passes (bare (sort_at vars i)) (λ V u v h. reads_same known i (sort_at vars i) V v (plain_operand O) h)
      (fine_map m vars (fine_local m vars g i x.0 (reads_as (is_in known i) (sort_at vars i)) x.1 (λ v q h. subst (λ z. Has m.classes.classes (reads_as (is_in known i) z) W v) (sym x.2) (local_known m vars g i x.0 known k v q h))) (λ V u st v h. h.0)))
      (λ V u st v h. fine_changed (LocalTarget i) o e (reads_as (is_in known i) (sort_at vars i)) b v known p O y.1 V u st.good (all_known known s u st.keeps k) h)))
      (λ V u st w q. fine_assign m sound watch calls vars passes init self result (LocalTarget i) b w known d V u st.good (all_known known s u q.0.keeps k) q.1.0 (λ no. q.1.1))
  fine_update (GlobalTarget i) o e b known p d r W s g k =
      let x : _ = var_at m.globals i d in
      let y = two (is_type (operation_sort o (sort_at m.globals i) (type_of e)) b) (fits m.classes.classes b (At (GlobalTarget i))) r in
      let O : _ = operates o (sort_at m.globals i) (type_of e) b y.0 in
      fine_bind m vars (fine_bind m vars
      (fine_watched m vars watch passes (bare (sort_at m.globals i)) (λ V u v h. bare_same (sort_at m.globals i) V v (plain_operand O) h)
      (fine_map m vars (fine_global m vars g i x.0 x.1) (λ V u st v h. subst (λ z. Has m.classes.classes z V v) (sym x.2) h)))
      (λ V u st v h. fine_changed (GlobalTarget i) o e (sort_at m.globals i) b v known p O y.1 V u st.good (all_known known s u st.keeps k) h))
      (λ V u st w q. fine_assign m sound watch calls vars passes init self result (GlobalTarget i) b w known d V u st.good (all_known known s u st.keeps k) q.0 (λ no. q.1))
  fine_update (AttrTarget f name) o e b known p d r W s g k =
      let z = two (is_value m vars init known f) (not (is_nothing (attribute_sort m.classes.classes (type_of f) name))) d in
      let x : _ = attribute_type m sound watch calls vars passes init self result (type_of f) name (no_nothing m sound watch calls vars passes init self result (is_nothing (attribute_sort m.classes.classes (type_of f) name)) z.1) in
      let y = two (is_type (operation_sort o (attribute_sort m.classes.classes (type_of f) name) (type_of e)) b) (fits m.classes.classes b (At (AttrTarget f name))) r in
      let O : _ = operates o (attribute_sort m.classes.classes (type_of f) name) (type_of e) b y.0 in
      fine_bind m vars (value m sound watch calls vars passes init self result f known z.0 W s g k) (λ V u st obj q.
      let got : _ = subst (λ z. Has m.classes.classes z V obj) x.2 (is_got m f V u obj q) in
      fine_bind m vars (fine_bind m vars
      (fine_watched m vars watch passes (bare (attribute_sort m.classes.classes (type_of f) name)) (λ X z v h. bare_same (attribute_sort m.classes.classes (type_of f) name) X v (plain_operand O) h)
      (fine_map m vars (fine_attribute m sound vars st.good x.0 name x.1 obj x.3 got) (λ X z st' v h. subst (λ y. Has m.classes.classes y X v) (sym x.4) h)))
      (λ X z st' v h. fine_changed (AttrTarget f name) o e (attribute_sort m.classes.classes (type_of f) name) b v known p O y.1 X z st'.good (all_known known u z st'.keeps (all_known known s u st.keeps k)) h))
      (λ X z st' w h. fine_map m vars (fine_set_attribute m sound watch calls vars passes init self result st'.good x.0 name x.1 obj w x.3 (has_still m.classes.classes V X st'.grows (sort.Instance x.0) obj got) (subst (λ y. Has m.classes.classes y X w) x.4 h.0))
      (λ Y y st'' a l. after_other m sound watch calls vars passes init self result known (may_be_none b) z y st''.keeps (all_known known u z st'.keeps (all_known known s u st.keeps k)))))
  fine_update (ItemTarget f i) o e b known p d r W s g k =
      let z = three (is_value m vars init known f) (is_value m vars init known i) (typing.is_assignable m vars init result (type_of f) (type_of i)) d in
      let x : _ = assignable m sound watch calls vars passes init self result (type_of f) (type_of i) z.2 in
      let y = two (is_type (operation_sort o (item_sort (type_of f)) (type_of e)) b) (fits m.classes.classes b (At (ItemTarget f i))) r in
      let O : _ = operates o (item_sort (type_of f)) (type_of e) b y.0 in
      fine_bind m vars (value m sound watch calls vars passes init self result f known z.0 W s g k) (λ V u st obj q.
      fine_bind m vars (value m sound watch calls vars passes init self result i known z.1 V u st.good (all_known known s u st.keeps k)) (λ X a st' j q'.
      let got : _ = has_still m.classes.classes V X st'.grows (type_of f) obj (is_got m f V u obj q) in
      fine_bind m vars (fine_bind m vars
      (fine_watched m vars watch passes (bare (item_sort (type_of f))) (λ Y z v h. bare_same (item_sort (type_of f)) Y v (plain_operand O) h)
      (fine_item m vars [] st'.good (type_of f) (type_of i) (item_sort (type_of f)) obj j (keys_of_value m vars init false known f z.0) (item_type (type_of f) (type_of i) x.0 x.1.0 x.1.1) got (is_got m i X a j q')))
      (λ Y z st'' v h. fine_changed (ItemTarget f i) o e (item_sort (type_of f)) b v known p O y.1 Y z st''.good (all_known known a z st''.keeps (all_known known u a st'.keeps (all_known known s u st.keeps k))) h))
      (λ Y z st'' w h. fine_map m vars (fine_set m vars [] st''.good (type_of f) (type_of i) x.1.0 obj j w x.0 x.1.1 (has_still m.classes.classes X Y st''.grows (type_of f) obj got) (has_still m.classes.classes X Y st''.grows (type_of i) j (is_got m i X a j q')) h.0)
      (λ Z y st3 l _. after_other m sound watch calls vars passes init self result known (may_be_none b) z y st3.keeps (all_known known a z st''.keeps (all_known known u a st'.keeps (all_known known s u st.keeps k)))))))
    where
      some_is : (o : Option Sort) (t t' : Sort) → o ≡ Some t → t ≡ t' → is_type o t' ≡ true
      some_is o t t' e q = subst (λ z. is_type z t' ≡ true) (sym e) (subst (λ z. is_same_type t z ≡ true) q (type_is_itself t))

      if_some : (x : Bool) (u t : Sort) → (if x then Some u else None) ≡ Some t → t ≡ u
      if_some true u t e = cc
      if_some false u t e = absurd (cc)

      item_type : (a c : Sort) → is_same_type a sort.Str ≡ false → (t : Sort) → indexed a c ≡ Some t → is_type (indexed a c) (item_sort a) ≡ true
      item_type (sort.ListOf u) c n t e = some_is (indexed (sort.ListOf u) c) t u e (if_some (is_same_type c sort.Int) u t e)
      item_type (sort.DictOf j u) c n t e = some_is (indexed (sort.DictOf j u) c) t u e (if_some (is_same_type c j) u t e)
      item_type sort.Str c n t e = absurd (cc)
      item_type _ c n t e = absurd (cc)
