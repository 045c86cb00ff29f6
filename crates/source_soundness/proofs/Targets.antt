-- Values are brought to targets that take them: the state stays typed, and what is known of names is so.
-- The letters are those of `Fine`.
use Rattle.std.proofs.Common.{◌≡◌, ◌≢◌, ℕ, zero, suc, Bool, true, false, not, ◌&&◌, ◌||◌, ◌==◌, List, [], ◌∷◌, length, Option, Some, None, refl, sym, ap, subst, ◌∙◌, if◌then◌else◌, nat_lt, slice_get, slice_set, arith}
use Rattle.std.proofs.lemmas.Bool.Decides.{nat_tests}
use Rattle.std.proofs.lemmas.Bool.{eq-eqb}
use Rattle.std.proofs.lemmas.Option.{slice_get_within}
use Rattle.value_core.specs.Value.{Value, NoneVal, TupleVal, listed, InstObj}
use Rattle.py_syntax.specs.declared.expression.BinOp.{BinOp}
use Rattle.py_syntax.specs.declared.expression.BinOp.TheVariants as op
use Rattle.py_typed.specs.Sorts as sort
use Rattle.py_typed.specs.Sorts.{Sort, Sorts, sorts_of}
use Rattle.py_typed.specs.Fits.{is_number, is_nothing, is_same_type, number_join, fits}
use Rattle.py_typed.specs.Order.{attribute_of, attributes, place_in}
use Rattle.py_typed.specs.Expressions.{TypedExpr, type_of}
use Rattle.py_typed.specs.Statements.{Variable, TypedTarget, LocalTarget, GlobalTarget, AttrTarget, ItemTarget, TypedModule}
use Rattle.py_typed.specs.TargetTypes.{attribute_sort, item_sort, sort_at, sort_or_nothing}
use Rattle.source_meaning.specs.State.{State, Does, Calls, ◌>>=◌, needs, put_local, put_global}
use Rattle.source_meaning.specs.Operations.{coerced}
use Rattle.source_meaning.specs.ExpressionMeaning.{set_attribute}
use Rattle.source_meaning.specs.StatementMeaning as official
use Rattle.py_typed.specs.Narrowing.{is_in, may_be_none, without, bound_by, bound_by_all, after_target, after_parts, part_sorts}
use Rattle.py_typed.specs.WellTypedExpr.{is_type, indexed, operation_sort, are_texts, are_numbers, is_bar, reads_as, is_value}
use Rattle.py_typed.specs.WellTyped as typing
use Rattle.py_typed.proofs.FitLemmas.{one_type}
use Rattle.source_soundness.specs.Watched as watched
use Rattle.source_soundness.specs.Watched.{Watch, bare}
use Rattle.source_soundness.proofs.Worlds.{World, Has, HaveAll, has_still, have_still, hold_still, held, held_set, held_count, Grows}
use Rattle.source_soundness.proofs.Fine.{Good, Fine, NotNone, Keeps, Passes, fine_bind, fine_map, fine_more, fine_kept, fine_give, fine_needs, fine_sure, fine_put, fine_put_global, fine_put_local, set_other}
use Rattle.source_soundness.proofs.FitValues.{fine_coerced}
use Rattle.source_soundness.proofs.Operators.{IsWhole, IsPlain, joined_whole, fine_seen, fine_instance, fine_set, got_within}
use Rattle.source_soundness.proofs.Names.{in_without, out_left, out_right, same_number, fewer_known, all_known}
use Rattle.source_soundness.proofs.Facts.{Facts, CallsFine, AttributeOf, two, three}
use Rattle.source_soundness.proofs.Expressions.{is_got, not_none, sorts_listed}
use Rattle.source_soundness.proofs.Nodes.{fine_value, Value_fine}

-- ---- names and their types

pub var_at : (xs : List Variable) (i : ℕ) → nat_lt i (length xs) ≡ true → (x : Variable) × (slice_get xs i ≡ Some x) × (sort_at xs i ≡ x.1)
var_at xs i h = by (slice_get xs i) refl (got_within xs i (grind (arith, nat_tests, h)))
  where
    named : (o : Option Variable) (x : Variable) → o ≡ Some x → slice_get xs i ≡ o → (y : Variable) × (slice_get xs i ≡ Some y) × (sort_at xs i ≡ y.1)
    named o x e q = (x, q ∙ e, rw (q ∙ e, sort_at))

    by : (o : Option Variable) → slice_get xs i ≡ o → (x : Variable) × (slice_get xs i ≡ Some x) → (x : Variable) × (slice_get xs i ≡ Some x) × (sort_at xs i ≡ x.1)
    by o q p = named (Some p.0) p.0 refl p.1

is_there_some : (m : TypedModule) (vars : List Variable) (init : Option ℕ) (result : Option Sort) {A : Type 0} (o : Option A) → typing.is_there m vars init result o ≡ true → (a : A) × (o ≡ Some a)
is_there_some m vars init result None e = absurd (cc)
is_there_some m vars init result (Some a) e = (a, refl)

-- what is read as a number or a text is of the bare type
pub bare_read : (b : Bool) (t : Sort) → IsPlain (reads_as b t) → bare t ≡ reads_as b t
bare_read true (sort.Optional t) h = refl
bare_read false (sort.Optional t) h = absurd h
bare_read b sort.Int h = by b
  where
    by : (b : Bool) → bare sort.Int ≡ reads_as b sort.Int
    by true = refl
    by false = refl
bare_read true _ h = refl
bare_read false _ h = refl

plain_number : (a : Sort) → is_number a ≡ true → IsPlain a
plain_number sort.Int e = tt
plain_number sort.I64 e = tt
plain_number sort.Bool e = tt
plain_number _ e = absurd (cc)

pub plain_not_none : (a : Sort) → IsPlain a → may_be_none a ≡ false
plain_not_none sort.Int h = refl
plain_not_none sort.I64 h = refl
plain_not_none sort.Bool h = refl
plain_not_none sort.Str h = refl
plain_not_none _ h = absurd h

-- an operation is one on texts, or one on numbers
pub data Operates (o : BinOp) (a c t : Sort) : Type 0 where
  on_texts : o ≡ op.Add → a ≡ sort.Str → c ≡ sort.Str → t ≡ sort.Str → Operates o a c t
  on_numbers : is_number a ≡ true → is_number c ≡ true → t ≡ number_join a c → is_bar o ≡ false → Operates o a c t

by_texts : (b : Bool) (a c t : Sort) → are_texts a c ≡ b → is_type (if b then Some sort.Str else if are_numbers a c then Some (number_join a c) else None) t ≡ true → Operates op.Add a c t
by_texts true a c t q e =
    let r = two (is_same_type a sort.Str) (is_same_type c sort.Str) q in
    on_texts refl (one_type a sort.Str r.0) (one_type c sort.Str r.1) (sym (one_type sort.Str t e))
by_texts false a c t q e = numbered (are_numbers a c) refl e
  where
    numbered : (n : Bool) → are_numbers a c ≡ n → is_type (if n then Some (number_join a c) else None) t ≡ true → Operates op.Add a c t
    numbered true n e = let r = two (is_number a) (is_number c) n in on_numbers r.0 r.1 (sym (one_type (number_join a c) t e)) refl
    numbered false n e = absurd (cc)

by_numbers : (o : BinOp) (a c t : Sort) (b : Bool) → (are_numbers a c && not (is_bar o)) ≡ b → is_type (if b then Some (number_join a c) else None) t ≡ true → Operates o a c t
by_numbers o a c t true q e =
    let r = two (are_numbers a c) (not (is_bar o)) q in
    let n = two (is_number a) (is_number c) r.0 in
    on_numbers n.0 n.1 (sym (one_type (number_join a c) t e)) (no_bar (is_bar o) r.1)
  where
    no_bar : (b : Bool) → not b ≡ true → b ≡ false
    no_bar true e = absurd (cc)
    no_bar false e = refl
by_numbers o a c t false q e = absurd (cc)

pub operates : (o : BinOp) (a c t : Sort) → is_type (operation_sort o a c) t ≡ true → Operates o a c t
operates op.Add a c t e = by_texts (are_texts a c) a c t refl e
operates op.Sub a c t e = by_numbers op.Sub a c t (are_numbers a c && not (is_bar op.Sub)) refl e
operates o a c t e = by_numbers o a c t (are_numbers a c && not (is_bar o)) refl e

pub plain_operand : {o : BinOp} {a c t : Sort} → Operates o a c t → IsPlain a
plain_operand (on_texts o a c t) = subst IsPlain (sym a) tt
plain_operand {a = a} (on_numbers n k t b) = plain_number a n

pub plain_result : {o : BinOp} {a c t : Sort} → Operates o a c t → IsPlain t
plain_result (on_texts o a c t) = subst IsPlain (sym t) tt
plain_result {a = a} {c = c} (on_numbers n k t b) = subst IsPlain (sym t) (whole (number_join a c) (joined_whole a c))
  where
    whole : (x : Sort) → IsWhole x → IsPlain x
    whole sort.Int w = tt
    whole sort.I64 w = tt
    whole _ w = absurd w

module _ {utf8 : Bool} (m : TypedModule) (sound : Facts m) (watch : Watch) {c' c : Calls} (calls : CallsFine m utf8 c' c) (vars : List Variable) (passes : Passes utf8 m vars watch)
    (init : Option ℕ) (self : (d : ℕ) → init ≡ Some d → (x : Variable) × (slice_get vars 0 ≡ Some x) × (x.1 ≡ sort.Instance d)) (result : Option Sort) where
  abbrev pub type_at : TypedTarget → Sort
  type_at t = typing.target_type m vars init result t

  pub same_target : (d : Calls) (t : TypedTarget) → official.target_sort m.classes.classes d m.globals vars t ≡ type_at t
  same_target d (LocalTarget i) = refl
  same_target d (GlobalTarget i) = refl
  same_target d (AttrTarget e name) = refl
  same_target d (ItemTarget e i) = refl

  pub value : (e : TypedExpr) (known : List ℕ) → is_value m vars init known e ≡ true → (W : World utf8) (s : State) → Good m vars W s → NotNone known s.locals → Value_fine m sound watch calls vars passes init self W s e
  value e known h W s g k = fine_value m sound watch calls vars passes init self e false known h W s g k

  count_is : {W : World utf8} {s : State} → Good m vars W s → (i : ℕ) → nat_lt i (length vars) ≡ true → nat_lt i (length s.locals) ≡ true
  count_is {W = W} {s = s} g i h = subst (λ n. nat_lt i n ≡ true) (sym (held_count m.classes.classes W vars s.locals g.locals)) h

  global_count : {W : World utf8} {s : State} → Good m vars W s → (i : ℕ) → nat_lt i (length m.globals) ≡ true → nat_lt i (length s.globals) ≡ true
  global_count {W = W} {s = s} g i h = subst (λ n. nat_lt i n ≡ true) (sym (held_count m.classes.classes W m.globals s.globals g.globals)) h

  one_in : (i : ℕ) → is_in (i ∷ []) i ≡ true
  one_in i = by (i == i) (eq-eqb i i refl)
    where
      by : (b : Bool) → b ≡ true → (b || false) ≡ true
      by true e = refl
      by false e = absurd (cc)

  -- what is known behind a target that is no local
  pub after_other : (known : List ℕ) (b : Bool) (s u : State) → Keeps [] s u → NotNone known s.locals → NotNone (if b then without [] known else known) u.locals
  after_other known true s u k h = all_known (without [] known) s u k (fewer_known known (without [] known) s.locals (λ i p. (in_without [] known i p).0) h)
  after_other known false s u k h = all_known known s u k h

  set_same : {A : Type 0} (xs : List A) (i : ℕ) (a : A) → nat_lt i (length xs) ≡ true → slice_get (slice_set xs i a) i ≡ Some a
  set_same [] i a h = absurd (grind (arith, nat_tests, h))
  set_same (x ∷ xs) zero a h = refl
  set_same (x ∷ xs) (suc i) a h = set_same xs i a (grind (arith, nat_tests, h))

  some_some : (a b : Value) → Some (Some a) ≡ Some (Some b) → a ≡ b
  some_some a b e = cc

  -- and behind one that is
  after_local : (i : ℕ) (known : List ℕ) (b : Bool) (s u : State) (v : Value) → nat_lt i (length s.locals) ≡ true → u.locals ≡ slice_set s.locals i (Some v) → (b ≡ false → v ≡ NoneVal → ⊥) → NotNone known s.locals → NotNone (if b then without (i ∷ []) known else i ∷ known) u.locals
  after_local i known true s u v less e n h j p q =
      let r = in_without (i ∷ []) known j p in
      h j r.0 (sym (set_other s.locals i j (Some v) (differ (i == j) refl r.1)) ∙ ap (λ z. slice_get z j) (sym e) ∙ q)
    where
      differ : (b : Bool) → (i == j) ≡ b → (b || false) ≡ false → i ≢ j
      differ true p f d = cc
      differ false p f d = cc (sym p ∙ eq-eqb i j d)
  after_local i known false s u v less e n h j p q = by (i == j) refl p
    where
      by : (b : Bool) → (i == j) ≡ b → (b || is_in known j) ≡ true → ⊥
      by true d f = n refl (some_some v NoneVal (sym (set_same s.locals i (Some v) less) ∙ ap (λ z. slice_get z i) (sym e) ∙ ap (slice_get u.locals) (same_number i j d) ∙ q))
      by false d f = h j f (sym (set_other s.locals i j (Some v) (λ k. cc (sym d ∙ eq-eqb i j k))) ∙ ap (λ z. slice_get z j) (sym e) ∙ q)

  -- ---- one target

  pub attribute_type : (a : Sort) (name : List ℕ) → is_nothing (attribute_sort m.classes.classes a name) ≡ false → (d : ℕ) × (t : Sort) × (a ≡ sort.Instance d) × (attribute_of m.classes.classes d name ≡ Some t) × (attribute_sort m.classes.classes a name ≡ t)
  attribute_type (sort.Instance d) name h = by (attribute_of m.classes.classes d name) refl h
    where
      by : (o : Option Sort) → attribute_of m.classes.classes d name ≡ o → is_nothing (sort_or_nothing o) ≡ false → (e : ℕ) × (t : Sort) × (sort.Instance d ≡ sort.Instance e) × (attribute_of m.classes.classes e name ≡ Some t) × (sort_or_nothing (attribute_of m.classes.classes d name) ≡ t)
      by None q h = absurd (cc)
      by (Some t) q h = (d, t, refl, q, ap sort_or_nothing q)
  attribute_type _ name h = absurd (cc)

  pub no_nothing : (b : Bool) → not b ≡ true → b ≡ false
  no_nothing true e = absurd (cc)
  no_nothing false e = refl

  pub fine_set_attribute : {W : World utf8} {s : State} (g : Good m vars W s) (d : ℕ) (name : List ℕ) (t : Sort) (o v : Value) → attribute_of m.classes.classes d name ≡ Some t → Has m.classes.classes (sort.Instance d) W o → Has m.classes.classes t W v
      → Fine m vars (Unit {0}) [] W s (λ V u a. Unit {0}) (set_attribute m.classes.classes name o v) (set_attribute m.classes.classes name o v)
  fine_set_attribute {W = W} g d name t o v e h k =
      fine_instance m vars [] g d o _ _ h (λ j b vs q r under all.
      let A : AttributeOf m b name t = sound.attribute_there b d name t under e in
      fine_bind m vars (fine_sure m vars {P = λ V u i. (i ≡ A.place)} g (place_in name (attributes m.classes.classes b)) A.place A.placed refl) (λ V u st i p.
      let x : _ = held m.classes.classes W (attributes m.classes.classes b) vs A.place A.entry all A.there in
      let less : nat_lt i (length vs) ≡ true = subst (λ n. nat_lt n (length vs) ≡ true) (sym p) (within vs A.place x.0 x.1) in
      let all' : _ = hold_still m.classes.classes W V st.grows (attributes m.classes.classes b) vs all in
      fine_needs m vars (nat_lt i (length vs)) less
      (fine_put m vars st.good j (sort.Instance b) (InstObj b _) (st.grows.each j _ q)
      (refl, held_set m.classes.classes V (attributes m.classes.classes b) vs i A.entry (Some v) all' (ap (slice_get (attributes m.classes.classes b)) p ∙ A.there) (subst (λ z. Has m.classes.classes z V v) (sym A.type) (has_still m.classes.classes W V st.grows t v k))))))
    where
      within : (vs : List (Option Value)) (i : ℕ) (x : Option Value) → slice_get vs i ≡ Some x → nat_lt i (length vs) ≡ true
      within vs i x e = let l = slice_get_within vs i x e in grind (arith, nat_tests, l)

  pub assignable : (a i : Sort) → typing.is_assignable m vars init result a i ≡ true → (is_same_type a sort.Str ≡ false) × ((t : Sort) × (indexed a i ≡ Some t))
  assignable sort.Str i e = absurd (cc)
  assignable (sort.ListOf t) i e = (refl, is_there_some m vars init result (indexed (sort.ListOf t) i) e)
  assignable (sort.DictOf j t) i e = (refl, is_there_some m vars init result (indexed (sort.DictOf j t) i) e)
  assignable _ i e = absurd (cc)

  -- a value of the target's type is brought to it
  pub fine_assign : (t : TypedTarget) (a : Sort) (v : Value) (known : List ℕ) → typing.target_typed m vars init result known t ≡ true → (W : World utf8) (s : State) → Good m vars W s → NotNone known s.locals → Has m.classes.classes (type_at t) W v → (may_be_none a ≡ false → v ≡ NoneVal → ⊥)
      → Fine m vars (Unit {0}) (bound_by t) W s (λ V u x. NotNone (after_target known t a) u.locals) (watched.assign watch m.classes.classes c' m.globals vars t v) (official.assign m.classes.classes c m.globals vars t v)
  fine_assign (LocalTarget i) a v known p W s g k h n =
      let x : _ = var_at vars i p in
      fine_seen m vars (i ∷ []) g (λ z. nat_lt i (length z.locals)) (λ x. needs x (put_local i (Some v))) (λ x. needs x (put_local i (Some v))) true (count_is g i p)
      (fine_map m vars (fine_put_local m vars g i x.0 (Some v) (one_in i) x.1 (subst (λ z. Has m.classes.classes z W v) x.2 h)) (λ V u st y e. after_local i known (may_be_none a) s u v (count_is g i p) e n k))
  fine_assign (GlobalTarget i) a v known p W s g k h n =
      let x : _ = var_at m.globals i p in
      fine_seen m vars [] g (λ z. nat_lt i (length z.globals)) (λ x. needs x (put_global i (Some v))) (λ x. needs x (put_global i (Some v))) true (global_count g i p)
      (fine_map m vars (fine_put_global m vars g i x.0 (Some v) x.1 (subst (λ z. Has m.classes.classes z W v) x.2 h)) (λ V u st y e. after_other known (may_be_none a) s u st.keeps k))
  fine_assign (AttrTarget e name) a v known p W s g k h n =
      let y = two (is_value m vars init known e) (not (is_nothing (attribute_sort m.classes.classes (type_of e) name))) p in
      let x : _ = attribute_type (type_of e) name (no_nothing (is_nothing (attribute_sort m.classes.classes (type_of e) name)) y.1) in
      fine_bind m vars (value e known y.0 W s g k) (λ V u st o q.
      fine_map m vars (fine_set_attribute st.good x.0 name x.1 o v x.3 (subst (λ z. Has m.classes.classes z V o) x.2 (is_got m e V u o q)) (has_still m.classes.classes W V st.grows x.1 v (subst (λ z. Has m.classes.classes z W v) x.4 h)))
      (λ X z st' w l. after_other known (may_be_none a) u z st'.keeps (all_known known s u st.keeps k)))
  fine_assign (ItemTarget e i) a v known p W s g k h n =
      let y = three (is_value m vars init known e) (is_value m vars init known i) (typing.is_assignable m vars init result (type_of e) (type_of i)) p in
      let x : _ = assignable (type_of e) (type_of i) y.2 in
      fine_bind m vars (value e known y.0 W s g k) (λ V u st o q.
      fine_bind m vars (value i known y.1 V u st.good (all_known known s u st.keeps k)) (λ X z st' j q'.
      fine_map m vars (fine_set m vars [] st'.good (type_of e) (type_of i) x.1.0 o j v x.0 x.1.1 (has_still m.classes.classes V X st'.grows (type_of e) o (is_got m e V u o q)) (is_got m i X z j q') (has_still m.classes.classes V X st'.grows (item_sort (type_of e)) v (has_still m.classes.classes W V st.grows (item_sort (type_of e)) v h)))
      (λ Y r st'' w l. after_other known (may_be_none a) z r st''.keeps (all_known known u z st'.keeps (all_known known s u st.keeps k)))))

  -- ---- several targets

  -- values of the targets' types, that are not None where their parts' types say so
  abbrev TargetsHave : List TypedTarget → List Sort → World utf8 → List Value → Type 0
  TargetsHave [] [] W [] = Unit {0}
  TargetsHave (t ∷ ts) (a ∷ ss) W (v ∷ vs) = Has m.classes.classes (type_at t) W v × (may_be_none a ≡ false → v ≡ NoneVal → ⊥) × TargetsHave ts ss W vs
  TargetsHave _ _ W _ = ⊥

  targets_still : (V W : World utf8) → Grows V W → (ts : List TypedTarget) (ss : List Sort) (vs : List Value) → TargetsHave ts ss V vs → TargetsHave ts ss W vs
  targets_still V W gr [] [] [] h = h
  targets_still V W gr (t ∷ ts) (a ∷ ss) (v ∷ vs) h = (has_still m.classes.classes V W gr (type_at t) v h.0, h.1, targets_still V W gr ts ss vs h.2)
  targets_still V W gr [] [] (v ∷ vs) h = absurd h
  targets_still V W gr [] (a ∷ ss) vs h = absurd h
  targets_still V W gr (t ∷ ts) [] vs h = absurd h
  targets_still V W gr (t ∷ ts) (a ∷ ss) [] h = absurd h

  fine_coerce_each : (ts : List TypedTarget) (ss : List Sort) (vs : List Value) → typing.parts_fit m vars init result ts ss ≡ true → (W : World utf8) (s : State) → Good m vars W s → HaveAll m.classes.classes (sorts_of ss) W vs
      → Fine m vars (List Value) [] W s (λ V u ws. TargetsHave ts ss V ws) (official.coerce_each m.classes.classes c' m.globals vars ts vs) (official.coerce_each m.classes.classes c m.globals vars ts vs)
  fine_coerce_each [] [] [] p W s g h = fine_give m vars g [] tt
  fine_coerce_each [] [] (v ∷ vs) p W s g h = absurd h
  fine_coerce_each [] (a ∷ ss) vs p W s g h = absurd (cc)
  fine_coerce_each (t ∷ ts) [] vs p W s g h = absurd (cc)
  fine_coerce_each (t ∷ ts) (a ∷ ss) [] p W s g h = absurd h
  fine_coerce_each (t ∷ ts) (a ∷ ss) (v ∷ vs) p W s g h =
      let y = two (fits m.classes.classes a (type_at t)) (typing.parts_fit m vars init result ts ss) p in
      fine_bind m vars (fine_coerced_to t a v y.0 W s g h.0) (λ V u st w q.
      fine_bind m vars (fine_coerce_each ts ss vs y.1 V u st.good (have_still m.classes.classes W V st.grows (sorts_of ss) vs h.1)) (λ X z st' ws q'.
      fine_give m vars st'.good (w ∷ ws) (has_still m.classes.classes V X st'.grows (type_at t) w q.0, (λ no e. not_none m a W v no h.0 (q.1 e)), q')))
    where
      fine_coerced_to : (t : TypedTarget) (a : Sort) (v : Value) → fits m.classes.classes a (type_at t) ≡ true → (W : World utf8) (s : State) → Good m vars W s → Has m.classes.classes a W v
          → Fine m vars Value [] W s (λ V u w. Has m.classes.classes (type_at t) V w × (w ≡ NoneVal → v ≡ NoneVal)) (coerced (official.target_sort m.classes.classes c' m.globals vars t) v) (coerced (official.target_sort m.classes.classes c m.globals vars t) v)
      fine_coerced_to t a v f W s g h =
          subst (λ x. Fine m vars Value [] W s (λ V u w. Has m.classes.classes (type_at t) V w × (w ≡ NoneVal → v ≡ NoneVal)) (coerced x v) (coerced (official.target_sort m.classes.classes c m.globals vars t) v)) (sym (same_target c' t))
          (subst (λ x. Fine m vars Value [] W s (λ V u w. Has m.classes.classes (type_at t) V w × (w ≡ NoneVal → v ≡ NoneVal)) (coerced (type_at t) v) (coerced x v)) (sym (same_target c t))
          (fine_map m vars (fine_coerced m sound.tree vars [] g a (type_at t) v f h) (λ V u st w q. (q.0, q.3))))

  -- each value to its target
  fine_assign_each : (ts : List TypedTarget) (ss : List Sort) (vs : List Value) (known : List ℕ) → typing.targets_typed m vars init result known ts ss ≡ true → (W : World utf8) (s : State) → Good m vars W s → NotNone known s.locals → TargetsHave ts ss W vs
      → Fine m vars (Unit {0}) (bound_by_all ts) W s (λ V u x. NotNone (after_parts known ts ss) u.locals) (watched.assign_each watch m.classes.classes c' m.globals vars ts vs) (official.assign_each m.classes.classes c m.globals vars ts vs)
  fine_assign_each [] [] [] known p W s g k h = fine_give m vars g tt (fewer_known known (without [] known) s.locals (λ i q. (in_without [] known i q).0) k)
  fine_assign_each [] [] (v ∷ vs) known p W s g k h = absurd h
  fine_assign_each [] (a ∷ ss) vs known p W s g k h = absurd h
  fine_assign_each (t ∷ ts) [] vs known p W s g k h = absurd h
  fine_assign_each (t ∷ ts) (a ∷ ss) [] known p W s g k h = absurd h
  fine_assign_each (t ∷ ts) (a ∷ ss) (v ∷ vs) known p W s g k h =
      let y = two (typing.target_typed m vars init result known t) (typing.targets_typed m vars init result (after_target known t a) ts ss) p in
      fine_bind m vars (fine_more m vars (λ i q. out_left (bound_by t) (bound_by_all ts) i q) (fine_assign t a v known y.0 W s g k h.0 h.1)) (λ V u st x q.
      fine_more m vars (λ i q. out_right (bound_by t) (bound_by_all ts) i q) (fine_assign_each ts ss vs (after_target known t a) y.1 V u st.good q (targets_still W V st.grows ts ss vs h.2)))

  tuple_of : (t : TypedTarget) (ts : List TypedTarget) (a : Sort) → typing.parts_fit m vars init result (t ∷ ts) (part_sorts a) ≡ true → (ss : Sorts) × (a ≡ sort.TupleOf ss)
  tuple_of t ts (sort.TupleOf ss) e = (ss, refl)
  tuple_of t ts _ e = absurd (cc)

  -- the parts of a tuple
  fine_unpack : (t : TypedTarget) (ts : List TypedTarget) (a : Sort) (v : Value) (known : List ℕ) → typing.targets_typed m vars init result known (t ∷ ts) (part_sorts a) ≡ true → typing.parts_fit m vars init result (t ∷ ts) (part_sorts a) ≡ true → (W : World utf8) (s : State) → Good m vars W s → NotNone known s.locals → Has m.classes.classes a W v
      → Fine m vars (Unit {0}) (bound_by_all (t ∷ ts)) W s (λ V u x. NotNone (after_parts known (t ∷ ts) (part_sorts a)) u.locals) (watched.unpack watch m.classes.classes c' m.globals vars (t ∷ ts) v) (official.unpack m.classes.classes c m.globals vars (t ∷ ts) v)
  fine_unpack t ts a v known p f W s g k h = by (tuple_of t ts a f)
    where
      parts : (ss : Sorts) → a ≡ sort.TupleOf ss → (x : (vs : _) × (v ≡ TupleVal vs) × HaveAll m.classes.classes ss W (listed vs))
          → Fine m vars (Unit {0}) (bound_by_all (t ∷ ts)) W s (λ V u y. NotNone (after_parts known (t ∷ ts) (part_sorts a)) u.locals) (watched.unpack watch m.classes.classes c' m.globals vars (t ∷ ts) (TupleVal x.0)) (official.unpack m.classes.classes c m.globals vars (t ∷ ts) (TupleVal x.0))
      parts ss e x =
          let same : sorts_of (part_sorts a) ≡ ss = ap (λ z. sorts_of (part_sorts z)) e ∙ sorts_listed ss in
          fine_bind m vars (fine_kept m vars (bound_by_all (t ∷ ts)) (fine_coerce_each (t ∷ ts) (part_sorts a) (listed x.0) f W s g (subst (λ z. HaveAll m.classes.classes z W (listed x.0)) (sym same) x.2))) (λ V u st ws q.
          fine_assign_each (t ∷ ts) (part_sorts a) ws known p V u st.good (all_known known s u q.0.keeps k) q.1)

      by : (ss : Sorts) × (a ≡ sort.TupleOf ss) → Fine m vars (Unit {0}) (bound_by_all (t ∷ ts)) W s (λ V u y. NotNone (after_parts known (t ∷ ts) (part_sorts a)) u.locals) (watched.unpack watch m.classes.classes c' m.globals vars (t ∷ ts) v) (official.unpack m.classes.classes c m.globals vars (t ∷ ts) v)
      by q =
          let x : (vs : _) × (v ≡ TupleVal vs) × HaveAll m.classes.classes q.0 W (listed vs) = subst (λ z. Has m.classes.classes z W v) q.1 h in
          subst (λ z. Fine m vars (Unit {0}) (bound_by_all (t ∷ ts)) W s (λ V u y. NotNone (after_parts known (t ∷ ts) (part_sorts a)) u.locals) (watched.unpack watch m.classes.classes c' m.globals vars (t ∷ ts) z) (official.unpack m.classes.classes c m.globals vars (t ∷ ts) z)) (sym x.1)
          (parts q.0 q.1 x)

  first_typed : (known : List ℕ) (t : TypedTarget) (ss : List Sort) → typing.targets_typed m vars init result known (t ∷ []) ss ≡ true → typing.target_typed m vars init result known t ≡ true
  first_typed known t [] p = (two (typing.target_typed m vars init result known t) true p).0
  first_typed known t (a ∷ ss) p = (two (typing.target_typed m vars init result known t) _ p).0

  -- what is known behind a binding
  abbrev pub bound_known : List ℕ → List TypedTarget → Sort → Sort → List ℕ
  bound_known known ts a own = if typing.is_single m vars init result ts a then after_parts known ts (own ∷ []) else after_parts known ts (part_sorts a)

  abbrev Binds : List TypedTarget → List ℕ → World utf8 → State → Does (Unit {0}) → Does (Unit {0}) → Type 0
  Binds ts names W s d e = Fine m vars (Unit {0}) (bound_by_all ts) W s (λ V u x. NotNone names u.locals) d e

  -- one target takes the value, or each its part; `own` is the type before a coercion
  pub fine_targets : (ts : List TypedTarget) (a own : Sort) (v : Value) (known : List ℕ) → typing.is_filled m vars init result ts ≡ true → typing.targets_typed m vars init result known ts (part_sorts a) ≡ true → typing.binding_fits m vars init result ts a ≡ true → (W : World utf8) (s : State) → Good m vars W s → NotNone known s.locals → Has m.classes.classes a W v → (may_be_none own ≡ false → v ≡ NoneVal → ⊥)
      → Fine m vars (Unit {0}) (bound_by_all ts) W s (λ V u x. NotNone (bound_known known ts a own) u.locals) (watched.bind watch m.classes.classes c' m.globals vars ts a v) (official.bind m.classes.classes c m.globals vars ts a v)
  fine_targets [] a own v known f p b W s g k h n = absurd (cc)
  fine_targets (t ∷ t' ∷ ts) a own v known f p b W s g k h n = fine_unpack t (t' ∷ ts) a v known p b W s g k h
  fine_targets (t ∷ []) a own v known f p b W s g k h n =
      subst (λ x. Binds (t ∷ []) (bound_known known (t ∷ []) a own) W s (if fits m.classes.classes a x then coerced x v >>= watched.assign watch m.classes.classes c' m.globals vars t else watched.unpack watch m.classes.classes c' m.globals vars (t ∷ []) v) (if fits m.classes.classes a (official.target_sort m.classes.classes c m.globals vars t) then coerced (official.target_sort m.classes.classes c m.globals vars t) v >>= official.assign m.classes.classes c m.globals vars t else official.unpack m.classes.classes c m.globals vars (t ∷ []) v)) (sym (same_target c' t))
      (subst (λ x. Binds (t ∷ []) (bound_known known (t ∷ []) a own) W s (if fits m.classes.classes a (type_at t) then coerced (type_at t) v >>= watched.assign watch m.classes.classes c' m.globals vars t else watched.unpack watch m.classes.classes c' m.globals vars (t ∷ []) v) (if fits m.classes.classes a x then coerced x v >>= official.assign m.classes.classes c m.globals vars t else official.unpack m.classes.classes c m.globals vars (t ∷ []) v)) (sym (same_target c t))
      (by (fits m.classes.classes a (type_at t)) refl b))
    where
      by : (x : Bool) → fits m.classes.classes a (type_at t) ≡ x → (x || typing.parts_fit m vars init result (t ∷ []) (part_sorts a)) ≡ true
          → Fine m vars (Unit {0}) (bound_by_all (t ∷ [])) W s (λ V u y. NotNone (if x then after_parts known (t ∷ []) (own ∷ []) else after_parts known (t ∷ []) (part_sorts a)) u.locals) (if x then coerced (type_at t) v >>= watched.assign watch m.classes.classes c' m.globals vars t else watched.unpack watch m.classes.classes c' m.globals vars (t ∷ []) v) (if x then coerced (type_at t) v >>= official.assign m.classes.classes c m.globals vars t else official.unpack m.classes.classes c m.globals vars (t ∷ []) v)
      by true e b =
          fine_bind m vars (fine_kept m vars (bound_by_all (t ∷ [])) (fine_coerced m sound.tree vars [] g a (type_at t) v e h)) (λ V u st w q.
          fine_map m vars (fine_more m vars (λ i j. out_left (bound_by t) [] i j) (fine_assign t own w known (first_typed known t (part_sorts a) p) V u st.good (all_known known s u q.0.keeps k) q.1.0 (λ no e. n no (q.1.3 e))))
          (λ X z st' x l. fewer_known (after_target known t own) (without [] (after_target known t own)) z.locals (λ i j. (in_without [] (after_target known t own) i j).0) l))
      by false e b = fine_unpack t [] a v known p b W s g k h
