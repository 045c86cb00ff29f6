-- Calls, and the module's own statements, are fine.
-- The letters are those of `Fine`.
use Rattle.std.proofs.Common.{◌≡◌, ℕ, zero, suc, ◌-◌, ◌≤◌, Bool, true, false, ◌||◌, ◌==◌, List, [], ◌∷◌, ◌++◌, length, map, take, replicate, Option, Some, None, refl, sym, ap, subst, ◌∙◌, if◌then◌else◌, slice_get, arith, codes}
use Rattle.std.specs.Str.{bytes_eq}
use Rattle.std.proofs.lemmas.Bool.{eq-eqb}
use Rattle.value_core.specs.Items.{Items}
use Rattle.value_core.specs.Value.{Value, NoneVal}
use Rattle.py_typed.specs.Sorts.{Instance, sorts_of}
use Rattle.py_typed.specs.Fits.{is_nothing}
use Rattle.py_typed.specs.Narrowing.{bound_suite, breaks_suite, is_closed, after_suite}
use Rattle.py_typed.specs.Statements.{Variable, TypedFunc, TypedModule}
use Rattle.source_meaning.specs.State.{State, Gives, Calls, on_to, ◌>>=◌, ◌>>◌, Stuck, stop}
use Rattle.source_meaning.specs.SourceRun as official
use Rattle.source_meaning.specs.SourceRun.{start}
use Rattle.source_meaning.specs.StatementMeaning as meaning
use Rattle.source_meaning.specs.WaysOut.{Flow, Goes, Breaks, Continues, Returns, answer, inside}
use Rattle.py_typed.specs.WellTyped.{suite_typed, is_single}
use Rattle.py_typed.specs.WellTypedExpr.{init_class}
use Rattle.py_typed.specs.WellTypedModule.{types_in, has_self, ends_well}
use Rattle.py_typed.proofs.FitLemmas.{one_type, nothing_is}
use Rattle.source_soundness.specs.Watched as watched
use Rattle.source_soundness.specs.Watched.{Watch, watch_each}
use Rattle.source_soundness.proofs.Worlds.{World, Has, HaveAll, HoldAll, all_unset, have_still}
use Rattle.source_soundness.proofs.Fine.{TextsAre, Good, Fine, Passes, fine_bind, fine_post, stopped, fine_give, fine_spend, fine_inside}
use Rattle.source_soundness.proofs.Names.{none_known}
use Rattle.source_soundness.proofs.Facts.{Facts, CallsFine, parameters}
use Rattle.source_soundness.proofs.Flows.{FlowIs}
use Rattle.source_soundness.proofs.Statements.{fine_suite}

-- what each function of a well-typed module is
pub record IsTyped (m : TypedModule) (F : TypedFunc) : Type 0 where
  pub count : F.params ≤ length F.locals
  pub self : has_self F.class (parameters F) ≡ true
  pub ends : ends_well F ≡ true
  pub body : suite_typed m F.locals (init_class F) (Some F.ret) [] false false F.body ≡ true

-- the first local of an `__init__` is its object
first_is : (xs : List Variable) (k d : ℕ) → has_self (Some d) (types_in (take k xs)) ≡ true → (x : Variable) × (slice_get xs 0 ≡ Some x) × (x.1 ≡ Instance d)
first_is [] zero d h = absurd (cc)
first_is [] (suc k) d h = absurd (cc)
first_is (x ∷ xs) zero d h = absurd (cc)
first_is (x ∷ xs) (suc k) d h = (x, refl, one_type x.1 (Instance d) h)

init_self : (F : TypedFunc) → has_self F.class (parameters F) ≡ true → (d : ℕ) → init_class F ≡ Some d → (x : Variable) × (slice_get F.locals 0 ≡ Some x) × (x.1 ≡ Instance d)
init_self F h d e = by (bytes_eq F.name (codes "__init__")) e
  where
    by : (b : Bool) → (if b then F.class else None) ≡ Some d → (x : Variable) × (slice_get F.locals 0 ≡ Some x) × (x.1 ≡ Instance d)
    by true q = first_is F.locals F.params d (subst (λ o. has_self o (parameters F) ≡ true) q h)
    by false q = absurd (cc)

module _ {utf8 : Bool} (m : TypedModule) where
  count_args : (W : World utf8) (k : ℕ) (xs : List Variable) (args : List Value) → k ≤ length xs → HaveAll m.classes.classes (sorts_of (types_in (take k xs))) W args → length args ≡ k
  count_args W zero xs [] l h = refl
  count_args W zero xs (v ∷ vs) l h = absurd h
  count_args W (suc k) [] args l h = absurd (omega (arith, l))
  count_args W (suc k) (x ∷ xs) [] l h = absurd h
  count_args W (suc k) (x ∷ xs) (v ∷ vs) l h = ap suc (count_args W k xs vs (omega (arith, l)) h.1)

  -- the locals of a call
  args_held : (W : World utf8) (k : ℕ) (xs : List Variable) (args : List Value) → HaveAll m.classes.classes (sorts_of (types_in (take k xs))) W args → HoldAll m.classes.classes xs W (map Some args ++ replicate (length xs - length args) None)
  args_held W zero xs [] h = let e : length xs - 0 ≡ length xs = omega arith in subst (λ n. HoldAll m.classes.classes xs W (replicate n None)) (sym e) (all_unset m.classes.classes W xs)
  args_held W zero xs (v ∷ vs) h = absurd h
  args_held W (suc k) [] [] h = tt
  args_held W (suc k) [] (v ∷ vs) h = absurd h
  args_held W (suc k) (x ∷ xs) [] h = absurd h
  args_held W (suc k) (x ∷ xs) (v ∷ vs) h = let e : suc (length xs) - suc (length vs) ≡ length xs - length vs = omega arith in subst (λ n. HoldAll m.classes.classes (x ∷ xs) W (Some v ∷ (map Some vs ++ replicate n None))) (sym e) (h.0, args_held W k xs vs h.1)

  module _ (sound : Facts m) (watch : Watch) (passes : (vars : List Variable) → Passes utf8 m vars watch) (typed : (f : ℕ) (F : TypedFunc) → slice_get m.funcs f ≡ Some F → IsTyped m F) where
    args_pass : (vars : List Variable) (W : World utf8) (s : State) → Good m vars W s → (k : ℕ) (xs : List Variable) (args : List Value) → HaveAll m.classes.classes (sorts_of (types_in (take k xs))) W args → watch_each watch xs args s ≡ Gives tt s
    args_pass vars W s g k [] args h = refl
    args_pass vars W s g k (x ∷ xs) [] h = refl
    args_pass vars W s g zero (x ∷ xs) (v ∷ vs) h = absurd h
    args_pass vars W s g (suc k) (x ∷ xs) (v ∷ vs) h = ap (λ o. on_to o (λ _. watch_each watch xs vs)) (passes vars W s g x.1 v h.0) ∙ args_pass vars W s g k xs vs h.1

    -- how a body ends, as a call's result
    answered : (F : TypedFunc) → IsTyped m F → (vars : List Variable) {W : World utf8} {s : State} → Good m vars W s → (f : Flow) → FlowIs m (Some F.ret) false (breaks_suite F.body) (is_closed F.body) (after_suite (is_single m F.locals (init_class F) (Some F.ret)) [] F.body) W s f
        → Fine m vars Value (bound_suite F.body) W s (λ V u v. Has m.classes.classes F.ret V v) (answer NoneVal f) (answer NoneVal f)
    answered F T vars {W = W} g Goes p = fine_give m vars g NoneVal (subst (λ t. Has m.classes.classes t W NoneVal) (sym (nothing_is m.classes.classes F.ret (nothing (is_nothing F.ret) (is_closed F.body) T.ends p.0))) refl)
      where
        nothing : (a b : Bool) → (a || b) ≡ true → b ≡ false → a ≡ true
        nothing true b e f = refl
        nothing false b e f = absurd (cc)
    answered F T vars g Breaks p = absurd (cc p.0)
    answered F T vars g Continues p = absurd (cc p)
    answered F T vars g (Returns v) p = fine_give m vars g v p

    fine_enter : (n : ℕ) {c' c : Calls} → CallsFine m utf8 c' c → (f : ℕ) (F : TypedFunc) → slice_get m.funcs f ≡ Some F → IsTyped m F → (vars : List Variable) (W : World utf8) (s : State) → Good m vars W s → (args : List Value) → HaveAll m.classes.classes (sorts_of (parameters F)) W args
        → Fine m vars Value [] W s (λ V u v. Has m.classes.classes F.ret V v) (watched.enter watch m c' n (Some F) args) (official.enter m c n (Some F) args)
    fine_enter n {c' = c'} {c = c} calls f F there T vars W s g args h = counted (length args == F.params) (same_count (count_args W F.params F.locals args T.count h))
      where
        same_count : length args ≡ F.params → (length args == F.params) ≡ true
        same_count e = eq-eqb (length args) F.params e

        held : List (Option Value)
        held = map Some args ++ replicate (length F.locals - length args) None

        inner_texts : utf8 ≡ true → TextsAre m F.locals s.output s.items
        inner_texts q = let t : TextsAre m vars s.output s.items = g.texts q in record { output = t.output; items = t.items; names = t.names; locals = t.names.locals f F there }

        inner : Fine m vars Value [] W s (λ V u v. Has m.classes.classes F.ret V v)
            (inside (map Some args ++ replicate (length F.locals - length args) None) (watched.suite watch m.classes.classes c' m.globals F.locals n F.body >>= answer NoneVal))
            (inside (map Some args ++ replicate (length F.locals - length args) None) (meaning.suite m.classes.classes c m.globals F.locals n F.body >>= answer NoneVal))
        inner =
            fine_inside m vars F.locals (map Some args ++ replicate (length F.locals - length args) None) g
            (fine_bind m F.locals
            (fine_suite m sound watch calls F.locals (passes F.locals) (init_class F) (init_self F T.self) (Some F.ret) n F.body [] false false T.body W (record s { locals = map Some args ++ replicate (length F.locals - length args) None; handled = [] })
            (record { store = g.store; globals = g.globals; locals = args_held W F.params F.locals args h; handled = tt; texts = inner_texts }) (none_known _) (λ q. absurd (cc q)))
            (λ V u st f p. answered F T F.locals st.good f p))

        counted : (b : Bool) → b ≡ true → Fine m vars Value [] W s (λ V u v. Has m.classes.classes F.ret V v)
            (if b then watch_each watch F.locals args >> inside (map Some args ++ replicate (length F.locals - length args) None) (watched.suite watch m.classes.classes c' m.globals F.locals n F.body >>= answer NoneVal) else stop Stuck)
            (if b then inside (map Some args ++ replicate (length F.locals - length args) None) (meaning.suite m.classes.classes c m.globals F.locals n F.body >>= answer NoneVal) else stop Stuck)
        counted true e = record { same = ap (λ o. on_to o (λ _. inside (map Some args ++ replicate (length F.locals - length args) None) (watched.suite watch m.classes.classes c' m.globals F.locals n F.body >>= answer NoneVal))) (args_pass vars W s g F.params F.locals args h) ∙ inner.same; post = inner.post }
        counted false e = absurd (cc)

    pub fine_calls : (n : ℕ) → CallsFine m utf8 (watched.call_of watch m n) (official.call_of m n)
    fine_calls zero vars W s g f F there args h = fine_bind m vars (fine_spend m vars [] g) (λ V u st w k. fine_post m vars (stopped m vars st.good))
    fine_calls (suc n) vars W s g f F there args h =
        fine_bind m vars (fine_spend m vars [] g) (λ V u st w k.
        subst (λ o. Fine m vars Value [] V u (λ X z v. Has m.classes.classes F.ret X v) (watched.enter watch m (watched.call_of watch m n) n o args) (official.enter m (official.call_of m n) n o args)) (sym there)
        (fine_enter n (fine_calls n) f F there (typed f F there) vars V u st.good args (have_still m.classes.classes W V st.grows (sorts_of (parameters F)) args h)))

    -- no object is made yet
    abbrev pub at_start : World utf8
    at_start = record { types = [] }

    pub fine_top : (n : ℕ) (items : Items) → (utf8 ≡ true → TextsAre m [] [] items) → suite_typed m [] None None [] false false m.top ≡ true
        → Fine m [] Flow (bound_suite m.top) at_start (start m n items) (FlowIs m None false (breaks_suite m.top) (is_closed m.top) (after_suite (is_single m [] None None) [] m.top)) (watched.top_of watch m n) (official.top_of m n)
    fine_top n items t h =
        fine_suite m sound watch (fine_calls n) [] (passes []) None (λ d q. absurd (cc)) None n m.top [] false false h at_start (start m n items)
        (record { store = tt; globals = all_unset m.classes.classes at_start m.globals; locals = tt; handled = tt; texts = t }) (none_known []) (λ q. absurd (cc q))
