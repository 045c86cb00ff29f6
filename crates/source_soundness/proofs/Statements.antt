-- Each well-typed statement is fine.
-- The letters are those of `Fine`.
use Rattle.std.proofs.Common.{codes, ◌≡◌, ℕ, suc, ◌<◌, ◌^◌, ◌-◌, ℤ, pos, map, Bool, true, false, not, ◌&&◌, ◌||◌, ◌==◌, List, [], ◌∷◌, ◌++◌, length, Option, Some, None, refl, sym, ap, subst, ◌∙◌, ◌⊎◌, inl, inr, if◌then◌else◌, nat_lt, slice_get, arith}
use Rattle.std.proofs.lemmas.Bool.Decides.{nat_tests}
use Rattle.std.specs.List.{list_all}
use Rattle.std.specs.Prelude.{negsuc, int_lt, ◌≤ℤ◌, ◌<ℤ◌, ◌+ℤ◌}
use Rattle.std.proofs.lemmas.Int.{ints}
use Rattle.value_core.specs.Arithmetic.{lies_within}
use Rattle.value_core.specs.declared.exception.ExcClass.{ExcClass}
use Rattle.value_core.specs.declared.exception.ExcClass.TheVariants.{Exception, ArithmeticError, ZeroDivisionError, OverflowError, LookupError, IndexError, KeyError, NameError, UnboundLocalError, ValueError, TypeError, AttributeError, AssertionError, RuntimeError, EOFError}
use Rattle.value_core.specs.Exceptions.{is_under}
use Rattle.value_core.specs.Value.{Value, NoneVal, ExcVal, ObjVal, IntVal, ListObj, DictObj}
use Rattle.py_typed.specs.Sorts as sort
use Rattle.py_typed.specs.Sorts.{Sort}
use Rattle.py_typed.specs.Fits.{is_same_type, fits}
use Rattle.py_typed.specs.Expressions.{TypedExpr, typed, Flag, Nothing, type_of}
use Rattle.py_typed.specs.Statements.{Variable, TypedTarget, LocalTarget, GlobalTarget, AttrTarget, ItemTarget, TypedStmt, on_line, TypedAct, Do, Assign, Aug, Del, If, While, ForRange, ForList, ForDict, Try, Raise, Return, Break, Continue, Assert, Pass, TypedSuite, no_stmts, stmt_then, Arms, no_arms, arm_then, Handlers, no_handlers, handler_then, MaybeSuite, no_suite, some_suite, TypedModule}
use Rattle.py_typed.specs.TargetTypes.{item_sort, key_sort}
use Rattle.source_meaning.specs.WaysOut.{Flow, Goes, Breaks, Continues, Returns, raise_again, raise_value, catches, loop}
use Rattle.source_meaning.specs.State.{State, Gives, ◌>>◌, Does, Calls, ◌>>=◌, give}
use Rattle.source_meaning.specs.Operations.{truth_of, has_text, text_of, counted, with_number}
use Rattle.source_meaning.specs.StatementMeaning as official
use Rattle.py_typed.specs.Narrowing.{is_in, facts, own_sort, shared, without, bound_by_all, bound_by_name, after_target, part_sorts, bound, bound_in, bound_suite, bound_arms, bound_handlers, bound_last, breaks, breaks_in, breaks_suite, breaks_arms, breaks_handlers, breaks_last, is_true_literal, closes, closes_in, is_closed, closed_arms, closed_handlers, closed_last, or_shared, known_at_end, after, after_act, after_suite, after_arms}
use Rattle.py_typed.specs.WellTypedExpr.{parts_typed, rule, suits, is_result_type, is_empty_call, is_typed, is_none_literal, is_exception, indexed, is_value}
use Rattle.py_typed.specs.WellTyped as typing
use Rattle.py_typed.proofs.FitLemmas.{one_type, fits_itself, nothing_is}
use Rattle.py_typed.proofs.ClassLemmas.{or_left, or_right, or_cases}
use Rattle.source_soundness.specs.Watched as watched
use Rattle.source_soundness.specs.Watched.{Watch}
use Rattle.std.specs.Str.{is_utf8}
use Rattle.std.proofs.lemmas.Option.{slice_get-map}
use Rattle.std.specs.Option.{option_map}
use Rattle.source_soundness.proofs.TextLemmas.{ascii_text}
use Rattle.source_soundness.proofs.Worlds.{World, Has, has_still, held, Grows}
use Rattle.source_soundness.proofs.Fine.{Good, Fine, NotNone, Keeps, Passes, IsThrown, fine_bind, fine_map, fine_more, fine_kept, fine_watched, fine_give, fine_new, fine_if, fine_needs, fine_sure, AllThrown, fine_raise}
use Rattle.source_soundness.proofs.FitValues.{same_has}
use Rattle.source_soundness.proofs.Operators.{KeysOf, fine_seen, fine_delete, fine_dict, fine_got, fine_list, fine_truth, got_within, pair_got}
use Rattle.source_soundness.proofs.Names.{in_append, in_left, in_right, in_without, out_left, out_right, none_known, both_known, fewer_known, all_known, still_known, in_shared, without_known}
use Rattle.source_soundness.proofs.Facts.{Facts, CallsFine, two, three, four, five, six}
use Rattle.source_soundness.proofs.Expressions.{GetsValue, is_got, own_not_none, not_none, keys_of_value, told}
use Rattle.source_soundness.proofs.Nodes.{fine_value, Value_fine, fine_node}
use Rattle.source_soundness.proofs.Expressions.{same_gives}
use Rattle.source_soundness.proofs.Targets.{type_at, value, fine_assign, fine_targets, bound_known}
use Rattle.source_soundness.proofs.Updates.{fine_update}
use Rattle.source_soundness.proofs.Flows.{ReturnsAs, FlowIs, fine_flow_on, fine_catch, fine_finally, fine_handling, fine_unset, fine_loop, BodyIs}

and_left_false : (a b : Bool) → a ≡ false → (a && b) ≡ false
and_left_false true b e = absurd (cc)
and_left_false false b e = refl

and_right_false : (a b : Bool) → b ≡ false → (a && b) ≡ false
and_right_false true b e = e
and_right_false false b e = refl

-- where a handler is around, an exception is being handled
abbrev pub Handles : Bool → State → Type 0
Handles b s = b ≡ true → (e : Value) × (es : List Value) × (s.handled ≡ e ∷ es)

pub still_handles : {B : List ℕ} (b : Bool) (s u : State) → Keeps B s u → Handles b s → Handles b u
still_handles b s u k h q = let r = h q in (r.0, r.1, k.handled ∙ r.2)

every_exception : (c : ExcClass) → is_under c Exception ≡ true
every_exception Exception = refl
every_exception ArithmeticError = refl
every_exception ZeroDivisionError = refl
every_exception OverflowError = refl
every_exception LookupError = refl
every_exception IndexError = refl
every_exception KeyError = refl
every_exception NameError = refl
every_exception UnboundLocalError = refl
every_exception ValueError = refl
every_exception TypeError = refl
every_exception AttributeError = refl
every_exception AssertionError = refl
every_exception RuntimeError = refl
every_exception EOFError = refl

module _ {utf8 : Bool} (m : TypedModule) (sound : Facts m) (watch : Watch) {c' c : Calls} (calls : CallsFine m utf8 c' c) (vars : List Variable) (passes : Passes utf8 m vars watch)
    (init : Option ℕ) (self : (d : ℕ) → init ≡ Some d → (x : Variable) × (slice_get vars 0 ≡ Some x) × (x.1 ≡ sort.Instance d)) (result : Option Sort) where
  abbrev single : List TypedTarget → Sort → Bool
  single ts a = typing.is_single m vars init result ts a

  abbrev FS : Bool → Bool → Bool → List ℕ → World utf8 → State → Flow → Type 0
  FS l b c names V u f = FlowIs m result l b c names V u f

  -- a part that leaves no None where the names are, and may leave others
  abbrev Ends : Bool → Bool → Bool → List ℕ → List ℕ → World utf8 → State → Does Flow → Does Flow → Type 0
  Ends l b c B names W s d e = Fine m vars Flow B W s (FS l b c names) d e

  flow_names : (l b c : Bool) (n1 n2 : List ℕ) (V : World utf8) (u : State) (f : Flow) → (c ≡ false → NotNone n1 u.locals → NotNone n2 u.locals) → FS l b c n1 V u f → FS l b c n2 V u f
  flow_names l b c n1 n2 V u Goes h p = (p.0, h p.0 p.1)
  flow_names l b c n1 n2 V u Breaks h p = p
  flow_names l b c n1 n2 V u Continues h p = p
  flow_names l b c n1 n2 V u (Returns v) h p = p

  -- one of several arms or handlers
  flow_left : (l b1 b2 c1 c2 : Bool) (names : List ℕ) (V : World utf8) (u : State) (f : Flow) → FS l b1 c1 names V u f → FS l (b1 || b2) (c1 && c2) names V u f
  flow_left l b1 b2 c1 c2 names V u Goes p = (and_left_false c1 c2 p.0, p.1)
  flow_left l b1 b2 c1 c2 names V u Breaks p = (p.0, or_left b1 b2 p.1)
  flow_left l b1 b2 c1 c2 names V u Continues p = p
  flow_left l b1 b2 c1 c2 names V u (Returns v) p = p

  flow_right : (l b1 b2 c1 c2 : Bool) (names : List ℕ) (V : World utf8) (u : State) (f : Flow) → FS l b2 c2 names V u f → FS l (b1 || b2) (c1 && c2) names V u f
  flow_right l b1 b2 c1 c2 names V u Goes p = (and_right_false c1 c2 p.0, p.1)
  flow_right l b1 b2 c1 c2 names V u Breaks p = (p.0, or_right b1 b2 p.1)
  flow_right l b1 b2 c1 c2 names V u Continues p = p
  flow_right l b1 b2 c1 c2 names V u (Returns v) p = p

  -- ---- expressions

  val : (e : TypedExpr) (known : List ℕ) → is_value m vars init known e ≡ true → (W : World utf8) (s : State) → Good m vars W s → NotNone known s.locals → Value_fine m sound watch calls vars passes init self W s e
  val e known h W s g k = value m sound watch calls vars passes init self result e known h W s g k

  fine_alone : (e : TypedExpr) (known : List ℕ) → is_typed m vars init known e ≡ true → (W : World utf8) (s : State) → Good m vars W s → NotNone known s.locals → Value_fine m sound watch calls vars passes init self W s e
  fine_alone (typed n t place) known h W s g k =
      let r = four (parts_typed m vars init false known n) (rule m vars init known n t) (suits false n t) (is_result_type (length m.classes.classes) t) h in
      fine_watched m vars watch passes t (λ V u v p. p.0) (fine_node m sound watch calls vars passes init self n t false known r.0 r.1 W s g k)

  literal_true : (e : TypedExpr) (V : World utf8) (u : State) (v : Value) (h : Bool) → GetsValue m e V u v → truth_of v u ≡ Gives h u → is_true_literal e ≡ true → h ≡ true
  literal_true (typed (Flag b) t place) V u v h got q e = sym (same_gives b h u (sym (ap (λ z. truth_of z u) got.2) ∙ q)) ∙ e
  literal_true (typed _ t place) V u v h got q e = absurd (cc)

  -- a test, and what it tells
  fine_test : (e : TypedExpr) (known : List ℕ) → typing.is_test m vars init result known e ≡ true → (W : World utf8) (s : State) → Good m vars W s → NotNone known s.locals
      → Fine m vars Bool [] W s (λ V u h. NotNone (facts h e) u.locals × (is_true_literal e ≡ true → h ≡ true)) (watched.test_of watch m.classes.classes c' m.globals vars e) (official.test_of m.classes.classes c m.globals vars e)
  fine_test e known p W s g k =
      fine_bind m vars (fine_value m sound watch calls vars passes init self e true known p W s g k) (λ V u st v q.
      fine_map m vars (fine_truth m vars [] st.good (type_of e) v (is_got m e V u v q)) (λ X z st' h l.
      (subst (λ (y : State). NotNone (facts h e) y.locals) (sym l.0) (told m e V u v q h l.1), literal_true e V u v h q l.1)))

  -- ---- targets

  assign_binds : (ts : List TypedTarget) (a : Sort) → typing.assignment_fits m vars init result ts a ≡ true → typing.binding_fits m vars init result ts a ≡ true
  assign_binds [] a e = e
  assign_binds (t ∷ t' ∷ ts) a e = e
  assign_binds (t ∷ []) a e = by (or_cases (is_same_type a (type_at m sound watch calls vars passes init self result t)) _ e)
    where
      by : (is_same_type a (type_at m sound watch calls vars passes init self result t) ≡ true) ⊎ ((not (fits m.classes.classes a (type_at m sound watch calls vars passes init self result t)) && typing.parts_fit m vars init result (t ∷ []) (part_sorts a)) ≡ true) → typing.binding_fits m vars init result (t ∷ []) a ≡ true
      by (inl q) = or_left (fits m.classes.classes a (type_at m sound watch calls vars passes init self result t)) _ (subst (λ z. fits m.classes.classes a z ≡ true) (one_type a _ q) (fits_itself m.classes.classes a))
      by (inr q) = or_right (fits m.classes.classes a (type_at m sound watch calls vars passes init self result t)) _ (two (not (fits m.classes.classes a (type_at m sound watch calls vars passes init self result t))) (typing.parts_fit m vars init result (t ∷ []) (part_sorts a)) q).1

  name_typed : (t : TypedTarget) (known other : List ℕ) → typing.is_name m vars init result t ≡ true → typing.target_typed m vars init result known t ≡ true → typing.target_typed m vars init result other t ≡ true
  name_typed (LocalTarget i) known other n p = p
  name_typed (GlobalTarget i) known other n p = p
  name_typed (AttrTarget e name) known other n p = absurd (cc)
  name_typed (ItemTarget e i) known other n p = absurd (cc)

  both : (a b : Bool) → a ≡ true → b ≡ true → (a && b) ≡ true
  both true b p q = q
  both false b p q = absurd (cc)

  names_typed : (ts : List TypedTarget) (ss : List Sort) (known other : List ℕ) → list_all (typing.is_name m vars init result) ts ≡ true → list_all (typing.target_typed m vars init result known) ts ≡ true → typing.targets_typed m vars init result other ts ss ≡ true
  names_typed [] ss known other n p = refl
  names_typed (t ∷ ts) [] known other n p =
      let x = two (typing.is_name m vars init result t) (list_all (typing.is_name m vars init result) ts) n in
      let y = two (typing.target_typed m vars init result known t) (list_all (typing.target_typed m vars init result known) ts) p in
      both (typing.target_typed m vars init result other t) (typing.targets_typed m vars init result other ts []) (name_typed t known other x.0 y.0) (names_typed ts [] known other x.1 y.1)
  names_typed (t ∷ ts) (a ∷ ss) known other n p =
      let x = two (typing.is_name m vars init result t) (list_all (typing.is_name m vars init result) ts) n in
      let y = two (typing.target_typed m vars init result known t) (list_all (typing.target_typed m vars init result known) ts) p in
      both (typing.target_typed m vars init result other t) (typing.targets_typed m vars init result (after_target other t a) ts ss) (name_typed t known other x.0 y.0) (names_typed ts ss known (after_target other t a) x.1 y.1)

  loop_known : (known : List ℕ) (ts : List TypedTarget) (a : Sort) (body : TypedSuite) → typing.in_loop_from m vars init result known ts a body ≡ bound_known m sound watch calls vars passes init self result (without (bound_by_all ts ++ bound_suite body) known) ts a a
  loop_known known ts a body = by (single ts a) refl
    where
      by : (x : Bool) → single ts a ≡ x → typing.in_loop_from m vars init result known ts a body ≡ bound_known m sound watch calls vars passes init self result (without (bound_by_all ts ++ bound_suite body) known) ts a a
      by true e = rw (e, typing.in_loop_from) refl
      by false e = rw (e, typing.in_loop_from) refl

  module _ (n : ℕ) where
    abbrev Suite : TypedSuite → Does Flow
    Suite body = watched.suite watch m.classes.classes c' m.globals vars n body

    abbrev Suite₀ : TypedSuite → Does Flow
    Suite₀ body = official.suite m.classes.classes c m.globals vars n body

    -- a body that is fine
    abbrev SuiteFine : Bool → Bool → TypedSuite → Type 0
    SuiteFine looping handling body =
        (known : List ℕ) → typing.suite_typed m vars init result known looping handling body ≡ true → (W : World utf8) (s : State) → Good m vars W s → NotNone known s.locals → Handles handling s
        → Ends looping (breaks_suite body) (is_closed body) (bound_suite body) (after_suite single known body) W s (Suite body) (Suite₀ body)

    -- ---- arms

    module _ (other : TypedSuite) where
      abbrev last_arm : List ℕ → Option (List ℕ) → Option (List ℕ)
      last_arm there ends = if is_closed other then ends else or_shared ends (after_suite single there other)

      -- what all open ends share is known at each of them
      below : (arms : Arms) (known E F : List ℕ) → ((i : ℕ) → is_in E i ≡ true → is_in F i ≡ true) → (i : ℕ) → is_in (known_at_end (after_arms single known (Some E) arms last_arm)) i ≡ true → is_in F i ≡ true
      below no_arms known E F sub i = by (is_closed other)
        where
          by : (b : Bool) → is_in (known_at_end (if b then Some E else Some (shared E (after_suite single known other)))) i ≡ true → is_in F i ≡ true
          by true h = sub i h
          by false h = sub i (in_shared E (after_suite single known other) i h).0
      below (arm_then test body more) known E F sub i =
          by (is_closed body) (below more (facts false test ++ known) E F sub i) (below more (facts false test ++ known) (shared E (after_suite single (facts true test ++ known) body)) F (λ j q. sub j (in_shared E (after_suite single (facts true test ++ known) body) j q).0) i)
        where
          by : (b : Bool) → (is_in (known_at_end (after_arms single (facts false test ++ known) (Some E) more last_arm)) i ≡ true → is_in F i ≡ true) → (is_in (known_at_end (after_arms single (facts false test ++ known) (Some (shared E (after_suite single (facts true test ++ known) body))) more last_arm)) i ≡ true → is_in F i ≡ true)
              → is_in (known_at_end (after_arms single (facts false test ++ known) (if b then Some E else Some (shared E (after_suite single (facts true test ++ known) body))) more last_arm)) i ≡ true → is_in F i ≡ true
          by true p q h = p h
          by false p q h = q h

      open_end : (arms : Arms) (known : List ℕ) (ends : Option (List ℕ)) (X : List ℕ) (i : ℕ) → is_in (known_at_end (after_arms single known (or_shared ends X) arms last_arm)) i ≡ true → is_in X i ≡ true
      open_end arms known None X i h = below arms known X X (λ j q. q) i h
      open_end arms known (Some E) X i h = below arms known (shared E X) X (λ j q. (in_shared E X j q).1) i h

      open_last : (ends : Option (List ℕ)) (X : List ℕ) (i : ℕ) → is_in (known_at_end (or_shared ends X)) i ≡ true → is_in X i ≡ true
      open_last None X i h = h
      open_last (Some E) X i h = (in_shared E X i h).1

      -- behind an arm that is open
      arm_names : (body : TypedSuite) (more : Arms) (known X : List ℕ) (ends : Option (List ℕ)) (held : List (Option Value)) → is_closed body ≡ false → NotNone X held → NotNone (known_at_end (after_arms single known (if is_closed body then ends else or_shared ends X) more last_arm)) held
      arm_names body more known X ends held e k =
          subst (λ b. NotNone (known_at_end (after_arms single known (if b then ends else or_shared ends X) more last_arm)) held) (sym e)
          (fewer_known X (known_at_end (after_arms single known (or_shared ends X) more last_arm)) held (λ i h. open_end more known ends X i h) k)

      last_names : (known : List ℕ) (ends : Option (List ℕ)) (held : List (Option Value)) → is_closed other ≡ false → NotNone (after_suite single known other) held → NotNone (known_at_end (last_arm known ends)) held
      last_names known ends held e k =
          subst (λ b. NotNone (known_at_end (if b then ends else or_shared ends (after_suite single known other))) held) (sym e)
          (fewer_known (after_suite single known other) (known_at_end (or_shared ends (after_suite single known other))) held (λ i h. open_last ends (after_suite single known other) i h) k)

    -- ---- loops

    -- what a loop's body leaves for the next turn
    ends_body : (l b cl : Bool) (names N B : List ℕ) (V : World utf8) (u z : State) → ((i : ℕ) → is_in N i ≡ true → is_in B i ≡ false) → NotNone N u.locals → Keeps B u z → NotNone N z.locals
    ends_body l b cl names N B V u z out k keeps = still_known B N u z keeps out k

    fine_while : (test : TypedExpr) (body : TypedSuite) (known : List ℕ) (looping handling : Bool) → SuiteFine true handling body → typing.act_typed m vars init result known looping handling (While test body) ≡ true → (W : World utf8) (s : State) → Good m vars W s → NotNone known s.locals → Handles handling s
        → Ends looping false (closes_in (While test body)) (bound_suite body) (after_act single known (While test body)) W s (watched.act watch m.classes.classes c' m.globals vars n (While test body)) (official.act m.classes.classes c m.globals vars n (While test body))
    fine_while test body known looping handling run p W s g k hd =
        let y = three (typing.is_test m vars init result (without (bound_suite body) known) test) (typing.is_body m vars init result body) (typing.suite_typed m vars init result (facts true test ++ without (bound_suite body) known) true handling body) p in
        fine_loop m result vars {X = ℕ} (bound_suite body)
        (λ i V u. NotNone (without (bound_suite body) known) u.locals × Handles handling u)
        (λ i V u. NotNone (facts true test ++ without (bound_suite body) known) u.locals × Handles handling u)
        (FS looping false (closes_in (While test body)) (after_act single known (While test body)))
        (λ i. watched.test_of watch m.classes.classes c' m.globals vars test) (λ i. official.test_of m.classes.classes c m.globals vars test) (λ i. Suite body) (λ i. Suite₀ body) (λ i. i)
        (λ i V V' u z st h. (all_known (without (bound_suite body) known) u z st.keeps h.0, still_handles handling u z st.keeps h.1))
        (λ i V u good h. fine_map m vars (fine_kept m vars (bound_suite body) (fine_test test (without (bound_suite body) known) y.0 V u good h.0)) (λ X z st b q. (
          (λ is. (both_known (facts true test) (without (bound_suite body) known) z.locals (subst (λ x. NotNone (facts x test) z.locals) is q.1.0) (all_known (without (bound_suite body) known) u z q.0.keeps h.0), still_handles handling u z st.keeps h.1)),
          (λ is. (not_closed (is_true_literal test) b is q.1.1, at_end (breaks_suite body) z (subst (λ x. NotNone (facts x test) z.locals) is q.1.0) (all_known (without (bound_suite body) known) u z q.0.keeps h.0))),
        )))
        (λ i V u good h. fine_map m vars (run (facts true test ++ without (bound_suite body) known) y.2 V u good h.0 h.1) (λ X z st f q.
        let now : NotNone (without (bound_suite body) known) z.locals = still_known (bound_suite body) (without (bound_suite body) known) u z st.keeps (λ j r. (in_without (bound_suite body) known j r).1) (fewer_known (facts true test ++ without (bound_suite body) known) (without (bound_suite body) known) u.locals (λ j r. in_right (facts true test) (without (bound_suite body) known) j r) h.0) in
        body_ends f X z now (still_handles handling u z st.keeps h.1) q))
        (suc n) 0 W s g (fewer_known known (without (bound_suite body) known) s.locals (λ i q. (in_without (bound_suite body) known i q).0) k, hd)
      where
        not_closed : (t b : Bool) → b ≡ false → (t ≡ true → b ≡ true) → (t && not (breaks_suite body)) ≡ false
        not_closed true b e h = absurd (cc (sym e ∙ h refl))
        not_closed false b e h = refl

        at_end : (b : Bool) (z : State) → NotNone (facts false test) z.locals → NotNone (without (bound_suite body) known) z.locals → NotNone (if b then without (bound_suite body) known else facts false test ++ without (bound_suite body) known) z.locals
        at_end true z p q = q
        at_end false z p q = both_known (facts false test) (without (bound_suite body) known) z.locals p q

        broken : (b : Bool) (z : State) → breaks_suite body ≡ b → b ≡ true → NotNone (without (bound_suite body) known) z.locals → ((is_true_literal test && not b) ≡ false) × NotNone (if b then without (bound_suite body) known else facts false test ++ without (bound_suite body) known) z.locals
        broken true z e h q = (and_right_false (is_true_literal test) false refl, q)
        broken false z e h q = absurd (cc)

        body_ends : (f : Flow) (X : World utf8) (z : State) → NotNone (without (bound_suite body) known) z.locals → Handles handling z → FS true (breaks_suite body) (is_closed body) (after_suite single (facts true test ++ without (bound_suite body) known) body) X z f
            → BodyIs m result vars {X = ℕ} (bound_suite body) (λ i V u. NotNone (without (bound_suite body) known) u.locals × Handles handling u) (λ i V u. NotNone (facts true test ++ without (bound_suite body) known) u.locals × Handles handling u) (FS looping false (closes_in (While test body)) (after_act single known (While test body))) (λ i. watched.test_of watch m.classes.classes c' m.globals vars test) (λ i. official.test_of m.classes.classes c m.globals vars test) (λ i. Suite body) (λ i. Suite₀ body) (λ i. i) 0 X z f
        body_ends Goes X z k hd q = (k, hd)
        body_ends Continues X z k hd q = (k, hd)
        body_ends Breaks X z k hd q = broken (breaks_suite body) z refl q.1 k
        body_ends (Returns v) X z k hd q = q

    -- ---- loops over items

    module _ (ts : List TypedTarget) (a : Sort) (body : TypedSuite) (known : List ℕ) (handling : Bool) (run : SuiteFine true handling body) (fit : typing.items_fit m vars init result known ts a ≡ true)
        (typed_body : typing.suite_typed m vars init result (typing.in_loop_from m vars init result known ts a body) true handling body ≡ true) where
      abbrev Loses : List ℕ
      Loses = bound_by_all ts ++ bound_suite body

      abbrev Kept : List ℕ
      Kept = without (bound_by_all ts ++ bound_suite body) known

      kept_known : (s u : State) → Keeps [] s u → NotNone Kept s.locals → NotNone Kept u.locals
      kept_known s u k h = all_known Kept s u k h

      lost_known : (s u : State) → Keeps Loses s u → NotNone Kept s.locals → NotNone Kept u.locals
      lost_known s u k h = still_known Loses Kept s u k (λ i q. (in_without Loses known i q).1) h

      first_known : (s : State) → NotNone known s.locals → NotNone Kept s.locals
      first_known s k = fewer_known known Kept s.locals (λ i q. (in_without Loses known i q).0) k

      abbrev Known : List ℕ
      Known = bound_known m sound watch calls vars passes init self result Kept ts a a

      -- an item for the targets
      fine_item_bound : (V : World utf8) (u : State) → Good m vars V u → NotNone Kept u.locals → (v : Value) → Has m.classes.classes a V v
          → Fine m vars (Unit {0}) Loses V u (λ X z x. NotNone Known z.locals) (watched.bind watch m.classes.classes c' m.globals vars ts a v) (official.bind m.classes.classes c m.globals vars ts a v)
      fine_item_bound V u g k v h =
          let y = four (typing.is_filled m vars init result ts) (list_all (typing.is_name m vars init result) ts) (list_all (typing.target_typed m vars init result known) ts) (typing.binding_fits m vars init result ts a) fit in
          fine_more m vars (λ i q. out_left (bound_by_all ts) (bound_suite body) i q)
          (fine_targets m sound watch calls vars passes init self result ts a a v Kept y.0 (names_typed ts (part_sorts a) known Kept y.1 y.2) y.3 V u g k h (λ no. not_none m a V v no h))

      -- and the body behind it
      fine_turn : (V : World utf8) (u : State) → NotNone Kept u.locals → Handles handling u → {d e : Does (Unit {0})} → Fine m vars (Unit {0}) Loses V u (λ X z x. NotNone Known z.locals) d e
          → Fine m vars Flow Loses V u (λ X z f. FS true (breaks_suite body) (is_closed body) [] X z f × NotNone Kept z.locals × Handles handling z × Grows V X) (d >> Suite body) (e >> Suite₀ body)
      fine_turn V u k hd p =
          fine_map m vars (fine_bind m vars p (λ X z st x q.
          fine_more m vars (λ i r. out_right (bound_by_all ts) (bound_suite body) i r)
          (run (typing.in_loop_from m vars init result known ts a body) typed_body X z st.good (subst (λ names. NotNone names z.locals) (sym (loop_known known ts a body)) q) (still_handles handling u z st.keeps hd))))
          (λ X z st f q. (flow_names true (breaks_suite body) (is_closed body) (after_suite single (typing.in_loop_from m vars init result known ts a body) body) [] X z f (λ cl h. none_known z.locals) q, lost_known u z st.keeps k, still_handles handling u z st.keeps hd, st.grows))

      -- how such a body ends
      module _ (looping : Bool) {X : Type 0} (Inv Body : X → World utf8 → State → Type 0) (test test' : X → Does Bool) (run' run'' : X → Does Flow) (next : X → X) where
        turn_ends : (x : X) (f : Flow) (V : World utf8) (u : State) → FS true (breaks_suite body) (is_closed body) [] V u f → NotNone Kept u.locals → Inv (next x) V u
            → BodyIs m result vars Loses Inv Body (FS looping false false Kept) test test' run' run'' next x V u f
        turn_ends x Goes V u q k i = i
        turn_ends x Continues V u q k i = i
        turn_ends x Breaks V u q k i = (refl, k)
        turn_ends x (Returns v) V u q k i = q

    count_less : (i n : ℕ) → nat_lt i (counted n) ≡ true → i < n
    count_less i n h = by (nat_lt n (2 ^ 127)) refl h
      where
        by : (b : Bool) → nat_lt n (2 ^ 127) ≡ b → nat_lt i (if b then n else 2 ^ 127 - 1) ≡ true → i < n
        by true e h = grind (arith, nat_tests, h)
        by false e h = grind (arith, nat_tests, e, h)

    list_type : (x : Sort) → typing.is_list_type m vars init result x ≡ true → x ≡ sort.ListOf (item_sort x)
    list_type (sort.ListOf t) e = refl
    list_type _ e = absurd (cc)

    dict_type : (x : Sort) → typing.is_dict_type m vars init result x ≡ true → x ≡ sort.DictOf (key_sort x) (item_sort x)
    dict_type (sort.DictOf j t) e = refl
    dict_type _ e = absurd (cc)

    -- a list stays one, and a place in it was tested
    abbrev ListInv : List ℕ → Bool → Value → Sort → ℕ → World utf8 → State → Type 0
    ListInv N handling l a i X z = NotNone N z.locals × Handles handling z × Has m.classes.classes (sort.ListOf a) X l

    abbrev ListBody : List ℕ → Bool → Value → Sort → ℕ → World utf8 → State → Type 0
    ListBody N handling l a i X z = NotNone N z.locals × Handles handling z × Has m.classes.classes (sort.ListOf a) X l × ((j : ℕ) (vs : List Value) → l ≡ ObjVal j → slice_get z.store j ≡ Some (ListObj vs) → i < length vs)

    fine_for_list : (ts : List TypedTarget) (e : TypedExpr) (body : TypedSuite) (known : List ℕ) (looping handling : Bool) → SuiteFine true handling body → typing.act_typed m vars init result known looping handling (ForList ts e body) ≡ true → (W : World utf8) (s : State) → Good m vars W s → NotNone known s.locals → Handles handling s
        → Ends looping false false (bound_by_all ts ++ bound_suite body) (without (bound_by_all ts ++ bound_suite body) known) W s (watched.act watch m.classes.classes c' m.globals vars n (ForList ts e body)) (official.act m.classes.classes c m.globals vars n (ForList ts e body))
    fine_for_list ts e body known looping handling run p W s g k hd =
        let y = five (is_value m vars init known e) (typing.is_list_type m vars init result (type_of e)) (typing.items_fit m vars init result known ts (item_sort (type_of e))) (typing.is_body m vars init result body) (typing.suite_typed m vars init result (typing.in_loop_from m vars init result known ts (item_sort (type_of e)) body) true handling body) p in
        fine_bind m vars (fine_kept m vars (bound_by_all ts ++ bound_suite body) (val e known y.0 W s g k)) (λ V u st l q.
        over (item_sort (type_of e)) y.2 y.4 l V u st.good (first_known ts (item_sort (type_of e)) body known handling run y.2 y.4 u (all_known known s u q.0.keeps k)) (still_handles handling s u st.keeps hd) (subst (λ z. Has m.classes.classes z V l) (list_type (type_of e) y.1) (is_got m e V u l q.1)))
      where
        over : (a : Sort) (fit : typing.items_fit m vars init result known ts a ≡ true) (tb : typing.suite_typed m vars init result (typing.in_loop_from m vars init result known ts a body) true handling body ≡ true) (l : Value) (V : World utf8) (u : State) → Good m vars V u → NotNone (without (bound_by_all ts ++ bound_suite body) known) u.locals → Handles handling u → Has m.classes.classes (sort.ListOf a) V l
            → Ends looping false false (bound_by_all ts ++ bound_suite body) (without (bound_by_all ts ++ bound_suite body) known) V u
            (loop {X = ℕ} (suc n) (official.list_goes_on m.classes.classes c' m.globals vars l) (λ i. official.list_next m.classes.classes c' m.globals vars l i >>= watch a >>= watched.bind watch m.classes.classes c' m.globals vars ts a >> Suite body) suc 0)
            (loop {X = ℕ} (suc n) (official.list_goes_on m.classes.classes c m.globals vars l) (λ i. official.list_next m.classes.classes c m.globals vars l i >>= official.bind m.classes.classes c m.globals vars ts a >> Suite₀ body) suc 0)
        over a fit tb l V u g k hd h =
            fine_loop m result vars {X = ℕ} (bound_by_all ts ++ bound_suite body)
            (ListInv (Kept ts a body known handling run fit tb) handling l a)
            (ListBody (Kept ts a body known handling run fit tb) handling l a)
            (FS looping false false (Kept ts a body known handling run fit tb))
            (official.list_goes_on m.classes.classes c' m.globals vars l) (official.list_goes_on m.classes.classes c m.globals vars l)
            (λ i. official.list_next m.classes.classes c' m.globals vars l i >>= watch a >>= watched.bind watch m.classes.classes c' m.globals vars ts a >> Suite body) (λ i. official.list_next m.classes.classes c m.globals vars l i >>= official.bind m.classes.classes c m.globals vars ts a >> Suite₀ body) suc
            (λ i X Y z y st p. (all_known (Kept ts a body known handling run fit tb) z y st.keeps p.0, still_handles handling z y st.keeps p.1, has_still m.classes.classes X Y st.grows (sort.ListOf a) l p.2))
            (λ i X z good p. fine_list m vars (bound_by_all ts ++ bound_suite body) good a l _ _ p.2 (λ j vs is w got each.
            fine_give m vars good (nat_lt i (counted (length vs))) ((λ b. (p.0, p.1, p.2, λ j' vs' is' got'. long i j j' vs vs' z (same_place j j' (sym is ∙ is')) got got' (count_less i (length vs) b))), (λ b. (refl, p.0)))))
            (λ i X z good p. fine_map m vars (fine_turn ts a body known handling run fit tb X z p.0 p.1
            (fine_bind m vars (fine_kept m vars (bound_by_all ts ++ bound_suite body) (fine_watched m vars watch passes a (λ Y y v q. q) (fine_list m vars [] good a l _ _ p.2 (λ j vs is w got each. fine_got m vars [] good a vs i (p.3 j vs is got) each))))
            (λ Y y st v q. fine_item_bound ts a body known handling run fit tb Y y st.good (all_known (Kept ts a body known handling run fit tb) z y q.0.keeps p.0) v q.1)))
            (λ Y y st f q. turn_ends ts a body known handling run fit tb looping (ListInv (Kept ts a body known handling run fit tb) handling l a) (ListBody (Kept ts a body known handling run fit tb) handling l a) (official.list_goes_on m.classes.classes c' m.globals vars l) (official.list_goes_on m.classes.classes c m.globals vars l) (λ x. Suite body) (λ x. Suite₀ body) suc i f Y y q.0 q.1 (q.1, q.2, has_still m.classes.classes X Y q.3 (sort.ListOf a) l p.2)))
            (suc n) 0 V u g (k, hd, h)
          where
            same_place : (j j' : ℕ) → ObjVal j ≡ ObjVal j' → j ≡ j'
            same_place j j' e = cc

            some_list : (vs vs' : List Value) → Some (ListObj vs) ≡ Some (ListObj vs') → vs ≡ vs'
            some_list vs vs' e = cc

            long : (i j j' : ℕ) (vs vs' : List Value) (z : State) → j ≡ j' → slice_get z.store j ≡ Some (ListObj vs) → slice_get z.store j' ≡ Some (ListObj vs') → i < length vs → i < length vs'
            long i j j' vs vs' z e got got' l = subst (λ x. i < length x) (some_list vs vs' (sym got ∙ ap (slice_get z.store) e ∙ got')) l

    -- ---- dicts

    abbrev DictInv : List ℕ → Bool → Value → Sort → Sort → ℕ → World utf8 → State → Type 0
    DictInv N handling d a t i X z = NotNone N z.locals × Handles handling z × Has m.classes.classes (sort.DictOf a t) X d

    abbrev DictBody : List ℕ → Bool → Value → Sort → Sort → ℕ → World utf8 → State → Type 0
    DictBody N handling d a t i X z = NotNone N z.locals × Handles handling z × Has m.classes.classes (sort.DictOf a t) X d × ((j : ℕ) (ps : List (Value × Value)) → d ≡ ObjVal j → slice_get z.store j ≡ Some (DictObj ps) → i < length ps)

    fine_for_dict : (ts : List TypedTarget) (e : TypedExpr) (body : TypedSuite) (known : List ℕ) (looping handling : Bool) → SuiteFine true handling body → typing.act_typed m vars init result known looping handling (ForDict ts e body) ≡ true → (W : World utf8) (s : State) → Good m vars W s → NotNone known s.locals → Handles handling s
        → Ends looping false false (bound_by_all ts ++ bound_suite body) (without (bound_by_all ts ++ bound_suite body) known) W s (watched.act watch m.classes.classes c' m.globals vars n (ForDict ts e body)) (official.act m.classes.classes c m.globals vars n (ForDict ts e body))
    fine_for_dict ts e body known looping handling run p W s g k hd =
        let y = five (is_value m vars init known e) (typing.is_dict_type m vars init result (type_of e)) (typing.items_fit m vars init result known ts (key_sort (type_of e))) (typing.is_body m vars init result body) (typing.suite_typed m vars init result (typing.in_loop_from m vars init result known ts (key_sort (type_of e)) body) true handling body) p in
        fine_bind m vars (fine_kept m vars (bound_by_all ts ++ bound_suite body) (val e known y.0 W s g k)) (λ V u st d q.
        let h : Has m.classes.classes (sort.DictOf (key_sort (type_of e)) (item_sort (type_of e))) V d = subst (λ z. Has m.classes.classes z V d) (dict_type (type_of e) y.1) (is_got m e V u d q.1) in
        fine_dict m vars (bound_by_all ts ++ bound_suite body) st.good (key_sort (type_of e)) (item_sort (type_of e)) d _ _ h (λ j ps is w got each.
        over (key_sort (type_of e)) (item_sort (type_of e)) y.2 y.4 d (length ps) V u st.good (first_known ts (key_sort (type_of e)) body known handling run y.2 y.4 u (all_known known s u q.0.keeps k)) (still_handles handling s u st.keeps hd) h))
      where
        over : (a t : Sort) (fit : typing.items_fit m vars init result known ts a ≡ true) (tb : typing.suite_typed m vars init result (typing.in_loop_from m vars init result known ts a body) true handling body ≡ true) (d : Value) (size : ℕ) (V : World utf8) (u : State) → Good m vars V u → NotNone (without (bound_by_all ts ++ bound_suite body) known) u.locals → Handles handling u → Has m.classes.classes (sort.DictOf a t) V d
            → Ends looping false false (bound_by_all ts ++ bound_suite body) (without (bound_by_all ts ++ bound_suite body) known) V u
            (loop {X = ℕ} (suc n) (official.dict_goes_on m.classes.classes c' m.globals vars d size) (λ i. official.dict_next m.classes.classes c' m.globals vars d i >>= watch a >>= watched.bind watch m.classes.classes c' m.globals vars ts a >> Suite body) suc 0)
            (loop {X = ℕ} (suc n) (official.dict_goes_on m.classes.classes c m.globals vars d size) (λ i. official.dict_next m.classes.classes c m.globals vars d i >>= official.bind m.classes.classes c m.globals vars ts a >> Suite₀ body) suc 0)
        over a t fit tb d size V u g k hd h =
            fine_loop m result vars {X = ℕ} (bound_by_all ts ++ bound_suite body)
            (DictInv (Kept ts a body known handling run fit tb) handling d a t) (DictBody (Kept ts a body known handling run fit tb) handling d a t)
            (FS looping false false (Kept ts a body known handling run fit tb))
            (official.dict_goes_on m.classes.classes c' m.globals vars d size) (official.dict_goes_on m.classes.classes c m.globals vars d size)
            (λ i. official.dict_next m.classes.classes c' m.globals vars d i >>= watch a >>= watched.bind watch m.classes.classes c' m.globals vars ts a >> Suite body) (λ i. official.dict_next m.classes.classes c m.globals vars d i >>= official.bind m.classes.classes c m.globals vars ts a >> Suite₀ body) suc
            (λ i X Y z y st p. (all_known (Kept ts a body known handling run fit tb) z y st.keeps p.0, still_handles handling z y st.keeps p.1, has_still m.classes.classes X Y st.grows (sort.DictOf a t) d p.2))
            (λ i X z good p. fine_dict m vars (bound_by_all ts ++ bound_suite body) good a t d _ _ p.2 (λ j ps is w got each.
            fine_if m vars (counted (length ps) == counted size)
            (λ same. fine_give m vars good (nat_lt i (counted (length ps))) ((λ b. (p.0, p.1, p.2, λ j' ps' is' got'. long i j j' ps ps' z (same_place j j' (sym is ∙ is')) got got' (count_less i (length ps) b))), (λ b. (refl, p.0))))
            (λ other. fine_new m vars good _ (codes "dictionary changed size during iteration") (λ q. ascii_text (codes "dictionary changed size during iteration") refl))))
            (λ i X z good p. fine_map m vars (fine_turn ts a body known handling run fit tb X z p.0 p.1
            (fine_bind m vars (fine_kept m vars (bound_by_all ts ++ bound_suite body) (fine_watched m vars watch passes a (λ Y y v q. q) (fine_dict m vars [] good a t d _ _ p.2 (λ j ps is w got each.
            let there : _ = got_within ps i (p.3 j ps is got) in
            fine_sure m vars good (slice_get (map (λ p. p.0) ps) i) there.0.0 (slice_get-map (λ (p : Value × Value). p.0) ps i ∙ ap (option_map (λ (p : Value × Value). p.0)) there.1) (pair_got m X a t ps i there.0 each there.1).0))))
            (λ Y y st v q. fine_item_bound ts a body known handling run fit tb Y y st.good (all_known (Kept ts a body known handling run fit tb) z y q.0.keeps p.0) v q.1)))
            (λ Y y st f q. turn_ends ts a body known handling run fit tb looping (DictInv (Kept ts a body known handling run fit tb) handling d a t) (DictBody (Kept ts a body known handling run fit tb) handling d a t) (official.dict_goes_on m.classes.classes c' m.globals vars d size) (official.dict_goes_on m.classes.classes c m.globals vars d size) (λ x. Suite body) (λ x. Suite₀ body) suc i f Y y q.0 q.1 (q.1, q.2, has_still m.classes.classes X Y q.3 (sort.DictOf a t) d p.2)))
            (suc n) 0 V u g (k, hd, h)
          where
            same_place : (j j' : ℕ) → ObjVal j ≡ ObjVal j' → j ≡ j'
            same_place j j' e = cc

            some_dict : (ps ps' : List (Value × Value)) → Some (DictObj ps) ≡ Some (DictObj ps') → ps ≡ ps'
            some_dict ps ps' e = cc

            long : (i j j' : ℕ) (ps ps' : List (Value × Value)) (z : State) → j ≡ j' → slice_get z.store j ≡ Some (DictObj ps) → slice_get z.store j' ≡ Some (DictObj ps') → i < length ps → i < length ps'
            long i j j' ps ps' z e got got' l = subst (λ x. i < length x) (some_dict ps ps' (sym got ∙ ap (slice_get z.store) e ∙ got')) l

    -- ---- ranges

    range_type : (t : Sort) → typing.is_range_type m vars init result t ≡ true → (t ≡ sort.Int) ⊎ (t ≡ sort.I64)
    range_type t h = by (or_cases (is_same_type t sort.Int) (is_same_type t sort.I64) h)
      where
        by : (is_same_type t sort.Int ≡ true) ⊎ (is_same_type t sort.I64 ≡ true) → (t ≡ sort.Int) ⊎ (t ≡ sort.I64)
        by (inl e) = inl (one_type t sort.Int e)
        by (inr e) = inr (one_type t sort.I64 e)

    -- a number of a type of ranges
    number_of : (t : Sort) (V : World utf8) (v : Value) → (t ≡ sort.Int) ⊎ (t ≡ sort.I64) → Has m.classes.classes t V v → (i : ℤ) × (v ≡ IntVal i)
    number_of t V v (inl e) h = let x : _ = subst (λ z. Has m.classes.classes z V v) e h in (x.0, x.1)
    number_of t V v (inr e) h = let x : _ = subst (λ z. Has m.classes.classes z V v) e h in (x.0, x.1)

    zero_has : (t : Sort) (V : World utf8) → (t ≡ sort.Int) ⊎ (t ≡ sort.I64) → Has m.classes.classes t V (IntVal (pos 0))
    zero_has t V (inl e) = subst (λ z. Has m.classes.classes z V (IntVal (pos 0))) (sym e) (pos 0, refl, refl)
    zero_has t V (inr e) = subst (λ z. Has m.classes.classes z V (IntVal (pos 0))) (sym e) (pos 0, refl, refl)

    same_int : (i j : ℤ) → IntVal i ≡ IntVal j → i ≡ j
    same_int i j e = cc

    within_int : (i j k : ℤ) → lies_within 127 i ≡ true → lies_within 127 j ≡ true → i ≤ℤ k → k <ℤ j → lies_within 127 k ≡ true
    within_int (pos i) (pos j) (pos k) a b l h = grind (arith, nat_tests, ints, b, h)
    within_int (pos i) j (negsuc k) a b l h = absurd (omega (arith, ints, l))
    within_int (negsuc i) j (negsuc k) a b l h = grind (arith, nat_tests, ints, a, l)
    within_int (negsuc i) (pos j) (pos k) a b l h = grind (arith, nat_tests, ints, b, h)
    within_int i (negsuc j) (pos k) a b l h = absurd (omega (arith, ints, h))

    within_native : (i j k : ℤ) → lies_within 63 i ≡ true → lies_within 63 j ≡ true → i ≤ℤ k → k <ℤ j → lies_within 63 k ≡ true
    within_native (pos i) (pos j) (pos k) a b l h = grind (arith, nat_tests, ints, b, h)
    within_native (pos i) j (negsuc k) a b l h = absurd (omega (arith, ints, l))
    within_native (negsuc i) j (negsuc k) a b l h = grind (arith, nat_tests, ints, a, l)
    within_native (negsuc i) (pos j) (pos k) a b l h = grind (arith, nat_tests, ints, b, h)
    within_native i (negsuc j) (pos k) a b l h = absurd (omega (arith, ints, h))

    between : (t : Sort) (V : World utf8) (i j k : ℤ) → (t ≡ sort.Int) ⊎ (t ≡ sort.I64) → Has m.classes.classes t V (IntVal i) → Has m.classes.classes t V (IntVal j) → i ≤ℤ k → k <ℤ j → Has m.classes.classes t V (IntVal k)
    between t V i j k (inl e) h h' l b =
        let x : _ = subst (λ z. Has m.classes.classes z V (IntVal i)) e h in
        let y : _ = subst (λ z. Has m.classes.classes z V (IntVal j)) e h' in
        subst (λ z. Has m.classes.classes z V (IntVal k)) (sym e)
        (k, refl, within_int i j k (ap (lies_within 127) (same_int i x.0 x.1) ∙ x.2) (ap (lies_within 127) (same_int j y.0 y.1) ∙ y.2) l b)
    between t V i j k (inr e) h h' l b =
        let x : _ = subst (λ z. Has m.classes.classes z V (IntVal i)) e h in
        let y : _ = subst (λ z. Has m.classes.classes z V (IntVal j)) e h' in
        subst (λ z. Has m.classes.classes z V (IntVal k)) (sym e)
        (k, refl, within_native i j k (ap (lies_within 63) (same_int i x.0 x.1) ∙ x.2) (ap (lies_within 63) (same_int j y.0 y.1) ∙ y.2) l b)

    next_up : (i k : ℤ) → i ≤ℤ k → i ≤ℤ (k +ℤ pos 1)
    next_up i k l = omega (arith, ints, l)

    self_up : (i : ℤ) → i ≤ℤ i
    self_up i = omega (arith, ints)

    less_tested : (k j : ℤ) → int_lt k j ≡ true → k <ℤ j
    less_tested k j e = grind (arith, ints, e)

    abbrev RangeInv : List ℕ → Bool → Sort → ℤ → ℤ → ℤ → World utf8 → State → Type 0
    RangeInv N handling t i j k X z = NotNone N z.locals × Handles handling z × Has m.classes.classes t X (IntVal i) × Has m.classes.classes t X (IntVal j) × (i ≤ℤ k)

    abbrev RangeBody : List ℕ → Bool → Sort → ℤ → ℤ → ℤ → World utf8 → State → Type 0
    RangeBody N handling t i j k X z = NotNone N z.locals × Handles handling z × Has m.classes.classes t X (IntVal i) × Has m.classes.classes t X (IntVal j) × (i ≤ℤ k) × (k <ℤ j)

    fine_value_or : (e : Option TypedExpr) (v : Value) (t : Sort) (known : List ℕ) → typing.maybe_of_type m vars init result known t e ≡ true → (W : World utf8) (s : State) → Good m vars W s → NotNone known s.locals → Has m.classes.classes t W v
        → Fine m vars Value [] W s (λ V u w. Has m.classes.classes t V w) (watched.value_or watch m.classes.classes c' m.globals vars v e) (official.value_or m.classes.classes c m.globals vars v e)
    fine_value_or None v t known p W s g k h = fine_give m vars g v h
    fine_value_or (Some e) v t known p W s g k h =
        let y = two (is_value m vars init known e) (is_same_type (type_of e) t) p in
        fine_map m vars (val e known y.0 W s g k) (λ V u st w q. subst (λ z. Has m.classes.classes z V w) (one_type (type_of e) t y.1) (is_got m e V u w q))

    fine_for_range : (ts : List TypedTarget) (a : Option TypedExpr) (e : TypedExpr) (body : TypedSuite) (known : List ℕ) (looping handling : Bool) → SuiteFine true handling body → typing.act_typed m vars init result known looping handling (ForRange ts a e body) ≡ true → (W : World utf8) (s : State) → Good m vars W s → NotNone known s.locals → Handles handling s
        → Ends looping false false (bound_by_all ts ++ bound_suite body) (without (bound_by_all ts ++ bound_suite body) known) W s (watched.act watch m.classes.classes c' m.globals vars n (ForRange ts a e body)) (official.act m.classes.classes c m.globals vars n (ForRange ts a e body))
    fine_for_range ts a e body known looping handling run p W s g k hd =
        let y = six (is_value m vars init known e) (typing.is_range_type m vars init result (type_of e)) (typing.maybe_of_type m vars init result known (type_of e) a) (typing.items_fit m vars init result known ts (type_of e)) (typing.is_body m vars init result body) (typing.suite_typed m vars init result (typing.in_loop_from m vars init result known ts (type_of e) body) true handling body) p in
        let r : _ = range_type (type_of e) y.1 in
        fine_bind m vars (fine_kept m vars (bound_by_all ts ++ bound_suite body) (fine_value_or a (IntVal (pos 0)) (type_of e) known y.2 W s g k (zero_has (type_of e) W r))) (λ V u st x q.
        fine_bind m vars (fine_kept m vars (bound_by_all ts ++ bound_suite body) (val e known y.0 V u st.good (all_known known s u q.0.keeps k))) (λ X z st' v q'.
        let i : _ = number_of (type_of e) V x r q.1 in
        let j : _ = number_of (type_of e) X v r (is_got m e X z v q'.1) in
        from_numbers (type_of e) r y.3 y.5 x v i.0 j.0 i.1 j.1 X z st'.good (first_known ts (type_of e) body known handling run y.3 y.5 z (all_known known u z q'.0.keeps (all_known known s u q.0.keeps k))) (still_handles handling u z st'.keeps (still_handles handling s u st.keeps hd))
        (has_still m.classes.classes V X st'.grows (type_of e) x q.1) (is_got m e X z v q'.1)))
      where
        over : (t : Sort) (r : (t ≡ sort.Int) ⊎ (t ≡ sort.I64)) (fit : typing.items_fit m vars init result known ts t ≡ true) (tb : typing.suite_typed m vars init result (typing.in_loop_from m vars init result known ts t body) true handling body ≡ true) (i j : ℤ) (V : World utf8) (u : State) → Good m vars V u → NotNone (without (bound_by_all ts ++ bound_suite body) known) u.locals → Handles handling u → Has m.classes.classes t V (IntVal i) → Has m.classes.classes t V (IntVal j)
            → Ends looping false false (bound_by_all ts ++ bound_suite body) (without (bound_by_all ts ++ bound_suite body) known) V u
            (loop {X = ℤ} (suc n) (λ k. give (int_lt k j)) (λ k. watched.bind watch m.classes.classes c' m.globals vars ts t (IntVal k) >> Suite body) (λ k. k +ℤ pos 1) i)
            (loop {X = ℤ} (suc n) (λ k. give (int_lt k j)) (λ k. official.bind m.classes.classes c m.globals vars ts t (IntVal k) >> Suite₀ body) (λ k. k +ℤ pos 1) i)
        over t r fit tb i j V u g k hd h h' =
            fine_loop m result vars {X = ℤ} (bound_by_all ts ++ bound_suite body)
            (RangeInv (Kept ts t body known handling run fit tb) handling t i j) (RangeBody (Kept ts t body known handling run fit tb) handling t i j)
            (FS looping false false (Kept ts t body known handling run fit tb))
            (λ k. give (int_lt k j)) (λ k. give (int_lt k j)) (λ k. watched.bind watch m.classes.classes c' m.globals vars ts t (IntVal k) >> Suite body) (λ k. official.bind m.classes.classes c m.globals vars ts t (IntVal k) >> Suite₀ body) (λ k. k +ℤ pos 1)
            (λ k X Y z y st p. (all_known (Kept ts t body known handling run fit tb) z y st.keeps p.0, still_handles handling z y st.keeps p.1, has_still m.classes.classes X Y st.grows t (IntVal i) p.2, has_still m.classes.classes X Y st.grows t (IntVal j) p.3, p.4))
            (λ k X z good p. fine_give m vars good (int_lt k j) ((λ b. (p.0, p.1, p.2, p.3, p.4, less_tested k j b)), (λ b. (refl, p.0))))
            (λ k X z good p. fine_map m vars (fine_turn ts t body known handling run fit tb X z p.0 p.1 (fine_item_bound ts t body known handling run fit tb X z good p.0 (IntVal k) (between t X i j k r p.2 p.3 p.4 p.5)))
            (λ Y y st f q. turn_ends ts t body known handling run fit tb looping (RangeInv (Kept ts t body known handling run fit tb) handling t i j) (RangeBody (Kept ts t body known handling run fit tb) handling t i j) (λ k. give (int_lt k j)) (λ k. give (int_lt k j)) (λ x. Suite body) (λ x. Suite₀ body) (λ k. k +ℤ pos 1) k f Y y q.0 q.1
            (q.1, q.2, has_still m.classes.classes X Y q.3 t (IntVal i) p.2, has_still m.classes.classes X Y q.3 t (IntVal j) p.3, next_up i k p.4)))
            (suc n) i V u g (k, hd, h, h', self_up i)

        from_numbers : (t : Sort) (r : (t ≡ sort.Int) ⊎ (t ≡ sort.I64)) (fit : typing.items_fit m vars init result known ts t ≡ true) (tb : typing.suite_typed m vars init result (typing.in_loop_from m vars init result known ts t body) true handling body ≡ true) (x v : Value) (i j : ℤ) → x ≡ IntVal i → v ≡ IntVal j → (V : World utf8) (u : State) → Good m vars V u → NotNone (without (bound_by_all ts ++ bound_suite body) known) u.locals → Handles handling u → Has m.classes.classes t V x → Has m.classes.classes t V v
            → Ends looping false false (bound_by_all ts ++ bound_suite body) (without (bound_by_all ts ++ bound_suite body) known) V u
            (with_number x (λ i. with_number v (λ j. loop {X = ℤ} (suc n) (λ k. give (int_lt k j)) (λ k. watched.bind watch m.classes.classes c' m.globals vars ts t (IntVal k) >> Suite body) (λ k. k +ℤ pos 1) i)))
            (with_number x (λ i. with_number v (λ j. loop {X = ℤ} (suc n) (λ k. give (int_lt k j)) (λ k. official.bind m.classes.classes c m.globals vars ts t (IntVal k) >> Suite₀ body) (λ k. k +ℤ pos 1) i)))
        from_numbers t r fit tb x v i j ex ev V u g k hd h h' =
            subst (λ x. Ends looping false false (bound_by_all ts ++ bound_suite body) (without (bound_by_all ts ++ bound_suite body) known) V u
            (with_number x (λ i. with_number v (λ j. loop {X = ℤ} (suc n) (λ k. give (int_lt k j)) (λ k. watched.bind watch m.classes.classes c' m.globals vars ts t (IntVal k) >> Suite body) (λ k. k +ℤ pos 1) i)))
            (with_number x (λ i. with_number v (λ j. loop {X = ℤ} (suc n) (λ k. give (int_lt k j)) (λ k. official.bind m.classes.classes c m.globals vars ts t (IntVal k) >> Suite₀ body) (λ k. k +ℤ pos 1) i)))) (sym ex)
            (subst (λ v. Ends looping false false (bound_by_all ts ++ bound_suite body) (without (bound_by_all ts ++ bound_suite body) known) V u
            (with_number v (λ j. loop {X = ℤ} (suc n) (λ k. give (int_lt k j)) (λ k. watched.bind watch m.classes.classes c' m.globals vars ts t (IntVal k) >> Suite body) (λ k. k +ℤ pos 1) i))
            (with_number v (λ j. loop {X = ℤ} (suc n) (λ k. give (int_lt k j)) (λ k. official.bind m.classes.classes c m.globals vars ts t (IntVal k) >> Suite₀ body) (λ k. k +ℤ pos 1) i))) (sym ev)
            (over t r fit tb i j V u g k hd (subst (λ z. Has m.classes.classes t V z) ex h) (subst (λ z. Has m.classes.classes t V z) ev h')))

    -- ---- exceptions

    exception_fits : (t : Sort) (W : World utf8) (v : Value) → fits m.classes.classes (sort.Exc Exception) t ≡ true → Has m.classes.classes (sort.Exc Exception) W v → Has m.classes.classes t W v
    exception_fits sort.Int W v e h = absurd (cc)
    exception_fits sort.I64 W v e h = absurd (cc)
    exception_fits (sort.Optional t) W v e h = inr (exception_fits t W v e h)
    exception_fits sort.Bool W v e h = same_has m sound.tree W (sort.Exc Exception) sort.Bool v e h
    exception_fits sort.Str W v e h = same_has m sound.tree W (sort.Exc Exception) sort.Str v e h
    exception_fits sort.Nothing W v e h = same_has m sound.tree W (sort.Exc Exception) sort.Nothing v e h
    exception_fits (sort.ListOf t) W v e h = same_has m sound.tree W (sort.Exc Exception) (sort.ListOf t) v e h
    exception_fits (sort.DictOf j t) W v e h = same_has m sound.tree W (sort.Exc Exception) (sort.DictOf j t) v e h
    exception_fits (sort.TupleOf ts) W v e h = same_has m sound.tree W (sort.Exc Exception) (sort.TupleOf ts) v e h
    exception_fits (sort.Instance d) W v e h = same_has m sound.tree W (sort.Exc Exception) (sort.Instance d) v e h
    exception_fits (sort.Exc d) W v e h = same_has m sound.tree W (sort.Exc Exception) (sort.Exc d) v e h

    -- the name of a handler
    fine_name : (x : Option TypedTarget) (known : List ℕ) → typing.name_fits m vars init result x ≡ true → (W : World utf8) (s : State) → Good m vars W s → NotNone known s.locals → (v : Value) → IsThrown utf8 v
        → Fine m vars (Unit {0}) (bound_by_name x) W s (λ V u y. NotNone (bound_by_name x ++ known) u.locals) (watched.name_bound watch m.classes.classes c' m.globals vars x v) (official.name_bound m.classes.classes c m.globals vars x v)
    fine_name None known p W s g k v h = fine_give m vars g tt k
    fine_name (Some t) known p W s g k v h =
        let y = three (typing.is_name m vars init result t) (typing.target_typed m vars init result [] t) (fits m.classes.classes (sort.Exc Exception) (type_at m sound watch calls vars passes init self result t)) p in
        fine_assign m sound watch calls vars passes init self result t (sort.Exc Exception) v known (name_typed t [] known y.0 y.1) W s g k (exception_fits (type_at m sound watch calls vars passes init self result t) W v y.2 (h.0, h.1, every_exception h.0.class, h.2)) (λ no e. cc (sym h.1 ∙ e))

    -- a handler's body
    fine_handler : (x : Option TypedTarget) (body : TypedSuite) (known : List ℕ) (looping : Bool) → SuiteFine looping true body → typing.name_fits m vars init result x ≡ true → typing.suite_typed m vars init result (bound_by_name x ++ known) looping true body ≡ true → (W : World utf8) (s : State) → Good m vars W s → NotNone known s.locals → (v : Value) → IsThrown utf8 v
        → Ends looping (breaks_suite body) (is_closed body) (bound_by_name x ++ bound_suite body) [] W s (watched.handled_by watch m.classes.classes c' m.globals vars x (Suite body) v) (official.handled_by m.classes.classes c m.globals vars x (Suite₀ body) v)
    fine_handler x body known looping run nf st W s g k v h =
        fine_handling m result vars looping (breaks_suite body) (is_closed body) v g
        (fine_unset m result vars looping (breaks_suite body) (is_closed body) x (λ i q. out_left (bound_by_name x) (bound_suite body) i q)
        (fine_bind m vars (fine_more m vars (λ i q. out_left (bound_by_name x) (bound_suite body) i q) (fine_name x known nf W (record s { handled = v ∷ s.handled }) (record { store = g.store; globals = g.globals; locals = g.locals; handled = (h, g.handled); texts = g.texts }) k v h)) (λ V u st' y q.
        fine_map m vars (fine_more m vars (λ i r. out_right (bound_by_name x) (bound_suite body) i r) (run (bound_by_name x ++ known) st V u st'.good q (λ b. (v, s.handled, st'.keeps.handled))))
        (λ X z st'' f r. flow_names looping (breaks_suite body) (is_closed body) (after_suite single (bound_by_name x ++ known) body) [] X z f (λ cl j. none_known z.locals) r))))

    -- ---- leaving

    exception_value : (t : Sort) (V : World utf8) (v : Value) → is_exception t ≡ true → Has m.classes.classes t V v → IsThrown utf8 v
    exception_value (sort.Exc d) V v e h = (h.0, h.1, h.3)
    exception_value _ V v e h = absurd (cc)

    fine_raised : (e : Option TypedExpr) (known : List ℕ) (looping handling : Bool) → typing.raise_fits m vars init result known handling e ≡ true → (W : World utf8) (s : State) → Good m vars W s → NotNone known s.locals → Handles handling s
        → Ends looping false true [] known W s (watched.raised_by watch m.classes.classes c' m.globals vars e) (official.raised_by m.classes.classes c m.globals vars e)
    fine_raised None known looping handling p W s g k hd =
        let r = hd p in
        fine_seen m vars [] g (λ z. z.handled) raise_again raise_again (r.0 ∷ r.1) r.2 (fine_raise m vars g r.0 (subst (AllThrown utf8) r.2 g.handled).0)
    fine_raised (Some e) known looping handling p W s g k hd =
        let y = two (is_value m vars init known e) (is_exception (type_of e)) p in
        fine_bind m vars (val e known y.0 W s g k) (λ V u st v q.
        let h = exception_value (type_of e) V v y.1 (is_got m e V u v q) in
        subst (λ z. Ends looping false true [] known V u (raise_value z) (raise_value z)) (sym h.1) (fine_raise m vars st.good (ExcVal h.0) (h.0, refl, h.2)))

    none_value : (e : TypedExpr) (known : List ℕ) → is_value m vars init known e ≡ true → is_none_literal e ≡ true → type_of e ≡ sort.Nothing
    none_value (typed Nothing t place) known h e =
        nothing_is m.classes.classes t (five (parts_typed m vars init false known Nothing) (rule m vars init known Nothing t) (suits false Nothing t) (is_result_type (length m.classes.classes) t) (not (is_empty_call Nothing t)) h).1
    none_value (typed _ t place) known h e = absurd (cc)

    fine_returned : (o : Option Sort) → result ≡ o → (e : Option TypedExpr) (known : List ℕ) (looping : Bool) → typing.return_fits m vars init result known o e ≡ true → (W : World utf8) (s : State) → Good m vars W s → NotNone known s.locals
        → Fine m vars Value [] W s (λ V u v. ReturnsAs m result o V v) (watched.value_or watch m.classes.classes c' m.globals vars NoneVal e) (official.value_or m.classes.classes c m.globals vars NoneVal e)
    fine_returned None q e known looping p W s g k = absurd (cc)
    fine_returned (Some t) q None known looping p W s g k = fine_give m vars g NoneVal (subst (λ z. Has m.classes.classes z W NoneVal) (sym (nothing_is m.classes.classes t p)) refl)
    fine_returned (Some sort.Nothing) q (Some e) known looping p W s g k =
        let y = two (is_value m vars init known e) (is_none_literal e) p in
        fine_map m vars (val e known y.0 W s g k) (λ V u st v h. subst (λ z. Has m.classes.classes z V v) (none_value e known y.0 y.1) (is_got m e V u v h))
    fine_returned (Some t) q (Some e) known looping p W s g k =
        let y = two (is_value m vars init known e) (is_same_type (type_of e) t) p in
        fine_map m vars (val e known y.0 W s g k) (λ V u st v h. subst (λ z. Has m.classes.classes z V v) (one_type (type_of e) t y.1) (is_got m e V u v h))

    fine_failed : (e : Option TypedExpr) (known names : List ℕ) (looping : Bool) → typing.maybe_of_type m vars init result known sort.Str e ≡ true → (W : World utf8) (s : State) → Good m vars W s → NotNone known s.locals
        → Ends looping false false [] names W s (watched.fail_with watch m.classes.classes c' m.globals vars e) (official.fail_with m.classes.classes c m.globals vars e)
    fine_failed None known names looping p W s g k = fine_new m vars g _ [] (λ q. ascii_text [] refl)
    fine_failed (Some e) known names looping p W s g k =
        let y = two (is_value m vars init known e) (is_same_type (type_of e) sort.Str) p in
        fine_bind m vars (val e known y.0 W s g k) (λ V u st v q.
        let h : Has m.classes.classes sort.Str V v = subst (λ z. Has m.classes.classes z V v) (one_type (type_of e) sort.Str y.1) (is_got m e V u v q) in
        fine_needs m vars (has_text v) (ap has_text h.1) (fine_new m vars st.good _ _ (λ z. subst (λ y. is_utf8 (text_of y) ≡ true) (sym h.1) (h.2 z))))

    -- ---- each statement

    mutual
      pub fine_statement : (t : TypedStmt) (known : List ℕ) (looping handling : Bool) → typing.stmt_typed m vars init result known looping handling t ≡ true → (W : World utf8) (s : State) → Good m vars W s → NotNone known s.locals → Handles handling s
          → Ends looping (breaks t) (closes t) (bound t) (after single known t) W s (watched.statement watch m.classes.classes c' m.globals vars n t) (official.statement m.classes.classes c m.globals vars n t)
      fine_statement (on_line a line) known looping handling p W s g k hd = fine_act a known looping handling p W s g k hd

      fine_act : (a : TypedAct) (known : List ℕ) (looping handling : Bool) → typing.act_typed m vars init result known looping handling a ≡ true → (W : World utf8) (s : State) → Good m vars W s → NotNone known s.locals → Handles handling s
          → Ends looping (breaks_in a) (closes_in a) (bound_in a) (after_act single known a) W s (watched.act watch m.classes.classes c' m.globals vars n a) (official.act m.classes.classes c m.globals vars n a)
      fine_act (Do e) known looping handling p W s g k hd =
          fine_bind m vars (fine_alone e known p W s g k) (λ V u st v q. fine_give m vars st.good Goes (refl, all_known known s u st.keeps k))
      fine_act (Assign ts e) known looping handling p W s g k hd =
          let y = four (is_value m vars init known e) (typing.is_filled m vars init result ts) (typing.targets_typed m vars init result known ts (part_sorts (type_of e))) (typing.assignment_fits m vars init result ts (type_of e)) p in
          fine_bind m vars (fine_kept m vars (bound_by_all ts) (val e known y.0 W s g k)) (λ V u st v q.
          fine_bind m vars (fine_targets m sound watch calls vars passes init self result ts (type_of e) (own_sort e) v known y.1 y.2 (assign_binds ts (type_of e) y.3) V u st.good (all_known known s u q.0.keeps k) (is_got m e V u v q.1) (own_not_none m e V u v q.1)) (λ X z st' x h.
          fine_give m vars st'.good Goes (refl, h)))
      fine_act (Aug t o e b) known looping handling p W s g k hd =
          let y = three (is_value m vars init known e) (typing.target_typed m vars init result known t) (typing.update_fits m vars init result known t o (type_of e) b) p in
          fine_bind m vars (fine_update m sound watch calls vars passes init self result t o e b known y.0 y.1 y.2 W s g k) (λ V u st x h. fine_give m vars st.good Goes (refl, h))
      fine_act (Del e i) known looping handling p W s g k hd =
          let y = four (is_value m vars init known e) (is_value m vars init known i) (typing.is_dict_type m vars init result (type_of e)) (typing.is_there m vars init result (indexed (type_of e) (type_of i))) p in
          let d : _ = dict_type (type_of e) y.2 in
          fine_bind m vars (val e known y.0 W s g k) (λ V u st v q.
          fine_bind m vars (val i known y.1 V u st.good (all_known known s u st.keeps k)) (λ X z st' j q'.
          fine_bind m vars (fine_delete m vars [] st'.good (key_sort (type_of e)) (item_sort (type_of e)) v j (subst KeysOf d (keys_of_value m vars init false known e y.0)) (subst (λ t. Has m.classes.classes t X v) d (has_still m.classes.classes V X st'.grows (type_of e) v (is_got m e V u v q)))
          (subst (λ t. Has m.classes.classes t X j) (key_type (type_of e) (type_of i) d y.3) (is_got m i X z j q'))) (λ Y r st'' x h.
          fine_give m vars st''.good Goes (refl, all_known known z r st''.keeps (all_known known u z st'.keeps (all_known known s u st.keeps k))))))
        where
          dict_key : (j t c : Sort) → typing.is_there m vars init result (indexed (sort.DictOf j t) c) ≡ true → c ≡ j
          dict_key j t c h = by (is_same_type c j) refl h
            where
              by : (b : Bool) → is_same_type c j ≡ b → typing.is_there m vars init result (if b then Some t else None) ≡ true → c ≡ j
              by true q h = one_type c j q
              by false q h = absurd (cc)

          key_type : (x c : Sort) → x ≡ sort.DictOf (key_sort x) (item_sort x) → typing.is_there m vars init result (indexed x c) ≡ true → c ≡ key_sort x
          key_type x c e h = dict_key (key_sort x) (item_sort x) c (subst (λ z. typing.is_there m vars init result (indexed z c) ≡ true) e h)
      fine_act (If arms other) known looping handling p W s g k hd =
          let y = two (typing.has_arm m vars init result arms) _ p in
          fine_arms arms other known None looping handling (λ there q V u g' k' hd'. fine_suite other there looping handling q V u g' k' hd') y.1 W s g k hd
      fine_act (While test body) known looping handling p W s g k hd = fine_while test body known looping handling (λ there q V u g' k' hd'. fine_suite body there true handling q V u g' k' hd') p W s g k hd
      fine_act (ForRange ts a e body) known looping handling p W s g k hd = fine_for_range ts a e body known looping handling (λ there q V u g' k' hd'. fine_suite body there true handling q V u g' k' hd') p W s g k hd
      fine_act (ForList ts e body) known looping handling p W s g k hd = fine_for_list ts e body known looping handling (λ there q V u g' k' hd'. fine_suite body there true handling q V u g' k' hd') p W s g k hd
      fine_act (ForDict ts e body) known looping handling p W s g k hd = fine_for_dict ts e body known looping handling (λ there q V u g' k' hd'. fine_suite body there true handling q V u g' k' hd') p W s g k hd
      fine_act (Try body handlers last) known looping handling p W s g k hd =
          let N : List ℕ = without (bound_suite body ++ bound_handlers handlers ++ bound_last last) known in
          let y = five (typing.has_part m vars init result handlers last) (typing.is_body m vars init result body) (typing.suite_typed m vars init result known looping handling body) (typing.handlers_typed m vars init result N looping handlers) (typing.last_typed m vars init result N looping handling last) p in
          fine_map m vars
          (fine_finally m result vars looping (breaks_suite body || breaks_handlers handlers) (breaks_last last) (is_closed body && closed_handlers handlers) (closed_last last)
          (fine_catch m result vars
          (fine_map m vars (fine_more m vars (λ i q. out_left (bound_suite body) (bound_handlers handlers) i (out_left (bound_suite body ++ bound_handlers handlers) (bound_last last) i q)) (fine_suite body known looping handling y.2 W s g k hd))
          (λ V u st f q. flow_left looping (breaks_suite body) (breaks_handlers handlers) (is_closed body) (closed_handlers handlers) [] V u f (flow_names looping (breaks_suite body) (is_closed body) (after_suite single known body) [] V u f (λ cl h. none_known u.locals) q)))
          (λ V u st v t. fine_map m vars (fine_more m vars (λ i q. out_right (bound_suite body) (bound_handlers handlers) i (out_left (bound_suite body ++ bound_handlers handlers) (bound_last last) i q)) (fine_handle handlers N looping y.3 V u st.good (without_known (bound_suite body ++ bound_handlers handlers ++ bound_last last) known s u st.keeps k) v t))
          (λ X z st' f q. flow_right looping (breaks_suite body) (breaks_handlers handlers) (is_closed body) (closed_handlers handlers) [] X z f q)))
          (λ V u st. fine_more m vars (λ i q. out_right (bound_suite body ++ bound_handlers handlers) (bound_last last) i q) (fine_last last N looping handling y.4 V u st.good (without_known (bound_suite body ++ bound_handlers handlers ++ bound_last last) known s u st.keeps k) (still_handles handling s u st.keeps hd))))
          (λ V u st f q. flow_names looping (breaks_in (Try body handlers last)) (closes_in (Try body handlers last)) [] N V u f (λ cl h. without_known (bound_suite body ++ bound_handlers handlers ++ bound_last last) known s u st.keeps k) q)
      fine_act (Raise e) known looping handling p W s g k hd = fine_raised e known looping handling p W s g k hd
      fine_act (Return e) known looping handling p W s g k hd =
          fine_bind m vars (fine_returned result refl e known looping p W s g k) (λ V u st v q. fine_give m vars st.good (Returns v) q)
      fine_act Break known looping handling p W s g k hd = fine_give m vars g Breaks (p, refl)
      fine_act Continue known looping handling p W s g k hd = fine_give m vars g Continues p
      fine_act (Assert test message) known looping handling p W s g k hd =
          let y = two (typing.is_test m vars init result known test) (typing.maybe_of_type m vars init result known sort.Str message) p in
          fine_bind m vars (fine_test test known y.0 W s g k) (λ V u st h q.
          fine_if m vars h
          (λ is. fine_give m vars st.good Goes (refl, both_known (facts true test) known u.locals (subst (λ x. NotNone (facts x test) u.locals) is q.0) (all_known known s u st.keeps k)))
          (λ is. fine_failed message known (facts true test ++ known) looping y.1 V u st.good (all_known known s u st.keeps k)))
      fine_act Pass known looping handling p W s g k hd = fine_give m vars g Goes (refl, k)

      pub fine_suite : (b : TypedSuite) (known : List ℕ) (looping handling : Bool) → typing.suite_typed m vars init result known looping handling b ≡ true → (W : World utf8) (s : State) → Good m vars W s → NotNone known s.locals → Handles handling s
          → Ends looping (breaks_suite b) (is_closed b) (bound_suite b) (after_suite single known b) W s (Suite b) (Suite₀ b)
      fine_suite no_stmts known looping handling p W s g k hd = fine_give m vars g Goes (refl, k)
      fine_suite (stmt_then t more) known looping handling p W s g k hd =
          let y = two (typing.stmt_typed m vars init result known looping handling t) (typing.suite_typed m vars init result (after single known t) looping handling more) p in
          fine_bind m vars (fine_more m vars (λ i q. out_left (bound t) (bound_suite more) i q) (fine_statement t known looping handling y.0 W s g k hd)) (λ V u st f q.
          fine_flow_on m result vars looping (breaks t) (breaks_suite more) (closes t) (is_closed more) (after single known t) (after_suite single (after single known t) more) f (Suite more) (Suite₀ more) st.good q
          (λ h. fine_more m vars (λ i q. out_right (bound t) (bound_suite more) i q) (fine_suite more (after single known t) looping handling y.1 V u st.good h (still_handles handling s u st.keeps hd))))

      fine_arms : (arms : Arms) (other : TypedSuite) (known : List ℕ) (ends : Option (List ℕ)) (looping handling : Bool) → SuiteFine looping handling other
          → typing.arms_typed m vars init result known looping handling arms (λ there. typing.suite_typed m vars init result there looping handling other) ≡ true → (W : World utf8) (s : State) → Good m vars W s → NotNone known s.locals → Handles handling s
          → Ends looping (breaks_arms arms || breaks_suite other) (closed_arms arms && is_closed other) (bound_arms arms ++ bound_suite other) (known_at_end (after_arms single known ends arms (last_arm other))) W s
          (watched.first_arm watch m.classes.classes c' m.globals vars n arms (Suite other)) (official.first_arm m.classes.classes c m.globals vars n arms (Suite₀ other))
      fine_arms no_arms other known ends looping handling rest p W s g k hd =
          fine_map m vars (rest known p W s g k hd) (λ V u st f q. flow_names looping (breaks_suite other) (is_closed other) (after_suite single known other) (known_at_end (last_arm other known ends)) V u f (λ cl h. last_names other known ends u.locals cl h) q)
      fine_arms (arm_then test body more) other known ends looping handling rest p W s g k hd =
          let y = four (typing.is_test m vars init result known test) (typing.is_body m vars init result body) (typing.suite_typed m vars init result (facts true test ++ known) looping handling body) (typing.arms_typed m vars init result (facts false test ++ known) looping handling more (λ there. typing.suite_typed m vars init result there looping handling other)) p in
          let names : List ℕ = known_at_end (after_arms single known ends (arm_then test body more) (last_arm other)) in
          fine_bind m vars (fine_kept m vars (bound_arms (arm_then test body more) ++ bound_suite other) (fine_test test known y.0 W s g k)) (λ V u st h q.
          fine_if m vars h
          (λ is. fine_map m vars (fine_more m vars (λ i r. out_left (bound_suite body) (bound_arms more) i (out_left (bound_suite body ++ bound_arms more) (bound_suite other) i r))
          (fine_suite body (facts true test ++ known) looping handling y.2 V u st.good (both_known (facts true test) known u.locals (subst (λ x. NotNone (facts x test) u.locals) is q.1.0) (all_known known s u q.0.keeps k)) (still_handles handling s u st.keeps hd)))
          (λ X z st' f r. flow_left looping (breaks_suite body || breaks_arms more) (breaks_suite other) (is_closed body && closed_arms more) (is_closed other) names X z f (flow_left looping (breaks_suite body) (breaks_arms more) (is_closed body) (closed_arms more) names X z f
          (flow_names looping (breaks_suite body) (is_closed body) (after_suite single (facts true test ++ known) body) names X z f (λ cl j. arm_names other body more (facts false test ++ known) (after_suite single (facts true test ++ known) body) ends z.locals cl j) r))))
          (λ is. fine_map m vars (fine_more m vars (λ i r. both_out (bound_suite body) (bound_arms more) (bound_suite other) i r)
          (fine_arms more other (facts false test ++ known) (if is_closed body then ends else or_shared ends (after_suite single (facts true test ++ known) body)) looping handling rest y.3 V u st.good (both_known (facts false test) known u.locals (subst (λ x. NotNone (facts x test) u.locals) is q.1.0) (all_known known s u q.0.keeps k)) (still_handles handling s u st.keeps hd)))
          (λ X z st' f r. behind_first looping (breaks_suite body) (breaks_arms more) (breaks_suite other) (is_closed body) (closed_arms more) (is_closed other) names X z f r)))
        where
          both_out : (xs ys zs : List ℕ) (i : ℕ) → is_in ((xs ++ ys) ++ zs) i ≡ false → is_in (ys ++ zs) i ≡ false
          both_out xs ys zs i h = by (is_in (ys ++ zs) i) refl
            where
              by : (b : Bool) → is_in (ys ++ zs) i ≡ b → is_in (ys ++ zs) i ≡ false
              by false e = e
              by true e = either (in_append ys zs i e)
                where
                  either : (is_in ys i ≡ true) ⊎ (is_in zs i ≡ true) → is_in (ys ++ zs) i ≡ false
                  either (inl a) = absurd (cc (in_left (xs ++ ys) zs i (in_right xs ys i a)))
                  either (inr a) = absurd (cc (in_right (xs ++ ys) zs i a))

          behind_first : (l b1 b2 b3 c1 c2 c3 : Bool) (names : List ℕ) (V : World utf8) (u : State) (f : Flow) → FS l (b2 || b3) (c2 && c3) names V u f → FS l ((b1 || b2) || b3) ((c1 && c2) && c3) names V u f
          behind_first l b1 b2 b3 c1 c2 c3 names V u Goes p = (closed c1 c2 c3 p.0, p.1)
            where
              closed : (a b c : Bool) → (b && c) ≡ false → ((a && b) && c) ≡ false
              closed true b c e = e
              closed false b c e = refl
          behind_first l b1 b2 b3 c1 c2 c3 names V u Breaks p = (p.0, broken b1 b2 b3 p.1)
            where
              broken : (a b c : Bool) → (b || c) ≡ true → ((a || b) || c) ≡ true
              broken true b c e = refl
              broken false b c e = e
          behind_first l b1 b2 b3 c1 c2 c3 names V u Continues p = p
          behind_first l b1 b2 b3 c1 c2 c3 names V u (Returns v) p = p

      fine_handle : (hs : Handlers) (known : List ℕ) (looping : Bool) → typing.handlers_typed m vars init result known looping hs ≡ true → (W : World utf8) (s : State) → Good m vars W s → NotNone known s.locals → (v : Value) → IsThrown utf8 v
          → Ends looping (breaks_handlers hs) (closed_handlers hs) (bound_handlers hs) [] W s (watched.handle watch m.classes.classes c' m.globals vars n hs v) (official.handle m.classes.classes c m.globals vars n hs v)
      fine_handle no_handlers known looping p W s g k v h = fine_raise m vars g v h
      fine_handle (handler_then classes' x body more) known looping p W s g k v h =
          let y = five (typing.is_filled m vars init result classes') (typing.name_fits m vars init result x) (typing.is_body m vars init result body) (typing.suite_typed m vars init result (bound_by_name x ++ known) looping true body) (typing.handlers_typed m vars init result known looping more) p in
          fine_if m vars (catches classes' v)
          (λ is. fine_map m vars (fine_more m vars (λ i q. out_left (bound_by_name x ++ bound_suite body) (bound_handlers more) i q) (fine_handler x body known looping (λ there q V u g' k' hd'. fine_suite body there looping true q V u g' k' hd') y.1 y.3 W s g k v h))
          (λ V u st f q. flow_left looping (breaks_suite body) (breaks_handlers more) (is_closed body) (closed_handlers more) [] V u f q))
          (λ is. fine_map m vars (fine_more m vars (λ i q. out_right (bound_by_name x ++ bound_suite body) (bound_handlers more) i q) (fine_handle more known looping y.4 W s g k v h))
          (λ V u st f q. flow_right looping (breaks_suite body) (breaks_handlers more) (is_closed body) (closed_handlers more) [] V u f q))

      fine_last : (l : MaybeSuite) (known : List ℕ) (looping handling : Bool) → typing.last_typed m vars init result known looping handling l ≡ true → (W : World utf8) (s : State) → Good m vars W s → NotNone known s.locals → Handles handling s
          → Ends looping (breaks_last l) (closed_last l) (bound_last l) [] W s (watched.last_part watch m.classes.classes c' m.globals vars n l) (official.last_part m.classes.classes c m.globals vars n l)
      fine_last no_suite known looping handling p W s g k hd = fine_give m vars g Goes (refl, none_known s.locals)
      fine_last (some_suite body) known looping handling p W s g k hd =
          let y = two (typing.is_body m vars init result body) (typing.suite_typed m vars init result known looping handling body) p in
          fine_map m vars (fine_suite body known looping handling y.1 W s g k hd) (λ V u st f q. flow_names looping (breaks_suite body) (is_closed body) (after_suite single known body) [] V u f (λ cl h. none_known u.locals) q)
