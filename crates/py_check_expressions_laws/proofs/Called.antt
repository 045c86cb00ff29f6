-- What typing gives for calls stands well typed.
use Rattle.std.proofs.Common.{◌≡◌, ℕ, zero, suc, Bool, true, false, not, ◌&&◌, ◌||◌, ◌==◌, List, [], ◌∷◌, length, drop, nat_lt, slice_get, Option, Some, None, Ok, Err, refl, ap, sym, ◌∙◌, subst, if◌then◌else◌, arith}
use Rattle.std.proofs.lemmas.Bool.Decides.{nat_tests}
use Rattle.std.proofs.lemmas.Bool.{and_from, or_left, eqb-true, eq-eqb}
use Rattle.std.specs.Option.{option_and_then}
use Rattle.std.proofs.lemmas.Option.{same_Some, slice_get_within}
use Rattle.std.specs.List.{list_all}
use Rattle.std.specs.Str.{bytes_eq}
use Rattle.std.specs.Prelude.{codes}
use Rattle.value_core.specs.declared.exception.ExcClass.{ExcClass}
use Rattle.py_syntax.specs.declared.token.Span.{Span}
use Rattle.py_typed.specs.Sorts as sort
use Rattle.py_typed.specs.Sorts.{Sort, sorts_of}
use Rattle.py_typed.specs.Classes.{ClassEntry, Signature}
use Rattle.py_typed.specs.Order.{order, listed_order, method_along, method_of, attribute_of}
use Rattle.py_typed.specs.Fits.{is_same_type, are_same_types, is_number, is_nothing, fits, is_text}
use Rattle.py_typed.specs.Expressions as node
use Rattle.py_typed.specs.Expressions.{TypedExpr, TypedNode, TypedExprs, typed, type_of, exprs_of}
use Rattle.py_typed.specs.Statements.{Variable, TypedModule}
use Rattle.py_typed.specs.WellTypedExpr.{stands, rule, parts_typed, are_values, types_of, is_value_type, is_result_type, is_printable, is_sized, is_type, is_function, is_typed, is_trait_in, is_same_place, instance_of, call_fits, init_fits, make_fits, method_fits, super_fits}
use Rattle.py_typed.proofs.FitLemmas.{type_is_itself, and_left, and_right}
use Rattle.py_check_context.specs.Members as member
use Rattle.py_check_context.specs.Members.{Member}
use Rattle.py_check_context.specs.Context.{Context, some_signature, Wanted, free, test, wants, dropped, along, wants_some, wanted_in}
use Rattle.py_check_messages.specs.Seen.{Message, judged, rule as ruled_by}
use Rattle.py_check_coercions.specs.Values.{coerced}
use Rattle.py_check_coercions.specs.Rows.{Misfit, unfit, changed_row}
use Rattle.py_check_calls.specs.declared.callees.Single.{Single}
use Rattle.py_check_calls.specs.declared.callees.Single.TheVariants as one
use Rattle.py_check_calls.specs.Callees.{Callee, function, class, trait, super_init, print, input, range, single, exception, method, voiceless, uncalled, value}
use Rattle.py_check_calls.specs.Builtins.{gives_value, as_value, unprintable, printed, print_call, input_call, the_only, single_takes, single_made, single_given, single_call}
use Rattle.py_check_calls.specs.Exceptions.{exception_made, exception_call}
use Rattle.py_check_calls.specs.Methods.{Had, has_attribute, has_method, has_append, has_pop, has_untyped, none_has_not, has_not, instance_has, optional_has, list_has, some_has, look_up, read, params_of, had_row, method_row, pop_call, append_given, append_call}
use Rattle.py_check_calls.specs.Calls.{arguments_row, no_keys, positional, refused, takes, fitting, taken, init_name, call_made, call_of, call_by, signed_call, had_call, method_call, called}
use Rattle.py_check_expressions_laws.specs.WellTyped.{is_asked, is_good, Within, IsSigned, IsFunctionSigned, IsInitSigned, IsMethod}
use Rattle.py_check_expressions_laws.proofs.Given.{Gives, gives_is, gives_silent, gives_fails, gives_made, gives_behind, gives_rule, gives_judged}
use Rattle.py_check_expressions_laws.proofs.Types.{result_of_value}
use Rattle.py_check_expressions_laws.proofs.Stands.{stands_made, value_type, coerced_stands, value_good}
use Rattle.py_check_expressions_laws.proofs.Telling.{ok_same}
use Rattle.py_check_expressions_laws.proofs.Rows.{parts_taken, type_coerced, free_fits, types_changed, AllStand, RowSound, RowAsked, Sound, row_stands, stand_values, changed_all}
use Rattle.py_check_expressions_laws.proofs.Nodes.{if_ok, value_sound}

slice_in : {A : Type 0} (xs : List A) (i : ℕ) (x : A) → slice_get xs i ≡ Some x → nat_lt i (length xs) ≡ true
slice_in xs i x e = let l = slice_get_within xs i x e in grind (arith, nat_tests, l)

-- a length that is another
equal_lengths : (a b : ℕ) → (a == b) ≡ true → a ≡ b
equal_lengths a b h = eqb-true a b h

-- what holds of all that a call by a name and a signature makes
pub gives_by : (P : TypedExpr → Type 0) (C : Context) (w : Wanted) (span : Span) (keyed : Bool) (f : List ℕ) (s : Signature) (make : TypedExprs → TypedNode) (args : Option (List TypedExpr)) → ((es : List TypedExpr) → P (call_made span s make es)) → Gives (call_by C w span keyed f s make args) P
gives_by P C w span keyed f s make args p =
    gives_behind (λ (l : List TypedExpr). Unit {0}) P (positional span keyed args) (call_of C w span f s make) (record { each = λ l e. tt }) (record { each = λ b e. absurd (cc) })
    (λ es u. gives_made (λ (l : List TypedExpr). Unit {0}) P (call_made span s make) (judged span (taken C.classes w f s es)) (record { each = λ l e. tt }) (λ l u. p l))

module _ (m : TypedModule) (locals : List Variable) (init : Option ℕ) where
  four : (a b c d : Bool) → a ≡ true → b ≡ true → c ≡ true → d ≡ true → (a && b && c && d) ≡ true
  four a b c d p q r s = cc

  -- a call that is well typed alone is good where it gives a value, or none is asked for
  abbrev pub IsCall : List ℕ → TypedNode → Sort → Type 0
  IsCall others n t =
      (parts_typed m locals init false others n ≡ true) × (rule m locals init others n t ≡ true) × (Rattle.py_typed.specs.WellTypedExpr.suits false n t ≡ true) × (is_result_type (length m.classes.classes) t ≡ true) × (is_nothing t ≡ false → Rattle.py_typed.specs.WellTypedExpr.is_empty_call n t ≡ false)

  call_good : (w : Wanted) (others : List ℕ) (n : TypedNode) (t : Sort) (span : Span) → IsCall others n t → gives_value w t ≡ true → is_good m locals init w others (typed n t span) ≡ true
  call_good dropped others n t span h g =
      four (parts_typed m locals init false others n) (rule m locals init others n t) (Rattle.py_typed.specs.WellTypedExpr.suits false n t) (is_result_type (length m.classes.classes) t) h.0 h.1 h.2 h.3
  call_good free others n t span h g = value_good m locals init free others (typed n t span) (stands_made m locals init false others n t span h.0 h.1 h.2 h.3 (h.4 (not_true (is_nothing t) g)))
    where
      not_true : (b : Bool) → (false || not b) ≡ true → b ≡ false
      not_true true q = absurd (cc)
      not_true false q = refl
  call_good test others n t span h g = value_good m locals init test others (typed n t span) (stands_made m locals init false others n t span h.0 h.1 h.2 h.3 (h.4 (not_true (is_nothing t) g)))
    where
      not_true : (b : Bool) → (false || not b) ≡ true → b ≡ false
      not_true true q = absurd (cc)
      not_true false q = refl
  call_good (wants s) others n t span h g = value_good m locals init (wants s) others (typed n t span) (stands_made m locals init false others n t span h.0 h.1 h.2 h.3 (h.4 (not_true (is_nothing t) g)))
    where
      not_true : (b : Bool) → (false || not b) ≡ true → b ≡ false
      not_true true q = absurd (cc)
      not_true false q = refl

  -- where it may stand
  as_value_sound : (w : Wanted) (known f : List ℕ) (n : TypedNode) (t : Sort) (span : Span) (e : TypedExpr) → ((others : List ℕ) → Within known others → IsCall others n t) → as_value w f (typed n t span) ≡ Ok e → Sound m locals init w known e
  as_value_sound w known f n t span e h g =
      let r = if_ok (gives_value w t) (typed n t span) e _ g in
      subst (Sound m locals init w known) r.1 (λ others wi taken. call_good w others n t span (h others wi) r.0)

  is_one : true ≡ false → ⊥
  is_one r = cc

  -- ---- functions

  param_asked : (ps : List Sort) (i : ℕ) (o : Option Sort) → slice_get ps i ≡ o → list_all (is_value_type (length m.classes.classes)) ps ≡ true → is_asked (length m.classes.classes) (wants_some o) ≡ true
  param_asked ps i None e h = refl
  param_asked ps i (Some t) e h = result_of_value (length m.classes.classes) t (value_at ps i t e h)
    where
      value_at : (ps : List Sort) (i : ℕ) (t : Sort) → slice_get ps i ≡ Some t → list_all (is_value_type (length m.classes.classes)) ps ≡ true → is_value_type (length m.classes.classes) t ≡ true
      value_at [] i t e h = absurd (cc)
      value_at (p ∷ ps) zero t e h = subst (λ x. is_value_type (length m.classes.classes) x ≡ true) (same_Some p t e) (and_left (is_value_type (length m.classes.classes) p) (list_all (is_value_type (length m.classes.classes)) ps) h)
      value_at (p ∷ ps) (suc i) t e h = value_at ps i t e (and_right (is_value_type (length m.classes.classes) p) (list_all (is_value_type (length m.classes.classes)) ps) h)

  row_of_types : (ps : List Sort) → list_all (is_value_type (length m.classes.classes)) ps ≡ true → RowAsked m locals init (along ps)
  row_of_types ps h j = param_asked ps j (slice_get ps j) refl h

  pub params_asked : (i : ℕ) (s : Signature) → IsSigned m i s → RowAsked m locals init (along s.params)
  params_asked i s signed = row_of_types s.params signed.params

  -- arguments that were taken are those of the row, each as its parameter asks, and the call may stand there
  record IsTaken (w : Wanted) (s : Signature) (es fs : List TypedExpr) : Type 0 where
    pub number : length es ≡ length s.params
    pub fit : unfit m.classes.classes (along s.params) 0 es ≡ None
    pub are : changed_row (along s.params) 0 es ≡ fs
    pub gives : gives_value w s.ret ≡ true

  is_taken_so : (w : Wanted) (f : List ℕ) (s : Signature) (es fs : List TypedExpr) → taken m.classes.classes w f s es ≡ Ok fs → IsTaken w s es fs
  is_taken_so w f s es fs g = let r = numbered (length es == length s.params) g in by (unfit m.classes.classes (along s.params) 0 es) refl r.1 (equal_lengths (length es) (length s.params) r.0)
    where
      numbered : (b : Bool) → (if b then fitting m.classes.classes w f s es (unfit m.classes.classes (along s.params) 0 es) else Err (Rattle.py_check_messages.specs.Messages.wrong_number f (Rattle.std.specs.Fmt.decimal (length s.params)))) ≡ Ok fs → (b ≡ true) × (fitting m.classes.classes w f s es (unfit m.classes.classes (along s.params) 0 es) ≡ Ok fs)
      numbered true q = (refl, q)
      numbered false q = absurd (cc)

      by : (o : Option Misfit) → unfit m.classes.classes (along s.params) 0 es ≡ o → fitting m.classes.classes w f s es (unfit m.classes.classes (along s.params) 0 es) ≡ Ok fs → length es ≡ length s.params → IsTaken w s es fs
      by None u q l =
          let k = sym (ap (λ o. fitting m.classes.classes w f s es o) u) ∙ q in
          let r = if_ok (gives_value w s.ret) (changed_row (along s.params) 0 es) fs _ k in
          record { number = l; fit = u; are = r.1; gives = r.0 }
      by (Some x) u q l = let k = sym (ap (λ o. fitting m.classes.classes w f s es o) u) ∙ q in absurd (cc)

  -- a node that stands as a call wherever its arguments are well typed, of the types of the parameters
  abbrev MakesCall : List ℕ → Signature → (TypedExprs → TypedNode) → Type 0
  MakesCall known s make =
      (others : List ℕ) → Within known others → (fs : List TypedExpr) → are_values m locals init others (exprs_of fs) ≡ true → types_of m locals init (exprs_of fs) ≡ s.params → IsCall others (make (exprs_of fs)) s.ret

  made_by : (w : Wanted) (known : List ℕ) (span : Span) (f : List ℕ) (s : Signature) (make : TypedExprs → TypedNode) (es fs : List TypedExpr) → RowAsked m locals init (along s.params) → MakesCall known s make → RowSound m locals init (along s.params) 0 known es → taken m.classes.classes w f s es ≡ Ok fs → Sound m locals init w known (call_made span s make fs)
  made_by w known span f s make es fs asked makes h g =
      let t = is_taken_so w f s es fs g in
      subst (λ l. Sound m locals init w known (call_made span s make l)) t.are (λ others wi taken. call_good w others (make (exprs_of (changed_row (along s.params) 0 es))) s.ret span (makes others wi (changed_row (along s.params) 0 es)
      (stand_values m locals init others (changed_row (along s.params) 0 es) (changed_all m locals init others (along s.params) 0 es asked (row_stands m locals init (along s.params) 0 known others es h wi t.fit) t.fit))
      (types_changed m locals init s.params 0 es s.params refl t.number)) t.gives)

  fits_exactly : (o : Option Signature) (s : Signature) → o ≡ Some s → call_fits m locals init o s.params s.ret ≡ true
  fits_exactly o s e =
      ap (λ o. call_fits m locals init o s.params s.ret) e
      ∙ and_from (are_same_types (sorts_of s.params) (sorts_of s.params)) (is_same_type s.ret s.ret) (type_is_itself (sort.TupleOf (sorts_of s.params))) (type_is_itself s.ret)

  function_makes : (known : List ℕ) (i : ℕ) (s : Signature) → IsFunctionSigned m i s → MakesCall known s (node.Call i)
  function_makes known i s k others wi fs v types = (
    v,
    and_from (is_function (slice_get m.funcs i)) (call_fits m locals init (slice_get m.classes.signatures i) (types_of m locals init (exprs_of fs)) s.ret) k.function
        (ap (λ ts. call_fits m locals init (slice_get m.classes.signatures i) ts s.ret) types ∙ fits_exactly (slice_get m.classes.signatures i) s k.signed.is),
    refl,
    k.signed.ret,
    λ q. q,
  )

  -- ---- what an `__init__` takes

  abbrev pub Takes : Option ℕ → List Sort → Type 0
  Takes None params = params ≡ []
  Takes (Some f) params = (s : Signature) × IsInitSigned m f s × (s.params ≡ params)

  init_takes_them : (o : Option ℕ) (params : List Sort) → Takes o params → init_fits m locals init o params ≡ true
  init_takes_them None params e = ap (λ l. init_fits m locals init None l) e
  init_takes_them (Some f) params k =
      let s = k.0 in
      ap (λ l. init_fits m locals init (Some f) l) (sym k.2) ∙ ap (λ t. call_fits m locals init (slice_get m.classes.signatures f) s.params t) (sym k.1.nothing) ∙ fits_exactly (slice_get m.classes.signatures f) s k.1.signed.is

  pub takes_types : (o : Option ℕ) (params : List Sort) → Takes o params → list_all (is_value_type (length m.classes.classes)) params ≡ true
  takes_types None params e = ap (λ l. list_all (is_value_type (length m.classes.classes)) l) e
  takes_types (Some f) params k = ap (λ l. list_all (is_value_type (length m.classes.classes)) l) (sym k.2) ∙ k.1.signed.params

  -- a class of this number, of which there are instances, with what makes one
  pub record IsMade (n : ℕ) (params : List Sort) : Type 0 where
    pub whole : is_trait_in (slice_get m.classes.classes n) ≡ false
    pub makes : Takes (method_of m.classes.classes n (codes "__init__")) params

  found_class : (o : Option ClassEntry) (n : ℕ) → slice_get m.classes.classes n ≡ o → is_trait_in o ≡ false → nat_lt n (length m.classes.classes) ≡ true
  found_class None n e h = absurd (cc)
  found_class (Some entry) n e h = slice_in m.classes.classes n entry e

  not_so : (b : Bool) → b ≡ false → not b ≡ true
  not_so b h = ap not h

  class_makes : (known : List ℕ) (n : ℕ) (params : List Sort) → IsMade n params → MakesCall known (takes params (sort.Instance n)) (node.Make n)
  class_makes known n params k others wi fs v types =
      let there = found_class (slice_get m.classes.classes n) n refl k.whole in
      let whole = not_so (is_trait_in (slice_get m.classes.classes n)) k.whole in
      let made = ap (λ ts. init_fits m locals init (method_of m.classes.classes n (codes "__init__")) ts) types ∙ init_takes_them (method_of m.classes.classes n (codes "__init__")) params k.makes in (
        v,
        and_from (make_fits m locals init n (types_of m locals init (exprs_of fs))) (is_same_type (sort.Instance n) (sort.Instance n))
            (and_from (not (is_trait_in (slice_get m.classes.classes n))) (init_fits m locals init (method_of m.classes.classes n (codes "__init__")) (types_of m locals init (exprs_of fs))) whole made)
            (type_is_itself (sort.Instance n)),
        refl,
        there,
        λ q. refl,
      )

  -- `super().__init__` in the `__init__` of this class
  pub record IsNext (next : Option ℕ) (params : List Sort) : Type 0 where
    pub class : ℕ
    pub here : init ≡ Some class
    pub whole : is_trait_in (slice_get m.classes.classes class) ≡ false
    pub behind : method_along m.classes.classes (codes "__init__") (drop 1 (listed_order (order m.classes.classes class))) ≡ next
    pub takes : Takes next params

  same_place : (o : Option ℕ) → is_same_place o o ≡ true
  same_place None = refl
  same_place (Some f) = eq-eqb f f refl

  three_from : (a b c : Bool) → a ≡ true → b ≡ true → c ≡ true → (a && b && c) ≡ true
  three_from a b c p q r = cc

  super_makes : (known : List ℕ) (next : Option ℕ) (params : List Sort) → IsNext next params → MakesCall known (takes params sort.Nothing) (node.SuperInit next)
  super_makes known next params k others wi fs v types =
      let n = k.class in
      let row = drop 1 (listed_order (order m.classes.classes n)) in
      let ss = types_of m locals init (exprs_of fs) in (
        v,
        and_from (super_fits m locals init init next ss) true
            (ap (λ o. super_fits m locals init o next ss) k.here
            ∙ three_from (not (is_trait_in (slice_get m.classes.classes n))) (is_same_place next (method_along m.classes.classes (codes "__init__") row)) (init_fits m locals init next ss) (not_so (is_trait_in (slice_get m.classes.classes n)) k.whole)
            (ap (is_same_place next) k.behind ∙ same_place next) (ap (λ ts. init_fits m locals init next ts) types ∙ init_takes_them next params k.takes)) refl,
        refl,
        refl,
        λ r. absurd (is_one r),
      )

  method_makes : (known : List ℕ) (a : TypedExpr) (name : List ℕ) (n f : ℕ) (s : Signature) → bytes_eq name (codes "__init__") ≡ false → type_of a ≡ sort.Instance n → Sound m locals init free known a → IsMethod m n name f s → MakesCall known s (node.Method a name)
  method_makes known a name n f s other is sa k others wi fs v types =
      let ss = types_of m locals init (exprs_of fs) in
      let fit = ap (λ ts. call_fits m locals init (slice_get m.classes.signatures f) ts s.ret) types ∙ fits_exactly (slice_get m.classes.signatures f) s k.signed.is in (
        and_from (stands m locals init false others a) (are_values m locals init others (exprs_of fs)) (sa others wi refl) v,
        ap (λ t. method_fits m locals init (instance_of t) name ss s.ret) is ∙ rw (k.is, other, method_fits) fit,
        refl,
        k.signed.ret,
        λ q. q,
      )

  -- ---- builtins

  printable_all : (i : ℕ) (es : List TypedExpr) → unprintable i es ≡ None → list_all is_printable (types_of m locals init (exprs_of es)) ≡ true
  printable_all i [] h = refl
  printable_all i (e ∷ es) h = by (is_printable (type_of e)) refl h (λ k. printable_all (suc i) es k)
    where
      by : (b : Bool) → is_printable (type_of e) ≡ b → (if b then unprintable (suc i) es else Some (i, type_of e)) ≡ None → (unprintable (suc i) es ≡ None → list_all is_printable (types_of m locals init (exprs_of es)) ≡ true) → (is_printable (type_of e) && list_all is_printable (types_of m locals init (exprs_of es))) ≡ true
      by true p k next = and_from (is_printable (type_of e)) (list_all is_printable (types_of m locals init (exprs_of es))) p (next k)
      by false p k next = absurd (cc)

  print_sound : (w : Wanted) (known : List ℕ) (span : Span) (es : List TypedExpr) (e : TypedExpr) → RowSound m locals init (along []) 0 known es → print_call m.classes.classes w span es ≡ Ok e → Sound m locals init w known e
  print_sound w known span es e h g = by (unprintable 1 es) refl g
    where
      by : (o : Option (ℕ × Sort)) → unprintable 1 es ≡ o → printed m.classes.classes w span es o ≡ Ok e → Sound m locals init w known e
      by (Some p) u q = absurd (cc)
      by None u q =
          as_value_sound w known (codes "print") (node.Print (exprs_of es)) sort.Nothing span e (λ others wi. (
            stand_values m locals init others es (row_stands m locals init (along []) 0 known others es h wi (free_fits m.classes.classes 0 es)),
            and_from (list_all is_printable (types_of m locals init (exprs_of es))) true (printable_all 1 es u) refl,
            refl,
            refl,
            λ r. absurd (is_one r),
          )) q

  input_sound : (w : Wanted) (known : List ℕ) (span : Span) (es : List TypedExpr) (e : TypedExpr) → input_call span es ≡ Ok e → Sound m locals init w known e
  input_sound w known span [] e g =
      subst (Sound m locals init w known) (ok_same (typed node.Input sort.Str span) e g) (value_sound m locals init w known (typed node.Input sort.Str span) (λ others wi. stands_made m locals init false others node.Input sort.Str span refl refl refl refl refl))
  input_sound w known span (x ∷ es) e g = absurd (cc)

  -- an only argument
  pub only_is : (es : List TypedExpr) (x : TypedExpr) → the_only es ≡ Some x → es ≡ x ∷ []
  only_is [] x h = absurd (cc)
  only_is (y ∷ []) x h = ap (λ z. z ∷ []) (same_Some y x h)
  only_is (y ∷ z ∷ es) x h = absurd (cc)

  number_fits_int : (s : Sort) → is_number s ≡ true → fits m.classes.classes s sort.Int ≡ true
  number_fits_int s h = h

  number_fits_native : (s : Sort) → is_number s ≡ true → fits m.classes.classes s sort.I64 ≡ true
  number_fits_native s h = h

  made_sound : (w : Wanted) (known : List ℕ) (f : Single) (span : Span) (x : TypedExpr) → ((others : List ℕ) → Within known others → stands m locals init false others x ≡ true) → single_takes f (type_of x) ≡ true → Sound m locals init w known (single_made f span x)
  made_sound w known one.Len span x h t =
      value_sound m locals init w known (typed (node.Len x) sort.Int span) (λ others wi. stands_made m locals init false others (node.Len x) sort.Int span (h others wi) (and_from (is_sized (type_of x)) true t refl) refl refl refl)
  made_sound w known one.Str span x h t =
      value_sound m locals init w known (typed (node.ToStr x) sort.Str span) (λ others wi. stands_made m locals init false others (node.ToStr x) sort.Str span (h others wi) (and_from (is_printable (type_of x)) true t refl) refl refl refl)
  made_sound w known one.Int span x h t = value_sound m locals init w known (coerced sort.Int x) (λ others wi. (coerced_stands m locals init others sort.Int x (h others wi) (number_fits_int (type_of x) t) refl).0)
  made_sound w known one.I64 span x h t = value_sound m locals init w known (coerced sort.I64 x) (λ others wi. (coerced_stands m locals init others sort.I64 x (h others wi) (number_fits_native (type_of x) t) refl).0)

  first_of_row : (x : TypedExpr) (others : List ℕ) → AllStand m locals init others (x ∷ []) → stands m locals init false others x ≡ true
  first_of_row x others a = a.first

  single_sound : (w : Wanted) (known : List ℕ) (f : Single) (span : Span) (es : List TypedExpr) (e : TypedExpr) → RowSound m locals init (along []) 0 known es → single_call m.classes.classes f span es ≡ Ok e → Sound m locals init w known e
  single_sound w known f span es e h g = by (the_only es) refl g
    where
      by : (o : Option TypedExpr) → the_only es ≡ o → single_given m.classes.classes f span o ≡ Ok e → Sound m locals init w known e
      by None p q = absurd (cc)
      by (Some x) p q =
          let r = if_ok (single_takes f (type_of x)) (single_made f span x) e _ q in
          subst (Sound m locals init w known) r.1 (made_sound w known f span x (λ others wi. first_of_row x others (subst (AllStand m locals init others) (only_is es x p) (row_stands m locals init (along []) 0 known others es h wi (free_fits m.classes.classes 0 es)))) r.0)

  -- ---- exceptions

  text_same : (s : Sort) → is_text s ≡ true → is_same_type s sort.Str ≡ true
  text_same sort.Str h = refl
  text_same s h = absurd (cc)

  exception_sound : (w : Wanted) (known : List ℕ) (span : Span) (x : ExcClass) (es : List TypedExpr) (e : TypedExpr) → RowSound m locals init (along []) 0 known es → exception_call m.classes.classes span x es ≡ Ok e → Sound m locals init w known e
  exception_sound w known span x [] e h g =
      subst (Sound m locals init w known) (ok_same (exception_made span x None) e g)
      (value_sound m locals init w known (exception_made span x None) (λ others wi. stands_made m locals init false others (node.MakeExc x node.no_expr) (sort.Exc x) span refl (type_is_itself (sort.Exc x)) refl refl refl))
  exception_sound w known span x (a ∷ []) e h g =
      let r = if_ok (is_text (type_of a)) (exception_made span x (Some a)) e _ g in
      subst (Sound m locals init w known) r.1
      (value_sound m locals init w known (exception_made span x (Some a)) (λ others wi.
      stands_made m locals init false others (node.MakeExc x (node.some_expr a)) (sort.Exc x) span
      (first_of_row a others (row_stands m locals init (along []) 0 known others (a ∷ []) h wi (free_fits m.classes.classes 0 (a ∷ []))))
      (and_from (is_same_type (type_of a) sort.Str) (is_same_type (sort.Exc x) (sort.Exc x)) (text_same (type_of a) r.0) (type_is_itself (sort.Exc x))) refl refl refl))
  exception_sound w known span x (a ∷ b ∷ es) e h g = absurd (cc)

  -- ---- methods of lists

  append_sound : (w : Wanted) (known : List ℕ) (span : Span) (a : TypedExpr) (t : Sort) (es : List TypedExpr) (e : TypedExpr) → type_of a ≡ sort.ListOf t → Sound m locals init free known a → RowSound m locals init (along (t ∷ [])) 0 known es → append_call m.classes.classes w span a t es ≡ Ok e → Sound m locals init w known e
  append_sound w known span a t es e is sa h g = by (the_only es) refl g
    where
      first_taken : (x : TypedExpr) (others : List ℕ) → RowSound m locals init (along (t ∷ [])) 0 known (x ∷ []) → Within known others → fits m.classes.classes (type_of x) t ≡ true → stands m locals init false others x ≡ true
      first_taken x others a wi f = a.first others wi (or_left (fits m.classes.classes (type_of x) t) (parts_taken m.classes.classes (wants t) (type_of x)) f)

      by : (o : Option TypedExpr) → the_only es ≡ o → append_given m.classes.classes w span a t o ≡ Ok e → Sound m locals init w known e
      by None p q = absurd (cc)
      by (Some x) p q = given (fits m.classes.classes (type_of x) t) refl q
        where
          given : (b : Bool) → fits m.classes.classes (type_of x) t ≡ b
              → (if b then as_value w (codes "append") (typed (node.Append a (coerced t x)) sort.Nothing span) else Err (Rattle.py_check_messages.specs.Messages.wrong_argument m.classes.classes 1 (codes "append") (type_of x) (Rattle.py_typed.specs.TypeTexts.type_text m.classes.classes t))) ≡ Ok e → Sound m locals init w known e
          given false f k = absurd (cc)
          given true f k =
              as_value_sound w known (codes "append") (node.Append a (coerced t x)) sort.Nothing span e (λ others wi.
              let va = sa others wi refl in
              let vx = first_taken x others (subst (RowSound m locals init (along (t ∷ [])) 0 known) (only_is es x p) h) wi f in (
                and_from (stands m locals init false others a) (stands m locals init false others (coerced t x)) va (coerced_stands m locals init others t x vx f (result_of_value (length m.classes.classes) t (subst (λ s. is_result_type (length m.classes.classes) s ≡ true) is (value_type m locals init false others a va)))).0,
                and_from (is_same_type (type_of a) (sort.ListOf (type_of (coerced t x)))) true (ap (λ s. is_same_type s (sort.ListOf (type_of (coerced t x)))) is ∙ ap (λ s. is_same_type t s) (type_coerced t x) ∙ type_is_itself t) refl,
                refl,
                refl,
                λ r. absurd (is_one r),
              )) k

  pop_sound : (w : Wanted) (known : List ℕ) (span : Span) (a : TypedExpr) (t : Sort) (es : List TypedExpr) (e : TypedExpr) → type_of a ≡ sort.ListOf t → Sound m locals init free known a → pop_call span a t es ≡ Ok e → Sound m locals init w known e
  pop_sound w known span a t [] e is sa g =
      subst (Sound m locals init w known) (ok_same (typed (node.Pop a) t span) e g) (value_sound m locals init w known (typed (node.Pop a) t span) (λ others wi.
      let va = sa others wi refl in
      stands_made m locals init false others (node.Pop a) t span va (ap (λ s. is_same_type s (sort.ListOf t)) is ∙ type_is_itself t) refl
      (result_of_value (length m.classes.classes) t (subst (λ s. is_result_type (length m.classes.classes) s ≡ true) is (value_type m locals init false others a va))) refl))
  pop_sound w known span a t (x ∷ es) e is sa g = absurd (cc)

  -- ---- all calls

  pub keyless : (P : List TypedExpr → Type 0) (span : Span) (keyed : Bool) (args : Option (List TypedExpr)) → ((es : List TypedExpr) → args ≡ Some es → P es) → Gives (positional span keyed args) P
  keyless P span keyed None h = gives_silent P
  keyless P span keyed (Some es) h = gives_judged P span (no_keys keyed es) (λ fs q. by keyed q)
    where
      by : {fs : List TypedExpr} (b : Bool) → (if b then Err Rattle.py_check_messages.specs.Messages.keyword_argument else Ok es) ≡ Ok fs → P fs
      by {fs} true q = absurd (cc)
      by {fs} false q = subst P (ok_same es fs q) (h es refl)

  refused_never : (msg : Message) (es : List TypedExpr) (e : TypedExpr) → refused msg es ≡ Ok e → ⊥
  refused_never msg es e h = cc

  -- a call by a name and a signature
  by_sound : (C : Context) → C.classes ≡ m.classes.classes → (w : Wanted) (known : List ℕ) (span : Span) (keyed : Bool) (f : List ℕ) (s : Signature) (make : TypedExprs → TypedNode) (args : Option (List TypedExpr)) → RowAsked m locals init (along s.params) → MakesCall known s make
      → ((es : List TypedExpr) → args ≡ Some es → RowSound m locals init (along s.params) 0 known es) → Gives (call_by C w span keyed f s make args) (Sound m locals init w known)
  by_sound C same w known span keyed f s make args asked makes h =
      gives_behind (RowSound m locals init (along s.params) 0 known) (Sound m locals init w known) (positional span keyed args) (call_of C w span f s make) (keyless (RowSound m locals init (along s.params) 0 known) span keyed args h)
      (record { each = λ b e. absurd (cc) }) (λ es q. gives_made (λ fs. taken C.classes w f s es ≡ Ok fs) (Sound m locals init w known) (call_made span s make) (judged span (taken C.classes w f s es)) (gives_judged (λ fs. taken C.classes w f s es ≡ Ok fs) span (taken C.classes w f s es) (λ fs g. g))
      (λ fs g. made_by w known span f s make es fs asked makes q (sym (ap (λ k. taken k w f s es) same) ∙ g)))

  -- what arguments are refused
  refused_sound : (w : Wanted) (known : List ℕ) (span : Span) (keyed : Bool) (msg : Message) (args : Option (List TypedExpr)) → Gives (ruled_by span (refused msg) (positional span keyed args)) (Sound m locals init w known)
  refused_sound w known span keyed msg args =
      gives_rule (λ (l : List TypedExpr). Unit {0}) (Sound m locals init w known) span (refused msg) (positional span keyed args) (keyless (λ l. Unit {0}) span keyed args (λ es q. tt)) (λ es q e g. absurd (refused_never msg es e g))

-- ---- what a value has under a name

instance_attribute : (o : Option Member) (s : Sort) → instance_has o ≡ has_attribute s → o ≡ Some (member.attribute s)
instance_attribute None s h = absurd (cc)
instance_attribute (Some (member.attribute t)) s h = cc
instance_attribute (Some member.untyped) s h = absurd (cc)
instance_attribute (Some (member.unknown place)) s h = absurd (cc)
instance_attribute (Some (member.method f)) s h = absurd (cc)

instance_method : (o : Option Member) (f : ℕ) → instance_has o ≡ has_method f → o ≡ Some (member.method f)
instance_method None f h = absurd (cc)
instance_method (Some (member.attribute t)) f h = absurd (cc)
instance_method (Some member.untyped) f h = absurd (cc)
instance_method (Some (member.unknown place)) f h = absurd (cc)
instance_method (Some (member.method g)) f h = cc

-- only an instance has an attribute or a method of a class, and only a list those of lists
abbrev is_of_class : Had → Bool
is_of_class (has_attribute t) = true
is_of_class (has_method f) = true
is_of_class h = false

abbrev is_of_list : Had → Bool
is_of_list (has_append t) = true
is_of_list (has_pop t) = true
is_of_list h = false

optional_not_of_class : (o : Option Member) → is_of_class (optional_has o) ≡ false
optional_not_of_class None = refl
optional_not_of_class (Some (member.attribute t)) = refl
optional_not_of_class (Some member.untyped) = refl
optional_not_of_class (Some (member.unknown place)) = refl
optional_not_of_class (Some (member.method f)) = refl

optional_not_of_list : (o : Option Member) → is_of_list (optional_has o) ≡ false
optional_not_of_list None = refl
optional_not_of_list (Some (member.attribute t)) = refl
optional_not_of_list (Some member.untyped) = refl
optional_not_of_list (Some (member.unknown place)) = refl
optional_not_of_list (Some (member.method f)) = refl

instance_not_of_list : (o : Option Member) → is_of_list (instance_has o) ≡ false
instance_not_of_list None = refl
instance_not_of_list (Some (member.attribute t)) = refl
instance_not_of_list (Some member.untyped) = refl
instance_not_of_list (Some (member.unknown place)) = refl
instance_not_of_list (Some (member.method f)) = refl

list_not_of_class : (t : Sort) (b d : Bool) → is_of_class (if b then has_append t else (if d then has_pop t else has_not)) ≡ false
list_not_of_class t true d = refl
list_not_of_class t false true = refl
list_not_of_class t false false = refl

module _ (member_of : ℕ → List ℕ → Option Member) where
  some_not_of_class : (s : Sort) (a : List ℕ) → is_of_class (some_has member_of s a) ≡ false
  some_not_of_class (sort.Instance n) a = optional_not_of_class (member_of n a)
  some_not_of_class sort.Int a = refl
  some_not_of_class sort.I64 a = refl
  some_not_of_class sort.Bool a = refl
  some_not_of_class sort.Str a = refl
  some_not_of_class sort.Nothing a = refl
  some_not_of_class (sort.ListOf t) a = refl
  some_not_of_class (sort.DictOf k t) a = refl
  some_not_of_class (sort.TupleOf ts) a = refl
  some_not_of_class (sort.Optional t) a = refl
  some_not_of_class (sort.Exc x) a = refl

  some_not_of_list : (s : Sort) (a : List ℕ) → is_of_list (some_has member_of s a) ≡ false
  some_not_of_list (sort.Instance n) a = optional_not_of_list (member_of n a)
  some_not_of_list sort.Int a = refl
  some_not_of_list sort.I64 a = refl
  some_not_of_list sort.Bool a = refl
  some_not_of_list sort.Str a = refl
  some_not_of_list sort.Nothing a = refl
  some_not_of_list (sort.ListOf t) a = refl
  some_not_of_list (sort.DictOf k t) a = refl
  some_not_of_list (sort.TupleOf ts) a = refl
  some_not_of_list (sort.Optional t) a = refl
  some_not_of_list (sort.Exc x) a = refl

  -- what has a member of a class is an instance of it
  pub class_member : (s : Sort) (a : List ℕ) (h : Had) → look_up member_of s a ≡ h → is_of_class h ≡ true → (n : ℕ) × (s ≡ sort.Instance n) × (instance_has (member_of n a) ≡ h)
  class_member (sort.Instance n) a h e q = (n, refl, e)
  class_member (sort.Optional s) a h e q = let x = sym (some_not_of_class s a) ∙ ap is_of_class e ∙ q in absurd (cc)
  class_member (sort.ListOf t) a h e q = let x = sym (list_not_of_class t (bytes_eq a (codes "append")) (bytes_eq a (codes "pop"))) ∙ ap is_of_class e ∙ q in absurd (cc)
  class_member sort.Int a h e q = let x = ap is_of_class e ∙ q in absurd (cc)
  class_member sort.I64 a h e q = let x = ap is_of_class e ∙ q in absurd (cc)
  class_member sort.Bool a h e q = let x = ap is_of_class e ∙ q in absurd (cc)
  class_member sort.Str a h e q = let x = ap is_of_class e ∙ q in absurd (cc)
  class_member sort.Nothing a h e q = let x = ap is_of_class e ∙ q in absurd (cc)
  class_member (sort.DictOf k t) a h e q = let x = ap is_of_class e ∙ q in absurd (cc)
  class_member (sort.TupleOf ts) a h e q = let x = ap is_of_class e ∙ q in absurd (cc)
  class_member (sort.Exc x) a h e q = let y = ap is_of_class e ∙ q in absurd (cc)

  -- and what has a method of lists is a list
  pub list_member : (s : Sort) (a : List ℕ) (h : Had) → look_up member_of s a ≡ h → is_of_list h ≡ true → (t : Sort) × (s ≡ sort.ListOf t) × (list_has t a ≡ h)
  list_member (sort.ListOf t) a h e q = (t, refl, e)
  list_member (sort.Instance n) a h e q = let x = sym (instance_not_of_list (member_of n a)) ∙ ap is_of_list e ∙ q in absurd (cc)
  list_member (sort.Optional s) a h e q = let x = sym (some_not_of_list s a) ∙ ap is_of_list e ∙ q in absurd (cc)
  list_member sort.Int a h e q = let x = ap is_of_list e ∙ q in absurd (cc)
  list_member sort.I64 a h e q = let x = ap is_of_list e ∙ q in absurd (cc)
  list_member sort.Bool a h e q = let x = ap is_of_list e ∙ q in absurd (cc)
  list_member sort.Str a h e q = let x = ap is_of_list e ∙ q in absurd (cc)
  list_member sort.Nothing a h e q = let x = ap is_of_list e ∙ q in absurd (cc)
  list_member (sort.DictOf k t) a h e q = let x = ap is_of_list e ∙ q in absurd (cc)
  list_member (sort.TupleOf ts) a h e q = let x = ap is_of_list e ∙ q in absurd (cc)
  list_member (sort.Exc x) a h e q = let y = ap is_of_list e ∙ q in absurd (cc)

append_of : (t s : Sort) (b d : Bool) → (if b then has_append t else (if d then has_pop t else has_not)) ≡ has_append s → t ≡ s
append_of t s true d e = cc
append_of t s false true e = absurd (cc)
append_of t s false false e = absurd (cc)

pop_of : (t s : Sort) (b d : Bool) → (if b then has_append t else (if d then has_pop t else has_not)) ≡ has_pop s → t ≡ s
pop_of t s true d e = absurd (cc)
pop_of t s false true e = cc
pop_of t s false false e = absurd (cc)

module _ (C : Context) (m : TypedModule) (locals : List Variable) (init : Option ℕ) (same : C.classes ≡ m.classes.classes) where
  -- what is known of members: an attribute has its type, and a method with a signature is one of the module's
  pub record MembersKnown : Type 0 where
    pub attributes : (n : ℕ) (a : List ℕ) (t : Sort) → C.member n a ≡ Some (member.attribute t) → attribute_of m.classes.classes n a ≡ Some t
    pub types : (n : ℕ) (a : List ℕ) (t : Sort) → attribute_of m.classes.classes n a ≡ Some t → is_value_type (length m.classes.classes) t ≡ true
    pub methods : (n : ℕ) (a : List ℕ) (f : ℕ) (s : Signature) → C.member n a ≡ Some (member.method f) → some_signature (slice_get C.signatures f) ≡ Some s → IsMethod m n a f s

  -- what is known of a callee
  abbrev pub CalleeKnown : Callee → Type 0
  CalleeKnown (function x i s) = IsFunctionSigned m i s
  CalleeKnown (class x n params) = IsMade m locals init n params
  CalleeKnown (trait x params) = list_all (is_value_type (length m.classes.classes)) params ≡ true
  CalleeKnown (super_init next params) = IsNext m locals init next params
  CalleeKnown f = Unit {0}

  module _ (K : MembersKnown) where
    list_of_append : (s t : Sort) (a : List ℕ) → look_up C.member s a ≡ has_append t → s ≡ sort.ListOf t
    list_of_append s t a e = let r = list_member C.member s a (has_append t) e refl in r.1 ∙ ap sort.ListOf (append_of r.0 t (bytes_eq a (codes "append")) (bytes_eq a (codes "pop")) r.2)

    list_of_pop : (s t : Sort) (a : List ℕ) → look_up C.member s a ≡ has_pop t → s ≡ sort.ListOf t
    list_of_pop s t a e = let r = list_member C.member s a (has_pop t) e refl in r.1 ∙ ap sort.ListOf (pop_of r.0 t (bytes_eq a (codes "append")) (bytes_eq a (codes "pop")) r.2)

    -- ---- attributes

    attribute_sound : (w : Wanted) (known : List ℕ) (span : Span) (e : TypedExpr) (a : List ℕ) (h : Had) → look_up C.member (type_of e) a ≡ h → Sound m locals init free known e → Gives (read C.classes span e a h) (Sound m locals init w known)
    attribute_sound w known span e a (has_attribute t) q se =
        let r = class_member C.member (type_of e) a (has_attribute t) q refl in
        let k = K.attributes r.0 a t (instance_attribute (C.member r.0 a) t r.2) in
        gives_is (Sound m locals init w known) (typed (node.Attr e a) t span) (value_sound m locals init w known (typed (node.Attr e a) t span) (λ others wi.
        stands_made m locals init false others (node.Attr e a) t span (se others wi refl)
        (ap (λ s. is_type (option_and_then (λ c. attribute_of m.classes.classes c a) (instance_of s)) t) r.1 ∙ ap (λ o. is_type o t) k ∙ type_is_itself t) refl (result_of_value (length m.classes.classes) t (K.types r.0 a t k)) refl))
    attribute_sound w known span e a (has_method f) q se = gives_fails (Sound m locals init w known) span _
    attribute_sound w known span e a (has_append t) q se = gives_fails (Sound m locals init w known) span _
    attribute_sound w known span e a (has_pop t) q se = gives_fails (Sound m locals init w known) span _
    attribute_sound w known span e a has_untyped q se = gives_silent (Sound m locals init w known)
    attribute_sound w known span e a none_has_not q se = gives_fails (Sound m locals init w known) span _
    attribute_sound w known span e a has_not q se = gives_fails (Sound m locals init w known) span _

    pub read_sound : (w : Wanted) (known : List ℕ) (span : Span) (e : TypedExpr) (a : List ℕ) → Sound m locals init free known e → Gives (read C.classes span e a (look_up C.member (type_of e) a)) (Sound m locals init w known)
    read_sound w known span e a se = attribute_sound w known span e a (look_up C.member (type_of e) a) refl se

    -- ---- methods

    signed_sound : (w : Wanted) (known : List ℕ) (span : Span) (keyed : Bool) (name : List ℕ) (a : TypedExpr) (n f : ℕ) (o : Option Signature) (args : Option (List TypedExpr)) → bytes_eq name (codes "__init__") ≡ false → some_signature (slice_get C.signatures f) ≡ o → type_of a ≡ sort.Instance n → C.member n name ≡ Some (member.method f) → Sound m locals init free known a
        → ((es : List TypedExpr) → args ≡ Some es → RowSound m locals init (along (params_of o)) 0 known es) → Gives (signed_call C w span keyed name a o args) (Sound m locals init w known)
    signed_sound w known span keyed name a n f None args other eo is mem sa h = gives_silent (Sound m locals init w known)
    signed_sound w known span keyed name a n f (Some s) args other eo is mem sa h =
        let k = K.methods n name f s mem eo in
        by_sound m locals init C same w known span keyed name s (node.Method a name) args (params_asked m locals init f s k.signed) (method_makes m locals init known a name n f s other is sa k) h

    had_sound : (w : Wanted) (known : List ℕ) (span : Span) (keyed : Bool) (name : List ℕ) (a : TypedExpr) (o : Had) (args : Option (List TypedExpr)) → bytes_eq name (codes "__init__") ≡ false → look_up C.member (type_of a) name ≡ o → Sound m locals init free known a
        → ((es : List TypedExpr) → args ≡ Some es → RowSound m locals init (had_row C o) 0 known es) → Gives (had_call C w span keyed name a o args) (Sound m locals init w known)
    had_sound w known span keyed name a (has_method f) args other q sa h =
        let r = class_member C.member (type_of a) name (has_method f) q refl in
        signed_sound w known span keyed name a r.0 f (some_signature (slice_get C.signatures f)) args other refl r.1 (instance_method (C.member r.0 name) f r.2) sa h
    had_sound w known span keyed name a (has_append t) args other q sa h =
        gives_rule (RowSound m locals init (along (t ∷ [])) 0 known) (Sound m locals init w known) span (append_call C.classes w span a t) (positional span keyed args) (keyless m locals init (RowSound m locals init (along (t ∷ [])) 0 known) span keyed args h)
        (λ es r e g. append_sound m locals init w known span a t es e (list_of_append (type_of a) t name q) sa r (sym (ap (λ k. append_call k w span a t es) same) ∙ g))
    had_sound w known span keyed name a (has_pop t) args other q sa h =
        gives_rule (RowSound m locals init (along []) 0 known) (Sound m locals init w known) span (pop_call span a t) (positional span keyed args) (keyless m locals init (RowSound m locals init (along []) 0 known) span keyed args h)
        (λ es r e g. pop_sound m locals init w known span a t es e (list_of_pop (type_of a) t name q) sa g)
    had_sound w known span keyed name a (has_attribute t) args other q sa h = refused_sound m locals init w known span keyed _ args
    had_sound w known span keyed name a has_untyped args other q sa h = gives_silent (Sound m locals init w known)
    had_sound w known span keyed name a none_has_not args other q sa h = refused_sound m locals init w known span keyed _ args
    had_sound w known span keyed name a has_not args other q sa h = refused_sound m locals init w known span keyed _ args

    method_sound : (w : Wanted) (known : List ℕ) (span : Span) (keyed : Bool) (name : List ℕ) (a : TypedExpr) (args : Option (List TypedExpr)) → Sound m locals init free known a → ((es : List TypedExpr) → args ≡ Some es → RowSound m locals init (method_row C name (type_of a)) 0 known es) → Gives (method_call C w span keyed name a args) (Sound m locals init w known)
    method_sound w known span keyed name a args sa h = by (bytes_eq name (codes "__init__")) refl h
      where
        by : (b : Bool) → bytes_eq name (codes "__init__") ≡ b → ((es : List TypedExpr) → args ≡ Some es → RowSound m locals init (if b then along [] else had_row C (look_up C.member (type_of a) name)) 0 known es)
            → Gives (if b then ruled_by span (refused Rattle.py_check_messages.specs.Messages.not_callable) (positional span keyed args) else had_call C w span keyed name a (look_up C.member (type_of a) name) args) (Sound m locals init w known)
        by true q g = refused_sound m locals init w known span keyed _ args
        by false q g = had_sound w known span keyed name a (look_up C.member (type_of a) name) args q refl sa g

    -- ---- all calls

    pub called_sound : (w : Wanted) (known : List ℕ) (span : Span) (keyed : Bool) (f : Callee) (p : Option TypedExpr) (args : Option (List TypedExpr)) → CalleeKnown f → ((a : TypedExpr) → p ≡ Some a → Sound m locals init free known a)
        → ((es : List TypedExpr) → args ≡ Some es → RowSound m locals init (arguments_row C f p) 0 known es) → Gives (called C w span keyed f p args) (Sound m locals init w known)
    called_sound w known span keyed (function x i s) p args k sp h = by_sound m locals init C same w known span keyed x s (node.Call i) args (params_asked m locals init i s k.signed) (function_makes m locals init known i s k) h
    called_sound w known span keyed (class x n params) p args k sp h =
        by_sound m locals init C same w known span keyed x (takes params (sort.Instance n)) (node.Make n) args (row_of_types m locals init params (takes_types m locals init (method_of m.classes.classes n (codes "__init__")) params k.makes)) (class_makes m locals init known n params k) h
    called_sound w known span keyed (trait x params) p args k sp h = refused_sound m locals init w known span keyed _ args
    called_sound w known span keyed (super_init next params) p args k sp h =
        by_sound m locals init C same w known span keyed init_name (takes params sort.Nothing) (node.SuperInit next) args (row_of_types m locals init params (takes_types m locals init next params k.takes)) (super_makes m locals init known next params k) h
    called_sound w known span keyed print p args k sp h =
        gives_rule (RowSound m locals init (along []) 0 known) (Sound m locals init w known) span (print_call C.classes w span) (positional span keyed args) (keyless m locals init (RowSound m locals init (along []) 0 known) span keyed args h)
        (λ es q e g. print_sound m locals init w known span es e q (sym (ap (λ k. print_call k w span es) same) ∙ g))
    called_sound w known span keyed input p args k sp h =
        gives_rule (RowSound m locals init (along []) 0 known) (Sound m locals init w known) span (input_call span) (positional span keyed args) (keyless m locals init (RowSound m locals init (along []) 0 known) span keyed args h)
        (λ es q e g. input_sound m locals init w known span es e g)
    called_sound w known span keyed range p args k sp h = refused_sound m locals init w known span keyed _ args
    called_sound w known span keyed (single f) p args k sp h =
        gives_rule (RowSound m locals init (along []) 0 known) (Sound m locals init w known) span (single_call C.classes f span) (positional span keyed args) (keyless m locals init (RowSound m locals init (along []) 0 known) span keyed args h)
        (λ es q e g. single_sound m locals init w known f span es e q (sym (ap (λ k. single_call k f span es) same) ∙ g))
    called_sound w known span keyed (exception x) p args k sp h =
        gives_rule (RowSound m locals init (along []) 0 known) (Sound m locals init w known) span (exception_call C.classes span x) (positional span keyed args) (keyless m locals init (RowSound m locals init (along []) 0 known) span keyed args h)
        (λ es q e g. exception_sound m locals init w known span x es e q (sym (ap (λ k. exception_call k span x es) same) ∙ g))
    called_sound w known span keyed (method f) None args k sp h = gives_silent (Sound m locals init w known)
    called_sound w known span keyed (method f) (Some a) args k sp h = method_sound w known span keyed f a args (sp a refl) h
    called_sound w known span keyed voiceless p args k sp h = gives_silent (Sound m locals init w known)
    called_sound w known span keyed uncalled p args k sp h = refused_sound m locals init w known span keyed _ args
    called_sound w known span keyed value None args k sp h = gives_silent (Sound m locals init w known)
    called_sound w known span keyed value (Some a) args k sp h = refused_sound m locals init w known span keyed _ args

    -- ---- what the arguments are there for is a type of the table

    signed_asked : (n f : ℕ) (name : List ℕ) (o : Option Signature) (i : ℕ) → some_signature (slice_get C.signatures f) ≡ o → C.member n name ≡ Some (member.method f) → is_asked (length m.classes.classes) (wanted_in (along (params_of o)) i) ≡ true
    signed_asked n f name None i eo mem = refl
    signed_asked n f name (Some s) i eo mem = params_asked m locals init f s (K.methods n name f s mem eo).signed i

    had_asked : (name : List ℕ) (a : TypedExpr) (o : Had) (i : ℕ) → look_up C.member (type_of a) name ≡ o → is_result_type (length m.classes.classes) (type_of a) ≡ true → is_asked (length m.classes.classes) (wanted_in (had_row C o) i) ≡ true
    had_asked name a (has_method f) i q r =
        let c = class_member C.member (type_of a) name (has_method f) q refl in
        signed_asked c.0 f name (some_signature (slice_get C.signatures f)) i refl (instance_method (C.member c.0 name) f c.2)
    had_asked name a (has_append t) zero q r = result_of_value (length m.classes.classes) t (subst (λ s. is_result_type (length m.classes.classes) s ≡ true) (list_of_append (type_of a) t name q) r)
    had_asked name a (has_append t) (suc i) q r = refl
    had_asked name a (has_pop t) i q r = refl
    had_asked name a (has_attribute t) i q r = refl
    had_asked name a has_untyped i q r = refl
    had_asked name a none_has_not i q r = refl
    had_asked name a has_not i q r = refl

    method_asked : (name : List ℕ) (a : TypedExpr) (i : ℕ) → is_result_type (length m.classes.classes) (type_of a) ≡ true → is_asked (length m.classes.classes) (wanted_in (method_row C name (type_of a)) i) ≡ true
    method_asked name a i r = by (bytes_eq name (codes "__init__"))
      where
        by : (b : Bool) → is_asked (length m.classes.classes) (wanted_in (if b then along [] else had_row C (look_up C.member (type_of a) name)) i) ≡ true
        by true = refl
        by false = had_asked name a (look_up C.member (type_of a) name) i refl r

    pub row_asked : (known : List ℕ) (f : Callee) (p : Option TypedExpr) → CalleeKnown f → ((a : TypedExpr) → p ≡ Some a → is_result_type (length m.classes.classes) (type_of a) ≡ true) → RowAsked m locals init (arguments_row C f p)
    row_asked known (function x i s) p k sp j = params_asked m locals init i s k.signed j
    row_asked known (class x n params) p k sp j = row_of_types m locals init params (takes_types m locals init (method_of m.classes.classes n (codes "__init__")) params k.makes) j
    row_asked known (trait x params) p k sp j = row_of_types m locals init params k j
    row_asked known (super_init next params) p k sp j = row_of_types m locals init params (takes_types m locals init next params k.takes) j
    row_asked known (method f) None k sp i = refl
    row_asked known (method f) (Some a) k sp i = method_asked f a i (sp a refl)
    row_asked known print p k sp i = refl
    row_asked known input p k sp i = refl
    row_asked known range p k sp i = refl
    row_asked known (single f) p k sp i = refl
    row_asked known (exception x) p k sp i = refl
    row_asked known voiceless p k sp i = refl
    row_asked known uncalled p k sp i = refl
    row_asked known value p k sp i = refl
