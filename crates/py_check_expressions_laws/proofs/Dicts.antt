-- A dict that is typed stands well typed, by its keys and values, each in a row.
use Rattle.std.proofs.Common.{◌≡◌, ℕ, suc, Bool, true, false, not, ◌&&◌, List, [], ◌∷◌, length, map, Option, Some, None, Ok, refl, ap, sym, ◌∙◌, subst, if◌then◌else◌}
use Rattle.std.proofs.lemmas.Bool.{and_from}
use Rattle.std.specs.Option.{option_map, option_zip}
use Rattle.py_syntax.specs.declared.token.Span.{Span}
use Rattle.py_typed.specs.Sorts as sort
use Rattle.py_typed.specs.Sorts.{Sort}
use Rattle.py_typed.specs.Classes.{ClassEntry}
use Rattle.py_typed.specs.Fits.{is_same_type, is_nothing, fits}
use Rattle.py_typed.specs.Laws.{IsClassTree}
use Rattle.py_typed.specs.Expressions as node
use Rattle.py_typed.specs.Expressions.{TypedExpr, typed, type_of, entries_of}
use Rattle.py_typed.specs.Statements.{Variable, TypedModule}
use Rattle.py_typed.specs.WellTypedExpr.{is_key_type, is_value_type, is_result_type, stands, entries_typed, all_of, keys_of, values_of}
use Rattle.py_typed.proofs.FitLemmas.{type_is_itself, and_left, and_right}
use Rattle.py_check_context.specs.Context.{Wanted, free, wants, WantedRow, each, along, wanted_in}
use Rattle.py_check_messages.specs.Seen.{Message}
use Rattle.py_check_coercions.specs.Values.{coerced}
use Rattle.py_check_coercions.specs.Rows.{unfit}
use Rattle.py_check_displays.specs.Displays.{common}
use Rattle.py_check_displays.specs.Dicts.{entry_sorts, key_wanted, value_wanted, EntryMisfit, entry_fits, unfit_entry, entry_fault, changed_entry, dict_of, expected_dict, keys, values, are_entry_types, joined_dict, inferred_dict, dict_display}
use Rattle.py_check_expressions_laws.proofs.Types.{result_of_value, value_of_result, value_not_nothing}
use Rattle.py_check_expressions_laws.proofs.Stands.{stands_made, value_type, coerced_stands}
use Rattle.py_check_expressions_laws.proofs.Rows.{type_coerced, unfit_here, taken_of_fit, fit_of_taken, unfit_none, free_fits, is_sought, sought_of_asked, AllStand, RowSound, Sound, row_stands, common_holds}
use Rattle.py_check_expressions_laws.proofs.Nodes.{if_ok, unless_ok, value_sound}

-- ---- what is asked for

key_result : (n : ℕ) (k : Sort) → is_key_type k ≡ true → is_result_type n k ≡ true
key_result n sort.Str h = refl
key_result n sort.Int h = refl
key_result n sort.I64 h = refl
key_result n sort.Bool h = refl
key_result n _ h = absurd (cc)

pub key_asked : (n : ℕ) (w : Wanted) → is_sought n w ≡ true → is_sought n (key_wanted (entry_sorts w)) ≡ true
key_asked n (wants (sort.DictOf k t)) h = sought_of_asked n (wants k) (key_result n k (and_left (is_key_type k) (is_value_type n t) h))
key_asked n w h = refl

pub value_asked : (n : ℕ) (w : Wanted) → is_sought n w ≡ true → is_sought n (value_wanted (entry_sorts w)) ≡ true
value_asked n (wants (sort.DictOf k t)) h = sought_of_asked n (wants t) (result_of_value n t (and_right (is_key_type k) (is_value_type n t) h))
value_asked n w h = refl

-- ---- entries that fit

-- where each entry fits, so do the keys in a row, and the values
fit_parts : (classes : List ClassEntry) (p : Sort × Sort) (i : ℕ) (es : List (TypedExpr × TypedExpr)) → unfit_entry classes p i es ≡ None → (unfit classes (each p.0) i (keys es) ≡ None) × (unfit classes (each p.1) i (values es) ≡ None)
fit_parts classes p i [] h = (refl, refl)
fit_parts classes p i (e ∷ es) h = by (entry_fits classes p e) refl h (fit_parts classes p (suc i) es)
  where
    by : (b : Bool) → entry_fits classes p e ≡ b → (if b then unfit_entry classes p (suc i) es else Some (record { place = i; key = type_of e.0; value = type_of e.1 })) ≡ None
        → (unfit_entry classes p (suc i) es ≡ None → (unfit classes (each p.0) (suc i) (keys es) ≡ None) × (unfit classes (each p.1) (suc i) (values es) ≡ None))
        → (unfit classes (each p.0) i (keys (e ∷ es)) ≡ None) × (unfit classes (each p.1) i (values (e ∷ es)) ≡ None)
    by true q g next =
        let r = next g in (
          unfit_none classes (each p.0) i e.0 (keys es) (fit_of_taken classes i (wants p.0) e.0 (and_left (fits classes (type_of e.0) p.0) (fits classes (type_of e.1) p.1) q)) r.0,
          unfit_none classes (each p.1) i e.1 (values es) (fit_of_taken classes i (wants p.1) e.1 (and_right (fits classes (type_of e.0) p.0) (fits classes (type_of e.1) p.1) q)) r.1,
        )
    by false q g next = absurd (cc)

no_misfit : (o : Option EntryMisfit) (f : EntryMisfit → Message) → option_map f o ≡ None → o ≡ None
no_misfit None f e = refl
no_misfit (Some u) f e = absurd (cc)

three : (a b c : Bool) → a ≡ true → b ≡ true → c ≡ true → (a && b && c) ≡ true
three a b c p q r = cc

four : (a b c d : Bool) → a ≡ true → b ≡ true → c ≡ true → d ≡ true → (a && b && c && d) ≡ true
four a b c d p q r s = cc

not_true : (b : Bool) → not b ≡ true → b ≡ false
not_true false h = refl
not_true true h = absurd (cc)

module _ (m : TypedModule) (locals : List Variable) (init : Option ℕ) where
  -- ---- changed entries

  entries_stand : (known : List ℕ) (p : Sort × Sort) (i : ℕ) (es : List (TypedExpr × TypedExpr)) → is_result_type (length m.classes.classes) p.0 ≡ true → is_result_type (length m.classes.classes) p.1 ≡ true → AllStand m locals init known (keys es) → AllStand m locals init known (values es)
      → unfit m.classes.classes (each p.0) i (keys es) ≡ None → unfit m.classes.classes (each p.1) i (values es) ≡ None → entries_typed m locals init known (entries_of (map (changed_entry p) es)) ≡ true
  entries_stand known p i [] rk rv hk hv uk uv = refl
  entries_stand known p i (e ∷ es) rk rv hk hv uk uv =
      let k = unfit_here m.classes.classes (each p.0) i e.0 (keys es) uk in
      let v = unfit_here m.classes.classes (each p.1) i e.1 (values es) uv in
      three (stands m locals init false known (coerced p.0 e.0)) (stands m locals init false known (coerced p.1 e.1)) (entries_typed m locals init known (entries_of (map (changed_entry p) es)))
      (coerced_stands m locals init known p.0 e.0 hk.first (taken_of_fit m.classes.classes i (wants p.0) e.0 k.0) rk).0 (coerced_stands m locals init known p.1 e.1 hv.first (taken_of_fit m.classes.classes i (wants p.1) e.1 v.0) rv).0
      (entries_stand known p (suc i) es rk rv hk.rest hv.rest k.1 v.1)

  keys_changed : (p : Sort × Sort) (es : List (TypedExpr × TypedExpr)) → all_of m locals init p.0 (keys_of m locals init (entries_of (map (changed_entry p) es))) ≡ true
  keys_changed p [] = refl
  keys_changed p (e ∷ es) =
      and_from (is_same_type (type_of (coerced p.0 e.0)) p.0) (all_of m locals init p.0 (keys_of m locals init (entries_of (map (changed_entry p) es)))) (ap (λ s. is_same_type s p.0) (type_coerced p.0 e.0) ∙ type_is_itself p.0) (keys_changed p es)

  values_changed : (p : Sort × Sort) (es : List (TypedExpr × TypedExpr)) → all_of m locals init p.1 (values_of m locals init (entries_of (map (changed_entry p) es))) ≡ true
  values_changed p [] = refl
  values_changed p (e ∷ es) =
      and_from (is_same_type (type_of (coerced p.1 e.1)) p.1) (all_of m locals init p.1 (values_of m locals init (entries_of (map (changed_entry p) es)))) (ap (λ s. is_same_type s p.1) (type_coerced p.1 e.1) ∙ type_is_itself p.1) (values_changed p es)

  dict_stands : (known : List ℕ) (p : Sort × Sort) (span : Span) (es : List (TypedExpr × TypedExpr)) → is_key_type p.0 ≡ true → is_value_type (length m.classes.classes) p.1 ≡ true → AllStand m locals init known (keys es) → AllStand m locals init known (values es)
      → unfit m.classes.classes (each p.0) 0 (keys es) ≡ None → unfit m.classes.classes (each p.1) 0 (values es) ≡ None → stands m locals init false known (dict_of span p es) ≡ true
  dict_stands known p span es k v hk hv uk uv =
      stands_made m locals init false known (node.DictOf (entries_of (map (changed_entry p) es))) (sort.DictOf p.0 p.1) span
      (entries_stand known p 0 es (key_result (length m.classes.classes) p.0 k) (result_of_value (length m.classes.classes) p.1 v) hk hv uk uv)
      (four (is_key_type p.0) (not (is_nothing p.1)) (all_of m locals init p.0 (keys_of m locals init (entries_of (map (changed_entry p) es)))) (all_of m locals init p.1 (values_of m locals init (entries_of (map (changed_entry p) es)))) k
      (ap not (value_not_nothing (length m.classes.classes) p.1 v)) (keys_changed p es) (values_changed p es))
      refl (and_from (is_key_type p.0) (is_value_type (length m.classes.classes) p.1) k v) refl

  -- ---- sound entries: what typing gives for them

  pub record EntryHas (w v : Wanted) (known : List ℕ) (e : TypedExpr × TypedExpr) (Rest : Type 0) : Type 0 where
    pub key : Sound m locals init w known e.0
    pub value : Sound m locals init v known e.1
    pub rest : Rest

  abbrev pub EntriesSound : Wanted → Wanted → List ℕ → List (TypedExpr × TypedExpr) → Type 0
  EntriesSound w v known [] = Unit {0}
  EntriesSound w v known (e ∷ es) = EntryHas w v known e (EntriesSound w v known es)

  -- the keys in a row, and the values
  keys_sound : (row : WantedRow) (w v : Wanted) (i : ℕ) (known : List ℕ) (es : List (TypedExpr × TypedExpr)) → ((j : ℕ) → wanted_in row j ≡ w) → EntriesSound w v known es → RowSound m locals init row i known (keys es)
  keys_sound row w v i known [] same h = tt
  keys_sound row w v i known (e ∷ es) same h = record { first = subst (λ x. Sound m locals init x known e.0) (sym (same i)) h.key; rest = keys_sound row w v (suc i) known es same h.rest }

  values_sound : (row : WantedRow) (w v : Wanted) (i : ℕ) (known : List ℕ) (es : List (TypedExpr × TypedExpr)) → ((j : ℕ) → wanted_in row j ≡ v) → EntriesSound w v known es → RowSound m locals init row i known (values es)
  values_sound row w v i known [] same h = tt
  values_sound row w v i known (e ∷ es) same h = record { first = subst (λ x. Sound m locals init x known e.1) (sym (same i)) h.value; rest = values_sound row w v (suc i) known es same h.rest }

  -- ---- displays

  inferred_dict_sound : IsClassTree m.classes.classes → (w : Wanted) (known : List ℕ) (span : Span) (es : List (TypedExpr × TypedExpr)) (e : TypedExpr) → EntriesSound free free known es → inferred_dict m.classes.classes span es ≡ Ok e → Sound m locals init w known e
  inferred_dict_sound tree w known span [] e h g = absurd (cc)
  inferred_dict_sound tree w known span (x ∷ es) e h g = by (common m.classes.classes (Some (type_of x.0)) (keys es)) (common m.classes.classes (Some (type_of x.1)) (values es)) refl refl g
    where
      made : (k t : Sort) → common m.classes.classes (Some (type_of x.0)) (keys es) ≡ Some k → common m.classes.classes (Some (type_of x.1)) (values es) ≡ Some t → is_key_type k ≡ true → is_nothing t ≡ false → Sound m locals init w known (dict_of span (k, t) (x ∷ es))
      made k t ck ct key filled =
          value_sound m locals init w known (dict_of span (k, t) (x ∷ es)) (λ others wi.
          let all_keys = row_stands m locals init (along []) 0 known others (keys (x ∷ es)) (keys_sound (along []) free free 0 known (x ∷ es) (λ j. refl) h) wi (free_fits m.classes.classes 0 (keys (x ∷ es))) in
          let all_values = row_stands m locals init (along []) 0 known others (values (x ∷ es)) (values_sound (along []) free free 0 known (x ∷ es) (λ j. refl) h) wi (free_fits m.classes.classes 0 (values (x ∷ es))) in
          let rk = common_holds m locals init tree others (keys es) (type_of x.0) k 1 (value_type m locals init false others x.0 all_keys.first) all_keys.rest ck in
          let rt = common_holds m locals init tree others (values es) (type_of x.1) t 1 (value_type m locals init false others x.1 all_values.first) all_values.rest ct in
          dict_stands others (k, t) span (x ∷ es) key (value_of_result (length m.classes.classes) t rt.2 filled) all_keys all_values
          (unfit_none m.classes.classes (each k) 0 x.0 (keys es) (fit_of_taken m.classes.classes 0 (wants k) x.0 rk.0) rk.1) (unfit_none m.classes.classes (each t) 0 x.1 (values es) (fit_of_taken m.classes.classes 0 (wants t) x.1 rt.0) rt.1))

      by : (a b : Option Sort) → common m.classes.classes (Some (type_of x.0)) (keys es) ≡ a → common m.classes.classes (Some (type_of x.1)) (values es) ≡ b → joined_dict span (x ∷ es) (option_zip a b) ≡ Ok e → Sound m locals init w known e
      by None b ck ct q = absurd (cc)
      by (Some k) None ck ct q = absurd (cc)
      by (Some k) (Some t) ck ct q =
          let r = if_ok (are_entry_types (k, t)) (dict_of span (k, t) (x ∷ es)) e _ q in
          subst (Sound m locals init w known) r.1 (made k t ck ct (and_left (is_key_type k) (not (is_nothing t)) r.0) (not_true (is_nothing t) (and_right (is_key_type k) (not (is_nothing t)) r.0)))

  expected_dict_sound : (w : Wanted) (known : List ℕ) (span : Span) (k t : Sort) (es : List (TypedExpr × TypedExpr)) (e : TypedExpr) → is_key_type k ≡ true → is_value_type (length m.classes.classes) t ≡ true → EntriesSound (wants k) (wants t) known es → expected_dict m.classes.classes span (k, t) es ≡ Ok e → Sound m locals init w known e
  expected_dict_sound w known span k t es e key v h g =
      let r = unless_ok (option_map (entry_fault m.classes.classes (k, t)) (unfit_entry m.classes.classes (k, t) 0 es)) (dict_of span (k, t) es) e g in
      let u = fit_parts m.classes.classes (k, t) 0 es (no_misfit (unfit_entry m.classes.classes (k, t) 0 es) (entry_fault m.classes.classes (k, t)) r.0) in
      subst (Sound m locals init w known) r.1 (value_sound m locals init w known (dict_of span (k, t) es) (λ others wi.
      dict_stands others (k, t) span es key v
      (row_stands m locals init (each k) 0 known others (keys es) (keys_sound (each k) (wants k) (wants t) 0 known es (λ j. refl) h) wi u.0)
      (row_stands m locals init (each t) 0 known others (values es) (values_sound (each t) (wants k) (wants t) 0 known es (λ j. refl) h) wi u.1) u.0 u.1))

  pub dict_sound : IsClassTree m.classes.classes → (w : Wanted) (known : List ℕ) (span : Span) (es : List (TypedExpr × TypedExpr)) (e : TypedExpr) → is_sought (length m.classes.classes) w ≡ true → EntriesSound (key_wanted (entry_sorts w)) (value_wanted (entry_sorts w)) known es → dict_display m.classes.classes (entry_sorts w) span es ≡ Ok e → Sound m locals init w known e
  dict_sound tree (wants (sort.DictOf k t)) known span es e asked h g =
      expected_dict_sound (wants (sort.DictOf k t)) known span k t es e (and_left (is_key_type k) (is_value_type (length m.classes.classes) t) asked) (and_right (is_key_type k) (is_value_type (length m.classes.classes) t) asked) h g
  dict_sound tree w known span es e asked h g = inferred_dict_sound tree w known span es e h g
