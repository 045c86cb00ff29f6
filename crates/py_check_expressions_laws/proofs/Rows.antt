-- Typed expressions in a row: all of them are values, and so they are once they are changed to what is asked for.
use Rattle.std.proofs.Common.{◌≡◌, ℕ, suc, Bool, true, false, not, ◌&&◌, ◌||◌, List, [], ◌∷◌, length, map, drop, slice_get, Option, Some, None, refl, ap, sym, ◌∙◌, subst, if◌then◌else◌, nat_lt}
use Rattle.std.proofs.lemmas.Bool.{and_from, or_parts, or_left, or_right}
use Rattle.std.proofs.lemmas.Option.{same_Some}
use Rattle.std.specs.List.{list_any}
use Rattle.py_syntax.specs.declared.token.Span.{Span}
use Rattle.py_typed.specs.Sorts as sort
use Rattle.py_typed.specs.Sorts.{Sort, Sorts, no_sorts, sort_then, sorts_of, listed_sorts}
use Rattle.py_typed.specs.Classes.{ClassEntry}
use Rattle.py_typed.specs.Fits.{is_same_type, are_same_types, is_nothing, same, all_same, fits, join}
use Rattle.py_typed.specs.Laws.{IsClassTree}
use Rattle.py_typed.specs.Expressions as node
use Rattle.py_typed.specs.Expressions.{TypedExpr, TypedNode, typed, type_of, exprs_of}
use Rattle.py_typed.specs.Statements.{Variable, TypedModule}
use Rattle.py_typed.specs.WellTypedExpr.{stands, are_values, types_of, all_of, is_value_type, are_value_types, is_result_type}
use Rattle.py_typed.proofs.FitLemmas.{one_type, type_is_itself, and_left, and_right, same_fits, fits_itself, join_holds}
use Rattle.py_typed.proofs.OnwardLemmas.{fits_on}
use Rattle.py_check_context.specs.Context.{Wanted, free, test, wants, dropped, WantedRow, each, along, wants_some, wanted_in}
use Rattle.py_check_coercions.specs.Values.{place_of, coerced, changed}
use Rattle.py_check_coercions.specs.Rows.{Misfit, first_of, unfit_at, unfit, changed_row}
use Rattle.py_check_displays.specs.Displays.{common, is_bare_none, has_bare_none, is_tuple_size, list_of, tuple_of}
use Rattle.py_check_expressions_laws.specs.WellTyped.{is_asked, is_taken, is_good, Within}
use Rattle.py_check_expressions_laws.proofs.Types.{result_of_value, value_of_result, value_not_nothing, join_result, drop_get, listed}
use Rattle.py_check_expressions_laws.proofs.Stands.{stands_made, value_type, coerced_stands}

pub type_coerced : (t : Sort) (e : TypedExpr) → type_of (coerced t e) ≡ t
type_coerced t e = by (is_same_type (type_of e) t) refl
  where
    by : (b : Bool) → is_same_type (type_of e) t ≡ b → type_of (coerced t e) ≡ t
    by true q = ap (λ (b : Bool). type_of (if b then e else typed (node.Coerce e) t (place_of e))) q ∙ one_type (type_of e) t q
    by false q = ap (λ (b : Bool). type_of (if b then e else typed (node.Coerce e) t (place_of e))) q

-- ---- what fits in a row

first_none : (a b : Option Misfit) → first_of a b ≡ None → (a ≡ None) × (b ≡ None)
first_none None b e = (refl, e)
first_none (Some a) b e = absurd (cc)

pub unfit_here : (classes : List ClassEntry) (row : WantedRow) (i : ℕ) (e : TypedExpr) (es : List TypedExpr) → unfit classes row i (e ∷ es) ≡ None → (unfit_at classes i (wanted_in row i) e ≡ None) × (unfit classes row (suc i) es ≡ None)
unfit_here classes row i e es h = first_none (unfit_at classes i (wanted_in row i) e) (unfit classes row (suc i) es) h

fits_of_none : (b : Bool) (u : Misfit) → (if b then None else Some u) ≡ None → b ≡ true
fits_of_none true u e = refl
fits_of_none false u e = absurd (cc)

pub taken_of_fit : (classes : List ClassEntry) (i : ℕ) (w : Wanted) (e : TypedExpr) → unfit_at classes i w e ≡ None → is_taken classes w (type_of e) ≡ true
taken_of_fit classes i (wants t) e h = fits_of_none (fits classes (type_of e) t) (record { place = i; found = type_of e; asked = t }) h
taken_of_fit classes i free e h = refl
taken_of_fit classes i test e h = refl
taken_of_fit classes i dropped e h = refl

pub fit_of_taken : (classes : List ClassEntry) (i : ℕ) (w : Wanted) (e : TypedExpr) → is_taken classes w (type_of e) ≡ true → unfit_at classes i w e ≡ None
fit_of_taken classes i (wants t) e h = ap (λ (b : Bool). if b then None else Some (record { place = i; found = type_of e; asked = t })) h
fit_of_taken classes i free e h = refl
fit_of_taken classes i test e h = refl
fit_of_taken classes i dropped e h = refl

pub unfit_none : (classes : List ClassEntry) (row : WantedRow) (i : ℕ) (e : TypedExpr) (es : List TypedExpr) → unfit_at classes i (wanted_in row i) e ≡ None → unfit classes row (suc i) es ≡ None → unfit classes row i (e ∷ es) ≡ None
unfit_none classes row i e es p q = ap (λ o. first_of o (unfit classes row (suc i) es)) p ∙ q

-- where nothing is asked for, all fit, and none is changed
pub free_fits : (classes : List ClassEntry) (i : ℕ) (es : List TypedExpr) → unfit classes (along []) i es ≡ None
free_fits classes i [] = refl
free_fits classes i (e ∷ es) = free_fits classes (suc i) es

pub free_unchanged : (i : ℕ) (es : List TypedExpr) → changed_row (along []) i es ≡ es
free_unchanged i [] = refl
free_unchanged i (e ∷ es) = ap (λ l. e ∷ l) (free_unchanged (suc i) es)

pub changed_length : (row : WantedRow) (i : ℕ) (es : List TypedExpr) → length (changed_row row i es) ≡ length es
changed_length row i [] = refl
changed_length row i (e ∷ es) = ap suc (changed_length row (suc i) es)

-- a tuple of other types fits only where each item does
pub all_fit : (classes : List ClassEntry) (ss : List Sort) (i : ℕ) (es : List TypedExpr) (ts : Sorts) → drop i ss ≡ listed_sorts ts → all_same classes (sorts_of (map type_of es)) ts ≡ true → unfit classes (along ss) i es ≡ None
all_fit classes ss i [] ts d h = refl
all_fit classes ss i (e ∷ es) no_sorts d h = absurd (cc)
all_fit classes ss i (e ∷ es) (sort_then t ts) d h =
    let r = drop_get ss i t (listed_sorts ts) d in
    unfit_none classes (along ss) i e es
    (fit_of_taken classes i (wants_some (slice_get ss i)) e (ap (λ o. is_taken classes (wants_some o) (type_of e)) r.0 ∙ same_fits classes (type_of e) t (and_left (same classes (type_of e) t) (all_same classes (sorts_of (map type_of es)) ts) h)))
    (all_fit classes ss (suc i) es ts r.1 (and_right (same classes (type_of e) t) (all_same classes (sorts_of (map type_of es)) ts) h))

-- ---- what is taken, and asked for, part by part

-- each part of the first row fits its own of the second
abbrev pub all_fits : List ClassEntry → Sorts → Sorts → Bool
all_fits classes no_sorts no_sorts = true
all_fits classes (sort_then s ss) (sort_then t ts) = fits classes s t && all_fits classes ss ts
all_fits classes ss ts = false

-- None's type, and that of a tuple that has such an item
abbrev mutual
  pub holds_nothing : Sort → Bool
  holds_nothing sort.Nothing = true
  holds_nothing (sort.TupleOf ts) = hold_nothing ts
  holds_nothing t = false

  pub hold_nothing : Sorts → Bool
  hold_nothing no_sorts = false
  hold_nothing (sort_then t ts) = holds_nothing t || hold_nothing ts

nothing_held : (t : Sort) → holds_nothing t ≡ false → is_nothing t ≡ false
nothing_held sort.Nothing h = absurd (cc)
nothing_held _ h = refl

neither : (a b : Bool) → (a || b) ≡ false → (a ≡ false) × (b ≡ false)
neither false false h = (refl, refl)
neither _ _ h = absurd (cc)

pub none_nothing : (ts : List Sort) → hold_nothing (sorts_of ts) ≡ false → list_any is_nothing ts ≡ false
none_nothing [] h = refl
none_nothing (t ∷ ts) h =
    let r = neither (holds_nothing t) (hold_nothing (sorts_of ts)) h in
    ap (λ b. b || list_any is_nothing ts) (nothing_held t r.0) ∙ none_nothing ts r.1

abbrev pub all_parts : List ClassEntry → Wanted → Sort → Bool
all_parts classes (wants (sort.TupleOf ts)) (sort.TupleOf ss) = all_fits classes ss ts
all_parts classes w s = false

-- several targets take a tuple whose parts fit, though the tuple as it stands is of another type; and what holds no None is typed
-- like everywhere, though it does not fit
abbrev pub parts_taken : List ClassEntry → Wanted → Sort → Bool
parts_taken classes w s = all_parts classes w s || not (holds_nothing s)

abbrev pub is_held : List ClassEntry → Wanted → Sort → Bool
is_held classes w s = is_taken classes w s || parts_taken classes w s

-- and they may be more than a tuple has parts
abbrev pub is_sought : ℕ → Wanted → Bool
is_sought n (wants (sort.TupleOf ts)) = are_value_types n ts
is_sought n w = is_asked n w

of_three : (a b c : Bool) → (a && b && c) ≡ true → (a ≡ true) × (b ≡ true) × (c ≡ true)
of_three true true true h = (refl, refl, refl)
of_three _ _ _ h = absurd (cc)

pub sought_of_asked : (n : ℕ) (w : Wanted) → is_asked n w ≡ true → is_sought n w ≡ true
sought_of_asked n (wants (sort.TupleOf ts)) h = (of_three (nat_lt 0 (length (listed_sorts ts))) (nat_lt (length (listed_sorts ts)) 17) (are_value_types n ts) h).2
sought_of_asked n w h = h

same_size : (classes : List ClassEntry) (ss ts : Sorts) → all_same classes ss ts ≡ true → length (listed_sorts ss) ≡ length (listed_sorts ts)
same_size classes no_sorts no_sorts h = refl
same_size classes (sort_then s ss) (sort_then t ts) h = ap suc (same_size classes ss ts (and_right (same classes s t) (all_same classes ss ts) h))
same_size classes no_sorts (sort_then t ts) h = absurd (cc)
same_size classes (sort_then s ss) no_sorts h = absurd (cc)

all_hold : (a b c : Bool) → a ≡ true → b ≡ true → c ≡ true → (a && b && c) ≡ true
all_hold a b c p q r = cc

-- a type that a value of the table fits is one
pub sought_type : (n : ℕ) (classes : List ClassEntry) (t r : Sort) → is_sought n (wants t) ≡ true → is_result_type n r ≡ true → fits classes r t ≡ true → is_result_type n t ≡ true
sought_type n classes (sort.TupleOf ts) (sort.TupleOf rs) h p f =
    let size = same_size classes rs ts f in
    let r = of_three (nat_lt 0 (length (listed_sorts rs))) (nat_lt (length (listed_sorts rs)) 17) (are_value_types n rs) p in
    all_hold (nat_lt 0 (length (listed_sorts ts))) (nat_lt (length (listed_sorts ts)) 17) (are_value_types n ts) (ap (λ k. nat_lt 0 k) (sym size) ∙ r.0) (ap (λ k. nat_lt k 17) (sym size) ∙ r.1) h
sought_type n classes (sort.TupleOf ts) _ h p f = absurd (cc)
sought_type n classes t r h p f = h

-- a tuple whose parts fit fits part by part
pub each_fits : (classes : List ClassEntry) (ss : List Sort) (i : ℕ) (es : List TypedExpr) (ts : Sorts) → drop i ss ≡ listed_sorts ts → all_fits classes (sorts_of (map type_of es)) ts ≡ true → unfit classes (along ss) i es ≡ None
each_fits classes ss i [] ts d h = refl
each_fits classes ss i (e ∷ es) no_sorts d h = absurd (cc)
each_fits classes ss i (e ∷ es) (sort_then t ts) d h =
    let r = drop_get ss i t (listed_sorts ts) d in
    unfit_none classes (along ss) i e es
    (fit_of_taken classes i (wants_some (slice_get ss i)) e (ap (λ o. is_taken classes (wants_some o) (type_of e)) r.0 ∙ and_left (fits classes (type_of e) t) (all_fits classes (sorts_of (map type_of es)) ts) h))
    (each_fits classes ss (suc i) es ts r.1 (and_right (fits classes (type_of e) t) (all_fits classes (sorts_of (map type_of es)) ts) h))

-- ---- types of rows

module _ (m : TypedModule) (locals : List Variable) (init : Option ℕ) where
  pub types_listed : (es : List TypedExpr) → types_of m locals init (exprs_of es) ≡ map type_of es
  types_listed [] = refl
  types_listed (e ∷ es) = ap (λ l. type_of e ∷ l) (types_listed es)

  pub all_changed : (t : Sort) (i : ℕ) (es : List TypedExpr) → all_of m locals init t (types_of m locals init (exprs_of (changed_row (each t) i es))) ≡ true
  all_changed t i [] = refl
  all_changed t i (e ∷ es) =
      and_from (is_same_type (type_of (coerced t e)) t) (all_of m locals init t (types_of m locals init (exprs_of (changed_row (each t) (suc i) es)))) (ap (λ s. is_same_type s t) (type_coerced t e) ∙ type_is_itself t) (all_changed t (suc i) es)

  pub types_changed : (ss : List Sort) (i : ℕ) (es : List TypedExpr) (rest : List Sort) → drop i ss ≡ rest → length es ≡ length rest → types_of m locals init (exprs_of (changed_row (along ss) i es)) ≡ rest
  types_changed ss i [] [] d l = refl
  types_changed ss i [] (t ∷ rest) d l = absurd (cc)
  types_changed ss i (e ∷ es) [] d l = absurd (cc)
  types_changed ss i (e ∷ es) (t ∷ rest) d l =
      let r = drop_get ss i t rest d in
      ap (λ o. type_of (changed (wants_some o) e) ∷ types_of m locals init (exprs_of (changed_row (along ss) (suc i) es))) r.0
      ∙ ap (λ s. s ∷ types_of m locals init (exprs_of (changed_row (along ss) (suc i) es))) (type_coerced t e) ∙ ap (λ l. t ∷ l) (types_changed ss (suc i) es rest r.1 (one_less (length es) (length rest) l))
    where
      one_less : (a b : ℕ) → suc a ≡ suc b → a ≡ b
      one_less a b h = cc

  -- ---- rows of values

  -- each is a value
  pub record HasValue (known : List ℕ) (e : TypedExpr) (Rest : Type 0) : Type 0 where
    pub first : stands m locals init false known e ≡ true
    pub rest : Rest

  abbrev pub AllStand : List ℕ → List TypedExpr → Type 0
  AllStand known [] = Unit {0}
  AllStand known (e ∷ es) = HasValue known e (AllStand known es)

  pub stand_values : (known : List ℕ) (es : List TypedExpr) → AllStand known es → are_values m locals init known (exprs_of es) ≡ true
  stand_values known [] h = refl
  stand_values known (e ∷ es) h = and_from (stands m locals init false known e) (are_values m locals init known (exprs_of es)) h.first (stand_values known es h.rest)

  abbrev pub RowAsked : WantedRow → Type 0
  RowAsked row = (i : ℕ) → is_asked (length m.classes.classes) (wanted_in row i) ≡ true

  changed_stands : (known : List ℕ) (w : Wanted) (e : TypedExpr) → is_asked (length m.classes.classes) w ≡ true → stands m locals init false known e ≡ true → is_taken m.classes.classes w (type_of e) ≡ true → stands m locals init false known (changed w e) ≡ true
  changed_stands known (wants t) e a h f = (coerced_stands m locals init known t e h f a).0
  changed_stands known free e a h f = h
  changed_stands known test e a h f = h
  changed_stands known dropped e a h f = h

  pub changed_all : (known : List ℕ) (row : WantedRow) (i : ℕ) (es : List TypedExpr) → RowAsked row → AllStand known es → unfit m.classes.classes row i es ≡ None → AllStand known (changed_row row i es)
  changed_all known row i [] a h u = tt
  changed_all known row i (e ∷ es) a h u =
      let r = unfit_here m.classes.classes row i e es u in
      record { first = changed_stands known (wanted_in row i) e (a i) h.first (taken_of_fit m.classes.classes i (wanted_in row i) e r.0); rest = changed_all known row (suc i) es a h.rest r.1 }

  -- ---- sound rows: what typing gives for them

  abbrev pub Sound : Wanted → List ℕ → TypedExpr → Type 0
  Sound w known t = (others : List ℕ) → Within known others → is_held m.classes.classes w (type_of t) ≡ true → is_good m locals init w others t ≡ true

  pub record RowHas (w : Wanted) (known : List ℕ) (e : TypedExpr) (Rest : Type 0) : Type 0 where
    pub first : Sound w known e
    pub rest : Rest

  abbrev pub RowSound : WantedRow → ℕ → List ℕ → List TypedExpr → Type 0
  RowSound row i known [] = Unit {0}
  RowSound row i known (e ∷ es) = RowHas (wanted_in row i) known e (RowSound row (suc i) known es)

  good_by : (o : Option Sort) (known : List ℕ) (e : TypedExpr) → is_good m locals init (wants_some o) known e ≡ true → stands m locals init false known e ≡ true
  good_by None known e h = h
  good_by (Some t) known e h = h

  good_in_row : (row : WantedRow) (i : ℕ) (known : List ℕ) (e : TypedExpr) → is_good m locals init (wanted_in row i) known e ≡ true → stands m locals init false known e ≡ true
  good_in_row (each t) i known e h = h
  good_in_row (along ts) i known e h = good_by (slice_get ts i) known e h

  pub row_stands : (row : WantedRow) (i : ℕ) (known others : List ℕ) (es : List TypedExpr) → RowSound row i known es → Within known others → unfit m.classes.classes row i es ≡ None → AllStand others es
  row_stands row i known others [] h w u = tt
  row_stands row i known others (e ∷ es) h w u =
      let r = unfit_here m.classes.classes row i e es u in
      record { first = good_in_row row i others e (h.first others w (or_left (is_taken m.classes.classes (wanted_in row i) (type_of e)) (parts_taken m.classes.classes (wanted_in row i) (type_of e)) (taken_of_fit m.classes.classes i (wanted_in row i) e r.0))); rest = row_stands row (suc i) known others es h.rest w r.1 }

  -- values that hold no None stand, whether they fit or not
  pub row_whole : (row : WantedRow) (i : ℕ) (known others : List ℕ) (es : List TypedExpr) → RowSound row i known es → Within known others → hold_nothing (sorts_of (map type_of es)) ≡ false → AllStand others es
  row_whole row i known others [] h w n = tt
  row_whole row i known others (e ∷ es) h w n =
      let r = neither (holds_nothing (type_of e)) (hold_nothing (sorts_of (map type_of es))) n in
      record {
        first = good_in_row row i others e (h.first others w (or_right (is_taken m.classes.classes (wanted_in row i) (type_of e)) (parts_taken m.classes.classes (wanted_in row i) (type_of e)) (or_right (all_parts m.classes.classes (wanted_in row i) (type_of e)) (not (holds_nothing (type_of e))) (ap not r.0))));
        rest = row_whole row (suc i) known others es h.rest w r.1;
      }

  -- ---- lists

  -- a join from the left takes all, and is a type of the table
  pub common_holds : IsClassTree m.classes.classes → (known : List ℕ) (es : List TypedExpr) (s t : Sort) (i : ℕ) → is_result_type (length m.classes.classes) s ≡ true → AllStand known es → common m.classes.classes (Some s) es ≡ Some t
      → (fits m.classes.classes s t ≡ true) × (unfit m.classes.classes (each t) i es ≡ None) × (is_result_type (length m.classes.classes) t ≡ true)
  common_holds tree known [] s t i r h e =
      let p = same_Some s t e in
      (subst (λ x. fits m.classes.classes s x ≡ true) p (fits_itself m.classes.classes s), refl, subst (λ x. is_result_type (length m.classes.classes) x ≡ true) p r)
  common_holds tree known (e ∷ es) s t i r h g = by (join m.classes.classes s (type_of e)) refl (λ u ru cu. common_holds tree known es u t (suc i) ru h.rest cu)
    where
      by : (o : Option Sort) → join m.classes.classes s (type_of e) ≡ o
          → ((u : Sort) → is_result_type (length m.classes.classes) u ≡ true → common m.classes.classes (Some u) es ≡ Some t → (fits m.classes.classes u t ≡ true) × (unfit m.classes.classes (each t) (suc i) es ≡ None) × (is_result_type (length m.classes.classes) t ≡ true))
          → (fits m.classes.classes s t ≡ true) × (unfit m.classes.classes (each t) i (e ∷ es) ≡ None) × (is_result_type (length m.classes.classes) t ≡ true)
      by None j next = let k = sym g ∙ ap (λ o. common m.classes.classes o es) j in absurd (cc)
      by (Some u) j next =
          let q = join_holds m.classes.classes s (type_of e) u j in
          let v = next u (join_result (length m.classes.classes) m.classes.classes s (type_of e) u r (value_type m locals init false known e h.first) j) (sym (ap (λ o. common m.classes.classes o es) j) ∙ g) in
          (fits_on m.classes.classes tree s u t q.0 v.0, unfit_none m.classes.classes (each t) i e es (fit_of_taken m.classes.classes i (wants t) e (fits_on m.classes.classes tree (type_of e) u t q.1 v.0)) v.1, v.2)

  pub list_stands : (known : List ℕ) (t : Sort) (span : Span) (es : List TypedExpr) → is_value_type (length m.classes.classes) t ≡ true → AllStand known es → unfit m.classes.classes (each t) 0 es ≡ None → stands m locals init false known (list_of span t es) ≡ true
  list_stands known t span es v h u =
      stands_made m locals init false known (node.ListOf (exprs_of (changed_row (each t) 0 es))) (sort.ListOf t) span
      (stand_values known (changed_row (each t) 0 es) (changed_all known (each t) 0 es (λ i. result_of_value (length m.classes.classes) t v) h u))
      (and_from (not (is_nothing t)) (all_of m locals init t (types_of m locals init (exprs_of (changed_row (each t) 0 es)))) (ap not (value_not_nothing (length m.classes.classes) t v)) (all_changed t 0 es))
      refl v refl

  -- ---- tuples

  values_of : (known : List ℕ) (es : List TypedExpr) → AllStand known es → list_any is_nothing (map type_of es) ≡ false → are_value_types (length m.classes.classes) (sorts_of (map type_of es)) ≡ true
  values_of known [] h q = refl
  values_of known (e ∷ es) h q =
      let r = or_parts (is_nothing (type_of e)) (list_any is_nothing (map type_of es)) q in
      and_from (is_value_type (length m.classes.classes) (type_of e)) (are_value_types (length m.classes.classes) (sorts_of (map type_of es))) (value_of_result (length m.classes.classes) (type_of e) (value_type m locals init false known e h.first) r.0)
      (values_of known es h.rest r.1)

  three : (a b c : Bool) → a ≡ true → b ≡ true → c ≡ true → (a && b && c) ≡ true
  three a b c p q r = cc

  four : (a b c d : Bool) → a ≡ true → b ≡ true → c ≡ true → d ≡ true → (a && b && c && d) ≡ true
  four a b c d p q r s = cc

  map_length : (es : List TypedExpr) → length (map type_of es) ≡ length es
  map_length [] = refl
  map_length (e ∷ es) = ap suc (map_length es)

  pub tuple_stands : (known : List ℕ) (span : Span) (es : List TypedExpr) → AllStand known es → list_any is_nothing (map type_of es) ≡ false → is_tuple_size (length es) ≡ true → stands m locals init false known (tuple_of span es) ≡ true
  tuple_stands known span es h q size =
      let lower = and_left (nat_lt 0 (length es)) (nat_lt (length es) 17) size in
      let upper = and_right (nat_lt 0 (length es)) (nat_lt (length es) 17) size in
      let types : types_of m locals init (exprs_of es) ≡ map type_of es = types_listed es in
      let back : listed_sorts (sorts_of (map type_of es)) ≡ map type_of es = listed (map type_of es) in
      stands_made m locals init false known (node.TupleOf (exprs_of es)) (sort.TupleOf (sorts_of (map type_of es))) span (stand_values known es h)
      (subst (λ (l : List Sort). (are_same_types (sorts_of l) (sorts_of (listed_sorts (sorts_of (map type_of es)))) && nat_lt 0 (length l) && nat_lt (length l) 17 && not (list_any is_nothing l)) ≡ true) (sym types)
      (subst (λ (l : List Sort). (are_same_types (sorts_of (map type_of es)) (sorts_of l) && nat_lt 0 (length (map type_of es)) && nat_lt (length (map type_of es)) 17 && not (list_any is_nothing (map type_of es))) ≡ true) (sym back)
      (four (are_same_types (sorts_of (map type_of es)) (sorts_of (map type_of es))) (nat_lt 0 (length (map type_of es))) (nat_lt (length (map type_of es)) 17) (not (list_any is_nothing (map type_of es)))
      (type_is_itself (sort.TupleOf (sorts_of (map type_of es)))) (ap (λ k. nat_lt 0 k) (map_length es) ∙ lower) (ap (λ k. nat_lt k 17) (map_length es) ∙ upper) (ap not q))))
      refl
      (subst (λ (l : List Sort). (nat_lt 0 (length l) && nat_lt (length l) 17 && are_value_types (length m.classes.classes) (sorts_of (map type_of es))) ≡ true) (sym back)
      (three (nat_lt 0 (length (map type_of es))) (nat_lt (length (map type_of es)) 17) (are_value_types (length m.classes.classes) (sorts_of (map type_of es)))
      (ap (λ k. nat_lt 0 k) (map_length es) ∙ lower) (ap (λ k. nat_lt k 17) (map_length es) ∙ upper) (values_of known es h q)))
      refl

  -- each type that is asked for in a row is one that an item may have
  abbrev pub is_valued : Wanted → Bool
  is_valued (wants t) = is_value_type (length m.classes.classes) t
  is_valued w = true

  abbrev pub RowValued : WantedRow → Type 0
  RowValued row = (i : ℕ) → is_valued (wanted_in row i) ≡ true

  item_not_nothing : (w : Wanted) (e : TypedExpr) → is_valued w ≡ true → is_bare_none w e ≡ false → is_nothing (type_of (changed w e)) ≡ false
  item_not_nothing (wants t) e v b = ap is_nothing (type_coerced t e) ∙ value_not_nothing (length m.classes.classes) t v
  item_not_nothing free e v b = bare (is_nothing (type_of e)) b
    where
      bare : (c : Bool) → (c && true) ≡ false → c ≡ false
      bare true h = absurd (cc)
      bare false h = refl
  item_not_nothing test e v b = bare (is_nothing (type_of e)) b
    where
      bare : (c : Bool) → (c && true) ≡ false → c ≡ false
      bare true h = absurd (cc)
      bare false h = refl
  item_not_nothing dropped e v b = bare (is_nothing (type_of e)) b
    where
      bare : (c : Bool) → (c && true) ≡ false → c ≡ false
      bare true h = absurd (cc)
      bare false h = refl

  pub none_bare : (row : WantedRow) (i : ℕ) (es : List TypedExpr) → RowValued row → has_bare_none row i es ≡ false → list_any is_nothing (map type_of (changed_row row i es)) ≡ false
  none_bare row i [] v h = refl
  none_bare row i (e ∷ es) v h =
      let r = or_parts (is_bare_none (wanted_in row i) e) (has_bare_none row (suc i) es) h in
      ap (λ b. b || list_any is_nothing (map type_of (changed_row row (suc i) es))) (item_not_nothing (wanted_in row i) e (v i) r.0) ∙ none_bare row (suc i) es v r.1
