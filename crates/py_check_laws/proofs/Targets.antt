-- Targets that are bound to a value stand well typed, one or several of them.
use Rattle.std.proofs.Common.{◌≡◌, ℕ, zero, suc, Bool, true, false, not, ◌&&◌, cond, List, [], ◌∷◌, ◌++◌, length, map, slice_get, slice_set, Option, Some, None, refl, ap, sym, ◌∙◌, subst, if◌then◌else◌, ltb-true, ◌⊎◌, inl, inr}
use Rattle.std.proofs.lemmas.Bool.{and_from}
use Rattle.std.proofs.lemmas.Option.{same_Some}
use Rattle.std.proofs.lemmas.Slice.Eq.{bytes_eq-Decides}
use Rattle.std.specs.List.{list_all}
use Rattle.std.specs.Map.{lookup}
use Rattle.std.specs.Str.{bytes_eq}
use Rattle.std.specs.Prelude.{is_some}
use Rattle.py_syntax.specs.Expressions.{ExprTree}
use Rattle.py_typed.specs.Sorts as sort
use Rattle.py_typed.specs.Sorts.{Sort, Sorts, no_sorts, sort_then, sorts_of, listed_sorts}
use Rattle.py_typed.specs.Classes.{ClassEntry}
use Rattle.py_typed.specs.Fits.{is_same_type, fits, is_nothing}
use Rattle.py_typed.specs.Expressions as node
use Rattle.py_typed.specs.Expressions.{TypedExpr, TypedNode, typed, type_of}
use Rattle.py_typed.specs.Statements.{Variable, TypedModule, TypedTarget}
use Rattle.py_typed.specs.TargetTypes.{sort_at, attribute_sort}
use Rattle.py_typed.specs.Narrowing.{may_be_none, own_sort, after_target, after_parts}
use Rattle.py_typed.specs.WellTypedExpr.{stands, is_value_type, indexed, declared}
use Rattle.py_typed.specs.WellTyped as stmt
use Rattle.py_typed.proofs.FitLemmas.{fits_itself, and_left, and_right}
use Rattle.py_check_context.specs.declared.scope.Meaning.{Meaning}
use Rattle.py_check_context.specs.declared.scope.Meaning.TheVariants as meaning
use Rattle.py_check_context.specs.Context.{Context, VarSort, unset, untyped, has, VarSorts, var_at}
use Rattle.py_check_flow.specs.Bindings.{name_in}
use Rattle.py_check_coercions.specs.Values.{place_of, coerced}
use Rattle.py_check_calls.specs.Callees.{is_variable}
use Rattle.py_check_values.specs.Aims.{Aim, held, first, barred, unwritten, misplaced, lacking}
use Rattle.py_check_values.specs.Assignments.{first_barred}
use Rattle.py_check_places.specs.Places.{Known, is_unset, fix, first_type, bind_variable, bind_name, bind_names, is_plain}
use Rattle.py_check_targets.specs.Targets.{targets_of, is_written, again_fault, parts_fault, next_part, more_parts, beyond}
use Rattle.py_check_expressions_laws.specs.WellTyped as law
use Rattle.py_check_expressions_laws.specs.WellTyped.{Describes, Within}
use Rattle.py_check_expressions_laws.proofs.Types.{clash, value_not_nothing}
use Rattle.py_check_expressions_laws.proofs.Stands.{parts_of_stands}
use Rattle.py_check_laws.specs.Variables.{sort_in}
use Rattle.py_check.specs.Fixed.{is_there}
use Rattle.py_check_laws.proofs.Looked.{Fair}
use Rattle.py_check_laws.specs.WellTyped.{IsScope}
use Rattle.py_check.proofs.Bound.{open_follows}
use Rattle.py_check.proofs.Kept.{fix_set, fix_open, fix_first, Follows, follows_on, follows_name, follows_names, is_open, bind_set}
use Rattle.py_check_laws.proofs.Assigned.{first_none, is_itemless}
use Rattle.py_check_laws.proofs.Names.{within_kept}
use Rattle.py_check_laws.proofs.Aims.{AimsOf, Held, held_local, held_global, held_item, aim_held, First, first_local, first_global, aim_first, first_name, Aimed, held_aimed, first_aimed, aimed_bound, aimed_behind, held_attribute}
use Rattle.py_check_laws.proofs.Values.{scene, declared_there, part_fits, item_at_place, attribute_at_place}
use Rattle.py_check_laws.proofs.Closed.{scope_there, scope_on}

-- ---- names

abbrev pub is_named : ExprTree → Bool
is_named e = is_some (name_in e)

-- ---- declared variables

pub declared_sort : (l : List Variable) (i : ℕ) (t : Sort) → declared l i ≡ Some t → sort_at l i ≡ t
declared_sort l i t h = by (slice_get l i) refl h
  where
    by : (o : Option Variable) → slice_get l i ≡ o → Rattle.std.specs.Option.option_map (λ (x : Variable). x.1) o ≡ Some t → sort_at l i ≡ t
    by None q e = absurd (cc)
    by (Some x) q e = rw (q, sort_at) (same_Some x.1 t e)

-- ---- values that may be None

pub not_true : (b : Bool) → not b ≡ true → b ≡ false
not_true true h = absurd (cc)
not_true false h = refl

fits_plain : (classes : List ClassEntry) (s t : Sort) → fits classes s t ≡ true → may_be_none t ≡ false → may_be_none s ≡ false
fits_plain classes sort.Nothing sort.Nothing f p = absurd (cc)
fits_plain classes sort.Nothing _ f p = absurd (cc)
fits_plain classes (sort.Optional r) sort.Nothing f p = absurd (cc)
fits_plain classes (sort.Optional r) _ f p = absurd (cc)
fits_plain classes _ t f p = refl

module _ (m : TypedModule) (locals : List Variable) (init : Option ℕ) where
  pub own_plain : (others : List ℕ) (v : TypedExpr) → stands m locals init false others v ≡ true → may_be_none (type_of v) ≡ false → may_be_none (own_sort v) ≡ false
  own_plain others (typed (node.Coerce e) t place) h p =
      let r = parts_of_stands m locals init false others (node.Coerce e) t place h in
      fits_plain m.classes.classes (type_of e) t (and_left (fits m.classes.classes (type_of e) t) (not (is_same_type (type_of e) t)) r.1) p
  own_plain others (typed n t place) h p = p

  pub own_coerced : (others : List ℕ) (t : Sort) (v : TypedExpr) → stands m locals init false others v ≡ true → may_be_none (type_of v) ≡ false → may_be_none (own_sort (coerced t v)) ≡ false
  own_coerced others t v h p = by (is_same_type (type_of v) t) refl
    where
      by : (b : Bool) → is_same_type (type_of v) t ≡ b → may_be_none (own_sort (coerced t v)) ≡ false
      by true q = ap (λ (b : Bool). may_be_none (own_sort (if b then v else typed (node.Coerce v) t (place_of v)))) q ∙ own_plain others v h p
      by false q = ap (λ (b : Bool). may_be_none (own_sort (if b then v else typed (node.Coerce v) t (place_of v)))) q ∙ p

-- ---- what has been given to names of a row

abbrev seen_sort : Option Sort → VarSort
seen_sort None = unset
seen_sort (Some t) = has t

unset_is : (v : VarSort) → is_unset v ≡ true → v ≡ unset
unset_is unset h = refl
unset_is untyped h = absurd (cc)
unset_is (has t) h = absurd (cc)

pub open_unset : (V : VarSorts) (n : Meaning) → is_open V n ≡ true → sort_in V n ≡ unset
open_unset V (meaning.Local i) h = unset_is (var_at V.locals i) h
open_unset V (meaning.Global i) h = unset_is (var_at V.globals i) h
open_unset V _ h = absurd (cc)

pub open_variable : (V : VarSorts) (n : Meaning) → is_open V n ≡ true → is_variable n ≡ true
open_variable V (meaning.Local i) h = refl
open_variable V (meaning.Global i) h = refl
open_variable V _ h = absurd (cc)

-- another place is left as it is
set_other : (l : List VarSort) (i j : ℕ) (v : VarSort) → (j ≡ i → ⊥) → var_at (slice_set l i v) j ≡ var_at l j
set_other [] i j v n = refl
set_other (x ∷ l) zero zero v n = absurd (n refl)
set_other (x ∷ l) zero (suc j) v n = refl
set_other (x ∷ l) (suc i) zero v n = refl
set_other (x ∷ l) (suc i) (suc j) v n = set_other l i j v (λ e. n (ap suc e))

fix_other : (l : List VarSort) (i j : ℕ) (v : VarSort) → (j ≡ i → ⊥) → var_at (fix l i v) j ≡ var_at l j
fix_other l i j v n = by (is_unset (var_at l i)) refl
  where
    by : (b : Bool) → is_unset (var_at l i) ≡ b → var_at (fix l i v) j ≡ var_at l j
    by true q = ap (λ z. var_at z j) (fix_open l i v q) ∙ set_other l i j v n
    by false q = ap (λ z. var_at z j) (fix_set l i v q)

bind_other : (ok : Bool) (k : Known) (n o : Meaning) (t : Option Sort) → (o ≡ n → ⊥) → sort_in (bind_variable ok k n t).types o ≡ sort_in k.types o
bind_other ok k (meaning.Local i) (meaning.Local j) t d = fix_other k.types.locals i j (first_type ok t) (λ e. d (ap meaning.Local e))
bind_other ok k (meaning.Global i) (meaning.Global j) t d = fix_other k.types.globals i j (first_type ok t) (λ e. d (ap meaning.Global e))
bind_other ok k (meaning.Local i) (meaning.Global j) t d = refl
bind_other ok k (meaning.Global i) (meaning.Local j) t d = refl
bind_other ok k (meaning.Local i) _ t d = refl
bind_other ok k (meaning.Global i) _ t d = refl
bind_other ok k _ o t d = refl

-- a first binding gives its type
pub bind_first : (k : Known) (n : Meaning) (t : Sort) → is_there k.types n ≡ true → is_variable n ≡ true → sort_in k.types n ≡ unset → sort_in (bind_variable true k n (Some t)).types n ≡ has t
bind_first k (meaning.Local i) t h v q = fix_first k.types.locals i (has t) (ltb-true i (length k.types.locals) h) (ap is_unset q)
bind_first k (meaning.Global i) t h v q = fix_first k.types.globals i (has t) (ltb-true i (length k.types.globals) h) (ap is_unset q)
bind_first k _ t h v q = absurd (cc)

bind_kept : (ok : Bool) (k : Known) (n : Meaning) (t : Option Sort) (s : Sort) → is_variable n ≡ true → sort_in k.types n ≡ has s → (bind_variable ok k n t).types ≡ k.types
bind_kept ok k (meaning.Local i) t s v q = bind_set ok k (meaning.Local i) t (ap is_unset q)
bind_kept ok k (meaning.Global i) t s v q = bind_set ok k (meaning.Global i) t (ap is_unset q)
bind_kept ok k _ t s v q = refl

same_text : (x y : List ℕ) → bytes_eq x y ≡ true → x ≡ y
same_text x y e = (bytes_eq-Decides x y).0 e

pub text_is_itself : (x : List ℕ) → bytes_eq x x ≡ true
text_is_itself x = (bytes_eq-Decides x x).1 refl

abbrev pub Seen : Type 0
Seen = List (List ℕ × Sort)

-- what is found behind one more
abbrev or_last : Option Sort → Option Sort → Option Sort
or_last None o = o
or_last (Some t) o = Some t

found_last : (x : List ℕ) (seen : Seen) (y : List ℕ) (t : Sort) → lookup (bytes_eq x) (seen ++ (y, t) ∷ []) ≡ or_last (lookup (bytes_eq x) seen) (cond (bytes_eq x y) (Some t) None)
found_last x [] y t = refl
found_last x (p ∷ seen) y t = by (bytes_eq x p.0) (found_last x seen y t)
  where
    by : (b : Bool) → lookup (bytes_eq x) (seen ++ (y, t) ∷ []) ≡ or_last (lookup (bytes_eq x) seen) (cond (bytes_eq x y) (Some t) None)
        → cond b (Some p.1) (lookup (bytes_eq x) (seen ++ (y, t) ∷ [])) ≡ or_last (cond b (Some p.1) (lookup (bytes_eq x) seen)) (cond (bytes_eq x y) (Some t) None)
    by true h = refl
    by false h = h

last_none : (o : Option Sort) → or_last o None ≡ o
last_none None = refl
last_none (Some t) = refl

module _ (C : Context) (V : VarSorts) where
  -- each name that had no type in front of the row has that of its first part so far
  abbrev pub Given : VarSorts → Seen → Type 0
  Given W seen = (x : List ℕ) → is_open V (C.meaning x) ≡ true → sort_in W (C.meaning x) ≡ seen_sort (lookup (bytes_eq x) seen)

  pub given_start : Given V []
  given_start x h = open_unset V (C.meaning x) h

  given_same : (W X : VarSorts) (seen : Seen) → X ≡ W → Given W seen → Given X seen
  given_same W X seen q g x h = ap (λ z. sort_in z (C.meaning x)) q ∙ g x h

  -- of a name that is bound to a part of this type: what it has then
  given_first : (k : Known) (seen : Seen) (y : List ℕ) (t : Sort) (o : Option Sort) → IsScope C k.types → is_open V (C.meaning y) ≡ true → lookup (bytes_eq y) seen ≡ o → sort_in k.types (C.meaning y) ≡ seen_sort o → sort_in (bind_variable true k (C.meaning y) (Some t)).types (C.meaning y) ≡ seen_sort (or_last o (Some t))
  given_first k seen y t None s p q g = bind_first k (C.meaning y) t (scope_there C k.types s y) (open_variable V (C.meaning y) p) g
  given_first k seen y t (Some r) s p q g = ap (λ z. sort_in z (C.meaning y)) (bind_kept true k (C.meaning y) (Some t) r (open_variable V (C.meaning y) p) g) ∙ g

  given_on : (k : Known) (seen : Seen) (y : List ℕ) (t : Sort) → IsScope C k.types → is_open V (C.meaning y) ≡ true → Given k.types seen → Given (bind_variable true k (C.meaning y) (Some t)).types (seen ++ (y, t) ∷ [])
  given_on k seen y t s p g x h = by (bytes_eq x y) refl
    where
      behind : VarSort
      behind = sort_in (bind_variable true k (C.meaning y) (Some t)).types (C.meaning x)

      by : (b : Bool) → bytes_eq x y ≡ b → sort_in (bind_variable true k (C.meaning y) (Some t)).types (C.meaning x) ≡ seen_sort (lookup (bytes_eq x) (seen ++ (y, t) ∷ []))
      by true q =
          ap (λ z. sort_in (bind_variable true k (C.meaning y) (Some t)).types (C.meaning z)) (same_text x y q)
          ∙ given_first k seen y t (lookup (bytes_eq y) seen) s p refl (g y p)
          ∙ ap (λ z. seen_sort (or_last (lookup (bytes_eq z) seen) (Some t))) (sym (same_text x y q))
          ∙ ap (λ (b : Bool). seen_sort (or_last (lookup (bytes_eq x) seen) (cond b (Some t) None))) (sym q)
          ∙ ap seen_sort (sym (found_last x seen y t))
      by false q =
          bind_other true k (C.meaning y) (C.meaning x) (Some t) (λ e. clash (bytes_eq x y) (ap (λ z. bytes_eq x z) (sym (s.differ x y (open_variable V (C.meaning x) h) e)) ∙ text_is_itself x) q)
          ∙ g x h
          ∙ ap seen_sort (sym (last_none (lookup (bytes_eq x) seen)))
          ∙ ap (λ (b : Bool). seen_sort (or_last (lookup (bytes_eq x) seen) (cond b (Some t) None))) (sym q)
          ∙ ap seen_sort (sym (found_last x seen y t))

-- ---- targets that stand

module _ (C : Context) (m : TypedModule) (locals : List Variable) (init : Option ℕ) (result : Option Sort) where
  abbrev here : Context
  here = scene C m locals init

  -- its declared type is this one, and it stands where so much is known
  pub record TargetStands (others : List ℕ) (target : TypedTarget) (t : Sort) : Type 0 where
    pub there : stmt.target_typed m locals init result others target ≡ true
    pub type : stmt.target_type m locals init result target ≡ t
    pub value : is_value_type (length m.classes.classes) t ≡ true

  assignable : (s i u : Sort) → is_written s ≡ true → indexed s i ≡ Some u → stmt.is_assignable m locals init result s i ≡ true
  assignable (sort.ListOf s) i u w h = ap (λ o. stmt.is_there m locals init result o) h
  assignable (sort.DictOf k s) i u w h = ap (λ o. stmt.is_there m locals init result o) h
  assignable _ i u w h = absurd (cc)

  three_hold : (a b c : Bool) → a ≡ true → b ≡ true → c ≡ true → (a && b && c) ≡ true
  three_hold a b c p q r = cc

  pub held_stands : (k : Known) → Describes here k.types m locals init → (e : ExprTree) → (name_in e ≡ None → law.is_written e ≡ true) → (target : TypedTarget) (t : Sort) → Held here k e target t → (others : List ℕ) → (name_in e ≡ None → Within k.names others) → TargetStands others target t
  held_stands k D e w target t (held_local x i n q is v) others wi =
      let d = (D.locals_are i t v).is in
      let u = (D.locals_are i t v).type in
      subst (λ z. TargetStands others z t) is (record { there = declared_there locals i t d; type = declared_sort locals i t d; value = u })
  held_stands k D e w target t (held_global x i n q is v) others wi =
      let d = (D.globals_are i t v).is in
      let u = (D.globals_are i t v).type in
      subst (λ z. TargetStands others z t) is (record { there = declared_there m.globals i t d; type = declared_sort m.globals i t d; value = u })
  held_stands k D e w target t (held_item b i place n g written is) others wi =
      let r = item_at_place C m locals init k D e (w n) b i t place g written others (wi n) in
      subst (λ z. TargetStands others z t) is (record {
        there = three_hold (stands m locals init false others b) (stands m locals init false others i) (stmt.is_assignable m locals init result (type_of b) (type_of i)) r.0 r.1 (assignable (type_of b) (type_of i) r.2.at.0 written r.2.at.1);
        type = r.2.of;
        value = r.2.type;
      })
  held_stands k D e w target t (held_attribute b a place n g is) others wi =
      let r = attribute_at_place C m locals init k D e (w n) b a t place g others (wi n) in
      subst (λ z. TargetStands others z t) is (record {
        there = and_from (stands m locals init false others b) (not (is_nothing (attribute_sort m.classes.classes (type_of b) a))) r.0 (ap (λ s. not (is_nothing s)) r.1 ∙ ap not (value_not_nothing (length m.classes.classes) t r.2));
        type = r.1;
        value = r.2;
      })

  -- a variable that has a type behind the binding
  pub variable_stands : (V : VarSorts) → Describes here V m locals init → (e : ExprTree) (target : TypedTarget) (k : Known) → First here k e target → (t : Sort) → ((x : List ℕ) → name_in e ≡ Some x → sort_in V (C.meaning x) ≡ has t) → (others : List ℕ) → TargetStands others target t
  variable_stands V D e target k (first_local x i n q is v) t h others =
      let d = (D.locals_are i t (ap (sort_in V) (sym q) ∙ h x n)).is in
      let u = (D.locals_are i t (ap (sort_in V) (sym q) ∙ h x n)).type in
      subst (λ z. TargetStands others z t) is (record { there = declared_there locals i t d; type = declared_sort locals i t d; value = u })
  variable_stands V D e target k (first_global x i n q is v) t h others =
      let d = (D.globals_are i t (ap (sort_in V) (sym q) ∙ h x n)).is in
      let u = (D.globals_are i t (ap (sort_in V) (sym q) ∙ h x n)).type in
      subst (λ z. TargetStands others z t) is (record { there = declared_there m.globals i t d; type = declared_sort m.globals i t d; value = u })

  pub first_open : (k : Known) (e : ExprTree) (target : TypedTarget) (y : List ℕ) → First here k e target → name_in e ≡ Some y → is_open k.types (C.meaning y) ≡ true
  first_open k e target y (first_local x i n q is v) h = ap (λ z. is_open k.types (C.meaning z)) (same_Some y x (sym h ∙ n)) ∙ ap (is_open k.types) q ∙ v
  first_open k e target y (first_global x i n q is v) h = ap (λ z. is_open k.types (C.meaning z)) (same_Some y x (sym h ∙ n)) ∙ ap (is_open k.types) q ∙ v

  -- ---- several targets

  pub record RowStands (others : List ℕ) (l : List Aim) (ts : List Sort) (end : List ℕ) : Type 0 where
    pub typed : stmt.targets_typed m locals init result others (targets_of l) ts ≡ true
    pub fit : stmt.parts_fit m locals init result (targets_of l) ts ≡ true
    pub types : list_all (λ t. is_value_type (length m.classes.classes) (stmt.target_type m locals init result t)) (targets_of l) ≡ true
    pub names : Within end (after_parts others (targets_of l) ts)

  -- one more in front
  in_front : (others : List ℕ) (target : TypedTarget) (l : List TypedTarget) (t s : Sort) (ts : List Sort) → TargetStands others target t → fits m.classes.classes s t ≡ true → stmt.targets_typed m locals init result (after_target others target s) l ts ≡ true → stmt.parts_fit m locals init result l ts ≡ true
      → (stmt.targets_typed m locals init result others (target ∷ l) (s ∷ ts) ≡ true) × (stmt.parts_fit m locals init result (target ∷ l) (s ∷ ts) ≡ true)
  in_front others target l t s ts st f rest fit = (
    and_from (stmt.target_typed m locals init result others target) (stmt.targets_typed m locals init result (after_target others target s) l ts) st.there rest,
    and_from (fits m.classes.classes s (stmt.target_type m locals init result target)) (stmt.parts_fit m locals init result l ts) (ap (λ z. fits m.classes.classes s z) st.type ∙ f) fit,
  )

  type_in_front : (others : List ℕ) (target : TypedTarget) (l : List TypedTarget) (t : Sort) → TargetStands others target t → list_all (λ u. is_value_type (length m.classes.classes) (stmt.target_type m locals init result u)) l ≡ true
      → list_all (λ u. is_value_type (length m.classes.classes) (stmt.target_type m locals init result u)) (target ∷ l) ≡ true
  type_in_front others target l t st rest =
      and_from (is_value_type (length m.classes.classes) (stmt.target_type m locals init result target)) (list_all (λ u. is_value_type (length m.classes.classes) (stmt.target_type m locals init result u)) l) (ap (is_value_type (length m.classes.classes)) st.type ∙ st.value) rest

  again_fits : (t : Sort) (o : Option Sort) → again_fault m.classes.classes o t ≡ None → (r : Sort) → seen_sort (or_last o (Some t)) ≡ has r → fits m.classes.classes t r ≡ true
  again_fits t None h r q = subst (λ z. fits m.classes.classes t z ≡ true) (same_has t r q) (fits_itself m.classes.classes t)
    where
      same_has : (a b : Sort) → has a ≡ has b → a ≡ b
      same_has a b e = cc
  again_fits t (Some s) h r q = subst (λ z. fits m.classes.classes t z ≡ true) (same_has s r q) (by (fits m.classes.classes t s) h)
    where
      same_has : (a b : Sort) → has a ≡ has b → a ≡ b
      same_has a b e = cc

      by : (b : Bool) → (if b then None else Some (Rattle.py_check_messages.specs.Messages.wrong_assignment m.classes.classes t s)) ≡ None → b ≡ true
      by true e = refl
      by false e = absurd (cc)

  seen_type : (o : Option Sort) (t : Sort) → (r : Sort) × (seen_sort (or_last o (Some t)) ≡ has r)
  seen_type None t = (t, refl)
  seen_type (Some r) t = (r, refl)

  -- what an item of a row is looked at with is known, or the row has no items
  abbrev pub Near : List ℕ → List ℕ → List ExprTree → Type 0
  Near names others es = Within names others ⊎ (list_all is_named es ≡ true)

  near_item : (names others : List ℕ) (e : ExprTree) (es : List ExprTree) → Near names others (e ∷ es) → name_in e ≡ None → Within names others
  near_item names others e es (inl w) n = w
  near_item names others e es (inr h) n = clash (is_named e) (and_left (is_named e) (list_all is_named es) h) (ap is_some n)

  near_rest : (k : Known) (e : ExprTree) (es : List ExprTree) (target : TypedTarget) (t : Option Sort) (s : Sort) (others : List ℕ) → Aimed here e target → (is_plain t ≡ true → may_be_none s ≡ false) → Near k.names others (e ∷ es) → Near (beyond here k (name_in e) t).names (after_target others target s) es
  near_rest k e es target t s others a p (inl w) = inl (aimed_behind here e target a k t s others w p)
  near_rest k e es target t s others a p (inr h) = inr (and_right (is_named e) (list_all is_named es) h)

  -- the part that a target takes, and those behind it
  next_plain : (o : Option (List Sort)) (t : Sort) (ts : List Sort) → Fair o (t ∷ ts) → is_plain (next_part o) ≡ true → may_be_none t ≡ false
  next_plain None t ts f p = absurd (cc)
  next_plain (Some ss) t ts f p = not_true (may_be_none t) (subst (λ z. is_plain (next_part (Some z)) ≡ true) f p)

  more_fair : (o : Option (List Sort)) (t : Sort) (ts : List Sort) → Fair o (t ∷ ts) → Fair (more_parts o) ts
  more_fair None t ts f = tt
  more_fair (Some ss) t ts f = subst (λ z. Fair (more_parts (Some z)) ts) (sym f) refl

  -- a target that has a type keeps it
  held_kept : (k0 k : Known) (e : ExprTree) (target : TypedTarget) (t : Sort) (o : Option Sort) → Held here k0 e target t → Follows k0.types k.types → (bind_name here true k (name_in e) o).types ≡ k.types
  held_kept k0 k e target t o (held_local x i n q is v) f =
      ap (λ z. (bind_name here true k z o).types) n ∙ bind_set true k (C.meaning x) o (open_follows k0.types k.types (C.meaning x) f (ap (is_open k0.types) q ∙ ap is_unset v))
  held_kept k0 k e target t o (held_global x i n q is v) f =
      ap (λ z. (bind_name here true k z o).types) n ∙ bind_set true k (C.meaning x) o (open_follows k0.types k.types (C.meaning x) f (ap (is_open k0.types) q ∙ ap is_unset v))
  held_kept k0 k e target t o (held_item b i place n g w is) f = ap (λ z. (bind_name here true k z o).types) n
  held_kept k0 k e target t o (held_attribute b a place n g is) f = ap (λ z. (bind_name here true k z o).types) n

  pub sort_follows : (V W : VarSorts) (n : Meaning) (r : Sort) → Follows V W → sort_in V n ≡ has r → sort_in W n ≡ has r
  sort_follows V W (meaning.Local i) r f h = f.locals.stays i (ap is_unset h) ∙ h
  sort_follows V W (meaning.Global i) r f h = f.globals.stays i (ap is_unset h) ∙ h
  sort_follows V W _ r f h = h

  same_bound : (k : Known) (e : ExprTree) (y : List ℕ) (t : Sort) → name_in e ≡ Some y → bind_name here true k (name_in e) (Some t) ≡ bind_variable true k (C.meaning y) (Some t)
  same_bound k e y t n = ap (λ o. bind_name here true k o (Some t)) n

  one_less : (a b : ℕ) → suc a ≡ suc b → a ≡ b
  one_less a b h = cc

  -- SEVERAL TARGETS that were looked at in one place, and are bound one behind the other to parts that fit them
  pub rows : (k0 : Known) → Describes here k0.types m locals init → (es : List ExprTree) (l : List Aim) (parts : Option (List Sort)) (ts : List Sort) → Fair parts ts → (seen : Seen) (k : Known) (others : List ℕ) → Follows k0.types k.types → IsScope here k.types → Given here k0.types k.types seen → Within k.names others → Near k0.names others es → AimsOf here k0 parts es l
      → list_all law.is_written es ≡ true → first_barred l ≡ None → is_itemless l ≡ true → parts_fault m.classes.classes seen l ts ≡ None → length ts ≡ length l
      → Describes here (bind_names here true k (map name_in es) ts).types m locals init → RowStands others l ts (bind_names here true k (map name_in es) ts).names
  rows k0 D [] [] parts [] fair seen k others f s g w near a wr ref less part n E = record { typed = refl; fit = refl; types = refl; names = within_kept k.names others w }
  rows k0 D [] [] parts (t ∷ ts) fair seen k others f s g w near a wr ref less part n E = absurd (cc)
  rows k0 D [] (x ∷ l) parts ts fair seen k others f s g w near a wr ref less part n E = absurd a
  rows k0 D (e ∷ es) [] parts ts fair seen k others f s g w near a wr ref less part n E = absurd a
  rows k0 D (e ∷ es) (x ∷ l) parts [] fair seen k others f s g w near a wr ref less part n E = absurd (cc)
  rows k0 D (e ∷ es) (held target r ∷ l) parts (t ∷ ts) fair seen k others f s g w near a wr ref less part n E =
      let k1 = bind_name here true k (name_in e) (Some t) in
      let h = aim_held here k0 e target r a.here in
      let p = first_none (again_fault m.classes.classes (Some r) t) (parts_fault m.classes.classes seen l ts) part in
      let st = held_stands k0 D e (λ q. and_left (law.is_written e) (list_all law.is_written es) wr) target r h others (near_item k0.names others e es near) in
      let w1 = aimed_bound here e target (held_aimed here k0 e target r h) true k (Some t) t others w (λ q. not_true (may_be_none t) q) in
      let rest = rows (beyond here k0 (name_in e) (next_part parts)) D es l (more_parts parts) ts (more_fair parts t ts fair) seen k1 (after_target others target t) (follows_on k0.types k.types k1.types f (follows_name here true k (name_in e) (Some t))) (scope_on here k.types k1.types (follows_name here true k (name_in e) (Some t)) s)
      (given_same here k0.types k.types k1.types seen (held_kept k0 k e target r (Some t) h f) g) w1
      (near_rest k0 e es target (next_part parts) t others (held_aimed here k0 e target r h) (next_plain parts t ts fair) near)
      a.rest (and_right (law.is_written e) (list_all law.is_written es) wr) ref less p.1 (one_less (length ts) (length l) n) E in
      let q = in_front others target (targets_of l) r t ts st (part_fits m.classes.classes t r p.0) rest.typed rest.fit in
      record { typed = q.0; fit = q.1; types = type_in_front others target (targets_of l) r st rest.types; names = rest.names }
  rows k0 D (e ∷ es) (first target y ∷ l) parts (t ∷ ts) fair seen k others f s g w near a wr ref less part n E =
      let k1 = bind_name here true k (name_in e) (Some t) in
      let end = bind_names here true k1 (map name_in es) ts in
      let x = first_name here k0 e target y a.here in
      let h = aim_first here k0 e target y a.here in
      let p = first_none (again_fault m.classes.classes (lookup (bytes_eq y) seen) t) (parts_fault m.classes.classes (seen ++ (y, t) ∷ []) l ts) part in
      let o = first_open k0 e target y h x in
      let g1 = given_same here k0.types (bind_variable true k (C.meaning y) (Some t)).types k1.types (seen ++ (y, t) ∷ []) (ap (λ (z : Known). z.types) (same_bound k e y t x)) (given_on here k0.types k seen y t s o g) in
      let r = seen_type (lookup (bytes_eq y) seen) t in
      let has_type : sort_in k1.types (C.meaning y) ≡ has r.0 =
      g1 y o ∙ ap seen_sort (found_last y seen y t) ∙ ap (λ (b : Bool). seen_sort (or_last (lookup (bytes_eq y) seen) (cond b (Some t) None))) (text_is_itself y) ∙ r.1 in
      let st = variable_stands end.types E e target k0 h r.0 (λ z q. ap (λ v. sort_in end.types (C.meaning v)) (same_Some z y (sym q ∙ x)) ∙ sort_follows k1.types end.types (C.meaning y) r.0 (follows_names here true k1 (map name_in es) ts) has_type) others in
      let w1 = aimed_bound here e target (first_aimed here k0 e target h) true k (Some t) t others w (λ q. not_true (may_be_none t) q) in
      let rest = rows (beyond here k0 (name_in e) (next_part parts)) D es l (more_parts parts) ts (more_fair parts t ts fair) (seen ++ (y, t) ∷ []) k1 (after_target others target t) (follows_on k0.types k.types k1.types f (follows_name here true k (name_in e) (Some t))) (scope_on here k.types k1.types (follows_name here true k (name_in e) (Some t)) s)
      g1 w1 (near_rest k0 e es target (next_part parts) t others (first_aimed here k0 e target h) (next_plain parts t ts fair) near)
      a.rest (and_right (law.is_written e) (list_all law.is_written es) wr) ref less p.1 (one_less (length ts) (length l) n) E in
      let q = in_front others target (targets_of l) r.0 t ts st (again_fits t (lookup (bytes_eq y) seen) p.0 r.0 r.1) rest.typed rest.fit in
      record { typed = q.0; fit = q.1; types = type_in_front others target (targets_of l) r.0 st rest.types; names = rest.names }
  rows k0 D (e ∷ es) (barred x ∷ l) parts (t ∷ ts) fair seen k others f s g w near a wr ref less part n E = absurd (cc)
  rows k0 D (e ∷ es) (unwritten x ∷ l) parts (t ∷ ts) fair seen k others f s g w near a wr ref less part n E = absurd (cc)
  rows k0 D (e ∷ es) (lacking x y ∷ l) parts (t ∷ ts) fair seen k others f s g w near a wr ref less part n E = absurd (cc)
  rows k0 D (e ∷ es) (misplaced x ∷ l) parts (t ∷ ts) fair seen k others f s g w near a wr ref less part n E = absurd (cc)
