-- What operators and builtins do with values of the types that they ask for is fine.
-- The letters are those of `Fine`.
use Rattle.std.proofs.Common.{◌≡◌, ℕ, zero, suc, ◌<◌, ◌^◌, ◌-◌, ℤ, pos, negsuc, Bool, true, false, not, ◌&&◌, List, [], ◌∷◌, length, map, Option, Some, None, Result, Ok, Err, refl, sym, ap, subst, ◌∙◌, ◌⊎◌, inl, inr, if◌then◌else◌, nat_lt, slice_get, slice_set, arith, codes}
use Rattle.std.proofs.lemmas.Bool.Decides.{nat_tests}
use Rattle.std.proofs.lemmas.Option.{same_Some, cond_some, slice_get-map}
use Rattle.std.specs.Prelude.{◌+ℤ◌, ◌-ℤ◌, ◌*ℤ◌, neg_ℤ}
use Rattle.std.specs.Option.{option_map}
use Rattle.std.specs.List.{list_all}
use Rattle.std.specs.Str.{chars, encode_utf8_all, is_utf8}
use Rattle.value_core.specs.declared.arith.Arith.{Arith}
use Rattle.value_core.specs.declared.arith.Arith.TheVariants.{Overflow, ZeroDivisor, NegativeShift, OutOfRange}
use Rattle.value_core.specs.declared.exception.ExcClass.TheVariants.{ValueError, IndexError, KeyError}
use Rattle.value_core.specs.Arithmetic.{lies_within}
use Rattle.value_core.specs.Characters.{place_of}
use Rattle.value_core.specs.Exceptions.{thrown}
use Rattle.value_core.specs.Items as item
use Rattle.value_core.specs.Items.{Items, line_feed}
use Rattle.value_core.specs.Value.{Value, IntVal, BoolVal, NoneVal, StrVal, TupleVal, ExcVal, ObjVal, listed, Object, ListObj, DictObj, InstObj}
use Rattle.py_syntax.specs.declared.expression.BinOp.{BinOp}
use Rattle.py_syntax.specs.declared.expression.BinOp.TheVariants.{Add, Sub, Mul, FloorDiv, Mod, Shl, Shr, Bar}
use Rattle.py_typed.specs.Sorts.{Sort, Int, I64, Bool as BoolSort, Str, Nothing, ListOf, DictOf, TupleOf, Optional, Instance, Exc, Sorts, sorts_of, listed_sorts}
use Rattle.py_typed.specs.Classes.{is_class_under}
use Rattle.py_typed.specs.Order.{attributes}
use Rattle.py_typed.specs.Fits.{is_number, is_same_type, number_join, fits}
use Rattle.py_typed.specs.Laws.{IsClassTree}
use Rattle.py_typed.specs.Statements.{Variable, TypedModule}
use Rattle.py_typed.specs.TargetTypes.{item_sort}
use Rattle.source_meaning.specs.State.{State, Gives, Does, give, raise_new, look, sure, needs}
use Rattle.source_meaning.specs.Operations.{raise_fault, number_of, of_int, of_i64, of_numbers, with_number, arithmetic, negated_as, negated, joined, past_range, no_i64, as_list, as_dict, as_instance, with_list, with_dict, with_instance, with_place, at_place, list_item, letter, letters, tuple_part, key_place, with_entry, without_entry, entered, has_text, text_of, line_of, are_alike, at_key, dict_item, delete_entry, is_filled, truth_of_object, truth_of, length_value, length_of_object, length_of, item_at, set_item, compared, compared_as, found, counted, next_line, is_equal}
use Rattle.py_typed.specs.WellTypedExpr.{is_key_type, is_printable, is_sized, is_bar, are_texts, are_numbers, operation_sort, is_type, indexed}
use Rattle.py_typed.proofs.FitLemmas.{and_left, and_right, one_type}
use Rattle.source_soundness.proofs.Facts.{both}
use Rattle.source_meaning.proofs.RangeLemmas.{IsInt, IsNative, checked_int, wrap_within, quotient_int, quotient_native, rest_int, rest_native, left_int, left_native, right_int, right_native, wider}
use Rattle.source_soundness.specs.Texts.{has_utf8_lines}
use Rattle.source_soundness.proofs.TextLemmas.{ascii_text, text_behind, number_text, letter_texts}
use Rattle.source_soundness.proofs.Worlds.{World, IsText, Has, HaveAll, Each, EachPair, HoldAll, Is, has_still, one_of_all, each_got, each_set, stored_at}
use Rattle.source_soundness.proofs.Fine.{TextsAre, Good, Post, Fine, fine_bind, fine_post, stopped, fine_give, fine_new, fine_needs, fine_sure, fine_put}
use Rattle.source_soundness.proofs.FitValues.{fine_coerced}

-- ---- of the types of operands

-- int and i64; those and bool and str
abbrev pub IsWhole : Sort → Type 0
IsWhole Int = Unit {0}
IsWhole I64 = Unit {0}
IsWhole _ = ⊥

abbrev pub IsPlain : Sort → Type 0
IsPlain Int = Unit {0}
IsPlain I64 = Unit {0}
IsPlain BoolSort = Unit {0}
IsPlain Str = Unit {0}
IsPlain _ = ⊥

pub joined_whole : (a c : Sort) → IsWhole (number_join a c)
joined_whole I64 c = tt
joined_whole Int I64 = tt
joined_whole _ I64 = tt
joined_whole _ _ = tt

if_some : (b : Bool) (x : Option Sort) (y : Option Sort) (t : Sort) → is_type (if b then x else y) t ≡ true → ((b ≡ true) × (is_type x t ≡ true)) ⊎ ((b ≡ false) × (is_type y t ≡ true))
if_some true x y t e = inl (refl, e)
if_some false x y t e = inr (refl, e)

no_text : (a c : Sort) → is_number a ≡ true → are_texts a c ≡ true → ⊥
no_text Int c e f = cc
no_text I64 c e f = cc
no_text BoolSort c e f = cc
no_text _ c e f = cc

not_true : (b : Bool) → not b ≡ true → b ≡ false
not_true true e = absurd (cc)
not_true false e = refl

none_is : (t : Sort) {A : Type 0} → is_type None t ≡ true → A
none_is t e = absurd (cc)

-- arithmetic on numbers is in the join of their types, by an operator that is no bar
pub operation_of : (op : BinOp) (a c t : Sort) → are_numbers a c ≡ true → is_type (operation_sort op a c) t ≡ true → (t ≡ number_join a c) × (is_bar op ≡ false)
operation_of Add a c t n e = added (if_some (are_texts a c) _ _ t e)
  where
    joins : (if are_numbers a c then Some (number_join a c) else None) ≡ Some (number_join a c)
    joins = ap (λ b. if b then Some (number_join a c) else None) n

    added : ((are_texts a c ≡ true) × (is_type (Some Str) t ≡ true)) ⊎ ((are_texts a c ≡ false) × (is_type (if are_numbers a c then Some (number_join a c) else None) t ≡ true)) → (t ≡ number_join a c) × (is_bar Add ≡ false)
    added (inl p) = absurd (no_text a c (and_left (is_number a) (is_number c) n) p.0)
    added (inr p) = (sym (one_type (number_join a c) t (subst (λ x. is_type x t ≡ true) joins p.1)), refl)
operation_of Bar a c t n e = barred (if_some (are_numbers a c && not true) _ _ t e)
  where
    barred : (((are_numbers a c && not true) ≡ true) × (is_type (Some (number_join a c)) t ≡ true)) ⊎ (((are_numbers a c && not true) ≡ false) × (is_type None t ≡ true)) → (t ≡ number_join a c) × (is_bar Bar ≡ false)
    barred (inl p) = absurd (cc (and_right (are_numbers a c) (not true) p.0))
    barred (inr p) = none_is t p.1
operation_of op a c t n e = other (if_some (are_numbers a c && not false) _ _ t e)
  where
    other : (((are_numbers a c && not false) ≡ true) × (is_type (Some (number_join a c)) t ≡ true)) ⊎ (((are_numbers a c && not false) ≡ false) × (is_type None t ≡ true)) → (t ≡ number_join a c) × (false ≡ false)
    other (inl p) = (sym (one_type (number_join a c) t p.1), refl)
    other (inr p) = none_is t p.1

-- a dict's keys are of a type that keys may have
abbrev pub KeysOf : Sort → Type 0
KeysOf (DictOf a t) = is_key_type a ≡ true
KeysOf _ = Unit {0}

-- ---- places

within : (n : ℕ) (i : ℤ) (j : ℕ) → place_of n i ≡ Some j → j < n
within n (pos i) j e = let r = cond_some (nat_lt i n) i j e in grind (arith, nat_tests, r.0, r.1)
within n (negsuc i) j e = let r = cond_some (nat_lt i n) _ j e in grind (arith, nat_tests, r.0, r.1)

pub got_within : {A : Type 0} (xs : List A) (j : ℕ) → j < length xs → (x : A) × (slice_get xs j ≡ Some x)
got_within [] j l = absurd (omega (arith, l))
got_within (x ∷ xs) zero l = (x, refl)
got_within (x ∷ xs) (suc j) l = got_within xs j (omega (arith, l))

-- ---- dicts

pair_there : (key : Value) (ps : List (Value × Value)) (j : ℕ) → key_place key ps ≡ Some j → (p : Value × Value) × (slice_get ps j ≡ Some p)
pair_there key [] j e = absurd (cc)
pair_there key (p ∷ ps) j e = first (λ i f. pair_there key ps i f) (is_equal p.0 key) e
  where
    next : ((i : ℕ) → key_place key ps ≡ Some i → (q : Value × Value) × (slice_get ps i ≡ Some q)) → (o : Option ℕ) → key_place key ps ≡ o → option_map suc o ≡ Some j → (q : Value × Value) × (slice_get (p ∷ ps) j ≡ Some q)
    next below None f e = absurd (cc)
    next below (Some i) f e =
        let r = below i f in
        (r.0, subst (λ x. slice_get (p ∷ ps) x ≡ Some r.0) (same_Some (suc i) j e) r.1)

    first : ((i : ℕ) → key_place key ps ≡ Some i → (q : Value × Value) × (slice_get ps i ≡ Some q)) → (b : Bool) → (if b then Some 0 else option_map suc (key_place key ps)) ≡ Some j → (q : Value × Value) × (slice_get (p ∷ ps) j ≡ Some q)
    first below true e = (p, subst (λ x. slice_get (p ∷ ps) x ≡ Some p) (same_Some 0 j e) refl)
    first below false e = next below (key_place key ps) refl e

module _ {utf8 : Bool} (m : TypedModule) (W : World utf8) where
  pub pair_got : (a t : Sort) (ps : List (Value × Value)) (i : ℕ) (p : Value × Value) → EachPair m.classes.classes a t W ps → slice_get ps i ≡ Some p → Has m.classes.classes a W p.0 × Has m.classes.classes t W p.1
  pair_got a t [] i p h e = absurd (cc)
  pair_got a t (q ∷ ps) zero p h e = subst (λ (x : Value × Value). Has m.classes.classes a W x.0 × Has m.classes.classes t W x.1) (same_Some q p e) h.0
  pair_got a t (q ∷ ps) (suc i) p h e = pair_got a t ps i p h.1 e

  entry_kept : (a t : Sort) (key v : Value) (ps : List (Value × Value)) → EachPair m.classes.classes a t W ps → Has m.classes.classes a W key → Has m.classes.classes t W v → EachPair m.classes.classes a t W (with_entry key v ps)
  entry_kept a t key v [] h k w = ((k, w), tt)
  entry_kept a t key v (p ∷ ps) h k w = first (is_equal p.0 key) (entry_kept a t key v ps h.1 k w)
    where
      first : (b : Bool) → EachPair m.classes.classes a t W (with_entry key v ps) → EachPair m.classes.classes a t W (if b then (p.0, v) ∷ ps else p ∷ with_entry key v ps)
      first true r = ((h.0.0, w), h.1)
      first false r = (h.0, r)

  without_kept : (a t : Sort) (key : Value) (ps : List (Value × Value)) → EachPair m.classes.classes a t W ps → EachPair m.classes.classes a t W (without_entry key ps)
  without_kept a t key [] h = h
  without_kept a t key (p ∷ ps) h = first (is_equal p.0 key) (without_kept a t key ps h.1)
    where
      first : (b : Bool) → EachPair m.classes.classes a t W (without_entry key ps) → EachPair m.classes.classes a t W (if b then ps else p ∷ without_entry key ps)
      first true r = h.1
      first false r = (h.0, r)

  pub entered_kept : (a t : Sort) (ps qs : List (Value × Value)) → EachPair m.classes.classes a t W ps → EachPair m.classes.classes a t W qs → EachPair m.classes.classes a t W (entered ps qs)
  entered_kept a t [] qs h k = k
  entered_kept a t (p ∷ ps) qs h k = entered_kept a t ps (with_entry p.0 p.1 qs) h.1 (entry_kept a t p.0 p.1 qs k h.0.0 h.0.1)

  -- ---- texts

  key_text : (t : Sort) (v : Value) → is_key_type t ≡ true → Has m.classes.classes t W v → has_text v ≡ true
  key_text Str v e h = ap has_text h.1
  key_text Int v e h = ap has_text h.1
  key_text I64 v e h = ap has_text h.1
  key_text BoolSort v e h = ap has_text h.1
  key_text _ v e h = absurd (cc)

  pub printed : (t : Sort) (v : Value) → is_printable t ≡ true → Has m.classes.classes t W v → has_text v ≡ true
  printed Str v e h = ap has_text h.1
  printed Int v e h = ap has_text h.1
  printed I64 v e h = ap has_text h.1
  printed BoolSort v e h = ap has_text h.1
  printed (Exc c) v e h = ap has_text h.1
  printed _ v e h = absurd (cc)

  pub all_printed : (ts : List Sort) (vs : List Value) → list_all is_printable ts ≡ true → HaveAll m.classes.classes (sorts_of ts) W vs → list_all has_text vs ≡ true
  all_printed [] [] e h = refl
  all_printed [] (v ∷ vs) e h = absurd h
  all_printed (t ∷ ts) [] e h = absurd h
  all_printed (t ∷ ts) (v ∷ vs) e h = both (has_text v) (list_all has_text vs) (printed t v (and_left (is_printable t) (list_all is_printable ts) e) h.0) (all_printed ts vs (and_right (is_printable t) (list_all is_printable ts) e) h.1)

  -- the text that a value is written as
  pub written_text : (t : Sort) (v : Value) → is_printable t ≡ true → Has m.classes.classes t W v → IsText utf8 (text_of v)
  written_text Str v e h q = subst (λ z. is_utf8 (text_of z) ≡ true) (sym h.1) (h.2 q)
  written_text Int v e h q = subst (λ z. is_utf8 (text_of z) ≡ true) (sym h.1) (number_text h.0 h.2)
  written_text I64 v e h q = subst (λ z. is_utf8 (text_of z) ≡ true) (sym h.1) (number_text h.0 (wider h.0 h.2))
  written_text BoolSort v e h q = subst (λ z. is_utf8 (text_of z) ≡ true) (sym h.1) (flag h.0)
    where
      flag : (b : Bool) → is_utf8 (text_of (BoolVal b)) ≡ true
      flag true = ascii_text (codes "True") refl
      flag false = ascii_text (codes "False") refl
  written_text (Exc c) v e h q = subst (λ z. is_utf8 (text_of z) ≡ true) (sym h.1) (h.3 q)
  written_text _ v e h q = absurd (cc)

  key_prints : (t : Sort) → is_key_type t ≡ true → is_printable t ≡ true
  key_prints Str e = refl
  key_prints Int e = refl
  key_prints I64 e = refl
  key_prints BoolSort e = refl
  key_prints _ e = absurd (cc)

  pub written_line : (ts : List Sort) (vs : List Value) → list_all is_printable ts ≡ true → HaveAll m.classes.classes (sorts_of ts) W vs → IsText utf8 (line_of vs)
  written_line [] [] e h q = ascii_text (line_feed ∷ []) refl
  written_line [] (v ∷ vs) e h q = absurd h
  written_line (t ∷ ts) [] e h q = absurd h
  written_line (t ∷ ts) (v ∷ []) e h q = text_behind (text_of v) (line_feed ∷ []) (written_text t v (and_left (is_printable t) (list_all is_printable ts) e) h.0 q) (ascii_text (line_feed ∷ []) refl)
  written_line (t ∷ ts) (v ∷ u ∷ vs) e h q =
      text_behind (text_of v) (32 ∷ line_of (u ∷ vs)) (written_text t v (and_left (is_printable t) (list_all is_printable ts) e) h.0 q)
      (text_behind (32 ∷ []) (line_of (u ∷ vs)) (ascii_text (32 ∷ []) refl) (written_line ts (u ∷ vs) (and_right (is_printable t) (list_all is_printable ts) e) h.1 q))

  letters_have : (cs : List ℕ) → (utf8 ≡ true → list_all (λ c. is_utf8 (encode_utf8_all (c ∷ []))) cs ≡ true) → Each m.classes.classes Str W (map (λ c. StrVal (encode_utf8_all (c ∷ []))) cs)
  letters_have [] h = tt
  letters_have (c ∷ cs) h =
      ((encode_utf8_all (c ∷ []), refl, λ q. and_left _ (list_all (λ c. is_utf8 (encode_utf8_all (c ∷ []))) cs) (h q)), letters_have cs (λ q. and_right (is_utf8 (encode_utf8_all (c ∷ []))) _ (h q)))

  alike : (t : Sort) (x y : Value) → IsPlain t → Has m.classes.classes t W x → Has m.classes.classes t W y → are_alike x y ≡ true
  alike Int x y p h k = ap (λ z. are_alike z y) h.1 ∙ ap (are_alike (IntVal h.0)) k.1
  alike I64 x y p h k = ap (λ z. are_alike z y) h.1 ∙ ap (are_alike (IntVal h.0)) k.1
  alike BoolSort x y p h k = ap (λ z. are_alike z y) h.1 ∙ ap (are_alike (BoolVal h.0)) k.1
  alike Str x y p h k = ap (λ z. are_alike z y) h.1 ∙ ap (are_alike (StrVal h.0)) k.1
  alike _ x y p h k = absurd p

module _ {utf8 : Bool} (m : TypedModule) (vars : List Variable) (B : List ℕ) {W : World utf8} {s : State} (g : Good m vars W s) where
  -- gives a value of the type
  abbrev pub Makes : Sort → Does Value → Type 0
  Makes t d = Fine m vars Value B W s (λ V u v. Has m.classes.classes t V v) d d

  faults : (t : Sort) (past : List ℕ) → is_utf8 past ≡ true → (fault : Arith) → Makes t (raise_fault past fault)
  faults t past p Overflow = fine_new m vars g _ _ (λ q. p)
  faults t past p ZeroDivisor = fine_new m vars g _ (codes "integer division or modulo by zero") (λ q. ascii_text (codes "integer division or modulo by zero") refl)
  faults t past p NegativeShift = fine_new m vars g _ (codes "negative shift count") (λ q. ascii_text (codes "negative shift count") refl)
  faults t past p OutOfRange = fine_new m vars g _ (codes "shift count out of range") (λ q. ascii_text (codes "shift count out of range") refl)

  number_int : (r : Result ℤ Arith) → IsInt r → Makes Int (number_of past_range r)
  number_int (Ok n) h = fine_give m vars g (IntVal n) (n, refl, h)
  number_int (Err fault) h = faults Int past_range (ascii_text past_range refl) fault

  number_native : (r : Result ℤ Arith) → IsNative r → Makes I64 (number_of no_i64 r)
  number_native (Ok n) h = fine_give m vars g (IntVal n) (n, refl, h)
  number_native (Err fault) h = faults I64 no_i64 (ascii_text no_i64 refl) fault

  ints : (op : BinOp) (a b : ℤ) → is_bar op ≡ false → lies_within 127 a ≡ true → lies_within 127 b ≡ true → Makes Int (of_int op a b)
  ints Add a b o e f = number_int _ (checked_int (a +ℤ b))
  ints Sub a b o e f = number_int _ (checked_int (a -ℤ b))
  ints Mul a b o e f = number_int _ (checked_int (a *ℤ b))
  ints FloorDiv a b o e f = number_int _ (quotient_int a b)
  ints Mod a b o e f = number_int _ (rest_int a b f)
  ints Shl a b o e f = number_int _ (left_int a b)
  ints Shr a b o e f = number_int _ (right_int a b e)
  ints Bar a b o e f = absurd (cc)

  natives : (op : BinOp) (a b : ℤ) → is_bar op ≡ false → lies_within 63 a ≡ true → lies_within 63 b ≡ true → Makes I64 (of_i64 op a b)
  natives Add a b o e f = fine_give m vars g _ (_, refl, wrap_within _)
  natives Sub a b o e f = fine_give m vars g _ (_, refl, wrap_within _)
  natives Mul a b o e f = fine_give m vars g _ (_, refl, wrap_within _)
  natives FloorDiv a b o e f = number_native _ (quotient_native a b)
  natives Mod a b o e f = number_native _ (rest_native a b f)
  natives Shl a b o e f = number_native _ (left_native a b)
  natives Shr a b o e f = number_native _ (right_native a b e)
  natives Bar a b o e f = absurd (cc)

  numbers : (t : Sort) (op : BinOp) (x y : Value) → IsWhole t → is_bar op ≡ false → Has m.classes.classes t W x → Has m.classes.classes t W y → Makes t (with_number x (λ a. with_number y (λ b. of_numbers t op a b)))
  numbers Int op x y w o h k =
      subst (λ z. Makes Int (with_number z (λ a. with_number y (λ b. of_numbers Int op a b)))) (sym h.1)
      (subst (λ z. Makes Int (with_number z (λ b. of_numbers Int op h.0 b))) (sym k.1) (ints op h.0 k.0 o h.2 k.2))
  numbers I64 op x y w o h k =
      subst (λ z. Makes I64 (with_number z (λ a. with_number y (λ b. of_numbers I64 op a b)))) (sym h.1)
      (subst (λ z. Makes I64 (with_number z (λ b. of_numbers I64 op h.0 b))) (sym k.1) (natives op h.0 k.0 o h.2 k.2))
  numbers _ op x y w o h k = absurd w

  negations : (t : Sort) (x : Value) → IsWhole t → Has m.classes.classes t W x → Makes t (with_number x (negated_as t))
  negations Int x w h = subst (λ z. Makes Int (with_number z (negated_as Int))) (sym h.1) (number_int _ (checked_int (neg_ℤ h.0)))
  negations I64 x w h = subst (λ z. Makes I64 (with_number z (negated_as I64))) (sym h.1) (fine_give m vars g _ (_, refl, wrap_within _))
  negations _ x w h = absurd w

  pub fine_joined : (x y : Value) → Has m.classes.classes Str W x → Has m.classes.classes Str W y → Makes Str (joined x y)
  fine_joined x y h k =
      subst (λ z. Makes Str (joined z y)) (sym h.1) (subst (λ z. Makes Str (joined (StrVal h.0) z)) (sym k.1) (fine_give m vars g _ (_, refl, λ q. text_behind h.0 k.0 (h.2 q) (k.2 q))))

  -- ---- objects

  -- a part of the state that is seen
  pub fine_seen : {X A : Type 0} {P : World utf8 → State → A → Type 0} (part : State → X) (d e : X → Does A) (x : X) → part s ≡ x → Fine m vars A B W s P (d x) (e x) → Fine m vars A B W s P (look part d) (look part e)
  fine_seen {P = P} part d e x q p = record {
    same = ap (λ z. d z s) q ∙ p.same ∙ sym (ap (λ z. e z s) q);
    post = subst (λ o. Post m vars B W s P o) (sym (ap (λ z. e z s) q)) p.post;
  }

  pub fine_list : {A : Type 0} {P : World utf8 → State → A → Type 0} (t : Sort) (l : Value) (d e : ℕ → List Value → Does A) → Has m.classes.classes (ListOf t) W l
      → ((k : ℕ) (vs : List Value) → l ≡ ObjVal k → slice_get W.types k ≡ Some (ListOf t) → slice_get s.store k ≡ Some (ListObj vs) → Each m.classes.classes t W vs → Fine m vars A B W s P (d k vs) (e k vs)) → Fine m vars A B W s P (with_list l d) (with_list l e)
  fine_list {A = A} {P = P} t l d e h r = subst (λ z. Fine m vars A B W s P (with_list z d) (with_list z e)) (sym h.1) (there (stored_at m.classes.classes W W.types s.store h.0 (ListOf t) g.store h.2))
    where
      one : (o : Object) → slice_get s.store h.0 ≡ Some o → Is m.classes.classes (ListOf t) W o → Fine m vars A B W s P (with_list (ObjVal h.0) d) (with_list (ObjVal h.0) e)
      one (ListObj vs) q i = fine_seen (λ z. slice_get z.store h.0) (as_list d h.0) (as_list e h.0) (Some (ListObj vs)) q (r h.0 vs h.1 h.2 q i)
      one (DictObj ps) q i = absurd i
      one (InstObj c vs) q i = absurd i

      there : (o : Object) × (slice_get s.store h.0 ≡ Some o) × Is m.classes.classes (ListOf t) W o → Fine m vars A B W s P (with_list (ObjVal h.0) d) (with_list (ObjVal h.0) e)
      there p = one p.0 p.1 p.2

  pub fine_dict : {A : Type 0} {P : World utf8 → State → A → Type 0} (a t : Sort) (l : Value) (d e : ℕ → List (Value × Value) → Does A) → Has m.classes.classes (DictOf a t) W l
      → ((k : ℕ) (ps : List (Value × Value)) → l ≡ ObjVal k → slice_get W.types k ≡ Some (DictOf a t) → slice_get s.store k ≡ Some (DictObj ps) → EachPair m.classes.classes a t W ps → Fine m vars A B W s P (d k ps) (e k ps)) → Fine m vars A B W s P (with_dict l d) (with_dict l e)
  fine_dict {A = A} {P = P} a t l d e h r = subst (λ z. Fine m vars A B W s P (with_dict z d) (with_dict z e)) (sym h.1) (there (stored_at m.classes.classes W W.types s.store h.0 (DictOf a t) g.store h.2))
    where
      one : (o : Object) → slice_get s.store h.0 ≡ Some o → Is m.classes.classes (DictOf a t) W o → Fine m vars A B W s P (with_dict (ObjVal h.0) d) (with_dict (ObjVal h.0) e)
      one (DictObj ps) q i = fine_seen (λ z. slice_get z.store h.0) (as_dict d h.0) (as_dict e h.0) (Some (DictObj ps)) q (r h.0 ps h.1 h.2 q i)
      one (ListObj ps) q i = absurd i
      one (InstObj c vs) q i = absurd i

      there : (o : Object) × (slice_get s.store h.0 ≡ Some o) × Is m.classes.classes (DictOf a t) W o → Fine m vars A B W s P (with_dict (ObjVal h.0) d) (with_dict (ObjVal h.0) e)
      there p = one p.0 p.1 p.2

  pub fine_instance : {A : Type 0} {P : World utf8 → State → A → Type 0} (c : ℕ) (o : Value) (d e : ℕ → ℕ → List (Option Value) → Does A) → Has m.classes.classes (Instance c) W o
      → ((k b : ℕ) (vs : List (Option Value)) → slice_get W.types k ≡ Some (Instance b) → o ≡ ObjVal k → is_class_under m.classes.classes b c ≡ true → HoldAll m.classes.classes (attributes m.classes.classes b) W vs → Fine m vars A B W s P (d k b vs) (e k b vs)) → Fine m vars A B W s P (with_instance o d) (with_instance o e)
  fine_instance {A = A} {P = P} c o d e h r = subst (λ z. Fine m vars A B W s P (with_instance z d) (with_instance z e)) (sym h.2) (there (stored_at m.classes.classes W W.types s.store h.0 (Instance h.1) g.store h.3))
    where
      one : (x : Object) → slice_get s.store h.0 ≡ Some x → Is m.classes.classes (Instance h.1) W x → Fine m vars A B W s P (with_instance (ObjVal h.0) d) (with_instance (ObjVal h.0) e)
      one (DictObj ps) q i = absurd i
      one (ListObj ps) q i = absurd i
      one (InstObj b vs) q i =
          fine_seen (λ z. slice_get z.store h.0) (as_instance d h.0) (as_instance e h.0) (Some (InstObj b vs)) q
          (subst (λ x. Fine m vars A B W s P (d h.0 x vs) (e h.0 x vs)) (sym i.0) (r h.0 h.1 vs h.3 h.2 h.4 i.1))

      there : (x : Object) × (slice_get s.store h.0 ≡ Some x) × Is m.classes.classes (Instance h.1) W x → Fine m vars A B W s P (with_instance (ObjVal h.0) d) (with_instance (ObjVal h.0) e)
      there p = one p.0 p.1 p.2

  -- ---- items

  pub fine_place : {A : Type 0} {P : World utf8 → State → A → Type 0} (text : List ℕ) (n : ℕ) (i : Value) (d e : ℕ → Does A) → Has m.classes.classes Int W i → is_utf8 text ≡ true → ((j : ℕ) → j < n → Fine m vars A B W s P (d j) (e j)) → Fine m vars A B W s P (at_place text n i d) (at_place text n i e)
  fine_place {A = A} {P = P} text n i d e h t r = subst (λ z. Fine m vars A B W s P (at_place text n z d) (at_place text n z e)) (sym h.1) (go (place_of n h.0) refl)
    where
      go : (o : Option ℕ) → place_of n h.0 ≡ o → Fine m vars A B W s P (with_place (raise_new IndexError text) d o) (with_place (raise_new IndexError text) e o)
      go None q = fine_new m vars g _ _ (λ p. t)
      go (Some j) q = r j (within n h.0 j q)

  pub fine_got : (t : Sort) (vs : List Value) (j : ℕ) → j < length vs → Each m.classes.classes t W vs → Makes t (sure (slice_get vs j))
  fine_got t vs j l h = let r = got_within vs j l in fine_sure m vars g (slice_get vs j) r.0 r.1 (each_got m.classes.classes W t vs j r.0 h r.1)

  list_items : (t : Sort) (l i : Value) → Has m.classes.classes (ListOf t) W l → Has m.classes.classes Int W i → Makes t (list_item l i)
  list_items t l i h k = fine_list t l _ _ h (λ j vs l a b c. fine_place (codes "list index out of range") (length vs) i _ _ k (ascii_text (codes "list index out of range") refl) (λ n less. fine_got t vs n less c))

  letters_at : (x i : Value) → Has m.classes.classes Str W x → Has m.classes.classes Int W i → Makes Str (letter x i)
  letters_at x i h k = subst (λ z. Makes Str (letter z i)) (sym h.1) (fine_place (codes "string index out of range") (length (letters h.0)) i _ _ k (ascii_text (codes "string index out of range") refl) (λ n less. fine_got Str (letters h.0) n less (letters_have m W (chars h.0) (λ q. letter_texts h.0 (h.2 q)))))

  fine_key : {A : Type 0} {P : World utf8 → State → A → Type 0} (a : Sort) (key : Value) (ps : List (Value × Value)) (d e : ℕ → Does A) → is_key_type a ≡ true → Has m.classes.classes a W key
      → ((j : ℕ) (p : Value × Value) → slice_get ps j ≡ Some p → Fine m vars A B W s P (d j) (e j)) → Fine m vars A B W s P (at_key key ps d) (at_key key ps e)
  fine_key {A = A} {P = P} a key ps d e i h r = go (key_place key ps) refl
    where
      go : (o : Option ℕ) → key_place key ps ≡ o → Fine m vars A B W s P (with_place (needs (has_text key) (raise_new KeyError (text_of key))) d o) (with_place (needs (has_text key) (raise_new KeyError (text_of key))) e o)
      go None q = fine_needs m vars (has_text key) (key_text m W a key i h) (fine_new m vars g _ _ (written_text m W a key (key_prints m W a i) h))
      go (Some j) q = let there = pair_there key ps j q in r j there.0 there.1

  dict_items : (a t : Sort) (d key : Value) → is_key_type a ≡ true → Has m.classes.classes (DictOf a t) W d → Has m.classes.classes a W key → Makes t (dict_item d key)
  dict_items a t d key i h k =
      fine_dict a t d _ _ h (λ n ps l x y z. fine_key a key ps _ _ i k (λ j p q.
      fine_sure m vars g (slice_get (map (λ p. p.1) ps) j) p.1 (slice_get-map (λ p. p.1) ps j ∙ ap (option_map (λ p. p.1)) q) (pair_got m W a t ps j p z q).1))

  if_type : (b : Bool) (u t : Sort) → is_type (if b then Some u else None) t ≡ true → (b ≡ true) × (is_same_type u t ≡ true)
  if_type true u t e = (refl, e)
  if_type false u t e = absurd (cc)

  pub fine_item : (a c t : Sort) (x i : Value) → KeysOf a → is_type (indexed a c) t ≡ true → Has m.classes.classes a W x → Has m.classes.classes c W i → Makes t (item_at a x i)
  fine_item (ListOf u) c t x i keys e h k =
      let r = if_type (is_same_type c Int) u t e in
      subst (λ z. Makes z (list_item x i)) (one_type u t r.1) (list_items u x i h (subst (λ z. Has m.classes.classes z W i) (one_type c Int r.0) k))
  fine_item Str c t x i keys e h k =
      let r = if_type (is_same_type c Int) Str t e in
      subst (λ z. Makes z (letter x i)) (one_type Str t r.1) (letters_at x i h (subst (λ z. Has m.classes.classes z W i) (one_type c Int r.0) k))
  fine_item (DictOf a u) c t x i keys e h k =
      let r = if_type (is_same_type c a) u t e in
      subst (λ z. Makes z (dict_item x i)) (one_type u t r.1) (dict_items a u x i keys h (subst (λ z. Has m.classes.classes z W i) (one_type c a r.0) k))
  fine_item _ c t x i keys e h k = absurd (cc)

  abbrev pub Acts : Does (Unit {0}) → Type 0
  Acts d = Fine m vars (Unit {0}) B W s (λ V u a. Unit {0}) d d

  if_there : (b : Bool) (u t : Sort) → (if b then Some u else None) ≡ Some t → (b ≡ true) × (u ≡ t)
  if_there true u t e = (refl, same_Some u t e)
  if_there false u t e = absurd (cc)

  -- the item of a list or dict is set to a value of its type
  pub fine_set : (a c t : Sort) (x i v : Value) → is_same_type a Str ≡ false → indexed a c ≡ Some t → Has m.classes.classes a W x → Has m.classes.classes c W i → Has m.classes.classes (item_sort a) W v → Acts (set_item a x i v)
  fine_set (ListOf u) c t x i v n e h k w =
      fine_list u x _ _ h (λ j vs l p q r. fine_place (codes "list assignment index out of range") (length vs) i _ _ (subst (λ z. Has m.classes.classes z W i) (one_type c Int (if_there (is_same_type c Int) u t e).0) k) (ascii_text (codes "list assignment index out of range") refl) (λ o less.
      fine_put m vars g j (ListOf u) (ListObj (slice_set vs o v)) p (each_set m.classes.classes W u vs o v r w)))
  fine_set Str c t x i v n e h k w = absurd (cc)
  fine_set (DictOf a u) c t x i v n e h k w =
      fine_dict a u x _ _ h (λ j ps l p q r. fine_put m vars g j (DictOf a u) (DictObj (with_entry i v ps)) p (entry_kept m W a u i v ps r (subst (λ z. Has m.classes.classes z W i) (one_type c a (if_there (is_same_type c a) u t e).0) k) w))
  fine_set _ c t x i v n e h k w = absurd (cc)

  pub fine_delete : (a t : Sort) (d key : Value) → is_key_type a ≡ true → Has m.classes.classes (DictOf a t) W d → Has m.classes.classes a W key → Acts (delete_entry d key)
  fine_delete a t d key i h k =
      fine_dict a t d _ _ h (λ n ps l x y z. fine_key a key ps _ _ i k (λ j p q. fine_put m vars g n (DictOf a t) (DictObj (without_entry key ps)) x (without_kept m W a t key ps z)))

  pub fine_part : (ts : Sorts) (i : ℕ) (t : Sort) (x : Value) → slice_get (listed_sorts ts) i ≡ Some t → Has m.classes.classes (TupleOf ts) W x → Makes t (tuple_part i x)
  fine_part ts i t x e h =
      let r = one_of_all m.classes.classes W ts (listed h.0) i t h.2 e in
      subst (λ z. Makes t (tuple_part i z)) (sym h.1) (fine_sure m vars g (slice_get (listed h.0) i) r.0 r.1 r.2)

  counted_by : (n : ℕ) (b : Bool) → nat_lt n (2 ^ 127) ≡ b → lies_within 127 (pos (if b then n else 2 ^ 127 - 1)) ≡ true
  counted_by n true e = e
  counted_by n false e = refl

  length_made : (n : ℕ) → Makes Int (give (length_value n))
  length_made n = fine_give m vars g (length_value n) (pos (counted n), refl, counted_by n (nat_lt n (2 ^ 127)) refl)

  pub fine_length : (t : Sort) (x : Value) → is_sized t ≡ true → Has m.classes.classes t W x → Makes Int (length_of x)
  fine_length Str x e h = subst (λ z. Makes Int (length_of z)) (sym h.1) (length_made (length (chars h.0)))
  fine_length (TupleOf ts) x e h = subst (λ z. Makes Int (length_of z)) (sym h.1) (length_made (length (listed h.0)))
  fine_length (ListOf t) x e h = subst (λ z. Makes Int (length_of z)) (sym h.1) (go (stored_at m.classes.classes W W.types s.store h.0 (ListOf t) g.store h.2))
    where
      one : (o : Object) → slice_get s.store h.0 ≡ Some o → Is m.classes.classes (ListOf t) W o → Makes Int (length_of (ObjVal h.0))
      one (ListObj vs) q i = fine_seen (λ z. slice_get z.store h.0) length_of_object length_of_object (Some (ListObj vs)) q (length_made (length vs))
      one (DictObj ps) q i = absurd i
      one (InstObj c vs) q i = absurd i

      go : (o : Object) × (slice_get s.store h.0 ≡ Some o) × Is m.classes.classes (ListOf t) W o → Makes Int (length_of (ObjVal h.0))
      go p = one p.0 p.1 p.2
  fine_length (DictOf a t) x e h = subst (λ z. Makes Int (length_of z)) (sym h.1) (go (stored_at m.classes.classes W W.types s.store h.0 (DictOf a t) g.store h.2))
    where
      one : (o : Object) → slice_get s.store h.0 ≡ Some o → Is m.classes.classes (DictOf a t) W o → Makes Int (length_of (ObjVal h.0))
      one (DictObj ps) q i = fine_seen (λ z. slice_get z.store h.0) length_of_object length_of_object (Some (DictObj ps)) q (length_made (length ps))
      one (ListObj vs) q i = absurd i
      one (InstObj c vs) q i = absurd i

      go : (o : Object) × (slice_get s.store h.0 ≡ Some o) × Is m.classes.classes (DictOf a t) W o → Makes Int (length_of (ObjVal h.0))
      go p = one p.0 p.1 p.2
  fine_length _ x e h = absurd (cc)

  -- ---- truth

  same_object : (k j : ℕ) → ObjVal k ≡ ObjVal j → k ≡ j
  same_object k j e = cc

  object_at : (k j : ℕ) (t : Sort) → ObjVal k ≡ ObjVal j → slice_get W.types j ≡ Some t → (o : Object) × (slice_get s.store k ≡ Some o)
  object_at k j t e h =
      let r = stored_at m.classes.classes W W.types s.store j t g.store h in
      (r.0, ap (slice_get s.store) (same_object k j e) ∙ r.1)

  object_there : (t : Sort) (k : ℕ) → Has m.classes.classes t W (ObjVal k) → (o : Object) × (slice_get s.store k ≡ Some o)
  object_there Int k h = absurd (cc h.1)
  object_there I64 k h = absurd (cc h.1)
  object_there BoolSort k h = absurd (cc h.1)
  object_there Str k h = absurd (cc h.1)
  object_there Nothing k h = absurd (cc h)
  object_there (ListOf t) k h = object_at k h.0 _ h.1 h.2
  object_there (DictOf a t) k h = object_at k h.0 _ h.1 h.2
  object_there (TupleOf ts) k h = absurd (cc h.1)
  object_there (Optional t) k (inl h) = absurd (cc h)
  object_there (Optional t) k (inr h) = object_there t k h
  object_there (Instance c) k h = object_at k h.0 _ h.2 h.3
  object_there (Exc c) k h = absurd (cc h.1)

  object_truth : (o : Object) → (b : Bool) × ((x : State) → truth_of_object (Some o) x ≡ Gives b x)
  object_truth (ListObj vs) = (is_filled vs, λ x. refl)
  object_truth (DictObj ps) = (is_filled ps, λ x. refl)
  object_truth (InstObj c vs) = (true, λ x. refl)

  truth_known : (t : Sort) (v : Value) → Has m.classes.classes t W v → (b : Bool) × (truth_of v s ≡ Gives b s)
  truth_known t (IntVal (pos zero)) h = (false, refl)
  truth_known t (IntVal (pos (suc n))) h = (true, refl)
  truth_known t (IntVal (negsuc n)) h = (true, refl)
  truth_known t (BoolVal b) h = (b, refl)
  truth_known t NoneVal h = (false, refl)
  truth_known t (StrVal x) h = (is_filled x, refl)
  truth_known t (TupleVal vs) h = (true, refl)
  truth_known t (ExcVal e) h = (true, refl)
  truth_known t (ObjVal k) h =
      let o = object_there t k h in
      let r = object_truth o.0 in
      (r.0, ap (λ z. truth_of_object z s) o.1 ∙ r.1 s)

  -- every value of a type has a truth, and the state is as before
  pub fine_truth : (t : Sort) (v : Value) → Has m.classes.classes t W v → Fine m vars Bool B W s (λ V u b. (u ≡ s) × (truth_of v s ≡ Gives b s)) (truth_of v) (truth_of v)
  fine_truth t v h =
      let r = truth_known t v h in
      fine_post m vars (subst (λ o. Post m vars B W s (λ V u b. (u ≡ s) × (truth_of v s ≡ Gives b s)) o) (sym r.1) (fine_give m vars {P = λ V u b. (u ≡ s) × (truth_of v s ≡ Gives b s)} g r.0 (refl, r.1)).post)

  -- ---- input

  later : (next : Items) → (utf8 ≡ true → has_utf8_lines next ≡ true) → Good m vars W (record s { items = next })
  later next h = record {
    store = g.store;
    globals = g.globals;
    locals = g.locals;
    handled = g.handled;
    texts = λ q. let t : TextsAre m vars s.output s.items = g.texts q in record { output = t.output; items = h q; names = t.names; locals = t.locals };
  }

  pub fine_line : (items : Items) → (utf8 ≡ true → has_utf8_lines items ≡ true) → Makes Str (next_line items)
  fine_line item.Eof h = fine_new m vars g _ (codes "EOF when reading a line") (λ q. ascii_text (codes "EOF when reading a line") refl)
  fine_line item.Broken h = fine_post m vars (stopped m vars g)
  fine_line item.Over h = fine_post m vars (stopped m vars g)
  fine_line (item.Line text next) h =
      fine_post m vars (W, record { grows = record { each = λ k t h. h }; good = later next (λ q. and_right (is_utf8 text) (has_utf8_lines next) (h q)); keeps = record { locals = λ i h. refl; handled = refl } }, (text, refl, λ q. and_left (is_utf8 text) (has_utf8_lines next) (h q)))
  fine_line (item.Bad next) h =
      fine_post m vars (W, record { grows = record { each = λ k t h. h }; good = later next h; keeps = record { locals = λ i h. refl; handled = refl } }, (thrown ValueError (codes "input is not UTF-8"), refl, λ q. ascii_text (codes "input is not UTF-8") refl))

-- ---- with coercions

module _ {utf8 : Bool} (m : TypedModule) (tree : IsClassTree m.classes.classes) (vars : List Variable) (B : List ℕ) {W : World utf8} {s : State} (g : Good m vars W s) where
  pub fine_arithmetic : (op : BinOp) (a c t : Sort) (x y : Value) → IsWhole t → fits m.classes.classes a t ≡ true → fits m.classes.classes c t ≡ true → is_bar op ≡ false → Has m.classes.classes a W x → Has m.classes.classes c W y → Makes m vars B g t (arithmetic t op x y)
  fine_arithmetic op a c t x y w p q o h k =
      fine_bind m vars (fine_coerced m tree vars B g a t x p h) (λ V u st v r.
      fine_bind m vars (fine_coerced m tree vars B st.good c t y q (has_still m.classes.classes W V st.grows c y k)) (λ X z st' v' r'.
      numbers m vars B st'.good t op v v' w o (has_still m.classes.classes V X st'.grows t v r.0) r'.0))

  pub fine_negated : (a t : Sort) (x : Value) → IsWhole t → fits m.classes.classes a t ≡ true → Has m.classes.classes a W x → Makes m vars B g t (negated t x)
  fine_negated a t x w p h = fine_bind m vars (fine_coerced m tree vars B g a t x p h) (λ V u st v r. negations m vars B st.good t v w r.0)

  abbrev pub Decides : Does Bool → Type 0
  Decides d = Fine m vars Bool B W s (λ V u b. Unit {0}) d d

  pub fine_compared : (test : Value → Value → Bool) (a c : Sort) (x y : Value) → IsPlain (compared_as a c) → fits m.classes.classes a (compared_as a c) ≡ true → fits m.classes.classes c (compared_as a c) ≡ true → Has m.classes.classes a W x → Has m.classes.classes c W y → Decides (compared test a c x y)
  fine_compared test a c x y w p q h k =
      fine_bind m vars (fine_coerced m tree vars B g a (compared_as a c) x p h) (λ V u st v r.
      fine_bind m vars (fine_coerced m tree vars B st.good c (compared_as a c) y q (has_still m.classes.classes W V st.grows c y k)) (λ X z st' v' r'.
      fine_needs m vars (are_alike v v') (alike m X (compared_as a c) v v' w (has_still m.classes.classes V X st'.grows (compared_as a c) v r.0) r'.0) (fine_give m vars st'.good _ tt)))

  pub fine_found : (c a t : Sort) (x d : Value) → fits m.classes.classes c a ≡ true → Has m.classes.classes c W x → Has m.classes.classes (DictOf a t) W d → Decides (found (DictOf a t) x d)
  fine_found c a t x d p h k =
      fine_bind m vars (fine_coerced m tree vars B g c a x p h) (λ V u st v r.
      fine_dict m vars B st.good a t d _ _ (has_still m.classes.classes W V st.grows (DictOf a t) d k) (λ j ps l e f i. fine_give m vars st.good _ tt))
