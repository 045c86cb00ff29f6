-- Maps from names to the places of the first variables that have them.
use Rattle.std.proofs.Common.{◌≡◌, ◌∙◌, ℕ, ◌+◌, ◌≤◌, suc, Bool, true, false, cond, List, [], ◌∷◌, ◌++◌, length, Option, Some, None, refl, sym, ap, arith}
use Rattle.std.specs.Prelude.{◌||◌, ◌&&◌, is_some, Vec}
use Rattle.std.specs.declared.alloc.Global.{Global}
use Rattle.std.specs.declared.cmp.Ordering.{Ordering}
use Rattle.std.specs.declared.cmp.Ordering.TheVariants.{Less, Equal, Greater}
use Rattle.std.specs.BTreeMap.{insert_entry}
use Rattle.std.specs.Cmp.Lexicographic.{slice_cmp}
use Rattle.std.specs.List.{position_from}
use Rattle.std.specs.Map.{lookup}
use Rattle.std.specs.Option.{option_or}
use Rattle.std.specs.Ordering.{is_eq, match_ordering, nat_cmp}
use Rattle.std.specs.Str.{bytes_eq}
use Rattle.std.proofs.lemmas.Bool.{false≢true}
use Rattle.std.proofs.lemmas.Map.Lookups.{exact_bytes}
use Rattle.std.proofs.lemmas.Map.Text.{is_eq-slice_cmp}
use Rattle.std.proofs.lemmas.Slice.Eq.{bytes_eq-Decides}
use Rattle.c_core.specs.declared.code.Kind.{Kind}
use Rattle.c_core.specs.declared.code.Kind.TheVariants.{Tagged, Int64, Char, Object}
use Rattle.c_core.specs.WellFormed.{Declared, same_kind}
use Rattle.c_text.specs.Variables.{has_name, has_name_and_kind}
use Rattle.c_text.specs.Places.{Places, earlier, place_of}

-- ---- one name more in a map

abbrev Key : Type 0
Key = Vec ℕ Global

abbrev key_cmp : Key → Key → Ordering
key_cmp x y = slice_cmp nat_cmp x.items y.items

abbrev is_key : List ℕ → Key → Bool
is_key name key = is_eq (slice_cmp nat_cmp name key.items)

is_key_of : (name : List ℕ) (key : Key) → is_key name key ≡ true → name ≡ key.items
is_key_of name key h = (bytes_eq-Decides name key.items).0 (sym (is_eq-slice_cmp name key.items) ∙ h)

put_first : {A : Type 0} (a b x : A) (s t : Bool) → s ≡ t → cond s a x ≡ cond t a (cond s b x)
put_first a b x true true e = refl
put_first a b x false false e = refl
put_first a b x true false e = absurd (cc)
put_first a b x false true e = absurd (cc)

put_behind : {A : Type 0} (a b x : A) (s t : Bool) → (s ≡ true → t ≡ true → ⊥) → cond s a (cond t b x) ≡ cond t b (cond s a x)
put_behind a b x true true h = absurd (h refl refl)
put_behind a b x true false h = refl
put_behind a b x false true h = refl
put_behind a b x false false h = refl

inserted : (other : List ℕ) (es : List (Key × ℕ)) (key : Key) (place : ℕ) → lookup (is_key other) (insert_entry key_cmp es key place) ≡ cond (is_key other key) (Some place) (lookup (is_key other) es)
inserted other [] key place = refl
inserted other (e ∷ es) key place = split (inserted other es key place) (key_cmp key e.0) refl
  where
    opened : (o : Ordering) → key_cmp key e.0 ≡ o → lookup (is_key other) (insert_entry key_cmp (e ∷ es) key place) ≡ lookup (is_key other) (match_ordering o ((key, place) ∷ e ∷ es) ((e.0, place) ∷ es) (e ∷ insert_entry key_cmp es key place))
    opened o h = ap (λ o. lookup (is_key other) (match_ordering o ((key, place) ∷ e ∷ es) ((e.0, place) ∷ es) (e ∷ insert_entry key_cmp es key place))) h

    split : lookup (is_key other) (insert_entry key_cmp es key place) ≡ cond (is_key other key) (Some place) (lookup (is_key other) es) → (o : Ordering) → key_cmp key e.0 ≡ o → lookup (is_key other) (insert_entry key_cmp (e ∷ es) key place) ≡ cond (is_key other key) (Some place) (lookup (is_key other) (e ∷ es))
    split later Less h = opened Less h
    split later Equal h =
        opened Equal h
        ∙ put_first (Some place) (Some e.1) (lookup (is_key other) es) (is_key other e.0) (is_key other key) (ap (λ name. is_eq (slice_cmp nat_cmp other name)) (sym (exact_bytes key.items e.0.items h)))
    split later Greater h =
        opened Greater h ∙ ap (λ l. cond (is_key other e.0) (Some e.1) l) later
        ∙ put_behind (Some e.1) (Some place) (lookup (is_key other) es) (is_key other e.0) (is_key other key) (λ p q.
        let same : key.items ≡ e.0.items = sym (is_key_of other key q) ∙ is_key_of other e.0 p in
        false≢true (ap is_eq (sym h) ∙ is_eq-slice_cmp key.items e.0.items ∙ (bytes_eq-Decides key.items e.0.items).1 same))

or_none : {A : Type 0} (o : Option A) → option_or o None ≡ o
or_none None = refl
or_none (Some x) = refl

is_none : {A : Type 0} (o : Option A) → false ≡ is_some o → o ≡ None
is_none None h = refl
is_none (Some x) h = absurd (false≢true h)

flipped : (a b : List ℕ) (t : Bool) → bytes_eq a b ≡ t → bytes_eq b a ≡ t
flipped a b true h = (bytes_eq-Decides b a).1 (sym ((bytes_eq-Decides a b).0 h))
flipped a b false h = off (bytes_eq b a) refl
  where
    off : (u : Bool) → bytes_eq b a ≡ u → u ≡ false
    off false k = refl
    off true k = absurd (false≢true (sym h ∙ (bytes_eq-Decides a b).1 (sym ((bytes_eq-Decides b a).0 k))))

-- a name that had no place has one
pub noted : (name : List ℕ) (old new : Places) (key : Key) (place : ℕ) (other : List ℕ) → key.items ≡ name → false ≡ is_some (place_of old name) → new.entries ≡ insert_entry key_cmp old.entries key place → place_of new other ≡ option_or (place_of old other) (cond (bytes_eq name other) (Some place) None)
noted name old new key place other k none e = ap (lookup (is_key other)) e ∙ inserted other old.entries key place ∙ split (bytes_eq name other) refl
  where
    split : (t : Bool) → bytes_eq name other ≡ t → cond (is_key other key) (Some place) (place_of old other) ≡ option_or (place_of old other) (cond (bytes_eq name other) (Some place) None)
    split true h =
        let same : other ≡ name = sym ((bytes_eq-Decides name other).0 h) in
        ap (λ t. cond t (Some place) (place_of old other)) (is_eq-slice_cmp other key.items ∙ ap (bytes_eq other) k ∙ flipped name other true h)
        ∙ sym (ap (λ o. option_or o (cond (bytes_eq name other) (Some place) None)) (ap (place_of old) same ∙ is_none (place_of old name) none) ∙ ap (λ t. cond t (Some place) None) h)
    split false h =
        ap (λ t. cond t (Some place) (place_of old other)) (is_eq-slice_cmp other key.items ∙ ap (bytes_eq other) k ∙ flipped name other false h)
        ∙ sym (ap (λ t. option_or (place_of old other) (cond t (Some place) None)) h ∙ or_none (place_of old other))

-- ---- one variable more

pub position_push : (p : Declared → Bool) (i : ℕ) (vars : List Declared) (v : Declared) → position_from p i (vars ++ v ∷ []) ≡ option_or (position_from p i vars) (cond (p v) (Some (i + length vars)) None)
position_push p i [] v = ap (λ n. cond (p v) (Some n) None) (omega arith)
position_push p i (w ∷ vars) v = split (position_push p (i + 1) vars v) (p w)
  where
    split : position_from p (i + 1) (vars ++ v ∷ []) ≡ option_or (position_from p (i + 1) vars) (cond (p v) (Some (i + 1 + length vars)) None) → (t : Bool) → cond t (Some i) (position_from p (i + 1) (vars ++ v ∷ [])) ≡ option_or (cond t (Some i) (position_from p (i + 1) vars)) (cond (p v) (Some (i + suc (length vars))) None)
    split later true = refl
    split later false = later ∙ ap (λ n. option_or (position_from p (i + 1) vars) (cond (p v) (Some n) None)) (omega arith)

-- ---- the first of two kinds

from_place : (p : Declared → Bool) (i y : ℕ) (vars : List Declared) → position_from p i vars ≡ Some y → i ≤ y
from_place p i y [] e = absurd (cc)
from_place p i y (v ∷ vars) e = split (from_place p (i + 1) y vars) (p v) e
  where
    split : (position_from p (i + 1) vars ≡ Some y → i + 1 ≤ y) → (t : Bool) → cond t (Some i) (position_from p (i + 1) vars) ≡ Some y → i ≤ y
    split later true q = let same : i ≡ y = cc in omega arith
    split later false q = let h = later q in omega (arith, h)

pub either : (p q r : Declared → Bool) → ((v : Declared) → r v ≡ (p v || q v)) → (vars : List Declared) (i : ℕ) → position_from r i vars ≡ earlier (position_from p i vars) (position_from q i vars)
either p q r same [] i = refl
either p q r same (v ∷ vars) i =
    ap (λ t. cond t (Some i) (position_from r (i + 1) vars)) (same v) ∙ split (either p q r same vars (i + 1)) (p v) (q v)
  where
    lower_left : (o : Option ℕ) → position_from q (i + 1) vars ≡ o → Some i ≡ earlier (Some i) o
    lower_left None e = refl
    lower_left (Some y) e = let h = from_place q (i + 1) y vars e in ap Some (omega (arith, h))

    lower_right : (o : Option ℕ) → position_from p (i + 1) vars ≡ o → Some i ≡ earlier o (Some i)
    lower_right None e = refl
    lower_right (Some y) e = let h = from_place p (i + 1) y vars e in ap Some (omega (arith, h))

    split : position_from r (i + 1) vars ≡ earlier (position_from p (i + 1) vars) (position_from q (i + 1) vars) → (a b : Bool) → cond (a || b) (Some i) (position_from r (i + 1) vars) ≡ earlier (cond a (Some i) (position_from p (i + 1) vars)) (cond b (Some i) (position_from q (i + 1) vars))
    split later true true = ap Some (omega arith)
    split later true false = lower_left (position_from q (i + 1) vars) refl
    split later false true = lower_right (position_from p (i + 1) vars) refl
    split later false false = later

any_kind : (k : Kind) (b : Bool) → b ≡ (((same_kind k Tagged && b) || (same_kind k Object && b)) || ((same_kind k Int64 && b) || (same_kind k Char && b)))
any_kind Tagged true = refl
any_kind Tagged false = refl
any_kind Int64 true = refl
any_kind Int64 false = refl
any_kind Char true = refl
any_kind Char false = refl
any_kind Object true = refl
any_kind Object false = refl

-- the first variable of a name is the first of the four that are the first of a kind
pub of_any_kind : (name : List ℕ) (vars : List Declared) → position_from (has_name name) 0 vars
    ≡ earlier (earlier (position_from (has_name_and_kind name Tagged) 0 vars) (position_from (has_name_and_kind name Object) 0 vars)) (earlier (position_from (has_name_and_kind name Int64) 0 vars) (position_from (has_name_and_kind name Char) 0 vars))
of_any_kind name vars =
    let one = λ (k l : Kind). λ (v : Declared). has_name_and_kind name k v || has_name_and_kind name l v in
    either (one Tagged Object) (one Int64 Char) (has_name name) (λ v. any_kind v.1 (bytes_eq v.0 name)) vars 0
    ∙ ap (λ o. earlier o (position_from (one Int64 Char) 0 vars)) (either (has_name_and_kind name Tagged) (has_name_and_kind name Object) (one Tagged Object) (λ v. refl) vars 0)
    ∙ ap (λ o. earlier (earlier (position_from (has_name_and_kind name Tagged) 0 vars) (position_from (has_name_and_kind name Object) 0 vars)) o) (either (has_name_and_kind name Int64) (has_name_and_kind name Char) (one Int64 Char) (λ v. refl) vars 0)
