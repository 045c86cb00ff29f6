-- The first variable of a name.
use Rattle.std.proofs.Common.{◌≡◌, ◌≢◌, ◌∙◌, ℕ, ◌+◌, ◌<◌, suc, zero, Bool, true, false, cond, List, [], ◌∷◌, ◌++◌, length, Option, Some, None, IsTrue, refl, sym, ap, arith}
use Rattle.std.specs.Prelude.{◌||◌, ◌&&◌, not, map, slice_get, codes}
use Rattle.std.specs.List.{list_any, position_from}
use Rattle.std.specs.Option.{option_map}
use Rattle.std.specs.Str.{bytes_eq}
use Rattle.std.proofs.lemmas.List.{append_cancel_left}
use Rattle.std.proofs.lemmas.Option.{slice_get_within}
use Rattle.std.proofs.lemmas.Slice.Eq.{bytes_eq-Decides}
use Rattle.std.specs.Cmp.Derive.{both_true}
use Rattle.std.proofs.lemmas.Bool.{false≢true, ltb-true, lt-ltb}
use Rattle.c_core.specs.declared.code.Kind.{Kind}
use Rattle.c_core.specs.declared.code.Kind.TheVariants.{Tagged, Int64, Char, Object}
use Rattle.c_core.specs.Text.{var_text, var_name}
use Rattle.c_core.specs.WellFormed.{Declared, is_declared, kind_at, names_differ, same_kind}
use Rattle.c_text.specs.Variables.{Finds, FindsVariable, FindsVariableOf, has_name, has_name_and_kind}
use Rattle.c_text.proofs.Bytes.{and_true}

-- no two variables have one name
abbrev pub HaveOwnNames : List Declared → Type 0
HaveOwnNames vars = IsTrue (names_differ (map (λ v. v.0) vars))

-- a variable that passes a test stands at a place
pub record StandsAt (p : Declared → Bool) (vars : List Declared) (x : ℕ) : Type 0 where
  pub var : Declared
  pub at : slice_get vars x ≡ Some var
  pub passes : p var ≡ true

within_at : (vars : List Declared) (x : ℕ) → x < length vars → StandsAt (λ v. true) vars x
within_at [] x h = absurd (omega arith)
within_at (v ∷ vars) zero h = record { var = v; at = refl; passes = refl }
within_at (v ∷ vars) (suc x) h =
    let rest = within_at vars x (omega arith) in
    record { var = rest.var; at = rest.at; passes = refl }

pub declared_at : (vars : List Declared) (x : ℕ) → IsTrue (is_declared vars x) → StandsAt (λ v. true) vars x
declared_at vars x h = within_at vars x (ltb-true x (length vars) h)

pub at_declared : (vars : List Declared) (x : ℕ) (v : Declared) → slice_get vars x ≡ Some v → IsTrue (is_declared vars x)
at_declared vars x v e = lt-ltb x (length vars) (slice_get_within vars x v e)

place_stands : (p : Declared → Bool) (vars : List Declared) (i y : ℕ) → position_from p i vars ≡ Some y → (k : ℕ) × (y ≡ i + k) × StandsAt p vars k
place_stands p [] i y e = absurd (cc)
place_stands p (v ∷ vars) i y e = split (place_stands p vars (i + 1) y) (p v) refl
  where
    split : (position_from p (i + 1) vars ≡ Some y → (k : ℕ) × (y ≡ i + 1 + k) × StandsAt p vars k) → (b : Bool) → p v ≡ b → (k : ℕ) × (y ≡ i + k) × StandsAt p (v ∷ vars) k
    split later true t =
        let q : Some i ≡ Some y = sym (ap (λ b. cond b (Some i) (position_from p (i + 1) vars)) t) ∙ e in
        let same : i ≡ y = cc in
        (0, omega arith, record { var = v; at = refl; passes = t })
    split later false t =
        let rest = later (sym (ap (λ b. cond b (Some i) (position_from p (i + 1) vars)) t) ∙ e) in
        (suc rest.0, omega (arith, rest.1), record { var = rest.2.var; at = rest.2.at; passes = rest.2.passes })

-- the first variable that passes a test; it is the one meant where the names differ
pub record First (p : Declared → Bool) (vars : List Declared) (i x : ℕ) : Type 0 where
  pub place : ℕ
  pub found : position_from p i vars ≡ Some (i + place)
  pub stands : StandsAt p vars place
  pub only : HaveOwnNames vars → place ≡ x

any_named : (name : List ℕ) (vars : List Declared) (x : ℕ) (v : Declared) → slice_get vars x ≡ Some v → name ≡ v.0 → list_any (bytes_eq name) (map (λ v. v.0) vars) ≡ true
any_named name [] x v g e = absurd (cc)
any_named name (w ∷ vars) zero v g e =
    let same : w ≡ v = cc in
    ap (λ b. b || list_any (bytes_eq name) (map (λ v. v.0) vars)) ((bytes_eq-Decides name w.0).1 (e ∙ sym (ap (λ v. v.0) same)))
any_named name (w ∷ vars) (suc x) v g e = or_true (bytes_eq name w.0) (any_named name vars x v g e)
  where
    or_true : (b : Bool) {c : Bool} → c ≡ true → (b || c) ≡ true
    or_true true h = refl
    or_true false h = h

named_again : (name : List ℕ) (vars : List Declared) (x : ℕ) (v : Declared) → slice_get vars x ≡ Some v → name ≡ v.0 → (not (list_any (bytes_eq name) (map (λ v. v.0) vars)) && names_differ (map (λ v. v.0) vars)) ≡ true → ⊥
named_again name vars x v g e own =
    false≢true (sym (ap not (any_named name vars x v g e)) ∙ (and_true _ _ own).0)

pub first_place : (p : Declared → Bool) (name : List ℕ) → ((w : Declared) → p w ≡ true → w.0 ≡ name) → (vars : List Declared) (i x : ℕ) (v : Declared) → slice_get vars x ≡ Some v → p v ≡ true → First p vars i x
first_place p name named [] i x v g t = absurd (cc)
first_place p name named (w ∷ vars) i zero v g t =
    let same : w ≡ v = cc in
    let passes : p w ≡ true = ap p same ∙ t in
    record {
      place = 0;
      found = ap (λ b. cond b (Some i) (position_from p (i + 1) vars)) passes ∙ ap Some (omega arith);
      stands = record { var = w; at = refl; passes = passes };
      only = λ own. refl;
    }
first_place p name named (w ∷ vars) i (suc x) v g t = split (first_place p name named vars (i + 1) x v g t) (p w) refl
  where
    split : First p vars (i + 1) x → (b : Bool) → p w ≡ b → First p (w ∷ vars) i (suc x)
    split rest true e = record {
      place = 0;
      found = ap (λ b. cond b (Some i) (position_from p (i + 1) vars)) e ∙ ap Some (omega arith);
      stands = record { var = w; at = refl; passes = e };
      only = λ own. absurd (named_again w.0 vars x v g (named w e ∙ sym (named v t)) own);
    }
    split rest false e =
        record {
          place = suc rest.place;
          found = ap (λ b. cond b (Some i) (position_from p (i + 1) vars)) e ∙ rest.found ∙ ap Some (omega arith);
          stands = record { var = rest.stands.var; at = rest.stands.at; passes = rest.stands.passes };
          only = λ own. ap suc (rest.only (and_true _ _ own).1);
        }

pub text_at : (vars : List Declared) (x : ℕ) (v : Declared) → slice_get vars x ≡ Some v → var_text vars x ≡ codes "cpy_" ++ v.0
text_at vars x v g = ap var_name g

-- the variable at the first place of a name is written as the one that has the name
found_alike : (p : Declared → Bool) (name : List ℕ) → ((w : Declared) → p w ≡ true → w.0 ≡ name) → (vars : List Declared) (found : Option ℕ) (x : ℕ) (v : Declared) → position_from p 0 vars ≡ found → slice_get vars x ≡ Some v → p v ≡ true → Finds (var_text vars) found x
found_alike p name named vars None x v f g t =
    let first = first_place p name named vars 0 x v g t in
    let q : None ≡ Some (0 + first.place) = sym f ∙ first.found in
    cc
found_alike p name named vars (Some y) x v f g t =
    let first = first_place p name named vars 0 x v g t in
    let q : Some y ≡ Some (0 + first.place) = sym f ∙ first.found in
    let r : y ≡ 0 + first.place = cc in
    let at : first.place ≡ y = omega arith in
    text_at vars x v g ∙ ap (λ t. codes "cpy_" ++ t) (named v t ∙ sym (named first.stands.var first.stands.passes)) ∙ sym (text_at vars first.place first.stands.var first.stands.at) ∙ ap (var_text vars) at

pub named : (name : List ℕ) (w : Declared) → has_name name w ≡ true → w.0 ≡ name
named name w t = (bytes_eq-Decides w.0 name).0 t

named_and_kind : (name : List ℕ) (kind : Kind) (w : Declared) → has_name_and_kind name kind w ≡ true → w.0 ≡ name
named_and_kind name kind w t = (bytes_eq-Decides w.0 name).0 (and_true _ _ t).1

name_at : (vars : List Declared) (x : ℕ) (v : Declared) (name word : List ℕ) → slice_get vars x ≡ Some v → var_text vars x ≡ word → word ≡ codes "cpy_" ++ name → v.0 ≡ name
name_at vars x v name word g e w = append_cancel_left (codes "cpy_") v.0 name (sym (text_at vars x v g) ∙ e ∙ w)

-- the variable at the place of a name, or that no variable has it
pub variable_found : (vars : List Declared) (name word : List ℕ) (found : Option ℕ) → found ≡ position_from (has_name name) 0 vars → word ≡ codes "cpy_" ++ name → FindsVariable vars word found
variable_found vars name word None f w = λ x h e.
    let d = declared_at vars x h in
    found_alike (has_name name) name (named name) vars None x d.var (sym f) d.at ((bytes_eq-Decides d.var.0 name).1 (name_at vars x d.var name word d.at e w))
variable_found vars name word (Some y) f w =
    let s = place_stands (has_name name) vars 0 y (sym f) in
    let at : s.0 ≡ y = omega (arith, s.1) in
    (ap (is_declared vars) (sym at) ∙ at_declared vars s.0 s.2.var s.2.at, ap (var_text vars) (sym at) ∙ text_at vars s.0 s.2.var s.2.at ∙ ap (λ n. codes "cpy_" ++ n) (named name s.2.var s.2.passes) ∙ sym w)

pub kind_is : (o : Option Declared) (kind : Kind) → option_map (λ v. v.1) o ≡ Some kind → (v : Declared) × (o ≡ Some v) × (v.1 ≡ kind)
kind_is None kind e = absurd (cc)
kind_is (Some v) kind e = (v, refl, cc)

pub kind_declared : (vars : List Declared) (x : ℕ) (kind : Kind) → kind_at vars x ≡ Some kind → IsTrue (is_declared vars x)
kind_declared vars x kind e = let d = kind_is (slice_get vars x) kind e in at_declared vars x d.0 d.1

same_kind_refl : (k : Kind) → same_kind k k ≡ true
same_kind_refl Tagged = refl
same_kind_refl Int64 = refl
same_kind_refl Char = refl
same_kind_refl Object = refl

same_kind_is : (k l : Kind) → same_kind k l ≡ true → k ≡ l
same_kind_is Tagged Tagged h = refl
same_kind_is Int64 Int64 h = refl
same_kind_is Char Char h = refl
same_kind_is Object Object h = refl
same_kind_is Tagged Int64 h = absurd (cc)
same_kind_is Tagged Char h = absurd (cc)
same_kind_is Tagged Object h = absurd (cc)
same_kind_is Int64 Tagged h = absurd (cc)
same_kind_is Int64 Char h = absurd (cc)
same_kind_is Int64 Object h = absurd (cc)
same_kind_is Char Tagged h = absurd (cc)
same_kind_is Char Int64 h = absurd (cc)
same_kind_is Char Object h = absurd (cc)
same_kind_is Object Tagged h = absurd (cc)
same_kind_is Object Int64 h = absurd (cc)
same_kind_is Object Char h = absurd (cc)

pub variable_of_found : (vars : List Declared) (name word : List ℕ) (kind : Kind) (found : Option ℕ) → found ≡ position_from (has_name_and_kind name kind) 0 vars → word ≡ codes "cpy_" ++ name → FindsVariableOf vars word kind found
variable_of_found vars name word kind None f w = λ x h e.
    let d = kind_is (slice_get vars x) kind h in
    found_alike (has_name_and_kind name kind) name (named_and_kind name kind) vars None x d.0 (sym f) d.1
    (both_true (ap (λ k. same_kind k kind) d.2 ∙ same_kind_refl kind) ((bytes_eq-Decides d.0.0 name).1 (name_at vars x d.0 name word d.1 e w)))
variable_of_found vars name word kind (Some y) f w =
    let s = place_stands (has_name_and_kind name kind) vars 0 y (sym f) in
    let at : s.0 ≡ y = omega (arith, s.1) in
    (ap (kind_at vars) (sym at) ∙ ap (option_map (λ v. v.1)) s.2.at ∙ ap Some (same_kind_is s.2.var.1 kind (and_true _ _ s.2.passes).0), ap (var_text vars) (sym at) ∙ text_at vars s.0 s.2.var s.2.at ∙ ap (λ n. codes "cpy_" ++ n) (named_and_kind name kind s.2.var s.2.passes) ∙ sym w)

-- no variable is written without its beginning
pub no_variable : (vars : List Declared) (word : List ℕ) → ((rest : List ℕ) → word ≢ codes "cpy_" ++ rest) → FindsVariable vars word None
no_variable vars word none = λ x h e. let d = declared_at vars x h in none d.var.0 (sym e ∙ text_at vars x d.var d.at)

pub no_variable_of : (vars : List Declared) (word : List ℕ) (kind : Kind) → ((rest : List ℕ) → word ≢ codes "cpy_" ++ rest) → FindsVariableOf vars word kind None
no_variable_of vars word kind none = λ x h e. let d = kind_is (slice_get vars x) kind h in none d.0.0 (sym e ∙ text_at vars x d.0 d.1)
