-- Members of which all definitions agree with the first: of a class in front of others, where its own ones do, and agree with the
-- first ones of the others.
use Rattle.std.proofs.Common.{◌≡◌, ℕ, Bool, true, false, not, cond, ◌||◌, ◌&&◌, List, [], ◌∷◌, ◌++◌, find, Option, Some, None, is_some, option_map, refl, sym, ap, ap₂, subst, ◌∙◌, append_assoc}
use Rattle.std.specs.List.{list_any}
use Rattle.std.specs.Map.{lookup}
use Rattle.std.specs.Option.{option_or}
use Rattle.std.specs.Str.{bytes_eq}
use Rattle.std.proofs.lemmas.List.Folds.{list_any-append, list_all-append}
use Rattle.std.proofs.lemmas.Option.{same_Some}
use Rattle.py_typed.specs.Sorts.{Sorts, no_sorts, sort_then}
use Rattle.py_typed.specs.Classes.{ClassTable, Signature}
use Rattle.py_typed.specs.Fits.{is_same_type, are_same_types}
use Rattle.py_typed.specs.Sorts.{sorts_of}
use Rattle.py_typed.specs.WellTypedModule.{same_row}
use Rattle.py_typed.proofs.FitLemmas.{and_left, and_right, one_type}
use Rattle.class_layout_members.specs.Clashes.{Definition, OfType, OfSignature, is_same_signature, is_init, agree, is_other, none_other, differs, clashes, clash_among, own_members, members_along, AllAgreeAlong}
use Rattle.class_layout_members.proofs.RowLemmas.{same, itself, not_false, or_none_left, or_none_right}

-- ---- what agrees with one definition agrees with what else does

pub one_row : (ss ts : Sorts) → are_same_types ss ts ≡ true → ss ≡ ts
one_row no_sorts no_sorts e = refl
one_row no_sorts (sort_then t ts) e = absurd (cc)
one_row (sort_then s ss) no_sorts e = absurd (cc)
one_row (sort_then s ss) (sort_then t ts) e =
    ap₂ sort_then (one_type s t (and_left (is_same_type s t) (are_same_types ss ts) e)) (one_row ss ts (and_right (is_same_type s t) (are_same_types ss ts) e))

agree_signatures : (s t u : Option Signature) → is_same_signature s t ≡ true → is_same_signature s u ≡ true → is_same_signature t u ≡ true
agree_signatures None None u e h = h
agree_signatures None (Some t) u e h = absurd (cc)
agree_signatures (Some s) None u e h = absurd (cc)
agree_signatures (Some s) (Some t) None e h = absurd (cc)
agree_signatures (Some s) (Some t) (Some u) e h =
    ap₂ (λ a b. a && b)
    (subst (λ z. are_same_types z (sorts_of u.params) ≡ true) (one_row (sorts_of s.params) (sorts_of t.params) (and_left (same_row s.params t.params) (is_same_type s.ret t.ret) e)) (and_left (same_row s.params u.params) (is_same_type s.ret u.ret) h))
    (subst (λ z. is_same_type z u.ret ≡ true) (one_type s.ret t.ret (and_right (same_row s.params t.params) (is_same_type s.ret t.ret) e)) (and_right (same_row s.params u.params) (is_same_type s.ret u.ret) h))

pub agree_both : (q : List ℕ) (d e f : Definition) → agree q d e ≡ true → agree q d f ≡ true → agree q e f ≡ true
agree_both q (OfType s) (OfType t) (OfType u) x y = subst (λ z. is_same_type z u ≡ true) (one_type s t x) y
agree_both q (OfType s) (OfType t) (OfSignature u) x y = absurd (cc)
agree_both q (OfType s) (OfSignature t) f x y = absurd (cc)
agree_both q (OfSignature s) (OfType t) f x y = absurd (cc)
agree_both q (OfSignature s) (OfSignature t) (OfType u) x y = absurd (cc)
agree_both q (OfSignature s) (OfSignature t) (OfSignature u) x y = by (is_init q) x y
  where
    by : (b : Bool) → (b || is_same_signature s t) ≡ true → (b || is_same_signature s u) ≡ true → (b || is_same_signature t u) ≡ true
    by true x y = refl
    by false x y = agree_signatures s t u x y

-- ---- rows of members

abbrev pub first_in : List (List ℕ × Definition) → List ℕ → Option Definition
first_in members q = lookup (bytes_eq q) members

pub first_of_both : (own rest : List (List ℕ × Definition)) (q : List ℕ) → first_in (own ++ rest) q ≡ option_or (first_in own q) (first_in rest q)
first_of_both [] rest q = refl
first_of_both (p ∷ own) rest q = by (bytes_eq q p.0) (first_of_both own rest q)
  where
    by : (b : Bool) → first_in (own ++ rest) q ≡ option_or (first_in own q) (first_in rest q) → cond b (Some p.1) (first_in (own ++ rest) q) ≡ option_or (cond b (Some p.1) (first_in own q)) (first_in rest q)
    by true r = refl
    by false r = r

none_other_alike : (f g : List ℕ → Option Definition) → ((q : List ℕ) → f q ≡ g q) → (row : List (List ℕ × Definition)) → none_other f row ≡ none_other g row
none_other_alike f g h [] = refl
none_other_alike f g h (p ∷ row) = ap₂ (λ o b. not (is_other p.0 o p.1) && b) (h p.0) (none_other_alike f g h row)

-- ---- no clash, where no definition is another one than the first

none_named : (all rest : List (List ℕ × Definition)) (q : List ℕ) → none_other (first_in all) rest ≡ true → list_any (λ p. bytes_eq q p.0 && differs all p) rest ≡ false
none_named all [] q h = refl
none_named all (p ∷ rest) q h =
    ap₂ (λ a b. a || b)
    (no_more (bytes_eq q p.0) (differs all p) (not_false (differs all p) (and_left (not (differs all p)) (none_other (first_in all) rest) h)))
    (none_named all rest q (and_right (not (differs all p)) (none_other (first_in all) rest) h))
  where
    no_more : (a b : Bool) → b ≡ false → (a && b) ≡ false
    no_more true b e = e
    no_more false b e = refl

none_found : {A : Type 0} (test : A → Bool) → ((a : A) → test a ≡ false) → (row : List A) → find test row ≡ None
none_found test h [] = refl
none_found test h (a ∷ row) = ap (λ b. cond b (Some a) (find test row)) (h a) ∙ none_found test h row

pub no_clash : (members : List (List ℕ × Definition)) → none_other (first_in members) members ≡ true → clash_among members ≡ None
no_clash members h = ap (option_map (λ (p : List ℕ × Definition). p.0)) (none_found (λ (p : List ℕ × Definition). clashes members p.0) (λ p. none_named members members p.0 h) members)

-- ---- and the other way round

under_none : {A B : Type 0} (f : A → B) (o : Option A) → option_map f o ≡ None → o ≡ None
under_none f None e = refl
under_none f (Some a) e = absurd (cc)

miss : {A : Type 0} (b : Bool) (a : A) (o : Option A) → cond b (Some a) o ≡ None → (b ≡ false) × (o ≡ None)
miss true a o e = absurd (cc)
miss false a o e = (refl, e)

behind : (pre : List (List ℕ × Definition)) (p : List ℕ × Definition) (rest : List (List ℕ × Definition)) → pre ++ p ∷ rest ≡ (pre ++ p ∷ []) ++ rest
behind pre p rest = sym (append_assoc pre (p ∷ []) rest)

none_other_from : (all pre rest : List (List ℕ × Definition)) → all ≡ pre ++ rest → find (λ (p : List ℕ × Definition). clashes all p.0) rest ≡ None → none_other (first_in all) rest ≡ true
none_other_from all pre [] e h = refl
none_other_from all pre (p ∷ rest) e h =
    let t : (clashes all p.0 ≡ false) × (find (λ (r : List ℕ × Definition). clashes all r.0) rest ≡ None) = miss (clashes all p.0) p (find (λ (r : List ℕ × Definition). clashes all r.0) rest) h in
    let named : (list_any (λ r. bytes_eq p.0 r.0 && differs all r) pre || ((bytes_eq p.0 p.0 && differs all p) || list_any (λ r. bytes_eq p.0 r.0 && differs all r) rest)) ≡ false =
    sym (list_any-append (λ r. bytes_eq p.0 r.0 && differs all r) pre (p ∷ rest)) ∙ ap (list_any (λ r. bytes_eq p.0 r.0 && differs all r)) (sym e) ∙ t.0 in
    let here : (bytes_eq p.0 p.0 && differs all p) ≡ false =
    or_none_left (bytes_eq p.0 p.0 && differs all p) (list_any (λ r. bytes_eq p.0 r.0 && differs all r) rest)
    (or_none_right (list_any (λ r. bytes_eq p.0 r.0 && differs all r) pre) ((bytes_eq p.0 p.0 && differs all p) || list_any (λ r. bytes_eq p.0 r.0 && differs all r) rest) named) in
    let no : differs all p ≡ false = sym (ap (λ b. b && differs all p) (itself p.0)) ∙ here in
    ap₂ (λ a b. not a && b) no (none_other_from all (pre ++ p ∷ []) rest (e ∙ behind pre p rest) t.1)

pub none_other_in : (members : List (List ℕ × Definition)) → clash_among members ≡ None → none_other (first_in members) members ≡ true
none_other_in members h = none_other_from members [] members refl (under_none (λ (p : List ℕ × Definition). p.0) (find (λ (p : List ℕ × Definition). clashes members p.0) members) h)

-- ---- a class in front of others

-- of its own names
own_part : (f g : List ℕ → Option Definition) (row : List (List ℕ × Definition)) → none_other f row ≡ true → none_other g row ≡ true → none_other (λ q. option_or (f q) (g q)) row ≡ true
own_part f g [] h k = refl
own_part f g (p ∷ row) h k =
    ap₂ (λ a b. a && b)
    (by (f p.0) (and_left (not (is_other p.0 (f p.0) p.1)) (none_other f row) h))
    (own_part f g row (and_right (not (is_other p.0 (f p.0) p.1)) (none_other f row) h) (and_right (not (is_other p.0 (g p.0) p.1)) (none_other g row) k))
  where
    by : (o : Option Definition) → not (is_other p.0 o p.1) ≡ true → not (is_other p.0 (option_or o (g p.0)) p.1) ≡ true
    by None e = and_left (not (is_other p.0 (g p.0) p.1)) (none_other g row) k
    by (Some d) e = e

-- what a class has first under a name is no other one than what is asked of its row
found_agrees : (g : List ℕ → Option Definition) (own : List (List ℕ × Definition)) (q : List ℕ) (d : Definition) → none_other g own ≡ true → first_in own q ≡ Some d → is_other q (g q) d ≡ false
found_agrees g [] q d h e = absurd (cc)
found_agrees g (p ∷ own) q d h e = by (bytes_eq q p.0) refl e (λ r. found_agrees g own q d (and_right (not (is_other p.0 (g p.0) p.1)) (none_other g own) h) r)
  where
    here : is_other p.0 (g p.0) p.1 ≡ false
    here = not_false (is_other p.0 (g p.0) p.1) (and_left (not (is_other p.0 (g p.0) p.1)) (none_other g own) h)

    by : (b : Bool) → bytes_eq q p.0 ≡ b → cond b (Some p.1) (first_in own q) ≡ Some d → (first_in own q ≡ Some d → is_other q (g q) d ≡ false) → is_other q (g q) d ≡ false
    by true s f rec = ap₂ (λ n x. is_other n (g n) x) (same q p.0 s) (sym (same_Some p.1 d f)) ∙ here
    by false s f rec = rec f

-- each member of a row has a first one of its name
first_there : (pre rest : List (List ℕ × Definition)) (p : List ℕ × Definition) → is_some (first_in (pre ++ p ∷ rest) p.0) ≡ true
first_there pre rest p = ap is_some (first_of_both pre (p ∷ rest) p.0 ∙ ap (λ b. option_or (first_in pre p.0) (cond b (Some p.1) (first_in rest p.0))) (itself p.0)) ∙ by (first_in pre p.0)
  where
    by : (o : Option Definition) → is_some (option_or o (Some p.1)) ≡ true
    by None = refl
    by (Some d) = refl

other_than : (q : List ℕ) (f g : Option Definition) (d : Definition) → is_some g ≡ true → ((e : Definition) → f ≡ Some e → is_other q g e ≡ false) → is_other q g d ≡ false → not (is_other q (option_or f g) d) ≡ true
other_than q f None d s h k = absurd (cc)
other_than q None (Some e) d s h k = ap not k
other_than q (Some c) (Some e) d s h k = ap (λ b. not (not b)) (agree_both q e c d (yes (agree q e c) (h c refl)) (yes (agree q e d) k))
  where
    yes : (b : Bool) → not b ≡ false → b ≡ true
    yes true e = refl
    yes false e = absurd (cc)

rest_part : (own all pre rest : List (List ℕ × Definition)) → all ≡ pre ++ rest → none_other (first_in all) own ≡ true → none_other (first_in all) rest ≡ true → none_other (λ q. option_or (first_in own q) (first_in all q)) rest ≡ true
rest_part own all pre [] e h k = refl
rest_part own all pre (p ∷ rest) e h k =
    ap₂ (λ a b. a && b)
    (other_than p.0 (first_in own p.0) (first_in all p.0) p.1 (ap (λ l. is_some (first_in l p.0)) e ∙ first_there pre rest p) (λ d s. found_agrees (first_in all) own p.0 d h s)
    (not_false (is_other p.0 (first_in all p.0) p.1) (and_left (not (is_other p.0 (first_in all p.0) p.1)) (none_other (first_in all) rest) k)))
    (rest_part own all (pre ++ p ∷ []) rest (e ∙ behind pre p rest) h (and_right (not (is_other p.0 (first_in all p.0) p.1)) (none_other (first_in all) rest) k))

both_agree : (own rest : List (List ℕ × Definition)) → none_other (first_in own) own ≡ true → none_other (first_in rest) own ≡ true → none_other (first_in rest) rest ≡ true → none_other (first_in (own ++ rest)) (own ++ rest) ≡ true
both_agree own rest h k r =
    none_other_alike (first_in (own ++ rest)) (λ q. option_or (first_in own q) (first_in rest q)) (first_of_both own rest) (own ++ rest)
    ∙ list_all-append (λ (p : List ℕ × Definition). not (is_other p.0 (option_or (first_in own p.0) (first_in rest p.0)) p.1)) own rest
    ∙ ap₂ (λ a b. a && b) (own_part (first_in own) (first_in rest) own h k) (rest_part own rest [] rest refl k r)

pub in_front : (t : ClassTable) (c : ℕ) (members : List (List ℕ × Definition)) (own above firsts : List ℕ → Option Definition) → members ≡ own_members t c → ((q : List ℕ) → own q ≡ lookup (bytes_eq q) members)
    → none_other own members ≡ true → none_other above members ≡ true → ((q : List ℕ) → firsts q ≡ option_or (own q) (above q)) → (order : List ℕ) → AllAgreeAlong t order above → AllAgreeAlong t (c ∷ order) firsts
in_front t c members own above firsts is first h k put order a =
    let rest = members_along t order in
    record {
      each = λ q. put q ∙ ap₂ (λ x y. option_or x y) (first q) (a.each q) ∙ sym (first_of_both members rest q) ∙ ap (λ l. first_in (l ++ rest) q) is;
      none = ap (λ l. clash_among (l ++ rest)) (sym is)
          ∙ no_clash (members ++ rest)
          (both_agree members rest (sym (none_other_alike own (first_in members) first members) ∙ h) (sym (none_other_alike above (first_in rest) a.each members) ∙ k) (none_other_in rest a.none));
    }

-- ---- what another map has

pub mapped_or : {A B : Type 0} (f : A → B) (o p : Option A) → option_map f (option_or o p) ≡ option_or (option_map f o) (option_map f p)
mapped_or f None p = refl
mapped_or f (Some a) p = refl
