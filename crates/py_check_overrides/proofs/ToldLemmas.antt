-- Definitions with which all others of their names agree.
use Rattle.std.proofs.Common.{◌≡◌, ℕ, Bool, true, false, not, cond, ◌||◌, ◌&&◌, List, [], ◌∷◌, ◌++◌, take, get_or, length, ◌<◌, ◌+◌, Option, Some, None, is_some, refl, sym, ap, ap₂, subst, ◌∙◌, add-one}
use Rattle.std.specs.List.{list_any, list_all}
use Rattle.std.specs.Map.{lookup}
use Rattle.std.specs.Option.{option_or}
use Rattle.std.specs.Str.{bytes_eq}
use Rattle.std.proofs.Math.Seq.{take-suc}
use Rattle.std.proofs.lemmas.List.Folds.{list_all-append}
use Rattle.std.proofs.lemmas.List.Elements.{filter_map-append}
use Rattle.py_typed.specs.Sorts.{TupleOf, sorts_of}
use Rattle.std.proofs.lemmas.Option.{same_Some}
use Rattle.py_typed.specs.Classes.{Signature}
use Rattle.py_typed.proofs.FitLemmas.{and_left, and_right, type_is_itself}
use Rattle.class_layout_members.specs.Clashes.{Definition, OfType, OfSignature, is_same_signature, is_init, agree, is_other, clashes}
use Rattle.class_layout_members.proofs.RowLemmas.{same}
use Rattle.class_layout_members.proofs.AgreementLemmas.{agree_both}
use Rattle.py_check_overrides.specs.Overrides.{Own, defined_as, defined}
use Rattle.py_check_overrides.specs.Lines.{agrees, agrees_named, Tells}

-- ---- a definition agrees with itself

same_signature : (s : Option Signature) → is_same_signature s s ≡ true
same_signature None = refl
same_signature (Some s) = ap₂ (λ a b. a && b) (type_is_itself (TupleOf (sorts_of s.params))) (type_is_itself s.ret)

pub agrees_with_itself : (q : List ℕ) (d : Definition) → agree q d d ≡ true
agrees_with_itself q (OfType t) = type_is_itself t
agrees_with_itself q (OfSignature s) = by (is_init q) (same_signature s)
  where
    by : (b : Bool) → is_same_signature s s ≡ true → (b || is_same_signature s s) ≡ true
    by true e = refl
    by false e = e

-- ---- what is known more

named_any : (q : List ℕ) (o : Option Definition) (p : List ℕ × Definition) → agrees_named q None p ≡ true → agrees_named q o p ≡ true
named_any q o p h = by (bytes_eq q p.0) (agrees q o p.1) h
  where
    by : (b c : Bool) → (not b || false) ≡ true → (not b || c) ≡ true
    by true c e = absurd (cc)
    by false c e = refl

none_any : (q : List ℕ) (o : Option Definition) (row : List (List ℕ × Definition)) → list_all (agrees_named q None) row ≡ true → list_all (agrees_named q o) row ≡ true
none_any q o [] h = refl
none_any q o (p ∷ row) h =
    ap₂ (λ a b. a && b)
    (named_any q o p (and_left (agrees_named q None p) (list_all (agrees_named q None) row) h))
    (none_any q o row (and_right (agrees_named q None p) (list_all (agrees_named q None) row) h))

pub told_more : (q : List ℕ) (o more : Option Definition) (row : List (List ℕ × Definition)) → list_all (agrees_named q o) row ≡ true → list_all (agrees_named q (option_or o more)) row ≡ true
told_more q None more row h = none_any q more row h
told_more q (Some d) more row h = h

-- ---- the definitions of a row, taken one by one

pub defined_next : (xs : List Own) (i : ℕ) (p : Own) → i < length xs → p ≡ get_or xs i p → defined (take (i + 1) xs) ≡ defined (take i xs) ++ defined (p ∷ [])
defined_next xs i p l is =
    ap (λ n. defined (take n xs)) (add-one i)
    ∙ ap defined (take-suc xs i p l ∙ ap (λ x. take i xs ++ x ∷ []) (sym is))
    ∙ filter_map-append defined_as (take i xs) (p ∷ [])

-- the rows that are taken so far, and one member more
pub taken_next : (q : List ℕ) (before after more : Option Definition) (row one whole : List (List ℕ × Definition)) → whole ≡ row ++ one → after ≡ option_or before more
    → list_all (agrees_named q before) row ≡ true → list_all (agrees_named q after) one ≡ true → list_all (agrees_named q after) whole ≡ true
taken_next q before after more row one whole is put h k =
    ap (list_all (agrees_named q after)) is
    ∙ list_all-append (agrees_named q after) row one
    ∙ ap₂ (λ a b. a && b) (ap (λ o. list_all (agrees_named q o) row) put ∙ told_more q before more row h) k

-- and behind them those of the classes above
pub with_rest : (q : List ℕ) (o new : Option Definition) (own rest : List (List ℕ × Definition)) → list_all (agrees_named q (option_or o new)) own ≡ true → list_all (agrees_named q o) rest ≡ true
    → list_all (agrees_named q (option_or o new)) (own ++ rest) ≡ true
with_rest q o new own rest h k = list_all-append (agrees_named q (option_or o new)) own rest ∙ ap₂ (λ a b. a && b) h (told_more q o new rest k)

-- ---- first definitions

abbrev pub first_in : List (List ℕ × Definition) → List ℕ → Option Definition
first_in row q = lookup (bytes_eq q) row

other_named : (q : List ℕ) (g : List ℕ → Option Definition) (p : List ℕ × Definition) → bytes_eq q p.0 ≡ true → is_other p.0 (g p.0) p.1 ≡ is_other q (g q) p.1
other_named q g p e = ap (λ n. is_other n (g n) p.1) (sym (same q p.0 e))

agrees_some : (q : List ℕ) (o : Option Definition) (d : Definition) → (o ≡ None → ⊥) → is_other q o d ≡ false → agrees q o d ≡ true
agrees_some q None d there e = absurd (there refl)
agrees_some q (Some f) d there e = by (agree q f d) e
  where
    by : (b : Bool) → not b ≡ false → b ≡ true
    by true e = refl
    by false e = absurd (cc)

firsts_agree : (q : List ℕ) (g : List ℕ → Option Definition) (row : List (List ℕ × Definition)) → (g q ≡ None → first_in row q ≡ None)
    → list_any (λ p. bytes_eq q p.0 && is_other p.0 (g p.0) p.1) row ≡ false → list_all (agrees_named q (g q)) row ≡ true
firsts_agree q g [] there h = refl
firsts_agree q g (p ∷ row) there h = by (bytes_eq q p.0) refl (λ t r. firsts_agree q g row t r)
  where
    at : (b : Bool) → (b && is_other p.0 (g p.0) p.1 || list_any (λ p. bytes_eq q p.0 && is_other p.0 (g p.0) p.1) row) ≡ false → (b && is_other p.0 (g p.0) p.1 ≡ false) × (list_any (λ p. bytes_eq q p.0 && is_other p.0 (g p.0) p.1) row ≡ false)
    at b e = both (b && is_other p.0 (g p.0) p.1) (list_any (λ p. bytes_eq q p.0 && is_other p.0 (g p.0) p.1) row) e
      where
        both : (x y : Bool) → (x || y) ≡ false → (x ≡ false) × (y ≡ false)
        both true y e = absurd (cc)
        both false y e = (refl, e)

    by : (b : Bool) → bytes_eq q p.0 ≡ b
        → ((g q ≡ None → first_in row q ≡ None) → list_any (λ p. bytes_eq q p.0 && is_other p.0 (g p.0) p.1) row ≡ false → list_all (agrees_named q (g q)) row ≡ true)
        → list_all (agrees_named q (g q)) (p ∷ row) ≡ true
    by true e rec =
        let parts : _ = at true (sym (ap (λ b. b && is_other p.0 (g p.0) p.1 || list_any (λ p. bytes_eq q p.0 && is_other p.0 (g p.0) p.1) row) e) ∙ h) in
        let some : g q ≡ None → ⊥ = λ none. (let first : cond (bytes_eq q p.0) (Some p.1) (first_in row q) ≡ None = there none in let no : Some p.1 ≡ None = sym (ap (λ b. cond b (Some p.1) (first_in row q)) e) ∙ first in cc) in
        ap₂ (λ a b. a && b)
        (ap (λ b. not b || agrees q (g q) p.1) e ∙ agrees_some q (g q) p.1 some (sym (other_named q g p e) ∙ parts.0))
        (rec (λ none. absurd (some none)) parts.1)
    by false e rec =
        let parts : _ = at false (sym (ap (λ b. b && is_other p.0 (g p.0) p.1 || list_any (λ p. bytes_eq q p.0 && is_other p.0 (g p.0) p.1) row) e) ∙ h) in
        ap₂ (λ a b. a && b)
        (ap (λ b. not b || agrees q (g q) p.1) e)
        (rec (λ none. sym (ap (λ b. cond b (Some p.1) (first_in row q)) e) ∙ there none) parts.1)

-- where none clashes, all agree with the first ones
pub firsts_tell : (row : List (List ℕ × Definition)) → ((q : List ℕ) → clashes row q ≡ false) → Tells row (first_in row)
firsts_tell row h q = firsts_agree q (first_in row) row (λ none. none) (h q)

-- ---- and the other way round: where all agree with what is known, none clashes

switch : (q : List ℕ) (d f : Definition) (row : List (List ℕ × Definition)) → ((e : Definition) → agree q d e ≡ true → agree q f e ≡ true) → list_all (agrees_named q (Some d)) row ≡ true → list_all (agrees_named q (Some f)) row ≡ true
switch q d f [] go h = refl
switch q d f (p ∷ row) go h =
    ap₂ (λ a b. a && b)
    (by (bytes_eq q p.0) (and_left (agrees_named q (Some d) p) (list_all (agrees_named q (Some d)) row) h))
    (switch q d f row go (and_right (agrees_named q (Some d) p) (list_all (agrees_named q (Some d)) row) h))
  where
    by : (b : Bool) → (not b || agree q d p.1) ≡ true → (not b || agree q f p.1) ≡ true
    by true e = go p.1 e
    by false e = refl

first_agrees : (q : List ℕ) (o : Option Definition) (row : List (List ℕ × Definition)) (f : Definition) → first_in row q ≡ Some f → list_all (agrees_named q o) row ≡ true → agrees q o f ≡ true
first_agrees q o [] f e h = absurd (cc)
first_agrees q o (p ∷ row) f e h =
    by (bytes_eq q p.0) e (and_left (agrees_named q o p) (list_all (agrees_named q o) row) h) (λ i. first_agrees q o row f i (and_right (agrees_named q o p) (list_all (agrees_named q o) row) h))
  where
    by : (b : Bool) → cond b (Some p.1) (first_in row q) ≡ Some f → (not b || agrees q o p.1) ≡ true → (first_in row q ≡ Some f → agrees q o f ≡ true) → agrees q o f ≡ true
    by true i k rec = subst (λ x. agrees q o x ≡ true) (same_Some p.1 f i) k
    by false i k rec = rec i

one_free : (q : List ℕ) (g : List ℕ → Option Definition) (o : Option Definition) (p : List ℕ × Definition) → g q ≡ o → (is_some o ≡ true → agrees_named q o p ≡ true) → (bytes_eq q p.0 && is_other p.0 (g p.0) p.1) ≡ false
one_free q g o p is h = by (bytes_eq q p.0) refl
  where
    here : (o : Option Definition) → (is_some o ≡ true → agrees q o p.1 ≡ true) → is_other q o p.1 ≡ false
    here None k = refl
    here (Some f) k = ap not (k refl)

    by : (b : Bool) → bytes_eq q p.0 ≡ b → (b && is_other p.0 (g p.0) p.1) ≡ false
    by true e = other_named q g p e ∙ ap (λ z. is_other q z p.1) is ∙ here o (λ s. sym (ap (λ b. not b || agrees q o p.1) e) ∙ h s)
    by false e = refl

free : (q : List ℕ) (g : List ℕ → Option Definition) (o : Option Definition) (row : List (List ℕ × Definition)) → g q ≡ o → (is_some o ≡ true → list_all (agrees_named q o) row ≡ true) → list_any (λ p. bytes_eq q p.0 && is_other p.0 (g p.0) p.1) row ≡ false
free q g o [] is h = refl
free q g o (p ∷ row) is h =
    ap₂ (λ a b. a || b)
    (one_free q g o p is (λ s. and_left (agrees_named q o p) (list_all (agrees_named q o) row) (h s)))
    (free q g o row is (λ s. and_right (agrees_named q o p) (list_all (agrees_named q o) row) (h s)))

switched : (q : List ℕ) (o : Option Definition) (f : Definition) (row : List (List ℕ × Definition)) → agrees q o f ≡ true → list_all (agrees_named q o) row ≡ true → list_all (agrees_named q (Some f)) row ≡ true
switched q None f row a h = absurd (cc)
switched q (Some d) f row a h = switch q d f row (λ e k. agree_both q d f e a k) h

pub none_clashes : (row : List (List ℕ × Definition)) (known : List ℕ → Option Definition) → Tells row known → (q : List ℕ) → clashes row q ≡ false
none_clashes row known h q = by (first_in row q) refl
  where
    by : (o : Option Definition) → first_in row q ≡ o → clashes row q ≡ false
    by None e = free q (first_in row) None row e (λ s. absurd (cc))
    by (Some f) e = free q (first_in row) (Some f) row e (λ s. switched q (known q) f row (first_agrees q (known q) row f e (h q)) (h q))
