-- Names known behind a binding, as typing has them and as the typed statement does.
use Rattle.std.proofs.Common.{◌≡◌, ℕ, Bool, true, false, not, ◌==◌, List, [], ◌∷◌, ◌++◌, refl, sym, subst, if◌then◌else◌, Option}
use Rattle.std.proofs.lemmas.Bool.{or_left, or_right, or_cases}
use Rattle.py_typed.specs.Sorts.{Sort}
use Rattle.py_typed.specs.Statements.{TypedTarget, LocalTarget}
use Rattle.py_typed.specs.Narrowing.{is_in, without, may_be_none, bound_by, after_target}
use Rattle.py_check_places.specs.Places.{is_plain, rebound}
use Rattle.py_check_expressions_laws.specs.WellTyped.{Within}
use Rattle.py_check_expressions_laws.proofs.Inside.{either, clash, filter_found, filter_finds}

pub within_itself : (xs : List ℕ) → Within xs xs
within_itself xs x e = e

pub within_cons : (i : ℕ) (xs ys : List ℕ) → Within xs ys → Within (i ∷ xs) (i ∷ ys)
within_cons i xs ys w x e = either (or_cases (i == x) (is_in xs x) e) (λ p. or_left (i == x) (is_in ys x) p) (λ p. or_right (i == x) (is_in ys x) (w x p))

pub within_more : (i : ℕ) (xs ys : List ℕ) → Within xs ys → Within xs (i ∷ ys)
within_more i xs ys w x e = or_right (i == x) (is_in ys x) (w x e)

-- what is taken out of more is left of less
pub within_less : (gone xs ys : List ℕ) → Within xs ys → Within (without gone xs) ys
within_less gone xs ys w x e = w x (filter_found (λ y. not (is_in gone y)) xs x e).0

not_other : (a b : Bool) → (b ≡ true → a ≡ true) → not a ≡ true → not b ≡ true
not_other true b n h = absurd (cc)
not_other false true n h = n refl
not_other false false n h = refl

pub within_without : (gone left xs ys : List ℕ) → Within left gone → Within xs ys → Within (without gone xs) (without left ys)
within_without gone left xs ys g w x e =
    let r = filter_found (λ y. not (is_in gone y)) xs x e in
    filter_finds (λ y. not (is_in left y)) ys x (w x r.0) (not_other (is_in gone x) (is_in left x) (g x) r.1)

pub within_kept : (xs ys : List ℕ) → Within xs ys → Within xs (without [] ys)
within_kept xs ys w x e = filter_finds (λ y. not (is_in [] y)) ys x (w x e) refl

-- ---- a binding

-- the names behind a value that may be None, and behind one that is not
abbrev bound_names : Bool → ℕ → List ℕ → List ℕ
bound_names loose i names = if loose then without (i ∷ []) names else i ∷ names

bound_by_test : (plain loose : Bool) (i : ℕ) (names others : List ℕ) → Within names others → (plain ≡ true → loose ≡ false) → Within (if plain then i ∷ without (i ∷ []) names else without (i ∷ []) names) (bound_names loose i others)
bound_by_test true true i names others w h = clash true (refl) (h refl)
bound_by_test true false i names others w h = within_cons i (without (i ∷ []) names) others (within_less (i ∷ []) names others w)
bound_by_test false true i names others w h = within_without (i ∷ []) (i ∷ []) names others (within_itself (i ∷ [])) w
bound_by_test false false i names others w h = within_more i (without (i ∷ []) names) others (within_less (i ∷ []) names others w)

pub bound_local : (i : ℕ) (t : Option Sort) (s : Sort) (names others : List ℕ) → Within names others → (is_plain t ≡ true → may_be_none s ≡ false) → Within (rebound i t names) (after_target others (LocalTarget i) s)
bound_local i t s names others w h = bound_by_test (is_plain t) (may_be_none s) i names others w h

other_by_test : (loose : Bool) (gone : List ℕ) (names others : List ℕ) → gone ≡ [] → Within names others → Within names (if loose then without gone others else gone ++ others)
other_by_test true gone names others g w = subst (λ l. Within names (without l others)) (sym g) (within_kept names others w)
other_by_test false gone names others g w = subst (λ l. Within names (l ++ others)) (sym g) w

-- what is no name of the function's own leaves what is known
pub bound_other : (target : TypedTarget) (s : Sort) (names others : List ℕ) → bound_by target ≡ [] → Within names others → Within names (after_target others target s)
bound_other target s names others g w = other_by_test (may_be_none s) (bound_by target) names others g w
