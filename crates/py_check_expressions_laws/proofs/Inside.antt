-- Rows of names inside others, put together and shared.
use Rattle.std.proofs.Common.{◌≡◌, ℕ, Bool, true, false, ◌||◌, ◌==◌, List, [], ◌∷◌, ◌++◌, filter, refl, ap, sym, ◌∙◌, ◌⊎◌, inl, inr, cond}
use Rattle.std.proofs.lemmas.Bool.{eqb-true, or_cases, or_left, or_right}
use Rattle.std.proofs.lemmas.List.Folds.{list_any-append}
use Rattle.py_typed.specs.Narrowing.{is_in, shared}
use Rattle.py_check_expressions_laws.specs.WellTyped.{Within}

pub in_append : (xs ys : List ℕ) (x : ℕ) → is_in (xs ++ ys) x ≡ (is_in xs x || is_in ys x)
in_append xs ys x = list_any-append (λ y. y == x) xs ys

pub in_left : (xs ys : List ℕ) (x : ℕ) → is_in xs x ≡ true → is_in (xs ++ ys) x ≡ true
in_left xs ys x e = in_append xs ys x ∙ or_left (is_in xs x) (is_in ys x) e

pub in_right : (xs ys : List ℕ) (x : ℕ) → is_in ys x ≡ true → is_in (xs ++ ys) x ≡ true
in_right xs ys x e = in_append xs ys x ∙ or_right (is_in xs x) (is_in ys x) e

pub within_none : (ys : List ℕ) → Within [] ys
within_none ys x e = absurd (cc)

pub either : {A B D : Type 0} → A ⊎ B → (A → D) → (B → D) → D
either (inl a) f g = f a
either (inr b) f g = g b

pub within_append : (xs ys us vs : List ℕ) → Within xs us → Within ys vs → Within (xs ++ ys) (us ++ vs)
within_append xs ys us vs w v x e = either (or_cases (is_in xs x) (is_in ys x) (sym (in_append xs ys x) ∙ e)) (λ p. in_left us vs x (w x p)) (λ p. in_right us vs x (v x p))

-- what a name is found by, a name has
pub same_name : (f : ℕ → Bool) (x y : ℕ) → (y == x) ≡ true → f y ≡ f x
same_name f x y e = ap f (eqb-true y x e)

pub clash : {A : Type 0} (b : Bool) → b ≡ true → b ≡ false → A
clash true p q = absurd (cc)
clash false p q = absurd (cc)

-- one more in front of what passes a test
abbrev put : Bool → ℕ → List ℕ → List ℕ
put b y rest = cond b (y ∷ rest) rest

found_in : (f : ℕ → Bool) (y : ℕ) (xs rest : List ℕ) (x : ℕ) (b d : Bool) → f y ≡ b → (y == x) ≡ d → (is_in rest x ≡ true → (is_in xs x ≡ true) × (f x ≡ true)) → is_in (put b y rest) x ≡ true → (is_in (y ∷ xs) x ≡ true) × (f x ≡ true)
found_in f y xs rest x true true p q next h = (or_left (y == x) (is_in xs x) q, sym (same_name f x y q) ∙ p)
found_in f y xs rest x true false p q next h = let r = next (sym (ap (λ z. z || is_in rest x) q) ∙ h) in (or_right (y == x) (is_in xs x) r.0, r.1)
found_in f y xs rest x false d p q next h = let r = next h in (or_right (y == x) (is_in xs x) r.0, r.1)

pub filter_found : (f : ℕ → Bool) (xs : List ℕ) (x : ℕ) → is_in (filter f xs) x ≡ true → (is_in xs x ≡ true) × (f x ≡ true)
filter_found f [] x e = absurd (cc)
filter_found f (y ∷ xs) x e = found_in f y xs (filter f xs) x (f y) (y == x) refl refl (λ h. filter_found f xs x h) e

finds_in : (f : ℕ → Bool) (y : ℕ) (xs rest : List ℕ) (x : ℕ) (b d : Bool) → f y ≡ b → (y == x) ≡ d → f x ≡ true → (is_in xs x ≡ true → is_in rest x ≡ true) → is_in (y ∷ xs) x ≡ true → is_in (put b y rest) x ≡ true
finds_in f y xs rest x true true p q g next h = or_left (y == x) (is_in rest x) q
finds_in f y xs rest x true false p q g next h = or_right (y == x) (is_in rest x) (next (sym (ap (λ z. z || is_in xs x) q) ∙ h))
finds_in f y xs rest x false true p q g next h = clash (f x) g (sym (same_name f x y q) ∙ p)
finds_in f y xs rest x false false p q g next h = next (sym (ap (λ z. z || is_in xs x) q) ∙ h)

pub filter_finds : (f : ℕ → Bool) (xs : List ℕ) (x : ℕ) → is_in xs x ≡ true → f x ≡ true → is_in (filter f xs) x ≡ true
filter_finds f [] x e g = absurd (cc)
filter_finds f (y ∷ xs) x e g = finds_in f y xs (filter f xs) x (f y) (y == x) refl refl g (λ h. filter_finds f xs x h g) e

pub within_shared : (xs ys us vs : List ℕ) → Within xs us → Within ys vs → Within (shared xs ys) (shared us vs)
within_shared xs ys us vs w v x e = let r = filter_found (is_in ys) xs x e in filter_finds (is_in vs) us x (w x r.0) (v x r.1)
