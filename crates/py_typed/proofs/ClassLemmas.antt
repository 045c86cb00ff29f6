-- Which class stands under which, by their bases.
use Rattle.std.proofs.Common.{◌≡◌, ℕ, zero, suc, ◌≤◌, ◌<◌, Bool, true, false, ◌||◌, ◌&&◌, ◌==◌, nat_lt, List, [], ◌∷◌, ◌⊎◌, inl, inr, refl, sym, ap, subst, ◌∙◌, arith}
use Rattle.std.specs.List.{list_any, list_all}
use Rattle.std.proofs.lemmas.Bool.{eqb-true, ltb-true}
use Rattle.std.proofs.lemmas.Bool.Decides.{nat_tests}
use Rattle.py_typed.specs.Classes.{ClassEntry, bases_of, bases_fall, reaches, is_class_under, is_above}
use Rattle.py_typed.specs.Laws.{IsClassTree}
use Rattle.py_typed.proofs.FitLemmas.{and_left, and_right}

pub or_cases : (a b : Bool) → (a || b) ≡ true → (a ≡ true) ⊎ (b ≡ true)
or_cases true b e = inl refl
or_cases false b e = inr e

pub or_left : (a b : Bool) → a ≡ true → (a || b) ≡ true
or_left true b e = refl
or_left false b e = absurd (cc)

pub or_right : (a b : Bool) → b ≡ true → (a || b) ≡ true
or_right true b e = refl
or_right false b e = e

pub choose : {A B C : Type 0} → A ⊎ B → (A → C) → (B → C) → C
choose (inl a) f g = f a
choose (inr b) f g = g b

or_false : (a : Bool) → (a || false) ≡ a
or_false true = refl
or_false false = refl

not_less : (b : ℕ) → nat_lt b 0 ≡ false
not_less b = grind (arith, nat_tests)

none_below : (f : ℕ → Bool) (bs : List ℕ) → list_any (λ b. nat_lt b 0 && f b) bs ≡ false
none_below f [] = refl
none_below f (b ∷ bs) = ap (λ x. (x && f b) || list_any (λ b. nat_lt b 0 && f b) bs) (not_less b) ∙ none_below f bs

-- two tests that agree below c hold of the same of the numbers below c
pub any_alike : (c : ℕ) (f g : ℕ → Bool) → ((b : ℕ) → b < c → f b ≡ g b) → (bs : List ℕ) → list_any (λ b. nat_lt b c && f b) bs ≡ list_any (λ b. nat_lt b c && g b) bs
any_alike c f g h [] = refl
any_alike c f g h (b ∷ bs) =
    ap (λ x. x || list_any (λ b. nat_lt b c && f b) bs) (alike (nat_lt b c) refl)
    ∙ ap (λ x. (nat_lt b c && g b) || x) (any_alike c f g h bs)
  where
    alike : (t : Bool) → nat_lt b c ≡ t → (t && f b) ≡ (t && g b)
    alike true e = h b (ltb-true b c e)
    alike false e = refl

any_fall : (c : ℕ) (f : ℕ → Bool) (bs : List ℕ) → list_all (λ b. nat_lt b c) bs ≡ true → list_any (λ b. nat_lt b c && f b) bs ≡ list_any f bs
any_fall c f [] h = refl
any_fall c f (b ∷ bs) h =
    ap (λ x. (x && f b) || list_any (λ b. nat_lt b c && f b) bs) (and_left (nat_lt b c) (list_all (λ b. nat_lt b c) bs) h)
    ∙ ap (λ x. f b || x) (any_fall c f bs (and_right (nat_lt b c) (list_all (λ b. nat_lt b c) bs) h))

any_below : (f : ℕ → Bool) (c d : ℕ) → ((b : ℕ) → f b ≡ true → (b ≡ d) ⊎ (d < b)) → (bs : List ℕ) → list_any (λ b. nat_lt b c && f b) bs ≡ true → d < c
any_below f c d falls [] e = absurd (cc)
any_below f c d falls (b ∷ bs) e =
    choose (or_cases (nat_lt b c && f b) (list_any (λ b. nat_lt b c && f b) bs) e)
    (λ p.
    let less : b < c = ltb-true b c (and_left (nat_lt b c) (f b) p) in
    choose (falls b (and_right (nat_lt b c) (f b) p)) (λ q. subst (λ x. x < c) q less) (λ q. omega (arith, q, less)))
    (λ p. any_below f c d falls bs p)

module _ (classes : List ClassEntry) where
  -- steps that are allowed beyond the number of a class lead no further
  steps : (n m c d : ℕ) → c ≤ n → c ≤ m → reaches classes n c d ≡ reaches classes m c d
  steps zero zero c d p q = refl
  steps zero (suc m) zero d p q = sym (ap (λ x. (0 == d) || x) (none_below (λ b. reaches classes m b d) (bases_of classes 0)) ∙ or_false (0 == d))
  steps zero (suc m) (suc c) d p q = absurd (omega (arith, p))
  steps (suc n) zero zero d p q = ap (λ x. (0 == d) || x) (none_below (λ b. reaches classes n b d) (bases_of classes 0)) ∙ or_false (0 == d)
  steps (suc n) zero (suc c) d p q = absurd (omega (arith, q))
  steps (suc n) (suc m) c d p q =
      ap (λ x. (c == d) || x) (any_alike c (λ b. reaches classes n b d) (λ b. reaches classes m b d) (λ b less. steps n m b d (omega (arith, p, less)) (omega (arith, q, less))) (bases_of classes c))

  -- a class is the other, or the other stands above it
  pub by_falling : (c d : ℕ) → is_class_under classes c d ≡ ((c == d) || is_above classes c d)
  by_falling c d =
      steps c (suc c) c d (omega arith) (omega arith)
      ∙ ap (λ x. (c == d) || x) (any_alike c (λ b. reaches classes c b d) (λ b. is_class_under classes b d) (λ b less. steps c b b d (omega (arith, less)) (omega arith)) (bases_of classes c))

  pub under_by_bases : (c d : ℕ) → bases_fall classes c ≡ true → is_class_under classes c d ≡ ((c == d) || list_any (λ b. is_class_under classes b d) (bases_of classes c))
  under_by_bases c d h = by_falling c d ∙ ap (λ x. (c == d) || x) (any_fall c (λ b. is_class_under classes b d) (bases_of classes c) h)

  falls : (n c d : ℕ) → reaches classes n c d ≡ true → (c ≡ d) ⊎ (d < c)
  falls zero c d e = inl (eqb-true c d e)
  falls (suc n) c d e =
      choose (or_cases (c == d) (list_any (λ b. nat_lt b c && reaches classes n b d) (bases_of classes c)) e)
      (λ p. inl (eqb-true c d p))
      (λ p. inr (any_below (λ b. reaches classes n b d) c d (λ b q. falls n b d q) (bases_of classes c) p))

  -- a class stands under none of a greater number
  pub under_falls : (c d : ℕ) → is_class_under classes c d ≡ true → (c ≡ d) ⊎ (d < c)
  under_falls c d e = falls c c d e

  -- and only smaller numbers stand above it
  pub above_falls : (c d : ℕ) → is_above classes c d ≡ true → d < c
  above_falls c d e = any_below (λ b. is_class_under classes b d) c d (λ b q. falls b b d q) (bases_of classes c) e

module _ (classes : List ClassEntry) (tree : IsClassTree classes) where
  -- c is d, or one of its bases stands under d
  by_bases : (c d : ℕ) → is_class_under classes c d ≡ true → (c ≡ d) ⊎ (list_any (λ b. is_class_under classes b d) (bases_of classes c) ≡ true)
  by_bases c d e =
      choose (or_cases (c == d) (list_any (λ b. is_class_under classes b d) (bases_of classes c)) (sym (under_by_bases classes c d (tree.falls c)) ∙ e))
      (λ p. inl (eqb-true c d p))
      inr

  any_on : (c d e : ℕ) → ((b : ℕ) → b < c → is_class_under classes b d ≡ true → is_class_under classes b e ≡ true) → (bs : List ℕ) → list_all (λ b. nat_lt b c) bs ≡ true → list_any (λ b. is_class_under classes b d) bs ≡ true → list_any (λ b. is_class_under classes b e) bs ≡ true
  any_on c d e on [] h p = p
  any_on c d e on (b ∷ bs) h p =
      let less : b < c = ltb-true b c (and_left (nat_lt b c) (list_all (λ x. nat_lt x c) bs) h) in
      choose (or_cases (is_class_under classes b d) (list_any (λ x. is_class_under classes x d) bs) p)
      (λ q. or_left (is_class_under classes b e) (list_any (λ x. is_class_under classes x e) bs) (on b less q))
      (λ q. or_right (is_class_under classes b e) (list_any (λ x. is_class_under classes x e) bs) (any_on c d e on bs (and_right (nat_lt b c) (list_all (λ x. nat_lt x c) bs) h) q))

  on_below : (n c d e : ℕ) → c < n → is_class_under classes c d ≡ true → is_class_under classes d e ≡ true → is_class_under classes c e ≡ true
  on_below zero c d e lt p q = absurd (omega (arith, lt))
  on_below (suc n) c d e lt p q =
      choose (by_bases c d p)
      (λ r. subst (λ x. is_class_under classes x e ≡ true) (sym r) q)
      (λ r. under_by_bases classes c e (tree.falls c)
      ∙ or_right (c == e) (list_any (λ b. is_class_under classes b e) (bases_of classes c))
      (any_on c d e (λ b less p'. on_below n b d e (omega (arith, lt, less)) p' q) (bases_of classes c) (tree.falls c) r))

  -- what stands under a class stands under all that this one does
  pub under_on : (c d e : ℕ) → is_class_under classes c d ≡ true → is_class_under classes d e ≡ true → is_class_under classes c e ≡ true
  under_on c d e p q = on_below (suc c) c d e (omega arith) p q
