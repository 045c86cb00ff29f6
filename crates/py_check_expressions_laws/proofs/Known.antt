-- Names of which each is known, part by part.
use Rattle.std.proofs.Common.{◌≡◌, ℕ, Bool, true, false, ◌||◌, List, [], ◌∷◌, ◌++◌, refl, sym, ◌∙◌}
use Rattle.std.proofs.lemmas.List.Folds.{list_any-append}
use Rattle.py_syntax.specs.declared.token.Span.{Span}
use Rattle.py_binder.specs.Sights.{Sight, sight, Reads}
use Rattle.py_check_context.specs.declared.scope.Meaning.{Meaning}
use Rattle.py_check_annotations.specs.Names.{is_unknown, unknown_there, any_unknown}

pub neither_left : (a b : Bool) → (a || b) ≡ false → a ≡ false
neither_left false b h = refl
neither_left true b h = absurd (cc)

pub neither_right : (a b : Bool) → (a || b) ≡ false → b ≡ false
neither_right false b h = h
neither_right true b h = absurd (cc)

pub neither_of : (a b : Bool) → a ≡ false → b ≡ false → (a || b) ≡ false
neither_of a b p q = cc

module _ (meanings : List ℕ → Meaning) where
  in_parts : (xs ys : List Sight) → any_unknown meanings (xs ++ ys) ≡ (any_unknown meanings xs || any_unknown meanings ys)
  in_parts xs ys = list_any-append (λ x. unknown_there meanings x.does) xs ys

  pub known_left : (xs ys : List Sight) → any_unknown meanings (xs ++ ys) ≡ false → any_unknown meanings xs ≡ false
  known_left xs ys h = neither_left (any_unknown meanings xs) (any_unknown meanings ys) (sym (in_parts xs ys) ∙ h)

  pub known_right : (xs ys : List Sight) → any_unknown meanings (xs ++ ys) ≡ false → any_unknown meanings ys ≡ false
  known_right xs ys h = neither_right (any_unknown meanings xs) (any_unknown meanings ys) (sym (in_parts xs ys) ∙ h)

  pub known_both : (xs ys : List Sight) → any_unknown meanings xs ≡ false → any_unknown meanings ys ≡ false → any_unknown meanings (xs ++ ys) ≡ false
  known_both xs ys p q = in_parts xs ys ∙ neither_of (any_unknown meanings xs) (any_unknown meanings ys) p q

  -- a name that is read alone
  pub known_name : (x : List ℕ) (span : Span) → any_unknown meanings (sight (Reads x) span ∷ []) ≡ false → is_unknown (meanings x) ≡ false
  known_name x span h = neither_left (is_unknown (meanings x)) false h
