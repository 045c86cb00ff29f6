-- What changes of cells leave of the contents that two lists of cells have in common.
use Rattle.std.proofs.Common.{◌≡◌, refl, sym, subst, ◌∙◌, ℕ, zero, suc, ◌+◌, ◌≤◌, ◌⊎◌, inl, inr, ⊎_elim, List, [], ◌∷◌, ◌++◌, length, length-append, Option, Some, None, ap, arith}
use Rattle.c_core.specs.declared.code.Code.{Code}
use Rattle.c_core.specs.Cells.{Cell, Cells, content_of, content_at, one_less, change, lowered, raised, refilled, take_one, refill, make}
use Rattle.c_core.specs.Release.{after, freed, weight, uses, release_some, release}
use Rattle.c_core.specs.Machine.{Content, refs_in}
use Rattle.c_core_ownership_laws.specs.Alike.{HoldsMore}
use Rattle.c_core_ownership_laws.specs.Frames.{HasBareSlots, SlotsBare}

module _ {X : Type 0} where
  change-length : (f : Option (Cell X) → Option (Cell X)) (c : ℕ) (h : Cells X) → length (change f c h) ≡ length h
  change-length f c [] = refl
  change-length f zero (o ∷ h) = refl
  change-length f (suc c) (o ∷ h) = ap suc (change-length f c h)

  take-content : (h : Cells X) (c d : ℕ) → content_at (take_one c h) d ≡ content_at h d
  take-content [] c d = refl
  take-content (None ∷ h) zero zero = refl
  take-content (Some cell ∷ h) zero zero = refl
  take-content (o ∷ h) zero (suc d) = refl
  take-content (o ∷ h) (suc c) zero = refl
  take-content (o ∷ h) (suc c) (suc d) = take-content h c d

  less-content : (n : ℕ) (x v : X) → content_of (one_less n x) ≡ Some v → Some x ≡ Some v
  less-content zero x v e = cc
  less-content (suc zero) x v e = cc
  less-content (suc (suc n)) x v e = e

  after-content : (h : Cells X) (c d : ℕ) (v : X) → content_at (after c h) d ≡ Some v → content_at h d ≡ Some v
  after-content [] c d v e = e
  after-content (None ∷ h) zero zero v e = e
  after-content (Some cell ∷ h) zero zero v e = less-content cell.count cell.content v e
  after-content (o ∷ h) zero (suc d) v e = e
  after-content (o ∷ h) (suc c) zero v e = e
  after-content (o ∷ h) (suc c) (suc d) v e = after-content h c d v e

  module _ (words : X → List ℕ) where
    release-content : (n : ℕ) (h : Cells X) (refs : List ℕ) (d : ℕ) (v : X) → content_at (release_some words n h refs) d ≡ Some v → content_at h d ≡ Some v
    release-content zero h refs d v e = e
    release-content (suc n) h [] d v e = e
    release-content (suc n) h (w ∷ refs) d v e =
        after-content h w d v (release-content n (after w h) (freed words w h ++ refs) d v e)

    release-length : (n : ℕ) (h : Cells X) (refs : List ℕ) → length (release_some words n h refs) ≡ length h
    release-length zero h refs = refl
    release-length (suc n) h [] = refl
    release-length (suc n) h (w ∷ refs) =
        release-length n (after w h) (freed words w h ++ refs) ∙ change-length lowered w h

  -- nothing is given up
  release-none : (words : X → List ℕ) (n : ℕ) (h : Cells X) → release_some words n h [] ≡ h
  release-none words zero h = refl
  release-none words (suc n) h = refl

  make-content : (g h : Cells X) (x : X) → length g ≡ length h → ((d : ℕ) (v : X) → content_at g d ≡ Some v → content_at h d ≡ Some v) → (d : ℕ) (v : X) → content_at (make x g) d ≡ Some v → content_at (make x h) d ≡ Some v
  make-content [] [] x l m d v e = e
  make-content [] (p ∷ h) x l m d v e = absurd (omega (arith, l))
  make-content (o ∷ g) [] x l m d v e = absurd (omega (arith, l))
  make-content (o ∷ g) (p ∷ h) x l m zero v e = m 0 v e
  make-content (o ∷ g) (p ∷ h) x l m (suc d) v e =
      make-content g h x (omega (arith, l)) (λ i. m (suc i)) d v e

module _ {X : Type 0} where
  refill-content : (g h : Cells X) (x : X) (c : ℕ) → ((d : ℕ) (v : X) → content_at g d ≡ Some v → content_at h d ≡ Some v) → (d : ℕ) (v : X) → content_at (refill x c g) d ≡ Some v → content_at (refill x c h) d ≡ Some v
  refill-content [] h x c m d v e = absurd (cc)
  refill-content (o ∷ g) [] x zero m zero v e = gone o (m 0) e
    where
      gone : (o : Option (Cell X)) → ((v : X) → content_of o ≡ Some v → None ≡ Some v) → content_of (refilled x o) ≡ Some v → None ≡ Some v
      gone None n e = e
      gone (Some cell) n e = absurd (let f = n cell.content refl in cc)
  refill-content (o ∷ g) [] x zero m (suc d) v e = m (suc d) v e
  refill-content (o ∷ g) [] x (suc c) m zero v e = m 0 v e
  refill-content (o ∷ g) [] x (suc c) m (suc d) v e = refill-content g [] x c (λ i. m (suc i)) d v e
  refill-content (o ∷ g) (p ∷ h) x zero m zero v e = same_one o p (m 0) e
    where
      same_one : (o p : Option (Cell X)) → ((v : X) → content_of o ≡ Some v → content_of p ≡ Some v) → content_of (refilled x o) ≡ Some v → content_of (refilled x p) ≡ Some v
      same_one None p n e = absurd (cc)
      same_one (Some cell) None n e = absurd (let f = n cell.content refl in cc)
      same_one (Some cell) (Some other) n e = e
  refill-content (o ∷ g) (p ∷ h) x zero m (suc d) v e = m (suc d) v e
  refill-content (o ∷ g) (p ∷ h) x (suc c) m zero v e = m 0 v e
  refill-content (o ∷ g) (p ∷ h) x (suc c) m (suc d) v e = refill-content g h x c (λ i. m (suc i)) d v e

module _ {X : Type 0} where
  -- a content is an old one, or the one that was put there
  make-one : (h : Cells X) (x : X) (d : ℕ) (v : X) → content_at (make x h) d ≡ Some v → (content_at h d ≡ Some v) ⊎ (x ≡ v)
  make-one [] x zero v e = inr (cc)
  make-one [] x (suc d) v e = inl e
  make-one (o ∷ h) x zero v e = inl e
  make-one (o ∷ h) x (suc d) v e = make-one h x d v e

  refill-one : (h : Cells X) (x : X) (c d : ℕ) (v : X) → content_at (refill x c h) d ≡ Some v → (content_at h d ≡ Some v) ⊎ (x ≡ v)
  refill-one [] x c d v e = inl e
  refill-one (None ∷ h) x zero zero v e = inl e
  refill-one (Some cell ∷ h) x zero zero v e = inr (cc)
  refill-one (o ∷ h) x zero (suc d) v e = inl e
  refill-one (o ∷ h) x (suc c) zero v e = inl e
  refill-one (o ∷ h) x (suc c) (suc d) v e = refill-one h x c d v e

-- the attributes of numbers keep having no cell
module _ (code : Code) (h : Cells Content) (bare : SlotsBare code h) where
  pub taken_bare : (c : ℕ) → SlotsBare code (take_one c h)
  taken_bare c d v e = bare d v (sym (take-content h c d) ∙ e)

  pub given_bare : (refs : List ℕ) → SlotsBare code (release refs_in h refs)
  given_bare refs d v e = bare d v (release-content refs_in (length refs + weight refs_in h) h refs d v e)

  pub made_bare : (x : Content) → HasBareSlots code x → SlotsBare code (make x h)
  made_bare x new d v e =
      ⊎_elim (λ f. bare d v f) (λ f. subst (HasBareSlots code) f new) (make-one h x d v e)

  pub refilled_bare : (x : Content) (c : ℕ) → HasBareSlots code x → SlotsBare code (refill x c h)
  refilled_bare x c new d v e =
      ⊎_elim (λ f. bare d v f) (λ f. subst (HasBareSlots code) f new) (refill-one h x c d v e)

-- where nothing is given up, what contents hold stays
pub given_uses : (h : Cells Content) (gone : List ℕ) → gone ≡ [] → (c : ℕ) → uses refs_in h c ≤ uses refs_in (release refs_in h gone) c
given_uses h gone e c =
    let none : release refs_in h [] ≡ h = release-none refs_in (length {A = ℕ} [] + weight refs_in h) h in
    omega (arith, ap (λ z. uses refs_in (release refs_in h z) c) e, ap (λ z. uses refs_in z c) none)

module _ (g h : Cells Content) (m : HoldsMore g h) where
  pub taken_more : (c : ℕ) → HoldsMore (take_one c g) (take_one c h)
  taken_more c =
      record {
        size = change-length raised c g ∙ m.size ∙ sym (change-length raised c h);
        more = λ d v e. take-content h c d ∙ m.more d v (sym (take-content g c d) ∙ e);
      }

  -- another content in both
  pub changed_more : (x : Content) (c : ℕ) → HoldsMore (refill x c g) (refill x c h)
  changed_more x c =
      record {
        size = change-length (refilled x) c g ∙ m.size ∙ sym (change-length (refilled x) c h);
        more = refill-content g h x c m.more;
      }

  -- the first gives references up, and the second does not
  pub given_more : (refs : List ℕ) → HoldsMore (release refs_in g refs) h
  given_more refs =
      record {
        size = release-length refs_in (length refs + weight refs_in g) g refs ∙ m.size;
        more = λ d v e. m.more d v (release-content refs_in (length refs + weight refs_in g) g refs d v e);
      }

  pub made_more : (x : Content) → HoldsMore (make x g) (make x h)
  made_more x =
      record {
        size = omega (arith, m.size, length-append g (Some (record { count = 1; content = x }) ∷ []), length-append h (Some (record { count = 1; content = x }) ∷ []));
        more = make-content g h x m.size m.more;
      }
