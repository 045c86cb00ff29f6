-- Texts that are written piece by piece.
use Rattle.std.proofs.Common.{◌≡◌, ◌∙◌, ap, sym, ℕ, ◌+◌, ◌<◌, List, [], ◌∷◌, ◌++◌, length, take, drop, get_or, append_assoc, append-nil, add-one, take-append-drop, subst, suc}
use Rattle.std.specs.List.{flat_map}
use Rattle.std.proofs.lemmas.List.{take_more}
use Rattle.std.proofs.Math.Seq.{drop-cons}
use Rattle.std.proofs.lemmas.Grind.{flat_map-append}
use Rattle.outside_core.specs.Bytes.{TakesFront}
use Rattle.outside_core.proofs.Fronts.{TakesFront-before, TakesFront-after}

-- a front of the first of two pieces, or of what stands behind it
pub front_of_first : {old new bytes : List ℕ} (more : List ℕ) → TakesFront old new bytes → TakesFront old new (bytes ++ more)
front_of_first {old} {new} {bytes} more f = TakesFront-before old new bytes more f

pub front_behind : {mid new more : List ℕ} (old bytes : List ℕ) → mid ≡ old ++ bytes → TakesFront mid new more → TakesFront old new (bytes ++ more)
front_behind {mid} {new} {more} old bytes p f = TakesFront-after old mid new bytes more p f

-- pieces that come of a list's elements: those before a place, the one at it, and those behind it
pieces_around : {X : Type 0} (f : X → List ℕ) (xs : List X) (i : ℕ) (x d : X) → i < length xs → x ≡ get_or xs i d → flat_map f xs ≡ flat_map f (take i xs) ++ (f x ++ flat_map f (drop (i + 1) xs))
pieces_around f xs i x d h p =
    let around : take i xs ++ (x ∷ drop (i + 1) xs) ≡ xs =
    rw add-one (ap (λ y. take i xs ++ (y ∷ drop (suc i) xs)) p ∙ sym (ap (λ ys. take i xs ++ ys) (drop-cons xs i d h)) ∙ take-append-drop i xs) in
    sym (ap (flat_map f) around) ∙ flat_map-append f (take i xs) (x ∷ drop (i + 1) xs)

-- one more piece, and a front of it
pub taken_more : {X : Type 0} {mid new : List ℕ} (old : List ℕ) (f : X → List ℕ) (xs : List X) (i : ℕ) (x d : X) → i < length xs → x ≡ get_or xs i d → mid ≡ old ++ flat_map f (take i xs) → new ≡ mid ++ f x → new ≡ old ++ flat_map f (take (i + 1) xs)
taken_more old f xs i x d h p q r =
    r ∙ ap (λ t. t ++ f x) q ∙ append_assoc old (flat_map f (take i xs)) (f x)
    ∙ ap (λ t. old ++ (flat_map f (take i xs) ++ t)) (sym (append-nil (f x)))
    ∙ ap (λ t. old ++ t) (sym (flat_map-append f (take i xs) (x ∷ [])))
    ∙ ap (λ ys. old ++ flat_map f ys) (ap (λ y. take i xs ++ (y ∷ [])) p ∙ sym (take_more xs i d h))

pub front_more : {X : Type 0} {mid new : List ℕ} (old : List ℕ) (f : X → List ℕ) (xs ys : List X) (i : ℕ) (x d : X) → xs ≡ ys → i < length xs → x ≡ get_or xs i d → mid ≡ old ++ flat_map f (take i xs) → TakesFront mid new (f x) → TakesFront old new (flat_map f ys)
front_more {new = new} old f xs ys i x d same h p q r =
    subst (λ text. TakesFront old new text) (sym (pieces_around f xs i x d h p) ∙ ap (flat_map f) same) (front_behind _ _ q (front_of_first _ r))
