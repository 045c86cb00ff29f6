-- What is left of a block at a place.
use Rattle.std.proofs.Common.{◌≡◌, ◌∙◌, ap, ℕ, zero, suc, ◌+◌, arith, List, [], ◌∷◌, Option, Some, None}
use Rattle.ir_core.specs.declared.code.Op.{Op}
use Rattle.ir_core.specs.declared.code.Last.{Last}
use Rattle.ir_core.specs.declared.code.Block.{Block}
use Rattle.ir_core.specs.Items.{Do, End, in_block, item_of, Left, left_from, left_of}

abbrev left : List (Op × ℕ) → Last → Left
left ops last = record { ops = ops; last = last }

abbrev ops_of : Option Left → List (Op × ℕ)
ops_of None = []
ops_of (Some l) = l.ops

abbrev last_of : Last → Option Left → Last
last_of last None = last
last_of last (Some l) = l.last

abbrev Begins : List (Op × ℕ) → Last → ℕ → Op × ℕ → List (Op × ℕ) → Last → Type 0
Begins ops end i o os last =
    (in_block ops end i ≡ Some (Do o.0 o.1)) × (left_from ops end (suc i) ≡ Some (left os last))

goes_on : (ops : List (Op × ℕ)) (end : Last) (i : ℕ) (o : Op × ℕ) (os : List (Op × ℕ)) (last : Last) → left_from ops end i ≡ Some (left (o ∷ os) last) → Begins ops end i o os last
goes_on [] end zero o os last e = let f : [] ≡ o ∷ os = ap ops_of e in absurd (cc)
goes_on [] end (suc i) o os last e = let f : [] ≡ o ∷ os = ap ops_of e in absurd (cc)
goes_on (q ∷ qs) end zero o os last e =
    let f : q ∷ qs ≡ o ∷ os = ap ops_of e in
    let first : q ≡ o = cc in
    let rest : qs ≡ os = cc in
    let same : end ≡ last = ap (last_of last) e in
    (ap (λ (x : Op × ℕ). Some (Do x.0 x.1)) first, ap (λ x. Some (left x end)) rest ∙ ap (λ x. Some (left os x)) same)
goes_on (q ∷ qs) end (suc i) o os last e = goes_on qs end i o os last e

ends : (ops : List (Op × ℕ)) (end : Last) (i : ℕ) (last : Last) → left_from ops end i ≡ Some (left [] last) → in_block ops end i ≡ Some (End last)
ends [] end zero last e = ap (λ x. Some (End x)) (ap (last_of last) e)
ends [] end (suc i) last e = let f : None ≡ Some (left [] last) = e in absurd (cc)
ends (q ∷ qs) end zero last e = let f : q ∷ qs ≡ [] = ap ops_of e in absurd (cc)
ends (q ∷ qs) end (suc i) last e = ends qs end i last e

pub left_goes_on : (b : Option Block) (i : ℕ) (o : Op × ℕ) (os : List (Op × ℕ)) (last : Last) → left_of b i ≡ Some (left (o ∷ os) last) → (item_of b i ≡ Some (Do o.0 o.1)) × (left_of b (i + 1) ≡ Some (left os last))
left_goes_on None i o os last e = let f : [] ≡ o ∷ os = ap ops_of e in absurd (cc)
left_goes_on (Some b) i o os last e =
    let h = goes_on b.ops b.last i o os last e in
    let more : i + 1 ≡ suc i = omega arith in
    (h.0, ap (left_from b.ops b.last) more ∙ h.1)

pub left_ends : (b : Option Block) (i : ℕ) (last : Last) → left_of b i ≡ Some (left [] last) → item_of b i ≡ Some (End last)
left_ends None i last e = let f : None ≡ Some (left [] last) = e in absurd (cc)
left_ends (Some b) i last e = ends b.ops b.last i last e
