-- Where new blocks stand among the lines of their function.
use Rattle.std.proofs.Common.{◌≡◌, refl, sym, ◌∙◌, ap, ℕ, zero, suc, ◌+◌, arith, List, [], ◌∷◌, ◌++◌, length, Option, Some, None, drop}
use Rattle.std.specs.Prelude.{slice_get}
use Rattle.c_core.specs.declared.code.Line.{Line}
use Rattle.ir_core.specs.declared.code.Block.{Block}
use Rattle.ir_core.specs.declared.code.Program.{Program}
use Rattle.ir_core.specs.Lower.{block_lines, lines_from}
use Rattle.ir_core.proofs.LowerLemmas.{place_of}
use Rattle.c_core_ownership_laws.specs.Shares.{Shares}
use Rattle.c_core_ownership_laws.specs.Order.{from}
use Rattle.refcount_insert_order_laws.proofs.Trails.{at_place, head}

pub at_drop : (ss : List (Option Shares)) (p : ℕ) → at_place ss p ≡ head (drop p ss) None
at_drop [] zero = refl
at_drop [] (suc p) = refl
at_drop (s ∷ ss) zero = refl
at_drop (s ∷ ss) (suc p) = at_drop ss p

drop_none : {A : Type 0} (n : ℕ) (xs : List A) → [] ≡ xs → [] ≡ drop n xs
drop_none zero xs e = e
drop_none (suc n) [] e = refl
drop_none (suc n) (x ∷ xs) e = absurd (cc)

pub drop_twice : {A : Type 0} (xs : List A) (n k : ℕ) → drop k (drop n xs) ≡ drop (n + k) xs
drop_twice xs zero k = let e : k ≡ 0 + k = omega arith in ap (λ i. drop i xs) e
drop_twice [] (suc n) k = sym (drop_none k [] refl) ∙ drop_none (suc n + k) [] refl
drop_twice (x ∷ xs) (suc n) k =
    let e : suc (n + k) ≡ suc n + k = omega arith in drop_twice xs n k ∙ ap (λ i. drop i (x ∷ xs)) e

module _ (p : Program) where
  pub from_behind : (xs ys : List Line) (n : ℕ) → from (length xs + n) (xs ++ ys) ≡ from n ys
  from_behind [] ys n = let e : 0 + n ≡ n = omega arith in ap (λ i. from i ys) e
  from_behind (x ∷ xs) ys n =
      let e : suc (length xs) + n ≡ suc (length xs + n) = omega arith in
      ap (λ i. from i (x ∷ (xs ++ ys))) e ∙ from_behind xs ys n

  -- the lines of a block stand at its place
  pub block_at : (n j : ℕ) (bs : List Block) (b : Block) → slice_get bs j ≡ Some b → (rest : List Line) × (from (place_of p n bs j) (lines_from p n bs) ≡ block_lines p (n + j) b ++ rest)
  block_at n j [] b e = let f : None ≡ Some b = e in absurd (cc)
  block_at n zero (x ∷ bs) b e =
      let f : Some x ≡ Some b = e in
      let same : x ≡ b = cc in
      let z : n ≡ n + 0 = omega arith in
      (lines_from p (suc n) bs, ap (λ (y : Block). block_lines p n y ++ lines_from p (suc n) bs) same ∙ ap (λ i. block_lines p i b ++ lines_from p (suc n) bs) z)
  block_at n (suc j) (x ∷ bs) b e =
      let h = block_at (suc n) j bs b e in
      let z : suc n + j ≡ n + suc j = omega arith in
      (h.0, from_behind (block_lines p n x) (lines_from p (suc n) bs) (place_of p (suc n) bs j) ∙ (h.1 ∙ ap (λ i. block_lines p i b ++ h.0) z))
