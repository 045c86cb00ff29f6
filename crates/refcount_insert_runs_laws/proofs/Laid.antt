-- Where each block and each function of a program stands in its C text.
use Rattle.std.proofs.Common.{◌≡◌, refl, ◌∙◌, ap, ℕ, zero, suc, ◌+◌, arith, List, [], ◌∷◌, ◌++◌, length, Some, None, append_assoc, drop}
use Rattle.std.specs.Prelude.{slice_get}
use Rattle.c_core.specs.declared.code.Line.{Line}
use Rattle.ir_core.specs.declared.code.Block.{Block}
use Rattle.ir_core.specs.declared.code.Func.{Func}
use Rattle.ir_core.specs.declared.code.Program.{Program}
use Rattle.ir_core.specs.Lower.{op_lines, label_before, label_of, end_lines, block_lines, lines_from, lowered_as, name_in, lowered_from, lower}
use Rattle.ir_core.proofs.LowerLemmas.{place_of, drop_all}

-- the number of entry j where the first has number k
abbrev counted : ℕ → ℕ → ℕ
counted k zero = k
counted k (suc j) = counted (suc k) j

counted_is : (k j : ℕ) → counted k j ≡ k + j
counted_is k zero = omega arith
counted_is k (suc j) = let e : suc k + j ≡ k + suc j = omega arith in counted_is (suc k) j ∙ e

from_none : (k : ℕ) → counted 0 k ≡ k
from_none k = counted_is 0 k ∙ omega arith

module _ (q : Program) where
  at_block : (k j : ℕ) (bs : List Block) (b : Block) → slice_get bs j ≡ Some b → (rest : List Line) × (drop (place_of q k bs j) (lines_from q k bs) ≡ block_lines q (counted k j) b ++ rest)
  at_block k j [] b e = let f : None ≡ Some b = e in absurd (cc)
  at_block k zero (x ∷ bs) b e =
      let f : Some x ≡ Some b = e in
      let same : x ≡ b = cc in
      (lines_from q (suc k) bs, ap (λ (y : Block). block_lines q k y ++ lines_from q (suc k) bs) same)
  at_block k (suc j) (x ∷ bs) b e =
      let h = at_block (suc k) j bs b e in
      (h.0, drop_all (place_of q (suc k) bs j) (block_lines q k x) (lines_from q (suc k) bs) ∙ h.1)

  -- a block stands at its place, behind its label
  pub block_at : (bs : List Block) (k : ℕ) (b : Block) → slice_get bs k ≡ Some b → (rest : List Line) × (drop (place_of q 0 bs k) (lines_from q 0 bs) ≡ label_before k ++ (op_lines q b.ops ++ (end_lines label_of k b.last ++ rest)))
  block_at bs k b e =
      let h = at_block 0 k bs b e in
      let parts : block_lines q k b ++ h.0 ≡ label_before k ++ (op_lines q b.ops ++ (end_lines label_of k b.last ++ h.0)) =
      append_assoc (label_before k) (op_lines q b.ops ++ end_lines label_of k b.last) h.0
      ∙ ap (λ l. label_before k ++ l) (append_assoc (op_lines q b.ops) (end_lines label_of k b.last) h.0) in
      (h.0, h.1 ∙ (ap (λ i. block_lines q i b ++ h.0) (from_none k) ∙ parts))

  function_there : (n i : ℕ) (fs : List Func) (f : Func) → slice_get fs i ≡ Some f → slice_get (lowered_from q n fs) i ≡ Some (lowered_as q (name_in q (counted n i) f) f)
  function_there n i [] f e = let g : None ≡ Some f = e in absurd (cc)
  function_there n zero (x ∷ fs) f e =
      let g : Some x ≡ Some f = e in
      let same : x ≡ f = cc in
      ap (λ (y : Func). Some (lowered_as q (name_in q n y) y)) same
  function_there n (suc i) (x ∷ fs) f e = function_there (suc n) i fs f e

  pub as_many : (n : ℕ) (fs : List Func) → length (lowered_from q n fs) ≡ length fs
  as_many n [] = refl
  as_many n (f ∷ fs) = ap suc (as_many (suc n) fs)

  pub function_at : (n : ℕ) (f : Func) → slice_get q.funcs n ≡ Some f → slice_get (lower q).funcs n ≡ Some (lowered_as q (name_in q n f) f)
  function_at n f e =
      function_there 0 n q.funcs f e ∙ ap (λ i. Some (lowered_as q (name_in q i f) f)) (from_none n)
