-- The C text of a program is the program laid out in lines.
use Rattle.std.proofs.Common.{◌≡◌, refl, ◌∙◌, ap, ℕ, zero, suc, ◌+◌, ◌-◌, arith, Bool, true, false, cond, List, [], ◌∷◌, ◌++◌, length, Some, None, append_assoc, inl, drop}
use Rattle.std.specs.Prelude.{slice_get}
use Rattle.c_core.specs.declared.code.Line.{Line}
use Rattle.c_core.specs.Functions.{is_label, labels_from, label_places}
use Rattle.ir_core.specs.declared.code.Op.{Op}
use Rattle.ir_core.specs.declared.code.Op.TheVariants.{Move, Prim}
use Rattle.ir_core.specs.declared.code.Last.{Last}
use Rattle.ir_core.specs.declared.code.Last.TheVariants.{Goto, If, IfError}
use Rattle.ir_core.specs.declared.code.Block.{Block}
use Rattle.ir_core.specs.declared.code.Func.{Func}
use Rattle.ir_core.specs.declared.code.Program.{Program}
use Rattle.ir_core.specs.Lower.{line_of, op_lines, label_before, label_of, end_lines, block_lines, lines_from, lowered_as, name_in, lowered_from, lower}
use Rattle.ir_core.specs.Lowered.{AreOps, IsEnd, IsLabelled, IsBlockAt, IsLaid, IsLaidAt, IsLowered}

-- ---- lists
pub drop_all : {A : Type 0} (n : ℕ) (xs ys : List A) → drop (length xs + n) (xs ++ ys) ≡ drop n ys
drop_all n [] ys = let e : 0 + n ≡ n = omega arith in ap (λ i. drop i ys) e
drop_all n (x ∷ xs) ys =
    let e : suc (length xs) + n ≡ suc (length xs + n) = omega arith in
    ap (λ i. drop i (x ∷ (xs ++ ys))) e ∙ drop_all n xs ys

-- ---- labels
by_label : (b : Bool) (n : ℕ) (all first rest : List ℕ) → all ≡ first ++ rest → cond b (n ∷ all) all ≡ cond b (n ∷ first) first ++ rest
by_label true n all first rest e = ap (λ l. n ∷ l) e
by_label false n all first rest e = e

labels_append : (n : ℕ) (xs ys : List Line) → labels_from n (xs ++ ys) ≡ labels_from n xs ++ labels_from (n + length xs) ys
labels_append n [] ys = let e : n ≡ n + 0 = omega arith in ap (λ i. labels_from i ys) e
labels_append n (x ∷ xs) ys =
    let e : n + 1 + length xs ≡ n + suc (length xs) = omega arith in
    by_label (is_label x) n (labels_from (n + 1) (xs ++ ys)) (labels_from (n + 1) xs) (labels_from (n + suc (length xs)) ys)
    (labels_append (n + 1) xs ys ∙ ap (λ i. labels_from (n + 1) xs ++ labels_from i ys) e)

module _ (p : Program) where
  no_label : (o : Op) → is_label (line_of p o) ≡ false
  no_label (Move r s) = refl
  no_label _ = refl

  no_op_labels : (n : ℕ) (ops : List (Op × ℕ)) → labels_from n (op_lines p ops) ≡ []
  no_op_labels n [] = refl
  no_op_labels n (o ∷ os) =
      ap (λ b. cond b (n ∷ labels_from (n + 1) (op_lines p os)) (labels_from (n + 1) (op_lines p os))) (no_label o.0) ∙ no_op_labels (n + 1) os

  no_end_labels : (n k : ℕ) (last : Last) → labels_from n (end_lines label_of k last) ≡ []
  no_end_labels n k (Goto t) = refl
  no_end_labels n k _ = refl

  no_labels : (n k : ℕ) (b : Block) → labels_from n (op_lines p b.ops ++ end_lines label_of k b.last) ≡ []
  no_labels n k b =
      labels_append n (op_lines p b.ops) (end_lines label_of k b.last)
      ∙ (ap (λ l. l ++ labels_from (n + length (op_lines p b.ops)) (end_lines label_of k b.last)) (no_op_labels n b.ops) ∙ no_end_labels (n + length (op_lines p b.ops)) k b.last)

  first_labels : (n : ℕ) (b : Block) (rest : List Line) → labels_from n (block_lines p 0 b ++ rest) ≡ labels_from (n + length (block_lines p 0 b)) rest
  first_labels n b rest =
      labels_append n (block_lines p 0 b) rest ∙ ap (λ l. l ++ labels_from (n + length (block_lines p 0 b)) rest) (no_labels n 0 b)

  next_labels : (n k : ℕ) (b : Block) (rest : List Line) → labels_from n (block_lines p (suc k) b ++ rest) ≡ n ∷ labels_from (n + length (block_lines p (suc k) b)) rest
  next_labels n k b rest =
      labels_append n (block_lines p (suc k) b) rest
      ∙ ap (λ l. n ∷ (l ++ labels_from (n + length (block_lines p (suc k) b)) rest)) (no_labels (n + 1) (suc k) b)

  -- ---- blocks
  -- the place of block j of blocks, and its number where the first has number k
  abbrev pub place_of : ℕ → List Block → ℕ → ℕ
  place_of k bs zero = 0
  place_of k [] (suc j) = 0
  place_of k (b ∷ bs) (suc j) = length (block_lines p k b) + place_of (suc k) bs j

  abbrev counted : ℕ → ℕ → ℕ
  counted k zero = k
  counted k (suc j) = counted (suc k) j

  counted_is : (k j : ℕ) → counted k j ≡ k + j
  counted_is k zero = omega arith
  counted_is k (suc j) = let e : suc k + j ≡ k + suc j = omega arith in counted_is (suc k) j ∙ e

  at_block : (k j : ℕ) (bs : List Block) (b : Block) → slice_get bs j ≡ Some b → (rest : List Line) × (drop (place_of k bs j) (lines_from p k bs) ≡ block_lines p (counted k j) b ++ rest)
  at_block k j [] b e = let f : None ≡ Some b = e in absurd (cc)
  at_block k zero (x ∷ bs) b e =
      let f : Some x ≡ Some b = e in
      let same : x ≡ b = cc in
      (lines_from p (suc k) bs, ap (λ (y : Block). block_lines p k y ++ lines_from p (suc k) bs) same)
  at_block k (suc j) (x ∷ bs) b e =
      let h = at_block (suc k) j bs b e in
      (h.0, drop_all (place_of (suc k) bs j) (block_lines p k x) (lines_from p (suc k) bs) ∙ h.1)

  label_there : (n k j : ℕ) (bs : List Block) (b : Block) → slice_get bs j ≡ Some b → slice_get (labels_from n (lines_from p (suc k) bs)) j ≡ Some (n + place_of (suc k) bs j)
  label_there n k j [] b e = let f : None ≡ Some b = e in absurd (cc)
  label_there n k zero (x ∷ bs) b e =
      let z : n ≡ n + 0 = omega arith in
      ap (λ l. slice_get l 0) (next_labels n k x (lines_from p (suc (suc k)) bs)) ∙ ap Some z
  label_there n k (suc j) (x ∷ bs) b e =
      let size : ℕ = length (block_lines p (suc k) x) in
      let z : n + size + place_of (suc (suc k)) bs j ≡ n + (size + place_of (suc (suc k)) bs j) = omega arith in
      ap (λ l. slice_get l (suc j)) (next_labels n k x (lines_from p (suc (suc k)) bs))
      ∙ (label_there (n + size) (suc k) j bs b e ∙ ap Some z)

  -- the label of each block but the first
  pub label_at : (bs : List Block) (k : ℕ) (b : Block) → slice_get bs (suc k) ≡ Some b → slice_get (label_places (lines_from p 0 bs)) k ≡ Some (place_of 0 bs (suc k))
  label_at [] k b e = let f : None ≡ Some b = e in absurd (cc)
  label_at (x ∷ bs) k b e =
      let size : ℕ = length (block_lines p 0 x) in
      let z : 0 + size + place_of 1 bs k ≡ size + place_of 1 bs k = omega arith in
      ap (λ l. slice_get l k) (first_labels 0 x (lines_from p 1 bs)) ∙ (label_there (0 + size) 0 k bs b e ∙ ap Some z)

  pub labelled : (bs : List Block) (k : ℕ) (b : Block) → slice_get bs k ≡ Some b → IsLabelled (lines_from p 0 bs) label_of k (place_of 0 bs k)
  labelled bs zero b e = refl
  labelled bs (suc k) b e =
      let number : suc k - 1 ≡ k = omega arith in ap (slice_get (label_places (lines_from p 0 bs))) number ∙ label_at bs k b e

  -- ---- a function
  are_ops : (ops : List (Op × ℕ)) → AreOps p ops (op_lines p ops)
  are_ops [] = tt
  are_ops (o ∷ os) = ([], op_lines p os, tt, refl, are_ops os)

  is_end : (lines : List Line) (k : ℕ) (last : Last) → IsEnd lines label_of k last (end_lines label_of k last)
  is_end lines k (If r a b) = (label_of a, label_of b, refl, inl refl, inl refl)
  is_end lines k (IfError r a b source) = (label_of a, label_of b, refl, inl refl, inl refl)
  is_end lines k _ = refl

  block_at : (bs : List Block) (k : ℕ) (b : Block) → slice_get bs k ≡ Some b → IsBlockAt (lines_from p 0 bs) label_of p k (place_of 0 bs k) b
  block_at bs k b e =
      let h = at_block 0 k bs b e in
      let number : counted 0 k ≡ k = counted_is 0 k ∙ omega arith in
      let parts : block_lines p k b ++ h.0 ≡ label_before k ++ (op_lines p b.ops ++ (end_lines label_of k b.last ++ h.0)) =
      append_assoc (label_before k) (op_lines p b.ops ++ end_lines label_of k b.last) h.0
      ∙ ap (λ l. label_before k ++ l) (append_assoc (op_lines p b.ops) (end_lines label_of k b.last) h.0) in
      record {
        labelled = labelled bs k b e;
        body = op_lines p b.ops;
        end = end_lines label_of k b.last;
        rest = h.0;
        is = h.1 ∙ (ap (λ i. block_lines p i b ++ h.0) number ∙ parts);
        are_ops = are_ops b.ops;
        is_end = is_end (lines_from p 0 bs) k b.last;
      }

  laid : (name : List ℕ) (f : Func) → IsLaid p f (lowered_as p name f)
  laid name f =
      record { params = refl; ret = refl; vars = refl; place = place_of 0 f.blocks; label = label_of; blocks = block_at f.blocks }

  -- ---- functions
  function_there : (n i : ℕ) (fs : List Func) (f : Func) → slice_get fs i ≡ Some f → slice_get (lowered_from p n fs) i ≡ Some (lowered_as p (name_in p (counted n i) f) f)
  function_there n i [] f e = let g : None ≡ Some f = e in absurd (cc)
  function_there n zero (x ∷ fs) f e =
      let g : Some x ≡ Some f = e in
      let same : x ≡ f = cc in
      ap (λ (y : Func). Some (lowered_as p (name_in p n y) y)) same
  function_there n (suc i) (x ∷ fs) f e = function_there (suc n) i fs f e

  as_many : (n : ℕ) (fs : List Func) → length (lowered_from p n fs) ≡ length fs
  as_many n [] = refl
  as_many n (f ∷ fs) = ap suc (as_many (suc n) fs)

  function_at : (n : ℕ) (f : Func) → slice_get p.funcs n ≡ Some f → IsLaidAt p (lower p) n f
  function_at n f e =
      let number : counted 0 n ≡ n = counted_is 0 n ∙ omega arith in
      record {
        fn = lowered_as p (name_in p n f) f;
        there = function_there 0 n p.funcs f e ∙ ap (λ i. Some (lowered_as p (name_in p i f) f)) number;
        name = refl;
        laid = laid (name_in p n f) f;
      }

  pub lower_is_lowered : IsLowered p (lower p)
  lower_is_lowered = record { globals = refl; classes = refl; count = as_many 0 p.funcs; funcs = function_at }
