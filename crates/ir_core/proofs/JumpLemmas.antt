-- Where the jumps of a function's lines lead, and how its last line leaves: both follow from how its blocks end.
use Rattle.std.proofs.Common.{◌≡◌, refl, ◌∙◌, ap, subst, ℕ, zero, suc, ◌+◌, ◌-◌, ◌<◌, ◌≤◌, arith, Bool, true, false, List, [], ◌∷◌, ◌++◌, length, Option, Some, append_assoc, length-append, ⊎_elim}
use Rattle.std.specs.Prelude.{slice_get, nat_lt, ◌&&◌}
use Rattle.std.proofs.lemmas.Bool.{lt-ltb, and_from, or_left, or_right}
use Rattle.c_core.specs.declared.code.Line.{Line}
use Rattle.c_core.specs.declared.code.Line.TheVariants as line
use Rattle.c_core.specs.Functions.{label_places, is_turn}
use Rattle.c_core.specs.WellFormed.{goes_down, goes_on, jump_fits, jumps_fit, is_leaving}
use Rattle.ir_core.specs.declared.code.Op.{Op}
use Rattle.ir_core.specs.declared.code.Op.TheVariants.{Move, Prim}
use Rattle.ir_core.specs.declared.code.Last.{Last}
use Rattle.ir_core.specs.declared.code.Last.TheVariants.{Goto, If, IfError, Return, Unreachable}
use Rattle.ir_core.specs.declared.code.Block.{Block}
use Rattle.ir_core.specs.declared.code.Program.{Program}
use Rattle.ir_core.specs.Lower.{line_of, op_lines, label_before, label_of, end_lines, block_lines, lines_from}
use Rattle.ir_core.specs.Shape.{ends_in_turn, IsHigher, LastFits, BlockFits, BlocksFit}
use Rattle.ir_core.specs.Shape as shape
use Rattle.std.proofs.lemmas.List.{length-map}
use Rattle.ir_core.proofs.LowerLemmas.{place_of, labelled}

within : (bs : List Block) (n : ℕ) → n < length bs → (b : Block) × (slice_get bs n ≡ Some b)
within [] n l = absurd (omega (arith, l))
within (b ∷ bs) zero l = (b, refl)
within (b ∷ bs) (suc n) l = within bs n (omega (arith, l))

down : (q m : ℕ) (o : Option ℕ) → o ≡ Some m → q < m → goes_down q o ≡ true
down q m o e lt = ap (goes_down q) e ∙ lt-ltb q m lt

on : (q m : ℕ) (a : Bool) (o : Option ℕ) → o ≡ Some m → q < m → goes_on q a o ≡ true
on q m a o e lt = ap (goes_on q a) e ∙ or_left (nat_lt q m) a (lt-ltb q m lt)

behind_turn : (q m : ℕ) (a : Bool) (o : Option ℕ) → o ≡ Some m → a ≡ true → goes_on q a o ≡ true
behind_turn q m a o e turn = ap (goes_on q a) e ∙ or_right (nat_lt q m) a turn

module _ (p : Program) where
  -- whether the line above is a turn, behind operations
  abbrev after : Bool → List (Op × ℕ) → Bool
  after a [] = a
  after a (o ∷ os) = after (is_turn (line_of p o.0)) os

  turn_line : (o : Op) → shape.is_turn o ≡ true → is_turn (line_of p o) ≡ true
  turn_line (Move r s) e = e
  turn_line _ e = e

  turn_after : (a : Bool) (ops : List (Op × ℕ)) → ends_in_turn ops ≡ true → after a ops ≡ true
  turn_after a [] e = absurd (cc)
  turn_after a (o ∷ []) e = turn_line o.0 e
  turn_after a (o ∷ q ∷ os) e = turn_after (is_turn (line_of p o.0)) (q ∷ os) e

  -- the lines of a block that stands at place q
  abbrev size : ℕ → Block → ℕ
  size k b = length (block_lines p k b)

  -- among n blocks with these places, of which each but the first has a label
  module _ (labels : List ℕ) (n : ℕ) (place : ℕ → ℕ) (there : (t : ℕ) → 0 < t → t < n → slice_get labels (label_of t) ≡ Some (place t)) where
    no_jump : (q : ℕ) (a : Bool) (o : Op) → jump_fits labels q a (line_of p o) ≡ true
    no_jump q a (Move r s) = refl
    no_jump q a _ = refl

    ops_jump : (q : ℕ) (a : Bool) (ops : List (Op × ℕ)) (rest : List Line) → jumps_fit labels (q + length ops) (after a ops) rest ≡ true → jumps_fit labels q a (op_lines p ops ++ rest) ≡ true
    ops_jump q a [] rest h = let e : q + 0 ≡ q = omega arith in subst (λ i. jumps_fit labels i a rest ≡ true) e h
    ops_jump q a (o ∷ os) rest h =
        let e : q + suc (length os) ≡ q + 1 + length os = omega arith in
        let turn : Bool = is_turn (line_of p o.0) in
        and_from (jump_fits labels q a (line_of p o.0)) (jumps_fit labels (q + 1) turn (op_lines p os ++ rest)) (no_jump q a o.0)
        (ops_jump (q + 1) turn os rest (subst (λ i. jumps_fit labels i (after turn os) rest ≡ true) e h))

    both_down : (k q x y : ℕ) → IsHigher n k x × IsHigher n k y → ((t : ℕ) → k < t → t < n → q + 1 ≤ place t) → goes_down q (slice_get labels (label_of x)) && goes_down q (slice_get labels (label_of y)) ≡ true
    both_down k q x y fits higher =
        let one = higher x fits.0.0 fits.0.1 in
        let two = higher y fits.1.0 fits.1.1 in
        and_from (goes_down q (slice_get labels (label_of x))) (goes_down q (slice_get labels (label_of y)))
        (down q (place x) (slice_get labels (label_of x)) (there x (omega (arith, fits.0.0)) fits.0.1) (omega (arith, one)))
        (down q (place y) (slice_get labels (label_of y)) (there y (omega (arith, fits.1.0)) fits.1.1) (omega (arith, two)))

    end_jump : (k q : ℕ) (a : Bool) (ops : List (Op × ℕ)) (last : Last) (rest : List Line) → LastFits n k ops last → k < n → ((t : ℕ) → k < t → t < n → q + length (end_lines label_of k last) ≤ place t) → ((c : Bool) → jumps_fit labels (q + length (end_lines label_of k last)) c rest ≡ true) → jumps_fit labels q (after a ops) (end_lines label_of k last ++ rest) ≡ true
    end_jump k q a ops (Goto t) rest fits lt higher more =
        let behind : Bool = after a ops in
        let o : Option ℕ = slice_get labels (label_of t) in
        and_from (goes_on q behind o) (jumps_fit labels (q + 1) false rest)
        (⊎_elim (λ h. on q (place t) behind o (there t fits.0 fits.1) (omega (arith, higher t h fits.1)))
        (λ e. behind_turn q (place t) behind o (there t fits.0 fits.1) (turn_after a ops e)) fits.2)
        (more false)
    end_jump k q a ops (If r x y) rest fits lt higher more =
        and_from (goes_down q (slice_get labels (label_of x)) && goes_down q (slice_get labels (label_of y))) (jumps_fit labels (q + 1) false rest)
        (both_down k q x y fits higher) (more false)
    end_jump k q a ops (IfError r x y source) rest fits lt higher more =
        and_from (goes_down q (slice_get labels (label_of x)) && goes_down q (slice_get labels (label_of y))) (jumps_fit labels (q + 1) false rest)
        (both_down k q x y fits higher) (more false)
    end_jump k q a ops (Return r) rest fits lt higher more = more false
    end_jump k q a ops Unreachable rest fits lt higher more =
        let e : q + 2 ≡ q + 1 + 1 = omega arith in
        and_from (goes_on (q + 1) true (slice_get labels (label_of k))) (jumps_fit labels (q + 1 + 1) false rest)
        (behind_turn (q + 1) (place k) true (slice_get labels (label_of k)) (there k fits.0 lt) refl)
        (subst (λ i. jumps_fit labels i false rest ≡ true) e (more false))

    body_jump : (k q : ℕ) (a : Bool) (b : Block) (rest : List Line) → BlockFits n k b → k < n → ((t : ℕ) → k < t → t < n → q + length (op_lines p b.ops ++ end_lines label_of k b.last) ≤ place t) → ((c : Bool) → jumps_fit labels (q + length (op_lines p b.ops ++ end_lines label_of k b.last)) c rest ≡ true) → jumps_fit labels q a ((op_lines p b.ops ++ end_lines label_of k b.last) ++ rest) ≡ true
    body_jump k q a b rest fits lt higher more =
        let end : List Line = end_lines label_of k b.last in
        let e : q + length (op_lines p b.ops ++ end) ≡ q + length b.ops + length end =
        omega (arith, length-append (op_lines p b.ops) end, length-map b.ops (λ (o : Op × ℕ). line_of p o.0)) in
        ap (jumps_fit labels q a) (append_assoc (op_lines p b.ops) end rest)
        ∙ ops_jump q a b.ops (end ++ rest)
        (end_jump k (q + length b.ops) a b.ops b.last rest fits.last lt
        (λ t l m. subst (λ i. i ≤ place t) e (higher t l m))
        (λ c. subst (λ i. jumps_fit labels i c rest ≡ true) e (more c)))

    block_jump : (k q : ℕ) (a : Bool) (b : Block) (rest : List Line) → BlockFits n k b → k < n → ((t : ℕ) → k < t → t < n → q + size k b ≤ place t) → ((c : Bool) → jumps_fit labels (q + size k b) c rest ≡ true) → jumps_fit labels q a (block_lines p k b ++ rest) ≡ true
    block_jump zero q a b rest fits lt higher more = body_jump zero q a b rest fits lt higher more
    block_jump (suc k) q a b rest fits lt higher more =
        let body : List Line = op_lines p b.ops ++ end_lines label_of (suc k) b.last in
        let e : q + suc (length body) ≡ q + 1 + length body = omega arith in
        body_jump (suc k) (q + 1) false b rest fits lt
        (λ t l m. subst (λ i. i ≤ place t) e (higher t l m))
        (λ c. subst (λ i. jumps_fit labels i c rest ≡ true) e (more c))

    -- the first of these blocks has number k and stands at place q
    abbrev Stand : ℕ → ℕ → List Block → Type 0
    Stand k q bs = (j : ℕ) → j < length bs → place (k + j) ≡ q + place_of p k bs j

    stand_next : (k q : ℕ) (b : Block) (bs : List Block) → Stand k q (b ∷ bs) → Stand (suc k) (q + size k b) bs
    stand_next k q b bs at j lt =
        let e : suc k + j ≡ k + suc j = omega arith in
        let f = at (suc j) (omega arith) in
        let g : q + (size k b + place_of p (suc k) bs j) ≡ q + size k b + place_of p (suc k) bs j = omega arith in
        ap place e ∙ (f ∙ g)

    stand_higher : (k q : ℕ) (b : Block) (bs : List Block) → k + suc (length bs) ≡ n → Stand k q (b ∷ bs) → (t : ℕ) → k < t → t < n → q + size k b ≤ place t
    stand_higher k q b bs count at t l m =
        let j : ℕ = t - suc k in
        let e : t ≡ k + suc j = omega arith in
        let f = at (suc j) (omega arith) in
        let g : place t ≡ place (k + suc j) = ap place e in
        omega (arith, f, g)

    blocks_jump : (k q : ℕ) (a : Bool) (bs : List Block) → k + length bs ≡ n → BlocksFit n k bs → Stand k q bs → jumps_fit labels q a (lines_from p k bs) ≡ true
    blocks_jump k q a [] count fits at = refl
    blocks_jump k q a (b ∷ bs) count fits at =
        block_jump k q a b (lines_from p (suc k) bs) fits.0 (omega (arith, count)) (stand_higher k q b bs count at)
        (λ c. blocks_jump (suc k) (q + size k b) c bs (omega (arith, count)) fits.1 (stand_next k q b bs at))

  label_there : (bs : List Block) (t : ℕ) → 0 < t → t < length bs → slice_get (label_places (lines_from p 0 bs)) (label_of t) ≡ Some (place_of p 0 bs t)
  label_there bs zero l m = absurd (omega (arith, l))
  label_there bs (suc k) l m = let b = within bs (suc k) m in labelled p bs (suc k) b.0 b.1

  pub jumps_go : (bs : List Block) → BlocksFit (length bs) 0 bs → jumps_fit (label_places (lines_from p 0 bs)) 0 false (lines_from p 0 bs) ≡ true
  jumps_go bs fits =
      let count : 0 + length bs ≡ length bs = omega arith in
      blocks_jump (label_places (lines_from p 0 bs)) (length bs) (place_of p 0 bs) (label_there bs) 0 0 false bs count fits
      (λ j lt. let e : 0 + j ≡ j = omega arith in let f : place_of p 0 bs j ≡ 0 + place_of p 0 bs j = omega arith in ap (place_of p 0 bs) e ∙ f)

  -- ---- the last line
  -- the last of these lines, or the one before them
  abbrev last_from : Line → List Line → Line
  last_from l [] = l
  last_from l (m ∷ ms) = last_from m ms

  last_append : (l : Line) (xs ys : List Line) → last_from l (xs ++ ys) ≡ last_from (last_from l xs) ys
  last_append l [] ys = refl
  last_append l (x ∷ xs) ys = last_append x xs ys

  last_is : (l : Line) (ls : List Line) → slice_get (l ∷ ls) (length ls) ≡ Some (last_from l ls)
  last_is l [] = refl
  last_is l (m ∷ ms) = last_is m ms

  end_leaves : (l : Line) (k : ℕ) (last : Last) → is_leaving (Some (last_from l (end_lines label_of k last))) ≡ true
  end_leaves l k (Goto t) = refl
  end_leaves l k _ = refl

  block_leaves : (l : Line) (k : ℕ) (b : Block) → is_leaving (Some (last_from l (block_lines p k b))) ≡ true
  block_leaves l k b =
      let end : List Line = end_lines label_of k b.last in
      ap (λ x. is_leaving (Some x)) (last_append l (label_before k) (op_lines p b.ops ++ end) ∙ last_append (last_from l (label_before k)) (op_lines p b.ops) end)
      ∙ end_leaves (last_from (last_from l (label_before k)) (op_lines p b.ops)) k b.last

  lines_leave : (l : Line) (k : ℕ) (b : Block) (bs : List Block) → is_leaving (Some (last_from l (lines_from p k (b ∷ bs)))) ≡ true
  lines_leave l k b [] =
      ap (λ x. is_leaving (Some x)) (last_append l (block_lines p k b) []) ∙ block_leaves l k b
  lines_leave l k b (c ∷ bs) =
      ap (λ x. is_leaving (Some x)) (last_append l (block_lines p k b) (lines_from p (suc k) (c ∷ bs)))
      ∙ lines_leave (last_from l (block_lines p k b)) (suc k) c bs

  leaving_of : (ls : List Line) → is_leaving (Some (last_from line.Label ls)) ≡ true → is_leaving (slice_get ls (length ls - 1)) ≡ true
  leaving_of [] e = absurd (cc)
  leaving_of (x ∷ xs) e =
      let z : suc (length xs) - 1 ≡ length xs = omega arith in
      ap (λ i. is_leaving (slice_get (x ∷ xs) i)) z ∙ (ap is_leaving (last_is x xs) ∙ e)

  pub last_leaves : (bs : List Block) → 0 < length bs → is_leaving (slice_get (lines_from p 0 bs) (length (lines_from p 0 bs) - 1)) ≡ true
  last_leaves [] lt = absurd (omega (arith, lt))
  last_leaves (b ∷ bs) lt = leaving_of (lines_from p 0 (b ∷ bs)) (lines_leave line.Label 0 b bs)
