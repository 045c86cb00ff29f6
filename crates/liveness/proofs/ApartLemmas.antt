-- The pieces of a function stand where its blocks' homes say.
use Rattle.std.proofs.Common.{◌≡◌, ℕ, zero, suc, ◌+◌, ◌<◌, ◌≤◌, Bool, List, [], ◌∷◌, ◌++◌, length, map, drop, Option, Some, None, refl, sym, ap, ◌∙◌, arith, append_assoc, append-nil}
use Rattle.std.specs.Prelude.{slice_get}
use Rattle.std.specs.Option.{option_map}
use Rattle.std.proofs.lemmas.List.{length-append, length-map, map-append, drop_all}
use Rattle.ir_core.specs.declared.code.Op.{Op}
use Rattle.ir_core.specs.declared.code.Last.{Last}
use Rattle.ir_core.specs.declared.code.Block.{Block}
use Rattle.ir_core.specs.Rows.{Declared, edge_of_op}
use Rattle.ir_core.specs.declared.kind.Edge.{Edge}
use Rattle.ir_core.specs.declared.kind.Edge.TheVariants.{NoEdge, Tests, TestsTwice, Jumps}
use Rattle.ir_core.specs.Items.{Item, Do, End, in_block}
use Rattle.ir_core.specs.Missing.{ahead}
use Rattle.liveness.specs.declared.step.Steps.{Steps}
use Rattle.liveness.specs.Steps.{step_over, steps_of}
use Rattle.liveness.specs.declared.apart.Home.{Home}
use Rattle.liveness.specs.declared.apart.Home.TheVariants.{Whole, Apart}
use Rattle.liveness.specs.Paths.{is_caught}
use Rattle.liveness.specs.Apart.{size_with, size_of, home_between, home_of, homes_from, pieces_in, first_in, moved, bare_piece, choice, pieces_from, pieces_with, pieces_of}

-- ---- lists

pub get_front : {A : Type 0} (xs ys : List A) (j : ℕ) (x : A) → slice_get xs j ≡ Some x → slice_get (xs ++ ys) j ≡ Some x
get_front [] ys j x e = cc
get_front (y ∷ xs) ys zero x e = e
get_front (y ∷ xs) ys (suc j) x e = get_front xs ys j x e

pub get_back : {A : Type 0} (xs ys : List A) (j k : ℕ) → k ≡ length xs + j → slice_get (xs ++ ys) k ≡ slice_get ys j
get_back [] ys j k e = let same : k ≡ j = omega (arith, e) in ap (slice_get ys) same
get_back (x ∷ xs) ys j zero e = absurd (omega (arith, e))
get_back (x ∷ xs) ys j (suc k) e = get_back xs ys j k (omega (arith, e))

drop_at : {A : Type 0} (xs : List A) (i : ℕ) (x : A) → slice_get xs i ≡ Some x → drop i xs ≡ x ∷ drop (i + 1) xs
drop_at [] i x e = cc
drop_at (y ∷ xs) zero x e = let same : y ≡ x = cc in ap (λ z. z ∷ xs) same
drop_at (y ∷ xs) (suc i) x e =
    let next : suc i + 1 ≡ suc (i + 1) = omega arith in
    drop_at xs i x e ∙ ap (λ z. x ∷ drop z (y ∷ xs)) (sym next)

-- ---- homes

size_some : (h : Option ℕ) (n : ℕ) → suc zero ≤ size_with h n
size_some None n = omega arith
size_some (Some h) n = omega arith

-- the number behind the last piece
abbrev pub behind_in : Home → ℕ
behind_in (Whole n) = suc n
behind_in (Apart n behind) = behind

first_between : (h : Option ℕ) (n e : ℕ) → first_in (home_between h n e) ≡ n
first_between None n e = refl
first_between (Some h) n e = refl

behind_between : (h : Option ℕ) (n size : ℕ) → behind_in (home_between h n (n + size_with h size)) ≡ n + size_with h size
behind_between None n size = omega arith
behind_between (Some h) n size = refl

-- the homes of blocks from piece n on begin there, and end before the next ones
pub from_first : (n : ℕ) (bs : List Block) (b : ℕ) (home : Home) → slice_get (homes_from n bs) b ≡ Some home → (n ≤ first_in home) × (behind_in home ≤ n + pieces_in bs)
from_first n [] b home e = cc
from_first n (k ∷ bs) zero home e =
    let same : home_of n k ≡ home = cc in
    let at = ap first_in same in
    let end = ap behind_in same in
    let start = first_between k.handler n (n + size_of k) in
    let stop = behind_between k.handler n (length k.ops) in
    (omega (arith, at, start), omega (arith, end, stop))
from_first n (k ∷ bs) (suc b) home e =
    let h = from_first (n + size_of k) bs b home e in
    (omega (arith, h.0), omega (arith, h.1))

pub first_before : (n : ℕ) (bs : List Block) (b c : ℕ) (home next : Home) → slice_get (homes_from n bs) b ≡ Some home → slice_get (homes_from n bs) c ≡ Some next → b < c → behind_in home ≤ first_in next
first_before n [] b c home next e f lt = cc
first_before n (k ∷ bs) b zero home next e f lt = absurd (omega (arith, lt))
first_before n (k ∷ bs) zero (suc c) home next e f lt =
    let same : home_of n k ≡ home = cc in
    let end = ap behind_in same in
    let stop = behind_between k.handler n (length k.ops) in
    let h = from_first (n + size_of k) bs c next f in
    omega (arith, end, stop, h.0)
first_before n (k ∷ bs) (suc b) (suc c) home next e f lt =
    first_before (n + size_of k) bs b c home next e f (omega (arith, lt))

pub homes_size : (n : ℕ) (bs : List Block) → length (homes_from n bs) ≡ length bs
homes_size n [] = refl
homes_size n (k ∷ bs) = ap suc (homes_size (n + size_of k) bs)

-- one home more
pub homes_more : (i n m : ℕ) (bs : List Block) (k : Block) (before after whole : List Home) → slice_get bs i ≡ Some k → m ≡ n + size_of k → after ≡ before ++ home_between k.handler n m ∷ [] → before ++ homes_from n (drop i bs) ≡ whole → after ++ homes_from m (drop (i + 1) bs) ≡ whole
homes_more i n m bs k before after whole there behind pushed so_far =
    let rest = drop (i + 1) bs in
    ap (λ z. z ++ homes_from m rest) pushed
    ∙ append_assoc before (home_between k.handler n m ∷ []) (homes_from m rest)
    ∙ ap (λ z. before ++ (home_between k.handler n z ∷ homes_from z rest)) behind
    ∙ sym (ap (λ z. before ++ homes_from n z) (drop_at bs i k there))
    ∙ so_far

pub count_more : (i n m whole : ℕ) (bs : List Block) (k : Block) → slice_get bs i ≡ Some k → m ≡ n + size_of k → n + pieces_in (drop i bs) ≡ whole → m + pieces_in (drop (i + 1) bs) ≡ whole
count_more i n m whole bs k there behind so_far =
    let first = ap pieces_in (drop_at bs i k there) in
    omega (arith, behind, so_far, first)

-- ---- pieces

module _ (at : ℕ → ℕ → Option Item) (regs : Declared) (to : ℕ → ℕ) where
  from_size : (h n : ℕ) (ops : List (Op × ℕ)) (last : Last) → length (pieces_from at regs to h n ops last) ≡ suc (length ops)
  from_size h n [] last = refl
  from_size h n (o ∷ os) last = ap suc (from_size h (suc n) os last)

  pub with_size : (h : Option ℕ) (n : ℕ) (ops : List (Op × ℕ)) (last : Last) → length (pieces_with at regs to h n ops last) ≡ size_with h (length ops)
  with_size None n ops last = refl
  with_size (Some h) n ops last = from_size h n ops last

  pub pieces_size : (n : ℕ) (bs : List Block) → length (pieces_of at regs to n bs) ≡ pieces_in bs
  pieces_size n [] = refl
  pieces_size n (k ∷ bs) =
      let whole = length-append (pieces_with at regs to k.handler n k.ops k.last) (pieces_of at regs to (n + size_of k) bs) in
      let first = with_size k.handler n k.ops k.last in
      let rest = pieces_size (n + size_of k) bs in
      omega (arith, whole, first, rest)

  -- what stands at each place of a block that is taken apart
  pub piece_do : (h n p q : ℕ) (ops : List (Op × ℕ)) (last : Last) (o : Op) {line : ℕ} → in_block ops last p ≡ Some (Do o line) → q ≡ n + p → (x : Op × ℕ) × (x.0 ≡ o) × (Some (Do x.0 x.1) ≡ Some (Do o line)) × (slice_get (pieces_from at regs to h n ops last) p ≡ Some (bare_piece (x ∷ []) (choice (is_caught at (edge_of_op regs x.0) (in_block ops last (suc p))) (length regs) (to h) (suc q))))
  piece_do h n zero q [] last o {line} e at_q = let f : Some (End last) ≡ Some (Do o line) = e in absurd (cc)
  piece_do h n (suc p) q [] last o {line} e at_q = let f : None ≡ Some (Do o line) = e in absurd (cc)
  piece_do h n zero q (x ∷ os) last o {line} e at_q =
      let g : Some (Do x.0 x.1) ≡ Some (Do o line) = e in
      let same : x.0 ≡ o = cc in
      let number : n ≡ q = omega (arith, at_q) in
      (x, same, g, ap (λ z. Some (bare_piece (x ∷ []) (choice (is_caught at (edge_of_op regs x.0) (in_block os last 0)) (length regs) (to h) (suc z)))) number)
  piece_do h n (suc p) q (x ∷ os) last o e at_q =
      piece_do h (suc n) p q os last o e (omega (arith, at_q))

  pub piece_end : (h n p : ℕ) (ops : List (Op × ℕ)) (last l : Last) → in_block ops last p ≡ Some (End l) → slice_get (pieces_from at regs to h n ops last) p ≡ Some (bare_piece [] (moved to l))
  piece_end h n zero [] last l e =
      let g : Some (End last) ≡ Some (End l) = e in
      let same : last ≡ l = cc in
      ap (λ z. Some (bare_piece [] (moved to z))) same
  piece_end h n (suc p) [] last l e = let f : None ≡ Some (End l) = e in absurd (cc)
  piece_end h n zero (x ∷ os) last l e = let f : Some (Do x.0 x.1) ≡ Some (End l) = e in absurd (cc)
  piece_end h n (suc p) (x ∷ os) last l e = piece_end h (suc n) p os last l e

  -- the home of a block, and its pieces among all
  pub home_there : (n b : ℕ) (bs : List Block) (k : Block) → slice_get bs b ≡ Some k → (m : ℕ) × (slice_get (homes_from n bs) b ≡ Some (home_of (n + m) k)) × ((j : ℕ) (x : Block) → slice_get (pieces_with at regs to k.handler (n + m) k.ops k.last) j ≡ Some x → slice_get (pieces_of at regs to n bs) (m + j) ≡ Some x)
  home_there n b [] k e = cc
  home_there n zero (y ∷ bs) k e =
      let same : y ≡ k = cc in
      let none : n ≡ n + 0 = omega arith in (
        0,
        ap (λ z. Some (home_of n z)) same ∙ ap (λ z. Some (home_of z k)) none,
        λ j x is.
            let zero_more : 0 + j ≡ j = omega arith in
            ap (slice_get (pieces_of at regs to n (y ∷ bs))) zero_more
            ∙ get_front (pieces_with at regs to y.handler n y.ops y.last) (pieces_of at regs to (n + size_of y) bs) j x
            (ap (λ (z : Block). slice_get (pieces_with at regs to z.handler n z.ops z.last) j) same ∙ ap (λ z. slice_get (pieces_with at regs to k.handler z k.ops k.last) j) none ∙ is),
      )
  home_there n (suc b) (y ∷ bs) k e =
      let h = home_there (n + size_of y) b bs k e in
      let more : (n + size_of y) + h.0 ≡ n + (size_of y + h.0) = omega arith in (
        size_of y + h.0,
        h.1 ∙ ap (λ z. Some (home_of z k)) more,
        λ j x is.
            let first = with_size y.handler n y.ops y.last in
            get_back (pieces_with at regs to y.handler n y.ops y.last) (pieces_of at regs to (n + size_of y) bs) (h.0 + j) ((size_of y + h.0) + j) (omega (arith, first))
            ∙ h.2 j x (ap (λ z. slice_get (pieces_with at regs to k.handler z k.ops k.last) j) more ∙ is),
      )

-- ---- what is kept of them

-- what stands behind an operation, by the end of its block where no operation does
behind_same : (at : ℕ → ℕ → Option Item) (e : Edge) (os : List (Op × ℕ)) (last : Last) → is_caught at e (option_map End (ahead os last)) ≡ is_caught at e (in_block os last 0)
behind_same at NoEdge os last = refl
behind_same at (Tests r) [] last = refl
behind_same at (TestsTwice r) [] last = refl
behind_same at Jumps [] last = refl
behind_same at (Tests r) (o ∷ os) last = refl
behind_same at (TestsTwice r) (o ∷ os) last = refl
behind_same at Jumps (o ∷ os) last = refl

more_size : {A : Type 0} (xs : List A) (x : A) → length (xs ++ x ∷ []) ≡ suc (length xs)
more_size [] x = refl
more_size (y ∷ xs) x = ap suc (more_size xs x)

module _ (at : ℕ → ℕ → Option Item) (regs : Declared) (to : ℕ → ℕ) where
  abbrev pub kept_from : ℕ → ℕ → List (Op × ℕ) → Last → List Steps
  kept_from h n ops last = map steps_of (pieces_from at regs to h n ops last)

  -- one operation more
  pub places_more : (h i : ℕ) (ops : List (Op × ℕ)) (last : Last) (x : Op × ℕ) (end : Option Last) (leaves : Bool) (piece : Steps) (before after whole : List Steps) → slice_get ops i ≡ Some x → end ≡ ahead (drop (i + 1) ops) last → leaves ≡ is_caught at (edge_of_op regs x.0) (option_map End end) → piece ≡ record { steps = step_over x.0 ∷ []; last = choice leaves (length regs) (to h) (length before + 1) } → after ≡ before ++ piece ∷ [] → before ++ kept_from h (length before) (drop i ops) last ≡ whole → after ++ kept_from h (length after) (drop (i + 1) ops) last ≡ whole
  places_more h i ops last x end leaves piece before after whole there behind caught is pushed so_far =
      let os = drop (i + 1) ops in
      let size : length after ≡ suc (length before) = ap length pushed ∙ more_size before piece in
      let next : length before + 1 ≡ suc (length before) = omega arith in
      let known : leaves ≡ is_caught at (edge_of_op regs x.0) (in_block os last 0) =
      caught ∙ ap (λ z. is_caught at (edge_of_op regs x.0) (option_map End z)) behind ∙ behind_same at (edge_of_op regs x.0) os last in
      let first : piece ≡ record { steps = step_over x.0 ∷ []; last = choice (is_caught at (edge_of_op regs x.0) (in_block os last 0)) (length regs) (to h) (suc (length before)) } =
      is
      ∙ ap (λ z. record { steps = step_over x.0 ∷ []; last = choice z (length regs) (to h) (length before + 1) }) known
      ∙ ap (λ z. record { steps = step_over x.0 ∷ []; last = choice (is_caught at (edge_of_op regs x.0) (in_block os last 0)) (length regs) (to h) z }) next in
      ap (λ z. after ++ kept_from h z os last) size
      ∙ ap (λ z. z ++ kept_from h (suc (length before)) os last) pushed
      ∙ append_assoc before (piece ∷ []) (kept_from h (suc (length before)) os last)
      ∙ ap (λ z. before ++ (z ∷ kept_from h (suc (length before)) os last)) first
      ∙ sym (ap (λ z. before ++ kept_from h (length before) z last) (drop_at ops i x there))
      ∙ so_far

  -- and the end
  pub places_done : (h i : ℕ) (ops : List (Op × ℕ)) (last : Last) (before whole : List Steps) → length ops ≤ i → before ++ kept_from h (length before) (drop i ops) last ≡ whole → before ++ record { steps = []; last = moved to last } ∷ [] ≡ whole
  places_done h i ops last before whole le so_far =
      sym (ap (λ z. before ++ kept_from h (length before) z last) (drop_all i ops le)) ∙ so_far

  abbrev pub kept_of : ℕ → List Block → List Steps
  kept_of n bs = map steps_of (pieces_of at regs to n bs)

  -- one block more
  pub pieces_more : (i : ℕ) (bs : List Block) (k : Block) (before after whole : List Steps) → slice_get bs i ≡ Some k → after ≡ before ++ map steps_of (pieces_with at regs to k.handler (length before) k.ops k.last) → before ++ kept_of (length before) (drop i bs) ≡ whole → after ++ kept_of (length after) (drop (i + 1) bs) ≡ whole
  pieces_more i bs k before after whole there pushed so_far =
      let rest = drop (i + 1) bs in
      let first = pieces_with at regs to k.handler (length before) k.ops k.last in
      let size : length after ≡ length before + size_of k =
      ap length pushed ∙ length-append before (map steps_of first) ∙ ap (λ z. length before + z) (length-map first steps_of ∙ with_size at regs to k.handler (length before) k.ops k.last) in
      ap (λ z. after ++ kept_of z rest) size
      ∙ ap (λ z. z ++ kept_of (length before + size_of k) rest) pushed
      ∙ append_assoc before (map steps_of first) (kept_of (length before + size_of k) rest)
      ∙ ap (λ z. before ++ z) (sym (map-append steps_of first (pieces_of at regs to (length before + size_of k) rest)))
      ∙ sym (ap (λ z. before ++ kept_of (length before) z) (drop_at bs i k there))
      ∙ so_far

  pub pieces_done : (i : ℕ) (bs : List Block) (before whole : List Steps) → length bs ≤ i → before ++ kept_of (length before) (drop i bs) ≡ whole → before ≡ whole
  pieces_done i bs before whole le so_far =
      sym (append-nil before) ∙ sym (ap (λ z. before ++ kept_of (length before) z) (drop_all i bs le)) ∙ so_far
