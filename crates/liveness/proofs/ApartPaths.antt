-- The paths of a function are those of its pieces.
use Rattle.std.proofs.Common.{◌≡◌, ℕ, zero, suc, ◌+◌, ◌-◌, ◌<◌, ◌≤◌, ◌⊎◌, Bool, true, false, List, [], ◌∷◌, ◌++◌, length, map, Option, Some, None, refl, sym, ap, ◌∙◌, subst, inl, inr, ⊎_elim, arith, min}
use Rattle.std.specs.Prelude.{slice_get, ◌↔◌}
use Rattle.std.specs.Option.{option_and_then}
use Rattle.std.proofs.lemmas.Option.{same_Some}
use Rattle.ir_core.specs.declared.code.RType.{RType}
use Rattle.ir_core.specs.declared.code.Op.{Op}
use Rattle.ir_core.specs.declared.code.Last.{Last}
use Rattle.ir_core.specs.declared.code.Last.TheVariants.{Goto, If, IfError, Return, Unreachable}
use Rattle.ir_core.specs.declared.code.Block.{Block}
use Rattle.ir_core.specs.declared.code.Func.{Func}
use Rattle.ir_core.specs.Bare.{IsBare}
use Rattle.ir_core.specs.Rows.{edge_of_op}
use Rattle.ir_core.specs.Items.{Item, Do, End, in_block, item_of, item_in, handler_of, handler_in}
use Rattle.liveness.specs.declared.apart.Home.{Home}
use Rattle.liveness.specs.declared.apart.Home.TheVariants.{Whole, Apart}
use Rattle.liveness.specs.Paths.{is_caught, reads, writes, gives_lent, targets, Goes, passes, fails, jumps, LiveAt, reads_here, goes_on, MetAt, entry, onward, OwnedAt, no_parameter, written, kept, BorrowedAt}
use Rattle.liveness.specs.Apart.{size_of, home_between, home_of, homes_from, pieces_in, first_in, piece_in, place_in, first_or, moved, bare_piece, choice, pieces_from, pieces_with, pieces_of, apart}
use Rattle.liveness.specs.Apart as spec
use Rattle.liveness.proofs.FloodLemmas.{among_one}
use Rattle.liveness.proofs.PathLemmas.{get_map, get_unmap}
use Rattle.liveness.proofs.OwnedLemmas.{get_none, below_or_not}
use Rattle.liveness.proofs.ApartLemmas.{behind_in, from_first, first_before, pieces_size, piece_do, piece_end, home_there}

-- ---- ends and operations

targets_moved : (to : ℕ → ℕ) (l : Last) → targets (moved to l) ≡ map to (targets l)
targets_moved to (Goto t) = refl
targets_moved to (If r a b) = refl
targets_moved to (IfError r e n line) = refl
targets_moved to (Return r) = refl
targets_moved to Unreachable = refl

next_index : (c : Bool) (spare a n : ℕ) → (i : ℕ) × (slice_get (targets (choice c spare a n)) i ≡ Some n)
next_index false spare a n = (0, refl)
next_index true spare a n = (1, refl)

handler_index : (c : Bool) (spare a n : ℕ) → c ≡ true → slice_get (targets (choice c spare a n)) 0 ≡ Some a
handler_index false spare a n e = cc
handler_index true spare a n e = refl

choice_target : (c : Bool) (spare a n i t : ℕ) → slice_get (targets (choice c spare a n)) i ≡ Some t → (t ≡ n) ⊎ ((c ≡ true) × (t ≡ a))
choice_target false spare a n zero t e = inl (sym (same_Some _ _ e))
choice_target false spare a n (suc i) t e = let f : None ≡ Some t = e in absurd (cc)
choice_target true spare a n zero t e = inr (refl, sym (same_Some _ _ e))
choice_target true spare a n (suc zero) t e = inl (sym (same_Some _ _ e))
choice_target true spare a n (suc (suc i)) t e = let f : None ≡ Some t = e in absurd (cc)

choice_reads : (c : Bool) (spare a n r : ℕ) → r < spare → reads (End (choice c spare a n)) r ≡ true → ⊥
choice_reads false spare a n r lt e = let f : false ≡ true = e in absurd (cc)
choice_reads true spare a n r lt e = let same = among_one spare r e in absurd (omega (arith, same, lt))

do_within : (ops : List (Op × ℕ)) (last : Last) (p : ℕ) (o : Op) {line : ℕ} → in_block ops last p ≡ Some (Do o line) → suc p ≤ length ops
do_within [] last zero o {line} e = let f : Some (End last) ≡ Some (Do o line) = e in absurd (cc)
do_within [] last (suc p) o {line} e = let f : None ≡ Some (Do o line) = e in absurd (cc)
do_within (x ∷ ops) last zero o e = omega arith
do_within (x ∷ ops) last (suc p) o e = omega (arith, do_within ops last p o e)

pub item_there : (ops : List (Op × ℕ)) (last : Last) (p : ℕ) → p ≤ length ops → (i : Item) × (in_block ops last p ≡ Some i)
item_there [] last zero le = (End last, refl)
item_there [] last (suc p) le = absurd (omega (arith, le))
item_there (x ∷ ops) last zero le = (Do x.0 x.1, refl)
item_there (x ∷ ops) last (suc p) le = item_there ops last p (omega (arith, le))

pub get_or_not : {A : Type 0} (xs : List A) (i : ℕ) → ((x : A) × (slice_get xs i ≡ Some x)) ⊎ (slice_get xs i ≡ None)
get_or_not [] i = inr refl
get_or_not (x ∷ xs) zero = inl (x, refl)
get_or_not (x ∷ xs) (suc i) = get_or_not xs i

get_parts : {A : Type 0} (xs ys : List A) (j : ℕ) (z : A) → slice_get (xs ++ ys) j ≡ Some z → (slice_get xs j ≡ Some z) ⊎ ((k : ℕ) × (slice_get ys k ≡ Some z))
get_parts [] ys j z e = inr (j, e)
get_parts (x ∷ xs) ys zero z e = inl e
get_parts (x ∷ xs) ys (suc j) z e = get_parts xs ys j z e

pub homes_none : (n : ℕ) (bs : List Block) (b : ℕ) → slice_get bs b ≡ None → slice_get (homes_from n bs) b ≡ None
homes_none n [] b e = refl
homes_none n (k ∷ bs) zero e = cc
homes_none n (k ∷ bs) (suc b) e = homes_none (n + size_of k) bs b e

-- ---- what stands in pieces

abbrev pub moved_item : (ℕ → ℕ) → Item → Item
moved_item to (Do o line) = Do o line
moved_item to (End l) = End (moved to l)

moved_reads : (to : ℕ → ℕ) (i : Item) (r : ℕ) → reads (moved_item to i) r ≡ reads i r
moved_reads to (Do o line) r = refl
moved_reads to (End (Goto t)) r = refl
moved_reads to (End (If s a b)) r = refl
moved_reads to (End (IfError s e n line)) r = refl
moved_reads to (End (Return s)) r = refl
moved_reads to (End Unreachable) r = refl

moved_writes : (to : ℕ → ℕ) (i : Item) (r : ℕ) → writes (moved_item to i) r ≡ writes i r
moved_writes to (Do o line) r = refl
moved_writes to (End l) r = refl

moved_lent : (to : ℕ → ℕ) (i : Item) → gives_lent (moved_item to i) ≡ gives_lent i
moved_lent to (Do o line) = refl
moved_lent to (End l) = refl

item_moved : (to : ℕ → ℕ) (ops : List (Op × ℕ)) (last : Last) (p : ℕ) (i : Item) → in_block ops last p ≡ Some i → in_block ops (moved to last) p ≡ Some (moved_item to i)
item_moved to [] last zero i e = let same : End last ≡ i = same_Some _ _ e in ap (λ z. Some (moved_item to z)) same
item_moved to [] last (suc p) i e = let f : None ≡ Some i = e in absurd (cc)
item_moved to (x ∷ ops) last zero i e = let same : Do x.0 x.1 ≡ i = same_Some _ _ e in ap (λ z. Some (moved_item to z)) same
item_moved to (x ∷ ops) last (suc p) i e = item_moved to ops last p i e

pieces_bare : (at : ℕ → ℕ → Option Item) (regs : List (List ℕ × RType)) (to : ℕ → ℕ) (h n : ℕ) (ops : List (Op × ℕ)) (last : Last) (j : ℕ) (k : Block) → slice_get (pieces_from at regs to h n ops last) j ≡ Some k → k.handler ≡ None
pieces_bare at regs to h n [] last zero k e = ap (λ (z : Block). z.handler) (sym (same_Some _ _ e))
pieces_bare at regs to h n [] last (suc j) k e = let f : None ≡ Some k = e in absurd (cc)
pieces_bare at regs to h n (x ∷ ops) last zero k e = ap (λ (z : Block). z.handler) (sym (same_Some _ _ e))
pieces_bare at regs to h n (x ∷ ops) last (suc j) k e = pieces_bare at regs to h (suc n) ops last j k e

with_bare : (at : ℕ → ℕ → Option Item) (regs : List (List ℕ × RType)) (to : ℕ → ℕ) (h : Option ℕ) (n : ℕ) (ops : List (Op × ℕ)) (last : Last) (j : ℕ) (k : Block) → slice_get (pieces_with at regs to h n ops last) j ≡ Some k → k.handler ≡ None
with_bare at regs to None n ops last zero k e = ap (λ (z : Block). z.handler) (sym (same_Some _ _ e))
with_bare at regs to None n ops last (suc j) k e = let f : None ≡ Some k = e in absurd (cc)
with_bare at regs to (Some h) n ops last j k e = pieces_bare at regs to h n ops last j k e

all_bare : (at : ℕ → ℕ → Option Item) (regs : List (List ℕ × RType)) (to : ℕ → ℕ) (n : ℕ) (bs : List Block) (j : ℕ) (k : Block) → slice_get (pieces_of at regs to n bs) j ≡ Some k → k.handler ≡ None
all_bare at regs to n [] j k e = let f : None ≡ Some k = e in absurd (cc)
all_bare at regs to n (b ∷ bs) j k e =
    ⊎_elim
    (λ a. with_bare at regs to b.handler n b.ops b.last j k a)
    (λ a. all_bare at regs to (n + size_of b) bs a.0 k a.1)
    (get_parts (pieces_with at regs to b.handler n b.ops b.last) (pieces_of at regs to (n + size_of b) bs) j k e)

pub apart_is_bare : (f : Func) → IsBare (apart f)
apart_is_bare f x h e =
    ⊎_elim
    (λ a.
    let none = all_bare (item_in f.blocks) f.regs (spec.entry f.blocks) 0 f.blocks x a.0 a.1 in
    let clash : None ≡ Some h = sym none ∙ sym (ap (option_and_then handler_of) a.1) ∙ e in
    absurd (cc))
    (λ a. let clash : None ≡ Some h = sym (ap (option_and_then handler_of) a) ∙ e in absurd (cc))
    (get_or_not (apart f).blocks x)

-- ---- where places stand

-- place p of block b is place y of piece x: in a block that is one piece, or alone in its piece. What is outside of the function stands
-- outside of its pieces
pub data Stands (f : Func) (b p x y : ℕ) : Type 0 where
  stays : (k : Block) → slice_get f.blocks b ≡ Some k → k.handler ≡ None → slice_get (homes_from 0 f.blocks) b ≡ Some (Whole x) → p ≤ length k.ops → slice_get (apart f).blocks x ≡ Some (bare_piece k.ops (moved (spec.entry f.blocks) k.last)) → y ≡ p → Stands f b p x y
  alone : (k : Block) (h n : ℕ) → slice_get f.blocks b ≡ Some k → k.handler ≡ Some h → slice_get (homes_from 0 f.blocks) b ≡ Some (Apart n (n + suc (length k.ops))) → p ≤ length k.ops → ((j : ℕ) (z : Block) → slice_get (pieces_from (item_in f.blocks) f.regs (spec.entry f.blocks) h n k.ops k.last) j ≡ Some z → slice_get (apart f).blocks (n + j) ≡ Some z) → x ≡ n + p → y ≡ 0 → Stands f b p x y
  outside : slice_get f.blocks b ≡ None → x ≡ pieces_in f.blocks → p ≡ 0 → y ≡ 0 → Stands f b p x y

-- an operation alone in its piece x, and where one goes behind it
pub record Passing (f : Func) (b p x : ℕ) : Type 0 where
  pub h : ℕ
  pub o : Op
  pub line : ℕ
  pub at : item_in f.blocks b p ≡ Some (Do o line)
  pub handler : handler_in f.blocks b ≡ Some h
  pub here : Stands f b p x 0
  pub start : item_in (apart f).blocks x 0 ≡ Some (Do o line)
  pub end : item_in (apart f).blocks x 1 ≡ Some (End (choice (is_caught (item_in f.blocks) (edge_of_op f.regs o) (item_in f.blocks b (suc p))) (length f.regs) (spec.entry f.blocks h) (suc x)))
  pub next : Stands f b (suc p) (suc x) 0

-- what stands at a place of a block, and in its piece
pub data View (f : Func) (b p x y : ℕ) (i : Item) : Type 0 where
  at_op : (o : Op) (line : ℕ) → i ≡ Do o line → item_in (apart f).blocks x y ≡ Some (Do o line) → handler_in f.blocks b ≡ None → Stands f b (suc p) x (suc y) → View f b p x y i
  at_pass : (m : Passing f b p x) → i ≡ Do m.o m.line → y ≡ 0 → View f b p x y i
  at_end : (l : Last) → i ≡ End l → item_in (apart f).blocks x y ≡ Some (End (moved (spec.entry f.blocks) l)) → View f b p x y i

module _ (f : Func) where
  abbrev to : ℕ → ℕ
  to = spec.entry f.blocks

  abbrev homes : List Home
  homes = homes_from 0 f.blocks

  abbrev all : List Block
  all = (apart f).blocks

  -- ---- the numbers

  abbrev pub number_of : Option Home → ℕ → ℕ
  number_of None p = pieces_in f.blocks
  number_of (Some home) p = piece_in home p

  abbrev pub offset_of : Option Home → ℕ → ℕ
  offset_of None p = 0
  offset_of (Some home) p = place_in home p

  pub stands_number : (b p x y : ℕ) → Stands f b p x y → (x ≡ number_of (slice_get homes b) p) × (y ≡ offset_of (slice_get homes b) p)
  stands_number b p x y (stays k is none home le piece same) =
      (sym (ap (λ z. number_of z p) home), same ∙ sym (ap (λ z. offset_of z p) home))
  stands_number b p x y (alone k h n is some home le pieces at same) =
      let number : n + min p ((n + suc (length k.ops)) - n) ≡ n + p = omega (arith, le) in
      (at ∙ sym number ∙ sym (ap (λ z. number_of z p) home), same ∙ sym (ap (λ z. offset_of z p) home))
  stands_number b p x y (outside none at first same) =
      let no_home = homes_none 0 f.blocks b none in
      (at ∙ sym (ap (λ z. number_of z p) no_home), same ∙ sym (ap (λ z. offset_of z p) no_home))

  begins : (home : Option Home) → (number_of home 0 ≡ first_or (pieces_in f.blocks) home) × (offset_of home 0 ≡ 0)
  begins None = (refl, refl)
  begins (Some (Whole n)) = (refl, refl)
  begins (Some (Apart n e)) = let same : n + min 0 (e - n) ≡ n = omega arith in (same, refl)

  pub block_stands : (b p : ℕ) (k : Block) → slice_get f.blocks b ≡ Some k → p ≤ length k.ops → (x : ℕ) × (y : ℕ) × Stands f b p x y
  block_stands b p k is le = by_handler k.handler refl
    where
      there : (m : ℕ) × (slice_get homes b ≡ Some (home_of (0 + m) k)) × ((j : ℕ) (x : Block) → slice_get (pieces_with (item_in f.blocks) f.regs to k.handler (0 + m) k.ops k.last) j ≡ Some x → slice_get all (m + j) ≡ Some x)
      there = home_there (item_in f.blocks) f.regs to 0 b f.blocks k is

      by_handler : (h : Option ℕ) → k.handler ≡ h → (x : ℕ) × (y : ℕ) × Stands f b p x y
      by_handler None e =
          let m = there.0 in
          let none : 0 + m ≡ m = omega arith in
          let none_more : m + 0 ≡ m = omega arith in
          let home : slice_get homes b ≡ Some (Whole m) = there.1 ∙ ap (λ z. Some (home_between z (0 + m) ((0 + m) + spec.size_with z (length k.ops)))) e ∙ ap (λ z. Some (Whole z)) none in
          let piece : slice_get all (m + 0) ≡ Some (bare_piece k.ops (moved to k.last)) = there.2 0 (bare_piece k.ops (moved to k.last)) (ap (λ z. slice_get (pieces_with (item_in f.blocks) f.regs to z (0 + m) k.ops k.last) 0) e) in
          (m, p, stays k is e home le (sym (ap (slice_get all) none_more) ∙ piece) refl)
      by_handler (Some h) e =
          let m = there.0 in
          let none : 0 + m ≡ m = omega arith in
          let home : slice_get homes b ≡ Some (Apart m (m + suc (length k.ops))) = there.1 ∙ ap (λ z. Some (home_between z (0 + m) ((0 + m) + spec.size_with z (length k.ops)))) e ∙ ap (λ z. Some (Apart z (z + suc (length k.ops)))) none in
          (m + p, 0, alone k h m is e home le (λ j z at. there.2 j z (ap (λ a. slice_get (pieces_with (item_in f.blocks) f.regs to a (0 + m) k.ops k.last) j) e ∙ ap (λ a. slice_get (pieces_from (item_in f.blocks) f.regs to h a k.ops k.last) j) none ∙ at)) refl refl)

  -- a block begins at its entry
  pub entry_stands : (t : ℕ) → Stands f t 0 (to t) 0
  entry_stands t =
      ⊎_elim
      (λ a. placed (block_stands t 0 a.0 a.1 (omega arith)))
      (λ a. placed (pieces_in f.blocks, 0, outside a refl refl refl))
      (get_or_not f.blocks t)
    where
      placed : (x : ℕ) × (y : ℕ) × Stands f t 0 x y → Stands f t 0 (to t) 0
      placed s =
          let at = stands_number t 0 s.0 s.1 s.2 in
          let first = begins (slice_get homes t) in
          subst (λ z. Stands f t 0 z 0) (at.0 ∙ first.0) (subst (λ z. Stands f t 0 s.0 z) (at.1 ∙ first.1) s.2)

  -- ---- what stands there

  was_in : (b p : ℕ) (k : Block) (i : Item) → slice_get f.blocks b ≡ Some k → item_in f.blocks b p ≡ Some i → in_block k.ops k.last p ≡ Some i
  was_in b p k i is e = sym (ap (λ z. item_of z p) is) ∙ e

  handler_at : (b : ℕ) (k : Block) (h : Option ℕ) → slice_get f.blocks b ≡ Some k → k.handler ≡ h → handler_in f.blocks b ≡ h
  handler_at b k h is e = ap (option_and_then handler_of) is ∙ e

  piece_item : (x y z : ℕ) (k : Block) (i : Item) → slice_get all x ≡ Some k → in_block k.ops k.last z ≡ Some i → y ≡ z → item_in all x y ≡ Some i
  piece_item x y z k i is e same = ap (item_in all x) same ∙ ap (λ a. item_of a z) is ∙ e

  pub view : (b p x y : ℕ) (i : Item) → Stands f b p x y → item_in f.blocks b p ≡ Some i → View f b p x y i
  view b p x y (Do o line) (stays k is none home le piece same) e =
      let e2 = was_in b p k (Do o line) is e in
      at_op o line refl (piece_item x y p (bare_piece k.ops (moved to k.last)) (Do o line) piece (item_moved to k.ops k.last p (Do o line) e2) same) (handler_at b k None is none) (stays k is none home (do_within k.ops k.last p o e2) piece (ap suc same))
  view b p x y (End l) (stays k is none home le piece same) e =
      at_end l refl (piece_item x y p (bare_piece k.ops (moved to k.last)) (End (moved to l)) piece (item_moved to k.ops k.last p (End l) (was_in b p k (End l) is e)) same)
  view b p x y (Do o line) (alone k h n is some home le pieces at same) e =
      let e2 = was_in b p k (Do o line) is e in
      let piece = piece_do (item_in f.blocks) f.regs to h n p x k.ops k.last o e2 at in
      let placed : slice_get all x ≡ Some (bare_piece (piece.0 ∷ []) (choice (is_caught (item_in f.blocks) (edge_of_op f.regs piece.0.0) (in_block k.ops k.last (suc p))) (length f.regs) (to h) (suc x))) =
      ap (slice_get all) at ∙ pieces p _ piece.3 in
      at_pass (record {
        h = h;
        o = o;
        line = line;
        at = e;
        handler = handler_at b k (Some h) is some;
        here = alone k h n is some home le pieces at refl;
        start = ap (λ z. item_of z 0) placed ∙ piece.2;
        end = ap (λ z. item_of z 1) placed
            ∙ ap (λ z. Some (End (choice (is_caught (item_in f.blocks) (edge_of_op f.regs z) (in_block k.ops k.last (suc p))) (length f.regs) (to h) (suc x)))) piece.1
            ∙ ap (λ z. Some (End (choice (is_caught (item_in f.blocks) (edge_of_op f.regs o) z) (length f.regs) (to h) (suc x)))) (sym (ap (λ z. item_of z (suc p)) is));
        next = alone k h n is some home (do_within k.ops k.last p o e2) pieces (omega (arith, at)) refl;
      }) refl same
  view b p x y (End l) (alone k h n is some home le pieces at same) e =
      let piece = piece_end (item_in f.blocks) f.regs to h n p k.ops k.last l (was_in b p k (End l) is e) in
      at_end l refl (piece_item x y 0 (bare_piece [] (moved to l)) (End (moved to l)) (ap (slice_get all) at ∙ pieces p _ piece) refl same)
  view b p x y i (outside none at first same) e =
      let clash : None ≡ Some i = sym (ap (λ z. item_of z p) none) ∙ e in absurd (cc)

  pub view_item : (b p x y : ℕ) (i : Item) → View f b p x y i → item_in all x y ≡ Some (moved_item to i)
  view_item b p x y i (at_op o line same item none next) = item ∙ ap (λ z. Some (moved_item to z)) (sym same)
  view_item b p x y i (at_pass m same first) =
      ap (item_in all x) first ∙ m.start ∙ ap (λ z. Some (moved_item to z)) (sym same)
  view_item b p x y i (at_end l same item) = item ∙ ap (λ z. Some (moved_item to z)) (sym same)

  -- what a piece has, the block has
  item_back : (b p x y : ℕ) (j : Item) → Stands f b p x y → item_in all x y ≡ Some j → (i : Item) × (item_in f.blocks b p ≡ Some i)
  item_back b p x y j (stays k is none home le piece same) e =
      let i = item_there k.ops k.last p le in (i.0, ap (λ z. item_of z p) is ∙ i.1)
  item_back b p x y j (alone k h n is some home le pieces at same) e =
      let i = item_there k.ops k.last p le in (i.0, ap (λ z. item_of z p) is ∙ i.1)
  item_back b p x y j (outside none at first same) e =
      let size = pieces_size (item_in f.blocks) f.regs to 0 f.blocks in
      let nothing = get_none all x (omega (arith, at, size)) in
      let clash : None ≡ Some j = sym (ap (λ z. item_of z y) nothing) ∙ e in
      absurd (cc)

  -- ---- one step there, which is one step or two over the pieces

  pub data Way (x y u v : ℕ) : Type 0 where
    straight : Goes (apart f) x y u v → Way x y u v
    over : (l : Last) → item_in all x 1 ≡ Some (End l) → Goes (apart f) x y x 1 → Goes (apart f) x 1 u v → Way x y u v

  -- from an operation alone in its piece one goes over the piece's end
  pass_over : (b p x y u i : ℕ) (m : Passing f b p x) → y ≡ 0 → slice_get (targets (choice (is_caught (item_in f.blocks) (edge_of_op f.regs m.o) (item_in f.blocks b (suc p))) (length f.regs) (to m.h) (suc x))) i ≡ Some u → Way x y u 0
  pass_over b p x y u i m first at =
      let last = choice (is_caught (item_in f.blocks) (edge_of_op f.regs m.o) (item_in f.blocks b (suc p))) (length f.regs) (to m.h) (suc x) in
      over last m.end (subst (λ z. Goes (apart f) x z x 1) (sym first) (passes x 0 m.o m.start)) (jumps x 1 i u last m.end at)

  pub go_there : (b p c q : ℕ) → Goes f b p c q → (x y : ℕ) → Stands f b p x y → (u : ℕ) × (v : ℕ) × Stands f c q u v × Way x y u v
  go_there b p c q (passes b2 p2 o {line} e) x y st = by_view (view b p x y (Do o line) st e)
    where
      by_view : View f b p x y (Do o line) → (u : ℕ) × (v : ℕ) × Stands f b (suc p) u v × Way x y u v
      by_view (at_op o2 line2 same item none next) = (x, suc y, next, straight (passes x y o2 item))
      by_view (at_pass m same first) =
          let i = next_index (is_caught (item_in f.blocks) (edge_of_op f.regs m.o) (item_in f.blocks b (suc p))) (length f.regs) (to m.h) (suc x) in
          (suc x, 0, m.next, pass_over b p x y (suc x) i.0 m first i.1)
      by_view (at_end l same item) = cc
  go_there b p c q (fails b2 p2 h o {line} e caught at) x y st = by_view (view b p x y (Do o line) st e)
    where
      by_view : View f b p x y (Do o line) → (u : ℕ) × (v : ℕ) × Stands f h 0 u v × Way x y u v
      by_view (at_op o2 line2 same item none next) =
          let clash : None ≡ Some h = sym none ∙ at in absurd (cc)
      by_view (at_pass m same first) =
          let which : h ≡ m.h = same_Some _ _ (sym at ∙ m.handler) in
          let op : o ≡ m.o = cc in
          let caught_here : is_caught (item_in f.blocks) (edge_of_op f.regs m.o) (item_in f.blocks b (suc p)) ≡ true = ap (λ z. is_caught (item_in f.blocks) (edge_of_op f.regs z) (item_in f.blocks b (suc p))) (sym op) ∙ caught in
          let i = handler_index (is_caught (item_in f.blocks) (edge_of_op f.regs m.o) (item_in f.blocks b (suc p))) (length f.regs) (to m.h) (suc x) caught_here in
          (to h, 0, entry_stands h, pass_over b p x y (to h) 0 m first (i ∙ ap (λ z. Some (to z)) (sym which)))
      by_view (at_end l same item) = cc
  go_there b p c q (jumps b2 p2 i t l e at) x y st = by_view (view b p x y (End l) st e)
    where
      by_view : View f b p x y (End l) → (u : ℕ) × (v : ℕ) × Stands f t 0 u v × Way x y u v
      by_view (at_op o line same item none next) = cc
      by_view (at_pass m same first) = cc
      by_view (at_end l2 same item) =
          let end : l ≡ l2 = cc in
          (to t, 0, entry_stands t, straight (jumps x y i (to t) (moved to l2) item (ap (λ z. slice_get z i) (targets_moved to l2) ∙ get_map to (targets l2) i t (ap (λ z. slice_get (targets z) i) (sym end) ∙ at))))

  -- ---- and back

  abbrev Behind : ℕ → ℕ → ℕ → ℕ → Type 0
  Behind b p u v = (c : ℕ) × (q : ℕ) × Goes f b p c q × Stands f c q u v

  two_items : (x y : ℕ) (i j : Item) → item_in all x y ≡ Some i → item_in all x y ≡ Some j → i ≡ j
  two_items x y i j e h = same_Some _ _ (sym e ∙ h)

  pub go_back : (b p x y u v : ℕ) (i : Item) → item_in f.blocks b p ≡ Some i → View f b p x y i → Goes (apart f) x y u v → Behind b p u v ⊎ ((u ≡ x) × (v ≡ 1) × Passing f b p x)
  go_back b p x y u v i is (at_op o line same item none next) (passes x2 y2 o2 e) =
      inl (b, suc p, passes b p o (is ∙ ap (λ z. Some z) same), next)
  go_back b p x y u v i is (at_pass m same first) (passes x2 y2 o2 e) = inr (refl, ap suc first, m)
  go_back b p x y u v i is (at_end l same item) (passes x2 y2 o2 {line} e) =
      let clash : Do o2 line ≡ End (moved to l) = two_items x y _ _ e item in absurd (cc)
  go_back b p x y u v i is w (fails x2 y2 h o e caught at) = absurd (apart_is_bare f x h at)
  go_back b p x y u v i is (at_op o line same item none next) (jumps x2 y2 n t l e at) =
      let clash : Do o line ≡ End l = two_items x y _ _ item e in absurd (cc)
  go_back b p x y u v i is (at_pass m same first) (jumps x2 y2 n t l e at) =
      let clash : Do m.o m.line ≡ End l = two_items x y _ _ (ap (item_in all x) first ∙ m.start) e in absurd (cc)
  go_back b p x y u v i is (at_end l2 same item) (jumps x2 y2 n t l e at) =
      let both : End l ≡ End (moved to l2) = two_items x y _ _ e item in
      let end : l ≡ moved to l2 = cc in
      let there = get_unmap to (targets l2) n t (sym (ap (λ z. slice_get z n) (targets_moved to l2)) ∙ ap (λ z. slice_get (targets z) n) (sym end) ∙ at) in
      inl (there.0, 0, jumps b p n there.0 l2 (is ∙ ap (λ z. Some z) same) there.1, subst (λ z. Stands f there.0 0 z 0) there.2 (entry_stands there.0))

  pub pass_back : (b p x y u v : ℕ) → Passing f b p x → y ≡ 1 → Goes (apart f) x y u v → Behind b p u v
  pass_back b p x y u v m one (passes x2 y2 o2 {line} e) =
      let clash : Do o2 line ≡ End (choice (is_caught (item_in f.blocks) (edge_of_op f.regs m.o) (item_in f.blocks b (suc p))) (length f.regs) (to m.h) (suc x)) = two_items x y _ _ e (ap (item_in all x) one ∙ m.end) in
      absurd (cc)
  pass_back b p x y u v m one (fails x2 y2 h o e caught at) = absurd (apart_is_bare f x h at)
  pass_back b p x y u v m one (jumps x2 y2 n t l e at) =
      let caught : Bool = is_caught (item_in f.blocks) (edge_of_op f.regs m.o) (item_in f.blocks b (suc p)) in
      let both : End l ≡ End (choice caught (length f.regs) (to m.h) (suc x)) = two_items x y _ _ e (ap (item_in all x) one ∙ m.end) in
      let end : l ≡ choice caught (length f.regs) (to m.h) (suc x) = cc in
      ⊎_elim
      (λ a. (b, suc p, passes b p m.o m.at, subst (λ z. Stands f b (suc p) z 0) (sym a) m.next))
      (λ a. (m.h, 0, fails b p m.h m.o m.at a.0 m.handler, subst (λ z. Stands f m.h 0 z 0) (sym a.1) (entry_stands m.h)))
      (choice_target caught (length f.regs) (to m.h) (suc x) n t (ap (λ z. slice_get (targets z) n) (sym end) ∙ at))

  goes_item : (x y u v : ℕ) → Goes (apart f) x y u v → (i : Item) × (item_in all x y ≡ Some i)
  goes_item x y u v (passes x2 y2 o {line} e) = (Do o line, e)
  goes_item x y u v (fails x2 y2 h o {line} e caught at) = (Do o line, e)
  goes_item x y u v (jumps x2 y2 i t l e at) = (End l, e)

  -- ---- what is read again

  pub live_there : (r b p : ℕ) → LiveAt f r b p → (x y : ℕ) → Stands f b p x y → LiveAt (apart f) r x y
  live_there r b p (reads_here b2 p2 i e a) x y st =
      reads_here x y (moved_item to i) (view_item b p x y i (view b p x y i st e)) (moved_reads to i r ∙ a)
  live_there r b p (goes_on b2 p2 c q i e w to_c on) x y st =
      let there = go_there b p c q to_c x y st in
      by_way there.0 there.1 there.3 (live_there r c q on there.0 there.1 there.2)
    where
      item : item_in all x y ≡ Some (moved_item to i)
      item = view_item b p x y i (view b p x y i st e)

      by_way : (u v : ℕ) → Way x y u v → LiveAt (apart f) r u v → LiveAt (apart f) r x y
      by_way u v (straight g) live =
          goes_on x y u v (moved_item to i) item (moved_writes to i r ∙ w) g live
      by_way u v (over l end first second) live =
          goes_on x y x 1 (moved_item to i) item (moved_writes to i r ∙ w) first (goes_on x 1 u v (End l) end refl second live)

  live_item : (r x y : ℕ) → LiveAt (apart f) r x y → (i : Item) × (item_in all x y ≡ Some i)
  live_item r x y (reads_here x2 y2 i e a) = (i, e)
  live_item r x y (goes_on x2 y2 u v i e w g on) = (i, e)

  -- from a place of a block, and from the end of the piece of an operation
  record IsLive (r x y : ℕ) : Type 0 where
    at_place : (b p : ℕ) (i : Item) → Stands f b p x y → item_in f.blocks b p ≡ Some i → LiveAt f r b p
    at_passing : (b p : ℕ) → Passing f b p x → y ≡ 1 → (c : ℕ) × (q : ℕ) × Goes f b p c q × LiveAt f r c q

  live_back : (r x y : ℕ) → r < length f.regs → LiveAt (apart f) r x y → IsLive r x y
  live_back r x y lt (reads_here x2 y2 j e a) = record {
    at_place = λ b p i st is.
        let same : moved_item to i ≡ j = two_items x y _ _ (view_item b p x y i (view b p x y i st is)) e in
        reads_here b p i is (sym (moved_reads to i r) ∙ ap (λ z. reads z r) same ∙ a);
    at_passing = λ b p m one.
        let same = two_items x y _ _ (ap (item_in all x) one ∙ m.end) e in
        absurd (choice_reads (is_caught (item_in f.blocks) (edge_of_op f.regs m.o) (item_in f.blocks b (suc p))) (length f.regs) (to m.h) (suc x) r lt (ap (λ z. reads z r) same ∙ a));
  }
  live_back r x y lt (goes_on x2 y2 u v j e w g on) =
      let rest = live_back r u v lt on in
      let item = live_item r u v on in
      let behind : (b p : ℕ) → Behind b p u v → (c : ℕ) × (q : ℕ) × Goes f b p c q × LiveAt f r c q = λ b p to_c.
      let there = item_back to_c.0 to_c.1 u v item.0 to_c.3 item.1 in
      (to_c.0, to_c.1, to_c.2, rest.at_place to_c.0 to_c.1 there.0 to_c.3 there.1) in record {
        at_place = λ b p i st is.
            let seen = view b p x y i st is in
            let same : moved_item to i ≡ j = two_items x y _ _ (view_item b p x y i seen) e in
            let past : writes i r ≡ false = sym (moved_writes to i r) ∙ ap (λ z. writes z r) same ∙ w in
            let next : (c : ℕ) × (q : ℕ) × Goes f b p c q × LiveAt f r c q = ⊎_elim (λ a. behind b p a) (λ a. rest.at_passing b p (subst (Passing f b p) (sym a.0) a.2) a.1) (go_back b p x y u v i is seen g) in
            goes_on b p next.0 next.1 i is past next.2 next.3;
        at_passing = λ b p m one. behind b p (pass_back b p x y u v m one g);
      }

  pub live_same : (r b p : ℕ) (i : Item) → r < length f.regs → item_in f.blocks b p ≡ Some i → (x y : ℕ) → Stands f b p x y → LiveAt (apart f) r x y ↔ LiveAt f r b p
  live_same r b p i lt is x y st =
      (λ live. (live_back r x y lt live).at_place b p i st is, λ live. live_there r b p live x y st)

  -- ---- where paths come

  first_begins : to 0 ≡ 0
  first_begins = by_blocks f.blocks
    where
      by_block : (h : Option ℕ) (e : ℕ) → first_in (home_between h 0 e) ≡ 0
      by_block None e = refl
      by_block (Some h) e = refl

      by_blocks : (bs : List Block) → first_or (pieces_in bs) (slice_get (homes_from 0 bs) 0) ≡ 0
      by_blocks [] = refl
      by_blocks (k ∷ bs) = by_block k.handler (0 + size_of k)

  first_stands : Stands f 0 0 0 0
  first_stands = subst (λ z. Stands f 0 0 z 0) first_begins (entry_stands 0)

  met_there : (b p : ℕ) → MetAt f b p → (x : ℕ) × (y : ℕ) × Stands f b p x y × MetAt (apart f) x y
  met_there b p entry = (0, 0, first_stands, entry)
  met_there b p (onward a o c q m g) =
      let was = met_there a o m in
      let there = go_there a o b p g was.0 was.1 was.2 in
      (there.0, there.1, there.2, by_way there.0 there.1 there.3 was.3)
    where
      by_way : {x y : ℕ} (u v : ℕ) → Way x y u v → MetAt (apart f) x y → MetAt (apart f) u v
      by_way {x = x} {y = y} u v (straight to_u) met = onward x y u v met to_u
      by_way {x = x} {y = y} u v (over l end first second) met =
          onward x 1 u v (onward x y x 1 met first) second

  owned_there : (r b p : ℕ) → OwnedAt f r b p → (x : ℕ) × (y : ℕ) × Stands f b p x y × OwnedAt (apart f) r x y
  owned_there r b p (no_parameter le) = (0, 0, first_stands, no_parameter le)
  owned_there r b p (written a o c q i m e w lent g) =
      let was = met_there a o m in
      let there = go_there a o b p g was.0 was.1 was.2 in
      (there.0, there.1, there.2, by_way was.0 was.1 was.2 was.3 there.0 there.1 there.3)
    where
      by_way : (x y : ℕ) → Stands f a o x y → MetAt (apart f) x y → (u v : ℕ) → Way x y u v → OwnedAt (apart f) r u v
      by_way x y st met u v (straight to_u) =
          written x y u v (moved_item to i) met (view_item a o x y i (view a o x y i st e)) (moved_writes to i r ∙ w) (moved_lent to i ∙ lent) to_u
      by_way x y st met u v (over l end first second) =
          kept x 1 u v (End l) (written x y x 1 (moved_item to i) met (view_item a o x y i (view a o x y i st e)) (moved_writes to i r ∙ w) (moved_lent to i ∙ lent) first) end refl second
  owned_there r b p (kept a o c q i on e w g) =
      let was = owned_there r a o on in
      let there = go_there a o b p g was.0 was.1 was.2 in
      (there.0, there.1, there.2, by_way was.0 was.1 was.2 was.3 there.0 there.1 there.3)
    where
      by_way : (x y : ℕ) → Stands f a o x y → OwnedAt (apart f) r x y → (u v : ℕ) → Way x y u v → OwnedAt (apart f) r u v
      by_way x y st owned u v (straight to_u) =
          kept x y u v (moved_item to i) owned (view_item a o x y i (view a o x y i st e)) (moved_writes to i r ∙ w) to_u
      by_way x y st owned u v (over l end first second) =
          kept x 1 u v (End l) (kept x y x 1 (moved_item to i) owned (view_item a o x y i (view a o x y i st e)) (moved_writes to i r ∙ w) first) end refl second

  -- what holds at a place of a block, or at the end of the piece of an operation
  abbrev AtPlace : (ℕ → ℕ → Type 0) → ℕ → ℕ → Type 0
  AtPlace Holds x y = (b : ℕ) × (p : ℕ) × Stands f b p x y × Holds b p

  abbrev AtPassing : (ℕ → ℕ → Type 0) → ℕ → ℕ → Type 0
  AtPassing Holds x y = (b : ℕ) × (p : ℕ) × Passing f b p x × (y ≡ 1) × Holds b p

  met_back : (x y : ℕ) → MetAt (apart f) x y → AtPlace (MetAt f) x y ⊎ AtPassing (MetAt f) x y
  met_back x y entry = inl (0, 0, first_stands, entry)
  met_back x y (onward a o u v m g) =
      ⊎_elim
      (λ s.
      let j = goes_item a o x y g in
      let i = item_back s.0 s.1 a o j.0 s.2 j.1 in
      ⊎_elim
      (λ t. inl (t.0, t.1, t.3, onward s.0 s.1 t.0 t.1 s.3 t.2))
      (λ t. inr (s.0, s.1, subst (Passing f s.0 s.1) (sym t.0) t.2, t.1, s.3))
      (go_back s.0 s.1 a o x y i.0 i.1 (view s.0 s.1 a o i.0 s.2 i.1) g))
      (λ s.
      let t = pass_back s.0 s.1 a o x y s.2 s.3 g in
      inl (t.0, t.1, t.3, onward s.0 s.1 t.0 t.1 s.4 t.2))
      (met_back a o m)

  abbrev Goes_owned : ℕ → ℕ → ℕ → Type 0
  Goes_owned r b p = (c q : ℕ) → Goes f b p c q → OwnedAt f r c q

  owned_on : (r a o x y b p : ℕ) (i : Item) → Stands f b p a o → item_in f.blocks b p ≡ Some i → Goes_owned r b p → Goes (apart f) a o x y → AtPlace (OwnedAt f r) x y ⊎ AtPassing (Goes_owned r) x y
  owned_on r a o x y b p i st is pending g =
      ⊎_elim
      (λ t. inl (t.0, t.1, t.3, pending t.0 t.1 t.2))
      (λ t. inr (b, p, subst (Passing f b p) (sym t.0) t.2, t.1, pending))
      (go_back b p a o x y i is (view b p a o i st is) g)

  owned_back : (r x y : ℕ) → OwnedAt (apart f) r x y → AtPlace (OwnedAt f r) x y ⊎ AtPassing (Goes_owned r) x y
  owned_back r x y (no_parameter le) = inl (0, 0, first_stands, no_parameter le)
  owned_back r x y (written a o u v j m e w lent g) =
      ⊎_elim
      (λ s.
      let i = item_back s.0 s.1 a o j s.2 e in
      let same : moved_item to i.0 ≡ j = two_items a o _ _ (view_item s.0 s.1 a o i.0 (view s.0 s.1 a o i.0 s.2 i.1)) e in
      let wrote : writes i.0 r ≡ true = sym (moved_writes to i.0 r) ∙ ap (λ z. writes z r) same ∙ w in
      owned_on r a o x y s.0 s.1 i.0 s.2 i.1 (λ c q to_c. written s.0 s.1 c q i.0 s.3 i.1 wrote (sym (moved_lent to i.0) ∙ ap gives_lent same ∙ lent) to_c) g)
      (λ s.
      let same = two_items a o _ _ (ap (item_in all a) s.3 ∙ s.2.end) e in
      let clash : false ≡ true = ap (λ z. writes z r) same ∙ w in
      absurd (cc))
      (met_back a o m)
  owned_back r x y (kept a o u v j on e w g) =
      ⊎_elim
      (λ s.
      let i = item_back s.0 s.1 a o j s.2 e in
      let same : moved_item to i.0 ≡ j = two_items a o _ _ (view_item s.0 s.1 a o i.0 (view s.0 s.1 a o i.0 s.2 i.1)) e in
      let past : writes i.0 r ≡ false = sym (moved_writes to i.0 r) ∙ ap (λ z. writes z r) same ∙ w in
      owned_on r a o x y s.0 s.1 i.0 s.2 i.1 (λ c q to_c. kept s.0 s.1 c q i.0 s.3 i.1 past to_c) g)
      (λ s.
      let t = pass_back s.0 s.1 a o x y s.2 s.3 g in
      inl (t.0, t.1, t.3, s.4 t.0 t.1 t.2))
      (owned_back r a o on)

  -- ---- no two places stand at one

  placed : (b p x y : ℕ) → Stands f b p x y → ((home : Home) × (slice_get homes b ≡ Some home) × (first_in home ≤ x) × (x < behind_in home)) ⊎ (x ≡ pieces_in f.blocks)
  placed b p x y (stays k is none home le piece same) = inl (Whole x, home, omega arith, omega arith)
  placed b p x y (alone k h n is some home le pieces at same) =
      inl (Apart n (n + suc (length k.ops)), home, omega (arith, at), omega (arith, at, le))
  placed b p x y (outside none at first same) = inr at

  pub home_is : (b p x y : ℕ) (i : Item) → Stands f b p x y → item_in f.blocks b p ≡ Some i → (home : Home) × (slice_get homes b ≡ Some home) × (first_in home ≤ x) × (x < behind_in home)
  home_is b p x y i st is =
      by_case st (λ a. let clash : None ≡ Some i = sym (ap (λ z. item_of z p) a) ∙ is in absurd (cc))
    where
      by_case : Stands f b p x y → (slice_get f.blocks b ≡ None → ⊥) → (home : Home) × (slice_get homes b ≡ Some home) × (first_in home ≤ x) × (x < behind_in home)
      by_case (stays k at none home le piece same) there = (Whole x, home, omega arith, omega arith)
      by_case (alone k h n at some home le pieces number same) there =
          (Apart n (n + suc (length k.ops)), home, omega (arith, number), omega (arith, number, le))
      by_case (outside none at first same) there = absurd (there none)

  same_block : (b p c q x y v : ℕ) (i : Item) → Stands f b p x y → item_in f.blocks b p ≡ Some i → Stands f c q x v → b ≡ c
  same_block b p c q x y v i st is su =
      let a = home_is b p x y i st is in
      let bound = from_first 0 f.blocks b a.0 a.1 in
      ⊎_elim
      (λ d.
      ⊎_elim
      (λ lt. let order = first_before 0 f.blocks b c a.0 d.0 a.1 d.1 lt in absurd (omega (arith, order, a.3, d.2)))
      (λ le.
      ⊎_elim
      (λ lt. let order = first_before 0 f.blocks c b d.0 a.0 d.1 a.1 lt in absurd (omega (arith, order, d.3, a.2)))
      (λ ge. let same : b ≡ c = omega (arith, le, ge) in same)
      (below_or_not c b))
      (below_or_not b c))
      (λ d. absurd (omega (arith, bound.1, a.3, d)))
      (placed c q x v su)

  same_place : (b p q x y : ℕ) (i : Item) → Stands f b p x y → item_in f.blocks b p ≡ Some i → Stands f b q x y → p ≡ q
  same_place b p q x y i (stays k is none home le piece same) e (stays k2 is2 none2 home2 le2 piece2 same2) = sym same ∙ same2
  same_place b p q x y i (stays k is none home le piece same) e (alone k2 h2 n2 is2 some2 home2 le2 pieces2 at2 same2) =
      let clash : Some (Whole x) ≡ Some (Apart n2 (n2 + suc (length k2.ops))) = sym home ∙ home2 in
      absurd (cc)
  same_place b p q x y i (alone k h n is some home le pieces at same) e (stays k2 is2 none2 home2 le2 piece2 same2) =
      let clash : Some (Whole x) ≡ Some (Apart n (n + suc (length k.ops))) = sym home2 ∙ home in
      absurd (cc)
  same_place b p q x y i (alone k h n is some home le pieces at same) e (alone k2 h2 n2 is2 some2 home2 le2 pieces2 at2 same2) =
      let homes_same : Some (Apart n (n + suc (length k.ops))) ≡ Some (Apart n2 (n2 + suc (length k2.ops))) = sym home ∙ home2 in
      let first : n ≡ n2 = ap first_in (same_Some _ _ homes_same) in
      omega (arith, first, at, at2)
  same_place b p q x y i (outside none at first same) e su =
      let clash : None ≡ Some i = sym (ap (λ z. item_of z p) none) ∙ e in absurd (cc)
  same_place b p q x y i st e (outside none at first same) =
      let clash : None ≡ Some i = sym (ap (λ z. item_of z p) none) ∙ e in absurd (cc)

  -- a piece of an operation is no block
  not_passing : (b p c q x y : ℕ) (i : Item) → Stands f b p x y → item_in f.blocks b p ≡ Some i → Passing f c q x → y ≡ 1 → ⊥
  not_passing b p c q x y i st is m one =
      let block = same_block b p c q x y 0 i st is m.here in
      by_case st (ap (handler_in f.blocks) block ∙ m.handler)
    where
      by_case : Stands f b p x y → handler_in f.blocks b ≡ Some m.h → ⊥
      by_case (stays k at none home le piece same) some =
          let clash : None ≡ Some m.h = sym (handler_at b k None at none) ∙ some in absurd (cc)
      by_case (alone k h n at some home le pieces number same) handler =
          absurd (omega (arith, one, same))
      by_case (outside none at first same) handler = absurd (omega (arith, one, same))

  pub borrowed_same : (r b p : ℕ) (i : Item) → item_in f.blocks b p ≡ Some i → (x y : ℕ) → Stands f b p x y → BorrowedAt (apart f) r x y ↔ BorrowedAt f r b p
  borrowed_same r b p i is x y st = (
    λ no_path owned.
        let there = owned_there r b p owned in
        let at = stands_number b p x y st in
        let to_there = stands_number b p there.0 there.1 there.2 in
        no_path (subst (λ z. OwnedAt (apart f) r z y) (to_there.0 ∙ sym at.0) (subst (λ z. OwnedAt (apart f) r there.0 z) (to_there.1 ∙ sym at.1) there.3)),
    λ no_path owned.
        ⊎_elim
        (λ s.
        let block = same_block b p s.0 s.1 x y y i st is s.2 in
        let place = same_place b p s.1 x y i st is (subst (λ z. Stands f z s.1 x y) (sym block) s.2) in
        no_path (subst (λ z. OwnedAt f r z p) (sym block) (subst (λ z. OwnedAt f r s.0 z) (sym place) s.3)))
        (λ s. absurd (not_passing b p s.0 s.1 x y i st is s.2 s.3))
        (owned_back r x y owned),
  )
