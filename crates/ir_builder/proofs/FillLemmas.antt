-- The ends that are still open are written.
use Rattle.ir_builder.proofs.Common.{◌≡◌, ◌≢◌, ℕ, zero, suc, ◌+◌, ◌<◌, ◌≤◌, Bool, true, false, List, [], ◌∷◌, length, Some, None, refl, sym, ap, ◌∙◌, subst, arith, ⊎_elim, cases_lt, Block, Last, Goto, Return, Unreachable, Op, Reg, End, in_block, Building, with_last, held_in, held, is_unwritten, is_open_at, item_at, Closes, Open, Filled}
use Rattle.ir_builder_frames.proofs.PatchLemmas.{patches}

hole_end : (os : List (Op × ℕ)) (l : Last) → is_unwritten l ≡ true → in_block os l (length os) ≡ Some (End Unreachable)
hole_end [] Unreachable e = refl
hole_end [] l e = absurd (cc)
hole_end (o ∷ os) l e = hole_end os l e

open_at : (bs : List Block) (os : List (Op × ℕ)) (k : ℕ) → is_open_at bs k ≡ true → (i : ℕ) × (held_in bs os k i ≡ Some (End Unreachable))
open_at [] os k e = absurd (cc)
open_at (b ∷ bs) os zero e = (length b.ops, hole_end b.ops b.last e)
open_at (b ∷ bs) os (suc k) e = open_at bs os k e

open_set : (bs : List Block) (k t : ℕ) → is_open_at (with_last bs k (Goto t)) k ≡ false
open_set [] k t = refl
open_set (b ∷ bs) zero t = refl
open_set (b ∷ bs) (suc k) t = open_set bs k t

open_other : (bs : List Block) (k j t : ℕ) → j ≢ k → is_open_at (with_last bs k (Goto t)) j ≡ is_open_at bs j
open_other [] k j t ne = refl
open_other (b ∷ bs) zero zero t ne = absurd (ne refl)
open_other (b ∷ bs) zero (suc j) t ne = refl
open_other (b ∷ bs) (suc k) zero t ne = refl
open_other (b ∷ bs) (suc k) (suc j) t ne = open_other bs k j t (λ e. ne (ap suc e))

pub open_past : (bs : List Block) (k : ℕ) → length bs ≤ k → is_open_at bs k ≡ false
open_past [] k le = refl
open_past (b ∷ bs) zero le = absurd (omega arith)
open_past (b ∷ bs) (suc k) le = open_past bs k (omega arith)

-- the end that is held of a block says whether the block is open
end_says : (os : List (Op × ℕ)) (x l : Last) (i : ℕ) → in_block os x i ≡ Some (End l) → is_unwritten x ≡ is_unwritten l
end_says [] x l zero e = let f : Some (End x) ≡ Some (End l) = e in let same : x ≡ l = cc in ap is_unwritten same
end_says [] x l (suc i) e = let f : None ≡ Some (End l) = e in absurd (cc)
end_says (o ∷ os) x l zero e = absurd (cc)
end_says (o ∷ os) x l (suc i) e = end_says os x l i e

held_says : (bs : List Block) (os : List (Op × ℕ)) (k i : ℕ) (l : Last) → k < length bs → held_in bs os k i ≡ Some (End l) → is_open_at bs k ≡ is_unwritten l
held_says [] os k i l lt e = absurd (omega arith)
held_says (b ∷ bs) os zero i l lt e = end_says b.ops b.last l i e
held_says (b ∷ bs) os (suc k) i l lt e = held_says bs os k i l (omega arith) e

pub true_false : (x : Bool) → x ≡ true → x ≡ false → ⊥
true_false x e f = let g : true ≡ false = sym e ∙ f in cc

pub filled_past : (b c : Building) (from k to : ℕ) → is_open_at c.blocks k ≡ false → from ≤ k → k < length b.blocks → Filled b c from k to → Filled b c from (k + 1) to
filled_past b c from k to shut le below f = record {
  has = f.has;
  jumps = λ p fn j i h l u e. ⊎_elim
      (λ lt. f.jumps p fn j i h l lt e)
      (λ ge.
      let q : j ≡ k = omega arith in
      let is : held b k i ≡ Some (End Unreachable) = subst (λ z. held b z i ≡ Some (End Unreachable)) q e in
      absurd (true_false (is_open_at b.blocks k) (held_says b.blocks b.ops k i Unreachable below is) (sym (f.same k (omega arith)) ∙ shut)))
      (cases_lt j k);
  extends = f.extends;
  later = λ j i x l e. f.later j i x (omega arith) e;
  none = λ j l u. ⊎_elim (λ lt. f.none j l lt) (λ ge. let q : j ≡ k = omega arith in ap (λ z. is_open_at c.blocks z) q ∙ shut) (cases_lt j k);
  same = λ j l. f.same j (omega arith);
  handlers = f.handlers;
  same_regs = f.same_regs;
  blocks = f.blocks;
  ops = f.ops;
}

pub filled_set : (b c d : Building) (from k to : ℕ) → is_open_at c.blocks k ≡ true → from ≤ k → Filled b c from k to → d ≡ record c { blocks = with_last c.blocks k (Goto to) } → Filled b d from (k + 1) to
filled_set b c d from k to is_open le f e =
    let o = open_at c.blocks c.ops k is_open in
    let here : Open c k = record { place = o.0; is = o.1 } in
    let p = patches c d k (Goto to) here (λ q. cc) e in
    let same : d.blocks ≡ with_last c.blocks k (Goto to) = ap (λ (v : Building). v.blocks) e in
    record {
      has = λ q fn h. f.has q fn (p.has q fn h);
      jumps = λ q fn j i h l u held_b. ⊎_elim
          (λ lt. f.jumps q fn j i (p.has q fn h) l lt held_b)
          (λ ge.
          let s : j ≡ k = omega arith in
          let at : held b k i ≡ Some (End Unreachable) = subst (λ z. held b z i ≡ Some (End Unreachable)) s held_b in
          let code : item_at q fn k i ≡ Some (End (Goto to)) = p.code q fn i h (f.later k i (End Unreachable) (omega arith) at) in
          subst (λ z. item_at q fn z i ≡ Some (End (Goto to))) (sym s) code)
          (cases_lt j k);
      extends = λ a x l. p.extends a (f.extends a x l) (omega arith);
      later = λ j i x l held_b. p.others j i x (λ q. omega arith) (f.later j i x (omega arith) held_b);
      none = λ j l u. ⊎_elim
          (λ lt. ap (λ z. is_open_at z j) same ∙ open_other c.blocks k j to (λ q. omega arith) ∙ f.none j l lt)
          (λ ge. let q : j ≡ k = omega arith in ap (λ z. is_open_at z j) same ∙ ap (λ z. is_open_at (with_last c.blocks k (Goto to)) z) q ∙ open_set c.blocks k to)
          (cases_lt j k);
      same = λ j l. ap (λ z. is_open_at z j) same ∙ open_other c.blocks k j to (λ q. omega arith) ∙ f.same j (omega arith);
      handlers = λ j. p.handlers j ∙ f.handlers j;
      same_regs = p.same_regs ∙ f.same_regs;
      blocks = p.blocks ∙ f.blocks;
      ops = ap (λ (v : Building). v.ops) e ∙ f.ops;
    }

-- the last block returns
closed_last : (b c : Building) (r : Reg) → Closes b c (Return r) → (k : ℕ) → k ≡ length b.blocks → is_open_at c.blocks k ≡ false
closed_last b c r q k is = held_says c.blocks c.ops k (length b.ops) (Return r) (let n = q.blocks in omega (arith, is, n)) (ap (λ z. held c z (length b.ops)) is ∙ q.at)

-- no end is open
pub all_written : (b3 b4 b5 : Building) (r : Reg) (from to : ℕ) → Closes b3 b4 (Return r) → Filled b4 b5 from to to → to ≡ length b3.blocks → (k : ℕ) → from ≤ k → is_open_at b5.blocks k ≡ false
all_written b3 b4 b5 r from to c f is k le =
    let n4 = c.blocks in
    let n5 = f.blocks in
    ⊎_elim
    (λ lt. f.none k le lt)
    (λ ge. f.same k ge ∙ ⊎_elim
    (λ lt2. closed_last b3 b4 r c k (let q : k ≡ length b3.blocks = omega arith in q))
    (λ ge2. open_past b4.blocks k (omega arith))
    (cases_lt k (to + 1)))
    (cases_lt k to)
