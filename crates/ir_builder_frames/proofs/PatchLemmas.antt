-- The end of an open block is written.
use Rattle.ir_builder_frames.proofs.Common.{◌≡◌, ◌≢◌, ℕ, zero, suc, ◌<◌, ◌≤◌, List, [], ◌∷◌, length, Some, None, refl, sym, ap, ◌∙◌, subst, arith, ⊎_elim, ◌⊎◌, inl, inr, Block, Last, Unreachable, Op, Program, Item, Do, End, in_block, handler_in, Building, with_last, in_open, held_in, held, Extends, item_at, Has, Open, Patches}

open_no_end : (os : List (Op × ℕ)) (i : ℕ) (l : Last) → in_open os i ≡ Some (End l) → ⊥
open_no_end [] i l e = let f : None ≡ Some (End l) = e in cc
open_no_end (o ∷ os) zero l e = let f : Some (Do o.0 o.1) ≡ Some (End l) = e in cc
open_no_end (o ∷ os) (suc i) l e = open_no_end os i l e

block_do : (os : List (Op × ℕ)) (a l : Last) (i : ℕ) (o : Op) {line : ℕ} → in_block os a i ≡ Some (Do o line) → in_block os l i ≡ Some (Do o line)
block_do [] a l zero o {line} e = let f : Some (End a) ≡ Some (Do o line) = e in absurd (cc)
block_do [] a l (suc i) o {line} e = let f : None ≡ Some (Do o line) = e in absurd (cc)
block_do (p ∷ os) a l zero o e = e
block_do (p ∷ os) a l (suc i) o e = block_do os a l i o e

block_ends : (os : List (Op × ℕ)) (a l x : Last) (i : ℕ) → in_block os a i ≡ Some (End x) → in_block os l i ≡ Some (End l)
block_ends [] a l x zero e = refl
block_ends [] a l x (suc i) e = let f : None ≡ Some (End x) = e in absurd (cc)
block_ends (p ∷ os) a l x zero e = let f : Some (Do p.0 p.1) ≡ Some (End x) = e in absurd (cc)
block_ends (p ∷ os) a l x (suc i) e = block_ends os a l x i e

block_end_is : (os : List (Op × ℕ)) (a x : Last) (i : ℕ) → in_block os a i ≡ Some (End x) → x ≡ a
block_end_is [] a x zero e = let f : Some (End a) ≡ Some (End x) = e in cc
block_end_is [] a x (suc i) e = let f : None ≡ Some (End x) = e in absurd (cc)
block_end_is (p ∷ os) a x zero e = let f : Some (Do p.0 p.1) ≡ Some (End x) = e in absurd (cc)
block_end_is (p ∷ os) a x (suc i) e = block_end_is os a x i e

-- a block has one end
pub ends_same : (bs : List Block) (os : List (Op × ℕ)) (k i j : ℕ) (x y : Last) → held_in bs os k i ≡ Some (End x) → held_in bs os k j ≡ Some (End y) → x ≡ y
ends_same [] os zero i j x y e f = absurd (open_no_end os i x e)
ends_same [] os (suc k) i j x y e f = let g : None ≡ Some (End x) = e in absurd (cc)
ends_same (b ∷ bs) os zero i j x y e f = block_end_is b.ops b.last x i e ∙ sym (block_end_is b.ops b.last y j f)
ends_same (b ∷ bs) os (suc k) i j x y e f = ends_same bs os k i j x y e f

pub end_below : (bs : List Block) (os : List (Op × ℕ)) (k i : ℕ) (x : Last) → held_in bs os k i ≡ Some (End x) → k < length bs
end_below [] os zero i x e = absurd (open_no_end os i x e)
end_below [] os (suc k) i x e = let g : None ≡ Some (End x) = e in absurd (cc)
end_below (b ∷ bs) os zero i x e = omega arith
end_below (b ∷ bs) os (suc k) i x e = omega (arith, end_below bs os k i x e)

pub open_below : (b : Building) (k : ℕ) → Open b k → k < length b.blocks
open_below b k o = end_below b.blocks b.ops k o.place Unreachable o.is

with_do : (bs : List Block) (os : List (Op × ℕ)) (k i : ℕ) (l : Last) (o : Op) {line : ℕ} → held_in bs os k i ≡ Some (Do o line) → held_in (with_last bs k l) os k i ≡ Some (Do o line)
with_do [] os k i l o e = e
with_do (b ∷ bs) os zero i l o e = block_do b.ops b.last l i o e
with_do (b ∷ bs) os (suc k) i l o e = with_do bs os k i l o e

with_end : (bs : List Block) (os : List (Op × ℕ)) (k i : ℕ) (l x : Last) → held_in bs os k i ≡ Some (End x) → held_in (with_last bs k l) os k i ≡ Some (End l)
with_end [] os zero i l x e = absurd (open_no_end os i x e)
with_end [] os (suc k) i l x e = let g : None ≡ Some (End x) = e in absurd (cc)
with_end (b ∷ bs) os zero i l x e = block_ends b.ops b.last l x i e
with_end (b ∷ bs) os (suc k) i l x e = with_end bs os k i l x e

with_other : (bs : List Block) (os : List (Op × ℕ)) (k j i : ℕ) (l : Last) → j ≢ k → held_in (with_last bs k l) os j i ≡ held_in bs os j i
with_other [] os k j i l ne = refl
with_other (b ∷ bs) os zero zero i l ne = absurd (ne refl)
with_other (b ∷ bs) os zero (suc j) i l ne = refl
with_other (b ∷ bs) os (suc k) zero i l ne = refl
with_other (b ∷ bs) os (suc k) (suc j) i l ne = with_other bs os k j i l (λ e. ne (ap suc e))

pub with_last_length : (bs : List Block) (k : ℕ) (l : Last) → length (with_last bs k l) ≡ length bs
with_last_length [] k l = refl
with_last_length (b ∷ bs) zero l = refl
with_last_length (b ∷ bs) (suc k) l = ap suc (with_last_length bs k l)

with_handlers : (bs : List Block) (k j : ℕ) (l : Last) → handler_in (with_last bs k l) j ≡ handler_in bs j
with_handlers [] k j l = refl
with_handlers (b ∷ bs) zero zero l = refl
with_handlers (b ∷ bs) zero (suc j) l = refl
with_handlers (b ∷ bs) (suc k) zero l = refl
with_handlers (b ∷ bs) (suc k) (suc j) l = with_handlers bs k j l

pub same_or_not : (j k : ℕ) → (j ≡ k) ⊎ (j ≢ k)
same_or_not zero zero = inl refl
same_or_not zero (suc k) = inr (λ e. omega arith)
same_or_not (suc j) zero = inr (λ e. omega arith)
same_or_not (suc j) (suc k) = ⊎_elim (λ e. inl (ap suc e)) (λ ne. inr (λ e. ne (omega arith))) (same_or_not j k)

module _ (b : Building) (k : ℕ) (l : Last) (o : Open b k) (ne : l ≢ Unreachable) where
  abbrev patched : Building
  patched = record b { blocks = with_last b.blocks k l }

  has_at : (p : Program) (fn : ℕ) → Has p fn patched → (i : ℕ) (x : Item) → x ≢ End Unreachable → held b k i ≡ Some x → item_at p fn k i ≡ Some x
  has_at p fn h i (Do q line) other e = h.items k i (Do q line) other (with_do b.blocks b.ops k i l q e)
  has_at p fn h i (End y) other e = absurd (other (ap End (ends_same b.blocks b.ops k i o.place y Unreachable e o.is)))

  has_before : (p : Program) (fn : ℕ) → Has p fn patched → Has p fn b
  has_before p fn h = record {
    items = λ j i x other e. ⊎_elim
        (λ s. let P : ℕ → Type 0 = λ m. item_at p fn m i ≡ Some x in subst P (sym s) (has_at p fn h i x other (ap (λ m. held b m i) (sym s) ∙ e)))
        (λ d. h.items j i x other (with_other b.blocks b.ops k j i l d ∙ e))
        (same_or_not j k);
    regs = h.regs;
    edges = h.edges;
  }

  extends_at : (a : Building) → Extends a b → length a.blocks ≤ k → (i : ℕ) (x : Item) → held a k i ≡ Some x → held patched k i ≡ Some x
  extends_at a p le i (Do q line) e = with_do b.blocks b.ops k i l q (p.items k i (Do q line) e)
  extends_at a p le i (End y) e = absurd (let lt = end_below a.blocks a.ops k i y e in omega arith)

  here_patches : Patches b patched k l
  here_patches = record {
    has = has_before;
    code = λ p fn i h e. h.items k i (End l) (λ s. ne (cc s)) (with_end b.blocks b.ops k i l Unreachable e);
    extends = λ a p le. record {
      among = p.among;
      items = λ j i x e. ⊎_elim
          (λ s. let P : ℕ → Type 0 = λ m. held patched m i ≡ Some x in subst P (sym s) (extends_at a p le i x (ap (λ m. held a m i) (sym s) ∙ e)))
          (λ d. with_other b.blocks b.ops k j i l d ∙ p.items j i x e)
          (same_or_not j k);
      regs = p.regs;
      handlers = λ j z. with_handlers b.blocks k j l ∙ p.handlers j z;
      regs_grow = p.regs_grow;
      blocks_grow = let q = p.blocks_grow in omega (arith, with_last_length b.blocks k l);
    };
    others = λ j i x d e. with_other b.blocks b.ops k j i l d ∙ e;
    handlers = λ j. with_handlers b.blocks k j l;
    same_regs = refl;
    blocks = with_last_length b.blocks k l;
    ops = refl;
  }

pub patches : (b c : Building) (k : ℕ) (l : Last) → Open b k → l ≢ Unreachable → c ≡ record b { blocks = with_last b.blocks k l } → Patches b c k l
patches b c k l o ne e = let P : Building → Type 0 = λ v. Patches b v k l in subst P (sym e) (here_patches b k l o ne)
