-- The lines of what each call of a builder adds.
use Rattle.ir_builder_frames.proofs.Common.{◌≡◌, ℕ, zero, suc, List, [], ◌∷◌, ◌++◌, Some, refl, sym, subst, Block, Last, Goto, If, IfError, Return, Unreachable, Op, RType, Item, Do, End, in_block, Building, ended_block, with_last, in_open, held_in, added, pushed, closed}
use Rattle.ir_builder_frames.specs.Lines.{HasOther, EndsOn, OwnLines}

end_is_own : (l : ℕ) (last : Last) → EndsOn l last → HasOther l (End last) → ⊥
end_is_own l (Goto t) on other = other
end_is_own l (If r t e) on other = other
end_is_own l (IfError r t e line) on other = other on
end_is_own l (Return r) on other = other
end_is_own l Unreachable on other = other

other_is : (l : ℕ) (x y : Item) → x ≡ y → HasOther l y → HasOther l x
other_is l x y e other = let P : Item → Type 0 = HasOther l in subst P (sym e) other

end_gone : (l : ℕ) (last : Last) (x : Item) → EndsOn l last → HasOther l x → Some (End last) ≡ Some x → ⊥
end_gone l last x on other e = let same : End last ≡ x = cc in end_is_own l last on (other_is l (End last) x same other)

-- ---- one more operation

open_pushed : (ops : List (Op × ℕ)) (o : Op × ℕ) (i : ℕ) (x : Item) → HasOther o.1 x → in_open (ops ++ o ∷ []) i ≡ Some x → in_open ops i ≡ Some x
open_pushed [] o zero x other e =
    let f : Some (Do o.0 o.1) ≡ Some x = e in
    let same : Do o.0 o.1 ≡ x = cc in
    absurd (other_is o.1 (Do o.0 o.1) x same other refl)
open_pushed [] o (suc i) x other e = e
open_pushed (p ∷ ops) o zero x other e = e
open_pushed (p ∷ ops) o (suc i) x other e = open_pushed ops o i x other e

held_pushed : (bs : List Block) (ops : List (Op × ℕ)) (o : Op × ℕ) (k i : ℕ) (x : Item) → HasOther o.1 x → held_in bs (ops ++ o ∷ []) k i ≡ Some x → held_in bs ops k i ≡ Some x
held_pushed [] ops o zero i x other e = open_pushed ops o i x other e
held_pushed [] ops o (suc k) i x other e = e
held_pushed (b ∷ bs) ops o zero i x other e = e
held_pushed (b ∷ bs) ops o (suc k) i x other e = held_pushed bs ops o k i x other e

-- ---- the end of the block

open_closed : (ops : List (Op × ℕ)) (l : ℕ) (last : Last) (i : ℕ) (x : Item) → EndsOn l last → HasOther l x → in_block ops last i ≡ Some x → in_open ops i ≡ Some x
open_closed [] l last zero x on other e = absurd (end_gone l last x on other e)
open_closed [] l last (suc i) x on other e = e
open_closed (p ∷ ops) l last zero x on other e = e
open_closed (p ∷ ops) l last (suc i) x on other e = open_closed ops l last i x on other e

held_closed : (bs : List Block) (ops : List (Op × ℕ)) (l : ℕ) (last : Last) (k i : ℕ) (x : Item) → EndsOn l last → HasOther l x → held_in (bs ++ ended_block ops last ∷ []) [] k i ≡ Some x → held_in bs ops k i ≡ Some x
held_closed [] ops l last zero i x on other e = open_closed ops l last i x on other e
held_closed [] ops l last (suc zero) i x on other e = e
held_closed [] ops l last (suc (suc k)) i x on other e = e
held_closed (b ∷ bs) ops l last zero i x on other e = e
held_closed (b ∷ bs) ops l last (suc k) i x on other e = held_closed bs ops l last k i x on other e

-- ---- another end

block_patched : (ops : List (Op × ℕ)) (l : ℕ) (a last : Last) (i : ℕ) (x : Item) → EndsOn l last → HasOther l x → in_block ops last i ≡ Some x → in_block ops a i ≡ Some x
block_patched [] l a last zero x on other e = absurd (end_gone l last x on other e)
block_patched [] l a last (suc i) x on other e = e
block_patched (p ∷ ops) l a last zero x on other e = e
block_patched (p ∷ ops) l a last (suc i) x on other e = block_patched ops l a last i x on other e

held_patched : (bs : List Block) (ops : List (Op × ℕ)) (l n : ℕ) (last : Last) (k i : ℕ) (x : Item) → EndsOn l last → HasOther l x → held_in (with_last bs n last) ops k i ≡ Some x → held_in bs ops k i ≡ Some x
held_patched [] ops l n last k i x on other e = e
held_patched (b ∷ bs) ops l zero last zero i x on other e = block_patched b.ops l b.last last i x on other e
held_patched (b ∷ bs) ops l zero last (suc k) i x on other e = e
held_patched (b ∷ bs) ops l (suc n) last zero i x on other e = e
held_patched (b ∷ bs) ops l (suc n) last (suc k) i x on other e = held_patched bs ops l n last k i x on other e

-- ---- each call

pub same_lines : (l : ℕ) (b c : Building) → c ≡ b → OwnLines l b c
same_lines l b c e = let P : Building → Type 0 = λ v. OwnLines l b v in subst P (sym e) (λ k i x other at. at)

pub added_lines : (l : ℕ) (b c : Building) (name : List ℕ) (t : RType) → c ≡ added b name t → OwnLines l b c
added_lines l b c name t e = let P : Building → Type 0 = λ v. OwnLines l b v in subst P (sym e) (λ k i x other at. record { is = at.is })

pub pushed_lines : (b c : Building) (o : Op × ℕ) → c ≡ pushed b o → OwnLines o.1 b c
pushed_lines b c o e = let P : Building → Type 0 = λ v. OwnLines o.1 b v in subst P (sym e) (λ k i x other at. record { is = held_pushed b.blocks b.ops o k i x other at.is })

pub closed_lines : (l : ℕ) (b c : Building) (last : Last) → c ≡ closed b last → EndsOn l last → OwnLines l b c
closed_lines l b c last e on = let P : Building → Type 0 = λ v. OwnLines l b v in subst P (sym e) (λ k i x other at. record { is = held_closed b.blocks b.ops l last k i x on other at.is })

pub patched_lines : (l : ℕ) (b c : Building) (n : ℕ) (last : Last) → c ≡ record b { blocks = with_last b.blocks n last } → EndsOn l last → OwnLines l b c
patched_lines l b c n last e on = let P : Building → Type 0 = λ v. OwnLines l b v in subst P (sym e) (λ k i x other at. record { is = held_patched b.blocks b.ops l n last k i x on other at.is })

pub lines_trans : (l : ℕ) (a b c : Building) → OwnLines l a b → OwnLines l b c → OwnLines l a c
lines_trans l a b c p q k i x other at = p k i x other (q k i x other at)
