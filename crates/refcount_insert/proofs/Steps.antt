-- What an operation does not touch is read again and owned behind it where it was before it, and what is read again at an end
-- is what the end reads or what is read again at one of its targets.
use Rattle.std.proofs.Common.{◌≡◌, ℕ, suc, ◌⊎◌, Bool, true, false, Some, refl, sym, ap, ◌∙◌, inl, inr, subst, arith}
use Rattle.std.specs.Prelude.{slice_get, ◌↔◌}
use Rattle.std.proofs.lemmas.Option.{same_Some}
use Rattle.ir_core.specs.declared.code.Op.{Op}
use Rattle.ir_core.specs.declared.code.Last.{Last}
use Rattle.ir_core.specs.declared.code.Func.{Func}
use Rattle.ir_core.specs.Bare.{IsBare}
use Rattle.ir_core.specs.Items.{Item, Do, End, item_in}
use Rattle.liveness.specs.Paths.{is_among, is_target, reads_of, write_of, reads_of_last, reads, writes, targets, Goes, passes, fails, jumps, LiveAt, OwnedAt, no_parameter, written, kept}
use Rattle.liveness.specs.Paths as path
use Rattle.liveness.proofs.FoundLemmas.{target_among, among_target}

-- two truth values of equal statements
pub same_truth : {P Q : Type 0} (a b : Bool) → (a ≡ true) ↔ P → (b ≡ true) ↔ Q → (P → Q) → (Q → P) → a ≡ b
same_truth true true p q f g = refl
same_truth false false p q f g = refl
same_truth true false p q f g = sym (q.1 (f (p.0 refl)))
same_truth false true p q f g = p.1 (g (q.0 refl))

module _ (f : Func) (r : ℕ) where
  module _ (b p : ℕ) (o : Op) {line : ℕ} (here : item_in f.blocks b p ≡ Some (Do o line)) (no_read : is_among (reads_of o) r ≡ false) (no_write : is_target (write_of o) r ≡ false) where
    same_item : (i : Item) → item_in f.blocks b p ≡ Some i → i ≡ Do o line
    same_item i e = same_Some _ _ (sym e ∙ here)

    live_past : IsBare f → (c q : ℕ) → LiveAt f r c q → c ≡ b → q ≡ p → LiveAt f r b (suc p)
    live_past calm c q (path.reads_here x y i e a) same_c same_q =
        let at : item_in f.blocks b p ≡ Some i = ap (λ z. item_in f.blocks z p) (sym same_c) ∙ ap (item_in f.blocks c) (sym same_q) ∙ e in
        let reads_it : true ≡ false = sym a ∙ ap (λ z. reads z r) (same_item i at) ∙ no_read in
        absurd (cc)
    live_past calm c q (path.goes_on x y u v i e w (passes x2 y2 o2 e2) on) same_c same_q =
        subst (λ z. LiveAt f r z (suc p)) same_c (subst (λ z. LiveAt f r c (suc z)) same_q on)
    live_past calm c q (path.goes_on x y u v i e w (fails x2 y2 h o2 e2 caught at) on) same_c same_q =
        absurd (calm c h at)
    live_past calm c q (path.goes_on x y u v i e w (jumps x2 y2 n t l e2 at) on) same_c same_q =
        let there : item_in f.blocks b p ≡ Some (End l) = ap (λ z. item_in f.blocks z p) (sym same_c) ∙ ap (item_in f.blocks c) (sym same_q) ∙ e2 in
        let odd : End l ≡ Do o line = same_item (End l) there in
        absurd (cc)

    pub live_behind : IsBare f → LiveAt f r b p → LiveAt f r b (suc p)
    live_behind calm h = live_past calm b p h refl refl

    pub live_before : LiveAt f r b (suc p) → LiveAt f r b p
    live_before h = path.goes_on b p b (suc p) (Do o line) here no_write (passes b p o here) h

    pub owned_behind : OwnedAt f r b p → OwnedAt f r b (suc p)
    owned_behind h = kept b p b (suc p) (Do o line) h here no_write (passes b p o here)

    owned_past : (c q : ℕ) → OwnedAt f r c q → c ≡ b → q ≡ suc p → OwnedAt f r b p
    owned_past c q (no_parameter le) same_c same_q = absurd (omega (arith, same_q))
    owned_past c q (written x y u v i m e w n (passes x2 y2 o2 e2)) same_c same_q =
        let same_y : y ≡ p = omega (arith, same_q) in
        let at : item_in f.blocks b p ≡ Some i = ap (λ z. item_in f.blocks z p) (sym same_c) ∙ ap (item_in f.blocks x) (sym same_y) ∙ e in
        let wrote : true ≡ false = sym w ∙ ap (λ z. writes z r) (same_item i at) ∙ no_write in
        absurd (cc)
    owned_past c q (written x y u v i m e w n (fails x2 y2 h o2 e2 caught at)) same_c same_q = absurd (omega (arith, same_q))
    owned_past c q (written x y u v i m e w n (jumps x2 y2 j t l e2 at)) same_c same_q = absurd (omega (arith, same_q))
    owned_past c q (kept x y u v i on e w (passes x2 y2 o2 e2)) same_c same_q =
        let same_y : y ≡ p = omega (arith, same_q) in
        subst (λ z. OwnedAt f r z p) same_c (subst (OwnedAt f r x) same_y on)
    owned_past c q (kept x y u v i on e w (fails x2 y2 h o2 e2 caught at)) same_c same_q = absurd (omega (arith, same_q))
    owned_past c q (kept x y u v i on e w (jumps x2 y2 j t l e2 at)) same_c same_q = absurd (omega (arith, same_q))

    pub owned_before : OwnedAt f r b (suc p) → OwnedAt f r b p
    owned_before h = owned_past b (suc p) h refl refl

  -- ---- ends
  module _ (b p : ℕ) (l : Last) (here : item_in f.blocks b p ≡ Some (End l)) where
    same_end : (i : Item) → item_in f.blocks b p ≡ Some i → i ≡ End l
    same_end i e = same_Some _ _ (sym e ∙ here)

    end_past : IsBare f → (c q : ℕ) → LiveAt f r c q → c ≡ b → q ≡ p → (is_among (reads_of_last l) r ≡ true) ⊎ ((t : ℕ) × (is_among (targets l) t ≡ true) × LiveAt f r t 0)
    end_past calm c q (path.reads_here x y i e a) same_c same_q =
        let at : item_in f.blocks b p ≡ Some i = ap (λ z. item_in f.blocks z p) (sym same_c) ∙ ap (item_in f.blocks c) (sym same_q) ∙ e in
        inl (sym (ap (λ z. reads z r) (same_end i at)) ∙ a)
    end_past calm c q (path.goes_on x y u v i e w (passes x2 y2 o2 {line} e2) on) same_c same_q =
        let there : item_in f.blocks b p ≡ Some (Do o2 line) = ap (λ z. item_in f.blocks z p) (sym same_c) ∙ ap (item_in f.blocks c) (sym same_q) ∙ e2 in
        let odd : Do o2 line ≡ End l = same_end (Do o2 line) there in
        absurd (cc)
    end_past calm c q (path.goes_on x y u v i e w (fails x2 y2 h o2 e2 caught at) on) same_c same_q =
        absurd (calm c h at)
    end_past calm c q (path.goes_on x y u v i e w (jumps x2 y2 n t k e2 at) on) same_c same_q =
        let there : item_in f.blocks b p ≡ Some (End k) = ap (λ z. item_in f.blocks z p) (sym same_c) ∙ ap (item_in f.blocks c) (sym same_q) ∙ e2 in
        let odd : End k ≡ End l = same_end (End k) there in
        let same : k ≡ l = cc in
        inr (t, target_among (targets l) n t (ap (λ z. slice_get (targets z) n) (sym same) ∙ at), on)

    pub live_at_end : IsBare f → LiveAt f r b p → (is_among (reads_of_last l) r ≡ true) ⊎ ((t : ℕ) × (is_among (targets l) t ≡ true) × LiveAt f r t 0)
    live_at_end calm h = end_past calm b p h refl refl

    pub read_at_end : is_among (reads_of_last l) r ≡ true → LiveAt f r b p
    read_at_end a = path.reads_here b p (End l) here a

    pub live_at_target : (t : ℕ) → is_among (targets l) t ≡ true → LiveAt f r t 0 → LiveAt f r b p
    live_at_target t a on =
        let at = among_target (targets l) t a in
        path.goes_on b p t 0 (End l) here refl (jumps b p at.0 t l here at.1) on
