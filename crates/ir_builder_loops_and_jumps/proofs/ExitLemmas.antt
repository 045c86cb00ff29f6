-- Ends that are still to be written: where they lie, and what becomes of them.
use Rattle.ir_builder_loops_and_jumps.proofs.Common.{◌≡◌, ◌≢◌, ℕ, zero, suc, ◌+◌, ◌<◌, ◌≤◌, List, [], ◌∷◌, ◌++◌, length, Option, Some, None, Bool, true, false, refl, sym, ap, ◌∙◌, subst, arith, le_refl, get_or, drop, ◌||◌, drop_more, Goto, Unreachable, Program, Building, with_last, held, handled, Extends, Item, End, item_at, Has, Within, or_other, Closes, Patches, extends_refl, patches, open_below, with_last_length, Way, Break, Continue, Return, Join, Exit, uses, is_same_way, number_or, stays, left, by, JumpTo, OpenIn, jumping, all_jumping}
use Rattle.std.proofs.lemmas.Grind.{common_steps}
use Rattle.ir_core.specs.declared.code.Last.{Last}

-- ---- single ends

-- the end of a block that was ended so
pub close_at : (p : Program) (fn : ℕ) (b c : Building) (l : Last) → l ≢ Unreachable → Closes b c l → Has p fn c → item_at p fn (length b.blocks) (length b.ops) ≡ Some (End l)
close_at p fn b c l ne q h = h.items (length b.blocks) (length b.ops) (End l) (λ e. ne (cc e)) q.at

pub within_patch : (p : Program) (fn : ℕ) (b c : Building) (k : ℕ) (l : Last) (from to : ℕ) (h : Option ℕ) → Patches b c k l → Within p fn c from to h → Within p fn b from to h
within_patch p fn b c k l from to h q at = record {
  has = q.has p fn at.has;
  guards = λ j a e. at.guards j a e ∙ ap (λ z. or_other z h) (q.handlers j);
}

-- ---- ends that stay open between two numbers

pub record Stays (b c : Building) (from to : ℕ) : Type 0 where
  pub open_still : (k i : ℕ) → from ≤ k → k < to → held b k i ≡ Some (End Unreachable) → held c k i ≡ Some (End Unreachable)

pub stays_less : (b c : Building) (from from' to' to : ℕ) → from ≤ from' → to' ≤ to → Stays b c from to → Stays b c from' to'
stays_less b c from from' to' to l h s = record { open_still = λ k i a z e. s.open_still k i (omega arith) (omega arith) e }

pub stays_by : (b c : Building) (from to : ℕ) → Extends b c → Stays b c from to
stays_by b c from to x = record { open_still = λ k i l h e. x.items k i (End Unreachable) e }

pub stays_trans : (a b c : Building) (from to : ℕ) → Stays a b from to → Stays b c from to → Stays a c from to
stays_trans a b c from to s t = record { open_still = λ k i l h e. t.open_still k i l h (s.open_still k i l h e) }

pub stays_patch_below : (b c : Building) (from to k : ℕ) (l : Last) → k < from → Patches b c k l → Stays b c from to
stays_patch_below b c from to k l lt q = record { open_still = λ j i a h e. q.others j i (End Unreachable) (λ z. omega arith) e }

-- ---- lists of exits

pub jump_back : (p : Program) (fn : ℕ) (b c : Building) (from to : ℕ) (place : Way → ℕ) (es : List Exit) → Stays b c from to → OpenIn b from to es → JumpTo p fn c place es → JumpTo p fn b place es
jump_back p fn b c from to place [] s o j = tt
jump_back p fn b c from to place (x ∷ es) s o j =
    let l = o.1 in
    (λ i e. j.0 i (s.open_still x.block i o.1 o.2 e), jump_back p fn b c (suc x.block) to place es (stays_less b c from (suc x.block) to to (omega arith) (le_refl to) s) o.3 j.1)

pub open_on : (b c : Building) (from to from' to' : ℕ) (es : List Exit) → Stays b c from to → from' ≤ from → to ≤ to' → OpenIn b from to es → OpenIn c from' to' es
open_on b c from to from' to' [] s l h o = tt
open_on b c from to from' to' (x ∷ es) s l h o =
    let a = o.1 in let z = o.2 in
    (record { place = o.0.place; is = s.open_still x.block o.0.place o.1 o.2 o.0.is }, omega arith, omega arith, open_on b c (suc x.block) to (suc x.block) to' es (stays_less b c from (suc x.block) to to (omega arith) (le_refl to) s) (le_refl (suc x.block)) h o.3)

pub open_append : (b : Building) (from mid to : ℕ) (xs ys : List Exit) → from ≤ mid → mid ≤ to → OpenIn b from mid xs → OpenIn b mid to ys → OpenIn b from to (xs ++ ys)
open_append b from mid to [] ys l h p q = open_on b b mid to from to ys (stays_by b b mid to (extends_refl b)) l (le_refl to) q
open_append b from mid to (x ∷ xs) ys l h p q =
    let z = p.2 in (p.0, p.1, omega arith, open_append b (suc x.block) mid to xs ys (omega arith) h p.3 q)

pub jump_front : (p : Program) (fn : ℕ) (b : Building) (to : Way → ℕ) (xs ys : List Exit) → JumpTo p fn b to (xs ++ ys) → JumpTo p fn b to xs
jump_front p fn b to [] ys j = tt
jump_front p fn b to (x ∷ xs) ys j = (j.0, jump_front p fn b to xs ys j.1)

pub jump_rest : (p : Program) (fn : ℕ) (b : Building) (to : Way → ℕ) (xs ys : List Exit) → JumpTo p fn b to (xs ++ ys) → JumpTo p fn b to ys
jump_rest p fn b to [] ys j = j
jump_rest p fn b to (x ∷ xs) ys j = jump_rest p fn b to xs ys j.1

or_rest : (a b : Bool) → b ≡ true → (a || b) ≡ true
or_rest true b e = refl
or_rest false b e = e

-- the second list has the ways of the first
abbrev pub UsesToo : List Exit → List Exit → Type 0
UsesToo xs ys = (w : Way) → uses w xs ≡ true → uses w ys ≡ true

pub uses_front : (xs ys : List Exit) → UsesToo xs (xs ++ ys)
uses_front [] ys w e = cc
uses_front (x ∷ xs) ys w e = uses_one (is_same_way w x.way) (uses w xs) (uses w (xs ++ ys)) (uses_front xs ys w) e
  where
    uses_one : (a b c : Bool) → (b ≡ true → c ≡ true) → (a || b) ≡ true → (a || c) ≡ true
    uses_one true b c f e = refl
    uses_one false b c f e = f e

pub uses_rest : (xs ys : List Exit) → UsesToo ys (xs ++ ys)
uses_rest [] ys w e = e
uses_rest (x ∷ xs) ys w e = or_rest (is_same_way w x.way) (uses w (xs ++ ys)) (uses_rest xs ys w e)

-- ---- plans

pub same_way_is : (w v : Way) → is_same_way w v ≡ true → v ≡ w
same_way_is Break Break e = refl
same_way_is Break Continue e = cc
same_way_is Break Return e = cc
same_way_is Break Join e = cc
same_way_is Continue Break e = cc
same_way_is Continue Continue e = refl
same_way_is Continue Return e = cc
same_way_is Continue Join e = cc
same_way_is Return Break e = cc
same_way_is Return Continue e = cc
same_way_is Return Return e = refl
same_way_is Return Join e = cc
same_way_is Join Break e = cc
same_way_is Join Continue e = cc
same_way_is Join Return e = cc
same_way_is Join Join e = refl

-- a way without a place is still used by what is left
pub uses_left : (plan : Way → Option ℕ) (w : Way) (xs : List Exit) → plan w ≡ None → uses w xs ≡ true → uses w (left plan xs) ≡ true
uses_left plan w [] none u = cc
uses_left plan w (x ∷ xs) none u = one (is_same_way w x.way) (uses w xs) refl u (uses_left plan w xs none)
  where
    dropped : (o : Option ℕ) → uses w (left plan xs) ≡ true → uses w (stays o x (left plan xs)) ≡ true
    dropped None e = or_rest (is_same_way w x.way) _ e
    dropped (Some t) e = e

    one : (a b : Bool) → is_same_way w x.way ≡ a → (a || b) ≡ true → (b ≡ true → uses w (left plan xs) ≡ true) → uses w (stays (plan x.way) x (left plan xs)) ≡ true
    one true b is e rest =
        let P : Option ℕ → Type 0 = λ o. uses w (stays o x (left plan xs)) ≡ true in
        subst P (sym (ap plan (same_way_is w x.way is) ∙ none)) (ap (λ a. a || uses w (left plan xs)) is)
    one false b is e rest = dropped (plan x.way) (rest e)

-- ---- the exits whose ways have a place are given their jumps, and the others stay

pub record Jumps (b c : Building) (from to : ℕ) (es : List Exit) (plan : Way → Option ℕ) : Type 0 where
  pub has : (p : Program) (fn : ℕ) → Has p fn c → Has p fn b
  pub jumps : (p : Program) (fn : ℕ) (place : Way → ℕ) → Has p fn c → JumpTo p fn c place (left plan es) → JumpTo p fn b (by plan place) es
  pub opens : OpenIn c from to (left plan es)
  pub extends : (a : Building) → Extends a b → length a.blocks ≤ from → Extends a c
  pub earlier : (j i : ℕ) (x : Item) → j < from → held b j i ≡ Some x → held c j i ≡ Some x
  pub handlers : (j : ℕ) → handled c j ≡ handled b j
  pub blocks : length c.blocks ≡ length b.blocks
  pub ops : length c.ops ≡ length b.ops

pub all_jump : (plan : Way → Option ℕ) (es : List Exit) (b : Building) (from to : ℕ) → OpenIn b from to es → Jumps b (all_jumping plan es b) from to es plan
all_jump plan [] b from to o = record { has = λ p fn h. h; jumps = λ p fn place h j. tt; opens = tt; extends = λ a x le. x; earlier = λ j i x lt e. e; handlers = λ j. refl; blocks = refl; ops = refl }
all_jump plan (e ∷ es) b from to o = one (plan e.way) refl (λ c. all_jump plan es c (suc e.block) to)
  where
    one : (t : Option ℕ) → plan e.way ≡ t → ((c : Building) → OpenIn c (suc e.block) to es → Jumps c (all_jumping plan es c) (suc e.block) to es plan) → Jumps b (all_jumping plan es (jumping t e.block b)) from to (e ∷ es) plan
    one None is rest =
        let d : Building = all_jumping plan es b in
        let r = rest b o.3 in let low = o.1 in
        record {
          has = r.has;
          jumps = λ p fn place h j.
              let P : Option ℕ → Type 0 = λ z. JumpTo p fn d place (stays z e (left plan es)) in
              let k = subst P is j in
              (λ i f. k.0 i (r.earlier e.block i _ (omega arith) f) ∙ ap (λ z. Some (End (Goto (number_or z (place e.way))))) (sym is), r.jumps p fn place h k.1);
          opens = (let P : Option ℕ → Type 0 = λ z. OpenIn d from to (stays z e (left plan es)) in subst P (sym is) (record { place = o.0.place; is = r.earlier e.block _ _ (omega arith) o.0.is }, o.1, o.2, r.opens));
          extends = λ a x le. r.extends a x (omega arith);
          earlier = λ j i x lt f. r.earlier j i x (omega arith) f;
          handlers = r.handlers;
          blocks = r.blocks;
          ops = r.ops;
        }
    one (Some t) is rest =
        let c : Building = record b { blocks = with_last b.blocks e.block (Goto t) } in
        let d : Building = all_jumping plan es c in
        let q = patches b c e.block (Goto t) o.0 (λ z. cc) refl in
        let s : Stays b c (suc e.block) to = stays_patch_below b c (suc e.block) to e.block (Goto t) (omega arith) q in
        let r = rest c (open_on b c (suc e.block) to (suc e.block) to es s (le_refl _) (le_refl _) o.3) in let low = o.1 in
        record {
          has = λ p fn h. q.has p fn (r.has p fn h);
          jumps = λ p fn place h j.
              let P : Option ℕ → Type 0 = λ z. JumpTo p fn d place (stays z e (left plan es)) in
              (λ i f. q.code p fn i (r.has p fn h) f ∙ ap (λ z. Some (End (Goto (number_or z (place e.way))))) (sym is), jump_back p fn b c (suc e.block) to (by plan place) es s o.3 (r.jumps p fn place h (subst P is j)));
          opens = (let P : Option ℕ → Type 0 = λ z. OpenIn d from to (stays z e (left plan es)) in subst P (sym is) (open_on d d (suc e.block) to from to (left plan es) (stays_by d d _ _ (extends_refl d)) (omega arith) (le_refl _) r.opens));
          extends = λ a x le. r.extends a (q.extends a x (omega arith)) (omega arith);
          earlier = λ j i x lt f. r.earlier j i x (omega arith) (q.others j i x (λ z. omega arith) f);
          handlers = λ j. r.handlers j ∙ q.handlers j;
          blocks = r.blocks ∙ q.blocks;
          ops = r.ops ∙ q.ops;
        }

-- in a builder that was made so
pub jumps_of : (plan : Way → Option ℕ) (es : List Exit) (b c : Building) (from to : ℕ) → c ≡ all_jumping plan es b → OpenIn b from to es → Jumps b c from to es plan
jumps_of plan es b c from to is o = let P : Building → Type 0 = λ z. Jumps b z from to es plan in subst P (sym is) (all_jump plan es b from to o)

pub within_jumps : (p : Program) (fn : ℕ) (b c : Building) (x y : ℕ) (es : List Exit) (plan : Way → Option ℕ) (from to : ℕ) (h : Option ℕ) → Jumps b c x y es plan → Within p fn c from to h → Within p fn b from to h
within_jumps p fn b c x y es plan from to h q at = record {
  has = q.has p fn at.has;
  guards = λ j a e. at.guards j a e ∙ ap (λ z. or_other z h) (q.handlers j);
}

pub jumping_blocks : (plan : Way → Option ℕ) (es : List Exit) (b : Building) → length (all_jumping plan es b).blocks ≡ length b.blocks
jumping_blocks plan [] b = refl
jumping_blocks plan (e ∷ es) b = jumping_blocks plan es (jumping (plan e.way) e.block b) ∙ one (plan e.way)
  where
    one : (o : Option ℕ) → length (jumping o e.block b).blocks ≡ length b.blocks
    one None = refl
    one (Some t) = with_last_length b.blocks e.block (Goto t)

-- ---- the loop that writes them

pub jumping_next : (plan : Way → Option ℕ) (es : List Exit) (i : ℕ) (e y : Exit) (o : Option ℕ) (a b c : Building) → i < length es → e ≡ get_or es i y → plan e.way ≡ o → c ≡ jumping o e.block b → all_jumping plan (drop i es) b ≡ all_jumping plan es a → all_jumping plan (drop (i + 1) es) c ≡ all_jumping plan es a
jumping_next plan es i e y o a b c lt is at new so_far =
    let d : drop i es ≡ e ∷ drop (i + 1) es = drop_more es i y lt ∙ ap (λ x. x ∷ drop (i + 1) es) (sym is) in
    ap (λ z. all_jumping plan (drop (i + 1) es) z) (new ∙ ap (λ z. jumping z e.block b) (sym at)) ∙ ap (λ z. all_jumping plan z b) (sym d) ∙ so_far

pub drop_past : {A : Type 0} (xs : List A) (i : ℕ) → length xs ≤ i → drop i xs ≡ []
drop_past xs i le = grind (arith, common_steps)

pub jumping_end : (plan : Way → Option ℕ) (es : List Exit) (i : ℕ) (a b : Building) → length es ≤ i → all_jumping plan (drop i es) b ≡ all_jumping plan es a → b ≡ all_jumping plan es a
jumping_end plan es i a b le so_far = ap (λ z. all_jumping plan z b) (sym (drop_past es i le)) ∙ so_far

-- the block at hand is there
pub open_first : (b : Building) (from to : ℕ) (es : List Exit) (i : ℕ) (e y : Exit) → i < length es → e ≡ get_or es i y → OpenIn b from to es → e.block < length b.blocks
open_first b from to [] i e y lt is o = absurd (omega arith)
open_first b from to (x ∷ es) zero e y lt is o =
    let P : Exit → Type 0 = λ z. z.block < length b.blocks in subst P (sym is) (open_below b x.block o.0)
open_first b from to (x ∷ es) (suc i) e y lt is o = open_first b (suc x.block) to es i e y (omega arith) is o.3
