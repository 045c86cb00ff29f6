-- A block with its counts, without them: it has the operations that it had.
use Rattle.std.proofs.Common.{◌≡◌, refl, sym, ◌∙◌, ap, ℕ, suc, Bool, true, false, cond, List, [], ◌∷◌, ◌++◌, append-nil, subst}
use Rattle.std.specs.Prelude.{nat_lt}
use Rattle.ir_core.specs.declared.code.Op.{Op}
use Rattle.ir_core.specs.declared.code.Op.TheVariants.{Move, Lit, Prim, Call, Virtual, TraitCall, Turn, Inc, Dec, XDec}
use Rattle.ir_core.specs.declared.code.Last.{Last}
use Rattle.ir_core.specs.declared.code.Last.TheVariants.{Goto, If, IfError, Return, Unreachable}
use Rattle.ir_core.specs.declared.code.Func.{Func}
use Rattle.ir_core.specs.Shape.{op_fits, OpsFit}
use Rattle.refcount_insert_rule.specs.Rule.{ups, down, downs, IsGroup, IsEdge}
use Rattle.refcount_insert_rule.specs.Counted.{counts_register, Tables, AreGroups, AreLast, AreAll, AreTurned, IsBody}
use Rattle.refcount_insert_meaning_laws.specs.Uncounted.{is_count, without_counts}

pub fits_no_count : (o : Op) → op_fits o ≡ true → is_count o ≡ false
fits_no_count (Move x y) e = refl
fits_no_count (Lit x l) e = refl
fits_no_count (Prim to q args) e = refl
fits_no_count (Call x g args) e = refl
fits_no_count (Virtual x o n args) e = refl
fits_no_count (TraitCall x o t n args) e = refl
fits_no_count Turn e = refl
fits_no_count (Inc x) e = absurd (cc)
fits_no_count (Dec x) e = absurd (cc)
fits_no_count (XDec x) e = absurd (cc)

pub left_of_fitting : (ops : List (Op × ℕ)) → OpsFit ops → without_counts ops ≡ ops
left_of_fitting [] fits = refl
left_of_fitting (o ∷ os) fits =
    ap (λ b. cond b (without_counts os) (o ∷ without_counts os)) (fits_no_count o.0 fits.0) ∙ ap (λ z. o ∷ z) (left_of_fitting os fits.1)

left_both : (xs ys : List (Op × ℕ)) → without_counts (xs ++ ys) ≡ without_counts xs ++ without_counts ys
left_both [] ys = refl
left_both (x ∷ xs) ys = by (left_both xs ys) (is_count x.0)
  where
    by : without_counts (xs ++ ys) ≡ without_counts xs ++ without_counts ys → (b : Bool) → cond b (without_counts (xs ++ ys)) (x ∷ without_counts (xs ++ ys)) ≡ cond b (without_counts xs) (x ∷ without_counts xs) ++ without_counts ys
    by rest true = rest
    by rest false = ap (λ z. x ∷ z) rest

left_ups : (rs : List ℕ) (line : ℕ) → without_counts (ups rs line) ≡ []
left_ups [] line = refl
left_ups (r ∷ rs) line = left_ups rs line

down_counts : (b : Bool) (r : ℕ) → is_count (down b r) ≡ true
down_counts true r = refl
down_counts false r = refl

left_downs : (ds : List (ℕ × Bool)) (line : ℕ) → without_counts (downs ds line) ≡ []
left_downs [] line = refl
left_downs (d ∷ ds) line =
    ap (λ b. cond b (without_counts (downs ds line)) ((down d.1 d.0, line) ∷ without_counts (downs ds line))) (down_counts d.1 d.0) ∙ left_downs ds line

left_all : (xs ys : List (Op × ℕ)) → without_counts xs ≡ [] → without_counts ys ≡ [] → without_counts (xs ++ ys) ≡ []
left_all xs ys a b = left_both xs ys ∙ (ap (λ z. z ++ without_counts ys) a ∙ b)

pub left_of_edge : (have want : ℕ → ℕ) (ops : List (Op × ℕ)) → IsEdge have want ops → without_counts ops ≡ []
left_of_edge have want ops e =
    ap without_counts e.is ∙ left_all (ups e.up 0) (downs e.down 0) (left_ups e.up 0) (left_downs e.down 0)

left_of_group : (counted : ℕ → Bool) (o : Op × ℕ) (have want : ℕ → ℕ) (group : List (Op × ℕ)) → op_fits o.0 ≡ true → IsGroup counted o have want group → without_counts group ≡ o ∷ []
left_of_group counted o have want group fits g =
    ap without_counts g.is
    ∙ (left_both (ups g.up o.1) (o ∷ downs g.down o.1)
    ∙ (ap (λ z. z ++ without_counts (o ∷ downs g.down o.1)) (left_ups g.up o.1)
    ∙ (ap (λ b. cond b (without_counts (downs g.down o.1)) (o ∷ without_counts (downs g.down o.1))) (fits_no_count o.0 fits)
    ∙ ap (λ z. o ∷ z) (left_downs g.down o.1))))

module _ (f : Func) (t : Tables f) (number : ℕ → ℕ) where
  left_of_groups : (at : ℕ → ℕ → ℕ) (os groups : List (Op × ℕ)) → OpsFit os → AreGroups f t number at os groups → without_counts groups ≡ os
  left_of_groups at [] groups fits e = ap without_counts e
  left_of_groups at (o ∷ os) groups fits e =
      ap without_counts e.2
      ∙ (left_both e.0 e.1
      ∙ (ap (λ z. z ++ without_counts e.1) (left_of_group (counts_register f.regs) o (at 0) (at 1) e.0 fits.0 e.3)
      ∙ ap (λ z. o ∷ z) (left_of_groups (λ p. at (suc p)) os e.1 fits.1 e.4)))

  left_of_last : (have : ℕ → ℕ) (last : Last) (ops : List (Op × ℕ)) → AreLast f t number have last ops → without_counts ops ≡ []
  left_of_last have (Goto b) ops e = left_of_edge have _ ops e
  left_of_last have (If x a b) ops e = ap without_counts e
  left_of_last have (IfError x a b line) ops e = ap without_counts e
  left_of_last have (Return x) ops e = ap without_counts e.is ∙ left_ups e.up 0
  left_of_last have Unreachable ops e = ap without_counts e

  left_of_all : (at : ℕ → ℕ → ℕ) (old : List (Op × ℕ)) (last : Last) (ops : List (Op × ℕ)) → OpsFit old → AreAll f t number at old last ops → without_counts ops ≡ old
  left_of_all at old last ops fits e =
      ap without_counts e.2
      ∙ (left_both e.0 e.1
      ∙ (ap (λ z. z ++ without_counts e.1) (left_of_groups at old e.0 fits e.3)
      ∙ (ap (λ z. old ++ z) (left_of_last _ last e.1 e.4) ∙ append-nil old)))

  fits_first : (xs ys : List (Op × ℕ)) → OpsFit (xs ++ ys) → OpsFit xs
  fits_first [] ys fits = tt
  fits_first (x ∷ xs) ys fits = (fits.0, fits_first xs ys fits.1)

  fits_second : (xs ys : List (Op × ℕ)) → OpsFit (xs ++ ys) → OpsFit ys
  fits_second [] ys fits = fits
  fits_second (x ∷ xs) ys fits = fits_second xs ys fits.1

  left_of_turned : (at : ℕ → ℕ → ℕ) (old : List (Op × ℕ)) (b : ℕ) (ops : List (Op × ℕ)) → OpsFit old → AreTurned f t number at old b ops → without_counts ops ≡ old
  left_of_turned at old b ops fits e =
      let before : List (Op × ℕ) = e.0 in
      let turn : Op × ℕ = e.1 in
      let counts : List (Op × ℕ) = e.3 in
      let both : OpsFit (before ++ (turn ∷ [])) = subst OpsFit e.4 fits in
      ap without_counts e.5
      ∙ (left_both e.2 (counts ++ (turn ∷ []))
      ∙ (ap (λ z. z ++ without_counts (counts ++ (turn ∷ []))) (left_of_groups at before e.2 (fits_first before (turn ∷ []) both) e.6)
      ∙ (ap (λ z. before ++ z) (left_both counts (turn ∷ []))
      ∙ (ap (λ z. before ++ (z ++ without_counts (turn ∷ []))) (left_of_edge _ _ counts e.7)
      ∙ (ap (λ z. before ++ z) (left_of_fitting (turn ∷ []) (fits_second before (turn ∷ []) both)) ∙ sym e.4)))))

  left_of_goto : (k : ℕ) (at : ℕ → ℕ → ℕ) (old : List (Op × ℕ)) (b : ℕ) (ops : List (Op × ℕ)) (up : Bool) → OpsFit old → cond up (AreAll f t number at old (Goto b) ops) (AreTurned f t number at old b ops) → without_counts ops ≡ old
  left_of_goto k at old b ops true fits e = left_of_all at old (Goto b) ops fits e
  left_of_goto k at old b ops false fits e = left_of_turned at old b ops fits e

  -- a whole block
  pub left_of_body : (k : ℕ) (at : ℕ → ℕ → ℕ) (old : List (Op × ℕ)) (last : Last) (ops : List (Op × ℕ)) → OpsFit old → IsBody f t number k at old last ops → without_counts ops ≡ old
  left_of_body k at old (Goto b) ops fits e = left_of_goto k at old b ops (nat_lt k b) fits e
  left_of_body k at old (If x a b) ops fits e = left_of_all at old (If x a b) ops fits e
  left_of_body k at old (IfError x a b line) ops fits e = left_of_all at old (IfError x a b line) ops fits e
  left_of_body k at old (Return x) ops fits e = left_of_all at old (Return x) ops fits e
  left_of_body k at old Unreachable ops fits e = left_of_all at old Unreachable ops fits e
