-- Where the edges to blocks lead: past a block of counts to where its jump goes, and elsewhere to the block itself.
use Rattle.std.proofs.Common.{◌≡◌, refl, sym, ◌∙◌, ap, subst, ℕ, zero, suc, ◌+◌, ◌≤◌, ◌<◌, arith, Bool, true, false, cond, List, [], ◌∷◌, length, Option, Some, None}
use Rattle.std.specs.Prelude.{slice_get, nat_lt}
use Rattle.std.specs.Option.{option_map_or, option_and_then}
use Rattle.std.proofs.lemmas.Bool.{ltb-true}
use Rattle.std.proofs.lemmas.Option.{slice_get_within}
use Rattle.ir_core.specs.declared.code.Op.{Op}
use Rattle.ir_core.specs.declared.code.Last.{Last}
use Rattle.ir_core.specs.declared.code.Last.TheVariants.{Goto, If, IfError, Return, Unreachable}
use Rattle.ir_core.specs.declared.code.Block.{Block}
use Rattle.refcount_insert_meaning_laws.specs.Uncounted.{without_counts, if_ahead, passes, passed_to, goal_within, goal}

-- ---- blocks of counts
ahead_is : (k t c : ℕ) → if_ahead k t ≡ Some c → (t ≡ c) × (k < t)
ahead_is k t c e = by (nat_lt k t) refl e
  where
    by : (b : Bool) → nat_lt k t ≡ b → cond b (Some t) None ≡ Some c → (t ≡ c) × (k < t)
    by true is e = let same : t ≡ c = cc in (same, ltb-true k t is)
    by false is e = let f : None ≡ Some c = e in absurd (cc)

pub passes_is : (k : ℕ) (ops left : List (Op × ℕ)) (last : Last) (c : ℕ) → passes k ops left last ≡ Some c → (left ≡ []) × (last ≡ Goto c) × (k < c)
passes_is k [] left last c e = let f : None ≡ Some c = e in absurd (cc)
passes_is k (o ∷ os) (x ∷ xs) last c e = let f : None ≡ Some c = e in absurd (cc)
passes_is k (o ∷ os) [] (Goto t) c e =
    let h = ahead_is k t c e in
    (refl, ap (λ z. Goto z) h.0, subst (λ z. k < z) h.0 h.1)
passes_is k (o ∷ os) [] (If x a b) c e = let f : None ≡ Some c = e in absurd (cc)
passes_is k (o ∷ os) [] (IfError x a b line) c e = let f : None ≡ Some c = e in absurd (cc)
passes_is k (o ∷ os) [] (Return x) c e = let f : None ≡ Some c = e in absurd (cc)
passes_is k (o ∷ os) [] Unreachable c e = let f : None ≡ Some c = e in absurd (cc)

ahead_there : (k t : ℕ) → k < t → if_ahead k t ≡ Some t
ahead_there k t lt = by (nat_lt k t) refl
  where
    by : (b : Bool) → nat_lt k t ≡ b → cond b (Some t) None ≡ Some t
    by true is = refl
    by false is = absurd (omega (arith, lt, Rattle.std.proofs.lemmas.Bool.ltb-false k t is))

pub passes_there : (k : ℕ) (ops : List (Op × ℕ)) (t : ℕ) → (ops ≡ [] → ⊥) → k < t → passes k ops [] (Goto t) ≡ Some t
passes_there k [] t some lt = absurd (some refl)
passes_there k (o ∷ os) t some lt = ahead_there k t lt

module _ (blocks : List Block) where
  pub passed_at : (k : ℕ) (b : Block) → slice_get blocks k ≡ Some b → passed_to blocks k ≡ passes k b.ops (without_counts b.ops) b.last
  passed_at k b e = ap (option_and_then (λ (z : Block). passes k z.ops (without_counts z.ops) z.last)) e

  record Passed (k c : ℕ) : Type 0 where
    there : k < length blocks
    later : k < c

  passed_is : (k c : ℕ) → passed_to blocks k ≡ Some c → Passed k c
  passed_is k c e = by (slice_get blocks k) refl
    where
      by : (o : Option Block) → slice_get blocks k ≡ o → Passed k c
      by None is =
          let f : None ≡ Some c = sym (ap (option_and_then (λ (z : Block). passes k z.ops (without_counts z.ops) z.last)) is) ∙ e in
          absurd (cc)
      by (Some b) is =
          let h = passes_is k b.ops (without_counts b.ops) b.last c (sym (passed_at k b is) ∙ e) in
          record { there = slice_get_within blocks k b is; later = h.2 }

  -- ---- goals
  stable : (n k : ℕ) → length blocks ≤ n + k → goal_within blocks n k ≡ goal_within blocks (suc n) k
  stable zero k le = by (passed_to blocks k) refl
    where
      by : (o : Option ℕ) → passed_to blocks k ≡ o → k ≡ option_map_or (goal_within blocks zero) o k
      by None e = refl
      by (Some c) e = let h = passed_is k c e in absurd (omega (arith, le, h.there))
  stable (suc n) k le = by (stable n) (passed_to blocks k) refl
    where
      by : ((c : ℕ) → length blocks ≤ n + c → goal_within blocks n c ≡ goal_within blocks (suc n) c) → (o : Option ℕ) → passed_to blocks k ≡ o → option_map_or (goal_within blocks n) o k ≡ option_map_or (goal_within blocks (suc n)) o k
      by rest None e = refl
      by rest (Some c) e = let h = passed_is k c e in rest c (omega (arith, le, h.later))

  pub goal_here : (k : ℕ) → passed_to blocks k ≡ None → goal blocks k ≡ k
  goal_here k e = by (length blocks)
    where
      by : (n : ℕ) → goal_within blocks n k ≡ k
      by zero = refl
      by (suc n) = ap (λ o. option_map_or (goal_within blocks n) o k) e

  pub goal_past : (k c : ℕ) → passed_to blocks k ≡ Some c → goal blocks k ≡ goal blocks c
  goal_past k c e =
      let h = passed_is k c e in by (length blocks) refl h.there h.later
    where
      by : (n : ℕ) → length blocks ≡ n → k < length blocks → k < c → goal_within blocks n k ≡ goal_within blocks n c
      by zero size there later = absurd (omega (arith, size, there))
      by (suc n) size there later =
          ap (λ o. option_map_or (goal_within blocks n) o k) e ∙ stable n c (omega (arith, size, later))
