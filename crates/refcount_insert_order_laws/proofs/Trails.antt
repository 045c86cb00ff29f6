-- Lines that are in order have shares at each of their places, where each line leads from its own to those of the next one.
use Rattle.std.proofs.Common.{◌≡◌, refl, sym, ap, ◌∙◌, subst, ℕ, zero, suc, ◌+◌, ◌-◌, ◌⊎◌, inl, inr, ⊎_elim, List, [], ◌∷◌, ◌++◌, length, arith, Option, Some, None}
use Rattle.std.specs.Prelude.{slice_get}
use Rattle.c_core.specs.declared.code.CArg.{CArg}
use Rattle.c_core.specs.declared.code.Line.{Line}
use Rattle.c_core.specs.declared.code.Line.TheVariants.{Label, Move, Lit, Call, Virtual, TraitCall, Goto, If, IfError, Turn, Return, Inc, Dec, XDec}
use Rattle.c_core.specs.declared.code.CFunc.{CFunc}
use Rattle.c_core.specs.declared.code.Code.{Code}
use Rattle.c_core.specs.declared.primitive.Primitive.{Primitive}
use Rattle.c_core.specs.Primitives.{row_of, primitive_named}
use Rattle.c_core_ownership_laws.specs.Shares.{Shares, with_owns, with_state, with_share, with_held, with_empty, unheld, unheld_if, is_noisy, may_refer, with_answer, with_outcome, left_over, Jumps, CallChecks, LineChecks, Checks}

-- what stands at a place of a list
abbrev pub at_place : List (Option Shares) → ℕ → Option Shares
at_place [] p = None
at_place (s ∷ ss) zero = s
at_place (s ∷ ss) (suc p) = at_place ss p

-- the first of a list, or what follows it
abbrev pub head : List (Option Shares) → Option Shares → Option Shares
head [] next = next
head (s ∷ ss) next = s

pub head_append : (ss tt : List (Option Shares)) (next : Option Shares) → head (ss ++ tt) next ≡ head ss (head tt next)
head_append [] tt next = refl
head_append (s ∷ ss) tt next = refl

pub at_first : (ss : List (Option Shares)) → head ss None ≡ at_place ss 0
at_first [] = refl
at_first (s ∷ ss) = refl

pub at_behind : (ss tt : List (Option Shares)) (p : ℕ) → at_place (ss ++ tt) (length ss + p) ≡ at_place tt p
at_behind [] tt p = let e : 0 + p ≡ p = omega arith in ap (at_place tt) e
at_behind (s ∷ ss) tt p =
    let e : suc (length ss) + p ≡ suc (length ss + p) = omega arith in
    ap (at_place (s ∷ (ss ++ tt))) e ∙ at_behind ss tt p

module _ (code : Code) (g : CFunc) (Enters : ℕ → Shares → Type 0) where
  -- each line leads from the shares of its place, if there are any, to those of the next place
  abbrev pub Leads : List Line → List (Option Shares) → Option Shares → Type 0
  Leads [] [] next = Unit {0}
  Leads (l ∷ ls) (s ∷ ss) next =
      ((σ : Shares) → s ≡ Some σ → LineChecks code g Enters σ l (λ τ. head ss next ≡ Some τ)) × Leads ls ss next
  Leads _ _ next = ⊥

  pub leads_append : (xs ys : List Line) (ss tt : List (Option Shares)) (next : Option Shares) → Leads xs ss (head tt next) → Leads ys tt next → Leads (xs ++ ys) (ss ++ tt) next
  leads_append [] ys [] tt next a b = b
  leads_append [] ys (s ∷ ss) tt next a b = absurd a
  leads_append (x ∷ xs) ys [] tt next a b = absurd a
  leads_append (x ∷ xs) ys (s ∷ ss) tt next a b =
      (λ σ e. subst (λ z. LineChecks code g Enters σ x (λ τ. z ≡ Some τ)) (sym (head_append ss tt next)) (a.0 σ e), leads_append xs ys ss tt next a.1 b)

  pub lead_at : (ls : List Line) (ss : List (Option Shares)) → Leads ls ss None → (p : ℕ) (l : Line) (σ : Shares) → slice_get ls p ≡ Some l → at_place ss p ≡ Some σ → LineChecks code g Enters σ l (λ τ. at_place ss (suc p) ≡ Some τ)
  lead_at [] ss h p l σ e s = let f : None ≡ Some l = e in absurd (cc)
  lead_at (x ∷ ls) [] h p l σ e s = absurd h
  lead_at (x ∷ ls) (t ∷ ss) h zero l σ e s =
      let f : Some x ≡ Some l = e in
      let same : x ≡ l = cc in
      subst (λ z. LineChecks code g Enters σ l (λ τ. z ≡ Some τ)) (at_first ss) (subst (λ z. LineChecks code g Enters σ z (λ τ. head ss None ≡ Some τ)) same (h.0 σ s))
  lead_at (x ∷ ls) (t ∷ ss) h (suc p) l σ e s = lead_at ls ss h.1 p l σ e s

  -- as many shares as lines
  pub leads_size : (ls : List Line) (ss : List (Option Shares)) (next : Option Shares) → Leads ls ss next → length ss ≡ length ls
  leads_size [] [] next h = refl
  leads_size [] (s ∷ ss) next h = absurd h
  leads_size (l ∷ ls) [] next h = absurd h
  leads_size (l ∷ ls) (s ∷ ss) next h = ap suc (leads_size ls ss next h.1)

  -- ---- one line
  -- a line leads to certain shares, or elsewhere
  abbrev Next : Shares → Line → (Shares → Type 0) → Type 0
  Next σ l Go =
      ((τ : Shares) × Go τ × LineChecks code g Enters σ l (λ ρ. ρ ≡ τ)) ⊎ LineChecks code g Enters σ l (λ ρ. ⊥)

  call_next : (σ : Shares) (x : Option ℕ) (name : List ℕ) (args : List CArg) (o : Option Primitive) (Go : Shares → Type 0) → CallChecks code g Enters σ x name args o Go → (τ : Shares) × Go τ × CallChecks code g Enters σ x name args o (λ ρ. ρ ≡ τ)
  call_next σ x name args (Some p) Go h =
      (with_outcome g.vars (row_of p).outcome x (unheld_if (is_noisy p) (record σ { owns = left_over g.vars (row_of p).parameters args σ.owns })), h.4, (h.0, h.1, h.2, h.3, refl))
  call_next σ x name args None Go h =
      (with_answer g.vars x (unheld σ), h.3, (h.0, h.1, h.2, refl))

  line_next : (σ : Shares) (l : Line) (Go : Shares → Type 0) → LineChecks code g Enters σ l Go → Next σ l Go
  line_next σ Label Go h = inl (σ, h, refl)
  line_next σ (Move x y) Go h =
      ⊎_elim
      (λ a. inl (with_share x 1 a.2.0 (with_owns y (σ.owns y - 1) σ), a.2.2, (h.0, inl (a.0, a.1, (a.2.0, a.2.1, refl)))))
      (λ o. ⊎_elim
      (λ a. inl (with_share x 0 (may_refer g.vars x) σ, a.2, (h.0, inr (inl (a.0, a.1, refl)))))
      (λ o. ⊎_elim
      (λ a. inl (with_held x σ, a.2, (h.0, inr (inr (inl (a.0, a.1, refl))))))
      (λ o. ⊎_elim
      (λ a. inl (with_empty x σ, a.2, (h.0, inr (inr (inr (inl (a.0, a.1, refl)))))))
      (λ a. inl (σ, a.2, (h.0, inr (inr (inr (inr (a.0, a.1, refl)))))))
      o)
      o)
      o)
      h.1
  line_next σ (Lit x l) Go h =
      inl (with_state x h.2.0 σ, h.2.1, (h.0, h.1, (h.2.0, refl)))
  line_next σ (Call x name args) Go h = inl (call_next σ x name args (primitive_named name) Go h)
  line_next σ (Virtual x o n args) Go h = inl (with_answer g.vars (Some x) (unheld σ), h.3, (h.0, h.1, h.2, refl))
  line_next σ (TraitCall x o t n args) Go h = inl (with_answer g.vars (Some x) (unheld σ), h.3, (h.0, h.1, h.2, refl))
  line_next σ (Goto n) Go h = inr h
  line_next σ (If x n m) Go h = inr h
  line_next σ (IfError x n m) Go h = inr h
  line_next σ Turn Go h = inl (σ, h, refl)
  line_next σ (Return x) Go h = inr h
  line_next σ (Inc x) Go h = inl (with_owns x (σ.owns x + 1) σ, h.1, (h.0, refl))
  line_next σ (Dec x) Go h = inl (unheld (with_owns x (σ.owns x - 1) σ), h.1, (h.0, refl))
  line_next σ (XDec x) Go h = inl (unheld (with_owns x (σ.owns x - 1) σ), h.1, (h.0, refl))

-- a line that is in order is so where more holds of the next one, and more of what is entered
module _ (code : Code) (g : CFunc) (Enters Into : ℕ → Shares → Type 0) (enters : (n : ℕ) (σ : Shares) → Enters n σ → Into n σ) where
  jumps_map : (σ : Shares) (n : ℕ) → Jumps code g Enters σ n → Jumps code g Into σ n
  jumps_map σ n j = (j.0, enters n j.0 j.1, j.2)

  module _ (σ : Shares) (Go Then : Shares → Type 0) (go : (τ : Shares) → Go τ → Then τ) where
    call_map : (x : Option ℕ) (name : List ℕ) (args : List CArg) (o : Option Primitive) → CallChecks code g Enters σ x name args o Go → CallChecks code g Into σ x name args o Then
    call_map x name args (Some p) h =
        (h.0, h.1, h.2, h.3, go (with_outcome g.vars (row_of p).outcome x (unheld_if (is_noisy p) (record σ { owns = left_over g.vars (row_of p).parameters args σ.owns }))) h.4)
    call_map x name args None h = (h.0, h.1, h.2, go (with_answer g.vars x (unheld σ)) h.3)

    pub line_map : (l : Line) → LineChecks code g Enters σ l Go → LineChecks code g Into σ l Then
    line_map Label h = go σ h
    line_map (Move x y) h = (
      h.0,
      ⊎_elim
          (λ a. inl (a.0, a.1, (a.2.0, a.2.1, go (with_share x 1 a.2.0 (with_owns y (σ.owns y - 1) σ)) a.2.2)))
          (λ o. inr (⊎_elim
          (λ a. inl (a.0, a.1, go (with_share x 0 (may_refer g.vars x) σ) a.2))
          (λ o. inr (⊎_elim
          (λ a. inl (a.0, a.1, go (with_held x σ) a.2))
          (λ o. inr (⊎_elim (λ a. inl (a.0, a.1, go (with_empty x σ) a.2)) (λ a. inr (a.0, a.1, go σ a.2)) o))
          o))
          o))
          h.1,
    )
    line_map (Lit x l) h = (h.0, h.1, (h.2.0, go (with_state x h.2.0 σ) h.2.1))
    line_map (Call x name args) h = call_map x name args (primitive_named name) h
    line_map (Virtual x o n args) h = (h.0, h.1, h.2, go (with_answer g.vars (Some x) (unheld σ)) h.3)
    line_map (TraitCall x o t n args) h = (h.0, h.1, h.2, go (with_answer g.vars (Some x) (unheld σ)) h.3)
    line_map (Goto n) h = jumps_map σ n h
    line_map (If x n m) h = (jumps_map σ n h.0, jumps_map σ m h.1)
    line_map (IfError x n m) h =
        ((h.0.0, jumps_map (with_state x h.0.0 σ) n h.0.1), jumps_map σ m h.1)
    line_map Turn h = go σ h
    line_map (Return x) h = h
    line_map (Inc x) h = (h.0, go (with_owns x (σ.owns x + 1) σ) h.1)
    line_map (Dec x) h = (h.0, go (unheld (with_owns x (σ.owns x - 1) σ)) h.1)
    line_map (XDec x) h = (h.0, go (unheld (with_owns x (σ.owns x - 1) σ)) h.1)

-- ---- trails
-- the shares at the places of lines that are in order
pub record Trail (code : Code) (g : CFunc) (Enters : ℕ → Shares → Type 0) (σ : Shares) (ls : List Line) (next : Option Shares) : Type 0 where
  pub shares : List (Option Shares)
  pub leads : Leads code g Enters ls shares next
  pub first : head shares next ≡ Some σ

module _ (code : Code) (g : CFunc) (Enters : ℕ → Shares → Type 0) (End : Shares → Type 0) (next : Option Shares) (end : (ρ : Shares) → End ρ → next ≡ Some ρ) where
  alone : (σ : Shares) (l : Line) (ls : List Line) (ss : List (Option Shares)) → LineChecks code g Enters σ l (λ τ. head ss next ≡ Some τ) → Leads code g Enters ls ss next → Trail code g Enters σ (l ∷ ls) next
  alone σ l ls ss h rest =
      record {
        shares = Some σ ∷ ss;
        leads = (λ τ e. let same : σ ≡ τ = cc in subst (λ z. LineChecks code g Enters z l (λ τ. head ss next ≡ Some τ)) same h, rest);
        first = refl;
      }

  -- nothing is known of the places behind a jump
  pub unknown : (ls : List Line) → (ss : List (Option Shares)) × Leads code g Enters ls ss next
  unknown [] = ([], tt)
  unknown (l ∷ ls) =
      let rest = unknown ls in
      (None ∷ rest.0, (λ σ e. let f : None ≡ Some σ = e in absurd (cc), rest.1))

  pub trail : (σ : Shares) (ls : List Line) → Checks code g Enters End σ ls → Trail code g Enters σ ls next
  trail σ [] h = record { shares = []; leads = tt; first = end σ h }
  trail σ (l ∷ ls) h =
      ⊎_elim
      (λ (a : (τ : Shares) × Checks code g Enters End τ ls × LineChecks code g Enters σ l (λ ρ. ρ ≡ τ)).
      let rest = trail a.0 ls a.1 in
      alone σ l ls rest.shares (line_map code g Enters Enters (λ n σ e. e) σ (λ ρ. ρ ≡ a.0) (λ τ. head rest.shares next ≡ Some τ) (λ τ e. rest.first ∙ ap Some (sym e)) l a.2) rest.leads)
      (λ (a : LineChecks code g Enters σ l (λ ρ. ⊥)).
      let rest = unknown ls in
      alone σ l ls rest.0 (line_map code g Enters Enters (λ n σ e. e) σ (λ ρ. ⊥) (λ τ. head rest.0 next ≡ Some τ) (λ τ e. absurd e) l a) rest.1)
      (line_next code g Enters σ l (λ τ. Checks code g Enters End τ ls) h)
