-- How one program is shown to mean the same as another: by a relation between their runs.
use Rattle.std.proofs.Common.{◌≡◌, ◌≢◌, sym, ◌∙◌, ap, subst, ℕ, zero, suc, ◌+◌, ◌-◌, ◌≤◌, arith, ◌⊎◌, ⊎_elim}
use Rattle.value_core.specs.Ending.{Ending}
use Rattle.value_core.specs.Items.{Items}
use Rattle.ir_core.specs.declared.code.Program.{Program}
use Rattle.ir_core.specs.Effects.{World}
use Rattle.ir_core.specs.Meaning.{Config, Ended, Stuck, Mode, step, steps}
use Rattle.ir_core.specs.Runs.{start, ComesTo, MeansSame, NeverStuck}
use Rattle.ir_core.proofs.RunLemmas.{steps_on, stays_stuck, stays_ended}
use Rattle.ir_core.proofs.ModeLemmas.{unstuck_is_plain}

-- Some steps of the old run, one at least, are some steps of the new one, one at least. An end leads to the same end; and what
-- the new run ends with, or is stuck at, the old one has ended with, or is stuck at or one step in front of it
pub record Simulates (m k : Mode) (p q : Program) (R : Config → Config → Type 0) : Type 0 where
  pub moves : (c d : Config) → R c d → (j : ℕ) × (n : ℕ) × R (steps m p (suc j) c) (steps k q (suc n) d)
  pub ends : (e : Ending) (w : World) (d : Config) → R (Ended e w) d → (n : ℕ) × (steps k q n d ≡ Ended e w)
  pub from_end : (c : Config) (e : Ending) (w : World) → R c (Ended e w) → (c ≡ Ended e w) ⊎ (step m p c ≡ Stuck)
  pub from_stuck : (c : Config) → R c Stuck → (c ≡ Stuck) ⊎ (step m p c ≡ Stuck)

module _ (m k : Mode) (p q : Program) (R : Config → Config → Type 0) (s : Simulates m k p q R) where
  -- the old run ends: so does the new one
  forward : (n : ℕ) (c d : Config) (e : Ending) (w : World) → R c d → steps m p n c ≡ Ended e w → (i : ℕ) × (steps k q i d ≡ Ended e w)
  forward zero c d e w r is = s.ends e w d (subst (λ x. R x d) is r)
  forward (suc n) c d e w r is =
      let h = s.moves c d r in
      let j : ℕ = h.0 in
      let i : ℕ = h.1 in
      let later : steps m p (suc n + j) c ≡ Ended e w =
      steps_on m p (suc n) j c ∙ (ap (steps m p j) is ∙ stays_ended m p j e w) in
      let same : suc j + n ≡ suc n + j = omega arith in
      let rest : steps m p n (steps m p (suc j) c) ≡ Ended e w =
      sym (steps_on m p (suc j) n c) ∙ (ap (λ x. steps m p x c) same ∙ later) in
      let more = forward n (steps m p (suc j) c) (steps k q (suc i) d) e w h.2 rest in
      (suc i + more.0, steps_on k q (suc i) more.0 d ∙ more.1)

  -- after so many steps of the new run, or more, the two are related
  rounds : (n : ℕ) (c d : Config) → R c d → (a : ℕ) × (b : ℕ) × (n ≤ b) × R (steps m p a c) (steps k q b d)
  rounds zero c d r = (0, 0, omega arith, r)
  rounds (suc n) c d r =
      let h = s.moves c d r in
      let j : ℕ = h.0 in
      let i : ℕ = h.1 in
      let more = rounds n (steps m p (suc j) c) (steps k q (suc i) d) h.2 in
      let size = more.2 in
      let old : steps m p (suc j + more.0) c ≡ steps m p more.0 (steps m p (suc j) c) = steps_on m p (suc j) more.0 c in
      let new : steps k q (suc i + more.1) d ≡ steps k q more.1 (steps k q (suc i) d) = steps_on k q (suc i) more.1 d in
      (suc j + more.0, suc i + more.1, omega arith, rw (old, new) more.3)

  -- a step behind so many
  one_more : (a : ℕ) (c : Config) → step m p (steps m p a c) ≡ Stuck → steps m p (a + 1) c ≡ Stuck
  one_more a c e = steps_on m p a 1 c ∙ e

  stuck_by : (b n : ℕ) (d : Config) → n ≤ b → steps k q n d ≡ Stuck → steps k q b d ≡ Stuck
  stuck_by b n d l e =
      let same : b ≡ n + (b - n) = omega arith in
      ap (λ x. steps k q x d) same ∙ (steps_on k q n (b - n) d ∙ (ap (steps k q (b - n)) e ∙ stays_stuck k q (b - n)))

  ended_by : (b n : ℕ) (d : Config) (e : Ending) (w : World) → n ≤ b → steps k q n d ≡ Ended e w → steps k q b d ≡ Ended e w
  ended_by b n d e w l is =
      let same : b ≡ n + (b - n) = omega arith in
      ap (λ x. steps k q x d) same ∙ (steps_on k q n (b - n) d ∙ (ap (steps k q (b - n)) is ∙ stays_ended k q (b - n) e w))

  module _ (c d : Config) (r : R c d) (free : (n : ℕ) → steps m p n c ≢ Stuck) where
    -- where the old run is never stuck the new one is not
    unstuck : (n : ℕ) → steps k q n d ≢ Stuck
    unstuck n e =
        let h = rounds n c d r in
        let at : R (steps m p h.0 c) Stuck = subst (λ x. R (steps m p h.0 c) x) (stuck_by h.1 n d h.2 e) h.3 in
        ⊎_elim (λ x. free h.0 x) (λ x. free (h.0 + 1) (one_more h.0 c x)) (s.from_stuck (steps m p h.0 c) at)

    -- and where the new one ends the old one does
    backward : (n : ℕ) (e : Ending) (w : World) → steps k q n d ≡ Ended e w → (i : ℕ) × (steps m p i c ≡ Ended e w)
    backward n e w is =
        let h = rounds n c d r in
        let at : R (steps m p h.0 c) (Ended e w) = subst (λ x. R (steps m p h.0 c) x) (ended_by h.1 n d e w h.2 is) h.3 in
        ⊎_elim (λ x. (h.0, x)) (λ x. absurd (free (h.0 + 1) (one_more h.0 c x))) (s.from_end (steps m p h.0 c) e w at)

  module _ (starts : (turns : ℕ) (items : Items) → R (start p turns items) (start q turns items)) (free : NeverStuck m p) where
    pub never_stuck : NeverStuck k q
    never_stuck turns items n = unstuck (start p turns items) (start q turns items) (starts turns items) (free turns items) n

    pub means_same : MeansSame p q
    means_same turns items e w = (on, back)
      where
        on : ComesTo p turns items e w → ComesTo q turns items e w
        on h =
            let strict : steps m p h.0 (start p turns items) ≡ Ended e w = unstuck_is_plain m p h.0 (start p turns items) (free turns items h.0) ∙ h.1 in
            let there = forward h.0 (start p turns items) (start q turns items) e w (starts turns items) strict in
            (there.0, sym (unstuck_is_plain k q there.0 (start q turns items) (never_stuck turns items there.0)) ∙ there.1)

        back : ComesTo q turns items e w → ComesTo p turns items e w
        back h =
            let strict : steps k q h.0 (start q turns items) ≡ Ended e w = unstuck_is_plain k q h.0 (start q turns items) (never_stuck turns items h.0) ∙ h.1 in
            let there = backward (start p turns items) (start q turns items) (starts turns items) (free turns items) h.0 e w strict in
            (there.0, sym (unstuck_is_plain m p there.0 (start p turns items) (free turns items there.0)) ∙ there.1)
