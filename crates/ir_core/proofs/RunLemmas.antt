-- Runs in parts: what is stuck or ended stays so, and a program comes to one end.
use Rattle.std.proofs.Common.{◌≡◌, ◌≢◌, refl, sym, ◌∙◌, ap, ℕ, zero, suc, ◌+◌, arith}
use Rattle.value_core.specs.Ending.{Ending}
use Rattle.ir_core.specs.declared.code.Program.{Program}
use Rattle.ir_core.specs.Effects.{World}
use Rattle.ir_core.specs.Meaning.{Config, Ended, Stuck, Mode, step, steps}

module _ (m : Mode) (p : Program) where
  pub steps_on : (j k : ℕ) (c : Config) → steps m p (j + k) c ≡ steps m p k (steps m p j c)
  steps_on zero k c = let e : 0 + k ≡ k = omega arith in ap (λ i. steps m p i c) e
  steps_on (suc j) k c =
      let e : suc j + k ≡ suc (j + k) = omega arith in ap (λ i. steps m p i c) e ∙ steps_on j k (step m p c)

  pub stays_stuck : (n : ℕ) → steps m p n Stuck ≡ Stuck
  stays_stuck zero = refl
  stays_stuck (suc n) = stays_stuck n

  pub stays_ended : (n : ℕ) (e : Ending) (w : World) → steps m p n (Ended e w) ≡ Ended e w
  stays_ended zero e w = refl
  stays_ended (suc n) e w = stays_ended n e w

  -- a run that ended in n steps has ended the same way n more steps behind any step
  ended_later : (n k : ℕ) (c : Config) (e : Ending) (w : World) → steps m p n c ≡ Ended e w → steps m p (n + k) c ≡ Ended e w
  ended_later n k c e w is = steps_on n k c ∙ (ap (steps m p k) is ∙ stays_ended k e w)

  pub ended_is_calm : (n k : ℕ) (c : Config) (e : Ending) (w : World) → steps m p n c ≡ Ended e w → steps m p k c ≢ Stuck
  ended_is_calm n k c e w is stuck =
      let early : steps m p (k + n) c ≡ Stuck = steps_on k n c ∙ (ap (steps m p n) stuck ∙ stays_stuck n) in
      let same : n + k ≡ k + n = omega arith in
      let both : Ended e w ≡ Stuck = sym (ended_later n k c e w is) ∙ (ap (λ i. steps m p i c) same ∙ early) in
      cc

  pub ends_are_one : (j k : ℕ) (c : Config) (e f : Ending) (v w : World) → steps m p j c ≡ Ended e v → steps m p k c ≡ Ended f w → (e ≡ f) × (v ≡ w)
  ends_are_one j k c e f v w a b =
      let same : j + k ≡ k + j = omega arith in
      let both : Ended e v ≡ Ended f w = sym (ended_later j k c e v a) ∙ (ap (λ i. steps m p i c) same ∙ ended_later k j c f w b) in
      (cc, cc)
