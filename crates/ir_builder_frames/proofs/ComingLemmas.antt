-- How stretches of a run follow one another.
use Rattle.ir_builder_frames.proofs.Common.{Bool, true, false, Some, None, needs, Stop, Ended, world, ◌≡◌, ℕ, ◌+◌, ◌≤◌, refl, sym, ap, ◌∙◌, subst, arith, le_refl, Value, State, Outcome, Gives, Raises, Stops, Does, on_to, Program, Config, Strict, step, steps, Leads, Ends}
use Rattle.value_core.specs.Ending.{Ending}
use Rattle.source_meaning.specs.State as source
use Rattle.source_meaning.specs.SourceRun.{ending_by}
use Rattle.ir_core.proofs.RunLemmas.{steps_on}

module _ (p : Program) where
  pub leads_refl : (c : Config) → Leads p c c
  leads_refl c = record { count = 0; is = refl }

  pub leads_trans : (c d e : Config) → Leads p c d → Leads p d e → Leads p c e
  leads_trans c d e x y = record { count = x.count + y.count; is = steps_on Strict p x.count y.count c ∙ ap (λ z. steps Strict p y.count z) x.is ∙ y.is }

  pub leads_step : (c d : Config) → step Strict p c ≡ d → Leads p c d
  leads_step c d e = record { count = 1; is = e }

  pub leads_as : (c d e : Config) → d ≡ e → Leads p c d → Leads p c e
  leads_as c d e is x = record { count = x.count; is = x.is ∙ is }

  pub ends_from : {A : Type 0} (s t : ℕ) (c d : Config) (res : Outcome A) (R : A → State → Config → Type 0) (E : Value → State → Config → Type 0) → s ≤ t → Leads p c d → Ends p s d res R E → Ends p t c res R E
  ends_from s t c d (Gives a w) R E le l h = (omega (arith, h.0), h.1, leads_trans c d h.1 l h.2, h.3)
  ends_from s t c d (Raises v w) R E le l h = (omega (arith, h.0), h.1, leads_trans c d h.1 l h.2, h.3)
  ends_from s t c d (Stops x w) R E le l h = λ e is. leads_trans c d _ l (h e is)

  pub ends_on : {A B : Type 0} (t : ℕ) (c : Config) (res : Outcome A) (R : A → State → Config → Type 0) (E F : Value → State → Config → Type 0) (go : A → Does B) (S : B → State → Config → Type 0) → Ends p t c res R E → ((a : A) (s : State) (d : Config) → s.turns ≤ t → R a s d → Ends p s.turns d (go a s) S F) → ((v : Value) (s : State) (d : Config) → E v s d → F v s d) → Ends p t c (on_to res go) S F
  ends_on t c (Gives a s) R E F go S h next up = ends_from s.turns t c h.1 (go a s) S F h.0 h.2 (next a s h.1 h.0 h.3)
  ends_on t c (Raises v s) R E F go S h next up = (h.0, h.1, h.2, up v s h.1 h.3)
  ends_on t c (Stops w s) R E F go S h next up = h

  -- the end of the run
  pub ends_so : {A : Type 0} (t : ℕ) (c : Config) (w : Stop) (e : Ending) (s : State) (R : A → State → Config → Type 0) (E : Value → State → Config → Type 0) → ending_by w ≡ Some e → Leads p c (Ended e (world None s)) → Ends p t c (Stops w s) R E
  ends_so t c w e s R E is l f ends = let same : Some e ≡ Some f = sym is ∙ ends in subst (λ z. Leads p c (Ended z (world None s))) (cc) l

  -- of a source that is stuck nothing is asked
  pub ends_stuck : {A : Type 0} (t : ℕ) (c : Config) (s : State) (R : A → State → Config → Type 0) (E : Value → State → Config → Type 0) → Ends p t c (Stops source.Stuck s) R E
  ends_stuck t c s R E e is = let f : None ≡ Some e = is in absurd (cc)

  -- nor of one that is where something is missing
  pub ends_needed : {A : Type 0} (t : ℕ) (c : Config) (b : Bool) (d : Does A) (s : State) (R : A → State → Config → Type 0) (E : Value → State → Config → Type 0) → (b ≡ true → Ends p t c (d s) R E) → Ends p t c (needs b d s) R E
  ends_needed t c true d s R E h = h refl
  ends_needed t c false d s R E h = ends_stuck t c s R E

  -- some steps to a value
  pub ends_lead : {A : Type 0} (a : A) (s : State) (c d : Config) (R : A → State → Config → Type 0) (E : Value → State → Config → Type 0) → Leads p c d → R a s d → Ends p s.turns c (Gives a s) R E
  ends_lead a s c d R E l r = (le_refl s.turns, d, l, r)

  -- nothing is left to do
  pub ends_now : {A : Type 0} (a : A) (s : State) (d : Config) (R : A → State → Config → Type 0) (E : Value → State → Config → Type 0) → R a s d → Ends p s.turns d (Gives a s) R E
  ends_now a s d R E r = (le_refl s.turns, d, leads_refl d, r)

  -- from an equal configuration
  pub ends_at : {A : Type 0} (t : ℕ) (c d : Config) (res : Outcome A) (R : A → State → Config → Type 0) (E : Value → State → Config → Type 0) → d ≡ c → Ends p t c res R E → Ends p t d res R E
  ends_at t c d res R E e h = let P : Config → Type 0 = λ x. Ends p t x res R E in subst P (sym e) h

  -- of an equal outcome
  pub ends_of : {A : Type 0} (t : ℕ) (c : Config) (x y : Outcome A) (R : A → State → Config → Type 0) (E : Value → State → Config → Type 0) → x ≡ y → Ends p t c y R E → Ends p t c x R E
  ends_of {A} t c x y R E e h = let P : Outcome A → Type 0 = λ z. Ends p t c z R E in subst P (sym e) h

  -- with weaker facts at the end
  pub ends_map : {A : Type 0} (t : ℕ) (c : Config) (res : Outcome A) (R S : A → State → Config → Type 0) (E F : Value → State → Config → Type 0) → ((a : A) (s : State) (d : Config) → R a s d → S a s d) → ((v : Value) (s : State) (d : Config) → E v s d → F v s d) → Ends p t c res R E → Ends p t c res S F
  ends_map t c (Gives a s) R S E F f g h = (h.0, h.1, h.2, f a s h.1 h.3)
  ends_map t c (Raises v s) R S E F f g h = (h.0, h.1, h.2, g v s h.1 h.3)
  ends_map t c (Stops w s) R S E F f g h = h

  -- and a few more steps behind a value
  pub ends_more : {A : Type 0} (t : ℕ) (c : Config) (res : Outcome A) (R S : A → State → Config → Type 0) (E F : Value → State → Config → Type 0) → ((a : A) (s : State) (d : Config) → R a s d → (e : Config) × Leads p d e × S a s e) → ((v : Value) (s : State) (d : Config) → E v s d → F v s d) → Ends p t c res R E → Ends p t c res S F
  ends_more t c (Gives a s) R S E F f g h = let n = f a s h.1 h.3 in (h.0, n.0, leads_trans c h.1 n.0 h.2 n.1, n.2)
  ends_more t c (Raises v s) R S E F f g h = (h.0, h.1, h.2, g v s h.1 h.3)
  ends_more t c (Stops w s) R S E F f g h = h

  -- and a few more steps behind a value and behind an exception
  pub ends_both : {A : Type 0} (t : ℕ) (c : Config) (res : Outcome A) (R S : A → State → Config → Type 0) (E F : Value → State → Config → Type 0) → ((a : A) (s : State) (d : Config) → R a s d → (e : Config) × Leads p d e × S a s e) → ((v : Value) (s : State) (d : Config) → E v s d → (e : Config) × Leads p d e × F v s e) → Ends p t c res R E → Ends p t c res S F
  ends_both t c (Gives a s) R S E F f g h = let n = f a s h.1 h.3 in (h.0, n.0, leads_trans c h.1 n.0 h.2 n.1, n.2)
  ends_both t c (Raises v s) R S E F f g h = let n = g v s h.1 h.3 in (h.0, n.0, leads_trans c h.1 n.0 h.2 n.1, n.2)
  ends_both t c (Stops w s) R S E F f g h = h

pub on_assoc : {A B C : Type 0} (r : Outcome A) (f : A → Does B) (g : B → Does C) → on_to (on_to r f) g ≡ on_to r (λ a s. on_to (f a s) g)
on_assoc (Gives a s) f g = refl
on_assoc (Raises v s) f g = refl
on_assoc (Stops w s) f g = refl
