-- Operations on registers, what is in its register already, and what a primitive makes of a written text.
use Rattle.ir_builder_operations.proofs.Common.{◌⊎◌, inr, IsStuck, unless_stuck, Outcome, ◌≡◌, ℕ, ◌+◌, ◌<◌, List, [], ◌∷◌, length, Some, None, refl, sym, ◌∙◌, subst, arith, le_refl, Value, Primitive, Sort, State, Gives, Does, give, Reg, RType, Text, Prim, NeverFails, failing, Holds, Regs, put, World, Written, effect, Program, Building, rtype_of, HasType, Adds, world, running, HasKind, IsThrown, Shows, ShowAll, HaveTypes, Arrives, Makes, Attempts, ActsOnAll, extends_refl, type_has, type_below, adds_has, leads_step, ends_of, ends_now, makes_arrives, prim_step, Acts, ActsOn, ActsOnTwo, of_none, of_one, of_two}
use Rattle.ir_core.specs.Effects.{Gives as Giving}
use Rattle.ir_core.proofs.StepLemmas.{put_same, put_other}
use Rattle.ir_builder_operations.proofs.ThenLemmas.{attempts_as}

-- ---- operations on no register, on one and on two, by the registers' values

pub as_none : (u : Sort) (go : Does Value) (b c : Building) (r : ℕ) → Attempts (Shows u) b c r (rtype_of u) (ActsOnAll [] [] (of_none go)) → Attempts (Shows u) b c r (rtype_of u) (Acts go)
as_none u go b c r a = attempts_as (Shows u) b c r (rtype_of u) (ActsOnAll [] [] (of_none go)) (Acts go) (λ regs s res f. record { values = []; shows = tt; does = f }) a

pub as_one : (t u : Sort) (go : Value → Does Value) (b c : Building) (r : ℕ) (x : Reg) → Attempts (Shows u) b c r (rtype_of u) (ActsOnAll (t ∷ []) (x ∷ []) (of_one go)) → Attempts (Shows u) b c r (rtype_of u) (ActsOn t x.0 go)
as_one t u go b c r x a =
    attempts_as (Shows u) b c r (rtype_of u) (ActsOnAll (t ∷ []) (x ∷ []) (of_one go)) (ActsOn t x.0 go) (λ regs s res f. record { values = f.v ∷ []; shows = (f.shows, tt); does = f.does }) a

pub as_two : (t t' u : Sort) (go : Value → Value → Does Value) (b c : Building) (r : ℕ) (x y : Reg) → Attempts (Shows u) b c r (rtype_of u) (ActsOnAll (t ∷ t' ∷ []) (x ∷ y ∷ []) (of_two go)) → Attempts (Shows u) b c r (rtype_of u) (ActsOnTwo t t' x.0 y.0 go)
as_two t t' u go b c r x y a =
    attempts_as (Shows u) b c r (rtype_of u) (ActsOnAll (t ∷ t' ∷ []) (x ∷ y ∷ []) (of_two go)) (ActsOnTwo t t' x.0 y.0 go) (λ regs s res f. record { values = f.v ∷ f.w ∷ []; shows = (f.left, (f.right, tt)); does = f.does }) a

-- what a value becomes is itself, of another type, unless the source is stuck
abbrev pub IsItself : Sort → Value → State → Outcome Value → Type 0
IsItself u v s res = IsStuck res ⊎ ((res ≡ Gives v s) × HasKind u v)

-- where the value is in its register already
pub stays_as : (t u : Sort) (go : Value → Does Value) (b : Building) (r : ℕ) (type : RType) → HasType b r type → ((v : Value) (s : State) → HasKind t v → IsItself u v s (go v s)) → Attempts (Shows u) b b r type (ActsOn t r go)
stays_as t u go b r type is same = record {
  extends = extends_refl b;
  type = is;
  runs = λ p fn h placed x room regs below s match res needs.
      let R = Arrives (Shows u) fn (length b.blocks) (length b.ops) below (length b.regs) regs s r in
      let T = IsThrown fn h below x (length b.regs) regs in
      let c = running fn (length b.blocks) (length b.ops) regs below (world None s) in
      ends_of p s.turns c res (go needs.v s) R T needs.does
      (unless_stuck p s.turns c (go needs.v s) R T
      (λ h. ends_of p s.turns c (go needs.v s) (Gives needs.v s) R T h.0
      (ends_now p needs.v s c R T record { now = regs; is = refl; shows = (needs.shows.0, h.1); kept = λ j lt. refl; same = refl }))
      (same needs.v s needs.shows.1));
}

pub stays : (t : Sort) (go : Value → Does Value) (b : Building) (r : ℕ) (type : RType) → HasType b r type → ((v : Value) (s : State) → HasKind t v → go v s ≡ Gives v s) → Attempts (Shows t) b b r type (ActsOn t r go)
stays t go b r type is same = stays_as t t go b r type is (λ v s k. inr (same v s k, k))

-- a value that is made of nothing
pub made_attempts : (t : Sort) (v : Value) (b c : Building) (r : ℕ) (u : RType) → HasKind t v → Makes b c r u (λ regs h. h ≡ Holds v) → Attempts (Shows t) b c r u (Acts (give v))
made_attempts t v b c r u kind made = record {
  extends = made.extends;
  type = made.type;
  runs = λ p fn h at x room regs below s match res f.
      makes_arrives p fn (Shows t) (λ regs h. h ≡ Holds v) b c r u below (length b.regs) regs regs s s v (Holds v) res (IsThrown fn h below x (length b.regs) regs) made at.has (le_refl _) (λ j lt. refl) refl f refl (refl, kind);
}

-- a value that a primitive makes of a text as it is written
pub written_makes : {line : ℕ} (b c : Building) (r : ℕ) (t : RType) (q : Primitive) (text : List ℕ) (v : Value) → Adds b c r t (Prim (Some record { 0 = r }) q (Text text ∷ [])) line → failing q ≡ NeverFails → ((p : Program) (w : World) → effect p q (Written (Text text) ∷ []) w ≡ Giving v w) → Makes b c r t (λ regs h. h ≡ Holds v)
written_makes b c r t q text v a never does = record {
  extends = a.extends;
  type = a.type;
  above = omega (arith, a.made);
  blocks = a.blocks;
  runs = λ p fn has regs below s h f.
      let step = prim_step p fn (length b.blocks) (length b.ops) regs below s r q _ t (Written (Text text) ∷ []) v (adds_has p fn b c r t _ a has) (type_has p fn c r t has a.type) refl never (does p (world None s)) in
      let is : running fn (length b.blocks) (length b.ops + 1) (put regs r (Holds v)) below (world None s) ≡ running fn (length c.blocks) (length c.ops) (put regs r (Holds v)) below (world None s) = rw (a.blocks, a.ops) refl in
      (put regs r (Holds v), leads_step p _ _ (step ∙ is), put_same regs r (Holds v) ∙ sym f, λ j lt. put_other regs r j (Holds v) (let z = a.made in λ e. omega arith));
}

-- values that registers show stay there where the registers do
pub show_kept : (b : Building) (ts : List Sort) (vs : List Value) (rs : List Reg) (old now : Regs) → HaveTypes b.regs ts rs → ((j : ℕ) → j < length b.regs → now j ≡ old j) → ShowAll ts vs old rs → ShowAll ts vs now rs
show_kept b [] [] [] old now h same k = tt
show_kept b [] vs (r ∷ rs) old now h same k = absurd h
show_kept b [] (v ∷ vs) [] old now h same k = absurd k
show_kept b (t ∷ ts) vs [] old now h same k = absurd h
show_kept b (t ∷ ts) [] (r ∷ rs) old now h same k = absurd k
show_kept b (t ∷ ts) (v ∷ vs) (r ∷ rs) old now h same k = (subst (Shows t v) (sym (same r.0 (type_below b r.0 (rtype_of t) h.0))) k.0, show_kept b ts vs rs old now h.1 same k.1)
