-- A choice does what it means: the value is tested, and the arm that is taken comes to where both meet.
use Rattle.ir_builder_choices.proofs.Common.{◌≡◌, refl, sym, ◌∙◌, ap, subst, ℕ, ◌+◌, ◌<◌, ◌≤◌, arith, le_refl, Bool, true, false, List, length, Option, Some, None, RType, Move, Goto, If, Unreachable, Do, End, Building, held, Extends, Waiting, Config, Strict, is_refused, registers_of, item_at, extends_refl, extends_trans, has_less, does_at, type_has, type_kept, type_below, within_part, placed_part, Opens, Brings, Meets}
use Rattle.std.specs.Prelude.{if◌then◌else◌}
use Rattle.value_core.specs.Value.{Value, BoolVal}
use Rattle.py_typed.specs.Sorts.{Sort, Bool as BoolSort}
use Rattle.source_meaning.specs.State.{State, Outcome, Gives, Raises, Stops, Does, ◌>>=◌, on_to, give}
use Rattle.source_meaning.specs.Operations.{truth_of}
use Rattle.ir_core.specs.declared.code.RType.TheVariants.{Int, I64, Bool as BoolType, Ref}
use Rattle.ir_core.specs.declared.code.Program.{Program}
use Rattle.ir_core.specs.Rows.{type_of_reg}
use Rattle.ir_core.specs.Registers.{Held, Holds, Regs, put, is_unset}
use Rattle.ir_core.proofs.StepLemmas.{put_same, put_other, move_step, goto_step, if_step}
use Rattle.ir_builder_frames.specs.Settings.{Setting, rtype_of}
use Rattle.ir_builder_frames.specs.Placing.{HasType, or_other, Has, Within, Placed}
use Rattle.ir_builder_frames.specs.Coming.{world, running, Leads, Ends}
use Rattle.ir_builder_frames.specs.Matching.{Matches, HasRoom, IsThrown, CallsWork}
use Rattle.ir_builder_frames.specs.Computing.{Showing, Shows, Meaning, Arrives, Computes, Attempts}
use Rattle.ir_builder_frames.proofs.ComingLemmas.{leads_step, leads_trans, ends_now, ends_of, ends_from, ends_more, ends_map}
use Rattle.ir_builder_frames.proofs.MatchLemmas.{thrown_from, computes_then}
use Rattle.ir_builder_operations.specs.Operating.{ActsOn}
use Rattle.ir_builder_operations.specs.Rows.{as_value}
use Rattle.ir_builder_operations.proofs.ThenLemmas.{attempt_then}
use Rattle.ir_builder_comparisons.specs.Comparing.{truth_as, FindsTruth}
use Rattle.ir_builder_choices.specs.Choosing.{Behind, HasValue, by_truth, ComputesFrom}

not_refused : (t : RType) (h : Held) → is_unset h ≡ false → is_refused Strict t h ≡ false
not_refused Int h e = e
not_refused I64 h e = refl
not_refused BoolType h e = refl
not_refused Ref h e = e

-- a value is shown by a register that is set
abbrev pub IsSet : Showing → Type 0
IsSet K = (v : Value) (h : Held) → K v h → is_unset h ≡ false

pub shows_set : (t : Sort) → IsSet (Shows t)
shows_set t v h k = ap is_unset k.0

module _ (p : Program) (fn : ℕ) (below : List Waiting) (K : Showing) (set : IsSet K) (t : RType) (keep : ℕ) (old : Regs) (x : Setting) (before : State) where
  -- an arm's value is brought, and the arm goes to where the arms meet
  brought : {line : ℕ} (b c : Building) (target r : ℕ) (v : Value) (s : State) (d : Config) → item_at p fn (length b.blocks) (length b.ops) ≡ Some (Do (Move record { 0 = target } record { 0 = r }) line) → item_at p fn (length b.blocks) (length b.ops + 1) ≡ Some (End (Goto (length c.blocks))) → length c.ops ≡ 0 → type_of_reg (registers_of p fn) (record { 0 = target }) ≡ Some t → type_of_reg (registers_of p fn) (record { 0 = r }) ≡ Some t → keep ≤ target → Arrives K fn (length b.blocks) (length b.ops) below keep old before r v s d → (e : Config) × Leads p d e × Arrives K fn (length c.blocks) (length c.ops) below keep old before target v s e
  brought b c target r v s d move jump ops to_type from_type wide a =
      let now : Regs = put a.now target (a.now r) in
      let first = move_step Strict p (record { fn = fn; block = length b.blocks; place = length b.ops; regs = a.now }) below (world None s) (record { 0 = target }) (record { 0 = r }) t t move to_type from_type (not_refused t (a.now r) (set v (a.now r) a.shows)) in
      let second = goto_step Strict p (record { fn = fn; block = length b.blocks; place = length b.ops + 1; regs = now }) below (world None s) (length c.blocks) jump in
      let is : running fn (length c.blocks) 0 now below (world None s) ≡ running fn (length c.blocks) (length c.ops) now below (world None s) = ap (λ i. running fn (length c.blocks) i now below (world None s)) (sym ops) in
      let start : Leads p d (running fn (length b.blocks) (length b.ops) a.now below (world None s)) = record { count = 0; is = a.is } in (
        running fn (length c.blocks) (length c.ops) now below (world None s),
        leads_trans p _ _ _ start (leads_trans p _ _ _ (leads_step p _ _ first) (leads_step p _ _ (second ∙ is))),
        record { now = now; is = refl; shows = subst (K v) (sym (put_same a.now target (a.now r))) a.shows; kept = λ j lt. put_other a.now target j (a.now r) (λ e. omega arith) ∙ a.kept j lt; same = a.same },
      )

  -- the place where the test stands, the arms, and where they meet
  pub choice_ends : {line line' : ℕ} (hv : Bool) (b1 b2 b3 b5 b6 c : Building) (condition first second ra rb target : ℕ) (f g : Does Value) (now : Regs) (s : State) (E : Value → State → Config → Type 0) → item_at p fn (length b1.blocks) (length b1.ops) ≡ Some (End (If record { 0 = condition } first second)) → type_of_reg (registers_of p fn) (record { 0 = condition }) ≡ Some BoolType → now condition ≡ Holds (BoolVal hv) → first ≡ length b2.blocks → length b2.ops ≡ 0 → second ≡ length b5.blocks → length b5.ops ≡ 0 → length c.ops ≡ 0 → type_of_reg (registers_of p fn) (record { 0 = target }) ≡ Some t → keep ≤ target → type_of_reg (registers_of p fn) (record { 0 = ra }) ≡ Some t → item_at p fn (length b3.blocks) (length b3.ops) ≡ Some (Do (Move record { 0 = target } record { 0 = ra }) line) → item_at p fn (length b3.blocks) (length b3.ops + 1) ≡ Some (End (Goto (length c.blocks))) → type_of_reg (registers_of p fn) (record { 0 = rb }) ≡ Some t → item_at p fn (length b6.blocks) (length b6.ops) ≡ Some (Do (Move record { 0 = target } record { 0 = rb }) line') → item_at p fn (length b6.blocks) (length b6.ops + 1) ≡ Some (End (Goto (length c.blocks))) → (hv ≡ true → Ends p s.turns (running fn (length b2.blocks) (length b2.ops) now below (world None s)) (f s) (Arrives K fn (length b3.blocks) (length b3.ops) below keep old before ra) E) → (hv ≡ false → Ends p s.turns (running fn (length b5.blocks) (length b5.ops) now below (world None s)) (g s) (Arrives K fn (length b6.blocks) (length b6.ops) below keep old before rb) E) → Ends p s.turns (running fn (length b1.blocks) (length b1.ops) now below (world None s)) ((if hv then f else g) s) (Arrives K fn (length c.blocks) (length c.ops) below keep old before target) E
  choice_ends true b1 b2 b3 b5 b6 c condition first second ra rb target f g now s E test condition_type holds n2 o2 n5 o5 oc to_type wide type_a move_a jump_a type_b move_b jump_b arm_a arm_b =
      let step = if_step Strict p (record { fn = fn; block = length b1.blocks; place = length b1.ops; regs = now }) below (world None s) (record { 0 = condition }) first second true test condition_type holds in
      let is : running fn first 0 now below (world None s) ≡ running fn (length b2.blocks) (length b2.ops) now below (world None s) = ap (λ k. running fn k 0 now below (world None s)) n2 ∙ ap (λ i. running fn (length b2.blocks) i now below (world None s)) (sym o2) in
      ends_from p s.turns s.turns _ _ (f s) _ E (le_refl _) (leads_step p _ _ (step ∙ is))
      (ends_more p s.turns _ (f s) _ _ E E (λ v s1 d a. brought b3 c target ra v s1 d move_a jump_a oc to_type type_a wide a) (λ v s1 d z. z) (arm_a refl))
  choice_ends false b1 b2 b3 b5 b6 c condition first second ra rb target f g now s E test condition_type holds n2 o2 n5 o5 oc to_type wide type_a move_a jump_a type_b move_b jump_b arm_a arm_b =
      let step = if_step Strict p (record { fn = fn; block = length b1.blocks; place = length b1.ops; regs = now }) below (world None s) (record { 0 = condition }) first second false test condition_type holds in
      let is : running fn second 0 now below (world None s) ≡ running fn (length b5.blocks) (length b5.ops) now below (world None s) = ap (λ k. running fn k 0 now below (world None s)) n5 ∙ ap (λ i. running fn (length b5.blocks) i now below (world None s)) (sym o5) in
      ends_from p s.turns s.turns _ _ (g s) _ E (le_refl _) (leads_step p _ _ (step ∙ is))
      (ends_more p s.turns _ (g s) _ _ E E (λ v s1 d a. brought b6 c target rb v s1 d move_b jump_b oc to_type type_b wide a) (λ v s1 d z. z) (arm_b refl))

  -- the same of the steps that build it
  pub choice_runs : (hv : Bool) (b2 b3 b4 b5 b7 b8 : Building) (condition target test first end second ra rb : ℕ) (f g : Does Value) (now : Regs) (s : State) (E : Value → State → Config → Type 0) → Opens b2 b3 target test first t → Extends b3 b4 → Brings b4 b5 target ra end → second ≡ length b5.blocks → Extends b5 b7 → Meets b7 b8 target rb condition test first end second → HasType b2 condition BoolType → HasType b4 ra t → HasType b7 rb t → Has p fn b8 → keep ≤ length b2.regs → now condition ≡ Holds (BoolVal hv) → (hv ≡ true → Ends p s.turns (running fn (length b3.blocks) (length b3.ops) now below (world None s)) (f s) (Arrives K fn (length b4.blocks) (length b4.ops) below keep old before ra) E) → (hv ≡ false → Ends p s.turns (running fn (length b5.blocks) (length b5.ops) now below (world None s)) (g s) (Arrives K fn (length b7.blocks) (length b7.ops) below keep old before rb) E) → Ends p s.turns (running fn (length b2.blocks) (length b2.ops) now below (world None s)) ((if hv then f else g) s) (Arrives K fn (length b8.blocks) (length b8.ops) below keep old before target) E
  choice_runs hv b2 b3 b4 b5 b7 b8 condition target test first end second ra rb f g now s E opens x34 brings here x57 meets type_c type_a type_b has wide holds arm_a arm_b =
      let has7 = meets.has p fn has in
      let has5 = has_less p fn b5 b7 x57 has7 in
      let has4 = has_less p fn b4 b5 brings.extends has5 in
      let has3 = has_less p fn b3 b4 x34 has4 in
      let has2 = has_less p fn b2 b3 opens.extends has3 in
      let x37 = extends_trans b3 b5 b7 (extends_trans b3 b4 b5 x34 brings.extends) x57 in
      let hole3 : held b7 test (length b2.ops) ≡ Some (End Unreachable) = x37.items test (length b2.ops) (End Unreachable) (ap (λ k. held b3 k (length b2.ops)) opens.test_is ∙ opens.hole) in
      let hole4 : held b7 end (length b4.ops + 1) ≡ Some (End Unreachable) = x57.items end (length b4.ops + 1) (End Unreachable) (ap (λ k. held b5 k (length b4.ops + 1)) brings.end_is ∙ brings.hole) in
      let test_at : item_at p fn (length b2.blocks) (length b2.ops) ≡ Some (End (If record { 0 = condition } first second)) = ap (λ k. item_at p fn k (length b2.ops)) (sym opens.test_is) ∙ meets.tests p fn (length b2.ops) has hole3 in
      let jump_at : item_at p fn (length b4.blocks) (length b4.ops + 1) ≡ Some (End (Goto (length b8.blocks))) = ap (λ k. item_at p fn k (length b4.ops + 1)) (sym brings.end_is) ∙ meets.ends p fn (length b4.ops + 1) has hole4 in
      choice_ends hv b2 b3 b4 b5 b7 b8 condition first second ra rb target f g now s E test_at (type_has p fn b2 condition BoolType has2 type_c) holds opens.first_is opens.ops here brings.ops meets.ops (type_has p fn b3 target t has3 opens.type) (let z = opens.made in omega arith) (type_has p fn b4 ra t has4 type_a) (does_at p fn b5 (length b4.blocks) (length b4.ops) _ has5 brings.move) jump_at (type_has p fn b7 rb t has7 type_b) (meets.move p fn has) (meets.jump p fn has) arm_a arm_b

-- the code of a part of a choice
pub meet_within : (p : Program) (fn : ℕ) (b c a d : Building) (target r condition test first end second low high : ℕ) (h : Option ℕ) → Meets b c target r condition test first end second → low ≤ length a.blocks → high ≡ length c.blocks → Extends d b → Within p fn c low high h → Placed p fn a d h
meet_within p fn b c a d target r condition test first end second low high h m le top x w =
    let more = m.blocks in
    let below = x.blocks_grow in
    within_part p fn d b low (length b.blocks) (length a.blocks) (length d.blocks) h x le below (le_refl _)
    record { has = m.has p fn w.has; guards = λ k l u. w.guards k l (omega arith) ∙ ap (λ y. or_other y h) (m.handlers k u) }

-- ---- code that goes on with what registers hold

-- code that does not look at it
pub any_from : {A : Type 0} (x : Setting) (From : A → Regs → Type 0) (t : Sort) (m : Meaning Value) (b c : Building) (r : ℕ) → Computes x (Shows t) (rtype_of t) m b c r → ComputesFrom x From t (λ n a. m n) b c r
any_from x From t m b c r k = record {
  extends = k.extends;
  type = k.type;
  runs = λ p fn h at n calls regs below s a match le holds. k.runs p fn h at n calls regs below s match le;
}

-- none: a value stays where it is
pub value_from : {A : Type 0} (x : Setting) (From : A → Regs → Type 0) (t : Sort) (f : A → Value) (b : Building) (q : ℕ) → HasType b q (rtype_of t) → ((a : A) (regs : Regs) → From a regs → Shows t (f a) (regs q)) → ComputesFrom x From t (λ n a. give (f a)) b b q
value_from x From t f b q type shows = record {
  extends = extends_refl b;
  type = type;
  runs = λ p fn h at n calls regs below s a match le holds.
      ends_now p (f a) s _ (Arrives (Shows t) fn (length b.blocks) (length b.ops) below (length b.regs) regs s q) (IsThrown fn h below x (length b.regs) regs)
      record { now = regs; is = refl; shows = shows a regs holds; kept = λ j lt. refl; same = refl };
}

-- less is known, or by another name
pub from_by : {A B : Type 0} (x : Setting) (From : A → Regs → Type 0) (To : B → Regs → Type 0) (t : Sort) (f : A → B) (m : Behind B) (b c : Building) (r : ℕ) → ((a : A) (regs : Regs) → From a regs → To (f a) regs) → ComputesFrom x To t m b c r → ComputesFrom x From t (λ n a. m n (f a)) b c r
from_by x From To t f m b c r less k = record {
  extends = k.extends;
  type = k.type;
  runs = λ p fn h at n calls regs below s a match le holds. k.runs p fn h at n calls regs below s (f a) match le (less a regs holds);
}

-- in a function that has more registers
pub from_ends : {A : Type 0} (p : Program) (fn : ℕ) (h : Option ℕ) (below : List Waiting) (x : Setting) (n : ℕ) (calls : CallsWork p x.source n) (From : A → Regs → Type 0) (t : Sort) (go : Behind A) (b c : Building) (r : ℕ) (now old : Regs) (s before : State) (a : A) (keep : ℕ) → ComputesFrom x From t go b c r → Placed p fn b c h → keep ≤ length b.regs → ((j : ℕ) → j < keep → now j ≡ old j) → s.locals ≡ before.locals → Matches x now s → s.turns ≤ n → From a now → Ends p s.turns (running fn (length b.blocks) (length b.ops) now below (world None s)) (go n a s) (Arrives (Shows t) fn (length c.blocks) (length c.ops) below keep old before r) (IsThrown fn h below x keep old)
from_ends p fn h below x n calls From t go b c r now old s before a keep k at wide kept same match le holds =
    ends_map p s.turns _ (go n a s) _ _ _ _
    (λ w s1 d y. record { now = y.now; is = y.is; shows = y.shows; kept = λ j lt. y.kept j (omega arith) ∙ kept j lt; same = y.same ∙ same })
    (λ w s1 d z. thrown_from fn h below x keep (length b.regs) old now w s1 d wide (λ j i lt o. kept j lt) z)
    (k.runs p fn h at n calls now below s a match le holds)

-- ---- behind code that adds to what is known

-- what is known of the first registers stays known
abbrev pub Stays : {A : Type 0} → (A → Regs → Type 0) → ℕ → Type 0
Stays {A} From keep = (a : A) (regs now : Regs) → ((j : ℕ) → j < keep → now j ≡ regs j) → From a regs → From a now

pub value_stays : (u : Sort) (q : ℕ) (b : Building) → HasType b q (rtype_of u) → Stays (HasValue u q) (length b.regs)
value_stays u q b type v regs now kept k = subst (Shows u v) (sym (kept q (type_below b q (rtype_of u) type))) k

-- and a value of a type is in a register beside it
abbrev pub Beside : {A : Type 0} → (A → Regs → Type 0) → Sort → ℕ → A × Value → Regs → Type 0
Beside From u q z regs = From z.0 regs × HasValue u q z.1 regs

-- the value of a part
pub part_from : {A : Type 0} (x : Setting) (From : A → Regs → Type 0) (u : Sort) (q : ℕ) (t : Sort) (m : Meaning Value) (go : Behind (A × Value)) (b0 b1 b2 : Building) (r : ℕ) → HasRoom x b0 → Stays From (length b0.regs) → Computes x (Shows u) (rtype_of u) m b0 b1 q → ComputesFrom x (Beside From u q) t go b1 b2 r → ComputesFrom x From t (λ n a s. on_to (m n s) (λ v. go n (a, v))) b0 b2 r
part_from x From u q t m go b0 b1 b2 r room stay c k =
    let k01 = c.extends.blocks_grow in
    let l01 = c.extends.regs_grow in
    record {
      extends = extends_trans b0 b1 b2 c.extends k.extends;
      type = k.type;
      runs = λ p fn h at n calls regs below s a match le holds.
          let p1 = placed_part p fn b0 b0 b1 b2 h (le_refl _) k.extends at in
          let p2 = placed_part p fn b0 b1 b2 b2 h k01 (extends_refl b2) at in
          computes_then p fn h below x n calls (Shows u) (rtype_of u) m b0 b1 q regs s (λ v. go n (a, v)) _ (length b0.regs) regs c p1 room (le_refl _) (λ j i z o. refl) match le
          (λ now v s1 le1 shows kept same1 match1. from_ends p fn h below x n calls (Beside From u q) t go b1 b2 r now regs s1 s (a, v) (length b0.regs) k p2 l01 kept same1 match1 le1 (stay a regs now kept holds, shows));
    }

-- where nothing was known
pub computes_behind : (x : Setting) (u : Sort) (q : ℕ) (t : Sort) (m : Meaning Value) (go : Behind Value) (b0 b1 b2 : Building) (r : ℕ) → HasRoom x b0 → Computes x (Shows u) (rtype_of u) m b0 b1 q → ComputesFrom x (HasValue u q) t go b1 b2 r → Computes x (Shows t) (rtype_of t) (λ n s. on_to (m n s) (go n)) b0 b2 r
computes_behind x u q t m go b0 b1 b2 r room c k =
    let Nothing : Unit {0} → Regs → Type 0 = λ a regs. Unit {0} in
    let all = part_from x Nothing u q t m (λ n z. go n z.1) b0 b1 b2 r room (λ a regs now kept h. tt) c (from_by x _ (HasValue u q) t (λ z. z.1) go b1 b2 r (λ z regs h. h.1) k) in
    record { extends = all.extends; type = all.type; runs = λ p fn h at n calls regs below s match le. all.runs p fn h at n calls regs below s tt match le tt }

-- a truth goes on where it is known
abbrev with_truth : (Bool → Does Value) → Value → Does Value
with_truth go (BoolVal h) = go h
with_truth go v = go false

truth_then : (o : Outcome Bool) (go : Bool → Does Value) → on_to o go ≡ on_to (on_to o (λ h. give (BoolVal h))) (with_truth go)
truth_then (Gives h s) go = refl
truth_then (Raises v s) go = refl
truth_then (Stops w s) go = refl

-- what is known, and the truth of it in a register
abbrev pub Told : {A : Type 0} → (A → Regs → Type 0) → ℕ → A × Bool → Regs → Type 0
Told From condition z regs = From z.0 regs × (regs condition ≡ Holds (BoolVal z.1))

-- a truth that is found in what is known
pub truth_from : {A : Type 0} (x : Setting) (From : A → Regs → Type 0) (truth : A → Does Bool) (t : Sort) (go : Behind (A × Bool)) (acts : Regs → State → Outcome Value → Type 0) (b0 b1 b2 : Building) (condition r : ℕ) → HasRoom x b0 → Stays From (length b0.regs) → ((a : A) (regs : Regs) (s : State) → From a regs → acts regs s (as_value (truth a) s)) → Attempts (Shows BoolSort) b0 b1 condition BoolType acts → ComputesFrom x (Told From condition) t go b1 b2 r → ComputesFrom x From t (λ n a. truth a >>= λ h. go n (a, h)) b0 b2 r
truth_from x From truth t go acts b0 b1 b2 condition r room stay start made k =
    let k01 = made.extends.blocks_grow in
    let l01 = made.extends.regs_grow in
    record {
      extends = extends_trans b0 b1 b2 made.extends k.extends;
      type = k.type;
      runs = λ p fn h at n calls regs below s a match le holds.
          let p1 = placed_part p fn b0 b0 b1 b2 h (le_refl _) k.extends at in
          let p2 = placed_part p fn b0 b1 b2 b2 h k01 (extends_refl b2) at in
          let f : Bool → Does Value = λ h. go n (a, h) in
          let R = Arrives (Shows t) fn (length b2.blocks) (length b2.ops) below (length b0.regs) regs s r in
          let T = IsThrown fn h below x (length b0.regs) regs in
          ends_of p s.turns _ _ (on_to (as_value (truth a) s) (with_truth f)) R T (truth_then (truth a s) f)
          (attempt_then p fn h below x (Shows BoolSort) BoolType acts b0 b1 condition regs s (as_value (truth a) s) (with_truth f) R made p1 room match (start a regs s holds)
          (λ now z s1 le1 told kept same1 match1.
          let hv : Bool = told.1.0 in
          ends_of p s1.turns _ (with_truth f z s1) (f hv s1) R T (ap (λ y. with_truth f y s1) told.1.1)
          (from_ends p fn h below x n calls (Told From condition) t go b1 b2 r now regs s1 s (a, hv) (length b0.regs) k p2 l01 kept same1 match1 (omega arith) (stay a regs now kept holds, told.0 ∙ ap Holds told.1.1))));
    }

-- ---- the whole

-- a register holds the truth, and each arm goes on with what is known
pub choice_by : {A : Type 0} (x : Setting) (From : A → Regs → Type 0) (truth : A → Bool) (t : Sort) (body other : Behind A) (b2 b3 b4 b5 b7 b8 : Building) (condition target test first end second ra rb : ℕ) → HasType b2 condition BoolType → ((a : A) (regs : Regs) → From a regs → regs condition ≡ Holds (BoolVal (truth a))) → Opens b2 b3 target test first (rtype_of t) → ComputesFrom x (λ a regs. From a regs × (truth a ≡ true)) t body b3 b4 ra → Brings b4 b5 target ra end → second ≡ length b5.blocks → ComputesFrom x (λ a regs. From a regs × (truth a ≡ false)) t other b5 b7 rb → Meets b7 b8 target rb condition test first end second → ComputesFrom x From t (λ n a. if truth a then body n a else other n a) b2 b8 target
choice_by x From truth t body other b2 b3 b4 b5 b7 b8 condition target test first end second ra rb type told opens arm_a brings here arm_b meets =
    let x37 = extends_trans b3 b5 b7 (extends_trans b3 b4 b5 arm_a.extends brings.extends) arm_b.extends in
    let k23 = opens.blocks in
    let k34 = arm_a.extends.blocks_grow in
    let k45 = brings.blocks in
    let l23 = opens.extends.regs_grow in
    let l34 = arm_a.extends.regs_grow in
    let l45 = brings.extends.regs_grow in
    record {
      extends = meets.extends b2 (extends_trans b2 b3 b7 opens.extends x37) (let z = opens.test_is in omega arith) (let z = brings.end_is in omega arith);
      type = meets.types target (rtype_of t) (type_kept b3 b7 target (rtype_of t) x37 opens.type);
      runs = λ p fn h at n calls regs below s a match le holds.
          let same = refl in
          let into_a = meet_within p fn b7 b8 b3 b4 target rb condition test first end second _ _ h meets (omega arith) refl (extends_trans b4 b5 b7 brings.extends arm_b.extends) at in
          let into_b = meet_within p fn b7 b8 b5 b7 target rb condition test first end second _ _ h meets (omega arith) refl (extends_refl b7) at in
          choice_runs p fn below (Shows t) (shows_set t) (rtype_of t) (length b2.regs) regs x s (truth a) b2 b3 b4 b5 b7 b8 condition target test first end second ra rb (body n a) (other n a) regs s (IsThrown fn h below x (length b2.regs) regs) opens arm_a.extends brings here arm_b.extends meets type arm_a.type arm_b.type at.has (le_refl _) (told a regs holds)
          (λ z. from_ends p fn h below x n calls (λ y rs. From y rs × (truth y ≡ true)) t body b3 b4 ra regs regs s s a (length b2.regs) arm_a into_a l23 (λ j lt. refl) same match le (holds, z))
          (λ z. from_ends p fn h below x n calls (λ y rs. From y rs × (truth y ≡ false)) t other b5 b7 rb regs regs s s a (length b2.regs) arm_b into_b (omega arith) (λ j lt. refl) same match le (holds, z));
    }

-- the truth of a value in a register is tested, and each arm goes on with the value
pub choice_computes : (x : Setting) (u t : Sort) (body other : Behind Value) (b1 b2 b3 b4 b5 b7 b8 : Building) (q condition target test first end second ra rb : ℕ) → HasRoom x b1 → HasType b1 q (rtype_of u) → FindsTruth b1 b2 q condition u → Opens b2 b3 target test first (rtype_of t) → ComputesFrom x (HasValue u q) t body b3 b4 ra → Brings b4 b5 target ra end → second ≡ length b5.blocks → ComputesFrom x (HasValue u q) t other b5 b7 rb → Meets b7 b8 target rb condition test first end second → ComputesFrom x (HasValue u q) t (by_truth body other) b1 b8 target
choice_computes x u t body other b1 b2 b3 b4 b5 b7 b8 q condition target test first end second ra rb room type_q tests opens arm_a brings here arm_b meets =
    truth_from x (HasValue u q) truth_of t (λ n z. if z.1 then body n z.0 else other n z.0) (ActsOn u q truth_as) b1 b2 b8 condition target room (value_stays u q b1 type_q) (λ v regs s k. record { v = v; shows = k; does = refl }) tests
    (choice_by x (Told (HasValue u q) condition) (λ z. z.1) t (λ n z. body n z.0) (λ n z. other n z.0) b2 b3 b4 b5 b7 b8 condition target test first end second ra rb tests.type (λ z regs k. k.1) opens
    (from_by x _ (HasValue u q) t (λ z. z.0) body b3 b4 ra (λ z regs k. k.0.0) arm_a) brings here
    (from_by x _ (HasValue u q) t (λ z. z.0) other b5 b7 rb (λ z regs k. k.0.0) arm_b) meets)
