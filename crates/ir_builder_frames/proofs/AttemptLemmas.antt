-- Operations that may fail: what they leave in registers, and where their exceptions go.
use Rattle.ir_builder_frames.proofs.Common.{◌&&◌, map, ◌≡◌, ℕ, ◌+◌, ◌<◌, ◌≤◌, true, false, cond, List, [], ◌∷◌, length, Option, Some, None, refl, sym, ap, ◌∙◌, subst, arith, le_refl, ◌⊎◌, inl, inr, Thrown, Value, ExcVal, row_of, Primitive, Sort, State, Outcome, Gives, Raises, Stops, Stop, Does, on_to, RType, Reg, PArg, Var, Prim, Program, Do, Failing, NeverFails, MayFail, AlwaysFails, failing, Declared, type_of_reg, edge_of_kind, edge_of_prim, kind_by_result, type_given, Held, Holds, Regs, put, error_of, World, Argument, Given, Effect, Fails, effect, Building, Frame, Waiting, Config, Runs, Ended, Stuck, Strict, read, arguments, typed, applied, is_tested, is_asked, is_clear, away, registers_of, item_at, handler_at, failed, step, put_same, put_other, op_step, Setting, rtype_of, Has, Placed, where_it_may, Adds, world, running, Ends, HaveKinds, Matches, HasRoom, IsThrown, Showing, Meaning, Arrives, Computes, ShowAll, Attempts}
use Rattle.value_core.specs.Ending.{Ending}
use Rattle.source_meaning.specs.SourceRun.{ending_by}
use Rattle.source_meaning.specs.State.{Stuck as Ill}
use Rattle.ir_core.specs.declared.code.RType.TheVariants.{Int, I64, Bool as BoolType, Ref}
use Rattle.ir_core.specs.Effects.{Gives as Giving, Ends as Finishing}
use Rattle.ir_builder_frames.specs.Computing.{HaveTypes}
use Rattle.ir_builder_frames.specs.Operands.{ActsOnAll}
use Rattle.ir_builder_frames.proofs.HeldLemmas.{extends_refl, extends_trans, has_less, type_below, type_has, adds_has, placed_part, guard_at}
use Rattle.ir_builder_frames.proofs.ComingLemmas.{leads_step, ends_so, ends_of, ends_map, ends_stuck}
use Rattle.ir_builder_frames.proofs.StepLemmas.{read_is}
use Rattle.ir_builder_frames.proofs.MatchLemmas.{room_on, match_kept, thrown_now, thrown_from, computes_then}

-- ---- where no test stands behind

-- an exception goes to the handler or out of the function
pub failed_off : (p : Program) (t : Option RType) (r : Reg) (f : Frame) (below : List Waiting) (w : World) → is_tested r (item_at p f.fn f.block f.place) ≡ false → failed Strict p (edge_of_kind (kind_by_result t) (Some r)) f below w ≡ away (handler_at p f.fn f.block) f below w
failed_off p None r f below w e = ap (λ b. cond b (Runs f below w) (away (handler_at p f.fn f.block) f below w)) e
failed_off p (Some Int) r f below w e = ap (λ b. cond b (Runs f below w) (away (handler_at p f.fn f.block) f below w)) e
failed_off p (Some I64) r f below w e =
    ap (λ b. cond (b && is_asked (item_at p f.fn) (item_at p f.fn f.block f.place)) (Runs f below w) (away (handler_at p f.fn f.block) f below w)) e
failed_off p (Some BoolType) r f below w e = ap (λ b. cond b (Runs f below w) (away (handler_at p f.fn f.block) f below w)) e
failed_off p (Some Ref) r f below w e = ap (λ b. cond b (Runs f below w) (away (handler_at p f.fn f.block) f below w)) e

clear_none : (t : Option RType) (r : Reg) → is_clear (edge_of_kind (kind_by_result t) (Some r)) None ≡ true
clear_none None r = refl
clear_none (Some Int) r = refl
clear_none (Some I64) r = refl
clear_none (Some BoolType) r = refl
clear_none (Some Ref) r = refl

-- ---- what comes of an operation

-- a value, an exception, or the end of the run, for which the source has a word of its own
pub data Answer : Type 0 where
  Answers : (v : Value) → Answer
  Throws : (e : Thrown) → Answer
  Finishes : (x : Stop) (e : Ending) → ending_by x ≡ Some e → Answer

-- as a primitive leaves it, and as the source does
abbrev pub effect_of : Answer → World → Effect
effect_of (Answers v) w = Giving v w
effect_of (Throws e) w = Fails e w
effect_of (Finishes x e is) w = Finishing e w

abbrev pub outcome_of : Answer → Does Value
outcome_of (Answers v) s = Gives v s
outcome_of (Throws e) s = Raises (ExcVal e) s
outcome_of (Finishes x e is) s = Stops x s

-- what never fails gives a value
abbrev pub Allows : Failing → Answer → Type 0
Allows NeverFails (Answers v) = Unit {0}
Allows NeverFails a = ⊥
Allows MayFail a = Unit {0}
Allows AlwaysFails a = ⊥

-- a value is shown as the register holds it
abbrev pub ShownIfGiven : Showing → Answer → Type 0
ShownIfGiven K (Answers v) = K v (Holds v)
ShownIfGiven K a = Unit {0}

-- a state behind another, with the same variables of the function and turns: all else may be another
pub record LeavesVariables (before behind : State) : Type 0 where
  pub locals : behind.locals ≡ before.locals
  pub turns : behind.turns ≡ before.turns

pub leaves_all : (s : State) → LeavesVariables s s
leaves_all s = record { locals = refl; turns = refl }

-- an effect of a primitive on what the machine has in a state is what the source does in it
pub record ActsAs (K : Showing) (q : Primitive) (found : Effect) (s : State) (res : Outcome Value) : Type 0 where
  pub answer : Answer
  pub behind : State
  pub leaves : LeavesVariables s behind
  pub allowed : Allows (failing q) answer
  pub effects : found ≡ effect_of answer (world None behind)
  pub shown : ShownIfGiven K answer
  pub does : res ≡ outcome_of answer behind

-- where a run comes to by an answer
abbrev ByAnswer : (Value → Config) → (Thrown → Config) → (Ending → Config) → Answer → Config
ByAnswer good bad over (Answers v) = good v
ByAnswer good bad over (Throws e) = bad e
ByAnswer good bad over (Finishes x e is) = over e

-- ---- a single operation

module _ (p : Program) (fn k i : ℕ) (regs : Regs) (below : List Waiting) (s : State) (r : ℕ) (q : Primitive) (args : List PArg) (t : RType) (xs : List Argument) {line : ℕ} (at : item_at p fn k i ≡ Some (Do (Prim (Some record { 0 = r }) q args) line)) (type : type_of_reg (registers_of p fn) (record { 0 = r }) ≡ Some t) (given : arguments (registers_of p fn) regs args ≡ Some xs) where
  abbrev Found : Effect
  Found = typed (registers_of p fn) (Some record { 0 = r }) args (effect p q xs (world None s))

  -- where the machine comes to, with a state behind it
  abbrev Comes : State → Answer → Config
  Comes u a =
      ByAnswer (λ v. running fn k (i + 1) (put regs r (Holds v)) below (world None u)) (λ e. away (handler_at p fn k) (record { fn = fn; block = k; place = i + 1; regs = put regs r (error_of t) }) below (world (Some e) u)) (λ e. Ended e (world None u)) a

  met : step Strict p (running fn k i regs below (world None s)) ≡ applied Strict p (edge_of_prim (registers_of p fn) (Some record { 0 = r }) q) (Some record { 0 = r }) (record { fn = fn; block = k; place = i; regs = regs }) below Found
  met = op_step Strict p (record { fn = fn; block = k; place = i; regs = regs }) below (world None s) (Prim (Some record { 0 = r }) q args) at ∙ rw given refl

  abbrev Goes : Effect → Config
  Goes e = applied Strict p (edge_of_prim (registers_of p fn) (Some record { 0 = r }) q) (Some record { 0 = r }) (record { fn = fn; block = k; place = i; regs = regs }) below e

  never_gives : (u : State) (v : Value) → failing q ≡ NeverFails → Goes (Giving v (world None u)) ≡ Comes u (Answers v)
  never_gives u v never = rw (type, never) refl

  may_give : (u : State) (v : Value) → failing q ≡ MayFail → Goes (Giving v (world None u)) ≡ Comes u (Answers v)
  may_give u v may =
      rw (type, may) (ap (λ b. cond b (running fn k (i + 1) (put regs r (Holds v)) below (world None u)) Stuck) (clear_none (type_given (row_of q).outcome (Some t)) (record { 0 = r })))

  may_fail : (u : State) (e : Thrown) → failing q ≡ MayFail → is_tested (record { 0 = r }) (item_at p fn k (i + 1)) ≡ false → Goes (Fails e (world None u)) ≡ Comes u (Throws e)
  may_fail u e may edge =
      rw (type, may) (failed_off p (type_given (row_of q).outcome (Some t)) (record { 0 = r }) (record { fn = fn; block = k; place = i + 1; regs = put regs r (error_of t) }) below (world (Some e) u) edge)

  goes_on : (u : State) (f : Failing) (a : Answer) → failing q ≡ f → Allows f a → (failing q ≡ MayFail → is_tested (record { 0 = r }) (item_at p fn k (i + 1)) ≡ false) → Goes (effect_of a (world None u)) ≡ Comes u a
  goes_on u NeverFails (Answers v) is allowed edge = never_gives u v is
  goes_on u NeverFails (Throws e) is allowed edge = absurd allowed
  goes_on u NeverFails (Finishes x e by) is allowed edge = absurd allowed
  goes_on u MayFail (Answers v) is allowed edge = may_give u v is
  goes_on u MayFail (Throws e) is allowed edge = may_fail u e is (edge is)
  goes_on u MayFail (Finishes x e by) is allowed edge = refl
  goes_on u AlwaysFails a is allowed edge = absurd allowed

  comes : (u : State) (a : Answer) → Allows (failing q) a → Found ≡ effect_of a (world None u) → (failing q ≡ MayFail → is_tested (record { 0 = r }) (item_at p fn k (i + 1)) ≡ false) → step Strict p (running fn k i regs below (world None s)) ≡ Comes u a
  comes u a allowed does edge = met ∙ ap Goes does ∙ goes_on u (failing q) a refl allowed edge

ends_by : (p : Program) (K : Showing) (t : ℕ) (c : Config) (u : State) (a : Answer) (R T : Value → State → Config → Type 0) (good : Value → Config) (bad : Thrown → Config) → u.turns ≤ t → step Strict p c ≡ ByAnswer good bad (λ e. Ended e (world None u)) a → ((v : Value) → K v (Holds v) → R v u (good v)) → ((e : Thrown) → T (ExcVal e) u (bad e)) → ShownIfGiven K a → Ends p t c (outcome_of a u) R T
ends_by p K t c u (Answers v) R T good bad le is well badly shown = (le, good v, leads_step p c (good v) is, well v shown)
ends_by p K t c u (Throws e) R T good bad le is well badly shown = (le, bad e, leads_step p c (bad e) is, badly e)
ends_by p K t c u (Finishes x e by) R T good bad le is well badly shown = ends_so p t c x e u R T by (leads_step p c _ is)

-- what a primitive does with its arguments, as the source does it
pub record DoesAs (K : Showing) (p : Program) (fn r : ℕ) (q : Primitive) (args : List PArg) (regs : Regs) (s : State) (res : Outcome Value) : Type 0 where
  pub values : List Argument
  pub given : arguments (registers_of p fn) regs args ≡ Some values
  pub acts : ActsAs K q (typed (registers_of p fn) (Some record { 0 = r }) args (effect p q values (world None s))) s res

-- where the code of a single operation comes to
pub prim_ends : {line : ℕ} (K : Showing) (b c : Building) (r : ℕ) (t : RType) (q : Primitive) (args : List PArg) → Adds b c r t (Prim (Some record { 0 = r }) q args) line → (p : Program) (fn : ℕ) (h : Option ℕ) → Placed p fn b c h → (x : Setting) → HasRoom x b → (regs : Regs) (below : List Waiting) (s : State) → Matches x regs s → (res : Outcome Value) → DoesAs K p fn r q args regs s res → Ends p s.turns (running fn (length b.blocks) (length b.ops) regs below (world None s)) res (Arrives K fn (length c.blocks) (length c.ops) below (length b.regs) regs s r) (IsThrown fn h below x (length b.regs) regs)
prim_ends K b c r t q args a p fn h placed x room regs below s match res d =
    let R = Arrives K fn (length c.blocks) (length c.ops) below (length b.regs) regs s r in
    let T = IsThrown fn h below x (length b.regs) regs in
    let at = adds_has p fn b c r t _ a placed.has in
    let target = type_has p fn c r t placed.has a.type in
    let here = guard_at p fn b c h (let z = a.blocks in omega arith) placed (length b.blocks) (sym a.blocks) in
    let edge : failing q ≡ MayFail → is_tested (record { 0 = r }) (item_at p fn (length b.blocks) (length b.ops + 1)) ≡ false = λ may. placed.has.edges.each _ _ r _ _ at (ap (λ f. where_it_may f r) may) in
    let u : State = d.acts.behind in
    let same : u.locals ≡ s.locals = d.acts.leaves.locals in
    let le : u.turns ≤ s.turns = omega (arith, d.acts.leaves.turns) in
    let leads = comes p fn (length b.blocks) (length b.ops) regs below s r q args t d.values at target d.given u d.acts.answer d.acts.allowed d.acts.effects edge in
    let kept : (w : Held) (j : ℕ) → j < length b.regs → put regs r w j ≡ regs j = λ w j lt. put_other regs r j w (let z = a.made in λ e. omega arith) in
    ends_of p s.turns _ res (outcome_of d.acts.answer u) R T d.acts.does
    (ends_by p K s.turns (running fn (length b.blocks) (length b.ops) regs below (world None s)) u d.acts.answer R T
    (λ v. running fn (length b.blocks) (length b.ops + 1) (put regs r (Holds v)) below (world None u))
    (λ e. away (handler_at p fn (length b.blocks)) (record { fn = fn; block = length b.blocks; place = length b.ops + 1; regs = put regs r (error_of t) }) below (world (Some e) u))
    le leads
    (λ v k. record { now = put regs r (Holds v); is = rw (a.blocks, a.ops) refl; shows = subst (K v) (sym (put_same regs r (Holds v))) k; kept = kept (Holds v); same = same })
    (λ e. thrown_now p fn (length b.blocks) (length b.ops + 1) h below x (length b.regs) regs (put regs r (error_of t)) e u here (match_kept x b regs (put regs r (error_of t)) s u room (λ j lt. kept (error_of t) j (let z = room.top in omega arith)) same match) (λ j i lt o. kept (error_of t) j lt))
    d.acts.shown)

-- ---- on any number of registers

-- the source is stuck, as that of no well typed module is
abbrev pub IsStuck : Outcome Value → Type 0
IsStuck res = (s : State) × (res ≡ Stops Ill s)

-- what a primitive does with these arguments is what a part of the source does, in any state in which that is not stuck
abbrev pub Performs : Showing → Primitive → List Argument → Does Value → Type 0
Performs K q values go = (p : Program) (s : State) → IsStuck (go s) ⊎ ActsAs K q (effect p q values (world None s)) s (go s)

-- of a source that is stuck nothing is asked
pub unless_stuck : {A : Type 0} (p : Program) (t : ℕ) (c : Config) (res : Outcome Value) (R E : Value → State → Config → Type 0) → (A → Ends p t c res R E) → (IsStuck res ⊎ A) → Ends p t c res R E
unless_stuck p t c res R E f (inl h) = ends_of p t c res (Stops Ill h.0) R E h.1 (ends_stuck p t c h.0 R E)
unless_stuck p t c res R E f (inr a) = f a

-- one that only answers
pub performs : (K : Showing) (q : Primitive) (values : List Argument) (go : Does Value) (a : Answer) → Allows (failing q) a → ((p : Program) (w : World) → effect p q values w ≡ effect_of a w) → ShownIfGiven K a → ((s : State) → go s ≡ outcome_of a s) → Performs K q values go
performs K q values go a allowed effects shown does p s = inr record { answer = a; behind = s; leaves = leaves_all s; allowed = allowed; effects = effects p (world None s); shown = shown; does = does s }

-- no register's kind is asked for
typed_answer : (declared : Declared) (to : Option Reg) (args : List PArg) (a : Answer) (w : World) → typed declared to args (effect_of a w) ≡ effect_of a w
typed_answer declared to args (Answers v) w = refl
typed_answer declared to args (Throws e) w = refl
typed_answer declared to args (Finishes x e is) w = refl

pub acts_typed : (K : Showing) (q : Primitive) (found : Effect) (s : State) (res : Outcome Value) (declared : Declared) (to : Option Reg) (args : List PArg) → ActsAs K q found s res → ActsAs K q (typed declared to args found) s res
acts_typed K q found s res declared to args a = record {
  answer = a.answer;
  behind = a.behind;
  leaves = a.leaves;
  allowed = a.allowed;
  effects = ap (typed declared to args) a.effects ∙ typed_answer declared to args a.answer (world None a.behind);
  shown = a.shown;
  does = a.does;
}

-- the values of registers, of types
pub kinds_shown : (ts : List Sort) (vs : List Value) (regs : Regs) (rs : List Reg) → ShowAll ts vs regs rs → HaveKinds ts vs
kinds_shown [] [] regs [] h = tt
kinds_shown [] [] regs (r ∷ rs) h = absurd h
kinds_shown [] (v ∷ vs) regs rs h = absurd h
kinds_shown (t ∷ ts) [] regs rs h = absurd h
kinds_shown (t ∷ ts) (v ∷ vs) regs [] h = absurd h
kinds_shown (t ∷ ts) (v ∷ vs) regs (r ∷ rs) h = (h.0.1, kinds_shown ts vs regs rs h.1)

abbrev pub all_given : List Value → List Argument
all_given vs = map Given vs

abbrev pub all_registers : List Reg → List PArg
all_registers rs = map Var rs

more_given : (declared : Declared) (regs : Regs) (r : Reg) (v : Value) (args : List PArg) (xs : List Argument) → read declared regs r ≡ Some v → arguments declared regs args ≡ Some xs → arguments declared regs (Var r ∷ args) ≡ Some (Given v ∷ xs)
more_given declared regs r v args xs e f = rw (e, f) refl

registers_given : (p : Program) (fn : ℕ) (b : Building) → Has p fn b → (ts : List Sort) (vs : List Value) (regs : Regs) (rs : List Reg) → HaveTypes b.regs ts rs → ShowAll ts vs regs rs → arguments (registers_of p fn) regs (all_registers rs) ≡ Some (all_given vs)
registers_given p fn b has [] [] regs [] types h = refl
registers_given p fn b has [] [] regs (r ∷ rs) types h = absurd h
registers_given p fn b has [] (v ∷ vs) regs rs types h = absurd h
registers_given p fn b has (t ∷ ts) [] regs rs types h = absurd h
registers_given p fn b has (t ∷ ts) (v ∷ vs) regs [] types h = absurd h
registers_given p fn b has (t ∷ ts) (v ∷ vs) regs (r ∷ rs) types h =
    more_given (registers_of p fn) regs r v (all_registers rs) (all_given vs) (read_is (registers_of p fn) regs r.0 (rtype_of t) v (type_has p fn b r.0 (rtype_of t) has types.0) h.0.0) (registers_given p fn b has ts vs regs rs types.1 h.1)

-- a primitive on registers
pub all_perform : {line : ℕ} (ts : List Sort) (K : Showing) (go : List Value → Does Value) (b c : Building) (r : ℕ) (t : RType) (rs : List Reg) (q : Primitive) → HaveTypes b.regs ts rs → Adds b c r t (Prim (Some record { 0 = r }) q (all_registers rs)) line → ((vs : List Value) → HaveKinds ts vs → Performs K q (all_given vs) (go vs)) → Attempts K b c r t (ActsOnAll ts rs go)
all_perform ts K go b c r t rs q types a by = record {
  extends = a.extends;
  type = a.type;
  runs = λ p fn h placed x room regs below s match res on.
      let P : Outcome Value → Type 0 = λ z. IsStuck z ⊎ ActsAs K q (effect p q (all_given on.values) (world None s)) s z in
      unless_stuck p s.turns _ res _ _ (λ acts.
      prim_ends K b c r t q (all_registers rs) a p fn h placed x room regs below s match res record {
        values = all_given on.values;
        given = registers_given p fn b (has_less p fn b c a.extends placed.has) ts on.values regs rs types on.shows;
        acts = acts_typed K q _ s res (registers_of p fn) (Some record { 0 = r }) (all_registers rs) acts;
      })
      (subst P (sym on.does) (by on.values (kinds_shown ts on.values regs rs on.shows) p s));
}

-- ---- behind the code of two values

pub both_attempt : (x : Setting) (K K' L : Showing) (t t' u : RType) (m m' : Meaning Value) (go : Value → Value → Does Value) (from : Regs → State → Outcome Value → Type 0) (b0 b1 b2 b3 : Building) (q q' r : ℕ) → HasRoom x b0 → Computes x K t m b0 b1 q → Computes x K' t' m' b1 b2 q' → Attempts L b2 b3 r u from → ((v w : Value) (s : State) (regs : Regs) → K v (regs q) → K' w (regs q') → from regs s (go v w s)) → Computes x L u (λ n s. on_to (m n s) (λ a s1. on_to (m' n s1) (go a))) b0 b3 r
both_attempt x K K' L t t' u m m' go from b0 b1 b2 b3 q q' r room c c' made gives =
    let k1 = c.extends.blocks_grow in
    let k2 = c'.extends.blocks_grow in
    let l1 = c.extends.regs_grow in
    let l2 = c'.extends.regs_grow in
    let x13 = extends_trans b1 b2 b3 c'.extends made.extends in
    let low = type_below b1 q t c.type in
    let room1 = room_on x b0 b1 c.extends room in
    record {
      extends = extends_trans b0 b1 b3 c.extends x13;
      type = made.type;
      runs = λ p fn h at n calls regs below s match le.
          let p1 = placed_part p fn b0 b0 b1 b3 h (le_refl _) x13 at in
          let p2 = placed_part p fn b0 b1 b2 b3 h k1 made.extends at in
          let p3 = placed_part p fn b0 b2 b3 b3 h (omega arith) (extends_refl b3) at in
          computes_then p fn h below x n calls K t m b0 b1 q regs s _ _ (length b0.regs) regs c p1 room (le_refl _) (λ j i z o. refl) match le
          (λ now v s1 le1 shows kept same1 match1.
          computes_then p fn h below x n calls K' t' m' b1 b2 q' now s1 (go v) _ (length b0.regs) regs c' p2 room1 l1 (λ j i z o. kept j z) match1 le1
          (λ now2 v2 s2 le2 shows2 kept2 same2 match2.
          ends_map p s2.turns _ (go v v2 s2) _ _ _ _
          (λ z s3 d a. record { now = a.now; is = a.is; shows = a.shows; kept = λ j lt. a.kept j (omega arith) ∙ kept2 j (omega arith) ∙ kept j lt; same = a.same ∙ same2 ∙ same1 })
          (λ z s3 d e. thrown_from fn h below x (length b0.regs) (length b2.regs) regs now2 z s3 d (omega arith) (λ j i lt o. kept2 j (omega arith) ∙ kept j lt) e)
          (made.runs p fn h p3 x (room_on x b1 b2 c'.extends room1) now2 below s2 match2 (go v v2 s2) (gives v v2 s2 now2 (subst (K v) (sym (kept2 q low)) shows) shows2))));
    }
