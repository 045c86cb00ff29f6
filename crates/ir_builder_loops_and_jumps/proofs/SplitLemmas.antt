-- A test, and by its answer a body or what comes next.
use Rattle.ir_builder_loops_and_jumps.proofs.Common.{◌≡◌, ℕ, ◌≤◌, List, length, Option, Some, None, Bool, true, false, cond, refl, sym, ap, ◌∙◌, subst, arith, le_refl, if◌then◌else◌, Value, Sort, State, Does, on_to, truth_of, Flow, Goto, If, Unreachable, Program, Building, Extends, End, Holds, Regs, Config, Waiting, item_at, registers_of, type_of_reg, Setting, HasType, Has, Within, Placed, Closes, Patches, world, running, Ends, HasRoom, Matches, SameIn, Stands, IsThrown, CallsWork, Shows, Meaning, Computes, Way, Exit, JumpTo, Flows, Always, Asked, Asks, WorksAt, ends_from, ends_on, ends_now, ends_at, extends_trans, has_less, type_has, within_part, thrown_from, computes_then}
use Rattle.py_typed.specs.Sorts as sort
use Rattle.ir_core.specs.declared.code.RType.TheVariants.{Bool as BoolType}
use Rattle.ir_builder_loops_and_jumps.proofs.FlowLemmas.{goes_by, flow_goto}

-- a bool that is computed answers a test
pub asks_by : {X : Type 0} (x : Setting) (m : Meaning Value) (b c : Building) (r : ℕ) → HasRoom x b → Computes x (Shows sort.Bool) BoolType m b c r → Asks x (Always X) (Always X) (λ i n s. on_to (m n s) truth_of) b c r
asks_by x m b c r room cx = record {
  extends = cx.extends;
  type = cx.type;
  runs = λ p fn h at n calls i regs below s held match le.
      let R = Asked fn (length c.blocks) (length c.ops) below x (length b.regs) regs r (λ now. Unit {0}) in
      let T = IsThrown fn h below x (length b.regs) regs in
      computes_then p fn h below x n calls (Shows sort.Bool) BoolType m b c r regs s truth_of R (length b.regs) regs cx at room (le_refl _) (λ j a z o. refl) match le
      (λ now v s1 le1 shows kept loc match1.
      let P : Value → Type 0 = λ z. Ends p s1.turns (running fn (length c.blocks) (length c.ops) now below (world None s1)) (truth_of z s1) R T in
      subst P (sym shows.1.1)
      (ends_now p shows.1.0 s1 _ R T record { stands = record { now = now; is = refl; match = match1; kept = λ j a z o. kept j z }; answer = shows.0 ∙ ap Holds shows.1.1; inside = λ e. tt }));
}

-- where a test and its body stand in the program
pub record SplitAt (p : Program) (fn : ℕ) (h : Option ℕ) (b1 b2 b3 b4 : Building) (r out next : ℕ) : Type 0 where
  pub test : Placed p fn b1 b2 h
  pub body : Placed p fn b3 b4 h
  pub start : length b3.ops ≡ 0
  pub type : type_of_reg (registers_of p fn) (record { 0 = r }) ≡ Some BoolType
  pub chooses : item_at p fn (length b2.blocks) (length b2.ops) ≡ Some (End (If record { 0 = r } (length b3.blocks) out))
  pub on : item_at p fn (length b4.blocks) (length b4.ops) ≡ Some (End (Goto next))

pub split_at : (p : Program) (fn : ℕ) (h : Option ℕ) (b1 b2 b3 b4 c d : Building) (r out next from to : ℕ) → Extends b1 b2 → HasType b2 r BoolType → Closes b2 b3 Unreachable → Extends b3 b4 → Extends b4 c → Patches c d (length b2.blocks) (If record { 0 = r } (length b3.blocks) out) → Within p fn c from to h → Has p fn d → from ≤ length b1.blocks → length b4.blocks ≤ to → item_at p fn (length b4.blocks) (length b4.ops) ≡ Some (End (Goto next)) → SplitAt p fn h b1 b2 b3 b4 r out next
split_at p fn h b1 b2 b3 b4 c d r out next from to x12 type c3 x34 x4 q w has low high on =
    let x3 = extends_trans b3 b4 c x34 x4 in
    let x2 = extends_trans b2 b3 c c3.extends x3 in
    let k4 = x34.blocks_grow in let n3 = c3.blocks in let k2 = x12.blocks_grow in
    record {
      test = within_part p fn b2 c from to (length b1.blocks) (length b2.blocks) h x2 low (omega arith) (le_refl _) w;
      body = within_part p fn b4 c from to (length b3.blocks) (length b4.blocks) h x4 (omega arith) high (le_refl _) w;
      start = c3.ops;
      type = type_has p fn b2 r BoolType (has_less p fn b2 c x2 w.has) type;
      chooses = q.code p fn (length b2.ops) has (x3.items _ _ _ c3.at);
      on = on;
    }

module _ (p : Program) (result : Option Sort) (fn : ℕ) (below : List Waiting) (x : Setting) (n : ℕ) (calls : CallsWork p x.source n) (h : Option ℕ) where
  by_answer : {B : Type 0} (t a b : ℕ) (c : Bool) (regs : Regs) (s : State) (f g : Does B) (P : Type 0) (R : B → State → Config → Type 0) (E : Value → State → Config → Type 0) → (c ≡ true → P) → (P → Ends p t (running fn a 0 regs below (world None s)) (f s) R E) → Ends p t (running fn b 0 regs below (world None s)) (g s) R E → Ends p t (running fn (cond c a b) 0 regs below (world None s)) ((if c then f else g) s) R E
  by_answer t a b true regs s f g P R E holds first second = first (holds refl)
  by_answer t a b false regs s f g P R E holds first second = second

  pub split_ends : {X B : Type 0} (At Inside : X → Regs → Type 0) (test : X → Meaning Bool) (body : X → Meaning Flow) (b1 b2 b3 b4 : Building) (r out next : ℕ) (xs : List Exit) (to : Way → ℕ) (keep : ℕ) (old : Regs) (go other : Does B) (R : B → State → Config → Type 0) → SplitAt p fn h b1 b2 b3 b4 r out next → Asks x At Inside test b1 b2 r → WorksAt x result Inside body (length b3.regs) b3 b4 xs → JumpTo p fn b4 to xs → keep ≤ length b1.regs → (i : X) (regs : Regs) (s : State) → At i regs → Matches x regs s → SameIn x.frame keep regs old → s.turns ≤ n → ((now : Regs) → Inside i now → SameIn x.frame keep now old → (s1 : State) (c : Config) → s1.turns ≤ s.turns → Ends p s1.turns c (body i n s1) (Flows p result fn next 0 to xs below x (length b3.regs) now) (IsThrown fn h below x (length b3.regs) now) → Ends p s1.turns c (go s1) R (IsThrown fn h below x keep old)) → ((s1 : State) (d : Config) → s1.turns ≤ s.turns → Stands fn out 0 below None x keep old s1 d → Ends p s1.turns d (other s1) R (IsThrown fn h below x keep old)) → Ends p s.turns (running fn (length b1.blocks) (length b1.ops) regs below (world None s)) (on_to (test i n s) (λ c. if c then go else other)) R (IsThrown fn h below x keep old)
  split_ends At Inside test body b1 b2 b3 b4 r out next xs to keep old go other R at asks does jumps wide i regs s held match same fits behind past =
      let T = IsThrown fn h below x keep old in
      ends_on p s.turns _ (test i n s) (Asked fn (length b2.blocks) (length b2.ops) below x (length b1.regs) regs r (Inside i)) (IsThrown fn h below x (length b1.regs) regs) T (λ c. if c then go else other) R (asks.runs p fn h at.test n calls i regs below s held match fits)
      (λ c s1 d le1 a.
      let now = a.stands.now in
      let same1 : SameIn x.frame keep now old = λ j y z o. a.stands.kept j y (omega arith) o ∙ same j y z o in
      let step = goes_by p fn below _ _ (record { 0 = r }) (length b3.blocks) out c now (world None s1) at.chooses at.type a.answer in
      let T3 = IsThrown fn h below x (length b3.regs) now in
      let first : Inside i now → Ends p s1.turns (running fn (length b3.blocks) 0 now below (world None s1)) (go s1) R T = λ inside.
      let P : ℕ → Type 0 = λ j. Ends p s1.turns (running fn (length b3.blocks) j now below (world None s1)) (body i n s1) (Flows p result fn (length b4.blocks) (length b4.ops) to xs below x (length b3.regs) now) T3 in
      let run = subst P at.start (does.runs p fn h to at.body jumps n calls i now below s1 inside a.stands.match (omega arith)) in
      behind now inside same1 s1 _ le1 (flow_goto p result fn below x n calls _ _ next to xs (length b3.regs) now s1.turns _ (body i n s1) T3 at.on run) in
      let second : Ends p s1.turns (running fn out 0 now below (world None s1)) (other s1) R T = past s1 _ le1 record { now = now; is = refl; match = a.stands.match; kept = same1 } in
      ends_at p s1.turns (running fn (length b2.blocks) (length b2.ops) now below (world None s1)) d ((if c then go else other) s1) R T a.stands.is
      (ends_from p s1.turns s1.turns _ _ ((if c then go else other) s1) R T (le_refl _) step
      (by_answer s1.turns (length b3.blocks) out c now s1 go other (Inside i now) R T a.inside first second)))
      (λ v s1 d z. thrown_from fn h below x keep (length b1.regs) old regs v s1 d wide same z)
