-- A loop does in its code what it means.
use Rattle.ir_builder_loops_and_jumps.proofs.Common.{◌≡◌, ℕ, zero, suc, ◌+◌, ◌<◌, ◌≤◌, List, length, Option, Some, None, Bool, refl, sym, ap, ◌∙◌, subst, arith, le_refl, Value, Sort, State, Gives, Does, on_to, spend, spend_from, Flow, Goes, Breaks, Continues, Returns, after_body, loop, Goto, If, Turn, Reg, Program, Building, held, Do, End, Regs, Config, Waiting, Strict, item_at, op_step, turn_step, Setting, Placed, Closes, Patches, world, running, Leads, Ends, Matches, SameIn, IsThrown, CallsWork, Meaning, Way, Break, Continue, Return, Exit, LoopStart, planned, left, by, JumpTo, Brings, Back, Flows, Always, Asks, WorksAt, Steps, Splits, looping_to, EndsLoop, leads_refl, leads_trans, leads_step, ends_from, ends_on, ends_now, extends_refl, extends_trans, has_less, pushes_has, within_part, stands_from, thrown_from, patches}
use Rattle.value_core.specs.Ending as ending
use Rattle.source_meaning.specs.State as source
use Rattle.ir_builder_frames.proofs.ComingLemmas.{ends_so}
use Rattle.ir_builder_loops_and_jumps.proofs.ExitLemmas.{close_at, within_patch, Stays, stays_by, stays_trans, stays_patch_below, jump_back, open_on, uses_left, jumps_of, within_jumps}
use Rattle.ir_builder_loops_and_jumps.proofs.FlowLemmas.{goes_to, flows_from}
use Rattle.ir_builder_loops_and_jumps.proofs.SplitLemmas.{SplitAt, split_at, split_ends}

-- where the parts of a loop stand in the program
pub record LoopAt (p : Program) (fn : ℕ) (h : Option ℕ) (b1 b2 b3 b4 b5 b6 : Building) (r out : ℕ) : Type 0 where
  pub split : SplitAt p fn h b1 b2 b3 b4 r out (length b5.blocks)
  pub begin : length b1.ops ≡ 0
  pub step : Placed p fn b5 b6 h
  pub start : length b5.ops ≡ 0
  pub line : ℕ
  pub turn : item_at p fn (length b6.blocks) (length b6.ops) ≡ Some (Do Turn line)
  pub back : item_at p fn (length b6.blocks) (length b6.ops + 1) ≡ Some (End (Goto (length b1.blocks)))

module _ {X : Type 0} (p : Program) (result : Option Sort) (fn : ℕ) (below : List Waiting) (x : Setting) (n : ℕ) (calls : CallsWork p x.source n) (h : Option ℕ) (At Inside : X → Regs → Type 0) (test : X → Meaning Bool) (body : X → Meaning Flow) (next : X → X) (b1 b2 b3 b4 b5 b6 : Building) (r out : ℕ) (xs ys : List Exit) (to inner : Way → ℕ) (keep : ℕ) (old : Regs) (at : LoopAt p fn h b1 b2 b3 b4 b5 b6 r out) (stays : (i : X) (regs now : Regs) → SameIn x.frame (length b3.regs) now regs → Inside i regs → Inside i now) (wide : keep ≤ length b1.regs) (wider : keep ≤ length b3.regs) (asks : Asks x At Inside test b1 b2 r) (does : WorksAt x result Inside body (length b3.regs) b3 b4 xs) (steps : Steps x Inside At next keep b5 b6) (jumps : JumpTo p fn b4 inner xs) (breaks : inner Break ≡ out) (continues : inner Continue ≡ length b5.blocks) (returns : (o : Option Reg) (v : Value) (s : State) (d : Config) → Back p result o fn inner xs below x keep old v s d → Back p result o fn to ys below x keep old v s d) where
  abbrev R : Flow → State → Config → Type 0
  R = Flows p result fn out 0 to ys below x keep old

  abbrev T : Value → State → Config → Type 0
  T = IsThrown fn h below x keep old

  abbrev repeats : ℕ → X → Does Flow
  repeats k = loop k (λ j. test j n) (λ j. body j n) next

  abbrev Loops : ℕ → Type 0
  Loops k = (i : X) (regs : Regs) (s : State) → At i regs → Matches x regs s → SameIn x.frame keep regs old → s.turns < k → s.turns ≤ n → Ends p s.turns (running fn (length b1.blocks) 0 regs below (world None s)) (repeats k i s) R T

  abbrev with_turns : State → ℕ → State
  with_turns s t = record s { turns = t }

  turn_next : (k : ℕ) (i : X) → Loops k → (t : ℕ) (s : State) (regs : Regs) → At i regs → Matches x regs s → SameIn x.frame keep regs old → t ≤ k → t ≤ n → Ends p t (running fn (length b6.blocks) (length b6.ops) regs below (world None (with_turns s t))) (on_to (spend_from t (with_turns s t)) (λ u. repeats k i)) R T
  turn_next k i again zero s regs held match same lt fits =
      ends_so p 0 _ source.Cut ending.Cut (with_turns s 0) R T refl (leads_step p _ _ (op_step Strict p (record { fn = fn; block = length b6.blocks; place = length b6.ops; regs = regs }) below (world None (with_turns s 0)) Turn at.turn))
  turn_next k i again (suc t) s regs held match same lt fits =
      let u : State = with_turns s t in
      let spent : Leads p (running fn (length b6.blocks) (length b6.ops) regs below (world None (with_turns s (suc t)))) (running fn (length b6.blocks) (length b6.ops + 1) regs below (world None u)) = leads_step p _ _ (turn_step Strict p (record { fn = fn; block = length b6.blocks; place = length b6.ops; regs = regs }) below (world None (with_turns s (suc t))) t at.turn refl refl) in
      let back = goes_to p fn below (length b6.blocks) (length b6.ops + 1) (length b1.blocks) regs (world None u) at.back in
      ends_from p t (suc t) _ (running fn (length b1.blocks) 0 regs below (world None u)) (repeats k i u) R T (omega arith) (leads_trans p _ _ _ spent back) (again i regs u held record { each = match.each } same (omega arith) (omega arith))

  -- from the place behind the body
  next_at : (k : ℕ) (i : X) → Loops k → (s : State) (d : Config) (regs : Regs) → d ≡ running fn (length b5.blocks) 0 regs below (world None s) → Inside i regs → Matches x regs s → SameIn x.frame keep regs old → s.turns ≤ k → s.turns ≤ n → Ends p s.turns d (on_to (spend s) (λ u. repeats k (next i))) R T
  next_at k i again s d regs is inside match same lt fits =
      let done = steps.runs p fn h at.step i regs below s inside match in
      let P : Config → Type 0 = λ c. Leads p c (running fn (length b6.blocks) (length b6.ops) done.0 below (world None s)) in
      let came = subst P (ap (λ j. running fn (length b5.blocks) j regs below (world None s)) at.start ∙ sym is) done.1 in
      ends_from p s.turns s.turns d _ (on_to (spend s) (λ u. repeats k (next i))) R T (le_refl _) came (turn_next k (next i) again s.turns s done.0 done.2 done.3 (λ j a z o. done.4 j a z o ∙ same j a z o) lt fits)

  -- by how the body is left, where registers held the item at its start
  module _ (k : ℕ) (i : X) (again : Loops k) (regs : Regs) (inside : Inside i regs) (same : SameIn x.frame keep regs old) where
    body_next : (g : Flow) (s : State) (d : Config) → s.turns ≤ k → s.turns ≤ n → Flows p result fn (length b5.blocks) 0 inner xs below x (length b3.regs) regs g s d → Ends p s.turns d (after_body (repeats k (next i)) g s) R T
    body_next Goes s d lt fits t = next_at k i again s d t.now t.is (stays i regs t.now t.kept inside) t.match (λ j a z o. t.kept j a (omega arith) o ∙ same j a z o) lt fits
    body_next Continues s d lt fits t =
        let z = t.1 in
        next_at k i again s d z.now (z.is ∙ ap (λ b. running fn b 0 z.now below (world None s)) continues) (stays i regs z.now z.kept inside) z.match (λ j a y o. z.kept j a (omega arith) o ∙ same j a y o) lt fits
    body_next Breaks s d lt fits t = ends_now p Goes s d R T (rw (← breaks) (stands_from fn (inner Break) 0 below None x keep (length b3.regs) old regs s d wider same t.1))
    body_next (Returns v) s d lt fits t =
        let z = flows_from p result fn (length b5.blocks) 0 inner xs xs below x keep (length b3.regs) old regs (Returns v) s d (λ w u. u) wider same t in
        ends_now p (Returns v) s d R T (z.0, returns x.frame.ret v s d z.1)

  pub loop_ends : (k : ℕ) → Loops k
  loop_ends zero i regs s held match same lt fits = absurd (omega arith)
  loop_ends (suc k) i regs s held match same lt fits =
      let P : ℕ → Type 0 = λ j. Ends p s.turns (running fn (length b1.blocks) j regs below (world None s)) (repeats (suc k) i s) R T in
      subst P at.begin
      (split_ends p result fn below x n calls h At Inside test body b1 b2 b3 b4 r out (length b5.blocks) xs inner keep old (λ u. on_to (body i n u) (after_body (repeats k (next i)))) (Gives Goes) R at.split asks does jumps wide i regs s held match same fits
      (λ now inside same1 s1 c le1 run. ends_on p s1.turns c (body i n s1) _ (IsThrown fn h below x (length b3.regs) now) T (after_body (repeats k (next i))) R run
      (λ g s2 d le2 t. body_next k i (loop_ends k) now inside same1 g s2 d (omega arith) (omega arith) t)
      (λ v s2 d t. thrown_from fn h below x keep (length b3.regs) old now v s2 d wider same1 t))
      (λ s1 d le1 t. ends_now p Goes s1 d R T t))

-- a returned value passes through
pub returns_out : (p : Program) (result : Option Sort) (fn : ℕ) (x : Setting) (plan : Way → Option ℕ) (xs : List Exit) (to : Way → ℕ) (below : List Waiting) (keep : ℕ) (old : Regs) → plan Return ≡ None → by plan to Return ≡ to Return → (o : Option Reg) (v : Value) (s : State) (d : Config) → Back p result o fn (by plan to) xs below x keep old v s d → Back p result o fn to (left plan xs) below x keep old v s d
returns_out p result fn x plan xs to below keep old none same None v s d b = b
returns_out p result fn x plan xs to below keep old none same (Some r) v s d b =
    (uses_left plan Return xs none b.0, let P : ℕ → Type 0 = λ z. Brings fn z below x r.0 keep old v s d in subst P same b.1)

-- the test at `head`, the body up to b4, the step from b5 to b6, and the end of the loop
pub loop_works : {X : Type 0} (x : Setting) (result : Option Sort) (At Inside : X → Regs → Type 0) (test : X → Meaning Bool) (body : X → Meaning Flow) (next : X → X) (keep : ℕ) (b0 b1 b3 b4 b5 b6 b9 : Building) (o : LoopStart) (on : ℕ) (xs x0 x1 : List Exit) → keep ≤ length b0.regs → ((i : X) (regs now : Regs) → SameIn x.frame (length b3.regs) now regs → Inside i regs → Inside i now) → o.head ≡ length b1.blocks → Closes b0 b1 (Goto o.head) → Splits (λ c r. Asks x At Inside test b1 c r) b3 o.test → WorksAt x result Inside body (length b3.regs) b3 b4 xs → on ≡ length b5.blocks → Closes b4 b5 (Goto on) → Steps x Inside At next keep b5 b6 → (l : EndsLoop b6 b9 o on xs x0 x1) → WorksAt x result At (λ i n. loop (suc n) (λ j. test j n) (λ j. body j n) next i) keep b0 b9 (left (planned (looping_to l.exit on)) xs)
loop_works x result At Inside test body next keep b0 b1 b3 b4 b5 b6 b9 o on xs x0 x1 wide stays is_head c1 sp does is_next c5 steps l =
    let b2 = sp.middle in let b7 = l.turned in let b8 = l.closed in let c = l.tested in
    let r = o.test.condition.0 in
    let asks = sp.answered in let c3 = sp.closes in
    let k2 = asks.extends.blocks_grow in let k4 = does.extends.blocks_grow in let k6 = steps.extends.blocks_grow in
    let g2 = asks.extends.regs_grow in let g4 = does.extends.regs_grow in let g1 = c1.regs in let g3 = c3.regs in
    let n1 = c1.blocks in let n3 = c3.blocks in let n5 = c5.blocks in let n7 = l.turns.blocks in let n8 = l.closes.blocks in
    let x68 = extends_trans b6 b7 b8 l.turns.extends l.closes.extends in
    let x58 = extends_trans b5 b6 b8 steps.extends x68 in
    let x48 = extends_trans b4 b5 b8 c5.extends x58 in
    let x38 = extends_trans b3 b4 b8 does.extends x48 in
    let x28 = extends_trans b2 b3 b8 c3.extends x38 in
    let x18 = extends_trans b1 b2 b8 asks.extends x28 in
    let x08 = extends_trans b0 b1 b8 c1.extends x18 in
    let plan : Way → Option ℕ = planned (looping_to l.exit on) in
    let tests = If o.test.condition (length b3.blocks) l.exit in
    let p8 : Patches b8 c (length b2.blocks) tests = patches b8 c (length b2.blocks) tests record { place = length b2.ops; is = x38.items _ _ _ c3.at } (λ z. cc) (rw (sp.block, sp.start) at l.set) in
    let s4 : Stays b4 c (length b3.blocks) (length b4.blocks) = stays_trans b4 b8 c _ _ (stays_by b4 b8 _ _ x48) (stays_patch_below b8 c _ _ _ _ (omega arith) p8) in
    let done = jumps_of plan xs c b9 (length b3.blocks) (length b4.blocks) l.jumps (open_on b4 c _ _ _ _ xs s4 (le_refl _) (le_refl _) does.opens) in
    let n9 : length b9.blocks ≡ length b8.blocks = done.blocks ∙ p8.blocks in
    let o9 : length b9.ops ≡ 0 = done.ops ∙ p8.ops ∙ l.closes.ops in
    record {
      extends = done.extends b0 (p8.extends b0 x08 (omega arith)) (omega arith);
      opens = open_on b9 b9 _ _ (length b0.blocks) (length b9.blocks) (left plan xs) (stays_by b9 b9 _ _ (extends_refl b9)) (omega arith) (omega arith) done.opens;
      runs = λ p fn h to at jumps n calls i regs below s held match le.
          let wc = within_jumps p fn c b9 _ _ xs plan _ _ h done at in
          let w8 = within_patch p fn b8 c _ _ _ _ h p8 wc in
          let h8 = w8.has in
          let inner : Way → ℕ = by plan to in
          let jumps' = jump_back p fn b4 c _ _ inner xs s4 does.opens (done.jumps p fn to at.has jumps) in
          let ys = left plan xs in
          let goes = close_at p fn b4 b5 _ (λ z. cc) (rw is_next at c5) (has_less p fn b5 b8 x58 h8) in
          let loop_at : LoopAt p fn h b1 b2 b3 b4 b5 b6 r l.exit = record {
            split = split_at p fn h b1 b2 b3 b4 b8 c r l.exit (length b5.blocks) _ _ asks.extends asks.type c3 does.extends x48 p8 w8 wc.has (omega arith) (omega arith) goes;
            begin = c1.ops;
            step = within_part p fn b6 b8 _ _ (length b5.blocks) (length b6.blocks) h x68 (omega arith) (omega arith) (le_refl _) w8;
            start = c5.ops;
            line = l.line;
            turn = pushes_has p fn b6 b7 _ l.turns (has_less p fn b7 b8 l.closes.extends h8);
            back = ap (λ z. item_at p fn (length b6.blocks) z) (sym l.turns.ops) ∙ ap (λ z. item_at p fn z (length b7.ops)) (sym n7) ∙ close_at p fn b7 b8 _ (λ z. cc) (rw is_head at l.closes) h8;
          } in
          let first = goes_to p fn below _ _ (length b1.blocks) regs (world None s) (close_at p fn b0 b1 _ (λ z. cc) (rw is_head at c1) (has_less p fn b1 b8 x18 h8)) in
          let go = loop_ends p result fn below x n calls h At Inside test body next b1 b2 b3 b4 b5 b6 r l.exit xs ys to inner keep regs loop_at stays (omega arith) (omega arith) asks does steps jumps' refl is_next (returns_out p result fn x plan xs to below keep regs refl refl) (suc n) i regs s held match (λ j a z o. refl) (omega arith) le in
          let there : Ends p s.turns (running fn (length b1.blocks) 0 regs below (world None s)) (loop (suc n) (λ j. test j n) (λ j. body j n) next i s) (Flows p result fn (length b9.blocks) (length b9.ops) to ys below x keep regs) (IsThrown fn h below x keep regs) = rw (n9 ∙ sym l.behind, o9) go in
          ends_from p s.turns s.turns _ _ (loop (suc n) (λ j. test j n) (λ j. body j n) next i s) (Flows p result fn (length b9.blocks) (length b9.ops) to ys below x keep regs) (IsThrown fn h below x keep regs) (le_refl _) first there;
    }

-- a loop that holds nothing takes no step
pub no_step : {X : Type 0} (x : Setting) (keep : ℕ) (b c : Building) → c ≡ b → Steps x (Always X) (Always X) (λ i. i) keep b c
no_step {X = X} x keep b c same =
    let P : Building → Type 0 = λ z. Steps x (Always X) (Always X) (λ i. i) keep b z in
    subst P (sym same) record { extends = extends_refl b; runs = λ p fn h at i regs below s held match. (regs, leads_refl p _, tt, match, λ j a z o. refl) }
