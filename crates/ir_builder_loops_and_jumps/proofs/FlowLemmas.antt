-- How stretches of code for statements follow one another.
use Rattle.ir_builder_loops_and_jumps.proofs.Common.{◌≡◌, ℕ, ◌≤◌, List, [], ◌++◌, length, Option, Some, None, Bool, cond, refl, sym, ap, ◌∙◌, subst, arith, le_refl, Value, BoolVal, Sort, State, Outcome, Gives, Raises, Stops, on_to, Flow, Goes, Breaks, Continues, Returns, flow_on, Goto, If, Reg, Program, Building, End, Holds, Regs, World, Config, Waiting, Strict, item_at, registers_of, type_of_reg, goto_step, if_step, Setting, Placed, world, running, Leads, Ends, Matches, SameIn, Stands, IsThrown, CallsWork, Meaning, Way, Break, Continue, Return, Exit, JumpTo, Back, Flows, Works, Always, WorksAt, leads_trans, leads_step, ends_on, ends_now, ends_at, ends_map, extends_refl, extends_trans, placed_part, stands_from, thrown_from}
use Rattle.ir_core.specs.declared.code.RType.TheVariants.{Bool as BoolType}
use Rattle.ir_builder_loops_and_jumps.proofs.ExitLemmas.{stays_by, jump_back, open_on, open_append, jump_front, jump_rest, UsesToo, uses_front, uses_rest}

-- ---- single steps

module _ (p : Program) (fn : ℕ) (below : List Waiting) where
  pub goes_to : (k i t : ℕ) (regs : Regs) (w : World) → item_at p fn k i ≡ Some (End (Goto t)) → Leads p (running fn k i regs below w) (running fn t 0 regs below w)
  goes_to k i t regs w at = leads_step p _ _ (goto_step Strict p (record { fn = fn; block = k; place = i; regs = regs }) below w t at)

  pub goes_by : (k i : ℕ) (r : Reg) (a b : ℕ) (h : Bool) (regs : Regs) (w : World) → item_at p fn k i ≡ Some (End (If r a b)) → type_of_reg (registers_of p fn) r ≡ Some BoolType → regs r.0 ≡ Holds (BoolVal h) → Leads p (running fn k i regs below w) (running fn (cond h a b) 0 regs below w)
  goes_by k i r a b h regs w at t is = leads_step p _ _ (if_step Strict p (record { fn = fn; block = k; place = i; regs = regs }) below w r a b h at t is)

-- ---- seen from a whole

module _ (p : Program) (result : Option Sort) where
  pub back_from : (o : Option Reg) (fn : ℕ) (to : Way → ℕ) (xs ys : List Exit) (below : List Waiting) (x : Setting) (keep keep' : ℕ) (regs regs' : Regs) (v : Value) (s : State) (d : Config) → UsesToo xs ys → keep ≤ keep' → SameIn x.frame keep regs' regs → Back p result o fn to xs below x keep' regs' v s d → Back p result o fn to ys below x keep regs v s d
  back_from None fn to xs ys below x keep keep' regs regs' v s d more le same b = b
  back_from (Some r) fn to xs ys below x keep keep' regs regs' v s d more le same b = (let t = b.1.stands in (more Return b.0, record { stands = record { now = t.now; is = t.is; match = t.match; kept = λ j a z o. t.kept j a (omega arith) o ∙ same j a z o }; value = b.1.value }))

  pub flows_from : (fn k i : ℕ) (to : Way → ℕ) (xs ys : List Exit) (below : List Waiting) (x : Setting) (keep keep' : ℕ) (regs regs' : Regs) (g : Flow) (s : State) (d : Config) → UsesToo xs ys → keep ≤ keep' → SameIn x.frame keep regs' regs → Flows p result fn k i to xs below x keep' regs' g s d → Flows p result fn k i to ys below x keep regs g s d
  flows_from fn k i to xs ys below x keep keep' regs regs' Goes s d more le same t = stands_from fn k i below None x keep keep' regs regs' s d le same t
  flows_from fn k i to xs ys below x keep keep' regs regs' Breaks s d more le same t = (more Break t.0, stands_from fn (to Break) 0 below None x keep keep' regs regs' s d le same t.1)
  flows_from fn k i to xs ys below x keep keep' regs regs' Continues s d more le same t = (more Continue t.0, stands_from fn (to Continue) 0 below None x keep keep' regs regs' s d le same t.1)
  flows_from fn k i to xs ys below x keep keep' regs regs' (Returns v) s d more le same t = (t.0, back_from x.frame.ret fn to xs ys below x keep keep' regs regs' v s d more le same t.1)

module _ (p : Program) (result : Option Sort) (fn : ℕ) (below : List Waiting) (x : Setting) (n : ℕ) (calls : CallsWork p x.source n) where
  -- a part of a statement
  pub part_works : (h : Option ℕ) (m : Meaning Flow) (b c : Building) (xs ys : List Exit) (to : Way → ℕ) (keep : ℕ) (old regs : Regs) (s : State) → Works x result m b c xs → UsesToo xs ys → Placed p fn b c h → JumpTo p fn c to xs → keep ≤ length b.regs → SameIn x.frame keep regs old → Matches x regs s → s.turns ≤ n → Ends p s.turns (running fn (length b.blocks) (length b.ops) regs below (world None s)) (m n s) (Flows p result fn (length c.blocks) (length c.ops) to ys below x keep old) (IsThrown fn h below x keep old)
  part_works h m b c xs ys to keep old regs s q more at j le same match fits =
      ends_map p s.turns _ (m n s) (Flows p result fn (length c.blocks) (length c.ops) to xs below x (length b.regs) regs) (Flows p result fn (length c.blocks) (length c.ops) to ys below x keep old) (IsThrown fn h below x (length b.regs) regs) (IsThrown fn h below x keep old)
      (λ g s1 d t. flows_from p result fn _ _ to xs ys below x keep (length b.regs) old regs g s1 d more le same t)
      (λ v s1 d t. thrown_from fn h below x keep (length b.regs) old regs v s1 d le same t)
      (q.runs p fn h to at j n calls regs below s match fits)

  -- the same, from a place that is that of the part
  pub part_from : (h : Option ℕ) (m : Meaning Flow) (b c : Building) (xs ys : List Exit) (to : Way → ℕ) (keep : ℕ) (old : Regs) (k i : ℕ) (s : State) (d : Config) → Works x result m b c xs → UsesToo xs ys → Placed p fn b c h → JumpTo p fn c to xs → keep ≤ length b.regs → k ≡ length b.blocks → i ≡ length b.ops → Stands fn k i below None x keep old s d → s.turns ≤ n → Ends p s.turns d (m n s) (Flows p result fn (length c.blocks) (length c.ops) to ys below x keep old) (IsThrown fn h below x keep old)
  part_from h m b c xs ys to keep old k i s d q more at j le is_k is_i t fits =
      let place : d ≡ running fn (length b.blocks) (length b.ops) t.now below (world None s) = t.is ∙ ap (λ z. running fn z i t.now below (world None s)) is_k ∙ ap (λ z. running fn (length b.blocks) z t.now below (world None s)) is_i in
      ends_at p s.turns _ d (m n s) _ _ place (part_works h m b c xs ys to keep old t.now s q more at j le t.kept t.match fits)

  -- a jump behind a stretch
  pub flow_goto : (k i next : ℕ) (to : Way → ℕ) (ys : List Exit) (keep : ℕ) (old : Regs) (t : ℕ) (c : Config) (res : Outcome Flow) (E : Value → State → Config → Type 0) → item_at p fn k i ≡ Some (End (Goto next)) → Ends p t c res (Flows p result fn k i to ys below x keep old) E → Ends p t c res (Flows p result fn next 0 to ys below x keep old) E
  flow_goto k i next to ys keep old t c (Gives Goes s) E at q =
      let z = q.3 in
      (q.0, running fn next 0 z.now below (world None s), leads_trans p c q.1 _ q.2 (let P : Config → Type 0 = λ y. Leads p y (running fn next 0 z.now below (world None s)) in subst P (sym z.is) (goes_to p fn below k i next z.now (world None s) at)), record { now = z.now; is = refl; match = z.match; kept = z.kept })
  flow_goto k i next to ys keep old t c (Gives Breaks s) E at q = q
  flow_goto k i next to ys keep old t c (Gives Continues s) E at q = q
  flow_goto k i next to ys keep old t c (Gives (Returns v) s) E at q = q
  flow_goto k i next to ys keep old t c (Raises v s) E at q = q
  flow_goto k i next to ys keep old t c (Stops w s) E at q = q

  flow_then : (h : Option ℕ) (m : Meaning Flow) (b c : Building) (xs ys : List Exit) (to : Way → ℕ) (keep : ℕ) (old : Regs) → Works x result m b c xs → UsesToo xs ys → Placed p fn b c h → JumpTo p fn c to xs → keep ≤ length b.regs → (g : Flow) (s : State) (d : Config) → s.turns ≤ n → Flows p result fn (length b.blocks) (length b.ops) to ys below x keep old g s d → Ends p s.turns d (flow_on (m n) g s) (Flows p result fn (length c.blocks) (length c.ops) to ys below x keep old) (IsThrown fn h below x keep old)
  flow_then h m b c xs ys to keep old q more at j le Goes s d fits t = part_from h m b c xs ys to keep old _ _ s d q more at j le refl refl t fits
  flow_then h m b c xs ys to keep old q more at j le Breaks s d fits t = ends_now p Breaks s d (Flows p result fn (length c.blocks) (length c.ops) to ys below x keep old) (IsThrown fn h below x keep old) t
  flow_then h m b c xs ys to keep old q more at j le Continues s d fits t = ends_now p Continues s d (Flows p result fn (length c.blocks) (length c.ops) to ys below x keep old) (IsThrown fn h below x keep old) t
  flow_then h m b c xs ys to keep old q more at j le (Returns v) s d fits t = ends_now p (Returns v) s d (Flows p result fn (length c.blocks) (length c.ops) to ys below x keep old) (IsThrown fn h below x keep old) t

-- nothing
pub none_works : (x : Setting) (result : Option Sort) (b : Building) → Works x result (λ n s. Gives Goes s) b b []
none_works x result b = record {
  extends = extends_refl b;
  opens = tt;
  runs = λ p fn h to at jumps n calls regs below s match le.
      ends_now p Goes s _ (Flows p result fn (length b.blocks) (length b.ops) to [] below x (length b.regs) regs) (IsThrown fn h below x (length b.regs) regs) record { now = regs; is = refl; match = match; kept = λ j a z o. refl };
}

-- what works anywhere works for any item, and what works for an item works where nothing is asked of registers
pub works_at : {X : Type 0} (x : Setting) (result : Option Sort) (At : X → Regs → Type 0) (m : Meaning Flow) (b c : Building) (xs : List Exit) → Works x result m b c xs → WorksAt x result At (λ i. m) (length b.regs) b c xs
works_at x result At m b c xs w = record { extends = w.extends; opens = w.opens; runs = λ p fn h to at jumps n calls i regs below s held. w.runs p fn h to at jumps n calls regs below s }

pub at_works : {X : Type 0} (x : Setting) (result : Option Sort) (At : X → Regs → Type 0) (m : X → Meaning Flow) (b c : Building) (xs : List Exit) (i : X) → ((regs : Regs) → At i regs) → WorksAt x result At m (length b.regs) b c xs → Works x result (m i) b c xs
at_works x result At m b c xs i all w = record { extends = w.extends; opens = w.opens; runs = λ p fn h to at jumps n calls regs below s. w.runs p fn h to at jumps n calls i regs below s (all regs) }

-- one statement after another
pub then_at : {X : Type 0} (x : Setting) (result : Option Sort) (At : X → Regs → Type 0) (m1 : X → Meaning Flow) (m2 : Meaning Flow) (keep : ℕ) (b0 b1 b2 : Building) (x1 x2 : List Exit) → keep ≤ length b1.regs → WorksAt x result At m1 keep b0 b1 x1 → Works x result m2 b1 b2 x2 → WorksAt x result At (λ i n s. on_to (m1 i n s) (flow_on (m2 n))) keep b0 b2 (x1 ++ x2)
then_at x result At m1 m2 keep b0 b1 b2 x1 x2 wide q r =
    let st = stays_by b1 b2 (length b0.blocks) (length b1.blocks) r.extends in
    let l1 = q.extends.blocks_grow in let l2 = r.extends.blocks_grow in
    record {
      extends = extends_trans b0 b1 b2 q.extends r.extends;
      opens = open_append b2 (length b0.blocks) (length b1.blocks) (length b2.blocks) x1 x2 l1 l2 (open_on b1 b2 _ _ _ _ x1 st (le_refl _) (le_refl _) q.opens) r.opens;
      runs = λ p fn h to at jumps n calls i regs below s held match le.
          let j1 = jump_back p fn b1 b2 _ _ to x1 st q.opens (jump_front p fn b2 to x1 x2 jumps) in
          let j2 = jump_rest p fn b2 to x1 x2 jumps in
          let at1 = placed_part p fn b0 b0 b1 b2 h (le_refl _) r.extends at in
          let at2 = placed_part p fn b0 b1 b2 b2 h l1 (extends_refl b2) at in
          let R1 = Flows p result fn (length b1.blocks) (length b1.ops) to x1 below x keep regs in
          let R2 = Flows p result fn (length b2.blocks) (length b2.ops) to (x1 ++ x2) below x keep regs in
          let T = IsThrown fn h below x keep regs in
          ends_on p s.turns _ (m1 i n s) R1 T T (flow_on (m2 n)) R2 (q.runs p fn h to at1 j1 n calls i regs below s held match le)
          (λ g s1 d le1 t. flow_then p result fn below x n calls h m2 b1 b2 x2 (x1 ++ x2) to keep regs r (uses_rest x1 x2) at2 j2 wide g s1 d (omega arith)
          (flows_from p result fn _ _ to x1 (x1 ++ x2) below x keep keep regs regs g s1 d (uses_front x1 x2) (le_refl _) (λ j a z o. refl) t))
          (λ v s1 d t. t);
    }

pub then_works : (x : Setting) (result : Option Sort) (m1 m2 : Meaning Flow) (b0 b1 b2 : Building) (x1 x2 : List Exit) → Works x result m1 b0 b1 x1 → Works x result m2 b1 b2 x2 → Works x result (λ n s. on_to (m1 n s) (flow_on (m2 n))) b0 b2 (x1 ++ x2)
then_works x result m1 m2 b0 b1 b2 x1 x2 q r =
    at_works x result (Always ℕ) (λ i n s. on_to (m1 n s) (flow_on (m2 n))) b0 b2 (x1 ++ x2) 0 (λ regs. tt)
    (then_at x result (Always ℕ) (λ i. m1) m2 (length b0.regs) b0 b1 b2 x1 x2 q.extends.regs_grow (works_at x result (Always ℕ) m1 b0 b1 x1 q) r)
