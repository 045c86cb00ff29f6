-- An `if` does in its code what it means.
use Rattle.ir_builder_loops_and_jumps.proofs.Common.{◌≡◌, ℕ, List, [], ◌∷◌, ◌++◌, length, Option, Some, None, Bool, refl, sym, ap, ◌∙◌, arith, le_refl, if◌then◌else◌, Sort, State, on_to, Flow, Goes, Breaks, Continues, Returns, If, Unreachable, Program, Building, held, End, Regs, Config, Waiting, Setting, Placed, Patches, world, running, IsThrown, Meaning, Way, Break, Continue, Join, Exit, Test, planned, left, by, OpenIn, Flows, Works, Joining, Always, Asks, Splits, EndsArm, joining, Joins, ends_at, ends_map, extends_refl, extends_trans, within_part, patches, thrown_from}
use Rattle.ir_builder_loops_and_jumps.proofs.ExitLemmas.{close_at, within_patch, Stays, stays_by, stays_trans, stays_patch_below, jump_back, open_on, open_append, jump_front, jump_rest, UsesToo, uses_front, uses_rest, uses_left, jumps_of, within_jumps}
use Rattle.ir_builder_loops_and_jumps.proofs.FlowLemmas.{flows_from, flow_goto, works_at}
use Rattle.ir_builder_loops_and_jumps.proofs.SplitLemmas.{SplitAt, split_at, split_ends}
use Rattle.ir_builder_loops_and_jumps.proofs.LoopLemmas.{returns_out}

-- a body that ends with the jump
pub works_joining : (x : Setting) (result : Option Sort) (m : Meaning Flow) (b c : Building) (xs : List Exit) → Works x result m b c xs → Joining x result m b c xs
works_joining x result m b c xs q = record {
  extends = q.extends;
  opens = q.opens;
  runs = λ p fn h to at jumps goes n calls regs below s match le. flow_goto p result fn below x n calls _ _ (to Join) to xs (length b.regs) regs s.turns _ (m n s) (IsThrown fn h below x (length b.regs) regs) goes (q.runs p fn h to at jumps n calls regs below s match le);
}

-- a test with its body, before others that are tried where it does not hold
pub arm_joining : (x : Setting) (result : Option Sort) (test : Meaning Bool) (body other : Meaning Flow) (b1 b3 b4 b6 end : Building) (t : Test) (ys zs before after : List Exit) → Splits (λ c r. Asks x (Always ℕ) (Always ℕ) (λ i. test) b1 c r) b3 t → Works x result body b3 b4 ys → EndsArm b4 b6 t before after → Joining x result other b6 end zs → Joining x result (λ n s. on_to (test n s) (λ h. if h then body n else other n)) b1 end (ys ++ record { way = Join; block = length b4.blocks } ∷ zs)
arm_joining x result test body other b1 b3 b4 b6 end t ys zs before after sp q e rest =
    let b2 = sp.middle in let b5 = e.closed in
    let r = t.condition.0 in
    let asks = sp.answered in let c3 = sp.closes in let c5 = e.closes in
    let last : List Exit = record { way = Join; block = length b4.blocks } ∷ zs in
    let k2 = asks.extends.blocks_grow in let k4 = q.extends.blocks_grow in let k6 = rest.extends.blocks_grow in
    let g2 = asks.extends.regs_grow in let g4 = q.extends.regs_grow in let g3 = c3.regs in let g5 = c5.regs in
    let n3 = c3.blocks in let n5 = c5.blocks in
    let x35 = extends_trans b3 b4 b5 q.extends c5.extends in
    let x15 = extends_trans b1 b2 b5 asks.extends (extends_trans b2 b3 b5 c3.extends x35) in
    let tests = If t.condition (length b3.blocks) (length b5.blocks) in
    let p6 : Patches b5 b6 (length b2.blocks) tests = patches b5 b6 (length b2.blocks) tests record { place = length b2.ops; is = x35.items _ _ _ c3.at } (λ z. cc) (rw (sp.block, sp.start, e.here) at e.set) in
    let n6 : length b6.blocks ≡ length b5.blocks = p6.blocks in
    let g6 : length b6.regs ≡ length b5.regs = ap length p6.same_regs in
    let s4 : Stays b4 end (length b3.blocks) (length b4.blocks) = stays_trans b4 b6 end _ _ (stays_trans b4 b5 b6 _ _ (stays_by b4 b5 _ _ c5.extends) (stays_patch_below b5 b6 _ _ _ _ (omega arith) p6)) (stays_by b6 end _ _ rest.extends) in
    let at4 : held end (length b4.blocks) (length b4.ops) ≡ Some (End Unreachable) = rest.extends.items _ _ _ (p6.others _ _ _ (λ z. omega arith) c5.at) in
    let open4 : OpenIn end (length b4.blocks) (length end.blocks) last = (record { place = length b4.ops; is = at4 }, le_refl _, omega arith, open_on end end (length b6.blocks) (length end.blocks) _ _ zs (stays_by end end _ _ (extends_refl end)) (omega arith) (le_refl _) rest.opens) in
    record {
      extends = extends_trans b1 b6 end (p6.extends b1 x15 k2) rest.extends;
      opens = open_append end (length b1.blocks) (length b4.blocks) (length end.blocks) ys last (omega arith) (omega arith) (open_on b4 end _ _ _ _ ys s4 (omega arith) (le_refl _) q.opens) open4;
      runs = λ p fn h to at jumps goes n calls regs below s match le.
          let keep = length b1.regs in
          let w6 = within_part p fn b6 end _ _ (length b1.blocks) (length b6.blocks) h rest.extends (le_refl _) k6 (le_refl _) at in
          let w5 = within_patch p fn b5 b6 _ _ _ _ h p6 w6 in
          let at6 : Placed p fn b6 end h = within_part p fn end end _ _ (length b6.blocks) (length end.blocks) h (extends_refl end) (omega arith) (le_refl _) (le_refl _) at in
          let j4 = jump_back p fn b4 end _ _ to ys s4 q.opens (jump_front p fn end to ys last jumps) in
          let j6 = jump_rest p fn end to ys last jumps in
          let split : SplitAt p fn h b1 b2 b3 b4 r (length b6.blocks) (to Join) = rw n6 (split_at p fn h b1 b2 b3 b4 b5 b6 r (length b5.blocks) (to Join) _ _ asks.extends asks.type c3 q.extends c5.extends p6 w5 w6.has (le_refl _) (omega arith) (j6.0 (length b4.ops) at4)) in
          let R = Flows p result fn (to Join) 0 to (ys ++ last) below x keep regs in
          let T = IsThrown fn h below x keep regs in
          let more : UsesToo zs (ys ++ last) = λ w u. uses_rest ys last w (uses_rest (record { way = Join; block = length b4.blocks } ∷ []) zs w u) in
          split_ends p result fn below x n calls h (Always ℕ) (Always ℕ) (λ i. test) (λ i. body) b1 b2 b3 b4 r (length b6.blocks) (to Join) ys to keep regs (body n) (other n) R split asks (works_at x result (Always ℕ) body b3 b4 ys q) j4 (le_refl _) 0 regs s tt match (λ j a z o. refl) le
          (λ now inside same s1 c le1 run. ends_map p s1.turns c (body n s1) (Flows p result fn (to Join) 0 to ys below x (length b3.regs) now) R (IsThrown fn h below x (length b3.regs) now) T
          (λ g s2 d z. flows_from p result fn (to Join) 0 to ys (ys ++ last) below x keep (length b3.regs) regs now g s2 d (uses_front ys last) (omega arith) same z)
          (λ v s2 d z. thrown_from fn h below x keep (length b3.regs) regs now v s2 d (omega arith) same z) run)
          (λ s1 d le1 z.
          let is6 : running fn (length b6.blocks) 0 z.now below (world None s1) ≡ running fn (length b6.blocks) (length b6.ops) z.now below (world None s1) = ap (λ j. running fn (length b6.blocks) j z.now below (world None s1)) (sym (p6.ops ∙ c5.ops)) in
          ends_at p s1.turns (running fn (length b6.blocks) (length b6.ops) z.now below (world None s1)) d (other n s1) R T (z.is ∙ is6)
          (ends_map p s1.turns _ (other n s1) (Flows p result fn (to Join) 0 to zs below x (length b6.regs) z.now) R (IsThrown fn h below x (length b6.regs) z.now) T
          (λ g s2 d2 y. flows_from p result fn (to Join) 0 to zs (ys ++ last) below x keep (length b6.regs) regs z.now g s2 d2 more (omega arith) z.kept y)
          (λ v s2 d2 y. thrown_from fn h below x keep (length b6.regs) regs z.now v s2 d2 (omega arith) z.kept y)
          (rest.runs p fn h to at6 j6.1 goes n calls z.now below s1 z.match (omega arith))));
    }

-- from the end of an `if`, where bodies that came to their end meet, seen from behind it
flows_out : (p : Program) (result : Option Sort) (fn k i : ℕ) (x : Setting) (end : ℕ) (xs : List Exit) (to : Way → ℕ) (below : List Waiting) (keep : ℕ) (old : Regs) → k ≡ end → i ≡ 0 → (g : Flow) (s : State) (d : Config) → Flows p result fn end 0 (by (planned (joining end)) to) xs below x keep old g s d → Flows p result fn k i to (left (planned (joining end)) xs) below x keep old g s d
flows_out p result fn k i x end xs to below keep old same is Goes s d t = rw (same, is) t
flows_out p result fn k i x end xs to below keep old same is Breaks s d t = (uses_left (planned (joining end)) Break xs refl t.0, t.1)
flows_out p result fn k i x end xs to below keep old same is Continues s d t = (uses_left (planned (joining end)) Continue xs refl t.0, t.1)
flows_out p result fn k i x end xs to below keep old same is (Returns v) s d t = (t.0, returns_out p result fn x (planned (joining end)) xs to below keep old refl refl x.frame.ret v s d t.1)

-- and all of it
pub if_works : (x : Setting) (result : Option Sort) (m : Meaning Flow) (b0 b2 b4 : Building) (xs before after : List Exit) → Joining x result m b0 b2 xs → (e : Joins b2 b4 xs before after) → Works x result m b0 b4 (left (planned (joining e.end)) xs)
if_works x result m b0 b2 b4 xs before after q e =
    let b3 = e.closed in
    let plan : Way → Option ℕ = planned (joining e.end) in
    let k2 = q.extends.blocks_grow in let n3 = e.closes.blocks in let is_end = e.here in
    let x03 = extends_trans b0 b2 b3 q.extends e.closes.extends in
    let s2 : Stays b2 b3 (length b0.blocks) (length b2.blocks) = stays_by b2 b3 _ _ e.closes.extends in
    let done = jumps_of plan xs b3 b4 (length b0.blocks) (length b2.blocks) e.jumps (open_on b2 b3 _ _ _ _ xs s2 (le_refl _) (le_refl _) q.opens) in
    let n4 = done.blocks in
    record {
      extends = done.extends b0 x03 (le_refl _);
      opens = open_on b4 b4 _ _ (length b0.blocks) (length b4.blocks) (left plan xs) (stays_by b4 b4 _ _ (extends_refl b4)) (le_refl _) (omega arith) done.opens;
      runs = λ p fn h to at jumps n calls regs below s match le.
          let w3 = within_jumps p fn b3 b4 _ _ xs plan _ _ h done at in
          let at2 : Placed p fn b0 b2 h = within_part p fn b2 b3 _ _ (length b0.blocks) (length b2.blocks) h e.closes.extends (le_refl _) (omega arith) (le_refl _) w3 in
          let inner : Way → ℕ = by plan to in
          let T = IsThrown fn h below x (length b0.regs) regs in
          ends_map p s.turns _ (m n s) (Flows p result fn e.end 0 inner xs below x (length b0.regs) regs) (Flows p result fn (length b4.blocks) (length b4.ops) to (left plan xs) below x (length b0.regs) regs) T T
          (λ g s1 d t. flows_out p result fn (length b4.blocks) (length b4.ops) x e.end xs to below (length b0.regs) regs (n4 ∙ sym e.here) (done.ops ∙ e.closes.ops) g s1 d t)
          (λ v s1 d t. t)
          (q.runs p fn h inner at2 (jump_back p fn b2 b3 _ _ inner xs s2 q.opens (done.jumps p fn to at.has jumps)) (close_at p fn b2 b3 _ (λ z. cc) e.closes w3.has) n calls regs below s match le);
    }
