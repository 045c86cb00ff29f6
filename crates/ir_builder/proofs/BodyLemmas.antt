-- The code of a function's body.
use Rattle.ir_builder.proofs.Common.{◌≡◌, ℕ, suc, ◌≤◌, false, List, [], ◌∷◌, length, Option, Some, None, refl, sym, ap, ◌∙◌, subst, arith, slice_get, option_map, Value, State, Flow, Goes, Breaks, Continues, Returns, Sort, Func, Lit, Program, Reg, RType, Building, handled, Extends, Waiting, Config, Strict, declared_of, registers_of, Holds, Regs, literal_of, look, type_of_reg, return_step, Adds, Closes, world, running, returning, Leads, Meaning, Has, Placed, or_other, Setting, leads_refl, leads_step, leads_trans, ends_more, extends_trans, has_less, type_has, Filled, LeavesWith, Bodied, Escapes}
use Rattle.std.proofs.lemmas.List.{nil_from_length}
use Rattle.ir_core.specs.declared.code.Last.TheVariants.{Return as Leave}
use Rattle.ir_core.specs.declared.code.Lit.{Lit as Literal}
use Rattle.ir_builder_frames.proofs.StepLemmas.{literal_makes}
use Rattle.ir_builder_loops_and_jumps.specs.declared.ways.Exit.{Exit}
use Rattle.ir_builder_loops_and_jumps.specs.Runs.{JumpTo, OpenIn, Back, Flows, Emitted}
use Rattle.ir_builder_loops_and_jumps.proofs.ExitLemmas.{close_at}
use Rattle.ir_builder.proofs.FillLemmas.{true_false, all_written}

no_other : (h : Option ℕ) → h ≡ or_other h None
no_other None = refl
no_other (Some k) = refl

-- exits that were filled are jumps to one place
fill_jumps : (p : Program) (fn : ℕ) (b1 b3 b4 : Building) (start end : ℕ) → Extends b1 b3 → Filled b3 b4 start end end → Has p fn b4 → (from to : ℕ) (es : List Exit) → start ≤ from → to ≤ end → OpenIn b1 from to es → JumpTo p fn b1 (λ w. end) es
fill_jumps p fn b1 b3 b4 start end x f has from to [] l u o = tt
fill_jumps p fn b1 b3 b4 start end x f has from to (e ∷ es) l u o =
    let a = o.1 in
    let z = o.2 in
    (λ i is. f.jumps p fn e.block i has (omega arith) (omega arith) (x.items e.block i _ is), fill_jumps p fn b1 b3 b4 start end x f has (suc e.block) to es (omega arith) u o.3)

-- a literal is given
given : {line : ℕ} (p : Program) (fn : ℕ) (h : Func) (b1 b2 b3 : Building) (r : Reg) (t : RType) (last : Literal) (end : Value) → Adds b1 b2 r.0 t (Lit r last) line → Closes b2 b3 (Leave r) → Has p fn b3 → slice_get p.funcs fn ≡ Some h → literal_of t last ≡ Some (Holds end) → (now : Regs) (below : List Waiting) (s : State) → Leads p (running fn (length b1.blocks) (length b1.ops) now below (world None s)) (returning p end below (world None s))
given p fn h b1 b2 b3 r t last end a c has there is now below s =
    let has2 = has_less p fn b2 b3 c.extends has in
    let made = literal_makes b1 b2 r.0 t last (Holds end) a is in
    let first = made.runs p fn has2 now below s (Holds end) refl in
    let declared : registers_of p fn ≡ h.regs = ap declared_of there in
    let type : type_of_reg h.regs r ≡ Some t = ap (λ ds. type_of_reg ds r) (sym declared) ∙ type_has p fn b2 r.0 t has2 a.type in
    let value : first.0 r.0 ≡ Holds end = first.2 in
    let held : look h.regs first.0 r ≡ Some (Holds end) = ap (option_map (λ (u : RType). first.0 r.0)) type ∙ ap Some value in
    let step = return_step Strict p (record { fn = fn; block = length b2.blocks; place = length b2.ops; regs = first.0 }) below (world None s) r h (Holds end) (close_at p fn b2 b3 _ (λ z. cc) c has) there held in
    leads_trans p _ _ _ first.1 (leads_step p _ _ step)

module _ (x : Setting) (result : Option Sort) (t : RType) (last : Literal) (m : Meaning Flow) (b0 b1 b2 b3 b4 : Building) (x0 xs : List Exit) (from end : ℕ) (r : Reg) {line : ℕ} (bare : x.frame.ret ≡ None) (q : Emitted x result false m b0 b1 x0 xs) (a : Adds b1 b2 r.0 t (Lit r last) line) (c : Closes b2 b3 (Leave r)) (is_from : from ≡ length b0.blocks) (is_end : end ≡ length b2.blocks) (f : Filled b3 b4 from end end) where
  x13 : Extends b1 b3
  x13 = extends_trans b1 b2 b3 a.extends c.extends

  flow_out : (p : Program) (fn : ℕ) (h : Func) (value : Value) → Has p fn b3 → slice_get p.funcs fn ≡ Some h → literal_of t last ≡ Some (Holds value) → (regs : Regs) (below : List Waiting) (g : Flow) (s : State) (d : Config) → Flows p result fn (length b1.blocks) (length b1.ops) (λ w. end) q.mine below x (length b0.regs) regs g s d → (e : Config) × Leads p d e × LeavesWith p result value below g s e
  flow_out p fn h value has there is regs below Goes s d z =
      let P : Config → Type 0 = λ y. Leads p y (returning p value below (world None s)) in
      (returning p value below (world None s), subst P (sym z.is) (given p fn h b1 b2 b3 r t last value a c has there is z.now below s), refl)
  flow_out p fn h value has there is regs below Breaks s d z = absurd (true_false _ z.0 (q.inside refl).0)
  flow_out p fn h value has there is regs below Continues s d z = absurd (true_false _ z.0 (q.inside refl).1)
  flow_out p fn h value has there is regs below (Returns v) s d z =
      let P : Option Reg → Type 0 = λ o. Back p result o fn (λ w. end) q.mine below x (length b0.regs) regs v s d in
      let back = subst P bare z.1 in
      (d, leads_refl p d, (z.0, back))

  pub bodied : Bodied x result t last m b0 b4
  bodied =
      let n1 = q.works.extends.blocks_grow in
      let n2 = a.blocks in
      let n3 = c.blocks in
      let n4 = f.blocks in
      record {
        extends = f.extends b0 (extends_trans b0 b1 b3 q.works.extends x13) (omega (arith, is_from));
        ops = f.ops ∙ nil_from_length b3.ops c.ops;
        more = omega arith;
        full = λ k le. all_written b2 b3 b4 r from end c f is_end k (omega (arith, is_from, le));
        works = λ p fn h value has handlers there is n calls regs below s match le.
            let has3 = f.has p fn has in
            let has1 = has_less p fn b1 b3 x13 has3 in
            let placed : Placed p fn b0 b1 None = record { has = has1; guards = λ k l u. handlers k ∙ (f.handlers k ∙ (x13.handlers k u ∙ no_other (handled b1 k))) } in
            let jumps = fill_jumps p fn b1 b3 b4 from end x13 f has (length b0.blocks) (length b1.blocks) q.mine (omega (arith, is_from)) (omega (arith, is_end, n2)) q.works.opens in
            let run = q.works.runs p fn None (λ w. end) placed jumps n calls regs below s match le in
            ends_more p s.turns _ (m n s) _ (LeavesWith p result value below) _ (Escapes fn below) (λ g u d z. flow_out p fn h value has3 there is regs below g u d z) (λ v u d z. z) run;
      }
