-- Operations behind the code of parts.
use Rattle.ir_builder_expressions.proofs.Common.{refl, ◌∙◌, ℕ, arith, le_refl, length, Value, Held, State, Outcome, Does, on_to, RType, Regs, Building, Setting, HasRoom, Showing, Meaning, Computes, ComputesAll, ShowAll, List, Sort, Reg, computes_all_then, Attempts, extends_refl, extends_trans, placed_part, ends_map, room_on, thrown_from, computes_then, Acts}

-- behind the code of a part
pub part_attempts : (x : Setting) (K L : Showing) (t u : RType) (m : Meaning Value) (go : Value → Does Value) (from : Regs → State → Outcome Value → Type 0) (b0 b1 b2 : Building) (q r : ℕ) → HasRoom x b0 → Computes x K t m b0 b1 q → Attempts L b1 b2 r u from → ((v : Value) (s : State) (regs : Regs) → K v (regs q) → from regs s (go v s)) → Computes x L u (λ n s. on_to (m n s) go) b0 b2 r
part_attempts x K L t u m go from b0 b1 b2 q r room c made gives =
    let k1 = c.extends.blocks_grow in
    let l1 = c.extends.regs_grow in
    record {
      extends = extends_trans b0 b1 b2 c.extends made.extends;
      type = made.type;
      runs = λ p fn h at n calls regs below s match le.
          let p1 = placed_part p fn b0 b0 b1 b2 h (le_refl _) made.extends at in
          let p2 = placed_part p fn b0 b1 b2 b2 h k1 (extends_refl b2) at in
          computes_then p fn h below x n calls K t m b0 b1 q regs s go _ (length b0.regs) regs c p1 room (le_refl _) (λ j i z o. refl) match le
          (λ now v s1 le1 shows kept same1 match1.
          ends_map p s1.turns _ (go v s1) _ _ _ _
          (λ z s2 d a. record { now = a.now; is = a.is; shows = a.shows; kept = λ j lt. a.kept j (omega arith) ∙ kept j lt; same = a.same ∙ same1 })
          (λ z s2 d e. thrown_from fn h below x (length b0.regs) (length b1.regs) regs now z s2 d l1 (λ j i lt o. kept j lt) e)
          (made.runs p fn h p2 x (room_on x b0 b1 c.extends room) now below s1 match1 (go v s1) (gives v s1 now shows)));
    }

-- where nothing comes before it
pub acts_computes : (x : Setting) (L : Showing) (u : RType) (go : Does Value) (b c : Building) (r : ℕ) → HasRoom x b → Attempts L b c r u (Acts go) → Computes x L u (λ n. go) b c r
acts_computes x L u go b c r room a = record {
  extends = a.extends;
  type = a.type;
  runs = λ p fn h at n calls regs below s match le. a.runs p fn h at x room regs below s match (go s) refl;
}

-- behind the code of values in a row
pub all_attempts : (x : Setting) (ts : List Sort) (L : Showing) (u : RType) (m : Meaning (List Value)) (go : List Value → Does Value) (from : Regs → State → Outcome Value → Type 0) (b0 b1 b2 : Building) (rs : List Reg) (r : ℕ) → HasRoom x b0 → ComputesAll x ts m b0 b1 rs → Attempts L b1 b2 r u from → ((vs : List Value) (s : State) (regs : Regs) → ShowAll ts vs regs rs → from regs s (go vs s)) → Computes x L u (λ n s. on_to (m n s) go) b0 b2 r
all_attempts x ts L u m go from b0 b1 b2 rs r room c made gives =
    let k1 = c.extends.blocks_grow in
    let l1 = c.extends.regs_grow in
    record {
      extends = extends_trans b0 b1 b2 c.extends made.extends;
      type = made.type;
      runs = λ p fn h at n calls regs below s match le.
          let p1 = placed_part p fn b0 b0 b1 b2 h (le_refl _) made.extends at in
          let p2 = placed_part p fn b0 b1 b2 b2 h k1 (extends_refl b2) at in
          computes_all_then p fn h below x n calls ts m b0 b1 rs regs s go _ (length b0.regs) regs c p1 room (le_refl _) (λ j i z o. refl) match le
          (λ now vs s1 le1 shows kept same1 match1.
          ends_map p s1.turns _ (go vs s1) _ _ _ _
          (λ z s2 d a. record { now = a.now; is = a.is; shows = a.shows; kept = λ j lt. a.kept j (omega arith) ∙ kept j lt; same = a.same ∙ same1 })
          (λ z s2 d e. thrown_from fn h below x (length b0.regs) (length b1.regs) regs now z s2 d l1 (λ j i lt o. kept j lt) e)
          (made.runs p fn h p2 x (room_on x b0 b1 c.extends room) now below s1 match1 (go vs s1) (gives vs s1 now shows)));
    }

-- a value may be shown in another way
pub shown_as : (x : Setting) (K L : Showing) (u : RType) (m : Meaning Value) (b c : Building) (r : ℕ) → ((v : Value) (h : Held) → K v h → L v h) → Computes x K u m b c r → Computes x L u m b c r
shown_as x K L u m b c r f q = record {
  extends = q.extends;
  type = q.type;
  runs = λ p fn h at n calls regs below s match le. ends_map p s.turns _ (m n s) _ _ _ _ (λ z s1 d a. record { now = a.now; is = a.is; shows = f z (a.now r) a.shows; kept = a.kept; same = a.same }) (λ z s1 d e. e) (q.runs p fn h at n calls regs below s match le);
}
