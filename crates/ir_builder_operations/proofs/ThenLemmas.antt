-- One operation behind another: what both do together is what the source does with one part behind the other.
use Rattle.ir_builder_operations.proofs.Common.{◌≡◌, refl, sym, ◌∙◌, subst, ℕ, ◌<◌, ◌≤◌, arith, le_refl, List, length, Option, None, Value, Sort, State, Outcome, Does, ◌>>=◌, on_to, Program, RType, Regs, Building, Setting, Placed, world, running, Ends, Matches, HasRoom, IsThrown, Showing, Shows, Arrives, Attempts, extends_refl, extends_trans, type_below, placed_part, ends_on, ends_at, ends_of, ends_map, room_on, match_kept, thrown_from, ActsOn, ActsOnTwo}
use Rattle.ir_core.specs.Meaning.{Waiting, Config}

-- what is needed may be put otherwise
pub attempts_as : (K : Showing) (b c : Building) (r : ℕ) (t : RType) (first second : Regs → State → Outcome Value → Type 0) → ((regs : Regs) (s : State) (res : Outcome Value) → second regs s res → first regs s res) → Attempts K b c r t first → Attempts K b c r t second
attempts_as K b c r t first second f m = record {
  extends = m.extends;
  type = m.type;
  runs = λ p fn h placed x room regs below s match res needs. m.runs p fn h placed x room regs below s match res (f regs s res needs);
}

-- ---- behind an operation

module _ (p : Program) (fn : ℕ) (h : Option ℕ) (below : List Waiting) (x : Setting) where
  pub attempt_then : (K : Showing) (t : RType) (first : Regs → State → Outcome Value → Type 0) (b c : Building) (r : ℕ) (regs : Regs) (s : State) (res : Outcome Value) (go : Value → Does Value) (S : Value → State → Config → Type 0) → Attempts K b c r t first → Placed p fn b c h → HasRoom x b → Matches x regs s → first regs s res → ((now : Regs) (v : Value) (s1 : State) → s1.turns ≤ s.turns → K v (now r) → ((j : ℕ) → j < length b.regs → now j ≡ regs j) → s1.locals ≡ s.locals → Matches x now s1 → Ends p s1.turns (running fn (length c.blocks) (length c.ops) now below (world None s1)) (go v s1) S (IsThrown fn h below x (length b.regs) regs)) → Ends p s.turns (running fn (length b.blocks) (length b.ops) regs below (world None s)) (on_to res go) S (IsThrown fn h below x (length b.regs) regs)
  attempt_then K t first b c r regs s res go S a at room match f next =
      let top = room.top in
      let T = IsThrown fn h below x (length b.regs) regs in
      ends_on p s.turns _ res (Arrives K fn (length c.blocks) (length c.ops) below (length b.regs) regs s r) T T go S (a.runs p fn h at x room regs below s match res f)
      (λ v s1 d le y. ends_at p s1.turns (running fn (length c.blocks) (length c.ops) y.now below (world None s1)) d (go v s1) S _ y.is (next y.now v s1 le y.shows y.kept y.same (match_kept x b regs y.now s s1 room (λ j lt. y.kept j (omega arith)) y.same match)))
      (λ v s1 d t. t)

-- what is done goes on behind a first step
pub record Goes (K : Showing) (keep q : ℕ) (first second : Regs → State → Outcome Value → Type 0) (regs : Regs) (s : State) (res : Outcome Value) : Type 0 where
  pub mid : Outcome Value
  pub go : Value → Does Value
  pub does : res ≡ on_to mid go
  pub start : first regs s mid
  pub on : (now : Regs) (v : Value) (s1 : State) → K v (now q) → ((j : ℕ) → j < keep → now j ≡ regs j) → second now s1 (go v s1)

pub attempts_then : (K L : Showing) (b0 b1 b2 : Building) (q r : ℕ) (t u : RType) (first second acts : Regs → State → Outcome Value → Type 0) → Attempts K b0 b1 q t first → Attempts L b1 b2 r u second → ((regs : Regs) (s : State) (res : Outcome Value) → acts regs s res → Goes K (length b0.regs) q first second regs s res) → Attempts L b0 b2 r u acts
attempts_then K L b0 b1 b2 q r t u first second acts a c split =
    let k1 = a.extends.blocks_grow in
    let l1 = a.extends.regs_grow in
    record {
      extends = extends_trans b0 b1 b2 a.extends c.extends;
      type = c.type;
      runs = λ p fn h at x room regs below s match res f.
          let p1 = placed_part p fn b0 b0 b1 b2 h (le_refl _) c.extends at in
          let p2 = placed_part p fn b0 b1 b2 b2 h k1 (extends_refl b2) at in
          let g = split regs s res f in
          let S = Arrives L fn (length b2.blocks) (length b2.ops) below (length b0.regs) regs s r in
          let T = IsThrown fn h below x (length b0.regs) regs in
          ends_of p s.turns _ res (on_to g.mid g.go) S T g.does
          (attempt_then p fn h below x K t first b0 b1 q regs s g.mid g.go S a p1 room match g.start
          (λ now v s1 le shows kept same1 match1.
          ends_map p s1.turns _ (g.go v s1) _ S _ T
          (λ z s2 d y. record { now = y.now; is = y.is; shows = y.shows; kept = λ j lt. y.kept j (omega arith) ∙ kept j lt; same = y.same ∙ same1 })
          (λ z s2 d e. thrown_from fn h below x (length b0.regs) (length b1.regs) regs now z s2 d l1 (λ j i lt o. kept j lt) e)
          (c.runs p fn h p2 x (room_on x b0 b1 a.extends room) now below s1 match1 (g.go v s1) (g.on now v s1 shows kept))));
    }

-- two values that are brought to another form, the first one first, and then taken together
pub two_attempts : (L : Showing) (u w t : Sort) (T R : RType) (x y q1 q2 r : ℕ) (b0 b1 b2 b3 : Building) (first second : Value → Does Value) (go : Value → Value → Does Value) → x < length b0.regs → y < length b0.regs → Attempts (Shows t) b0 b1 q1 T (ActsOn u x first) → Attempts (Shows t) b1 b2 q2 T (ActsOn w y second) → Attempts L b2 b3 r R (ActsOnTwo t t q1 q2 go) → Attempts L b0 b3 r R (ActsOnTwo u w x y (λ a b. first a >>= λ c. second b >>= go c))
two_attempts L u w t T R x y q1 q2 r b0 b1 b2 b3 first second go low_x low_y a1 a2 a3 =
    let low_q = type_below b1 q1 T a1.type in
    let later : Attempts L b1 b3 r R (ActsOnTwo t w q1 y (λ c b. second b >>= go c)) =
    attempts_then (Shows t) L b1 b2 b3 q2 r T R (ActsOn w y second) (ActsOnTwo t t q1 q2 go) (ActsOnTwo t w q1 y (λ c b. second b >>= go c)) a2 a3
    (λ regs s res f. record {
      mid = second f.w s;
      go = go f.v;
      does = f.does;
      start = record { v = f.w; shows = f.right; does = refl };
      on = λ now d s1 shows kept. record { v = f.v; left = subst (Shows t f.v) (sym (kept q1 low_q)) f.left; w = d; right = shows; does = refl };
    }) in
    attempts_then (Shows t) L b0 b1 b3 q1 r T R (ActsOn u x first) (ActsOnTwo t w q1 y (λ c b. second b >>= go c)) (ActsOnTwo u w x y (λ a b. first a >>= λ c. second b >>= go c)) a1 later
    (λ regs s res f. record {
      mid = first f.v s;
      go = λ c. second f.w >>= go c;
      does = f.does;
      start = record { v = f.v; shows = f.left; does = refl };
      on = λ now c s1 shows kept. record { v = c; left = shows; w = f.w; right = subst (Shows w f.w) (sym (kept y low_y)) f.right; does = refl };
    })
