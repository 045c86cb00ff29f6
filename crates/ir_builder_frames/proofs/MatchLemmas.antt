-- What stays of a frame while a part runs, and what comes behind the code of a value.
use Rattle.ir_builder_frames.proofs.Common.{ShowAll, ◌≡◌, ℕ, ◌<◌, ◌≤◌, Bool, true, false, List, length, Option, Some, None, refl, sym, ap, ◌∙◌, subst, arith, le_refl, nat_lt, if◌then◌else◌, slice_get, Thrown, Value, BoolVal, ExcVal, Sort, State, Outcome, Gives, Does, on_to, Program, RType, Reg, Held, Holds, Regs, Building, Extends, Waiting, Config, handler_at, away, Setting, rtype_of, Has, Placed, world, running, Ends, Keeps, flag_of, flag_in, Matches, BackBelow, HasRoom, IsAmong, Surrounding, SameIn, Stands, IsThrown, CallsWork, Showing, Meaning, Arrives, Computes, ArrivesAll, ComputesAll, Makes}
use Rattle.std.proofs.lemmas.Bool.Decides.{nat_tests}
use Rattle.py_typed.specs.Statements.{TypedModule}
use Rattle.ir_core.specs.declared.code.RType.TheVariants as rtype
use Rattle.ir_builder_frames.proofs.HeldLemmas.{type_kept, get_below}
use Rattle.ir_builder_frames.proofs.ComingLemmas.{ends_on, ends_at, ends_of, ends_lead}

-- ---- room

back_on : (o : Option Reg) (top n m : ℕ) → n ≤ m → BackBelow o top n → BackBelow o top m
back_on None top n m le h = tt
back_on (Some r) top n m le h = (h.0, let q = h.1 in omega arith)

among_on : (m : TypedModule) (g h : Surrounding) → h ≡ g → IsAmong m g → IsAmong m h
among_on m g h e among = subst (IsAmong m) (sym e) among

pub room_on : (x : Setting) (b c : Building) → Extends b c → HasRoom x b → HasRoom x c
room_on x b c e room =
    let more = e.regs_grow in
    let top = room.top in
    record {
      among = among_on x.source b.among c.among e.among room.among;
      count = room.count;
      flags = room.flags;
      top = omega arith;
      declared = λ j v at. type_kept b c j (rtype_of v.1) e (room.declared j v at);
      flagged = λ j from to. type_kept b c (flag_of x.frame.locals j) rtype.Bool e (room.flagged j from to);
      back = back_on x.frame.ret x.frame.locals.top (length b.regs) (length c.regs) more room.back;
    }

-- ---- variables

pub either_flag : (b : Bool) (set x y : Held) → (b ≡ false → x ≡ y) → (if b then set else x) ≡ (if b then set else y)
either_flag true set x y same = refl
either_flag false set x y same = same refl

pub not_below : (j n : ℕ) → nat_lt j n ≡ false → n ≤ j
not_below j n e = grind (arith, nat_tests, e)

pub keeps_as : (h h' flag flag' : Held) (o : Option Value) → h' ≡ h → flag' ≡ flag → Keeps h flag o → Keeps h' flag' o
keeps_as h h' flag flag' None e f k = f ∙ k
keeps_as h h' flag flag' (Some v) e f k = (e ∙ k.0, f ∙ k.1)

pub match_kept : (x : Setting) (b : Building) (regs now : Regs) (s s1 : State) → HasRoom x b → ((j : ℕ) → j < x.frame.locals.top → now j ≡ regs j) → s1.locals ≡ s.locals → Matches x regs s → Matches x now s1
match_kept x b regs now s s1 room same is m =
    let count = room.count in
    let flags = room.flags in
    record {
      each = λ j v at.
          let k = m.each j v at in
          let low : j < length x.variables = get_below x.variables j v at in
          let flag : flag_in x.frame.locals now j ≡ flag_in x.frame.locals regs j = either_flag (nat_lt j x.frame.locals.params) (Holds (BoolVal true)) _ _ (λ e. let above = not_below j x.frame.locals.params e in same (flag_of x.frame.locals j) (omega arith)) in
          (k.0, ap (λ ls. slice_get ls j) is ∙ k.1, keeps_as (regs j) (now j) _ _ k.0 (same j (omega arith)) flag k.2);
    }

-- ---- where an exception goes

pub stands_from : (fn k i : ℕ) (below : List Waiting) (e : Option Thrown) (x : Setting) (keep keep' : ℕ) (regs regs' : Regs) (s : State) (d : Config) → keep ≤ keep' → SameIn x.frame keep regs' regs → Stands fn k i below e x keep' regs' s d → Stands fn k i below e x keep regs s d
stands_from fn k i below e x keep keep' regs regs' s d le same t = record { now = t.now; is = t.is; match = t.match; kept = λ j a b c. t.kept j a (omega arith) c ∙ same j a b c }

pub thrown_from : (fn : ℕ) (h : Option ℕ) (below : List Waiting) (x : Setting) (keep keep' : ℕ) (regs regs' : Regs) (v : Value) (s : State) (d : Config) → keep ≤ keep' → SameIn x.frame keep regs' regs → IsThrown fn h below x keep' regs' v s d → IsThrown fn h below x keep regs v s d
thrown_from fn None below x keep keep' regs regs' v s d le same t = t
thrown_from fn (Some h) below x keep keep' regs regs' v s d le same t = (t.0, t.1, stands_from fn h 0 below (Some t.0) x keep keep' regs regs' s d le same t.2)

pub thrown_at : (p : Program) (fn k i : ℕ) (h : Option ℕ) (below : List Waiting) (x : Setting) (keep : ℕ) (old now : Regs) (e : Thrown) (s : State) → Matches x now s → SameIn x.frame keep now old → IsThrown fn h below x keep old (ExcVal e) s (away h (record { fn = fn; block = k; place = i; regs = now }) below (world (Some e) s))
thrown_at p fn k i None below x keep old now e s m same = (e, refl, refl)
thrown_at p fn k i (Some h) below x keep old now e s m same = (e, refl, record { now = now; is = refl; match = m; kept = same })

pub thrown_now : (p : Program) (fn k i : ℕ) (h : Option ℕ) (below : List Waiting) (x : Setting) (keep : ℕ) (old now : Regs) (e : Thrown) (s : State) → handler_at p fn k ≡ h → Matches x now s → SameIn x.frame keep now old → IsThrown fn h below x keep old (ExcVal e) s (away (handler_at p fn k) (record { fn = fn; block = k; place = i; regs = now }) below (world (Some e) s))
thrown_now p fn k i h below x keep old now e s is m same =
    let P : Option ℕ → Type 0 = λ o. IsThrown fn h below x keep old (ExcVal e) s (away o (record { fn = fn; block = k; place = i; regs = now }) below (world (Some e) s)) in
    subst P (sym is) (thrown_at p fn k i h below x keep old now e s m same)

-- ---- behind the code of a value

module _ (p : Program) (fn : ℕ) (h : Option ℕ) (below : List Waiting) (x : Setting) (n : ℕ) (calls : CallsWork p x.source n) where
  pub computes_then : {B : Type 0} (K : Showing) (t : RType) (m : Meaning Value) (b c : Building) (r : ℕ) (regs : Regs) (s : State) (go : Value → Does B) (S : B → State → Config → Type 0) (keep : ℕ) (old : Regs) → Computes x K t m b c r → Placed p fn b c h → HasRoom x b → keep ≤ length b.regs → SameIn x.frame keep regs old → Matches x regs s → s.turns ≤ n → ((now : Regs) (v : Value) (s1 : State) → s1.turns ≤ n → K v (now r) → ((j : ℕ) → j < length b.regs → now j ≡ regs j) → s1.locals ≡ s.locals → Matches x now s1 → Ends p s1.turns (running fn (length c.blocks) (length c.ops) now below (world None s1)) (go v s1) S (IsThrown fn h below x keep old)) → Ends p s.turns (running fn (length b.blocks) (length b.ops) regs below (world None s)) (on_to (m n s) go) S (IsThrown fn h below x keep old)
  computes_then K t m b c r regs s go S keep old q at room wide same match le next =
      let top = room.top in
      ends_on p s.turns _ (m n s) (Arrives K fn (length c.blocks) (length c.ops) below (length b.regs) regs s r) (IsThrown fn h below x (length b.regs) regs) (IsThrown fn h below x keep old) go S (q.runs p fn h at n calls regs below s match le)
      (λ v s1 d le1 a. ends_at p s1.turns (running fn (length c.blocks) (length c.ops) a.now below (world None s1)) d (go v s1) S _ a.is (next a.now v s1 (omega arith) a.shows a.kept a.same (match_kept x b regs a.now s s1 room (λ j lt. a.kept j (omega arith)) a.same match)))
      (λ v s1 d t. thrown_from fn h below x keep (length b.regs) old regs v s1 d wide same t)

  pub computes_all_then : {B : Type 0} (ts : List Sort) (m : Meaning (List Value)) (b c : Building) (rs : List Reg) (regs : Regs) (s : State) (go : List Value → Does B) (S : B → State → Config → Type 0) (keep : ℕ) (old : Regs) → ComputesAll x ts m b c rs → Placed p fn b c h → HasRoom x b → keep ≤ length b.regs → SameIn x.frame keep regs old → Matches x regs s → s.turns ≤ n → ((now : Regs) (vs : List Value) (s1 : State) → s1.turns ≤ n → ShowAll ts vs now rs → ((j : ℕ) → j < length b.regs → now j ≡ regs j) → s1.locals ≡ s.locals → Matches x now s1 → Ends p s1.turns (running fn (length c.blocks) (length c.ops) now below (world None s1)) (go vs s1) S (IsThrown fn h below x keep old)) → Ends p s.turns (running fn (length b.blocks) (length b.ops) regs below (world None s)) (on_to (m n s) go) S (IsThrown fn h below x keep old)
  computes_all_then ts m b c rs regs s go S keep old q at room wide same match le next =
      let top = room.top in
      ends_on p s.turns _ (m n s) (ArrivesAll ts fn (length c.blocks) (length c.ops) below (length b.regs) regs s rs) (IsThrown fn h below x (length b.regs) regs) (IsThrown fn h below x keep old) go S (q.runs p fn h at n calls regs below s match le)
      (λ v s1 d le1 a. ends_at p s1.turns (running fn (length c.blocks) (length c.ops) a.now below (world None s1)) d (go v s1) S _ a.is (next a.now v s1 (omega arith) a.shows a.kept a.same (match_kept x b regs a.now s s1 room (λ j lt. a.kept j (omega arith)) a.same match)))
      (λ v s1 d t. thrown_from fn h below x keep (length b.regs) old regs v s1 d wide same t)

-- a value of an equal meaning
pub computes_of : (x : Setting) (K : Showing) (t : RType) (m m' : Meaning Value) (b c : Building) (r : ℕ) → ((n : ℕ) (s : State) → m' n s ≡ m n s) → Computes x K t m b c r → Computes x K t m' b c r
computes_of x K t m m' b c r same q = record {
  extends = q.extends;
  type = q.type;
  runs = λ p fn h at n calls regs below s match le. ends_of p s.turns _ (m' n s) (m n s) _ _ (same n s) (q.runs p fn h at n calls regs below s match le);
}

-- what is made of registers arrives
module _ (p : Program) (fn : ℕ) where
  pub makes_arrives : (K : Showing) (from : Regs → Held → Type 0) (b c : Building) (r : ℕ) (t : RType) (below : List Waiting) (keep : ℕ) (old regs : Regs) (before s : State) (v : Value) (held : Held) (res : Outcome Value) (E : Value → State → Config → Type 0) → Makes b c r t from → Has p fn c → keep ≤ length b.regs → ((j : ℕ) → j < keep → regs j ≡ old j) → s.locals ≡ before.locals → res ≡ Gives v s → from regs held → K v held → Ends p s.turns (running fn (length b.blocks) (length b.ops) regs below (world None s)) res (Arrives K fn (length c.blocks) (length c.ops) below keep old before r) E
  makes_arrives K from b c r t below keep old regs before s v held res E m has wide same loc gives needs shows =
      let d = m.runs p fn has regs below s held needs in
      ends_of p s.turns _ res (Gives v s) _ E gives
      (ends_lead p v s _ _ (Arrives K fn (length c.blocks) (length c.ops) below keep old before r) E d.1
      record { now = d.0; is = refl; shows = subst (K v) (sym d.2) shows; kept = λ j lt. d.3 j (omega arith) ∙ same j lt; same = loc })

-- code that makes a value, where nothing comes before it
pub made_computes : (x : Setting) (L : Showing) (u : RType) (m : Meaning Value) (from : Regs → Held → Type 0) (b c : Building) (r : ℕ) → Makes b c r u from → ((n : ℕ) (s : State) (regs : Regs) → (z : Value) × (held : Held) × (m n s ≡ Gives z s) × from regs held × L z held) → Computes x L u m b c r
made_computes x L u m from b c r made gives = record {
  extends = made.extends;
  type = made.type;
  runs = λ p fn h at n calls regs below s match le.
      let g = gives n s regs in
      makes_arrives p fn L from b c r u below (length b.regs) regs regs s s g.0 g.1 (m n s) _ made at.has (le_refl _) (λ j lt. refl) refl g.2 g.3 g.4;
}
