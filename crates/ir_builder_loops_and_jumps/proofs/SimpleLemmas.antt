-- Simple statements do in their code what they mean.
use Rattle.ir_builder_loops_and_jumps.proofs.Common.{◌≡◌, ◌≢◌, ℕ, zero, suc, ◌+◌, ◌<◌, ◌≤◌, true, false, List, [], ◌∷◌, length, Option, Some, None, refl, sym, ap, ◌∙◌, subst, arith, le_refl, ⊎_elim, slice_get, slice_set, pos, nat_lt, if◌then◌else◌, cases_eq, Value, BoolVal, Sort, Variable, TypedTarget, LocalTarget, GlobalTarget, State, Gives, Does, on_to, Flow, Goes, Breaks, Continues, Returns, Int, I64, Ref, Unreachable, Move, Lit, Prim, World, Reg, Program, Building, Item, blocks_of, item_in, Held, Holds, Regs, put, look, type_of_reg, Config, Waiting, Strict, is_refused, registers_of, declared_of, move_step, lit_step, return_step, put_same, put_other, Setting, rtype_of, HasType, Has, Pushes, Closes, world, running, returning, Leads, Ends, HasKind, flag_of, flag_in, HasRoom, Matches, Stands, IsThrown, Showing, Shows, Meaning, Computes, Way, Break, Continue, Exit, Back, Flows, Works, leads_trans, leads_step, ends_from, ends_now, extends_refl, extends_trans, get_below, has_less, type_has, pushes_has, placed_part, either_flag, not_below, keeps_as, computes_then, give, ends_of, ends_on}
use Rattle.std.proofs.lemmas.Bool.Decides.{nat_tests}
use Rattle.c_core.specs.declared.primitive.Primitive.TheVariants as prim
use Rattle.c_core.specs.declared.primitive.GlobalPrim.TheVariants as global
use Rattle.ir_core.specs.declared.code.RType.{RType}
use Rattle.ir_core.specs.declared.code.RType.TheVariants.{Bool as BoolType}
use Rattle.ir_core.specs.declared.code.Last.TheVariants.{Return as Leave}
use Rattle.ir_core.specs.declared.code.PArg.TheVariants as arg
use Rattle.ir_core.specs.declared.code.Lit.TheVariants.{Number}
use Rattle.ir_core.specs.declared.code.Func.{Func}
use Rattle.ir_builder_loops_and_jumps.specs.Simple.{with_value, Sets, Leaves, is_there, storing}
use Rattle.ir_builder_frames.proofs.GlobalLemmas.{global_step}
use Rattle.ir_builder_loops_and_jumps.proofs.ExitLemmas.{close_at, stays_by, open_on}
use Rattle.ir_builder_loops_and_jumps.proofs.FlowLemmas.{goes_to, flows_from}
use Rattle.ir_builder_frames.proofs.ComingLemmas.{ends_needed}

-- ---- assignment

get_set : {A : Type 0} (ls : List A) (k : ℕ) (a : A) → k < length ls → slice_get (slice_set ls k a) k ≡ Some a
get_set [] k a lt = absurd (omega arith)
get_set (b ∷ ls) zero a lt = refl
get_set (b ∷ ls) (suc k) a lt = get_set ls k a (omega arith)

get_other : {A : Type 0} (ls : List A) (k j : ℕ) (a : A) → j ≢ k → slice_get (slice_set ls k a) j ≡ slice_get ls j
get_other [] k j a ne = refl
get_other (b ∷ ls) zero zero a ne = absurd (ne refl)
get_other (b ∷ ls) zero (suc j) a ne = refl
get_other (b ∷ ls) (suc k) zero a ne = refl
get_other (b ∷ ls) (suc k) (suc j) a ne = get_other ls k j a (λ e. ne (ap suc e))

value_kept : (t : RType) (v : Value) → is_refused Strict t (Holds v) ≡ false
value_kept Int v = refl
value_kept I64 v = refl
value_kept BoolType v = refl
value_kept Ref v = refl

-- a value is moved into the register of a variable
moved : {line : ℕ} (x : Setting) (k r : ℕ) (v0 : Variable) (b0 b1 : Building) → HasRoom x b0 → slice_get x.variables k ≡ Some v0 → HasType b0 r (rtype_of v0.1) → Pushes b0 b1 (Move record { 0 = k } record { 0 = r }) line → (p : Program) (fn : ℕ) → Has p fn b1 → (regs : Regs) (below : List Waiting) (w : World) (v : Value) → regs r ≡ Holds v → Leads p (running fn (length b0.blocks) (length b0.ops) regs below w) (running fn (length b1.blocks) (length b1.ops) (put regs k (Holds v)) below w)
moved x k r v0 b0 b1 room var t q p fn has regs below w v is =
    let has0 = has_less p fn b0 b1 q.extends has in
    let tr = type_has p fn b0 r (rtype_of v0.1) has0 t in
    let tk = type_has p fn b0 k (rtype_of v0.1) has0 (room.declared k v0 var) in
    let free : is_refused Strict (rtype_of v0.1) (regs r) ≡ false = ap (is_refused Strict (rtype_of v0.1)) is ∙ value_kept (rtype_of v0.1) v in
    let step = move_step Strict p (record { fn = fn; block = length b0.blocks; place = length b0.ops; regs = regs }) below w (record { 0 = k }) (record { 0 = r }) (rtype_of v0.1) (rtype_of v0.1) (pushes_has p fn b0 b1 _ q has) tk tr free in
    let is1 : running fn (length b0.blocks) (length b0.ops + 1) (put regs k (regs r)) below w ≡ running fn (length b1.blocks) (length b1.ops) (put regs k (Holds v)) below w = rw (q.blocks, q.ops, is) refl in
    leads_step p _ _ (step ∙ is1)

-- the registers hold the variables again where the register of one has a value, its flag is set, and all others are as they were
set_matches : (x : Setting) (k : ℕ) (v0 : Variable) (b : Building) (regs now : Regs) (s : State) (v : Value) → HasRoom x b → slice_get x.variables k ≡ Some v0 → Matches x regs s → now k ≡ Holds v → flag_in x.frame.locals now k ≡ Holds (BoolVal true) → ((j : ℕ) → j ≢ k → (x.frame.locals.params ≤ k → j ≢ flag_of x.frame.locals k) → now j ≡ regs j) → Matches x now (with_value (LocalTarget k) v s)
set_matches x k v0 b regs now s v room var match held flag others =
    let count = room.count in
    let low : k < length x.variables = get_below x.variables k v0 var in
    let old = match.each k v0 var in
    let there : k < length s.locals = get_below s.locals k old.0 old.1 in
    record {
      each = λ j u e. ⊎_elim
          (λ (same : j ≡ k).
          let got : slice_get (slice_set s.locals k (Some v)) j ≡ Some (Some v) = ap (slice_get (slice_set s.locals k (Some v))) same ∙ get_set s.locals k (Some v) there in
          (Some v, got, (ap now same ∙ held, ap (flag_in x.frame.locals now) same ∙ flag)))
          (λ (ne : j ≢ k).
          let old_j = match.each j u e in
          let low_j : j < length x.variables = get_below x.variables j u e in
          let held_j : now j ≡ regs j = others j ne (λ z. λ q. omega arith) in
          let flag_j : flag_in x.frame.locals now j ≡ flag_in x.frame.locals regs j = either_flag (nat_lt j x.frame.locals.params) (Holds (BoolVal true)) _ _ (λ z. let above = not_below j x.frame.locals.params z in others (flag_of x.frame.locals j) (λ q. omega arith) (λ y. λ q. ne (omega arith))) in
          (old_j.0, get_other s.locals k j (Some v) ne ∙ old_j.1, keeps_as (regs j) (now j) (flag_in x.frame.locals regs j) (flag_in x.frame.locals now j) old_j.0 held_j flag_j old_j.2))
          (cases_eq j k);
    }

-- a parameter
pub param_set : {line : ℕ} (x : Setting) (k r : ℕ) (v0 : Variable) (b0 b1 : Building) → HasRoom x b0 → slice_get x.variables k ≡ Some v0 → k < x.frame.locals.params → HasType b0 r (rtype_of v0.1) → Pushes b0 b1 (Move record { 0 = k } record { 0 = r }) line → Sets x (LocalTarget k) r b0 b1
param_set x k r v0 b0 b1 room var param t q = record {
  extends = q.extends;
  blocks = q.blocks;
  does = λ p fn has named regs below s v match is there.
      let now : Regs = put regs k (Holds v) in
      let count = room.count in
      let flags = room.flags in
      let low : k < length x.variables = get_below x.variables k v0 var in
      let flag : flag_in x.frame.locals now k ≡ Holds (BoolVal true) = (let e : nat_lt k x.frame.locals.params ≡ true = grind (arith, nat_tests) in ap (λ b. if b then Holds (BoolVal true) else now (flag_of x.frame.locals k)) e) in
      let m : Matches x now (with_value (LocalTarget k) v s) = set_matches x k v0 b0 regs now s v room var match (put_same regs k (Holds v)) flag (λ j ne other. put_other regs k j (Holds v) ne) in
      (now, moved x k r v0 b0 b1 room var t q p fn has regs below (world None s) v is, m, λ j le. put_other regs k j (Holds v) (λ q. omega arith));
}

-- another variable: its flag is set behind the value
pub other_set : {line : ℕ} (x : Setting) (k r : ℕ) (v0 : Variable) (b0 b1 b2 : Building) → HasRoom x b0 → slice_get x.variables k ≡ Some v0 → x.frame.locals.params ≤ k → HasType b0 r (rtype_of v0.1) → Pushes b0 b1 (Move record { 0 = k } record { 0 = r }) line → Pushes b1 b2 (Lit record { 0 = flag_of x.frame.locals k } (Number (pos 1))) line → Sets x (LocalTarget k) r b0 b2
other_set x k r v0 b0 b1 b2 room var other t q q' = record {
  extends = extends_trans b0 b1 b2 q.extends q'.extends;
  blocks = q'.blocks ∙ q.blocks;
  does = λ p fn has named regs below s v match is there.
      let at : ℕ = flag_of x.frame.locals k in
      let set : Held = Holds (BoolVal true) in
      let mid : Regs = put regs k (Holds v) in
      let now : Regs = put mid at set in
      let count = room.count in
      let flags = room.flags in
      let low : k < length x.variables = get_below x.variables k v0 var in
      let has1 = has_less p fn b1 b2 q'.extends has in
      let has0 = has_less p fn b0 b1 q.extends has1 in
      let type = type_has p fn b0 at BoolType has0 (room.flagged k other (omega arith)) in
      let w : World = world None s in
      let first = moved x k r v0 b0 b1 room var t q p fn has1 regs below w v is in
      let step = lit_step Strict p (record { fn = fn; block = length b1.blocks; place = length b1.ops; regs = mid }) below w (record { 0 = at }) (Number (pos 1)) BoolType set (pushes_has p fn b1 b2 _ q' has) type refl in
      let is1 : running fn (length b1.blocks) (length b1.ops + 1) now below w ≡ running fn (length b2.blocks) (length b2.ops) now below w = rw (q'.blocks, q'.ops) refl in
      let held : now k ≡ Holds v = put_other mid at k set (λ z. omega arith) ∙ put_same regs k (Holds v) in
      let flag : flag_in x.frame.locals now k ≡ set = (let e : nat_lt k x.frame.locals.params ≡ false = grind (arith, nat_tests) in ap (λ b. if b then Holds (BoolVal true) else now at) e ∙ put_same mid at set) in
      let m : Matches x now (with_value (LocalTarget k) v s) = set_matches x k v0 b0 regs now s v room var match held flag (λ j ne o. put_other mid at j set (o other) ∙ put_other regs k j (Holds v) ne) in
      (now, leads_trans p _ _ _ first (leads_step p _ _ (step ∙ is1)), m, λ j le. put_other mid at j set (λ z. omega arith) ∙ put_other regs k j (Holds v) (λ z. omega arith));
}

-- a variable of the module
pub global_set : {line : ℕ} (x : Setting) (i r : ℕ) (v0 : Variable) (b0 b1 : Building) → slice_get x.source.globals i ≡ Some v0 → HasType b0 r (rtype_of v0.1) → Pushes b0 b1 (Prim None (prim.Global global.Set) (arg.Global v0.0 ∷ arg.Var record { 0 = r } ∷ [])) line → Sets x (GlobalTarget i) r b0 b1
global_set x i r v0 b0 b1 var t q = record {
  extends = q.extends;
  blocks = q.blocks;
  does = λ p fn has named regs below s v match is there.
      let new : World = world None (with_value (GlobalTarget i) v s) in
      let type = type_has p fn b0 r (rtype_of v0.1) (has_less p fn b0 b1 q.extends has) t in
      let step = global_step p fn (length b0.blocks) (length b0.ops) regs below s x.source i v0 r (rtype_of v0.1) v named there var (pushes_has p fn b0 b1 _ q has) type is in
      let is1 : running fn (length b0.blocks) (length b0.ops + 1) regs below new ≡ running fn (length b1.blocks) (length b1.ops) regs below new = rw (q.blocks, q.ops) refl in
      (regs, leads_step p _ _ (step ∙ is1), record { each = match.each }, λ j le. refl);
}

turns_same : (target : TypedTarget) (v : Value) (s : State) → (with_value target v s).turns ≤ s.turns
turns_same (LocalTarget k) v s = le_refl s.turns
turns_same (GlobalTarget k) v s = le_refl s.turns
turns_same target v s = le_refl s.turns

-- what is done with a value that is put into a variable
pub set_works : (x : Setting) (result : Option Sort) (m : Meaning Value) (t : Sort) (target : TypedTarget) (r : ℕ) (go : ℕ → Value → Does (Unit {0})) (b0 b1 b2 : Building) → HasRoom x b0 → Computes x (Shows t) (rtype_of t) m b0 b1 r → Sets x target r b1 b2 → ((n : ℕ) (v : Value) (s : State) → HasKind t v → go n v s ≡ storing target v s) → Works x result (λ n s. on_to (m n s) (λ v u. on_to (go n v u) (λ _. give Goes))) b0 b2 []
set_works x result m t target r go b0 b1 b2 room cx q puts = record {
  extends = extends_trans b0 b1 b2 cx.extends q.extends;
  opens = tt;
  runs = λ p fn h to at jumps n calls regs below s match le.
      let R = Flows p result fn (length b2.blocks) (length b2.ops) to [] below x (length b0.regs) regs in
      let T = IsThrown fn h below x (length b0.regs) regs in
      computes_then p fn h below x n calls (Shows t) (rtype_of t) m b0 b1 r regs s (λ v u. on_to (go n v u) (λ _. give Goes)) R (length b0.regs) regs cx (placed_part p fn b0 b0 b1 b2 h (le_refl _) q.extends at) room (le_refl _) (λ j a z o. refl) match le
      (λ now v s1 le1 shows kept same1 match1.
      let here : Config = running fn (length b1.blocks) (length b1.ops) now below (world None s1) in
      let S : Unit {0} → State → Config → Type 0 = λ u. Stands fn (length b2.blocks) (length b2.ops) below None x (length b0.regs) regs in
      let s2 : State = with_value target v s1 in
      let stored : Ends p s1.turns here (storing target v s1) S T = ends_needed p s1.turns here (is_there target s1) (λ u. Gives tt (with_value target v u)) s1 S T
      (λ there.
      let done = q.does p fn at.has calls.variables now below s1 v match1 shows.0 there in
      ends_from p s2.turns s1.turns here _ (Gives tt s2) S T (turns_same target v s1) done.1
      (ends_now p tt s2 _ S T record { now = done.0; is = refl; match = done.2; kept = λ j a z o. done.3 j a ∙ kept j z })) in
      ends_on p s1.turns here (go n v s1) S T T (λ u. give Goes) R (ends_of p s1.turns here (go n v s1) (storing target v s1) S T (puts n v s1 shows.1) stored) (λ u s3 d le3 z. ends_now p Goes s3 d R T z) (λ e s3 d z. z));
}

-- ---- an expression alone

pub alone_works : (x : Setting) (result : Option Sort) (K : Showing) (t : RType) (m : Meaning Value) (b0 b1 : Building) (r : ℕ) → HasRoom x b0 → Computes x K t m b0 b1 r → Works x result (λ n s. on_to (m n s) (λ v. Gives Goes)) b0 b1 []
alone_works x result K t m b0 b1 r room cx = record {
  extends = cx.extends;
  opens = tt;
  runs = λ p fn h to at jumps n calls regs below s match le.
      let R = Flows p result fn (length b1.blocks) (length b1.ops) to [] below x (length b0.regs) regs in
      let T = IsThrown fn h below x (length b0.regs) regs in
      computes_then p fn h below x n calls K t m b0 b1 r regs s (λ v. Gives Goes) R (length b0.regs) regs cx at room (le_refl _) (λ j a z o. refl) match le
      (λ now v s1 le1 shows kept loc match1. ends_now p Goes s1 _ R T record { now = now; is = refl; match = match1; kept = λ j a z o. kept j z });
}

-- ---- return

there_in : (o : Option Func) (k i : ℕ) (y : Item) → item_in (blocks_of o) k i ≡ Some y → (g : Func) × (o ≡ Some g)
there_in None k i y e = let f : None ≡ Some y = e in absurd (cc)
there_in (Some g) k i y e = (g, refl)

-- out of the function
pub leaves_none : (x : Setting) (r : ℕ) (t : RType) (b0 b1 : Building) → x.frame.ret ≡ None → HasType b0 r t → Closes b0 b1 (Leave record { 0 = r }) → Leaves x r b0 b1 []
leaves_none x r t b0 b1 none type q = record {
  extends = q.extends;
  opens = tt;
  does = λ p result fn to has jumps k i regs below s v match is kind.
      let at = close_at p fn b0 b1 _ (λ z. cc) q has in
      let g = there_in (slice_get p.funcs fn) (length b0.blocks) (length b0.ops) _ at in
      let declared : registers_of p fn ≡ g.0.regs = ap declared_of g.1 in
      let t' : type_of_reg g.0.regs (record { 0 = r }) ≡ Some t = ap (λ ds. type_of_reg ds (record { 0 = r })) (sym declared) ∙ type_has p fn b0 r t (has_less p fn b0 b1 q.extends has) type in
      let held : look g.0.regs regs (record { 0 = r }) ≡ Some (Holds v) = rw (t', is) refl in
      let step = return_step Strict p (record { fn = fn; block = length b0.blocks; place = length b0.ops; regs = regs }) below (world None s) (record { 0 = r }) g.0 (Holds v) at g.1 held in
      let P : Option Reg → Type 0 = λ o. Back p result o fn to [] below x (length b0.regs) regs v s (returning p v below (world None s)) in
      (returning p v below (world None s), leads_step p _ _ step, (kind, subst P (sym none) refl));
}

pub return_works : (x : Setting) (t : Sort) (m : Meaning Value) (b0 b1 b2 : Building) (r : ℕ) (xs : List Exit) → HasRoom x b0 → Computes x (Shows t) (rtype_of t) m b0 b1 r → Leaves x r b1 b2 xs → Works x (Some t) (λ n s. on_to (m n s) (λ v. Gives (Returns v))) b0 b2 xs
return_works x t m b0 b1 b2 r xs room cx q =
    let k1 = cx.extends.blocks_grow in let g1 = cx.extends.regs_grow in
    record {
      extends = extends_trans b0 b1 b2 cx.extends q.extends;
      opens = open_on b2 b2 _ _ _ _ xs (stays_by b2 b2 _ _ (extends_refl b2)) k1 (le_refl _) q.opens;
      runs = λ p fn h to at jumps n calls regs below s match le.
          let R = Flows p (Some t) fn (length b2.blocks) (length b2.ops) to xs below x (length b0.regs) regs in
          let T = IsThrown fn h below x (length b0.regs) regs in
          computes_then p fn h below x n calls (Shows t) (rtype_of t) m b0 b1 r regs s (λ v. Gives (Returns v)) R (length b0.regs) regs cx (placed_part p fn b0 b0 b1 b2 h (le_refl _) q.extends at) room (le_refl _) (λ j a z o. refl) match le
          (λ now v s1 le1 shows kept loc match1.
          let one = q.does p (Some t) fn to at.has jumps (length b2.blocks) (length b2.ops) now below s1 v match1 shows.0 tt in
          (le_refl _, one.0, one.1, flows_from p (Some t) fn (length b2.blocks) (length b2.ops) to xs xs below x (length b0.regs) (length b1.regs) regs now (Returns v) s1 one.0 (λ w u. u) g1 (λ j a z o. kept j z) one.2));
    }

-- ---- break and continue

jump_works : (x : Setting) (result : Option Sort) (w : Way) (g : Flow) (b0 b1 : Building) → Closes b0 b1 Unreachable → ((p : Program) (fn : ℕ) (to : Way → ℕ) (below : List Waiting) (regs : Regs) (s : State) (d : Config) → Stands fn (to w) 0 below None x (length b0.regs) regs s d → Flows p result fn (length b1.blocks) (length b1.ops) to (record { way = w; block = length b0.blocks } ∷ []) below x (length b0.regs) regs g s d) → Works x result (λ n s. Gives g s) b0 b1 (record { way = w; block = length b0.blocks } ∷ [])
jump_works x result w g b0 b1 q lands = record {
  extends = q.extends;
  opens = (record { place = length b0.ops; is = q.at }, le_refl _, (let n = q.blocks in omega arith), tt);
  runs = λ p fn h to at jumps n calls regs below s match le.
      let R = Flows p result fn (length b1.blocks) (length b1.ops) to (record { way = w; block = length b0.blocks } ∷ []) below x (length b0.regs) regs in
      let T = IsThrown fn h below x (length b0.regs) regs in
      let go = goes_to p fn below (length b0.blocks) (length b0.ops) (to w) regs (world None s) (jumps.0 (length b0.ops) q.at) in
      ends_from p s.turns s.turns _ _ (Gives g s) R T (le_refl _) go
      (ends_now p g s _ R T (lands p fn to below regs s _ record { now = regs; is = refl; match = match; kept = λ j a z o. refl }));
}

pub break_works : (x : Setting) (result : Option Sort) (b0 b1 : Building) → Closes b0 b1 Unreachable → Works x result (λ n s. Gives Breaks s) b0 b1 (record { way = Break; block = length b0.blocks } ∷ [])
break_works x result b0 b1 q = jump_works x result Break Breaks b0 b1 q (λ p fn to below regs s d t. (refl, t))

pub continue_works : (x : Setting) (result : Option Sort) (b0 b1 : Building) → Closes b0 b1 Unreachable → Works x result (λ n s. Gives Continues s) b0 b1 (record { way = Continue; block = length b0.blocks } ∷ [])
continue_works x result b0 b1 q = jump_works x result Continue Continues b0 b1 q (λ p fn to below regs s d t. (refl, t))
