-- A `for` over a list does in its code what it means.
use Rattle.ir_builder_statements.proofs.Common.{◌≡◌, ℕ, suc, ◌+◌, ◌<◌, ◌≤◌, true, false, List, [], ◌∷◌, length, Option, Some, None, refl, sym, ap, ◌∙◌, subst, inl, inr, arith, le_refl, pos, slice_get, if◌then◌else◌, Bool, Value, TExpr, Sort, TypedExpr, typed_expr, type_of, TypedTarget, State, Outcome, Gives, Raises, Stops, Does, on_to, give, Reg, Goto, Building, Extends, held, Setting, rtype_of, HasType, HasRoom, means, Shows, Meaning, Attempts, Closes, room_on, extends_trans, extends_refl, type_kept, get_below, Holds, BoolType, Exit, LoopStart, left, planned, looping_to, EndsLoop, Begins, Works, open_on, stays_by, has_less}
use Rattle.std.specs.Prelude.{◌⊎◌, nat_lt, cond, ◌-◌, ◌^◌, codes}
use Rattle.std.proofs.lemmas.Bool.Decides.{nat_tests}
use Rattle.value_core.specs.Value.{IntVal, BoolVal, ObjVal, Object, ListObj, DictObj, InstObj}
use Rattle.value_core.specs.Characters.{place_of}
use Rattle.value_core.specs.declared.exception.ExcClass.TheVariants.{IndexError}
use Rattle.py_typed.specs.Sorts as sort
use Rattle.py_typed.specs.TargetTypes.{item_sort}
use Rattle.source_meaning.specs.State.{Stuck, raise_new, sure}
use Rattle.source_meaning.specs.Operations.{with_list, as_list, with_place, at_place, counted, list_item, length_value}
use Rattle.source_meaning.specs.WaysOut.{Flow, loop}
use Rattle.ir_core.specs.declared.code.Program.{Program}
use Rattle.ir_core.specs.declared.code.RType.TheVariants as rtype
use Rattle.ir_core.specs.Meaning.{Config}
use Rattle.ir_core.specs.Registers.{Regs}
use Rattle.ir_builder_frames.specs.Coming.{world, running, Ends}
use Rattle.ir_builder_frames.specs.Computing.{Arrives, Makes}
use Rattle.ir_builder_frames.specs.Matching.{Matches, SameIn, Stands, IsThrown}
use Rattle.ir_builder_frames.specs.Operands.{ActsOnAll}
use Rattle.ir_builder_frames.specs.Watching.{watch}
use Rattle.ir_builder_frames.proofs.ComingLemmas.{ends_of, ends_on, ends_from, ends_stuck, ends_needed, ends_map, ends_at}
use Rattle.ir_builder_frames.proofs.HeldLemmas.{type_below, placed_part}
use Rattle.ir_builder_frames.proofs.MatchLemmas.{match_kept, stands_from, thrown_from, computes_then}
use Rattle.ir_builder_frames.proofs.WatchLemmas.{ends_watched, watched_as}
use Rattle.ir_builder_operations.specs.Boxes.{boxed, taken_as}
use Rattle.ir_builder_operations.specs.Operating.{ActsOn, ActsOnTwo}
use Rattle.ir_builder_operations.specs.Rows.{compares, tested, list_length, of_one}
use Rattle.ir_builder_operations.specs.declared.operation.Test.TheVariants.{Less}
use Rattle.ir_builder_operations.proofs.PartLemmas.{as_one}
use Rattle.ir_builder_operations.proofs.ThenLemmas.{attempts_then}
use Rattle.ir_builder_expressions.proofs.LookedLemmas.{taken_on}
use Rattle.ir_builder_loops_and_jumps.specs.Around.{Splits}
use Rattle.ir_builder_loops_and_jumps.specs.Loops.{Asked, Asks, WorksAt, Steps}
use Rattle.ir_builder_loops_and_jumps.specs.Means.{means_bound, means_list}
use Rattle.ir_builder_loops_and_jumps.specs.Runs.{Flows}
use Rattle.ir_builder_loops_and_jumps.proofs.FlowLemmas.{flows_from}
use Rattle.ir_builder_loops_and_jumps.proofs.LoopLemmas.{loop_works}
use Rattle.ir_builder_statements.specs.Counting.{is_in_range, ComputesNew, FindsLess, CountsOn, StepsOn, Binds, goes_on, FindsNext, TakesItem}
use Rattle.source_soundness.specs.Shapes.{has_shape}
use Rattle.ir_builder_statements.proofs.ForLemmas.{lies_below, is_below, kept_in, seen, seen_so, Prepares, body_works}

-- ---- what a list says

-- a list goes on only as far as numbers do
more_items : (i n : ℕ) → nat_lt i (counted n) ≡ true → suc i < 2 ^ 127
more_items i n e = by (nat_lt n (2 ^ 127)) refl (is_below i (counted n) e)
  where
    by : (b : Bool) → nat_lt n (2 ^ 127) ≡ b → i < (if b then n else (2 ^ 127 - 1)) → suc i < 2 ^ 127
    by true f lt = let z : n < 2 ^ 127 = is_below n (2 ^ 127) f in omega arith
    by false f lt = omega arith

goes_bound : (v : Value) (i : ℕ) (s s1 : State) → goes_on v i s ≡ Gives true s1 → suc i < 2 ^ 127
goes_bound (ObjVal k) i s s1 e = by (slice_get s.store k) e
  where
    by : (o : Option Object) → as_list (λ k vs. give (nat_lt i (counted (length vs)))) k o s ≡ Gives true s1 → suc i < 2 ^ 127
    by (Some (ListObj vs)) e = more_items i (length vs) (let f : Gives (nat_lt i (counted (length vs))) s ≡ Gives true s1 = e in cc)
    by (Some (DictObj ps)) e = absurd (let f : ◌≡◌ {A = Outcome Bool} (Stops Stuck s) (Gives true s1) = e in cc)
    by (Some (InstObj c vs)) e = absurd (let f : ◌≡◌ {A = Outcome Bool} (Stops Stuck s) (Gives true s1) = e in cc)
    by None e = absurd (let f : ◌≡◌ {A = Outcome Bool} (Stops Stuck s) (Gives true s1) = e in cc)
goes_bound v i s s1 e = absurd (let f : ◌≡◌ {A = Outcome Bool} (Stops Stuck s) (Gives true s1) = e in cc)

-- the length of a list and a comparison with it
goes_found : (v : Value) (i : ℕ) (s : State) → on_to (goes_on v i s) (λ h. give (BoolVal h)) ≡ on_to (list_length v s) (compares (tested Less) (IntVal (pos i)))
goes_found (ObjVal k) i s = by (slice_get s.store k)
  where
    by : (o : Option Object) → on_to (as_list (λ k vs. give (nat_lt i (counted (length vs)))) k o s) (λ h. give (BoolVal h)) ≡ on_to (as_list (λ k vs. give (length_value (length vs))) k o s) (compares (tested Less) (IntVal (pos i)))
    by (Some (ListObj vs)) = refl
    by (Some (DictObj ps)) = refl
    by (Some (InstObj c vs)) = refl
    by None = refl
goes_found v i s = refl

pub next_found : (b0 b1 b2 : Building) (q l count : Reg) (r : ℕ) → HasType b0 q.0 rtype.Int → Attempts (Shows sort.Int) b0 b1 count.0 rtype.Int (ActsOnAll (boxed ∷ []) (l ∷ []) (of_one list_length)) → FindsLess sort.Int q.0 count.0 b1 b2 r → FindsNext q.0 l.0 b0 b2 r
next_found b0 b1 b2 q l count r type a less =
    attempts_then (Shows sort.Int) (Shows sort.Bool) b0 b1 b2 count.0 r rtype.Int rtype.Bool (ActsOn boxed l.0 list_length) (ActsOnTwo sort.Int sort.Int q.0 count.0 (compares (tested Less))) _ (as_one boxed sort.Int list_length b0 b1 count.0 l a) less
    (λ regs s res f. record {
      mid = list_length f.items s;
      go = compares (tested Less) (IntVal (pos f.i));
      does = f.does ∙ goes_found f.items f.i s;
      start = record { v = f.items; shows = (f.list, tt); does = refl };
      on = λ now v s1 k kept. record { v = IntVal (pos f.i); left = (kept q.0 (type_below b0 q.0 rtype.Int type) ∙ f.number, (pos f.i, refl)); w = v; right = k; does = refl };
    })

-- the item of a number
abbrev item : Value → ℕ → Does Value
item v i = with_list v (λ k vs. sure (slice_get vs i))

item_by : (v : Value) (i : ℕ) (s : State) → (item v i s ≡ Stops Stuck s) ⊎ (item v i s ≡ list_item v (IntVal (pos i)) s)
item_by (ObjVal k) i s = by (slice_get s.store k)
  where
    there : (vs : List Value) (o : Option Value) → slice_get vs i ≡ o → (sure (slice_get vs i) s ≡ Stops Stuck s) ⊎ (sure (slice_get vs i) s ≡ with_place (raise_new IndexError (codes "list index out of range")) (λ j. sure (slice_get vs j)) (place_of (length vs) (pos i)) s)
    there vs None e = inl (ap (λ z. sure z s) e)
    there vs (Some w) e =
        let low : i < length vs = get_below vs i w e in
        let less : nat_lt i (length vs) ≡ true = grind (arith, nat_tests) in
        inr (sym (ap (λ z. with_place (raise_new IndexError (codes "list index out of range")) (λ j. sure (slice_get vs j)) (cond z (Some i) None) s) less))

    by : (o : Option Object) → (as_list (λ k vs. sure (slice_get vs i)) k o s ≡ Stops Stuck s) ⊎ (as_list (λ k vs. sure (slice_get vs i)) k o s ≡ as_list (λ k vs. at_place (codes "list index out of range") (length vs) (IntVal (pos i)) (λ j. sure (slice_get vs j))) k o s)
    by (Some (ListObj vs)) = there vs (slice_get vs i) refl
    by (Some (DictObj ps)) = inl refl
    by (Some (InstObj c vs)) = inl refl
    by None = inl refl
item_by v i s = inl refl

-- ---- the parts of a loop over a list

-- the number is in one register and the list in another
abbrev Listing : ℕ → ℕ → Value → ℕ → Regs → Type 0
Listing q l v i regs = (regs q ≡ Holds (IntVal (pos i))) × (regs l ≡ Holds v) × (is_in_range sort.Int (pos i) ≡ true)

-- and the next number is one too
abbrev ListingOn : ℕ → ℕ → Value → ℕ → Regs → Type 0
ListingOn q l v i regs = Listing q l v i regs × (suc i < 2 ^ 127)

ends_tested : (p : Program) (t : ℕ) (c : Config) (res : Outcome Bool) (R : Value → State → Config → Type 0) (S : Bool → State → Config → Type 0) (E : Value → State → Config → Type 0) → ((h : Bool) (s : State) (d : Config) → res ≡ Gives h s → R (BoolVal h) s d → S h s d) → Ends p t c (on_to res (λ h. give (BoolVal h))) R E → Ends p t c res S E
ends_tested p t c (Gives h s) R S E f q = (q.0, q.1, q.2, f h s q.1 refl q.3)
ends_tested p t c (Raises v s) R S E f q = q
ends_tested p t c (Stops w s) R S E f q = q

-- both are behind the registers that there were at first
module _ (x : Setting) (q l : ℕ) (v : Value) (b0 : Building) (room : HasRoom x b0) (first : length b0.regs ≤ l) (second : l < q) where
  listing_kept : (i : ℕ) (regs now : Regs) → now q ≡ regs q → now l ≡ regs l → Listing q l v i regs → Listing q l v i now
  listing_kept i regs now e f h = (e ∙ h.0, f ∙ h.1, h.2)

  on_kept : (b : Building) → q < length b.regs → (i : ℕ) (regs now : Regs) → SameIn x.frame (length b.regs) now regs → ListingOn q l v i regs → ListingOn q l v i now
  on_kept b low i regs now same h =
      let top = room.top in
      (listing_kept i regs now (same q (omega arith) low (kept_in x.frame.ret x.frame.locals.top (length b0.regs) q room.back (omega arith))) (same l (omega arith) (omega arith) (kept_in x.frame.ret x.frame.locals.top (length b0.regs) l room.back first)) h.0, h.1)

  list_asks : (b c : Building) (r : ℕ) → q < length b.regs → HasRoom x b → FindsNext q l b c r → Asks x (Listing q l v) (ListingOn q l v) (λ i n. goes_on v i) b c r
  list_asks b c r low here a = record {
    extends = a.extends;
    type = a.type;
    runs = λ p fn h at n calls i regs below s held match le.
        let top = here.top in
        ends_tested p s.turns _ (goes_on v i s) (Arrives (Shows sort.Bool) fn (length c.blocks) (length c.ops) below (length b.regs) regs s r) (Asked fn (length c.blocks) (length c.ops) below x (length b.regs) regs r (ListingOn q l v i)) (IsThrown fn h below x (length b.regs) regs)
        (λ t s1 d is y. record {
          stands = record { now = y.now; is = y.is; match = match_kept x b regs y.now s s1 here (λ j lt. y.kept j (omega arith)) y.same match; kept = λ j above lt o. y.kept j lt };
          answer = y.shows.0;
          inside = λ e. (listing_kept i regs y.now (y.kept q low) (y.kept l (omega arith)) held, goes_bound v i s s1 (is ∙ ap (λ z. Gives z s1) e));
        })
        (a.runs p fn h at x here regs below s match (on_to (goes_on v i s) (λ h. give (BoolVal h))) record { i = i; number = held.0; items = v; list = held.1; does = refl });
  }

  list_steps : (b c : Building) → q < length b.regs → HasRoom x b → CountsOn sort.Int q b c → Steps x (ListingOn q l v) (Listing q l v) suc (length b0.regs) b c
  list_steps b c low here counts = record {
    extends = counts.extends;
    runs = λ p fn h at i regs below s held match.
        let top = room.top in
        let bound = held.1 in
        let same : i + 1 ≡ suc i = omega arith in
        let done = counts.runs p fn h at x here (omega arith) low (pos i) held.0.2 (lies_below 127 (i + 1) (omega arith)) regs below s held.0.0 match in
        (done.0, done.1, (done.2 ∙ ap (λ z. Holds (IntVal (pos z))) same, done.4 l (omega arith) (λ e. omega arith) ∙ held.0.1, lies_below 127 (suc i) bound), done.3, λ j above lt o. done.4 j (omega arith) (λ e. omega arith));
  }

-- the item is taken, looked at and bound
abbrev taking : Setting → List TypedTarget → Sort → Value → ℕ → Meaning (Unit {0})
taking x targets t v i n s = on_to (on_to (item v i s) (watch x.source t)) (λ w. means_bound x targets t w n)

item_first : (x : Setting) (targets : List TypedTarget) (t : Sort) (q l r : ℕ) (v : Value) (b0 b1 b2 : Building) → HasRoom x b0 → TakesItem t l q b0 b1 r → Binds x targets t r b1 b2 → Prepares x (ListingOn q l v) (λ i. taking x targets t v i) b0 b2
item_first x targets t q l r v b0 b1 b2 room a binds =
    let k1 = a.extends.blocks_grow in
    let g1 = a.extends.regs_grow in
    record {
      extends = extends_trans b0 b1 b2 a.extends binds.extends;
      runs = λ p fn h at n calls i regs below s held match le0.
          let top = room.top in
          let c = running fn (length b0.blocks) (length b0.ops) regs below (world None s) in
          let A = Arrives (Shows t) fn (length b1.blocks) (length b1.ops) below (length b0.regs) regs s r in
          let R : Unit {0} → State → Config → Type 0 = λ u s1 d. Stands fn (length b2.blocks) (length b2.ops) below None x (length b0.regs) regs s1 d in
          let T = IsThrown fn h below x (length b0.regs) regs in
          let found = list_item v (IntVal (pos i)) s in
          let bind : Value → Does (Unit {0}) = λ w. means_bound x targets t w n in
          let got : Ends p s.turns c (on_to found (taken_as t)) A T = a.runs p fn h (placed_part p fn b0 b0 b1 b2 h (le_refl _) binds.extends at) x room regs below s match (on_to found (taken_as t)) record { v = v; left = (held.0.1, tt); w = IntVal (pos i); right = (held.0.0, (pos i, refl)); does = refl } in
          let looked : Ends p s.turns c (on_to (on_to found (taken_as t)) (watch x.source t)) A T = ends_watched p x.source t s.turns c (on_to found (taken_as t)) A A T (λ w u d kind y. y) got in
          let bound : Ends p s.turns c (on_to (on_to (on_to found (taken_as t)) (watch x.source t)) bind) R T =
          ends_of p s.turns c (on_to (on_to (on_to found (taken_as t)) (watch x.source t)) bind) (on_to (on_to (on_to found (taken_as t)) (watch x.source t)) (seen x t bind)) R T (watched_as x.source t (on_to found (taken_as t)) bind (seen x t bind) (λ w u shape. seen_so x t bind w u shape))
          (ends_on p s.turns c (on_to (on_to found (taken_as t)) (watch x.source t)) A T T (seen x t bind) R looked
          (λ w s1 d le y.
          let kept : SameIn x.frame (length b0.regs) y.now regs = λ j above lt o. y.kept j lt in
          ends_needed p s1.turns d (has_shape x.source.classes.classes s1.store t w) (bind w) s1 R T
          (λ shape.
          ends_at p s1.turns _ d (bind w s1) R T y.is
          (ends_map p s1.turns _ (bind w s1) (λ u s2 e. Stands fn (length b2.blocks) (length b2.ops) below None x (length b1.regs) y.now s2 e) R (IsThrown fn h below x (length b1.regs) y.now) T
          (λ u s2 e z. stands_from fn (length b2.blocks) (length b2.ops) below None x (length b0.regs) (length b1.regs) regs y.now s2 e g1 kept z)
          (λ u s2 e z. thrown_from fn h below x (length b0.regs) (length b1.regs) regs y.now u s2 e g1 kept z)
          (binds.runs p fn h (placed_part p fn b0 b1 b2 b2 h k1 (extends_refl b2) at) n calls w y.now below s1 y.shows shape (match_kept x b0 regs y.now s s1 room (λ j lt. y.kept j (omega arith)) y.same match) (omega arith)))))
          (λ w s1 d z. z)) in
          by_item p s.turns c (item v i s) found s (watch x.source t) (taken_as t) bind R T (taken_on x.source t found) (item_by v i s) bound;
    }
  where
    by_item : (p : Program) (turns : ℕ) (c : Config) (here found : Outcome Value) (s : State) (look take : Value → Does Value) (bind : Value → Does (Unit {0})) (R : Unit {0} → State → Config → Type 0) (T : Value → State → Config → Type 0) → on_to found look ≡ on_to (on_to found take) look → (here ≡ Stops Stuck s) ⊎ (here ≡ found) → Ends p turns c (on_to (on_to (on_to found take) look) bind) R T → Ends p turns c (on_to (on_to here look) bind) R T
    by_item p turns c here found s look take bind R T taken (inl e) q = ends_of p turns c (on_to (on_to here look) bind) (Stops Stuck s) R T (ap (λ z. on_to (on_to z look) bind) e) (ends_stuck p turns c s R T)
    by_item p turns c here found s look take bind R T taken (inr e) q = ends_of p turns c (on_to (on_to here look) bind) (on_to (on_to (on_to found take) look) bind) R T (ap (λ z. on_to (on_to z look) bind) e ∙ ap (λ z. on_to z bind) taken) q

-- ---- the whole loop over a list

module _ (x : Setting) (targets : List TypedTarget) (e : TypedExpr) (l q r : ℕ) (b0 c1 c2 b1 b3 b31 b4 : Building) (o : LoopStart) (room : HasRoom x b0) (list : ComputesNew x (type_of e) (means x e) b0 c1 l) (counter : Makes c1 c2 q rtype.Int (λ regs h. h ≡ Holds (IntVal (pos 0)))) (is_head : o.head ≡ length b1.blocks) (head : Closes c2 b1 (Goto o.head)) (splits : Splits (FindsNext q l b1) b3 o.test) (takes : TakesItem (item_sort (type_of e)) l q b3 b31 r) (binds : Binds x targets (item_sort (type_of e)) r b31 b4) where
  abbrev u : Sort
  u = item_sort (type_of e)

  both_extend : Extends b0 c2
  both_extend = extends_trans b0 c1 c2 list.1.extends counter.extends

  list_low : l < length c1.regs
  list_low = type_below c1 l (rtype_of (type_of e)) list.1.type

  rise : l < q
  rise = let low = list_low in let above = counter.above in omega arith

  counter_low : q < length c2.regs
  counter_low = type_below c2 q rtype.Int counter.type

  to_test : Extends b1 b3
  to_test = extends_trans b1 splits.middle b3 splits.answered.extends splits.closes.extends

  to_body : Extends b3 b4
  to_body = extends_trans b3 b31 b4 takes.extends binds.extends

  abbrev goes_over : Meaning Flow → ℕ → Value → ℕ → Does Flow
  goes_over m k v = loop (suc k) (λ i. goes_on v i) (λ i s. on_to (taking x targets u v i k s) (λ z. m k)) suc

  module _ (result : Option Sort) (m : Meaning Flow) (b5 b6 b7 b9 : Building) (next : ℕ) (xs x0 x1 : List Exit) (w : Works x result m b4 b5 xs) (is_next : next ≡ length b6.blocks) (closes : Closes b5 b6 (Goto next)) (steps : CountsOn sort.Int q b6 b7) (ends : EndsLoop b7 b9 o next xs x0 x1) where
    abbrev ys : List Exit
    ys = left (planned (looping_to ends.exit next)) xs

    to_step : Extends b1 b6
    to_step = extends_trans b1 b3 b6 to_test (extends_trans b3 b4 b6 to_body (extends_trans b4 b5 b6 w.extends closes.extends))

    loops : (v : Value) → WorksAt x result (Listing q l v) (λ i k. goes_over m k v i) (length b0.regs) c2 b9 ys
    loops v =
        let g0 = both_extend.regs_grow in let g1 = head.extends.regs_grow in let g3 = to_test.regs_grow in let g6 = to_step.regs_grow in
        let low = counter_low in
        let room1 = room_on x b0 b1 (extends_trans b0 c2 b1 both_extend head.extends) room in
        let room3 = room_on x b1 b3 to_test room1 in
        let split : Splits (λ c z. Asks x (Listing q l v) (ListingOn q l v) (λ i k. goes_on v i) b1 c z) b3 o.test = record { middle = splits.middle; answered = list_asks x q l v b0 room list.0 rise b1 splits.middle o.test.condition.0 (omega arith) room1 splits.answered; block = splits.block; closes = splits.closes; start = splits.start } in
        loop_works x result (Listing q l v) (ListingOn q l v) (λ i k. goes_on v i) (λ i k s. on_to (taking x targets u v i k s) (λ z. m k)) suc (length b0.regs) c2 b1 b3 b5 b6 b7 b9 o next xs x0 x1 g0 (on_kept x q l v b0 room list.0 rise b3 (omega arith)) is_head head split
        (body_works x result (ListingOn q l v) (λ i. taking x targets u v i) m b3 b4 b5 xs (item_first x targets u q l r v b3 b31 b4 room3 takes binds) w)
        is_next closes (list_steps x q l v b0 room list.0 rise b6 b7 (omega arith) (room_on x b1 b6 to_step room1) steps) ends

    list_works : Works x result (means_list x targets e m) b0 b9 ys
    list_works =
        let any = loops (IntVal (pos 0)) in
        let k0 = both_extend.blocks_grow in let k1 = list.1.extends.blocks_grow in
        let g0 = both_extend.regs_grow in let g1 = list.1.extends.regs_grow in
        let x29 = any.extends in
        let room1 = room_on x b0 c1 list.1.extends room in
        record {
          extends = extends_trans b0 c2 b9 both_extend x29;
          opens = open_on b9 b9 (length c2.blocks) (length b9.blocks) (length b0.blocks) (length b9.blocks) ys (stays_by b9 b9 _ _ (extends_refl b9)) k0 (le_refl _) any.opens;
          runs = λ p fn h to at jumps k calls regs below s match le.
              let top = room1.top in
              let R = Flows p result fn (length b9.blocks) (length b9.ops) to ys below x (length b0.regs) regs in
              let T = IsThrown fn h below x (length b0.regs) regs in
              let over : Value → Does Flow = λ v. goes_over m k v 0 in
              let x19 = extends_trans c1 c2 b9 counter.extends x29 in
              let p3 = placed_part p fn b0 c2 b9 b9 h k0 (extends_refl b9) at in
              computes_then p fn h below x k calls (Shows (type_of e)) (rtype_of (type_of e)) (means x e) b0 c1 l regs s over R (length b0.regs) regs list.1 (placed_part p fn b0 b0 c1 b9 h (le_refl _) x19 at) room (le_refl _) (λ j a z i. refl) match le
              (λ now v s1 le1 shows kept same1 match1.
              let made = counter.runs p fn (has_less p fn c2 b9 x29 at.has) now below s1 (Holds (IntVal (pos 0))) refl in
              let match2 : Matches x made.0 s1 = match_kept x c1 now made.0 s1 s1 room1 (λ j lt. made.3 j (omega arith)) refl match1 in
              let list_is : Holds v ≡ Holds v = refl in
              let held : Listing q l v 0 made.0 = (made.2, made.3 l list_low ∙ shows.0, refl) in
              let as_before : SameIn x.frame (length b0.regs) made.0 regs = λ j a z i. made.3 j (omega arith) ∙ kept j z in
              ends_from p s1.turns s1.turns _ _ (over v s1) R T (le_refl _) made.1
              (ends_map p s1.turns _ (over v s1) _ R _ T
              (λ g s3 d z. flows_from p result fn (length b9.blocks) (length b9.ops) to ys ys below x (length b0.regs) (length b0.regs) regs made.0 g s3 d (λ way used. used) (le_refl _) as_before z)
              (λ f s3 d z. thrown_from fn h below x (length b0.regs) (length b0.regs) regs made.0 f s3 d (le_refl _) as_before z)
              ((loops v).runs p fn h to p3 jumps k calls 0 made.0 below s1 held match2 le1)));
        }

  pub list_begins : Begins x (CountsOn sort.Int q) (means_list x targets e) b0 b4 o
  list_begins =
      let n1 = head.blocks in let k0 = both_extend.blocks_grow in let k2 = splits.answered.extends.blocks_grow in let n3 = splits.closes.blocks in let k4 = to_body.blocks_grow in
      let is_block = splits.block in let is_start = splits.start in
      record {
        head = (omega arith, omega arith);
        waits = record { place = length splits.middle.ops; is = to_body.items _ _ _ (ap (λ z. held b3 z (length splits.middle.ops)) splits.block ∙ splits.closes.at) };
        start = (omega arith, omega arith);
        type = type_kept splits.middle b4 o.test.condition.0 BoolType (extends_trans splits.middle b3 b4 splits.closes.extends to_body) splits.answered.type;
        works = λ result m b5 b6 b7 b9 next xs x0 x1 w is_next closes steps ends. list_works result m b5 b6 b7 b9 next xs x0 x1 w is_next closes steps ends;
      }

-- a loop over a list was begun
pub list_begun : (x : Setting) (targets : List TypedTarget) (e : TExpr) (t : Sort) (l q : Reg) (r : ℕ) (b0 c1 c2 b1 b3 b31 b4 : Building) (o : LoopStart) → HasRoom x b0 → t ≡ item_sort (type_of (typed_expr e)) → ComputesNew x (type_of (typed_expr e)) (means x (typed_expr e)) b0 c1 l.0 → Makes c1 c2 q.0 rtype.Int (λ regs h. h ≡ Holds (IntVal (pos 0))) → o.head ≡ length b1.blocks → Closes c2 b1 (Goto o.head) → Splits (FindsNext q.0 l.0 b1) b3 o.test → TakesItem t l.0 q.0 b3 b31 r → Binds x targets t r b31 b4 → Begins x (StepsOn (Some record { reg = q; native = false })) (means_list x targets (typed_expr e)) b0 b4 o
list_begun x targets e t l q r b0 c1 c2 b1 b3 b31 b4 o room same list counter is_head head splits takes binds =
    let Q : Sort → Type 0 = λ z. TakesItem z l.0 q.0 b3 b31 r in
    let R : Sort → Type 0 = λ z. Binds x targets z r b31 b4 in
    list_begins x targets (typed_expr e) l.0 q.0 r b0 c1 c2 b1 b3 b31 b4 o room list counter is_head head splits (subst Q same takes) (subst R same binds)
