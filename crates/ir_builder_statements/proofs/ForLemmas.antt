-- A `for` does in its code what it means.
use Rattle.ir_builder_statements.proofs.Common.{◌≡◌, ℕ, zero, suc, ◌+◌, ◌<◌, ◌≤◌, true, false, List, [], length, Option, Some, None, refl, sym, ap, ◌∙◌, subst, arith, le_refl, pos, Bool, Value, Sort, TExpr, TypedExpr, typed_expr, type_of, maybe_typed, is_whole, TypedTarget, State, Outcome, Gives, Raises, Stops, Does, on_to, give, Reg, Goto, Building, Extends, held, Setting, rtype_of, HasRoom, means, Shows, Meaning, Computes, Attempts, Closes, room_on, extends_trans, extends_refl, type_kept, ActsOn, Holds, BoolType, Exit, LoopStart, left, planned, looping_to, EndsLoop, Begins, Works, open_on, stays_by}
use Rattle.std.specs.Prelude.{ℤ, negsuc, ◌+ℤ◌, int_lt, nat_lt, cond, ◌-◌, ◌^◌}
use Rattle.std.proofs.lemmas.Bool.Decides.{nat_tests}
use Rattle.value_core.specs.Arithmetic.{lies_within}
use Rattle.value_core.specs.Value.{IntVal, BoolVal, Store}
use Rattle.py_typed.specs.Sorts as sort
use Rattle.py_typed.specs.Sorts.{sort as sort_of}
use Rattle.py_typed.proofs.ExpressionLemmas.{type_at}
use Rattle.py_typed.specs.Expressions.{typed}
use Rattle.py_typed.specs.Classes.{ClassEntry}
use Rattle.source_meaning.specs.State.{needs}
use Rattle.source_meaning.specs.Operations.{with_number}
use Rattle.source_meaning.specs.WaysOut.{Flow, Goes, flow_on, loop}
use Rattle.source_soundness.specs.Shapes.{has_shape}
use Rattle.source_soundness.proofs.Inverse.{int_shape, native_shape}
use Rattle.ir_core.specs.declared.code.RType.{RType}
use Rattle.ir_core.specs.declared.code.Program.{Program}
use Rattle.ir_core.specs.Meaning.{Waiting}
use Rattle.ir_core.specs.Registers.{Regs}
use Rattle.ir_builder_frames.specs.Placing.{Placed}
use Rattle.ir_builder_frames.specs.Coming.{world, running, Ends}
use Rattle.ir_builder_frames.specs.Matching.{HasKind, Matches, SameIn, IsKept, BackBelow, Stands, IsThrown, CallsWork}
use Rattle.ir_builder_frames.specs.Computing.{means_node, Makes}
use Rattle.ir_builder_frames.proofs.ComingLemmas.{ends_of, ends_on, ends_now, ends_needed, ends_map}
use Rattle.ir_builder_frames.proofs.HeldLemmas.{type_below, placed_part}
use Rattle.ir_builder_frames.proofs.MatchLemmas.{match_kept, thrown_from, computes_then, computes_of, made_computes, makes_arrives}
use Rattle.ir_builder_frames.proofs.WatchLemmas.{watched_as}
use Rattle.ir_builder_expressions.specs.Parts.{is_i64}
use Rattle.ir_builder_expressions.proofs.FollowLemmas.{part_attempts}
use Rattle.ir_builder_loops_and_jumps.specs.Around.{Splits}
use Rattle.ir_builder_loops_and_jumps.specs.Loops.{Asks, WorksAt, Steps}
use Rattle.ir_builder_loops_and_jumps.specs.Means.{means_start, means_bound, means_range}
use Rattle.ir_builder_loops_and_jumps.specs.Runs.{Flows}
use Rattle.ir_builder_loops_and_jumps.proofs.FlowLemmas.{then_at, flows_from}
use Rattle.ir_builder_loops_and_jumps.proofs.LoopLemmas.{loop_works}
use Rattle.ir_builder_statements.specs.Suiting.{StartSuits, RangeSuits}
use Rattle.ir_builder_statements.specs.declared.counting.Counter.{Counter}
use Rattle.ir_builder_statements.specs.Counting.{number_sort, is_in_range, Copies, ComputesNew, FindsLess, CountsOn, StepsOn, Binds, Ranges}
use Rattle.ir_builder_statements.proofs.CountLemmas.{number_kind, zero_in}

-- ---- numbers

pub lies_below : (b m : ℕ) → m < 2 ^ b → nat_lt m (2 ^ b) ≡ true
lies_below b m lt = grind (arith, nat_tests)

pub is_below : (m n : ℕ) → nat_lt m n ≡ true → m < n
is_below m n e = grind (arith, nat_tests, e)

next_negative : (k : ℕ) → negsuc (suc k) +ℤ pos 1 ≡ negsuc k
next_negative k =
    let e : nat_lt 1 (suc (suc k)) ≡ true = grind (arith, nat_tests) in
    ap (λ b. cond b (negsuc (suc (suc k) - 2)) (pos (1 - suc (suc k)))) e ∙ ap negsuc (omega arith)

next_within : (b : ℕ) (k j : ℤ) → lies_within b k ≡ true → lies_within b j ≡ true → int_lt k j ≡ true → lies_within b (k +ℤ pos 1) ≡ true
next_within b (pos k) (pos j) e f lt =
    let p : k < j = is_below k j lt in
    let q : j < 2 ^ b = is_below j (2 ^ b) f in
    lies_below b (k + 1) (omega arith)
next_within b (pos k) (negsuc j) e f lt = absurd (cc)
next_within b (negsuc zero) j e f lt = lies_below b 0 (let q : 0 < 2 ^ b = is_below 0 (2 ^ b) e in q)
next_within b (negsuc (suc k)) j e f lt =
    let q : suc k < 2 ^ b = is_below (suc k) (2 ^ b) e in
    ap (lies_within b) (next_negative k) ∙ lies_below b k (omega arith)

-- between a number and a greater one of a type
next_in : (n : Bool) (k j : ℤ) → is_in_range (number_sort n) k ≡ true → is_in_range (number_sort n) j ≡ true → int_lt k j ≡ true → is_in_range (number_sort n) (k +ℤ pos 1) ≡ true
next_in true k j e f lt = next_within 63 k j e f lt
next_in false k j e f lt = next_within 127 k j e f lt

-- what is known of a whole number that was looked at
whole_shape : (classes : List ClassEntry) (store : Store) (n : Bool) (v : Value) → has_shape classes store (number_sort n) v ≡ true → (k : ℤ) × (v ≡ IntVal k) × (is_in_range (number_sort n) k ≡ true)
whole_shape classes store true v h = native_shape classes store v h
whole_shape classes store false v h = int_shape classes store v h

-- ---- values that were looked at

-- the type of what is given, if anything is
abbrev StartType : Sort → Option TypedExpr → Type 0
StartType t None = Unit {0}
StartType t (Some e) = type_of e ≡ t

abbrev pub seen : {B : Type 0} (x : Setting) (t : Sort) → (Value → Does B) → Value → Does B
seen x t f v s = needs (has_shape x.source.classes.classes s.store t v) (f v) s

pub seen_so : {B : Type 0} (x : Setting) (t : Sort) (f : Value → Does B) (v : Value) (s : State) → has_shape x.source.classes.classes s.store t v ≡ true → f v s ≡ seen x t f v s
seen_so x t f v s h = ap (λ b. needs b (f v) s) (sym h)

pub value_seen : {B : Type 0} (x : Setting) (e : TypedExpr) (n : ℕ) (s : State) (f : Value → Does B) → on_to (means x e n s) f ≡ on_to (means x e n s) (seen x (type_of e) f)
value_seen x (typed k t place) n s f = watched_as x.source t (means_node x k t n s) f (seen x t f) (λ v u h. seen_so x t f v u h)

zero_shape : (classes : List ClassEntry) (store : Store) (n : Bool) → has_shape classes store (number_sort n) (IntVal (pos 0)) ≡ true
zero_shape classes store true = refl
zero_shape classes store false = refl

start_seen : {B : Type 0} (x : Setting) (m : Bool) (o : Option TypedExpr) (n : ℕ) (s : State) (f : Value → Does B) → StartType (number_sort m) o → on_to (means_start x o n s) f ≡ on_to (means_start x o n s) (seen x (number_sort m) f)
start_seen x m None n s f h = seen_so x (number_sort m) f (IntVal (pos 0)) s (zero_shape x.source.classes.classes s.store m)
start_seen x m (Some e) n s f h = value_seen x e n s f ∙ ap (λ z. on_to (means x e n s) (seen x z f)) h

-- ---- bounds

-- a whole number's type is one that is counted in
pub number_is : (t : Sort) → is_whole t ≡ true → number_sort (is_i64 t) ≡ t
number_is sort.Int e = refl
number_is sort.I64 e = refl
number_is t e = absurd (cc)

as_given : (o : Outcome Value) → o ≡ on_to o give
as_given (Gives v s) = refl
as_given (Raises v s) = refl
as_given (Stops w s) = refl

-- a value that is computed and copied
pub copy_attempts : (t : Sort) (u : RType) (b c : Building) (r q : ℕ) → Makes b c q u (Copies r) → Attempts (Shows t) b c q u (ActsOn t r give)
copy_attempts t u b c r q made = record {
  extends = made.extends;
  type = made.type;
  runs = λ p fn h at y here regs below s match res f. makes_arrives p fn (Shows t) (Copies r) b c q u below (length b.regs) regs regs s s f.v (Holds f.v) res (IsThrown fn h below y (length b.regs) regs) made at.has (le_refl _) (λ j lt. refl) refl f.does (f.v, f.shows.0, refl) (refl, f.shows.1);
}

pub copy_computes : (x : Setting) (t : Sort) (u : RType) (m : Meaning Value) (b0 b1 b2 : Building) (r q : ℕ) → HasRoom x b0 → Computes x (Shows t) (rtype_of t) m b0 b1 r → u ≡ rtype_of t → Makes b1 b2 q u (Copies r) → ComputesNew x t m b0 b2 q
copy_computes x t u m b0 b1 b2 r q room c is made =
    let g1 = c.extends.regs_grow in let above = made.above in
    let P : RType → Type 0 = λ z. Computes x (Shows t) z (λ n s. on_to (m n s) give) b0 b2 q in
    let given = subst P is (part_attempts x (Shows t) (Shows t) (rtype_of t) u m give (ActsOn t r give) b0 b1 b2 r q room c (copy_attempts t u b1 b2 r q made) (λ v s regs k. record { v = v; shows = k; does = refl })) in
    (omega arith, computes_of x (Shows t) (rtype_of t) (λ n s. on_to (m n s) give) m b0 b2 q (λ n s. as_given (m n s)) given)

pub start_given : (x : Setting) (t : Sort) (o : Option TExpr) (e : TExpr) (b c : Building) (r : ℕ) → o ≡ Some e → StartSuits x.source x.variables None (maybe_typed o) t → ComputesNew x (type_of (typed_expr e)) (means x (typed_expr e)) b c r → ComputesNew x t (means_start x (maybe_typed o)) b c r
start_given x t o e b c r is suits made =
    let P : Option TExpr → Type 0 = λ z. StartSuits x.source x.variables None (maybe_typed z) t → ComputesNew x t (means_start x (maybe_typed z)) b c r in
    let Q : Sort → Type 0 = λ z. ComputesNew x z (means x (typed_expr e)) b c r in
    subst P (sym is) (λ h. subst Q h.0 made) suits

pub start_none : (x : Setting) (n : Bool) (o : Option TExpr) (b c : Building) (r : ℕ) → o ≡ None → Makes b c r (rtype_of (number_sort n)) (λ regs h. h ≡ Holds (IntVal (pos 0))) → ComputesNew x (number_sort n) (means_start x (maybe_typed o)) b c r
start_none x n o b c r is made =
    let P : Option TExpr → Type 0 = λ z. ComputesNew x (number_sort n) (means_start x (maybe_typed z)) b c r in
    subst P (sym is) (made.above, made_computes x (Shows (number_sort n)) (rtype_of (number_sort n)) (means_start x None) _ b c r made (λ k s regs. (IntVal (pos 0), Holds (IntVal (pos 0)), refl, refl, (refl, number_kind n (pos 0) (zero_in n)))))

-- the type of what a range begins with
start_type : (x : Setting) (o : Option TypedExpr) (t : Sort) → StartSuits x.source x.variables None o t → StartType t o
start_type x None t h = tt
start_type x (Some e) t h = h.0

-- ---- the parts of a loop over a range

pub kept_in : (o : Option Reg) (top n j : ℕ) → BackBelow o top n → n ≤ j → IsKept o j
kept_in None top n j h le = tt
kept_in (Some r) top n j h le = let z = h.1 in λ e. omega arith

-- the number is in one register and the bound in another
abbrev Ranging : Bool → ℕ → ℕ → ℤ → ℤ → Regs → Type 0
Ranging n q q' j k regs = (regs q ≡ Holds (IntVal k)) × (regs q' ≡ Holds (IntVal j)) × (is_in_range (number_sort n) k ≡ true)

-- and it is below the bound
abbrev RangingOn : Bool → ℕ → ℕ → ℤ → ℤ → Regs → Type 0
RangingOn n q q' j k regs = Ranging n q q' j k regs × (int_lt k j ≡ true)

-- both are behind the registers that there were at first
module _ (x : Setting) (n : Bool) (q q' : ℕ) (j : ℤ) (b0 : Building) (room : HasRoom x b0) (first : length b0.regs ≤ q) (second : q < q') (far : is_in_range (number_sort n) j ≡ true) where
  at_kept : (k : ℤ) (regs now : Regs) → now q ≡ regs q → now q' ≡ regs q' → Ranging n q q' j k regs → Ranging n q q' j k now
  at_kept k regs now e f h = (e ∙ h.0, f ∙ h.1, h.2)

  inside_kept : (b : Building) → q' < length b.regs → (k : ℤ) (regs now : Regs) → SameIn x.frame (length b.regs) now regs → RangingOn n q q' j k regs → RangingOn n q q' j k now
  inside_kept b low k regs now same h =
      let top = room.top in
      (at_kept k regs now (same q (omega arith) (omega arith) (kept_in x.frame.ret x.frame.locals.top (length b0.regs) q room.back first)) (same q' (omega arith) low (kept_in x.frame.ret x.frame.locals.top (length b0.regs) q' room.back (omega arith))) h.0, h.1)

  range_asks : (b c : Building) (r : ℕ) → q' < length b.regs → HasRoom x b → FindsLess (number_sort n) q q' b c r → Asks x (Ranging n q q' j) (RangingOn n q q' j) (λ k m. give (int_lt k j)) b c r
  range_asks b c r low here a = record {
    extends = a.extends;
    type = a.type;
    runs = λ p fn h at m calls k regs below s held match le.
        let top = here.top in
        let done = a.runs p fn h at x here regs below s match (Gives (BoolVal (int_lt k j)) s) record {
          v = IntVal k;
          left = (held.0, number_kind n k held.2);
          w = IntVal j;
          right = (held.1, number_kind n j far);
          does = refl;
        } in
        let y = done.3 in
        let now_match : Matches x y.now s = match_kept x b regs y.now s s here (λ i lt. y.kept i (omega arith)) refl match in (
          done.0,
          done.1,
          done.2,
          record {
            stands = record { now = y.now; is = y.is; match = now_match; kept = λ i above lt o. y.kept i lt };
            answer = y.shows.0;
            inside = λ e. (at_kept k regs y.now (y.kept q (omega arith)) (y.kept q' low) held, e);
          },
        );
  }

  range_steps : (b c : Building) → q' < length b.regs → HasRoom x b → CountsOn (number_sort n) q b c → Steps x (RangingOn n q q' j) (Ranging n q q' j) (λ k. k +ℤ pos 1) (length b0.regs) b c
  range_steps b c low here counts = record {
    extends = counts.extends;
    runs = λ p fn h at k regs below s held match.
        let top = room.top in
        let further = next_in n k j held.0.2 far held.1 in
        let done = counts.runs p fn h at x here (omega arith) (omega arith) k held.0.2 further regs below s held.0.0 match in
        (done.0, done.1, (done.2, done.4 q' low (λ e. omega arith) ∙ held.0.1, further), done.3, λ i above lt o. done.4 i (omega arith) (λ e. omega arith));
  }

-- ---- a body behind the binding of its targets

goes_on : (o : Outcome (Unit {0})) (f : Does Flow) → on_to (on_to o (λ u. give Goes)) (flow_on f) ≡ on_to o (λ u. f)
goes_on (Gives u s) f = refl
goes_on (Raises v s) f = refl
goes_on (Stops w s) f = refl

-- what comes before the body of a turn
pub record Prepares {X : Type 0} (x : Setting) (Inside : X → Regs → Type 0) (m : X → Meaning (Unit {0})) (old new : Building) : Type 0 where
  pub extends : Extends old new
  pub runs : (p : Program) (fn : ℕ) (h : Option ℕ) → Placed p fn old new h → (n : ℕ) → CallsWork p x.source n → (i : X) (regs : Regs) (below : List Waiting) (s : State) → Inside i regs → Matches x regs s → s.turns ≤ n → Ends p s.turns (running fn (length old.blocks) (length old.ops) regs below (world None s)) (m i n s) (λ u s1 d. Stands fn (length new.blocks) (length new.ops) below None x (length old.regs) regs s1 d) (IsThrown fn h below x (length old.regs) regs)

pub body_works : {X : Type 0} (x : Setting) (result : Option Sort) (Inside : X → Regs → Type 0) (first : X → Meaning (Unit {0})) (m : Meaning Flow) (b3 b4 b5 : Building) (xs : List Exit) → Prepares x Inside first b3 b4 → Works x result m b4 b5 xs → WorksAt x result Inside (λ i n s. on_to (first i n s) (λ u. m n)) (length b3.regs) b3 b5 xs
body_works {X = X} x result Inside first m b3 b4 b5 xs q w =
    let one : X → Meaning Flow = λ i n s. on_to (first i n s) (λ u. give Goes) in
    let bound : WorksAt x result Inside one (length b3.regs) b3 b4 [] = record {
      extends = q.extends;
      opens = tt;
      runs = λ p fn h to at jumps n calls i regs below s held match le.
          let R = Flows p result fn (length b4.blocks) (length b4.ops) to [] below x (length b3.regs) regs in
          let T = IsThrown fn h below x (length b3.regs) regs in
          ends_on p s.turns _ (first i n s) (λ u s1 d. Stands fn (length b4.blocks) (length b4.ops) below None x (length b3.regs) regs s1 d) T T (λ u. give Goes) R (q.runs p fn h at n calls i regs below s held match le)
          (λ u s1 d le1 z. ends_now p Goes s1 d R T z)
          (λ v s1 d z. z);
    } in
    let both = then_at x result Inside one m (length b3.regs) b3 b4 b5 [] xs q.extends.regs_grow bound w in
    record {
      extends = both.extends;
      opens = both.opens;
      runs = λ p fn h to at jumps n calls i regs below s held match le.
          ends_of p s.turns _ (on_to (first i n s) (λ u. m n)) (on_to (one i n s) (flow_on (m n))) _ _ (sym (goes_on (first i n s) (m n))) (both.runs p fn h to at jumps n calls i regs below s held match le);
    }

-- a value in a register is bound
bound_first : {X : Type 0} (x : Setting) (Inside : X → Regs → Type 0) (targets : List TypedTarget) (t : Sort) (r : ℕ) (value : X → Value) (b3 b4 : Building) → ((i : X) (regs : Regs) → Inside i regs → Shows t (value i) (regs r)) → ((i : X) (regs : Regs) (store : Store) → Inside i regs → has_shape x.source.classes.classes store t (value i) ≡ true) → Binds x targets t r b3 b4 → Prepares x Inside (λ i. means_bound x targets t (value i)) b3 b4
bound_first x Inside targets t r value b3 b4 shows shapes q = record { extends = q.extends; runs = λ p fn h at n calls i regs below s held match le. q.runs p fn h at n calls (value i) regs below s (shows i regs held) (shapes i regs s.store held) match le }

number_shape : (classes : List ClassEntry) (store : Store) (n : Bool) (k : ℤ) → is_in_range (number_sort n) k ≡ true → has_shape classes store (number_sort n) (IntVal k) ≡ true
number_shape classes store true k h = h
number_shape classes store false k h = h

-- ---- the whole loop over a range

module _ (x : Setting) (n : Bool) (targets : List TypedTarget) (start : Option TypedExpr) (stop : TypedExpr) (q q' : ℕ) (b0 c1 c2 b1 b3 b4 : Building) (o : LoopStart) (native : number_sort n ≡ type_of stop) (suits : StartType (number_sort n) start) (room : HasRoom x b0) (first : ComputesNew x (number_sort n) (means_start x start) b0 c1 q) (second : ComputesNew x (number_sort n) (means x stop) c1 c2 q') (is_head : o.head ≡ length b1.blocks) (head : Closes c2 b1 (Goto o.head)) (splits : Splits (FindsLess (number_sort n) q q' b1) b3 o.test) (binds : Binds x targets (type_of stop) q b3 b4) where
  abbrev t : Sort
  t = number_sort n

  bounds_extend : Extends b0 c2
  bounds_extend = extends_trans b0 c1 c2 first.1.extends second.1.extends

  rise : q < q'
  rise = let low = type_below c1 q (rtype_of t) first.1.type in let above = second.0 in omega arith

  below_end : q' < length c2.regs
  below_end = type_below c2 q' (rtype_of t) second.1.type

  to_test : Extends b1 b3
  to_test = extends_trans b1 splits.middle b3 splits.answered.extends splits.closes.extends

  abbrev goes_over : Meaning Flow → ℕ → ℤ → ℤ → Does Flow
  goes_over m k j = loop (suc k) (λ z. give (int_lt z j)) (λ z s. on_to (means_bound x targets (type_of stop) (IntVal z) k s) (λ u. m k)) (λ z. z +ℤ pos 1)

  module _ (result : Option Sort) (m : Meaning Flow) (b5 b6 b7 b9 : Building) (next : ℕ) (xs x0 x1 : List Exit) (w : Works x result m b4 b5 xs) (is_next : next ≡ length b6.blocks) (closes : Closes b5 b6 (Goto next)) (steps : CountsOn t q b6 b7) (l : EndsLoop b7 b9 o next xs x0 x1) where
    abbrev ys : List Exit
    ys = left (planned (looping_to l.exit next)) xs

    to_step : Extends b1 b6
    to_step = extends_trans b1 b3 b6 to_test (extends_trans b3 b4 b6 binds.extends (extends_trans b4 b5 b6 w.extends closes.extends))

    loops : (j : ℤ) → is_in_range t j ≡ true → WorksAt x result (Ranging n q q' j) (λ i k. goes_over m k j i) (length b0.regs) c2 b9 ys
    loops j far =
        let g0 = bounds_extend.regs_grow in let g1 = head.extends.regs_grow in let g3 = to_test.regs_grow in let g6 = to_step.regs_grow in
        let low = below_end in
        let room1 = room_on x b0 b1 (extends_trans b0 c2 b1 bounds_extend head.extends) room in
        let split : Splits (λ c r. Asks x (Ranging n q q' j) (RangingOn n q q' j) (λ k i. give (int_lt k j)) b1 c r) b3 o.test = record { middle = splits.middle; answered = range_asks x n q q' j b0 room first.0 rise far b1 splits.middle o.test.condition.0 (omega arith) room1 splits.answered; block = splits.block; closes = splits.closes; start = splits.start } in
        loop_works x result (Ranging n q q' j) (RangingOn n q q' j) (λ k i. give (int_lt k j)) (λ z k s. on_to (means_bound x targets (type_of stop) (IntVal z) k s) (λ u. m k)) (λ k. k +ℤ pos 1) (length b0.regs) c2 b1 b3 b5 b6 b7 b9 o next xs x0 x1 g0 (inside_kept x n q q' j b0 room first.0 rise far b3 (omega arith)) is_head head split
        (body_works x result (RangingOn n q q' j) (λ k. means_bound x targets (type_of stop) (IntVal k)) m b3 b4 b5 xs (bound_first x (RangingOn n q q' j) targets (type_of stop) q (λ k. IntVal k) b3 b4 (λ k regs held. (held.0.0, subst (λ z. HasKind z (IntVal k)) native (number_kind n k held.0.2))) (λ k regs store held. subst (λ z. has_shape x.source.classes.classes store z (IntVal k) ≡ true) native (number_shape x.source.classes.classes store n k held.0.2)) binds) w)
        is_next closes (range_steps x n q q' j b0 room first.0 rise far b6 b7 (omega arith) (room_on x b1 b6 to_step room1) steps) l

    range_works : Works x result (means_range x targets start stop m) b0 b9 ys
    range_works =
        let any = loops (pos 0) (zero_in n) in
        let k0 = bounds_extend.blocks_grow in let k1 = first.1.extends.blocks_grow in let k2 = second.1.extends.blocks_grow in
        let g1 = first.1.extends.regs_grow in let g2 = second.1.extends.regs_grow in
        let x29 = any.extends in
        record {
          extends = extends_trans b0 c2 b9 bounds_extend x29;
          opens = open_on b9 b9 (length c2.blocks) (length b9.blocks) (length b0.blocks) (length b9.blocks) ys (stays_by b9 b9 _ _ (extends_refl b9)) k0 (le_refl _) any.opens;
          runs = λ p fn h to at jumps k calls regs below s match le.
              let R = Flows p result fn (length b9.blocks) (length b9.ops) to ys below x (length b0.regs) regs in
              let T = IsThrown fn h below x (length b0.regs) regs in
              let over : Value → Value → Does Flow = λ v w. with_number v (λ i. with_number w (λ j. goes_over m k j i)) in
              let behind : Value → Does Flow = λ v s1. on_to (means x stop k s1) (over v) in
              let p1 = placed_part p fn b0 b0 c1 b9 h (le_refl _) (extends_trans c1 c2 b9 second.1.extends x29) at in
              let p2 = placed_part p fn b0 c1 c2 b9 h k1 x29 at in
              let p3 = placed_part p fn b0 c2 b9 b9 h k0 (extends_refl b9) at in
              let low = type_below c1 q (rtype_of t) first.1.type in
              ends_of p s.turns _ (means_range x targets start stop m k s) (on_to (means_start x start k s) (seen x t behind)) R T (start_seen x n start k s behind suits)
              (computes_then p fn h below x k calls (Shows t) (rtype_of t) (means_start x start) b0 c1 q regs s (seen x t behind) R (length b0.regs) regs first.1 p1 room (le_refl _) (λ j a z i. refl) match le
              (λ now v s1 le1 shows kept same1 match1.
              ends_needed p s1.turns _ (has_shape x.source.classes.classes s1.store t v) (behind v) s1 R T
              (λ shape.
              let i = whole_shape x.source.classes.classes s1.store n v shape in
              ends_of p s1.turns _ (behind v s1) (on_to (means x stop k s1) (seen x t (over v))) R T (value_seen x stop k s1 (over v) ∙ ap (λ z. on_to (means x stop k s1) (seen x z (over v))) (sym native))
              (computes_then p fn h below x k calls (Shows t) (rtype_of t) (means x stop) c1 c2 q' now s1 (seen x t (over v)) R (length b0.regs) regs second.1 p2 (room_on x b0 c1 first.1.extends room) g1 (λ j a z o. kept j z) match1 le1
              (λ now2 u s2 le2 shows2 kept2 same2 match2.
              ends_needed p s2.turns _ (has_shape x.source.classes.classes s2.store t u) (over v u) s2 R T
              (λ shape2.
              let j = whole_shape x.source.classes.classes s2.store n u shape2 in
              let held : Ranging n q q' j.0 i.0 now2 = (kept2 q low ∙ shows.0 ∙ ap Holds i.1, shows2.0 ∙ ap Holds j.1, i.2) in
              let as_before : SameIn x.frame (length b0.regs) now2 regs = λ r a z o. kept2 r (omega arith) ∙ kept r z in
              ends_of p s2.turns _ (over v u s2) (goes_over m k j.0 i.0 s2) R T (ap (λ z. over z u s2) i.1 ∙ ap (λ z. over (IntVal i.0) z s2) j.1)
              (ends_map p s2.turns _ (goes_over m k j.0 i.0 s2) _ R _ T
              (λ g s3 d z. flows_from p result fn (length b9.blocks) (length b9.ops) to ys ys below x (length b0.regs) (length b0.regs) regs now2 g s3 d (λ way used. used) (le_refl _) as_before z)
              (λ e s3 d z. thrown_from fn h below x (length b0.regs) (length b0.regs) regs now2 e s3 d (le_refl _) as_before z)
              ((loops j.0 j.2).runs p fn h to p3 jumps k calls i.0 now2 below s2 held match2 le2))))))));
        }

  pub range_begins : Begins x (CountsOn t q) (means_range x targets start stop) b0 b4 o
  range_begins =
      let n1 = head.blocks in let k0 = bounds_extend.blocks_grow in let k2 = splits.answered.extends.blocks_grow in let n3 = splits.closes.blocks in let k4 = binds.extends.blocks_grow in
      let is_block = splits.block in let is_start = splits.start in
      record {
        head = (omega arith, omega arith);
        waits = record { place = length splits.middle.ops; is = binds.extends.items _ _ _ (ap (λ z. held b3 z (length splits.middle.ops)) splits.block ∙ splits.closes.at) };
        start = (omega arith, omega arith);
        type = type_kept splits.middle b4 o.test.condition.0 BoolType (extends_trans splits.middle b3 b4 splits.closes.extends binds.extends) splits.answered.type;
        works = λ result m b5 b6 b7 b9 next xs x0 x1 w is_next closes steps l. range_works result m b5 b6 b7 b9 next xs x0 x1 w is_next closes steps l;
      }

-- a loop over a range was begun
pub range_begun : (x : Setting) (targets : List TypedTarget) (start : Option TExpr) (stop : TExpr) (c : Counter) (q' : ℕ) (b0 c2 b1 b3 b4 : Building) (o : LoopStart) → RangeSuits x.source x.variables None targets (maybe_typed start) (typed_expr stop) → HasRoom x b0 → Ranges x (maybe_typed start) (typed_expr stop) b0 c2 c q' → o.head ≡ length b1.blocks → Closes c2 b1 (Goto o.head) → Splits (FindsLess (number_sort c.native) c.reg.0 q' b1) b3 o.test → Binds x targets (sort_of stop.ty) c.reg.0 b3 b4 → Begins x (StepsOn (Some c)) (means_range x targets (maybe_typed start) (typed_expr stop)) b0 b4 o
range_begun x targets start stop c q' b0 c2 b1 b3 b4 o suits room g is_head head splits binds =
    let Q : Sort → Type 0 = λ z. StartSuits x.source x.variables None (maybe_typed start) z in
    let R : Sort → Type 0 = λ z. Binds x targets z c.reg.0 b3 b4 in
    range_begins x c.native targets (maybe_typed start) (typed_expr stop) c.reg.0 q' b0 g.middle c2 b1 b3 b4 o g.type (start_type x (maybe_typed start) (number_sort c.native) (subst Q (sym g.type) suits.1)) room g.first g.second is_head head splits (subst R (sym (type_at stop)) binds)
