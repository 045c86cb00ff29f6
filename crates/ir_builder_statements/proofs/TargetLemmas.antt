-- What the code of targets does is what they mean.
use Rattle.ir_builder_statements.proofs.Common.{◌≡◌, ℕ, zero, suc, ◌+◌, ◌<◌, ◌≤◌, true, false, Bool, List, [], ◌∷◌, ◌++◌, length, map, drop, get_or, Option, Some, None, refl, sym, ap, ◌∙◌, subst, inl, inr, arith, le_refl, slice_get, if◌then◌else◌, drop_more, drop_all, Value, Target, Sort, sort, TypedExpr, type_of, TypedTarget, LocalTarget, GlobalTarget, AttrTarget, ItemTarget, typed_target, State, Outcome, Gives, Raises, Stops, Does, on_to, give, coerced, Reg, Building, Extends, Setting, rtype_of, HasType, HasKind, HasRoom, means, Shows, Computes, Attempts, room_on, extends_trans, extends_refl, type_kept, ActsOn, Emits, SetsVariable, IsVariable, ItemSuits, TakesValue, TargetTakes, TargetsTake, OneSuits, NoneFits, PartsSuit, TargetsSuit, means_assignment, Works, Holds, Ty, TExpr, typed_expr, TypedModule, Variable}
use Rattle.std.specs.Prelude.{◌&&◌}
use Rattle.value_core.specs.Value.{Values, no_values, value_then, TupleVal, NoneVal, BoolVal, Store, listed}
use Rattle.py_typed.specs.Classes.{ClassEntry}
use Rattle.py_typed.specs.Fits.{fits}
use Rattle.py_typed.specs.Sorts as tree
use Rattle.py_typed.specs.declared.statement.Target.TheVariants.{Local, Global, Attr, At}
use Rattle.py_typed.specs.Sorts.{sorts_of, listed_sorts}
use Rattle.py_typed.specs.TargetTypes.{item_sort}
use Rattle.source_meaning.specs.State.{Stuck, stop, sure, needs}
use Rattle.source_meaning.specs.Operations.{tuple_part, set_item, set_list_item}
use Rattle.source_meaning.specs.StatementMeaning.{target_sort}
use Rattle.source_meaning.specs.WaysOut.{Flow, Goes}
use Rattle.source_soundness.specs.Shapes.{has_shape, have_shapes}
use Rattle.source_soundness.specs.Watched.{assign, unpack}
use Rattle.source_soundness.proofs.Inverse.{int_shape, native_shape, bool_shape, text_shape, none_shape, tuple_shape}
use Rattle.ir_core.specs.declared.code.RType.{RType}
use Rattle.ir_core.specs.declared.code.RType.TheVariants as rtype
use Rattle.ir_core.specs.Meaning.{Config}
use Rattle.ir_core.specs.Registers.{Regs}
use Rattle.ir_core.specs.Rows.{Declared}
use Rattle.ir_builder_frames.specs.declared.frame.Frame.{Frame}
use Rattle.ir_builder_frames.specs.Coming.{world, running}
use Rattle.ir_builder_frames.specs.Computing.{ShowAll, HaveTypes, Arrives, ArrivesAll, ComputesAll, Makes}
use Rattle.ir_builder_frames.specs.Matching.{Matches, SameIn, HaveKinds, Stands, IsThrown}
use Rattle.ir_builder_frames.specs.Operands.{ActsOnAll}
use Rattle.ir_builder_frames.specs.Watching.{watch, calls_in}
use Rattle.ir_builder_frames.proofs.ComingLemmas.{ends_of, ends_on, ends_now, ends_from, ends_needed, ends_map, ends_at}
use Rattle.ir_builder_frames.proofs.HeldLemmas.{placed_part, type_below}
use Rattle.ir_builder_frames.proofs.MatchLemmas.{match_kept, stands_from, thrown_from, computes_then, computes_all_then}
use Rattle.ir_builder_operations.specs.Boxes.{boxed, taken_as, is_of}
use Rattle.ir_builder_operations.specs.Converting.{is_flat}
use Rattle.ir_builder_operations.specs.Rows.{item_changed, goes}
use Rattle.ir_builder_operations.specs.declared.operation.Operation.TheVariants.{ItemChange}
use Rattle.ir_builder_operations.proofs.ConversionLemmas.{given_on}
use Rattle.ir_builder_operations.proofs.ThenLemmas.{attempts_then}
use Rattle.ir_builder_expressions.proofs.TakenLemmas.{one_taken}
use Rattle.ir_builder_loops_and_jumps.specs.Means.{means_bound}
use Rattle.ir_builder_loops_and_jumps.specs.Runs.{Flows}
use Rattle.ir_builder_loops_and_jumps.specs.Simple.{storing, is_there, with_value, Sets}
use Rattle.ir_builder_statements.specs.Counting.{Copies, Binds}
use Rattle.ir_builder_statements.specs.Lined.{Piece, value, target_pieces, all_target_pieces, LinedPieces, own as bare}
use Rattle.ir_builder_statements.specs.Targets.{own_sort, own_sorts, means_coerced, means_assigned, Lasting, PutsEach, part_as, TakesPart, Unpacks}
use Rattle.ir_builder_statements.proofs.AssignLemmas.{sort_is, assigned, no_pieces}
use Rattle.ir_builder_statements.proofs.ForLemmas.{seen, value_seen, kept_in, copy_attempts}
use Rattle.ir_builder_statements.proofs.ItemLemmas.{types_kept, Values as Meanings, first_value, next_value, first_computed, next_computed}
use Rattle.ir_builder_statements.proofs.LinedLemmas.{pieces_join, PiecesRest}
use Rattle.ir_builder_expressions.specs.Lined.{Around}
use Rattle.ir_builder_expressions.proofs.LinedLemmas.{around_none}

-- ---- the types of targets

pub own_is : (x : Setting) (n : ℕ) (target : TypedTarget) → target_sort x.source.classes.classes (calls_in x.source n) x.source.globals x.variables target ≡ own_sort x target
own_is x n (LocalTarget k) = refl
own_is x n (GlobalTarget i) = refl
own_is x n (AttrTarget e name) = refl
own_is x n (ItemTarget a i) = refl

pub takes_own : (x : Setting) (target : TypedTarget) (u : Sort) → TakesValue x.source x.variables None target u → own_sort x target ≡ u
takes_own x (LocalTarget k) u v = sort_is x.variables k v.0 u v.1 v.2
takes_own x (GlobalTarget i) u v = sort_is x.source.globals i v.0 u v.1 v.2
takes_own x (AttrTarget e name) u v = absurd v
takes_own x (ItemTarget a i) u v = ap item_sort v.0

own_type_there : (x : Setting) (target : TypedTarget) (u : Sort) (r : ℕ) (b : Building) → TakesValue x.source x.variables None target u → HasType b r (rtype_of (own_sort x target)) → HasType b r (rtype_of u)
own_type_there x target u r b takes h = subst (λ z. HasType b r (rtype_of z)) (takes_own x target u takes) h

-- a target takes values of one type
pub one_own : (x : Setting) (target : TypedTarget) (u w : Sort) → TakesValue x.source x.variables None target u → TakesValue x.source x.variables None target w → u ≡ w
one_own x target u w h k = sym (takes_own x target u h) ∙ takes_own x target w k

-- what it takes fits the type that was found
pub takes_fits : (x : Setting) (target : TypedTarget) (s own : Sort) → TargetTakes x.source x.variables None target s → TakesValue x.source x.variables None target own → (fits x.source.classes.classes s own ≡ true) × (is_flat own ≡ true)
takes_fits x target s own takes is =
    let P : Sort → Type 0 = λ z. (fits x.source.classes.classes s z ≡ true) × (is_flat z ≡ true) in
    subst P (one_own x target takes.0 own takes.1 is) (takes.2, takes.3)

-- ---- values that registers show

one_shown : (t : Sort) (r : Reg) (vs : List Value) (regs : Regs) → ShowAll (t ∷ []) vs regs (r ∷ []) → (v : Value) × (vs ≡ v ∷ []) × Shows t v (regs r.0)
one_shown t r [] regs h = absurd h
one_shown t r (v ∷ []) regs h = (v, refl, h.0)
one_shown t r (v ∷ w ∷ vs) regs h = absurd h.1

first_shown : (t : Sort) (ts : List Sort) (r : Reg) (rs : List Reg) (vs : List Value) (regs : Regs) → ShowAll (t ∷ ts) vs regs (r ∷ rs) → (v : Value) × (ws : List Value) × (vs ≡ v ∷ ws) × Shows t v (regs r.0) × ShowAll ts ws regs rs
first_shown t ts r rs [] regs h = absurd h
first_shown t ts r rs (v ∷ ws) regs h = (v, ws, refl, h.0, h.1)

none_shown : (vs : List Value) (regs : Regs) → ShowAll [] vs regs [] → vs ≡ []
none_shown [] regs h = refl
none_shown (v ∷ vs) regs h = absurd h

no_registers : (d : Declared) (rs : List Reg) → HaveTypes d [] rs → rs ≡ []
no_registers d [] h = refl
no_registers d (r ∷ rs) h = absurd h

types_there : (d : Declared) (t : Sort) (ts : List Sort) (rs : List Reg) (i : ℕ) → HaveTypes d (t ∷ ts) (drop i rs) → i < length rs
types_there d t ts [] zero h = absurd h
types_there d t ts [] (suc i) h = absurd h
types_there d t ts (r ∷ rs) zero h = omega arith
types_there d t ts (r ∷ rs) (suc i) h = let k : i < length rs = types_there d t ts rs i h in omega arith

-- what lasts stays where a target is written
lasting_shown : (f : Frame) (b : Building) (ts : List Sort) (vs : List Value) (rs : List Reg) (regs now : Regs) → HaveTypes b.regs ts rs → Lasting f rs → SameIn f (length b.regs) now regs → ShowAll ts vs regs rs → ShowAll ts vs now rs
lasting_shown f b [] [] [] regs now h last same k = tt
lasting_shown f b [] vs (r ∷ rs) regs now h last same k = absurd h
lasting_shown f b [] (v ∷ vs) [] regs now h last same k = absurd k
lasting_shown f b (t ∷ ts) vs [] regs now h last same k = absurd h
lasting_shown f b (t ∷ ts) [] (r ∷ rs) regs now h last same k = absurd k
lasting_shown f b (t ∷ ts) (v ∷ vs) (r ∷ rs) regs now h last same k = (subst (Shows t v) (sym (same r.0 last.0 (type_below b r.0 (rtype_of t) h.0) last.1)) k.0, lasting_shown f b ts vs rs regs now h.1 last.2 same k.1)

-- ---- one target is written

unit_after : (o : Outcome (Unit {0})) → on_to o (λ u. give tt) ≡ o
unit_after (Gives u s) = refl
unit_after (Raises v s) = refl
unit_after (Stops w s) = refl

turns_same : (target : TypedTarget) (v : Value) (s : State) → (with_value target v s).turns ≤ s.turns
turns_same (LocalTarget k) v s = le_refl s.turns
turns_same (GlobalTarget k) v s = le_refl s.turns
turns_same target v s = le_refl s.turns

-- a variable
pub variable_puts : (x : Setting) (target : TypedTarget) (u : Sort) (r : Reg) (b c : Building) → HasRoom x b → IsVariable x.source x.variables None target u → HasType b r.0 (rtype_of u) → SetsVariable x.source x.frame target r.0 b c → PutsEach x (target ∷ []) (r ∷ []) b c
variable_puts x target u r b c room is type puts =
    let sets : Sets x target r.0 b c = puts x.variables u room is type in
    record {
      extends = sets.extends;
      runs = λ p fn h at n calls vs regs below s shows match le.
          let R : Unit {0} → State → Config → Type 0 = λ w s1 d. Stands fn (length c.blocks) (length c.ops) below None x (length b.regs) regs s1 d in
          let T = IsThrown fn h below x (length b.regs) regs in
          let here : Config = running fn (length b.blocks) (length b.ops) regs below (world None s) in
          let one = one_shown (own_sort x target) r vs regs shows in
          let v : Value = one.0 in
          let s2 : State = with_value target v s in
          ends_of p s.turns here (means_assigned x (target ∷ []) vs n s) (storing target v s) R T (ap (λ z. means_assigned x (target ∷ []) z n s) one.1 ∙ unit_after (assign (watch x.source) x.source.classes.classes (calls_in x.source n) x.source.globals x.variables target v s) ∙ assigned x n target u s v is)
          (ends_needed p s.turns here (is_there target s) (λ z. Gives tt (with_value target v z)) s R T
          (λ there.
          let done = sets.does p fn at.has calls.variables regs below s v match one.2.0 there in
          ends_from p s2.turns s.turns here _ (Gives tt s2) R T (turns_same target v s) done.1
          (ends_now p tt s2 _ R T record { now = done.0; is = refl; match = done.2; kept = λ j above lt o. done.3 j above })));
    }

-- and the item of a list
abbrev changing : Value → List Value → Does Value
changing v (j ∷ l ∷ []) = item_changed l j v
changing v vs = stop Stuck

abbrev done : {A : Type 0} → A → Does (Unit {0})
done a = give tt

change_done : (o : Outcome (Unit {0})) → on_to o done ≡ on_to (on_to o (λ u. Gives (BoolVal true))) done
change_done (Gives u s) = refl
change_done (Raises v s) = refl
change_done (Stops w s) = refl

index_done : (r : Outcome Value) (v l : Value) → on_to (on_to r (λ j. set_list_item l j v)) done ≡ on_to (on_to r (λ j. Gives (j ∷ l ∷ []))) (λ ws s. on_to (changing v ws s) done)
index_done (Gives j s) v l = change_done (set_list_item l j v s)
index_done (Raises e s) v l = refl
index_done (Stops w s) v l = refl

list_done : (r : Outcome Value) (index : Does Value) (v : Value) → on_to (on_to r (λ l s. on_to (index s) (λ j. set_list_item l j v))) done ≡ on_to (on_to (on_to r (λ l. Gives (l ∷ []))) (λ vs s. on_to (index s) (λ j. Gives (j ∷ vs)))) (λ ws s. on_to (changing v ws s) done)
list_done (Gives l s) index v = index_done (index s) v l
list_done (Raises e s) index v = refl
list_done (Stops w s) index v = refl

changes : (l j v : Reg) (w : Value) (ws : List Value) (s : State) (regs : Regs) → regs v.0 ≡ Holds w → ShowAll (tree.Int ∷ boxed ∷ []) ws regs (j ∷ l ∷ []) → ActsOnAll (boxed ∷ tree.Int ∷ boxed ∷ []) (l ∷ j ∷ v ∷ []) (goes ItemChange) regs s (changing w ws s)
changes l j v w [] s regs held h = absurd h
changes l j v w (y ∷ []) s regs held h = absurd h.1
changes l j v w (y ∷ z ∷ []) s regs held h = record { values = z ∷ y ∷ w ∷ []; shows = (h.1.0, (h.0, ((held, tt), tt))); does = refl }
changes l j v w (y ∷ z ∷ q ∷ vs) s regs held h = absurd h.1.1

module _ (x : Setting) (a i : TypedExpr) (u : Sort) (suits : ItemSuits x.source x.variables None a i u) where
  -- the list and the index, the last one first
  abbrev places : Meanings
  places = next_value (first_value (means x a)) (means x i)

  item_means : (n : ℕ) (v : Value) (s : State) → means_assigned x (ItemTarget a i ∷ []) (v ∷ []) n s ≡ on_to (places n s) (λ ws z. on_to (changing v ws z) done)
  item_means n v s =
      ap (λ z. on_to (on_to (means x a n s) (λ l s1. on_to (means x i n s1) (λ j. set_item z l j v))) done) suits.0
      ∙ list_done (means x a n s) (means x i n) v

  pub item_puts : (r v l j : Reg) (q : ℕ) (b0 b1 b2 b3 b4 : Building) → HasRoom x b0 → Attempts (Shows (tree.Optional u)) b0 b1 v.0 rtype.Ref (ActsOn u r.0 give) → Emits x a b1 b2 l.0 → Emits x i b2 b3 j.0 → Attempts (Shows tree.Bool) b3 b4 q rtype.Bool (ActsOnAll (boxed ∷ tree.Int ∷ boxed ∷ []) (l ∷ j ∷ v ∷ []) (goes ItemChange)) → PutsEach x (ItemTarget a i ∷ []) (r ∷ []) b0 b4
  item_puts r v l j q b0 b1 b2 b3 b4 room boxes list index changed =
      let P : TypedExpr → Building → Building → ℕ → Sort → Type 0 = λ z b c r t. Computes x (Shows t) (rtype_of t) (means x z) b c r in
      let room1 = room_on x b0 b1 boxes.extends room in
      let one = first_computed x boxed (means x a) b1 b2 l room1 (subst (P a b1 b2 l.0) suits.0 list) in
      let both : ComputesAll x (tree.Int ∷ boxed ∷ []) places b1 b3 (j ∷ l ∷ []) = next_computed x (boxed ∷ []) tree.Int _ (means x i) b1 b2 b3 (l ∷ []) j room1 one (subst (P i b2 b3 j.0) suits.1 index) in
      let room3 = room_on x b1 b3 both.extends room1 in
      let x13 = extends_trans b1 b3 b4 both.extends changed.extends in
      let x03 = extends_trans b0 b1 b3 boxes.extends both.extends in
      let k1 = boxes.extends.blocks_grow in let k3 = x03.blocks_grow in
      let g1 = boxes.extends.regs_grow in let g3 = x03.regs_grow in let g13 = both.extends.regs_grow in
      let low = type_below b1 v.0 rtype.Ref boxes.type in
      record {
        extends = extends_trans b0 b1 b4 boxes.extends x13;
        runs = λ p fn h at n calls vs regs below s shows match le.
            let top = room.top in
            let R : Unit {0} → State → Config → Type 0 = λ w s1 d. Stands fn (length b4.blocks) (length b4.ops) below None x (length b0.regs) regs s1 d in
            let T = IsThrown fn h below x (length b0.regs) regs in
            let held = one_shown (own_sort x (ItemTarget a i)) r vs regs shows in
            let go : Value → Does (Unit {0}) = λ w z. on_to (places n z) (λ ws y. on_to (changing w ws y) done) in
            let p1 = placed_part p fn b0 b0 b1 b4 h (le_refl _) x13 at in
            let p3 = placed_part p fn b0 b1 b3 b4 h k1 changed.extends at in
            let p4 = placed_part p fn b0 b3 b4 b4 h k3 (extends_refl b4) at in
            ends_of p s.turns _ (means_assigned x (ItemTarget a i ∷ []) vs n s) (go held.0 s) R T (ap (λ z. means_assigned x (ItemTarget a i ∷ []) z n s) held.1 ∙ item_means n held.0 s)
            (ends_on p s.turns _ (Gives held.0 s) (Arrives (Shows (tree.Optional u)) fn (length b1.blocks) (length b1.ops) below (length b0.regs) regs s v.0) T T go R
            (boxes.runs p fn h p1 x room regs below s match (Gives held.0 s) record { v = held.0; shows = subst (λ z. Shows z held.0 (regs r.0)) (ap item_sort suits.0) held.2; does = refl })
            (λ w s1 d le1 y.
            let match1 : Matches x y.now s1 = match_kept x b0 regs y.now s s1 room (λ i lt. y.kept i (omega arith)) y.same match in
            ends_at p s1.turns (running fn (length b1.blocks) (length b1.ops) y.now below (world None s1)) d (go w s1) R T y.is
            (computes_all_then p fn h below x n calls (tree.Int ∷ boxed ∷ []) places b1 b3 (j ∷ l ∷ []) y.now s1 (λ ws z. on_to (changing w ws z) done) R (length b0.regs) regs both p3 room1 g1 (λ i above lt o. y.kept i lt) match1 (omega arith)
            (λ now ws s2 le2 shown kept2 same2 match2.
            ends_on p s2.turns _ (changing w ws s2) (Arrives (Shows tree.Bool) fn (length b4.blocks) (length b4.ops) below (length b3.regs) now s2 q) (IsThrown fn h below x (length b3.regs) now) T done R
            (changed.runs p fn h p4 x room3 now below s2 match2 (changing w ws s2) (changes l j v w ws s2 now (kept2 v.0 low ∙ y.shows.0) shown))
            (λ t s3 e le3 z.
            ends_at p s3.turns (running fn (length b4.blocks) (length b4.ops) z.now below (world None s3)) e (Gives tt s3) R T z.is
            (ends_now p tt s3 _ R T record { now = z.now; is = refl; match = match_kept x b3 now z.now s2 s3 room3 (λ i lt. z.kept i (omega arith)) z.same match2; kept = λ i above lt o. z.kept i (omega arith) ∙ kept2 i (omega arith) ∙ y.kept i lt }))
            (λ t s3 e z. thrown_from fn h below x (length b0.regs) (length b3.regs) regs now t s3 e g3 (λ i above lt o. kept2 i (omega arith) ∙ y.kept i lt) z))))
            (λ t s1 d z. z));
      }

-- ---- one behind the other

pub puts_none : (x : Setting) (b : Building) → PutsEach x [] [] b b
puts_none x b = record {
  extends = extends_refl b;
  runs = λ p fn h at n calls vs regs below s shows match le.
      let R : Unit {0} → State → Config → Type 0 = λ w s1 d. Stands fn (length b.blocks) (length b.ops) below None x (length b.regs) regs s1 d in
      let T = IsThrown fn h below x (length b.regs) regs in
      ends_of p s.turns _ (means_assigned x [] vs n s) (Gives tt s) R T (ap (λ z. means_assigned x [] z n s) (none_shown vs regs shows))
      (ends_now p tt s _ R T record { now = regs; is = refl; match = match; kept = λ j above lt o. refl });
}

unit_then : (o : Outcome (Unit {0})) (f : Does (Unit {0})) → on_to o (λ u. f) ≡ on_to (on_to o done) (λ u. f)
unit_then (Gives u s) f = refl
unit_then (Raises v s) f = refl
unit_then (Stops w s) f = refl

pub puts_then : (x : Setting) (target : TypedTarget) (targets : List TypedTarget) (r : Reg) (rs : List Reg) (b c d : Building) → HaveTypes b.regs (own_sorts x targets) rs → Lasting x.frame rs → PutsEach x (target ∷ []) (r ∷ []) b c → PutsEach x targets rs c d → PutsEach x (target ∷ targets) (r ∷ rs) b d
puts_then x target targets r rs b c d types last first more =
    let k1 = first.extends.blocks_grow in
    let g1 = first.extends.regs_grow in
    record {
      extends = extends_trans b c d first.extends more.extends;
      runs = λ p fn h at n calls vs regs below s shows match le.
          let R : Unit {0} → State → Config → Type 0 = λ w s1 e. Stands fn (length d.blocks) (length d.ops) below None x (length b.regs) regs s1 e in
          let T = IsThrown fn h below x (length b.regs) regs in
          let one = first_shown (own_sort x target) (own_sorts x targets) r rs vs regs shows in
          let v : Value = one.0 in
          let ws : List Value = one.1 in
          let rest : Does (Unit {0}) = means_assigned x targets ws n in
          ends_of p s.turns _ (means_assigned x (target ∷ targets) vs n s) (on_to (means_assigned x (target ∷ []) (v ∷ []) n s) (λ u. rest)) R T (ap (λ z. means_assigned x (target ∷ targets) z n s) one.2 ∙ unit_then (assign (watch x.source) x.source.classes.classes (calls_in x.source n) x.source.globals x.variables target v s) rest)
          (ends_on p s.turns _ (means_assigned x (target ∷ []) (v ∷ []) n s) (λ w s1 e. Stands fn (length c.blocks) (length c.ops) below None x (length b.regs) regs s1 e) T T (λ u. rest) R
          (first.runs p fn h (placed_part p fn b b c d h (le_refl _) more.extends at) n calls (v ∷ []) regs below s (one.3, tt) match le)
          (λ u s1 e le1 y.
          ends_at p s1.turns (running fn (length c.blocks) (length c.ops) y.now below (world None s1)) e (rest s1) R T y.is
          (ends_map p s1.turns _ (rest s1) (λ w s2 f. Stands fn (length d.blocks) (length d.ops) below None x (length c.regs) y.now s2 f) R (IsThrown fn h below x (length c.regs) y.now) T
          (λ w s2 f z. stands_from fn (length d.blocks) (length d.ops) below None x (length b.regs) (length c.regs) regs y.now s2 f g1 y.kept z)
          (λ w s2 f z. thrown_from fn h below x (length b.regs) (length c.regs) regs y.now w s2 f g1 y.kept z)
          (more.runs p fn h (placed_part p fn b c d d h k1 (extends_refl d) at) n calls ws y.now below s1 (lasting_shown x.frame b (own_sorts x targets) ws rs regs y.now types last y.kept one.4) y.match (omega arith))))
          (λ w s1 e z. z));
    }

-- targets that were written from the left, and those that are left
pub record Putting (x : Setting) (l : ℕ) (all rest : List Target) (rs left : List Reg) (start b : Building) : Type 0 where
  pub extends : Extends start b
  pub takes : (ss : List Sort) × TargetsTake x.source x.variables None (map typed_target rest) ss
  pub types : HaveTypes b.regs (own_sorts x (map typed_target rest)) left
  pub lasting : Lasting x.frame left
  pub puts : (c : Building) → PutsEach x (map typed_target rest) left b c → PutsEach x (map typed_target all) rs start c
  pub lined : PiecesRest x l (all_target_pieces (map typed_target all)) (all_target_pieces (map typed_target rest)) start b

pub putting_none : (x : Setting) (l : ℕ) (targets : List Target) (rs : List Reg) (b : Building) → (ss : List Sort) × TargetsTake x.source x.variables None (map typed_target targets) ss → HaveTypes b.regs (own_sorts x (map typed_target targets)) rs → Lasting x.frame rs → Putting x l targets targets rs rs b b
putting_none x l targets rs b takes types last = record { extends = extends_refl b; takes = takes; types = types; lasting = last; puts = λ c h. h; lined = record { make = λ c h. h } }

first_takes : (x : Setting) (target : TypedTarget) (targets : List TypedTarget) (ss : List Sort) → TargetsTake x.source x.variables None (target ∷ targets) ss → (s : Sort) × (more : List Sort) × TargetTakes x.source x.variables None target s × TargetsTake x.source x.variables None targets more
first_takes x target targets [] h = absurd h
first_takes x target targets (s ∷ ss) h = (s, ss, h.0, h.1)

putting_next : (x : Setting) (l : ℕ) (all rest : List Target) (target : Target) (rs left : List Reg) (r : Reg) (start b c : Building) → Putting x l all (target ∷ rest) rs (r ∷ left) start b → PutsEach x (typed_target target ∷ []) (r ∷ []) b c → LinedPieces x l (target_pieces (typed_target target)) b c → Putting x l all rest rs left start c
putting_next x l all rest target rs left r start b c g one pieces =
    let takes = first_takes x (typed_target target) (map typed_target rest) g.takes.0 g.takes.1 in
    record {
      extends = extends_trans start b c g.extends one.extends;
      takes = (takes.1, takes.3);
      types = types_kept b c (own_sorts x (map typed_target rest)) left one.extends g.types.1;
      lasting = g.lasting.2;
      puts = λ d more. g.puts d (puts_then x (typed_target target) (map typed_target rest) r left b c d g.types.1 g.lasting.2 one more);
      lined = record { make = λ d more. g.lined.make d (pieces_join pieces more) };
    }

-- one turn of the loop over them
-- an item that is there is the same whatever stands for one that is not
pub got_there : {A : Type 0} (xs : List A) (i : ℕ) (d e : A) → i < length xs → get_or xs i d ≡ get_or xs i e
got_there [] i d e lt = absurd (omega arith)
got_there (x ∷ xs) zero d e lt = refl
got_there (x ∷ xs) (suc i) d e lt = got_there xs i d e (omega arith)

module _ (x : Setting) (l : ℕ) (targets : List Target) (rs : List Reg) (i : ℕ) (start b : Building) where
  abbrev Here : Type 0
  Here = Putting x l targets (drop i targets) rs (drop i rs) start b

  module _ (target : Target) (lt : i < length targets) (is : target ≡ get_or targets i target) (g : Here) where
    targets_left : drop i targets ≡ target ∷ drop (i + 1) targets
    targets_left = drop_more targets i target lt ∙ ap (λ z. z ∷ drop (i + 1) targets) (sym is)

    -- there are as many registers
    pub registers_left : i < length rs
    registers_left =
        let P : List Target → Type 0 = λ z. HaveTypes b.regs (own_sorts x (map typed_target z)) (drop i rs) in
        types_there b.regs (own_sort x (typed_target target)) (own_sorts x (map typed_target (drop (i + 1) targets))) rs i (subst P targets_left g.types)

    -- the target takes a value, and its register has that type
    pub put_takes : (r : Reg) → r ≡ get_or rs i r → (u : Sort) × TakesValue x.source x.variables None (typed_target target) u × HasType b r.0 (rtype_of u)
    put_takes r here =
        let d : drop i rs ≡ r ∷ drop (i + 1) rs = drop_more rs i r registers_left ∙ ap (λ z. z ∷ drop (i + 1) rs) (sym here) in
        let P : List Target → List Reg → Type 0 = λ z w. Putting x l targets z rs w start b in
        let k : Putting x l targets (target ∷ drop (i + 1) targets) rs (r ∷ drop (i + 1) rs) start b = subst (λ w. P (target ∷ drop (i + 1) targets) w) d (subst (λ z. P z (drop i rs)) targets_left g) in
        let takes = first_takes x (typed_target target) (map typed_target (drop (i + 1) targets)) k.takes.0 k.takes.1 in
        (takes.2.0, takes.2.1, own_type_there x (typed_target target) takes.2.0 r.0 b takes.2.1 k.types.0)

    pub putting_on : (r : Reg) (c : Building) → r ≡ get_or rs i r → PutsEach x (typed_target target ∷ []) (r ∷ []) b c → LinedPieces x l (target_pieces (typed_target target)) b c → Putting x l targets (drop (i + 1) targets) rs (drop (i + 1) rs) start c
    putting_on r c here one pieces =
        let d : drop i rs ≡ r ∷ drop (i + 1) rs = drop_more rs i r registers_left ∙ ap (λ z. z ∷ drop (i + 1) rs) (sym here) in
        let P : List Target → List Reg → Type 0 = λ z w. Putting x l targets z rs w start b in
        putting_next x l targets (drop (i + 1) targets) target rs (drop (i + 1) rs) r start b c (subst (λ w. P (target ∷ drop (i + 1) targets) w) d (subst (λ z. P z (drop i rs)) targets_left g)) one pieces

  pub putting_over : length targets ≤ i → Here → PutsEach x (map typed_target targets) rs start b × LinedPieces x l (all_target_pieces (map typed_target targets)) start b
  putting_over le g =
      let P : List Target → List Reg → Type 0 = λ z w. Putting x l targets z rs w start b in
      let h : Putting x l targets [] rs (drop i rs) start b = subst (λ z. P z (drop i rs)) (drop_all i targets le) g in
      let k : Putting x l targets [] rs [] start b = subst (λ w. P [] w) (no_registers b.regs (drop i rs) h.types) h in
      (k.puts b (puts_none x b), k.lined.make b (bare (around_none l b)))

-- ---- the parts of a tuple

-- a part is taken out of the tuple, becomes a value of its type, then one of its target's, and is copied
pub part_taken : (k : ℕ) (s u : Sort) (w : RType) (tuple q1 q2 q3 r : ℕ) (b0 b1 b2 b3 b4 : Building) → w ≡ rtype_of u → Attempts (Shows boxed) b0 b1 q1 rtype.Ref (ActsOn boxed tuple (tuple_part k)) → Attempts (Shows s) b1 b2 q2 (rtype_of s) (ActsOn boxed q1 (taken_as s)) → Attempts (Shows u) b2 b3 q3 (rtype_of u) (ActsOn s q2 (coerced u)) → Makes b3 b4 r w (Copies q3) → TakesPart k s u tuple b0 b4 r
part_taken k s u w tuple q1 q2 q3 r b0 b1 b2 b3 b4 is a1 a2 a3 made =
    let taken = one_taken s b0 b1 b2 tuple q1 q2 (tuple_part k) a1 a2 in
    let turned : Attempts (Shows u) b0 b3 q3 (rtype_of u) (ActsOn boxed tuple (part_as k s u)) =
    attempts_then (Shows s) (Shows u) b0 b2 b3 q2 q3 (rtype_of s) (rtype_of u) (ActsOn boxed tuple (λ v z. on_to (tuple_part k v z) (taken_as s))) (ActsOn s q2 (coerced u)) (ActsOn boxed tuple (part_as k s u)) taken a3
    (λ regs z res f. record {
      mid = on_to (tuple_part k f.v z) (taken_as s);
      go = coerced u;
      does = f.does;
      start = record { v = f.v; shows = f.shows; does = refl };
      on = λ now v s1 shows kept. record { v = v; shows = shows; does = refl };
    }) in
    let P : RType → Type 0 = λ z. Attempts (Shows u) b3 b4 r z (ActsOn u q3 give) in
    let copied : Attempts (Shows u) b0 b4 r (rtype_of u) (ActsOn boxed tuple (part_as k s u)) =
    attempts_then (Shows u) (Shows u) b0 b3 b4 q3 r (rtype_of u) (rtype_of u) (ActsOn boxed tuple (part_as k s u)) (ActsOn u q3 give) (ActsOn boxed tuple (part_as k s u)) turned (subst P is (copy_attempts u w b3 b4 q3 r made))
    (λ regs z res f. record {
      mid = part_as k s u f.v z;
      go = give;
      does = f.does ∙ given_on (part_as k s u f.v z);
      start = record { v = f.v; shows = f.shows; does = refl };
      on = λ now v s1 shows kept. record { v = v; shows = shows; does = refl };
    }) in
    let g1 = turned.extends.regs_grow in
    let above = made.above in
    record { above = omega arith; attempts = copied }

-- a value that has what its type says is one of it
kind_is_of : (t : Sort) (v : Value) → HasKind t v → is_of t v ≡ true
kind_is_of tree.Int v k = ap (is_of tree.Int) k.1
kind_is_of tree.I64 v k = ap (is_of tree.I64) k.1 ∙ k.2
kind_is_of tree.Str v k = ap (is_of tree.Str) k.1
kind_is_of tree.Bool v k = ap (is_of tree.Bool) k.1
kind_is_of tree.Nothing v k = ap (is_of tree.Nothing) k
kind_is_of (tree.Optional t) v (inl k) = ap (is_of (tree.Optional t)) k
kind_is_of (tree.Optional t) v (inr k) = or_none t v (kind_is_of t v k)
  where
    or_none : (t : Sort) (v : Value) → is_of t v ≡ true → is_of (tree.Optional t) v ≡ true
    or_none t NoneVal h = refl
    or_none t v h = h
kind_is_of t v k = refl

-- the first of the parts from a number on
first_part : (vs : List Value) (k : ℕ) (s : Sort) (ss : List Sort) → HaveKinds (s ∷ ss) (drop k vs) → (w : Value) × (slice_get vs k ≡ Some w) × (drop k vs ≡ w ∷ drop (suc k) vs) × HasKind s w × HaveKinds ss (drop (suc k) vs)
first_part [] zero s ss h = absurd h
first_part [] (suc k) s ss h = absurd h
first_part (v ∷ vs) zero s ss h = (v, refl, refl, h.0, h.1)
first_part (v ∷ vs) (suc k) s ss h = first_part vs k s ss h

part_is : (k : ℕ) (s u : Sort) (parts : Values) (w : Value) (z : State) → slice_get (listed parts) k ≡ Some w → HasKind s w → coerced u w z ≡ part_as k s u (TupleVal parts) z
part_is k s u parts w z at kind =
    ap (λ b. on_to (needs b (give w) z) (coerced u)) (sym (kind_is_of s w kind))
    ∙ ap (λ o. on_to (on_to (sure o z) (taken_as s)) (coerced u)) (sym at)

pub unpacks_none : (x : Setting) (k tuple : ℕ) (b : Building) → Unpacks x [] [] k tuple b b []
unpacks_none x k tuple b = record {
  extends = extends_refl b;
  types = tt;
  lasting = tt;
  runs = λ p fn h at n parts regs below s is kinds match.
      let R = ArrivesAll [] fn (length b.blocks) (length b.ops) below (length b.regs) regs s [] in
      let T = IsThrown fn h below x (length b.regs) regs in
      ends_of p s.turns _ (means_coerced x [] (drop k (listed parts)) n s) (Gives [] s) R T (ap (λ z. means_coerced x [] z n s) (no_kinds (drop k (listed parts)) kinds))
      (ends_now p [] s _ R T record { now = regs; is = refl; shows = tt; kept = λ j lt. refl; same = refl });
}
  where
    no_kinds : (vs : List Value) → HaveKinds [] vs → vs ≡ []
    no_kinds [] h = refl
    no_kinds (v ∷ vs) h = absurd h

pub unpacks_then : (x : Setting) (target : TypedTarget) (targets : List TypedTarget) (s : Sort) (ss : List Sort) (k tuple : ℕ) (r : Reg) (rs : List Reg) (b c d : Building) → HasRoom x b → HasType b tuple rtype.Ref → TakesPart k s (own_sort x target) tuple b c r.0 → Unpacks x targets ss (suc k) tuple c d rs → Unpacks x (target ∷ targets) (s ∷ ss) k tuple b d (r ∷ rs)
unpacks_then x target targets s ss k tuple r rs b c d room type first more =
    let u = own_sort x target in
    let a = first.attempts in
    let k1 = a.extends.blocks_grow in
    let g1 = a.extends.regs_grow in
    let above = first.above in
    let low = type_below b tuple rtype.Ref type in
    let low_r = type_below c r.0 (rtype_of u) a.type in
    let top0 = room.top in
    record {
      extends = extends_trans b c d a.extends more.extends;
      types = (type_kept c d r.0 (rtype_of u) more.extends a.type, more.types);
      lasting = (omega arith, kept_in x.frame.ret x.frame.locals.top (length b.regs) r.0 room.back above, more.lasting);
      runs = λ p fn h at n parts regs below z is kinds match.
          let R = ArrivesAll (u ∷ own_sorts x targets) fn (length d.blocks) (length d.ops) below (length b.regs) regs z (r ∷ rs) in
          let T = IsThrown fn h below x (length b.regs) regs in
          let one = first_part (listed parts) k s ss kinds in
          let w : Value = one.0 in
          let rest : Does (List Value) = means_coerced x targets (drop (suc k) (listed parts)) n in
          let go : Value → Does (List Value) = λ v y. on_to (rest y) (λ ws. give (v ∷ ws)) in
          ends_of p z.turns _ (means_coerced x (target ∷ targets) (drop k (listed parts)) n z) (on_to (coerced u w z) go) R T
          (ap (λ y. means_coerced x (target ∷ targets) y n z) one.2 ∙ ap (λ y. on_to (coerced y w z) go) (own_is x n target))
          (ends_on p z.turns _ (coerced u w z) (Arrives (Shows u) fn (length c.blocks) (length c.ops) below (length b.regs) regs z r.0) T T go R
          (a.runs p fn h (placed_part p fn b b c d h (le_refl _) more.extends at) x room regs below z match (coerced u w z) record { v = TupleVal parts; shows = (is, tt); does = part_is k s u parts w z one.1 one.3 })
          (λ v s1 e le y.
          let match1 : Matches x y.now s1 = match_kept x b regs y.now z s1 room (λ j lt. y.kept j (omega arith)) y.same match in
          ends_at p s1.turns (running fn (length c.blocks) (length c.ops) y.now below (world None s1)) e (go v s1) R T y.is
          (ends_on p s1.turns _ (rest s1) (ArrivesAll (own_sorts x targets) fn (length d.blocks) (length d.ops) below (length c.regs) y.now s1 rs) (IsThrown fn h below x (length c.regs) y.now) T (λ ws. give (v ∷ ws)) R
          (more.runs p fn h (placed_part p fn b c d d h k1 (extends_refl d) at) n parts y.now below s1 (y.kept tuple low ∙ is) one.4 match1)
          (λ ws s2 f le2 q.
          ends_at p s2.turns (running fn (length d.blocks) (length d.ops) q.now below (world None s2)) f (Gives (v ∷ ws) s2) R T q.is
          (ends_now p (v ∷ ws) s2 _ R T record { now = q.now; is = refl; shows = (subst (Shows u v) (sym (q.kept r.0 low_r)) y.shows, q.shows); kept = λ j lt. q.kept j (omega arith) ∙ y.kept j lt; same = q.same ∙ y.same }))
          (λ v2 s2 f q. thrown_from fn h below x (length b.regs) (length c.regs) regs y.now v2 s2 f g1 (λ j i lt o. y.kept j lt) q)))
          (λ v s1 e q. q));
    }

-- parts that were taken from the left, and those that are left
pub record Unpacking (x : Setting) (all rest : List Target) (parts left : List Ty) (k tuple : ℕ) (start b : Building) (rs : List Reg) : Type 0 where
  pub extends : Extends start b
  pub takes : TargetsTake x.source x.variables None (map typed_target rest) (map sort left)
  pub type : HasType b tuple rtype.Ref
  pub unpacks : (c : Building) (more : List Reg) → Unpacks x (map typed_target rest) (map sort left) k tuple b c more → Unpacks x (map typed_target all) (map sort parts) 0 tuple start c (rs ++ more)

pub unpacking_none : (x : Setting) (targets : List Target) (parts : List Ty) (tuple : ℕ) (b : Building) → TargetsTake x.source x.variables None (map typed_target targets) (map sort parts) → HasType b tuple rtype.Ref → Unpacking x targets targets parts parts 0 tuple b b []
unpacking_none x targets parts tuple b takes type = record { extends = extends_refl b; takes = takes; type = type; unpacks = λ c more h. h }

append_one : {A : Type 0} (xs : List A) (a : A) (more : List A) → (xs ++ a ∷ []) ++ more ≡ xs ++ (a ∷ more)
append_one [] a more = refl
append_one (y ∷ xs) a more = ap (λ z. y ∷ z) (append_one xs a more)

append_none : {A : Type 0} (xs : List A) → xs ++ [] ≡ xs
append_none [] = refl
append_none (y ∷ xs) = ap (λ z. y ∷ z) (append_none xs)

unpacking_next : (x : Setting) (all rest : List Target) (target : Target) (parts left : List Ty) (part : Ty) (k tuple : ℕ) (start b c : Building) (rs : List Reg) (r : Reg) → HasRoom x start → Unpacking x all (target ∷ rest) parts (part ∷ left) k tuple start b rs → TakesPart k (sort part) (own_sort x (typed_target target)) tuple b c r.0 → Unpacking x all rest parts left (suc k) tuple start c (rs ++ r ∷ [])
unpacking_next x all rest target parts left part k tuple start b c rs r room g one = record {
  extends = extends_trans start b c g.extends one.attempts.extends;
  takes = g.takes.1;
  type = type_kept b c tuple rtype.Ref one.attempts.extends g.type;
  unpacks = λ d more h.
      let P : List Reg → Type 0 = λ z. Unpacks x (map typed_target all) (map sort parts) 0 tuple start d z in
      subst P (sym (append_one rs r more)) (g.unpacks d (r ∷ more) (unpacks_then x (typed_target target) (map typed_target rest) (sort part) (map sort left) k tuple r more b c d (room_on x start b g.extends room) g.type one h));
}

takes_there : (x : Setting) (target : TypedTarget) (targets : List TypedTarget) (parts : List Ty) (i : ℕ) → TargetsTake x.source x.variables None (target ∷ targets) (map sort (drop i parts)) → i < length parts
takes_there x target targets [] zero h = absurd h
takes_there x target targets [] (suc i) h = absurd h
takes_there x target targets (t ∷ parts) zero h = omega arith
takes_there x target targets (t ∷ parts) (suc i) h = let k : i < length parts = takes_there x target targets parts i h in omega arith

none_taken : (x : Setting) (parts : List Ty) → TargetsTake x.source x.variables None [] (map sort parts) → parts ≡ []
none_taken x [] h = refl
none_taken x (t ∷ parts) h = absurd h

-- one turn of the loop over them
module _ (x : Setting) (targets : List Target) (parts : List Ty) (i tuple : ℕ) (start b : Building) (rs : List Reg) where
  abbrev Taken : Type 0
  Taken = Unpacking x targets (drop i targets) parts (drop i parts) i tuple start b rs

  module _ (target : Target) (lt : i < length targets) (is : target ≡ get_or targets i target) (g : Taken) where
    rest_of : drop i targets ≡ target ∷ drop (i + 1) targets
    rest_of = drop_more targets i target lt ∙ ap (λ z. z ∷ drop (i + 1) targets) (sym is)

    -- there are as many parts
    pub parts_left : i < length parts
    parts_left =
        let P : List Target → Type 0 = λ z. TargetsTake x.source x.variables None (map typed_target z) (map sort (drop i parts)) in
        takes_there x (typed_target target) (map typed_target (drop (i + 1) targets)) parts i (subst P rest_of g.takes)

    module _ (part : Ty) (here : part ≡ get_or parts i part) where
      at_both : Unpacking x targets (target ∷ drop (i + 1) targets) parts (part ∷ drop (i + 1) parts) i tuple start b rs
      at_both =
          let d : drop i parts ≡ part ∷ drop (i + 1) parts = drop_more parts i part parts_left ∙ ap (λ z. z ∷ drop (i + 1) parts) (sym here) in
          let P : List Target → List Ty → Type 0 = λ z w. Unpacking x targets z parts w i tuple start b rs in
          subst (λ w. P (target ∷ drop (i + 1) targets) w) d (subst (λ z. P z (drop i parts)) rest_of g)

      pub part_takes : TargetTakes x.source x.variables None (typed_target target) (sort part)
      part_takes = at_both.takes.0

      pub unpacking_on : (c : Building) (r : Reg) (new : List Reg) → HasRoom x start → new ≡ rs ++ r ∷ [] → TakesPart i (sort part) (own_sort x (typed_target target)) tuple b c r.0 → Unpacking x targets (drop (i + 1) targets) parts (drop (i + 1) parts) (i + 1) tuple start c new
      unpacking_on c r new room same one =
          let step : i + 1 ≡ suc i = omega arith in
          let P : ℕ → Type 0 = λ z. Unpacking x targets (drop (i + 1) targets) parts (drop (i + 1) parts) z tuple start c (rs ++ r ∷ []) in
          let Q : List Reg → Type 0 = λ z. Unpacking x targets (drop (i + 1) targets) parts (drop (i + 1) parts) (i + 1) tuple start c z in
          subst Q (sym same) (subst P (sym step) (unpacking_next x targets (drop (i + 1) targets) target parts (drop (i + 1) parts) part i tuple start b c rs r room at_both one))

  pub unpacking_over : length targets ≤ i → Taken → Unpacks x (map typed_target targets) (map sort parts) 0 tuple start b rs
  unpacking_over le g =
      let P : List Target → List Ty → Type 0 = λ z w. Unpacking x targets z parts w i tuple start b rs in
      let h : Unpacking x targets [] parts (drop i parts) i tuple start b rs = subst (λ z. P z (drop i parts)) (drop_all i targets le) g in
      let k : Unpacking x targets [] parts [] i tuple start b rs = subst (λ w. P [] w) (none_taken x (drop i parts) h.takes) h in
      let Q : List Reg → Type 0 = λ z. Unpacks x (map typed_target targets) (map sort parts) 0 tuple start b z in
      subst Q (append_none rs) (k.unpacks b [] (unpacks_none x i tuple b))

-- ---- what a value that was looked at says of its parts

kind_of_shape : (classes : List ClassEntry) (store : Store) (t : Sort) (v : Value) → has_shape classes store t v ≡ true → HasKind t v
kind_of_shape classes store tree.Int v h = let k = int_shape classes store v h in (k.0, k.1)
kind_of_shape classes store tree.I64 v h = native_shape classes store v h
kind_of_shape classes store tree.Bool v h = bool_shape classes store v h
kind_of_shape classes store tree.Str v h = text_shape classes store v h
kind_of_shape classes store tree.Nothing v h = none_shape classes store v h
kind_of_shape classes store (tree.Optional t) NoneVal h = inl refl
kind_of_shape classes store (tree.Optional t) v h = inr (kind_of_shape classes store t v h)
kind_of_shape classes store t v h = tt

both_hold : (a b : Bool) → (a && b) ≡ true → (a ≡ true) × (b ≡ true)
both_hold true b h = (refl, h)
both_hold false b h = absurd (cc)

part_kinds : (classes : List ClassEntry) (store : Store) (ss : List Sort) (vs : Values) → have_shapes classes store (sorts_of ss) vs ≡ true → HaveKinds ss (listed vs)
part_kinds classes store [] no_values h = tt
part_kinds classes store [] (value_then v vs) h = absurd (cc)
part_kinds classes store (s ∷ ss) no_values h = absurd (cc)
part_kinds classes store (s ∷ ss) (value_then v vs) h =
    let both = both_hold (has_shape classes store s v) (have_shapes classes store (sorts_of ss) vs) h in
    (kind_of_shape classes store s v both.0, part_kinds classes store ss vs both.1)

-- ---- what is bound

-- the value as a whole
module _ (x : Setting) (target : TypedTarget) (t u : Sort) (takes : TakesValue x.source x.variables None target u) (fit : fits x.source.classes.classes t u ≡ true) where
  abbrev written : ℕ → Value → Does (Unit {0})
  written n v = assign (watch x.source) x.source.classes.classes (calls_in x.source n) x.source.globals x.variables target v

  abbrev type_in : ℕ → Sort
  type_in n = target_sort x.source.classes.classes (calls_in x.source n) x.source.globals x.variables target

  as_each : (n : ℕ) (o : Outcome Value) → on_to o (written n) ≡ on_to o (λ w. means_assigned x (target ∷ []) (w ∷ []) n)
  as_each n (Gives w s) = sym (unit_after (written n w s))
  as_each n (Raises w s) = refl
  as_each n (Stops w s) = refl

  whole_means : (n : ℕ) (v : Value) (s : State) → means_bound x (target ∷ []) t v n s ≡ on_to (coerced u v s) (λ w. means_assigned x (target ∷ []) (w ∷ []) n)
  whole_means n v s =
      let is : type_in n ≡ u = own_is x n target ∙ takes_own x target u takes in
      let one : Does (Unit {0}) = λ z. on_to (coerced (type_in n) v z) (written n) in
      let other : Does (Unit {0}) = unpack (watch x.source) x.source.classes.classes (calls_in x.source n) x.source.globals x.variables (target ∷ []) v in
      ap (λ z. (if fits x.source.classes.classes t z then one else other) s) is
      ∙ ap (λ b. (if b then one else other) s) fit
      ∙ ap (λ z. on_to (coerced z v s) (written n)) is
      ∙ as_each n (coerced u v s)

  pub whole_binds : (r : ℕ) (q : Reg) (b0 b1 b2 : Building) → HasRoom x b0 → Attempts (Shows u) b0 b1 q.0 (rtype_of u) (ActsOn t r (coerced u)) → PutsEach x (target ∷ []) (q ∷ []) b1 b2 → Binds x (target ∷ []) t r b0 b2
  whole_binds r q b0 b1 b2 room a puts =
      let k1 = a.extends.blocks_grow in
      let g1 = a.extends.regs_grow in
      record {
        extends = extends_trans b0 b1 b2 a.extends puts.extends;
        runs = λ p fn h at n calls v regs below s shows shape match le.
            let top = room.top in
            let R : Unit {0} → State → Config → Type 0 = λ w s1 d. Stands fn (length b2.blocks) (length b2.ops) below None x (length b0.regs) regs s1 d in
            let T = IsThrown fn h below x (length b0.regs) regs in
            let go : Value → Does (Unit {0}) = λ w. means_assigned x (target ∷ []) (w ∷ []) n in
            ends_of p s.turns _ (means_bound x (target ∷ []) t v n s) (on_to (coerced u v s) go) R T (whole_means n v s)
            (ends_on p s.turns _ (coerced u v s) (Arrives (Shows u) fn (length b1.blocks) (length b1.ops) below (length b0.regs) regs s q.0) T T go R
            (a.runs p fn h (placed_part p fn b0 b0 b1 b2 h (le_refl _) puts.extends at) x room regs below s match (coerced u v s) record { v = v; shows = shows; does = refl })
            (λ w s1 d le1 y.
            let same : SameIn x.frame (length b0.regs) y.now regs = λ j above lt o. y.kept j lt in
            let shown : Shows (own_sort x target) w (y.now q.0) = subst (λ z. Shows z w (y.now q.0)) (sym (takes_own x target u takes)) y.shows in
            ends_at p s1.turns (running fn (length b1.blocks) (length b1.ops) y.now below (world None s1)) d (go w s1) R T y.is
            (ends_map p s1.turns _ (go w s1) (λ i s2 e. Stands fn (length b2.blocks) (length b2.ops) below None x (length b1.regs) y.now s2 e) R (IsThrown fn h below x (length b1.regs) y.now) T
            (λ i s2 e z. stands_from fn (length b2.blocks) (length b2.ops) below None x (length b0.regs) (length b1.regs) regs y.now s2 e g1 same z)
            (λ i s2 e z. thrown_from fn h below x (length b0.regs) (length b1.regs) regs y.now i s2 e g1 same z)
            (puts.runs p fn h (placed_part p fn b0 b1 b2 b2 h k1 (extends_refl b2) at) n calls (w ∷ []) y.now below s1 (shown, tt) (match_kept x b0 regs y.now s s1 room (λ j lt. y.kept j (omega arith)) y.same match) (omega arith))))
            (λ w s1 d z. z));
      }

-- the parts of a tuple
module _ (x : Setting) (targets : List TypedTarget) (ss : List Sort) (none : NoneFits x.source x.variables None targets (tree.TupleOf (sorts_of ss))) where
  abbrev tuple_sort : Sort
  tuple_sort = tree.TupleOf (sorts_of ss)

  abbrev unpacking : List TypedTarget → ℕ → Value → Does (Unit {0})
  unpacking ts n v = unpack (watch x.source) x.source.classes.classes (calls_in x.source n) x.source.globals x.variables ts v

  parts_means : (ts : List TypedTarget) (n : ℕ) (v : Value) (s : State) → NoneFits x.source x.variables None ts tuple_sort → means_bound x ts tuple_sort v n s ≡ unpacking ts n v s
  parts_means [] n v s h = refl
  parts_means (target ∷ []) n v s h =
      let typed : Sort = target_sort x.source.classes.classes (calls_in x.source n) x.source.globals x.variables target in
      let one : Does (Unit {0}) = λ z. on_to (coerced typed v z) (assign (watch x.source) x.source.classes.classes (calls_in x.source n) x.source.globals x.variables target) in
      ap (λ z. (if fits x.source.classes.classes tuple_sort z then one else unpacking (target ∷ []) n v) s) (own_is x n target ∙ takes_own x target h.0 h.1)
      ∙ ap (λ b. (if b then one else unpacking (target ∷ []) n v) s) h.2
  parts_means (target ∷ other ∷ ts) n v s h = refl

  pub parts_bind : (r : ℕ) (rs : List Reg) (b0 b1 b2 : Building) → HasRoom x b0 → Unpacks x targets ss 0 r b0 b1 rs → PutsEach x targets rs b1 b2 → Binds x targets tuple_sort r b0 b2
  parts_bind r rs b0 b1 b2 room a puts =
      let k1 = a.extends.blocks_grow in
      let g1 = a.extends.regs_grow in
      record {
        extends = extends_trans b0 b1 b2 a.extends puts.extends;
        runs = λ p fn h at n calls v regs below s shows shape match le.
            let top = room.top in
            let R : Unit {0} → State → Config → Type 0 = λ w s1 d. Stands fn (length b2.blocks) (length b2.ops) below None x (length b0.regs) regs s1 d in
            let T = IsThrown fn h below x (length b0.regs) regs in
            let tuple = tuple_shape x.source.classes.classes s.store (sorts_of ss) v shape in
            let parts : Values = tuple.0 in
            let go : List Value → Does (Unit {0}) = λ ws. means_assigned x targets ws n in
            ends_of p s.turns _ (means_bound x targets tuple_sort v n s) (on_to (means_coerced x targets (listed parts) n s) go) R T (ap (λ z. means_bound x targets tuple_sort z n s) tuple.1 ∙ parts_means targets n (TupleVal parts) s none)
            (ends_on p s.turns _ (means_coerced x targets (listed parts) n s) (ArrivesAll (own_sorts x targets) fn (length b1.blocks) (length b1.ops) below (length b0.regs) regs s rs) T T go R
            (a.runs p fn h (placed_part p fn b0 b0 b1 b2 h (le_refl _) puts.extends at) n parts regs below s (shows.0 ∙ ap Holds tuple.1) (part_kinds x.source.classes.classes s.store ss parts tuple.2) match)
            (λ ws s1 d le1 y.
            let same : SameIn x.frame (length b0.regs) y.now regs = λ j above lt o. y.kept j lt in
            ends_at p s1.turns (running fn (length b1.blocks) (length b1.ops) y.now below (world None s1)) d (go ws s1) R T y.is
            (ends_map p s1.turns _ (go ws s1) (λ i s2 e. Stands fn (length b2.blocks) (length b2.ops) below None x (length b1.regs) y.now s2 e) R (IsThrown fn h below x (length b1.regs) y.now) T
            (λ i s2 e z. stands_from fn (length b2.blocks) (length b2.ops) below None x (length b0.regs) (length b1.regs) regs y.now s2 e g1 same z)
            (λ i s2 e z. thrown_from fn h below x (length b0.regs) (length b1.regs) regs y.now i s2 e g1 same z)
            (puts.runs p fn h (placed_part p fn b0 b1 b2 b2 h k1 (extends_refl b2) at) n calls ws y.now below s1 y.shows (match_kept x b0 regs y.now s s1 room (λ j lt. y.kept j (omega arith)) y.same match) (omega arith))))
            (λ w s1 d z. z));
      }

-- ---- assignment

pub assigned_works : (x : Setting) (targets : List TypedTarget) (e : TypedExpr) (b0 b1 b2 : Building) (r : ℕ) → HasRoom x b0 → Emits x e b0 b1 r → Binds x targets (type_of e) r b1 b2 → (gives : Option Sort) → Works x gives (means_assignment x targets e) b0 b2 []
assigned_works x targets e b0 b1 b2 r room cx binds gives =
    let t = type_of e in
    let k1 = cx.extends.blocks_grow in
    let g1 = cx.extends.regs_grow in
    record {
      extends = extends_trans b0 b1 b2 cx.extends binds.extends;
      opens = tt;
      runs = λ p fn h to at jumps n calls regs below s match le.
          let R = Flows p gives fn (length b2.blocks) (length b2.ops) to [] below x (length b0.regs) regs in
          let T = IsThrown fn h below x (length b0.regs) regs in
          let go : Value → Does Flow = λ v z. on_to (means_bound x targets t v n z) (λ u. give Goes) in
          ends_of p s.turns _ (means_assignment x targets e n s) (on_to (means x e n s) (seen x t go)) R T (value_seen x e n s go)
          (computes_then p fn h below x n calls (Shows t) (rtype_of t) (means x e) b0 b1 r regs s (seen x t go) R (length b0.regs) regs cx (placed_part p fn b0 b0 b1 b2 h (le_refl _) binds.extends at) room (le_refl _) (λ j a z o. refl) match le
          (λ now v s1 le1 shows kept same1 match1.
          let same : SameIn x.frame (length b0.regs) now regs = λ j above lt o. kept j lt in
          ends_needed p s1.turns _ (has_shape x.source.classes.classes s1.store t v) (go v) s1 R T
          (λ shape.
          ends_on p s1.turns _ (means_bound x targets t v n s1) (λ u s2 d. Stands fn (length b2.blocks) (length b2.ops) below None x (length b1.regs) now s2 d) (IsThrown fn h below x (length b1.regs) now) T (λ u. give Goes) R
          (binds.runs p fn h (placed_part p fn b0 b1 b2 b2 h k1 (extends_refl b2) at) n calls v now below s1 shows shape match1 le1)
          (λ u s2 d le2 z. ends_now p Goes s2 d R T (stands_from fn (length b2.blocks) (length b2.ops) below None x (length b0.regs) (length b1.regs) regs now s2 d g1 same z))
          (λ w s2 d z. thrown_from fn h below x (length b0.regs) (length b1.regs) regs now w s2 d g1 same z))));
    }

-- ---- what targets suit

-- the row of one target, by whether the value fits it
pub whole_decided : (x : Setting) (targets : List TypedTarget) (target : TypedTarget) (s own : Sort) (b : Bool) → targets ≡ target ∷ [] → TakesValue x.source x.variables None target own → b ≡ fits x.source.classes.classes s own → TargetsSuit x.source x.variables None targets s → (b ≡ true → OneSuits x.source x.variables None targets s) × (b ≡ false → PartsSuit x.source x.variables None targets s)
whole_decided x targets target s own b is takes fit (inl h) =
    let P : List TypedTarget → Type 0 = λ z. OneSuits x.source x.variables None z s in
    let fitting : fits x.source.classes.classes s own ≡ true = (takes_fits x target s own (subst P is h) takes).0 in
    (λ e. h, λ e. absurd (let f : true ≡ false = sym (fit ∙ fitting) ∙ e in cc))
whole_decided x targets target s own b is takes fit (inr h) =
    let P : List TypedTarget → Type 0 = λ z. NoneFits x.source x.variables None z s in
    let none : NoneFits x.source x.variables None (target ∷ []) s = subst P is h.2 in
    let same : none.0 ≡ own = one_own x target none.0 own none.1 takes in
    let misfit : fits x.source.classes.classes s own ≡ false = ap (fits x.source.classes.classes s) (sym same) ∙ none.2 in
    (λ e. absurd (let f : true ≡ false = sym e ∙ (fit ∙ misfit) in cc), λ e. h)

-- the one target of a row takes some value
pub whole_takes : (x : Setting) (targets : List TypedTarget) (target : TypedTarget) (s : Sort) → targets ≡ target ∷ [] → TargetsSuit x.source x.variables None targets s → (u : Sort) × TakesValue x.source x.variables None target u
whole_takes x targets target s is (inl h) =
    let P : List TypedTarget → Type 0 = λ z. OneSuits x.source x.variables None z s in
    let k : OneSuits x.source x.variables None (target ∷ []) s = subst P is h in
    (k.0, k.1)
whole_takes x targets target s is (inr h) =
    let P : List TypedTarget → Type 0 = λ z. NoneFits x.source x.variables None z s in
    let k : NoneFits x.source x.variables None (target ∷ []) s = subst P is h.2 in
    (k.0, k.1)

-- a row of another length is never taken as a whole
pub parts_only : (x : Setting) (targets : List TypedTarget) (s : Sort) → (length targets ≡ 1 → ⊥) → TargetsSuit x.source x.variables None targets s → PartsSuit x.source x.variables None targets s
parts_only x [] s other (inl h) = absurd h
parts_only x (target ∷ []) s other (inl h) = absurd (other refl)
parts_only x (target ∷ w ∷ targets) s other (inl h) = absurd h
parts_only x targets s other (inr h) = h

pub single_row : (targets : List Target) (target : Target) → target ≡ get_or targets 0 target → 1 ≤ length targets → length targets < 2 → map typed_target targets ≡ typed_target target ∷ []
single_row [] target is some few = absurd (omega arith)
single_row (u ∷ []) target is some few = ap (λ z. typed_target z ∷ []) (sym is)
single_row (u ∷ w ∷ targets) target is some few = absurd (omega arith)

pub row_filled : (x : Setting) (targets : List Target) (s : Sort) → OneSuits x.source x.variables None (map typed_target targets) s → 0 < length targets
row_filled x [] s h = absurd h
row_filled x (u ∷ targets) s h = omega arith

-- the target that stands alone
pub one_target : (x : Setting) (targets : List Target) (target : Target) (s : Sort) → target ≡ get_or targets 0 target → OneSuits x.source x.variables None (map typed_target targets) s → (map typed_target targets ≡ typed_target target ∷ []) × TargetTakes x.source x.variables None (typed_target target) s
one_target x [] target s is h = absurd h
one_target x (u ∷ []) target s is h =
    let P : Target → Type 0 = λ z. TargetTakes x.source x.variables None (typed_target z) s in
    (ap (λ z. typed_target z ∷ []) (sym is), subst P (sym is) h)
one_target x (u ∷ w ∷ targets) target s is h = absurd h

-- the parts of a tuple type
listed_back : (ss : List Sort) → listed_sorts (sorts_of ss) ≡ ss
listed_back [] = refl
listed_back (s ∷ ss) = ap (λ z. s ∷ z) (listed_back ss)

abbrev parts_in : Sort → List Sort
parts_in (tree.TupleOf ss) = listed_sorts ss
parts_in t = []

pub same_parts : (ss us : List Sort) → tree.TupleOf (sorts_of ss) ≡ tree.TupleOf (sorts_of us) → ss ≡ us
same_parts ss us e = sym (listed_back ss) ∙ ap parts_in e ∙ listed_back us

-- ---- a target, by its kind

module _ (m : TypedModule) (vs : List Variable) where
  pub named : (target : Target) (t : Sort) → ((a i : TExpr) → target ≡ At a i → ⊥) → TakesValue m vs None (typed_target target) t → IsVariable m vs None (typed_target target) t
  named (Local k) t none takes = takes
  named (Global k) t none takes = takes
  named (Attr a name) t none takes = takes
  named (At a i) t none takes = absurd (none a i refl)

  pub name_taken : (target : Target) → ((a i : TExpr) → target ≡ At a i → ⊥) → (u : Sort) × TakesValue m vs None (typed_target target) u → (u : Sort) × IsVariable m vs None (typed_target target) u
  name_taken target none h = (h.0, named target h.0 none h.1)

  pub taken_name : (target : Target) (t : Sort) → IsVariable m vs None (typed_target target) t → TakesValue m vs None (typed_target target) t
  taken_name (Local k) t v = v
  taken_name (Global k) t v = v
  taken_name (Attr a name) t v = absurd v
  taken_name (At a i) t v = absurd v

  pub item_taken : (target : Target) (a i : TExpr) → target ≡ At a i → (u : Sort) × TakesValue m vs None (typed_target target) u → (u : Sort) × (type_of (typed_expr a) ≡ tree.ListOf u)
  item_taken target a i is h =
      let P : Target → Type 0 = λ z. (u : Sort) × TakesValue m vs None (typed_target z) u in
      let k : (u : Sort) × ItemSuits m vs None (typed_expr a) (typed_expr i) u = subst P is h in
      (k.0, k.1.0)

  pub taken_item : (target : Target) (a i : TExpr) (w : Sort) → target ≡ At a i → (u : Sort) × TakesValue m vs None (typed_target target) u → type_of (typed_expr a) ≡ tree.ListOf w → TakesValue m vs None (typed_target target) w
  taken_item target a i w is h made =
      let P : Target → Type 0 = λ z. (u : Sort) × TakesValue m vs None (typed_target z) u in
      let Q : Target → Type 0 = λ z. TakesValue m vs None (typed_target z) w in
      let k : (u : Sort) × ItemSuits m vs None (typed_expr a) (typed_expr i) u = subst P is h in
      let same : k.0 ≡ w = ap item_sort (sym k.1.0 ∙ made) in
      subst Q (sym is) (made, k.1.1, k.1.2, k.1.3)

module _ (x : Setting) (target : Target) (b c : Building) where
  pub variable_target : (r : ℕ) → ((a i : TExpr) → target ≡ At a i → ⊥) → (u : Sort) × TakesValue x.source x.variables None (typed_target target) u × HasType b r (rtype_of u) → (u : Sort) × IsVariable x.source x.variables None (typed_target target) u × HasType b r (rtype_of u)
  variable_target r none h = (h.0, named x.source x.variables target h.0 none h.1, h.2)

  pub item_target : (a i : TExpr) (r : ℕ) → target ≡ At a i → (u : Sort) × TakesValue x.source x.variables None (typed_target target) u × HasType b r (rtype_of u) → (u : Sort) × ItemSuits x.source x.variables None (typed_expr a) (typed_expr i) u × HasType b r (rtype_of u)
  item_target a i r is h =
      let P : Target → Type 0 = λ z. (u : Sort) × TakesValue x.source x.variables None (typed_target z) u × HasType b r (rtype_of u) in
      subst P is h

  pub put_item : (a i : TExpr) (r : Reg) → target ≡ At a i → PutsEach x (ItemTarget (typed_expr a) (typed_expr i) ∷ []) (r ∷ []) b c → PutsEach x (typed_target target ∷ []) (r ∷ []) b c
  put_item a i r is h = let P : Target → Type 0 = λ z. PutsEach x (typed_target z ∷ []) (r ∷ []) b c in subst P (sym is) h

  pub item_pieces : (l : ℕ) (a i : TExpr) → target ≡ At a i → LinedPieces x l (value (typed_expr a) ∷ value (typed_expr i) ∷ []) b c → LinedPieces x l (target_pieces (typed_target target)) b c
  item_pieces l a i is h = let P : Target → Type 0 = λ z. LinedPieces x l (target_pieces (typed_target z)) b c in subst P (sym is) h

pub name_pieces : (x : Setting) (l : ℕ) (target : TypedTarget) (u : Sort) (b c : Building) → IsVariable x.source x.variables None target u → Around l b c → LinedPieces x l (target_pieces target) b c
name_pieces x l target u b c v p = let P : List Piece → Type 0 = λ z. LinedPieces x l z b c in subst P (sym (no_pieces x.source x.variables target u v)) (bare p)

pub one_pieces : (x : Setting) (l : ℕ) (target : TypedTarget) (b c : Building) → LinedPieces x l (target_pieces target) b c → LinedPieces x l (all_target_pieces (target ∷ [])) b c
one_pieces x l target b c h = pieces_join h (bare (around_none l c))
