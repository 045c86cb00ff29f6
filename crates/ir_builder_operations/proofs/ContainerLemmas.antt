-- What the code does with lists and tuples is what the source does, unless it is stuck.
use Rattle.ir_builder_operations.proofs.Common.{◌&&◌, ◌++◌, ◌+◌, ◌<◌, ◌>>◌, ◌∙◌, ◌∷◌, ◌≡◌, ◌≤◌, ◌⊎◌, ActsAs, ActsOn, ActsOnAll, ActsOnTwo, Adds, Answers, AreArguments, Arrives, Attempts, Building, Declared, DictObj, Does, Given, Gives, Has, HasKind, HasType, HaveKinds, HaveTypes, Holds, InstObj, IsStuck, IsThrown, Leads, List, ListObj, Lit, NeverFails, None, NoneVal, ObjVal, Object, Option, Outcome, PArg, Performs, Prim, Primitive, Program, Pushes, RType, Reg, Regs, ShowAll, Showing, Shows, Some, Sort, State, TupleVal, Value, Var, World, Written, Wrong, [], acts_step, acts_typed, all_given, all_perform, ap, arith, as_list, boxed, cond, effect, ends_from, ends_lead, ends_of, extends_refl, extends_trans, failing, give, has_less, inl, inr, le_refl, leads_as, leads_refl, leads_step, leads_trans, leaves_all, length, listed, literal_makes, make, makes_arrives, map, nat_lt, of_none, option_map, performs, placed_part, pos, prim_ends, pushes_has, read_is, refl, rtype_of, running, slice_get, slice_set, subst, suc, sure, sym, true, tupled, type_has, type_kept, type_of_reg, unless_stuck, world, zero, ℕ, ℤ, of_two, taken_as, list_item}
use Rattle.std.specs.Prelude.{replicate}
use Rattle.std.proofs.Common.{append-nil, append_assoc, get_or, lt-ltb}
use Rattle.std.proofs.lemmas.List.{set-set}
use Rattle.c_core.specs.declared.code.Kind.TheVariants as kind
use Rattle.c_core.specs.Primitives.{Parameter, MaySteal, Is, Anything, may_end}
use Rattle.c_core.specs.declared.primitive.Primitive.TheVariants as prim
use Rattle.c_core.specs.declared.primitive.ListPrim.TheVariants as list
use Rattle.c_core.specs.declared.primitive.TuplePrim.TheVariants as tuple
use Rattle.py_typed.specs.Sorts as sort
use Rattle.source_meaning.specs.State.{put}
use Rattle.source_meaning.specs.Operations.{tuple_part, with_list, append_item}
use Rattle.ir_core.specs.Effects.{Argument, Gives as Giving, Acts as Acting, of_list, of_value, of_values, values_in, packed}
use Rattle.ir_core.specs.Meaning.{Waiting, read, arguments, registers_of}
use Rattle.ir_core.specs.declared.code.Lit.TheVariants.{PyNone}
use Rattle.ir_core.specs.declared.code.PArg.TheVariants.{Number}
use Rattle.ir_core.specs.declared.code.RType.TheVariants as rtype
use Rattle.ir_builder_frames.specs.Building.{Extends}
use Rattle.ir_builder_frames.specs.Kinds.{Answers as AnswersTo}
use Rattle.ir_builder_operations.specs.Boxes.{objects, appends}
use Rattle.ir_builder_operations.specs.Taking.{item_as}
use Rattle.ir_builder_operations.proofs.PartLemmas.{show_kept, as_two}
use Rattle.ir_builder_operations.proofs.StoreLemmas.{get_last, set_last, get_set, set_same}
use Rattle.ir_builder_operations.proofs.ThenLemmas.{attempts_then}

-- ---- primitives on a register and a written number

-- arguments that were put behind one another
pub two_put : {A : Type 0} (none one two : List A) (x y : A) → none ≡ [] → one ≡ none ++ x ∷ [] → two ≡ one ++ y ∷ [] → two ≡ x ∷ y ∷ []
two_put none one two x y e f g = g ∙ ap (λ z. z ++ y ∷ []) (f ∙ ap (λ z. z ++ x ∷ []) e)

one_given : (declared : Declared) (regs : Regs) (x : Reg) (n : ℤ) (v : Value) → read declared regs x ≡ Some v → arguments declared regs (Var x ∷ Number n ∷ []) ≡ Some (Given v ∷ Written (Number n) ∷ [])
one_given declared regs x n v e = rw e refl

-- one does what the source does with the register's value
pub numbered_attempts : {line : ℕ} (t : Sort) (K : Showing) (go : Value → Does Value) (b c : Building) (r : ℕ) (u : RType) (x : Reg) (n : ℤ) (q : Primitive) → HasType b x.0 (rtype_of t) → Adds b c r u (Prim (Some record { 0 = r }) q (Var x ∷ Number n ∷ [])) line → ((v : Value) → HasKind t v → Performs K q (Given v ∷ Written (Number n) ∷ []) (go v)) → Attempts K b c r u (ActsOn t x.0 go)
numbered_attempts t K go b c r u x n q type a by = record {
  extends = a.extends;
  type = a.type;
  runs = λ p fn h placed y room regs below s match res on.
      let values : List Argument = Given on.v ∷ Written (Number n) ∷ [] in
      let P : Outcome Value → Type 0 = λ z. IsStuck z ⊎ ActsAs K q (effect p q values (world None s)) s z in
      unless_stuck p s.turns _ res _ _ (λ acts.
      prim_ends K b c r u q (Var x ∷ Number n ∷ []) a p fn h placed y room regs below s match res record {
        values = values;
        given = one_given (registers_of p fn) regs x n on.v (read_is (registers_of p fn) regs x.0 (rtype_of t) on.v (type_has p fn b x.0 (rtype_of t) (has_less p fn b c a.extends placed.has) type) on.shows.0);
        acts = acts_typed K q _ s res (registers_of p fn) (Some record { 0 = r }) (Var x ∷ Number n ∷ []) acts;
      })
      (subst P (sym on.does) (by on.v on.shows.1 p s));
}

-- ---- the part of a tuple

part_there : (s : State) (o : Option Value) → IsStuck (sure o s) ⊎ ActsAs (Shows boxed) (prim.Tuple tuple.GetItem) (of_value (λ v. Giving v (world None s)) o) s (sure o s)
part_there s None = inl (s, refl)
part_there s (Some v) = inr record { answer = Answers v; behind = s; leaves = leaves_all s; allowed = tt; effects = refl; shown = (refl, tt); does = refl }

part_performs : (n : ℕ) (v : Value) → Performs (Shows boxed) (prim.Tuple tuple.GetItem) (Given v ∷ Written (Number (pos n)) ∷ []) (tuple_part n v)
part_performs n (TupleVal parts) = λ p s. part_there s (slice_get (listed parts) n)
part_performs n v = λ p s. inl (s, refl)

pub part_attempts : {line : ℕ} (b c : Building) (r : ℕ) (x : Reg) (n : ℕ) (args : List PArg) → args ≡ Var x ∷ Number (pos n) ∷ [] → HasType b x.0 rtype.Ref → Adds b c r rtype.Ref (Prim (Some record { 0 = r }) (prim.Tuple tuple.GetItem) args) line → Attempts (Shows boxed) b c r rtype.Ref (ActsOn boxed x.0 (tuple_part n))
part_attempts {line} b c r x n args is type a =
    let P : List PArg → Type 0 = λ z. Adds b c r rtype.Ref (Prim (Some record { 0 = r }) (prim.Tuple tuple.GetItem) z) line in
    numbered_attempts boxed (Shows boxed) (tuple_part n) b c r rtype.Ref x (pos n) (prim.Tuple tuple.GetItem) type (subst P is a) (λ v k. part_performs n v)

-- ---- tuples

all_values : (vs : List Value) → values_in (all_given vs) ≡ Some vs
all_values [] = refl
all_values (v ∷ vs) = ap (option_map (λ (us : List Value). v ∷ us)) (all_values vs)

packed_is : (vs : List Value) (w : World) → 1 ≤ length vs → length vs ≤ 16 → packed vs w ≡ Giving (TupleVal (tupled vs)) w
packed_is vs w some few =
    ap (λ b. cond (b && nat_lt (length vs) 17) (Giving (TupleVal (tupled vs)) w) Wrong) (lt-ltb 0 (length vs) some)
    ∙ ap (λ b. cond b (Giving (TupleVal (tupled vs)) w) Wrong) (lt-ltb (length vs) 17 (omega (arith, few)))

pack_performs : (vs : List Value) → 1 ≤ length vs → length vs ≤ 16 → Performs (Shows boxed) (prim.Tuple tuple.Pack) (all_given vs) (give (TupleVal (tupled vs)))
pack_performs vs some few =
    performs (Shows boxed) (prim.Tuple tuple.Pack) (all_given vs) _ (Answers (TupleVal (tupled vs))) tt (λ p w. ap (of_values (λ us. packed us w)) (all_values vs) ∙ packed_is vs w some few) (refl, tt) (λ s. refl)

as_many : (rs : List Reg) (vs : List Value) → HaveKinds (objects rs) vs → length vs ≡ length rs
as_many [] [] h = refl
as_many [] (v ∷ vs) h = absurd h
as_many (r ∷ rs) [] h = absurd h
as_many (r ∷ rs) (v ∷ vs) h = ap suc (as_many rs vs h.1)

pub tuple_attempts : {line : ℕ} (b c : Building) (r : ℕ) (rs : List Reg) (args : List PArg) → args ≡ map Var rs → 1 ≤ length rs → length rs ≤ 16 → HaveTypes b.regs (objects rs) rs → Adds b c r rtype.Ref (Prim (Some record { 0 = r }) (prim.Tuple tuple.Pack) args) line → Attempts (Shows boxed) b c r rtype.Ref (ActsOnAll (objects rs) rs (λ vs. give (TupleVal (tupled vs))))
tuple_attempts {line} b c r rs args is some few types a =
    let P : List PArg → Type 0 = λ z. Adds b c r rtype.Ref (Prim (Some record { 0 = r }) (prim.Tuple tuple.Pack) z) line in
    all_perform (objects rs) (Shows boxed) (λ vs. give (TupleVal (tupled vs))) b c r rtype.Ref rs (prim.Tuple tuple.Pack) types (subst P is a)
    (λ vs k. let n = as_many rs vs k in pack_performs vs (omega (arith, n, some)) (omega (arith, n, few)))

-- behind the first parameter come others, and a part for each of the first of them
abbrev rest : ℕ → List Parameter
rest n = replicate n (MaySteal (Is kind.Object) Anything)

rest_ends : (n : ℕ) → may_end (rest n) ≡ true
rest_ends zero = refl
rest_ends (suc n) = rest_ends n

rest_taken : (regs : Declared) (n : ℕ) (rs : List Reg) → length rs ≤ n → HaveTypes regs (objects rs) rs → AreArguments regs (rest n) (map Var rs)
rest_taken regs zero [] few h = tt
rest_taken regs zero (r ∷ rs) few h = absurd (omega (arith, few))
rest_taken regs (suc n) [] few h = rest_ends n
rest_taken regs (suc n) (r ∷ rs) few h = (record { type = rtype.Ref; is = h.0; same = refl }, rest_taken regs n rs (omega (arith, few)) h.1)

pub tuple_answers : (regs : Declared) (rs : List Reg) (args : List PArg) → args ≡ map Var rs → 1 ≤ length rs → length rs ≤ 16 → HaveTypes regs (objects rs) rs → AnswersTo rtype.Ref regs (prim.Tuple tuple.Pack) args
tuple_answers regs [] args is some few h = absurd (omega (arith, some))
tuple_answers regs (r ∷ rs) args is some few h =
    subst (AnswersTo rtype.Ref regs (prim.Tuple tuple.Pack)) (sym is) (refl, (record { type = rtype.Ref; is = h.0; same = refl }, rest_taken regs 15 rs (omega (arith, few)) h.1))

-- ---- an operation without a result, on objects in registers

objects_given : (p : Program) (fn : ℕ) (b : Building) → Has p fn b → (rs : List Reg) (vs : List Value) (regs : Regs) → HaveTypes b.regs (objects rs) rs → ShowAll (objects rs) vs regs rs → arguments (registers_of p fn) regs (map Var rs) ≡ Some (all_given vs)
objects_given p fn b has [] [] regs types shows = refl
objects_given p fn b has [] (v ∷ vs) regs types shows = absurd shows
objects_given p fn b has (r ∷ rs) [] regs types shows = absurd shows
objects_given p fn b has (r ∷ rs) (v ∷ vs) regs types shows =
    let e = read_is (registers_of p fn) regs r.0 rtype.Ref v (type_has p fn b r.0 rtype.Ref has types.0) shows.0.0 in
    let f = objects_given p fn b has rs vs regs types.1 shows.1 in
    rw (e, f) refl

pub push_leads : {line : ℕ} (p : Program) (fn : ℕ) (below : List Waiting) (b c : Building) (q : Primitive) (rs : List Reg) (vs : List Value) (regs : Regs) (s : State) (w : World) → Pushes b c (Prim None q (map Var rs)) line → Has p fn c → HaveTypes b.regs (objects rs) rs → ShowAll (objects rs) vs regs rs → failing q ≡ NeverFails → effect p q (all_given vs) (world None s) ≡ Acting w → Leads p (running fn (length b.blocks) (length b.ops) regs below (world None s)) (running fn (length c.blocks) (length c.ops) regs below w)
push_leads p fn below b c q rs vs regs s w a has types shows never does =
    let is : running fn (length b.blocks) (length b.ops + 1) regs below w ≡ running fn (length c.blocks) (length c.ops) regs below w = rw (a.blocks, a.ops) refl in
    let given = objects_given p fn b (has_less p fn b c a.extends has) rs vs regs types shows in
    leads_step p _ _ (acts_step p fn (length b.blocks) (length b.ops) regs below s q (map Var rs) (all_given vs) w (pushes_has p fn b c _ a has) given never does ∙ is)

-- ---- lists

-- a value is a list with these items
pub record IsList (l : Value) (s : State) : Type 0 where
  pub place : ℕ
  pub items : List Value
  pub is : l ≡ ObjVal place
  pub there : slice_get s.store place ≡ Some (ListObj items)

list_found : (f : ℕ → List Value → Does Value) (k : ℕ) (s : State) (o : Option Object) → slice_get s.store k ≡ o → IsStuck (as_list f k o s) ⊎ IsList (ObjVal k) s
list_found f k s (Some (ListObj items)) e = inr record { place = k; items = items; is = refl; there = e }
list_found f k s (Some (DictObj pairs)) e = inl (s, refl)
list_found f k s (Some (InstObj c vs)) e = inl (s, refl)
list_found f k s None e = inl (s, refl)

-- with no list the source is stuck
pub list_or_stuck : (f : ℕ → List Value → Does Value) (l : Value) (s : State) → IsStuck (with_list l f s) ⊎ IsList l s
list_or_stuck f (ObjVal k) s = list_found f k s (slice_get s.store k) refl
list_or_stuck f l s = inl (s, refl)

pub with_list_is : (f : ℕ → List Value → Does Value) (l : Value) (s : State) (h : IsList l s) → with_list l f s ≡ f h.place h.items s
with_list_is f l s h = ap (λ v. with_list v f s) h.is ∙ ap (λ o. as_list f h.place o s) h.there

-- another object at a place
abbrev pub behind_put : ℕ → Object → State → State
behind_put k o s = record s { store = slice_set s.store k o }

-- ---- an object behind the items of a list

pub append_leads : {line : ℕ} (p : Program) (fn : ℕ) (below : List Waiting) (b c : Building) (l r : Reg) (regs : Regs) (s : State) (k : ℕ) (items : List Value) (v : Value) → Pushes b c (appends l r) line → Has p fn c → HasType b l.0 rtype.Ref → HasType b r.0 rtype.Ref → regs l.0 ≡ Holds (ObjVal k) → regs r.0 ≡ Holds v → slice_get s.store k ≡ Some (ListObj items) → Leads p (running fn (length b.blocks) (length b.ops) regs below (world None s)) (running fn (length c.blocks) (length c.ops) regs below (world None (behind_put k (ListObj (items ++ v ∷ [])) s)))
append_leads p fn below b c l r regs s k items v a has type type' is is' there =
    push_leads p fn below b c (prim.List list.Append) (l ∷ r ∷ []) (ObjVal k ∷ v ∷ []) regs s _ a has (type, (type', tt)) ((is, tt), ((is', tt), tt)) refl
    (ap (of_list (λ us. Acting (world None (behind_put k (ListObj (us ++ v ∷ [])) s)))) there)

-- and None behind it
pub append_attempts : {line : ℕ} (b c d : Building) (l r : Reg) (x : ℕ) → HasType b l.0 rtype.Ref → HasType b r.0 rtype.Ref → Pushes b c (appends l r) line → Adds c d x rtype.Ref (Lit record { 0 = x } PyNone) line → Attempts (Shows sort.Nothing) b d x rtype.Ref (ActsOnTwo boxed boxed l.0 r.0 append_item)
append_attempts b c d l r x type type' a m =
    let none = literal_makes c d x rtype.Ref PyNone (Holds NoneVal) m refl in
    let wide = a.extends.regs_grow in
    record {
      extends = extends_trans b c d a.extends m.extends;
      type = m.type;
      runs = λ p fn h placed y room regs below s match res f.
          let start = running fn (length b.blocks) (length b.ops) regs below (world None s) in
          let R = Arrives (Shows sort.Nothing) fn (length d.blocks) (length d.ops) below (length b.regs) regs s x in
          let T = IsThrown fn h below y (length b.regs) regs in
          let go : ℕ → List Value → Does Value = λ k vs. put k (ListObj (vs ++ f.w ∷ [])) >> give NoneVal in
          let P : Outcome Value → Type 0 = λ z. IsStuck z ⊎ IsList f.v s in
          unless_stuck p s.turns start res R T (λ found.
          let u = behind_put found.place (ListObj (found.items ++ f.w ∷ [])) s in
          let gives : res ≡ Gives NoneVal u = f.does ∙ with_list_is go f.v s found in
          let leads = append_leads p fn below b c l r regs s found.place found.items f.w a (has_less p fn c d m.extends placed.has) type type' (f.left.0 ∙ ap Holds found.is) f.right.0 found.there in
          ends_from p s.turns s.turns start _ res R T (le_refl s.turns) leads
          (makes_arrives p fn (Shows sort.Nothing) (λ regs h. h ≡ Holds NoneVal) c d x rtype.Ref below (length b.regs) regs regs s u NoneVal (Holds NoneVal) res T none placed.has wide (λ j lt. refl) refl gives refl (refl, refl)))
          (subst P (sym f.does) (list_or_stuck go f.v s));
    }

-- ---- objects behind one another in a list

-- code that puts the objects in registers behind the items of the list in a register
pub record Fills (l : Reg) (rs : List Reg) (b c : Building) : Type 0 where
  pub extends : Extends b c
  pub runs : (p : Program) (fn : ℕ) → Has p fn c → (regs : Regs) (below : List Waiting) (s : State) (k : ℕ) (items vs : List Value) → regs l.0 ≡ Holds (ObjVal k) → slice_get s.store k ≡ Some (ListObj items) → ShowAll (objects rs) vs regs rs → Leads p (running fn (length b.blocks) (length b.ops) regs below (world None s)) (running fn (length c.blocks) (length c.ops) regs below (world None (behind_put k (ListObj (items ++ vs)) s)))

filled_none : (s : State) (k : ℕ) (items : List Value) → slice_get s.store k ≡ Some (ListObj items) → behind_put k (ListObj (items ++ [])) s ≡ s
filled_none s k items there = ap (λ us. behind_put k (ListObj us) s) (append-nil items) ∙ ap (λ z. record s { store = z }) (set_same s.store k (ListObj items) there)

filled_twice : (s : State) (k : ℕ) (items us vs : List Value) → behind_put k (ListObj ((items ++ us) ++ vs)) (behind_put k (ListObj (items ++ us)) s) ≡ behind_put k (ListObj (items ++ (us ++ vs))) s
filled_twice s k items us vs = ap (λ z. record s { store = z }) (set-set s.store k (ListObj (items ++ us)) (ListObj ((items ++ us) ++ vs)) ∙ ap (λ ws. slice_set s.store k (ListObj ws)) (append_assoc items us vs))

none_shown : (regs : Regs) (vs : List Value) → ShowAll (objects []) vs regs [] → vs ≡ []
none_shown regs [] h = refl
none_shown regs (v ∷ vs) h = absurd h

pub none_filled : (l : Reg) (b : Building) → Fills l [] b b
none_filled l b = record {
  extends = extends_refl b;
  runs = λ p fn has regs below s k items vs holds there shows.
      let P : State → Type 0 = λ z. Leads p (running fn (length b.blocks) (length b.ops) regs below (world None s)) (running fn (length b.blocks) (length b.ops) regs below (world None z)) in
      subst P (sym (ap (λ us. behind_put k (ListObj (items ++ us)) s) (none_shown regs vs shows) ∙ filled_none s k items there)) (leads_refl p _);
}

-- one object more
shown_last : (rs : List Reg) (r : Reg) (vs : List Value) (regs : Regs) → ShowAll (objects (rs ++ r ∷ [])) vs regs (rs ++ r ∷ []) → (us : List Value) × (v : Value) × (vs ≡ us ++ v ∷ []) × ShowAll (objects rs) us regs rs × (regs r.0 ≡ Holds v)
shown_last [] r [] regs h = absurd h
shown_last [] r (v ∷ []) regs h = ([], v, refl, tt, h.0.0)
shown_last [] r (v ∷ w ∷ vs) regs h = absurd h.1
shown_last (q ∷ rs) r [] regs h = absurd h
shown_last (q ∷ rs) r (v ∷ vs) regs h = let n = shown_last rs r vs regs h.1 in (v ∷ n.0, n.1, ap (λ us. v ∷ us) n.2, (h.0, n.3), n.4)

pub next_filled : {line : ℕ} (l r : Reg) (rs qs : List Reg) (b c d : Building) → qs ≡ rs ++ r ∷ [] → HasType c l.0 rtype.Ref → HasType c r.0 rtype.Ref → Fills l rs b c → Pushes c d (appends l r) line → Fills l qs b d
next_filled l r rs qs b c d is type type' f a =
    let P : List Reg → Type 0 = λ z. Fills l z b d in
    subst P (sym is) record {
      extends = extends_trans b c d f.extends a.extends;
      runs = λ p fn has regs below s k items vs holds there shows.
          let h = shown_last rs r vs regs shows in
          let first = f.runs p fn (has_less p fn c d a.extends has) regs below s k items h.0 holds there h.3 in
          let second = append_leads p fn below c d l r regs (behind_put k (ListObj (items ++ h.0)) s) k (items ++ h.0) h.1 a has type type' holds h.4 (get_set s.store k _ _ there) in
          let P : State → Type 0 = λ z. Leads p (running fn (length b.blocks) (length b.ops) regs below (world None s)) (running fn (length d.blocks) (length d.ops) regs below (world None z)) in
          subst P (filled_twice s k items h.0 (h.1 ∷ []) ∙ ap (λ us. behind_put k (ListObj (items ++ us)) s) (sym h.2)) (leads_trans p _ _ _ first second);
    }

pub object_type : (declared : Declared) (rs : List Reg) (i : ℕ) (r : Reg) → HaveTypes declared (objects rs) rs → i < length rs → type_of_reg declared (get_or rs i r) ≡ Some rtype.Ref
object_type declared [] i r h lt = absurd (omega (arith, lt))
object_type declared (q ∷ rs) zero r h lt = h.0
object_type declared (q ∷ rs) (suc i) r h lt = object_type declared rs i r h.1 (omega (arith, lt))

-- a new list with the objects in registers
pub list_attempts : (b c d : Building) (l : Reg) (rs : List Reg) → HaveTypes b.regs (objects rs) rs → Attempts (Shows boxed) b c l.0 rtype.Ref (ActsOnAll [] [] (of_none (make (ListObj [])))) → Fills l rs c d → Attempts (Shows boxed) b d l.0 rtype.Ref (ActsOnAll (objects rs) rs (λ vs. make (ListObj vs)))
list_attempts b c d l rs types a f = record {
  extends = extends_trans b c d a.extends f.extends;
  type = type_kept c d l.0 rtype.Ref f.extends a.type;
  runs = λ p fn h placed y room regs below s match res on.
      let R = Arrives (Shows boxed) fn (length d.blocks) (length d.ops) below (length b.regs) regs s l.0 in
      let T = IsThrown fn h below y (length b.regs) regs in
      let start = running fn (length b.blocks) (length b.ops) regs below (world None s) in
      let at1 = placed_part p fn b b c d h (le_refl _) f.extends placed in
      let n : ℕ = length s.store in
      let s1 : State = record s { store = s.store ++ ListObj [] ∷ [] } in
      let s2 : State = record s { store = s.store ++ ListObj on.values ∷ [] } in
      let empty = a.runs p fn h at1 y room regs below s match (Gives (ObjVal n) s1) record { values = []; shows = tt; does = refl } in
      let z = empty.3 in
      let first : Leads p start (running fn (length c.blocks) (length c.ops) z.now below (world None s1)) = leads_as p _ _ _ z.is empty.2 in
      let second = f.runs p fn placed.has z.now below s1 n [] on.values z.shows.0 (get_last s.store (ListObj [])) (show_kept b (objects rs) on.values rs regs z.now types z.kept on.shows) in
      let P : List Object → Type 0 = λ os. Leads p start (running fn (length d.blocks) (length d.ops) z.now below (world None record s { store = os })) in
      let leads : Leads p start (running fn (length d.blocks) (length d.ops) z.now below (world None s2)) = subst P (set_last s.store (ListObj []) (ListObj on.values)) (leads_trans p _ _ _ first second) in
      ends_of p s.turns start res (Gives (ObjVal n) s2) R T on.does
      (ends_lead p (ObjVal n) s2 start _ R T leads record { now = z.now; is = refl; shows = z.shows; kept = z.kept; same = refl });
}

-- ---- an item, as a value of a type

pub item_attempts : (t : Sort) (b0 b1 b2 : Building) (x y q : Reg) (r : ℕ) → Attempts (Shows boxed) b0 b1 q.0 rtype.Ref (ActsOnAll (boxed ∷ sort.Int ∷ []) (x ∷ y ∷ []) (of_two list_item)) → Attempts (Shows t) b1 b2 r (rtype_of t) (ActsOn boxed q.0 (taken_as t)) → Attempts (Shows t) b0 b2 r (rtype_of t) (ActsOnTwo boxed sort.Int x.0 y.0 (item_as t))
item_attempts t b0 b1 b2 x y q r a c =
    attempts_then (Shows boxed) (Shows t) b0 b1 b2 q.0 r rtype.Ref (rtype_of t) (ActsOnTwo boxed sort.Int x.0 y.0 list_item) (ActsOn boxed q.0 (taken_as t)) (ActsOnTwo boxed sort.Int x.0 y.0 (item_as t)) (as_two boxed sort.Int boxed list_item b0 b1 q.0 x y a) c
    (λ regs s res f. record {
      mid = list_item f.v f.w s;
      go = taken_as t;
      does = f.does;
      start = record { v = f.v; left = f.left; w = f.w; right = f.right; does = refl };
      on = λ now v s1 shows kept. record { v = v; shows = shows; does = refl };
    })
