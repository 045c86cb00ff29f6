-- Updates of items of lists do in their code what they mean.
use Rattle.ir_builder_statements.proofs.Common.{◌≡◌, ℕ, arith, le_refl, length, List, [], ◌∷◌, Option, None, refl, sym, ap, ◌∙◌, subst, inl, inr, true, Value, Sort, TypedExpr, type_of, TypedModule, Variable, ItemTarget, State, Outcome, Gives, Raises, Stops, Does, on_to, give, coerced, combined, Reg, Building, Extends, extends_refl, extends_trans, Setting, rtype_of, HasRoom, type_kept, means, Shows, Meaning, Computes, Attempts, room_on, ActsOn, is_whole, is_scalar, BinarySuits, binary_goes, Emits, changed_as, ItemSuits, ItemUpdates, UpdateSuits, means_update, Works, works_of, alone_works, BinOp, sort_step}
use borrow.Author.Tests.{clash}
use Rattle.value_core.specs.Value.{BoolVal}
use Rattle.py_syntax.specs.declared.expression.BinOp.TheVariants.{Add}
use Rattle.py_typed.specs.declared.types.Ty.{Ty, fold-roll-Ty, out-Ty, roll-Ty, roll-out-Ty}
use Rattle.py_typed.specs.declared.types.Ty.TheOpen.{Ty-F}
use Rattle.py_typed.specs.declared.types.Ty.TheVariants as declared
use Rattle.py_typed.specs.Sorts as sort
use Rattle.py_typed.specs.Sorts.{sort as sort_of}
use Rattle.py_typed.specs.TargetTypes.{item_sort}
use Rattle.source_meaning.specs.State.{Stuck}
use Rattle.source_meaning.specs.Operations.{arithmetic, joined, item_at, list_item, set_item, set_list_item}
use Rattle.source_meaning.specs.WaysOut.{Flow, Goes}
use Rattle.source_soundness.specs.Watched.{bare}
use Rattle.ir_core.specs.Registers.{Regs}
use Rattle.ir_core.specs.declared.code.RType.{RType}
use Rattle.ir_core.specs.declared.code.RType.TheVariants as rtype
use Rattle.ir_builder_frames.specs.Coming.{world, running}
use Rattle.ir_builder_frames.specs.Computing.{Showing, ComputesAll, HaveTypes, ShowAll, Arrives, ArrivesAll}
use Rattle.ir_builder_frames.specs.Matching.{IsThrown}
use Rattle.ir_builder_frames.specs.Operands.{ActsOnAll}
use Rattle.ir_builder_frames.specs.Watching.{watch}
use Rattle.ir_builder_frames.proofs.ComingLemmas.{ends_now, ends_on, ends_at, ends_of}
use Rattle.ir_builder_frames.proofs.HeldLemmas.{placed_part}
use Rattle.ir_builder_frames.proofs.MatchLemmas.{computes_then, computes_all_then, thrown_from}
use Rattle.ir_builder_frames.proofs.WatchLemmas.{ends_watched}
use Rattle.ir_builder_operations.specs.Boxes.{boxed, taken_as}
use Rattle.ir_builder_operations.specs.Operating.{ActsOnTwo}
use Rattle.ir_builder_operations.specs.Rows.{item_changed, goes, of_two}
use Rattle.ir_builder_operations.specs.declared.operation.Operation.TheVariants.{ItemChange}
use Rattle.ir_builder_operations.proofs.ConversionLemmas.{given_on}
use Rattle.ir_builder_operations.proofs.PartLemmas.{as_two, show_kept}
use Rattle.ir_builder_operations.proofs.ThenLemmas.{attempts_as, attempts_then}
use Rattle.ir_builder_expressions.specs.declared.applying.Binary.TheVariants.{Arithmetic, Item}
use Rattle.ir_builder_expressions.specs.Parts.{is_text}
use Rattle.ir_builder_expressions.proofs.FollowLemmas.{all_attempts}
use Rattle.ir_builder_expressions.proofs.LookedLemmas.{taken_on}
use Rattle.ir_builder_statements.proofs.AssignLemmas.{bare_simple}

-- ---- values in registers, the last one first

pub types_kept : (b c : Building) (ts : List Sort) (rs : List Reg) → Extends b c → HaveTypes b.regs ts rs → HaveTypes c.regs ts rs
types_kept b c [] [] x h = tt
types_kept b c [] (r ∷ rs) x h = absurd h
types_kept b c (t ∷ ts) [] x h = absurd h
types_kept b c (t ∷ ts) (r ∷ rs) x h = (type_kept b c r.0 (rtype_of t) x h.0, types_kept b c ts rs x h.1)

abbrev pub Values : Type 0
Values = Meaning (List Value)

-- what comes first, and what comes behind others
abbrev pub first_value : Meaning Value → Values
first_value m n s = on_to (m n s) (λ v. Gives (v ∷ []))

abbrev pub next_value : Values → Meaning Value → Values
next_value ms m n s = on_to (ms n s) (λ vs u. on_to (m n u) (λ v. Gives (v ∷ vs)))

pub first_computed : (x : Setting) (t : Sort) (m : Meaning Value) (b c : Building) (r : Reg) → HasRoom x b → Computes x (Shows t) (rtype_of t) m b c r.0 → ComputesAll x (t ∷ []) (first_value m) b c (r ∷ [])
first_computed x t m b c r room q = record {
  extends = q.extends;
  types = (q.type, tt);
  runs = λ p fn h at n calls regs below s match le.
      let R = ArrivesAll (t ∷ []) fn (length c.blocks) (length c.ops) below (length b.regs) regs s (r ∷ []) in
      computes_then p fn h below x n calls (Shows t) (rtype_of t) m b c r.0 regs s (λ v. Gives (v ∷ [])) R (length b.regs) regs q at room (le_refl _) (λ j i z o. refl) match le
      (λ now v s1 le1 shows kept same match1. ends_now p (v ∷ []) s1 _ R (IsThrown fn h below x (length b.regs) regs) record { now = now; is = refl; shows = (shows, tt); kept = kept; same = same });
}

pub next_computed : (x : Setting) (ts : List Sort) (t : Sort) (ms : Values) (m : Meaning Value) (b0 b1 b2 : Building) (rs : List Reg) (r : Reg) → HasRoom x b0 → ComputesAll x ts ms b0 b1 rs → Computes x (Shows t) (rtype_of t) m b1 b2 r.0 → ComputesAll x (t ∷ ts) (next_value ms m) b0 b2 (r ∷ rs)
next_computed x ts t ms m b0 b1 b2 rs r room q c =
    let k1 = q.extends.blocks_grow in
    let l1 = q.extends.regs_grow in
    record {
      extends = extends_trans b0 b1 b2 q.extends c.extends;
      types = (c.type, types_kept b1 b2 ts rs c.extends q.types);
      runs = λ p fn h at n calls regs below s match le.
          let p1 = placed_part p fn b0 b0 b1 b2 h (le_refl _) c.extends at in
          let p2 = placed_part p fn b0 b1 b2 b2 h k1 (extends_refl b2) at in
          let R = ArrivesAll (t ∷ ts) fn (length b2.blocks) (length b2.ops) below (length b0.regs) regs s (r ∷ rs) in
          computes_all_then p fn h below x n calls ts ms b0 b1 rs regs s _ R (length b0.regs) regs q p1 room (le_refl _) (λ j i z o. refl) match le
          (λ now vs s1 le1 shows kept same1 match1. computes_then p fn h below x n calls (Shows t) (rtype_of t) m b1 b2 r.0 now s1 _ R (length b0.regs) regs c p2 (room_on x b0 b1 q.extends room) l1 (λ j i z o. kept j z) match1 le1
          (λ now2 v s2 le2 shows2 kept2 same2 match2.
          ends_now p (v ∷ vs) s2 _ R (IsThrown fn h below x (length b0.regs) regs) record { now = now2; is = refl; shows = (shows2, show_kept b1 ts vs rs now now2 q.types kept2 shows); kept = λ j lt. kept2 j (omega arith) ∙ kept j lt; same = same2 ∙ same1 }));
    }

-- ---- what follows a change

abbrev going : {A : Type 0} → A → Does Flow
going u = give Goes

change_then : (o : Outcome (Unit {0})) → on_to (on_to o (λ u. Gives (BoolVal true))) going ≡ on_to o going
change_then (Gives u s) = refl
change_then (Raises v s) = refl
change_then (Stops w s) = refl

-- ---- the parts of an update

pub declared_item : (m : TypedModule) (vs : List Variable) (a i : TypedExpr) (op : BinOp) (own t s : Sort) → type_of a ≡ sort.ListOf own → ItemUpdates m vs None a i op t s → ItemSuits m vs None a i own × UpdateSuits m vs None op own t s
declared_item m vs a i op own t s is h =
    let e : sort.ListOf h.0 ≡ sort.ListOf own = sym h.1.0 ∙ is in
    let same : h.0 ≡ own = cc in
    let P : Sort → Type 0 = λ z. UpdateSuits m vs None op z t s in
    ((is, h.1.1, h.1.2, h.1.3), subst P same h.2)

-- two texts are joined
pub text_combined : (op : BinOp) (t own operand : Sort) (m : TypedModule) (vs : List Variable) (b c : Building) (r : ℕ) (x y : Reg) → t ≡ sort.Str → UpdateSuits m vs None op own t operand → Attempts (Shows sort.Str) b c r rtype.Ref (ActsOnAll (sort.Str ∷ sort.Str ∷ []) (x ∷ y ∷ []) (of_two joined)) → Attempts (Shows t) b c r (rtype_of t) (ActsOnTwo own operand x.0 y.0 (combined t op))
text_combined op t own operand m vs b c r x y text (inl h) a = absurd (let f : is_whole sort.Str ≡ true = subst (λ z. is_whole z ≡ true) text h.1.0 in cc)
text_combined op t own operand m vs b c r x y text (inr h) a =
    let P : Sort → BinOp → Sort → Sort → Type 0 = λ z o u w. Attempts (Shows z) b c r (rtype_of z) (ActsOnTwo u w x.0 y.0 (combined z o)) in
    subst (λ z. P z op own operand) (sym text)
    (subst (λ o. P sort.Str o own operand) (sym h.0)
    (subst (λ u. P sort.Str Add u operand) (sym h.1.1)
    (subst (λ w. P sort.Str Add sort.Str w) (sym h.1.2) (as_two sort.Str sort.Str sort.Str joined b c r x y a))))

-- and numbers are brought to the type of the operation
pub numbers_fit : (op : BinOp) (t own operand : Sort) (m : TypedModule) (vs : List Variable) → (t ≡ sort.Str → ⊥) → UpdateSuits m vs None op own t operand → BinarySuits (Arithmetic op) t own operand
numbers_fit op t own operand m vs no_text (inl h) = h.1
numbers_fit op t own operand m vs no_text (inr h) = absurd (no_text h.1.0)

-- what is declared as no text is none
no_text_rolled : (k : Ty-F Ty) → (roll-Ty k ≡ declared.Str → ⊥) → sort_of (roll-Ty k) ≡ sort.Str → ⊥
no_text_rolled Ty-F.Str none is = none declared.rolls-Str
no_text_rolled k none is = clash (ap is_text (sym (fold-roll-Ty Sort sort_step k) ∙ is))

pub no_text : (ty : Ty) → (ty ≡ declared.Str → ⊥) → sort_of ty ≡ sort.Str → ⊥
no_text ty none is = no_text_rolled (out-Ty ty) (λ e. none (sym (roll-out-Ty ty) ∙ e)) (ap sort_of (roll-out-Ty ty) ∙ is)

whole_combined : (op : BinOp) (t : Sort) (v w : Value) → is_whole t ≡ true → combined t op v w ≡ arithmetic t op v w
whole_combined op sort.Int v w e = refl
whole_combined op sort.I64 v w e = refl
whole_combined op t v w e = absurd (clash e)

pub numbers_combined : (op : BinOp) (t own operand : Sort) (b c : Building) (r x y : ℕ) → is_whole t ≡ true → Attempts (Shows t) b c r (rtype_of t) (ActsOnTwo own operand x y (arithmetic t op)) → Attempts (Shows t) b c r (rtype_of t) (ActsOnTwo own operand x y (combined t op))
numbers_combined op t own operand b c r x y whole a =
    attempts_as (Shows t) b c r (rtype_of t) (ActsOnTwo own operand x y (arithmetic t op)) (ActsOnTwo own operand x y (combined t op)) (λ regs s res f. record { v = f.v; left = f.left; w = f.w; right = f.right; does = f.does ∙ ap (λ (d : Does Value). d s) (whole_combined op t f.v f.w whole) }) a

pub changed_attempts : (op : BinOp) (t own operand : Sort) (b0 b1 b2 b3 : Building) (x y q z r : ℕ) → Attempts (Shows t) b0 b1 q (rtype_of t) (ActsOnTwo own operand x y (combined t op)) → Attempts (Shows own) b1 b2 z (rtype_of own) (ActsOn t q (coerced own)) → Attempts (Shows (sort.Optional own)) b2 b3 r rtype.Ref (ActsOn own z give) → Attempts (Shows (sort.Optional own)) b0 b3 r rtype.Ref (ActsOnTwo own operand x y (changed_as own op t))
changed_attempts op t own operand b0 b1 b2 b3 x y q z r a1 a2 a3 =
    let turned : Attempts (Shows own) b0 b2 z (rtype_of own) (ActsOnTwo own operand x y (changed_as own op t)) =
    attempts_then (Shows t) (Shows own) b0 b1 b2 q z (rtype_of t) (rtype_of own) (ActsOnTwo own operand x y (combined t op)) (ActsOn t q (coerced own)) (ActsOnTwo own operand x y (changed_as own op t)) a1 a2
    (λ regs s res f. record {
      mid = combined t op f.v f.w s;
      go = coerced own;
      does = f.does;
      start = record { v = f.v; left = f.left; w = f.w; right = f.right; does = refl };
      on = λ now v s1 shows kept. record { v = v; shows = shows; does = refl };
    }) in
    attempts_then (Shows own) (Shows (sort.Optional own)) b0 b2 b3 z r (rtype_of own) rtype.Ref (ActsOnTwo own operand x y (changed_as own op t)) (ActsOn own z give) (ActsOnTwo own operand x y (changed_as own op t)) turned a3
    (λ regs s res f. record {
      mid = changed_as own op t f.v f.w s;
      go = give;
      does = f.does ∙ given_on (changed_as own op t f.v f.w s);
      start = record { v = f.v; left = f.left; w = f.w; right = f.right; does = refl };
      on = λ now v s1 shows kept. record { v = v; shows = shows; does = refl };
    })

-- ---- an operation on values in registers, behind their code

abbrev pub next_done : Values → (List Value → Does Value) → Values
next_done ms go n s = on_to (ms n s) (λ vs u. on_to (go vs u) (λ v. Gives (v ∷ vs)))

pub next_attempted : (x : Setting) (ts : List Sort) (t : Sort) (ms : Values) (go : List Value → Does Value) (from : Regs → State → Outcome Value → Type 0) (b0 b1 b2 : Building) (rs : List Reg) (r : Reg) → HasRoom x b0 → ComputesAll x ts ms b0 b1 rs → Attempts (Shows t) b1 b2 r.0 (rtype_of t) from → ((vs : List Value) (s : State) (regs : Regs) → ShowAll ts vs regs rs → from regs s (go vs s)) → ComputesAll x (t ∷ ts) (next_done ms go) b0 b2 (r ∷ rs)
next_attempted x ts t ms go from b0 b1 b2 rs r room q made gives =
    let k1 = q.extends.blocks_grow in
    let l1 = q.extends.regs_grow in
    record {
      extends = extends_trans b0 b1 b2 q.extends made.extends;
      types = (made.type, types_kept b1 b2 ts rs made.extends q.types);
      runs = λ p fn h at n calls regs below s match le.
          let p1 = placed_part p fn b0 b0 b1 b2 h (le_refl _) made.extends at in
          let p2 = placed_part p fn b0 b1 b2 b2 h k1 (extends_refl b2) at in
          let R = ArrivesAll (t ∷ ts) fn (length b2.blocks) (length b2.ops) below (length b0.regs) regs s (r ∷ rs) in
          let T = IsThrown fn h below x (length b0.regs) regs in
          computes_all_then p fn h below x n calls ts ms b0 b1 rs regs s _ R (length b0.regs) regs q p1 room (le_refl _) (λ j i z o. refl) match le
          (λ now vs s1 le1 shows kept same1 match1.
          ends_on p s1.turns _ (go vs s1) (Arrives (Shows t) fn (length b2.blocks) (length b2.ops) below (length b1.regs) now s1 r.0) (IsThrown fn h below x (length b1.regs) now) T (λ v. Gives (v ∷ vs)) R (made.runs p fn h p2 x (room_on x b0 b1 q.extends room) now below s1 match1 (go vs s1) (gives vs s1 now shows))
          (λ v s2 d le2 a.
          ends_at p s2.turns (running fn (length b2.blocks) (length b2.ops) a.now below (world None s2)) d (Gives (v ∷ vs) s2) R T a.is
          (ends_now p (v ∷ vs) s2 _ R T record { now = a.now; is = refl; shows = (a.shows, show_kept b1 ts vs rs now a.now q.types a.kept shows); kept = λ j lt. a.kept j (omega arith) ∙ kept j lt; same = a.same ∙ same1 }))
          (λ v s2 d e. thrown_from fn h below x (length b0.regs) (length b1.regs) regs now v s2 d l1 (λ j i lt o. kept j lt) e));
    }

-- what is done, where its value is looked at as one of a type
pub record LooksAt (m : TypedModule) (t : Sort) (from : Regs → State → Outcome Value → Type 0) (regs : Regs) (s : State) (res : Outcome Value) : Type 0 where
  pub seen : Outcome Value
  pub starts : from regs s seen
  pub does : res ≡ on_to seen (watch m t)

looked_attempts : (m : TypedModule) (t : Sort) (K : Showing) (b c : Building) (r : ℕ) (u : RType) (from : Regs → State → Outcome Value → Type 0) → Attempts K b c r u from → Attempts K b c r u (LooksAt m t from)
looked_attempts m t K b c r u from a = record {
  extends = a.extends;
  type = a.type;
  runs = λ p fn h placed x room regs below s match res on.
      let R = Arrives K fn (length c.blocks) (length c.ops) below (length b.regs) regs s r in
      let T = IsThrown fn h below x (length b.regs) regs in
      ends_of p s.turns _ res (on_to on.seen (watch m t)) R T on.does
      (ends_watched p m t s.turns _ on.seen R R T (λ v s1 d kind y. y) (a.runs p fn h placed x room regs below s match on.seen on.starts));
}

-- ---- what an update of an item means

module _ (x : Setting) (a i e : TypedExpr) (op : BinOp) (own t : Sort) (is_list : type_of a ≡ sort.ListOf own) (scalar : is_scalar own ≡ true) where
  abbrev source : TypedModule
  source = x.source

  -- of an index and a list, the item; of an operand and an old value, the new one; of all, the last one first, the change
  abbrev read_item : List Value → Does Value
  read_item (j ∷ l ∷ vs) s = on_to (on_to (list_item l j s) (taken_as own)) (watch source own)
  read_item vs s = Stops Stuck s

  abbrev make_item : List Value → Does Value
  make_item (y ∷ v ∷ vs) s = changed_as own op t v y s
  make_item vs s = Stops Stuck s

  abbrev put_changed : List Value → Does Value
  put_changed (w ∷ y ∷ v ∷ j ∷ l ∷ vs) s = item_changed l j w s
  put_changed vs s = Stops Stuck s

  abbrev reading : Value → Value → Does Value
  reading l j s = on_to (on_to (list_item l j s) (taken_as own)) (watch source own)

  -- behind the item that was read
  abbrev remaking : Does Value → Value → Does Value
  remaking operand v s = on_to (operand s) (λ y. changed_as own op t v y)

  made_then : (r : Outcome Value) (l j v y : Value) → on_to (on_to (on_to r (λ w. Gives (w ∷ y ∷ v ∷ j ∷ l ∷ []))) put_changed) going ≡ on_to (on_to r (set_list_item l j)) going
  made_then (Gives w s) l j v y = change_then (set_list_item l j w s)
  made_then (Raises z s) l j v y = refl
  made_then (Stops z s) l j v y = refl

  operand_then : (r : Outcome Value) (l j v : Value) → on_to (on_to (on_to (on_to r (λ y. Gives (y ∷ v ∷ j ∷ l ∷ []))) (λ vs s. on_to (make_item vs s) (λ w. Gives (w ∷ vs)))) put_changed) going ≡ on_to (on_to (on_to r (λ y. changed_as own op t v y)) (set_list_item l j)) going
  operand_then (Gives y s) l j v = made_then (changed_as own op t v y s) l j v y
  operand_then (Raises z s) l j v = refl
  operand_then (Stops z s) l j v = refl

  read_then : (r : Outcome Value) (operand : Does Value) (l j : Value) → on_to (on_to (on_to (on_to (on_to r (λ v. Gives (v ∷ j ∷ l ∷ []))) (λ vs s. on_to (operand s) (λ y. Gives (y ∷ vs)))) (λ vs s. on_to (make_item vs s) (λ w. Gives (w ∷ vs)))) put_changed) going ≡ on_to (on_to (on_to r (remaking operand)) (set_list_item l j)) going
  read_then (Gives v s) operand l j = operand_then (operand s) l j v
  read_then (Raises z s) operand l j = refl
  read_then (Stops z s) operand l j = refl

  -- behind an index, and behind a list
  abbrev after_index : Does Value → Value → Value → Does (Unit {0})
  after_index operand l j s = on_to (on_to (reading l j s) (remaking operand)) (set_list_item l j)

  index_read : (r : Outcome Value) (operand : Does Value) (l : Value) → on_to (on_to (on_to (on_to (on_to (on_to r (λ j. Gives (j ∷ l ∷ []))) (λ vs s. on_to (read_item vs s) (λ v. Gives (v ∷ vs)))) (λ vs s. on_to (operand s) (λ y. Gives (y ∷ vs)))) (λ vs s. on_to (make_item vs s) (λ w. Gives (w ∷ vs)))) put_changed) going ≡ on_to (on_to r (after_index operand l)) going
  index_read (Gives j s) operand l = read_then (reading l j s) operand l j
  index_read (Raises z s) operand l = refl
  index_read (Stops z s) operand l = refl

  list_read : (r : Outcome Value) (index operand : Does Value) → on_to (on_to (on_to (on_to (on_to (on_to (on_to r (λ l. Gives (l ∷ []))) (λ vs s. on_to (index s) (λ j. Gives (j ∷ vs)))) (λ vs s. on_to (read_item vs s) (λ v. Gives (v ∷ vs)))) (λ vs s. on_to (operand s) (λ y. Gives (y ∷ vs)))) (λ vs s. on_to (make_item vs s) (λ w. Gives (w ∷ vs)))) put_changed) going ≡ on_to (on_to r (λ l s. on_to (index s) (after_index operand l))) going
  list_read (Gives l s) index operand = index_read (index s) operand l
  list_read (Raises z s) index operand = refl
  list_read (Stops z s) index operand = refl

  -- all that an update computes, the last one first
  abbrev old_values : Values
  old_values = next_done (next_value (first_value (means x a)) (means x i)) read_item

  abbrev all_values : Values
  all_values = next_done (next_value old_values (means x e)) make_item

  -- the update, where the list is of a type and the item is looked at as one of another
  abbrev updating : Sort → Sort → Meaning Flow
  updating u w n s =
      on_to (on_to (means x a n s) (λ l s1. on_to (means x i n s1) (λ j s2. on_to (on_to (on_to (item_at u l j s2) (watch source w)) (λ v s3. on_to (means x e n s3) (λ y. changed_as (item_sort u) op t v y))) (set_item u l j)))) going

  updating_so : (n : ℕ) (s : State) → means_update x (ItemTarget a i) op e t n s ≡ on_to (on_to (all_values n s) put_changed) going
  updating_so n s =
      ap (λ u. updating u (bare (item_sort u)) n s) is_list
      ∙ ap (λ w. updating (sort.ListOf own) w n s) (bare_simple own scalar)
      ∙ (λ k. on_to (on_to (means x a n s) (λ l s1. on_to (means x i n s1) (λ j s2. on_to (on_to (taken_on source own (list_item l j s2) k) (remaking (means x e n))) (set_list_item l j)))) going)
      ∙ sym (list_read (means x a n s) (means x i n) (means x e n))

  -- ---- its code

  reads_item : (l j : Reg) (vs : List Value) (s : State) (regs : Regs) → ShowAll (sort.Int ∷ boxed ∷ []) vs regs (j ∷ l ∷ []) → LooksAt source own (ActsOnTwo boxed sort.Int l.0 j.0 (binary_goes Item own)) regs s (read_item vs s)
  reads_item l j [] s regs h = absurd h
  reads_item l j (w ∷ []) s regs h = absurd h.1
  reads_item l j (w ∷ y ∷ vs) s regs h = record {
    seen = on_to (list_item y w s) (taken_as own);
    starts = record { v = y; left = h.1.0; w = w; right = h.0; does = refl };
    does = refl;
  }

  makes_item : (operand : Sort) (l j v y : Reg) (vs : List Value) (s : State) (regs : Regs) → ShowAll (operand ∷ own ∷ sort.Int ∷ boxed ∷ []) vs regs (y ∷ v ∷ j ∷ l ∷ []) → ActsOnTwo own operand v.0 y.0 (changed_as own op t) regs s (make_item vs s)
  makes_item operand l j v y [] s regs h = absurd h
  makes_item operand l j v y (w ∷ []) s regs h = absurd h.1
  makes_item operand l j v y (w ∷ z ∷ vs) s regs h = record { v = z; left = h.1.0; w = w; right = h.0; does = refl }

  puts_item : (operand : Sort) (l j v y w : Reg) (vs : List Value) (s : State) (regs : Regs) → ShowAll (sort.Optional own ∷ operand ∷ own ∷ sort.Int ∷ boxed ∷ []) vs regs (w ∷ y ∷ v ∷ j ∷ l ∷ []) → ActsOnAll (boxed ∷ sort.Int ∷ boxed ∷ []) (l ∷ j ∷ w ∷ []) (goes ItemChange) regs s (put_changed vs s)
  puts_item operand l j v y w [] s regs h = absurd h
  puts_item operand l j v y w (v1 ∷ []) s regs h = absurd h.1
  puts_item operand l j v y w (v1 ∷ v2 ∷ []) s regs h = absurd h.1.1
  puts_item operand l j v y w (v1 ∷ v2 ∷ v3 ∷ []) s regs h = absurd h.1.1.1
  puts_item operand l j v y w (v1 ∷ v2 ∷ v3 ∷ v4 ∷ []) s regs h = absurd h.1.1.1.1
  puts_item operand l j v y w (v1 ∷ v2 ∷ v3 ∷ v4 ∷ v5 ∷ vs) s regs h = record {
    values = v5 ∷ v4 ∷ v1 ∷ [];
    shows = (h.1.1.1.1.0, (h.1.1.1.0, ((h.0.0, tt), tt)));
    does = refl;
  }

  pub item_updated : (b0 b1 b2 b3 b4 b5 b6 : Building) (l j v y w : Reg) (r : ℕ) → type_of i ≡ sort.Int → HasRoom x b0 → Emits x a b0 b1 l.0 → Emits x i b1 b2 j.0 → Attempts (Shows own) b2 b3 v.0 (rtype_of own) (ActsOnTwo boxed sort.Int l.0 j.0 (binary_goes Item own)) → Emits x e b3 b4 y.0 → Attempts (Shows (sort.Optional own)) b4 b5 w.0 rtype.Ref (ActsOnTwo own (type_of e) v.0 y.0 (changed_as own op t)) → Attempts (Shows sort.Bool) b5 b6 r rtype.Bool (ActsOnAll (boxed ∷ sort.Int ∷ boxed ∷ []) (l ∷ j ∷ w ∷ []) (goes ItemChange)) → (gives : Option Sort) → Works x gives (means_update x (ItemTarget a i) op e t) b0 b6 []
  item_updated b0 b1 b2 b3 b4 b5 b6 l j v y w r is_index room list index old operand made changed gives =
      let P : TypedExpr → Building → Building → ℕ → Sort → Type 0 = λ z b c q u. Computes x (Shows u) (rtype_of u) (means x z) b c q in
      let one = first_computed x boxed (means x a) b0 b1 l room (subst (P a b0 b1 l.0) is_list list) in
      let two = next_computed x (boxed ∷ []) sort.Int _ (means x i) b0 b1 b2 (l ∷ []) j room one (subst (P i b1 b2 j.0) is_index index) in
      let three = next_attempted x (sort.Int ∷ boxed ∷ []) own _ read_item _ b0 b2 b3 (j ∷ l ∷ []) v room two (looked_attempts source own (Shows own) b2 b3 v.0 (rtype_of own) _ old) (reads_item l j) in
      let four = next_computed x (own ∷ sort.Int ∷ boxed ∷ []) (type_of e) _ (means x e) b0 b3 b4 (v ∷ j ∷ l ∷ []) y room three operand in
      let five = next_attempted x (type_of e ∷ own ∷ sort.Int ∷ boxed ∷ []) (sort.Optional own) _ make_item _ b0 b4 b5 (y ∷ v ∷ j ∷ l ∷ []) w room four made (makes_item (type_of e) l j v y) in
      let all : Computes x (Shows sort.Bool) rtype.Bool (λ n s. on_to (all_values n s) put_changed) b0 b6 r = all_attempts x (sort.Optional own ∷ type_of e ∷ own ∷ sort.Int ∷ boxed ∷ []) (Shows sort.Bool) rtype.Bool all_values put_changed _ b0 b5 b6 (w ∷ y ∷ v ∷ j ∷ l ∷ []) r room five changed (puts_item (type_of e) l j v y w) in
      works_of x gives (means_update x (ItemTarget a i) op e t) (λ n s. on_to (on_to (all_values n s) put_changed) going) b0 b6 [] updating_so
      (alone_works x gives (Shows sort.Bool) rtype.Bool (λ n s. on_to (all_values n s) put_changed) b0 b6 r room all)
