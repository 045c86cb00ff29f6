-- The code that puts entries into dicts does what the source does.
use Rattle.ir_builder_operations.proofs.Common.{◌≡◌, refl, sym, ◌∙◌, ap, subst, ℕ, zero, suc, ◌<◌, ◌≤◌, le_refl, arith, true, List, [], ◌∷◌, ◌++◌, length, map, Some, None, ◌⊎◌, slice_get, Value, NoneVal, ObjVal, Object, DictObj, Primitive, State, Does, Gives, on_to, give, needs, make, ◌>>◌, failing, NeverFails, effect, Program, Reg, PArg, Var, Prim, Holds, Regs, Declared, type_of_reg, Building, HasType, Has, HaveTypes, HaveKinds, ShowAll, Shows, Pushes, Attempts, Arrives, ActsOnAll, IsThrown, IsStuck, all_given, unless_stuck, Leads, running, world, ends_of, ends_lead, leads_as, leads_refl, leads_trans, extends_refl, extends_trans, has_less, placed_part, type_kept, boxed, may_be_key, entry_put, of_none, of_three}
use Rattle.std.proofs.Common.{get_or}
use Rattle.std.proofs.lemmas.Bool.{and_parts}
use Rattle.std.proofs.lemmas.List.{set-set}
use Rattle.std.specs.List.{list_all}
use Rattle.c_core.specs.declared.primitive.Primitive.TheVariants as prim
use Rattle.c_core.specs.declared.primitive.DictPrim.TheVariants as dict
use Rattle.source_meaning.specs.State.{put}
use Rattle.source_meaning.specs.Operations.{as_dict, set_dict_item, with_entry, entered}
use Rattle.ir_core.specs.Meaning.{Waiting, Config}
use Rattle.ir_core.specs.declared.code.RType.TheVariants as rtype
use Rattle.ir_builder_frames.specs.Building.{Extends}
use Rattle.ir_builder_frames.proofs.AttemptLemmas.{kinds_shown}
use Rattle.ir_builder_frames.proofs.ComingLemmas.{ends_needed}
use Rattle.ir_builder_operations.specs.Boxes.{objects}
use Rattle.ir_builder_operations.specs.Entries.{in_a_row, paired, dict_of}
use Rattle.ir_builder_operations.specs.Operating.{Alters, Stays}
use Rattle.ir_builder_operations.proofs.KindLemmas.{on_three, by_any}
use Rattle.ir_builder_operations.proofs.PartLemmas.{show_kept}
use Rattle.ir_builder_operations.proofs.StoreLemmas.{get_last, set_last, get_set, set_same}
use Rattle.ir_builder_operations.proofs.ContainerLemmas.{behind_put, push_leads}
use Rattle.ir_builder_operations.proofs.DictLemmas.{Done, entry_done}

-- ---- code without a result

-- that does what the source does with the objects in registers
alters : {line : ℕ} (b c : Building) (q : Primitive) (rs : List Reg) (go : List Value → Does Value) → Pushes b c (Prim None q (map Var rs)) line → HaveTypes b.regs (objects rs) rs → failing q ≡ NeverFails → ((vs : List Value) → HaveKinds (objects rs) vs → (p : Program) (s : State) → IsStuck (go vs s) ⊎ Done s (effect p q (all_given vs) (world None s)) (go vs s)) → Alters (ActsOnAll (objects rs) rs go) b c
alters b c q rs go a types never by = record {
  extends = a.extends;
  runs = λ p fn has regs below s res f.
      let start = running fn (length b.blocks) (length b.ops) regs below (world None s) in
      let R : Value → State → Config → Type 0 = Stays fn c below regs s in
      let E : Value → State → Config → Type 0 = λ e u d. ⊥ in
      ends_of p s.turns start res (go f.values s) R E f.does
      (unless_stuck p s.turns start (go f.values s) R E
      (λ done.
      let leads = push_leads p fn below b c q rs f.values regs s (world None done.behind) a has types f.shows never done.effects in
      let le : done.behind.turns ≤ s.turns = omega (arith, done.leaves.turns) in
      ends_of p s.turns start (go f.values s) (Gives NoneVal done.behind) R E done.does
      (le, running fn (length c.blocks) (length c.ops) regs below (world None done.behind), leads, record { same = done.leaves.locals; is = refl }))
      (by f.values (kinds_shown (objects rs) f.values regs rs f.shows) p s));
}

-- a value under a key
pub entry_alters : {line : ℕ} (b c : Building) (d k v : Reg) (args : List PArg) → args ≡ Var d ∷ Var k ∷ Var v ∷ [] → HasType b d.0 rtype.Ref → HasType b k.0 rtype.Ref → HasType b v.0 rtype.Ref → Pushes b c (Prim None (prim.Dict dict.SetItem) args) line → Alters (ActsOnAll (boxed ∷ boxed ∷ boxed ∷ []) (d ∷ k ∷ v ∷ []) (of_three entry_put)) b c
entry_alters {line} b c d k v args is dict_type key_type value_type a =
    let P : List Value → Type 0 = λ vs. (p : Program) (s : State) → IsStuck (of_three entry_put vs s) ⊎ Done s (effect p (prim.Dict dict.SetItem) (all_given vs) (world None s)) (of_three entry_put vs s) in
    let Q : List PArg → Type 0 = λ z. Pushes b c (Prim None (prim.Dict dict.SetItem) z) line in
    alters b c (prim.Dict dict.SetItem) (d ∷ k ∷ v ∷ []) (of_three entry_put) (subst Q is a) (dict_type, (key_type, (value_type, tt))) refl
    (λ vs kinds. on_three boxed boxed boxed (λ u. u) (λ u. u) (λ u. u) by_any by_any by_any P entry_done vs kinds)

-- arguments that were put behind one another
pub three_put : {A : Type 0} (none one two three : List A) (x y z : A) → none ≡ [] → one ≡ none ++ x ∷ [] → two ≡ one ++ y ∷ [] → three ≡ two ++ z ∷ [] → three ≡ x ∷ y ∷ z ∷ []
three_put none one two three x y z e f g h = h ∙ ap (λ us. us ++ z ∷ []) (g ∙ ap (λ us. us ++ y ∷ []) (f ∙ ap (λ us. us ++ x ∷ []) e))

-- ---- entries behind one another

-- pairs of registers hold pairs of values
abbrev ShowPairs : List (Value × Value) → Regs → List (Reg × Reg) → Type 0
ShowPairs [] regs [] = Unit {0}
ShowPairs (p ∷ ps) regs (e ∷ es) = (regs e.0.0 ≡ Holds p.0) × (regs e.1.0 ≡ Holds p.1) × ShowPairs ps regs es
ShowPairs ps regs es = ⊥

abbrev AreKeys : List (Value × Value) → Type 0
AreKeys [] = Unit {0}
AreKeys (p ∷ ps) = (may_be_key p.0 ≡ true) × AreKeys ps

-- code that puts the pairs in registers into the dict in a register
pub record Enters (d : Reg) (es : List (Reg × Reg)) (b c : Building) : Type 0 where
  pub extends : Extends b c
  pub runs : (p : Program) (fn : ℕ) → Has p fn c → (regs : Regs) (below : List Waiting) (s : State) (k : ℕ) (pairs ps : List (Value × Value)) → regs d.0 ≡ Holds (ObjVal k) → slice_get s.store k ≡ Some (DictObj pairs) → ShowPairs ps regs es → AreKeys ps → Leads p (running fn (length b.blocks) (length b.ops) regs below (world None s)) (running fn (length c.blocks) (length c.ops) regs below (world None (behind_put k (DictObj (entered ps pairs)) s)))

no_pairs : (regs : Regs) (ps : List (Value × Value)) → ShowPairs ps regs [] → ps ≡ []
no_pairs regs [] h = refl
no_pairs regs (p ∷ ps) h = absurd h

pub none_entered : (d : Reg) (b : Building) → Enters d [] b b
none_entered d b = record {
  extends = extends_refl b;
  runs = λ p fn has regs below s k pairs ps holds there shows keys.
      let at : State → Config = λ z. running fn (length b.blocks) (length b.ops) regs below (world None z) in
      let none : behind_put k (DictObj (entered ps pairs)) s ≡ s = ap (λ us. behind_put k (DictObj (entered us pairs)) s) (no_pairs regs ps shows) ∙ ap (λ z. record s { store = z }) (set_same s.store k (DictObj pairs) there) in
      subst (λ z. Leads p (at s) (at z)) (sym none) (leads_refl p (at s));
}

-- one entry more
record Last (es : List (Reg × Reg)) (e : Reg × Reg) (ps : List (Value × Value)) (regs : Regs) : Type 0 where
  first : List (Value × Value)
  last : Value × Value
  is : ps ≡ first ++ last ∷ []
  shows : ShowPairs first regs es
  keys : AreKeys first
  key_shown : regs e.0.0 ≡ Holds last.0
  value_shown : regs e.1.0 ≡ Holds last.1
  is_key : may_be_key last.0 ≡ true

last_shown : (es : List (Reg × Reg)) (e : Reg × Reg) (ps : List (Value × Value)) (regs : Regs) → ShowPairs ps regs (es ++ e ∷ []) → AreKeys ps → Last es e ps regs
last_shown [] e [] regs h k = absurd h
last_shown [] e (p ∷ []) regs h k = record { first = []; last = p; is = refl; shows = tt; keys = tt; key_shown = h.0; value_shown = h.1; is_key = k.0 }
last_shown [] e (p ∷ q ∷ ps) regs h k = absurd h.2
last_shown (f ∷ es) e [] regs h k = absurd h
last_shown (f ∷ es) e (p ∷ ps) regs h k =
    let n = last_shown es e ps regs h.2 k.1 in
    record { first = p ∷ n.first; last = n.last; is = ap (λ us. p ∷ us) n.is; shows = (h.0, h.1, n.shows); keys = (k.0, n.keys); key_shown = n.key_shown; value_shown = n.value_shown; is_key = n.is_key }

last_entered : (us : List (Value × Value)) (u : Value × Value) (pairs : List (Value × Value)) → entered (us ++ u ∷ []) pairs ≡ with_entry u.0 u.1 (entered us pairs)
last_entered [] u pairs = refl
last_entered (p ∷ us) u pairs = last_entered us u (with_entry p.0 p.1 pairs)

-- what the source does with an entry of a dict that is there
entry_is : (k : ℕ) (key v : Value) (s : State) (pairs : List (Value × Value)) → slice_get s.store k ≡ Some (DictObj pairs) → may_be_key key ≡ true → entry_put (ObjVal k) key v s ≡ Gives NoneVal (behind_put k (DictObj (with_entry key v pairs)) s)
entry_is k key v s pairs there is =
    ap (λ b. needs b (set_dict_item (ObjVal k) key v >> give NoneVal) s) is
    ∙ ap (λ o. on_to (as_dict (λ k ps. put k (DictObj (with_entry key v ps))) k o s) (λ u. give NoneVal)) there

entry_leads : (p : Program) (fn : ℕ) (c d : Building) (r : Reg) (e : Reg × Reg) (regs : Regs) (below : List Waiting) (s : State) (k : ℕ) (key v : Value) (pairs : List (Value × Value)) → Alters (ActsOnAll (boxed ∷ boxed ∷ boxed ∷ []) (r ∷ e.0 ∷ e.1 ∷ []) (of_three entry_put)) c d → Has p fn d → regs r.0 ≡ Holds (ObjVal k) → regs e.0.0 ≡ Holds key → regs e.1.0 ≡ Holds v → slice_get s.store k ≡ Some (DictObj pairs) → may_be_key key ≡ true → Leads p (running fn (length c.blocks) (length c.ops) regs below (world None s)) (running fn (length d.blocks) (length d.ops) regs below (world None (behind_put k (DictObj (with_entry key v pairs)) s)))
entry_leads p fn c d r e regs below s k key v pairs a has holds key_holds value_holds there is =
    let u = behind_put k (DictObj (with_entry key v pairs)) s in
    let ends = a.runs p fn has regs below s (Gives NoneVal u) record { values = ObjVal k ∷ key ∷ v ∷ []; shows = ((holds, tt), ((key_holds, tt), ((value_holds, tt), tt))); does = sym (entry_is k key v s pairs there is) } in
    leads_as p _ _ _ ends.3.is ends.2

pub next_entered : (d : Reg) (e : Reg × Reg) (es more : List (Reg × Reg)) (b c c2 : Building) → more ≡ es ++ e ∷ [] → Enters d es b c → Alters (ActsOnAll (boxed ∷ boxed ∷ boxed ∷ []) (d ∷ e.0 ∷ e.1 ∷ []) (of_three entry_put)) c c2 → Enters d more b c2
next_entered d e es more b c c2 is f a =
    subst (λ z. Enters d z b c2) (sym is) record {
      extends = extends_trans b c c2 f.extends a.extends;
      runs = λ p fn has regs below s k pairs ps holds there shows keys.
          let n = last_shown es e ps regs shows keys in
          let start = running fn (length b.blocks) (length b.ops) regs below (world None s) in
          let at : State → Config = λ z. running fn (length c2.blocks) (length c2.ops) regs below (world None z) in
          let mid = entered n.first pairs in
          let s1 = behind_put k (DictObj mid) s in
          let first = f.runs p fn (has_less p fn c c2 a.extends has) regs below s k pairs n.first holds there n.shows n.keys in
          let second = entry_leads p fn c c2 d e regs below s1 k n.last.0 n.last.1 mid a has holds n.key_shown n.value_shown (get_set s.store k _ _ there) n.is_key in
          let same : behind_put k (DictObj (with_entry n.last.0 n.last.1 mid)) s1 ≡ behind_put k (DictObj (entered ps pairs)) s =
          ap (λ z. record s { store = z }) (set-set s.store k (DictObj mid) (DictObj (with_entry n.last.0 n.last.1 mid)))
          ∙ ap (λ us. behind_put k (DictObj us) s) (sym (ap (λ us. entered us pairs) n.is ∙ last_entered n.first n.last pairs)) in
          subst (λ z. Leads p start (at z)) same (leads_trans p _ _ _ first second);
    }

-- ---- a new dict

pairs_shown : (es : List (Reg × Reg)) (vs : List Value) (regs : Regs) → ShowAll (objects (in_a_row es)) vs regs (in_a_row es) → ShowPairs (paired vs) regs es
pairs_shown [] [] regs h = tt
pairs_shown [] (v ∷ vs) regs h = absurd h
pairs_shown (e ∷ es) [] regs h = absurd h
pairs_shown (e ∷ es) (v ∷ []) regs h = absurd h.1
pairs_shown (e ∷ es) (v ∷ w ∷ vs) regs h = (h.0.0, h.1.0.0, pairs_shown es vs regs h.1.1)

are_keys : (ps : List (Value × Value)) → list_all (λ p. may_be_key p.0) ps ≡ true → AreKeys ps
are_keys [] e = tt
are_keys (p ∷ ps) e = let h = and_parts (may_be_key p.0) (list_all (λ q. may_be_key q.0) ps) e in (h.0, are_keys ps h.1)

pub entry_types : (declared : Declared) (es : List (Reg × Reg)) (i : ℕ) (e : Reg × Reg) → HaveTypes declared (objects (in_a_row es)) (in_a_row es) → i < length es → (type_of_reg declared (get_or es i e).0 ≡ Some rtype.Ref) × (type_of_reg declared (get_or es i e).1 ≡ Some rtype.Ref)
entry_types declared [] i e h lt = absurd (omega (arith, lt))
entry_types declared (f ∷ es) zero e h lt = (h.0, h.1.0)
entry_types declared (f ∷ es) (suc i) e h lt = entry_types declared es i e h.1.1 (omega (arith, lt))

pub dict_attempts : (b c d : Building) (r : Reg) (es : List (Reg × Reg)) → HaveTypes b.regs (objects (in_a_row es)) (in_a_row es) → Attempts (Shows boxed) b c r.0 rtype.Ref (ActsOnAll [] [] (of_none (make (DictObj [])))) → Enters r es c d → Attempts (Shows boxed) b d r.0 rtype.Ref (ActsOnAll (objects (in_a_row es)) (in_a_row es) dict_of)
dict_attempts b c d r es types a f = record {
  extends = extends_trans b c d a.extends f.extends;
  type = type_kept c d r.0 rtype.Ref f.extends a.type;
  runs = λ p fn h placed y room regs below s match res on.
      let R = Arrives (Shows boxed) fn (length d.blocks) (length d.ops) below (length b.regs) regs s r.0 in
      let T = IsThrown fn h below y (length b.regs) regs in
      let start = running fn (length b.blocks) (length b.ops) regs below (world None s) in
      let ps = paired on.values in
      let rs = in_a_row es in
      let at1 = placed_part p fn b b c d h (le_refl _) f.extends placed in
      let n : ℕ = length s.store in
      let s1 : State = record s { store = s.store ++ DictObj [] ∷ [] } in
      let s2 : State = record s { store = s.store ++ DictObj (entered ps []) ∷ [] } in
      ends_of p s.turns start res (dict_of on.values s) R T on.does
      (ends_needed p s.turns start (list_all (λ p. may_be_key p.0) ps) (make (DictObj (entered ps []))) s R T (λ keys.
      let empty = a.runs p fn h at1 y room regs below s match (Gives (ObjVal n) s1) record { values = []; shows = tt; does = refl } in
      let z = empty.3 in
      let first : Leads p start (running fn (length c.blocks) (length c.ops) z.now below (world None s1)) = leads_as p _ _ _ z.is empty.2 in
      let shown = pairs_shown es on.values z.now (show_kept b (objects rs) on.values rs regs z.now types z.kept on.shows) in
      let second = f.runs p fn placed.has z.now below s1 n [] ps z.shows.0 (get_last s.store (DictObj [])) shown (are_keys ps keys) in
      let P : List Object → Type 0 = λ os. Leads p start (running fn (length d.blocks) (length d.ops) z.now below (world None record s { store = os })) in
      let leads : Leads p start (running fn (length d.blocks) (length d.ops) z.now below (world None s2)) = subst P (set_last s.store (DictObj []) (DictObj (entered ps []))) (leads_trans p _ _ _ first second) in
      ends_lead p (ObjVal n) s2 start _ R T leads record { now = z.now; is = refl; shows = z.shows; kept = z.kept; same = refl }));
}
