-- What stands in the function of what a builder holds.
use Rattle.ir_builder_frames.proofs.Common.{◌≡◌, ℕ, zero, suc, ◌<◌, ◌≤◌, List, [], ◌∷◌, ◌++◌, length, Option, Some, None, refl, sym, ap, ◌∙◌, subst, arith, length-append, le_refl, Result, Ok, Err, OnOk, OnErr, IfOk, slice_get, option_map, Block, Last, Op, Program, RType, Do, handler_in, type_of_reg, Building, ended_block, held, handled, Extends, added, pushed, closed, item_at, handler_at, registers_of, HasType, or_other, Has, Within, Placed, Declares, Adds, Pushes, Closes}
use Rattle.ir_builder_frames.proofs.BuildingLemmas.{add_extends, push_extends, close_extends, push_last, close_last}
pub use Rattle.ir_builder_frames.proofs.BuildingLemmas.{extends_trans}

pub extends_refl : (b : Building) → Extends b b
extends_refl b = record { among = refl; items = λ k i x e. e; regs = λ r d e. e; handlers = λ k l. refl; regs_grow = omega arith; blocks_grow = omega arith }

pub same_extends : (b c : Building) → c ≡ b → Extends b c
same_extends b c e = let P : Building → Type 0 = λ v. Extends b v in subst P (sym e) (extends_refl b)

pub added_extends : (b c : Building) (name : List ℕ) (t : RType) → c ≡ added b name t → Extends b c
added_extends b c name t e = let P : Building → Type 0 = λ v. Extends b v in subst P (sym e) (add_extends b name t)

pub pushed_extends : (b c : Building) (o : Op × ℕ) → c ≡ pushed b o → Extends b c
pushed_extends b c o e = let P : Building → Type 0 = λ v. Extends b v in subst P (sym e) (push_extends b o)

pub closed_extends : (b c : Building) (l : Last) → c ≡ closed b l → Extends b c
closed_extends b c l e = let P : Building → Type 0 = λ v. Extends b v in subst P (sym e) (close_extends b l)

-- ---- registers and their types

pub get_below : {A : Type 0} (xs : List A) (k : ℕ) (x : A) → slice_get xs k ≡ Some x → k < length xs
get_below [] k x e = let f : None ≡ Some x = e in absurd (cc)
get_below (y ∷ xs) zero x e = omega arith
get_below (y ∷ xs) (suc k) x e = omega (arith, get_below xs k x e)

get_last : {A : Type 0} (xs : List A) (x : A) → slice_get (xs ++ x ∷ []) (length xs) ≡ Some x
get_last [] x = refl
get_last (y ∷ xs) x = get_last xs x

abbrev second : List ℕ × RType → RType
second d = d.1

declared_as : (o : Option (List ℕ × RType)) (t : RType) → option_map second o ≡ Some t → (d : List ℕ × RType) × (o ≡ Some d) × (d.1 ≡ t)
declared_as None t e = let f : None ≡ Some t = e in absurd (cc)
declared_as (Some d) t e = (d, refl, let f : Some d.1 ≡ Some t = e in cc)

pub declared_at : (b : Building) (r : ℕ) (t : RType) → HasType b r t → (d : List ℕ × RType) × (slice_get b.regs r ≡ Some d) × (d.1 ≡ t)
declared_at b r t e = declared_as (slice_get b.regs r) t e

pub declared_below : (regs : List (List ℕ × RType)) (r : ℕ) (t : RType) → type_of_reg regs (record { 0 = r }) ≡ Some t → r < length regs
declared_below regs r t e = let d = declared_as (slice_get regs r) t e in get_below regs r d.0 d.1

pub type_below : (b : Building) (r : ℕ) (t : RType) → HasType b r t → r < length b.regs
type_below b r t e = declared_below b.regs r t e

type_by : (regs : List (List ℕ × RType)) (r : ℕ) (d : List ℕ × RType) (t : RType) → slice_get regs r ≡ Some d → d.1 ≡ t → type_of_reg regs (record { 0 = r }) ≡ Some t
type_by regs r d t e is = ap (option_map second) e ∙ ap Some is

pub type_kept : (b c : Building) (r : ℕ) (t : RType) → Extends b c → HasType b r t → HasType c r t
type_kept b c r t x e = let d = declared_at b r t e in type_by c.regs r d.0 t (x.regs r d.0 d.1) d.2

pub type_same : (b c : Building) (r : ℕ) (t : RType) → c.regs ≡ b.regs → HasType b r t → HasType c r t
type_same b c r t same e = ap (λ regs. type_of_reg regs (record { 0 = r })) same ∙ e

pub type_has : (p : Program) (fn : ℕ) (b : Building) (r : ℕ) (t : RType) → Has p fn b → HasType b r t → type_of_reg (registers_of p fn) (record { 0 = r }) ≡ Some t
type_has p fn b r t h e = let d = declared_at b r t e in type_by (registers_of p fn) r d.0 t (h.regs r d.0 d.1) d.2

-- ---- what the calls add

pub declares : (b c : Building) (name : List ℕ) (t : RType) (r : ℕ) → r ≡ length b.regs → c ≡ added b name t → Declares b c r t
declares b c name t r number e = record {
  extends = added_extends b c name t e;
  made = number;
  type = type_by c.regs r (name, t) t (ap (λ (v : Building). slice_get v.regs r) e ∙ ap (slice_get (b.regs ++ (name, t) ∷ [])) number ∙ get_last b.regs (name, t)) refl;
  regs = ap (λ (v : Building). length v.regs) e ∙ length-append b.regs ((name, t) ∷ []);
  blocks = ap (λ (v : Building). length v.blocks) e;
  ops = ap (λ (v : Building). length v.ops) e;
}

pub pushes : (b c : Building) (o : Op × ℕ) → c ≡ pushed b o → Pushes b c o.0 o.1
pushes b c o e = record {
  extends = pushed_extends b c o e;
  regs = ap (λ (v : Building). length v.regs) e;
  blocks = ap (λ (v : Building). length v.blocks) e;
  ops = ap (λ (v : Building). length v.ops) e ∙ length-append b.ops (o ∷ []);
  at = ap (λ (v : Building). held v (length b.blocks) (length b.ops)) e ∙ push_last b o;
}

pub closes : (b c : Building) (l : Last) → c ≡ closed b l → Closes b c l
closes b c l e = record {
  extends = closed_extends b c l e;
  regs = ap (λ (v : Building). length v.regs) e;
  blocks = ap (λ (v : Building). length v.blocks) e ∙ length-append b.blocks (ended_block b.ops l ∷ []);
  ops = ap (λ (v : Building). length v.ops) e;
  at = ap (λ (v : Building). held v (length b.blocks) (length b.ops)) e ∙ close_last b l;
}

-- a register, and an operation
pub adds : (a b c : Building) (r : ℕ) (t : RType) (o : Op) {line : ℕ} → Declares a b r t → Pushes b c o line → Adds a c r t o line
adds a b c r t o d q = record {
  extends = extends_trans a b c d.extends q.extends;
  made = d.made;
  type = type_kept b c r t q.extends d.type;
  regs = q.regs ∙ d.regs;
  blocks = q.blocks ∙ d.blocks;
  ops = omega (arith, q.ops, d.ops);
  at = ap (λ k. held c k (length a.ops)) (sym d.blocks) ∙ ap (held c (length b.blocks)) (sym d.ops) ∙ q.at;
}

-- ---- the code of a part

module _ (p : Program) (fn : ℕ) where
  pub has_less : (b c : Building) → Extends b c → Has p fn c → Has p fn b
  has_less b c x h = record {
    items = λ k i y ne e. h.items k i y ne (x.items k i y e);
    regs = λ r d e. h.regs r d (x.regs r d e);
    edges = h.edges;
  }

  pub does_at : (b : Building) (k i : ℕ) (o : Op) {line : ℕ} → Has p fn b → held b k i ≡ Some (Do o line) → item_at p fn k i ≡ Some (Do o line)
  does_at b k i o {line} h e = h.items k i (Do o line) (λ q. cc) e

  pub adds_has : (b c : Building) (r : ℕ) (t : RType) (o : Op) {line : ℕ} → Adds b c r t o line → Has p fn c → item_at p fn (length b.blocks) (length b.ops) ≡ Some (Do o line)
  adds_has b c r t o a h = does_at c (length b.blocks) (length b.ops) o h a.at

  pub pushes_has : (b c : Building) (o : Op) {line : ℕ} → Pushes b c o line → Has p fn c → item_at p fn (length b.blocks) (length b.ops) ≡ Some (Do o line)
  pushes_has b c o a h = does_at c (length b.blocks) (length b.ops) o h a.at

  pub within_part : (b c : Building) (from to low high : ℕ) (h : Option ℕ) → Extends b c → from ≤ low → high ≤ to → high ≤ length b.blocks → Within p fn c from to h → Within p fn b low high h
  within_part b c from to low high h x l u z w = record {
    has = has_less b c x w.has;
    guards = λ k a e. w.guards k (omega arith) (omega arith) ∙ ap (λ y. or_other y h) (x.handlers k (omega arith));
  }

  pub placed_part : (b0 b1 b2 b3 : Building) (h : Option ℕ) → length b0.blocks ≤ length b1.blocks → Extends b2 b3 → Placed p fn b0 b3 h → Placed p fn b1 b2 h
  placed_part b0 b1 b2 b3 h le x w = within_part b2 b3 (length b0.blocks) (length b3.blocks) (length b1.blocks) (length b2.blocks) h x le x.blocks_grow (le_refl _) w

  handler_past : (bs : List Block) → handler_in bs (length bs) ≡ None
  handler_past [] = refl
  handler_past (b ∷ bs) = handler_past bs

  -- the handler of the block that is open at a place
  pub guard_at : (b c : Building) (h : Option ℕ) → length b.blocks ≤ length c.blocks → Placed p fn b c h → (k : ℕ) → k ≡ length c.blocks → handler_at p fn k ≡ h
  guard_at b c h le w k is = w.guards k (omega arith) (omega arith) ∙ ap (λ z. or_other (handled c z) h) is ∙ ap (λ z. or_other z h) (handler_past c.blocks)

-- ---- both outcomes of a call

pub ok_map : {A E : Type 0} (res : Result A E) (P Q : A → Type 0) → ((a : A) → P a → Q a) → IfOk res P → IfOk res Q
ok_map (Ok a) P Q f h = f a h
ok_map (Err e) P Q f h = tt

pub ok_join : {A E : Type 0} (res : Result A E) (P Q : A → Type 0) (R : Type 0) → ((a : A) → P a → R → Q a) → IfOk res P → OnOk res R → IfOk res Q
ok_join (Ok a) P Q R f h k = f a h k
ok_join (Err e) P Q R f h k = tt

pub on_ok_map : {A E : Type 0} (res : Result A E) (P Q : Type 0) → (P → Q) → OnOk res P → OnOk res Q
on_ok_map (Ok a) P Q f h = f h
on_ok_map (Err e) P Q f h = tt

pub either_way : {A E : Type 0} (res : Result A E) (P Q R : Type 0) → (P → R) → (Q → R) → OnOk res P → OnErr res Q → R
either_way (Ok a) P Q R f g p q = f p
either_way (Err e) P Q R f g p q = g q
