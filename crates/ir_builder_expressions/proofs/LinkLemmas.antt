-- The choices of a chain: what was begun, and that all are met from the last.
use Rattle.ir_builder_expressions.proofs.Common.{refl, sym, subst, ℕ, arith, List, [], ◌∷◌, ◌++◌, Reg, Building, Extends, HasType, AreAlike, extends_refl, extends_trans, type_kept, Link, Begins, Pending, Met, Ended}
use Rattle.ir_core.specs.declared.code.RType.TheVariants as rtype

pub pending_extends : (b : Building) (ls : List Link) (c : Building) → Pending b ls c → Extends b c
pending_extends b [] c h = h
pending_extends b (l ∷ ls) c h = extends_trans b h.0 c h.2 (extends_trans h.0 h.1 c h.3.opens.extends (pending_extends h.1 ls c h.4))

pub pending_more : (b : Building) (ls : List Link) (c d : Building) → Pending b ls c → Extends c d → Pending b ls d
pending_more b [] c d h x = extends_trans b c d h x
pending_more b (l ∷ ls) c d h x = (h.0, h.1, h.2, h.3, pending_more h.1 ls c d h.4 x)

pub pending_snoc : (b : Building) (ls : List Link) (l : Link) (a d : Building) → Pending b ls a → Begins a d l → Pending b (ls ++ l ∷ []) d
pending_snoc b [] l a d h k = (a, d, h, k, extends_refl d)
pending_snoc b (m ∷ ls) l a d h k = (h.0, h.1, h.2, h.3, pending_snoc h.1 ls l a d h.4 k)

-- the last one that was begun
pub record Last (b : Building) (ls : List Link) (l : Link) (c : Building) : Type 0 where
  pub from : Building
  pub to : Building
  pub before : Pending b ls from
  pub begins : Begins from to l
  pub on : Extends to c

pub pending_last : (b : Building) (ls : List Link) (l : Link) (c : Building) → Pending b (ls ++ l ∷ []) c → Last b ls l c
pending_last b [] l c h = record { from = h.0; to = h.1; before = h.2; begins = h.3; on = h.4 }
pending_last b (m ∷ ls) l c h =
    let k = pending_last h.1 ls l c h.4 in
    record { from = k.from; to = k.to; before = (h.0, h.1, h.2, h.3, k.before); begins = k.begins; on = k.on }

-- what was begun before the last one still waits when that one is met
pub met_pending : (b : Building) (ls : List Link) (l : Link) (c d : Building) (r : ℕ) → Last b ls l c → Met c d l r → Pending b ls d
met_pending b ls l c d r k m =
    let x = extends_trans k.from k.to c k.begins.opens.extends k.on in
    let test = k.begins.opens.test_is in
    let end = m.brings.end_is in
    let up = x.blocks_grow in
    pending_more b ls k.from d k.before (m.meets.extends k.from (extends_trans k.from c m.mid x m.brings.extends) (omega arith) (omega arith))

pub met_flag : (b : Building) (ls : List Link) (l : Link) (c d : Building) (r : ℕ) → Last b ls l c → Met c d l r → HasType d l.choice.target.0 rtype.Bool
met_flag b ls l c d r k m = m.meets.types l.choice.target.0 rtype.Bool (type_kept k.to m.mid l.choice.target.0 rtype.Bool (extends_trans k.to c m.mid k.on m.brings.extends) k.begins.opens.type)

-- what the calls that meet it need
pub begins_alike : (a d b : Building) (l : Link) (r : Reg) → Begins a d l → Extends d b → HasType b r.0 rtype.Bool → AreAlike b.regs l.choice.target r
begins_alike a d b l r k x h = (rtype.Bool, type_kept d b l.choice.target.0 rtype.Bool x k.opens.type, h)

pub begins_flag : (a d b : Building) (l : Link) → Begins a d l → Extends d b → HasType b l.holds.0 rtype.Bool
begins_flag a d b l k x = type_kept a b l.holds.0 rtype.Bool (extends_trans a d b k.opens.extends x) k.holds

-- ---- the end of a chain

pub ended_snoc : (ls : List Link) (l : Link) (b d : Building) (r : ℕ) (c : Building) (q : ℕ) → Met b d l r → Ended ls d l.choice.target.0 c q → Ended (ls ++ l ∷ []) b r c q
ended_snoc [] l b d r c q m h = (b, r, (refl, refl), subst (λ z. Met b z l r) (sym h.0) m, h.1)
ended_snoc (k ∷ ls) l b d r c q m h = (h.0, h.1, ended_snoc ls l b d r h.0 h.1 m h.2, h.3, h.4)

pub ended_last : (ls : List Link) (l : Link) (b : Building) (r : ℕ) (c : Building) (q : ℕ) → Ended (ls ++ l ∷ []) b r c q → (d : Building) × Met b d l r × Ended ls d l.choice.target.0 c q
ended_last [] l b r c q h =
    let M : Building → Type 0 = λ z. Met z c l h.1 in
    let N : ℕ → Type 0 = λ z. Met b c l z in
    (c, subst N h.2.1 (subst M h.2.0 h.3), (refl, h.4))
ended_last (k ∷ ls) l b r c q h =
    let e = ended_last ls l b r h.0 h.1 h.2 in
    (e.0, e.1, (h.0, h.1, e.2, h.3, h.4))
