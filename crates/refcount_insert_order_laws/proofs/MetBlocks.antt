-- Which blocks of a function are met can be told: marks of blocks, each of which is met, that are closed under jumps.
use Rattle.std.proofs.Common.{◌≡◌, refl, sym, ap, ◌∙◌, subst, ℕ, zero, suc, ◌+◌, ◌≤◌, ◌<◌, ◌⊎◌, inl, inr, ⊎_elim, Bool, true, false, List, [], ◌∷◌, length, arith, Some, None, eqb-true}
use Rattle.std.specs.Prelude.{slice_get, nat_eq, ◌||◌, not}
use Rattle.ir_core.specs.declared.code.Op.{Op}
use Rattle.ir_core.specs.declared.code.Last.{Last}
use Rattle.ir_core.specs.declared.code.Block.{Block}
use Rattle.ir_core.specs.declared.code.Func.{Func}
use Rattle.ir_core.specs.Items.{Do, in_block, item_of}
use Rattle.ir_core.proofs.ItemLemmas.{end_item}
use Rattle.c_core_ownership_laws.specs.Shares.{one_if}
use Rattle.liveness.specs.Paths.{targets, passes, jumps, MetAt, entry, onward}
use Rattle.refcount_insert_order_laws.proofs.Numbers.{either, eq_self, or_right}

-- ---- places of a block
pub op_item : (ops : List (Op × ℕ)) (last : Last) (p : ℕ) → p < length ops → (o : Op × ℕ) × (in_block ops last p ≡ Some (Do o.0 o.1))
op_item [] last p lt = absurd (omega (arith, lt))
op_item (x ∷ ops) last zero lt = (x, refl)
op_item (x ∷ ops) last (suc p) lt = op_item ops last p (omega (arith, lt))

pub in_met : (f : Func) (b : ℕ) (k : Block) → slice_get f.blocks b ≡ Some k → MetAt f b 0 → (p : ℕ) → p ≤ length k.ops → MetAt f b p
in_met f b k is met zero le = met
in_met f b k is met (suc p) le =
    let o = op_item k.ops k.last p (omega (arith, le)) in
    onward b p b (suc p) (in_met f b k is met p (omega (arith, le))) (passes b p o.0.0 (ap (λ z. item_of z p) is ∙ o.1))

-- ---- marks
zero_plus : (k : ℕ) → k ≡ 0 + k
zero_plus k = omega arith

abbrev mark : ℕ → (ℕ → Bool) → ℕ → Bool
mark t m k = nat_eq t k || m k

-- how many numbers below n have no mark
abbrev missing : ℕ → (ℕ → Bool) → ℕ
missing zero m = 0
missing (suc n) m = one_if (not (m n)) + missing n m

fewer_one : (a b : Bool) → one_if (not (a || b)) ≤ one_if (not b)
fewer_one true true = omega arith
fewer_one true false = omega arith
fewer_one false b = omega arith

fewer : (n t : ℕ) (m : ℕ → Bool) → missing n (mark t m) ≤ missing n m
fewer zero t m = omega arith
fewer (suc n) t m = omega (arith, fewer n t m, fewer_one (nat_eq t n) (m n))

less : (n t : ℕ) (m : ℕ → Bool) → t < n → m t ≡ false → missing n (mark t m) < missing n m
less zero t m lt none = absurd (omega (arith, lt))
less (suc n) t m lt none =
    by (nat_eq t n) refl (λ below. less n t m below none)
  where
    lower : (t n : ℕ) → t < suc n → (t ≡ n → ⊥) → t < n
    lower zero zero lt ne = absurd (ne refl)
    lower zero (suc n) lt ne = omega arith
    lower (suc t) zero lt ne = absurd (omega (arith, lt))
    lower (suc t) (suc n) lt ne = omega (arith, lower t n (omega (arith, lt)) (λ e. ne (ap suc e)))

    by : (b : Bool) → nat_eq t n ≡ b → (t < n → missing n (mark t m) < missing n m) → one_if (not (nat_eq t n || m n)) + missing n (mark t m) < one_if (not (m n)) + missing n m
    by true is later =
        let here : m n ≡ false = ap m (sym (eqb-true t n is)) ∙ none in
        omega (arith, fewer n t m, ap (λ c. one_if (not (c || m n))) is, ap (λ c. one_if (not c)) here)
    by false is later =
        let ne : t ≡ n → ⊥ = λ e. let both : true ≡ false = sym (eq_self n) ∙ (ap (λ z. nat_eq z n) (sym e) ∙ is) in absurd (cc) in
        omega (arith, later (lower t n lt ne), fewer_one (nat_eq t n) (m n))

module _ (f : Func) where
  -- each marked block is met
  abbrev pub IsSound : (ℕ → Bool) → Type 0
  IsSound m = (k : ℕ) → m k ≡ true → MetAt f k 0

  abbrev IsClosedAt : (ℕ → Bool) → List ℕ → Type 0
  IsClosedAt m ts = (i t : ℕ) → slice_get ts i ≡ Some t → t < length f.blocks → m t ≡ true

  -- where a marked block goes to is marked
  abbrev pub IsClosed : (ℕ → Bool) → Type 0
  IsClosed m = (k : ℕ) (b : Block) → slice_get f.blocks k ≡ Some b → m k ≡ true → IsClosedAt m (targets b.last)

  pub record Marks : Type 0 where
    pub marked : ℕ → Bool
    pub first : marked 0 ≡ true
    pub sound : IsSound marked
    pub closed : IsClosed marked

  module _ (m : ℕ → Bool) where
    abbrev Leak : List ℕ → Type 0
    Leak ts = (i : ℕ) × (t : ℕ) × (slice_get ts i ≡ Some t) × (t < length f.blocks) × (m t ≡ false)

    leak : (ts : List ℕ) → Leak ts ⊎ IsClosedAt m ts
    leak [] = inr (λ i t e lt. let n : None ≡ Some t = e in absurd (cc))
    leak (x ∷ ts) = first (below x (length f.blocks)) (either (m x)) (leak ts)
      where
        below : (x n : ℕ) → (x < n) ⊎ (n ≤ x)
        below zero zero = inr (omega arith)
        below zero (suc n) = inl (omega arith)
        below (suc x) zero = inr (omega arith)
        below (suc x) (suc n) = ⊎_elim (λ a. inl (omega (arith, a))) (λ a. inr (omega (arith, a))) (below x n)

        also : (x < length f.blocks → m x ≡ true) → IsClosedAt m ts → IsClosedAt m (x ∷ ts)
        also here rest zero t e lt =
            let g : Some x ≡ Some t = e in
            let same : x ≡ t = cc in
            subst (λ z. m z ≡ true) same (here (subst (λ z. z < length f.blocks) (sym same) lt))
        also here rest (suc i) t e lt = rest i t e lt

        later : (x < length f.blocks → m x ≡ true) → Leak ts ⊎ IsClosedAt m ts → Leak (x ∷ ts) ⊎ IsClosedAt m (x ∷ ts)
        later here (inl l) = inl (suc l.0, l.1, l.2, l.3, l.4)
        later here (inr c) = inr (also here c)

        first : (x < length f.blocks) ⊎ (length f.blocks ≤ x) → (m x ≡ true) ⊎ (m x ≡ false) → Leak ts ⊎ IsClosedAt m ts → Leak (x ∷ ts) ⊎ IsClosedAt m (x ∷ ts)
        first (inl lt) (inr none) rest = inl (0, x, refl, lt, none)
        first (inl lt) (inl has) rest = later (λ a. has) rest
        first (inr ge) o rest = later (λ a. absurd (omega (arith, a, ge))) rest

    abbrev LeakIn : List Block → ℕ → Type 0
    LeakIn bs k = (j : ℕ) × (b : Block) × (slice_get bs j ≡ Some b) × (m (k + j) ≡ true) × Leak (targets b.last)

    abbrev ClosedIn : List Block → ℕ → Type 0
    ClosedIn bs k = (j : ℕ) (b : Block) → slice_get bs j ≡ Some b → m (k + j) ≡ true → IsClosedAt m (targets b.last)

    leak_in : (bs : List Block) (k : ℕ) → LeakIn bs k ⊎ ClosedIn bs k
    leak_in [] k = inr (λ j b e. let n : None ≡ Some b = e in absurd (cc))
    leak_in (x ∷ bs) k = by (either (m k)) (leak (targets x.last)) (leak_in bs (suc k))
      where
        here : k + 0 ≡ k
        here = omega arith

        next : (j : ℕ) → suc k + j ≡ k + suc j
        next j = omega arith

        all : (m k ≡ true → IsClosedAt m (targets x.last)) → ClosedIn bs (suc k) → ClosedIn (x ∷ bs) k
        all first rest zero b e has =
            let g : Some x ≡ Some b = e in
            let same : x ≡ b = cc in
            subst (λ (z : Block). IsClosedAt m (targets z.last)) same (first (ap m (sym here) ∙ has))
        all first rest (suc j) b e has = rest j b e (ap m (next j) ∙ has)

        later : (m k ≡ true → IsClosedAt m (targets x.last)) → LeakIn bs (suc k) ⊎ ClosedIn bs (suc k) → LeakIn (x ∷ bs) k ⊎ ClosedIn (x ∷ bs) k
        later first (inl l) = inl (suc l.0, l.1, l.2, ap m (sym (next l.0)) ∙ l.3, l.4)
        later first (inr c) = inr (all first c)

        by : (m k ≡ true) ⊎ (m k ≡ false) → Leak (targets x.last) ⊎ IsClosedAt m (targets x.last) → LeakIn bs (suc k) ⊎ ClosedIn bs (suc k) → LeakIn (x ∷ bs) k ⊎ ClosedIn (x ∷ bs) k
        by (inl has) (inl l) rest = inl (0, x, refl, ap m here ∙ has, l)
        by (inl has) (inr c) rest = later (λ h. c) rest
        by (inr none) l rest = later (λ h. let both : true ≡ false = sym h ∙ none in absurd (cc)) rest

  -- one more mark, where a marked block goes to one without
  ahead : (m : ℕ → Bool) → IsSound m → (l : LeakIn m f.blocks 0) → IsSound (mark l.4.1 m)
  ahead m sound l k e = one (nat_eq l.4.1 k) refl e
    where
      one : (b : Bool) → nat_eq l.4.1 k ≡ b → (b || m k) ≡ true → MetAt f k 0
      one true is e =
          let met : MetAt f l.0 0 = sound l.0 (ap m (zero_plus l.0) ∙ l.3) in
          let end : MetAt f l.0 (length l.1.ops) = in_met f l.0 l.1 l.2 met (length l.1.ops) (omega arith) in
          subst (λ z. MetAt f z 0) (eqb-true l.4.1 k is) (onward l.0 (length l.1.ops) l.4.1 0 end (jumps l.0 (length l.1.ops) l.4.0 l.4.1 l.1.last (ap (λ z. item_of z (length l.1.ops)) l.2 ∙ end_item l.1.ops l.1.last) l.4.2))
      one false is e = sound k e

  no_leak : (m : ℕ → Bool) → m 0 ≡ true → IsSound m → ClosedIn m f.blocks 0 → Marks
  no_leak m first sound c =
      record { marked = m; first = first; sound = sound; closed = λ k b is has. c k b is (ap m (sym (zero_plus k)) ∙ has) }

  marks_from : (n : ℕ) (m : ℕ → Bool) → missing (length f.blocks) m ≤ n → m 0 ≡ true → IsSound m → Marks
  marks_from zero m le first sound =
      ⊎_elim
      (λ (l : LeakIn m f.blocks 0). absurd (omega (arith, le, less (length f.blocks) l.4.1 m l.4.3 l.4.4)))
      (λ c. no_leak m first sound c)
      (leak_in m f.blocks 0)
  marks_from (suc n) m le first sound =
      ⊎_elim
      (λ (l : LeakIn m f.blocks 0). marks_from n (mark l.4.1 m) (omega (arith, le, less (length f.blocks) l.4.1 m l.4.3 l.4.4)) (or_right (nat_eq l.4.1 0) (m 0) first) (ahead m sound l))
      (λ c. no_leak m first sound c)
      (leak_in m f.blocks 0)

  pub marks : Marks
  marks = marks_from (missing (length f.blocks) (nat_eq 0)) (nat_eq 0) (omega arith) (eq_self 0) (λ k e. subst (λ z. MetAt f z 0) (eqb-true 0 k e) entry)
