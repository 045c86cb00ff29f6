-- The steps by which counts of edges are put behind others, and which counts they are.
use Rattle.std.proofs.Common.{◌≡◌, ℕ, zero, suc, ◌+◌, ◌-◌, ◌<◌, ◌≤◌, ◌⊎◌, Bool, true, false, List, [], ◌∷◌, ◌++◌, length, Option, Some, None, refl, sym, ap, ◌∙◌, inl, inr, ⊎_elim, subst, arith}
use Rattle.std.specs.Prelude.{slice_get, slice_set, replicate, cond, not, ◌&&◌}
use Rattle.c_core.specs.Cells.{times}
use Rattle.ir_core.specs.declared.code.Op.{Op}
use Rattle.ir_core.specs.declared.code.Last.{Last}
use Rattle.ir_core.specs.declared.code.Last.TheVariants.{Goto, If, IfError, Return, Unreachable}
use Rattle.ir_core.specs.Rows.{Declared}
use Rattle.ir_core.specs.Shape.{LastFits}
use Rattle.c_core_ownership_laws.specs.Shares.{one_if}
use Rattle.liveness.specs.Paths.{is_among, is_target}
use Rattle.liveness.specs.Liveness.{starts_of, says_borrowed}
use Rattle.refcount_insert_rule.specs.Counted.{counts_register}
use Rattle.refcount_insert_counts.specs.declared.counts.Counts.{Counts}
use Rattle.refcount_insert_counts.specs.declared.known.KnownRegisters.{KnownRegisters}
use Rattle.refcount_insert_counts.specs.Known.{held_at, entered}
use Rattle.refcount_insert_counts.specs.Counts.{many, AreOnce, short_on, over_on, AreEdgeCounts}
use Rattle.refcount_insert_counts.specs.Ends.{AreTestCounts}
use Rattle.refcount_insert_counts.proofs.Times.{many_if}
use Rattle.refcount_insert.specs.declared.sharing.EdgeCounts.{EdgeCounts}
use Rattle.refcount_insert.specs.Sharing.{kept_at, IsPlain, Keeps, Adds, AddsBoth, AreTargetsWithin, IsShared, IsProper, AreProper}

-- ---- one more behind the others

get_front : {A : Type 0} (xs : List A) (y x : A) (i : ℕ) → slice_get xs i ≡ Some x → slice_get (xs ++ y ∷ []) i ≡ Some x
get_front [] y x i e = absurd (cc)
get_front (z ∷ xs) y x zero e = e
get_front (z ∷ xs) y x (suc i) e = get_front xs y x i e

get_last : {A : Type 0} (xs : List A) (y : A) → slice_get (xs ++ y ∷ []) (length xs) ≡ Some y
get_last [] y = refl
get_last (z ∷ xs) y = get_last xs y

get_either : {A : Type 0} (xs : List A) (y x : A) (i : ℕ) → slice_get (xs ++ y ∷ []) i ≡ Some x → (slice_get xs i ≡ Some x) ⊎ (y ≡ x)
get_either [] y x zero e = let f : Some y ≡ Some x = e in inr (cc)
get_either [] y x (suc i) e = absurd (cc)
get_either (z ∷ xs) y x zero e = inl e
get_either (z ∷ xs) y x (suc i) e = get_either xs y x i e

-- the row at one place of a list of rows, where one was set
row_set : (all : List (List EdgeCounts)) (t u : ℕ) (row : List EdgeCounts) → t < length all → ((u ≡ t) × (kept_at (slice_set all t row) u ≡ row)) ⊎ (kept_at (slice_set all t row) u ≡ kept_at all u)
row_set [] t u row lt = absurd (omega (arith, lt))
row_set (x ∷ all) zero zero row lt = inl (refl, refl)
row_set (x ∷ all) zero (suc u) row lt = inr refl
row_set (x ∷ all) (suc t) zero row lt = inr refl
row_set (x ∷ all) (suc t) (suc u) row lt =
    ⊎_elim (λ h. inl (ap suc h.0, h.1)) (λ h. inr h) (row_set all t u row (omega (arith, lt)))

row_here : (all : List (List EdgeCounts)) (t : ℕ) (row : List EdgeCounts) → t < length all → kept_at (slice_set all t row) t ≡ row
row_here [] t row lt = absurd (omega (arith, lt))
row_here (x ∷ all) zero row lt = refl
row_here (x ∷ all) (suc t) row lt = row_here all t row (omega (arith, lt))

set_size : (all : List (List EdgeCounts)) (t : ℕ) (row : List EdgeCounts) → length (slice_set all t row) ≡ length all
set_size [] t row = refl
set_size (x ∷ all) zero row = refl
set_size (x ∷ all) (suc t) row = ap suc (set_size all t row)

pub keeps_self : (all : List (List EdgeCounts)) → Keeps all all
keeps_self all = (refl, λ t i e at. at)

pub adds_none : (all : List (List EdgeCounts)) (t : ℕ) (c : Counts) → Adds all all t c
adds_none all t c u i e at = inl at

module _ (all : List (List EdgeCounts)) (t : ℕ) (lt : t < length all) (c : Counts) (e : EdgeCounts) (plain : IsPlain c e) where
  abbrev put : List (List EdgeCounts)
  put = slice_set all t (kept_at all t ++ e ∷ [])

  pub put_keeps : Keeps all (slice_set all t (kept_at all t ++ e ∷ []))
  put_keeps = (
    set_size all t (kept_at all t ++ e ∷ []),
    λ u i x at. ⊎_elim
        (λ h. ap (λ z. slice_get z i) h.1 ∙ get_front (kept_at all t) e x i (ap (λ z. slice_get (kept_at all z) i) (sym h.0) ∙ at))
        (λ h. ap (λ z. slice_get z i) h ∙ at)
        (row_set all t u (kept_at all t ++ e ∷ []) lt),
  )

  pub put_adds : Adds all (slice_set all t (kept_at all t ++ e ∷ [])) t c
  put_adds u i x at = ⊎_elim
      (λ h. ⊎_elim
      (λ old. inl (ap (λ z. slice_get (kept_at all z) i) h.0 ∙ old))
      (λ new. inr (h.0, subst (IsPlain c) new plain))
      (get_either (kept_at all t) e x i (ap (λ z. slice_get z i) (sym h.1) ∙ at)))
      (λ h. inl (ap (λ z. slice_get z i) (sym h) ∙ at))
      (row_set all t u (kept_at all t ++ e ∷ []) lt)

  pub put_shared : IsShared (slice_set all t (kept_at all t ++ e ∷ [])) t c (Some (length (kept_at all t)))
  put_shared =
      (e, ap (λ z. slice_get z (length (kept_at all t))) (row_here all t (kept_at all t ++ e ∷ []) lt) ∙ get_last (kept_at all t) e, plain)

-- ---- both edges

keeps_on : (a b c : List (List EdgeCounts)) → Keeps a b → Keeps b c → Keeps a c
keeps_on a b c one other =
    (other.0 ∙ one.0, λ t i e at. other.1 t i e (one.1 t i e at))

shared_kept : (old new : List (List EdgeCounts)) → Keeps old new → (t : ℕ) (c : Counts) (o : Option ℕ) → IsShared old t c o → IsShared new t c o
shared_kept old new keeps t c None h = h
shared_kept old new keeps t c (Some i) h = (h.0, keeps.1 t i h.0 h.1, h.2)

pub both_keep : (a b c : List (List EdgeCounts)) → Keeps a b → Keeps b c → Keeps a c
both_keep = keeps_on

pub both_add : (a b c : List (List EdgeCounts)) (t u : ℕ) (one other : Counts) → Adds a b t one → Adds b c u other → (v i : ℕ) (e : EdgeCounts) → slice_get (kept_at c v) i ≡ Some e → (slice_get (kept_at a v) i ≡ Some e) ⊎ (((v ≡ t) × IsPlain one e) ⊎ ((v ≡ u) × IsPlain other e))
both_add a b c t u one other first second v i e at = ⊎_elim
    (λ old. ⊎_elim (λ h. inl h) (λ h. inr (inl h)) (first v i e old))
    (λ h. inr (inr h))
    (second v i e at)

pub both_shared : (b c : List (List EdgeCounts)) (t u : ℕ) (one other : Counts) (o p : Option ℕ) → Keeps b c → IsShared b t one o → IsShared c u other p → IsShared c t one o × IsShared c u other p
both_shared b c t u one other o p keeps first second = (shared_kept b c keeps t one o first, second)

-- ---- which counts an edge can have

module _ (known : KnownRegisters) (regs : Declared) (b p t : ℕ) (is : ℕ → Bool) (all : List ℕ) (once : AreOnce is all) (skip : Option ℕ) (c : Counts) (counts : AreEdgeCounts all skip (held_at known regs b p) (entered known regs t) c) (e : EdgeCounts) (plain : IsPlain c e) where
  up : (r : ℕ) → times e.ups r ≡ cond (is r) (cond (is_target skip r) 0 (entered known regs t r - held_at known regs b p r)) 0
  up r =
      ap (λ z. times z r) plain.0
      ∙ (counts.short r ∙ (ap (λ z. many z (short_on skip (held_at known regs b p) (entered known regs t) r)) (once r) ∙ many_if (is r) (short_on skip (held_at known regs b p) (entered known regs t) r)))

  down : (r : ℕ) → times e.downs r ≡ cond (is r) (cond (is_target skip r) 0 (held_at known regs b p r - entered known regs t r)) 0
  down r =
      ap (λ z. times z r) plain.1
      ∙ (counts.over r ∙ (ap (λ z. many z (over_on skip (held_at known regs b p) (entered known regs t) r)) (once r) ∙ many_if (is r) (over_on skip (held_at known regs b p) (entered known regs t) r)))

  one_most : (b : Bool) → one_if b ≤ 1
  one_most true = omega arith
  one_most false = omega arith

  one_tells : (c x : Bool) → 1 ≤ one_if (c && x) → c ≡ true
  one_tells true x le = refl
  one_tells false x le = absurd (omega (arith, le))

  pub edge_proper : IsProper known regs t e
  edge_proper r = by (is r) (is_target skip r) (up r) (down r)
    where
      enter : ℕ
      enter = entered known regs t r

      by : (on off : Bool) → times e.ups r ≡ cond on (cond off 0 (entered known regs t r - held_at known regs b p r)) 0 → times e.downs r ≡ cond on (cond off 0 (held_at known regs b p r - entered known regs t r)) 0 → (times e.ups r + times e.downs r ≤ 1) × (times e.ups r ≤ entered known regs t r) × (1 ≤ times e.downs r → (entered known regs t r ≡ 0) × (counts_register regs r ≡ true))
      by false off u d = (omega (arith, u, d), omega (arith, u), λ some. absurd (omega (arith, some, d)))
      by true true u d = (omega (arith, u, d), omega (arith, u), λ some. absurd (omega (arith, some, d)))
      by true false u d =
          let few : entered known regs t r ≤ 1 = one_most (counts_register regs r && (is_among (starts_of known.live t) r && not (says_borrowed known.lent t 0 r))) in
          let less : held_at known regs b p r ≤ 1 = one_most (counts_register regs r && not (says_borrowed known.lent b p r)) in (
            omega (arith, u, d, few, less),
            omega (arith, u),
            λ some. (omega (arith, some, d, less), one_tells (counts_register regs r) (not (says_borrowed known.lent b p r)) (omega (arith, some, d))),
          )

-- ---- the targets of a test

pub targets_within : (n b : ℕ) (ops : List (Op × ℕ)) (last : Last) → LastFits n b ops last → AreTargetsWithin n last
targets_within n b ops (Goto t) h = tt
targets_within n b ops (If x t u) h = (h.0.1, h.1.1)
targets_within n b ops (IfError x t u line) h = (h.0.1, h.1.1)
targets_within n b ops (Return x) h = tt
targets_within n b ops Unreachable h = tt

module _ (known : KnownRegisters) (regs : Declared) (old new : List (List EdgeCounts)) (n b p : ℕ) (ops : List (Op × ℕ)) where
  pub still_proper : (last : Last) (c : Counts × Counts) → LastFits n b ops last → AreTestCounts known regs b p last c → AddsBoth old new last c → AreProper known regs old → AreProper known regs new
  still_proper (Goto t) c fits told adds h v i e at = h v i e (ap (λ z. slice_get (kept_at z v) i) (sym adds) ∙ at)
  still_proper (If x t u) c fits told adds h v i e at = ⊎_elim
      (λ old. h v i e old)
      (λ new. ⊎_elim
      (λ z. subst (λ w. (0 < w) × IsProper known regs w e) (sym z.0) (omega (arith, fits.0.0), edge_proper known regs b p t _ told.0 told.1 None c.0 told.2 e z.1))
      (λ z. subst (λ w. (0 < w) × IsProper known regs w e) (sym z.0) (omega (arith, fits.1.0), edge_proper known regs b p u _ told.0 told.1 None c.1 told.3 e z.1))
      new)
      (adds v i e at)
  still_proper (IfError x t u line) c fits told adds h v i e at = ⊎_elim
      (λ old. h v i e old)
      (λ new. ⊎_elim
      (λ z. subst (λ w. (0 < w) × IsProper known regs w e) (sym z.0) (omega (arith, fits.0.0), edge_proper known regs b p t _ told.0 told.1 (Some x.0) c.0 told.2 e z.1))
      (λ z. subst (λ w. (0 < w) × IsProper known regs w e) (sym z.0) (omega (arith, fits.1.0), edge_proper known regs b p u _ told.0 told.1 None c.1 told.3 e z.1))
      new)
      (adds v i e at)
  still_proper (Return x) c fits told adds h v i e at = h v i e (ap (λ z. slice_get (kept_at z v) i) (sym adds) ∙ at)
  still_proper Unreachable c fits told adds h v i e at = h v i e (ap (λ z. slice_get (kept_at z v) i) (sym adds) ∙ at)

-- where nothing is kept yet
empty_rows : (n t i : ℕ) (e : EdgeCounts) → slice_get (kept_at (replicate n []) t) i ≡ Some e → ⊥
empty_rows zero t i e at = let f : None ≡ Some e = at in absurd (cc)
empty_rows (suc n) zero i e at = let f : None ≡ Some e = at in absurd (cc)
empty_rows (suc n) (suc t) i e at = empty_rows n t i e at

pub none_proper : (known : KnownRegisters) (regs : Declared) (n : ℕ) (all : List (List EdgeCounts)) → all ≡ replicate n [] → AreProper known regs all
none_proper known regs n all is t i e at =
    absurd (empty_rows n t i e (ap (λ z. slice_get (kept_at z t) i) (sym is) ∙ at))

pub none_size : (n : ℕ) (all : List (List EdgeCounts)) → all ≡ replicate n [] → length all ≡ n
none_size n all is = ap length is ∙ size n
  where
    size : (n : ℕ) → length {A = List EdgeCounts} (replicate n []) ≡ n
    size zero = refl
    size (suc n) = ap suc (size n)
