-- Why a count stands where it stands: what is taken before an operation is read by it, what is given up behind it was read by it,
-- and what is taken on an edge is only lent before it.
use Rattle.std.proofs.Common.{◌≡◌, refl, sym, ◌∙◌, ap, ℕ, suc, ◌+◌, ◌-◌, ◌<◌, ◌≤◌, arith, Bool, true, false, cond, Some, ⊎_elim}
use Rattle.std.specs.Prelude.{slice_get, not, ◌&&◌, [], ◌∷◌}
use Rattle.std.proofs.lemmas.Bool.{eq-eqb}
use Rattle.c_core.proofs.CountLemmas.{same_self}
use Rattle.c_core.specs.Cells.{same}
use Rattle.ir_core.specs.declared.code.Op.{Op}
use Rattle.ir_core.specs.declared.code.Reg.{Reg}
use Rattle.ir_core.specs.declared.code.Last.{Last}
use Rattle.ir_core.specs.declared.code.Last.TheVariants.{Return}
use Rattle.ir_core.specs.declared.code.Func.{Func}
use Rattle.ir_core.specs.Items.{Item, Do, End, item_in}
use Rattle.liveness.specs.Paths.{is_among, is_target, reads_of, write_of, targets, reads_here, LiveAt, BorrowedAt}
use Rattle.refcount_insert_rule.specs.Rule.{takes, gives, counts_before, counts_after}
use Rattle.refcount_insert_rule.specs.Counted.{counts_register, Tables, owned}
use Rattle.refcount_insert_runs_laws.proofs.Ways.{live_next, live_before, borrowed_next, borrowed_before, live_over}
use Rattle.refcount_insert_runs_laws.proofs.Numbers.{among_first, either, some_or_none, one_all, one_most, none_lent, same_is, takes_read, counted_declared}

-- ---- numbers
some_counted : (c : Bool) (n : ℕ) → 0 < cond c n 0 → c ≡ true
some_counted true n some = refl
some_counted false n some = absurd (omega (arith, some))

short_of : (c to : Bool) (t h w : ℕ) → 0 < cond c (t + cond to 0 w - h) 0 → t ≡ 0 → (to ≡ false) × (h < w)
short_of true true t h w some none = absurd (omega (arith, some, none))
short_of true false t h w some none = (refl, omega (arith, some, none))
short_of false to t h w some none = absurd (omega (arith, some))

over_of : (c to : Bool) (g t h w : ℕ) → 0 < cond c (cond to g (h + cond c (t + cond to 0 w - h) 0 - t) - w) 0 → to ≡ false → t ≡ 0 → w < h
over_of true true g t h w some calm none = absurd (cc)
over_of true false g t h w some calm none = omega (arith, some, none)
over_of false to g t h w some calm none = absurd (omega (arith, some))

returned_of : (c : Bool) (s h : ℕ) → 0 < cond c (s - h) 0 → (0 < s) × (h < s)
returned_of true s h some = (omega (arith, some), omega (arith, some))
returned_of false s h some = absurd (omega (arith, some))

first_read : (s r : ℕ) → s ≡ r → is_among (s ∷ []) r ≡ true
first_read s r e = among_first s r [] (eq-eqb s r e)

one_same : (s r : ℕ) → s ≡ r → same s r ≡ 1
one_same s r e = ap (same s) (sym e) ∙ same_self s

module _ (f : Func) (t : Tables f) where
  abbrev pub counted : ℕ → Bool
  counted = counts_register f.regs

  -- what the tables say of a register that is counted
  module _ (b p : ℕ) (i : Item) (here : item_in f.blocks b p ≡ Some i) (r : ℕ) (yes : counted r ≡ true) where
    pub lives : t.live b p r ≡ true → LiveAt f r b p
    lives e = (t.is_live b p r i here (counted_declared f.regs r yes)).0 e

    pub is_live : LiveAt f r b p → t.live b p r ≡ true
    is_live l = (t.is_live b p r i here (counted_declared f.regs r yes)).1 l

    pub lends : t.lent b p r ≡ true → BorrowedAt f r b p
    lends e = (t.is_lent b p r i here (counted_declared f.regs r yes)).0 e

    pub is_lent : BorrowedAt f r b p → t.lent b p r ≡ true
    is_lent l = (t.is_lent b p r i here (counted_declared f.regs r yes)).1 l

    -- what is read again and owns nothing is only lent
    pub only_lent : LiveAt f r b p → owned f t b p r ≡ 0 → BorrowedAt f r b p
    only_lent live none =
        lends (none_lent (counted r) (t.live b p r) (t.lent b p r) yes (is_live live) none)

  module _ (b p : ℕ) (o : Op) {line : ℕ} (here : item_in f.blocks b p ≡ Some (Do o line)) (i : Item) (there : item_in f.blocks b (suc p) ≡ Some i) (r : ℕ) where
    abbrev have : ℕ
    have = owned f t b p r

    abbrev want : ℕ
    want = owned f t b (suc p) r

    have_most : have ≤ 1
    have_most = one_most (counted r && (t.live b p r && not (t.lent b p r)))

    want_most : want ≤ 1
    want_most = one_most (counted r && (t.live b (suc p) r && not (t.lent b (suc p) r)))

    -- what is short is read
    pub short_read : 0 < counts_before counted o (owned f t b p) (owned f t b (suc p)) r → (counted r ≡ true) × (is_among (reads_of o) r ≡ true)
    short_read some =
        (yes, ⊎_elim (λ one. takes_read o r one) (λ none. absurd (none_short none)) (some_or_none (takes o r)))
      where
        yes : counted r ≡ true
        yes = some_counted (counted r) _ some

        none_short : takes o r ≡ 0 → ⊥
        none_short none =
            let h = short_of (counted r) (is_target (write_of o) r) (takes o r) have want some none in
            let all = one_all (counted r) (t.live b (suc p) r) (t.lent b (suc p) r) (omega (arith, h.1)) in
            let live : LiveAt f r b p = live_before f b p o here r h.0 (lives b (suc p) i there r yes all.1) in
            let lent : BorrowedAt f r b p = only_lent b p (Do o line) here r yes live (omega (arith, h.1, want_most)) in
            let bad : t.lent b (suc p) r ≡ true = is_lent b (suc p) i there r yes (borrowed_next f b p o here r h.0 lent) in
            absurd (cc)

    -- what is over, and is not the target, was read
    pub over_read : 0 < counts_after counted o (owned f t b p) (owned f t b (suc p)) r → is_target (write_of o) r ≡ false → (counted r ≡ true) × (is_among (reads_of o) r ≡ true)
    over_read some calm =
        (yes, ⊎_elim (λ e. e) (λ e. absurd (unread e)) (either (is_among (reads_of o) r)))
      where
        yes : counted r ≡ true
        yes = some_counted (counted r) _ some

        unread : is_among (reads_of o) r ≡ false → ⊥
        unread not_read =
            ⊎_elim (λ one. let e : is_among (reads_of o) r ≡ true = takes_read o r one in absurd (cc)) (λ none. none_taken none) (some_or_none (takes o r))
          where
            none_taken : takes o r ≡ 0 → ⊥
            none_taken none =
                let lt : want < have = over_of (counted r) (is_target (write_of o) r) (gives o want) (takes o r) have want some calm none in
                let all = one_all (counted r) (t.live b p r) (t.lent b p r) (omega (arith, lt)) in
                let live : LiveAt f r b (suc p) = live_next f b p o here r t.calm not_read (lives b p (Do o line) here r yes all.1) in
                let lent : BorrowedAt f r b (suc p) = only_lent b (suc p) i there r yes live (omega (arith, lt, have_most)) in
                let bad : t.lent b p r ≡ true = is_lent b p (Do o line) here r yes (borrowed_before f b p o here r calm lent) in
                absurd (cc)

    pub over_counted : 0 < counts_after counted o (owned f t b p) (owned f t b (suc p)) r → counted r ≡ true
    over_counted some = some_counted (counted r) _ some

  -- ---- over an edge
  module _ (b p : ℕ) (l : Last) (here : item_in f.blocks b p ≡ Some (End l)) (r : ℕ) where
    module _ (i c : ℕ) (goes : slice_get (targets l) i ≡ Some c) (x : Item) (there : item_in f.blocks c 0 ≡ Some x) where
      pub edge_short : owned f t b p r < owned f t c 0 r → (counted r ≡ true) × BorrowedAt f r b p
      edge_short lt =
          let all = one_all (counted r) (t.live c 0 r) (t.lent c 0 r) (omega (arith, lt)) in
          let most : owned f t c 0 r ≤ 1 = one_most (counted r && (t.live c 0 r && not (t.lent c 0 r))) in
          let live : LiveAt f r b p = live_over f b p i c l here goes r (lives c 0 x there r all.0 all.1) in
          (all.0, only_lent b p (End l) here r all.0 live (omega (arith, lt, most)))

      pub edge_over : owned f t c 0 r < owned f t b p r → counted r ≡ true
      edge_over lt =
          (one_all (counted r) (t.live b p r) (t.lent b p r) (omega (arith, lt))).0

  pub returned_short : (b p : ℕ) (x : Reg) (here : item_in f.blocks b p ≡ Some (End (Return x))) (r : ℕ) → 0 < cond (counted r) (same x.0 r - owned f t b p r) 0 → (counted r ≡ true) × BorrowedAt f r b p
  returned_short b p x here r some =
      let yes : counted r ≡ true = some_counted (counted r) _ some in
      let h = returned_of (counted r) (same x.0 r) (owned f t b p r) some in
      let is : x.0 ≡ r = same_is x.0 r h.0 in
      let live : LiveAt f r b p = reads_here b p (End (Return x)) here (first_read x.0 r is) in
      (yes, only_lent b p (End (Return x)) here r yes live (omega (arith, h.1, one_same x.0 r is)))
