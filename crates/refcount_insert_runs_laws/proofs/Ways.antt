-- What holds of a register at a place and at the next one: whether it is read again, and whether it is only lent.
use Rattle.std.proofs.Common.{◌≡◌, refl, sym, ◌∙◌, ap, subst, ℕ, suc, arith, Bool, true, false, Some}
use Rattle.std.specs.Prelude.{slice_get}
use Rattle.std.proofs.lemmas.Option.{same_Some}
use Rattle.ir_core.specs.declared.code.Op.{Op}
use Rattle.ir_core.specs.declared.code.Last.{Last}
use Rattle.ir_core.specs.declared.code.Func.{Func}
use Rattle.ir_core.specs.Bare.{IsBare}
use Rattle.ir_core.specs.Items.{Item, Do, End, item_in}
use Rattle.ir_core.specs.Shape.{op_fits}
use Rattle.liveness.specs.Paths.{is_among, is_target, reads_of, write_of, reads, writes, targets, Goes, passes, fails, jumps, LiveAt, reads_here, goes_on, MetAt, onward, OwnedAt, no_parameter, written, kept, BorrowedAt}
use Rattle.liveness.proofs.OwningLemmas.{fits_owning}

module _ (f : Func) where
  -- what comes to a place that is no start of a block came from the place before it
  pub record Came (b p c q : ℕ) : Type 0 where
    pub block : b ≡ c
    pub place : suc p ≡ q

  came : (b p c q j : ℕ) → Goes f b p c q → q ≡ suc j → Came b p c q
  came b p c q j (passes x y o e) is = record { block = refl; place = refl }
  came b p c q j (fails x y h o e a g) is = absurd (omega (arith, is))
  came b p c q j (jumps x y i t l e g) is = absurd (omega (arith, is))

  module _ (b p : ℕ) (o : Op) {line : ℕ} (here : item_in f.blocks b p ≡ Some (Do o line)) where
    -- the item is this operation
    same_item : (i : Item) → item_in f.blocks b p ≡ Some i → i ≡ Do o line
    same_item i e = same_Some i (Do o line) (sym e ∙ here)

    pub met_next : MetAt f b p → MetAt f b (suc p)
    met_next met = onward b p b (suc p) met (passes b p o here)

    module _ (r : ℕ) where
      live_from : IsBare f → (c q x y : ℕ) → c ≡ b → q ≡ p → Goes f c q x y → LiveAt f r x y → LiveAt f r b (suc p)
      live_from bare c q x y same place (passes d j k e) l =
          subst (λ z. LiveAt f r z (suc p)) same (subst (λ z. LiveAt f r c (suc z)) place l)
      live_from bare c q x y same place (fails d j h k e a g) l = absurd (bare d h g)
      live_from bare c q x y same place (jumps d j i t k e g) l =
          let found : Some (End k) ≡ Some (Do o line) = sym e ∙ (ap (λ z. item_in f.blocks z q) same ∙ (ap (item_in f.blocks b) place ∙ here)) in
          absurd (cc)

      live_by : IsBare f → (c q : ℕ) → c ≡ b → q ≡ p → is_among (reads_of o) r ≡ false → LiveAt f r c q → LiveAt f r b (suc p)
      live_by bare c q same place none (reads_here d j i e is) =
          let found : i ≡ Do o line = same_item i (sym (ap (λ z. item_in f.blocks z q) same ∙ ap (item_in f.blocks b) place) ∙ e) in
          let bad : is_among (reads_of o) r ≡ true = ap (λ z. reads z r) (sym found) ∙ is in
          absurd (cc)
      live_by bare c q same place none (goes_on d j x y i e w g l) = live_from bare c q x y same place g l

      -- what is read again and not here is read again behind
      pub live_next : IsBare f → is_among (reads_of o) r ≡ false → LiveAt f r b p → LiveAt f r b (suc p)
      live_next bare none l = live_by bare b p refl refl none l

      module _ (calm : is_target (write_of o) r ≡ false) where
        -- what is read again behind, and not written here, is read again
        pub live_before : LiveAt f r b (suc p) → LiveAt f r b p
        live_before l = goes_on b p b (suc p) (Do o line) here calm (passes b p o here) l

        owned_from : (c q x y : ℕ) → x ≡ b → y ≡ suc p → (i : Item) → item_in f.blocks c q ≡ Some i → Goes f c q x y → (i ≡ Do o line) × (c ≡ b) × (q ≡ p)
        owned_from c q x y same place i e g =
            let from = came c q x y p g place in
            let block : c ≡ b = from.block ∙ same in
            let where_from : q ≡ p = omega (arith, from.place, place) in
            (same_item i (sym (ap (λ z. item_in f.blocks z q) block ∙ ap (item_in f.blocks b) where_from) ∙ e), block, where_from)

        owned_by : (x y : ℕ) → x ≡ b → y ≡ suc p → OwnedAt f r x y → OwnedAt f r b p
        owned_by x y same place (no_parameter le) = absurd (omega (arith, place))
        owned_by x y same place (written c q d j i met e is none g) =
            let from = owned_from c q x y same place i e g in
            let bad : is_target (write_of o) r ≡ true = ap (λ z. writes z r) (sym from.0) ∙ is in
            absurd (cc)
        owned_by x y same place (kept c q d j i old e none g) =
            let from = owned_from c q x y same place i e g in
            subst (λ z. OwnedAt f r z p) from.1 (subst (λ z. OwnedAt f r c z) from.2 old)

        -- what is not written here is only lent behind where it is only lent before, and the other way round
        pub borrowed_next : BorrowedAt f r b p → BorrowedAt f r b (suc p)
        borrowed_next lent = λ owned. lent (owned_by b (suc p) refl refl owned)

        pub borrowed_before : BorrowedAt f r b (suc p) → BorrowedAt f r b p
        borrowed_before lent =
            λ owned. lent (kept b p b (suc p) (Do o line) owned here calm (passes b p o here))

      -- and what is written by what fits, where a path comes, is not
      pub borrowed_kept : op_fits o ≡ true → MetAt f b p → BorrowedAt f r b (suc p) → is_target (write_of o) r ≡ false
      borrowed_kept fits met lent = by (is_target (write_of o) r) refl
        where
          by : (z : Bool) → is_target (write_of o) r ≡ z → z ≡ false
          by false e = refl
          by true e = absurd (lent (written b p b (suc p) (Do o line) met here e (fits_owning o fits) (passes b p o here)))

  -- over an edge
  module _ (b p i t : ℕ) (l : Last) (here : item_in f.blocks b p ≡ Some (End l)) (goes : slice_get (targets l) i ≡ Some t) where
    pub met_over : MetAt f b p → MetAt f t 0
    met_over met = onward b p t 0 met (jumps b p i t l here goes)

    pub live_over : (r : ℕ) → LiveAt f r t 0 → LiveAt f r b p
    live_over r live = goes_on b p t 0 (End l) here refl (jumps b p i t l here goes) live

    pub borrowed_over : (r : ℕ) → BorrowedAt f r t 0 → BorrowedAt f r b p
    borrowed_over r lent = λ owned. lent (kept b p t 0 (End l) owned here refl (jumps b p i t l here goes))
