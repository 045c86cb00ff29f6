-- The counts of what an operation touches are all its counts: any other register has before it what it is to have behind it.
use Rattle.std.proofs.Common.{◌≡◌, ℕ, suc, ◌+◌, ◌-◌, ◌≤◌, Bool, true, false, not, List, [], ◌∷◌, length, Some, refl, sym, ap, ◌∙◌, ⊎_elim, arith}
use Rattle.std.specs.Prelude.{slice_get, ◌&&◌, ◌||◌, cond, nat_eq}
use Rattle.std.specs.Option.{option_map, option_map_or}
use Rattle.c_core.specs.Cells.{times}
use Rattle.c_core.specs.Primitives.{Parameter, row_of}
use Rattle.ir_core.specs.declared.code.PArg.{PArg}
use Rattle.ir_core.specs.declared.code.PArg.TheVariants as arg
use Rattle.ir_core.specs.declared.code.Op.{Op}
use Rattle.ir_core.specs.declared.code.Op.TheVariants.{Move, Lit, Prim, Call, Virtual, TraitCall, Turn, Inc, Dec, XDec}
use Rattle.ir_core.specs.declared.code.Func.{Func}
use Rattle.ir_core.specs.declared.code.Block.{Block}
use Rattle.ir_core.specs.declared.code.RType.{RType}
use Rattle.ir_core.specs.Items.{Item, Do, item_of, item_in}
use Rattle.ir_core.specs.Rows.{Declared}
use Rattle.ir_core.proofs.ItemLemmas.{next_item}
use Rattle.c_core_ownership_laws.specs.Shares.{one_if}
use Rattle.liveness.specs.Paths.{is_among, is_target, reads_of, write_of, registers_in}
use Rattle.liveness.specs.Liveness.{says_live, says_borrowed}
use Rattle.liveness.proofs.OwnedLemmas.{below_or_not, get_none}
use Rattle.liveness.proofs.PathLemmas.{item_block}
use Rattle.refcount_insert_rule.specs.Rule.{is_counted, is_stolen, takes_one, taken, takes, gives, need, counts_before, done, counts_after, IsGroup}
use Rattle.refcount_insert_rule.specs.Counted.{counts_register}
use Rattle.refcount_insert_counts.specs.declared.counts.Counts.{Counts}
use Rattle.refcount_insert_counts.specs.declared.known.KnownRegisters.{KnownRegisters}
use Rattle.refcount_insert_counts.specs.Known.{IsKnown, owned_at}
use Rattle.refcount_insert_counts.specs.Counts.{AreOf, is_touched}
use Rattle.refcount_insert.specs.Plan.{IsCountedOp}
use Rattle.refcount_insert_counts.proofs.Times.{same_cases}
use Rattle.refcount_insert.proofs.Steps.{same_truth, live_behind, live_before, owned_behind, owned_before}

or_none : (a b : Bool) → (a || b) ≡ false → (a ≡ false) × (b ≡ false)
or_none true b e = cc
or_none false b e = (refl, e)

-- ---- what is taken is read

taken_none : (ps : List Parameter) (args : List PArg) (r : ℕ) → is_among (registers_in args) r ≡ false → taken ps args r ≡ 0
taken_none [] args r e = refl
taken_none (p ∷ ps) [] r e = refl
taken_none (p ∷ ps) (arg.Var s ∷ args) r e =
    let both = or_none (nat_eq s.0 r) (is_among (registers_in args) r) e in
    let rest = taken_none ps args r both.1 in
    let one = off (is_stolen p) s.0 both.0 in
    omega (arith, rest, one)
  where
    off : (b : Bool) (s : ℕ) → nat_eq s r ≡ false → takes_one b (arg.Var record { 0 = s }) r ≡ 0
    off true s n = ⊎_elim (λ h. let f : true ≡ false = sym h.2 ∙ n in absurd (cc)) (λ h. h.0) (same_cases s r)
    off false s n = refl
taken_none (p ∷ ps) (arg.Number n ∷ args) r e = rest_none (is_stolen p) (taken_none ps args r e)
  where
    rest_none : (b : Bool) → taken ps args r ≡ 0 → takes_one b (arg.Number n) r + taken ps args r ≡ 0
    rest_none true h = omega (arith, h)
    rest_none false h = omega (arith, h)
taken_none (p ∷ ps) (arg.Text t ∷ args) r e = rest_none (is_stolen p) (taken_none ps args r e)
  where
    rest_none : (b : Bool) → taken ps args r ≡ 0 → takes_one b (arg.Text t) r + taken ps args r ≡ 0
    rest_none true h = omega (arith, h)
    rest_none false h = omega (arith, h)
taken_none (p ∷ ps) (arg.Global g ∷ args) r e = rest_none (is_stolen p) (taken_none ps args r e)
  where
    rest_none : (b : Bool) → taken ps args r ≡ 0 → takes_one b (arg.Global g) r + taken ps args r ≡ 0
    rest_none true h = omega (arith, h)
    rest_none false h = omega (arith, h)
taken_none (p ∷ ps) (arg.Class g ∷ args) r e = rest_none (is_stolen p) (taken_none ps args r e)
  where
    rest_none : (b : Bool) → taken ps args r ≡ 0 → takes_one b (arg.Class g) r + taken ps args r ≡ 0
    rest_none true h = omega (arith, h)
    rest_none false h = omega (arith, h)

takes_none : (o : Op) (r : ℕ) → is_among (reads_of o) r ≡ false → takes o r ≡ 0
takes_none (Move x y) r e =
    ⊎_elim (λ h. let f : true ≡ false = sym h.2 ∙ (or_none (nat_eq y.0 r) false e).0 in absurd (cc)) (λ h. h.0) (same_cases y.0 r)
takes_none (Lit x l) r e = refl
takes_none (Prim to q args) r e = taken_none (row_of q).parameters args r e
takes_none (Call x g args) r e = refl
takes_none (Virtual x ob n args) r e = refl
takes_none (TraitCall x ob t n args) r e = refl
takes_none Turn r e = refl
takes_none (Inc x) r e = refl
takes_none (Dec x) r e = refl
takes_none (XDec x) r e = refl

-- ---- a register that is not touched

-- a number that is none is not counted
pub not_counted : (regs : Declared) (r : ℕ) → length regs ≤ r → counts_register regs r ≡ false
not_counted regs r le =
    ap (λ z. option_map_or is_counted (option_map (λ (x : List ℕ × RType). x.1) z) false) (get_none regs r le)

next_there : (blocks : List Block) (b p : ℕ) (o : Op) {line : ℕ} → item_in blocks b p ≡ Some (Do o line) → (i : Item) × (item_in blocks b (suc p) ≡ Some i)
next_there blocks b p o {line} e =
    let there = item_block (slice_get blocks b) p (Do o line) e in
    let next = next_item there.0.ops there.0.last p o (ap (λ z. item_of z p) (sym there.1) ∙ e) in
    (next.0, ap (λ z. item_of z (suc p)) there.1 ∙ next.1)

module _ (f : Func) (known : KnownRegisters) (is : IsKnown f known) where
  untouched : (b p : ℕ) (o : Op) (r : ℕ) {line : ℕ} → item_in f.blocks b p ≡ Some (Do o line) → is_among (reads_of o) r ≡ false → is_target (write_of o) r ≡ false → owned_at known f.regs b p r ≡ owned_at known f.regs b (suc p) r
  untouched b p o r {line} here no_read no_write =
      ⊎_elim
      (λ lt.
      let next = next_there f.blocks b p o here in
      let live = same_truth (says_live known.live b p r) (says_live known.live b (suc p) r) (is.live b p r (Do o line) here lt) (is.live b (suc p) r next.0 next.1 lt) (live_behind f r b p o here no_read no_write is.calm) (live_before f r b p o here no_read no_write) in
      let lent = same_truth (says_borrowed known.lent b p r) (says_borrowed known.lent b (suc p) r) (is.lent b p r (Do o line) here lt) (is.lent b (suc p) r next.0 next.1 lt) (λ h owned. h (owned_before f r b p o here no_read no_write owned)) (λ h owned. h (owned_behind f r b p o here no_read no_write owned)) in
      ap (λ z. one_if (counts_register f.regs r && (z && not (says_borrowed known.lent b p r)))) live ∙ ap (λ z. one_if (counts_register f.regs r && (says_live known.live b (suc p) r && not z))) lent)
      (λ ge.
      let off = not_counted f.regs r ge in
      ap (λ z. one_if (z && (says_live known.live b p r && not (says_borrowed known.lent b p r)))) off ∙ sym (ap (λ z. one_if (z && (says_live known.live b (suc p) r && not (says_borrowed known.lent b (suc p) r)))) off))
      (below_or_not r (length f.regs))

cond_zero : (b : Bool) (n : ℕ) → n ≡ 0 → cond b n 0 ≡ 0
cond_zero true n e = e
cond_zero false n e = refl

-- so it has no counts
module _ (counted : ℕ → Bool) (o : Op) (have want : ℕ → ℕ) (r : ℕ) (no_read : is_among (reads_of o) r ≡ false) (no_write : is_target (write_of o) r ≡ false) (stays : have r ≡ want r) where
  none_needed : need counted o have want r ≡ want r
  none_needed =
      ap (λ z. z + cond (is_target (write_of o) r) 0 (want r)) (takes_none o r no_read) ∙ ap (λ z. 0 + cond z 0 (want r)) no_write ∙ omega arith

  none_before : counts_before counted o have want r ≡ 0
  none_before =
      cond_zero (counted r) (need counted o have want r - have r) (let h = none_needed in omega (arith, h, stays))

  none_done : done counted o have want r ≡ have r
  none_done =
      ap (λ z. cond z (gives o (want r)) (have r + counts_before counted o have want r - takes o r)) no_write ∙ (let h = none_before in let t = takes_none o r no_read in omega (arith, h, t))

  none_after : counts_after counted o have want r ≡ 0
  none_after =
      cond_zero (counted r) (done counted o have want r - want r) (let h = none_done in omega (arith, h, stays))

of_all : (is : ℕ → Bool) (k : ℕ → ℕ) (rs : List ℕ) → AreOf is k rs → ((r : ℕ) → is r ≡ false → k r ≡ 0) → (r : ℕ) → times rs r ≡ k r
of_all is k rs each off r = each r ∙ which (is r) refl
  where
    which : (b : Bool) → is r ≡ b → cond b (k r) 0 ≡ k r
    which true e = refl
    which false e = sym (off r e)

pub group_is : (f : Func) (known : KnownRegisters) (is : IsKnown f known) (b p : ℕ) (o : Op × ℕ) (group : List (Op × ℕ)) → item_in f.blocks b p ≡ Some (Do o.0 o.1) → IsCountedOp known f.regs (owned_at known f.regs b p) (owned_at known f.regs b (suc p)) o group → IsGroup (counts_register f.regs) o (owned_at known f.regs b p) (owned_at known f.regs b (suc p)) group
group_is f known is b p o group here counted =
    let c : Counts = counted.0 in
    let have = owned_at known f.regs b p in
    let want = owned_at known f.regs b (suc p) in
    let off : (r : ℕ) → is_touched o.0 r ≡ false → (is_target (write_of o.0) r ≡ false) × (is_among (reads_of o.0) r ≡ false) = λ r e. or_none (is_target (write_of o.0) r) (is_among (reads_of o.0) r) e in
    record {
      up = c.ups;
      down = c.downs;
      is = counted.1;
      before = of_all (is_touched o.0) (counts_before (counts_register f.regs) o.0 have want) c.ups counted.2.before (λ r e. let both = off r e in none_before (counts_register f.regs) o.0 have want r both.1 both.0 (untouched f known is b p o.0 r here both.1 both.0));
      after = of_all (is_touched o.0) (counts_after (counts_register f.regs) o.0 have want) _ counted.2.after (λ r e. let both = off r e in none_after (counts_register f.regs) o.0 have want r both.1 both.0 (untouched f known is b p o.0 r here both.1 both.0));
      sure = counted.2.sure;
    }
