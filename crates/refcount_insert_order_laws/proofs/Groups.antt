-- An operation with its counts is in order: from the shares before it, it comes to those after it.
use Rattle.std.proofs.Common.{◌≡◌, refl, sym, ap, ◌∙◌, subst, ℕ, ◌+◌, ◌-◌, ◌≤◌, ⊎_elim, Bool, true, false, cond, List, [], ◌∷◌, ◌++◌, arith, Some, None, eqb-true}
use Rattle.std.specs.Prelude.{nat_eq}
use Rattle.c_core.specs.declared.code.Line.{Line}
use Rattle.c_core.specs.declared.code.CFunc.{CFunc}
use Rattle.c_core.specs.declared.code.Code.{Code}
use Rattle.c_core.specs.Cells.{times}
use Rattle.c_core.specs.Primitives.{Parameter, row_of}
use Rattle.c_core.specs.WellFormed.{Declared, spelled_line, line_fits}
use Rattle.ir_core.specs.declared.code.PArg.{PArg}
use Rattle.ir_core.specs.declared.code.PArg.TheVariants as arg
use Rattle.ir_core.specs.declared.code.Op.{Op}
use Rattle.ir_core.specs.declared.code.Op.TheVariants.{Move, Lit, Prim, Call, Virtual, TraitCall, Turn, Inc, Dec, XDec}
use Rattle.ir_core.specs.declared.code.Program.{Program}
use Rattle.ir_core.specs.Lower.{line_of, op_lines}
use Rattle.ir_core.specs.Shape.{op_fits}
use Rattle.c_core_ownership_laws.specs.Shares.{put, Shares, with_share, IsUsable}
use Rattle.liveness.specs.Paths.{is_among, reads_of, write_of, is_target, registers_in}
use Rattle.refcount_insert_rule.specs.Rule.{is_stolen, takes_one, taken, takes, gives, need, counts_before, done, counts_after, downs, given_up}
use Rattle.refcount_insert_rule.proofs.Balance.{gives_least}
use Rattle.refcount_insert_order_laws.proofs.Numbers.{ext, put_is, put_off, eq_self, same_found, or_left, or_right, some_of, is_short, done_is, wanted_is, given_is}
use Rattle.refcount_insert_order_laws.proofs.Counts.{Fine, usable_more, downs_check}

-- the shares before and behind an operation suit it
pub record Suits (vars : List Declared) (counted : ℕ → Bool) (o : Op) (σ τ : Shares) : Type 0 where
  pub few : (r : ℕ) → σ.owns r ≤ 1
  pub few_after : (r : ℕ) → τ.owns r ≤ 1
  pub off : (r : ℕ) → counted r ≡ false → σ.owns r ≡ 0
  pub off_after : (r : ℕ) → counted r ≡ false → τ.owns r ≡ 0
  pub read : (r : ℕ) → is_among (reads_of o) r ≡ true → IsUsable vars σ r
  pub kept : (r : ℕ) → is_target (write_of o) r ≡ false → 1 ≤ τ.owns r → IsUsable vars σ r
  pub clear : (r : ℕ) → is_target (write_of o) r ≡ true → is_among (reads_of o) r ≡ false → σ.owns r ≡ 0
  pub lent : (r : ℕ) → τ.lent r ≡ cond (is_target (write_of o) r) false (σ.lent r)
  pub none_held : (r : ℕ) → σ.held r ≡ false
  pub none_held_after : (r : ℕ) → τ.held r ≡ false
  pub none_empty : (r : ℕ) → σ.empty r ≡ false
  pub none_empty_after : (r : ℕ) → τ.empty r ≡ false

-- what the C text of a program asks of an operation
pub record IsFit (p : Program) (code : Code) (g : CFunc) (o : Op) : Type 0 where
  pub op : op_fits o ≡ true
  pub spelled : spelled_line g.vars (line_of p o) ≡ true
  pub fits : line_fits code g.vars g.ret (line_of p o) ≡ true

-- ---- what is taken is read
taken_read : (ps : List Parameter) (args : List PArg) (r : ℕ) → 1 ≤ taken ps args r → is_among (registers_in args) r ≡ true
taken_read [] [] r le = absurd (omega (arith, le))
taken_read [] (a ∷ args) r le = absurd (omega (arith, le))
taken_read (p ∷ ps) [] r le = absurd (omega (arith, le))
taken_read (p ∷ ps) (a ∷ args) r le =
    ⊎_elim (λ here. first (is_stolen p) a here) (λ later. rest a (taken_read ps args r later)) (some_of (takes_one (is_stolen p) a r) (taken ps args r) le)
  where
    rest : (a : PArg) → is_among (registers_in args) r ≡ true → is_among (registers_in (a ∷ args)) r ≡ true
    rest (arg.Var s) e = or_right (nat_eq s.0 r) (is_among (registers_in args) r) e
    rest (arg.Number n) e = e
    rest (arg.Text n) e = e
    rest (arg.Global n) e = e
    rest (arg.Class n) e = e

    first : (b : Bool) (a : PArg) → 1 ≤ takes_one b a r → is_among (registers_in (a ∷ args)) r ≡ true
    first true (arg.Var s) le = or_left (nat_eq s.0 r) (is_among (registers_in args) r) (same_found s.0 r le)
    first true (arg.Number n) le = absurd (omega (arith, le))
    first true (arg.Text n) le = absurd (omega (arith, le))
    first true (arg.Global n) le = absurd (omega (arith, le))
    first true (arg.Class n) le = absurd (omega (arith, le))
    first false a le = absurd (omega (arith, le))

takes_read : (o : Op) (r : ℕ) → 1 ≤ takes o r → is_among (reads_of o) r ≡ true
takes_read (Move x y) r le = or_left (nat_eq y.0 r) false (same_found y.0 r le)
takes_read (Lit x l) r le = absurd (omega (arith, le))
takes_read (Prim to k args) r le = taken_read (row_of k).parameters args r le
takes_read (Call x n args) r le = absurd (omega (arith, le))
takes_read (Virtual x o n args) r le = absurd (omega (arith, le))
takes_read (TraitCall x o t n args) r le = absurd (omega (arith, le))
takes_read Turn r le = absurd (omega (arith, le))
takes_read (Inc x) r le = absurd (omega (arith, le))
takes_read (Dec x) r le = absurd (omega (arith, le))
takes_read (XDec x) r le = absurd (omega (arith, le))

cond_twice : (c : Bool) (n : ℕ) → cond c n 0 ≡ cond c (cond c n 0) 0
cond_twice true n = refl
cond_twice false n = refl

-- the target holds nothing where it is written
free_number : (c : Bool) (h u tk : ℕ) → u ≡ cond c (tk + 0 - h) 0 → (c ≡ false → h ≡ 0) → h ≤ tk → h + u - tk ≡ 0
free_number true h u tk e z le = omega (arith, e, le)
free_number false h u tk e z le = omega (arith, e, z refl)

enough_number : (c : Bool) (h u tk w : ℕ) → c ≡ true → u ≡ cond c (tk + w - h) 0 → tk ≤ h + u
enough_number true h u tk w is e = omega (arith, e)
enough_number false h u tk w is e = absurd (cc)

none_number : (c : Bool) (h u n : ℕ) → c ≡ false → u ≡ cond c n 0 → h ≡ 0 → h + u ≡ 0
none_number true h u n is e z = absurd (cc)
none_number false h u n is e z = omega (arith, e, z)

module _ (p q : Program) (code : Code) (g : CFunc) (counted : ℕ → Bool) (Enters : ℕ → Shares → Type 0) (End : Shares → Type 0) (o : Op) (σ τ : Shares) (fit : Suits g.vars counted o σ τ) (up : List ℕ) (ds : List (ℕ × Bool)) (before : (r : ℕ) → times up r ≡ counts_before counted o σ.owns τ.owns r) (after : (r : ℕ) → times (given_up ds) r ≡ counts_after counted o σ.owns τ.owns r) (n : ℕ) (ls : List Line) (rest : Fine q code g Enters End τ ls) where
  -- the shares when all is taken that is short
  abbrev pub Up : Shares
  Up = record σ { owns = λ r. σ.owns r + times up r }

  abbrev pub Goes : Shares → Type 0
  Goes ρ = Fine q code g Enters End ρ (op_lines q (downs ds n) ++ ls)

  pub usable_up : (r : ℕ) → IsUsable g.vars σ r → IsUsable g.vars Up r
  usable_up r u = usable_more q code g Enters End σ Up.owns r (omega arith) u

  pub short_usable : (r : ℕ) → 1 ≤ times up r → IsUsable g.vars σ r
  short_usable r le =
      let s = is_short (counted r) (times up r) (need counted o σ.owns τ.owns r) (σ.owns r) (before r) le in
      ⊎_elim (λ t. fit.read r (takes_read o r t)) (λ t. wanted (is_target (write_of o) r) refl t) (some_of (takes o r) (cond (is_target (write_of o) r) 0 (τ.owns r)) s.1)
    where
      wanted : (b : Bool) → is_target (write_of o) r ≡ b → 1 ≤ cond b 0 (τ.owns r) → IsUsable g.vars σ r
      wanted true is le = absurd (omega (arith, le))
      wanted false is le = fit.kept r is le

  pub enough : (r : ℕ) → counted r ≡ true → takes o r ≤ σ.owns r + times up r
  enough r is = enough_number (counted r) (σ.owns r) (times up r) (takes o r) (cond (is_target (write_of o) r) 0 (τ.owns r)) is (before r)

  pub none_up : (r : ℕ) → counted r ≡ false → σ.owns r + times up r ≡ 0
  none_up r is = none_number (counted r) (σ.owns r) (times up r) (need counted o σ.owns τ.owns r - σ.owns r) is (before r) (fit.off r is)

  -- the counts behind the operation bring what is there to what is wanted
  finish : (ρ : Shares) → ((r : ℕ) → ρ.owns r ≡ cond (counted r) (done counted o σ.owns τ.owns r) 0) → ((r : ℕ) → ρ.lent r ≡ τ.lent r) → ((r : ℕ) → ρ.held r ≡ false) → ((r : ℕ) → ρ.empty r ≡ false) → Goes ρ
  finish ρ e l off full =
      let want : (r : ℕ) → counted r ≡ true → τ.owns r ≤ done counted o σ.owns τ.owns r = λ r is.
      subst (λ c. τ.owns r ≤ cond (is_target (write_of o) r) (gives o (τ.owns r)) (σ.owns r + cond c (need counted o σ.owns τ.owns r - σ.owns r) 0 - takes o r)) (sym is)
      (wanted_is (is_target (write_of o) r) (τ.owns r) (gives o (τ.owns r)) (σ.owns r) (takes o r) (gives_least o (τ.owns r) (fit.few_after r))) in
      let all : (r : ℕ) → (times (given_up ds) r ≤ ρ.owns r) × (τ.owns r ≡ ρ.owns r - times (given_up ds) r) = λ r.
      given_is (counted r) (done counted o σ.owns τ.owns r) (τ.owns r) (ρ.owns r) (times (given_up ds) r) (e r) (after r) (want r) (fit.off_after r) in
      let want_owns : Fine q code g Enters End (record { owns = λ r. ρ.owns r - times (given_up ds) r; lent = τ.lent; held = τ.held; empty = τ.empty }) ls =
      subst (λ z. Fine q code g Enters End (record { owns = z; lent = τ.lent; held = τ.held; empty = τ.empty }) ls) (λ i r. (all r).1 i) rest in
      let want_held : Fine q code g Enters End (record { owns = λ r. ρ.owns r - times (given_up ds) r; lent = τ.lent; held = λ r. false; empty = τ.empty }) ls =
      subst (λ z. Fine q code g Enters End (record { owns = λ r. ρ.owns r - times (given_up ds) r; lent = τ.lent; held = z; empty = τ.empty }) ls) (λ i r. fit.none_held_after r i) want_owns in
      let want_empty : Fine q code g Enters End (record { owns = λ r. ρ.owns r - times (given_up ds) r; lent = τ.lent; held = λ r. false; empty = ρ.empty }) ls =
      subst (λ z. Fine q code g Enters End (record { owns = λ r. ρ.owns r - times (given_up ds) r; lent = τ.lent; held = λ r. false; empty = z }) ls) (ext (λ r. fit.none_empty_after r ∙ sym (full r))) want_held in
      downs_check q code g Enters End ds n ρ ls (λ r. (all r).0) off (subst (λ z. Fine q code g Enters End (record { owns = λ r. ρ.owns r - times (given_up ds) r; lent = z; held = λ r. false; empty = ρ.empty }) ls) (λ i r. sym (l r) i) want_empty)

  -- behind an operation with a target, which gives it n references
  pub written : (x m : ℕ) (k : ℕ → ℕ) (h : ℕ → Bool) → write_of o ≡ Some x → ((r : ℕ) → k r ≡ σ.owns r + times up r - takes o r) → m ≡ cond (counted x) (gives o (τ.owns x)) 0 → ((r : ℕ) → h r ≡ false) → Goes (with_share x m false (record { owns = k; lent = σ.lent; held = h; empty = σ.empty }))
  written x m k h w e em off =
      let hit : (r : ℕ) → is_target (write_of o) r ≡ nat_eq x r = λ r. ap (λ z. is_target z r) w in
      let own : (r : ℕ) → put x m k r ≡ cond (counted r) (done counted o σ.owns τ.owns r) 0 = λ r.
      put_is x m k r ∙ (ap (λ b. cond b m (k r)) (sym (hit r))
      ∙ done_is (counted r) (is_target (write_of o) r) m (k r) (σ.owns r) (times up r) (counts_before counted o σ.owns τ.owns r) (takes o r) (gives o (τ.owns r)) (e r) (before r) (cond_twice (counted r) (need counted o σ.owns τ.owns r - σ.owns r)) (fit.off r)
      (λ t. em ∙ ap (λ z. cond (counted z) (gives o (τ.owns z)) 0) (eqb-true x r (sym (hit r) ∙ t)))) in
      finish (with_share x m false (record { owns = k; lent = σ.lent; held = h; empty = σ.empty })) own (λ r. put_is x false σ.lent r ∙ (ap (λ b. cond b false (σ.lent r)) (sym (hit r)) ∙ sym (fit.lent r))) (λ r. put_off x h off r) (λ r. put_off x σ.empty fit.none_empty r)

  -- behind an operation without one
  pub unwritten : (k : ℕ → ℕ) (h : ℕ → Bool) → write_of o ≡ None → ((r : ℕ) → k r ≡ σ.owns r + times up r - takes o r) → ((r : ℕ) → h r ≡ false) → Goes (record { owns = k; lent = σ.lent; held = h; empty = σ.empty })
  unwritten k h w e off =
      let hit : (r : ℕ) → is_target (write_of o) r ≡ false = λ r. ap (λ z. is_target z r) w in
      let own : (r : ℕ) → k r ≡ cond (counted r) (done counted o σ.owns τ.owns r) 0 = λ r.
      ap (λ b. cond b 0 (k r)) (sym (hit r))
      ∙ done_is (counted r) (is_target (write_of o) r) 0 (k r) (σ.owns r) (times up r) (counts_before counted o σ.owns τ.owns r) (takes o r) (gives o (τ.owns r)) (e r) (before r) (cond_twice (counted r) (need counted o σ.owns τ.owns r - σ.owns r)) (fit.off r)
      (λ t. let both : true ≡ false = sym t ∙ hit r in absurd (cc)) in
      finish (record { owns = k; lent = σ.lent; held = h; empty = σ.empty }) own (λ r. ap (λ b. cond b false (σ.lent r)) (sym (hit r)) ∙ sym (fit.lent r)) off fit.none_empty

  -- nothing is owned through the target when the operation has taken
  pub free : (x : ℕ) → write_of o ≡ Some x → σ.owns x ≤ takes o x → σ.owns x + times up x - takes o x ≡ 0
  free x w le =
      let hit : is_target (write_of o) x ≡ true = ap (λ z. is_target z x) w ∙ eq_self x in
      free_number (counted x) (σ.owns x) (times up x) (takes o x) (before x ∙ ap (λ b. cond (counted x) (takes o x + cond b 0 (τ.owns x) - σ.owns x) 0) hit) (fit.off x) le

  pub clear_least : (x : ℕ) → write_of o ≡ Some x → is_among (reads_of o) x ≡ false → σ.owns x ≤ takes o x
  clear_least x w e =
      let hit : is_target (write_of o) x ≡ true = ap (λ z. is_target z x) w ∙ eq_self x in
      omega (arith, fit.clear x hit e)
