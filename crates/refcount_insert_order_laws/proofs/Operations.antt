-- Each operation is in order, from the shares when all is taken that is short.
use Rattle.std.proofs.Common.{◌≡◌, refl, sym, ap, ◌∙◌, ℕ, ◌+◌, ◌-◌, ◌≤◌, inl, inr, ⊎_elim, Bool, true, false, List, [], ◌∷◌, map, arith, Option, Some, None, eqb-true}
use Rattle.std.specs.Prelude.{nat_eq, ◌||◌}
use Rattle.std.specs.List.{list_any}
use Rattle.c_core.specs.declared.code.Kind.{Kind}
use Rattle.c_core.specs.declared.code.CArg.{CArg}
use Rattle.c_core.specs.declared.code.CFunc.{CFunc}
use Rattle.c_core.specs.declared.code.Code.{Code}
use Rattle.c_core.specs.Cells.{same}
use Rattle.c_core.specs.Functions.{parameter_kinds}
use Rattle.c_core.specs.Primitives.{KindAt, Is, OfGlobal, OfSlot, Parameter, Borrows, Steals, MaySteal, TakesNumber, TakesPlace, TakesText, TakesDecimal, TakesException, TakesGlobal, TakesClass, Owned}
use Rattle.c_core.specs.WellFormed.{Declared, kind_at, named_kind, has_kind, kind_fits, kinds_agree, target_fits, function_call_fits, passes}
use Rattle.c_core.proofs.Lines.{and_true}
use Rattle.ir_core.specs.declared.code.Reg.{Reg}
use Rattle.ir_core.specs.declared.code.PArg.{PArg}
use Rattle.ir_core.specs.declared.code.PArg.TheVariants as arg
use Rattle.ir_core.specs.declared.code.Op.TheVariants.{Prim}
use Rattle.ir_core.specs.Lower.{argument_in, register_in}
use Rattle.ir_core.specs.Shape.{is_argument, is_register}
use Rattle.c_core_ownership_laws.specs.Shares.{Shares, may_refer, may_have_cells, has_cells, IsUsable, AreUsable, IsGiven, AreGiven, left_over, one_taken, cells_at, returns_cells}
use Rattle.liveness.specs.Paths.{is_among, reads_of, write_of, is_target, registers_in}
use Rattle.liveness.specs.Paths as path
use Rattle.refcount_insert_rule.specs.Rule.{is_stolen, takes_one, taken}
use Rattle.refcount_insert_order_laws.proofs.Numbers.{eq_self, put-less, either, same_self, or_left, or_right, or_none}
use Rattle.refcount_insert_order_laws.proofs.Variables.{has_kind_is}

-- ---- arguments
-- what arguments leave
pub left-over : (vars : List Declared) (ps : List Parameter) (args : List PArg) (k : ℕ → ℕ) (r : ℕ) → left_over vars ps (map argument_in args) k r ≡ k r - taken ps args r
left-over vars [] [] k r = omega arith
left-over vars [] (a ∷ args) k r = omega arith
left-over vars (p ∷ ps) [] k r = omega arith
left-over vars (p ∷ ps) (a ∷ args) k r =
    left-over vars ps args (one_taken vars p (argument_in a) k) r ∙ by p a
  where
    by : (p : Parameter) (a : PArg) → one_taken vars p (argument_in a) k r - taken ps args r ≡ k r - (takes_one (is_stolen p) a r + taken ps args r)
    by (Steals h w) (arg.Var s) = omega (arith, put-less s.0 k r)
    by (MaySteal h w) (arg.Var s) = omega (arith, put-less s.0 k r)
    by (Steals h w) (arg.Number n) = omega arith
    by (MaySteal h w) (arg.Number n) = omega arith
    by (Steals h w) (arg.Text n) = omega arith
    by (MaySteal h w) (arg.Text n) = omega arith
    by (Steals h w) (arg.Global n) = omega arith
    by (MaySteal h w) (arg.Global n) = omega arith
    by (Steals h w) (arg.Class n) = omega arith
    by (MaySteal h w) (arg.Class n) = omega arith
    by (Borrows h w) a = omega arith
    by TakesNumber a = omega arith
    by TakesPlace a = omega arith
    by TakesText a = omega arith
    by TakesDecimal a = omega arith
    by TakesException a = omega arith
    by TakesGlobal a = omega arith
    by TakesClass a = omega arith

-- an argument that is no variable
abbrev IsWritten : PArg → Type 0
IsWritten (arg.Var s) = ⊥
IsWritten _ = Unit {0}

written_given : (vars : List Declared) (σ : Shares) (p : Parameter) (a : PArg) (k : ℕ → ℕ) → IsWritten a → IsGiven vars σ p (argument_in a) k
written_given vars σ p (arg.Var s) k no_var = absurd no_var
written_given vars σ (Borrows h w) (arg.Number n) k no_var = tt
written_given vars σ (Borrows h w) (arg.Text n) k no_var = tt
written_given vars σ (Borrows h w) (arg.Global n) k no_var = tt
written_given vars σ (Borrows h w) (arg.Class n) k no_var = tt
written_given vars σ (Steals h w) (arg.Number n) k no_var = tt
written_given vars σ (MaySteal h w) (arg.Number n) k no_var = tt
written_given vars σ (Steals h w) (arg.Text n) k no_var = tt
written_given vars σ (MaySteal h w) (arg.Text n) k no_var = tt
written_given vars σ (Steals h w) (arg.Global n) k no_var = tt
written_given vars σ (MaySteal h w) (arg.Global n) k no_var = tt
written_given vars σ (Steals h w) (arg.Class n) k no_var = tt
written_given vars σ (MaySteal h w) (arg.Class n) k no_var = tt
written_given vars σ TakesNumber (arg.Number n) k no_var = tt
written_given vars σ TakesNumber (arg.Text n) k no_var = tt
written_given vars σ TakesNumber (arg.Global n) k no_var = tt
written_given vars σ TakesNumber (arg.Class n) k no_var = tt
written_given vars σ TakesPlace (arg.Number n) k no_var = tt
written_given vars σ TakesPlace (arg.Text n) k no_var = tt
written_given vars σ TakesPlace (arg.Global n) k no_var = tt
written_given vars σ TakesPlace (arg.Class n) k no_var = tt
written_given vars σ TakesText (arg.Number n) k no_var = tt
written_given vars σ TakesText (arg.Text n) k no_var = tt
written_given vars σ TakesText (arg.Global n) k no_var = tt
written_given vars σ TakesText (arg.Class n) k no_var = tt
written_given vars σ TakesDecimal (arg.Number n) k no_var = tt
written_given vars σ TakesDecimal (arg.Text n) k no_var = tt
written_given vars σ TakesDecimal (arg.Global n) k no_var = tt
written_given vars σ TakesDecimal (arg.Class n) k no_var = tt
written_given vars σ TakesException (arg.Number n) k no_var = tt
written_given vars σ TakesException (arg.Text n) k no_var = tt
written_given vars σ TakesException (arg.Global n) k no_var = tt
written_given vars σ TakesException (arg.Class n) k no_var = tt
written_given vars σ TakesGlobal (arg.Number n) k no_var = tt
written_given vars σ TakesGlobal (arg.Text n) k no_var = tt
written_given vars σ TakesGlobal (arg.Global n) k no_var = tt
written_given vars σ TakesGlobal (arg.Class n) k no_var = tt
written_given vars σ TakesClass (arg.Number n) k no_var = tt
written_given vars σ TakesClass (arg.Text n) k no_var = tt
written_given vars σ TakesClass (arg.Global n) k no_var = tt
written_given vars σ TakesClass (arg.Class n) k no_var = tt

written_left : (vars : List Declared) (p : Parameter) (a : PArg) (k : ℕ → ℕ) → IsWritten a → (r t : ℕ) → takes_one (is_stolen p) a r + t ≤ k r → t ≤ one_taken vars p (argument_in a) k r
written_left vars p (arg.Var s) k no_var r t le = absurd no_var
written_left vars (Borrows h w) (arg.Number n) k no_var r t le = omega (arith, le)
written_left vars (Borrows h w) (arg.Text n) k no_var r t le = omega (arith, le)
written_left vars (Borrows h w) (arg.Global n) k no_var r t le = omega (arith, le)
written_left vars (Borrows h w) (arg.Class n) k no_var r t le = omega (arith, le)
written_left vars (Steals h w) (arg.Number n) k no_var r t le = omega (arith, le)
written_left vars (MaySteal h w) (arg.Number n) k no_var r t le = omega (arith, le)
written_left vars (Steals h w) (arg.Text n) k no_var r t le = omega (arith, le)
written_left vars (MaySteal h w) (arg.Text n) k no_var r t le = omega (arith, le)
written_left vars (Steals h w) (arg.Global n) k no_var r t le = omega (arith, le)
written_left vars (MaySteal h w) (arg.Global n) k no_var r t le = omega (arith, le)
written_left vars (Steals h w) (arg.Class n) k no_var r t le = omega (arith, le)
written_left vars (MaySteal h w) (arg.Class n) k no_var r t le = omega (arith, le)
written_left vars TakesNumber (arg.Number n) k no_var r t le = omega (arith, le)
written_left vars TakesNumber (arg.Text n) k no_var r t le = omega (arith, le)
written_left vars TakesNumber (arg.Global n) k no_var r t le = omega (arith, le)
written_left vars TakesNumber (arg.Class n) k no_var r t le = omega (arith, le)
written_left vars TakesPlace (arg.Number n) k no_var r t le = omega (arith, le)
written_left vars TakesPlace (arg.Text n) k no_var r t le = omega (arith, le)
written_left vars TakesPlace (arg.Global n) k no_var r t le = omega (arith, le)
written_left vars TakesPlace (arg.Class n) k no_var r t le = omega (arith, le)
written_left vars TakesText (arg.Number n) k no_var r t le = omega (arith, le)
written_left vars TakesText (arg.Text n) k no_var r t le = omega (arith, le)
written_left vars TakesText (arg.Global n) k no_var r t le = omega (arith, le)
written_left vars TakesText (arg.Class n) k no_var r t le = omega (arith, le)
written_left vars TakesDecimal (arg.Number n) k no_var r t le = omega (arith, le)
written_left vars TakesDecimal (arg.Text n) k no_var r t le = omega (arith, le)
written_left vars TakesDecimal (arg.Global n) k no_var r t le = omega (arith, le)
written_left vars TakesDecimal (arg.Class n) k no_var r t le = omega (arith, le)
written_left vars TakesException (arg.Number n) k no_var r t le = omega (arith, le)
written_left vars TakesException (arg.Text n) k no_var r t le = omega (arith, le)
written_left vars TakesException (arg.Global n) k no_var r t le = omega (arith, le)
written_left vars TakesException (arg.Class n) k no_var r t le = omega (arith, le)
written_left vars TakesGlobal (arg.Number n) k no_var r t le = omega (arith, le)
written_left vars TakesGlobal (arg.Text n) k no_var r t le = omega (arith, le)
written_left vars TakesGlobal (arg.Global n) k no_var r t le = omega (arith, le)
written_left vars TakesGlobal (arg.Class n) k no_var r t le = omega (arith, le)
written_left vars TakesClass (arg.Number n) k no_var r t le = omega (arith, le)
written_left vars TakesClass (arg.Text n) k no_var r t le = omega (arith, le)
written_left vars TakesClass (arg.Global n) k no_var r t le = omega (arith, le)
written_left vars TakesClass (arg.Class n) k no_var r t le = omega (arith, le)

-- the same test turned round
turned : (x s : ℕ) → nat_eq x s ≡ false → nat_eq s x ≡ false
turned x s e =
    ⊎_elim (λ is. let both : true ≡ false = sym (eq_self x) ∙ (ap (nat_eq x) (sym (eqb-true s x is)) ∙ e) in absurd (cc)) (λ off. off) (either (nat_eq s x))

-- arguments of a primitive are given
pub given : (vars : List Declared) (counted : ℕ → Bool) (σ : Shares) (ps : List Parameter) (args : List PArg) (k : ℕ → ℕ) → ((r : ℕ) → is_among (registers_in args) r ≡ true → IsUsable vars σ r) → ((r : ℕ) → is_among (registers_in args) r ≡ true → may_refer vars r ≡ counted r) → ((r : ℕ) → counted r ≡ true → taken ps args r ≤ k r) → AreGiven vars σ ps (map argument_in args) k
given vars counted σ [] [] k u m e = tt
given vars counted σ [] (a ∷ args) k u m e = tt
given vars counted σ (p ∷ ps) [] k u m e = tt
given vars counted σ (p ∷ ps) (arg.Var s ∷ args) k u m e =
    (by p (u s.0 here) (λ is. e s.0 is), given vars counted σ ps args (one_taken vars p (argument_in (arg.Var s)) k) (λ r t. u r (or_right (nat_eq s.0 r) (is_among (registers_in args) r) t)) (λ r t. m r (or_right (nat_eq s.0 r) (is_among (registers_in args) r) t)) (λ r is. more p r (e r is)))
  where
    here : is_among (registers_in (arg.Var s ∷ args)) s.0 ≡ true
    here = or_left (nat_eq s.0 s.0) (is_among (registers_in args) s.0) (eq_self s.0)

    by : (p : Parameter) → IsUsable vars σ s.0 → (counted s.0 ≡ true → takes_one (is_stolen p) (arg.Var s) s.0 + taken ps args s.0 ≤ k s.0) → IsGiven vars σ p (argument_in (arg.Var s)) k
    by (Steals h w) us le =
        ⊎_elim (λ is. inl (omega (arith, le is, same_self s.0))) (λ off. inr (inl (m s.0 here ∙ off))) (either (counted s.0))
    by (MaySteal h w) us le =
        ⊎_elim (λ is. inl (omega (arith, le is, same_self s.0))) (λ off. inr (inl (m s.0 here ∙ off))) (either (counted s.0))
    by (Borrows h w) us le = inl us
    by TakesNumber us le = tt
    by TakesPlace us le = tt
    by TakesText us le = tt
    by TakesDecimal us le = tt
    by TakesException us le = tt
    by TakesGlobal us le = tt
    by TakesClass us le = tt

    more : (p : Parameter) (r : ℕ) → takes_one (is_stolen p) (arg.Var s) r + taken ps args r ≤ k r → taken ps args r ≤ one_taken vars p (argument_in (arg.Var s)) k r
    more (Steals h w) r le = omega (arith, le, put-less s.0 k r)
    more (MaySteal h w) r le = omega (arith, le, put-less s.0 k r)
    more (Borrows h w) r le = omega (arith, le)
    more TakesNumber r le = omega (arith, le)
    more TakesPlace r le = omega (arith, le)
    more TakesText r le = omega (arith, le)
    more TakesDecimal r le = omega (arith, le)
    more TakesException r le = omega (arith, le)
    more TakesGlobal r le = omega (arith, le)
    more TakesClass r le = omega (arith, le)
given vars counted σ (p ∷ ps) (arg.Number n ∷ args) k u m e =
    (written_given vars σ p (arg.Number n) k tt, given vars counted σ ps args (one_taken vars p (argument_in (arg.Number n)) k) u m (λ r is. written_left vars p (arg.Number n) k tt r (taken ps args r) (e r is)))
given vars counted σ (p ∷ ps) (arg.Text n ∷ args) k u m e =
    (written_given vars σ p (arg.Text n) k tt, given vars counted σ ps args (one_taken vars p (argument_in (arg.Text n)) k) u m (λ r is. written_left vars p (arg.Text n) k tt r (taken ps args r) (e r is)))
given vars counted σ (p ∷ ps) (arg.Global n ∷ args) k u m e =
    (written_given vars σ p (arg.Global n) k tt, given vars counted σ ps args (one_taken vars p (argument_in (arg.Global n)) k) u m (λ r is. written_left vars p (arg.Global n) k tt r (taken ps args r) (e r is)))
given vars counted σ (p ∷ ps) (arg.Class n ∷ args) k u m e =
    (written_given vars σ p (arg.Class n) k tt, given vars counted σ ps args (one_taken vars p (argument_in (arg.Class n)) k) u m (λ r is. written_left vars p (arg.Class n) k tt r (taken ps args r) (e r is)))

-- registers that are passed to a function are usable
pub usable_all : (vars : List Declared) (σ : Shares) (args : List Reg) → ((r : ℕ) → is_among (map path.number_of args) r ≡ true → IsUsable vars σ r) → AreUsable vars σ (map register_in args)
usable_all vars σ [] u = tt
usable_all vars σ (x ∷ args) u =
    (u x.0 (or_left (nat_eq x.0 x.0) (is_among (map path.number_of args) x.0) (eq_self x.0)), usable_all vars σ args (λ r t. u r (or_right (nat_eq x.0 r) (is_among (map path.number_of args) r) t)))

-- ---- targets
-- the target is none of the arguments
pub apart_args : (x : Reg) (args : List PArg) → list_any (is_argument x) args ≡ false → is_among (registers_in args) x.0 ≡ false
apart_args x [] e = refl
apart_args x (arg.Var s ∷ args) e =
    let both = or_none (is_register x s) (list_any (is_argument x) args) e in
    ap (λ b. b || is_among (registers_in args) x.0) (turned x.0 s.0 both.0) ∙ apart_args x args both.1
apart_args x (arg.Number n ∷ args) e = apart_args x args (or_none false (list_any (is_argument x) args) e).1
apart_args x (arg.Text n ∷ args) e = apart_args x args (or_none false (list_any (is_argument x) args) e).1
apart_args x (arg.Global n ∷ args) e = apart_args x args (or_none false (list_any (is_argument x) args) e).1
apart_args x (arg.Class n ∷ args) e = apart_args x args (or_none false (list_any (is_argument x) args) e).1

pub apart_regs : (x : Reg) (args : List Reg) → list_any (is_register x) args ≡ false → is_among (map path.number_of args) x.0 ≡ false
apart_regs x [] e = refl
apart_regs x (s ∷ args) e =
    let both = or_none (is_register x s) (list_any (is_register x) args) e in
    ap (λ b. b || is_among (map path.number_of args) x.0) (turned x.0 s.0 both.0) ∙ apart_regs x args both.1

-- where a row answers what has no cell, its target has none, and the other way round
no_cells : (k : Kind) (l : Option Kind) → has_kind k l ≡ true → may_have_cells l ≡ false → has_cells k ≡ false
no_cells k l e f = ap may_have_cells (sym (has_kind_is k l e)) ∙ f

agreed : (k l : Option Kind) → kinds_agree k l ≡ true → may_have_cells l ≡ false → may_have_cells k ≡ false
agreed None l e f = absurd (cc)
agreed (Some k) l e f = no_cells k l e f

-- a kind of a row's result is that of its target
pub answer_fits : (code old : Code) (args : List CArg) → named_kind code args ≡ named_kind old args → (k : KindAt) (l : Option Kind) → kind_fits old args k l ≡ true → may_have_cells l ≡ false → cells_at code args l k ≡ false
answer_fits code old args same (Is k) l e f = no_cells k l e f
answer_fits code old args same OfGlobal l e f = ap may_have_cells same ∙ agreed (named_kind old args) l e f
answer_fits code old args same OfSlot l e f = f

pub called_fits : (code : Code) (vars : List Declared) (x : ℕ) (args : List CArg) (o : Option CFunc) → function_call_fits code vars (Some x) args o ≡ true → may_refer vars x ≡ false → returns_cells o ≡ false
called_fits code vars x args None e f = absurd (cc)
called_fits code vars x args (Some g) e f =
    no_cells g.ret (kind_at vars x) (and_true (passes vars (parameter_kinds g) args) (target_fits code vars args (Owned (Is g.ret)) (Some x)) e).1 f
