-- Whether a line fits a code depends on the globals, the classes, and what the functions are called, take and give.
use Rattle.std.proofs.Common.{◌≡◌, refl, ◌∙◌, ap, ℕ, pos, true, List, [], ◌∷◌, Option, Some, None}
use Rattle.std.specs.Prelude.{slice_get}
use Rattle.std.proofs.lemmas.Bool.{and_from, and_parts}
use Rattle.c_core.specs.declared.code.Kind.{Kind}
use Rattle.c_core.specs.declared.code.CArg.{CArg}
use Rattle.c_core.specs.declared.code.CArg.TheVariants as arg
use Rattle.c_core.specs.declared.code.Line.{Line}
use Rattle.c_core.specs.declared.code.Line.TheVariants.{Label, Move, Lit, Call, Virtual, TraitCall, Goto, If, IfError, Turn, Return, Inc, Dec, XDec}
use Rattle.c_core.specs.declared.code.CFunc.{CFunc}
use Rattle.c_core.specs.declared.code.Code.{Code}
use Rattle.c_core.specs.declared.primitive.Primitive.{Primitive}
use Rattle.c_core.specs.Functions.{function_named, parameter_kinds}
use Rattle.c_core.specs.Primitives.{KindAt, Is, OfGlobal, OfSlot, Parameter, Borrows, Steals, MaySteal, TakesNumber, TakesPlace, TakesText, TakesDecimal, TakesException, TakesGlobal, TakesClass, Outcome, Nothing, Owned, Lent, row_of, primitive_named}
use Rattle.c_core.specs.WellFormed.{Declared, kind_at, kinds_agree, named_kind, kind_fits, passes, arg_fits, args_fit, target_fits, function_call_fits, call_fits, line_fits}

-- a function of the new code takes and gives the same
pub record TakesSame (c d : CFunc) : Type 0 where
  pub kinds : parameter_kinds d ≡ parameter_kinds c
  pub ret : d.ret ≡ c.ret

pub data EachSame : Option CFunc → Option CFunc → Type 0 where
  no_function : EachSame None None
  functions : (c d : CFunc) → TakesSame c d → EachSame (Some c) (Some d)

module _ (code : Code) (new : List CFunc) (named : (name : List ℕ) → function_named new name ≡ function_named code.funcs name) (each : (n : ℕ) → EachSame (slice_get code.funcs n) (slice_get new n)) where
  abbrev pub with_new : Code
  with_new = record code { funcs = new }

  module _ (vars : List Declared) where
    named_same : (args : List CArg) → named_kind with_new args ≡ named_kind code args
    named_same [] = refl
    named_same (arg.Var x ∷ rest) = refl
    named_same (arg.Number n ∷ rest) = refl
    named_same (arg.Text text ∷ rest) = refl
    named_same (arg.Global name ∷ rest) = refl
    named_same (arg.Class name ∷ rest) = refl

    kind_same : (args : List CArg) (k : KindAt) (l : Option Kind) → kind_fits code args k l ≡ true → kind_fits with_new args k l ≡ true
    kind_same args (Is k) l e = e
    kind_same args OfGlobal l e = ap (λ k. kinds_agree k l) (named_same args) ∙ e
    kind_same args OfSlot l e = e

    arg_same : (args : List CArg) (p : Parameter) (a : CArg) → arg_fits code vars args p a ≡ true → arg_fits with_new vars args p a ≡ true
    arg_same args (Borrows k h) (arg.Var x) e = kind_same args k (kind_at vars x) e
    arg_same args (Steals k h) (arg.Var x) e = kind_same args k (kind_at vars x) e
    arg_same args (MaySteal k h) (arg.Var x) e = kind_same args k (kind_at vars x) e
    arg_same args TakesNumber (arg.Number n) e = refl
    arg_same args TakesPlace (arg.Number (pos n)) e = refl
    arg_same args TakesText (arg.Text text) e = refl
    arg_same args TakesDecimal (arg.Text text) e = e
    arg_same args TakesException (arg.Text text) e = e
    arg_same args TakesGlobal (arg.Global name) e = e
    arg_same args TakesClass (arg.Class name) e = e
    arg_same args _ _ e = absurd (cc)

    args_same : (args : List CArg) (ps : List Parameter) (rest : List CArg) → args_fit code vars args ps rest ≡ true → args_fit with_new vars args ps rest ≡ true
    args_same args [] [] e = refl
    args_same args [] (a ∷ rest) e = absurd (cc)
    args_same args (p ∷ ps) [] e = e
    args_same args (p ∷ ps) (a ∷ rest) e =
        let both = and_parts (arg_fits code vars args p a) (args_fit code vars args ps rest) e in
        and_from (arg_fits with_new vars args p a) (args_fit with_new vars args ps rest) (arg_same args p a both.0) (args_same args ps rest both.1)

    target_same : (args : List CArg) (o : Outcome) (x : Option ℕ) → target_fits code vars args o x ≡ true → target_fits with_new vars args o x ≡ true
    target_same args Nothing None e = refl
    target_same args (Owned k) None e = refl
    target_same args (Lent k) None e = refl
    target_same args Nothing (Some x) e = absurd (cc)
    target_same args (Owned k) (Some x) e = kind_same args k (kind_at vars x) e
    target_same args (Lent k) (Some x) e = kind_same args k (kind_at vars x) e

    function_same : (x : Option ℕ) (args : List CArg) {a b : Option CFunc} → EachSame a b → function_call_fits code vars x args a ≡ true → function_call_fits with_new vars x args b ≡ true
    function_same x args no_function e = absurd (cc)
    function_same x args (functions c d same) e =
        let both = and_parts (passes vars (parameter_kinds c) args) (target_fits code vars args (Owned (Is c.ret)) x) e in
        and_from (passes vars (parameter_kinds d) args) (target_fits with_new vars args (Owned (Is d.ret)) x)
        (ap (λ ks. passes vars ks args) same.kinds ∙ both.0)
        (ap (λ k. target_fits with_new vars args (Owned (Is k)) x) same.ret ∙ target_same args (Owned (Is c.ret)) x both.1)

    call_same : (x : Option ℕ) (args : List CArg) (p : Option Primitive) (n : Option ℕ) → call_fits code vars x args p n ≡ true → call_fits with_new vars x args p n ≡ true
    call_same x args (Some p) n e =
        let both = and_parts (args_fit code vars args (row_of p).parameters args) (target_fits code vars args (row_of p).outcome x) e in
        and_from (args_fit with_new vars args (row_of p).parameters args) (target_fits with_new vars args (row_of p).outcome x) (args_same args (row_of p).parameters args both.0) (target_same args (row_of p).outcome x both.1)
    call_same x args None None e = absurd (cc)
    call_same x args None (Some n) e = function_same x args (each n) e

    pub fits_same : (ret : Kind) (l : Line) → line_fits code vars ret l ≡ true → line_fits with_new vars ret l ≡ true
    fits_same ret Label e = refl
    fits_same ret (Move x y) e = e
    fits_same ret (Lit x l) e = e
    fits_same ret (Call x name args) e =
        ap (call_fits with_new vars x args (primitive_named name)) (named name) ∙ call_same x args (primitive_named name) (function_named code.funcs name) e
    fits_same ret (Virtual x o n args) e = refl
    fits_same ret (TraitCall x o t n args) e = e
    fits_same ret (Goto n) e = refl
    fits_same ret (If x n m) e = refl
    fits_same ret (IfError x n m) e = refl
    fits_same ret Turn e = refl
    fits_same ret (Return x) e = e
    fits_same ret (Inc x) e = refl
    fits_same ret (Dec x) e = refl
    fits_same ret (XDec x) e = refl
