-- Lines that are spelled and fit among variables are so among more, in a code that has the same globals, classes and functions.
use Rattle.std.proofs.Common.{◌≡◌, refl, sym, ◌∙◌, ap, ℕ, zero, suc, ◌<◌, arith, pos, Bool, true, false, List, [], ◌∷◌, ◌++◌, length, length-append, Option, Some, None}
use Rattle.std.specs.Prelude.{slice_get, ◌&&◌, is_some, find}
use Rattle.std.specs.List.{list_all, list_any}
use Rattle.std.specs.Option.{option_map, option_and_then}
use Rattle.std.specs.Str.{bytes_eq}
use Rattle.std.proofs.lemmas.Bool.{and_from, and_parts, lt-ltb, ltb-true}
use Rattle.c_core.specs.declared.code.Kind.{Kind}
use Rattle.c_core.specs.declared.code.CArg.{CArg}
use Rattle.c_core.specs.declared.code.CArg.TheVariants as arg
use Rattle.c_core.specs.declared.code.Line.{Line}
use Rattle.c_core.specs.declared.code.Line.TheVariants.{Label, Move, Lit, Call, Virtual, TraitCall, Goto, If, IfError, Turn, Return, Inc, Dec, XDec}
use Rattle.c_core.specs.declared.code.CFunc.{CFunc}
use Rattle.c_core.specs.declared.code.Code.{Code}
use Rattle.c_core.specs.declared.primitive.Primitive.{Primitive}
use Rattle.c_core.specs.Functions.{function_named, parameter_kinds}
use Rattle.c_core.specs.Primitives.{KindAt, Is, OfGlobal, OfSlot, Parameter, Borrows, Steals, MaySteal, TakesNumber, TakesPlace, TakesText, TakesDecimal, TakesException, TakesGlobal, TakesClass, Outcome, Nothing, Owned, Lent, row_of, primitive_named}
use Rattle.c_core.specs.WellFormed.{Declared, is_identifier, is_call_name, has_class, spelled_literal, spelled_label, is_declared, kind_at, is_counted_kind, spelled_arg, spelled_target, spelled_line, has_kind, same_kinds, literal_fits, kinds_agree, named_kind, kind_fits, passes, arg_fits, args_fit, target_fits, function_call_fits, call_fits, line_fits}

-- the functions of a code may have more variables and other lines
pub record CodeKept (code new : Code) : Type 0 where
  pub globals : new.globals ≡ code.globals
  pub classes : new.classes ≡ code.classes
  pub named : (name : List ℕ) → function_named new.funcs name ≡ function_named code.funcs name
  pub funcs : (n : ℕ) (g : CFunc) → slice_get code.funcs n ≡ Some g → (h : CFunc) × (slice_get new.funcs n ≡ Some h) × (parameter_kinds h ≡ parameter_kinds g) × (h.ret ≡ g.ret)

module _ (vars more : List Declared) where
  abbrev all : List Declared
  all = vars ++ more

  -- ---- variables
  pub declared_more : (x : ℕ) → is_declared vars x ≡ true → is_declared all x ≡ true
  declared_more x e =
      let lt : x < length vars = ltb-true x (length vars) e in
      lt-ltb x (length all) (omega (arith, lt, length-append vars more))

  get_more : (vs : List Declared) (x : ℕ) (v : Declared) → slice_get vs x ≡ Some v → slice_get (vs ++ more) x ≡ Some v
  get_more [] x v e = absurd (cc)
  get_more (w ∷ vs) zero v e = e
  get_more (w ∷ vs) (suc x) v e = get_more vs x v e

  -- a test of the kind of a variable that nothing undeclared passes
  pub kind_more : (test : Option Kind → Bool) → test None ≡ false → (x : ℕ) → test (kind_at vars x) ≡ true → test (kind_at all x) ≡ true
  kind_more test none x e = by (slice_get vars x) refl e
    where
      by : (o : Option Declared) → slice_get vars x ≡ o → test (option_map (λ v. v.1) o) ≡ true → test (kind_at all x) ≡ true
      by None f g = let n : true ≡ false = sym g ∙ none in absurd (cc)
      by (Some v) f g = ap (λ o. test (option_map (λ (v : Declared). v.1) o)) (get_more vars x v f) ∙ g

  -- ---- what is spelled
  arg_spelled : (a : CArg) → spelled_arg vars a ≡ true → spelled_arg all a ≡ true
  arg_spelled (arg.Var x) e = declared_more x e
  arg_spelled (arg.Number n) e = e
  arg_spelled (arg.Text text) e = e
  arg_spelled (arg.Global name) e = e
  arg_spelled (arg.Class name) e = e

  args_spelled : (args : List CArg) → list_all (spelled_arg vars) args ≡ true → list_all (spelled_arg all) args ≡ true
  args_spelled [] e = refl
  args_spelled (a ∷ args) e =
      let both = and_parts (spelled_arg vars a) (list_all (spelled_arg vars) args) e in
      and_from (spelled_arg all a) (list_all (spelled_arg all) args) (arg_spelled a both.0) (args_spelled args both.1)

  all_declared : (xs : List ℕ) → list_all (is_declared vars) xs ≡ true → list_all (is_declared all) xs ≡ true
  all_declared [] e = refl
  all_declared (x ∷ xs) e =
      let both = and_parts (is_declared vars x) (list_all (is_declared vars) xs) e in
      and_from (is_declared all x) (list_all (is_declared all) xs) (declared_more x both.0) (all_declared xs both.1)

  target_spelled : (x : Option ℕ) → spelled_target vars x ≡ true → spelled_target all x ≡ true
  target_spelled None e = refl
  target_spelled (Some x) e = declared_more x e

  pub spelled_more : (l : Line) → spelled_line vars l ≡ true → spelled_line all l ≡ true
  spelled_more Label e = refl
  spelled_more (Move x y) e =
      let both = and_parts (is_declared vars x) (is_declared vars y) e in
      and_from (is_declared all x) (is_declared all y) (declared_more x both.0) (declared_more y both.1)
  spelled_more (Lit x l) e =
      let both = and_parts (is_declared vars x) (spelled_literal l) e in
      and_from (is_declared all x) (spelled_literal l) (declared_more x both.0) both.1
  spelled_more (Call x name args) e =
      let both = and_parts (spelled_target vars x) (is_call_name name && list_all (spelled_arg vars) args) e in
      let call = and_parts (is_call_name name) (list_all (spelled_arg vars) args) both.1 in
      and_from (spelled_target all x) (is_call_name name && list_all (spelled_arg all) args) (target_spelled x both.0)
      (and_from (is_call_name name) (list_all (spelled_arg all) args) call.0 (args_spelled args call.1))
  spelled_more (Virtual x o n args) e =
      let one = and_parts (is_declared vars x) (is_declared vars o && (spelled_label n && list_all (is_declared vars) args)) e in
      let two = and_parts (is_declared vars o) (spelled_label n && list_all (is_declared vars) args) one.1 in
      let three = and_parts (spelled_label n) (list_all (is_declared vars) args) two.1 in
      and_from (is_declared all x) (is_declared all o && (spelled_label n && list_all (is_declared all) args)) (declared_more x one.0)
      (and_from (is_declared all o) (spelled_label n && list_all (is_declared all) args) (declared_more o two.0)
      (and_from (spelled_label n) (list_all (is_declared all) args) three.0 (all_declared args three.1)))
  spelled_more (TraitCall x o t n args) e =
      let one = and_parts (is_declared vars x) (is_declared vars o && (is_identifier t && (spelled_label n && list_all (is_declared vars) args))) e in
      let two = and_parts (is_declared vars o) (is_identifier t && (spelled_label n && list_all (is_declared vars) args)) one.1 in
      let three = and_parts (is_identifier t) (spelled_label n && list_all (is_declared vars) args) two.1 in
      let four = and_parts (spelled_label n) (list_all (is_declared vars) args) three.1 in
      and_from (is_declared all x) (is_declared all o && (is_identifier t && (spelled_label n && list_all (is_declared all) args))) (declared_more x one.0)
      (and_from (is_declared all o) (is_identifier t && (spelled_label n && list_all (is_declared all) args)) (declared_more o two.0)
      (and_from (is_identifier t) (spelled_label n && list_all (is_declared all) args) three.0
      (and_from (spelled_label n) (list_all (is_declared all) args) four.0 (all_declared args four.1))))
  spelled_more (Goto n) e = e
  spelled_more (If x n m) e =
      let both = and_parts (is_declared vars x) (spelled_label n && spelled_label m) e in
      and_from (is_declared all x) (spelled_label n && spelled_label m) (declared_more x both.0) both.1
  spelled_more (IfError x n m) e =
      let both = and_parts (is_declared vars x) (spelled_label n && spelled_label m) e in
      and_from (is_declared all x) (spelled_label n && spelled_label m) (declared_more x both.0) both.1
  spelled_more Turn e = refl
  spelled_more (Return x) e = declared_more x e
  spelled_more (Inc x) e = kind_more (is_counted_kind vars) refl x e
  spelled_more (Dec x) e = kind_more (is_counted_kind vars) refl x e
  spelled_more (XDec x) e = kind_more (is_counted_kind vars) refl x e

  -- ---- what fits
  agree_none : (k : Option Kind) → kinds_agree k None ≡ false
  agree_none None = refl
  agree_none (Some k) = refl

  passes_more : (ks : List Kind) (args : List CArg) → passes vars ks args ≡ true → passes all ks args ≡ true
  passes_more [] [] e = refl
  passes_more [] (a ∷ args) e = absurd (cc)
  passes_more (k ∷ ks) [] e = absurd (cc)
  passes_more (k ∷ ks) (arg.Var x ∷ args) e =
      let both = and_parts (has_kind k (kind_at vars x)) (passes vars ks args) e in
      and_from (has_kind k (kind_at all x)) (passes all ks args) (kind_more (has_kind k) refl x both.0) (passes_more ks args both.1)
  passes_more (k ∷ ks) (arg.Number n ∷ args) e = absurd (cc)
  passes_more (k ∷ ks) (arg.Text text ∷ args) e = absurd (cc)
  passes_more (k ∷ ks) (arg.Global name ∷ args) e = absurd (cc)
  passes_more (k ∷ ks) (arg.Class name ∷ args) e = absurd (cc)

  module _ (code new : Code) (kept : CodeKept code new) where
    named_same : (args : List CArg) → named_kind new args ≡ named_kind code args
    named_same [] = refl
    named_same (arg.Var x ∷ rest) = refl
    named_same (arg.Number n ∷ rest) = refl
    named_same (arg.Text text ∷ rest) = refl
    named_same (arg.Global name ∷ rest) =
        ap (λ gs. option_map (λ (g : Declared). g.1) (find (λ (g : Declared). bytes_eq name g.0) gs)) kept.globals
    named_same (arg.Class name ∷ rest) = refl

    kind_fits_more : (args : List CArg) (k : KindAt) (x : ℕ) → kind_fits code args k (kind_at vars x) ≡ true → kind_fits new args k (kind_at all x) ≡ true
    kind_fits_more args (Is k) x e = kind_more (has_kind k) refl x e
    kind_fits_more args OfGlobal x e =
        ap (λ k. kinds_agree k (kind_at all x)) (named_same args) ∙ kind_more (kinds_agree (named_kind code args)) (agree_none (named_kind code args)) x e
    kind_fits_more args OfSlot x e = kind_more is_some refl x e

    class_kept : (name : List ℕ) → has_class new name ≡ has_class code name
    class_kept name = ap (λ ks. list_any (λ k. bytes_eq name k.name) ks) kept.classes

    arg_fits_more : (args : List CArg) (p : Parameter) (a : CArg) → arg_fits code vars args p a ≡ true → arg_fits new all args p a ≡ true
    arg_fits_more args (Borrows k h) (arg.Var x) e = kind_fits_more args k x e
    arg_fits_more args (Steals k h) (arg.Var x) e = kind_fits_more args k x e
    arg_fits_more args (MaySteal k h) (arg.Var x) e = kind_fits_more args k x e
    arg_fits_more args TakesNumber (arg.Number n) e = refl
    arg_fits_more args TakesPlace (arg.Number (pos n)) e = refl
    arg_fits_more args TakesText (arg.Text text) e = refl
    arg_fits_more args TakesDecimal (arg.Text text) e = e
    arg_fits_more args TakesException (arg.Text text) e = e
    arg_fits_more args TakesGlobal (arg.Global name) e =
        ap (λ gs. is_some (option_map (λ (g : Declared). g.1) (find (λ (g : Declared). bytes_eq name g.0) gs))) kept.globals ∙ e
    arg_fits_more args TakesClass (arg.Class name) e = class_kept name ∙ e
    arg_fits_more args _ _ e = absurd (cc)

    args_fit_more : (args : List CArg) (ps : List Parameter) (rest : List CArg) → args_fit code vars args ps rest ≡ true → args_fit new all args ps rest ≡ true
    args_fit_more args [] [] e = refl
    args_fit_more args [] (a ∷ rest) e = absurd (cc)
    args_fit_more args (p ∷ ps) [] e = e
    args_fit_more args (p ∷ ps) (a ∷ rest) e =
        let both = and_parts (arg_fits code vars args p a) (args_fit code vars args ps rest) e in
        and_from (arg_fits new all args p a) (args_fit new all args ps rest) (arg_fits_more args p a both.0) (args_fit_more args ps rest both.1)

    target_fits_more : (args : List CArg) (o : Outcome) (x : Option ℕ) → target_fits code vars args o x ≡ true → target_fits new all args o x ≡ true
    target_fits_more args Nothing None e = refl
    target_fits_more args (Owned k) None e = refl
    target_fits_more args (Lent k) None e = refl
    target_fits_more args Nothing (Some x) e = absurd (cc)
    target_fits_more args (Owned k) (Some x) e = kind_fits_more args k x e
    target_fits_more args (Lent k) (Some x) e = kind_fits_more args k x e

    function_fits_more : (x : Option ℕ) (args : List CArg) (o : Option CFunc) (o' : Option CFunc) → ((g : CFunc) → o ≡ Some g → (h : CFunc) × (o' ≡ Some h) × (parameter_kinds h ≡ parameter_kinds g) × (h.ret ≡ g.ret)) → function_call_fits code vars x args o ≡ true → function_call_fits new all x args o' ≡ true
    function_fits_more x args None o' found e = absurd (cc)
    function_fits_more x args (Some g) o' found e =
        let f = found g refl in
        let both = and_parts (passes vars (parameter_kinds g) args) (target_fits code vars args (Owned (Is g.ret)) x) e in
        ap (function_call_fits new all x args) f.1
        ∙ and_from (passes all (parameter_kinds f.0) args) (target_fits new all args (Owned (Is f.0.ret)) x)
        (ap (λ ks. passes all ks args) f.2 ∙ passes_more (parameter_kinds g) args both.0)
        (ap (λ k. target_fits new all args (Owned (Is k)) x) f.3 ∙ target_fits_more args (Owned (Is g.ret)) x both.1)

    number_there : (n : Option ℕ) (g : CFunc) → option_and_then (slice_get code.funcs) n ≡ Some g → (h : CFunc) × (option_and_then (slice_get new.funcs) n ≡ Some h) × (parameter_kinds h ≡ parameter_kinds g) × (h.ret ≡ g.ret)
    number_there None g e = absurd (cc)
    number_there (Some n) g e = kept.funcs n g e

    call_fits_more : (x : Option ℕ) (args : List CArg) (q : Option Primitive) (n : Option ℕ) → call_fits code vars x args q n ≡ true → call_fits new all x args q n ≡ true
    call_fits_more x args (Some q) n e =
        let both = and_parts (args_fit code vars args (row_of q).parameters args) (target_fits code vars args (row_of q).outcome x) e in
        and_from (args_fit new all args (row_of q).parameters args) (target_fits new all args (row_of q).outcome x) (args_fit_more args (row_of q).parameters args both.0) (target_fits_more args (row_of q).outcome x both.1)
    call_fits_more x args None n e =
        function_fits_more x args (option_and_then (slice_get code.funcs) n) (option_and_then (slice_get new.funcs) n) (number_there n) e

    same_kinds_none : (k : Option Kind) → same_kinds k None ≡ false
    same_kinds_none None = refl
    same_kinds_none (Some k) = refl

    pub fits_more : (ret : Kind) (l : Line) → line_fits code vars ret l ≡ true → line_fits new all ret l ≡ true
    fits_more ret Label e = refl
    fits_more ret (Move x y) e =
        kind_more (λ k. same_kinds k (kind_at all y)) refl x (kind_more (same_kinds (kind_at vars x)) (same_kinds_none (kind_at vars x)) y e)
    fits_more ret (Lit x l) e = kind_more (literal_fits l) refl x e
    fits_more ret (Call x name args) e =
        ap (call_fits new all x args (primitive_named name)) (kept.named name) ∙ call_fits_more x args (primitive_named name) (function_named code.funcs name) e
    fits_more ret (Virtual x o n args) e = refl
    fits_more ret (TraitCall x o t n args) e = class_kept t ∙ e
    fits_more ret (Goto n) e = refl
    fits_more ret (If x n m) e = refl
    fits_more ret (IfError x n m) e = refl
    fits_more ret Turn e = refl
    fits_more ret (Return x) e = kind_more (has_kind ret) refl x e
    fits_more ret (Inc x) e = refl
    fits_more ret (Dec x) e = refl
    fits_more ret (XDec x) e = refl
