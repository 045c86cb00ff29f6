-- Lines of operations and ends that fit their registers are spelled, and fit the declarations of their variables.
use Rattle.ir_builder_shapes_laws.proofs.Common.{◌≡◌, ◌⊎◌, inl, inr, refl, sym, ◌∙◌, ap, subst, ℕ, zero, suc, ◌+◌, ◌^◌, ◌/◌, ◌%◌, ◌<◌, arith, Bool, true, false, cond, List, [], ◌∷◌, ◌++◌, length, Option, Some, None, take, ℤ, pos, negsuc, slice_get, map, ◌&&◌, is_some, codes, ◌==◌, option_map, list_all, and_from, lt-ltb, length-map, slice_get_within, slice_get-map, Kind, Line, CFunc, Primitive, kind_of_global, function_named, parameter_kinds, Is, Parameter, Borrows, Steals, MaySteal, TakesNumber, TakesText, TakesDecimal, Owned, row_of, primitive_named, is_identifier, is_call_name, is_declared, kind_at, spelled_arg, spelled_label, spelled_line, spelled_literal, has_kind, same_kinds, kinds_agree, literal_fits, passes, args_fit, target_fits, function_call_fits, call_fits, line_fits, RType, Op, Move, Lit, Prim, Call, Virtual, TraitCall, Turn, Inc, Dec, XDec, Last, Goto, If, IfError, Return, Unreachable, Block, Func, Program, kind_of_type, variable_of, literal_in, argument_in, register_in, called_as, line_of, op_lines, label_before, label_of, end_lines, block_lines, lines_from, lowered_as, lower, Declared, LastFits, BlocksFit, FunctionType, Surrounding, IsOf, AreArguments, Take, Answers, Reports, ReadsGlobal, WritesGlobal, LiteralFits, OpKinds, OpsKinds, LastKinds, BlocksKinds, head_of_code}
use Rattle.value_core.specs.Arithmetic.{lies_within}
use Rattle.value_core.specs.Value.{IntVal}
use Rattle.ir_builder_frames.specs.Kinds.{IsOfKind}
use Rattle.c_core.specs.declared.code.CArg.{CArg}
use Rattle.c_core.specs.declared.primitive.Primitive.TheVariants as prim
use Rattle.c_core.specs.declared.primitive.GlobalPrim.TheVariants as global
use Rattle.c_core.specs.Machine.{ShortInt, TaggedError}
use Rattle.c_core.specs.Strings.{is_long_decimal}
use Rattle.ir_core.specs.declared.code.RType.TheVariants.{Int, I64, Bool as BoolType, Ref}
use Rattle.ir_core.specs.declared.code.Lit.{Lit as Literal}
use Rattle.ir_core.specs.declared.code.Lit.TheVariants.{Number, Null}
use Rattle.ir_core.specs.declared.code.Reg.{Reg}
use Rattle.ir_core.specs.declared.code.PArg.{PArg}
use Rattle.ir_core.specs.declared.code.PArg.TheVariants as arg
use Rattle.ir_core.specs.Registers.{Unset, Holds, literal_of}
use Rattle.ir_core.proofs.RowLemmas.{primitive_found}
use Rattle.ir_core.proofs.TextLemmas.{same_self}
use Rattle.ir_builder_shapes_laws.proofs.SpellingLemmas.{primitive_spelled, call_spelled}
use Rattle.ir_builder_shapes_laws.proofs.NameLemmas.{IsKnown}

-- ---- literals

halved_too : {A B : Type 0} (b c : Bool) (x y : A) (v w : B) → is_some (cond b (Some x) (cond c (Some y) None)) ≡ true → is_some (cond b (Some v) (cond c (Some w) None)) ≡ true
halved_too true c x y v w e = refl
halved_too false true x y v w e = refl
halved_too false false x y v w e = e

number_fits : (t : RType) (n : ℤ) → is_some (literal_of t (Number n)) ≡ true → literal_fits (literal_in (Number n)) (Some (kind_of_type t)) ≡ true
number_fits Int (pos n) e =
    halved_too (n % 2 == 0) (n == 1) (Holds (IntVal (pos (n / 2)))) Unset (ShortInt (pos (n / 2))) TaggedError e
number_fits Int (negsuc n) e =
    halved_too (n % 2 == 1) false (Holds (IntVal (negsuc (n / 2)))) Unset (ShortInt (negsuc (n / 2))) TaggedError e
number_fits I64 n e = refl
number_fits BoolType (pos zero) e = refl
number_fits BoolType (pos (suc zero)) e = refl
number_fits BoolType (pos (suc (suc zero))) e = refl
number_fits BoolType (pos (suc (suc (suc n)))) e = absurd (cc)
number_fits BoolType (negsuc n) e = absurd (cc)
number_fits Ref n e = absurd (cc)

object_fits : (t : RType) (l : Literal) → is_some (literal_of t l) ≡ true → literal_fits (literal_in l) (Some (kind_of_type t)) ≡ true
object_fits t (Number n) e = number_fits t n e
object_fits Ref l e = refl
object_fits t l e = absurd (cc)

literal_is : (t : RType) (l : Literal) → LiteralFits t l → (literal_fits (literal_in l) (Some (kind_of_type t)) ≡ true) × (spelled_literal (literal_in l) ≡ true)
literal_is t (Number n) h = (number_fits t n h.0, h.1)
literal_is t Null h = (object_fits t Null h, refl)
literal_is t l h = (object_fits t l h, refl)

module _ (regs : Declared) where
  abbrev vars : List (List ℕ × Kind)
  vars = map variable_of regs

  -- ---- registers
  pub record Stands (r : Reg) (t : RType) : Type 0 where
    pub declared : is_declared vars r.0 ≡ true
    pub kind : kind_at vars r.0 ≡ Some (kind_of_type t)

  stands_by : (r : Reg) (t : RType) (o : Option (List ℕ × RType)) → slice_get regs r.0 ≡ o → option_map (λ (x : List ℕ × RType). x.1) o ≡ Some t → Stands r t
  stands_by r t None e f = absurd (cc)
  stands_by r t (Some d) e f =
      let g : Some d.1 ≡ Some t = f in
      let same : d.1 ≡ t = cc in
      let lt : r.0 < length regs = slice_get_within regs r.0 d e in
      record {
        declared = lt-ltb r.0 (length vars) (omega (arith, lt, length-map regs variable_of));
        kind =
            ap (option_map (λ (v : List ℕ × Kind). v.1)) (slice_get-map variable_of regs r.0 ∙ ap (option_map variable_of) e)
            ∙ ap (λ u. Some (kind_of_type u)) same;
      }

  stands : (r : Reg) (t : RType) → IsOf regs r t → Stands r t
  stands r t h = stands_by r t (slice_get regs r.0) refl h

  has : (r : Reg) (t : RType) → IsOf regs r t → has_kind (kind_of_type t) (kind_at vars r.0) ≡ true
  has r t h = ap (has_kind (kind_of_type t)) (stands r t h).kind ∙ same_self (kind_of_type t)

  alike : (r s : Reg) (t : RType) → IsOf regs r t → IsOf regs s t → same_kinds (kind_at vars r.0) (kind_at vars s.0) ≡ true
  alike r s t h k =
      ap (λ o. same_kinds o (kind_at vars s.0)) (stands r t h).kind ∙ has s t k

  -- ---- arguments
  spelled_before : (r : Reg) (k : Kind) (rest : List PArg) → IsOfKind regs r k → list_all (spelled_arg vars) (map argument_in rest) ≡ true → list_all (spelled_arg vars) (map argument_in (arg.Var r ∷ rest)) ≡ true
  spelled_before r k rest h more = and_from (is_declared vars r.0) (list_all (spelled_arg vars) (map argument_in rest)) (stands r h.type h.is).declared more

  arguments_spelled : (ps : List Parameter) (args : List PArg) → AreArguments regs ps args → list_all (spelled_arg vars) (map argument_in args) ≡ true
  arguments_spelled [] [] h = refl
  arguments_spelled (Borrows (Is k) holding ∷ ps) (arg.Var r ∷ rest) h = spelled_before r k rest h.0 (arguments_spelled ps rest h.1)
  arguments_spelled (Steals (Is k) holding ∷ ps) (arg.Var r ∷ rest) h = spelled_before r k rest h.0 (arguments_spelled ps rest h.1)
  arguments_spelled (MaySteal (Is k) holding ∷ ps) (arg.Var r ∷ rest) h = spelled_before r k rest h.0 (arguments_spelled ps rest h.1)
  arguments_spelled (MaySteal k holding ∷ ps) [] h = refl
  arguments_spelled (TakesNumber ∷ ps) (arg.Number n ∷ rest) h =
      and_from (lies_within 63 n) (list_all (spelled_arg vars) (map argument_in rest)) h.0 (arguments_spelled ps rest h.1)
  arguments_spelled (TakesText ∷ ps) (arg.Text text ∷ rest) h =
      and_from (spelled_arg vars (argument_in (arg.Text text))) (list_all (spelled_arg vars) (map argument_in rest)) h.0 (arguments_spelled ps rest h.1)
  arguments_spelled (TakesDecimal ∷ ps) (arg.Text text ∷ rest) h =
      and_from (spelled_arg vars (argument_in (arg.Text text))) (list_all (spelled_arg vars) (map argument_in rest)) h.0 (arguments_spelled ps rest h.2)
  arguments_spelled ps args h = absurd h

  registers_spelled : (ts : List RType) (rs : List Reg) → Take regs ts rs → list_all (spelled_arg vars) (map register_in rs) ≡ true
  registers_spelled [] [] h = refl
  registers_spelled (t ∷ ts) (r ∷ rs) h =
      and_from (is_declared vars r.0) (list_all (spelled_arg vars) (map register_in rs)) (stands r t h.0).declared (registers_spelled ts rs h.1)
  registers_spelled [] (r ∷ rs) h = absurd h
  registers_spelled (t ∷ ts) [] h = absurd h

  -- the arguments of a call have the kinds of the parameters of its function
  registers_pass : (n : ℕ) (ds : Declared) (rs : List Reg) → Take regs (map (λ (d : List ℕ × RType). d.1) (take n ds)) rs → passes vars (map (λ (v : List ℕ × Kind). v.1) (take n (map variable_of ds))) (map register_in rs) ≡ true
  registers_pass zero ds [] h = refl
  registers_pass zero ds (r ∷ rs) h = absurd h
  registers_pass (suc n) [] [] h = refl
  registers_pass (suc n) [] (r ∷ rs) h = absurd h
  registers_pass (suc n) (d ∷ ds) [] h = absurd h
  registers_pass (suc n) (d ∷ ds) (r ∷ rs) h =
      and_from (has_kind (kind_of_type d.1) (kind_at vars r.0)) (passes vars (map (λ (v : List ℕ × Kind). v.1) (take n (map variable_of ds))) (map register_in rs))
      (has r d.1 h.0) (registers_pass n ds rs h.1)

  module _ (p : Program) where
    fit_before : (all : List CArg) (r : Reg) (k : Kind) (ps : List Parameter) (rest : List PArg) → IsOfKind regs r k → args_fit (lower p) vars all ps (map argument_in rest) ≡ true → (has_kind k (kind_at vars r.0) && args_fit (lower p) vars all ps (map argument_in rest)) ≡ true
    fit_before all r k ps rest h more =
        and_from (has_kind k (kind_at vars r.0)) (args_fit (lower p) vars all ps (map argument_in rest)) (ap (λ x. has_kind x (kind_at vars r.0)) (sym h.same) ∙ has r h.type h.is) more

    arguments_fit : (all : List CArg) (ps : List Parameter) (args : List PArg) → AreArguments regs ps args → args_fit (lower p) vars all ps (map argument_in args) ≡ true
    arguments_fit all [] [] h = refl
    arguments_fit all (Borrows (Is k) holding ∷ ps) (arg.Var r ∷ rest) h = fit_before all r k ps rest h.0 (arguments_fit all ps rest h.1)
    arguments_fit all (Steals (Is k) holding ∷ ps) (arg.Var r ∷ rest) h = fit_before all r k ps rest h.0 (arguments_fit all ps rest h.1)
    arguments_fit all (MaySteal (Is k) holding ∷ ps) (arg.Var r ∷ rest) h = fit_before all r k ps rest h.0 (arguments_fit all ps rest h.1)
    arguments_fit all (MaySteal k holding ∷ ps) [] h = h
    arguments_fit all (TakesNumber ∷ ps) (arg.Number n ∷ rest) h = arguments_fit all ps rest h.1
    arguments_fit all (TakesText ∷ ps) (arg.Text text ∷ rest) h = arguments_fit all ps rest h.1
    arguments_fit all (TakesDecimal ∷ ps) (arg.Text text ∷ rest) h =
        and_from (is_long_decimal text) (args_fit (lower p) vars all ps (map argument_in rest)) h.1 (arguments_fit all ps rest h.2)
    arguments_fit all ps args h = absurd h

    -- ---- lines
    pub record LineIs (ret : Kind) (l : Line) : Type 0 where
      pub spelled : spelled_line vars l ≡ true
      pub fits : line_fits (lower p) vars ret l ≡ true

    abbrev pub LinesAre : Kind → List Line → Type 0
    LinesAre ret [] = Unit {0}
    LinesAre ret (l ∷ ls) = LineIs ret l × LinesAre ret ls

    lines_append : (ret : Kind) (xs ys : List Line) → LinesAre ret xs → LinesAre ret ys → LinesAre ret (xs ++ ys)
    lines_append ret [] ys h k = k
    lines_append ret (x ∷ xs) ys h k = (h.0, lines_append ret xs ys h.1 k)

    pub lines_spelled : (ret : Kind) (ls : List Line) → LinesAre ret ls → list_all (spelled_line vars) ls ≡ true
    lines_spelled ret [] h = refl
    lines_spelled ret (l ∷ ls) h = and_from (spelled_line vars l) (list_all (spelled_line vars) ls) h.0.spelled (lines_spelled ret ls h.1)

    pub lines_fit : (ret : Kind) (ls : List Line) → LinesAre ret ls → list_all (line_fits (lower p) vars ret) ls ≡ true
    lines_fit ret [] h = refl
    lines_fit ret (l ∷ ls) h = and_from (line_fits (lower p) vars ret l) (list_all (line_fits (lower p) vars ret) ls) h.0.fits (lines_fit ret ls h.1)

    -- a call of a primitive without a target
    row_alone : (ret : Kind) (q : Primitive) (args : List PArg) → list_all (spelled_arg vars) (map argument_in args) ≡ true → args_fit (lower p) vars (map argument_in args) (row_of q).parameters (map argument_in args) ≡ true → LineIs ret (line_of p (Prim None q args))
    row_alone ret q args spelled fit =
        let cargs : List CArg = map argument_in args in
        record {
          spelled = and_from (is_call_name (row_of q).name) (list_all (spelled_arg vars) cargs) (primitive_spelled q) spelled;
          fits =
              ap (λ o. call_fits (lower p) vars None cargs o (function_named (lower p).funcs (row_of q).name)) (primitive_found q)
              ∙ and_from (args_fit (lower p) vars cargs (row_of q).parameters cargs) true fit refl;
        }

    -- and one with a target, whose kind is that of the outcome
    row_into : (ret : Kind) (r : Reg) (t : RType) (q : Primitive) (args : List PArg) → IsOf regs r t → (row_of q).outcome ≡ Owned (Is (kind_of_type t)) → AreArguments regs (row_of q).parameters args → LineIs ret (line_of p (Prim (Some r) q args))
    row_into ret r t q args is gives are =
        let cargs : List CArg = map argument_in args in
        record {
          spelled =
              and_from (is_declared vars r.0) (is_call_name (row_of q).name && list_all (spelled_arg vars) cargs) (stands r t is).declared
              (and_from (is_call_name (row_of q).name) (list_all (spelled_arg vars) cargs) (primitive_spelled q) (arguments_spelled (row_of q).parameters args are));
          fits =
              ap (λ o. call_fits (lower p) vars (Some r.0) cargs o (function_named (lower p).funcs (row_of q).name)) (primitive_found q)
              ∙ and_from (args_fit (lower p) vars cargs (row_of q).parameters cargs) (target_fits (lower p) vars cargs (row_of q).outcome (Some r.0))
              (arguments_fit cargs (row_of q).parameters args are)
              (ap (λ o. target_fits (lower p) vars cargs o (Some r.0)) gives ∙ has r t is);
        }

    -- ---- globals
    -- a read of a global, and a write
    read_is : (ret : Kind) (r : Reg) (t : RType) (name : List ℕ) → IsKnown p name t → IsOf regs r t → LineIs ret (line_of p (Prim (Some r) (prim.Global global.Get) (arg.Global name ∷ [])))
    read_is ret r t name known is =
        let q : Primitive = prim.Global global.Get in
        let cargs : List CArg = map argument_in (arg.Global name ∷ []) in
        let there : is_some (kind_of_global (lower p) name) ≡ true = ap is_some known.kind in
        let target : kinds_agree (kind_of_global (lower p) name) (kind_at vars r.0) ≡ true = ap (λ k. kinds_agree k (kind_at vars r.0)) known.kind ∙ has r t is in
        record {
          spelled =
              and_from (is_declared vars r.0) (is_call_name (row_of q).name && list_all (spelled_arg vars) cargs) (stands r t is).declared
              (and_from (is_call_name (row_of q).name) (list_all (spelled_arg vars) cargs) (primitive_spelled q) (and_from (is_identifier name) true known.identifier refl));
          fits =
              ap (λ o. call_fits (lower p) vars (Some r.0) cargs o (function_named (lower p).funcs (row_of q).name)) (primitive_found q)
              ∙ and_from (args_fit (lower p) vars cargs (row_of q).parameters cargs) (target_fits (lower p) vars cargs (row_of q).outcome (Some r.0))
              (and_from (is_some (kind_of_global (lower p) name)) true there refl) target;
        }

    write_is : (ret : Kind) (r : Reg) (t : RType) (name : List ℕ) → IsKnown p name t → IsOf regs r t → LineIs ret (line_of p (Prim None (prim.Global global.Set) (arg.Global name ∷ arg.Var r ∷ [])))
    write_is ret r t name known is =
        let there : is_some (kind_of_global (lower p) name) ≡ true = ap is_some known.kind in
        let agrees : kinds_agree (kind_of_global (lower p) name) (kind_at vars r.0) ≡ true = ap (λ k. kinds_agree k (kind_at vars r.0)) known.kind ∙ has r t is in
        row_alone ret (prim.Global global.Set) (arg.Global name ∷ arg.Var r ∷ [])
        (and_from (is_identifier name) (is_declared vars r.0 && true) known.identifier (and_from (is_declared vars r.0) true (stands r t is).declared refl))
        (and_from (is_some (kind_of_global (lower p) name)) (kinds_agree (kind_of_global (lower p) name) (kind_at vars r.0) && true) there (and_from (kinds_agree (kind_of_global (lower p) name) (kind_at vars r.0)) true agrees refl))

    -- ---- calls
    -- the function of a number has this head, and is called by its name
    pub record Callee (n : ℕ) (h : FunctionType) : Type 0 where
      pub func : Func
      pub named_as : List ℕ
      pub head : head_of_code func ≡ h
      pub identifier : is_identifier func.name ≡ true
      pub called : called_as p n ≡ codes "CPyDef_" ++ func.name
      pub number : function_named (lower p).funcs (codes "CPyDef_" ++ func.name) ≡ Some n
      pub there : slice_get (lower p).funcs n ≡ Some (lowered_as p named_as func)

    call_is : (ret : Kind) (r : Reg) (n : ℕ) (h : FunctionType) (args : List Reg) → Callee n h → IsOf regs r h.ret → Take regs h.params args → LineIs ret (line_of p (Call r n args))
    call_is ret r n h args c is take_args =
        let cargs : List CArg = map register_in args in
        let gc : CFunc = lowered_as p c.named_as c.func in
        let name : List ℕ = codes "CPyDef_" ++ c.func.name in
        let same : c.func.ret ≡ h.ret = ap (λ (x : FunctionType). x.ret) c.head in
        let params : Take regs (map (λ (d : List ℕ × RType). d.1) (take c.func.params c.func.regs)) args = subst (λ ts. Take regs ts args) (ap (λ (x : FunctionType). x.params) (sym c.head)) take_args in
        let target : has_kind (kind_of_type c.func.ret) (kind_at vars r.0) ≡ true = ap (λ t. has_kind (kind_of_type t) (kind_at vars r.0)) same ∙ has r h.ret is in
        record {
          spelled =
              and_from (is_declared vars r.0) (is_call_name (called_as p n) && list_all (spelled_arg vars) cargs) (stands r h.ret is).declared
              (and_from (is_call_name (called_as p n)) (list_all (spelled_arg vars) cargs)
              (ap is_call_name c.called ∙ call_spelled c.func.name c.identifier) (registers_spelled h.params args take_args));
          fits =
              ap (λ x. call_fits (lower p) vars (Some r.0) cargs (primitive_named x) (function_named (lower p).funcs x)) c.called
              ∙ (ap (λ o. call_fits (lower p) vars (Some r.0) cargs None o) c.number
              ∙ (ap (function_call_fits (lower p) vars (Some r.0) cargs) c.there
              ∙ and_from (passes vars (parameter_kinds gc) cargs) (target_fits (lower p) vars cargs (Owned (Is gc.ret)) (Some r.0))
              (registers_pass c.func.params c.func.regs args params) target));
        }

    -- ---- operations
    module _ (g : Surrounding) (callee : (n : ℕ) (h : FunctionType) → slice_get g.heads n ≡ Some h → Callee n h) (known : (n : ℕ) (name : List ℕ) (t : RType) → slice_get g.globals n ≡ Some (name, t) → IsKnown p name t) where
      answer_is : (ret : Kind) (r : Reg) (t : RType) (q : Primitive) (args : List PArg) → IsOf regs r t → Answers t regs q args ⊎ ReadsGlobal g t q args → LineIs ret (line_of p (Prim (Some r) q args))
      answer_is ret r t q args is (inl a) = row_into ret r t q args is a.0 a.1
      answer_is ret r t q args is (inr h) =
          let there = h.there in
          let P : Primitive → List PArg → Type 0 = λ z passed. LineIs ret (line_of p (Prim (Some r) z passed)) in
          subst (λ z. P z args) (sym h.reads)
          (subst (P (prim.Global global.Get)) (sym h.named) (read_is ret r t h.name (known there.0 h.name t there.1) is))

      act_is : (ret : Kind) (q : Primitive) (args : List PArg) → Reports regs q args ⊎ WritesGlobal g regs q args → LineIs ret (line_of p (Prim None q args))
      act_is ret q args (inl a) =
          row_alone ret q args (arguments_spelled (row_of q).parameters args a.1) (arguments_fit (map argument_in args) (row_of q).parameters args a.1)
      act_is ret q args (inr h) =
          let there = h.there in
          let P : Primitive → List PArg → Type 0 = λ z passed. LineIs ret (line_of p (Prim None z passed)) in
          subst (λ z. P z args) (sym h.writes)
          (subst (P (prim.Global global.Set)) (sym h.named) (write_is ret h.from h.type h.name (known there.0 h.name h.type there.1) h.holds))

      op_is : (ret : Kind) (o : Op) → OpKinds g regs o → LineIs ret (line_of p o)
      op_is ret (Move r s) h = record {
        spelled = and_from (is_declared vars r.0) (is_declared vars s.0) (stands r h.0 h.1).declared (stands s h.0 h.2).declared;
        fits = alike r s h.0 h.1 h.2;
      }
      op_is ret (Lit r l) h =
          let is = literal_is h.0 l h.2 in
          record {
            spelled = and_from (is_declared vars r.0) (spelled_literal (literal_in l)) (stands r h.0 h.1).declared is.1;
            fits = ap (literal_fits (literal_in l)) (stands r h.0 h.1).kind ∙ is.0;
          }
      op_is ret (Prim None q args) h = act_is ret q args h
      op_is ret (Prim (Some r) q args) h = answer_is ret r h.0 q args h.1 h.2
      op_is ret (Call r n args) h =
          let c = h.2 in
          let is : IsOf regs r c.0.ret = subst (IsOf regs r) (sym c.2) h.1 in
          call_is ret r n c.0 args (callee n c.0 c.1) is c.3
      op_is ret (Virtual r o n args) h = absurd h
      op_is ret (TraitCall r o t n args) h = absurd h
      op_is ret Turn h = record { spelled = refl; fits = refl }
      op_is ret (Inc r) h = absurd h
      op_is ret (Dec r) h = absurd h
      op_is ret (XDec r) h = absurd h

      ops_are : (ret : Kind) (os : List (Op × ℕ)) → OpsKinds g regs os → LinesAre ret (op_lines p os)
      ops_are ret [] h = tt
      ops_are ret (o ∷ os) h = (op_is ret o.0 h.0, ops_are ret os h.1)

      -- ---- ends
      module _ (count : ℕ) (few : count < 2 ^ 64) where
        label_spelled : (t : ℕ) → t < count → spelled_label (label_of t) ≡ true
        label_spelled t lt = lt-ltb (label_of t) (2 ^ 64) (omega arith)

        end_is : (k : ℕ) (ops : List (Op × ℕ)) (last : Last) → k < count → LastFits count k ops last → LastKinds g regs last → LinesAre (kind_of_type g.ret) (end_lines label_of k last)
        end_is k ops (Goto t) lt fits h = (record { spelled = label_spelled t fits.1; fits = refl }, tt)
        end_is k ops (If r a b) lt fits h = (
          record {
            spelled =
                and_from (is_declared vars r.0) (spelled_label (label_of a) && spelled_label (label_of b)) (stands r BoolType h).declared
                (and_from (spelled_label (label_of a)) (spelled_label (label_of b)) (label_spelled a fits.0.1) (label_spelled b fits.1.1));
            fits = refl;
          },
          tt,
        )
        end_is k ops (IfError r a b source) lt fits h = (
          record {
            spelled =
                and_from (is_declared vars r.0) (spelled_label (label_of a) && spelled_label (label_of b)) (stands r h.0 h.1).declared
                (and_from (spelled_label (label_of a)) (spelled_label (label_of b)) (label_spelled a fits.0.1) (label_spelled b fits.1.1));
            fits = refl;
          },
          tt,
        )
        end_is k ops (Return r) lt fits h = (record { spelled = (stands r g.ret h).declared; fits = has r g.ret h }, tt)
        end_is k ops Unreachable lt fits h =
            (record { spelled = refl; fits = refl }, (record { spelled = label_spelled k lt; fits = refl }, tt))

        label_is : (k : ℕ) → LinesAre (kind_of_type g.ret) (label_before k)
        label_is zero = tt
        label_is (suc k) = (record { spelled = refl; fits = refl }, tt)

        pub blocks_are : (k : ℕ) (bs : List Block) → k + length bs ≡ count → BlocksFit count k bs → BlocksKinds g regs bs → LinesAre (kind_of_type g.ret) (lines_from p k bs)
        blocks_are k [] e fits h = tt
        blocks_are k (b ∷ bs) e fits h =
            let ret : Kind = kind_of_type g.ret in
            let ops : List Line = op_lines p b.ops in
            let end : List Line = end_lines label_of k b.last in
            let lt : k < count = omega (arith, e) in
            let body : LinesAre ret (ops ++ end) = lines_append ret ops end (ops_are ret b.ops h.0) (end_is k b.ops b.last lt fits.0.last h.1) in
            lines_append ret (block_lines p k b) (lines_from p (suc k) bs) (lines_append ret (label_before k) (ops ++ end) (label_is k) body)
            (blocks_are (suc k) bs (omega (arith, e)) fits.1 h.2)
