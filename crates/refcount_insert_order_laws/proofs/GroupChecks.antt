-- An operation with its counts is in order: where the rest is in order from the shares behind it, the group and the rest are from those
-- before it.
use Rattle.std.proofs.Common.{◌≡◌, refl, sym, ap, ◌∙◌, subst, ℕ, ◌+◌, ◌-◌, ◌≤◌, ◌<◌, inl, inr, ⊎_elim, Bool, true, false, cond, List, [], ◌∷◌, ◌++◌, map, length, arith, append_assoc, Option, Some, None, eqb-true}
use Rattle.std.specs.Prelude.{nat_eq, ◌&&◌, ◌||◌, not}
use Rattle.std.specs.List.{list_any, list_all}
use Rattle.std.specs.Option.{option_map}
use Rattle.c_core.specs.declared.code.CArg.{CArg}
use Rattle.c_core.specs.declared.code.Line.{Line}
use Rattle.c_core.specs.declared.code.Line.TheVariants as line
use Rattle.c_core.specs.declared.code.CFunc.{CFunc}
use Rattle.c_core.specs.declared.code.Code.{Code}
use Rattle.c_core.specs.declared.primitive.Primitive.{Primitive}
use Rattle.c_core.specs.Cells.{same, times}
use Rattle.c_core.specs.Functions.{function_named}
use Rattle.c_core.specs.Primitives.{Outcome, Nothing, Owned, Lent, row_of}
use Rattle.c_core.specs.WellFormed.{kind_at, named_kind, same_kinds, is_declared, is_call_name, is_identifier, spelled_label, spelled_target, spelled_arg, spelled_literal, call_fits, args_fit, target_fits, function_call_fits}
use Rattle.c_core.proofs.Lines.{and_true}
use Rattle.ir_core.specs.declared.code.Reg.{Reg}
use Rattle.ir_core.specs.declared.code.PArg.{PArg}
use Rattle.ir_core.specs.declared.code.Lit.{Lit as Literal}
use Rattle.ir_core.specs.declared.code.Op.{Op}
use Rattle.ir_core.specs.declared.code.Op.TheVariants.{Move, Lit, Prim, Call, Virtual, TraitCall, Turn, Inc, Dec, XDec}
use Rattle.ir_core.specs.declared.code.Program.{Program}
use Rattle.ir_core.specs.Lower.{line_of, op_lines, argument_in, number_of, register_in, literal_in, called_as, class_called}
use Rattle.ir_core.specs.Shape.{is_target_of, is_apart, is_argument, is_register}
use Rattle.ir_core.proofs.RowLemmas.{primitive_found}
use Rattle.ir_core.proofs.TextLemmas.{map_registers}
use Rattle.c_core_ownership_laws.specs.Shares.{put, one_if, Shares, with_owns, with_share, unheld_if, is_noisy, may_refer, may_have_cells, IsLent, IsUsable, left_over, HasRoom, IsClear, IsFree, with_answer, with_outcome, target_kind, answers_cells, returns_cells, callee_named, HasTarget, AreUsable, LineChecks, PrimitiveChecks, CallChecks, MethodChecks}
use Rattle.liveness.specs.Paths.{is_among, reads_of, write_of, is_target, registers_in}
use Rattle.liveness.specs.Paths as path
use Rattle.refcount_insert_rule.specs.Rule.{taken, takes, gives, counts_before, counts_after, downs, ups, given_up, IsGroup}
use Rattle.refcount_insert_order_laws.proofs.Numbers.{same_is, put-less, either, same_self, not_true}
use Rattle.refcount_insert_order_laws.proofs.Counts.{lines_append, Fine, ups_check}
use Rattle.refcount_insert_order_laws.proofs.Variables.{same_kinds_are, is_within, reads_declared}
use Rattle.refcount_insert_order_laws.proofs.CallNames.{none_called}
use Rattle.refcount_insert_order_laws.proofs.Groups.{Suits, IsFit, Up, usable_up, short_usable, enough, none_up, written, unwritten, free, clear_least}
use Rattle.refcount_insert_order_laws.proofs.Operations.{left-over, given, usable_all, apart_args, apart_regs, answer_fits, called_fits}

module _ (p q : Program) (code old : Code) (g : CFunc) (counted : ℕ → Bool) (agree : (r : ℕ) → is_declared g.vars r ≡ true → may_refer g.vars r ≡ counted r) (named_same : (args : List CArg) → named_kind code args ≡ named_kind old args) (returns_same : (name : List ℕ) → returns_cells (callee_named code name) ≡ returns_cells (callee_named old name)) (Enters : ℕ → Shares → Type 0) (End : Shares → Type 0) where
  abbrev Good : Shares → List Line → Type 0
  Good = Fine q code g Enters End

  room : (x : ℕ) → is_declared g.vars x ≡ true → x < length g.vars
  room x e = is_within x (length g.vars) e

  module _ (o : Op) (σ τ : Shares) (fit : Suits g.vars counted o σ τ) (up : List ℕ) (ds : List (ℕ × Bool)) (before : (r : ℕ) → times up r ≡ counts_before counted o σ.owns τ.owns r) (after : (r : ℕ) → times (given_up ds) r ≡ counts_after counted o σ.owns τ.owns r) (n : ℕ) (ls : List Line) (rest : Good τ ls) where
    abbrev U : Shares
    U = Up p q code g counted Enters End o σ τ fit up ds before after n ls rest

    abbrev Left : Shares → Type 0
    Left ρ = Good ρ (op_lines q (downs ds n) ++ ls)

    here_written : (x m : ℕ) (k : ℕ → ℕ) (h : ℕ → Bool) → write_of o ≡ Some x → ((r : ℕ) → k r ≡ U.owns r - takes o r) → m ≡ cond (counted x) 1 0 → ((w : ℕ) → gives o w ≡ 1) → ((r : ℕ) → h r ≡ false) → Left (with_share x m false (record { owns = k; lent = σ.lent; held = h; empty = σ.empty }))
    here_written x m k h w e em one off =
        written p q code g counted Enters End o σ τ fit up ds before after n ls rest x m k h w e (em ∙ ap (λ z. cond (counted x) z 0) (sym (one (τ.owns x)))) off

    here_unwritten : (k : ℕ → ℕ) (h : ℕ → Bool) → write_of o ≡ None → ((r : ℕ) → k r ≡ U.owns r - takes o r) → ((r : ℕ) → h r ≡ false) → Left (record { owns = k; lent = σ.lent; held = h; empty = σ.empty })
    here_unwritten = unwritten p q code g counted Enters End o σ τ fit up ds before after n ls rest

    here_free : (x : ℕ) → write_of o ≡ Some x → σ.owns x ≤ takes o x → U.owns x - takes o x ≡ 0
    here_free = free p q code g counted Enters End o σ τ fit up ds before after n ls rest

    here_clear : (x : ℕ) → write_of o ≡ Some x → is_among (reads_of o) x ≡ false → σ.owns x ≤ takes o x
    here_clear = clear_least p q code g counted Enters End o σ τ fit up ds before after n ls rest

    here_enough : (r : ℕ) → counted r ≡ true → takes o r ≤ U.owns r
    here_enough = enough p q code g counted Enters End o σ τ fit up ds before after n ls rest

    here_none : (r : ℕ) → counted r ≡ false → U.owns r ≡ 0
    here_none = none_up p q code g counted Enters End o σ τ fit up ds before after n ls rest

    here_usable : (r : ℕ) → is_among (reads_of o) r ≡ true → IsUsable g.vars U r
    here_usable r e = usable_up p q code g counted Enters End o σ τ fit up ds before after n ls rest r (fit.read r e)

    -- a move takes the reference of its source, which a number has not
    move_check : (x y : ℕ) → write_of o ≡ Some x → reads_of o ≡ y ∷ [] → ((r : ℕ) → takes o r ≡ same y r) → ((w : ℕ) → gives o w ≡ 1) → (is_declared g.vars x && is_declared g.vars y) ≡ true → same_kinds (kind_at g.vars x) (kind_at g.vars y) ≡ true → LineChecks code g Enters U (line.Move x y) Left
    move_check x y w reads_y takes_y one spelled fits =
        let there = and_true (is_declared g.vars x) (is_declared g.vars y) spelled in
        let kinds : may_refer g.vars x ≡ may_refer g.vars y = ap may_have_cells (same_kinds_are (kind_at g.vars x) (kind_at g.vars y) fits) in
        let alike : counted x ≡ counted y = sym (agree x there.0) ∙ (kinds ∙ agree y there.1) in
        ((room x there.0, λ e. sym kinds ∙ e), ⊎_elim (λ is. inl (taken_on is alike)) (λ off. inr (inl (lent_on off alike kinds (agree y there.1)))) (either (counted y)))
      where
        less : σ.owns x ≤ takes o x
        less = ⊎_elim
            (λ is. omega (arith, fit.few x, takes_y x, ap (λ z. same z x) (eqb-true y x is), same_self x))
            (λ off. here_clear x w (ap (λ z. is_among z x) reads_y ∙ ap (λ b. b || false) off))
            (either (nat_eq y x))

        moved : (r : ℕ) → put y (U.owns y - 1) U.owns r ≡ U.owns r - takes o r
        moved r = put-less y U.owns r ∙ ap (λ z. U.owns r - z) (sym (takes_y r))

        taken_on : counted y ≡ true → counted x ≡ counted y → (1 ≤ U.owns y) × IsClear g.vars (with_owns y (U.owns y - 1) U) x × ((b : Bool) × (b ≡ true → IsLent g.vars U y) × Left (with_share x 1 b (with_owns y (U.owns y - 1) U)))
        taken_on is alike =
            (omega (arith, here_enough y is, takes_y y, same_self y), inl (moved x ∙ here_free x w less), (false, (λ t. absurd (cc)), here_written x 1 (put y (U.owns y - 1) U.owns) σ.held w moved (ap (λ c. cond c 1 0) (sym (alike ∙ is))) one fit.none_held))

        stays : counted y ≡ false → (r : ℕ) → (b : Bool) → nat_eq y r ≡ b → U.owns r ≡ U.owns r - takes o r
        stays off r true is =
            let none : U.owns r ≡ 0 = ap U.owns (sym (eqb-true y r is)) ∙ here_none y off in
            omega (arith, none)
        stays off r false is = omega (arith, takes_y r, same_is y r, ap one_if is)

        lent_on : counted y ≡ false → counted x ≡ counted y → may_refer g.vars x ≡ may_refer g.vars y → may_refer g.vars y ≡ counted y → IsLent g.vars U y × IsClear g.vars U x × Left (with_share x 0 (may_refer g.vars x) U)
        lent_on off alike kinds none =
            (inr (inl (none ∙ off)), inl (here_none x (alike ∙ off)), subst (λ b. Left (with_share x 0 b U)) (sym (kinds ∙ (none ∙ off))) (here_written x 0 U.owns σ.held w (λ r. stays off r (nat_eq y r) refl) (ap (λ c. cond c 1 0) (sym (alike ∙ off))) one fit.none_held))

    -- a literal has no cell, so its target has what is wanted
    lit_check : (x : ℕ) (l : Literal) → write_of o ≡ Some x → reads_of o ≡ [] → ((r : ℕ) → takes o r ≡ 0) → ((w : ℕ) → gives o w ≡ w) → (is_declared g.vars x && spelled_literal (literal_in l)) ≡ true → LineChecks code g Enters U (line.Lit x (literal_in l)) Left
    lit_check x l w none_read none_taken same_given spelled =
        let there = and_true (is_declared g.vars x) (spelled_literal (literal_in l)) spelled in
        let nothing : U.owns x ≡ 0 = omega (arith, here_free x w (here_clear x w (ap (λ z. is_among z x) none_read)), none_taken x) in
        (room x there.0, inl nothing, (record { owns = τ.owns x; lent = false; held = false; empty = false }, written p q code g counted Enters End o σ τ fit up ds before after n ls rest x (τ.owns x) U.owns σ.held w (λ r. omega (arith, none_taken r)) (by (counted x) refl) fit.none_held))
      where
        by : (c : Bool) → counted x ≡ c → τ.owns x ≡ cond c (gives o (τ.owns x)) 0
        by true is = sym (same_given (τ.owns x))
        by false off = fit.off_after x off

    -- a turn
    turn_check : write_of o ≡ None → ((r : ℕ) → takes o r ≡ 0) → Left U
    turn_check w none_taken = here_unwritten U.owns σ.held w (λ r. omega (arith, none_taken r)) fit.none_held

    -- a primitive takes the arguments that it steals, and gives its target one reference
    answered : (x : ℕ) (k : ℕ → ℕ) (h : ℕ → Bool) → write_of o ≡ Some x → is_declared g.vars x ≡ true → ((r : ℕ) → k r ≡ U.owns r - takes o r) → ((w : ℕ) → gives o w ≡ 1) → ((r : ℕ) → h r ≡ false) → Left (with_answer g.vars (Some x) (record { owns = k; lent = σ.lent; held = h; empty = σ.empty }))
    answered x k h w there e one off =
        here_written x (one_if (may_refer g.vars x)) k h w e (ap one_if (agree x there) ∙ by (counted x)) one off
      where
        by : (c : Bool) → one_if c ≡ cond c 1 0
        by true = refl
        by false = refl

    prim_check : (to : Option Reg) (k : Primitive) (args : List PArg) → write_of o ≡ option_map path.number_of to → reads_of o ≡ registers_in args → ((r : ℕ) → takes o r ≡ taken (row_of k).parameters args r) → ((w : ℕ) → gives o w ≡ 1) → ((r : ℕ) → is_among (reads_of o) r ≡ true → is_declared g.vars r ≡ true) → (is_target_of (row_of k).outcome to && is_apart to args) ≡ true → spelled_target g.vars (option_map number_of to) ≡ true → target_fits old g.vars (map argument_in args) (row_of k).outcome (option_map number_of to) ≡ true → PrimitiveChecks code g Enters U (option_map number_of to) (map argument_in args) k Left
    prim_check to k args w read taken_is one there op spelled fits =
        let both = and_true (is_target_of (row_of k).outcome to) (is_apart to args) op in
        let end = by (row_of k).outcome to w both.0 both.1 spelled fits in
        (given g.vars counted U (row_of k).parameters args U.owns (λ r e. here_usable r (ap (λ z. is_among z r) read ∙ e)) (λ r e. agree r (there r (ap (λ z. is_among z r) read ∙ e))) (λ r is. omega (arith, here_enough r is, taken_is r)), end.0, end.1, end.2, end.3)
      where
        left_is : (r : ℕ) → left_over g.vars (row_of k).parameters (map argument_in args) U.owns r ≡ U.owns r - takes o r
        left_is r = left-over g.vars (row_of k).parameters args U.owns r ∙ ap (λ z. U.owns r - z) (sym (taken_is r))

        quiet : (r : ℕ) → (σ.held r && not (is_noisy k)) ≡ false
        quiet r = ap (λ z. z && not (is_noisy k)) (fit.none_held r)

        by : (out : Outcome) (to : Option Reg) → write_of o ≡ option_map path.number_of to → is_target_of out to ≡ true → is_apart to args ≡ true → spelled_target g.vars (option_map number_of to) ≡ true → target_fits old g.vars (map argument_in args) out (option_map number_of to) ≡ true → HasTarget out (option_map number_of to) × HasRoom g.vars out (answers_cells code (map argument_in args) (target_kind g.vars (option_map number_of to)) out) (option_map number_of to) × IsFree g.vars (left_over g.vars (row_of k).parameters (map argument_in args) U.owns) U.empty (option_map number_of to) × Left (with_outcome g.vars out (option_map number_of to) (unheld_if (is_noisy k) (record U { owns = left_over g.vars (row_of k).parameters (map argument_in args) U.owns })))
        by Nothing None w op apart spelled fits = (refl, refl, tt, here_unwritten (left_over g.vars (row_of k).parameters (map argument_in args) U.owns) (λ r. σ.held r && not (is_noisy k)) w left_is quiet)
        by Nothing (Some x) w op apart spelled fits = absurd (cc)
        by (Lent m) to w op apart spelled fits = absurd (cc)
        by (Owned m) None w op apart spelled fits = absurd (cc)
        by (Owned m) (Some x) w op apart spelled fits =
            let off : is_among (reads_of o) x.0 ≡ false = ap (λ z. is_among z x.0) read ∙ apart_args x args (not_true (list_any (is_argument x) args) apart) in
            (tt, (room x.0 spelled, λ e. answer_fits code old (map argument_in args) (named_same (map argument_in args)) m (kind_at g.vars x.0) fits e), inl (left_is x.0 ∙ here_free x.0 w (here_clear x.0 w off)), answered x.0 (left_over g.vars (row_of k).parameters (map argument_in args) U.owns) (λ r. σ.held r && not (is_noisy k)) w spelled left_is one quiet)

    -- a function is lent its arguments
    call_check : (x : Reg) (name : List ℕ) (args : List Reg) → write_of o ≡ Some x.0 → reads_of o ≡ map path.number_of args → ((r : ℕ) → takes o r ≡ 0) → ((w : ℕ) → gives o w ≡ 1) → not (list_any (is_register x) args) ≡ true → is_declared g.vars x.0 ≡ true → function_call_fits old g.vars (Some x.0) (map register_in args) (callee_named old name) ≡ true → CallChecks code g Enters U (Some x.0) name (map register_in args) None Left
    call_check x name args w read none_taken one op spelled fits =
        let off : is_among (reads_of o) x.0 ≡ false = ap (λ z. is_among z x.0) read ∙ apart_regs x args (not_true (list_any (is_register x) args) op) in
        (usable_all g.vars U args (λ r e. here_usable r (ap (λ z. is_among z r) read ∙ e)), (room x.0 spelled, λ e. returns_same name ∙ called_fits old g.vars x.0 (map register_in args) (callee_named old name) fits e), inl (omega (arith, here_free x.0 w (here_clear x.0 w off), none_taken x.0)), answered x.0 U.owns (λ r. false) w spelled (λ r. omega (arith, none_taken r)) one (λ r. refl))

    -- so is a method, of which the object is the first
    method_check : (x ob : Reg) (args : List Reg) → write_of o ≡ Some x.0 → reads_of o ≡ map path.number_of (ob ∷ args) → ((r : ℕ) → takes o r ≡ 0) → ((w : ℕ) → gives o w ≡ 1) → not (list_any (is_register x) (ob ∷ args)) ≡ true → is_declared g.vars x.0 ≡ true → MethodChecks code g Enters U x.0 (ob.0 ∷ map number_of args) Left
    method_check x ob args w read none_taken one op spelled =
        let off : is_among (reads_of o) x.0 ≡ false = ap (λ z. is_among z x.0) read ∙ apart_regs x (ob ∷ args) (not_true (list_any (is_register x) (ob ∷ args)) op) in
        (subst (AreUsable g.vars U) (sym (map_registers (ob ∷ args))) (usable_all g.vars U (ob ∷ args) (λ r e. here_usable r (ap (λ z. is_among z r) read ∙ e))), room x.0 spelled, inl (omega (arith, here_free x.0 w (here_clear x.0 w off), none_taken x.0)), answered x.0 U.owns (λ r. false) w spelled (λ r. omega (arith, none_taken r)) one (λ r. refl))

  op_check : (o : Op) (σ τ : Shares) (fit : Suits g.vars counted o σ τ) (up : List ℕ) (ds : List (ℕ × Bool)) (before : (r : ℕ) → times up r ≡ counts_before counted o σ.owns τ.owns r) (after : (r : ℕ) → times (given_up ds) r ≡ counts_after counted o σ.owns τ.owns r) (n : ℕ) (ls : List Line) (rest : Good τ ls) → IsFit p old g o → LineChecks code g Enters (record σ { owns = λ r. σ.owns r + times up r }) (line_of p o) (λ ρ. Good ρ (op_lines q (downs ds n) ++ ls))
  op_check (Move x y) σ τ fit up ds before after n ls rest is =
      move_check (Move x y) σ τ fit up ds before after n ls rest x.0 y.0 refl refl (λ r. refl) (λ w. refl) is.spelled is.fits
  op_check (Lit x l) σ τ fit up ds before after n ls rest is =
      lit_check (Lit x l) σ τ fit up ds before after n ls rest x.0 l refl refl (λ r. refl) (λ w. refl) is.spelled
  op_check (Prim to k args) σ τ fit up ds before after n ls rest is =
      let cargs : List CArg = map argument_in args in
      let spelled = (and_true (spelled_target g.vars (option_map number_of to)) (is_call_name (row_of k).name && list_all (spelled_arg g.vars) cargs) is.spelled).0 in
      let row : call_fits old g.vars (option_map number_of to) cargs (Some k) (function_named old.funcs (row_of k).name) ≡ true =
      ap (λ z. call_fits old g.vars (option_map number_of to) cargs z (function_named old.funcs (row_of k).name)) (sym (primitive_found k)) ∙ is.fits in
      let fits = (and_true (args_fit old g.vars cargs (row_of k).parameters cargs) (target_fits old g.vars cargs (row_of k).outcome (option_map number_of to)) row).1 in
      subst (λ z. CallChecks code g Enters (record σ { owns = λ r. σ.owns r + times up r }) (option_map number_of to) (row_of k).name cargs z (λ ρ. Good ρ (op_lines q (downs ds n) ++ ls))) (sym (primitive_found k))
      (prim_check (Prim to k args) σ τ fit up ds before after n ls rest to k args refl refl (λ r. refl) (λ w. refl) (reads_declared g.vars p (Prim to k args) is.op is.spelled) is.op spelled fits)
  op_check (Call x m args) σ τ fit up ds before after n ls rest is =
      let cargs : List CArg = map register_in args in
      let name : List ℕ = called_as p m in
      let spelled = (and_true (is_declared g.vars x.0) (is_call_name name && list_all (spelled_arg g.vars) cargs) is.spelled).0 in
      let fits : call_fits old g.vars (Some x.0) cargs None (function_named old.funcs name) ≡ true =
      ap (λ z. call_fits old g.vars (Some x.0) cargs z (function_named old.funcs name)) (sym (none_called p m)) ∙ is.fits in
      subst (λ z. CallChecks code g Enters (record σ { owns = λ r. σ.owns r + times up r }) (Some x.0) name cargs z (λ ρ. Good ρ (op_lines q (downs ds n) ++ ls))) (sym (none_called p m))
      (call_check (Call x m args) σ τ fit up ds before after n ls rest x name args refl refl (λ r. refl) (λ w. refl) is.op spelled fits)
  op_check (Virtual x ob m args) σ τ fit up ds before after n ls rest is =
      let others : Bool = is_declared g.vars ob.0 && (spelled_label m && list_all (is_declared g.vars) (map number_of args)) in
      method_check (Virtual x ob m args) σ τ fit up ds before after n ls rest x ob args refl refl (λ r. refl) (λ w. refl) is.op (and_true (is_declared g.vars x.0) others is.spelled).0
  op_check (TraitCall x ob t m args) σ τ fit up ds before after n ls rest is =
      let others : Bool = is_declared g.vars ob.0 && (is_identifier (class_called p t) && (spelled_label m && list_all (is_declared g.vars) (map number_of args))) in
      method_check (TraitCall x ob t m args) σ τ fit up ds before after n ls rest x ob args refl refl (λ r. refl) (λ w. refl) is.op (and_true (is_declared g.vars x.0) others is.spelled).0
  op_check Turn σ τ fit up ds before after n ls rest is =
      turn_check Turn σ τ fit up ds before after n ls rest refl (λ r. refl)
  op_check (Inc x) σ τ fit up ds before after n ls rest is = let e : false ≡ true = is.op in absurd (cc)
  op_check (Dec x) σ τ fit up ds before after n ls rest is = let e : false ≡ true = is.op in absurd (cc)
  op_check (XDec x) σ τ fit up ds before after n ls rest is = let e : false ≡ true = is.op in absurd (cc)

  -- where the two programs give an operation one line
  pub group_check : (o : Op × ℕ) (σ τ : Shares) (ops : List (Op × ℕ)) (ls : List Line) → Suits g.vars counted o.0 σ τ → IsFit p old g o.0 → line_of q o.0 ≡ line_of p o.0 → IsGroup counted o σ.owns τ.owns ops → Good τ ls → Good σ (op_lines q ops ++ ls)
  group_check o σ τ ops ls fit is same_line group rest =
      let n : ℕ = o.1 in
      let behind : List Line = op_lines q (downs group.down n) in
      let up : Shares = record σ { owns = λ r. σ.owns r + times group.up r } in
      let body : Good up (line_of q o.0 ∷ (behind ++ ls)) =
      subst (λ z. Good up (z ∷ (behind ++ ls))) (sym same_line) (op_check o.0 σ τ fit group.up group.down group.before group.after n ls rest is) in
      let lines : op_lines q ops ++ ls ≡ op_lines q (ups group.up n) ++ (line_of q o.0 ∷ (behind ++ ls)) =
      ap (λ z. op_lines q z ++ ls) group.is ∙ (ap (λ z. z ++ ls) (lines_append q (ups group.up n) (o ∷ downs group.down n)) ∙ append_assoc (op_lines q (ups group.up n)) (line_of q o.0 ∷ behind) ls) in
      subst (Good σ) (sym lines) (ups_check q code g Enters End group.up n σ (line_of q o.0 ∷ (behind ++ ls)) (short_usable p q code g counted Enters End o.0 σ τ fit group.up group.down group.before group.after n ls rest) body)
