-- What lines that are spelled and fit say of their variables and of their kinds.
use Rattle.std.proofs.Common.{◌≡◌, refl, sym, ap, ◌∙◌, subst, ℕ, zero, suc, ◌<◌, ◌⊎◌, inl, inr, ⊎_elim, Bool, true, false, List, [], ◌∷◌, map, length, arith, Option, Some, None, eqb-true}
use Rattle.std.specs.Prelude.{slice_get, nat_eq, nat_lt, ◌&&◌, ◌||◌}
use Rattle.std.specs.List.{list_all}
use Rattle.std.specs.Option.{option_map, option_map_or}
use Rattle.std.proofs.lemmas.Bool.{ltb-true}
use Rattle.c_core.specs.declared.code.Kind.{Kind}
use Rattle.c_core.specs.declared.code.Kind.TheVariants.{Tagged, Int64, Char, Object}
use Rattle.c_core.specs.Primitives.{row_of}
use Rattle.c_core.specs.WellFormed.{has_kind, same_kind, same_kinds, is_declared, is_identifier, is_call_name, spelled_label, spelled_target, spelled_line, spelled_arg}
use Rattle.c_core.proofs.Lines.{and_true}
use Rattle.ir_core.specs.declared.code.RType.{RType}
use Rattle.ir_core.specs.declared.code.RType.TheVariants.{Int, I64, Bool as BoolType, Ref}
use Rattle.ir_core.specs.declared.code.Reg.{Reg}
use Rattle.ir_core.specs.declared.code.PArg.{PArg}
use Rattle.ir_core.specs.declared.code.PArg.TheVariants as arg
use Rattle.ir_core.specs.declared.code.Op.{Op}
use Rattle.ir_core.specs.declared.code.Op.TheVariants.{Move, Lit, Prim, Call, Virtual, TraitCall, Turn, Inc, Dec, XDec}
use Rattle.ir_core.specs.declared.code.Program.{Program}
use Rattle.ir_core.specs.Rows.{Declared}
use Rattle.ir_core.specs.Lower.{kind_of_type, variable_of, argument_in, number_of, register_in, line_of, called_as, class_called}
use Rattle.ir_core.specs.Shape.{op_fits}
use Rattle.c_core_ownership_laws.specs.Shares.{has_cells, may_have_cells, may_refer}
use Rattle.liveness.specs.Paths.{is_among, reads_of}
use Rattle.liveness.specs.Paths as path
use Rattle.refcount_insert_rule.specs.Rule.{is_counted}
use Rattle.refcount_insert_rule.specs.Counted.{counts_register}

-- ---- kinds
pub same_kind_is : (k l : Kind) → same_kind k l ≡ true → k ≡ l
same_kind_is Tagged Tagged e = refl
same_kind_is Tagged Int64 e = absurd (cc)
same_kind_is Tagged Char e = absurd (cc)
same_kind_is Tagged Object e = absurd (cc)
same_kind_is Int64 Tagged e = absurd (cc)
same_kind_is Int64 Int64 e = refl
same_kind_is Int64 Char e = absurd (cc)
same_kind_is Int64 Object e = absurd (cc)
same_kind_is Char Tagged e = absurd (cc)
same_kind_is Char Int64 e = absurd (cc)
same_kind_is Char Char e = refl
same_kind_is Char Object e = absurd (cc)
same_kind_is Object Tagged e = absurd (cc)
same_kind_is Object Int64 e = absurd (cc)
same_kind_is Object Char e = absurd (cc)
same_kind_is Object Object e = refl

pub has_kind_is : (k : Kind) (l : Option Kind) → has_kind k l ≡ true → l ≡ Some k
has_kind_is k None e = absurd (cc)
has_kind_is k (Some l) e = ap Some (sym (same_kind_is k l e))

pub same_kinds_are : (k l : Option Kind) → same_kinds k l ≡ true → k ≡ l
same_kinds_are None l e = absurd (cc)
same_kinds_are (Some k) l e = sym (has_kind_is k l e)

-- ---- variables
pub is_within : (n m : ℕ) → nat_lt n m ≡ true → n < m
is_within n m e = ltb-true n m e

get_map : {A B : Type 0} (f : A → B) (xs : List A) (i : ℕ) → slice_get (map f xs) i ≡ option_map f (slice_get xs i)
get_map f [] i = refl
get_map f (x ∷ xs) zero = refl
get_map f (x ∷ xs) (suc i) = get_map f xs i

counted_kind : (t : RType) → has_cells (kind_of_type t) ≡ is_counted t
counted_kind Int = refl
counted_kind I64 = refl
counted_kind BoolType = refl
counted_kind Ref = refl

by_type : (o : Option (List ℕ × RType)) → (d : List ℕ × RType) → o ≡ Some d → may_have_cells (option_map (λ (v : List ℕ × Kind). v.1) (option_map variable_of o)) ≡ option_map_or is_counted (option_map (λ (x : List ℕ × RType). x.1) o) false
by_type None d e = absurd (cc)
by_type (Some x) d e = counted_kind x.1

there : {A B : Type 0} (f : A → B) (xs : List A) (i : ℕ) → i < length (map f xs) → (x : A) × (slice_get xs i ≡ Some x)
there f [] i lt = absurd (omega (arith, lt))
there f (x ∷ xs) zero lt = (x, refl)
there f (x ∷ xs) (suc i) lt = there f xs i (omega (arith, lt))

-- a declared variable may refer where its register is counted
pub agrees : (regs : Declared) (r : ℕ) → is_declared (map variable_of regs) r ≡ true → may_refer (map variable_of regs) r ≡ counts_register regs r
agrees regs r e =
    let d = there variable_of regs r (is_within r (length (map variable_of regs)) e) in
    ap (λ o. may_have_cells (option_map (λ (v : List ℕ × Kind). v.1) o)) (get_map variable_of regs r) ∙ by_type (slice_get regs r) d.0 d.1

-- ---- what is read is declared
module _ (vars : List (List ℕ × Kind)) where
  among_one : (x r : ℕ) → is_declared vars x ≡ true → (nat_eq x r || false) ≡ true → is_declared vars r ≡ true
  among_one x r d e = by (nat_eq x r) refl e
    where
      by : (b : Bool) → nat_eq x r ≡ b → (b || false) ≡ true → is_declared vars r ≡ true
      by true is f = subst (λ z. is_declared vars z ≡ true) (eqb-true x r is) d
      by false is f = absurd (cc)

  pub one_of : (x : ℕ) (xs : List ℕ) (r : ℕ) → (nat_eq x r || is_among xs r) ≡ true → (x ≡ r) ⊎ (is_among xs r ≡ true)
  one_of x xs r e = by (nat_eq x r) refl e
    where
      by : (b : Bool) → nat_eq x r ≡ b → (b || is_among xs r) ≡ true → (x ≡ r) ⊎ (is_among xs r ≡ true)
      by true is f = inl (eqb-true x r is)
      by false is f = inr f

  args_declared : (args : List PArg) → list_all (spelled_arg vars) (map argument_in args) ≡ true → (r : ℕ) → is_among (path.registers_in args) r ≡ true → is_declared vars r ≡ true
  args_declared [] s r e = absurd (cc)
  args_declared (arg.Var x ∷ args) s r e =
      let both = and_true (is_declared vars x.0) (list_all (spelled_arg vars) (map argument_in args)) s in
      ⊎_elim (λ is. subst (λ z. is_declared vars z ≡ true) is both.0) (args_declared args both.1 r) (one_of x.0 (path.registers_in args) r e)
  args_declared (arg.Number n ∷ args) s r e = args_declared args (and_true (spelled_arg vars (argument_in (arg.Number n))) (list_all (spelled_arg vars) (map argument_in args)) s).1 r e
  args_declared (arg.Text n ∷ args) s r e = args_declared args (and_true (spelled_arg vars (argument_in (arg.Text n))) (list_all (spelled_arg vars) (map argument_in args)) s).1 r e
  args_declared (arg.Global n ∷ args) s r e = args_declared args (and_true (spelled_arg vars (argument_in (arg.Global n))) (list_all (spelled_arg vars) (map argument_in args)) s).1 r e
  args_declared (arg.Class n ∷ args) s r e = args_declared args (and_true (spelled_arg vars (argument_in (arg.Class n))) (list_all (spelled_arg vars) (map argument_in args)) s).1 r e

  regs_declared : (args : List Reg) → list_all (spelled_arg vars) (map register_in args) ≡ true → (r : ℕ) → is_among (map path.number_of args) r ≡ true → is_declared vars r ≡ true
  regs_declared [] s r e = absurd (cc)
  regs_declared (x ∷ args) s r e =
      let both = and_true (is_declared vars x.0) (list_all (spelled_arg vars) (map register_in args)) s in
      ⊎_elim (λ is. subst (λ z. is_declared vars z ≡ true) is both.0) (regs_declared args both.1 r) (one_of x.0 (map path.number_of args) r e)

  numbers_declared : (args : List Reg) → list_all (is_declared vars) (map number_of args) ≡ true → (r : ℕ) → is_among (map path.number_of args) r ≡ true → is_declared vars r ≡ true
  numbers_declared [] s r e = absurd (cc)
  numbers_declared (x ∷ args) s r e =
      let both = and_true (is_declared vars x.0) (list_all (is_declared vars) (map number_of args)) s in
      ⊎_elim (λ is. subst (λ z. is_declared vars z ≡ true) is both.0) (numbers_declared args both.1 r) (one_of x.0 (map path.number_of args) r e)

  pub reads_declared : (p : Program) (o : Op) → op_fits o ≡ true → spelled_line vars (line_of p o) ≡ true → (r : ℕ) → is_among (reads_of o) r ≡ true → is_declared vars r ≡ true
  reads_declared p (Move x y) fit s r e =
      among_one y.0 r (and_true (is_declared vars x.0) (is_declared vars y.0) s).1 e
  reads_declared p (Lit x l) fit s r e = absurd (cc)
  reads_declared p (Prim to q args) fit s r e =
      args_declared args (and_true (is_call_name (row_of q).name) (list_all (spelled_arg vars) (map argument_in args)) (and_true (spelled_target vars (option_map number_of to)) (is_call_name (row_of q).name && list_all (spelled_arg vars) (map argument_in args)) s).1).1 r e
  reads_declared p (Call x n args) fit s r e =
      regs_declared args (and_true (is_call_name (called_as p n)) (list_all (spelled_arg vars) (map register_in args)) (and_true (is_declared vars x.0) (is_call_name (called_as p n) && list_all (spelled_arg vars) (map register_in args)) s).1).1 r e
  reads_declared p (Virtual x o n args) fit s r e =
      let all = list_all (is_declared vars) (map number_of args) in
      let object = (and_true (is_declared vars x.0) (is_declared vars o.0 && (spelled_label n && all)) s).1 in
      let both = and_true (is_declared vars o.0) (spelled_label n && all) object in
      ⊎_elim (λ is. subst (λ z. is_declared vars z ≡ true) is both.0) (numbers_declared args (and_true (spelled_label n) all both.1).1 r) (one_of o.0 (map path.number_of args) r e)
  reads_declared p (TraitCall x o t n args) fit s r e =
      let all = list_all (is_declared vars) (map number_of args) in
      let trait = is_identifier (class_called p t) && (spelled_label n && all) in
      let object = (and_true (is_declared vars x.0) (is_declared vars o.0 && trait) s).1 in
      let both = and_true (is_declared vars o.0) trait object in
      let last = (and_true (is_identifier (class_called p t)) (spelled_label n && all) both.1).1 in
      ⊎_elim (λ is. subst (λ z. is_declared vars z ≡ true) is both.0) (numbers_declared args (and_true (spelled_label n) all last).1 r) (one_of o.0 (map path.number_of args) r e)
  reads_declared p Turn fit s r e = absurd (cc)
  reads_declared p (Inc x) fit s r e = absurd (cc)
  reads_declared p (Dec x) fit s r e = absurd (cc)
  reads_declared p (XDec x) fit s r e = absurd (cc)
