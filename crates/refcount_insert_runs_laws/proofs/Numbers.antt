-- Numbers of references: what takes one, and what more or fewer of them say.
use Rattle.std.proofs.Common.{◌≡◌, refl, sym, ap, ℕ, zero, suc, ◌<◌, ◌≤◌, arith, Bool, true, false, List, [], ◌∷◌, length, Option, Some, None, inl, inr, ◌⊎◌, ⊎_elim}
use Rattle.std.specs.Prelude.{slice_get, not, nat_eq, ◌&&◌, ◌||◌}
use Rattle.std.specs.Option.{option_map, option_map_or}
use Rattle.std.proofs.lemmas.Option.{slice_get_within}
use Rattle.std.proofs.lemmas.Bool.{eqb-true, eq-eqb}
use Rattle.c_core.specs.Cells.{same}
use Rattle.c_core.specs.Primitives.{Parameter, row_of}
use Rattle.c_core.proofs.CountLemmas.{same_one}
use Rattle.ir_core.specs.declared.code.RType.{RType}
use Rattle.ir_core.specs.declared.code.RType.TheVariants.{Int, I64, Bool as BoolType, Ref}
use Rattle.ir_core.specs.declared.code.PArg.{PArg}
use Rattle.ir_core.specs.declared.code.PArg.TheVariants as arg
use Rattle.ir_core.specs.declared.code.Op.{Op}
use Rattle.ir_core.specs.declared.code.Op.TheVariants.{Move, Lit, Prim, Call, Virtual, TraitCall, Turn, Inc, Dec, XDec}
use Rattle.ir_core.specs.Rows.{Declared, type_of_reg}
use Rattle.c_core_ownership_laws.specs.Shares.{put, one_if}
use Rattle.liveness.specs.Paths.{is_among, registers_in, reads_of}
use Rattle.refcount_insert_rule.specs.Rule.{is_counted, is_stolen, takes_one, taken, takes}
use Rattle.refcount_insert_rule.specs.Counted.{counts_register}
use Rattle.refcount_insert_lines_laws.specs.Lines.{HasCells}

-- ---- truth values
pub either : (b : Bool) → (b ≡ true) ⊎ (b ≡ false)
either true = inl refl
either false = inr refl

pub some_or_none : (n : ℕ) → (0 < n) ⊎ (n ≡ 0)
some_or_none zero = inr refl
some_or_none (suc n) = inl (omega arith)

pub below_or_not : (m n : ℕ) → (m < n) ⊎ (n ≤ m)
below_or_not m zero = inr (omega arith)
below_or_not zero (suc n) = inl (omega arith)
below_or_not (suc m) (suc n) = ⊎_elim (λ lt. inl (omega (arith, lt))) (λ le. inr (omega (arith, le))) (below_or_not m n)

pub one_all : (c l b : Bool) → 0 < one_if (c && (l && not b)) → (c ≡ true) × (l ≡ true) × (b ≡ false)
one_all true true false some = (refl, refl, refl)
one_all true true true some = absurd (omega (arith, some))
one_all true false b some = absurd (omega (arith, some))
one_all false l b some = absurd (omega (arith, some))

pub one_most : (b : Bool) → one_if b ≤ 1
one_most true = omega arith
one_most false = omega arith

-- a register that is counted and read again, and owns nothing, is only lent
pub none_lent : (c l b : Bool) → c ≡ true → l ≡ true → one_if (c && (l && not b)) ≡ 0 → b ≡ true
none_lent true true true e f none = refl
none_lent true true false e f none = absurd (omega (arith, none))
none_lent true false b e f none = absurd (cc)
none_lent false l b e f none = absurd (cc)

-- ---- numbers
pub same_is : (d c : ℕ) → 0 < same d c → d ≡ c
same_is d c some = by (same d c) refl some
  where
    by : (n : ℕ) → same d c ≡ n → 0 < n → d ≡ c
    by zero e some = absurd (omega (arith, some))
    by (suc n) e some = same_one d c n e

pub eq_swap : (a b : ℕ) → nat_eq a b ≡ false → nat_eq b a ≡ false
eq_swap a b e = ⊎_elim (λ yes. let z : nat_eq a b ≡ true = eq-eqb a b (sym (eqb-true b a yes)) in absurd (cc)) (λ no. no) (either (nat_eq b a))

pub put_here : (x a : ℕ) (k : ℕ → ℕ) → put x a k x ≡ a
put_here zero a k = refl
put_here (suc x) a k = put_here x a (λ j. k (suc j))

pub put_there : (x a : ℕ) (k : ℕ → ℕ) (r : ℕ) → (x ≡ r → ⊥) → put x a k r ≡ k r
put_there zero a k zero e = absurd (e refl)
put_there zero a k (suc r) e = refl
put_there (suc x) a k zero e = refl
put_there (suc x) a k (suc r) e = put_there x a (λ j. k (suc j)) r (λ i. e (ap suc i))

-- ---- what is taken is read
pub among_first : (s r : ℕ) (rest : List ℕ) → nat_eq s r ≡ true → is_among (s ∷ rest) r ≡ true
among_first s r rest e = ap (λ z. z || is_among rest r) e

among_more : (s r : ℕ) (rest : List ℕ) → is_among rest r ≡ true → is_among (s ∷ rest) r ≡ true
among_more s r rest e = by (nat_eq s r)
  where
    by : (z : Bool) → (z || is_among rest r) ≡ true
    by true = refl
    by false = e

taken_read : (ps : List Parameter) (args : List PArg) (r : ℕ) → 0 < taken ps args r → is_among (registers_in args) r ≡ true
taken_read [] args r some = absurd (omega (arith, some))
taken_read (p ∷ ps) [] r some = absurd (omega (arith, some))
taken_read (p ∷ ps) (arg.Var s ∷ args) r some =
    ⊎_elim
    (λ one. among_first s.0 r (registers_in args) (eq-eqb s.0 r (by_stolen (is_stolen p) one)))
    (λ none. among_more s.0 r (registers_in args) (taken_read ps args r (omega (arith, some, none))))
    (some_or_none (takes_one (is_stolen p) (arg.Var s) r))
  where
    by_stolen : (b : Bool) → 0 < takes_one b (arg.Var s) r → s.0 ≡ r
    by_stolen true one = same_is s.0 r one
    by_stolen false one = absurd (omega (arith, one))
taken_read (p ∷ ps) (arg.Number n ∷ args) r some = taken_read ps args r (omega (arith, some, none_taken (is_stolen p) (arg.Number n)))
  where
    none_taken : (b : Bool) (a : PArg) → takes_one b (arg.Number n) r ≡ 0
    none_taken true a = refl
    none_taken false a = refl
taken_read (p ∷ ps) (arg.Text n ∷ args) r some = taken_read ps args r (omega (arith, some, none_taken (is_stolen p)))
  where
    none_taken : (b : Bool) → takes_one b (arg.Text n) r ≡ 0
    none_taken true = refl
    none_taken false = refl
taken_read (p ∷ ps) (arg.Global n ∷ args) r some = taken_read ps args r (omega (arith, some, none_taken (is_stolen p)))
  where
    none_taken : (b : Bool) → takes_one b (arg.Global n) r ≡ 0
    none_taken true = refl
    none_taken false = refl
taken_read (p ∷ ps) (arg.Class n ∷ args) r some = taken_read ps args r (omega (arith, some, none_taken (is_stolen p)))
  where
    none_taken : (b : Bool) → takes_one b (arg.Class n) r ≡ 0
    none_taken true = refl
    none_taken false = refl

pub takes_read : (o : Op) (r : ℕ) → 0 < takes o r → is_among (reads_of o) r ≡ true
takes_read (Move x y) r some = among_first y.0 r [] (eq-eqb y.0 r (same_is y.0 r some))
takes_read (Prim to q args) r some = taken_read (row_of q).parameters args r some
takes_read (Lit x l) r some = absurd (omega (arith, some))
takes_read (Call x g args) r some = absurd (omega (arith, some))
takes_read (Virtual x o n args) r some = absurd (omega (arith, some))
takes_read (TraitCall x o t n args) r some = absurd (omega (arith, some))
takes_read Turn r some = absurd (omega (arith, some))
takes_read (Inc x) r some = absurd (omega (arith, some))
takes_read (Dec x) r some = absurd (omega (arith, some))
takes_read (XDec x) r some = absurd (omega (arith, some))

-- ---- what is counted has cells, and is declared
has_cells_by : (t : RType) → is_counted t ≡ true → (t ≡ Int) ⊎ (t ≡ Ref)
has_cells_by Int e = inl refl
has_cells_by I64 e = absurd (cc)
has_cells_by BoolType e = absurd (cc)
has_cells_by Ref e = inr refl

pub counted_cells : (regs : Declared) (r : ℕ) → counts_register regs r ≡ true → HasCells regs r
counted_cells regs r e = by (type_of_reg regs (record { 0 = r })) refl e
  where
    by : (o : Option RType) → type_of_reg regs (record { 0 = r }) ≡ o → option_map_or is_counted o false ≡ true → HasCells regs r
    by None is e = absurd (cc)
    by (Some t) is e = (t, is, has_cells_by t e)

pub counted_declared : (regs : Declared) (r : ℕ) → counts_register regs r ≡ true → r < length regs
counted_declared regs r e = by (slice_get regs r) refl e
  where
    by : (o : Option (List ℕ × RType)) → slice_get regs r ≡ o → option_map_or is_counted (option_map (λ (x : List ℕ × RType). x.1) o) false ≡ true → r < length regs
    by None is e = absurd (cc)
    by (Some d) is e = slice_get_within regs r d is
