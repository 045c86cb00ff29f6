-- What an operation reads holds a value, or the program is stuck there.
use Rattle.std.proofs.Common.{◌≡◌, refl, sym, ◌∙◌, ap, subst, ℕ, Bool, true, false, cond, List, [], ◌∷◌, Option, Some, None, inl, inr, ◌⊎◌}
use Rattle.std.specs.Prelude.{slice_get, nat_eq, ◌||◌, map}
use Rattle.std.specs.Option.{option_map, option_and_then}
use Rattle.std.proofs.lemmas.Bool.{eqb-true}
use Rattle.value_core.specs.Exceptions.{Thrown}
use Rattle.value_core.specs.Value.{Value}
use Rattle.c_core.specs.declared.primitive.Primitive.{Primitive}
use Rattle.c_core.specs.declared.code.CClass.{CClass}
use Rattle.c_core.specs.Functions.{method_at, trait_method_at}
use Rattle.ir_core.specs.declared.code.RType.{RType}
use Rattle.ir_core.specs.declared.code.RType.TheVariants.{Int, I64, Bool as BoolType, Ref}
use Rattle.ir_core.specs.declared.code.Reg.{Reg}
use Rattle.ir_core.specs.declared.code.PArg.{PArg}
use Rattle.ir_core.specs.declared.code.PArg.TheVariants as arg
use Rattle.ir_core.specs.declared.code.Op.{Op}
use Rattle.ir_core.specs.declared.code.Op.TheVariants.{Move, Lit, Prim, Call, Virtual, TraitCall, Turn, Inc, Dec, XDec}
use Rattle.ir_core.specs.declared.code.Program.{Program}
use Rattle.ir_core.specs.Rows.{Declared, type_of_reg}
use Rattle.ir_core.specs.Registers.{Held, Unset, Holds, Regs, is_unset}
use Rattle.ir_core.specs.Effects.{World, Argument, Given, Written}
use Rattle.ir_core.specs.Meaning.{Frame, Waiting, Config, Stuck, Fitting, if_some, if_calm, value_of, read, read_all, arguments, may_stand, is_lost, registers_of, do_op, calls_method, method_of, trait_name}
use Rattle.liveness.specs.Paths.{is_among, number_of, registers_in, reads_of}
use Rattle.refcount_insert_lines_laws.specs.Lines.{HasCells, stays, method_target}

-- ---- what is read
value_set : (h : Held) (v : Value) → value_of h ≡ Some v → is_unset h ≡ false
value_set Unset v e = let f : None ≡ Some v = e in absurd (cc)
value_set (Holds x) v e = refl

read_set : (declared : Declared) (regs : Regs) (r : Reg) (v : Value) → read declared regs r ≡ Some v → is_unset (regs r.0) ≡ false
read_set declared regs r v e = by (type_of_reg declared r) e
  where
    by : (t : Option RType) → option_and_then value_of (option_map (λ (t : RType). regs r.0) t) ≡ Some v → is_unset (regs r.0) ≡ false
    by None e = let f : None ≡ Some v = e in absurd (cc)
    by (Some t) e = value_set (regs r.0) v e

among_one : (P : ℕ → Type 0) (s r : ℕ) (rest : List ℕ) → is_among (s ∷ rest) r ≡ true → P s → ((r : ℕ) → is_among rest r ≡ true → P r) → P r
among_one P s r rest among first more = by (nat_eq s r) refl among
  where
    by : (b : Bool) → nat_eq s r ≡ b → (b || is_among rest r) ≡ true → P r
    by true e is = subst P (eqb-true s r e) first
    by false e is = more r is

none_among : (P : ℕ → Type 0) (r : ℕ) → is_among [] r ≡ true → P r
none_among P r e = let f : false ≡ true = e in absurd (cc)

module _ (declared : Declared) (regs : Regs) where
  abbrev Set : ℕ → Type 0
  Set r = is_unset (regs r) ≡ false

  -- behind a register that is read, and behind what is only written
  given_set : (s : ℕ) (rest : List ℕ) (r : ℕ) (xs : List Argument) (o : Option Value) (more : Option (List Argument)) → option_and_then (λ (x : Argument). option_map (λ ys. x ∷ ys) more) (option_map Given o) ≡ Some xs → is_among (s ∷ rest) r ≡ true → ((v : Value) → o ≡ Some v → Set s) → ((ys : List Argument) → more ≡ Some ys → (x : ℕ) → is_among rest x ≡ true → Set x) → Set r
  given_set s rest r xs None more e among first others = let f : None ≡ Some xs = e in absurd (cc)
  given_set s rest r xs (Some v) None e among first others = let f : None ≡ Some xs = e in absurd (cc)
  given_set s rest r xs (Some v) (Some ys) e among first others =
      among_one Set s r rest among (first v refl) (others ys refl)

  written_set : (a : PArg) (P : Type 0) (xs : List Argument) (more : Option (List Argument)) → option_map (λ (ys : List Argument). Written a ∷ ys) more ≡ Some xs → ((ys : List Argument) → more ≡ Some ys → P) → P
  written_set a P xs None e others = let f : None ≡ Some xs = e in absurd (cc)
  written_set a P xs (Some ys) e others = others ys refl

  args_set : (args : List PArg) (xs : List Argument) → arguments declared regs args ≡ Some xs → (r : ℕ) → is_among (registers_in args) r ≡ true → Set r
  args_set [] xs e r among = none_among Set r among
  args_set (arg.Var s ∷ rest) xs e r among =
      given_set s.0 (registers_in rest) r xs (read declared regs s) (arguments declared regs rest) e among (λ v is. read_set declared regs s v is) (λ ys are x others. args_set rest ys are x others)
  args_set (arg.Number n ∷ rest) xs e r among =
      written_set (arg.Number n) (Set r) xs (arguments declared regs rest) e (λ ys are. args_set rest ys are r among)
  args_set (arg.Text n ∷ rest) xs e r among =
      written_set (arg.Text n) (Set r) xs (arguments declared regs rest) e (λ ys are. args_set rest ys are r among)
  args_set (arg.Global n ∷ rest) xs e r among =
      written_set (arg.Global n) (Set r) xs (arguments declared regs rest) e (λ ys are. args_set rest ys are r among)
  args_set (arg.Class n ∷ rest) xs e r among =
      written_set (arg.Class n) (Set r) xs (arguments declared regs rest) e (λ ys are. args_set rest ys are r among)

  passed_set : (s : ℕ) (rest : List ℕ) (r : ℕ) (xs : List Held) (o : Option Value) (more : Option (List Held)) → option_and_then (λ (v : Value). option_map (λ ys. Holds v ∷ ys) more) o ≡ Some xs → is_among (s ∷ rest) r ≡ true → ((v : Value) → o ≡ Some v → Set s) → ((ys : List Held) → more ≡ Some ys → (x : ℕ) → is_among rest x ≡ true → Set x) → Set r
  passed_set s rest r xs None more e among first others = let f : None ≡ Some xs = e in absurd (cc)
  passed_set s rest r xs (Some v) None e among first others = let f : None ≡ Some xs = e in absurd (cc)
  passed_set s rest r xs (Some v) (Some ys) e among first others =
      among_one Set s r rest among (first v refl) (others ys refl)

  all_set : (args : List Reg) (xs : List Held) → read_all declared regs args ≡ Some xs → (r : ℕ) → is_among (map number_of args) r ≡ true → Set r
  all_set [] xs e r among = none_among Set r among
  all_set (s ∷ rest) xs e r among =
      passed_set s.0 (map number_of rest) r xs (read declared regs s) (read_all declared regs rest) e among (λ v is. read_set declared regs s v is) (λ ys are x others. all_set rest ys are x others)

-- ---- where it does not, the program is stuck
choice_stuck : (b : Bool) (c : Config) → c ≡ Stuck → cond b c Stuck ≡ Stuck
choice_stuck true c e = e
choice_stuck false c e = refl

calm_stuck : (o : Option Thrown) (c : Config) → c ≡ Stuck → if_calm o c ≡ Stuck
calm_stuck None c e = e
calm_stuck (Some x) c e = refl

some_stuck : {A : Type 0} (o : Option A) (go : A → Config) → ((a : A) → go a ≡ Stuck) → if_some o go ≡ Stuck
some_stuck None go h = refl
some_stuck (Some a) go h = h a

first_stuck : (b : Bool) (c : Config) → b ≡ true → cond b Stuck c ≡ Stuck
first_stuck true c e = refl
first_stuck false c e = absurd (cc)

some_at : {A : Type 0} (o : Option A) (go : A → Config) → ((a : A) → o ≡ Some a → go a ≡ Stuck) → if_some o go ≡ Stuck
some_at None go h = refl
some_at (Some a) go h = h a refl

not_lost : (t : RType) (h : Held) → (t ≡ Int) ⊎ (t ≡ Ref) → is_lost t h ≡ false → is_unset h ≡ false
not_lost Int h cells e = e
not_lost Ref h cells e = e
not_lost I64 h (inl i) e = absurd (cc)
not_lost I64 h (inr i) e = absurd (cc)
not_lost BoolType h (inl i) e = absurd (cc)
not_lost BoolType h (inr i) e = absurd (cc)

module _ (p : Program) (f : Frame) (below : List Waiting) (w : World) where
  abbrev declared : Declared
  declared = registers_of p f.fn

  abbrev pub HoldsRead : Op → Type 0
  HoldsRead o = (r : ℕ) → is_among (reads_of o) r ≡ true → HasCells declared r → is_unset (f.regs r) ≡ false

  abbrev Result : Op → Type 0
  Result o = (do_op Fitting p o f below w ≡ Stuck) ⊎ HoldsRead o

  module _ (x y : Reg) where
    move_by : (t : RType) → type_of_reg declared y ≡ Some t → (b : Bool) → is_lost t (f.regs y.0) ≡ b → Result (Move x y)
    move_by t e true is =
        inl (some_at (type_of_reg declared y) _ (λ u also. let both : Some t ≡ Some u = sym e ∙ also in let same : t ≡ u = cc in first_stuck (is_lost u (f.regs y.0)) _ (ap (λ z. is_lost z (f.regs y.0)) (sym same) ∙ is)))
    move_by t e false is =
        inr (λ r among cells. among_one (λ r. HasCells declared r → is_unset (f.regs r) ≡ false) y.0 r [] among (λ c. let both : Some c.0 ≡ Some t = sym c.1 ∙ e in let same : c.0 ≡ t = cc in not_lost t (f.regs y.0) (subst (λ z. (z ≡ Int) ⊎ (z ≡ Ref)) same c.2) is) (λ s others. none_among (λ r. HasCells declared r → is_unset (f.regs r) ≡ false) s others) cells)

    move_holds : (t : Option RType) → type_of_reg declared y ≡ t → Result (Move x y)
    move_holds None e =
        inl (some_at (type_of_reg declared y) _ (λ u also. let both : None ≡ Some u = sym e ∙ also in absurd (cc)))
    move_holds (Some t) e = move_by t e (is_lost t (f.regs y.0)) refl

  prim_holds : (to : Option Reg) (q : Primitive) (args : List PArg) (xs : Option (List Argument)) → arguments declared f.regs args ≡ xs → Result (Prim to q args)
  prim_holds to q args None e =
      inl (choice_stuck (may_stand w.pending q) _ (some_at (arguments declared f.regs args) _ (λ xs also. let both : None ≡ Some xs = sym e ∙ also in absurd (cc))))
  prim_holds to q args (Some xs) e = inr (λ r among cells. args_set declared f.regs args xs e r among)

  call_holds : (x : Reg) (g : ℕ) (args : List Reg) (xs : Option (List Held)) → read_all declared f.regs args ≡ xs → Result (Call x g args)
  call_holds x g args None e =
      inl (calm_stuck w.pending _ (some_stuck (slice_get p.funcs g) _ (λ h. some_at (read_all declared f.regs args) _ (λ xs also. let both : None ≡ Some xs = sym e ∙ also in absurd (cc)))))
  call_holds x g args (Some xs) e = inr (λ r among cells. all_set declared f.regs args xs e r among)

  -- an operation that stays in its function
  pub reads_hold : (o : Op) → stays o ≡ true → Result o
  reads_hold (Move x y) e = move_holds x y (type_of_reg declared y) refl
  reads_hold (Lit x l) e = inr (λ r among cells. none_among (λ r. is_unset (f.regs r) ≡ false) r among)
  reads_hold (Prim to q args) e = prim_holds to q args (arguments declared f.regs args) refl
  reads_hold (Call x g args) e = absurd (cc)
  reads_hold (Virtual x o n args) e = absurd (cc)
  reads_hold (TraitCall x o t n args) e = absurd (cc)
  reads_hold Turn e = inr (λ r among cells. none_among (λ r. is_unset (f.regs r) ≡ false) r among)
  reads_hold (Inc r) e = absurd (cc)
  reads_hold (Dec r) e = absurd (cc)
  reads_hold (XDec r) e = absurd (cc)

  -- a call of a method, where its arguments do not all hold values
  method_stuck : (x o : Reg) (args : List Reg) (entry : CClass → Option (List ℕ)) → read_all declared f.regs (o ∷ args) ≡ None → calls_method p x o args f below w entry ≡ Stuck
  method_stuck x o args entry e =
      some_stuck (read declared f.regs o) _ (λ v. calm_stuck w.pending _ (some_stuck (method_of p w v entry) _ (λ g. some_stuck (slice_get p.funcs g) _ (λ h. some_at (read_all declared f.regs (o ∷ args)) _ (λ xs also. let both : None ≡ Some xs = sym e ∙ also in absurd (cc))))))

  virtual_holds : (x o : Reg) (n : ℕ) (args : List Reg) (xs : Option (List Held)) → read_all declared f.regs (o ∷ args) ≡ xs → Result (Virtual x o n args)
  virtual_holds x o n args None e = inl (method_stuck x o args (method_at n) e)
  virtual_holds x o n args (Some xs) e = inr (λ r among cells. all_set declared f.regs (o ∷ args) xs e r among)

  trait_holds : (x o : Reg) (t n : ℕ) (args : List Reg) (xs : Option (List Held)) → read_all declared f.regs (o ∷ args) ≡ xs → Result (TraitCall x o t n args)
  trait_holds x o t n args None e =
      inl (some_stuck (trait_name p t) _ (λ name. method_stuck x o args (trait_method_at name n) e))
  trait_holds x o t n args (Some xs) e = inr (λ r among cells. all_set declared f.regs (o ∷ args) xs e r among)

  pub method_reads_hold : (o : Op) (into : Reg) → method_target o ≡ Some into → Result o
  method_reads_hold (Virtual x o n args) into e = virtual_holds x o n args (read_all declared f.regs (o ∷ args)) refl
  method_reads_hold (TraitCall x o t n args) into e = trait_holds x o t n args (read_all declared f.regs (o ∷ args)) refl
  method_reads_hold (Move x y) into e = absurd (cc)
  method_reads_hold (Lit x l) into e = absurd (cc)
  method_reads_hold (Prim to q args) into e = absurd (cc)
  method_reads_hold (Call x g args) into e = absurd (cc)
  method_reads_hold Turn into e = absurd (cc)
  method_reads_hold (Inc r) into e = absurd (cc)
  method_reads_hold (Dec r) into e = absurd (cc)
  method_reads_hold (XDec r) into e = absurd (cc)

  -- and a call
  pub call_reads_hold : (x : Reg) (g : ℕ) (args : List Reg) → Result (Call x g args)
  call_reads_hold x g args = call_holds x g args (read_all declared f.regs args) refl
