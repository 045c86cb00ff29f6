-- What holds of the frames of every run, where it holds at the start of a function and goes on over each step inside it.
use Rattle.std.proofs.Common.{◌≡◌, refl, sym, ◌∙◌, ap, subst, ℕ, suc, ◌+◌, arith, Bool, true, false, not, cond, List, [], ◌∷◌, Option, Some, None, ◌⊎◌, inl, inr}
use Rattle.std.specs.Prelude.{nat_eq, ◌||◌, ◌%◌, ◌/◌, ◌==◌, ℤ, pos, negsuc, zero}
use Rattle.std.specs.Ordering.{int_eq}
use Rattle.std.proofs.lemmas.Bool.{eq-eqb, eqb-true}
use Rattle.value_core.specs.Exceptions.{Thrown}
use Rattle.value_core.specs.Value.{IntVal, BoolVal, NoneVal}
use Rattle.ir_core.specs.declared.code.Reg.{Reg}
use Rattle.ir_core.specs.declared.code.RType.{RType}
use Rattle.ir_core.specs.declared.code.RType.TheVariants.{Int, I64, Bool as BoolType, Ref}
use Rattle.ir_core.specs.declared.code.Lit.{Lit as Literal}
use Rattle.ir_core.specs.declared.code.Lit.TheVariants.{Number, Null, PyNone, PyTrue, PyFalse}
use Rattle.ir_core.specs.declared.code.Op.{Op}
use Rattle.ir_core.specs.declared.code.Last.{Last}
use Rattle.ir_core.specs.declared.code.Last.TheVariants.{Goto, If, IfError}
use Rattle.ir_core.specs.declared.code.Program.{Program}
use Rattle.ir_core.specs.declared.kind.Edge.{Edge}
use Rattle.ir_core.specs.declared.kind.Edge.TheVariants.{NoEdge, Tests, TestsTwice, Jumps}
use Rattle.ir_core.specs.Items.{Item, Do, End}
use Rattle.ir_core.specs.Rows.{Declared, type_of_reg, kind_by_result, edge_of_kind, edge_of_call, edge_of_op}
use Rattle.ir_core.specs.Registers.{Held, Unset, Holds, is_error, halved, truth, literal_of, Regs, put}
use Rattle.ir_core.specs.Effects.{World}
use Rattle.ir_core.specs.Meaning.{Frame, Waiting, Config, Runs, Leaves, Ended, Stuck, Mode, Plain, Strict, Fitting, if_some, if_calm, next, goes, is_jump, is_edge, is_clear, unfit, away, registers_of, item_at, handler_at, failed, succeeds}
use Rattle.ir_core.specs.Missing.{is_some_edge}
use Rattle.liveness.specs.Paths.{is_among, is_target, write_of, is_caught}
use Rattle.unset_tests.specs.Unset.{is_error_literal, sets, is_passed}

-- ---- literals
halved_error : (n : ℤ) (h : Held) → halved n ≡ Some h → is_error Int h ≡ true → int_eq n (pos 1) ≡ true
halved_error (pos n) h e f = by (n % 2 == 0) e
  where
    one : (b : Bool) → (n == 1) ≡ b → cond b (Some Unset) None ≡ Some h → int_eq (pos n) (pos 1) ≡ true
    one true g k = let same : n ≡ 1 = eqb-true n 1 g in ap (λ x. int_eq (pos x) (pos 1)) same
    one false g k = absurd (cc)

    by : (b : Bool) → cond b (Some (Holds (IntVal (pos (n / 2))))) (cond (n == 1) (Some Unset) None) ≡ Some h → int_eq (pos n) (pos 1) ≡ true
    by true k = let is : Holds (IntVal (pos (n / 2))) ≡ h = cc in let g : false ≡ true = ap (is_error Int) is ∙ f in absurd (cc)
    by false k = one (n == 1) refl k
halved_error (negsuc n) h e f = by (n % 2 == 1) e
  where
    by : (b : Bool) → cond b (Some (Holds (IntVal (negsuc (n / 2))))) None ≡ Some h → int_eq (negsuc n) (pos 1) ≡ true
    by true k = let is : Holds (IntVal (negsuc (n / 2))) ≡ h = cc in let g : false ≡ true = ap (is_error Int) is ∙ f in absurd (cc)
    by false k = absurd (cc)

truth_error : (n : ℤ) (h : Held) → truth n ≡ Some h → is_error BoolType h ≡ true → int_eq n (pos 2) ≡ true
truth_error (pos zero) h e f = let is : Holds (BoolVal false) ≡ h = cc in let g : false ≡ true = ap (is_error BoolType) is ∙ f in absurd (cc)
truth_error (pos (suc zero)) h e f = let is : Holds (BoolVal true) ≡ h = cc in let g : false ≡ true = ap (is_error BoolType) is ∙ f in absurd (cc)
truth_error (pos (suc (suc zero))) h e f = refl
truth_error (pos (suc (suc (suc n)))) h e f = absurd (cc)
truth_error (negsuc n) h e f = absurd (cc)

native_error : (n : ℤ) → is_error I64 (Holds (IntVal n)) ≡ true → int_eq n (negsuc 112) ≡ true
native_error (pos n) e = absurd (cc)
native_error (negsuc n) e = let same : n ≡ 112 = eqb-true n 112 e in ap (λ x. int_eq (negsuc x) (negsuc 112)) same

-- the error value is written by its literal alone
pub literal_error : (t : RType) (l : Literal) (h : Held) → literal_of t l ≡ Some h → is_error t h ≡ true → is_error_literal t l ≡ true
literal_error Int (Number n) h e f = halved_error n h e f
literal_error Int Null h e f = absurd (cc)
literal_error Int PyNone h e f = absurd (cc)
literal_error Int PyTrue h e f = absurd (cc)
literal_error Int PyFalse h e f = absurd (cc)
literal_error I64 (Number n) h e f = let is : Holds (IntVal n) ≡ h = cc in native_error n (ap (is_error I64) is ∙ f)
literal_error I64 Null h e f = absurd (cc)
literal_error I64 PyNone h e f = absurd (cc)
literal_error I64 PyTrue h e f = absurd (cc)
literal_error I64 PyFalse h e f = absurd (cc)
literal_error BoolType (Number n) h e f = truth_error n h e f
literal_error BoolType Null h e f = absurd (cc)
literal_error BoolType PyNone h e f = absurd (cc)
literal_error BoolType PyTrue h e f = absurd (cc)
literal_error BoolType PyFalse h e f = absurd (cc)
literal_error Ref (Number n) h e f = absurd (cc)
literal_error Ref Null h e f = refl
literal_error Ref PyNone h e f = let is : Holds NoneVal ≡ h = cc in let g : false ≡ true = ap (is_error Ref) is ∙ f in absurd (cc)
literal_error Ref PyTrue h e f = let is : Holds (BoolVal true) ≡ h = cc in let g : false ≡ true = ap (is_error Ref) is ∙ f in absurd (cc)
literal_error Ref PyFalse h e f = let is : Holds (BoolVal false) ≡ h = cc in let g : false ≡ true = ap (is_error Ref) is ∙ f in absurd (cc)

-- ---- small facts
pub among_first : (n : ℕ) (ns : List ℕ) → is_among (n ∷ ns) n ≡ true
among_first n ns = ap (λ b. b || is_among ns n) (eq-eqb n n refl)

pub among_second : (m n : ℕ) (ns : List ℕ) → is_among (m ∷ n ∷ ns) n ≡ true
among_second m n ns = by (nat_eq m n)
  where
    by : (b : Bool) → (b || is_among (n ∷ ns) n) ≡ true
    by true = refl
    by false = among_first n ns

pub call_passed : (ds : Declared) (r : Reg) (behind : Option Item) → is_passed (edge_of_call ds r) behind ≡ true
call_passed ds r behind = by (type_of_reg ds r)
  where
    by : (t : Option RType) → is_passed (edge_of_kind (kind_by_result t) (Some r)) behind ≡ true
    by None = refl
    by (Some Int) = refl
    by (Some I64) = refl
    by (Some BoolType) = refl
    by (Some Ref) = refl

-- ---- frames
-- a call whose result goes into a register
pub record IsCallInto (ds : Declared) (o : Op) (into : Reg) : Type 0 where
  pub writes : write_of o ≡ Some into.0
  pub unsure : sets ds o ≡ false
  pub edge : edge_of_op ds o ≡ edge_of_call ds into

module _ (p : Program) where
  -- what an operation leaves in registers: each error value is one that it may write, or was there before
  module _ (f : Frame) (o : Op) where
    abbrev pub Puts : Regs → Type 0
    Puts regs =
        (ds : Declared) → registers_of p f.fn ≡ ds → (r : ℕ) (t : RType) → type_of_reg ds (record { 0 = r }) ≡ Some t → is_error t (regs r) ≡ true → ((is_target (write_of o) r ≡ true) × (sets ds o ≡ false)) ⊎ ((is_target (write_of o) r ≡ false) × (is_error t (f.regs r) ≡ true))

    pub leaves_all : write_of o ≡ None → Puts f.regs
    leaves_all none ds is r t type error = inr (ap (λ z. is_target z r) none, error)

    pub leaves_put : (s : Reg) (h : Held) → write_of o ≡ Some s.0 → ((t : RType) → type_of_reg (registers_of p f.fn) s ≡ Some t → is_error t h ≡ true → sets (registers_of p f.fn) o ≡ false) → Puts (put f.regs s.0 h)
    leaves_put s h writes unsure ds is r t type error = by (nat_eq r s.0) refl error
      where
        by : (b : Bool) → nat_eq r s.0 ≡ b → is_error t (cond b h (f.regs r)) ≡ true → ((is_target (write_of o) r ≡ true) × (sets ds o ≡ false)) ⊎ ((is_target (write_of o) r ≡ false) × (is_error t (f.regs r) ≡ true))
        by true e k =
            let same : r ≡ s.0 = eqb-true r s.0 e in
            let type_is : type_of_reg (registers_of p f.fn) s ≡ Some t = ap (λ z. type_of_reg z s) is ∙ (ap (λ n. type_of_reg ds (record { 0 = n })) (sym same) ∙ type) in
            inl (ap (λ z. is_target z r) writes ∙ eq-eqb s.0 r (sym same), ap (λ z. sets z o) (sym is) ∙ unsure t type_is k)
        by false e k = inr (ap (λ z. is_target z r) writes ∙ other (nat_eq s.0 r) refl, k)
          where
            other : (b : Bool) → nat_eq s.0 r ≡ b → nat_eq s.0 r ≡ false
            other false x = x
            other true x =
                let same : s.0 ≡ r = eqb-true s.0 r x in
                let g : true ≡ false = sym (eq-eqb r s.0 (sym same)) ∙ e in
                absurd (cc)

  -- where an end goes from a frame: a test of a register on to its second block only where the register is set
  pub data Takes (f : Frame) : Last → ℕ → Type 0 where
    jumps_to : (t : ℕ) → Takes f (Goto t) t
    holds_to : (r : Reg) (a b : ℕ) → Takes f (If r a b) a
    fails_to : (r : Reg) (a b : ℕ) → Takes f (If r a b) b
    unset_to : (r : Reg) (e n line : ℕ) → Takes f (IfError r e n line) e
    set_to : (r : Reg) (e n line : ℕ) (t : RType) → type_of_reg (registers_of p f.fn) r ≡ Some t → is_error t (f.regs r.0) ≡ false → Takes f (IfError r e n line) n

  -- it holds where a function begins; from an operation it goes on to the next place, and where one fails to the handler; and from an
  -- end to where that goes
  pub record GoesOn (Stands : Frame → Type 0) : Type 0 where
    pub begins : (fn : ℕ) (regs : Regs) → Stands (record { fn = fn; block = 0; place = 0; regs = regs })
    pub passed : (f : Frame) (o : Op) (line : ℕ) → item_at p f.fn f.block f.place ≡ Some (Do o line) → Stands f → (regs : Regs) → Puts f o regs → is_passed (edge_of_op (registers_of p f.fn) o) (item_at p f.fn f.block (suc f.place)) ≡ true → Stands (record { fn = f.fn; block = f.block; place = suc f.place; regs = regs })
    pub caught : (f : Frame) (o : Op) (line : ℕ) → item_at p f.fn f.block f.place ≡ Some (Do o line) → Stands f → (regs : Regs) → Puts f o regs → is_caught (item_at p f.fn) (edge_of_op (registers_of p f.fn) o) (item_at p f.fn f.block (suc f.place)) ≡ true → (h : ℕ) → handler_at p f.fn f.block ≡ Some h → Stands (record { fn = f.fn; block = h; place = 0; regs = regs })
    pub taken : (f : Frame) (l : Last) → item_at p f.fn f.block f.place ≡ Some (End l) → Stands f → (t : ℕ) → Takes f l t → Stands (record { fn = f.fn; block = t; place = 0; regs = f.regs })

  module _ (Stands : Frame → Type 0) where
    pub record GoodWaiting (c : Waiting) : Type 0 where
      pub frame : Stands c.frame
      pub o : Op
      pub line : ℕ
      pub here : item_at p c.frame.fn c.frame.block c.frame.place ≡ Some (Do o line)
      pub into : IsCallInto (registers_of p c.frame.fn) o c.into

    abbrev pub AllGood : List Waiting → Type 0
    AllGood [] = Unit {0}
    AllGood (c ∷ cs) = GoodWaiting c × AllGood cs

    abbrev pub Good : Config → Type 0
    Good (Runs f below w) = Stands f × AllGood below
    Good (Leaves fn below w) = AllGood below
    Good (Ended e w) = Unit {0}
    Good Stuck = Unit {0}

    pub good_some : {A : Type 0} (o : Option A) (go : A → Config) → ((a : A) → o ≡ Some a → Good (go a)) → Good (if_some o go)
    good_some None go h = tt
    good_some (Some a) go h = h a refl

    pub good_cond : (b : Bool) (x y : Config) → (b ≡ true → Good x) → (b ≡ false → Good y) → Good (cond b x y)
    good_cond true x y h k = h refl
    good_cond false x y h k = k refl

    pub good_calm : (e : Option Thrown) (x : Config) → Good x → Good (if_calm e x)
    good_calm None x h = h
    good_calm (Some e) x h = tt

    -- ---- one operation
    module _ (on : GoesOn Stands) (f : Frame) (o : Op) {line : ℕ} (here : item_at p f.fn f.block f.place ≡ Some (Do o line)) (good : Stands f) where
      behind : item_at p f.fn f.block (suc f.place) ≡ item_at p f.fn f.block (f.place + 1)
      behind = let more : suc f.place ≡ f.place + 1 = omega arith in ap (item_at p f.fn f.block) more

      -- behind the operation
      pub next_good : (regs : Regs) → Puts f o regs → is_passed (edge_of_op (registers_of p f.fn) o) (item_at p f.fn f.block (suc f.place)) ≡ true → Stands (next f regs)
      next_good regs left passed =
          let more : suc f.place ≡ f.place + 1 = omega arith in
          subst (λ n. Stands (record { fn = f.fn; block = f.block; place = n; regs = regs })) more (on.passed f o line here good regs left passed)

      clear_passed : (e : Edge) (x : Option Thrown) (item : Option Item) → is_clear e x ≡ true → is_passed e item ≡ true
      clear_passed NoEdge x item h = refl
      clear_passed (Tests r) x item h = refl
      clear_passed (TestsTwice r) x item h = refl
      clear_passed Jumps x item h = absurd (cc)

      pub succeeds_good : (e : Edge) → e ≡ edge_of_op (registers_of p f.fn) o → (regs : Regs) → Puts f o regs → (below : List Waiting) (w : World) (m : Mode) → AllGood below → Good (succeeds m p e f below regs w)
      succeeds_good e is regs left below w m rest =
          good_cond (is_clear e w.pending) (goes f below regs w) Stuck
          (λ clear. (next_good regs left (subst (λ z. is_passed z (item_at p f.fn f.block (suc f.place)) ≡ true) is (clear_passed e w.pending (item_at p f.fn f.block (suc f.place)) clear)), rest))
          (λ n. tt)

      -- where it fails
      edge_passed : (e : Edge) → is_edge (item_at p f.fn) e (item_at p f.fn f.block (f.place + 1)) ≡ true → is_passed e (item_at p f.fn f.block (suc f.place)) ≡ true
      edge_passed NoEdge h = absurd (cc)
      edge_passed (Tests r) h = refl
      edge_passed (TestsTwice r) h = refl
      edge_passed Jumps h = ap is_jump behind ∙ h

      edge_caught : (e : Edge) → is_some_edge e ≡ true → is_edge (item_at p f.fn) e (item_at p f.fn f.block (f.place + 1)) ≡ false → is_caught (item_at p f.fn) e (item_at p f.fn f.block (suc f.place)) ≡ true
      edge_caught NoEdge some h = absurd (cc)
      edge_caught (Tests r) some h = ap (λ x. not (is_edge (item_at p f.fn) (Tests r) x)) behind ∙ ap not h
      edge_caught (TestsTwice r) some h = ap (λ x. not (is_edge (item_at p f.fn) (TestsTwice r) x)) behind ∙ ap not h
      edge_caught Jumps some h = ap (λ x. not (is_edge (item_at p f.fn) Jumps x)) behind ∙ ap not h

      away_good : (regs : Regs) → Puts f o regs → (below : List Waiting) (w : World) → AllGood below → is_caught (item_at p f.fn) (edge_of_op (registers_of p f.fn) o) (item_at p f.fn f.block (suc f.place)) ≡ true → (h : Option ℕ) → handler_at p f.fn f.block ≡ h → Good (away h (next f regs) below w)
      away_good regs left below w rest caught None is = rest
      away_good regs left below w rest caught (Some h) is = (on.caught f o line here good regs left caught h is, rest)

      unfit_good : (m : Mode) (x : Config) → Good x → Good (unfit m x)
      unfit_good Plain x h = h
      unfit_good Strict x h = h
      unfit_good Fitting x h = tt

      pub failed_good : (m : Mode) (e : Edge) → e ≡ edge_of_op (registers_of p f.fn) o → (regs : Regs) → Puts f o regs → (below : List Waiting) (w : World) → AllGood below → Good (failed m p e (next f regs) below w)
      failed_good m e is regs left below w rest = by e is
        where
          some_way : (e : Edge) → e ≡ edge_of_op (registers_of p f.fn) o → is_some_edge e ≡ true → Good (cond (is_edge (item_at p f.fn) e (item_at p f.fn f.block (f.place + 1))) (Runs (next f regs) below w) (unfit m (away (handler_at p f.fn f.block) (next f regs) below w)))
          some_way e is some =
              good_cond (is_edge (item_at p f.fn) e (item_at p f.fn f.block (f.place + 1))) (Runs (next f regs) below w) (unfit m (away (handler_at p f.fn f.block) (next f regs) below w))
              (λ h. (next_good regs left (subst (λ z. is_passed z (item_at p f.fn f.block (suc f.place)) ≡ true) is (edge_passed e h)), rest))
              (λ h. unfit_good m (away (handler_at p f.fn f.block) (next f regs) below w)
              (away_good regs left below w rest (subst (λ z. is_caught (item_at p f.fn) z (item_at p f.fn f.block (suc f.place)) ≡ true) is (edge_caught e some h)) (handler_at p f.fn f.block) refl))

          by : (e : Edge) → e ≡ edge_of_op (registers_of p f.fn) o → Good (failed m p e (next f regs) below w)
          by NoEdge is = tt
          by (Tests r) is = some_way (Tests r) is refl
          by (TestsTwice r) is = some_way (TestsTwice r) is refl
          by Jumps is = some_way Jumps is refl
