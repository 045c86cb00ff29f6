-- A call of a function: the C text enters the same function with the words of its arguments.
use Rattle.std.proofs.Common.{◌≡◌, refl, sym, ◌∙◌, ap, subst, ℕ, zero, suc, ◌<◌, arith, Bool, true, false, cond, ◌&&◌, List, [], ◌∷◌, ◌++◌, length, Option, Some, None, take, drop, eqb-true}
use Rattle.std.specs.Prelude.{slice_get, map, nat_eq, codes}
use Rattle.std.specs.List.{position}
use Rattle.std.specs.Str.{bytes_eq}
use Rattle.std.specs.Option.{option_map, option_and_then, option_map_or}
use Rattle.std.proofs.lemmas.Bool.{and_from}
use Rattle.value_core.specs.Value.{Value}
use Rattle.value_core.specs.Exceptions.{Thrown}
use Rattle.c_core.specs.declared.code.Kind.{Kind}
use Rattle.c_core.specs.declared.code.CArg.{CArg}
use Rattle.c_core.specs.declared.code.CFunc.{CFunc}
use Rattle.c_core.specs.declared.code.Code.{Code}
use Rattle.c_core.specs.declared.fault.Fault.TheVariants as fault
use Rattle.c_core.specs.Functions.{function_named, parameter_kinds, entry_words, error_word}
use Rattle.c_core.specs.Machine.{Word, MachineState}
use Rattle.c_core.specs.Primitives.{primitive_named}
use Rattle.c_core.specs.Arguments.{is_value_of}
use Rattle.c_core.specs.Step.{Next, Goes, kind_of, if_true, if_there, if_passed, if_calm, entered, function_step, function_called, call_step, line_at, step_at, unchecked_step}
use Rattle.c_core.specs.Step as steps
use Rattle.c_core.specs.WellFormed.{WellFormed, passes, kind_at, has_kind, call_fits}
use Rattle.c_core.proofs.Lines.{and_true}
use Rattle.ir_core.specs.declared.code.RType.{RType}
use Rattle.ir_core.specs.declared.code.RType.TheVariants.{Int, I64, Bool as BoolType, Ref}
use Rattle.ir_core.specs.declared.code.Reg.{Reg}
use Rattle.ir_core.specs.declared.code.Op.TheVariants.{Call}
use Rattle.ir_core.specs.declared.code.Func.{Func}
use Rattle.ir_core.specs.declared.code.Program.{Program}
use Rattle.ir_core.specs.Names.{function_id}
use Rattle.ir_core.specs.Registers.{Held, Unset, Holds, Regs, is_unset, first_regs}
use Rattle.ir_core.specs.Rows.{Declared, type_of_reg}
use Rattle.ir_core.specs.Effects.{World}
use Rattle.ir_core.specs.Meaning.{Frame, Waiting, Config, Runs, Stuck, Fitting, value_of, read, read_all, is_fit, are_types, is_type, registers_of, do_op}
use Rattle.ir_core.specs.Meaning as meaning
use Rattle.ir_core.specs.Lower.{kind_of_type, variable_of, register_in, call_name, called_as, line_of}
use Rattle.ir_core.proofs.TextLemmas.{same_self}
use Rattle.refcount_insert_lines_laws.specs.Matching.{Fits, RegsFit, PendingFits, HasHead, HasHeads, RunsIn}
use Rattle.refcount_insert_lines_laws.specs.Lines.{CallDoes, call_sticks, call_enters, CallsDo}
use Rattle.refcount_insert_lines_laws.proofs.Names.{number_is}
use Rattle.refcount_insert_lines_laws.proofs.Growing.{same_keeps, same_grows, fits_grow, world_keeps}
use Rattle.refcount_insert_lines_laws.proofs.Words.{AllFit, entry_fit, entry_size, there_is, value_word}
use Rattle.refcount_insert_lines_laws.proofs.Facts.{facts, fits_here, kind_here, registers_here, is_declared, has_type, kind_of_register, type_here}

-- ---- what the program reads
held_is : (h : Held) (v : Value) → value_of h ≡ Some v → h ≡ Holds v
held_is Unset v e = let f : None ≡ Some v = e in absurd (cc)
held_is (Holds u) v e = let f : Some u ≡ Some v = e in let same : u ≡ v = cc in ap Holds same

record Both (declared : Declared) (regs : Regs) (r : Reg) (rs : List Reg) (xs : List Held) : Type 0 where
  first : Value
  others : List Held
  is_first : read declared regs r ≡ Some first
  is_others : read_all declared regs rs ≡ Some others
  is : xs ≡ Holds first ∷ others

split_reads : (declared : Declared) (regs : Regs) (r : Reg) (rs : List Reg) (xs : List Held) (o : Option Value) (q : Option (List Held)) → read declared regs r ≡ o → read_all declared regs rs ≡ q → option_and_then (λ v. option_map (λ vs. Holds v ∷ vs) q) o ≡ Some xs → Both declared regs r rs xs
split_reads declared regs r rs xs None q a c e = let f : None ≡ Some xs = e in absurd (cc)
split_reads declared regs r rs xs (Some v) None a c e = let f : None ≡ Some xs = e in absurd (cc)
split_reads declared regs r rs xs (Some v) (Some vs) a c e =
    let f : Some (Holds v ∷ vs) ≡ Some xs = e in
    let same : xs ≡ Holds v ∷ vs = cc in
    record { first = v; others = vs; is_first = a; is_others = c; is = same }

-- each of the first registers holds the value of its argument
abbrev AllHold : List Held → Type 0
AllHold [] = Unit {0}
AllHold (h ∷ hs) = (is_unset h ≡ false) × AllHold hs

all_read : (declared : Declared) (regs : Regs) (rs : List Reg) (xs : List Held) → read_all declared regs rs ≡ Some xs → AllHold xs × (length xs ≡ length rs)
all_read declared regs [] [] e = (tt, refl)
all_read declared regs [] (x ∷ xs) e = absurd (cc)
all_read declared regs (r ∷ rs) xs e =
    let parts = split_reads declared regs r rs xs (read declared regs r) (read_all declared regs rs) refl refl e in
    let more = all_read declared regs rs parts.others parts.is_others in
    subst (λ z. AllHold z × (length z ≡ suc (length rs))) (sym parts.is) ((refl, more.0), ap suc more.1)

first_hold : (declared ds : Declared) (rs : List Reg) (xs : List Held) → are_types declared rs ds ≡ true → length xs ≡ length rs → AllHold xs → (k : ℕ) → k < length xs → is_unset (first_regs ds xs k) ≡ false
first_hold declared ds rs [] fit size all k lt = absurd (omega (arith, lt))
first_hold declared [] [] (x ∷ xs) fit size all k lt = absurd (omega (arith, size))
first_hold declared (d ∷ ds) [] (x ∷ xs) fit size all k lt = absurd (omega (arith, size))
first_hold declared [] (r ∷ rs) (x ∷ xs) fit size all k lt = absurd (cc)
first_hold declared (d ∷ ds) (r ∷ rs) (x ∷ xs) fit size all zero lt = all.0
first_hold declared (d ∷ ds) (r ∷ rs) (x ∷ xs) fit size all (suc k) lt =
    first_hold declared ds rs xs (and_true (is_type d.1 (type_of_reg declared r)) (are_types declared rs ds) fit).1 (omega (arith, size)) all.1 k (omega (arith, lt))

-- ---- what the C text passes
abbrev kinds_of : ℕ → Declared → List Kind
kinds_of n ds = map (λ v. v.1) (take n (map variable_of ds))

module _ (p : Program) (f : Frame) (w : World) (s : MachineState) (a : RunsIn p f w s) where
  abbrev D : Declared
  D = registers_of p f.fn

  record Passed (n : ℕ) (ds : Declared) (args : List Reg) (xs : List Held) : Type 0 where
    words : List Word
    fit : AllFit s ds xs words
    size : length words ≡ length args
    goes_on : (go : List Word → Next) → if_passed false s (kinds_of n ds) (map register_in args) go ≡ go words

  none_passed : (n : ℕ) (ds : Declared) (xs : List Held) → kinds_of n ds ≡ [] → read_all D f.regs [] ≡ Some xs → Passed n ds [] xs
  none_passed n ds xs none e =
      let g : Some [] ≡ Some xs = e in
      let same : [] ≡ xs = cc in
      record {
        words = [];
        fit = subst (λ z. AllFit s ds z []) same tt;
        size = refl;
        goes_on = λ go. ap (λ z. if_passed false s z [] go) none;
      }

  passed : (n : ℕ) (ds : Declared) (args : List Reg) (xs : List Held) → passes (map variable_of a.func.regs) (kinds_of n ds) (map register_in args) ≡ true → read_all D f.regs args ≡ Some xs → Passed n ds args xs
  passed zero ds [] xs fits e = none_passed zero ds xs refl e
  passed (suc n) [] [] xs fits e = none_passed (suc n) [] xs refl e
  passed (suc n) (d ∷ ds) [] xs fits e = absurd (cc)
  passed zero ds (r ∷ rs) xs fits e = absurd (cc)
  passed (suc n) [] (r ∷ rs) xs fits e = absurd (cc)
  passed (suc n) (d ∷ ds) (r ∷ rs) xs fits e =
      let vars : List (List ℕ × Kind) = map variable_of a.func.regs in
      let both = and_true (has_kind (kind_of_type d.1) (kind_at vars r.0)) (passes vars (kinds_of n ds) (map register_in rs)) fits in
      let c = has_type a.func.regs r.0 d.1 both.0 in
      let old = a.regs.fit r.0 c.0 c.1 in
      let parts : Both D f.regs r rs xs = split_reads D f.regs r rs xs (read D f.regs r) (read_all D f.regs rs) refl refl e in
      let more : Passed n ds rs parts.others = passed n ds rs parts.others both.1 parts.is_others in
      let is_read : read D f.regs r ≡ value_of (f.regs r.0) = ap (λ o. option_and_then value_of (option_map (λ t. f.regs r.0) o)) (type_here p f.fn a.func a.there r c.0 c.1) in
      let holds : f.regs r.0 ≡ Holds parts.first = held_is (f.regs r.0) parts.first (sym is_read ∙ parts.is_first) in
      let word : Fits s d.1 (Holds parts.first) old.0 = subst (λ h. Fits s d.1 h old.0) holds (subst (λ z. Fits s z (f.regs r.0) old.0) c.2 old.2) in
      record {
        words = old.0 ∷ more.words;
        fit = subst (λ z. AllFit s (d ∷ ds) z (old.0 ∷ more.words)) (sym parts.is) (word, more.fit);
        size = ap suc more.size;
        goes_on = λ go.
            let rest : Word → Next = λ y. if_passed false s (kinds_of n ds) (map register_in rs) (λ ws. go (y ∷ ws)) in
            ap (λ o. steps.if_some false s fault.Kind o (λ y. if_true false s (is_value_of (kind_of_type d.1) y) (if_there false s y (λ x. rest y)))) old.1
            ∙ (ap (λ c. if_true false s c (if_there false s old.0 (λ x. rest old.0))) (value_word s d.1 parts.first old.0 word)
            ∙ (there_is s d.1 (Holds parts.first) old.0 word (rest old.0)
            ∙ more.goes_on (λ ws. go (old.0 ∷ ws))));
      }

-- ---- the types of arguments
is_type_is : (t : RType) (o : Option RType) → is_type t o ≡ true → o ≡ Some t
is_type_is Int None e = absurd (cc)
is_type_is Int (Some Int) e = refl
is_type_is Int (Some I64) e = absurd (cc)
is_type_is Int (Some BoolType) e = absurd (cc)
is_type_is Int (Some Ref) e = absurd (cc)
is_type_is I64 None e = absurd (cc)
is_type_is I64 (Some Int) e = absurd (cc)
is_type_is I64 (Some I64) e = refl
is_type_is I64 (Some BoolType) e = absurd (cc)
is_type_is I64 (Some Ref) e = absurd (cc)
is_type_is BoolType None e = absurd (cc)
is_type_is BoolType (Some Int) e = absurd (cc)
is_type_is BoolType (Some I64) e = absurd (cc)
is_type_is BoolType (Some BoolType) e = refl
is_type_is BoolType (Some Ref) e = absurd (cc)
is_type_is Ref None e = absurd (cc)
is_type_is Ref (Some Int) e = absurd (cc)
is_type_is Ref (Some I64) e = absurd (cc)
is_type_is Ref (Some BoolType) e = absurd (cc)
is_type_is Ref (Some Ref) e = refl

-- a register of a type has a variable of its kind
kind_of_typed : (regs : Declared) (x : Reg) (t : RType) → is_type t (type_of_reg regs x) ≡ true → kind_at (map variable_of regs) x.0 ≡ Some (kind_of_type t)
kind_of_typed regs x t e =
    let d = is_declared (slice_get regs x.0) t (is_type_is t (type_of_reg regs x) e) in
    kind_of_register regs x.0 d.0 d.1 ∙ ap (λ z. Some (kind_of_type z)) d.2

-- registers of the types of a function's first registers may be passed to it
types_pass : (regs : Declared) (args : List Reg) (ds : Declared) → are_types regs args ds ≡ true → passes (map variable_of regs) (kinds_of (length args) ds) (map register_in args) ≡ true
types_pass regs [] ds e = refl
types_pass regs (x ∷ args) [] e = absurd (cc)
types_pass regs (x ∷ args) (d ∷ ds) e =
    let both = and_true (is_type d.1 (type_of_reg regs x)) (are_types regs args ds) e in
    let has : has_kind (kind_of_type d.1) (kind_at (map variable_of regs) x.0) ≡ true = ap (has_kind (kind_of_type d.1)) (kind_of_typed regs x d.1 both.0) ∙ same_self (kind_of_type d.1) in
    and_from (has_kind (kind_of_type d.1) (kind_at (map variable_of regs) x.0)) (passes (map variable_of regs) (kinds_of (length args) ds) (map register_in args)) has (types_pass regs args ds both.1)

passes_size : (vars : List (List ℕ × Kind)) (ks : List Kind) (args : List Reg) → passes vars ks (map register_in args) ≡ true → length ks ≡ length args
passes_size vars [] [] e = refl
passes_size vars [] (x ∷ args) e = absurd (cc)
passes_size vars (k ∷ ks) [] e = absurd (cc)
passes_size vars (k ∷ ks) (x ∷ args) e =
    ap suc (passes_size vars ks args (and_true (has_kind k (kind_at vars x.0)) (passes vars ks (map register_in args)) e).1)

-- ---- a function is entered
-- where its arguments have values and it takes them, its C text begins with their words
module _ (p : Program) (code : Code) (heads : HasHeads p code) (f : Frame) (below : List Waiting) (w : World) (s : MachineState) (a : RunsIn p f w s) (r : Reg) (n : ℕ) (args : List Reg) (h : Func) (there : slice_get p.funcs n ≡ Some h) where
  abbrev Ds : Declared
  Ds = registers_of p f.fn

  abbrev vars : List (List ℕ × Kind)
  vars = map variable_of a.func.regs

  abbrev cargs : List CArg
  cargs = map register_in args

  abbrev pub head_of : HasHead p code n h
  head_of = heads.funcs n h there

  abbrev waits : Waiting
  waits = record { frame = f; into = r }

  abbrev pub first_frame : List Held → Frame
  first_frame xs = record { fn = n; block = 0; place = 0; regs = first_regs h.regs xs }

  -- what the program does
  abbrev pub by_fit : List Held → Config
  by_fit xs = cond (is_fit Ds r args h) (Runs (first_frame xs) (waits ∷ below) w) Stuck

  abbrev pub entering : Option (List Held) → Config
  entering o = meaning.if_some o by_fit

  kinds_are : parameter_kinds head_of.g ≡ kinds_of h.params h.regs
  kinds_are =
      ap (λ i. map (λ (v : List ℕ × Kind). v.1) (take i head_of.g.vars)) head_of.params
      ∙ ap (λ vs. map (λ (v : List ℕ × Kind). v.1) (take h.params vs)) head_of.vars

  -- the text enters the function with the words of the arguments
  pub record Entering (xs : List Held) : Type 0 where
    pub state : MachineState
    pub text : function_step false s (Some r.0) cargs n head_of.g ≡ Goes state
    pub size : length (parameter_kinds head_of.g) ≡ length args
    pub gives : has_kind head_of.g.ret (kind_of code s.top r.0) ≡ true
    pub does : CallDoes p a.func.regs n r f below s (Runs (first_frame xs) (waits ∷ below) w) (Goes state)

  pub enter : (xs : List Held) → read_all Ds f.regs args ≡ Some xs → is_fit Ds r args h ≡ true → Entering xs
  enter xs are fit =
      let parts = and_true (nat_eq (length args) h.params) (are_types Ds args h.regs && is_type h.ret (type_of_reg Ds r)) fit in
      let count : length args ≡ h.params = eqb-true (length args) h.params parts.0 in
      let rest = and_true (are_types Ds args h.regs) (is_type h.ret (type_of_reg Ds r)) parts.1 in
      let regs_are : Ds ≡ a.func.regs = registers_here p f.fn a.func a.there in
      let types : are_types a.func.regs args h.regs ≡ true = ap (λ z. are_types z args h.regs) (sym regs_are) ∙ rest.0 in
      let answer : is_type h.ret (type_of_reg a.func.regs r) ≡ true = ap (λ z. is_type h.ret (type_of_reg z r)) (sym regs_are) ∙ rest.1 in
      let fit_passes : passes vars (kinds_of h.params h.regs) cargs ≡ true = subst (λ i. passes vars (kinds_of i h.regs) cargs ≡ true) count (types_pass a.func.regs args h.regs types) in
      let ps = passed p f w s a h.params h.regs args xs fit_passes are in
      let size : length ps.words ≡ h.params = ps.size ∙ count in
      let words : List Word = entry_words ps.words head_of.g in
      let same : ps.words ++ map (λ v. error_word v.1) (drop (length ps.words) (map variable_of h.regs)) ≡ words = ap (λ i. ps.words ++ map (λ (v : List ℕ × Kind). error_word v.1) (drop i (map variable_of h.regs))) (size ∙ sym head_of.params) ∙ ap (λ vs. ps.words ++ map (λ (v : List ℕ × Kind). error_word v.1) (drop head_of.g.params vs)) (sym head_of.vars) in
      let t : MachineState = entered false s (Some r.0) n words in
      let g = same_grows s t refl refl in
      let held = all_read Ds f.regs args xs are in
      let begins : RegsFit t h.regs (first_regs h.regs xs) words = record {
        size = ap length (sym same) ∙ entry_size s h.regs xs ps.words ps.fit;
        fit = λ k d e. let old = subst (λ z. (y : Word) × (slice_get z k ≡ Some y) × Fits s d.1 (first_regs h.regs xs k) y) same (entry_fit s h.regs xs ps.words ps.fit k d e) in (old.0, old.1, fits_grow s t g d.1 (first_regs h.regs xs k) old.0 old.2);
      } in
      let d = is_declared (slice_get a.func.regs r.0) h.ret (is_type_is h.ret (type_of_reg a.func.regs r) answer) in
      let kind : kind_of code s.top r.0 ≡ Some head_of.g.ret = kind_here p code heads f w s a r.0 d.0 d.1 ∙ (ap (λ z. Some (kind_of_type z)) d.2 ∙ ap Some (sym head_of.ret)) in
      record {
        state = t;
        text = ap (λ ks. if_passed false s ks cargs (λ ws. Goes (entered false s (Some r.0) n (entry_words ws head_of.g)))) kinds_are ∙ ps.goes_on (λ ws. Goes (entered false s (Some r.0) n (entry_words ws head_of.g)));
        size = ap length kinds_are ∙ passes_size vars (kinds_of h.params h.regs) args fit_passes;
        gives = ap (has_kind head_of.g.ret) kind ∙ same_self head_of.g.ret;
        does = call_enters h (first_regs h.regs xs) w t there (is_type_is h.ret (type_of_reg a.func.regs r) answer) (record {
          func = refl;
          place = refl;
          into_is = refl;
          below = refl;
          grows = g;
          registers = begins;
          given = λ k inside. first_hold Ds h.regs args xs rest.0 held.1 held.0 k (subst (λ z. k < z) (sym (held.1 ∙ count)) inside);
          world = world_keeps s t (same_keeps s t refl) p w refl refl refl refl refl refl a.world;
        });
      }

-- a function that is there is entered by its arguments
pub enters_is : (p : Program) (r : Reg) (args : List Reg) (f : Frame) (below : List Waiting) (w : World) (n : ℕ) (h : Func) → slice_get p.funcs n ≡ Some h → (o : Option (List Held)) → read_all (registers_of p f.fn) f.regs args ≡ o → meaning.enters p r args f below w n ≡ meaning.if_some o (λ xs. cond (is_fit (registers_of p f.fn) r args h) (Runs (record { fn = n; block = 0; place = 0; regs = first_regs h.regs xs }) (record { frame = f; into = r } ∷ below) w) Stuck)
enters_is p r args f below w n h there o are =
    ap (λ z. meaning.if_some z (λ k. meaning.if_some (read_all (registers_of p f.fn) f.regs args) (λ ys. cond (is_fit (registers_of p f.fn) r args k) (Runs (record { fn = n; block = 0; place = 0; regs = first_regs k.regs ys }) (record { frame = f; into = r } ∷ below) w) Stuck))) there
    ∙ ap (λ z. meaning.if_some z (λ ys. cond (is_fit (registers_of p f.fn) r args h) (Runs (record { fn = n; block = 0; place = 0; regs = first_regs h.regs ys }) (record { frame = f; into = r } ∷ below) w) Stuck)) are

-- ---- the function of a number
module _ (p : Program) (code : Code) (heads : HasHeads p code) (formed : WellFormed code) (r : Reg) (n : ℕ) (args : List Reg) (f : Frame) (below : List Waiting) (w : World) (s : MachineState) (a : RunsIn p f w s) (is : line_at code s.top ≡ Some (line_of p (Call r n args))) where
  abbrev C : Next → Config → Type 0
  C m c = CallDoes p a.func.regs n r f below s c m

  sticks : (m : Next) (c : Config) → c ≡ Stuck → C m c
  sticks m c e = subst (C m) (sym e) (call_sticks m)

  abbrev Goal : Type 0
  Goal = C (step_at false code s (Some (line_of p (Call r n args)))) (do_op Fitting p (Call r n args) f below w)

  abbrev here : List (List ℕ × Kind)
  here = map variable_of a.func.regs

  -- the module's own function has no name in a call, so that no line that fits calls it
  own_not_called : nat_eq (suc n) (length p.funcs) ≡ true → ⊥
  own_not_called own =
      let none : called_as p n ≡ [] = ap (λ c. cond c [] (option_map_or call_name (slice_get p.funcs n) [])) own in
      let fit : call_fits code here (Some r.0) (map register_in args) None None ≡ true = subst (λ z. call_fits code here (Some r.0) (map register_in args) (primitive_named z) (function_named code.funcs z) ≡ true) none (fits_here p code heads f w s a formed (line_of p (Call r n args)) is) in
      absurd (cc)

  -- another function, which is there
  module _ (other : nat_eq (suc n) (length p.funcs) ≡ false) (h : Func) (there : slice_get p.funcs n ≡ Some h) (calm : w.pending ≡ None) (quiet : s.pending ≡ None) where
    abbrev name : List ℕ
    name = function_id h.name

    abbrev hd : HasHead p code n h
    hd = heads.funcs n h there

    is_called : called_as p n ≡ codes "CPyDef_" ++ name
    is_called =
        ap (λ c. cond c [] (option_map_or call_name (slice_get p.funcs n) [])) other ∙ ap (λ z. option_map_or call_name z []) there

    fit_called : call_fits code here (Some r.0) (map register_in args) None (function_named code.funcs (codes "CPyDef_" ++ name)) ≡ true
    fit_called =
        subst (λ z. call_fits code here (Some r.0) (map register_in args) (primitive_named z) (function_named code.funcs z) ≡ true) is_called (fits_here p code heads f w s a formed (line_of p (Call r n args)) is)

    has_name : (c : Bool) → bytes_eq name [] ≡ c → bytes_eq name [] ≡ false
    has_name false e = e
    has_name true e =
        let none : function_named code.funcs (codes "CPyDef_" ++ name) ≡ None = ap (λ c. cond c None (position (λ (k : CFunc). bytes_eq name k.name) code.funcs)) e in
        let z : false ≡ true = sym (ap (call_fits code here (Some r.0) (map register_in args) None) none) ∙ fit_called in
        absurd (cc)

    -- the name of the call has its number
    number : function_named code.funcs (codes "CPyDef_" ++ name) ≡ Some n
    number =
        let same : hd.g.name ≡ name = hd.name ∙ ap (λ c. cond c [] name) other in
        ap (λ c. cond c None (position (λ (k : CFunc). bytes_eq name k.name) code.funcs)) (has_name (bytes_eq name []) refl)
        ∙ number_is code.funcs name n hd.g (facts code formed).names hd.there same

    abbrev entry : Option (List Held) → Config
    entry = entering p code heads f below w s a r n args h there

    -- what the program does, as far as its arguments
    does : (o : Option (List Held)) → read_all (registers_of p f.fn) f.regs args ≡ o → do_op Fitting p (Call r n args) f below w ≡ entry o
    does o are =
        ap (λ z. meaning.if_calm z (meaning.enters p r args f below w n)) calm ∙ enters_is p r args f below w n h there o are

    by_reads : (o : Option (List Held)) → read_all (registers_of p f.fn) f.regs args ≡ o → Goal
    by_reads None are = sticks _ _ (does None are)
    by_reads (Some xs) are = fits_by (is_fit (registers_of p f.fn) r args h) refl
      where
        fits_by : (c : Bool) → is_fit (registers_of p f.fn) r args h ≡ c → Goal
        fits_by false fit =
            sticks _ _ (does (Some xs) are ∙ ap (λ c. cond c (Runs (first_frame p code heads f below w s a r n args h there xs) (record { frame = f; into = r } ∷ below) w) Stuck) fit)
        fits_by true fit =
            let e = enter p code heads f below w s a r n args h there xs are fit in
            let text : step_at false code s (Some (line_of p (Call r n args))) ≡ Goes e.state =
            ap (λ z. call_step false s code (Some r.0) z (map register_in args) (primitive_named z)) is_called
            ∙ (ap (function_called false s code (Some r.0) (map register_in args)) number
            ∙ (ap (λ z. if_calm false s z (steps.if_some false s fault.Kind (slice_get code.funcs n) (function_step false s (Some r.0) (map register_in args) n))) quiet
            ∙ (ap (λ z. steps.if_some false s fault.Kind z (function_step false s (Some r.0) (map register_in args) n)) hd.there
            ∙ e.text))) in
            subst (λ z. C z (do_op Fitting p (Call r n args) f below w)) (sym text) (subst (C (Goes e.state)) (sym (does (Some xs) are ∙ ap (λ c. cond c (Runs (first_frame p code heads f below w s a r n args h there xs) (record { frame = f; into = r } ∷ below) w) Stuck) fit)) e.does)

  by_number : (c : Bool) → nat_eq (suc n) (length p.funcs) ≡ c → (h : Func) → slice_get p.funcs n ≡ Some h → w.pending ≡ None → s.pending ≡ None → Goal
  by_number true own h there calm quiet = absurd (own_not_called own)
  by_number false other h there calm quiet = by_reads other h there calm quiet (read_all (registers_of p f.fn) f.regs args) refl

  by_pending : (o : Option Thrown) → w.pending ≡ o → (q : Option ℕ) → s.pending ≡ q → PendingFits s o q → (g : Option Func) → slice_get p.funcs n ≡ g → Goal
  by_pending None calm None quiet at (Some h) there = by_number (nat_eq (suc n) (length p.funcs)) refl h there calm quiet
  by_pending None calm None quiet at None there =
      sticks _ _ (ap (λ z. meaning.if_calm z (meaning.enters p r args f below w n)) calm ∙ ap (λ z. meaning.if_some z (λ k. meaning.if_some (read_all (registers_of p f.fn) f.regs args) (λ ys. cond (is_fit (registers_of p f.fn) r args k) (Runs (record { fn = n; block = 0; place = 0; regs = first_regs k.regs ys }) (record { frame = f; into = r } ∷ below) w) Stuck))) there)
  by_pending None calm (Some c) quiet at g there = absurd at
  by_pending (Some e) thrown q quiet at g there = sticks _ _ (ap (λ z. meaning.if_calm z (meaning.enters p r args f below w n)) thrown)

  pub call_does : Goal
  call_does = by_pending w.pending refl s.pending refl a.world.pending (slice_get p.funcs n) refl

pub calls_do : CallsDo
calls_do p code heads formed r n args f below w s a is =
    subst (λ l. CallDoes p a.func.regs n r f below s (do_op Fitting p (Call r n args) f below w) (step_at false code s l)) (sym is) (call_does p code heads formed r n args f below w s a is)
