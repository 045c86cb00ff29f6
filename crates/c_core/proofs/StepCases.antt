-- What holds of each end of the tests of a step, and of each fault, holds of the whole, with tests of ownership and without.
use Rattle.std.proofs.Common.{◌≡◌, refl, ap, ℕ, zero, suc, ◌+◌, ◌≤◌, arith, Bool, true, false, cond, List, [], ◌∷◌, ◌++◌, Option, Some, None}
use Rattle.std.specs.Prelude.{map, slice_get}
use Rattle.c_core.specs.declared.code.Kind.{Kind}
use Rattle.c_core.specs.declared.code.Kind.TheVariants.{Object}
use Rattle.c_core.specs.declared.code.CArg.{CArg}
use Rattle.c_core.specs.declared.code.CArg.TheVariants as arg
use Rattle.c_core.specs.declared.code.CClass.{CClass}
use Rattle.c_core.specs.declared.code.CFunc.{CFunc}
use Rattle.c_core.specs.declared.code.Code.{Code}
use Rattle.c_core.specs.declared.fault.Fault.{Fault}
use Rattle.c_core.specs.declared.fault.Fault.TheVariants as fault
use Rattle.c_core.specs.declared.primitive.Primitive.{Primitive}
use Rattle.value_core.specs.Ending.{Ending, Done, Raised}
use Rattle.c_core.specs.Cells.{times, content_at, take_one}
use Rattle.c_core.specs.Ledgers.{Ledger, without}
use Rattle.c_core.specs.Machine.{Word, ShortInt, BigInt, TaggedError, CharWord, ObjectCell, NoneObject, TrueObject, FalseObject, NoObject, Content, ExcCell, refs_of, MachineState}
use Rattle.c_core.specs.Functions.{parameter_kinds, entry_words}
use Rattle.c_core.specs.Primitives.{KindAt, Holding, AnInstance, Parameter, Borrows, Steals, MaySteal, TakesNumber, TakesPlace, TakesText, TakesDecimal, TakesException, TakesGlobal, TakesClass, may_end, row_of}
use Rattle.c_core.specs.Arguments.{Argument, Cell, Plain, Written, is_value_of, is_holding, kind_found, stolen_from, stolen}
use Rattle.c_core.specs.Step.{Next, Goes, Ends, Faulted, effect, if_some, if_calm, if_content, if_any, if_taken, if_true, if_there, if_variable, if_stolen, if_argument, if_arguments, if_may_stand, applied, called, if_thrown, if_ended, word_of, if_in_order, if_result, if_none_left, with_ledger, next_line, at_place, own, with_cells, given, given_up, is_error, is_both, if_passed, entered, function_step, function_called, answer_fits, method_of, takes_and_gives, method_step, method_called, jumped, chosen, taken, incremented, decremented, decremented_if_set}
use Rattle.c_core.proofs.ReleaseLemmas.{times-append}
use Rattle.c_core.proofs.LedgerLemmas.{without-times}

-- what was stolen and the ledger that is left are the ledger from before
abbrev pub Leaves : Ledger → List ℕ → Ledger → Type 0
Leaves l gone r = (d : ℕ) → times l d ≡ times gone d + times r d

-- the cell of an argument is there, with its content
abbrev pub IsThere : MachineState → Argument → Type 0
IsThere s (Cell c x) = content_at s.cells c ≡ Some x
IsThere s (Plain w) = Unit {0}
IsThere s (Written a) = Unit {0}

-- so it is of all arguments, of which there are no more than parameters
abbrev pub AreThere : MachineState → List Parameter → List Argument → Type 0
AreThere s ps [] = Unit {0}
AreThere s [] (a ∷ rest) = ⊥
AreThere s (p ∷ ps) (a ∷ rest) = IsThere s a × AreThere s ps rest

-- no exception is pending, unless a row may stand while one is
abbrev pub IsCalm : MachineState → Bool → Type 0
IsCalm s b = b ≡ false → s.pending ≡ None

module _ (is_checked : Bool) (s : MachineState) (P : Next → Type 0) (bad : (f : Fault) → P (Ends (Faulted f) s)) where
  pub at_some : {A : Type 0} (f : Fault) (o : Option A) (go : A → Next) → ((a : A) → o ≡ Some a → P (go a)) → P (if_some is_checked s f o go)
  at_some f None go h = bad f
  at_some f (Some a) go h = h a refl

  pub at_calm : (o : Option ℕ) (go : Next) → (o ≡ None → P go) → P (if_calm is_checked s o go)
  at_calm None go h = h refl
  at_calm (Some c) go h = bad fault.Kind

  pub at_content : (c : ℕ) (go : Content → Next) → ((x : Content) → content_at s.cells c ≡ Some x → P (go x)) → P (if_content is_checked s c go)
  at_content c go h = at_some fault.Dead (content_at s.cells c) go h

  at_any : (n : ℕ) (go : Next) → (1 ≤ n → P go) → P (if_any is_checked s n go)
  at_any zero go h = bad fault.NotOwned
  at_any (suc n) go h = h (omega arith)

  -- without tests nothing is known of what leaves the ledger
  taken_by : (b : Bool) (c : ℕ) (l : Ledger) (go : Ledger → Next) → ((r : Ledger) → (b ≡ true → Leaves l (c ∷ []) r) → P (go r)) → P (if_taken b s c l go)
  taken_by true c l go h =
      at_any (times l c) _ (λ stands. h (without c l) (λ t d. omega (arith, without-times c l stands d)))
  taken_by false c l go h = h (without c l) (λ t. absurd (cc))

  at_taken : (c : ℕ) (l : Ledger) (go : Ledger → Next) → ((r : Ledger) → (is_checked ≡ true → Leaves l (c ∷ []) r) → P (go r)) → P (if_taken is_checked s c l go)
  at_taken = taken_by is_checked

  pub at_word : (x : ℕ) (go : Word → Next) → ((w : Word) → slice_get s.top.vars x ≡ Some w → P (go w)) → P (word_of is_checked s x go)
  at_word x go h = at_some fault.Kind (slice_get s.top.vars x) go h

  at_true : (b : Bool) (go : Next) → P go → P (if_true is_checked s b go)
  at_true true go h = h
  at_true false go h = bad fault.Kind

  at_found : (w : Word) (go : Argument → Next) → ((a : Argument) → IsThere s a → P (go a)) → P (if_there is_checked s w go)
  at_found (BigInt c) go h = at_content c _ (λ x e. h (Cell c x) e)
  at_found (ObjectCell c) go h = at_content c _ (λ x e. h (Cell c x) e)
  at_found w go h = h (Plain w) tt

  pub at_there : (w : Word) (go : Argument → Next) → ((a : Argument) → P (go a)) → P (if_there is_checked s w go)
  at_there w go h = at_found w go (λ a there. h a)

  at_variable : (k : Kind) (h : Holding) (x : ℕ) (go : Argument → Next) → ((a : Argument) → IsThere s a → P (go a)) → P (if_variable is_checked s k h x go)
  at_variable k h x go is =
      at_word x _ (λ w e. at_true (is_value_of k w) _ (at_found w _ (λ a there. at_true (is_holding h a) (go a) (is a there))))

  at_stolen : (k : KindAt) (h : Holding) (a : Argument) (l : Ledger) (go : Ledger → Next) → ((r : Ledger) → (is_checked ≡ true → Leaves l (stolen_from (Steals k h) a) r) → P (go r)) → P (if_stolen is_checked s a l go)
  at_stolen k h (Cell c x) l go is = at_taken c l go (λ r took. is r took)
  at_stolen k h (Plain w) l go is = is l (λ t d. omega arith)
  at_stolen k h (Written a) l go is = is l (λ t d. omega arith)

  at_argument : (code : Code) (p : Parameter) (a : CArg) (earlier : List Argument) (l : Ledger) (go : Argument → Ledger → Next) → ((x : Argument) (r : Ledger) → IsThere s x → (is_checked ≡ true → Leaves l (stolen_from p x) r) → P (go x r)) → P (if_argument is_checked s code p a earlier l go)
  at_argument code (Borrows k h) (arg.Var x) earlier l go is =
      at_some fault.Kind (kind_found code k earlier) _ (λ kind e. at_variable kind h x _ (λ a there. is a l there (λ t d. omega arith)))
  at_argument code (Steals k h) (arg.Var x) earlier l go is =
      at_some fault.Kind (kind_found code k earlier) _ (λ kind e. at_variable kind h x _ (λ a there. at_stolen k h a l (go a) (λ r. is a r there)))
  at_argument code (MaySteal k h) (arg.Var x) earlier l go is =
      at_some fault.Kind (kind_found code k earlier) _ (λ kind e. at_variable kind h x _ (λ a there. at_stolen k h a l (go a) (λ r. is a r there)))
  at_argument code TakesNumber (arg.Number n) earlier l go is = is (Written (arg.Number n)) l tt (λ t d. omega arith)
  at_argument code TakesPlace (arg.Number n) earlier l go is = is (Written (arg.Number n)) l tt (λ t d. omega arith)
  at_argument code TakesText (arg.Text text) earlier l go is = is (Written (arg.Text text)) l tt (λ t d. omega arith)
  at_argument code TakesDecimal (arg.Text text) earlier l go is = is (Written (arg.Text text)) l tt (λ t d. omega arith)
  at_argument code TakesException (arg.Text text) earlier l go is = is (Written (arg.Text text)) l tt (λ t d. omega arith)
  at_argument code TakesGlobal (arg.Global name) earlier l go is = is (Written (arg.Global name)) l tt (λ t d. omega arith)
  at_argument code TakesClass (arg.Class name) earlier l go is = is (Written (arg.Class name)) l tt (λ t d. omega arith)
  at_argument code _ _ earlier l go is = bad fault.Kind

  at_arguments : (code : Code) (ps : List Parameter) (args : List CArg) (earlier : List Argument) (l : Ledger) (go : List Argument → Ledger → Next) → ((xs : List Argument) (r : Ledger) → (is_checked ≡ true → Leaves l (stolen ps xs) r) → AreThere s ps xs → P (go xs r)) → P (if_arguments is_checked s code ps args earlier l go)
  at_arguments code [] [] earlier l go is = is [] l (λ t d. omega arith) tt
  at_arguments code (p ∷ ps) (a ∷ rest) earlier l go is =
      at_argument code p a earlier l _
      (λ x r there first. at_arguments code ps rest (earlier ++ x ∷ []) r (λ others. go (x ∷ others))
      (λ xs last others all. is (x ∷ xs) last (λ t d. omega (arith, first t d, others t d, times-append (stolen_from p x) (stolen ps xs) d)) (there, all)))
  at_arguments code (p ∷ ps) [] earlier l go is = at_true (may_end (p ∷ ps)) (go [] l) (is [] l (λ t d. omega arith) tt)
  at_arguments code [] (a ∷ rest) earlier l go is = bad fault.Kind

  at_may_stand : (b : Bool) (go : Next) → (IsCalm s b → P go) → P (if_may_stand is_checked s b go)
  at_may_stand true go h = h (λ e. cc)
  at_may_stand false go h = at_calm s.pending go (λ calm. h (λ e. calm))

  -- a call of a primitive
  pub at_called : (code : Code) (x : Option ℕ) (args : List CArg) (p : Primitive) → (IsCalm s (row_of p).while_pending → (all : List Argument) (l : Ledger) → (is_checked ≡ true → Leaves s.top.ledger (stolen (row_of p).parameters all) l) → AreThere s (row_of p).parameters all → P (applied is_checked s x l (stolen (row_of p).parameters all) (effect code s p all))) → P (called is_checked s code x args p)
  at_called code x args p is =
      at_may_stand (row_of p).while_pending _
      (λ calm. at_arguments code (row_of p).parameters args [] s.top.ledger _
      (λ all l left there. at_true (answer_fits code s.top (row_of p).outcome x all) _ (is calm all l left there)))

  at_passed : (ks : List Kind) (args : List CArg) (go : List Word → Next) → ((ws : List Word) → P (go ws)) → P (if_passed is_checked s ks args go)
  at_passed [] [] go h = h []
  at_passed (k ∷ ks) (arg.Var x ∷ rest) go h =
      at_word x _ (λ w e. at_true (is_value_of k w) _ (at_there w _ (λ a. at_passed ks rest (λ ws. go (w ∷ ws)) (λ ws. h (w ∷ ws)))))
  at_passed _ _ go h = bad fault.Kind

  -- a call of a function
  pub at_function : (code : Code) (x : Option ℕ) (args : List CArg) (n : Option ℕ) → ((f : ℕ) (g : CFunc) → n ≡ Some f → slice_get code.funcs f ≡ Some g → (ws : List Word) → P (Goes (entered is_checked s x f (entry_words ws g)))) → P (function_called is_checked s code x args n)
  at_function code x args n h =
      at_calm s.pending _
      (λ calm. at_some fault.Kind n _
      (λ f e. at_some fault.Kind (slice_get code.funcs f) (function_step is_checked s x args f)
      (λ g is. at_passed (parameter_kinds g) args _ (h f g e is))))

  -- a call of a method
  pub at_method : (code : Code) (x o : ℕ) (args : List ℕ) (entry : CClass → Option (List ℕ)) → ((a : Argument) (f : ℕ) (g : CFunc) → method_of code entry a ≡ Some f → slice_get code.funcs f ≡ Some g → (ws : List Word) → P (Goes (entered is_checked s (Some x) f (entry_words ws g)))) → P (method_called is_checked s code x o args entry)
  at_method code x o args entry h =
      at_calm s.pending _
      (λ calm. at_variable Object AnInstance o _
      (λ a there. at_some fault.Kind (method_of code entry a) _
      (λ f e. at_some fault.Kind (slice_get code.funcs f) (method_step is_checked s code x (o ∷ args) f)
      (λ g is. at_true (takes_and_gives is_checked s code x (o ∷ args) g) _
      (at_passed (parameter_kinds g) (map arg.Var (o ∷ args)) _ (h a f g e is))))))

  pub at_jumped : (o : Option ℕ) → ((q : ℕ) → o ≡ Some q → P (Goes (at_place q s))) → P (jumped is_checked s o)
  at_jumped o h = at_some fault.Kind o _ h

  pub at_chosen : (a b : Option ℕ) (w : Word) → P (jumped is_checked s a) → P (jumped is_checked s b) → P (chosen is_checked s a b w)
  at_chosen a b (CharWord zero) first second = second
  at_chosen a b (CharWord (suc zero)) first second = first
  at_chosen a b _ first second = bad fault.Kind

  at_choice : (b : Bool) (x y : Next) → P x → P y → P (cond b x y)
  at_choice true x y p q = p
  at_choice false x y p q = q

  pub at_order : (w : Word) (o : Option ℕ) (go : Next) → P go → P (if_in_order is_checked s w o go)
  at_order w None go h = at_choice (is_error w) _ _ (bad fault.Kind) h
  at_order w (Some c) go h = at_choice (is_error w) _ _ h (at_choice (is_both w) _ _ h (bad fault.Kind))

  none_left_by : (b : Bool) (l : Ledger) (go : Next) → ((b ≡ true → l ≡ []) → P go) → P (if_none_left b s l go)
  none_left_by b [] go h = h (λ t. refl)
  none_left_by true (c ∷ l) go h = bad fault.Leak
  none_left_by false (c ∷ l) go h = h (λ t. absurd (cc))

  -- where a word leaves, the ledger is what it refers to
  abbrev pub IsLeft : Word → Type 0
  IsLeft w = is_checked ≡ true → (c : ℕ) → times s.top.ledger c ≡ times (refs_of w) c

  at_left : (w : Word) (l : Ledger) (next : Next) → (is_checked ≡ true → Leaves s.top.ledger (refs_of w) l) → (IsLeft w → P next) → P (if_none_left is_checked s l next)
  at_left w l next all h =
      none_left_by is_checked l next (λ nil. h (λ t c. omega (arith, all t c, ap (λ r. times r c) (nil t))))

  pub at_result : (w : Word) (next : Next) → (IsLeft w → P next) → P (if_result is_checked s w (λ l. if_none_left is_checked s l next))
  at_result (BigInt c) next h =
      at_content c _ (λ x e. at_taken c s.top.ledger _ (λ l took. at_left (BigInt c) l next took h))
  at_result (ObjectCell c) next h =
      at_content c _ (λ x e. at_taken c s.top.ledger _ (λ l took. at_left (ObjectCell c) l next took h))
  at_result w next h = at_left w s.top.ledger next (λ t c. omega arith) h

  at_given_up : (c : ℕ) → ((l : Ledger) → (is_checked ≡ true → Leaves s.top.ledger (c ∷ []) l) → P (Goes (next_line (given is_checked s (c ∷ []) (with_ledger l s))))) → P (given_up is_checked s c)
  at_given_up c h = at_content c _ (λ x e. at_taken c s.top.ledger (λ l. Goes (next_line (given is_checked s (c ∷ []) (with_ledger l s)))) h)

  -- counts
  at_taken_more : (c : ℕ) → ((x : Content) → content_at s.cells c ≡ Some x → P (Goes (next_line (own c (with_cells (take_one c s.cells) s))))) → P (taken is_checked s c)
  at_taken_more c h = at_content c _ h

  pub at_incremented : (w : Word) → P (Goes (next_line s)) → ((c : ℕ) (x : Content) → content_at s.cells c ≡ Some x → P (Goes (next_line (own c (with_cells (take_one c s.cells) s))))) → P (incremented is_checked s w)
  at_incremented (ShortInt n) on h = on
  at_incremented (BigInt c) on h = at_taken_more c (h c)
  at_incremented (ObjectCell c) on h = at_taken_more c (h c)
  at_incremented NoneObject on h = on
  at_incremented TrueObject on h = on
  at_incremented FalseObject on h = on
  at_incremented _ on h = bad fault.Kind

  pub at_decremented : (w : Word) → P (Goes (next_line s)) → ((c : ℕ) (l : Ledger) → (is_checked ≡ true → Leaves s.top.ledger (c ∷ []) l) → P (Goes (next_line (given is_checked s (c ∷ []) (with_ledger l s))))) → P (decremented is_checked s w)
  at_decremented (ShortInt n) on h = on
  at_decremented (BigInt c) on h = at_given_up c (h c)
  at_decremented (ObjectCell c) on h = at_given_up c (h c)
  at_decremented NoneObject on h = on
  at_decremented TrueObject on h = on
  at_decremented FalseObject on h = on
  at_decremented _ on h = bad fault.Kind

  pub at_decremented_if_set : (w : Word) → P (Goes (next_line s)) → ((c : ℕ) (l : Ledger) → (is_checked ≡ true → Leaves s.top.ledger (c ∷ []) l) → P (Goes (next_line (given is_checked s (c ∷ []) (with_ledger l s))))) → P (decremented_if_set is_checked s w)
  at_decremented_if_set TaggedError on h = on
  at_decremented_if_set NoObject on h = on
  at_decremented_if_set w on h = at_decremented w on h

  at_thrown : (x : Content) (go : Ending → Next) → ((e : Ending) → P (go e)) → P (if_thrown is_checked s x go)
  at_thrown (ExcCell e) go h = h (Raised e)
  at_thrown _ go h = bad fault.Kind

  pub at_ended : (w : Word) (o : Option ℕ) (go : Ending → Next) → ((e : Ending) → P (go e)) → P (if_ended is_checked s w o go)
  at_ended (CharWord (suc zero)) None go h = h Done
  at_ended (CharWord (suc (suc zero))) (Some c) go h = at_content c _ (λ x e. at_thrown x go h)
  at_ended _ _ go h = bad fault.Kind
