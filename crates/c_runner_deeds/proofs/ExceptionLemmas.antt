-- Exceptions: what makes one, lets one be pending, or catches one, at the runner's states.
use Rattle.std.proofs.Common.{◌≡◌, refl, sym, ap, ◌∙◌, ℕ, ◌+◌, Bool, true, false, cond, List, [], ◌∷◌, length, eqb, arith, Option, Some, None}
use Rattle.std.specs.Prelude.{is_some, slice_get, Result, Ok, Err, IfOk}
use Rattle.std.specs.Option.{option_map}
use Rattle.value_core.specs.declared.exception.ExcClass.{ExcClass}
use Rattle.value_core.specs.Exceptions.{Thrown, thrown, class_named, is_under}
use Rattle.c_core.specs.declared.code.CArg.{CArg}
use Rattle.c_core.specs.declared.code.CArg.TheVariants as arg
use Rattle.c_core.specs.declared.code.Code.{Code}
use Rattle.c_core.specs.declared.code.Kind.TheVariants.{Object}
use Rattle.c_core.specs.declared.fault.Fault.TheVariants as fault
use Rattle.std.proofs.lemmas.Bool.Decides.{nat_tests}
use Rattle.c_core.specs.declared.primitive.Primitive.TheVariants as prim
use Rattle.c_core.specs.declared.primitive.ExcPrim.TheVariants as exc
use Rattle.c_core.specs.declared.primitive.ErrPrim.TheVariants as err
use Rattle.c_core.specs.Arguments.{Argument, Cell}
use Rattle.c_core.specs.Cells.{Cells, make}
use Rattle.c_core.specs.Ledgers.{more}
use Rattle.c_core.specs.Machine as machine
use Rattle.c_core.specs.Machine.{Content, StrCell, ExcCell, MachineState, refs_in}
use Rattle.c_core.specs.Primitives.{AText, AnException}
use Rattle.c_core.specs.Step as step
use Rattle.c_core.specs.Step.{Next, Goes, Ends, Faulted, Makes, Says, Fails, if_variable, faulted, applied, raise, with_cells, truth_word, made_exception, matched, caught, pending_exception, primitive_step, next_line}
use Rattle.c_core.proofs.ReleaseLemmas.{release-nothing}
use Rattle.c_runner_deeds.specs.declared.ending.Ending.{Ending}
use Rattle.c_runner_deeds.specs.declared.state.Frame.{Frame}
use Rattle.c_runner_deeds.specs.Parts.{exception_made, exception_shown, object_set, only_text}
use Rattle.c_runner_deeds.specs.States.{Seen, Rest, Follows, state_of, with_target}
use Rattle.slot_arena.specs.declared.key.Key.{Key}
use Rattle.cell_heap.specs.declared.word.Word.{Word}
use Rattle.cell_heap.specs.declared.word.Word.TheVariants as heap
use Rattle.cell_heap.specs.Contents as contents
use Rattle.cell_heap.specs.Contents.{number_of}
use Rattle.c_runner_deeds.proofs.FrameLemmas.{target_set}

-- ---- the same step in other words
pub follows_all : {E : Type 0} (does other : Code → MachineState → Next) (old new : Seen) (r : Result (Option Ending) E) → ((code : Code) (rest : Rest) → other code (state_of rest old) ≡ does code (state_of rest old)) → IfOk r (λ ending. (code : Code) → Follows (does code) ending old new) → IfOk r (λ ending. (code : Code) → Follows (other code) ending old new)
follows_all does other old new (Ok ending) same h = λ code rest. same code rest ∙ h code rest
follows_all does other old new (Err e) same h = tt

-- the same where no code is asked for
pub follows_for : {E : Type 0} (does : MachineState → Next) (other : Code → MachineState → Next) (old new : Seen) (r : Result (Option Ending) E) → ((code : Code) (rest : Rest) → other code (state_of rest old) ≡ does (state_of rest old)) → IfOk r (λ ending. Follows does ending old new) → IfOk r (λ ending. (code : Code) → Follows (other code) ending old new)
follows_for does other old new (Ok ending) same h = λ code rest. same code rest ∙ h rest
follows_for does other old new (Err e) same h = tt

-- the same where the code is one
pub follows_on : {E : Type 0} (does other : MachineState → Next) (old new : Seen) (r : Result (Option Ending) E) → ((rest : Rest) → other (state_of rest old) ≡ does (state_of rest old)) → IfOk r (λ ending. Follows does ending old new) → IfOk r (λ ending. Follows other ending old new)
follows_on does other old new (Ok ending) same h = λ rest. same rest ∙ h rest
follows_on does other old new (Err e) same h = tt

-- ---- an exception that a failure makes
pub failed : (rest : Rest) (old : Seen) (target : Option ℕ) (w : Word) (e : Thrown) (key : Key) (cells : Cells Content) (top : Frame) → number_of key ≡ length old.cells → cells ≡ make (ExcCell e) old.cells → top ≡ with_target target w old.top → applied true (state_of rest old) target old.top.ledger [] (Fails (contents.word_of w) e) ≡ Goes (state_of rest (record old { cells = cells; pending = Some key; top = record top { place = top.place + 1 } }))
failed rest old target w e key cells top key_is cells_is top_is =
    let s = state_of rest old in
    let v = contents.word_of w in
    let made : Seen = record old { cells = make (ExcCell e) old.cells; pending = Some key } in
    ap (λ cs. Goes (next_line (step.with_target target v (raise e (with_cells cs s))))) (release-nothing refs_in s.cells)
    ∙ ap (λ n. Goes (next_line (step.with_target target v (record s { cells = make (ExcCell e) s.cells; pending = Some n })))) (sym key_is)
    ∙ ap (λ t. Goes (next_line t)) (target_set rest made target w)
    ∙ sym (ap (λ cs. Goes (state_of rest (record old { cells = cs; pending = Some key; top = record top { place = top.place + 1 } }))) cells_is
    ∙ ap (λ f. Goes (state_of rest (record made { top = record f { place = f.place + 1 } }))) top_is)

-- ---- an exception that is caught
pub caught_is : (rest : Rest) (old : Seen) (target : Option ℕ) (key : Key) (number : ℕ) (ledger : List ℕ) (top : Frame) → old.pending ≡ Some key → number ≡ number_of key → ledger ≡ more number old.top.ledger → top ≡ with_target target (heap.Cell key) (record old.top { ledger = ledger }) → applied true (state_of rest old) target old.top.ledger [] (caught (state_of rest old).pending) ≡ Goes (state_of rest (record old { pending = None; top = record top { place = top.place + 1 } }))
caught_is rest old target key number ledger top e n l t =
    let s = state_of rest old in
    let made : Seen = record old { pending = None; top = record old.top { ledger = more (number_of key) old.top.ledger } } in
    ap (λ p. applied true s target old.top.ledger [] (caught (option_map number_of p))) e
    ∙ ap (λ u. Goes (next_line u)) (target_set rest made target (heap.Cell key))
    ∙ sym (ap (λ f. Goes (state_of rest (record old { pending = None; top = record f { place = f.place + 1 } }))) (t ∙ ap (λ d. with_target target (heap.Cell key) (record old.top { ledger = d })) (l ∙ ap (λ m. more m old.top.ledger) n)))

-- ---- the class of the pending exception
pub none_matches : (s : MachineState) (target : Option ℕ) (o : Option ExcClass) (p : Option Thrown) → None ≡ option_map (λ e. e.class) p → applied true s target s.top.ledger [] (matched o p) ≡ Ends (Faulted fault.Kind) s
none_matches s target None p e = refl
none_matches s target (Some class) None e = refl
none_matches s target (Some class) (Some x) e = absurd (cc)

pub matches_is : (s : MachineState) (target : Option ℕ) (class raised : ExcClass) (o : Option ExcClass) (p : Option Thrown) (w : machine.Word) (next : Next) → Some class ≡ o → Some raised ≡ option_map (λ e. e.class) p → w ≡ truth_word (is_under raised class) → Goes (next_line (step.with_target target w s)) ≡ next → applied true s target s.top.ledger [] (matched o p) ≡ next
matches_is s target class raised None p w next e f g is = absurd (cc)
matches_is s target class raised (Some d) None w next e f g is = absurd (cc)
matches_is s target class raised (Some d) (Some x) w next e f g is =
    let same_class : d ≡ class = cc in
    let same_raised : x.class ≡ raised = cc in
    ap (λ c. applied true s target s.top.ledger [] (Says (truth_word (is_under x.class c)))) same_class
    ∙ ap (λ c. applied true s target s.top.ledger [] (Says (truth_word (is_under c class)))) same_raised
    ∙ ap (λ v. applied true s target s.top.ledger [] (Says v)) (sym g)
    ∙ ap (λ cells. Goes (next_line (step.with_target target w (with_cells cells s)))) (release-nothing refs_in s.cells)
    ∙ is

-- ---- an exception that is made or shown
pub made_is : (s : MachineState) (code : Code) (target : Option ℕ) (name : List ℕ) (x : ℕ) (is_alone : Bool) (c : ℕ) (text copy : List ℕ) (class : ExcClass) (next : Next) → ((go : Argument → Next) → if_variable true s Object AText x go ≡ go (Cell c (StrCell text))) → is_alone ≡ true → copy ≡ text → Some class ≡ class_named name → applied true s target s.top.ledger [] (Makes (ExcCell (thrown class copy))) ≡ next → exception_made code target name x is_alone s ≡ next
made_is s code target name x is_alone c text copy class next found alone same e is =
    found _
    ∙ ap (λ b. cond b (applied true s target s.top.ledger [] (made_exception (class_named name) text)) (faulted true s fault.Kind)) alone
    ∙ ap (λ o. applied true s target s.top.ledger [] (made_exception o text)) (sym e)
    ∙ ap (λ t. applied true s target s.top.ledger [] (Makes (ExcCell (thrown class t)))) (sym same)
    ∙ is

pub shown_is : (s : MachineState) (code : Code) (target : Option ℕ) (x : ℕ) (is_alone : Bool) (c : ℕ) (e : Thrown) (copy : List ℕ) (next : Next) → ((go : Argument → Next) → if_variable true s Object AnException x go ≡ go (Cell c (ExcCell e))) → is_alone ≡ true → copy ≡ e.text → applied true s target s.top.ledger [] (Makes (StrCell copy)) ≡ next → exception_shown code target x is_alone s ≡ next
shown_is s code target x is_alone c e copy next found alone same is =
    found _
    ∙ ap (λ b. cond b (applied true s target s.top.ledger [] (Makes (StrCell e.text))) (faulted true s fault.Kind)) alone
    ∙ ap (λ t. applied true s target s.top.ledger [] (Makes (StrCell t))) (sym same)
    ∙ is

-- ---- the same for what a call answers
pub makes_exception : {E : Type 0} (old new : Seen) (target : Option ℕ) (name : List ℕ) (x : ℕ) (is_alone : Bool) (c : ℕ) (text copy : List ℕ) (class : ExcClass) (r : Result (Option Ending) E) → ((rest : Rest) (go : Argument → Next) → if_variable true (state_of rest old) Object AText x go ≡ go (Cell c (StrCell text))) → is_alone ≡ true → copy ≡ text → Some class ≡ class_named name → IfOk r (λ ending. Follows (λ s. applied true s target s.top.ledger [] (Makes (ExcCell (thrown class copy)))) ending old new) → IfOk r (λ ending. (code : Code) → Follows (exception_made code target name x is_alone) ending old new)
makes_exception old new target name x is_alone c text copy class (Ok ending) found alone same e h =
    λ code rest. made_is (state_of rest old) code target name x is_alone c text copy class _ (found rest) alone same e (h rest)
makes_exception old new target name x is_alone c text copy class (Err failed) found alone same e h = tt

pub shows_exception : {E : Type 0} (old new : Seen) (target : Option ℕ) (x : ℕ) (is_alone : Bool) (c : ℕ) (e : Thrown) (copy : List ℕ) (r : Result (Option Ending) E) → ((rest : Rest) (go : Argument → Next) → if_variable true (state_of rest old) Object AnException x go ≡ go (Cell c (ExcCell e))) → is_alone ≡ true → copy ≡ e.text → IfOk r (λ ending. Follows (λ s. applied true s target s.top.ledger [] (Makes (StrCell copy))) ending old new) → IfOk r (λ ending. (code : Code) → Follows (exception_shown code target x is_alone) ending old new)
shows_exception old new target x is_alone c e copy (Ok ending) found alone same h =
    λ code rest. shown_is (state_of rest old) code target x is_alone c e copy _ (found rest) alone same (h rest)
shows_exception old new target x is_alone c e copy (Err failed) found alone same h = tt

pub some_map : {A B : Type 0} (f : A → B) (o : Option A) → is_some o ≡ is_some (option_map f o)
some_map f None = refl
some_map f (Some a) = refl

-- ---- steps
module _ (s : MachineState) (code : Code) (target : Option ℕ) where
  pub object_step : (args : List CArg) (x : ℕ) (alone : Bool) → slice_get args 0 ≡ Some (arg.Var x) → alone ≡ eqb (length args) 1 → primitive_step true s code target args (prim.Err err.SetObject) ≡ object_set code target x alone s
  object_step [] x alone e is = absurd (cc)
  object_step (a ∷ []) x alone e is =
      let first : a ≡ arg.Var x = cc in
      let yes : alone ≡ true = is ∙ grind (arith, nat_tests) in
      ap (λ b. primitive_step true s code target (b ∷ []) (prim.Err err.SetObject)) first ∙ ap (λ b. object_set code target x b s) (sym yes)
  object_step (a ∷ b ∷ more) x alone e is =
      let first : a ≡ arg.Var x = cc in
      let other : alone ≡ false = is ∙ grind (arith, nat_tests) in
      ap (λ d. primitive_step true s code target (d ∷ b ∷ more) (prim.Err err.SetObject)) first ∙ ap (λ d. object_set code target x d s) (sym other)

  pub shown_step : (args : List CArg) (x : ℕ) (alone : Bool) → slice_get args 0 ≡ Some (arg.Var x) → alone ≡ eqb (length args) 1 → primitive_step true s code target args (prim.Exc exc.Str) ≡ exception_shown code target x alone s
  shown_step [] x alone e is = absurd (cc)
  shown_step (a ∷ []) x alone e is =
      let first : a ≡ arg.Var x = cc in
      let yes : alone ≡ true = is ∙ grind (arith, nat_tests) in
      ap (λ b. primitive_step true s code target (b ∷ []) (prim.Exc exc.Str)) first ∙ ap (λ b. exception_shown code target x b s) (sym yes)
  shown_step (a ∷ b ∷ more) x alone e is =
      let first : a ≡ arg.Var x = cc in
      let other : alone ≡ false = is ∙ grind (arith, nat_tests) in
      ap (λ d. primitive_step true s code target (d ∷ b ∷ more) (prim.Exc exc.Str)) first ∙ ap (λ d. exception_shown code target x d s) (sym other)

  pub made_step : (args : List CArg) (class : List ℕ) (x : ℕ) (alone : Bool) → slice_get args 0 ≡ Some (arg.Text class) → slice_get args 1 ≡ Some (arg.Var x) → alone ≡ eqb (length args) 2 → primitive_step true s code target args (prim.Exc exc.New) ≡ exception_made code target class x alone s
  made_step [] class x alone e f is = absurd (cc)
  made_step (a ∷ []) class x alone e f is = absurd (cc)
  made_step (a ∷ b ∷ []) class x alone e f is =
      let first : a ≡ arg.Text class = cc in
      let second : b ≡ arg.Var x = cc in
      let yes : alone ≡ true = is ∙ grind (arith, nat_tests) in
      ap (λ d. primitive_step true s code target (d ∷ b ∷ []) (prim.Exc exc.New)) first
      ∙ ap (λ d. primitive_step true s code target (arg.Text class ∷ d ∷ []) (prim.Exc exc.New)) second
      ∙ ap (λ d. exception_made code target class x d s) (sym yes)
  made_step (a ∷ b ∷ c ∷ more) class x alone e f is =
      let first : a ≡ arg.Text class = cc in
      let second : b ≡ arg.Var x = cc in
      let other : alone ≡ false = is ∙ grind (arith, nat_tests) in
      ap (λ d. primitive_step true s code target (d ∷ b ∷ c ∷ more) (prim.Exc exc.New)) first
      ∙ ap (λ d. primitive_step true s code target (arg.Text class ∷ d ∷ c ∷ more) (prim.Exc exc.New)) second
      ∙ ap (λ d. exception_made code target class x d s) (sym other)

  -- one text, or none
  pub matches_step : (args : List CArg) (class : List ℕ) → Some class ≡ only_text args → primitive_step true s code target args (prim.Err err.Matches) ≡ applied true s target s.top.ledger [] (matched (class_named class) (pending_exception s))
  matches_step (arg.Text text ∷ []) class e =
      let same : text ≡ class = cc in
      ap (λ t. applied true s target s.top.ledger [] (matched (class_named t) (pending_exception s))) same
  matches_step _ class e = absurd (cc)

  -- no argument
  none_there : (args : List CArg) → eqb (length args) 0 ≡ true → args ≡ []
  none_there [] e = refl
  none_there (a ∷ args) e = absurd (grind (arith, nat_tests, e))

  pub occurred_step : (args : List CArg) (w : machine.Word) (next : Next) → eqb (length args) 0 ≡ true → w ≡ truth_word (is_some s.pending) → Goes (next_line (step.with_target target w s)) ≡ next → primitive_step true s code target args (prim.Err err.Occurred) ≡ next
  occurred_step args w next e same is =
      ap (λ a. primitive_step true s code target a (prim.Err err.Occurred)) (none_there args e)
      ∙ ap (λ v. applied true s target s.top.ledger [] (Says v)) (sym same)
      ∙ ap (λ cells. Goes (next_line (step.with_target target w (with_cells cells s)))) (release-nothing refs_in s.cells)
      ∙ is
