-- Arguments that are stolen, and an `int` that becomes an object, at the runner's states.
use Rattle.std.proofs.Common.{◌≡◌, refl, sym, ap, ◌∙◌, ℕ, zero, suc, ◌+◌, ◌<◌, ◌≤◌, ◌^◌, ◌==◌, arith, Bool, true, false, cond, eqb, List, [], ◌∷◌, ◌++◌, length, Option, Some, None}
use Rattle.std.specs.Prelude.{ℤ, slice_get, Result, Ok, Err}
use Rattle.std.proofs.lemmas.Bool.Decides.{nat_tests}
use Rattle.c_core.specs.declared.code.CArg.{CArg}
use Rattle.c_core.specs.declared.code.Code.{Code}
use Rattle.c_core.specs.declared.code.Kind.TheVariants.{Tagged, Object}
use Rattle.c_core.specs.declared.fault.Fault.{Fault}
use Rattle.c_core.specs.declared.fault.Fault.TheVariants as fault
use Rattle.c_core.specs.declared.primitive.Primitive.TheVariants as prim
use Rattle.c_core.specs.declared.primitive.TaggedPrim.TheVariants as tagged
use Rattle.c_core.specs.Arguments.{Argument, is_value_of, is_holding, word_in, stolen}
use Rattle.c_core.specs.Cells.{Cell, Cells, change, times, content_at, lowered, take_one}
use Rattle.c_core.specs.Ledgers.{Ledger, more, without}
use Rattle.c_core.specs.Machine as machine
use Rattle.c_core.specs.Machine.{ShortInt, BigInt, ObjectCell, Content, IntCell, MachineState, refs_of, refs_in, set_refs}
use Rattle.c_core.specs.Primitives.{Parameter, Is, Anything, ANumber, Steals}
use Rattle.c_core.specs.Release.{after, freed, weight, release, release_some}
use Rattle.c_core.specs.Step as step
use Rattle.c_core.specs.Step.{Next, Goes, Ends, Faulted, Makes, Shares, if_true, if_argument, if_arguments, faulted, applied, primitive_step, next_line}
use Rattle.c_runner_deeds.specs.declared.state.Frame.{Frame}
use Rattle.c_runner_deeds.specs.Parts as parts
use Rattle.c_runner_deeds.specs.Parts.{cell_argument, argument_of, left_by, stolen_or}
use Rattle.c_runner_deeds.specs.States.{Seen, Rest, IsSmall, state_of, with_target}
use Rattle.slot_arena.specs.declared.key.Key.{Key}
use Rattle.cell_heap.specs.declared.word.Word.{Word}
use Rattle.cell_heap.specs.declared.word.Word.TheVariants as heap
use Rattle.cell_heap.specs.Contents as contents
use Rattle.cell_heap.specs.Contents.{number_of}
use Rattle.c_runner_deeds.proofs.FrameLemmas.{target_set}
use Rattle.c_runner_deeds.proofs.GlobalLemmas.{if_lost, steals}

-- ---- ledgers, and cells where references are given up
less_either : (b : Bool) (c d e : ℕ) (l : Ledger) → times (without c l) e ≤ times l e → times (cond b l (d ∷ without c l)) e ≤ times (d ∷ l) e
less_either true c d e l le = omega arith
less_either false c d e l le = omega (arith, le)

less_times : (c : ℕ) (l : Ledger) (e : ℕ) → times (without c l) e ≤ times l e
less_times c [] e = omega arith
less_times c (d ∷ l) e = less_either (d == c) c d e l (less_times c l e)

left_times : (w : machine.Word) (l : Ledger) (e : ℕ) → times (left_by w l) e ≤ times l e
left_times (BigInt c) l e = less_times c l e
left_times (ObjectCell c) l e = less_times c l e
left_times _ l e = omega arith

pub left_small : (old : Seen) (w : machine.Word) → IsSmall old → (c : ℕ) → times (left_by w old.top.ledger) c < 2 ^ 128
left_small old w few c = omega (arith, few.ledgers c, left_times w old.top.ledger c)

length_changed : {X : Type 0} (by : Option (Cell X) → Option (Cell X)) (c : ℕ) (cells : Cells X) → length (change by c cells) ≡ length cells
length_changed by c [] = refl
length_changed by zero (o ∷ cells) = refl
length_changed by (suc c) (o ∷ cells) = omega (arith, length_changed by c cells)

length_some : (n : ℕ) (cells : Cells Content) (refs : List ℕ) → length (release_some refs_in n cells refs) ≡ length cells
length_some zero cells refs = refl
length_some (suc n) cells [] = refl
length_some (suc n) cells (c ∷ refs) = length_some n (after c cells) (freed refs_in c cells ++ refs) ∙ length_changed lowered c cells

pub length_released : (cells : Cells Content) (refs : List ℕ) → length (release refs_in cells refs) ≡ length cells
length_released cells refs = length_some (length refs + weight refs_in cells) cells refs

-- the references of one word
pub refs_alone : (w : machine.Word) → set_refs (Some w ∷ []) ≡ refs_of w
refs_alone (BigInt c) = refl
refs_alone (ObjectCell c) = refl
refs_alone _ = refl

-- ---- what is stolen
abbrev pub object : Parameter
object = Steals (Is Object) Anything

abbrev pub number : Parameter
number = Steals (Is Tagged) ANumber

-- the references of an object that was stolen
cell_gone : (o : Option Content) (c : ℕ) → word_in Object (cell_argument c o) ≡ Some (ObjectCell c) → stolen (object ∷ []) (cell_argument c o ∷ []) ≡ c ∷ []
cell_gone None c e = absurd (cc)
cell_gone (Some content) c e = refl

no_big : (o : Option Content) (c : ℕ) → word_in Object (cell_argument c o) ≡ Some (BigInt c) → ⊥
no_big None c e = cc
no_big (Some content) c e = cc

pub object_gone : (cells : Cells Content) (w : machine.Word) → word_in Object (argument_of cells w) ≡ Some w → stolen (object ∷ []) (argument_of cells w ∷ []) ≡ refs_of w
object_gone cells (ObjectCell c) e = cell_gone (content_at cells c) c e
object_gone cells (BigInt c) e = absurd (no_big (content_at cells c) c e)
object_gone cells _ e = refl

module _ (s : MachineState) (code : Code) where
  -- a last argument that is stolen, behind others: it is tested before the number of the arguments
  pub last_stolen : (p : Parameter) (args : List CArg) (a : CArg) (alone : Bool) (earlier : List Argument) (go : List Argument → Ledger → Next) (r : Result Word Fault) → slice_get args 0 ≡ Some a → alone ≡ eqb (length args) 1 → ((to : Argument → Ledger → Next) → if_argument true s code p a earlier s.top.ledger to ≡ stolen_or r s to) → if_arguments true s code (p ∷ []) args earlier s.top.ledger go ≡ stolen_or r s (λ x l. cond alone (go (x ∷ []) l) (faulted true s fault.Kind))
  last_stolen p [] a alone earlier go r e is passed = absurd (cc)
  last_stolen p (b ∷ []) a alone earlier go r e is passed =
      let same : b ≡ a = cc in
      let yes : alone ≡ true = is ∙ grind (arith, nat_tests) in
      ap (λ d. if_arguments true s code (p ∷ []) (d ∷ []) earlier s.top.ledger go) same
      ∙ passed (λ x l. go (x ∷ []) l)
      ∙ ap (λ t. stolen_or r s (λ x l. cond t (go (x ∷ []) l) (faulted true s fault.Kind))) (sym yes)
  last_stolen p (b ∷ c ∷ args) a alone earlier go r e is passed =
      let same : b ≡ a = cc in
      let other : alone ≡ false = is ∙ grind (arith, nat_tests) in
      ap (λ d. if_arguments true s code (p ∷ []) (d ∷ c ∷ args) earlier s.top.ledger go) same
      ∙ passed (λ x l. faulted true s fault.Kind)
      ∙ ap (λ t. stolen_or r s (λ x l. cond t (go (x ∷ []) l) (faulted true s fault.Kind))) (sym other)

  -- an `int` that is stolen, by its word
  abbrev pub int_goes : CArg → (Argument → Ledger → Next) → Next
  int_goes a go = parts.if_argument s Tagged a (λ w. if_true true s (is_holding ANumber (argument_of s.cells w)) (if_lost s w s.top.ledger (go (argument_of s.cells w))))

  pub int_stolen : (a : CArg) (earlier : List Argument) (go : Argument → Ledger → Next) → if_argument true s code number a earlier s.top.ledger go ≡ int_goes a go
  int_stolen a earlier go = steals s code Tagged (Is Tagged) ANumber a earlier s.top.ledger go refl

  -- ---- an `int` that becomes an object
  module _ (target : Option ℕ) where
    abbrev pub boxes : Bool → Argument → Ledger → Next
    boxes alone x l = cond alone (applied true s target l (stolen (number ∷ []) (x ∷ [])) (step.effect code s (prim.Tagged tagged.Box) (x ∷ []))) (faulted true s fault.Kind)

    pub box_called : (args : List CArg) (a : CArg) (alone : Bool) (r : Result Word Fault) → slice_get args 0 ≡ Some a → alone ≡ eqb (length args) 1 → ((earlier : List Argument) (to : Argument → Ledger → Next) → if_argument true s code number a earlier s.top.ledger to ≡ stolen_or r s to) → primitive_step true s code target args (prim.Tagged tagged.Box) ≡ stolen_or r s (boxes alone)
    box_called args a alone r e is passed =
        last_stolen number args a alone [] (λ all l. applied true s target l (stolen (number ∷ []) all) (step.effect code s (prim.Tagged tagged.Box) all)) r e is (passed [])

    big_boxed : (c : ℕ) (o : Option Content) → is_holding ANumber (cell_argument c o) ≡ true → boxes true (cell_argument c o) (without c s.top.ledger) ≡ applied true s target (without c s.top.ledger) (c ∷ []) (Shares (ObjectCell c))
    big_boxed c (Some (IntCell n)) e = refl
    big_boxed c _ e = absurd (cc)

    pub box_faults : (args : List CArg) (a : CArg) (alone : Bool) (r : Result Word Fault) (why : Fault) → slice_get args 0 ≡ Some a → alone ≡ eqb (length args) 1 → ((earlier : List Argument) (to : Argument → Ledger → Next) → if_argument true s code number a earlier s.top.ledger to ≡ stolen_or r s to) → r ≡ Err why → primitive_step true s code target args (prim.Tagged tagged.Box) ≡ Ends (Faulted why) s
    box_faults args a alone r why e is passed failed = box_called args a alone r e is passed ∙ ap (λ q. stolen_or q s (boxes alone)) failed

    pub box_crowded : (args : List CArg) (a : CArg) (r : Result Word Fault) (w : Word) → slice_get args 0 ≡ Some a → false ≡ eqb (length args) 1 → ((earlier : List Argument) (to : Argument → Ledger → Next) → if_argument true s code number a earlier s.top.ledger to ≡ stolen_or r s to) → r ≡ Ok w → primitive_step true s code target args (prim.Tagged tagged.Box) ≡ Ends (Faulted fault.Kind) s
    box_crowded args a r w e is passed found = box_called args a false r e is passed ∙ ap (λ q. stolen_or q s (boxes false)) found

    pub box_short : (args : List CArg) (a : CArg) (r : Result Word Fault) (w : Word) (n : ℤ) → slice_get args 0 ≡ Some a → true ≡ eqb (length args) 1 → ((earlier : List Argument) (to : Argument → Ledger → Next) → if_argument true s code number a earlier s.top.ledger to ≡ stolen_or r s to) → r ≡ Ok w → contents.word_of w ≡ ShortInt n → primitive_step true s code target args (prim.Tagged tagged.Box) ≡ applied true s target s.top.ledger [] (Makes (IntCell n))
    box_short args a r w n e is passed found short =
        box_called args a true r e is passed
        ∙ ap (λ q. stolen_or q s (boxes true)) found
        ∙ ap (λ v. boxes true (argument_of s.cells v) (left_by v s.top.ledger)) short

    pub box_big : (args : List CArg) (a : CArg) (r : Result Word Fault) (w : Word) (key : Key) → slice_get args 0 ≡ Some a → true ≡ eqb (length args) 1 → ((earlier : List Argument) (to : Argument → Ledger → Next) → if_argument true s code number a earlier s.top.ledger to ≡ stolen_or r s to) → r ≡ Ok w → w ≡ heap.Big key → is_holding ANumber (argument_of s.cells (contents.word_of w)) ≡ true → primitive_step true s code target args (prim.Tagged tagged.Box) ≡ applied true s target (without (number_of key) s.top.ledger) (number_of key ∷ []) (Shares (ObjectCell (number_of key)))
    box_big args a r w key e is passed found big holds =
        let there : is_holding ANumber (argument_of s.cells (BigInt (number_of key))) ≡ true = ap (λ v. is_holding ANumber (argument_of s.cells (contents.word_of v))) (sym big) ∙ holds in
        box_called args a true r e is passed
        ∙ ap (λ q. stolen_or q s (boxes true)) found
        ∙ ap (λ v. boxes true (argument_of s.cells (contents.word_of v)) (left_by (contents.word_of v) s.top.ledger)) big
        ∙ big_boxed (number_of key) (content_at s.cells (number_of key)) there

-- an `int` is short or has a cell
pub no_other_int : (w : Word) → ((n : ℤ) → w ≡ heap.Short n → ⊥) → ((key : Key) → w ≡ heap.Big key → ⊥) → is_value_of Tagged (contents.word_of w) ≡ true → ⊥
no_other_int (heap.Short n) short big value = short n refl
no_other_int (heap.Big key) short big value = big key refl
no_other_int _ short big value = cc

-- the cell of an `int` is the object: the frame gives its reference away, gets a new one, and the one that was given away is given up
pub cell_boxed : (rest : Rest) (old : Seen) (target : Option ℕ) (key : Key) (taken cells : Cells Content) (lost owner top : Frame) → lost ≡ record old.top { ledger = without (number_of key) old.top.ledger } → taken ≡ take_one (number_of key) old.cells → owner ≡ record lost { ledger = more (number_of key) lost.ledger } → cells ≡ release refs_in taken (number_of key ∷ []) → top ≡ with_target target (heap.Cell key) owner → applied true (state_of rest old) target (without (number_of key) old.top.ledger) (number_of key ∷ []) (Shares (ObjectCell (number_of key))) ≡ Goes (state_of rest (record old { cells = cells; top = record top { place = top.place + 1 } }))
cell_boxed rest old target key taken cells lost owner top lost_is taken_is owner_is cells_is top_is =
    let c = number_of key in
    let owned : Frame → Frame = λ f. record f { ledger = more c f.ledger } in
    let made : Seen = record old { cells = release refs_in (take_one c old.cells) (c ∷ []); top = record old.top { ledger = more c (without c old.top.ledger) } } in
    ap (λ t. Goes (next_line t)) (target_set rest made target (heap.Cell key))
    ∙ sym (ap (λ cs. Goes (state_of rest (record old { cells = cs; top = record top { place = top.place + 1 } }))) (cells_is ∙ ap (λ h. release refs_in h (c ∷ [])) taken_is)
    ∙ ap (λ f. Goes (state_of rest (record made { top = record f { place = f.place + 1 } }))) (top_is ∙ ap (with_target target (heap.Cell key)) (owner_is ∙ ap owned lost_is)))
