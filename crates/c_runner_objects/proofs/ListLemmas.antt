-- Calls of primitives on lists: what the machine finds in their arguments, and what it does then, at the runner's states.
use Rattle.std.proofs.Common.{◌≡◌, refl, sym, ap, subst, ◌∙◌, ℕ, zero, suc, ◌+◌, ◌-◌, ◌<◌, arith, Bool, true, false, cond, eqb, List, [], ◌∷◌, ◌++◌, length, take, get_or, Bor, Option, Some, None}
use Rattle.std.specs.Prelude.{ℤ, pos, negsuc, codes, nat_lt, is_ok, is_some, slice_get, slice_set, Result, Ok, Err, IfOk, IfSome}
use Rattle.std.specs.Option.{option_and_then, option_copied, option_map}
use Rattle.std.proofs.lemmas.Bool.Decides.{nat_tests}
use Rattle.std.proofs.lemmas.Option.{slice_get_past, slice_get_read}
use Rattle.value_core.specs.declared.exception.ExcClass.{ExcClass}
use Rattle.value_core.specs.declared.exception.ExcClass.TheVariants.{IndexError}
use Rattle.value_core.specs.Characters.{place_of}
use Rattle.value_core.specs.Exceptions.{thrown}
use Rattle.c_core.specs.declared.code.CArg.{CArg}
use Rattle.c_core.specs.declared.code.Code.{Code}
use Rattle.c_core.specs.declared.code.Kind.TheVariants.{Tagged, Object}
use Rattle.c_core.specs.declared.fault.Fault.{Fault}
use Rattle.c_core.specs.declared.fault.Fault.TheVariants as fault
use Rattle.c_core.specs.declared.primitive.Primitive.{Primitive}
use Rattle.c_core.specs.declared.primitive.Primitive.TheVariants as prim
use Rattle.c_core.specs.declared.primitive.ListPrim.{ListPrim}
use Rattle.c_core.specs.declared.primitive.ListPrim.TheVariants as list
use Rattle.c_core.specs.declared.code.CArg.TheVariants as arg
use Rattle.c_core.specs.Arguments.{Argument, Cell, is_value_of, is_holding, int_in, word_in, stolen}
use Rattle.c_core.specs.Cells.{Cells, content_at, refill}
use Rattle.c_core.specs.Ledgers.{Ledger, more_of}
use Rattle.c_core.specs.Machine as machine
use Rattle.c_core.specs.Machine.{ShortInt, BigInt, ObjectCell, NoneObject, CharWord, NoObject, Content, IntCell, ListCell, MachineState, noted, refs_of, refs_in, set_refs}
use Rattle.c_core.specs.Primitives.{Parameter, Borrows, Is, ANumber, AList, row_of}
use Rattle.c_core.specs.Release.{release}
use Rattle.c_core.specs.Step as step
use Rattle.c_core.specs.Step.{Next, Goes, Ends, Faulted, Effect, Makes, Changes, Fails, if_some, if_true, if_there, if_argument, if_arguments, faulted, applied, primitive_step, raise, with_cells, next_line, of_int, of_word, put_at, popped}
use Rattle.c_core.proofs.ReleaseLemmas.{release-nothing}
use Rattle.c_runner_deeds.specs.declared.ending.Ending.{Ending}
use Rattle.c_runner_deeds.specs.declared.state.Frame.{Frame}
use Rattle.c_runner_deeds.specs.Deeds.{Calls, MayMake, alone, int_held, int_of, int_at, one_list}
use Rattle.c_runner_objects.specs.Lists.{items_held, items_at, HoldsList, item_added, item_put, item_taken}
use Rattle.c_runner_deeds.specs.Objects.{items_in, held, beside, object_of, list_at}
use Rattle.c_runner_deeds.specs.Parts.{argument_of, left_by, stolen_or}
use Rattle.c_runner_deeds.specs.States.{Seen, Rest, Follows, Leads, held_of, state_of, next_of, with_target}
use Rattle.slot_arena.specs.declared.key.Key.{Key}
use Rattle.cell_heap.specs.declared.word.Word.{Word}
use Rattle.cell_heap.specs.declared.word.Word.TheVariants as heap
use Rattle.cell_heap.specs.Contents as contents
use Rattle.cell_heap.specs.Contents.{number_of}
use Rattle.cell_heap.specs.Words.{with_word, is_list, with_last, without_last, refill_by, word_at, last_at, last_in}
use Rattle.cell_heap.specs.Words as words
use Rattle.cell_heap.proofs.RefillLemmas.{refill-there}
use Rattle.c_runner_deeds.proofs.FindLemmas.{found, one_of, list_finds, number_finds}
use Rattle.c_runner_deeds.proofs.FrameLemmas.{target_set}
use Rattle.c_runner_deeds.proofs.StolenLemmas.{refs_alone, object, object_gone, last_stolen}

-- ---- places
-- what a slice has at a place
pub copied_at : {X : Type 0} (xs : List X) (i : ℕ) (o : Option (Bor X)) → is_some o ≡ nat_lt i (length xs) → IfSome o (λ x. x.now ≡ get_or xs i x.now) → option_copied o ≡ slice_get xs i
copied_at xs i None there value = sym (slice_get_past xs i (grind (arith, nat_tests, there)))
copied_at xs i (Some x) there value = sym (slice_get_read xs (length xs) i x.now refl (grind (arith, nat_tests, there)) value)

-- the place that an index means is one of the places
placed : (b : Bool) (n i k p : ℕ) → nat_lt i n ≡ b → (i < n → k < n) → Some p ≡ cond b (Some k) None → p < n
placed false n i k p is within e = absurd (cc)
placed true n i k p is within e =
    let lt : i < n = grind (arith, nat_tests, is) in
    let same : p ≡ k = cc in
    omega (arith, within lt, same)

place_within : (n : ℕ) (i : ℤ) (place : Option ℕ) → place ≡ place_of n i → IfSome place (λ p. p < n)
place_within n i None e = tt
place_within n (pos i) (Some p) e = placed (nat_lt i n) n i i p refl (λ lt. lt) e
place_within n (negsuc i) (Some p) e = placed (nat_lt i n) n i (n - suc i) p refl (λ lt. omega (arith, lt)) e

-- ---- a list that was found
-- nothing was found where a fault was
pub no_fault : {A : Type 0} (r : Result A Fault) (a : A) → is_ok r ≡ false → r ≡ Ok a → ⊥
no_fault r a wrong e = let both : false ≡ true = sym wrong ∙ ap is_ok e in cc

cell_holds : (d : ℕ) (o : Option Content) (q : ℕ × List machine.Word) → beside d (held items_in o) ≡ Ok q → (d ≡ q.0) × (o ≡ Some (ListCell q.1))
cell_holds d (Some (ListCell items)) q e =
    let same : (d, items) ≡ q = cc in (ap (λ p. p.0) same, ap (λ p. Some (ListCell p.1)) same)
cell_holds d _ q e = absurd (no_fault _ q refl e)

word_holds : (cells : Cells Content) (o : Option machine.Word) (q : ℕ × List machine.Word) → object_of items_in cells o ≡ Ok q → content_at cells q.0 ≡ Some (ListCell q.1)
word_holds cells (Some (ObjectCell d)) q e =
    let both = cell_holds d (content_at cells d) q e in ap (content_at cells) (sym both.0) ∙ both.1
word_holds cells _ q e = absurd (no_fault _ q refl e)

module _ (cells : Cells Content) (vars : List machine.Word) (a : Option CArg) (q : ℕ × List machine.Word) (e : list_at cells vars a ≡ Ok q) where
  content_is : content_at cells q.0 ≡ Some (ListCell q.1)
  content_is = word_holds cells _ q e

  pub items_are : items_at cells q.0 ≡ q.1
  items_are = ap items_held content_is

  pub holds_list : HoldsList cells q.0
  holds_list = content_is ∙ ap (λ o. Some (ListCell (items_held o))) (sym content_is)

  pub place_listed : (i : ℤ) (place : Option ℕ) → place ≡ place_of (length q.1) i → IfSome place (λ p. p < length (items_at cells q.0))
  place_listed i place is = subst (λ all. IfSome place (λ p. p < length all)) (sym items_are) (place_within (length q.1) i place is)

first_of : {A : Type 0} (r : Result A Fault) (n : ℕ) (b : Bool) (a : A) → nat_lt 1 n ≡ b → alone r n ≡ Ok a → r ≡ Ok a
first_of (Ok c) n false a is e = sym (ap (λ t. cond t (Err fault.Kind) (Ok c)) is) ∙ e
first_of (Ok c) n true a is e = absurd (no_fault _ a (ap (λ t. is_ok (cond t (Err fault.Kind) (Ok c))) is) e)
first_of (Err why) n b a is e = e

pub only_list : (cells : Cells Content) (vars : List machine.Word) (args : List CArg) (q : ℕ × List machine.Word) → one_list cells vars args ≡ Ok q → list_at cells vars (slice_get args 0) ≡ Ok q
only_list cells vars args q e = first_of (list_at cells vars (slice_get args 0)) (length args) (nat_lt 1 (length args)) q refl e

-- ---- arguments
module _ (s : MachineState) (code : Code) where
  abbrev list_parameter : Parameter
  list_parameter = Borrows (Is Object) AList

  abbrev number_parameter : Parameter
  number_parameter = Borrows (Is Tagged) ANumber

  abbrev kind_fault : Next
  kind_fault = faulted true s fault.Kind

  abbrev list_there : Option CArg → Result (ℕ × List machine.Word) Fault
  list_there a = list_at s.cells s.top.vars a

  abbrev int_there : Option CArg → Result ℤ Fault
  int_there a = int_at s.cells s.top.vars a

  abbrev cell : ℕ × List machine.Word → Argument
  cell q = Cell q.0 (ListCell q.1)

  -- a list comes first, and others behind it
  list_first : (ps : List Parameter) (a : CArg) (args : List CArg) (l : Ledger) (go : List Argument → Ledger → Next) → if_arguments true s code (list_parameter ∷ ps) (a ∷ args) [] l go ≡ found s (list_there (Some a)) (λ q. if_arguments true s code ps args (cell q ∷ []) l (λ others. go (cell q ∷ others)))
  list_first ps a args l go =
      (list_finds s).argument code a [] l (λ x r. if_arguments true s code ps args (x ∷ []) r (λ others. go (x ∷ others))) (λ q. if_arguments true s code ps args (cell q ∷ []) l (λ others. go (cell q ∷ others)))
      (λ b q e. ap (λ x. if_arguments true s code ps args (x ∷ []) l (λ others. go (x ∷ others))) e)

  list_refused : (ps : List Parameter) (args : List CArg) (go : List Argument → Ledger → Next) (why : Fault) → list_there (slice_get args 0) ≡ Err why → if_arguments true s code (list_parameter ∷ ps) args [] s.top.ledger go ≡ Ends (Faulted why) s
  list_refused ps [] go why e = ap (λ r. found s r (λ q. kind_fault)) e
  list_refused ps (a ∷ args) go why e =
      list_first ps a args s.top.ledger go ∙ ap (λ r. found s r (λ q. if_arguments true s code ps args (cell q ∷ []) s.top.ledger (λ others. go (cell q ∷ others)))) e

  list_is : (ps : List Parameter) (a : CArg) (args : List CArg) (go : List Argument → Ledger → Next) (q : ℕ × List machine.Word) → list_there (Some a) ≡ Ok q → if_arguments true s code (list_parameter ∷ ps) (a ∷ args) [] s.top.ledger go ≡ if_arguments true s code ps args (cell q ∷ []) s.top.ledger (λ others. go (cell q ∷ others))
  list_is ps a args go q e =
      list_first ps a args s.top.ledger go ∙ ap (λ r. found s r (λ p. if_arguments true s code ps args (cell p ∷ []) s.top.ledger (λ others. go (cell p ∷ others)))) e

  -- what is done with all arguments
  abbrev acts : Option ℕ → ListPrim → List Argument → Ledger → Next
  acts target p all l = applied true s target l (stolen (row_of (prim.List p)).parameters all) (step.effect code s (prim.List p) all)

  one_fewer : (a : CArg) (args : List CArg) (n : ℕ) → eqb (length (a ∷ args)) (suc n) ≡ eqb (length args) n
  one_fewer a args n = grind (arith, nat_tests)

  -- no list is there
  pub append_unlisted : (target : Option ℕ) (args : List CArg) (why : Fault) → list_there (slice_get args 0) ≡ Err why → primitive_step true s code target args (prim.List list.Append) ≡ Ends (Faulted why) s
  append_unlisted target args why e = list_refused (object ∷ []) args (acts target list.Append) why e

  pub set_unlisted : (target : Option ℕ) (args : List CArg) (why : Fault) → list_there (slice_get args 0) ≡ Err why → primitive_step true s code target args (prim.List list.SetItem) ≡ Ends (Faulted why) s
  set_unlisted target args why e = list_refused (number_parameter ∷ object ∷ []) args (acts target list.SetItem) why e

  -- ---- a list, and a word that is stolen
  abbrev adds : Option ℕ → ℕ → List machine.Word → Bool → Argument → Ledger → Next
  adds target c items alone x l =
      cond alone (applied true s target l (stolen (object ∷ []) (x ∷ [])) (of_word (λ w. Changes c (ListCell (items ++ w ∷ [])) NoneObject []) (word_in Object x))) kind_fault

  module _ (target : Option ℕ) (key : Key) (items : List machine.Word) where
    abbrev append_step : List CArg → Next
    append_step args = primitive_step true s code target args (prim.List list.Append)

    append_called : (args : List CArg) (a : CArg) (alone : Bool) (r : Result Word Fault) → list_there (slice_get args 0) ≡ Ok (number_of key, items) → slice_get args 1 ≡ Some a → alone ≡ eqb (length args) 2 → ((earlier : List Argument) (to : Argument → Ledger → Next) → if_argument true s code object a earlier s.top.ledger to ≡ stolen_or r s to) → append_step args ≡ stolen_or r s (adds target (number_of key) items alone)
    append_called [] a alone r e is number passed = absurd (no_fault _ (number_of key, items) refl e)
    append_called (b ∷ args) a alone r e is number passed =
        let first = cell (number_of key, items) in
        list_is (object ∷ []) b args (acts target list.Append) (number_of key, items) e
        ∙ last_stolen s code object args a alone (first ∷ []) (λ others. acts target list.Append (first ∷ others)) r is (number ∙ one_fewer b args 1) (passed (first ∷ []))

    pub append_missing : (args : List CArg) → list_there (slice_get args 0) ≡ Ok (number_of key, items) → slice_get args 1 ≡ None → append_step args ≡ Ends (Faulted fault.Kind) s
    append_missing [] e none = absurd (no_fault _ (number_of key, items) refl e)
    append_missing (a ∷ []) e none = list_is (object ∷ []) a [] (acts target list.Append) (number_of key, items) e
    append_missing (a ∷ b ∷ args) e none = absurd (cc)

    pub append_refused : (args : List CArg) (a : CArg) (r : Result Word Fault) (why : Fault) → list_there (slice_get args 0) ≡ Ok (number_of key, items) → slice_get args 1 ≡ Some a → ((earlier : List Argument) (to : Argument → Ledger → Next) → if_argument true s code object a earlier s.top.ledger to ≡ stolen_or r s to) → r ≡ Err why → append_step args ≡ Ends (Faulted why) s
    append_refused args a r why e is passed failed =
        append_called args a (eqb (length args) 2) r e is refl passed
        ∙ ap (λ p. stolen_or p s (adds target (number_of key) items (eqb (length args) 2))) failed

    pub append_crowded : (args : List CArg) (a : CArg) (r : Result Word Fault) (w : Word) → list_there (slice_get args 0) ≡ Ok (number_of key, items) → slice_get args 1 ≡ Some a → false ≡ eqb (length args) 2 → ((earlier : List Argument) (to : Argument → Ledger → Next) → if_argument true s code object a earlier s.top.ledger to ≡ stolen_or r s to) → r ≡ Ok w → append_step args ≡ Ends (Faulted fault.Kind) s
    append_crowded args a r w e is number passed stole =
        append_called args a false r e is number passed ∙ ap (λ p. stolen_or p s (adds target (number_of key) items false)) stole

    pub append_is : (args : List CArg) (a : CArg) (r : Result Word Fault) (w : Word) → list_there (slice_get args 0) ≡ Ok (number_of key, items) → slice_get args 1 ≡ Some a → true ≡ eqb (length args) 2 → ((earlier : List Argument) (to : Argument → Ledger → Next) → if_argument true s code object a earlier s.top.ledger to ≡ stolen_or r s to) → r ≡ Ok w → word_in Object (argument_of s.cells (contents.word_of w)) ≡ Some (contents.word_of w) → append_step args ≡ item_added target key w s
    append_is args a r w e is number passed stole word =
        let v = contents.word_of w in
        let l = left_by v s.top.ledger in
        append_called args a true r e is number passed
        ∙ ap (λ p. stolen_or p s (adds target (number_of key) items true)) stole
        ∙ ap (λ o. applied true s target l (stolen (object ∷ []) (argument_of s.cells v ∷ [])) (of_word (λ u. Changes (number_of key) (ListCell (items ++ u ∷ [])) NoneObject []) o)) word
        ∙ ap (λ all. applied true s target l [] (Changes (number_of key) (ListCell (all ++ v ∷ [])) NoneObject [])) (sym (items_are s.cells s.top.vars (slice_get args 0) (number_of key, items) e))

  -- ---- a list, an `int`, and a word that is stolen
  cell_wrong : (c : ℕ) (o : Option Content) (go : Argument → Next) (why : Fault) → int_held o ≡ Err why → if_some true s fault.Dead o (λ content. if_true true s (is_holding ANumber (Cell c content)) (go (Cell c content))) ≡ Ends (Faulted why) s
  cell_wrong c (Some (IntCell n)) go why e = absurd (cc)
  cell_wrong c _ go why e = ap (λ r. found s r (λ n. kind_fault)) e

  word_wrong : (o : Option machine.Word) (go : Argument → Next) (why : Fault) → int_of s.cells o ≡ Err why → if_some true s fault.Kind o (λ w. if_true true s (is_value_of Tagged w) (if_there true s w (λ a. if_true true s (is_holding ANumber a) (go a)))) ≡ Ends (Faulted why) s
  word_wrong (Some (ShortInt n)) go why e = absurd (cc)
  word_wrong (Some (BigInt c)) go why e = cell_wrong c (content_at s.cells c) go why e
  word_wrong _ go why e = ap (λ r. found s r (λ n. kind_fault)) e

  number_wrong : (a : CArg) (earlier : List Argument) (l : Ledger) (go : Argument → Ledger → Next) (why : Fault) → int_there (Some a) ≡ Err why → if_argument true s code number_parameter a earlier l go ≡ Ends (Faulted why) s
  number_wrong (arg.Var x) earlier l go why e = word_wrong (slice_get s.top.vars x) (λ a. go a l) why e
  number_wrong _ earlier l go why e = ap (λ r. found s r (λ n. kind_fault)) e

  number_refused : (ps : List Parameter) (args : List CArg) (earlier : List Argument) (l : Ledger) (go : List Argument → Ledger → Next) (why : Fault) → int_there (slice_get args 0) ≡ Err why → if_arguments true s code (number_parameter ∷ ps) args earlier l go ≡ Ends (Faulted why) s
  number_refused ps [] earlier l go why e = ap (λ r. found s r (λ n. kind_fault)) e
  number_refused ps (a ∷ args) earlier l go why e =
      number_wrong a earlier l (λ b r. if_arguments true s code ps args (earlier ++ b ∷ []) r (λ others. go (b ∷ others))) why e

  number_is : (ps : List Parameter) (a : CArg) (args : List CArg) (earlier : List Argument) (l : Ledger) (go : List Argument → Ledger → Next) (i : ℤ) (next : ℤ → Next) → int_there (Some a) ≡ Ok i → ((b : Argument) (n : ℤ) → int_in b ≡ Some n → if_arguments true s code ps args (earlier ++ b ∷ []) l (λ others. go (b ∷ others)) ≡ next n) → if_arguments true s code (number_parameter ∷ ps) (a ∷ args) earlier l go ≡ next i
  number_is ps a args earlier l go i next e same =
      (number_finds s).argument code a earlier l (λ b r. if_arguments true s code ps args (earlier ++ b ∷ []) r (λ others. go (b ∷ others))) next same
      ∙ ap (λ r. found s r next) e

  -- what is done with the word, and with what the other argument is
  abbrev writes : ℕ → List machine.Word → Option ℤ → Argument → Effect
  writes c items o x = of_int (λ i. of_word (put_at c (place_of (length items) i) items) (word_in Object x)) o

  abbrev puts : Option ℕ → ℕ → List machine.Word → Option ℤ → Bool → Argument → Ledger → Next
  puts target c items o alone x l = cond alone (applied true s target l (stolen (object ∷ []) (x ∷ [])) (writes c items o x)) kind_fault

  module _ (target : Option ℕ) (key : Key) (items : List machine.Word) where
    abbrev set_step : List CArg → Next
    set_step args = primitive_step true s code target args (prim.List list.SetItem)

    abbrev listed : ℕ × List machine.Word
    listed = (number_of key, items)

    set_called : (args : List CArg) (i : ℤ) (a : CArg) (alone : Bool) (r : Result Word Fault) → list_there (slice_get args 0) ≡ Ok listed → int_there (slice_get args 1) ≡ Ok i → slice_get args 2 ≡ Some a → alone ≡ eqb (length args) 3 → ((earlier : List Argument) (to : Argument → Ledger → Next) → if_argument true s code object a earlier s.top.ledger to ≡ stolen_or r s to) → set_step args ≡ stolen_or r s (puts target (number_of key) items (Some i) alone)
    set_called [] i a alone r e f is number passed = absurd (no_fault _ listed refl e)
    set_called (b ∷ []) i a alone r e f is number passed = absurd (cc)
    set_called (b ∷ c ∷ args) i a alone r e f is number passed =
        let number_left : alone ≡ eqb (length args) 1 = number ∙ one_fewer b (c ∷ args) 2 ∙ one_fewer c args 1 in
        list_is (number_parameter ∷ object ∷ []) b (c ∷ args) (acts target list.SetItem) listed e
        ∙ number_is (object ∷ []) c args (cell listed ∷ []) s.top.ledger (λ others. acts target list.SetItem (cell listed ∷ others)) i (λ n. stolen_or r s (puts target (number_of key) items (Some n) alone)) f
        (λ x n g.
        last_stolen s code object args a alone (cell listed ∷ x ∷ []) (λ others. acts target list.SetItem (cell listed ∷ x ∷ others)) r is number_left (passed (cell listed ∷ x ∷ []))
        ∙ ap (λ o. stolen_or r s (puts target (number_of key) items o alone)) g)

    pub set_no_index : (args : List CArg) (why : Fault) → list_there (slice_get args 0) ≡ Ok listed → int_there (slice_get args 1) ≡ Err why → set_step args ≡ Ends (Faulted why) s
    set_no_index [] why e f = absurd (no_fault _ listed refl e)
    set_no_index (b ∷ args) why e f =
        list_is (number_parameter ∷ object ∷ []) b args (acts target list.SetItem) listed e
        ∙ number_refused (object ∷ []) args (cell listed ∷ []) s.top.ledger (λ others. acts target list.SetItem (cell listed ∷ others)) why f

    pub set_missing : (args : List CArg) (i : ℤ) → list_there (slice_get args 0) ≡ Ok listed → int_there (slice_get args 1) ≡ Ok i → slice_get args 2 ≡ None → set_step args ≡ Ends (Faulted fault.Kind) s
    set_missing [] i e f none = absurd (no_fault _ listed refl e)
    set_missing (b ∷ []) i e f none = absurd (no_fault _ i refl f)
    set_missing (b ∷ c ∷ []) i e f none =
        list_is (number_parameter ∷ object ∷ []) b (c ∷ []) (acts target list.SetItem) listed e
        ∙ number_is (object ∷ []) c [] (cell listed ∷ []) s.top.ledger (λ others. acts target list.SetItem (cell listed ∷ others)) i (λ n. kind_fault) f (λ x n g. refl)
    set_missing (b ∷ c ∷ d ∷ args) i e f none = absurd (cc)

    pub set_refused : (args : List CArg) (i : ℤ) (a : CArg) (r : Result Word Fault) (why : Fault) → list_there (slice_get args 0) ≡ Ok listed → int_there (slice_get args 1) ≡ Ok i → slice_get args 2 ≡ Some a → ((earlier : List Argument) (to : Argument → Ledger → Next) → if_argument true s code object a earlier s.top.ledger to ≡ stolen_or r s to) → r ≡ Err why → set_step args ≡ Ends (Faulted why) s
    set_refused args i a r why e f is passed failed =
        set_called args i a (eqb (length args) 3) r e f is refl passed
        ∙ ap (λ p. stolen_or p s (puts target (number_of key) items (Some i) (eqb (length args) 3))) failed

    pub set_crowded : (args : List CArg) (i : ℤ) (a : CArg) (r : Result Word Fault) (w : Word) → list_there (slice_get args 0) ≡ Ok listed → int_there (slice_get args 1) ≡ Ok i → slice_get args 2 ≡ Some a → false ≡ eqb (length args) 3 → ((earlier : List Argument) (to : Argument → Ledger → Next) → if_argument true s code object a earlier s.top.ledger to ≡ stolen_or r s to) → r ≡ Ok w → set_step args ≡ Ends (Faulted fault.Kind) s
    set_crowded args i a r w e f is number passed stole =
        set_called args i a false r e f is number passed ∙ ap (λ p. stolen_or p s (puts target (number_of key) items (Some i) false)) stole

    pub set_is : (args : List CArg) (i : ℤ) (a : CArg) (r : Result Word Fault) (w : Word) (place : Option ℕ) → list_there (slice_get args 0) ≡ Ok listed → int_there (slice_get args 1) ≡ Ok i → slice_get args 2 ≡ Some a → true ≡ eqb (length args) 3 → ((earlier : List Argument) (to : Argument → Ledger → Next) → if_argument true s code object a earlier s.top.ledger to ≡ stolen_or r s to) → r ≡ Ok w → word_in Object (argument_of s.cells (contents.word_of w)) ≡ Some (contents.word_of w) → place ≡ place_of (length items) i → set_step args ≡ item_put target key place w s
    set_is args i a r w place e f is number passed stole word place_is =
        let v = contents.word_of w in
        let l = left_by v s.top.ledger in
        let c = number_of key in
        set_called args i a true r e f is number passed
        ∙ ap (λ p. stolen_or p s (puts target c items (Some i) true)) stole
        ∙ ap (λ o. applied true s target l (stolen (object ∷ []) (argument_of s.cells v ∷ [])) (of_word (put_at c (place_of (length items) i) items) o)) word
        ∙ ap (λ gone. applied true s target l gone (put_at c (place_of (length items) i) items v)) (object_gone s.cells v word)
        ∙ ap (λ p. applied true s target l (refs_of v) (put_at c p items v)) (sym place_is)
        ∙ ap (λ all. applied true s target l (refs_of v) (put_at c place all v)) (sym (items_are s.cells s.top.vars (slice_get args 0) listed e))

  -- ---- one list
  abbrev takes : Option ℕ → ℕ × List machine.Word → Next
  takes target q = applied true s target s.top.ledger [] (popped q.0 (place_of (length q.1) (negsuc 0)) q.1)

  pop_called : (target : Option ℕ) (args : List CArg) → primitive_step true s code target args (prim.List list.Pop) ≡ found s (one_list s.cells s.top.vars args) (takes target)
  pop_called target args =
      one_of s (list_finds s) code args s.top.ledger (acts target list.Pop) (takes target)
      (λ b q e. ap (λ x. acts target list.Pop (x ∷ []) s.top.ledger) e)

  pub pop_refused : (target : Option ℕ) (args : List CArg) (why : Fault) → one_list s.cells s.top.vars args ≡ Err why → primitive_step true s code target args (prim.List list.Pop) ≡ Ends (Faulted why) s
  pop_refused target args why e = pop_called target args ∙ ap (λ r. found s r (takes target)) e

  pub pop_is : (target : Option ℕ) (args : List CArg) (key : Key) (items : List machine.Word) → one_list s.cells s.top.vars args ≡ Ok (number_of key, items) → primitive_step true s code target args (prim.List list.Pop) ≡ item_taken target key s
  pop_is target args key items e =
      pop_called target args
      ∙ ap (λ r. found s r (takes target)) e
      ∙ ap (λ all. takes target (number_of key, all)) (sym (items_are s.cells s.top.vars (slice_get args 0) (number_of key, items) (only_list s.cells s.top.vars args (number_of key, items) e)))

  -- ---- a new list has no argument
  pub new_crowded : (target : Option ℕ) (args : List CArg) → eqb (length args) 0 ≡ false → primitive_step true s code target args (prim.List list.New) ≡ Ends (Faulted fault.Kind) s
  new_crowded target [] e = absurd (grind (arith, nat_tests, e))
  new_crowded target (a ∷ args) e = refl

  no_argument : (args : List CArg) → eqb (length args) 0 ≡ true → args ≡ []
  no_argument [] e = refl
  no_argument (a ∷ args) e = absurd (grind (arith, nat_tests, e))

  pub new_is : (target : Option ℕ) (args : List CArg) → eqb (length args) 0 ≡ true → primitive_step true s code target args (prim.List list.New) ≡ applied true s target s.top.ledger [] (Makes (ListCell []))
  new_is target args e = ap (λ a. primitive_step true s code target a (prim.List list.New)) (no_argument args e)

-- ---- the same for what a call answers: what leads to a state may have made an object
pub makes_list : {E : Type 0} (old new : Seen) (target : Option ℕ) (args : List CArg) (items : List machine.Word) (r : Result (Option Ending) E) → eqb (length args) 0 ≡ true → items ≡ [] → IfOk r (λ ending. (rest : Rest) → applied true (state_of rest old) target old.top.ledger [] (Makes (ListCell items)) ≡ next_of ending (state_of (record rest { made = noted (ListCell items) (length old.cells) rest.made }) new)) → IfOk r (λ ending. (code : Code) → Leads (λ s. primitive_step true s code target args (prim.List list.New)) ending old new)
makes_list old new target args items (Ok ending) none empty h = λ code rest.
    let s = state_of rest old in (
      noted (ListCell items) (length old.cells) rest.made,
      new_is s code target args none ∙ ap (λ all. applied true s target s.top.ledger [] (Makes (ListCell all))) (sym empty) ∙ h rest,
    )
makes_list old new target args items (Err failed) none empty h = tt

pub calls_quietly : {E : Type 0} (p : Primitive) (target : Option ℕ) (args : List CArg) (old new : Seen) (r : Result (Option Ending) E) → Calls p target args old new r → MayMake p target args old new r
calls_quietly p target args old new (Ok ending) h = λ code rest. (rest.made, h code rest)
calls_quietly p target args old new (Err failed) h = tt

-- ---- a list that changes
-- a cell is refilled, a word is answered, and references are given up
pub changed : (rest : Rest) (old : Seen) (target : Option ℕ) (c : ℕ) (content : Content) (answer : Word) (l : Ledger) (up gone : List ℕ) (filled cells : Cells Content) (owner top : Frame) → filled ≡ refill content c old.cells → cells ≡ release refs_in filled up → owner ≡ record old.top { ledger = more_of (refs_of (contents.word_of answer)) l } → top ≡ with_target target answer owner → applied true (state_of rest old) target l gone (Changes c content (contents.word_of answer) up) ≡ Goes (state_of rest (record old { cells = cells; top = record top { place = top.place + 1 } }))
changed rest old target c content answer l up gone filled cells owner top filled_is cells_is owner_is top_is =
    let made : Seen = record old { cells = release refs_in (refill content c old.cells) up; top = record old.top { ledger = more_of (refs_of (contents.word_of answer)) l } } in
    ap (λ t. Goes (next_line t)) (target_set rest made target answer)
    ∙ sym (ap (λ cs. Goes (state_of rest (record old { cells = cs; top = record top { place = top.place + 1 } }))) (cells_is ∙ ap (λ h. release refs_in h up) filled_is)
    ∙ ap (λ f. Goes (state_of rest (record made { top = record f { place = f.place + 1 } }))) (top_is ∙ ap (with_target target answer) owner_is))

-- the cell may be pushed to
pub lists : (cells : Cells Content) (c : ℕ) → HoldsList cells c → IfSome (content_at cells c) (λ content. is_list content ≡ true)
lists cells c e = subst (λ o. IfSome o (λ content. is_list content ≡ true)) (sym e) refl

-- the cell is there
pub never_dead : (cells : Cells Content) (c : ℕ) → HoldsList cells c → content_at cells c ≡ None → ⊥
never_dead cells c e none = let both : Some (ListCell (items_at cells c)) ≡ None = sym e ∙ none in cc

pub added : (rest : Rest) (old : Seen) (target : Option ℕ) (key : Key) (w : Word) (cells : Cells Content) (owner top : Frame) → HoldsList old.cells (number_of key) → cells ≡ refill_by (with_last (contents.word_of w)) (number_of key) old.cells → owner ≡ record old.top { ledger = left_by (contents.word_of w) old.top.ledger } → top ≡ with_target target heap.PyNone owner → item_added target key w (state_of rest old) ≡ Goes (state_of rest (record old { cells = cells; top = record top { place = top.place + 1 } }))
added rest old target key w cells owner top e cells_is owner_is top_is =
    let c = number_of key in
    let v = contents.word_of w in
    changed rest old target c (ListCell (items_at old.cells c ++ v ∷ [])) heap.PyNone (left_by v old.top.ledger) [] [] cells cells owner top
    (cells_is ∙ refill-there (with_last v) c old.cells (ListCell (items_at old.cells c)) e) (sym (release-nothing refs_in cells)) owner_is top_is

-- an item that is there is written
pub some_item : {X : Type 0} (xs : List X) (i : ℕ) → i < length xs → slice_get xs i ≡ None → ⊥
some_item [] i lt e = omega (arith, lt)
some_item (x ∷ xs) zero lt e = cc
some_item (x ∷ xs) (suc i) lt e = some_item xs i (omega (arith, lt)) e

written_over : (rest : Rest) (old : Seen) (target : Option ℕ) (key : Key) (place : ℕ) (w answer : Word) (stood : Option Word) (filled cells : Cells Content) (owner top : Frame) → place < length (items_at old.cells (number_of key)) → contents.word_of answer ≡ CharWord 1 → option_map contents.word_of stood ≡ slice_get (items_at old.cells (number_of key)) place → filled ≡ refill (ListCell (slice_set (items_at old.cells (number_of key)) place (contents.word_of w))) (number_of key) old.cells → cells ≡ release refs_in filled (set_refs (held_of stood ∷ [])) → owner ≡ record old.top { ledger = left_by (contents.word_of w) old.top.ledger } → top ≡ with_target target answer owner → item_put target key (Some place) w (state_of rest old) ≡ Goes (state_of rest (record old { cells = cells; top = record top { place = top.place + 1 } }))
written_over rest old target key place w answer None filled cells owner top within is_one stood_is filled_is cells_is owner_is top_is =
    absurd (some_item (items_at old.cells (number_of key)) place within (sym stood_is))
written_over rest old target key place w answer (Some stood) filled cells owner top within is_one stood_is filled_is cells_is owner_is top_is =
    let c = number_of key in
    let v = contents.word_of w in
    let items = items_at old.cells c in
    let l = left_by v old.top.ledger in
    let owned : owner ≡ record old.top { ledger = more_of (refs_of (contents.word_of answer)) l } =
    owner_is ∙ ap (λ u. record old.top { ledger = more_of (refs_of u) l }) (sym is_one) in
    ap (λ o. applied true (state_of rest old) target l (refs_of v) (of_word (λ u. Changes c (ListCell (slice_set items place v)) (CharWord 1) (refs_of u)) o)) (sym stood_is)
    ∙ ap (λ u. applied true (state_of rest old) target l (refs_of v) (Changes c (ListCell (slice_set items place v)) u (refs_of (contents.word_of stood)))) (sym is_one)
    ∙ changed rest old target c (ListCell (slice_set items place v)) answer l (refs_of (contents.word_of stood)) (refs_of v) filled cells owner top
    filled_is (cells_is ∙ ap (release refs_in filled) (refs_alone (contents.word_of stood))) owned top_is

pub item_written : (rest : Rest) (old : Seen) (target : Option ℕ) (key : Key) (place : ℕ) (w answer : Word) (stood : Option Word) (filled cells : Cells Content) (owner top : Frame) → HoldsList old.cells (number_of key) → place < length (items_at old.cells (number_of key)) → contents.word_of answer ≡ CharWord 1 → option_map contents.word_of stood ≡ word_at old.cells (number_of key) place → filled ≡ refill_by (with_word place (Some (contents.word_of w))) (number_of key) old.cells → cells ≡ release refs_in filled (set_refs (held_of stood ∷ [])) → owner ≡ record old.top { ledger = left_by (contents.word_of w) old.top.ledger } → top ≡ with_target target answer owner → item_put target key (Some place) w (state_of rest old) ≡ Goes (state_of rest (record old { cells = cells; top = record top { place = top.place + 1 } }))
item_written rest old target key place w answer stood filled cells owner top e within is_one stood_is filled_is cells_is owner_is top_is =
    let c = number_of key in
    written_over rest old target key place w answer stood filled cells owner top within is_one
    (stood_is ∙ ap (option_and_then (words.word_in place)) e)
    (filled_is ∙ refill-there (with_word place (Some (contents.word_of w))) c old.cells (ListCell (items_at old.cells c)) e)
    cells_is owner_is top_is

-- a failure behind which a word is given up
pub fails_released : {E : Type 0} (old : Seen) (target : Option ℕ) (w : Word) (v : machine.Word) (class : ExcClass) (text wanted : List ℕ) (cells : Cells Content) (top : Frame) (new : Seen) (r : Result (Option Ending) E) → top ≡ record old.top { ledger = left_by (contents.word_of w) old.top.ledger } → cells ≡ release refs_in old.cells (set_refs (held_of (Some w) ∷ [])) → text ≡ wanted → IfOk r (λ ending. Follows (λ s. applied true s target s.top.ledger [] (Fails v (thrown class text))) ending (record old { top = top; cells = cells }) new) → IfOk r (λ ending. Follows (λ s. applied true s target (left_by (contents.word_of w) s.top.ledger) (refs_of (contents.word_of w)) (Fails v (thrown class wanted))) ending old new)
fails_released old target w v class text wanted cells top new (Ok ending) top_is cells_is text_is h = λ rest.
    let s = state_of rest old in
    let u = contents.word_of w in
    let e = thrown class text in
    let after : Cells Content → Frame → MachineState = λ cs f. state_of rest (record old { top = f; cells = cs }) in
    let given_up : release refs_in old.cells (refs_of u) ≡ cells = ap (release refs_in old.cells) (sym (refs_alone u)) ∙ sym cells_is in
    ap (λ t. applied true s target (left_by u s.top.ledger) (refs_of u) (Fails v (thrown class t))) (sym text_is)
    ∙ ap (λ cs. Goes (next_line (step.with_target target v (raise e (after cs (record old.top { ledger = left_by u old.top.ledger })))))) given_up
    ∙ ap (λ f. Goes (next_line (step.with_target target v (raise e (after cells f))))) (sym top_is)
    ∙ ap (λ cs. Goes (next_line (step.with_target target v (raise e (with_cells cs (after cells top)))))) (sym (release-nothing refs_in cells))
    ∙ h rest
fails_released old target w v class text wanted cells top new (Err failed) top_is cells_is text_is h = tt

-- ---- the last item
abbrev last_place : List machine.Word → ℕ
last_place items = length items - 1

last_popped : (c : ℕ) (items : List machine.Word) (w : machine.Word) → Some w ≡ slice_get items (last_place items) → popped c (place_of (length items) (negsuc 0)) items ≡ Changes c (ListCell (take (last_place items) items)) w []
last_popped c [] w e = absurd (cc)
last_popped c (x ∷ items) w e =
    let all = x ∷ items in
    let some : nat_lt 0 (length all) ≡ true = grind (arith, nat_tests) in
    ap (λ b. popped c (cond b (Some (last_place all)) None) all) some
    ∙ ap (of_word (λ v. Changes c (ListCell (take (last_place all) all)) v [])) (sym e)

no_last : (items : List machine.Word) → None ≡ slice_get items (last_place items) → items ≡ []
no_last [] e = refl
no_last (x ∷ items) e = absurd (some_item (x ∷ items) (last_place (x ∷ items)) (omega arith) (sym e))

pub item_popped : (rest : Rest) (old : Seen) (target : Option ℕ) (key : Key) (w : Word) (cells : Cells Content) (owner top : Frame) → HoldsList old.cells (number_of key) → cells ≡ refill_by without_last (number_of key) old.cells → Some (contents.word_of w) ≡ last_at old.cells (number_of key) → owner ≡ record old.top { ledger = more_of (refs_of (contents.word_of w)) old.top.ledger } → top ≡ with_target target w owner → item_taken target key (state_of rest old) ≡ Goes (state_of rest (record old { cells = cells; top = record top { place = top.place + 1 } }))
item_popped rest old target key w cells owner top e cells_is last_is owner_is top_is =
    let c = number_of key in
    let items = items_at old.cells c in
    ap (applied true (state_of rest old) target old.top.ledger []) (last_popped c items (contents.word_of w) (last_is ∙ ap (option_and_then last_in) e))
    ∙ changed rest old target c (ListCell (take (last_place items) items)) w old.top.ledger [] [] cells cells owner top
    (cells_is ∙ refill-there without_last c old.cells (ListCell items) e) (sym (release-nothing refs_in cells)) owner_is top_is

-- the same content in a cell
refill_same : (content : Content) (c : ℕ) (cells : Cells Content) → content_at cells c ≡ Some content → refill content c cells ≡ cells
refill_same content c [] e = refl
refill_same content zero (None ∷ cells) e = refl
refill_same content zero (Some cell ∷ cells) e =
    let there : Some cell.content ≡ Some content = e in
    let same : content ≡ cell.content = cc in
    ap (λ x. Some (record { count = cell.count; content = x }) ∷ cells) same
refill_same content (suc c) (o ∷ cells) e = ap (λ rest. o ∷ rest) (refill_same content c cells e)

-- from an empty list nothing is taken, and the call fails
pub fails_empty : {E : Type 0} (old : Seen) (target : Option ℕ) (key : Key) (cells : Cells Content) (text : List ℕ) (new : Seen) (r : Result (Option Ending) E) → HoldsList old.cells (number_of key) → cells ≡ refill_by without_last (number_of key) old.cells → None ≡ last_at old.cells (number_of key) → text ≡ codes "pop from empty list" → IfOk r (λ ending. Follows (λ s. applied true s target s.top.ledger [] (Fails NoObject (thrown IndexError text))) ending (record old { cells = cells }) new) → IfOk r (λ ending. Follows (item_taken target key) ending old new)
fails_empty old target key cells text new (Ok ending) e cells_is last_is text_is h = λ rest.
    let c = number_of key in
    let empty : items_at old.cells c ≡ [] = no_last (items_at old.cells c) (last_is ∙ ap (option_and_then last_in) e) in
    let content : content_at old.cells c ≡ Some (ListCell []) = e ∙ ap (λ all. Some (ListCell all)) empty in
    let same : cells ≡ old.cells = cells_is ∙ refill-there without_last c old.cells (ListCell []) content ∙ refill_same (ListCell []) c old.cells content in
    ap (λ all. applied true (state_of rest old) target old.top.ledger [] (popped c (place_of (length all) (negsuc 0)) all)) empty
    ∙ ap (λ t. applied true (state_of rest old) target old.top.ledger [] (Fails NoObject (thrown IndexError t))) (sym text_is)
    ∙ ap (λ cs. applied true (state_of rest (record old { cells = cs })) target old.top.ledger [] (Fails NoObject (thrown IndexError text))) (sym same)
    ∙ h rest
fails_empty old target key cells text new (Err failed) e cells_is last_is text_is h = tt
