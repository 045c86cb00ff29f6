-- Calls of primitives on dicts: what the machine finds in their arguments, and what it does then, at the runner's states.
use Rattle.std.proofs.Common.{◌≡◌, refl, sym, ap, ◌∙◌, ℕ, zero, suc, ◌+◌, ◌<◌, arith, Bool, true, false, cond, eqb, List, [], ◌∷◌, ◌++◌, append_assoc, length, take, drop, ◌≤◌, Option, Some, None}
use Rattle.std.specs.Prelude.{nat_lt, is_some, slice_get, slice_set, Result, Ok, Err, IfOk, IfSome}
use Rattle.std.specs.Option.{option_and_then, option_map}
use Rattle.std.proofs.lemmas.Bool.Decides.{nat_tests}
use Rattle.std.proofs.lemmas.List.{length-append}
use Rattle.std.proofs.lemmas.List.Quantifiers.{position-Some}
use Rattle.value_core.specs.declared.exception.ExcClass.TheVariants.{KeyError}
use Rattle.value_core.specs.Exceptions.{thrown}
use Rattle.c_core.specs.declared.code.CArg.{CArg}
use Rattle.c_core.specs.declared.code.Code.{Code}
use Rattle.c_core.specs.declared.code.Kind.TheVariants.{Object}
use Rattle.c_core.specs.declared.fault.Fault.{Fault}
use Rattle.c_core.specs.declared.fault.Fault.TheVariants as fault
use Rattle.c_core.specs.declared.primitive.Primitive.TheVariants as prim
use Rattle.c_core.specs.declared.primitive.DictPrim.{DictPrim}
use Rattle.c_core.specs.declared.primitive.DictPrim.TheVariants as dict
use Rattle.c_core.specs.Arguments.{Argument, Cell, is_value_of, is_holding, key_as, word_in, stolen}
use Rattle.c_core.specs.Cells.{Cells, content_at, refill}
use Rattle.c_core.specs.Keys as keys
use Rattle.c_core.specs.Keys.{NumberKey, TextKey, TruthKey, key_in, key_of, key_place}
use Rattle.c_core.specs.Ledgers.{Ledger, more_of}
use Rattle.c_core.specs.Machine as machine
use Rattle.c_core.specs.Machine.{BigInt, ObjectCell, NoneObject, TrueObject, FalseObject, NoObject, CharWord, Content, IntCell, StrCell, DictCell, MachineState, noted, refs_of, refs_in, set_refs}
use Rattle.c_core.specs.Primitives.{Parameter, Borrows, Steals, Is, ADict, AKey, row_of}
use Rattle.c_core.specs.Release.{after, freed, weight, release, release_some}
use Rattle.c_core.specs.Step.{Next, Goes, Ends, Faulted, Effect, Says, Shares, Makes, Changes, Fails, truth_word, if_argument, if_arguments, faulted, applied, primitive_step, effect, of_key, of_word, of_pair, value_at, entry_set, entry_cut}
use Rattle.c_core.proofs.Order.{release_first}
use Rattle.c_core.proofs.ReleaseLemmas.{weight-after, release-nothing}
use Rattle.c_runner_deeds.specs.declared.ending.Ending.{Ending}
use Rattle.c_runner_deeds.specs.declared.state.Frame.{Frame}
use Rattle.c_runner_deeds.specs.Deeds.{paired, dict_and_key, then_done, dict_item_done, dict_contains_done}
use Rattle.c_runner_objects.specs.Dicts.{pairs_at, HoldsDict, HoldsKey, HoldsEntry, entry_parameters, shown, taken_or, both_taken_or, entry_put, entry_taken}
use Rattle.c_runner_deeds.specs.Objects.{pairs_in, held, beside, object_of, dict_at, keyed, key_held, key_word, key_argument}
use Rattle.c_runner_deeds.specs.Parts.{is_there, cell_argument, argument_of, is_owned, left_by, stolen_or}
use Rattle.c_runner_deeds.specs.States.{Seen, Rest, Leads, held_of, state_of, next_of, with_target}
use Rattle.c_runner_objects.specs.Tuples.{AreOwned}
use Rattle.slot_arena.specs.declared.key.Key.{Key}
use Rattle.cell_heap.specs.declared.word.Word.{Word}
use Rattle.cell_heap.specs.declared.word.Word.TheVariants as heap
use Rattle.cell_heap.specs.Contents as contents
use Rattle.cell_heap.specs.Contents.{number_of}
use Rattle.cell_heap.specs.Pairs.{has_cell, place_for, pairs_held, is_dict, with_pair, pair_in, without_pair, pair_at}
use Rattle.cell_heap.specs.Words.{set_value, with_word, refill_by}
use Rattle.cell_heap.specs.Words as words
use Rattle.cell_heap.proofs.RefillLemmas.{refill-there}
use Rattle.c_runner_deeds.proofs.FindLemmas.{found, two_of, dict_finds, key_finds}
use Rattle.c_runner_objects.proofs.ListLemmas.{no_fault, some_item, changed}
use Rattle.c_runner_deeds.proofs.StolenLemmas.{refs_alone, object}
use Rattle.c_runner_objects.proofs.TupleLemmas.{owned_push}

-- ---- references that are given up one after the other
module _ {X : Type 0} (refs : X → List ℕ) where
  some_more : (n : ℕ) (cells : Cells X) (first second : List ℕ) → length first + weight refs cells ≤ n → release refs cells (first ++ second) ≡ release refs (release_some refs n cells first) second
  some_more zero cells [] second le = refl
  some_more zero cells (c ∷ first) second le = absurd (omega arith)
  some_more (suc n) cells [] second le = refl
  some_more (suc n) cells (c ∷ first) second le =
      release_first refs cells c (first ++ second)
      ∙ ap (release refs (after c cells)) (sym (append_assoc (freed refs c cells) first second))
      ∙ some_more n (after c cells) (freed refs c cells ++ first) second (omega (arith, weight-after refs cells c, length-append (freed refs c cells) first))

  release_more : (cells : Cells X) (first second : List ℕ) → release refs cells (first ++ second) ≡ release refs (release refs cells first) second
  release_more cells first second = some_more (length first + weight refs cells) cells first second (omega arith)

-- two words, each of which may be missing
given_both : (cells first second : Cells Content) (a b : Option Word) (v w : machine.Word) → held_of a ≡ Some v → held_of b ≡ Some w → first ≡ release refs_in cells (set_refs (held_of a ∷ [])) → second ≡ release refs_in first (set_refs (held_of b ∷ [])) → second ≡ release refs_in cells (refs_of v ++ refs_of w)
given_both cells first second a b v w a_is b_is first_is second_is =
    second_is
    ∙ ap (λ o. release refs_in first (set_refs (o ∷ []))) b_is
    ∙ ap (release refs_in first) (refs_alone w)
    ∙ ap (λ h. release refs_in h (refs_of w)) (first_is ∙ ap (λ o. release refs_in cells (set_refs (o ∷ []))) a_is ∙ ap (release refs_in cells) (refs_alone v))
    ∙ sym (release_more refs_in cells (refs_of v) (refs_of w))

-- ---- a dict that was found
cell_holds : (d : ℕ) (o : Option Content) (q : ℕ × List (machine.Word × machine.Word)) → beside d (held pairs_in o) ≡ Ok q → (d ≡ q.0) × (o ≡ Some (DictCell q.1))
cell_holds d (Some (DictCell pairs)) q e =
    let same : (d, pairs) ≡ q = cc in (ap (λ p. p.0) same, ap (λ p. Some (DictCell p.1)) same)
cell_holds d _ q e = absurd (no_fault _ q refl e)

word_holds : (cells : Cells Content) (o : Option machine.Word) (q : ℕ × List (machine.Word × machine.Word)) → object_of pairs_in cells o ≡ Ok q → content_at cells q.0 ≡ Some (DictCell q.1)
word_holds cells (Some (ObjectCell d)) q e =
    let both = cell_holds d (content_at cells d) q e in ap (content_at cells) (sym both.0) ∙ both.1
word_holds cells _ q e = absurd (no_fault _ q refl e)

module _ (cells : Cells Content) (vars : List machine.Word) (a : Option CArg) (q : ℕ × List (machine.Word × machine.Word)) (e : dict_at cells vars a ≡ Ok q) where
  dict_is : content_at cells q.0 ≡ Some (DictCell q.1)
  dict_is = word_holds cells _ q e

  pub pairs_are : pairs_at cells q.0 ≡ q.1
  pairs_are = ap pairs_held dict_is

  pub holds_dict : HoldsDict cells q.0
  holds_dict = dict_is ∙ ap (λ o. Some (DictCell (pairs_held o))) (sym dict_is)

-- the cell is there
pub never_dead : (cells : Cells Content) (c : ℕ) → HoldsDict cells c → content_at cells c ≡ None → ⊥
never_dead cells c e none = let both : Some (DictCell (pairs_at cells c)) ≡ None = sym e ∙ none in cc

pub dicts : (cells : Cells Content) (c : ℕ) → HoldsDict cells c → IfSome (content_at cells c) (λ content. is_dict content ≡ true)
dicts cells c e = if_dict (content_at cells c) e
  where
    if_dict : (o : Option Content) → o ≡ Some (DictCell (pairs_held o)) → IfSome o (λ content. is_dict content ≡ true)
    if_dict None e = tt
    if_dict (Some content) e =
        let same : content ≡ DictCell (pairs_held (Some content)) = cc in ap is_dict same

-- ---- a key that was found
cell_key : (cells : Cells Content) (c : ℕ) (content : Content) (o : Option keys.Key) (w : machine.Word) → content_at cells c ≡ Some content → key_in content ≡ o → keyed (ObjectCell c) o ≡ Ok w → HoldsKey cells w
cell_key cells c content None w there is e = absurd (no_fault _ w refl e)
cell_key cells c content (Some k) w there is e =
    let same : ObjectCell c ≡ w = cc in
    record {
      there = ap (has_cell cells) (sym same) ∙ ap is_some there;
      key = k;
      is_key = ap (key_of cells) (sym same) ∙ ap (option_and_then key_in) there ∙ is;
    }

held_key : (cells : Cells Content) (c : ℕ) (o : Option Content) (w : machine.Word) → content_at cells c ≡ o → key_held c o ≡ Ok w → HoldsKey cells w
held_key cells c None w there e = absurd (no_fault _ w refl e)
held_key cells c (Some content) w there e = cell_key cells c content (key_in content) w there refl e

word_key : (cells : Cells Content) (o : Option machine.Word) (w : machine.Word) → key_word cells o ≡ Ok w → HoldsKey cells w
word_key cells (Some (ObjectCell c)) w e = held_key cells c (content_at cells c) w refl e
word_key cells (Some TrueObject) w e =
    let same : TrueObject ≡ w = cc in
    record { there = ap (has_cell cells) (sym same); key = TruthKey true; is_key = ap (key_of cells) (sym same) }
word_key cells (Some FalseObject) w e =
    let same : FalseObject ≡ w = cc in
    record { there = ap (has_cell cells) (sym same); key = TruthKey false; is_key = ap (key_of cells) (sym same) }
word_key cells _ w e = absurd (no_fault _ w refl e)

both_of : {A B : Type 0} (r : Result A Fault) (q : Result B Fault) (n : ℕ) (more : Bool) (x : A × B) → nat_lt 2 n ≡ more → paired r q n ≡ Ok x → (r ≡ Ok x.0) × (q ≡ Ok x.1)
both_of (Ok a) (Ok b) n false x is e =
    let found : Ok (a, b) ≡ Ok x = sym (ap (λ t. cond t (Err fault.Kind) (Ok (a, b))) is) ∙ e in
    let same : (a, b) ≡ x = cc in
    (ap (λ p. Ok p.0) same, ap (λ p. Ok p.1) same)
both_of (Ok a) (Ok b) n true x is e =
    let found : Err fault.Kind ≡ Ok x = sym (ap (λ t. cond t (Err fault.Kind) (Ok (a, b))) is) ∙ e in absurd (cc)
both_of (Ok a) (Err why) n more x is e = absurd (no_fault _ x refl e)
both_of (Err why) q n more x is e = absurd (no_fault _ x refl e)

-- a dict and a key that were found
module _ (cells : Cells Content) (vars : List machine.Word) (args : List CArg) (q : (ℕ × List (machine.Word × machine.Word)) × machine.Word) (e : dict_and_key cells vars args ≡ Ok q) where
  both_found : (dict_at cells vars (slice_get args 0) ≡ Ok q.0) × (key_argument cells vars (slice_get args 1) ≡ Ok q.1)
  both_found = both_of (dict_at cells vars (slice_get args 0)) (key_argument cells vars (slice_get args 1)) (length args) (nat_lt 2 (length args)) q refl e

  pub dict_there : HoldsDict cells q.0.0
  dict_there = holds_dict cells vars (slice_get args 0) q.0 both_found.0

  pub pairs_there : pairs_at cells q.0.0 ≡ q.0.1
  pairs_there = pairs_are cells vars (slice_get args 0) q.0 both_found.0

  pub key_there : HoldsKey cells q.1
  key_there = word_key cells _ q.1 both_found.1

-- what is done at the place of a key that is there
pub placed : (cells : Cells Content) (w : machine.Word) (k : keys.Key) (pairs others : List (machine.Word × machine.Word)) (place : Option ℕ) (does : keys.Key → Option ℕ → Effect) → key_of cells w ≡ Some k → place ≡ place_for cells (key_of cells w) others → others ≡ pairs → of_key (λ j. does j (key_place cells j pairs)) (key_of cells w) ≡ does k place
placed cells w k pairs others place does is place_is same =
    ap (of_key (λ j. does j (key_place cells j pairs))) is
    ∙ ap (does k) (sym (place_is ∙ ap (λ o. place_for cells o others) is ∙ ap (key_place cells k) same))

-- the place is one of the dict's
pub place_within : (cells : Cells Content) (o : Option keys.Key) (pairs : List (machine.Word × machine.Word)) (i : ℕ) → Some i ≡ place_for cells o pairs → i < length pairs
place_within cells None pairs i e = absurd (cc)
place_within cells (Some k) pairs i e =
    (position-Some (λ p. keys.is_key k (key_of cells p.0)) pairs i (NoObject, NoObject) (sym e)).0

pub places_within : (cells : Cells Content) (o : Option keys.Key) (pairs : List (machine.Word × machine.Word)) (place : Option ℕ) → place ≡ place_for cells o pairs → IfSome place (λ i. i < length pairs)
places_within cells o pairs None e = tt
places_within cells o pairs (Some i) e = place_within cells o pairs i e

-- what is read of a dict
module _ (cells : Cells Content) (vars : List machine.Word) (args : List CArg) (d : Key) (pairs : List (machine.Word × machine.Word)) (w : Word) (e : dict_and_key cells vars args ≡ Ok ((number_of d, pairs), contents.word_of w)) (place : Option ℕ) (place_is : place ≡ place_for cells (key_of cells (contents.word_of w)) (pairs_at cells (number_of d))) where
  abbrev here : (ℕ × List (machine.Word × machine.Word)) × machine.Word
  here = ((number_of d, pairs), contents.word_of w)

  read_at : (does : keys.Key → Option ℕ → Effect) → of_key (λ j. does j (key_place cells j pairs)) (key_of cells (contents.word_of w)) ≡ does (key_there cells vars args here e).key place
  read_at does =
      placed cells (contents.word_of w) (key_there cells vars args here e).key pairs (pairs_at cells (number_of d)) place does (key_there cells vars args here e).is_key place_is (pairs_there cells vars args here e)

  pub item_done : (i : ℕ) → place ≡ Some i → Ok (of_pair (λ p. Shares p.1) (slice_get pairs i)) ≡ dict_item_done cells vars args
  item_done i some =
      sym (ap (then_done (λ q. of_key (λ k. value_at k (key_place cells k q.0.1) q.0.1) (key_of cells q.1))) e
      ∙ ap Ok (read_at (λ k p. value_at k p pairs))
      ∙ ap (λ p. Ok (value_at (key_there cells vars args here e).key p pairs)) some)

  pub item_missing : (text : List ℕ) → place ≡ None → text ≡ shown (key_of cells (contents.word_of w)) → Ok (Fails NoObject (thrown KeyError text)) ≡ dict_item_done cells vars args
  item_missing text none text_is =
      ap (λ t. Ok (Fails NoObject (thrown KeyError t))) (text_is ∙ ap shown (key_there cells vars args here e).is_key)
      ∙ sym (ap (then_done (λ q. of_key (λ k. value_at k (key_place cells k q.0.1) q.0.1) (key_of cells q.1))) e
      ∙ ap Ok (read_at (λ k p. value_at k p pairs))
      ∙ ap (λ p. Ok (value_at (key_there cells vars args here e).key p pairs)) none)

  pub contains_done : Ok (Says (truth_word (is_some place))) ≡ dict_contains_done cells vars args
  contains_done =
      sym (ap (then_done (λ q. of_key (λ k. Says (truth_word (is_some (key_place cells k q.0.1)))) (key_of cells q.1))) e
      ∙ ap Ok (read_at (λ k p. Says (truth_word (is_some p)))))

-- the runner finds both
pub there_is : (cells : Cells Content) (w : machine.Word) → is_there cells w ≡ has_cell cells w
there_is cells (BigInt c) = refl
there_is cells (ObjectCell c) = refl
there_is cells _ = refl

-- ---- a key that is stolen
cell_is_key : (cells : Cells Content) (c : ℕ) (o : Option Content) → content_at cells c ≡ o → is_holding AKey (cell_argument c o) ≡ true → HoldsKey cells (ObjectCell c)
cell_is_key cells c (Some (IntCell n)) there holds =
    record { there = ap is_some there; key = NumberKey n; is_key = ap (option_and_then key_in) there }
cell_is_key cells c (Some (StrCell text)) there holds =
    record { there = ap is_some there; key = TextKey text; is_key = ap (option_and_then key_in) there }
cell_is_key cells c _ there holds = absurd (cc)

pub key_is : (cells : Cells Content) (w : machine.Word) → is_value_of Object w ≡ true → is_holding AKey (argument_of cells w) ≡ true → HoldsKey cells w
key_is cells (ObjectCell c) value holds = cell_is_key cells c (content_at cells c) refl holds
key_is cells TrueObject value holds = record { there = refl; key = TruthKey true; is_key = refl }
key_is cells FalseObject value holds = record { there = refl; key = TruthKey false; is_key = refl }
key_is cells NoneObject value holds = absurd (cc)
key_is cells _ value holds = absurd (cc)

big_is_none : (c : ℕ) (o : Option Content) → word_in Object (cell_argument c o) ≡ Some (BigInt c) → ⊥
big_is_none c None e = cc
big_is_none c (Some content) e = cc

cell_key_as : (c : ℕ) (o : Option Content) → key_as (cell_argument c o) ≡ option_and_then key_in o
cell_key_as c None = refl
cell_key_as c (Some content) = refl

key_as_is : (cells : Cells Content) (w : machine.Word) → word_in Object (argument_of cells w) ≡ Some w → key_as (argument_of cells w) ≡ key_of cells w
key_as_is cells (ObjectCell c) e = cell_key_as c (content_at cells c)
key_as_is cells (BigInt c) e = absurd (big_is_none c (content_at cells c) e)
key_as_is cells _ e = refl

-- one owned word is all that goes first
pub first_owned : (l : Ledger) (w : Word) → is_owned (contents.word_of w) l ≡ true → AreOwned (contents.word_of w ∷ []) l
first_owned l w owned = owned_push l [] (w ∷ []) w refl (λ c. omega arith) owned

-- ---- arguments
module _ (s : MachineState) (code : Code) where
  abbrev dict_parameter : Parameter
  dict_parameter = Borrows (Is Object) ADict

  abbrev pub key : Parameter
  key = Steals (Is Object) AKey

  abbrev kind_fault : Next
  kind_fault = faulted true s fault.Kind

  abbrev dict_found : Option CArg → Result (ℕ × List (machine.Word × machine.Word)) Fault
  dict_found a = dict_at s.cells s.top.vars a

  abbrev cell : ℕ × List (machine.Word × machine.Word) → Argument
  cell q = Cell q.0 (DictCell q.1)

  -- what is done with all arguments
  abbrev acts : Option ℕ → DictPrim → List Argument → Ledger → Next
  acts target p all l = applied true s target l (stolen (row_of (prim.Dict p)).parameters all) (effect code s (prim.Dict p) all)

  -- a last argument that is stolen behind another, which left this ledger
  last_taken : (args : List CArg) (a : CArg) (alone : Bool) (earlier : List Argument) (l : Ledger) (go : List Argument → Ledger → Next) (r : Result Word Fault) → slice_get args 0 ≡ Some a → alone ≡ eqb (length args) 1 → ((to : Argument → Ledger → Next) → if_argument true s code object a earlier l to ≡ taken_or r l s to) → if_arguments true s code (object ∷ []) args earlier l go ≡ taken_or r l s (λ x k. cond alone (go (x ∷ []) k) kind_fault)
  last_taken [] a alone earlier l go r e is passed = absurd (cc)
  last_taken (b ∷ []) a alone earlier l go r e is passed =
      let same : b ≡ a = cc in
      let yes : alone ≡ true = is ∙ grind (arith, nat_tests) in
      ap (λ d. if_arguments true s code (object ∷ []) (d ∷ []) earlier l go) same
      ∙ passed (λ x k. go (x ∷ []) k)
      ∙ ap (λ t. taken_or r l s (λ x k. cond t (go (x ∷ []) k) kind_fault)) (sym yes)
  last_taken (b ∷ c ∷ args) a alone earlier l go r e is passed =
      let same : b ≡ a = cc in
      let other : alone ≡ false = is ∙ grind (arith, nat_tests) in
      ap (λ d. if_arguments true s code (object ∷ []) (d ∷ c ∷ args) earlier l go) same
      ∙ passed (λ x k. kind_fault)
      ∙ ap (λ t. taken_or r l s (λ x k. cond t (go (x ∷ []) k) kind_fault)) (sym other)

  -- ---- the key and the word that are stolen
  abbrev pub StolenAs : Parameter → CArg → Result Word Fault → Type 0
  StolenAs p a r = (earlier : List Argument) (to : Argument → Ledger → Next) → if_argument true s code p a earlier s.top.ledger to ≡ stolen_or r s to

  abbrev pub TakenAs : Ledger → CArg → Result Word Fault → Type 0
  TakenAs l a r = (earlier : List Argument) (to : Argument → Ledger → Next) → if_argument true s code object a earlier l to ≡ taken_or r l s to

  module _ (earlier : List Argument) (go : List Argument → Ledger → Next) where
    abbrev steps : List CArg → Next
    steps args = if_arguments true s code entry_parameters (drop 1 args) earlier s.top.ledger go

    -- what comes behind a key
    abbrev behind : List CArg → Argument → Ledger → Next
    behind rest x l = if_arguments true s code (object ∷ []) rest (earlier ++ x ∷ []) l (λ others. go (x ∷ others))

    pub no_key : (args : List CArg) → slice_get args 1 ≡ None → steps args ≡ Ends (Faulted fault.Kind) s
    no_key [] none = refl
    no_key (a ∷ []) none = refl
    no_key (a ∷ b ∷ args) none = absurd (cc)

    pub key_refused : (args : List CArg) (a : CArg) (r : Result Word Fault) (why : Fault) → slice_get args 1 ≡ Some a → StolenAs key a r → r ≡ Err why → steps args ≡ Ends (Faulted why) s
    key_refused [] a r why is passed failed = absurd (cc)
    key_refused (b ∷ []) a r why is passed failed = absurd (cc)
    key_refused (b ∷ c ∷ args) a r why is passed failed =
        let same : c ≡ a = cc in
        ap (λ d. steps (b ∷ d ∷ args)) same ∙ passed earlier (behind args) ∙ ap (λ q. stolen_or q s (behind args)) failed

    module _ (k : Word) where
      abbrev k_left : Ledger
      k_left = left_by (contents.word_of k) s.top.ledger

      abbrev k_argument : Argument
      k_argument = argument_of s.cells (contents.word_of k)

      key_taken : (b c : CArg) (args : List CArg) (a : CArg) (r : Result Word Fault) → c ≡ a → StolenAs key a r → r ≡ Ok k → steps (b ∷ c ∷ args) ≡ behind args k_argument k_left
      key_taken b c args a r same passed stole =
          ap (λ d. steps (b ∷ d ∷ args)) same ∙ passed earlier (behind args) ∙ ap (λ q. stolen_or q s (behind args)) stole

      pub no_value : (args : List CArg) (a : CArg) (r : Result Word Fault) → slice_get args 1 ≡ Some a → StolenAs key a r → r ≡ Ok k → slice_get args 2 ≡ None → steps args ≡ Ends (Faulted fault.Kind) s
      no_value [] a r is passed stole none = absurd (cc)
      no_value (b ∷ []) a r is passed stole none = absurd (cc)
      no_value (b ∷ c ∷ []) a r is passed stole none = key_taken b c [] a r (cc) passed stole
      no_value (b ∷ c ∷ d ∷ args) a r is passed stole none = absurd (cc)

      both_called : (args : List CArg) (a d : CArg) (r t : Result Word Fault) (alone : Bool) → slice_get args 1 ≡ Some a → StolenAs key a r → r ≡ Ok k → slice_get args 2 ≡ Some d → TakenAs k_left d t → alone ≡ eqb (length args) 3 → steps args ≡ taken_or t k_left s (λ x l. cond alone (go (k_argument ∷ x ∷ []) l) kind_fault)
      both_called [] a d r t alone is passed stole last taken number = absurd (cc)
      both_called (b ∷ []) a d r t alone is passed stole last taken number = absurd (cc)
      both_called (b ∷ c ∷ args) a d r t alone is passed stole last taken number =
          let one : alone ≡ eqb (length args) 1 = number ∙ grind (arith, nat_tests) in
          key_taken b c args a r (cc) passed stole
          ∙ last_taken args d alone (earlier ++ k_argument ∷ []) k_left (λ others. go (k_argument ∷ others)) t last one (taken (earlier ++ k_argument ∷ []))

      pub value_refused : (args : List CArg) (a d : CArg) (r t : Result Word Fault) (why : Fault) → slice_get args 1 ≡ Some a → StolenAs key a r → r ≡ Ok k → slice_get args 2 ≡ Some d → TakenAs k_left d t → t ≡ Err why → steps args ≡ Ends (Faulted why) s
      value_refused args a d r t why is passed stole last taken failed =
          both_called args a d r t (eqb (length args) 3) is passed stole last taken refl
          ∙ ap (λ q. taken_or q k_left s (λ x l. cond (eqb (length args) 3) (go (k_argument ∷ x ∷ []) l) kind_fault)) failed

      pub entry_crowded : (args : List CArg) (a d : CArg) (r t : Result Word Fault) (w : Word) → slice_get args 1 ≡ Some a → StolenAs key a r → r ≡ Ok k → slice_get args 2 ≡ Some d → TakenAs k_left d t → t ≡ Ok w → false ≡ eqb (length args) 3 → steps args ≡ Ends (Faulted fault.Kind) s
      entry_crowded args a d r t w is passed stole last taken took number =
          both_called args a d r t false is passed stole last taken number
          ∙ ap (λ q. taken_or q k_left s (λ x l. kind_fault)) took

      pub entry_is : (args : List CArg) (a d : CArg) (r t : Result Word Fault) (w : Word) → slice_get args 1 ≡ Some a → StolenAs key a r → r ≡ Ok k → slice_get args 2 ≡ Some d → TakenAs k_left d t → t ≡ Ok w → true ≡ eqb (length args) 3 → steps args ≡ both_taken_or (Ok (k, w)) s go
      entry_is args a d r t w is passed stole last taken took number =
          both_called args a d r t true is passed stole last taken number
          ∙ ap (λ q. taken_or q k_left s (λ x l. go (k_argument ∷ x ∷ []) l)) took

  -- ---- a write
  abbrev writes : Option ℕ → List CArg → Next
  writes target args = primitive_step true s code target args (prim.Dict dict.SetItem)

  dict_first : (a : CArg) (args : List CArg) (go : List Argument → Ledger → Next) → if_arguments true s code (dict_parameter ∷ entry_parameters) (a ∷ args) [] s.top.ledger go ≡ found s (dict_found (Some a)) (λ q. if_arguments true s code entry_parameters args (cell q ∷ []) s.top.ledger (λ others. go (cell q ∷ others)))
  dict_first a args go =
      (dict_finds s).argument code a [] s.top.ledger (λ x r. if_arguments true s code entry_parameters args (x ∷ []) r (λ others. go (x ∷ others))) (λ q. if_arguments true s code entry_parameters args (cell q ∷ []) s.top.ledger (λ others. go (cell q ∷ others)))
      (λ b q e. ap (λ x. if_arguments true s code entry_parameters args (x ∷ []) s.top.ledger (λ others. go (x ∷ others))) e)

  pub set_undicted : (target : Option ℕ) (args : List CArg) (why : Fault) → dict_found (slice_get args 0) ≡ Err why → writes target args ≡ Ends (Faulted why) s
  set_undicted target [] why e = ap (λ r. found s r (λ q. kind_fault)) e
  set_undicted target (a ∷ args) why e =
      dict_first a args (acts target dict.SetItem)
      ∙ ap (λ r. found s r (λ q. if_arguments true s code entry_parameters args (cell q ∷ []) s.top.ledger (λ others. acts target dict.SetItem (cell q ∷ others)))) e

  module _ (target : Option ℕ) (d : Key) (pairs : List (machine.Word × machine.Word)) where
    abbrev dicted : ℕ × List (machine.Word × machine.Word)
    dicted = (number_of d, pairs)

    abbrev ends : List Argument → Ledger → Next
    ends others = acts target dict.SetItem (cell dicted ∷ others)

    set_called : (args : List CArg) (r : Result (Word × Word) Fault) → dict_found (slice_get args 0) ≡ Ok dicted → ((earlier : List Argument) (go : List Argument → Ledger → Next) → if_arguments true s code entry_parameters (drop 1 args) earlier s.top.ledger go ≡ both_taken_or r s go) → writes target args ≡ both_taken_or r s ends
    set_called [] r e both = absurd (no_fault _ dicted refl e)
    set_called (a ∷ args) r e both =
        dict_first a args (acts target dict.SetItem)
        ∙ ap (λ p. found s p (λ q. if_arguments true s code entry_parameters args (cell q ∷ []) s.top.ledger (λ others. acts target dict.SetItem (cell q ∷ others)))) e
        ∙ both (cell dicted ∷ []) ends

    pub set_refused : (args : List CArg) (r : Result (Word × Word) Fault) (why : Fault) → dict_found (slice_get args 0) ≡ Ok dicted → ((earlier : List Argument) (go : List Argument → Ledger → Next) → if_arguments true s code entry_parameters (drop 1 args) earlier s.top.ledger go ≡ both_taken_or r s go) → r ≡ Err why → writes target args ≡ Ends (Faulted why) s
    set_refused args r why e both failed = set_called args r e both ∙ ap (λ p. both_taken_or p s ends) failed

    -- what was stolen is no part of what is written
    pair_set : (l : Ledger) (gone : List ℕ) (o : Option (machine.Word × machine.Word)) (f : machine.Word × machine.Word → Content) (up : machine.Word × machine.Word → List ℕ) → applied true s target l gone (of_pair (λ p. Changes (number_of d) (f p) NoneObject (up p)) o) ≡ applied true s target l [] (of_pair (λ p. Changes (number_of d) (f p) NoneObject (up p)) o)
    pair_set l gone None f up = refl
    pair_set l gone (Some p) f up = refl

    no_part : (l : Ledger) (gone : List ℕ) (place : Option ℕ) (k w : machine.Word) → applied true s target l gone (entry_set (number_of d) place pairs k w) ≡ applied true s target l [] (entry_set (number_of d) place pairs k w)
    no_part l gone None k w = refl
    no_part l gone (Some i) k w =
        pair_set l gone (slice_get pairs i) (λ p. DictCell (slice_set pairs i (p.0, w))) (λ p. refs_of k ++ refs_of p.1)

    pub set_is : (args : List CArg) (r : Result (Word × Word) Fault) (k w : Word) (place : Option ℕ) → dict_found (slice_get args 0) ≡ Ok dicted → ((earlier : List Argument) (go : List Argument → Ledger → Next) → if_arguments true s code entry_parameters (drop 1 args) earlier s.top.ledger go ≡ both_taken_or r s go) → r ≡ Ok (k, w) → HoldsEntry s.cells (contents.word_of k) (contents.word_of w) → place ≡ place_for s.cells (key_of s.cells (contents.word_of k)) (pairs_at s.cells (number_of d)) → writes target args ≡ entry_put target d place k w s
    set_is args r k w place e both took holds place_is =
        let u = contents.word_of k in
        let v = contents.word_of w in
        let c = number_of d in
        let all : List Argument = cell dicted ∷ argument_of s.cells u ∷ argument_of s.cells v ∷ [] in
        let l = left_by v (left_by u s.top.ledger) in
        let gone = stolen (row_of (prim.Dict dict.SetItem)).parameters all in
        let does : keys.Key → Option ℕ → Effect = λ j p. entry_set c p pairs u v in
        set_called args r e both
        ∙ ap (λ p. both_taken_or p s ends) took
        ∙ ap (λ o. applied true s target l gone (of_key (λ j. of_word (λ x. of_word (entry_set c (key_place s.cells j pairs) pairs x) (word_in Object (argument_of s.cells v))) (word_in Object (argument_of s.cells u))) o)) (key_as_is s.cells u holds.key_word)
        ∙ ap (λ o. applied true s target l gone (of_key (λ j. of_word (λ x. of_word (entry_set c (key_place s.cells j pairs) pairs x) (word_in Object (argument_of s.cells v))) o) (key_of s.cells u))) holds.key_word
        ∙ ap (λ o. applied true s target l gone (of_key (λ j. of_word (entry_set c (key_place s.cells j pairs) pairs u) o) (key_of s.cells u))) holds.word
        ∙ ap (applied true s target l gone) (placed s.cells u holds.key.key pairs (pairs_at s.cells c) place does holds.key.is_key place_is (pairs_are s.cells s.top.vars (slice_get args 0) dicted e))
        ∙ no_part l gone place u v
        ∙ ap (λ ps. applied true s target l [] (entry_set c place ps u v)) (sym (pairs_are s.cells s.top.vars (slice_get args 0) dicted e))

  -- ---- a pair that is taken out
  abbrev cuts : Option ℕ → (ℕ × List (machine.Word × machine.Word)) × machine.Word → Next
  cuts target q = applied true s target s.top.ledger [] (of_key (λ k. entry_cut q.0.0 k (key_place s.cells k q.0.1) q.0.1) (key_of s.cells q.1))

  delete_called : (target : Option ℕ) (args : List CArg) → primitive_step true s code target args (prim.Dict dict.DelItem) ≡ found s (dict_and_key s.cells s.top.vars args) (cuts target)
  delete_called target args =
      two_of s (dict_finds s) (key_finds s) code args s.top.ledger (acts target dict.DelItem) (cuts target)
      (λ b c q w e g. ap (λ x. acts target dict.DelItem (x ∷ c ∷ []) s.top.ledger) e ∙ ap (λ o. applied true s target s.top.ledger [] (of_key (λ k. entry_cut q.0 k (key_place s.cells k q.1) q.1) o)) g)

  pub delete_refused : (target : Option ℕ) (args : List CArg) (why : Fault) → dict_and_key s.cells s.top.vars args ≡ Err why → primitive_step true s code target args (prim.Dict dict.DelItem) ≡ Ends (Faulted why) s
  delete_refused target args why e = delete_called target args ∙ ap (λ r. found s r (cuts target)) e

  module _ (target : Option ℕ) (args : List CArg) (d : Key) (w : Word) (e : dict_and_key s.cells s.top.vars args ≡ Ok ((number_of d, pairs_at s.cells (number_of d)), contents.word_of w)) (place : Option ℕ) (place_is : place ≡ place_for s.cells (key_of s.cells (contents.word_of w)) (pairs_at s.cells (number_of d))) where
    abbrev there : HoldsKey s.cells (contents.word_of w)
    there = key_there s.cells s.top.vars args ((number_of d, pairs_at s.cells (number_of d)), contents.word_of w) e

    delete_is : primitive_step true s code target args (prim.Dict dict.DelItem) ≡ applied true s target s.top.ledger [] (entry_cut (number_of d) there.key place (pairs_at s.cells (number_of d)))
    delete_is =
        let pairs = pairs_at s.cells (number_of d) in
        delete_called target args
        ∙ ap (λ r. found s r (cuts target)) e
        ∙ ap (applied true s target s.top.ledger []) (placed s.cells (contents.word_of w) there.key pairs pairs place (λ k p. entry_cut (number_of d) k p pairs) there.is_key place_is refl)

    -- there is no such key
    pub delete_fails : (text : List ℕ) → place ≡ None → text ≡ shown (key_of s.cells (contents.word_of w)) → primitive_step true s code target args (prim.Dict dict.DelItem) ≡ applied true s target s.top.ledger [] (Fails (CharWord 2) (thrown KeyError text))
    delete_fails text none text_is =
        delete_is
        ∙ ap (λ p. applied true s target s.top.ledger [] (entry_cut (number_of d) there.key p (pairs_at s.cells (number_of d)))) none
        ∙ ap (λ t. applied true s target s.top.ledger [] (Fails (CharWord 2) (thrown KeyError t))) (sym (text_is ∙ ap shown there.is_key))

    -- its pair is taken out
    pub delete_takes : (i : ℕ) → place ≡ Some i → primitive_step true s code target args (prim.Dict dict.DelItem) ≡ entry_taken target d i s
    delete_takes i some =
        delete_is ∙ ap (λ p. applied true s target s.top.ledger [] (entry_cut (number_of d) there.key p (pairs_at s.cells (number_of d)))) some

  -- ---- a new dict has no argument
  pub new_crowded : (target : Option ℕ) (args : List CArg) → eqb (length args) 0 ≡ false → primitive_step true s code target args (prim.Dict dict.New) ≡ Ends (Faulted fault.Kind) s
  new_crowded target [] e = absurd (grind (arith, nat_tests, e))
  new_crowded target (a ∷ args) e = refl

  no_argument : (args : List CArg) → eqb (length args) 0 ≡ true → args ≡ []
  no_argument [] e = refl
  no_argument (a ∷ args) e = absurd (grind (arith, nat_tests, e))

  new_is : (target : Option ℕ) (args : List CArg) → eqb (length args) 0 ≡ true → primitive_step true s code target args (prim.Dict dict.New) ≡ applied true s target s.top.ledger [] (Makes (DictCell []))
  new_is target args e = ap (λ a. primitive_step true s code target a (prim.Dict dict.New)) (no_argument args e)

-- the same for what a call answers
pub makes_dict : {E : Type 0} (old new : Seen) (target : Option ℕ) (args : List CArg) (pairs : List (machine.Word × machine.Word)) (r : Result (Option Ending) E) → eqb (length args) 0 ≡ true → pairs ≡ [] → IfOk r (λ ending. (rest : Rest) → applied true (state_of rest old) target old.top.ledger [] (Makes (DictCell pairs)) ≡ next_of ending (state_of (record rest { made = noted (DictCell pairs) (length old.cells) rest.made }) new)) → IfOk r (λ ending. (code : Code) → Leads (λ s. primitive_step true s code target args (prim.Dict dict.New)) ending old new)
makes_dict old new target args pairs (Ok ending) none empty h = λ code rest.
    let s = state_of rest old in (
      noted (DictCell pairs) (length old.cells) rest.made,
      new_is s code target args none ∙ ap (λ all. applied true s target s.top.ledger [] (Makes (DictCell all))) (sym empty) ∙ h rest,
    )
makes_dict old new target args pairs (Err failed) none empty h = tt

-- ---- a dict that changes
-- what two words leave of a ledger
both_lost : (old : Seen) (k w : machine.Word) (mid owner : Frame) → mid ≡ record old.top { ledger = left_by k old.top.ledger } → owner ≡ record mid { ledger = left_by w mid.ledger } → owner ≡ record old.top { ledger = left_by w (left_by k old.top.ledger) }
both_lost old k w mid owner mid_is owner_is =
    owner_is ∙ ap (λ (f : Frame). record f { ledger = left_by w f.ledger }) mid_is

-- a pair goes behind the others
pub entry_added : (rest : Rest) (old : Seen) (target : Option ℕ) (d : Key) (k w : Word) (cells : Cells Content) (mid owner top : Frame) → HoldsDict old.cells (number_of d) → cells ≡ refill_by (with_pair (contents.word_of k, contents.word_of w)) (number_of d) old.cells → mid ≡ record old.top { ledger = left_by (contents.word_of k) old.top.ledger } → owner ≡ record mid { ledger = left_by (contents.word_of w) mid.ledger } → top ≡ with_target target heap.PyNone owner → entry_put target d None k w (state_of rest old) ≡ Goes (state_of rest (record old { cells = cells; top = record top { place = top.place + 1 } }))
entry_added rest old target d k w cells mid owner top e cells_is mid_is owner_is top_is =
    let c = number_of d in
    let u = contents.word_of k in
    let v = contents.word_of w in
    changed rest old target c (DictCell (pairs_at old.cells c ++ (u, v) ∷ [])) heap.PyNone (left_by v (left_by u old.top.ledger)) [] [] cells cells owner top
    (cells_is ∙ refill-there (with_pair (u, v)) c old.cells (DictCell (pairs_at old.cells c)) e) (sym (release-nothing refs_in cells)) (both_lost old u v mid owner mid_is owner_is) top_is

-- a pair that is there
pair_there : {X : Type 0} (xs : List X) (i : ℕ) → i < length xs → (x : X) × (slice_get xs i ≡ Some x)
pair_there [] i lt = absurd (omega (arith, lt))
pair_there (x ∷ xs) zero lt = (x, refl)
pair_there (x ∷ xs) (suc i) lt = pair_there xs i (omega (arith, lt))

set_over : (ps : List (machine.Word × machine.Word)) (i : ℕ) (p : machine.Word × machine.Word) (w : machine.Word) → slice_get ps i ≡ Some p → set_value ps i (Some w) ≡ slice_set ps i (p.0, w)
set_over [] i p w e = absurd (cc)
set_over (q ∷ ps) zero p w e =
    let same : q ≡ p = cc in ap (λ (r : machine.Word × machine.Word). (r.0, w) ∷ ps) same
set_over (q ∷ ps) (suc i) p w e = ap (λ rest. q ∷ rest) (set_over ps i p w e)

-- a value is written over
pub value_put : (rest : Rest) (old : Seen) (target : Option ℕ) (d : Key) (place : ℕ) (k w : Word) (stood : Option Word) (filled first cells : Cells Content) (mid owner top : Frame) → HoldsDict old.cells (number_of d) → place < length (pairs_at old.cells (number_of d)) → option_map contents.word_of stood ≡ words.word_at old.cells (number_of d) place → filled ≡ refill_by (with_word place (Some (contents.word_of w))) (number_of d) old.cells → first ≡ release refs_in filled (set_refs (held_of (Some k) ∷ [])) → cells ≡ release refs_in first (set_refs (held_of stood ∷ [])) → mid ≡ record old.top { ledger = left_by (contents.word_of k) old.top.ledger } → owner ≡ record mid { ledger = left_by (contents.word_of w) mid.ledger } → top ≡ with_target target heap.PyNone owner → entry_put target d (Some place) k w (state_of rest old) ≡ Goes (state_of rest (record old { cells = cells; top = record top { place = top.place + 1 } }))
value_put rest old target d place k w stood filled first cells mid owner top e within stood_is filled_is first_is cells_is mid_is owner_is top_is =
    let c = number_of d in
    let u = contents.word_of k in
    let v = contents.word_of w in
    let pairs = pairs_at old.cells c in
    let l = left_by v (left_by u old.top.ledger) in
    let one = pair_there pairs place within in
    let was : held_of stood ≡ Some one.0.1 =
    stood_is ∙ ap (option_and_then (words.word_in place)) e ∙ ap (option_map (λ p. p.1)) one.1 in
    ap (λ o. applied true (state_of rest old) target l [] (of_pair (λ p. Changes c (DictCell (slice_set pairs place (p.0, v))) NoneObject (refs_of u ++ refs_of p.1)) o)) one.1
    ∙ changed rest old target c (DictCell (slice_set pairs place (one.0.0, v))) heap.PyNone l (refs_of u ++ refs_of one.0.1) [] filled cells owner top
    (filled_is ∙ refill-there (with_word place (Some v)) c old.cells (DictCell pairs) e ∙ ap (λ ps. refill (DictCell ps) c old.cells) (set_over pairs place one.0 v one.1))
    (given_both filled first cells (Some k) stood u one.0.1 refl was first_is cells_is)
    (both_lost old u v mid owner mid_is owner_is) top_is

-- a pair is taken out
pub pair_out : (rest : Rest) (old : Seen) (target : Option ℕ) (d : Key) (place : ℕ) (k w answer : Word) (filled first cells : Cells Content) (top : Frame) → HoldsDict old.cells (number_of d) → contents.word_of answer ≡ CharWord 1 → Some (contents.word_of k, contents.word_of w) ≡ pair_at old.cells (number_of d) place → filled ≡ refill_by (without_pair place) (number_of d) old.cells → first ≡ release refs_in filled (set_refs (held_of (Some k) ∷ [])) → cells ≡ release refs_in first (set_refs (held_of (Some w) ∷ [])) → top ≡ with_target target answer old.top → entry_taken target d place (state_of rest old) ≡ Goes (state_of rest (record old { cells = cells; top = record top { place = top.place + 1 } }))
pair_out rest old target d place k w answer filled first cells top e is_one pair_is filled_is first_is cells_is top_is =
    let c = number_of d in
    let u = contents.word_of k in
    let v = contents.word_of w in
    let pairs = pairs_at old.cells c in
    let left : Content = DictCell (take place pairs ++ drop (place + 1) pairs) in
    let same : old.top ≡ record old.top { ledger = more_of (refs_of (contents.word_of answer)) old.top.ledger } =
    ap (λ x. record old.top { ledger = more_of (refs_of x) old.top.ledger }) (sym is_one) in
    ap (λ o. applied true (state_of rest old) target old.top.ledger [] (of_pair (λ p. Changes c left (CharWord 1) (refs_of p.0 ++ refs_of p.1)) o)) (sym (pair_is ∙ ap (option_and_then (pair_in place)) e))
    ∙ ap (λ x. applied true (state_of rest old) target old.top.ledger [] (Changes c left x (refs_of u ++ refs_of v))) (sym is_one)
    ∙ changed rest old target c left answer old.top.ledger (refs_of u ++ refs_of v) [] filled cells old.top top
    (filled_is ∙ refill-there (without_pair place) c old.cells (DictCell pairs) e)
    (given_both filled first cells (Some k) (Some w) u v refl refl first_is cells_is) same top_is

-- there is a pair at the place
pub pair_is_there : (old : Seen) (d : Key) (place : ℕ) → HoldsDict old.cells (number_of d) → place < length (pairs_at old.cells (number_of d)) → None ≡ pair_at old.cells (number_of d) place → ⊥
pair_is_there old d place e within none =
    some_item (pairs_at old.cells (number_of d)) place within (sym (none ∙ ap (option_and_then (pair_in place)) e))
