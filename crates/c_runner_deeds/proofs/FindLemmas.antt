-- What the machine finds in the arguments of a primitive: by each kind of parameter, and by all arguments of a row with one or two of them.
use Rattle.std.proofs.Common.{◌≡◌, refl, sym, ap, subst, ◌∙◌, ℕ, arith, Bool, true, false, cond, List, [], ◌∷◌, length, Option, Some, None}
use Rattle.std.specs.Prelude.{ℤ, nat_lt, is_some, map, slice_get, Result, Ok, Err, MatchResult}
use Rattle.std.specs.Option.{option_flatten, option_and_then}
use Rattle.std.proofs.lemmas.Bool.Decides.{nat_tests}
use Rattle.c_core.specs.Arguments.{key_as, Argument, Cell, Plain, Written, is_value_of, is_holding, int_in}
use Rattle.c_core.specs.Keys.{key_in, key_of}
use Rattle.c_core.specs.Machine.{DictCell, Word, ShortInt, BigInt, ObjectCell, NoneObject, TrueObject, FalseObject, Content, IntCell, StrCell, ListCell, TupleCell, InstCell, MachineState}
use Rattle.c_core.specs.Primitives.{ADict, AKey, Holding, Anything, ANumber, AText, AList, ATuple, AnInstance, Parameter, Borrows, TakesNumber, TakesPlace, Is, may_end}
use Rattle.c_runner_deeds.specs.Objects.{pairs_in, dict_at, key_held, key_word, key_argument, word_at, number_in, items_in, parts_in, instance_in, or_kind, held, beside, object_of, boxed_at, list_at, tuple_at, instance_at, any_of, any_at, written_number}
use Rattle.value_core.specs.Items.{Eof}
use Rattle.c_core.specs.declared.code.CArg.{CArg}
use Rattle.c_core.specs.declared.code.CArg.TheVariants as arg
use Rattle.c_core.specs.declared.code.Code.{Code}
use Rattle.c_core.specs.declared.code.Kind.TheVariants.{Tagged, Object}
use Rattle.c_core.specs.declared.fault.Fault.{Fault}
use Rattle.c_core.specs.declared.fault.Fault.TheVariants as fault
use Rattle.c_core.specs.Cells.{content_at}
use Rattle.c_core.specs.Ledgers.{Ledger}
use Rattle.c_core.specs.Step.{Next, Goes, Ends, Faulted, if_some, if_true, if_there, if_variable, if_argument, if_arguments, faulted}
use Rattle.c_runner_deeds.specs.Deeds.{int_held, int_of, int_at, text_held, text_of, text_at, alone, paired}
use Rattle.c_runner_deeds.specs.Parts as parts
use Rattle.c_runner_deeds.specs.Parts.{cell_argument, argument_of, passed_on}
use Rattle.c_runner_deeds.specs.States.{Seen, Rest, first_rest, state_of}
use Rattle.cell_heap.specs.declared.word.Word as heap
use Rattle.cell_heap.specs.Contents as contents

-- ---- what is found in an argument
-- a number that is an `int`, a text, and what the cell of an object holds, with its number
abbrev pub IsInt : Argument → ℤ → Type 0
IsInt b n = int_in b ≡ Some n

abbrev pub IsText : Argument → List ℕ → Type 0
IsText b t = (c : ℕ) × (b ≡ Cell c (StrCell t))

abbrev IsCell : {A : Type 0} → (A → Content) → Argument → ℕ × A → Type 0
IsCell make b q = b ≡ Cell q.0 (make q.1)

abbrev pub IsBoxed : Argument → ℕ × ℤ → Type 0
IsBoxed b q = b ≡ Cell q.0 (IntCell q.1)

abbrev pub IsList : Argument → ℕ × List Word → Type 0
IsList b q = b ≡ Cell q.0 (ListCell q.1)

abbrev pub IsDict : Argument → ℕ × List (Word × Word) → Type 0
IsDict b q = b ≡ Cell q.0 (DictCell q.1)

abbrev pub IsTuple : Argument → ℕ × List Word → Type 0
IsTuple b q = b ≡ Cell q.0 (TupleCell q.1)

abbrev pub IsInstance : Argument → ℕ × (ℕ × List (Option Word)) → Type 0
IsInstance b q = b ≡ Cell q.0 (InstCell q.1.0 q.1.1)

abbrev pub IsNumber : Argument → ℤ → Type 0
IsNumber b n = b ≡ Written (arg.Number n)

-- what is asked for of the cell of an object: what of its content is taken, and which content that makes
record Picks {A : Type 0} (h : Holding) (pick : Content → Option A) (make : A → Content) : Type 0 where
  cell : (c : ℕ) (content : Content) → is_holding h (Cell c content) ≡ is_some (pick content)
  made : (content : Content) (a : A) → pick content ≡ Some a → content ≡ make a
  none_object : is_holding h (Plain NoneObject) ≡ false
  true_object : is_holding h (Plain TrueObject) ≡ false
  false_object : is_holding h (Plain FalseObject) ≡ false

number_held : (c : ℕ) (content : Content) → is_holding ANumber (Cell c content) ≡ is_some (number_in content)
number_held c (IntCell n) = refl
number_held c _ = refl

number_made : (content : Content) (n : ℤ) → number_in content ≡ Some n → content ≡ IntCell n
number_made (IntCell m) n e = let same : m ≡ n = cc in ap IntCell same
number_made _ n e = absurd (cc)

items_held : (c : ℕ) (content : Content) → is_holding AList (Cell c content) ≡ is_some (items_in content)
items_held c (ListCell items) = refl
items_held c _ = refl

items_made : (content : Content) (items : List Word) → items_in content ≡ Some items → content ≡ ListCell items
items_made (ListCell others) items e = let same : others ≡ items = cc in ap ListCell same
items_made _ items e = absurd (cc)

entries_held : (c : ℕ) (content : Content) → is_holding ADict (Cell c content) ≡ is_some (pairs_in content)
entries_held c (DictCell pairs) = refl
entries_held c _ = refl

entries_made : (content : Content) (pairs : List (Word × Word)) → pairs_in content ≡ Some pairs → content ≡ DictCell pairs
entries_made (DictCell others) pairs e = let same : others ≡ pairs = cc in ap DictCell same
entries_made _ pairs e = absurd (cc)

parts_held : (c : ℕ) (content : Content) → is_holding ATuple (Cell c content) ≡ is_some (parts_in content)
parts_held c (TupleCell items) = refl
parts_held c _ = refl

parts_made : (content : Content) (items : List Word) → parts_in content ≡ Some items → content ≡ TupleCell items
parts_made (TupleCell others) items e = let same : others ≡ items = cc in ap TupleCell same
parts_made _ items e = absurd (cc)

abbrev instance : ℕ × List (Option Word) → Content
instance q = InstCell q.0 q.1

instance_held : (c : ℕ) (content : Content) → is_holding AnInstance (Cell c content) ≡ is_some (instance_in content)
instance_held c (InstCell class attributes) = refl
instance_held c _ = refl

instance_made : (content : Content) (q : ℕ × List (Option Word)) → instance_in content ≡ Some q → content ≡ instance q
instance_made (InstCell class attributes) q e = let same : (class, attributes) ≡ q = cc in ap instance same
instance_made _ q e = absurd (cc)

picks_number : Picks ANumber number_in IntCell
picks_number = record { cell = number_held; made = number_made; none_object = refl; true_object = refl; false_object = refl }

picks_items : Picks AList items_in ListCell
picks_items = record { cell = items_held; made = items_made; none_object = refl; true_object = refl; false_object = refl }

picks_pairs : Picks ADict pairs_in DictCell
picks_pairs = record { cell = entries_held; made = entries_made; none_object = refl; true_object = refl; false_object = refl }

picks_parts : Picks ATuple parts_in TupleCell
picks_parts = record { cell = parts_held; made = parts_made; none_object = refl; true_object = refl; false_object = refl }

picks_instance : Picks AnInstance instance_in instance
picks_instance = record { cell = instance_held; made = instance_made; none_object = refl; true_object = refl; false_object = refl }

module _ (s : MachineState) where
  abbrev pub kind_fault : Next
  kind_fault = faulted true s fault.Kind

  -- the run goes on with what was found, or faults
  abbrev pub found : {A : Type 0} → Result A Fault → (A → Next) → Next
  found (Ok a) go = go a
  found (Err why) go = Ends (Faulted why) s

  -- the argument of a parameter is found so: the run goes on with what it gives, or faults
  pub record Finds {A : Type 0} (p : Parameter) (find : Option CArg → Result A Fault) (Means : Argument → A → Type 0) : Type 0 where
    pub needed : (ps : List Parameter) → may_end (p ∷ ps) ≡ false
    pub missing : find None ≡ Err fault.Kind
    pub argument : (code : Code) (a : CArg) (earlier : List Argument) (l : Ledger) (go : Argument → Ledger → Next) (f : A → Next) → ((b : Argument) (x : A) → Means b x → go b l ≡ f x) → if_argument true s code p a earlier l go ≡ found (find (Some a)) f

  -- ---- an `int`
  number_cell : (c : ℕ) (o : Option Content) (go : Argument → Next) (f : ℤ → Next) → ((a : Argument) (n : ℤ) → IsInt a n → go a ≡ f n) → if_some true s fault.Dead o (λ content. if_true true s (is_holding ANumber (Cell c content)) (go (Cell c content))) ≡ found (int_held o) f
  number_cell c (Some (IntCell n)) go f same = same (Cell c (IntCell n)) n refl
  number_cell c _ go f same = refl

  number_word : (o : Option Word) (go : Argument → Next) (f : ℤ → Next) → ((a : Argument) (n : ℤ) → IsInt a n → go a ≡ f n) → if_some true s fault.Kind o (λ w. if_true true s (is_value_of Tagged w) (if_there true s w (λ a. if_true true s (is_holding ANumber a) (go a)))) ≡ found (int_of s.cells o) f
  number_word (Some (ShortInt n)) go f same = same (Plain (ShortInt n)) n refl
  number_word (Some (BigInt c)) go f same = number_cell c (content_at s.cells c) go f same
  number_word _ go f same = refl

  number_found : (code : Code) (a : CArg) (earlier : List Argument) (l : Ledger) (go : Argument → Ledger → Next) (f : ℤ → Next) → ((b : Argument) (n : ℤ) → IsInt b n → go b l ≡ f n) → if_argument true s code (Borrows (Is Tagged) ANumber) a earlier l go ≡ found (int_at s.cells s.top.vars (Some a)) f
  number_found code (arg.Var x) earlier l go f same = number_word (slice_get s.top.vars x) (λ a. go a l) f same
  number_found code _ earlier l go f same = refl

  pub number_finds : Finds (Borrows (Is Tagged) ANumber) (int_at s.cells s.top.vars) IsInt
  number_finds = record { needed = λ ps. refl; missing = refl; argument = number_found }

  -- ---- a text
  text_cell : (c : ℕ) (o : Option Content) (go : Argument → Next) (f : List ℕ → Next) → ((a : Argument) (t : List ℕ) → IsText a t → go a ≡ f t) → if_some true s fault.Dead o (λ content. if_true true s (is_holding AText (Cell c content)) (go (Cell c content))) ≡ found (text_held o) f
  text_cell c (Some (StrCell t)) go f same = same (Cell c (StrCell t)) t (c, refl)
  text_cell c _ go f same = refl

  text_word : (o : Option Word) (go : Argument → Next) (f : List ℕ → Next) → ((a : Argument) (t : List ℕ) → IsText a t → go a ≡ f t) → if_some true s fault.Kind o (λ w. if_true true s (is_value_of Object w) (if_there true s w (λ a. if_true true s (is_holding AText a) (go a)))) ≡ found (text_of s.cells o) f
  text_word (Some (ObjectCell c)) go f same = text_cell c (content_at s.cells c) go f same
  text_word _ go f same = refl

  text_found : (code : Code) (a : CArg) (earlier : List Argument) (l : Ledger) (go : Argument → Ledger → Next) (f : List ℕ → Next) → ((b : Argument) (t : List ℕ) → IsText b t → go b l ≡ f t) → if_argument true s code (Borrows (Is Object) AText) a earlier l go ≡ found (text_at s.cells s.top.vars (Some a)) f
  text_found code (arg.Var x) earlier l go f same = text_word (slice_get s.top.vars x) (λ a. go a l) f same
  text_found code _ earlier l go f same = refl

  pub text_finds : Finds (Borrows (Is Object) AText) (text_at s.cells s.top.vars) IsText
  text_finds = record { needed = λ ps. refl; missing = refl; argument = text_found }

  -- ---- what the cell of an object holds
  module _ {A : Type 0} (h : Holding) (pick : Content → Option A) (make : A → Content) (picks : Picks h pick make) where
    picked : (c : ℕ) (content : Content) (b : Bool) (o : Option A) (go : Argument → Next) (f : ℕ × A → Next) → b ≡ is_some o → pick content ≡ o → ((a : A) → go (Cell c (make a)) ≡ f (c, a)) → if_true true s b (go (Cell c content)) ≡ found (beside c (or_kind o)) f
    picked c content b None go f e is same = ap (λ t. if_true true s t (go (Cell c content))) e
    picked c content b (Some a) go f e is same =
        ap (λ t. if_true true s t (go (Cell c content))) e ∙ ap (λ d. go (Cell c d)) (picks.made content a is) ∙ same a

    object_cell : (c : ℕ) (o : Option Content) (go : Argument → Next) (f : ℕ × A → Next) → ((a : A) → go (Cell c (make a)) ≡ f (c, a)) → if_some true s fault.Dead o (λ content. if_true true s (is_holding h (Cell c content)) (go (Cell c content))) ≡ found (beside c (held pick o)) f
    object_cell c None go f same = refl
    object_cell c (Some content) go f same = picked c content (is_holding h (Cell c content)) (pick content) go f (picks.cell c content) refl same

    object_word : (o : Option Word) (go : Argument → Next) (f : ℕ × A → Next) → ((c : ℕ) (a : A) → go (Cell c (make a)) ≡ f (c, a)) → if_some true s fault.Kind o (λ w. if_true true s (is_value_of Object w) (if_there true s w (λ a. if_true true s (is_holding h a) (go a)))) ≡ found (object_of pick s.cells o) f
    object_word (Some (ObjectCell c)) go f same = object_cell c (content_at s.cells c) go f (same c)
    object_word (Some NoneObject) go f same = ap (λ b. if_true true s b (go (Plain NoneObject))) picks.none_object
    object_word (Some TrueObject) go f same = ap (λ b. if_true true s b (go (Plain TrueObject))) picks.true_object
    object_word (Some FalseObject) go f same = ap (λ b. if_true true s b (go (Plain FalseObject))) picks.false_object
    object_word _ go f same = refl

    object_found : (code : Code) (a : CArg) (earlier : List Argument) (l : Ledger) (go : Argument → Ledger → Next) (f : ℕ × A → Next) → ((b : Argument) (q : ℕ × A) → IsCell make b q → go b l ≡ f q) → if_argument true s code (Borrows (Is Object) h) a earlier l go ≡ found (object_of pick s.cells (word_at s.top.vars (Some a))) f
    object_found code (arg.Var x) earlier l go f same = object_word (slice_get s.top.vars x) (λ a. go a l) f (λ c a. same (Cell c (make a)) (c, a) refl)
    object_found code _ earlier l go f same = refl

  pub boxed_finds : Finds (Borrows (Is Object) ANumber) (boxed_at s.cells s.top.vars) IsBoxed
  boxed_finds = record { needed = λ ps. refl; missing = refl; argument = object_found ANumber number_in IntCell picks_number }

  pub list_finds : Finds (Borrows (Is Object) AList) (list_at s.cells s.top.vars) IsList
  list_finds = record { needed = λ ps. refl; missing = refl; argument = object_found AList items_in ListCell picks_items }

  pub dict_finds : Finds (Borrows (Is Object) ADict) (dict_at s.cells s.top.vars) IsDict
  dict_finds = record { needed = λ ps. refl; missing = refl; argument = object_found ADict pairs_in DictCell picks_pairs }

  -- ---- a key
  abbrev pub IsKey : Argument → Word → Type 0
  IsKey b w = key_as b ≡ key_of s.cells w

  key_cell : (c : ℕ) (o : Option Content) (go : Argument → Next) (f : Word → Next) → ((content : Content) → o ≡ Some content → go (Cell c content) ≡ f (ObjectCell c)) → if_some true s fault.Dead o (λ content. if_true true s (is_holding AKey (Cell c content)) (go (Cell c content))) ≡ found (key_held c o) f
  key_cell c (Some (IntCell n)) go f same = same (IntCell n) refl
  key_cell c (Some (StrCell text)) go f same = same (StrCell text) refl
  key_cell c _ go f same = refl

  a_key : (o : Option Word) (go : Argument → Next) (f : Word → Next) → ((b : Argument) (w : Word) → IsKey b w → go b ≡ f w) → if_some true s fault.Kind o (λ w. if_true true s (is_value_of Object w) (if_there true s w (λ a. if_true true s (is_holding AKey a) (go a)))) ≡ found (key_word s.cells o) f
  a_key (Some (ObjectCell c)) go f same =
      key_cell c (content_at s.cells c) go f (λ content is. same (Cell c content) (ObjectCell c) (sym (ap (option_and_then key_in) is)))
  a_key (Some TrueObject) go f same = same (Plain TrueObject) TrueObject refl
  a_key (Some FalseObject) go f same = same (Plain FalseObject) FalseObject refl
  a_key _ go f same = refl

  key_found : (code : Code) (a : CArg) (earlier : List Argument) (l : Ledger) (go : Argument → Ledger → Next) (f : Word → Next) → ((b : Argument) (w : Word) → IsKey b w → go b l ≡ f w) → if_argument true s code (Borrows (Is Object) AKey) a earlier l go ≡ found (key_argument s.cells s.top.vars (Some a)) f
  key_found code (arg.Var x) earlier l go f same = a_key (slice_get s.top.vars x) (λ a. go a l) f same
  key_found code _ earlier l go f same = refl

  pub key_finds : Finds (Borrows (Is Object) AKey) (key_argument s.cells s.top.vars) IsKey
  key_finds = record { needed = λ ps. refl; missing = refl; argument = key_found }

  pub tuple_finds : Finds (Borrows (Is Object) ATuple) (tuple_at s.cells s.top.vars) IsTuple
  tuple_finds = record { needed = λ ps. refl; missing = refl; argument = object_found ATuple parts_in TupleCell picks_parts }

  pub instance_finds : Finds (Borrows (Is Object) AnInstance) (instance_at s.cells s.top.vars) IsInstance
  instance_finds = record { needed = λ ps. refl; missing = refl; argument = object_found AnInstance instance_in instance picks_instance }

  -- the same of a variable
  pub instance_variable : (x : ℕ) (go : Argument → Next) → if_variable true s Object AnInstance x go ≡ found (object_of instance_in s.cells (slice_get s.top.vars x)) (λ q. go (Cell q.0 (InstCell q.1.0 q.1.1)))
  instance_variable x go = object_word AnInstance instance_in instance picks_instance (slice_get s.top.vars x) go (λ q. go (Cell q.0 (InstCell q.1.0 q.1.1))) (λ c q. refl)

  -- ---- any object
  abbrev pub IsWord : Argument → Word → Type 0
  IsWord b w = b ≡ argument_of s.cells w

  any_cell : (c : ℕ) (o : Option Content) (go : Argument → Next) (f : Word → Next) → go (cell_argument c o) ≡ f (ObjectCell c) → if_some true s fault.Dead o (λ content. go (Cell c content)) ≡ found (cond (is_some o) (Ok (ObjectCell c)) (Err fault.Dead)) f
  any_cell c None go f same = refl
  any_cell c (Some content) go f same = same

  any_word : (o : Option Word) (go : Argument → Next) (f : Word → Next) → ((w : Word) → go (argument_of s.cells w) ≡ f w) → if_some true s fault.Kind o (λ w. if_true true s (is_value_of Object w) (if_there true s w go)) ≡ found (any_of s.cells o) f
  any_word (Some (ObjectCell c)) go f same = any_cell c (content_at s.cells c) go f (same (ObjectCell c))
  any_word (Some NoneObject) go f same = same NoneObject
  any_word (Some TrueObject) go f same = same TrueObject
  any_word (Some FalseObject) go f same = same FalseObject
  any_word _ go f same = refl

  any_found : (code : Code) (a : CArg) (earlier : List Argument) (l : Ledger) (go : Argument → Ledger → Next) (f : Word → Next) → ((b : Argument) (w : Word) → IsWord b w → go b l ≡ f w) → if_argument true s code (Borrows (Is Object) Anything) a earlier l go ≡ found (any_at s.cells s.top.vars (Some a)) f
  any_found code (arg.Var x) earlier l go f same = any_word (slice_get s.top.vars x) (λ a. go a l) f (λ w. same (argument_of s.cells w) w refl)
  any_found code _ earlier l go f same = refl

  pub any_finds : Finds (Borrows (Is Object) Anything) (any_at s.cells s.top.vars) IsWord
  any_finds = record { needed = λ ps. refl; missing = refl; argument = any_found }

  -- ---- a number that is written
  written_found : (code : Code) (a : CArg) (earlier : List Argument) (l : Ledger) (go : Argument → Ledger → Next) (f : ℤ → Next) → ((b : Argument) (n : ℤ) → IsNumber b n → go b l ≡ f n) → if_argument true s code TakesNumber a earlier l go ≡ found (written_number (Some a)) f
  written_found code (arg.Number n) earlier l go f same = same (Written (arg.Number n)) n refl
  written_found code _ earlier l go f same = refl

  pub written_finds : Finds TakesNumber written_number IsNumber
  written_finds = record { needed = λ ps. refl; missing = refl; argument = written_found }

  -- the number of a place that is written
  place_found : (code : Code) (a : CArg) (earlier : List Argument) (l : Ledger) (go : Argument → Ledger → Next) (f : ℤ → Next) → ((b : Argument) (n : ℤ) → IsNumber b n → go b l ≡ f n) → if_argument true s code TakesPlace a earlier l go ≡ found (written_number (Some a)) f
  place_found code (arg.Number n) earlier l go f same = same (Written (arg.Number n)) n refl
  place_found code _ earlier l go f same = refl

  pub place_finds : Finds TakesPlace written_number IsNumber
  place_finds = record { needed = λ ps. refl; missing = refl; argument = place_found }

  -- ---- one argument, and two
  alone_is : {A : Type 0} (r : Result A Fault) (f : A → Next) → found r f ≡ found (alone r 1) f
  alone_is (Ok a) f = refl
  alone_is (Err why) f = refl

  not_alone : {A : Type 0} (r : Result A Fault) (n : ℕ) (f : A → Next) → nat_lt 1 n ≡ true → found r (λ a. kind_fault) ≡ found (alone r n) f
  not_alone (Ok a) n f more = sym (ap (λ b. found (cond b (Err fault.Kind) (Ok a)) f) more)
  not_alone (Err why) n f more = refl

  first_only : {A B : Type 0} (r : Result A Fault) (n : ℕ) (f : A × B → Next) → found r (λ a. kind_fault) ≡ found (paired r (Err fault.Kind) n) f
  first_only (Ok a) n f = refl
  first_only (Err why) n f = refl

  both_are : {A B : Type 0} (r : Result A Fault) (q : Result B Fault) (f : A × B → Next) → found r (λ a. found q (λ b. f (a, b))) ≡ found (paired r q 2) f
  both_are (Ok a) (Ok b) f = refl
  both_are (Ok a) (Err why) f = refl
  both_are (Err why) q f = refl

  too_many : {A B : Type 0} (r : Result A Fault) (q : Result B Fault) (n : ℕ) (f : A × B → Next) → nat_lt 2 n ≡ true → found r (λ a. found q (λ b. kind_fault)) ≡ found (paired r q n) f
  too_many (Ok a) (Ok b) n f more = sym (ap (λ t. found (cond t (Err fault.Kind) (Ok (a, b))) f) more)
  too_many (Ok a) (Err why) n f more = refl
  too_many (Err why) q n f more = refl

  -- all arguments of a row with one parameter, and with two
  module _ {A : Type 0} {p : Parameter} {find : Option CArg → Result A Fault} {Means : Argument → A → Type 0} (finds : Finds p find Means) where
    pub one_of : (code : Code) (args : List CArg) (l : Ledger) (go : List Argument → Ledger → Next) (f : A → Next) → ((b : Argument) (x : A) → Means b x → go (b ∷ []) l ≡ f x) → if_arguments true s code (p ∷ []) args [] l go ≡ found (alone (find (slice_get args 0)) (length args)) f
    one_of code [] l go f same = ap (λ b. if_true true s b (go [] l)) (finds.needed []) ∙ sym (ap (λ r. found (alone r 0) f) finds.missing)
    one_of code (a ∷ []) l go f same = finds.argument code a [] l (λ b r. go (b ∷ []) r) f same ∙ alone_is (find (Some a)) f
    one_of code (a ∷ b ∷ more) l go f same =
        finds.argument code a [] l (λ c r. kind_fault) (λ x. kind_fault) (λ c x e. refl)
        ∙ not_alone (find (Some a)) (length (a ∷ b ∷ more)) f (grind (arith, nat_tests))

    module _ {B : Type 0} {q : Parameter} {seek : Option CArg → Result B Fault} {Has : Argument → B → Type 0} (seeks : Finds q seek Has) where
      pub two_of : (code : Code) (args : List CArg) (l : Ledger) (go : List Argument → Ledger → Next) (f : A × B → Next) → ((b c : Argument) (x : A) (y : B) → Means b x → Has c y → go (b ∷ c ∷ []) l ≡ f (x, y)) → if_arguments true s code (p ∷ q ∷ []) args [] l go ≡ found (paired (find (slice_get args 0)) (seek (slice_get args 1)) (length args)) f
      two_of code [] l go f same =
          ap (λ b. if_true true s b (go [] l)) (finds.needed (q ∷ [])) ∙ sym (ap (λ r. found (paired r (seek None) 0) f) finds.missing)
      two_of code (a ∷ []) l go f same =
          finds.argument code a [] l (λ b r. if_true true s (may_end (q ∷ [])) (go (b ∷ []) r)) (λ x. kind_fault)
          (λ b x e. ap (λ t. if_true true s t (go (b ∷ []) l)) (seeks.needed []))
          ∙ first_only (find (Some a)) 1 f
          ∙ sym (ap (λ r. found (paired (find (Some a)) r 1) f) seeks.missing)
      two_of code (a ∷ b ∷ []) l go f same =
          finds.argument code a [] l (λ c r. if_argument true s code q b (c ∷ []) r (λ d t. go (c ∷ d ∷ []) t)) (λ x. found (seek (Some b)) (λ y. f (x, y)))
          (λ c x e. seeks.argument code b (c ∷ []) l (λ d t. go (c ∷ d ∷ []) t) (λ y. f (x, y)) (λ d y g. same c d x y e g))
          ∙ both_are (find (Some a)) (seek (Some b)) f
      two_of code (a ∷ b ∷ c ∷ more) l go f same =
          finds.argument code a [] l (λ d r. if_argument true s code q b (d ∷ []) r (λ u t. kind_fault)) (λ x. found (seek (Some b)) (λ y. kind_fault))
          (λ d x e. seeks.argument code b (d ∷ []) l (λ u t. kind_fault) (λ y. kind_fault) (λ u y g. refl))
          ∙ too_many (find (Some a)) (seek (Some b)) (length (a ∷ b ∷ c ∷ more)) f (grind (arith, nat_tests))

  -- ---- an object that may be passed
  cell_passes : (c : ℕ) (o : Option Content) (go : Word → Next) → if_some true s fault.Dead o (λ content. go (ObjectCell c)) ≡ found (cond (is_some o) (Ok (ObjectCell c)) (Err fault.Dead)) go
  cell_passes c None go = refl
  cell_passes c (Some content) go = refl

  word_passes : (o : Option Word) (go : Word → Next) → if_some true s fault.Kind o (λ w. if_true true s (is_value_of Object w) (if_there true s w (λ b. go w))) ≡ found (any_of s.cells o) go
  word_passes (Some (ObjectCell c)) go = cell_passes c (content_at s.cells c) go
  word_passes _ go = refl

  object_passes : (a : CArg) (go : Word → Next) → parts.if_argument s Object a go ≡ found (any_at s.cells s.top.vars (Some a)) go
  object_passes (arg.Var x) go = word_passes (slice_get s.top.vars x) go
  object_passes _ go = refl

  -- what goes on alike with each word is the same word
  abbrev shown : Word → Next
  shown w = Goes (record s { globals = Some w ∷ [] })

  abbrev first_global : Next → Option Word
  first_global (Goes t) = option_flatten (slice_get t.globals 0)
  first_global (Ends e t) = None

  same_found : (r : Result Word Fault) (passed : Result heap.Word Fault) → ((go : Word → Next) → found r go ≡ passed_on passed s go) → MatchResult passed (λ w. r ≡ Ok (contents.word_of w)) (λ why. r ≡ Err why)
  same_found (Ok v) (Ok w) all =
      let alike : Some v ≡ Some (contents.word_of w) = ap first_global (all shown) in
      let same : v ≡ contents.word_of w = cc in
      ap Ok same
  same_found (Err why) (Err other) all =
      let alike : Ends (Faulted why) s ≡ Ends (Faulted other) s = all shown in
      let same : why ≡ other = cc in
      ap Err same
  same_found (Ok v) (Err why) all = let differ : shown v ≡ Ends (Faulted why) s = all shown in absurd (cc)
  same_found (Err why) (Ok w) all = let differ : Ends (Faulted why) s ≡ shown (contents.word_of w) = all shown in absurd (cc)

pub any_passed : (old : Seen) (o : Option CArg) (a : CArg) (passed : Result heap.Word Fault) → o ≡ Some a → ((rest : Rest) (go : Word → Next) → parts.if_argument (state_of rest old) Object a go ≡ passed_on passed (state_of rest old) go) → MatchResult passed (λ w. any_at old.cells (map contents.word_of old.top.vars) o ≡ Ok (contents.word_of w)) (λ why. any_at old.cells (map contents.word_of old.top.vars) o ≡ Err why)
any_passed old o a passed is all =
    let s = state_of (first_rest Eof) old in
    let there : Option CArg → Result Word Fault = any_at s.cells s.top.vars in
    let Alike : Option CArg → Type 0 = λ p. MatchResult passed (λ w. there p ≡ Ok (contents.word_of w)) (λ why. there p ≡ Err why) in
    subst Alike (sym is) (same_found s (there (Some a)) passed (λ go. sym (object_passes s a go) ∙ all (first_rest Eof) go))
