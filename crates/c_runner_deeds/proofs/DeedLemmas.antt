-- Calls of primitives on `int`s, texts and objects: what the machine does, by what it finds in their arguments.
use Rattle.std.proofs.Common.{◌≡◌, refl, sym, ap, ◌∙◌, ℕ, ◌+◌, ◌≤◌, arith, Bool, true, false, cond, List, [], ◌∷◌, ◌++◌, length, Option, Some, None}
use Rattle.std.specs.Ordering.{int_eq}
use Rattle.std.specs.Prelude.{ℤ, pos, int_lt, not, Result, Ok, Err, IfOk, slice_get, is_some}
use Rattle.std.specs.Fmt.{signed_decimal}
use Rattle.std.specs.Str.Parse.{signed_digits_value}
use Rattle.c_core.specs.Keys.{key_of, key_place}
use Rattle.c_core.specs.Step.{of_key, value_at, sized, key_at, Next, Goes, Effect, Says, Makes, MakesInt, Wrong, if_some, if_arguments, applied, effect, primitive_step, next_line, of_int, of_ints, truth_word, tagged_effect, tagged_or, fitted, native_in, unboxed, item_at, part_at, item_or, lent}
use Rattle.c_runner_deeds.specs.Deeds.{dict_item_done, dict_contains_done, dict_size_done, dict_key_done, dict_length_done, alone, paired, one_int, two_ints, one_text, two_texts, text_and_int, list_and_int, tuple_and_number, effect_of, then_done, done_or, then_tried, lent_done, performed, number_written, one_done, two_done, tagged_done, texts_done, str_done, box_done, unbox_done, truth_done, truth_in, bool_done, is_none_object, object_done, list_item_done, list_length_done, tuple_item_done, tuple_length_done, list_done, dict_done, tuple_done, done_by, Calls}
use Rattle.c_runner_deeds.proofs.FindLemmas.{dict_finds, key_finds, Finds, IsInt, found, one_of, two_of, number_finds, text_finds, boxed_finds, list_finds, tuple_finds, any_finds, written_finds}
use Rattle.std.proofs.lemmas.Option.{slice_get_cases}
use Rattle.std.specs.Option.{option_and_then, option_map}
use Rattle.std.specs.Str.{bytes_eq, chars, encode_utf8_all}
use Rattle.value_core.specs.Characters.{char_len, place_of}
use Rattle.value_core.specs.Arithmetic.{int_add, int_sub, int_mul, int_neg, int_floor_div, int_modulo, int_shl, int_shr, int_to_i64}
use Rattle.c_core.specs.declared.code.CArg.{CArg}
use Rattle.c_core.specs.declared.code.CArg.TheVariants as arg
use Rattle.c_core.specs.declared.code.Code.{Code}
use Rattle.c_core.specs.declared.code.Kind.TheVariants.{Tagged, Object}
use Rattle.c_core.specs.declared.fault.Fault.{Fault}
use Rattle.c_core.specs.declared.fault.Fault.TheVariants as fault
use Rattle.c_core.specs.declared.primitive.Primitive.{Primitive}
use Rattle.c_core.specs.declared.primitive.Primitive.TheVariants as prim
use Rattle.c_core.specs.declared.primitive.Int64Prim.TheVariants as int64
use Rattle.c_core.specs.declared.primitive.TaggedPrim.{TaggedPrim}
use Rattle.c_core.specs.declared.primitive.TaggedPrim.TheVariants as tagged
use Rattle.c_core.specs.declared.primitive.BoolPrim.{BoolPrim}
use Rattle.c_core.specs.declared.primitive.BoolPrim.TheVariants as bool
use Rattle.c_core.specs.declared.primitive.ObjectPrim.{ObjectPrim}
use Rattle.c_core.specs.declared.primitive.ObjectPrim.TheVariants as object
use Rattle.c_core.specs.declared.primitive.StrPrim.{StrPrim}
use Rattle.c_core.specs.declared.primitive.StrPrim.TheVariants as str
use Rattle.c_core.specs.declared.primitive.DictPrim.{DictPrim}
use Rattle.c_core.specs.declared.primitive.DictPrim.TheVariants as dict
use Rattle.c_core.specs.declared.primitive.ListPrim.{ListPrim}
use Rattle.c_core.specs.declared.primitive.ListPrim.TheVariants as list
use Rattle.c_core.specs.declared.primitive.TuplePrim.{TuplePrim}
use Rattle.c_core.specs.declared.primitive.TuplePrim.TheVariants as tuple
use Rattle.c_core.specs.Arguments.{Argument, Cell, int_in, stolen}
use Rattle.c_core.specs.Cells.{Cells, content_at, make}
use Rattle.c_core.specs.Ledgers.{Ledger, more}
use Rattle.c_core.specs.Machine.{Word, BigInt, CharWord, ObjectCell, NoneObject, TrueObject, FalseObject, Content, IntCell, StrCell, TupleCell, MachineState}
use Rattle.c_core.specs.Primitives.{Parameter, Borrows, Is, ANumber, AText, row_of}
use Rattle.c_core.specs.Step as step
use Rattle.c_core.specs.Strings.{counted_length, is_long_decimal, text_less, text_length, text_item}
use Rattle.c_runner_deeds.specs.declared.state.Frame.{Frame}
use Rattle.c_runner_deeds.specs.declared.deed.Deed.{Deed}
use Rattle.c_runner_deeds.specs.declared.deed.Deed.TheVariants as deed
use Rattle.c_runner_deeds.specs.Parts.{cell_argument, argument_of, one_native, one_char, only_text}
use Rattle.c_runner_deeds.specs.declared.ending.Ending.{Ending}
use Rattle.c_runner_deeds.specs.States.{Seen, Rest, Follows, state_of, with_target}
use Rattle.slot_arena.specs.declared.key.Key.{Key}
use Rattle.cell_heap.specs.declared.word.Word as heap_word
use Rattle.cell_heap.specs.declared.word.Word.TheVariants as heap
use Rattle.cell_heap.specs.Contents.{number_of}
use Rattle.c_runner_deeds.proofs.CallLemmas.{one_found, char_only}
use Rattle.c_runner_deeds.proofs.FrameLemmas.{target_set}

-- a cell of a number is made, which the frame owns and the target refers to
pub int_made : (rest : Rest) (old : Seen) (target : Option ℕ) (n : ℤ) (key : Key) (number : ℕ) (cells : Cells Content) (ledger : List ℕ) (top : Frame) → number ≡ number_of key → number_of key ≡ length old.cells → cells ≡ make (IntCell n) old.cells → ledger ≡ more number old.top.ledger → top ≡ with_target target (heap.Big key) (record old.top { ledger = ledger }) → applied true (state_of rest old) target old.top.ledger [] (MakesInt n) ≡ Goes (state_of rest (record old { cells = cells; top = record top { place = top.place + 1 } }))
int_made rest old target n key number cells ledger top serial_is key_is cells_is ledger_is top_is =
    let made : Seen = record old { cells = make (IntCell n) old.cells; top = record old.top { ledger = more (length old.cells) old.top.ledger } } in
    let to : List ℕ → Frame = λ d. with_target target (heap.Big key) (record old.top { ledger = d }) in
    ap (λ m. Goes (next_line (step.with_target target (BigInt m) (state_of rest made)))) (sym key_is)
    ∙ ap (λ t. Goes (next_line t)) (target_set rest made target (heap.Big key))
    ∙ sym (ap (λ f. Goes (state_of rest (record old { cells = cells; top = record f { place = f.place + 1 } }))) top_is
    ∙ ap (λ cs. Goes (state_of rest (record old { cells = cs; top = record (to ledger) { place = (to ledger).place + 1 } }))) cells_is
    ∙ ap (λ d. Goes (state_of rest (record old { cells = make (IntCell n) old.cells; top = record (to d) { place = (to d).place + 1 } }))) (ledger_is ∙ ap (λ m. more m old.top.ledger) (serial_is ∙ key_is)))

-- ---- what is done
module _ (s : MachineState) where
  abbrev number : Parameter
  number = Borrows (Is Tagged) ANumber

  abbrev text : Parameter
  text = Borrows (Is Object) AText

  module _ (x : Option ℕ) where
    abbrev acts : Effect → Next
    acts e = applied true s x s.top.ledger [] e

    tried_is : {A : Type 0} (r : Result A Fault) (does : A → Effect) (to : A → Result Effect Fault) → ((a : A) → to a ≡ Ok (does a)) → found s r (λ a. acts (does a)) ≡ performed x (then_tried to r) s
    tried_is (Ok a) does to same = sym (ap (λ d. performed x d s) (same a))
    tried_is (Err why) does to same = refl

    done_is : {A : Type 0} (r : Result A Fault) (does : A → Effect) → found s r (λ a. acts (does a)) ≡ performed x (then_done does r) s
    done_is (Ok a) does = refl
    done_is (Err why) does = refl

    some_is : {A : Type 0} (o : Option A) (does : A → Effect) → if_some true s fault.Kind o (λ a. acts (does a)) ≡ performed x (done_or does o) s
    some_is (Some a) does = refl
    some_is None does = refl

    int_acts : (does : ℤ → Effect) (a : Argument) (n : ℤ) → IsInt a n → acts (of_int does (int_in a)) ≡ acts (does n)
    int_acts does a n e = ap (λ o. acts (of_int does o)) e

    ints_act : (does : ℤ → ℤ → Effect) (a b : Argument) (m n : ℤ) → IsInt a m → IsInt b n → acts (of_ints does (int_in a) (int_in b)) ≡ acts (does m n)
    ints_act does a b m n e g = ap (λ o. acts (of_ints does o (int_in b))) e ∙ ap (λ o. acts (of_ints does (Some m) o)) g

    module _ (code : Code) (args : List CArg) where
      -- what a row does, by what is found in its arguments
      one_done_by : {A : Type 0} {p : Parameter} {find : Option CArg → Result A Fault} {Means : Argument → A → Type 0} → Finds s p find Means → (go : List Argument → Ledger → Next) (does : A → Effect) → ((b : Argument) (a : A) → Means b a → go (b ∷ []) s.top.ledger ≡ acts (does a)) → if_arguments true s code (p ∷ []) args [] s.top.ledger go ≡ performed x (then_done does (alone (find (slice_get args 0)) (length args))) s
      one_done_by {find = find} finds go does acting =
          one_of s finds code args s.top.ledger go (λ a. acts (does a)) acting ∙ done_is (alone (find (slice_get args 0)) (length args)) does

      two_done_by : {A B : Type 0} {p q : Parameter} {find : Option CArg → Result A Fault} {seek : Option CArg → Result B Fault} {Means : Argument → A → Type 0} {Has : Argument → B → Type 0} → Finds s p find Means → Finds s q seek Has → (go : List Argument → Ledger → Next) (does : A × B → Effect) → ((b c : Argument) (y : A) (z : B) → Means b y → Has c z → go (b ∷ c ∷ []) s.top.ledger ≡ acts (does (y, z))) → if_arguments true s code (p ∷ q ∷ []) args [] s.top.ledger go ≡ performed x (then_done does (paired (find (slice_get args 0)) (seek (slice_get args 1)) (length args))) s
      two_done_by {find = find} {seek = seek} finds seeks go does acting =
          two_of s finds seeks code args s.top.ledger go (λ q. acts (does q)) acting
          ∙ done_is (paired (find (slice_get args 0)) (seek (slice_get args 1)) (length args)) does

      one_called : (go : List Argument → Ledger → Next) (does : ℤ → Effect) (to : ℤ → Result Effect Fault) → ((a : Argument) → go (a ∷ []) s.top.ledger ≡ acts (of_int does (int_in a))) → ((n : ℤ) → to n ≡ Ok (does n)) → if_arguments true s code (number ∷ []) args [] s.top.ledger go ≡ performed x (then_tried to (one_int s.cells s.top.vars args)) s
      one_called go does to acting same =
          one_of s (number_finds s) code args s.top.ledger go (λ n. acts (does n)) (λ a n e. acting a ∙ int_acts does a n e)
          ∙ tried_is (one_int s.cells s.top.vars args) does to same

      two_called : (go : List Argument → Ledger → Next) (does : ℤ → ℤ → Effect) (to : ℤ → ℤ → Result Effect Fault) → ((a b : Argument) → go (a ∷ b ∷ []) s.top.ledger ≡ acts (of_ints does (int_in a) (int_in b))) → ((m n : ℤ) → to m n ≡ Ok (does m n)) → if_arguments true s code (number ∷ number ∷ []) args [] s.top.ledger go ≡ performed x (then_tried (λ q. to q.0 q.1) (two_ints s.cells s.top.vars args)) s
      two_called go does to acting same =
          two_of s (number_finds s) (number_finds s) code args s.top.ledger go (λ q. acts (does q.0 q.1)) (λ a b m n e g. acting a b ∙ ints_act does a b m n e g)
          ∙ tried_is (two_ints s.cells s.top.vars args) (λ q. does q.0 q.1) (λ q. to q.0 q.1) (λ q. same q.0 q.1)

      texts_called : (go : List Argument → Ledger → Next) (does : List ℕ → List ℕ → Effect) (to : List ℕ → List ℕ → Result Effect Fault) → ((c : ℕ) (a : List ℕ) (d : ℕ) (b : List ℕ) → go (Cell c (StrCell a) ∷ Cell d (StrCell b) ∷ []) s.top.ledger ≡ acts (does a b)) → ((a b : List ℕ) → to a b ≡ Ok (does a b)) → if_arguments true s code (text ∷ text ∷ []) args [] s.top.ledger go ≡ performed x (then_tried (λ q. to q.0 q.1) (two_texts s.cells s.top.vars args)) s
      texts_called go does to acting same =
          two_of s (text_finds s) (text_finds s) code args s.top.ledger go (λ q. acts (does q.0 q.1))
          (λ a b m n e g. ap (λ y. go (y ∷ b ∷ []) s.top.ledger) e.1 ∙ ap (λ y. go (Cell e.0 (StrCell m) ∷ y ∷ []) s.top.ledger) g.1 ∙ acting e.0 m g.0 n)
          ∙ tried_is (two_texts s.cells s.top.vars args) (λ q. does q.0 q.1) (λ q. to q.0 q.1) (λ q. same q.0 q.1)

      length_called : (go : List Argument → Ledger → Next) (does : List ℕ → Effect) → ((c : ℕ) (a : List ℕ) → go (Cell c (StrCell a) ∷ []) s.top.ledger ≡ acts (does a)) → if_arguments true s code (text ∷ []) args [] s.top.ledger go ≡ performed x (then_done does (one_text s.cells s.top.vars args)) s
      length_called go does acting =
          one_done_by (text_finds s) go does (λ a t e. ap (λ y. go (y ∷ []) s.top.ledger) e.1 ∙ acting e.0 t)

      item_called : (go : List Argument → Ledger → Next) (does : List ℕ → ℤ → Effect) → ((c : ℕ) (t : List ℕ) (a : Argument) → go (Cell c (StrCell t) ∷ a ∷ []) s.top.ledger ≡ acts (of_int (does t) (int_in a))) → if_arguments true s code (text ∷ number ∷ []) args [] s.top.ledger go ≡ performed x (then_done (λ q. does q.0 q.1) (text_and_int s.cells s.top.vars args)) s
      item_called go does acting =
          two_done_by (text_finds s) (number_finds s) go (λ q. does q.0 q.1)
          (λ a b t n e g. ap (λ y. go (y ∷ b ∷ []) s.top.ledger) e.1 ∙ acting e.0 t b ∙ int_acts (does t) b n g)

      -- what is left of a step of a row whose arguments passed their tests
      abbrev goes : Primitive → List Argument → Ledger → Next
      goes p all l = applied true s x l (stolen (row_of p).parameters all) (effect code s p all)

      -- ---- numbers in cells, and truths
      pub box_called : primitive_step true s code x args (prim.Int64 int64.Box) ≡ performed x (box_done s.top.vars args) s
      box_called = one_found s code args s.top.ledger _ ∙ some_is (one_native s.top.vars args) (λ n. Makes (IntCell n))

      pub unbox_called : primitive_step true s code x args (prim.Int64 int64.Unbox) ≡ performed x (unbox_done s.cells s.top.vars args) s
      unbox_called =
          one_done_by (boxed_finds s) (goes (prim.Int64 int64.Unbox)) (λ q. native_in (int_to_i64 q.1))
          (λ b q e. ap (λ y. goes (prim.Int64 int64.Unbox) (y ∷ []) s.top.ledger) e)

      unboxed_called : primitive_step true s code x args (prim.Tagged tagged.Unbox) ≡ performed x (tagged_done tagged.Unbox s.cells s.top.vars args) s
      unboxed_called =
          one_done_by (boxed_finds s) (goes (prim.Tagged tagged.Unbox)) (λ q. unboxed q.0 q.1)
          (λ b q e. ap (λ y. goes (prim.Tagged tagged.Unbox) (y ∷ []) s.top.ledger) e)

      cell_is_no_truth : (c : ℕ) (o : Option Content) → effect code s (prim.Bool bool.Unbox) (cell_argument c o ∷ []) ≡ Wrong
      cell_is_no_truth c None = refl
      cell_is_no_truth c (Some content) = refl

      truth_found : (w : Word) → effect code s (prim.Bool bool.Unbox) (argument_of s.cells w ∷ []) ≡ truth_in w
      truth_found (BigInt c) = cell_is_no_truth c (content_at s.cells c)
      truth_found (ObjectCell c) = cell_is_no_truth c (content_at s.cells c)
      truth_found TrueObject = refl
      truth_found FalseObject = refl
      truth_found _ = refl

      pub bool_called : (p : BoolPrim) → primitive_step true s code x args (prim.Bool p) ≡ performed x (bool_done p s.cells s.top.vars args) s
      bool_called bool.Not = char_only s code args s.top.ledger _ ∙ some_is (one_char s.top.vars args) (truth_done bool.Not)
      bool_called bool.Str = char_only s code args s.top.ledger _ ∙ some_is (one_char s.top.vars args) (truth_done bool.Str)
      bool_called bool.Box = char_only s code args s.top.ledger _ ∙ some_is (one_char s.top.vars args) (truth_done bool.Box)
      bool_called bool.Unbox =
          one_done_by (any_finds s) (goes (prim.Bool bool.Unbox)) truth_in
          (λ b w e. ap (λ y. goes (prim.Bool bool.Unbox) (y ∷ []) s.top.ledger) e ∙ ap acts (truth_found w))

      -- ---- any object
      cell_is_not_none : (c : ℕ) (o : Option Content) → effect code s (prim.Object object.IsNone) (cell_argument c o ∷ []) ≡ Says (CharWord 0)
      cell_is_not_none c None = refl
      cell_is_not_none c (Some content) = refl

      none_found : (w : Word) → effect code s (prim.Object object.IsNone) (argument_of s.cells w ∷ []) ≡ Says (truth_word (is_none_object w))
      none_found (BigInt c) = cell_is_not_none c (content_at s.cells c)
      none_found (ObjectCell c) = cell_is_not_none c (content_at s.cells c)
      none_found NoneObject = refl
      none_found _ = refl

      pub object_called : (p : ObjectPrim) → primitive_step true s code x args (prim.Object p) ≡ performed x (object_done p s.cells s.top.vars args) s
      object_called object.IsNone =
          one_done_by (any_finds s) (goes (prim.Object object.IsNone)) (λ w. Says (truth_word (is_none_object w)))
          (λ b w e. ap (λ y. goes (prim.Object object.IsNone) (y ∷ []) s.top.ledger) e ∙ ap acts (none_found w))

      -- ---- lists and tuples
      list_item_called : primitive_step true s code x args (prim.List list.GetItem) ≡ performed x (list_item_done s.cells s.top.vars args) s
      list_item_called =
          two_done_by (list_finds s) (number_finds s) (goes (prim.List list.GetItem)) (λ q. item_at (place_of (length q.0.1) q.1) q.0.1)
          (λ b c q n e g. ap (λ y. goes (prim.List list.GetItem) (y ∷ c ∷ []) s.top.ledger) e ∙ int_acts (λ i. item_at (place_of (length q.1) i) q.1) c n g)

      list_length_called : primitive_step true s code x args (prim.List list.Len) ≡ performed x (list_length_done s.cells s.top.vars args) s
      list_length_called =
          one_done_by (list_finds s) (goes (prim.List list.Len)) (λ q. tagged_effect (pos (counted_length (length q.1))))
          (λ b q e. ap (λ y. goes (prim.List list.Len) (y ∷ []) s.top.ledger) e)

      -- ---- dicts
      dict_item_called : primitive_step true s code x args (prim.Dict dict.GetItem) ≡ performed x (dict_item_done s.cells s.top.vars args) s
      dict_item_called =
          two_done_by (dict_finds s) (key_finds s) (goes (prim.Dict dict.GetItem)) (λ q. of_key (λ k. value_at k (key_place s.cells k q.0.1) q.0.1) (key_of s.cells q.1))
          (λ b c q w e g. ap (λ y. goes (prim.Dict dict.GetItem) (y ∷ c ∷ []) s.top.ledger) e ∙ ap (λ o. acts (of_key (λ k. value_at k (key_place s.cells k q.1) q.1) o)) g)

      dict_contains_called : primitive_step true s code x args (prim.Dict dict.Contains) ≡ performed x (dict_contains_done s.cells s.top.vars args) s
      dict_contains_called =
          two_done_by (dict_finds s) (key_finds s) (goes (prim.Dict dict.Contains)) (λ q. of_key (λ k. Says (truth_word (is_some (key_place s.cells k q.0.1)))) (key_of s.cells q.1))
          (λ b c q w e g. ap (λ y. goes (prim.Dict dict.Contains) (y ∷ c ∷ []) s.top.ledger) e ∙ ap (λ o. acts (of_key (λ k. Says (truth_word (is_some (key_place s.cells k q.1)))) o)) g)

      dict_size_called : primitive_step true s code x args (prim.Dict dict.CheckSize) ≡ performed x (dict_size_done s.cells s.top.vars args) s
      dict_size_called =
          two_done_by (dict_finds s) (number_finds s) (goes (prim.Dict dict.CheckSize)) (λ q. sized (int_eq (pos (counted_length (length q.0.1))) q.1))
          (λ b c q n e g. ap (λ y. goes (prim.Dict dict.CheckSize) (y ∷ c ∷ []) s.top.ledger) e ∙ int_acts (λ i. sized (int_eq (pos (counted_length (length q.1))) i)) c n g)

      dict_key_called : primitive_step true s code x args (prim.Dict dict.KeyAt) ≡ performed x (dict_key_done s.cells s.top.vars args) s
      dict_key_called =
          two_done_by (dict_finds s) (number_finds s) (goes (prim.Dict dict.KeyAt)) (λ q. key_at q.0.1 q.1)
          (λ b c q n e g. ap (λ y. goes (prim.Dict dict.KeyAt) (y ∷ c ∷ []) s.top.ledger) e ∙ int_acts (key_at q.1) c n g)

      dict_length_called : primitive_step true s code x args (prim.Dict dict.Len) ≡ performed x (dict_length_done s.cells s.top.vars args) s
      dict_length_called =
          one_done_by (dict_finds s) (goes (prim.Dict dict.Len)) (λ q. tagged_effect (pos (counted_length (length q.1))))
          (λ b q e. ap (λ y. goes (prim.Dict dict.Len) (y ∷ []) s.top.ledger) e)

      tuple_item_called : primitive_step true s code x args (prim.Tuple tuple.GetItem) ≡ performed x (tuple_item_done s.cells s.top.vars args) s
      tuple_item_called =
          two_done_by (tuple_finds s) (written_finds s) (goes (prim.Tuple tuple.GetItem)) (λ q. part_at q.0.1 q.1)
          (λ b c q n e g. ap (λ y. goes (prim.Tuple tuple.GetItem) (y ∷ c ∷ []) s.top.ledger) e ∙ ap (λ y. goes (prim.Tuple tuple.GetItem) (Cell q.0 (TupleCell q.1) ∷ y ∷ []) s.top.ledger) g)

      -- what is read is lent
      then_lent : {A : Type 0} (does : A → Effect) (r : Result A Fault) → then_done (λ a. lent (does a)) r ≡ lent_done (then_done does r)
      then_lent does (Ok a) = refl
      then_lent does (Err why) = refl

      list_item_lent : primitive_step true s code x args (prim.List list.GetItemBorrow) ≡ performed x (lent_done (list_item_done s.cells s.top.vars args)) s
      list_item_lent =
          two_done_by (list_finds s) (number_finds s) (goes (prim.List list.GetItemBorrow)) (λ q. lent (item_at (place_of (length q.0.1) q.1) q.0.1))
          (λ b c q n e g. ap (λ y. goes (prim.List list.GetItemBorrow) (y ∷ c ∷ []) s.top.ledger) e ∙ int_acts (λ i. lent (item_at (place_of (length q.1) i) q.1)) c n g)
          ∙ ap (λ d. performed x d s) (then_lent (λ q. item_at (place_of (length q.0.1) q.1) q.0.1) (list_and_int s.cells s.top.vars args))

      tuple_item_lent : primitive_step true s code x args (prim.Tuple tuple.GetItemBorrow) ≡ performed x (lent_done (tuple_item_done s.cells s.top.vars args)) s
      tuple_item_lent =
          two_done_by (tuple_finds s) (written_finds s) (goes (prim.Tuple tuple.GetItemBorrow)) (λ q. lent (part_at q.0.1 q.1))
          (λ b c q n e g. ap (λ y. goes (prim.Tuple tuple.GetItemBorrow) (y ∷ c ∷ []) s.top.ledger) e ∙ ap (λ y. goes (prim.Tuple tuple.GetItemBorrow) (Cell q.0 (TupleCell q.1) ∷ y ∷ []) s.top.ledger) g)
          ∙ ap (λ d. performed x d s) (then_lent (λ q. part_at q.0.1 q.1) (tuple_and_number s.cells s.top.vars args))

      tuple_length_called : primitive_step true s code x args (prim.Tuple tuple.Len) ≡ performed x (tuple_length_done s.cells s.top.vars args) s
      tuple_length_called =
          one_done_by (tuple_finds s) (goes (prim.Tuple tuple.Len)) (λ q. tagged_effect (pos (counted_length (length q.1))))
          (λ b q e. ap (λ y. goes (prim.Tuple tuple.Len) (y ∷ []) s.top.ledger) e)

      -- ---- what reads a list, a dict or a tuple
      pub list_called : (p : ListPrim) → (p ≡ list.New → ⊥) → (p ≡ list.Append → ⊥) → (p ≡ list.SetItem → ⊥) → (p ≡ list.Pop → ⊥) → primitive_step true s code x args (prim.List p) ≡ performed x (list_done p s.cells s.top.vars args) s
      list_called list.New a b c d = absurd (a refl)
      list_called list.Append a b c d = absurd (b refl)
      list_called list.GetItem a b c d = list_item_called
      list_called list.GetItemBorrow a b c d = list_item_lent
      list_called list.SetItem a b c d = absurd (c refl)
      list_called list.Pop a b c d = absurd (d refl)
      list_called list.Len a b c d = list_length_called

      pub dict_called : (p : DictPrim) → (p ≡ dict.New → ⊥) → (p ≡ dict.SetItem → ⊥) → (p ≡ dict.DelItem → ⊥) → primitive_step true s code x args (prim.Dict p) ≡ performed x (dict_done p s.cells s.top.vars args) s
      dict_called dict.New a b c = absurd (a refl)
      dict_called dict.GetItem a b c = dict_item_called
      dict_called dict.SetItem a b c = absurd (b refl)
      dict_called dict.DelItem a b c = absurd (c refl)
      dict_called dict.Contains a b c = dict_contains_called
      dict_called dict.CheckSize a b c = dict_size_called
      dict_called dict.KeyAt a b c = dict_key_called
      dict_called dict.Len a b c = dict_length_called

      pub tuple_called : (p : TuplePrim) → (p ≡ tuple.Pack → ⊥) → primitive_step true s code x args (prim.Tuple p) ≡ performed x (tuple_done p s.cells s.top.vars args) s
      tuple_called tuple.Pack a = absurd (a refl)
      tuple_called tuple.GetItem a = tuple_item_called
      tuple_called tuple.GetItemBorrow a = tuple_item_lent
      tuple_called tuple.Len a = tuple_length_called

    -- a number or a text that is written
    number_made : (b : Bool) (n : ℤ) → acts (cond b (MakesInt n) Wrong) ≡ performed x (done_or MakesInt (cond b (Some n) None)) s
    number_made true n = refl
    number_made false n = refl

    number_read : (code : Code) (args : List CArg) → primitive_step true s code x args (prim.Tagged tagged.FromText) ≡ performed x (done_or MakesInt (number_written (only_text args))) s
    number_read code [] = refl
    number_read code (arg.Text t ∷ []) = number_made (is_long_decimal t) (signed_digits_value 10 t)
    number_read code (arg.Var y ∷ []) = refl
    number_read code (arg.Number n ∷ []) = refl
    number_read code (arg.Global name ∷ []) = refl
    number_read code (arg.Class name ∷ []) = refl
    number_read code (arg.Text t ∷ b ∷ more) = refl
    number_read code (arg.Var y ∷ b ∷ more) = refl
    number_read code (arg.Number n ∷ b ∷ more) = refl
    number_read code (arg.Global name ∷ b ∷ more) = refl
    number_read code (arg.Class name ∷ b ∷ more) = refl

    literal_made : (code : Code) (args : List CArg) → primitive_step true s code x args (prim.Str str.Literal) ≡ performed x (done_or (λ t. Makes (StrCell t)) (only_text args)) s
    literal_made code [] = refl
    literal_made code (arg.Text t ∷ []) = refl
    literal_made code (arg.Var y ∷ []) = refl
    literal_made code (arg.Number n ∷ []) = refl
    literal_made code (arg.Global name ∷ []) = refl
    literal_made code (arg.Class name ∷ []) = refl
    literal_made code (arg.Text t ∷ b ∷ more) = refl
    literal_made code (arg.Var y ∷ b ∷ more) = refl
    literal_made code (arg.Number n ∷ b ∷ more) = refl
    literal_made code (arg.Global name ∷ b ∷ more) = refl
    literal_made code (arg.Class name ∷ b ∷ more) = refl

    -- ---- calls
    pub tagged_called : (code : Code) (args : List CArg) (p : TaggedPrim) → (p ≡ tagged.Box → ⊥) → primitive_step true s code x args (prim.Tagged p) ≡ performed x (tagged_done p s.cells s.top.vars args) s
    tagged_called code args tagged.Add other = two_called code args _ (λ m n. tagged_or (int_add m n)) (two_done tagged.Add) (λ a b. refl) (λ m n. refl)
    tagged_called code args tagged.Subtract other = two_called code args _ (λ m n. tagged_or (int_sub m n)) (two_done tagged.Subtract) (λ a b. refl) (λ m n. refl)
    tagged_called code args tagged.Multiply other = two_called code args _ (λ m n. tagged_or (int_mul m n)) (two_done tagged.Multiply) (λ a b. refl) (λ m n. refl)
    tagged_called code args tagged.Negate other = one_called code args _ (λ n. tagged_or (int_neg n)) (one_done tagged.Negate) (λ a. refl) (λ n. refl)
    tagged_called code args tagged.FloorDivide other = two_called code args _ (λ m n. tagged_or (int_floor_div m n)) (two_done tagged.FloorDivide) (λ a b. refl) (λ m n. refl)
    tagged_called code args tagged.Remainder other = two_called code args _ (λ m n. tagged_or (int_modulo m n)) (two_done tagged.Remainder) (λ a b. refl) (λ m n. refl)
    tagged_called code args tagged.Lshift other = two_called code args _ (λ m n. tagged_or (int_shl m n)) (two_done tagged.Lshift) (λ a b. refl) (λ m n. refl)
    tagged_called code args tagged.Rshift other = two_called code args _ (λ m n. tagged_or (int_shr m n)) (two_done tagged.Rshift) (λ a b. refl) (λ m n. refl)
    tagged_called code args tagged.FromText other = number_read code args
    tagged_called code args tagged.FromInt64 other = one_found s code args s.top.ledger _ ∙ some_is (one_native s.top.vars args) tagged_effect
    tagged_called code args tagged.FromBool other = char_only s code args s.top.ledger _ ∙ some_is (one_char s.top.vars args) (λ n. tagged_effect (pos n))
    tagged_called code args tagged.AsInt64 other = one_called code args _ (λ n. fitted (int_to_i64 n)) (one_done tagged.AsInt64) (λ a. refl) (λ n. refl)
    tagged_called code args tagged.Eq other = two_called code args _ (λ m n. Says (truth_word (int_eq m n))) (two_done tagged.Eq) (λ a b. refl) (λ m n. refl)
    tagged_called code args tagged.Lt other = two_called code args _ (λ m n. Says (truth_word (int_lt m n))) (two_done tagged.Lt) (λ a b. refl) (λ m n. refl)
    tagged_called code args tagged.Le other = two_called code args _ (λ m n. Says (truth_word (not (int_lt n m)))) (two_done tagged.Le) (λ a b. refl) (λ m n. refl)
    tagged_called code args tagged.Str other = one_called code args _ (λ n. Makes (StrCell (signed_decimal n))) (one_done tagged.Str) (λ a. refl) (λ n. refl)
    tagged_called code args tagged.Box other = absurd (other refl)
    tagged_called code args tagged.Unbox other = unboxed_called code args

    pub str_called : (code : Code) (args : List CArg) (p : StrPrim) → primitive_step true s code x args (prim.Str p) ≡ performed x (str_done p s.cells s.top.vars args) s
    str_called code args str.Literal = literal_made code args
    str_called code args str.Concat = texts_called code args _ (λ a b. Makes (StrCell (a ++ b))) (texts_done str.Concat) (λ c a d b. refl) (λ a b. refl)
    str_called code args str.Eq = texts_called code args _ (λ a b. Says (truth_word (bytes_eq a b))) (texts_done str.Eq) (λ c a d b. refl) (λ a b. refl)
    str_called code args str.Lt = texts_called code args _ (λ a b. Says (truth_word (text_less a b))) (texts_done str.Lt) (λ c a d b. refl) (λ a b. refl)
    str_called code args str.Le = texts_called code args _ (λ a b. Says (truth_word (not (text_less b a)))) (texts_done str.Le) (λ c a d b. refl) (λ a b. refl)
    str_called code args str.Len = length_called code args _ (λ t. tagged_effect (text_length t)) (λ c a. refl)
    str_called code args str.GetItem = item_called code args _ (λ t i. item_or (text_item t i)) (λ c t a. refl)

-- ---- what the runner does
-- what shares nothing is lent as it is
pub lent_other : (d : Deed) → ((w : heap_word.Word) → d ≡ deed.Shares w → ⊥) → effect_of d ≡ lent (effect_of d)
lent_other (deed.Shares w) other = absurd (other w refl)
lent_other _ other = refl

-- ---- what the runner finds
-- the primitives on two `int`s, and on two texts
pub ints_are : (cells : Cells Content) (vars : List Word) (args : List CArg) (p : TaggedPrim) → (p ≡ tagged.FromText → ⊥) → (p ≡ tagged.FromInt64 → ⊥) → (p ≡ tagged.FromBool → ⊥) → (p ≡ tagged.Negate → ⊥) → (p ≡ tagged.AsInt64 → ⊥) → (p ≡ tagged.Str → ⊥) → (p ≡ tagged.Unbox → ⊥) → then_tried (λ q. two_done p q.0 q.1) (two_ints cells vars args) ≡ tagged_done p cells vars args
ints_are cells vars args tagged.FromText a b c d e f g = absurd (a refl)
ints_are cells vars args tagged.FromInt64 a b c d e f g = absurd (b refl)
ints_are cells vars args tagged.FromBool a b c d e f g = absurd (c refl)
ints_are cells vars args tagged.Negate a b c d e f g = absurd (d refl)
ints_are cells vars args tagged.AsInt64 a b c d e f g = absurd (e refl)
ints_are cells vars args tagged.Str a b c d e f g = absurd (f refl)
ints_are cells vars args tagged.Unbox a b c d e f g = absurd (g refl)
ints_are cells vars args _ a b c d e f g = refl

pub texts_are : (cells : Cells Content) (vars : List Word) (args : List CArg) (p : StrPrim) → (p ≡ str.Literal → ⊥) → (p ≡ str.Len → ⊥) → (p ≡ str.GetItem → ⊥) → then_tried (λ q. texts_done p q.0 q.1) (two_texts cells vars args) ≡ str_done p cells vars args
texts_are cells vars args str.Literal a b c = absurd (a refl)
texts_are cells vars args str.Len a b c = absurd (b refl)
texts_are cells vars args str.GetItem a b c = absurd (c refl)
texts_are cells vars args _ a b c = refl

pub ok_as : {A B E : Type 0} (f : A → B) (r : Result A E) (x y : B) → x ≡ y → IfOk r (λ a. f a ≡ x) → IfOk r (λ a. f a ≡ y)
ok_as f (Ok a) x y same h = h ∙ same
ok_as f (Err e) x y same h = tt

-- the item of a text is that of its code point
item_found : (all : List ℕ) (place : Option ℕ) (c : ℕ) (item : List ℕ) → Some c ≡ option_and_then (slice_get all) place → item ≡ encode_utf8_all (c ∷ []) → Makes (StrCell item) ≡ item_or (option_and_then (λ k. option_map (λ d. encode_utf8_all (d ∷ [])) (slice_get all k)) place)
item_found all None c item is same = absurd (cc)
item_found all (Some k) c item is same =
    ap (λ t. Makes (StrCell t)) same ∙ ap (λ o. item_or (option_map (λ d. encode_utf8_all (d ∷ [])) o)) is

pub item_is : (t : List ℕ) (i : ℤ) (c : ℕ) (item : List ℕ) → Some c ≡ option_and_then (slice_get (chars t)) (place_of (char_len t) i) → item ≡ encode_utf8_all (c ∷ []) → Makes (StrCell item) ≡ item_or (text_item t i)
item_is t i c item is same = item_found (chars t) (place_of (char_len t) i) c item is same

-- past the end of a list nothing stands
pub no_item : {X : Type 0} (xs : List X) (i : ℕ) → length xs ≤ i → None ≡ slice_get xs i
no_item xs i le = grind (arith, le, slice_get_cases xs i)

-- ---- calls by deeds
-- a primitive does what the runner does by a deed
pub does_deed : {E : Type 0} (p : Primitive) (target : Option ℕ) (args : List CArg) (old new : Seen) (r : Result (Option Ending) E) (d : Result Deed Fault) (done : Result Effect Fault) → ((code : Code) (rest : Rest) → primitive_step true (state_of rest old) code target args p ≡ performed target done (state_of rest old)) → done_by d ≡ done → IfOk r (λ ending. Follows (performed target (done_by d)) ending old new) → Calls p target args old new r
does_deed p target args old new (Ok ending) d done same is h =
    λ code rest. same code rest ∙ ap (λ e. performed target e (state_of rest old)) (sym is) ∙ h rest
does_deed p target args old new (Err failed) d done same is h = tt
