-- What primitives do with dicts is what the source does with them, unless it is stuck.
use Rattle.ir_builder_operations.proofs.Common.{◌≡◌, refl, sym, ◌∙◌, ap, subst, ℕ, suc, ◌+◌, arith, nat_tests, Bool, true, false, cond, not, ◌&&◌, int_lt, if◌then◌else◌, is_some, nat_lt, List, [], ◌∷◌, ◌++◌, length, take, map, Option, Some, None, option_map, ◌⊎◌, inl, inr, ℤ, pos, negsuc, int_eq, slice_get, slice_set, codes, thrown, counted_length, Value, IntVal, BoolVal, NoneVal, StrVal, ExcVal, ObjVal, Object, ListObj, DictObj, InstObj, Primitive, Sort, State, Outcome, Does, Gives, Raises, Stops, on_to, give, needs, sure, raise_new, with_place, counted, make, ◌>>◌, Effect, Wrong, Given, World, failing, Showing, Shows, HasKind, world, effect, Program, Allows, Answers, Throws, leaves_all, ActsAs, IsStuck, Performs, boxed, may_be_key, dict_length, keyed, entry_deleted, entry_put, key_found, if_same_size, size_checked, key_there, key_of_pair}
use Rattle.std.specs.Prelude.{drop}
use Rattle.std.specs.List.{position_or_len}
use Rattle.std.proofs.lemmas.Bool.{lt-ltb}
use Rattle.std.proofs.lemmas.Option.{slice_get-map}
use Rattle.value_core.specs.declared.exception.ExcClass.TheVariants.{KeyError, RuntimeError}
use Rattle.c_core.specs.Keys as keys
use Rattle.c_core.specs.Keys.{Key, NumberKey, TextKey, TruthKey, key_text}
use Rattle.c_core.specs.Step.{missing}
use Rattle.c_core.proofs.NameLemmas.{bytes_eq-sym}
use Rattle.c_core.specs.declared.primitive.Primitive.TheVariants as prim
use Rattle.c_core.specs.declared.primitive.DictPrim.TheVariants as dict
use Rattle.py_typed.specs.Sorts as sort
use Rattle.py_typed.specs.WellTypedExpr.{is_key_type}
use Rattle.source_meaning.specs.State.{Stuck, put}
use Rattle.source_meaning.specs.Operations.{is_same_number, is_equal, has_text, text_of, as_dict, key_place, at_key, with_entry, without_entry, dict_item, set_dict_item, is_there}
use Rattle.ir_core.specs.Effects.{Gives as Giving, Acts as Acting, of_dict, of_key, of_pair, with_object, key_of_value, place_of_key, value_at, entry_set, entry_cut, sized, key_at}
use Rattle.ir_builder_frames.proofs.AttemptLemmas.{LeavesVariables}
use Rattle.ir_builder_operations.proofs.ComparisonLemmas.{same_number}
use Rattle.ir_builder_operations.proofs.ContainerLemmas.{behind_put}
use Rattle.ir_builder_operations.proofs.TextLemmas.{counted_is}

-- what may be said of an effect of a primitive and an outcome of the source: here, that one is the other
abbrev Both : Type 1
Both = Effect → Outcome Value → Type 0

abbrev Acts : Showing → Primitive → State → Both
Acts K q s e res = ActsAs K q e s res

-- what is done with the pairs of a dict; with no dict the source is stuck
dict_acts : (P : Both) (s : State) (g : List (Value × Value) → Effect) (h : Option Object → Outcome Value) → ((pairs : List (Value × Value)) → IsStuck (h (Some (DictObj pairs))) ⊎ P (g pairs) (h (Some (DictObj pairs)))) → ((items : List Value) → h (Some (ListObj items)) ≡ Stops Stuck s) → ((c : ℕ) (vs : List (Option Value)) → h (Some (InstObj c vs)) ≡ Stops Stuck s) → h None ≡ Stops Stuck s → (o : Option Object) → IsStuck (h o) ⊎ P (of_dict g o) (h o)
dict_acts P s g h acts list inst none (Some (DictObj pairs)) = acts pairs
dict_acts P s g h acts list inst none (Some (ListObj items)) = inl (s, list items)
dict_acts P s g h acts list inst none (Some (InstObj c vs)) = inl (s, inst c vs)
dict_acts P s g h acts list inst none None = inl (s, none)

pub empty_dict_performs : Performs (Shows boxed) (prim.Dict dict.New) [] (make (DictObj []))
empty_dict_performs p s = inr record { answer = Answers (ObjVal (length s.store)); behind = record s { store = s.store ++ DictObj [] ∷ [] }; leaves = record { locals = refl; turns = refl }; allowed = tt; effects = refl; shown = (refl, tt); does = refl }

pub dict_length_performs : (d : Value) → Performs (Shows sort.Int) (prim.Dict dict.Len) (Given d ∷ []) (dict_length d)
dict_length_performs (ObjVal k) = λ p s. dict_acts (Acts (Shows sort.Int) (prim.Dict dict.Len) s) s _ (λ o. as_dict (λ k ps. give (IntVal (pos (counted (length ps))))) k o s)
    (λ pairs. inr record { answer = Answers (IntVal (pos (counted_length (length pairs)))); behind = s; leaves = leaves_all s; allowed = tt; effects = refl; shown = (refl, (pos (counted_length (length pairs)), refl)); does = ap (λ n. Gives (IntVal (pos n)) s) (sym (counted_is (length pairs))) })
    (λ items. refl) (λ c vs. refl) refl (slice_get s.store k)
dict_length_performs d = λ p s. inl (s, refl)

-- ---- keys

-- a value is a key of the machine's, which compares it and writes it as the source does
pub record IsKey (v : Value) : Type 0 where
  pub key : Key
  pub may : may_be_key v ≡ true
  pub is : key_of_value v ≡ Some key
  pub same : (u : Value) → keys.is_key key (key_of_value u) ≡ is_equal u v
  pub text : key_text key ≡ text_of v
  pub has : has_text v ≡ true

and_swap : (a b : Bool) → (a && b) ≡ (b && a)
and_swap true true = refl
and_swap true false = refl
and_swap false true = refl
and_swap false false = refl

number_same : (n : ℤ) (u : Value) → keys.is_key (NumberKey n) (key_of_value u) ≡ is_equal u (IntVal n)
number_same n (IntVal m) = sym (same_number n m) ∙ and_swap (not (int_lt n m)) (not (int_lt m n))
number_same n (BoolVal true) = refl
number_same n (BoolVal false) = refl
number_same n u = refl

text_same : (t : List ℕ) (u : Value) → keys.is_key (TextKey t) (key_of_value u) ≡ is_equal u (StrVal t)
text_same t (StrVal other) = bytes_eq-sym t other
text_same t (BoolVal true) = refl
text_same t (BoolVal false) = refl
text_same t u = refl

truth_same : (b : Bool) (u : Value) → keys.is_key (TruthKey b) (key_of_value u) ≡ is_equal u (BoolVal b)
truth_same true (BoolVal true) = refl
truth_same true (BoolVal false) = refl
truth_same false (BoolVal true) = refl
truth_same false (BoolVal false) = refl
truth_same true u = refl
truth_same false u = refl

truth_written : (b : Bool) → key_text (TruthKey b) ≡ text_of (BoolVal b)
truth_written true = refl
truth_written false = refl

pub key_or_none : (v : Value) → (may_be_key v ≡ false) ⊎ IsKey v
key_or_none (IntVal n) = inr record { key = NumberKey n; may = refl; is = refl; same = number_same n; text = refl; has = refl }
key_or_none (BoolVal b) = inr record { key = TruthKey b; may = refl; is = refl; same = truth_same b; text = truth_written b; has = refl }
key_or_none (StrVal t) = inr record { key = TextKey t; may = refl; is = refl; same = text_same t; text = refl; has = refl }
key_or_none v = inl refl

-- a value of a type that keys may have may be one
pub key_of_kind : (t : Sort) → is_key_type t ≡ true → (v : Value) → HasKind t v → may_be_key v ≡ true
key_of_kind sort.Int is v k = ap may_be_key k.1
key_of_kind sort.I64 is v k = ap may_be_key k.1
key_of_kind sort.Bool is v k = ap may_be_key k.1
key_of_kind sort.Str is v k = ap may_be_key k.1
key_of_kind t is v k = absurd (cc)

pub keyed_is : (t : Sort) → is_key_type t ≡ true → (go : Value → Value → Does Value) (d v : Value) → HasKind t v → keyed go d v ≡ go d v
keyed_is t is go d v k = ap (λ b. needs b (go d v)) (key_of_kind t is v k)

-- ---- the place of a key

suc_by : (b : Bool) (m : ℕ) → cond b (Some (1 + m)) None ≡ option_map suc (cond b (Some m) None)
suc_by true m = ap Some (omega arith)
suc_by false m = refl

first_by : (b : Bool) (m n : ℕ) → cond (nat_lt (cond (not b) (1 + m) 0) (suc n)) (Some (cond (not b) (1 + m) 0)) None ≡ (if b then Some 0 else option_map suc (cond (nat_lt m n) (Some m) None))
first_by true m n = ap (λ c. cond c (Some 0) None) (lt-ltb 0 (suc n) (omega arith))
first_by false m n = let same : nat_lt (1 + m) (suc n) ≡ nat_lt m n = grind (arith, nat_tests) in ap (λ c. cond c (Some (1 + m)) None) same ∙ suc_by (nat_lt m n) m

place_is : (v : Value) (h : IsKey v) (pairs : List (Value × Value)) → place_of_key h.key pairs ≡ key_place v pairs
place_is v h [] = refl
place_is v h (p ∷ ps) =
    let test : Value × Value → Bool = λ q. keys.is_key h.key (key_of_value q.0) in
    first_by (test p) (position_or_len test ps) (length ps)
    ∙ ap (λ b. if b then Some 0 else option_map suc (place_of_key h.key ps)) (h.same p.0)
    ∙ ap (λ o. if is_equal p.0 v then Some 0 else option_map suc o) (place_is v h ps)

-- ---- what is done with a dict and a key

-- where there is no dict, or the value is no key, the source is stuck
keyed_acts : (P : Both) (s : State) (g : Key → Option ℕ → List (Value × Value) → Effect) (go : Does Value) (h : Option Object → Outcome Value) (v : Value) → ((key : IsKey v) (pairs : List (Value × Value)) → IsStuck (h (Some (DictObj pairs))) ⊎ P (g key.key (key_place v pairs) pairs) (h (Some (DictObj pairs)))) → ((items : List Value) → h (Some (ListObj items)) ≡ Stops Stuck s) → ((c : ℕ) (vs : List (Option Value)) → h (Some (InstObj c vs)) ≡ Stops Stuck s) → h None ≡ Stops Stuck s → (o : Option Object) → go s ≡ h o → IsStuck (needs (may_be_key v) go s) ⊎ P (of_dict (λ pairs. of_key (λ j. g j (place_of_key j pairs) pairs) (key_of_value v)) o) (needs (may_be_key v) go s)
keyed_acts P s g go h v acts list inst none o is = by (key_or_none v)
  where
    Found : List (Value × Value) → Option Key → Effect
    Found pairs key = of_key (λ j. g j (place_of_key j pairs) pairs) key

    with_key : (key : IsKey v) (pairs : List (Value × Value)) → Found pairs (key_of_value v) ≡ g key.key (key_place v pairs) pairs
    with_key key pairs = ap (Found pairs) key.is ∙ ap (λ i. g key.key i pairs) (place_is v key pairs)

    by : (may_be_key v ≡ false) ⊎ IsKey v → IsStuck (needs (may_be_key v) go s) ⊎ P (of_dict (λ pairs. Found pairs (key_of_value v)) o) (needs (may_be_key v) go s)
    by (inl e) = inl (s, ap (λ b. needs b go s) e)
    by (inr key) =
        subst (λ z. IsStuck z ⊎ P (of_dict (λ pairs. Found pairs (key_of_value v)) o) z) (sym (ap (λ b. needs b go s) key.may ∙ is))
        (dict_acts P s (λ pairs. Found pairs (key_of_value v)) h
        (λ pairs. subst (λ e. IsStuck (h (Some (DictObj pairs))) ⊎ P e (h (Some (DictObj pairs)))) (sym (with_key key pairs)) (acts key pairs))
        list inst none o)

needs_stuck : (b : Bool) (go : Does Value) (s : State) → go s ≡ Stops Stuck s → needs b go s ≡ Stops Stuck s
needs_stuck true go s e = e
needs_stuck false go s e = refl

-- an exception with the text of a key that is not there
no_key : {A : Type 0} (v : Value) (key : IsKey v) (s : State) → needs {A = A} (has_text v) (raise_new KeyError (text_of v)) s ≡ Raises (ExcVal (missing key.key)) s
no_key {A = A} v key s =
    ap (λ b. needs {A = A} b (raise_new KeyError (text_of v)) s) key.has ∙ ap (λ t. Raises (ExcVal (thrown KeyError t)) s) (sym key.text)

-- the value of a pair, or its key
part_there : (q : Primitive) → ((v : Value) → Allows (failing q) (Answers v)) → (s : State) (pick : Value × Value → Value) (o : Option (Value × Value)) → IsStuck (sure (option_map pick o) s) ⊎ ActsAs (Shows boxed) q (of_pair (λ p. Giving (pick p) (world None s)) o) s (sure (option_map pick o) s)
part_there q allowed s pick None = inl (s, refl)
part_there q allowed s pick (Some p) = inr record { answer = Answers (pick p); behind = s; leaves = leaves_all s; allowed = allowed (pick p); effects = refl; shown = (refl, tt); does = refl }

part_at : (q : Primitive) → ((v : Value) → Allows (failing q) (Answers v)) → (s : State) (pick : Value × Value → Value) (pairs : List (Value × Value)) (i : ℕ) → IsStuck (sure (slice_get (map pick pairs) i) s) ⊎ ActsAs (Shows boxed) q (of_pair (λ p. Giving (pick p) (world None s)) (slice_get pairs i)) s (sure (slice_get (map pick pairs) i) s)
part_at q allowed s pick pairs i =
    subst (λ o. IsStuck (sure o s) ⊎ ActsAs (Shows boxed) q (of_pair (λ p. Giving (pick p) (world None s)) (slice_get pairs i)) s (sure o s)) (sym (slice_get-map pick pairs i)) (part_there q allowed s pick (slice_get pairs i))

-- ---- the value under a key

abbrev value_of : Value → List (Value × Value) → Option ℕ → Does Value
value_of v pairs o = with_place (needs (has_text v) (raise_new KeyError (text_of v))) (λ j. sure (slice_get (map (λ p. p.1) pairs) j)) o

value_there : (s : State) (v : Value) (key : IsKey v) (pairs : List (Value × Value)) (o : Option ℕ) → IsStuck (value_of v pairs o s) ⊎ ActsAs (Shows boxed) (prim.Dict dict.GetItem) (value_at key.key o pairs (world None s)) s (value_of v pairs o s)
value_there s v key pairs None = inr record { answer = Throws (missing key.key); behind = s; leaves = leaves_all s; allowed = tt; effects = refl; shown = tt; does = no_key v key s }
value_there s v key pairs (Some i) = part_at (prim.Dict dict.GetItem) (λ u. tt) s (λ p. p.1) pairs i

pub dict_item_performs : (d v : Value) → Performs (Shows boxed) (prim.Dict dict.GetItem) (Given d ∷ Given v ∷ []) (keyed dict_item d v)
dict_item_performs (ObjVal k) v = λ p s. keyed_acts (Acts (Shows boxed) (prim.Dict dict.GetItem) s) s (λ j o pairs. value_at j o pairs (world None s)) (dict_item (ObjVal k) v) (λ o. as_dict (λ k ps. value_of v ps (key_place v ps)) k o s) v
    (λ key pairs. value_there s v key pairs (key_place v pairs)) (λ items. refl) (λ c vs. refl) refl (slice_get s.store k) refl
dict_item_performs d v = λ p s. inl (s, needs_stuck (may_be_key v) (dict_item d v) s refl)

-- ---- whether there is a key

there_is : {A : Type 0} (o : Option A) → is_there o ≡ is_some o
there_is None = refl
there_is (Some a) = refl

pub membership_performs : (d v : Value) → Performs (Shows sort.Bool) (prim.Dict dict.Contains) (Given d ∷ Given v ∷ []) (keyed key_found d v)
membership_performs (ObjVal k) v = λ p s. keyed_acts (Acts (Shows sort.Bool) (prim.Dict dict.Contains) s) s (λ j o pairs. Giving (BoolVal (is_some o)) (world None s)) (key_found (ObjVal k) v) (λ o. on_to (as_dict (λ k ps. give (is_there (key_place v ps))) k o s) (λ b. give (BoolVal b))) v
    (λ key pairs. let o = key_place v pairs in inr record { answer = Answers (BoolVal (is_some o)); behind = s; leaves = leaves_all s; allowed = tt; effects = refl; shown = (refl, (is_some o, refl)); does = ap (λ b. Gives (BoolVal b) s) (there_is o) })
    (λ items. refl) (λ c vs. refl) refl (slice_get s.store k) refl
membership_performs d v = λ p s. inl (s, needs_stuck (may_be_key v) (key_found d v) s refl)

-- ---- the pair of a key, taken out

abbrev cut : (List (Value × Value) → Effect) → Option ℕ → List (Value × Value) → Effect
cut f None pairs = Wrong
cut f (Some i) pairs = of_pair (λ p. f (take i pairs ++ drop (i + 1) pairs)) (slice_get pairs i)

abbrev if_there : Effect → Option ℕ → Effect
if_there e None = Wrong
if_there e (Some i) = e

cut_behind : (f : List (Value × Value) → Effect) (p : Value × Value) (pairs : List (Value × Value)) (o : Option ℕ) → cut f (option_map suc o) (p ∷ pairs) ≡ cut (λ ps. f (p ∷ ps)) o pairs
cut_behind f p pairs None = refl
cut_behind f p pairs (Some i) =
    let next : suc i + 1 ≡ suc (i + 1) = omega arith in
    ap (λ n. of_pair (λ q. f (take (suc i) (p ∷ pairs) ++ drop n (p ∷ pairs))) (slice_get pairs i)) next

there_behind : (e : Effect) (o : Option ℕ) → if_there e o ≡ if_there e (option_map suc o)
there_behind e None = refl
there_behind e (Some i) = refl

cut_first : (b : Bool) (f : List (Value × Value) → Effect) (v : Value) (p : Value × Value) (pairs : List (Value × Value)) → ((g : List (Value × Value) → Effect) → cut g (key_place v pairs) pairs ≡ if_there (g (without_entry v pairs)) (key_place v pairs)) → cut f (if b then Some 0 else option_map suc (key_place v pairs)) (p ∷ pairs) ≡ if_there (f (if b then pairs else p ∷ without_entry v pairs)) (if b then Some 0 else option_map suc (key_place v pairs))
cut_first true f v p pairs later = refl
cut_first false f v p pairs later =
    cut_behind f p pairs (key_place v pairs) ∙ later (λ ps. f (p ∷ ps)) ∙ there_behind (f (p ∷ without_entry v pairs)) (key_place v pairs)

cut_is : (v : Value) (pairs : List (Value × Value)) (f : List (Value × Value) → Effect) → cut f (key_place v pairs) pairs ≡ if_there (f (without_entry v pairs)) (key_place v pairs)
cut_is v [] f = refl
cut_is v (p ∷ pairs) f = cut_first (is_equal p.0 v) f v p pairs (cut_is v pairs)

abbrev taken_out : ℕ → Value → List (Value × Value) → Option ℕ → Does Value
taken_out k v pairs o = with_place (needs (has_text v) (raise_new KeyError (text_of v))) (λ j. put k (DictObj (without_entry v pairs))) o >> give (BoolVal true)

deleted_there : (s : State) (k : ℕ) (v : Value) (key : IsKey v) (pairs : List (Value × Value)) (o : Option ℕ) → key_place v pairs ≡ o → ActsAs (Shows sort.Bool) (prim.Dict dict.DelItem) (entry_cut k key.key o pairs (world None s)) s (taken_out k v pairs o s)
deleted_there s k v key pairs None e = record { answer = Throws (missing key.key); behind = s; leaves = leaves_all s; allowed = tt; effects = refl; shown = tt; does = ap (λ z. on_to z (λ u. give (BoolVal true))) (no_key v key s) }
deleted_there s k v key pairs (Some i) e =
    let f : List (Value × Value) → Effect = λ ps. Giving (BoolVal true) (with_object k (DictObj ps) (world None s)) in
    record { answer = Answers (BoolVal true); behind = behind_put k (DictObj (without_entry v pairs)) s; leaves = record { locals = refl; turns = refl }; allowed = tt; effects = subst (λ o. cut f o pairs ≡ if_there (f (without_entry v pairs)) o) e (cut_is v pairs f); shown = (refl, (true, refl)); does = refl }

pub deletion_performs : (d v : Value) → Performs (Shows sort.Bool) (prim.Dict dict.DelItem) (Given d ∷ Given v ∷ []) (keyed entry_deleted d v)
deletion_performs (ObjVal k) v = λ p s. keyed_acts (Acts (Shows sort.Bool) (prim.Dict dict.DelItem) s) s (λ j o pairs. entry_cut k j o pairs (world None s)) (entry_deleted (ObjVal k) v) (λ o. on_to (as_dict (λ k ps. at_key v ps (λ j. put k (DictObj (without_entry v ps)))) k o s) (λ u. give (BoolVal true))) v
    (λ key pairs. inr (deleted_there s k v key pairs (key_place v pairs) refl)) (λ items. refl) (λ c vs. refl) refl (slice_get s.store k) refl
deletion_performs d v = λ p s. inl (s, needs_stuck (may_be_key v) (entry_deleted d v) s refl)

-- ---- what a loop asks of a dict

size_there : (s : State) (b : Bool) → ActsAs (Shows sort.Bool) (prim.Dict dict.CheckSize) (sized b (world None s)) s (if_same_size b s)
size_there s true = record { answer = Answers (BoolVal true); behind = s; leaves = leaves_all s; allowed = tt; effects = refl; shown = (refl, (true, refl)); does = refl }
size_there s false = record { answer = Throws (thrown RuntimeError (codes "dictionary changed size during iteration")); behind = s; leaves = leaves_all s; allowed = tt; effects = refl; shown = tt; does = refl }

size_is : (size : ℕ) (n : ℤ) → is_same_number (pos (counted size)) n ≡ int_eq (pos (counted_length size)) n
size_is size n = same_number (pos (counted size)) n ∙ ap (λ m. int_eq (pos m) n) (sym (counted_is size))

pub size_performs : (d : Value) (n : ℤ) → Performs (Shows sort.Bool) (prim.Dict dict.CheckSize) (Given d ∷ Given (IntVal n) ∷ []) (size_checked d (IntVal n))
size_performs (ObjVal k) n = λ p s. dict_acts (Acts (Shows sort.Bool) (prim.Dict dict.CheckSize) s) s _ (λ o. as_dict (λ k ps. if_same_size (is_same_number (pos (counted (length ps))) n)) k o s)
    (λ pairs. let same = is_same_number (pos (counted (length pairs))) n in inr (subst (λ b. ActsAs (Shows sort.Bool) (prim.Dict dict.CheckSize) (sized b (world None s)) s (if_same_size same s)) (size_is (length pairs) n) (size_there s same)))
    (λ items. refl) (λ c vs. refl) refl (slice_get s.store k)
size_performs d n = λ p s. inl (s, refl)

key_met : (s : State) (n : ℤ) (pairs : List (Value × Value)) → IsStuck (key_of_pair n pairs s) ⊎ ActsAs (Shows boxed) (prim.Dict dict.KeyAt) (key_at pairs n (world None s)) s (key_of_pair n pairs s)
key_met s (pos i) pairs = part_at (prim.Dict dict.KeyAt) (λ u. tt) s (λ p. p.0) pairs i
key_met s (negsuc i) pairs = inl (s, refl)

pub key_at_performs : (d : Value) (n : ℤ) → Performs (Shows boxed) (prim.Dict dict.KeyAt) (Given d ∷ Given (IntVal n) ∷ []) (key_there d (IntVal n))
key_at_performs (ObjVal k) n = λ p s. dict_acts (Acts (Shows boxed) (prim.Dict dict.KeyAt) s) s _ (λ o. as_dict (λ k ps. key_of_pair n ps) k o s)
    (λ pairs. key_met s n pairs) (λ items. refl) (λ c vs. refl) refl (slice_get s.store k)
key_at_performs d n = λ p s. inl (s, refl)

-- ---- a value under a key

abbrev set : (List (Value × Value) → Effect) → Value → Value → Option ℕ → List (Value × Value) → Effect
set f key v None pairs = f (pairs ++ (key, v) ∷ [])
set f key v (Some i) pairs = of_pair (λ p. f (slice_set pairs i (p.0, v))) (slice_get pairs i)

set_behind : (f : List (Value × Value) → Effect) (key v : Value) (p : Value × Value) (pairs : List (Value × Value)) (o : Option ℕ) → set f key v (option_map suc o) (p ∷ pairs) ≡ set (λ ps. f (p ∷ ps)) key v o pairs
set_behind f key v p pairs None = refl
set_behind f key v p pairs (Some i) = refl

set_first : (b : Bool) (f : List (Value × Value) → Effect) (key v : Value) (p : Value × Value) (pairs : List (Value × Value)) → ((g : List (Value × Value) → Effect) → set g key v (key_place key pairs) pairs ≡ g (with_entry key v pairs)) → set f key v (if b then Some 0 else option_map suc (key_place key pairs)) (p ∷ pairs) ≡ f (if b then (p.0, v) ∷ pairs else p ∷ with_entry key v pairs)
set_first true f key v p pairs later = refl
set_first false f key v p pairs later = set_behind f key v p pairs (key_place key pairs) ∙ later (λ ps. f (p ∷ ps))

set_is : (key v : Value) (pairs : List (Value × Value)) (f : List (Value × Value) → Effect) → set f key v (key_place key pairs) pairs ≡ f (with_entry key v pairs)
set_is key v [] f = refl
set_is key v (p ∷ pairs) f = set_first (is_equal p.0 key) f key v p pairs (set_is key v pairs)

set_by : (k : ℕ) (key v : Value) (pairs : List (Value × Value)) (w : World) (o : Option ℕ) → entry_set k o pairs key v w ≡ set (λ ps. Acting (with_object k (DictObj ps) w)) key v o pairs
set_by k key v pairs w None = refl
set_by k key v pairs w (Some i) = refl

-- a primitive without a result does what the source does, which gives None
pub record Done (s : State) (found : Effect) (res : Outcome Value) : Type 0 where
  pub behind : State
  pub leaves : LeavesVariables s behind
  pub effects : found ≡ Acting (world None behind)
  pub does : res ≡ Gives NoneVal behind

abbrev put_under : ℕ → Value → Value → List (Value × Value) → Does Value
put_under k key v pairs = put k (DictObj (with_entry key v pairs)) >> give NoneVal

pub entry_done : (d key v : Value) (p : Program) (s : State) → IsStuck (entry_put d key v s) ⊎ Done s (effect p (prim.Dict dict.SetItem) (Given d ∷ Given key ∷ Given v ∷ []) (world None s)) (entry_put d key v s)
entry_done (ObjVal k) key v p s =
    keyed_acts (Done s) s (λ j o pairs. entry_set k o pairs key v (world None s)) (set_dict_item (ObjVal k) key v >> give NoneVal) (λ o. on_to (as_dict (λ k ps. put k (DictObj (with_entry key v ps))) k o s) (λ u. give NoneVal)) key
    (λ j pairs. inr record {
      behind = behind_put k (DictObj (with_entry key v pairs)) s;
      leaves = record { locals = refl; turns = refl };
      effects = set_by k key v pairs (world None s) (key_place key pairs) ∙ set_is key v pairs (λ ps. Acting (with_object k (DictObj ps) (world None s)));
      does = refl;
    })
    (λ items. refl) (λ c vs. refl) refl (slice_get s.store k) refl
entry_done d key v p s = inl (s, needs_stuck (may_be_key key) (set_dict_item d key v >> give NoneVal) s refl)
