-- A step keeps every count equal to the number of places that hold the cell.
use Rattle.std.proofs.Common.{◌≡◌, refl, sym, ◌∙◌, ap, subst, ℕ, zero, suc, ◌+◌, arith, Bool, true, false, cond, List, [], ◌∷◌, ◌++◌, length, take, drop, Option, Some, None}
use Rattle.std.specs.Prelude.{map, not, int_lt, ◌==◌, ◌≤◌, ℤ, pos, negsuc, ◌&&◌, slice_get, slice_set, is_some, Result, Ok, Err}
use Rattle.std.specs.Ordering.{int_eq}
use Rattle.std.specs.Option.{option_and_then, option_map}
use Rattle.std.specs.Str.{bytes_eq}
use Rattle.std.specs.Str.Parse.{signed_digits_value}
use Rattle.value_core.specs.declared.arith.Arith.{Arith}
use Rattle.value_core.specs.declared.exception.ExcClass.{ExcClass}
use Rattle.value_core.specs.Characters.{place_of}
use Rattle.value_core.specs.Arithmetic.{is_short, int_add, int_sub, int_mul, int_neg, int_floor_div, int_modulo, int_shl, int_shr, int_to_i64, i64_floor_div, i64_modulo, i64_shl, i64_shr}
use Rattle.value_core.specs.Exceptions.{Thrown, class_named, is_under}
use Rattle.value_core.specs.Items as item
use Rattle.value_core.specs.Items.{Items}
use Rattle.c_core.specs.declared.code.CArg.{CArg}
use Rattle.c_core.specs.declared.code.CArg.TheVariants as arg
use Rattle.c_core.specs.declared.code.Kind.{Kind}
use Rattle.c_core.specs.declared.code.Kind.TheVariants.{Tagged, Object}
use Rattle.c_core.specs.declared.code.Line.{Line}
use Rattle.c_core.specs.declared.code.Line.TheVariants.{Label, Move, Lit, Call, Virtual, TraitCall, Goto, If, IfError, Turn, Return, Inc, Dec, XDec}
use Rattle.c_core.specs.declared.code.CClass.{CClass}
use Rattle.c_core.specs.declared.code.Code.{Code}
use Rattle.c_core.specs.declared.fault.Fault.{Fault}
use Rattle.c_core.specs.declared.fault.Fault.TheVariants as fault
use Rattle.c_core.specs.declared.primitive.Primitive.{Primitive}
use Rattle.c_core.specs.declared.primitive.Primitive.TheVariants as prim
use Rattle.c_core.specs.declared.primitive.Int64Prim.TheVariants as int64
use Rattle.c_core.specs.declared.primitive.TaggedPrim.TheVariants as tagged
use Rattle.c_core.specs.declared.primitive.BoolPrim.TheVariants as bool
use Rattle.c_core.specs.declared.primitive.ObjectPrim.TheVariants as object
use Rattle.c_core.specs.declared.primitive.StrPrim.TheVariants as str
use Rattle.c_core.specs.declared.primitive.ListPrim.TheVariants as list
use Rattle.c_core.specs.declared.primitive.DictPrim.TheVariants as dict
use Rattle.c_core.specs.declared.primitive.TuplePrim.TheVariants as tuple
use Rattle.c_core.specs.declared.primitive.InstancePrim.TheVariants as instance
use Rattle.c_core.specs.declared.primitive.AttrPrim.TheVariants as attr
use Rattle.c_core.specs.declared.primitive.GlobalPrim.TheVariants as global
use Rattle.c_core.specs.declared.primitive.ExcPrim.TheVariants as exc
use Rattle.c_core.specs.declared.primitive.ErrPrim.TheVariants as err
use Rattle.c_core.specs.declared.primitive.IoPrim.TheVariants as io
use Rattle.c_core.specs.Cells.{same, times, count_at, content_at, take_one, refill, make}
use Rattle.c_core.specs.Ledgers.{Ledger, more, more_of}
use Rattle.c_core.specs.Release.{uses, release}
use Rattle.c_core.specs.Machine.{Word, ShortInt, BigInt, TaggedError, Native, CharWord, ObjectCell, NoneObject, TrueObject, FalseObject, NoObject, Content, IntCell, StrCell, ListCell, DictCell, TupleCell, InstCell, ExcCell, refs_of, refs, pair_refs, refs_in, set_refs, Frame, MachineState}
use Rattle.c_core.specs.Holders.{pending_refs, owned_below}
use Rattle.c_core.specs.Functions.{function_named, method_at, trait_method_at}
use Rattle.c_core.specs.Keys.{Key, key_place}
use Rattle.c_core.specs.Primitives.{KindAt, Is, OfGlobal, OfSlot, Holding, Anything, AKey, Parameter, Borrows, Steals, MaySteal, TakesNumber, TakesPlace, TakesText, TakesDecimal, TakesException, TakesGlobal, TakesClass, row_of, primitive_named}
use Rattle.c_core.specs.Arguments.{Argument, Cell, Plain, Written, int_in, key_as, kind_of_global, kind_of_slot, number_of_global, number_of_class, word_in, words_in, stolen_from, stolen}
use Rattle.c_core.specs.Step.{Next, Goes, Ends, Faulted, Effect, Wrong, Says, Shares, Lends, Makes, Changes, Writes, Stores, Fails, Pends, Catches, MakesInt, Reads, Skips, Stops, truth_word, truth_object, native_or, tagged_effect, tagged_or, fitted, written_int, of_int, of_ints, unboxed, native_in, of_word, item_at, put_at, popped, lent, of_key, of_pair, value_at, entry_set, entry_cut, sized, key_at, instance_of, attribute_at, slot_got, attribute_got, slot_set, attribute_set, of_words, part_at, item_or, line_read, global_at, got, stored, set_to, made_exception, pending_exception, matched, caught, took, shared, raise, effect, with_ledger, with_cells, with_target, next_line, own, literal_word, equals_error, kind_of, label_at, applied, given, call_step, method_called, turned, if_return, if_result, if_none_left, step_at, line_at, step}
use Rattle.c_core.specs.Strings.{writes_long, counted_length, text_less, text_length, text_item}
use Rattle.c_core.specs.Run.{Stop, go_on, start, most_steps}
use Rattle.c_core.specs.Laws.{IsCounted, IsCountedAfter, Reaches, Here, There, RunKeepsCounts}
use Rattle.c_core.proofs.Lines.{and_true}
use Rattle.c_core.proofs.ReleaseLemmas.{times-append, release_keeps}
use Rattle.c_core.proofs.CountLemmas.{same_self, there, held-uses, count-make, count-take_one, count-refill, uses-make, uses-take_one, uses-refill}
use Rattle.c_core.proofs.ItemLemmas.{refs-append, refs-one, refs-at, refs-set, refs-last, last_place, pairs-append, pairs-one, pairs-at, pairs-set, pairs-cut}
use Rattle.c_core.proofs.LedgerLemmas.{more-times, more_of-times}
use Rattle.c_core.proofs.StepCases.{Leaves, AreThere, IsCalm, at_some, at_calm, at_word, at_there, at_called, at_function, at_method, at_jumped, at_chosen, at_incremented, at_decremented, at_decremented_if_set, at_order, at_ended, at_result}

-- a cell is there
abbrev pub HasCell : MachineState → ℕ → Type 0
HasCell s c = (v : Content) × (content_at s.cells c ≡ Some v)

-- a primitive makes no references: a new cell, and a new content, holds what was stolen
abbrev pub Fair : MachineState → Effect → List ℕ → Type 0
Fair s Wrong gone = Unit {0}
Fair s (Says w) gone = (c : ℕ) → times (refs_of w) c ≡ 0
Fair s (Shares w) gone = (c : ℕ) → 1 ≤ times (refs_of w) c → HasCell s c
Fair s (Lends w) gone = Unit {0}
Fair s (Makes content) gone = (c : ℕ) → times (refs_in content) c ≡ times gone c
Fair s (Changes c content w up) gone =
    (old : Content) × (content_at s.cells c ≡ Some old) × ((d : ℕ) → times (refs_in content) d + (times (refs_of w) d + times up d) ≡ times (refs_in old) d + times gone d)
Fair s (Writes text) gone = Unit {0}
Fair s (Stores n old new) gone =
    (slice_get s.globals n ≡ Some old) × ((c : ℕ) → times (set_refs (new ∷ [])) c ≡ times gone c)
Fair s (Fails w e) gone = s.pending ≡ None
Fair s (Pends c) gone = (s.pending ≡ None) × ((d : ℕ) → times gone d ≡ same c d)
Fair s (Catches c) gone = (s.pending ≡ Some c) × ((d : ℕ) → times gone d ≡ 0)
Fair s (MakesInt n) gone = (c : ℕ) → times gone c ≡ 0
Fair s (Reads text next) gone = (c : ℕ) → times gone c ≡ 0
Fair s (Skips next w e) gone = s.pending ≡ None
Fair s (Stops e) gone = Unit {0}

truth_fair : (b : Bool) (c : ℕ) → times (refs_of (truth_word b)) c ≡ 0
truth_fair true c = refl
truth_fair false c = refl

-- ---- globals
-- what a global holds is held by the globals
held_global : (gs : List (Option Word)) (n : ℕ) (w : Word) (c : ℕ) → slice_get gs n ≡ Some (Some w) → times (refs_of w) c ≤ times (set_refs gs) c
held_global [] n w c e = cc
held_global (None ∷ gs) zero w c e = cc
held_global (Some v ∷ gs) zero w c e =
    let same_word : v ≡ w = cc in omega (arith, ap (λ z. times (refs_of z) c) same_word, times-append (refs_of v) (set_refs gs) c)
held_global (None ∷ gs) (suc n) w c e = held_global gs n w c e
held_global (Some v ∷ gs) (suc n) w c e = omega (arith, held_global gs n w c e, times-append (refs_of v) (set_refs gs) c)

-- what is there of one place and of the places behind it
set_refs-step : (o : Option Word) (gs : List (Option Word)) (c : ℕ) → times (set_refs (o ∷ gs)) c ≡ times (set_refs (o ∷ [])) c + times (set_refs gs) c
set_refs-step None gs c = omega arith
set_refs-step (Some w) gs c = omega (arith, times-append (refs_of w) (set_refs gs) c, times-append (refs_of w) [] c)

-- a write puts what is new in the place of what was there
set_global : (gs : List (Option Word)) (n : ℕ) (old new : Option Word) (c : ℕ) → slice_get gs n ≡ Some old → times (set_refs (slice_set gs n new)) c + times (set_refs (old ∷ [])) c ≡ times (set_refs gs) c + times (set_refs (new ∷ [])) c
set_global [] n old new c e = cc
set_global (o ∷ gs) zero old new c e =
    let same_one : o ≡ old = cc in
    omega (arith, ap (λ z. times (set_refs (z ∷ [])) c) same_one, set_refs-step o gs c, set_refs-step new gs c)
set_global (o ∷ gs) (suc n) old new c e =
    omega (arith, set_global gs n old new c e, set_refs-step o gs c, set_refs-step o (slice_set gs n new) c)

-- the effects of reads and writes, where o is what was found at the number n
get_fair : (s : MachineState) (ok : IsCounted s) (name : List ℕ) (k : Option Kind) (n : Option ℕ) (o : Option (Option Word)) → o ≡ option_and_then (slice_get s.globals) n → s.pending ≡ None → Fair s (got name k o) []
get_fair s ok name None n o e calm = tt
get_fair s ok name (Some k) n None e calm = tt
get_fair s ok name (Some k) n (Some None) e calm = calm
get_fair s ok name (Some k) None (Some (Some w)) e calm = cc
get_fair s ok name (Some k) (Some n) (Some (Some w)) e calm =
    λ c held. there s.cells c (omega (arith, ok c, held, held_global s.globals n w c (sym e)))

store_fair : (s : MachineState) (n : Option ℕ) (o : Option (Option Word)) (new : Option Word) (gone : List ℕ) → o ≡ option_and_then (slice_get s.globals) n → ((c : ℕ) → times (set_refs (new ∷ [])) c ≡ times gone c) → Fair s (stored n o new) gone
store_fair s None o new gone e is = tt
store_fair s (Some n) None new gone e is = tt
store_fair s (Some n) (Some old) new gone e is = (sym e, is)

set_fair : (s : MachineState) (n : Option ℕ) (o : Option (Option Word)) (k : Option Kind) (a : Argument) → o ≡ option_and_then (slice_get s.globals) n → Fair s (set_to n o (option_and_then (λ k. word_in k a) k)) (stolen (Steals OfGlobal Anything ∷ []) (a ∷ []))
set_fair s n o None a e = tt
set_fair s n o (Some Tagged) (Cell c x) e = store_fair s n o _ _ e (λ d. refl)
set_fair s n o (Some Object) (Cell c x) e = store_fair s n o _ _ e (λ d. refl)
set_fair s n o (Some k) (Plain (BigInt c)) e = tt
set_fair s n o (Some k) (Plain (ObjectCell c)) e = tt
set_fair s n o (Some k) (Plain w) e = store_fair s n o _ _ e (λ d. refl)
set_fair s n o (Some k) _ e = tt

-- ---- rows
native_fair : (s : MachineState) (r : Result ℤ Arith) → s.pending ≡ None → Fair s (native_or r) []
native_fair s (Ok n) calm = λ c. refl
native_fair s (Err f) calm = calm

choice_fair : (s : MachineState) (b : Bool) (e f : Effect) → Fair s e [] → Fair s f [] → Fair s (cond b e f) []
choice_fair s true e f first second = first
choice_fair s false e f first second = second

tagged_fair : (s : MachineState) (n : ℤ) → Fair s (tagged_effect n) []
tagged_fair s n = choice_fair s (is_short n) _ _ (λ c. refl) (λ c. refl)

tagged_or_fair : (s : MachineState) (r : Result ℤ Arith) → s.pending ≡ None → Fair s (tagged_or r) []
tagged_or_fair s (Ok n) calm = tagged_fair s n
tagged_or_fair s (Err f) calm = calm

written_fair : (s : MachineState) (text : List ℕ) (n : ℤ) → Fair s (written_int text n) []
written_fair s text n =
    choice_fair s (writes_long text n) (MakesInt n) Wrong (λ c. refl) tt

fitted_fair : (s : MachineState) (r : Result ℤ Arith) → s.pending ≡ None → Fair s (fitted r) []
fitted_fair s (Ok n) calm = λ c. refl
fitted_fair s (Err f) calm = calm

of_int_fair_any : (s : MachineState) (f : ℤ → Effect) (o : Option ℤ) (gone : List ℕ) → ((n : ℤ) → Fair s (f n) gone) → Fair s (of_int f o) gone
of_int_fair_any s f None gone each = tt
of_int_fair_any s f (Some n) gone each = each n

of_int_fair : (s : MachineState) (f : ℤ → Effect) (o : Option ℤ) → ((n : ℤ) → Fair s (f n) []) → Fair s (of_int f o) []
of_int_fair s f None each = tt
of_int_fair s f (Some n) each = each n

of_ints_fair : (s : MachineState) (f : ℤ → ℤ → Effect) (o p : Option ℤ) → ((m n : ℤ) → Fair s (f m n) []) → Fair s (of_ints f o p) []
of_ints_fair s f o p each = of_int_fair s _ o (λ m. of_int_fair s (f m) p (each m))

-- arithmetic, and comparisons
sum_fair : (s : MachineState) (f : ℤ → ℤ → Result ℤ Arith) (a b : Argument) → s.pending ≡ None → Fair s (of_ints (λ m n. tagged_or (f m n)) (int_in a) (int_in b)) []
sum_fair s f a b calm = of_ints_fair s _ (int_in a) (int_in b) (λ m n. tagged_or_fair s (f m n) calm)

test_fair : (s : MachineState) (f : ℤ → ℤ → Bool) (a b : Argument) → Fair s (of_ints (λ m n. Says (truth_word (f m n))) (int_in a) (int_in b)) []
test_fair s f a b = of_ints_fair s _ (int_in a) (int_in b) (λ m n. truth_fair (f m n))

item_fair : (s : MachineState) (o : Option (List ℕ)) → s.pending ≡ None → Fair s (item_or o) []
item_fair s None calm = calm
item_fair s (Some text) calm = λ c. refl

-- ---- cells with words
same_cell : (c d : ℕ) → 1 ≤ same c d → d ≡ c
same_cell zero zero le = refl
same_cell zero (suc d) le = absurd (omega (arith, le))
same_cell (suc c) zero le = absurd (omega (arith, le))
same_cell (suc c) (suc d) le = ap suc (same_cell c d le)

-- the references of a content that is there are to cells that are there
item_there : (s : MachineState) (ok : IsCounted s) (c d : ℕ) (v : Content) → content_at s.cells c ≡ Some v → 1 ≤ times (refs_in v) d → HasCell s d
item_there s ok c d v e held = there s.cells d (omega (arith, ok d, held-uses refs_in s.cells c d v e, held))

cell_there : (s : MachineState) (c : ℕ) (v : Content) → content_at s.cells c ≡ Some v → (d : ℕ) → 1 ≤ same c d + 0 → HasCell s d
cell_there s c v e d held = (v, ap (content_at s.cells) (same_cell c d (omega (arith, held))) ∙ e)

of_word_fair : (s : MachineState) (f : Word → Effect) (gone : List ℕ) (o : Option Word) → ((w : Word) → o ≡ Some w → Fair s (f w) gone) → Fair s (of_word f o) gone
of_word_fair s f gone None each = tt
of_word_fair s f gone (Some w) each = each w refl

-- a word that was stolen has the references that left the ledger
given_fair : (s : MachineState) (f : Word → Effect) (a : Argument) → ((w : Word) (gone : List ℕ) → ((d : ℕ) → times (refs_of w) d ≡ times gone d) → Fair s (f w) gone) → Fair s (of_word f (word_in Object a)) (stolen_from (Steals (Is Object) Anything) a ++ [])
given_fair s f (Cell c x) each = each (ObjectCell c) _ (λ d. refl)
given_fair s f (Plain (BigInt c)) each = tt
given_fair s f (Plain (ObjectCell c)) each = tt
given_fair s f (Plain w) each = each w [] (λ d. refl)
given_fair s f (Written a) each = tt

append_fair : (s : MachineState) (c : ℕ) (items : List Word) → content_at s.cells c ≡ Some (ListCell items) → (w : Word) (gone : List ℕ) → ((d : ℕ) → times (refs_of w) d ≡ times gone d) → Fair s (Changes c (ListCell (items ++ w ∷ [])) NoneObject []) gone
append_fair s c items e w gone is =
    (ListCell items, e, λ d. omega (arith, is d, refs-append items (w ∷ []) d, refs-one w d))

item_at_fair : (s : MachineState) (ok : IsCounted s) (c : ℕ) (items : List Word) → content_at s.cells c ≡ Some (ListCell items) → s.pending ≡ None → (o : Option ℕ) → Fair s (item_at o items) []
item_at_fair s ok c items e calm None = calm
item_at_fair s ok c items e calm (Some i) =
    of_word_fair s Shares [] (slice_get items i) (λ w at d held. item_there s ok c d (ListCell items) e (omega (arith, held, refs-at items i w d at)))

-- what a word of a stolen object refers to has left the ledger
abbrev steals : Parameter → Bool
steals (Steals k h) = true
steals (MaySteal k h) = true
steals _ = false

abbrev all_steal : List Parameter → Bool
all_steal [] = true
all_steal (p ∷ ps) = steals p && all_steal ps

refs_lost : (k : KindAt) (h : Holding) (a : Argument) (w : Word) (d : ℕ) → word_in Object a ≡ Some w → times (refs_of w) d ≡ times (stolen_from (Steals k h) a) d
refs_lost k h (Cell c x) w d e = let g : ObjectCell c ≡ w = cc in ap (λ z. times (refs_of z) d) (sym g)
refs_lost k h (Plain (BigInt c)) w d e = cc
refs_lost k h (Plain (ObjectCell c)) w d e = cc
refs_lost k h (Plain (ShortInt n)) w d e = let g : ShortInt n ≡ w = cc in ap (λ z. times (refs_of z) d) (sym g)
refs_lost k h (Plain TaggedError) w d e = let g : TaggedError ≡ w = cc in ap (λ z. times (refs_of z) d) (sym g)
refs_lost k h (Plain (Native n)) w d e = let g : Native n ≡ w = cc in ap (λ z. times (refs_of z) d) (sym g)
refs_lost k h (Plain (CharWord n)) w d e = let g : CharWord n ≡ w = cc in ap (λ z. times (refs_of z) d) (sym g)
refs_lost k h (Plain NoneObject) w d e = let g : NoneObject ≡ w = cc in ap (λ z. times (refs_of z) d) (sym g)
refs_lost k h (Plain TrueObject) w d e = let g : TrueObject ≡ w = cc in ap (λ z. times (refs_of z) d) (sym g)
refs_lost k h (Plain FalseObject) w d e = let g : FalseObject ≡ w = cc in ap (λ z. times (refs_of z) d) (sym g)
refs_lost k h (Plain NoObject) w d e = let g : NoObject ≡ w = cc in ap (λ z. times (refs_of z) d) (sym g)
refs_lost k h (Written a) w d e = cc

word_lost : (p : Parameter) (a : Argument) (w : Word) (d : ℕ) → steals p ≡ true → word_in Object a ≡ Some w → times (refs_of w) d ≡ times (stolen_from p a) d
word_lost (Steals k h) a w d s e = refs_lost k h a w d e
word_lost (MaySteal k h) a w d s e = refs_lost k h a w d e
word_lost (Borrows k h) a w d s e = cc
word_lost TakesNumber a w d s e = cc
word_lost TakesPlace a w d s e = cc
word_lost TakesText a w d s e = cc
word_lost TakesDecimal a w d s e = cc
word_lost TakesException a w d s e = cc
word_lost TakesGlobal a w d s e = cc
word_lost TakesClass a w d s e = cc

-- the words that are put into a tuple are what was stolen
pack_by : (s : MachineState) (ps : List Parameter) (all : List Argument) (gone : List ℕ) → AreThere s ps all → all_steal ps ≡ true → (f : List Word → Effect) → ((ws : List Word) → ((d : ℕ) → times (refs ws) d ≡ times (stolen ps all) d) → Fair s (f ws) gone) → Fair s (of_words f (words_in all)) gone
pack_by s [] [] gone here steal f each = each [] (λ d. refl)
pack_by s (p ∷ ps) [] gone here steal f each = each [] (λ d. refl)
pack_by s [] (a ∷ rest) gone here steal f each = absurd here
pack_by s (p ∷ ps) (a ∷ rest) gone here steal f each =
    by (word_in Object a) refl (pack_by s ps rest gone here.1 (and_true (steals p) (all_steal ps) steal).1)
  where
    both : (steals p ≡ true) × (all_steal ps ≡ true)
    both = and_true (steals p) (all_steal ps) steal

    rests : (o : Option (List Word)) → (w : Word) → Fair s (of_words (λ ws. f (w ∷ ws)) o) gone → Fair s (of_words f (option_map (λ ws. w ∷ ws) o)) gone
    rests None w h = h
    rests (Some ws) w h = h

    by : (o : Option Word) → word_in Object a ≡ o → ((g : List Word → Effect) → ((ws : List Word) → ((d : ℕ) → times (refs ws) d ≡ times (stolen ps rest) d) → Fair s (g ws) gone) → Fair s (of_words g (words_in rest)) gone) → Fair s (of_words f (option_and_then (λ w. option_map (λ ws. w ∷ ws) (words_in rest)) o)) gone
    by None is later = tt
    by (Some w) is later =
        rests (words_in rest) w (later (λ ws. f (w ∷ ws)) (λ ws h. each (w ∷ ws) (λ d. omega (arith, h d, word_lost p a w d both.0 is, times-append (refs_of w) (refs ws) d, times-append (stolen_from p a) (stolen ps rest) d))))

part_fair : (s : MachineState) (ok : IsCounted s) (c : ℕ) (items : List Word) → content_at s.cells c ≡ Some (TupleCell items) → (n : ℤ) → Fair s (part_at items n) []
part_fair s ok c items e (pos i) =
    of_word_fair s Shares [] (slice_get items i) (λ w at d held. item_there s ok c d (TupleCell items) e (omega (arith, held, refs-at items i w d at)))
part_fair s ok c items e (negsuc i) = tt

put_fair : (s : MachineState) (c : ℕ) (items : List Word) → content_at s.cells c ≡ Some (ListCell items) → s.pending ≡ None → (o : Option ℕ) (w : Word) (gone : List ℕ) → ((d : ℕ) → times (refs_of w) d ≡ times gone d) → Fair s (put_at c o items w) gone
put_fair s c items e calm None w gone is = calm
put_fair s c items e calm (Some i) w gone is =
    of_word_fair s _ gone (slice_get items i) (λ old at. (ListCell items, e, λ d. omega (arith, is d, refs-set items i old w d at)))

popped_fair : (s : MachineState) (c : ℕ) (items : List Word) → content_at s.cells c ≡ Some (ListCell items) → s.pending ≡ None → (o : Option ℕ) → place_of (length items) (negsuc 0) ≡ o → Fair s (popped c o items) []
popped_fair s c items e calm None last = calm
popped_fair s c items e calm (Some i) last =
    of_word_fair s _ [] (slice_get items i) (λ w at. (ListCell items, e, λ d. omega (arith, refs-last items i w d at (last_place (length items) i last))))

-- ---- what is lent
lent_fair : (s : MachineState) (e : Effect) → Fair s e [] → Fair s (lent e) []
lent_fair s (Shares w) f = tt
lent_fair s _ f = f

-- ---- dicts
of_key_fair : (s : MachineState) (f : Key → Effect) (gone : List ℕ) (o : Option Key) → ((k : Key) → Fair s (f k) gone) → Fair s (of_key f o) gone
of_key_fair s f gone None each = tt
of_key_fair s f gone (Some k) each = each k

of_pair_fair : (s : MachineState) (f : Word × Word → Effect) (gone : List ℕ) (o : Option (Word × Word)) → ((p : Word × Word) → o ≡ Some p → Fair s (f p) gone) → Fair s (of_pair f o) gone
of_pair_fair s f gone None each = tt
of_pair_fair s f gone (Some p) each = each p refl

value_fair : (s : MachineState) (ok : IsCounted s) (c : ℕ) (pairs : List (Word × Word)) → content_at s.cells c ≡ Some (DictCell pairs) → s.pending ≡ None → (k : Key) (o : Option ℕ) → Fair s (value_at k o pairs) []
value_fair s ok c pairs e calm k None = calm
value_fair s ok c pairs e calm k (Some i) =
    of_pair_fair s _ [] (slice_get pairs i) (λ p at d held. item_there s ok c d (DictCell pairs) e (omega (arith, held, pairs-at pairs i p d at)))

-- a pair is put behind the others, or a value takes another one's place, and the key that came is given up
entry_fair : (s : MachineState) (c : ℕ) (pairs : List (Word × Word)) → content_at s.cells c ≡ Some (DictCell pairs) → (o : Option ℕ) (key w : Word) (gone : List ℕ) → ((d : ℕ) → times (refs_of key) d + times (refs_of w) d ≡ times gone d) → Fair s (entry_set c o pairs key w) gone
entry_fair s c pairs e None key w gone is =
    (DictCell pairs, e, λ d. omega (arith, is d, pairs-append pairs ((key, w) ∷ []) d, pairs-one (key, w) d))
entry_fair s c pairs e (Some i) key w gone is =
    of_pair_fair s _ gone (slice_get pairs i)
    (λ p at. (DictCell pairs, e, λ d. omega (arith, is d, pairs-set pairs i p (p.0, w) d at, times-append (refs_of key) (refs_of p.1) d)))

-- the key and the value that were stolen
pair_fair : (s : MachineState) (c : ℕ) (pairs : List (Word × Word)) → content_at s.cells c ≡ Some (DictCell pairs) → (o : Option ℕ) (a b : Argument) → Fair s (of_word (λ key. of_word (entry_set c o pairs key) (word_in Object b)) (word_in Object a)) (stolen_from (Steals (Is Object) AKey) a ++ (stolen_from (Steals (Is Object) Anything) b ++ []))
pair_fair s c pairs e o a b =
    of_word_fair s _ _ (word_in Object a)
    (λ key first. of_word_fair s _ _ (word_in Object b)
    (λ w second. entry_fair s c pairs e o key w _
    (λ d. omega (arith, refs_lost (Is Object) AKey a key d first, refs_lost (Is Object) Anything b w d second, times-append (stolen_from (Steals (Is Object) AKey) a) (stolen_from (Steals (Is Object) Anything) b ++ []) d, times-append (stolen_from (Steals (Is Object) Anything) b) [] d))))

cut_fair : (s : MachineState) (c : ℕ) (pairs : List (Word × Word)) → content_at s.cells c ≡ Some (DictCell pairs) → s.pending ≡ None → (k : Key) (o : Option ℕ) → Fair s (entry_cut c k o pairs) []
cut_fair s c pairs e calm k None = calm
cut_fair s c pairs e calm k (Some i) =
    let next : i + 1 ≡ suc i = omega arith in
    of_pair_fair s _ [] (slice_get pairs i)
    (λ p at. (DictCell pairs, e, λ d. omega (arith, pairs-cut pairs i p d at, ap (λ j. times (pair_refs (take i pairs ++ drop j pairs)) d) next, times-append (refs_of p.0) (refs_of p.1) d)))

sized_fair : (s : MachineState) (b : Bool) → s.pending ≡ None → Fair s (sized b) []
sized_fair s true calm = λ d. refl
sized_fair s false calm = calm

key_fair : (s : MachineState) (ok : IsCounted s) (c : ℕ) (pairs : List (Word × Word)) → content_at s.cells c ≡ Some (DictCell pairs) → (n : ℤ) → Fair s (key_at pairs n) []
key_fair s ok c pairs e (pos i) =
    of_pair_fair s _ [] (slice_get pairs i) (λ p at d held. item_there s ok c d (DictCell pairs) e (omega (arith, held, pairs-at pairs i p d at)))
key_fair s ok c pairs e (negsuc i) = tt

-- ---- instances
none_set : {A : Type 0} (xs : List A) (c : ℕ) → times (set_refs (map (λ x. None) xs)) c ≡ 0
none_set [] c = refl
none_set (x ∷ xs) c = none_set xs c

instance_fair : (s : MachineState) (n : Option ℕ) (k : Option CClass) → Fair s (instance_of n k) []
instance_fair s None k = tt
instance_fair s (Some n) None = tt
instance_fair s (Some n) (Some k) = none_set k.attrs

slot_got_fair : (s : MachineState) (ok : IsCounted s) (c class : ℕ) (attributes : List (Option Word)) → content_at s.cells c ≡ Some (InstCell class attributes) → s.pending ≡ None → (name : List ℕ) (i : ℕ) (a : Option (List ℕ × Kind)) (o : Option (Option Word)) → slice_get attributes i ≡ o → Fair s (slot_got name a o) []
slot_got_fair s ok c class attributes e calm name i None o at = tt
slot_got_fair s ok c class attributes e calm name i (Some a) None at = tt
slot_got_fair s ok c class attributes e calm name i (Some a) (Some None) at = calm
slot_got_fair s ok c class attributes e calm name i (Some a) (Some (Some w)) at =
    λ d held. item_there s ok c d (InstCell class attributes) e (omega (arith, held, held_global attributes i w d at))

attribute_fair : (s : MachineState) (ok : IsCounted s) (c class : ℕ) (attributes : List (Option Word)) → content_at s.cells c ≡ Some (InstCell class attributes) → s.pending ≡ None → (k : Option CClass) (n : ℤ) → Fair s (attribute_got k n (attribute_at attributes n)) []
attribute_fair s ok c class attributes e calm None n = tt
attribute_fair s ok c class attributes e calm (Some k) (pos i) =
    slot_got_fair s ok c class attributes e calm k.name i (slice_get k.attrs i) (slice_get attributes i) refl
attribute_fair s ok c class attributes e calm (Some k) (negsuc i) = tt

slot_set_fair : (s : MachineState) (c class i : ℕ) (attributes : List (Option Word)) → content_at s.cells c ≡ Some (InstCell class attributes) → (w : Word) (gone : List ℕ) → ((d : ℕ) → times (refs_of w) d ≡ times gone d) → (o : Option (Option Word)) → slice_get attributes i ≡ o → Fair s (slot_set c class i attributes w o) gone
slot_set_fair s c class i attributes e w gone is None at = tt
slot_set_fair s c class i attributes e w gone is (Some old) at =
    (InstCell class attributes, e, λ d. omega (arith, is d, set_global attributes i old (Some w) d at, times-append (refs_of w) [] d))

attribute_set_fair : (s : MachineState) (c class : ℕ) (attributes : List (Option Word)) → content_at s.cells c ≡ Some (InstCell class attributes) → (n : ℤ) (w : Word) (gone : List ℕ) → ((d : ℕ) → times (refs_of w) d ≡ times gone d) → Fair s (attribute_set c class n attributes w) gone
attribute_set_fair s c class attributes e (pos i) w gone is = slot_set_fair s c class i attributes e w gone is (slice_get attributes i) refl
attribute_set_fair s c class attributes e (negsuc i) w gone is = tt

-- a word of the kind of a slot that was stolen has the references that left the ledger
kept_fair : (s : MachineState) (f : Word → Effect) (k : Option Kind) (a : Argument) → ((w : Word) (gone : List ℕ) → ((d : ℕ) → times (refs_of w) d ≡ times gone d) → Fair s (f w) gone) → Fair s (of_word f (option_and_then (λ l. word_in l a) k)) (stolen_from (Steals OfSlot Anything) a ++ [])
kept_fair s f None a each = tt
kept_fair s f (Some Tagged) (Cell c x) each = each (BigInt c) _ (λ d. refl)
kept_fair s f (Some Object) (Cell c x) each = each (ObjectCell c) _ (λ d. refl)
kept_fair s f (Some k) (Plain (BigInt c)) each = tt
kept_fair s f (Some k) (Plain (ObjectCell c)) each = tt
kept_fair s f (Some k) (Plain w) each = each w [] (λ d. refl)
kept_fair s f (Some k) _ each = tt

unboxed_fair : (s : MachineState) (c : ℕ) (n : ℤ) → content_at s.cells c ≡ Some (IntCell n) → Fair s (unboxed c n) []
unboxed_fair s c n e = choice_fair s (is_short n) _ _ (λ d. refl) (cell_there s c (IntCell n) e)

native_in_fair : (s : MachineState) (r : Result ℤ Arith) → Fair s (native_in r) []
native_in_fair s (Ok n) = λ c. refl
native_in_fair s (Err f) = tt

object_fair : (n c : ℕ) → times (refs_of (truth_object n)) c ≡ 0
object_fair zero c = refl
object_fair (suc n) c = refl

line_fair : (s : MachineState) (items : Items) → s.pending ≡ None → Fair s (line_read items) []
line_fair s item.Eof calm = calm
line_fair s item.Broken calm = tt
line_fair s item.Over calm = tt
line_fair s (item.Line text next) calm = λ c. refl
line_fair s (item.Bad next) calm = calm

made_fair : (s : MachineState) (class : Option ExcClass) (text : List ℕ) → Fair s (made_exception class text) []
made_fair s None text = tt
made_fair s (Some c) text = λ d. refl

matched_fair : (s : MachineState) (class : Option ExcClass) (e : Option Thrown) → Fair s (matched class e) []
matched_fair s None e = tt
matched_fair s (Some c) None = tt
matched_fair s (Some c) (Some e) = truth_fair (is_under e.class c)

caught_fair : (s : MachineState) (o : Option ℕ) → s.pending ≡ o → Fair s (caught o) []
caught_fair s None e = tt
caught_fair s (Some c) e = (e, λ d. refl)

fair : (code : Code) (s : MachineState) (ok : IsCounted s) (p : Primitive) (all : List Argument) → IsCalm s (row_of p).while_pending → AreThere s (row_of p).parameters all → Fair s (effect code s p all) (stolen (row_of p).parameters all)
fair code s ok (prim.Int64 int64.Add) (Plain (Native a) ∷ Plain (Native b) ∷ []) calm here = λ c. refl
fair code s ok (prim.Int64 int64.Subtract) (Plain (Native a) ∷ Plain (Native b) ∷ []) calm here = λ c. refl
fair code s ok (prim.Int64 int64.Multiply) (Plain (Native a) ∷ Plain (Native b) ∷ []) calm here = λ c. refl
fair code s ok (prim.Int64 int64.Negate) (Plain (Native a) ∷ []) calm here = λ c. refl
fair code s ok (prim.Int64 int64.FloorDivide) (Plain (Native a) ∷ Plain (Native b) ∷ []) calm here = native_fair s (i64_floor_div a b) (calm refl)
fair code s ok (prim.Int64 int64.Remainder) (Plain (Native a) ∷ Plain (Native b) ∷ []) calm here = native_fair s (i64_modulo a b) (calm refl)
fair code s ok (prim.Int64 int64.Lshift) (Plain (Native a) ∷ Plain (Native b) ∷ []) calm here = native_fair s (i64_shl a b) (calm refl)
fair code s ok (prim.Int64 int64.Rshift) (Plain (Native a) ∷ Plain (Native b) ∷ []) calm here = native_fair s (i64_shr a b) (calm refl)
fair code s ok (prim.Int64 int64.FromBool) (Plain (CharWord n) ∷ []) calm here = λ c. refl
fair code s ok (prim.Int64 int64.Eq) (Plain (Native a) ∷ Plain (Native b) ∷ []) calm here = truth_fair (int_eq a b)
fair code s ok (prim.Int64 int64.Lt) (Plain (Native a) ∷ Plain (Native b) ∷ []) calm here = truth_fair (int_lt a b)
fair code s ok (prim.Int64 int64.Le) (Plain (Native a) ∷ Plain (Native b) ∷ []) calm here = truth_fair (not (int_lt b a))
fair code s ok (prim.Int64 int64.Str) (Plain (Native a) ∷ []) calm here = λ c. refl
fair code s ok (prim.Int64 int64.Box) (Plain (Native a) ∷ []) calm here = λ c. refl
fair code s ok (prim.Int64 int64.Unbox) (Cell c (IntCell n) ∷ []) calm here = native_in_fair s (int_to_i64 n)
fair code s ok (prim.Tagged tagged.Add) (a ∷ b ∷ []) calm here = sum_fair s int_add a b (calm refl)
fair code s ok (prim.Tagged tagged.Subtract) (a ∷ b ∷ []) calm here = sum_fair s int_sub a b (calm refl)
fair code s ok (prim.Tagged tagged.Multiply) (a ∷ b ∷ []) calm here = sum_fair s int_mul a b (calm refl)
fair code s ok (prim.Tagged tagged.Negate) (a ∷ []) calm here = of_int_fair s _ (int_in a) (λ n. tagged_or_fair s (int_neg n) (calm refl))
fair code s ok (prim.Tagged tagged.FloorDivide) (a ∷ b ∷ []) calm here = sum_fair s int_floor_div a b (calm refl)
fair code s ok (prim.Tagged tagged.Remainder) (a ∷ b ∷ []) calm here = sum_fair s int_modulo a b (calm refl)
fair code s ok (prim.Tagged tagged.Lshift) (a ∷ b ∷ []) calm here = sum_fair s int_shl a b (calm refl)
fair code s ok (prim.Tagged tagged.Rshift) (a ∷ b ∷ []) calm here = sum_fair s int_shr a b (calm refl)
fair code s ok (prim.Tagged tagged.FromText) (Written (arg.Text text) ∷ []) calm here = written_fair s text (signed_digits_value 10 text)
fair code s ok (prim.Tagged tagged.FromInt64) (Plain (Native n) ∷ []) calm here = tagged_fair s n
fair code s ok (prim.Tagged tagged.FromBool) (Plain (CharWord n) ∷ []) calm here = tagged_fair s (pos n)
fair code s ok (prim.Tagged tagged.AsInt64) (a ∷ []) calm here = of_int_fair s _ (int_in a) (λ n. fitted_fair s (int_to_i64 n) (calm refl))
fair code s ok (prim.Tagged tagged.Eq) (a ∷ b ∷ []) calm here = test_fair s int_eq a b
fair code s ok (prim.Tagged tagged.Lt) (a ∷ b ∷ []) calm here = test_fair s int_lt a b
fair code s ok (prim.Tagged tagged.Le) (a ∷ b ∷ []) calm here = test_fair s (λ m n. not (int_lt n m)) a b
fair code s ok (prim.Tagged tagged.Str) (a ∷ []) calm here = of_int_fair s _ (int_in a) (λ n c. refl)
fair code s ok (prim.Tagged tagged.Box) (Plain (ShortInt n) ∷ []) calm here = λ c. refl
fair code s ok (prim.Tagged tagged.Box) (Cell c (IntCell n) ∷ []) calm here = cell_there s c (IntCell n) here.0
fair code s ok (prim.Tagged tagged.Unbox) (Cell c (IntCell n) ∷ []) calm here = unboxed_fair s c n here.0
fair code s ok (prim.Bool bool.Not) (Plain (CharWord n) ∷ []) calm here = truth_fair (n == 0)
fair code s ok (prim.Bool bool.Str) (Plain (CharWord n) ∷ []) calm here = λ c. refl
fair code s ok (prim.Bool bool.Box) (Plain (CharWord n) ∷ []) calm here = object_fair n
fair code s ok (prim.Bool bool.Unbox) (Plain TrueObject ∷ []) calm here = λ c. refl
fair code s ok (prim.Bool bool.Unbox) (Plain FalseObject ∷ []) calm here = λ c. refl
fair code s ok (prim.Object object.IsNone) (Plain NoneObject ∷ []) calm here = λ c. refl
fair code s ok (prim.Object object.IsNone) (a ∷ []) calm here = λ c. refl
fair code s ok (prim.Str str.Literal) (Written (arg.Text text) ∷ []) calm here = λ c. refl
fair code s ok (prim.Str str.Concat) (Cell c (StrCell a) ∷ Cell d (StrCell b) ∷ []) calm here = λ e. refl
fair code s ok (prim.Str str.Eq) (Cell c (StrCell a) ∷ Cell d (StrCell b) ∷ []) calm here = truth_fair (bytes_eq a b)
fair code s ok (prim.Str str.Lt) (Cell c (StrCell a) ∷ Cell d (StrCell b) ∷ []) calm here = truth_fair (text_less a b)
fair code s ok (prim.Str str.Le) (Cell c (StrCell a) ∷ Cell d (StrCell b) ∷ []) calm here = truth_fair (not (text_less b a))
fair code s ok (prim.Str str.Len) (Cell c (StrCell text) ∷ []) calm here = tagged_fair s (text_length text)
fair code s ok (prim.Str str.GetItem) (Cell c (StrCell text) ∷ a ∷ []) calm here =
    of_int_fair s _ (int_in a) (λ i. item_fair s (text_item text i) (calm refl))
fair code s ok (prim.List list.New) [] calm here = λ c. refl
fair code s ok (prim.List list.Append) (Cell c (ListCell items) ∷ a ∷ []) calm here =
    given_fair s _ a (append_fair s c items here.0)
fair code s ok (prim.List list.GetItem) (Cell c (ListCell items) ∷ a ∷ []) calm here =
    of_int_fair s _ (int_in a) (λ i. item_at_fair s ok c items here.0 (calm refl) (place_of (length items) i))
fair code s ok (prim.List list.GetItemBorrow) (Cell c (ListCell items) ∷ a ∷ []) calm here =
    of_int_fair s _ (int_in a) (λ i. lent_fair s (item_at (place_of (length items) i) items) (item_at_fair s ok c items here.0 (calm refl) (place_of (length items) i)))
fair code s ok (prim.List list.SetItem) (Cell c (ListCell items) ∷ a ∷ b ∷ []) calm here =
    of_int_fair_any s _ (int_in a) _ (λ i. given_fair s _ b (put_fair s c items here.0 (calm refl) (place_of (length items) i)))
fair code s ok (prim.List list.Pop) (Cell c (ListCell items) ∷ []) calm here =
    popped_fair s c items here.0 (calm refl) (place_of (length items) (negsuc 0)) refl
fair code s ok (prim.List list.Len) (Cell c (ListCell items) ∷ []) calm here = tagged_fair s (pos (counted_length (length items)))
fair code s ok (prim.Dict dict.New) [] calm here = λ c. refl
fair code s ok (prim.Dict dict.GetItem) (Cell c (DictCell pairs) ∷ a ∷ []) calm here =
    of_key_fair s _ [] (key_as a) (λ k. value_fair s ok c pairs here.0 (calm refl) k (key_place s.cells k pairs))
fair code s ok (prim.Dict dict.SetItem) (Cell c (DictCell pairs) ∷ a ∷ b ∷ []) calm here =
    of_key_fair s _ _ (key_as a) (λ k. pair_fair s c pairs here.0 (key_place s.cells k pairs) a b)
fair code s ok (prim.Dict dict.DelItem) (Cell c (DictCell pairs) ∷ a ∷ []) calm here =
    of_key_fair s _ [] (key_as a) (λ k. cut_fair s c pairs here.0 (calm refl) k (key_place s.cells k pairs))
fair code s ok (prim.Dict dict.Contains) (Cell c (DictCell pairs) ∷ a ∷ []) calm here =
    of_key_fair s _ [] (key_as a) (λ k. truth_fair (is_some (key_place s.cells k pairs)))
fair code s ok (prim.Dict dict.CheckSize) (Cell c (DictCell pairs) ∷ a ∷ []) calm here =
    of_int_fair s _ (int_in a) (λ n. sized_fair s (int_eq (pos (counted_length (length pairs))) n) (calm refl))
fair code s ok (prim.Dict dict.KeyAt) (Cell c (DictCell pairs) ∷ a ∷ []) calm here =
    of_int_fair s _ (int_in a) (key_fair s ok c pairs here.0)
fair code s ok (prim.Dict dict.Len) (Cell c (DictCell pairs) ∷ []) calm here = tagged_fair s (pos (counted_length (length pairs)))
fair code s ok (prim.Tuple tuple.Pack) all calm here =
    pack_by s (row_of (prim.Tuple tuple.Pack)).parameters all _ here refl (λ ws. Makes (TupleCell ws)) (λ ws h. h)
fair code s ok (prim.Tuple tuple.GetItem) (Cell c (TupleCell items) ∷ Written (arg.Number n) ∷ []) calm here =
    part_fair s ok c items here.0 n
fair code s ok (prim.Tuple tuple.GetItemBorrow) (Cell c (TupleCell items) ∷ Written (arg.Number n) ∷ []) calm here =
    lent_fair s (part_at items n) (part_fair s ok c items here.0 n)
fair code s ok (prim.Tuple tuple.Len) (Cell c (TupleCell items) ∷ []) calm here = tagged_fair s (pos (counted_length (length items)))
fair code s ok (prim.Instance instance.New) (Written (arg.Class name) ∷ []) calm here =
    instance_fair s (number_of_class code name) (option_and_then (slice_get code.classes) (number_of_class code name))
fair code s ok (prim.Attr attr.Get) (Cell c (InstCell class attributes) ∷ Written (arg.Number n) ∷ []) calm here =
    attribute_fair s ok c class attributes here.0 (calm refl) (slice_get code.classes class) n
fair code s ok (prim.Attr attr.GetBorrow) (Cell c (InstCell class attributes) ∷ Written (arg.Number n) ∷ []) calm here =
    lent_fair s (attribute_got (slice_get code.classes class) n (attribute_at attributes n)) (attribute_fair s ok c class attributes here.0 (calm refl) (slice_get code.classes class) n)
fair code s ok (prim.Attr attr.Set) (Cell c (InstCell class attributes) ∷ Written (arg.Number n) ∷ a ∷ []) calm here =
    kept_fair s _ (kind_of_slot code class n) a (attribute_set_fair s c class attributes here.0 n)
fair code s ok (prim.Global global.Get) (Written (arg.Global name) ∷ []) calm here =
    get_fair s ok name (kind_of_global code name) (number_of_global code name) (global_at code s name) refl (calm refl)
fair code s ok (prim.Global global.Set) (Written (arg.Global name) ∷ a ∷ []) calm here =
    set_fair s (number_of_global code name) (global_at code s name) (kind_of_global code name) a refl
fair code s ok (prim.Global global.Clear) (Written (arg.Global name) ∷ []) calm here =
    store_fair s (number_of_global code name) (global_at code s name) None [] refl (λ c. refl)
fair code s ok (prim.Exc exc.New) (Written (arg.Text name) ∷ Cell c (StrCell text) ∷ []) calm here = made_fair s (class_named name) text
fair code s ok (prim.Exc exc.Str) (Cell c (ExcCell e) ∷ []) calm here = λ d. refl
fair code s ok (prim.Err err.SetObject) (Cell c (ExcCell e) ∷ []) calm here = (calm refl, λ d. omega arith)
fair code s ok (prim.Err err.Unbound) (Written (arg.Text name) ∷ []) calm here = calm refl
fair code s ok (prim.Err err.Occurred) [] calm here = truth_fair (is_some s.pending)
fair code s ok (prim.Err err.Matches) (Written (arg.Text name) ∷ []) calm here = matched_fair s (class_named name) (pending_exception s)
fair code s ok (prim.Err err.Catch) [] calm here = caught_fair s s.pending refl
fair code s ok (prim.Io io.Write) (Cell c (StrCell text) ∷ []) calm here = tt
fair code s ok (prim.Io io.Input) [] calm here = line_fair s s.items (calm refl)
fair code s ok _ _ calm here = tt

module _ (s : MachineState) (ok : IsCounted s) where
  bad : (f : Fault) → IsCountedAfter (Ends (Faulted f) s)
  bad f = ok

  -- a new cell is held by the frame, and holds what left the ledger
  made_kept : (l : Ledger) (gone : List ℕ) (content : Content) → Leaves s.top.ledger gone l → ((c : ℕ) → times (refs_in content) c ≡ times gone c) → IsCounted (own (length s.cells) (with_cells (make content s.cells) (with_ledger l s)))
  made_kept l gone content left fair c =
      omega (arith, ok c, left c, fair c, more-times (length s.cells) l c, count-make s.cells c content, uses-make refs_in s.cells c content)

  -- references that left the ledger are given up
  all_given : (l : Ledger) (gone : List ℕ) → Leaves s.top.ledger gone l → (d : ℕ) → count_at (release refs_in s.cells gone) d ≡ uses refs_in (release refs_in s.cells gone) d + (times (set_refs s.globals) d + (times (pending_refs s.pending) d + (times l d + owned_below s.below d)))
  all_given l gone left d =
      release_keeps refs_in s.cells gone d (times (set_refs s.globals) d + (times (pending_refs s.pending) d + (times l d + owned_below s.below d)))
      (omega (arith, ok d, left d))

  target_kept : (x : Option ℕ) (w : Word) (t : MachineState) → IsCounted t → IsCounted (with_target x w t)
  target_kept None w t k = k
  target_kept (Some x) w t k = k

  -- a reference is taken of a cell that is held
  took_kept : (c : ℕ) (x : Content) (l : Ledger) → content_at s.cells c ≡ Some x → ((d : ℕ) → times s.top.ledger d ≡ times l d) → IsCounted (took c (with_ledger l s))
  took_kept c x l e left d =
      omega (arith, ok d, left d, more-times c l d, count-take_one s.cells c d x e, uses-take_one refs_in s.cells c d)

  -- and then what was stolen is given up
  taken_given : (c : ℕ) (l : Ledger) (gone : List ℕ) → Leaves s.top.ledger gone l → HasCell s c → IsCounted (given true s gone (took c (with_ledger l s)))
  taken_given c l gone left here d =
      let cells = take_one c s.cells in
      let others : ℕ = times (set_refs s.globals) d + (times (pending_refs s.pending) d + (times (more c l) d + owned_below s.below d)) in
      let before : count_at cells d ≡ uses refs_in cells d + times gone d + others =
      omega (arith, ok d, left d, more-times c l d, count-take_one s.cells c d here.0 here.1, uses-take_one refs_in s.cells c d) in
      omega (arith, release_keeps refs_in cells gone d others before)

  shared_kept : (w : Word) (l : Ledger) (gone : List ℕ) → Leaves s.top.ledger gone l → Fair s (Shares w) gone → IsCounted (given true s gone (shared w (with_ledger l s)))
  shared_kept (BigInt c) l gone left held = taken_given c l gone left (held c (omega (arith, same_self c)))
  shared_kept (ObjectCell c) l gone left held = taken_given c l gone left (held c (omega (arith, same_self c)))
  shared_kept w l gone left held = λ d. omega (arith, all_given l gone left d)

  -- a cell has another content, and what neither that nor the ledger holds is given up
  changed_kept : (c : ℕ) (content : Content) (w : Word) (up : List ℕ) (l : Ledger) (gone : List ℕ) → Leaves s.top.ledger gone l → Fair s (Changes c content w up) gone → IsCounted (given true s up (with_cells (refill content c s.cells) (with_ledger (more_of (refs_of w) l) s)))
  changed_kept c content w up l gone left fair d =
      let cells = refill content c s.cells in
      let others : ℕ = times (set_refs s.globals) d + (times (pending_refs s.pending) d + (times (more_of (refs_of w) l) d + owned_below s.below d)) in
      let before : count_at cells d ≡ uses refs_in cells d + times up d + others =
      omega (arith, ok d, left d, fair.2 d, more_of-times (refs_of w) l d, count-refill s.cells c d content, uses-refill refs_in s.cells c d fair.0 content fair.1) in
      omega (arith, release_keeps refs_in cells up d others before)

  -- what a global held is given up, and what it holds now left the ledger
  stored_kept : (n : ℕ) (old new : Option Word) (l : Ledger) (gone : List ℕ) → Leaves s.top.ledger gone l → Fair s (Stores n old new) gone → IsCounted (given true s (set_refs (old ∷ [])) (record (with_ledger l s) { globals = slice_set s.globals n new }))
  stored_kept n old new l gone left fair d =
      let others : ℕ = times (set_refs (slice_set s.globals n new)) d + (times (pending_refs s.pending) d + (times l d + owned_below s.below d)) in
      let before : count_at s.cells d ≡ uses refs_in s.cells d + times (set_refs (old ∷ [])) d + others =
      omega (arith, ok d, left d, fair.1 d, set_global s.globals n old new d fair.0) in
      omega (arith, release_keeps refs_in s.cells (set_refs (old ∷ [])) d others before)

  -- a new exception is held by being pending
  raised_kept : (e : Thrown) (l : Ledger) (gone : List ℕ) → Leaves s.top.ledger gone l → s.pending ≡ None → IsCounted (raise e (given true s gone (with_ledger l s)))
  raised_kept e l gone left calm d =
      let cells = release refs_in s.cells gone in
      omega (arith, all_given l gone left d, ap (λ o. times (pending_refs o) d) calm, count-make cells d (ExcCell e), uses-make refs_in cells d (ExcCell e))

  applied_kept : (x : Option ℕ) (l : Ledger) (gone : List ℕ) (e : Effect) → Leaves s.top.ledger gone l → Fair s e gone → IsCountedAfter (applied true s x l gone e)
  applied_kept x l gone Wrong left f = ok
  applied_kept x l gone (Says w) left f =
      target_kept x w _ (λ d. omega (arith, all_given l gone left d))
  applied_kept x l gone (Lends w) left f =
      target_kept x w _ (λ d. omega (arith, all_given l gone left d))
  applied_kept x l gone (Makes content) left f = target_kept x (ObjectCell (length s.cells)) _ (made_kept l gone content left f)
  applied_kept x l gone (Writes text) left f = λ d. omega (arith, all_given l gone left d)
  applied_kept x l gone (Shares w) left f = target_kept x w _ (shared_kept w l gone left f)
  applied_kept x l gone (Changes c content w up) left f = target_kept x w _ (changed_kept c content w up l gone left f)
  applied_kept x l gone (Stores n old new) left f = stored_kept n old new l gone left f
  applied_kept x l gone (Fails w e) left f = target_kept x w _ (raised_kept e l gone left f)
  applied_kept x l gone (Pends c) left f =
      λ d. omega (arith, ok d, left d, f.1 d, ap (λ o. times (pending_refs o) d) f.0)
  applied_kept x l gone (Catches c) left f =
      target_kept x (ObjectCell c) _ (λ d. omega (arith, ok d, left d, f.1 d, more-times c l d, ap (λ o. times (pending_refs o) d) f.0))
  applied_kept x l gone (MakesInt n) left f = target_kept x (BigInt (length s.cells)) _ (made_kept l gone (IntCell n) left (λ c. sym (f c)))
  applied_kept x l gone (Reads text next) left f = target_kept x (ObjectCell (length s.cells)) _ (made_kept l gone (StrCell text) left (λ c. sym (f c)))
  applied_kept x l gone (Skips next w e) left f = target_kept x w _ (raised_kept e l gone left f)
  applied_kept x l gone (Stops e) left f = ok

  given_kept : (c : ℕ) (l : Ledger) → (true ≡ true → Leaves s.top.ledger (c ∷ []) l) → IsCounted (next_line (given true s (c ∷ []) (with_ledger l s)))
  given_kept c l took d = omega (arith, all_given l (c ∷ []) (took refl) d)

  turned_kept : (n : ℕ) → IsCountedAfter (turned true s n)
  turned_kept zero = ok
  turned_kept (suc n) = ok

  -- what the word refers to goes over to the caller's ledger
  return_kept : (w : Word) (fs : List Frame) → s.below ≡ fs → IsCountedAfter (if_return true s w fs (λ next. if_result true s w (λ l. if_none_left true s l next)))
  return_kept w [] e = at_ended true s IsCountedAfter bad w s.pending _ (λ end. at_result true s IsCountedAfter bad w _ (λ all. ok))
  return_kept w (f ∷ fs) e =
      at_result true s IsCountedAfter bad w _ (λ all. target_kept s.top.into w _ (λ c. omega (arith, ok c, all refl c, ap (λ b. owned_below b c) e, more_of-times (refs_of w) f.ledger c)))

module _ (s : MachineState) (ok : IsCounted s) (code : Code) where
  -- what is passed to a function stays with the caller
  call_kept : (x : Option ℕ) (name : List ℕ) (args : List CArg) (o : Option Primitive) → IsCountedAfter (call_step true s code x name args o)
  call_kept x name args (Some p) =
      at_called true s IsCountedAfter (bad s ok) code x args p
      (λ calm all l left here. applied_kept s ok x l (stolen (row_of p).parameters all) (effect code s p all) (left refl) (fair code s ok p all calm here))
  call_kept x name args None =
      at_function true s IsCountedAfter (bad s ok) code x args (function_named code.funcs name) (λ f g e is ws c. omega (arith, ok c))

  method_kept : (x o : ℕ) (args : List ℕ) (entry : CClass → Option (List ℕ)) → IsCountedAfter (method_called true s code x o args entry)
  method_kept x o args entry =
      at_method true s IsCountedAfter (bad s ok) code x o args entry (λ a f g e is ws c. omega (arith, ok c))

  step_kept : (o : Option Line) → IsCountedAfter (step_at true code s o)
  step_kept None = ok
  step_kept (Some Label) = ok
  step_kept (Some (Move x y)) =
      at_word true s IsCountedAfter (bad s ok) y _ (λ w e. at_there true s IsCountedAfter (bad s ok) w _ (λ a. ok))
  step_kept (Some (Lit x l)) =
      at_some true s IsCountedAfter (bad s ok) fault.Kind (option_and_then (λ k. literal_word k l) (kind_of code s.top x)) _ (λ w e. ok)
  step_kept (Some (Call x name args)) = call_kept x name args (primitive_named name)
  step_kept (Some (Virtual x o n args)) = method_kept x o args (method_at n)
  step_kept (Some (TraitCall x o t n args)) = method_kept x o args (trait_method_at t n)
  step_kept (Some (Goto n)) = at_jumped true s IsCountedAfter (bad s ok) (label_at code s.top n) (λ q e. ok)
  step_kept (Some (If x n m)) =
      at_word true s IsCountedAfter (bad s ok) x _
      (λ w e. at_chosen true s IsCountedAfter (bad s ok) (label_at code s.top n) (label_at code s.top m) w
      (at_jumped true s IsCountedAfter (bad s ok) (label_at code s.top n) (λ q e. ok)) (at_jumped true s IsCountedAfter (bad s ok) (label_at code s.top m) (λ q e. ok)))
  step_kept (Some (IfError x n m)) =
      at_word true s IsCountedAfter (bad s ok) x _
      (λ w e. at_jumped true s IsCountedAfter (bad s ok) (label_at code s.top (cond (equals_error w) n m)) (λ q e. ok))
  step_kept (Some Turn) = at_calm true s IsCountedAfter (bad s ok) s.pending _ (λ calm. turned_kept s ok s.turns)
  step_kept (Some (Return x)) =
      at_word true s IsCountedAfter (bad s ok) x _ (λ w e. at_order true s IsCountedAfter (bad s ok) w s.pending _ (return_kept s ok w s.below refl))
  step_kept (Some (Inc x)) =
      at_word true s IsCountedAfter (bad s ok) x _ (λ w e. at_incremented true s IsCountedAfter (bad s ok) w ok (λ c v e. took_kept s ok c v s.top.ledger e (λ d. refl)))
  step_kept (Some (Dec x)) =
      at_word true s IsCountedAfter (bad s ok) x _ (λ w e. at_decremented true s IsCountedAfter (bad s ok) w ok (given_kept s ok))
  step_kept (Some (XDec x)) =
      at_word true s IsCountedAfter (bad s ok) x _ (λ w e. at_decremented_if_set true s IsCountedAfter (bad s ok) w ok (given_kept s ok))

step_keeps : (code : Code) (s : MachineState) → IsCounted s → IsCountedAfter (step code s)
step_keeps code s ok = step_kept s ok code (line_at code s.top)

start_counted : (code : Code) (n : ℕ) (items : Items) → IsCounted (start code n items)
start_counted code n items c = omega (arith, none_set code.globals c)

reached_counted : (code : Code) (k : ℕ) (s t : MachineState) → Reaches code k s t → IsCounted s → IsCounted t
reached_counted code k s t (Here u) ok = ok
reached_counted code k s t (There j a b u e r) ok = reached_counted code j b u r (subst IsCountedAfter e (step_keeps code a ok))

stopped_counted : (code : Code) (k : ℕ) (next : Next) (stop : Stop) → IsCountedAfter next → go_on (step code) k next ≡ Some stop → IsCounted stop.state
stopped_counted code k (Ends e s) stop ok is = let same_stop : record { ending = e; state = s } ≡ stop = cc in subst (λ z. IsCounted z.state) same_stop ok
stopped_counted code zero (Goes s) stop ok is = cc
stopped_counted code (suc k) (Goes s) stop ok is = stopped_counted code k (step code s) stop (step_keeps code s ok) is

pub run_keeps_counts : RunKeepsCounts
run_keeps_counts code n items =
    (λ k s r. reached_counted code k (start code n items) s r (start_counted code n items), λ stop is. stopped_counted code (most_steps n code) (Goes (start code n items)) stop (start_counted code n items) is)
