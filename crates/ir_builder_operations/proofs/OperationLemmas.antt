-- Each operation does with its operands' values what the source does, and its primitive takes registers of their types.
use Rattle.ir_builder_operations.proofs.Common.{◌≡◌, refl, sym, subst, ℕ, true, List, [], ◌∷◌, Some, map, Value, Primitive, Sort, Reg, RType, PArg, Var, Prim, Declared, Building, Adds, Shows, HaveTypes, Attempts, ActsOnAll, AreArguments, HaveKinds, rtype_of, all_given, Performs, all_perform, Operation, IntArithmetic, NativeArithmetic, IntNegation, NativeNegation, Comparison, Inversion, Concatenation, Length, Letter, IntText, NativeText, BoolText, BoolToInt, BoolToNative, NativeToInt, IntToNative, Boxing, Unboxing, Absence, EmptyList, ListLength, TupleLength, Item, ItemChange, LastItem, EmptyDict, DictLength, DictItem, Deletion, Membership, SizeCheck, KeyAt, Line, Ints, Natives, Texts, Equal, Less, AtMost, is_known, operands_of, result_of, primitive_of, goes, boxed}
use Rattle.c_core.specs.Primitives.{Is, Parameter, Borrows, Steals, Owned, row_of}
use Rattle.py_syntax.specs.declared.expression.BinOp.TheVariants as bin
use Rattle.ir_core.specs.Lower.{kind_of_type}
use Rattle.ir_builder_frames.specs.Kinds.{Answers}
use Rattle.ir_builder_operations.proofs.KindLemmas.{on_none, on_one, on_two, on_three, by_int, by_native, by_bool, by_text, by_any, native_value}
use Rattle.py_typed.specs.Sorts.{Int, I64, Bool, Str}
use Rattle.value_core.specs.Value.{IntVal, BoolVal, StrVal}
use Rattle.ir_builder_operations.proofs.NumberLemmas as int
use Rattle.ir_builder_operations.proofs.NativeLemmas as native
use Rattle.ir_builder_operations.proofs.CoercionLemmas.{int_of_bool, native_of_bool, int_of_native, native_of_int}
use Rattle.ir_builder_operations.proofs.ComparisonLemmas.{ints_compared, natives_compared, texts_compared, inversion_performs}
use Rattle.ir_builder_operations.proofs.WrittenLemmas.{concat_performs, length_performs, item_performs, int_written, native_written, flag_written}
use Rattle.ir_builder_operations.proofs.InputLemmas.{line_performs}
use Rattle.ir_builder_operations.proofs.ObjectLemmas.{int_boxed, native_boxed, flag_boxed, int_unboxed, native_unboxed, flag_unboxed, absence_performs, empty_list_performs, list_length_performs, tuple_length_performs, item_performs as list_item_performs, change_performs, pop_performs}
use Rattle.ir_builder_operations.proofs.DictLemmas.{empty_dict_performs, dict_length_performs, dict_item_performs, deletion_performs, membership_performs, size_performs, key_at_performs}
use Rattle.ir_builder_operations.specs.declared.operation.Unboxed.TheVariants as unboxed

-- ---- what it does

abbrev Does : Operation → List Value → Type 0
Does op vs = Performs (Shows (result_of op)) (primitive_of op) (all_given vs) (goes op vs)

operation_performs : (op : Operation) → is_known op ≡ true → (vs : List Value) → HaveKinds (operands_of op) vs → Does op vs
operation_performs (IntArithmetic op) e = on_two Int Int IntVal IntVal by_int by_int (Does (IntArithmetic op)) (λ m n. int.arithmetic_performs op m n e)
operation_performs (NativeArithmetic op) e = on_two I64 I64 native_value native_value by_native by_native (Does (NativeArithmetic op)) (λ m n. native.arithmetic_performs op m.0 n.0 e m.1 n.1)
operation_performs IntNegation e = on_one Int IntVal by_int (Does IntNegation) int.negation_performs
operation_performs NativeNegation e = on_one I64 native_value by_native (Does NativeNegation) (λ n. native.negation_performs n.0 n.1)
operation_performs (Comparison Ints test) e = on_two Int Int IntVal IntVal by_int by_int (Does (Comparison Ints test)) (ints_compared test)
operation_performs (Comparison Natives test) e = on_two I64 I64 native_value native_value by_native by_native (Does (Comparison Natives test)) (λ m n. natives_compared test m.0 n.0)
operation_performs (Comparison Texts test) e = on_two Str Str StrVal StrVal by_text by_text (Does (Comparison Texts test)) (texts_compared test)
operation_performs Inversion e = on_one Bool BoolVal by_bool (Does Inversion) inversion_performs
operation_performs Concatenation e = on_two Str Str StrVal StrVal by_text by_text (Does Concatenation) concat_performs
operation_performs Length e = on_one Str StrVal by_text (Does Length) length_performs
operation_performs Letter e = on_two Str Int StrVal IntVal by_text by_int (Does Letter) item_performs
operation_performs IntText e = on_one Int IntVal by_int (Does IntText) int_written
operation_performs NativeText e = on_one I64 native_value by_native (Does NativeText) (λ n. native_written n.0)
operation_performs BoolText e = on_one Bool BoolVal by_bool (Does BoolText) flag_written
operation_performs BoolToInt e = on_one Bool BoolVal by_bool (Does BoolToInt) int_of_bool
operation_performs BoolToNative e = on_one Bool BoolVal by_bool (Does BoolToNative) native_of_bool
operation_performs NativeToInt e = on_one I64 native_value by_native (Does NativeToInt) (λ n. int_of_native n.0)
operation_performs IntToNative e = on_one Int IntVal by_int (Does IntToNative) native_of_int
operation_performs (Boxing unboxed.Int) e = on_one Int IntVal by_int (Does (Boxing unboxed.Int)) int_boxed
operation_performs (Boxing unboxed.Native) e = on_one I64 native_value by_native (Does (Boxing unboxed.Native)) (λ n. native_boxed n.0 n.1)
operation_performs (Boxing unboxed.Bool) e = on_one Bool BoolVal by_bool (Does (Boxing unboxed.Bool)) flag_boxed
operation_performs (Unboxing unboxed.Int) e = on_one boxed (λ v. v) by_any (Does (Unboxing unboxed.Int)) int_unboxed
operation_performs (Unboxing unboxed.Native) e = on_one boxed (λ v. v) by_any (Does (Unboxing unboxed.Native)) native_unboxed
operation_performs (Unboxing unboxed.Bool) e = on_one boxed (λ v. v) by_any (Does (Unboxing unboxed.Bool)) flag_unboxed
operation_performs Absence e = on_one boxed (λ v. v) by_any (Does Absence) absence_performs
operation_performs EmptyList e = on_none (Does EmptyList) empty_list_performs
operation_performs ListLength e = on_one boxed (λ v. v) by_any (Does ListLength) list_length_performs
operation_performs TupleLength e = on_one boxed (λ v. v) by_any (Does TupleLength) tuple_length_performs
operation_performs Item e = on_two boxed Int (λ v. v) IntVal by_any by_int (Does Item) list_item_performs
operation_performs ItemChange e = on_three boxed Int boxed (λ v. v) IntVal (λ v. v) by_any by_int by_any (Does ItemChange) change_performs
operation_performs LastItem e = on_one boxed (λ v. v) by_any (Does LastItem) pop_performs
operation_performs EmptyDict e = on_none (Does EmptyDict) empty_dict_performs
operation_performs DictLength e = on_one boxed (λ v. v) by_any (Does DictLength) dict_length_performs
operation_performs DictItem e = on_two boxed boxed (λ v. v) (λ v. v) by_any by_any (Does DictItem) dict_item_performs
operation_performs Deletion e = on_two boxed boxed (λ v. v) (λ v. v) by_any by_any (Does Deletion) deletion_performs
operation_performs Membership e = on_two boxed boxed (λ v. v) (λ v. v) by_any by_any (Does Membership) membership_performs
operation_performs SizeCheck e = on_two boxed Int (λ v. v) IntVal by_any by_int (Does SizeCheck) size_performs
operation_performs KeyAt e = on_two boxed Int (λ v. v) IntVal by_any by_int (Does KeyAt) key_at_performs
operation_performs Line e = on_none (Does Line) line_performs

module _ (op : Operation) (rs : List Reg) (t : RType) (q : Primitive) (args : List PArg) (type : t ≡ rtype_of (result_of op)) (does : q ≡ primitive_of op) (given : args ≡ map Var rs) where
  pub operation_attempts : {line : ℕ} (b c : Building) (r : ℕ) → is_known op ≡ true → HaveTypes b.regs (operands_of op) rs → Adds b c r t (Prim (Some record { 0 = r }) q args) line → Attempts (Shows (result_of op)) b c r (rtype_of (result_of op)) (ActsOnAll (operands_of op) rs (goes op))
  operation_attempts {line} b c r known types a =
      let P : RType → Type 0 = λ z. Adds b c r z (Prim (Some record { 0 = r }) q args) line in
      let Q : Primitive → Type 0 = λ z. Adds b c r (rtype_of (result_of op)) (Prim (Some record { 0 = r }) z args) line in
      let R : List PArg → Type 0 = λ z. Adds b c r (rtype_of (result_of op)) (Prim (Some record { 0 = r }) (primitive_of op) z) line in
      all_perform (operands_of op) (Shows (result_of op)) (goes op) b c r (rtype_of (result_of op)) rs (primitive_of op) types (subst R given (subst Q does (subst P type a))) (operation_performs op known)

-- ---- what it takes

abbrev Takes : List Parameter → List Sort → Type 0
Takes [] [] = Unit {0}
Takes (Borrows (Is k) h ∷ ps) (t ∷ ts) = (kind_of_type (rtype_of t) ≡ k) × Takes ps ts
Takes (Steals (Is k) h ∷ ps) (t ∷ ts) = (kind_of_type (rtype_of t) ≡ k) × Takes ps ts
Takes ps ts = ⊥

abbrev Row : Operation → Type 0
Row op = ((row_of (primitive_of op)).outcome ≡ Owned (Is (kind_of_type (rtype_of (result_of op))))) × Takes (row_of (primitive_of op)).parameters (operands_of op)

row : (op : Operation) → Row op
row (IntArithmetic bin.Add) = (refl, (refl, (refl, tt)))
row (IntArithmetic bin.Sub) = (refl, (refl, (refl, tt)))
row (IntArithmetic bin.Mul) = (refl, (refl, (refl, tt)))
row (IntArithmetic bin.FloorDiv) = (refl, (refl, (refl, tt)))
row (IntArithmetic bin.Mod) = (refl, (refl, (refl, tt)))
row (IntArithmetic bin.Shl) = (refl, (refl, (refl, tt)))
row (IntArithmetic bin.Shr) = (refl, (refl, (refl, tt)))
row (IntArithmetic bin.Bar) = (refl, (refl, (refl, tt)))
row (NativeArithmetic bin.Add) = (refl, (refl, (refl, tt)))
row (NativeArithmetic bin.Sub) = (refl, (refl, (refl, tt)))
row (NativeArithmetic bin.Mul) = (refl, (refl, (refl, tt)))
row (NativeArithmetic bin.FloorDiv) = (refl, (refl, (refl, tt)))
row (NativeArithmetic bin.Mod) = (refl, (refl, (refl, tt)))
row (NativeArithmetic bin.Shl) = (refl, (refl, (refl, tt)))
row (NativeArithmetic bin.Shr) = (refl, (refl, (refl, tt)))
row (NativeArithmetic bin.Bar) = (refl, (refl, (refl, tt)))
row IntNegation = (refl, (refl, tt))
row NativeNegation = (refl, (refl, tt))
row (Comparison Ints Equal) = (refl, (refl, (refl, tt)))
row (Comparison Ints Less) = (refl, (refl, (refl, tt)))
row (Comparison Ints AtMost) = (refl, (refl, (refl, tt)))
row (Comparison Natives Equal) = (refl, (refl, (refl, tt)))
row (Comparison Natives Less) = (refl, (refl, (refl, tt)))
row (Comparison Natives AtMost) = (refl, (refl, (refl, tt)))
row (Comparison Texts Equal) = (refl, (refl, (refl, tt)))
row (Comparison Texts Less) = (refl, (refl, (refl, tt)))
row (Comparison Texts AtMost) = (refl, (refl, (refl, tt)))
row Inversion = (refl, (refl, tt))
row Concatenation = (refl, (refl, (refl, tt)))
row Length = (refl, (refl, tt))
row Letter = (refl, (refl, (refl, tt)))
row IntText = (refl, (refl, tt))
row NativeText = (refl, (refl, tt))
row BoolText = (refl, (refl, tt))
row BoolToInt = (refl, (refl, tt))
row BoolToNative = (refl, (refl, tt))
row NativeToInt = (refl, (refl, tt))
row IntToNative = (refl, (refl, tt))
row (Boxing unboxed.Int) = (refl, (refl, tt))
row (Boxing unboxed.Native) = (refl, (refl, tt))
row (Boxing unboxed.Bool) = (refl, (refl, tt))
row (Unboxing unboxed.Int) = (refl, (refl, tt))
row (Unboxing unboxed.Native) = (refl, (refl, tt))
row (Unboxing unboxed.Bool) = (refl, (refl, tt))
row Absence = (refl, (refl, tt))
row EmptyList = (refl, tt)
row ListLength = (refl, (refl, tt))
row TupleLength = (refl, (refl, tt))
row Item = (refl, (refl, (refl, tt)))
row ItemChange = (refl, (refl, (refl, (refl, tt))))
row LastItem = (refl, (refl, tt))
row EmptyDict = (refl, tt)
row DictLength = (refl, (refl, tt))
row DictItem = (refl, (refl, (refl, tt)))
row Deletion = (refl, (refl, (refl, tt)))
row Membership = (refl, (refl, (refl, tt)))
row SizeCheck = (refl, (refl, (refl, tt)))
row KeyAt = (refl, (refl, (refl, tt)))
row Line = (refl, tt)

taken : (regs : Declared) (ps : List Parameter) (ts : List Sort) (rs : List Reg) → Takes ps ts → HaveTypes regs ts rs → AreArguments regs ps (map Var rs)
taken regs [] [] [] k h = tt
taken regs [] [] (r ∷ rs) k h = absurd h
taken regs (Borrows (Is k) g ∷ ps) (t ∷ ts) (r ∷ rs) k' h = (record { type = rtype_of t; is = h.0; same = k'.0 }, taken regs ps ts rs k'.1 h.1)
taken regs (Borrows (Is k) g ∷ ps) (t ∷ ts) [] k' h = absurd h
taken regs (Steals (Is k) g ∷ ps) (t ∷ ts) (r ∷ rs) k' h = (record { type = rtype_of t; is = h.0; same = k'.0 }, taken regs ps ts rs k'.1 h.1)
taken regs (Steals (Is k) g ∷ ps) (t ∷ ts) [] k' h = absurd h
taken regs ps ts rs k h = absurd k

pub operation_answers : (op : Operation) (rs : List Reg) (t : RType) (q : Primitive) (args : List PArg) → t ≡ rtype_of (result_of op) → q ≡ primitive_of op → args ≡ map Var rs → (regs : Declared) → HaveTypes regs (operands_of op) rs → Answers t regs q args
operation_answers op rs t q args type does given regs h =
    let P : RType → Type 0 = λ z. Answers z regs q args in
    let Q : Primitive → Type 0 = λ z. Answers (rtype_of (result_of op)) regs z args in
    let R : List PArg → Type 0 = λ z. Answers (rtype_of (result_of op)) regs (primitive_of op) z in
    subst P (sym type) (subst Q (sym does) (subst R (sym given) ((row op).0, taken regs (row_of (primitive_of op)).parameters (operands_of op) rs (row op).1 h)))
