-- Parts of what a primitive does, as the runner makes them.
use Rattle.std.specs.Prelude.{ℕ, ℤ, pos, Bool, true, not, cond, int_lt, nat_lt, ◌==◌, List, [], ◌∷◌, Option, Some, None, Result, Ok, Err, is_some, slice_get}
use Rattle.std.specs.Option.{option_and_then, option_map}
use Rattle.std.specs.Ordering.{int_eq}
use Rattle.value_core.specs.declared.arith.Arith.{Arith}
use Rattle.value_core.specs.Arithmetic.{i64_add, i64_sub, i64_mul, i64_neg, i64_floor_div, i64_modulo, i64_shl, i64_shr}
use Rattle.c_core.specs.declared.code.CArg.{CArg}
use Rattle.c_core.specs.declared.code.CArg.TheVariants as arg
use Rattle.c_core.specs.declared.code.Code.{Code}
use Rattle.c_core.specs.declared.code.Kind.{Kind}
use Rattle.c_core.specs.declared.code.Kind.TheVariants.{Int64, Object}
use Rattle.c_core.specs.declared.fault.Fault.{Fault}
use Rattle.c_core.specs.declared.fault.Fault.TheVariants as fault
use Rattle.c_core.specs.declared.primitive.Primitive.TheVariants as prim
use Rattle.c_core.specs.declared.primitive.Int64Prim.{Int64Prim}
use Rattle.c_core.specs.declared.primitive.Int64Prim.TheVariants as int64
use Rattle.c_core.specs.declared.primitive.GlobalPrim.TheVariants as global
use Rattle.c_core.specs.declared.primitive.ExcPrim.TheVariants as exc
use Rattle.c_core.specs.declared.primitive.ErrPrim.TheVariants as err
use Rattle.c_core.specs.declared.primitive.IoPrim.TheVariants as io
use Rattle.c_core.specs.Arguments.{Argument, Cell, Plain, Written, is_value_of, stolen, number_of_global, number_of_class}
use Rattle.c_core.specs.Cells.{Cells, times, content_at, take_one}
use Rattle.c_core.specs.Functions.{error_word}
use Rattle.c_core.specs.Ledgers.{Ledger, without}
use Rattle.c_core.specs.Machine.{Word, BigInt, Native, CharWord, ObjectCell, Content, MachineState}
use Rattle.c_core.specs.Primitives.{OfGlobal, Anything, AText, AnException, Steals, row_of}
use Rattle.c_core.specs.Step as machine_step
use Rattle.c_core.specs.Step.{Next, Ends, Faulted, Effect, Says, Fails, if_variable, if_stolen, if_true, if_there, word_of, truth_word, int64_exception, native_or, applied, effect, faulted}
use Rattle.cell_heap.specs.declared.word.Word as heap
use Rattle.cell_heap.specs.Contents as contents

-- ---- words
-- whether the cell of a word is there, if the word has one
abbrev pub is_there : Cells Content → Word → Bool
is_there cells (BigInt c) = is_some (content_at cells c)
is_there cells (ObjectCell c) = is_some (content_at cells c)
is_there cells w = true

-- ---- primitives
-- a write of a variable, the first argument of a call: the variable is tested, and then that there is no other argument
abbrev pub written : Code → Option ℕ → ℕ → Bool → MachineState → Next
written code target x is_alone s =
    if_variable true s Object AText x
    (λ a. cond is_alone (applied true s target s.top.ledger [] (effect code s (prim.Io io.Write) (a ∷ []))) (faulted true s fault.Kind))

-- the native integer, or the truth, that an argument is, where these are the variables
abbrev pub native_of : Word → Option ℤ
native_of (Native n) = Some n
native_of _ = None

abbrev pub char_of : Word → Option ℕ
char_of (CharWord n) = cond (n == 2) None (Some n)
char_of _ = None

abbrev pub native_at : List Word → CArg → Option ℤ
native_at vars (arg.Var x) = option_and_then native_of (slice_get vars x)
native_at vars _ = None

abbrev pub char_at : List Word → CArg → Option ℕ
char_at vars (arg.Var x) = option_and_then char_of (slice_get vars x)
char_at vars _ = None

-- all arguments, where they are of this number
abbrev pub one_native : List Word → List CArg → Option ℤ
one_native vars (a ∷ []) = native_at vars a
one_native vars _ = None

abbrev pub both : Option ℤ → Option ℤ → Option (ℤ × ℤ)
both (Some a) (Some b) = Some (a, b)
both _ _ = None

abbrev pub two_natives : List Word → List CArg → Option (ℤ × ℤ)
two_natives vars (a ∷ b ∷ []) = both (native_at vars a) (native_at vars b)
two_natives vars _ = None

abbrev pub one_char : List Word → List CArg → Option ℕ
one_char vars (a ∷ []) = char_at vars a
one_char vars _ = None

-- what an operation on native integers does, by what came of it
abbrev pub effect_of : Result heap.Word Arith → Effect
effect_of (Ok w) = Says (contents.word_of w)
effect_of (Err f) = Fails (error_word Int64) (int64_exception f)

-- the effect of a primitive on two native integers
abbrev pub two_effect : Int64Prim → ℤ → ℤ → Option Effect
two_effect int64.Add a b = Some (Says (Native (i64_add a b)))
two_effect int64.Subtract a b = Some (Says (Native (i64_sub a b)))
two_effect int64.Multiply a b = Some (Says (Native (i64_mul a b)))
two_effect int64.FloorDivide a b = Some (native_or (i64_floor_div a b))
two_effect int64.Remainder a b = Some (native_or (i64_modulo a b))
two_effect int64.Lshift a b = Some (native_or (i64_shl a b))
two_effect int64.Rshift a b = Some (native_or (i64_shr a b))
two_effect int64.Eq a b = Some (Says (truth_word (int_eq a b)))
two_effect int64.Lt a b = Some (Says (truth_word (int_lt a b)))
two_effect int64.Le a b = Some (Says (truth_word (not (int_lt b a))))
two_effect _ a b = None

-- the effect of a primitive on native integers that makes no text, where these are the variables and the arguments
abbrev pub int64_effect : Int64Prim → List Word → List CArg → Option Effect
int64_effect int64.Negate vars args = option_map (λ n. Says (Native (i64_neg n))) (one_native vars args)
int64_effect int64.FromBool vars args = option_map (λ n. Says (Native (pos n))) (one_char vars args)
int64_effect int64.Str vars args = None
int64_effect p vars args = option_and_then (λ q. two_effect p q.0 q.1) (two_natives vars args)

-- ---- exceptions
-- an exception of a class by its name is made, of a text that a variable holds; the text of an exception is shown; an
-- exception is pending from then on. The variable is tested, and then that no further argument is there
abbrev pub exception_made : Code → Option ℕ → List ℕ → ℕ → Bool → MachineState → Next
exception_made code target class x is_alone s =
    if_variable true s Object AText x
    (λ a. cond is_alone (applied true s target s.top.ledger [] (effect code s (prim.Exc exc.New) (Written (arg.Text class) ∷ a ∷ []))) (faulted true s fault.Kind))

abbrev pub exception_shown : Code → Option ℕ → ℕ → Bool → MachineState → Next
exception_shown code target x is_alone s =
    if_variable true s Object AnException x
    (λ a. cond is_alone (applied true s target s.top.ledger [] (effect code s (prim.Exc exc.Str) (a ∷ []))) (faulted true s fault.Kind))

abbrev pub object_set : Code → Option ℕ → ℕ → Bool → MachineState → Next
object_set code target x is_alone s =
    if_variable true s Object AnException x
    (λ a. if_stolen true s a s.top.ledger
    (λ l. cond is_alone (applied true s target l (stolen (row_of (prim.Err err.SetObject)).parameters (a ∷ [])) (effect code s (prim.Err err.SetObject) (a ∷ []))) (faulted true s fault.Kind)))

-- the one text that the arguments are
abbrev pub only_text : List CArg → Option (List ℕ)
only_text (arg.Text text ∷ []) = Some text
only_text _ = None

-- ---- globals
-- a write of the global that an argument names: the next argument is tested, and then that no further one is there
abbrev pub global_set : Code → Option ℕ → CArg → CArg → Bool → MachineState → Next
global_set code target (arg.Global name) a is_alone s =
    machine_step.if_argument true s code (Steals OfGlobal Anything) a (Written (arg.Global name) ∷ []) s.top.ledger
    (λ x l. cond is_alone (applied true s target l (stolen (row_of (prim.Global global.Set)).parameters (Written (arg.Global name) ∷ x ∷ [])) (effect code s (prim.Global global.Set) (Written (arg.Global name) ∷ x ∷ []))) (faulted true s fault.Kind))
global_set code target _ a is_alone s = faulted true s fault.Kind

-- the cells where one reference more to that of a word is taken
abbrev pub with_taken : Word → Cells Content → Cells Content
with_taken (BigInt c) cells = take_one c cells
with_taken (ObjectCell c) cells = take_one c cells
with_taken w cells = cells

-- a word as an argument, where its cell is there if it has one
abbrev pub cell_argument : ℕ → Option Content → Argument
cell_argument c (Some content) = Cell c content
cell_argument c None = Plain (ObjectCell c)

abbrev pub argument_of : Cells Content → Word → Argument
argument_of cells (BigInt c) = cell_argument c (content_at cells c)
argument_of cells (ObjectCell c) = cell_argument c (content_at cells c)
argument_of cells w = Plain w

-- whether the reference of a word is owned, if it has one
abbrev pub is_owned : Word → Ledger → Bool
is_owned (BigInt c) l = nat_lt 0 (times l c)
is_owned (ObjectCell c) l = nat_lt 0 (times l c)
is_owned w l = true

-- a ledger without the reference of a word
abbrev pub left_by : Word → Ledger → Ledger
left_by (BigInt c) l = without c l
left_by (ObjectCell c) l = without c l
left_by w l = l

-- a word that was stolen, or why it could not be
abbrev pub stolen_or : Result heap.Word Fault → MachineState → (Argument → Ledger → Next) → Next
stolen_or (Ok w) s go = go (argument_of s.cells (contents.word_of w)) (left_by (contents.word_of w) s.top.ledger)
stolen_or (Err f) s go = Ends (Faulted f) s

-- the word that an argument passes to a parameter of a kind
abbrev pub if_argument : MachineState → Kind → CArg → (Word → Next) → Next
if_argument s k (arg.Var x) go = word_of true s x (λ w. if_true true s (is_value_of k w) (if_there true s w (λ a. go w)))
if_argument s k _ go = faulted true s fault.Kind

abbrev pub passed_on : Result heap.Word Fault → MachineState → (Word → Next) → Next
passed_on (Ok w) s go = go (contents.word_of w)
passed_on (Err f) s go = Ends (Faulted f) s

-- the number of the global that a call names by its first argument, and that of the class
abbrev pub global_of : Code → List CArg → Option ℕ
global_of code (arg.Global name ∷ args) = number_of_global code name
global_of code _ = None

abbrev pub class_of : Code → List CArg → Option ℕ
class_of code (arg.Class name ∷ args) = number_of_class code name
class_of code _ = None
