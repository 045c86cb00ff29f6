-- What the calls of primitives on native integers are, by the words of their arguments, and the truth that arguments are.
use Rattle.std.proofs.Common.{◌≡◌, refl, ◌∙◌, ℕ, Bool, true, false, cond, List, [], ◌∷◌, Option, Some, None}
use Rattle.std.specs.Prelude.{ℤ, pos, not, ◌==◌, slice_get}
use Rattle.std.specs.Option.{option_and_then, option_map}
use Rattle.value_core.specs.Arithmetic.{i64_neg}
use Rattle.c_core.specs.declared.code.CArg.{CArg}
use Rattle.c_core.specs.declared.code.CArg.TheVariants as arg
use Rattle.c_core.specs.declared.code.Code.{Code}
use Rattle.c_core.specs.declared.code.Kind.TheVariants.{Int64, Char}
use Rattle.c_core.specs.declared.fault.Fault.TheVariants as fault
use Rattle.c_core.specs.declared.primitive.Primitive.TheVariants as prim
use Rattle.c_core.specs.declared.primitive.Int64Prim.{Int64Prim}
use Rattle.c_core.specs.declared.primitive.Int64Prim.TheVariants as int64
use Rattle.c_core.specs.Arguments.{Argument, Plain, is_value_of}
use Rattle.c_core.specs.Ledgers.{Ledger}
use Rattle.c_core.specs.Machine.{Word, ShortInt, BigInt, TaggedError, Native, CharWord, ObjectCell, NoneObject, TrueObject, FalseObject, NoObject, MachineState}
use Rattle.c_core.specs.Primitives.{Parameter, Borrows, Is, Anything}
use Rattle.c_core.specs.Step.{Next, Effect, Says, if_some, if_true, if_there, if_argument, if_arguments, faulted, applied, primitive_step}
use Rattle.c_runner_deeds.specs.Parts.{native_of, char_of, native_at, char_at, one_native, both, two_natives, one_char, int64_effect}
use Rattle.c_runner_deeds.specs.States.{Seen, Rest, state_of}

module _ (s : MachineState) where
  abbrev kind_fault : Next
  kind_fault = faulted true s fault.Kind

  abbrev some : {A : Type 0} → Option A → (A → Next) → Next
  some o go = if_some true s fault.Kind o go

  -- ---- an argument
  native_word : (o : Option Word) (go : Argument → Next) → some o (λ w. if_true true s (is_value_of Int64 w) (if_there true s w (λ a. if_true true s true (go a)))) ≡ some (option_and_then native_of o) (λ n. go (Plain (Native n)))
  native_word None go = refl
  native_word (Some (ShortInt n)) go = refl
  native_word (Some (BigInt c)) go = refl
  native_word (Some TaggedError) go = refl
  native_word (Some (Native n)) go = refl
  native_word (Some (CharWord n)) go = refl
  native_word (Some (ObjectCell c)) go = refl
  native_word (Some NoneObject) go = refl
  native_word (Some TrueObject) go = refl
  native_word (Some FalseObject) go = refl
  native_word (Some NoObject) go = refl

  char_either : (b : Bool) (n : ℕ) (go : Argument → Next) → cond (not b) (go (Plain (CharWord n))) kind_fault ≡ some (cond b None (Some n)) (λ m. go (Plain (CharWord m)))
  char_either true n go = refl
  char_either false n go = refl

  char_word : (o : Option Word) (go : Argument → Next) → some o (λ w. if_true true s (is_value_of Char w) (if_there true s w (λ a. if_true true s true (go a)))) ≡ some (option_and_then char_of o) (λ n. go (Plain (CharWord n)))
  char_word None go = refl
  char_word (Some (ShortInt n)) go = refl
  char_word (Some (BigInt c)) go = refl
  char_word (Some TaggedError) go = refl
  char_word (Some (Native n)) go = refl
  char_word (Some (CharWord n)) go = char_either (n == 2) n go
  char_word (Some (ObjectCell c)) go = refl
  char_word (Some NoneObject) go = refl
  char_word (Some TrueObject) go = refl
  char_word (Some FalseObject) go = refl
  char_word (Some NoObject) go = refl

  abbrev native : Parameter
  native = Borrows (Is Int64) Anything

  abbrev char : Parameter
  char = Borrows (Is Char) Anything

  native_found : (code : Code) (a : CArg) (earlier : List Argument) (l : Ledger) (go : Argument → Ledger → Next) → if_argument true s code native a earlier l go ≡ some (native_at s.top.vars a) (λ n. go (Plain (Native n)) l)
  native_found code (arg.Var x) earlier l go = native_word (slice_get s.top.vars x) (λ a. go a l)
  native_found code (arg.Number n) earlier l go = refl
  native_found code (arg.Text text) earlier l go = refl
  native_found code (arg.Global name) earlier l go = refl
  native_found code (arg.Class name) earlier l go = refl

  char_found : (code : Code) (a : CArg) (earlier : List Argument) (l : Ledger) (go : Argument → Ledger → Next) → if_argument true s code char a earlier l go ≡ some (char_at s.top.vars a) (λ n. go (Plain (CharWord n)) l)
  char_found code (arg.Var x) earlier l go = char_word (slice_get s.top.vars x) (λ a. go a l)
  char_found code (arg.Number n) earlier l go = refl
  char_found code (arg.Text text) earlier l go = refl
  char_found code (arg.Global name) earlier l go = refl
  char_found code (arg.Class name) earlier l go = refl

  -- ---- all arguments
  wrong : {A : Type 0} (o : Option A) → some o (λ a. kind_fault) ≡ kind_fault
  wrong None = refl
  wrong (Some a) = refl

  each : {A : Type 0} (o : Option A) (f g : A → Next) → ((a : A) → f a ≡ g a) → some o f ≡ some o g
  each None f g e = refl
  each (Some a) f g e = e a

  paired : (o p : Option ℤ) (go : ℤ → ℤ → Next) → some o (λ a. some p (go a)) ≡ some (both o p) (λ q. go q.0 q.1)
  paired None p go = refl
  paired (Some a) None go = refl
  paired (Some a) (Some b) go = refl

  pub one_found : (code : Code) (args : List CArg) (l : Ledger) (go : List Argument → Ledger → Next) → if_arguments true s code (native ∷ []) args [] l go ≡ some (one_native s.top.vars args) (λ n. go (Plain (Native n) ∷ []) l)
  one_found code [] l go = refl
  one_found code (a ∷ []) l go = native_found code a [] l _
  one_found code (a ∷ b ∷ more) l go = native_found code a [] l _ ∙ wrong (native_at s.top.vars a)

  pub char_only : (code : Code) (args : List CArg) (l : Ledger) (go : List Argument → Ledger → Next) → if_arguments true s code (char ∷ []) args [] l go ≡ some (one_char s.top.vars args) (λ n. go (Plain (CharWord n) ∷ []) l)
  char_only code [] l go = refl
  char_only code (a ∷ []) l go = char_found code a [] l _
  char_only code (a ∷ b ∷ more) l go = char_found code a [] l _ ∙ wrong (char_at s.top.vars a)

  two_found : (code : Code) (args : List CArg) (l : Ledger) (go : List Argument → Ledger → Next) → if_arguments true s code (native ∷ native ∷ []) args [] l go ≡ some (two_natives s.top.vars args) (λ q. go (Plain (Native q.0) ∷ Plain (Native q.1) ∷ []) l)
  two_found code [] l go = refl
  two_found code (a ∷ []) l go = native_found code a [] l _ ∙ wrong (native_at s.top.vars a)
  two_found code (a ∷ b ∷ []) l go =
      native_found code a [] l _
      ∙ each (native_at s.top.vars a) _ _ (λ n. native_found code b (Plain (Native n) ∷ []) l (λ second r. go (Plain (Native n) ∷ second ∷ []) r))
      ∙ paired (native_at s.top.vars a) (native_at s.top.vars b) (λ n m. go (Plain (Native n) ∷ Plain (Native m) ∷ []) l)
  two_found code (a ∷ b ∷ c ∷ more) l go =
      native_found code a [] l _
      ∙ each (native_at s.top.vars a) _ (λ n. kind_fault) (λ n. native_found code b (Plain (Native n) ∷ []) l _ ∙ wrong (native_at s.top.vars b))
      ∙ wrong (native_at s.top.vars a)

  -- ---- what is done
  all_applied : {A : Type 0} (x : Option ℕ) (o : Option A) (f : A → Effect) → some o (λ a. applied true s x s.top.ledger [] (f a)) ≡ some (option_map f o) (applied true s x s.top.ledger [])
  all_applied x None f = refl
  all_applied x (Some a) f = refl

  then_applied : {A : Type 0} (x : Option ℕ) (o : Option A) (f : A → Effect) → some o (λ a. applied true s x s.top.ledger [] (f a)) ≡ some (option_and_then (λ a. Some (f a)) o) (applied true s x s.top.ledger [])
  then_applied x None f = refl
  then_applied x (Some a) f = refl

-- ---- calls
module _ (rest : Rest) (old : Seen) (code : Code) (x : Option ℕ) (args : List CArg) where
  abbrev t : MachineState
  t = state_of rest old

  two_applied : (f : ℤ × ℤ → Effect) → if_some true t fault.Kind (two_natives t.top.vars args) (λ q. applied true t x t.top.ledger [] (f q)) ≡ if_some true t fault.Kind (option_and_then (λ q. Some (f q)) (two_natives t.top.vars args)) (applied true t x t.top.ledger [])
  two_applied f = then_applied t x (two_natives t.top.vars args) f

  -- a primitive that makes no cell and reads none
  pub int64_called : (p : Int64Prim) → (p ≡ int64.Str → ⊥) → (p ≡ int64.Box → ⊥) → (p ≡ int64.Unbox → ⊥) → primitive_step true t code x args (prim.Int64 p) ≡ if_some true t fault.Kind (int64_effect p t.top.vars args) (applied true t x t.top.ledger [])
  int64_called int64.Add a b c = two_found t code args t.top.ledger _ ∙ two_applied _
  int64_called int64.Subtract a b c = two_found t code args t.top.ledger _ ∙ two_applied _
  int64_called int64.Multiply a b c = two_found t code args t.top.ledger _ ∙ two_applied _
  int64_called int64.Negate a b c = one_found t code args t.top.ledger _ ∙ all_applied t x (one_native t.top.vars args) (λ n. Says (Native (i64_neg n)))
  int64_called int64.FloorDivide a b c = two_found t code args t.top.ledger _ ∙ two_applied _
  int64_called int64.Remainder a b c = two_found t code args t.top.ledger _ ∙ two_applied _
  int64_called int64.Lshift a b c = two_found t code args t.top.ledger _ ∙ two_applied _
  int64_called int64.Rshift a b c = two_found t code args t.top.ledger _ ∙ two_applied _
  int64_called int64.FromBool a b c = char_only t code args t.top.ledger _ ∙ all_applied t x (one_char t.top.vars args) (λ n. Says (Native (pos n)))
  int64_called int64.Eq a b c = two_found t code args t.top.ledger _ ∙ two_applied _
  int64_called int64.Lt a b c = two_found t code args t.top.ledger _ ∙ two_applied _
  int64_called int64.Le a b c = two_found t code args t.top.ledger _ ∙ two_applied _
  int64_called int64.Str a b c = absurd (a refl)
  int64_called int64.Box a b c = absurd (b refl)
  int64_called int64.Unbox a b c = absurd (c refl)
