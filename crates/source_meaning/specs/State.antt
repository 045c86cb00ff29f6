-- The state of a running module, what a part of it does to the state, and how one part follows another.
use Rattle.std.specs.Prelude.{ℕ, zero, suc, Bool, if◌then◌else◌, nat_lt, List, [], ◌∷◌, ◌++◌, length, Option, Some, None, slice_set}
use Rattle.value_core.specs.declared.exception.ExcClass.{ExcClass}
use Rattle.value_core.specs.Exceptions.{thrown}
use Rattle.value_core.specs.Items.{Items}
use Rattle.value_core.specs.Value.{Value, NoneVal, ExcVal, ObjVal, Object, Store}

-- the objects; the module's variables and the function's locals, None where one is unset; the exceptions being handled, the
-- innermost first; the output so far; the input that is left; and the turns that are left
pub record State : Type 0 where
  pub store : Store
  pub globals : List (Option Value)
  pub locals : List (Option Value)
  pub handled : List Value
  pub output : List ℕ
  pub items : Items
  pub turns : ℕ

-- why a run stops for good: no turn was left; a line of input ends too far along; reading the input failed; or the part is one
-- of those that no well-typed module has
pub data Stop : Type 0 where
  Cut : Stop
  Over : Stop
  Broken : Stop
  Stuck : Stop

-- what comes of a part: a result, an exception, or the end of the run
pub data Outcome (A : Type 0) : Type 0 where
  Gives : A → State → Outcome A
  Raises : Value → State → Outcome A
  Stops : Stop → State → Outcome A

-- a part of a module, as what it does to a state
abbrev pub Does : Type 0 → Type 0
Does A = State → Outcome A

-- what a call of the function of a number does with these arguments
abbrev pub Calls : Type 0
Calls = ℕ → List Value → Does Value

-- ---- one after another

abbrev pub on_to : {A B : Type 0} → Outcome A → (A → Does B) → Outcome B
on_to (Gives a s) f = f a s
on_to (Raises e s) f = Raises e s
on_to (Stops w s) f = Stops w s

infixl 10 ◌>>=◌
abbrev pub ◌>>=◌ : {A B : Type 0} → Does A → (A → Does B) → Does B
m >>= f = λ s. on_to (m s) f

infixl 10 ◌>>◌
abbrev pub ◌>>◌ : {A B : Type 0} → Does A → Does B → Does B
m >> f = λ s. on_to (m s) (λ _. f)

abbrev pub give : {A : Type 0} → A → Does A
give a = Gives a

abbrev pub raise : {A : Type 0} → Value → Does A
raise e = Raises e

abbrev pub stop : {A : Type 0} → Stop → Does A
stop w = Stops w

-- a new exception of this class and text
abbrev pub raise_new : {A : Type 0} → ExcClass → List ℕ → Does A
raise_new c text = Raises (ExcVal (thrown c text))

abbrev pub look : {A B : Type 0} → (State → A) → (A → Does B) → Does B
look part f = λ s. f (part s) s

-- what is there, or else
abbrev pub or_else : {A : Type 0} → Does A → Option A → Does A
or_else otherwise None = otherwise
or_else otherwise (Some a) = give a

-- what is always there in a well-typed module
abbrev pub sure : {A : Type 0} → Option A → Does A
sure o = or_else (stop Stuck) o

-- what comes where this holds, as it always does in a well-typed module
abbrev pub needs : {A : Type 0} → Bool → Does A → Does A
needs holds d = if holds then d else stop Stuck

-- ---- turns

-- one turn less, or the end of the run where none is left
abbrev pub spend_from : ℕ → Does (Unit {0})
spend_from zero s = Stops Cut s
spend_from (suc t) s = Gives tt (record s { turns = t })

abbrev pub spend : Does (Unit {0})
spend s = spend_from s.turns s

-- ---- the store, the variables and the output

-- a new object, behind all others
abbrev pub make : Object → Does Value
make o s = Gives (ObjVal (length s.store)) (record s { store = s.store ++ o ∷ [] })

-- another object at this place
abbrev pub put : ℕ → Object → Does (Unit {0})
put k o s = Gives tt (record s { store = slice_set s.store k o })

abbrev pub put_local : ℕ → Option Value → Does (Unit {0})
put_local i v s = Gives tt (record s { locals = slice_set s.locals i v })

abbrev pub put_global : ℕ → Option Value → Does (Unit {0})
put_global i v s = Gives tt (record s { globals = slice_set s.globals i v })

-- another value for a variable that is there
abbrev pub set_local : ℕ → Option Value → Does (Unit {0})
set_local i v = look (λ s. nat_lt i (length s.locals)) (λ there. needs there (put_local i v))

abbrev pub set_global : ℕ → Option Value → Does (Unit {0})
set_global i v = look (λ s. nat_lt i (length s.globals)) (λ there. needs there (put_global i v))

abbrev pub write : List ℕ → Does Value
write text s = Gives NoneVal (record s { output = s.output ++ text })

abbrev pub set_items : Items → State → State
set_items items s = record s { items = items }
