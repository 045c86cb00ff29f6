-- Calls of methods: which function the runner finds for one, and what the machine does with it, at the runner's states.
use Rattle.std.proofs.Common.{◌≡◌, refl, sym, ap, ◌∙◌, ℕ, zero, suc, ◌+◌, ◌-◌, ◌<◌, ◌≤◌, arith, Bool, true, false, cond, List, [], ◌∷◌, ◌++◌, append-nil, length, get_or, Option, Some, None}
use Rattle.std.specs.Prelude.{find, is_some, map, take, slice_get, nat_lt, Ok, Err}
use Rattle.std.specs.List.{position, position_or_len}
use Rattle.std.specs.Option.{option_and_then, option_flatten, option_map}
use Rattle.std.specs.Str.{bytes_eq}
use Rattle.std.proofs.lemmas.Bool.Decides.{nat_tests}
use Rattle.std.proofs.lemmas.List.{length-map}
use Rattle.std.proofs.lemmas.List.Folds.{find_at}
use Rattle.std.proofs.lemmas.Option.{slice_get-map, slice_get_past, slice_get_within, get_or_from_slice_get}
use Rattle.c_core.specs.declared.code.CArg.{CArg}
use Rattle.c_core.specs.declared.code.CArg.TheVariants as arg
use Rattle.c_core.specs.declared.code.CClass.{CClass}
use Rattle.c_core.specs.declared.code.CFunc.{CFunc}
use Rattle.c_core.specs.declared.code.Code.{Code}
use Rattle.c_core.specs.declared.code.Kind.{Kind}
use Rattle.c_core.specs.declared.code.Kind.TheVariants.{Object}
use Rattle.c_core.specs.declared.fault.Fault.{Fault}
use Rattle.c_core.specs.declared.fault.Fault.TheVariants as fault
use Rattle.c_core.specs.Arguments.{Argument, Cell}
use Rattle.c_core.specs.Functions.{number_of, method_at, trait_method_at, parameter_kinds, entry_words}
use Rattle.c_core.specs.Machine as machine
use Rattle.c_core.specs.Machine.{InstCell, MachineState}
use Rattle.c_core.specs.Primitives.{AnInstance}
use Rattle.c_core.specs.Step.{Next, Goes, Ends, Faulted, if_calm, if_some, if_true, if_variable, if_passed, entered, method_of, method_step, method_called, takes_and_gives, function_step}
use Rattle.c_runner_table.specs.declared.naming.Methods.{Methods}
use Rattle.c_runner.specs.Methods.{function_for, method_begins}
use Rattle.c_runner_deeds.specs.Objects.{instance_in, object_of}
use Rattle.c_runner_deeds.specs.Parts.{if_argument}
use Rattle.c_runner.specs.Parts.{unless_fault}
use Rattle.c_runner_deeds.specs.States.{Rest, state_of, Seen}
use Rattle.c_runner_table.specs.Targets.{functions_of, methods_of}
use Rattle.slot_arena.specs.declared.key.Key.{Key}
use Rattle.cell_heap.specs.declared.word.Word.{Word}
use Rattle.cell_heap.specs.Contents as contents
use Rattle.c_runner_deeds.proofs.FindLemmas.{found, instance_variable}
use Rattle.c_runner.proofs.FrameLemmas.{left, one_passed, too_many, too_few, all_passed}

-- ---- the function of a method
-- what is found at a place of a list of what was looked up
looked_up : {X Y : Type 0} (f : X → Option Y) (o : Option X) → option_flatten (option_map f o) ≡ option_and_then f o
looked_up f None = refl
looked_up f (Some x) = refl

flat_at : {X Y : Type 0} (f : X → Option Y) (xs : List X) (n : ℕ) → option_flatten (slice_get (map f xs) n) ≡ option_and_then f (slice_get xs n)
flat_at f xs n = ap option_flatten (slice_get-map f xs n) ∙ looked_up f (slice_get xs n)

module _ (code : Code) (class : ℕ) where
  abbrev by_name : List ℕ → Option ℕ
  by_name = number_of code.funcs

  -- the functions of the class
  class_functions : (classes : List Methods) (o : Option Methods) → classes ≡ methods_of code → slice_get classes class ≡ o → o ≡ option_map (functions_of code.funcs) (slice_get code.classes class)
  class_functions classes o e is =
      sym is ∙ ap (λ all. slice_get all class) e ∙ slice_get-map (functions_of code.funcs) code.classes class

  none_mapped : {X Y : Type 0} (f : X → Y) (o : Option X) → None ≡ option_map f o → o ≡ None
  none_mapped f None e = refl
  none_mapped f (Some x) e = absurd (cc)

  some_mapped : {X Y : Type 0} (f : X → Y) (o : Option X) (y : Y) → Some y ≡ option_map f o → (x : X) × ((o ≡ Some x) × (y ≡ f x))
  some_mapped f None y e = absurd (cc)
  some_mapped f (Some x) y e = let same : y ≡ f x = cc in (x, (refl, same))

  abbrev Entry : Type 0
  Entry = CClass → Option (List ℕ)

  pub no_class : (entry : Entry) → slice_get code.classes class ≡ None → None ≡ function_for code entry class
  no_class entry e = sym (ap (λ o. option_and_then by_name (option_and_then entry o)) e)

  pub no_functions : (entry : Entry) (classes : List Methods) → classes ≡ methods_of code → slice_get classes class ≡ None → None ≡ function_for code entry class
  no_functions entry classes e none =
      no_class entry (none_mapped (functions_of code.funcs) (slice_get code.classes class) (class_functions classes None e none))

  pub own_found : (classes : List Methods) (m : Methods) (n : ℕ) → classes ≡ methods_of code → slice_get classes class ≡ Some m → option_flatten (slice_get m.own n) ≡ function_for code (method_at n) class
  own_found classes m n e is =
      let k = some_mapped (functions_of code.funcs) (slice_get code.classes class) m (class_functions classes (Some m) e is) in
      ap (λ f. option_flatten (slice_get f.own n)) k.1.1
      ∙ flat_at by_name k.0.methods n
      ∙ sym (ap (λ o. option_and_then by_name (option_and_then (method_at n) o)) k.1.0)

  -- ---- a trait, by its place
  abbrev Entries : Type 0
  Entries = List (List ℕ × List (List ℕ))

  find_either : (b : Bool) (traits : Entries) (n : ℕ) → nat_lt n (length traits) ≡ b → slice_get traits n ≡ option_and_then (slice_get traits) (cond b (Some n) None)
  find_either true traits n e = refl
  find_either false traits n e = slice_get_past traits n (grind (arith, nat_tests, e))

  find_placed : (name : List ℕ) (traits : Entries) → find (λ entry. bytes_eq name entry.0) traits ≡ option_and_then (slice_get traits) (position (λ entry. bytes_eq name entry.0) traits)
  find_placed name traits =
      let n = position_or_len (λ entry. bytes_eq name entry.0) traits in
      find_at (λ entry. bytes_eq name entry.0) traits ∙ find_either (nat_lt n (length traits)) traits n refl

  abbrev entry_in : ℕ → Entries → Option ℕ → Option ℕ
  entry_in n traits place =
      option_and_then by_name (option_and_then (λ entry. slice_get entry.1 n) (option_and_then (slice_get traits) place))

  trait_function : (name : List ℕ) (n : ℕ) (k : CClass) (place : Option ℕ) → slice_get code.classes class ≡ Some k → place ≡ position (λ entry. bytes_eq name entry.0) k.traits → entry_in n k.traits place ≡ function_for code (trait_method_at name n) class
  trait_function name n k place is e =
      ap (entry_in n k.traits) e
      ∙ ap (λ o. option_and_then by_name (option_and_then (λ entry. slice_get entry.1 n) o)) (sym (find_placed name k.traits))
      ∙ sym (ap (λ o. option_and_then by_name (option_and_then (trait_method_at name n) o)) is)

  pub no_trait : (name : List ℕ) (n : ℕ) (k : CClass) (place : Option ℕ) → slice_get code.classes class ≡ Some k → place ≡ position (λ entry. bytes_eq name entry.0) k.traits → place ≡ None → None ≡ function_for code (trait_method_at name n) class
  no_trait name n k place is e none = sym (ap (entry_in n k.traits) none) ∙ trait_function name n k place is e

  -- the functions that the class has for the trait at a place
  abbrev for_trait : List ℕ × List (List ℕ) → List (Option ℕ)
  for_trait entry = map by_name entry.1

  functions_at : (classes : List Methods) (m : Methods) (k : CClass) → classes ≡ methods_of code → slice_get classes class ≡ Some m → slice_get code.classes class ≡ Some k → m ≡ functions_of code.funcs k
  functions_at classes m k e is there =
      let both : Some m ≡ Some (functions_of code.funcs k) = class_functions classes (Some m) e is ∙ ap (option_map (functions_of code.funcs)) there in
      cc

  none_there : (n : ℕ) (o : Option (List ℕ × List (List ℕ))) → None ≡ option_map for_trait o → None ≡ option_and_then by_name (option_and_then (λ entry. slice_get entry.1 n) o)
  none_there n None e = refl
  none_there n (Some entry) e = absurd (cc)

  some_there : (n : ℕ) (o : Option (List ℕ × List (List ℕ))) (fs : List (Option ℕ)) → Some fs ≡ option_map for_trait o → option_flatten (slice_get fs n) ≡ option_and_then by_name (option_and_then (λ entry. slice_get entry.1 n) o)
  some_there n None fs e = absurd (cc)
  some_there n (Some entry) fs e =
      let same : fs ≡ for_trait entry = cc in ap (λ all. option_flatten (slice_get all n)) same ∙ flat_at by_name entry.1 n

  module _ (name : List ℕ) (n : ℕ) (classes : List Methods) (m : Methods) (k : CClass) (found_at : Option ℕ) (place : ℕ) (e : classes ≡ methods_of code) (is : slice_get classes class ≡ Some m) (there : slice_get code.classes class ≡ Some k) (located : found_at ≡ position (λ entry. bytes_eq name entry.0) k.traits) (placed : found_at ≡ Some place) where
    traits_at : (o : Option (List (Option ℕ))) → slice_get m.traits place ≡ o → o ≡ option_map for_trait (slice_get k.traits place)
    traits_at o known =
        sym known ∙ ap (λ f. slice_get f.traits place) (functions_at classes m k e is there) ∙ slice_get-map for_trait k.traits place

    at_place : entry_in n k.traits (Some place) ≡ function_for code (trait_method_at name n) class
    at_place = trait_function name n k (Some place) there (sym placed ∙ located)

    pub no_entries : slice_get m.traits place ≡ None → None ≡ function_for code (trait_method_at name n) class
    no_entries known = none_there n (slice_get k.traits place) (traits_at None known) ∙ at_place

    pub trait_found : (fs : List (Option ℕ)) → slice_get m.traits place ≡ Some fs → option_flatten (slice_get fs n) ≡ function_for code (trait_method_at name n) class
    trait_found fs known = some_there n (slice_get k.traits place) fs (traits_at (Some fs) known) ∙ at_place

-- ---- the object
module _ (rest : Rest) (old : Seen) (code : Code) (target o : ℕ) (args : List ℕ) (entry : CClass → Option (List ℕ)) where
  abbrev s : MachineState
  s = state_of rest old

  abbrev calls : Next
  calls = method_called true s code target o args entry

  abbrev with : Argument → Next
  with a = if_some true s fault.Kind (method_of code entry a) (λ f. if_some true s fault.Kind (slice_get code.funcs f) (method_step true s code target (o ∷ args) f))

  some_pending : (p : Option Key) → is_some p ≡ true → (go : Next) → if_calm true s (option_map contents.number_of p) go ≡ Ends (Faulted fault.Kind) s
  some_pending None e go = absurd (cc)
  some_pending (Some key) e go = refl

  pub not_calm : is_some old.pending ≡ true → calls ≡ Ends (Faulted fault.Kind) s
  not_calm e = some_pending old.pending e (if_variable true s Object AnInstance o with)

  by_class : old.pending ≡ None → calls ≡ found s (object_of instance_in s.cells (slice_get s.top.vars o)) (λ q. with (Cell q.0 (InstCell q.1.0 q.1.1)))
  by_class calm =
      ap (λ p. if_calm true s (option_map contents.number_of p) (if_variable true s Object AnInstance o with)) calm
      ∙ instance_variable s o with

  pub no_object : (why : Fault) → old.pending ≡ None → object_of instance_in old.cells (slice_get (map contents.word_of old.top.vars) o) ≡ Err why → calls ≡ Ends (Faulted why) s
  no_object why calm e = by_class calm ∙ ap (λ r. found s r (λ q. with (Cell q.0 (InstCell q.1.0 q.1.1)))) e

  pub of_class : (q : ℕ × (ℕ × List (Option machine.Word))) → old.pending ≡ None → object_of instance_in old.cells (slice_get (map contents.word_of old.top.vars) o) ≡ Ok q → calls ≡ method_begins code target (o ∷ args) (function_for code entry q.1.0) s
  of_class q calm e = by_class calm ∙ ap (λ r. found s r (λ q. with (Cell q.0 (InstCell q.1.0 q.1.1)))) e

-- ---- the function
module _ (rest : Rest) (old : Seen) (code : Code) (target : ℕ) (args : List ℕ) where
  abbrev t : MachineState
  t = state_of rest old

  abbrev begins : Option ℕ → Next
  begins f = method_begins code target args f t

  pub no_function : (o : Option ℕ) (f : ℕ) → o ≡ Some f → slice_get code.funcs f ≡ None → begins o ≡ Ends (Faulted fault.Kind) t
  no_function o f is none =
      ap begins is ∙ ap (λ g. if_some true t fault.Kind g (method_step true t code target args f)) none

  function_is : (o : Option ℕ) (f : ℕ) (g : CFunc) → o ≡ Some f → slice_get code.funcs f ≡ Some g → begins o ≡ method_step true t code target args f g
  function_is o f g is e = ap begins is ∙ ap (λ h. if_some true t fault.Kind h (method_step true t code target args f)) e

  pub not_taken : (o : Option ℕ) (f : ℕ) (g : CFunc) (b : Bool) → o ≡ Some f → slice_get code.funcs f ≡ Some g → b ≡ takes_and_gives true t code target args g → b ≡ false → begins o ≡ Ends (Faulted fault.Kind) t
  not_taken o f g b is e fits fails =
      function_is o f g is e ∙ ap (λ c. if_true true t c (function_step true t (Some target) (map arg.Var args) f g)) (sym fits ∙ fails)

  abbrev enters : ℕ → CFunc → List machine.Word → Next
  enters f g ws = Goes (entered true t (Some target) f (entry_words ws g))

  taken : (o : Option ℕ) (f : ℕ) (g : CFunc) (b : Bool) → o ≡ Some f → slice_get code.funcs f ≡ Some g → b ≡ takes_and_gives true t code target args g → b ≡ true → begins o ≡ if_passed true t (parameter_kinds g) (map arg.Var args) (enters f g)
  taken o f g b is e fits holds =
      function_is o f g is e ∙ ap (λ c. if_true true t c (function_step true t (Some target) (map arg.Var args) f g)) (sym fits ∙ holds)

  module _ (o : Option ℕ) (f : ℕ) (g : CFunc) (b : Bool) (is : o ≡ Some f) (e : slice_get code.funcs f ≡ Some g) (fits : b ≡ takes_and_gives true t code target args g) (holds : b ≡ true) (ps : List (List ℕ × Kind)) (first : ps ≡ take g.params g.vars) (words : List Word) (r : Option Fault) (pass : (go : List machine.Word → Next) → if_passed true t (map (λ v. v.1) ps) (map arg.Var args) go ≡ unless_fault r t (go (map contents.word_of words))) where
    passes : begins o ≡ unless_fault r t (enters f g (map contents.word_of words))
    passes =
        taken o f g b is e fits holds
        ∙ ap (λ qs. if_passed true t (map (λ v. v.1) qs) (map arg.Var args) (enters f g)) (sym first)
        ∙ pass (enters f g)

    pub not_passed : (why : Fault) → r ≡ Some why → begins o ≡ Ends (Faulted why) t
    not_passed why failed = passes ∙ ap (λ p. unless_fault p t (enters f g (map contents.word_of words))) failed

    pub method_entered : (new : Seen) → r ≡ None → state_of rest new ≡ entered true t (Some target) f (entry_words (map contents.word_of words) g) → begins o ≡ Goes (state_of rest new)
    method_entered new none last =
        passes ∙ ap (λ p. unless_fault p t (enters f g (map contents.word_of words))) none ∙ ap Goes (sym last)

-- ---- variables that are passed
-- an object comes before the other arguments
pub others_behind : (o : ℕ) (xs : List ℕ) (n : ℕ) → (n ≡ 0 → ⊥) → slice_get xs (n - 1) ≡ slice_get (o ∷ xs) n
others_behind o xs zero some = absurd (some refl)
others_behind o xs (suc n) some = let same : suc n - 1 ≡ n = omega arith in ap (slice_get xs) same

pub object_first : (o : ℕ) (xs : List ℕ) (n : ℕ) → n ≡ 0 → Some o ≡ slice_get (o ∷ xs) n
object_first o xs n e = ap (slice_get (o ∷ xs)) (sym e)

abbrev pub passing : List ℕ → List CArg
passing xs = map arg.Var xs

variable_there : (xs : List ℕ) (i x : ℕ) → slice_get xs i ≡ Some x → slice_get (passing xs) i ≡ Some (arg.Var x)
variable_there xs i x e = slice_get-map arg.Var xs i ∙ ap (option_map arg.Var) e

module _ (s : MachineState) (ps : List (List ℕ × Kind)) (xs : List ℕ) where
  pub passed_one : (i : ℕ) (p : List ℕ × Kind) (x : ℕ) (go : List machine.Word → Next) → i < length ps → p ≡ get_or ps i p → slice_get xs i ≡ Some x → left s ps (passing xs) i go ≡ if_argument s p.1 (arg.Var x) (λ w. left s ps (passing xs) (i + 1) (λ ws. go (w ∷ ws)))
  passed_one i p x go lt is e =
      one_passed s ps (passing xs) i p (arg.Var x) go lt is
      (slice_get_within (passing xs) i (arg.Var x) (variable_there xs i x e))
      (sym (get_or_from_slice_get (passing xs) i (arg.Var x) (arg.Var x) (variable_there xs i x e)))

  none_further : (i : ℕ) → slice_get xs i ≡ None → slice_get (passing xs) i ≡ None
  none_further i e = slice_get-map arg.Var xs i ∙ ap (option_map arg.Var) e

  past : {X : Type 0} (ys : List X) (i : ℕ) → slice_get ys i ≡ None → length ys ≤ i
  past [] i e = omega arith
  past (y ∷ ys) zero e = absurd (cc)
  past (y ∷ ys) (suc i) e = let le : length ys ≤ i = past ys i e in omega (arith, le)

  pub none_passed : (i : ℕ) (go : List machine.Word → Next) → i < length ps → slice_get xs i ≡ None → left s ps (passing xs) i go ≡ Ends (Faulted fault.Kind) s
  none_passed i go lt e = too_few s ps (passing xs) i go lt (past (passing xs) i (none_further i e))

  passing_length : length (passing xs) ≡ length xs
  passing_length = length-map xs arg.Var

  pub more_passed : (i : ℕ) (go : List machine.Word → Next) → length ps ≤ i → i < length xs → left s ps (passing xs) i go ≡ Ends (Faulted fault.Kind) s
  more_passed i go le lt = too_many s ps (passing xs) i go le (omega (arith, lt, passing_length))

  pub every_passed : (i : ℕ) (words : List Word) (go : List machine.Word → Next) → length ps ≤ i → length xs ≤ i → left s ps (passing xs) i (λ ws. go (map contents.word_of words ++ ws)) ≡ go (map contents.word_of words)
  every_passed i words go le few =
      all_passed s ps (passing xs) i (λ ws. go (map contents.word_of words ++ ws)) le (omega (arith, few, passing_length))
      ∙ ap go (append-nil (map contents.word_of words))
