-- Calls of primitives on instances: what the machine finds in their arguments, and what it does then, at the runner's states.
use Rattle.std.proofs.Common.{◌≡◌, refl, sym, ap, ◌∙◌, ℕ, zero, suc, ◌+◌, ◌<◌, arith, Bool, true, false, cond, eqb, List, [], ◌∷◌, length, drop, Option, Some, None}
use Rattle.std.specs.Prelude.{ℤ, pos, negsuc, map, slice_get, slice_set, Result, Ok, Err, IfOk}
use Rattle.std.specs.Option.{option_and_then, option_flatten, option_map}
use Rattle.std.proofs.lemmas.Bool.Decides.{nat_tests}
use Rattle.c_core.specs.declared.code.CArg.{CArg}
use Rattle.c_core.specs.declared.code.CArg.TheVariants as arg
use Rattle.c_core.specs.declared.code.CClass.{CClass}
use Rattle.c_core.specs.declared.code.Code.{Code}
use Rattle.c_core.specs.declared.code.Kind.{Kind}
use Rattle.c_core.specs.declared.code.Kind.TheVariants.{Object}
use Rattle.c_core.specs.declared.fault.Fault.{Fault}
use Rattle.c_core.specs.declared.fault.Fault.TheVariants as fault
use Rattle.c_core.specs.declared.primitive.Primitive.{Primitive}
use Rattle.c_core.specs.declared.primitive.Primitive.TheVariants as prim
use Rattle.c_core.specs.declared.primitive.InstancePrim.{InstancePrim}
use Rattle.c_core.specs.declared.primitive.InstancePrim.TheVariants as instance
use Rattle.c_core.specs.declared.primitive.AttrPrim.TheVariants as attr
use Rattle.c_core.specs.Arguments.{Argument, Cell, Written, kind_of_slot, word_in, stolen}
use Rattle.c_core.specs.Cells.{Cells, content_at}
use Rattle.c_core.specs.Functions.{has_kind, kinds_agree}
use Rattle.c_core.specs.Ledgers.{Ledger}
use Rattle.c_core.specs.Machine as machine
use Rattle.c_core.specs.Machine.{NoneObject, Content, InstCell, MachineState, noted, refs_in, set_refs}
use Rattle.c_core.specs.Primitives.{Parameter, Borrows, Steals, TakesPlace, Is, OfSlot, Anything, AnInstance, row_of}
use Rattle.c_core.specs.Release.{release}
use Rattle.c_core.specs.Step as step
use Rattle.c_core.specs.Step.{Next, Goes, Ends, Faulted, Effect, Wrong, Makes, Changes, if_some, if_true, if_variable, if_stolen, if_argument, if_arguments, faulted, applied, primitive_step, kind_of, slot_fits, answer_fits, instance_of, attribute_at, attribute_got, attribute_set, slot_got, slot_set, of_word, lent}
use Rattle.c_runner_deeds.specs.declared.ending.Ending.{Ending}
use Rattle.c_runner_deeds.specs.declared.state.Frame.{Frame}
use Rattle.c_runner_deeds.specs.Deeds.{then_done, then_tried, lent_done, performed, instance_and_place}
use Rattle.c_runner_objects.specs.Instances.{slot_in, slot_at, takes_kind, held_read, slot_read, attribute_done, instance_held, class_at, attributes_at, HoldsInstance, attribute_put}
use Rattle.c_runner_deeds.specs.Objects.{instance_in, held, beside, object_of, instance_at, written_number}
use Rattle.c_runner_deeds.specs.Parts.{argument_of, left_by, stolen_or, class_of}
use Rattle.c_runner_deeds.specs.States.{Seen, Rest, Leads, held_of, state_of, next_of, with_target}
use Rattle.slot_arena.specs.declared.key.Key.{Key}
use Rattle.cell_heap.specs.declared.word.Word.{Word}
use Rattle.cell_heap.specs.declared.word.Word.TheVariants as heap
use Rattle.cell_heap.specs.Contents as contents
use Rattle.cell_heap.specs.Contents.{number_of}
use Rattle.cell_heap.specs.Words.{with_word, refill_by, word_at}
use Rattle.cell_heap.specs.Words as words
use Rattle.cell_heap.proofs.RefillLemmas.{refill-there}
use Rattle.c_runner_deeds.proofs.FindLemmas.{found, two_of, instance_finds, place_finds}
use Rattle.c_runner_objects.proofs.ListLemmas.{changed, no_fault}
use Rattle.c_runner_deeds.proofs.StolenLemmas.{last_stolen}

-- an instance as it was found: its cell, its class and its attributes
abbrev Instance : Type 0
Instance = ℕ × (ℕ × List (Option machine.Word))

abbrev cell : Instance → Argument
cell q = Cell q.0 (InstCell q.1.0 q.1.1)

abbrev Slot : Type 0
Slot = List ℕ × Kind

-- ---- slots
-- the kind of a slot
abbrev kind_at : ℕ × (CClass × Slot) → Kind
kind_at slot = slot.1.1.1

kind_there : (k : CClass) (i : ℕ) (o : Option Slot) → option_map (λ a. a.1) o ≡ option_map kind_at (option_map (λ a. (i, (k, a))) o)
kind_there k i None = refl
kind_there k i (Some a) = refl

kind_in : (o : Option CClass) (i : ℕ) → option_and_then (λ k. option_map (λ a. a.1) (slice_get k.attrs i)) o ≡ option_map kind_at (slot_in o i)
kind_in None i = refl
kind_in (Some k) i = kind_there k i (slice_get k.attrs i)

slot_kind : (code : Code) (class : ℕ) (n : ℤ) → kind_of_slot code class n ≡ option_map kind_at (slot_at code class n)
slot_kind code class (pos i) = kind_in (slice_get code.classes class) i
slot_kind code class (negsuc i) = refl

pub slot_kind_is : (code : Code) (class : ℕ) (n : ℤ) (q : ℕ × (CClass × Slot)) → slot_at code class n ≡ Some q → kind_of_slot code class n ≡ Some q.1.1.1
slot_kind_is code class n q e = slot_kind code class n ∙ ap (option_map kind_at) e

-- a slot that is there has its number for its place
place_in : (k : CClass) (i : ℕ) (o : Option Slot) (q : ℕ × (CClass × Slot)) → option_map (λ a. (i, (k, a))) o ≡ Some q → i ≡ q.0
place_in k i None q e = absurd (cc)
place_in k i (Some a) q e = let same : (i, (k, a)) ≡ q = cc in ap (λ p. p.0) same

place_of_class : (o : Option CClass) (i : ℕ) (q : ℕ × (CClass × Slot)) → slot_in o i ≡ Some q → i ≡ q.0
place_of_class None i q e = absurd (cc)
place_of_class (Some k) i q e = place_in k i (slice_get k.attrs i) q e

pub slot_place : (code : Code) (class : ℕ) (n : ℤ) (q : ℕ × (CClass × Slot)) → slot_at code class n ≡ Some q → n ≡ pos q.0
slot_place code class (pos i) q e = ap pos (place_of_class (slice_get code.classes class) i q e)
slot_place code class (negsuc i) q e = absurd (cc)

-- ---- reads
same_done : (r : Result Effect Fault) → then_done (λ e. e) r ≡ r
same_done (Ok e) = refl
same_done (Err why) = refl

no_attribute : (o : Option CClass) (i : ℕ) → attribute_got o (negsuc i) None ≡ Wrong
no_attribute None i = refl
no_attribute (Some k) i = refl

module _ (s : MachineState) (code : Code) (x : Option ℕ) where
  abbrev acts : Effect → Next
  acts e = applied true s x s.top.ledger [] e

  -- the answer fits where its kind, if there is one, is that of the target, if there is one
  abbrev fits : Option ℕ → Option Kind → Bool
  fits None k = true
  fits (Some t) k = kinds_agree k (kind_of code s.top t)

  fits_is : (t : Option ℕ) (q : Instance) (n : ℤ) → slot_fits code s.top OfSlot t (cell q ∷ Written (arg.Number n) ∷ []) ≡ fits t (kind_of_slot code q.1.0 n)
  fits_is None q n = refl
  fits_is (Some t) q n = refl

  -- what is read may be lent
  module _ (does : Effect → Effect) (wrong : does Wrong ≡ Wrong) where
    abbrev reads : Option ℕ → Instance → ℤ → Next
    reads t q n = if_true true s (fits t (kind_of_slot code q.1.0 n)) (acts (does (attribute_got (slice_get code.classes q.1.0) n (attribute_at q.1.1 n))))

    abbrev done : Result Effect Fault → Next
    done r = performed x (then_done does r) s

    read_held : (b : Bool) (k : CClass) (a : Slot) (o : Option (Option machine.Word)) → if_true true s b (acts (does (slot_got k.name (Some a) o))) ≡ done (cond b (held_read k a o) (Err fault.Kind))
    read_held false k a o = refl
    read_held true k a None = ap acts wrong
    read_held true k a (Some None) = refl
    read_held true k a (Some (Some w)) = refl

    read_slot : (t : Option ℕ) (k : CClass) (i : ℕ) (o : Option Slot) (attributes : List (Option machine.Word)) → if_true true s (fits t (option_map (λ a. a.1) o)) (acts (does (slot_got k.name o (slice_get attributes i)))) ≡ done (slot_read code s.top t attributes (option_map (λ a. (i, (k, a))) o))
    read_slot None k i None attributes = ap acts wrong
    read_slot (Some t) k i None attributes = refl
    read_slot None k i (Some a) attributes = read_held true k a (slice_get attributes i)
    read_slot (Some t) k i (Some a) attributes = read_held (has_kind a.1 (kind_of code s.top t)) k a (slice_get attributes i)

    read_class : (t : Option ℕ) (o : Option CClass) (i : ℕ) (attributes : List (Option machine.Word)) → if_true true s (fits t (option_and_then (λ k. option_map (λ a. a.1) (slice_get k.attrs i)) o)) (acts (does (attribute_got o (pos i) (slice_get attributes i)))) ≡ done (slot_read code s.top t attributes (slot_in o i))
    read_class None None i attributes = ap acts wrong
    read_class (Some t) None i attributes = refl
    read_class t (Some k) i attributes = read_slot t k i (slice_get k.attrs i) attributes

    read_at : (t : Option ℕ) (q : Instance) (n : ℤ) → reads t q n ≡ done (slot_read code s.top t q.1.1 (slot_at code q.1.0 n))
    read_at t q (pos i) = read_class t (slice_get code.classes q.1.0) i q.1.1
    read_at None q (negsuc i) = ap (λ e. acts (does e)) (no_attribute (slice_get code.classes q.1.0) i) ∙ ap acts wrong
    read_at (Some t) q (negsuc i) = refl

    read_all : (r : Result (Instance × ℤ) Fault) → found s r (λ q. done (slot_read code s.top x q.0.1.1 (slot_at code q.0.1.0 q.1))) ≡ done (then_tried (λ q. slot_read code s.top x q.0.1.1 (slot_at code q.0.1.0 q.1)) r)
    read_all (Ok q) = refl
    read_all (Err why) = refl

    attribute_read : (args : List CArg) (go : List Argument → Ledger → Next) → ((q : Instance) (n : ℤ) → go (cell q ∷ Written (arg.Number n) ∷ []) s.top.ledger ≡ reads x q n) → if_arguments true s code (Borrows (Is Object) AnInstance ∷ TakesPlace ∷ []) args [] s.top.ledger go ≡ done (attribute_done code s.top x s.cells s.top.vars args)
    attribute_read args go same =
        two_of s (instance_finds s) (place_finds s) code args s.top.ledger go (λ q. done (slot_read code s.top x q.0.1.1 (slot_at code q.0.1.0 q.1)))
        (λ b c q n e g. ap (λ y. go (y ∷ c ∷ []) s.top.ledger) e ∙ ap (λ y. go (cell q ∷ y ∷ []) s.top.ledger) g ∙ same q n ∙ read_at x q n)
        ∙ read_all (instance_and_place s.cells s.top.vars args)

  -- what is left of a step of a row whose arguments passed their tests
  abbrev goes : Primitive → List Argument → Ledger → Next
  goes p all l = if_true true s (answer_fits code s.top (row_of p).outcome x all) (applied true s x l (stolen (row_of p).parameters all) (step.effect code s p all))

  pub attribute_called : (args : List CArg) → primitive_step true s code x args (prim.Attr attr.Get) ≡ performed x (attribute_done code s.top x s.cells s.top.vars args) s
  attribute_called args =
      attribute_read (λ e. e) refl args (goes (prim.Attr attr.Get))
      (λ q n. ap (λ b. if_true true s b (acts (attribute_got (slice_get code.classes q.1.0) n (attribute_at q.1.1 n)))) (fits_is x q n))
      ∙ ap (λ d. performed x d s) (same_done (attribute_done code s.top x s.cells s.top.vars args))

  pub attribute_lent : (args : List CArg) → primitive_step true s code x args (prim.Attr attr.GetBorrow) ≡ performed x (lent_done (attribute_done code s.top x s.cells s.top.vars args)) s
  attribute_lent args =
      attribute_read lent refl args (goes (prim.Attr attr.GetBorrow))
      (λ q n. ap (λ b. if_true true s b (acts (lent (attribute_got (slice_get code.classes q.1.0) n (attribute_at q.1.1 n))))) (fits_is x q n))

-- what the runner reads
pub reads_fault : (code : Code) (f : machine.Frame) (x : Option ℕ) (cells : Cells Content) (vars : List machine.Word) (args : List CArg) (why : Fault) → instance_and_place cells vars args ≡ Err why → Err why ≡ attribute_done code f x cells vars args
reads_fault code f x cells vars args why e = sym (ap (then_tried (λ p. slot_read code f x p.0.1.1 (slot_at code p.0.1.0 p.1))) e)

pub reads_nothing : (code : Code) (f : machine.Frame) (x : Option ℕ) (cells : Cells Content) (vars : List machine.Word) (args : List CArg) (q : Instance) (n : ℤ) → instance_and_place cells vars args ≡ Ok (q, n) → slot_at code q.1.0 n ≡ None → Err fault.Kind ≡ attribute_done code f x cells vars args
reads_nothing code f x cells vars args q n e none =
    sym (ap (then_tried (λ p. slot_read code f x p.0.1.1 (slot_at code p.0.1.0 p.1))) e ∙ ap (slot_read code f x q.1.1) none)

pub reads_other : (code : Code) (f : machine.Frame) (x : Option ℕ) (cells : Cells Content) (vars : List machine.Word) (args : List CArg) (q : Instance) (n : ℤ) (slot : ℕ × (CClass × Slot)) → instance_and_place cells vars args ≡ Ok (q, n) → slot_at code q.1.0 n ≡ Some slot → takes_kind code f x slot.1.1.1 ≡ false → Err fault.Kind ≡ attribute_done code f x cells vars args
reads_other code f x cells vars args q n slot e is other =
    sym (ap (then_tried (λ p. slot_read code f x p.0.1.1 (slot_at code p.0.1.0 p.1))) e
    ∙ ap (slot_read code f x q.1.1) is
    ∙ ap (λ b. cond b (held_read slot.1.0 slot.1.1 (slice_get q.1.1 slot.0)) (Err fault.Kind)) other)

pub reads_slot : (code : Code) (f : machine.Frame) (x : Option ℕ) (cells : Cells Content) (vars : List machine.Word) (args : List CArg) (q : Instance) (n : ℤ) (slot : ℕ × (CClass × Slot)) → instance_and_place cells vars args ≡ Ok (q, n) → slot_at code q.1.0 n ≡ Some slot → takes_kind code f x slot.1.1.1 ≡ true → held_read slot.1.0 slot.1.1 (slice_get q.1.1 slot.0) ≡ attribute_done code f x cells vars args
reads_slot code f x cells vars args q n slot e is takes =
    sym (ap (then_tried (λ p. slot_read code f x p.0.1.1 (slot_at code p.0.1.0 p.1))) e
    ∙ ap (slot_read code f x q.1.1) is
    ∙ ap (λ b. cond b (held_read slot.1.0 slot.1.1 (slice_get q.1.1 slot.0)) (Err fault.Kind)) takes)

-- ---- a new instance
pub only_new : (o : InstancePrim) → o ≡ instance.New
only_new instance.New = refl

module _ (s : MachineState) (code : Code) (x : Option ℕ) where
  abbrev new_step : List CArg → Next
  new_step args = primitive_step true s code x args (prim.Instance instance.New)

  pub new_crowded : (args : List CArg) → eqb (length args) 1 ≡ false → new_step args ≡ Ends (Faulted fault.Kind) s
  new_crowded [] e = refl
  new_crowded (a ∷ []) e = absurd (grind (arith, nat_tests, e))
  new_crowded (arg.Class name ∷ b ∷ args) e = refl
  new_crowded (_ ∷ b ∷ args) e = refl

  abbrev news : Option ℕ → Option CClass → Next
  news n k = applied true s x s.top.ledger [] (instance_of n k)

  pub new_unnamed : (args : List CArg) → eqb (length args) 1 ≡ true → class_of code args ≡ None → new_step args ≡ Ends (Faulted fault.Kind) s
  new_unnamed [] one e = refl
  new_unnamed (arg.Class name ∷ []) one e = ap (λ n. news n (option_and_then (slice_get code.classes) n)) e
  new_unnamed (_ ∷ []) one e = refl
  new_unnamed (a ∷ b ∷ args) one e = absurd (grind (arith, nat_tests, one))

  new_called : (args : List CArg) (n : ℕ) (o : Option CClass) → eqb (length args) 1 ≡ true → class_of code args ≡ Some n → slice_get code.classes n ≡ o → new_step args ≡ news (Some n) o
  new_called [] n o one e is = absurd (cc)
  new_called (arg.Class name ∷ []) n o one e is = ap (λ m. news m (option_and_then (slice_get code.classes) m)) e ∙ ap (news (Some n)) is
  new_called (_ ∷ []) n o one e is = absurd (cc)
  new_called (a ∷ b ∷ args) n o one e is = absurd (grind (arith, nat_tests, one))

  pub new_absent : (args : List CArg) (n : ℕ) → eqb (length args) 1 ≡ true → class_of code args ≡ Some n → slice_get code.classes n ≡ None → new_step args ≡ Ends (Faulted fault.Kind) s
  new_absent args n one e none = new_called args n None one e none

  pub new_is : (args : List CArg) (n : ℕ) (k : CClass) → eqb (length args) 1 ≡ true → class_of code args ≡ Some n → slice_get code.classes n ≡ Some k → new_step args ≡ applied true s x s.top.ledger [] (Makes (InstCell n (map (λ a. None) k.attrs)))
  new_is args n k one e is = new_called args n (Some k) one e is

-- the same step in other words
pub leads_on : {E : Type 0} (does other : MachineState → Next) (old new : Seen) (r : Result (Option Ending) E) → ((rest : Rest) → other (state_of rest old) ≡ does (state_of rest old)) → IfOk r (λ ending. Leads does ending old new) → IfOk r (λ ending. Leads other ending old new)
leads_on does other old new (Ok ending) same h = λ rest. let led = h rest in (led.0, same rest ∙ led.1)
leads_on does other old new (Err failed) same h = tt

-- what leads to a state has made an object
pub makes_instance : {E : Type 0} (old new : Seen) (code : Code) (target : Option ℕ) (args : List CArg) (n : ℕ) (k : CClass) (attributes : List (Option machine.Word)) (r : Result (Option Ending) E) → eqb (length args) 1 ≡ true → class_of code args ≡ Some n → slice_get code.classes n ≡ Some k → attributes ≡ map (λ a. None) k.attrs → IfOk r (λ ending. (rest : Rest) → applied true (state_of rest old) target old.top.ledger [] (Makes (InstCell n attributes)) ≡ next_of ending (state_of (record rest { made = noted (InstCell n attributes) (length old.cells) rest.made }) new)) → IfOk r (λ ending. Leads (λ s. primitive_step true s code target args (prim.Instance instance.New)) ending old new)
makes_instance old new code target args n k attributes (Ok ending) one e is unset h = λ rest.
    let s = state_of rest old in (
      noted (InstCell n attributes) (length old.cells) rest.made,
      new_is s code target args n k one e is ∙ ap (λ all. applied true s target s.top.ledger [] (Makes (InstCell n all))) (sym unset) ∙ h rest,
    )
makes_instance old new code target args n k attributes (Err failed) one e is unset h = tt

-- ---- an instance that was found
cell_holds : (d : ℕ) (o : Option Content) (q : Instance) → beside d (held instance_in o) ≡ Ok q → (d ≡ q.0) × (o ≡ Some (InstCell q.1.0 q.1.1))
cell_holds d (Some (InstCell class attributes)) q e =
    let same : (d, (class, attributes)) ≡ q = cc in (ap (λ p. p.0) same, ap (λ p. Some (InstCell p.1.0 p.1.1)) same)
cell_holds d _ q e = absurd (no_fault _ q refl e)

word_holds : (cells : Cells Content) (o : Option machine.Word) (q : Instance) → object_of instance_in cells o ≡ Ok q → content_at cells q.0 ≡ Some (InstCell q.1.0 q.1.1)
word_holds cells (Some (machine.ObjectCell d)) q e =
    let both = cell_holds d (content_at cells d) q e in ap (content_at cells) (sym both.0) ∙ both.1
word_holds cells _ q e = absurd (no_fault _ q refl e)

module _ (cells : Cells Content) (vars : List machine.Word) (a : Option CArg) (q : Instance) (e : instance_at cells vars a ≡ Ok q) where
  content_is : content_at cells q.0 ≡ Some (InstCell q.1.0 q.1.1)
  content_is = word_holds cells _ q e

  class_is : class_at cells q.0 ≡ q.1.0
  class_is = ap (λ o. (instance_held o).0) content_is

  pub attributes_are : attributes_at cells q.0 ≡ q.1.1
  attributes_are = ap (λ o. (instance_held o).1) content_is

  pub holds_instance : HoldsInstance cells q.0
  holds_instance = content_is ∙ ap (λ o. Some (InstCell (instance_held o).0 (instance_held o).1)) (sym content_is)

-- ---- an attribute that is written
module _ (s : MachineState) (code : Code) (target : Option ℕ) where
  abbrev slot : Parameter
  slot = Steals OfSlot Anything

  abbrev kind_fault : Next
  kind_fault = faulted true s fault.Kind

  abbrev set_step : List CArg → Next
  set_step args = primitive_step true s code target args (prim.Attr attr.Set)

  abbrev writes : List Argument → Ledger → Next
  writes all l = applied true s target l (stolen (row_of (prim.Attr attr.Set)).parameters all) (step.effect code s (prim.Attr attr.Set) all)

  abbrev behind : Instance → List CArg → Next
  behind q args = if_arguments true s code (TakesPlace ∷ slot ∷ []) args (cell q ∷ []) s.top.ledger (λ others. writes (cell q ∷ others))

  instance_first : (a : CArg) (args : List CArg) → set_step (a ∷ args) ≡ found s (instance_at s.cells s.top.vars (Some a)) (λ q. behind q args)
  instance_first a args =
      (instance_finds s).argument code a [] s.top.ledger (λ b l. if_arguments true s code (TakesPlace ∷ slot ∷ []) args (b ∷ []) l (λ others. writes (b ∷ others))) (λ q. behind q args)
      (λ b q e. ap (λ y. if_arguments true s code (TakesPlace ∷ slot ∷ []) args (y ∷ []) s.top.ledger (λ others. writes (y ∷ others))) e)

  pub set_no_instance : (args : List CArg) (why : Fault) → instance_at s.cells s.top.vars (slice_get args 0) ≡ Err why → set_step args ≡ Ends (Faulted why) s
  set_no_instance [] why e = ap (λ r. found s r (λ q. kind_fault)) e
  set_no_instance (a ∷ args) why e = instance_first a args ∙ ap (λ r. found s r (λ q. behind q args)) e

  instance_is : (args : List CArg) (q : Instance) → instance_at s.cells s.top.vars (slice_get args 0) ≡ Ok q → set_step args ≡ behind q (drop 1 args)
  instance_is [] q e = absurd (no_fault _ q refl e)
  instance_is (a ∷ args) q e = instance_first a args ∙ ap (λ r. found s r (λ p. behind p args)) e

  abbrev last : Instance → ℤ → List CArg → Next
  last q n args = if_arguments true s code (slot ∷ []) args (cell q ∷ Written (arg.Number n) ∷ []) s.top.ledger (λ others. writes (cell q ∷ Written (arg.Number n) ∷ others))

  place_first : (q : Instance) (a : CArg) (args : List CArg) → behind q (a ∷ args) ≡ found s (written_number (Some a)) (λ n. last q n args)
  place_first q a args =
      (place_finds s).argument code a (cell q ∷ []) s.top.ledger (λ b l. if_arguments true s code (slot ∷ []) args (cell q ∷ b ∷ []) l (λ others. writes (cell q ∷ b ∷ others))) (λ n. last q n args)
      (λ b n e. ap (λ y. if_arguments true s code (slot ∷ []) args (cell q ∷ y ∷ []) s.top.ledger (λ others. writes (cell q ∷ y ∷ others))) e)

  no_place : (q : Instance) (args : List CArg) (why : Fault) → written_number (slice_get args 0) ≡ Err why → behind q args ≡ Ends (Faulted why) s
  no_place q [] why e = ap (λ r. found s r (λ n. kind_fault)) e
  no_place q (a ∷ args) why e = place_first q a args ∙ ap (λ r. found s r (λ n. last q n args)) e

  place_is : (q : Instance) (args : List CArg) (n : ℤ) → written_number (slice_get args 0) ≡ Ok n → behind q args ≡ last q n (drop 1 args)
  place_is q [] n e = absurd (no_fault _ n refl e)
  place_is q (a ∷ args) n e = place_first q a args ∙ ap (λ r. found s r (λ m. last q m args)) e

  unslotted : (q : Instance) (n : ℤ) (args : List CArg) → kind_of_slot code q.1.0 n ≡ None → last q n args ≡ Ends (Faulted fault.Kind) s
  unslotted q n [] e = refl
  unslotted q n (arg.Var y ∷ args) e =
      ap (λ o. if_some true s fault.Kind o (λ kind. if_variable true s kind Anything y (λ a. if_stolen true s a s.top.ledger (λ l. if_arguments true s code [] args (cell q ∷ Written (arg.Number n) ∷ a ∷ []) l (λ others. writes (cell q ∷ Written (arg.Number n) ∷ a ∷ others)))))) e
  unslotted q n (_ ∷ args) e = refl

  one_further : (args : List CArg) (i : ℕ) → slice_get args (suc i) ≡ slice_get (drop 1 args) i
  one_further [] i = refl
  one_further (a ∷ args) i = refl

  abbrev Found : List CArg → Instance → Type 0
  Found args q = instance_at s.cells s.top.vars (slice_get args 0) ≡ Ok q

  abbrev Placed : List CArg → ℤ → Type 0
  Placed args n = written_number (slice_get args 1) ≡ Ok n

  both_are : (args : List CArg) (q : Instance) (n : ℤ) → Found args q → Placed args n → set_step args ≡ last q n (drop 1 (drop 1 args))
  both_are args q n e f =
      instance_is args q e ∙ place_is q (drop 1 args) n (ap written_number (sym (one_further args 0)) ∙ f)

  pub set_no_place : (args : List CArg) (q : Instance) (why : Fault) → Found args q → written_number (slice_get args 1) ≡ Err why → set_step args ≡ Ends (Faulted why) s
  set_no_place args q why e f =
      instance_is args q e ∙ no_place q (drop 1 args) why (ap written_number (sym (one_further args 0)) ∙ f)

  pub set_unslotted : (args : List CArg) (q : Instance) (n : ℤ) → Found args q → Placed args n → slot_at code q.1.0 n ≡ None → set_step args ≡ Ends (Faulted fault.Kind) s
  set_unslotted args q n e f none =
      both_are args q n e f ∙ unslotted q n (drop 1 (drop 1 args)) (slot_kind code q.1.0 n ∙ ap (option_map kind_at) none)

  none_left : (args : List CArg) → slice_get args 0 ≡ None → args ≡ []
  none_left [] e = refl
  none_left (a ∷ args) e = absurd (cc)

  pub set_missing : (args : List CArg) (q : Instance) (n : ℤ) → Found args q → Placed args n → slice_get args 2 ≡ None → set_step args ≡ Ends (Faulted fault.Kind) s
  set_missing args q n e f none =
      both_are args q n e f
      ∙ ap (last q n) (none_left (drop 1 (drop 1 args)) (sym (one_further args 1 ∙ one_further (drop 1 args) 0) ∙ none))

  -- the word is tested before the number of the arguments
  abbrev sets : Instance → ℤ → Bool → Argument → Ledger → Next
  sets q n alone a l = cond alone (applied true s target l (stolen (slot ∷ []) (a ∷ [])) (of_word (attribute_set q.0 q.1.0 n q.1.1) (option_and_then (λ k. word_in k a) (kind_of_slot code q.1.0 n)))) kind_fault

  abbrev Stole : ℤ → Instance → CArg → Result Word Fault → Type 0
  Stole n q a r = (to : Argument → Ledger → Next) → if_argument true s code slot a (cell q ∷ Written (arg.Number n) ∷ []) s.top.ledger to ≡ stolen_or r s to

  fewer : (m : ℕ) → eqb (suc (suc m)) 3 ≡ eqb m 1
  fewer m = grind (arith, nat_tests)

  three_left : (args : List CArg) (n : ℤ) (a : CArg) → Placed args n → slice_get args 2 ≡ Some a → eqb (length args) 3 ≡ eqb (length (drop 1 (drop 1 args))) 1
  three_left [] n a f is = absurd (cc)
  three_left (b ∷ []) n a f is = absurd (cc)
  three_left (b ∷ c ∷ args) n a f is = fewer (length args)

  set_called : (args : List CArg) (q : Instance) (n : ℤ) (a : CArg) (alone : Bool) (r : Result Word Fault) → Found args q → Placed args n → slice_get args 2 ≡ Some a → alone ≡ eqb (length args) 3 → Stole n q a r → set_step args ≡ stolen_or r s (sets q n alone)
  set_called args q n a alone r e f is number stole =
      both_are args q n e f
      ∙ last_stolen s code slot (drop 1 (drop 1 args)) a alone (cell q ∷ Written (arg.Number n) ∷ []) (λ others. writes (cell q ∷ Written (arg.Number n) ∷ others)) r
      (sym (one_further args 1 ∙ one_further (drop 1 args) 0) ∙ is) (number ∙ three_left args n a f is) stole

  pub set_refused : (args : List CArg) (q : Instance) (n : ℤ) (a : CArg) (r : Result Word Fault) (why : Fault) → Found args q → Placed args n → slice_get args 2 ≡ Some a → Stole n q a r → r ≡ Err why → set_step args ≡ Ends (Faulted why) s
  set_refused args q n a r why e f is stole failed =
      set_called args q n a (eqb (length args) 3) r e f is refl stole ∙ ap (λ p. stolen_or p s (sets q n (eqb (length args) 3))) failed

  pub set_crowded : (args : List CArg) (q : Instance) (n : ℤ) (a : CArg) (r : Result Word Fault) (w : Word) → Found args q → Placed args n → slice_get args 2 ≡ Some a → false ≡ eqb (length args) 3 → Stole n q a r → r ≡ Ok w → set_step args ≡ Ends (Faulted fault.Kind) s
  set_crowded args q n a r w e f is number stole passed =
      set_called args q n a false r e f is number stole ∙ ap (λ p. stolen_or p s (sets q n false)) passed

  -- what is stolen goes nowhere else
  gone_or_not : (l : Ledger) (gone : List ℕ) (c class i : ℕ) (attributes : List (Option machine.Word)) (v : machine.Word) (o : Option (Option machine.Word)) → applied true s target l gone (slot_set c class i attributes v o) ≡ applied true s target l [] (slot_set c class i attributes v o)
  gone_or_not l gone c class i attributes v None = refl
  gone_or_not l gone c class i attributes v (Some old) = refl

  set_placed : (args : List CArg) (q : Instance) (n : ℤ) (i : ℕ) (k : Kind) (a : CArg) (r : Result Word Fault) (w : Word) → Found args q → Placed args n → slice_get args 2 ≡ Some a → true ≡ eqb (length args) 3 → Stole n q a r → r ≡ Ok w → kind_of_slot code q.1.0 n ≡ Some k → word_in k (argument_of s.cells (contents.word_of w)) ≡ Some (contents.word_of w) → n ≡ pos i → set_step args ≡ applied true s target (left_by (contents.word_of w) s.top.ledger) [] (slot_set q.0 q.1.0 i q.1.1 (contents.word_of w) (slice_get q.1.1 i))
  set_placed args q n i k a r w e f is number stole passed kind word place =
      let v = contents.word_of w in
      let l = left_by v s.top.ledger in
      let gone = stolen (slot ∷ []) (argument_of s.cells v ∷ []) in
      set_called args q n a true r e f is number stole
      ∙ ap (λ p. stolen_or p s (sets q n true)) passed
      ∙ ap (λ o. applied true s target l gone (of_word (attribute_set q.0 q.1.0 n q.1.1) (option_and_then (λ j. word_in j (argument_of s.cells v)) o))) kind
      ∙ ap (λ o. applied true s target l gone (of_word (attribute_set q.0 q.1.0 n q.1.1) o)) word
      ∙ ap (λ m. applied true s target l gone (attribute_set q.0 q.1.0 m q.1.1 v)) place
      ∙ gone_or_not l gone q.0 q.1.0 i q.1.1 v (slice_get q.1.1 i)

  pub set_absent : (args : List CArg) (q : Instance) (n : ℤ) (i : ℕ) (k : Kind) (a : CArg) (r : Result Word Fault) (w : Word) → Found args q → Placed args n → slice_get args 2 ≡ Some a → true ≡ eqb (length args) 3 → Stole n q a r → r ≡ Ok w → kind_of_slot code q.1.0 n ≡ Some k → word_in k (argument_of s.cells (contents.word_of w)) ≡ Some (contents.word_of w) → n ≡ pos i → slice_get q.1.1 i ≡ None → set_step args ≡ Ends (Faulted fault.Kind) s
  set_absent args q n i k a r w e f is number stole passed kind word place none =
      let v = contents.word_of w in
      set_placed args q n i k a r w e f is number stole passed kind word place
      ∙ ap (λ o. applied true s target (left_by v s.top.ledger) [] (slot_set q.0 q.1.0 i q.1.1 v o)) none

  pub set_is : (args : List CArg) (key : Key) (class : ℕ) (attributes : List (Option machine.Word)) (n : ℤ) (i : ℕ) (k : Kind) (a : CArg) (r : Result Word Fault) (w : Word) → Found args (number_of key, (class, attributes)) → Placed args n → slice_get args 2 ≡ Some a → true ≡ eqb (length args) 3 → Stole n (number_of key, (class, attributes)) a r → r ≡ Ok w → kind_of_slot code class n ≡ Some k → word_in k (argument_of s.cells (contents.word_of w)) ≡ Some (contents.word_of w) → n ≡ pos i → set_step args ≡ attribute_put target key i w s
  set_is args key class attributes n i k a r w e f is number stole passed kind word place =
      let v = contents.word_of w in
      let l = left_by v s.top.ledger in
      let q : Instance = (number_of key, (class, attributes)) in
      set_placed args q n i k a r w e f is number stole passed kind word place
      ∙ ap (λ m. applied true s target l [] (slot_set (number_of key) m i attributes v (slice_get attributes i))) (sym (class_is s.cells s.top.vars (slice_get args 0) q e))
      ∙ ap (λ all. applied true s target l [] (slot_set (number_of key) (class_at s.cells (number_of key)) i all v (slice_get all i))) (sym (attributes_are s.cells s.top.vars (slice_get args 0) q e))

-- ---- an instance that changes
-- the cell is there
pub never_dead : (cells : Cells Content) (c : ℕ) → HoldsInstance cells c → content_at cells c ≡ None → ⊥
never_dead cells c e none = let both : Some (InstCell (class_at cells c) (attributes_at cells c)) ≡ None = sym e ∙ none in cc

something : {X : Type 0} (xs : List X) (i : ℕ) → i < length xs → (x : X) × (slice_get xs i ≡ Some x)
something [] i lt = absurd (omega (arith, lt))
something (x ∷ xs) zero lt = (x, refl)
something (x ∷ xs) (suc i) lt = something xs i (omega (arith, lt))

pub attribute_is_written : (rest : Rest) (old : Seen) (target : Option ℕ) (key : Key) (place : ℕ) (w : Word) (stood : Option Word) (filled cells : Cells Content) (owner top : Frame) → HoldsInstance old.cells (number_of key) → place < length (attributes_at old.cells (number_of key)) → option_map contents.word_of stood ≡ word_at old.cells (number_of key) place → filled ≡ refill_by (with_word place (Some (contents.word_of w))) (number_of key) old.cells → cells ≡ release refs_in filled (set_refs (held_of stood ∷ [])) → owner ≡ record old.top { ledger = left_by (contents.word_of w) old.top.ledger } → top ≡ with_target target heap.PyNone owner → attribute_put target key place w (state_of rest old) ≡ Goes (state_of rest (record old { cells = cells; top = record top { place = top.place + 1 } }))
attribute_is_written rest old target key place w stood filled cells owner top e within stood_is filled_is cells_is owner_is top_is =
    let c = number_of key in
    let class = class_at old.cells c in
    let attributes = attributes_at old.cells c in
    let v = contents.word_of w in
    let l = left_by v old.top.ledger in
    let there = something attributes place within in
    let same : held_of stood ≡ there.0 = stood_is ∙ ap (option_and_then (words.word_in place)) e ∙ ap option_flatten there.1 in
    ap (λ o. applied true (state_of rest old) target l [] (slot_set c class place attributes v o)) there.1
    ∙ ap (λ o. applied true (state_of rest old) target l [] (Changes c (InstCell class (slice_set attributes place (Some v))) NoneObject (set_refs (o ∷ [])))) (sym same)
    ∙ changed rest old target c (InstCell class (slice_set attributes place (Some v))) heap.PyNone l (set_refs (held_of stood ∷ [])) [] filled cells owner top
    (filled_is ∙ refill-there (with_word place (Some v)) c old.cells (InstCell class attributes) e) cells_is owner_is top_is
