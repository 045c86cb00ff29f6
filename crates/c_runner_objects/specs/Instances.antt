-- What the primitives on attributes do with what was found in their arguments.
use Rattle.std.specs.Prelude.{◌≡◌, ℕ, ℤ, pos, negsuc, Bool, true, cond, List, [], Option, Some, None, Result, Ok, Err, slice_get}
use Rattle.std.specs.Option.{option_and_then, option_map}
use Rattle.c_core.specs.declared.code.CArg.{CArg}
use Rattle.c_core.specs.declared.code.CClass.{CClass}
use Rattle.c_core.specs.declared.code.Code.{Code}
use Rattle.c_core.specs.declared.code.Kind.{Kind}
use Rattle.c_core.specs.declared.fault.Fault.{Fault}
use Rattle.c_core.specs.declared.fault.Fault.TheVariants as fault
use Rattle.c_core.specs.Cells.{Cells, content_at}
use Rattle.c_core.specs.Functions.{error_word, has_kind}
use Rattle.c_core.specs.Machine.{Word, Content, InstCell, Frame, MachineState}
use Rattle.c_core.specs.Step.{Next, Ends, Faulted, Effect, Shares, Fails, applied, kind_of, slot_set, undefined}
use Rattle.c_runner_objects.specs.declared.instances.AttributeWrite.{AttributeWrite}
use Rattle.c_runner_deeds.specs.Deeds.{then_tried, instance_and_place}
use Rattle.c_runner_deeds.specs.Ours.{maybe_refs}
use Rattle.c_runner_deeds.specs.Parts.{left_by}
use Rattle.slot_arena.specs.declared.key.Key.{Key}
use Rattle.cell_heap.specs.declared.word.Word as heap
use Rattle.cell_heap.specs.Contents as contents
use Rattle.cell_heap.specs.Contents.{number_of}

-- ---- slots
-- a slot of a class that may not be there, with its place and the class
abbrev pub slot_in : Option CClass → ℕ → Option (ℕ × (CClass × (List ℕ × Kind)))
slot_in o i = option_and_then (λ k. option_map (λ a. (i, (k, a))) (slice_get k.attrs i)) o

-- the slot of a number in the class of a number
abbrev pub slot_at : Code → ℕ → ℤ → Option (ℕ × (CClass × (List ℕ × Kind)))
slot_at code class (pos i) = slot_in (slice_get code.classes class) i
slot_at code class (negsuc i) = None

-- whether a frame's line may write a word of a kind to its target, if it has one
abbrev pub takes_kind : Code → Frame → Option ℕ → Kind → Bool
takes_kind code f None k = true
takes_kind code f (Some x) k = has_kind k (kind_of code f x)

-- ---- reads
-- a slot of a class holds this in an instance: nothing where there is no such attribute, and nothing inside where it is unset
abbrev pub held_read : CClass → List ℕ × Kind → Option (Option Word) → Result Effect Fault
held_read k a None = Err fault.Kind
held_read k a (Some None) = Ok (Fails (error_word a.1) (undefined a.0 k.name))
held_read k a (Some (Some w)) = Ok (Shares w)

-- the names in what is read
abbrev pub held_refs : Option (Option heap.Word) → List ℕ
held_refs None = []
held_refs (Some o) = maybe_refs o

-- a slot, if there is one, is read of an instance with these attributes
abbrev pub slot_read : Code → Frame → Option ℕ → List (Option Word) → Option (ℕ × (CClass × (List ℕ × Kind))) → Result Effect Fault
slot_read code f x attributes None = Err fault.Kind
slot_read code f x attributes (Some slot) =
    cond (takes_kind code f x slot.1.1.1) (held_read slot.1.0 slot.1.1 (slice_get attributes slot.0)) (Err fault.Kind)

-- what is done where an attribute is read, by these cells, variables and arguments
abbrev pub attribute_done : Code → Frame → Option ℕ → Cells Content → List Word → List CArg → Result Effect Fault
attribute_done code f x cells vars args =
    then_tried (λ q. slot_read code f x q.0.1.1 (slot_at code q.0.1.0 q.1)) (instance_and_place cells vars args)

-- ---- writes
-- the class and the attributes of the instance that a cell holds
abbrev pub instance_held : Option Content → ℕ × List (Option Word)
instance_held (Some (InstCell class attributes)) = (class, attributes)
instance_held _ = (0, [])

abbrev pub class_at : Cells Content → ℕ → ℕ
class_at cells c = (instance_held (content_at cells c)).0

abbrev pub attributes_at : Cells Content → ℕ → List (Option Word)
attributes_at cells c = (instance_held (content_at cells c)).1

-- a cell is there, and holds an instance
abbrev pub HoldsInstance : Cells Content → ℕ → Type 0
HoldsInstance cells c = content_at cells c ≡ Some (InstCell (class_at cells c) (attributes_at cells c))

-- a word that was stolen goes to a place of an instance
abbrev pub attribute_put : Option ℕ → Key → ℕ → heap.Word → MachineState → Next
attribute_put target key place w s =
    applied true s target (left_by (contents.word_of w) s.top.ledger) []
    (slot_set (number_of key) (class_at s.cells (number_of key)) place (attributes_at s.cells (number_of key)) (contents.word_of w) (slice_get (attributes_at s.cells (number_of key)) place))

-- what was found in the arguments, or why the run faults
abbrev pub attribute_written : Option ℕ → Result AttributeWrite Fault → MachineState → Next
attribute_written target (Ok found) s = attribute_put target found.key found.place found.word s
attribute_written target (Err why) s = Ends (Faulted why) s
