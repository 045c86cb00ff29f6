-- What the primitives on lists do with what was found in their arguments.
use Rattle.std.specs.Prelude.{◌≡◌, ℕ, negsuc, List, [], ◌∷◌, ◌++◌, length, Option, Some, Result, Ok, Err, true}
use Rattle.c_core.specs.declared.fault.Fault.{Fault}
use Rattle.c_core.specs.Cells.{Cells, content_at}
use Rattle.c_core.specs.Machine.{Word, NoneObject, Content, ListCell, MachineState, refs_of}
use Rattle.c_core.specs.Step.{Next, Ends, Faulted, Changes, applied, put_at, popped}
use Rattle.value_core.specs.Characters.{place_of}
use Rattle.c_runner_objects.specs.declared.lists.ItemWrite.{ItemWrite}
use Rattle.c_runner_deeds.specs.Parts.{left_by}
use Rattle.slot_arena.specs.declared.key.Key.{Key}
use Rattle.cell_heap.specs.declared.word.Word as heap
use Rattle.cell_heap.specs.Contents as contents
use Rattle.cell_heap.specs.Contents.{number_of}

-- the items of the list that a cell holds
abbrev pub items_held : Option Content → List Word
items_held (Some (ListCell items)) = items
items_held _ = []

abbrev pub items_at : Cells Content → ℕ → List Word
items_at cells c = items_held (content_at cells c)

-- a cell is there, and holds a list
abbrev pub HoldsList : Cells Content → ℕ → Type 0
HoldsList cells c = content_at cells c ≡ Some (ListCell (items_at cells c))

-- a word that was stolen goes to the end of a list
abbrev pub item_added : Option ℕ → Key → heap.Word → MachineState → Next
item_added target key w s =
    applied true s target (left_by (contents.word_of w) s.top.ledger) []
    (Changes (number_of key) (ListCell (items_at s.cells (number_of key) ++ contents.word_of w ∷ [])) NoneObject [])

-- a word that was stolen goes to the place of an index in a list, if it has one there
abbrev pub item_put : Option ℕ → Key → Option ℕ → heap.Word → MachineState → Next
item_put target key place w s =
    applied true s target (left_by (contents.word_of w) s.top.ledger) (refs_of (contents.word_of w))
    (put_at (number_of key) place (items_at s.cells (number_of key)) (contents.word_of w))

-- the last item of a list is taken out, if it has one
abbrev pub item_taken : Option ℕ → Key → MachineState → Next
item_taken target key s =
    applied true s target s.top.ledger []
    (popped (number_of key) (place_of (length (items_at s.cells (number_of key))) (negsuc 0)) (items_at s.cells (number_of key)))

-- what was found in the arguments of the first two, or why the run faults
abbrev pub appended : Option ℕ → Result (Key × heap.Word) Fault → MachineState → Next
appended target (Ok found) s = item_added target found.0 found.1 s
appended target (Err why) s = Ends (Faulted why) s

abbrev pub item_set : Option ℕ → Result ItemWrite Fault → MachineState → Next
item_set target (Ok found) s = item_put target found.key found.place found.word s
item_set target (Err why) s = Ends (Faulted why) s
