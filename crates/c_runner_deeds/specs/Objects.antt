-- What the primitives on objects find in their arguments: a number, a list, a dict, a tuple or an instance that stands in a
-- cell, or any object.
use Rattle.std.specs.Prelude.{ℕ, ℤ, cond, List, Option, Some, None, Result, Ok, Err, slice_get}
use Rattle.c_core.specs.declared.code.CArg.{CArg}
use Rattle.c_core.specs.declared.code.CArg.TheVariants as arg
use Rattle.c_core.specs.declared.code.Kind.TheVariants.{Object}
use Rattle.c_core.specs.declared.fault.Fault.{Fault}
use Rattle.c_core.specs.declared.fault.Fault.TheVariants as fault
use Rattle.c_core.specs.Keys.{Key, key_in}
use Rattle.c_core.specs.Machine.{DictCell, TrueObject, FalseObject, Word, ObjectCell, Content, IntCell, ListCell, TupleCell, InstCell}
use Rattle.c_core.specs.Arguments.{is_value_of}
use Rattle.c_core.specs.Cells.{Cells, content_at}
use Rattle.c_runner_deeds.specs.Parts.{is_there}

-- the word of an argument, where these are the variables
abbrev pub word_at : List Word → Option CArg → Option Word
word_at vars (Some (arg.Var x)) = slice_get vars x
word_at vars _ = None

-- what a cell holds: a number, the items of a list, or those of a tuple
abbrev pub number_in : Content → Option ℤ
number_in (IntCell n) = Some n
number_in _ = None

abbrev pub items_in : Content → Option (List Word)
items_in (ListCell items) = Some items
items_in _ = None

-- the pairs of a dict
abbrev pub pairs_in : Content → Option (List (Word × Word))
pairs_in (DictCell pairs) = Some pairs
pairs_in _ = None

abbrev pub parts_in : Content → Option (List Word)
parts_in (TupleCell items) = Some items
parts_in _ = None

-- the class of an instance, by its number, and what each of its attributes holds
abbrev pub instance_in : Content → Option (ℕ × List (Option Word))
instance_in (InstCell class attributes) = Some (class, attributes)
instance_in _ = None

-- what is asked for of a content that is there, or why the run faults
abbrev pub or_kind : {A : Type 0} → Option A → Result A Fault
or_kind (Some a) = Ok a
or_kind None = Err fault.Kind

abbrev pub held : {A : Type 0} → (Content → Option A) → Option Content → Result A Fault
held pick (Some content) = or_kind (pick content)
held pick None = Err fault.Dead

-- the same beside the number of the cell
abbrev pub beside : {A : Type 0} → ℕ → Result A Fault → Result (ℕ × A) Fault
beside c (Ok a) = Ok (c, a)
beside c (Err why) = Err why

-- the number of the cell of an object, whose word may not be there
abbrev pub cell_of : Option Word → Result ℕ Fault
cell_of (Some (ObjectCell c)) = Ok c
cell_of _ = Err fault.Kind

-- what the cell of an object holds, where these are the cells: of a cell that was found, of a word, and of an argument
abbrev pub in_cell : {A : Type 0} → (Content → Option A) → Cells Content → Result ℕ Fault → Result (ℕ × A) Fault
in_cell pick cells (Ok c) = beside c (held pick (content_at cells c))
in_cell pick cells (Err why) = Err why

abbrev pub object_of : {A : Type 0} → (Content → Option A) → Cells Content → Option Word → Result (ℕ × A) Fault
object_of pick cells o = in_cell pick cells (cell_of o)

abbrev pub boxed_at : Cells Content → List Word → Option CArg → Result (ℕ × ℤ) Fault
boxed_at cells vars a = object_of number_in cells (word_at vars a)

abbrev pub list_at : Cells Content → List Word → Option CArg → Result (ℕ × List Word) Fault
list_at cells vars a = object_of items_in cells (word_at vars a)

abbrev pub dict_at : Cells Content → List Word → Option CArg → Result (ℕ × List (Word × Word)) Fault
dict_at cells vars a = object_of pairs_in cells (word_at vars a)

-- an object that may be the key of a dict: of a key that may be none, of the content of its cell, of a word, and of an argument
abbrev pub keyed : Word → Option Key → Result Word Fault
keyed w (Some k) = Ok w
keyed w None = Err fault.Kind

abbrev pub key_held : ℕ → Option Content → Result Word Fault
key_held c (Some content) = keyed (ObjectCell c) (key_in content)
key_held c None = Err fault.Dead

abbrev pub key_word : Cells Content → Option Word → Result Word Fault
key_word cells (Some (ObjectCell c)) = key_held c (content_at cells c)
key_word cells (Some TrueObject) = Ok TrueObject
key_word cells (Some FalseObject) = Ok FalseObject
key_word cells _ = Err fault.Kind

abbrev pub key_argument : Cells Content → List Word → Option CArg → Result Word Fault
key_argument cells vars a = key_word cells (word_at vars a)

abbrev pub tuple_at : Cells Content → List Word → Option CArg → Result (ℕ × List Word) Fault
tuple_at cells vars a = object_of parts_in cells (word_at vars a)

abbrev pub instance_at : Cells Content → List Word → Option CArg → Result (ℕ × (ℕ × List (Option Word))) Fault
instance_at cells vars a = object_of instance_in cells (word_at vars a)

-- any object, whose cell is there if it has one
abbrev pub any_of : Cells Content → Option Word → Result Word Fault
any_of cells (Some w) = cond (is_value_of Object w) (cond (is_there cells w) (Ok w) (Err fault.Dead)) (Err fault.Kind)
any_of cells None = Err fault.Kind

abbrev pub any_at : Cells Content → List Word → Option CArg → Result Word Fault
any_at cells vars a = any_of cells (word_at vars a)

-- the number that is written as an argument
abbrev pub written_number : Option CArg → Result ℤ Fault
written_number (Some (arg.Number n)) = Ok n
written_number _ = Err fault.Kind
