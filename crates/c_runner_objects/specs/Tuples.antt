-- What is packed into a tuple: objects, each of which the frame owns once more than those before it take.
use Rattle.std.specs.Prelude.{◌≡◌, ℕ, ◌+◌, List, [], ◌∷◌, Some, Result, Ok, Err, map}
use Rattle.c_core.specs.declared.code.Kind.TheVariants.{Object}
use Rattle.c_core.specs.declared.fault.Fault.{Fault}
use Rattle.c_core.specs.declared.primitive.Primitive.TheVariants as prim
use Rattle.c_core.specs.declared.primitive.TuplePrim.TheVariants as tuple
use Rattle.c_core.specs.Arguments.{Argument, word_in}
use Rattle.c_core.specs.Cells.{Cells, times}
use Rattle.c_core.specs.Ledgers.{Ledger}
use Rattle.c_core.specs.Machine.{Word, Content, MachineState, refs}
use Rattle.c_core.specs.Primitives.{Parameter, row_of}
use Rattle.c_core.specs.Step.{Next, Ends, Faulted}
use Rattle.c_runner_deeds.specs.Parts.{argument_of, left_by}
use Rattle.cell_heap.specs.declared.word.Word as heap
use Rattle.cell_heap.specs.Contents as contents

-- one object or more, each of which is stolen
abbrev pub pack_parameters : List Parameter
pack_parameters = (row_of (prim.Tuple tuple.Pack)).parameters

-- words as arguments, where these are the cells
abbrev pub arguments_of : Cells Content → List Word → List Argument
arguments_of cells words = map (argument_of cells) words

-- each of the words is an object, whose cell is there if it has one
abbrev pub AreObjects : Cells Content → List Word → Type 0
AreObjects cells [] = Unit {0}
AreObjects cells (w ∷ words) = (word_in Object (argument_of cells w) ≡ Some w) × AreObjects cells words

-- a ledger without the references of words
abbrev pub lost_all : List Word → Ledger → Ledger
lost_all [] l = l
lost_all (w ∷ words) l = lost_all words (left_by w l)

-- the references of the words all stand in a ledger, so that what is left of it are the others
abbrev pub AreOwned : List Word → Ledger → Type 0
AreOwned words l = (c : ℕ) → times l c ≡ times (refs words) c + times (lost_all words l) c

-- words that were stolen, or why they could not be
abbrev pub all_stolen_or : Result (List heap.Word) Fault → MachineState → (List Argument → Ledger → Next) → Next
all_stolen_or (Ok words) s go =
    go (arguments_of s.cells (map contents.word_of words)) (lost_all (map contents.word_of words) s.top.ledger)
all_stolen_or (Err f) s go = Ends (Faulted f) s
