-- The states of the machine that runs the C text.
use Rattle.std.specs.Prelude.{ℕ, ℤ, Bool, true, false, cond, List, [], ◌∷◌, ◌++◌, Option, Some, None}
use Rattle.value_core.specs.Exceptions.{Thrown}
use Rattle.value_core.specs.Items.{Items}
use Rattle.c_core.specs.Cells.{Cells}
use Rattle.c_core.specs.Ledgers.{Ledger}

-- A word, what a variable, a global or a container's place holds. An `int` is a short number or a counted cell, a
-- native integer or a `char` its number, an object a counted cell or one of three that have no count. Each kind has
-- an error value: `TaggedError`, the native integer -113, the `char` 2, and `NoObject`.
pub data Word : Type 0 where
  ShortInt : (n : ℤ) → Word
  BigInt : (c : ℕ) → Word
  TaggedError : Word
  Native : (n : ℤ) → Word
  CharWord : (n : ℕ) → Word
  ObjectCell : (c : ℕ) → Word
  NoneObject : Word
  TrueObject : Word
  FalseObject : Word
  NoObject : Word

-- What a cell holds: a number, a text in UTF-8, the items of a list, the pairs of a dict in order of insertion, the
-- items of a tuple, an instance with its class's number and a word or nothing for each attribute, an exception.
pub data Content : Type 0 where
  IntCell : (n : ℤ) → Content
  StrCell : (text : List ℕ) → Content
  ListCell : (items : List Word) → Content
  DictCell : (pairs : List (Word × Word)) → Content
  TupleCell : (items : List Word) → Content
  InstCell : (class : ℕ) (attributes : List (Option Word)) → Content
  ExcCell : (e : Thrown) → Content

-- the references of a word, of words, and of a content: the numbers of the cells that they refer to
abbrev pub refs_of : Word → List ℕ
refs_of (ShortInt n) = []
refs_of (BigInt c) = c ∷ []
refs_of TaggedError = []
refs_of (Native n) = []
refs_of (CharWord n) = []
refs_of (ObjectCell c) = c ∷ []
refs_of NoneObject = []
refs_of TrueObject = []
refs_of FalseObject = []
refs_of NoObject = []

abbrev pub refs : List Word → List ℕ
refs [] = []
refs (w ∷ ws) = refs_of w ++ refs ws

abbrev pub set_refs : List (Option Word) → List ℕ
set_refs [] = []
set_refs (None ∷ os) = set_refs os
set_refs (Some w ∷ os) = refs_of w ++ set_refs os

abbrev pub pair_refs : List (Word × Word) → List ℕ
pair_refs [] = []
pair_refs (p ∷ ps) = refs_of p.0 ++ (refs_of p.1 ++ pair_refs ps)

abbrev pub refs_in : Content → List ℕ
refs_in (IntCell n) = []
refs_in (StrCell text) = []
refs_in (ListCell items) = refs items
refs_in (DictCell pairs) = pair_refs pairs
refs_in (TupleCell items) = refs items
refs_in (InstCell class attributes) = set_refs attributes
refs_in (ExcCell e) = []

-- whether a cell is an object of the source, which has an identity and can change: a list, a dict or an instance
abbrev pub is_object : Content → Bool
is_object (IntCell n) = false
is_object (StrCell text) = false
is_object (ListCell items) = true
is_object (DictCell pairs) = true
is_object (TupleCell items) = false
is_object (InstCell class attributes) = true
is_object (ExcCell e) = false

-- the numbers of the cells that were made for objects, when cell c is made with this content
abbrev pub noted : Content → ℕ → List ℕ → List ℕ
noted content c made = cond (is_object content) (made ++ c ∷ []) made

-- A call that goes on: the number of its function, the place of its next line, its variables, its ledger, and the
-- caller's variable for its result, if there is one.
pub record Frame : Type 0 where
  pub func : ℕ
  pub place : ℕ
  pub vars : List Word
  pub ledger : Ledger
  pub into : Option ℕ

-- The machine's state: the cells, the frame that runs, the frames that wait for it (the innermost first), the globals,
-- each a word or unset, the cell of the pending exception, the output so far, the lines of input that are left, the
-- turns that are left, and, in the order of their making, the numbers of the cells that were made for a list, a dict or
-- an instance.
pub record MachineState : Type 0 where
  pub cells : Cells Content
  pub top : Frame
  pub below : List Frame
  pub globals : List (Option Word)
  pub pending : Option ℕ
  pub output : List ℕ
  pub items : Items
  pub turns : ℕ
  pub made : List ℕ
