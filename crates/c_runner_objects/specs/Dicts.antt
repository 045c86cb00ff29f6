-- What the primitives on dicts do with what was found in their arguments.
use Rattle.std.specs.Prelude.{◌≡◌, ℕ, ◌+◌, List, [], ◌∷◌, ◌++◌, take, drop, Option, Some, None, slice_get, Result, Ok, Err, true}
use Rattle.c_core.specs.declared.fault.Fault.{Fault}
use Rattle.c_core.specs.declared.code.Kind.TheVariants.{Object}
use Rattle.c_core.specs.Arguments.{Argument, word_in}
use Rattle.c_core.specs.Cells.{Cells, content_at}
use Rattle.c_core.specs.Keys as keys
use Rattle.c_core.specs.Keys.{key_of, key_text}
use Rattle.c_core.specs.Ledgers.{Ledger}
use Rattle.c_core.specs.Machine.{Word, CharWord, Content, DictCell, MachineState, refs_of}
use Rattle.c_core.specs.Primitives.{Parameter, Is, Anything, AKey, Steals}
use Rattle.c_core.specs.Step.{Next, Ends, Faulted, Effect, Changes, applied, of_pair, entry_set}
use Rattle.c_runner_objects.specs.declared.dicts.EntryWrite.{EntryWrite}
use Rattle.c_runner_deeds.specs.Parts.{argument_of, left_by}
use Rattle.slot_arena.specs.declared.key.Key.{Key}
use Rattle.cell_heap.specs.declared.word.Word as heap
use Rattle.cell_heap.specs.Contents as contents
use Rattle.cell_heap.specs.Contents.{number_of}
use Rattle.cell_heap.specs.Pairs.{has_cell, pairs_held}

-- the pairs of the dict that a cell holds
abbrev pub pairs_at : Cells Content → ℕ → List (Word × Word)
pairs_at cells c = pairs_held (content_at cells c)

-- a cell is there, and holds a dict
abbrev pub HoldsDict : Cells Content → ℕ → Type 0
HoldsDict cells c = content_at cells c ≡ Some (DictCell (pairs_at cells c))

-- a word is a key, whose cell is there if it has one
pub record HoldsKey (cells : Cells Content) (w : Word) : Type 0 where
  pub there : has_cell cells w ≡ true
  pub key : keys.Key
  pub is_key : key_of cells w ≡ Some key

-- a key and a word were found in arguments
pub record HoldsEntry (cells : Cells Content) (k w : Word) : Type 0 where
  pub key_word : word_in Object (argument_of cells k) ≡ Some k
  pub key : HoldsKey cells k
  pub word : word_in Object (argument_of cells w) ≡ Some w

-- the key and the value that a write takes over
abbrev pub entry_parameters : List Parameter
entry_parameters = Steals (Is Object) AKey ∷ Steals (Is Object) Anything ∷ []

-- a key as it is printed, nothing where there is none
abbrev pub shown : Option keys.Key → List ℕ
shown None = []
shown (Some k) = key_text k

-- a word that was stolen behind others, which left this ledger, or why it could not be
abbrev pub taken_or : Result heap.Word Fault → Ledger → MachineState → (Argument → Ledger → Next) → Next
taken_or (Ok w) l s go = go (argument_of s.cells (contents.word_of w)) (left_by (contents.word_of w) l)
taken_or (Err f) l s go = Ends (Faulted f) s

-- a key and a word that were stolen, or why they could not be
abbrev pub both_taken_or : Result (heap.Word × heap.Word) Fault → MachineState → (List Argument → Ledger → Next) → Next
both_taken_or (Ok q) s go =
    go (argument_of s.cells (contents.word_of q.0) ∷ argument_of s.cells (contents.word_of q.1) ∷ [])
    (left_by (contents.word_of q.1) (left_by (contents.word_of q.0) s.top.ledger))
both_taken_or (Err f) s go = Ends (Faulted f) s

-- a key and a word that were stolen go to the place of the key in a dict, or behind its pairs
abbrev pub entry_put : Option ℕ → Key → Option ℕ → heap.Word → heap.Word → MachineState → Next
entry_put target dict place key w s =
    applied true s target (left_by (contents.word_of w) (left_by (contents.word_of key) s.top.ledger)) []
    (entry_set (number_of dict) place (pairs_at s.cells (number_of dict)) (contents.word_of key) (contents.word_of w))

-- what was found in the arguments, or why the run faults
abbrev pub entry_written : Option ℕ → Result EntryWrite Fault → MachineState → Next
entry_written target (Ok found) s = entry_put target found.dict found.place found.key found.word s
entry_written target (Err why) s = Ends (Faulted why) s

-- the pair at a place of a dict is taken out
abbrev pub pair_cut : ℕ → ℕ → List (Word × Word) → Effect
pair_cut c i pairs =
    of_pair (λ p. Changes c (DictCell (take i pairs ++ drop (i + 1) pairs)) (CharWord 1) (refs_of p.0 ++ refs_of p.1)) (slice_get pairs i)

abbrev pub entry_taken : Option ℕ → Key → ℕ → MachineState → Next
entry_taken target dict place s =
    applied true s target s.top.ledger [] (pair_cut (number_of dict) place (pairs_at s.cells (number_of dict)))
