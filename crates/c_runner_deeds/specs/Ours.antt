-- The keys that stand in a runner's state: each is one that its heap gave out, and names no other heap's cell.
use Rattle.std.specs.Prelude.{◌≡◌, ℕ, ◌<◌, List, [], ◌∷◌, ◌++◌, length, Option, Some, None}
use Rattle.std.proofs.Common.{ap}
use Rattle.std.specs.Coded.{Coded-set, coded_ℕ, ×_prop, Π_prop, Unit-prop, le_prop}
use Rattle.c_core.specs.Cells.{Cells}
use Rattle.c_core.specs.Machine.{refs_of}
use Rattle.slot_arena.specs.declared.key.Key.{Key}
use Rattle.cell_heap.specs.declared.word.Word.{Word}
use Rattle.cell_heap.specs.Contents.{name_of, slot_in, serial_in, word_named, words_refs, optional_refs}
use Rattle.cell_heap.specs.Ours.{IsOurs, AreOurs, slot_at}
use Rattle.cell_heap.specs.Placed.{Placed}
use Rattle.c_runner_deeds.specs.declared.state.Frame.{Frame}

-- the names in a word, in a word that may be missing, in a key that may be missing, and in the variables of frames
abbrev pub word_refs : Word → List ℕ
word_refs word = refs_of (word_named word)

abbrev pub maybe_refs : Option Word → List ℕ
maybe_refs None = []
maybe_refs (Some word) = word_refs word

abbrev pub maybe_pair_refs : Option (Word × Word) → List ℕ
maybe_pair_refs None = []
maybe_pair_refs (Some pair) = word_refs pair.0 ++ word_refs pair.1

abbrev pub key_refs : Option Key → List ℕ
key_refs None = []
key_refs (Some key) = name_of key ∷ []

abbrev pub frames_refs : List Frame → List ℕ
frames_refs [] = []
frames_refs (frame ∷ frames) = words_refs frame.vars ++ frames_refs frames

-- a word has no cell, or one of this heap
abbrev pub IsOurWord : Cells Placed → Word → Type 0
IsOurWord cells word = AreOurs cells (word_refs word)

-- each key in the variables of the frame that runs and of those that wait, in the globals, and that of the pending exception
abbrev pub state_refs : List Word → List Frame → List (Option Word) → Option Key → List ℕ
state_refs vars below globals pending = words_refs vars ++ (frames_refs below ++ (optional_refs globals ++ key_refs pending))

unfoldable pub KeysAreOurs : Cells Placed → List Word → List Frame → List (Option Word) → Option Key → Type 0
KeysAreOurs cells vars below globals pending = AreOurs cells (state_refs vars below globals pending)

-- ---- that names are a heap's is so in one way at most
abbrev Slot : Cells Placed → ℕ → Type 0
Slot cells name = (slot : ℕ) → slot_at cells (serial_in name) ≡ Some slot → slot ≡ slot_in name

abbrev Parts : Cells Placed → ℕ → Type 0
Parts cells name = (serial_in name < length cells) × Slot cells name

parts_once : (cells : Cells Placed) (name : ℕ) → IsProp (Parts cells name)
parts_once cells name = ×_prop le_prop (Π_prop (λ slot. Π_prop (λ e. Coded-set coded_ℕ slot (slot_in name))))

abbrev whole : (cells : Cells Placed) (name : ℕ) → Parts cells name → IsOurs cells name
whole cells name p = record { made = p.0; slot = p.1 }

own_once : (cells : Cells Placed) (name : ℕ) → IsProp (IsOurs cells name)
own_once cells name a b = ap (whole cells name) (parts_once cells name (a.made, a.slot) (b.made, b.slot))

ours_once : (cells : Cells Placed) (names : List ℕ) → IsProp (AreOurs cells names)
ours_once cells [] = Unit-prop
ours_once cells (name ∷ names) = ×_prop (own_once cells name) (ours_once cells names)

pub keys_once : (cells : Cells Placed) (vars : List Word) (below : List Frame) (globals : List (Option Word)) (pending : Option Key) → IsProp (KeysAreOurs cells vars below globals pending)
unfolding KeysAreOurs
keys_once cells vars below globals pending = ours_once cells (state_refs vars below globals pending)
