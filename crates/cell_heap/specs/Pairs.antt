-- The pairs of the dict that a cell holds: where the key of a word stands among them, and what is left as a pair is put behind the others
-- or taken out.
use Rattle.std.specs.Prelude.{ℕ, ◌+◌, Bool, true, false, List, [], ◌∷◌, ◌++◌, take, drop, Option, Some, None, is_some, slice_get}
use Rattle.std.specs.Option.{option_and_then}
use Rattle.c_core.specs.Cells.{Cells, content_at}
use Rattle.c_core.specs.Keys.{Key, key_of, key_place}
use Rattle.c_core.specs.Machine.{Word, BigInt, ObjectCell, Content, DictCell}

-- whether the cell of a word is there, if it has one
abbrev pub has_cell : Cells Content → Word → Bool
has_cell cells (BigInt c) = is_some (content_at cells c)
has_cell cells (ObjectCell c) = is_some (content_at cells c)
has_cell cells w = true

-- the place of the first of pairs whose key is this one, None where no key is asked for
abbrev pub place_for : Cells Content → Option Key → List (Word × Word) → Option ℕ
place_for cells None pairs = None
place_for cells (Some k) pairs = key_place cells k pairs

-- the pairs of a dict, none where there is no dict
abbrev pub pairs_held : Option Content → List (Word × Word)
pairs_held (Some (DictCell pairs)) = pairs
pairs_held o = []

-- the place in the dict of a cell at which the key of a word stands
abbrev pub place_at : Cells Content → ℕ → Word → Option ℕ
place_at cells c w = place_for cells (key_of cells w) (pairs_held (content_at cells c))

abbrev pub is_dict : Content → Bool
is_dict (DictCell pairs) = true
is_dict content = false

-- a dict with one pair more behind the others
abbrev pub with_pair : Word × Word → Content → Content
with_pair p (DictCell pairs) = DictCell (pairs ++ p ∷ [])
with_pair p content = content

-- the pair at a place of a dict, None where there is no such place, and the dict without it
abbrev pub pair_in : ℕ → Content → Option (Word × Word)
pair_in i (DictCell pairs) = slice_get pairs i
pair_in i content = None

abbrev pub without_pair : ℕ → Content → Content
without_pair i (DictCell pairs) = DictCell (take i pairs ++ drop (i + 1) pairs)
without_pair i content = content

-- the pair at a place of the dict that a cell holds
abbrev pub pair_at : Cells Content → ℕ → ℕ → Option (Word × Word)
pair_at cells c i = option_and_then (pair_in i) (content_at cells c)
