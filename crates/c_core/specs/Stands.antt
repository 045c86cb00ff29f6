-- When a state of the machine holds the objects of a source's store: the cell that was made as the k-th is the store's
-- object k, and words and contents match values and objects.
use Rattle.std.specs.Prelude.{◌≡◌, ℕ, ℤ, Bool, true, false, List, [], ◌∷◌, Option, Some, None, slice_get}
use Rattle.value_core.specs.Value.{Value, IntVal, BoolVal, NoneVal, StrVal, TupleVal, ExcVal, ObjVal, Values, no_values, value_then, Object, ListObj, DictObj, InstObj, Store}
use Rattle.c_core.specs.Cells.{content_at}
use Rattle.c_core.specs.Machine.{Word, ShortInt, BigInt, Native, CharWord, ObjectCell, NoneObject, TrueObject, FalseObject, Content, IntCell, StrCell, ListCell, DictCell, TupleCell, InstCell, ExcCell, MachineState}

module _ (s : MachineState) where
  -- c is a live cell with this content
  abbrev pub IsLive : ℕ → Content → Type 0
  IsLive c content = content_at s.cells c ≡ Some content

  -- a word is the value n: a short number, a native one, or a live cell that holds it
  pub data MatchesInt (n : ℤ) : Word → Type 0 where
    in_short : MatchesInt n (ShortInt n)
    in_native : MatchesInt n (Native n)
    in_big : (c : ℕ) → IsLive c (IntCell n) → MatchesInt n (BigInt c)
    in_object : (c : ℕ) → IsLive c (IntCell n) → MatchesInt n (ObjectCell c)

  pub data MatchesBool : Bool → Word → Type 0 where
    true_char : MatchesBool true (CharWord 1)
    false_char : MatchesBool false (CharWord 0)
    true_object : MatchesBool true TrueObject
    false_object : MatchesBool false FalseObject

  -- a word is this value
  abbrev mutual
    pub Matches : Value → Word → Type 0
    Matches (IntVal n) w = MatchesInt n w
    Matches (BoolVal b) w = MatchesBool b w
    Matches NoneVal w = w ≡ NoneObject
    Matches (StrVal text) w = (c : ℕ) × (w ≡ ObjectCell c) × IsLive c (StrCell text)
    Matches (TupleVal parts) w = (c : ℕ) × (w ≡ ObjectCell c) × ((items : List Word) × IsLive c (TupleCell items) × MatchesParts parts items)
    Matches (ExcVal e) w = (c : ℕ) × (w ≡ ObjectCell c) × IsLive c (ExcCell e)
    Matches (ObjVal k) w = (c : ℕ) × (w ≡ ObjectCell c) × (slice_get s.made k ≡ Some c) × ((content : Content) × IsLive c content)

    pub MatchesParts : Values → List Word → Type 0
    MatchesParts no_values [] = Unit {0}
    MatchesParts no_values (w ∷ ws) = ⊥
    MatchesParts (value_then v vs) [] = ⊥
    MatchesParts (value_then v vs) (w ∷ ws) = Matches v w × MatchesParts vs ws

  abbrev pub MatchAll : List Value → List Word → Type 0
  MatchAll [] [] = Unit {0}
  MatchAll (v ∷ vs) (w ∷ ws) = Matches v w × MatchAll vs ws
  MatchAll _ _ = ⊥

  abbrev pub MatchPairs : List (Value × Value) → List (Word × Word) → Type 0
  MatchPairs [] [] = Unit {0}
  MatchPairs (p ∷ ps) (q ∷ qs) = Matches p.0 q.0 × (Matches p.1 q.1 × MatchPairs ps qs)
  MatchPairs _ _ = ⊥

  -- attributes and variables: each has a word that matches its value, or both are unset
  abbrev pub MatchSet : List (Option Value) → List (Option Word) → Type 0
  MatchSet [] [] = Unit {0}
  MatchSet (None ∷ vs) (None ∷ ws) = MatchSet vs ws
  MatchSet (Some v ∷ vs) (Some w ∷ ws) = Matches v w × MatchSet vs ws
  MatchSet _ _ = ⊥

  abbrev pub MatchesObject : Object → Content → Type 0
  MatchesObject (ListObj items) (ListCell words) = MatchAll items words
  MatchesObject (DictObj pairs) (DictCell words) = MatchPairs pairs words
  MatchesObject (InstObj class attributes) (InstCell number words) = (class ≡ number) × MatchSet attributes words
  MatchesObject _ _ = ⊥

  -- each object whose cell is live has that cell's content
  abbrev pub MatchesStore : Store → List ℕ → Type 0
  MatchesStore [] [] = Unit {0}
  MatchesStore (o ∷ os) (c ∷ cs) = ((content : Content) → IsLive c content → MatchesObject o content) × MatchesStore os cs
  MatchesStore _ _ = ⊥

-- the machine holds the objects of a store and the values of a module's variables
pub record Stands (store : Store) (variables : List (Option Value)) (s : MachineState) : Type 0 where
  pub objects : MatchesStore s store s.made
  pub variables_match : MatchSet s variables s.globals
