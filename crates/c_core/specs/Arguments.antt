-- The arguments of a primitive, as the machine meets them.
use Rattle.std.specs.Prelude.{ℕ, ◌==◌, Bool, true, false, not, ℤ, pos, negsuc, List, [], ◌∷◌, ◌++◌, Option, Some, None, find, slice_get}
use Rattle.std.specs.List.{position}
use Rattle.std.specs.Option.{option_and_then, option_map}
use Rattle.std.specs.Str.{bytes_eq}
use Rattle.c_core.specs.declared.code.Kind.{Kind}
use Rattle.c_core.specs.declared.code.Kind.TheVariants.{Tagged, Int64, Char, Object}
use Rattle.c_core.specs.declared.code.CArg.{CArg}
use Rattle.c_core.specs.declared.code.CArg.TheVariants as arg
use Rattle.c_core.specs.declared.code.Code.{Code}
use Rattle.c_core.specs.Machine.{Word, ShortInt, BigInt, Native, CharWord, ObjectCell, NoneObject, TrueObject, FalseObject, Content, IntCell, StrCell, ListCell, DictCell, TupleCell, InstCell, ExcCell}
use Rattle.c_core.specs.Keys.{Key, TruthKey, key_in}
use Rattle.c_core.specs.Primitives.{KindAt, Is, OfGlobal, OfSlot, Holding, Anything, ANumber, AText, AnException, AList, ATuple, ADict, AKey, AnInstance, Parameter, Steals, MaySteal}

-- an argument that passed its tests: a cell that is there with its content, a word without a cell, or what is written
pub data Argument : Type 0 where
  Cell : (c : ℕ) (content : Content) → Argument
  Plain : (w : Word) → Argument
  Written : (a : CArg) → Argument

-- whether a word is of a kind and no error value; -113 is an ordinary native integer too
abbrev pub is_value_of : Kind → Word → Bool
is_value_of Tagged (ShortInt n) = true
is_value_of Tagged (BigInt c) = true
is_value_of Int64 (Native n) = true
is_value_of Char (CharWord n) = not (n == 2)
is_value_of Object (ObjectCell c) = true
is_value_of Object NoneObject = true
is_value_of Object TrueObject = true
is_value_of Object FalseObject = true
is_value_of _ _ = false

-- whether an argument holds what is asked for
abbrev pub is_holding : Holding → Argument → Bool
is_holding Anything a = true
is_holding ANumber (Plain (ShortInt n)) = true
is_holding ANumber (Cell c (IntCell n)) = true
is_holding ANumber _ = false
is_holding AText (Cell c (StrCell text)) = true
is_holding AText _ = false
is_holding AnException (Cell c (ExcCell e)) = true
is_holding AnException _ = false
is_holding AList (Cell c (ListCell items)) = true
is_holding AList _ = false
is_holding ATuple (Cell c (TupleCell items)) = true
is_holding ATuple _ = false
is_holding ADict (Cell c (DictCell pairs)) = true
is_holding ADict _ = false
is_holding AKey (Cell c (IntCell n)) = true
is_holding AKey (Cell c (StrCell text)) = true
is_holding AKey (Plain TrueObject) = true
is_holding AKey (Plain FalseObject) = true
is_holding AKey _ = false
is_holding AnInstance (Cell c (InstCell class attributes)) = true
is_holding AnInstance _ = false

-- the number that an argument is, where it is an `int`
abbrev pub int_in : Argument → Option ℤ
int_in (Plain (ShortInt n)) = Some n
int_in (Cell c (IntCell n)) = Some n
int_in _ = None

-- the key that an argument is, where it may be one
abbrev pub key_as : Argument → Option Key
key_as (Cell c content) = key_in content
key_as (Plain TrueObject) = Some (TruthKey true)
key_as (Plain FalseObject) = Some (TruthKey false)
key_as _ = None

-- the kind of a global by its name, and of a slot by the number of its class and its own
abbrev pub kind_of_global : Code → List ℕ → Option Kind
kind_of_global code name = option_map (λ g. g.1) (find (λ g. bytes_eq name g.0) code.globals)

-- the number of a global by its name
abbrev pub number_of_global : Code → List ℕ → Option ℕ
number_of_global code name = position (λ g. bytes_eq name g.0) code.globals

-- the number of a class by its name
abbrev pub number_of_class : Code → List ℕ → Option ℕ
number_of_class code name = position (λ k. bytes_eq name k.name) code.classes

abbrev pub kind_of_slot : Code → ℕ → ℤ → Option Kind
kind_of_slot code class (pos n) =
    option_and_then (λ k. option_map (λ a. a.1) (slice_get k.attrs n)) (slice_get code.classes class)
kind_of_slot code class (negsuc n) = None

-- the kind that a variable is to have, behind the arguments that were tested before it
abbrev pub kind_found : Code → KindAt → List Argument → Option Kind
kind_found code (Is k) earlier = Some k
kind_found code OfGlobal (Written (arg.Global name) ∷ rest) = kind_of_global code name
kind_found code OfSlot (Cell c (InstCell class attributes) ∷ Written (arg.Number n) ∷ rest) = kind_of_slot code class n
kind_found code _ _ = None

-- the word that an argument was, in a variable of a kind
abbrev pub word_in : Kind → Argument → Option Word
word_in Tagged (Cell c content) = Some (BigInt c)
word_in Object (Cell c content) = Some (ObjectCell c)
word_in k (Plain (BigInt c)) = None
word_in k (Plain (ObjectCell c)) = None
word_in k (Plain w) = Some w
word_in k _ = None

-- the words that arguments were, all of them objects
abbrev pub words_in : List Argument → Option (List Word)
words_in [] = Some []
words_in (a ∷ rest) = option_and_then (λ w. option_map (λ ws. w ∷ ws) (words_in rest)) (word_in Object a)

-- the references that arguments lose, one for each stolen cell
abbrev pub stolen_from : Parameter → Argument → List ℕ
stolen_from (Steals k h) (Cell c content) = c ∷ []
stolen_from (MaySteal k h) (Cell c content) = c ∷ []
stolen_from _ _ = []

abbrev pub stolen : List Parameter → List Argument → List ℕ
stolen (p ∷ ps) (a ∷ rest) = stolen_from p a ++ stolen ps rest
stolen _ _ = []
