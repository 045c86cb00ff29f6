-- What stands in a function, and which function a call names: where its labels are, what it takes, and with which words its
-- variables begin.
use Rattle.std.specs.Prelude.{ℕ, ◌+◌, Bool, true, false, cond, negsuc, List, [], ◌∷◌, ◌++◌, Option, Some, None, codes, find, map, take, drop, slice_get, ◌==◌}
use Rattle.std.specs.List.{position}
use Rattle.std.specs.Option.{option_and_then}
use Rattle.std.specs.Str.{bytes_eq}
use Rattle.c_core.specs.declared.code.Kind.{Kind}
use Rattle.c_core.specs.declared.code.Kind.TheVariants.{Tagged, Int64, Char, Object}
use Rattle.c_core.specs.declared.code.Line.{Line}
use Rattle.c_core.specs.declared.code.Line.TheVariants.{Label, Turn}
use Rattle.c_core.specs.declared.code.CClass.{CClass}
use Rattle.c_core.specs.declared.code.CFunc.{CFunc}
use Rattle.c_core.specs.Machine.{Word, TaggedError, Native, CharWord, NoObject}

-- ---- labels
abbrev pub is_label : Line → Bool
is_label Label = true
is_label _ = false

abbrev pub is_turn : Line → Bool
is_turn Turn = true
is_turn _ = false

-- the places of the labels among lines of which the first stands at place p: the label of number n is the n-th of them
abbrev pub labels_from : ℕ → List Line → List ℕ
labels_from p [] = []
labels_from p (l ∷ lines) = cond (is_label l) (p ∷ labels_from (p + 1) lines) (labels_from (p + 1) lines)

abbrev pub label_places : List Line → List ℕ
label_places = labels_from 0

-- ---- names
abbrev pub after_prefix : List ℕ → List ℕ → Option (List ℕ)
after_prefix [] name = Some name
after_prefix (p ∷ ps) [] = None
after_prefix (p ∷ ps) (b ∷ name) = cond (p == b) (after_prefix ps name) None

-- the number of the first function of a name; the module's own has none, so no call means it
abbrev pub number_of : List CFunc → List ℕ → Option ℕ
number_of functions name = cond (bytes_eq name []) None (position (λ g. bytes_eq name g.name) functions)

-- the number of the function that a call means by `CPyDef_` and a name
abbrev pub function_named : List CFunc → List ℕ → Option ℕ
function_named functions name = option_and_then (number_of functions) (after_prefix (codes "CPyDef_") name)

-- ---- methods
-- the functions of a class by their places: its own methods, and those that it has for a trait, by its first list for that
abbrev pub method_at : ℕ → CClass → Option (List ℕ)
method_at n k = slice_get k.methods n

abbrev pub trait_method_at : List ℕ → ℕ → CClass → Option (List ℕ)
trait_method_at name n k =
    option_and_then (λ entry. slice_get entry.1 n) (find (λ entry. bytes_eq name entry.0) k.traits)

-- ---- kinds
abbrev pub same_kind : Kind → Kind → Bool
same_kind Tagged Tagged = true
same_kind Int64 Int64 = true
same_kind Char Char = true
same_kind Object Object = true
same_kind _ _ = false

abbrev pub has_kind : Kind → Option Kind → Bool
has_kind k None = false
has_kind k (Some l) = same_kind k l

-- a kind is the one that is asked for, if one is
abbrev pub kinds_agree : Option Kind → Option Kind → Bool
kinds_agree None k = false
kinds_agree (Some k) l = has_kind k l

-- ---- variables
-- the kinds of a function's parameters, which are the first of its variables
abbrev pub parameter_kinds : CFunc → List Kind
parameter_kinds g = map (λ v. v.1) (take g.params g.vars)

-- the error value of a kind, with which its variables begin
abbrev pub error_word : Kind → Word
error_word Tagged = TaggedError
error_word Int64 = Native (negsuc 112)
error_word Char = CharWord 2
error_word Object = NoObject

-- the variables of a function that is called with these words
abbrev pub entry_words : List Word → CFunc → List Word
entry_words ws g = ws ++ map (λ v. error_word v.1) (drop g.params g.vars)
