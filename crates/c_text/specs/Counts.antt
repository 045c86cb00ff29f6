-- The words of count statements.
use Rattle.std.specs.Prelude.{◌≡◌, ◌≢◌, ℕ, ◌++◌, List, [], Option, Some, MatchOption, IsTrue, codes}
use Rattle.c_core.specs.declared.code.Kind.{Kind}
use Rattle.c_core.specs.declared.code.Kind.TheVariants.{Tagged}
use Rattle.c_core.specs.declared.code.Line.{Line}
use Rattle.c_core.specs.declared.code.Line.TheVariants as line
use Rattle.c_core.specs.WellFormed.{is_counted_kind}
use Rattle.c_text.specs.declared.count.Count.{Count}
use Rattle.c_text.specs.declared.count.Count.TheVariants.{Inc, Dec, XDec}

abbrev pub verb_text : Count → List ℕ
verb_text Inc = codes "INCREF"
verb_text Dec = codes "DECREF"
verb_text XDec = codes "XDECREF"

-- how the word begins for a variable of a kind
abbrev pub counter_text : Kind → List ℕ
counter_text Tagged = codes "CPyTagged_"
counter_text _ = codes "CPy_"

abbrev pub count_word : Count → Kind → List ℕ
count_word count kind = counter_text kind ++ verb_text count

-- the statement of a count
abbrev pub count_line : Count → ℕ → Line
count_line Inc x = line.Inc x
count_line Dec x = line.Dec x
count_line XDec x = line.XDec x

-- whether references to variables of a kind are counted
abbrev pub IsCounted : Kind → Type 0
IsCounted kind = IsTrue (is_counted_kind [] (Some kind))

-- the count that a word means was found, or the word means none
abbrev pub FindsCount : List ℕ → Option (Count × Kind) → Type 0
FindsCount word found =
    MatchOption found ((count : Count) (kind : Kind) → IsCounted kind → count_word count kind ≢ word) (λ p. IsCounted p.1 × (count_word p.0 p.1 ≡ word))
