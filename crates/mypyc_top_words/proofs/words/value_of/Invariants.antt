use Rattle.std.proofs.Common.{◌≡◌, ◌++◌, drop}
use Rattle.std.specs.Prelude.{option_to_list}
use Rattle.std.specs.Option.{option_copied}
use Rattle.mypyc_top_words.specs.Words.{texts, values}
use Rattle.mypyc_top_words.proofs.words.value_of.Given as goal

abbrev pub invariant-loop-word : goal.invariant-loop-word
invariant-loop-word l =
    values l.name (texts l.words) ≡ option_to_list (option_copied l.found) ++ values l.name (texts (drop l.word-index l.words))
