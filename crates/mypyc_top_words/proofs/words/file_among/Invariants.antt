use Rattle.std.proofs.Common.{◌≡◌, ◌++◌, drop}
use Rattle.std.specs.Prelude.{filter, option_to_list}
use Rattle.std.specs.Option.{option_copied}
use Rattle.mypyc_top_words.specs.Words.{texts, is_file}
use Rattle.mypyc_top_words.proofs.words.file_among.Given as goal

abbrev pub invariant-loop-word : goal.invariant-loop-word
invariant-loop-word l =
    filter is_file (texts l.words) ≡ option_to_list (option_copied l.file) ++ filter is_file (texts (drop l.word-index l.words))
