use Rattle.std.proofs.Common.{◌≡◌, drop}
use Rattle.std.specs.List.{list_any}
use Rattle.mypyc_top_words.specs.Words.{texts, is_left}
use Rattle.mypyc_top_words.proofs.words.has_left.Given as goal

abbrev pub invariant-loop-word : goal.invariant-loop-word
invariant-loop-word l = list_any is_left (texts l.words) ≡ list_any is_left (texts (drop l.word-index l.words))
