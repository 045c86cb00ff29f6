use Rattle.std.proofs.Common.{◌≡◌, ◌++◌, take}
use Rattle.std.specs.Prelude.{map}
use Rattle.c_core.specs.Functions.{error_word}
use Rattle.cell_heap.specs.Contents.{word_of, words_refs}
use Rattle.c_runner.proofs.start.push_error_values.Given as goal

abbrev pub invariant-loop-var : goal.invariant-loop-var
invariant-loop-var l = record {
  words : map word_of l.words ≡ map word_of l.initial.words ++ map (λ v. error_word v.1) (take l.var-index l.vars);
  plain : words_refs l.words ≡ words_refs l.initial.words;
}
