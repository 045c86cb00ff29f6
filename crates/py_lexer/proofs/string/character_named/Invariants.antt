use Rattle.std.proofs.Common.{◌≡◌, ◌≤◌, length}
use Rattle.py_lexer.specs.Places.{characters}
use Rattle.py_lexer.proofs.StringLemmas.{named_behind}
use Rattle.py_lexer.proofs.string.character_named.Given as goal

abbrev pub invariant-loop-rest : goal.invariant-loop-rest
invariant-loop-rest l = record {
  small : l.value ≤ 0x10FFFF;
  so_far : named_behind l.base l.value (characters l.rest) ≡ named_behind l.base 0 (characters l.digits);
}

abbrev pub decreases-loop-rest : goal.decreases-loop-rest
decreases-loop-rest l = length l.rest
