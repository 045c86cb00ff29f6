use Rattle.std.proofs.Common.{◌≡◌, length}
use Rattle.std.specs.Str.{bytes_eq}
use Rattle.py_lexer_words.proofs.quoted.are_those.Given as goal

abbrev pub invariant-loop-left : goal.invariant-loop-left
invariant-loop-left l = bytes_eq l.right l.left ≡ bytes_eq l.text l.written

abbrev pub decreases-loop-left : goal.decreases-loop-left
decreases-loop-left l = length l.left
