use Rattle.std.proofs.Common.{◌≢◌}
use Rattle.std.specs.List.{AllByRecursion}
use Rattle.py_syntax.specs.declared.token.TokenKind.TheVariants as k
use Rattle.tests.proofs.py_parser_tests.words_of.Given as goal

abbrev pub invariant-words : goal.invariant-words
invariant-words l = record { others : AllByRecursion (λ t. t.kind ≢ k.End) l.list }
