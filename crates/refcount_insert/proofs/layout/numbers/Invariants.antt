use Rattle.std.proofs.Common.{◌≡◌, ◌++◌, drop}
use Rattle.refcount_insert.specs.Layout.{numbers_from}
use Rattle.refcount_insert.proofs.layout.numbers.Given as goal

abbrev pub invariant-loop-front : goal.invariant-loop-front
invariant-loop-front l =
    l.numbers.items ++ numbers_from l.next (drop l.front-index l.fronts) ≡ numbers_from 0 l.fronts
