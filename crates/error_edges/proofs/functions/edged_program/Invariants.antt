use Rattle.std.proofs.Common.{◌≡◌, ◌++◌}
use Rattle.error_edges.specs.Edged.{AreEdged}
use Rattle.error_edges.proofs.functions.edged_program.Given as goal

abbrev pub invariant-loop-func : goal.invariant-loop-func
invariant-loop-func l =
    record {
      can_next : (goal.iterator-loop-func).can_next l.func-iterator;
      is_finite : (goal.iterator-loop-func).is_finite l.func-iterator;
      each : AreEdged l.yielded l.edged.items;
      left : l.yielded ++ l.func-iterator.rest.items ≡ l.fn.p.funcs;
    }
