use Rattle.std.proofs.Common.{◌≡◌, map, slice_get, drop}
use Rattle.std.specs.List.{list_all}
use Rattle.py_check_overrides.specs.Overrides.{passed}
use Rattle.py_check_overrides.specs.Views.{verdict}
use Rattle.py_check_overrides.proofs.judge.all_pass.Given as goal

abbrev pub invariant-loop-base : goal.invariant-loop-base
invariant-loop-base l =
    list_all (λ b. passed (slice_get (map verdict l.before) b)) (drop l.base-index l.bases) ≡ list_all (λ b. passed (slice_get (map verdict l.before) b)) l.bases
