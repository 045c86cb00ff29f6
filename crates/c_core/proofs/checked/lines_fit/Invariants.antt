use Rattle.std.proofs.Common.{◌≡◌, drop}
use Rattle.std.specs.List.{list_all}
use Rattle.c_core.specs.WellFormed.{line_fits}
use Rattle.c_core.proofs.checked.lines_fit.Given as goal

abbrev pub invariant-loop-line : goal.invariant-loop-line
invariant-loop-line l =
    list_all (line_fits l.code l.vars l.ret) (drop l.line-index l.lines) ≡ list_all (line_fits l.code l.vars l.ret) l.lines
