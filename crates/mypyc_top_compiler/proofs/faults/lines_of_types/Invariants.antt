use Rattle.std.proofs.Common.{◌≡◌, ◌++◌, map, drop}
use Rattle.std.specs.List.{flat_map}
use Rattle.mypyc_top_compiler.specs.Types.{entry_at}
use Rattle.mypyc_top_compiler.specs.Diagnostics.{entry_text}
use Rattle.mypyc_top_compiler.proofs.faults.lines_of_types.Given as goal

-- the lines of the entries before the place are there
abbrev pub invariant-loop-diag : goal.invariant-loop-diag
invariant-loop-diag l =
    flat_map (entry_text l.file) (map entry_at l.diags) ≡ l.text.items ++ flat_map (entry_text l.file) (map entry_at (drop l.diag-index l.diags))
