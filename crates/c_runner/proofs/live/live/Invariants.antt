use Rattle.std.proofs.Common.{◌≡◌, ◌++◌, drop}
use Rattle.std.specs.Prelude.{map}
use Rattle.cell_heap.specs.Contents.{number_of}
use Rattle.cell_heap.specs.Numbered.{numbered}
use Rattle.c_runner.specs.Report.{live_cells}
use Rattle.c_runner.proofs.LiveLemmas.{live_of}
use Rattle.c_runner.proofs.live.live.Given as goal

-- the cells of the keys that are left are still to come
abbrev pub invariant-loop-key : goal.invariant-loop-key
invariant-loop-key l = l.live ++ live_of l.classes (numbered l.cells) (map number_of (drop l.key-index l.key-items)) ≡ live_cells l.classes (numbered l.cells)
