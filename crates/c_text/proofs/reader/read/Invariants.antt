use Rattle.std.proofs.Common.{◌≡◌, ◌++◌, length}
use Rattle.c_text.specs.Parts.{IsFine, part_lines}
use Rattle.c_core.specs.Text.{text_of}
use Rattle.c_text.proofs.reader.read.Given as goal

-- the lines so far are those up to the part
abbrev pub invariant-loop-piece : goal.invariant-loop-piece
invariant-loop-piece l = record {
  fine : IsFine l.part;
  whole : l.fn.bytes ≡ text_of (part_lines l.part) ++ l.rest;
}

abbrev pub decreases-loop-piece : goal.decreases-loop-piece
decreases-loop-piece l = length l.rest
