use Rattle.std.proofs.Common.{take}
use Rattle.ir_builder_frames.specs.Building.{Extends}
use Rattle.ir_builder_frames.specs.Lines.{OwnLines}
use Rattle.ir_builder_operations.proofs.EntryLemmas.{Enters}
use Rattle.ir_builder_operations.proofs.dicts.emit_dict.Given as goal

-- so many entries were put into the dict
abbrev pub invariant-loop-entry : goal.invariant-loop-entry
invariant-loop-entry l = record {
  kept : Extends l.fn.b l.b;
  enters : Enters l.dict (take l.entry-index l.entries) l.initial.b l.b;
  lined : OwnLines l.line l.fn.b l.b;
}
