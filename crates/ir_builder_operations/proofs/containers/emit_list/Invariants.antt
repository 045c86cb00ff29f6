use Rattle.std.proofs.Common.{take}
use Rattle.ir_builder_frames.specs.Building.{Extends}
use Rattle.ir_builder_frames.specs.Lines.{OwnLines}
use Rattle.ir_builder_operations.proofs.ContainerLemmas.{Fills}
use Rattle.ir_builder_operations.proofs.containers.emit_list.Given as goal

-- so many objects were put into the list
abbrev pub invariant-loop-item : goal.invariant-loop-item
invariant-loop-item l = record {
  kept : Extends l.fn.b l.b;
  fills : Fills l.list (take l.item-index l.items) l.initial.b l.b;
  lined : OwnLines l.line l.fn.b l.b;
}
