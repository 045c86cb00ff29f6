use Rattle.ir_builder_operations.proofs.Common.{ap, ◌∙◌, subst, List, Reg, take, extends_trans, type_kept}
use Rattle.std.proofs.Common.{add-one, take_all}
use Rattle.std.proofs.Math.Seq.{take-suc}
use Rattle.ir_core.specs.declared.code.RType.TheVariants.{Ref}
use Rattle.ir_builder_operations.proofs.EntryLemmas.{Enters, none_entered, next_entered, dict_attempts, entry_types}
use Rattle.ir_builder_operations.proofs.dicts.emit_dict.Goals as goal

pub loop-entry-init : goal.loop-entry-init
loop-entry-init c = record { kept = c.in_ok-dict.ensures.kept; enters = none_entered c.in_ok-dict.dict c.emit_operation.new.b; lined = c.in_ok-dict.ensures.lined }

pub emit_entry-requires-clause-key : goal.emit_entry-requires-clause-key
emit_entry-requires-clause-key c =
    type_kept c.args.b.now c.loop-entry.b _ Ref c.loop-entry.invariant.kept (entry_types c.args.b.now.regs c.args.entries.now c.loop-entry.entry-index _ c.requires.entries c.loop-entry-test.true).0

pub emit_entry-requires-clause-value : goal.emit_entry-requires-clause-value
emit_entry-requires-clause-value c =
    type_kept c.args.b.now c.loop-entry.b _ Ref c.loop-entry.invariant.kept (entry_types c.args.b.now.regs c.args.entries.now c.loop-entry.entry-index _ c.requires.entries c.loop-entry-test.true).1

pub emit_entry-requires-clause-dict : goal.emit_entry-requires-clause-dict
emit_entry-requires-clause-dict c = type_kept _ _ _ Ref c.loop-entry.invariant.enters.extends c.in_ok-dict.ensures.made.type

pub loop-entry-preserved : goal.loop-entry-preserved
loop-entry-preserved c =
    let w = c.in_ok-emit_entry.ensures in
    record {
      kept = extends_trans _ _ _ c.loop-entry.invariant.kept w.kept;
      enters = next_entered c.in_ok-dict.dict _ _ _ _ _ _ (ap (λ n. take n c.args.entries.now) (add-one c.loop-entry.entry-index) ∙ take-suc c.args.entries.now c.loop-entry.entry-index _ c.loop-entry-test.true) c.loop-entry.invariant.enters w.put;
      lined = λ k i x other at. c.loop-entry.invariant.lined k i x other (w.lined k i x other at);
    }

pub returns-clause-made : goal.returns-clause-made
returns-clause-made c =
    let P : List (Reg × Reg) → Type 0 = λ es. Enters c.in_ok-dict.dict es c.emit_operation.new.b c.loop-entry.b in
    dict_attempts c.args.b.now c.emit_operation.new.b c.loop-entry.b c.in_ok-dict.dict c.args.entries.now c.requires.entries c.in_ok-dict.ensures.made (subst P (take_all c.loop-entry.entry-index c.args.entries.now c.loop-entry-test.false) c.loop-entry.invariant.enters)
