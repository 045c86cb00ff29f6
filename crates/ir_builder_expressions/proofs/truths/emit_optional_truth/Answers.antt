use Rattle.ir_builder_expressions.proofs.Common.{sort, sym, ◌∙◌, extends_trans, type_kept}
use Rattle.ir_core.specs.declared.code.RType.TheVariants as rtype
use Rattle.ir_builder_choices.proofs.OpenLemmas.{meet_ready}
use Rattle.ir_builder_expressions.proofs.TestedLemmas.{optional_tested}
use Rattle.ir_builder_expressions.proofs.truths.emit_optional_truth.Goals as goal

pub turn-requires : goal.turn-requires
turn-requires c = record { alike = (rtype.Bool, type_kept _ _ _ _ c.in_ok-no.ensures.kept c.in_ok-choice.ensures.opens.type, c.in_ok-no.ensures.added.type) }

pub emit_object_truth-requires : goal.emit_object_truth-requires
emit_object_truth-requires c =
    let x15 = extends_trans _ _ _ c.in_ok-absent.ensures.kept (extends_trans _ _ _ c.in_ok-choice.ensures.kept (extends_trans _ _ _ c.in_ok-no.ensures.kept c.in_ok-end.ensures.kept)) in
    record { plain = c.requires.plain; value = type_kept _ _ _ rtype.Ref x15 c.requires.value }

pub meet-requires : goal.meet-requires
meet-requires c =
    let r = meet_ready _ _ _ _ _ _ _ _ _ _ _ _ _ c.in_ok-choice.ensures.opens c.in_ok-no.ensures.kept c.in_ok-end.ensures.brings c.here-second.ensures.number c.in_ok-holds.ensures.kept in
    let x37 = extends_trans _ _ _ (extends_trans _ _ _ c.in_ok-no.ensures.kept c.in_ok-end.ensures.kept) c.in_ok-holds.ensures.kept in
    record {
      alike = (rtype.Bool, type_kept _ _ _ _ x37 c.in_ok-choice.ensures.opens.type, c.in_ok-holds.ensures.made.type);
      flag = type_kept _ _ _ _ (extends_trans _ _ _ c.in_ok-choice.ensures.kept x37) c.in_ok-absent.ensures.made.type;
      test_open = r.0;
      end_open = r.1.0;
      first = r.1.1.0;
      end = r.1.1.1.0;
      second = r.1.1.1.1.0;
      here = r.1.1.1.1.1;
    }

pub returns-in_err-choice-clause-kept : goal.returns-in_err-choice-clause-kept
returns-in_err-choice-clause-kept c = extends_trans _ _ _ c.in_ok-absent.ensures.kept c.in_err-choice.ensures.kept

pub returns-in_err-no-clause-kept : goal.returns-in_err-no-clause-kept
returns-in_err-no-clause-kept c = extends_trans _ _ _ c.in_ok-absent.ensures.kept (extends_trans _ _ _ c.in_ok-choice.ensures.kept c.in_err-no.ensures.kept)

pub returns-in_err-end-clause-kept : goal.returns-in_err-end-clause-kept
returns-in_err-end-clause-kept c = extends_trans _ _ _ c.in_ok-absent.ensures.kept (extends_trans _ _ _ c.in_ok-choice.ensures.kept (extends_trans _ _ _ c.in_ok-no.ensures.kept c.in_err-end.ensures.kept))

pub returns-in_err-holds-clause-kept : goal.returns-in_err-holds-clause-kept
returns-in_err-holds-clause-kept c = extends_trans _ _ _ c.in_ok-absent.ensures.kept (extends_trans _ _ _ c.in_ok-choice.ensures.kept (extends_trans _ _ _ c.in_ok-no.ensures.kept (extends_trans _ _ _ c.in_ok-end.ensures.kept c.in_err-holds.ensures.kept)))

pub returns-in_err-meet-clause-kept : goal.returns-in_err-meet-clause-kept
returns-in_err-meet-clause-kept c = extends_trans _ _ _ c.in_ok-absent.ensures.kept (extends_trans _ _ _ c.in_ok-choice.ensures.kept (extends_trans _ _ _ c.in_ok-no.ensures.kept (extends_trans _ _ _ c.in_ok-end.ensures.kept (extends_trans _ _ _ c.in_ok-holds.ensures.kept c.in_err-meet.ensures.kept))))

pub returns-clause-made : goal.returns-clause-made
returns-clause-made c =
    optional_tested (sort c.args.inner.now) _ _ _ _ _ _ _ c.args.x c.in_ok-absent.absent _ _ _ _ _ _ _ c.requires.value c.in_ok-absent.ensures.made c.in_ok-choice.ensures.opens (rw c.truth.ensures.is at c.in_ok-no.ensures.added) c.in_ok-end.ensures.brings c.here-second.ensures.number c.in_ok-holds.ensures.made c.in_ok-meet.ensures.meets

pub returns-clause-kept : goal.returns-clause-kept
returns-clause-kept c =
    (optional_tested (sort c.args.inner.now) _ _ _ _ _ _ _ c.args.x c.in_ok-absent.absent _ _ _ _ _ _ _ c.requires.value c.in_ok-absent.ensures.made c.in_ok-choice.ensures.opens (rw c.truth.ensures.is at c.in_ok-no.ensures.added) c.in_ok-end.ensures.brings c.here-second.ensures.number c.in_ok-holds.ensures.made c.in_ok-meet.ensures.meets).extends

pub returns-in_err-choice-clause-lined : goal.returns-in_err-choice-clause-lined
returns-in_err-choice-clause-lined c k i x other at = c.in_ok-absent.ensures.lined k i x other (c.in_err-choice.ensures.lined c.args.line k i x other at)

pub returns-in_err-no-clause-lined : goal.returns-in_err-no-clause-lined
returns-in_err-no-clause-lined c k i x other at = c.in_ok-absent.ensures.lined k i x other (c.in_ok-choice.ensures.lined c.args.line k i x other (c.in_err-no.ensures.lined k i x other at))

pub returns-in_err-end-clause-lined : goal.returns-in_err-end-clause-lined
returns-in_err-end-clause-lined c k i x other at = c.in_ok-absent.ensures.lined k i x other (c.in_ok-choice.ensures.lined c.args.line k i x other (c.in_ok-no.ensures.lined k i x other (c.in_err-end.ensures.lined k i x other at)))

pub returns-in_err-holds-clause-lined : goal.returns-in_err-holds-clause-lined
returns-in_err-holds-clause-lined c k i x other at = c.in_ok-absent.ensures.lined k i x other (c.in_ok-choice.ensures.lined c.args.line k i x other (c.in_ok-no.ensures.lined k i x other (c.in_ok-end.ensures.lined k i x other (c.in_err-holds.ensures.lined k i x other at))))

pub returns-in_err-meet-clause-lined : goal.returns-in_err-meet-clause-lined
returns-in_err-meet-clause-lined c k i x other at = c.in_ok-absent.ensures.lined k i x other (c.in_ok-choice.ensures.lined c.args.line k i x other (c.in_ok-no.ensures.lined k i x other (c.in_ok-end.ensures.lined k i x other (c.in_ok-holds.ensures.lined k i x other (c.in_err-meet.ensures.lined k i x other at)))))

pub returns-clause-lined : goal.returns-clause-lined
returns-clause-lined c k i x other at = c.in_ok-absent.ensures.lined k i x other (c.in_ok-choice.ensures.lined c.args.line k i x other (c.in_ok-no.ensures.lined k i x other (c.in_ok-end.ensures.lined k i x other (c.in_ok-holds.ensures.lined k i x other (c.in_ok-meet.ensures.lined k i x other at)))))
