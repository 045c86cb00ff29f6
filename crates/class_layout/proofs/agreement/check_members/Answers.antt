use Rattle.std.proofs.Common.{◌<◌, length, arith}
use Rattle.py_typed.specs.ClassTables.{class_table}
use Rattle.class_layout.proofs.LayoutLemmas.{known_agree, known_more, first_clash, is_unchecked}
use Rattle.class_layout.proofs.agreement.check_members.Goals as goal

pub returns-in_err-firsts : goal.returns-in_err-firsts
returns-in_err-firsts c =
    let table = class_table c.args.classes.now in
    let n = c.loop-number.number in
    let end = c.len-number-end.ensures in
    let before = c.loop-number-test.true in
    let long = c.requires.long in
    let less : n < length table.classes = omega (arith, before, end, long) in
    is_unchecked table c.from_residual.result c.in_err-firsts.field-0.0 c.from_residual.ensures.1
    (first_clash table n c.in_err-firsts.field-0.0 less (known_agree table c.loop-number.known n c.loop-number.invariant.known c.loop-number.invariant.long) c.in_err-firsts.ensures)

pub loop-number-preserved : goal.loop-number-preserved
loop-number-preserved c =
    let all = known_more (class_table c.args.classes.now) c.loop-number.known c.push.new.self c.in_ok-firsts.firsts c.loop-number.number c.in_ok-push.ensures.ok c.loop-number.invariant.long c.loop-number.invariant.known c.in_ok-firsts.ensures in
    record { long = all.0; known = all.1 }

pub returns : goal.returns
returns c =
    let end = c.len-number-end.ensures in
    let past = c.loop-number-test.false in
    let long = c.requires.long in
    λ k less. known_agree (class_table c.args.classes.now) c.loop-number.known c.loop-number.number c.loop-number.invariant.known c.loop-number.invariant.long k (omega (arith, less, end, past, long))
