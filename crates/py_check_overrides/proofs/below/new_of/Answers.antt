use Rattle.std.proofs.Common.{rules, ◌≡◌, ◌≤◌, true, map, length, arith}
use Rattle.std.proofs.lemmas.Grind.{common_steps}
use Rattle.std.specs.Str.{bytes_eq}
use Rattle.indexmap.specs.IndexMap.{get}
use Rattle.py_check_overrides.specs.Overrides.{defined}
use Rattle.py_check_overrides.specs.Lines.{known, said_of, agrees_named, known_or_new}
use Rattle.py_check_overrides.specs.Views.{own}
use Rattle.py_check_overrides.proofs.ToldLemmas.{with_rest}
use Rattle.py_check_overrides.proofs.TakenLemmas.{one_more_own, whole_taken}
use Rattle.py_check_overrides.proofs.below.new_of.Goals as goal

pub loop-member-preserved : goal.loop-member-preserved
loop-member-preserved c =
    let place = c.args.place.now in
    let i = c.loop-member.member-index in
    let m = c.member-item.result in
    let taken = c.in_ok-take.ensures in
    let fits : c.in_ok-take.field-0 ≡ true = search (rules, c.if-not-branch.false) in
    record {
      by = taken.by fits c.loop-member.invariant.by;
      fresh = taken.fresh fits c.loop-member.invariant.fresh;
      told = one_more_own place.class (known place.lines.now place.base) c.args.own.now i m (get bytes_eq c.loop-member.new) (get bytes_eq c.take.new.new) _ c.loop-member-test.true c.member-item.is taken fits c.loop-member.invariant.told;
    }

pub returns : goal.returns
returns c =
    let place = c.args.place.now in
    let i = c.loop-member.member-index in
    let none : length c.args.own.now ≤ i = first_of (search (rules, c.loop-member-test.false), grind (arith, common_steps)) in
    record {
      by = c.loop-member.invariant.by;
      fresh = c.loop-member.invariant.fresh;
      told = λ rest h q.
          with_rest q (known place.lines.now place.base q) (said_of (get bytes_eq c.loop-member.new q)) (defined (map own c.args.own.now)) rest
          (whole_taken c.args.own.now i (agrees_named q (known_or_new (known place.lines.now place.base) (λ r. said_of (get bytes_eq c.loop-member.new r)) q)) none (c.loop-member.invariant.told q)) (h q);
    }
