use Rattle.std.proofs.Common.{◌+◌, map, ap, zero-add}
use Rattle.py_check_members.proofs.TableLemmas.{owns_on, count_on, linked_none}
use Rattle.py_check_members.specs.Members.{class_texts}
use Rattle.py_check_members.specs.Tables.{owns_from}
use Rattle.py_check_members.specs.Views.{own_of}
use Rattle.py_check_names.specs.Walked.{trees}
use Rattle.py_check_members.proofs.tables.all_members.Goals as goal

pub loop-s-init : goal.loop-s-init
loop-s-init c =
    record {
      own = ap (λ m. owns_from c.args.known (map own_of m) (class_texts 0 (trees c.args.definitions.now))) c.new-members.ensures;
      linked = linked_none c.args.known.classes.now.headers c.new-members.result c.new-members.ensures;
      count = zero-add _;
    }

pub loop-s-preserved : goal.loop-s-preserved
loop-s-preserved c =
    record {
      own = owns_on c.args.known c.args.definitions.now c.loop-s.s-index c.loop-s.first _ c.s-item.result (map own_of c.loop-s.members) _ _ c.loop-s-test.true c.s-item.is (ap (λ n. c.loop-s.first + n) c.function_count-first.ensures) c.in_ok-add_definition.ensures.own c.loop-s.invariant.own;
      linked = c.in_ok-add_definition.ensures.linked;
      count = count_on c.args.definitions.now c.loop-s.s-index c.loop-s.first _ _ c.s-item.result c.loop-s-test.true c.s-item.is (ap (λ n. c.loop-s.first + n) c.function_count-first.ensures) c.loop-s.invariant.count;
    }
