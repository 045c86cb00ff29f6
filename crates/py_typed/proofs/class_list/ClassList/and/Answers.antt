use Rattle.py_typed.proofs.AboveLemmas.{table_grown}
use Rattle.py_typed.proofs.class_list.ClassList.and.Goals as goal

pub invariant_of-result : goal.invariant_of-result
invariant_of-result c =
    table_grown c.self.inside.classes c.push-2.new.self c.self.inside.above c.push.new.self c.as_slice-2.result.now c.args.class c.in_ok-row.row c.as_slice.result.now c.len.result c.self.invariant
    c.in_ok-push-2.ensures.ok c.in_ok-push.ensures.ok c.as_slice.ensures c.len.ensures c.as_slice-2.ensures c.in_ok-row.ensures
