use Rattle.std.proofs.Common.{rules, ◌≡◌, ◌-◌, [], ◌∷◌, ◌++◌}
use Rattle.std.specs.Str.{bytes_eq}
use Rattle.std.specs.Map.{lookup}
use Rattle.indexmap.specs.IndexMap.{get}
use Rattle.py_check_classes.specs.Names.{numbered}
use Rattle.py_check_classes.proofs.NameLemmas.{counts_on, table_on}
use Rattle.py_check_classes.proofs.names.numbered_names.Goals as goal

pub overflow_sub-next : goal.overflow_sub-next
overflow_sub-next c =
    let taken : c.loop-name.said.items ≡ c.pop.new.self.items ++ (c.in-Some.name, c.in-Some.meaning) ∷ [] = search (rules, c.in-Some.ensures.items) in
    let counts : _ = counts_on c.loop-name.said.items c.pop.new.self.items (c.in-Some.name, c.in-Some.meaning) c.loop-name.next c.class_count-next.result taken c.loop-name.invariant.count c.class_count-next.ensures in
    counts.0

pub loop-name-preserved : goal.loop-name-preserved
loop-name-preserved c =
    let taken : c.loop-name.said.items ≡ c.pop.new.self.items ++ (c.in-Some.name, c.in-Some.meaning) ∷ [] = search (rules, c.in-Some.ensures.items) in
    let counts : _ = counts_on c.loop-name.said.items c.pop.new.self.items (c.in-Some.name, c.in-Some.meaning) c.loop-name.next c.class_count-next.result taken c.loop-name.invariant.count c.class_count-next.ensures in
    record {
      count = counts.1;
      table = table_on c.loop-name.said.items c.pop.new.self.items (c.in-Some.name, c.in-Some.meaning) (c.loop-name.next - c.class_count-next.result) c.with_number.result (get bytes_eq c.loop-name.table) (get bytes_eq c.insert.new.self) (λ k. lookup (bytes_eq k) (numbered 0 c.args.said.now.items)) taken counts.1 c.with_number.ensures c.in_ok-insert.ensures.updates.0 c.loop-name.invariant.table;
    }
