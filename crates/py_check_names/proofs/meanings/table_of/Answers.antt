use Rattle.std.proofs.Common.{rules, ◌≡◌, [], ◌∷◌, ◌++◌}
use Rattle.std.specs.Str.{bytes_eq}
use Rattle.std.specs.Map.{lookup}
use Rattle.indexmap.specs.IndexMap.{get}
use Rattle.py_check_names.proofs.TableLemmas.{said_step}
use Rattle.py_check_names.proofs.meanings.table_of.Goals as goal

pub loop-name-preserved : goal.loop-name-preserved
loop-name-preserved c =
    let taken : c.loop-name.pairs.items ≡ c.pop.new.self.items ++ (c.in-Some.name, c.in-Some.meaning) ∷ [] = search (rules, c.in-Some.ensures.items) in
    said_step c.loop-name.pairs.items c.pop.new.self.items (c.in-Some.name, c.in-Some.meaning) (get bytes_eq c.loop-name.table) (get bytes_eq c.insert.new.self) (λ k. lookup (bytes_eq k) c.args.pairs.now.items) taken c.in_ok-insert.ensures.updates.0 c.loop-name.invariant
