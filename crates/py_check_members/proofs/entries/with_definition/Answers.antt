use Rattle.std.proofs.Common.{◌≡◌, ◌++◌, ◌∷◌, [], length, map, option_copied}
use Rattle.py_syntax.specs.Statements.{stmt_tree}
use Rattle.py_typed.specs.Classes.{class_entry}
use Rattle.py_check_classes.specs.Names.{class_in}
use Rattle.py_check_members.specs.Members.{entries_from}
use Rattle.py_check_members.specs.Views.{own_of}
use Rattle.py_check_members.proofs.WalkLemmas.{if_ok}
use Rattle.py_check_members.proofs.TableLemmas.{entries_next}
use Rattle.py_check_members.proofs.entries.with_definition.Goals as goal

pub returns-in_ok-info-in-Class : goal.returns-in_ok-info-in-Class
returns-in_ok-info-in-Class c =
    if_ok c.and.result
    (λ all. all ≡ c.args.list ++ c.in_ok-info-in-Class.info ∷ [])
    (λ all. map class_entry all ≡ map class_entry c.args.list ++ entries_from c.args.headers.now (map own_of c.args.members.now) (length (map class_entry c.args.list)) (class_in (stmt_tree c.args.s.now)))
    (λ all e. entries_next c.args.headers.now c.args.members.now c.args.list all c.in_ok-info-in-Class.info c.args.s.now c.in-Class.c c.as_slice-number.result.now (option_copied c.item_at-header.result) (option_copied c.item_at-own.result) c.in-Class.is c.as_slice-number.ensures c.item_at-header.ensures c.item_at-own.ensures c.in_ok-info-in-Class.ensures e)
    c.and.ensures
