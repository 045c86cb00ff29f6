use Rattle.std.proofs.Common.{◌∙◌, length, drop, ap}
use Rattle.py_syntax.specs.Statements.{body_tree}
use Rattle.py_check_members.specs.Members.{order_in}
use Rattle.py_check_members.specs.Tables.{above_by, bases_in}
use Rattle.py_check_members.proofs.TableLemmas.{typed_next}
use Rattle.py_check_members.proofs.tables.typed_members.Goals as goal

pub returns : goal.returns
returns c =
    typed_next c.args.known c.args.before.now c.args.first (body_tree c.args.body.now) (record { own = c.in_ok-own.own; init = c.in_ok-init.init; above = c.in_ok-above.above }) c.in_ok-row.row c.behind_first-behind.result.now c.requires.typed
    (c.in_ok-row.ensures ∙ ap (λ hs. order_in hs (length c.args.before.now)) c.as_slice-headers.ensures)
    (c.behind_first-behind.ensures ∙ ap (drop 1) c.as_slice.ensures)
    c.in_ok-own.ensures c.in_ok-init.ensures
    (c.in_ok-above.ensures ∙ ap (λ o. above_by (bases_in o) c.behind_first-behind.result.now) c.get.ensures.value)
