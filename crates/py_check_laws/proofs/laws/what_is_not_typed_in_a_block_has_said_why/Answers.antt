use Rattle.py_check_laws.proofs.Given.{some_is}
use Rattle.py_check_laws.proofs.Whole.{AllTyped, InReach, quiet_got, loud_block, quiet_block}
use Rattle.py_check_laws.proofs.laws.what_is_not_typed_in_a_block_has_said_why.Goals as goal

pub returns : goal.returns
returns c = λ C home r around k body judged all u h.
    let typed : AllTyped k.types = record { locals = all.locals; globals = all.globals } in
    let reach : InReach C = record { names = all.names; members = all.members; inits = all.inits; inside = all.inside } in
    let g = quiet_got _ (loud_block C reach r judged home around k typed body u) h in
    let l = quiet_block C reach r judged home around k typed body u h in
    (some_is _ g.0 g.1, record { names = all.names; locals = l.locals; globals = l.globals; members = all.members; inits = all.inits; inside = all.inside })
