use Rattle.std.proofs.Common.{◌∙◌, ◌++◌, ap}
use Rattle.py_check_context.specs.Context.{context}
use Rattle.py_check_members.specs.Bodies.{said_unless}
use Rattle.py_check_members.specs.Views.{event_of}
use Rattle.py_check_members.proofs.EventLemmas.{refused_on}
use Rattle.py_check_members.proofs.bodies.add_all_refused.Goals as goal

pub loop-i-preserved : goal.loop-i-preserved
loop-i-preserved c =
    refused_on (context c.args.scope.now).meaning c.args.events.now c.loop-i.i c.index-events-i.result c.loop-i.faults c.add_unless.new.faults _ c.loop-i-test.true c.index-events-i.is
    (c.in_ok-add_unless.ensures ∙ ap (λ b. c.loop-i.faults ++ said_unless (context c.args.scope.now).meaning b (event_of c.index-events-i.result)) c.is_declaration-declares.ensures)
    c.loop-i.invariant
