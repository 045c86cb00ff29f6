use Rattle.std.proofs.Common.{rules}
use Rattle.py_check_context.specs.Context.{context}
use Rattle.py_check_operators.proofs.FactLemmas.{facts_compare}
use Rattle.py_check_operators.proofs.narrowing.+facts.Goals as goal

pub returns-in-Compare : goal.returns-in-Compare
returns-in-Compare t c =
    let e = facts_compare (context c.args.scope.now) c.args.outcome c.args.e.now c.in-Compare.who c.in-Compare.cs c.in-Compare.is in
    search (rules, e)
