use Rattle.std.proofs.lemmas.Result.{err_from_is_err_and}
use Rattle.c_runner_lines.specs.declared.read_fault.ReadFault.TheVariants.{Memory}
use Rattle.c_runner_lines.specs.Reading.{Refuses, Found}
use Rattle.c_runner_lines.specs.Steps.{HoldsMore}
use Rattle.c_runner_lines.proofs.TakeLemmas.{takes_as, searched_refuses}
use Rattle.c_runner_lines.proofs.ItemLemmas.{Found-more}
use Rattle.c_runner_lines.proofs.reader.LineReader.next.Goals as goal

pub returns-clause-takes : goal.returns-clause-takes
returns-clause-takes g c =
    takes_as c.args.self.now g.I.Source.tells (g.I.Source.left c.args.input.now) (g.I.Source.left c.gather.new.input)
    (HoldsMore c.args.self.now c.gather.new.self) (Found c.in_ok-answer.field-0 c.args.self.now c.answer.new.self)
    c.in_ok-end.ensures.takes (λ taken h. Found-more c.args.self.now c.gather.new.self c.answer.new.self c.in_ok-answer.field-0 taken h c.in_ok-answer.ensures.found)

pub returns-in_err-answer-clause-takes : goal.returns-in_err-answer-clause-takes
returns-in_err-answer-clause-takes g c =
    let p = err_from_is_err_and c.from_residual-in_err-answer.result c.from_residual-in_err-answer.ensures.1 in
    rw (p.1, p.2) (takes_as c.args.self.now g.I.Source.tells (g.I.Source.left c.args.input.now) (g.I.Source.left c.gather.new.input)
    (HoldsMore c.args.self.now c.gather.new.self) (Refuses Memory c.args.self.now)
    c.in_ok-end.ensures.takes (λ taken h. searched_refuses c.args.self.now c.gather.new.self c.in_ok-end.end taken c.in_ok-end.ensures.searched h))
