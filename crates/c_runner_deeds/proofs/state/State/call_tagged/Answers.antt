use Rattle.std.proofs.Common.{sym, subst, ap, ◌∙◌}
use Rattle.std.specs.Prelude.{Ok, map}
use Rattle.value_core.specs.declared.memory.Memory.{Memory}
use Rattle.c_core.specs.declared.primitive.Primitive.TheVariants.{Tagged}
use Rattle.c_core.specs.Machine.{refs_in}
use Rattle.c_core.specs.Step.{Goes, next_line, with_target, with_cells}
use Rattle.c_core.proofs.ReleaseLemmas.{release-nothing}
use Rattle.c_runner_deeds.specs.declared.deed.Deed.TheVariants.{Says}
use Rattle.c_runner_deeds.specs.Deeds.{Calls}
use Rattle.c_runner_deeds.specs.States.{state_of, seen}
use Rattle.cell_heap.specs.Contents.{word_of}
use Rattle.cell_heap.specs.Numbered.{numbered}
use Rattle.c_runner_deeds.proofs.PlainLemmas.{plain_word, tagged_word}
use Rattle.c_runner_deeds.proofs.DeedLemmas.{does_deed, tagged_called}
use Rattle.c_runner_deeds.proofs.state.State.call_tagged.Goals as goal

pub returns-in-Box : goal.returns-in-Box
returns-in-Box c =
    subst (λ o. Calls (Tagged o) c.args.target c.args.args.now (seen c.args.self.now) (seen c.box_int.new.self) c.box_int.result) (sym c.in-Box.is) c.box_int.ensures

pub returns-in-Some : goal.returns-in-Some
returns-in-Some c =
    does_deed {E = Memory} (Tagged c.args.primitive) c.args.target c.args.args.now (seen c.args.self.now) (seen c.answer.new.self) (Ok c.answer.result) (Ok (Says c.in-Some.word)) _
    (λ code rest. tagged_called (state_of rest (seen c.args.self.now)) c.args.target code c.args.args.now c.args.primitive c.in_default.not-Box) (sym c.in-Some.ensures)
    (λ rest. ap (λ cells. Goes (next_line (with_target c.args.target (word_of c.in-Some.word) (with_cells cells (state_of rest (seen c.args.self.now)))))) (release-nothing refs_in (seen c.args.self.now).cells) ∙ c.answer.ensures rest)

pub returns-in_ok-deed-in-None : goal.returns-in_ok-deed-in-None
returns-in_ok-deed-in-None c =
    does_deed (Tagged c.args.primitive) c.args.target c.args.args.now (seen c.args.self.now) (seen c.perform_deed.new.self) c.perform_deed.result c.in_ok-deed-in-None.deed _
    (λ code rest. tagged_called (state_of rest (seen c.args.self.now)) c.args.target code c.args.args.now c.args.primitive c.in_default.not-Box) c.in_ok-deed-in-None.ensures.done c.perform_deed.ensures

pub answer-requires-clause-ours : goal.answer-requires-clause-ours
answer-requires-clause-ours c =
    plain_word c.args.self.now.cells c.in-Some.word (tagged_word (numbered c.args.self.now.cells) (map word_of c.args.self.now.top.vars) c.args.args.now c.args.primitive (word_of c.in-Some.word) c.in-Some.ensures)

pub perform_deed-requires-clause-ours : goal.perform_deed-requires-clause-ours
perform_deed-requires-clause-ours c = c.in_ok-deed-in-None.ensures.ours
