use Rattle.std.proofs.Common.{◌≡◌, sym, ◌∙◌, ap, true, false}
use Rattle.c_core.specs.Step.{Goes}
use Rattle.c_runner.specs.Parts.{unless_fault, handed_back}
use Rattle.c_runner_deeds.specs.States.{state_of, seen}
use Rattle.cell_heap.specs.Contents.{word_of}
use Rattle.c_runner.proofs.FrameLemmas.{returns_to}
use Rattle.c_runner_deeds.proofs.StateLemmas.{word_at}
use Rattle.c_runner_deeds.proofs.OursLemmas.{variable_own}
use Rattle.c_runner.proofs.frames.leave.Goals as goal

pub returns-in-Some-return_fault : goal.returns-in-Some-return_fault
returns-in-Some-return_fault c =
    λ rest.
    word_at rest (seen c.args.state.now) c.args.x c.in-Some.word.now _ (sym c.in-Some.ensures.value)
    ∙ returns_to rest (seen c.args.state.now) (word_of c.in-Some.word.now) _ (λ e. let no : false ≡ true = c.if-is_empty.ensures.1 e in cc)
    (c.return_fault.ensures rest _ ∙ ap (λ o. unless_fault o (state_of rest (seen c.args.state.now)) (Goes (handed_back (word_of c.in-Some.word.now) (state_of rest (seen c.args.state.now))))) c.in-Some-return_fault.is)

pub returns-in_ok-hand_back-in-None : goal.returns-in_ok-hand_back-in-None
returns-in_ok-hand_back-in-None c =
    λ rest.
    word_at rest (seen c.args.state.now) c.args.x c.in-Some.word.now _ (sym c.in-Some.ensures.value)
    ∙ returns_to rest (seen c.args.state.now) (word_of c.in-Some.word.now) _ (λ e. let no : false ≡ true = c.if-is_empty.ensures.1 e in cc)
    (c.return_fault.ensures rest _ ∙ ap (λ o. unless_fault o (state_of rest (seen c.args.state.now)) (Goes (handed_back (word_of c.in-Some.word.now) (state_of rest (seen c.args.state.now))))) c.in-None.is
    ∙ ap Goes (c.in_ok-hand_back-in-None.ensures rest))

pub return_fault-requires : goal.return_fault-requires
return_fault-requires c = variable_own c.args.state.now c.args.x c.in-Some.word.now c.in-Some.ensures.value

pub hand_back-requires-clause-ours : goal.hand_back-requires-clause-ours
hand_back-requires-clause-ours c = variable_own c.args.state.now c.args.x c.in-Some.word.now c.in-Some.ensures.value
