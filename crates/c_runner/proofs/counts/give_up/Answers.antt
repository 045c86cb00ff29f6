use Rattle.std.proofs.Common.{sym, ◌∙◌, ap, nat_lt}
use Rattle.c_core.specs.Cells.{times}
use Rattle.c_core.specs.Step.{Ends, Faulted}
use Rattle.c_core.specs.declared.fault.Fault.TheVariants as fault
use Rattle.c_runner_deeds.specs.States.{state_of, seen}
use Rattle.cell_heap.specs.Contents.{number_of}
use Rattle.c_runner.proofs.StateLemmas.{not_owned}
use Rattle.std.proofs.Common.{refl}
use Rattle.c_runner_deeds.proofs.OursLemmas.{frame_own}
use Rattle.c_runner.proofs.counts.give_up.Goals as goal

pub returns-then-not-take : goal.returns-then-not-take
returns-then-not-take c =
    λ rest. not_owned (state_of rest (seen c.args.state.now)) (number_of c.args.key) (sym c.is_live.ensures ∙ c.if-not-is_live.false)
    (ap (λ n. nat_lt 0 (times c.args.state.now.top.ledger n)) (sym c.number_of.ensures) ∙ sym c.take.ensures.owned ∙ c.if-not-take.true)
    ∙ ap (λ l. Ends (Faulted fault.NotOwned) (state_of rest (record (seen c.args.state.now) { top = record c.args.state.now.top { ledger = l } }))) (sym (c.take.ensures.kept c.if-not-take.true))

pub invariant_of-state-in-Ok : goal.invariant_of-state-in-Ok
invariant_of-state-in-Ok c = record { ours = frame_own c.args.state.now c.give.new.self c.args.state.now.top.vars c.give.ensures.kept refl }
