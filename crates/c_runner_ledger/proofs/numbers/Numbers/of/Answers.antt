use Rattle.std.proofs.Common.{◌∙◌, ap, ◌-◌, get_or, arith}
use Rattle.c_core.specs.Ledgers.{more}
use Rattle.c_runner_ledger.proofs.FewLemmas.{more_next, times_in_part}
use Rattle.c_runner_ledger.proofs.numbers.Numbers.of.Goals as goal

pub add-requires : goal.add-requires
add-requires c =
    let few = times_in_part (get_or c.args.list.now (c.loop-place.place - 1) 0) c.loop-place.place c.args.list.now c.loop-place.numbers c.loop-place.invariant in
    record { countable = omega (arith, few) }

pub loop-place-preserved : goal.loop-place-preserved
loop-place-preserved c =
    c.in_ok-add.ensures
    ∙ ap (more (get_or c.args.list.now (c.loop-place.place - 1) 0)) c.loop-place.invariant
    ∙ more_next (c.loop-place.place - 1) c.loop-place.place c.args.list.now c.requires (omega arith) (omega (arith, c.loop-place-test.true))
