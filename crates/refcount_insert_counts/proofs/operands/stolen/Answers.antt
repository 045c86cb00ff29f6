use Rattle.std.proofs.Common.{refl, length}
use Rattle.std.proofs.lemmas.Option.{slice_get_read}
use Rattle.c_core.specs.Primitives.{row_of}
use Rattle.refcount_insert_counts.proofs.Times.{stolen_step}
use Rattle.refcount_insert_counts.proofs.operands.stolen.Goals as goal

pub loop-place-preserved : goal.loop-place-preserved
loop-place-preserved c =
    stolen_step (row_of c.args.p).parameters c.args.arguments.now c.loop-place.place c.index-arguments-place.result c.steals-is_stolen.result c.loop-place.all.items c.push_stolen.new.all.items (slice_get_read c.args.arguments.now (length c.args.arguments.now) c.loop-place.place c.index-arguments-place.result refl c.loop-place-test.true c.index-arguments-place.is) c.steals-is_stolen.ensures c.loop-place.invariant c.in_ok-push_stolen.ensures
