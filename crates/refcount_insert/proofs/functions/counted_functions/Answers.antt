use Rattle.std.proofs.Common.{refl, length}
use Rattle.std.proofs.lemmas.Option.{slice_get_read}
use Rattle.refcount_insert.proofs.Laying.{fits_at, funcs_step}
use Rattle.refcount_insert.proofs.functions.counted_functions.Goals as goal

pub counted_function-requires : goal.counted_function-requires
counted_function-requires c =
    fits_at c.args.funcs.now c.loop-f.f-index c.f-item.result c.requires (slice_get_read c.args.funcs.now (length c.args.funcs.now) c.loop-f.f-index c.f-item.result refl c.loop-f-test.true c.f-item.is)

pub loop-f-preserved : goal.loop-f-preserved
loop-f-preserved c =
    funcs_step c.args.funcs.now c.loop-f.f-index c.f-item.result c.in_ok-counted_function.field-0 c.loop-f.all.items c.push.new.self.items (slice_get_read c.args.funcs.now (length c.args.funcs.now) c.loop-f.f-index c.f-item.result refl c.loop-f-test.true c.f-item.is) c.loop-f.invariant c.in_ok-counted_function.ensures c.in_ok-push.ensures.items
