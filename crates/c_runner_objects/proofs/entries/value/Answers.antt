use Rattle.std.proofs.Common.{refl, length}
use Rattle.std.proofs.lemmas.Option.{slice_get_read}
use Rattle.c_runner_objects.proofs.OwnLemmas.{pair_read}
use Rattle.c_runner_objects.proofs.entries.value.Goals as goal

pub returns-in-Some-clause-ours : goal.returns-in-Some-clause-ours
returns-in-Some-clause-ours c =
    λ cells own. (pair_read cells c.args.pairs.now c.args.place c.in-Some.pair.now own (slice_get_read c.args.pairs.now (length c.args.pairs.now) c.args.place c.in-Some.pair.now refl c.in-Some.ensures.lookup.3.0 c.in-Some.ensures.lookup.1)).1
