use Rattle.std.proofs.Common.{refl, length}
use Rattle.std.proofs.lemmas.Option.{slice_get_read}
use Rattle.c_runner_deeds.proofs.OursLemmas.{word_read}
use Rattle.c_runner_objects.proofs.items.item.Goals as goal

pub returns-in-Some-clause-ours : goal.returns-in-Some-clause-ours
returns-in-Some-clause-ours c =
    λ cells own. word_read cells c.args.items.now c.args.place c.in-Some.word.now own (slice_get_read c.args.items.now (length c.args.items.now) c.args.place c.in-Some.word.now refl c.in-Some.ensures.lookup.3.0 c.in-Some.ensures.lookup.1)
