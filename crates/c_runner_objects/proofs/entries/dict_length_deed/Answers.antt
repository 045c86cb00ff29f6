use Rattle.std.proofs.Common.{to_z}
use Rattle.std.specs.Int.{w128}
use Rattle.c_core.specs.Step.{tagged_effect}
use Rattle.c_runner_deeds.proofs.PlainLemmas.{plain_effect, plain_int}
use Rattle.c_runner_objects.proofs.entries.dict_length_deed.Goals as goal

pub returns-in-Ok-clause-ours : goal.returns-in-Ok-clause-ours
returns-in-Ok-clause-ours c = plain_effect c.args.state.now.cells c.int_deed.result (tagged_effect (to_z w128 c.len.result)) c.int_deed.ensures (plain_int (to_z w128 c.len.result))
