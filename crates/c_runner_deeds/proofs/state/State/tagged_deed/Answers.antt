use Rattle.std.specs.Prelude.{map}
use Rattle.c_runner_deeds.specs.Deeds.{done_by}
use Rattle.cell_heap.specs.Contents.{word_of}
use Rattle.c_runner_deeds.specs.States.{seen}
use Rattle.c_runner_deeds.proofs.DeedLemmas.{ints_are, ok_as}
use Rattle.cell_heap.specs.Numbered.{numbered}
use Rattle.c_runner_deeds.specs.Deeds.{one_int, two_ints}
use Rattle.c_runner_deeds.proofs.PlainLemmas.{plain_tried, tried_plain, one_plain, two_plain}
use Rattle.c_runner_deeds.proofs.state.State.tagged_deed.Goals as goal

pub returns-in_default-clause-done : goal.returns-in_default-clause-done
returns-in_default-clause-done c =
    ok_as done_by c.two_deed.result _ _
    (ints_are (seen c.args.self.now).cells (map word_of c.args.self.now.top.vars) c.args.args.now c.args.primitive c.in_default.not-FromText c.in_default.not-FromInt64 c.in_default.not-FromBool c.in_default.not-Negate c.in_default.not-AsInt64 c.in_default.not-Str c.in_default.not-Unbox)
    c.two_deed.ensures

pub returns-in-Negate-clause-ours : goal.returns-in-Negate-clause-ours
returns-in-Negate-clause-ours c =
    plain_tried c.args.self.now.cells c.one_deed.result _ c.one_deed.ensures (tried_plain _ (one_plain c.args.primitive) (one_int (numbered c.args.self.now.cells) (map word_of c.args.self.now.top.vars) c.args.args.now))

pub returns-in_default-clause-ours : goal.returns-in_default-clause-ours
returns-in_default-clause-ours c =
    plain_tried c.args.self.now.cells c.two_deed.result _ c.two_deed.ensures (tried_plain _ (λ q. two_plain c.args.primitive q.0 q.1) (two_ints (numbered c.args.self.now.cells) (map word_of c.args.self.now.top.vars) c.args.args.now))
