use Rattle.std.specs.Prelude.{map}
use Rattle.c_runner_deeds.specs.Deeds.{done_by}
use Rattle.cell_heap.specs.Contents.{word_of}
use Rattle.c_runner_deeds.specs.States.{seen}
use Rattle.c_runner_deeds.proofs.DeedLemmas.{texts_are, ok_as}
use Rattle.c_runner_deeds.proofs.state.State.str_deed.Goals as goal

pub returns-in_default : goal.returns-in_default
returns-in_default c =
    ok_as done_by c.texts_deed.result _ _
    (texts_are (seen c.args.self.now).cells (map word_of c.args.self.now.top.vars) c.args.args.now c.args.primitive c.in_default.not-Literal c.in_default.not-Len c.in_default.not-GetItem)
    c.texts_deed.ensures
