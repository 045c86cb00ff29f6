use Rattle.c_core.specs.declared.primitive.Primitive.TheVariants.{Str}
use Rattle.c_runner_deeds.specs.States.{state_of, seen}
use Rattle.c_runner_deeds.proofs.DeedLemmas.{does_deed, str_called}
use Rattle.std.specs.Prelude.{map}
use Rattle.cell_heap.specs.Numbered.{numbered}
use Rattle.cell_heap.specs.Contents.{word_of}
use Rattle.c_runner_deeds.proofs.PlainLemmas.{plain_done, str_plain}
use Rattle.c_runner_deeds.proofs.state.State.call_str.Goals as goal

pub returns : goal.returns
returns c =
    does_deed (Str c.args.primitive) c.args.target c.args.args.now (seen c.args.self.now) (seen c.perform_deed.new.self) c.perform_deed.result c.in_ok-deed.deed _
    (λ code rest. str_called (state_of rest (seen c.args.self.now)) c.args.target code c.args.args.now c.args.primitive) c.in_ok-deed.ensures c.perform_deed.ensures

pub perform_deed-requires-clause-ours : goal.perform_deed-requires-clause-ours
perform_deed-requires-clause-ours c = plain_done c.args.self.now.cells c.in_ok-deed.deed _ c.in_ok-deed.ensures (str_plain (numbered c.args.self.now.cells) (map word_of c.args.self.now.top.vars) c.args.args.now c.args.primitive)
