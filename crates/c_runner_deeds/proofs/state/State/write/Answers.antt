use Rattle.std.proofs.Common.{sym, ◌∙◌, ap, ◌++◌, Some}
use Rattle.cell_heap.specs.Contents.{content_of}
use Rattle.c_runner_deeds.specs.States.{seen}
use Rattle.c_runner_deeds.proofs.StateLemmas.{text_written}
use Rattle.c_runner_deeds.proofs.OursLemmas.{cell_own}
use Rattle.c_runner_deeds.proofs.state.State.write.Goals as goal

pub returns : goal.returns
returns c =
    λ code target rest. text_written rest (seen c.args.self.now) code target c.args.x c.in-Cell.key c.in-Str.text _ c.args.is_alone
    (sym c.in-Some.ensures.value ∙ ap Some c.in-Cell.is) (c.in-Ok.ensures.content ∙ ap (λ held. Some (content_of held)) c.in-Str.is) c.if-not-is_alone.false
    (c.in_ok-add.ensures ∙ ap (λ text. c.args.self.now.output ++ text) c.as_str.ensures)

pub content-requires : goal.content-requires
content-requires c = cell_own c.args.self.now c.args.x c.in-Some.word.now c.in-Cell.key c.in-Some.ensures.value c.in-Cell.is
