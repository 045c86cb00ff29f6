use Rattle.std.proofs.Common.{◌≡◌, refl, sym, ap, ◌∙◌, length, Some, arith}
use Rattle.std.proofs.lemmas.Option.{slice_get_read, slice_get_past}
use Rattle.std.specs.Option.{option_and_then, option_copied}
use Rattle.std.specs.Prelude.{slice_get}
use Rattle.c_runner.proofs.StateLemmas.{no_line, one_line}
use Rattle.c_runner_deeds.specs.States.{seen}
use Rattle.c_runner.proofs.step.step.Goals as goal

pub returns-in_default : goal.returns-in_default
returns-in_default c =
    no_line c.args.code.now (seen c.args.state.now)
    (ap (option_and_then (λ g. slice_get g.lines c.args.state.now.top.place)) (sym c.get.ensures.value ∙ ap option_copied c.in_default.is))

pub returns-in_default-get : goal.returns-in_default-get
returns-in_default-get c =
    no_line c.args.code.now (seen c.args.state.now)
    (ap (option_and_then (λ g. slice_get g.lines c.args.state.now.top.place)) (sym c.in-Some.ensures.value)
    ∙ (ap (λ ls. slice_get ls c.args.state.now.top.place) (sym c.as_slice-lines.ensures)
    ∙ slice_get_past c.as_slice-lines.result.now c.args.state.now.top.place (omega (arith, c.in_default-get.ensures.lookup))))

pub line_step-requires-clause-target : goal.line_step-requires-clause-target
line_step-requires-clause-target c =
    let found : slice_get c.in-Some.function.now.lines c.args.state.now.top.place ≡ Some c.in-Some-get.line.now =
    ap (λ ls. slice_get ls c.args.state.now.top.place) (sym c.as_slice-lines.ensures)
    ∙ slice_get_read c.as_slice-lines.result.now (length c.as_slice-lines.result.now) c.args.state.now.top.place c.in-Some-get.line.now refl c.in-Some-get.ensures.lookup.3.0 c.in-Some-get.ensures.lookup.1 in
    c.target_at-target.ensures c.args.code.now c.in-Some.function.now c.in-Some-get.line.now (ap (λ t. t.lines) c.requires.table) (sym c.in-Some.ensures.value) found

pub line_step-requires-clause-classes : goal.line_step-requires-clause-classes
line_step-requires-clause-classes c = ap (λ t. t.classes) c.requires.table

pub returns : goal.returns
returns c =
    one_line c.args.code.now (seen c.args.state.now) (seen c.line_step.new.state) c.in-Some-get.line.now c.line_step.result
    (ap (option_and_then (λ g. slice_get g.lines c.args.state.now.top.place)) (sym c.in-Some.ensures.value)
    ∙ (ap (λ ls. slice_get ls c.args.state.now.top.place) (sym c.as_slice-lines.ensures)
    ∙ slice_get_read c.as_slice-lines.result.now (length c.as_slice-lines.result.now) c.args.state.now.top.place c.in-Some-get.line.now refl c.in-Some-get.ensures.lookup.3.0 c.in-Some-get.ensures.lookup.1))
    c.line_step.ensures
