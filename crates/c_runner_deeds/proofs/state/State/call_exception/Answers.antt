use Rattle.std.proofs.Common.{refl, sym, ap, ◌∙◌, true, length, Some}
use Rattle.std.proofs.lemmas.Option.{slice_get_read}
use Rattle.c_core.specs.declared.code.CArg.TheVariants as arg
use Rattle.c_core.specs.declared.primitive.Primitive.TheVariants as prim
use Rattle.c_core.specs.Step.{primitive_step}
use Rattle.c_runner_deeds.specs.Parts.{exception_made, exception_shown}
use Rattle.c_runner_deeds.specs.States.{state_of, seen}
use Rattle.c_runner_deeds.proofs.ExceptionLemmas.{follows_all, made_step, shown_step}
use Rattle.c_runner_deeds.proofs.state.State.call_exception.Goals as goal

pub returns-in-Some-Var : goal.returns-in-Some-Var
returns-in-Some-Var c =
    follows_all
    (λ code. exception_made code c.args.target c.as_str.result.now c.in-Some-Var.x _)
    (λ code s. primitive_step true s code c.args.target c.args.args.now (prim.Exc c.args.operation))
    (seen c.args.self.now) (seen c.make_exception.new.self) c.make_exception.result
    (λ code rest.
    let s = state_of rest (seen c.args.self.now) in
    ap (λ p. primitive_step true s code c.args.target c.args.args.now (prim.Exc p)) c.in-New.is
    ∙ made_step s code c.args.target c.args.args.now c.as_str.result.now c.in-Some-Var.x _
    (sym c.in-Some-Text.ensures.value ∙ ap Some (c.in-Some-Text.field-0-is ∙ ap arg.Text (sym c.as_str.ensures)))
    (slice_get_read c.args.args.now (length c.args.args.now) 1 c.in-Some-Var.field-0.now refl c.in-Some-Var.ensures.lookup.3.0 c.in-Some-Var.ensures.lookup.1 ∙ ap Some c.in-Some-Var.field-0-is)
    refl)
    c.make_exception.ensures

pub returns-in-Some-Var-first : goal.returns-in-Some-Var-first
returns-in-Some-Var-first c =
    follows_all
    (λ code. exception_shown code c.args.target c.in-Some-Var-first.x _)
    (λ code s. primitive_step true s code c.args.target c.args.args.now (prim.Exc c.args.operation))
    (seen c.args.self.now) (seen c.show_exception.new.self) c.show_exception.result
    (λ code rest.
    let s = state_of rest (seen c.args.self.now) in
    ap (λ p. primitive_step true s code c.args.target c.args.args.now (prim.Exc p)) c.in-Str.is
    ∙ shown_step s code c.args.target c.args.args.now c.in-Some-Var-first.x _ (sym c.in-Some-Var-first.ensures.value ∙ ap Some c.in-Some-Var-first.field-0-is) refl)
    c.show_exception.ensures
