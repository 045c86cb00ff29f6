use Rattle.std.proofs.Common.{◌≡◌, sym, ap, ◌∙◌, true}
use Rattle.c_core.specs.declared.primitive.ListPrim.TheVariants as list
use Rattle.c_core.specs.declared.primitive.Primitive.TheVariants as prim
use Rattle.c_core.specs.Step.{called}
use Rattle.c_runner_deeds.specs.States.{state_of, seen}
use Rattle.c_runner.proofs.AtOnceLemmas.{some_as, length_called, native_called, short_called}
use Rattle.c_runner.proofs.FrameLemmas.{none_of}
use Rattle.c_runner.proofs.at_once.answer_at_once.Goals as goal

pub returns-in-Int64-clause-says : goal.returns-in-Int64-clause-says
returns-in-Int64-clause-says c =
    some_as c.native_answer.result _ _
    (λ word e rest code target.
    ap (called true (state_of rest (seen c.args.state.now)) code target c.args.args.now) c.in-Int64.is
    ∙ native_called rest (seen c.args.state.now) code target c.args.args.now (none_of c.args.state.now.pending (sym c.is_some.ensures ∙ c.if-is_some.false)) word c.in-Int64.operation e)
    c.native_answer.ensures.says

pub returns-in-Tagged-clause-says : goal.returns-in-Tagged-clause-says
returns-in-Tagged-clause-says c =
    some_as c.tagged_answer.result _ _
    (λ word e rest code target.
    ap (called true (state_of rest (seen c.args.state.now)) code target c.args.args.now) c.in-Tagged.is
    ∙ short_called rest (seen c.args.state.now) code target c.args.args.now (none_of c.args.state.now.pending (sym c.is_some.ensures ∙ c.if-is_some.false)) word c.in-Tagged.operation e)
    c.tagged_answer.ensures.says

pub returns-in-List-Len-clause-says : goal.returns-in-List-Len-clause-says
returns-in-List-Len-clause-says c =
    let length : c.in-List-Len.field-0 ≡ list.Len = rw c.in-List-Len.is at c.in-List-Len.field-0-is in
    some_as c.length_answer.result _ _
    (λ word e rest code target.
    ap (called true (state_of rest (seen c.args.state.now)) code target c.args.args.now) (c.in-List-Len.is ∙ ap prim.List length)
    ∙ length_called rest (seen c.args.state.now) code target c.args.args.now (none_of c.args.state.now.pending (sym c.is_some.ensures ∙ c.if-is_some.false)) word e)
    c.length_answer.ensures.says
