use Rattle.std.proofs.Common.{sym, ap, ◌∙◌, ◌∷◌}
use Rattle.std.specs.Option.{option_copied}
use Rattle.c_runner.specs.Methods.{method_begins}
use Rattle.c_runner_deeds.specs.States.{state_of, seen}
use Rattle.c_runner.proofs.MethodLemmas.{no_function, not_taken, not_passed, method_entered}
use Rattle.c_runner.proofs.methods.call_method.Goals as goal

pub returns-in_default : goal.returns-in_default
returns-in_default c =
    λ rest. ap (λ f. method_begins c.args.code.now c.args.target (c.args.object ∷ c.args.args.now) f (state_of rest (seen c.args.state.now))) c.in_default.is

pub returns-in_default-get : goal.returns-in_default-get
returns-in_default-get c =
    λ rest. no_function rest (seen c.args.state.now) c.args.code.now c.args.target (c.args.object ∷ c.args.args.now) c.args.func c.in-Some.func c.in-Some.is (sym c.get.ensures.value ∙ ap option_copied c.in_default-get.is)

pub returns-then-not-takes_and_gives : goal.returns-then-not-takes_and_gives
returns-then-not-takes_and_gives c =
    λ rest. not_taken rest (seen c.args.state.now) c.args.code.now c.args.target (c.args.object ∷ c.args.args.now) c.args.func c.in-Some.func c.in-Some-get.function.now c.takes_and_gives.result c.in-Some.is (sym c.in-Some-get.ensures.value) (c.takes_and_gives.ensures rest c.args.object) c.if-not-takes_and_gives.true

pub returns-in-Some-2 : goal.returns-in-Some-2
returns-in-Some-2 c =
    λ rest. not_passed rest (seen c.args.state.now) c.args.code.now c.args.target (c.args.object ∷ c.args.args.now) c.args.func c.in-Some.func c.in-Some-get.function.now c.takes_and_gives.result c.in-Some.is (sym c.in-Some-get.ensures.value) (c.takes_and_gives.ensures rest c.args.object) c.if-not-takes_and_gives.false
    c.parameters.result.now c.parameters.ensures c.pass_variables.new.words c.in_ok-fault.field-0 (c.in_ok-fault.ensures.passed rest) c.in-Some-2.fault c.in-Some-2.is

pub returns-in_ok-begin-in-None : goal.returns-in_ok-begin-in-None
returns-in_ok-begin-in-None c =
    λ rest. method_entered rest (seen c.args.state.now) c.args.code.now c.args.target (c.args.object ∷ c.args.args.now) c.args.func c.in-Some.func c.in-Some-get.function.now c.takes_and_gives.result c.in-Some.is (sym c.in-Some-get.ensures.value) (c.takes_and_gives.ensures rest c.args.object) c.if-not-takes_and_gives.false
    c.parameters.result.now c.parameters.ensures c.pass_variables.new.words c.in_ok-fault.field-0 (c.in_ok-fault.ensures.passed rest) (seen c.begin.new.state) c.in-None.is (c.in_ok-begin-in-None.ensures rest)
