use Rattle.std.proofs.Common.{◌∙◌, ap, cond, Ok, pos, ◌-ℤ◌}
use Rattle.value_core.proofs.DivisionLemmas.{floor_answer}
use Rattle.value_core.proofs.Ranges.{kept}
use Rattle.value_core.proofs.int.int_floor_div.Goals as goal

pub returns-then-rounds_down : goal.returns-then-rounds_down
returns-then-rounds_down c =
    ap (λ t. Ok (kept (cond t (kept c.in-Some.quotient -ℤ pos 1) c.in-Some.quotient))) c.if-rounds_down.ensures
    ∙ floor_answer c.args.a c.args.b c.in-Some.quotient c.ranges.a c.ranges.b c.if-b-eq0.false c.in-Some.ensures.0.1 c.in-Some.ensures.1

pub returns-else-rounds_down : goal.returns-else-rounds_down
returns-else-rounds_down c =
    ap (λ t. Ok (kept (cond t (kept c.in-Some.quotient -ℤ pos 1) c.in-Some.quotient))) c.if-rounds_down.ensures
    ∙ floor_answer c.args.a c.args.b c.in-Some.quotient c.ranges.a c.ranges.b c.if-b-eq0.false c.in-Some.ensures.0.1 c.in-Some.ensures.1
