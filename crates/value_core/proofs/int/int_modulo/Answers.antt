use Rattle.std.proofs.Common.{◌∙◌, ap, cond, Ok, ◌+ℤ◌}
use Rattle.value_core.proofs.DivisionLemmas.{rest_answer}
use Rattle.value_core.proofs.Ranges.{kept}
use Rattle.value_core.proofs.int.int_modulo.Goals as goal

pub returns-then-rounds_down : goal.returns-then-rounds_down
returns-then-rounds_down c =
    ap (λ t. Ok (kept (cond t (kept c.wrapping_rem-rest.result +ℤ kept c.args.b) c.wrapping_rem-rest.result))) c.if-rounds_down.ensures
    ∙ rest_answer c.args.a c.args.b c.wrapping_rem-rest.result c.ranges.a c.ranges.b c.if-b-eq0.false c.wrapping_rem-rest.ensures

pub returns-else-rounds_down : goal.returns-else-rounds_down
returns-else-rounds_down c =
    ap (λ t. Ok (kept (cond t (kept c.wrapping_rem-rest.result +ℤ kept c.args.b) c.wrapping_rem-rest.result))) c.if-rounds_down.ensures
    ∙ rest_answer c.args.a c.args.b c.wrapping_rem-rest.result c.ranges.a c.ranges.b c.if-b-eq0.false c.wrapping_rem-rest.ensures
