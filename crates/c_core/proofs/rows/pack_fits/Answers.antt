use Rattle.std.proofs.Common.{sym, ◌∙◌, ap, ◌&&◌}
use Rattle.c_core.specs.declared.primitive.Primitive.TheVariants as prim
use Rattle.c_core.specs.declared.primitive.TuplePrim.TheVariants as tuple
use Rattle.c_core.specs.Primitives.{Row, row_of}
use Rattle.c_core.specs.WellFormed.{target_fits}
use Rattle.c_core.proofs.WellFormedLemmas.{pack_fits, no_pack, too_many}
use Rattle.c_core.proofs.rows.pack_fits.Goals as goal

abbrev row : Row
row = row_of (prim.Tuple tuple.Pack)

pub returns-then-is_empty : goal.returns-then-is_empty
returns-then-is_empty c =
    λ code. sym (ap (λ b. b && target_fits code c.args.vars.now c.args.args.now row.outcome c.args.target) (no_pack code c.args.vars.now c.args.args.now c.args.args.now c.if-is_empty.ensures))

pub returns-then-args-gt16 : goal.returns-then-args-gt16
returns-then-args-gt16 c =
    λ code. sym (ap (λ b. b && target_fits code c.args.vars.now c.args.args.now row.outcome c.args.target) (too_many code c.args.vars.now c.args.args.now row.parameters c.args.args.now c.if-args-gt16.true))

pub returns-then-are_objects : goal.returns-then-are_objects
returns-then-are_objects c =
    λ code. c.answers.ensures code c.args.args.now
    ∙ ap (λ b. b && target_fits code c.args.vars.now c.args.args.now row.outcome c.args.target) (c.if-are_objects.ensures ∙ sym (pack_fits code c.args.vars.now c.args.args.now c.args.args.now c.if-is_empty.ensures c.if-args-gt16.false))

pub returns-else-are_objects : goal.returns-else-are_objects
returns-else-are_objects c =
    λ code. (c.are_objects.ensures ∙ sym c.if-are_objects.ensures)
    ∙ ap (λ b. b && target_fits code c.args.vars.now c.args.args.now row.outcome c.args.target) (c.if-are_objects.ensures ∙ sym (pack_fits code c.args.vars.now c.args.args.now c.args.args.now c.if-is_empty.ensures c.if-args-gt16.false))
