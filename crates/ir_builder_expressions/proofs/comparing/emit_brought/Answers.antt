use Rattle.ir_builder_expressions.proofs.Common.{kind_sort}
use Rattle.ir_builder_expressions.proofs.PairLemmas.{number_brought, text_brought}
use Rattle.ir_builder_expressions.proofs.comparing.emit_brought.Goals as goal

pub emit_shown-requires : goal.emit_shown-requires
emit_shown-requires c =
    let n = number_brought c.args.to (kind_sort c.args.from) c.in_default.not-Texts c.requires.brought in
    record { numeric = n.0; whole = n.1; value = c.requires.value }

pub returns-in-Texts-clause-made : goal.returns-in-Texts-clause-made
returns-in-Texts-clause-made c = text_brought c.args.to (kind_sort c.args.from) _ _ c.in-Texts.is c.requires.brought c.requires.value
