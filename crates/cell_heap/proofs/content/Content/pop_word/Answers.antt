use Rattle.std.proofs.Common.{sym, ap, ◌∙◌}
use Rattle.cell_heap.specs.Contents.{content_named}
use Rattle.cell_heap.specs.Words.{last_in}
use Rattle.cell_heap.proofs.ItemLemmas.{last_item}
use Rattle.cell_heap.proofs.content.Content.pop_word.Goals as goal

pub returns-in-List-clause-last : goal.returns-in-List-clause-last
returns-in-List-clause-last c =
    last_item c.in-List.items c.pop.new.self c.pop.result c.pop.ensures ∙ ap (λ x. last_in (content_named x)) (sym c.in-List.is)
