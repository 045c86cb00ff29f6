use Rattle.std.proofs.Common.{◌∙◌, ap, sym}
use Rattle.std.specs.Prelude.{codes}
use Rattle.std.proofs.lemmas.Bool.{false≢true}
use Rattle.std.proofs.lemmas.List.{append_cancel_left}
use Rattle.c_core.specs.WellFormed.{is_identifier}
use Rattle.c_text.proofs.Bytes.{identifier_ends}
use Rattle.c_text.proofs.class_items.NameItem.read.Goals as goal

pub returns-in-Some-2-clause-finds : goal.returns-in-Some-2-clause-finds
returns-in-Some-2-clause-finds c = λ item rest h ends e.
    let p = c.up_to_end.ensures.finds item rest (identifier_ends item h) ends (append_cancel_left (codes "CPyDef_") _ _ (e ∙ c.in-Some.ensures)) in
    let n = rw c.in-Some-2.is at c.in_ok-name.ensures in
    (n.0 ∙ p.0, p.1)

pub returns-in-None-clause-finds : goal.returns-in-None-clause-finds
returns-in-None-clause-finds c = λ item rest h ends e.
    let p = c.up_to_end.ensures.finds item rest (identifier_ends item h) ends (append_cancel_left (codes "CPyDef_") _ _ (e ∙ c.in-Some.ensures)) in
    let n = rw c.in-None.is at c.in_ok-name.ensures in
    false≢true (sym n ∙ ap is_identifier p.0 ∙ h)
