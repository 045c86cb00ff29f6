use Rattle.std.proofs.Common.{◌∷◌, ◌∙◌, ap, sym}
use Rattle.std.proofs.lemmas.Bool.{false≢true}
use Rattle.c_core.specs.WellFormed.{is_identifier}
use Rattle.c_text.proofs.Bytes.{and_true}
use Rattle.c_text.proofs.ClassReads.{trait_inside}
use Rattle.c_text.proofs.class_items.Tuple2NameManyNameItem.read.Goals as goal

pub returns-in_default-2-clause-finds : goal.returns-in_default-2-clause-finds
returns-in_default-2-clause-finds c = λ item rest h ends e.
    let p = trait_inside item rest c.args.text.now c.in-Some.inside.now c.up_to_comma.result.0.now c.up_to_comma.result.1.now h e c.in-Some.ensures c.up_to_comma.ensures.finds in
    let n = rw c.in_default-2.is at c.in_ok-name.ensures in
    false≢true (sym n ∙ ap is_identifier p.0 ∙ (and_true (is_identifier item.0) _ h).0)

pub returns-clause-finds : goal.returns-clause-finds
returns-clause-finds c = λ item rest h ends e.
    let p = trait_inside item rest c.args.text.now c.in-Some.inside.now c.up_to_comma.result.0.now c.up_to_comma.result.1.now h e c.in-Some.ensures c.up_to_comma.ensures.finds in
    let n = rw c.in-Some-2.is at c.in_ok-name.ensures in
    let m = c.in_ok-methods.ensures.finds item.1 (125 ∷ rest) (and_true (is_identifier item.0) _ h).1 (sym p.1) in
    (ap (λ x. (x, c.in_ok-methods.methods)) (n.0 ∙ p.0) ∙ ap (λ x. (item.0, x)) m.0, c.past.ensures.some rest m.1)
