use Rattle.std.proofs.Common.{sym, ◌∙◌, Some, ap}
use Rattle.std.proofs.lemmas.List.{append_cancel_left}
use Rattle.std.specs.Prelude.{◌≡◌, codes}
use Rattle.std.specs.Fmt.{decimal}
use Rattle.c_text.proofs.Forms.{both_parts}
use Rattle.c_text.proofs.jump.both_labels.Goals as goal

pub returns-in_default-behind-clause-finds : goal.returns-in_default-behind-clause-finds
returns-in_default-behind-clause-finds c = λ a b h k e.
    let p = both_parts c.args.text.now c.in-Some.rest.now c.in-Some-cut.digits.now c.in-Some-cut.rest.now a b c.in-Some.ensures c.in-Some-cut.ensures h e in
    absurd (c.in_default-behind.ensures (decimal b) (sym p.1))

pub returns-in_default-label-clause-finds : goal.returns-in_default-label-clause-finds
returns-in_default-label-clause-finds c = λ a b h k e.
    let p = both_parts c.args.text.now c.in-Some.rest.now c.in-Some-cut.digits.now c.in-Some-cut.rest.now a b c.in-Some.ensures c.in-Some-cut.ensures h e in
    let o = c.in_default-label.ensures.finds a h p.0 in
    cc

pub returns-in-None-clause-finds : goal.returns-in-None-clause-finds
returns-in-None-clause-finds c = λ a b h k e.
    let p = both_parts c.args.text.now c.in-Some.rest.now c.in-Some-cut.digits.now c.in-Some-cut.rest.now a b c.in-Some.ensures c.in-Some-cut.ensures h e in
    let o = c.in-None.ensures.finds b k (append_cancel_left (codes " else goto CPyL") (decimal b) c.in-Some-behind.others.now (p.1 ∙ c.in-Some-behind.ensures)) in
    cc

pub returns-in-Some-label-2-clause-finds : goal.returns-in-Some-label-2-clause-finds
returns-in-Some-label-2-clause-finds c = λ a b h k e.
    let p = both_parts c.args.text.now c.in-Some.rest.now c.in-Some-cut.digits.now c.in-Some-cut.rest.now a b c.in-Some.ensures c.in-Some-cut.ensures h e in
    let m = c.in-Some-label.ensures.finds a h p.0 in
    let n = c.in-Some-label-2.ensures.finds b k (append_cancel_left (codes " else goto CPyL") (decimal b) c.in-Some-behind.others.now (p.1 ∙ c.in-Some-behind.ensures)) in
    let s : c.in-Some-label.first ≡ a = cc in
    let t : c.in-Some-label-2.second ≡ b = cc in
    ap (λ z. Some (z, c.in-Some-label-2.second)) s ∙ ap (λ z. Some (a, z)) t
