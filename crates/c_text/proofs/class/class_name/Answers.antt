use Rattle.std.proofs.Common.{◌∙◌, ap, sym}
use Rattle.std.proofs.lemmas.Bool.{false≢true}
use Rattle.c_core.specs.WellFormed.{is_identifier}
use Rattle.c_text.specs.Classes.{class_lists}
use Rattle.c_text.proofs.ClassLines.{class_is, class_parts}
use Rattle.c_text.proofs.ClassReads.{class_inside, name_utf8}
use Rattle.c_text.proofs.class.class_name.Goals as goal

pub returns-in_default-clause-finds : goal.returns-in_default-clause-finds
returns-in_default-clause-finds c = λ k h e. c.in_default.ensures _ (sym e ∙ class_is k)

pub returns-in_default-2-clause-finds : goal.returns-in_default-2-clause-finds
returns-in_default-2-clause-finds c = λ k h e.
    let q = c.in_ok-quoted.ensures.finds k.name (class_lists k) (name_utf8 k h) (class_inside k c.args.piece.now c.in-Some.text.now _ c.in-Some-cut.inside.now h e c.in-Some.ensures c.in-Some-cut.ensures) in
    rw c.in_default-2.is at q

pub returns-then-is_identifier-clause-finds : goal.returns-then-is_identifier-clause-finds
returns-then-is_identifier-clause-finds c = λ k h e.
    let q = c.in_ok-quoted.ensures.finds k.name (class_lists k) (name_utf8 k h) (class_inside k c.args.piece.now c.in-Some.text.now _ c.in-Some-cut.inside.now h e c.in-Some.ensures c.in-Some-cut.ensures) in
    let n = rw c.in-Some-2.is at q in
    (c.from_string-name.ensures ∙ c.into_string.ensures ∙ n.0, n.1)

pub returns-clause-finds : goal.returns-clause-finds
returns-clause-finds c = λ k h e.
    let q = c.in_ok-quoted.ensures.finds k.name (class_lists k) (name_utf8 k h) (class_inside k c.args.piece.now c.in-Some.text.now _ c.in-Some-cut.inside.now h e c.in-Some.ensures c.in-Some-cut.ensures) in
    let n = rw c.in-Some-2.is at q in
    false≢true (sym c.if-is_identifier.false ∙ c.is_identifier.ensures ∙ ap is_identifier (c.as_str.ensures ∙ c.from_string-name.ensures ∙ c.into_string.ensures ∙ n.0) ∙ (class_parts k h).name)
