use Rattle.std.proofs.Common.{take, sym, ◌∙◌}
use Rattle.std.specs.Prelude.{codes}
use Rattle.std.proofs.lemmas.List.{append_cancel_right}
use Rattle.c_core.specs.Text.{parameters_text}
use Rattle.c_text.proofs.HeadLemmas.{cut_head}
use Rattle.c_text.proofs.head.function_head.Goals as goal

pub returns-in_default-before : goal.returns-in_default-before
returns-in_default-before c = λ g h n e.
    let s = cut_head g c.args.piece.now c.in-Some.front.now c.in-Some.rest.now h c.in-Some.ensures e in
    c.in_default-before.ensures (parameters_text (take g.params g.vars)) (sym s.1)

pub returns-in_default-2 : goal.returns-in_default-2
returns-in_default-2 c =
    let d = rw c.in_default-2.is at c.in_ok-name.ensures in λ g h n e.
    let s = cut_head g c.args.piece.now c.in-Some.front.now c.in-Some.rest.now h c.in-Some.ensures e in
    d (g.name, g.ret) h s.0

pub returns-in_default-3 : goal.returns-in_default-3
returns-in_default-3 c =
    let d = rw c.in_default-3.is at c.in_ok-vars.ensures in λ g h n e.
    let s = cut_head g c.args.piece.now c.in-Some.front.now c.in-Some.rest.now h c.in-Some.ensures e in
    d (take g.params g.vars) n (append_cancel_right (parameters_text (take g.params g.vars)) c.in-Some-before.text.now (codes ") {") (s.1 ∙ c.in-Some-before.ensures))
