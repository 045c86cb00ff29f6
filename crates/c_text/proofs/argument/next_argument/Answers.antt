use Rattle.std.proofs.Common.{sym, ◌∙◌, ap}
use Rattle.c_core.specs.declared.code.CArg.TheVariants as arg
use Rattle.c_core.specs.Text.{arg_text}
use Rattle.c_text.proofs.ArgumentLemmas.{is_quoted, is_word, spelled_name, HasNo-word}
use Rattle.c_text.proofs.argument.next_argument.Goals as goal

pub returns-in-Some-2-clause-finds : goal.returns-in-Some-2-clause-finds
returns-in-Some-2-clause-finds c = λ a rest h ends e.
    let q = is_quoted c.args.vars.now a rest c.in-Some.inside.now h (e ∙ c.in-Some.ensures) in
    let f = c.in_ok-text.ensures.finds q.0 rest (spelled_name c.args.vars.now a (arg.Text q.0) q.1 h) q.2 in
    let g = rw c.in-Some-2.is at f in
    (ap (arg_text c.args.vars.now) (q.1 ∙ ap arg.Text (sym g.0)), g.1)

pub returns-in-None-clause-finds : goal.returns-in-None-clause-finds
returns-in-None-clause-finds c = λ a rest h ends e.
    let q = is_quoted c.args.vars.now a rest c.in-Some.inside.now h (e ∙ c.in-Some.ensures) in
    let f = c.in_ok-text.ensures.finds q.0 rest (spelled_name c.args.vars.now a (arg.Text q.0) q.1 h) q.2 in
    rw c.in-None.is at f

pub returns-in-Some-3-clause-finds : goal.returns-in-Some-3-clause-finds
returns-in-Some-3-clause-finds c = λ a rest h ends e.
    let w = is_word c.args.vars.now a rest c.args.text.now e c.in_default.ensures in
    let p = c.up_to_comma.ensures.finds (arg_text c.args.vars.now a) rest (HasNo-word c.args.vars.now a c.requires h w) ends e in
    let f = c.in_ok-argument.ensures.finds a h w (sym p.0) in
    let g = rw c.in-Some-3.is at f in
    (g, p.1)

pub returns-in-None-2-clause-finds : goal.returns-in-None-2-clause-finds
returns-in-None-2-clause-finds c = λ a rest h ends e.
    let w = is_word c.args.vars.now a rest c.args.text.now e c.in_default.ensures in
    let p = c.up_to_comma.ensures.finds (arg_text c.args.vars.now a) rest (HasNo-word c.args.vars.now a c.requires h w) ends e in
    let f = c.in_ok-argument.ensures.finds a h w (sym p.0) in
    rw c.in-None-2.is at f
