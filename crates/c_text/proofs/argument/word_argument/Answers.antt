use Rattle.std.proofs.Common.{sym, ◌∙◌, ap}
use Rattle.c_core.specs.declared.code.CArg.TheVariants as arg
use Rattle.std.proofs.lemmas.Bool.{false≢true}
use Rattle.c_text.proofs.ArgumentLemmas.{is_global, is_class, is_variable, is_number, spelled_name}
use Rattle.c_core.specs.Text.{arg_text}
use Rattle.c_text.proofs.Numbers.{number_again}
use Rattle.c_text.proofs.argument.word_argument.Goals as goal

pub returns-in-Some-2-clause-finds : goal.returns-in-Some-2-clause-finds
returns-in-Some-2-clause-finds c = λ a h w e.
    let g = is_global c.args.vars.now a c.args.word.now c.in-Some.word.now h w e c.in-Some.ensures in
    let n = rw c.in-Some-2.is at c.in_ok-name.ensures in
    ap (arg_text c.args.vars.now) (g ∙ ap arg.Global (sym n.0))

pub returns-in-None-clause-finds : goal.returns-in-None-clause-finds
returns-in-None-clause-finds c = λ a h w e.
    let g = is_global c.args.vars.now a c.args.word.now c.in-Some.word.now h w e c.in-Some.ensures in
    let n = rw c.in-None.is at c.in_ok-name.ensures in
    false≢true (sym n ∙ spelled_name c.args.vars.now a (arg.Global c.in-Some.word.now) g h)

pub returns-in-Some-3-clause-finds : goal.returns-in-Some-3-clause-finds
returns-in-Some-3-clause-finds c = λ a h w e.
    let g = is_class c.args.vars.now a c.args.word.now c.in-Some-behind.word.now h w e c.in-Some-behind.ensures in
    let n = rw c.in-Some-3.is at c.in_ok-name-2.ensures in
    ap (arg_text c.args.vars.now) (g ∙ ap arg.Class (sym n.0))

pub returns-in-None-2-clause-finds : goal.returns-in-None-2-clause-finds
returns-in-None-2-clause-finds c = λ a h w e.
    let g = is_class c.args.vars.now a c.args.word.now c.in-Some-behind.word.now h w e c.in-Some-behind.ensures in
    let n = rw c.in-None-2.is at c.in_ok-name-2.ensures in
    false≢true (sym n ∙ spelled_name c.args.vars.now a (arg.Class c.in-Some-behind.word.now) g h)

pub returns-in-Some-variable-clause-finds : goal.returns-in-Some-variable-clause-finds
returns-in-Some-variable-clause-finds c = λ a h w e. e ∙ sym c.in-Some-variable.ensures.1

pub returns-in-None-variable-clause-finds : goal.returns-in-None-variable-clause-finds
returns-in-None-variable-clause-finds c = λ a h w e.
    let g = is_variable c.args.vars.now a c.args.word.now c.in-Some-behind-2.field-0.now h w e c.in-Some-behind-2.ensures in
    c.in-None-variable.ensures g.0 (spelled_name c.args.vars.now a (arg.Var g.0) g.1 h) (ap (arg_text c.args.vars.now) (sym g.1) ∙ e)

pub returns-in-Some-number-clause-finds : goal.returns-in-Some-number-clause-finds
returns-in-Some-number-clause-finds c = λ a h w e.
    let g = is_number c.args.vars.now a c.args.word.now h w e c.in_default.ensures c.in_default-behind.ensures c.in_default-behind-2.ensures in
    let s = spelled_name c.args.vars.now a (arg.Number g.0) g.1 h in
    let f = c.number.ensures.finds g.0 s (ap (arg_text c.args.vars.now) (sym g.1) ∙ e) in
    ap (arg_text c.args.vars.now) (g.1 ∙ ap arg.Number (number_again g.0 c.in-Some-number.number s (sym c.in-Some-number.is ∙ f)))

pub returns-in-None-number-clause-finds : goal.returns-in-None-number-clause-finds
returns-in-None-number-clause-finds c = λ a h w e.
    let g = is_number c.args.vars.now a c.args.word.now h w e c.in_default.ensures c.in_default-behind.ensures c.in_default-behind-2.ensures in
    let f = c.number.ensures.finds g.0 (spelled_name c.args.vars.now a (arg.Number g.0) g.1 h) (ap (arg_text c.args.vars.now) (sym g.1) ∙ e) in
    let none = sym c.in-None-number.is ∙ f in
    cc
