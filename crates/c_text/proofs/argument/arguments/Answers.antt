use Rattle.std.proofs.Common.{◌≡◌, List, sym, ◌∙◌, ap, length, subst, IfOk}
use Rattle.std.specs.List.{list_all}
use Rattle.std.proofs.lemmas.List.{nil_from_length}
use Rattle.c_core.specs.declared.code.CArg.{CArg}
use Rattle.c_core.specs.WellFormed.{spelled_arg}
use Rattle.c_text.specs.Variables.{Finds}
use Rattle.c_text.specs.Statements.{args_text}
use Rattle.c_text.proofs.ArgumentLemmas.{args_of_none, args_of_some, empty_is, more_is}
use Rattle.c_text.proofs.argument.arguments.Goals as goal

pub returns-then-is_empty-clause-finds : goal.returns-then-is_empty-clause-finds
returns-then-is_empty-clause-finds c = λ args h e.
    let a = args_of_none c.args.vars.now args c.args.text.now h e (ap length (empty_is c.args.text.now c.if-is_empty.ensures)) in
    subst (λ (none : List CArg). args_text c.args.vars.now args ≡ args_text c.args.vars.now none) (sym c.new.ensures) a

pub returns-clause-finds : goal.returns-clause-finds
returns-clause-finds c = λ args h e.
    let vars = c.args.vars.now in
    args_of_some vars args c.args.text.now e (λ none. more_is c.args.text.now c.if-is_empty.ensures (nil_from_length c.args.text.now none))
    (λ a others q. subst (λ (all : List CArg). IfOk c.some_arguments.result (λ found. Finds (args_text vars) found all)) (sym q)
    (c.some_arguments.ensures.finds a others (ap (list_all (spelled_arg vars)) (sym q) ∙ h) (ap (args_text vars) (sym q) ∙ e)))
