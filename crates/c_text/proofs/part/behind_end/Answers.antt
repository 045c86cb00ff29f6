use Rattle.std.proofs.Common.{[], refl}
use Rattle.c_core.specs.declared.code.Kind.TheVariants.{Char}
use Rattle.c_text.proofs.PartLemmas.{made_last, next_other, next_top}
use Rattle.c_text.proofs.part.behind_end.Goals as goal

pub returns-in_ok-push-in-Module : goal.returns-in_ok-push-in-Module
returns-in_ok-push-in-Module c =
    next_top c.args.above c.args.begun c.push.new.self c.requires.above c.requires.begun c.in-Module.is
    (made_last c.args.above.functions c.push.new.self c.from_string.result [] Char 0 c.into_list-vars.result c.args.begun.vars c.into_list-lines.result c.args.begun.lines c.in_ok-push-in-Module.ensures.ok (cc (c.from_string.ensures, c.new.ensures.bytes)) c.into_list-vars.ensures c.into_list-lines.ensures)

pub returns-in_ok-push-in-Function : goal.returns-in_ok-push-in-Function
returns-in_ok-push-in-Function c =
    next_other c.args.above c.args.begun c.push-in-Function.new.self c.in-Function.name c.in-Function.ret c.in-Function.params c.requires.above c.requires.begun c.in-Function.is
    (made_last c.args.above.functions c.push-in-Function.new.self c.in-Function.name c.in-Function.name c.in-Function.ret c.in-Function.params c.into_list-vars.result c.args.begun.vars c.into_list-lines.result c.args.begun.lines c.in_ok-push-in-Function.ensures.ok refl c.into_list-vars.ensures c.into_list-lines.ensures)
