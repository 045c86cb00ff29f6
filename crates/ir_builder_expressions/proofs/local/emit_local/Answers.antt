use Rattle.ir_builder_expressions.proofs.Common.{sym, ap, ◌∙◌, Var, setting_of}
use Rattle.ir_builder_expressions.proofs.ReadingLemmas.{parameter_read, variable_read}
use Rattle.ir_builder_expressions.proofs.local.emit_local.Goals as goal

pub returns-then-i-site-clause-emitted : goal.returns-then-i-site-clause-emitted
returns-then-i-site-clause-emitted c = parameter_read (setting_of c.args.site) c.args.i _ c.if-i-site.true c.requires.room

pub returns-clause-emitted : goal.returns-clause-emitted
returns-clause-emitted c = variable_read c.args.site.checked.now c.args.site.locals.now c.args.site.frame c.args.i c.index-site-i.result _ _ c.flag-flag.result.0 c.as_str.result.now c.requires.there c.index-site-i.is c.if-i-site.false c.flag-flag.ensures (c.as_str.ensures ∙ sym (ap (λ (v : Var). v.name) c.index-site-i.is)) c.requires.room c.in_ok-emit_flag_test.ensures.tests
