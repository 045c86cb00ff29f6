use Rattle.std.proofs.Common.{sym, ◌∙◌, subst, arith}
use Rattle.std.specs.Str.{IsUtf8}
use Rattle.c_text.proofs.Numbers.{IsUtf8-label, label_fits, label_parsed, label_not_parsed}
use Rattle.c_text.proofs.word.label.Goals as goal

pub returns-in_default : goal.returns-in_default
returns-in_default c = record { finds = λ n h e. absurd (c.in_default.ensures.cases.0 (subst IsUtf8 e (IsUtf8-label n h))); fits = tt }

pub returns-in-Ok-parse : goal.returns-in-Ok-parse
returns-in-Ok-parse c = record {
  finds = λ n h e. label_parsed n c.in-Ok-parse.number c.in-Ok.text.now c.parse.result h (e ∙ sym c.in-Ok.ensures.cases.0) c.parse.ensures.value.0 c.in-Ok-parse.is;
  fits = label_fits c.in-Ok-parse.number (omega arith);
}

pub returns-in-Err : goal.returns-in-Err
returns-in-Err c = record {
  finds = λ n h e. absurd (label_not_parsed n _ c.in-Ok.text.now c.parse.result h (e ∙ sym c.in-Ok.ensures.cases.0) c.parse.ensures.value.0 c.in-Err.is);
  fits = tt;
}
