use Rattle.std.proofs.Common.{sym, ◌∙◌, subst}
use Rattle.std.specs.Str.{IsUtf8}
use Rattle.c_text.proofs.Numbers.{IsUtf8-number, number_parsed, number_not_parsed}
use Rattle.c_text.proofs.word.number.Goals as goal

pub returns-in_default-clause-finds : goal.returns-in_default-clause-finds
returns-in_default-clause-finds c = λ n h e. absurd (c.in_default.ensures.cases.0 (subst IsUtf8 e (IsUtf8-number n h)))

pub returns-in-Ok-parse-clause-finds : goal.returns-in-Ok-parse-clause-finds
returns-in-Ok-parse-clause-finds c = λ n h e. number_parsed n c.in-Ok-parse.number c.in-Ok.text.now c.parse.result h (e ∙ sym c.in-Ok.ensures.cases.0) c.parse.ensures.value.0 c.in-Ok-parse.is

pub returns-in-Err-clause-finds : goal.returns-in-Err-clause-finds
returns-in-Err-clause-finds c = λ n h e. absurd (number_not_parsed n _ c.in-Ok.text.now c.parse.result h (e ∙ sym c.in-Ok.ensures.cases.0) c.parse.ensures.value.0 c.in-Err.is)
