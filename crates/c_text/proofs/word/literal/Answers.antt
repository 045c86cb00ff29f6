use Rattle.std.proofs.Common.{◌∙◌}
use Rattle.c_text.proofs.Literals.{is_null, is_none, is_true, is_false}
use Rattle.c_text.proofs.word.literal.Goals as goal

pub returns-then-is-clause-finds : goal.returns-then-is-clause-finds
returns-then-is-clause-finds c = λ l h e. is_null l h (e ∙ c.is.ensures.0 c.if-is.true)

pub returns-then-is-2-clause-finds : goal.returns-then-is-2-clause-finds
returns-then-is-2-clause-finds c = λ l h e. is_none l h (e ∙ c.is-else-is.ensures.0 c.if-is-2.true)

pub returns-then-is-3-clause-finds : goal.returns-then-is-3-clause-finds
returns-then-is-3-clause-finds c = λ l h e. is_true l h (e ∙ c.is-else-is-2.ensures.0 c.if-is-3.true)

pub returns-then-is-4-clause-finds : goal.returns-then-is-4-clause-finds
returns-then-is-4-clause-finds c = λ l h e. is_false l h (e ∙ c.is-else-is-3.ensures.0 c.if-is-4.true)
