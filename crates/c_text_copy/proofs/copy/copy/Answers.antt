use Rattle.outside_core.proofs.Fronts.{TakesFront-all}
use Rattle.c_text_copy.proofs.copy.copy.Goals as goal

-- where only the flush failed the whole text was taken
pub returns-in_err-flush-clause-front : goal.returns-in_err-flush-clause-front
returns-in_err-flush-clause-front g c = λ failed told tells.
    TakesFront-all _ _ _ (cc (c.flush.ensures.taken, c.in_ok-write.ensures.taken tells, c.in_ok-code.ensures.text, c.deref.ensures.value, c.in_ok-bytes.ensures.whole told))
