-- No literal is written in two ways.
use Rattle.std.proofs.Common.{◌≡◌, Some, IsTrue, refl, arith}
use Rattle.std.specs.Prelude.{codes}
use Rattle.c_core.specs.declared.code.CLit.{CLit}
use Rattle.c_core.specs.declared.code.CLit.TheVariants.{Number, Null, PyNone, PyTrue, PyFalse}
use Rattle.c_core.specs.Text.{literal_text}
use Rattle.c_core.specs.WellFormed.{spelled_literal}
use Rattle.c_text.proofs.Bytes.{differ}
use Rattle.c_text.proofs.Numbers.{not_number}

pub is_null : (l : CLit) → IsTrue (spelled_literal l) → literal_text l ≡ codes "NULL" → Some Null ≡ Some l
is_null (Number n) h e = absurd (not_number n _ _ h (omega arith) e)
is_null Null h e = refl
is_null PyNone h e = absurd (differ e refl)
is_null PyTrue h e = absurd (differ e refl)
is_null PyFalse h e = absurd (differ e refl)

pub is_none : (l : CLit) → IsTrue (spelled_literal l) → literal_text l ≡ codes "Py_None" → Some PyNone ≡ Some l
is_none (Number n) h e = absurd (not_number n _ _ h (omega arith) e)
is_none Null h e = absurd (differ e refl)
is_none PyNone h e = refl
is_none PyTrue h e = absurd (differ e refl)
is_none PyFalse h e = absurd (differ e refl)

pub is_true : (l : CLit) → IsTrue (spelled_literal l) → literal_text l ≡ codes "Py_True" → Some PyTrue ≡ Some l
is_true (Number n) h e = absurd (not_number n _ _ h (omega arith) e)
is_true Null h e = absurd (differ e refl)
is_true PyNone h e = absurd (differ e refl)
is_true PyTrue h e = refl
is_true PyFalse h e = absurd (differ e refl)

pub is_false : (l : CLit) → IsTrue (spelled_literal l) → literal_text l ≡ codes "Py_False" → Some PyFalse ≡ Some l
is_false (Number n) h e = absurd (not_number n _ _ h (omega arith) e)
is_false Null h e = absurd (differ e refl)
is_false PyNone h e = absurd (differ e refl)
is_false PyTrue h e = absurd (differ e refl)
is_false PyFalse h e = refl
