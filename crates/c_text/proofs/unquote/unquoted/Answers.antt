use Rattle.std.proofs.Common.{sym, ◌∙◌, ap, subst}
use Rattle.std.specs.Str.{is_utf8, IsUtf8}
use Rattle.std.proofs.lemmas.Bool.{false≢true}
use Rattle.std.proofs.lemmas.Str.{is_utf8-from_IsUtf8, IsUtf8-from_is_utf8, IsUtf8-string_bytes}
use Rattle.c_text.proofs.unquote.unquoted.Goals as goal

pub returns-in-Ok-clause-spelled : goal.returns-in-Ok-clause-spelled
returns-in-Ok-clause-spelled c = ap is_utf8 c.from_string.ensures ∙ is_utf8-from_IsUtf8 _ (IsUtf8-string_bytes c.in-Ok.text)

pub returns-clause-finds : goal.returns-clause-finds
returns-clause-finds c = λ t rest u e.
    let h = c.in_ok-bytes.ensures.finds t rest e in
    false≢true (c.in-Err.ensures.succeeds (subst IsUtf8 (sym h.0) (IsUtf8-from_is_utf8 t u)))
