use Rattle.std.proofs.Common.{◌≡◌, refl, ◌∙◌, ap, List, ℕ, Bool, true, false}
use Rattle.std.specs.Str.{is_utf8}
use Rattle.std.specs.Str.{IsUtf8}
use Rattle.std.proofs.lemmas.Str.{IsUtf8-from_is_utf8, is_utf8-from_IsUtf8}
use Rattle.c_runner_lines.specs.declared.item.Item.TheVariants.{Line, Bad}
use Rattle.c_runner_lines.specs.Steps.{item_of}
use Rattle.c_runner_lines.proofs.search.line_item.Goals as goal

item_text : (bytes : List ℕ) → IsUtf8 bytes → Line bytes ≡ item_of bytes
item_text bytes h = rw (is_utf8-from_IsUtf8 bytes h) refl

item_bad : (bytes : List ℕ) (t : Bool) → is_utf8 bytes ≡ t → ¬ (IsUtf8 bytes) → Bad ≡ item_of bytes
item_bad bytes true e h = absurd (h (IsUtf8-from_is_utf8 bytes e))
item_bad bytes false e h = rw e refl

pub returns-in_ok-from_str-in-Ok : goal.returns-in_ok-from_str-in-Ok
returns-in_ok-from_str-in-Ok c =
    ap Line (c.in_ok-from_str-in-Ok.ensures ∙ c.in-Ok.ensures.cases.0) ∙ item_text c.args.line.now c.in-Ok.ensures.cases.1

pub returns-in-Err : goal.returns-in-Err
returns-in-Err c = item_bad c.args.line.now (is_utf8 c.args.line.now) refl c.in-Err.ensures.cases.0
