-- What is typed of a part, kept by itself with what was said of it.
use Rattle.std.proofs.Common.{◌≡◌, ◌∙◌, ◌++◌, List, [], Option, ap, ap₂}
use Rattle.std.specs.Option.{option_map}
use Rattle.py_syntax_diagnostics.specs.declared.diagnostic.Diag.{Diag}
use Rattle.py_check_messages.specs.Seen.{Seen, Tells}

abbrev pub seen_of : {A : Type 0} → Option A → List Diag → Seen A
seen_of o said = record { got = o; said = said }

pub same_seen : {A B : Type 0} (view : B → A) (o : Option B) (none said : List Diag) (s : Seen A) → none ≡ [] → Tells view o none said s → seen_of (option_map view o) said ≡ s
same_seen view o none said s empty told = ap₂ seen_of told.0 (told.1 ∙ ap (λ l. l ++ s.said) empty)
