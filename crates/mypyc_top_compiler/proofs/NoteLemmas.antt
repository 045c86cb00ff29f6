-- Names and types have no lines on errors.
use Rattle.std.proofs.Common.{◌≡◌, refl, ℕ, List, [], ◌∷◌, map}
use Rattle.py_syntax_diagnostics.specs.declared.diagnostic.Diag.{Diag}
use Rattle.mypyc_top_compiler.specs.Types.{entry_at}
use Rattle.mypyc_top_compiler.specs.Diagnostics.{notes_text}

pub no_notes : (file : List ℕ) (ds : List Diag) → notes_text file (map entry_at ds) ≡ []
no_notes file [] = refl
no_notes file (d ∷ ds) = no_notes file ds
