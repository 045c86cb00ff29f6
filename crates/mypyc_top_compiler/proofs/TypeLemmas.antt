-- What the typing of a module tells.
use Rattle.std.proofs.Common.{◌≡◌, refl, sym, ap, List, [], ◌∷◌, map, Ok, Err}
use Rattle.py_syntax.specs.Statements.{Suite}
use Rattle.py_syntax_diagnostics.specs.declared.diagnostic.Diag.{Diag}
use Rattle.py_typed.specs.declared.checked.Checked.{Checked}
use Rattle.py_typed.specs.Statements.{typed_module}
use Rattle.py_check.specs.Module.{diagnostics}
use Rattle.py_check.specs.Outcome.{Outcome}
use Rattle.py_check.specs.declared.checking.CheckError.TheVariants.{Diags}
use Rattle.mypyc_top_compiler.specs.Types.{entry_at, types_said, typed_tree}

-- no entries come of no diagnostics alone
none_of : (ds : List Diag) → map entry_at ds ≡ [] → ds ≡ []
none_of [] is = refl
none_of (d ∷ ds) is = absurd (cc)

pub checked_typed : (m : Suite) (c : Checked) → Outcome m (Ok c) → typed_module c ≡ typed_tree m
unfolding typed_tree
checked_typed m c is = is.1

pub checked_tells : (m : Suite) (c : Checked) → Outcome m (Ok c) → types_said m ≡ []
unfolding types_said
checked_tells m c is = ap (map entry_at) is.0

-- where no entry comes of names and types, nothing is said of them
pub no_diagnostics : (m : Suite) → types_said m ≡ [] → diagnostics m ≡ []
unfolding types_said
no_diagnostics m none = none_of (diagnostics m) none

pub diags_told : (m : Suite) (ds : List Diag) → Outcome m (Err (Diags ds)) → types_said m ≡ map entry_at ds
unfolding types_said
diags_told m ds is = ap (map entry_at) (sym is.0)

pub diags_are_some : (m : Suite) (ds : List Diag) → Outcome m (Err (Diags ds)) → ¬ (types_said m ≡ [])
unfolding types_said
diags_are_some m ds is none = is.1 (none_of (diagnostics m) none)
