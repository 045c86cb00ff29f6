-- A module without faults where it is compiled is one that is built.
use Rattle.std.proofs.Common.{◌≡◌, refl, sym, ◌∙◌, ap, subst, ℕ, true, List, [], ◌∷◌, Option, Some, None, Result, Ok, Err}
use Rattle.std.specs.Prelude.{if◌then◌else◌, IfOk}
use Rattle.py_syntax.specs.Statements.{Suite}
use Rattle.ir_builder_forms.specs.declared.form.Unbuilt.{Unbuilt}
use Rattle.py_typed.specs.Statements.{TypedModule}
use Rattle.py_typed.specs.WellTypedModule.{is_well_typed}
use Rattle.py_check.specs.Module.{diagnostics, typed}
use Rattle.py_parser_source.specs.Entries.{Entry}
use Rattle.py_parser_source.specs.Modules.{IsModule}
use Rattle.c_core.specs.WellFormed.{is_identifier}
use Rattle.ir_builder_statements.specs.Modules.{ModuleSuits}
use Rattle.ir_builder_supported.specs.Statements.{uncompiled_form}
use Rattle.ir_builder_supported.proofs.ModuleLemmas.{compiled_suits}
use Rattle.py_check_source_laws.specs.Written.{QuietFileIsWellTyped}
use Rattle.mypyc_top_words.specs.declared.words.Emit.{Emit}
use Rattle.mypyc_top_compiler.specs.declared.typing.ModuleError.{ModuleError}
use Rattle.mypyc_top_compiler.specs.Types.{types_said, typed_tree}
use Rattle.mypyc_top_compiler.specs.Faults.{compiles, unbuilt_at, or_else, of_compiling, told}
use Rattle.mypyc_top_compiler.specs.Found.{Tells}
use Rattle.mypyc_top_compiler.proofs.TypeLemmas.{no_diagnostics}

-- ---- where nothing is told

no_form : (found : Option Unbuilt) → unbuilt_at found ≡ [] → found ≡ None
no_form None is = refl
no_form (Some u) is = absurd (cc)

no_first : (es others : List Entry) → or_else es others ≡ [] → es ≡ []
no_first [] others is = refl
no_first (e ∷ es) others is = absurd (cc)

no_other : (es others : List Entry) → or_else es others ≡ [] → others ≡ []
no_other [] others is = is
no_other (e ∷ es) others is = absurd (cc)

all_compiled : (mode : Emit) (found : Option Unbuilt) → compiles mode ≡ true → of_compiling mode found ≡ [] → found ≡ None
all_compiled mode found compiled is = no_form found (sym (ap (λ b. if b then unbuilt_at found else []) compiled) ∙ is)

-- ---- modules

tree_suits : (m : Suite) → (diagnostics m ≡ [] → is_well_typed is_identifier (typed m) ≡ true) → types_said m ≡ [] → uncompiled_form m (typed_tree m) ≡ None → ModuleSuits (typed_tree m)
unfolding typed_tree
tree_suits m well_typed said all = compiled_suits m (typed m) (well_typed (no_diagnostics m said)) all

told_suits : (mode : Emit) (m : Suite) → (diagnostics m ≡ [] → is_well_typed is_identifier (typed m) ≡ true) → told mode m ≡ [] → compiles mode ≡ true → ModuleSuits (typed_tree m)
told_suits mode m well_typed none compiled =
    let found : Option Unbuilt = uncompiled_form m (typed_tree m) in
    let compiling : List Entry = of_compiling mode found in
    tree_suits m well_typed (no_first (types_said m) compiling none) (all_compiled mode found compiled (no_other (types_said m) compiling none))

pub file_suits : {T : Type 0} → QuietFileIsWellTyped → (tree : T → TypedModule) (mode : Emit) (bytes : List ℕ) (m : Suite) (r : Result T ModuleError) → IsModule bytes m → IfOk r (λ found. tree found ≡ typed_tree m) → Tells (told mode m) r → IfOk r (λ found. compiles mode ≡ true → ModuleSuits (tree found))
file_suits well_typed tree mode bytes m (Ok found) is same tells = λ compiled.
    subst ModuleSuits (sym same) (told_suits mode m (well_typed bytes m is) tells compiled)
file_suits well_typed tree mode bytes m (Err e) is same tells = tt
