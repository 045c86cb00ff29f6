-- What the steps of reading a module tell, and that a file has one list of faults in a mode and one typed module.
use Rattle.std.proofs.Common.{◌≡◌, refl, sym, ◌∙◌, ap, subst, ℕ, List, [], ◌∷◌, Option, Some, None, Result, Ok, Err}
use Rattle.std.specs.Prelude.{IfOk}
use Rattle.py_syntax.specs.Statements.{Suite}
use Rattle.ir_builder_forms.specs.declared.form.Unbuilt as built
use Rattle.py_typed.specs.Statements.{TypedModule}
use Rattle.ir_builder_supported.specs.Statements.{uncompiled_form}
use Rattle.py_parser_source.specs.declared.fault.SourceFault.{SourceFault}
use Rattle.py_parser_source.specs.declared.source.SourceError.TheVariants as source
use Rattle.py_parser_source.specs.Entries.{Entry}
use Rattle.py_parser_source.specs.Modules.{IsModule}
use Rattle.py_parser_source.specs.Sayings.{SaysOfFile}
use Rattle.py_parser_source.proofs.ListLemmas as file
use Rattle.mypyc_top_words.specs.declared.words.Emit.{Emit}
use Rattle.mypyc_top_compiler.specs.declared.faults.Faults.TheVariants.{OfSource, Unbuilt}
use Rattle.mypyc_top_compiler.specs.declared.typing.ModuleError.{ModuleError}
use Rattle.mypyc_top_compiler.specs.declared.typing.ModuleError.TheVariants.{Faulty, Memory}
use Rattle.mypyc_top_compiler.specs.Types.{types_said, typed_tree}
use Rattle.mypyc_top_compiler.specs.Source.{IsTyped}
use Rattle.mypyc_top_compiler.specs.Faults.{unbuilt_entry, unbuilt_at, or_else, of_compiling, told, AreFaults}
use Rattle.mypyc_top_compiler.specs.FaultLaws.{FaultsAreOne, TypedModulesAreOne}
use Rattle.mypyc_top_compiler.specs.Found.{Tells, Judges}

no_entry : (e : Entry) (es : List Entry) → e ∷ es ≡ [] → ⊥
no_entry e es is = cc

-- ---- trees

-- what is wrong with names and types
first_of : (es others : List Entry) → ¬ (es ≡ []) → or_else es others ≡ es
first_of [] others some = absurd (some refl)
first_of (e ∷ es) others some = refl

pub types_tell : (T U : Type 0) (mode : Emit) (m : Suite) (e : ModuleError) → Tells {T = T} (types_said m) (Err e) → Tells {T = U} (told mode m) (Err e)
types_tell T U mode m (Faulty faults) tells =
    let same : told mode m ≡ types_said m = first_of (types_said m) (of_compiling mode (uncompiled_form m (typed_tree m))) tells.1 in
    (same ∙ tells.0, λ none. tells.1 (sym same ∙ none))
types_tell T U mode m Memory tells = tt

-- what is not compiled
of_form : (mode : Emit) (m : Suite) (t : TypedModule) (found : Option built.Unbuilt) → types_said m ≡ [] → t ≡ typed_tree m → unbuilt_at found ≡ of_compiling mode (uncompiled_form m t) → told mode m ≡ unbuilt_at found
of_form mode m t found none same is =
    ap (λ es. or_else es (of_compiling mode (uncompiled_form m (typed_tree m)))) none
    ∙ sym (ap (λ x. of_compiling mode (uncompiled_form m x)) same)
    ∙ sym is

pub all_compiled : (mode : Emit) (m : Suite) (t : TypedModule) (found : Option built.Unbuilt) → types_said m ≡ [] → t ≡ typed_tree m → unbuilt_at found ≡ of_compiling mode (uncompiled_form m t) → found ≡ None → told mode m ≡ []
all_compiled mode m t found none same is all = of_form mode m t found none same is ∙ ap unbuilt_at all

pub uncompiled_tells : (T : Type 0) (mode : Emit) (m : Suite) (t : TypedModule) (found : Option built.Unbuilt) (u : built.Unbuilt) → types_said m ≡ [] → t ≡ typed_tree m → unbuilt_at found ≡ of_compiling mode (uncompiled_form m t) → found ≡ Some u → Tells {T = T} (told mode m) (Err (Faulty (Unbuilt u)))
uncompiled_tells T mode m t found u none same is there =
    let all : told mode m ≡ unbuilt_entry u ∷ [] = of_form mode m t found none same is ∙ ap unbuilt_at there in
    (all, λ nothing. no_entry (unbuilt_entry u) [] (sym all ∙ nothing))

-- ---- files

-- a file that is no module
pub source_judged : (T : Type 0) (mode : Emit) (bytes : List ℕ) (fault : SourceFault) → SaysOfFile bytes (source.Faulty fault) → Judges {T = T} (AreFaults mode bytes) (Err (Faulty (OfSource fault)))
source_judged T mode bytes fault says = (says (told mode), λ none. no_entry _ [] none)

-- and one that is
pub file_judged : {T : Type 0} (mode : Emit) (bytes : List ℕ) (m : Suite) (r : Result T ModuleError) → IsModule bytes m → Tells (told mode m) r → Judges (AreFaults mode bytes) r
file_judged mode bytes m (Ok found) is tells =
    subst (AreFaults mode bytes) tells (file.tree_is_told (told mode) bytes m is)
file_judged mode bytes m (Err (Faulty faults)) is tells =
    (subst (AreFaults mode bytes) tells.0 (file.tree_is_told (told mode) bytes m is), λ none. tells.1 (tells.0 ∙ none))
file_judged mode bytes m (Err Memory) is tells = tt

pub file_typed : {T : Type 0} (tree : T → TypedModule) (bytes : List ℕ) (m : Suite) (r : Result T ModuleError) → IsModule bytes m → IfOk r (λ found. tree found ≡ typed_tree m) → IfOk r (λ found. IsTyped bytes (tree found))
file_typed tree bytes m (Ok found) is same = (m, is, same)
file_typed tree bytes m (Err e) is same = tt

-- ---- one list of faults, and one typed module

pub faults_are_one : FaultsAreOne
faults_are_one mode bytes = file.faults_are_one (told mode) bytes

pub typed_modules_are_one : TypedModulesAreOne
typed_modules_are_one bytes a b x y = x.2 ∙ ap typed_tree (file.module_is_one bytes x.0 y.0 x.1 y.1) ∙ sym y.2
