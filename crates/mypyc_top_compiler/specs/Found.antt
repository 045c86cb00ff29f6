-- What the steps of reading a module say of its faults.
use Rattle.std.specs.Prelude.{◌≡◌, List, [], ◌∷◌, map, Result, Ok, Err}
use Rattle.py_parser_source.specs.Entries.{Entry}
use Rattle.py_parser_source.specs.Sayings.{entry_of}
use Rattle.mypyc_top_compiler.specs.declared.faults.Faults.{Faults}
use Rattle.mypyc_top_compiler.specs.declared.faults.Faults.TheVariants.{OfSource, Unbuilt, OfTypes}
use Rattle.mypyc_top_compiler.specs.declared.typing.ModuleError.{ModuleError}
use Rattle.mypyc_top_compiler.specs.declared.typing.ModuleError.TheVariants.{Faulty, Memory}
use Rattle.mypyc_top_compiler.specs.Types.{entry_at}
use Rattle.mypyc_top_compiler.specs.Faults.{unbuilt_entry}

-- the entries of what was found
abbrev pub entries_of : Faults → List Entry
entries_of (OfSource fault) = entry_of fault ∷ []
entries_of (Unbuilt u) = unbuilt_entry u ∷ []
entries_of (OfTypes diags) = map entry_at diags

-- where a module was made these entries are none, and where it was not they are what was found, and some
abbrev pub Tells : {T : Type 0} → List Entry → Result T ModuleError → Type 0
Tells es (Ok found) = es ≡ []
Tells es (Err (Faulty faults)) = (es ≡ entries_of faults) × ¬ (es ≡ [])
Tells es (Err Memory) = Unit {0}

-- the same of entries that are known by what holds of them
abbrev pub Judges : {T : Type 0} → (List Entry → Type 0) → Result T ModuleError → Type 0
Judges Are (Ok found) = Are []
Judges Are (Err (Faulty faults)) = Are (entries_of faults) × ¬ (entries_of faults ≡ [])
Judges Are (Err Memory) = Unit {0}
