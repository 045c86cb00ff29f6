-- What is known of a module before its statements: the signatures of its functions and its classes with their members.
use Rattle.std.specs.Prelude.{◌≡◌, List, map}
use Rattle.std.specs.Option.{option_map}
use Rattle.std.specs.Str.{bytes_eq}
use Rattle.indexmap.specs.IndexMap.{get}
use Rattle.py_syntax.specs.Statements.{Suite}
use Rattle.py_binder.specs.Scope.{functions}
use Rattle.py_typed.specs.Classes.{class_entry, signature}
use Rattle.py_check_names.specs.Walked.{trees, func_trees}
use Rattle.py_check_names.specs.Outline.{suite_definitions}
use Rattle.py_check_classes.specs.Headers.{module_headers, entry}
use Rattle.py_check_classes.specs.Kept.{AreKept}
use Rattle.py_check_signatures.specs.Headers.{signature_of}
use Rattle.py_check_members.specs.Views.{own_of}
use Rattle.py_check_overrides.specs.Overrides.{verdicts}
use Rattle.py_check_overrides.specs.Own.{own_in}
use Rattle.py_check_definitions.specs.declared.outlines.Outlined.{Outlined}
use Rattle.py_check_definitions.specs.Classes.{ModuleClasses}
use Rattle.py_check_definitions.specs.Definitions.{Headed, headed_functions}
use Rattle.py_check.specs.declared.tables.Tables.{Tables}
use Rattle.py_check.specs.Module.{ModuleContext, plain_signature, module_owns, module_context, module_classes}
use Rattle.py_check.specs.Parts.{members_of}

-- what all scopes share
abbrev pub tables_context : Outlined → Tables → ModuleContext
tables_context o t = record {
  said = get bytes_eq o.known.said;
  variables = o.known.variables.keys;
  signatures = map (option_map signature) t.signatures.items;
  classes = map class_entry t.classes.list;
  members = members_of t.members t.declaring;
}

abbrev pub tables_classes : Outlined → Tables → ModuleClasses
tables_classes o t = record {
  headers = o.classes.headers;
  verdicts = verdicts o.classes.headers (map (own_in (map (option_map signature) t.signatures.items)) (map own_of t.members));
}

-- these are what is known of a module with these functions
pub record AreTables (m : Suite) (o : Outlined) (fs : List Headed) (t : Tables) : Type 0 where
  pub headed : fs ≡ headed_functions m
  pub context : tables_context o t ≡ module_context m
  pub classes : tables_classes o t ≡ module_classes m
  pub signatures : map signature t.classes.sigs ≡ map (λ f. plain_signature (signature_of f.header)) fs
  pub owns : map own_of t.members ≡ module_owns m
  pub headers : o.classes.headers ≡ module_headers m
  pub definitions : trees o.definitions.items ≡ suite_definitions m
  pub held : func_trees o.functions.items ≡ functions m
  pub kept : AreKept (map entry o.classes.headers) o.classes.orders
