-- The tree of a file is one that a text can write.
use Rattle.std.proofs.Common.{◌≡◌, ℕ, ℤ, ◌^◌, Bool, true, not, ◌&&◌, List, [], ◌∷◌, ◌++◌, map, refl, ap, sym, subst, lt-ltb, chars, bytes_eq}
use Rattle.std.proofs.lemmas.Bool.{and_from}
use Rattle.std.proofs.lemmas.Str.{IsUtf8-from_is_utf8, is_utf8-from_IsUtf8, IsUtf8-append, IsUtf8-nil, scalars-chars}
use Rattle.std.specs.List.{list_all, zip, AllByRecursion}
use Rattle.std.specs.Str.{is_utf8}
use Rattle.unicode_ident.specs.Ident.{is_xid_continue}
use Rattle.py_syntax.specs.declared.token.TokenKind.{TokenKind}
use Rattle.py_syntax.specs.declared.token.TokenKind.TheVariants as kind
use Rattle.py_syntax.specs.Statements.{Suite, FuncTree}
use Rattle.py_binder.specs.Scope.{Roles, module_role, module_scope, function_scope, functions}
use Rattle.py_check_context.specs.declared.scope.Meaning.{Meaning}
use Rattle.py_typed.specs.WellTypedExpr.{is_literal}
use Rattle.py_check_names.specs.Meanings.{variables, own_names}
use Rattle.py_check_signatures.specs.declared.headers.Owner.{Owner}
use Rattle.py_check_classes.specs.Headers.{module_headers}
use Rattle.py_check_members.specs.Members.{meanings_inside}
use Rattle.py_check_definitions.specs.Names.{known_in, module_meaning}
use Rattle.py_check_definitions.specs.Owners.{owners}
use Rattle.py_check_definitions.specs.Definitions.{Headed, headed, headed_functions}
use Rattle.py_check.specs.Module.{module_context}
use Rattle.py_parser_source.specs.Modules.{IsModule}
use Rattle.c_core.specs.WellFormed.{is_identifier}
use Rattle.py_check_laws.specs.WellTyped.{is_filled, is_suite_written}
use Rattle.py_check_laws.specs.Modules.{is_entry_named}
use Rattle.py_check_laws.proofs.Complete.{quiet_is_well_typed}
use Rattle.py_lexer_laws.specs.Laws.{IsWord, IsSmall, IsFit}
use Rattle.py_lexer_laws.proofs.Fit.{tokens_fit}
use Rattle.py_parser_laws.specs.Trees.{JoinsTexts, KindPasses, SuitePasses}
use Rattle.py_parser_laws.proofs.Derived.{trees_pass}
use Rattle.py_check_names_laws.specs.Laws.{OwnNamesPass}
use Rattle.py_check_names_laws.proofs.Names.{variables_pass, functions_pass}
use Rattle.py_check_source_laws.specs.Written.{TreeIsWritten, QuietFileIsWellTyped}
use Rattle.py_check_source_laws.proofs.Written.{tests, filled_there, suite_written}
use Rattle.py_check_source_laws.proofs.Named.{classes_named}

-- ---- tokens

identifier_of : (name : List ℕ) → IsWord name → is_identifier name ≡ true
identifier_of name w =
    and_from (is_utf8 name) (not (bytes_eq name []) && list_all is_xid_continue (chars name)) w.is_text
    (and_from (not (bytes_eq name [])) (list_all is_xid_continue (chars name)) (ap not w.has_character) w.continues)

literal_of : (n : ℤ) → IsSmall n → is_literal n ≡ true
literal_of n h = subst (λ z. is_literal z ≡ true) (sym h.value) (lt-ltb h.n (2 ^ 127) h.fits)

kind_passes : (k : TokenKind) → IsFit k → KindPasses (tests is_identifier) k
kind_passes (kind.Name name) h = identifier_of name h
kind_passes (kind.Int n) h = literal_of n h
kind_passes (kind.Str text) h = h
kind_passes _ h = tt

joins : JoinsTexts (tests is_identifier)
joins = record {
  nothing = is_utf8-from_IsUtf8 [] IsUtf8-nil;
  both = λ a b h k. is_utf8-from_IsUtf8 (a ++ b) (IsUtf8-append a b (IsUtf8-from_is_utf8 a h) (IsUtf8-from_is_utf8 b k));
}

suite_passes : (bytes : List ℕ) (m : Suite) → IsModule bytes m → SuitePasses (tests is_identifier) m
suite_passes bytes m is =
    let tree = is.1 in
    let fit = tokens_fit (chars bytes) (scalars-chars bytes (IsUtf8-from_is_utf8 bytes is.0)) tree.tokens tree.has_tokens in
    trees_pass (tests is_identifier) joins tree.tokens (λ i t e. kind_passes t.kind (fit i t e)) m tree.derived

-- ---- the whole

bodies_written : (roles : Roles) (fs : List FuncTree) → AllByRecursion (OwnNamesPass (tests is_identifier) roles) fs → list_all (λ f. is_suite_written f.body) fs ≡ true
bodies_written roles [] h = refl
bodies_written roles (f ∷ fs) h =
    and_from (is_suite_written f.body) (list_all (λ f. is_suite_written f.body) fs) (suite_written is_identifier f.body h.0.0.3) (bodies_written roles fs h.1)

abbrev function_written : Headed → Bool
function_written f = is_identifier f.tree.name && list_all is_identifier (own_names f.inside) && is_filled f.tree.body

three : (a b c : Bool) → a ≡ true → b ≡ true → c ≡ true → (a && b && c) ≡ true
three a b c p q r = cc

functions_written : (roles : Roles) (meanings : List ℕ → Meaning) (fs : List FuncTree) (whose : List Owner) → AllByRecursion (OwnNamesPass (tests is_identifier) roles) fs → list_all function_written (map (headed roles meanings) (zip fs whose)) ≡ true
functions_written roles meanings [] whose h = refl
functions_written roles meanings (f ∷ fs) [] h = refl
functions_written roles meanings (f ∷ fs) (o ∷ whose) h =
    let hf = headed roles meanings (f, o) in
    and_from (function_written hf) (list_all function_written (map (headed roles meanings) (zip fs whose)))
    (three (is_identifier f.name) (list_all is_identifier (own_names hf.inside)) (is_filled f.body) h.0.0.0 h.0.1 (filled_there f.body h.0.0.2))
    (functions_written roles meanings fs whose h.1)

-- what names mean in each function of a module
abbrev meanings_in_functions : Suite → ℕ → List ℕ → Meaning
meanings_in_functions m = meanings_inside (known_in m) (variables (module_scope m)) (map (function_scope (module_role m)) (functions m))

pub tree_is_written : TreeIsWritten
tree_is_written bytes m is =
    let passes = suite_passes bytes m is in
    let fs = functions_pass (tests is_identifier) m passes in (
      and_from (is_suite_written m) (list_all (λ f. is_suite_written f.body) (functions m)) (suite_written is_identifier m passes) (bodies_written (module_role m) (functions m) fs),
      three (list_all is_identifier (variables (module_scope m))) (list_all function_written (headed_functions m)) (list_all (is_entry_named is_identifier) (module_context m).classes)
          (variables_pass (tests is_identifier) m passes) (functions_written (module_role m) (module_meaning m) (functions m) (owners m) fs)
          (classes_named (tests is_identifier) m passes (module_headers m) (module_meaning m) (meanings_in_functions m)),
    )

pub quiet_file_is_well_typed : QuietFileIsWellTyped
quiet_file_is_well_typed bytes m is nothing = let w = tree_is_written bytes m is in quiet_is_well_typed is_identifier m nothing w.0 w.1
