-- The parts of a module, put together.
use Rattle.std.proofs.Common.{◌≡◌, ◌∙◌, ℕ, List, [], ◌∷◌, ◌++◌, map, length, Option, None, Result, Ok, Err, refl, ap, sym, subst, Bor, ◌<◌, ◌^◌}
use Rattle.std.proofs.Math.Path.{fun_ext}
use Rattle.std.proofs.lemmas.List.{append_assoc, append-nil, length-map, map-append}
use Rattle.std.specs.List.{flat_map}
use Rattle.std.specs.Option.{option_map}
use Rattle.std.specs.Str.{bytes_eq}
use Rattle.indexmap.specs.IndexMap.{IndexMap, get}
use Rattle.py_syntax.specs.declared.token.Span.{Span}
use Rattle.py_syntax.specs.declared.statement.Func.{Func}
use Rattle.py_syntax.specs.Statements.{StmtTree, Suite, FuncTree, func_tree}
use Rattle.py_syntax_diagnostics.specs.declared.diagnostic.Diag.{Diag}
use Rattle.py_binder.specs.declared.scope.Scope.{Scope}
use Rattle.py_binder.specs.declared.scope.Scopes.{Scopes}
use Rattle.py_binder.specs.Scope.{module_scope, module_role, function_scope, functions}
use Rattle.py_binder.specs.Faults.{faults}
use Rattle.py_syntax_diagnostics.specs.Order.{by_place}
use Rattle.py_typed.specs.declared.checked.Checked.{Checked}
use Rattle.py_typed.specs.declared.classes.Sig.{Sig}
use Rattle.py_typed.specs.Classes.{ClassEntry, class_entry, Signature, signature}
use Rattle.py_typed.specs.Statements.{Variable, TypedFunc, TypedSuite, TypedModule}
use Rattle.py_check_context.specs.declared.members.ClassMembers.{ClassMembers}
use Rattle.py_check_context.specs.declared.scope.Meaning.{Meaning}
use Rattle.py_check_context.specs.Context.{Context}
use Rattle.py_check_context.specs.Members.{Member, Inside, member_in, init_in, init_behind}
use Rattle.py_check_names.specs.Walked.{trees, func_trees}
use Rattle.py_check_names.specs.Outline.{held_by, suite_definitions}
use Rattle.py_check_names.specs.Meanings.{variables, meaning_in}
use Rattle.py_check_classes.specs.declared.header.Header.{Header}
use Rattle.py_check_classes.specs.Names.{classes_in}
use Rattle.py_check_classes.specs.Headers.{module_headers, entry}
use Rattle.py_check_classes.specs.Kept.{AreKept}
use Rattle.py_check_signatures.specs.declared.headers.Owner.{Owner}
use Rattle.py_check_signatures.specs.Headers.{signature_of}
use Rattle.py_check_members.specs.Members.{Owns, own_members, meanings_inside, member_along, init_along, init_behind_along, class_entries, declaring}
use Rattle.py_check_members.specs.Views.{own_of}
use Rattle.py_check_overrides.specs.Overrides.{Own, Verdict, verdicts}
use Rattle.py_check_overrides.specs.Own.{own_row, own_in}
use Rattle.py_check.specs.declared.checking.CheckError.{CheckError}
use Rattle.py_check.specs.declared.checking.CheckError.TheVariants as reason
use Rattle.py_check.specs.declared.tables.Tables.{Tables}
use Rattle.py_check_definitions.specs.declared.outlines.Outlined.{Outlined}
use Rattle.py_check_definitions.specs.Classes.{ModuleClasses}
use Rattle.py_check_definitions.specs.Definitions.{Headed, headed_functions, signatures, inner_definitions_said}
use Rattle.py_check_definitions.specs.Names.{known_in, module_meaning}
use Rattle.py_check_definitions.specs.Owners.{owners}
use Rattle.py_check_definitions.specs.Refused.{refusals, or_refused}
use Rattle.py_check_definitions.specs.Views.{headed_all, meanings_by}
use Rattle.py_check.specs.Module.{MembersKnown, ModuleContext, place_by, members_known, module_owns, module_context, module_classes, context_by, context_at, context_in, inside_by, function_context, plain_signature, module_start, bodies_said, global_sorts, global_variables, functions_by, top_by, statements_said, typed_parts, walked, said, diagnostics, typed}
use Rattle.py_check.specs.Parts.{places_in, members_of, statements_along}
use Rattle.py_check.specs.Tables.{AreTables, tables_context, tables_classes}
use Rattle.py_check.specs.Outcome.{IsBound, Outcome, Decided}
use Rattle.py_check_definitions.proofs.HeldLemmas.{functions_defined}
use Rattle.py_check_definitions.proofs.FunctionLemmas.{all_headed}
use Rattle.py_check.proofs.WalkLemmas.{walk_whole}

-- ---- contexts

-- where names mean what they mean in a scope
pub same_context : (meanings : List ℕ → Meaning) (e : ModuleContext) (method : Option Inside) (inside : Scope) → ((name : List ℕ) → meanings name ≡ meaning_in e.said e.variables inside name) → context_by meanings method e ≡ context_at e method inside
same_context meanings e method inside same = ap (λ m. context_by m method e) (fun_ext same)

-- in no function
pub module_level : (meanings : List ℕ → Meaning) (e : ModuleContext) (inside : Scope) → ((name : List ℕ) → meanings name ≡ meaning_in e.said e.variables inside name) → (w : Context) → w ≡ context_by meanings None e → w ≡ context_in e inside
module_level meanings e inside same w is = is ∙ same_context meanings e None inside same

-- and in one
pub method_context : (meanings : List ℕ → Meaning) (e : ModuleContext) (method : Option Inside) (f : Headed) → ((name : List ℕ) → meanings name ≡ meaning_in e.said e.variables f.inside name) → method ≡ inside_by e.members f f.header.owner → (w : Context) → w ≡ context_by meanings method e → w ≡ function_context e f
method_context meanings e method f same found w is =
    is ∙ ap (λ o. context_by meanings o e) found ∙ same_context meanings e (inside_by e.members f f.header.owner) f.inside same

-- ---- rows of members

pub rows_same : (sigs : List (Option Signature)) (classes : List ClassMembers) → map (own_row sigs) classes ≡ map (own_in sigs) (map own_of classes)
rows_same sigs [] = refl
rows_same sigs (c ∷ more) = ap (λ l. own_row sigs c ∷ l) (rows_same sigs more)

-- ---- places of declarations

pub places_one : {S : Type 0} (old : List (IndexMap (List ℕ) Span S)) (p : IndexMap (List ℕ) Span S) (new : List (IndexMap (List ℕ) Span S)) (place : List ℕ → Option Span) → new ≡ old ++ p ∷ [] → ((name : List ℕ) → get bytes_eq p name ≡ place name) → places_in new ≡ places_in old ++ place ∷ []
places_one old p new place put is =
    ap places_in put ∙ map-append (λ d. get bytes_eq d) old (p ∷ []) ∙ ap (λ (f : List ℕ → Option Span). places_in old ++ f ∷ []) (fun_ext is)

-- ---- lists that are told one behind the other

three_told : (d0 d1 d2 d3 a b c a2 b2 c2 : List Diag) → d1 ≡ d0 ++ a → d2 ≡ d1 ++ b → d3 ≡ d2 ++ c → a ≡ a2 → b ≡ b2 → c ≡ c2 → d3 ≡ d0 ++ ((a2 ++ b2) ++ c2)
three_told d0 d1 d2 d3 a b c a2 b2 c2 first second third x y z =
    third
    ∙ ap (λ l. d2 ++ l) z
    ∙ ap (λ l. l ++ c2) (second ∙ ap (λ l. l ++ b) first ∙ append_assoc d0 a b)
    ∙ append_assoc d0 (a ++ b) c2
    ∙ ap (λ l. d0 ++ ((l ++ b) ++ c2)) x
    ∙ ap (λ l. d0 ++ ((a2 ++ l) ++ c2)) y

-- a module by its parts
abbrev pub module_full : List ClassEntry → List Signature → List Variable → List TypedFunc → TypedSuite → TypedModule
module_full classes signed globals funcs top = record {
  classes = record { classes = classes; signatures = signed };
  globals = globals;
  funcs = funcs;
  top = top;
}

-- ---- what is known of a module before its statements

abbrev pub members_full : (ℕ → List ℕ → Option Member) → (ℕ → Option ℕ) → (ℕ → Option ℕ) → List (List ℕ → Option Span) → MembersKnown
members_full member init next places = record { member = member; init = init; next_init = next; declaring = place_by places }

abbrev pub context_full : (List ℕ → Option Meaning) → List (List ℕ) → List (Option Signature) → List ClassEntry → MembersKnown → ModuleContext
context_full said names signatures classes members = record {
  said = said;
  variables = names;
  signatures = signatures;
  classes = classes;
  members = members;
}

abbrev pub classes_full : List Header → List (Option Signature) → Owns → ModuleClasses
classes_full headers signatures owns = record { headers = headers; verdicts = verdicts headers (map (own_in signatures) owns) }

module _ (m : Suite) (s : Scopes) (bound : IsBound m s) (o : Outlined) (found : (name : List ℕ) → get bytes_eq o.known.said name ≡ known_in m name) (names : o.known.variables.keys ≡ variables s.top) where
  same_names : o.known.variables.keys ≡ variables (module_scope m)
  same_names = names ∙ ap variables bound.top

  same_meanings : meanings_by o.known s.top ≡ module_meaning m
  same_meanings =
      ap (λ (f : List ℕ → Option Meaning). meaning_in f o.known.variables.keys s.top) (fun_ext found)
      ∙ ap (λ (v : List (List ℕ)). meaning_in (known_in m) v s.top) same_names
      ∙ ap (λ (t : Scope). meaning_in (known_in m) (variables (module_scope m)) t) bound.top

  -- its functions with their headers
  pub same_functions : (trees : List FuncTree) → trees ≡ functions m → (whose : List Owner) → whose ≡ owners m → (fs : List Headed) → fs ≡ headed_all (meanings_by o.known s.top) trees whose s.funcs → fs ≡ headed_functions m
  same_functions trees held whose are fs with_headers =
      with_headers
      ∙ ap (λ (w : List ℕ → Meaning). headed_all w trees whose s.funcs) same_meanings
      ∙ ap (λ (l : List FuncTree). headed_all (module_meaning m) l whose s.funcs) held
      ∙ ap (λ (l : List Owner). headed_all (module_meaning m) (functions m) l s.funcs) are
      ∙ ap (headed_all (module_meaning m) (functions m) (owners m)) bound.funcs
      ∙ all_headed (module_meaning m) (module_role m) (functions m) (owners m)

  -- the own members of its classes
  module _ (headers_are : o.classes.headers ≡ module_headers m) (definitions : trees o.definitions.items ≡ suite_definitions m) where
    inner_same : meanings_inside (get bytes_eq o.known.said) o.known.variables.keys s.funcs ≡ meanings_inside (known_in m) (variables (module_scope m)) (map (function_scope (module_role m)) (functions m))
    inner_same =
        ap (λ (f : List ℕ → Option Meaning). meanings_inside f o.known.variables.keys s.funcs) (fun_ext found)
        ∙ ap (λ (v : List (List ℕ)). meanings_inside (known_in m) v s.funcs) same_names
        ∙ ap (meanings_inside (known_in m) (variables (module_scope m))) bound.funcs

    owns_same : (owns : Owns) → owns ≡ own_members o.classes.headers (meanings_by o.known s.top) (meanings_inside (get bytes_eq o.known.said) o.known.variables.keys s.funcs) (trees o.definitions.items) → owns ≡ module_owns m
    owns_same owns are =
        are
        ∙ ap (λ (h : List Header). own_members h (meanings_by o.known s.top) (meanings_inside (get bytes_eq o.known.said) o.known.variables.keys s.funcs) (trees o.definitions.items)) headers_are
        ∙ ap (λ (w : List ℕ → Meaning). own_members (module_headers m) w (meanings_inside (get bytes_eq o.known.said) o.known.variables.keys s.funcs) (trees o.definitions.items)) same_meanings
        ∙ ap (λ (w : ℕ → List ℕ → Meaning). own_members (module_headers m) (module_meaning m) w (trees o.definitions.items)) inner_same
        ∙ ap (own_members (module_headers m) (module_meaning m) (meanings_inside (known_in m) (variables (module_scope m)) (map (function_scope (module_role m)) (functions m)))) definitions

    -- THE TABLES
    pub are_tables : (t : Tables) (fs : List Headed) → fs ≡ headed_functions m → func_trees o.functions.items ≡ functions m → AreKept (map entry o.classes.headers) o.classes.orders
        → map (option_map signature) t.signatures.items ≡ map (λ f. signature_of f.header) fs
        → map signature t.classes.sigs ≡ map (λ f. plain_signature (signature_of f.header)) fs
        → map own_of t.members ≡ own_members o.classes.headers (meanings_by o.known s.top) (meanings_inside (get bytes_eq o.known.said) o.known.variables.keys s.funcs) (trees o.definitions.items)
        → ((n : ℕ) (name : List ℕ) → member_in t.members n name ≡ member_along (map own_of t.members) o.classes.headers n name)
        → ((n : ℕ) → init_in t.members n ≡ init_along (map own_of t.members) o.classes.headers n)
        → ((n : ℕ) → init_behind t.members n ≡ init_behind_along (map own_of t.members) o.classes.headers n)
        → places_in t.declaring ≡ map (λ c. declaring c.body) (classes_in (trees o.definitions.items))
        → map class_entry t.classes.list ≡ class_entries o.classes.headers (trees o.definitions.items) (map own_of t.members)
        → AreTables m o fs t
    are_tables t fs whole held kept signed plain own member init behind places classes =
        let owns : Owns = map own_of t.members in
        let owns_are : owns ≡ module_owns m = owns_same owns own in
        let signatures_are : map (option_map signature) t.signatures.items ≡ signatures m = signed ∙ ap (map (λ f. signature_of f.header)) whole in
        let members_are : members_of t.members t.declaring ≡ members_known (module_headers m) (module_owns m) (map (λ c. declaring c.body) (classes_in (suite_definitions m))) =
        ap (λ (f : ℕ → List ℕ → Option Member). members_full f (init_in t.members) (init_behind t.members) (places_in t.declaring)) (fun_ext (λ n. fun_ext (member n)))
        ∙ ap (λ (f : ℕ → Option ℕ). members_full (member_along owns o.classes.headers) f (init_behind t.members) (places_in t.declaring)) (fun_ext init)
        ∙ ap (λ (f : ℕ → Option ℕ). members_full (member_along owns o.classes.headers) (init_along owns o.classes.headers) f (places_in t.declaring)) (fun_ext behind)
        ∙ ap (members_known o.classes.headers owns) places
        ∙ ap (λ (ds : List StmtTree). members_known o.classes.headers owns (map (λ c. declaring c.body) (classes_in ds))) definitions
        ∙ ap (λ (h : List Header). members_known h owns (map (λ c. declaring c.body) (classes_in (suite_definitions m)))) headers_are
        ∙ ap (λ (l : Owns). members_known (module_headers m) l (map (λ c. declaring c.body) (classes_in (suite_definitions m)))) owns_are in
        let classes_are : map class_entry t.classes.list ≡ class_entries (module_headers m) (suite_definitions m) (module_owns m) =
        classes
        ∙ ap (λ (h : List Header). class_entries h (trees o.definitions.items) owns) headers_are
        ∙ ap (λ (ds : List StmtTree). class_entries (module_headers m) ds owns) definitions
        ∙ ap (class_entries (module_headers m) (suite_definitions m)) owns_are in
        record {
          headed = whole;
          context =
              ap (λ (f : List ℕ → Option Meaning). context_full f o.known.variables.keys (map (option_map signature) t.signatures.items) (map class_entry t.classes.list) (members_of t.members t.declaring)) (fun_ext found)
              ∙ ap (λ (v : List (List ℕ)). context_full (known_in m) v (map (option_map signature) t.signatures.items) (map class_entry t.classes.list) (members_of t.members t.declaring)) same_names
              ∙ ap (λ (l : List (Option Signature)). context_full (known_in m) (variables (module_scope m)) l (map class_entry t.classes.list) (members_of t.members t.declaring)) signatures_are
              ∙ ap (λ (l : List ClassEntry). context_full (known_in m) (variables (module_scope m)) (signatures m) l (members_of t.members t.declaring)) classes_are
              ∙ ap (context_full (known_in m) (variables (module_scope m)) (signatures m) (class_entries (module_headers m) (suite_definitions m) (module_owns m))) members_are;
          classes =
              ap (λ (h : List Header). classes_full h (map (option_map signature) t.signatures.items) owns) headers_are
              ∙ ap (λ (l : List (Option Signature)). classes_full (module_headers m) l owns) signatures_are
              ∙ ap (classes_full (module_headers m) (signatures m)) owns_are;
          signatures = plain;
          owns = owns_are;
          headers = headers_are;
          definitions = definitions;
          held = held;
          kept = kept;
        }

-- ---- tables that are lent

-- as slices of them
pub lent_context : (o : Outlined) (t : Tables) (sigs : List (Option Sig)) → sigs ≡ t.signatures.items → (members : List ClassMembers) → members ≡ t.members → (places : List (List ℕ → Option Span)) → places ≡ places_in t.declaring
    → context_full (get bytes_eq o.known.said) o.known.variables.keys (map (option_map signature) sigs) (map class_entry t.classes.list) (members_full (member_in members) (init_in members) (init_behind members) places) ≡ tables_context o t
lent_context o t sigs a members b places c =
    ap (λ (l : List (Option Sig)). context_full (get bytes_eq o.known.said) o.known.variables.keys (map (option_map signature) l) (map class_entry t.classes.list) (members_full (member_in members) (init_in members) (init_behind members) places)) a
    ∙ ap (λ (l : List ClassMembers). context_full (get bytes_eq o.known.said) o.known.variables.keys (map (option_map signature) t.signatures.items) (map class_entry t.classes.list) (members_full (member_in l) (init_in l) (init_behind l) places)) b
    ∙ ap (λ (l : List (List ℕ → Option Span)). context_full (get bytes_eq o.known.said) o.known.variables.keys (map (option_map signature) t.signatures.items) (map class_entry t.classes.list) (members_full (member_in t.members) (init_in t.members) (init_behind t.members) l)) c

-- and what comes of the test of their members
abbrev pub seen_with : List Header → List Verdict → ModuleClasses
seen_with headers found = record { headers = headers; verdicts = found }

pub lent_classes : (o : Outlined) (t : Tables) (hs : List Header) → hs ≡ o.classes.headers → (sigs : List (Option Sig)) → sigs ≡ t.signatures.items → (members : List ClassMembers) → members ≡ t.members → (found : List Verdict) (hs2 : List Header) → hs2 ≡ hs → (rows rows2 : List (List Own)) → rows2 ≡ rows → rows ≡ map (own_row (map (option_map signature) sigs)) members → found ≡ verdicts hs2 rows2
    → seen_with hs found ≡ tables_classes o t
lent_classes o t hs h sigs a members b found hs2 same rows rows2 lent made is =
    ap (seen_with hs) (is ∙ ap (λ (l : List Header). verdicts l rows2) same ∙ ap (verdicts hs) (lent ∙ made ∙ rows_same (map (option_map signature) sigs) members))
    ∙ ap (λ (l : List (Option Sig)). classes_full hs (map (option_map signature) l) (map own_of members)) a
    ∙ ap (λ (l : List ClassMembers). classes_full hs (map (option_map signature) t.signatures.items) (map own_of l)) b
    ∙ ap (λ (l : List Header). classes_full l (map (option_map signature) t.signatures.items) (map own_of t.members)) h

-- ---- a module by its tables

module _ (m : Suite) (s : Scopes) (bound : IsBound m s) (o : Outlined) (fs : List Headed) (t : Tables) (known : AreTables m o fs t) where
  -- what is said of statements
  same_statements : statements_along (tables_classes o t) (tables_context o t) s.top s.funcs fs m ≡ statements_said (module_context m) (module_scope m) (headed_functions m) m (module_role m) (module_classes m)
  same_statements =
      let roles = module_role m in
      let c = context_in (module_context m) (module_scope m) in
      ap (λ (w : ModuleClasses). statements_along w (tables_context o t) s.top s.funcs fs m) known.classes
      ∙ ap (λ (e : ModuleContext). statements_along (module_classes m) e s.top s.funcs fs m) known.context
      ∙ ap (λ (x : Scope). statements_along (module_classes m) (module_context m) x s.funcs fs m) bound.top
      ∙ ap (λ (l : List Headed). statements_along (module_classes m) (module_context m) (module_scope m) s.funcs l m) known.headed
      ∙ ap (λ (l : List Diag). l ++ bodies_said (module_context m) (global_sorts (module_context m) (module_scope m) (headed_functions m) m) (headed_functions m))
      (walk_whole roles (module_classes m) c (module_start c (module_context m).variables m) [] [] (λ q. refl) 0 0 refl m [] s.funcs
      (bound.funcs ∙ ap (map (function_scope roles)) (functions_defined m) ∙ sym (append-nil (map (function_scope roles) (flat_map held_by (suite_definitions m))))))

  -- THE TYPED TREE
  pub same_tree : (entries : List ClassEntry) (signed : List Signature) (globals : List Variable) (funcs : List TypedFunc) (top : TypedSuite)
      → entries ≡ (tables_context o t).classes → signed ≡ map (λ f. plain_signature (signature_of f.header)) fs
      → globals ≡ global_variables (tables_context o t) s.top fs m → funcs ≡ functions_by (tables_context o t) s.top fs m → top ≡ top_by (tables_context o t) s.top fs m
      → module_full entries signed globals funcs top ≡ typed m
  same_tree entries signed globals funcs top a b c d e =
      ap (λ (l : List ClassEntry). module_full l signed globals funcs top) a
      ∙ ap (λ (l : List Signature). module_full (tables_context o t).classes l globals funcs top) b
      ∙ ap (λ (l : List Variable). module_full (tables_context o t).classes (map (λ f. plain_signature (signature_of f.header)) fs) l funcs top) c
      ∙ ap (λ (l : List TypedFunc). module_full (tables_context o t).classes (map (λ f. plain_signature (signature_of f.header)) fs) (global_variables (tables_context o t) s.top fs m) l top) d
      ∙ ap (module_full (tables_context o t).classes (map (λ f. plain_signature (signature_of f.header)) fs) (global_variables (tables_context o t) s.top fs m) (functions_by (tables_context o t) s.top fs m)) e
      ∙ ap (λ (x : ModuleContext). typed_parts x s.top fs m) known.context
      ∙ ap (λ (x : Scope). typed_parts (module_context m) x fs m) bound.top
      ∙ ap (λ (l : List Headed). typed_parts (module_context m) (module_scope m) l m) known.headed

  -- ALL THAT IS SAID
  pub all_said : (trees_held : List FuncTree) → trees_held ≡ functions m → (headers : List Header) → headers ≡ module_headers m → (owns : Owns) → owns ≡ module_owns m → (ds : List StmtTree) → ds ≡ suite_definitions m
      → (d0 d1 d2 d3 d4 : List Diag) → d0 ≡ [] → d1 ≡ d0 ++ statements_along (tables_classes o t) (tables_context o t) s.top s.funcs fs m → d2 ≡ d1 ++ flat_map inner_definitions_said trees_held → d3 ≡ d2 ++ s.faults → d4 ≡ or_refused d3 (refusals headers owns 0 ds)
      → d4 ≡ said m
  all_said trees_held held headers hs owns ws ds is d0 d1 d2 d3 d4 none first second third last =
      let walk : d3 ≡ walked m =
      three_told d0 d1 d2 d3 _ _ _ (statements_said (module_context m) (module_scope m) (headed_functions m) m (module_role m) (module_classes m)) (flat_map inner_definitions_said (functions m)) (faults m) first second third
      same_statements (ap (flat_map inner_definitions_said) held) bound.faults
      ∙ ap (λ l. l ++ walked m) none in
      last
      ∙ ap (λ l. or_refused l (refusals headers owns 0 ds)) walk
      ∙ ap (λ (h : List Header). or_refused (walked m) (refusals h owns 0 ds)) hs
      ∙ ap (λ (w : Owns). or_refused (walked m) (refusals (module_headers m) w 0 ds)) ws
      ∙ ap (λ (l : List StmtTree). or_refused (walked m) (refusals (module_headers m) (module_owns m) 0 l)) is

-- as many scopes as functions
pub one_to_one : (m : Suite) (s : Scopes) → IsBound m s → (found : List (Bor Func)) → func_trees found ≡ functions m → length found ≡ length s.funcs
one_to_one m s bound found held =
    sym (length-map found (λ (f : Bor Func). func_tree f.now))
    ∙ ap length held
    ∙ sym (length-map (functions m) (function_scope (module_role m)))
    ∙ sym (ap length bound.funcs)

-- as many functions as definitions hold
pub few_held : (m : Suite) (found : List (Bor Func)) → func_trees found ≡ functions m → (ds : List StmtTree) → ds ≡ suite_definitions m → length found < 2 ^ 64 → length (flat_map held_by ds) < 2 ^ 64
few_held m found held ds are few =
    let same : length found ≡ length (flat_map held_by ds) =
    sym (length-map found (λ (f : Bor Func). func_tree f.now))
    ∙ ap length (held ∙ functions_defined m)
    ∙ sym (ap (λ l. length (flat_map held_by l)) are) in
    subst (λ n. n < 2 ^ 64) same few

-- ---- the answer

answer_at : (m : Suite) (all : List Diag) (tree : TypedModule) → all ≡ diagnostics m → tree ≡ typed m → (r : Result Checked CheckError) → Decided all tree r → Outcome m r
answer_at m all tree same made (Ok c) h = (sym same ∙ h.0, h.1 ∙ made)
answer_at m all tree same made (Err (reason.Diags ds)) h = (h.0 ∙ same, λ none. h.1 (same ∙ none))
answer_at m all tree same made (Err reason.Memory) h = tt

pub answer : (m m2 : Suite) → m2 ≡ m → (all : List Diag) → all ≡ said m2 → (tree : TypedModule) → tree ≡ typed m2 → (r : Result Checked CheckError) → Decided (by_place all) tree r → Outcome m r
answer m m2 same all is tree made r h = answer_at m (by_place all) tree (ap by_place is ∙ ap diagnostics same) (made ∙ ap typed same) r h
