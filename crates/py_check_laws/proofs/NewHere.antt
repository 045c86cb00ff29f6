-- Where nothing is said of a module, each function that is no method and each class has a new name.
use Rattle.std.proofs.Common.{◌≡◌, ◌∙◌, ℕ, ◌+◌, Bool, true, false, List, [], ◌∷◌, ◌++◌, length, slice_get, Option, Some, None, refl, ap, sym, subst, arith, length-append, if◌then◌else◌}
use Rattle.std.proofs.lemmas.Grind.{flat_map-append}
use Rattle.std.specs.List.{list_any, flat_map}
use Rattle.std.specs.Option.{option_or}
use Rattle.py_syntax.specs.Statements as s
use Rattle.py_syntax.specs.Statements.{StmtTree, Suite, FuncTree, ClassTree}
use Rattle.py_binder.specs.Scope.{Roles, module_role}
use Rattle.py_check_context.specs.declared.scope.Meaning.{Meaning}
use Rattle.py_check_annotations.specs.Names.{is_untyped, any_unknown}
use Rattle.py_check_names.specs.Outline.{held_by, suite_definitions}
use Rattle.py_check_signatures.specs.declared.headers.Owner.TheVariants as owner
use Rattle.py_check_signatures.specs.Headers.{header_said}
use Rattle.py_check_signatures.specs.Definitions as def
use Rattle.py_check_classes.specs.declared.header.Header.{Header}
use Rattle.py_check_classes.specs.Names.{class_in, classes_in, said_of_names, is_new, are_decorators}
use Rattle.py_check_classes.specs.Headers.{has_type, is_untyped as is_base_untyped, early_fault, order_fault, bases_named, shape, without_type, settled, header, headers_behind, module_headers}
use Rattle.py_check_definitions.specs.Definitions.{names_given}
use Rattle.py_check.specs.Module.{said}
use Rattle.py_check_expressions_laws.proofs.Known.{known_left, known_right}
use Rattle.py_check_expressions_laws.proofs.Loud.{none_before, none_behind}
use Rattle.py_check_laws.proofs.NewNames.{AllNew, AllTyped}
use Rattle.py_check_laws.proofs.KnownParts.{AreKnown, annotation_reads}
use Rattle.py_check_laws.proofs.Plain.{plain_said, all_plain_said}
use Rattle.py_check_laws.proofs.Signed.{fresh_function}
use Rattle.py_check_laws.proofs.Heads.{kept, at_end, no_early, settled_none}
use Rattle.py_check_laws.proofs.Quieted as quiet

module _ (said : List ℕ → Option Meaning) where
  name_right : (before : List Header) (new marked : Bool) (names : List (Option ℕ)) (c : ClassTree) → early_fault before new marked names (shape said c) c.body ≡ None → new ≡ true
  name_right before false marked names c h = absurd (cc)
  name_right before true marked names c h = refl

  new_of_typed : (before : List Header) (c : ClassTree) → has_type (Some (header said before c)) ≡ true → is_new said (length before) c.name ≡ true
  new_of_typed before c h = by (list_any (is_base_untyped before) (bases_named said c)) h
    where
      by : (b : Bool) → has_type (Some (if b then without_type (shape said c).is_trait None else settled (shape said c) (option_or (early_fault before (is_new said (length before) c.name) (are_decorators said c.marks) (bases_named said c) (shape said c) c.body) (order_fault before (shape said c))))) ≡ true
          → is_new said (length before) c.name ≡ true
      by true q = absurd (cc)
      by false q =
          name_right before (is_new said (length before) c.name) (are_decorators said c.marks) (bases_named said c) c
          (no_early said (early_fault before (is_new said (length before) c.name) (are_decorators said c.marks) (bases_named said c) (shape said c) c.body) (order_fault before (shape said c)) (settled_none said c _ q))

no_more : (c : ℕ) → c + 0 ≡ c
no_more c = omega arith

module _ (roles : Roles) (headers : List Header) (meanings : List ℕ → Meaning) (all : (x : List ℕ) → is_untyped (meanings x) ≡ false) (said : List ℕ → Option Meaning) where
  all_new : (earlier : List (List ℕ)) (ds : List StmtTree) (before : List Header) → AllTyped (headers_behind said before (classes_in ds)) (length before) ds → all_plain_said roles headers meanings earlier (length before) ds ≡ []
      → AreKnown meanings (flat_map annotation_reads (flat_map held_by ds)) → flat_map (header_said meanings) (flat_map held_by ds) ≡ [] → AllNew said earlier (length before) ds
  all_new earlier [] before t h u k = tt
  all_new earlier (x ∷ ds) before t h u k =
      let rest = all_plain_said roles headers meanings (earlier ++ names_given x) (length before + length (class_in x)) ds in
      let known = sym (ap (any_unknown meanings) (flat_map-append annotation_reads (held_by x) (flat_map held_by ds))) ∙ u in
      let quiet = sym (flat_map-append (header_said meanings) (held_by x) (flat_map held_by ds)) ∙ k in
      one earlier x ds before t (none_before (plain_said roles headers meanings earlier (length before) x) rest h) (none_behind (plain_said roles headers meanings earlier (length before) x) rest h)
      (known_left meanings (flat_map annotation_reads (held_by x)) (flat_map annotation_reads (flat_map held_by ds)) known) (none_before (flat_map (header_said meanings) (held_by x)) (flat_map (header_said meanings) (flat_map held_by ds)) quiet)
      (λ next g p. all_new (earlier ++ names_given x) ds next g p (known_right meanings (flat_map annotation_reads (held_by x)) (flat_map annotation_reads (flat_map held_by ds)) known) (none_behind (flat_map (header_said meanings) (held_by x)) (flat_map (header_said meanings) (flat_map held_by ds)) quiet))
    where
      one : (earlier : List (List ℕ)) (x : StmtTree) (ds : List StmtTree) (before : List Header) → AllTyped (headers_behind said before (classes_in (x ∷ ds))) (length before) (x ∷ ds) → plain_said roles headers meanings earlier (length before) x ≡ []
          → all_plain_said roles headers meanings (earlier ++ names_given x) (length before + length (class_in x)) ds ≡ [] → AreKnown meanings (flat_map annotation_reads (held_by x)) → flat_map (header_said meanings) (held_by x) ≡ []
          → ((next : List Header) → AllTyped (headers_behind said next (classes_in ds)) (length next) ds → all_plain_said roles headers meanings (earlier ++ names_given x) (length next) ds ≡ [] → AllNew said (earlier ++ names_given x) (length next) ds)
          → AllNew said earlier (length before) (x ∷ ds)
      one earlier (s.at (s.Def name params ret body marks) span) ds before t h p u k more =
          let f : FuncTree = record { name = name; params = params; ret = ret; body = body; marks = marks } in
          let here = fresh_function meanings all roles headers (f, owner.Module) (span, def.is_new earlier name, h) (known_left meanings (annotation_reads f) [] u) (none_before (header_said meanings f) [] k) in (
            here,
            subst (λ i. AllNew said (earlier ++ name ∷ []) i ds) (sym (no_more (length before)))
                (more before (subst (λ i. AllTyped (headers_behind said before (classes_in ds)) i ds) (no_more (length before)) t.1) (sym (ap (λ i. all_plain_said roles headers meanings (earlier ++ name ∷ []) i ds) (no_more (length before))) ∙ p)),
          )
      one earlier (s.at (s.ClassDef name bases body marks) span) ds before t h p u k more =
          let c : ClassTree = record { name = name; bases = bases; body = body; marks = marks } in
          let head = header said before c in
          let many = length-append before (head ∷ []) in
          let here : slice_get (headers_behind said (before ++ head ∷ []) (classes_in ds)) (length before) ≡ Some head = kept said (classes_in ds) (before ++ head ∷ []) (length before) (omega (arith, many)) ∙ at_end said before head in (
            new_of_typed said before c (sym (ap has_type here) ∙ t.0),
            subst (λ i. AllNew said (earlier ++ name ∷ []) i ds) many
                (more (before ++ head ∷ []) (subst (λ i. AllTyped (headers_behind said (before ++ head ∷ []) (classes_in ds)) i ds) (sym many) t.1) (ap (λ i. all_plain_said roles headers meanings (earlier ++ name ∷ []) i ds) many ∙ p)),
          )
      one earlier x ds before t h p u k more = (
        tt,
        subst (λ i. AllNew said (earlier ++ names_given x) i ds) (sym (no_more (length before)))
            (more before (subst (λ i. AllTyped (headers_behind said before (classes_in ds)) i ds) (no_more (length before)) t.1) (sym (ap (λ i. all_plain_said roles headers meanings (earlier ++ names_given x) i ds) (no_more (length before))) ∙ p)),
      )

-- THE NAMES of a module are new
pub all_new_here : (m : Suite) (nothing : said m ≡ []) → AllNew (said_of_names (suite_definitions m)) [] 0 (suite_definitions m)
all_new_here m nothing =
    all_new (module_role m) (module_headers m) (quiet.meant m nothing) (quiet.typed_names m nothing) (said_of_names (suite_definitions m)) [] (suite_definitions m) [] (quiet.typed_classes m nothing) (quiet.definitions m nothing) (quiet.definitions_known m nothing)
    (quiet.quiet_walk m nothing).plain.headers
