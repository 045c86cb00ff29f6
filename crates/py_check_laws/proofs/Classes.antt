-- The classes of a module of which nothing is said: each is whole and stands in the typed module, with its members and its functions.
use Rattle.std.proofs.Common.{◌≡◌, ℕ, zero, suc, ◌+◌, ◌<◌, Bool, true, false, ◌&&◌, ◌||◌, cond, List, [], ◌∷◌, ◌++◌, map, length, Option, Some, None, refl, ap, sym, ◌∙◌, subst, arith, if◌then◌else◌, ◌⊎◌, inl, inr}
use Rattle.std.proofs.lemmas.Bool.{and_from, and_parts}
use Rattle.std.proofs.lemmas.List.Folds.{list_all-append}
use Rattle.std.proofs.lemmas.Option.{same_Some, slice_get-map}
use Rattle.std.specs.Prelude.{slice_get, is_some, is_none, codes}
use Rattle.std.specs.List.{list_all, flat_map, zip}
use Rattle.std.specs.Map.{lookup}
use Rattle.std.specs.Option.{option_map}
use Rattle.std.specs.Str.{bytes_eq}
use Rattle.py_syntax.specs.declared.token.Span.{Span}
use Rattle.py_syntax.specs.Statements as s
use Rattle.py_syntax.specs.Statements.{StmtTree, Suite, FuncTree, ClassTree}
use Rattle.py_binder.specs.Scope.{Roles, module_scope, module_role, function_scope, functions}
use Rattle.py_typed.specs.Sorts.{Sort}
use Rattle.py_typed.specs.Classes.{ClassEntry, Signature}
use Rattle.py_typed.specs.Statements.{TypedFunc, TypedModule}
use Rattle.py_typed.specs.WellTypedExpr.{is_value_type}
use Rattle.py_typed.specs.WellTypedModule.{names_of}
use Rattle.py_check_context.specs.declared.scope.Meaning.{Meaning}
use Rattle.py_check_context.specs.Context.{Context, VarSort, some_signature}
use Rattle.py_check_context.specs.Members.{Member, attribute, untyped, unknown, method}
use Rattle.py_check_names.specs.Outline.{held_by, methods_in, suite_definitions}
use Rattle.py_check_names.specs.Meanings.{variables}
use Rattle.py_check_signatures.specs.declared.headers.Owner.{Owner}
use Rattle.py_check_signatures.specs.declared.headers.Owner.TheVariants as owner
use Rattle.py_check_signatures.specs.Headers.{HeaderSorts, signature_of, header}
use Rattle.py_check_signatures.specs.Definitions.{is_new, own_count, def_said}
use Rattle.py_check_classes.specs.declared.header.Header.{Header}
use Rattle.py_check_classes.specs.Names.{class_in, classes_in, said_of_names}
use Rattle.py_check_classes.specs.Headers.{has_type, module_headers}
use Rattle.py_check_members.specs.Deeds.{taken_name}
use Rattle.py_check_members.specs.Bodies.{body_said}
use Rattle.py_check_members.specs.Members.{Owns, own_at, own_member, meanings_inside, member_along, init_along, init_behind_along, ClassText, class_texts}
use Rattle.py_check_overrides.specs.Overrides.{Clash, fails, verdicts}
use Rattle.py_check_overrides.specs.Own.{own_in}
use Rattle.py_check_definitions.specs.Classes.{ModuleClasses}
use Rattle.py_check_definitions.specs.Definitions.{Headed, headed, with_taken, names_given, headed_functions, signatures}
use Rattle.py_check_definitions.specs.Names.{known_in, module_meaning}
use Rattle.py_check_definitions.specs.Owners.{untyped_owner, class_owner, owners_in, owners_from, owners}
use Rattle.py_check_definitions.specs.Refused.{is_whole_member, are_whole}
use Rattle.py_check.specs.Module.{ModuleContext, plain_signature, class_of, function_context, typed_function, global_sorts, module_owns, module_context, module_classes, method_inside, inside_by, said, typed}
use Rattle.py_check_definitions.proofs.HeldLemmas.{functions_defined}
use Rattle.py_check_expressions_laws.specs.Laws.{is_voiceless_member, is_voiceless_init, is_voiceless_inside}
use Rattle.py_check_expressions_laws.proofs.Loud.{none_before, none_behind}
use Rattle.py_check_members_laws.specs.Laws.{is_name_new, with_name, are_defs_new}
use Rattle.py_check_members_laws.proofs.Rows.{none_more, zero_more, at_either, Behind}
use Rattle.py_check_members_laws.proofs.Places.{untyped_other, trees_of_texts}
use Rattle.py_check_members_laws.proofs.Members.{own_there}
use Rattle.py_check_members_laws.proofs.Entries.{as_many_headers}
use Rattle.py_check_members_laws.proofs.Known.{member_found, own_function, init_found, behind_found, IsMethodBelow}
use Rattle.py_check_members_laws.proofs.Formed.{HasSignature, HasClasses, IsFunctionOf, IsOwned}
use Rattle.py_check_laws.proofs.Given.{some_of}
use Rattle.py_check_laws.proofs.Plain.{plain_member_said, plain_members_said, plain_said, all_plain_said, IsPlainClass, ClassOf, AllClasses}
use Rattle.py_check_laws.proofs.Signed.{owned_by, owned_then, is_owned, AllSigned}
use Rattle.py_check_laws.proofs.Quieted.{top, quiet_walk, definitions, pairs, owners_many, typed_names, all_functions, signs}
use Rattle.py_check_annotations.specs.Names.{is_untyped}
use Rattle.py_check_classes.specs.Bodies.{defined_name}
use Rattle.py_check_messages.specs.Messages.{already_defined}
use Rattle.py_check_messages.specs.Seen.{diag}

-- ---- rows

there_at : {A : Type 0} (xs : List A) (i : ℕ) → i < length xs → (x : A) × (slice_get xs i ≡ Some x)
there_at [] i h = absurd (omega (arith, h))
there_at (x ∷ xs) zero h = (x, refl)
there_at (x ∷ xs) (suc i) h = there_at xs i (omega (arith, h))

zip_there : {A B : Type 0} (xs : List A) (ys : List B) (i : ℕ) (x : A) → length xs ≡ length ys → slice_get xs i ≡ Some x → (y : B) × (slice_get ys i ≡ Some y) × (slice_get (zip xs ys) i ≡ Some (x, y))
zip_there [] ys i x l h = absurd (cc)
zip_there (a ∷ xs) [] i x l h = absurd (cc)
zip_there (a ∷ xs) (b ∷ ys) zero x l h = (b, refl, ap (λ z. Some (z, b)) (same_Some a x h))
zip_there (a ∷ xs) (b ∷ ys) (suc i) x l h = zip_there xs ys i x (less (length xs) (length ys) l) h
  where
    less : (k n : ℕ) → suc k ≡ suc n → k ≡ n
    less k n e = cc

-- and the other way
pub zip_second_there : {A B : Type 0} (xs : List A) (ys : List B) (i : ℕ) (y : B) → length xs ≡ length ys → slice_get ys i ≡ Some y → (x : A) × (slice_get (zip xs ys) i ≡ Some (x, y))
zip_second_there [] [] i y l h = absurd (cc)
zip_second_there [] (b ∷ ys) i y l h = absurd (cc)
zip_second_there (a ∷ xs) [] i y l h = absurd (cc)
zip_second_there (a ∷ xs) (b ∷ ys) zero y l h = (a, ap (λ z. Some (a, z)) (same_Some b y h))
zip_second_there (a ∷ xs) (b ∷ ys) (suc i) y l h = zip_second_there xs ys i y (less (length xs) (length ys) l) h
  where
    less : (k n : ℕ) → suc k ≡ suc n → k ≡ n
    less k n e = cc

of_zip : {A B : Type 0} (xs : List A) (ys : List B) (i : ℕ) (p : A × B) → slice_get (zip xs ys) i ≡ Some p → (slice_get xs i ≡ Some p.0) × (slice_get ys i ≡ Some p.1)
of_zip [] ys i p h = absurd (cc)
of_zip (a ∷ xs) [] i p h = absurd (cc)
of_zip (a ∷ xs) (b ∷ ys) zero p h = let e = same_Some (a, b) p h in (ap (λ z. Some z.0) e, ap (λ z. Some z.1) e)
of_zip (a ∷ xs) (b ∷ ys) (suc i) p h = of_zip xs ys i p h

of_map : {A B : Type 0} (f : A → B) (xs : List A) (i : ℕ) (y : B) → slice_get (map f xs) i ≡ Some y → (x : A) × (slice_get xs i ≡ Some x) × (f x ≡ y)
of_map f [] i y h = absurd (cc)
of_map f (x ∷ xs) zero y h = (x, refl, same_Some (f x) y h)
of_map f (x ∷ xs) (suc i) y h = of_map f xs i y h

passes_there : {A : Type 0} (test : A → Bool) (xs : List A) (i : ℕ) (x : A) → list_all test xs ≡ true → slice_get xs i ≡ Some x → test x ≡ true
passes_there test [] i x h q = absurd (cc)
passes_there test (y ∷ xs) zero x h q = ap test (sym (same_Some y x q)) ∙ (and_parts (test y) (list_all test xs) h).0
passes_there test (y ∷ xs) (suc i) x h q = passes_there test xs i x (and_parts (test y) (list_all test xs) h).1 q

found_passes : (test : Member → Bool) (row : List (List ℕ × Member)) (a : List ℕ) (x : Member) → list_all (λ p. test p.1) row ≡ true → lookup (bytes_eq a) row ≡ Some x → test x ≡ true
found_passes test [] a x h q = absurd (cc)
found_passes test (p ∷ row) a x h q =
    let both = and_parts (test p.1) (list_all (λ (r : List ℕ × Member). test r.1) row) h in by (bytes_eq a p.0) both.0 q (found_passes test row a x both.1)
  where
    by : (b : Bool) → test p.1 ≡ true → cond b (Some p.1) (lookup (bytes_eq a) row) ≡ Some x → (lookup (bytes_eq a) row ≡ Some x → test x ≡ true) → test x ≡ true
    by true here r next = ap test (sym (same_Some p.1 x r)) ∙ here
    by false here r next = next r

-- ---- each class by its number

module _ (roles : Roles) (classes : ModuleClasses) (owns : List (List (List ℕ × Member))) (c : Context) where
  pub record PlainAt (n : ℕ) (x : ClassTree) : Type 0 where
    pub span : Span
    pub is : IsPlainClass roles classes owns c n span x

  one_at : (n : ℕ) (d : StmtTree) (i : ℕ) (x : ClassTree) → ClassOf roles classes owns c n d → slice_get (class_in d) i ≡ Some x → PlainAt (n + i) x
  one_at n (s.at (s.ClassDef name bases body marks) span) zero x h q =
      let tree : ClassTree = record { name = name; bases = bases; body = body; marks = marks } in
      record { span = span; is = subst (λ k. IsPlainClass roles classes owns c k span x) (sym (zero_more n)) (subst (IsPlainClass roles classes owns c n span) (same_Some tree x q) h) }
  one_at n (s.at (s.ClassDef name bases body marks) span) (suc i) x h q = absurd (cc)
  one_at n _ i x h q = absurd (cc)

  class_at : (n : ℕ) (ds : List StmtTree) → AllClasses roles classes owns c n ds → (i : ℕ) (x : ClassTree) → slice_get (classes_in ds) i ≡ Some x → PlainAt (n + i) x
  class_at n [] a i x q = absurd (cc)
  class_at n (d ∷ more) a i x q = either (class_at (n + length (class_in d)) more a.rest) (at_either (class_in d) (classes_in more) i x q)
    where
      either : ((k : ℕ) (y : ClassTree) → slice_get (classes_in more) k ≡ Some y → PlainAt (n + length (class_in d) + k) y) → (slice_get (class_in d) i ≡ Some x) ⊎ Behind (class_in d) (classes_in more) i x → PlainAt (n + i) x
      either next (inl r) = one_at n d i x a.here r
      either next (inr b) = subst (λ k. PlainAt k x) (moved (length (class_in d)) b.rest b.place) (next b.rest x b.there)
        where
          moved : (l k : ℕ) → i ≡ l + k → n + l + k ≡ n + i
          moved l k e = omega (arith, e)

-- ---- owners

typed_owner : (headers : List Header) (n c : ℕ) (b : Bool) → has_type (slice_get headers n) ≡ b → (if b then owner.Class (Some n) else untyped_owner headers n) ≡ owner.Class (Some c) → has_type (slice_get headers c) ≡ true
typed_owner headers n c true e h = let same : n ≡ c = cc in subst (λ k. has_type (slice_get headers k) ≡ true) same e
typed_owner headers n c false e h = absurd (untyped_other headers n c h)

all_one : {A B : Type 0} (xs : List A) (b : B) (i : ℕ) (y : B) → slice_get (map (λ x. b) xs) i ≡ Some y → b ≡ y
all_one [] b i y h = absurd (cc)
all_one (x ∷ xs) b zero y h = same_Some b y h
all_one (x ∷ xs) b (suc i) y h = all_one xs b i y h

-- the class of an owner has a type
pub class_of_owner : (headers : List Header) (n : ℕ) (ds : List StmtTree) (i : ℕ) (o : Option ℕ) → slice_get (owners_from headers n ds) i ≡ Some (owner.Class o) → (c : ℕ) → o ≡ Some c → has_type (slice_get headers c) ≡ true
class_of_owner headers n [] i o h c q = absurd (cc)
class_of_owner headers n (x ∷ ds) i o h c q = by (at_either (owners_in headers n x) (owners_from headers (n + length (class_in x)) ds) i (owner.Class o) h) (λ k r. class_of_owner headers (n + length (class_in x)) ds k o r c q)
  where
    here : (x : StmtTree) → slice_get (owners_in headers n x) i ≡ Some (owner.Class o) → has_type (slice_get headers c) ≡ true
    here (s.at (s.Def name params ret body marks) span) r = absurd (none i r)
      where
        none : (i : ℕ) → slice_get (owner.Module ∷ []) i ≡ Some (owner.Class o) → ⊥
        none zero z = cc
        none (suc k) z = cc
    here (s.at (s.ClassDef name bases body marks) span) r =
        typed_owner headers n c (has_type (slice_get headers n)) refl (all_one (methods_in body) (class_owner headers n) i (owner.Class o) r ∙ ap (λ (p : Option ℕ). owner.Class p) q)
    here _ r = absurd (cc)

    by : (slice_get (owners_in headers n x) i ≡ Some (owner.Class o)) ⊎ Behind (owners_in headers n x) (owners_from headers (n + length (class_in x)) ds) i (owner.Class o)
        → ((k : ℕ) → slice_get (owners_from headers (n + length (class_in x)) ds) k ≡ Some (owner.Class o) → has_type (slice_get headers c) ≡ true) → has_type (slice_get headers c) ≡ true
    by (inl r) next = here x r
    by (inr b) next = next b.rest b.there

-- ---- methods have new names

new_if : (span : Span) (fresh : Bool) (own : ℕ) (f : FuncTree) (h : HeaderSorts) → h.typed ≡ true → def_said span fresh own true f h ≡ [] → fresh ≡ true
new_if span true own f h t q = refl
new_if span false own f h t q = absurd (by h.typed t q)
  where
    by : (b : Bool) → b ≡ true → (if b && true then diag span (already_defined f.name) ∷ [] else []) ≡ [] → ⊥
    by true e r = cc
    by false e r = cc

with_same : (earlier : List (List ℕ)) (o : Option (List ℕ)) → with_taken earlier o ≡ with_name earlier o
with_same earlier None = refl
with_same earlier (Some x) = refl

module _ (roles : Roles) (headers : List Header) (meanings : List ℕ → Meaning) (all : (x : List ℕ) → is_untyped (meanings x) ≡ false) where
  abbrev Signs : List (FuncTree × Owner) → Type 0
  Signs ps = AllSigned meanings all roles ps

  signs_first : (ps qs : List (FuncTree × Owner)) → Signs (ps ++ qs) → Signs ps
  signs_first [] qs a = tt
  signs_first (p ∷ ps) qs a = record { here = a.here; rest = signs_first ps qs a.rest }

  signs_second : (ps qs : List (FuncTree × Owner)) → Signs (ps ++ qs) → Signs qs
  signs_second [] qs a = a
  signs_second (p ∷ ps) qs a = signs_second ps qs a.rest

  abbrev held : Owner → Suite → List (FuncTree × Owner)
  held whose body = zip (methods_in body) (map (λ f. whose) (methods_in body))

  one_new : (whose : Owner) (earlier : List (List ℕ)) (x : StmtTree) (more : Suite) → plain_member_said roles headers meanings whose earlier x ≡ [] → Signs (held whose (s.stmt_then x more))
      → (is_name_new earlier (defined_name x) ≡ true) × Signs (held whose more)
  one_new whose earlier (s.at (s.Def name params ret body marks) span) more h a =
      let f : FuncTree = record { name = name; params = params; ret = ret; body = body; marks = marks } in
      (new_if span (is_new earlier name) (own_count (function_scope roles f)) f (header meanings whose f) a.here.types.typed h, a.rest)
  one_new whose earlier _ more h a = (refl, a)

  members_new : (whose : Owner) (earlier : List (List ℕ)) (body : Suite) → plain_members_said roles headers meanings whose earlier body ≡ [] → Signs (held whose body) → are_defs_new earlier body ≡ true
  members_new whose earlier s.no_stmts h a = refl
  members_new whose earlier (s.stmt_then x more) h a =
      let rest = plain_members_said roles headers meanings whose (with_taken earlier (taken_name x)) more in
      let one = one_new whose earlier x more (none_before (plain_member_said roles headers meanings whose earlier x) rest h) a in
      and_from (is_name_new earlier (defined_name x)) (are_defs_new (with_name earlier (taken_name x)) more) one.0
      (ap (λ l. are_defs_new l more) (sym (with_same earlier (taken_name x))) ∙ members_new whose (with_taken earlier (taken_name x)) more (none_behind (plain_member_said roles headers meanings whose earlier x) rest h) one.1)

  class_new : (earlier : List (List ℕ)) (n : ℕ) (x : StmtTree) → plain_said roles headers meanings earlier n x ≡ [] → Signs (zip (held_by x) (owners_in headers n x)) → list_all (λ y. are_defs_new [] y.body) (class_in x) ≡ true
  class_new earlier n (s.at (s.ClassDef name bases body marks) span) h a =
      let whose = class_owner headers n in
      and_from (are_defs_new [] body) true (members_new whose [] body (none_before (plain_members_said roles headers meanings whose [] body) (body_said meanings body) h) a) refl
  class_new earlier n _ h a = refl

  all_new : (earlier : List (List ℕ)) (n : ℕ) (ds : List StmtTree) → all_plain_said roles headers meanings earlier n ds ≡ [] → Signs (owned_by headers n ds) → list_all (λ y. are_defs_new [] y.body) (classes_in ds) ≡ true
  all_new earlier n [] h a = refl
  all_new earlier n (x ∷ ds) h a =
      let rest = all_plain_said roles headers meanings (earlier ++ names_given x) (n + length (class_in x)) ds in
      let both = subst Signs (owned_then headers n x ds) a in
      let here = zip (held_by x) (owners_in headers n x) in
      let behind = owned_by headers (n + length (class_in x)) ds in
      list_all-append (λ (y : ClassTree). are_defs_new [] y.body) (class_in x) (classes_in ds)
      ∙ and_from (list_all (λ (y : ClassTree). are_defs_new [] y.body) (class_in x)) (list_all (λ (y : ClassTree). are_defs_new [] y.body) (classes_in ds))
      (class_new earlier n x (none_before (plain_said roles headers meanings earlier n x) rest h) (signs_first here behind both))
      (all_new (earlier ++ names_given x) (n + length (class_in x)) ds (none_behind (plain_said roles headers meanings earlier n x) rest h) (signs_second here behind both))

-- ---- a module of which nothing is said

module _ (m : Suite) (nothing : said m ≡ []) where
  abbrev pub ds : List StmtTree
  ds = suite_definitions m

  abbrev pub hs : List Header
  hs = module_headers m

  abbrev pub os : Owns
  os = module_owns m

  abbrev pub meant : List ℕ → Meaning
  meant = module_meaning m

  abbrev pub roles : Roles
  roles = module_role m

  abbrev pub e : ModuleContext
  e = module_context m

  abbrev pub named : List ℕ → Option Meaning
  named = said_of_names ds

  abbrev pub inner : ℕ → List ℕ → Meaning
  inner = meanings_inside (known_in m) (variables (module_scope m)) (map (function_scope roles) (functions m))

  abbrev pub tree : TypedModule
  tree = typed m

  abbrev pub gs : List VarSort
  gs = global_sorts e (module_scope m) (headed_functions m) m

  plain_class : (n : ℕ) (x : ClassTree) → slice_get (classes_in ds) n ≡ Some x → PlainAt roles (module_classes m) os (top m nothing) n x
  plain_class n x h = subst (λ k. PlainAt roles (module_classes m) os (top m nothing) k x) (none_more n) (class_at roles (module_classes m) os (top m nothing) 0 ds (quiet_walk m nothing).plain.heads n x h)

  whole_class : (n : ℕ) (x : ClassTree) → slice_get (classes_in ds) n ≡ Some x → (has_type (slice_get hs n) ≡ true) × (are_whole (own_at os n) ≡ true)
  whole_class n x h = and_parts (has_type (slice_get hs n)) (are_whole (own_at os n)) (plain_class n x h).is.whole

  -- EACH CLASS has a type
  pub classes_typed : (n : ℕ) → n < length hs → has_type (slice_get hs n) ≡ true
  classes_typed n low = let x = there_at (classes_in ds) n (subst (λ k. n < k) (as_many_headers named (classes_in ds)) low) in (whole_class n x.0 x.1).0

  -- the methods of classes have new names
  pub methods_new : list_all (λ x. are_defs_new [] x.body) (classes_in ds) ≡ true
  methods_new = all_new roles hs meant (typed_names m nothing) [] 0 ds (definitions m nothing) (subst (λ fs. AllSigned meant (typed_names m nothing) roles (zip fs (owners m))) (functions_defined m) (all_functions m nothing))

  -- ---- functions

  pub record PairAt (i : ℕ) (f : FuncTree) : Type 0 where
    pub whose : Owner
    pub owned : slice_get (owners_from hs 0 ds) i ≡ Some whose
    pub there : slice_get (headed_functions m) i ≡ Some (headed roles meant (f, whose))

  pub pair_at : (i : ℕ) (f : FuncTree) → slice_get (flat_map held_by ds) i ≡ Some f → PairAt i f
  pair_at i f h =
      let z = zip_there (functions m) (owners m) i f (owners_many m nothing) (ap (λ l. slice_get l i) (functions_defined m) ∙ h) in
      record { whose = z.0; owned = z.1; there = slice_get-map (headed roles meant) (pairs m nothing) i ∙ ap (option_map (headed roles meant)) z.2 }

  -- EACH FUNCTION has a signature
  pub function_signed : (i : ℕ) (f : FuncTree) → slice_get (flat_map held_by ds) i ≡ Some f → HasSignature (signatures m) tree.classes.signatures i
  function_signed i f h =
      let p = pair_at i f h in
      let hd = headed roles meant (f, p.whose) in
      let known : slice_get (signatures m) i ≡ Some (signature_of hd.header) =
      slice_get-map (λ (x : Headed). signature_of x.header) (headed_functions m) i ∙ ap (option_map (λ (x : Headed). signature_of x.header)) p.there in
      let sig = some_of (signature_of hd.header) (passes_there (λ (o : Option Signature). is_some o) (signatures m) i (signature_of hd.header) (signs m nothing) known) in
      record {
        signature = sig.0;
        known = known ∙ ap Some sig.1;
        kept =
            slice_get-map (λ (x : Headed). plain_signature (signature_of x.header)) (headed_functions m) i ∙ ap (option_map (λ (x : Headed). plain_signature (signature_of x.header))) p.there
            ∙ ap (λ o. Some (plain_signature o)) sig.1;
      }

  abbrev pub as_typed : Headed → TypedFunc
  as_typed f = typed_function (function_context e f) e.variables gs f

  function_there : (i n : ℕ) (f : FuncTree) → slice_get (flat_map held_by ds) i ≡ Some f → slice_get (owners_from hs 0 ds) i ≡ Some (owner.Class (Some n)) → IsFunctionOf tree.funcs i f.name n
  function_there i n f h q =
      let p = pair_at i f h in
      let whose = same_Some p.whose (owner.Class (Some n)) (sym p.owned ∙ q) in
      record {
        func = as_typed (headed roles meant (f, p.whose));
        there = slice_get-map as_typed (headed_functions m) i ∙ ap (option_map as_typed) p.there;
        named = refl;
        owned = ap class_of whose;
      }

  -- EACH FUNCTION of the module is of no class, or of one of its classes
  pub function_owned : (i : ℕ) (F : TypedFunc) → slice_get tree.funcs i ≡ Some F → (F.class ≡ None) ⊎ IsOwned named meant inner ds i F
  function_owned i F h =
      let f = of_map as_typed (headed_functions m) i F h in
      let p = of_map (headed roles meant) (pairs m nothing) i f.0 f.1 in
      let z = of_zip (functions m) (owners m) i p.0 p.1 in
      by p.0.1 z.1 (ap (λ (x : Headed). class_of x.header.owner) p.2) (ap (λ (x : Headed). x.tree.name) p.2) (ap (λ (G : TypedFunc). G.class) f.2) (ap (λ (G : TypedFunc). G.name) f.2) (ap (λ l. slice_get l i) (sym (functions_defined m)) ∙ z.0)
    where
      by : {tree : FuncTree} {c : Option ℕ} {name : List ℕ} (whose : Owner) → slice_get (owners m) i ≡ Some whose → class_of whose ≡ c → tree.name ≡ name → c ≡ F.class → name ≡ F.name → slice_get (flat_map held_by ds) i ≡ Some tree → (F.class ≡ None) ⊎ IsOwned named meant inner ds i F
      by owner.Module o c n d k t = inl (sym (c ∙ d))
      by (owner.Class None) o c n d k t = inl (sym (c ∙ d))
      by owner.UntypedTrait o c n d k t = inl (sym (c ∙ d))
      by {tree = tree} (owner.Class (Some class)) o c n d k t = inr (record { class = class; tree = tree; there = t; owned = o; named = sym (n ∙ k); inside = sym (c ∙ d) })

  -- ---- the classes of the typed module

  module _ (is_identifier : List ℕ → Bool) (names_pass : list_all (λ x. is_identifier x.name && list_all is_identifier (names_of x.attributes ++ names_of x.methods)) e.classes ≡ true)
      (types : (n : ℕ) (a : List ℕ) (t : Sort) → own_member os a n ≡ Some (attribute t) → is_value_type (length e.classes) t ≡ true)
      (none : (n : ℕ) (f : Clash) → slice_get (verdicts hs (map (own_in (signatures m)) os)) n ≡ Some (fails f) → ⊥) where
    pub has_classes : HasClasses named meant inner ds is_identifier tree (signatures m)
    has_classes = record {
      same = refl;
      typed = classes_typed;
      named = λ n x h. let p = passes_there (λ (y : ClassEntry). is_identifier y.name && list_all is_identifier (names_of y.attributes ++ names_of y.methods)) e.classes n x names_pass h in
          and_parts (is_identifier x.name) (list_all is_identifier (names_of x.attributes ++ names_of x.methods)) p;
      types = types;
      functions = function_there;
      signed = function_signed;
      none = none;
    }

  -- ---- members in reach

  is_voiced : (f : ℕ) → HasSignature (signatures m) tree.classes.signatures f → is_none (some_signature (slice_get (signatures m) f)) ≡ false
  is_voiced f x = ap (λ o. is_none (some_signature o)) x.known

  own_voiced : (n : ℕ) (a : List ℕ) (x : Member) → own_member os a n ≡ Some x → is_voiceless_member (signatures m) (Some x) ≡ false
  own_voiced n a x h =
      let o = own_there hs meant inner ds n a x h in
      let there : slice_get (classes_in ds) n ≡ Some o.text.tree =
      ap (λ l. slice_get l n) (sym (trees_of_texts 0 ds)) ∙ slice_get-map (λ (y : ClassText). y.tree) (class_texts 0 ds) n ∙ ap (option_map (λ (y : ClassText). y.tree)) o.found in
      by x h (found_passes is_whole_member (own_at os n) a x (whole_class n o.text.tree there).1 h)
    where
      by : (y : Member) → own_member os a n ≡ Some y → is_whole_member y ≡ true → is_voiceless_member (signatures m) (Some y) ≡ false
      by (attribute t) q w = refl
      by untyped q w = absurd (cc)
      by (unknown place) q w = absurd (cc)
      by (method f) q w = let d = own_function named meant inner ds n f a q in is_voiced f (function_signed f d.tree d.there)

  pub member_voiced : (n : ℕ) (a : List ℕ) → is_voiceless_member (signatures m) (member_along os hs n a) ≡ false
  member_voiced n a = by (member_along os hs n a) refl
    where
      by : (o : Option Member) → member_along os hs n a ≡ o → is_voiceless_member (signatures m) o ≡ false
      by None q = refl
      by (Some x) q = let d = member_found named meant inner ds n a x q in own_voiced d.place a x d.is

  below_voiced : (f : ℕ) → IsMethodBelow named meant inner ds f (codes "__init__") → is_voiceless_init (signatures m) (Some f) ≡ false
  below_voiced f d = is_voiced f (function_signed f d.is.tree d.is.there)

  pub init_voiced : (n : ℕ) → is_voiceless_init (signatures m) (init_along os hs n) ≡ false
  init_voiced n = by (init_along os hs n) refl
    where
      by : (o : Option ℕ) → init_along os hs n ≡ o → is_voiceless_init (signatures m) o ≡ false
      by None q = refl
      by (Some f) q = below_voiced f (init_found named meant inner ds n f q)

  pub behind_voiced : (n : ℕ) → is_voiceless_init (signatures m) (init_behind_along os hs n) ≡ false
  behind_voiced n = by (init_behind_along os hs n) refl
    where
      by : (o : Option ℕ) → init_behind_along os hs n ≡ o → is_voiceless_init (signatures m) o ≡ false
      by None q = refl
      by (Some f) q = below_voiced f (behind_found named meant inner ds n f q)

  pub inside_voiced : (p : FuncTree × Owner) → is_owned p.1 ≡ true → is_voiceless_inside (signatures m) (inside_by e.members (headed roles meant p) p.1) ≡ false
  inside_voiced p h = by p.1 h
    where
      neither : (b c : Bool) → c ≡ false → (b && (false || c)) ≡ false
      neither true c q = q
      neither false c q = refl

      by : (whose : Owner) → is_owned whose ≡ true → is_voiceless_inside (signatures m) (inside_by e.members (headed roles meant p) whose) ≡ false
      by owner.Module q = refl
      by (owner.Class (Some n)) q = neither (method_inside e.members (headed roles meant p) (Some n)).is_init (is_voiceless_init (signatures m) (init_behind_along os hs n)) (behind_voiced n)
      by (owner.Class None) q = absurd (cc)
      by owner.UntypedTrait q = absurd (cc)
