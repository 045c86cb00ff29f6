-- Where nothing is said of definitions, imports and annotations, each function has a signature.
use Rattle.std.proofs.Common.{◌≡◌, ◌∙◌, ℕ, zero, suc, ◌<◌, ◌+◌, Bool, true, false, not, ◌&&◌, List, [], ◌∷◌, ◌++◌, length, map, slice_get, nat_lt, Option, Some, None, find, refl, sym, ap, subst, if◌then◌else◌, ltb-true, arith, length-append}
use Rattle.std.proofs.lemmas.Bool.{and_from}
use Rattle.std.proofs.lemmas.List.{length-map}
use Rattle.std.proofs.lemmas.List.Folds.{list_all-append}
use Rattle.std.specs.Prelude.{is_some, is_none}
use Rattle.std.specs.List.{list_all, flat_map, zip}
use Rattle.std.specs.Option.{option_or, option_map, option_zip}
use Rattle.py_syntax.specs.declared.token.Span.{Span}
use Rattle.py_syntax.specs.Expressions.{ExprTree}
use Rattle.py_syntax.specs.Statements as s
use Rattle.py_syntax.specs.Statements.{StmtTree, Suite, FuncTree}
use Rattle.py_binder.specs.declared.sight.Manner.TheVariants.{Annotation}
use Rattle.py_binder.specs.Sights.{maybe_reads, params_reads}
use Rattle.py_binder.specs.Scope.{Roles, param_names}
use Rattle.py_binder.specs.Faults.{function_faults}
use Rattle.py_typed.specs.Sorts.{Sort}
use Rattle.py_typed.specs.Classes.{Signature}
use Rattle.py_typed.proofs.FitLemmas.{and_left, and_right}
use Rattle.py_check_context.specs.declared.scope.Meaning.{Meaning}
use Rattle.py_check_context.specs.declared.scope.Meaning.TheVariants as meaning
use Rattle.py_check_context.specs.Context.{some_signature}
use Rattle.py_check_messages.specs.Seen.{Message}
use Rattle.py_check_messages.specs.Messages as message
use Rattle.py_check_annotations.specs.Annotations.{annotation, return_annotation}
use Rattle.py_check_annotations.specs.Names.{is_untyped}
use Rattle.py_check_names.specs.Outline.{held_by, methods_in, may_import_all}
use Rattle.py_check_signatures.specs.Headers.{HeaderSorts, has_type, types_at, asked, marked, returned, param_types, params_said, params_typed, header, header_said, all_of, signature_by, signature_of}
use Rattle.py_check_signatures.specs.Definitions.{own_count, repeated, are_marked, all_marked, body_fault, def_fault, is_outside, lacks_own, told, is_new, is_builtin_name, gives_value}
use Rattle.py_check_signatures.specs.declared.headers.Owner.{Owner}
use Rattle.py_check_signatures.specs.declared.headers.Owner.TheVariants as owner
use Rattle.py_check_flow.specs.Closed.{is_closed}
use Rattle.py_check_context.specs.Context.{Context}
use Rattle.py_check_context.specs.Members.{Member}
use Rattle.py_check_classes.specs.declared.header.Header.{Header}
use Rattle.py_check_classes.specs.Names.{class_in}
use Rattle.py_check_classes.specs.Headers.{has_type as has_class_type}
use Rattle.py_check_members.specs.Deeds.{taken_name}
use Rattle.py_check_members.specs.Members.{own_at}
use Rattle.py_check_members.specs.Bodies.{body_said}
use Rattle.py_check_definitions.specs.Classes.{ModuleClasses}
use Rattle.py_check_definitions.specs.Definitions.{with_taken, import_said, headed, names_given}
use Rattle.py_check_definitions.specs.Owners.{untyped_owner, class_owner, owners_in, owners_from}
use Rattle.py_check_definitions.specs.Refused.{are_whole}
use Rattle.py_check_expressions_laws.specs.Laws.{is_voiceless}
use Rattle.py_check_expressions_laws.proofs.Known.{known_left, known_right}
use Rattle.py_check_expressions_laws.proofs.Loud.{none_before, none_behind}
use Rattle.py_check_laws.proofs.Given.{some_is}
use Rattle.py_check_laws.proofs.Whole.{quiet_got}
use Rattle.py_check_laws.proofs.KnownParts.{AreKnown, annotation_reads}
use Rattle.py_check_laws.proofs.Annotated.{loud_annotation, loud_return}
use Rattle.py_check_laws.proofs.Meant.{is_heard, is_right}
use Rattle.py_check_laws.proofs.Plain.{plain_function_said, plain_member_said, plain_members_said, plain_said, all_plain_said, ClassOf, AllClasses}

-- ---- what is said of definitions

-- nothing is wrong with a definition whose annotations have types
told_none : (span : Span) (o : Option Message) → told span o ≡ [] → o ≡ None
told_none span None h = refl
told_none span (Some m) h = absurd (cc)

fault_none : (span : Span) (o : Option Message) (typed : Bool) → typed ≡ true → (if typed && true then told span o else []) ≡ [] → o ≡ None
fault_none span o true t h = told_none span o h
fault_none span o false t h = absurd (cc)

-- ---- functions with their owners

zip_two : {A B : Type 0} (xs xs2 : List A) (ys ys2 : List B) → length xs ≡ length ys → zip (xs ++ xs2) (ys ++ ys2) ≡ zip xs ys ++ zip xs2 ys2
zip_two [] xs2 [] ys2 e = refl
zip_two [] xs2 (b ∷ ys) ys2 e = absurd (omega (arith, e))
zip_two (a ∷ xs) xs2 [] ys2 e = absurd (omega (arith, e))
zip_two (a ∷ xs) xs2 (b ∷ ys) ys2 e = ap (λ l. (a, b) ∷ l) (zip_two xs xs2 ys ys2 (omega (arith, e)))

module _ (headers : List Header) where
  pub owners_many : (n : ℕ) (x : StmtTree) → length (held_by x) ≡ length (owners_in headers n x)
  owners_many n (s.at (s.Def name params ret body marks) span) = refl
  owners_many n (s.at (s.ClassDef name bases body marks) span) = sym (length-map (methods_in body) (λ (f : FuncTree). class_owner headers n))
  owners_many n _ = refl

  pub owners_all : (n : ℕ) (ds : List StmtTree) → length (flat_map held_by ds) ≡ length (owners_from headers n ds)
  owners_all n [] = refl
  owners_all n (x ∷ ds) =
      let a = length-append (held_by x) (flat_map held_by ds) in
      let b = length-append (owners_in headers n x) (owners_from headers (n + length (class_in x)) ds) in
      let one = owners_many n x in
      let rest = owners_all (n + length (class_in x)) ds in
      omega (arith, a, b, one, rest)

  -- whose functions definitions hold
  abbrev pub owned_by : ℕ → List StmtTree → List (FuncTree × Owner)
  owned_by n ds = zip (flat_map held_by ds) (owners_from headers n ds)

  pub owned_then : (n : ℕ) (x : StmtTree) (ds : List StmtTree) → owned_by n (x ∷ ds) ≡ zip (held_by x) (owners_in headers n x) ++ owned_by (n + length (class_in x)) ds
  owned_then n x ds = zip_two (held_by x) (flat_map held_by ds) (owners_in headers n x) (owners_from headers (n + length (class_in x)) ds) (owners_many n x)

-- a function in a class has a class with a type
abbrev pub is_owned : Owner → Bool
is_owned owner.Module = true
is_owned (owner.Class o) = is_some o
is_owned owner.UntypedTrait = false

module _ (roles : Roles) (headers : List Header) (meanings : List ℕ → Meaning) where
  -- nothing is said of a function itself, whose name is new or not
  abbrev pub QuietFunction : FuncTree × Owner → Type 0
  QuietFunction p = (span : Span) × (fresh : Bool) × (plain_function_said roles headers meanings span p.1 fresh p.0 ≡ [])

  pub record QuietThen (p : FuncTree × Owner) (Rest : Type 0) : Type 0 where
    pub here : QuietFunction p
    pub rest : Rest

  abbrev pub AllQuiet : List (FuncTree × Owner) → Type 0
  AllQuiet [] = Unit {0}
  AllQuiet (p ∷ ps) = QuietThen p (AllQuiet ps)

  quiet_two : (ps qs : List (FuncTree × Owner)) → AllQuiet ps → AllQuiet qs → AllQuiet (ps ++ qs)
  quiet_two [] qs a b = b
  quiet_two (p ∷ ps) qs a b = record { here = a.here; rest = quiet_two ps qs a.rest b }

  members_quiet : (whose : Owner) (earlier : List (List ℕ)) (body : Suite) → plain_members_said roles headers meanings whose earlier body ≡ [] → AllQuiet (zip (methods_in body) (map (λ f. whose) (methods_in body)))
  members_quiet whose earlier s.no_stmts h = tt
  members_quiet whose earlier (s.stmt_then x more) h =
      let rest = plain_members_said roles headers meanings whose (with_taken earlier (taken_name x)) more in
      member_quiet x (none_before (plain_member_said roles headers meanings whose earlier x) rest h) (members_quiet whose (with_taken earlier (taken_name x)) more (none_behind (plain_member_said roles headers meanings whose earlier x) rest h))
    where
      member_quiet : (x : StmtTree) → plain_member_said roles headers meanings whose earlier x ≡ [] → AllQuiet (zip (methods_in more) (map (λ f. whose) (methods_in more))) → AllQuiet (zip (methods_in (s.stmt_then x more)) (map (λ f. whose) (methods_in (s.stmt_then x more))))
      member_quiet (s.at (s.Def name params ret body marks) span) h r = record { here = (span, is_new earlier name, h); rest = r }
      member_quiet _ h r = r

  one_quiet : (earlier : List (List ℕ)) (n : ℕ) (x : StmtTree) → plain_said roles headers meanings earlier n x ≡ [] → AllQuiet (zip (held_by x) (owners_in headers n x))
  one_quiet earlier n (s.at (s.Def name params ret body marks) span) h = record { here = (span, is_new earlier name, h); rest = tt }
  one_quiet earlier n (s.at (s.ClassDef name bases body marks) span) h =
      members_quiet (class_owner headers n) [] body (none_before (plain_members_said roles headers meanings (class_owner headers n) [] body) (body_said meanings body) h)
  one_quiet earlier n _ h = tt

  -- FUNCTIONS of which nothing is said
  pub all_quiet : (earlier : List (List ℕ)) (n : ℕ) (ds : List StmtTree) → all_plain_said roles headers meanings earlier n ds ≡ [] → AllQuiet (owned_by headers n ds)
  all_quiet earlier n [] h = tt
  all_quiet earlier n (x ∷ ds) h =
      let rest = all_plain_said roles headers meanings (earlier ++ names_given x) (n + length (class_in x)) ds in
      subst AllQuiet (sym (owned_then headers n x ds))
      (quiet_two (zip (held_by x) (owners_in headers n x)) (owned_by headers (n + length (class_in x)) ds) (one_quiet earlier n x (none_before (plain_said roles headers meanings earlier n x) rest h)) (all_quiet (earlier ++ names_given x) (n + length (class_in x)) ds (none_behind (plain_said roles headers meanings earlier n x) rest h)))

-- ---- imports

allowed : (b : Bool) (span : Span) → import_said b span ≡ [] → b ≡ true
allowed true span h = refl
allowed false span h = absurd (cc)

module _ (roles : Roles) (headers : List Header) (meanings : List ℕ → Meaning) where
  one_right : (earlier : List (List ℕ)) (n : ℕ) (x : StmtTree) → plain_said roles headers meanings earlier n x ≡ [] → is_right x ≡ true
  one_right earlier n (s.at (s.Import name other) span) h = absurd (cc)
  one_right earlier n (s.at (s.From name names) span) h = allowed (may_import_all name names) span h
  one_right earlier n _ h = refl

  -- DEFINITIONS of which nothing is said
  pub all_right : (earlier : List (List ℕ)) (n : ℕ) (ds : List StmtTree) → all_plain_said roles headers meanings earlier n ds ≡ [] → list_all is_right ds ≡ true
  all_right earlier n [] h = refl
  all_right earlier n (x ∷ ds) h =
      let rest = all_plain_said roles headers meanings (earlier ++ names_given x) (n + length (class_in x)) ds in
      and_from (is_right x) (list_all is_right ds) (one_right earlier n x (none_before (plain_said roles headers meanings earlier n x) rest h)) (all_right (earlier ++ names_given x) (n + length (class_in x)) ds (none_behind (plain_said roles headers meanings earlier n x) rest h))

-- ---- classes that are whole

module _ (roles : Roles) (classes : ModuleClasses) (owns : List (List (List ℕ × Member))) (c : Context) where
  typed_owned : (n : ℕ) → has_class_type (slice_get classes.headers n) ≡ true → is_owned (class_owner classes.headers n) ≡ true
  typed_owned n h = ap (λ b. is_owned (if b then owner.Class (Some n) else untyped_owner classes.headers n)) h

  all_of_class : (fs : List FuncTree) (whose : Owner) → is_owned whose ≡ true → list_all is_owned (map (λ f. whose) fs) ≡ true
  all_of_class [] whose h = refl
  all_of_class (f ∷ fs) whose h = and_from (is_owned whose) (list_all is_owned (map (λ f. whose) fs)) h (all_of_class fs whose h)

  one_owned : (n : ℕ) (x : StmtTree) → ClassOf roles classes owns c n x → list_all is_owned (owners_in classes.headers n x) ≡ true
  one_owned n (s.at (s.Def name params ret body marks) span) h = refl
  one_owned n (s.at (s.ClassDef name bases body marks) span) h = all_of_class (methods_in body) (class_owner classes.headers n) (typed_owned n (and_left (has_class_type (slice_get classes.headers n)) (are_whole (own_at owns n)) h.whole))
  one_owned n _ h = refl

  -- THE CLASS of each function has a type
  pub all_owned : (n : ℕ) (ds : List StmtTree) → AllClasses roles classes owns c n ds → list_all is_owned (owners_from classes.headers n ds) ≡ true
  all_owned n [] h = refl
  all_owned n (x ∷ ds) h =
      list_all-append is_owned (owners_in classes.headers n x) (owners_from classes.headers (n + length (class_in x)) ds)
      ∙ and_from (list_all is_owned (owners_in classes.headers n x)) (list_all is_owned (owners_from classes.headers (n + length (class_in x)) ds)) (one_owned n x h.here) (all_owned (n + length (class_in x)) ds h.rest)

-- ---- faults of definitions

fault_parts : (fresh outside lacks : Bool) (m n o : Message) (a b c : Option Message) → (if not fresh then Some m else (if outside then Some n else (if lacks then Some o else option_or a (option_or b c)))) ≡ None
    → (fresh ≡ true) × (outside ≡ false) × (lacks ≡ false) × (a ≡ None) × (b ≡ None) × (c ≡ None)
fault_parts false outside lacks m n o a b c h = absurd (cc)
fault_parts true true lacks m n o a b c h = absurd (cc)
fault_parts true false true m n o a b c h = absurd (cc)
fault_parts true false false m n o (Some x) b c h = absurd (cc)
fault_parts true false false m n o None (Some x) c h = absurd (cc)
fault_parts true false false m n o None None c h = (refl, refl, refl, refl, refl, h)

body_parts : (marks many loose : Bool) (m n o : Message) → (if not marks then Some m else (if many then Some n else (if loose then Some o else None))) ≡ None → (marks ≡ true) × (many ≡ false) × (loose ≡ false)
body_parts false many loose m n o h = absurd (cc)
body_parts true true loose m n o h = absurd (cc)
body_parts true false true m n o h = absurd (cc)
body_parts true false false m n o h = (refl, refl, refl)

-- a definition with which nothing is wrong
pub record IsSound (whose : Owner) (fresh : Bool) (own : ℕ) (f : FuncTree) (ret : Option Sort) : Type 0 where
  pub fresh_is : fresh ≡ true
  pub inside : is_outside whose f ≡ false
  pub has_own : lacks_own whose f.params ≡ false
  pub names : option_map message.duplicate_parameter (repeated [] (param_names f)) ≡ None
  pub plain : option_map message.cannot_assign (find is_builtin_name (param_names f)) ≡ None
  pub marks : all_marked whose f ret ≡ true
  pub few : nat_lt 100 own ≡ false
  pub ends : (gives_value ret && not (is_closed f.body)) ≡ false

sound_is : (whose : Owner) (fresh : Bool) (own : ℕ) (f : FuncTree) (ret : Option Sort) → def_fault whose fresh own f ret ≡ None → IsSound whose fresh own f ret
sound_is whose fresh own f ret h =
    let p = fault_parts fresh (is_outside whose f) (lacks_own whose f.params) (message.already_defined f.name) (message.outside_profile f.name) (message.self_missing f.name) (option_map message.duplicate_parameter (repeated [] (param_names f)))
    (option_map message.cannot_assign (find is_builtin_name (param_names f))) (body_fault whose own f ret) h in
    let q = body_parts (all_marked whose f ret) (nat_lt 100 own) (gives_value ret && not (is_closed f.body)) message.missing_annotation (message.too_many_names f.name) message.missing_return p.5 in
    record { fresh_is = p.0; inside = p.1; has_own = p.2; names = p.3; plain = p.4; marks = q.0; few = q.1; ends = q.2 }

-- ---- annotations

signed_by : (ps : Option (List Sort)) (ret : Option Sort) → is_some ps ≡ true → is_some ret ≡ true → (t : Signature) × (option_map (λ (p : List Sort × Sort). record { params = p.0; ret = p.1 }) (option_zip ps ret) ≡ Some t)
signed_by None ret p q = absurd (cc)
signed_by (Some ts) None p q = absurd (cc)
signed_by (Some ts) (Some t) p q = (record { params = ts; ret = t }, refl)

all_there : (os : List (Option Sort)) → list_all (λ o. is_some o) os ≡ true → is_some (all_of os) ≡ true
all_there [] h = refl
all_there (o ∷ os) h = by o (all_of os) (and_left (is_some o) (list_all (λ o. is_some o) os) h) (all_there os (and_right (is_some o) (list_all (λ o. is_some o) os) h))
  where
    by : (a : Option Sort) (b : Option (List Sort)) → is_some a ≡ true → is_some b ≡ true → is_some (option_map (λ (p : Sort × List Sort). p.0 ∷ p.1) (option_zip a b)) ≡ true
    by None b p q = absurd (cc)
    by (Some a) None p q = absurd (cc)
    by (Some a) (Some b) p q = refl

-- of a function with these types
pub record HasTypes (h : HeaderSorts) : Type 0 where
  pub params : list_all (λ o. is_some o) h.params ≡ true
  pub ret : is_some h.ret ≡ true
  pub typed : h.typed ≡ true

some_asked : (whose : Owner) (os : List (Option Sort)) → list_all (λ o. is_some o) os ≡ true → list_all (λ o. is_some o) (asked whose os) ≡ true
some_asked owner.Module os h = h
some_asked (owner.Class o) [] h = refl
some_asked (owner.Class o) (t ∷ os) h = and_right (is_some t) (list_all (λ o. is_some o) os) h
some_asked owner.UntypedTrait [] h = refl
some_asked owner.UntypedTrait (t ∷ os) h = and_right (is_some t) (list_all (λ o. is_some o) os) h

pub signed : (h : HeaderSorts) → HasTypes h → is_some (signature_of h) ≡ true
signed h t =
    ap (λ b. is_some (if b then signature_by h else None)) t.typed
    ∙ ap is_some (signed_by (all_of (asked h.owner h.params)) h.ret (all_there (asked h.owner h.params) (some_asked h.owner h.params t.params)) t.ret).1

module _ (meanings : List ℕ → Meaning) (all : (x : List ℕ) → is_untyped (meanings x) ≡ false) where
  mark_typed : (o : Option ExprTree) → AreKnown meanings (maybe_reads Annotation o) → (marked meanings o).said ≡ [] → has_type o (marked meanings o).got ≡ true
  mark_typed None k h = refl
  mark_typed (Some mark) k h = let g = quiet_got (annotation meanings mark) (loud_annotation meanings all mark k) h in some_is (annotation meanings mark).got g.0 g.1

  result_typed : (o : Option ExprTree) → AreKnown meanings (maybe_reads Annotation o) → (returned meanings o).said ≡ [] → has_type o (returned meanings o).got ≡ true
  result_typed None k h = refl
  result_typed (Some mark) k h = let g = quiet_got (return_annotation meanings mark) (loud_return meanings all mark k) h in some_is (return_annotation meanings mark).got g.0 g.1

  params_have : (ps : List (List ℕ × Option ExprTree)) → AreKnown meanings (params_reads ps) → params_said meanings ps ≡ [] → params_typed meanings ps ≡ true
  params_have [] k h = refl
  params_have (p ∷ ps) k h =
      and_from (has_type p.1 (marked meanings p.1).got) (params_typed meanings ps) (mark_typed p.1 (known_left meanings (maybe_reads Annotation p.1) (params_reads ps) k) (none_before (marked meanings p.1).said (params_said meanings ps) h))
      (params_have ps (known_right meanings (maybe_reads Annotation p.1) (params_reads ps) k) (none_behind (marked meanings p.1).said (params_said meanings ps) h))

  mark_some : (o : Option ExprTree) (t : Option Sort) → is_some o ≡ true → has_type o t ≡ true → is_some t ≡ true
  mark_some None t h g = absurd (cc)
  mark_some (Some mark) t h g = g

  params_some : (ps : List (List ℕ × Option ExprTree)) → are_marked ps ≡ true → params_typed meanings ps ≡ true → list_all (λ o. is_some o) (param_types meanings ps) ≡ true
  params_some [] h g = refl
  params_some (p ∷ ps) h g =
      and_from (is_some (marked meanings p.1).got) (list_all (λ o. is_some o) (param_types meanings ps))
      (mark_some p.1 (marked meanings p.1).got (and_left (is_some p.1) (are_marked ps) h) (and_left (has_type p.1 (marked meanings p.1).got) (params_typed meanings ps) g))
      (params_some ps (and_right (is_some p.1) (are_marked ps) h) (and_right (has_type p.1 (marked meanings p.1).got) (params_typed meanings ps) g))

  -- of a function of this owner the types of all parameters
  own_some : (whose : Owner) → is_owned whose ≡ true → (ps : List (List ℕ × Option ExprTree)) → are_marked (asked whose ps) ≡ true → params_typed meanings ps ≡ true → list_all (λ o. is_some o) (types_at whose (param_types meanings ps)) ≡ true
  own_some owner.Module o ps h g = params_some ps h g
  own_some (owner.Class (Some c)) o [] h g = refl
  own_some (owner.Class (Some c)) o (p ∷ ps) h g = params_some ps h (and_right (has_type p.1 (marked meanings p.1).got) (params_typed meanings ps) g)
  own_some (owner.Class None) o ps h g = absurd (cc)
  own_some owner.UntypedTrait o ps h g = absurd (cc)

  -- a function of which nothing is said, in its annotations and else, and with the names of which nothing is wrong
  pub record IsSigned (roles : Roles) (p : FuncTree × Owner) : Type 0 where
    pub sound : (fresh : Bool) × IsSound p.1 fresh (own_count (headed roles meanings p).inside) p.0 (header meanings p.1 p.0).ret
    pub names : function_faults roles p.0 ≡ []
    pub types : HasTypes (header meanings p.1 p.0)

  module _ (roles : Roles) (headers : List Header) (p : FuncTree × Owner) (q : QuietFunction roles headers meanings p) (k : AreKnown meanings (annotation_reads p.0)) (h : header_said meanings p.0 ≡ []) where
    abbrev f : FuncTree
    f = p.0

    params_are : params_typed meanings f.params ≡ true
    params_are = params_have f.params (known_left meanings (params_reads f.params) (maybe_reads Annotation f.ret) k) (none_before (params_said meanings f.params) (returned meanings f.ret).said h)

    result_is : has_type f.ret (returned meanings f.ret).got ≡ true
    result_is = result_typed f.ret (known_right meanings (params_reads f.params) (maybe_reads Annotation f.ret) k) (none_behind (params_said meanings f.params) (returned meanings f.ret).said h)

    typed_is : (header meanings p.1 f).typed ≡ true
    typed_is = and_from (params_typed meanings f.params) (has_type f.ret (returned meanings f.ret).got) params_are result_is

    -- nothing is wrong with it
    pub sound : IsSound p.1 q.1 (own_count (headed roles meanings p).inside) f (header meanings p.1 f).ret
    sound =
        sound_is p.1 q.1 (own_count (headed roles meanings p).inside) f (header meanings p.1 f).ret
        (fault_none q.0 (def_fault p.1 q.1 (own_count (headed roles meanings p).inside) f (header meanings p.1 f).ret) (header meanings p.1 f).typed typed_is q.2)

    -- its name is new
    pub fresh_function : q.1 ≡ true
    fresh_function = sound.fresh_is

    pub one_signed : is_owned p.1 ≡ true → function_faults roles f ≡ [] → IsSigned roles p
    one_signed o n = record {
      sound = (q.1, sound);
      names = n;
      types = record {
        params = own_some p.1 o f.params (and_left (are_marked (asked p.1 f.params)) (is_some (header meanings p.1 f).ret) sound.marks) params_are;
        ret = and_right (are_marked (asked p.1 f.params)) (is_some (header meanings p.1 f).ret) sound.marks;
        typed = typed_is;
      };
    }

  pub record SignedThen (roles : Roles) (p : FuncTree × Owner) (Rest : Type 0) : Type 0 where
    pub here : IsSigned roles p
    pub rest : Rest

  abbrev pub AllSigned : Roles → List (FuncTree × Owner) → Type 0
  AllSigned roles [] = Unit {0}
  AllSigned roles (p ∷ ps) = SignedThen roles p (AllSigned roles ps)

  pub all_signed : (roles : Roles) (headers : List Header) (ps : List (FuncTree × Owner)) → AllQuiet roles headers meanings ps → list_all (λ p. is_owned p.1) ps ≡ true → AreKnown meanings (flat_map (λ p. annotation_reads p.0) ps) → flat_map (λ p. function_faults roles p.0) ps ≡ []
      → flat_map (λ p. header_said meanings p.0) ps ≡ [] → AllSigned roles ps
  all_signed roles headers [] q o k n h = tt
  all_signed roles headers (p ∷ ps) q o k n h =
      let more = flat_map (λ (r : FuncTree × Owner). annotation_reads r.0) ps in
      let names = flat_map (λ (r : FuncTree × Owner). function_faults roles r.0) ps in
      let said = flat_map (λ (r : FuncTree × Owner). header_said meanings r.0) ps in
      record {
        here =
            one_signed roles headers p q.here (known_left meanings (annotation_reads p.0) more k) (none_before (header_said meanings p.0) said h) (and_left (is_owned p.1) (list_all (λ (r : FuncTree × Owner). is_owned r.1) ps) o)
            (none_before (function_faults roles p.0) names n);
        rest =
            all_signed roles headers ps q.rest (and_right (is_owned p.1) (list_all (λ (r : FuncTree × Owner). is_owned r.1) ps) o) (known_right meanings (annotation_reads p.0) more k) (none_behind (function_faults roles p.0) names n)
            (none_behind (header_said meanings p.0) said h);
      }

  pub signatures_there : (roles : Roles) (ps : List (FuncTree × Owner)) → AllSigned roles ps → list_all (λ o. is_some o) (map (λ p. signature_of (headed roles meanings p).header) ps) ≡ true
  signatures_there roles [] a = refl
  signatures_there roles (p ∷ ps) a = and_from (is_some (signature_of (header meanings p.1 p.0))) (list_all (λ o. is_some o) (map (λ r. signature_of (headed roles meanings r).header) ps)) (signed (header meanings p.1 p.0) a.here.types) (signatures_there roles ps a.rest)

-- ---- names

voiced_at : (l : List (Option Signature)) (i : ℕ) → list_all (λ o. is_some o) l ≡ true → i < length l → is_none (some_signature (slice_get l i)) ≡ false
voiced_at [] i h n = absurd (omega arith)
voiced_at (None ∷ l) zero h n = absurd (cc)
voiced_at (Some t ∷ l) zero h n = refl
voiced_at (o ∷ l) (suc i) h n = voiced_at l i (and_right (is_some o) (list_all (λ o. is_some o) l) h) (omega arith)

-- NO NAME is without a type, where each function has a signature
pub voiced : (l : List (Option Signature)) → list_all (λ o. is_some o) l ≡ true → (m : Meaning) → is_heard (length l) m ≡ true → is_voiceless l m ≡ false
voiced l h (meaning.Function i) n = voiced_at l i h (ltb-true i (length l) n)
voiced l h meaning.Untyped n = absurd (cc)
voiced l h meaning.UntypedClass n = absurd (cc)
voiced l h _ n = refl

pub heard_typed : (n : ℕ) (m : Meaning) → is_heard n m ≡ true → is_untyped m ≡ false
heard_typed n meaning.Untyped h = absurd (cc)
heard_typed n meaning.UntypedClass h = absurd (cc)
heard_typed n _ h = refl
