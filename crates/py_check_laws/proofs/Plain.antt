-- Where nothing is said of a module, no function of it has decorators and each class is whole; so what is said of its definitions
-- hangs on no place, but for the heads of classes.
use Rattle.std.proofs.Common.{◌≡◌, ◌∙◌, ℕ, ◌+◌, Bool, true, false, ◌&&◌, List, [], ◌∷◌, ◌++◌, length, Some, None, refl, ap, ap₂, sym, subst, if◌then◌else◌, arith, length-append}
use Rattle.std.proofs.lemmas.List.{append-nil, append_assoc}
use Rattle.std.proofs.lemmas.Grind.{flat_map-append}
use Rattle.std.specs.List.{list_all, flat_map}
use Rattle.std.proofs.lemmas.List.Folds.{list_all-append}
use Rattle.py_syntax.specs.declared.token.Span.{Span}
use Rattle.py_syntax.specs.Expressions.{ExprTree}
use Rattle.py_syntax.specs.Statements as s
use Rattle.py_syntax.specs.Statements.{StmtTree, Suite, FuncTree, ClassTree}
use Rattle.py_syntax_diagnostics.specs.declared.diagnostic.Diag.{Diag}
use Rattle.py_binder.specs.Scope.{Roles, function_scope}
use Rattle.py_typed.specs.Statements.{TypedStmt}
use Rattle.py_check_context.specs.declared.scope.Meaning.{Meaning}
use Rattle.py_check_context.specs.Context.{Context}
use Rattle.py_check_context.specs.Members.{Member}
use Rattle.py_check_messages.specs.Seen.{Seen}
use Rattle.py_check_messages.specs.Rows.{row_then}
use Rattle.py_check_flow.specs.Bindings.{name_in}
use Rattle.py_check_names.specs.Outline.{held_by, method_in, methods_in, may_import_all, stmt_definitions, suite_definitions}
use Rattle.py_check_signatures.specs.declared.headers.Owner.{Owner}
use Rattle.py_check_signatures.specs.declared.headers.Owner.TheVariants as owner
use Rattle.py_check_signatures.specs.Headers.{header, header_said}
use Rattle.py_check_signatures.specs.Definitions.{is_new, own_count, no_marks, def_said}
use Rattle.py_check_values.specs.Returns.{outside}
use Rattle.py_check_places.specs.Places.{Known}
use Rattle.py_check_statements.specs.Bodies.{nothing_around, is_definition, after, statement, block}
use Rattle.py_check_classes.specs.declared.header.Header.{Header}
use Rattle.py_check_classes.specs.Names.{class_in, classes_in}
use Rattle.py_check_members.specs.Deeds.{taken_name}
use Rattle.py_check_members.specs.Bodies.{body_said}
use Rattle.py_check_definitions.specs.Classes.{ModuleClasses, class_header_said}
use Rattle.py_check_definitions.specs.Decorators.{decorators_typed, decorators_said}
use Rattle.py_check_definitions.specs.Definitions.{with_taken, attribute_said, function_said, member_said, members_said, import_said, names_given, definition_said, definitions_said}
use Rattle.py_check_definitions.specs.Owners.{class_owner}
use Rattle.py_check_definitions.specs.Refused.{decorated_said, method_refused, methods_refused, unless_whole, refused, is_whole, refusals, or_refused}
use Rattle.py_check.specs.Module.{walk_said}
use Rattle.py_check_expressions_laws.proofs.Loud.{none_before, none_behind}
use Rattle.py_check_laws.proofs.Whole.{definition_after}

-- ---- what is said of a definition itself, and not in its annotations, if it has no decorators

module _ (roles : Roles) (headers : List Header) (meanings : List ℕ → Meaning) where
  abbrev pub plain_function_said : Span → Owner → Bool → FuncTree → List Diag
  plain_function_said span whose fresh f = def_said span fresh (own_count (function_scope roles f)) true f (header meanings whose f)

  abbrev pub plain_member_said : Owner → List (List ℕ) → StmtTree → List Diag
  plain_member_said whose earlier (s.at (s.Def name params ret body marks) span) =
      plain_function_said span whose (is_new earlier name) (record { name = name; params = params; ret = ret; body = body; marks = marks })
  plain_member_said whose earlier (s.at (s.Annot target mark None) span) = attribute_said meanings (name_in target) mark
  plain_member_said whose earlier _ = []

  abbrev pub plain_members_said : Owner → List (List ℕ) → Suite → List Diag
  plain_members_said whose earlier s.no_stmts = []
  plain_members_said whose earlier (s.stmt_then x more) = plain_member_said whose earlier x ++ plain_members_said whose (with_taken earlier (taken_name x)) more

  abbrev pub plain_said : List (List ℕ) → ℕ → StmtTree → List Diag
  plain_said earlier n (s.at (s.Def name params ret body marks) span) =
      plain_function_said span owner.Module (is_new earlier name) (record { name = name; params = params; ret = ret; body = body; marks = marks })
  plain_said earlier n (s.at (s.ClassDef name bases body marks) span) = plain_members_said (class_owner headers n) [] body ++ body_said meanings body
  plain_said earlier n (s.at (s.Import name other) span) = import_said false span
  plain_said earlier n (s.at (s.From name names) span) = import_said (may_import_all name names) span
  plain_said earlier n _ = []

  abbrev pub all_plain_said : List (List ℕ) → ℕ → List StmtTree → List Diag
  all_plain_said earlier n [] = []
  all_plain_said earlier n (x ∷ more) = plain_said earlier n x ++ all_plain_said (earlier ++ names_given x) (n + length (class_in x)) more

  plain_two : (earlier : List (List ℕ)) (n : ℕ) (a b : List StmtTree) → all_plain_said earlier n (a ++ b) ≡ all_plain_said earlier n a ++ all_plain_said (earlier ++ flat_map names_given a) (n + length (classes_in a)) b
  plain_two earlier n [] b = ap₂ (λ l k. all_plain_said l k b) (sym (append-nil earlier)) (omega arith)
  plain_two earlier n (x ∷ a) b =
      ap (λ l. plain_said earlier n x ++ l)
      (plain_two (earlier ++ names_given x) (n + length (class_in x)) a b
      ∙ ap₂ (λ l k. all_plain_said (earlier ++ names_given x) (n + length (class_in x)) a ++ all_plain_said l k b) (append_assoc earlier (names_given x) (flat_map names_given a)) (counted n x a))
      ∙ sym (append_assoc (plain_said earlier n x) (all_plain_said (earlier ++ names_given x) (n + length (class_in x)) a) (all_plain_said (earlier ++ flat_map names_given (x ∷ a)) (n + length (classes_in (x ∷ a))) b))
    where
      counted : (n : ℕ) (x : StmtTree) (a : List StmtTree) → n + length (class_in x) + length (classes_in a) ≡ n + length (classes_in (x ∷ a))
      counted n x a = let many = length-append (class_in x) (classes_in a) in omega (arith, many)

pub two_none : {A : Type 0} (a b : List A) → a ≡ [] → b ≡ [] → a ++ b ≡ []
two_none a b p q = ap₂ (λ x y. x ++ y) p q

both_true : (a b : Bool) → a ≡ true → b ≡ true → (a && b) ≡ true
both_true a b p q = ap₂ (λ x y. x && y) p q

-- ---- definitions of which nothing is said

module _ (roles : Roles) (classes : ModuleClasses) (owns : List (List (List ℕ × Member))) (c : Context) where
  -- a whole class of whose head nothing is said at some place
  pub record IsPlainClass (n : ℕ) (span : Span) (x : ClassTree) : Type 0 where
    pub whole : is_whole classes.headers owns n ≡ true
    pub known : Known
    pub head : class_header_said classes c known n span x ≡ []

  abbrev pub ClassOf : ℕ → StmtTree → Type 0
  ClassOf n (s.at (s.ClassDef name bases body marks) span) = IsPlainClass n span (record { name = name; bases = bases; body = body; marks = marks })
  ClassOf n _ = Unit {0}

  pub record ClassThen (n : ℕ) (x : StmtTree) (Rest : Type 0) : Type 0 where
    pub here : ClassOf n x
    pub rest : Rest

  abbrev pub AllClasses : ℕ → List StmtTree → Type 0
  AllClasses n [] = Unit {0}
  AllClasses n (x ∷ more) = ClassThen n x (AllClasses (n + length (class_in x)) more)

  -- nothing is said of these definitions themselves, nor in the annotations of their functions, which have no decorators; and so is each
  -- class
  pub record IsPlain (earlier : List (List ℕ)) (n : ℕ) (ds : List StmtTree) : Type 0 where
    pub own : all_plain_said roles classes.headers c.meaning earlier n ds ≡ []
    pub headers : flat_map (header_said c.meaning) (flat_map held_by ds) ≡ []
    pub marks : list_all (λ f. no_marks f.marks) (flat_map held_by ds) ≡ true
    pub heads : AllClasses n ds

  -- ---- functions

  undecorated : (span : Span) (name : List ℕ) (marks : List ExprTree) → decorated_said span name marks ≡ [] → marks ≡ []
  undecorated span name [] h = refl
  undecorated span name (mark ∷ marks) h = absurd (cc)

  function_plain : (k : Known) (span : Span) (whose : Owner) (fresh : Bool) (f : FuncTree) → f.marks ≡ [] → function_said c k span whose fresh (function_scope roles f) f ≡ []
      → (plain_function_said roles classes.headers c.meaning span whose fresh f ≡ []) × (header_said c.meaning f ≡ [])
  function_plain k span whose fresh f marks h =
      let decorators = decorators_said c k f.marks in
      let own = def_said span fresh (own_count (function_scope roles f)) (decorators_typed c k f.marks) f (header c.meaning whose f) in (
        ap (λ l. def_said span fresh (own_count (function_scope roles f)) (decorators_typed c k l) f (header c.meaning whose f)) (sym marks) ∙ none_behind (decorators ++ header_said c.meaning f) own h,
        none_behind decorators (header_said c.meaning f) (none_before (decorators ++ header_said c.meaning f) own h),
      )

  -- ---- the members of a class

  pub record ArePlain (whose : Owner) (earlier : List (List ℕ)) (body : Suite) : Type 0 where
    pub own : plain_members_said roles classes.headers c.meaning whose earlier body ≡ []
    pub headers : flat_map (header_said c.meaning) (methods_in body) ≡ []
    pub marks : list_all (λ f. no_marks f.marks) (methods_in body) ≡ true

  -- a statement that is no def, in front of others
  no_def : (whose : Owner) (earlier : List (List ℕ)) (x : StmtTree) (more : Suite) → method_in x ≡ [] → plain_member_said roles classes.headers c.meaning whose earlier x ≡ []
      → ArePlain whose (with_taken earlier (taken_name x)) more → ArePlain whose earlier (s.stmt_then x more)
  no_def whose earlier x more none own rest = record {
    own = two_none (plain_member_said roles classes.headers c.meaning whose earlier x) (plain_members_said roles classes.headers c.meaning whose (with_taken earlier (taken_name x)) more) own rest.own;
    headers = ap (λ l. flat_map (header_said c.meaning) (l ++ methods_in more)) none ∙ rest.headers;
    marks = ap (λ l. list_all (λ f. no_marks f.marks) (l ++ methods_in more)) none ∙ rest.marks;
  }

  members_plain : (k : Known) (whose : Owner) (earlier : List (List ℕ)) (body : Suite) → methods_refused body ≡ [] → members_said roles c k whose earlier body ≡ [] → ArePlain whose earlier body
  members_plain k whose earlier s.no_stmts r h = record { own = refl; headers = refl; marks = refl }
  members_plain k whose earlier (s.stmt_then x more) r h =
      let rest = members_plain k whose (with_taken earlier (taken_name x)) more (none_behind (method_refused x) (methods_refused more) r)
      (none_behind (member_said roles c k whose earlier x) (members_said roles c k whose (with_taken earlier (taken_name x)) more) h) in
      member_plain k whose earlier x more (none_before (method_refused x) (methods_refused more) r) (none_before (member_said roles c k whose earlier x) (members_said roles c k whose (with_taken earlier (taken_name x)) more) h) rest
    where
      member_plain : (k : Known) (whose : Owner) (earlier : List (List ℕ)) (x : StmtTree) (more : Suite) → method_refused x ≡ [] → member_said roles c k whose earlier x ≡ [] → ArePlain whose (with_taken earlier (taken_name x)) more
          → ArePlain whose earlier (s.stmt_then x more)
      member_plain k whose earlier (s.at (s.Def name params ret body marks) span) more r h rest =
          let f : FuncTree = record { name = name; params = params; ret = ret; body = body; marks = marks } in
          let free = undecorated span name marks r in
          let one = function_plain k span whose (is_new earlier name) f free h in
          record {
            own = two_none (plain_function_said roles classes.headers c.meaning span whose (is_new earlier name) f) (plain_members_said roles classes.headers c.meaning whose (with_taken earlier (taken_name (s.at (s.Def name params ret body marks) span))) more) one.0 rest.own;
            headers = two_none (header_said c.meaning f) (flat_map (header_said c.meaning) (methods_in more)) one.1 rest.headers;
            marks = both_true (no_marks marks) (list_all (λ g. no_marks g.marks) (methods_in more)) (ap no_marks free) rest.marks;
          }
      member_plain k whose earlier (s.at (s.Annot target mark None) span) more r h rest = no_def whose earlier (s.at (s.Annot target mark None) span) more refl h rest
      member_plain k whose earlier (s.at (s.Annot target mark (Some e)) span) more r h rest = no_def whose earlier (s.at (s.Annot target mark (Some e)) span) more refl refl rest
      member_plain k whose earlier x more r h rest = no_def whose earlier x more refl refl rest

  -- ---- definitions

  pub record OnePlain (earlier : List (List ℕ)) (n : ℕ) (x : StmtTree) : Type 0 where
    pub own : plain_said roles classes.headers c.meaning earlier n x ≡ []
    pub headers : flat_map (header_said c.meaning) (held_by x) ≡ []
    pub marks : list_all (λ f. no_marks f.marks) (held_by x) ≡ true
    pub class : ClassOf n x

  is_so : (b : Bool) (span : Span) (name : List ℕ) → unless_whole b span name ≡ [] → b ≡ true
  is_so true span name h = refl
  is_so false span name h = absurd (cc)

  one_plain : (k : Known) (earlier : List (List ℕ)) (n : ℕ) (x : StmtTree) → refused (is_whole classes.headers owns n) x ≡ [] → definition_said roles classes c k earlier n x ≡ [] → OnePlain earlier n x
  one_plain k earlier n (s.at (s.Def name params ret body marks) span) r h =
      let f : FuncTree = record { name = name; params = params; ret = ret; body = body; marks = marks } in
      let free = undecorated span name marks r in
      let one = function_plain k span owner.Module (is_new earlier name) f free h in
      record { own = one.0; headers = two_none (header_said c.meaning f) [] one.1 refl; marks = both_true (no_marks marks) true (ap no_marks free) refl; class = tt }
  one_plain k earlier n (s.at (s.ClassDef name bases body marks) span) r h =
      let x : ClassTree = record { name = name; bases = bases; body = body; marks = marks } in
      let whose = class_owner classes.headers n in
      let first = decorators_said c k marks ++ decorators_said c k bases in
      let inner = members_said roles c k whose [] body in
      let text = body_said c.meaning body in
      let head = class_header_said classes c k n span x in
      let before = none_before (first ++ inner ++ text) head h in
      let plain = members_plain k whose [] body (none_behind (unless_whole (is_whole classes.headers owns n) span name) (methods_refused body) r) (none_behind first inner (none_before (first ++ inner) text before)) in
      record {
        own = two_none (plain_members_said roles classes.headers c.meaning whose [] body) text plain.own (none_behind (first ++ inner) text before);
        headers = plain.headers;
        marks = plain.marks;
        class = record { whole = is_so (is_whole classes.headers owns n) span name (none_before (unless_whole (is_whole classes.headers owns n) span name) (methods_refused body) r); known = k; head = none_behind (first ++ inner ++ text) head h };
      }
  one_plain k earlier n (s.at (s.Import name other) span) r h = record { own = h; headers = refl; marks = refl; class = tt }
  one_plain k earlier n (s.at (s.From name names) span) r h = record { own = h; headers = refl; marks = refl; class = tt }
  one_plain k earlier n _ r h = record { own = refl; headers = refl; marks = refl; class = tt }

  all_plain : (k : Known) (earlier : List (List ℕ)) (n : ℕ) (ds : List StmtTree) → refusals classes.headers owns n ds ≡ [] → definitions_said roles classes c k earlier n ds ≡ [] → IsPlain earlier n ds
  all_plain k earlier n [] r h = record { own = refl; headers = refl; marks = refl; heads = tt }
  all_plain k earlier n (x ∷ ds) r h =
      let rest = definitions_said roles classes c k (earlier ++ names_given x) (n + length (class_in x)) ds in
      let others = refusals classes.headers owns (n + length (class_in x)) ds in
      let here = refused (is_whole classes.headers owns n) x in
      let one = one_plain k earlier n x (none_before here others r) (none_before (definition_said roles classes c k earlier n x) rest h) in
      let more = all_plain k (earlier ++ names_given x) (n + length (class_in x)) ds (none_behind here others r) (none_behind (definition_said roles classes c k earlier n x) rest h) in
      record {
        own = two_none (plain_said roles classes.headers c.meaning earlier n x) (all_plain_said roles classes.headers c.meaning (earlier ++ names_given x) (n + length (class_in x)) ds) one.own more.own;
        headers =
            flat_map-append (header_said c.meaning) (held_by x) (flat_map held_by ds)
            ∙ two_none (flat_map (header_said c.meaning) (held_by x)) (flat_map (header_said c.meaning) (flat_map held_by ds)) one.headers more.headers;
        marks =
            list_all-append (λ (f : FuncTree). no_marks f.marks) (held_by x) (flat_map held_by ds)
            ∙ both_true (list_all (λ (f : FuncTree). no_marks f.marks) (held_by x)) (list_all (λ (f : FuncTree). no_marks f.marks) (flat_map held_by ds)) one.marks more.marks;
        heads = record { here = one.class; rest = more.heads };
      }

  -- ---- two rows of definitions

  classes_two : (n m : ℕ) (a b : List StmtTree) → m ≡ n + length (classes_in a) → AllClasses n a → AllClasses m b → AllClasses n (a ++ b)
  classes_two n m [] b e p q = subst (λ k. AllClasses k b) (e ∙ omega arith) q
  classes_two n m (x ∷ a) b e p q = record { here = p.here; rest = classes_two (n + length (class_in x)) m a b (e ∙ counted n x a) p.rest q }
    where
      counted : (n : ℕ) (x : StmtTree) (a : List StmtTree) → n + length (classes_in (x ∷ a)) ≡ n + length (class_in x) + length (classes_in a)
      counted n x a = let many = length-append (class_in x) (classes_in a) in omega (arith, many)

  refusals_two : (n : ℕ) (a b : List StmtTree) → refusals classes.headers owns n (a ++ b) ≡ refusals classes.headers owns n a ++ refusals classes.headers owns (n + length (classes_in a)) b
  refusals_two n [] b = ap (λ k. refusals classes.headers owns k b) (omega arith)
  refusals_two n (x ∷ a) b =
      ap (λ l. refused (is_whole classes.headers owns n) x ++ l) (refusals_two (n + length (class_in x)) a b ∙ ap (λ k. refusals classes.headers owns (n + length (class_in x)) a ++ refusals classes.headers owns k b) (counted n x a))
      ∙ sym (append_assoc (refused (is_whole classes.headers owns n) x) (refusals classes.headers owns (n + length (class_in x)) a) (refusals classes.headers owns (n + length (classes_in (x ∷ a))) b))
    where
      counted : (n : ℕ) (x : StmtTree) (a : List StmtTree) → n + length (class_in x) + length (classes_in a) ≡ n + length (classes_in (x ∷ a))
      counted n x a = let many = length-append (class_in x) (classes_in a) in omega (arith, many)

  -- ---- along a module

  abbrev left : Known → Suite → Seen (List TypedStmt)
  left k more = block c outside nothing_around k more

  -- what is said of a statement, and of those behind it
  said_splits : (k : Known) (x : StmtTree) (more : Suite) → (left k (s.stmt_then x more)).said ≡ (left k (s.stmt_then x s.no_stmts)).said ++ (left (after c k x) more).said
  said_splits k x more = by (is_definition x) refl
    where
      by : (b : Bool) → is_definition x ≡ b → (if b then left k more else row_then (statement c outside nothing_around k x) (left (after c k x) more)).said ≡ (if b then left k s.no_stmts else row_then (statement c outside nothing_around k x) (left (after c k x) s.no_stmts)).said ++ (left (after c k x) more).said
      by true d = ap (λ y. (left y more).said) (sym (definition_after c k x d))
      by false d = ap (λ l. l ++ (left (after c k x) more).said) (sym (append-nil (statement c outside nothing_around k x).said))

  -- a module of which the walk says nothing
  pub record IsWalked (earlier : List (List ℕ)) (n : ℕ) (k : Known) (m : Suite) : Type 0 where
    pub plain : IsPlain earlier n (suite_definitions m)
    pub block : (left k m).said ≡ []

  pub walk_quiet : (k : Known) (earlier : List (List ℕ)) (n : ℕ) (m : Suite) → refusals classes.headers owns n (suite_definitions m) ≡ [] → walk_said roles classes c k earlier n m ≡ [] → IsWalked earlier n k m
  walk_quiet k earlier n s.no_stmts r h = record { plain = record { own = refl; headers = refl; marks = refl; heads = tt }; block = refl }
  walk_quiet k earlier n (s.stmt_then x more) r h =
      let ds = stmt_definitions x in
      let es = suite_definitions more in
      let names = earlier ++ flat_map names_given ds in
      let next = n + length (classes_in ds) in
      let said = definitions_said roles classes c k earlier n ds in
      let own = (left k (s.stmt_then x s.no_stmts)).said in
      let rest = walk_said roles classes c (after c k x) names next more in
      let rs = sym (refusals_two n ds es) ∙ r in
      let here = none_before (said ++ own) rest h in
      let one = all_plain k earlier n ds (none_before (refusals classes.headers owns n ds) (refusals classes.headers owns next es) rs) (none_before said own here) in
      let two = walk_quiet (after c k x) names next more (none_behind (refusals classes.headers owns n ds) (refusals classes.headers owns next es) rs) (none_behind (said ++ own) rest h) in
      record {
        plain = record {
          own =
              plain_two roles classes.headers c.meaning earlier n ds es
              ∙ two_none (all_plain_said roles classes.headers c.meaning earlier n ds) (all_plain_said roles classes.headers c.meaning names next es) one.own two.plain.own;
          headers =
              ap (flat_map (header_said c.meaning)) (flat_map-append held_by ds es)
              ∙ flat_map-append (header_said c.meaning) (flat_map held_by ds) (flat_map held_by es)
              ∙ two_none (flat_map (header_said c.meaning) (flat_map held_by ds)) (flat_map (header_said c.meaning) (flat_map held_by es)) one.headers two.plain.headers;
          marks =
              ap (list_all (λ (f : FuncTree). no_marks f.marks)) (flat_map-append held_by ds es)
              ∙ list_all-append (λ (f : FuncTree). no_marks f.marks) (flat_map held_by ds) (flat_map held_by es)
              ∙ both_true (list_all (λ (f : FuncTree). no_marks f.marks) (flat_map held_by ds)) (list_all (λ (f : FuncTree). no_marks f.marks) (flat_map held_by es)) one.marks two.plain.marks;
          heads = classes_two n next ds es refl one.heads two.plain.heads;
        };
        block = said_splits k x more ∙ two_none own (left (after c k x) more).said (none_behind said own here) two.block;
      }

-- where nothing is said, nothing was said, and nothing is refused
pub none_refused : (said refused : List Diag) → or_refused said refused ≡ [] → (said ≡ []) × (refused ≡ [])
none_refused [] refused h = (refl, h)
none_refused (d ∷ said) refused h = absurd (cc)
