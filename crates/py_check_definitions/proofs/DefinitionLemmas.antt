-- The walk over definitions says what is to be said of them.
use Rattle.std.proofs.Common.{◌≡◌, ◌∙◌, ℕ, suc, ◌+◌, ◌<◌, not, ◌&&◌, ◌||◌, List, [], ◌∷◌, ◌++◌, length, map, drop, get_or, drop-cons, add-one, length-append, arith, Option, Some, None, refl, ap, ap₂, sym, Bor}
use Rattle.std.proofs.lemmas.List.{append_assoc, append-nil}
use Rattle.std.proofs.lemmas.List.Folds.{list_any-append}
use Rattle.std.specs.List.{flat_map}
use Rattle.std.specs.Str.{bytes_eq}
use Rattle.indexmap.specs.IndexSet.{insert_all, insert_key}
use Rattle.py_syntax.specs.declared.token.Span.{Span}
use Rattle.py_syntax.specs.declared.statement.Stmt.{Stmt}
use Rattle.py_syntax.specs.Statements as s
use Rattle.py_syntax.specs.Statements.{StmtTree, StmtNode, Suite, FuncTree, stmt_tree}
use Rattle.py_syntax_diagnostics.specs.declared.diagnostic.Diag.{Diag}
use Rattle.py_binder.specs.declared.scope.Scope.{Scope}
use Rattle.py_binder.specs.Scope.{contains, Roles, function_scope}
use Rattle.py_binder.proofs.TableLemmas.{contains_all}
use Rattle.py_check_context.specs.declared.scope.Meaning.{Meaning}
use Rattle.py_check_context.specs.Context.{Context}
use Rattle.py_check_names.specs.Walked.{trees}
use Rattle.py_check_names.specs.Outline.{held_by, method_in, methods_in}
use Rattle.py_check_names.proofs.OutlineLemmas.{trees_at}
use Rattle.py_check_signatures.specs.declared.headers.Owner.{Owner}
use Rattle.py_check_signatures.specs.declared.headers.Owner.TheVariants as owner
use Rattle.py_check_signatures.specs.Definitions.{is_builtin_name}
use Rattle.py_check_classes.specs.Names.{class_in, classes_in}
use Rattle.py_check_members.specs.Deeds.{taken_name}
use Rattle.py_check_members.specs.Bodies.{body_said}
use Rattle.py_check_places.specs.Places.{Known}
use Rattle.py_check_definitions.specs.Decorators.{decorators_said}
use Rattle.py_check_definitions.specs.Owners.{class_owner}
use Rattle.py_check_definitions.specs.Classes.{ModuleClasses, class_header_said}
use Rattle.py_check_definitions.specs.Definitions.{function_said, with_taken, member_said, members_said, names_given, definition_said, definitions_said}
use Rattle.py_check_definitions.specs.Views.{insert_taken, member_at, members_along, said_at, said_along, names_behind, classes_behind, scopes_behind}

-- ---- the names that definitions give

firsts_at : (given : List (List ℕ × Meaning)) (i : ℕ) (p : List ℕ × Meaning) → i < length given → p ≡ get_or given i p → map (λ q. q.0) (drop i given) ≡ p.0 ∷ map (λ q. q.0) (drop (i + 1) given)
firsts_at given i p h at =
    ap (map (λ (q : List ℕ × Meaning). q.0)) (drop-cons given i p h)
    ∙ ap (λ (q : List ℕ × Meaning). q.0 ∷ map (λ (r : List ℕ × Meaning). r.0) (drop (suc i) given)) (sym at)
    ∙ ap (λ n. p.0 ∷ map (λ (r : List ℕ × Meaning). r.0) (drop n given)) (sym (add-one i))

pub given_step : (given : List (List ℕ × Meaning)) (i : ℕ) (p : List ℕ × Meaning) → i < length given → p ≡ get_or given i p → (ks ks2 all : List (List ℕ)) (y : List ℕ) → y ≡ p.0 → ks2 ≡ insert_key bytes_eq ks y → insert_all bytes_eq ks (map (λ q. q.0) (drop i given)) ≡ all → insert_all bytes_eq ks2 (map (λ q. q.0) (drop (i + 1) given)) ≡ all
given_step given i p h at ks ks2 all y is put before =
    ap (λ l. insert_all bytes_eq l (map (λ (q : List ℕ × Meaning). q.0) (drop (i + 1) given))) (put ∙ ap (insert_key bytes_eq ks) is)
    ∙ ap (insert_all bytes_eq ks) (sym (firsts_at given i p h at))
    ∙ before

-- ---- a step of the walk

module _ (defs : List (Bor Stmt)) (i : ℕ) (x : Bor Stmt) (h : i < length defs) (at : x ≡ get_or defs i x) where
  module _ (classes : ModuleClasses) (c : Context) (k : Known) where
    pub walk_step : (ks ks2 : List (List ℕ)) → ks2 ≡ insert_all bytes_eq ks (names_given (stmt_tree x.now)) → (n n2 : ℕ) → n2 ≡ n + length (class_in (stmt_tree x.now)) → (rs rs2 : List Scope) → rs2 ≡ drop (length (held_by (stmt_tree x.now))) rs → (d1 d2 whole : List Diag) → d2 ≡ d1 ++ said_at classes c k ks n rs (stmt_tree x.now) → d1 ++ said_along classes c k ks n rs (trees (drop i defs)) ≡ whole → d2 ++ said_along classes c k ks2 n2 rs2 (trees (drop (i + 1) defs)) ≡ whole
    walk_step ks ks2 put n n2 counted rs rs2 left d1 d2 whole one before =
        let t = stmt_tree x.now in
        let more = trees (drop (i + 1) defs) in
        ap (λ d. d ++ said_along classes c k ks2 n2 rs2 more) one
        ∙ append_assoc d1 (said_at classes c k ks n rs t) (said_along classes c k ks2 n2 rs2 more)
        ∙ ap (λ l. d1 ++ (said_at classes c k ks n rs t ++ said_along classes c k l n2 rs2 more)) put
        ∙ ap (λ m. d1 ++ (said_at classes c k ks n rs t ++ said_along classes c k (insert_all bytes_eq ks (names_given t)) m rs2 more)) counted
        ∙ ap (λ l. d1 ++ (said_at classes c k ks n rs t ++ said_along classes c k (insert_all bytes_eq ks (names_given t)) (n + length (class_in t)) l more)) left
        ∙ ap (λ l. d1 ++ said_along classes c k ks n rs l) (sym (trees_at defs i x h at))
        ∙ before

  pub names_step : (ks ks2 : List (List ℕ)) → ks2 ≡ insert_all bytes_eq ks (names_given (stmt_tree x.now)) → (whole : List (List ℕ)) → names_behind ks (trees (drop i defs)) ≡ whole → names_behind ks2 (trees (drop (i + 1) defs)) ≡ whole
  names_step ks ks2 put whole before =
      ap (λ l. names_behind l (trees (drop (i + 1) defs))) put ∙ ap (names_behind ks) (sym (trees_at defs i x h at)) ∙ before

  pub classes_step : (n n2 : ℕ) → n2 ≡ n + length (class_in (stmt_tree x.now)) → (whole : ℕ) → classes_behind n (trees (drop i defs)) ≡ whole → classes_behind n2 (trees (drop (i + 1) defs)) ≡ whole
  classes_step n n2 counted whole before =
      ap (λ m. classes_behind m (trees (drop (i + 1) defs))) counted ∙ ap (classes_behind n) (sym (trees_at defs i x h at)) ∙ before

  pub scopes_step : (rs rs2 : List Scope) → rs2 ≡ drop (length (held_by (stmt_tree x.now))) rs → (whole : List Scope) → scopes_behind rs (trees (drop i defs)) ≡ whole → scopes_behind rs2 (trees (drop (i + 1) defs)) ≡ whole
  scopes_step rs rs2 left whole before =
      ap (λ l. scopes_behind l (trees (drop (i + 1) defs))) left ∙ ap (scopes_behind rs) (sym (trees_at defs i x h at)) ∙ before

-- ---- the whole walk

-- names that stand earlier count as a set
abbrev pub Same : List (List ℕ) → List (List ℕ) → Type 0
Same a b = (q : List ℕ) → contains a q ≡ contains b q

same_with : (a b : List (List ℕ)) → Same a b → (more : List (List ℕ)) → Same (insert_all bytes_eq a more) (b ++ more)
same_with a b same more q =
    contains_all a more q ∙ list_any-append (bytes_eq q) a more ∙ ap (λ c. c || contains more q) (same q) ∙ sym (list_any-append (bytes_eq q) b more)

behind_front : {A B : Type 0} (f : A → B) (front more : List A) (rest : List B) → drop (length front) (map f (front ++ more) ++ rest) ≡ map f more ++ rest
behind_front f [] more rest = refl
behind_front f (a ∷ front) more rest = behind_front f front more rest

module _ (roles : Roles) where
  -- the scopes of the functions of definitions
  abbrev scopes : List FuncTree → List Scope
  scopes fs = map (function_scope roles) fs

  -- behind them are the scopes that stand behind those of their functions
  pub scopes_left : (ds : List StmtTree) (rest : List Scope) → scopes_behind (scopes (flat_map held_by ds) ++ rest) ds ≡ rest
  scopes_left [] rest = refl
  scopes_left (x ∷ more) rest =
      ap (λ l. scopes_behind l more) (behind_front (function_scope roles) (held_by x) (flat_map held_by more) rest) ∙ scopes_left more rest

-- and the names are those that they give
pub names_left : (a b : List (List ℕ)) → Same a b → (ds : List StmtTree) → Same (names_behind a ds) (b ++ flat_map names_given ds)
names_left a b same [] q = same q ∙ ap (λ l. contains l q) (sym (append-nil b))
names_left a b same (x ∷ more) q =
    names_left (insert_all bytes_eq a (names_given x)) (b ++ names_given x) (same_with a b same (names_given x)) more q
    ∙ ap (λ l. contains l q) (append_assoc b (names_given x) (flat_map names_given more))

-- and so many classes are theirs
pub classes_left : (n : ℕ) (ds : List StmtTree) → classes_behind n ds ≡ n + length (classes_in ds)
classes_left n [] = omega arith
classes_left n (x ∷ more) =
    let both = length-append (class_in x) (classes_in more) in
    let rest = classes_left (n + length (class_in x)) more in
    omega (arith, both, rest)

-- ---- the body of a class

same_taken : (a b : List (List ℕ)) → Same a b → (o : Option (List ℕ)) → Same (insert_taken a o) (with_taken b o)
same_taken a b same None q = same q
same_taken a b same (Some name) q = same_with a b same (name ∷ []) q

module _ (roles : Roles) (c : Context) (k : Known) (whose : Owner) where
  member_of : (a b : List (List ℕ)) → Same a b → (more : List FuncTree) (rest : List Scope) (node : StmtNode) (span : Span) → member_at c k whose a (map (function_scope roles) (method_in (s.at node span) ++ more) ++ rest) (s.at node span) ≡ member_said roles c k whose b (s.at node span)
  member_of a b same more rest (s.Def name params ret body marks) span =
      let f : FuncTree = record { name = name; params = params; ret = ret; body = body; marks = marks } in
      ap (λ known. function_said c k span whose (not known && not (is_builtin_name name)) (function_scope roles f) f) (same name)
  member_of a b same more rest (s.Annot target mark None) span = refl
  member_of a b same more rest (s.Annot target mark (Some e)) span = refl
  member_of a b same more rest (s.ClassDef name bases body marks) span = refl
  member_of a b same more rest (s.Import name other) span = refl
  member_of a b same more rest (s.From name names) span = refl
  member_of a b same more rest (s.Do e) span = refl
  member_of a b same more rest (s.Assign target e) span = refl
  member_of a b same more rest (s.Aug target op e) span = refl
  member_of a b same more rest (s.Del e) span = refl
  member_of a b same more rest s.Pass span = refl
  member_of a b same more rest s.Break span = refl
  member_of a b same more rest s.Continue span = refl
  member_of a b same more rest (s.Return e) span = refl
  member_of a b same more rest (s.Raise e) span = refl
  member_of a b same more rest (s.Global names) span = refl
  member_of a b same more rest (s.Assert e message) span = refl
  member_of a b same more rest (s.If arms other) span = refl
  member_of a b same more rest (s.While test body) span = refl
  member_of a b same more rest (s.For target e body) span = refl
  member_of a b same more rest (s.Try body handlers last) span = refl

  member_one : (a b : List (List ℕ)) → Same a b → (more : List FuncTree) (rest : List Scope) (x : StmtTree) → member_at c k whose a (map (function_scope roles) (method_in x ++ more) ++ rest) x ≡ member_said roles c k whose b x
  member_one a b same more rest (s.at node span) = member_of a b same more rest node span

  -- along a body, whose methods have the first of these scopes
  members_say : (a b : List (List ℕ)) → Same a b → (body : Suite) (more : List FuncTree) (rest : List Scope) → members_along c k whose a (map (function_scope roles) (methods_in body ++ more) ++ rest) body ≡ members_said roles c k whose b body
  members_say a b same s.no_stmts more rest = refl
  members_say a b same (s.stmt_then x tail) more rest =
      let a2 = insert_taken a (taken_name x) in
      let b2 = with_taken b (taken_name x) in
      let scopes_of : List FuncTree → List Scope = λ fs. map (function_scope roles) fs ++ rest in
      ap (λ fs. member_at c k whose a (scopes_of fs) x ++ members_along c k whose a2 (drop (length (method_in x)) (scopes_of fs)) tail) (append_assoc (method_in x) (methods_in tail) more)
      ∙ ap₂ (λ (p q : List Diag). p ++ q) (member_one a b same (methods_in tail ++ more) rest x)
      (ap (λ l. members_along c k whose a2 l tail) (behind_front (function_scope roles) (method_in x) (methods_in tail ++ more) rest)
      ∙ members_say a2 b2 (same_taken a b same (taken_name x)) tail more rest)

nothing_earlier : Same [] []
nothing_earlier q = refl

module _ (roles : Roles) (classes : ModuleClasses) (c : Context) (k : Known) where
  one_said : (a b : List (List ℕ)) → Same a b → (n : ℕ) (more : List FuncTree) (rest : List Scope) (node : StmtNode) (span : Span) → said_at classes c k a n (map (function_scope roles) (held_by (s.at node span) ++ more) ++ rest) (s.at node span) ≡ definition_said roles classes c k b n (s.at node span)
  one_said a b same n more rest (s.Def name params ret body marks) span =
      let f : FuncTree = record { name = name; params = params; ret = ret; body = body; marks = marks } in
      ap (λ known. function_said c k span owner.Module (not known && not (is_builtin_name name)) (function_scope roles f) f) (same name)
  one_said a b same n more rest (s.ClassDef name bases body marks) span =
      ap (λ l. decorators_said c k marks ++ decorators_said c k bases ++ l ++ body_said c.meaning body ++ class_header_said classes c k n span (record { name = name; bases = bases; body = body; marks = marks }))
      (members_say roles c k (class_owner classes.headers n) [] [] nothing_earlier body more rest)
  one_said a b same n more rest (s.Import name other) span = refl
  one_said a b same n more rest (s.From name names) span = refl
  one_said a b same n more rest (s.Do e) span = refl
  one_said a b same n more rest (s.Assign target e) span = refl
  one_said a b same n more rest (s.Annot target mark e) span = refl
  one_said a b same n more rest (s.Aug target op e) span = refl
  one_said a b same n more rest (s.Del e) span = refl
  one_said a b same n more rest s.Pass span = refl
  one_said a b same n more rest s.Break span = refl
  one_said a b same n more rest s.Continue span = refl
  one_said a b same n more rest (s.Return e) span = refl
  one_said a b same n more rest (s.Raise e) span = refl
  one_said a b same n more rest (s.Global names) span = refl
  one_said a b same n more rest (s.Assert e message) span = refl
  one_said a b same n more rest (s.If arms other) span = refl
  one_said a b same n more rest (s.While test body) span = refl
  one_said a b same n more rest (s.For target e body) span = refl
  one_said a b same n more rest (s.Try body handlers last) span = refl

  one_of : (a b : List (List ℕ)) → Same a b → (n : ℕ) (more : List FuncTree) (rest : List Scope) (x : StmtTree) → said_at classes c k a n (map (function_scope roles) (held_by x ++ more) ++ rest) x ≡ definition_said roles classes c k b n x
  one_of a b same n more rest (s.at node span) = one_said a b same n more rest node span

  -- THE WALK says what is to be said
  pub walk_says : (a b : List (List ℕ)) → Same a b → (n : ℕ) (ds : List StmtTree) (rest : List Scope) → said_along classes c k a n (map (function_scope roles) (flat_map held_by ds) ++ rest) ds ≡ definitions_said roles classes c k b n ds
  walk_says a b same n [] rest = refl
  walk_says a b same n (x ∷ more) rest =
      ap₂ (λ (p q : List Diag). p ++ q) (one_of a b same n (flat_map held_by more) rest x)
      (ap (λ l. said_along classes c k (insert_all bytes_eq a (names_given x)) (n + length (class_in x)) l more) (behind_front (function_scope roles) (held_by x) (flat_map held_by more) rest)
      ∙ walk_says (insert_all bytes_eq a (names_given x)) (b ++ names_given x) (same_with a b same (names_given x)) (n + length (class_in x)) more rest)
