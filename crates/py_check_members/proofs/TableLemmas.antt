-- The table of members, class by class.
use Rattle.std.proofs.Common.{◌≡◌, ◌∙◌, ℕ, zero, suc, ◌+◌, ◌<◌, ◌≤◌, Bool, true, false, List, [], ◌∷◌, ◌++◌, length, map, drop, get_or, slice_get, Option, Some, None, option_and_then, option_map, codes, refl, sym, ap, subst, arith, Bor, if◌then◌else◌, length-append}
use Rattle.std.specs.List.{flat_map}
use Rattle.std.specs.Map.{lookup}
use Rattle.std.specs.Str.{bytes_eq}
use Rattle.std.proofs.Math.Path.{fun_ext}
use Rattle.std.proofs.lemmas.Option.{slice_get-map}
use Rattle.std.proofs.lemmas.List.{length-map, map-append}
use Rattle.py_syntax.specs.declared.statement.Stmt.{Stmt}
use Rattle.py_syntax.specs.declared.statement.Class.{Class, out-Class}
use Rattle.py_syntax.specs.declared.statement.StmtKind as kind
use Rattle.py_syntax.specs.declared.expression.Expr.{Expr}
use Rattle.py_syntax.specs.Statements.{StmtTree, at, Def, ClassTree, Suite, stmt_tree, stmt_node, class_tree, body_tree, param_tree}
use Rattle.py_syntax.proofs.StatementLemmas.{stmt_tree_at, stmt_node-Class}
use Rattle.py_check_context.specs.declared.members.ClassMembers.{ClassMembers}
use Rattle.py_typed.specs.declared.classes.ClassInfo.{ClassInfo}
use Rattle.py_typed.specs.Classes.{class_entry}
use Rattle.py_check_classes.specs.Views.{class_parts}
use Rattle.py_check_context.specs.declared.scope.Meaning.{Meaning}
use Rattle.py_check_context.specs.Context.{context}
use Rattle.py_check_context.specs.Members.{Member}
use Rattle.py_check_names.specs.Walked.{trees}
use Rattle.py_check_names.specs.Outline.{held_by, method_in, methods_in}
use Rattle.py_check_names.proofs.OutlineLemmas.{trees_at}
use Rattle.py_check_classes.specs.declared.header.Header.{Header}
use Rattle.py_check_classes.specs.declared.header.Header.TheVariants.{Typed, Untyped}
use Rattle.py_check_classes.specs.Headers as headers
use Rattle.py_check_classes.specs.Names.{class_in, classes_in, said_of_names}
use Rattle.py_check_classes.proofs.HeaderLemmas.{class_tree_at}
use Rattle.py_check_classes.proofs.OrderLemmas as order
use Rattle.py_check_classes.proofs.OrderLemmas.{Where, before, past, place, front_get, last_get, get_behind}
use Rattle.py_check_members.specs.declared.tables.Known.{Known}
use Rattle.py_check_members.specs.Deeds.{Event, stmt_events, suite_assignments, init_events, init_function, class_events}
use Rattle.py_check_members.specs.Members.{Owns, ClassText, class_text, class_texts, owns_behind, own_behind, order_in, row_above, above_in, each_once, made_from, inner_meaning, function_of, row_of, own_at, class_entry_of, entries_from}
use Rattle.py_check_members.specs.Tables.{inner_of, own_by, owns_from, own_of_body, typed_own, above_by, bases_in, IsLinked, AreLinked, IsBare, IsNext}
use Rattle.py_check_members.specs.Views.{own_of}

module _ (k : Known) where
  pub owns_append : (front : Owns) (xs ys : List ClassText) → owns_from k front (xs ++ ys) ≡ owns_from k (owns_from k front xs) ys
  owns_append front [] ys = refl
  owns_append front (x ∷ xs) ys = owns_append (front ++ own_by k front x ∷ []) xs ys

  -- one definition further
  pub owns_on : (defs : List (Bor Stmt)) (i first next : ℕ) (x : Bor Stmt) (owns more whole : Owns) → i < length defs → x ≡ get_or defs i x → next ≡ first + length (held_by (stmt_tree x.now))
      → more ≡ owns_from k owns (map (class_text first) (class_in (stmt_tree x.now)))
      → owns_from k owns (class_texts first (trees (drop i defs))) ≡ whole
      → owns_from k more (class_texts next (trees (drop (i + 1) defs))) ≡ whole
  owns_on defs i first next x owns more whole h is_at count put sofar =
      ap (λ n. owns_from k more (class_texts n (trees (drop (i + 1) defs)))) count
      ∙ ap (λ o. owns_from k o (class_texts (first + length (held_by (stmt_tree x.now))) (trees (drop (i + 1) defs)))) put
      ∙ sym (owns_append owns (map (class_text first) (class_in (stmt_tree x.now))) (class_texts (first + length (held_by (stmt_tree x.now))) (trees (drop (i + 1) defs))))
      ∙ ap (λ l. owns_from k owns (class_texts first l)) (sym (trees_at defs i x h is_at))
      ∙ sofar

-- the functions that are left
pub count_on : (defs : List (Bor Stmt)) (i first next whole : ℕ) (x : Bor Stmt) → i < length defs → x ≡ get_or defs i x → next ≡ first + length (held_by (stmt_tree x.now)) → first + length (flat_map held_by (trees (drop i defs))) ≡ whole → next + length (flat_map held_by (trees (drop (i + 1) defs))) ≡ whole
count_on defs i first next whole x h is_at count sofar =
    let parts = ap (λ l. length (flat_map held_by l)) (trees_at defs i x h is_at) ∙ length-append (held_by (stmt_tree x.now)) (flat_map held_by (trees (drop (i + 1) defs))) in
    omega (arith, count, sofar, parts)

pub held_few : (defs : List (Bor Stmt)) (i first whole : ℕ) (x : Bor Stmt) → i < length defs → x ≡ get_or defs i x → first + length (flat_map held_by (trees (drop i defs))) ≡ whole → first + length (held_by (stmt_tree x.now)) ≤ whole
held_few defs i first whole x h is_at sofar =
    let parts = ap (λ l. length (flat_map held_by l)) (trees_at defs i x h is_at) ∙ length-append (held_by (stmt_tree x.now)) (flat_map held_by (trees (drop (i + 1) defs))) in
    omega (arith, sofar, parts)

-- one class more is linked
pub linked_on : (hs : List Header) (members more : List ClassMembers) (class : ClassMembers) → AreLinked hs members → IsLinked hs (length members) class → more ≡ members ++ class ∷ [] → AreLinked hs more
linked_on hs members more class old new put = record { each = λ n c e. by n c (place (length members) n) (sym (ap (λ l. slice_get l n) put) ∙ e) }
  where
    by : (n : ℕ) (c : ClassMembers) → Where (length members) n → slice_get (members ++ class ∷ []) n ≡ Some c → IsLinked hs n c
    by n c (before l) e = old.each n c (sym (front_get members class n l) ∙ e)
    by n c (order.at q) e =
        let same : class ≡ c = (let f = sym (ap (λ i. slice_get (members ++ class ∷ []) i) q ∙ last_get members class) ∙ e in cc) in
        subst (λ i. IsLinked hs i c) (sym q) (subst (λ d. IsLinked hs (length members) d) same new)
    by n c (past l) e = absurd (let f = sym (get_behind members class n l) ∙ e in cc)

-- ---- how many classes there are

pub owns_long : (hs : List Header) (meanings : List ℕ → Meaning) (inner : ℕ → List ℕ → Meaning) (front : Owns) (xs : List ClassText) → length (owns_behind hs meanings inner front xs) ≡ length front + length xs
owns_long hs meanings inner front [] = omega arith
owns_long hs meanings inner front (x ∷ xs) =
    let rest = owns_long hs meanings inner (front ++ own_behind hs meanings inner front x ∷ []) xs in
    let one = length-append front (own_behind hs meanings inner front x ∷ []) in
    omega (arith, rest, one)

pub texts_long : (first : ℕ) (defs : List StmtTree) → length (class_texts first defs) ≡ length (classes_in defs)
texts_long first [] = refl
texts_long first (s ∷ defs) =
    let a = length-append (map (class_text first) (class_in s)) (class_texts (first + length (held_by s)) defs) in
    let b = length-append (class_in s) (classes_in defs) in
    let m = length-map (class_in s) (class_text first) in
    let rest = texts_long (first + length (held_by s)) defs in
    omega (arith, a, b, m, rest)

pub headers_long : (said : List ℕ → Option Meaning) (front : List Header) (cs : List ClassTree) → length (headers.headers_behind said front cs) ≡ length front + length cs
headers_long said front [] = omega arith
headers_long said front (c ∷ cs) =
    let rest = headers_long said (front ++ headers.header said front c ∷ []) cs in
    let one = length-append front (headers.header said front c ∷ []) in
    omega (arith, rest, one)

pub linked_none : (hs : List Header) (members : List ClassMembers) → members ≡ [] → AreLinked hs members
linked_none hs members e = record { each = λ n c f. absurd (let g = sym (ap (λ l. slice_get l n) e) ∙ f in cc) }

-- ---- one class

no_bases : (o : Option Header) → headers.has_type o ≡ false → bases_in o ≡ []
no_bases None e = refl
no_bases (Some (Typed s)) e = absurd (cc)
no_bases (Some (Untyped u)) e = refl

pub typed_within : (hs : List Header) (n : ℕ) → headers.has_type (slice_get hs n) ≡ true → n < length hs
typed_within [] n e = absurd (cc)
typed_within (h ∷ hs) zero e = omega arith
typed_within (h ∷ hs) (suc n) e = let l = typed_within hs n e in omega (arith, l)

module _ (k : Known) (members : List ClassMembers) (first : ℕ) (body : Suite) (class : ClassMembers) where
  of_body : (b : Bool) → headers.has_type (slice_get k.classes.now.headers (length members)) ≡ b → own_of_body k (map own_of members) first body ≡ (if b then typed_own k (map own_of members) (row_above k.classes.now.headers (length members)) first body else [])
  of_body b e =
      ap (λ n. if headers.has_type (slice_get k.classes.now.headers n) then typed_own k (map own_of members) (row_above k.classes.now.headers n) first body else []) (length-map members own_of)
      ∙ ap (λ t. if t then typed_own k (map own_of members) (row_above k.classes.now.headers (length members)) first body else []) e

  pub bare_next : headers.has_type (slice_get k.classes.now.headers (length members)) ≡ false → IsBare class → IsNext k members first body class
  bare_next e bare = record {
    own = bare.own ∙ sym (of_body false e);
    linked = record {
      init = bare.init ∙ sym (ap (λ l. option_and_then function_of (lookup (bytes_eq (codes "__init__")) l)) bare.own);
      above = bare.above ∙ sym (ap (λ bs. above_by bs (row_above k.classes.now.headers (length members))) (no_bases (slice_get k.classes.now.headers (length members)) e));
    };
  }

  pub typed_next : (row behind : List ℕ) → headers.has_type (slice_get k.classes.now.headers (length members)) ≡ true → row ≡ order_in k.classes.now.headers (length members) → behind ≡ drop 1 row
      → own_of class ≡ typed_own k (map own_of members) behind first body → class.init ≡ option_and_then function_of (lookup (bytes_eq (codes "__init__")) (own_of class))
      → class.above ≡ above_by (bases_in (slice_get k.classes.now.headers (length members))) behind → IsNext k members first body class
  typed_next row behind e order cut own init above =
      let row_is : behind ≡ row_above k.classes.now.headers (length members) = cut ∙ ap (drop 1) order in
      record {
        own = own ∙ ap (λ r. typed_own k (map own_of members) r first body) row_is ∙ sym (of_body true e);
        linked = record { init = init; above = above ∙ ap (above_by (bases_in (slice_get k.classes.now.headers (length members)))) row_is };
      }

-- ---- a class of the text

pub body_is : (c : Class) (body : List Stmt) → body ≡ (out-Class c).body → (class_tree c).body ≡ body_tree body
body_is c body e = ap (λ (t : ClassTree). t.body) (class_tree_at c) ∙ ap body_tree (sym e)

module _ (k : Known) (members slice more : List ClassMembers) (first : ℕ) (c : Class) (body : List Stmt) (class : ClassMembers) where
  pub class_added : slice ≡ members → body ≡ (out-Class c).body → IsNext k slice first (body_tree body) class → more ≡ members ++ class ∷ []
      → map own_of more ≡ map own_of members ++ own_by k (map own_of members) (class_text first (class_tree c)) ∷ []
  class_added s e next put =
      ap (map own_of) put
      ∙ map-append own_of members (class ∷ [])
      ∙ ap (λ o. map own_of members ++ o ∷ [])
      (next.own
      ∙ ap (λ m. own_of_body k (map own_of m) first (body_tree body)) s
      ∙ ap (λ b. own_of_body k (map own_of members) first b) (sym (body_is c body e)))

  pub class_linked : slice ≡ members → AreLinked k.classes.now.headers members → IsNext k slice first (body_tree body) class → more ≡ members ++ class ∷ [] → AreLinked k.classes.now.headers more
  class_linked s old next put = linked_on k.classes.now.headers members more class old (subst (λ m. IsLinked k.classes.now.headers (length m) class) s next.linked) put

-- ---- the own members of a class with a type

module _ (k : Known) (members : List ClassMembers) (row : List ℕ) (first : ℕ) (body : Suite) where
  pub typed_found : (names among : List ℕ → Meaning) (n : ℕ) (events : List Event) (init : Option ℕ) (own : List (List ℕ × Member))
      → names ≡ among → ((x : List ℕ) → among x ≡ inner_meaning (inner_of k) init x) → init ≡ init_function first body → n ≡ length members → events ≡ class_events first body
      → own ≡ each_once (made_from (context k.scope.now).meaning names n (above_in (map own_of members) row) events 0 events)
      → own ≡ typed_own k (map own_of members) row first body
  typed_found names among n events init own same means is_init count text e =
      e
      ∙ ap (λ m. each_once (made_from (context k.scope.now).meaning m n (above_in (map own_of members) row) events 0 events)) (same ∙ fun_ext means ∙ ap (λ i x. inner_meaning (inner_of k) i x) is_init)
      ∙ ap (λ m. each_once (made_from (context k.scope.now).meaning (inner_meaning (inner_of k) (init_function first body)) m (above_in (map own_of members) row) events 0 events)) (count ∙ sym (length-map members own_of))
      ∙ ap (λ vs. each_once (made_from (context k.scope.now).meaning (inner_meaning (inner_of k) (init_function first body)) (length (map own_of members)) (above_in (map own_of members) row) vs 0 vs)) text

-- ---- all classes

pub members_long : (k : Known) (defs : List StmtTree) (members : List ClassMembers) → map own_of members ≡ owns_from k [] (class_texts 0 defs) → k.classes.now.headers ≡ headers.headers defs → length members ≡ length k.classes.now.headers
members_long k defs members e h =
    let a = length-map members own_of in
    let b = ap length e in
    let c = owns_long k.classes.now.headers (context k.scope.now).meaning (inner_of k) [] (class_texts 0 defs) in
    let d = texts_long 0 defs in
    let f = ap length h in
    let g = headers_long (said_of_names defs) [] (classes_in defs) in
    omega (arith, a, b, c, d, f, g)

-- ---- `__init__`

first_is : (ps : List (List ℕ × Option Expr)) (x : List ℕ × Option Expr) (body : Suite) → 1 ≤ length ps → x ≡ get_or ps 0 x → flat_map (stmt_events x.0 (map param_tree ps)) (suite_assignments body) ≡ init_events (map param_tree ps) body
first_is [] x body l is = absurd (omega (arith, l))
first_is (q ∷ ps) x body l is = ap (λ (y : List ℕ × Option Expr). flat_map (stmt_events y.0 (map param_tree (q ∷ ps))) (suite_assignments body)) is

pub first_among : (ps params : List (List ℕ × Option Expr)) (x : List ℕ × Option Expr) (body : Suite) → ps ≡ params → 1 ≤ length ps → x ≡ get_or ps 0 x → flat_map (stmt_events x.0 (map param_tree params)) (suite_assignments body) ≡ init_events (map param_tree params) body
first_among ps params x body e l is =
    subst (λ (qs : List (List ℕ × Option Expr)). flat_map (stmt_events x.0 (map param_tree qs)) (suite_assignments body) ≡ init_events (map param_tree qs) body) e (first_is ps x body l is)

one_method : (s : StmtTree) → length (method_in s) ≤ 1
one_method (at (Def name params ret body marks) span) = omega arith
one_method _ = omega arith

pub methods_few : (ss : List Stmt) → length (methods_in (body_tree ss)) ≤ length ss
methods_few [] = omega arith
methods_few (s ∷ ss) =
    let a = length-append (method_in (stmt_tree s)) (methods_in (body_tree ss)) in
    let one = one_method (stmt_tree s) in
    let rest = methods_few ss in
    omega (arith, a, one, rest)

-- ---- the classes as typing sees them

class_in_text : (s : Stmt) (c : Class) → s.kind ≡ kind.Class c → class_in (stmt_tree s) ≡ class_tree c ∷ []
class_in_text s c is = ap class_in (stmt_tree_at s) ∙ ap (λ k. class_in (at (stmt_node k) s.span)) is ∙ ap (λ n. class_in (at n s.span)) (stmt_node-Class c)

pub entries_next : (hs : List Header) (members : List ClassMembers) (list more : List ClassInfo) (info : ClassInfo) (s : Stmt) (c : Class) (seen : List ClassInfo) (h : Option Header) (m : Option ClassMembers) → s.kind ≡ kind.Class c
    → seen ≡ list → h ≡ slice_get hs (length seen) → m ≡ slice_get members (length seen)
    → class_entry info ≡ class_entry_of h (class_parts c).name (row_of (option_map own_of m)) → more ≡ list ++ info ∷ []
    → map class_entry more ≡ map class_entry list ++ entries_from hs (map own_of members) (length (map class_entry list)) (class_in (stmt_tree s))
entries_next hs members list more info s c seen h m is see head own made put =
    let long : length seen ≡ length (map class_entry list) = ap length see ∙ sym (length-map list class_entry) in
    ap (map class_entry) put
    ∙ map-append class_entry list (info ∷ [])
    ∙ ap (λ e. map class_entry list ++ e ∷ [])
    (made
    ∙ ap (λ o. class_entry_of o (class_parts c).name (row_of (option_map own_of m))) (head ∙ ap (slice_get hs) long)
    ∙ ap (λ o. class_entry_of (slice_get hs (length (map class_entry list))) (class_parts c).name (row_of o)) (ap (option_map own_of) (own ∙ ap (slice_get members) long) ∙ sym (slice_get-map own_of members (length (map class_entry list))))
    ∙ ap (λ (t : ClassTree). class_entry_of (slice_get hs (length (map class_entry list))) t.name (own_at (map own_of members) (length (map class_entry list)))) (sym (class_tree_at c)))
    ∙ sym (ap (λ cs. map class_entry list ++ entries_from hs (map own_of members) (length (map class_entry list)) cs) (class_in_text s c is))
