-- What the steps of the program give, by the definitions of headers and orders.
use Rattle.std.proofs.Common.{◌≡◌, ◌∙◌, ℕ, ◌+◌, ◌<◌, Bool, true, false, nat_lt, List, [], ◌∷◌, ◌++◌, length, map, drop, get_or, slice_get, Option, Some, None, is_some, refl, sym, ap, subst, if◌then◌else◌, arith, Bor}
use Rattle.std.specs.List.{list_any, list_all}
use Rattle.std.specs.Map.{lookup}
use Rattle.std.specs.Option.{option_or}
use Rattle.std.specs.Str.{bytes_eq}
use Rattle.std.proofs.Math.Path.{fun_ext}
use Rattle.std.proofs.lemmas.List.{length-map}
use Rattle.py_syntax.specs.declared.statement.Stmt.{Stmt}
use Rattle.py_syntax.specs.declared.statement.Class.{Class}
use Rattle.py_syntax.specs.Statements.{StmtTree, ClassTree, Suite, stmt_tree, class_tree}
use Rattle.py_typed.specs.Classes.{bases_of}
use Rattle.py_typed.specs.Order.{merge, order, listed_order}
use Rattle.py_typed.proofs.FitLemmas.{and_left}
use Rattle.py_check_context.specs.declared.scope.Meaning.{Meaning}
use Rattle.py_check_names.specs.Outline.{said_from}
use Rattle.py_check_names.specs.Walked.{trees}
use Rattle.py_check_names.proofs.OutlineLemmas.{trees_at}
use Rattle.class_layout.specs.Merging.{are_below, behind}
use Rattle.py_check_classes.specs.declared.header.Header.{Header}
use Rattle.py_check_classes.specs.declared.header.Header.TheVariants.{Typed}
use Rattle.py_check_classes.specs.declared.header.Shape.{Shape}
use Rattle.py_check_classes.specs.declared.header.HeaderFault.{HeaderFault}
use Rattle.py_check_classes.specs.declared.header.HeaderFault.TheVariants.{NoOrder}
use Rattle.py_check_classes.specs.Names.{is_new, are_decorators, is_trait_mark, numbered, class_in, classes_in}
use Rattle.py_check_classes.specs.Rows.{those_there, differ}
use Rattle.py_check_classes.specs.Headers.{entry, is_earlier, is_untyped, order_behind, early_fault, order_fault, without_type, settled, bases_named, shape, header, headers_behind, headers}
use Rattle.py_check_classes.specs.Kept.{kept_order, AreKept, only_one, or_alone, kept_in, rows_above}
use Rattle.py_check_classes.specs.Views.{class_parts}
use Rattle.py_check_classes.proofs.OrderLemmas.{base_below, row_on, row_end, order_new, rows_below}
use Rattle.py_check_classes.proofs.HeaderLemmas.{class_tree_at, early_none, those_below, few_ordered, few_kept, kept_on}

-- ---- along the bases of a class

module _ (hs : List Header) (orders : List (List ℕ)) (k : AreKept (map entry hs) orders) where
  near : (c : ℕ) → c < length hs → c < length (map entry hs)
  near c l = let many = length-map hs entry in omega (arith, l, many)

  -- from a class with one base to that base
  pub row_further : (at b : ℕ) (row row2 whole : List ℕ) → at < length hs → Some b ≡ only_one (bases_of (map entry hs) at) → row2 ≡ row ++ at ∷ [] → row ++ listed_order (order (map entry hs) at) ≡ whole
      → (b < length hs) × (row2 ++ listed_order (order (map entry hs) b) ≡ whole) × (b < at)
  row_further at b row row2 whole l one put sofar =
      let less = base_below (map entry hs) orders k at b (sym one) in (
        omega (arith, l, less),
        ap (λ r. r ++ listed_order (order (map entry hs) b)) put ∙ row_on (map entry hs) orders k at b row (near at l) (sym one) ∙ sofar,
        less,
      )

  -- and the end
  pub row_whole : (at : ℕ) (row row2 whole : List ℕ) → at < length hs → None ≡ only_one (bases_of (map entry hs) at) → row2 ≡ row ++ or_alone at (kept_in (slice_get orders at)) → row ++ listed_order (order (map entry hs) at) ≡ whole → row2 ≡ whole
  row_whole at row row2 whole l none put sofar = put ∙ ap (λ r. row ++ r) (row_end (map entry hs) orders k at (near at l) (sym none)) ∙ sofar

  -- ---- the order of a new class

  module _ (s : Shape) (below : list_all (λ b. nat_lt b (length hs)) s.bases ≡ true) (n : ℕ) (is : n ≡ length hs) (rows : List (List ℕ)) (are : rows ≡ rows_above (map entry hs) s.bases ++ s.bases ∷ []) where
    many : length (map entry hs) ≡ n
    many = length-map hs entry ∙ sym is

    below_entries : list_all (λ b. nat_lt b (length (map entry hs))) s.bases ≡ true
    below_entries = ap (λ m. list_all (λ b. nat_lt b m) s.bases) (length-map hs entry) ∙ below

    pub rows_fit : are_below n rows ≡ true
    rows_fit = ap (are_below n) are ∙ ap (λ m. are_below m (rows_above (map entry hs) s.bases ++ s.bases ∷ [])) (sym many) ∙ rows_below (map entry hs) (entry (Typed s)) k.falls below_entries k.ordered

    pub merged_is : (first : List ℕ) → first ≡ n ∷ [] → behind first (merge rows) ≡ order_behind hs s
    merged_is first e =
        ap (λ f. behind f (merge rows)) (e ∙ ap (λ m. m ∷ []) (sym many))
        ∙ ap (λ r. behind (length (map entry hs) ∷ []) (merge r)) are
        ∙ order_new (map entry hs) (entry (Typed s)) k.falls below_entries k.ordered
        ∙ ap (order (map entry hs ++ entry (Typed s) ∷ [])) (length-map hs entry)

  -- ---- the header of a class in which nothing else is wrong

  module _ (s : Shape) (below : list_all (λ b. nat_lt b (length hs)) s.bases ≡ true) where
    pub ordered_few : length s.bases < 2 → Typed s ≡ settled s (order_fault hs s)
    ordered_few few = sym (ap (λ b. settled s (if b then None else Some NoOrder)) (few_ordered hs k.falls (entry (Typed s)) few below k.ordered))

pub ordered_some : (hs : List Header) (s : Shape) (row : List ℕ) → Some row ≡ order_behind hs s → Typed s ≡ settled s (order_fault hs s)
ordered_some hs s row e = ap (λ o. settled s (if is_some o then None else Some NoOrder)) e

pub ordered_none : (hs : List Header) (s : Shape) → None ≡ order_behind hs s → without_type s.is_trait (Some NoOrder) ≡ settled s (order_fault hs s)
ordered_none hs s e = ap (λ o. settled s (if is_some o then None else Some NoOrder)) e

-- what is kept of a class without bases that count
pub bare_kept : (hs : List Header) (h : Header) (row : List ℕ) → (entry h).bases ≡ [] → row ≡ [] → row ≡ kept_order (map entry hs ++ entry h ∷ []) (length hs)
bare_kept hs h row none e =
    let short = ap length none in
    e ∙ few_kept hs (entry h) (omega (arith, short))

-- ---- the header of a class

pub shape_below : (hs : List Header) (new marked : Bool) (named : List (Option ℕ)) (s : Shape) (body : Suite) → None ≡ early_fault hs new marked named s body → s.bases ≡ those_there named → list_all (λ b. nat_lt b (length hs)) s.bases ≡ true
shape_below hs new marked named s body e is =
    let right : _ = early_none hs new marked named s body (sym e) in
    ap (list_all (λ b. nat_lt b (length hs))) is ∙ those_below (length hs) named (and_left (list_all (is_earlier (length hs)) named) (differ s.bases) right.0)

same_shape : (s t : Shape) → s.is_trait ≡ t.is_trait → s.bases ≡ t.bases → s ≡ t
same_shape s t p q =
    let first : s ≡ record { is_trait = t.is_trait; bases = s.bases } = ap (λ b. record s { is_trait = b }) p in
    first ∙ ap (λ bs. record t { bases = bs }) q

module _ (said : List ℕ → Option Meaning) (hs : List Header) (x : ClassTree) (named : List (Option ℕ)) (are : named ≡ bases_named said x) where
  pub silent_header : (h : Header) (kind : Bool) → kind ≡ is_trait_mark said x.marks → true ≡ list_any (is_untyped hs) named → h ≡ without_type kind None → h ≡ header said hs x
  silent_header h kind k t e =
      e
      ∙ ap (λ b. without_type b None) k
      ∙ ap (λ b. if b then without_type (is_trait_mark said x.marks) None else settled (shape said x) (option_or (early_fault hs (is_new said (length hs) x.name) (are_decorators said x.marks) (bases_named said x) (shape said x) x.body) (order_fault hs (shape said x)))) (t ∙ ap (list_any (is_untyped hs)) are)

  module _ (s : Shape) (kind : s.is_trait ≡ is_trait_mark said x.marks) (bases : s.bases ≡ those_there named) (typed : false ≡ list_any (is_untyped hs) named) where
    is_shape : s ≡ shape said x
    is_shape = same_shape s (shape said x) kind (bases ∙ ap those_there are)

    pub settled_header : (new marked : Bool) (o : Option HeaderFault) (h : Header) → new ≡ is_new said (length hs) x.name → marked ≡ are_decorators said x.marks → o ≡ early_fault hs new marked named s x.body → h ≡ settled s (option_or o (order_fault hs s)) → h ≡ header said hs x
    settled_header new marked o h p q f e =
        e
        ∙ ap (λ z. settled s (option_or z (order_fault hs s))) (f ∙ ap (λ a. early_fault hs a marked named s x.body) p ∙ ap (λ a. early_fault hs (is_new said (length hs) x.name) a named s x.body) q ∙ ap (λ a. early_fault hs (is_new said (length hs) x.name) (are_decorators said x.marks) a s x.body) are)
        ∙ ap (λ z. settled z (option_or (early_fault hs (is_new said (length hs) x.name) (are_decorators said x.marks) (bases_named said x) z x.body) (order_fault hs z))) is_shape
        ∙ ap (λ b. if b then without_type (is_trait_mark said x.marks) None else settled (shape said x) (option_or (early_fault hs (is_new said (length hs) x.name) (are_decorators said x.marks) (bases_named said x) (shape said x) x.body) (order_fault hs (shape said x)))) (typed ∙ ap (list_any (is_untyped hs)) are)

-- ---- one class more

pub class_added : (said : List ℕ → Option Meaning) (hs before hs2 : List Header) (c : Class) (h : Header) → before ≡ hs → h ≡ header said before (class_parts c) → hs2 ≡ hs ++ h ∷ [] → hs2 ≡ hs ++ header said hs (class_tree c) ∷ []
class_added said hs before hs2 c h same e put = put ∙ ap (λ z. hs ++ z ∷ []) (e ∙ ap (λ b. header said b (class_parts c)) same ∙ ap (header said hs) (sym (class_tree_at c)))

pub class_kept : (said : List ℕ → Option Meaning) (hs before hs2 : List Header) (x : ClassTree) (h : Header) (orders orders2 : List (List ℕ)) (row : List ℕ) → before ≡ hs → AreKept (map entry hs) orders → h ≡ header said before x
    → row ≡ kept_order (map entry before ++ entry h ∷ []) (length before) → hs2 ≡ hs ++ h ∷ [] → orders2 ≡ orders ++ row ∷ [] → AreKept (map entry hs2) orders2
class_kept said hs before hs2 x h orders orders2 row same k e is put put2 =
    let now : h ≡ header said hs x = e ∙ ap (λ b. header said b x) same in
    let whole : hs2 ≡ hs ++ header said hs x ∷ [] = put ∙ ap (λ z. hs ++ z ∷ []) now in
    subst (λ z. AreKept (map entry z) orders2) (sym whole)
    (subst (λ z. AreKept (map entry (hs ++ header said hs x ∷ [])) z) (sym put2)
    (kept_on said hs x orders row k (is ∙ ap (λ (b : List Header). kept_order (map entry b ++ entry h ∷ []) (length b)) same ∙ ap (λ z. kept_order (map entry hs ++ entry z ∷ []) (length hs)) now)))

pub kept_none : (hs : List Header) (orders : List (List ℕ)) → hs ≡ [] → orders ≡ [] → AreKept (map entry hs) orders
kept_none hs orders p q = subst (λ z. AreKept (map entry z) orders) (sym p) (subst (λ z. AreKept [] z) (sym q) none)
  where
    none : AreKept [] []
    none = record { long = refl; falls = λ c. refl; ordered = λ c l. absurd (omega (arith, l)); kept = λ c l. absurd (omega (arith, l)) }

behind_more : (said : List ℕ → Option Meaning) (hs : List Header) (xs ys : List ClassTree) → headers_behind said (headers_behind said hs xs) ys ≡ headers_behind said hs (xs ++ ys)
behind_more said hs [] ys = refl
behind_more said hs (x ∷ xs) ys = behind_more said (hs ++ header said hs x ∷ []) xs ys

-- a step along definitions
pub headers_on : (defs : List (Bor Stmt)) (i : ℕ) (x : Bor Stmt) → i < length defs → x ≡ get_or defs i x → (said : List ℕ → Option Meaning) (hs hs2 whole : List Header) → hs2 ≡ headers_behind said hs (class_in (stmt_tree x.now))
    → headers_behind said hs (classes_in (trees (drop i defs))) ≡ whole → headers_behind said hs2 (classes_in (trees (drop (i + 1) defs))) ≡ whole
headers_on defs i x l is_at said hs hs2 whole put sofar =
    ap (λ h. headers_behind said h (classes_in (trees (drop (i + 1) defs)))) put
    ∙ behind_more said hs (class_in (stmt_tree x.now)) (classes_in (trees (drop (i + 1) defs)))
    ∙ ap (λ ts. headers_behind said hs (classes_in ts)) (sym (trees_at defs i x l is_at))
    ∙ sofar

-- what a table tells is what definitions say
pub headers_by : (table : List ℕ → Option Meaning) (ds : List StmtTree) (pairs : List (List ℕ × Meaning)) → pairs ≡ said_from 0 ds → ((name : List ℕ) → table name ≡ lookup (bytes_eq name) (numbered 0 pairs)) → headers_behind table [] (classes_in ds) ≡ headers ds
headers_by table ds pairs e is = ap (λ f. headers_behind f [] (classes_in ds)) (fun_ext (λ name. is name ∙ ap (λ p. lookup (bytes_eq name) (numbered 0 p)) e))
