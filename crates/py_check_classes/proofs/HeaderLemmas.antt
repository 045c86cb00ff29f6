-- The headers of classes, one behind the other: what is known of a class that has a type, and of orders when one more is there.
use Rattle.std.proofs.Common.{◌≡◌, ℕ, zero, suc, ◌+◌, ◌<◌, ◌≤◌, Bool, true, false, not, ◌&&◌, nat_lt, List, [], ◌∷◌, ◌++◌, length, map, drop, slice_get, Option, Some, None, is_some, refl, sym, ap, subst, ◌∙◌, if◌then◌else◌, arith}
use Rattle.std.specs.List.{list_any, list_all}
use Rattle.std.specs.Option.{option_map, option_or}
use Rattle.std.proofs.lemmas.Bool.{ltb-true}
use Rattle.std.proofs.lemmas.Bool.Decides.{nat_tests}
use Rattle.std.proofs.lemmas.List.{length-map, map-append}
use Rattle.std.proofs.lemmas.Option.{slice_get-map}
use Rattle.py_syntax.specs.declared.statement.Class.{Class, fold_out-Class}
use Rattle.py_syntax.specs.Statements.{StmtTree, StmtNode, HandlerTree, FuncTree, ClassTree, Suite, node_step, class_step, func_step, handler_step, stmt_step, class_tree}
use Rattle.py_typed.specs.Classes.{ClassEntry, bases_fall}
use Rattle.py_typed.specs.Laws.{IsClassTree}
use Rattle.py_typed.specs.Order.{order, listed_order}
use Rattle.py_typed.proofs.FitLemmas.{and_left, and_right}
use Rattle.py_check_context.specs.declared.scope.Meaning.{Meaning}
use Rattle.py_check_classes.specs.declared.header.Header.{Header}
use Rattle.py_check_classes.specs.declared.header.Header.TheVariants.{Typed, Untyped}
use Rattle.py_check_classes.specs.declared.header.Shape.{Shape}
use Rattle.py_check_classes.specs.declared.header.HeaderFault.{HeaderFault}
use Rattle.py_check_classes.specs.declared.header.HeaderFault.TheVariants.{NoOrder}
use Rattle.py_check_classes.specs.Names.{is_new, are_decorators}
use Rattle.py_check_classes.specs.Rows.{those_there, differ}
use Rattle.py_check_classes.specs.Headers.{has_type, is_a_trait, lacks_type, entry, is_earlier, is_untyped, are_bases, are_traits, bases_fit, body_fits, order_behind, early_fault, order_fault, without_type, settled, bases_named, shape, fault, header, headers_behind}
use Rattle.py_check_classes.specs.Kept.{kept_order, AreKept}
use Rattle.py_check_classes.specs.Views.{class_parts}
use Rattle.py_check_classes.specs.Laws.{IsSound, AreSound}
use Rattle.py_check_classes.proofs.OrderLemmas.{both_hold, nor_cases, get_behind, front_get, last_get, Where, before, at, past, place, bases_at, order_before, falls_more, order_bare, order_one, kept_more}

-- a class by its parts
pub class_tree_at : (c : Class) → class_tree c ≡ class_parts c
class_tree_at c = fold_out-Class StmtNode ClassTree FuncTree HandlerTree StmtTree node_step class_step func_step handler_step stmt_step c

pub entry_found : (headers : List Header) (c : ℕ) → slice_get (map entry headers) c ≡ option_map entry (slice_get headers c)
entry_found headers c = slice_get-map entry headers c

-- ---- where nothing is wrong

faultless : (a b c d : Bool) (w x y z : HeaderFault) → (if not a then Some w else if not b then Some x else if not c then Some y else if not d then Some z else None) ≡ None → (c ≡ true) × (d ≡ true)
faultless true true true true w x y z e = (refl, refl)
faultless false b c d w x y z e = absurd (cc)
faultless true false c d w x y z e = absurd (cc)
faultless true true false d w x y z e = absurd (cc)
faultless true true true false w x y z e = absurd (cc)

pub early_none : (hs : List Header) (new marked : Bool) (named : List (Option ℕ)) (s : Shape) (body : Suite) → early_fault hs new marked named s body ≡ None → (are_bases hs named s.bases ≡ true) × (bases_fit hs s ≡ true)
early_none hs new marked named s body e =
    let p : _ = faultless new marked (are_bases hs named s.bases) (bases_fit hs s && body_fits s.is_trait body) _ _ _ _ e in
    (p.0, and_left (bases_fit hs s) (body_fits s.is_trait body) p.1)

pub those_below : (n : ℕ) (named : List (Option ℕ)) → list_all (is_earlier n) named ≡ true → list_all (λ b. nat_lt b n) (those_there named) ≡ true
those_below n [] l = refl
those_below n (None ∷ more) l = absurd (cc)
those_below n (Some b ∷ more) l =
    both_hold (nat_lt b n) (list_all (λ b. nat_lt b n) (those_there more)) (and_left (nat_lt b n) (list_all (is_earlier n) more) l)
    (those_below n more (and_right (nat_lt b n) (list_all (is_earlier n) more) l))

is_there : (o : Option Header) → is_some o ≡ true → lacks_type o ≡ false → has_type o ≡ true
is_there None s l = absurd (cc)
is_there (Some (Typed t)) s l = refl
is_there (Some (Untyped u)) s l = absurd (cc)

some_below : {A : Type 0} (xs : List A) (i : ℕ) → i < length xs → is_some (slice_get xs i) ≡ true
some_below [] i l = absurd (omega (arith, l))
some_below (x ∷ xs) zero l = refl
some_below (x ∷ xs) (suc i) l = some_below xs i (omega (arith, l))

those_typed : (hs : List Header) (named : List (Option ℕ)) → list_all (is_earlier (length hs)) named ≡ true → list_any (is_untyped hs) named ≡ false
    → list_all (λ b. nat_lt b (length hs) && has_type (slice_get hs b)) (those_there named) ≡ true
those_typed hs [] l u = refl
those_typed hs (None ∷ more) l u = absurd (cc)
those_typed hs (Some b ∷ more) l u =
    let less = and_left (nat_lt b (length hs)) (list_all (is_earlier (length hs)) more) l in
    let ends : _ = nor_cases (lacks_type (slice_get hs b)) (list_any (is_untyped hs) more) u in
    both_hold (nat_lt b (length hs) && has_type (slice_get hs b)) _
    (both_hold (nat_lt b (length hs)) (has_type (slice_get hs b)) less (is_there (slice_get hs b) (some_below hs b (ltb-true b (length hs) less)) ends.0))
    (those_typed hs more (and_right (nat_lt b (length hs)) (list_all (is_earlier (length hs)) more) l) ends.1)

-- ---- one header more

module _ (hs : List Header) where
  as_many : length (map entry hs) ≡ length hs
  as_many = length-map hs entry

  -- in the numbers of entries and of headers
  below_entries : (bs : List ℕ) → list_all (λ b. nat_lt b (length hs)) bs ≡ true → list_all (λ b. nat_lt b (length (map entry hs))) bs ≡ true
  below_entries bs l = ap (λ n. list_all (λ b. nat_lt b n) bs) as_many ∙ l

  module _ (falls : (c : ℕ) → bases_fall (map entry hs) c ≡ true) where
    -- one without bases has an order
    bare_ordered : (e : ClassEntry) → e.bases ≡ [] → is_some (order (map entry hs ++ e ∷ []) (length hs)) ≡ true
    bare_ordered e q =
        let less = ap (list_all (λ b. nat_lt b (length (map entry hs)))) q in
        ap (λ n. is_some (order (map entry hs ++ e ∷ []) n)) (sym as_many)
        ∙ ap is_some (order_bare (map entry hs ++ e ∷ []) (falls_more (map entry hs) e falls less) (length (map entry hs)) (bases_at (map entry hs) e ∙ q))

    -- and so has one with one base that has an order
    pub few_ordered : (e : ClassEntry) → length e.bases < 2 → list_all (λ b. nat_lt b (length hs)) e.bases ≡ true → ((c : ℕ) → c < length (map entry hs) → is_some (order (map entry hs) c) ≡ true) → is_some (order (map entry hs ++ e ∷ []) (length hs)) ≡ true
    few_ordered e few l ordered = by e.bases refl
      where
        by : (bs : List ℕ) → e.bases ≡ bs → is_some (order (map entry hs ++ e ∷ []) (length hs)) ≡ true
        by [] q = bare_ordered e q
        by (b ∷ []) q =
            let less : b < length hs = ltb-true b (length hs) (and_left (nat_lt b (length hs)) true (sym (ap (list_all (λ b. nat_lt b (length hs))) q) ∙ l)) in
            let many = as_many in
            let near : b < length (map entry hs) = omega (arith, less, many) in
            let ok : is_some (order (map entry hs ++ e ∷ []) b) ≡ true = ap is_some (sym (order_before (map entry hs) e falls b near)) ∙ ordered b near in
            ap (λ n. is_some (order (map entry hs ++ e ∷ []) n)) (sym as_many)
            ∙ ap is_some (order_one (map entry hs ++ e ∷ []) (falls_more (map entry hs) e falls (below_entries e.bases l)) (length (map entry hs)) b (bases_at (map entry hs) e ∙ q) ok)
        by (b ∷ d ∷ more) q = let long = ap length q in absurd (omega (arith, few, long))

  -- what is kept of such a class is nothing
  pub few_kept : (e : ClassEntry) → length e.bases < 2 → [] ≡ kept_order (map entry hs ++ e ∷ []) (length hs)
  few_kept e few =
      let none : nat_lt 1 (length e.bases) ≡ false = grind (arith, nat_tests, few) in
      sym (ap (kept_order (map entry hs ++ e ∷ [])) (sym as_many)
      ∙ ap (λ bs. if nat_lt 1 (length bs) then listed_order (order (map entry hs ++ e ∷ []) (length (map entry hs))) else []) (bases_at (map entry hs) e)
      ∙ ap (λ t. if t then listed_order (order (map entry hs ++ e ∷ []) (length (map entry hs))) else []) none)

  -- and of any other one its order
  pub many_kept : (e : ClassEntry) (row : List ℕ) → 2 ≤ length e.bases → Some row ≡ order (map entry hs ++ e ∷ []) (length hs) → row ≡ kept_order (map entry hs ++ e ∷ []) (length hs)
  many_kept e row many is =
      let some : nat_lt 1 (length e.bases) ≡ true = grind (arith, nat_tests, many) in
      ap listed_order is
      ∙ ap (λ n. listed_order (order (map entry hs ++ e ∷ []) n)) (sym as_many)
      ∙ ap (λ t. if t then listed_order (order (map entry hs ++ e ∷ []) (length (map entry hs))) else []) (sym some)
      ∙ ap (λ bs. if nat_lt 1 (length bs) then listed_order (order (map entry hs ++ e ∷ []) (length (map entry hs))) else []) (sym (bases_at (map entry hs) e))
      ∙ ap (kept_order (map entry hs ++ e ∷ [])) as_many

-- what holds of a header that is next behind these
pub record IsNext (hs : List Header) (h : Header) : Type 0 where
  pub below : list_all (λ b. nat_lt b (length hs)) (entry h).bases ≡ true
  pub ordered : is_some (order (map entry hs ++ entry h ∷ []) (length hs)) ≡ true
  pub typed : (s : Shape) → h ≡ Typed s → (list_all (λ b. nat_lt b (length hs) && has_type (slice_get hs b)) s.bases ≡ true) × (differ s.bases ≡ true) × (bases_fit hs s ≡ true)

shape_is : (s t : Shape) → Typed s ≡ Typed t → t ≡ s
shape_is s t e = cc

module _ (said : List ℕ → Option Meaning) (hs : List Header) (falls : (c : ℕ) → bases_fall (map entry hs) c ≡ true) (c : ClassTree) where
  untyped_next : (h : Header) → (entry h).bases ≡ [] → ((s : Shape) → h ≡ Typed s → ⊥) → IsNext hs h
  untyped_next h q never = record {
    below = ap (list_all (λ b. nat_lt b (length hs))) q;
    ordered = bare_ordered hs falls (entry h) q;
    typed = λ s e. absurd (never s e);
  }

  typed_next : list_any (is_untyped hs) (bases_named said c) ≡ false → early_fault hs (is_new said (length hs) c.name) (are_decorators said c.marks) (bases_named said c) (shape said c) c.body ≡ None → is_some (order_behind hs (shape said c)) ≡ true → IsNext hs (Typed (shape said c))
  typed_next u none some =
      let right : _ = early_none hs (is_new said (length hs) c.name) (are_decorators said c.marks) (bases_named said c) (shape said c) c.body none in
      let early = and_left (list_all (is_earlier (length hs)) (bases_named said c)) (differ (shape said c).bases) right.0 in
      record {
        below = those_below (length hs) (bases_named said c) early;
        ordered = some;
        typed = λ s e. subst (λ (z : Shape). (list_all (λ b. nat_lt b (length hs) && has_type (slice_get hs b)) z.bases ≡ true) × (differ z.bases ≡ true) × (bases_fit hs z ≡ true)) (sym (shape_is (shape said c) s e))
            (those_typed hs (bases_named said c) early u, and_right (list_all (is_earlier (length hs)) (bases_named said c)) (differ (shape said c).bases) right.0, right.1);
      }

  pub is_next : IsNext hs (header said hs c)
  is_next = by (list_any (is_untyped hs) (bases_named said c)) refl
    where
      last : (b : Bool) → is_some (order_behind hs (shape said c)) ≡ b → list_any (is_untyped hs) (bases_named said c) ≡ false → early_fault hs (is_new said (length hs) c.name) (are_decorators said c.marks) (bases_named said c) (shape said c) c.body ≡ None
          → IsNext hs (settled (shape said c) (if b then None else Some NoOrder))
      last true q u none = typed_next u none q
      last false q u none = untyped_next (without_type (shape said c).is_trait (Some NoOrder)) refl (λ s e. cc)

      then_order : (o : Option HeaderFault) → early_fault hs (is_new said (length hs) c.name) (are_decorators said c.marks) (bases_named said c) (shape said c) c.body ≡ o → list_any (is_untyped hs) (bases_named said c) ≡ false
          → IsNext hs (settled (shape said c) (option_or o (order_fault hs (shape said c))))
      then_order None q u = last (is_some (order_behind hs (shape said c))) refl u q
      then_order (Some f) q u = untyped_next (without_type (shape said c).is_trait (Some f)) refl (λ s e. cc)

      by : (b : Bool) → list_any (is_untyped hs) (bases_named said c) ≡ b → IsNext hs (if b then without_type (shape said c).is_trait None else settled (shape said c) (fault said hs c))
      by true u = untyped_next (without_type (shape said c).is_trait None) refl (λ s e. cc)
      by false u = then_order (early_fault hs (is_new said (length hs) c.name) (are_decorators said c.marks) (bases_named said c) (shape said c) c.body) refl u

-- what is kept, with one more
pub kept_on : (said : List ℕ → Option Meaning) (hs : List Header) (c : ClassTree) (orders : List (List ℕ)) (row : List ℕ) → AreKept (map entry hs) orders
    → row ≡ kept_order (map entry hs ++ entry (header said hs c) ∷ []) (length hs) → AreKept (map entry (hs ++ header said hs c ∷ [])) (orders ++ row ∷ [])
kept_on said hs c orders row k is =
    let next = is_next said hs k.falls c in
    let h = header said hs c in
    subst (λ z. AreKept z (orders ++ row ∷ [])) (sym (map-append entry hs (h ∷ [])))
    (kept_more (map entry hs) (entry h) orders row k (below_entries hs (entry h).bases next.below)
    (ap (λ n. is_some (order (map entry hs ++ entry h ∷ []) n)) (as_many hs) ∙ next.ordered)
    (is ∙ ap (kept_order (map entry hs ++ entry h ∷ [])) (sym (as_many hs))))

-- ---- the law

all_alike : (n : ℕ) (f g : ℕ → Bool) → ((b : ℕ) → b < n → f b ≡ g b) → (bs : List ℕ) → list_all (λ b. nat_lt b n && f b) bs ≡ list_all (λ b. nat_lt b n && g b) bs
all_alike n f g h [] = refl
all_alike n f g h (b ∷ bs) =
    ap (λ x. x && list_all (λ b. nat_lt b n && f b) bs) (one (nat_lt b n) refl)
    ∙ ap (λ x. (nat_lt b n && g b) && x) (all_alike n f g h bs)
  where
    one : (t : Bool) → nat_lt b n ≡ t → (t && f b) ≡ (t && g b)
    one true e = h b (ltb-true b n e)
    one false e = refl

all_same : (n : ℕ) (f g : ℕ → Bool) → ((b : ℕ) → b < n → f b ≡ g b) → (bs : List ℕ) → list_all (λ b. nat_lt b n) bs ≡ true → list_all f bs ≡ list_all g bs
all_same n f g h [] l = refl
all_same n f g h (b ∷ bs) l =
    ap (λ x. x && list_all f bs) (h b (ltb-true b n (and_left (nat_lt b n) (list_all (λ b. nat_lt b n) bs) l)))
    ∙ ap (λ x. g b && x) (all_same n f g h bs (and_right (nat_lt b n) (list_all (λ b. nat_lt b n) bs) l))

all_first : (f g : ℕ → Bool) (bs : List ℕ) → list_all (λ b. f b && g b) bs ≡ true → list_all f bs ≡ true
all_first f g [] l = refl
all_first f g (b ∷ bs) l =
    both_hold (f b) (list_all f bs) (and_left (f b) (g b) (and_left (f b && g b) (list_all (λ b. f b && g b) bs) l)) (all_first f g bs (and_right (f b && g b) (list_all (λ b. f b && g b) bs) l))

all_behind : (f : ℕ → Bool) (bs : List ℕ) → list_all f bs ≡ true → list_all f (drop 1 bs) ≡ true
all_behind f [] l = refl
all_behind f (b ∷ bs) l = and_right (f b) (list_all f bs) l

-- one header more changes nothing of those before
module _ (hs : List Header) (h : Header) where
  typed_alike : (n : ℕ) (bs : List ℕ) → n ≤ length hs → list_all (λ b. nat_lt b n && has_type (slice_get hs b)) bs ≡ list_all (λ b. nat_lt b n && has_type (slice_get (hs ++ h ∷ []) b)) bs
  typed_alike n bs l = all_alike n (λ b. has_type (slice_get hs b)) (λ b. has_type (slice_get (hs ++ h ∷ []) b)) (λ b less. ap has_type (sym (front_get hs h b (omega (arith, less, l))))) bs

  traits_alike : (bs : List ℕ) → list_all (λ b. nat_lt b (length hs)) bs ≡ true → are_traits hs bs ≡ are_traits (hs ++ h ∷ []) bs
  traits_alike bs l = all_same (length hs) (λ b. is_a_trait (slice_get hs b)) (λ b. is_a_trait (slice_get (hs ++ h ∷ []) b)) (λ b less. ap is_a_trait (sym (front_get hs h b less))) bs l

  fit_alike : (s : Shape) → list_all (λ b. nat_lt b (length hs)) s.bases ≡ true → bases_fit hs s ≡ bases_fit (hs ++ h ∷ []) s
  fit_alike s l = by s.is_trait
    where
      by : (t : Bool) → are_traits hs (if t then s.bases else drop 1 s.bases) ≡ are_traits (hs ++ h ∷ []) (if t then s.bases else drop 1 s.bases)
      by true = traits_alike s.bases l
      by false = traits_alike (drop 1 s.bases) (all_behind (λ b. nat_lt b (length hs)) s.bases l)

  under : (n : ℕ) (bs : List ℕ) → n ≤ length hs → list_all (λ b. nat_lt b n && has_type (slice_get hs b)) bs ≡ true → list_all (λ b. nat_lt b (length hs)) bs ≡ true
  under n [] l k = refl
  under n (b ∷ bs) l k =
      let less : b < n = ltb-true b n (and_left (nat_lt b n) (has_type (slice_get hs b)) (and_left (nat_lt b n && has_type (slice_get hs b)) _ k)) in
      let near : nat_lt b (length hs) ≡ true = grind (arith, nat_tests, less, l) in
      both_hold (nat_lt b (length hs)) _ near (under n bs l (and_right (nat_lt b n && has_type (slice_get hs b)) (list_all (λ b. nat_lt b n && has_type (slice_get hs b)) bs) k))

  sound_before : IsClassTree (map entry hs) → (c : ℕ) (s : Shape) → c < length hs → IsSound hs c s → IsSound (hs ++ h ∷ []) c s
  sound_before tree c s l k =
      let many = as_many hs in
      record {
        bases = sym (typed_alike c s.bases (omega (arith, l))) ∙ k.bases;
        apart = k.apart;
        fit = sym (fit_alike s (under c s.bases (omega (arith, l)) k.bases)) ∙ k.fit;
        ordered = ap (λ (z : List ClassEntry). is_some (order z c)) (map-append entry hs (h ∷ [])) ∙ ap is_some (sym (order_before (map entry hs) (entry h) tree.falls c (omega (arith, l, many)))) ∙ k.ordered;
      }

some_is : (h k : Header) → Some h ≡ Some k → h ≡ k
some_is h k e = cc

pub sound_on : (said : List ℕ → Option Meaning) (hs : List Header) (c : ClassTree) → AreSound hs → AreSound (hs ++ header said hs c ∷ [])
sound_on said hs x k =
    record {
      tree = record { falls = subst (λ (z : List ClassEntry). (c : ℕ) → bases_fall z c ≡ true) (sym (map-append entry hs (h ∷ []))) (falls_more (map entry hs) (entry h) k.tree.falls (below_entries hs (entry h).bases next.below)) };
      each = λ c s e. by c s (place (length hs) c) e;
    }
  where
    h : Header
    h = header said hs x

    next : IsNext hs (header said hs x)
    next = is_next said hs k.tree.falls x

    new : (s : Shape) → header said hs x ≡ Typed s → IsSound (hs ++ header said hs x ∷ []) (length hs) s
    new s e =
        let facts : _ = next.typed s e in
        record {
          bases = sym (typed_alike hs (header said hs x) (length hs) s.bases (omega arith)) ∙ facts.0;
          apart = facts.1;
          fit = sym (fit_alike hs (header said hs x) s (under hs (header said hs x) (length hs) s.bases (omega arith) facts.0)) ∙ facts.2;
          ordered = ap (λ (z : List ClassEntry). is_some (order z (length hs))) (map-append entry hs (header said hs x ∷ [])) ∙ next.ordered;
        }

    by : (c : ℕ) (s : Shape) → Where (length hs) c → slice_get (hs ++ header said hs x ∷ []) c ≡ Some (Typed s) → IsSound (hs ++ header said hs x ∷ []) c s
    by c s (before l) e = sound_before hs (header said hs x) k.tree c s l (k.each c s (sym (front_get hs (header said hs x) c l) ∙ e))
    by c s (at q) e = subst (λ n. IsSound (hs ++ header said hs x ∷ []) n s) (sym q) (new s (some_is (header said hs x) (Typed s) (sym (last_get hs (header said hs x)) ∙ ap (slice_get (hs ++ header said hs x ∷ [])) (sym q) ∙ e)))
    by c s (past l) e = absurd (past_none e)
      where
        past_none : slice_get (hs ++ header said hs x ∷ []) c ≡ Some (Typed s) → ⊥
        past_none f = cc (get_behind hs (header said hs x) c l, f)

all_sound : (said : List ℕ → Option Meaning) (hs : List Header) (cs : List ClassTree) → AreSound hs → AreSound (headers_behind said hs cs)
all_sound said hs [] k = k
all_sound said hs (c ∷ cs) k = all_sound said (hs ++ header said hs c ∷ []) cs (sound_on said hs c k)

pub headers_sound : (said : List ℕ → Option Meaning) (cs : List ClassTree) → AreSound (headers_behind said [] cs)
headers_sound said cs = all_sound said [] cs record { tree = record { falls = λ c. refl }; each = λ c s e. absurd (cc) }
