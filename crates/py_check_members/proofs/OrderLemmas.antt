-- What a class has along its order, by the table of members.
use Rattle.std.proofs.Common.{◌≡◌, ◌∙◌, ℕ, zero, suc, ◌<◌, ◌≤◌, Bool, true, false, List, [], ◌∷◌, length, map, drop, nat_lt, slice_get, Option, Some, None, is_some, option_and_then, codes, cond, refl, sym, ap, arith}
use Rattle.std.specs.List.{list_all}
use Rattle.std.specs.Map.{lookup}
use Rattle.std.specs.Option.{option_map, option_or}
use Rattle.std.specs.Str.{bytes_eq}
use Rattle.std.proofs.lemmas.Bool.{ltb-true}
use Rattle.std.proofs.lemmas.Bool.Decides.{nat_tests}
use Rattle.std.proofs.lemmas.List.{length-map}
use Rattle.std.proofs.lemmas.Option.{slice_get-map, slice_get_within, slice_get_past}
use Rattle.py_typed.specs.Classes.{ClassEntry, bases_of, bases_fall}
use Rattle.py_typed.specs.Order.{first_there, order, listed_order}
use Rattle.py_typed.proofs.FitLemmas.{and_left}
use Rattle.py_check_context.specs.declared.members.ClassMembers.{ClassMembers}
use Rattle.py_check_context.specs.Members as lookups
use Rattle.py_check_context.specs.Members.{Member, member}
use Rattle.py_check_classes.specs.declared.header.Header.{Header}
use Rattle.py_check_classes.specs.declared.header.Header.TheVariants.{Typed, Untyped}
use Rattle.py_check_classes.specs.Headers.{entry}
use Rattle.py_check_classes.specs.Kept.{AreKept}
use Rattle.py_check_classes.proofs.HeaderLemmas.{entry_found}
use Rattle.py_check_classes.proofs.OrderLemmas.{order_bare, order_one, order_line}
use Rattle.py_check_members.specs.Members.{own_member, own_declared, own_init, row_of, order_in, row_above, function_of, member_along, init_along, init_behind_along}
use Rattle.py_check_members.specs.Tables.{above_by, bases_in, AreLinked}
use Rattle.py_check_members.specs.Views.{own_of}

or_none : {A : Type 0} (o : Option A) → o ≡ option_or o None
or_none None = refl
or_none (Some a) = refl

listed : (o : Option (List ℕ)) → is_some o ≡ true → o ≡ Some (listed_order o)
listed None e = absurd (cc)
listed (Some row) e = refl

bases_found : (headers : List Header) (n : ℕ) → bases_of (map entry headers) n ≡ bases_in (slice_get headers n)
bases_found headers n = ap Rattle.py_typed.specs.Classes.bases_in (entry_found headers n) ∙ by (slice_get headers n)
  where
    by : (o : Option Header) → Rattle.py_typed.specs.Classes.bases_in (option_map entry o) ≡ bases_in o
    by None = refl
    by (Some (Typed s)) = refl
    by (Some (Untyped u)) = refl

first_same : {A : Type 0} (f g : ℕ → Option A) (row : List ℕ) → ((b : ℕ) → f b ≡ g b) → first_there f row ≡ first_there g row
first_same f g [] h = refl
first_same f g (b ∷ row) h = ap (λ o. option_or o (first_there f row)) (h b) ∙ ap (option_or (g b)) (first_same f g row h)

not_none : {A : Type 0} (xs : List A) (n : ℕ) → n < length xs → slice_get xs n ≡ None → ⊥
not_none [] n l e = absurd (omega (arith, l))
not_none (x ∷ xs) zero l e = absurd (cc)
not_none (x ∷ xs) (suc n) l e = not_none xs n (omega (arith, l)) e

module _ (headers : List Header) (orders : List (List ℕ)) (kept : AreKept (map entry headers) orders) where
  none_there : (n : ℕ) → slice_get headers n ≡ None → bases_of (map entry headers) n ≡ []
  none_there n e = bases_found headers n ∙ ap bases_in e

  within : (n : ℕ) → n < length headers → n < length (map entry headers)
  within n l = let many = length-map headers entry in omega (arith, l, many)

  -- an order begins with its class
  pub order_begins : (n : ℕ) → order_in headers n ≡ n ∷ row_above headers n
  order_begins n = by (slice_get headers n) refl
    where
      by : (o : Option Header) → slice_get headers n ≡ o → order_in headers n ≡ n ∷ row_above headers n
      by None e =
          let is : order_in headers n ≡ n ∷ [] = ap listed_order (order_bare (map entry headers) kept.falls n (none_there n e)) in
          is ∙ sym (ap (λ row. n ∷ drop 1 row) is)
      by (Some h) e =
          let less : n < length (map entry headers) = within n (slice_get_within headers n h e) in
          let line = order_line (map entry headers) kept.falls n (order_in headers n) (listed (order (map entry headers) n) (kept.ordered n less)) in
          line.begins ∙ sym (ap (λ row. n ∷ drop 1 row) line.begins)

  base_less : (n b : ℕ) (more : List ℕ) → bases_of (map entry headers) n ≡ b ∷ more → b < n
  base_less n b more e =
      ltb-true b n (and_left (nat_lt b n) (list_all (λ x. nat_lt x n) more) (sym (ap (list_all (λ x. nat_lt x n)) e) ∙ kept.falls n))

  module _ {A : Type 0} (own : ClassMembers → Option A) (members : List ClassMembers) (long : length members ≡ length headers) (linked : AreLinked headers members)
      (mine : ℕ → Option A) (is_mine : (b : ℕ) → lookups.own_of own members b ≡ mine b) where
    absent : (n : ℕ) → slice_get members n ≡ None → length headers ≤ n
    absent n e = by (nat_lt n (length members)) refl
      where
        by : (b : Bool) → nat_lt n (length members) ≡ b → length headers ≤ n
        by true t = absurd (let f = not_none members n (ltb-true n (length members) t) e in f)
        by false t = let past : length members ≤ n = grind (arith, nat_tests, t) in omega (arith, past, long)

    -- what stands behind a class, where it holds of the classes before it
    by_bases : (base : ℕ → Option A) (n : ℕ) (bs : List ℕ) → n < length (map entry headers) → bases_of (map entry headers) n ≡ bs → ((b : ℕ) → b < n → base b ≡ first_there mine (order_in headers b))
        → lookups.behind own members base (above_by bs (row_above headers n)) ≡ first_there mine (row_above headers n)
    by_bases base n [] l e h =
        sym (ap (λ o. first_there mine (drop 1 (listed_order o))) (order_bare (map entry headers) kept.falls n e))
    by_bases base n (b ∷ []) l e h =
        let less = base_less n b [] e in
        h b less
        ∙ sym (ap (λ o. first_there mine (drop 1 (listed_order o))) (order_one (map entry headers) kept.falls n b e (kept.ordered b (omega (arith, less, l)))))
    by_bases base n (b ∷ c ∷ more) l e h = first_same (lookups.own_of own members) mine (row_above headers n) is_mine

    pub behind_is : (base : ℕ → Option A) (n : ℕ) → ((b : ℕ) → b < n → base b ≡ first_there mine (order_in headers b)) → lookups.behind own members base (lookups.above_of (slice_get members n)) ≡ first_there mine (row_above headers n)
    behind_is base n h = by (slice_get members n) refl
      where
        by : (o : Option ClassMembers) → slice_get members n ≡ o → lookups.behind own members base (lookups.above_of o) ≡ first_there mine (row_above headers n)
        by None e =
            let past : slice_get headers n ≡ None = slice_get_past headers n (absent n e) in
            sym (ap (λ o. first_there mine (drop 1 (listed_order o))) (order_bare (map entry headers) kept.falls n (none_there n past)))
        by (Some m) e =
            let there = slice_get_within members n m e in
            let less : n < length headers = omega (arith, there, long) in
            ap (lookups.behind own members base) ((linked.each n m e).above ∙ ap (λ bs. above_by bs (row_above headers n)) (sym (bases_found headers n)))
            ∙ by_bases base n (bases_of (map entry headers) n) (within n less) refl h

    pub along_is : (levels n : ℕ) → n ≤ levels → lookups.along own members levels n ≡ first_there mine (order_in headers n)
    along_is zero zero l = is_mine 0 ∙ or_none (mine 0)
    along_is zero (suc n) l = absurd (omega (arith, l))
    along_is (suc levels) n l =
        ap (λ o. option_or o (lookups.behind own members (lookups.along own members levels) (lookups.above_of (slice_get members n)))) (is_mine n)
        ∙ ap (option_or (mine n)) (behind_is (lookups.along own members levels) n (λ b less. along_is levels b (omega (arith, l, less))))
        ∙ sym (ap (first_there mine) (order_begins n))

-- ---- what the program looks up

pub lookup_map : {A B : Type 0} (f : A → B) (test : List ℕ → Bool) (row : List (List ℕ × A)) → option_map f (lookup test row) ≡ lookup test (map (λ p. (p.0, f p.1)) row)
lookup_map f test [] = refl
lookup_map f test (p ∷ row) = by (test p.0) (lookup_map f test row)
  where
    by : (b : Bool) → option_map f (lookup test row) ≡ lookup test (map (λ q. (q.0, f q.1)) row) → option_map f (cond b (Some p.1) (lookup test row)) ≡ cond b (Some (f p.1)) (lookup test (map (λ q. (q.0, f q.1)) row))
    by true h = refl
    by false h = h

pub own_found : (members : List ClassMembers) (name : List ℕ) (n : ℕ) → lookups.own_of (lookups.own_member name) members n ≡ own_member (map own_of members) name n
own_found members name n = by (slice_get members n) ∙ sym (ap (λ o. lookup (bytes_eq name) (row_of o)) (slice_get-map own_of members n))
  where
    by : (o : Option ClassMembers) → option_and_then (lookups.own_member name) o ≡ lookup (bytes_eq name) (row_of (option_map own_of o))
    by None = refl
    by (Some m) = lookup_map member (bytes_eq name) m.own.entries

-- where this is what a class has of its own and declares
pub declared_found : (members : List ClassMembers) (name : List ℕ) (own : ClassMembers → Option Member) → ((m : ClassMembers) → own m ≡ option_and_then lookups.declared_of (lookups.own_member name m)) → (n : ℕ) → lookups.own_of own members n ≡ own_declared (map own_of members) name n
declared_found members name own is n = by (slice_get members n) ∙ ap (option_and_then lookups.declared_of) (own_found members name n)
  where
    by : (o : Option ClassMembers) → option_and_then own o ≡ option_and_then lookups.declared_of (option_and_then (lookups.own_member name) o)
    by None = refl
    by (Some m) = is m

or_same : {A : Type 0} (a b c d : Option A) → a ≡ b → c ≡ d → option_or a c ≡ option_or b d
or_same a b c d p q = ap (λ o. option_or o c) p ∙ ap (option_or b) q

pub init_found : (headers : List Header) (members : List ClassMembers) (n : ℕ) → AreLinked headers members → lookups.own_of lookups.own_init members n ≡ own_init (map own_of members) n
init_found headers members n linked = by (slice_get members n) refl ∙ sym (ap (λ o. option_and_then function_of (lookup (bytes_eq (codes "__init__")) (row_of o))) (slice_get-map own_of members n))
  where
    by : (o : Option ClassMembers) → slice_get members n ≡ o → option_and_then lookups.own_init o ≡ option_and_then function_of (lookup (bytes_eq (codes "__init__")) (row_of (option_map own_of o)))
    by None e = refl
    by (Some m) e = (linked.each n m e).init

module _ (headers : List Header) (orders : List (List ℕ)) (kept : AreKept (map entry headers) orders) (members : List ClassMembers) (long : length members ≡ length headers) (linked : AreLinked headers members) where
  declared_is : (n : ℕ) (name : List ℕ) (own : ClassMembers → Option Member) → ((m : ClassMembers) → own m ≡ option_and_then lookups.declared_of (lookups.own_member name m)) → lookups.along own members n n ≡ first_there (own_declared (map own_of members) name) (order_in headers n)
  declared_is n name own is = along_is headers orders kept own members long linked (own_declared (map own_of members) name) (declared_found members name own is) n n (omega arith)

  any_is : (n : ℕ) (name : List ℕ) → lookups.along (lookups.own_member name) members n n ≡ first_there (own_member (map own_of members) name) (order_in headers n)
  any_is n name = along_is headers orders kept (lookups.own_member name) members long linked (own_member (map own_of members) name) (own_found members name) n n (omega arith)

  pub member_is : (n : ℕ) (name : List ℕ) → lookups.member_in members n name ≡ member_along (map own_of members) headers n name
  member_is n name = or_same _ _ _ _ (declared_is n name _ (λ m. refl)) (any_is n name)

  pub init_is : (n : ℕ) → lookups.init_in members n ≡ init_along (map own_of members) headers n
  init_is n = along_is headers orders kept lookups.own_init members long linked (own_init (map own_of members)) (λ b. init_found headers members b linked) n n (omega arith)

  pub init_behind_is : (n : ℕ) → lookups.init_behind members n ≡ init_behind_along (map own_of members) headers n
  init_behind_is n = behind_is headers orders kept lookups.own_init members long linked (own_init (map own_of members)) (λ b. init_found headers members b linked) (lookups.init_in members) n (λ b less. init_is b)
