-- What comes first under each name, and members whose definitions differ.
use Rattle.std.proofs.Common.{◌≡◌, ℕ, Bool, true, false, cond, ◌||◌, ◌&&◌, List, [], ◌∷◌, ◌++◌, map, find, Option, Some, None, is_some, option_map, option_and_then, option_copied, slice_get, refl, sym, ap, ◌∙◌, append_assoc}
use Rattle.std.specs.List.{list_any, list_all}
use Rattle.std.specs.Map.{lookup}
use Rattle.std.specs.Option.{option_or}
use Rattle.std.specs.Borrow.{Bor}
use Rattle.std.specs.Str.{bytes_eq}
use Rattle.indexmap.specs.IndexSet.{insert_key}
use Rattle.py_typed.specs.Classes.{ClassEntry}
use Rattle.py_typed.proofs.FitLemmas.{and_left, and_right}
use Rattle.py_typed.specs.Order.{named, own_method, method_along}
use Rattle.class_layout_members.specs.Names.{own_methods}
use Rattle.class_layout_members.specs.Clashes.{Definition, is_other, differs, clashes, clash_among}
use Rattle.class_layout_members.proofs.RowLemmas.{same, either_way, has, has_added, or_more, or_no}

-- ---- the first of two

or_first : {A : Type 0} (o p r : Option A) → option_or (option_or o p) r ≡ option_or o (option_or p r)
or_first None p r = refl
or_first (Some a) p r = refl

pub or_none : {A : Type 0} (o : Option A) → o ≡ option_or o None
or_none None = refl
or_none (Some a) = refl

one_first : {A : Type 0} (b : Bool) (v : A) (r : Option A) → option_or (cond b (Some v) None) r ≡ cond b (Some v) r
one_first true v r = refl
one_first false v r = refl

some_first : {A : Type 0} (o p : Option A) → is_some o ≡ true → o ≡ option_or o p
some_first None p e = absurd (cc)
some_first (Some a) p e = refl

none_is : {A : Type 0} (o : Option A) → is_some o ≡ false → o ≡ None
none_is None e = refl
none_is (Some a) e = absurd (cc)

module _ {A : Type 0} (g : List ℕ → Option A) (n : List ℕ) (v : A) where
  -- a name that has a value keeps it
  pub kept_first : is_some (g n) ≡ true → (q : List ℕ) → g q ≡ option_or (g q) (cond (bytes_eq q n) (Some v) None)
  kept_first there q = by (bytes_eq q n) refl
    where
      by : (b : Bool) → bytes_eq q n ≡ b → g q ≡ option_or (g q) (cond b (Some v) None)
      by true e = some_first (g q) (Some v) (ap (λ z. is_some (g z)) (same q n e) ∙ there)
      by false e = or_none (g q)

  -- and one that has none gets it
  pub noted_first : (h : List ℕ → Option A) (m : List ℕ) → is_some (g n) ≡ false → m ≡ n → ((q : List ℕ) → h q ≡ cond (bytes_eq m q) (Some v) (g q)) → (q : List ℕ) → h q ≡ option_or (g q) (cond (bytes_eq q n) (Some v) None)
  noted_first h m new is put q = put q ∙ ap (λ b. cond b (Some v) (g q)) (ap (λ z. bytes_eq z q) is ∙ either_way n q) ∙ by (bytes_eq q n) refl
    where
      by : (b : Bool) → bytes_eq q n ≡ b → cond b (Some v) (g q) ≡ option_or (g q) (cond b (Some v) None)
      by true e = sym (ap (λ o. option_or o (Some v)) (ap g (same q n e) ∙ none_is (g n) new))
      by false e = or_none (g q)

  -- a step along a row
  pub first_next : (h : List ℕ → Option A) (rest : List (List ℕ × A)) (whole : List ℕ → Option A) → ((q : List ℕ) → h q ≡ option_or (g q) (cond (bytes_eq q n) (Some v) None))
      → ((q : List ℕ) → option_or (g q) (lookup (bytes_eq q) ((n, v) ∷ rest)) ≡ whole q) → (q : List ℕ) → option_or (h q) (lookup (bytes_eq q) rest) ≡ whole q
  first_next h rest whole put before q =
      ap (λ o. option_or o (lookup (bytes_eq q) rest)) (put q)
      ∙ or_first (g q) (cond (bytes_eq q n) (Some v) None) (lookup (bytes_eq q) rest)
      ∙ ap (option_or (g q)) (one_first (bytes_eq q n) v (lookup (bytes_eq q) rest))
      ∙ before q

-- ---- what another map has

module _ {A : Type 0} where
  missing_here : (o p : Option A) (r : Bool) → option_or (option_or o p) (cond r p None) ≡ option_or o p
  missing_here (Some a) p r = refl
  missing_here None (Some a) r = refl
  missing_here None None true = refl
  missing_here None None false = refl

  -- a step along the names of another map
  pub missing_next : (g h more : List ℕ → Option A) (n : List ℕ) (o : Option A) (rest : List (List ℕ)) (whole : List ℕ → Option A) → more n ≡ o → ((q : List ℕ) → h q ≡ option_or (g q) (cond (bytes_eq q n) o None))
      → ((q : List ℕ) → option_or (g q) (cond (has q (n ∷ rest)) (more q) None) ≡ whole q) → (q : List ℕ) → option_or (h q) (cond (has q rest) (more q) None) ≡ whole q
  missing_next g h more n o rest whole is put before q = ap (λ z. option_or z (cond (has q rest) (more q) None)) (put q) ∙ by (bytes_eq q n) refl ∙ before q
    where
      by : (b : Bool) → bytes_eq q n ≡ b → option_or (option_or (g q) (cond b o None)) (cond (has q rest) (more q) None) ≡ option_or (g q) (cond (bytes_eq q n || has q rest) (more q) None)
      by true e =
          let here : o ≡ more q = sym is ∙ ap more (sym (same q n e)) in
          ap (λ z. option_or (option_or (g q) z) (cond (has q rest) (more q) None)) here
          ∙ missing_here (g q) (more q) (has q rest)
          ∙ sym (ap (λ b. option_or (g q) (cond (b || has q rest) (more q) None)) e)
      by false e = ap (λ z. option_or z (cond (has q rest) (more q) None)) (sym (or_none (g q))) ∙ sym (ap (λ b. option_or (g q) (cond (b || has q rest) (more q) None)) e)

  -- nothing is added where it has nothing
  pub none_added : (g : List ℕ → Option A) (n q : List ℕ) → g q ≡ option_or (g q) (cond {A = Option A} (bytes_eq q n) None None)
  none_added g n q = by (bytes_eq q n)
    where
      by : (b : Bool) → g q ≡ option_or (g q) (cond {A = Option A} b None None)
      by true = or_none (g q)
      by false = or_none (g q)

  pub added_all : (entries : List (List ℕ × A)) (q : List ℕ) → cond (has q (map (λ p. p.0) entries)) (lookup (bytes_eq q) entries) None ≡ lookup (bytes_eq q) entries
  added_all [] q = refl
  added_all (p ∷ entries) q = by (bytes_eq q p.0) (added_all entries q)
    where
      by : (b : Bool) → cond (has q (map (λ p. p.0) entries)) (lookup (bytes_eq q) entries) None ≡ lookup (bytes_eq q) entries
          → cond (b || has q (map (λ p. p.0) entries)) (cond b (Some p.1) (lookup (bytes_eq q) entries)) None ≡ cond b (Some p.1) (lookup (bytes_eq q) entries)
      by true r = refl
      by false r = r

pub mapped_first : {A B : Type 0} (f : A → B) (o : Option A) (b : Bool) (v : A) → option_map f (option_or o (cond b (Some v) None)) ≡ option_or (option_map f o) (cond b (Some (f v)) None)
mapped_first f None true v = refl
mapped_first f None false v = refl
mapped_first f (Some a) b v = refl

-- ---- functions of methods

pub named_is : {A : Type 0} (name : List ℕ) (row : List (List ℕ × A)) → named name row ≡ lookup (bytes_eq name) row
named_is name [] = refl
named_is {A = A} name (p ∷ row) =
    ap (λ b. option_map (λ (r : List ℕ × A). r.1) (cond b (Some p) (find (λ (r : List ℕ × A). bytes_eq r.0 name) row))) (either_way p.0 name) ∙ by (bytes_eq name p.0) (named_is name row)
  where
    by : (b : Bool) → named name row ≡ lookup (bytes_eq name) row → option_map (λ (r : List ℕ × A). r.1) (cond b (Some p) (find (λ (r : List ℕ × A). bytes_eq r.0 name) row)) ≡ cond b (Some p.1) (lookup (bytes_eq name) row)
    by true r = refl
    by false r = r

pub own_method_is : (classes : List ClassEntry) (name : List ℕ) (c : ℕ) → own_method classes name c ≡ lookup (bytes_eq name) (own_methods (slice_get classes c))
own_method_is classes name c = by (slice_get classes c)
  where
    by : (o : Option ClassEntry) → option_and_then (λ (entry : ClassEntry). named name entry.methods) o ≡ lookup (bytes_eq name) (own_methods o)
    by None = refl
    by (Some entry) = named_is name entry.methods

-- a step along an order
pub method_next : (classes : List ClassEntry) (g h : List ℕ → Option ℕ) (c : ℕ) (row : List (List ℕ × ℕ)) (rest : List ℕ) (whole : List ℕ → Option ℕ)
    → row ≡ own_methods (slice_get classes c) → ((q : List ℕ) → h q ≡ option_or (g q) (lookup (bytes_eq q) row)) → ((q : List ℕ) → option_or (g q) (method_along classes q (c ∷ rest)) ≡ whole q)
    → (q : List ℕ) → option_or (h q) (method_along classes q rest) ≡ whole q
method_next classes g h c row rest whole is put before q =
    ap (λ o. option_or o (method_along classes q rest)) (put q ∙ ap (λ l. option_or (g q) (lookup (bytes_eq q) l)) is ∙ ap (option_or (g q)) (sym (own_method_is classes q c)))
    ∙ or_first (g q) (own_method classes q c) (method_along classes q rest)
    ∙ before q

-- ---- a step along a row

all_behind : {A B : Type 0} (f : A → B) (xs : List A) (x : A) → map f (xs ++ x ∷ []) ≡ map f xs ++ f x ∷ []
all_behind f [] x = refl
all_behind f (y ∷ xs) x = ap (λ l. f y ∷ l) (all_behind f xs x)

pub row_next : {A B : Type 0} (f : A → B) (xs xs2 : List A) (x : A) (y : B) (ys whole : List B) → xs2 ≡ xs ++ x ∷ [] → f x ≡ y → map f xs ++ y ∷ ys ≡ whole → map f xs2 ++ ys ≡ whole
row_next f xs xs2 x y ys whole put is before =
    ap (λ l. map f l ++ ys) put ∙ ap (λ l. l ++ ys) (all_behind f xs x) ∙ append_assoc (map f xs) (f x ∷ []) ys ∙ ap (λ z. map f xs ++ z ∷ ys) is ∙ before

-- two rows behind others
pub rows_next : {B : Type 0} (xs ms ns a b rest whole : List B) → ms ≡ xs ++ a → ns ≡ ms ++ b → xs ++ ((a ++ b) ++ rest) ≡ whole → ns ++ rest ≡ whole
rows_next xs ms ns a b rest whole p q before =
    ap (λ l. l ++ rest) (q ∙ ap (λ l. l ++ b) p) ∙ ap (λ l. l ++ rest) (append_assoc xs a b) ∙ append_assoc xs (a ++ b) rest ∙ before

pub copied_map : {A B : Type 0} (f : A → B) (o : Option (Bor A)) → option_map (λ (r : Bor A). f r.now) o ≡ option_map f (option_copied o)
copied_map f None = refl
copied_map f (Some r) = refl

pub there_behind : (f : List ℕ → Option ℕ) (n : List ℕ) (rest : List (List ℕ)) → list_all (λ q. is_some (f q)) (n ∷ rest) ≡ true → list_all (λ q. is_some (f q)) rest ≡ true
there_behind f n rest h = and_right (is_some (f n)) (list_all (λ q. is_some (f q)) rest) h

pub is_missing : (f : List ℕ → Option ℕ) (n : List ℕ) (rest : List (List ℕ)) → list_all (λ q. is_some (f q)) (n ∷ rest) ≡ true → f n ≡ None → ⊥
is_missing f n rest h e =
    let both : false ≡ true = sym (ap is_some e) ∙ and_left (is_some (f n)) (list_all (λ q. is_some (f q)) rest) h in
    cc

-- ---- members whose definitions differ

and_no : (b : Bool) → (b && false) ≡ false
and_no true = refl
and_no false = refl

and_yes : (b : Bool) → (b && true) ≡ b
and_yes true = refl
and_yes false = refl

pub not_added : (ks : List (List ℕ)) (n : List ℕ) (b : Bool) → b ≡ false → (q : List ℕ) → has q ks ≡ (has q ks || (bytes_eq q n && b))
not_added ks n b e q = sym (ap (λ z. has q ks || (bytes_eq q n && z)) e ∙ ap (λ z. has q ks || z) (and_no (bytes_eq q n)) ∙ or_no (has q ks))

pub added : (ks ks2 : List (List ℕ)) (n m : List ℕ) (b : Bool) → b ≡ true → m ≡ n → ks2 ≡ insert_key bytes_eq ks m → (q : List ℕ) → has q ks2 ≡ (has q ks || (bytes_eq q n && b))
added ks ks2 n m b e is put q =
    ap (has q) (put ∙ ap (insert_key bytes_eq ks) is) ∙ has_added ks n q ∙ ap (λ z. has q ks || z) (sym (ap (λ z. bytes_eq q n && z) e ∙ and_yes (bytes_eq q n)))

-- a step along members
pub clash_next : (all rest : List (List ℕ × Definition)) (p : List ℕ × Definition) (o : Option Definition) (f g : List ℕ → Bool) (whole : List ℕ → Bool)
    → o ≡ lookup (bytes_eq p.0) all → ((q : List ℕ) → g q ≡ (f q || (bytes_eq q p.0 && is_other p.0 o p.1)))
    → ((q : List ℕ) → (f q || list_any (λ r. bytes_eq q r.0 && differs all r) (p ∷ rest)) ≡ whole q) → (q : List ℕ) → (g q || list_any (λ r. bytes_eq q r.0 && differs all r) rest) ≡ whole q
clash_next all rest p o f g whole is put before q =
    ap (λ b. b || list_any (λ r. bytes_eq q r.0 && differs all r) rest) (put q ∙ ap (λ z. f q || (bytes_eq q p.0 && is_other p.0 z p.1)) is)
    ∙ or_more (f q) (bytes_eq q p.0 && differs all p) (list_any (λ r. bytes_eq q r.0 && differs all r) rest)
    ∙ before q

find_alike : {A : Type 0} (f g : A → Bool) → ((a : A) → f a ≡ g a) → (row : List A) → find f row ≡ find g row
find_alike f g h [] = refl
find_alike f g h (a ∷ row) = ap (λ b. cond b (Some a) (find f row)) (h a) ∙ ap (λ o. cond (g a) (Some a) o) (find_alike f g h row)

pub clash_is : (members : List (List ℕ × Definition)) (f : List ℕ → Bool) → ((q : List ℕ) → f q ≡ clashes members q)
    → option_map (λ (p : List ℕ × Definition). p.0) (find (λ (p : List ℕ × Definition). f p.0) members) ≡ clash_among members
clash_is members f h =
    ap (option_map (λ (p : List ℕ × Definition). p.0)) (find_alike (λ (p : List ℕ × Definition). f p.0) (λ (p : List ℕ × Definition). clashes members p.0) (λ p. h p.0) members)

-- ---- the first that passes

pub find_hit : {A : Type 0} (test : A → Bool) (xs : List A) (a : A) (rest : List A) (whole : Option A) → xs ≡ a ∷ rest → true ≡ test a → find test xs ≡ whole → whole ≡ Some a
find_hit test xs a rest whole here is before = sym before ∙ ap (find test) here ∙ ap (λ b. cond b (Some a) (find test rest)) (sym is)

pub find_miss : {A : Type 0} (test : A → Bool) (xs : List A) (a : A) (rest : List A) (whole : Option A) → xs ≡ a ∷ rest → false ≡ test a → find test xs ≡ whole → find test rest ≡ whole
find_miss test xs a rest whole here is before = ap (λ b. cond b (Some a) (find test rest)) is ∙ sym (ap (find test) here) ∙ before

-- ---- whether all pass

pub all_hit : {A : Type 0} (test : A → Bool) (xs : List A) (a : A) (rest : List A) (whole : Bool) → xs ≡ a ∷ rest → test a ≡ false → list_all test xs ≡ whole → false ≡ whole
all_hit test xs a rest whole here is before = sym (ap (λ b. b && list_all test rest) is) ∙ sym (ap (list_all test) here) ∙ before

pub all_miss : {A : Type 0} (test : A → Bool) (xs : List A) (a : A) (rest : List A) (whole : Bool) → xs ≡ a ∷ rest → test a ≡ true → list_all test xs ≡ whole → list_all test rest ≡ whole
all_miss test xs a rest whole here is before = sym (ap (λ b. b && list_all test rest) is) ∙ sym (ap (list_all test) here) ∙ before
