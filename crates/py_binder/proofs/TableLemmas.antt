-- Tables of names: what stands in them after names are put in one after the other.
use Rattle.std.proofs.Common.{◌≡◌, ℕ, suc, ◌+◌, ◌<◌, ◌≤◌, length, drop, get_or, drop-cons, add-one, Bool, true, false, not, cond, ◌||◌, ◌&&◌, List, [], ◌∷◌, ◌++◌, filter, find, Option, Some, None, if◌then◌else◌, refl, ap, sym, ◌∙◌}
use Rattle.std.proofs.lemmas.List.{append-nil, append_assoc}
use Rattle.std.proofs.lemmas.List.Folds.{list_any-append}
use Rattle.std.specs.Cmp.Lexicographic.{bytes_decides, nat_list_eq_equiv}
use Rattle.std.specs.Str.{bytes_eq}
use Rattle.std.specs.Map.{lookup}
use Rattle.indexmap.specs.IndexSet.{insert_key, insert_all}
use Rattle.py_binder.specs.declared.scope.Role.{Role}
use Rattle.py_binder.specs.declared.table.Table.{Table}
use Rattle.py_binder.specs.declared.scope.Role.TheVariants.{Param, Local, GlobalVar, Builtin}
use Rattle.py_binder.specs.Sights.{Sight}
use Rattle.py_binder.specs.Scope.{contains, first_sights, Roles, is_builtin, is_variable, said_or_variable, inner_role, seen_there}
use Rattle.py_binder.specs.Faults.{place_faults, body_faults}
use Rattle.py_binder.specs.Tables.{table_role}
use Rattle.py_binder.proofs.ReadLemmas.{nothing_left}

-- the first of two that is there
abbrev pub or_else : {A : Type 0} → Option A → Option A → Option A
or_else (Some a) other = Some a
or_else None other = other

-- a pair behind the others is found where none of them is
pub lookup_last : {A : Type 0} (test : List ℕ → Bool) (xs : List (List ℕ × A)) (x : List ℕ × A) (other : Option A) → or_else (lookup test (xs ++ x ∷ [])) other ≡ or_else (lookup test xs) (cond (test x.0) (Some x.1) other)
lookup_last test [] x other = elim (test x.0) as (λ b. or_else (cond b (Some x.1) None) other ≡ cond b (Some x.1) other) [ true ↦ refl | false ↦ refl ]
lookup_last test (y ∷ ys) x other =
    elim (test y.0) as (λ b. or_else (cond b (Some y.1) (lookup test (ys ++ x ∷ []))) other ≡ or_else (cond b (Some y.1) (lookup test ys)) (cond (test x.0) (Some x.1) other)) [
      | true ↦ refl
      | false ↦ lookup_last test ys x other
    ]

or_no : (b : Bool) → b ≡ (b || false)
or_no true = refl
or_no false = refl

or_true : (b : Bool) → (b || true) ≡ true
or_true true = refl
or_true false = refl

pub same : (x y : List ℕ) → bytes_eq x y ≡ true → x ≡ y
same x y e = (bytes_decides x y).0 e

-- a name that is inserted is there, and no other one
pub contains_insert : (ks : List (List ℕ)) (v q : List ℕ) → contains (insert_key bytes_eq ks v) q ≡ contains (ks ++ v ∷ []) q
contains_insert ks v q = by (contains ks v) refl
  where
    told : contains ks v ≡ true → (c : Bool) → bytes_eq q v ≡ c → contains ks q ≡ (contains ks q || (c || false))
    told e true f =
        let h : contains ks q ≡ true = ap (contains ks) (same q v f) ∙ e in h ∙ sym (ap (λ b. b || (true || false)) h)
    told e false f = or_no (contains ks q)

    by : (b : Bool) → contains ks v ≡ b → contains (if b then ks else ks ++ v ∷ []) q ≡ contains (ks ++ v ∷ []) q
    by true e = told e (bytes_eq q v) refl ∙ sym (list_any-append (bytes_eq q) ks (v ∷ []))
    by false e = refl

pub contains_all : (ks xs : List (List ℕ)) (q : List ℕ) → contains (insert_all bytes_eq ks xs) q ≡ contains (ks ++ xs) q
contains_all ks [] q = ap (λ l. contains l q) (sym (append-nil ks))
contains_all ks (x ∷ xs) q =
    contains_all (insert_key bytes_eq ks x) xs q
    ∙ list_any-append (bytes_eq q) (insert_key bytes_eq ks x) xs
    ∙ ap (λ b. b || contains xs q) (contains_insert ks x q)
    ∙ sym (list_any-append (bytes_eq q) (ks ++ x ∷ []) xs)
    ∙ ap (λ l. contains l q) (append_assoc ks (x ∷ []) xs)

-- names that a list has already, taken out
module _ (ks : List (List ℕ)) (x : List ℕ) where
  abbrev new_in : List (List ℕ) → List (List ℕ)
  new_in l = filter (λ y. not (contains ks y)) l

  abbrev others : List (List ℕ) → List (List ℕ)
  others l = filter (λ y. not (bytes_eq y x)) l

  drops : contains ks x ≡ true → (l : List (List ℕ)) → new_in l ≡ new_in (others l)
  drops e [] = refl
  drops e (y ∷ ys) = by (drops e ys) (bytes_eq y x) refl
    where
      by : new_in ys ≡ new_in (others ys) → (b : Bool) → bytes_eq y x ≡ b → cond (not (contains ks y)) (y ∷ new_in ys) (new_in ys) ≡ new_in (cond (not b) (y ∷ others ys) (others ys))
      by more true f = ap (λ b. cond (not b) (y ∷ new_in ys) (new_in ys)) (ap (contains ks) (same y x f) ∙ e) ∙ more
      by more false f = ap (λ l. cond (not (contains ks y)) (y ∷ l) l) more

  abbrev new_behind : List (List ℕ) → List (List ℕ)
  new_behind l = filter (λ y. not (contains (ks ++ x ∷ []) y)) l

  keeps : (l : List (List ℕ)) → new_behind l ≡ new_in (others l)
  keeps [] = refl
  keeps (y ∷ ys) = ap (λ t. cond (not t) (y ∷ new_behind ys) (new_behind ys)) (list_any-append (bytes_eq y) ks (x ∷ [])) ∙ by (keeps ys) (bytes_eq y x)
    where
      by : new_behind ys ≡ new_in (others ys) → (c : Bool) → cond (not (contains ks y || (c || false))) (y ∷ new_behind ys) (new_behind ys) ≡ new_in (cond (not c) (y ∷ others ys) (others ys))
      by more true = ap (λ t. cond (not t) (y ∷ new_behind ys) (new_behind ys)) (or_true (contains ks y)) ∙ more
      by more false =
          ap (λ t. cond (not t) (y ∷ new_behind ys) (new_behind ys)) (sym (or_no (contains ks y)))
          ∙ ap (λ l. cond (not (contains ks y)) (y ∷ l) l) more

pub insert_first : (ks xs : List (List ℕ)) → insert_all bytes_eq ks xs ≡ ks ++ filter (λ y. not (contains ks y)) (first_sights xs)
insert_first ks [] = sym (append-nil ks)
insert_first ks (x ∷ xs) = insert_first (insert_key bytes_eq ks x) xs ∙ by (contains ks x) refl
  where
    by : (b : Bool) → contains ks x ≡ b → (if b then ks else ks ++ x ∷ []) ++ filter (λ y. not (contains (if b then ks else ks ++ x ∷ []) y)) (first_sights xs) ≡ ks ++ filter (λ y. not (contains ks y)) (first_sights (x ∷ xs))
    by true e =
        ap (λ l. ks ++ l) (drops ks x e (first_sights xs))
        ∙ sym (ap (λ b. ks ++ cond (not b) (x ∷ new_in ks x (others ks x (first_sights xs))) (new_in ks x (others ks x (first_sights xs)))) e)
    by false e =
        append_assoc ks (x ∷ []) (new_behind ks x (first_sights xs))
        ∙ ap (λ l. ks ++ x ∷ l) (keeps ks x (first_sights xs))
        ∙ sym (ap (λ b. ks ++ cond (not b) (x ∷ new_in ks x (others ks x (first_sights xs))) (new_in ks x (others ks x (first_sights xs)))) e)

nothing_out : (l : List (List ℕ)) → filter (λ y. true) l ≡ l
nothing_out [] = refl
nothing_out (x ∷ xs) = ap (λ l. x ∷ l) (nothing_out xs)

-- each name once, and the same names
pub inserted : (xs : List (List ℕ)) → insert_all bytes_eq [] xs ≡ first_sights xs
inserted xs = insert_first [] xs ∙ nothing_out (first_sights xs)

pub contains_first : (xs : List (List ℕ)) (q : List ℕ) → contains (first_sights xs) q ≡ contains xs q
contains_first xs q = ap (λ l. contains l q) (sym (inserted xs)) ∙ contains_all [] xs q

-- in the module nothing is a parameter, listed or bound apart
pub in_module : (t : Table) (params listed bound : List (List ℕ)) → params ≡ [] → listed ≡ [] → bound ≡ [] → (name : List ℕ) → inner_role (table_role t) params listed bound name ≡ table_role t name
in_module t params listed bound p l b name =
    ap (λ x. inner_role (table_role t) x listed bound name) p
    ∙ ap (λ x. inner_role (table_role t) [] x bound name) l
    ∙ ap (λ x. inner_role (table_role t) [] [] x name) b
    ∙ by (is_builtin name) refl
  where
    by : (c : Bool) → is_builtin name ≡ c → (if c then Builtin else table_role t name) ≡ table_role t name
    by true e = sym (ap (λ b. if b then Builtin else said_or_variable (lookup (bytes_eq name) t.said.entries) (contains t.bound.keys name)) e)
    by false e = refl

-- the role inside a function goes by which names are there, not by their order
pub inner_same : (outer : Roles) (p1 p2 l1 l2 b1 b2 : List (List ℕ)) → ((q : List ℕ) → contains p1 q ≡ contains p2 q) → ((q : List ℕ) → contains l1 q ≡ contains l2 q) → ((q : List ℕ) → contains b1 q ≡ contains b2 q) → (name : List ℕ) → inner_role outer p1 l1 b1 name ≡ inner_role outer p2 l2 b2 name
inner_same outer p1 p2 l1 l2 b1 b2 p l b name =
    ap (λ x. if is_builtin name then Builtin else (if x then Param else (if contains l1 name && is_variable (outer name) then GlobalVar else (if contains b1 name then Local else outer name)))) (p name)
    ∙ ap (λ x. if is_builtin name then Builtin else (if contains p2 name then Param else (if x && is_variable (outer name) then GlobalVar else (if contains b1 name then Local else outer name)))) (l name)
    ∙ ap (λ x. if is_builtin name then Builtin else (if contains p2 name then Param else (if contains l2 name && is_variable (outer name) then GlobalVar else (if x then Local else outer name)))) (b name)

-- what is wrong in a body goes by which names are refused, not by their order
pub same_refused : (outer role : Roles) (r1 r2 : List (List ℕ)) → ((q : List ℕ) → contains r1 q ≡ contains r2 q) → (xs : List Sight) → body_faults outer role r1 xs ≡ body_faults outer role r2 xs
same_refused outer role r1 r2 h [] = refl
same_refused outer role r1 r2 h (x ∷ xs) =
    ap (λ t. place_faults outer role t x.does x.span ++ body_faults outer role (r1 ++ seen_there x.does) xs) (λ i q. h q i)
    ∙ ap (λ l. place_faults outer role (contains r2) x.does x.span ++ l)
    (same_refused outer role (r1 ++ seen_there x.does) (r2 ++ seen_there x.does) (λ q. list_any-append (bytes_eq q) r1 (seen_there x.does) ∙ ap (λ b. b || contains (seen_there x.does) q) (h q) ∙ sym (list_any-append (bytes_eq q) r2 (seen_there x.does))) xs)

-- a step of filling the table of what is said, from the last pair to the first, and its beginning
pub said_step : (said rest : List (List ℕ × Role)) (x : List ℕ × Role) (old new all : List ℕ → Option Role) → said ≡ rest ++ x ∷ [] → ((k : List ℕ) → new k ≡ cond (bytes_eq x.0 k) (Some x.1) (old k)) → ((k : List ℕ) → or_else (lookup (bytes_eq k) said) (old k) ≡ all k) → (k : List ℕ) → or_else (lookup (bytes_eq k) rest) (new k) ≡ all k
said_step said rest x old new all is put before k =
    ap (or_else (lookup (bytes_eq k) rest)) (put k ∙ ap (λ b. cond b (Some x.1) (old k)) (nat_list_eq_equiv.symm x.0 k))
    ∙ sym (lookup_last (bytes_eq k) rest x (old k))
    ∙ ap (λ l. or_else (lookup (bytes_eq k) l) (old k)) (sym is)
    ∙ before k

-- a step of filling a set of names, and its end
pub set_step : (ks ks2 xs all : List (List ℕ)) (i : ℕ) (x y : List ℕ) → i < length xs → x ≡ get_or xs i x → y ≡ x → ks2 ≡ insert_key bytes_eq ks y → insert_all bytes_eq ks (drop i xs) ≡ all → insert_all bytes_eq ks2 (drop (i + 1) xs) ≡ all
set_step ks ks2 xs all i x y h at is put before =
    ap (λ l. insert_all bytes_eq l (drop (i + 1) xs)) (put ∙ ap (insert_key bytes_eq ks) (is ∙ at))
    ∙ ap (λ n. insert_all bytes_eq (insert_key bytes_eq ks (get_or xs i x)) (drop n xs)) (add-one i)
    ∙ ap (insert_all bytes_eq ks) (sym (drop-cons xs i x h))
    ∙ before

pub set_end : (ks xs : List (List ℕ)) (i : ℕ) → length xs ≤ i → insert_all bytes_eq ks (drop i xs) ≡ insert_all bytes_eq [] xs → ks ≡ first_sights xs
set_end ks xs i h e = ap (insert_all bytes_eq ks) (sym (nothing_left xs i h)) ∙ e ∙ inserted xs

-- the role inside a function by sets of names
pub inner_from : (outer : Roles) (p p2 l l2 b b2 : List (List ℕ)) → p2 ≡ first_sights p → l2 ≡ first_sights l → b2 ≡ first_sights b → (name : List ℕ) → inner_role outer p2 l2 b2 name ≡ inner_role outer p l b name
inner_from outer p p2 l l2 b b2 e f g name =
    inner_same outer p2 p l2 l b2 b (λ q. ap (λ x. contains x q) e ∙ contains_first p q) (λ q. ap (λ x. contains x q) f ∙ contains_first l q) (λ q. ap (λ x. contains x q) g ∙ contains_first b q) name

-- the role in the module by its tables
pub table_from : (m : List ℕ → Option Role) (said : List (List ℕ × Role)) (bound keys : List (List ℕ)) → ((k : List ℕ) → m k ≡ lookup (bytes_eq k) said) → keys ≡ first_sights bound → (name : List ℕ) → (if is_builtin name then Builtin else said_or_variable (m name) (contains keys name)) ≡ (if is_builtin name then Builtin else said_or_variable (lookup (bytes_eq name) said) (contains bound name))
table_from m said bound keys h e name =
    ap (λ o. if is_builtin name then Builtin else said_or_variable o (contains keys name)) (h name)
    ∙ ap (λ b. if is_builtin name then Builtin else said_or_variable (lookup (bytes_eq name) said) b) (ap (λ x. contains x name) e ∙ contains_first bound name)

-- what was put behind nothing
pub from_nothing : {A : Type 0} (all front more : List A) → all ≡ front ++ more → front ≡ [] → all ≡ more
from_nothing all front more e none = e ∙ ap (λ l. l ++ more) none

pub put_says : (ks ks2 : List (List ℕ)) (v y : List ℕ) → y ≡ v → ks2 ≡ insert_key bytes_eq ks y → (x : List ℕ) → contains ks2 x ≡ contains (ks ++ v ∷ []) x
put_says ks ks2 v y is e x = ap (λ l. contains l x) (e ∙ ap (insert_key bytes_eq ks) is) ∙ contains_insert ks v x

-- a search along a list: one more that is not meant, and one that is
pub find_step : (p : List ℕ → Bool) (xs : List (List ℕ)) (i : ℕ) (x : List ℕ) (found : Option (List ℕ)) → i < length xs → x ≡ get_or xs i x → p x ≡ false → find p (drop i xs) ≡ found → find p (drop (i + 1) xs) ≡ found
find_step p xs i x found h at not_it before =
    ap (λ n. find p (drop n xs)) (add-one i)
    ∙ sym (ap (λ b. cond b (Some x) (find p (drop (suc i) xs))) not_it)
    ∙ ap (λ y. find p (y ∷ drop (suc i) xs)) at
    ∙ ap (find p) (sym (drop-cons xs i x h))
    ∙ before

pub find_here : (p : List ℕ → Bool) (xs : List (List ℕ)) (i : ℕ) (x : List ℕ) (found : Option (List ℕ)) → i < length xs → x ≡ get_or xs i x → p x ≡ true → find p (drop i xs) ≡ found → Some x ≡ found
find_here p xs i x found h at it before =
    sym (ap (λ b. cond b (Some x) (find p (drop (suc i) xs))) it)
    ∙ ap (λ y. find p (y ∷ drop (suc i) xs)) at
    ∙ ap (find p) (sym (drop-cons xs i x h))
    ∙ before

-- names behind others: those come first, and then what is new
inserted_behind : (ks xs ys : List (List ℕ)) → insert_all bytes_eq ks (xs ++ ys) ≡ insert_all bytes_eq (insert_all bytes_eq ks xs) ys
inserted_behind ks [] ys = refl
inserted_behind ks (x ∷ xs) ys = inserted_behind (insert_key bytes_eq ks x) xs ys

pub first_come_first : (xs ys : List (List ℕ)) → first_sights (xs ++ ys) ≡ first_sights xs ++ filter (λ y. not (contains xs y)) (first_sights ys)
first_come_first xs ys =
    sym (inserted (xs ++ ys))
    ∙ inserted_behind [] xs ys
    ∙ ap (λ l. insert_all bytes_eq l ys) (inserted xs)
    ∙ insert_first (first_sights xs) ys
    ∙ ap (λ (t : List ℕ → Bool). first_sights xs ++ filter (λ y. not (t y)) (first_sights ys)) (λ i y. contains_first xs y i)
