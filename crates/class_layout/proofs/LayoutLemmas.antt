-- The tables of a layout, one class after the other.
use Rattle.std.proofs.Common.{◌≡◌, ℕ, zero, suc, ◌+◌, ◌<◌, ◌≤◌, Bool, true, false, ◌&&◌, List, [], ◌∷◌, ◌++◌, map, length, get_or, flat_map, nat_lt, slice_get, Option, Some, None, is_some, option_map, option_and_then, option_copied, IfSome, Result, Err, IfOk, IsErrAnd, refl, sym, ap, ap₂, subst, ◌∙◌, arith, length-append}
use Rattle.std.specs.List.{list_all}
use Rattle.std.specs.Option.{option_or}
use Rattle.std.specs.Borrow.{Bor}
use Rattle.std.specs.Str.{bytes_eq}
use Rattle.std.proofs.lemmas.Bool.{ltb-true}
use Rattle.std.proofs.lemmas.Bool.Decides.{nat_tests}
use Rattle.std.proofs.lemmas.List.Sums.{fold-append}
use Rattle.std.proofs.lemmas.Result.{err_from_is_err_and, IfOk-weaker}
use Rattle.std.proofs.lemmas.Option.{same_Some, slice_get_past, slice_get-map, slice_get-get_or}
use Rattle.indexmap.specs.IndexSet.{IndexSet, insert_key, insert_all}
use Rattle.py_typed.specs.Classes.{ClassEntry, ClassTable, class_entry, bases_in, bases_of, bases_fall, with_sort}
use Rattle.py_typed.specs.declared.classes.ClassInfo.{ClassInfo}
use Rattle.py_typed.specs.declared.types.Ty.{Ty}
use Rattle.py_typed.specs.Laws.{IsClassTree}
use Rattle.py_typed.specs.Order.{own_attributes, order, listed_order, own_method, method_along, member_of, method_of}
use Rattle.class_layout_members.specs.Names.{names_in, place_of, own_methods, own_attribute_names, own_method_names, attribute_names, method_names}
use Rattle.class_layout_members.specs.Clashes.{clash_among, members_along, clash_of, AllAgreeAlong}
use Rattle.class_layout_members.specs.Tables.{names_at, function_at, found_or_above}
use Rattle.class_layout_members.specs.Views.{definitions_in}
use Rattle.class_layout_members.specs.declared.member.Definition.{Definition as CodeDefinition}
use Rattle.indexmap.specs.IndexMap.{IndexMap}
use Rattle.class_layout_members.proofs.RowLemmas.{at_place, place_there}
use Rattle.class_layout_members.proofs.NameLemmas.{names, names_are, same_all}
use Rattle.class_layout_members.proofs.AttributeLemmas.{same_place}
use Rattle.class_layout.specs.Orders.{IsOrdered, AreOrders, AllHaveOrders}
use Rattle.class_layout.specs.Layouts.{functions_in, member_in, method_in, Holds, AreKnown, IsChecked, IsClashAt, IsLayout}
use Rattle.class_layout.specs.declared.layout_error.LayoutError.{LayoutError}
use Rattle.class_layout.specs.declared.layout_error.LayoutError.TheVariants.{NoOrder, Clash, Memory}
use Rattle.class_layout.specs.declared.table.LayoutTable.{LayoutTable}
use Rattle.class_layout.proofs.OrderLemmas.{as_many}
use Rattle.class_layout.proofs.LawLemmas.{method_has_place, all_functions}

-- ---- a class of a list

entry_is : (infos : List ClassInfo) (i : ℕ) (info : ClassInfo) → i < length infos → info ≡ get_or infos i info → slice_get (map class_entry infos) i ≡ Some (class_entry info)
entry_is infos i info l at = slice_get-map class_entry infos i ∙ ap (option_map class_entry) (slice_get-get_or infos i info l ∙ ap Some (sym at))

names_with_sort : (attrs : List (List ℕ × Ty)) → names_in (map with_sort attrs) ≡ names_in attrs
names_with_sort [] = refl
names_with_sort (p ∷ attrs) = ap (λ l. p.0 ∷ l) (names_with_sort attrs)

-- ---- classes one after the other, whose bases have smaller numbers

pub next_falls : (classes : List ClassEntry) (n : ℕ) → ((c : ℕ) → c < n → bases_fall classes c ≡ true) → bases_fall classes n ≡ true → (c : ℕ) → c < n + 1 → bases_fall classes c ≡ true
next_falls classes n before e c less = by (nat_lt c n) refl
  where
    by : (b : Bool) → nat_lt c n ≡ b → bases_fall classes c ≡ true
    by true p = before c (ltb-true c n p)
    by false p = let same : c ≡ n = grind (arith, nat_tests, p, less) in ap (bases_fall classes) same ∙ e

pub all_fall : (infos : List ClassInfo) (n : ℕ) → length infos ≤ n → ((c : ℕ) → c < n → bases_fall (map class_entry infos) c ≡ true) → IsClassTree (map class_entry infos)
all_fall infos n l h =
    record {
      falls = λ c. by c (nat_lt c n) refl;
    }
  where
    none : (row : List ClassEntry) (c : ℕ) → length row ≤ c → list_all (λ b. nat_lt b c) (bases_in (slice_get row c)) ≡ true
    none row c q = ap (λ o. list_all (λ b. nat_lt b c) (bases_in o)) (slice_get_past row c q)

    by : (c : ℕ) (b : Bool) → nat_lt c n ≡ b → bases_fall (map class_entry infos) c ≡ true
    by c true p = h c (ltb-true c n p)
    by c false p =
        let many = as_many infos in
        none (map class_entry infos) c (grind (arith, nat_tests, p, l, many))

-- ---- the names of the next class

module _ (classes : List ClassEntry) (tree : IsClassTree classes) (own : ℕ → List (List ℕ)) where
  pub next_names : {S : Type 0} (tables : List (IndexSet (List ℕ) S)) (n : ℕ) (bases : List ℕ) (above all row : List (List ℕ)) → n ≡ length tables
      → ((b : ℕ) → b < length tables → names_at tables b ≡ names classes tree own b) → bases ≡ bases_of classes n → row ≡ own n
      → above ≡ insert_all bytes_eq [] (flat_map (names_at tables) bases) → all ≡ insert_all bytes_eq above row → all ≡ names classes tree own n
  next_names tables n bases above all row p each is own_is q r =
      r
      ∙ ap₂ (insert_all bytes_eq) (q ∙ ap (λ bs. insert_all bytes_eq [] (flat_map (names_at tables) bs)) is) own_is
      ∙ ap (λ l. insert_all bytes_eq (insert_all bytes_eq [] l) (own n)) (same_all (names_at tables) (names classes tree own) n (bases_of classes n) (λ b less. each b (subst (λ z. b < z) p less)) (tree.falls n))
      ∙ sym (fold-append (insert_key bytes_eq) [] (flat_map (names classes tree own) (bases_of classes n)) (own n))
      ∙ sym (names_are classes tree own n)

module _ (infos : List ClassInfo) (n : ℕ) (info : ClassInfo) (l : n < length infos) (at : info ≡ get_or infos n info) where
  pub bases_here : info.bases ≡ bases_of (map class_entry infos) n
  bases_here = sym (ap bases_in (entry_is infos n info l at))

  pub attributes_here : names_in info.attrs ≡ own_attribute_names (map class_entry infos) n
  attributes_here = sym (names_with_sort info.attrs) ∙ sym (ap (λ o. names_in (own_attributes o)) (entry_is infos n info l at))

  pub methods_here : names_in info.methods ≡ own_method_names (map class_entry infos) n
  methods_here = sym (ap (λ o. names_in (own_methods o)) (entry_is infos n info l at))

-- ---- functions

module _ (classes : List ClassEntry) (tree : IsClassTree classes) where
  same_test : (f g : List ℕ → Option ℕ) → ((q : List ℕ) → f q ≡ g q) → (ns : List (List ℕ)) → list_all (λ q. is_some (f q)) ns ≡ list_all (λ q. is_some (g q)) ns
  same_test f g h [] = refl
  same_test f g h (n ∷ ns) = ap₂ (λ a b. is_some a && b) (h n) (same_test f g h ns)

  same_row : (f g : List ℕ → Option ℕ) → ((q : List ℕ) → f q ≡ g q) → (ns : List (List ℕ)) → map f ns ≡ map g ns
  same_row f g h [] = refl
  same_row f g h (n ∷ ns) = ap₂ (λ a b. a ∷ b) (h n) (same_row f g h ns)

  module _ (c : ℕ) (there : is_some (order classes c) ≡ true) (row : List ℕ) (is : row ≡ listed_order (order classes c)) (found : List ℕ → Option ℕ) (h : (q : List ℕ) → found q ≡ method_along classes q row) (ns : List (List ℕ)) (named : ns ≡ method_names classes c) where
    found_is : (q : List ℕ) → found q ≡ method_of classes c q
    found_is q = h q ∙ ap (method_along classes q) is

    pub functions_there : list_all (λ q. is_some (found q)) ns ≡ true
    functions_there = ap (list_all (λ q. is_some (found q))) named ∙ same_test found (method_of classes c) found_is (method_names classes c) ∙ all_functions classes tree c there

    pub functions_are : (functions : List ℕ) → map Some functions ≡ map found ns → map Some functions ≡ map (method_of classes c) (method_names classes c)
    functions_are functions e = e ∙ ap (map found) named ∙ same_row found (method_of classes c) found_is (method_names classes c)

  -- ---- what the tables say

  under_some : (o m : Option ℕ) → option_map Some o ≡ Some m → o ≡ m
  under_some None m e = absurd (cc)
  under_some (Some x) m e = same_Some (Some x) m e

  none_is : (o : Option ℕ) → is_some o ≡ false → None ≡ o
  none_is None e = refl
  none_is (Some x) e = absurd (cc)

  member_is : (c : ℕ) (name : List ℕ) (functions : List ℕ) → is_some (order classes c) ≡ true → map Some functions ≡ map (method_of classes c) (method_names classes c)
      → option_and_then (λ i. slice_get functions i) (place_of name (method_names classes c)) ≡ method_of classes c name
  member_is c name functions o e = by (place_of name (method_names classes c)) refl
    where
      by : (p : Option ℕ) → place_of name (method_names classes c) ≡ p → option_and_then (λ i. slice_get functions i) p ≡ method_of classes c name
      by None q = none_is (method_of classes c name) (sym (method_has_place classes tree c name o) ∙ sym (place_there name (method_names classes c)) ∙ ap is_some q)
      by (Some i) q =
          under_some (slice_get functions i) (method_of classes c name)
          (sym (slice_get-map Some functions i) ∙ ap (λ l. slice_get l i) e ∙ slice_get-map (method_of classes c) (method_names classes c) i ∙ ap (option_map (method_of classes c)) (at_place (method_names classes c) i name q))

  or_no : (o : Option ℕ) → option_or o None ≡ o
  or_no None = refl
  or_no (Some x) = refl

  -- what is found for a class alone, over the functions of its first base
  pub over_base : (n b x : ℕ) (own : List ℕ → Option ℕ) (names : List (List ℕ)) (functions : List ℕ) → listed_order (order classes n) ≡ x ∷ listed_order (order classes b) → is_some (order classes b) ≡ true
      → names ≡ method_names classes b → map Some functions ≡ map (method_of classes b) (method_names classes b) → ((q : List ℕ) → own q ≡ method_along classes q (x ∷ []))
      → (q : List ℕ) → found_or_above own names functions q ≡ method_along classes q (listed_order (order classes n))
  over_base n b x own names functions front there named are found q =
      ap₂ option_or (found q ∙ or_no (own_method classes q x)) (ap (λ ns. function_at ns functions q) named ∙ member_is b q functions there are)
      ∙ sym (ap (method_along classes q) front)

  -- and what is found along an order, over nothing
  pub over_nothing : (found : List ℕ → Option ℕ) (row : List ℕ) → ((q : List ℕ) → found q ≡ method_along classes q row) → (q : List ℕ) → found_or_above found [] [] q ≡ method_along classes q row
  over_nothing found row h q = or_no (found q) ∙ h q

  pub holds : (t : LayoutTable) → AllHaveOrders classes → ((c : ℕ) → c < length classes → names_at t.attributes c ≡ attribute_names classes c)
      → ((c : ℕ) → c < length classes → names_at t.methods c ≡ method_names classes c)
      → ((c : ℕ) → c < length classes → map Some (functions_in t.functions c) ≡ map (method_of classes c) (method_names classes c))
      → ((c : ℕ) (name : List ℕ) → c < length classes → method_of classes c name ≡ method_in (member_of classes c name)) → Holds classes t
  holds t o a m f first =
      record {
        names = a;
        slots = λ c name l. ap (place_of name) (a c l) ∙ sym (same_place classes c name);
        methods = m;
        functions = f;
        members = each;
        firsts = λ c name l. each c name l ∙ first c name l;
      }
    where
      each : (c : ℕ) (name : List ℕ) → c < length classes → member_in t c name ≡ method_of classes c name
      each c name l = ap (λ ns. option_and_then (λ i. slice_get (functions_in t.functions c) i) (place_of name ns)) (m c l) ∙ member_is c name (functions_in t.functions c) (o c l) (f c l)

-- ---- orders

is_there : {A : Type 0} (xs : List A) (i : ℕ) → i < length xs → is_some (slice_get xs i) ≡ true
is_there [] i l = absurd (omega (arith, l))
is_there (x ∷ xs) zero l = refl
is_there (x ∷ xs) (suc i) l = is_there xs i (omega (arith, l))

pub all_have_orders : (classes : List ClassEntry) (orders : List (List ℕ)) → AreOrders classes orders → AllHaveOrders classes
all_have_orders classes orders a c l = let long = a.long in sym (ap is_some (a.each c l)) ∙ is_there orders c (omega (arith, l, long))

pub clash_here : (table : ClassTable) (orders : List (List ℕ)) → AreOrders table.classes orders → (c : ℕ) → c < length orders → (row : List ℕ) → row ≡ listed_order (slice_get orders c)
    → clash_among (members_along table row) ≡ clash_of table c
clash_here table orders a c l row is =
    let long = a.long in
    ap (λ r. clash_among (members_along table r)) (is ∙ ap listed_order (a.each c (omega (arith, l, long))))

-- ---- why there is no layout

pub no_orders : (table : ClassTable) (e : LayoutError) → IsOrdered table.classes (Err e) → IsLayout table (Err e)
no_orders table (NoOrder c) h = h
no_orders table (Clash c name) h = absurd h
no_orders table Memory h = tt

pub not_checked : (table : ClassTable) (e : LayoutError) → AllHaveOrders table.classes → IsChecked table (Err e) → IsLayout table (Err e)
not_checked table (NoOrder c) o h = absurd h
not_checked table (Clash c name) o h = (o, h)
not_checked table Memory o h = tt

pub only_memory : (table : ClassTable) (e : LayoutError) → e ≡ Memory → IsLayout table (Err e)
only_memory table (NoOrder c) h = absurd (cc)
only_memory table (Clash c name) h = absurd (cc)
only_memory table Memory h = tt

-- ---- what is known of each class of a list

pub in_entries : (P : ℕ → Type 0) (infos : List ClassInfo) → ((k : ℕ) → k < length infos → P k) → (k : ℕ) → k < length (map class_entry infos) → P k
in_entries P infos f k l = let many = as_many infos in f k (omega (arith, l, many))

-- ---- what is known of the classes before one

grow : {A : Type 0} (P : ℕ → A → Type 0) (xs : List A) (x : A) → ((k : ℕ) (a : A) → slice_get xs k ≡ Some a → P k a) → P (length xs) x → (k : ℕ) (a : A) → slice_get (xs ++ x ∷ []) k ≡ Some a → P k a
grow P [] x h p zero a e = subst (P 0) (same_Some x a e) p
grow P [] x h p (suc k) a e = absurd (cc)
grow P (y ∷ xs) x h p zero a e = h 0 a e
grow P (y ∷ xs) x h p (suc k) a e = grow (λ i b. P (suc i) b) xs x (λ i b f. h (suc i) b f) p k a e

pub next_known : {A : Type 0} (P : ℕ → A → Type 0) (xs xs' : List A) (x : A) (n : ℕ) → xs' ≡ xs ++ x ∷ [] → length xs ≡ n → ((k : ℕ) (a : A) → slice_get xs k ≡ Some a → P k a) → P n x → (k : ℕ) (a : A) → slice_get xs' k ≡ Some a → P k a
next_known P xs xs' x n put long each p k a e = grow P xs x each (subst (λ z. P z x) (sym long) p) k a (sym (ap (λ l. slice_get l k) put) ∙ e)

pub one_more_known : {A : Type 0} (xs xs' : List A) (x : A) (n : ℕ) → xs' ≡ xs ++ x ∷ [] → length xs ≡ n → length xs' ≡ n + 1
one_more_known xs xs' x n put long = let more = ap length put in let both = length-append xs (x ∷ []) in omega (arith, more, both, long)

within_known : {A : Type 0} (xs : List A) (k : ℕ) (a : A) → slice_get xs k ≡ Some a → k < length xs
within_known [] k a e = absurd (cc)
within_known (x ∷ xs) zero a e = omega arith
within_known (x ∷ xs) (suc k) a e = let less = within_known xs k a e in omega (arith, less)

-- the order of a class that is the class in front of the order of one before it
front_order : (classes : List ClassEntry) (orders : List (List ℕ)) (n x b : ℕ) → AreOrders classes orders → n < length orders → b < length orders → listed_order (slice_get orders n) ≡ x ∷ listed_order (slice_get orders b)
    → listed_order (order classes n) ≡ x ∷ listed_order (order classes b)
front_order classes orders n x b o l less e =
    let all = o.long in
    sym (ap listed_order (o.each n (omega (arith, l, all)))) ∙ e ∙ ap (λ z. x ∷ listed_order z) (o.each b (omega (arith, less, all)))

pub front_is : {A : Type 0} (classes : List ClassEntry) (orders : List (List ℕ)) (known : List A) (a : A) (n x b : ℕ) → AreOrders classes orders → n < length orders → length known ≡ n → slice_get known b ≡ Some a
    → listed_order (slice_get orders n) ≡ x ∷ listed_order (slice_get orders b) → listed_order (order classes n) ≡ x ∷ listed_order (order classes b)
front_is classes orders known a n x b o l long there e = let less = within_known known b a there in front_order classes orders n x b o l (omega (arith, l, long, less)) e

-- what is found for the next class alone, over the functions of its first base
pub next_over_base : (classes : List ClassEntry) → IsClassTree classes → (orders : List (List ℕ)) (n b x : ℕ) (own : List ℕ → Option ℕ) (names : List (List ℕ)) (functions : List ℕ) → AreOrders classes orders → n < length orders → b < n
    → listed_order (slice_get orders n) ≡ x ∷ listed_order (slice_get orders b) → names ≡ method_names classes b → map Some functions ≡ map (method_of classes b) (method_names classes b)
    → ((q : List ℕ) → own q ≡ method_along classes q (x ∷ [])) → (q : List ℕ) → found_or_above own names functions q ≡ method_along classes q (listed_order (order classes n))
next_over_base classes tree orders n b x own names functions o l less e named are found =
    let all = o.long in
    over_base classes tree n b x own names functions
    (front_order classes orders n x b o l (omega (arith, l, less)) e)
    (all_have_orders classes orders o b (omega (arith, l, less, all)))
    named
    are
    found

-- all definitions of classes that are known agree
pub known_agree : {S : Type 0} (table : ClassTable) (known : List (IndexMap (List ℕ) CodeDefinition S)) (n : ℕ) → AreKnown table known → length known ≡ n → (c : ℕ) → c < n → clash_of table c ≡ None
known_agree {S = S} table known n a long c l = by (slice_get known c) refl
  where
    by : (o : Option (IndexMap (List ℕ) CodeDefinition S)) → slice_get known c ≡ o → clash_of table c ≡ None
    by None e = let both : false ≡ true = sym (ap is_some e) ∙ is_there known c (omega (arith, l, long)) in absurd (cc)
    by (Some m) e = (a c m e).none

pub first_clash : (table : ClassTable) (n : ℕ) (e : LayoutError) → n < length table.classes → ((c : ℕ) → c < n → clash_of table c ≡ None) → IsClashAt table n e → IsChecked table (Err e)
first_clash table n (NoOrder d) l before h = h
first_clash table n (Clash d name) l before h =
    record {
      there = subst (λ z. z < length table.classes) (sym h.0) l;
      clash = subst (λ z. clash_of table z ≡ Some name) (sym h.0) h.1;
      before = λ c less. before c (subst (λ z. c < z) h.0 less);
    }
first_clash table n Memory l before h = tt

-- one more class of which the first definitions are known
pub known_more : {S : Type 0} (table : ClassTable) (known known' : List (IndexMap (List ℕ) CodeDefinition S)) (firsts : IndexMap (List ℕ) CodeDefinition S) (n : ℕ) → known' ≡ known ++ firsts ∷ [] → length known ≡ n
    → AreKnown table known → AllAgreeAlong table (listed_order (order table.classes n)) (definitions_in firsts) → (length known' ≡ n + 1) × AreKnown table known'
known_more {S = S} table known known' firsts n put long each new = (
  one_more_known known known' firsts n put long,
  next_known {A = IndexMap (List ℕ) CodeDefinition S} (λ k m. AllAgreeAlong table (listed_order (order table.classes k)) (definitions_in m)) known known' firsts n put long each new,
)

-- what is asked of a list at a place
pub found_at : {A : Type 0} (xs : List A) (i : ℕ) (found : Option (Bor A)) → is_some found ≡ nat_lt i (length xs) → IfSome found (λ x. x.now ≡ get_or xs i x.now) → option_copied found ≡ slice_get xs i
found_at xs i None e h =
    let past : length xs ≤ i = grind (arith, nat_tests, e) in
    sym (slice_get_past xs i past)
found_at xs i (Some x) e h = let less : i < length xs = ltb-true i (length xs) (sym e) in sym (slice_get-get_or xs i x.now less ∙ ap Some (sym h))

-- ---- the functions of the next class

module _ (infos : List ClassInfo) (falls : (c : ℕ) → bases_fall (map class_entry infos) c ≡ true) (orders : List (List ℕ)) (o : AreOrders (map class_entry infos) orders) (methods : ℕ → List (List ℕ)) (named : (c : ℕ) → c < length infos → methods c ≡ method_names (map class_entry infos) c) (n : ℕ) (l : n < length orders) where
  abbrev classes : List ClassEntry
  classes = map class_entry infos

  tree : IsClassTree classes
  tree = record { falls = falls }

  inside : n < length infos
  inside = let many = as_many infos in let long = o.long in omega (arith, l, many, long)

  among : n < length classes
  among = let long = o.long in omega (arith, l, long)

  -- what is found along its order
  pub found_along : (row : List ℕ) → row ≡ listed_order (slice_get orders n) → (found : List ℕ → Option ℕ) → ((q : List ℕ) → found q ≡ method_along classes q row) → (q : List ℕ) → found_or_above found [] [] q ≡ method_along classes q (listed_order (order classes n))
  found_along row at found h q = over_nothing classes tree found row h q ∙ ap (method_along classes q) (at ∙ ap listed_order (o.each n among))

  -- or for the class alone, over the functions of its first base
  pub found_over : (b x : ℕ) → listed_order (slice_get orders n) ≡ x ∷ listed_order (slice_get orders b) → b < n → (own : List ℕ → Option ℕ) → ((q : List ℕ) → own q ≡ method_along classes q (x ∷ [])) → (names : List (List ℕ)) → names ≡ methods b
      → (functions : List ℕ) → map Some functions ≡ map (method_of classes b) (method_names classes b) → (q : List ℕ) → found_or_above own names functions q ≡ method_along classes q (listed_order (order classes n))
  found_over b x e less own h names is functions are =
      let here = inside in
      next_over_base classes tree orders n b x own names functions o l less e (is ∙ named b (omega (arith, less, here))) are h

  module _ (found : List ℕ → Option ℕ) (h : (q : List ℕ) → found q ≡ method_along classes q (listed_order (order classes n))) (names : List (List ℕ)) (is : names ≡ methods n) where
    there : is_some (order classes n) ≡ true
    there = all_have_orders classes orders o n among

    pub next_there : list_all (λ q. is_some (found q)) names ≡ true
    next_there = functions_there classes tree n there (listed_order (order classes n)) refl found h names (is ∙ named n inside)

    pub next_are : {E : Type 0} (r : Result (List ℕ) E) → IfOk r (λ all. map Some all ≡ map found names) → IfOk r (λ row. map Some row ≡ map (method_of classes n) (method_names classes n))
    next_are r k = IfOk-weaker r (λ all. map Some all ≡ map found names) (λ row. map Some row ≡ map (method_of classes n) (method_names classes n)) (λ all e. functions_are classes tree n there (listed_order (order classes n)) refl found h names (is ∙ named n inside) all e) k

-- ---- refusals that are handed on

pub wants_memory : (table : ClassTable) (result : Result LayoutTable LayoutError) → IsErrAnd result (λ e. e ≡ Memory) → IsLayout table result
wants_memory table result h = let p = err_from_is_err_and result h in subst (IsLayout table) (sym p.1) (only_memory table p.0 p.2)

pub is_refused : (table : ClassTable) (result : Result LayoutTable LayoutError) (e : LayoutError) → IsErrAnd result (λ y. y ≡ e) → IsLayout table (Err e) → IsLayout table result
is_refused table result e h k = let p = err_from_is_err_and result h in subst (IsLayout table) (sym p.1) (subst (λ z. IsLayout table (Err z)) (sym p.2) k)

pub is_unchecked : (table : ClassTable) (result : Result (Unit {0}) LayoutError) (e : LayoutError) → IsErrAnd result (λ y. y ≡ e) → IsChecked table (Err e) → IsChecked table result
is_unchecked table result e h k = let p = err_from_is_err_and result h in subst (IsChecked table) (sym p.1) (subst (λ z. IsChecked table (Err z)) (sym p.2) k)
