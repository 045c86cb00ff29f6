-- The order in which a class and those above it are asked for a member (Python's "The Python 2.3 Method Resolution Order": C3),
-- the member that is found, and the attributes of an instance.
use Rattle.std.specs.Prelude.{ℕ, zero, suc, Bool, not, ◌==◌, if◌then◌else◌, List, [], ◌∷◌, ◌++◌, length, map, take, drop, find, Option, Some, None, slice_get}
use Rattle.std.specs.List.{list_any, flat_map}
use Rattle.std.specs.Option.{option_map, option_and_then, option_or}
use Rattle.std.specs.Str.{bytes_eq}
use Rattle.py_typed.specs.Sorts.{Sort}
use Rattle.py_typed.specs.Classes.{ClassEntry, bases_of, has_class}

-- all of them, where each is there
abbrev pub all_there : {A : Type 0} → List (Option A) → Option (List A)
all_there [] = Some []
all_there (o ∷ os) = option_and_then (λ a. option_map (λ more. a ∷ more) (all_there os)) o

-- what the first has that has something
abbrev pub first_there : {A B : Type 0} → (A → Option B) → List A → Option B
first_there f [] = None
first_there f (a ∷ more) = option_or (f a) (first_there f more)

-- a member of a class: an attribute with its type, or a method with its function's number
pub data Member : Type 0 where
  AttributeMember : (t : Sort) → Member
  MethodMember : (f : ℕ) → Member

-- ---- the merge of C3

-- the class stands in no row but at its head
abbrev pub is_free : List (List ℕ) → ℕ → Bool
is_free rows c = not (list_any (λ row. has_class c (drop 1 row)) rows)

-- the row without the class at its head
abbrev pub headless : ℕ → List ℕ → List ℕ
headless c [] = []
headless c (d ∷ row) = if d == c then row else d ∷ row

abbrev pub heads : List (List ℕ) → List ℕ
heads rows = flat_map (take 1) rows

-- rows as one: again and again the first free head, taken from all of them; none where no head is free
abbrev pub merge_by : ℕ → List (List ℕ) → Option (List ℕ)
merge_by zero rows = Some []
merge_by (suc steps) rows = from_heads (heads rows) (option_and_then (λ c. option_map (λ more. c ∷ more) (merge_by steps (map (headless c) rows))) (find (is_free rows) (heads rows)))
  where
    from_heads : List ℕ → Option (List ℕ) → Option (List ℕ)
    from_heads [] found = Some []
    from_heads (c ∷ cs) found = found

-- no more steps than there are entries
abbrev pub merge : List (List ℕ) → Option (List ℕ)
merge rows = merge_by (length (flat_map (λ row. row) rows)) rows

-- an order as a row, empty where there is none
abbrev pub listed_order : Option (List ℕ) → List ℕ
listed_order None = []
listed_order (Some row) = row

-- ---- rows of names

-- what a row of names and values has of a name
abbrev pub named : {A : Type 0} → List ℕ → List (List ℕ × A) → Option A
named name row = option_map (λ p. p.1) (find (λ p. bytes_eq p.0 name) row)

-- the place of a name in a row
abbrev pub place_in : List ℕ → List (List ℕ × Sort) → Option ℕ
place_in name [] = None
place_in name (p ∷ more) = if bytes_eq p.0 name then Some 0 else option_map suc (place_in name more)

abbrev pub own_attributes : Option ClassEntry → List (List ℕ × Sort)
own_attributes None = []
own_attributes (Some entry) = entry.attributes

abbrev pub is_named_in : List (List ℕ × Sort) → List ℕ → Bool
is_named_in row name = list_any (λ p. bytes_eq p.0 name) row

-- a row, and behind it what is new of another one
abbrev pub with_new : List (List ℕ × Sort) → List (List ℕ × Sort) → List (List ℕ × Sort)
with_new row [] = row
with_new row (p ∷ more) = with_new (if is_named_in row p.0 then row else row ++ p ∷ []) more

module _ (classes : List ClassEntry) where
  -- ---- orders

  -- a class, then the merge of its bases' orders and the row of its bases. The number of a base is below its class's, so at most
  -- as many levels as that number stand above it
  abbrev pub order_by : ℕ → ℕ → Option (List ℕ)
  order_by zero c = Some (c ∷ [])
  order_by (suc levels) c =
      option_map (λ above. c ∷ above) (option_and_then (λ rows. merge (rows ++ bases_of classes c ∷ [])) (all_there (map (order_by levels) (bases_of classes c))))

  -- the order of a class, if it has one
  abbrev pub order : ℕ → Option (List ℕ)
  order c = order_by c c

  -- ---- members

  -- the function of a class's own method
  abbrev pub own_method : List ℕ → ℕ → Option ℕ
  own_method name c = option_and_then (λ entry. named name entry.methods) (slice_get classes c)

  -- the type of a class's own attribute
  abbrev pub own_attribute : List ℕ → ℕ → Option Sort
  own_attribute name c = option_and_then (λ entry. named name entry.attributes) (slice_get classes c)

  -- a class's own member of a name, of which it has no two
  abbrev pub own_member : List ℕ → ℕ → Option Member
  own_member name c = option_or (option_map MethodMember (own_method name c)) (option_map AttributeMember (own_attribute name c))

  -- THE MEMBER of a class: that of the first class along the order that has one of this name
  abbrev pub member_of : ℕ → List ℕ → Option Member
  member_of c name = first_there (own_member name) (listed_order (order c))

  -- its method and its attribute of a name, which are that member where all members of one name along the order are of one kind
  abbrev pub method_along : List ℕ → List ℕ → Option ℕ
  method_along name row = first_there (own_method name) row

  abbrev pub method_of : ℕ → List ℕ → Option ℕ
  method_of c name = method_along name (listed_order (order c))

  abbrev pub attribute_of : ℕ → List ℕ → Option Sort
  attribute_of c name = first_there (own_attribute name) (listed_order (order c))

  -- ---- the attributes of an instance

  -- those of the bases, and then the class's own ones that no base has: an attribute keeps its place below
  abbrev pub attributes_by : ℕ → ℕ → List (List ℕ × Sort)
  attributes_by zero c = with_new [] (own_attributes (slice_get classes c))
  attributes_by (suc levels) c =
      with_new [] (flat_map (attributes_by levels) (bases_of classes c) ++ own_attributes (slice_get classes c))

  abbrev pub attributes : ℕ → List (List ℕ × Sort)
  attributes c = attributes_by c c
