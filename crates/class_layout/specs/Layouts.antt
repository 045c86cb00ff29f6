-- What a table of layouts says of classes, and what it has to say.
use Rattle.std.specs.Prelude.{◌≡◌, ℕ, ◌<◌, Bool, true, List, [], map, length, Option, None, Some, slice_get, Result, Ok, Err}
use Rattle.py_typed.specs.Classes.{ClassEntry, ClassTable}
use Rattle.py_typed.specs.Order.{Member, MethodMember, AttributeMember, place_in, attributes, member_of, method_of, order, listed_order}
use Rattle.py_typed.specs.Statements.{TypedModule}
use Rattle.py_typed.specs.WellTypedModule.{is_well_typed}
use Rattle.class_layout_members.specs.Names.{place_of, attribute_names, method_names}
use Rattle.class_layout_members.specs.Clashes.{clash_of, AllAgreeAlong}
use Rattle.class_layout_members.specs.Tables.{names_at, function_at}
use Rattle.class_layout_members.specs.Views.{definitions_in}
use Rattle.class_layout_members.specs.declared.member.Definition.{Definition}
use Rattle.indexmap.specs.IndexMap.{IndexMap}
use Rattle.class_layout.specs.Orders.{IsFirstWithout, AllHaveOrders}
use Rattle.class_layout.specs.declared.table.LayoutTable.{LayoutTable}
use Rattle.class_layout.specs.declared.layout_error.LayoutError.{LayoutError}
use Rattle.class_layout.specs.declared.layout_error.LayoutError.TheVariants.{NoOrder, Clash, Memory}

-- ---- what a table says

abbrev pub row_in : Option (List ℕ) → List ℕ
row_in None = []
row_in (Some row) = row

abbrev pub functions_in : List (List ℕ) → ℕ → List ℕ
functions_in functions c = row_in (slice_get functions c)

abbrev pub attribute_names_in : LayoutTable → ℕ → List (List ℕ)
attribute_names_in t c = names_at t.attributes c

abbrev pub method_names_in : LayoutTable → ℕ → List (List ℕ)
method_names_in t c = names_at t.methods c

abbrev pub slot_in : LayoutTable → ℕ → List ℕ → Option ℕ
slot_in t c name = place_of name (attribute_names_in t c)

abbrev pub method_slot_in : LayoutTable → ℕ → List ℕ → Option ℕ
method_slot_in t c name = place_of name (method_names_in t c)

abbrev pub member_in : LayoutTable → ℕ → List ℕ → Option ℕ
member_in t c name = function_at (method_names_in t c) (functions_in t.functions c) name

-- ---- what it has to say

-- the function of a member that is a method
abbrev pub method_in : Option Member → Option ℕ
method_in None = None
method_in (Some (MethodMember f)) = Some f
method_in (Some (AttributeMember t)) = None

-- of each class: the attributes by their places in an instance, the methods by their places, and for each method the function of the first
-- class along the order that has one, which is the member of the class. What a class lacks has no place and no function there
pub record Holds (classes : List ClassEntry) (t : LayoutTable) : Type 0 where
  pub names : (c : ℕ) → c < length classes → attribute_names_in t c ≡ attribute_names classes c
  pub slots : (c : ℕ) (name : List ℕ) → c < length classes → slot_in t c name ≡ place_in name (attributes classes c)
  pub methods : (c : ℕ) → c < length classes → method_names_in t c ≡ method_names classes c
  pub functions : (c : ℕ) → c < length classes → map Some (functions_in t.functions c) ≡ map (method_of classes c) (method_names classes c)
  pub members : (c : ℕ) (name : List ℕ) → c < length classes → member_in t c name ≡ method_of classes c name
  pub firsts : (c : ℕ) (name : List ℕ) → c < length classes → member_in t c name ≡ method_in (member_of classes c name)

-- the definitions of each member of each class agree with the first
abbrev pub AllAgree : ClassTable → Type 0
AllAgree table = (c : ℕ) → c < length table.classes → clash_of table c ≡ None

-- the first class with a member of which they do not, and its first such member
pub record IsFirstClash (table : ClassTable) (c : ℕ) (name : List ℕ) : Type 0 where
  pub there : c < length table.classes
  pub clash : clash_of table c ≡ Some name
  pub before : (b : ℕ) → b < c → clash_of table b ≡ None

abbrev pub IsChecked : ClassTable → Result (Unit {0}) LayoutError → Type 0
IsChecked table (Ok done) = AllAgree table
IsChecked table (Err (NoOrder c)) = ⊥
IsChecked table (Err (Clash c name)) = IsFirstClash table c name
IsChecked table (Err Memory) = Unit {0}

-- a class has a member of which not all definitions agree with the first, and this is its first such member
abbrev pub IsClashAt : ClassTable → ℕ → LayoutError → Type 0
IsClashAt table c (NoOrder d) = ⊥
IsClashAt table c (Clash d name) = (d ≡ c) × (clash_of table c ≡ Some name)
IsClashAt table c Memory = Unit {0}

-- of each class of a row from the first on, the first definitions along its order, with which all others agree
abbrev pub AreKnown : {S : Type 0} → ClassTable → List (IndexMap (List ℕ) Definition S) → Type 0
AreKnown {S = S} table known = (c : ℕ) (m : IndexMap (List ℕ) Definition S) → slice_get known c ≡ Some m → AllAgreeAlong table (listed_order (order table.classes c)) (definitions_in m)

-- THE LAYOUT of classes, or why there is none
abbrev pub IsLayout : ClassTable → Result LayoutTable LayoutError → Type 0
IsLayout table (Ok t) = AllHaveOrders table.classes × AllAgree table × Holds table.classes t
IsLayout table (Err (NoOrder c)) = IsFirstWithout table.classes c
IsLayout table (Err (Clash c name)) = AllHaveOrders table.classes × IsFirstClash table c name
IsLayout table (Err Memory) = Unit {0}

-- there is a layout, or memory is wanting
abbrev pub IsNotRefused : Result LayoutTable LayoutError → Type 0
IsNotRefused (Ok t) = Unit {0}
IsNotRefused (Err (NoOrder c)) = ⊥
IsNotRefused (Err (Clash c name)) = ⊥
IsNotRefused (Err Memory) = Unit {0}

-- the classes of a well-typed module have a layout
abbrev pub HasWhereWellTyped : ClassTable → Result LayoutTable LayoutError → Type 0
HasWhereWellTyped table result = (is_identifier : List ℕ → Bool) (m : TypedModule) → is_well_typed is_identifier m ≡ true → m.classes ≡ table → IsNotRefused result
