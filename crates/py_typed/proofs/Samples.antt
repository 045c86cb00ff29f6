-- Samples of what fits what, of joins and of the orders of classes.
use Rattle.std.proofs.Common.{◌≡◌, ℕ, true, false, List, [], ◌∷◌, Some, None, refl, codes}
use Rattle.value_core.specs.declared.exception.ExcClass.TheVariants.{Exception, ArithmeticError, OverflowError}
use Rattle.py_typed.specs.Sorts.{Int, I64, Bool as BoolSort, Str, Nothing, ListOf, DictOf, TupleOf, Optional, Instance, Exc, sorts_of}
use Rattle.py_typed.specs.Classes.{ClassEntry, is_class_under}
use Rattle.py_typed.specs.Fits.{fits, join}
use Rattle.py_typed.specs.TypeTexts.{type_text}
use Rattle.py_typed.specs.Order.{order}

abbrev class_over : List ℕ → List ℕ → ClassEntry
class_over name bases = record { name = name; is_trait = true; bases = bases; attributes = []; methods = [] }

-- A; B(A); C(A); D(B, C); E(C, B); F(D, E), of which the last has no order
abbrev diamond : List ClassEntry
diamond =
    class_over (codes "A") [] ∷ class_over (codes "B") (0 ∷ []) ∷ class_over (codes "C") (0 ∷ []) ∷ class_over (codes "D") (1 ∷ 2 ∷ [])
    ∷ class_over (codes "E") (2 ∷ 1 ∷ []) ∷ class_over (codes "F") (3 ∷ 4 ∷ []) ∷ []

-- A, whose base is behind it; B(A); C(B)
abbrev base_behind : List ClassEntry
base_behind = class_over (codes "A") (2 ∷ []) ∷ class_over (codes "B") (0 ∷ []) ∷ class_over (codes "C") (1 ∷ []) ∷ []

order_of_d : order diamond 3 ≡ Some (3 ∷ 1 ∷ 2 ∷ 0 ∷ [])
order_of_d = refl

order_of_e : order diamond 4 ≡ Some (4 ∷ 2 ∷ 1 ∷ 0 ∷ [])
order_of_e = refl

no_order_of_f : order diamond 5 ≡ None
no_order_of_f = refl

-- a class before its own base cannot stand
base_first : order (class_over (codes "A") [] ∷ class_over (codes "B") (0 ∷ []) ∷ class_over (codes "C") (0 ∷ 1 ∷ []) ∷ []) 2 ≡ None
base_first = refl

under : is_class_under diamond 5 0 ≡ true
under = refl

not_under : is_class_under diamond 1 2 ≡ false
not_under = refl

-- a base that stands behind its class counts as none
none_behind : (is_class_under base_behind 0 2 ≡ false) × (is_class_under base_behind 2 0 ≡ true) × (is_class_under base_behind 0 0 ≡ true)
none_behind = (refl, refl, refl)

bool_fits_int : fits [] BoolSort Int ≡ true
bool_fits_int = refl

no_wider_list : fits [] (ListOf BoolSort) (ListOf Int) ≡ false
no_wider_list = refl

no_wider_tuple : fits [] (TupleOf (sorts_of (BoolSort ∷ []))) (TupleOf (sorts_of (Int ∷ []))) ≡ false
no_wider_tuple = refl

tuple_of_optionals : fits [] (TupleOf (sorts_of (Int ∷ Nothing ∷ []))) (TupleOf (sorts_of (Optional Int ∷ Optional Str ∷ []))) ≡ true
tuple_of_optionals = refl

bool_fits_optional_int : fits [] BoolSort (Optional Int) ≡ true
bool_fits_optional_int = refl

-- one Optional is another only where the type in it is the other as it stands
optional_of_another_number : fits [] (Optional BoolSort) (Optional Int) ≡ false
optional_of_another_number = refl

subclass : fits diamond (Instance 3) (Optional (Instance 0)) ≡ true
subclass = refl

exceptions : fits [] (Exc OverflowError) (Exc ArithmeticError) ≡ true
exceptions = refl

none_and_int : join [] Nothing Int ≡ Some (Optional Int)
none_and_int = refl

none_and_optional : join [] (Optional Int) Nothing ≡ Some (Optional Int)
none_and_optional = refl

bool_and_i64 : join [] BoolSort I64 ≡ Some I64
bool_and_i64 = refl

int_and_optional : join [] Int (Optional Int) ≡ Some (Optional Int)
int_and_optional = refl

int_and_text : join [] Int Str ≡ None
int_and_text = refl

-- two classes beside one another have no join, though both stand under a third
beside : join diamond (Instance 1) (Instance 2) ≡ None
beside = refl

written : type_text diamond (DictOf Str (TupleOf (sorts_of (Optional (Instance 3) ∷ ListOf I64 ∷ Exc Exception ∷ [])))) ≡ codes "dict[str, tuple[Optional[D], list[i64], Exception]]"
written = refl
