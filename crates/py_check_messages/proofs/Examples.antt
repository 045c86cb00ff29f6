-- Diagnostics as they are printed.
use Rattle.std.proofs.Common.{◌≡◌, [], ◌∷◌, refl, codes, lit<}
use Rattle.std.proofs.lemmas.Fmt.{decimal_digit}
use Rattle.py_typed.specs.Sorts.{Int, Str, Nothing, ListOf, DictOf, TupleOf, Optional, sorts_of}
use Rattle.py_check_messages.specs.Messages.{unsupported_operand, unsupported_operands, no_common_type, wrong_entry, entry_text, invalid_index, wrong_assignment, wrong_return, wrong_override}

sign : unsupported_operand [] (codes "+") Str ≡ record { text = codes "Unsupported operand type for unary + (\"str\")"; code = codes "operator" }
unfolding unsupported_operand
sign = refl

operands : unsupported_operands [] (codes "//") (Optional Int) Str ≡ record { text = codes "Unsupported operand types for // (\"Optional[int]\" and \"str\")"; code = codes "operator" }
unfolding unsupported_operands
operands = refl

choice : no_common_type [] (codes "if") (ListOf Int) Nothing ≡ record { text = codes "Operands of \"if\" have no common type (\"list[int]\" and \"None\")"; code = codes "misc" }
unfolding no_common_type
choice = refl

index : invalid_index [] Int (DictOf Str Int) Str ≡ record { text = codes "Invalid index type \"int\" for \"dict[str, int]\"; expected type \"str\""; code = codes "index" }
unfolding invalid_index
index = refl

assignment : wrong_assignment [] Str (TupleOf (sorts_of (Int ∷ Str ∷ []))) ≡ record { text = codes "Incompatible types in assignment (expression has type \"str\", variable has type \"tuple[int, str]\")"; code = codes "assignment" }
unfolding wrong_assignment
assignment = refl

entry : wrong_entry [] 3 Str Int Int Str ≡ record { text = codes "Dict entry 3 has incompatible type \"str\": \"int\"; expected \"int\": \"str\""; code = codes "dict-item" }
unfolding wrong_entry entry_text
entry = rw (decimal_digit 3 (lit< tt)) refl

returned : wrong_return [] Int Str ≡ record { text = codes "Incompatible return value type (got \"int\", expected \"str\")"; code = codes "return-value" }
unfolding wrong_return
returned = refl

override : wrong_override (codes "m") (codes "B") ≡ record { text = codes "Signature of \"m\" incompatible with supertype \"B\""; code = codes "override" }
unfolding wrong_override
override = refl
