-- The definitions at small values, as Python's rules give them.
use Rattle.std.proofs.Common.{◌≡◌, refl, ◌-◌, ◌^◌, [], ◌∷◌, ◌++◌, codes, Some, None, Ok, Err, Less, true, false}
use Rattle.std.specs.Prelude.{pos, negsuc}
use Rattle.std.specs.Str.{is_utf8, chars}
use Rattle.std.specs.Ordering.{nat_cmp}
use Rattle.std.specs.Cmp.Lexicographic.{slice_cmp}
use Rattle.std.proofs.Math.Utf8.{encode}
use Rattle.std.specs.Int.{int_wrap}
use Rattle.value_core.specs.declared.arith.Arith.TheVariants.{Overflow, ZeroDivisor, NegativeShift, OutOfRange}
use Rattle.value_core.specs.declared.exception.ExcClass.TheVariants.{Exception, OverflowError, LookupError, KeyError}
use Rattle.value_core.specs.Arithmetic.{int_add, int_neg, int_floor_div, int_modulo, int_shl, int_shr, i64_add, i64_floor_div, i64_shl, int_to_i64, is_short}
use Rattle.value_core.specs.Exceptions.{is_under, class_named, thrown}
use Rattle.value_core.specs.Items.{Eof, Broken, Over, Line, Bad, AtEof, AtFailure, input_items, pieces, lines_from, most_input}

-- -7 // 2 is -4, -7 % 2 is 1, 7 // -2 is -4, 7 % -2 is -1, -7 // -2 is 3
quotients : (int_floor_div (negsuc 6) (pos 2) ≡ Ok (negsuc 3)) × (int_floor_div (pos 7) (negsuc 1) ≡ Ok (negsuc 3)) × (int_floor_div (negsuc 6) (negsuc 1) ≡ Ok (pos 3))
quotients = (refl, refl, refl)

rests : (int_modulo (negsuc 6) (pos 2) ≡ Ok (pos 1)) × (int_modulo (pos 7) (negsuc 1) ≡ Ok (negsuc 0)) × (int_modulo (pos 7) (pos 0) ≡ Err ZeroDivisor)
rests = (refl, refl, refl)

-- the ends of an int: -2^127 is one, its opposite is not
ends : (int_neg (negsuc (2 ^ 127 - 1)) ≡ Err Overflow) × (int_add (pos (2 ^ 127 - 1)) (pos 1) ≡ Err Overflow) × (int_floor_div (negsuc (2 ^ 127 - 1)) (negsuc 0) ≡ Err Overflow)
ends = (refl, refl, refl)

shifts : (int_shl (negsuc 0) (pos 127) ≡ Ok (negsuc (2 ^ 127 - 1))) × (int_shl (pos 1) (pos 127) ≡ Err Overflow) × (int_shl (pos 0) (pos 200) ≡ Ok (pos 0)) × (int_shr (negsuc 4) (pos 1) ≡ Ok (negsuc 2)) × (int_shr (negsuc 4) (pos 127) ≡ Ok (negsuc 0)) × (int_shr (pos 4) (negsuc 0) ≡ Err NegativeShift)
shifts = (refl, refl, refl, refl, refl, refl)

words : (i64_floor_div (negsuc (2 ^ 63 - 1)) (negsuc 0) ≡ Err Overflow) × (i64_shl (pos 1) (pos 64) ≡ Err OutOfRange) × (int_to_i64 (pos (2 ^ 63)) ≡ Err OutOfRange) × (is_short (negsuc (2 ^ 62 - 1)) ≡ true) × (is_short (pos (2 ^ 62)) ≡ false)
words = (refl, refl, refl, refl, refl)

wrapped : (i64_add (pos (2 ^ 63 - 1)) (pos 1) ≡ negsuc (2 ^ 63 - 1)) × (i64_shl (pos 1) (pos 63) ≡ Ok (negsuc (2 ^ 63 - 1)))
unfolding int_wrap
wrapped = (refl, refl)

classes : (is_under KeyError LookupError ≡ true) × (is_under KeyError Exception ≡ true) × (is_under KeyError OverflowError ≡ false) × (is_under LookupError KeyError ≡ false) × (class_named (codes "KeyError") ≡ Some KeyError) × (class_named (codes "Key") ≡ None)
classes = (refl, refl, refl, refl, refl, refl)

-- an exception by its class and text
thrown_key : ((thrown KeyError (codes "a")).class ≡ KeyError) × ((thrown KeyError (codes "a")).text ≡ codes "a")
thrown_key = (refl, refl)

-- "z" stands before "é", by bytes and by code points
orders : (slice_cmp nat_cmp (codes "z") (195 ∷ 169 ∷ []) ≡ Less) × (chars (195 ∷ 169 ∷ []) ≡ 233 ∷ []) × (slice_cmp nat_cmp (chars (codes "z")) (chars (195 ∷ 169 ∷ [])) ≡ Less)
unfolding chars
orders = (refl, refl, refl)

-- the bytes are cut after each line feed
cuts : pieces (codes "a" ++ 10 ∷ 10 ∷ codes "b") ≡ (97 ∷ 10 ∷ []) ∷ (10 ∷ []) ∷ (98 ∷ []) ∷ []
cuts = refl

-- a last piece without a line feed is a line only before the end of the input; a line that is not UTF-8 is a bad one
items : (input_items (97 ∷ 10 ∷ 98 ∷ []) AtEof ≡ Line (97 ∷ []) (Line (98 ∷ []) Eof)) × (input_items (97 ∷ 10 ∷ 98 ∷ []) AtFailure ≡ Line (97 ∷ []) Broken) × (input_items (255 ∷ 10 ∷ []) AtEof ≡ Bad Eof) × (input_items [] AtEof ≡ Eof)
unfolding is_utf8 chars encode
items = (refl, refl, refl, refl)

-- a line may end at the last byte of the input that may be read, and not past it
too_far : (lines_from (most_input - 2) AtEof ((97 ∷ 10 ∷ []) ∷ (98 ∷ []) ∷ []) ≡ Line (97 ∷ []) Over) × (lines_from (most_input - 1) AtFailure ((97 ∷ 98 ∷ []) ∷ []) ≡ Over)
unfolding is_utf8 chars encode
too_far = (refl, refl)
