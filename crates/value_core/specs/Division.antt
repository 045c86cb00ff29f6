-- How `/` and `%`, which round toward zero, stand to floor division.
use Rattle.std.specs.Prelude.{zero, suc, Bool, true, false, ℤ, pos, negsuc}

-- of what `%` leaves and the divisor: whether the floor is one below the quotient that is rounded toward zero,
-- which it is where something is left and has the other sign
abbrev pub rounds_down : ℤ → ℤ → Bool
rounds_down (pos zero) b = false
rounds_down (pos (suc r)) (pos b) = false
rounds_down (pos (suc r)) (negsuc b) = true
rounds_down (negsuc r) (pos b) = true
rounds_down (negsuc r) (negsuc b) = false
