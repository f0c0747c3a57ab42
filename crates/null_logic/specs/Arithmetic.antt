-- Arithmetic of unbounded integers, with the two causes of a fault beside it (ISO/IEC 9075-2, 'numeric value expression';
-- the 64 bits, the rounding of a quotient and `%` are this project's own).
use Rattle.std.specs.Prelude.{ℤ, pos, negsuc, ◌+ℤ◌, ◌-ℤ◌, ◌*ℤ◌, neg_ℤ, int_div, int_rem, int_le, int_lt, ◌^◌, ◌-◌, Bool, true, false, cond, ◌&&◌}
use Rattle.std.specs.Prelude.{Result, Ok, Err}
use Rattle.std.specs.Ordering.{int_eq}
use Rattle.null_logic.specs.declared.arith.Arith.{Arith}
use Rattle.null_logic.specs.declared.arith.Arith.TheVariants.{Add, Subtract, Multiply, Divide, Remainder}
use Rattle.null_logic.specs.declared.run_fault.RunFault.{RunFault}
use Rattle.null_logic.specs.declared.run_fault.RunFault.TheVariants.{DivideByZero, OutOfRange}

-- the quotient goes towards zero, and the remainder has the sign of the dividend
abbrev pub exact : Arith → ℤ → ℤ → ℤ
exact Add a b = a +ℤ b
exact Subtract a b = a -ℤ b
exact Multiply a b = a *ℤ b
exact Divide a b = int_div a b
exact Remainder a b = int_rem a b

abbrev pub divides : Arith → Bool
divides Add = false
divides Subtract = false
divides Multiply = false
divides Divide = true
divides Remainder = true

-- from the least to the greatest integer of 64 bits with a sign
abbrev pub fits_64 : ℤ → Bool
fits_64 z = int_le (negsuc (2 ^ 63 - 1)) z && int_lt z (pos (2 ^ 63))

abbrev pub in_range : ℤ → Result ℤ RunFault
in_range z = cond (fits_64 z) (Ok z) (Err OutOfRange)

abbrev pub calculate : Arith → ℤ → ℤ → Result ℤ RunFault
calculate op a b = cond (divides op && int_eq b (pos 0)) (Err DivideByZero) (in_range (exact op a b))

abbrev pub negate : ℤ → Result ℤ RunFault
negate a = in_range (neg_ℤ a)
