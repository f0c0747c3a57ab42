-- Worked examples of values: arithmetic and its faults, NULL, CASE, and LIKE.
use Rattle.std.specs.Prelude.{◌≡◌, ℤ, pos, negsuc, true, false, [], ◌∷◌, Ok, Err, refl, codes}
use Rattle.std.specs.Str.{chars}
use Rattle.null_logic.specs.Arithmetic.{calculate, negate}
use Rattle.null_logic.specs.Comparison.{compare_values}
use Rattle.null_logic.specs.Like.{like}
use Rattle.null_logic.specs.declared.arith.Arith.TheVariants.{Add, Subtract, Multiply, Divide, Remainder}
use Rattle.null_logic.specs.declared.compare.Compare.TheVariants as compare
use Rattle.null_logic.specs.declared.run_fault.RunFault.TheVariants.{DivideByZero, OutOfRange}
use Rattle.null_logic.specs.declared.truth.Truth.TheVariants as truth
use Rattle.perm_values.specs.declared.kind.Kind.TheVariants as kind
use Rattle.perm_values.specs.declared.value.Value.TheVariants.{Null, Text, Boolean}
use Rattle.bag_algebra.specs.Expressions.{value, like_values}
use Rattle.bag_algebra.specs.Outcome.{Good, Bad, only}
use Rattle.bag_algebra.specs.built.Patterns.{CaseOf}
use Rattle.bag_algebra.specs.declared.expr.Expr.{Expr, more_of-Arm, end_of-Arm}
use Rattle.bag_algebra.specs.declared.expr.Expr.TheVariants.{Lit}
use Rattle.worked_examples.specs.Queries.{one, two, num, number, yes, compared, and_also, reckoned, by_zero}

-- ---- arithmetic of 64 bits

abbrev greatest : ℤ
greatest = pos 9223372036854775807

abbrev least : ℤ
least = negsuc 9223372036854775807

sum-too_great : calculate Add greatest (pos 1) ≡ Err OutOfRange
sum-too_great = refl

difference-too_small : calculate Subtract least (pos 1) ≡ Err OutOfRange
difference-too_small = refl

product-too_great : calculate Multiply (pos 3037000500) (pos 3037000500) ≡ Err OutOfRange
product-too_great = refl

-- a quotient goes towards zero, and a remainder has the sign of the dividend
quotient-of_minus : calculate Divide (negsuc 6) (pos 2) ≡ Ok (negsuc 2)
quotient-of_minus = refl

remainder-of_minus : calculate Remainder (negsuc 6) (pos 2) ≡ Ok (negsuc 0)
remainder-of_minus = refl

remainder-by_minus : calculate Remainder (pos 7) (negsuc 1) ≡ Ok (pos 1)
remainder-by_minus = refl

remainder-by_zero : calculate Remainder (pos 7) (pos 0) ≡ Err DivideByZero
remainder-by_zero = refl

least-by_minus_one : calculate Divide least (negsuc 0) ≡ Err OutOfRange
least-by_minus_one = refl

remainder-by_minus_one : calculate Remainder least (negsuc 0) ≡ Ok (pos 0)
remainder-by_minus_one = refl

minus-least : negate least ≡ Err OutOfRange
minus-least = refl

-- ---- expressions: every part is looked at, and CASE alone chooses

abbrev null : Expr
null = Lit Null kind.Integer

null-by_zero : value (reckoned Divide null (number 0)) [] [] [] ≡ Good Null
null-by_zero = refl

zero-by_zero : value (reckoned Divide (number 0) (number 0)) [] [] [] ≡ Bad (only DivideByZero)
zero-by_zero = refl

-- a part is bad, so the sum isn't looked at
part-before_sum : value (reckoned Add (number 9223372036854775807) by_zero) [] [] [] ≡ Bad (only DivideByZero)
part-before_sum = refl

-- FALSE AND 1 / 0 = 1
and-looks_at_both : value (and_also (Lit (Boolean false) kind.Boolean) (compared compare.Equal by_zero (number 1))) [] [] [] ≡ Bad (only DivideByZero)
and-looks_at_both = refl

-- CASE WHEN TRUE THEN 7 WHEN TRUE THEN 1 / 0 ELSE 0 END
case-takes_the_first : value (CaseOf two (more_of-Arm yes (number 7) (more_of-Arm yes by_zero end_of-Arm)) (number 0)) [] [] [] ≡ Good (num 7)
case-takes_the_first = refl

-- CASE WHEN NULL = 1 THEN 1 / 0 ELSE 5 END
case-passes_unknown : value (CaseOf one (more_of-Arm (compared compare.Equal null (number 1)) by_zero end_of-Arm) (number 5)) [] [] [] ≡ Good (num 5)
case-passes_unknown = refl

-- CASE WHEN 1 / 0 = 1 THEN 1 ELSE 5 END
case-looks_at_conditions : value (CaseOf one (more_of-Arm (compared compare.Equal by_zero (number 1)) (number 1) end_of-Arm) (number 5)) [] [] [] ≡ Bad (only DivideByZero)
case-looks_at_conditions = refl

-- ---- comparisons

texts-by_bytes : compare_values compare.Less (Text (codes "Z")) (Text (codes "a")) ≡ truth.True
texts-by_bytes = refl

false-before_true : compare_values compare.Less (Boolean false) (Boolean true) ≡ truth.True
false-before_true = refl

beside-null : compare_values compare.Equal Null Null ≡ truth.Unknown
beside-null = refl

-- ---- LIKE

like-whole : like (codes "100%") (codes "1__%") ≡ true
like-whole = refl

like-runs : like (codes "mississippi") (codes "m%iss%ip%i") ≡ true
like-runs = refl

like-stops : like (codes "mississippi") (codes "m%iss%ipp") ≡ false
like-stops = refl

like-nothing : like [] (codes "%") ≡ true
like-nothing = refl

like-one_of_nothing : like [] (codes "_") ≡ false
like-one_of_nothing = refl

like-case : like (codes "A") (codes "a") ≡ false
like-case = refl

-- one character of two bytes
like-one_character : like_values (Text (195 ∷ 164 ∷ [])) (Text (codes "_")) ≡ Boolean true
unfolding chars
like-one_character = refl

like-two_characters : like_values (Text (195 ∷ 164 ∷ [])) (Text (codes "__")) ≡ Boolean false
unfolding chars
like-two_characters = refl
