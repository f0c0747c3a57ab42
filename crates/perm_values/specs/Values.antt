-- What values are the same, and their total order (the comparison of ISO/IEC 9075-2, 'IS DISTINCT FROM';
-- the order across kinds is this project's own).
use Rattle.std.specs.Prelude.{ℕ, Bool, true, false, nat_eq}
use Rattle.std.specs.Cmp.Lexicographic.{pointwise, slice_cmp}
use Rattle.std.specs.Ordering.{nat_cmp, int_cmp, int_eq, bool_cmp}
use Rattle.std.specs.declared.cmp.Ordering.{Ordering}
use mathlib.Core.Bool.{beq}
use Rattle.perm_values.specs.declared.kind.Kind.{Kind}
use Rattle.perm_values.specs.declared.kind.Kind.TheVariants as kind
use Rattle.perm_values.specs.declared.value.Value.{Value}
use Rattle.perm_values.specs.declared.value.Value.TheVariants.{Null, Integer, Text, Boolean}

abbrev pub is_null : Value → Bool
is_null Null = true
is_null (Integer a) = false
is_null (Text a) = false
is_null (Boolean a) = false

-- equal values of one kind, and two NULLs
abbrev pub same_value : Value → Value → Bool
same_value Null Null = true
same_value Null (Integer b) = false
same_value Null (Text b) = false
same_value Null (Boolean b) = false
same_value (Integer a) Null = false
same_value (Integer a) (Integer b) = int_eq a b
same_value (Integer a) (Text b) = false
same_value (Integer a) (Boolean b) = false
same_value (Text a) Null = false
same_value (Text a) (Integer b) = false
same_value (Text a) (Text b) = pointwise nat_eq a b
same_value (Text a) (Boolean b) = false
same_value (Boolean a) Null = false
same_value (Boolean a) (Integer b) = false
same_value (Boolean a) (Text b) = false
same_value (Boolean a) (Boolean b) = beq a b

-- integers come before texts, texts before booleans, and NULL comes last
abbrev pub rank : Value → ℕ
rank (Integer a) = 0
rank (Text a) = 1
rank (Boolean a) = 2
rank Null = 3

-- integers by value, texts by their bytes, false before true; values of two kinds by rank
abbrev pub value_cmp : Value → Value → Ordering
value_cmp (Integer a) (Integer b) = int_cmp a b
value_cmp (Integer a) (Text b) = nat_cmp (rank (Integer a)) (rank (Text b))
value_cmp (Integer a) (Boolean b) = nat_cmp (rank (Integer a)) (rank (Boolean b))
value_cmp (Integer a) Null = nat_cmp (rank (Integer a)) (rank Null)
value_cmp (Text a) (Integer b) = nat_cmp (rank (Text a)) (rank (Integer b))
value_cmp (Text a) (Text b) = slice_cmp nat_cmp a b
value_cmp (Text a) (Boolean b) = nat_cmp (rank (Text a)) (rank (Boolean b))
value_cmp (Text a) Null = nat_cmp (rank (Text a)) (rank Null)
value_cmp (Boolean a) (Integer b) = nat_cmp (rank (Boolean a)) (rank (Integer b))
value_cmp (Boolean a) (Text b) = nat_cmp (rank (Boolean a)) (rank (Text b))
value_cmp (Boolean a) (Boolean b) = bool_cmp a b
value_cmp (Boolean a) Null = nat_cmp (rank (Boolean a)) (rank Null)
value_cmp Null (Integer b) = nat_cmp (rank Null) (rank (Integer b))
value_cmp Null (Text b) = nat_cmp (rank Null) (rank (Text b))
value_cmp Null (Boolean b) = nat_cmp (rank Null) (rank (Boolean b))
value_cmp Null Null = nat_cmp (rank Null) (rank Null)

-- NULL fits every kind, any other value its own
abbrev pub fits : Value → Kind → Bool
fits Null kind.Integer = true
fits Null kind.Text = true
fits Null kind.Boolean = true
fits (Integer a) kind.Integer = true
fits (Integer a) kind.Text = false
fits (Integer a) kind.Boolean = false
fits (Text a) kind.Integer = false
fits (Text a) kind.Text = true
fits (Text a) kind.Boolean = false
fits (Boolean a) kind.Integer = false
fits (Boolean a) kind.Text = false
fits (Boolean a) kind.Boolean = true
