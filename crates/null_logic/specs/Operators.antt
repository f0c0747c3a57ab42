-- The table of operators and the look-up by key.
use Rattle.std.specs.Prelude.{◌≡◌, ℕ, Bool, true, false, not, ◌&&◌, List, [], ◌∷◌, Option, codes, find}
use Rattle.std.specs.List.{list_any}
use Rattle.std.specs.Str.{bytes_eq}
use mathlib.Core.Bool.{beq}
use Rattle.null_logic.specs.declared.arith.Arith.{Arith}
use Rattle.null_logic.specs.declared.arith.Arith.TheVariants as arith
use Rattle.null_logic.specs.declared.compare.Compare.{Compare}
use Rattle.null_logic.specs.declared.compare.Compare.TheVariants as compare
use Rattle.null_logic.specs.declared.operator.Needs.{Needs}
use Rattle.null_logic.specs.declared.operator.Needs.TheVariants.{Integers, Texts, Booleans, Alike}
use Rattle.null_logic.specs.declared.operator.OpRow.{OpRow}
use Rattle.null_logic.specs.declared.operator.Operator.{Operator}
use Rattle.null_logic.specs.declared.operator.Operator.TheVariants as operator
use Rattle.perm_values.specs.declared.kind.Kind.{Kind}
use Rattle.perm_values.specs.declared.kind.Kind.TheVariants.{Integer, Boolean}

abbrev pub is_and : Operator → Bool
is_and operator.And = true
is_and operator.Or = false
is_and operator.Not = false
is_and operator.Negate = false
is_and (operator.Compare c) = false
is_and (operator.Arith c) = false
is_and operator.Like = false
is_and operator.Between = false
is_and operator.InList = false
is_and operator.Coalesce = false
is_and operator.NullIf = false

abbrev pub compare_spelling : Compare → List ℕ
compare_spelling compare.Equal = codes "="
compare_spelling compare.NotEqual = codes "<>"
compare_spelling compare.Less = codes "<"
compare_spelling compare.LessEqual = codes "<="
compare_spelling compare.Greater = codes ">"
compare_spelling compare.GreaterEqual = codes ">="

abbrev pub arith_spelling : Arith → List ℕ
arith_spelling arith.Add = codes "+"
arith_spelling arith.Subtract = codes "-"
arith_spelling arith.Multiply = codes "*"
arith_spelling arith.Divide = codes "/"
arith_spelling arith.Remainder = codes "%"

abbrev pub operator_spelling : Operator → List ℕ
operator_spelling operator.And = codes "AND"
operator_spelling operator.Or = codes "OR"
operator_spelling operator.Not = codes "NOT"
operator_spelling operator.Negate = codes "-"
operator_spelling (operator.Compare op) = compare_spelling op
operator_spelling (operator.Arith op) = arith_spelling op
operator_spelling operator.Like = codes "LIKE"
operator_spelling operator.Between = codes "BETWEEN"
operator_spelling operator.InList = codes "IN"
operator_spelling operator.Coalesce = codes "COALESCE"
operator_spelling operator.NullIf = codes "NULLIF"

abbrev pub row_spelling : OpRow → List ℕ
row_spelling row = operator_spelling row.operator

-- the row is written like this, before its operand or not
abbrev pub HasKey : List ℕ → Bool → OpRow → Type 0
HasKey spelling prefix row = (row_spelling row ≡ spelling) × (row.prefix ≡ prefix)

-- whether it is
abbrev pub has_key : List ℕ → Bool → OpRow → Bool
has_key spelling prefix row = bytes_eq (row_spelling row) spelling && beq row.prefix prefix

-- the first row of this key
abbrev pub row_of : List OpRow → List ℕ → Bool → Option OpRow
row_of rows spelling prefix = find (has_key spelling prefix) rows

-- whether no two rows have one key
abbrev pub keys_differ : List OpRow → Bool
keys_differ [] = true
keys_differ (row ∷ rows) = not (list_any (has_key (row_spelling row) row.prefix) rows) && keys_differ rows

-- ---- the table

-- what a row says: level, spelling, whether it stands before its operand, what it needs, what it gives, which operator it is
abbrev pub Entry : Type 0
Entry = ℕ × List ℕ × Bool × Needs × Kind × Operator

abbrev pub entry_of : OpRow → Entry
entry_of row = (row.level, row_spelling row, row.prefix, row.needs, row.gives, row.operator)

-- the operators that stand before or between their operands; a greater level binds tighter (ISO/IEC 9075-2,
-- 'value expression' and 'boolean value expression'; `%` is this project's own)
abbrev pub operator_table : List Entry
operator_table =
    (1, codes "OR", false, Booleans, Boolean, operator.Or)
    ∷ (2, codes "AND", false, Booleans, Boolean, operator.And)
    ∷ (3, codes "NOT", true, Booleans, Boolean, operator.Not)
    ∷ (5, codes "=", false, Alike, Boolean, operator.Compare compare.Equal)
    ∷ (5, codes "<>", false, Alike, Boolean, operator.Compare compare.NotEqual)
    ∷ (5, codes "<", false, Alike, Boolean, operator.Compare compare.Less)
    ∷ (5, codes "<=", false, Alike, Boolean, operator.Compare compare.LessEqual)
    ∷ (5, codes ">", false, Alike, Boolean, operator.Compare compare.Greater)
    ∷ (5, codes ">=", false, Alike, Boolean, operator.Compare compare.GreaterEqual)
    ∷ (6, codes "LIKE", false, Texts, Boolean, operator.Like)
    ∷ (6, codes "BETWEEN", false, Alike, Boolean, operator.Between)
    ∷ (6, codes "IN", false, Alike, Boolean, operator.InList)
    ∷ (7, codes "+", false, Integers, Integer, operator.Arith arith.Add)
    ∷ (7, codes "-", false, Integers, Integer, operator.Arith arith.Subtract)
    ∷ (8, codes "*", false, Integers, Integer, operator.Arith arith.Multiply)
    ∷ (8, codes "/", false, Integers, Integer, operator.Arith arith.Divide)
    ∷ (8, codes "%", false, Integers, Integer, operator.Arith arith.Remainder)
    ∷ (9, codes "-", true, Integers, Integer, operator.Negate)
    ∷ []
