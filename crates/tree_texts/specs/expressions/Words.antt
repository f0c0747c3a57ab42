-- Words of SQL, names, numbers and texts, each with a blank behind it.
use Rattle.std.specs.Prelude.{ℕ, zero, suc, Bool, true, false, cond, if◌then◌else◌, ◌==◌, List, [], ◌∷◌, ◌++◌, codes, unsigned_abs}
use Rattle.std.specs.Fmt.{decimal}
use Rattle.std.specs.Int.{is_negative}
use Rattle.std.specs.Str.{byte}
use Rattle.null_logic.specs.declared.arith.Arith.{Arith}
use Rattle.null_logic.specs.declared.arith.Arith.TheVariants.{Add, Subtract, Multiply, Divide, Remainder}
use Rattle.null_logic.specs.declared.compare.Compare.{Compare}
use Rattle.null_logic.specs.declared.compare.Compare.TheVariants as compare
use Rattle.null_logic.specs.declared.operator.Operator.{Operator}
use Rattle.null_logic.specs.declared.operator.Operator.TheVariants as op
use Rattle.perm_values.specs.declared.kind.Kind.{Kind}
use Rattle.perm_values.specs.declared.kind.Kind.TheVariants as kinds
use Rattle.perm_values.specs.declared.value.Value.{Value}
use Rattle.perm_values.specs.declared.value.Value.TheVariants.{Null, Integer, Text, Boolean}
use Rattle.sql_lexer.specs.Bytes.{in_quotes}
use Rattle.tree_texts.specs.expressions.Names.{column_name}

abbrev pub name_text : List ℕ → List ℕ
name_text name = in_quotes (byte "\"") name ++ 32 ∷ []

abbrev pub spelled_text : List ℕ → List ℕ
spelled_text spelled = in_quotes (byte "'") spelled ++ 32 ∷ []

abbrev pub number_text : ℕ → List ℕ
number_text number = decimal number ++ 32 ∷ []

abbrev pub reference_text : List ℕ → ℕ → ℕ → List ℕ
reference_text prefix level number = name_text (column_name prefix level number)

abbrev pub kind_text : Kind → List ℕ
kind_text kinds.Integer = codes "BIGINT "
kind_text kinds.Text = codes "TEXT "
kind_text kinds.Boolean = codes "BOOLEAN "

abbrev pub truth_text : Bool → List ℕ
truth_text true = codes "TRUE "
truth_text false = codes "FALSE "

abbrev pub null_text : Kind → List ℕ
null_text kind = codes "CAST ( NULL AS " ++ (kind_text kind ++ codes ") ")

abbrev pub unsaid_text : List ℕ
unsaid_text = codes "CAST ( NULL AS BOOLEAN ) "

-- the amount of the least integer is no integer, so that one is a difference
abbrev pub negative_text : ℕ → List ℕ
negative_text amount =
    if amount == 9223372036854775808 then codes "( ( - 9223372036854775807 ) - 1 ) " else codes "( - " ++ (number_text amount ++ codes ") ")

abbrev pub signed_text : Bool → ℕ → List ℕ
signed_text false amount = number_text amount
signed_text true amount = negative_text amount

abbrev pub literal_text : Value → Kind → List ℕ
literal_text Null kind = null_text kind
literal_text (Integer number) kind = signed_text (is_negative number) (unsigned_abs number)
literal_text (Text spelled) kind = spelled_text spelled
literal_text (Boolean truth) kind = truth_text truth

-- ---- operators

abbrev pub compare_text : Compare → List ℕ
compare_text compare.Equal = codes "= "
compare_text compare.NotEqual = codes "<> "
compare_text compare.Less = codes "< "
compare_text compare.LessEqual = codes "<= "
compare_text compare.Greater = codes "> "
compare_text compare.GreaterEqual = codes ">= "

abbrev pub additive_word : Arith → List ℕ
additive_word Add = codes "+ "
additive_word Subtract = codes "- "
additive_word Multiply = codes "- "
additive_word Divide = codes "- "
additive_word Remainder = codes "- "

abbrev pub multiplicative_word : Arith → List ℕ
multiplicative_word Add = codes "* "
multiplicative_word Subtract = codes "* "
multiplicative_word Multiply = codes "* "
multiplicative_word Divide = codes "/ "
multiplicative_word Remainder = codes "% "

abbrev pub chain_word : Bool → Arith → List ℕ
chain_word true arith = additive_word arith
chain_word false arith = multiplicative_word arith

-- how many parts there are
abbrev pub is_one : ℕ → Bool
is_one zero = false
is_one (suc zero) = true
is_one (suc (suc more)) = false

abbrev pub is_two : ℕ → Bool
is_two zero = false
is_two (suc zero) = false
is_two (suc (suc zero)) = true
is_two (suc (suc (suc more))) = false

abbrev pub is_three : ℕ → Bool
is_three zero = false
is_three (suc zero) = false
is_three (suc (suc zero)) = false
is_three (suc (suc (suc zero))) = true
is_three (suc (suc (suc (suc more)))) = false

abbrev pub is_any : ℕ → Bool
is_any zero = false
is_any (suc more) = true

abbrev pub is_several : ℕ → Bool
is_several zero = false
is_several (suc zero) = false
is_several (suc (suc more)) = true

-- an operator can be written with so many parts
abbrev pub is_said : Operator → ℕ → Bool
is_said op.And count = is_several count
is_said op.Or count = is_several count
is_said op.Not count = is_one count
is_said op.Negate count = is_one count
is_said (op.Compare c) count = is_two count
is_said (op.Arith c) count = false
is_said op.Like count = is_two count
is_said op.Between count = is_three count
is_said op.InList count = is_several count
is_said op.Coalesce count = is_any count
is_said op.NullIf count = is_two count

-- what stands before the parts
abbrev pub front : Operator → ℕ → List ℕ
front op.And count = codes "( "
front op.Or count = codes "( "
front op.Not count = codes "( NOT "
front op.Negate count = codes "( - "
front (op.Compare c) count = codes "( "
front (op.Arith c) count = []
front op.Like count = codes "( "
front op.Between count = codes "( "
front op.InList count = codes "( "
front op.Coalesce count = cond (is_one count) [] (codes "COALESCE ( ")
front op.NullIf count = codes "NULLIF ( "

-- between the first two parts
abbrev pub first_between : Operator → ℕ → List ℕ
first_between op.And count = codes "AND "
first_between op.Or count = codes "OR "
first_between op.Not count = []
first_between op.Negate count = []
first_between (op.Compare c) count = compare_text c
first_between (op.Arith c) count = []
first_between op.Like count = codes "LIKE "
first_between op.Between count = codes "BETWEEN "
first_between op.InList count = cond (is_two count) (codes "= ") (codes "IN ( ")
first_between op.Coalesce count = codes ", "
first_between op.NullIf count = codes ", "

-- between the others
abbrev pub later_between : Operator → List ℕ
later_between op.And = codes "AND "
later_between op.Or = codes "OR "
later_between op.Not = []
later_between op.Negate = []
later_between (op.Compare c) = []
later_between (op.Arith c) = []
later_between op.Like = []
later_between op.Between = codes "AND "
later_between op.InList = codes ", "
later_between op.Coalesce = codes ", "
later_between op.NullIf = []

-- behind the parts
abbrev pub back : Operator → ℕ → List ℕ
back op.And count = codes ") "
back op.Or count = codes ") "
back op.Not count = codes ") "
back op.Negate count = codes ") "
back (op.Compare c) count = codes ") "
back (op.Arith c) count = []
back op.Like count = codes ") "
back op.Between count = codes ") "
back op.InList count = cond (is_two count) (codes ") ") (codes ") ) ")
back op.Coalesce count = cond (is_one count) [] (codes ") ")
back op.NullIf count = codes ") "

-- ---- lists

-- what stands before the part of a number
abbrev pub separator : List ℕ → List ℕ → ℕ → List ℕ
separator first later zero = []
separator first later (suc zero) = first
separator first later (suc (suc number)) = later

-- parts from a number on, each behind what stands before it
abbrev pub separated : List ℕ → List ℕ → ℕ → List (List ℕ) → List ℕ
separated first later number [] = []
separated first later number (part ∷ parts) = separator first later number ++ (part ++ separated first later (suc number) parts)

-- a word that stands there unless there is nothing to stand beside it
abbrev pub unless_none : ℕ → List ℕ → List ℕ
unless_none zero word = []
unless_none (suc count) word = word
