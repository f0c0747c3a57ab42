-- The rows of the table of operators, as code finds them and as the definition does.
use Rattle.std.specs.Prelude.{◌≡◌, Bool, true, false, cond, List, [], ◌∷◌, map, find, Option, Some, option_map}
use Rattle.std.proofs.Common.{refl, ap, sym, ◌∙◌}
use Rattle.null_logic.specs.Operators.{Entry, entry_of, has_key, operator_spelling, operator_table}
use Rattle.null_logic.specs.declared.operator.OpRow.{OpRow}
use Rattle.null_logic.specs.declared.operator.Operator.{Operator}
use Rattle.null_logic.specs.declared.operator.TheConstants.{OPERATORS}
use Rattle.name_meaning.specs.Operands.{is_row_of, row_of}

first-of : (passes : Bool) (row : OpRow) (entry : Option Entry) (found : Option OpRow) → entry ≡ option_map entry_of found
    → cond passes (Some (entry_of row)) entry ≡ option_map entry_of (cond passes (Some row) found)
first-of true row entry found e = refl
first-of false row entry found e = e

found-mapped : (test : Entry → Bool) (rows : List OpRow)
    → find test (map entry_of rows) ≡ option_map entry_of (find (λ (row : OpRow). test (entry_of row)) rows)
found-mapped test [] = refl
found-mapped test (row ∷ rows) = first-of (test (entry_of row)) row _ _ (found-mapped test rows)

table : map entry_of OPERATORS.rows ≡ operator_table
table = refl

pub found-row : (op : Operator) (prefix : Bool) (found : Option OpRow) → found ≡ find (has_key (operator_spelling op) prefix) OPERATORS.rows
    → option_map entry_of found ≡ row_of op prefix
found-row op prefix found e =
    ap (option_map entry_of) e ∙ sym (found-mapped (is_row_of op prefix) OPERATORS.rows) ∙ ap (find (is_row_of op prefix)) table
