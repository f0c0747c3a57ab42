-- Columns of a name.
use Rattle.std.specs.Prelude.{ℕ, Bool, List, map}
use Rattle.std.specs.List.{list_any}
use Rattle.name_seen_parts.specs.declared.clauses.column.ShownColumn.{ShownColumn}
use Rattle.sql_tree.specs.declared.statement.ColumnDef.{ColumnDef}
use Rattle.name_meaning.specs.Froms.{named_so}
use Rattle.name_meaning.specs.Meanings.{broken_if}
use Rattle.name_meaning.specs.declared.answer.Break.{Break}
use Rattle.name_meaning.specs.declared.rule.Rule.TheVariants as rule

abbrev pub texts_of : List ColumnDef → List (List ℕ)
texts_of columns = map (λ (column : ColumnDef). column.name.text) columns

-- one of the columns has this name
abbrev pub is_defined : List ColumnDef → List ℕ → Bool
is_defined columns name = list_any (λ (column : ColumnDef). named_so name column.name.text) columns

abbrev pub is_shown : List ShownColumn → List ℕ → Bool
is_shown columns name = list_any (λ (column : ShownColumn). named_so name column.name) columns

-- what one column breaks, behind others
abbrev pub column_break : List ColumnDef → ColumnDef → List Break
column_break earlier column = broken_if (is_defined earlier column.name.text) rule.RepeatedColumn column.name.at
