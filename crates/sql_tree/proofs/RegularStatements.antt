-- What the rules of statements build of regular parts is regular.
use Rattle.std.proofs.Common.{◌≡◌, inl, inr, List, [], ◌∷◌, Option, Some, None}
use Rattle.std.specs.Prelude.{if◌then◌else◌}
use Rattle.perm_values.specs.declared.kind.Kind.TheVariants.{Integer, Text, Boolean}
use Rattle.sql_tree.specs.grammar.Building as b
use Rattle.sql_tree.specs.grammar.Building.{present}
use Rattle.sql_tree.specs.grammar.Grammar.{sql, kinds}
use Rattle.sql_tree.specs.grammar.Rules.{optional, symbol}
use Rattle.sql_tree.specs.grammar.Sorts.{same_sort, sort_of}
use Rattle.sql_tree.specs.grammar.Symbols as n
use Rattle.sql_tree.specs.declared.grammar.sort.Sort.{Sort}
use Rattle.sql_tree.specs.declared.grammar.sort.Sort.TheVariants as s
use Rattle.sql_tree.proofs.Holding.{Holds, none-each, cons-each, head-of, tail-of}
use Rattle.sql_tree.proofs.RegularTrees.{Builds, RegularOf, items-each}
use Rattle.sql_tree.proofs.TokenNumbers.{HasNumber}
use Rattle.sql_tree.specs.Regular.{Each, RegularColumn, RegularRow, RegularStatement}
use Rattle.sql_tree.specs.declared.statement.Statement.{Statement}

-- a statement that may be none, and is regular if it is one
abbrev Optional : Option Statement → Type 0
Optional statement = Holds sql HasNumber RegularOf (optional (symbol n.StatementOf)) statement

present-each : (list : List (Option Statement)) → Each Optional list → Each RegularStatement (present list)
present-each [] each = none-each RegularStatement
present-each (None ∷ list) each = present-each list (tail-of Optional None list each)
present-each (Some statement ∷ list) each =
    cons-each RegularStatement statement (present list) (head-of Optional (Some statement) list each)
    (present-each list (tail-of Optional (Some statement) list each))

pub script-builds : Builds n.ScriptOf
script-builds (first, more) (p, each) = present-each (b.items (first, more)) (items-each Optional first more p each)

pub statement-builds : Builds n.StatementOf
statement-builds (at, inl x) h = h
statement-builds (at, inr (inl x)) h = h
statement-builds (at, inr (inr (inl x))) h = h
statement-builds (at, inr (inr (inr (inl x)))) h = h
statement-builds (at, inr (inr (inr (inr (inl x))))) h = h
statement-builds (at, inr (inr (inr (inr (inr (inl x)))))) h = h
statement-builds (at, inr (inr (inr (inr (inr (inr (inl x))))))) h = h
statement-builds (at, inr (inr (inr (inr (inr (inr (inr (inl x)))))))) h = h
statement-builds (at, inr (inr (inr (inr (inr (inr (inr (inr query)))))))) h = h

pub create-builds : Builds n.Create
create-builds (create, inl table) h = h.1
create-builds (create, inr view) h = h.1

pub create_table-builds : Builds n.CreateTable
create_table-builds (table_word, (table, inl columns)) h = h.1.1
create_table-builds (table_word, (table, inr (as_word, query))) h = h.1.1.1

pub create_view-builds : Builds n.CreateView
create_view-builds (view_word, (view, (as_word, query))) h = h.1.1.1

pub columns-builds : Builds n.Columns
columns-builds (opening, ((column, more), closing)) h = (tt, items-each RegularColumn column more h.1.0.0 h.1.0.1)

pub column-builds : Builds n.Column
column-builds (name, kind) h = h.1

-- a word of this sort names another kind than Boolean
abbrev IsOther : Sort → Type 0
IsOther sort = (if same_sort sort s.Text then Text else (if same_sort sort s.Boolean then Boolean else Integer)) ≡ Boolean → ⊥

others : Each IsOther kinds
unfolding same_sort
others =
    cons-each IsOther s.Integer (s.Int ∷ s.BigInt ∷ s.Text ∷ []) (λ e. absurd cc)
    (cons-each IsOther s.Int (s.BigInt ∷ s.Text ∷ []) (λ e. absurd cc)
    (cons-each IsOther s.BigInt (s.Text ∷ []) (λ e. absurd cc)
    (cons-each IsOther s.Text [] (λ e. absurd cc) (none-each IsOther))))

pub column_kind-builds : Builds n.ColumnKind
column_kind-builds t (among, number) = others (sort_of t) among

pub copy-builds : Builds n.Copy
copy-builds (copy, (table, (from, (file, (header, null))))) h = tt

pub insert-builds : Builds n.Insert
insert-builds (insert, (into, (table, (values, (row, more))))) h = (tt, items-each RegularRow row more h.1.1.1.1.0 h.1.1.1.1.1)

pub row-builds : Builds n.Row
row-builds (at, (opening, (values, closing))) h = h.1.0

pub delete-builds : Builds n.Delete
delete-builds (delete, (from, (table, condition))) h = h.1.1.1

pub drop-builds : Builds n.Drop
drop-builds (drop, inl (table_word, table)) h = tt
drop-builds (drop, inr (view_word, view)) h = tt

pub explain-builds : Builds n.Explain
explain-builds v h = h.1.1

pub impact-builds : Builds n.Impact
impact-builds (impact, (delete, (from, (table, (condition, (of_word, query)))))) h = (h.1.1.1.1.0, h.1.1.1.1.1.1)

pub names-builds : Builds n.Names
names-builds (name, more) h = tt
