-- What becomes of a statement whose names are looked up: what it answers and what the catalog holds then, or why it is
-- refused. What a statement does is one word each, which the code's contracts name too.
use Rattle.std.specs.Prelude.{ℕ, Bool, false, cond, not, nat_eq, ◌==◌, List, [], ◌∷◌, ◌++◌, length, filter, Option, Some, None, codes}
use Rattle.std.specs.Fmt.{decimal}
use Rattle.std.specs.List.{count_by, list_any}
use Rattle.std.specs.Option.{option_map, option_map_or, option_and_then}
use Rattle.perm_values.specs.Numbers.{last_number}
use Rattle.perm_values.specs.Rows.{printed_cmp}
use Rattle.perm_values.specs.declared.kind.Kind.{Kind}
use Rattle.bag_algebra.specs.Bags.{Row, Bag, member, once, sorted}
use Rattle.bag_algebra.specs.Expressions.{value}
use Rattle.bag_algebra.specs.Meaning.{Database, meaning}
use Rattle.bag_algebra.specs.Outcome.{Faults, Outcome, Good, Bad, both, each}
use Rattle.bag_algebra.specs.TableRows.{rows_in}
use Rattle.bag_algebra.specs.TablesRead.{TableRead, tables_read}
use Rattle.bag_algebra.specs.declared.expr.Expr.{Expr}
use Rattle.bag_algebra.specs.declared.query.Answer.{Answer}
use Rattle.bag_algebra.specs.declared.query.Query.{Query}
use Rattle.csv_tables.specs.AnswerText.{answer_bytes}
use Rattle.csv_tables.specs.Loading.{broken_rules, spelled_rows}
use Rattle.csv_tables.specs.declared.data_error.DataError.{DataError}
use Rattle.perm_catalog.specs.Changes.{table_named, rows_at, with_table, with_more_rows, with_fewer_rows, with_view, without_table, without_view}
use Rattle.perm_catalog.specs.Contents.{Contents}
use Rattle.perm_catalog.specs.Stored.{first_changed, stored_of}
use Rattle.perm_catalog.specs.declared.column.Column.{Column}
use Rattle.perm_catalog.specs.declared.entries.SourceVersion.{SourceVersion}
use Rattle.perm_catalog.specs.declared.entries.StoredQuery.{StoredQuery}
use Rattle.perm_catalog.specs.declared.entries.TableEntry.{TableEntry}
use Rattle.perm_catalog.specs.declared.entries.ViewEntry.{ViewEntry}
use Rattle.delete_impact.specs.vanishing.Doomed.{after_deletion, doomed_on}
use Rattle.perm_io.specs.Found.{Found}
use Rattle.perm_io.specs.Found as found
use Rattle.name_meaning.specs.Meanings.{broken}
use Rattle.name_meaning.specs.declared.answer.Break.{Break}
use Rattle.name_meaning.specs.declared.rule.Rule.TheVariants as rule

-- why a statement is refused: a rule of names and kinds is broken, or no number is left to draw; it meets faults; its file
-- isn't there, is too large, has a record that breaks a rule, or failed. The numbers are the statement's offset
pub data Cause : Type 0 where
  Broken : Break → Cause
  Meets : Faults → ℕ → Cause
  Missing : ℕ → Cause
  TooLarge : ℕ → Cause
  Unfit : DataError → Cause
  Failed : Cause

-- the statement's text with what the catalog holds then; where it is refused the catalog holds what it held
pub data Turn : Type 0 where
  Accepted : List ℕ → Contents → Turn
  Refused : Cause → Turn

-- a bad value refuses the statement with the whole set of its faults, of which any may be named
abbrev pub on_good : {X : Type 0} → ℕ → Outcome X → (X → Turn) → Turn
on_good at (Good x) next = next x
on_good at (Bad faults) next = Refused (Meets faults at)

-- a statement that draws a number; the last one is never drawn
abbrev pub drawing : Contents → ℕ → Turn → Turn
drawing c at turn = cond (nat_eq c.next last_number) (Refused (Broken (broken rule.NumbersSpent at))) turn

-- the text of a statement that counts rows
abbrev pub counting : List ℕ → ℕ → List ℕ
counting word count = word ++ decimal count ++ codes "\n"

-- the identity of the table of this name, which a statement that breaks no rule of names has
abbrev pub identity_of : Contents → List ℕ → ℕ
identity_of c name = option_map_or (λ (entry : TableEntry). entry.id) (table_named c name) 0

-- ---- CREATE and DROP

abbrev pub table_created : Contents → List ℕ → List Column → Turn
table_created c name columns = Accepted (codes "CREATE TABLE\n") (with_table c name columns [] None)

abbrev pub create_table : Contents → ℕ → List ℕ → List Column → Turn
create_table c at name columns = drawing c at (table_created c name columns)

abbrev pub view_created : Contents → List ℕ → ViewEntry → Turn
view_created c name entry = Accepted (codes "CREATE VIEW\n") (with_view c name entry)

abbrev pub table_dropped : Contents → List ℕ → Turn
table_dropped c name = Accepted (codes "DROP TABLE\n") (without_table c name (identity_of c name))

abbrev pub view_dropped : Contents → List ℕ → Turn
view_dropped c name = Accepted (codes "DROP VIEW\n") (without_view c name)

-- ---- rows that are added: by INSERT or COPY, at the end of the table

abbrev pub with_added : Contents → List ℕ → Bag → Contents
with_added c name rows = with_more_rows c name (identity_of c name) rows

abbrev pub rows_added : List ℕ → Contents → List ℕ → Bag → Turn
rows_added word c name rows = Accepted (counting word (length rows)) (with_added c name rows)

abbrev pub add_rows : List ℕ → Contents → ℕ → List ℕ → Bag → Turn
add_rows word c at name rows = drawing c at (rows_added word c name rows)

-- the values of a row's expressions, which see no column; all of them are evaluated
abbrev pub row_value : List Expr → Outcome Row
row_value exprs = each (λ (expr : Expr). value expr [] [] []) exprs

abbrev pub insert : Contents → ℕ → List ℕ → List (List Expr) → Turn
insert c at name rows = on_good at (each row_value rows) (add_rows (codes "INSERT ") c at name)

-- ---- the rows of a file, where no record of it breaks a rule

abbrev pub add_unbroken : Contents → ℕ → List ℕ → List DataError → Bag → Turn
add_unbroken c at name [] rows = add_rows (codes "COPY ") c at name rows
add_unbroken c at name (first ∷ more) rows = Refused (Unfit first)

-- by what became of the file; columns of these kinds are filled
abbrev pub copy : Contents → ℕ → List ℕ → List Kind → List ℕ → Bool → Found → Turn
copy c at name kinds null_field header (found.Read bytes) =
    add_unbroken c at name (broken_rules null_field kinds header bytes) (spelled_rows null_field kinds header bytes)
copy c at name kinds null_field header found.Missing = Refused (Missing at)
copy c at name kinds null_field header found.TooLong = Refused (TooLarge at)
copy c at name kinds null_field header found.Failed = Refused Failed

-- ---- DELETE: the rows of which the condition is true, or all

abbrev pub rows_deleted : Contents → List ℕ → List Bool → Turn
rows_deleted c name doomed =
    Accepted (counting (codes "DELETE ") (count_by (λ flag. flag) doomed)) (with_fewer_rows c name (identity_of c name) doomed)

-- the condition is looked at on every row
abbrev pub delete : Contents → ℕ → List ℕ → Option Expr → Turn
delete c at name condition =
    on_good at (each (doomed_on condition) (rows_at c (identity_of c name))) (λ doomed. drawing c at (rows_deleted c name doomed))

-- ---- a query: its rows in the order of its keys, then of all columns

abbrev pub answer_text : Answer → Bag → List ℕ
answer_text answer rows = answer_bytes answer.names (sorted (printed_cmp answer.keys) rows)

abbrev pub answered : Contents → Answer → Bag → Turn
answered c answer rows = Accepted (answer_text answer rows) c

abbrev pub select : Contents → ℕ → Answer → Turn
select c at answer = on_good at (meaning answer.query (rows_in c.rows) []) (answered c answer)

-- ---- IMPACT: the rows of a query that would vanish if the rows of a table were deleted of which the condition is true, or all.
-- Nothing is deleted

-- whether the query reads the table of this identity
abbrev pub reads : ℕ → Query → Bool
reads id query = list_any (λ (read : TableRead). read.id == id) (tables_read query)

-- whether each row of the table doomed_on; no row is looked at where the query doesn't read the table
abbrev pub rows_going : ℕ → Option Expr → Query → Database → Outcome (List Bool)
rows_going id condition query db = cond (reads id query) (each (doomed_on condition) (db id)) (Good [])

-- the rows of the query; both the query and the condition are looked at
abbrev pub rows_before : ℕ → Option Expr → Query → Database → Outcome Bag
rows_before id condition query db = both (λ rows doomed. rows) (meaning query db []) (rows_going id condition query db)

abbrev pub is_answered : Outcome Bag → Row → Bool
is_answered (Good rows) row = member row rows
is_answered (Bad faults) row = false

-- of these rows of the query those that it wouldn't have, each once
abbrev pub rows_lost : ℕ → Option Expr → Query → Database → Bag → Bag
rows_lost id condition query db rows = once (filter (λ row. not (is_answered (meaning query (after_deletion id condition db) []) row)) rows)

abbrev pub impact : Contents → ℕ → List ℕ → Option Expr → Answer → Turn
impact c at name condition answer = on_good at (rows_before (identity_of c name) condition answer.query (rows_in c.rows))
    (λ rows. answered c answer (rows_lost (identity_of c name) condition answer.query (rows_in c.rows) rows))

-- ---- CREATE TABLE AS: the table holds the rows of its query, in the order of the query's keys, then of all columns

-- a query with PROVENANCE, whose provenance columns have places, is remembered with what it reads now
abbrev pub remembered : Contents → Answer → Option (List ℕ) → Option StoredQuery
remembered c answer places = option_map (stored_of c answer.query) places

abbrev pub with_answer : Contents → List ℕ → List Column → Answer → Option (List ℕ) → Bag → Contents
with_answer c name columns answer places rows = with_table c name columns rows (remembered c answer places)

-- the rows in their order
abbrev pub answer_stored : Contents → List ℕ → List Column → Answer → Option (List ℕ) → Bag → Turn
answer_stored c name columns answer places rows =
    Accepted (counting (codes "CREATE TABLE AS ") (length rows)) (with_answer c name columns answer places rows)

abbrev pub store_answer : Contents → ℕ → List ℕ → List Column → Answer → Option (List ℕ) → Bag → Turn
store_answer c at name columns answer places rows = drawing c at (answer_stored c name columns answer places rows)

abbrev pub create_table_as : Contents → ℕ → List ℕ → List Column → Answer → Option (List ℕ) → Turn
create_table_as c at name columns answer places = on_good at (meaning answer.query (rows_in c.rows) [])
    (λ rows. store_answer c at name columns answer places (sorted (printed_cmp answer.keys) rows))

-- ---- SHOW FRESH

-- by the first table, in the order in which the stored query reads them, that isn't what it was
abbrev pub freshness_told : Option SourceVersion → List ℕ
freshness_told None = codes "fresh\n"
freshness_told (Some kept) = codes "stale " ++ kept.table ++ codes "\n"

-- by what the table stores of provenance
abbrev pub freshness_text : Contents → Option StoredQuery → List ℕ
freshness_text c None = codes "not stored\n"
freshness_text c (Some stored) = freshness_told (first_changed c stored)

abbrev pub stored_at : Contents → List ℕ → Option StoredQuery
stored_at c name = option_and_then (λ (entry : TableEntry). entry.stored) (table_named c name)

abbrev pub show_fresh : Contents → List ℕ → Turn
show_fresh c name = Accepted (freshness_text c (stored_at c name)) c
