-- What a statement breaks by its own names: those of what it makes, changes or drops.
use Rattle.std.specs.Prelude.{◌≡◌, List, [], ◌++◌, Result, Err}
use Rattle.perm_catalog.specs.Contents.{Contents}
use Rattle.sql_tree.specs.declared.statement.StatementBody.{StatementBody}
use Rattle.sql_tree.specs.declared.statement.StatementBody.TheVariants as st
use Rattle.name_meaning.specs.Statements.{taken, unknown_table, unknown_view, used}
use Rattle.name_meaning.specs.declared.answer.Break.{Break}
use Rattle.name_meaning.specs.declared.answer.Resolved.{Resolved}
use Rattle.name_seen_parts.specs.Seen.{first_or}
use Rattle.name_seen_parts.specs.declared.refusal.Refusal.{Refusal}
use Rattle.name_seen_parts.specs.declared.refusal.Refusal.TheVariants.{Break as Broken}
use Rattle.name_statements.specs.Resolves.{body_breaks}

-- these come before whatever its query, values or condition break
abbrev pub own_breaks : Contents → StatementBody → List Break
own_breaks c (st.CreateTable table columns) = body_breaks c (st.CreateTable table columns)
own_breaks c (st.CreateTableAs table query) = taken c table
own_breaks c (st.CreateView view query) = taken c view
own_breaks c (st.Copy table file header null_field) = unknown_table c table
own_breaks c (st.Insert table rows) = unknown_table c table
own_breaks c (st.Delete table condition) = unknown_table c table
own_breaks c (st.DropTable table) = unknown_table c table ++ used c table
own_breaks c (st.DropView view) = unknown_view c view ++ used c view
own_breaks c (st.Select query) = []
own_breaks c (st.Explain query) = []
own_breaks c (st.ShowFresh table) = unknown_table c table
own_breaks c (st.Impact table condition query) = unknown_table c table

-- where there are such breaks, the first of them is the answer
abbrev pub TellsFirst : List Break → Result Resolved Refusal → Type 0
TellsFirst breaks result = (first : Break) → first_or breaks (tt {0}) ≡ Err first → result ≡ Err (Broken first)
