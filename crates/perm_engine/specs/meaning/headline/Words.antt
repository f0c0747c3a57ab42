-- The word PROVENANCE of a whole query, and queries as statements of their own.
use Rattle.std.specs.Prelude.{ℕ}
use Rattle.sql_tree.specs.declared.query.QueryTree.{QueryTree}
use Rattle.sql_tree.specs.declared.query.SetTree.{SetTree}
use Rattle.sql_tree.specs.declared.statement.Statement.{Statement}
use Rattle.sql_tree.specs.declared.statement.StatementBody.TheVariants as st
use Rattle.statement_meaning.specs.laws.Asks.{HasWord}

-- the word stands nowhere behind the first SELECT
abbrev pub LacksWord : SetTree → Type 0
LacksWord tree = (at : ℕ) → HasWord at tree → ⊥

-- this query as a statement at the same offset
abbrev pub asking : Statement → QueryTree → Statement
asking statement tree = record statement { body = st.Select tree }
