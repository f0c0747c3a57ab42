-- Queries as statements: what they are resolved to, and the word PROVENANCE.
use Rattle.std.specs.Prelude.{◌≡◌, ℕ, List, [], Some, None}
use Rattle.bag_algebra.specs.declared.query.Answer.{Answer}
use Rattle.perm_catalog.specs.Contents.{Contents}
use Rattle.sql_tree.specs.declared.query.Core.{Core, out-Core}
use Rattle.sql_tree.specs.declared.query.QueryTree.{QueryTree}
use Rattle.sql_tree.specs.declared.query.SetStep.{SetStep}
use Rattle.sql_tree.specs.declared.query.SetTree.{SetTree}
use Rattle.sql_tree.specs.declared.query.SetTree.TheVariants as set
use Rattle.sql_tree.specs.declared.statement.Statement.{Statement}
use Rattle.sql_tree.specs.declared.statement.StatementBody.TheVariants as st
use Rattle.name_meaning.specs.Froms.{names_of, settled_columns}
use Rattle.name_meaning.specs.Meanings.{OutColumn}
use Rattle.name_meaning.specs.Statements.{breaks, name_breaks, resolved, resolved_body}
use Rattle.name_meaning.specs.declared.answer.Resolved.TheVariants as r

-- the statement is a query that breaks no rule, limits included, and this is what it is resolved to
pub record AsksFor (c : Contents) (statement : Statement) (answer : Answer) : Type 0 where
  pub whole : breaks c statement ≡ []
  pub is : resolved c statement ≡ r.Select answer

-- the statement is an EXPLAIN that breaks no rule, limits included, and this is what its query is resolved to
pub record AsksToExplain (c : Contents) (statement : Statement) (answer : Answer) : Type 0 where
  pub whole : breaks c statement ≡ []
  pub is : resolved c statement ≡ r.Explain answer

-- the word PROVENANCE stands at this offset behind the first SELECT, which is that of the one core, or of the first operand
-- of set operations
pub data HasWord (at : ℕ) : SetTree → Type 0 where
  in_core : (core : Core) → (out-Core core).provenance ≡ Some at → HasWord at (set.Core core)
  in_first : (first : SetTree) (steps : List SetStep) → HasWord at first → HasWord at (set.Chain first steps)

-- the same without the word
pub data WithoutWord : SetTree → SetTree → Type 0 where
  plain_core : (core plain : Core) → out-Core plain ≡ record (out-Core core) { provenance = None } →
      WithoutWord (set.Core core) (set.Core plain)
  plain_first : (first plain : SetTree) (steps : List SetStep) → WithoutWord first plain →
      WithoutWord (set.Chain first steps) (set.Chain plain steps)

-- the query with this in the place of its cores and set operations, under the same ORDER BY and LIMIT
abbrev pub with_body : QueryTree → SetTree → QueryTree
with_body tree body = record tree { body = body }

-- a query that breaks no rule of names and kinds, limits aside, and what it is resolved to
pub record ResolvesTo (c : Contents) (tree : QueryTree) (answer : Answer) : Type 0 where
  pub whole : name_breaks c (st.Select tree) ≡ []
  pub is : resolved_body c (st.Select tree) ≡ r.Select answer

-- the names of a query's columns, as its header shows them
abbrev pub shown_names : List OutColumn → List (List ℕ)
shown_names columns = names_of (settled_columns columns)
