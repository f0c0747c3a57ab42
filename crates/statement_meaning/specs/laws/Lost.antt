-- IMPACT as a statement, what its text lists, and the faults that it meets.
use Rattle.std.specs.Prelude.{◌≡◌, ℕ, true, List, [], Option, IsTrue}
use Rattle.bag_algebra.specs.Bags.{Row, Bag, member}
use Rattle.bag_algebra.specs.Meaning.{Database, meaning}
use Rattle.bag_algebra.specs.Outcome.{Faults, Bad, has}
use Rattle.bag_algebra.specs.declared.expr.Expr.{Expr}
use Rattle.bag_algebra.specs.declared.query.Answer.{Answer}
use Rattle.bag_algebra.specs.declared.query.Query.{Query}
use Rattle.delete_impact.specs.vanishing.Doomed.{doomed_on}
use Rattle.delete_impact.specs.vanishing.Vanishing.{Vanishes}
use Rattle.null_logic.specs.declared.run_fault.RunFault.{RunFault}
use Rattle.perm_catalog.specs.Contents.{Contents}
use Rattle.query_laws.specs.Holding.{HoldsOnce}
use Rattle.sql_tree.specs.declared.statement.Statement.{Statement}
use Rattle.name_meaning.specs.Statements.{breaks, resolved}
use Rattle.name_meaning.specs.declared.answer.Resolved.TheVariants as r
use Rattle.statement_meaning.specs.Turns.{reads}
use Rattle.statement_meaning.specs.laws.Printed.{IsPrintedAs}

-- the statement is an IMPACT that breaks no rule, limits included, and this is what it is resolved to
pub record AsksImpact (c : Contents) (statement : Statement) (name : List ℕ) (condition : Option Expr) (answer : Answer) : Type 0 where
  pub whole : breaks c statement ≡ []
  pub is : resolved c statement ≡ r.Impact name condition answer

-- the text lists, once each, the rows of the query that vanish where the rows of the table that meet the condition are deleted,
-- and nothing else
pub record ListsLost (answer : Answer) (id : ℕ) (condition : Option Expr) (db : Database) (text : List ℕ) : Type 0 where
  pub rows : Bag
  pub listed : IsPrintedAs answer rows text
  pub vanish : HoldsOnce (Vanishes answer.query id condition db) rows

-- a fault that the query meets; or, where the query reads the table, one that the condition meets on a row of the table
pub data MeetsLost (query : Query) (id : ℕ) (condition : Option Expr) (db : Database) (fault : RunFault) : Type 0 where
  of_query : (faults : Faults) → meaning query db [] ≡ Bad faults → has faults fault ≡ true → MeetsLost query id condition db fault
  of_condition : (row : Row) (faults : Faults) → reads id query ≡ true → IsTrue (member row (db id)) → doomed_on condition row ≡ Bad faults →
      has faults fault ≡ true → MeetsLost query id condition db fault
