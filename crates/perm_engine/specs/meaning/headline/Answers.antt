-- What a query that is met answers, without the word PROVENANCE and with it, what CREATE TABLE AS stores, and what IMPACT and EXPLAIN
-- REWRITE answer.
use Rattle.std.specs.Prelude.{◌≡◌, ◌≢◌, ◌↔◌, ℕ, Bool, true, List, [], ◌++◌, length, take, codes, Option, Some, All, IsTrue}
use Rattle.statement_meaning.specs.explains.Explains.{Explains}
use Rattle.bag_algebra.specs.Bags.{Row, Bag, member}
use Rattle.bag_algebra.specs.Kinds.{width_of}
use Rattle.bag_algebra.specs.Meaning.{meaning, witnesses}
use Rattle.bag_algebra.specs.Outcome.{Good}
use Rattle.bag_algebra.specs.TableRows.{rows_in}
use Rattle.bag_algebra.specs.declared.expr.Expr.{Expr}
use Rattle.bag_algebra.specs.declared.query.Answer.{Answer}
use Rattle.bag_algebra.specs.declared.query.Query.{Query}
use Rattle.bag_algebra.specs.declared.query.Query.TheVariants.{Prov}
use Rattle.name_meaning.specs.Queries.{provenance_columns}
use Rattle.name_meaning.specs.Statements.{answer_of, columns_of, impact_query, query_meant, stored_columns}
use Rattle.perm_catalog.specs.Changes.{rows_at, table_named, with_table}
use Rattle.perm_catalog.specs.Contents.{Contents}
use Rattle.perm_catalog.specs.declared.entries.TableEntry.{TableEntry}
use Rattle.query_laws.specs.Holding.{InBag}
use Rattle.sql_tree.specs.declared.name.Name.{Name}
use Rattle.sql_tree.specs.declared.query.QueryTree.{QueryTree}
use Rattle.sql_tree.specs.declared.query.SetTree.{SetTree}
use Rattle.sql_tree.specs.declared.statement.Statement.{Statement}
use Rattle.delete_impact.specs.vanishing.Doomed.{doomed_on, has_doomed, places_over}
use Rattle.statement_meaning.specs.laws.Asks.{AsksFor, HasWord, WithoutWord, shown_names, with_body}
use Rattle.statement_meaning.specs.laws.Freshened.{StoresFresh}
use Rattle.statement_meaning.specs.laws.Lost.{AsksImpact, ListsLost}
use Rattle.statement_meaning.specs.laws.Printed.{ListsBag, ListsBeside}
use Rattle.statement_meaning.specs.Turns.{counting, reads, remembered}
use Rattle.perm_engine.specs.meaning.headline.Words.{LacksWord, asking}

-- over these contents the query of the statement answers its rows by this text
pub record AnswersRows (c : Contents) (statement : Statement) (text : List ℕ) : Type 0 where
  -- it breaks no rule, and this is what it is resolved to
  pub answer : Answer
  pub asks : AsksFor c statement answer
  -- no PROVENANCE stands at the front of that
  pub plain : (q : Query) → answer.query ≢ Prov q
  -- on the catalog's tables it means this bag, and no fault
  pub bag : Bag
  pub means : meaning answer.query (rows_in c.rows) [] ≡ Good bag
  -- the text lists each row as often as the bag has it, in the order asked for
  pub lists : ListsBag answer bag text
  -- and no other text does
  pub only : (other : List ℕ) → ListsBag answer bag other → other ≡ text
  -- each row has as many values as the header has names
  pub wide : (t : Row) → InBag t bag → length t ≡ length answer.names

-- over these contents the query of the statement, behind whose first SELECT the word PROVENANCE stands, answers the rows of
-- the same query without the word beside their witness lists
pub record AnswersBeside (c : Contents) (statement : Statement) (tree : QueryTree) (text : List ℕ) : Type 0 where
  -- the query breaks no rule, and this is what it is resolved to
  pub answer : Answer
  pub asks : AsksFor c statement answer
  -- the same query without the word breaks no rule either, limits included, and this is what it is resolved to
  pub body : SetTree
  pub without : WithoutWord tree.body body
  pub plain : Answer
  pub asks_plainly : AsksFor c (asking statement (with_body tree body)) plain
  -- on the catalog's tables it means this bag, and no fault
  pub bag : Bag
  pub means : meaning plain.query (rows_in c.rows) [] ≡ Good bag
  -- the text lists, once each, every row of the bag beside every one of its witness lists in the query without the word, and
  -- nothing else, in the same order
  pub lists : ListsBeside answer plain.query (rows_in c.rows) bag text
  pub keys : answer.keys ≡ plain.keys
  -- and no other text does
  pub only : (other : List ℕ) → ListsBeside answer plain.query (rows_in c.rows) bag other → other ≡ text
  -- no row is lost, and none is added: the fronts of the rows that are listed are the rows of the bag
  pub kept : (t : Row) → InBag t bag ↔ ((x : Row) × InBag x lists.rows × (take (width_of plain.query) x ≡ t))
  -- the header has the names of the query without the word, then those of its places' columns
  pub names : answer.names ≡ plain.names ++ shown_names (provenance_columns plain.query)
  -- each row has as many values as the header has names
  pub wide : (x : Row) → InBag x lists.rows → length x ≡ length answer.names

-- CREATE TABLE AS stores the rows that the same query answers as a statement of its own
pub record StoresAnswer (c after : Contents) (statement : Statement) (table : Name) (tree : QueryTree) (text : List ℕ) : Type 0 where
  -- what the query is resolved to
  pub answer : Answer
  pub asks : AsksFor c (asking statement tree) answer
  -- the table comes last, with the query's columns and these rows; with PROVENANCE it remembers the query
  pub rows : Bag
  pub left : after ≡ with_table c table.text (stored_columns (columns_of (query_meant c tree))) rows
      (remembered c answer (query_meant c tree).places)
  -- the text counts the rows
  pub counts : text ≡ counting (codes "CREATE TABLE AS ") (length rows)
  -- without the word they are the rows of the query, as often and in the order as it answers them
  pub plain : LacksWord tree.body
      → (shown : List ℕ) × (a : AnswersRows c (asking statement tree) shown) × (rows ≡ a.lists.rows)
  -- with the word they are the rows beside witness lists that it answers; and the table stores the query, and is fresh
  pub beside : (at : ℕ) → HasWord at tree.body
      → (shown : List ℕ) × (a : AnswersBeside c (asking statement tree) tree shown) × (rows ≡ a.lists.rows)
  pub fresh : (at : ℕ) → HasWord at tree.body → StoresFresh table.text answer.query after

-- over these contents EXPLAIN REWRITE answers a text that means what its query means
pub record ExplainsQuery (c : Contents) (statement : Statement) (tree : QueryTree) (text : List ℕ) : Type 0 where
  -- the query breaks no rule as a statement of its own, limits included, and this is what it is resolved to
  pub answer : Answer
  pub asks : AsksFor c (asking statement tree) answer
  -- the text is one query without PROVENANCE, which breaks no rule of names and kinds and means the same, by the same names and keys, on
  -- every database that gives the catalog's tables rows
  pub explains : Explains c answer text
  -- with the word that is the PROVENANCE of the same query without it
  pub beside : (at : ℕ) → HasWord at tree.body
      → (body : SetTree) × (plain : Answer) × WithoutWord tree.body body × AsksFor c (asking statement (with_body tree body)) plain × (answer.query ≡ Prov plain.query)

-- over these contents an IMPACT answers, once each, the rows of its query that would vanish if the rows of its table that meet its
-- condition were deleted
pub record AnswersLost (c : Contents) (statement : Statement) (table : Name) (tree : QueryTree) (text : List ℕ) : Type 0 where
  -- the table is one of the catalog's; the statement breaks no rule, and this is what its condition and its query are resolved to
  pub entry : TableEntry
  pub named : table_named c table.text ≡ Some entry
  pub condition : Option Expr
  pub answer : Answer
  pub asks : AsksImpact c statement table.text condition answer
  -- the query is the one of the statement, at whose front PROVENANCE can't stand
  pub query : answer ≡ answer_of (impact_query c tree)
  -- on the catalog's tables the query means this bag, and no fault
  pub bag : Bag
  pub means : meaning answer.query (rows_in c.rows) [] ≡ Good bag
  -- where the query reads the table, the condition meets no fault on any of its rows
  pub met : reads entry.id answer.query ≡ true → (row : Row) → IsTrue (member row (rows_at c entry.id)) → (doomed : Bool) × (doomed_on condition row ≡ Good doomed)
  -- the text lists, once each, the rows of the bag that vanish, and nothing else, in the order asked for
  pub lists : ListsLost answer entry.id condition (rows_in c.rows) text
  -- and no other text does
  pub only : (other : List ℕ) → ListsLost answer entry.id condition (rows_in c.rows) other → other ≡ text
  -- these are the rows of the bag each of whose witness lists has a row of the table that would be deleted
  pub doomed : (t : Row) → InBag t lists.rows ↔ (InBag t bag
      × All (λ w. IsTrue (has_doomed condition (places_over entry.id answer.query) w)) (witnesses answer.query (rows_in c.rows) [] t))
  -- each row has as many values as the header has names
  pub wide : (t : Row) → InBag t lists.rows → length t ≡ length answer.names
