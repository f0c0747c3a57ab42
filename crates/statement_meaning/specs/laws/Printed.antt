-- Texts of answers, by the rows that they list.
use Rattle.std.specs.Prelude.{◌≡◌, ℕ, List, [], IsSorted}
use Rattle.perm_values.specs.Rows.{printed_cmp}
use Rattle.bag_algebra.specs.Bags.{Bag, SameBag}
use Rattle.bag_algebra.specs.Meaning.{Database}
use Rattle.bag_algebra.specs.declared.query.Answer.{Answer}
use Rattle.bag_algebra.specs.declared.query.Query.{Query}
use Rattle.csv_tables.specs.AnswerText.{answer_bytes}
use Rattle.query_laws.specs.Holding.{HoldsOnce}
use Rattle.statement_meaning.specs.laws.Beside.{IsBeside}

-- the text lists these rows in the order of the answer's keys and then of all columns, under its names and above their number
pub record IsPrintedAs (answer : Answer) (rows : Bag) (text : List ℕ) : Type 0 where
  pub ordered : IsSorted (printed_cmp answer.keys) rows
  pub written : text ≡ answer_bytes answer.names rows

-- it lists each row as often as the bag counts it
pub record ListsBag (answer : Answer) (bag : Bag) (text : List ℕ) : Type 0 where
  pub rows : Bag
  pub listed : IsPrintedAs answer rows text
  pub counts : SameBag bag rows

-- it lists, once each, every row of the bag that q means beside every witness list of that row, and nothing else
pub record ListsBeside (answer : Answer) (q : Query) (db : Database) (bag : Bag) (text : List ℕ) : Type 0 where
  pub rows : Bag
  pub listed : IsPrintedAs answer rows text
  pub beside : HoldsOnce (IsBeside q db [] bag) rows
