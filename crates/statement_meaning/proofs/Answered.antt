-- What becomes of a query that breaks no rule.
use Rattle.std.proofs.Common.{◌≡◌, ◌∙◌, ℕ, List, [], refl, sym, ap}
use Rattle.perm_values.specs.RowLaws.{printed_total}
use Rattle.perm_values.specs.Rows.{printed_cmp}
use Rattle.bag_algebra.proofs.SortedBags.{same_bag-sorted}
use Rattle.bag_algebra.specs.Bags.{Bag, sorted}
use Rattle.bag_algebra.specs.Meaning.{meaning}
use Rattle.bag_algebra.specs.Outcome.{Outcome, Good, Bad, Faults}
use Rattle.bag_algebra.specs.TableRows.{rows_in}
use Rattle.bag_algebra.specs.declared.query.Answer.{Answer}
use Rattle.csv_tables.specs.AnswerText.{answer_bytes}
use Rattle.perm_catalog.specs.Contents.{Contents}
use Rattle.query_laws.proofs.Limited.{ordered_once, sorted-is_sorted}
use Rattle.sql_tree.specs.declared.query.QueryTree.{QueryTree}
use Rattle.sql_tree.specs.declared.statement.Statement.{Statement}
use Rattle.sql_tree.specs.declared.statement.StatementBody.{StatementBody}
use Rattle.sql_tree.specs.declared.statement.StatementBody.TheVariants as st
use Rattle.name_meaning.specs.Statements.{answer_of, query_meant, resolved_body}
use Rattle.name_meaning.specs.declared.answer.Resolved.TheVariants as r
use Rattle.statement_meaning.proofs.Asked.{asked-by_breaks}
use Rattle.statement_meaning.specs.Asking.{Settled, asked, asks}
use Rattle.statement_meaning.specs.Turns.{Accepted, Refused, Meets, answer_text, answered, on_good, select}
use Rattle.statement_meaning.specs.laws.Asks.{AsksFor}
use Rattle.statement_meaning.specs.laws.Printed.{IsPrintedAs, ListsBag}

pub same_answer : (a b : Answer) → r.Select a ≡ r.Select b → a ≡ b
same_answer a b e = cc

-- a statement that is resolved to a query is one
pub query-of : (c : Contents) (body : StatementBody) (answer : Answer) → resolved_body c body ≡ r.Select answer
    → (tree : QueryTree) × (body ≡ st.Select tree) × (answer_of (query_meant c tree) ≡ answer)
query-of c (st.CreateTable table columns) answer e = absurd (cc e)
query-of c (st.CreateTableAs table query) answer e = absurd (cc e)
query-of c (st.CreateView view query) answer e = absurd (cc e)
query-of c (st.Copy table file header null_field) answer e = absurd (cc e)
query-of c (st.Insert table rows) answer e = absurd (cc e)
query-of c (st.Delete table condition) answer e = absurd (cc e)
query-of c (st.DropTable table) answer e = absurd (cc e)
query-of c (st.DropView view) answer e = absurd (cc e)
query-of c (st.Select query) answer e = (query, refl, same_answer (answer_of (query_meant c query)) answer e)
query-of c (st.Explain query) answer e = absurd (cc e)
query-of c (st.ShowFresh table) answer e = absurd (cc e)
query-of c (st.Impact table condition query) answer e = absurd (cc e)

module _ (c : Contents) (statement : Statement) (answer : Answer) (asked_for : AsksFor c statement answer) where
  pub asked-select : asked c statement ≡ Settled (select c statement.at answer)
  asked-select = asked-by_breaks c statement [] asked_for.whole ∙ ap (asks c statement.at) asked_for.is

  pub asked-meaning : (o : Outcome Bag) → meaning answer.query (rows_in c.rows) [] ≡ o → asked c statement ≡ Settled (on_good statement.at o (answered c answer))
  asked-meaning o e = asked-select ∙ ap (λ (found : Outcome Bag). Settled (on_good statement.at found (answered c answer))) e

  pub asked-good : (bag : Bag) → meaning answer.query (rows_in c.rows) [] ≡ Good bag → asked c statement ≡ Settled (Accepted (answer_text answer bag) c)
  asked-good bag e = asked-meaning (Good bag) e

  pub asked-bad : (faults : Faults) → meaning answer.query (rows_in c.rows) [] ≡ Bad faults → asked c statement ≡ Settled (Refused (Meets faults statement.at))
  asked-bad faults e = asked-meaning (Bad faults) e

-- the text of a bag lists its rows in order
pub listed-text : (answer : Answer) (bag : Bag) → IsPrintedAs answer (sorted (printed_cmp answer.keys) bag) (answer_text answer bag)
listed-text answer bag = record { ordered = sorted-is_sorted (printed_cmp answer.keys) (printed_total answer.keys) bag; written = refl }

pub lists-bag : (answer : Answer) (bag : Bag) → ListsBag answer bag (answer_text answer bag)
lists-bag answer bag = record {
  rows = sorted (printed_cmp answer.keys) bag;
  listed = listed-text answer bag;
  counts = same_bag-sorted (printed_cmp answer.keys) bag;
}

pub good-answer : (c : Contents) (statement : Statement) (answer : Answer) (bag : Bag) → AsksFor c statement answer
    → meaning answer.query (rows_in c.rows) [] ≡ Good bag
    → (text : List ℕ) × ListsBag answer bag text × (asked c statement ≡ Settled (Accepted text c))
good-answer c statement answer bag asked_for good =
    (answer_text answer bag, lists-bag answer bag, asked-good c statement answer asked_for bag good)

pub bad-answer : (c : Contents) (statement : Statement) (answer : Answer) (faults : Faults) → AsksFor c statement answer
    → meaning answer.query (rows_in c.rows) [] ≡ Bad faults → asked c statement ≡ Settled (Refused (Meets faults statement.at))
bad-answer c statement answer faults asked_for bad = asked-bad c statement answer asked_for faults bad

-- texts of the same rows are one
pub same_text : (answer : Answer) (rows others : Bag) (text other : List ℕ) → IsPrintedAs answer rows text → IsPrintedAs answer others other
    → rows ≡ others → text ≡ other
same_text answer rows others text other a b e = a.written ∙ ap (answer_bytes answer.names) e ∙ sym b.written

pub one_text : (answer : Answer) (bag : Bag) (text other : List ℕ) → ListsBag answer bag text → ListsBag answer bag other → text ≡ other
one_text answer bag text other a b =
    same_text answer a.rows b.rows text other a.listed b.listed
    (ordered_once answer.keys bag a.rows b.rows a.counts b.counts a.listed.ordered b.listed.ordered)
