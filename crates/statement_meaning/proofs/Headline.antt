-- A query with the word PROVENANCE and without it, over one catalog.
use Rattle.std.proofs.Common.{◌≡◌, ◌∙◌, ℕ, List, [], sym, ap}
use Rattle.bag_algebra.specs.Bags.{Bag}
use Rattle.bag_algebra.specs.Meaning.{meaning}
use Rattle.bag_algebra.specs.Outcome.{Good}
use Rattle.bag_algebra.specs.TableRows.{rows_in}
use Rattle.bag_algebra.specs.declared.query.Answer.{Answer}
use Rattle.bag_algebra.specs.declared.query.Query.TheVariants.{Prov}
use Rattle.perm_catalog.specs.Contents.{Contents}
use Rattle.sql_tree.specs.declared.query.QueryTree.{QueryTree}
use Rattle.sql_tree.specs.declared.query.SetTree.{SetTree}
use Rattle.sql_tree.specs.declared.statement.Statement.{Statement}
use Rattle.sql_tree.specs.declared.statement.StatementBody.TheVariants as st
use Rattle.name_meaning.specs.Statements.{resolved_body}
use Rattle.statement_meaning.specs.Asking.{Settled, asked}
use Rattle.statement_meaning.specs.Turns.{Accepted}
use Rattle.statement_meaning.proofs.Answered.{good-answer, same_answer}
use Rattle.statement_meaning.proofs.Provenance.{good-provenance}
use Rattle.statement_meaning.proofs.Words.{word-proves}
use Rattle.statement_meaning.specs.laws.Asks.{AsksFor, HasWord, WithoutWord, with_body}
use Rattle.statement_meaning.specs.laws.Printed.{ListsBag, ListsBeside}

module _ (c : Contents) (statement plainly : Statement) (answer plain : Answer) (tree : QueryTree) (at : ℕ) (body : SetTree) (asked_for : AsksFor c statement answer)
    (is : statement.body ≡ st.Select tree) (word : HasWord at tree.body) (without : WithoutWord tree.body body) (asked_plainly : AsksFor c plainly plain)
    (is_plain : plainly.body ≡ st.Select (with_body tree body)) where
  pub of_plain : answer.query ≡ Prov plain.query
  of_plain =
      let found = word-proves c statement answer tree at body asked_for is word without in
      let same : found.0 ≡ plain = same_answer found.0 plain (sym found.1.is ∙ sym (ap (resolved_body c) is_plain) ∙ asked_plainly.is) in
      found.2 ∙ ap (λ (a : Answer). Prov a.query) same

  pub both-answer : (bag : Bag) → meaning plain.query (rows_in c.rows) [] ≡ Good bag
      → (text : List ℕ) × (provenance : List ℕ)
      × ListsBag plain bag text × (asked c plainly ≡ Settled (Accepted text c))
      × ListsBeside answer plain.query (rows_in c.rows) bag provenance × (asked c statement ≡ Settled (Accepted provenance c))
  both-answer bag good =
      let rows = good-answer c plainly plain bag asked_plainly good in
      let beside = good-provenance c statement answer plain.query bag asked_for of_plain good in
      (rows.0, beside.0, rows.1, rows.2, beside.1, beside.2)
