-- EXPLAIN REWRITE that is accepted answers a text that means what its query means, and changes nothing.
use Rattle.std.proofs.Common.{◌≡◌, ℕ, cond, List, [], Ok, refl, ap, subst}
use Rattle.bag_algebra.specs.declared.query.Answer.{Answer}
use Rattle.bag_algebra.specs.declared.query.Query.TheVariants.{Prov}
use Rattle.name_meaning.specs.Meanings.{is_whole}
use Rattle.name_meaning.specs.Statements.{answer_of, limit_breaks, name_breaks, query_meant, resolved_body}
use Rattle.name_meaning.specs.declared.answer.Resolved.{Resolved}
use Rattle.perm_catalog.specs.Contents.{Contents}
use Rattle.perm_io.specs.Found.{Found}
use Rattle.sql_tree.specs.declared.query.QueryTree.{QueryTree}
use Rattle.sql_tree.specs.declared.query.SetTree.{SetTree}
use Rattle.sql_tree.specs.declared.statement.Statement.{Statement}
use Rattle.sql_tree.specs.declared.statement.StatementBody.{StatementBody}
use Rattle.sql_tree.specs.declared.statement.StatementBody.TheVariants as st
use Rattle.statement_meaning.proofs.Words.{without-word}
use Rattle.statement_meaning.specs.laws.Asks.{AsksFor, HasWord, WithoutWord, with_body}
use Rattle.statement_meaning.specs.Answers.{TakesTurn}
use Rattle.statement_meaning.specs.Asking.{Explained, asks}
use Rattle.perm_engine.proofs.meaning.HeadlineSteps.{IsDone}
use Rattle.perm_engine.proofs.meaning.Twins.{twin}
use Rattle.perm_engine.specs.meaning.headline.Answers.{ExplainsQuery}
use Rattle.perm_engine.specs.meaning.headline.Words.{asking}

module _ (Can : List ℕ → Found → Type 0) (c after : Contents) (statement : Statement) (tree : QueryTree) (text : List ℕ)
    (is : statement.body ≡ st.Explain tree) (done : IsDone Can c after statement text) where
  abbrev answer : Answer
  answer = answer_of (query_meant c tree)

  taken : TakesTurn Can (Explained c answer) c after (Ok text)
  taken = subst (λ (made : Resolved). TakesTurn Can (asks c statement.at made) c after (Ok text)) (ap (resolved_body c) is) done.turn

  -- as a statement of its own the query breaks the same rules
  asked_for : AsksFor c (asking statement tree) answer
  asked_for = record {
    whole = subst (λ (b : StatementBody). cond (is_whole (name_breaks c b)) (limit_breaks c b) (name_breaks c b) ≡ []) is done.whole;
    is = refl;
  }

  beside : (at : ℕ) → HasWord at tree.body
      → (body : SetTree) × (plain : Answer) × WithoutWord tree.body body × AsksFor c (asking statement (with_body tree body)) plain × (answer.query ≡ Prov plain.query)
  beside at word =
      let plainly = without-word at tree.body word in
      let other = twin c (asking statement tree) answer tree at plainly.0 asked_for refl word plainly.1 in
      (plainly.0, other.0, plainly.1, other.1, other.2)

  pub explains-query : ExplainsQuery c statement tree text
  explains-query = record { answer = answer; asks = asked_for; explains = taken.0; beside = beside }

  pub explained-kept : after ≡ c
  explained-kept = taken.1
