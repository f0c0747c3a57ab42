-- A query that is accepted answers its rows.
use Rattle.std.proofs.Common.{◌≡◌, ◌≢◌, ◌⊎◌, ◌∙◌, ℕ, List, [], ◌∷◌, is_some, Option, Ok, refl, sym, ap, subst, inl, inr}
use Rattle.perm_values.specs.Rows.{printed_cmp}
use Rattle.bag_algebra.proofs.SortedBags.{same_bag-sorted}
use Rattle.bag_algebra.specs.Bags.{Bag, sorted}
use Rattle.bag_algebra.specs.Meaning.{meaning}
use Rattle.bag_algebra.specs.Outcome.{Outcome, Good, Bad}
use Rattle.bag_algebra.specs.TableRows.{rows_in}
use Rattle.bag_algebra.specs.declared.query.Answer.{Answer}
use Rattle.bag_algebra.specs.declared.query.Query.{Query}
use Rattle.bag_algebra.specs.declared.query.Query.TheVariants.{Prov}
use Rattle.name_meaning.specs.Meanings.{QueryMeant}
use Rattle.name_meaning.specs.Statements.{alone, answer_of, breaks, query_meant, resolved_body}
use Rattle.name_meaning.specs.Trees.{set_of_tree}
use Rattle.name_meaning.specs.declared.answer.Break.{Break}
use Rattle.name_meaning.specs.declared.answer.Resolved.TheVariants as r
use Rattle.perm_catalog.specs.Contents.{Contents}
use Rattle.perm_catalog.specs.Sound.{IsSound}
use Rattle.perm_io.specs.Found.{Found}
use Rattle.sql_tree.specs.Regular.{RegularStatement}
use Rattle.sql_tree.specs.declared.query.QueryTree.{QueryTree}
use Rattle.sql_tree.specs.declared.statement.Statement.{Statement}
use Rattle.sql_tree.specs.declared.statement.StatementBody.TheVariants as st
use Rattle.statement_meaning.proofs.Answered.{asked-select, listed-text, one_text}
use Rattle.statement_meaning.proofs.Wide.{as-wide}
use Rattle.statement_meaning.proofs.Words.{opened}
use Rattle.statement_meaning.specs.laws.Asks.{AsksFor}
use Rattle.statement_meaning.specs.laws.Printed.{ListsBag}
use Rattle.statement_meaning.proofs.Asked.{asked-by_breaks}
use Rattle.statement_meaning.specs.Answers.{TakesTurn}
use Rattle.statement_meaning.specs.Asking.{Asked, Settled, asked}
use Rattle.statement_meaning.specs.Turns.{Accepted, Refused, Broken, answer_text, answered, on_good}
use Rattle.perm_engine.proofs.meaning.Fronts.{IsPlain, plain-front, seen-plain, set-plain}
use Rattle.perm_engine.proofs.meaning.Lacking.{lacked}
use Rattle.perm_engine.specs.meaning.headline.Answers.{AnswersRows}
use Rattle.perm_engine.specs.meaning.headline.Words.{LacksWord}

-- ---- a query is refused with its first break, or asks for an answer

-- a query that breaks no rule asks for what it is resolved to
pub asks-resolved : (c : Contents) (statement : Statement) (tree : QueryTree) → statement.body ≡ st.Select tree → breaks c statement ≡ []
    → AsksFor c statement (answer_of (query_meant c tree))
asks-resolved c statement tree is whole = record { whole = whole; is = ap (resolved_body c) is }

abbrev pub RefusedOrAsks : Contents → Statement → Type 0
RefusedOrAsks c statement =
    ((first : Break) × (more : List Break) × (breaks c statement ≡ first ∷ more) × (asked c statement ≡ Settled (Refused (Broken first))))
    ⊎ ((answer : Answer) × AsksFor c statement answer)

pub refused-or-asks : (c : Contents) (statement : Statement) (tree : QueryTree) → statement.body ≡ st.Select tree → RefusedOrAsks c statement
refused-or-asks c statement tree is = chosen (breaks c statement) refl where
  chosen : (found : List Break) → breaks c statement ≡ found → RefusedOrAsks c statement
  chosen [] e = inr (answer_of (query_meant c tree), asks-resolved c statement tree is e)
  chosen (first ∷ more) e = inl (first, more, e, asked-by_breaks c statement (first ∷ more) e)

-- ---- without the word no PROVENANCE stands in front

pub in_front-plain : (c : Contents) (tree : QueryTree) → LacksWord tree.body → IsPlain (answer_of (query_meant c tree)).query
in_front-plain c tree lacks =
    subst (λ (m : QueryMeant). IsPlain (m.make [])) (sym (opened c tree))
    (seen-plain alone tree.at (set_of_tree c tree.body) tree.order tree.limit
    (ap (λ (word : Option ℕ). is_some word) (lacked c tree.body lacks)) (set-plain c tree.body) [])

pub asked-plainly : (c : Contents) (statement : Statement) (answer : Answer) (tree : QueryTree) → AsksFor c statement answer
    → statement.body ≡ st.Select tree → LacksWord tree.body → (q : Query) → answer.query ≢ Prov q
asked-plainly c statement answer tree asked_for is lacks q =
    plain-front answer.query q
    (subst (λ (a : Answer). IsPlain a.query) (same (answer_of (query_meant c tree)) answer (sym (ap (resolved_body c) is) ∙ asked_for.is))
    (in_front-plain c tree lacks)) where
      same : (a b : Answer) → r.Select a ≡ r.Select b → a ≡ b
      same a b e = cc

-- ---- what an accepted query means and writes

pub record Selects (c after : Contents) (answer : Answer) (text : List ℕ) : Type 0 where
  pub bag : Bag
  pub means : meaning answer.query (rows_in c.rows) [] ≡ Good bag
  pub written : answer_text answer bag ≡ text
  pub kept : after ≡ c

selects-of : (c after : Contents) (answer : Answer) (text : List ℕ) (at : ℕ) (o : Outcome Bag) → meaning answer.query (rows_in c.rows) [] ≡ o
    → on_good at o (answered c answer) ≡ Accepted text after → Selects c after answer text
selects-of c after answer text at (Good bag) means e = record {
  bag = bag;
  means = means;
  written = let same : answer_text answer bag ≡ text = cc in same;
  kept = let same : after ≡ c = cc in same;
}
selects-of c after answer text at (Bad faults) means e = absurd (cc e)

pub selects : (Can : List ℕ → Found → Type 0) (c after : Contents) (statement : Statement) (answer : Answer) (text : List ℕ) → AsksFor c statement answer
    → TakesTurn Can (asked c statement) c after (Ok text) → Selects c after answer text
selects Can c after statement answer text asked_for turn =
    selects-of c after answer text statement.at (meaning answer.query (rows_in c.rows) []) refl
    (subst (λ (a : Asked). TakesTurn Can a c after (Ok text)) (asked-select c statement answer asked_for) turn)

-- ---- its rows

-- the rows in their order, under a text that is written so
pub rows-listed : (answer : Answer) (bag : Bag) (text : List ℕ) → answer_text answer bag ≡ text → ListsBag answer bag text
rows-listed answer bag text written = record {
  rows = sorted (printed_cmp answer.keys) bag;
  listed = record { ordered = (listed-text answer bag).ordered; written = sym written };
  counts = same_bag-sorted (printed_cmp answer.keys) bag;
}

pub answers-rows : (c : Contents) (statement : Statement) (answer : Answer) (tree : QueryTree) (text : List ℕ) (bag : Bag) → IsSound c → RegularStatement statement
    → AsksFor c statement answer → statement.body ≡ st.Select tree → LacksWord tree.body
    → meaning answer.query (rows_in c.rows) [] ≡ Good bag → answer_text answer bag ≡ text → AnswersRows c statement text
answers-rows c statement answer tree text bag sound regular asked_for is lacks means written = record {
  answer = answer;
  asks = asked_for;
  plain = asked-plainly c statement answer tree asked_for is lacks;
  bag = bag;
  means = means;
  lists = rows-listed answer bag text written;
  only = λ other given. one_text answer bag other text given (rows-listed answer bag text written);
  wide = λ t there. as-wide c statement answer bag t sound regular asked_for means there;
}

-- these are the rows that are listed
pub rows-are : (c : Contents) (statement : Statement) (answer : Answer) (tree : QueryTree) (text : List ℕ) (bag : Bag) (sound : IsSound c) (regular : RegularStatement statement)
    (asked_for : AsksFor c statement answer) (is : statement.body ≡ st.Select tree) (lacks : LacksWord tree.body)
    (means : meaning answer.query (rows_in c.rows) [] ≡ Good bag) (written : answer_text answer bag ≡ text)
    → (answers-rows c statement answer tree text bag sound regular asked_for is lacks means written).lists.rows ≡ sorted (printed_cmp answer.keys) bag
unfolding answers-rows rows-listed
rows-are c statement answer tree text bag sound regular asked_for is lacks means written = refl
