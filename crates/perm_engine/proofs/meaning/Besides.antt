-- A query with the word PROVENANCE that is accepted answers the rows of the same query without it beside their witness lists.
use Rattle.std.proofs.Common.{◌≡◌, ◌∙◌, ◌<◌, ℕ, List, [], refl, sym, ap, subst}
use Rattle.perm_values.specs.Rows.{printed_cmp}
use Rattle.bag_algebra.proofs.SortedBags.{same_bag-sorted}
use Rattle.bag_algebra.specs.Bags.{Row, Bag, sorted}
use Rattle.bag_algebra.specs.Meaning.{meaning}
use Rattle.bag_algebra.specs.Outcome.{Outcome, Good, Bad, Faults}
use Rattle.bag_algebra.specs.TableRows.{rows_in}
use Rattle.bag_algebra.specs.declared.query.Answer.{Answer}
use Rattle.bag_algebra.specs.declared.query.Query.{Query}
use Rattle.bag_algebra.specs.declared.query.Query.TheVariants.{Prov}
use Rattle.perm_catalog.specs.Contents.{Contents}
use Rattle.perm_catalog.specs.Sound.{IsSound}
use Rattle.query_laws.specs.Holding.{InBag}
use Rattle.sql_tree.specs.Regular.{RegularStatement}
use Rattle.sql_tree.specs.declared.query.QueryTree.{QueryTree}
use Rattle.sql_tree.specs.declared.query.SetTree.{SetTree}
use Rattle.sql_tree.specs.declared.statement.Statement.{Statement}
use Rattle.sql_tree.specs.declared.statement.StatementBody.TheVariants as st
use Rattle.statement_meaning.proofs.Answered.{listed-text}
use Rattle.statement_meaning.proofs.Nested.{found_beside, found-beside, meaning-good, nested-bad}
use Rattle.statement_meaning.proofs.Provenance.{fronts, one_provenance_text, same_bag-holds}
use Rattle.statement_meaning.proofs.Wide.{as-wide}
use Rattle.statement_meaning.proofs.Words.{without-word, word-names}
use Rattle.statement_meaning.specs.laws.Asks.{AsksFor, HasWord, WithoutWord, with_body}
use Rattle.statement_meaning.specs.laws.Beside.{IsBeside}
use Rattle.statement_meaning.specs.laws.Printed.{ListsBeside}
use Rattle.statement_meaning.specs.Turns.{answer_text}
use Rattle.perm_engine.proofs.meaning.Twins.{asks-resolves, twin}
use Rattle.perm_engine.specs.meaning.headline.Answers.{AnswersBeside}
use Rattle.perm_engine.specs.meaning.headline.Words.{asking}

-- the rows in their order, under a text that is written so
pub beside-listed : (answer : Answer) (q : Query) (c : Contents) (bag : Bag) (text : List ℕ) → answer_text answer (found_beside q (rows_in c.rows) [] bag) ≡ text
    → ListsBeside answer q (rows_in c.rows) bag text
beside-listed answer q c bag text written =
    let found : Bag = found_beside q (rows_in c.rows) [] bag in
    record {
      rows = sorted (printed_cmp answer.keys) found;
      listed = record { ordered = (listed-text answer found).ordered; written = sym written };
      beside = same_bag-holds (IsBeside q (rows_in c.rows) [] bag) found (sorted (printed_cmp answer.keys) found)
          (same_bag-sorted (printed_cmp answer.keys) found) (found-beside q (rows_in c.rows) [] bag);
    }

-- what the query without the word means, where the one with it means a bag
pub record Founds (c : Contents) (q : Query) (found : Bag) : Type 0 where
  pub bag : Bag
  pub means : meaning q (rows_in c.rows) [] ≡ Good bag
  pub is : found_beside q (rows_in c.rows) [] bag ≡ found

founds-of : (c : Contents) (q : Query) (found : Bag) (o : Outcome Bag) → meaning q (rows_in c.rows) [] ≡ o
    → meaning (Prov q) (rows_in c.rows) [] ≡ Good found → Founds c q found
founds-of c q found (Good bag) means e =
    let other = meaning-good q (rows_in c.rows) [] bag means in
    record { bag = bag; means = means; is = same_bag (found_beside q (rows_in c.rows) [] bag) found (sym other ∙ e) } where
      same_bag : (a b : Bag) → Good a ≡ Good b → a ≡ b
      same_bag a b e = cc
founds-of c q found (Bad faults) means e = absurd (bad_good faults found (sym ((nested-bad q (rows_in c.rows) [] faults).1 means) ∙ e)) where
  bad_good : (faults : Faults) (found : Bag) → Bad faults ≡ Good found → ⊥
  bad_good faults found e = cc

pub founds : (c : Contents) (q : Query) (found : Bag) → meaning (Prov q) (rows_in c.rows) [] ≡ Good found → Founds c q found
founds c q found e = founds-of c q found (meaning q (rows_in c.rows) []) refl e

module _ (c : Contents) (statement : Statement) (answer : Answer) (tree : QueryTree) (at : ℕ) (text : List ℕ) (found : Bag) (sound : IsSound c) (regular : RegularStatement statement)
    (asked_for : AsksFor c statement answer) (is : statement.body ≡ st.Select tree) (word : HasWord at tree.body)
    (means : meaning answer.query (rows_in c.rows) [] ≡ Good found) (written : answer_text answer found ≡ text) where
  plainly : (body : SetTree) × WithoutWord tree.body body
  plainly = without-word at tree.body word

  other : (plain : Answer) × AsksFor c (asking statement (with_body tree plainly.0)) plain × (answer.query ≡ Prov plain.query) × (answer.keys ≡ plain.keys)
  other = twin c statement answer tree at plainly.0 asked_for is word plainly.1

  below : Founds c other.0.query found
  below = founds c other.0.query found (ap (λ (q : Query). meaning q (rows_in c.rows) []) (sym other.2) ∙ means)

  text-is : answer_text answer (found_beside other.0.query (rows_in c.rows) [] below.bag) ≡ text
  text-is = ap (answer_text answer) below.is ∙ written

  wide-row : (x : Row) → InBag x (beside-listed answer other.0.query c below.bag text text-is).rows → InBag x found
  unfolding beside-listed
  wide-row x there =
      subst (λ (bag : Bag). InBag x bag) below.is
      (subst (λ (n : ℕ). 0 < n) (sym ((same_bag-sorted (printed_cmp answer.keys) (found_beside other.0.query (rows_in c.rows) [] below.bag)).counts x)) there)

  pub answers-beside : AnswersBeside c statement tree text
  answers-beside = record {
    answer = answer;
    asks = asked_for;
    body = plainly.0;
    without = plainly.1;
    plain = other.0;
    asks_plainly = other.1;
    bag = below.bag;
    means = below.means;
    lists = beside-listed answer other.0.query c below.bag text text-is;
    keys = other.3;
    only = λ others given. one_provenance_text answer other.0.query (rows_in c.rows) below.bag others text given (beside-listed answer other.0.query c below.bag text text-is);
    kept = λ t. fronts c statement answer other.0.query below.bag text sound regular asked_for other.2 below.means (beside-listed answer other.0.query c below.bag text text-is) t;
    names = word-names c statement answer other.0 tree at plainly.0 sound asked_for is word plainly.1 (asks-resolves c statement (with_body tree plainly.0) other.0 other.1);
    wide = λ x there. as-wide c statement answer found x sound regular asked_for means (wide-row x there);
  }

  -- these are the rows that are listed
  pub beside-rows : answers-beside.lists.rows ≡ sorted (printed_cmp answer.keys) found
  unfolding answers-beside beside-listed
  beside-rows = ap (sorted (printed_cmp answer.keys)) below.is
