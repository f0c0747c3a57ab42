-- CREATE TABLE AS that is accepted stores the rows that its query answers as a statement of its own.
use Rattle.std.proofs.Common.{◌≡◌, ◌∙◌, ℕ, Bool, true, false, cond, List, [], length, nat_eq, codes, Option, Some, Ok, refl, sym, ap, subst}
use Rattle.perm_values.specs.Numbers.{last_number}
use Rattle.perm_values.specs.Rows.{printed_cmp}
use Rattle.perm_values.proofs.Lists.{back-none}
use Rattle.bag_algebra.specs.Bags.{Bag, sorted}
use Rattle.bag_algebra.specs.Meaning.{meaning}
use Rattle.bag_algebra.specs.Outcome.{Outcome, Good, Bad}
use Rattle.bag_algebra.specs.TableRows.{rows_in}
use Rattle.bag_algebra.specs.declared.query.Answer.{Answer}
use Rattle.name_meaning.specs.Meanings.{QueryMeant, broken}
use Rattle.name_meaning.specs.Queries.{count_columns, provenance_places}
use Rattle.name_meaning.specs.Statements.{answer_of, breaks, columns_of, limit_breaks, name_breaks, query_limits, query_meant, resolved, resolved_body, stored_columns, table_limit}
use Rattle.name_meaning.specs.declared.answer.Resolved.{Resolved}
use Rattle.name_meaning.specs.declared.answer.Resolved.TheVariants as r
use Rattle.name_meaning.specs.declared.rule.Rule.TheVariants as rule
use Rattle.perm_catalog.specs.Changes.{with_table}
use Rattle.perm_catalog.specs.Contents.{Contents}
use Rattle.perm_catalog.specs.Sound.{IsSound}
use Rattle.perm_catalog.specs.declared.column.Column.{Column}
use Rattle.perm_io.specs.Found.{Found}
use Rattle.sql_tree.specs.Regular.{RegularStatement, RegularStatementBody}
use Rattle.sql_tree.specs.declared.name.Name.{Name}
use Rattle.sql_tree.specs.declared.query.QueryTree.{QueryTree}
use Rattle.sql_tree.specs.declared.statement.Statement.{Statement}
use Rattle.sql_tree.specs.declared.statement.StatementBody.{StatementBody}
use Rattle.sql_tree.specs.declared.statement.StatementBody.TheVariants as st
use Rattle.statement_meaning.proofs.Adds.{whole-adds}
use Rattle.statement_meaning.proofs.Ready.{named-whole, names-whole, query-whole, whole-ready}
use Rattle.statement_meaning.proofs.Words.{with_provenance-seen, body_meant, whole_query}
use Rattle.statement_meaning.specs.laws.Asks.{AsksFor, HasWord}
use Rattle.statement_meaning.specs.laws.Freshened.{StoresFresh}
use Rattle.statement_meaning.specs.laws.Leaving.{Leaves, TurnLeaves}
use Rattle.statement_meaning.specs.laws.Sounder.{AddsSoundly}
use Rattle.statement_meaning.specs.Answers.{TakesTurn}
use Rattle.statement_meaning.specs.Asking.{asks}
use Rattle.statement_meaning.specs.Ready.{IsReady}
use Rattle.statement_meaning.specs.Turns.{Turn, Accepted, Refused, Broken, answer_stored, answer_text, counting, create_table_as, on_good, remembered, store_answer, with_answer}
use Rattle.perm_engine.proofs.meaning.Besides.{answers-beside, beside-rows}
use Rattle.perm_engine.proofs.meaning.Queries.{answers-rows, rows-are}
use Rattle.perm_engine.proofs.meaning.HeadlineSteps.{IsDone}
use Rattle.perm_engine.proofs.meaning.Twins.{limits-of, no-breaks}
use Rattle.perm_engine.specs.meaning.headline.Answers.{StoresAnswer}
use Rattle.perm_engine.specs.meaning.headline.Words.{asking}

-- ---- what it stores

record Stores (c after : Contents) (name : List ℕ) (columns : List Column) (answer : Answer) (places : Option (List ℕ)) (text : List ℕ) : Type 0 where
  bag : Bag
  means : meaning answer.query (rows_in c.rows) [] ≡ Good bag
  left : after ≡ with_table c name columns (sorted (printed_cmp answer.keys) bag) (remembered c answer places)
  counts : text ≡ counting (codes "CREATE TABLE AS ") (length (sorted (printed_cmp answer.keys) bag))

module _ (c after : Contents) (at : ℕ) (name : List ℕ) (columns : List Column) (answer : Answer) (places : Option (List ℕ)) (text : List ℕ) where
  stores-drawn : (bag : Bag) → meaning answer.query (rows_in c.rows) [] ≡ Good bag → (spent : Bool)
      → cond spent (Refused (Broken (broken rule.NumbersSpent at))) (answer_stored c name columns answer places (sorted (printed_cmp answer.keys) bag)) ≡ Accepted text after
      → Stores c after name columns answer places text
  stores-drawn bag means true e = absurd (cc e)
  stores-drawn bag means false e = record {
    bag = bag;
    means = means;
    left = let same : after ≡ with_answer c name columns answer places (sorted (printed_cmp answer.keys) bag) = cc in same;
    counts = let same : text ≡ counting (codes "CREATE TABLE AS ") (length (sorted (printed_cmp answer.keys) bag)) = cc in same;
  }

  stores-of : (o : Outcome Bag) → meaning answer.query (rows_in c.rows) [] ≡ o
      → on_good at o (λ (rows : Bag). store_answer c at name columns answer places (sorted (printed_cmp answer.keys) rows)) ≡ Accepted text after
      → Stores c after name columns answer places text
  stores-of (Good bag) means e = stores-drawn bag means (nat_eq c.next last_number) e
  stores-of (Bad faults) means e = absurd (cc e)

-- ---- the same query as a statement of its own

module _ (c : Contents) (statement : Statement) (table : Name) (tree : QueryTree) (is : statement.body ≡ st.CreateTableAs table tree) (whole : breaks c statement ≡ []) where
  query-breaks : (query_meant c tree).breaks ≡ []
  query-breaks = query-whole c tree (named-whole c table tree (subst (λ (b : StatementBody). name_breaks c b ≡ []) is (names-whole c statement whole)))

  limits : query_limits tree.at (query_meant c tree) ≡ []
  limits = back-none (table_limit table (length (columns_of (query_meant c tree)))) (query_limits tree.at (query_meant c tree))
      (subst (λ (b : StatementBody). limit_breaks c b ≡ []) is (limits-of c statement whole))

  asks-alone : AsksFor c (asking statement tree) (answer_of (query_meant c tree))
  asks-alone = record { whole = no-breaks c (st.Select tree) query-breaks limits; is = refl }

-- its places are told where the word stands there
some-places : (c : Contents) (tree : QueryTree) (at : ℕ) → HasWord at tree.body → (places : List ℕ) × ((query_meant c tree).places ≡ Some places)
some-places c tree at word = (
  provenance_places (count_columns (body_meant c tree.body).columns) (whole_query tree (body_meant c tree.body)),
  ap (λ (q : QueryMeant). q.places) (with_provenance-seen c tree at word),
)

-- ---- a table that stores provenance

-- what CREATE TABLE AS with places leaves, where it can be carried out and adds what is sound
abbrev pub Freshens : Type 0
Freshens = (c : Contents) (at : ℕ) (name : List ℕ) (columns : List Column) (answer : Answer) (places : List ℕ)
    → IsSound c → IsReady c (r.CreateTableAs name columns answer (Some places)) → AddsSoundly c (r.CreateTableAs name columns answer (Some places))
    → Leaves (StoresFresh name answer.query) (asks c at (r.CreateTableAs name columns answer (Some places)))

module _ (freshens : Freshens) (Can : List ℕ → Found → Type 0) (c after : Contents) (statement : Statement) (table : Name) (tree : QueryTree) (text : List ℕ)
    (sound : IsSound c) (regular : RegularStatement statement) (is : statement.body ≡ st.CreateTableAs table tree) (done : IsDone Can c after statement text) where
  abbrev m : QueryMeant
  m = query_meant c tree

  abbrev answer : Answer
  answer = answer_of m

  abbrev columns : List Column
  columns = stored_columns (columns_of m)

  made-is : resolved c statement ≡ r.CreateTableAs table.text columns answer m.places
  made-is = ap (resolved_body c) is

  taken : create_table_as c statement.at table.text columns answer m.places ≡ Accepted text after
  taken = subst (λ (made : Resolved). TakesTurn Can (asks c statement.at made) c after (Ok text)) made-is done.turn

  stores : Stores c after table.text columns answer m.places text
  stores = stores-of c after statement.at table.text columns answer m.places text (meaning answer.query (rows_in c.rows) []) refl taken

  asked_for : AsksFor c (asking statement tree) answer
  asked_for = asks-alone c statement table tree is done.whole

  regular-alone : RegularStatement (asking statement tree)
  regular-alone = subst RegularStatementBody is regular

  fresh-at : (at : ℕ) → HasWord at tree.body → StoresFresh table.text answer.query after
  fresh-at at word =
      let some = some-places c tree at word in
      let is_made : resolved c statement ≡ r.CreateTableAs table.text columns answer (Some some.0) =
      made-is ∙ ap (λ (places : Option (List ℕ)). r.CreateTableAs table.text columns answer places) some.1 in
      subst (λ (turn : Turn). TurnLeaves (StoresFresh table.text answer.query) turn)
      (sym (ap (λ (places : Option (List ℕ)). create_table_as c statement.at table.text columns answer places) some.1) ∙ taken)
      (freshens c statement.at table.text columns answer some.0 sound
      (subst (IsReady c) is_made (whole-ready c statement sound regular done.whole))
      (subst (AddsSoundly c) is_made (whole-adds c statement sound regular done.whole)))

  pub stores-answer : StoresAnswer c after statement table tree text
  stores-answer = record {
    answer = answer;
    asks = asked_for;
    rows = sorted (printed_cmp answer.keys) stores.bag;
    left = stores.left;
    counts = stores.counts;
    plain = λ lacks. (
      answer_text answer stores.bag,
      answers-rows c (asking statement tree) answer tree (answer_text answer stores.bag) stores.bag sound regular-alone asked_for refl lacks stores.means refl,
      sym (rows-are c (asking statement tree) answer tree (answer_text answer stores.bag) stores.bag sound regular-alone asked_for refl lacks stores.means refl),
    );
    beside = λ at word. (
      answer_text answer stores.bag,
      answers-beside c (asking statement tree) answer tree at (answer_text answer stores.bag) stores.bag sound regular-alone asked_for refl word stores.means refl,
      sym (beside-rows c (asking statement tree) answer tree at (answer_text answer stores.bag) stores.bag sound regular-alone asked_for refl word stores.means refl),
    );
    fresh = fresh-at;
  }
