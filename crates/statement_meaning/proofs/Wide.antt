-- A query's rows are as wide as its header.
use Rattle.std.proofs.Common.{◌≡◌, ◌∙◌, [], length, sym, ap, subst}
use Rattle.std.specs.Option.{option_map_or}
use Rattle.bag_algebra.proofs.MembersByIndex.{contains-from_in}
use Rattle.bag_algebra.specs.Bags.{Row, Bag}
use Rattle.bag_algebra.specs.Kinds.{width_of}
use Rattle.bag_algebra.specs.Meaning.{Database, meaning}
use Rattle.bag_algebra.specs.Outcome.{Good}
use Rattle.bag_algebra.specs.TableRows.{rows_in}
use Rattle.bag_algebra.specs.declared.query.Answer.{Answer}
use Rattle.contribution.proofs.QueryKinds.{rows_have-width}
use Rattle.contribution.specs.Fitting.{Fitting}
use Rattle.perm_catalog.specs.Contents.{Contents}
use Rattle.perm_catalog.specs.Sound.{IsSound}
use Rattle.query_laws.proofs.Outcomes.{in_bag-in}
use Rattle.query_laws.specs.Holding.{InBag}
use Rattle.sql_tree.specs.Regular.{RegularStatement, RegularStatementBody, RegularQuery}
use Rattle.sql_tree.specs.declared.query.QueryTree.{QueryTree}
use Rattle.sql_tree.specs.declared.statement.Statement.{Statement}
use Rattle.sql_tree.specs.declared.statement.StatementBody.{StatementBody}
use Rattle.name_meaning.specs.Froms.{names_of, settled_columns}
use Rattle.name_meaning.specs.Meanings.{Around, query_means_at}
use Rattle.name_meaning.specs.Statements.{alone, answer_of, name_breaks}
use Rattle.name_meaning.specs.Trees.{query_of}
use Rattle.name_meaning.proofs.SettledKinds.{settled-names}
use Rattle.name_meaning.proofs.TreeLaws.{query-answer}
use Rattle.statement_meaning.proofs.Ready.{names-whole}
use Rattle.statement_meaning.proofs.Answered.{query-of}
use Rattle.statement_meaning.proofs.Provenance.{fitting-query}
use Rattle.statement_meaning.specs.laws.Asks.{AsksFor}

pub tree-named : (c : Contents) (tree : QueryTree) (around : Around) → IsSound c → RegularQuery tree → (query_means_at (query_of c tree) around).breaks ≡ []
    → length (answer_of (query_means_at (query_of c tree) around)).names ≡ width_of (answer_of (query_means_at (query_of c tree) around)).query
tree-named c tree around sound regular whole =
    let named = query-answer c tree around sound regular whole in
    ap (λ columns. length (names_of (option_map_or settled_columns columns []))) named.known ∙ settled-names named.columns ∙ named.named []

header-wide : (c : Contents) (statement : Statement) (answer : Answer) → IsSound c → RegularStatement statement → AsksFor c statement answer
    → length answer.names ≡ width_of answer.query
header-wide c statement answer sound regular asked_for =
    let query = query-of c statement.body answer asked_for.is in
    subst (λ (a : Answer). length a.names ≡ width_of a.query) query.2
    (tree-named c query.0 alone sound (subst RegularStatementBody query.1 regular)
    (subst (λ (body : StatementBody). name_breaks c body ≡ []) query.1 (names-whole c statement asked_for.whole)))

-- rows of a query that fits are as wide as its header where its columns are as many
pub rows-wide : (answer : Answer) (db : Database) (bag : Bag) (t : Row) → Fitting [] answer.query db [] → length answer.names ≡ width_of answer.query
    → meaning answer.query db [] ≡ Good bag → InBag t bag → length t ≡ length answer.names
rows-wide answer db bag t fitting wide good there =
    let all = rows_have-width [] answer.query db [] bag fitting good in
    let at = contains-from_in t bag (in_bag-in t bag there) in
    subst (λ (row : Row). length row ≡ width_of answer.query) at.2 (all at.0 t at.1) ∙ sym wide

pub as-wide : (c : Contents) (statement : Statement) (answer : Answer) (bag : Bag) (t : Row)
    → IsSound c → RegularStatement statement → AsksFor c statement answer
    → meaning answer.query (rows_in c.rows) [] ≡ Good bag → InBag t bag → length t ≡ length answer.names
as-wide c statement answer bag t sound regular asked_for good there =
    rows-wide answer (rows_in c.rows) bag t (fitting-query c statement answer sound regular asked_for) (header-wide c statement answer sound regular asked_for) good there
