-- What holds of the query in what a regular statement resolves to: it can run on the catalog that it was looked up in.
use Rattle.std.specs.Prelude.{◌≡◌, ⊤, true, List, [], length, map, Option, Some, None, IfSome}
use Rattle.perm_values.specs.Rows.{KeysWithin}
use Rattle.perm_values.specs.declared.kind.Kind.{Kind}
use Rattle.bag_algebra.specs.Closed.{is_closed}
use Rattle.bag_algebra.specs.Kinds.{kinds_of, width_of}
use Rattle.bag_algebra.specs.TablesRead.{EachTable}
use Rattle.bag_algebra.specs.WellFormed.{WellFormed}
use Rattle.bag_algebra.specs.declared.query.Answer.{Answer}
use Rattle.perm_catalog.specs.Contents.{Contents}
use Rattle.sql_tree.specs.declared.statement.StatementBody.{StatementBody}
use Rattle.sql_tree.specs.declared.statement.StatementBody.TheVariants as st
use Rattle.name_meaning.specs.laws.Impacts.{ImpactStands}
use Rattle.perm_catalog.specs.Held.{IsHeldTable}
use Rattle.name_meaning.specs.Meanings.{QueryMeant}
use Rattle.name_meaning.specs.Scopes.{KnownColumn}
use Rattle.name_meaning.specs.Statements.{columns_of, impact_query, query_meant}
use Rattle.name_meaning.specs.declared.answer.Resolved.{Resolved}
use Rattle.name_meaning.specs.declared.answer.Resolved.TheVariants as r

-- well formed under no outer rows, and closed; columns of these kinds, a name for each, keys among them; each table
-- is the catalog's, with its kinds
pub record AnswerStands (c : Contents) (kinds : List Kind) (answer : Answer) : Type 0 where
  pub formed : WellFormed [] answer.query
  pub closed : is_closed answer.query ≡ true
  pub kinds_are : kinds_of answer.query ≡ kinds
  pub named : length answer.names ≡ width_of answer.query
  pub keys : KeysWithin (width_of answer.query) answer.keys
  pub tables : EachTable (IsHeldTable c) answer.query

abbrev pub answer_in : Resolved → Option Answer
answer_in (r.CreateTable name columns) = None
answer_in (r.CreateTableAs name columns answer places) = Some answer
answer_in (r.CreateView name entry) = Some entry.answer
answer_in (r.Copy name kinds file null_field header) = None
answer_in (r.Insert name rows) = None
answer_in (r.Delete name condition) = None
answer_in (r.DropTable name) = None
answer_in (r.DropView name) = None
answer_in (r.Select answer) = Some answer
answer_in (r.Explain answer) = Some answer
answer_in (r.ShowFresh name) = None
answer_in (r.Impact name condition answer) = Some answer

-- the kinds of the columns that the query shows
abbrev pub shown_kinds : QueryMeant → List Kind
shown_kinds m = map (λ (column : KnownColumn). column.kind) (columns_of m)

abbrev pub StandsFor : Contents → QueryMeant → Resolved → Type 0
StandsFor c m made = IfSome (answer_in made) (AnswerStands c (shown_kinds m))

-- an IMPACT that it is stands, so that it can be answered
abbrev pub ImpactIn : Contents → Resolved → Type 0
ImpactIn c (r.CreateTable name columns) = ⊤
ImpactIn c (r.CreateTableAs name columns answer places) = ⊤
ImpactIn c (r.CreateView name entry) = ⊤
ImpactIn c (r.Copy name kinds file null_field header) = ⊤
ImpactIn c (r.Insert name rows) = ⊤
ImpactIn c (r.Delete name condition) = ⊤
ImpactIn c (r.DropTable name) = ⊤
ImpactIn c (r.DropView name) = ⊤
ImpactIn c (r.Select answer) = ⊤
ImpactIn c (r.Explain answer) = ⊤
ImpactIn c (r.ShowFresh name) = ⊤
ImpactIn c (r.Impact name condition answer) = ImpactStands c name condition answer.query

-- what a statement resolved to has a query that stands, where the statement has a query
abbrev pub BodyStands : Contents → StatementBody → Resolved → Type 0
BodyStands c (st.CreateTable table columns) made = ⊤
BodyStands c (st.CreateTableAs table query) made = StandsFor c (query_meant c query) made
BodyStands c (st.CreateView view query) made = StandsFor c (query_meant c query) made
BodyStands c (st.Copy table file header null_field) made = ⊤
BodyStands c (st.Insert table rows) made = ⊤
BodyStands c (st.Delete table condition) made = ⊤
BodyStands c (st.DropTable table) made = ⊤
BodyStands c (st.DropView view) made = ⊤
BodyStands c (st.Select query) made = StandsFor c (query_meant c query) made
BodyStands c (st.Explain query) made = StandsFor c (query_meant c query) made
BodyStands c (st.ShowFresh table) made = ⊤
BodyStands c (st.Impact table condition query) made = StandsFor c (impact_query c query) made × ImpactIn c made
