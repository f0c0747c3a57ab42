-- A statement that is accepted and makes a table or a view, drops one, or changes the rows of a table.
use Rattle.std.proofs.Common.{◌+◌, ◌≡◌, ◌∙◌, ℕ, Bool, true, false, cond, List, [], ◌∷◌, ◌++◌, length, filter, codes, nat_eq, Option, None, Ok, refl, sym, ap, subst, arith}
use Rattle.std.proofs.lemmas.List.Sums.{sum_by-cons}
use Rattle.std.specs.List.{count_by}
use Rattle.perm_values.specs.Numbers.{last_number}
use Rattle.perm_values.specs.declared.kind.Kind.{Kind}
use Rattle.perm_values.proofs.Lists.{back-none}
use Rattle.bag_algebra.proofs.BagLaws.{member_decides}
use Rattle.bag_algebra.proofs.Members.{member-in}
use Rattle.bag_algebra.proofs.Outcomes.{both-is, same_good}
use Rattle.bag_algebra.specs.Bags.{Row, Bag}
use Rattle.bag_algebra.specs.Outcome.{Outcome, Good, Bad, each}
use Rattle.bag_algebra.specs.declared.expr.Expr.{Expr}
use Rattle.csv_tables.specs.Loading.{broken_rules, spelled_rows}
use Rattle.csv_tables.specs.declared.data_error.DataError.{DataError}
use Rattle.delete_impact.specs.vanishing.Doomed.{doomed_on}
use Rattle.name_meaning.specs.Meanings.{QueryMeant, broken}
use Rattle.name_meaning.specs.Statements.{answer_of, breaks, defined_columns, delete_made, kinds_of_table, limit_breaks, name_breaks, named_query_breaks, query_meant, resolved, resolved_body, rows_made, taken, view_entry}
use Rattle.name_meaning.specs.declared.answer.Resolved.{Resolved}
use Rattle.name_meaning.specs.declared.answer.Resolved.TheVariants as r
use Rattle.name_meaning.specs.declared.rule.Rule.TheVariants as rule
use Rattle.perm_catalog.specs.Changes.{rows_at, table_named, with_fewer_rows, with_table, with_view, without_table, without_view}
use Rattle.perm_catalog.specs.Contents.{Contents}
use Rattle.perm_catalog.specs.Sound.{IsSound}
use Rattle.perm_catalog.specs.declared.entries.ViewEntry.{ViewEntry}
use Rattle.perm_io.specs.Found.{Found, Read, Missing, TooLong, Failed}
use Rattle.sql_tree.specs.Regular.{RegularStatement}
use Rattle.sql_tree.specs.declared.expression.ExprTree.{ExprTree}
use Rattle.sql_tree.specs.declared.name.Name.{Name}
use Rattle.sql_tree.specs.declared.query.QueryTree.{QueryTree}
use Rattle.sql_tree.specs.declared.statement.ColumnDef.{ColumnDef}
use Rattle.sql_tree.specs.declared.statement.Statement.{Statement}
use Rattle.sql_tree.specs.declared.statement.StatementBody.{StatementBody}
use Rattle.sql_tree.specs.declared.statement.StatementBody.TheVariants as st
use Rattle.sql_tree.specs.declared.statement.ValuesRow.{ValuesRow}
use Rattle.statement_meaning.proofs.Impacts.{each-good}
use Rattle.statement_meaning.proofs.Left.{left-rows}
use Rattle.statement_meaning.proofs.Ready.{names-whole, query-whole, whole-ready}
use Rattle.statement_meaning.proofs.Sounder.{known}
use Rattle.statement_meaning.specs.laws.Asks.{AsksFor}
use Rattle.statement_meaning.specs.laws.Kept.{is_certain}
use Rattle.statement_meaning.specs.Answers.{TakesTurn}
use Rattle.statement_meaning.specs.Asking.{asks}
use Rattle.statement_meaning.specs.Ready.{IsReady}
use Rattle.statement_meaning.specs.Turns.{Turn, Accepted, Refused, Broken, add_rows, add_unbroken, copy, counting, drawing, identity_of, on_good, row_value, rows_deleted, with_added}
use Rattle.perm_engine.proofs.meaning.HeadlineSteps.{IsDone}
use Rattle.perm_engine.proofs.meaning.Replacing.{has-added, has-left, new-columns, new-nothing, new-others, new-rows, rows-named, table-gone, table-others, view-gone, view-there, views-beside, views-left}
use Rattle.perm_engine.proofs.meaning.Twins.{limits-of, no-breaks}
use Rattle.perm_engine.specs.meaning.headline.Changes.{CopiesRows, CreatesTable, CreatesView, DeletesRows, DropsTable, DropsView, HasRowsThen, InsertsRows, rows_of}
use Rattle.perm_engine.specs.meaning.headline.Words.{asking}

-- ---- what is accepted

-- the text and the contents of a turn that is accepted
pub record Said (said text : List ℕ) (left after : Contents) : Type 0 where
  pub says : text ≡ said
  pub is : after ≡ left

pub accepted : (said text : List ℕ) (left after : Contents) → Accepted said left ≡ Accepted text after → Said said text left after
accepted said text left after e = record {
  says = sym (let same : said ≡ text = cc in same);
  is = sym (let same : left ≡ after = cc in same);
}

-- behind the draw of a number
drawn : (c : Contents) (at : ℕ) (said text : List ℕ) (left after : Contents) → drawing c at (Accepted said left) ≡ Accepted text after → Said said text left after
drawn c at said text left after = by (nat_eq c.next last_number) where
  by : (spent : Bool) → cond spent (Refused (Broken (broken rule.NumbersSpent at))) (Accepted said left) ≡ Accepted text after → Said said text left after
  by true e = absurd (cc e)
  by false e = accepted said text left after e

-- behind a value
good : {X : Type 0} (at : ℕ) (o : Outcome X) (next : X → Turn) (text : List ℕ) (after : Contents) → on_good at o next ≡ Accepted text after
    → (x : X) × (o ≡ Good x) × (next x ≡ Accepted text after)
good at (Good x) next text after e = (x, refl, e)
good at (Bad faults) next text after e = absurd (cc e)

-- ---- how many rows go

one_gone : (f : Row → Outcome Bool) (row : Row) (rows : Bag) (flag : Bool) (flags : List Bool) → f row ≡ Good flag
    → count_by (λ (b : Bool). b) flags ≡ length (filter (λ (r : Row). is_certain (f r)) rows)
    → count_by (λ (b : Bool). b) (flag ∷ flags) ≡ length (filter (λ (r : Row). is_certain (f r)) (row ∷ rows))
one_gone f row rows true flags is others =
    rw is (sum_by-cons (λ (b : Bool). cond b 1 0) true flags ∙ ap (λ (n : ℕ). 1 + n) others ∙ omega arith)
one_gone f row rows false flags is others =
    rw is (sum_by-cons (λ (b : Bool). cond b 1 0) false flags ∙ ap (λ (n : ℕ). 0 + n) others ∙ omega arith)

gone : (f : Row → Outcome Bool) (rows : Bag) (flags : List Bool) → each f rows ≡ Good flags
    → count_by (λ (b : Bool). b) flags ≡ length (filter (λ (r : Row). is_certain (f r)) rows)
gone f [] flags e =
    let none : [] ≡ flags = same_good [] flags e in
    subst (λ (fs : List Bool). count_by (λ (b : Bool). b) fs ≡ 0) none refl
gone f (row ∷ rows) flags e =
    let parts = both-is (λ y ys. y ∷ ys) (f row) (each f rows) flags e in
    subst (λ (fs : List Bool). count_by (λ (b : Bool). b) fs ≡ length (filter (λ (r : Row). is_certain (f r)) (row ∷ rows))) parts.4
    (one_gone f row rows parts.0 parts.1 parts.2 (gone f rows parts.1 parts.3))

module _ (Can : List ℕ → Found → Type 0) (c after : Contents) (statement : Statement) (text : List ℕ) (sound : IsSound c) (regular : RegularStatement statement)
    (done : IsDone Can c after statement text) where
  turn : (made : Resolved) → resolved c statement ≡ made → TakesTurn Can (asks c statement.at made) c after (Ok text)
  turn made is = subst (λ (m : Resolved). TakesTurn Can (asks c statement.at m) c after (Ok text)) is done.turn

  ready : (made : Resolved) → resolved c statement ≡ made → IsReady c made
  ready made is = subst (IsReady c) is (whole-ready c statement sound regular done.whole)

  -- ---- CREATE and DROP

  pub creates-table : (table : Name) (columns : List ColumnDef) → statement.body ≡ st.CreateTable table columns → CreatesTable c after table columns text
  creates-table table columns is =
      let made : Resolved = r.CreateTable table.text (defined_columns columns) in
      let named : resolved c statement ≡ made = ap (resolved_body c) is in
      let free = ready made named in
      let left = drawn c statement.at (codes "CREATE TABLE\n") text (with_table c table.text (defined_columns columns) [] None) after (turn made named) in
      subst (λ (d : Contents). CreatesTable c d table columns text) (sym left.is) (record {
        free = free;
        columns_are = new-columns c sound table.text (defined_columns columns) free;
        rows = new-rows c sound table.text (defined_columns columns) free;
        nothing = new-nothing c sound table.text (defined_columns columns) free;
        others = new-others c sound table.text (defined_columns columns) free;
        views = refl;
        says = left.says;
      })

  pub drops-table : (table : Name) → statement.body ≡ st.DropTable table → DropsTable c after table text
  drops-table table is =
      let made : Resolved = r.DropTable table.text in
      let named : resolved c statement ≡ made = ap (resolved_body c) is in
      let can = ready made named in
      let there = known (table_named c table.text) can.0 in
      let left = accepted (codes "DROP TABLE\n") text (without_table c table.text (identity_of c table.text)) after (turn made named) in
      subst (λ (d : Contents). DropsTable c d table text) (sym left.is) (record {
        known = can.0;
        unused = can.1;
        gone = table-gone c sound table.text there.0 there.1;
        others = table-others c sound table.text there.0 there.1;
        views = refl;
        says = left.says;
      })

  pub drops-view : (view : Name) → statement.body ≡ st.DropView view → DropsView c after view text
  drops-view view is =
      let made : Resolved = r.DropView view.text in
      let named : resolved c statement ≡ made = ap (resolved_body c) is in
      let can = ready made named in
      let left = accepted (codes "DROP VIEW\n") text (without_view c view.text) after (turn made named) in
      subst (λ (d : Contents). DropsView c d view text) (sym left.is) (record {
        known = can.0;
        unused = can.1;
        gone = view-gone c sound view.text;
        others = views-left c sound view.text;
        tables = refl;
        rows = refl;
        says = left.says;
      })

  -- the query of a view breaks no rule as a statement of its own
  asks-alone : (view : Name) (tree : QueryTree) → statement.body ≡ st.CreateView view tree → AsksFor c (asking statement tree) (answer_of (query_meant c tree))
  asks-alone view tree is =
      let m : QueryMeant = query_meant c tree in
      let names = subst (λ (b : StatementBody). name_breaks c b ≡ []) is (names-whole c statement done.whole) in
      let own = query-whole c tree (back-none (taken c view) (named_query_breaks tree.at m) names) in
      let limits = subst (λ (b : StatementBody). limit_breaks c b ≡ []) is (limits-of c statement done.whole) in
      record { whole = no-breaks c (st.Select tree) own limits; is = refl }

  pub creates-view : (view : Name) (tree : QueryTree) → statement.body ≡ st.CreateView view tree → CreatesView c after statement view tree text
  creates-view view tree is =
      let entry : ViewEntry = view_entry (query_meant c tree) in
      let made : Resolved = r.CreateView view.text entry in
      let named : resolved c statement ≡ made = ap (resolved_body c) is in
      let free = ready made named in
      let left = accepted (codes "CREATE VIEW\n") text (with_view c view.text entry) after (turn made named) in
      subst (λ (d : Contents). CreatesView c d statement view tree text) (sym left.is) (record {
        free = free;
        entry = entry;
        made = view-there c sound view.text entry free;
        of_query = refl;
        asks = asks-alone view tree is;
        others = views-beside c sound view.text entry free;
        tables = refl;
        rows = refl;
        says = left.says;
      })

  -- ---- INSERT and COPY

  pub inserts-rows : (table : Name) (values : List ValuesRow) → statement.body ≡ st.Insert table values → InsertsRows c after table values text
  inserts-rows table values is =
      let rows : List (List Expr) = rows_made c (kinds_of_table c table) values in
      let made : Resolved = r.Insert table.text rows in
      let named : resolved c statement ≡ made = ap (resolved_body c) is in
      let there = known (table_named c table.text) (ready made named) in
      let found = good statement.at (each row_value rows) (add_rows (codes "INSERT ") c statement.at table.text) text after (turn made named) in
      let left = drawn c statement.at (counting (codes "INSERT ") (length found.0)) text (with_added c table.text found.0) after found.2 in
      record {
        added = found.0;
        values_are = found.1;
        holds = subst (HasRowsThen table.text (rows_of c table.text ++ found.0) c) (sym left.is) (has-added c sound table.text there.0 there.1 found.0);
        says = left.says;
      }

  module _ (table : Name) (file : List ℕ) (header : Bool) (null_field : List ℕ) (is : statement.body ≡ st.Copy table file header null_field) where
    abbrev kinds : List Kind
    kinds = kinds_of_table c table

    abbrev loading : Resolved
    loading = r.Copy table.text kinds file null_field header

    loads : resolved c statement ≡ loading
    loads = ap (resolved_body c) is

    copied : (bytes : List ℕ) → Can file (Read bytes) → (broken : List DataError) → broken_rules null_field kinds header bytes ≡ broken
        → add_unbroken c statement.at table.text broken (spelled_rows null_field kinds header bytes) ≡ Accepted text after
        → CopiesRows Can c after table file header null_field text
    copied bytes can [] none e =
        let there = known (table_named c table.text) (ready loading loads) in
        let rows : Bag = spelled_rows null_field kinds header bytes in
        let left = drawn c statement.at (counting (codes "COPY ") (length rows)) text (with_added c table.text rows) after e in
        record {
          bytes = bytes;
          read = can;
          unbroken = none;
          added = rows;
          spelled = refl;
          holds = subst (HasRowsThen table.text (rows_of c table.text ++ rows) c) (sym left.is) (has-added c sound table.text there.0 there.1 rows);
          says = left.says;
        }
    copied bytes can (first ∷ more) some e = absurd (cc e)

    by-file : (found : Found) → Can file found → copy c statement.at table.text kinds null_field header found ≡ Accepted text after
        → CopiesRows Can c after table file header null_field text
    by-file (Read bytes) can e = copied bytes can (broken_rules null_field kinds header bytes) refl e
    by-file Missing can e = absurd (cc e)
    by-file TooLong can e = absurd (cc e)
    by-file Failed can e = absurd (cc e)

    pub copies-rows : CopiesRows Can c after table file header null_field text
    copies-rows = let taken = turn loading loads in by-file taken.0 taken.1 taken.2

  -- ---- DELETE

  pub deletes-rows : (table : Name) (condition : Option ExprTree) → statement.body ≡ st.Delete table condition → DeletesRows c after table condition text
  deletes-rows table condition is =
      let given : Option Expr = delete_made c table condition in
      let made : Resolved = r.Delete table.text given in
      let named : resolved c statement ≡ made = ap (resolved_body c) is in
      let there = known (table_named c table.text) (ready made named) in
      let rows : Bag = rows_of c table.text in
      let found = good statement.at (each (doomed_on given) (rows_at c (identity_of c table.text))) (λ doomed. drawing c statement.at (rows_deleted c table.text doomed)) text after (turn made named) in
      let flags : each (doomed_on given) rows ≡ Good found.0 = ap (each (doomed_on given)) (sym (rows-named c table.text there.0 there.1)) ∙ found.1 in
      let left = drawn c statement.at (counting (codes "DELETE ") (count_by (λ flag. flag) found.0)) text (with_fewer_rows c table.text (identity_of c table.text) found.0) after found.2 in
      record {
        given = given;
        resolved = refl;
        met = λ row held. each-good (doomed_on given) rows found.0 flags row (member-in row rows ((member_decides row rows).1 held));
        holds = subst (λ (p : Bag × Contents). HasRowsThen table.text p.0 c p.1) (λ i. (left-rows given rows found.0 flags i, sym left.is i))
            (has-left c sound table.text there.0 there.1 found.0);
        says = left.says ∙ ap (counting (codes "DELETE ")) (gone (doomed_on given) rows found.0 flags);
      }
