-- What becomes of a query that is resolved to a PROVENANCE.
use Rattle.std.proofs.Common.{◌≡◌, ◌∙◌, ◌↔◌, ◌<◌, ◌≤◌, ℕ, List, [], IsTrue, take, refl, sym, ap, subst}
use Rattle.perm_values.specs.Rows.{printed_cmp}
use Rattle.bag_algebra.proofs.BagLaws.{member_decides, same_bag-refl}
use Rattle.bag_algebra.proofs.SortedBags.{same_bag-sorted}
use Rattle.bag_algebra.specs.Bags.{Row, Bag, SameBag, member, sorted}
use Rattle.bag_algebra.specs.built.Openings.{Prov-is}
use Rattle.bag_algebra.specs.Fits.{TablesFit}
use Rattle.bag_algebra.specs.Kinds.{width_of}
use Rattle.bag_algebra.specs.Meaning.{Database, meaning}
use Rattle.bag_algebra.specs.Outcome.{Good, Bad, Faults}
use Rattle.bag_algebra.specs.built.Patterns.{ProvOf}
use Rattle.bag_algebra.specs.TableRows.{rows_in}
use Rattle.bag_algebra.specs.WellFormed.{WellFormed}
use Rattle.bag_algebra.specs.declared.query.Answer.{Answer}
use Rattle.bag_algebra.specs.declared.query.Query.{Query}
use Rattle.bag_algebra.specs.declared.query.Query.TheVariants.{Prov}
use Rattle.contribution.proofs.FirstColumns.{first_columns}
use Rattle.contribution.specs.Fitting.{Fitting}
use Rattle.perm_catalog.specs.Contents.{Contents}
use Rattle.perm_catalog.specs.Sound.{IsSound}
use Rattle.query_laws.proofs.Limited.{ordered_once}
use Rattle.query_laws.proofs.Once.{holds_once-same}
use Rattle.query_laws.specs.Holding.{InBag, HoldsOnce}
use Rattle.sql_tree.specs.Regular.{RegularStatement}
use Rattle.sql_tree.specs.declared.statement.Statement.{Statement}
use Rattle.statement_meaning.proofs.Ready.{whole-ready}
use Rattle.statement_meaning.specs.Asking.{Settled, asked}
use Rattle.statement_meaning.specs.Ready.{CanRun, IsReady}
use Rattle.statement_meaning.specs.Turns.{Accepted, Refused, Meets, answer_text}
use Rattle.statement_meaning.proofs.Answered.{asked-good, asked-bad, listed-text, same_text}
use Rattle.statement_meaning.proofs.Nested.{found_beside, found-beside, meaning-good, nested-bad}
use Rattle.statement_meaning.specs.laws.Asks.{AsksFor}
use Rattle.statement_meaning.specs.laws.Beside.{IsBeside}
use Rattle.statement_meaning.specs.laws.Printed.{ListsBeside}

-- what a bag holds once, the same bag does
pub same_bag-holds : (P : Row → Type 0) (us vs : Bag) → SameBag us vs → HoldsOnce P us → HoldsOnce P vs
same_bag-holds P us vs s h = record {
  once = λ t. subst (λ (n : ℕ). n ≤ 1) (s.counts t) (h.once t);
  rows = λ t. subst (λ (n : ℕ). 0 < n ↔ P t) (s.counts t) (h.rows t);
}

pub lists-beside : (answer : Answer) (q : Query) (db : Database) (bag : Bag) → ListsBeside answer q db bag (answer_text answer (found_beside q db [] bag))
lists-beside answer q db bag =
    let found = found_beside q db [] bag in record {
      rows = sorted (printed_cmp answer.keys) found;
      listed = listed-text answer found;
      beside = same_bag-holds (IsBeside q db [] bag) found (sorted (printed_cmp answer.keys) found)
          (same_bag-sorted (printed_cmp answer.keys) found) (found-beside q db [] bag);
    }

pub good-provenance : (c : Contents) (statement : Statement) (answer : Answer) (q : Query) (bag : Bag) → AsksFor c statement answer
    → answer.query ≡ Prov q → meaning q (rows_in c.rows) [] ≡ Good bag
    → (text : List ℕ) × ListsBeside answer q (rows_in c.rows) bag text × (asked c statement ≡ Settled (Accepted text c))
good-provenance c statement answer q bag asked_for is good =
    let db = rows_in c.rows in
    let found = found_beside q db [] bag in (
      answer_text answer found,
      lists-beside answer q db bag,
      asked-good c statement answer asked_for found (ap (λ (p : Query). meaning p db []) is ∙ meaning-good q db [] bag good),
    )

pub bad-provenance : (c : Contents) (statement : Statement) (answer : Answer) (q : Query) (faults : Faults) → AsksFor c statement answer
    → answer.query ≡ Prov q → meaning q (rows_in c.rows) [] ≡ Bad faults → asked c statement ≡ Settled (Refused (Meets faults statement.at))
bad-provenance c statement answer q faults asked_for is bad =
    let db = rows_in c.rows in
    asked-bad c statement answer asked_for faults (ap (λ (p : Query). meaning p db []) is ∙ (nested-bad q db [] faults).1 bad)

pub one_provenance_text : (answer : Answer) (q : Query) (db : Database) (bag : Bag) (text other : List ℕ) → ListsBeside answer q db bag text
    → ListsBeside answer q db bag other → text ≡ other
one_provenance_text answer q db bag text other a b =
    same_text answer a.rows b.rows text other a.listed b.listed
    (ordered_once answer.keys a.rows a.rows b.rows (same_bag-refl a.rows) (holds_once-same (IsBeside q db [] bag) a.rows b.rows a.beside b.beside)
    a.listed.ordered b.listed.ordered)

-- ---- no row is lost

can_run : (c : Contents) (statement : Statement) (answer : Answer) → IsSound c → RegularStatement statement → AsksFor c statement answer → CanRun c answer
can_run c statement answer sound regular asked_for = subst (IsReady c) asked_for.is (whole-ready c statement sound regular asked_for.whole)

pub fitting-query : (c : Contents) (statement : Statement) (answer : Answer) → IsSound c → RegularStatement statement → AsksFor c statement answer
    → Fitting [] answer.query (rows_in c.rows) []
fitting-query c statement answer sound regular asked_for =
    let ready = can_run c statement answer sound regular asked_for in
    record { formed = ready.formed; tables = ready.fitting; outer_rows = refl }

-- what fits a PROVENANCE fits its query
fitting-below : (answer : Answer) (q : Query) (db : Database) → answer.query ≡ Prov q → Fitting [] answer.query db [] → Fitting [] q db []
fitting-below answer q db is f =
    let below : answer.query ≡ ProvOf q = is ∙ Prov-is q in
    record {
      formed = subst (WellFormed []) below f.formed;
      tables = subst (TablesFit db) below f.tables;
      outer_rows = refl;
    }

counted : (us vs : Bag) (x : Row) → SameBag us vs → IsTrue (member x us) ↔ InBag x vs
counted us vs x s = subst (λ (n : ℕ). IsTrue (member x us) ↔ (0 < n)) (s.counts x) (member_decides x us)

pub fronts : (c : Contents) (statement : Statement) (answer : Answer) (q : Query) (bag : Bag) (text : List ℕ)
    → IsSound c → RegularStatement statement → AsksFor c statement answer → answer.query ≡ Prov q
    → meaning q (rows_in c.rows) [] ≡ Good bag → (given : ListsBeside answer q (rows_in c.rows) bag text)
    → (t : Row) → InBag t bag ↔ ((x : Row) × InBag x given.rows × (take (width_of q) x ≡ t))
fronts c statement answer q bag text sound regular asked_for is good given t =
    let db = rows_in c.rows in
    let found = found_beside q db [] bag in
    let fitting = fitting-below answer q db is (fitting-query c statement answer sound regular asked_for) in
    let same : SameBag found given.rows = holds_once-same (IsBeside q db [] bag) found given.rows (found-beside q db [] bag) given.beside in
    let traced : meaning (ProvOf q) db [] ≡ Good found = ap (λ (p : Query). meaning p db []) (sym (Prov-is q)) ∙ meaning-good q db [] bag good in
    let columns = first_columns [] q db [] bag found fitting good traced t in (
      λ h. let front = columns.0 ((member_decides t bag).1 h) in (front.0, (counted found given.rows front.0 same).0 front.1, front.2),
      λ front. (member_decides t bag).0 (columns.1 (front.0, (counted found given.rows front.0 same).1 front.1, front.2)),
    )
