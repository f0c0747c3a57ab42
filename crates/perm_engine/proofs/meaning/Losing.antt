-- An IMPACT that is accepted answers the rows that vanish, and deletes nothing.
use Rattle.std.proofs.Common.{◌≡◌, ◌∙◌, ◌↔◌, ℕ, Bool, true, false, cond, List, [], length, Option, Ok, All, IsTrue, refl, sym, ap, subst}
use Rattle.std.specs.Option.{option_map_or}
use Rattle.bag_algebra.proofs.BagLaws.{member_decides}
use Rattle.bag_algebra.proofs.Members.{member-in}
use Rattle.bag_algebra.proofs.Outcomes.{same_good}
use Rattle.bag_algebra.specs.Bags.{Row, Bag, member}
use Rattle.bag_algebra.specs.Fits.{TablesFit}
use Rattle.bag_algebra.specs.Meaning.{Database, meaning, witnesses}
use Rattle.bag_algebra.specs.Outcome.{Outcome, Good, Bad, each}
use Rattle.bag_algebra.specs.TableRows.{rows_in}
use Rattle.bag_algebra.specs.declared.expr.Expr.{Expr}
use Rattle.bag_algebra.specs.declared.query.Answer.{Answer}
use Rattle.name_meaning.proofs.FittingTables.{tables-fit}
use Rattle.name_meaning.proofs.Impacts.{impact-query_whole, impact-stands}
use Rattle.name_meaning.specs.laws.Impacts.{ImpactStands}
use Rattle.name_meaning.specs.Queries.{may_not_ask}
use Rattle.name_meaning.specs.Statements.{alone, answer_of, delete_made, impact_query, name_breaks, resolved, resolved_body}
use Rattle.name_meaning.specs.declared.answer.Resolved.{Resolved}
use Rattle.name_meaning.specs.declared.answer.Resolved.TheVariants as r
use Rattle.perm_catalog.specs.Contents.{Contents}
use Rattle.perm_catalog.specs.Sound.{IsSound}
use Rattle.perm_catalog.specs.declared.entries.TableEntry.{TableEntry}
use Rattle.perm_io.specs.Found.{Found}
use Rattle.query_laws.specs.Holding.{InBag}
use Rattle.sql_tree.specs.Regular.{RegularStatement, RegularStatementBody}
use Rattle.sql_tree.specs.declared.expression.ExprTree.{ExprTree}
use Rattle.sql_tree.specs.declared.name.Name.{Name}
use Rattle.sql_tree.specs.declared.query.QueryTree.{QueryTree}
use Rattle.sql_tree.specs.declared.statement.Statement.{Statement}
use Rattle.sql_tree.specs.declared.statement.StatementBody.{StatementBody}
use Rattle.sql_tree.specs.declared.statement.StatementBody.TheVariants as st
use Rattle.delete_impact.proofs.VanishingRows.{vanishing-rows}
use Rattle.delete_impact.specs.vanishing.Doomed.{doomed_on, has_doomed, places_over}
use Rattle.statement_meaning.proofs.Impacts.{before-good, each-good, lost-listed, one_lost_text}
use Rattle.statement_meaning.proofs.Ready.{names-whole}
use Rattle.statement_meaning.proofs.Wide.{rows-wide, tree-named}
use Rattle.statement_meaning.specs.laws.Lost.{ListsLost}
use Rattle.statement_meaning.specs.Answers.{TakesTurn}
use Rattle.statement_meaning.specs.Asking.{asks}
use Rattle.statement_meaning.specs.Turns.{Accepted, answer_text, answered, identity_of, impact, on_good, reads, rows_before, rows_going, rows_lost}
use Rattle.perm_engine.proofs.meaning.HeadlineSteps.{IsDone}
use Rattle.perm_engine.specs.meaning.headline.Answers.{AnswersLost}

-- ---- what it answers, and leaves

record Loses (c after : Contents) (name : List ℕ) (condition : Option Expr) (answer : Answer) (text : List ℕ) : Type 0 where
  bag : Bag
  before : rows_before (identity_of c name) condition answer.query (rows_in c.rows) ≡ Good bag
  written : answer_text answer (rows_lost (identity_of c name) condition answer.query (rows_in c.rows) bag) ≡ text
  kept : after ≡ c

loses-of : (c after : Contents) (at : ℕ) (name : List ℕ) (condition : Option Expr) (answer : Answer) (text : List ℕ) (o : Outcome Bag)
    → rows_before (identity_of c name) condition answer.query (rows_in c.rows) ≡ o
    → on_good at o (λ rows. answered c answer (rows_lost (identity_of c name) condition answer.query (rows_in c.rows) rows)) ≡ Accepted text after
    → Loses c after name condition answer text
loses-of c after at name condition answer text (Good bag) before e = record {
  bag = bag;
  before = before;
  written = let same : answer_text answer (rows_lost (identity_of c name) condition answer.query (rows_in c.rows) bag) ≡ text = cc in same;
  kept = let same : after ≡ c = cc in same;
}
loses-of c after at name condition answer text (Bad faults) before e = absurd (cc e)

module _ (Can : List ℕ → Found → Type 0) (c after : Contents) (statement : Statement) (table : Name) (condition : Option ExprTree) (tree : QueryTree) (text : List ℕ)
    (is : statement.body ≡ st.Impact table condition tree) (done : IsDone Can c after statement text) where
  made-is : resolved c statement ≡ r.Impact table.text (delete_made c table condition) (answer_of (impact_query c tree))
  made-is = ap (resolved_body c) is

  taken : impact c statement.at table.text (delete_made c table condition) (answer_of (impact_query c tree)) ≡ Accepted text after
  taken = subst (λ (made : Resolved). TakesTurn Can (asks c statement.at made) c after (Ok text)) made-is done.turn

  loses : Loses c after table.text (delete_made c table condition) (answer_of (impact_query c tree)) text
  loses =
      loses-of c after statement.at table.text (delete_made c table condition) (answer_of (impact_query c tree)) text
      (rows_before (identity_of c table.text) (delete_made c table condition) (answer_of (impact_query c tree)).query (rows_in c.rows)) refl taken

  pub lost-kept : after ≡ c
  lost-kept = loses.kept

-- ---- the query, and the condition

module _ (Can : List ℕ → Found → Type 0) (c after : Contents) (statement : Statement) (table : Name) (condition : Option ExprTree) (tree : QueryTree) (text : List ℕ)
    (sound : IsSound c) (regular : RegularStatement statement) (is : statement.body ≡ st.Impact table condition tree) (done : IsDone Can c after statement text) where
  abbrev answer : Answer
  answer = answer_of (impact_query c tree)

  abbrev given : Option Expr
  given = delete_made c table condition

  abbrev db : Database
  db = rows_in c.rows

  abbrev parts : RegularStatementBody (st.Impact table condition tree)
  parts = subst RegularStatementBody is regular

  names : name_breaks c (st.Impact table condition tree) ≡ []
  names = subst (λ (b : StatementBody). name_breaks c b ≡ []) is (names-whole c statement done.whole)

  stands : ImpactStands c table.text given answer.query
  stands = impact-stands c sound table condition tree parts names

  fits : TablesFit db answer.query
  fits = tables-fit c tree (may_not_ask alone) sound []

  id-is : identity_of c table.text ≡ stands.table.id
  id-is = ap (λ (o : Option TableEntry). option_map_or (λ (entry : TableEntry). entry.id) o 0) stands.named

  found : Loses c after table.text given answer text
  found = loses Can c after statement table condition tree text is done

  both-good : (meaning answer.query db [] ≡ Good found.bag) × ((doomed : List Bool) × (rows_going (identity_of c table.text) given answer.query db ≡ Good doomed))
  both-good = before-good (identity_of c table.text) given answer.query db found.bag found.before

  lists : ListsLost answer stands.table.id given db text
  lists =
      subst (λ (id : ℕ). ListsLost answer id given db text) id-is
      (lost-listed answer (identity_of c table.text) given db found.bag text both-good.0 found.written)

  going-good : (b : Bool) (doomed : List Bool) → b ≡ true → cond b (each (doomed_on given) (db stands.table.id)) (Good []) ≡ Good doomed
      → each (doomed_on given) (db stands.table.id) ≡ Good doomed
  going-good true doomed read e = e
  going-good false doomed read e = absurd (cc read)

  met : reads stands.table.id answer.query ≡ true → (row : Row) → IsTrue (member row (db stands.table.id)) → (doomed : Bool) × (doomed_on given row ≡ Good doomed)
  met read row there =
      each-good (doomed_on given) (db stands.table.id) both-good.1.0
      (going-good (reads stands.table.id answer.query) both-good.1.0 read
      (subst (λ (id : ℕ). rows_going id given answer.query db ≡ Good both-good.1.0) id-is both-good.1.1)) row (member-in row (db stands.table.id) there)

  -- by which of its witness lists a row vanishes
  doomed : (t : Row) → InBag t lists.rows ↔ (InBag t found.bag × All (λ w. IsTrue (has_doomed given (places_over stands.table.id answer.query) w)) (witnesses answer.query db [] t))
  doomed t =
      let vanishes = vanishing-rows answer.query stands.table.id given db t found.bag stands.monotone fits both-good.0 in (
        λ there. let parts = vanishes.0 ((lists.vanish.rows t).0 there) in ((member_decides t found.bag).0 parts.0, parts.1),
        λ parts. (lists.vanish.rows t).1 (vanishes.1 ((member_decides t found.bag).1 parts.0, parts.1)),
      )

  wide : (t : Row) → InBag t lists.rows → length t ≡ length answer.names
  wide t there =
      let vanishes = (lists.vanish.rows t).0 there in
      rows-wide answer db found.bag t (record { formed = stands.formed; tables = fits; outer_rows = refl })
      (tree-named c tree (may_not_ask alone) sound parts.1 (impact-query_whole c table condition tree names)) both-good.0
      ((member_decides t found.bag).0 (subst (λ (bag : Bag). IsTrue (member t bag)) (same_good _ _ (sym vanishes.before.good ∙ both-good.0)) vanishes.before.row))

  pub answers-lost : AnswersLost c statement table tree text
  answers-lost = record {
    entry = stands.table;
    named = stands.named;
    condition = given;
    answer = answer;
    asks = record { whole = done.whole; is = ap (resolved_body c) is };
    query = refl;
    bag = found.bag;
    means = both-good.0;
    met = met;
    lists = lists;
    only = λ other shown. one_lost_text answer stands.table.id given db other text shown lists;
    doomed = doomed;
    wide = wide;
  }
