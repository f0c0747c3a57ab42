-- SHOW FRESH that is accepted: what its text says, and that it changes nothing.
use Rattle.std.proofs.Common.{◌≡◌, ◌∙◌, ℕ, List, [], ◌++◌, codes, get_or, Option, Some, None, IfSome, Ok, refl, sym, ap, subst, arith}
use Rattle.std.specs.Option.{option_and_then, unwrap_or}
use Rattle.bag_algebra.specs.Bags.{Row, Bag}
use Rattle.bag_algebra.specs.Meaning.{denote, meaning}
use Rattle.bag_algebra.specs.Outcome.{Good}
use Rattle.bag_algebra.specs.Rewriting.{SameRows}
use Rattle.bag_algebra.specs.TableRows.{rows_in}
use Rattle.bag_algebra.specs.TablesRead.{EachTable}
use Rattle.bag_algebra.specs.declared.query.Query.{Query}
use Rattle.contribution.specs.SameMeaning.{SameMeaning}
use Rattle.name_meaning.specs.Statements.{resolved, resolved_body}
use Rattle.name_meaning.specs.declared.answer.Resolved.{Resolved}
use Rattle.perm_catalog.specs.Changes.{table_named}
use Rattle.perm_catalog.specs.Contents.{Contents}
use Rattle.perm_catalog.specs.Held.{IsHeldTable}
use Rattle.perm_catalog.specs.Sound.{IsSound, IsSoundTable}
use Rattle.perm_catalog.specs.Stored.{IsFresh, IsSoundStored, first_changed}
use Rattle.perm_catalog.specs.declared.entries.SourceVersion.{SourceVersion}
use Rattle.perm_catalog.specs.declared.entries.StoredQuery.{StoredQuery}
use Rattle.perm_catalog.specs.declared.entries.TableEntry.{TableEntry}
use Rattle.perm_io.specs.Found.{Found}
use Rattle.query_laws.specs.replaced.OverQueries.{over_queries, standing}
use Rattle.sql_tree.specs.Regular.{RegularStatement}
use Rattle.sql_tree.specs.declared.name.Name.{Name}
use Rattle.sql_tree.specs.declared.statement.Statement.{Statement}
use Rattle.sql_tree.specs.declared.statement.StatementBody.TheVariants as st
use Rattle.statement_meaning.proofs.Ready.{whole-ready}
use Rattle.statement_meaning.proofs.Sounder.{known}
use Rattle.statement_meaning.specs.Answers.{TakesTurn}
use Rattle.statement_meaning.specs.Asking.{asks}
use Rattle.statement_meaning.specs.Ready.{IsReady}
use Rattle.statement_meaning.specs.Turns.{Accepted, freshness_text, freshness_told, show_fresh, stored_at}
use Rattle.perm_engine.proofs.meaning.Altering.{Said, accepted}
use Rattle.perm_engine.proofs.meaning.HeadlineSteps.{IsDone}
use Rattle.perm_engine.specs.meaning.headline.Freshness.{ShowsFresh, StandsForQuery}

-- what a fresh table stands for
abbrev pub Stands : Type 0
Stands = (c : Contents) (name : List ℕ) (table : TableEntry) (stored : StoredQuery) (q : Query) (env : List Row) → IsSound c → table_named c name ≡ Some table
    → table.stored ≡ Some stored → IsFresh c stored → EachTable (IsHeldTable c) q
    → SameMeaning (denote q (rows_in c.rows) env) (denote (over_queries (standing table.id stored.query) q) (rows_in c.rows) env)

-- ---- the text `fresh`

first_byte : (text other : List ℕ) → text ≡ other → get_or text 0 0 ≡ get_or other 0 0
first_byte text other e = ap (λ (bytes : List ℕ). get_or bytes 0 0) e

fresh-only : (c : Contents) (stored : StoredQuery) (changed : Option SourceVersion) → first_changed c stored ≡ changed
    → freshness_told changed ≡ codes "fresh\n" → IsFresh c stored
fresh-only c stored None is e = is
fresh-only c stored (Some kept) is e =
    let byte : 115 ≡ 102 = first_byte (codes "stale " ++ kept.table ++ codes "\n") (codes "fresh\n") e in absurd (omega (arith, byte))

module _ (stands : Stands) (c : Contents) (sound : IsSound c) (name : List ℕ) (entry : TableEntry) (named : table_named c name ≡ Some entry) where
  stands-for : (stored : StoredQuery) → entry.stored ≡ Some stored → IsFresh c stored → StandsForQuery c entry
  stands-for stored stores fresh =
      let held : IsSoundTable c entry = sound.tables name entry named in
      let mark : IsSoundStored c entry.columns held.rows stored =
      subst (λ (o : Option StoredQuery). IfSome o (IsSoundStored c entry.columns held.rows)) stores held.stored in
      record {
        stored = stored;
        stores = stores;
        rows = subst (λ (bag : Bag). SameRows (meaning stored.query (rows_in c.rows) []) (Good bag)) (sym (ap (λ (o : Option Bag). unwrap_or o []) held.held)) (mark.holds fresh);
        read = λ q env reads. stands c name entry stored q env sound named stores fresh reads;
      }

  said-fresh : (o : Option StoredQuery) → entry.stored ≡ o → freshness_text c o ≡ codes "fresh\n" → StandsForQuery c entry
  said-fresh None nothing e = let byte : 110 ≡ 102 = first_byte (codes "not stored\n") (codes "fresh\n") e in absurd (omega (arith, byte))
  said-fresh (Some stored) stores e = stands-for stored stores (fresh-only c stored (first_changed c stored) refl e)

-- ---- the statement

module _ (Can : List ℕ → Found → Type 0) (c after : Contents) (statement : Statement) (table : Name) (text : List ℕ)
    (is : statement.body ≡ st.ShowFresh table) (done : IsDone Can c after statement text) where
  taken : show_fresh c table.text ≡ Accepted text after
  taken = subst (λ (made : Resolved). TakesTurn Can (asks c statement.at made) c after (Ok text)) (ap (resolved_body c) is) done.turn

  said : Said (freshness_text c (stored_at c table.text)) text c after
  said = accepted (freshness_text c (stored_at c table.text)) text c after taken

  pub shown-kept : after ≡ c
  shown-kept = said.is

  pub shows-fresh : Stands → IsSound c → RegularStatement statement → ShowsFresh c table text
  shows-fresh stands sound regular =
      let there = known (table_named c table.text) (subst (IsReady c) (ap (resolved_body c) is) (whole-ready c statement sound regular done.whole)) in
      let says : text ≡ freshness_text c there.0.stored =
      said.says ∙ ap (λ (o : Option TableEntry). freshness_text c (option_and_then (λ (entry : TableEntry). entry.stored) o)) there.1 in
      record {
        entry = there.0;
        named = there.1;
        says = says;
        fresh = λ e. said-fresh stands c sound table.text there.0 there.1 there.0.stored refl (sym says ∙ e);
      }
