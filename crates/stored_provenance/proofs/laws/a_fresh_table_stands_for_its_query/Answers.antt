use Rattle.std.proofs.Common.{◌≡◌, ℕ, List, [], Option, sym, ap, subst, ◌∙◌, unwrap_or}
use Rattle.std.specs.Prelude.{IfSome}
use Rattle.bag_algebra.specs.Bags.{Bag, Row}
use Rattle.bag_algebra.specs.Kinds.{kinds_of, shape}
use Rattle.bag_algebra.specs.Meaning.{denote, meaning}
use Rattle.bag_algebra.specs.Outcome.{Good}
use Rattle.bag_algebra.specs.Rewriting.{SameRows}
use Rattle.bag_algebra.specs.TableRows.{rows_in}
use Rattle.bag_algebra.specs.declared.query.Query.{Query}
use Rattle.contribution.specs.SameMeaning.{SameMeaning}
use Rattle.perm_catalog.specs.Contents.{Contents}
use Rattle.perm_catalog.specs.Sound.{IsSoundTable}
use Rattle.perm_catalog.specs.Stored.{IsFresh, IsSoundStored}
use Rattle.perm_catalog.specs.declared.entries.StoredQuery.{StoredQuery}
use Rattle.perm_catalog.specs.declared.entries.TableEntry.{TableEntry}
use Rattle.query_laws.proofs.KeptMeaning.{same_meaning-over}
use Rattle.query_laws.proofs.OneTable.{table-standing}
use Rattle.query_laws.specs.replaced.OverQueries.{over_queries, standing, ReadsAs}
use Rattle.stored_provenance.proofs.NewMarks.{reads-as}
use Rattle.stored_provenance.proofs.laws.a_fresh_table_stands_for_its_query.Goals as goal

stands : (c : Contents) (table : TableEntry) (rows : Bag) (stored : StoredQuery) (q : Query) (env : List Row) → rows_in c.rows table.id ≡ rows →
    IsSoundStored c table.columns rows stored → IsFresh c stored → ReadsAs table.id (kinds_of stored.query) q →
    SameMeaning (denote q (rows_in c.rows) env) (denote (over_queries (standing table.id stored.query) q) (rows_in c.rows) env)
stands c table rows stored q env held mark fresh reads =
    same_meaning-over (standing table.id stored.query) q (rows_in c.rows) env
    (table-standing table.id stored.query mark.closed (rows_in c.rows)
    (subst (λ (bag : Bag). SameRows (meaning stored.query (rows_in c.rows) []) (Good bag)) (sym held) (mark.holds fresh)) q
    (ap shape mark.asks) reads)

pub returns : goal.returns
returns c = λ held name table stored q env sound named is fresh reads.
    let whole : IsSoundTable held table = sound.tables name table named in
    let mark : IsSoundStored held table.columns whole.rows stored =
    subst (λ (o : Option StoredQuery). IfSome o (IsSoundStored held table.columns whole.rows)) is whole.stored in
    stands held table whole.rows stored q env (ap (λ o. unwrap_or o []) whole.held) mark fresh
    (reads-as held sound name table (kinds_of stored.query) q named mark.kinds reads)
