-- Tables that are made of queries, and whether they are fresh, worked out.
use Rattle.std.proofs.Common.{◌≡◌, [], ◌∷◌, Some, None, codes, refl}
use Rattle.std.specs.Fmt.{digits}
use Rattle.std.specs.FinMap as map
use Rattle.perm_values.specs.declared.kind.Kind.TheVariants as kind
use Rattle.bag_algebra.specs.Bags.{Bag}
use Rattle.bag_algebra.specs.built.Patterns.{ProvOf}
use Rattle.bag_algebra.specs.declared.query.Answer.{Answer}
use Rattle.perm_catalog.specs.Contents.{Contents}
use Rattle.perm_catalog.specs.declared.entries.StoredQuery.{StoredQuery}
use Rattle.perm_catalog.specs.declared.entries.TableEntry.{TableEntry}
use Rattle.name_meaning.specs.declared.answer.Resolved.TheVariants as r
use Rattle.statement_meaning.specs.Asking.{Settled, asks}
use Rattle.statement_meaning.specs.Turns.{Accepted, show_fresh}
use Rattle.worked_examples.specs.NamedCatalog.{stored, table_r, table_s}
use Rattle.worked_examples.specs.Queries.{num as whole, c_of_s}
use Rattle.worked_examples.specs.HeldRows.{answering, holding, rows_of, stored-as}

abbrev rows_s : Bag
rows_s = (whole 2 ∷ []) ∷ (whole 1 ∷ []) ∷ []

-- the rows are ordered, and the identity and version are the number drawn: CREATE TABLE q AS SELECT c FROM s
pub stored_plainly :
    asks (holding [] rows_s) 0 (r.CreateTableAs (codes "q") (stored (codes "c") kind.Integer ∷ []) (answering c_of_s (codes "c" ∷ []) []) None)
    ≡ Settled (Accepted (codes "CREATE TABLE AS 2\n") (record {
      tables = (codes "r", table_r) ∷ (codes "s", table_s) ∷ (codes "q", record { id = 3; version = 3; columns = stored (codes "c") kind.Integer ∷ []; stored = None }) ∷ [];
      views = [];
      rows = map.insert (rows_of [] rows_s) 3 ((whole 1 ∷ []) ∷ (whole 2 ∷ []) ∷ []);
      next = 4;
    }))
unfolding digits
stored_plainly = stored-as [] rows_s 0 (codes "q") (stored (codes "c") kind.Integer ∷ []) (answering c_of_s (codes "c" ∷ []) []) None

-- what the table remembers of SELECT PROVENANCE c FROM s
abbrev mark_s : StoredQuery
mark_s = record { places = 1 ∷ []; query = ProvOf c_of_s; kept = record { table = codes "s"; id = 2; version = 2 } ∷ [] }

abbrev table_p : TableEntry
table_p = record { id = 3; version = 3; columns = stored (codes "c") kind.Integer ∷ stored (codes "prov_s_c") kind.Integer ∷ []; stored = Some mark_s }

abbrev answer_p : Answer
answer_p = answering (ProvOf c_of_s) (codes "c" ∷ codes "prov_s_c" ∷ []) []

-- with the table that is read, as it stands: CREATE TABLE p AS SELECT PROVENANCE c FROM s
pub stored_with_provenance :
    asks (holding [] ((whole 1 ∷ []) ∷ [])) 0 (r.CreateTableAs (codes "p") table_p.columns answer_p (Some (1 ∷ [])))
    ≡ Settled (Accepted (codes "CREATE TABLE AS 1\n") (record {
      tables = (codes "r", table_r) ∷ (codes "s", table_s) ∷ (codes "p", table_p) ∷ [];
      views = [];
      rows = map.insert (rows_of [] ((whole 1 ∷ []) ∷ [])) 3 ((whole 1 ∷ whole 1 ∷ []) ∷ []);
      next = 4;
    }))
unfolding digits
stored_with_provenance = stored-as [] ((whole 1 ∷ []) ∷ []) 0 (codes "p") table_p.columns answer_p (Some (1 ∷ []))

-- ---- SHOW FRESH p

-- p beside s as it stands then
abbrev beside : TableEntry → Contents
beside s = record { tables = (codes "s", s) ∷ (codes "p", table_p) ∷ []; views = []; rows = map.empty; next = 9 }

pub fresh : show_fresh (beside table_s) (codes "p") ≡ Accepted (codes "fresh\n") (beside table_s)
fresh = refl

-- its version is another one
pub stale : show_fresh (beside (record table_s { version = 4 })) (codes "p") ≡ Accepted (codes "stale s\n") (beside (record table_s { version = 4 }))
stale = refl

-- it was dropped and made again: the name is the same, the identity isn't
pub made_again : show_fresh (beside (record table_s { id = 4; version = 4 })) (codes "p") ≡ Accepted (codes "stale s\n") (beside (record table_s { id = 4; version = 4 }))
made_again = refl

pub not_stored : show_fresh (beside table_s) (codes "s") ≡ Accepted (codes "not stored\n") (beside table_s)
not_stored = refl
