-- Which tables are read where queries stand in the place of tables.
use Rattle.std.specs.Prelude.{◌≢◌, ℕ, List, Contains}
use Rattle.perm_values.specs.declared.kind.Kind.{Kind}
use Rattle.bag_algebra.specs.TablesRead.{TableRead, tables_read}
use Rattle.bag_algebra.specs.declared.query.Query.{Query}

-- the tables that are read in the place of one
abbrev pub read_at : (ℕ → List Kind → Query) → TableRead → List TableRead
read_at at read = tables_read (at read.id read.kinds)

-- what q reads with p in the place of the table of this identity: a table of another identity that q reads, or one that p reads,
-- where q reads that table
pub data IsReadOver (id : ℕ) (p q : Query) (read : TableRead) : Type 0 where
  another : Contains (tables_read q) read → read.id ≢ id → IsReadOver id p q read
  in_its_place : (kinds : List Kind) → Contains (tables_read q) (record { id = id; kinds = kinds }) →
      Contains (tables_read p) read → IsReadOver id p q read
