-- The columns that a rewriting has behind those of the query that it rewrites.
use Rattle.std.specs.Prelude.{ℕ, ◌-◌, List}
use Rattle.std.specs.List.{range_with_len}
use Rattle.bag_algebra.specs.ColumnItems.{column_items}
use Rattle.bag_algebra.specs.Kinds.{kinds_of, width_of}
use Rattle.bag_algebra.specs.declared.expr.Item.{Item}
use Rattle.bag_algebra.specs.declared.query.Query.{Query}

abbrev pub provenance_places : Query → Query → List ℕ
provenance_places q rewriting = range_with_len (width_of q) (width_of rewriting - width_of q)

abbrev pub provenance_items : Query → Query → List Item
provenance_items q rewriting = column_items (kinds_of rewriting) (provenance_places q rewriting)
