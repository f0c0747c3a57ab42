-- The columns of a rewriting with NULLs at the places that it lacks.
use Rattle.std.specs.Prelude.{ℕ, ◌-◌, List, [], ◌∷◌}
use Rattle.std.specs.List.{range_with_len}
use Rattle.perm_values.specs.declared.kind.Kind.{Kind}
use Rattle.bag_algebra.specs.Kinds.{kinds_in, kinds_of, width_of}
use Rattle.bag_algebra.specs.built.Patterns.{ProjectOf}
use Rattle.bag_algebra.specs.declared.expr.Item.{Item}
use Rattle.bag_algebra.specs.declared.query.Query.{Query, end_of-Sublink}
use Rattle.contribution.specs.NullItems.{padded_items}
use Rattle.rewrite_core.specs.ProvenanceColumns.{provenance_places}

-- the kinds of the columns that a rewriting has behind those of the query
abbrev pub provenance_kinds : Query → Query → List Kind
provenance_kinds q rewriting = kinds_in (kinds_of rewriting) (provenance_places q rewriting)

-- the query's first columns, so many, then NULLs of the kinds, and then its other columns
abbrev pub items_behind : Query → ℕ → List Kind → List Item
items_behind query first kinds = padded_items (kinds_of query) (range_with_len 0 first) kinds (range_with_len first (width_of query - first))

-- the query with those columns; with no kinds it stays as it is
abbrev pub padded_behind : Query → ℕ → List Kind → Query
padded_behind query first [] = query
padded_behind query first (kind ∷ kinds) = ProjectOf query (items_behind query first (kind ∷ kinds)) [] end_of-Sublink
