-- The query of one row of NULLs.
use Rattle.std.specs.Prelude.{List, [], map}
use Rattle.perm_values.specs.declared.kind.Kind.{Kind}
use Rattle.bag_algebra.specs.built.Patterns.{ProjectOf}
use Rattle.bag_algebra.specs.declared.query.Query.{Query, end_of-Sublink}
use Rattle.bag_algebra.specs.declared.query.Query.TheVariants.{Single}
use Rattle.contribution.specs.NullItems.{null_item}

-- NULLs of these kinds, over the empty row
abbrev pub null_row_of : List Kind → Query
null_row_of kinds = ProjectOf Single (map null_item kinds) [] end_of-Sublink
