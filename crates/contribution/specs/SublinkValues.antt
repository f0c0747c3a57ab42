-- The value of a sublink on a row of its node: over the rows of its query, and over those alone that contribute.
use Rattle.std.specs.Prelude.{List, ◌∷◌}
use Rattle.perm_values.specs.declared.value.Value.{Value}
use Rattle.bag_algebra.specs.Bags.{Row}
use Rattle.bag_algebra.specs.Meaning.{Database, meaning, optional_value}
use Rattle.bag_algebra.specs.Means.{sub_value, chosen}
use Rattle.bag_algebra.specs.Outcome.{Outcome, both_then}
use Rattle.bag_algebra.specs.declared.query.Sublink.{Sublink}

abbrev pub contributing_value : Database → List Row → Row → Sublink → Outcome Value
contributing_value db env u sub =
    both_then (optional_value sub.tested env u) (meaning sub.query db (u ∷ env)) (λ x bag. sub_value sub.kind x (chosen sub.kind x bag))
