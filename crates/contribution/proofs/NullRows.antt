-- The query of one row of NULLs.
use Rattle.std.proofs.Common.{◌≡◌, List, [], ◌∷◌, length, ap, ◌∙◌}
use Rattle.perm_values.specs.declared.kind.Kind.{Kind}
use Rattle.bag_algebra.specs.Bags.{Row, nulls}
use Rattle.bag_algebra.specs.Kinds.{kinds_of}
use Rattle.bag_algebra.specs.Meaning.{Database, meaning}
use Rattle.bag_algebra.specs.Outcome.{Good, both}
use Rattle.bag_algebra.specs.WellFormed.{WellFormed}
use Rattle.contribution.proofs.Padding.{null_items-kinds, null_items-give, null_items-formed}
use Rattle.contribution.specs.NullRow.{null_row_of}
use Rattle.bag_algebra.specs.built.Openings.{rows-with_lists}

pub kinds_of-null_row : (kinds : List Kind) → kinds_of (null_row_of kinds) ≡ kinds
kinds_of-null_row kinds = null_items-kinds kinds

pub meaning-null_row : (kinds : List Kind) (db : Database) (env : List Row) → meaning (null_row_of kinds) db env ≡ Good (nulls (length kinds) ∷ [])
meaning-null_row kinds db env = rows-with_lists _ _ ∙ ap (λ o. both (λ v vs. v ∷ vs) o (Good [])) (null_items-give kinds env [])

pub formed-null_row : (kinds : List Kind) (outer : List (List Kind)) → WellFormed outer (null_row_of kinds)
formed-null_row kinds outer = record { input = tt; subs = tt; items = null_items-formed kinds ([] ∷ outer) }
