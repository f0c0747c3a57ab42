use Rattle.std.proofs.Common.{◌≡◌, List, [], ◌∷◌, length, IsTrue, IfOk, refl, subst}
use Rattle.perm_values.specs.declared.kind.Kind.{Kind}
use Rattle.bag_algebra.specs.Bags.{Row, nulls}
use Rattle.bag_algebra.specs.Kinds.{kinds_of}
use Rattle.bag_algebra.specs.Meaning.{Database, meaning}
use Rattle.bag_algebra.specs.Outcome.{Good}
use Rattle.bag_algebra.specs.built.Patterns.{ProjectOf}
use Rattle.bag_algebra.specs.Rewriting.{is_plain}
use Rattle.bag_algebra.specs.WellFormed.{WellFormed}
use Rattle.bag_algebra.specs.declared.query.Query.{end_of-Sublink}
use Rattle.bag_algebra.specs.declared.query.Query.TheVariants.{Single}
use Rattle.contribution.proofs.NodeQueries.{of_made}
use Rattle.contribution.proofs.NullRows.{kinds_of-null_row, meaning-null_row, formed-null_row}
use Rattle.contribution.specs.NullRow.{null_row_of}
use Rattle.contribution.proofs.blank.null_row.Goals as goal

pub returns-clause-made : goal.returns-clause-made
returns-clause-made c = subst (λ items. IfOk c.projection.result (λ q. q ≡ ProjectOf Single items [] end_of-Sublink)) c.in_ok-items.ensures.made c.projection.ensures.made

pub returns-clause-kinds : goal.returns-clause-kinds
returns-clause-kinds c =
    of_made (λ q. kinds_of q ≡ c.args.kinds.now) c.projection.result (null_row_of c.args.kinds.now) (returns-clause-made c) (kinds_of-null_row c.args.kinds.now)

pub returns-clause-rows : goal.returns-clause-rows
returns-clause-rows c =
    of_made (λ q. (db : Database) (env : List Row) → meaning q db env ≡ Good (nulls (length c.args.kinds.now) ∷ []))
    c.projection.result (null_row_of c.args.kinds.now) (returns-clause-made c) (meaning-null_row c.args.kinds.now)

pub returns-clause-formed : goal.returns-clause-formed
returns-clause-formed c =
    of_made (λ q. (outer : List (List Kind)) → WellFormed outer q) c.projection.result (null_row_of c.args.kinds.now) (returns-clause-made c)
    (formed-null_row c.args.kinds.now)

pub returns-clause-plain : goal.returns-clause-plain
returns-clause-plain c = of_made (λ q. IsTrue (is_plain q)) c.projection.result (null_row_of c.args.kinds.now) (returns-clause-made c) refl
