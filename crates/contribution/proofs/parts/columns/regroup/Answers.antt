use Rattle.std.proofs.Common.{◌≡◌, List, [], map, IfOk, subst}
use Rattle.perm_values.specs.Rows.{picked, PlacesWithin}
use Rattle.perm_values.specs.declared.kind.Kind.{Kind}
use Rattle.bag_algebra.specs.Bags.{Row}
use Rattle.bag_algebra.specs.Kinds.{kinds_of, kinds_in, width_of}
use Rattle.bag_algebra.specs.Meaning.{Database, meaning}
use Rattle.bag_algebra.specs.Outcome.{mapped}
use Rattle.bag_algebra.specs.built.Patterns.{ProjectOf}
use Rattle.bag_algebra.specs.WellFormed.{WellFormed}
use Rattle.bag_algebra.specs.declared.query.Query.{end_of-Sublink}
use Rattle.contribution.proofs.ColumnQueries.{kinds_of-columns, meaning-columns, formed-columns}
use Rattle.contribution.proofs.NodeQueries.{of_made}
use Rattle.contribution.proofs.parts.columns.regroup.Goals as goal

pub returns-clause-made : goal.returns-clause-made
returns-clause-made c = subst (λ items. IfOk c.projection.result (λ q. q ≡ ProjectOf c.args.query items [] end_of-Sublink)) c.in-Ok.ensures c.projection.ensures.made

pub returns-clause-kinds : goal.returns-clause-kinds
returns-clause-kinds c =
    of_made (λ p. kinds_of p ≡ kinds_in (kinds_of c.args.query) c.args.order.now) c.projection.result _ (returns-clause-made c)
    (kinds_of-columns c.args.query c.args.order.now)

pub returns-clause-rows : goal.returns-clause-rows
returns-clause-rows c =
    of_made (λ p. (db : Database) (env : List Row) → meaning p db env ≡ mapped (map (picked c.args.order.now)) (meaning c.args.query db env))
    c.projection.result _ (returns-clause-made c) (meaning-columns c.args.query c.args.order.now)

pub returns-clause-formed : goal.returns-clause-formed
returns-clause-formed c =
    of_made (λ p. PlacesWithin (width_of c.args.query) c.args.order.now → (outer : List (List Kind)) → WellFormed outer c.args.query → WellFormed outer p)
    c.projection.result _ (returns-clause-made c) (formed-columns c.args.query c.args.order.now)
