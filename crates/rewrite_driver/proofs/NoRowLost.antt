-- What stands for the PROVENANCE of a query loses none of its rows.
use Rattle.std.proofs.Common.{◌≡◌, ◌↔◌, List, IsTrue, take, refl, sym, ◌∙◌, subst}
use Rattle.perm_values.specs.declared.kind.Kind.{Kind}
use Rattle.bag_algebra.proofs.BagLaws.{member-same_bag}
use Rattle.bag_algebra.specs.Bags.{Row, Bag, member}
use Rattle.bag_algebra.specs.built.Openings.{Prov-is}
use Rattle.bag_algebra.specs.Kinds.{width_of}
use Rattle.bag_algebra.specs.Meaning.{Database, meaning}
use Rattle.bag_algebra.specs.Outcome.{Outcome, Good, Bad}
use Rattle.bag_algebra.specs.built.Patterns.{ProvOf}
use Rattle.bag_algebra.specs.Rewriting.{SameRows, Stands}
use Rattle.bag_algebra.specs.declared.query.Query.{Query}
use Rattle.bag_algebra.specs.declared.query.Query.TheVariants.{Prov}
use Rattle.contribution.proofs.FirstColumns.{first_columns}
use Rattle.contribution.specs.Fitting.{Fitting}
use Rattle.rewrite_driver.specs.FirstColumns.{KeepsRows}

module _ (q other : Query) (stands : Stands (Prov q) other) where
  stands-prov : Stands (ProvOf q) other
  stands-prov = subst (λ n. Stands n other) (Prov-is q) stands

  module _ (outer : List (List Kind)) (db : Database) (env : List Row) (bag found : Bag) (fitting : Fitting outer q db env)
      (good : meaning q db env ≡ Good bag) (made : meaning other db env ≡ Good found) (t : Row) where
    fronts : (o : Outcome Bag) → meaning (ProvOf q) db env ≡ o → SameRows o (Good found) →
        IsTrue (member t bag) ↔ ((u : Row) × IsTrue (member u found) × (take (width_of q) u ≡ t))
    fronts (Good us) provenance alike =
        let front = first_columns outer q db env bag us fitting good provenance t in (
          λ h. let u = front.0 h in (u.0, sym (member-same_bag u.0 us found alike) ∙ u.1, u.2),
          λ u. front.1 (u.0, member-same_bag u.0 us found alike ∙ u.1, u.2),
        )
    fronts (Bad g) provenance alike = absurd alike

  pub keeps-rows : KeepsRows q other
  keeps-rows outer db env bag found fitting good made t =
      fronts outer db env bag found fitting good made t (meaning (ProvOf q) db env) refl
      (subst (λ o. SameRows (meaning (ProvOf q) db env) o) made (stands-prov.rows outer db env fitting.formed fitting.tables fitting.outer_rows))
