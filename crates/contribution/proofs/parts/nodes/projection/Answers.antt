use Rattle.std.proofs.Common.{◌≡◌, List, [], ◌∷◌, IfOk, ap, refl, subst, ◌∙◌}
use Rattle.perm_values.specs.declared.kind.Kind.{Kind}
use Rattle.bag_algebra.specs.Bags.{Row}
use Rattle.bag_algebra.specs.built.Openings.{Project-is}
use Rattle.bag_algebra.specs.TablesRead.{tables_read}
use Rattle.bag_algebra.specs.Kinds.{kinds_of, item_kinds}
use Rattle.bag_algebra.specs.Meaning.{Database, meaning, items_on}
use Rattle.bag_algebra.specs.Means.{no_subs}
use Rattle.bag_algebra.specs.Outcome.{and_then, each}
use Rattle.bag_algebra.specs.Rewriting.{is_plain}
use Rattle.bag_algebra.specs.WellFormed.{WellFormed, ItemsForm}
use Rattle.bag_algebra.specs.declared.query.Query.{Query}
use Rattle.bag_algebra.specs.declared.query.Query.TheVariants.{Project}
use Rattle.contribution.proofs.NodeQueries.{of_made, meaning-projected, formed-projected, plain-projected, tables-projected}
use Rattle.contribution.proofs.parts.nodes.projection.Goals as goal

pub returns-clause-made : goal.returns-clause-made
returns-clause-made c =
    subst (λ (made : Query). IfOk c.project.result (λ p. p ≡ made)) (ap (Project c.args.query c.args.items) c.new.ensures ∙ Project-is _ _) c.project.ensures

pub returns-clause-kinds : goal.returns-clause-kinds
returns-clause-kinds c = of_made (λ p. kinds_of p ≡ item_kinds c.args.items) c.project.result _ (returns-clause-made c) refl

pub returns-clause-rows : goal.returns-clause-rows
returns-clause-rows c =
    of_made (λ p. (db : Database) (env : List Row) → meaning p db env ≡ and_then (meaning c.args.query db env) (each (items_on c.args.items env no_subs))) c.project.result _ (returns-clause-made c) (meaning-projected c.args.query c.args.items)

pub returns-clause-formed : goal.returns-clause-formed
returns-clause-formed c =
    of_made (λ p. (outer : List (List Kind)) → WellFormed outer c.args.query → ItemsForm (kinds_of c.args.query ∷ outer) [] c.args.items → WellFormed outer p) c.project.result _ (returns-clause-made c) (formed-projected c.args.query c.args.items)

pub returns-clause-plain : goal.returns-clause-plain
returns-clause-plain c =
    of_made (λ p. is_plain p ≡ is_plain c.args.query) c.project.result _ (returns-clause-made c) (plain-projected c.args.query c.args.items)

pub returns-clause-tables : goal.returns-clause-tables
returns-clause-tables c =
    of_made (λ p. tables_read p ≡ tables_read c.args.query) c.project.result _ (returns-clause-made c)
    (tables-projected c.args.query c.args.items)
