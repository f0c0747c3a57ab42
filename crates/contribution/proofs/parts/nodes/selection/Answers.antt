use Rattle.std.proofs.Common.{◌≡◌, List, [], ◌∷◌, IfOk, ap, refl, subst, ◌∙◌}
use Rattle.perm_values.specs.declared.kind.Kind.{Kind}
use Rattle.perm_values.specs.declared.kind.Kind.TheVariants.{Boolean}
use Rattle.bag_algebra.specs.Bags.{Row}
use Rattle.bag_algebra.specs.TablesRead.{tables_read}
use Rattle.bag_algebra.specs.Kinds.{kinds_of}
use Rattle.bag_algebra.specs.Meaning.{Database, meaning, condition_on}
use Rattle.bag_algebra.specs.Means.{no_subs, kept}
use Rattle.bag_algebra.specs.Outcome.{and_then, gather}
use Rattle.bag_algebra.specs.Rewriting.{is_plain}
use Rattle.bag_algebra.specs.WellFormed.{WellFormed, HasKind}
use Rattle.bag_algebra.specs.declared.query.Query.{Query}
use Rattle.bag_algebra.specs.declared.query.Query.TheVariants.{Filter}
use Rattle.contribution.proofs.NodeQueries.{of_made, meaning-chosen, formed-chosen, plain-chosen, tables-chosen}
use Rattle.contribution.proofs.parts.nodes.selection.Goals as goal
use Rattle.bag_algebra.specs.built.Forms.{Filter_alone-is}

pub returns-clause-made : goal.returns-clause-made
returns-clause-made c =
    subst (λ (made : Query). IfOk c.filter.result (λ p. p ≡ made)) (ap (Filter c.args.query c.args.condition) c.new.ensures ∙ Filter_alone-is _ _) c.filter.ensures

pub returns-clause-kinds : goal.returns-clause-kinds
returns-clause-kinds c = of_made (λ p. kinds_of p ≡ kinds_of c.args.query) c.filter.result _ (returns-clause-made c) refl

pub returns-clause-rows : goal.returns-clause-rows
returns-clause-rows c =
    of_made (λ p. (db : Database) (env : List Row) → meaning p db env ≡ and_then (meaning c.args.query db env) (gather (kept (condition_on c.args.condition env no_subs)))) c.filter.result _ (returns-clause-made c) (meaning-chosen c.args.query c.args.condition)

pub returns-clause-formed : goal.returns-clause-formed
returns-clause-formed c =
    of_made (λ p. (outer : List (List Kind)) → WellFormed outer c.args.query → HasKind (kinds_of c.args.query ∷ outer) [] c.args.condition Boolean → WellFormed outer p) c.filter.result _ (returns-clause-made c) (formed-chosen c.args.query c.args.condition)

pub returns-clause-plain : goal.returns-clause-plain
returns-clause-plain c = of_made (λ p. is_plain p ≡ is_plain c.args.query) c.filter.result _ (returns-clause-made c) (plain-chosen c.args.query c.args.condition)

pub returns-clause-tables : goal.returns-clause-tables
returns-clause-tables c =
    of_made (λ p. tables_read p ≡ tables_read c.args.query) c.filter.result _ (returns-clause-made c) (tables-chosen c.args.query c.args.condition)
