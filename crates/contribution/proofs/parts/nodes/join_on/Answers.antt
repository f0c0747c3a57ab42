use Rattle.std.proofs.Common.{◌≡◌, ◌&&◌, ◌++◌, List, [], ◌∷◌, IfOk, ap, refl, subst, ◌∙◌}
use Rattle.perm_values.specs.declared.kind.Kind.{Kind}
use Rattle.perm_values.specs.declared.kind.Kind.TheVariants.{Boolean}
use Rattle.bag_algebra.specs.Bags.{Row}
use Rattle.bag_algebra.specs.TablesRead.{tables_read}
use Rattle.bag_algebra.specs.Kinds.{kinds_of, width_of}
use Rattle.bag_algebra.specs.Meaning.{Database, meaning, condition_on}
use Rattle.bag_algebra.specs.Means.{no_subs, joined_rows}
use Rattle.bag_algebra.specs.Outcome.{both_then}
use Rattle.bag_algebra.specs.Rewriting.{is_plain}
use Rattle.bag_algebra.specs.WellFormed.{WellFormed, HasKind}
use Rattle.bag_algebra.specs.declared.query.Query.{Query}
use Rattle.bag_algebra.specs.declared.query.Query.TheVariants.{Join}
use Rattle.contribution.proofs.NodeQueries.{of_made, meaning-pairs, formed-pairs, plain-pairs, tables-pairs}
use Rattle.contribution.proofs.parts.nodes.join_on.Goals as goal
use Rattle.bag_algebra.specs.built.Forms.{Join_alone-is}

pub returns-clause-made : goal.returns-clause-made
returns-clause-made c =
    subst (λ (made : Query). IfOk c.join.result (λ p. p ≡ made)) (ap (Join c.args.kind c.args.left c.args.right c.args.condition) c.new.ensures ∙ Join_alone-is _ _ _ _) c.join.ensures

pub returns-clause-kinds : goal.returns-clause-kinds
returns-clause-kinds c = of_made (λ p. kinds_of p ≡ kinds_of c.args.left ++ kinds_of c.args.right) c.join.result _ (returns-clause-made c) refl

pub returns-clause-rows : goal.returns-clause-rows
returns-clause-rows c =
    of_made (λ p. (db : Database) (env : List Row) → meaning p db env ≡ both_then (meaning c.args.left db env) (meaning c.args.right db env)
    (joined_rows c.args.kind (condition_on c.args.condition env no_subs) (width_of c.args.left) (width_of c.args.right))) c.join.result _ (returns-clause-made c) (meaning-pairs c.args.kind c.args.left c.args.right c.args.condition)

pub returns-clause-formed : goal.returns-clause-formed
returns-clause-formed c =
    of_made (λ p. (outer : List (List Kind)) → WellFormed outer c.args.left → WellFormed outer c.args.right →
    HasKind ((kinds_of c.args.left ++ kinds_of c.args.right) ∷ outer) [] c.args.condition Boolean → WellFormed outer p) c.join.result _ (returns-clause-made c) (formed-pairs c.args.kind c.args.left c.args.right c.args.condition)

pub returns-clause-plain : goal.returns-clause-plain
returns-clause-plain c =
    of_made (λ p. is_plain p ≡ (is_plain c.args.left && is_plain c.args.right)) c.join.result _ (returns-clause-made c)
    (plain-pairs c.args.kind c.args.left c.args.right c.args.condition)

pub returns-clause-tables : goal.returns-clause-tables
returns-clause-tables c =
    of_made (λ p. tables_read p ≡ tables_read c.args.left ++ tables_read c.args.right) c.join.result _ (returns-clause-made c)
    (tables-pairs c.args.kind c.args.left c.args.right c.args.condition)
