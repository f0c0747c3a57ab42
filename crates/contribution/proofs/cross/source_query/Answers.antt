use Rattle.std.proofs.Common.{◌≡◌, true, IfOk, ◌∙◌, [], subst}
use Rattle.perm_values.proofs.Taken.{opened}
use Rattle.bag_algebra.specs.built.Openings.{Union-is}
use Rattle.bag_algebra.specs.ColumnItems.{column_items}
use Rattle.bag_algebra.specs.Kinds.{kinds_in}
use Rattle.bag_algebra.specs.built.Patterns.{ProjectOf}
use Rattle.bag_algebra.specs.declared.query.Query.{Query, end_of-Sublink}
use Rattle.bag_algebra.specs.declared.query.Query.TheVariants.{Table, Union}
use Rattle.contribution.specs.NullRow.{null_row_of}
use Rattle.contribution.proofs.cross.source_query.Goals as goal

pub returns : goal.returns
returns c =
    let rows =
    opened (λ (p : Query). p ≡ ProjectOf (Table c.args.source.now.id c.args.source.now.kinds) (column_items c.args.source.now.kinds c.args.source.now.places) [] end_of-Sublink)
    c.source_rows.result _ c.in_ok-rows.ensures.first_was c.source_rows.ensures in
    let blank =
    opened (λ (p : Query). p ≡ null_row_of (kinds_in c.args.source.now.kinds c.args.source.now.places)) c.blank_row.result _ c.in_ok-rows.ensures.second_was c.blank_row.ensures in
    subst (λ (made : Query). IfOk c.union.result (λ p. p ≡ made)) ((λ i. Union true (rows i) (blank i)) ∙ Union-is true _ _) c.union.ensures
