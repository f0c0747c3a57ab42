use Rattle.std.proofs.Common.{◌≡◌, List, [], ◌∷◌, length, sym, ap, subst, ◌∙◌}
use Rattle.std.proofs.lemmas.List.{take_all}
use Rattle.perm_values.specs.Rows.{picked, PlacesWithin}
use Rattle.perm_values.specs.declared.kind.Kind.{Kind}
use Rattle.bag_algebra.proofs.Columns.{column_items-give}
use Rattle.bag_algebra.specs.Bags.{Row}
use Rattle.bag_algebra.specs.ColumnItems.{column_items}
use Rattle.bag_algebra.specs.Kinds.{kinds_in, item_kinds}
use Rattle.bag_algebra.specs.Meaning.{items_on}
use Rattle.bag_algebra.specs.Means.{no_subs}
use Rattle.bag_algebra.specs.Outcome.{Good}
use Rattle.bag_algebra.specs.WellFormed.{ItemsForm}
use Rattle.contribution.proofs.ColumnQueries.{column_items-kinds, column_items-formed}
use Rattle.contribution.proofs.parts.columns.column_items.Goals as goal

pub returns-clause-made : goal.returns-clause-made
returns-clause-made c = c.loop-place.invariant ∙ ap (column_items c.args.kinds.now) (take_all _ _ c.loop-place-test.false)

pub returns-clause-kinds : goal.returns-clause-kinds
returns-clause-kinds c =
    subst (λ items. item_kinds items ≡ kinds_in c.args.kinds.now c.args.order.now) (sym (returns-clause-made c))
    (column_items-kinds c.args.kinds.now c.args.order.now)

pub returns-clause-values : goal.returns-clause-values
returns-clause-values c =
    subst (λ items. (env : List Row) (u : Row) → items_on items env no_subs u ≡ Good (picked c.args.order.now u)) (sym (returns-clause-made c))
    (λ env u. column_items-give c.args.kinds.now c.args.order.now env u)

pub returns-clause-formed : goal.returns-clause-formed
returns-clause-formed c =
    subst (λ items. PlacesWithin (length c.args.kinds.now) c.args.order.now → (outer : List (List Kind)) → ItemsForm (c.args.kinds.now ∷ outer) [] items)
    (sym (returns-clause-made c))
    (λ within outer. column_items-formed c.args.kinds.now outer c.args.order.now within)
