use Rattle.std.proofs.Common.{◌≡◌, List, [], length, map, sym, ap, subst, ◌∙◌}
use Rattle.std.proofs.lemmas.List.{take_all}
use Rattle.perm_values.specs.declared.kind.Kind.{Kind}
use Rattle.bag_algebra.specs.Bags.{Row, nulls}
use Rattle.bag_algebra.specs.Kinds.{item_kinds}
use Rattle.bag_algebra.specs.Meaning.{items_on}
use Rattle.bag_algebra.specs.Means.{no_subs}
use Rattle.bag_algebra.specs.Outcome.{Good}
use Rattle.bag_algebra.specs.WellFormed.{ItemsForm}
use Rattle.contribution.proofs.Padding.{null_items-kinds, null_items-give, null_items-formed}
use Rattle.contribution.specs.NullItems.{null_item}
use Rattle.contribution.proofs.parts.nulls.null_items.Goals as goal

pub returns-clause-made : goal.returns-clause-made
returns-clause-made c = c.loop-kind.invariant ∙ ap (map null_item) (take_all _ _ c.loop-kind-test.false)

pub returns-clause-kinds : goal.returns-clause-kinds
returns-clause-kinds c = subst (λ items. item_kinds items ≡ c.args.kinds.now) (sym (returns-clause-made c)) (null_items-kinds c.args.kinds.now)

pub returns-clause-values : goal.returns-clause-values
returns-clause-values c =
    subst (λ items. (env : List Row) (u : Row) → items_on items env no_subs u ≡ Good (nulls (length c.args.kinds.now))) (sym (returns-clause-made c))
    (null_items-give c.args.kinds.now)

pub returns-clause-formed : goal.returns-clause-formed
returns-clause-formed c =
    subst (λ items. (scopes : List (List Kind)) → ItemsForm scopes [] items) (sym (returns-clause-made c)) (null_items-formed c.args.kinds.now)
