use Rattle.std.proofs.Common.{◌≡◌, List, ◌∷◌, IsTrue, Some, length, sym, ap, subst, ◌∙◌}
use Rattle.std.specs.Prelude.{slice_get}
use Rattle.perm_values.specs.Rows.{picked, same_row, PlacesWithin}
use Rattle.perm_values.specs.declared.kind.Kind.{Kind}
use Rattle.perm_values.specs.declared.kind.Kind.TheVariants as kind
use Rattle.perm_values.specs.declared.value.Value.{Value}
use Rattle.perm_values.specs.declared.value.Value.TheVariants.{Boolean}
use Rattle.bag_algebra.specs.Bags.{Row}
use Rattle.bag_algebra.specs.Expressions.{row_at, value}
use Rattle.bag_algebra.specs.FaultFree.{faultless}
use Rattle.bag_algebra.specs.Kinds.{kinds_in}
use Rattle.bag_algebra.specs.Outcome.{Good}
use Rattle.bag_algebra.specs.WellFormed.{HasKind}
use Rattle.contribution.proofs.SameTests.{tests-value, conjunction-formed, conjunction-faultless}
use Rattle.contribution.specs.Conjunctions.{all_hold}
use Rattle.contribution.proofs.parts.same.same_columns.Goals as goal

pub returns-clause-made : goal.returns-clause-made
returns-clause-made c = c.conjunction.ensures ∙ ap all_hold c.in_ok-tests.ensures

pub returns-clause-value : goal.returns-clause-value
returns-clause-value c =
    subst (λ test. (u : Row) (env : List Row) (subs : List Value) →
    value test u env subs ≡ Good (Boolean (same_row (picked c.args.theirs.now (row_at (u ∷ env) c.args.level)) (picked c.args.own.now u)))) (sym (returns-clause-made c))
    (λ u env subs. tests-value u env subs c.args.level c.args.theirs.now c.args.own.now c.requires)

pub returns-clause-kind : goal.returns-clause-kind
returns-clause-kind c =
    subst (λ test. (kinds others : List Kind) (outer : List (List Kind)) (subs : List Kind) → slice_get (kinds ∷ outer) c.args.level ≡ Some others →
    PlacesWithin (length others) c.args.theirs.now → PlacesWithin (length kinds) c.args.own.now →
    kinds_in others c.args.theirs.now ≡ kinds_in kinds c.args.own.now → HasKind (kinds ∷ outer) subs test kind.Boolean) (sym (returns-clause-made c))
    (λ kinds others outer subs there. conjunction-formed kinds outer subs c.args.level others there c.args.theirs.now c.args.own.now)

pub returns-clause-faultless : goal.returns-clause-faultless
returns-clause-faultless c =
    subst (λ test. IsTrue (faultless test)) (sym (returns-clause-made c)) (conjunction-faultless c.args.level c.args.theirs.now c.args.own.now)
