-- The words of the definitions that go over children, on plain lists of them, as code holds them.
use Rattle.std.specs.Prelude.{List, [], ◌∷◌, ◌++◌}
use Rattle.perm_values.specs.declared.value.Value.{Value}
use Rattle.bag_algebra.specs.Bags.{Row}
use Rattle.bag_algebra.specs.Expressions.{value, Step, chosen_arm}
use Rattle.bag_algebra.specs.Kinds.{shape}
use Rattle.bag_algebra.specs.Meaning.{Database, denote, meaning, optional_value}
use Rattle.bag_algebra.specs.Means.{SubMeans, no_subs, with_sub, all_empty, sub_value}
use Rattle.bag_algebra.specs.Outcome.{Outcome, mapped, both_then, each}
use Rattle.bag_algebra.specs.declared.expr.Arm.{Arm}
use Rattle.bag_algebra.specs.declared.expr.ChainStep.{ChainStep}
use Rattle.bag_algebra.specs.declared.expr.Expr.{Expr}
use Rattle.bag_algebra.specs.declared.place.Place.{Place}
use Rattle.bag_algebra.specs.declared.query.Query.{Query}
use Rattle.bag_algebra.specs.declared.query.Sublink.{Sublink}

-- parts, each of which is evaluated
abbrev pub part_values : List Expr → Row → List Row → List Value → Outcome (List Value)
part_values parts u env subs = each (λ part. value part u env subs) parts

-- a step with the value of its right operand
abbrev pub step_of : Row → List Row → List Value → ChainStep → Outcome Step
step_of u env subs step = mapped (λ v. record { operation = step.op; operand = v }) (value step.part u env subs)

-- the first arm whose condition is true chooses, otherwise what comes after all arms
abbrev pub arms_value : List Arm → Row → List Row → List Value → Outcome Value → Outcome Value
arms_value [] u env subs otherwise = otherwise
arms_value (arm ∷ arms) u env subs otherwise =
    chosen_arm (value arm.condition u env subs) (value arm.value u env subs) (arms_value arms u env subs otherwise)

-- the sublinks of a node; their queries see the node's row as the nearest outer row
abbrev pub subs_denote : List Sublink → Database → List Row → SubMeans
subs_denote [] db env = no_subs
subs_denote (sub ∷ subs) db env =
    with_sub sub.kind (optional_value sub.tested env) (λ u. denote sub.query db (u ∷ env)) (all_empty (shape sub.query))
    (subs_denote subs db env)

-- the value of a sublink on a row: its left operand and its query are both evaluated, the query with the row as the nearest
-- outer one
abbrev pub sublink_value : Database → List Row → Row → Sublink → Outcome Value
sublink_value db env u sub = both_then (optional_value sub.tested env u) (meaning sub.query db (u ∷ env)) (sub_value sub.kind)

-- the places of the queries, one query after another
abbrev pub inputs_shape : List Query → List Place
inputs_shape [] = []
inputs_shape (query ∷ queries) = shape query ++ inputs_shape queries

-- the places of the sublinks' queries, in the order of their numbers
abbrev pub subs_shape : List Sublink → List Place
subs_shape [] = []
subs_shape (sub ∷ subs) = shape sub.query ++ subs_shape subs
