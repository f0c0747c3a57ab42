-- Expressions that may stand for one another, in the places where a node holds expressions.
use Rattle.std.proofs.Common.{◌≡◌, List, [], ◌∷◌, map, Option, None, Some, refl, arith, subst}
use Rattle.perm_values.specs.declared.kind.Kind.{Kind}
use Rattle.perm_values.specs.declared.kind.Kind.TheVariants.{Integer}
use Rattle.perm_values.specs.declared.value.Value.{Value}
use Rattle.bag_algebra.specs.Bags.{Row}
use Rattle.bag_algebra.specs.Expressions.{value}
use Rattle.bag_algebra.specs.Meaning.{optional_value, condition_on, items_on, arguments_on}
use Rattle.bag_algebra.specs.Means.{SubMeans}
use Rattle.bag_algebra.specs.Outcome.{and_then, both, each}
use Rattle.bag_algebra.specs.WellFormed.{HasKind, ItemsForm, aggr_form, AggregatesForm, sub_form}
use Rattle.bag_algebra.specs.declared.expr.Expr.{Expr}
use Rattle.bag_algebra.specs.declared.expr.Item.{Item}
use Rattle.bag_algebra.specs.declared.query.AggFn.{AggFn}
use Rattle.bag_algebra.specs.declared.query.AggFn.TheVariants.{CountRows, Count, CountDistinct, Sum, Min, Max}
use Rattle.bag_algebra.specs.declared.query.Aggr.{Aggr}
use Rattle.bag_algebra.specs.declared.query.SubKind.{SubKind}
use Rattle.bag_algebra.specs.declared.query.SubKind.TheVariants as sub
use Rattle.contribution.proofs.ColumnQueries.{all-first, all-rest}
use Rattle.query_laws.specs.SameExpressions.{SameExpr, SameOptional, SameItems, SameAggregate, SameAggregates}

-- ---- each stands for itself

pub same-itself : (e : Expr) → SameExpr e e
same-itself e = record { value = λ u env subs. refl; kind = λ scopes subs k h. h }

pub optional-itself : (part : Option Expr) → SameOptional part part
optional-itself None = tt
optional-itself (Some e) = same-itself e

pub items-themselves : (items : List Item) → SameItems items items
items-themselves [] = tt
items-themselves (item ∷ items) = (record { kind = refl; expr = same-itself item.expr }, items-themselves items)

pub aggregates-themselves : (aggregates : List Aggr) → SameAggregates aggregates aggregates
aggregates-themselves [] = tt
aggregates-themselves (aggregate ∷ aggregates) =
    (record { function = refl; kind = refl; argument = optional-itself aggregate.argument }, aggregates-themselves aggregates)

-- ---- their values

pub optional-same : (part other : Option Expr) → SameOptional part other → (env : List Row) (u : Row) → optional_value part env u ≡ optional_value other env u
optional-same None None s env u = refl
optional-same None (Some f) s env u = absurd s
optional-same (Some e) None s env u = absurd s
optional-same (Some e) (Some f) s env u = s.value u env []

pub conditions-same : (condition other : Expr) → SameExpr condition other → (env : List Row) (subs : SubMeans) →
    condition_on condition env subs ≡ condition_on other env subs
conditions-same condition other s env subs = λ i u. and_then (subs.answers u) (λ answers. s.value u env answers i)

each_item-same : (items others : List Item) → SameItems items others → (u : Row) (env : List Row) (answers : List Value) →
    each (λ (item : Item). value item.expr u env answers) items ≡ each (λ (item : Item). value item.expr u env answers) others
each_item-same [] [] s u env answers = refl
each_item-same [] (other ∷ others) s u env answers = absurd s
each_item-same (item ∷ items) [] s u env answers = absurd s
each_item-same (item ∷ items) (other ∷ others) s u env answers =
    λ i. both (λ v vs. v ∷ vs) (s.0.expr.value u env answers i) (each_item-same items others s.1 u env answers i)

pub items-same : (items others : List Item) → SameItems items others → (env : List Row) (subs : SubMeans) → items_on items env subs ≡ items_on others env subs
items-same items others s env subs = λ i u. and_then (subs.answers u) (λ answers. each_item-same items others s u env answers i)

each_argument-same : (aggregates others : List Aggr) → SameAggregates aggregates others → (env : List Row) (u : Row) →
    arguments_on aggregates env u ≡ arguments_on others env u
each_argument-same [] [] s env u = refl
each_argument-same [] (other ∷ others) s env u = absurd s
each_argument-same (aggregate ∷ aggregates) [] s env u = absurd s
each_argument-same (aggregate ∷ aggregates) (other ∷ others) s env u =
    λ i. both (λ v vs. v ∷ vs) (optional-same aggregate.argument other.argument s.0.argument env u i) (each_argument-same aggregates others s.1 env u i)

pub arguments-same : (aggregates others : List Aggr) → SameAggregates aggregates others → (env : List Row) → arguments_on aggregates env ≡ arguments_on others env
arguments-same aggregates others s env = λ i u. each_argument-same aggregates others s env u i

pub functions-same : (aggregates others : List Aggr) → SameAggregates aggregates others →
    map (λ (aggregate : Aggr). aggregate.function) aggregates ≡ map (λ (aggregate : Aggr). aggregate.function) others
functions-same [] [] s = refl
functions-same [] (other ∷ others) s = absurd s
functions-same (aggregate ∷ aggregates) [] s = absurd s
functions-same (aggregate ∷ aggregates) (other ∷ others) s = λ i. s.0.function i ∷ functions-same aggregates others s.1 i

-- ---- their kinds

pub item_kinds-same : (items others : List Item) → SameItems items others → map (λ (item : Item). item.kind) items ≡ map (λ (item : Item). item.kind) others
item_kinds-same [] [] s = refl
item_kinds-same [] (other ∷ others) s = absurd s
item_kinds-same (item ∷ items) [] s = absurd s
item_kinds-same (item ∷ items) (other ∷ others) s = λ i. s.0.kind i ∷ item_kinds-same items others s.1 i

pub aggregate_kinds-same : (aggregates others : List Aggr) → SameAggregates aggregates others →
    map (λ (aggregate : Aggr). aggregate.kind) aggregates ≡ map (λ (aggregate : Aggr). aggregate.kind) others
aggregate_kinds-same [] [] s = refl
aggregate_kinds-same [] (other ∷ others) s = absurd s
aggregate_kinds-same (aggregate ∷ aggregates) [] s = absurd s
aggregate_kinds-same (aggregate ∷ aggregates) (other ∷ others) s = λ i. s.0.kind i ∷ aggregate_kinds-same aggregates others s.1 i

pub items-formed : (scopes : List (List Kind)) (subs : List Kind) (items others : List Item) → SameItems items others →
    ItemsForm scopes subs items → ItemsForm scopes subs others
items-formed scopes subs [] [] s h = h
items-formed scopes subs [] (other ∷ others) s h = absurd s
items-formed scopes subs (item ∷ items) [] s h = absurd s
items-formed scopes subs (item ∷ items) (other ∷ others) s h =
    all-first (λ (item : Item). HasKind scopes subs item.expr item.kind) other others
    (subst (HasKind scopes subs other.expr) s.0.kind (s.0.expr.kind scopes subs item.kind (h 0 item (omega arith))))
    (items-formed scopes subs items others s.1 (all-rest (λ (item : Item). HasKind scopes subs item.expr item.kind) item items h))

argument-formed : (function : AggFn) (argument other : Option Expr) → SameOptional argument other → (scopes : List (List Kind)) (kind : Kind) →
    aggr_form function argument scopes kind → aggr_form function other scopes kind
argument-formed function None None s scopes kind h = h
argument-formed function None (Some f) s scopes kind h = absurd s
argument-formed function (Some e) None s scopes kind h = absurd s
argument-formed CountRows (Some e) (Some f) s scopes kind h = absurd h
argument-formed Count (Some e) (Some f) s scopes kind h =
    record { argument = record { shared = h.argument.shared; parts = s.kind scopes [] h.argument.shared h.argument.parts }; gives = h.gives }
argument-formed CountDistinct (Some e) (Some f) s scopes kind h =
    record { argument = record { shared = h.argument.shared; parts = s.kind scopes [] h.argument.shared h.argument.parts }; gives = h.gives }
argument-formed Sum (Some e) (Some f) s scopes kind h = (s.kind scopes [] Integer h.0, h.1)
argument-formed Min (Some e) (Some f) s scopes kind h = (s.kind scopes [] kind h.0, h.1)
argument-formed Max (Some e) (Some f) s scopes kind h = (s.kind scopes [] kind h.0, h.1)

aggregate-formed : (scopes : List (List Kind)) (aggregate other : Aggr) → SameAggregate aggregate other →
    aggr_form aggregate.function aggregate.argument scopes aggregate.kind → aggr_form other.function other.argument scopes other.kind
aggregate-formed scopes aggregate other s h =
    subst (λ kind. aggr_form other.function other.argument scopes kind) s.kind
    (subst (λ function. aggr_form function other.argument scopes aggregate.kind) s.function
    (argument-formed aggregate.function aggregate.argument other.argument s.argument scopes aggregate.kind h))

pub aggregates-formed : (scopes : List (List Kind)) (aggregates others : List Aggr) → SameAggregates aggregates others →
    AggregatesForm scopes aggregates → AggregatesForm scopes others
aggregates-formed scopes [] [] s h = h
aggregates-formed scopes [] (other ∷ others) s h = absurd s
aggregates-formed scopes (aggregate ∷ aggregates) [] s h = absurd s
aggregates-formed scopes (aggregate ∷ aggregates) (other ∷ others) s h =
    all-first (λ (aggregate : Aggr). aggr_form aggregate.function aggregate.argument scopes aggregate.kind) other others
    (aggregate-formed scopes aggregate other s.0 (h 0 aggregate (omega arith)))
    (aggregates-formed scopes aggregates others s.1
    (all-rest (λ (aggregate : Aggr). aggr_form aggregate.function aggregate.argument scopes aggregate.kind) aggregate aggregates h))

pub tested-formed : (kind : SubKind) (tested other : Option Expr) → SameOptional tested other → (scopes : List (List Kind)) (kinds : List Kind) →
    sub_form kind tested scopes kinds → sub_form kind other scopes kinds
tested-formed kind None None s scopes kinds h = h
tested-formed kind None (Some f) s scopes kinds h = absurd s
tested-formed kind (Some e) None s scopes kinds h = absurd s
tested-formed sub.Exists (Some e) (Some f) s scopes kinds h = absurd h
tested-formed (sub.Any c) (Some e) (Some f) s scopes kinds h = record { column = h.column; one = h.one; compared = s.kind scopes [] h.column h.compared }
tested-formed (sub.All c) (Some e) (Some f) s scopes kinds h = record { column = h.column; one = h.one; compared = s.kind scopes [] h.column h.compared }
tested-formed sub.Scalar (Some e) (Some f) s scopes kinds h = absurd h
