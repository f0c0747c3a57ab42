-- Of its inputs a node sees the rows, each as often as it stands there, or the faults; of its sublinks the same, on each row.
use Rattle.std.proofs.Common.{◌≡◌, ℕ, Bool, List, ◌∷◌, ◌++◌, map, ◌∙◌, refl}
use Rattle.std.specs.Prelude.{IsTrue}
use Rattle.perm_values.specs.declared.key.Key.{Key}
use Rattle.bag_algebra.specs.Bags.{Row, Bag, member}
use Rattle.bag_algebra.specs.built.Openings.{meaning-Base, meaning-Filter, meaning-Project, meaning-Join, meaning-Apply, meaning-Union, meaning-Intersect, meaning-Except, meaning-Distinct, meaning-Aggregate, meaning-Limit}
use Rattle.bag_algebra.specs.Children.{subs_denote}
use Rattle.bag_algebra.specs.Kinds.{width_of}
use Rattle.bag_algebra.specs.Meaning.{Database, meaning, condition_on, items_on, arguments_on}
use Rattle.bag_algebra.specs.Means.{joined_rows, under, kept, grouped}
use Rattle.bag_algebra.specs.Outcome.{Good, and_then, mapped, both_then, gather, each}
use Rattle.bag_algebra.specs.Rewriting.{SameRows}
use Rattle.bag_algebra.specs.declared.expr.Expr.{Expr}
use Rattle.bag_algebra.specs.declared.expr.Item.{Item}
use Rattle.bag_algebra.specs.declared.query.Aggr.{Aggr}
use Rattle.bag_algebra.specs.declared.query.JoinKind.{JoinKind}
use Rattle.bag_algebra.specs.declared.query.Label.{Label}
use Rattle.bag_algebra.specs.declared.query.Query.{Query}
use Rattle.bag_algebra.specs.declared.query.Query.TheVariants.{Base, Filter, Project, Join, Apply, Union, Intersect, Except, Distinct, Aggregate, Limit}
use Rattle.bag_algebra.specs.declared.query.Sublink.{Sublink}
use Rattle.query_laws.proofs.Inputs.{across, filter-input, project-input, apply-input, distinct-input, limit-input, aggregate-input, join-inputs, union-inputs, intersect-inputs, except-inputs}
use Rattle.bag_algebra.proofs.Members.{in-member}
use Rattle.query_laws.proofs.Outcomes.{in_bag-in}
use Rattle.query_laws.proofs.SameExpressions.{conditions-same, items-same, arguments-same, functions-same}
use Rattle.query_laws.specs.Agreeing.{SubsAgree}
use Rattle.query_laws.specs.SameExpressions.{SameExpr, SameItems, SameAggregates}
use Rattle.query_laws.proofs.StandingSublinks.{filter-subs, project-subs, join-subs}

pub base-rows : (input other : Query) (places : List ℕ) (label : Label) (db : Database) (env : List Row) →
    SameRows (meaning input db env) (meaning other db env) →
    SameRows (meaning (Base input places label) db env) (meaning other db env)
base-rows input other places label db env s = across (meaning-Base db env input places label) refl s

pub filter-rows : (input other : Query) (condition test : Expr) (subs others : List Sublink) (db : Database) (env : List Row) →
    SameExpr condition test → SameRows (meaning input db env) (meaning other db env) →
    ((us : Bag) (u : Row) → meaning input db env ≡ Good us → IsTrue (member u us) → SubsAgree db env u subs others) →
    SameRows (meaning (Filter input condition subs) db env) (meaning (Filter other test others) db env)
filter-rows input other condition test subs others db env same s agree =
    across (filter-subs db env input subs others agree condition ∙ meaning-Filter db env input condition others
    ∙ (λ i. and_then (meaning input db env) (gather (kept (conditions-same condition test same env (subs_denote others db env) i)))))
    (meaning-Filter db env other test others)
    (filter-input (meaning input db env) (meaning other db env) s (condition_on test env (subs_denote others db env)))

pub project-rows : (input other : Query) (items columns : List Item) (subs others : List Sublink) (db : Database) (env : List Row) →
    SameItems items columns → SameRows (meaning input db env) (meaning other db env) →
    ((us : Bag) (u : Row) → meaning input db env ≡ Good us → IsTrue (member u us) → SubsAgree db env u subs others) →
    SameRows (meaning (Project input items subs) db env) (meaning (Project other columns others) db env)
project-rows input other items columns subs others db env same s agree =
    across (project-subs db env input subs others agree items ∙ meaning-Project db env input items others
    ∙ (λ i. and_then (meaning input db env) (each (items-same items columns same env (subs_denote others db env) i))))
    (meaning-Project db env other columns others)
    (project-input (meaning input db env) (meaning other db env) s (items_on columns env (subs_denote others db env)))

pub join-rows : (kind : JoinKind) (left right other another : Query) (condition test : Expr) (subs others : List Sublink) (db : Database) (env : List Row) →
    SameExpr condition test → SameRows (meaning left db env) (meaning other db env) → SameRows (meaning right db env) (meaning another db env) →
    width_of left ≡ width_of other → width_of right ≡ width_of another →
    ((us vs : Bag) (u v : Row) → meaning left db env ≡ Good us → meaning right db env ≡ Good vs → IsTrue (member u us) → IsTrue (member v vs) →
    SubsAgree db env (u ++ v) subs others) →
    SameRows (meaning (Join kind left right condition subs) db env) (meaning (Join kind other another test others) db env)
join-rows kind left right other another condition test subs others db env same s r wide width agree =
    let answers = subs_denote others db env in
    across (join-subs db env kind left right condition subs others agree ∙ meaning-Join db env kind left right condition others
    ∙ (λ i. both_then (meaning left db env) (meaning right db env) (joined_rows kind (conditions-same condition test same env answers i) (wide i) (width i))))
    (meaning-Join db env kind other another test others)
    (join-inputs (meaning left db env) (meaning other db env) s (meaning right db env) (meaning another db env) r kind (condition_on test env answers) (width_of other) (width_of another))

pub apply-rows : (kind : JoinKind) (left right other another : Query) (db : Database) (env : List Row) →
    SameRows (meaning left db env) (meaning other db env) → width_of right ≡ width_of another →
    ((us : Bag) (u : Row) → meaning left db env ≡ Good us → IsTrue (member u us) → SameRows (meaning right db (u ∷ env)) (meaning another db (u ∷ env))) →
    SameRows (meaning (Apply kind left right) db env) (meaning (Apply kind other another) db env)
apply-rows kind left right other another db env s width under_each =
    across (meaning-Apply db env kind left right
    ∙ (λ i. and_then (meaning left db env) (gather (λ u. mapped (under kind (width i) u) (meaning right db (u ∷ env))))))
    (meaning-Apply db env kind other another)
    (apply-input (meaning left db env) (meaning other db env) s kind (width_of another) (λ u. meaning right db (u ∷ env)) (λ u. meaning another db (u ∷ env))
    (λ us u good here. under_each us u good (in-member u us (in_bag-in u us here))))

pub union-rows : (all : Bool) (left right other another : Query) (db : Database) (env : List Row) →
    SameRows (meaning left db env) (meaning other db env) → SameRows (meaning right db env) (meaning another db env) →
    SameRows (meaning (Union all left right) db env) (meaning (Union all other another) db env)
union-rows all left right other another db env s r =
    across (meaning-Union db env all left right) (meaning-Union db env all other another)
    (union-inputs (meaning left db env) (meaning other db env) s (meaning right db env) (meaning another db env) r all)

pub intersect-rows : (all : Bool) (left right other another : Query) (db : Database) (env : List Row) →
    SameRows (meaning left db env) (meaning other db env) → SameRows (meaning right db env) (meaning another db env) →
    SameRows (meaning (Intersect all left right) db env) (meaning (Intersect all other another) db env)
intersect-rows all left right other another db env s r =
    across (meaning-Intersect db env all left right) (meaning-Intersect db env all other another)
    (intersect-inputs (meaning left db env) (meaning other db env) s (meaning right db env) (meaning another db env) r all)

pub except-rows : (all : Bool) (left right other another : Query) (db : Database) (env : List Row) →
    SameRows (meaning left db env) (meaning other db env) → SameRows (meaning right db env) (meaning another db env) →
    SameRows (meaning (Except all left right) db env) (meaning (Except all other another) db env)
except-rows all left right other another db env s r =
    across (meaning-Except db env all left right) (meaning-Except db env all other another)
    (except-inputs (meaning left db env) (meaning other db env) s (meaning right db env) (meaning another db env) r all)

pub distinct-rows : (input other : Query) (db : Database) (env : List Row) →
    SameRows (meaning input db env) (meaning other db env) →
    SameRows (meaning (Distinct input) db env) (meaning (Distinct other) db env)
distinct-rows input other db env s =
    across (meaning-Distinct db env input) (meaning-Distinct db env other) (distinct-input (meaning input db env) (meaning other db env) s)

pub aggregate-rows : (input other : Query) (groups : List ℕ) (aggregates others : List Aggr) (db : Database) (env : List Row) →
    SameAggregates aggregates others → SameRows (meaning input db env) (meaning other db env) →
    SameRows (meaning (Aggregate input groups aggregates) db env) (meaning (Aggregate other groups others) db env)
aggregate-rows input other groups aggregates others db env same s =
    across (meaning-Aggregate db env input groups aggregates
    ∙ (λ i. and_then (meaning input db env) (grouped groups (functions-same aggregates others same i) (arguments-same aggregates others same env i))))
    (meaning-Aggregate db env other groups others)
    (aggregate-input (meaning input db env) (meaning other db env) s groups (map (λ (aggregate : Aggr). aggregate.function) others) (arguments_on others env))

pub limit-rows : (input other : Query) (keys : List Key) (most : ℕ) (db : Database) (env : List Row) →
    SameRows (meaning input db env) (meaning other db env) →
    SameRows (meaning (Limit input keys most) db env) (meaning (Limit other keys most) db env)
limit-rows input other keys most db env s =
    across (meaning-Limit db env input keys most) (meaning-Limit db env other keys most) (limit-input (meaning input db env) (meaning other db env) s keys most)
