-- Simple queries, as the constructors of code make them, in words on plain lists of sublinks.
use Rattle.std.specs.Prelude.{◌≡◌, ℕ, Bool, not, ◌&&◌, List, [], ◌∷◌}
use Rattle.std.specs.List.{list_all}
use Rattle.std.proofs.Common.{refl, ap, ◌∙◌}
use Rattle.perm_values.specs.declared.key.Key.{Key}
use Rattle.bag_algebra.specs.built.Openings.{row_of_subs, Filter-is, Project_with-is, Join-is, Apply-is, Union-is, Intersect-is, Except-is, Distinct-is, Aggregate-is, Limit-is}
use Rattle.bag_algebra.specs.built.Scopes.{without_subs, no_subs-row_of_subs}
use Rattle.bag_algebra.specs.declared.expr.Expr.{Expr}
use Rattle.bag_algebra.specs.declared.expr.Item.{Item}
use Rattle.bag_algebra.specs.declared.query.Aggr.{Aggr}
use Rattle.bag_algebra.specs.declared.query.JoinKind.{JoinKind}
use Rattle.bag_algebra.specs.declared.query.Query.{Query}
use Rattle.bag_algebra.specs.declared.query.Query.TheBlock.{shape-the_row-Sublink-1, hidden-the_row-Sublink-1}
use Rattle.bag_algebra.specs.declared.query.Query.TheVariants.{Filter, Project, Join, Apply, Union, Intersect, Except, Distinct, Aggregate, Limit}
use Rattle.bag_algebra.specs.declared.query.Sublink.{Sublink}
use Rattle.query_laws.specs.EveryExpression.{option_passes, items_pass, arguments_pass}
use Rattle.simpler_laws.specs.merged.Once.{gives_once}
use Rattle.folded_literals.specs.Settled.{is_settled}
use Rattle.folded_literals.specs.Simple.{is_true, is_simple, subs_simple}

abbrev pub all_simple : List Sublink → Bool
all_simple subs = list_all (λ (sub : Sublink). option_passes is_settled sub.tested && is_simple sub.query) subs

subs_simple-row_of_subs : (subs : List Sublink) → subs_simple (row_of_subs subs) ≡ all_simple subs
unfolding shape-the_row-Sublink-1 hidden-the_row-Sublink-1 package.denote.Hole.Carrier.hidden
subs_simple-row_of_subs [] = refl
subs_simple-row_of_subs (sub ∷ subs) = ap (λ b. (option_passes is_settled sub.tested && is_simple sub.query) && b) (subs_simple-row_of_subs subs)

pub simple-Filter : (input : Query) (condition : Expr) (subs : List Sublink) → is_simple (Filter input condition subs)
    ≡ ((is_simple input && all_simple subs) && (is_settled condition && not (is_true condition && without_subs subs)))
simple-Filter input condition subs =
    ap is_simple (Filter-is input condition subs)
    ∙ (λ i. (is_simple input && subs_simple-row_of_subs subs i) && (is_settled condition && not (is_true condition && no_subs-row_of_subs subs i)))

pub simple-Project : (input : Query) (items : List Item) (subs : List Sublink) → is_simple (Project input items subs)
    ≡ ((is_simple input && all_simple subs) && items_pass is_settled items)
simple-Project input items subs =
    ap is_simple (Project_with-is input items subs) ∙ (λ i. (is_simple input && subs_simple-row_of_subs subs i) && items_pass is_settled items)

pub simple-Join : (kind : JoinKind) (left right : Query) (condition : Expr) (subs : List Sublink) → is_simple (Join kind left right condition subs)
    ≡ (((is_simple left && is_simple right) && all_simple subs) && is_settled condition)
simple-Join kind left right condition subs =
    ap is_simple (Join-is kind left right condition subs) ∙ (λ i. ((is_simple left && is_simple right) && subs_simple-row_of_subs subs i) && is_settled condition)

pub simple-Apply : (kind : JoinKind) (left right : Query) → is_simple (Apply kind left right) ≡ (is_simple left && is_simple right)
simple-Apply kind left right = ap is_simple (Apply-is kind left right)

pub simple-Union : (all : Bool) (left right : Query) → is_simple (Union all left right) ≡ (is_simple left && is_simple right)
simple-Union all left right = ap is_simple (Union-is all left right)

pub simple-Intersect : (all : Bool) (left right : Query) → is_simple (Intersect all left right) ≡ (is_simple left && is_simple right)
simple-Intersect all left right = ap is_simple (Intersect-is all left right)

pub simple-Except : (all : Bool) (left right : Query) → is_simple (Except all left right) ≡ (is_simple left && is_simple right)
simple-Except all left right = ap is_simple (Except-is all left right)

pub simple-Distinct : (input : Query) → is_simple (Distinct input) ≡ (is_simple input && not (gives_once input))
simple-Distinct input = ap is_simple (Distinct-is input)

pub simple-Aggregate : (input : Query) (groups : List ℕ) (aggregates : List Aggr) → is_simple (Aggregate input groups aggregates)
    ≡ (is_simple input && arguments_pass is_settled aggregates)
simple-Aggregate input groups aggregates = ap is_simple (Aggregate-is input groups aggregates)

pub simple-Limit : (input : Query) (keys : List Key) (count : ℕ) → is_simple (Limit input keys count) ≡ is_simple input
simple-Limit input keys count = ap is_simple (Limit-is input keys count)
