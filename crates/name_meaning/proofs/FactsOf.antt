-- The facts of each node, of the facts of its parts.
use Rattle.std.specs.Prelude.{◌≡◌, ℕ, Bool, List, [], ◌∷◌, ◌++◌, ℤ, nat_abs, true, false, Option, Some, None}
use Rattle.std.proofs.Common.{refl, ap, sym, ◌∙◌, append_assoc, append-nil}
use Rattle.perm_values.specs.declared.key.Key.{Key}
use Rattle.bag_algebra.specs.built.Openings.{shape-Base, shape-Filter, shape-Project, shape-Join, shape-Apply, shape-Union, shape-Intersect, shape-Except, shape-Distinct, shape-Aggregate, shape-Limit, shape-Prov}
use Rattle.bag_algebra.specs.Children.{subs_shape}
use Rattle.bag_algebra.specs.Kinds.{kinds_of, kinds_in}
use Rattle.bag_algebra.specs.declared.expr.Expr.{Expr}
use Rattle.bag_algebra.specs.declared.expr.Item.{Item}
use Rattle.bag_algebra.specs.declared.place.Place.{Place}
use Rattle.bag_algebra.specs.declared.query.Aggr.{Aggr}
use Rattle.bag_algebra.specs.declared.query.JoinKind.{JoinKind}
use Rattle.bag_algebra.specs.declared.query.Label.{Label}
use Rattle.bag_algebra.specs.declared.query.Query.{Query}
use Rattle.bag_algebra.specs.declared.query.Query.TheVariants.{Base, Filter, Project, Join, Apply, Union, Intersect, Except, Distinct, Aggregate, Limit, Prov}
use Rattle.bag_algebra.specs.declared.query.Sublink.{Sublink}
use Rattle.name_meaning.specs.laws.Facts.{Facts, facts_of, no_facts, both_facts, sub_facts, source_facts}
use Rattle.sql_tree.specs.declared.query.SetWord.{SetWord}
use Rattle.sql_tree.specs.declared.query.SetWord.TheVariants as word
use Rattle.name_meaning.specs.Cores.{aggregated_input, distinct_if}
use Rattle.name_meaning.specs.Queries.{set_of, limited}

-- ---- facts put together

abbrev pub facts_with : List Place → Facts
facts_with places = record { places = places }

pub facts-alike : {p q : List Place} → p ≡ q → facts_with p ≡ facts_with q
facts-alike e = ap facts_with e

pub both_facts-none : (a : Facts) → both_facts a no_facts ≡ a
both_facts-none a = facts-alike (append-nil a.places)

pub both_facts-assoc : (a b c : Facts) → both_facts (both_facts a b) c ≡ both_facts a (both_facts b c)
both_facts-assoc a b c = facts-alike (append_assoc a.places b.places c.places)

pub sub_facts-append : (xs ys : List Sublink) → sub_facts (xs ++ ys) ≡ both_facts (sub_facts xs) (sub_facts ys)
sub_facts-append [] ys = refl
sub_facts-append (x ∷ xs) ys = ap (both_facts (facts_of x.query)) (sub_facts-append xs ys)
    ∙ sym (both_facts-assoc (facts_of x.query) (sub_facts xs) (sub_facts ys))

sub_facts-is : (subs : List Sublink) → facts_with (subs_shape subs) ≡ sub_facts subs
sub_facts-is [] = refl
sub_facts-is (sub ∷ subs) = ap (both_facts (facts_of sub.query)) (sub_facts-is subs)

-- ---- the nodes

pub facts-Base : (input : Query) (places : List ℕ) (label : Label) →
    facts_of (Base input places label) ≡ source_facts (record { label = label; kinds = kinds_in (kinds_of input) places })
facts-Base input places label =
    facts-alike (shape-Base input places label)

pub facts-Filter : (input : Query) (condition : Expr) (subs : List Sublink) →
    facts_of (Filter input condition subs) ≡ both_facts (facts_of input) (sub_facts subs)
facts-Filter input condition subs =
    facts-alike (shape-Filter input condition subs)
    ∙ ap (both_facts (facts_of input)) (sub_facts-is subs)

pub facts-Project : (input : Query) (items : List Item) (subs : List Sublink) →
    facts_of (Project input items subs) ≡ both_facts (facts_of input) (sub_facts subs)
facts-Project input items subs =
    facts-alike (shape-Project input items subs)
    ∙ ap (both_facts (facts_of input)) (sub_facts-is subs)

pub facts-Join : (kind : JoinKind) (left right : Query) (condition : Expr) (subs : List Sublink) →
    facts_of (Join kind left right condition subs) ≡ both_facts (both_facts (facts_of left) (facts_of right)) (sub_facts subs)
facts-Join kind left right condition subs =
    facts-alike (shape-Join kind left right condition subs)
    ∙ ap (both_facts (both_facts (facts_of left) (facts_of right))) (sub_facts-is subs)

pub facts-Join_alone : (kind : JoinKind) (left right : Query) (condition : Expr) →
    facts_of (Join kind left right condition []) ≡ both_facts (facts_of left) (facts_of right)
facts-Join_alone kind left right condition =
    facts-alike (shape-Join kind left right condition [])
    ∙ both_facts-none (both_facts (facts_of left) (facts_of right))

pub facts-Apply : (kind : JoinKind) (left right : Query) → facts_of (Apply kind left right) ≡ both_facts (facts_of left) (facts_of right)
facts-Apply kind left right = facts-alike (shape-Apply kind left right)

pub facts-Union : (all : Bool) (left right : Query) → facts_of (Union all left right) ≡ both_facts (facts_of left) (facts_of right)
facts-Union all left right = facts-alike (shape-Union all left right)

pub facts-Intersect : (all : Bool) (left right : Query) → facts_of (Intersect all left right) ≡ both_facts (facts_of left) (facts_of right)
facts-Intersect all left right =
    facts-alike (shape-Intersect all left right)

pub facts-Except : (all : Bool) (left right : Query) → facts_of (Except all left right) ≡ both_facts (facts_of left) (facts_of right)
facts-Except all left right =
    facts-alike (shape-Except all left right)

pub facts-Distinct : (input : Query) → facts_of (Distinct input) ≡ facts_of input
facts-Distinct input = facts-alike (shape-Distinct input)

pub facts-Aggregate : (input : Query) (groups : List ℕ) (aggregates : List Aggr) → facts_of (Aggregate input groups aggregates) ≡ facts_of input
facts-Aggregate input groups aggregates =
    facts-alike (shape-Aggregate input groups aggregates)

pub facts-Limit : (input : Query) (keys : List Key) (count : ℕ) → facts_of (Limit input keys count) ≡ facts_of input
facts-Limit input keys count = facts-alike (shape-Limit input keys count)

pub facts-Prov : (input : Query) → facts_of (Prov input) ≡ no_facts
facts-Prov input = facts-alike (shape-Prov input)

-- ---- queries that clauses make

pub facts-set : (op : SetWord) (all : Bool) (left right : Query) → facts_of (set_of op all left right) ≡ both_facts (facts_of left) (facts_of right)
facts-set word.Union all left right = facts-Union all left right
facts-set word.Except all left right = facts-Except all left right
facts-set word.Intersect all left right = facts-Intersect all left right

pub facts-limited : (limit : Option ℤ) (keys : List Key) (query : Query) → facts_of (limited limit keys query) ≡ facts_of query
facts-limited None keys query = refl
facts-limited (Some n) keys query = facts-Limit query keys (nat_abs n)

pub facts-aggregated : (input : Query) (groups : Option (List ℕ)) (aggregates : List Aggr) → facts_of (aggregated_input input groups aggregates) ≡ facts_of input
facts-aggregated input None aggregates = refl
facts-aggregated input (Some groups) aggregates = facts-Aggregate input groups aggregates

pub facts-distinct_if : (is_distinct : Bool) (query : Query) → facts_of (distinct_if is_distinct query) ≡ facts_of query
facts-distinct_if true query = facts-Distinct query
facts-distinct_if false query = refl
