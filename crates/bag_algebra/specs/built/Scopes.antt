-- Whether a query is plain, and whether its sources are over tables, on what the constructors of code make, in words on plain lists of children.
use Rattle.std.specs.Prelude.{◌≡◌, ℕ, Bool, true, false, ◌&&◌, List, [], ◌∷◌}
use Rattle.std.proofs.Common.{refl, ap, ◌∙◌}
use Rattle.perm_values.specs.declared.key.Key.{Key}
use Rattle.bag_algebra.specs.built.Openings.{row_of_subs, Base-is, Filter-is, Project_with-is, Join-is, Apply-is, Union-is, Intersect-is, Except-is, Distinct-is, Aggregate-is, Limit-is, Prov-is}
use Rattle.bag_algebra.specs.Rewriting.{is_plain, subs_plain}
use Rattle.bag_algebra.specs.Scoped.{is_table, over_tables, subs_over_tables, no_subs}
use Rattle.bag_algebra.specs.declared.expr.Expr.{Expr}
use Rattle.bag_algebra.specs.declared.expr.Item.{Item}
use Rattle.bag_algebra.specs.declared.query.Aggr.{Aggr}
use Rattle.bag_algebra.specs.declared.query.JoinKind.{JoinKind}
use Rattle.bag_algebra.specs.declared.query.Label.{Label}
use Rattle.bag_algebra.specs.declared.query.Query.{Query}
use Rattle.bag_algebra.specs.declared.query.Query.TheBlock.{shape-the_row-Sublink-1, hidden-the_row-Sublink-1}
use Rattle.bag_algebra.specs.declared.query.Query.TheVariants.{Base, Filter, Project, Join, Apply, Union, Intersect, Except, Distinct, Aggregate, Limit, Prov}
use Rattle.bag_algebra.specs.declared.query.Sublink.{Sublink}

-- the queries of all sublinks are plain
abbrev pub all_plain : List Sublink → Bool
all_plain [] = true
all_plain (sub ∷ subs) = is_plain sub.query && all_plain subs

pub subs_plain-row_of_subs : (subs : List Sublink) → subs_plain (row_of_subs subs) ≡ all_plain subs
unfolding shape-the_row-Sublink-1 hidden-the_row-Sublink-1 package.denote.Hole.Carrier.hidden
subs_plain-row_of_subs [] = refl
subs_plain-row_of_subs (sub ∷ subs) = ap (λ b. is_plain sub.query && b) (subs_plain-row_of_subs subs)

-- those of all sublinks have sources over tables alone
abbrev pub all_over_tables : List Sublink → Bool
all_over_tables [] = true
all_over_tables (sub ∷ subs) = over_tables sub.query && all_over_tables subs

pub subs_over_tables-row_of_subs : (subs : List Sublink) → subs_over_tables (row_of_subs subs) ≡ all_over_tables subs
unfolding shape-the_row-Sublink-1 hidden-the_row-Sublink-1 package.denote.Hole.Carrier.hidden
subs_over_tables-row_of_subs [] = refl
subs_over_tables-row_of_subs (sub ∷ subs) = ap (λ b. over_tables sub.query && b) (subs_over_tables-row_of_subs subs)

-- there is none of them
abbrev pub without_subs : List Sublink → Bool
without_subs [] = true
without_subs (sub ∷ subs) = false

pub no_subs-row_of_subs : (subs : List Sublink) → no_subs (row_of_subs subs) ≡ without_subs subs
unfolding shape-the_row-Sublink-1 hidden-the_row-Sublink-1 package.denote.Hole.Carrier.hidden
no_subs-row_of_subs [] = refl
no_subs-row_of_subs (sub ∷ subs) = refl

-- ---- plain queries

pub is_plain-Base : (input : Query) (places : List ℕ) (label : Label) → is_plain (Base input places label) ≡ is_plain input
is_plain-Base input places label = ap is_plain (Base-is input places label)

pub is_plain-Filter : (input : Query) (condition : Expr) (subs : List Sublink) → is_plain (Filter input condition subs) ≡ (is_plain input && all_plain subs)
is_plain-Filter input condition subs = ap is_plain (Filter-is input condition subs) ∙ ap (λ b. is_plain input && b) (subs_plain-row_of_subs subs)

pub is_plain-Project : (input : Query) (items : List Item) (subs : List Sublink) → is_plain (Project input items subs) ≡ (is_plain input && all_plain subs)
is_plain-Project input items subs = ap is_plain (Project_with-is input items subs) ∙ ap (λ b. is_plain input && b) (subs_plain-row_of_subs subs)

pub is_plain-Join : (kind : JoinKind) (left right : Query) (condition : Expr) (subs : List Sublink) → is_plain (Join kind left right condition subs) ≡ (is_plain left && is_plain right && all_plain subs)
is_plain-Join kind left right condition subs = ap is_plain (Join-is kind left right condition subs) ∙ ap (λ b. is_plain left && is_plain right && b) (subs_plain-row_of_subs subs)

pub is_plain-Apply : (kind : JoinKind) (left right : Query) → is_plain (Apply kind left right) ≡ (is_plain left && is_plain right)
is_plain-Apply kind left right = ap is_plain (Apply-is kind left right)

pub is_plain-Union : (all : Bool) (left right : Query) → is_plain (Union all left right) ≡ (is_plain left && is_plain right)
is_plain-Union all left right = ap is_plain (Union-is all left right)

pub is_plain-Intersect : (all : Bool) (left right : Query) → is_plain (Intersect all left right) ≡ (is_plain left && is_plain right)
is_plain-Intersect all left right = ap is_plain (Intersect-is all left right)

pub is_plain-Except : (all : Bool) (left right : Query) → is_plain (Except all left right) ≡ (is_plain left && is_plain right)
is_plain-Except all left right = ap is_plain (Except-is all left right)

pub is_plain-Distinct : (input : Query) → is_plain (Distinct input) ≡ is_plain input
is_plain-Distinct input = ap is_plain (Distinct-is input)

pub is_plain-Aggregate : (input : Query) (groups : List ℕ) (aggregates : List Aggr) → is_plain (Aggregate input groups aggregates) ≡ is_plain input
is_plain-Aggregate input groups aggregates = ap is_plain (Aggregate-is input groups aggregates)

pub is_plain-Limit : (input : Query) (keys : List Key) (count : ℕ) → is_plain (Limit input keys count) ≡ is_plain input
is_plain-Limit input keys count = ap is_plain (Limit-is input keys count)

pub is_plain-Prov : (input : Query) → is_plain (Prov input) ≡ false
is_plain-Prov input = ap is_plain (Prov-is input)

-- ---- sources over tables

pub over_tables-Base : (input : Query) (places : List ℕ) (label : Label) → over_tables (Base input places label) ≡ is_table input
over_tables-Base input places label = ap over_tables (Base-is input places label)

pub over_tables-Filter : (input : Query) (condition : Expr) (subs : List Sublink) → over_tables (Filter input condition subs) ≡ (over_tables input && all_over_tables subs)
over_tables-Filter input condition subs = ap over_tables (Filter-is input condition subs) ∙ ap (λ b. over_tables input && b) (subs_over_tables-row_of_subs subs)

pub over_tables-Project : (input : Query) (items : List Item) (subs : List Sublink) → over_tables (Project input items subs) ≡ (over_tables input && all_over_tables subs)
over_tables-Project input items subs = ap over_tables (Project_with-is input items subs) ∙ ap (λ b. over_tables input && b) (subs_over_tables-row_of_subs subs)

pub over_tables-Join : (kind : JoinKind) (left right : Query) (condition : Expr) (subs : List Sublink) → over_tables (Join kind left right condition subs) ≡ ((over_tables left && over_tables right) && all_over_tables subs)
over_tables-Join kind left right condition subs = ap over_tables (Join-is kind left right condition subs) ∙ ap (λ b. (over_tables left && over_tables right) && b) (subs_over_tables-row_of_subs subs)

pub over_tables-Apply : (kind : JoinKind) (left right : Query) → over_tables (Apply kind left right) ≡ (over_tables left && over_tables right)
over_tables-Apply kind left right = ap over_tables (Apply-is kind left right)

pub over_tables-Union : (all : Bool) (left right : Query) → over_tables (Union all left right) ≡ (over_tables left && over_tables right)
over_tables-Union all left right = ap over_tables (Union-is all left right)

pub over_tables-Intersect : (all : Bool) (left right : Query) → over_tables (Intersect all left right) ≡ (over_tables left && over_tables right)
over_tables-Intersect all left right = ap over_tables (Intersect-is all left right)

pub over_tables-Except : (all : Bool) (left right : Query) → over_tables (Except all left right) ≡ (over_tables left && over_tables right)
over_tables-Except all left right = ap over_tables (Except-is all left right)

pub over_tables-Distinct : (input : Query) → over_tables (Distinct input) ≡ over_tables input
over_tables-Distinct input = ap over_tables (Distinct-is input)

pub over_tables-Aggregate : (input : Query) (groups : List ℕ) (aggregates : List Aggr) → over_tables (Aggregate input groups aggregates) ≡ over_tables input
over_tables-Aggregate input groups aggregates = ap over_tables (Aggregate-is input groups aggregates)

pub over_tables-Limit : (input : Query) (keys : List Key) (count : ℕ) → over_tables (Limit input keys count) ≡ over_tables input
over_tables-Limit input keys count = ap over_tables (Limit-is input keys count)

pub over_tables-Prov : (input : Query) → over_tables (Prov input) ≡ true
over_tables-Prov input = ap over_tables (Prov-is input)
