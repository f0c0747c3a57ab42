-- A node is higher than its inputs, and than the queries of its sublinks.
use Rattle.std.specs.Prelude.{◌≡◌, ◌≤◌, ℕ, suc, max, Bool, true, false, ℤ, nat_abs, List, [], ◌++◌, map, Option, Some, None}
use Rattle.std.proofs.Common.{ap, arith}
use Rattle.std.specs.Option.{option_map_or}
use Rattle.bag_algebra.proofs.ByChildren.{height_of-node}
use Rattle.bag_algebra.specs.Inputs.{sublinks-row_of_subs}
use Rattle.bag_algebra.specs.Measures.{height_of}
use Rattle.bag_algebra.specs.built.Measures.{subs_height}
use Rattle.bag_algebra.specs.built.Openings.{shape_of_subs, row_of_subs, Base-is, Filter-is, Project_with-is, Join-is, Apply-is, Union-is, Intersect-is, Except-is, Distinct-is, Aggregate-is, Limit-is}
use Rattle.bag_algebra.specs.built.Patterns.{FilterOf, ProjectOf, JoinOf}
use Rattle.bag_algebra.specs.declared.expr.Expr.{Expr}
use Rattle.bag_algebra.specs.declared.expr.Item.{Item}
use Rattle.bag_algebra.specs.declared.query.Aggr.{Aggr}
use Rattle.bag_algebra.specs.declared.query.JoinKind.{JoinKind}
use Rattle.bag_algebra.specs.declared.query.Label.TheVariants.{Relation, External}
use Rattle.bag_algebra.specs.declared.query.Query.{Query}
use Rattle.bag_algebra.specs.declared.query.Query.TheVariants.{Filter, Project, Join, Apply}
use Rattle.bag_algebra.specs.declared.query.Sublink.{Sublink}
use Rattle.perm_values.specs.declared.key.Key.{Key}
use Rattle.sql_tree.specs.declared.query.SetWord.{SetWord}
use Rattle.sql_tree.specs.declared.query.SetWord.TheVariants as word
use Rattle.sql_tree.specs.declared.source.ScopeMark.{ScopeMark}
use Rattle.sql_tree.specs.declared.source.ScopeMark.TheVariants as mark
use Rattle.name_meaning.specs.Cores.{aggregated_input, core_query, distinct_if, filtered, optional_built}
use Rattle.name_meaning.specs.Froms.{Read, all_places, external, marked, names_at, place_of, texts_of}
use Rattle.name_meaning.specs.Items.{Made}
use Rattle.name_meaning.specs.Meanings.{Meant}
use Rattle.name_meaning.specs.Queries.{limited, set_of}

-- ---- nodes with sublinks

pub height-Filter : (input : Query) (condition : Expr) (subs : List Sublink)
    → height_of (Filter input condition subs) ≡ suc (max (height_of input) (subs_height subs))
height-Filter input condition subs =
    omega (
      arith,
      ap height_of (Filter-is input condition subs),
      height_of-node (FilterOf input condition (shape_of_subs subs) (row_of_subs subs)),
      ap subs_height (sublinks-row_of_subs subs),
    )

pub height-Project : (input : Query) (items : List Item) (subs : List Sublink)
    → height_of (Project input items subs) ≡ suc (max (height_of input) (subs_height subs))
height-Project input items subs =
    omega (
      arith,
      ap height_of (Project_with-is input items subs),
      height_of-node (ProjectOf input items (shape_of_subs subs) (row_of_subs subs)),
      ap subs_height (sublinks-row_of_subs subs),
    )

pub height-Join : (kind : JoinKind) (left right : Query) (condition : Expr) (subs : List Sublink)
    → height_of (Join kind left right condition subs) ≡ suc (max (max (height_of left) (height_of right)) (subs_height subs))
height-Join kind left right condition subs =
    omega (
      arith,
      ap height_of (Join-is kind left right condition subs),
      height_of-node (JoinOf kind left right condition (shape_of_subs subs) (row_of_subs subs)),
      ap subs_height (sublinks-row_of_subs subs),
    )

pub height-Apply : (kind : JoinKind) (left right : Query) → height_of (Apply kind left right) ≡ suc (max (height_of left) (height_of right))
height-Apply kind left right = ap height_of (Apply-is kind left right)

-- ---- what stands over one query

pub limited-high : (n : ℕ) (limit : Option ℤ) (keys : List Key) (query : Query) → n ≤ height_of query → n ≤ height_of (limited limit keys query)
limited-high n None keys query h = h
limited-high n (Some count) keys query h = omega (arith, h, ap height_of (Limit-is query keys (nat_abs count)))

distinct-high : (n : ℕ) (is_distinct : Bool) (query : Query) → n ≤ height_of query → n ≤ height_of (distinct_if is_distinct query)
distinct-high n true query h = omega (arith, h, ap height_of (Distinct-is query))
distinct-high n false query h = h

aggregated-high : (n : ℕ) (input : Query) (groups : Option (List ℕ)) (aggregates : List Aggr) → n ≤ height_of input
    → n ≤ height_of (aggregated_input input groups aggregates)
aggregated-high n input None aggregates h = h
aggregated-high n input (Some groups) aggregates h = omega (arith, h, ap height_of (Aggregate-is input groups aggregates))

filtered-high : (n : ℕ) (input : Query) (m : Option Meant) → n ≤ height_of input → n ≤ height_of (filtered input m)
filtered-high n input None h = h
filtered-high n input (Some m) h =
    omega (arith, h, height-Filter input (optional_built (Some m)).expr (optional_built (Some m)).subs)

filtered-subs : (n : ℕ) (input : Query) (m : Option Meant) → n ≤ subs_height (optional_built m).subs → n ≤ height_of (filtered input m)
filtered-subs n input None h = omega (arith, h)
filtered-subs n input (Some m) h =
    omega (arith, h, height-Filter input (optional_built (Some m)).expr (optional_built (Some m)).subs)

-- ---- sources

pub external-high : (n : ℕ) (query : Query) (names : List (List ℕ)) (places : Option (List ℕ)) → n ≤ height_of query
    → n ≤ height_of (option_map_or (external query names) places query)
external-high n query names None h = h
external-high n query names (Some places) h = omega (arith, h, ap height_of (Base-is query places (External (names_at names places))))

pub marked-high : (n : ℕ) (mark : ScopeMark) (label : List ℕ) (names : List (List ℕ)) (read : Read) → n ≤ height_of read.query
    → n ≤ height_of read.plain → n ≤ height_of (marked mark label names read)
marked-high n mark.Plain label names read query plain = plain
marked-high n mark.BaseRelation label names read query plain =
    omega (arith, query, ap height_of (Base-is read.query (all_places names) (Relation label names)))
marked-high n (mark.External attributes) label names read query plain =
    omega (arith, query, ap height_of (Base-is read.query (map (place_of names) (texts_of attributes)) (External (texts_of attributes))))

-- ---- set operations

pub set-high : (n : ℕ) (word : SetWord) (all : Bool) (left right : Query) → n ≤ suc (max (height_of left) (height_of right))
    → n ≤ height_of (set_of word all left right)
set-high n word.Union all left right h = omega (arith, h, ap height_of (Union-is all left right))
set-high n word.Except all left right h = omega (arith, h, ap height_of (Except-is all left right))
set-high n word.Intersect all left right h = omega (arith, h, ap height_of (Intersect-is all left right))

-- ---- cores

module _ (input : Query) (where_meant : Option Meant) (groups : Option (List ℕ)) (having_meant : Option Meant) (list : Made) (is_distinct : Bool) where
  abbrev kept : Query
  kept = filtered input where_meant

  abbrev rows : Query
  rows = aggregated_input kept groups ((optional_built having_meant).aggregates ++ list.aggregates)

  rows-high : (n : ℕ) → n ≤ height_of kept → n ≤ height_of (filtered rows having_meant)
  rows-high n h = filtered-high n rows having_meant (aggregated-high n kept groups ((optional_built having_meant).aggregates ++ list.aggregates) h)

  -- of what FROM, WHERE, HAVING and the list have
  pub core-high : (n a b c d : ℕ) → n ≤ suc (max (max (max a b) c) d) → a ≤ height_of input → b ≤ subs_height (optional_built where_meant).subs
      → c ≤ subs_height (optional_built having_meant).subs → d ≤ subs_height list.subs
      → n ≤ height_of (core_query input where_meant groups having_meant list is_distinct)
  core-high n a b c d within from of_where of_having listed =
      let first = rows-high a (filtered-high a input where_meant from) in
      let second = rows-high b (filtered-subs b input where_meant of_where) in
      let third = filtered-subs c rows having_meant of_having in
      distinct-high n is_distinct (Project (filtered rows having_meant) list.items list.subs)
      (omega (arith, within, first, second, third, listed, height-Project (filtered rows having_meant) list.items list.subs))
