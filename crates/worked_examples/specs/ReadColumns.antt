-- How many of the first columns of the nearest outer row a query reads, worked out: queries over one table, with sublinks in
-- sublinks, and the rows that a candidate has to match in a rewritten EXISTS.
use Rattle.std.specs.Prelude.{◌≡◌, ℕ, true, [], ◌∷◌, Option, Some, None, refl, codes}
use Rattle.null_logic.specs.declared.arith.Arith.TheVariants.{Add}
use Rattle.perm_values.specs.declared.kind.Kind.TheVariants as kind
use Rattle.bag_algebra.specs.built.Patterns.{AggregateOf, BaseOf, CaseOf, ChainOf, FilterOf, JoinOf, LimitOf, ProjectOf, ProvOf, UnionOf}
use Rattle.bag_algebra.specs.declared.expr.Expr.{Expr, more_of-Arm, end_of-Arm, more_of-ChainStep, end_of-ChainStep}
use Rattle.bag_algebra.specs.declared.expr.Expr.TheBlock.{shape-the_row-Expr-0, hidden-the_row-Expr-0, shape-the_row-Expr-1, hidden-the_row-Expr-1}
use Rattle.bag_algebra.specs.declared.expr.Expr.TheVariants.{Col, Sub}
use Rattle.bag_algebra.specs.declared.query.AggFn.TheVariants.{Sum}
use Rattle.bag_algebra.specs.declared.query.JoinKind.TheVariants.{Left}
use Rattle.bag_algebra.specs.declared.query.Label.TheVariants.{Relation}
use Rattle.bag_algebra.specs.declared.query.Query.{Query, more_of-Sublink, end_of-Sublink}
use Rattle.bag_algebra.specs.declared.query.Query.TheBlock.{shape-the_row-Query-0, hidden-the_row-Query-0, shape-the_row-Sublink-1, hidden-the_row-Sublink-1}
use Rattle.bag_algebra.specs.declared.query.SubKind.TheVariants.{Exists}
use Rattle.query_facts.specs.reached.Reach.{reach_of}
use Rattle.rewrite_sublink.specs.Candidates.{matching, or_nulls}
use Rattle.worked_examples.specs.RewrittenRows.{below, table, twice}

-- the rows of a table where the column at this level and place is true
abbrev pub reading : ℕ → ℕ → Query
reading level place = FilterOf (table 1) (Col level place) [] end_of-Sublink

-- those where a sublink over the query is, with this left operand
abbrev pub asking : Option Expr → Query → Query
asking tested query = FilterOf (table 1) (Sub 0) (tt ∷ []) (more_of-Sublink Exists tested query end_of-Sublink)

-- ---- whose row a column is of

no-column : reach_of (table 1) ≡ 0
no-column = refl

own-row : reach_of (reading 0 2) ≡ 0
own-row = refl

nearest-outer-row : reach_of (reading 1 2) ≡ 3
nearest-outer-row = refl

row-further-out : reach_of (reading 2 2) ≡ 0
row-further-out = refl

row-of-sublinks-node : reach_of (asking None (reading 1 2)) ≡ 0
row-of-sublinks-node = refl

sublink : reach_of (asking None (reading 2 2)) ≡ 3
sublink = refl

sublink-further-out : reach_of (asking None (reading 3 2)) ≡ 0
sublink-further-out = refl

sublink-of-sublink : reach_of (asking None (asking None (reading 3 1))) ≡ 2
sublink-of-sublink = refl

-- ---- the greatest of all

left-operand : reach_of (asking (Some (Col 1 4)) (reading 2 2)) ≡ 5
left-operand = refl

second-side : reach_of (UnionOf true (reading 1 0) (reading 1 2)) ≡ 3
second-side = refl

input-of-items : reach_of (ProjectOf (reading 1 3) (record { expr = Col 1 0; kind = kind.Integer } ∷ []) [] end_of-Sublink) ≡ 4
input-of-items = refl

condition-of-join : reach_of (JoinOf Left (table 1) (reading 1 1) (CaseOf (tt ∷ []) (more_of-Arm (Col 1 0) (Col 1 6) end_of-Arm) (Col 0 9)) [] end_of-Sublink) ≡ 7
condition-of-join = refl

step-of-chain : reach_of (FilterOf (table 1) (ChainOf (Col 1 0) (tt ∷ []) (more_of-ChainStep Add (Col 1 1) end_of-ChainStep)) [] end_of-Sublink) ≡ 2
step-of-chain = refl

argument-of-aggregate : reach_of (AggregateOf (reading 2 8) [] (record { function = Sum; argument = Some (Col 1 1); kind = kind.Integer } ∷ [])) ≡ 2
argument-of-aggregate = refl

provenance : reach_of (ProvOf (LimitOf (BaseOf (reading 1 0) (0 ∷ []) (Relation (codes "r") (codes "a" ∷ []))) [] 1)) ≡ 1
provenance = refl

-- ---- EXISTS (SELECT c FROM s WHERE c < a) of a row of r's rewriting, two columns wide, beside a candidate in its third

contributions : reach_of (or_nulls (below (twice 2))) ≡ 1
unfolding shape-the_row-Query-0 hidden-the_row-Query-0 shape-the_row-Sublink-1 hidden-the_row-Sublink-1 package.denote.Hole.Carrier.hidden
contributions = refl

matching-rows : reach_of (matching 1 2 1 (below (twice 2))) ≡ 3
unfolding shape-the_row-Query-0 hidden-the_row-Query-0 shape-the_row-Sublink-1 hidden-the_row-Sublink-1 shape-the_row-Expr-0 hidden-the_row-Expr-0 shape-the_row-Expr-1 hidden-the_row-Expr-1 package.denote.Hole.Carrier.hidden
matching-rows = refl
