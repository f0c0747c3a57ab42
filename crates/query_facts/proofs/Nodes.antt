-- Whether a query is monotone, by its topmost node and its inputs.
use Rattle.std.proofs.Common.{◌≡◌, ℕ, true, false, ◌&&◌, List, refl, sym, ap, ◌∙◌}
use Rattle.std.specs.List.{list_all}
use mathlib.Core.Bool.{true≢false}
use Rattle.bag_algebra.specs.Inputs.{inputs_of}
use Rattle.bag_algebra.specs.built.Openings.{Base-is, Filter-is, Project_with-is, Join-is}
use Rattle.bag_algebra.specs.built.Patterns.{BaseOf, FilterOf, ProjectOf, JoinOf, ApplyOf, UnionOf, IntersectOf, ExceptOf, DistinctOf, AggregateOf, LimitOf, ProvOf}
use Rattle.bag_algebra.specs.built.Scopes.{without_subs, no_subs-row_of_subs}
use Rattle.bag_algebra.specs.declared.expr.Expr.{Expr}
use Rattle.bag_algebra.specs.declared.expr.Item.{Item}
use Rattle.bag_algebra.specs.declared.query.JoinKind.{JoinKind}
use Rattle.bag_algebra.specs.declared.query.Label.{Label}
use Rattle.bag_algebra.specs.declared.query.Query.{Query}
use Rattle.bag_algebra.specs.declared.query.Query.TheVariants.{Table, Single, Base, Filter, Project, Join}
use Rattle.bag_algebra.specs.declared.query.Sublink.{Sublink}
use Rattle.bag_algebra.proofs.Truths.{and_true}
use Rattle.perm_values.specs.declared.kind.Kind.{Kind}
use Rattle.query_facts.specs.monotone.Monotone.{is_inner, is_monotone, is_relation, is_whole_table, own_monotone}

-- what is no source is monotone where its node is one of a monotone query and its inputs are monotone
pub is_monotone-node : (query : Query) → ((input : Query) (places : List ℕ) (label : Label) → query ≡ Base input places label → ⊥) →
    is_monotone query ≡ (own_monotone query && list_all is_monotone (inputs_of query))
is_monotone-node (Table id kinds) base = refl
is_monotone-node Single base = refl
is_monotone-node (BaseOf input places label) base = absurd (base input places label (sym (Base-is input places label)))
is_monotone-node (FilterOf input condition _ subs) base = simp and_true
is_monotone-node (ProjectOf input items _ subs) base = simp and_true
is_monotone-node (JoinOf kind left right condition _ subs) base = simp and_true
is_monotone-node (ApplyOf kind left right) base = refl
is_monotone-node (UnionOf all left right) base = simp and_true
is_monotone-node (IntersectOf all left right) base = refl
is_monotone-node (ExceptOf all left right) base = refl
is_monotone-node (DistinctOf input) base = simp and_true
is_monotone-node (AggregateOf input groups aggregates) base = refl
is_monotone-node (LimitOf input keys count) base = refl
is_monotone-node (ProvOf input) base = refl

-- ---- on what the constructors of code make

pub is_monotone-Base : (input : Query) (places : List ℕ) (label : Label) → is_monotone (Base input places label) ≡ (is_relation label && is_whole_table input places)
is_monotone-Base input places label = ap is_monotone (Base-is input places label)

pub own_monotone-Filter : (input : Query) (condition : Expr) (subs : List Sublink) → own_monotone (Filter input condition subs) ≡ without_subs subs
own_monotone-Filter input condition subs = ap own_monotone (Filter-is input condition subs) ∙ no_subs-row_of_subs subs

pub own_monotone-Project : (input : Query) (items : List Item) (subs : List Sublink) → own_monotone (Project input items subs) ≡ without_subs subs
own_monotone-Project input items subs = ap own_monotone (Project_with-is input items subs) ∙ no_subs-row_of_subs subs

pub own_monotone-Join : (kind : JoinKind) (left right : Query) (condition : Expr) (subs : List Sublink) →
    own_monotone (Join kind left right condition subs) ≡ (is_inner kind && without_subs subs)
own_monotone-Join kind left right condition subs =
    ap own_monotone (Join-is kind left right condition subs) ∙ ap (λ b. is_inner kind && b) (no_subs-row_of_subs subs)

pub no_whole_table : (q : Query) (places : List ℕ) → ((id : ℕ) (kinds : List Kind) → q ≡ Table id kinds → ⊥) → is_whole_table q places ≡ false
no_whole_table (Table id kinds) places other = absurd (other id kinds refl)
no_whole_table Single places other = refl
no_whole_table (BaseOf input own label) places other = refl
no_whole_table (FilterOf input condition _ subs) places other = refl
no_whole_table (ProjectOf input items _ subs) places other = refl
no_whole_table (JoinOf kind left right condition _ subs) places other = refl
no_whole_table (ApplyOf kind left right) places other = refl
no_whole_table (UnionOf all left right) places other = refl
no_whole_table (IntersectOf all left right) places other = refl
no_whole_table (ExceptOf all left right) places other = refl
no_whole_table (DistinctOf input) places other = refl
no_whole_table (AggregateOf input groups aggregates) places other = refl
no_whole_table (LimitOf input keys count) places other = refl
no_whole_table (ProvOf input) places other = refl

-- a source of a monotone query is over a table
pub whole_table-is : (input : Query) (places : List ℕ) → is_whole_table input places ≡ true → (id : ℕ) × (kinds : List Kind) × (input ≡ Table id kinds)
whole_table-is (Table id kinds) places e = (id, kinds, refl)
whole_table-is Single places e = absurd (true≢false (sym e))
whole_table-is (BaseOf input own label) places e = absurd (true≢false (sym e))
whole_table-is (FilterOf input condition _ subs) places e = absurd (true≢false (sym e))
whole_table-is (ProjectOf input items _ subs) places e = absurd (true≢false (sym e))
whole_table-is (JoinOf kind left right condition _ subs) places e = absurd (true≢false (sym e))
whole_table-is (ApplyOf kind left right) places e = absurd (true≢false (sym e))
whole_table-is (UnionOf all left right) places e = absurd (true≢false (sym e))
whole_table-is (IntersectOf all left right) places e = absurd (true≢false (sym e))
whole_table-is (ExceptOf all left right) places e = absurd (true≢false (sym e))
whole_table-is (DistinctOf input) places e = absurd (true≢false (sym e))
whole_table-is (AggregateOf input groups aggregates) places e = absurd (true≢false (sym e))
whole_table-is (LimitOf input keys count) places e = absurd (true≢false (sym e))
whole_table-is (ProvOf input) places e = absurd (true≢false (sym e))
