-- What the constructors of code make, opened: first as the variants that definitions match on, then what the
-- definitions are on them, in words on plain lists of children.
use Rattle.std.specs.Prelude.{◌≡◌, ℕ, Bool, List, [], ◌∷◌, ◌++◌, map, take}
use Rattle.std.proofs.Common.{refl, ap, ◌∙◌}
use Rattle.std.specs.List.{flat_map}
use Rattle.null_logic.specs.declared.operator.Operator.{Operator}
use Rattle.null_logic.specs.declared.truth.Truth.{Truth}
use Rattle.perm_values.specs.Rows.{printed_cmp}
use Rattle.perm_values.specs.Values.{same_value, is_null}
use Rattle.perm_values.specs.declared.key.Key.{Key}
use Rattle.perm_values.specs.declared.kind.Kind.{Kind}
use Rattle.perm_values.specs.declared.value.Value.{Value}
use Rattle.perm_values.specs.declared.value.Value.TheVariants.{Boolean}
use Rattle.bag_algebra.specs.Bags.{Row, Bag, once, sorted, union_of, intersect_of, except_of}
use Rattle.bag_algebra.specs.Children.{part_values, step_of, arms_value, subs_denote, subs_shape}
use Rattle.bag_algebra.specs.Expressions.{value, values, step_values, arm_value, Step, operate, chain, has_truth, chosen_arm}
use Rattle.bag_algebra.specs.Kinds.{kinds_of, shape, sub_shape, kinds_in, place_kinds, width_of}
use Rattle.bag_algebra.specs.Meaning.{Database, meaning, witnesses, denote, sub_denote, optional_value, condition_on, items_on, arguments_on}
use Rattle.bag_algebra.specs.Means.{Means, SubMeans, Witness, with_lists, kept, joined_rows, grouped, with_witnesses, with_sub, all_empty, unlisted_means, base_means, filter_means, project_means, join_means, under, apply_means, union_means, intersect_means, except_means, distinct_means, limit_means, aggregate_means, provenance_means}
use Rattle.bag_algebra.specs.Outcome.{Outcome, Good, Bad, and_then, mapped, both, both_then, gather, each}
use Rattle.bag_algebra.specs.built.Patterns.{Shape, many, OpOf, ChainOf, CaseOf, IsNullOf, IsTruthOf, SameOf, BaseOf, FilterOf, ProjectOf, JoinOf, ApplyOf, UnionOf, IntersectOf, ExceptOf, DistinctOf, AggregateOf, LimitOf, ProvOf}
use Rattle.bag_algebra.specs.declared.expr.Arm.{Arm}
use Rattle.bag_algebra.specs.declared.expr.ChainStep.{ChainStep}
use Rattle.bag_algebra.specs.declared.expr.Expr.{Expr, Row_of-Expr, Row_of-Arm, Row_of-ChainStep}
use Rattle.bag_algebra.specs.declared.expr.Expr.TheBlock.{shape-the_row-Expr-0, hidden-the_row-Expr-0, shape-the_row-Expr-1, hidden-the_row-Expr-1, shape-the_row-ChainStep-2, hidden-the_row-ChainStep-2, shape-the_row-Arm-3, hidden-the_row-Arm-3}
use Rattle.bag_algebra.specs.declared.expr.Expr.TheVariants.{Op, Chain, Case, IsNull, IsTruth, Same}
use Rattle.bag_algebra.specs.declared.expr.Item.{Item}
use Rattle.bag_algebra.specs.declared.query.Aggr.{Aggr}
use Rattle.bag_algebra.specs.declared.query.JoinKind.{JoinKind}
use Rattle.bag_algebra.specs.declared.query.Label.{Label}
use Rattle.bag_algebra.specs.declared.query.Query.{Query, Row_of-Sublink, end_of-Sublink}
use Rattle.bag_algebra.specs.declared.query.Query.TheBlock.{shape-the_row-Query-0, hidden-the_row-Query-0, shape-the_row-Sublink-1, hidden-the_row-Sublink-1}
use Rattle.bag_algebra.specs.declared.query.Query.TheVariants.{Table, Single, Base, Filter, Project, Join, Apply, Union, Intersect, Except, Distinct, Aggregate, Limit, Prov}
use Rattle.bag_algebra.specs.declared.query.Sublink.{Sublink}

-- the rows are what they are made of, whatever the lists
pub rows-with_lists : (rows : Outcome Bag) (lists : Row → List Witness) → (with_lists rows lists).rows ≡ rows
rows-with_lists (Good bag) lists = refl
rows-with_lists (Bad faults) lists = refl

-- ---- the shapes and rows of lists of children

abbrev pub shape_of_parts : List Expr → Shape
shape_of_parts parts = shape-the_row-Expr-0 parts

abbrev pub row_of_parts : (parts : List Expr) → Row_of-Expr (many (shape_of_parts parts))
row_of_parts parts = hidden-the_row-Expr-0 parts

abbrev pub shape_of_steps : List ChainStep → Shape
shape_of_steps steps = shape-the_row-ChainStep-2 steps

abbrev pub row_of_steps : (steps : List ChainStep) → Row_of-ChainStep (many (shape_of_steps steps))
row_of_steps steps = hidden-the_row-ChainStep-2 steps

abbrev pub shape_of_arms : List Arm → Shape
shape_of_arms arms = shape-the_row-Arm-3 arms

abbrev pub row_of_arms : (arms : List Arm) → Row_of-Arm (many (shape_of_arms arms))
row_of_arms arms = hidden-the_row-Arm-3 arms

abbrev pub shape_of_subs : List Sublink → Shape
shape_of_subs subs = shape-the_row-Sublink-1 subs

abbrev pub row_of_subs : (subs : List Sublink) → Row_of-Sublink (many (shape_of_subs subs))
row_of_subs subs = hidden-the_row-Sublink-1 subs

-- ---- the variants

pub Op-is : (op : Operator) (parts : List Expr) → Op op parts ≡ OpOf op (shape_of_parts parts) (row_of_parts parts)
Op-is op parts = refl

pub Chain-is : (first : Expr) (steps : List ChainStep) → Chain first steps ≡ ChainOf first (shape_of_steps steps) (row_of_steps steps)
unfolding shape-the_row-Expr-1 hidden-the_row-Expr-1 package.denote.Hole.Carrier.hidden
Chain-is first steps = refl

pub Case-is : (arms : List Arm) (otherwise : Expr) → Case arms otherwise ≡ CaseOf (shape_of_arms arms) (row_of_arms arms) otherwise
unfolding shape-the_row-Expr-1 hidden-the_row-Expr-1 package.denote.Hole.Carrier.hidden
Case-is arms otherwise = refl

pub IsNull-is : (part : Expr) → IsNull part ≡ IsNullOf part
unfolding shape-the_row-Expr-1 hidden-the_row-Expr-1 package.denote.Hole.Carrier.hidden
IsNull-is part = refl

pub IsTruth-is : (truth : Truth) (part : Expr) → IsTruth truth part ≡ IsTruthOf truth part
unfolding shape-the_row-Expr-1 hidden-the_row-Expr-1 package.denote.Hole.Carrier.hidden
IsTruth-is truth part = refl

pub Same-is : (first second : Expr) → Same first second ≡ SameOf first second
unfolding shape-the_row-Expr-1 hidden-the_row-Expr-1 package.denote.Hole.Carrier.hidden
Same-is first second = refl

pub Base-is : (input : Query) (places : List ℕ) (label : Label) → Base input places label ≡ BaseOf input places label
unfolding shape-the_row-Query-0 hidden-the_row-Query-0 package.denote.Hole.Carrier.hidden
Base-is input places label = refl

pub Filter-is : (input : Query) (condition : Expr) (subs : List Sublink) →
    Filter input condition subs ≡ FilterOf input condition (shape_of_subs subs) (row_of_subs subs)
unfolding shape-the_row-Query-0 hidden-the_row-Query-0 package.denote.Hole.Carrier.hidden
Filter-is input condition subs = refl

-- a projection without sublinks
pub Project-is : (input : Query) (items : List Item) → Project input items [] ≡ ProjectOf input items [] end_of-Sublink
unfolding shape-the_row-Query-0 hidden-the_row-Query-0 shape-the_row-Sublink-1 hidden-the_row-Sublink-1 package.denote.Hole.Carrier.hidden
Project-is input items = refl

pub Project_with-is : (input : Query) (items : List Item) (subs : List Sublink) →
    Project input items subs ≡ ProjectOf input items (shape_of_subs subs) (row_of_subs subs)
unfolding shape-the_row-Query-0 hidden-the_row-Query-0 package.denote.Hole.Carrier.hidden
Project_with-is input items subs = refl

pub Join-is : (kind : JoinKind) (left right : Query) (condition : Expr) (subs : List Sublink) →
    Join kind left right condition subs ≡ JoinOf kind left right condition (shape_of_subs subs) (row_of_subs subs)
unfolding shape-the_row-Query-0 hidden-the_row-Query-0 package.denote.Hole.Carrier.hidden
Join-is kind left right condition subs = refl

pub Apply-is : (kind : JoinKind) (left right : Query) → Apply kind left right ≡ ApplyOf kind left right
unfolding shape-the_row-Query-0 hidden-the_row-Query-0 package.denote.Hole.Carrier.hidden
Apply-is kind left right = refl

pub Union-is : (all : Bool) (left right : Query) → Union all left right ≡ UnionOf all left right
unfolding shape-the_row-Query-0 hidden-the_row-Query-0 package.denote.Hole.Carrier.hidden
Union-is all left right = refl

pub Intersect-is : (all : Bool) (left right : Query) → Intersect all left right ≡ IntersectOf all left right
unfolding shape-the_row-Query-0 hidden-the_row-Query-0 package.denote.Hole.Carrier.hidden
Intersect-is all left right = refl

pub Except-is : (all : Bool) (left right : Query) → Except all left right ≡ ExceptOf all left right
unfolding shape-the_row-Query-0 hidden-the_row-Query-0 package.denote.Hole.Carrier.hidden
Except-is all left right = refl

pub Distinct-is : (input : Query) → Distinct input ≡ DistinctOf input
unfolding shape-the_row-Query-0 hidden-the_row-Query-0 package.denote.Hole.Carrier.hidden
Distinct-is input = refl

pub Aggregate-is : (input : Query) (groups : List ℕ) (aggregates : List Aggr) →
    Aggregate input groups aggregates ≡ AggregateOf input groups aggregates
unfolding shape-the_row-Query-0 hidden-the_row-Query-0 package.denote.Hole.Carrier.hidden
Aggregate-is input groups aggregates = refl

pub Limit-is : (input : Query) (keys : List Key) (count : ℕ) → Limit input keys count ≡ LimitOf input keys count
unfolding shape-the_row-Query-0 hidden-the_row-Query-0 package.denote.Hole.Carrier.hidden
Limit-is input keys count = refl

pub Prov-is : (input : Query) → Prov input ≡ ProvOf input
unfolding shape-the_row-Query-0 hidden-the_row-Query-0 package.denote.Hole.Carrier.hidden
Prov-is input = refl

-- ---- the values of lists of children

pub values-row_of_parts : (parts : List Expr) (u : Row) (env : List Row) (subs : List Value) →
    values (row_of_parts parts) u env subs ≡ part_values parts u env subs
unfolding shape-the_row-Expr-0 hidden-the_row-Expr-0 package.denote.Hole.Carrier.hidden
values-row_of_parts [] u env subs = refl
values-row_of_parts (part ∷ parts) u env subs = ap (both (λ v vs. v ∷ vs) (value part u env subs)) (values-row_of_parts parts u env subs)

pub both-mapped : {X Y Z W : Type 0} (f : Y → Z → W) (g : X → Y) (a : Outcome X) (b : Outcome Z) → both (λ x z. f (g x) z) a b ≡ both f (mapped g a) b
both-mapped f g (Good x) (Good z) = refl
both-mapped f g (Good x) (Bad h) = refl
both-mapped f g (Bad k) (Good z) = refl
both-mapped f g (Bad k) (Bad h) = refl

pub step_values-row_of_steps : (steps : List ChainStep) (u : Row) (env : List Row) (subs : List Value) →
    step_values (row_of_steps steps) u env subs ≡ each (step_of u env subs) steps
unfolding shape-the_row-ChainStep-2 hidden-the_row-ChainStep-2 package.denote.Hole.Carrier.hidden
step_values-row_of_steps [] u env subs = refl
step_values-row_of_steps (step ∷ steps) u env subs =
    let made : Value → Step = λ v. record { operation = step.op; operand = v } in
    ap (both (λ v ss. made v ∷ ss) (value step.part u env subs)) (step_values-row_of_steps steps u env subs)
    ∙ both-mapped (λ s ss. s ∷ ss) made (value step.part u env subs) (each (step_of u env subs) steps)

pub arm_value-row_of_arms : (arms : List Arm) (u : Row) (env : List Row) (subs : List Value) (otherwise : Outcome Value) →
    arm_value (row_of_arms arms) u env subs otherwise ≡ arms_value arms u env subs otherwise
unfolding shape-the_row-Arm-3 hidden-the_row-Arm-3 package.denote.Hole.Carrier.hidden
arm_value-row_of_arms [] u env subs otherwise = refl
arm_value-row_of_arms (arm ∷ arms) u env subs otherwise =
    ap (chosen_arm (value arm.condition u env subs) (value arm.value u env subs)) (arm_value-row_of_arms arms u env subs otherwise)

pub sub_denote-row_of_subs : (subs : List Sublink) (db : Database) (env : List Row) →
    sub_denote (row_of_subs subs) db env ≡ subs_denote subs db env
unfolding shape-the_row-Sublink-1 hidden-the_row-Sublink-1 package.denote.Hole.Carrier.hidden
sub_denote-row_of_subs [] db env = refl
sub_denote-row_of_subs (sub ∷ subs) db env =
    ap (with_sub sub.kind (optional_value sub.tested env) (λ u. denote sub.query db (u ∷ env)) (all_empty (shape sub.query)))
    (sub_denote-row_of_subs subs db env)

pub sub_shape-row_of_subs : (subs : List Sublink) → sub_shape (row_of_subs subs) ≡ subs_shape subs
unfolding shape-the_row-Sublink-1 hidden-the_row-Sublink-1 package.denote.Hole.Carrier.hidden
sub_shape-row_of_subs [] = refl
sub_shape-row_of_subs (sub ∷ subs) = ap (λ places. shape sub.query ++ places) (sub_shape-row_of_subs subs)

-- ---- the values of expressions

module _ (u : Row) (env : List Row) (subs : List Value) where
  pub value-Op : (op : Operator) (parts : List Expr) →
      value (Op op parts) u env subs ≡ and_then (part_values parts u env subs) (operate op)
  value-Op op parts = ap (λ vs. and_then vs (operate op)) (values-row_of_parts parts u env subs)

  pub value-Chain : (first : Expr) (steps : List ChainStep) →
      value (Chain first steps) u env subs ≡ both_then (value first u env subs) (each (step_of u env subs) steps) chain
  value-Chain first steps =
      ap (λ e. value e u env subs) (Chain-is first steps)
      ∙ ap (λ ss. both_then (value first u env subs) ss chain) (step_values-row_of_steps steps u env subs)

  pub value-Case : (arms : List Arm) (otherwise : Expr) →
      value (Case arms otherwise) u env subs ≡ arms_value arms u env subs (value otherwise u env subs)
  value-Case arms otherwise =
      ap (λ e. value e u env subs) (Case-is arms otherwise)
      ∙ arm_value-row_of_arms arms u env subs (value otherwise u env subs)

  pub value-IsNull : (part : Expr) →
      value (IsNull part) u env subs ≡ mapped (λ v. Boolean (is_null v)) (value part u env subs)
  value-IsNull part = ap (λ e. value e u env subs) (IsNull-is part)

  pub value-IsTruth : (truth : Truth) (part : Expr) →
      value (IsTruth truth part) u env subs ≡ mapped (λ v. Boolean (has_truth truth v)) (value part u env subs)
  value-IsTruth truth part = ap (λ e. value e u env subs) (IsTruth-is truth part)

  pub value-Same : (first second : Expr) →
      value (Same first second) u env subs
      ≡ both (λ v w. Boolean (same_value v w)) (value first u env subs) (value second u env subs)
  value-Same first second = ap (λ e. value e u env subs) (Same-is first second)

-- ---- the kinds and places of queries

pub kinds_of-Base : (input : Query) (places : List ℕ) (label : Label) → kinds_of (Base input places label) ≡ kinds_of input
kinds_of-Base input places label = ap kinds_of (Base-is input places label)

pub kinds_of-Filter : (input : Query) (condition : Expr) (subs : List Sublink) → kinds_of (Filter input condition subs) ≡ kinds_of input
kinds_of-Filter input condition subs = ap kinds_of (Filter-is input condition subs)

pub kinds_of-Project : (input : Query) (items : List Item) (subs : List Sublink) →
    kinds_of (Project input items subs) ≡ map (λ (item : Item). item.kind) items
kinds_of-Project input items subs = ap kinds_of (Project_with-is input items subs)

pub kinds_of-Join : (kind : JoinKind) (left right : Query) (condition : Expr) (subs : List Sublink) →
    kinds_of (Join kind left right condition subs) ≡ kinds_of left ++ kinds_of right
kinds_of-Join kind left right condition subs = ap kinds_of (Join-is kind left right condition subs)

pub kinds_of-Apply : (kind : JoinKind) (left right : Query) → kinds_of (Apply kind left right) ≡ kinds_of left ++ kinds_of right
kinds_of-Apply kind left right = ap kinds_of (Apply-is kind left right)

pub kinds_of-Union : (all : Bool) (left right : Query) → kinds_of (Union all left right) ≡ kinds_of left
kinds_of-Union all left right = ap kinds_of (Union-is all left right)

pub kinds_of-Intersect : (all : Bool) (left right : Query) → kinds_of (Intersect all left right) ≡ kinds_of left
kinds_of-Intersect all left right = ap kinds_of (Intersect-is all left right)

pub kinds_of-Except : (all : Bool) (left right : Query) → kinds_of (Except all left right) ≡ kinds_of left
kinds_of-Except all left right = ap kinds_of (Except-is all left right)

pub kinds_of-Distinct : (input : Query) → kinds_of (Distinct input) ≡ kinds_of input
kinds_of-Distinct input = ap kinds_of (Distinct-is input)

pub kinds_of-Aggregate : (input : Query) (groups : List ℕ) (aggregates : List Aggr) →
    kinds_of (Aggregate input groups aggregates)
    ≡ kinds_in (kinds_of input) groups ++ map (λ (aggregate : Aggr). aggregate.kind) aggregates
kinds_of-Aggregate input groups aggregates = ap kinds_of (Aggregate-is input groups aggregates)

pub kinds_of-Limit : (input : Query) (keys : List Key) (count : ℕ) → kinds_of (Limit input keys count) ≡ kinds_of input
kinds_of-Limit input keys count = ap kinds_of (Limit-is input keys count)

pub kinds_of-Prov : (input : Query) → kinds_of (Prov input) ≡ kinds_of input ++ place_kinds (shape input)
kinds_of-Prov input = ap kinds_of (Prov-is input)

pub shape-Base : (input : Query) (places : List ℕ) (label : Label) →
    shape (Base input places label) ≡ record { label = label; kinds = kinds_in (kinds_of input) places } ∷ []
shape-Base input places label = ap shape (Base-is input places label)

pub shape-Filter : (input : Query) (condition : Expr) (subs : List Sublink) →
    shape (Filter input condition subs) ≡ shape input ++ subs_shape subs
shape-Filter input condition subs =
    ap shape (Filter-is input condition subs) ∙ ap (λ places. shape input ++ places) (sub_shape-row_of_subs subs)

pub shape-Project : (input : Query) (items : List Item) (subs : List Sublink) →
    shape (Project input items subs) ≡ shape input ++ subs_shape subs
shape-Project input items subs =
    ap shape (Project_with-is input items subs) ∙ ap (λ places. shape input ++ places) (sub_shape-row_of_subs subs)

pub shape-Join : (kind : JoinKind) (left right : Query) (condition : Expr) (subs : List Sublink) →
    shape (Join kind left right condition subs) ≡ shape left ++ shape right ++ subs_shape subs
shape-Join kind left right condition subs =
    ap shape (Join-is kind left right condition subs)
    ∙ ap (λ places. shape left ++ shape right ++ places) (sub_shape-row_of_subs subs)

pub shape-Apply : (kind : JoinKind) (left right : Query) → shape (Apply kind left right) ≡ shape left ++ shape right
shape-Apply kind left right = ap shape (Apply-is kind left right)

pub shape-Union : (all : Bool) (left right : Query) → shape (Union all left right) ≡ shape left ++ shape right
shape-Union all left right = ap shape (Union-is all left right)

pub shape-Intersect : (all : Bool) (left right : Query) → shape (Intersect all left right) ≡ shape left ++ shape right
shape-Intersect all left right = ap shape (Intersect-is all left right)

pub shape-Except : (all : Bool) (left right : Query) → shape (Except all left right) ≡ shape left ++ shape right
shape-Except all left right = ap shape (Except-is all left right)

pub shape-Distinct : (input : Query) → shape (Distinct input) ≡ shape input
shape-Distinct input = ap shape (Distinct-is input)

pub shape-Aggregate : (input : Query) (groups : List ℕ) (aggregates : List Aggr) →
    shape (Aggregate input groups aggregates) ≡ shape input
shape-Aggregate input groups aggregates = ap shape (Aggregate-is input groups aggregates)

pub shape-Limit : (input : Query) (keys : List Key) (count : ℕ) → shape (Limit input keys count) ≡ shape input
shape-Limit input keys count = ap shape (Limit-is input keys count)

pub shape-Prov : (input : Query) → shape (Prov input) ≡ []
shape-Prov input = ap shape (Prov-is input)

-- ---- the meaning of queries

module _ (db : Database) (env : List Row) where
  pub denote-Table : (id : ℕ) (kinds : List Kind) → denote (Table id kinds) db env ≡ unlisted_means (Good (db id))
  denote-Table id kinds = refl

  pub denote-Single : denote Single db env ≡ unlisted_means (Good ([] ∷ []))
  denote-Single = refl

  pub denote-Base : (input : Query) (places : List ℕ) (label : Label) →
      denote (Base input places label) db env ≡ base_means places (denote input db env)
  denote-Base input places label = ap (λ q. denote q db env) (Base-is input places label)

  pub denote-Filter : (input : Query) (condition : Expr) (subs : List Sublink) →
      denote (Filter input condition subs) db env
      ≡ filter_means (condition_on condition env (subs_denote subs db env)) (subs_denote subs db env).contributions (denote input db env)
  denote-Filter input condition subs =
      ap (λ q. denote q db env) (Filter-is input condition subs)
      ∙ ap (λ (s : SubMeans). filter_means (condition_on condition env s) s.contributions (denote input db env)) (sub_denote-row_of_subs subs db env)

  pub denote-Project : (input : Query) (items : List Item) (subs : List Sublink) →
      denote (Project input items subs) db env
      ≡ project_means (items_on items env (subs_denote subs db env)) (subs_denote subs db env).contributions (denote input db env)
  denote-Project input items subs =
      ap (λ q. denote q db env) (Project_with-is input items subs)
      ∙ ap (λ (s : SubMeans). project_means (items_on items env s) s.contributions (denote input db env)) (sub_denote-row_of_subs subs db env)

  pub denote-Join : (kind : JoinKind) (left right : Query) (condition : Expr) (subs : List Sublink) →
      denote (Join kind left right condition subs) db env
      ≡ join_means kind (condition_on condition env (subs_denote subs db env)) (subs_denote subs db env).contributions
      (record { left = all_empty (shape left); right = all_empty (shape right); subs = (subs_denote subs db env).blank })
      (width_of left) (width_of right) (denote left db env) (denote right db env)
  denote-Join kind left right condition subs =
      ap (λ q. denote q db env) (Join-is kind left right condition subs)
      ∙ ap (λ (s : SubMeans). join_means kind (condition_on condition env s) s.contributions
      (record { left = all_empty (shape left); right = all_empty (shape right); subs = s.blank })
      (width_of left) (width_of right) (denote left db env) (denote right db env)) (sub_denote-row_of_subs subs db env)

  pub denote-Apply : (kind : JoinKind) (left right : Query) →
      denote (Apply kind left right) db env
      ≡ apply_means kind (width_of right) (all_empty (shape right)) (denote left db env) (λ u. denote right db (u ∷ env))
  denote-Apply kind left right = ap (λ q. denote q db env) (Apply-is kind left right)

  pub denote-Union : (all : Bool) (left right : Query) →
      denote (Union all left right) db env
      ≡ union_means all (all_empty (shape left)) (all_empty (shape right)) (denote left db env) (denote right db env)
  denote-Union all left right = ap (λ q. denote q db env) (Union-is all left right)

  pub denote-Intersect : (all : Bool) (left right : Query) →
      denote (Intersect all left right) db env ≡ intersect_means all (denote left db env) (denote right db env)
  denote-Intersect all left right = ap (λ q. denote q db env) (Intersect-is all left right)

  pub denote-Except : (all : Bool) (left right : Query) →
      denote (Except all left right) db env ≡ except_means all (all_empty (shape right)) (denote left db env) (denote right db env)
  denote-Except all left right = ap (λ q. denote q db env) (Except-is all left right)

  pub denote-Distinct : (input : Query) → denote (Distinct input) db env ≡ distinct_means (denote input db env)
  denote-Distinct input = ap (λ q. denote q db env) (Distinct-is input)

  pub denote-Aggregate : (input : Query) (groups : List ℕ) (aggregates : List Aggr) →
      denote (Aggregate input groups aggregates) db env
      ≡ aggregate_means groups (map (λ (aggregate : Aggr). aggregate.function) aggregates) (arguments_on aggregates env)
      (all_empty (shape input)) (denote input db env)
  denote-Aggregate input groups aggregates = ap (λ q. denote q db env) (Aggregate-is input groups aggregates)

  pub denote-Limit : (input : Query) (keys : List Key) (count : ℕ) →
      denote (Limit input keys count) db env ≡ limit_means keys count (denote input db env)
  denote-Limit input keys count = ap (λ q. denote q db env) (Limit-is input keys count)

  pub denote-Prov : (input : Query) → denote (Prov input) db env ≡ provenance_means (denote input db env)
  denote-Prov input = ap (λ q. denote q db env) (Prov-is input)

  -- ---- the rows of queries

  pub meaning-Base : (input : Query) (places : List ℕ) (label : Label) → meaning (Base input places label) db env ≡ meaning input db env
  meaning-Base input places label = ap (λ (m : Means). m.rows) (denote-Base input places label) ∙ rows-with_lists _ _

  pub meaning-Filter : (input : Query) (condition : Expr) (subs : List Sublink) →
      meaning (Filter input condition subs) db env
      ≡ and_then (meaning input db env) (gather (kept (condition_on condition env (subs_denote subs db env))))
  meaning-Filter input condition subs = ap (λ (m : Means). m.rows) (denote-Filter input condition subs) ∙ rows-with_lists _ _

  pub meaning-Project : (input : Query) (items : List Item) (subs : List Sublink) →
      meaning (Project input items subs) db env ≡ and_then (meaning input db env) (each (items_on items env (subs_denote subs db env)))
  meaning-Project input items subs = ap (λ (m : Means). m.rows) (denote-Project input items subs) ∙ rows-with_lists _ _

  pub meaning-Join : (kind : JoinKind) (left right : Query) (condition : Expr) (subs : List Sublink) →
      meaning (Join kind left right condition subs) db env
      ≡ both_then (meaning left db env) (meaning right db env)
      (joined_rows kind (condition_on condition env (subs_denote subs db env)) (width_of left) (width_of right))
  meaning-Join kind left right condition subs = ap (λ (m : Means). m.rows) (denote-Join kind left right condition subs) ∙ rows-with_lists _ _

  pub meaning-Apply : (kind : JoinKind) (left right : Query) →
      meaning (Apply kind left right) db env
      ≡ and_then (meaning left db env) (gather (λ u. mapped (under kind (width_of right) u) (meaning right db (u ∷ env))))
  meaning-Apply kind left right = ap (λ (m : Means). m.rows) (denote-Apply kind left right) ∙ rows-with_lists _ _

  pub meaning-Union : (all : Bool) (left right : Query) →
      meaning (Union all left right) db env ≡ both (union_of all) (meaning left db env) (meaning right db env)
  meaning-Union all left right = ap (λ (m : Means). m.rows) (denote-Union all left right) ∙ rows-with_lists _ _

  pub meaning-Intersect : (all : Bool) (left right : Query) →
      meaning (Intersect all left right) db env ≡ both (intersect_of all) (meaning left db env) (meaning right db env)
  meaning-Intersect all left right = ap (λ (m : Means). m.rows) (denote-Intersect all left right) ∙ rows-with_lists _ _

  pub meaning-Except : (all : Bool) (left right : Query) →
      meaning (Except all left right) db env ≡ both (except_of all) (meaning left db env) (meaning right db env)
  meaning-Except all left right = ap (λ (m : Means). m.rows) (denote-Except all left right) ∙ rows-with_lists _ _

  pub meaning-Distinct : (input : Query) → meaning (Distinct input) db env ≡ mapped once (meaning input db env)
  meaning-Distinct input = ap (λ (m : Means). m.rows) (denote-Distinct input) ∙ rows-with_lists _ _

  pub meaning-Aggregate : (input : Query) (groups : List ℕ) (aggregates : List Aggr) →
      meaning (Aggregate input groups aggregates) db env
      ≡ and_then (meaning input db env) (grouped groups (map (λ (aggregate : Aggr). aggregate.function) aggregates) (arguments_on aggregates env))
  meaning-Aggregate input groups aggregates = ap (λ (m : Means). m.rows) (denote-Aggregate input groups aggregates) ∙ rows-with_lists _ _

  pub meaning-Limit : (input : Query) (keys : List Key) (count : ℕ) →
      meaning (Limit input keys count) db env ≡ mapped (λ bag. take count (sorted (printed_cmp keys) bag)) (meaning input db env)
  meaning-Limit input keys count = ap (λ (m : Means). m.rows) (denote-Limit input keys count) ∙ rows-with_lists _ _

  pub meaning-Prov : (input : Query) →
      meaning (Prov input) db env ≡ mapped (λ bag. once (flat_map (with_witnesses (witnesses input db env)) bag)) (meaning input db env)
  meaning-Prov input = ap (λ (m : Means). m.rows) (denote-Prov input) ∙ rows-with_lists _ _
