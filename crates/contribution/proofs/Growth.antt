-- A query's meaning rests on the columns that its outer kinds name alone.
use Rattle.std.proofs.Common.{◌≡◌, ℕ, zero, suc, true, List, [], ◌∷◌, ◌++◌, map, slice_get, Option, Some, None, refl, sym, ap, true≢false}
use Rattle.perm_values.specs.Rows.{value_at}
use Rattle.perm_values.specs.Values.{fits, same_value, is_null}
use Rattle.perm_values.specs.declared.kind.Kind.{Kind}
use Rattle.perm_values.specs.declared.kind.Kind.TheVariants.{Integer, Boolean}
use Rattle.perm_values.specs.declared.value.Value.{Value}
use Rattle.perm_values.specs.declared.value.Value.TheVariants as value
use Rattle.bag_algebra.specs.Bags.{Row}
use Rattle.bag_algebra.specs.Expressions.{row_at, operate, chain, has_truth, chosen_arm, value, values, step_values, arm_value}
use Rattle.bag_algebra.specs.Fits.{row_begins, env_fits}
use Rattle.bag_algebra.specs.Kinds.{kinds_of, shape, width_of}
use Rattle.bag_algebra.specs.Meaning.{Database, denote, sub_denote, optional_value, condition_on, items_on, arguments_on}
use Rattle.bag_algebra.specs.Means.{SubMeans, with_sub, all_empty, base_means, filter_means, project_means, join_means, apply_means, union_means, intersect_means, except_means, distinct_means, aggregate_means, limit_means, provenance_means}
use Rattle.bag_algebra.specs.Outcome.{Outcome, Good, and_then, mapped, both, both_then, each}
use Rattle.bag_algebra.specs.built.Patterns.{OpOf, ChainOf, CaseOf, IsNullOf, IsTruthOf, SameOf, BaseOf, FilterOf, ProjectOf, JoinOf, ApplyOf, UnionOf, IntersectOf, ExceptOf, DistinctOf, AggregateOf, LimitOf, ProvOf}
use Rattle.bag_algebra.specs.WellFormed.{column_kind, HasKind, PartsHave, StepsHave, ArmsHave, number_of_parts, ItemsForm, aggr_form, AggregatesForm, sub_form, sub_kinds, WellFormed, SubsForm}
use Rattle.bag_algebra.specs.declared.expr.Expr.{Expr, Row_of-Expr, Row_of-Arm, Row_of-ChainStep, more_of-Expr, end_of-Expr, more_of-Arm, end_of-Arm, more_of-ChainStep, end_of-ChainStep}
use Rattle.bag_algebra.specs.declared.expr.Expr.TheVariants.{Col, Lit, Sub}
use Rattle.bag_algebra.specs.declared.expr.Item.{Item}
use Rattle.bag_algebra.specs.declared.query.AggFn.{AggFn}
use Rattle.bag_algebra.specs.declared.query.AggFn.TheVariants.{CountRows, Count, CountDistinct, Sum, Min, Max}
use Rattle.bag_algebra.specs.declared.query.Aggr.{Aggr}
use Rattle.bag_algebra.specs.declared.query.Query.{Query, Row_of-Sublink, more_of-Sublink, end_of-Sublink}
use Rattle.bag_algebra.specs.declared.query.Query.TheVariants.{Table, Single}
use Rattle.bag_algebra.specs.declared.query.SubKind.{SubKind}
use Rattle.bag_algebra.specs.declared.query.SubKind.TheVariants as sub
use Rattle.contribution.proofs.QueryKinds.{each-all}
use Rattle.contribution.proofs.WhereGood.{Every}
use Rattle.contribution.specs.Longer.{Longer, more_lists, more_items}
use Rattle.contribution.specs.SameColumns.{SameColumns}
use Rattle.std.proofs.lemmas.Bool.{and_parts, and_from}
use Rattle.bag_algebra.proofs.Forms.{op_parts}

-- beside one own row
pub columns-own : (kinds : List Kind) (u : Row) {outer : List (List Kind)} {env other : List Row} → SameColumns outer env other →
    SameColumns (kinds ∷ outer) (u ∷ env) (u ∷ other)
columns-own kinds u {outer} {env} {other} s = record { same = at } where
  at : (level place : ℕ) (kind : Kind) → column_kind (kinds ∷ outer) level place ≡ Some kind →
      value_at (row_at (u ∷ env) level) place ≡ value_at (row_at (u ∷ other) level) place
  at zero place kind e = refl
  at (suc level) place kind e = s.same level place kind e

-- ---- expressions

-- on rows that agree on the columns of the scopes, the own row included
module _ (scopes : List (List Kind)) (subs : List Kind) (u v : Row) (env other : List Row) (s : SameColumns scopes (u ∷ env) (v ∷ other)) (answers : List Value) where
  mutual
    pub value-same : (e : Expr) (k : Kind) → HasKind scopes subs e k → value e u env answers ≡ value e v other answers
    value-same (Col level place) k f = ap Good (s.same level place k f)
    value-same (Lit constant own) k f = refl
    value-same (OpOf o _ parts) k f =
        let some = op_parts o (number_of_parts parts) (PartsHave scopes subs parts) k f in
        λ i. and_then (values-same parts some.0 some.1 i) (operate o)
    value-same (ChainOf first _ steps) k f = λ i. both_then (value-same first Integer f.first i) (step_values-same steps f.steps i) chain
    value-same (CaseOf _ arms otherwise) k f = arm_value-same arms k (value otherwise u env answers) (value otherwise v other answers) f.arms (value-same otherwise k f.otherwise)
    value-same (Sub number) k f = refl
    value-same (IsNullOf part) k f = λ i. mapped (λ w. value.Boolean (is_null w)) (value-same part f.parts.shared f.parts.parts i)
    value-same (IsTruthOf truth part) k f = λ i. mapped (λ w. value.Boolean (has_truth truth w)) (value-same part Boolean f.parts i)
    value-same (SameOf first second) k f =
        λ i. both (λ w x. value.Boolean (same_value w x)) (value-same first f.parts.shared f.parts.parts.0 i) (value-same second f.parts.shared f.parts.parts.1 i)

    values-same : {m : _} (parts : Row_of-Expr m) (k : Kind) → PartsHave scopes subs parts k →
        values parts u env answers ≡ values parts v other answers
    values-same end_of-Expr k f = refl
    values-same (more_of-Expr part parts) k f = λ i. both (λ w ws. w ∷ ws) (value-same part k f.0 i) (values-same parts k f.1 i)

    step_values-same : {m : _} (steps : Row_of-ChainStep m) → StepsHave scopes subs steps →
        step_values steps u env answers ≡ step_values steps v other answers
    step_values-same end_of-ChainStep f = refl
    step_values-same (more_of-ChainStep operation part steps) f =
        λ i. both (λ w ss. record { operation = operation; operand = w } ∷ ss) (value-same part Integer f.0 i) (step_values-same steps f.1 i)

    arm_value-same : {m : _} (arms : Row_of-Arm m) (k : Kind) (o p : Outcome Value) → ArmsHave scopes subs arms k → o ≡ p →
        arm_value arms u env answers o ≡ arm_value arms v other answers p
    arm_value-same end_of-Arm k o p f e = e
    arm_value-same (more_of-Arm condition arm arms) k o p f e =
        λ i. chosen_arm (value-same condition Boolean f.condition i) (value-same arm k f.arm i) (arm_value-same arms k o p f.others e i)

-- ---- parts of queries

module _ (scopes : List (List Kind)) (u v : Row) (env other : List Row) (s : SameColumns scopes (u ∷ env) (v ∷ other)) where
  pub items-same : (subs : List Kind) (answers : List Value) (items : List Item) →
      Every (λ (item : Item). HasKind scopes subs item.expr item.kind) items →
      each (λ (item : Item). value item.expr u env answers) items ≡ each (λ (item : Item). value item.expr v other answers) items
  items-same subs answers [] h = refl
  items-same subs answers (item ∷ items) h =
      λ i. both (λ w ws. w ∷ ws) (value-same scopes subs u v env other s answers item.expr item.kind h.0 i) (items-same subs answers items h.1 i)

  pub argument-same : (function : AggFn) (argument : Option Expr) (k : Kind) → aggr_form function argument scopes k →
      optional_value argument env u ≡ optional_value argument other v
  argument-same function None k f = refl
  argument-same CountRows (Some argument) k f = absurd f
  argument-same Count (Some argument) k f = value-same scopes [] u v env other s [] argument f.argument.shared f.argument.parts
  argument-same CountDistinct (Some argument) k f = value-same scopes [] u v env other s [] argument f.argument.shared f.argument.parts
  argument-same Sum (Some argument) k f = value-same scopes [] u v env other s [] argument Integer f.0
  argument-same Min (Some argument) k f = value-same scopes [] u v env other s [] argument k f.0
  argument-same Max (Some argument) k f = value-same scopes [] u v env other s [] argument k f.0

  pub arguments-same : (aggregates : List Aggr) →
      Every (λ (aggregate : Aggr). aggr_form aggregate.function aggregate.argument scopes aggregate.kind) aggregates →
      arguments_on aggregates env u ≡ arguments_on aggregates other v
  arguments-same [] h = refl
  arguments-same (aggregate ∷ aggregates) h =
      λ i. both (λ w ws. w ∷ ws) (argument-same aggregate.function aggregate.argument aggregate.kind h.0 i) (arguments-same aggregates h.1 i)

  pub tested-same : (kind : SubKind) (tested : Option Expr) (kinds : List Kind) → sub_form kind tested scopes kinds →
      optional_value tested env u ≡ optional_value tested other v
  tested-same kind None kinds f = refl
  tested-same sub.Exists (Some tested) kinds f = absurd f
  tested-same (sub.Any c) (Some tested) kinds f = value-same scopes [] u v env other s [] tested f.column f.compared
  tested-same (sub.All c) (Some tested) kinds f = value-same scopes [] u v env other s [] tested f.column f.compared
  tested-same sub.Scalar (Some tested) kinds f = absurd f

-- ---- nodes

module _ (kinds : List Kind) (outer : List (List Kind)) (env other : List Row) (same : SameColumns outer env other) where
  condition_on-same : (subs : List Kind) (condition : Expr) (s r : SubMeans) → s ≡ r → HasKind (kinds ∷ outer) subs condition Boolean →
      condition_on condition env s ≡ condition_on condition other r
  condition_on-same subs condition s r e f =
      λ i u. and_then ((e i).answers u) (λ answers. value-same (kinds ∷ outer) subs u u env other (columns-own kinds u same) answers condition Boolean f i)

  items_on-same : (subs : List Kind) (items : List Item) (s r : SubMeans) → s ≡ r → ItemsForm (kinds ∷ outer) subs items →
      items_on items env s ≡ items_on items other r
  items_on-same subs items s r e f =
      λ i u. and_then ((e i).answers u) (λ answers. items-same (kinds ∷ outer) u u env other (columns-own kinds u same) subs answers items (each-all _ items f) i)

  arguments_on-same : (aggregates : List Aggr) → AggregatesForm (kinds ∷ outer) aggregates →
      arguments_on aggregates env ≡ arguments_on aggregates other
  arguments_on-same aggregates f = λ i u. arguments-same (kinds ∷ outer) u u env other (columns-own kinds u same) aggregates (each-all _ aggregates f) i

  tested_on-same : (kind : SubKind) (tested : Option Expr) (columns : List Kind) → sub_form kind tested (kinds ∷ outer) columns →
      optional_value tested env ≡ optional_value tested other
  tested_on-same kind tested columns f = λ i u. tested-same (kinds ∷ outer) u u env other (columns-own kinds u same) kind tested columns f i

-- ---- queries

mutual
  pub denote-same : (q : Query) (outer : List (List Kind)) (db : Database) (env other : List Row) → WellFormed outer q →
      SameColumns outer env other → denote q db env ≡ denote q db other
  denote-same (Table id kinds) outer db env other f s = refl
  denote-same Single outer db env other f s = refl
  denote-same (BaseOf input places label) outer db env other f s = λ i. base_means places (denote-same input outer db env other f.input s i)
  denote-same (FilterOf input condition _ subs) outer db env other f s =
      let e = sub_denote-same subs (kinds_of input) outer db env other f.subs s in
      let c = condition_on-same (kinds_of input) outer env other s (sub_kinds subs) condition (sub_denote subs db env) (sub_denote subs db other) e f.condition in
      λ i. filter_means (c i) (e i).contributions (denote-same input outer db env other f.input s i)
  denote-same (ProjectOf input items _ subs) outer db env other f s =
      let e = sub_denote-same subs (kinds_of input) outer db env other f.subs s in
      let c = items_on-same (kinds_of input) outer env other s (sub_kinds subs) items (sub_denote subs db env) (sub_denote subs db other) e f.items in
      λ i. project_means (c i) (e i).contributions (denote-same input outer db env other f.input s i)
  denote-same (JoinOf kind left right condition _ subs) outer db env other f s =
      let e = sub_denote-same subs (kinds_of left ++ kinds_of right) outer db env other f.subs s in
      let c = condition_on-same (kinds_of left ++ kinds_of right) outer env other s (sub_kinds subs) condition (sub_denote subs db env) (sub_denote subs db other) e f.condition in
      λ i. join_means kind (c i) (e i).contributions (record { left = all_empty (shape left); right = all_empty (shape right); subs = (e i).blank })
      (width_of left) (width_of right) (denote-same left outer db env other f.left s i) (denote-same right outer db env other f.right s i)
  denote-same (ApplyOf kind left right) outer db env other f s =
      λ i. apply_means kind (width_of right) (all_empty (shape right)) (denote-same left outer db env other f.left s i)
      (λ u. denote-same right (kinds_of left ∷ outer) db (u ∷ env) (u ∷ other) f.right (columns-own (kinds_of left) u s) i)
  denote-same (UnionOf all left right) outer db env other f s =
      λ i. union_means all (all_empty (shape left)) (all_empty (shape right)) (denote-same left outer db env other f.left_side s i) (denote-same right outer db env other f.right_side s i)
  denote-same (IntersectOf all left right) outer db env other f s =
      λ i. intersect_means all (denote-same left outer db env other f.left_side s i) (denote-same right outer db env other f.right_side s i)
  denote-same (ExceptOf all left right) outer db env other f s =
      λ i. except_means all (all_empty (shape right)) (denote-same left outer db env other f.left_side s i) (denote-same right outer db env other f.right_side s i)
  denote-same (DistinctOf input) outer db env other f s = λ i. distinct_means (denote-same input outer db env other f s i)
  denote-same (AggregateOf input groups aggregates) outer db env other f s =
      λ i. aggregate_means groups (map (λ (aggregate : Aggr). aggregate.function) aggregates) (arguments_on-same (kinds_of input) outer env other s aggregates f.aggregates i)
      (all_empty (shape input)) (denote-same input outer db env other f.input s i)
  denote-same (LimitOf input keys count) outer db env other f s = λ i. limit_means keys count (denote-same input outer db env other f.input s i)
  denote-same (ProvOf input) outer db env other f s = λ i. provenance_means (denote-same input outer db env other f s i)

  pub sub_denote-same : {m : _} (subs : Row_of-Sublink m) (kinds : List Kind) (outer : List (List Kind)) (db : Database) (env other : List Row) →
      SubsForm (kinds ∷ outer) subs →
      SameColumns outer env other → sub_denote subs db env ≡ sub_denote subs db other
  sub_denote-same end_of-Sublink kinds outer db env other f s = refl
  sub_denote-same (more_of-Sublink kind tested query subs) kinds outer db env other f s =
      λ i. with_sub kind (tested_on-same kinds outer env other s kind tested (kinds_of query) f.fitting i)
      (λ u. denote-same query (kinds ∷ outer) db (u ∷ env) (u ∷ other) f.query (columns-own kinds u s) i) (all_empty (shape query))
      (sub_denote-same subs kinds outer db env other f.others s i)

-- ---- values added at the end of outer rows

pub value_at-longer : (row more : Row) (kinds : List Kind) (place : ℕ) (kind : Kind) → row_begins row kinds ≡ true →
    slice_get kinds place ≡ Some kind → value_at row place ≡ value_at (row ++ more) place
value_at-longer row more [] place kind b e = cc
value_at-longer [] more (k ∷ kinds) place kind b e = absurd (true≢false (sym b))
value_at-longer (v ∷ row) more (k ∷ kinds) zero kind b e = refl
value_at-longer (v ∷ row) more (k ∷ kinds) (suc place) kind b e = value_at-longer row more kinds place kind (and_parts (fits v k) (row_begins row kinds) b).1 e

pub longer-same_columns : (outer : List (List Kind)) {env other : List Row} → Longer env other → env_fits env outer ≡ true →
    SameColumns outer env other
longer-same_columns outer l f = record { same = at outer l f } where
  at : (outer : List (List Kind)) {env other : List Row} → Longer env other → env_fits env outer ≡ true →
      (level place : ℕ) (kind : Kind) → column_kind outer level place ≡ Some kind → value_at (row_at env level) place ≡ value_at (row_at other level) place
  at [] l f level place kind e = cc
  at (kinds ∷ outer) (more_lists further) f level place kind e = absurd (true≢false (sym f))
  at (kinds ∷ outer) (more_items {lists = env} row more l) f zero place kind e = value_at-longer row more kinds place kind (and_parts (row_begins row kinds) (env_fits env outer) f).0 e
  at (kinds ∷ outer) (more_items {lists = env} row more l) f (suc level) place kind e = at outer l (and_parts (row_begins row kinds) (env_fits env outer) f).1 level place kind e

pub row_begins-longer : (row more : Row) (kinds : List Kind) → row_begins row kinds ≡ true → row_begins (row ++ more) kinds ≡ true
row_begins-longer row more [] b = refl
row_begins-longer [] more (k ∷ kinds) b = absurd (true≢false (sym b))
row_begins-longer (v ∷ row) more (k ∷ kinds) b =
    let parts = and_parts (fits v k) (row_begins row kinds) b in
    and_from (fits v k) (row_begins (row ++ more) kinds) parts.0 (row_begins-longer row more kinds parts.1)

-- longer rows fit too
pub env_fits-longer : (outer : List (List Kind)) {env other : List Row} → Longer env other → env_fits env outer ≡ true → env_fits other outer ≡ true
env_fits-longer [] l f = refl
env_fits-longer (kinds ∷ outer) (more_lists further) f = absurd (true≢false (sym f))
env_fits-longer (kinds ∷ outer) (more_items {lists = env} {longer = other} row more l) f =
    let parts = and_parts (row_begins row kinds) (env_fits env outer) f in
    and_from (row_begins (row ++ more) kinds) (env_fits other outer) (row_begins-longer row more kinds parts.0) (env_fits-longer outer l parts.1)

row_begins-shorter : (row : Row) (kinds more : List Kind) → row_begins row (kinds ++ more) ≡ true → row_begins row kinds ≡ true
row_begins-shorter row [] more b = refl
row_begins-shorter [] (k ∷ kinds) more b = b
row_begins-shorter (v ∷ row) (k ∷ kinds) more b =
    let parts = and_parts (fits v k) (row_begins row (kinds ++ more)) b in
    and_from (fits v k) (row_begins row kinds) parts.0 (row_begins-shorter row kinds more parts.1)

-- rows that fit longer kinds fit the kinds
pub env_fits-shorter : {outer longer : List (List Kind)} (env : List Row) → Longer outer longer → env_fits env longer ≡ true →
    env_fits env outer ≡ true
env_fits-shorter env (more_lists further) f = refl
env_fits-shorter [] (more_items kinds more l) f = f
env_fits-shorter (row ∷ env) (more_items {lists = outer} {longer = longer} kinds more l) f =
    let parts = and_parts (row_begins row (kinds ++ more)) (env_fits env longer) f in
    and_from (row_begins row kinds) (env_fits env outer) (row_begins-shorter row kinds more parts.0) (env_fits-shorter env l parts.1)

-- ---- as the laws say it

pub denote-longer : (outer : List (List Kind)) (q : Query) (db : Database) (env other : List Row) → WellFormed outer q → env_fits env outer ≡ true →
    Longer env other →
    denote q db env ≡ denote q db other
denote-longer outer q db env other f fitting l = denote-same q outer db env other f (longer-same_columns outer l fitting)

no_columns : (env other : List Row) → SameColumns [] env other
no_columns env other = record { same = λ level place kind e. cc }

-- a closed query sees no outer row
pub denote-closed : (q : Query) (db : Database) (env other : List Row) → WellFormed [] q → denote q db env ≡ denote q db other
denote-closed q db env other f = denote-same q [] db env other f (no_columns env other)
