-- Which outer rows are read, on what the constructors of code make, in words on plain lists of children.
use Rattle.std.specs.Prelude.{◌≡◌, ℕ, suc, Bool, ◌&&◌, List, [], ◌∷◌}
use Rattle.std.specs.List.{list_all}
use Rattle.std.proofs.Common.{refl, ap, ◌∙◌}
use Rattle.null_logic.specs.declared.operator.Operator.{Operator}
use Rattle.null_logic.specs.declared.truth.Truth.{Truth}
use Rattle.perm_values.specs.declared.key.Key.{Key}
use Rattle.bag_algebra.specs.built.Openings.{row_of_parts, row_of_steps, row_of_arms, Chain-is, Case-is, IsNull-is, IsTruth-is, Same-is, row_of_subs, Base-is, Filter-is, Project_with-is, Join-is, Apply-is, Union-is, Intersect-is, Except-is, Distinct-is, Aggregate-is, Limit-is, Prov-is}
use Rattle.bag_algebra.specs.Closed.{within_levels, parts_within, steps_within, arms_within, option_within, items_within, aggregates_within, reads_within, subs_read_within}
use Rattle.bag_algebra.specs.declared.expr.Arm.{Arm}
use Rattle.bag_algebra.specs.declared.expr.ChainStep.{ChainStep}
use Rattle.bag_algebra.specs.declared.expr.Expr.{Expr}
use Rattle.bag_algebra.specs.declared.expr.Expr.TheBlock.{shape-the_row-Expr-0, hidden-the_row-Expr-0, shape-the_row-ChainStep-2, hidden-the_row-ChainStep-2, shape-the_row-Arm-3, hidden-the_row-Arm-3}
use Rattle.bag_algebra.specs.declared.expr.Expr.TheVariants.{Op, Chain, Case, IsNull, IsTruth, Same}
use Rattle.bag_algebra.specs.declared.expr.Item.{Item}
use Rattle.bag_algebra.specs.declared.query.Aggr.{Aggr}
use Rattle.bag_algebra.specs.declared.query.JoinKind.{JoinKind}
use Rattle.bag_algebra.specs.declared.query.Label.{Label}
use Rattle.bag_algebra.specs.declared.query.Query.{Query}
use Rattle.bag_algebra.specs.declared.query.Query.TheBlock.{shape-the_row-Sublink-1, hidden-the_row-Sublink-1}
use Rattle.bag_algebra.specs.declared.query.Query.TheVariants.{Base, Filter, Project, Join, Apply, Union, Intersect, Except, Distinct, Aggregate, Limit, Prov}
use Rattle.bag_algebra.specs.declared.query.Sublink.{Sublink}

-- ---- expressions

abbrev pub all_parts_within : List Expr → ℕ → Bool
all_parts_within parts n = list_all (λ part. within_levels part n) parts

abbrev pub all_steps_within : List ChainStep → ℕ → Bool
all_steps_within steps n = list_all (λ (step : ChainStep). within_levels step.part n) steps

abbrev pub all_arms_within : List Arm → ℕ → Bool
all_arms_within arms n = list_all (λ (arm : Arm). within_levels arm.condition n && within_levels arm.value n) arms

module _ (n : ℕ) where
  pub parts_within-row_of_parts : (parts : List Expr) → parts_within (row_of_parts parts) n ≡ all_parts_within parts n
  unfolding shape-the_row-Expr-0 hidden-the_row-Expr-0 package.denote.Hole.Carrier.hidden
  parts_within-row_of_parts [] = refl
  parts_within-row_of_parts (part ∷ parts) = ap (λ b. within_levels part n && b) (parts_within-row_of_parts parts)

  pub steps_within-row_of_steps : (steps : List ChainStep) → steps_within (row_of_steps steps) n ≡ all_steps_within steps n
  unfolding shape-the_row-ChainStep-2 hidden-the_row-ChainStep-2 package.denote.Hole.Carrier.hidden
  steps_within-row_of_steps [] = refl
  steps_within-row_of_steps (step ∷ steps) = ap (λ b. within_levels step.part n && b) (steps_within-row_of_steps steps)

  pub arms_within-row_of_arms : (arms : List Arm) → arms_within (row_of_arms arms) n ≡ all_arms_within arms n
  unfolding shape-the_row-Arm-3 hidden-the_row-Arm-3 package.denote.Hole.Carrier.hidden
  arms_within-row_of_arms [] = refl
  arms_within-row_of_arms (arm ∷ arms) = ap (λ b. (within_levels arm.condition n && within_levels arm.value n) && b) (arms_within-row_of_arms arms)

  pub within-Op : (op : Operator) (parts : List Expr) → within_levels (Op op parts) n ≡ all_parts_within parts n
  within-Op op parts = parts_within-row_of_parts parts

  pub within-Chain : (first : Expr) (steps : List ChainStep) → within_levels (Chain first steps) n ≡ (within_levels first n && all_steps_within steps n)
  within-Chain first steps =
      ap (λ e. within_levels e n) (Chain-is first steps) ∙ ap (λ b. within_levels first n && b) (steps_within-row_of_steps steps)

  pub within-Case : (arms : List Arm) (otherwise : Expr) → within_levels (Case arms otherwise) n ≡ (all_arms_within arms n && within_levels otherwise n)
  within-Case arms otherwise =
      ap (λ e. within_levels e n) (Case-is arms otherwise) ∙ ap (λ b. b && within_levels otherwise n) (arms_within-row_of_arms arms)

  pub within-IsNull : (part : Expr) → within_levels (IsNull part) n ≡ within_levels part n
  within-IsNull part = ap (λ e. within_levels e n) (IsNull-is part)

  pub within-IsTruth : (truth : Truth) (part : Expr) → within_levels (IsTruth truth part) n ≡ within_levels part n
  within-IsTruth truth part = ap (λ e. within_levels e n) (IsTruth-is truth part)

  pub within-Same : (first second : Expr) → within_levels (Same first second) n ≡ (within_levels first n && within_levels second n)
  within-Same first second = ap (λ e. within_levels e n) (Same-is first second)

-- ---- queries

abbrev pub all_read_within : List Sublink → ℕ → Bool
all_read_within subs n = list_all (λ (sub : Sublink). option_within sub.tested n && reads_within sub.query (suc n)) subs

pub subs_read_within-row_of_subs : (subs : List Sublink) (n : ℕ) → subs_read_within (row_of_subs subs) n ≡ all_read_within subs n
unfolding shape-the_row-Sublink-1 hidden-the_row-Sublink-1 package.denote.Hole.Carrier.hidden
subs_read_within-row_of_subs [] n = refl
subs_read_within-row_of_subs (sub ∷ subs) n = ap (λ b. (option_within sub.tested n && reads_within sub.query (suc n)) && b) (subs_read_within-row_of_subs subs n)

pub reads_within-Base : (input : Query) (places : List ℕ) (label : Label) (n : ℕ) → reads_within (Base input places label) n ≡ reads_within input n
reads_within-Base input places label n = ap (λ q. reads_within q n) (Base-is input places label)

pub reads_within-Filter : (input : Query) (condition : Expr) (subs : List Sublink) (n : ℕ) → reads_within (Filter input condition subs) n ≡ ((reads_within input n && within_levels condition n) && all_read_within subs n)
reads_within-Filter input condition subs n = ap (λ q. reads_within q n) (Filter-is input condition subs) ∙ ap (λ b. (reads_within input n && within_levels condition n) && b) (subs_read_within-row_of_subs subs n)

pub reads_within-Project : (input : Query) (items : List Item) (subs : List Sublink) (n : ℕ) → reads_within (Project input items subs) n ≡ ((reads_within input n && items_within items n) && all_read_within subs n)
reads_within-Project input items subs n = ap (λ q. reads_within q n) (Project_with-is input items subs) ∙ ap (λ b. (reads_within input n && items_within items n) && b) (subs_read_within-row_of_subs subs n)

pub reads_within-Join : (kind : JoinKind) (left right : Query) (condition : Expr) (subs : List Sublink) (n : ℕ) → reads_within (Join kind left right condition subs) n ≡ (((reads_within left n && reads_within right n) && within_levels condition n) && all_read_within subs n)
reads_within-Join kind left right condition subs n = ap (λ q. reads_within q n) (Join-is kind left right condition subs) ∙ ap (λ b. ((reads_within left n && reads_within right n) && within_levels condition n) && b) (subs_read_within-row_of_subs subs n)

pub reads_within-Union : (all : Bool) (left right : Query) (n : ℕ) → reads_within (Union all left right) n ≡ (reads_within left n && reads_within right n)
reads_within-Union all left right n = ap (λ q. reads_within q n) (Union-is all left right)

pub reads_within-Intersect : (all : Bool) (left right : Query) (n : ℕ) → reads_within (Intersect all left right) n ≡ (reads_within left n && reads_within right n)
reads_within-Intersect all left right n = ap (λ q. reads_within q n) (Intersect-is all left right)

pub reads_within-Except : (all : Bool) (left right : Query) (n : ℕ) → reads_within (Except all left right) n ≡ (reads_within left n && reads_within right n)
reads_within-Except all left right n = ap (λ q. reads_within q n) (Except-is all left right)

pub reads_within-Distinct : (input : Query) (n : ℕ) → reads_within (Distinct input) n ≡ reads_within input n
reads_within-Distinct input n = ap (λ q. reads_within q n) (Distinct-is input)

pub reads_within-Aggregate : (input : Query) (groups : List ℕ) (aggregates : List Aggr) (n : ℕ) → reads_within (Aggregate input groups aggregates) n ≡ (reads_within input n && aggregates_within aggregates n)
reads_within-Aggregate input groups aggregates n = ap (λ q. reads_within q n) (Aggregate-is input groups aggregates)

pub reads_within-Limit : (input : Query) (keys : List Key) (count : ℕ) (n : ℕ) → reads_within (Limit input keys count) n ≡ reads_within input n
reads_within-Limit input keys count n = ap (λ q. reads_within q n) (Limit-is input keys count)

pub reads_within-Prov : (input : Query) (n : ℕ) → reads_within (Prov input) n ≡ reads_within input n
reads_within-Prov input n = ap (λ q. reads_within q n) (Prov-is input)

pub reads_within-Apply : (kind : JoinKind) (left right : Query) (n : ℕ) → reads_within (Apply kind left right) n ≡ (reads_within left n && reads_within right (suc n))
reads_within-Apply kind left right n = ap (λ q. reads_within q n) (Apply-is kind left right)
