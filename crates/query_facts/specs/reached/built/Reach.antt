-- How many of the first columns of an outer row are read, on what the constructors of code make, in words on plain lists of
-- children.
use Rattle.std.specs.Prelude.{◌≡◌, ℕ, suc, max, Bool, List, [], ◌∷◌}
use Rattle.std.proofs.Common.{refl, ap, ◌∙◌}
use Rattle.null_logic.specs.declared.operator.Operator.{Operator}
use Rattle.null_logic.specs.declared.truth.Truth.{Truth}
use Rattle.perm_values.specs.declared.key.Key.{Key}
use Rattle.bag_algebra.specs.built.Openings.{row_of_parts, row_of_steps, row_of_arms, Chain-is, Case-is, IsNull-is, IsTruth-is, Same-is, row_of_subs, Base-is, Filter-is, Project_with-is, Join-is, Apply-is, Union-is, Intersect-is, Except-is, Distinct-is, Aggregate-is, Limit-is, Prov-is}
use Rattle.bag_algebra.specs.declared.expr.Arm.{Arm}
use Rattle.bag_algebra.specs.declared.expr.ChainStep.{ChainStep}
use Rattle.bag_algebra.specs.declared.expr.Expr.{Expr}
use Rattle.bag_algebra.specs.declared.expr.Expr.TheBlock.{shape-the_row-Expr-0, hidden-the_row-Expr-0, shape-the_row-ChainStep-2, hidden-the_row-ChainStep-2, shape-the_row-Arm-3, hidden-the_row-Arm-3}
use Rattle.bag_algebra.specs.declared.expr.Expr.TheVariants.{Op, Chain, Case, IsNull, IsTruth, Same}
use Rattle.bag_algebra.specs.declared.expr.Item.{Item}
use Rattle.bag_algebra.specs.declared.query.Aggr.{Aggr}
use Rattle.bag_algebra.specs.declared.query.JoinKind.{JoinKind}
use Rattle.bag_algebra.specs.declared.query.Label.{Label}
use Rattle.bag_algebra.specs.declared.query.Query.{Query}
use Rattle.bag_algebra.specs.declared.query.Query.TheBlock.{shape-the_row-Sublink-1, hidden-the_row-Sublink-1}
use Rattle.bag_algebra.specs.declared.query.Query.TheVariants.{Base, Filter, Project, Join, Apply, Union, Intersect, Except, Distinct, Aggregate, Limit, Prov}
use Rattle.bag_algebra.specs.declared.query.Sublink.{Sublink}
use Rattle.query_facts.specs.reached.Reach.{greatest, expr_reach, parts_reach, steps_reach, arms_reach, option_reach, items_reach, aggregates_reach, query_reach, subs_reach}

-- ---- expressions

abbrev pub step_reach : ℕ → ChainStep → ℕ
step_reach level step = expr_reach step.part level

abbrev pub arm_reach : ℕ → Arm → ℕ
arm_reach level arm = max (expr_reach arm.condition level) (expr_reach arm.value level)

abbrev pub all_parts_reach : List Expr → ℕ → ℕ
all_parts_reach parts level = greatest (λ part. expr_reach part level) parts

abbrev pub all_steps_reach : List ChainStep → ℕ → ℕ
all_steps_reach steps level = greatest (step_reach level) steps

abbrev pub all_arms_reach : List Arm → ℕ → ℕ
all_arms_reach arms level = greatest (arm_reach level) arms

module _ (level : ℕ) where
  pub parts_reach-row_of_parts : (parts : List Expr) → parts_reach (row_of_parts parts) level ≡ all_parts_reach parts level
  unfolding shape-the_row-Expr-0 hidden-the_row-Expr-0 package.denote.Hole.Carrier.hidden
  parts_reach-row_of_parts [] = refl
  parts_reach-row_of_parts (part ∷ parts) = ap (max (expr_reach part level)) (parts_reach-row_of_parts parts)

  pub steps_reach-row_of_steps : (steps : List ChainStep) → steps_reach (row_of_steps steps) level ≡ all_steps_reach steps level
  unfolding shape-the_row-ChainStep-2 hidden-the_row-ChainStep-2 package.denote.Hole.Carrier.hidden
  steps_reach-row_of_steps [] = refl
  steps_reach-row_of_steps (step ∷ steps) = ap (max (step_reach level step)) (steps_reach-row_of_steps steps)

  pub arms_reach-row_of_arms : (arms : List Arm) → arms_reach (row_of_arms arms) level ≡ all_arms_reach arms level
  unfolding shape-the_row-Arm-3 hidden-the_row-Arm-3 package.denote.Hole.Carrier.hidden
  arms_reach-row_of_arms [] = refl
  arms_reach-row_of_arms (arm ∷ arms) = ap (max (arm_reach level arm)) (arms_reach-row_of_arms arms)

  pub reach-Op : (op : Operator) (parts : List Expr) → expr_reach (Op op parts) level ≡ all_parts_reach parts level
  reach-Op op parts = parts_reach-row_of_parts parts

  pub reach-Chain : (first : Expr) (steps : List ChainStep) → expr_reach (Chain first steps) level ≡ max (expr_reach first level) (all_steps_reach steps level)
  reach-Chain first steps = ap (λ e. expr_reach e level) (Chain-is first steps) ∙ ap (max (expr_reach first level)) (steps_reach-row_of_steps steps)

  pub reach-Case : (arms : List Arm) (otherwise : Expr) → expr_reach (Case arms otherwise) level ≡ max (all_arms_reach arms level) (expr_reach otherwise level)
  reach-Case arms otherwise = ap (λ e. expr_reach e level) (Case-is arms otherwise) ∙ ap (λ n. max n (expr_reach otherwise level)) (arms_reach-row_of_arms arms)

  pub reach-IsNull : (part : Expr) → expr_reach (IsNull part) level ≡ expr_reach part level
  reach-IsNull part = ap (λ e. expr_reach e level) (IsNull-is part)

  pub reach-IsTruth : (truth : Truth) (part : Expr) → expr_reach (IsTruth truth part) level ≡ expr_reach part level
  reach-IsTruth truth part = ap (λ e. expr_reach e level) (IsTruth-is truth part)

  pub reach-Same : (first second : Expr) → expr_reach (Same first second) level ≡ max (expr_reach first level) (expr_reach second level)
  reach-Same first second = ap (λ e. expr_reach e level) (Same-is first second)

-- ---- queries

abbrev pub sub_reach : ℕ → Sublink → ℕ
sub_reach level sub = max (option_reach sub.tested level) (query_reach sub.query (suc level))

abbrev pub all_subs_reach : List Sublink → ℕ → ℕ
all_subs_reach subs level = greatest (sub_reach level) subs

module _ (level : ℕ) where
  pub subs_reach-row_of_subs : (subs : List Sublink) → subs_reach (row_of_subs subs) level ≡ all_subs_reach subs level
  unfolding shape-the_row-Sublink-1 hidden-the_row-Sublink-1 package.denote.Hole.Carrier.hidden
  subs_reach-row_of_subs [] = refl
  subs_reach-row_of_subs (sub ∷ subs) = ap (max (sub_reach level sub)) (subs_reach-row_of_subs subs)

  pub reach-Base : (input : Query) (places : List ℕ) (label : Label) → query_reach (Base input places label) level ≡ query_reach input level
  reach-Base input places label = ap (λ q. query_reach q level) (Base-is input places label)

  pub reach-Filter : (input : Query) (condition : Expr) (subs : List Sublink) →
      query_reach (Filter input condition subs) level ≡ max (max (query_reach input level) (expr_reach condition level)) (all_subs_reach subs level)
  reach-Filter input condition subs =
      ap (λ q. query_reach q level) (Filter-is input condition subs)
      ∙ ap (max (max (query_reach input level) (expr_reach condition level))) (subs_reach-row_of_subs subs)

  pub reach-Project : (input : Query) (items : List Item) (subs : List Sublink) →
      query_reach (Project input items subs) level ≡ max (max (query_reach input level) (items_reach items level)) (all_subs_reach subs level)
  reach-Project input items subs =
      ap (λ q. query_reach q level) (Project_with-is input items subs)
      ∙ ap (max (max (query_reach input level) (items_reach items level))) (subs_reach-row_of_subs subs)

  pub reach-Join : (kind : JoinKind) (left right : Query) (condition : Expr) (subs : List Sublink) →
      query_reach (Join kind left right condition subs) level
      ≡ max (max (max (query_reach left level) (query_reach right level)) (expr_reach condition level)) (all_subs_reach subs level)
  reach-Join kind left right condition subs =
      ap (λ q. query_reach q level) (Join-is kind left right condition subs)
      ∙ ap (max (max (max (query_reach left level) (query_reach right level)) (expr_reach condition level))) (subs_reach-row_of_subs subs)

  pub reach-Apply : (kind : JoinKind) (left right : Query) →
      query_reach (Apply kind left right) level ≡ max (query_reach left level) (query_reach right (suc level))
  reach-Apply kind left right = ap (λ q. query_reach q level) (Apply-is kind left right)

  pub reach-Union : (all : Bool) (left right : Query) → query_reach (Union all left right) level ≡ max (query_reach left level) (query_reach right level)
  reach-Union all left right = ap (λ q. query_reach q level) (Union-is all left right)

  pub reach-Intersect : (all : Bool) (left right : Query) →
      query_reach (Intersect all left right) level ≡ max (query_reach left level) (query_reach right level)
  reach-Intersect all left right = ap (λ q. query_reach q level) (Intersect-is all left right)

  pub reach-Except : (all : Bool) (left right : Query) → query_reach (Except all left right) level ≡ max (query_reach left level) (query_reach right level)
  reach-Except all left right = ap (λ q. query_reach q level) (Except-is all left right)

  pub reach-Distinct : (input : Query) → query_reach (Distinct input) level ≡ query_reach input level
  reach-Distinct input = ap (λ q. query_reach q level) (Distinct-is input)

  pub reach-Aggregate : (input : Query) (groups : List ℕ) (aggregates : List Aggr) →
      query_reach (Aggregate input groups aggregates) level ≡ max (query_reach input level) (aggregates_reach aggregates level)
  reach-Aggregate input groups aggregates = ap (λ q. query_reach q level) (Aggregate-is input groups aggregates)

  pub reach-Limit : (input : Query) (keys : List Key) (count : ℕ) → query_reach (Limit input keys count) level ≡ query_reach input level
  reach-Limit input keys count = ap (λ q. query_reach q level) (Limit-is input keys count)

  pub reach-Prov : (input : Query) → query_reach (Prov input) level ≡ query_reach input level
  reach-Prov input = ap (λ q. query_reach q level) (Prov-is input)
