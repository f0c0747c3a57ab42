-- Which columns are read, on what the constructors of code make, in words on plain lists of children.
use Rattle.std.specs.Prelude.{◌≡◌, ℕ, Bool, List, [], ◌∷◌, ◌++◌}
use Rattle.std.specs.List.{flat_map}
use Rattle.std.proofs.Common.{refl, ap, ◌∙◌}
use Rattle.null_logic.specs.declared.operator.Operator.{Operator}
use Rattle.null_logic.specs.declared.truth.Truth.{Truth}
use Rattle.perm_values.specs.declared.key.Key.{Key}
use Rattle.bag_algebra.specs.built.Openings.{row_of_parts, row_of_steps, row_of_arms, Chain-is, Case-is, IsNull-is, IsTruth-is, Same-is, row_of_subs, Base-is, Filter-is, Project_with-is, Join-is, Apply-is, Union-is, Intersect-is, Except-is, Distinct-is, Aggregate-is, Limit-is, Prov-is}
use Rattle.bag_algebra.specs.declared.expr.Arm.{Arm}
use Rattle.bag_algebra.specs.declared.expr.ChainStep.{ChainStep}
use Rattle.bag_algebra.specs.declared.expr.Expr.{Expr}
use Rattle.bag_algebra.specs.declared.expr.Expr.TheBlock.{shape-the_row-Expr-0, hidden-the_row-Expr-0, shape-the_row-ChainStep-2, hidden-the_row-ChainStep-2, shape-the_row-Arm-3, hidden-the_row-Arm-3}
use Rattle.bag_algebra.specs.declared.expr.Expr.TheVariants.{Op, Chain, Case, IsNull, IsTruth, Same}
use Rattle.bag_algebra.specs.declared.expr.Item.{Item}
use Rattle.bag_algebra.specs.declared.query.Aggr.{Aggr}
use Rattle.bag_algebra.specs.declared.query.JoinKind.{JoinKind}
use Rattle.bag_algebra.specs.declared.query.Label.{Label}
use Rattle.bag_algebra.specs.declared.query.Query.{Query}
use Rattle.bag_algebra.specs.declared.query.Query.TheBlock.{shape-the_row-Sublink-1, hidden-the_row-Sublink-1}
use Rattle.bag_algebra.specs.declared.query.Query.TheVariants.{Base, Filter, Project, Join, Apply, Union, Intersect, Except, Distinct, Aggregate, Limit, Prov}
use Rattle.bag_algebra.specs.declared.query.Sublink.{Sublink}
use Rattle.query_facts.specs.reached.reads.Columns.{expr_columns, parts_columns, steps_columns, arms_columns, option_columns, items_columns, aggregates_columns, behind, columns_of, subs_columns}
use Rattle.query_facts.specs.declared.reached.reads.queries.OuterColumn.{OuterColumn}

-- ---- expressions

abbrev pub arm_columns : Arm → List OuterColumn
arm_columns arm = expr_columns arm.condition ++ expr_columns arm.value

abbrev pub step_columns : ChainStep → List OuterColumn
step_columns step = expr_columns step.part

abbrev pub all_parts_columns : List Expr → List OuterColumn
all_parts_columns parts = flat_map expr_columns parts

abbrev pub all_steps_columns : List ChainStep → List OuterColumn
all_steps_columns steps = flat_map step_columns steps

abbrev pub all_arms_columns : List Arm → List OuterColumn
all_arms_columns arms = flat_map arm_columns arms

pub parts_columns-row_of_parts : (parts : List Expr) → parts_columns (row_of_parts parts) ≡ all_parts_columns parts
unfolding shape-the_row-Expr-0 hidden-the_row-Expr-0 package.denote.Hole.Carrier.hidden
parts_columns-row_of_parts [] = refl
parts_columns-row_of_parts (part ∷ parts) = ap (λ cs. expr_columns part ++ cs) (parts_columns-row_of_parts parts)

pub steps_columns-row_of_steps : (steps : List ChainStep) → steps_columns (row_of_steps steps) ≡ all_steps_columns steps
unfolding shape-the_row-ChainStep-2 hidden-the_row-ChainStep-2 package.denote.Hole.Carrier.hidden
steps_columns-row_of_steps [] = refl
steps_columns-row_of_steps (step ∷ steps) = ap (λ cs. step_columns step ++ cs) (steps_columns-row_of_steps steps)

pub arms_columns-row_of_arms : (arms : List Arm) → arms_columns (row_of_arms arms) ≡ all_arms_columns arms
unfolding shape-the_row-Arm-3 hidden-the_row-Arm-3 package.denote.Hole.Carrier.hidden
arms_columns-row_of_arms [] = refl
arms_columns-row_of_arms (arm ∷ arms) = ap (λ cs. arm_columns arm ++ cs) (arms_columns-row_of_arms arms)

pub columns-Op : (op : Operator) (parts : List Expr) → expr_columns (Op op parts) ≡ all_parts_columns parts
columns-Op op parts = parts_columns-row_of_parts parts

pub columns-Chain : (first : Expr) (steps : List ChainStep) → expr_columns (Chain first steps) ≡ expr_columns first ++ all_steps_columns steps
columns-Chain first steps = ap expr_columns (Chain-is first steps) ∙ ap (λ cs. expr_columns first ++ cs) (steps_columns-row_of_steps steps)

pub columns-Case : (arms : List Arm) (otherwise : Expr) → expr_columns (Case arms otherwise) ≡ all_arms_columns arms ++ expr_columns otherwise
columns-Case arms otherwise = ap expr_columns (Case-is arms otherwise) ∙ ap (λ cs. cs ++ expr_columns otherwise) (arms_columns-row_of_arms arms)

pub columns-IsNull : (part : Expr) → expr_columns (IsNull part) ≡ expr_columns part
columns-IsNull part = ap expr_columns (IsNull-is part)

pub columns-IsTruth : (truth : Truth) (part : Expr) → expr_columns (IsTruth truth part) ≡ expr_columns part
columns-IsTruth truth part = ap expr_columns (IsTruth-is truth part)

pub columns-Same : (first second : Expr) → expr_columns (Same first second) ≡ expr_columns first ++ expr_columns second
columns-Same first second = ap expr_columns (Same-is first second)

-- ---- queries

abbrev pub sub_columns : Sublink → List OuterColumn
sub_columns sub = option_columns sub.tested ++ columns_of sub.query

abbrev pub all_subs_columns : List Sublink → List OuterColumn
all_subs_columns subs = flat_map sub_columns subs

pub subs_columns-row_of_subs : (subs : List Sublink) → subs_columns (row_of_subs subs) ≡ all_subs_columns subs
unfolding shape-the_row-Sublink-1 hidden-the_row-Sublink-1 package.denote.Hole.Carrier.hidden
subs_columns-row_of_subs [] = refl
subs_columns-row_of_subs (sub ∷ subs) = ap (λ cs. sub_columns sub ++ cs) (subs_columns-row_of_subs subs)

pub columns-Base : (input : Query) (places : List ℕ) (label : Label) → columns_of (Base input places label) ≡ columns_of input
columns-Base input places label = ap columns_of (Base-is input places label)

pub columns-Filter : (input : Query) (condition : Expr) (subs : List Sublink) →
    columns_of (Filter input condition subs) ≡ columns_of input ++ behind (expr_columns condition ++ all_subs_columns subs)
columns-Filter input condition subs =
    ap columns_of (Filter-is input condition subs) ∙ ap (λ cs. columns_of input ++ behind (expr_columns condition ++ cs)) (subs_columns-row_of_subs subs)

pub columns-Project : (input : Query) (items : List Item) (subs : List Sublink) →
    columns_of (Project input items subs) ≡ columns_of input ++ behind (items_columns items ++ all_subs_columns subs)
columns-Project input items subs =
    ap columns_of (Project_with-is input items subs) ∙ ap (λ cs. columns_of input ++ behind (items_columns items ++ cs)) (subs_columns-row_of_subs subs)

pub columns-Join : (kind : JoinKind) (left right : Query) (condition : Expr) (subs : List Sublink) →
    columns_of (Join kind left right condition subs) ≡ (columns_of left ++ columns_of right) ++ behind (expr_columns condition ++ all_subs_columns subs)
columns-Join kind left right condition subs =
    ap columns_of (Join-is kind left right condition subs)
    ∙ ap (λ cs. (columns_of left ++ columns_of right) ++ behind (expr_columns condition ++ cs)) (subs_columns-row_of_subs subs)

pub columns-Apply : (kind : JoinKind) (left right : Query) → columns_of (Apply kind left right) ≡ columns_of left ++ behind (columns_of right)
columns-Apply kind left right = ap columns_of (Apply-is kind left right)

pub columns-Union : (all : Bool) (left right : Query) → columns_of (Union all left right) ≡ columns_of left ++ columns_of right
columns-Union all left right = ap columns_of (Union-is all left right)

pub columns-Intersect : (all : Bool) (left right : Query) → columns_of (Intersect all left right) ≡ columns_of left ++ columns_of right
columns-Intersect all left right = ap columns_of (Intersect-is all left right)

pub columns-Except : (all : Bool) (left right : Query) → columns_of (Except all left right) ≡ columns_of left ++ columns_of right
columns-Except all left right = ap columns_of (Except-is all left right)

pub columns-Distinct : (input : Query) → columns_of (Distinct input) ≡ columns_of input
columns-Distinct input = ap columns_of (Distinct-is input)

pub columns-Aggregate : (input : Query) (groups : List ℕ) (aggregates : List Aggr) →
    columns_of (Aggregate input groups aggregates) ≡ columns_of input ++ behind (aggregates_columns aggregates)
columns-Aggregate input groups aggregates = ap columns_of (Aggregate-is input groups aggregates)

pub columns-Limit : (input : Query) (keys : List Key) (count : ℕ) → columns_of (Limit input keys count) ≡ columns_of input
columns-Limit input keys count = ap columns_of (Limit-is input keys count)

pub columns-Prov : (input : Query) → columns_of (Prov input) ≡ columns_of input
columns-Prov input = ap columns_of (Prov-is input)
