-- An expression with the expressions of items in the place of its columns.
use Rattle.std.specs.Prelude.{◌≡◌, true, List, [], ◌∷◌, map}
use Rattle.perm_values.specs.declared.kind.Kind.{Kind}
use Rattle.perm_values.specs.declared.value.Value.{Value}
use Rattle.bag_algebra.specs.Bags.{Row}
use Rattle.bag_algebra.specs.Expressions.{value}
use Rattle.bag_algebra.specs.FaultFree.{items_faultless}
use Rattle.bag_algebra.specs.Kinds.{item_kinds}
use Rattle.bag_algebra.specs.Means.{good_value}
use Rattle.bag_algebra.specs.WellFormed.{HasKind, ItemsForm}
use Rattle.bag_algebra.specs.declared.expr.Arm.{Arm}
use Rattle.bag_algebra.specs.declared.expr.ChainStep.{ChainStep}
use Rattle.bag_algebra.specs.declared.expr.Expr.{Expr}
use Rattle.bag_algebra.specs.declared.expr.Item.{Item}
use Rattle.bag_algebra.specs.declared.query.Query.{Query}
use Rattle.bag_algebra.specs.declared.query.Query.TheVariants.{Project}
use Rattle.contribution.specs.MovedColumns.{Along}

-- the row that items give, where none can fault
abbrev pub row_of_items : List Item → Row → List Row → List Value → Row
row_of_items items u env subs = map (λ (item : Item). good_value (value item.expr u env subs)) items

-- where no item can fault, the one expression is on every row what the other is on the row of the items; and it has every
-- kind that the other has over their kinds
pub record IsSubstituted (lower : List Item) (expr made : Expr) : Type 0 where
  pub value : items_faultless lower ≡ true → (u : Row) (env : List Row) (subs : List Value) →
      value made u env subs ≡ value expr (row_of_items lower u env subs) env subs
  pub kind : (kinds : List Kind) (outer : List (List Kind)) (subs : List Kind) (kind : Kind) → ItemsForm (kinds ∷ outer) subs lower →
      HasKind (item_kinds lower ∷ outer) subs expr kind → HasKind (kinds ∷ outer) subs made kind

pub record StepSubstituted (lower : List Item) (step made : ChainStep) : Type 0 where
  pub op : made.op ≡ step.op
  pub part : IsSubstituted lower step.part made.part

pub record ArmSubstituted (lower : List Item) (arm made : Arm) : Type 0 where
  pub condition : IsSubstituted lower arm.condition made.condition
  pub value : IsSubstituted lower arm.value made.value

pub record ItemSubstituted (lower : List Item) (item made : Item) : Type 0 where
  pub kind : made.kind ≡ item.kind
  pub expr : IsSubstituted lower item.expr made.expr

abbrev pub PartsSubstituted : List Item → List Expr → List Expr → Type 0
PartsSubstituted lower parts made = Along (IsSubstituted lower) parts made

abbrev pub StepsSubstituted : List Item → List ChainStep → List ChainStep → Type 0
StepsSubstituted lower steps made = Along (StepSubstituted lower) steps made

abbrev pub ArmsSubstituted : List Item → List Arm → List Arm → Type 0
ArmsSubstituted lower arms made = Along (ArmSubstituted lower) arms made

abbrev pub ItemsSubstituted : List Item → List Item → List Item → Type 0
ItemsSubstituted lower items made = Along (ItemSubstituted lower) items made

-- the input is a projection without sublinks to items that can't fault, in whose place the made ones stand over its own input
pub record IsMerged (input : Query) (items made : List Item) : Type 0 where
  pub under : Query
  pub lower : List Item
  pub is : input ≡ Project under lower []
  pub calm : items_faultless lower ≡ true
  pub are : ItemsSubstituted lower items made
