-- An expression of a query that stands beside a row, as an expression over the two together.
use Rattle.std.specs.Prelude.{◌≡◌, true, List, [], ◌∷◌}
use Rattle.perm_values.specs.declared.kind.Kind.{Kind}
use Rattle.bag_algebra.specs.Bags.{Row}
use Rattle.bag_algebra.specs.Expressions.{value}
use Rattle.bag_algebra.specs.FaultFree.{faultless, items_faultless}
use Rattle.bag_algebra.specs.Kinds.{item_kinds}
use Rattle.bag_algebra.specs.Meaning.{items_on}
use Rattle.bag_algebra.specs.Means.{no_subs}
use Rattle.bag_algebra.specs.Outcome.{Good}
use Rattle.bag_algebra.specs.WellFormed.{HasKind, ItemsForm}
use Rattle.bag_algebra.specs.declared.expr.Arm.{Arm}
use Rattle.bag_algebra.specs.declared.expr.ChainStep.{ChainStep}
use Rattle.bag_algebra.specs.declared.expr.Expr.{Expr}
use Rattle.bag_algebra.specs.declared.expr.Item.{Item}
use Rattle.contribution.specs.MovedColumns.{Along}

-- The first expression sees as its own row what the items make of a joined row, and as its nearest outer row the joined row
-- itself; the second is the same over the joined row, so every row further out is one level nearer. It has the kinds that
-- the first has where the own row has the items' kinds, and is free of faults where the first is.
pub record IsPlaced (items : List Item) (expr placed : Expr) : Type 0 where
  pub value : (x : Row) (env : List Row) (t : Row) → items_on items env no_subs x ≡ Good t →
      value placed x env [] ≡ value expr t (x ∷ env) []
  pub kind : (own : List Kind) (outer : List (List Kind)) (kind : Kind) → ItemsForm (own ∷ outer) [] items →
      HasKind (item_kinds items ∷ own ∷ outer) [] expr kind → HasKind (own ∷ outer) [] placed kind
  pub faultless : items_faultless items ≡ true → faultless placed ≡ faultless expr

pub record StepPlaced (items : List Item) (step placed : ChainStep) : Type 0 where
  pub op : placed.op ≡ step.op
  pub part : IsPlaced items step.part placed.part

pub record ArmPlaced (items : List Item) (arm placed : Arm) : Type 0 where
  pub condition : IsPlaced items arm.condition placed.condition
  pub value : IsPlaced items arm.value placed.value

pub record ItemPlaced (items : List Item) (item placed : Item) : Type 0 where
  pub kind : placed.kind ≡ item.kind
  pub expr : IsPlaced items item.expr placed.expr

-- one by one
abbrev pub PartsPlaced : List Item → List Expr → List Expr → Type 0
PartsPlaced items parts placed = Along (IsPlaced items) parts placed

abbrev pub StepsPlaced : List Item → List ChainStep → List ChainStep → Type 0
StepsPlaced items steps placed = Along (StepPlaced items) steps placed

abbrev pub ArmsPlaced : List Item → List Arm → List Arm → Type 0
ArmsPlaced items arms placed = Along (ArmPlaced items) arms placed

abbrev pub ItemsPlaced : List Item → List Item → List Item → Type 0
ItemsPlaced items others placed = Along (ItemPlaced items) others placed
