-- A node's conditions, items, arguments and sublinks on a row rest on the columns that the scopes name alone: they are
-- the same on a longer row.
use Rattle.std.proofs.Common.{◌≡◌, ℕ, zero, suc, true, List, ◌∷◌, ◌++◌, Some, refl, sym, ◌∙◌}
use Rattle.perm_values.specs.Rows.{value_at}
use Rattle.perm_values.specs.declared.kind.Kind.{Kind}
use Rattle.perm_values.specs.declared.kind.Kind.TheVariants.{Boolean}
use Rattle.bag_algebra.specs.Bags.{Row}
use Rattle.bag_algebra.specs.built.Openings.{row_of_subs, sub_denote-row_of_subs}
use Rattle.bag_algebra.specs.Children.{subs_denote}
use Rattle.bag_algebra.specs.Expressions.{row_at}
use Rattle.bag_algebra.specs.Fits.{row_begins}
use Rattle.bag_algebra.specs.Kinds.{kinds_of, shape}
use Rattle.bag_algebra.specs.Meaning.{Database, sub_denote, condition_on, items_on}
use Rattle.bag_algebra.specs.Means.{all_empty, contribution_of, good_value, sub_value}
use Rattle.bag_algebra.specs.Outcome.{and_then, both, both_then}
use Rattle.bag_algebra.specs.WellFormed.{column_kind, HasKind, ItemsForm, SubsForm}
use Rattle.bag_algebra.specs.declared.expr.Expr.{Expr}
use Rattle.bag_algebra.specs.declared.expr.Item.{Item}
use Rattle.bag_algebra.specs.declared.query.Query.{Row_of-Sublink, more_of-Sublink, end_of-Sublink}
use Rattle.bag_algebra.specs.declared.query.Sublink.{Sublink}
use Rattle.contribution.proofs.Growth.{value-same, items-same, tested-same, denote-same, value_at-longer}
use Rattle.contribution.proofs.QueryKinds.{each-all}
use Rattle.contribution.specs.SameColumns.{SameColumns}

-- a row with more values at its end, under the same outer rows
pub columns-added : (kinds : List Kind) (outer : List (List Kind)) (u more : Row) (env : List Row) → row_begins u kinds ≡ true →
    SameColumns (kinds ∷ outer) (u ∷ env) ((u ++ more) ∷ env)
columns-added kinds outer u more env b = record { same = at } where
  at : (level place : ℕ) (kind : Kind) → column_kind (kinds ∷ outer) level place ≡ Some kind →
      value_at (row_at (u ∷ env) level) place ≡ value_at (row_at ((u ++ more) ∷ env) level) place
  at zero place kind e = value_at-longer u more kinds place kind b e
  at (suc level) place kind e = refl

-- on rows that agree on the columns of the scopes
module _ (scopes : List (List Kind)) (u v : Row) (env other : List Row) (same : SameColumns scopes (u ∷ env) (v ∷ other)) (db : Database) where
  pub answers-same : {m : _} (subs : Row_of-Sublink m) → SubsForm scopes subs →
      (sub_denote subs db env).answers u ≡ (sub_denote subs db other).answers v
  answers-same end_of-Sublink f = refl
  answers-same (more_of-Sublink kind tested query subs) f =
      λ i. both (λ w ws. w ∷ ws)
      (both_then (tested-same scopes u v env other same kind tested (kinds_of query) f.fitting i) (denote-same query scopes db (u ∷ env) (v ∷ other) f.query same i).rows (sub_value kind))
      (answers-same subs f.others i)

  pub contributions-same : {m : _} (subs : Row_of-Sublink m) → SubsForm scopes subs →
      (sub_denote subs db env).contributions u ≡ (sub_denote subs db other).contributions v
  contributions-same end_of-Sublink f = refl
  contributions-same (more_of-Sublink kind tested query subs) f =
      λ i. contribution_of (all_empty (shape query)) kind (good_value (tested-same scopes u v env other same kind tested (kinds_of query) f.fitting i))
      (denote-same query scopes db (u ∷ env) (v ∷ other) f.query same i) ∷ contributions-same subs f.others i

  pub condition-same : {m : _} (subs : Row_of-Sublink m) (condition : Expr) (sub_kinds : List Kind) → SubsForm scopes subs →
      HasKind scopes sub_kinds condition Boolean →
      condition_on condition env (sub_denote subs db env) u ≡ condition_on condition other (sub_denote subs db other) v
  condition-same subs condition sub_kinds f h = λ i. and_then (answers-same subs f i) (λ answers. value-same scopes sub_kinds u v env other same answers condition Boolean h i)

  pub all_items-same : {m : _} (subs : Row_of-Sublink m) (items : List Item) (sub_kinds : List Kind) → SubsForm scopes subs →
      ItemsForm scopes sub_kinds items →
      items_on items env (sub_denote subs db env) u ≡ items_on items other (sub_denote subs db other) v
  all_items-same subs items sub_kinds f h = λ i. and_then (answers-same subs f i) (λ answers. items-same scopes u v env other same sub_kinds answers items (each-all _ items h) i)

-- ---- on lists of sublinks, as code holds them

module _ (scopes : List (List Kind)) (subs : List Sublink) (db : Database) (u v : Row) (env other : List Row) where
  pub subs-same : SubsForm scopes (row_of_subs subs) → SameColumns scopes (u ∷ env) (v ∷ other) →
      ((subs_denote subs db env).answers u ≡ (subs_denote subs db other).answers v) × ((subs_denote subs db env).contributions u ≡ (subs_denote subs db other).contributions v)
  subs-same f same =
      let here = sub_denote-row_of_subs subs db env in
      let there = sub_denote-row_of_subs subs db other in (
        (λ i. (sym here i).answers u) ∙ answers-same scopes u v env other same db (row_of_subs subs) f ∙ (λ i. (there i).answers v),
        (λ i. (sym here i).contributions u) ∙ contributions-same scopes u v env other same db (row_of_subs subs) f ∙ (λ i. (there i).contributions v),
      )

  pub condition_with_subs-same : (condition : Expr) (sub_kinds : List Kind) → SubsForm scopes (row_of_subs subs) →
      HasKind scopes sub_kinds condition Boolean → SameColumns scopes (u ∷ env) (v ∷ other) →
      condition_on condition env (subs_denote subs db env) u ≡ condition_on condition other (subs_denote subs db other) v
  condition_with_subs-same condition sub_kinds f h same =
      λ i. and_then ((subs-same f same).0 i) (λ answers. value-same scopes sub_kinds u v env other same answers condition Boolean h i)

  pub items_with_subs-same : (items : List Item) (sub_kinds : List Kind) → SubsForm scopes (row_of_subs subs) → ItemsForm scopes sub_kinds items →
      SameColumns scopes (u ∷ env) (v ∷ other) →
      items_on items env (subs_denote subs db env) u ≡ items_on items other (subs_denote subs db other) v
  items_with_subs-same items sub_kinds f h same =
      λ i. and_then ((subs-same f same).0 i) (λ answers. items-same scopes u v env other same sub_kinds answers items (each-all _ items h) i)
