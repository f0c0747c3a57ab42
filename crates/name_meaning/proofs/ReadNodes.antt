-- What holds of each table that parts read holds of each that is read by what they make.
use Rattle.std.specs.Prelude.{ℕ, Bool, List, [], ◌∷◌, ◌++◌}
use Rattle.std.proofs.Common.{◌≡◌, sym, subst}
use Rattle.perm_values.specs.declared.key.Key.{Key}
use Rattle.perm_values.specs.declared.kind.Kind.{Kind}
use Rattle.bag_algebra.proofs.TablesRead.{each_table-kept}
use Rattle.bag_algebra.specs.built.Forms.{EachTableOfSubs, EachTable-Base, EachTable-Filter, EachTable-Project, EachTable-Join, EachTable-Apply, EachTable-Union, EachTable-Intersect, EachTable-Except, EachTable-Distinct, EachTable-Aggregate, EachTable-Limit, EachTable-Prov}
use Rattle.bag_algebra.specs.TablesRead.{EachTable}
use Rattle.bag_algebra.specs.declared.expr.Expr.{Expr}
use Rattle.bag_algebra.specs.declared.expr.Item.{Item}
use Rattle.bag_algebra.specs.declared.query.Aggr.{Aggr}
use Rattle.bag_algebra.specs.declared.query.JoinKind.{JoinKind}
use Rattle.bag_algebra.specs.declared.query.Label.{Label}
use Rattle.bag_algebra.specs.declared.query.Query.{Query}
use Rattle.bag_algebra.specs.declared.query.Query.TheVariants.{Base, Filter, Project, Join, Apply, Union, Intersect, Except, Distinct, Aggregate, Limit, Prov}
use Rattle.bag_algebra.specs.declared.query.Sublink.{Sublink}

-- what holds of the tables that some names name holds of those that more names do
pub record Grows (P : List (List ℕ) → ℕ → List Kind → Type 0) : Type 0 where
  pub left : (a b : List (List ℕ)) (id : ℕ) (kinds : List Kind) → P a id kinds → P (a ++ b) id kinds
  pub right : (a b : List (List ℕ)) (id : ℕ) (kinds : List Kind) → P b id kinds → P (a ++ b) id kinds

module _ (P : List (List ℕ) → ℕ → List Kind → Type 0) (g : Grows P) where
  pub wide-left : (a b : List (List ℕ)) (query : Query) → EachTable (P a) query → EachTable (P (a ++ b)) query
  wide-left a b query f = each_table-kept (P a) (P (a ++ b)) (g.left a b) query f

  pub wide-right : (a b : List (List ℕ)) (query : Query) → EachTable (P b) query → EachTable (P (a ++ b)) query
  wide-right a b query f = each_table-kept (P b) (P (a ++ b)) (g.right a b) query f

  pub subs-left : (a b : List (List ℕ)) (subs : List Sublink) → EachTableOfSubs (P a) subs → EachTableOfSubs (P (a ++ b)) subs
  subs-left a b [] f = tt
  subs-left a b (sub ∷ subs) f = (wide-left a b sub.query f.0, subs-left a b subs f.1)

  pub subs-right : (a b : List (List ℕ)) (subs : List Sublink) → EachTableOfSubs (P b) subs → EachTableOfSubs (P (a ++ b)) subs
  subs-right a b [] f = tt
  subs-right a b (sub ∷ subs) f = (wide-right a b sub.query f.0, subs-right a b subs f.1)

along : {A B : Type 0} → A ≡ B → B → A
along e b = subst (λ (X : Type 0). X) (sym e) b

module _ (P : ℕ → List Kind → Type 0) where
  pub reads-append : (xs ys : List Sublink) → EachTableOfSubs P xs → EachTableOfSubs P ys → EachTableOfSubs P (xs ++ ys)
  reads-append [] ys f g = g
  reads-append (x ∷ xs) ys f g = (f.0, reads-append xs ys f.1 g)

  pub reads-Base : (input : Query) (places : List ℕ) (label : Label) → EachTable P input → EachTable P (Base input places label)
  reads-Base input places label f = along (EachTable-Base P input places label) f

  pub reads-Filter : (input : Query) (condition : Expr) (subs : List Sublink) → EachTable P input → EachTableOfSubs P subs → EachTable P (Filter input condition subs)
  reads-Filter input condition subs f g = along (EachTable-Filter P input condition subs) (f, g)

  pub reads-Project : (input : Query) (items : List Item) (subs : List Sublink) → EachTable P input → EachTableOfSubs P subs → EachTable P (Project input items subs)
  reads-Project input items subs f g = along (EachTable-Project P input items subs) (f, g)

  pub reads-Join : (kind : JoinKind) (left right : Query) (condition : Expr) (subs : List Sublink) → EachTable P left → EachTable P right
      → EachTableOfSubs P subs → EachTable P (Join kind left right condition subs)
  reads-Join kind left right condition subs f g h = along (EachTable-Join P kind left right condition subs) (f, g, h)

  pub reads-Apply : (kind : JoinKind) (left right : Query) → EachTable P left → EachTable P right → EachTable P (Apply kind left right)
  reads-Apply kind left right f g = along (EachTable-Apply P kind left right) (f, g)

  pub reads-Union : (all : Bool) (left right : Query) → EachTable P left → EachTable P right → EachTable P (Union all left right)
  reads-Union all left right f g = along (EachTable-Union P all left right) (f, g)

  pub reads-Intersect : (all : Bool) (left right : Query) → EachTable P left → EachTable P right → EachTable P (Intersect all left right)
  reads-Intersect all left right f g = along (EachTable-Intersect P all left right) (f, g)

  pub reads-Except : (all : Bool) (left right : Query) → EachTable P left → EachTable P right → EachTable P (Except all left right)
  reads-Except all left right f g = along (EachTable-Except P all left right) (f, g)

  pub reads-Distinct : (input : Query) → EachTable P input → EachTable P (Distinct input)
  reads-Distinct input f = along (EachTable-Distinct P input) f

  pub reads-Aggregate : (input : Query) (groups : List ℕ) (aggregates : List Aggr) → EachTable P input → EachTable P (Aggregate input groups aggregates)
  reads-Aggregate input groups aggregates f = along (EachTable-Aggregate P input groups aggregates) f

  pub reads-Limit : (input : Query) (keys : List Key) (count : ℕ) → EachTable P input → EachTable P (Limit input keys count)
  reads-Limit input keys count f = along (EachTable-Limit P input keys count) f

  pub reads-Prov : (input : Query) → EachTable P input → EachTable P (Prov input)
  reads-Prov input f = along (EachTable-Prov P input) f
