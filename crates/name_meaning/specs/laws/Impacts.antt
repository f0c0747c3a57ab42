-- What stands of a resolved IMPACT, so that it can be answered.
use Rattle.std.specs.Prelude.{◌≡◌, ℕ, true, List, [], ◌∷◌, Option, Some, IfSome}
use Rattle.perm_values.specs.declared.kind.Kind.TheVariants.{Boolean}
use Rattle.bag_algebra.specs.Closed.{is_closed}
use Rattle.bag_algebra.specs.TablesRead.{EachTable}
use Rattle.bag_algebra.specs.WellFormed.{HasKind, WellFormed}
use Rattle.bag_algebra.specs.declared.expr.Expr.{Expr}
use Rattle.bag_algebra.specs.declared.query.Query.{Query}
use Rattle.query_facts.specs.monotone.Conditions.{ConditionFits}
use Rattle.query_facts.specs.monotone.Monotone.{is_monotone}
use Rattle.perm_catalog.specs.Changes.{table_named}
use Rattle.perm_catalog.specs.Columns.{column_kinds}
use Rattle.perm_catalog.specs.Contents.{Contents}
use Rattle.perm_catalog.specs.Held.{IsHeldTable}
use Rattle.perm_catalog.specs.declared.entries.TableEntry.{TableEntry}

-- its table is one of the catalog; its query is monotone, closed, well formed under no outer rows, and reads the catalog's tables; its
-- condition is a truth on the kinds of the table's columns, and on those that the query reads of the table, without sublinks and
-- columns of outer rows
pub record ImpactStands (c : Contents) (name : List ℕ) (condition : Option Expr) (query : Query) : Type 0 where
  pub table : TableEntry
  pub named : table_named c name ≡ Some table
  pub monotone : is_monotone query ≡ true
  pub formed : WellFormed [] query
  pub closed : is_closed query ≡ true
  pub tables : EachTable (IsHeldTable c) query
  pub holds : IfSome condition (λ (e : Expr). HasKind (column_kinds table.columns ∷ []) [] e Boolean)
  pub fits : ConditionFits table.id condition query
