-- When a resolved statement can be carried out: what its names name is there, and its query is one that can run.
use Rattle.std.specs.Prelude.{◌≡◌, ℕ, true, List, [], Option, None, IsSome}
use Rattle.bag_algebra.specs.Fits.{TablesFit}
use Rattle.bag_algebra.specs.TableRows.{rows_in}
use Rattle.bag_algebra.specs.TablesRead.{EachTable}
use Rattle.bag_algebra.specs.WellFormed.{WellFormed}
use Rattle.bag_algebra.specs.declared.expr.Expr.{Expr}
use Rattle.bag_algebra.specs.declared.query.Answer.{Answer}
use Rattle.query_facts.specs.monotone.Conditions.{ConditionFits}
use Rattle.query_facts.specs.monotone.Monotone.{is_monotone}
use Rattle.perm_catalog.specs.Changes.{table_named, view_named, is_free}
use Rattle.perm_catalog.specs.Contents.{Contents}
use Rattle.perm_catalog.specs.Lookups.{first_user}
use Rattle.perm_catalog.specs.Sound.{IsSound, IsSoundAnswer}
use Rattle.perm_catalog.specs.Held.{IsHeldTable}
use Rattle.name_meaning.specs.declared.answer.Resolved.{Resolved}
use Rattle.name_meaning.specs.declared.answer.Resolved.TheVariants as r
use Rattle.statement_meaning.specs.Turns.{identity_of}

-- a query that is well formed under no outer rows, whose tables have rows of the kinds that it reads
pub record CanRun (c : Contents) (answer : Answer) : Type 0 where
  pub formed : WellFormed [] answer.query
  pub fitting : TablesFit (rows_in c.rows) answer.query

-- over a sound catalog: a query that can run and has a column, whose tables are the catalog's, with as many names as columns, and keys
-- among these
pub record CanExplain (c : Contents) (answer : Answer) : Type 0 where
  pub sound : IsSound c
  pub is : IsSoundAnswer answer
  pub held : EachTable (IsHeldTable c) answer.query

-- a monotone query that can run, a table that is known, and a condition that is a truth on the rows of it that the query reads
pub record CanLose (c : Contents) (name : List ℕ) (condition : Option Expr) (answer : Answer) : Type 0 where
  pub known : IsSome (table_named c name)
  pub can : CanRun c answer
  pub monotone : is_monotone answer.query ≡ true
  pub fits : ConditionFits (identity_of c name) condition answer.query

abbrev pub IsReady : Contents → Resolved → Type 0
IsReady c (r.CreateTable name columns) = is_free c name ≡ true
IsReady c (r.CreateTableAs name columns answer places) = (is_free c name ≡ true) × CanRun c answer
IsReady c (r.CreateView name entry) = is_free c name ≡ true
IsReady c (r.Copy name kinds file null_field header) = IsSome (table_named c name)
IsReady c (r.Insert name rows) = IsSome (table_named c name)
IsReady c (r.Delete name condition) = IsSome (table_named c name)
IsReady c (r.DropTable name) = IsSome (table_named c name) × (first_user c name ≡ None)
IsReady c (r.DropView name) = IsSome (view_named c name) × (first_user c name ≡ None)
IsReady c (r.Select answer) = CanRun c answer
IsReady c (r.Explain answer) = CanExplain c answer
IsReady c (r.ShowFresh name) = IsSome (table_named c name)
IsReady c (r.Impact name condition answer) = CanLose c name condition answer
