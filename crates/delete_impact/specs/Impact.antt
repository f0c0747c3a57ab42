-- What answers which rows of a query vanish where rows of a table are deleted.
use Rattle.std.specs.Prelude.{◌≡◌, ℕ, true, [], Option}
use Rattle.bag_algebra.specs.Bags.{Bag}
use Rattle.bag_algebra.specs.Closed.{is_closed}
use Rattle.bag_algebra.specs.Fits.{TablesFit}
use Rattle.bag_algebra.specs.Kinds.{kinds_of}
use Rattle.bag_algebra.specs.Meaning.{Database, meaning}
use Rattle.bag_algebra.specs.Outcome.{Outcome, Faults, Good, Bad, both, each}
use Rattle.bag_algebra.specs.Rewriting.{is_plain}
use Rattle.bag_algebra.specs.TablesRead.{ReadsAmong}
use Rattle.bag_algebra.specs.WellFormed.{WellFormed}
use Rattle.bag_algebra.specs.declared.expr.Expr.{Expr}
use Rattle.bag_algebra.specs.declared.query.Query.{Query}
use Rattle.delete_impact.specs.vanishing.Doomed.{doomed_on}
use Rattle.delete_impact.specs.vanishing.Vanishing.{Vanishes}
use Rattle.query_laws.specs.Holding.{HoldsOnce}
use Rattle.delete_impact.specs.reduced.Reads.{Unread, IsRead}

-- the rows of the query and what the condition says on each row of the table: both are looked at
abbrev pub looked_at : Query → ℕ → Option Expr → Database → Outcome Bag
looked_at q id condition db = both (λ us flags. us) (meaning q db []) (each (doomed_on condition) (db id))

-- p answers which rows of q vanish where the rows of the table that meet the condition are deleted
pub record IsImpact (q : Query) (id : ℕ) (condition : Option Expr) (p : Query) : Type 0 where
  pub plain : is_plain p ≡ true
  pub closed : is_closed p ≡ true
  pub formed : WellFormed [] p
  pub kinds : kinds_of p ≡ kinds_of q
  pub tables : ReadsAmong p q
  -- where the table isn't read no row vanishes, and the faults are the query's
  pub nothing : (db : Database) (us : Bag) → TablesFit db q → Unread id q → meaning q db [] ≡ Good us → meaning p db [] ≡ Good []
  pub own_faults : (db : Database) (faults : Faults) → TablesFit db q → Unread id q → meaning q db [] ≡ Bad faults → meaning p db [] ≡ Bad faults
  -- where it is read, the rows that vanish, each once; and the faults of the query and those of the condition on the table's rows
  pub vanishing : (db : Database) (us : Bag) → TablesFit db q → IsRead id q → looked_at q id condition db ≡ Good us →
      (ts : Bag) × (meaning p db [] ≡ Good ts) × HoldsOnce (Vanishes q id condition db) ts
  pub faults : (db : Database) (faults : Faults) → TablesFit db q → IsRead id q → looked_at q id condition db ≡ Bad faults → meaning p db [] ≡ Bad faults
