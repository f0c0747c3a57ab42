-- Where a table isn't read, a deletion from it changes nothing.
use Rattle.std.proofs.Common.{◌≡◌, ◌≢◌, ℕ, Bool, true, false, cond, not, ◌==◌, List, [], Option, filter, refl, sym, ◌∙◌}
use Rattle.std.proofs.lemmas.Bool.{eqb-true}
use Rattle.bag_algebra.proofs.TablesRead.{each_table-kept}
use Rattle.bag_algebra.specs.Bags.{Row}
use Rattle.bag_algebra.specs.Meaning.{Database, meaning}
use Rattle.bag_algebra.specs.TablesRead.{EachTable}
use Rattle.bag_algebra.specs.declared.expr.Expr.{Expr}
use Rattle.bag_algebra.specs.declared.query.Query.{Query}
use Rattle.contribution.proofs.TablesRead.{denote-equal_tables}
use Rattle.contribution.specs.SameMeaning.{EqualTables}
use Rattle.delete_impact.specs.vanishing.Doomed.{is_doomed, after_deletion}
use Rattle.delete_impact.specs.vanishing.Vanishing.{Vanishes}

module _ (id : ℕ) (condition : Option Expr) (db : Database) where
  kept-where : (other : ℕ) (b : Bool) → (other == id) ≡ b → other ≢ id → db other ≡ cond b (filter (λ row. not (is_doomed condition row)) (db other)) (db other)
  kept-where other true e apart = absurd (apart (eqb-true other id e))
  kept-where other false e apart = refl

  pub equal-unread : (q : Query) → EachTable (λ other kinds. other ≢ id) q → EqualTables db (after_deletion id condition db) q
  equal-unread q unread =
      each_table-kept _ (λ other kinds. db other ≡ after_deletion id condition db other) (λ other kinds apart. kept-where other (other == id) refl apart) q unread

  pub meaning-unread : (q : Query) (env : List Row) → EachTable (λ other kinds. other ≢ id) q → meaning q db env ≡ meaning q (after_deletion id condition db) env
  meaning-unread q env unread = λ i. (denote-equal_tables q db (after_deletion id condition db) env (equal-unread q unread) i).rows

pub nothing-vanishes : (q : Query) (id : ℕ) (condition : Option Expr) (db : Database) (t : Row) → EachTable (λ other kinds. other ≢ id) q →
    Vanishes q id condition db t → ⊥
nothing-vanishes q id condition db t unread v =
    v.after (record { bag = v.before.bag; good = sym (meaning-unread id condition db q [] unread) ∙ v.before.good; row = v.before.row })
