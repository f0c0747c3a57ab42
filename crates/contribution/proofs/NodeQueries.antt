-- Filters, projections and joins without sublinks: what the constructors of code make, and what it means.
use Rattle.std.proofs.Common.{◌≡◌, ◌&&◌, ◌++◌, List, [], ◌∷◌, Result, Ok, Err, IfOk, sym, subst, append-nil}
use Rattle.perm_values.specs.declared.kind.Kind.{Kind}
use Rattle.perm_values.specs.declared.kind.Kind.TheVariants.{Boolean}
use Rattle.perm_values.specs.declared.no_memory.NoMemory.{NoMemory}
use Rattle.bag_algebra.specs.Bags.{Row}
use Rattle.bag_algebra.specs.built.Openings.{rows-with_lists}
use Rattle.bag_algebra.specs.Kinds.{kinds_of, width_of}
use Rattle.bag_algebra.specs.Meaning.{Database, meaning, condition_on, items_on}
use Rattle.bag_algebra.specs.Means.{no_subs, kept, joined_rows}
use Rattle.bag_algebra.specs.Outcome.{and_then, both_then, each, gather}
use Rattle.bag_algebra.specs.built.Patterns.{FilterOf, JoinOf, ProjectOf}
use Rattle.bag_algebra.specs.Rewriting.{is_plain}
use Rattle.bag_algebra.specs.TablesRead.{tables_read}
use Rattle.bag_algebra.specs.WellFormed.{WellFormed, HasKind, ItemsForm}
use Rattle.bag_algebra.specs.declared.expr.Expr.{Expr}
use Rattle.bag_algebra.specs.declared.expr.Item.{Item}
use Rattle.bag_algebra.specs.declared.query.JoinKind.{JoinKind}
use Rattle.bag_algebra.specs.declared.query.Query.{Query, end_of-Sublink}
use Rattle.bag_algebra.proofs.Truths.{and_true}

-- what holds of the value that a call makes
pub of_made : {X : Type 0} (P : X → Type 0) (result : Result X NoMemory) (made : X) → IfOk result (λ x. x ≡ made) → P made → IfOk result P
of_made P (Ok x) made e p = subst P (sym e) p
of_made P (Err error) made e p = tt

module _ (q : Query) (items : List Item) where
  abbrev projected : Query
  projected = ProjectOf q items [] end_of-Sublink

  pub meaning-projected : (db : Database) (env : List Row) → meaning projected db env ≡ and_then (meaning q db env) (each (items_on items env no_subs))
  meaning-projected db env = rows-with_lists _ _

  pub formed-projected : (outer : List (List Kind)) → WellFormed outer q → ItemsForm (kinds_of q ∷ outer) [] items → WellFormed outer projected
  formed-projected outer w parts = record { input = w; subs = tt; items = parts }

  pub plain-projected : is_plain projected ≡ is_plain q
  plain-projected = and_true (is_plain q)

  pub tables-projected : tables_read projected ≡ tables_read q
  tables-projected = append-nil (tables_read q)

module _ (q : Query) (condition : Expr) where
  abbrev chosen : Query
  chosen = FilterOf q condition [] end_of-Sublink

  pub meaning-chosen : (db : Database) (env : List Row) → meaning chosen db env ≡ and_then (meaning q db env) (gather (kept (condition_on condition env no_subs)))
  meaning-chosen db env = rows-with_lists _ _

  pub formed-chosen : (outer : List (List Kind)) → WellFormed outer q → HasKind (kinds_of q ∷ outer) [] condition Boolean → WellFormed outer chosen
  formed-chosen outer w test = record { input = w; subs = tt; condition = test }

  pub plain-chosen : is_plain chosen ≡ is_plain q
  plain-chosen = and_true (is_plain q)

  pub tables-chosen : tables_read chosen ≡ tables_read q
  tables-chosen = append-nil (tables_read q)

module _ (kind : JoinKind) (left right : Query) (condition : Expr) where
  abbrev pairs : Query
  pairs = JoinOf kind left right condition [] end_of-Sublink

  pub meaning-pairs : (db : Database) (env : List Row) →
      meaning pairs db env ≡ both_then (meaning left db env) (meaning right db env)
      (joined_rows kind (condition_on condition env no_subs) (width_of left) (width_of right))
  meaning-pairs db env = rows-with_lists _ _

  pub formed-pairs : (outer : List (List Kind)) → WellFormed outer left → WellFormed outer right →
      HasKind ((kinds_of left ++ kinds_of right) ∷ outer) [] condition Boolean → WellFormed outer pairs
  formed-pairs outer l r test = record { left = l; right = r; subs = tt; condition = test }

  pub plain-pairs : is_plain pairs ≡ (is_plain left && is_plain right)
  plain-pairs = and_true (is_plain left && is_plain right)

  pub tables-pairs : tables_read pairs ≡ tables_read left ++ tables_read right
  tables-pairs = append-nil (tables_read left ++ tables_read right)
