-- No row, with the faults of the condition; and the faults of both.
use Rattle.std.proofs.Common.{◌≡◌, ℕ, true, List, [], ◌∷◌, ◌++◌, map, Some, refl, ap, ◌∙◌}
use Rattle.perm_values.specs.declared.kind.Kind.{Kind}
use Rattle.perm_values.specs.declared.kind.Kind.TheVariants.{Boolean}
use Rattle.bag_algebra.specs.Bags.{Row, Bag, union_of}
use Rattle.bag_algebra.specs.Kinds.{kinds_of}
use Rattle.bag_algebra.specs.Meaning.{Database, meaning, condition_on, items_on}
use Rattle.bag_algebra.specs.Means.{no_subs, kept}
use Rattle.bag_algebra.specs.Outcome.{Faults, Outcome, Good, Bad, and_then, both, gather, each}
use Rattle.bag_algebra.specs.WellFormed.{WellFormed, HasKind}
use Rattle.bag_algebra.specs.built.Patterns.{FilterOf}
use Rattle.bag_algebra.specs.declared.expr.Expr.{Expr}
use Rattle.bag_algebra.specs.declared.query.Query.{Query, end_of-Sublink}
use Rattle.bag_algebra.specs.declared.query.Query.TheVariants.{Table}
use Rattle.contribution.proofs.NodeQueries.{meaning-chosen, meaning-projected}
use Rattle.contribution.proofs.Padding.{null_items-kinds, null_items-formed}
use Rattle.contribution.specs.NullItems.{null_item}
use Rattle.delete_impact.specs.vanishing.Doomed.{doomed_on}
use Rattle.delete_impact.specs.Answering.{never, no_row_of, looked_through}
use Rattle.delete_impact.proofs.Conditions.{emptied, emptied-kept}

none-kept : (us : Bag) → gather (kept (condition_on never [] no_subs)) us ≡ Good []
none-kept [] = refl
none-kept (u ∷ us) = ap (both (λ y ys. y ++ ys) (Good [])) (none-kept us)

then-none : (o : Outcome Bag) → and_then o (gather (kept (condition_on never [] no_subs))) ≡ emptied o
then-none (Good us) = none-kept us
then-none (Bad f) = refl

pub meaning-no_row : (q : Query) (db : Database) → meaning (no_row_of q) db [] ≡ emptied (meaning q db [])
meaning-no_row q db = meaning-chosen q never db [] ∙ then-none (meaning q db [])

emptied-twice : (o : Outcome Bag) → emptied (emptied o) ≡ emptied o
emptied-twice (Good us) = refl
emptied-twice (Bad f) = refl

each-emptied : (items : Row → Outcome Row) (o : Outcome Bag) → and_then (emptied o) (each items) ≡ emptied o
each-emptied items (Good us) = refl
each-emptied items (Bad f) = refl

module _ (columns : List Kind) (id : ℕ) (kinds : List Kind) (condition : Expr) where
  abbrev rows : Query
  rows = FilterOf (Table id kinds) condition [] end_of-Sublink

  pub meaning-looked_through : (db : Database) → meaning (looked_through columns id kinds condition) db [] ≡ emptied (each (doomed_on (Some condition)) (db id))
  meaning-looked_through db =
      meaning-projected (no_row_of rows) (map null_item columns) db []
      ∙ ap (λ o. and_then o (each (items_on (map null_item columns) [] no_subs))) (meaning-no_row rows db)
      ∙ each-emptied (items_on (map null_item columns) [] no_subs) (meaning rows db [])
      ∙ ap emptied (meaning-chosen (Table id kinds) condition db [])
      ∙ emptied-kept (condition_on condition [] no_subs) (db id)

  pub kinds-looked_through : kinds_of (looked_through columns id kinds condition) ≡ columns
  kinds-looked_through = null_items-kinds columns

  pub formed-looked_through : HasKind (kinds ∷ []) [] condition Boolean → WellFormed [] (looked_through columns id kinds condition)
  formed-looked_through h = record {
    input = record { input = record { input = tt; subs = tt; condition = h }; subs = tt; condition = record { fitting = refl; gives = refl } };
    subs = tt;
    items = null_items-formed columns (kinds ∷ []);
  }

-- ---- the faults of both

module _ {X : Type 0} where
  pub good-both : (o : Outcome Bag) (p : Outcome X) (us : Bag) → both (λ us x. us) o p ≡ Good us → (o ≡ Good us) × (x : X) × (p ≡ Good x)
  good-both (Good us) (Good x) vs e = (e, x, refl)
  good-both (Good us) (Bad g) vs e = absurd (cc e)
  good-both (Bad f) (Good x) vs e = absurd (cc e)
  good-both (Bad f) (Bad g) vs e = absurd (cc e)

  pub bad-both : (o : Outcome Bag) (p : Outcome X) (f : Faults) → both (λ us x. us) o p ≡ Bad f → both (union_of true) o (emptied p) ≡ Bad f
  bad-both (Good us) (Good x) f e = absurd (cc e)
  bad-both (Good us) (Bad g) f e = e
  bad-both (Bad g) (Good x) f e = e
  bad-both (Bad g) (Bad h) f e = e
