-- The rows of a query, with the faults that a condition meets on the rows of a table.
use Rattle.std.proofs.Common.{◌≡◌, ℕ, Bool, true, false, cond, List, [], ◌∷◌, Some, refl, sym, ap, ◌∙◌, append-nil, true≢false}
use Rattle.perm_values.specs.declared.kind.Kind.{Kind}
use Rattle.perm_values.specs.declared.kind.Kind.TheVariants.{Boolean}
use Rattle.perm_values.specs.declared.value.Value.{Value}
use Rattle.perm_values.proofs.Steps.{by}
use Rattle.bag_algebra.proofs.NeverBad.{good-value}
use Rattle.bag_algebra.proofs.Truths.{both-true}
use Rattle.bag_algebra.specs.Bags.{Bag, union_of}
use Rattle.bag_algebra.specs.Expressions.{value}
use Rattle.bag_algebra.specs.FaultFree.{faultless}
use Rattle.bag_algebra.specs.Kinds.{kinds_of}
use Rattle.bag_algebra.specs.Meaning.{Database, meaning}
use Rattle.bag_algebra.specs.Means.{holds_of}
use Rattle.bag_algebra.specs.Outcome.{Outcome, Good, Bad, is_good, mapped, both, each}
use Rattle.bag_algebra.specs.Rewriting.{is_plain}
use Rattle.bag_algebra.specs.TablesRead.{EachTable}
use Rattle.bag_algebra.specs.WellFormed.{WellFormed, HasKind}
use Rattle.bag_algebra.specs.built.Forms.{WellFormed-Union, EachTable-Union}
use Rattle.bag_algebra.specs.built.Openings.{meaning-Union}
use Rattle.bag_algebra.specs.built.Scopes.{is_plain-Union}
use Rattle.bag_algebra.specs.declared.expr.Expr.{Expr}
use Rattle.bag_algebra.specs.declared.query.Query.{Query}
use Rattle.bag_algebra.specs.declared.query.Query.TheVariants.{Union}
use Rattle.delete_impact.specs.vanishing.Doomed.{doomed_on}
use Rattle.delete_impact.specs.Answering.{looked_through, with_faults}
use Rattle.delete_impact.proofs.Conditions.{emptied}
use Rattle.delete_impact.proofs.LookedThrough.{meaning-looked_through, kinds-looked_through, formed-looked_through}

-- ---- what can meet no fault

next-good : (a : Outcome Value) (b : Outcome (List Bool)) → is_good a ≡ true → emptied b ≡ Good [] → emptied (both (λ y ys. y ∷ ys) (mapped holds_of a) b) ≡ Good []
next-good (Good v) (Good flags) g h = refl
next-good (Good v) (Bad f) g h = h
next-good (Bad f) b g h = absurd (true≢false (sym g))

all-good : (condition : Expr) → faultless condition ≡ true → (us : Bag) → emptied (each (doomed_on (Some condition)) us) ≡ Good []
all-good condition free [] = refl
all-good condition free (u ∷ us) =
    next-good (value condition u [] []) (each (doomed_on (Some condition)) us) (good-value condition free u [] []) (all-good condition free us)

beside-nothing : (o : Outcome Bag) → o ≡ both (union_of true) o (Good [])
beside-nothing (Good us) = ap Good (sym (append-nil us))
beside-nothing (Bad f) = refl

-- ---- both ways

pub either : (P : Query → Type 0) (free : Bool) (q r : Query) → P q → P r → P (cond free q r)
either P true q r h k = h
either P false q r h k = k

module _ (q : Query) (id : ℕ) (kinds : List Kind) (condition : Expr) where
  abbrev none : Query
  none = looked_through (kinds_of q) id kinds condition

  abbrev rows : Query
  rows = with_faults q (kinds_of q) id kinds condition

  pub plain-with_faults : is_plain q ≡ true → is_plain rows ≡ true
  plain-with_faults e =
      either (λ r. is_plain r ≡ true) (faultless condition) q (Union true q none) e (is_plain-Union true q none ∙ both-true (is_plain q) (is_plain none) e refl)

  pub tables-with_faults : (P : ℕ → List Kind → Type 0) → EachTable P q → P id kinds → EachTable P rows
  tables-with_faults P h k =
      either (EachTable P) (faultless condition) q (Union true q none) h (by (sym (EachTable-Union P true q none)) (h, (((k, tt), tt), tt)))

  pub formed-with_faults : WellFormed [] q → HasKind (kinds ∷ []) [] condition Boolean → WellFormed [] rows
  formed-with_faults f h =
      either (WellFormed []) (faultless condition) q (Union true q none) f
      (by (sym (WellFormed-Union [] true q none))
      (record { left_side = f; right_side = formed-looked_through (kinds_of q) id kinds condition h; same_kinds = sym (kinds-looked_through (kinds_of q) id kinds condition) }))

  module _ (db : Database) where
    meaning-by : (free : Bool) → faultless condition ≡ free →
        meaning (cond free q (Union true q none)) db [] ≡ both (union_of true) (meaning q db []) (emptied (each (doomed_on (Some condition)) (db id)))
    meaning-by true is = beside-nothing (meaning q db []) ∙ ap (both (union_of true) (meaning q db [])) (sym (all-good condition is (db id)))
    meaning-by false is = meaning-Union db [] true q none ∙ ap (both (union_of true) (meaning q db [])) (meaning-looked_through (kinds_of q) id kinds condition db)

    pub meaning-with_faults : meaning rows db [] ≡ both (union_of true) (meaning q db []) (emptied (each (doomed_on (Some condition)) (db id)))
    meaning-with_faults = meaning-by (faultless condition) refl
