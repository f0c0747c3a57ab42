-- A closed query behind another: itself where that one is good, and else that one's faults alone.
use Rattle.std.proofs.Common.{◌≡◌, ℕ, ◌<◌, true, List, [], ◌∷◌, ◌++◌, map, refl, sym, ap, ◌∙◌, append-nil}
use Rattle.std.proofs.lemmas.List.{map-id}
use Rattle.std.proofs.lemmas.List.Elements.{All-nil}
use Rattle.perm_values.specs.declared.kind.Kind.{Kind}
use Rattle.perm_values.proofs.Steps.{by}
use Rattle.bag_algebra.proofs.Truths.{both-true}
use Rattle.bag_algebra.specs.Bags.{Row, Bag}
use Rattle.bag_algebra.specs.Kinds.{kinds_of, width_of}
use Rattle.bag_algebra.specs.Meaning.{Database, meaning, arguments_on}
use Rattle.bag_algebra.specs.Means.{under, class_keys, class_row, grouped}
use Rattle.bag_algebra.specs.Outcome.{Outcome, Good, Bad, and_then, mapped, both, gather, each}
use Rattle.bag_algebra.specs.Rewriting.{is_plain}
use Rattle.bag_algebra.specs.TablesRead.{EachTable}
use Rattle.bag_algebra.specs.WellFormed.{WellFormed, aggr_form}
use Rattle.bag_algebra.specs.built.Forms.{WellFormed-Apply, WellFormed-Aggregate, EachTable-Apply, EachTable-Aggregate}
use Rattle.bag_algebra.specs.built.Openings.{meaning-Apply, meaning-Aggregate, kinds_of-Apply, kinds_of-Aggregate}
use Rattle.bag_algebra.specs.built.Scopes.{is_plain-Apply, is_plain-Aggregate}
use Rattle.bag_algebra.specs.declared.query.Aggr.{Aggr}
use Rattle.bag_algebra.specs.declared.query.JoinKind.TheVariants.{Inner}
use Rattle.bag_algebra.specs.declared.query.Query.{Query}
use Rattle.bag_algebra.specs.declared.query.Query.TheVariants.{Aggregate}
use Rattle.contribution.proofs.Growth.{denote-closed}
use Rattle.contribution.proofs.LongerKinds.{well_formed-longer, longer-names}
use Rattle.contribution.specs.Longer.{more_lists}
use Rattle.delete_impact.specs.reduced.Reduced.{behind}

-- ---- one row without columns

no-arguments : (us : Bag) → each (arguments_on [] []) us ≡ Good (map (λ u. []) us)
no-arguments [] = refl
no-arguments (u ∷ us) = ap (both (λ y ys. y ∷ ys) (Good [])) (no-arguments us)

-- all rows together are one class, whose row has neither group values nor aggregates
one-class : (us : Bag) → grouped [] [] (arguments_on [] []) us ≡ Good ([] ∷ [])
one-class us = ap (λ o. and_then o (λ rows. each (class_row [] [] (arguments_on [] []) us) (class_keys [] us))) (no-arguments us)

alone : (o : Outcome Bag) → both (λ y ys. y ++ ys) o (Good []) ≡ o
alone (Good vs) = ap Good (append-nil vs)
alone (Bad faults) = refl

module _ (width : ℕ) where
  under-nothing : (vs : Bag) → under Inner width [] vs ≡ vs
  under-nothing [] = refl
  under-nothing (v ∷ vs) = map-id (v ∷ vs)

  mapped-nothing : (o : Outcome Bag) → mapped (under Inner width []) o ≡ o
  mapped-nothing (Good vs) = ap Good (under-nothing vs)
  mapped-nothing (Bad faults) = refl

-- ---- rows

module _ (first q : Query) (closed : WellFormed [] q) (db : Database) where
  abbrev beside : Row → Outcome Bag
  beside u = mapped (under Inner (width_of q) u) (meaning q db (u ∷ []))

  on-one : (o : Outcome Bag) → and_then (and_then o (grouped [] [] (arguments_on [] []))) (gather beside) ≡ and_then o (λ us. meaning q db [])
  on-one (Good us) =
      ap (λ o. and_then o (gather beside)) (one-class us)
      ∙ alone (beside [])
      ∙ mapped-nothing (width_of q) (meaning q db ([] ∷ []))
      ∙ (λ i. (denote-closed q db ([] ∷ []) [] closed i).rows)
  on-one (Bad faults) = refl

  pub meaning-behind : meaning (behind first q) db [] ≡ and_then (meaning first db []) (λ us. meaning q db [])
  meaning-behind =
      meaning-Apply db [] Inner (Aggregate first [] []) q
      ∙ ap (λ o. and_then o (gather beside)) (meaning-Aggregate db [] first [] [])
      ∙ on-one (meaning first db [])

-- ---- forms

module _ (first q : Query) where
  abbrev one_row : Query
  one_row = Aggregate first [] []

  pub kinds-behind : kinds_of (behind first q) ≡ kinds_of q
  kinds-behind = kinds_of-Apply Inner one_row q ∙ ap (λ kinds. kinds ++ kinds_of q) (kinds_of-Aggregate first [] [])

  pub plain-behind : is_plain first ≡ true → is_plain q ≡ true → is_plain (behind first q) ≡ true
  plain-behind e f = is_plain-Apply Inner one_row q ∙ both-true (is_plain one_row) (is_plain q) (is_plain-Aggregate first [] [] ∙ e) f

  pub tables-behind : (P : ℕ → List Kind → Type 0) → EachTable P first → EachTable P q → EachTable P (behind first q)
  tables-behind P h k = by (sym (EachTable-Apply P Inner one_row q)) (by (sym (EachTable-Aggregate P first [] [])) h, k)

  pub formed-behind : WellFormed [] first → WellFormed [] q → WellFormed [] (behind first q)
  formed-behind f g =
      by (sym (WellFormed-Apply [] Inner one_row q)) (record {
        left = by (sym (WellFormed-Aggregate [] first [] [])) (record {
          input = f;
          groups = All-nil (λ (place : ℕ). place < width_of first);
          aggregates = All-nil (λ (aggregate : Aggr). aggr_form aggregate.function aggregate.argument (kinds_of first ∷ []) aggregate.kind);
        });
        right = well_formed-longer q [] (kinds_of one_row ∷ []) (longer-names (more_lists (kinds_of one_row ∷ []))) g;
        dependent = refl;
      })
