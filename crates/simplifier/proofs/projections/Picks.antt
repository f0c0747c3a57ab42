-- A query as columns of another: in what that one's rows, kinds and tables are its own.
use Rattle.std.proofs.Common.{◌≡◌, ℕ, Bool, true, false, List, [], ◌∷◌, map, length, append-nil, refl, sym, ap, ◌∙◌, subst, arith}
use Rattle.std.specs.List.{range_with_len}
use Rattle.perm_values.specs.Rows.{picked, PlacesWithin}
use Rattle.perm_values.specs.declared.kind.Kind.{Kind}
use Rattle.perm_values.specs.declared.kind.Kind.TheVariants.{Text}
use Rattle.perm_values.specs.declared.value.Value.TheVariants.{Null}
use Rattle.perm_values.proofs.Steps.{by}
use Rattle.bag_algebra.proofs.Truths.{and_true}
use Rattle.bag_algebra.specs.Bags.{Row, Bag}
use Rattle.bag_algebra.specs.Fits.{TablesFit, env_fits}
use Rattle.bag_algebra.specs.Kinds.{kinds_in, kinds_of, width_of}
use Rattle.bag_algebra.specs.Meaning.{Database, meaning}
use Rattle.bag_algebra.specs.Outcome.{Outcome, Good, Bad, mapped}
use Rattle.bag_algebra.specs.Rewriting.{is_plain}
use Rattle.bag_algebra.specs.TablesRead.{EachTable}
use Rattle.bag_algebra.specs.WellFormed.{HasKind, WellFormed}
use Rattle.bag_algebra.specs.built.Forms.{EachTable-Project, WellFormed-Project}
use Rattle.bag_algebra.specs.built.Openings.{kinds_of-Project}
use Rattle.bag_algebra.specs.built.Scopes.{is_plain-Project}
use Rattle.bag_algebra.specs.declared.expr.Item.{Item}
use Rattle.bag_algebra.specs.declared.query.Query.{Query}
use Rattle.bag_algebra.specs.declared.query.Query.TheVariants.{Project}
use Rattle.contribution.proofs.QueryKinds.{denote-fits, each-all}
use Rattle.contribution.proofs.RowKinds.{RowFits, row_fits-length}
use Rattle.contribution.proofs.WhereGood.{Every, WhereGood}
use Rattle.rewrite_core.proofs.Places.{at-between, within-range}
use Rattle.simpler_laws.proofs.ColumnItems.{columns-kinds, columns-within, meaning-columns}
use Rattle.simpler_laws.specs.Lowered.{AreColumns}
use Rattle.simplifier.specs.projections.Sides.{IsSide, of_input, of_itself}
use Rattle.simplifier.specs.declared.projections.sides.Side.{Side}

-- the rows of the query are those of the other at the places
pub record Picks (query under : Query) (places : List ℕ) : Type 1 where
  pub plain : is_plain query ≡ true → is_plain under ≡ true
  pub tables : (P : ℕ → List Kind → Type 0) → EachTable P query → EachTable P under
  pub formed : (outer : List (List Kind)) → WellFormed outer query → WellFormed outer under
  pub kinds : (outer : List (List Kind)) → WellFormed outer query → kinds_of query ≡ kinds_in (kinds_of under) places
  pub within : (outer : List (List Kind)) → WellFormed outer query → PlacesWithin (width_of under) places
  pub rows : (outer : List (List Kind)) (db : Database) (env : List Row) → WellFormed outer query → TablesFit db query → env_fits env outer ≡ true →
      meaning query db env ≡ mapped (map (picked places)) (meaning under db env)

-- ---- a projection to columns

pub picks-columns : (under : Query) (items : List Item) (places : List ℕ) → AreColumns items places → Picks (Project under items []) under places
picks-columns under items places are =
    let inside : (outer : List (List Kind)) → WellFormed outer (Project under items []) →
    Every (λ (item : Item). HasKind (kinds_of under ∷ outer) [] item.expr item.kind) items =
    λ outer f. each-all (λ (item : Item). HasKind (kinds_of under ∷ outer) [] item.expr item.kind) items (by (WellFormed-Project outer under items []) f).items in
    record {
      plain = λ h. sym (and_true (is_plain under)) ∙ sym (is_plain-Project under items []) ∙ h;
      tables = λ P h. (by (EachTable-Project P under items []) h).0;
      formed = λ outer f. (by (WellFormed-Project outer under items []) f).input;
      kinds = λ outer f. kinds_of-Project under items [] ∙ columns-kinds (kinds_of under) outer items places are (inside outer f);
      within = λ outer f. columns-within (kinds_of under) outer items places are (inside outer f);
      rows = λ outer db env f t e. meaning-columns under items places db env are;
    }

-- ---- a query itself

all-kinds : (kinds : List Kind) → kinds_in kinds (range_with_len 0 (length kinds)) ≡ kinds
all-kinds kinds = ap (λ ks. kinds_in ks (range_with_len 0 (length kinds))) (sym (append-nil kinds)) ∙ at-between Text [] kinds [] 0 (length kinds) refl refl

all-values : (u : Row) (width : ℕ) → length u ≡ width → picked (range_with_len 0 width) u ≡ u
all-values u width long = ap (picked (range_with_len 0 width)) (sym (append-nil u)) ∙ at-between Null [] u [] 0 width refl long

module _ (kinds : List Kind) where
  each-itself : (us : Bag) → Every (RowFits kinds) us → map (picked (range_with_len 0 (length kinds))) us ≡ us
  each-itself [] h = refl
  each-itself (u ∷ us) h = λ i. all-values u (length kinds) (row_fits-length u kinds h.0.fit) i ∷ each-itself us h.1 i

  rows-itself : (o : Outcome Bag) → WhereGood (Every (RowFits kinds)) o → o ≡ mapped (map (picked (range_with_len 0 (length kinds)))) o
  rows-itself (Good us) h = ap Good (sym (each-itself us h))
  rows-itself (Bad faults) h = refl

pub picks-itself : (query : Query) → Picks query query (range_with_len 0 (width_of query))
picks-itself query = record {
  plain = λ h. h;
  tables = λ P h. h;
  formed = λ outer f. f;
  kinds = λ outer f. sym (all-kinds (kinds_of query));
  within = λ outer f. within-range (width_of query) 0 (width_of query) (omega arith);
  rows = λ outer db env f t e. rows-itself (kinds_of query) (meaning query db env) (denote-fits query outer db env f t e).rows;
}

-- ---- what is taken as the other query

pub picks-side : (query : Query) (side : Side) (input : Bool) (other : Query) → IsSide query side → input ≡ side.input → (input ≡ false → other ≡ query) →
    (input ≡ true → (under : Query) (items : List Item) → query ≡ Project under items [] → other ≡ under) →
    Picks query other side.places × (side.width ≡ width_of other)
picks-side query side input other (of_input taken below) same itself inside =
    let is : other ≡ below.under = inside (same ∙ taken) below.under below.items below.is in (
      subst (λ o. Picks query o side.places) (sym is)
          (subst (λ q. Picks q below.under side.places) (sym below.is) (picks-columns below.under below.items side.places below.columns)),
      below.width ∙ ap width_of (sym is),
    )
picks-side query side input other (of_itself taken places width) same itself inside =
    let is : other ≡ query = itself (same ∙ taken) in (
      subst (λ o. Picks query o side.places) (sym is) (subst (Picks query query) (sym places) (picks-itself query)),
      width ∙ ap width_of (sym is),
    )
