-- A projection of a query to all its columns in their order changes nothing: what it is a rewriting of, the query is too.
use Rattle.std.proofs.Common.{◌≡◌, ℕ, true, List, [], ◌∷◌, map, inl, inr, refl, sym, ap, ◌∙◌, subst}
use Rattle.std.specs.List.{range_with_len}
use Rattle.perm_values.specs.Rows.{picked}
use Rattle.perm_values.specs.declared.kind.Kind.{Kind}
use Rattle.perm_values.specs.declared.kind.Kind.TheVariants.{Text}
use Rattle.perm_values.specs.declared.value.Value.TheVariants.{Null}
use Rattle.bag_algebra.proofs.Members.{IsIn}
use Rattle.bag_algebra.proofs.TablesRead.{reads_among-fit}
use Rattle.bag_algebra.specs.Bags.{Row, Bag}
use Rattle.bag_algebra.specs.ColumnItems.{column_items}
use Rattle.bag_algebra.specs.Fits.{TablesFit, env_fits}
use Rattle.bag_algebra.specs.Kinds.{kinds_of, width_of}
use Rattle.bag_algebra.specs.Meaning.{Database, meaning}
use Rattle.bag_algebra.specs.Outcome.{Outcome, Good, Bad, mapped}
use Rattle.bag_algebra.specs.built.Patterns.{ProjectOf, ProvOf}
use Rattle.bag_algebra.specs.Rewriting.{IsRewrite, SameSet}
use Rattle.bag_algebra.specs.WellFormed.{WellFormed}
use Rattle.bag_algebra.specs.declared.query.Query.{Query, end_of-Sublink}
use Rattle.contribution.specs.Fitting.{Fitting}
use Rattle.contribution.proofs.ColumnQueries.{kinds_of-columns, meaning-columns}
use Rattle.contribution.proofs.NodeQueries.{plain-projected}
use Rattle.rewrite_core.proofs.RowColumns.{from_start, row-width}

map-as_is : (f : Row → Row) (us : Bag) → ((u : Row) → IsIn u us → f u ≡ u) → map f us ≡ us
map-as_is f [] same = refl
map-as_is f (u ∷ us) same = λ i. (same u (inl refl)) i ∷ (map-as_is f us (λ v h. same v (inr h))) i

module _ (q p : Query) where
  abbrev order : List ℕ
  order = range_with_len 0 (width_of p)

  abbrev columns : Query
  columns = ProjectOf p (column_items (kinds_of p) order) [] end_of-Sublink

  module _ (given : IsRewrite q columns) where
    module _ (outer : List (List Kind)) (formed : WellFormed outer q) (db : Database) (env : List Row)
        (tables : TablesFit db q) (fitting : env_fits env outer ≡ true) where
      fits : Fitting outer p db env
      fits = record { formed = (given.formed outer formed).input; tables = reads_among-fit p q db given.tables.0 tables; outer_rows = fitting }

      as_they_are : (us : Bag) → meaning p db env ≡ Good us → map (picked order) us ≡ us
      as_they_are us good = map-as_is (picked order) us
          (λ u h. ap (λ n. picked (range_with_len 0 n) u) (sym (row-width outer p db env fits us good u h)) ∙ from_start Null u)

      same_outcome : (o : Outcome Bag) → meaning p db env ≡ o → mapped (map (picked order)) o ≡ o
      same_outcome (Good us) good = ap Good (as_they_are us good)
      same_outcome (Bad f) bad = refl

      same_meaning : meaning columns db env ≡ meaning p db env
      same_meaning = meaning-columns p order db env ∙ same_outcome (meaning p db env) refl

    pub rewrite-unprojected : IsRewrite q p
    rewrite-unprojected = record {
      plain = sym (plain-projected p (column_items (kinds_of p) order)) ∙ given.plain;
      kinds = λ outer formed. sym (kinds_of-columns p order ∙ from_start Text (kinds_of p)) ∙ given.kinds outer formed;
      formed = λ outer formed. (given.formed outer formed).input;
      tables = given.tables.0;
      rows = λ outer db env formed tables fitting.
          subst (SameSet (meaning (ProvOf q) db env)) (same_meaning outer formed db env tables fitting) (given.rows outer db env formed tables fitting);
    }
