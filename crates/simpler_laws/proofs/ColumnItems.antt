-- Tests above a projection to columns are tests below it.
use Rattle.std.proofs.Common.{◌≡◌, ℕ, ◌<◌, ◌&&◌, true, List, [], ◌∷◌, ◌++◌, length, filter, map, Some, refl, sym, ap, ◌∙◌}
use Rattle.std.proofs.lemmas.Option.{get_or_from_slice_get, slice_get_within}
use Rattle.std.specs.Prelude.{⊤, slice_get}
use Rattle.perm_values.specs.Rows.{picked, PlacesWithin}
use Rattle.perm_values.specs.declared.kind.Kind.{Kind}
use Rattle.perm_values.specs.declared.kind.Kind.TheVariants as kind
use Rattle.perm_values.proofs.Steps.{by}
use Rattle.bag_algebra.proofs.Truths.{and_true}
use Rattle.bag_algebra.specs.Bags.{Row, Bag}
use Rattle.bag_algebra.specs.Expressions.{value}
use Rattle.bag_algebra.specs.Kinds.{kinds_in, kinds_of, item_kinds}
use Rattle.bag_algebra.specs.Meaning.{Database, meaning, items_on}
use Rattle.bag_algebra.specs.Means.{is_met, no_subs}
use Rattle.bag_algebra.specs.Outcome.{Outcome, Good, Bad, and_then, mapped, both, each}
use Rattle.bag_algebra.specs.Rewriting.{is_plain, Stands}
use Rattle.bag_algebra.specs.WellFormed.{HasKind, ItemsForm, WellFormed}
use Rattle.bag_algebra.specs.built.FaultFree.{all_parts_faultless}
use Rattle.bag_algebra.specs.built.Forms.{AllHave, EachTable-Project, WellFormed-Project}
use Rattle.bag_algebra.specs.built.Openings.{Project_with-is, meaning-Project}
use Rattle.bag_algebra.specs.built.Scopes.{is_plain-Project}
use Rattle.bag_algebra.specs.declared.expr.Expr.{Expr}
use Rattle.bag_algebra.specs.declared.expr.Expr.TheVariants.{Col}
use Rattle.bag_algebra.specs.declared.expr.Item.{Item}
use Rattle.bag_algebra.specs.declared.query.Query.{Query}
use Rattle.bag_algebra.specs.declared.query.Query.TheVariants.{Project}
use Rattle.contribution.proofs.ColumnQueries.{all-nothing, all-first}
use Rattle.contribution.proofs.QueryKinds.{each-all}
use Rattle.contribution.proofs.WhereGood.{Every}
use Rattle.contribution.specs.MovedColumns.{PartsMoved}
use Rattle.rewrite_core.proofs.Itself.{stands-onward}
use Rattle.simpler_laws.proofs.Gathered.{filter-map, mapped-twice}
use Rattle.simpler_laws.proofs.Parting.{faultless-moved}
use Rattle.simpler_laws.proofs.TestedQueries.{stands-same, kinds-tested, plain-tested, tables-tested, tables-untested, formed-tested, formed-untested, meaning-tested}
use Rattle.simpler_laws.specs.Lowered.{AreColumns, IsLowered}
use Rattle.simpler_laws.specs.Tested.{hold, tested}

-- ---- lists

pub columns-more : (items : List Item) (places : List ℕ) (item : Item) (place : ℕ) → AreColumns items places → item.expr ≡ Col 0 place →
    AreColumns (items ++ item ∷ []) (places ++ place ∷ [])
columns-more [] [] item place h e = (e, tt)
columns-more [] (p ∷ places) item place h e = absurd h
columns-more (i ∷ items) [] item place h e = absurd h
columns-more (i ∷ items) (p ∷ places) item place h e = (h.0, columns-more items places item place h.1 e)

-- ---- rows

module _ (env : List Row) where
  columns-give : (items : List Item) (places : List ℕ) → AreColumns items places → (u : Row) → items_on items env no_subs u ≡ Good (picked places u)
  columns-give [] [] h u = refl
  columns-give [] (place ∷ places) h u = absurd h
  columns-give (item ∷ items) [] h u = absurd h
  columns-give (item ∷ items) (place ∷ places) h u =
      λ i. both (λ v vs. v ∷ vs) (value (h.0 i) u env []) (columns-give items places h.1 u i)

  each-columns : (items : List Item) (places : List ℕ) → AreColumns items places → (us : Bag) → each (items_on items env no_subs) us ≡ Good (map (picked places) us)
  each-columns items places h [] = refl
  each-columns items places h (u ∷ us) = λ i. both (λ v vs. v ∷ vs) (columns-give items places h u i) (each-columns items places h us i)

  all-columns : (items : List Item) (places : List ℕ) → AreColumns items places → (o : Outcome Bag) →
      and_then o (each (items_on items env no_subs)) ≡ mapped (map (picked places)) o
  all-columns items places h (Good us) = each-columns items places h us
  all-columns items places h (Bad faults) = refl

pub meaning-columns : (q : Query) (items : List Item) (places : List ℕ) (db : Database) (env : List Row) → AreColumns items places →
    meaning (Project q items []) db env ≡ mapped (map (picked places)) (meaning q db env)
meaning-columns q items places db env h = meaning-Project db env q items [] ∙ all-columns env items places h (meaning q db env)

hold-moved : (places : List ℕ) (tests lowered : List Expr) → PartsMoved places tests lowered → (env : List Row) (u : Row) →
    hold tests env [] (picked places u) ≡ hold lowered env [] u
hold-moved places [] [] m env u = refl
hold-moved places [] (p ∷ ps) m env u = absurd m
hold-moved places (test ∷ tests) [] m env u = absurd m
hold-moved places (test ∷ tests) (p ∷ ps) m env u = λ i. is_met (sym (m.0.value u env []) i) && hold-moved places tests ps m.1 env u i

-- ---- kinds

module _ (kinds : List Kind) (outer : List (List Kind)) where
  column-kind : (item : Item) (place : ℕ) → item.expr ≡ Col 0 place → HasKind (kinds ∷ outer) [] item.expr item.kind → slice_get kinds place ≡ Some item.kind
  column-kind item place e h = by (λ i. HasKind (kinds ∷ outer) [] (e i) item.kind) h

  pub columns-kinds : (items : List Item) (places : List ℕ) → AreColumns items places → Every (λ (item : Item). HasKind (kinds ∷ outer) [] item.expr item.kind) items →
      item_kinds items ≡ kinds_in kinds places
  columns-kinds [] [] h g = refl
  columns-kinds [] (place ∷ places) h g = absurd h
  columns-kinds (item ∷ items) [] h g = absurd h
  columns-kinds (item ∷ items) (place ∷ places) h g =
      λ i. sym (get_or_from_slice_get kinds place item.kind kind.Text (column-kind item place h.0 g.0)) i ∷ columns-kinds items places h.1 g.1 i

  pub columns-within : (items : List Item) (places : List ℕ) → AreColumns items places → Every (λ (item : Item). HasKind (kinds ∷ outer) [] item.expr item.kind) items →
      PlacesWithin (length kinds) places
  columns-within [] [] h g = all-nothing (λ place. place < length kinds)
  columns-within [] (place ∷ places) h g = absurd h
  columns-within (item ∷ items) [] h g = absurd h
  columns-within (item ∷ items) (place ∷ places) h g =
      all-first (λ place. place < length kinds) place places (slice_get_within kinds place item.kind (column-kind item place h.0 g.0)) (columns-within items places h.1 g.1)

  have-moved : (places : List ℕ) → PlacesWithin (length kinds) places → (tests lowered : List Expr) → PartsMoved places tests lowered →
      AllHave (kinds_in kinds places ∷ outer) [] tests kind.Boolean → AllHave (kinds ∷ outer) [] lowered kind.Boolean
  have-moved places within [] [] m h = tt
  have-moved places within [] (p ∷ ps) m h = absurd m
  have-moved places within (test ∷ tests) [] m h = absurd m
  have-moved places within (test ∷ tests) (p ∷ ps) m h = (m.0.kind kinds outer [] kind.Boolean within h.0, have-moved places within tests ps m.1 h.1)

-- ---- the projection

module _ (q : Query) (items : List Item) (tests lowered : List Expr) (is : IsLowered items tests lowered) (plain : is_plain q ≡ true) (safe : all_parts_faultless tests ≡ true) where
  abbrev whole : Query
  whole = Project q items []

  abbrev inside : Query
  inside = Project (tested q lowered) items []

  pub lowered-faultless : all_parts_faultless lowered ≡ true
  lowered-faultless = faultless-moved is.places tests lowered is.moved safe

  rows-lowered : (db : Database) (env : List Row) → meaning (tested whole tests) db env ≡ meaning inside db env
  rows-lowered db env =
      meaning-tested whole tests db env safe
      ∙ ap (mapped (filter (hold tests env []))) (meaning-columns q items is.places db env is.columns)
      ∙ mapped-twice (filter (hold tests env [])) (map (picked is.places)) (meaning q db env)
      ∙ (λ i. mapped (λ us. filter-map (hold tests env []) (picked is.places) us i) (meaning q db env))
      ∙ (λ i. mapped (λ us. map (picked is.places) (filter (λ u. hold-moved is.places tests lowered is.moved env u i) us)) (meaning q db env))
      ∙ sym (mapped-twice (map (picked is.places)) (filter (hold lowered env [])) (meaning q db env))
      ∙ ap (mapped (map (picked is.places))) (sym (meaning-tested q lowered db env lowered-faultless))
      ∙ sym (meaning-columns (tested q lowered) items is.places db env is.columns)

  kinds-whole : (p : Query) → kinds_of (Project p items []) ≡ item_kinds items
  kinds-whole p = ap kinds_of (Project_with-is p items [])

  formed-lowered : (outer : List (List Kind)) → WellFormed outer (tested whole tests) → WellFormed outer inside
  formed-lowered outer f =
      let g = formed-untested whole outer tests f in
      let below = by (WellFormed-Project outer q items []) g.0 in
      let each_item = each-all (λ (item : Item). HasKind (kinds_of q ∷ outer) [] item.expr item.kind) items below.items in
      let within = columns-within (kinds_of q) outer items is.places is.columns each_item in
      let there : AllHave (kinds_in (kinds_of q) is.places ∷ outer) [] tests kind.Boolean =
      by (λ i. AllHave ((kinds-whole q ∙ columns-kinds (kinds_of q) outer items is.places is.columns each_item) i ∷ outer) [] tests kind.Boolean) g.1 in
      by (sym (WellFormed-Project outer (tested q lowered) items [])) (record {
        input = formed-tested q outer lowered below.input (have-moved (kinds_of q) outer is.places within tests lowered is.moved there);
        subs = tt;
        items = by (λ i. ItemsForm (sym (kinds-tested q lowered) i ∷ outer) [] items) below.items;
      })

  stands-lowered : Stands (tested whole tests) inside
  stands-lowered =
      stands-same (tested whole tests) inside (is_plain-Project (tested q lowered) items [] ∙ and_true (is_plain (tested q lowered)) ∙ plain-tested q lowered ∙ plain)
      (kinds-whole (tested q lowered) ∙ sym (kinds-tested whole tests ∙ kinds-whole q))
      formed-lowered
      (λ P h.
      let g = by (EachTable-Project P q items []) (tables-untested whole tests P h) in
      by (sym (EachTable-Project P (tested q lowered) items [])) (tables-tested q lowered P g.0, tt))
      (λ outer db env f h e. rows-lowered db env)

  pub stands-below : (p : Query) → Stands inside p → Stands (tested whole tests) p
  stands-below p s = stands-onward (tested whole tests) inside p stands-lowered s
