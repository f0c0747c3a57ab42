-- The cross base of a query whose sources are over tables.
use Rattle.std.proofs.Common.{◌≡◌, ◌↔◌, ℕ, Bool, true, ◌&&◌, List, [], ◌∷◌, ◌++◌, length, None, IsTrue, refl, sym, ap, ◌∙◌, subst, true≢false}
use Rattle.perm_values.specs.Rows.{PlacesWithin}
use Rattle.perm_values.specs.declared.kind.Kind.{Kind}
use Rattle.std.specs.List.{Contains}
use Rattle.bag_algebra.proofs.TablesRead.{reads_among-itself}
use Rattle.bag_algebra.proofs.Members.{IsIn, in-member, member-in}
use Rattle.bag_algebra.specs.Bags.{Row, Bag, member}
use Rattle.bag_algebra.specs.Kinds.{kinds_of, kinds_in, shape, sub_shape, place_kinds}
use Rattle.bag_algebra.specs.Meaning.{Database, meaning}
use Rattle.bag_algebra.specs.Outcome.{Good}
use Rattle.bag_algebra.specs.built.Patterns.{BaseOf, FilterOf, ProjectOf, JoinOf, ApplyOf, UnionOf, IntersectOf, ExceptOf, DistinctOf, AggregateOf, LimitOf, ProvOf}
use Rattle.bag_algebra.specs.Rewriting.{is_plain}
use Rattle.bag_algebra.specs.Scoped.{is_table, over_tables, subs_over_tables}
use Rattle.bag_algebra.specs.TablesRead.{tables_read, EachTable, EachSubTable, ReadsAmong}
use Rattle.bag_algebra.specs.WellFormed.{WellFormed, SubsForm}
use Rattle.bag_algebra.specs.declared.place.Place.{Place}
use Rattle.bag_algebra.specs.declared.query.Label.{Label}
use Rattle.bag_algebra.specs.declared.query.Query.{Query, Row_of-Sublink, more_of-Sublink, end_of-Sublink}
use Rattle.bag_algebra.specs.declared.query.Query.TheVariants.{Table, Single}
use Rattle.contribution.proofs.ColumnQueries.{kinds_of-columns, formed-columns}
use Rattle.contribution.proofs.NullRows.{kinds_of-null_row, formed-null_row}
use Rattle.contribution.proofs.CrossedRows.{Sourced, no_source, one_more, FlatAt, crossed_rows, meaning-crossed, flat-from_crossed, crossed-from_flat}
use Rattle.contribution.proofs.EntriesAtPlaces.{Rows}
use Rattle.contribution.specs.CrossBase.{base_source, table_sources, sub_table_sources, source_query, crossed, cross_base_of}
use Rattle.contribution.specs.HeldRows.{table_rows, restricted, held_rows, sub_held_rows}
use Rattle.contribution.specs.declared.cross.TableSource.{TableSource}
use Rattle.bag_algebra.proofs.Truths.{left-true, right-true}

-- ---- each place is that of a source over a table

pub sourced-append : {db : Database} {ps qs : List Place} {rs ss : Rows} {vs ws : List TableSource} → Sourced db ps rs vs → Sourced db qs ss ws → Sourced db (ps ++ qs) (rs ++ ss) (vs ++ ws)
sourced-append no_source b = b
sourced-append (one_more place source same rest) b = one_more place source same (sourced-append rest b)

sourced-base : (input : Query) (places : List ℕ) (label : Label) (db : Database) → is_table input ≡ true →
    Sourced db (record { label = label; kinds = kinds_in (kinds_of input) places } ∷ []) (restricted places (table_rows input db) ∷ []) (base_source input places)
sourced-base (Table id kinds) places label db e = one_more _ (record { id = id; kinds = kinds; places = places }) refl no_source
sourced-base Single places label db e = absurd (true≢false (sym e))
sourced-base (BaseOf input inner own) places label db e = absurd (true≢false (sym e))
sourced-base (FilterOf input condition _ subs) places label db e = absurd (true≢false (sym e))
sourced-base (ProjectOf input items _ subs) places label db e = absurd (true≢false (sym e))
sourced-base (JoinOf kind left right condition _ subs) places label db e = absurd (true≢false (sym e))
sourced-base (ApplyOf kind left right) places label db e = absurd (true≢false (sym e))
sourced-base (UnionOf all left right) places label db e = absurd (true≢false (sym e))
sourced-base (IntersectOf all left right) places label db e = absurd (true≢false (sym e))
sourced-base (ExceptOf all left right) places label db e = absurd (true≢false (sym e))
sourced-base (DistinctOf input) places label db e = absurd (true≢false (sym e))
sourced-base (AggregateOf input groups aggregates) places label db e = absurd (true≢false (sym e))
sourced-base (LimitOf input keys count) places label db e = absurd (true≢false (sym e))
sourced-base (ProvOf input) places label db e = absurd (true≢false (sym e))

mutual
  pub sourced : (q : Query) (db : Database) → over_tables q ≡ true → Sourced db (shape q) (held_rows q db None) (table_sources q)
  sourced (Table id kinds) db e = no_source
  sourced Single db e = no_source
  sourced (BaseOf input places label) db e = sourced-base input places label db e
  sourced (FilterOf input condition _ subs) db e = sourced-append (sourced input db (left-true _ _ e)) (sourced-subs subs db (right-true _ _ e))
  sourced (ProjectOf input items _ subs) db e = sourced-append (sourced input db (left-true _ _ e)) (sourced-subs subs db (right-true _ _ e))
  sourced (JoinOf kind left right condition _ subs) db e =
      let inputs = left-true (over_tables left && over_tables right) (subs_over_tables subs) e in
      sourced-append (sourced-append (sourced left db (left-true _ _ inputs)) (sourced right db (right-true _ _ inputs)))
      (sourced-subs subs db (right-true (over_tables left && over_tables right) (subs_over_tables subs) e))
  sourced (ApplyOf kind left right) db e = sourced-append (sourced left db (left-true _ _ e)) (sourced right db (right-true _ _ e))
  sourced (UnionOf all left right) db e = sourced-append (sourced left db (left-true _ _ e)) (sourced right db (right-true _ _ e))
  sourced (IntersectOf all left right) db e = sourced-append (sourced left db (left-true _ _ e)) (sourced right db (right-true _ _ e))
  sourced (ExceptOf all left right) db e = sourced-append (sourced left db (left-true _ _ e)) (sourced right db (right-true _ _ e))
  sourced (DistinctOf input) db e = sourced input db e
  sourced (AggregateOf input groups aggregates) db e = sourced input db e
  sourced (LimitOf input keys count) db e = sourced input db e
  sourced (ProvOf input) db e = no_source

  pub sourced-subs : {m : _} (subs : Row_of-Sublink m) (db : Database) → subs_over_tables subs ≡ true → Sourced db (sub_shape subs) (sub_held_rows subs db) (sub_table_sources subs)
  sourced-subs end_of-Sublink db e = no_source
  sourced-subs (more_of-Sublink kind tested query subs) db e =
      sourced-append (sourced query db (left-true _ _ e)) (sourced-subs subs db (right-true _ _ e))

pub meaning-cross_base : (q : Query) → over_tables q ≡ true → (db : Database) (env : List Row) →
    (found : Bag) × (meaning (cross_base_of q) db env ≡ Good found) × ((u : Row) → IsTrue (member u found) ↔ FlatAt (shape q) (held_rows q db None) u)
meaning-cross_base q e db env =
    let rows = crossed_rows db (table_sources q) in (
      rows,
      meaning-crossed (table_sources q) db env,
      λ u. (
        λ h. flat-from_crossed db (sourced q db e) u (member-in u rows h),
        λ w. in-member u rows (subst (λ r. IsIn r rows) w.2 (crossed-from_flat db (sourced q db e) w.0 w.1)),
      ),
    )

kinds_of-crossed : (db : Database) {places : List Place} {rows : Rows} {sources : List TableSource} → Sourced db places rows sources → kinds_of (crossed sources Single) ≡ place_kinds places
kinds_of-crossed db no_source = refl
kinds_of-crossed db (one_more place source same rest) =
    λ i. (kinds_of-columns (Table source.id source.kinds) source.places ∙ sym same) i ++ kinds_of-crossed db rest i

pub kinds_of-cross_base : (q : Query) → over_tables q ≡ true → kinds_of (cross_base_of q) ≡ place_kinds (shape q)
kinds_of-cross_base q e = kinds_of-crossed (λ id. []) (sourced q (λ id. []) e)

and_yes : (b : Bool) → b ≡ true → ((true && b) && true) ≡ true
and_yes b e = ap (λ b. (true && b) && true) e

plain-crossed : (sources : List TableSource) → is_plain (crossed sources Single) ≡ true
plain-crossed [] = refl
plain-crossed (source ∷ sources) = and_yes (is_plain (crossed sources Single)) (plain-crossed sources)

pub plain-cross_base : (q : Query) → is_plain (cross_base_of q) ≡ true
plain-cross_base q = plain-crossed (table_sources q)

-- ---- what holds of each source

module _ (P : TableSource → Type 0) where
  pub data EachSource : List TableSource → Type 0 where
    none : EachSource []
    some : {sources : List TableSource} (source : TableSource) → P source → EachSource sources → EachSource (source ∷ sources)

  each_source-append : {vs ws : List TableSource} → EachSource vs → EachSource ws → EachSource (vs ++ ws)
  each_source-append none b = b
  each_source-append (some source p rest) b = some source p (each_source-append rest b)

-- the places of the source are in range
abbrev pub InRange : TableSource → Type 0
InRange source = PlacesWithin (length source.kinds) source.places

ranged-base : (input : Query) (places : List ℕ) → PlacesWithin (length (kinds_of input)) places → EachSource InRange (base_source input places)
ranged-base (Table id kinds) places within = some (record { id = id; kinds = kinds; places = places }) within none
ranged-base other places within = none

mutual
  pub ranged : (q : Query) (outer : List (List Kind)) → WellFormed outer q → EachSource InRange (table_sources q)
  ranged (Table id kinds) outer f = none
  ranged Single outer f = none
  ranged (BaseOf input places label) outer f = ranged-base input places f.in_range
  ranged (FilterOf input condition _ subs) outer f = each_source-append InRange (ranged input outer f.input) (ranged-subs subs (kinds_of input ∷ outer) f.subs)
  ranged (ProjectOf input items _ subs) outer f = each_source-append InRange (ranged input outer f.input) (ranged-subs subs (kinds_of input ∷ outer) f.subs)
  ranged (JoinOf kind left right condition _ subs) outer f =
      each_source-append InRange (each_source-append InRange (ranged left outer f.left) (ranged right outer f.right)) (ranged-subs subs ((kinds_of left ++ kinds_of right) ∷ outer) f.subs)
  ranged (ApplyOf kind left right) outer f = each_source-append InRange (ranged left outer f.left) (ranged right (kinds_of left ∷ outer) f.right)
  ranged (UnionOf all left right) outer f = each_source-append InRange (ranged left outer f.left_side) (ranged right outer f.right_side)
  ranged (IntersectOf all left right) outer f = each_source-append InRange (ranged left outer f.left_side) (ranged right outer f.right_side)
  ranged (ExceptOf all left right) outer f = each_source-append InRange (ranged left outer f.left_side) (ranged right outer f.right_side)
  ranged (DistinctOf input) outer f = ranged input outer f
  ranged (AggregateOf input groups aggregates) outer f = ranged input outer f.input
  ranged (LimitOf input keys count) outer f = ranged input outer f.input
  ranged (ProvOf input) outer f = none

  pub ranged-subs : {m : _} (subs : Row_of-Sublink m) (scopes : List (List Kind)) → SubsForm scopes subs → EachSource InRange (sub_table_sources subs)
  ranged-subs end_of-Sublink scopes f = none
  ranged-subs (more_of-Sublink kind tested query subs) scopes f = each_source-append InRange (ranged query scopes f.query) (ranged-subs subs scopes f.others)

formed-source_query : (source : TableSource) (outer : List (List Kind)) → InRange source → WellFormed outer (source_query source)
formed-source_query source outer within = record {
  left_side = formed-columns (Table source.id source.kinds) source.places within outer tt;
  right_side = formed-null_row (kinds_in source.kinds source.places) outer;
  same_kinds = kinds_of-columns (Table source.id source.kinds) source.places ∙ sym (kinds_of-null_row (kinds_in source.kinds source.places));
}

formed-crossed : (sources : List TableSource) (outer : List (List Kind)) → EachSource InRange sources → WellFormed outer (crossed sources Single)
formed-crossed [] outer none = tt
formed-crossed (source ∷ sources) outer (some _ within rest) = record {
  left = formed-source_query source outer within;
  right = formed-crossed sources outer rest;
  subs = tt;
  condition = record { fitting = refl; gives = refl };
}

pub formed-cross_base : (q : Query) (outer other : List (List Kind)) → WellFormed outer q → WellFormed other (cross_base_of q)
formed-cross_base q outer other f = formed-crossed (table_sources q) other (ranged q outer f)

-- P holds of the source's table
abbrev pub SourceHas : (ℕ → List Kind → Type 0) → TableSource → Type 0
SourceHas P source = P source.id source.kinds

had-base : (input : Query) (places : List ℕ) (P : ℕ → List Kind → Type 0) → EachTable P input → EachSource (SourceHas P) (base_source input places)
had-base (Table id kinds) places P fit = some (record { id = id; kinds = kinds; places = places }) fit none
had-base other places P fit = none

mutual
  pub had : (q : Query) (P : ℕ → List Kind → Type 0) → EachTable P q → EachSource (SourceHas P) (table_sources q)
  had (Table id kinds) P f = none
  had Single P f = none
  had (BaseOf input places label) P f = had-base input places P f
  had (FilterOf input condition _ subs) P f = each_source-append (SourceHas P) (had input P f.0) (had-subs subs P f.1)
  had (ProjectOf input items _ subs) P f = each_source-append (SourceHas P) (had input P f.0) (had-subs subs P f.1)
  had (JoinOf kind left right condition _ subs) P f =
      each_source-append (SourceHas P) (each_source-append (SourceHas P) (had left P f.0) (had right P f.1)) (had-subs subs P f.2)
  had (ApplyOf kind left right) P f = each_source-append (SourceHas P) (had left P f.0) (had right P f.1)
  had (UnionOf all left right) P f = each_source-append (SourceHas P) (had left P f.0) (had right P f.1)
  had (IntersectOf all left right) P f = each_source-append (SourceHas P) (had left P f.0) (had right P f.1)
  had (ExceptOf all left right) P f = each_source-append (SourceHas P) (had left P f.0) (had right P f.1)
  had (DistinctOf input) P f = had input P f
  had (AggregateOf input groups aggregates) P f = had input P f
  had (LimitOf input keys count) P f = had input P f
  had (ProvOf input) P f = none

  pub had-subs : {m : _} (subs : Row_of-Sublink m) (P : ℕ → List Kind → Type 0) → EachSubTable P subs → EachSource (SourceHas P) (sub_table_sources subs)
  had-subs end_of-Sublink P f = none
  had-subs (more_of-Sublink kind tested query subs) P f = each_source-append (SourceHas P) (had query P f.0) (had-subs subs P f.1)

each_table-crossed : (sources : List TableSource) (P : ℕ → List Kind → Type 0) → EachSource (SourceHas P) sources → EachTable P (crossed sources Single)
each_table-crossed [] P none = tt
each_table-crossed (source ∷ sources) P (some _ fit rest) = (((fit, tt), (tt, tt)), each_table-crossed sources P rest, tt)

pub each_table-cross_base : (q : Query) (P : ℕ → List Kind → Type 0) → EachTable P q → EachTable P (cross_base_of q)
each_table-cross_base q P f = each_table-crossed (table_sources q) P (had q P f)

-- the cross base reads the query's tables alone
pub tables-cross_base : (q : Query) → ReadsAmong (cross_base_of q) q
tables-cross_base q = each_table-cross_base q (λ id kinds. Contains (tables_read q) (record { id = id; kinds = kinds })) (reads_among-itself q)
