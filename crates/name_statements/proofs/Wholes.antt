-- A whole query, made and within the limits.
use Rattle.std.specs.Prelude.{◌≡◌, ℕ, Bool, true, ◌||◌, List, [], ◌∷◌, map, nat_lt, IfOk, IsErrAnd, IsOkAnd, Option, Some, Result, Ok, Err}
use Rattle.std.proofs.Common.{ap, arith, refl, sym, subst, ◌∙◌}
use Rattle.std.proofs.lemmas.Bool.{lt-ltb, ltb-true}
use Rattle.bag_algebra.specs.Measures.{height_of, size_of}
use Rattle.bag_algebra.specs.declared.query.Query.{Query}
use Rattle.name_seen_parts.proofs.Firsts.{both-none, first-behind, first-stays, none-broken}
use Rattle.name_seen_parts.specs.Columns.{columns_of}
use Rattle.name_meaning.specs.Froms.{names_of, settled_columns, table_columns}
use Rattle.name_meaning.specs.Meanings.{Around, Inside, OutColumn, QueryMeant, broken, broken_if, query_means_at}
use Rattle.name_meaning.specs.Queries.{key_of}
use Rattle.name_meaning.specs.Statements.{greatest_height, most_operators, query_limits, size_limit, stored_columns, width_limit}
use Rattle.name_meaning.specs.Statements as words
use Rattle.name_meaning.specs.Trees.{query_of}
use Rattle.std.specs.Option.{option_map_or}
use Rattle.name_meaning.specs.declared.answer.Break.{Break}
use Rattle.name_meaning.specs.declared.rule.Rule.TheVariants as rule
use Rattle.name_inside.specs.heights.High.{QueryHigh}
use Rattle.name_meaning.specs.nodes.Makes.{MakesQuery}
use Rattle.name_seen_parts.specs.Seen.{first_or}
use Rattle.perm_catalog.specs.Contents.{Contents}
use Rattle.perm_catalog.specs.declared.column.Column.{Column}
use Rattle.name_inside.specs.Held.{inside_in}
use Rattle.name_inside.specs.declared.gathered.Gathered.{Gathered}
use Rattle.name_seen_cores.specs.from.Queried.{QueryWhole}
use Rattle.name_seen_cores.specs.declared.from.shown.QueryShown.{QueryShown}
use Rattle.sql_tree.specs.declared.query.OrderTree.{OrderTree}
use Rattle.sql_tree.specs.declared.query.QueryTree.{QueryTree}
use Rattle.name_seen_parts.specs.declared.refusal.Refusal.{Refusal}
use Rattle.name_seen_parts.specs.declared.refusal.Refusal.TheVariants.{Break as Broken}
use Rattle.perm_values.specs.declared.key.Key.{Key}
use Rattle.name_statements.specs.Resolves.{IsInside, IsWhole, IsWithin, WithinSeen}
use Rattle.name_statements.specs.declared.queries.Whole.{Whole}
use Rattle.name_statements.proofs.Keys.{query-keys}

-- a table's columns are those that it is made of
stored-table : (columns : List Column) → stored_columns (table_columns columns) ≡ columns
stored-table [] = refl
stored-table (column ∷ columns) = ap (λ (rest : List Column). column ∷ rest) (stored-table columns)

pub stored-settled : (columns : List Column) (shown : List OutColumn) → table_columns columns ≡ settled_columns shown → columns ≡ stored_columns (settled_columns shown)
stored-settled columns shown same = sym (stored-table columns) ∙ ap stored_columns same

widths-are : (m : QueryMeant) (found : Gathered) → inside_in found ≡ m.inside → width_limit found.queries ≡ width_limit m.inside.queries
widths-are m found e = ap (λ (inside : Inside). width_limit inside.queries) e

known-columns : (columns : List OutColumn) (m : QueryMeant) → m.columns ≡ Some columns → settled_columns columns ≡ words.columns_of m
known-columns columns m known = sym (ap (λ (held : Option (List OutColumn)). option_map_or settled_columns held []) known)

-- the first query that is too wide comes before the size
pub wide_first : (at : ℕ) (m : QueryMeant) (found : Gathered) (first : Break) → inside_in found ≡ m.inside → first_or (width_limit found.queries) (tt {0}) ≡ Err first
    → first_or (query_limits at m) (tt {0}) ≡ Err first
wide_first at m found first e wide =
    first-stays (width_limit m.inside.queries) (size_limit at (m.make [])) (tt {0}) (tt {0}) first
    (ap (λ (breaks : List Break). first_or breaks (tt {0})) (sym (widths-are m found e)) ∙ wide)

pub size_second : (at : ℕ) (m : QueryMeant) (found : Gathered) (made : Query) (first : Break) → inside_in found ≡ m.inside → width_limit found.queries ≡ []
    → m.breaks ≡ [] → MakesQuery m [] made → first_or (size_limit at made) (tt {0}) ≡ Err first → first_or (query_limits at m) (tt {0}) ≡ Err first
size_second at m found made first e narrow none makes large =
    first-behind (width_limit m.inside.queries) (size_limit at (m.make [])) (tt {0}) (sym (widths-are m found e) ∙ narrow)
    ∙ ap (λ (query : Query). first_or (size_limit at query) (tt {0})) (sym (makes.makes none)) ∙ large

-- a query that is made so high at least passes the limit
pub high_second : (at : ℕ) (m : QueryMeant) (found : Gathered) (height : ℕ) → m.breaks ≡ [] → IsInside m found → QueryHigh height m
    → nat_lt greatest_height height ≡ true → first_or (query_limits at m) (tt {0}) ≡ Err (broken rule.TooLarge at)
high_second at m found height none inside high above =
    let query = m.make [] in
    let too_high : nat_lt greatest_height (height_of query) ≡ true =
    lt-ltb greatest_height (height_of query) (omega (arith, ltb-true greatest_height height above, high none [])) in
    first-behind (width_limit m.inside.queries) (size_limit at query) (tt {0}) (sym (widths-are m found inside.inside) ∙ inside.narrow)
    ∙ ap (λ (b : Bool). first_or (broken_if (b || nat_lt most_operators (size_of query)) rule.TooLarge at) (tt {0})) too_high

abbrev pub whole_with : Query → QueryShown → Gathered → List OrderTree → Whole
whole_with made shown found order = record {
  answer = record { query = made; names = names_of (settled_columns (columns_of shown.columns)); keys = map (key_of (columns_of shown.columns)) order };
  places = shown.places;
  columns = stored_columns (settled_columns (columns_of shown.columns));
  names = found.names;
}

abbrev pub whole_keyed : Query → QueryShown → Gathered → List Key → Whole
whole_keyed made shown found keys = record {
  answer = record { query = made; names = names_of (settled_columns (columns_of shown.columns)); keys = keys };
  places = shown.places;
  columns = stored_columns (settled_columns (columns_of shown.columns));
  names = found.names;
}

pub with-keys : {E : Type 0} (made : Query) (shown : QueryShown) (found : Gathered) (order : List OrderTree) (keys : Result (List Key) E) (whole : Whole)
    → IfOk keys (λ (ks : List Key). ks ≡ map (key_of (columns_of shown.columns)) order)
    → IsOkAnd keys (λ (ks : List Key). whole ≡ whole_keyed made shown found ks) → whole ≡ whole_with made shown found order
with-keys made shown found order (Ok ks) whole is same = same ∙ ap (whole_keyed made shown found) is
with-keys made shown found order (Err e) whole is same = absurd same

pub small-enough : (at : ℕ) (m : QueryMeant) (found : Gathered) (made : Query) (told : Result Unit Break) → IsInside m found → MakesQuery m [] made
    → told ≡ first_or (size_limit at made) (tt {0}) → told ≡ Ok (tt {0}) → IsWithin at m made found
small-enough at m found made told inside makes is fine = record {
  inside = inside.inside;
  narrow = inside.narrow;
  makes = makes;
  small = none-broken (size_limit at made) (tt {0}) (tt {0}) (sym is ∙ fine);
}

pub too-large : (at : ℕ) (m : QueryMeant) (found : Gathered) (made : Query) (told : Result Unit Break) (refusal : Refusal) → m.breaks ≡ [] → IsInside m found → MakesQuery m [] made
    → told ≡ first_or (size_limit at made) (tt {0}) → IsErrAnd told (λ (first : Break). refusal ≡ Broken first) → WithinSeen at m (Err refusal)
too-large at m found made (Ok x) refusal none inside makes is broken = absurd broken
too-large at m found made (Err first) refusal none inside makes is broken =
    subst (λ (r : Refusal). WithinSeen at m (Err r)) (sym broken) (size_second at m found made first inside.inside inside.narrow none makes (sym is))

pub whole_made : (c : Contents) (around : Around) (tree : QueryTree) (found : Gathered) (made : Query) (shown : QueryShown) (whole : Whole)
    → inside_in found ≡ (query_means_at (query_of c tree) around).inside → width_limit found.queries ≡ []
    → QueryWhole (query_means_at (query_of c tree) around) shown → MakesQuery (query_means_at (query_of c tree) around) [] made
    → size_limit tree.at made ≡ [] → whole ≡ whole_with made shown found tree.order
    → IsWhole tree.at (query_means_at (query_of c tree) around) whole
whole_made c around tree found made shown whole e narrow seen makes small is =
    let m = query_means_at (query_of c tree) around in
    let same : made ≡ m.make [] = makes.makes seen.whole in
    subst (IsWhole tree.at m) (sym is) (record {
      within = both-none (width_limit m.inside.queries) (size_limit tree.at (m.make [])) (sym (widths-are m found e) ∙ narrow)
          (ap (size_limit tree.at) (sym same) ∙ small);
      answer = λ i. record {
        query = same i;
        names = names_of (known-columns (columns_of shown.columns) m seen.known i);
        keys = query-keys c around tree (columns_of shown.columns) seen.whole seen.known i;
      };
      places = sym seen.places;
      columns = ap stored_columns (known-columns (columns_of shown.columns) m seen.known);
      names = ap (λ (inside : Inside). inside.names) e;
    })
