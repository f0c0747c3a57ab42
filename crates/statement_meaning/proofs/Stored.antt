-- What CREATE TABLE AS adds, where it breaks no rule: columns of a table, and what a query gives that reads the catalog's tables.
use Rattle.std.proofs.Common.{◌≡◌, ◌≢◌, ◌∙◌, ℕ, suc, ◌<◌, Bool, true, false, cond, List, [], ◌∷◌, ◌++◌, length, Option, Some, None, IfSome, refl, sym, ap, subst, arith}
use Rattle.std.proofs.lemmas.List.Elements.{All-nil, All-cons}
use Rattle.std.specs.Cmp.Lexicographic.{pointwise}
use Rattle.std.specs.List.{All, AllByRecursion, IsDistinct, list_any}
use Rattle.std.specs.Option.{option_map_or}
use Rattle.std.specs.Prelude.{nat_eq, ℤ}
use Rattle.perm_values.specs.Rows.{PlacesWithin}
use Rattle.perm_values.specs.declared.kind.Kind.{Kind}
use Rattle.perm_values.specs.declared.kind.Kind.TheVariants as kind
use Rattle.perm_values.proofs.Lists.{back-none}
use Rattle.bag_algebra.specs.Kinds.{kinds_of, width_of}
use Rattle.bag_algebra.specs.built.Openings.{Prov-is}
use Rattle.bag_algebra.specs.built.Patterns.{ProvOf}
use Rattle.bag_algebra.specs.declared.query.Query.{Query}
use Rattle.perm_catalog.specs.Columns.{AreTableColumns, column_kinds, column_names}
use Rattle.perm_catalog.specs.Contents.{Contents}
use Rattle.perm_catalog.specs.Sound.{IsSound}
use Rattle.perm_catalog.specs.declared.column.Column.{Column}
use Rattle.sql_tree.specs.Regular.{RegularQuery}
use Rattle.sql_tree.specs.declared.name.Name.{Name}
use Rattle.sql_tree.specs.declared.query.OrderTree.{OrderTree}
use Rattle.sql_tree.specs.declared.query.QueryTree.{QueryTree}
use Rattle.sql_tree.specs.declared.statement.StatementBody.TheVariants as st
use Rattle.bag_algebra.proofs.Truths.{left-false, right-false}
use Rattle.name_meaning.specs.Cores.{BodyPart}
use Rattle.name_meaning.specs.Froms.{named_so, names_of, settled_columns}
use Rattle.name_meaning.specs.Meanings.{Around, OutColumn, QueryMeant, broken_if}
use Rattle.name_meaning.specs.Queries.{asks_provenance, keys_of, limited, plain_query, query_seen, query_with_provenance}
use Rattle.name_meaning.specs.Scopes.{KnownColumn}
use Rattle.name_meaning.specs.Statements.{alone, columns_of, has_boolean, name_breaks, named_query_breaks, query_meant, repeats, stored_columns, taken}
use Rattle.name_meaning.specs.Trees.{set_of_tree}
use Rattle.name_meaning.specs.declared.rule.Rule.TheVariants as rule
use Rattle.name_meaning.proofs.Every.{unbroken-not}
use Rattle.name_meaning.proofs.SettledKinds.{settled-kinds}
use Rattle.name_meaning.proofs.TreeLaws.{query-answer, query-closed, query-wide}
use Rattle.name_meaning.proofs.Trees.{query-known}
use Rattle.name_meaning.proofs.Impacts.{tables-held}
use Rattle.name_meaning.specs.laws.Formed.{IsAnswer}
use Rattle.name_meaning.specs.laws.Known.{HasItsKinds, column_kinds_of}
use Rattle.statement_meaning.proofs.Ready.{named-whole, query-whole}
use Rattle.statement_meaning.proofs.Words.{opened}
use Rattle.statement_meaning.specs.laws.Sounder.{AddsAnswer, AsksAt}

-- ---- columns

none-named : (name : List ℕ) (names : List (List ℕ)) → list_any (named_so name) names ≡ false
    → AllByRecursion (λ y. pointwise nat_eq name y ≡ false) names
none-named name [] h = tt
none-named name (y ∷ names) h = (
  left-false (named_so name y) (list_any (named_so name) names) h,
  none-named name names (right-false (named_so name y) (list_any (named_so name) names) h),
)

differ-unrepeated : (names : List (List ℕ)) → repeats names ≡ false → IsDistinct (pointwise nat_eq) names
unfolding IsDistinct
differ-unrepeated [] h = tt
differ-unrepeated (name ∷ names) h = (
  none-named name names (left-false (list_any (named_so name) names) (repeats names) h),
  differ-unrepeated names (right-false (list_any (named_so name) names) (repeats names) h),
)

not-boolean : (k : Kind) (more : Bool) → elim k [ kind.Integer ↦ more | kind.Text ↦ more | kind.Boolean ↦ true ] ≡ false
    → (k ≢ kind.Boolean) × (more ≡ false)
not-boolean kind.Integer more h = (λ e. cc e, h)
not-boolean kind.Text more h = (λ e. cc e, h)
not-boolean kind.Boolean more h = absurd (cc h)

abbrev NoBoolean : Column → Type 0
NoBoolean column = column.kind ≢ kind.Boolean

none-boolean : (columns : List KnownColumn) → has_boolean columns ≡ false → All NoBoolean (stored_columns columns)
none-boolean [] h = All-nil NoBoolean
none-boolean (column ∷ columns) h =
    let both = not-boolean column.kind (has_boolean columns) h in
    All-cons NoBoolean (record { name = column.name; kind = column.kind }) (stored_columns columns) both.0 (none-boolean columns both.1)

names-stored : (columns : List KnownColumn) → column_names (stored_columns columns) ≡ names_of columns
names-stored [] = refl
names-stored (column ∷ columns) = ap (λ (names : List (List ℕ)). column.name ∷ names) (names-stored columns)

kinds-stored : (columns : List KnownColumn) → column_kinds (stored_columns columns) ≡ column_kinds_of columns
kinds-stored [] = refl
kinds-stored (column ∷ columns) = ap (λ (kinds : List Kind). column.kind ∷ kinds) (kinds-stored columns)

length-stored : (columns : List OutColumn) → length (stored_columns (settled_columns columns)) ≡ length columns
length-stored [] = refl
length-stored (column ∷ columns) = ap suc (length-stored columns)

some-stored : (columns : List Column) → 0 < length columns → columns ≢ []
some-stored [] some = absurd (omega (arith, some))
some-stored (column ∷ columns) some = λ e. cc e

-- ---- a query with PROVENANCE

-- the query is the PROVENANCE of some query
abbrev Asks : Query → Type 0
Asks query = (input : Query) × (query ≡ ProvOf input)

abbrev AsksWhereMarked : QueryMeant → Type 0
AsksWhereMarked m = IfSome m.places (λ (places : List ℕ). Asks (m.make []))

asks-by : (asking : Bool) (at : ℕ) (m own : QueryMeant) (order : List OrderTree) (limit : Option ℤ) → AsksWhereMarked (cond asking
    (query_with_provenance at m order limit (limited limit (keys_of m.columns order) (m.make [])))
    (plain_query at own order limit))
asks-by true at m own order limit = (limited limit (keys_of m.columns order) (m.make []), Prov-is (limited limit (keys_of m.columns order) (m.make [])))
asks-by false at m own order limit = tt

asks-seen : (around : Around) (at : ℕ) (body : BodyPart) (order : List OrderTree) (limit : Option ℤ) → AsksWhereMarked (query_seen around at body order limit)
asks-seen around at body order limit =
    asks-by (asks_provenance around body) at (body.means around) (body.means around) order limit

asks-at : (columns : List Column) (query : Query) (width : ℕ) (places : Option (List ℕ)) → width ≡ length columns
    → IfSome places (λ (there : List ℕ). Asks query) → IfSome places (PlacesWithin width) → IfSome places (AsksAt columns query)
asks-at columns query width None same asks within = tt
asks-at columns query width (Some places) same asks within =
    record { input = asks.0; asks = asks.1; within = subst (λ (n : ℕ). PlacesWithin n places) same within }

module _ (c : Contents) (sound : IsSound c) (table : Name) (tree : QueryTree) (regular : RegularQuery tree)
    (whole : name_breaks c (st.CreateTableAs table tree) ≡ []) where
  abbrev m : QueryMeant
  m = query_meant c tree

  abbrev columns : List Column
  columns = stored_columns (columns_of m)

  named : named_query_breaks tree.at m ≡ []
  named = named-whole c table tree whole

  query_none : m.breaks ≡ []
  query_none = query-whole c tree named

  answer : IsAnswer m
  answer = query-answer c tree alone sound regular query_none

  known : columns_of m ≡ settled_columns answer.columns
  known = ap (λ (o : Option (List OutColumn)). option_map_or settled_columns o []) answer.known

  -- as many columns as the query has
  wide : width_of (m.make []) ≡ length columns
  wide = sym (answer.named []) ∙ sym (length-stored answer.columns) ∙ ap (λ (ks : List KnownColumn). length (stored_columns ks)) (sym known)

  columns-are : AreTableColumns columns
  columns-are = record {
    some = some-stored columns (subst (λ (n : ℕ). 0 < n) wide (query-wide c tree alone sound regular query_none []));
    named = subst (IsDistinct (pointwise nat_eq)) (sym (names-stored (columns_of m)))
        (differ-unrepeated (names_of (columns_of m))
        (unbroken-not (repeats (names_of (columns_of m))) rule.RepeatedColumn tree.at
        (back-none m.breaks (broken_if (repeats (names_of (columns_of m))) rule.RepeatedColumn tree.at) named)));
    stored = none-boolean (columns_of m)
        (unbroken-not (has_boolean (columns_of m)) rule.UnfitKind tree.at
        (back-none (taken c table ++ named_query_breaks tree.at m) (broken_if (has_boolean (columns_of m)) rule.UnfitKind tree.at) whole));
  }

  kinds-are : kinds_of (m.make []) ≡ column_kinds columns
  kinds-are =
      let shown : HasItsKinds m = query-known c tree alone sound query_none in
      shown.kinds [] ∙ settled-kinds shown.columns
      ∙ ap column_kinds_of (sym (ap (λ (o : Option (List OutColumn)). option_map_or settled_columns o []) shown.known))
      ∙ sym (kinds-stored (columns_of m))

  pub answer-adds : AddsAnswer c columns (m.make []) m.places
  answer-adds = record {
    columns_are = columns-are;
    closed = (query-closed c tree alone sound regular query_none refl []).0;
    kinds = kinds-are;
    held = tables-held c sound tree alone [];
    asks = asks-at columns (m.make []) (width_of (m.make [])) m.places wide
        (subst AsksWhereMarked (sym (opened c tree)) (asks-seen alone tree.at (set_of_tree c tree.body) tree.order tree.limit)) answer.places;
  }
