-- The same query without the word PROVENANCE breaks no rule where the query with it breaks none, limits included.
use Rattle.std.proofs.Common.{◌≡◌, ◌∙◌, ◌≤◌, ℕ, Bool, true, false, cond, ◌||◌, List, [], ◌∷◌, ◌++◌, find, nat_lt, option_map, Option, Some, None, length-append, refl, sym, ap, subst, arith}
use Rattle.std.proofs.lemmas.Bool.{le-ltb, ltb-false}
use Rattle.std.specs.Option.{option_map_or}
use Rattle.perm_values.proofs.Lists.{front-none, back-none}
use Rattle.bag_algebra.specs.Measures.{height_of, size_of}
use Rattle.bag_algebra.specs.built.Openings.{Prov-is}
use Rattle.bag_algebra.specs.declared.query.Answer.{Answer}
use Rattle.bag_algebra.specs.declared.query.Query.{Query}
use Rattle.bag_algebra.specs.declared.query.Query.TheVariants.{Prov}
use Rattle.perm_catalog.specs.Contents.{Contents}
use Rattle.sql_tree.specs.declared.query.QueryTree.{QueryTree}
use Rattle.sql_tree.specs.declared.query.SetTree.{SetTree}
use Rattle.sql_tree.specs.declared.statement.Statement.{Statement}
use Rattle.sql_tree.specs.declared.statement.StatementBody.{StatementBody}
use Rattle.sql_tree.specs.declared.statement.StatementBody.TheVariants as st
use Rattle.bag_algebra.proofs.Truths.{left-false, right-false}
use Rattle.name_meaning.specs.Meanings.{OutColumn, QueryMeant, broken, broken_if, is_whole}
use Rattle.name_meaning.specs.Queries.{columns_with_provenance, count_columns, plain_query, provenance_columns, query_with_provenance}
use Rattle.name_meaning.specs.Statements.{breaks, greatest_height, limit_breaks, most_operators, most_query_columns, name_breaks, query_limits, size_limit, width_limit}
use Rattle.name_meaning.specs.declared.answer.Break.{Break}
use Rattle.name_meaning.specs.declared.rule.Rule.TheVariants as rule
use Rattle.name_meaning.proofs.Every.{unbroken-not}
use Rattle.name_meaning.proofs.Impacts.{later-none}
use Rattle.statement_meaning.proofs.Ready.{names-whole}
use Rattle.statement_meaning.proofs.Words.{plain_seen, with_provenance-seen, body_meant, whole_query, word-proves}
use Rattle.statement_meaning.specs.laws.Asks.{AsksFor, HasWord, ResolvesTo, WithoutWord, with_body}
use Rattle.perm_engine.specs.meaning.headline.Words.{asking}

-- ---- fewer columns

abbrev first_wide : Bool → ℕ × ℕ → List (ℕ × ℕ) → List Break
first_wide wide query queries = option_map_or (λ (q : ℕ × ℕ). broken rule.TooManyColumns q.0 ∷ [])
    (cond wide (Some query) (find (λ (q : ℕ × ℕ). nat_lt most_query_columns q.1) queries)) []

not-wide : (wide : Bool) (query other : ℕ × ℕ) (queries : List (ℕ × ℕ)) → first_wide wide query queries ≡ [] → (wide ≡ false) × (first_wide false other queries ≡ [])
not-wide true query other queries e = absurd (cc e)
not-wide false query other queries e = (refl, e)

narrower : (at n m : ℕ) (queries : List (ℕ × ℕ)) → m ≤ n → width_limit ((at, n) ∷ queries) ≡ [] → width_limit ((at, m) ∷ queries) ≡ []
narrower at n m queries less h =
    let few = not-wide (nat_lt most_query_columns n) (at, n) (at, m) queries h in
    let within : n ≤ most_query_columns = ltb-false most_query_columns n few.0 in
    ap (λ (wide : Bool). first_wide wide (at, m) queries) (le-ltb most_query_columns m (omega (arith, less, within))) ∙ few.1

more-columns : (whole : Bool) (columns : Option (List OutColumn)) (more : List OutColumn)
    → count_columns columns ≤ count_columns (cond whole (option_map (λ (own : List OutColumn). own ++ more) columns) columns)
more-columns true None more = omega arith
more-columns true (Some own) more = omega (arith, length-append own more)
more-columns false columns more = omega arith

-- ---- height and size one less

smaller : (limit big small : ℕ) → nat_lt limit big ≡ false → small ≤ big → nat_lt limit small ≡ false
smaller limit big small e less = let within = ltb-false limit big e in le-ltb limit small (omega (arith, within, less))

size-below : (at : ℕ) (query : Query) → size_limit at (Prov query) ≡ [] → size_limit at query ≡ []
size-below at query h =
    let small = unbroken-not (nat_lt greatest_height (height_of (Prov query)) || nat_lt most_operators (size_of (Prov query))) rule.TooLarge at h in
    let height = smaller greatest_height (height_of (Prov query)) (height_of query)
    (left-false (nat_lt greatest_height (height_of (Prov query))) (nat_lt most_operators (size_of (Prov query))) small) (omega (arith, ap height_of (Prov-is query))) in
    let size = smaller most_operators (size_of (Prov query)) (size_of query)
    (right-false (nat_lt greatest_height (height_of (Prov query))) (nat_lt most_operators (size_of (Prov query))) small) (omega (arith, ap size_of (Prov-is query))) in
    ap (λ (b : Bool). broken_if (b || nat_lt most_operators (size_of query)) rule.TooLarge at) height
    ∙ ap (λ (b : Bool). broken_if b rule.TooLarge at) size

-- ---- the twin

pub no-breaks : (c : Contents) (body : StatementBody) → name_breaks c body ≡ [] → limit_breaks c body ≡ []
    → cond (is_whole (name_breaks c body)) (limit_breaks c body) (name_breaks c body) ≡ []
no-breaks c body names limits = ap (λ (ns : List Break). cond (is_whole ns) (limit_breaks c body) ns) names ∙ limits

pub limits-of : (c : Contents) (statement : Statement) → breaks c statement ≡ [] → limit_breaks c statement.body ≡ []
limits-of c statement = later-none (name_breaks c statement.body) (limit_breaks c statement.body)

module _ (c : Contents) (statement : Statement) (answer : Answer) (tree : QueryTree) (at : ℕ) (body : SetTree) (asked_for : AsksFor c statement answer)
    (is : statement.body ≡ st.Select tree) (word : HasWord at tree.body) (without : WithoutWord tree.body body) where
  abbrev m : QueryMeant
  m = body_meant c tree.body

  abbrev query : Query
  query = whole_query tree m

  limits : query_limits tree.at (query_with_provenance tree.at m tree.order tree.limit query) ≡ []
  limits =
      subst (λ (q : QueryMeant). query_limits tree.at q ≡ []) (with_provenance-seen c tree at word)
      (subst (λ (b : StatementBody). limit_breaks c b ≡ []) is (limits-of c statement asked_for.whole))

  widths : width_limit ((tree.at, count_columns (columns_with_provenance m query)) ∷ m.inside.queries) ≡ []
  widths = front-none (width_limit ((tree.at, count_columns (columns_with_provenance m query)) ∷ m.inside.queries)) (size_limit tree.at (Prov query)) limits

  sizes : size_limit tree.at (Prov query) ≡ []
  sizes = back-none (width_limit ((tree.at, count_columns (columns_with_provenance m query)) ∷ m.inside.queries)) (size_limit tree.at (Prov query)) limits

  plain-widths : width_limit ((tree.at, count_columns m.columns) ∷ m.inside.queries) ≡ []
  plain-widths = narrower tree.at (count_columns (columns_with_provenance m query)) (count_columns m.columns) m.inside.queries
      (more-columns (is_whole m.breaks) m.columns (provenance_columns query)) widths

  plain-limits : query_limits tree.at (plain_query tree.at m tree.order tree.limit) ≡ []
  plain-limits =
      ap (λ (bs : List Break). bs ++ size_limit tree.at query) plain-widths ∙ size-below tree.at query sizes

  pub twin-limits : limit_breaks c (st.Select (with_body tree body)) ≡ []
  twin-limits = subst (λ (q : QueryMeant). query_limits tree.at q ≡ []) (sym (plain_seen c statement answer tree at body asked_for is word without)) plain-limits

  -- it breaks no rule, and the query with the word is its PROVENANCE
  pub twin : (plain : Answer) × AsksFor c (asking statement (with_body tree body)) plain × (answer.query ≡ Prov plain.query) × (answer.keys ≡ plain.keys)
  twin =
      let found = word-proves c statement answer tree at body asked_for is word without in (
        found.0,
        record { whole = no-breaks c (st.Select (with_body tree body)) found.1.whole twin-limits; is = found.1.is },
        found.2,
        found.3,
      )

-- a statement that asks for this is resolved to it
pub asks-resolves : (c : Contents) (statement : Statement) (tree : QueryTree) (plain : Answer) → AsksFor c (asking statement tree) plain → ResolvesTo c tree plain
asks-resolves c statement tree plain h = record { whole = names-whole c (asking statement tree) h.whole; is = h.is }
