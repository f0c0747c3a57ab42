-- In FROM, a query with the word PROVENANCE is a source over the PROVENANCE of the same query without it.
use Rattle.std.proofs.Common.{◌≡◌, ◌∙◌, ℕ, Bool, cond, List, [], ◌++◌, map, is_some, option_map, Option, Some, None, refl, sym, ap, subst}
use Rattle.std.specs.Option.{option_map_or}
use Rattle.perm_values.proofs.Lists.{back-none}
use Rattle.bag_algebra.specs.declared.query.Query.{Query}
use Rattle.bag_algebra.specs.declared.query.Query.TheVariants.{Prov}
use Rattle.perm_catalog.specs.Contents.{Contents}
use Rattle.perm_catalog.specs.declared.entries.ViewEntry.{ViewEntry}
use Rattle.sql_tree.specs.declared.name.Name.{Name}
use Rattle.sql_tree.specs.declared.query.Core.{out-Core}
use Rattle.sql_tree.specs.declared.query.QueryTree.{QueryTree}
use Rattle.sql_tree.specs.declared.query.SetTree.{SetTree}
use Rattle.sql_tree.specs.declared.statement.Statement.{Statement}
use Rattle.sql_tree.specs.declared.statement.StatementBody.{StatementBody}
use Rattle.sql_tree.specs.declared.statement.StatementBody.TheVariants as st
use Rattle.name_meaning.proofs.Equations.{token, querytree-record, settree-chain, settree-core}
use Rattle.name_meaning.proofs.Opened.{CoreLayer, opened_core, shown_core}
use Rattle.name_meaning.specs.Cores.{BodyPart, core_step}
use Rattle.name_meaning.specs.Froms.{external, names_of, read_names, read_query, read_view, settled_columns, in_from}
use Rattle.name_meaning.specs.Meanings.{Around, OutColumn, QueryMeant, QueryPart, query_means_at}
use Rattle.name_meaning.specs.Queries.{count_columns, keys_of, limited, plain_query, provenance_places, query_seen, query_with_provenance, set_chain}
use Rattle.name_meaning.specs.Statements.{breaks, name_breaks, named_query_breaks, query_meant, resolved, resolved_body, taken, view_entry}
use Rattle.name_meaning.specs.Trees.{set_of_tree, set_step_of}
use Rattle.name_meaning.specs.declared.answer.Resolved.TheVariants as r
use Rattle.name_meaning.specs.declared.scope.Scope.{Scope}
use Rattle.statement_meaning.proofs.Ready.{names-whole, query-whole}
use Rattle.statement_meaning.proofs.Words.{no_word}
use Rattle.statement_meaning.specs.laws.Asks.{HasWord, WithoutWord, plain_core, plain_first, with_body}
use Rattle.perm_engine.proofs.meaning.Lacking.{word-at}
use Rattle.perm_engine.specs.meaning.headline.Sources.{IsOverProvenance, KeepsProvenance, subquery}

module _ (c : Contents) (outer : List Scope) where
  abbrev own : Around
  own = in_from outer

  -- where the word may stand it is no break
  wordless : (layer : CoreLayer) → (core_step (shown_core c layer)).means own ≡ (core_step (shown_core c (record layer { provenance = None }))).means own
  wordless layer = refl

  same-without : (tree plain : SetTree) → WithoutWord tree plain → (set_of_tree c tree).means own ≡ (set_of_tree c plain).means own
  unfolding token
  same-without tree plain (plain_core core other e) =
      ap (λ (part : BodyPart). part.means own) (settree-core c core ∙ opened_core c core)
      ∙ wordless (out-Core core)
      ∙ ap (λ (layer : CoreLayer). (core_step (shown_core c layer)).means own) (sym e)
      ∙ sym (ap (λ (part : BodyPart). part.means own) (settree-core c other ∙ opened_core c other))
  same-without tree plain (plain_first first other steps h) =
      ap (λ (part : BodyPart). part.means own) (settree-chain c first steps)
      ∙ ap (λ (m : QueryMeant). set_chain own m (map (set_step_of c) steps)) (same-without first other h)
      ∙ sym (ap (λ (part : BodyPart). part.means own) (settree-chain c other steps))

  seen : (tree : QueryTree) → subquery c outer tree ≡ query_seen own tree.at (set_of_tree c tree.body) tree.order tree.limit
  unfolding query_means_at token
  seen tree = ap (λ (part : QueryPart). part.means own) (querytree-record c tree.at tree.body tree.order tree.limit)

  module _ (tree : QueryTree) (at : ℕ) (body : SetTree) (word : HasWord at tree.body) (without : WithoutWord tree.body body) where
    -- what stands behind the word
    abbrev m : QueryMeant
    m = (set_of_tree c tree.body).means own

    abbrev query : Query
    query = limited tree.limit (keys_of m.columns tree.order) (m.make [])

    abbrev by_word : Bool → QueryMeant
    by_word asking = cond asking (query_with_provenance tree.at m tree.order tree.limit query)
        (plain_query tree.at ((set_of_tree c tree.body).means own) tree.order tree.limit)

    asked : subquery c outer tree ≡ query_with_provenance tree.at m tree.order tree.limit query
    asked = seen tree ∙ ap by_word (ap (λ (found : Option ℕ). is_some found) (word-at c at tree.body word))

    module _ (none : (subquery c outer tree).breaks ≡ []) where
      all-none : (query_with_provenance tree.at m tree.order tree.limit query).breaks ≡ []
      all-none = ap (λ (q : QueryMeant). q.breaks) (sym asked) ∙ none

      same : m ≡ (set_of_tree c body).means own
      same = same-without tree.body body without

      abbrev plainly : Bool → QueryMeant
      plainly asking = cond asking
          (let n : QueryMeant = (set_of_tree c body).means own in
          query_with_provenance tree.at n tree.order tree.limit (limited tree.limit (keys_of n.columns tree.order) (n.make [])))
          (plain_query tree.at ((set_of_tree c body).means own) tree.order tree.limit)

      plain-asked : subquery c outer (with_body tree body) ≡ plain_query tree.at m tree.order tree.limit
      plain-asked =
          seen (with_body tree body)
          ∙ ap plainly (ap (λ (found : Option ℕ). is_some found) (no_word c tree.body body without))
          ∙ ap (λ (q : QueryMeant). plain_query tree.at q tree.order tree.limit) (sym same)

      abbrev twin : QueryMeant
      twin = subquery c outer (with_body tree body)

      pub whole : twin.breaks ≡ []
      whole = ap (λ (q : QueryMeant). q.breaks) plain-asked ∙ all-none

      pub make-is : (subquery c outer tree).make [] ≡ Prov (twin.make [])
      make-is = ap (λ (q : QueryMeant). q.make []) asked ∙ ap (λ (q : QueryMeant). Prov (q.make [])) (sym plain-asked)

      pub places-are : (subquery c outer tree).places ≡ Some (provenance_places (count_columns twin.columns) (twin.make []))
      places-are = ap (λ (q : QueryMeant). q.places) asked ∙ ap (λ (q : QueryMeant). Some (provenance_places (count_columns q.columns) (q.make []))) (sym plain-asked)

      abbrev names : QueryMeant → List (List ℕ)
      names q = option_map_or (λ (columns : List OutColumn). names_of (settled_columns columns)) q.columns []

      shown : (columns : Option (List OutColumn)) → option_map_or names_of (option_map settled_columns columns) [] ≡ option_map_or (λ (known : List OutColumn). names_of (settled_columns known)) columns []
      shown None = refl
      shown (Some known) = refl

      pub over-provenance : IsOverProvenance (read_names (read_query (subquery c outer tree))) (read_query (subquery c outer tree)) twin
      over-provenance = record {
        whole = whole;
        query = make-is;
        source =
            ap (λ (places : Option (List ℕ)). option_map_or (external ((subquery c outer tree).make []) (names (subquery c outer tree))) places ((subquery c outer tree).make [])) places-are
            ∙ ap (λ (q : Query). external q (names (subquery c outer tree)) (provenance_places (count_columns twin.columns) (twin.make []))) make-is
            ∙ ap (λ (shown_as : List (List ℕ)). external (Prov (twin.make [])) shown_as (provenance_places (count_columns twin.columns) (twin.make []))) (sym (shown (subquery c outer tree).columns));
      }

-- ---- views

pub view-keeps : (c : Contents) (statement : Statement) (view : Name) (tree : QueryTree) (at : ℕ) (body : SetTree) → breaks c statement ≡ []
    → statement.body ≡ st.CreateView view tree → HasWord at tree.body → WithoutWord tree.body body
    → (entry : ViewEntry) × (resolved c statement ≡ r.CreateView view.text entry) × KeepsProvenance entry (query_meant c (with_body tree body))
view-keeps c statement view tree at body none is word without =
    let named : taken c view ++ named_query_breaks tree.at (query_meant c tree) ≡ [] =
    subst (λ (b : StatementBody). name_breaks c b ≡ []) is (names-whole c statement none) in
    let own_none : (query_meant c tree).breaks ≡ [] = query-whole c tree (back-none (taken c view) (named_query_breaks tree.at (query_meant c tree)) named) in (
      view_entry (query_meant c tree),
      ap (resolved_body c) is,
      record {
        whole = whole c [] tree at body word without own_none;
        query = make-is c [] tree at body word without own_none;
        places = places-are c [] tree at body word without own_none;
      },
    )

pub view-read : (name : List ℕ) (entry : ViewEntry) (plain : QueryMeant) → KeepsProvenance entry plain
    → IsOverProvenance entry.answer.names (read_view name entry) plain
view-read name entry plain h = record {
  whole = h.whole;
  query = h.query;
  source =
      ap (λ (places : Option (List ℕ)). option_map_or (external entry.answer.query entry.answer.names) places entry.answer.query) h.places
      ∙ ap (λ (q : Query). external q entry.answer.names (provenance_places (count_columns plain.columns) (plain.make []))) h.query;
}
