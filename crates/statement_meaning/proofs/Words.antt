-- What the word PROVENANCE asks for.
use Rattle.std.proofs.Common.{◌≡◌, ◌∙◌, ℕ, Bool, cond, List, [], ◌∷◌, ◌++◌, map, Option, Some, None, refl, sym, ap, subst}
use Rattle.std.specs.Option.{option_map_or}
use Rattle.std.specs.Prelude.{is_some, option_map}
use Rattle.perm_values.proofs.Lists.{front-none}
use Rattle.bag_algebra.specs.declared.query.Answer.{Answer}
use Rattle.bag_algebra.specs.declared.query.Query.{Query}
use Rattle.bag_algebra.specs.declared.query.Query.TheVariants.{Prov}
use Rattle.perm_catalog.specs.Contents.{Contents}
use Rattle.perm_catalog.specs.Sound.{IsSound}
use Rattle.sql_tree.specs.declared.expression.ExprBody.TheViews.{out-roll-Core}
use Rattle.sql_tree.specs.declared.query.Core.{Core, out-Core, roll-Core}
use Rattle.sql_tree.specs.declared.query.SetTree.TheVariants as set
use Rattle.sql_tree.specs.declared.query.QueryTree.{QueryTree}
use Rattle.sql_tree.specs.declared.query.SetTree.{SetTree}
use Rattle.sql_tree.specs.declared.statement.Statement.{Statement}
use Rattle.sql_tree.specs.declared.statement.StatementBody.{StatementBody}
use Rattle.sql_tree.specs.declared.statement.StatementBody.TheVariants as st
use Rattle.name_meaning.proofs.Equations.{token, querytree-record, settree-core, settree-chain}
use Rattle.name_meaning.proofs.Opened.{CoreLayer, shown_core, opened_core}
use Rattle.name_meaning.specs.Cores.{BodyPart, core_step}
use Rattle.name_meaning.specs.Froms.{names_of, settled_columns}
use Rattle.name_meaning.specs.Meanings.{OutColumn, QueryMeant, QueryPart, is_whole, query_means_at}
use Rattle.name_meaning.specs.Queries.{keys_breaks, keys_of, limited, plain_query, columns_with_provenance, query_with_provenance, provenance_columns, query_seen, set_chain}
use Rattle.name_meaning.specs.Statements.{alone, answer_of, name_breaks, query_meant, resolved_body}
use Rattle.name_meaning.specs.Trees.{set_of_tree, core_of, set_step_of}
use Rattle.name_meaning.specs.declared.answer.Break.{Break}
use Rattle.name_meaning.proofs.Trees.{set-known}
use Rattle.statement_meaning.proofs.Ready.{names-whole}
use Rattle.statement_meaning.proofs.Answered.{same_answer}
use Rattle.statement_meaning.specs.laws.Asks.{AsksFor, HasWord, ResolvesTo, WithoutWord, in_core, in_first, plain_core, plain_first, shown_names, with_body}

-- ---- the word, from the tree

core-word : (c : Contents) (core : Core) → (core_of c core).word ≡ (out-Core core).provenance
core-word c core = ap (λ (part : BodyPart). part.word) (opened_core c core)

word-at : (c : Contents) (at : ℕ) (tree : SetTree) → HasWord at tree → (set_of_tree c tree).word ≡ Some at
unfolding token
word-at c at tree (in_core core e) = ap (λ (part : BodyPart). part.word) (settree-core c core) ∙ core-word c core ∙ e
word-at c at tree (in_first first steps h) = ap (λ (part : BodyPart). part.word) (settree-chain c first steps) ∙ word-at c at first h

-- ---- the same without the word

pub without-word : (at : ℕ) (tree : SetTree) → HasWord at tree → (plain : SetTree) × WithoutWord tree plain
without-word at tree (in_core core e) =
    let layer : CoreLayer = record (out-Core core) { provenance = None } in
    (set.Core (roll-Core layer), plain_core core (roll-Core layer) (out-roll-Core layer))
without-word at tree (in_first first steps h) =
    let plain = without-word at first h in
    (set.Chain plain.0 steps, plain_first first plain.0 steps plain.1)

pub no_word : (c : Contents) (tree plain : SetTree) → WithoutWord tree plain → (set_of_tree c plain).word ≡ None
unfolding token
no_word c tree plain (plain_core core other e) =
    ap (λ (part : BodyPart). part.word) (settree-core c other) ∙ core-word c other ∙ ap (λ (layer : CoreLayer). layer.provenance) e
no_word c tree plain (plain_first first other steps h) =
    ap (λ (part : BodyPart). part.word) (settree-chain c other steps) ∙ no_word c first other h

-- at the front of a whole query the word is no break
wordless : (c : Contents) (layer : CoreLayer) → (core_step (shown_core c layer)).means alone ≡ (core_step (shown_core c (record layer { provenance = None }))).means alone
wordless c layer = refl

same-without : (c : Contents) (tree plain : SetTree) → WithoutWord tree plain → (set_of_tree c tree).means alone ≡ (set_of_tree c plain).means alone
unfolding token
same-without c tree plain (plain_core core other e) =
    ap (λ (part : BodyPart). part.means alone) (settree-core c core ∙ opened_core c core)
    ∙ wordless c (out-Core core)
    ∙ ap (λ (layer : CoreLayer). (core_step (shown_core c layer)).means alone) (sym e)
    ∙ sym (ap (λ (part : BodyPart). part.means alone) (settree-core c other ∙ opened_core c other))
same-without c tree plain (plain_first first other steps h) =
    ap (λ (part : BodyPart). part.means alone) (settree-chain c first steps)
    ∙ ap (λ (m : QueryMeant). set_chain alone m (map (set_step_of c) steps)) (same-without c first other h)
    ∙ sym (ap (λ (part : BodyPart). part.means alone) (settree-chain c other steps))

-- ---- the whole query

-- what stands behind the word, without its ORDER BY and LIMIT
abbrev pub body_meant : Contents → SetTree → QueryMeant
body_meant c body = (set_of_tree c body).means alone

abbrev pub whole_query : QueryTree → QueryMeant → Query
whole_query tree m = limited tree.limit (keys_of m.columns tree.order) (m.make [])

pub opened : (c : Contents) (tree : QueryTree) → query_meant c tree ≡ query_seen alone tree.at (set_of_tree c tree.body) tree.order tree.limit
unfolding query_means_at token
opened c tree = ap (λ (part : QueryPart). part.means alone) (querytree-record c tree.at tree.body tree.order tree.limit)

-- by whether the word stands there
abbrev by_word : Contents → QueryTree → Bool → QueryMeant
by_word c tree asking = cond asking (query_with_provenance tree.at (body_meant c tree.body) tree.order tree.limit (whole_query tree (body_meant c tree.body)))
    (plain_query tree.at ((set_of_tree c tree.body).means alone) tree.order tree.limit)

pub with_provenance-seen : (c : Contents) (tree : QueryTree) (at : ℕ) → HasWord at tree.body
    → query_meant c tree ≡ query_with_provenance tree.at (body_meant c tree.body) tree.order tree.limit (whole_query tree (body_meant c tree.body))
with_provenance-seen c tree at word = opened c tree ∙ ap (by_word c tree) (ap (λ (found : Option ℕ). is_some found) (word-at c at tree.body word))

plain-seen : (c : Contents) (tree : QueryTree) → (set_of_tree c tree.body).word ≡ None
    → query_meant c tree ≡ plain_query tree.at ((set_of_tree c tree.body).means alone) tree.order tree.limit
plain-seen c tree none = opened c tree ∙ ap (by_word c tree) (ap (λ (found : Option ℕ). is_some found) none)

module _ (c : Contents) (statement : Statement) (answer : Answer) (tree : QueryTree) (at : ℕ) (body : SetTree) (asked_for : AsksFor c statement answer)
    (is : statement.body ≡ st.Select tree) (word : HasWord at tree.body) (without : WithoutWord tree.body body) where
  abbrev m : QueryMeant
  m = body_meant c tree.body

  abbrev plain_tree : QueryTree
  plain_tree = with_body tree body

  same_query : answer_of (query_meant c tree) ≡ answer
  same_query = same_answer (answer_of (query_meant c tree)) answer (sym (ap (resolved_body c) is) ∙ asked_for.is)

  seen : query_meant c tree ≡ query_with_provenance tree.at m tree.order tree.limit (whole_query tree m)
  seen = with_provenance-seen c tree at word

  all-none : m.breaks ++ keys_breaks m.columns tree.order ≡ []
  all-none = ap (λ (q : QueryMeant). q.breaks) (sym seen) ∙ subst (λ (b : StatementBody). name_breaks c b ≡ []) is (names-whole c statement asked_for.whole)

  none : m.breaks ≡ []
  none = front-none m.breaks (keys_breaks m.columns tree.order) all-none

  -- behind the word stands what the plain query has
  same_body : m ≡ (set_of_tree c body).means alone
  same_body = same-without c tree.body body without

  pub plain_seen : query_meant c plain_tree ≡ plain_query tree.at m tree.order tree.limit
  plain_seen =
      plain-seen c plain_tree (no_word c tree.body body without)
      ∙ ap (λ (q : QueryMeant). plain_query tree.at q tree.order tree.limit) (sym same_body)

  pub word-proves : (plain : Answer) × ResolvesTo c (with_body tree body) plain × (answer.query ≡ Prov plain.query) × (answer.keys ≡ plain.keys)
  word-proves = (
    answer_of (query_meant c plain_tree),
    record { whole = ap (λ (q : QueryMeant). q.breaks) plain_seen ∙ all-none; is = refl },
    ap (λ (a : Answer). a.query) (sym same_query) ∙ ap (λ (q : QueryMeant). q.make []) seen ∙ ap (λ (q : QueryMeant). Prov (q.make [])) (sym plain_seen),
    ap (λ (a : Answer). a.keys) (sym same_query) ∙ ap (λ (q : QueryMeant). q.keys) seen ∙ ap (λ (q : QueryMeant). q.keys) (sym plain_seen),
  )

-- ---- the names of its columns

shown-append : (own more : List OutColumn) → shown_names (own ++ more) ≡ shown_names own ++ shown_names more
shown-append [] more = refl
shown-append (column ∷ own) more = ap (λ (names : List (List ℕ)). column.name ∷ names) (shown-append own more)

-- the columns with those of the places, where the query is whole
with_provenance-names : (own : List OutColumn) (m : QueryMeant) (query : Query) → m.columns ≡ Some own → m.breaks ≡ []
    → names_of (option_map_or settled_columns (columns_with_provenance m query) []) ≡ shown_names own ++ shown_names (provenance_columns query)
with_provenance-names own m query e none =
    ap (λ (bs : List Break). names_of (option_map_or settled_columns
    (cond (is_whole bs) (option_map (λ (columns : List OutColumn). columns ++ provenance_columns query) m.columns) m.columns) [])) none
    ∙ ap (λ (columns : Option (List OutColumn)). names_of (option_map_or settled_columns (option_map (λ (known : List OutColumn). known ++ provenance_columns query) columns) [])) e
    ∙ shown-append own (provenance_columns query)

pub word-names : (c : Contents) (statement : Statement) (answer plain : Answer) (tree : QueryTree) (at : ℕ) (body : SetTree)
    → IsSound c → AsksFor c statement answer → statement.body ≡ st.Select tree → HasWord at tree.body → WithoutWord tree.body body
    → ResolvesTo c (with_body tree body) plain
    → answer.names ≡ plain.names ++ shown_names (provenance_columns plain.query)
word-names c statement answer plain tree at body sound asked_for is word without resolved =
    let m : QueryMeant = body_meant c tree.body in
    let query : Query = whole_query tree m in
    let all_none = none c statement answer tree at body asked_for is word without in
    let known = set-known c tree.body alone sound all_none in
    let same : answer_of (query_meant c tree) ≡ answer = same_query c statement answer tree at body asked_for is word without in
    let shown : query_meant c tree ≡ query_with_provenance tree.at m tree.order tree.limit query = seen c statement answer tree at body asked_for is word without in
    let other : answer_of (query_meant c (with_body tree body)) ≡ plain = same_answer (answer_of (query_meant c (with_body tree body))) plain resolved.is in
    let plainly : query_meant c (with_body tree body) ≡ plain_query tree.at m tree.order tree.limit = plain_seen c statement answer tree at body asked_for is word without in
    let own_names : shown_names known.columns ≡ plain.names =
    ap (λ (columns : Option (List OutColumn)). names_of (option_map_or settled_columns columns [])) (sym known.known)
    ∙ ap (λ (q : QueryMeant). (answer_of q).names) (sym plainly) ∙ ap (λ (a : Answer). a.names) other in
    let own_query : query ≡ plain.query = ap (λ (q : QueryMeant). q.make []) (sym plainly) ∙ ap (λ (a : Answer). a.query) other in
    sym (ap (λ (a : Answer). a.names) same) ∙ ap (λ (q : QueryMeant). (answer_of q).names) shown
    ∙ with_provenance-names known.columns m query known.known all_none
    ∙ (λ i. own_names i ++ shown_names (provenance_columns (own_query i)))
