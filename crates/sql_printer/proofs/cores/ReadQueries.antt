-- Whole queries over cores that are read: one SELECT, with ORDER BY and LIMIT.
use Rattle.std.proofs.Common.{◌≡◌, ℕ, suc, ◌+◌, ◌<◌, ◌≤◌, true, false, cond, not, ◌&&◌, List, [], ◌∷◌, ◌++◌, length, map, flat_map, pos, Option, None, refl, sym, ap, subst, ◌∙◌, arith}
use Rattle.std.proofs.lemmas.Bool.{and_right}
use Rattle.std.specs.Prelude.{is_some, nat_le, nat_lt, pred}
use Rattle.std.proofs.lemmas.Bool.Decides.{nat_tests}
use Rattle.perm_values.specs.Rows.{KeysWithin}
use Rattle.perm_values.specs.declared.key.Key.{Key}
use Rattle.perm_values.specs.declared.kind.Kind.{Kind}
use Rattle.bag_algebra.specs.declared.query.Query.{Query}
use Rattle.perm_catalog.specs.Contents.{Contents}
use Rattle.sql_tree.specs.declared.query.Core.{Core}
use Rattle.sql_tree.specs.declared.query.OrderKey.TheVariants.{Position}
use Rattle.sql_tree.specs.declared.query.OrderTree.{OrderTree}
use Rattle.sql_tree.specs.declared.query.QueryTree.{QueryTree}
use Rattle.sql_tree.specs.declared.query.SetTree.TheVariants as set
use Rattle.name_meaning.proofs.Equations.{querytree-record, settree-core, token}
use Rattle.name_meaning.specs.Cores.{BodyPart}
use Rattle.name_meaning.specs.Meanings.{Around, OutColumn, QueryMeant, QueryPart, broken_if}
use Rattle.name_meaning.specs.Queries.{key_break, key_of, keys_breaks, keys_of, limited, plain_query, query_seen, query_with_provenance}
use Rattle.name_meaning.specs.Trees.{core_of, query_of, set_of_tree}
use Rattle.name_meaning.specs.declared.rule.Rule.TheVariants as rule
use Rattle.tree_texts.specs.Forms as f
use Rattle.tree_texts.specs.Forms.{CoreForm}
use Rattle.tree_texts.specs.Trees.{AreKeys, IsCore, IsQuery, a_key_tree, limit_of, no_key_trees, one_tree}
use Rattle.query_texts.specs.forms.ShownQueries.{alone, key_form}
use Rattle.sql_printer.specs.cores.Queries.{QueryRead, out_columns}

-- ---- keys

-- a key of ORDER BY by its position
key-whole : (columns : List OutColumn) (key : Key) (tree : OrderTree) → key.place < length columns → tree.key ≡ Position (pos (key.place + 1)) → key_break columns tree ≡ []
key-whole columns key tree within is =
    ap (λ k. key_break columns (record { at = tree.at; key = k; descending = tree.descending })) is
    ∙ ap (λ b. broken_if (not b) rule.UnknownColumn tree.at) (there (key.place + 1) (length columns) (omega arith) (omega (arith, within)))
  where
    there : (n width : ℕ) → 0 < n → n ≤ width → (nat_lt 0 n && nat_le n width) ≡ true
    there n width low high = grind (arith, nat_tests, low, high)

key-is : (columns : List OutColumn) (key : Key) (tree : OrderTree) → tree.key ≡ Position (pos (key.place + 1)) → tree.descending ≡ key.descending → key_of columns tree ≡ key
key-is columns key tree is down =
    (λ i. key_of columns (record { at = tree.at; key = is i; descending = down i }))
    ∙ (let next : key.place + 1 ≡ suc key.place = omega arith in ap (λ n. record { place = pred n; descending = key.descending }) next)

-- all keys
pub keys-read : (columns : List OutColumn) (keys : List Key) → KeysWithin (length columns) keys → {trees : List OrderTree} → AreKeys (map key_form keys) trees
    → (flat_map (key_break columns) trees ≡ []) × (map (key_of columns) trees ≡ keys)
keys-read columns [] within no_key_trees = (refl, refl)
keys-read columns (key ∷ keys) within (a_key_tree {tree = tree} is down d) =
    let rest = keys-read columns keys (λ k e h. within (suc k) e (omega (arith, h))) d in
    let first : key.place < length columns = within 0 key (omega arith) in
    ((λ i. key-whole columns key tree first is i ++ rest.0 i), (λ i. key-is columns key tree is down i ∷ rest.1 i))

-- ---- one SELECT

module _ (c : Contents) where
  -- a query of one core
  query-is : (tree : QueryTree) (core : Core) (around : Around) → tree.body ≡ set.Core core → (core_of c core).word ≡ None
      → (query_of c tree).means around ≡ plain_query tree.at ((core_of c core).means around) tree.order tree.limit
  unfolding token
  query-is tree core around is unasked =
      let body : set_of_tree c tree.body ≡ core_of c core = ap (set_of_tree c) is ∙ settree-core c core in
      ap (λ (part : QueryPart). part.means around) (querytree-record c tree.at tree.body tree.order tree.limit)
      ∙ ap (λ (part : BodyPart). query_seen around tree.at part tree.order tree.limit) body
      ∙ ap (λ b. cond b (asked_query core around tree) (plain_query tree.at ((core_of c core).means around) tree.order tree.limit))
      (ap (λ word. around.may_ask && is_some word) unasked ∙ and_right around.may_ask false refl)
    where
      asked_query : Core → Around → QueryTree → QueryMeant
      asked_query core around tree =
          let m = (core_of c core).means around in
          query_with_provenance tree.at m tree.order tree.limit (limited tree.limit (keys_of m.columns tree.order) (m.make []))

  -- with keys and a limit
  pub one-read : {core : CoreForm} (keys : List Key) (limit : Option ℕ) {tree : QueryTree} (around : Around) (names : List (List ℕ)) (kinds : List Kind) (q : Query)
      → KeysWithin (length (out_columns names kinds)) keys → IsQuery (f.one core (map key_form keys) limit) tree
      → ((tree : Core) → IsCore core tree → ((core_of c tree).word ≡ None) × QueryRead ((core_of c tree).means around) names kinds q)
      → QueryRead ((query_of c tree).means around) names kinds (limited (limit_of limit) keys q) × (((query_of c tree).means around).keys ≡ keys)
  one-read keys limit {tree = tree} around names kinds q within (one_tree {tree = core} d is ordered bounded) read =
      let own = read core d in
      let m = (core_of c core).means around in
      let all = keys-read (out_columns names kinds) keys within ordered in
      let whole = query-is tree core around is own.0 in
      let keys_are : keys_of m.columns tree.order ≡ keys = ap (λ columns. keys_of columns tree.order) own.1.columns ∙ all.1 in
      let result : QueryRead (plain_query tree.at m tree.order tree.limit) names kinds (limited (limit_of limit) keys q) = record {
        breaks = (λ i. own.1.breaks i ++ keys_breaks (own.1.columns i) tree.order) ∙ all.0;
        columns = own.1.columns;
        places = refl;
        make = λ wanted. λ i. limited (bounded i) (keys_are i) (own.1.make wanted i);
      } in
      (subst (λ meant. QueryRead meant names kinds (limited (limit_of limit) keys q)) (sym whole) result, ap (λ (meant : QueryMeant). meant.keys) whole ∙ keys_are)

-- ---- one core alone

-- what a core is read as
abbrev pub CoreRead : Contents → Around → List (List ℕ) → List Kind → Query → Core → Type 0
CoreRead c around names kinds q tree = ((core_of c tree).word ≡ None) × QueryRead ((core_of c tree).means around) names kinds q

pub alone-read : (c : Contents) (around : Around) (core : CoreForm) (names : List (List ℕ)) (kinds : List Kind) (q : Query) → ((tree : Core) → IsCore core tree → CoreRead c around names kinds q tree)
    → (tree : QueryTree) → IsQuery (alone core) tree → QueryRead ((query_of c tree).means around) names kinds q
alone-read c around core names kinds q read tree d = (one-read c [] None around names kinds q (λ k e h. absurd (omega (arith, h))) d read).0
