-- The keys of ORDER BY are a query's own columns, with and without the columns of its provenance behind them.
use Rattle.std.specs.Prelude.{◌≡◌, ℕ, suc, ◌+◌, ◌<◌, ℤ, Bool, true, false, cond, not, List, [], ◌∷◌, ◌++◌, length, map, flat_map, nat_eq, nat_lt, position, Option, Some, None, option_map}
use Rattle.std.proofs.Common.{refl, ap, sym, subst, ◌∙◌, arith, true≢false, length-append}
use Rattle.std.proofs.lemmas.Bool.Decides.{nat_tests}
use Rattle.std.proofs.lemmas.List.Recursion.{is_count_by}
use Rattle.std.specs.List.{count_by, position_or_len, prefix_len}
use Rattle.std.specs.Option.{option_map_or}
use Rattle.perm_values.proofs.Lists.{front-none, back-none}
use Rattle.bag_algebra.specs.declared.query.Query.{Query}
use Rattle.name_meaning.proofs.Equations.{token, querytree-record}
use Rattle.name_meaning.proofs.Every.{unbroken-not}
use Rattle.name_meaning.specs.Cores.{BodyPart}
use Rattle.name_meaning.specs.Meanings.{Around, OutColumn, QueryMeant, QueryPart, broken_if, is_whole, query_means_at}
use Rattle.name_meaning.specs.Queries.{is_named, asks_provenance, key_break, key_of, key_place, keys_breaks, keys_of, limited, plain_query, query_with_provenance, provenance_columns, query_seen}
use Rattle.name_meaning.specs.Trees.{query_of, set_of_tree}
use Rattle.name_meaning.specs.declared.answer.Break.{Break}
use Rattle.perm_catalog.specs.Contents.{Contents}
use Rattle.sql_tree.specs.declared.query.OrderKey.{OrderKey}
use Rattle.sql_tree.specs.declared.query.OrderKey.TheVariants.{Named as named_key, Position}
use Rattle.sql_tree.specs.declared.query.OrderTree.{OrderTree}
use Rattle.sql_tree.specs.declared.query.QueryTree.{QueryTree}
use Rattle.name_meaning.specs.declared.rule.Rule.TheVariants as rule

-- ---- the first place in a longer list

counted : {X : Type 0} → (X → Bool) → List X → ℕ
counted p [] = 0
counted p (x ∷ xs) = cond (p x) (1 + counted p xs) (counted p xs)

before-end : (b : Bool) (count at width : ℕ) → nat_eq (cond b (1 + count) count) 0 ≡ false → (nat_eq count 0 ≡ false → at < width)
    → cond (not b) (1 + at) 0 < suc width
before-end true count at width e ih = omega arith
before-end false count at width e ih = let h : at < width = ih e in omega arith

found-before : {X : Type 0} (p : X → Bool) (xs : List X) → nat_eq (counted p xs) 0 ≡ false → position_or_len p xs < length xs
unfolding counted
found-before p [] e = absurd (true≢false e)
found-before p (x ∷ xs) e = before-end (p x) (counted p xs) (position_or_len p xs) (length xs) e (found-before p xs)

longer-step : (b : Bool) (at wide width : ℕ) → cond b (1 + at) 0 < suc width → (at < width → wide ≡ at) → cond b (1 + wide) 0 ≡ cond b (1 + at) 0
longer-step true at wide width h ih = ap (λ n. 1 + n) (ih (omega arith))
longer-step false at wide width h ih = refl

longer : {X : Type 0} (q : X → Bool) (xs ys : List X) → prefix_len q xs < length xs → prefix_len q (xs ++ ys) ≡ prefix_len q xs
longer q [] ys h = absurd (omega arith)
longer q (x ∷ xs) ys h = longer-step (q x) (prefix_len q xs) (prefix_len q (xs ++ ys)) (length xs) h (longer q xs ys)

is-below : (a n : ℕ) → a < n → nat_lt a n ≡ true
is-below a n h = grind (arith, nat_tests)

position-is : {X : Type 0} (p : X → Bool) (xs : List X) (at : ℕ) → position_or_len p xs ≡ at → at < length xs → position p xs ≡ Some at
position-is p xs at e h =
    ap (λ (n : ℕ). cond (nat_lt n (length xs)) (Some n) None) e ∙ ap (λ (b : Bool). cond b (Some at) None) (is-below at (length xs) h)

same-place : {X : Type 0} (p : X → Bool) (xs ys : List X) → nat_eq (count_by p xs) 0 ≡ false → position p (xs ++ ys) ≡ position p xs
unfolding counted
same-place p xs ys e =
    let there : position_or_len p xs < length xs = found-before p xs (ap (λ (n : ℕ). nat_eq n 0) (is_count_by (counted p) p refl (λ x more. refl) xs) ∙ e) in
    position-is p (xs ++ ys) (position_or_len p xs) (longer (λ x. not (p x)) xs ys there) (more-than (length xs) there)
    ∙ sym (position-is p xs (position_or_len p xs) refl there) where
      more-than : (n : ℕ) → position_or_len p xs < length xs → position_or_len p xs < length (xs ++ ys)
      more-than n h = simp length-append (omega arith)

-- ---- keys

key-same : (own more : List OutColumn) (key : OrderKey) (at : ℕ) (descending : Bool) → key_break own (record { at = at; key = key; descending = descending }) ≡ []
    → key_place (own ++ more) key ≡ key_place own key
key-same own more (named_key name) at descending none =
    ap (λ (found : Option ℕ). option_map_or (λ place. place) found 0)
    (same-place (is_named name) own more (unbroken-not (nat_eq (count_by (is_named name) own) 0) rule.UnknownColumn at
    (front-none (broken_if (nat_eq (count_by (is_named name) own) 0) rule.UnknownColumn at) (broken_if (nat_lt 1 (count_by (is_named name) own)) rule.AmbiguousColumn at) none)))
key-same own more (Position n) at descending none = refl

keys-same : (own more : List OutColumn) (order : List OrderTree) → flat_map (key_break own) order ≡ [] → map (key_of (own ++ more)) order ≡ map (key_of own) order
keys-same own more [] none = refl
keys-same own more (tree ∷ order) none = λ i.
    record { place = key-same own more tree.key tree.at tree.descending (front-none (key_break own tree) (flat_map (key_break own) order) none) i; descending = tree.descending }
    ∷ keys-same own more order (back-none (key_break own tree) (flat_map (key_break own) order) none) i

-- ---- a query

plain-keys : (at : ℕ) (body : QueryMeant) (order : List OrderTree) (limit : Option ℤ) (columns : List OutColumn)
    → (plain_query at body order limit).columns ≡ Some columns → map (key_of columns) order ≡ (plain_query at body order limit).keys
plain-keys at body order limit columns known = ap (λ (known : Option (List OutColumn)). keys_of known order) (sym known)

with_provenance-keys : (at : ℕ) (body : QueryMeant) (order : List OrderTree) (limit : Option ℤ) (query : Query) (columns : List OutColumn)
    → (query_with_provenance at body order limit query).breaks ≡ [] → (query_with_provenance at body order limit query).columns ≡ Some columns
    → map (key_of columns) order ≡ (query_with_provenance at body order limit query).keys
with_provenance-keys at body order limit query columns none known =
    of body.columns refl (sym (ap (λ (bs : List Break). cond (is_whole bs) (option_map (λ (own : List OutColumn). own ++ provenance_columns query) body.columns) body.columns)
    (front-none body.breaks (keys_breaks body.columns order) none)) ∙ known)
    (back-none body.breaks (keys_breaks body.columns order) none) where
      of : (held : Option (List OutColumn)) → body.columns ≡ held → option_map (λ (own : List OutColumn). own ++ provenance_columns query) body.columns ≡ Some columns
          → keys_breaks body.columns order ≡ [] → map (key_of columns) order ≡ keys_of body.columns order
      of None is wide keys = absurd (cc (sym (ap (option_map (λ (own : List OutColumn). own ++ provenance_columns query)) is) ∙ wide))
      of (Some own) is wide keys =
          let all : own ++ provenance_columns query ≡ columns = cc (sym (ap (option_map (λ (own : List OutColumn). own ++ provenance_columns query)) is) ∙ wide) in
          ap (λ (cs : List OutColumn). map (key_of cs) order) (sym all)
          ∙ keys-same own (provenance_columns query) order (subst (λ (held : Option (List OutColumn)). keys_breaks held order ≡ []) is keys)
          ∙ ap (λ (held : Option (List OutColumn)). keys_of held order) (sym is)

seen-keys : (around : Around) (at : ℕ) (body : BodyPart) (order : List OrderTree) (limit : Option ℤ) (columns : List OutColumn)
    → (query_seen around at body order limit).breaks ≡ [] → (query_seen around at body order limit).columns ≡ Some columns
    → map (key_of columns) order ≡ (query_seen around at body order limit).keys
seen-keys around at body order limit columns = chosen (asks_provenance around body) where
  chosen : (b : Bool) → (cond b
      (let m = body.means around in query_with_provenance at m order limit (limited limit (keys_of m.columns order) (m.make [])))
      (plain_query at (body.means around) order limit)).breaks ≡ []
      → (cond b
      (let m = body.means around in query_with_provenance at m order limit (limited limit (keys_of m.columns order) (m.make [])))
      (plain_query at (body.means around) order limit)).columns ≡ Some columns
      → map (key_of columns) order ≡ (cond b
      (let m = body.means around in query_with_provenance at m order limit (limited limit (keys_of m.columns order) (m.make [])))
      (plain_query at (body.means around) order limit)).keys
  chosen true none known =
      let m = body.means around in
      with_provenance-keys at m order limit (limited limit (keys_of m.columns order) (m.make [])) columns none known
  chosen false none known = plain-keys at (body.means around) order limit columns known

pub query-keys : (c : Contents) (around : Around) (tree : QueryTree) (columns : List OutColumn)
    → (query_means_at (query_of c tree) around).breaks ≡ [] → (query_means_at (query_of c tree) around).columns ≡ Some columns
    → map (key_of columns) tree.order ≡ (query_means_at (query_of c tree) around).keys
unfolding token query_means_at
query-keys c around tree columns =
    subst (λ (query : QueryPart). (query.means around).breaks ≡ [] → (query.means around).columns ≡ Some columns → map (key_of columns) tree.order ≡ (query.means around).keys)
    (sym (querytree-record c tree.at tree.body tree.order tree.limit))
    (seen-keys around tree.at (set_of_tree c tree.body) tree.order tree.limit columns)
