-- The text of a query: one SELECT for a block of SQL.
use Rattle.std.specs.Prelude.{ℕ, ◌+◌, Bool, false, cond, List, [], ◌∷◌, ◌++◌, map, length, codes}
use Rattle.perm_values.specs.declared.key.Key.{Key}
use Rattle.bag_algebra.specs.Kinds.{kinds_of, width_of}
use Rattle.bag_algebra.specs.built.Patterns.{BaseOf, FilterOf, ProjectOf, JoinOf, ApplyOf, UnionOf, IntersectOf, ExceptOf, DistinctOf, AggregateOf, LimitOf, ProvOf}
use Rattle.bag_algebra.specs.declared.query.JoinKind.{JoinKind}
use Rattle.bag_algebra.specs.declared.query.Query.{Query, Row_of-Sublink, more_of-Sublink, end_of-Sublink}
use Rattle.bag_algebra.specs.declared.query.Query.TheVariants.{Table, Single}
use Rattle.bag_algebra.specs.declared.query.Sublink.{Sublink}
use Rattle.query_texts.specs.clauses.Chains.{is_chained}
use Rattle.query_texts.specs.clauses.ClauseTexts.{asked_text, beside_joined, beside_lateral, called_items, columns_text, condition_text, groups_text, limited_text, ordered_text, over_text, projecting_text, set_text, table_text, unread_text, where_text}
use Rattle.query_texts.specs.clauses.Names.{Naming, deeper, naming, names_of, outermost, own}
use Rattle.query_texts.specs.declared.clauses.tables.TableNames.{TableNames}
use Rattle.tree_texts.specs.expressions.Words.{is_any}

-- what a query is written as
pub record Written : Type 0 where
  -- by itself, with its columns called so
  pub whole : Naming → List ℕ
  -- behind the word SELECT, in one SELECT that gives its columns
  pub listed : Naming → List ℕ
  -- FROM and WHERE that give its columns
  pub block : List ℕ
  -- FROM that gives its columns, and that joins may follow
  pub from : List ℕ

abbrev pub select : List ℕ → List ℕ
select listed = codes "SELECT " ++ listed

-- what is written by itself alone
abbrev pub a_whole : List ℕ → ℕ → (Naming → List ℕ) → Written
a_whole prefix count whole = record {
  whole = whole;
  listed = λ out. columns_text prefix out count ++ over_text (whole (own prefix));
  block = over_text (whole (own prefix));
  from = over_text (whole (own prefix));
}

-- one SELECT
abbrev pub a_select : List ℕ → (Naming → List ℕ) → Written
a_select prefix listed = record {
  whole = λ out. select (listed out);
  listed = listed;
  block = over_text (select (listed (own prefix)));
  from = over_text (select (listed (own prefix)));
}

-- FROM and WHERE that give so many columns, and that joins may follow or not
abbrev pub a_block : List ℕ → ℕ → Bool → List ℕ → Written
a_block prefix count followed block = record {
  whole = λ out. select (columns_text prefix out count ++ block);
  listed = λ out. columns_text prefix out count ++ block;
  block = block;
  from = cond followed block (over_text (select (columns_text prefix (own prefix) count ++ block)));
}

-- what is written by itself alone, unless it may stand in one FROM with others
abbrev pub apart_unless : List ℕ → ℕ → Bool → Written → Written
apart_unless prefix count chained w = cond chained w (a_whole prefix count w.whole)

-- FROM that ends in a join
abbrev pub join_block : List ℕ → JoinKind → ℕ → Written → Written → List ℕ → List ℕ
join_block prefix kind width left right on =
    (apart_unless prefix width (is_chained kind) left).from
    ++ (beside_joined kind (width + 1) (right.whole (naming prefix (width + 1))) ++ on)

-- ---- queries

-- The columns of what a join brings stand right behind those of its left side, and its source is called by the number of the first: no join
-- follows one whose right side has none.
abbrev mutual
  pub written : List TableNames → List ℕ → Query → Written
  written tables prefix (Table id kinds) = a_select prefix (λ out. table_text out (names_of tables id))
  written tables prefix Single = a_select prefix (λ out. unread_text out.prefix (codes "1 ") 0)
  written tables prefix (BaseOf input places label) = a_whole prefix (width_of input) (written tables prefix input).whole
  written tables prefix (FilterOf input condition _ subs) =
      a_block prefix (width_of input) false
      ((written tables prefix input).from ++ where_text prefix (sub_texts tables prefix subs) condition)
  written tables prefix (ProjectOf input items _ subs) =
      a_select prefix (λ out. projecting_text prefix out (sub_texts tables prefix subs) items ++ (written tables prefix input).block)
  written tables prefix (JoinOf kind left right condition _ subs) =
      apart_unless prefix (length (kinds_of left ++ kinds_of right)) (is_chained kind)
      (a_block prefix (length (kinds_of left ++ kinds_of right)) (is_any (width_of right))
      (join_block prefix kind (width_of left) (written tables prefix left) (written tables prefix right)
      (condition_text prefix (sub_texts tables prefix subs) condition)))
  written tables prefix (ApplyOf kind left right) =
      a_block prefix (length (kinds_of left ++ kinds_of right)) (is_any (width_of right))
      ((written tables prefix left).from
      ++ beside_lateral kind (width_of left + 1) ((written tables (deeper prefix) right).whole (naming prefix (width_of left + 1))))
  written tables prefix (UnionOf all left right) =
      a_whole prefix (width_of left) (λ out. select ((written tables prefix left).listed out)
      ++ (set_text (codes "UNION ") all ++ select ((written tables prefix right).listed out)))
  written tables prefix (IntersectOf all left right) =
      a_whole prefix (width_of left) (λ out. select ((written tables prefix left).listed out)
      ++ (set_text (codes "INTERSECT ") all ++ select ((written tables prefix right).listed out)))
  written tables prefix (ExceptOf all left right) =
      a_whole prefix (width_of left) (λ out. select ((written tables prefix left).listed out)
      ++ (set_text (codes "EXCEPT ") all ++ select ((written tables prefix right).listed out)))
  written tables prefix (DistinctOf input) =
      a_whole prefix (width_of input) (λ out. codes "SELECT DISTINCT " ++ (written tables prefix input).listed out)
  written tables prefix (AggregateOf input groups aggregates) =
      a_whole prefix (width_of (AggregateOf input groups aggregates)) (λ out. groups_text prefix out groups aggregates (written tables prefix input).block)
  written tables prefix (LimitOf input keys count) =
      a_whole prefix (width_of input)
      (λ out. select ((written tables prefix input).listed out) ++ limited_text keys (width_of input) count)
  written tables prefix (ProvOf input) = a_whole prefix (width_of (ProvOf input)) (written tables prefix input).whole

  pub sub_texts : List TableNames → List ℕ → {m : _} → Row_of-Sublink m → List (List ℕ)
  sub_texts tables prefix end_of-Sublink = []
  sub_texts tables prefix (more_of-Sublink kind tested query subs) =
      asked_text prefix kind tested ((written tables (deeper prefix) query).whole (own (deeper prefix))) ∷ sub_texts tables prefix subs

-- the text of a query
abbrev pub query_bytes : List TableNames → List ℕ → Naming → Query → List ℕ
query_bytes tables prefix out q = (written tables prefix q).whole out

-- ---- on plain lists of children

abbrev pub sub_text : List TableNames → List ℕ → Sublink → List ℕ
sub_text tables prefix sub = asked_text prefix sub.kind sub.tested (query_bytes tables (deeper prefix) (own (deeper prefix)) sub.query)

abbrev pub subs_texts : List TableNames → List ℕ → List Sublink → List (List ℕ)
subs_texts tables prefix subs = map (sub_text tables prefix) subs

-- ---- answers

abbrev pub answer_bytes : List TableNames → Query → List (List ℕ) → List Key → List ℕ
answer_bytes tables q names keys =
    select (unread_text outermost (codes "1 ") (length names) ++ (called_items 0 names
    ++ ((written tables outermost q).block ++ ordered_text keys)))
