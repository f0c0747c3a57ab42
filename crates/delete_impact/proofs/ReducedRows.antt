-- What a monotone query over some rows of a table means: what the query means where the table has no others. Over what is left of it that is
-- what the query means after the deletion.
use Rattle.std.proofs.Common.{◌≡◌, ℕ, Bool, true, false, cond, not, ◌==◌, ◌&&◌, List, [], filter, Some, refl, sym, ap, ◌∙◌, subst}
use mathlib.Core.Bool.{true≢false}
use Rattle.std.proofs.lemmas.Bool.{eqb-true}
use Rattle.perm_values.specs.declared.kind.Kind.{Kind}
use Rattle.perm_values.specs.declared.value.Value.{Value}
use Rattle.bag_algebra.proofs.Members.{IsIn}
use Rattle.bag_algebra.proofs.Truths.{left-true, right-true}
use Rattle.bag_algebra.specs.Bags.{Row, Bag, once, union_of}
use Rattle.bag_algebra.specs.Expressions.{value}
use Rattle.bag_algebra.specs.Kinds.{width_of}
use Rattle.bag_algebra.specs.Meaning.{Database, meaning, sub_denote, condition_on, items_on}
use Rattle.bag_algebra.specs.Means.{holds_of, kept, joined_rows}
use Rattle.bag_algebra.specs.Means as means
use Rattle.bag_algebra.specs.Outcome.{Outcome, Good, and_then, mapped, both, both_then, gather, each}
use Rattle.bag_algebra.specs.Scoped.{no_subs}
use Rattle.bag_algebra.specs.built.Openings.{rows-with_lists}
use Rattle.bag_algebra.specs.built.Patterns.{Shape, many, BaseOf, FilterOf, ProjectOf, JoinOf, ApplyOf, UnionOf, IntersectOf, ExceptOf, DistinctOf, AggregateOf, LimitOf, ProvOf}
use Rattle.bag_algebra.specs.declared.expr.Expr.{Expr}
use Rattle.bag_algebra.specs.declared.expr.Item.{Item}
use Rattle.bag_algebra.specs.declared.query.JoinKind.TheVariants.{Inner, Left, Right, Full}
use Rattle.bag_algebra.specs.declared.query.Label.{Label}
use Rattle.bag_algebra.specs.declared.query.Query.{Query, Row_of-Sublink, more_of-Sublink, end_of-Sublink}
use Rattle.bag_algebra.specs.declared.query.Query.TheVariants.{Table, Single}
use Rattle.contribution.proofs.NodeQueries.{meaning-chosen}
use Rattle.query_facts.specs.monotone.Monotone.{is_monotone, is_relation, is_whole_table}
use Rattle.query_facts.proofs.Nodes.{whole_table-is}
use Rattle.delete_impact.specs.vanishing.Doomed.{is_doomed, after_deletion}
use Rattle.query_laws.specs.replaced.OverQueries.{over_queries, sub_over_queries}
use Rattle.delete_impact.specs.reduced.Reduced.{not_true, rows_of, over_rows, reduced}
use Rattle.delete_impact.proofs.Conditions.{doomed-tested, spared-tested}
use Rattle.delete_impact.proofs.Tested.{gather-tested}

none-over : (at : ℕ → List Kind → Query) {m : _} (subs : Row_of-Sublink m) (db : Database) → no_subs subs ≡ true → sub_denote (sub_over_queries at subs) db [] ≡ means.no_subs
none-over at end_of-Sublink db e = refl
none-over at (more_of-Sublink kind tested query subs) db e = absurd (true≢false (sym e))

pub none-denoted : {m : _} (subs : Row_of-Sublink m) (db : Database) → no_subs subs ≡ true → sub_denote subs db [] ≡ means.no_subs
none-denoted end_of-Sublink db e = refl
none-denoted (more_of-Sublink kind tested query subs) db e = absurd (true≢false (sym e))

-- the pairs of an inner join, whatever the widths of its sides
abbrev pub pairs : Expr → Bag → Bag → Outcome Bag
pairs test us vs = joined_rows Inner (condition_on test [] means.no_subs) 0 0 us vs

-- nodes whose sublinks mean what none mean
module _ (db : Database) where
  pub filter-alone : (q : Query) (test : Expr) (form : Shape) (subs : Row_of-Sublink (many form)) → sub_denote subs db [] ≡ means.no_subs →
      meaning (FilterOf q test form subs) db [] ≡ and_then (meaning q db []) (gather (kept (condition_on test [] means.no_subs)))
  filter-alone q test form subs e = rows-with_lists _ _ ∙ ap (λ s. and_then (meaning q db []) (gather (kept (condition_on test [] s)))) e

  pub project-alone : (q : Query) (items : List Item) (form : Shape) (subs : Row_of-Sublink (many form)) → sub_denote subs db [] ≡ means.no_subs →
      meaning (ProjectOf q items form subs) db [] ≡ and_then (meaning q db []) (each (items_on items [] means.no_subs))
  project-alone q items form subs e = rows-with_lists _ _ ∙ ap (λ s. and_then (meaning q db []) (each (items_on items [] s))) e

  pub join-alone : (left right : Query) (test : Expr) (form : Shape) (subs : Row_of-Sublink (many form)) → sub_denote subs db [] ≡ means.no_subs →
      meaning (JoinOf Inner left right test form subs) db [] ≡ both_then (meaning left db []) (meaning right db []) (pairs test)
  join-alone left right test form subs e =
      rows-with_lists _ _ ∙ ap (λ s. both_then (meaning left db []) (meaning right db []) (joined_rows Inner (condition_on test [] s) (width_of left) (width_of right))) e

-- the database with those rows of one table alone that pass
abbrev pub part_of : ℕ → (Row → Bool) → Database → Database
part_of id passes db other = cond (other == id) (filter passes (db other)) (db other)

-- the condition is good on each row of the table, and says whether it passes
module _ (id : ℕ) (condition : Expr) (passes : Row → Bool) (db : Database)
    (tested : (u : Row) → IsIn u (db id) → mapped holds_of (value condition u [] []) ≡ Good (passes u)) where
  abbrev part : Database
  part = part_of id passes db

  table-where : (other : ℕ) (own : List Kind) (b : Bool) → (other == id) ≡ b →
      meaning (cond b (FilterOf (Table other own) condition [] end_of-Sublink) (Table other own)) db [] ≡ Good (cond b (filter passes (db other)) (db other))
  table-where other own true e =
      meaning-chosen (Table other own) condition db []
      ∙ gather-tested (condition_on condition [] means.no_subs) passes (db other) (λ u h. tested u (subst (λ one. IsIn u (db one)) (eqb-true other id e) h))
  table-where other own false e = refl

  source-rows : (input : Query) (places : List ℕ) (label : Label) → ((other : ℕ) × (kinds : List Kind) × (input ≡ Table other kinds)) →
      meaning (BaseOf (over_queries (rows_of id condition) input) places label) db [] ≡ meaning (BaseOf input places label) part []
  source-rows input places label table =
      subst (λ source. meaning (BaseOf (over_queries (rows_of id condition) source) places label) db [] ≡ meaning (BaseOf source places label) part []) (sym table.2)
      (rows-with_lists _ _ ∙ table-where table.0 table.1 (table.0 == id) refl)

  rows-over : (q : Query) → is_monotone q ≡ true → meaning (over_rows id condition q) db [] ≡ meaning q part []
  rows-over (Table other kinds) m = absurd (true≢false (sym m))
  rows-over Single m = refl
  rows-over (BaseOf input places label) m =
      source-rows input places label (whole_table-is input places (right-true (is_relation label) (is_whole_table input places) m))
  rows-over (FilterOf input test form subs) m =
      let none = left-true (no_subs subs) (is_monotone input) m in
      filter-alone db (over_rows id condition input) test form (sub_over_queries (rows_of id condition) subs) (none-over (rows_of id condition) subs db none)
      ∙ ap (λ o. and_then o (gather (kept (condition_on test [] means.no_subs)))) (rows-over input (right-true (no_subs subs) (is_monotone input) m))
      ∙ sym (filter-alone part input test form subs (none-denoted subs part none))
  rows-over (ProjectOf input items form subs) m =
      let none = left-true (no_subs subs) (is_monotone input) m in
      project-alone db (over_rows id condition input) items form (sub_over_queries (rows_of id condition) subs) (none-over (rows_of id condition) subs db none)
      ∙ ap (λ o. and_then o (each (items_on items [] means.no_subs))) (rows-over input (right-true (no_subs subs) (is_monotone input) m))
      ∙ sym (project-alone part input items form subs (none-denoted subs part none))
  rows-over (JoinOf Inner left right test form subs) m =
      let none = left-true (no_subs subs) (is_monotone left && is_monotone right) m in
      let sides = right-true (no_subs subs) (is_monotone left && is_monotone right) m in
      join-alone db (over_rows id condition left) (over_rows id condition right) test form (sub_over_queries (rows_of id condition) subs)
      (none-over (rows_of id condition) subs db none)
      ∙ (λ i. both_then (rows-over left (left-true (is_monotone left) (is_monotone right) sides) i)
      (rows-over right (right-true (is_monotone left) (is_monotone right) sides) i) (pairs test))
      ∙ sym (join-alone part left right test form subs (none-denoted subs part none))
  rows-over (JoinOf Left left right test form subs) m = absurd (true≢false (sym m))
  rows-over (JoinOf Right left right test form subs) m = absurd (true≢false (sym m))
  rows-over (JoinOf Full left right test form subs) m = absurd (true≢false (sym m))
  rows-over (ApplyOf kind left right) m = absurd (true≢false (sym m))
  rows-over (UnionOf all left right) m =
      rows-with_lists _ _
      ∙ (λ i. both (union_of all) (rows-over left (left-true (is_monotone left) (is_monotone right) m) i) (rows-over right (right-true (is_monotone left) (is_monotone right) m) i))
      ∙ sym (rows-with_lists _ _)
  rows-over (IntersectOf all left right) m = absurd (true≢false (sym m))
  rows-over (ExceptOf all left right) m = absurd (true≢false (sym m))
  rows-over (DistinctOf input) m = rows-with_lists _ _ ∙ ap (mapped once) (rows-over input m) ∙ sym (rows-with_lists _ _)
  rows-over (AggregateOf input groups aggregates) m = absurd (true≢false (sym m))
  rows-over (LimitOf input keys count) m = absurd (true≢false (sym m))
  rows-over (ProvOf input) m = absurd (true≢false (sym m))

-- ---- the rows that go, and what is left

module _ (id : ℕ) (condition : Expr) (db : Database) (good : (u : Row) → IsIn u (db id) → (v : Value) × (value condition u [] [] ≡ Good v)) where
  pub going-rows : (q : Query) → is_monotone q ≡ true → meaning (over_rows id condition q) db [] ≡ meaning q (part_of id (is_doomed (Some condition)) db) []
  going-rows = rows-over id condition (is_doomed (Some condition)) db (λ u h. let v = good u h in doomed-tested condition u v.0 v.1)

  pub reduced-rows : (q : Query) → is_monotone q ≡ true → meaning (reduced id condition q) db [] ≡ meaning q (after_deletion id (Some condition) db) []
  reduced-rows =
      rows-over id (not_true condition) (λ row. not (is_doomed (Some condition) row)) db (λ u h. let v = good u h in spared-tested condition u v.0 v.1)
