-- Over fewer rows a monotone query in which no fault hides another has no further row and meets no further fault.
use Rattle.std.proofs.Common.{◌≡◌, ℕ, zero, suc, Bool, true, false, cond, ◌==◌, ◌&&◌, ◌||◌, List, [], ◌++◌, filter, refl, sym, ap, ◌∙◌, subst, subst₂}
use mathlib.Core.Bool.{true≢false}
use Rattle.perm_values.specs.declared.kind.Kind.{Kind}
use Rattle.bag_algebra.proofs.Members.{from-filter}
use Rattle.bag_algebra.proofs.NeverBad.{good-query}
use Rattle.bag_algebra.proofs.Truths.{and_true, left-true, right-true}
use Rattle.bag_algebra.specs.Bags.{Row, Bag, once, union_of}
use Rattle.bag_algebra.specs.FaultFree.{faultless, items_faultless, fault_free}
use Rattle.bag_algebra.specs.Meaning.{Database, meaning, condition_on, items_on}
use Rattle.bag_algebra.specs.Means.{kept}
use Rattle.bag_algebra.specs.Means as means
use Rattle.bag_algebra.specs.Outcome.{Faults, Outcome, Good, Bad, is_good, and_then, mapped, both, both_then, gather, each}
use Rattle.bag_algebra.specs.Scoped.{no_subs}
use Rattle.bag_algebra.specs.built.Openings.{rows-with_lists}
use Rattle.bag_algebra.specs.built.Patterns.{BaseOf, FilterOf, ProjectOf, JoinOf, ApplyOf, UnionOf, IntersectOf, ExceptOf, DistinctOf, AggregateOf, LimitOf, ProvOf}
use Rattle.bag_algebra.specs.declared.expr.Expr.{Expr}
use Rattle.bag_algebra.specs.declared.expr.Item.{Item}
use Rattle.bag_algebra.specs.declared.query.JoinKind.TheVariants.{Inner, Left, Right, Full}
use Rattle.bag_algebra.specs.declared.query.Label.{Label}
use Rattle.bag_algebra.specs.declared.query.Query.{Query, end_of-Sublink}
use Rattle.bag_algebra.specs.declared.query.Query.TheVariants.{Table, Single}
use Rattle.contribution.proofs.Agreement.{union-comm}
use Rattle.contribution.proofs.NodeQueries.{meaning-projected, meaning-chosen, meaning-pairs}
use Rattle.contribution.proofs.SetsOfRows.{Below, below_good, below_bad, below_worse, included-trans, included-union, included-left, included-right}
use Rattle.contribution.proofs.SharedMembers.{Within}
use Rattle.query_facts.specs.monotone.Monotone.{is_monotone, is_relation, is_whole_table}
use Rattle.query_facts.proofs.Nodes.{whole_table-is}
use Rattle.delete_impact.proofs.Below.{gather-fewer, each-fewer, pairs-fewer, mapped-fewer, once-fewer, union-fewer, unpadded-fewer}
use Rattle.delete_impact.specs.reduced.Hiding.{hides_none}
use Rattle.delete_impact.proofs.ReducedRows.{none-denoted, pairs, filter-alone, project-alone, join-alone, part_of}

-- ---- outcomes

good_under : (o : Outcome Bag) (g : Faults) → is_good o ≡ true → Below o (Bad g)
good_under (Good us) g e = below_bad us g
good_under (Bad f) g e = absurd (true≢false (sym e))

-- where the greater outcome is bad, what is made of any rows is good
pub then-below : (f : Bag → Outcome Bag) → ((us vs : Bag) → Within us vs → Below (f us) (f vs)) → (o p : Outcome Bag) →
    ((is_good p ≡ true → ⊥) → (us : Bag) → is_good (f us) ≡ true) → Below o p → Below (and_then o f) (and_then p f)
then-below f next _ _ calm (below_good {us} {vs} s) = next us vs s
then-below f next _ _ calm (below_bad us g) = good_under (f us) g (calm (λ e. true≢false (sym e)) us)
then-below f next _ _ calm (below_worse s) = below_worse s

pub both-below : (f : Bag → Bag → Outcome Bag) → ((us vs xs ys : Bag) → Within us vs → Within xs ys → Below (f us xs) (f vs ys)) → (o p n q : Outcome Bag) →
    ((is_good p ≡ true → is_good q ≡ true → ⊥) → (us xs : Bag) → is_good (f us xs) ≡ true) → Below o p → Below n q → Below (both_then o n f) (both_then p q f)
both-below f next _ _ _ _ calm (below_good {us} {vs} s) (below_good {us = xs} {vs = ys} r) = next us vs xs ys s r
both-below f next _ _ _ _ calm (below_good {us} {vs} s) (below_bad xs h) = good_under (f us xs) h (calm (λ d e. true≢false (sym e)) us xs)
both-below f next _ _ _ _ calm (below_good {us} {vs} s) (below_worse r) = below_worse r
both-below f next _ _ _ _ calm (below_bad us g) (below_good {us = xs} {vs = ys} r) = good_under (f us xs) g (calm (λ d e. true≢false (sym d)) us xs)
both-below f next _ _ _ _ calm (below_bad us g) (below_bad xs h) = good_under (f us xs) _ (calm (λ d e. true≢false (sym d)) us xs)
both-below f next _ _ _ _ calm (below_bad us g) (below_worse {f = k} {g = h} r) = below_worse (included-trans r (included-right g h))
both-below f next _ _ _ _ calm (below_worse s) (below_good {us = xs} {vs = ys} r) = below_worse s
both-below f next _ _ _ _ calm (below_worse {f = k} {g} s) (below_bad xs h) = below_worse (included-trans s (included-left g h))
both-below f next _ _ _ _ calm (below_worse {f = k} {g} s) (below_worse {f = l} {g = h} r) =
    below_worse (included-union (included-trans s (included-left g h)) (included-trans r (included-right g h)))

both-is : (f : Bag → Bag → Bag) (o p : Outcome Bag) → both_then o p (λ us vs. Good (f us vs)) ≡ both f o p
both-is f (Good us) (Good vs) = refl
both-is f (Good us) (Bad g) = refl
both-is f (Bad g) (Good vs) = refl
both-is f (Bad g) (Bad h) = refl

-- beside something worse, what is below adds no fault
pub bad-above : (f : Bag → Bag → Bag) (o : Outcome Bag) (g : Faults) → Below o (Bad g) → both f (Bad g) o ≡ Bad g
bad-above f _ g (below_bad us h) = refl
bad-above f _ g (below_worse {f = k} s) = ap Bad (union-comm g k ∙ s.whole)

pub calm-first : (a b : Bool) → (a || b) ≡ true → (b ≡ true → ⊥) → a ≡ true
calm-first true b e bad = refl
calm-first false b e bad = absurd (bad e)

-- ---- what can meet no fault, on any rows

pub good-kept : (test : Expr) → faultless test ≡ true → (us : Bag) → is_good (gather (kept (condition_on test [] means.no_subs)) us) ≡ true
good-kept test free us =
    ap is_good (sym (meaning-chosen (Table 0 []) test (λ id. us) []))
    ∙ good-query (FilterOf (Table 0 []) test [] end_of-Sublink) (and_true (faultless test) ∙ free) (λ id. us) []

pub good-items : (items : List Item) → items_faultless items ≡ true → (us : Bag) → is_good (each (items_on items [] means.no_subs) us) ≡ true
good-items items free us =
    ap is_good (sym (meaning-projected (Table 0 []) items (λ id. us) []))
    ∙ good-query (ProjectOf (Table 0 []) items [] end_of-Sublink) (and_true (items_faultless items) ∙ free) (λ id. us) []

abbrev sides : Bag → Bag → Database
sides us vs zero = us
sides us vs (suc id) = vs

pub good-pairs : (test : Expr) → faultless test ≡ true → (us vs : Bag) → is_good (pairs test us vs) ≡ true
good-pairs test free us vs =
    ap is_good (sym (meaning-pairs Inner (Table 0 []) (Table 1 []) test (sides us vs) []))
    ∙ good-query (JoinOf Inner (Table 0 []) (Table 1 []) test [] end_of-Sublink) (and_true (faultless test) ∙ free) (sides us vs) []

-- ---- queries

pub united : (all : Bool) (left right : Query) (rows : Database) → meaning (UnionOf all left right) rows [] ≡ both_then (meaning left rows []) (meaning right rows []) (λ us vs. Good (union_of all us vs))
united all left right rows = rows-with_lists _ _ ∙ sym (both-is (union_of all) (meaning left rows []) (meaning right rows []))

pub each_once : (input : Query) (rows : Database) → meaning (DistinctOf input) rows [] ≡ mapped once (meaning input rows [])
each_once input rows = rows-with_lists _ _

module _ (db later : Database) (fewer : (id : ℕ) → Within (later id) (db id)) where
  source-below : (input : Query) (places : List ℕ) (label : Label) → ((id : ℕ) × (kinds : List Kind) × (input ≡ Table id kinds)) →
      Below (meaning (BaseOf input places label) later []) (meaning (BaseOf input places label) db [])
  source-below input places label table =
      subst (λ source. Below (meaning (BaseOf source places label) later []) (meaning (BaseOf source places label) db [])) (sym table.2) (below_good (fewer table.0))

  pub fewer-below : (q : Query) → is_monotone q ≡ true → hides_none q ≡ true → Below (meaning q later []) (meaning q db [])
  fewer-below (Table id kinds) m h = absurd (true≢false (sym m))
  fewer-below Single m h = below_good (record { within = λ t i. i })
  fewer-below (BaseOf input places label) m h =
      source-below input places label (whole_table-is input places (right-true (is_relation label) (is_whole_table input places) m))
  fewer-below (FilterOf input test form subs) m h =
      let none = left-true (no_subs subs) (is_monotone input) m in
      let calm = left-true (faultless test || fault_free input) (hides_none input) h in
      let on = kept (condition_on test [] means.no_subs) in
      subst₂ Below (sym (filter-alone later input test form subs (none-denoted subs later none))) (sym (filter-alone db input test form subs (none-denoted subs db none)))
      (then-below (gather on) (gather-fewer on) (meaning input later []) (meaning input db [])
      (λ bad. good-kept test (calm-first (faultless test) (fault_free input) calm (λ free. bad (good-query input free db []))))
      (fewer-below input (right-true (no_subs subs) (is_monotone input) m) (right-true (faultless test || fault_free input) (hides_none input) h)))
  fewer-below (ProjectOf input items form subs) m h =
      let none = left-true (no_subs subs) (is_monotone input) m in
      let calm = left-true (items_faultless items || fault_free input) (hides_none input) h in
      let on = items_on items [] means.no_subs in
      subst₂ Below (sym (project-alone later input items form subs (none-denoted subs later none))) (sym (project-alone db input items form subs (none-denoted subs db none)))
      (then-below (each on) (each-fewer on) (meaning input later []) (meaning input db [])
      (λ bad. good-items items (calm-first (items_faultless items) (fault_free input) calm (λ free. bad (good-query input free db []))))
      (fewer-below input (right-true (no_subs subs) (is_monotone input) m) (right-true (items_faultless items || fault_free input) (hides_none input) h)))
  fewer-below (JoinOf Inner left right test form subs) m h =
      let none = left-true (no_subs subs) (is_monotone left && is_monotone right) m in
      let sides = right-true (no_subs subs) (is_monotone left && is_monotone right) m in
      let calm = left-true (faultless test || (fault_free left && fault_free right)) (hides_none left && hides_none right) h in
      let shown = right-true (faultless test || (fault_free left && fault_free right)) (hides_none left && hides_none right) h in
      let on = condition_on test [] means.no_subs in
      subst₂ Below (sym (join-alone later left right test form subs (none-denoted subs later none))) (sym (join-alone db left right test form subs (none-denoted subs db none)))
      (both-below (pairs test) (λ us vs xs ys s r. mapped-fewer (λ rows. rows ++ [] ++ []) unpadded-fewer (pairs-fewer on us vs xs ys s r))
      (meaning left later []) (meaning left db []) (meaning right later []) (meaning right db [])
      (λ bad. good-pairs test (calm-first (faultless test) (fault_free left && fault_free right) calm (λ free.
      bad (good-query left (left-true (fault_free left) (fault_free right) free) db []) (good-query right (right-true (fault_free left) (fault_free right) free) db []))))
      (fewer-below left (left-true (is_monotone left) (is_monotone right) sides) (left-true (hides_none left) (hides_none right) shown))
      (fewer-below right (right-true (is_monotone left) (is_monotone right) sides) (right-true (hides_none left) (hides_none right) shown)))
  fewer-below (JoinOf Left left right test form subs) m h = absurd (true≢false (sym m))
  fewer-below (JoinOf Right left right test form subs) m h = absurd (true≢false (sym m))
  fewer-below (JoinOf Full left right test form subs) m h = absurd (true≢false (sym m))
  fewer-below (ApplyOf kind left right) m h = absurd (true≢false (sym m))
  fewer-below (UnionOf all left right) m h =
      subst₂ Below (sym (united all left right later)) (sym (united all left right db))
      (both-below (λ us vs. Good (union_of all us vs)) (λ us vs xs ys s r. below_good (union-fewer all us vs xs ys s r))
      (meaning left later []) (meaning left db []) (meaning right later []) (meaning right db []) (λ bad us xs. refl)
      (fewer-below left (left-true (is_monotone left) (is_monotone right) m) (left-true (hides_none left) (hides_none right) h))
      (fewer-below right (right-true (is_monotone left) (is_monotone right) m) (right-true (hides_none left) (hides_none right) h)))
  fewer-below (IntersectOf all left right) m h = absurd (true≢false (sym m))
  fewer-below (ExceptOf all left right) m h = absurd (true≢false (sym m))
  fewer-below (DistinctOf input) m h = subst₂ Below (sym (each_once input later)) (sym (each_once input db)) (mapped-fewer once once-fewer (fewer-below input m h))
  fewer-below (AggregateOf input groups aggregates) m h = absurd (true≢false (sym m))
  fewer-below (LimitOf input keys count) m h = absurd (true≢false (sym m))
  fewer-below (ProvOf input) m h = absurd (true≢false (sym m))

-- ---- over a part of a table

where-fewer : (over : Bool) (passes : Row → Bool) (us : Bag) → Within (cond over (filter passes us) us) us
where-fewer true passes us = record { within = λ t h. (from-filter passes t us h).0 }
where-fewer false passes us = record { within = λ t h. h }

pub fewer-part : (id : ℕ) (passes : Row → Bool) (db : Database) (other : ℕ) → Within (part_of id passes db other) (db other)
fewer-part id passes db other = where-fewer (other == id) passes (db other)
