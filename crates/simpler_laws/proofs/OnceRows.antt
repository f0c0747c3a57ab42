-- DISTINCT over what has no row twice changes nothing.
use Rattle.std.proofs.Common.{◌≡◌, ℕ, zero, suc, ◌<◌, ◌≤◌, Bool, true, false, cond, not, List, [], ◌++◌, filter, map, Decides, refl, sym, ◌∙◌, subst, true≢false, arith}
use Rattle.std.specs.Prelude.{⊤}
use Rattle.perm_values.specs.Rows.{same_row}
use Rattle.bag_algebra.proofs.BagLaws.{count-once, member_decides, at_most_one}
use Rattle.bag_algebra.proofs.TablesRead.{reads_among-itself}
use Rattle.bag_algebra.specs.Bags.{Row, Bag, count, member, once, union_of, intersect_of, except_of}
use Rattle.bag_algebra.specs.Meaning.{Database, meaning, arguments_on}
use Rattle.bag_algebra.specs.Means.{grouped}
use Rattle.bag_algebra.specs.Outcome.{Outcome, Good, Bad, and_then, mapped, both}
use Rattle.bag_algebra.specs.Rewriting.{is_plain, SameRows, Stands}
use Rattle.bag_algebra.specs.TablesRead.{tables_read}
use Rattle.bag_algebra.specs.built.Forms.{EachTable-Distinct, WellFormed-Distinct}
use Rattle.bag_algebra.specs.built.Openings.{kinds_of-Distinct, Union-is, Intersect-is, Except-is, Distinct-is, Aggregate-is, meaning-Union, meaning-Intersect, meaning-Except, meaning-Distinct, meaning-Aggregate}
use Rattle.bag_algebra.specs.built.Patterns.{BaseOf, FilterOf, ProjectOf, JoinOf, ApplyOf, UnionOf, IntersectOf, ExceptOf, DistinctOf, AggregateOf, LimitOf, ProvOf}
use Rattle.bag_algebra.specs.declared.query.AggFn.{AggFn}
use Rattle.bag_algebra.specs.declared.query.Aggr.{Aggr}
use Rattle.bag_algebra.specs.declared.query.Query.{Query}
use Rattle.bag_algebra.specs.declared.query.Query.TheVariants.{Table, Single, Distinct, Union, Intersect, Except, Aggregate}
use Rattle.query_laws.proofs.Grouped.{grouped-law}
use Rattle.query_laws.proofs.StandingNodes.{stands-Distinct}
use Rattle.rewrite_core.proofs.Itself.{stands-onward}
use Rattle.simpler_laws.specs.merged.Once.{gives_once}
use Rattle.std.specs.Prelude.{Contains}
use Rattle.perm_values.proofs.Steps.{by}

-- ---- bags

counted : (b : Bool) (n : ℕ) → Decides b (0 < n) → n ≤ 1 → cond b 1 0 ≡ n
counted true zero d h = absurd (let k : 0 < zero = d.0 refl in omega arith)
counted true (suc n) d h = omega arith
counted false zero d h = refl
counted false (suc n) d h = absurd (true≢false (sym (d.1 (omega arith))))

abbrev NoneTwice : Outcome Bag → Type 0
NoneTwice (Good us) = (t : Row) → count t us ≤ 1
NoneTwice (Bad faults) = ⊤

distinct-same : (o : Outcome Bag) → NoneTwice o → SameRows (mapped once o) o
distinct-same (Good us) h = record { counts = λ t. count-once t us ∙ counted (member t us) (count t us) (member_decides t us) (h t) }
distinct-same (Bad faults) h = refl

once-none_twice : (us : Bag) (t : Row) → count t (once us) ≤ 1
once-none_twice us t = subst (λ n. n ≤ 1) (sym (count-once t us)) (at_most_one (member t us))

distinct-none_twice : (o : Outcome Bag) → NoneTwice (mapped once o)
distinct-none_twice (Good us) = once-none_twice us
distinct-none_twice (Bad faults) = tt

both-none_twice : (f : Bag → Bag → Bag) → ((us vs : Bag) (t : Row) → count t (f us vs) ≤ 1) → (o p : Outcome Bag) → NoneTwice (both f o p)
both-none_twice f h (Good us) (Good vs) = h us vs
both-none_twice f h (Good us) (Bad g) = tt
both-none_twice f h (Bad g) (Good vs) = tt
both-none_twice f h (Bad g) (Bad k) = tt

module _ (groups : List ℕ) (functions : List AggFn) (arguments : Row → Outcome Row) where
  groups-none_twice : (us : Bag) (answer : Outcome Bag) → and_then (Good us) (grouped groups functions arguments) ≡ answer → NoneTwice answer
  groups-none_twice us (Good ts) e = ((grouped-law groups functions arguments (Good us)).rows us ts refl e).once
  groups-none_twice us (Bad faults) e = tt

  aggregate-none_twice : (o : Outcome Bag) → NoneTwice (and_then o (grouped groups functions arguments))
  aggregate-none_twice (Good us) = groups-none_twice us (and_then (Good us) (grouped groups functions arguments)) refl
  aggregate-none_twice (Bad faults) = tt

-- ---- queries

module _ (db : Database) (env : List Row) where
  of_made : (made q : Query) → made ≡ q → NoneTwice (meaning made db env) → NoneTwice (meaning q db env)
  of_made made q is h = subst (λ n. NoneTwice (meaning n db env)) is h

  none_twice : (q : Query) → gives_once q ≡ true → NoneTwice (meaning q db env)
  none_twice (Table id kinds) h = absurd (true≢false (sym h))
  none_twice Single h = λ t. at_most_one (same_row [] t)
  none_twice (BaseOf input places label) h = absurd (true≢false (sym h))
  none_twice (FilterOf input condition _ subs) h = absurd (true≢false (sym h))
  none_twice (ProjectOf input items _ subs) h = absurd (true≢false (sym h))
  none_twice (JoinOf kind left right condition _ subs) h = absurd (true≢false (sym h))
  none_twice (ApplyOf kind left right) h = absurd (true≢false (sym h))
  none_twice (UnionOf true left right) h = absurd (true≢false (sym h))
  none_twice (UnionOf false left right) h =
      of_made (Union false left right) (UnionOf false left right) (Union-is false left right)
      (subst NoneTwice (sym (meaning-Union db env false left right))
      (both-none_twice (union_of false) (λ us vs. once-none_twice (us ++ vs)) (meaning left db env) (meaning right db env)))
  none_twice (IntersectOf true left right) h = absurd (true≢false (sym h))
  none_twice (IntersectOf false left right) h =
      of_made (Intersect false left right) (IntersectOf false left right) (Intersect-is false left right)
      (subst NoneTwice (sym (meaning-Intersect db env false left right))
      (both-none_twice (intersect_of false) (λ us vs. once-none_twice (filter (λ u. member u vs) us)) (meaning left db env) (meaning right db env)))
  none_twice (ExceptOf true left right) h = absurd (true≢false (sym h))
  none_twice (ExceptOf false left right) h =
      of_made (Except false left right) (ExceptOf false left right) (Except-is false left right)
      (subst NoneTwice (sym (meaning-Except db env false left right))
      (both-none_twice (except_of false) (λ us vs. once-none_twice (filter (λ u. not (member u vs)) us)) (meaning left db env) (meaning right db env)))
  none_twice (DistinctOf input) h =
      of_made (Distinct input) (DistinctOf input) (Distinct-is input)
      (subst NoneTwice (sym (meaning-Distinct db env input)) (distinct-none_twice (meaning input db env)))
  none_twice (AggregateOf input groups aggregates) h =
      of_made (Aggregate input groups aggregates) (AggregateOf input groups aggregates) (Aggregate-is input groups aggregates)
      (subst NoneTwice (sym (meaning-Aggregate db env input groups aggregates))
      (aggregate-none_twice groups (map (λ (aggregate : Aggr). aggregate.function) aggregates) (arguments_on aggregates env) (meaning input db env)))
  none_twice (LimitOf input keys count) h = absurd (true≢false (sym h))
  none_twice (ProvOf input) h = absurd (true≢false (sym h))

undistinct : (b : Query) → is_plain b ≡ true → gives_once b ≡ true → Stands (Distinct b) b
undistinct b plain h = record {
  plain = plain;
  kinds = λ outer f. sym (kinds_of-Distinct b);
  formed = λ outer f. by (WellFormed-Distinct outer b) f;
  tables = by (EachTable-Distinct (λ id kinds. Contains (tables_read (Distinct b)) (record { id = id; kinds = kinds })) b) (reads_among-itself (Distinct b));
  rows = λ outer db env f k e.
      subst (λ o. SameRows o (meaning b db env)) (sym (meaning-Distinct db env b)) (distinct-same (meaning b db env) (none_twice db env b h));
}

-- what stands for the input stands for the DISTINCT over it
pub stands-once : (q b : Query) → gives_once b ≡ true → Stands q b → Stands (Distinct q) b
stands-once q b h s = stands-onward (Distinct q) (Distinct b) b (stands-Distinct q b s) (undistinct b s.plain h)
