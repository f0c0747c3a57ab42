-- What stands below the projections, the DISTINCTs and the groups of a query gives the lists that the query gives, and has its places and its
-- tables.
use Rattle.std.proofs.Common.{◌≡◌, ℕ, suc, ◌+◌, ◌≤◌, Bool, true, false, cond, List, [], ◌++◌, map, append-nil, refl, sym, ap, ◌∙◌, subst, arith, true≢false}
use Rattle.perm_values.specs.declared.kind.Kind.{Kind}
use Rattle.bag_algebra.proofs.Members.{IsIn}
use Rattle.bag_algebra.proofs.Outcomes.{mapped-is, then-is}
use Rattle.bag_algebra.specs.Bags.{Row, Bag, once}
use Rattle.bag_algebra.specs.built.Openings.{rows-with_lists}
use Rattle.bag_algebra.specs.built.Patterns.{BaseOf, FilterOf, ProjectOf, JoinOf, ApplyOf, UnionOf, IntersectOf, ExceptOf, DistinctOf, AggregateOf, LimitOf, ProvOf}
use Rattle.bag_algebra.specs.Kinds.{shape, sub_shape}
use Rattle.bag_algebra.specs.Meaning.{Database, denote, meaning, sub_denote, items_on, arguments_on}
use Rattle.bag_algebra.specs.Means.{Means, SubMeans, Witness, all_empty, good_rows, no_subs, project_means, grouped}
use Rattle.bag_algebra.specs.Measures.{size_of, sub_size}
use Rattle.bag_algebra.specs.Outcome.{Good, and_then, mapped, each}
use Rattle.bag_algebra.specs.Scoped.{no_subs as has_none}
use Rattle.bag_algebra.specs.TablesRead.{EachTable}
use Rattle.bag_algebra.specs.WellFormed.{WellFormed}
use Rattle.bag_algebra.specs.declared.query.Aggr.{Aggr}
use Rattle.bag_algebra.specs.declared.query.Query.{Query, Row_of-Sublink, more_of-Sublink, end_of-Sublink}
use Rattle.bag_algebra.specs.declared.query.Query.TheVariants.{Table, Single}
use Rattle.contribution.proofs.ListedRows.{only_rows}
use Rattle.rewrite_move.proofs.GivenLists.{GiveAlike, projection-gives, distinct-gives, groups-give}
use Rattle.rewrite_move.specs.Traced.{below_groups}

-- ---- no sublinks

none-shape : {m : _} (subs : Row_of-Sublink m) → has_none subs ≡ true → sub_shape subs ≡ []
none-shape end_of-Sublink e = refl
none-shape (more_of-Sublink kind tested query subs) e = absurd (true≢false (sym e))

none-denote : {m : _} (subs : Row_of-Sublink m) (db : Database) (env : List Row) → has_none subs ≡ true → sub_denote subs db env ≡ no_subs
none-denote end_of-Sublink db env e = refl
none-denote (more_of-Sublink kind tested query subs) db env e = absurd (true≢false (sym e))

-- ---- the places

pub shape-below : (q : Query) → shape (below_groups q) ≡ shape q
shape-below (Table id kinds) = refl
shape-below Single = refl
shape-below (BaseOf input places label) = refl
shape-below (FilterOf input condition form subs) = refl
shape-below (JoinOf kind left right condition form subs) = refl
shape-below (ApplyOf kind left right) = refl
shape-below (UnionOf all left right) = refl
shape-below (IntersectOf all left right) = refl
shape-below (ExceptOf all left right) = refl
shape-below (LimitOf input keys count) = refl
shape-below (ProvOf input) = refl
shape-below (ProjectOf input items form subs) = by_subs (shape-below input) (has_none subs) refl where
  by_subs : shape (below_groups input) ≡ shape input → (b : Bool) → has_none subs ≡ b →
      shape (cond b (below_groups input) (ProjectOf input items form subs)) ≡ shape input ++ sub_shape subs
  by_subs below true e = below ∙ sym (append-nil (shape input)) ∙ ap (λ places. shape input ++ places) (sym (none-shape subs e))
  by_subs below false e = refl
shape-below (DistinctOf input) = shape-below input
shape-below (AggregateOf input groups aggregates) = shape-below input

-- ---- the lists

give-itself : (m : Means) (blank : Witness) → GiveAlike m m blank
give-itself m blank = record { there = λ c g. g; back = λ c g. g }

give-onward : {m n o : Means} {blank : Witness} → GiveAlike m n blank → GiveAlike n o blank → GiveAlike m o blank
give-onward g h = record { there = λ c x. h.there c (g.there c x); back = λ c x. g.back c (h.back c x) }

-- what a query that is good gives, and what is good below it
pub record Below (q p : Query) (db : Database) (env : List Row) : Type 0 where
  pub bag : Bag
  pub good : meaning p db env ≡ Good bag
  pub alike : GiveAlike (denote q db env) (denote p db env) (all_empty (shape q))

module _ (db : Database) (env : List Row) where
  -- the lists of a good query are those of its rows
  within : (input : Query) (us : Bag) → meaning input db env ≡ Good us → (t : Row) (w : Witness) → IsIn w ((denote input db env).lists t) → IsIn t us
  within input us good t w h = subst (λ o. IsIn t (good_rows o)) good ((only_rows input db env).row t w h)

  same-below : (q : Query) (bag : Bag) → meaning q db env ≡ Good bag → Below q q db env
  same-below q bag good = record { bag = bag; good = good; alike = give-itself (denote q db env) (all_empty (shape q)) }

  -- a node that gives what its input gives
  node-below : (q input p : Query) → shape q ≡ shape input → GiveAlike (denote q db env) (denote input db env) (all_empty (shape input)) → Below input p db env → Below q p db env
  node-below q input p same alike below = record {
    bag = below.bag;
    good = below.good;
    alike = subst (λ places. GiveAlike (denote q db env) (denote p db env) (all_empty places)) (sym same) (give-onward alike below.alike);
  }

  pub lists-below : (q : Query) (bag : Bag) → meaning q db env ≡ Good bag → Below q (below_groups q) db env
  lists-below (Table id kinds) bag good = same-below (Table id kinds) bag good
  lists-below Single bag good = same-below Single bag good
  lists-below (BaseOf input places label) bag good = same-below (BaseOf input places label) bag good
  lists-below (FilterOf input condition form subs) bag good = same-below (FilterOf input condition form subs) bag good
  lists-below (JoinOf kind left right condition form subs) bag good = same-below (JoinOf kind left right condition form subs) bag good
  lists-below (ApplyOf kind left right) bag good = same-below (ApplyOf kind left right) bag good
  lists-below (UnionOf all left right) bag good = same-below (UnionOf all left right) bag good
  lists-below (IntersectOf all left right) bag good = same-below (IntersectOf all left right) bag good
  lists-below (ExceptOf all left right) bag good = same-below (ExceptOf all left right) bag good
  lists-below (LimitOf input keys count) bag good = same-below (LimitOf input keys count) bag good
  lists-below (ProvOf input) bag good = same-below (ProvOf input) bag good
  lists-below (ProjectOf input items form subs) bag good = by_subs (lists-below input) (has_none subs) refl where
    by_subs : ((us : Bag) → meaning input db env ≡ Good us → Below input (below_groups input) db env) → (b : Bool) → has_none subs ≡ b →
        Below (ProjectOf input items form subs) (cond b (below_groups input) (ProjectOf input items form subs)) db env
    by_subs below false e = same-below (ProjectOf input items form subs) bag good
    by_subs below true e =
        let without : sub_denote subs db env ≡ no_subs = none-denote subs db env e in
        let is : denote (ProjectOf input items form subs) db env ≡ project_means (items_on items env no_subs) (λ u. []) (denote input db env) =
        ap (λ (s : SubMeans). project_means (items_on items env s) s.contributions (denote input db env)) without in
        let first = then-is (meaning input db env) (each (items_on items env no_subs)) bag
        (sym (rows-with_lists (and_then (meaning input db env) (each (items_on items env no_subs))) _) ∙ ap (λ (m : Means). m.rows) (sym is) ∙ good) in
        node-below (ProjectOf input items form subs) input (below_groups input)
        (ap (λ places. shape input ++ places) (none-shape subs e) ∙ append-nil (shape input))
        (subst (λ (m : Means). GiveAlike m (denote input db env) (all_empty (shape input))) (sym is)
        (projection-gives (denote input db env) (all_empty (shape input)) first.0 first.1 (within input first.0 first.1) (items_on items env no_subs) bag first.2))
        (below first.0 first.1)
  lists-below (DistinctOf input) bag good =
      let first = mapped-is once (meaning input db env) bag (sym (rows-with_lists (mapped once (meaning input db env)) _) ∙ good) in
      node-below (DistinctOf input) input (below_groups input) refl
      (distinct-gives (denote input db env) (all_empty (shape input)) first.0 first.1 (within input first.0 first.1))
      (lists-below input first.0 first.1)
  lists-below (AggregateOf input groups aggregates) bag good =
      let functions = map (λ (aggregate : Aggr). aggregate.function) aggregates in
      let arguments = arguments_on aggregates env in
      let first = then-is (meaning input db env) (grouped groups functions arguments) bag
      (sym (rows-with_lists (and_then (meaning input db env) (grouped groups functions arguments)) _) ∙ good) in
      node-below (AggregateOf input groups aggregates) input (below_groups input) refl
      (groups-give (denote input db env) (all_empty (shape input)) first.0 first.1 (within input first.0 first.1) groups functions arguments bag first.2)
      (lists-below input first.0 first.1)

-- ---- form, tables and size

pub formed-below : (scopes : List (List Kind)) (q : Query) → WellFormed scopes q → WellFormed scopes (below_groups q)
formed-below scopes (Table id kinds) f = f
formed-below scopes Single f = f
formed-below scopes (BaseOf input places label) f = f
formed-below scopes (FilterOf input condition form subs) f = f
formed-below scopes (JoinOf kind left right condition form subs) f = f
formed-below scopes (ApplyOf kind left right) f = f
formed-below scopes (UnionOf all left right) f = f
formed-below scopes (IntersectOf all left right) f = f
formed-below scopes (ExceptOf all left right) f = f
formed-below scopes (LimitOf input keys count) f = f
formed-below scopes (ProvOf input) f = f
formed-below scopes (ProjectOf input items form subs) f = by_subs (formed-below scopes input f.input) (has_none subs) where
  by_subs : WellFormed scopes (below_groups input) → (b : Bool) → WellFormed scopes (cond b (below_groups input) (ProjectOf input items form subs))
  by_subs below true = below
  by_subs below false = f
formed-below scopes (DistinctOf input) f = formed-below scopes input f
formed-below scopes (AggregateOf input groups aggregates) f = formed-below scopes input f.input

pub tables-below : (P : ℕ → List Kind → Type 0) (q : Query) → EachTable P q → EachTable P (below_groups q)
tables-below P (Table id kinds) h = h
tables-below P Single h = h
tables-below P (BaseOf input places label) h = h
tables-below P (FilterOf input condition form subs) h = h
tables-below P (JoinOf kind left right condition form subs) h = h
tables-below P (ApplyOf kind left right) h = h
tables-below P (UnionOf all left right) h = h
tables-below P (IntersectOf all left right) h = h
tables-below P (ExceptOf all left right) h = h
tables-below P (LimitOf input keys count) h = h
tables-below P (ProvOf input) h = h
tables-below P (ProjectOf input items form subs) h = by_subs (tables-below P input h.0) (has_none subs) where
  by_subs : EachTable P (below_groups input) → (b : Bool) → EachTable P (cond b (below_groups input) (ProjectOf input items form subs))
  by_subs below true = below
  by_subs below false = h
tables-below P (DistinctOf input) h = tables-below P input h
tables-below P (AggregateOf input groups aggregates) h = tables-below P input h

pub size-below : (q : Query) → size_of (below_groups q) ≤ size_of q
size-below (Table id kinds) = omega arith
size-below Single = omega arith
size-below (BaseOf input places label) = omega arith
size-below (FilterOf input condition form subs) = omega arith
size-below (JoinOf kind left right condition form subs) = omega arith
size-below (ApplyOf kind left right) = omega arith
size-below (UnionOf all left right) = omega arith
size-below (IntersectOf all left right) = omega arith
size-below (ExceptOf all left right) = omega arith
size-below (LimitOf input keys count) = omega arith
size-below (ProvOf input) = omega arith
size-below (ProjectOf input items form subs) = by_subs (size-below input) (has_none subs) where
  by_subs : size_of (below_groups input) ≤ size_of input → (b : Bool) →
      size_of (cond b (below_groups input) (ProjectOf input items form subs)) ≤ suc (size_of input + sub_size subs)
  by_subs below true = omega (arith, below)
  by_subs below false = omega arith
size-below (DistinctOf input) = let below = size-below input in omega (arith, below)
size-below (AggregateOf input groups aggregates) = let below = size-below input in omega (arith, below)
