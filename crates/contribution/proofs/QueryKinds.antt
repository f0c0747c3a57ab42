-- Every row of a good answer has the query's kinds, and every witness list fits the query's places.
use Rattle.std.proofs.Common.{◌≡◌, suc, true, List, [], ◌∷◌, ◌++◌, map, length, All, Contains, Option, Some, None, refl, sym, subst, arith}
use Rattle.std.specs.Prelude.{⊤}
use Rattle.std.specs.List.{flat_map}
use Rattle.perm_values.specs.Rows.{row_fits}
use Rattle.perm_values.specs.Values.{fits}
use Rattle.perm_values.specs.declared.kind.Kind.{Kind}
use Rattle.perm_values.specs.declared.value.Value.{Value}
use Rattle.bag_algebra.specs.Bags.{Row, Bag}
use Rattle.bag_algebra.specs.Expressions.{value}
use Rattle.bag_algebra.specs.Fits.{bag_fits, row_begins, env_fits, TablesFit, SubTablesFit}
use Rattle.bag_algebra.specs.Kinds.{kind_in, kinds_of, shape, sub_shape, width_of}
use Rattle.bag_algebra.specs.Meaning.{Database, denote, sub_denote, meaning, witnesses, optional_value, condition_on, items_on, arguments_on}
use Rattle.bag_algebra.specs.Means.{Witness, Means, SubMeans, no_subs, with_sub, all_empty, good_rows, good_value, scalar, sub_value, chosen, contribution_of, is_some_row, some_of, all_of, comparisons, filter_means, join_means}
use Rattle.bag_algebra.specs.Outcome.{Outcome, Good, both_then, each}
use Rattle.bag_algebra.specs.built.Patterns.{BaseOf, FilterOf, ProjectOf, JoinOf, ApplyOf, UnionOf, IntersectOf, ExceptOf, DistinctOf, AggregateOf, LimitOf, ProvOf}
use Rattle.bag_algebra.specs.WellFormed.{HasKind, ItemsForm, aggr_form, AggregatesForm, sub_kind, sub_kinds, WellFormed, SubsForm}
use Rattle.bag_algebra.specs.declared.expr.Expr.{Expr}
use Rattle.bag_algebra.specs.declared.expr.Item.{Item}
use Rattle.bag_algebra.specs.declared.place.Place.{Place}
use Rattle.bag_algebra.specs.declared.query.AggFn.{AggFn}
use Rattle.bag_algebra.specs.declared.query.AggFn.TheVariants as function
use Rattle.bag_algebra.specs.declared.query.Aggr.{Aggr}
use Rattle.bag_algebra.specs.declared.query.JoinKind.{JoinKind}
use Rattle.bag_algebra.specs.declared.query.Query.{Query, Row_of-Sublink, more_of-Sublink, end_of-Sublink}
use Rattle.bag_algebra.specs.declared.query.Query.TheVariants.{Table, Single}
use Rattle.bag_algebra.specs.declared.query.SubKind.{SubKind}
use Rattle.bag_algebra.specs.declared.query.SubKind.TheVariants as sub
use Rattle.contribution.proofs.GroupKinds.{GivesNumber, ArgumentFits, ArgumentsFrom, arguments-behind, NumbersGiven, aggregate_means-fit}
use Rattle.contribution.proofs.NodeKinds.{ContributionsOn, unlisted_means-fit, base_means-fit, filter_means-fit, project_means-fit, join_means-fit, apply_means-fit, union_means-fit, intersect_means-fit, except_means-fit, distinct_means-fit, limit_means-fit, provenance_means-fit}
use Rattle.contribution.proofs.RowKinds.{RowFits, BagFits, ListsFit, MeansFit, row_fits-length, value_at-fits, all_empty-fits, fits_places-append, one-fits, lists_fit-flat_map, lists_fit-where, no_sublink, next_sublink}
use Rattle.bag_algebra.proofs.MembersByIndex.{in-from_contains, all-from_in}
use Rattle.contribution.proofs.ValueKinds.{Fits, GoodFits, null-fits, truth-fits, boolean-fits, fits-begins, value-fits}
use Rattle.contribution.proofs.WhereGood.{WhereGood, Every, any_value, each-in, good-and_then, good-both, good-both_then}
use Rattle.contribution.specs.Fitting.{Fitting}
use Rattle.contribution.specs.FitsPlaces.{FitsPlaces, no_place}
use Rattle.std.proofs.lemmas.Bool.{and_parts, and_from}

-- ---- std's words

pub each-all : {X : Type 0} (P : X → Type 0) (xs : List X) → All P xs → Every P xs
each-all P [] h = tt
each-all P (x ∷ xs) h = (h 0 x (omega arith), each-all P xs (λ k d i. h (suc k) d (omega arith)))

-- ---- expressions on a row of a node's input

-- the rows that a node's expressions see fit its scopes
pub record Seen (kinds : List Kind) (outer : List (List Kind)) (env : List Row) (u : Row) : Type 0 where
  pub fitting : env_fits (u ∷ env) (kinds ∷ outer) ≡ true

pub seen-row : (kinds : List Kind) (outer : List (List Kind)) (env : List Row) (u : Row) → env_fits env outer ≡ true → RowFits kinds u →
    Seen kinds outer env u
seen-row kinds outer env u e f = record { fitting = and_from (row_begins u kinds) (env_fits env outer) (fits-begins u kinds f.fit) e }

optional_value-fits : (part : Expr) (k : Kind) (kinds : List Kind) (outer : List (List Kind)) (env : List Row) (u : Row) → Seen kinds outer env u →
    HasKind (kinds ∷ outer) [] part k →
    GoodFits k (optional_value (Some part) env u)
optional_value-fits part k kinds outer env u s form = value-fits (kinds ∷ outer) [] u env [] s.fitting refl part k form

-- ---- sublinks

-- the values of a node's sublinks have their kinds, and their contributions fit their places
pub record SubsFit (kinds : List Kind) (places : List Place) (answer_kinds : List Kind) (s : SubMeans) : Type 0 where
  pub answers : (u : Row) → RowFits kinds u → WhereGood (RowFits answer_kinds) (s.answers u)
  pub contributions : ContributionsOn kinds places s.contributions
  pub blank : FitsPlaces places s.blank

pub no_subs-fit : (kinds : List Kind) → SubsFit kinds [] [] no_subs
no_subs-fit kinds = record { answers = λ u f. record { fit = refl }; contributions = record { on = λ u f. no_sublink }; blank = no_place }

scalar-fits : (kinds : List Kind) (bag : Bag) → BagFits kinds bag → GoodFits (kind_in kinds 0) (scalar bag)
scalar-fits kinds [] h = null-fits (kind_in kinds 0)
scalar-fits kinds (row ∷ []) h = value_at-fits row kinds 0 (h.0).fit
scalar-fits kinds (row ∷ other ∷ rows) h = tt

sub_value-fits : (kind : SubKind) (x : Value) (kinds : List Kind) (bag : Bag) → BagFits kinds bag →
    GoodFits (sub_kind kind kinds) (sub_value kind x bag)
sub_value-fits sub.Exists x kinds bag h = boolean-fits (is_some_row bag)
sub_value-fits (sub.Any c) x kinds bag h = truth-fits (some_of (comparisons c x bag))
sub_value-fits (sub.All c) x kinds bag h = truth-fits (all_of (comparisons c x bag))
sub_value-fits sub.Scalar x kinds bag h = scalar-fits kinds bag h

pub contribution_of-fits : {kinds : List Kind} {places : List Place} (blank : Witness) (kind : SubKind) (x : Value) (m : Means) →
    FitsPlaces places blank → MeansFit kinds places m →
    ListsFit places (contribution_of blank kind x m)
contribution_of-fits {kinds} {places} blank kind x m b f =
    lists_fit-where (is_some_row (good_rows m.rows)) (flat_map m.lists (chosen kind x (good_rows m.rows))) (blank ∷ [])
    (lists_fit-flat_map m.lists (chosen kind x (good_rows m.rows)) (λ u i. f.lists u)) (one-fits places blank b)

pub with_sub-fit : {kinds query_kinds answer_kinds : List Kind} {query_places places : List Place} (kind : SubKind) (tested : Row → Outcome Value) (m : Row → Means) (blank : Witness) (s : SubMeans) →
    FitsPlaces query_places blank → ((u : Row) → RowFits kinds u → MeansFit query_kinds query_places (m u)) → SubsFit kinds places answer_kinds s →
    SubsFit kinds (query_places ++ places) (sub_kind kind query_kinds ∷ answer_kinds) (with_sub kind tested m blank s)
with_sub-fit {kinds} {query_kinds} {answer_kinds} kind tested m blank s b f more = record {
  answers = λ u g.
      good-both (Fits (sub_kind kind query_kinds)) (RowFits answer_kinds) (RowFits (sub_kind kind query_kinds ∷ answer_kinds)) (λ v vs. v ∷ vs)
      (both_then (tested u) (m u).rows (sub_value kind)) (s.answers u)
      (good-both_then (λ x. ⊤) (BagFits query_kinds) (Fits (sub_kind kind query_kinds)) (tested u) (m u).rows (sub_value kind) (any_value (tested u)) (f u g).rows
      (λ x bag _ h. sub_value-fits kind x query_kinds bag h))
      (more.answers u g) (λ v vs h i. record { fit = and_from (fits v (sub_kind kind query_kinds)) (row_fits vs answer_kinds) h.fit i.fit });
  contributions = record { on = λ u g. next_sublink (contribution_of-fits blank kind (good_value (tested u)) (m u) b (f u g)) (more.contributions.on u g) };
  blank = fits_places-append b more.blank;
}

-- ---- items and arguments

items-fit : (scopes : List (List Kind)) (answer_kinds : List Kind) (u : Row) (env : List Row) (answers : List Value) →
    env_fits (u ∷ env) scopes ≡ true → row_fits answers answer_kinds ≡ true →
    (items : List Item) → Every (λ (item : Item). HasKind scopes answer_kinds item.expr item.kind) items →
    WhereGood (RowFits (map (λ (item : Item). item.kind) items)) (each (λ (item : Item). value item.expr u env answers) items)
items-fit scopes answer_kinds u env answers e a [] h = record { fit = refl }
items-fit scopes answer_kinds u env answers e a (item ∷ items) h =
    good-both (Fits item.kind) (RowFits (map (λ (item : Item). item.kind) items)) (RowFits (item.kind ∷ map (λ (item : Item). item.kind) items)) (λ v vs. v ∷ vs)
    (value item.expr u env answers) (each (λ (item : Item). value item.expr u env answers) items)
    (value-fits scopes answer_kinds u env answers e a item.expr item.kind h.0) (items-fit scopes answer_kinds u env answers e a items h.1)
    (λ v vs f g. record { fit = and_from (fits v item.kind) (row_fits vs (map (λ (item : Item). item.kind) items)) f.fit g.fit })

items_on-fit : {places : List Place} (items : List Item) (kinds : List Kind) (outer : List (List Kind)) (answer_kinds : List Kind) (env : List Row) (s : SubMeans) →
    ItemsForm (kinds ∷ outer) answer_kinds items → env_fits env outer ≡ true → SubsFit kinds places answer_kinds s →
    (u : Row) → RowFits kinds u → WhereGood (RowFits (map (λ (item : Item). item.kind) items)) (items_on items env s u)
items_on-fit items kinds outer answer_kinds env s form e f u g =
    good-and_then (RowFits answer_kinds) (RowFits (map (λ (item : Item). item.kind) items)) (s.answers u) (λ answers. each (λ (item : Item). value item.expr u env answers) items)
    (f.answers u g) (λ answers h. items-fit (kinds ∷ outer) answer_kinds u env answers (seen-row kinds outer env u e g).fitting h.fit items (each-all _ items form))

number_given : (function : AggFn) (argument : Option Expr) (scopes : List (List Kind)) (k : Kind) → aggr_form function argument scopes k →
    GivesNumber function k
number_given function.CountRows None scopes k h = h
number_given function.CountRows (Some argument) scopes k h = absurd h
number_given function.Count None scopes k h = absurd h
number_given function.Count (Some argument) scopes k h = h.gives
number_given function.CountDistinct None scopes k h = absurd h
number_given function.CountDistinct (Some argument) scopes k h = h.gives
number_given function.Sum None scopes k h = absurd h
number_given function.Sum (Some argument) scopes k h = h.1
number_given function.Min argument scopes k h = tt
number_given function.Max argument scopes k h = tt

numbers_given : (scopes : List (List Kind)) (aggregates : List Aggr) → AggregatesForm scopes aggregates → NumbersGiven aggregates
numbers_given scopes aggregates form = record { given = at aggregates (each-all _ aggregates form) } where
  at : (aggregates : List Aggr) → Every (λ (aggregate : Aggr). aggr_form aggregate.function aggregate.argument scopes aggregate.kind) aggregates →
      Every (λ (aggregate : Aggr). GivesNumber aggregate.function aggregate.kind) aggregates
  at [] h = tt
  at (aggregate ∷ aggregates) h = (number_given aggregate.function aggregate.argument scopes aggregate.kind h.0, at aggregates h.1)

module _ (kinds : List Kind) (outer : List (List Kind)) (env : List Row) (u : Row) (s : Seen kinds outer env u) where
  argument-fits : (function : AggFn) (argument : Option Expr) (k : Kind) → aggr_form function argument (kinds ∷ outer) k →
      WhereGood (ArgumentFits function k) (optional_value argument env u)
  argument-fits function.CountRows argument k h = any_value (optional_value argument env u)
  argument-fits function.Count argument k h = any_value (optional_value argument env u)
  argument-fits function.CountDistinct argument k h = any_value (optional_value argument env u)
  argument-fits function.Sum argument k h = any_value (optional_value argument env u)
  argument-fits function.Min None k h = absurd h
  argument-fits function.Min (Some argument) k h = optional_value-fits argument k kinds outer env u s h.0
  argument-fits function.Max None k h = absurd h
  argument-fits function.Max (Some argument) k h = optional_value-fits argument k kinds outer env u s h.0

  arguments-fit : (aggregates : List Aggr) →
      Every (λ (aggregate : Aggr). aggr_form aggregate.function aggregate.argument (kinds ∷ outer) aggregate.kind) aggregates →
      WhereGood (ArgumentsFrom aggregates 0) (arguments_on aggregates env u)
  arguments-fit [] h = tt
  arguments-fit (aggregate ∷ aggregates) h =
      good-both (ArgumentFits aggregate.function aggregate.kind) (ArgumentsFrom aggregates 0) (ArgumentsFrom (aggregate ∷ aggregates) 0) (λ v vs. v ∷ vs)
      (optional_value aggregate.argument env u) (arguments_on aggregates env u)
      (argument-fits aggregate.function aggregate.argument aggregate.kind h.0) (arguments-fit aggregates h.1)
      (λ v vs f g. (f, arguments-behind aggregates 0 v vs g))

-- ---- tables

bag-fits : (bag : Bag) (kinds : List Kind) → bag_fits bag kinds ≡ true → BagFits kinds bag
bag-fits [] kinds e = tt
bag-fits (row ∷ bag) kinds e =
    let parts = and_parts (row_fits row kinds) (bag_fits bag kinds) e in
    (record { fit = parts.0 }, bag-fits bag kinds parts.1)

fits-bag : (bag : Bag) (kinds : List Kind) → BagFits kinds bag → bag_fits bag kinds ≡ true
fits-bag [] kinds h = refl
fits-bag (row ∷ bag) kinds h = and_from (row_fits row kinds) (bag_fits bag kinds) (h.0).fit (fits-bag bag kinds h.1)

-- ---- queries

filter_node : {kinds answer_kinds : List Kind} {places sub_places : List Place} (condition : Expr) (env : List Row) (s : SubMeans) (m : Means) →
    SubsFit kinds sub_places answer_kinds s → MeansFit kinds places m →
    MeansFit kinds (places ++ sub_places) (filter_means (condition_on condition env s) s.contributions m)
filter_node condition env s m f g = filter_means-fit (condition_on condition env s) s.contributions m f.contributions g

join_node : {left_places right_places sub_places : List Place} (left_kinds right_kinds answer_kinds : List Kind) (kind : JoinKind) (condition : Expr) (env : List Row) (s : SubMeans)
    (left_blank right_blank : Witness) (l r : Means) → SubsFit (left_kinds ++ right_kinds) sub_places answer_kinds s → FitsPlaces left_places left_blank → FitsPlaces right_places right_blank →
    MeansFit left_kinds left_places l → MeansFit right_kinds right_places r →
    MeansFit (left_kinds ++ right_kinds) ((left_places ++ right_places) ++ sub_places)
    (join_means kind (condition_on condition env s) s.contributions (record { left = left_blank; right = right_blank; subs = s.blank }) (length left_kinds) (length right_kinds) l r)
join_node left_kinds right_kinds answer_kinds kind condition env s left_blank right_blank l r f left_fits right_fits g h =
    join_means-fit left_kinds right_kinds (condition_on condition env s) kind s.contributions (record { left = left_blank; right = right_blank; subs = s.blank }) l r
    f.contributions left_fits right_fits f.blank g h

same_kinds : {kinds more : List Kind} {places : List Place} (q : Query) (db : Database) (env : List Row) → kinds ≡ more →
    MeansFit kinds places (denote q db env) → MeansFit more places (denote q db env)
same_kinds {places = places} q db env e f = subst (λ k. MeansFit k places (denote q db env)) e f

mutual
  pub denote-fits : (q : Query) (outer : List (List Kind)) (db : Database) (env : List Row) → WellFormed outer q → TablesFit db q →
      env_fits env outer ≡ true →
      MeansFit (kinds_of q) (shape q) (denote q db env)
  denote-fits (Table id kinds) outer db env form tables e = unlisted_means-fit (Good (db id)) (bag-fits (db id) kinds tables)
  denote-fits Single outer db env form tables e = unlisted_means-fit (Good ([] ∷ [])) (record { fit = refl }, tt)
  denote-fits (BaseOf input places label) outer db env form tables e = base_means-fit places label (denote input db env) (denote-fits input outer db env form.input tables e)
  denote-fits (FilterOf input condition _ subs) outer db env form tables e =
      filter_node condition env (sub_denote subs db env) (denote input db env)
      (sub_denote-fits subs (kinds_of input) outer db env form.subs tables.1 e) (denote-fits input outer db env form.input tables.0 e)
  denote-fits (ProjectOf input items _ subs) outer db env form tables e =
      let subs_fit = sub_denote-fits subs (kinds_of input) outer db env form.subs tables.1 e in
      project_means-fit (items_on items env (sub_denote subs db env)) (sub_denote subs db env).contributions (denote input db env)
      (items_on-fit items (kinds_of input) outer (sub_kinds subs) env (sub_denote subs db env) form.items e subs_fit) subs_fit.contributions
      (denote-fits input outer db env form.input tables.0 e)
  denote-fits (JoinOf kind left right condition _ subs) outer db env form tables e =
      join_node (kinds_of left) (kinds_of right) (sub_kinds subs) kind condition env (sub_denote subs db env) (all_empty (shape left)) (all_empty (shape right)) (denote left db env) (denote right db env)
      (sub_denote-fits subs (kinds_of left ++ kinds_of right) outer db env form.subs tables.2 e) (all_empty-fits (shape left)) (all_empty-fits (shape right))
      (denote-fits left outer db env form.left tables.0 e) (denote-fits right outer db env form.right tables.1 e)
  denote-fits (ApplyOf kind left right) outer db env form tables e =
      apply_means-fit (kinds_of left) (kinds_of right) kind (all_empty (shape right)) (all_empty-fits (shape right)) (denote left db env) (λ u. denote right db (u ∷ env))
      (denote-fits left outer db env form.left tables.0 e)
      (λ u f. denote-fits right (kinds_of left ∷ outer) db (u ∷ env) form.right tables.1 (seen-row (kinds_of left) outer env u e f).fitting)
  denote-fits (UnionOf all left right) outer db env form tables e =
      union_means-fit all (denote left db env) (denote right db env) (denote-fits left outer db env form.left_side tables.0 e)
      (same_kinds right db env (sym form.same_kinds) (denote-fits right outer db env form.right_side tables.1 e))
      (all_empty (shape left)) (all_empty (shape right)) (all_empty-fits (shape left)) (all_empty-fits (shape right))
  denote-fits (IntersectOf all left right) outer db env form tables e =
      intersect_means-fit all (denote left db env) (denote right db env) (denote-fits left outer db env form.left_side tables.0 e)
      (same_kinds right db env (sym form.same_kinds) (denote-fits right outer db env form.right_side tables.1 e))
  denote-fits (ExceptOf all left right) outer db env form tables e =
      except_means-fit all (denote left db env) (denote right db env) (denote-fits left outer db env form.left_side tables.0 e)
      (same_kinds right db env (sym form.same_kinds) (denote-fits right outer db env form.right_side tables.1 e))
      (all_empty (shape right)) (all_empty-fits (shape right))
  denote-fits (DistinctOf input) outer db env form tables e = distinct_means-fit (denote input db env) (denote-fits input outer db env form tables e)
  denote-fits (AggregateOf input groups aggregates) outer db env form tables e =
      aggregate_means-fit (kinds_of input) groups aggregates (arguments_on aggregates env) (numbers_given (kinds_of input ∷ outer) aggregates form.aggregates)
      (all_empty (shape input)) (denote input db env)
      (λ u f. arguments-fit (kinds_of input) outer env u (seen-row (kinds_of input) outer env u e f) aggregates (each-all _ aggregates form.aggregates))
      (all_empty-fits (shape input)) (denote-fits input outer db env form.input tables e)
  denote-fits (LimitOf input keys count) outer db env form tables e = limit_means-fit (denote input db env) (denote-fits input outer db env form.input tables e) keys count
  denote-fits (ProvOf input) outer db env form tables e = provenance_means-fit (denote input db env) (denote-fits input outer db env form tables e)

  pub sub_denote-fits : {m : _} (subs : Row_of-Sublink m) (kinds : List Kind) (outer : List (List Kind)) (db : Database) (env : List Row) →
      SubsForm (kinds ∷ outer) subs → SubTablesFit db subs →
      env_fits env outer ≡ true → SubsFit kinds (sub_shape subs) (sub_kinds subs) (sub_denote subs db env)
  sub_denote-fits end_of-Sublink kinds outer db env form tables e = no_subs-fit kinds
  sub_denote-fits (more_of-Sublink kind tested query subs) kinds outer db env form tables e =
      with_sub-fit kind (optional_value tested env) (λ u. denote query db (u ∷ env)) (all_empty (shape query)) (sub_denote subs db env) (all_empty-fits (shape query))
      (λ u f. denote-fits query (kinds ∷ outer) db (u ∷ env) form.query tables.0 (seen-row kinds outer env u e f).fitting)
      (sub_denote-fits subs kinds outer db env form.others tables.1 e)

-- ---- as the laws say it

pub value_has-kind : (scopes : List (List Kind)) (subs : List Kind) (e : Expr) (kind : Kind) (u : Row) (env : List Row) (answers : List Value) (v : Value) →
    HasKind scopes subs e kind → env_fits (u ∷ env) scopes ≡ true → row_fits answers subs ≡ true → value e u env answers ≡ Good v → fits v kind ≡ true
value_has-kind scopes subs e kind u env answers v form fitting answered good =
    (subst (GoodFits kind) good (value-fits scopes subs u env answers fitting answered e kind form)).fit

module _ (outer : List (List Kind)) (q : Query) (db : Database) (env : List Row) where
  pub rows_have-kinds : (bag : Bag) → Fitting outer q db env → meaning q db env ≡ Good bag → BagFits (kinds_of q) bag
  rows_have-kinds bag f good = subst (WhereGood (BagFits (kinds_of q))) good (denote-fits q outer db env f.formed f.tables f.outer_rows).rows

  pub rows_have-width : (bag : Bag) → Fitting outer q db env → meaning q db env ≡ Good bag → All (λ row. length row ≡ width_of q) bag
  rows_have-width bag f good =
      all-from_in (λ row. length row ≡ width_of q) bag (λ row i.
      row_fits-length row (kinds_of q) (each-in (RowFits (kinds_of q)) row bag (rows_have-kinds bag f good) i).fit)

  pub bag_has-kinds : (bag : Bag) → Fitting outer q db env → meaning q db env ≡ Good bag → bag_fits bag (kinds_of q) ≡ true
  bag_has-kinds bag f good = fits-bag bag (kinds_of q) (rows_have-kinds bag f good)

  pub lists_fit-places : (t : Row) (w : Witness) → Fitting outer q db env → Contains (witnesses q db env t) w → FitsPlaces (shape q) w
  lists_fit-places t w f here = ((denote-fits q outer db env f.formed f.tables f.outer_rows).lists t).list w (in-from_contains w (witnesses q db env t) here)
