-- Groups over rows that are shown by others: the arguments are columns of the rows below.
use Rattle.std.proofs.Common.{◌≡◌, ℕ, zero, suc, ◌+◌, List, [], ◌∷◌, ◌++◌, length, length-append, map, Option, Some, None, pos, refl, sym, ap, subst, ◌∙◌, arith}
use Rattle.std.proofs.lemmas.List.{length-map}
use Rattle.std.specs.List.{range_with_len}
use Rattle.perm_values.specs.Rows.{picked, same_row, value_at, PlacesWithin}
use Rattle.perm_values.specs.declared.kind.Kind.{Kind}
use Rattle.perm_values.specs.declared.kind.Kind.TheVariants as kinds
use Rattle.perm_values.specs.declared.value.Value.{Value}
use Rattle.perm_values.specs.declared.value.Value.TheVariants.{Integer, Null}
use Rattle.bag_algebra.specs.Bags.{Row, Bag, once}
use Rattle.bag_algebra.specs.Expressions.{value}
use Rattle.bag_algebra.specs.Kinds.{kind_in, kinds_in}
use Rattle.bag_algebra.specs.Meaning.{arguments_on, optional_value}
use Rattle.bag_algebra.specs.Means.{aggregated, aggregates_of, class_keys, class_of, class_row, good_row, grouped as in_classes}
use Rattle.bag_algebra.specs.Outcome.{Outcome, Good, Bad, and_then, mapped, both, each}
use Rattle.bag_algebra.specs.WellFormed.{AggregatesForm, HasKind, aggr_form}
use Rattle.bag_algebra.specs.declared.expr.Expr.{Expr}
use Rattle.bag_algebra.specs.declared.query.AggFn.{AggFn}
use Rattle.bag_algebra.specs.declared.query.AggFn.TheVariants as agg
use Rattle.bag_algebra.specs.declared.query.Aggr.{Aggr}
use Rattle.bag_algebra.proofs.Columns.{each-good}
use Rattle.sql_printer.specs.rows.Carried.{Carries}
use Rattle.sql_printer.specs.rows.Printed.{argument, arguments, argument_at, aggregates_from, grouped, column, columns_from, counted, or_counted, or_unread, unread_item}
use Rattle.sql_printer.specs.rows.PrintedExpressions.{printed_expr}
use Rattle.sql_printer.specs.rows.Writable.{Writable, WritableAggregates, WritableOption}
use Rattle.sql_printer.proofs.rows.ReadSublinks.{value-alone}
use Rattle.sql_printer.proofs.rows.RelatedOutcomes.{Along, AlikeOutcomes, along-kept, along-map, filter-along, alike-kept, alike-both, alike-and_then}
use Rattle.sql_printer.proofs.rows.ShownRows.{Shown, Faces, faces-carried, alike-itself, items_values, copied-alike, Wide, WideRow, WideOutcome, wide-next, wide-rows}
use Rattle.sql_printer.proofs.rows.ShownSets.{wide-once}

-- ---- arguments

-- the same value, but where there is no argument
abbrev Same : Option Expr → Value → Value → Type 0
Same None x y = Unit {0}
Same (Some part) x y = x ≡ y

-- of all arguments, from a place of one row and a place of the other
abbrev Rest : ℕ → ℕ → List Aggr → Row → Row → Type 0
Rest place other [] a b = Unit {0}
Rest place other (aggregate ∷ aggregates) a b =
    Same aggregate.argument (value_at a place) (value_at b other) × Rest (suc place) (suc other) aggregates a b

rest-behind : (place other : ℕ) (aggregates : List Aggr) (x y : Value) (a b : Row) → Rest place other aggregates a b
    → Rest (suc place) (suc other) aggregates (x ∷ a) (y ∷ b)
rest-behind place other [] x y a b r = tt
rest-behind place other (aggregate ∷ aggregates) x y a b r = (r.0, rest-behind (suc place) (suc other) aggregates x y a b r.1)

rest-further : (place other : ℕ) (aggregates : List Aggr) (y : Value) (a b : Row) → Rest place other aggregates a b
    → Rest place (suc other) aggregates a (y ∷ b)
rest-further place other [] y a b r = tt
rest-further place other (aggregate ∷ aggregates) y a b r = (r.0, rest-further (suc place) (suc other) aggregates y a b r.1)

-- ---- a row below: the group's values, then the arguments

record Lower (groups : List ℕ) (aggregates : List Aggr) (u a b : Row) : Type 0 where
  keys : picked (range_with_len 0 (length groups)) b ≡ picked groups u
  rest : Rest 0 (length groups) aggregates a b

picked-behind : (count start : ℕ) (x : Value) (b : Row) → picked (range_with_len (start + 1) count) (x ∷ b) ≡ picked (range_with_len start count) b
picked-behind zero start x b = refl
picked-behind (suc count) start x b =
    let next : start + 1 ≡ suc start = omega arith in
    λ i. ap (value_at (x ∷ b)) next i ∷ picked-behind count (start + 1) x b i

lower-next : (group place : ℕ) (groups : List ℕ) (aggregates : List Aggr) (u v a b : Row) → value_at v place ≡ value_at u group
    → Lower groups aggregates u a b → Lower (group ∷ groups) aggregates u a (value_at v place ∷ b)
lower-next group place groups aggregates u v a b same l = record {
  keys = λ i. same i ∷ (picked-behind (length groups) 0 (value_at v place) b ∙ l.keys) i;
  rest = rest-further 0 (length groups) aggregates (value_at v place) a b l.rest;
}

lower-outcome : (group place : ℕ) (groups : List ℕ) (aggregates : List Aggr) (u v : Row) → value_at v place ≡ value_at u group → (o p : Outcome Row)
    → AlikeOutcomes (Lower groups aggregates u) o p
    → AlikeOutcomes (Lower (group ∷ groups) aggregates u) o (both (λ x xs. x ∷ xs) (Good (value_at v place)) p)
lower-outcome group place groups aggregates u v same (Good a) (Good b) l = lower-next group place groups aggregates u v a b same l
lower-outcome group place groups aggregates u v same (Good a) (Bad g) l = absurd l
lower-outcome group place groups aggregates u v same (Bad f) (Good b) l = absurd l
lower-outcome group place groups aggregates u v same (Bad f) (Bad g) l = l

itself : (o : Outcome Value) → AlikeOutcomes (λ x y. x ≡ y) o o
itself (Good x) = refl
itself (Bad f) = refl

module _ (scopes : List (List Kind)) (unread : List ℕ) (u v : Row) (env other : List Row) (carried : Carries scopes unread (u ∷ env) (v ∷ other)) where
  equal : (part : Expr) (kind : Kind) → HasKind scopes [] part kind → Writable part
      → AlikeOutcomes (Same (Some part)) (value part u env []) (value (printed_expr unread 0 part) v other [])
  equal part kind h w =
      subst (AlikeOutcomes (λ x y. x ≡ y) (value part u env [])) (sym (value-alone scopes unread u v env other carried part kind h w))
      (itself (value part u env []))

  by_function : (function : AggFn) (part : Option Expr) (kind : Kind) → aggr_form function part scopes kind → WritableOption part
      → AlikeOutcomes (Same part) (optional_value part env u) (value (argument scopes unread part).expr v other [])
  by_function function None kind form w = tt
  by_function agg.CountRows (Some part) kind form w = absurd form
  by_function agg.Count (Some part) kind form w = equal part form.argument.shared form.argument.parts w
  by_function agg.CountDistinct (Some part) kind form w = equal part form.argument.shared form.argument.parts w
  by_function agg.Sum (Some part) kind form w = equal part kinds.Integer form.0 w
  by_function agg.Min (Some part) kind form w = equal part kind form.0 w
  by_function agg.Max (Some part) kind form w = equal part kind form.0 w

  -- the arguments of all aggregates
  arguments-alike : (aggregates : List Aggr) → AggregatesForm scopes aggregates → WritableAggregates aggregates
      → AlikeOutcomes (Rest 0 0 aggregates) (arguments_on aggregates env u) (items_values other (arguments scopes unread aggregates) v)
  arguments-alike [] form w = tt
  arguments-alike (aggregate ∷ aggregates) form w =
      alike-both (Same aggregate.argument) (Rest 0 0 aggregates) (Rest 0 0 (aggregate ∷ aggregates)) (λ x xs. x ∷ xs) (λ y ys. y ∷ ys)
      (λ x y a b own rest. (own, rest-behind 0 0 aggregates x y a b rest))
      (optional_value aggregate.argument env u) (value (argument scopes unread aggregate.argument).expr v other [])
      (arguments_on aggregates env u) (items_values other (arguments scopes unread aggregates) v)
      (by_function aggregate.function aggregate.argument aggregate.kind (form 0 aggregate (omega arith)) w.0)
      (arguments-alike aggregates (λ k d h. form (suc k) d (omega (arith, h))) w.1)

  -- behind the columns by which rows are grouped
  below-alike : (below : List Kind) (before : ℕ) → Faces below before u v → (aggregates : List Aggr) → AggregatesForm scopes aggregates → WritableAggregates aggregates
      → (groups : List ℕ) → PlacesWithin (length below) groups
      → AlikeOutcomes (Lower groups aggregates u) (arguments_on aggregates env u)
      (items_values other (grouped before below groups ++ arguments scopes unread aggregates) v)
  below-alike below before s aggregates form w [] within =
      alike-kept (Rest 0 0 aggregates) (Lower [] aggregates u) (λ a b r. record { keys = refl; rest = r }) (arguments_on aggregates env u)
      (items_values other (arguments scopes unread aggregates) v) (arguments-alike aggregates form w)
  below-alike below before s aggregates form w (group ∷ groups) within =
      lower-outcome group (before + group) groups aggregates u v (s.there group (within 0 group (omega arith))) (arguments_on aggregates env u)
      (items_values other (grouped before below groups ++ arguments scopes unread aggregates) v)
      (below-alike below before s aggregates form w groups (λ k d h. within (suc k) d (omega (arith, h))))

-- ---- all rows below

-- a row and what stands below for it
record Grouped (groups : List ℕ) (aggregates : List Aggr) (f : Row → Outcome Row) (u b : Row) : Type 0 where
  own : Row
  found : f u ≡ Good own
  lower : Lower groups aggregates u own b

module _ (groups : List ℕ) (aggregates : List Aggr) (f : Row → Outcome Row) where
  remembered : (u : Row) (o p : Outcome Row) → f u ≡ o → AlikeOutcomes (Lower groups aggregates u) o p
      → AlikeOutcomes (λ a b. Grouped groups aggregates f u b) o p
  remembered u (Good a) (Good b) e l = record { own = a; found = e; lower = l }
  remembered u (Good a) (Bad g) e l = absurd l
  remembered u (Bad h) (Good b) e l = absurd l
  remembered u (Bad h) (Bad g) e l = l

  all_grouped : (R : Row → Row → Type 0) (g : Row → Outcome Row) → ((u v : Row) → R u v → AlikeOutcomes (Lower groups aggregates u) (f u) (g v))
      → (us vs : Bag) → Along R us vs → AlikeOutcomes (λ rows bs. Along (Grouped groups aggregates f) us bs) (each f us) (each g vs)
  all_grouped R g same [] [] r = tt
  all_grouped R g same [] (v ∷ vs) r = absurd r
  all_grouped R g same (u ∷ us) [] r = absurd r
  all_grouped R g same (u ∷ us) (v ∷ vs) r =
      alike-both (λ a b. Grouped groups aggregates f u b) (λ rows bs. Along (Grouped groups aggregates f) us bs)
      (λ rows bs. Along (Grouped groups aggregates f) (u ∷ us) bs) (λ x xs. x ∷ xs) (λ y ys. y ∷ ys) (λ x y xs ys first more. (first, more))
      (f u) (g v) (each f us) (each g vs) (remembered u (f u) (g v) refl (same u v r.0)) (all_grouped R g same us vs r.1)

-- ---- what the aggregates are over

abbrev argument_value : AggFn → Value → Value
argument_value agg.CountRows x = Null
argument_value agg.Count x = x
argument_value agg.CountDistinct x = x
argument_value agg.Sum x = x
argument_value agg.Min x = x
argument_value agg.Max x = x

-- of the columns from a place on
abbrev numbered : ℕ → List Aggr → Row → Row
numbered place [] b = []
numbered place (aggregate ∷ aggregates) b = argument_value aggregate.function (value_at b place) ∷ numbered (suc place) aggregates b

module _ (env : List Row) where
  argument-numbered : (function : AggFn) (place : ℕ) (b : Row)
      → optional_value (argument_at function place) env b ≡ Good (argument_value function (value_at b place))
  argument-numbered agg.CountRows place b = refl
  argument-numbered agg.Count place b = refl
  argument-numbered agg.CountDistinct place b = refl
  argument-numbered agg.Sum place b = refl
  argument-numbered agg.Min place b = refl
  argument-numbered agg.Max place b = refl

  arguments-numbered : (aggregates : List Aggr) (place : ℕ) (b : Row) → arguments_on (aggregates_from place aggregates) env b ≡ Good (numbered place aggregates b)
  arguments-numbered [] place b = refl
  arguments-numbered (aggregate ∷ aggregates) place b =
      λ i. both (λ x xs. x ∷ xs) (argument-numbered aggregate.function place b i) (arguments-numbered aggregates (suc place) b i)

functions-numbered : (aggregates : List Aggr) (place : ℕ)
    → map (λ (aggregate : Aggr). aggregate.function) (aggregates_from place aggregates) ≡ map (λ (aggregate : Aggr). aggregate.function) aggregates
functions-numbered [] place = refl
functions-numbered (aggregate ∷ aggregates) place = ap (λ functions. aggregate.function ∷ functions) (functions-numbered aggregates (suc place))

module _ (scopes : List (List Kind)) where
  same-argument : (function : AggFn) (part : Option Expr) (kind : Kind) → aggr_form function part scopes kind → (x y : Value) → Same part x y
      → Same part x (argument_value function y)
  same-argument function None kind form x y s = tt
  same-argument agg.CountRows (Some part) kind form x y s = absurd form
  same-argument agg.Count (Some part) kind form x y s = s
  same-argument agg.CountDistinct (Some part) kind form x y s = s
  same-argument agg.Sum (Some part) kind form x y s = s
  same-argument agg.Min (Some part) kind form x y s = s
  same-argument agg.Max (Some part) kind form x y s = s

  rest-numbered : (aggregates : List Aggr) → AggregatesForm scopes aggregates → (place other : ℕ) (a b : Row) → Rest place other aggregates a b
      → Rest place 0 aggregates a (numbered other aggregates b)
  rest-numbered [] form place other a b r = tt
  rest-numbered (aggregate ∷ aggregates) form place other a b r = (
    same-argument aggregate.function aggregate.argument aggregate.kind (form 0 aggregate (omega arith)) (value_at a place) (value_at b other) r.0,
    rest-further (suc place) 0 aggregates (argument_value aggregate.function (value_at b other)) a (numbered (suc other) aggregates b)
        (rest-numbered aggregates (λ k d h. form (suc k) d (omega (arith, h))) (suc place) (suc other) a b r.1),
  )

  -- ---- aggregates over rows whose arguments are the same

  cells-same : (part : Expr) (place : ℕ) (rows bs : List Row) → Along (λ a b. Same (Some part) (value_at a place) (value_at b place)) rows bs
      → map (λ b. value_at b place) bs ≡ map (λ a. value_at a place) rows
  cells-same part place [] [] s = refl
  cells-same part place [] (b ∷ bs) s = absurd s
  cells-same part place (a ∷ rows) [] s = absurd s
  cells-same part place (a ∷ rows) (b ∷ bs) s = λ i. sym s.0 i ∷ cells-same part place rows bs s.1 i

  as_many : (R : Row → Row → Type 0) (place : ℕ) (rows bs : List Row) → Along R rows bs
      → length (map (λ b. value_at b place) bs) ≡ length (map (λ a. value_at a place) rows)
  as_many R place [] [] s = refl
  as_many R place [] (b ∷ bs) s = absurd s
  as_many R place (a ∷ rows) [] s = absurd s
  as_many R place (a ∷ rows) (b ∷ bs) s = ap suc (as_many R place rows bs s.1)

  aggregate-same : (function : AggFn) (part : Option Expr) (kind : Kind) → aggr_form function part scopes kind → (place : ℕ) (rows bs : List Row)
      → Along (λ a b. Same part (value_at a place) (value_at b place)) rows bs
      → aggregated function (map (λ b. value_at b place) bs) ≡ aggregated function (map (λ a. value_at a place) rows)
  aggregate-same agg.CountRows None kind form place rows bs s =
      ap (λ n. Good (Integer (pos n))) (as_many (λ a b. Same None (value_at a place) (value_at b place)) place rows bs s)
  aggregate-same agg.CountRows (Some part) kind form place rows bs s = absurd form
  aggregate-same agg.Count None kind form place rows bs s = absurd form
  aggregate-same agg.Count (Some part) kind form place rows bs s = ap (aggregated agg.Count) (cells-same part place rows bs s)
  aggregate-same agg.CountDistinct None kind form place rows bs s = absurd form
  aggregate-same agg.CountDistinct (Some part) kind form place rows bs s = ap (aggregated agg.CountDistinct) (cells-same part place rows bs s)
  aggregate-same agg.Sum None kind form place rows bs s = absurd form
  aggregate-same agg.Sum (Some part) kind form place rows bs s = ap (aggregated agg.Sum) (cells-same part place rows bs s)
  aggregate-same agg.Min None kind form place rows bs s = absurd form
  aggregate-same agg.Min (Some part) kind form place rows bs s = ap (aggregated agg.Min) (cells-same part place rows bs s)
  aggregate-same agg.Max None kind form place rows bs s = absurd form
  aggregate-same agg.Max (Some part) kind form place rows bs s = ap (aggregated agg.Max) (cells-same part place rows bs s)

  aggregates-same : (aggregates : List Aggr) → AggregatesForm scopes aggregates → (place : ℕ) (rows bs : List Row)
      → Along (Rest place place aggregates) rows bs
      → aggregates_of (map (λ (aggregate : Aggr). aggregate.function) aggregates) place bs
      ≡ aggregates_of (map (λ (aggregate : Aggr). aggregate.function) aggregates) place rows
  aggregates-same [] form place rows bs r = refl
  aggregates-same (aggregate ∷ aggregates) form place rows bs r =
      let here = aggregate-same aggregate.function aggregate.argument aggregate.kind (form 0 aggregate (omega arith)) place rows bs
      (along-kept (Rest place place (aggregate ∷ aggregates)) (λ a b. Same aggregate.argument (value_at a place) (value_at b place)) (λ a b s. s.0) rows bs r) in
      let rest = aggregates-same aggregates (λ k d h. form (suc k) d (omega (arith, h))) (suc place) rows bs
      (along-kept (Rest place place (aggregate ∷ aggregates)) (Rest (suc place) (suc place) aggregates) (λ a b s. s.1) rows bs r) in
      λ i. both (λ v vs. v ∷ vs) (here i) (rest i)

-- ---- classes

wide-aggregates : (aggregates : List Aggr) (place : ℕ) (rows : List Row)
    → WideRow (length aggregates) (aggregates_of (map (λ (aggregate : Aggr). aggregate.function) aggregates) place rows)
wide-aggregates [] place rows = refl
wide-aggregates (aggregate ∷ aggregates) place rows =
    wide-next (length aggregates) (aggregated aggregate.function (map (λ a. value_at a place) rows))
    (aggregates_of (map (λ (aggregate : Aggr). aggregate.function) aggregates) (suc place) rows) (wide-aggregates aggregates (suc place) rows)

wide-behind : (key : Row) (width more : ℕ) → length key ≡ width → (o : Outcome Row) → WideRow more o → WideRow (width + more) (mapped (λ vs. key ++ vs) o)
wide-behind key width more h (Good vs) w = length-append key vs ∙ (λ i. h i + w i)
wide-behind key width more h (Bad g) w = tt

wide-picked : (places : List ℕ) (us : Bag) → Wide (length places) (map (picked places) us)
wide-picked places [] = tt
wide-picked places (u ∷ us) = (length-map places (value_at u), wide-picked places us)

wide-keys : (groups : List ℕ) (us : Bag) → Wide (length groups) (class_keys groups us)
wide-keys [] us = (refl, tt)
wide-keys (group ∷ groups) us =
    wide-once (length (group ∷ groups)) (map (picked (group ∷ groups)) us) (wide-picked (group ∷ groups) us)

module _ (groups : List ℕ) (aggregates : List Aggr) (f : Row → Outcome Row) where
  keys-same : (us bs : Bag) → Along (Grouped groups aggregates f) us bs → map (picked (range_with_len 0 (length groups))) bs ≡ map (picked groups) us
  keys-same [] [] r = refl
  keys-same [] (b ∷ bs) r = absurd r
  keys-same (u ∷ us) [] r = absurd r
  keys-same (u ∷ us) (b ∷ bs) r = λ i. r.0.lower.keys i ∷ keys-same us bs r.1 i

class_keys-same : (groups : List ℕ) (aggregates : List Aggr) (f : Row → Outcome Row) (us bs : Bag) → Along (Grouped groups aggregates f) us bs
    → class_keys (range_with_len 0 (length groups)) bs ≡ class_keys groups us
class_keys-same [] aggregates f us bs r = refl
class_keys-same (group ∷ groups) aggregates f us bs r = ap once (keys-same (group ∷ groups) aggregates f us bs r)

module _ (scopes : List (List Kind)) (groups : List ℕ) (aggregates : List Aggr) (form : AggregatesForm scopes aggregates) (env : List Row) (f : Row → Outcome Row) where
  abbrev functions : List AggFn
  functions = map (λ (aggregate : Aggr). aggregate.function) aggregates

  abbrev firsts : List ℕ
  firsts = range_with_len 0 (length groups)

  abbrev over_columns : List Aggr
  over_columns = aggregates_from (length groups) aggregates

  row-rest : (u b : Row) → Grouped groups aggregates f u b → Rest 0 0 aggregates (good_row (f u)) (good_row (arguments_on over_columns env b))
  row-rest u b g =
      subst (λ o. Rest 0 0 aggregates (good_row o) (good_row (arguments_on over_columns env b))) (sym g.found)
      (subst (λ o. Rest 0 0 aggregates g.own (good_row o)) (sym (arguments-numbered env aggregates (length groups) b))
      (rest-numbered scopes aggregates form 0 (length groups) g.own b g.lower.rest))

  class_row-same : (us bs : Bag) → Along (Grouped groups aggregates f) us bs → (key : Row)
      → class_row firsts (map (λ (aggregate : Aggr). aggregate.function) over_columns) (arguments_on over_columns env) bs key
      ≡ class_row groups functions f us key
  class_row-same us bs r key =
      let own = class_of groups key us in
      let below = class_of firsts key bs in
      let along = filter-along (Grouped groups aggregates f) (λ u. same_row (picked groups u) key) (λ b. same_row (picked firsts b) key)
      (λ u b g. ap (λ k. same_row k key) g.lower.keys) us bs r in
      ap (λ fs. mapped (λ vs. key ++ vs) (aggregates_of fs 0 (map (λ b. good_row (arguments_on over_columns env b)) below)))
      (functions-numbered aggregates (length groups))
      ∙ ap (mapped (λ vs. key ++ vs)) (aggregates-same scopes aggregates form 0 (map (λ u. good_row (f u)) own)
      (map (λ b. good_row (arguments_on over_columns env b)) below)
      (along-map (Grouped groups aggregates f) (Rest 0 0 aggregates) (λ u. good_row (f u)) (λ b. good_row (arguments_on over_columns env b)) row-rest own below along))

  classes-same : (us bs : Bag) → Along (Grouped groups aggregates f) us bs
      → in_classes firsts (map (λ (aggregate : Aggr). aggregate.function) over_columns) (arguments_on over_columns env) bs
      ≡ each (class_row groups functions f us) (class_keys groups us)
  classes-same us bs r =
      ap (λ o. and_then o (λ _. each (class_row firsts (map (λ (aggregate : Aggr). aggregate.function) over_columns) (arguments_on over_columns env) bs) (class_keys firsts bs)))
      (each-good (numbered (length groups) aggregates) (arguments_on over_columns env) (arguments-numbered env aggregates (length groups)) bs)
      ∙ (λ i. each (λ key. class_row-same us bs r key i) (class_keys-same groups aggregates f us bs r i))

  wide-classes : (below : List Kind) (us : Bag)
      → WideOutcome (length (kinds_in below groups ++ map (λ (aggregate : Aggr). aggregate.kind) aggregates)) (each (class_row groups functions f us) (class_keys groups us))
  wide-classes below us =
      let width = sym (length-append (kinds_in below groups) (map (λ (aggregate : Aggr). aggregate.kind) aggregates)
      ∙ (λ i. length-map groups (kind_in below) i + length-map aggregates (λ (aggregate : Aggr). aggregate.kind) i)) in
      subst (λ n. WideOutcome n (each (class_row groups functions f us) (class_keys groups us))) width
      (wide-rows (length groups + length aggregates) (length groups) (class_row groups functions f us)
      (λ key h. wide-behind key (length groups) (length aggregates) h (aggregates_of functions 0 (map (λ u. good_row (f u)) (class_of groups key us)))
      (wide-aggregates aggregates 0 (map (λ u. good_row (f u)) (class_of groups key us))))
      (class_keys groups us) (wide-keys groups us))

  classes-alike : (below : List Kind) (us bs : Bag) → Along (Grouped groups aggregates f) us bs
      → AlikeOutcomes (Along (Faces (kinds_in below groups ++ map (λ (aggregate : Aggr). aggregate.kind) aggregates) 0))
      (each (class_row groups functions f us) (class_keys groups us))
      (in_classes firsts (map (λ (aggregate : Aggr). aggregate.function) over_columns) (arguments_on over_columns env) bs)
  classes-alike below us bs r =
      let kinds = kinds_in below groups ++ map (λ (aggregate : Aggr). aggregate.kind) aggregates in
      let own = each (class_row groups functions f us) (class_keys groups us) in
      subst (AlikeOutcomes (Along (Faces kinds 0)) own) (sym (classes-same us bs r)) (alike-itself kinds own (wide-classes below us))

-- ---- the whole node

and_then-twice : {X Y Z : Type 0} (o : Outcome X) (f : X → Outcome Y) (g : Y → Outcome Z) → and_then (and_then o f) g ≡ and_then o (λ x. and_then (f x) g)
and_then-twice (Good x) f g = refl
and_then-twice (Bad h) f g = refl

module _ (below : List Kind) (before : ℕ) (outer : List (List Kind)) (unread : List ℕ) (env other : List Row) (carried : Carries outer unread env other) where
  classes_over-alike : (groups : List ℕ) (aggregates : List Aggr) → PlacesWithin (length below) groups → AggregatesForm (below ∷ outer) aggregates
      → WritableAggregates aggregates → (o p : Outcome Bag) → AlikeOutcomes (Along (Faces below before)) o p
      → AlikeOutcomes (Along (Faces (kinds_in below groups ++ map (λ (aggregate : Aggr). aggregate.kind) aggregates) 0))
      (and_then o (in_classes groups (map (λ (aggregate : Aggr). aggregate.function) aggregates) (arguments_on aggregates env)))
      (and_then (and_then p (each (items_values other (grouped before below groups ++ arguments (below ∷ outer) (before ∷ unread) aggregates))))
      (in_classes (range_with_len 0 (length groups)) (map (λ (aggregate : Aggr). aggregate.function) (aggregates_from (length groups) aggregates))
      (arguments_on (aggregates_from (length groups) aggregates) other)))
  classes_over-alike groups aggregates within form w o p s =
      let kinds = kinds_in below groups ++ map (λ (aggregate : Aggr). aggregate.kind) aggregates in
      let functions = map (λ (aggregate : Aggr). aggregate.function) aggregates in
      let f = arguments_on aggregates env in
      let row = items_values other (grouped before below groups ++ arguments (below ∷ outer) (before ∷ unread) aggregates) in
      let numbers = aggregates_from (length groups) aggregates in
      let classes = in_classes (range_with_len 0 (length groups)) (map (λ (aggregate : Aggr). aggregate.function) numbers) (arguments_on numbers other) in
      subst (AlikeOutcomes (Along (Faces kinds 0)) (and_then o (in_classes groups functions f))) (sym (and_then-twice p (each row) classes))
      (alike-and_then (Along (Faces below before)) (Along (Faces kinds 0)) (in_classes groups functions f) (λ vs. and_then (each row vs) classes)
      (λ us vs r. alike-and_then (λ rows bs. Along (Grouped groups aggregates f) us bs) (Along (Faces kinds 0))
      (λ rows. each (class_row groups functions f us) (class_keys groups us)) classes
      (λ rows bs found. classes-alike (below ∷ outer) groups aggregates form other f below us bs found) (each f us) (each row vs)
      (all_grouped groups aggregates f (Faces below before) row
      (λ u v own. below-alike (below ∷ outer) (before ∷ unread) u v env other (faces-carried below before u v outer unread env other own carried) below before own aggregates form w groups within)
      us vs r)) o p s)

  -- without groups and aggregates there is one row
  one_row : (us vs : Bag)
      → AlikeOutcomes (Along (Shown [])) (in_classes [] [] (arguments_on [] env) us)
      (and_then (and_then (each (items_values other (unread_item ∷ [])) vs) (in_classes [] (agg.CountRows ∷ []) (arguments_on (counted ∷ []) other)))
      (each (items_values other (column 0 kinds.Integer ∷ []))))
  one_row us vs =
      let none : Row → Row = λ u. [] in
      let first : Row → Row = λ v. Integer (pos 1) ∷ [] in
      let nothing : Row → Row = λ b. Null ∷ [] in
      let copied = each (items_values other (column 0 kinds.Integer ∷ [])) in
      let counting = in_classes [] (agg.CountRows ∷ []) (arguments_on (counted ∷ []) other) in
      let bs = map first vs in
      let own = ap (λ o. and_then o (λ _. each (class_row [] [] (arguments_on [] env) us) ([] ∷ []))) (each-good none (arguments_on [] env) (λ u. refl) us) in
      let below = ap (λ o. and_then (and_then o counting) copied) (each-good first (items_values other (unread_item ∷ [])) (λ v. refl) vs)
      ∙ ap (λ o. and_then (and_then o (λ _. each (class_row [] (agg.CountRows ∷ []) (arguments_on (counted ∷ []) other) bs) ([] ∷ []))) copied)
      (each-good nothing (arguments_on (counted ∷ []) other) (λ b. refl) bs) in
      subst (AlikeOutcomes (Along (Shown [])) (in_classes [] [] (arguments_on [] env) us)) (sym below)
      (subst (λ o. AlikeOutcomes (Along (Shown [])) o (Good ((Integer (pos (length (map (λ a. value_at a 0) (map (λ u. good_row (arguments_on (counted ∷ []) other u)) (class_of [] [] bs))))) ∷ []) ∷ []))) (sym own)
      ((refl, refl), tt))

  none-alike : (o p : Outcome Bag) → AlikeOutcomes (Along (Faces below before)) o p
      → AlikeOutcomes (Along (Shown [])) (and_then o (in_classes [] [] (arguments_on [] env)))
      (and_then (and_then (and_then p (each (items_values other (unread_item ∷ [])))) (in_classes [] (agg.CountRows ∷ []) (arguments_on (counted ∷ []) other)))
      (each (items_values other (column 0 kinds.Integer ∷ []))))
  none-alike (Good us) (Good vs) s = one_row us vs
  none-alike (Good us) (Bad g) s = absurd s
  none-alike (Bad h) (Good vs) s = absurd s
  none-alike (Bad h) (Bad g) s = s

  pub groups-alike : (groups : List ℕ) (aggregates : List Aggr) → PlacesWithin (length below) groups → AggregatesForm (below ∷ outer) aggregates
      → WritableAggregates aggregates → (o p : Outcome Bag) → AlikeOutcomes (Along (Faces below before)) o p
      → AlikeOutcomes (Along (Shown (kinds_in below groups ++ map (λ (aggregate : Aggr). aggregate.kind) aggregates)))
      (and_then o (in_classes groups (map (λ (aggregate : Aggr). aggregate.function) aggregates) (arguments_on aggregates env)))
      (and_then (and_then (and_then p (each (items_values other (or_unread unread_item (grouped before below groups ++ arguments (below ∷ outer) (before ∷ unread) aggregates)))))
      (in_classes (range_with_len 0 (length groups)) (map (λ (aggregate : Aggr). aggregate.function) (or_counted groups (aggregates_from (length groups) aggregates)))
      (arguments_on (or_counted groups (aggregates_from (length groups) aggregates)) other)))
      (each (items_values other (or_unread (column 0 kinds.Integer) (columns_from 0 (kinds_in below groups ++ map (λ (aggregate : Aggr). aggregate.kind) aggregates))))))
  groups-alike [] [] within form w o p s = none-alike o p s
  groups-alike [] (aggregate ∷ aggregates) within form w o p s =
      let all = aggregate ∷ aggregates in
      let numbers = aggregates_from 0 all in
      copied-alike other (map (λ (aggregate : Aggr). aggregate.kind) all) 0
      (and_then o (in_classes [] (map (λ (aggregate : Aggr). aggregate.function) all) (arguments_on all env)))
      (and_then (and_then p (each (items_values other (arguments (below ∷ outer) (before ∷ unread) all))))
      (in_classes [] (map (λ (aggregate : Aggr). aggregate.function) numbers) (arguments_on numbers other)))
      (classes_over-alike [] all within form w o p s)
  groups-alike (group ∷ groups) aggregates within form w o p s =
      let all = group ∷ groups in
      let numbers = aggregates_from (length all) aggregates in
      copied-alike other (kinds_in below all ++ map (λ (aggregate : Aggr). aggregate.kind) aggregates) 0
      (and_then o (in_classes all (map (λ (aggregate : Aggr). aggregate.function) aggregates) (arguments_on aggregates env)))
      (and_then (and_then p (each (items_values other (grouped before below all ++ arguments (below ∷ outer) (before ∷ unread) aggregates))))
      (in_classes (range_with_len 0 (length all)) (map (λ (aggregate : Aggr). aggregate.function) numbers) (arguments_on numbers other)))
      (classes_over-alike all aggregates within form w o p s)
